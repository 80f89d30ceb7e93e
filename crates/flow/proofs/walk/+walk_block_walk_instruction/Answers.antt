use Rattle.std.specs.Prelude.{None}
use Rattle.flow.proofs.Blocks.{no_block, begins, meets, ends, map-length, then-both, came-here, put-away, still-free, stands, reading-one, enters_none, enters_below, enters-block, past-below}
use Rattle.flow.specs.Masks.{flowed}
use Rattle.layout.proofs.Walk.{size_in}
use Rattle.sets.specs.Sets.{only}
use lib.ListN.{length-set}
use mathlib.Core.List.{map}
use mathlib.Core.Path.{refl, sym, ap, ◌∙◌}
use native.Mathlib.Omega.{arith}
use Rattle.flow.proofs.walk.+walk_block_walk_instruction.Goals as goal

pub walk_block-returns-in_default : goal.walk_block-returns-in_default
unfolding flowed
walk_block-returns-in_default t c =
    no_block _ _ _ (sym c.block.ensures ∙ c.in_default.is)

pub walk_block-overflow_add-p : goal.walk_block-overflow_add-p
walk_block-overflow_add-p t c =
    omega (arith, past-below _ _ 18446744073709551616 c.size_at.ensures (omega (arith, c.in-Some.known_told-1-own.given)) (omega arith))

pub walk_block-loop-at-init : goal.walk_block-loop-at-init
unfolding flowed
walk_block-loop-at-init t c =
    (begins _ _ _ _ (sym c.block.ensures ∙ c.in-Some.is) c.size_at.ensures c.lines-count.ensures.0 c.lines-count.ensures.1, refl, refl, omega arith)

pub walk_block-bounds-taken-at : goal.walk_block-bounds-taken-at
walk_block-bounds-taken-at t c =
    c.place-at.ensures.1

pub walk_block-walk_instruction-requires : goal.walk_block-walk_instruction-requires
walk_block-walk_instruction-requires t c =
    (omega arith, c.requires)

pub walk_block-bounds-taken-t : goal.walk_block-bounds-taken-t
walk_block-bounds-taken-t t c =
    c.target-t.ensures.1

pub walk_block-bounds-taken-t-in-loop-at : goal.walk_block-bounds-taken-t-in-loop-at
walk_block-bounds-taken-t-in-loop-at t c =
    c.target-t.ensures.1

pub walk_block-overflow_add-p-in-loop-at : goal.walk_block-overflow_add-p-in-loop-at
walk_block-overflow_add-p-in-loop-at t c =
    let h = stands _ _ (sym c.is_line.ensures ∙ c.loop-at-test.true) in let z = size_in _ _ c.size_at-p.ensures (λ z. h.whole (sym c.size_at-p.ensures ∙ z)) in omega
    (arith, z)

pub walk_block-overflow_add-i : goal.walk_block-overflow_add-i
walk_block-overflow_add-i t c =
    let h = stands _ _ (sym c.is_line.ensures ∙ c.loop-at-test.true) in let z = size_in _ _ c.size_at-p.ensures (λ z. h.whole (sym c.size_at-p.ensures ∙ z)) in omega
    (arith, z, c.loop-at.invariant.3)

pub walk_block-loop-at-smaller : goal.walk_block-loop-at-smaller
walk_block-loop-at-smaller t c =
    let h = stands _ _ (sym c.is_line.ensures ∙ c.loop-at-test.true) in let z = size_in _ _ c.size_at-p.ensures (λ z. h.whole (sym c.size_at-p.ensures ∙ z)) in omega
    (arith, z)

pub walk_block-loop-at-preserved : goal.walk_block-loop-at-preserved
walk_block-loop-at-preserved t c =
    let h = stands _ _ (sym c.is_line.ensures ∙ c.loop-at-test.true) in let z = size_in _ _ c.size_at-p.ensures (λ z. h.whole (sym c.size_at-p.ensures ∙ z)) in (
      c.loop-at.invariant.0
          ∙ meets _ _ _ _ _ _ _ _ (map flowed c.loop-at.taken)
          (omega (arith, map-length c.loop-at.taken, c.loop-at.invariant.1))
          c.lines-count.ensures.1 _ h c.skip_at-skip.ensures
          (c.chain-now.ensures
          ∙ then-both _ _ _ _ (c.join.ensures
          ∙ came-here c.loop-at.taken None _ _ c.loop-at.invariant.1
          c.lines-count.ensures.1 c.loop-at.done _
          c.loop-at.invariant.2 c.place-at.ensures.0 c.place-at.ensures.1)
          c.walk_instruction.ensures)
          c.goes_on-done.ensures
          (put-away c.loop-at.taken None _ _ c.loop-at.invariant.1
          c.lines-count.ensures.1 _ _ c.chain-now.result c.join-new.result c.target-t.ensures.0 c.target-t.ensures.1 _ c.join-new.ensures)
          c.size_at-p.ensures,
      length-set c.loop-at.taken c.target-t.result c.join-new.result ∙ c.loop-at.invariant.1,
      still-free c.loop-at.taken None _ _ c.loop-at.invariant.1
          c.lines-count.ensures.1 _ _ c.chain-now.result c.join-new.result c.target-t.ensures.0 c.target-t.ensures.1
          c.loop-at.invariant.2,
      omega (arith, z, c.loop-at.invariant.3),
    )

pub walk_block-bounds-taken-last : goal.walk_block-bounds-taken-last
walk_block-bounds-taken-last t c =
    c.place-last.ensures.1

pub walk_block-returns : goal.walk_block-returns
walk_block-returns t c =
    ends _ _ _ _ _ _ _ _ (map flowed c.loop-at.taken) (omega (arith, map-length c.loop-at.taken, c.loop-at.invariant.1))
    c.lines-count.ensures.1 (sym c.is_line.ensures ∙ c.loop-at-test.false)
    (c.chain.ensures ∙ then-both _ _ _ _
    (c.join-2.ensures
    ∙ came-here c.loop-at.taken None _ _ c.loop-at.invariant.1 c.lines-count.ensures.1
    c.loop-at.done _ c.loop-at.invariant.2 c.place-last.ensures.0 c.place-last.ensures.1)
    (c.reading.ensures ∙ reading-one _ _ (c.only.ensures ∙ ap (only 16) c.field.ensures.0)))
    ∙ sym c.loop-at.invariant.0

pub walk_instruction-returns-then-kind_at-ne-PROM : goal.walk_instruction-returns-then-kind_at-ne-PROM
unfolding flowed
walk_instruction-returns-then-kind_at-ne-PROM t c =
    c.instruction.ensures ∙ enters_none _ _ _ _ c.kind_at.ensures c.if-kind_at-ne-PROM.true

pub walk_instruction-returns-then-block-b : goal.walk_instruction-returns-then-block-b
unfolding flowed
walk_instruction-returns-then-block-b t c =
    c.instruction-then-block-b.ensures ∙ enters_below _ _ _ _ c.kind_at.ensures c.field-block.ensures.0 c.if-block-b.true

pub walk_instruction-walk_block-requires : goal.walk_instruction-walk_block-requires
walk_instruction-walk_block-requires t c =
    (omega arith, c.requires)

pub walk_instruction-returns : goal.walk_instruction-returns
walk_instruction-returns t c =
    c.instruction-2.ensures ∙ enters-block _ _ _ _ c.kind_at.ensures c.field-block.ensures.0 _ c.if-block-b.false c.walk_block.ensures
