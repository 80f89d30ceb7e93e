use Rattle.bounds.proofs.Filling.{filled-first, full-end, full-none, row-place, row-steps, filled_more}
use Prim.Native.Nat.{ℕ}
use lib.ListN.{length-replicate, get_or-replicate}
use mathlib.Core.Path.{◌≡◌, refl, ◌∙◌}
use native.Mathlib.Omega.{arith}
use Rattle.bounds.proofs.order.list_bounded.Goals as goal

pub loop-row-init : goal.loop-row-init
loop-row-init c =
    filled-first _ _ _ _ _ _ c.requires.0 c.requires.1 c.starts-places.ensures (length-replicate {A = ℕ} 128 0) (λ k h. get_or-replicate {A = ℕ} 128 k 0 0 h)

pub next_free-requires : goal.next_free-requires
next_free-requires c = c.loop-row.invariant.ready

pub returns-in_default : goal.returns-in_default
returns-in_default c =
    full-none c.loop-row.invariant c.next_free.ensures.0 c.in_default.is

pub offset_bounds-sums-k : goal.offset_bounds-sums-k
offset_bounds-sums-k c =
    omega (arith, row-place c.loop-row.invariant c.loop-row-test.true c.next_free.ensures.0 _ c.in-Some.is c.next_free.ensures.1 c.next_free.ensures.2)

pub bounds-sums-k : goal.bounds-sums-k
bounds-sums-k c =
    omega (
      arith,
      row-place c.loop-row.invariant c.loop-row-test.true c.next_free.ensures.0 _ c.in-Some.is c.next_free.ensures.1 c.next_free.ensures.2,
      c.next_free.ensures.1.summed,
    )

pub put_row-requires : goal.put_row-requires
put_row-requires c = (
  c.loop-row-test.true,
  row-place c.loop-row.invariant c.loop-row-test.true c.next_free.ensures.0 _
      c.in-Some.is c.next_free.ensures.1 c.next_free.ensures.2,
)

pub overflow_add-known : goal.overflow_add-known
overflow_add-known c =
    omega (
      arith,
      row-steps c.loop-row.invariant c.loop-row-test.true c.next_free.ensures.0 _ c.in-Some.is
          c.next_free.ensures.1 c.next_free.ensures.2,
    )

pub offset_bounds-known-k : goal.offset_bounds-known-k
offset_bounds-known-k c =
    omega (
      arith,
      row-place c.loop-row.invariant c.loop-row-test.true c.next_free.ensures.0 _ c.in-Some.is
          c.next_free.ensures.1 c.next_free.ensures.2,
    )

pub bounds-known-k : goal.bounds-known-k
bounds-known-k c =
    omega (
      arith,
      row-place c.loop-row.invariant c.loop-row-test.true c.next_free.ensures.0 _ c.in-Some.is
          c.next_free.ensures.1 c.next_free.ensures.2,
    )

pub loop-row-preserved : goal.loop-row-preserved
loop-row-preserved c =
    filled_more c.loop-row.invariant c.loop-row-test.true c.next_free.ensures.0 _ c.in-Some.is
    c.next_free.ensures.1 c.next_free.ensures.2 refl c.put_row.ensures

pub returns : goal.returns
returns c =
    let all = full-end c.loop-row.invariant c.loop-row-test.false in
    let end : 64 ≡ c.loop-row.row = omega (arith, c.loop-row.auto.row-end, c.loop-row-test.false) in
    (end ∙ all.0, all.1, all.2, all.3)
