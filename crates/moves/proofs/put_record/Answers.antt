-- `moves::put_record`: a literal anew, any other record byte by byte.
use Prim.Native.Nat.{◌+◌, ◌-◌}
use native.Mathlib.Omega.{arith}
use mathlib.Core.Path.{◌≡◌, sym, ◌∙◌}
use Rattle.layout.specs.Forms.{literal_kind}
use Rattle.layout.specs.Records.{kind_at}
use Rattle.layout.proofs.Walk.{size_in}
use Rattle.moves.proofs.Parts.{plain-put, plain-long}
use Rattle.moves.proofs.put_record.Goals as goal

pub put_literal-requires : goal.put_literal-requires
put_literal-requires c =
    record {
      stands = c.requires.stands;
      p_value = sym c.kind_at.ensures ∙ c.if-kind_at-literal_kind.true ∙ c.literal_kind.ensures;
      p_in_bounds = c.requires.p_in_bounds;
    }

pub overflow_add-p : goal.overflow_add-p
overflow_add-p c =
    omega (arith, size_in _ _ c.size_at-n.ensures (λ z. c.requires.stands.whole (sym c.size_at-n.ensures ∙ z)))

pub slice_bounds-put_bytes-end : goal.slice_bounds-put_bytes-end
slice_bounds-put_bytes-end c =
    omega (arith, size_in _ _ c.size_at-n.ensures (λ z. c.requires.stands.whole (sym c.size_at-n.ensures ∙ z)))

pub overflow_add-result : goal.overflow_add-result
overflow_add-result c =
    let k : kind_at c.args.image.now c.args.p ≡ literal_kind c.args.form → ⊥ = λ e. c.if-kind_at-literal_kind.false (c.kind_at.ensures ∙ e ∙ sym c.literal_kind.ensures) in
    omega (arith, c.requires.p_in_bounds, plain-long c.requires.stands k, c.size_at-n.ensures)

pub returns : goal.returns
returns c =
    let k : kind_at c.args.image.now c.args.p ≡ literal_kind c.args.form → ⊥ = λ e. c.if-kind_at-literal_kind.false (c.kind_at.ensures ∙ e ∙ sym c.literal_kind.ensures) in
    plain-put c.args.out.now c.args.at c.size_at-n.result (c.args.p + c.size_at-n.result - c.args.p) c.requires.stands k c.size_at-n.ensures
    (omega arith) c.put_bytes.ensures
