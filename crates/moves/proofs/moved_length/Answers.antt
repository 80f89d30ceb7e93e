-- `moves::moved_length`: a literal has the other form's length, any other record its own.
use Rattle.layout.specs.Forms.{literal_kind}
use Rattle.layout.specs.Records.{kind_at}
use native.Mathlib.Omega.{arith}
use Rattle.layout.specs.Forms.{literal_length}
use mathlib.Core.Path.{◌≡◌, sym, ap, ◌∙◌}
use Rattle.moves.proofs.Parts.{literal-long, literal-room, plain-long}
use Rattle.moves.proofs.moved_length.Goals as goal

pub returns-then-kind_at-literal_kind : goal.returns-then-kind_at-literal_kind
returns-then-kind_at-literal_kind c =
    let k = sym c.kind_at.ensures ∙ c.if-kind_at-literal_kind.true ∙ c.literal_kind.ensures in
    let r = c.literal_length.ensures ∙ ap literal_length c.other_form.ensures in
    (r ∙ sym (literal-long c.requires k), omega (arith, r, literal-room c.requires k))

pub returns : goal.returns
returns c =
    let k : kind_at c.args.image.now c.args.p ≡ literal_kind c.args.form → ⊥ = λ e. c.if-kind_at-literal_kind.false (c.kind_at.ensures ∙ e ∙ sym c.literal_kind.ensures) in
    (c.size_at.ensures ∙ sym (plain-long c.requires k), omega (arith, c.size_at.ensures))
