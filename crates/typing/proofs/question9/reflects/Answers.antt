-- `typing::question9::reflects`: one row for each kind that can be reflective.
use Prim.Native.Nat.{ℕ}
use Rattle.layout.specs.Records.{choose}
use Rattle.program.specs.Places.{instr_at}
use Rattle.program.specs.Program.{instr_by}
use Rattle.typing.proofs.Lines.{is-quiet}
use Rattle.rules.specs.Effects.{reflective}
use lib.Dec.{eqb}
use mathlib.Core.Path.{sym, ap, ◌∙◌}
use Rattle.typing.proofs.question9.reflects.Goals as goal

pub returns-in-30 : goal.returns-in-30
unfolding reflective instr_at instr_by choose
returns-in-30 c =
    ap (λ (n : ℕ). eqb n 5) c.kind_in.ensures ∙ simp (sym c.kind_at.ensures ∙ c.in-30.is)

pub returns-in-31 : goal.returns-in-31
unfolding reflective instr_at instr_by choose
returns-in-31 c =
    simp (sym c.kind_at.ensures ∙ c.in-31.is)

pub returns-in-32 : goal.returns-in-32
unfolding reflective instr_at instr_by choose
returns-in-32 c =
    simp (sym c.kind_at.ensures ∙ c.in-32.is)

pub returns-in-33 : goal.returns-in-33
unfolding instr_at
returns-in-33 c =
    c.call_reflects.ensures ∙ simp (sym c.kind_at.ensures ∙ c.in-33.is)

pub returns-in-34 : goal.returns-in-34
unfolding reflective instr_at instr_by choose
returns-in-34 c =
    ap (λ (n : ℕ). eqb n 1) c.field.ensures.0 ∙ simp (sym c.kind_at.ensures ∙ c.in-34.is)

pub returns-in_default : goal.returns-in_default
unfolding instr_at
returns-in_default c =
    sym (is-quiet _ _ _ _ (λ e. c.in_default.in_default-own.rest.0.0.0.0.1 (c.kind_at.ensures ∙ e)) (λ e. c.in_default.in_default-own.rest.0.0.0.1 (c.kind_at.ensures ∙ e)) (λ e. c.in_default.in_default-own.rest.0.0.1 (c.kind_at.ensures ∙ e)) (λ e. c.in_default.in_default-own.rest.0.1 (c.kind_at.ensures ∙ e)) (λ e. c.in_default.in_default-own.rest.1 (c.kind_at.ensures ∙ e)))
