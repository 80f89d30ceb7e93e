-- `typing::question9::call_reflects`: a version that is looked up stands at its place.
use Prim.Native.Nat.{ℕ}
use Rattle.layout.proofs.Bools.{found_some, found_none}
use Rattle.layout.specs.Records.{choose}
use Rattle.program.proofs.Lookups.{version-found, version-missing}
use Rattle.program.specs.Program.{instr_by}
use Rattle.rules.specs.Effects.{reflective}
use lib.Dec.{eqb}
use mathlib.Core.Path.{sym, ap, ◌∙◌}
use Rattle.typing.proofs.question9.call_reflects.Goals as goal

pub returns-in_default : goal.returns-in_default
unfolding reflective instr_by choose
returns-in_default c =
    sym (found_none _ (rw (← c.field-f.ensures.0, ← c.field-w.ensures.0) (version-missing _ _ _ (sym c.version.ensures ∙ c.in_default.is))))

pub returns : goal.returns
unfolding reflective instr_by choose
returns c =
    ap (λ (n : ℕ). eqb n 1) c.mark.ensures.0
    ∙ sym (found_some _ (rw (c.field-f.ensures.0, c.field-w.ensures.0) at (version-found _ _ _ _ (sym c.version.ensures ∙ c.in-Some.is)).0))
