-- `typing::question18::call_stays_down`: a version that is looked up stands at its place.
use Rattle.layout.proofs.Bools.{found_some, found_none}
use Rattle.layout.specs.Records.{choose}
use Rattle.program.proofs.Lookups.{version-found, version-missing}
use Rattle.program.specs.Program.{instr_by}
use Rattle.rules.specs.Questions.{stays_down}
use mathlib.Core.Path.{sym, ◌∙◌}
use Rattle.typing.proofs.question18.call_stays_down.Goals as goal

pub returns-in_default : goal.returns-in_default
unfolding stays_down instr_by choose
returns-in_default c =
    sym (found_none _ (rw (← c.field-f.ensures.0, ← c.field-w.ensures.0) (version-missing _ _ _ (sym c.version.ensures ∙ c.in_default.is))))

pub returns : goal.returns
unfolding stays_down instr_by choose
returns c =
    c.not_above.ensures ∙ sym (found_some _
    (rw (c.field-f.ensures.0, c.field-w.ensures.0) at (version-found _ _ _ _ (sym c.version.ensures ∙ c.in-Some.is)).0))
