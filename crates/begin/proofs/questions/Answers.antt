-- `begin::questions`: 11, by the look-up.
use mathlib.Core.Logic.{inl, inr}
use Rattle.loaded.proofs.Finding.{outside}
use Rattle.begin.proofs.Answers.{no-entry, entry-missing, entry_found}
use Rattle.begin.proofs.questions.Goals as goal

pub returns-then-at-ge-FUNCTIONS : goal.returns-then-at-ge-FUNCTIONS
returns-then-at-ge-FUNCTIONS c =
    no-entry _ _ _ _ _ (outside _ _ _ _ (inl c.if-at-ge-FUNCTIONS.true))

pub returns-then-at-ge-VERSIONS : goal.returns-then-at-ge-VERSIONS
returns-then-at-ge-VERSIONS c =
    no-entry _ _ _ _ _ (outside _ _ _ _ (inr c.if-at-ge-VERSIONS.true))

pub returns-in_default : goal.returns-in_default
returns-in_default c =
    entry-missing _ _ _ _ _ (c.version.ensures _) c.in_default.is

pub returns : goal.returns
returns c =
    entry_found _ _ _ _ _ (c.version.ensures _) _ c.in-Some.is c.if-at-ge-FUNCTIONS.false c.if-at-ge-VERSIONS.false _ c.allowed.ensures
