-- `changes::same_in`: by the places of the version in both images.
use Rattle.changes.specs.Parts.{end_from, end_at, part_at}
use Rattle.machine.proofs.Changes.{stays_at, not-in-old, not-in-new}
use Rattle.program.proofs.Lookups.{version-found}
use mathlib.Core.Path.{sym, ◌∙◌}
use native.Mathlib.Omega.{arith}
use Rattle.changes.proofs.same_in.Goals as goal

pub returns-in_default : goal.returns-in_default
returns-in_default c =
    sym (not-in-old _ _ _ _ (sym c.version.ensures ∙ c.in_default.is))

pub returns-in_default-version : goal.returns-in_default-version
returns-in_default-version c =
    let before = sym c.version.ensures ∙ c.in-Some.is in
    let after = sym c.version-2.ensures ∙ c.in_default-version.is in
    sym (not-in-new _ _ _ _ _ before after)

pub same_version-requires : goal.same_version-requires
same_version-requires c =
    let before = sym c.version.ensures ∙ c.in-Some.is in
    let after = sym c.version-2.ensures ∙ c.in-Some-version.is in
    (omega (arith, (version-found _ _ _ _ before).1), omega (arith, (version-found _ _ _ _ after).1))

pub returns : goal.returns
unfolding part_at end_at end_from
returns c =
    let before = sym c.version.ensures ∙ c.in-Some.is in
    let after = sym c.version-2.ensures ∙ c.in-Some-version.is in
    c.same_version.ensures ∙ sym (stays_at _ _ _ _ _ _ before after)
