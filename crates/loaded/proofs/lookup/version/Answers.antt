-- `loaded::lookup::version`: what stands under the number of the version, by the law of look-ups.
use mathlib.Core.Path.{refl, sym, ◌∙◌}
use mathlib.Core.Logic.{inl, inr}
use borrow.Author.Tests.{eq-eqb, ne_eqb}
use Rattle.loaded.specs.Loaded.{numbered_in}
use Rattle.loaded.specs.Answers.{version_of}
use Rattle.loaded.proofs.Finding.{outside, within}
use Rattle.loaded.proofs.lookup.version.Goals as goal

pub returns-then-f-ge32 : goal.returns-then-f-ge32
unfolding version_of
returns-then-f-ge32 c = λ s. sym (outside s _ _ _ (inl c.if-f-ge32.true))

pub returns-then-w-ge4 : goal.returns-then-w-ge4
unfolding version_of
returns-then-w-ge4 c = λ s. sym (outside s _ _ _ (inr c.if-w-ge4.true))

pub returns-then-entry-eq0 : goal.returns-then-entry-eq0
unfolding version_of numbered_in
returns-then-entry-eq0 c = λ s. sym (within s _ _ _ c.if-f-ge32.false c.if-w-ge4.false ∙ rw (eq-eqb _ 0 (sym c.entry.ensures ∙ c.if-entry-eq0.true)) refl)

pub returns : goal.returns
unfolding version_of numbered_in
returns c = λ s. sym (within s _ _ _ c.if-f-ge32.false c.if-w-ge4.false ∙ rw
    (ne_eqb _ 0 (λ z. c.if-entry-eq0.false (c.entry.ensures ∙ z))) refl)
