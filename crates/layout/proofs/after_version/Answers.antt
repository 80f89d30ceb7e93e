-- `layout::after_version`: a VERSION, where nothing is due and there are not too many.
use mathlib.Core.Path.{refl, sym, ◌∙◌}
use Rattle.layout.proofs.Bools.{and-on, and-off}
use borrow.Author.Tests.{lt-ltb, le-ltb, not-true, not-false}
use Rattle.layout.proofs.after_version.Goals as goal

pub returns-then-due-ge-ALL_VERSIONS : goal.returns-then-due-ge-ALL_VERSIONS
returns-then-due-ge-ALL_VERSIONS c =
    rw (and-off _ (le-ltb _ _ c.if-due-ge-ALL_VERSIONS.true)) refl

pub returns-then-not-is_idle : goal.returns-then-not-is_idle
returns-then-not-is_idle c =
    rw (and-on _ (lt-ltb _ _ c.if-due-ge-ALL_VERSIONS.false) ∙ sym c.is_idle.ensures ∙ c.if-not-is_idle.true) refl

pub returns : goal.returns
returns c =
    rw (and-on _ (lt-ltb _ _ c.if-due-ge-ALL_VERSIONS.false) ∙ sym c.is_idle.ensures ∙ c.if-not-is_idle.false, c.field.ensures.0) refl
