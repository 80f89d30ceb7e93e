-- `program::question7::block_named`: the result register, then the count of PROMs.
use Prim.Native.Nat.{ℕ}
use Rattle.layout.proofs.Bools.{and-on, and-off, is_below, is-above}
use Rattle.program.specs.Places.{block_at}
use Rattle.program.specs.Questions.{block_named}
use borrow.Author.Tests.{eq-eqb, ne_eqb}
use lib.Dec.{eqb}
use mathlib.Core.Path.{sym, ap, ◌∙◌}
use Rattle.program.proofs.question7.block_named.Goals as goal

pub returns-then-registers-field : goal.returns-then-registers-field
unfolding block_named block_at
returns-then-registers-field c =
    sym (and-off _ (is-above c.field.ensures.0 c.registers.ensures.0 c.if-registers-field.true))

pub returns-then-b-eq0 : goal.returns-then-b-eq0
unfolding block_named block_at
returns-then-b-eq0 c =
    sym (and-on _ (is_below c.field.ensures.0 c.registers.ensures.0 c.if-registers-field.false) ∙ rw (eq-eqb _ _ c.if-b-eq0.true))

pub returns-else-b-eq0 : goal.returns-else-b-eq0
unfolding block_named block_at
returns-else-b-eq0 c =
    ap (λ (n : ℕ). eqb n 1) c.count_namings.ensures ∙ sym (and-on _ (is_below c.field.ensures.0 c.registers.ensures.0 c.if-registers-field.false) ∙ rw (ne_eqb _ _ c.if-b-eq0.false))
