-- What lies behind, counted on in two numbers.
use mathlib.Core.Path.{◌≡◌, refl, sym, ap, ◌∙◌}
use Prim.Native.Nat.{ℕ, zero, suc, ◌+◌, ◌≤◌, ◌<◌}
use native.Mathlib.Nat.{add-zero}
use native.Mathlib.Omega.{arith}
use borrow.Author.Tests.{eq-eqb, ne_eqb}
use Rattle.machine.specs.Trails.{REACH, behind_by, further}
use Rattle.machine.specs.declared.Behind.{Behind}
use Rattle.runs.proofs.Backs.{behind-further, past-reach}
use Rattle.trails.specs.Arrays.{Adds, behind_in}

-- while `past` is 0
pub within : (s p : ℕ) → p ≡ 0 → behind_in s p ≡ behind_by s
unfolding behind_in
within s p z = rw (eq-eqb p 0 z) refl

pub beyond : (s p : ℕ) → (p ≡ 0 → ⊥) → behind_in s p ≡ Behind.Past
unfolding behind_in
beyond s p h = rw (ne_eqb p 0 h) refl

-- the same on both sides
more : (s p m : ℕ) → p ≡ 0 → further (behind_in s p) m ≡ behind_by (s + m)
more s p m z = ap (λ (b : Behind). further b m) (within s p z) ∙ behind-further s m

-- the sum is counted
pub counts-on : (s p m n : ℕ) → p ≡ 0 → n ≡ s + m → n ≤ REACH → Adds s p m n p
counts-on s p m n z e l = record {
  behind = within n p z ∙ ap behind_by e ∙ sym (more s p m z);
  none = λ o. (omega (arith, e, o), refl);
  over = λ _ h. absurd (omega (arith, e, l, h));
  beyond = λ o. absurd (o z);
}

-- it is past what can be counted, where the count before was not
pub counts-over : (s p m n : ℕ) → p ≡ 0 → n ≡ s + m → s ≤ REACH → REACH < n → Adds s p m s 1
counts-over s p m n z e l h = record {
  behind = beyond s 1 (λ o. omega (arith, o)) ∙ sym (more s p m z ∙ ap behind_by (sym e) ∙ past-reach n h);
  none = λ o. absurd (omega (arith, e, o, l, h));
  over = λ _ _. (refl, refl);
  beyond = λ o. absurd (o z);
}

-- none is counted any more
pub counts-none : (s p m : ℕ) → (p ≡ 0 → ⊥) → Adds s p m s p
unfolding further
counts-none s p m h = record { behind = beyond s p h ∙ sym (ap (λ (b : Behind). further b m) (beyond s p h)); none = λ o. (refl, refl); over = λ z _. absurd (h z); beyond = λ _. (refl, refl) }

-- no step more
pub counts_zero : (s p : ℕ) → behind_in s p ≡ further (behind_in s p) 0
counts_zero s zero = within s 0 refl ∙ ap behind_by (sym (add-zero s)) ∙ sym (more s 0 0 refl)
counts_zero s (suc p) = (counts-none s (suc p) 0 (λ e. omega (arith, e))).behind
