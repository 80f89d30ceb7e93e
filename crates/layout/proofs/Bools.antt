-- Tests: what they say, and what `and`, `||` and look-ups say of their parts.
use mathlib.Core.Path.{◌≡◌, refl}
use mathlib.Core.Option.{Option, none, some}
use Prim.Native.Nat.{ℕ, ◌≤◌, ◌<◌}
use native.Mathlib.Omega.{arith}
use lib.Dec.{ltb}
use borrow.Author.Tests.{lt-ltb, le-ltb}
use mathlib.Core.Bool.{Bool, true, false, ◌||◌, false≢true}
use Rattle.layout.specs.Tests.{◌and◌, found}

pub and_both : (a b : Bool) → (a and b) ≡ true → (a ≡ true) × (b ≡ true)
unfolding ◌and◌
and_both true b h = (refl, h)
and_both false b h = absurd (false≢true h)

-- behind a test that passed, and behind one that failed
pub and-on : {a : Bool} (b : Bool) → a ≡ true → (a and b) ≡ b
unfolding ◌and◌
and-on b h = rw h

pub and-off : {a : Bool} (b : Bool) → a ≡ false → (a and b) ≡ false
unfolding ◌and◌
and-off b h = rw h

pub or-false : (b : Bool) → (b || false) ≡ b
or-false true = refl
or-false false = refl

pub and-true : (a : Bool) → (a and true) ≡ a
unfolding ◌and◌
and-true true = refl
and-true false = refl

-- a test of a number against a count, as the code has both
pub is_below : {x y n m : ℕ} → x ≡ y → n ≡ m → x < n → ltb y m ≡ true
is_below {x} {y} {n} {m} e f h = lt-ltb y m (omega arith)

pub is-above : {x y n m : ℕ} → x ≡ y → n ≡ m → n ≤ x → ltb y m ≡ false
is-above {x} {y} {n} {m} e f h = le-ltb y m (omega arith)

-- what was found passes, or nothing was
pub found_some : {A : Type 0} {o : Option A} {x : A} (p : A → Bool) → o ≡ some x → found o p ≡ p x
unfolding found
found_some p e = rw e

pub found_none : {A : Type 0} {o : Option A} (p : A → Bool) → o ≡ none → found o p ≡ false
unfolding found
found_none p e = rw e
