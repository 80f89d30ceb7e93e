-- Lists of places: what a read, a write and a search make of a place inside and of one outside.
use Rattle.std.specs.Prelude.{Err, None, Ok, Some}
use mathlib.Core.Path.{◌≡◌, refl, sym, ◌∙◌}
use mathlib.Core.Bool.{Bool, true, false}
use mathlib.Core.List.{List, map, [], ◌∷◌}
use Prim.Native.Nat.{ℕ, ◌≤◌, ◌<◌}
use native.Mathlib.Omega.{arith}
use lib.ListN.{length, get_or, set, length-map}
use lib.Dec.{eqb}
use borrow.Author.Tests.{lt-ltb, le-ltb, eq-eqb, ne_eqb, eqb-true, eqb-false}
use Rattle.std.specs.List.{list_any}
use Rattle.layout.specs.Tests.{any}
use Rattle.layout.proofs.Lists.{get_none, get-some}
use Rattle.machine.specs.Frames.{read_of, written_of, holds, is_it, is_empty, is_integer}
use Rattle.machine.specs.States.{is_vector, is_promise}
use Rattle.machine.specs.contracts.ValuePartialEq.TheImpl.{ghosts}
use Rattle.machine.specs.Try.{got, ◌>>=◌, ◌>>◌, at, put, or_stuck, stuck_unless}
use Rattle.machine.specs.declared.Frame.{Frame}
use Rattle.machine.specs.declared.Place.{Place}
use Rattle.machine.specs.declared.Value.{Value}

-- ---- look-ups and writes

-- an array of a struct, of which the length is known element by element
pub length-mapped : (X Y : Type 0) (f : X → Y) (l : List X) (n : ℕ) → length (map f l) ≡ n → length l ≡ n
length-mapped X Y f l n p = sym (length-map l f) ∙ p

-- of n places, the one at i
module _ (xs : List Place) (i n : ℕ) (sized : length xs ≡ n) where
  pub read-inside : (d : Place) → i < n → Some (get_or xs i d).value ≡ read_of (at xs i >>= λ (c : Place). got c.value)
  unfolding read_of at or_stuck ◌>>=◌
  read-inside d h = rw (get-some xs i d (omega arith))

  pub read-outside : n ≤ i → None ≡ read_of (at xs i >>= λ (c : Place). got c.value)
  unfolding read_of at or_stuck ◌>>=◌
  read-outside h = rw (get_none xs i (omega arith))

  -- `by` makes a frame of the places
  module _ (f : Frame) (by : List Place → Frame) (c : Place) where
    pub write-inside : i < n → Ok (by (set xs i c)) ≡ written_of f (put xs i c >>= λ (ys : List Place). got (by ys))
    unfolding written_of put stuck_unless ◌>>=◌ ◌>>◌
    write-inside h = rw (lt-ltb i (length xs) (omega arith))

    pub write-outside : n ≤ i → Err f ≡ written_of f (put xs i c >>= λ (ys : List Place). got (by ys))
    unfolding written_of put stuck_unless ◌>>=◌ ◌>>◌
    write-outside h = rw (le-ltb i (length xs) (omega arith))

-- ---- searches

-- a test of two numbers reads the same from either side
pub eqb-back : (a b : ℕ) → eqb a b ≡ eqb b a
eqb-back a b = go (eqb a b) refl
  where
    go : (t : Bool) → eqb a b ≡ t → eqb a b ≡ eqb b a
    go true e = e ∙ sym (eq-eqb b a (sym (eqb-true a b e)))
    go false e = e ∙ sym (ne_eqb b a (λ x. eqb-false a b e (sym x)))

-- the derived test of values is the definition's
same-value : (v w : Value) → ghosts.eq w v ≡ is_it v w
unfolding is_empty is_integer is_vector is_promise
same-value Value.Empty Value.Empty = refl
same-value Value.Empty (Value.Integer y) = refl
same-value Value.Empty (Value.Vector y) = refl
same-value Value.Empty (Value.Promise y) = refl
same-value (Value.Integer z) Value.Empty = refl
same-value (Value.Integer z) (Value.Integer y) = refl
same-value (Value.Integer z) (Value.Vector y) = refl
same-value (Value.Integer z) (Value.Promise y) = refl
same-value (Value.Vector z) Value.Empty = refl
same-value (Value.Vector z) (Value.Integer y) = refl
same-value (Value.Vector z) (Value.Vector y) = eqb-back y z
same-value (Value.Vector z) (Value.Promise y) = refl
same-value (Value.Promise z) Value.Empty = refl
same-value (Value.Promise z) (Value.Integer y) = refl
same-value (Value.Promise z) (Value.Vector y) = refl
same-value (Value.Promise z) (Value.Promise y) = eqb-back y z

-- a search for a value is the definition's
pub searched : (v : Value) (xs : List Place) → list_any (λ (c : Place). ghosts.eq c.value v) xs ≡ holds (is_it v) xs
unfolding any
searched v [] = refl
searched v (c ∷ xs) = rw (same-value v c.value, searched v xs)
