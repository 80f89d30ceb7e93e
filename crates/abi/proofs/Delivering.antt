-- The items of a result, laid over a lent buffer.
use mathlib.Core.Path.{◌≡◌, refl, sym, ap, ◌∙◌}
use mathlib.Core.List.{List, [], ◌∷◌}
use mathlib.Core.Bool.{Bool, cond, true, false}
use Prim.Native.Nat.{ℕ, zero, suc, ◌+◌, ◌≤◌, ◌<◌}
use native.Mathlib.Nat.{le_of_suc-le-suc, not-suc-le-zero}
use native.Mathlib.Numerals.{add-one}
use native.Mathlib.Omega.{arith}
use lib.IntN.{ℤ, pos}
use lib.ListN.{length, take, set, get_or}
use lib.Seq.{take_all}
use lib.Dec.{eqb}
use borrow.Author.Tests.{ne_eqb}
use mir.Syntax.{w64}
use mir.Val.{SFits, to_z, of_z}
use mir.Facts.{to_z-of_z}
use Rattle.layout.specs.Records.{◌!◌}
use Rattle.machine.specs.States.{over}
use Rattle.machine.specs.Runs.{written}
use Rattle.machine.specs.declared.End.{End}
use Rattle.machine.specs.declared.Status.{Status}
use Rattle.machine.proofs.Overlays.{over-next}
use Rattle.store.specs.Store.{ENDING, STATUS, RESULT, ◌#◌, state_in, status_of}
use Rattle.store.proofs.Lists.{get_or-from, length_from}
use Rattle.abi.specs.Exits.{ended_by, items_in, result_in}

-- ---- a list laid over another

-- no items
pub over_none : {A : Type 0} (ys : List A) → ys ≡ over [] ys
unfolding over
over_none ys = refl

-- behind the last place nothing is stored
over-nowhere : {A : Type 0} (xs : List A) → over xs [] ≡ []
unfolding over
over-nowhere [] = refl
over-nowhere (x ∷ xs) = refl

over-full : {A : Type 0} (xs ys : List A) (j n : ℕ) → length ys ≤ j → j ≤ n → over (take j xs) ys ≡ over (take n xs) ys
unfolding over
over-full xs [] j n h g = over-nowhere (take j xs) ∙ sym (over-nowhere (take n xs))
over-full xs (y ∷ ys) zero n h g = absurd (not-suc-le-zero h)
over-full xs (y ∷ ys) (suc j) zero h g = absurd (not-suc-le-zero g)
over-full [] (y ∷ ys) (suc j) (suc n) h g = refl
over-full (x ∷ xs) (y ∷ ys) (suc j) (suc n) h g = ap (λ l. x ∷ l) (over-full xs ys j n (le_of_suc-le-suc h) (le_of_suc-le-suc g))

-- ---- the first j items are in the buffer

-- there are 16, and the item j stands among the numbers
result-length : (numbers : List ℤ) → length (result_in numbers) ≡ 16
unfolding result_in
result-length numbers = length_from (λ i. numbers # (RESULT + i)) 0 16

result-item : (numbers : List ℤ) (j : ℕ) → j < 16 → numbers # (RESULT + j) ≡ get_or (result_in numbers) j (pos 0)
unfolding result_in
result-item numbers j h = let e : 0 + j ≡ j = omega arith in sym (get_or-from (λ i. numbers # (RESULT + i)) 0 16 j (pos 0) h ∙ ap (λ m. numbers # (RESULT + m)) e)

module _ (numbers ys buffer : List ℤ) (j : ℕ) (there : buffer ≡ over (take j (result_in numbers)) ys) where
  -- the next one, as it is read
  pub there-next : SFits w64 (numbers # (RESULT + j)) → j < 16 → set buffer j (to_z w64 (of_z w64 (numbers # (RESULT + j)))) ≡ over (take (j + 1) (result_in numbers)) ys
  there-next f h =
      let g : j < length (result_in numbers) = rw (result-length numbers) h in
      (λ i. set (there i) j ((to_z-of_z f ∙ result-item numbers j h) i)) ∙ rw add-one (over-next (result_in numbers) ys j (pos 0) g)

  -- they are those asked for, as n is j
  pub there-enough : (n : ℕ) → j ≤ n → n ≤ j → buffer ≡ over (take n (result_in numbers)) ys
  there-enough n a b = let e : j ≡ n = omega arith in rw (← e) there

  -- or as there is no place for more
  pub there-full : (n : ℕ) → j ≤ n → length ys ≤ j → buffer ≡ over (take n (result_in numbers)) ys
  there-full n a b = there ∙ over-full (result_in numbers) ys j n b a

  -- or as there are no more
  pub there-all : (n : ℕ) → j ≤ n → 16 ≤ j → buffer ≡ over (take n (result_in numbers)) ys
  there-all n a b =
      let l : length (result_in numbers) ≡ 16 = result-length numbers in
      there ∙ rw (take_all j (result_in numbers) (omega (arith, l)), take_all n (result_in numbers) (omega (arith, l))) refl

-- ---- by the status

-- all ends but a vector
abbrev by : Bool → Bool → Bool → Bool → Bool → ℤ → Status
by a c d e g z = cond a Status.Running (cond c (Status.Ended (End.Integer z)) (cond d (Status.Ended End.Undef) (cond e (Status.Ended End.Deep) (cond g (Status.Ended End.Vectors) (Status.Ended End.Promises)))))

silent : (a c d e g : Bool) (z : ℤ) (xs : List ℤ) → written xs (ended_by (by a c d e g z)) ≡ []
unfolding ended_by written
silent true c d e g z xs = refl
silent false true d e g z xs = refl
silent false false true e g z xs = refl
silent false false false true g z xs = refl
silent false false false false true z xs = refl
silent false false false false false z xs = refl

-- by the number of a status: only 2 has items
no_items : (t l : ℕ) (z : ℤ) (xs : List ℤ) → (t ≡ 2 → ⊥) → written xs (ended_by (status_of t l z)) ≡ []
unfolding status_of ended_by written
no_items t l z xs f = rw (ne_eqb t 2 f) (silent (eqb t 0) (eqb t 1) (eqb t 3) (eqb t 4) (eqb t 5) z xs)

module _ (b : List ℕ) (numbers ys : List ℤ) where
  -- a run that is DONE with a vector has its items
  pub vector-delivered : b ! STATUS ≡ 2 → {zs : List ℤ} → zs ≡ over (take (b ! (STATUS + 1)) (result_in numbers)) ys → zs ≡ over (items_in (state_in b numbers)) ys
  unfolding items_in result_in state_in status_of ended_by written
  vector-delivered e h = rw e h

  -- every other run has none
  pub none-delivered : (b ! STATUS ≡ 2 → ⊥) → ys ≡ over (items_in (state_in b numbers)) ys
  unfolding items_in result_in state_in
  none-delivered f = rw (no_items (b ! STATUS) (b ! (STATUS + 1)) (numbers # ENDING) (result_in numbers) f) (over_none ys)
