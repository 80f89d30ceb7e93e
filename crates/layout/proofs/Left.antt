-- The laws of what an iterator along the records has left.
use Rattle.std.specs.Prelude.{List, [], ◌∷◌, ℕ, suc, map, cond, length, eqb, ltb, Bool, get_or}
use mathlib.Core.Path.{◌≡◌, refl, sym, ap, ◌∙◌}
use mathlib.Core.Bool.{true, false}
use Prim.Native.Nat.{◌+◌, ◌≤◌, ◌<◌}
use native.Mathlib.Omega.{arith}
use borrow.Author.Tests.{ne_eqb, ltb-true, ltb-false}
use Rattle.layout.specs.Records.{Rec, size_at, rec_at, rest}
use Rattle.layout.specs.Left.{spot, spots}
use Rattle.layout.specs.Scan.{Stands}
use Rattle.layout.specs.declared.records.Spot.{Spot}
use Rattle.layout.proofs.Walk.{rest_end, rest-cons, size_room}

pub spots-end : (s : List ℕ) (p : ℕ) → length s ≤ p → spots s p ≡ []
unfolding spots
spots-end s p h = ap (map spot) (rest_end s p h)

spots-cons : (s : List ℕ) (p : ℕ) → p < length s → spots s p ≡ spot (rec_at s p) ∷ map spot (cond (eqb (size_at s p) 0) [] (rest s (p + size_at s p)))
unfolding spots
spots-cons s p h = ap (map spot) (rest-cons s p h)

-- what is no whole record is the last
pub spots-broken : (s : List ℕ) (p n q : ℕ) → p < length s → n ≡ size_at s p → n ≡ 0 → length s ≤ q → spots s p ≡ record { at = p; size = n } ∷ spots s q
spots-broken s p n q h e z o = simp (spots-cons s p h, spots-end s q o, sym e, z)

-- a whole record, and those behind it
pub spots-whole : (s : List ℕ) (p n : ℕ) → p < length s → n ≡ size_at s p → (n ≡ 0 → ⊥) → spots s p ≡ record { at = p; size = n } ∷ spots s (p + n)
unfolding spots
spots-whole s p n h e z = simp (spots-cons s p h, sym e, ne_eqb n 0 z)

-- An iterator that had the records from q on left has given x, which stands at q, and has xs left.
pub record Given (s : List ℕ) (q : ℕ) (x : Spot) (xs : List Spot) : Type 0 where
  pub at : q ≡ x.at
  pub inside : x.at < length s
  pub size : x.size ≡ size_at s x.at
  pub whole : (x.size ≡ 0 → ⊥) → xs ≡ spots s (x.at + x.size)

behind_first : List Spot → List Spot
behind_first [] = []
behind_first (x ∷ xs) = xs

-- a list by its first element and the others
module _ (s : List ℕ) (q : ℕ) {x : Spot} {xs : List Spot} (e : spots s q ≡ x ∷ xs) where
  given-inside : q < length s
  given-inside = go (ltb q (length s)) refl
    where
      go : (b : Bool) → ltb q (length s) ≡ b → q < length s
      go true f = ltb-true q (length s) f
      go false f = let z : ◌≡◌ {A = ℕ} 0 (suc (length xs)) = ap length (sym (spots-end s q (ltb-false q (length s) f)) ∙ e) in absurd (omega (arith, z))

  given-both : spot (rec_at s q) ∷ map spot (cond (eqb (size_at s q) 0) [] (rest s (q + size_at s q))) ≡ x ∷ xs
  given-both = sym (spots-cons s q given-inside) ∙ e

  given-first : x ≡ spot (rec_at s q)
  given-first = sym (ap (λ (l : List Spot). get_or l 0 x) given-both)

  given-others : xs ≡ map spot (cond (eqb (size_at s q) 0) [] (rest s (q + size_at s q)))
  unfolding behind_first
  given-others = sym (ap behind_first given-both)

  given-at : q ≡ x.at
  given-at = sym (ap (λ (y : Spot). y.at) given-first)

  given-size : x.size ≡ size_at s q
  given-size = ap (λ (y : Spot). y.size) given-first

  given-whole : (x.size ≡ 0 → ⊥) → xs ≡ spots s (q + x.size)
  unfolding spots
  given-whole z = given-others ∙ ap (λ b. map spot (cond b [] (rest s (q + size_at s q)))) (ne_eqb (size_at s q) 0 (λ y. z (given-size ∙ y))) ∙ ap (λ n. map spot (rest s (q + n))) (sym given-size)

  pub given : Given s q x xs
  given = record { at = given-at; inside = rw given-at at given-inside; size = rw given-at at given-size; whole = λ z. rw given-at at (given-whole z) }

-- nothing is left past the end alone
pub exhausted : (s : List ℕ) (q : ℕ) → spots s q ≡ [] → length s ≤ q
exhausted s q e = go (ltb q (length s)) refl
  where
    go : (b : Bool) → ltb q (length s) ≡ b → length s ≤ q
    go true f = let z : ◌≡◌ {A = ℕ} 0 (suc (length (map spot (cond (eqb (size_at s q) 0) [] (rest s (q + size_at s q)))))) = ap length (sym e ∙ spots-cons s q (ltb-true q (length s) f)) in absurd (omega (arith, z))
    go false f = ltb-false q (length s) f

-- what it has given stands there
pub stands : {s : List ℕ} {q : ℕ} {x : Spot} {xs : List Spot} → Given s q x xs → (x.size ≡ 0 → ⊥) → Stands s x
stands g z = record { inside = g.inside; size = g.size; whole = z }
