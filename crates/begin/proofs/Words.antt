-- The argument that begins some words.
use Rattle.std.specs.Prelude.{None, Some, Option as Optional}
use mathlib.Core.Path.{◌≡◌, refl, sym, ap, ◌∙◌}
use mathlib.Core.List.{List, [], ◌∷◌}
use mathlib.Core.Option.{Option, bind, none, some}
use mathlib.Core.Bool.{Bool, true, false, cond, ◌&&◌, true≢false}
use Prim.Native.Nat.{ℕ, zero, suc, ◌+◌, ◌-◌, ◌≤◌, ◌<◌}
use native.Mathlib.Omega.{arith}
use lib.IntN.{ℤ, pos, negsuc, nat_abs}
use lib.ListN.{length, get_or, take, drop, length-drop}
use lib.Seq.{length-take-le, drop-cons, get_or-drop}
use lib.Dec.{T, leb}
use lib.Signed.{lt_z, non_neg}
use borrow.Author.Tests.{le-leb, lt-leb, leb-true, ltb-true}
use mir.Syntax.{w64}
use mir.Val.{Fits, SFits, to_z, of_z}
use mir.Facts.{to_z-of_z, Fits-nat_abs}
use Rattle.machine.specs.States.{ITEMS}
use Rattle.machine.specs.Begin.{Given, integer, vector, matched}
use Rattle.machine.specs.Begin as begins
use Rattle.rules.specs.Types.{kind_of, within}
use Rattle.begin.specs.Arguments.{argument_of, kind}
use Rattle.begin.specs.declared.Argument.{Argument}

-- ---- from the first word

-- the argument that the word z begins, with the words r behind it
abbrev from : ℤ → List ℤ → Optional Argument
from z r = argument_of (begins.first (z ∷ r))

pub no_words : None ≡ argument_of (begins.first [])
unfolding argument_of begins.first
no_words = refl

-- a number that is not below 0
from_zero : (z : ℤ) → lt_z z (pos 0) ≡ false → T (non_neg z)
from_zero (pos n) h = tt
from_zero (negsuc n) h = absurd (true≢false h)

-- a word that is not below 0 is a vector's length
from-length : (n : ℕ) (r : List ℤ) → from (pos n) r ≡ cond (leb n ITEMS && leb n (length r)) (Some (Argument.Vector (length (take n r)))) None
unfolding argument_of begins.first
from-length n r = go (leb n ITEMS && leb n (length r))
  where
    go : (b : Bool) → argument_of (elim b [ true ↦ some (vector (take n r), drop n r) | false ↦ none ]) ≡ cond b (Some (Argument.Vector (length (take n r)))) None
    go true = refl
    go false = refl

module _ (z : ℤ) (r : List ℤ) where
  lone : z ≡ negsuc 0 → length r ≡ 0 → None ≡ from z r
  unfolding argument_of begins.first
  lone e h = rw e (go r h)
    where
      go : (l : List ℤ) → length l ≡ 0 → None ≡ from (negsuc 0) l
      go [] k = refl
      go (x ∷ l) k = absurd (omega arith)

  one : z ≡ negsuc 0 → (length r ≡ 0 → ⊥) → Some (Argument.Integer (get_or r 0 (pos 0))) ≡ from z r
  unfolding argument_of begins.first
  one e h = rw e (go r h)
    where
      go : (l : List ℤ) → (length l ≡ 0 → ⊥) → Some (Argument.Integer (get_or l 0 (pos 0))) ≡ from (negsuc 0) l
      go [] k = absurd (k refl)
      go (x ∷ l) k = refl

  below : (z ≡ negsuc 0 → ⊥) → lt_z z (pos 0) ≡ true → None ≡ from z r
  unfolding argument_of begins.first
  below e h = go z e h
    where
      go : (y : ℤ) → (y ≡ negsuc 0 → ⊥) → lt_z y (pos 0) ≡ true → None ≡ from y r
      go (pos n) f k = let h : n < 0 = ltb-true n 0 k in absurd (omega arith)
      go (negsuc zero) f k = absurd (f refl)
      go (negsuc (suc n)) f k = refl

  many : lt_z z (pos 0) ≡ false → ITEMS < nat_abs z → None ≡ from z r
  many e h = go z e h
    where
      go : (y : ℤ) → lt_z y (pos 0) ≡ false → ITEMS < nat_abs y → None ≡ from y r
      go (pos n) f k = rw (from-length n r, lt-leb n ITEMS k) refl
      go (negsuc n) f k = absurd (true≢false f)

  short : lt_z z (pos 0) ≡ false → nat_abs z ≤ ITEMS → length r < nat_abs z → None ≡ from z r
  short e m h = go z e m h
    where
      go : (y : ℤ) → lt_z y (pos 0) ≡ false → nat_abs y ≤ ITEMS → length r < nat_abs y → None ≡ from y r
      go (pos n) f l k = rw (from-length n r, le-leb n ITEMS l, lt-leb n (length r) k) refl
      go (negsuc n) f l k = absurd (true≢false f)

  items : lt_z z (pos 0) ≡ false → nat_abs z ≤ ITEMS → nat_abs z ≤ length r → Some (Argument.Vector (nat_abs z)) ≡ from z r
  items e m h = go z e m h
    where
      go : (y : ℤ) → lt_z y (pos 0) ≡ false → nat_abs y ≤ ITEMS → nat_abs y ≤ length r → Some (Argument.Vector (nat_abs y)) ≡ from y r
      go (pos n) f l k = rw (from-length n r, le-leb n ITEMS l, le-leb n (length r) k) (ap (λ x. Some (Argument.Vector x)) (sym (length-take-le n r k)))
      go (negsuc n) f l k = absurd (true≢false f)

-- ---- at the word p

module _ (ws : List ℤ) (p : ℕ) (inside : p < length ws) (fits : SFits w64 (get_or ws p (pos 0))) where
  -- the word, as it is read
  abbrev word : ℤ
  word = to_z w64 (of_z w64 (get_or ws p (pos 0)))

  -- how many are behind it
  abbrev behind : ℕ
  behind = length ws - p - 1

  begins-at : drop p ws ≡ word ∷ drop (suc p) ws
  begins-at = drop-cons ws p (pos 0) inside ∙ ap (λ (z : ℤ). z ∷ drop (suc p) ws) (sym (to_z-of_z fits))

  behind-at : length (drop (suc p) ws) ≡ behind
  behind-at = omega (arith, length-drop (suc p) ws)

  minus-at : of_z w64 (get_or ws p (pos 0)) ≡ 18446744073709551615 → word ≡ negsuc 0
  minus-at e = ap (to_z w64) e

  pub lone-at : of_z w64 (get_or ws p (pos 0)) ≡ 18446744073709551615 → behind ≡ 0 → None ≡ argument_of (begins.first (drop p ws))
  lone-at e h = rw begins-at (lone word (drop (suc p) ws) (minus-at e) (behind-at ∙ h))

  pub one_at : of_z w64 (get_or ws p (pos 0)) ≡ 18446744073709551615 → (behind ≡ 0 → ⊥) → Some (Argument.Integer (get_or ws (p + 1) (pos 0))) ≡ argument_of (begins.first (drop p ws))
  one_at e h =
      let a : suc p + 0 ≡ p + 1 = omega arith in
      let g : get_or ws (p + 1) (pos 0) ≡ get_or (drop (suc p) ws) 0 (pos 0) = rw (← a) (sym (get_or-drop (suc p) ws 0 (pos 0))) in
      rw (begins-at, g) (one word (drop (suc p) ws) (minus-at e) (λ k. h (sym behind-at ∙ k)))

  pub below_at : (of_z w64 (get_or ws p (pos 0)) ≡ 18446744073709551615 → ⊥) → lt_z word (pos 0) ≡ true → None ≡ argument_of (begins.first (drop p ws))
  below_at e h = rw begins-at (below word (drop (suc p) ws) (λ k. e (ap (of_z w64) (sym (to_z-of_z fits) ∙ k))) h)

  -- the length that it is
  pub length_at : lt_z word (pos 0) ≡ false → T (non_neg word) × Fits w64 (nat_abs word)
  length_at h = (from_zero word h, Fits-nat_abs {w = w64} {z = word} tt (rw (to_z-of_z fits) fits))

  pub many-at : lt_z word (pos 0) ≡ false → ITEMS < nat_abs word → None ≡ argument_of (begins.first (drop p ws))
  many-at e h = rw begins-at (many word (drop (suc p) ws) e h)

  pub short-at : lt_z word (pos 0) ≡ false → nat_abs word ≤ ITEMS → behind < nat_abs word → None ≡ argument_of (begins.first (drop p ws))
  short-at e m h = rw begins-at (short word (drop (suc p) ws) e m (omega (arith, behind-at, h)))

  pub items_at : lt_z word (pos 0) ≡ false → nat_abs word ≤ ITEMS → nat_abs word ≤ behind → Some (Argument.Vector (nat_abs word)) ≡ argument_of (begins.first (drop p ws))
  items_at e m h = rw begins-at (items word (drop (suc p) ws) e m (omega (arith, behind-at, h)))

-- ---- from the answer

pub argument-nothing : (o : Option (Given × List ℤ)) → argument_of o ≡ None → o ≡ none
unfolding argument_of
argument-nothing none e = refl
argument-nothing (some (integer z, r)) e = let y : ◌≡◌ {A = ℕ} 0 1 = cc in absurd (omega arith)
argument-nothing (some (vector xs, r)) e = let y : ◌≡◌ {A = ℕ} 0 1 = cc in absurd (omega arith)

pub argument-integer : (o : Option (Given × List ℤ)) (z : ℤ) → argument_of o ≡ Some (Argument.Integer z) → (r : List ℤ) × (o ≡ some (integer z, r))
unfolding argument_of
argument-integer none z e = let y : ◌≡◌ {A = ℕ} 0 1 = cc in absurd (omega arith)
argument-integer (some (integer x, r)) z e = let y : x ≡ z = cc in (r, rw y refl)
argument-integer (some (vector xs, r)) z e = let y : ◌≡◌ {A = ℕ} 0 1 = cc in absurd (omega arith)

pub argument-vector : (o : Option (Given × List ℤ)) (n : ℕ) → argument_of o ≡ Some (Argument.Vector n) → (xs : List ℤ) × (r : List ℤ) × (o ≡ some (vector xs, r)) × (length xs ≡ n)
unfolding argument_of
argument-vector none n e = let y : ◌≡◌ {A = ℕ} 0 1 = cc in absurd (omega arith)
argument-vector (some (integer x, r)) n e = let y : ◌≡◌ {A = ℕ} 0 1 = cc in absurd (omega arith)
argument-vector (some (vector xs, r)) n e = let y : length xs ≡ n = cc in (xs, r, refl, y)

-- the words that an integer takes
pub first-integer : (ws : List ℤ) (z : ℤ) (r : List ℤ) → begins.first ws ≡ some (integer z, r) → (2 ≤ length ws) × (r ≡ drop 2 ws)
unfolding begins.first
first-integer [] z r e = let y : ◌≡◌ {A = ℕ} 0 1 = cc in absurd (omega arith)
first-integer (pos n ∷ ws) z r e = go (leb n ITEMS && leb n (length ws)) e
  where
    go : (b : Bool) → ◌≡◌ {A = Option (Given × List ℤ)} (elim b [ true ↦ some (vector (take n ws), drop n ws) | false ↦ none ]) (some (integer z, r)) → (2 ≤ suc (length ws)) × (r ≡ drop 1 ws)
    go true f =
        let g : ◌≡◌ {A = Given × List ℤ} (vector (take n ws), drop n ws) (integer z, r) = cc in
        let k : vector (take n ws) ≡ integer z = ap (λ (q : Given × List ℤ). q.0) g in
        let y : ◌≡◌ {A = ℕ} 0 1 = cc in absurd (omega arith)
    go false f = let y : ◌≡◌ {A = ℕ} 0 1 = cc in absurd (omega arith)
first-integer (negsuc zero ∷ []) z r e = let y : ◌≡◌ {A = ℕ} 0 1 = cc in absurd (omega arith)
first-integer (negsuc zero ∷ x ∷ ws) z r e =
    let g : ◌≡◌ {A = Given × List ℤ} (integer x, ws) (integer z, r) = cc in
    (omega arith, sym (ap (λ (q : Given × List ℤ). q.1) g))
first-integer (negsuc (suc n) ∷ ws) z r e = let y : ◌≡◌ {A = ℕ} 0 1 = cc in absurd (omega arith)

-- the words that a vector takes
pub record Taken (ws xs r : List ℤ) (n : ℕ) : Type 0 where
  pub few : n ≤ ITEMS
  pub room : suc n ≤ length ws
  pub are : xs ≡ take n (drop 1 ws)
  pub rest : r ≡ drop (suc n) ws

pub first-vector : (ws xs r : List ℤ) (n : ℕ) → length xs ≡ n → begins.first ws ≡ some (vector xs, r) → Taken ws xs r n
unfolding begins.first
first-vector [] xs r n l e = let y : ◌≡◌ {A = ℕ} 0 1 = cc in absurd (omega arith)
first-vector (pos m ∷ ws) xs r n l e = go (leb m ITEMS) (leb m (length ws)) refl refl e
  where
    go : (a b : Bool) → leb m ITEMS ≡ a → leb m (length ws) ≡ b → ◌≡◌ {A = Option (Given × List ℤ)} (elim (a && b) [ true ↦ some (vector (take m ws), drop m ws) | false ↦ none ]) (some (vector xs, r)) → Taken (pos m ∷ ws) xs r n
    go true true ea eb f =
        let g : ◌≡◌ {A = Given × List ℤ} (vector (take m ws), drop m ws) (vector xs, r) = cc in
        let v : vector (take m ws) ≡ vector xs = ap (λ (q : Given × List ℤ). q.0) g in
        let y : take m ws ≡ xs = cc in
        let u : drop m ws ≡ r = ap (λ (q : Given × List ℤ). q.1) g in
        let h : m ≤ length ws = leb-true m (length ws) eb in
        let k : m ≡ n = sym (length-take-le m ws h) ∙ ap length y ∙ l in
        record { few = omega (arith, leb-true m ITEMS ea, k); room = omega (arith, h, k); are = sym y ∙ rw k refl; rest = sym u ∙ rw k refl }
    go true false ea eb f = let y : ◌≡◌ {A = ℕ} 0 1 = cc in absurd (omega arith)
    go false b ea eb f = let y : ◌≡◌ {A = ℕ} 0 1 = cc in absurd (omega arith)
first-vector (negsuc zero ∷ []) xs r n l e = let y : ◌≡◌ {A = ℕ} 0 1 = cc in absurd (omega arith)
first-vector (negsuc zero ∷ x ∷ ws) xs r n l e =
    let g : ◌≡◌ {A = Given × List ℤ} (integer x, ws) (vector xs, r) = cc in
    let k : integer x ≡ vector xs = ap (λ (q : Given × List ℤ). q.0) g in
    let y : ◌≡◌ {A = ℕ} 0 1 = cc in absurd (omega arith)
first-vector (negsuc (suc m) ∷ ws) xs r n l e = let y : ◌≡◌ {A = ℕ} 0 1 = cc in absurd (omega arith)

-- ---- against a parameter

matched-when : (t : ℕ) (p : Given × List ℤ) → matched t p ≡ cond (within (begins.given_kind p.0) (kind_of t)) (some p) none
unfolding matched
matched-when t p = go (within (begins.given_kind p.0) (kind_of t))
  where
    go : (b : Bool) → ◌≡◌ {A = Option (Given × List ℤ)} (elim b [ true ↦ some p | false ↦ none ]) (cond b (some p) none)
    go true = refl
    go false = refl

pub matched-same : (t : ℕ) (o : Option (Given × List ℤ)) (q : Given × List ℤ) → bind o (matched t) ≡ some q → o ≡ some q
unfolding bind matched
matched-same t none q e = let y : ◌≡◌ {A = ℕ} 0 1 = cc in absurd (omega arith)
matched-same t (some p) q e = go (within (begins.given_kind p.0) (kind_of t)) e
  where
    go : (b : Bool) → ◌≡◌ {A = Option (Given × List ℤ)} (elim b [ true ↦ some p | false ↦ none ]) (some q) → some p ≡ some q
    go true f = f
    go false f = let y : ◌≡◌ {A = ℕ} 0 1 = cc in absurd (omega arith)

module _ (t : ℕ) (o : Option (Given × List ℤ)) where
  pub none-matches : argument_of o ≡ None → None ≡ argument_of (bind o (matched t))
  unfolding bind argument_of
  none-matches e = rw (argument-nothing o e) refl

  pub integer-matches : (z : ℤ) → argument_of o ≡ Some (Argument.Integer z) → within 2 (kind_of t) ≡ true → Some (Argument.Integer z) ≡ argument_of (bind o (matched t))
  unfolding bind argument_of begins.given_kind
  integer-matches z e h = let a = argument-integer o z e in rw (a.1, matched-when t (integer z, a.0), h) refl

  pub integer-fails : (z : ℤ) → argument_of o ≡ Some (Argument.Integer z) → within 2 (kind_of t) ≡ false → None ≡ argument_of (bind o (matched t))
  unfolding bind argument_of begins.given_kind
  integer-fails z e h = let a = argument-integer o z e in rw (a.1, matched-when t (integer z, a.0), h) refl

  pub vector-matches : (n : ℕ) → argument_of o ≡ Some (Argument.Vector n) → within 3 (kind_of t) ≡ true → Some (Argument.Vector n) ≡ argument_of (bind o (matched t))
  unfolding bind argument_of begins.given_kind
  vector-matches n e h = let v = argument-vector o n e in rw (v.2, matched-when t (vector v.0, v.1), h) (ap (λ x. Some (Argument.Vector x)) (sym v.3))

  pub vector-fails : (n : ℕ) → argument_of o ≡ Some (Argument.Vector n) → within 3 (kind_of t) ≡ false → None ≡ argument_of (bind o (matched t))
  unfolding bind argument_of begins.given_kind
  vector-fails n e h = let v = argument-vector o n e in rw (v.2, matched-when t (vector v.0, v.1), h) refl

  -- any argument
  pub argument-matches : (a : Argument) → argument_of o ≡ Some a → within (kind a) (kind_of t) ≡ true → Some a ≡ argument_of (bind o (matched t))
  unfolding kind
  argument-matches (Argument.Integer z) e h = integer-matches z e h
  argument-matches (Argument.Vector n) e h = vector-matches n e h

  pub argument-fails : (a : Argument) → argument_of o ≡ Some a → within (kind a) (kind_of t) ≡ false → None ≡ argument_of (bind o (matched t))
  unfolding kind
  argument-fails (Argument.Integer z) e h = integer-fails z e h
  argument-fails (Argument.Vector n) e h = vector-fails n e h
