-- The records as code that goes along the offsets meets them.
use Rattle.std.specs.Prelude.{Some}
use mathlib.Core.Path.{◌≡◌, refl, sym, ap, ◌∙◌}
use Rattle.layout.specs.Found.{Found}
use mathlib.Core.List.{List, [], ◌∷◌}
use mathlib.Core.Bool.{Bool, true, false, cond, ◌||◌}
use Prim.Native.Nat.{ℕ, zero, suc, ◌+◌, ◌-◌, ◌≤◌, ◌<◌}
use native.Mathlib.Nat.{add-zero}
use native.Mathlib.Omega.{arith}
use lib.ListN.{length, drop, length-drop, length-take, get_or-eq_default}
use lib.Seq.{drop-drop, get_or-drop, get_or-take}
use lib.Dec.{ltb, eqb}
use borrow.Author.Tests.{lt-ltb, le-ltb, ne_eqb, eqb-false, ltb-false}
use Rattle.layout.specs.Tests.{◌and◌}
use Rattle.layout.specs.Records.{Rec, ◌!◌, u16_at, size_of, rec_of, size_at, kind_at, body_at, rec_at, walk, rest}
use Rattle.layout.specs.Scan.{scan}

-- past the end there are no bytes
pub byte-outside : (s : List ℕ) (k : ℕ) → length s ≤ k → s ! k ≡ 0
byte-outside s k h = get_or-eq_default s 0 h

-- a walk with any fuel that is enough
walk-fuel : (f g p : ℕ) (t : List ℕ) → length t ≤ f → length t ≤ g → walk f p t ≡ walk g p t
unfolding walk
walk-fuel zero zero p t hf hg = refl
walk-fuel zero (suc g) p [] hf hg = refl
walk-fuel zero (suc g) p (b ∷ t) hf hg = absurd (omega arith)
walk-fuel (suc f) zero p [] hf hg = refl
walk-fuel (suc f) zero p (b ∷ t) hf hg = absurd (omega arith)
walk-fuel (suc f) (suc g) p [] hf hg = refl
walk-fuel (suc f) (suc g) p (b ∷ t) hf hg =
    go (size_of (b ∷ t)) (eqb (size_of (b ∷ t)) 0) refl (λ n h. walk-fuel f g (p + n) (drop n (b ∷ t)) (rw length-drop (omega arith)) (rw length-drop (omega arith)))
  where
    go : (n : ℕ) (z : Bool) → eqb n 0 ≡ z → ((m : ℕ) → 0 < m → walk f (p + m) (drop m (b ∷ t)) ≡ walk g (p + m) (drop m (b ∷ t)))
        → ◌≡◌ {A = List Rec} (rec_of p (b ∷ t) n ∷ cond z [] (walk f (p + n) (drop n (b ∷ t)))) (rec_of p (b ∷ t) n ∷ cond z [] (walk g (p + n) (drop n (b ∷ t))))
    go n true e ih = refl
    go n false e ih = ap (λ (l : List Rec). rec_of p (b ∷ t) n ∷ l) (ih n (omega (arith, eqb-false n 0 e)))

-- the records of bytes: the one there, and, where it is whole, those from its end on
walk-cons : (p : ℕ) (t : List ℕ) → 0 < length t → walk (length t) p t ≡ rec_of p t (size_of t) ∷ cond (eqb (size_of t) 0) [] (walk (length t) (p + size_of t) (drop (size_of t) t))
unfolding walk
walk-cons p [] h = absurd (omega arith)
walk-cons p (b ∷ t) h = walk-fuel (length (b ∷ t)) (suc (length (b ∷ t))) p (b ∷ t) (omega arith) (omega arith)

pub rest_end : (s : List ℕ) (p : ℕ) → length s ≤ p → rest s p ≡ []
unfolding rest walk
rest_end s p h = walk-fuel (length s - p) zero p (drop p s) (rw length-drop (omega arith)) (rw length-drop (omega arith))

pub rest-cons : (s : List ℕ) (p : ℕ) → p < length s → rest s p ≡ rec_at s p ∷ cond (eqb (size_at s p) 0) [] (rest s (p + size_at s p))
unfolding rest size_at kind_at body_at
rest-cons s p h =
    ap (λ (k : ℕ). walk k p (drop p s)) (sym (length-drop p s)) ∙ walk-cons p (drop p s) (rw length-drop (omega arith))
    ∙ ap (λ (l : List Rec). rec_at s p ∷ cond (eqb (size_at s p) 0) [] l) (tail (size_at s p))
  where
    tail : (n : ℕ) → walk (length (drop p s)) (p + n) (drop n (drop p s)) ≡ walk (length s - (p + n)) (p + n) (drop (p + n) s)
    tail n = ap (walk (length (drop p s)) (p + n)) (drop-drop n p s) ∙ walk-fuel (length (drop p s)) (length s - (p + n)) (p + n) (drop (p + n) s) (simp length-drop (omega arith)) (simp length-drop (omega arith))

-- the length of the record at p, by offsets
pub size-at : (s : List ℕ) (p : ℕ) → size_at s p ≡ cond (ltb (length s - p) 4 || ltb (u16_at s p) 4 || ltb (length s - p) (u16_at s p)) 0 (u16_at s p)
unfolding size_of size_at
size-at s p = simp (length-drop, get_or-drop, add-zero)

-- by its cases: the head is not full, the length is below 4, the record ends outside, or it is whole
pub no_room : (s : List ℕ) (p : ℕ) → length s - p < 4 → size_at s p ≡ 0
no_room s p h = size-at s p ∙ simp (lt-ltb (length s - p) 4 h)

pub broken-length : (s : List ℕ) (p : ℕ) → u16_at s p < 4 → size_at s p ≡ 0
broken-length s p h = size-at s p ∙ rw (lt-ltb (u16_at s p) 4 h) (go (ltb (length s - p) 4))
  where
    go : (a : Bool) → cond (a || true || ltb (length s - p) (u16_at s p)) 0 (u16_at s p) ≡ 0
    go true = refl
    go false = refl

pub no_end : (s : List ℕ) (p : ℕ) → length s - p < u16_at s p → size_at s p ≡ 0
no_end s p h = size-at s p ∙ rw (lt-ltb (length s - p) (u16_at s p) h) (go (ltb (length s - p) 4) (ltb (u16_at s p) 4))
  where
    go : (a b : Bool) → cond (a || b || true) 0 (u16_at s p) ≡ 0
    go true b = refl
    go false true = refl
    go false false = refl

pub whole_length : (s : List ℕ) (p : ℕ) → 4 ≤ length s - p → 4 ≤ u16_at s p → u16_at s p ≤ length s - p → size_at s p ≡ u16_at s p
whole_length s p a b c = size-at s p ∙ simp (le-ltb (length s - p) 4 a, le-ltb (u16_at s p) 4 b, le-ltb (length s - p) (u16_at s p) c)

-- a record ends inside
pub size_room : (s : List ℕ) (p : ℕ) → p ≤ length s → p + size_at s p ≤ length s
size_room s p h = rw (size-at s p) (go (ltb (length s - p) 4 || ltb (u16_at s p) 4) (ltb (length s - p) (u16_at s p)) refl)
  where
    go : (a b : Bool) → ltb (length s - p) (u16_at s p) ≡ b → p + cond (a || b) 0 (u16_at s p) ≤ length s
    go true b e = omega arith
    go false true e = omega arith
    go false false e = omega (arith, ltb-false (length s - p) (u16_at s p) e)

-- a record that is whole has its head inside
pub size-head : (s : List ℕ) (p : ℕ) → (size_at s p ≡ 0 → ⊥) → (p + 4 ≤ length s) × (4 ≤ size_at s p)
size-head s p = rw (size-at s p) (go (ltb (length s - p) 4) (ltb (u16_at s p) 4) (ltb (length s - p) (u16_at s p)) refl refl)
  where
    go : (a b c : Bool) → ltb (length s - p) 4 ≡ a → ltb (u16_at s p) 4 ≡ b → (cond (a || b || c) 0 (u16_at s p) ≡ 0 → ⊥) → (p + 4 ≤ length s) × (4 ≤ cond (a || b || c) 0 (u16_at s p))
    go true b c e f h = absurd (h refl)
    go false true c e f h = absurd (h refl)
    go false false true e f h = absurd (h refl)
    go false false false e f h = (omega (arith, ltb-false (length s - p) 4 e), omega (arith, ltb-false (u16_at s p) 4 f))

-- the same of the number that the code has
pub size_in : {n : ℕ} (s : List ℕ) (p : ℕ) → n ≡ size_at s p → (n ≡ 0 → ⊥) → (4 ≤ n) × (p + n ≤ length s)
size_in {n} s p e z = (omega (arith, h.1), omega (arith, h.0, size_room s p (omega (arith, h.0))))
  where
    h : (p + 4 ≤ length s) × (4 ≤ size_at s p)
    h = size-head s p (λ (y : size_at s p ≡ 0). z (e ∙ y))

-- the kind of the record at p, by offsets
pub kind-at : (s : List ℕ) (p : ℕ) → kind_at s p ≡ u16_at s (p + 2)
unfolding kind_at
kind-at s p = let e : p + 3 ≡ p + 2 + 1 = omega arith in simp (get_or-drop, e)

pub kind-outside : (s : List ℕ) (p : ℕ) → length s ≤ p → kind_at s p ≡ 0
kind-outside s p h = omega (arith, kind-at s p, byte-outside s (p + 2) (omega arith), byte-outside s (p + 2 + 1) (omega arith))

-- a byte of a body is a byte of the image
pub body-at : (s : List ℕ) (p k : ℕ) → k < size_at s p - 4 → body_at s p ! k ≡ s ! (p + 4 + k)
unfolding body_at
body-at s p k h = let e : p + (4 + k) ≡ p + 4 + k = omega arith in rw (get_or-take, get_or-drop 4 (drop p s) k 0, get_or-drop p s (4 + k) 0, e)

pub body-past : (s : List ℕ) (p k : ℕ) → size_at s p - 4 ≤ k → body_at s p ! k ≡ 0
unfolding body_at
body-past s p k h = get_or-eq_default (body_at s p) 0 (simp length-take (omega arith))

-- THE LAW of a question to the records, in its four cases
module _ {S : Type 0} (ok : S → Rec → Bool) (next : S → Rec → S) (end : S → Found) (s : List ℕ) (p : ℕ) (st : S) where
  pub at-end : length s ≤ p → scan ok next end st (rest s p) ≡ end st
  unfolding scan
  at-end h = simp (rest_end s p h)

  pub at-broken : p < length s → size_at s p ≡ 0 → scan ok next end st (rest s p) ≡ Some p
  unfolding scan ◌and◌
  at-broken h z = simp (rest-cons s p h, z)

  pub at-refused : p < length s → ok st (rec_at s p) ≡ false → scan ok next end st (rest s p) ≡ Some p
  unfolding scan ◌and◌
  at-refused h r = rw (rest-cons s p h) (go (ltb 0 (size_at s p)))
    where
      go : (b : Bool) → cond (b and ok st (rec_at s p)) (scan ok next end (next st (rec_at s p)) (cond (eqb (size_at s p) 0) [] (rest s (p + size_at s p)))) (Some p) ≡ Some p
      go true = simp r
      go false = refl

  pub at-passed : p < length s → (size_at s p ≡ 0 → ⊥) → ok st (rec_at s p) ≡ true → scan ok next end st (rest s p) ≡ scan ok next end (next st (rec_at s p)) (rest s (p + size_at s p))
  unfolding scan ◌and◌
  at-passed h z r = simp (rest-cons s p h, lt-ltb 0 (size_at s p) (omega arith), ne_eqb (size_at s p) 0 z, r)

-- A loop along the records has come to p with st: what is left of the question is put to the records from p on.
pub record Along {S : Type 0} (ok : S → Rec → Bool) (next : S → Rec → S) (end : S → Found) (answer : Found) (s : List ℕ) (p : ℕ) (st : S) : Type 0 where
  pub inside : p ≤ length s
  pub left : answer ≡ scan ok next end st (rest s p)

module _ {S : Type 0} {ok : S → Rec → Bool} {next : S → Rec → S} {end : S → Found} {answer : Found} {s : List ℕ} {p : ℕ} {st : S} (w : Along ok next end answer s p st) where
  pub ended : length s ≤ p → end st ≡ answer
  ended h = sym (w.left ∙ at-end ok next end s p st h)

  pub broken : {n : ℕ} → p < length s → n ≡ size_at s p → n ≡ 0 → Some p ≡ answer
  broken h e z = sym (w.left ∙ at-broken ok next end s p st h (sym e ∙ z))

  pub refused : p < length s → ok st (rec_at s p) ≡ false → Some p ≡ answer
  refused h r = sym (w.left ∙ at-refused ok next end s p st h r)

  pub passed : {n : ℕ} → p < length s → n ≡ size_at s p → (n ≡ 0 → ⊥) → ok st (rec_at s p) ≡ true → Along ok next end answer s (p + n) (next st (rec_at s p))
  passed {n} h e z r = record { inside = rw e (size_room s p w.inside); left = w.left ∙ at-passed ok next end s p st h (λ (y : size_at s p ≡ 0). z (e ∙ y)) r ∙ ap (λ (m : ℕ). scan ok next end (next st (rec_at s p)) (rest s (p + m))) (sym e) }

-- A turn of a loop along the records has met a whole record of length n: all that the turn's answers need.
pub record Met {S : Type 0} (ok : S → Rec → Bool) (next : S → Rec → S) (end : S → Found) (answer : Found) (s : List ℕ) (p : ℕ) (st : S) (n : ℕ) : Type 0 where
  pub along : Along ok next end answer s p st
  pub inside : p < length s
  pub size : n ≡ size_at s p
  pub whole : n ≡ 0 → ⊥

module _ {S : Type 0} {ok : S → Rec → Bool} {next : S → Rec → S} {end : S → Found} {answer : Found} {s : List ℕ} {p : ℕ} {st : S} {n : ℕ} (w : Met ok next end answer s p st n) where
  pub say-no : ok st (rec_at s p) ≡ false → Some p ≡ answer
  say-no r = refused w.along w.inside r

  pub go_on : (st' : S) → ok st (rec_at s p) ≡ true → next st (rec_at s p) ≡ st' → Along ok next end answer s (p + n) st'
  go_on st' r e = rw e at (passed w.along w.inside w.size w.whole r)

  pub ends-inside : p + n ≤ length s
  ends-inside = rw w.size (size_room s p w.along.inside)
