-- The records of an image with bytes behind it, and records that follow one another.
use Rattle.std.specs.Prelude.{None, Some}
use mathlib.Core.Path.{◌≡◌, refl, sym, ap, ◌∙◌}
use Rattle.layout.specs.Found.{Found}
use mathlib.Core.List.{List, [], ◌∷◌, ◌++◌, map}
use mathlib.Core.Bool.{Bool, true, false, cond, ◌||◌}
use Prim.Native.Nat.{ℕ, zero, suc, ◌+◌, ◌-◌, ◌≤◌, ◌<◌}
use native.Mathlib.Nat.{add-zero}
use native.Mathlib.Decide.{dec_lt}
use native.Mathlib.Omega.{arith}
use lib.ListN.{length, length-append, length-drop, take, drop, get_or-append}
use lib.Seq.{drop-append_seam, take-append-le, drop-append-le}
use lib.Dec.{ltb, eqb}
use borrow.Author.Tests.{ltb-true, ltb-false, ne_eqb}
use Rattle.layout.specs.Tests.{◌and◌}
use Rattle.layout.specs.Records.{Rec, u16_at, size_of, size_at, kind_at, body_at, rec_of, rec_at, walk, rest, records}
use Rattle.layout.specs.Scan.{scan}
use Rattle.layout.specs.Questions.{question2}
use Rattle.layout.proofs.Bools.{and_both}
use Rattle.layout.proofs.Walk.{rest-cons, rest_end, size-at, kind-at, whole_length}
use Rattle.layout.proofs.Printed.{body-long}

-- ---- records that are whole

passed : (t : Bool) (more : Found) (p : ℕ) → cond t more (Some p) ≡ None → (t ≡ true) × (more ≡ None)
passed true more p e = (refl, e)
passed false more p e = let z : ◌≡◌ {A = ℕ} 0 1 = cc in absurd (omega arith)

-- the one at p, where question 2 found nothing from there on
pub whole-at : (s : List ℕ) (p : ℕ) → p < length s → question2 (rest s p) ≡ None → (0 < size_at s p) × (question2 (rest s (p + size_at s p)) ≡ None)
unfolding question2 scan
whole-at s p h q =
    let e : question2 (rec_at s p ∷ cond (eqb (size_at s p) 0) [] (rest s (p + size_at s p))) ≡ None = sym (ap question2 (rest-cons s p h)) ∙ q in
    let t = passed (ltb 0 (size_at s p) and true) (question2 (cond (eqb (size_at s p) 0) [] (rest s (p + size_at s p)))) p e in
    let l : 0 < size_at s p = ltb-true 0 (size_at s p) (and_both (ltb 0 (size_at s p)) true t.0).0 in
    (l, rw (ne_eqb (size_at s p) 0 (λ z. absurd (omega (arith, l, z)))) at t.1)

pub whole-size : (s : List ℕ) (p : ℕ) → 0 < size_at s p → (4 ≤ size_at s p) × (p + size_at s p ≤ length s) × (size_at s p ≡ u16_at s p)
whole-size s p h = go (ltb (length s - p) 4) (ltb (u16_at s p) 4) (ltb (length s - p) (u16_at s p)) refl refl refl (size-at s p)
  where
    go : (a b c : Bool) → ltb (length s - p) 4 ≡ a → ltb (u16_at s p) 4 ≡ b → ltb (length s - p) (u16_at s p) ≡ c → size_at s p ≡ cond (a || b || c) 0 (u16_at s p) → (4 ≤ size_at s p) × (p + size_at s p ≤ length s) × (size_at s p ≡ u16_at s p)
    go true b c x y z e = absurd (omega (arith, h, e))
    go false true c x y z e = absurd (omega (arith, h, e))
    go false false true x y z e = absurd (omega (arith, h, e))
    go false false false x y z e = (omega (arith, e, ltb-false (u16_at s p) 4 y), omega (arith, e, ltb-false (length s - p) 4 x, ltb-false (length s - p) (u16_at s p) z), e)

-- the records from a whole one on
pub rest-whole : (s : List ℕ) (p : ℕ) → p < length s → 0 < size_at s p → rest s p ≡ rec_at s p ∷ rest s (p + size_at s p)
rest-whole s p h l = rest-cons s p h ∙ rw (ne_eqb (size_at s p) 0 (λ z. absurd (omega (arith, l, z)))) refl

-- ---- an image with bytes behind it

module _ (a t : List ℕ) where
  module _ (p : ℕ) (w : 0 < size_at a p) where
    front-u16 : (i : ℕ) → i + 2 ≤ 4 → u16_at (a ++ t) (p + i) ≡ u16_at a (p + i)
    front-u16 i h =
        let q = whole-size a p w in
        rw (get_or-append a t 0 (p + i) (omega (arith, q.0, q.1)), get_or-append a t 0 (p + i + 1) (omega (arith, q.0, q.1))) refl

    front-size : size_at (a ++ t) p ≡ size_at a p
    front-size =
        let q = whole-size a p w in
        let u : u16_at (a ++ t) p ≡ u16_at a p = simp add-zero at (front-u16 0 (omega arith)) in
        whole_length (a ++ t) p (rw (length-append a t) (omega (arith, q.0, q.1))) (rw u (omega (arith, q.0, q.2))) (rw (u, length-append a t) (omega (arith, q.1, q.2))) ∙ u ∙ sym q.2

    front-kind : kind_at (a ++ t) p ≡ kind_at a p
    front-kind = kind-at (a ++ t) p ∙ front-u16 2 (omega arith) ∙ sym (kind-at a p)

    front-body : body_at (a ++ t) p ≡ body_at a p
    unfolding body_at
    front-body =
        let q = whole-size a p w in
        let n = size_at a p in
        ap (λ (k : ℕ). take (k - 4) (drop 4 (drop p (a ++ t)))) front-size
        ∙ ap (λ (l : List ℕ). take (n - 4) (drop 4 l)) (drop-append-le p a t (omega (arith, q.1)))
        ∙ ap (λ (l : List ℕ). take (n - 4) l) (drop-append-le 4 (drop p a) t (rw length-drop (omega (arith, q.0, q.1))))
        ∙ take-append-le (n - 4) (drop 4 (drop p a)) t (rw (length-drop, length-drop) (omega (arith, q.0, q.1)))

    front-rec : rec_at (a ++ t) p ≡ rec_at a p
    front-rec = rw (front-size, front-kind, front-body) refl

  -- its records are those of the image, then those behind its end
  front_rest : (m p : ℕ) → length a ≤ p + m → p ≤ length a → question2 (rest a p) ≡ None → rest (a ++ t) p ≡ rest a p ++ rest (a ++ t) (length a)
  front_rest zero p f h q = let e : p ≡ length a = omega arith in rw (rest_end a p (omega arith), e) refl
  front_rest (suc m) p f h q = go (dec_lt p (length a)) (λ n l r x. front_rest m (p + n) (omega (arith, l)) r x)
    where
      go : Dec (p < length a) → ((n : ℕ) → 0 < n → p + n ≤ length a → question2 (rest a (p + n)) ≡ None → rest (a ++ t) (p + n) ≡ rest a (p + n) ++ rest (a ++ t) (length a)) → rest (a ++ t) p ≡ rest a p ++ rest (a ++ t) (length a)
      go (yes l) ih =
          let w = whole-at a p l q in
          let z = whole-size a p w.0 in
          let x : p < length (a ++ t) = rw (length-append a t) (omega (arith, l)) in
          let y : 0 < size_at (a ++ t) p = rw (front-size p w.0) w.0 in
          rest-whole (a ++ t) p x y
          ∙ rw (front-rec p w.0, front-size p w.0, rest-whole a p l w.0, ih (size_at a p) w.0 z.1 w.1) refl
      go (no l) ih = let e : p ≡ length a = omega arith in rw (rest_end a p (omega arith), e) refl

-- a record o bytes further on
abbrev pub behind : ℕ → Rec → Rec
behind o r = record { at = o + r.at; size = r.size; kind = r.kind; body = r.body }

walk-behind : (f o p : ℕ) (t : List ℕ) → walk f (o + p) t ≡ map (behind o) (walk f p t)
unfolding walk
walk-behind zero o p t = refl
walk-behind (suc f) o p [] = refl
walk-behind (suc f) o p (b ∷ t) = go (size_of (b ∷ t)) (eqb (size_of (b ∷ t)) 0) (λ n. walk-behind f o (p + n) (drop n (b ∷ t)))
  where
    go : (n : ℕ) (z : Bool) → ((m : ℕ) → walk f (o + (p + m)) (drop m (b ∷ t)) ≡ map (behind o) (walk f (p + m) (drop m (b ∷ t))))
        → ◌≡◌ {A = List Rec} (rec_of (o + p) (b ∷ t) n ∷ cond z [] (walk f (o + p + n) (drop n (b ∷ t)))) (map (behind o) (rec_of p (b ∷ t) n ∷ cond z [] (walk f (p + n) (drop n (b ∷ t)))))
    go n true ih = refl
    go n false ih = let e : o + p + n ≡ o + (p + n) = omega arith in ap (λ (l : List Rec). rec_of (o + p) (b ∷ t) n ∷ l) (ap (λ (i : ℕ). walk f i (drop n (b ∷ t))) e ∙ ih n)

-- THE LAW: the records of an image that passed question 2, with bytes behind it
pub records-behind : (a t : List ℕ) → question2 (records a) ≡ None → records (a ++ t) ≡ records a ++ map (behind (length a)) (records t)
unfolding rest
records-behind a t q =
    let n : length (a ++ t) - length a ≡ length t - 0 = rw (length-append a t) (omega arith) in
    let z : length a ≡ length a + 0 = omega arith in
    front_rest a t (length a) 0 (omega arith) (omega arith) q
    ∙ ap (λ (l : List Rec). records a ++ l)
    (ap (λ (l : List ℕ). walk (length (a ++ t) - length a) (length a) l) (drop-append_seam a t) ∙ ap (λ (f : ℕ). walk f (length a) t) n ∙ ap (λ (i : ℕ). walk (length t - 0) i t) z ∙ walk-behind (length t - 0) (length a) 0 t)

-- ---- records that follow one another

-- from the offset p up to e, each with the length that its body makes
unfoldable pub Chain : ℕ → List Rec → ℕ → Type 0
Chain p [] e = p ≡ e
Chain p (r ∷ rs) e = (r.at ≡ p) × (r.size ≡ 4 + length r.body) × Chain (p + r.size) rs e

chain-from : (s : List ℕ) (m p : ℕ) → length s ≤ p + m → p ≤ length s → question2 (rest s p) ≡ None → Chain p (rest s p) (length s)
unfolding Chain
chain-from s zero p f h q = rw (rest_end s p (omega arith)) (omega arith)
chain-from s (suc m) p f h q = go (dec_lt p (length s)) (λ n l r x. chain-from s m (p + n) (omega (arith, l)) r x)
  where
    go : Dec (p < length s) → ((n : ℕ) → 0 < n → p + n ≤ length s → question2 (rest s (p + n)) ≡ None → Chain (p + n) (rest s (p + n)) (length s)) → Chain p (rest s p) (length s)
    go (yes l) ih =
        let w = whole-at s p l q in
        let z = whole-size s p w.0 in
        rw (rest-whole s p l w.0) (refl, sym (body-long s p (λ e. absurd (omega (arith, w.0, e)))), ih (size_at s p) w.0 z.1 w.1)
    go (no l) ih = rw (rest_end s p (omega arith)) (omega arith)

pub chained : (s : List ℕ) → question2 (records s) ≡ None → Chain 0 (records s) (length s)
chained s q = chain-from s (length s) 0 (omega arith) (omega arith) q
