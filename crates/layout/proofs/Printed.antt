-- Records written one behind the other: the records of their bytes are they themselves, and the bytes of an image's records are the image.
use Rattle.std.specs.Prelude.{None, Some}
use mathlib.Core.Path.{◌≡◌, refl, sym, ap, ap₂, ◌∙◌}
use mathlib.Core.List.{List, [], ◌∷◌, ◌++◌, map}
use mathlib.Core.Bool.{Bool, true, false, cond, ◌||◌}
use Prim.Native.Nat.{ℕ, zero, suc, ◌+◌, ◌-◌, ◌*◌, ◌/◌, ◌%◌, ◌≤◌, ◌<◌}
use native.Mathlib.Omega.{arith}
use lib.ListN.{length, drop, take, take-append-drop, length-append, length-drop, length-take}
use lib.Seq.{get_or-drop}
use lib.Dec.{eqb, ltb}
use borrow.Author.Tests.{ltb-true, ltb-false, lt-ltb, le-ltb, ne_eqb}
use Rattle.layout.specs.Tests.{◌and◌}
use Rattle.layout.specs.Records.{Rec, ◌!◌, u16_at, size_of, rec_of, size_at, kind_at, body_at, walk, rest, records}
use Rattle.layout.specs.Scan.{scan}
use Rattle.layout.specs.Forms.{record_bytes, printed}
use Rattle.layout.specs.Questions.{same, nothing, whole, question2}
use Rattle.layout.proofs.Bools.{and_both}
use Rattle.layout.proofs.Lists.{Each}

-- ---- a record in front

take-front : (b t : List ℕ) → take (length b) (b ++ t) ≡ b
take-front [] [] = refl
take-front [] (x ∷ t) = refl
take-front (x ∷ b) t = ap (λ (l : List ℕ). x ∷ l) (take-front b t)

drop-front : (b t : List ℕ) → drop (length b) (b ++ t) ≡ t
drop-front [] t = refl
drop-front (x ∷ b) t = drop-front b t

module _ (k : ℕ) (b t : List ℕ) where
  abbrev n : ℕ
  n = 4 + length b

  front-size : n % 256 + 256 * (n / 256) ≡ 4 + length b
  front-size = omega arith

  front-kind : k % 256 + 256 * (k / 256) ≡ k
  front-kind = omega arith

  size-front : size_of (n % 256 ∷ n / 256 ∷ k % 256 ∷ k / 256 ∷ b ++ t) ≡ 4 + length b
  unfolding size_of
  size-front = rw (front-size, length-append b t, le-ltb (suc (suc (suc (suc (length b + length t))))) 4 (omega arith), le-ltb (4 + length b) 4 (omega arith), le-ltb (suc (suc (suc (suc (length b + length t))))) (4 + length b) (omega arith)) refl

  body-front : take (4 + length b - 4) (b ++ t) ≡ b
  body-front = let z : 4 + length b - 4 ≡ length b = omega arith in rw z (take-front b t)

  rest-front : drop (4 + length b) (n % 256 ∷ n / 256 ∷ k % 256 ∷ k / 256 ∷ b ++ t) ≡ t
  rest-front = let z : 4 + length b ≡ suc (suc (suc (suc (length b)))) = omega arith in rw z (drop-front b t)

  whole-front : eqb (4 + length b) 0 ≡ false
  whole-front = ne_eqb (4 + length b) 0 (λ z. omega (arith, z))

  -- it is the first record
  walk-front : (f p : ℕ) → walk (suc f) p (record_bytes k b ++ t) ≡ record { at = p; size = 4 + length b; kind = k; body = b } ∷ walk f (p + (4 + length b)) t
  unfolding walk record_bytes
  walk-front f p = rw (size-front, body-front, whole-front, rest-front, front-kind) refl

walk_none : (f p : ℕ) → walk f p [] ≡ []
unfolding walk
walk_none zero p = refl
walk_none (suc f) p = refl

pub record-long : (k : ℕ) (b t : List ℕ) → length (record_bytes k b ++ t) ≡ 4 + length b + length t
unfolding record_bytes
record-long k b t = rw (length-append b t) (omega arith)

-- ---- records one behind the other

-- these kinds and bodies, one behind the other from the offset p on
unfoldable pub laid : ℕ → List Rec → List Rec
laid p [] = []
laid p (r ∷ rs) = record { at = p; size = 4 + length r.body; kind = r.kind; body = r.body } ∷ laid (p + (4 + length r.body)) rs

walk-printed : (rs : List Rec) (f p : ℕ) → length (printed rs) ≤ f → walk f p (printed rs) ≡ laid p rs
unfolding printed laid
walk-printed [] f p h = walk_none f p
walk-printed (r ∷ rs) zero p h = let z = record-long r.kind r.body (printed rs) in absurd (omega (arith, h, z))
walk-printed (r ∷ rs) (suc f) p h =
    let z = record-long r.kind r.body (printed rs) in
    walk-front r.kind r.body (printed rs) f p
    ∙ ap (λ (l : List Rec). record { at = p; size = 4 + length r.body; kind = r.kind; body = r.body } ∷ l) (walk-printed rs f (p + (4 + length r.body)) (omega (arith, h, z)))

-- THE LAW: the records of the bytes of records
pub records-printed : (rs : List Rec) → records (printed rs) ≡ laid 0 rs
unfolding rest
records-printed rs = walk-printed rs (length (printed rs) - 0) 0 (omega arith)

-- the bytes do not tell where the records stood
pub printed-laid : (rs : List Rec) (p : ℕ) → printed (laid p rs) ≡ printed rs
unfolding printed laid
printed-laid [] p = refl
printed-laid (r ∷ rs) p = ap (λ (l : List ℕ). record_bytes r.kind r.body ++ l) (printed-laid rs (p + (4 + length r.body)))

-- ---- whole records of bytes

-- what a whole record of bytes has
pub record Whole (r : Rec) : Type 0 where
  pub whole : r.size ≡ 4 + length r.body
  pub short : r.size < 65536
  pub low : r.kind < 65536
  pub bytes : (i : ℕ) → r.body ! i < 256

-- a byte of a part is a byte
pub part_bytes : (n : ℕ) (t : List ℕ) → ((i : ℕ) → t ! i < 256) → (i : ℕ) → take n t ! i < 256
part_bytes zero [] b i = omega arith
part_bytes zero (x ∷ t) b i = omega arith
part_bytes (suc n) [] b i = omega arith
part_bytes (suc n) (x ∷ t) b zero = b 0
part_bytes (suc n) (x ∷ t) b (suc i) = part_bytes n t (λ j. b (suc j)) i

rest-bytes : (n : ℕ) (t : List ℕ) → ((i : ℕ) → t ! i < 256) → (i : ℕ) → drop n t ! i < 256
rest-bytes n t b i = rw (get_or-drop n t i 0) (b (n + i))

-- the length of a whole record stands in its head
sizes : (t : List ℕ) → 0 < size_of t → (4 ≤ size_of t) × (size_of t ≤ length t) × (size_of t ≡ u16_at t 0)
unfolding size_of
sizes t h = go (ltb (length t) 4) (ltb (u16_at t 0) 4) (ltb (length t) (u16_at t 0)) refl refl refl h
  where
    go : (a b c : Bool) → ltb (length t) 4 ≡ a → ltb (u16_at t 0) 4 ≡ b → ltb (length t) (u16_at t 0) ≡ c → 0 < cond (a || b || c) 0 (u16_at t 0)
        → (4 ≤ cond (a || b || c) 0 (u16_at t 0)) × (cond (a || b || c) 0 (u16_at t 0) ≤ length t) × (cond (a || b || c) 0 (u16_at t 0) ≡ u16_at t 0)
    go true b c x y z h = absurd (omega (arith, h))
    go false true c x y z h = absurd (omega (arith, h))
    go false false true x y z h = absurd (omega (arith, h))
    go false false false x y z h = (ltb-false _ _ y, ltb-false _ _ z, refl)

-- a question that keeps nothing, where it finds nothing: each record is whole and passes
pub all_pass : (ok : Unit {0} → Rec → Bool) (rs : List Rec) → scan ok same nothing tt rs ≡ None → Each (λ (r : Rec). (0 < r.size) × (ok tt r ≡ true)) rs
unfolding scan Each
all_pass ok [] e = tt
all_pass ok (r ∷ rs) e = go (ltb 0 r.size and ok tt r) refl e (all_pass ok rs)
  where
    go : (a : Bool) → (ltb 0 r.size and ok tt r) ≡ a → cond a (scan ok same nothing tt rs) (Some r.at) ≡ None → (scan ok same nothing tt rs ≡ None → Each (λ (r : Rec). (0 < r.size) × (ok tt r ≡ true)) rs)
        → Each (λ (r : Rec). (0 < r.size) × (ok tt r ≡ true)) (r ∷ rs)
    go true q h more = let z = and_both _ _ q in ((ltb-true _ _ z.0, z.1), more h)
    go false q h more = let z : ◌≡◌ {A = ℕ} 0 1 = cc in absurd (omega arith)

-- and back
pub pass_all : (ok : Unit {0} → Rec → Bool) (rs : List Rec) → Each (λ (r : Rec). (0 < r.size) × (ok tt r ≡ true)) rs → scan ok same nothing tt rs ≡ None
unfolding scan Each ◌and◌
pass_all ok [] e = refl
pass_all ok (r ∷ rs) e = rw (lt-ltb 0 r.size e.0.0, e.0.1) (pass_all ok rs e.1)

-- a whole record is its length, its kind and its body
pub record-verbatim : (t : List ℕ) (n : ℕ) → ((i : ℕ) → t ! i < 256) → n ≡ u16_at t 0 → 4 ≤ n → n ≤ length t → record_bytes (u16_at t 2) (take (n - 4) (drop 4 t)) ++ drop n t ≡ t
unfolding record_bytes
record-verbatim [] n b e l h = absurd (omega (arith, l, h))
record-verbatim (x ∷ []) n b e l h = absurd (omega (arith, l, h))
record-verbatim (x ∷ y ∷ []) n b e l h = absurd (omega (arith, l, h))
record-verbatim (x ∷ y ∷ k ∷ []) n b e l h = absurd (omega (arith, l, h))
record-verbatim (x ∷ y ∷ k ∷ m ∷ t) n b e l h =
    let j = n - 4 in
    let long : 4 + length (take j t) ≡ n = rw length-take (omega (arith, l, h)) in
    let first : n % 256 ≡ x = omega (arith, e, b 0) in
    let second : n / 256 ≡ y = omega (arith, e, b 0) in
    let third : (k + 256 * m) % 256 ≡ k = omega (arith, b 2) in
    let fourth : (k + 256 * m) / 256 ≡ m = omega (arith, b 2) in
    let left : n ≡ suc (suc (suc (suc j))) = omega (arith, l) in
    let tail : take j t ++ drop n (x ∷ y ∷ k ∷ m ∷ t) ≡ t = ap (λ (i : ℕ). take j t ++ drop i (x ∷ y ∷ k ∷ m ∷ t)) left ∙ take-append-drop j t in
    rw (long, first, second, third, fourth) (ap (λ (l : List ℕ). x ∷ y ∷ k ∷ m ∷ l) tail)

-- the bytes from the offset p of an image on to the end of the whole record there are that record's
pub record-slice : (s : List ℕ) (p : ℕ) → ((i : ℕ) → s ! i < 256) → (size_at s p ≡ 0 → ⊥) → take (size_at s p) (drop p s) ≡ record_bytes (kind_at s p) (body_at s p)
unfolding size_at kind_at body_at record_bytes
record-slice s p b z =
    let t = drop p s in
    let w = sizes t (omega arith) in
    let whole = record-verbatim t (size_of t) (rest-bytes p s b) w.2 w.0 w.1 in
    let long : 4 + length (take (size_of t - 4) (drop 4 t)) ≡ size_of t = simp (length-take, length-drop) (omega (arith, w.0, w.1, length-drop p s)) in
    sym (front (u16_at t 2) (take (size_of t - 4) (drop 4 t)) (drop (size_of t) t) t (size_of t) long whole)
  where
    front : (k : ℕ) (b more t : List ℕ) (m : ℕ) → 4 + length b ≡ m → record_bytes k b ++ more ≡ t → record_bytes k b ≡ take m t
    front k b more t m e f = let g : m ≡ length (record_bytes k b) = omega (arith, e) in sym (ap (take m) (sym f) ∙ ap (λ (j : ℕ). take j (record_bytes k b ++ more)) g ∙ take-front (record_bytes k b) more)

-- how long the body of a whole record is
pub body-long : (s : List ℕ) (p : ℕ) → (size_at s p ≡ 0 → ⊥) → 4 + length (body_at s p) ≡ size_at s p
unfolding size_at body_at
body-long s p z = let w = sizes (drop p s) (omega arith) in simp (length-take, length-drop) (omega (arith, w.0, w.1, length-drop p s))

pub body_bytes : (s : List ℕ) (p : ℕ) → ((i : ℕ) → s ! i < 256) → (i : ℕ) → body_at s p ! i < 256
unfolding body_at
body_bytes s p b = part_bytes (size_at s p - 4) (drop 4 (drop p s)) (rest-bytes 4 (drop p s) (rest-bytes p s b))

-- each record of an image that passed question 2 is whole, and their bytes are the image
wholes : (f p : ℕ) (t : List ℕ) → length t ≤ f → ((i : ℕ) → t ! i < 256) → Each (λ (r : Rec). (0 < r.size) × (true ≡ true)) (walk f p t) → Each Whole (walk f p t) × (printed (walk f p t) ≡ t)
unfolding walk Each printed
wholes zero p [] l b e = (tt, refl)
wholes zero p (x ∷ t) l b e = absurd (omega (arith, l))
wholes (suc f) p [] l b e = (tt, refl)
wholes (suc f) p (x ∷ t) l b e =
    let n = size_of (x ∷ t) in
    let w = sizes (x ∷ t) e.0.0 in
    let v : eqb n 0 ≡ false = ne_eqb n 0 (λ y. omega (arith, y, e.0.0)) in
    let g : Each (λ (r : Rec). (0 < r.size) × (true ≡ true)) (walk f (p + n) (drop n (x ∷ t))) = rw v at e.1 in
    let more = wholes f (p + n) (drop n (x ∷ t)) (rw length-drop (omega (arith, l, w.0))) (rest-bytes n (x ∷ t) b) g in
    rw v (
      (record { whole = long n w.0 w.1; short = omega (arith, w.2, b 0, b 1); low = omega (arith, b 2, b 3); bytes = part_bytes (n - 4) (drop 4 (x ∷ t)) (rest-bytes 4 (x ∷ t) b) }, more.0),
      ap (λ (l : List ℕ). record_bytes (u16_at (x ∷ t) 2) (take (n - 4) (drop 4 (x ∷ t))) ++ l) more.1 ∙ record-verbatim (x ∷ t) n b w.2 w.0 w.1,
    )
  where
    long : (n : ℕ) → 4 ≤ n → n ≤ length (x ∷ t) → n ≡ 4 + length (take (n - 4) (drop 4 (x ∷ t)))
    long n l h = simp (length-take, length-drop) (omega (arith, l, h))

pub all_whole : (s : List ℕ) → ((i : ℕ) → s ! i < 256) → question2 (records s) ≡ None → Each Whole (records s)
unfolding question2 rest
all_whole s b e = (wholes (length s - 0) 0 s (omega arith) b (all_pass whole (records s) e)).0

-- THE LAW: the bytes of an image's records are the image
pub verbatim : (s : List ℕ) → ((i : ℕ) → s ! i < 256) → question2 (records s) ≡ None → printed (records s) ≡ s
unfolding question2 rest
verbatim s b e = (wholes (length s - 0) 0 s (omega arith) b (all_pass whole (records s) e)).1

-- bytes of records: where lengths and kinds are below 65,536
pub both_bytes : (x y : List ℕ) → ((i : ℕ) → x ! i < 256) → ((i : ℕ) → y ! i < 256) → (i : ℕ) → (x ++ y) ! i < 256
both_bytes [] y f g i = g i
both_bytes (b ∷ x) y f g zero = f 0
both_bytes (b ∷ x) y f g (suc i) = both_bytes x y (λ j. f (suc j)) g i

head_bytes : (n k : ℕ) (b : List ℕ) → n < 65536 → k < 65536 → ((i : ℕ) → b ! i < 256) → (i : ℕ) → (n % 256 ∷ n / 256 ∷ k % 256 ∷ k / 256 ∷ b) ! i < 256
head_bytes n k b h l f zero = omega arith
head_bytes n k b h l f (suc zero) = omega (arith, h)
head_bytes n k b h l f (suc (suc zero)) = omega arith
head_bytes n k b h l f (suc (suc (suc zero))) = omega (arith, l)
head_bytes n k b h l f (suc (suc (suc (suc i)))) = f i

pub printed-bytes : (rs : List Rec) → Each Whole rs → (i : ℕ) → printed rs ! i < 256
unfolding printed Each record_bytes
printed-bytes [] w i = omega arith
printed-bytes (r ∷ rs) w i = both_bytes (record_bytes r.kind r.body) (printed rs) (head_bytes (4 + length r.body) r.kind r.body (omega (arith, w.0.whole, w.0.short)) w.0.low w.0.bytes) (printed-bytes rs w.1) i
