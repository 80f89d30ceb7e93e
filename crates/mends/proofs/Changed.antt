-- An image with one register type byte changed: its records and its program.
use Rattle.std.specs.Prelude.{None}
use mathlib.Core.Path.{◌≡◌, refl, sym, ap, ◌∙◌, subst}
use mathlib.Core.Logic.{◌≢◌, ◌⊎◌, inl, inr}
use mathlib.Core.List.{List, [], ◌∷◌, map}
use mathlib.Core.Bool.{Bool, true, false, cond}
use Prim.Native.Nat.{ℕ, zero, suc, ◌+◌, ◌-◌, ◌≤◌, ◌<◌}
use native.Mathlib.Decide.{dec_lt}
use native.Mathlib.Omega.{arith}
use lib.ListN.{length, length-set, set, take, drop, get_or}
use lib.Seq.{get_or-set_same, get_or-set_other, drop-set-lt, drop-set-add, drop-drop}
use lib.Dec.{ltb, leb, eqb}
use borrow.Author.Tests.{lt-ltb, le-ltb, eqb-true, eqb-false, le-leb, lt-leb}
use Rattle.layout.specs.Kinds as kind
use Rattle.layout.specs.Tests.{◌and◌}
use Rattle.layout.specs.Records.{Rec, ◌!◌, u16_at, size_at, kind_at, body_at, rec_at, rest, records, every, fields, choose}
use Rattle.layout.specs.Scan.{scan}
use Rattle.layout.specs.Forms.{literal_kind, literal_length}
use Rattle.layout.specs.Questions.{question2, question3, length_of, plain_length, fitting}
use Rattle.layout.specs.declared.Form.{Form}
use Rattle.layout.proofs.Bools.{and_both}
use Rattle.layout.proofs.Walk.{rest_end, size-at, kind-at}
use Rattle.layout.proofs.Fields.{length-every}
use Rattle.program.specs.Program.{Block, Version, View, version_of, put, view, view_by, program}
use Rattle.program.proofs.Laid.{passed}
use Rattle.layout.proofs.Behind.{whole-at, whole-size, rest-whole, Chain, chained}
use Rattle.program.proofs.Programs.{view-whole, put-version, put-block, put-line}
use Rattle.mends.specs.Retyped.{within, retype_one, retype}

-- ---- lists

set_past : {A : Type 0} (l : List A) (i : ℕ) (a : A) → length l ≤ i → set l i a ≡ l
set_past [] i a h = refl
set_past (x ∷ l) zero a h = absurd (omega arith)
set_past (x ∷ l) (suc i) a h = ap (λ (r : _). x ∷ r) (set_past l i a (omega arith))

-- the bytes of a part, of which one is changed
take-set : (n : ℕ) (l : List ℕ) (i x : ℕ) → take n (set l i x) ≡ set (take n l) i x
take-set zero l i x = refl
take-set (suc n) [] i x = refl
take-set (suc n) (y ∷ l) zero x = refl
take-set (suc n) (y ∷ l) (suc i) x = ap (λ (r : List ℕ). y ∷ r) (take-set n l i x)

-- ---- one record

-- the record with the byte at p changed, where it is behind its head
unfoldable pub set_rec : ℕ → ℕ → Rec → Rec
set_rec p x r = cond (leb (r.at + 4) p) (record { at = r.at; size = r.size; kind = r.kind; body = set r.body (p - (r.at + 4)) x }) r

module _ (s : List ℕ) (p x c : ℕ) (h : (p < c) ⊎ (c + 4 ≤ p)) where
  abbrev t : List ℕ
  t = set s p x

  byte-same : (k : ℕ) → k < 4 → t ! (c + k) ≡ s ! (c + k)
  byte-same k l = get_or-set_other s p (c + k) x 0 (go h)
    where
      go : (p < c) ⊎ (c + 4 ≤ p) → c + k ≢ p
      go (inl a) e = absurd (omega (arith, a, e))
      go (inr a) e = absurd (omega (arith, a, l, e))

  u16-same : (k : ℕ) → k + 2 ≤ 4 → u16_at t (c + k) ≡ u16_at s (c + k)
  u16-same k l = let e : c + k + 1 ≡ c + (k + 1) = omega arith in rw (e, byte-same k (omega arith), byte-same (k + 1) (omega arith)) refl

  pub size_same : size_at t c ≡ size_at s c
  size_same = let e : c + 0 ≡ c = omega arith in size-at t c ∙ rw (length-set s p x, rw e at (u16-same 0 (omega arith))) (sym (size-at s c))

  pub kind-same : kind_at t c ≡ kind_at s c
  kind-same = kind-at t c ∙ u16-same 2 (omega arith) ∙ sym (kind-at s c)

  rec-same : rec_at t c ≡ set_rec p x (rec_at s c)
  unfolding set_rec body_at
  rec-same = go h
    where
      go : (p < c) ⊎ (c + 4 ≤ p) → rec_at t c ≡ set_rec p x (rec_at s c)
      go (inl a) =
          let e : leb (c + 4) p ≡ false = lt-leb (c + 4) p (omega arith) in
          let b : body_at t c ≡ body_at s c = ap (λ (n : ℕ). take (n - 4) (drop 4 (drop c t))) size_same ∙ ap (λ (l : List ℕ). take (size_at s c - 4) (drop 4 l)) (drop-set-lt c s p x a) in
          rw (e, b, size_same, kind-same) refl
      go (inr a) =
          let e : leb (c + 4) p ≡ true = le-leb (c + 4) p a in
          let j = p - (c + 4) in
          let q : c + 4 + j ≡ p = omega (arith, a) in
          let d : drop 4 (drop c t) ≡ set (drop 4 (drop c s)) j x =
          drop-drop 4 c t ∙ subst (λ (m : ℕ). drop (c + 4) (set s m x) ≡ set (drop (c + 4) s) j x) q (drop-set-add (c + 4) s j x) ∙ ap (λ (l : List ℕ). set l j x) (sym (drop-drop 4 c s)) in
          let b : body_at t c ≡ set (body_at s c) j x = ap (λ (n : ℕ). take (n - 4) (drop 4 (drop c t))) size_same ∙ ap (λ (l : List ℕ). take (size_at s c - 4) l) d ∙ take-set (size_at s c - 4) (drop 4 (drop c s)) j x in
          rw (e, b, size_same, kind-same) refl

-- ---- all records

-- p lies before the record, behind it, or among the register types of a VERSION
unfoldable pub Aside : ℕ → Rec → Type 0
Aside p r = (p < r.at) ⊎ ((r.at + r.size ≤ p) ⊎ ((r.kind ≡ kind.VERSION) × (r.at + 10 ≤ p)))

unfoldable pub Asides : ℕ → List Rec → Type 0
Asides p [] = Unit {0}
Asides p (r ∷ rs) = Aside p r × Asides p rs

pub no-head : (p : ℕ) (r : Rec) → r.size ≡ 4 + length r.body → Aside p r → (p < r.at) ⊎ (r.at + 4 ≤ p)
unfolding Aside
no-head p r e (inl a) = inl a
no-head p r e (inr (inl a)) = inr (omega (arith, e, a))
no-head p r e (inr (inr a)) = inr (omega (arith, a.1))

rest-changed : (s : List ℕ) (p x m c : ℕ) → length s ≤ c + m → c ≤ length s → question2 (rest s c) ≡ None → Chain c (rest s c) (length s) → Asides p (rest s c) → rest (set s p x) c ≡ map (set_rec p x) (rest s c)
unfolding Chain Asides
rest-changed s p x zero c f h q ch a = rw (rest_end s c (omega arith)) (rest_end (set s p x) c (rw (length-set s p x) (omega arith)))
rest-changed s p x (suc m) c f h q ch a = go (dec_lt c (length s)) (λ n l r y z w. rest-changed s p x m (c + n) (omega (arith, l)) r y z w)
  where
    go : Dec (c < length s) → ((n : ℕ) → 0 < n → c + n ≤ length s → question2 (rest s (c + n)) ≡ None → Chain (c + n) (rest s (c + n)) (length s) → Asides p (rest s (c + n)) → rest (set s p x) (c + n) ≡ map (set_rec p x) (rest s (c + n)))
        → rest (set s p x) c ≡ map (set_rec p x) (rest s c)
    go (yes l) ih =
        let w = whole-at s c l q in
        let z = whole-size s c w.0 in
        let e = rest-whole s c l w.0 in
        let ch' : Chain c (rec_at s c ∷ rest s (c + size_at s c)) (length s) = subst (λ (rs : List Rec). Chain c rs (length s)) e ch in
        let a' : Asides p (rec_at s c ∷ rest s (c + size_at s c)) = subst (λ (rs : List Rec). Asides p rs) e a in
        let nh = no-head p (rec_at s c) ch'.1 a'.0 in
        let sz = size_same s p x c nh in
        rest-whole (set s p x) c (rw (length-set s p x) l) (rw sz w.0)
        ∙ rw (rec-same s p x c nh, sz, ih (size_at s c) w.0 z.1 w.1 ch'.2 a'.1) (ap (map (set_rec p x)) (sym e))
    go (no l) ih = rw (rest_end s c (omega arith)) (rest_end (set s p x) c (rw (length-set s p x) (omega arith)))

pub records-changed : (s : List ℕ) (p x : ℕ) → question2 (records s) ≡ None → Asides p (records s) → records (set s p x) ≡ map (set_rec p x) (records s)
records-changed s p x q a = rest-changed s p x (length s) 0 (omega arith) (omega arith) q (chained s q) a

-- ---- the program

every-past : (b : List ℕ) (i k n x : ℕ) → i < k → every (set b i x) k 1 n ≡ every b k 1 n
unfolding every
every-past b i k zero x h = refl
every-past b i k (suc n) x h = rw (get_or-set_other b i k x 0 (λ z. absurd (omega (arith, z, h))), every-past b i (k + 1) n x (omega arith)) refl

every_set : (b : List ℕ) (k j n x : ℕ) → j < n → k + j < length b → every (set b (k + j) x) k 1 n ≡ set (every b k 1 n) j x
unfolding every
every_set b k j zero x h l = absurd (omega arith)
every_set b k zero (suc n) x h l =
    let e : k + 0 ≡ k = omega arith in
    ap (λ (i : ℕ). every (set b i x) k 1 (suc n)) e
    ∙ ap (λ (y : ℕ). y ∷ every (set b k x) (k + 1) 1 n) (get_or-set_same b k x 0 (omega (arith, l)))
    ∙ ap (λ (r : List ℕ). x ∷ r) (every-past b k (k + 1) n x (omega arith))
every_set b k (suc j) (suc n) x h l =
    let e : k + suc j ≡ k + 1 + j = omega arith in
    ap (λ (i : ℕ). every (set b i x) k 1 (suc n)) e
    ∙ ap (λ (y : ℕ). y ∷ every (set b (k + 1 + j) x) (k + 1) 1 n) (get_or-set_other b (k + 1 + j) k x 0 (λ z. absurd (omega (arith, z))))
    ∙ ap (λ (r : List ℕ). get_or b k 0 ∷ r) (every_set b (k + 1) j n x (omega arith) (omega (arith, l)))

-- a whole record, and a VERSION with as many bytes as its types make
pub record Set (r : Rec) : Type 0 where
  pub size : r.size ≡ 4 + length r.body
  pub version : r.kind ≡ kind.VERSION → r.size ≡ 10 + r.body ! 3

unfoldable pub Sets : List Rec → Type 0
Sets [] = Unit {0}
Sets (r ∷ rs) = Set r × Sets rs

pub sets-from : (rs : List Rec) (c e : ℕ) → Chain c rs e → question3 Form.Wide rs ≡ None → Sets rs
unfolding question3 scan Chain Sets length_of plain_length literal_kind literal_length choose
sets-from [] c e ch q = tt
sets-from (r ∷ rs) c e ch q =
    let t = passed (ltb 0 r.size and fitting Form.Wide tt r) _ r.at q in
    let u = and_both _ _ t.0 in
    (record { size = ch.1; version = λ k. eqb-true _ _ u.1 ∙ rw k refl }, sets-from rs _ e ch.2 t.1)

module _ (p x : ℕ) where
  unfoldable retype_view : View → View
  retype_view w = record { level = w.level; code = w.code; blocks = w.blocks; versions = map (retype_one p x) w.versions }

  -- a record that is no VERSION
  pub rec-other : (r : Rec) → Set r → (r.kind ≡ kind.VERSION → ⊥) → Aside p r → set_rec p x r ≡ r
  unfolding Aside set_rec
  rec-other r f n (inl a) = rw (lt-leb (r.at + 4) p (omega (arith, a))) refl
  rec-other r f n (inr (inl a)) = let z = set_past r.body (p - (r.at + 4)) x (omega (arith, a, f.size)) in rw (le-leb (r.at + 4) p (omega (arith, a, f.size)), z) refl
  rec-other r f n (inr (inr a)) = absurd (n a.0)

  outside_low : (v : Version) → p < v.at + 10 → within p (length v.types) v ≡ false
  unfolding within ◌and◌
  outside_low v l = rw (lt-leb (v.at + 10) p l) refl

  outside_high : (v : Version) → v.at + 10 + length v.types ≤ p → within p (length v.types) v ≡ false
  unfolding within ◌and◌
  outside_high v l = go (leb (v.at + 10) p)
    where
      go : (b : Bool) → (b and ltb p (v.at + 10 + length v.types)) ≡ false
      go true = le-ltb p (v.at + 10 + length v.types) l
      go false = refl

  pub in-range : (v : Version) → v.at + 10 ≤ p → p < v.at + 10 + length v.types → within p (length v.types) v ≡ true
  unfolding within ◌and◌
  in-range v l h = rw (le-leb (v.at + 10) p l, lt-ltb p (v.at + 10 + length v.types) h) refl

  version-changed : (r : Rec) (g : ℕ) (bs : List Block) → Set r → r.kind ≡ kind.VERSION → Aside p r → version_of (set_rec p x r) g bs ≡ retype_one p x (version_of r g bs)
  unfolding Aside set_rec retype_one
  version-changed r g bs f k a = go a
    where
      v : Version
      v = version_of r g bs

      many : length (fields r.body 6 (r.body ! 3)) ≡ r.body ! 3
      many = length-every r.body 6 1 (r.body ! 3)

      past : r.at + r.size ≤ p → version_of (set_rec p x r) g bs ≡ retype_one p x (version_of r g bs)
      past l =
          let z = set_past r.body (p - (r.at + 4)) x (omega (arith, l, f.size)) in
          let o : within p (length (fields r.body 6 (r.body ! 3))) (version_of r g bs) ≡ false = outside_high (version_of r g bs) (rw many (omega (arith, l, f.version k))) in
          rw (le-leb (r.at + 4) p (omega (arith, l, f.size)), z, o) refl

      inside : r.at + 10 ≤ p → p < r.at + r.size → version_of (set_rec p x r) g bs ≡ retype_one p x (version_of r g bs)
      inside l h =
          let j = p - (r.at + 10) in
          let b = r.body in
          let m : p - (r.at + 4) ≡ 6 + j = omega (arith, l) in
          let o : within p (length (fields b 6 (b ! 3))) (version_of r g bs) ≡ true = in-range (version_of r g bs) l (rw many (omega (arith, h, f.version k))) in
          rw (
            le-leb (r.at + 4) p (omega (arith, l)),
            m,
            o,
            get_or-set_other b (6 + j) 0 x 0 (λ z. absurd (omega (arith, z))),
            get_or-set_other b (6 + j) 1 x 0 (λ z. absurd (omega (arith, z))),
            get_or-set_other b (6 + j) 2 x 0 (λ z. absurd (omega (arith, z))),
            get_or-set_other b (6 + j) 3 x 0 (λ z. absurd (omega (arith, z))),
            get_or-set_other b (6 + j) 4 x 0
                (λ z. absurd (omega (arith, z))),
            every_set b 6 j (b ! 3) x (omega (arith, l, h, f.version k)) (omega (arith, l, h, f.size)),
          ) refl

      go : (p < r.at) ⊎ ((r.at + r.size ≤ p) ⊎ ((r.kind ≡ kind.VERSION) × (r.at + 10 ≤ p))) → version_of (set_rec p x r) g bs ≡ retype_one p x (version_of r g bs)
      go (inl l) = rw (lt-leb (r.at + 4) p (omega (arith, l)), outside_low (version_of r g bs) (omega (arith, l))) refl
      go (inr (inl l)) = past l
      go (inr (inr l)) = near (dec_lt p (r.at + r.size))
        where
          near : Dec (p < r.at + r.size) → version_of (set_rec p x r) g bs ≡ retype_one p x (version_of r g bs)
          near (yes h) = inside l.1 h
          near (no h) = past (omega (arith, h))

  put-changed : (r : Rec) (w : View) → Set r → Aside p r → put (set_rec p x r) (retype_view w) ≡ retype_view (put r w)
  unfolding retype_view set_rec
  put-changed r w f a = go (eqb r.kind kind.VERSION) (eqb r.kind kind.BLOCK) refl refl
    where
      kind-stays : (set_rec p x r).kind ≡ r.kind
      kind-stays = kind-of (leb (r.at + 4) p)
        where
          kind-of : (b : Bool) → (cond {A = Rec} b (record { at = r.at; size = r.size; kind = r.kind; body = set r.body (p - (r.at + 4)) x }) r).kind ≡ r.kind
          kind-of true = refl
          kind-of false = refl

      go : (y z : Bool) → eqb r.kind kind.VERSION ≡ y → eqb r.kind kind.BLOCK ≡ z → put (set_rec p x r) (retype_view w) ≡ retype_view (put r w)
      go true z ey ez =
          let k = eqb-true r.kind kind.VERSION ey in
          put-version (set_rec p x r) (retype_view w) (rw kind-stays ey)
          ∙ ap (λ (v : Version). record { level = 0; code = []; blocks = []; versions = v ∷ map (retype_one p x) w.versions }) (version-changed r w.level w.blocks f k a)
          ∙ sym (ap retype_view (put-version r w ey))
      go false true ey ez = rw (rec-other r f (λ k. eqb-false _ _ ey k) a) (put-block r (retype_view w) ey ez ∙ sym (ap retype_view (put-block r w ey ez)))
      go false false ey ez = rw (rec-other r f (λ k. eqb-false _ _ ey k) a) (put-line r (retype_view w) ey ez ∙ sym (ap retype_view (put-line r w ey ez)))

  pub size-stays : (r : Rec) → (set_rec p x r).size ≡ r.size
  unfolding set_rec
  size-stays r = go (leb (r.at + 4) p)
    where
      go : (b : Bool) → (cond {A = Rec} b (record { at = r.at; size = r.size; kind = r.kind; body = set r.body (p - (r.at + 4)) x }) r).size ≡ r.size
      go true = refl
      go false = refl

  view-changed : (rs : List Rec) → Sets rs → Asides p rs → view (map (set_rec p x) rs) ≡ retype_view (view rs)
  unfolding Sets Asides retype_view view_by
  view-changed [] f a = refl
  view-changed (r ∷ rs) f a =
      view-whole (set_rec p x r) (map (set_rec p x) rs) (rw (size-stays r) (omega (arith, f.0.size)))
      ∙ ap (put (set_rec p x r)) (view-changed rs f.1 a.1)
      ∙ put-changed r (view rs) f.0 a.0
      ∙ sym (ap retype_view (view-whole r rs (omega (arith, f.0.size))))

-- THE LAW of the program of a changed image
pub program-changed : (s : List ℕ) (p x : ℕ) → question2 (records s) ≡ None → question3 Form.Wide (records s) ≡ None → Asides p (records s) → program (records (set s p x)) ≡ retype p x (program (records s))
unfolding retype_view
program-changed s p x q2 q3 a = ap (λ (rs : List Rec). program rs) (records-changed s p x q2 a) ∙ ap (λ (w : View). w.versions) (view-changed p x (records s) (sets-from (records s) 0 (length s) (chained s q2) q3) a)

-- ---- the places

-- p is one of the register type bytes of a VERSION
unfoldable pub Typed : ℕ → List Rec → Type 0
Typed p [] = ⊥
Typed p (r ∷ rs) = ((r.kind ≡ kind.VERSION) × (r.at + 10 ≤ p) × (p < r.at + r.size)) ⊎ Typed p rs

asides-before : (p : ℕ) (rs : List Rec) (c e : ℕ) → Chain c rs e → p < c → Asides p rs
unfolding Chain Asides Aside
asides-before p [] c e ch l = tt
asides-before p (r ∷ rs) c e ch l = (inl (omega (arith, l, ch.0)), asides-before p rs (c + r.size) e ch.2 (omega (arith, l)))

typed-behind : (p : ℕ) (rs : List Rec) (c e : ℕ) → Chain c rs e → Typed p rs → c ≤ p
unfolding Chain Typed
typed-behind p [] c e ch t = absurd t
typed-behind p (r ∷ rs) c e ch (inl t) = omega (arith, ch.0, t.1)
typed-behind p (r ∷ rs) c e ch (inr t) = omega (arith, typed-behind p rs (c + r.size) e ch.2 t)

pub asides : (p : ℕ) (rs : List Rec) (c e : ℕ) → Chain c rs e → Typed p rs → Asides p rs
unfolding Chain Asides Aside Typed
asides p [] c e ch t = tt
asides p (r ∷ rs) c e ch (inl t) = (inr (inr (t.0, t.1)), asides-before p rs (c + r.size) e ch.2 (omega (arith, ch.0, t.2)))
asides p (r ∷ rs) c e ch (inr t) = (inr (inl (omega (arith, ch.0, typed-behind p rs (c + r.size) e ch.2 t))), asides p rs (c + r.size) e ch.2 t)
