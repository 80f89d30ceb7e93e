-- The list: each row's bound agrees with those of the versions that it depends on, which stand before it.
use mathlib.Core.Path.{◌≡◌, refl, sym, ap, ◌∙◌, subst}
use mathlib.Core.Logic.{◌⊎◌, inl, inr}
use mathlib.Core.List.{List, [], ◌∷◌, ◌++◌, Memᴰ}
use mathlib.Core.Option.{Option, none, some}
use mathlib.Core.Bool.{Bool, true, false, cond, not, ◌||◌, false≢true, true≢false}
use Prim.Native.Nat.{ℕ, zero, suc, ◌≤◌, ◌<◌}
use native.Mathlib.Omega.{arith}
use lib.ListN.{length}
use lib.Dec.{eqb}
use borrow.Author.Tests.{eqb-true, eqb-false, not-true}
use Rattle.layout.specs.Bounds.{FUNCTIONS, VERSIONS}
use Rattle.layout.specs.Tests.{◌and◌, all, any}
use Rattle.layout.proofs.Bools.{and_both}
use Rattle.rules.proofs.Follows.{or-either, or_left, or_right}
use Rattle.program.specs.Program.{Line, Block, Version, Program, find_version}
use Rattle.program.proofs.Held.{find-own}
use Rattle.bounds.specs.Bounds.{passing, fitting, reaches, reached_by, reached_in, dependencies, largest, steps_at, steps_to, steps_in, steps_of, Row, same, is_listed, bound_in, is_free, first_of, versions_from, by_number, row_of, listed_from, bounded}
use Rattle.bounds.specs.Claim.{place_in}
use Rattle.bounds.proofs.Priced.{mem-left, mem-right, Own, Priced}

-- ---- lists

pub mem-split : {A : Type 0} (x : A) (l m : List A) → Memᴰ x (l ++ m) → Memᴰ x l ⊎ Memᴰ x m
mem-split x [] m h = inr h
mem-split x (y ∷ l) m (Memᴰ.head e) = inl (Memᴰ.head e)
mem-split {A} x (y ∷ l) m (Memᴰ.tail h) = go (mem-split x l m h)
  where
    go : Memᴰ x l ⊎ Memᴰ x m → Memᴰ x (y ∷ l) ⊎ Memᴰ x m
    go (inl e) = inl (Memᴰ.tail e)
    go (inr e) = inr e

pub mem-one : {A : Type 0} (x y : A) → Memᴰ x (y ∷ []) → x ≡ y
mem-one x y (Memᴰ.head e) = e
mem-one x y (Memᴰ.tail h) = elim h [ ]

pub all-mem : {A : Type 0} (p : A → Bool) (l : List A) (x : A) → all p l ≡ true → Memᴰ x l → p x ≡ true
unfolding all
all-mem p [] x h m = elim m [ ]
all-mem p (y ∷ l) x h (Memᴰ.head e) = ap p e ∙ (and_both _ _ h).0
all-mem p (y ∷ l) x h (Memᴰ.tail m) = all-mem p l x (and_both _ _ h).1 m

pub first-mem : (p : Version → Bool) (vs : List Version) (v : Version) → first_of p vs ≡ some v → Memᴰ v vs × (p v ≡ true)
unfolding first_of
first-mem p [] v h = let z : ◌≡◌ {A = ℕ} 0 1 = cc in absurd (omega arith)
first-mem p (x ∷ vs) v h = go (p x) refl h (first-mem p vs v)
  where
    go : (b : Bool) → p x ≡ b → cond b (some x) (first_of p vs) ≡ some v → (first_of p vs ≡ some v → Memᴰ v vs × (p v ≡ true)) → Memᴰ v (x ∷ vs) × (p v ≡ true)
    go true e q ih = let y : x ≡ v = cc in (Memᴰ.head (sym y), subst (λ (z : Version). p z ≡ true) y e)
    go false e q ih = let t = ih q in (Memᴰ.tail t.0, t.1)

-- ---- versions by number

pub same_self : (v : Version) → same v v ≡ true
unfolding same ◌and◌
same_self v = rw (refl-eqb v.function, refl-eqb v.version) refl
  where
    refl-eqb : (n : ℕ) → eqb n n ≡ true
    refl-eqb n = go (eqb n n) refl
      where
        go : (b : Bool) → eqb n n ≡ b → eqb n n ≡ true
        go true e = e
        go false e = absurd (eqb-false n n e refl)

-- two that are found by their own numbers, and have the same, are one
pub same-own : (P : Program) (u v : Version) → Own P u → Own P v → same u v ≡ true → u ≡ v
unfolding same
same-own P u v a b h =
    let t = and_both _ _ h in
    let e = eqb-true u.function v.function t.0 in
    let g = eqb-true u.version v.version t.1 in
    let q : ◌≡◌ {A = Option Version} (some u) (some v) = sym a ∙ ap (λ (n : ℕ). find_version P n u.version) e ∙ ap (λ (n : ℕ). find_version P v.function n) g ∙ b in
    cc

pub passing-own : (P : Program) (p : Version → Bool) (f w : ℕ) (v : Version) → Memᴰ v (passing p (find_version P f w)) → Own P v
unfolding passing
passing-own P p f w v h = go (find_version P f w) refl h
  where
    one : (x : Version) (b : Bool) → find_version P f w ≡ some x → Memᴰ v (cond b (x ∷ []) []) → Own P v
    one x true e m = rw (mem-one v x m) (find-own P f w x e)
    one x false e m = elim m [ ]

    go : (o : Option Version) → find_version P f w ≡ o → Memᴰ v (passing p o) → Own P v
    go none e m = elim m [ ]
    go (some x) e m = one x (p x) e m

pub fitting-own : (P : Program) (f : ℕ) (p : Version → Bool) (n w : ℕ) (v : Version) → Memᴰ v (fitting P f p n w) → Own P v
unfolding fitting
fitting-own P f p zero w v h = elim h [ ]
fitting-own P f p (suc n) w v h = go (mem-split v (passing p (find_version P f w)) (fitting P f p n (suc w)) h) (fitting-own P f p n (suc w) v)
  where
    go : Memᴰ v (passing p (find_version P f w)) ⊎ Memᴰ v (fitting P f p n (suc w)) → (Memᴰ v (fitting P f p n (suc w)) → Own P v) → Own P v
    go (inl m) ih = passing-own P p f w v m
    go (inr m) ih = ih m

from-own : (P : Program) (n f : ℕ) (v : Version) → Memᴰ v (versions_from P n f) → Own P v
unfolding versions_from
from-own P zero f v h = elim h [ ]
from-own P (suc n) f v h = go (mem-split v (fitting P f (λ v. true) VERSIONS 0) (versions_from P n (suc f)) h) (from-own P n (suc f) v)
  where
    go : Memᴰ v (fitting P f (λ v. true) VERSIONS 0) ⊎ Memᴰ v (versions_from P n (suc f)) → (Memᴰ v (versions_from P n (suc f)) → Own P v) → Own P v
    go (inl m) ih = fitting-own P f (λ v. true) VERSIONS 0 v m
    go (inr m) ih = ih m

pub number-own : (P : Program) (v : Version) → Memᴰ v (by_number P) → Own P v
unfolding by_number
number-own P v h = from-own P FUNCTIONS 0 v h

-- ---- bounds that agree on what is reached

largest-same : (a b : Version → ℕ) (vs : List Version) → ((X : Version) → Memᴰ X vs → a X ≡ b X) → largest a vs ≡ largest b vs
unfolding largest
largest-same a b [] h = refl
largest-same a b (v ∷ vs) h = rw (h v (Memᴰ.head refl), largest-same a b vs (λ X m. h X (Memᴰ.tail m))) refl

to_same : (P : Program) (v : Version) (a b : Version → ℕ) (ls : List Line) → ((X : Version) → Memᴰ X (reached_by P v ls) → a X ≡ b X) → steps_to (steps_at P a v) ls ≡ steps_to (steps_at P b v) ls
unfolding steps_to steps_at reached_by
to_same P v a b [] h = refl
to_same P v a b (l ∷ ls) h = rw (largest-same a b (reaches P v l.does) (λ X m. h X (mem-left X (reaches P v l.does) (reached_by P v ls) m)), to_same P v a b ls (λ X m. h X (mem-right X (reaches P v l.does) (reached_by P v ls) m))) refl

in-same : (P : Program) (v : Version) (a b : Version → ℕ) (bs : List Block) → ((X : Version) → Memᴰ X (reached_in P v bs) → a X ≡ b X) → steps_in (steps_at P a v) bs ≡ steps_in (steps_at P b v) bs
unfolding steps_in reached_in
in-same P v a b [] h = refl
in-same P v a b (x ∷ bs) h = rw (to_same P v a b x.code (λ X m. h X (mem-left X (reached_by P v x.code) (reached_in P v bs) m)), in-same P v a b bs (λ X m. h X (mem-right X (reached_by P v x.code) (reached_in P v bs) m))) refl

pub steps-same : (P : Program) (a b : Version → ℕ) (v : Version) → ((X : Version) → Memᴰ X (dependencies P v) → a X ≡ b X) → steps_of P a v ≡ steps_of P b v
unfolding steps_of dependencies
steps-same P a b v h = in-same P v a b v.blocks h

-- ---- rows

pub listed_more : (rows more : List Row) (v : Version) → is_listed rows v ≡ true → is_listed (rows ++ more) v ≡ true
unfolding is_listed any
listed_more [] more v h = absurd (false≢true h)
listed_more (r ∷ rows) more v h = go (or-either (same r.version v) (any (λ (x : Row). same x.version v) rows) h) (listed_more rows more v)
  where
    go : (same r.version v ≡ true) ⊎ (any (λ (x : Row). same x.version v) rows ≡ true) → (any (λ (x : Row). same x.version v) rows ≡ true → any (λ (x : Row). same x.version v) (rows ++ more) ≡ true) → (same r.version v || any (λ (x : Row). same x.version v) (rows ++ more)) ≡ true
    go (inl e) ih = or_left _ e
    go (inr e) ih = or_right (same r.version v) (ih e)

-- what a listed version has is its row's
pub record Has (rows : List Row) (v : Version) : Type 0 where
  pub row : Row
  pub in_rows : Memᴰ row rows
  pub named : same row.version v ≡ true
  pub bound : bound_in rows v ≡ row.steps

pub has-row : (rows : List Row) (v : Version) → is_listed rows v ≡ true → Has rows v
unfolding is_listed any bound_in
has-row [] v h = absurd (false≢true h)
has-row (r ∷ rows) v h = go (same r.version v) refl h (has-row rows v)
  where
    go : (b : Bool) → same r.version v ≡ b → (b || any (λ (x : Row). same x.version v) rows) ≡ true → (any (λ (x : Row). same x.version v) rows ≡ true → Has rows v) → Has (r ∷ rows) v
    go true e q ih = record { row = r; in_rows = Memᴰ.head refl; named = e; bound = rw e refl }
    go false e q ih = let t = ih q in record { row = t.row; in_rows = Memᴰ.tail t.in_rows; named = t.named; bound = rw e t.bound }

pub bound-more : (rows more : List Row) (v : Version) → is_listed rows v ≡ true → bound_in (rows ++ more) v ≡ bound_in rows v
unfolding is_listed any bound_in
bound-more [] more v h = absurd (false≢true h)
bound-more (r ∷ rows) more v h = go (same r.version v) h (bound-more rows more v)
  where
    go : (b : Bool) → (b || any (λ (x : Row). same x.version v) rows) ≡ true → (any (λ (x : Row). same x.version v) rows ≡ true → bound_in (rows ++ more) v ≡ bound_in rows v) → cond b r.steps (bound_in (rows ++ more) v) ≡ cond b r.steps (bound_in rows v)
    go true q ih = refl
    go false q ih = ih q

-- a listed version keeps its place; one that is not stands behind all
rank-more : (rows more : List Row) (v : Version) → is_listed rows v ≡ true → (place_in (rows ++ more) v ≡ place_in rows v) × (place_in rows v < length rows)
unfolding is_listed any place_in
rank-more [] more v h = absurd (false≢true h)
rank-more (r ∷ rows) more v h = go (same r.version v) h (rank-more rows more v)
  where
    go : (b : Bool) → (b || any (λ (x : Row). same x.version v) rows) ≡ true → (any (λ (x : Row). same x.version v) rows ≡ true → (place_in (rows ++ more) v ≡ place_in rows v) × (place_in rows v < length rows))
        → (cond b 0 (suc (place_in (rows ++ more) v)) ≡ cond b 0 (suc (place_in rows v))) × (cond b 0 (suc (place_in rows v)) < suc (length rows))
    go true q ih = (refl, omega arith)
    go false q ih = let t = ih q in (ap suc t.0, omega (arith, t.1))

rank-new : (rows : List Row) (r : Row) → is_listed rows r.version ≡ false → place_in (rows ++ (r ∷ [])) r.version ≡ length rows
unfolding is_listed any place_in
rank-new [] r h = rw (same_self r.version) refl
rank-new (x ∷ rows) r h = go (same x.version r.version) h (rank-new rows r)
  where
    go : (b : Bool) → (b || any (λ (y : Row). same y.version r.version) rows) ≡ false → (any (λ (y : Row). same y.version r.version) rows ≡ false → place_in (rows ++ (r ∷ [])) r.version ≡ length rows) → cond b 0 (suc (place_in (rows ++ (r ∷ [])) r.version)) ≡ suc (length rows)
    go true q ih = absurd (true≢false q)
    go false q ih = ap suc (ih q)

pub new-listed : (rows : List Row) (r : Row) → is_listed (rows ++ (r ∷ [])) r.version ≡ true
unfolding is_listed any
new-listed [] r = rw (same_self r.version) refl
new-listed (x ∷ rows) r = or_right (same x.version r.version) (new-listed rows r)

-- ---- rows that agree

pub record Agrees (P : Program) (rows : List Row) : Type 0 where
  pub own : (r : Row) → Memᴰ r rows → Own P r.version
  pub closed : (r : Row) → Memᴰ r rows → (X : Version) → Memᴰ X (dependencies P r.version) → is_listed rows X ≡ true
  pub before : (r : Row) → Memᴰ r rows → (X : Version) → Memᴰ X (dependencies P r.version) → place_in rows X < place_in rows r.version
  pub cost : (r : Row) → Memᴰ r rows → r.steps ≡ steps_of P (bound_in rows) r.version
  pub listed : (r : Row) → Memᴰ r rows → is_listed rows r.version ≡ true

agrees-none : (P : Program) → Agrees P []
agrees-none P = record { own = λ r m. elim m [ ]; closed = λ r m. elim m [ ]; before = λ r m. elim m [ ]; cost = λ r m. elim m [ ]; listed = λ r m. elim m [ ] }

agrees-one : (P : Program) (rows : List Row) (v : Version) → Own P v → is_free P rows v ≡ true → Agrees P rows → Agrees P (rows ++ (row_of P rows v ∷ []))
unfolding is_free row_of
agrees-one P rows v o f a = record {
  own = λ r m. own r (split r m);
  closed = λ r m X d. listed_more rows (new ∷ []) X (closed r (split r m) X d);
  before = λ r m X d. before r (split r m) X d;
  cost = λ r m. cost r (split r m) ∙ sym (steps-same P (bound_in (rows ++ (new ∷ []))) (bound_in rows) r.version (λ X d. bound-more rows (new ∷ []) X (closed r (split r m) X d)));
  listed = λ r m. listed r (split r m);
}
  where
    new : Row
    new = row_of P rows v

    free : (not (is_listed rows v) ≡ true) × (all (is_listed rows) (dependencies P v) ≡ true)
    free = and_both _ _ f

    split : (r : Row) → Memᴰ r (rows ++ (new ∷ [])) → Memᴰ r rows ⊎ (r ≡ new)
    split r m = go (mem-split r rows (new ∷ []) m)
      where
        go : Memᴰ r rows ⊎ Memᴰ r (new ∷ []) → Memᴰ r rows ⊎ (r ≡ new)
        go (inl e) = inl e
        go (inr e) = inr (mem-one r new e)

    own : (r : Row) → Memᴰ r rows ⊎ (r ≡ new) → Own P r.version
    own r (inl m) = a.own r m
    own r (inr e) = rw e o

    closed : (r : Row) → Memᴰ r rows ⊎ (r ≡ new) → (X : Version) → Memᴰ X (dependencies P r.version) → is_listed rows X ≡ true
    closed r (inl m) X d = a.closed r m X d
    closed r (inr e) X d = all-mem (is_listed rows) (dependencies P v) X free.1 (subst (λ (x : Row). Memᴰ X (dependencies P x.version)) e d)

    before : (r : Row) → Memᴰ r rows ⊎ (r ≡ new) → (X : Version) → Memᴰ X (dependencies P r.version) → place_in (rows ++ (new ∷ [])) X < place_in (rows ++ (new ∷ [])) r.version
    before r (inl m) X d =
        let p = rank-more rows (new ∷ []) X (a.closed r m X d) in
        let q = rank-more rows (new ∷ []) r.version (a.listed r m) in
        omega (arith, p.0, q.0, a.before r m X d)
    before r (inr e) X d =
        let p = rank-more rows (new ∷ []) X (closed r (inr e) X d) in
        let q = rank-new rows new (not-true _ free.0) in
        let z : place_in (rows ++ (new ∷ [])) r.version ≡ place_in (rows ++ (new ∷ [])) new.version = ap (λ (x : Row). place_in (rows ++ (new ∷ [])) x.version) e in
        omega (arith, p.0, p.1, q, z)

    cost : (r : Row) → Memᴰ r rows ⊎ (r ≡ new) → r.steps ≡ steps_of P (bound_in rows) r.version
    cost r (inl m) = a.cost r m
    cost r (inr e) = rw e refl

    listed : (r : Row) → Memᴰ r rows ⊎ (r ≡ new) → is_listed (rows ++ (new ∷ [])) r.version ≡ true
    listed r (inl m) = listed_more rows (new ∷ []) r.version (a.listed r m)
    listed r (inr e) = rw e (new-listed rows new)

agrees_from : (P : Program) (vs : List Version) → ((v : Version) → Memᴰ v vs → Own P v) → (n : ℕ) (rows : List Row) → Agrees P rows → Agrees P (listed_from P vs n rows)
unfolding listed_from
agrees_from P vs o zero rows a = a
agrees_from P vs o (suc n) rows a = go (first_of (is_free P rows) vs) refl (λ r b. agrees_from P vs o n r b)
  where
    go : (x : Option Version) → first_of (is_free P rows) vs ≡ x → ((r : List Row) → Agrees P r → Agrees P (listed_from P vs n r)) → Agrees P (elim x [ none ↦ rows | some v ↦ listed_from P vs n (rows ++ (row_of P rows v ∷ [])) ])
    go none e ih = a
    go (some v) e ih = let t = first-mem (is_free P rows) vs v e in ih (rows ++ (row_of P rows v ∷ [])) (agrees-one P rows v (o v t.0) t.1 a)

pub agrees : (P : Program) → Agrees P (bounded P)
unfolding bounded
agrees P = agrees_from P (by_number P) (λ v m. number-own P v m) (length (by_number P)) [] (agrees-none P)

-- THE LAW: the bounds of the list agree
pub priced : (P : Program) → Priced P (bound_in (bounded P)) (is_listed (bounded P))
priced P = record { closed = closed; covers = covers }
  where
    rows : List Row
    rows = bounded P

    row_is : (v : Version) → Own P v → (h : Has rows v) → h.row.version ≡ v
    row_is v o h = same-own P h.row.version v ((agrees P).own h.row h.in_rows) o h.named

    closed : (v X : Version) → Own P v → is_listed rows v ≡ true → Own P X → Memᴰ X (dependencies P v) → is_listed rows X ≡ true
    closed v X o g p d = let h = has-row rows v g in (agrees P).closed h.row h.in_rows X (rw (row_is v o h) d)

    covers : (v : Version) → Own P v → is_listed rows v ≡ true → steps_of P (bound_in rows) v ≤ bound_in rows v
    covers v o g = let h = has-row rows v g in
        let e : h.row.steps ≡ steps_of P (bound_in rows) v = (agrees P).cost h.row h.in_rows ∙ ap (steps_of P (bound_in rows)) (row_is v o h) in
        omega (arith, e, h.bound)
