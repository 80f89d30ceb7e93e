-- None is given exactly where a chain of dependence comes back: a listed version stands behind what it depends on, and one that is not listed depends on another such.
use mathlib.Core.Path.{◌≡◌, refl, sym, ap, ◌∙◌, subst}
use mathlib.Core.Logic.{◌⊎◌, inl, inr}
use mathlib.Core.List.{List, [], ◌∷◌, ◌++◌, Memᴰ}
use mathlib.Core.Option.{Option, none, some}
use mathlib.Core.Bool.{Bool, true, false, cond, not, ◌||◌, false≢true, true≢false}
use Prim.Native.Nat.{ℕ, zero, suc, ◌+◌, ◌≤◌, ◌<◌}
use native.Mathlib.Omega.{arith}
use lib.ListN.{length}
use lib.Dec.{ltb}
use borrow.Author.Tests.{ltb-true}
use Rattle.layout.specs.Bounds.{FUNCTIONS, VERSIONS, LEVELS}
use Rattle.layout.specs.Tests.{◌and◌, all, any, count}
use Rattle.layout.proofs.Bools.{and_both}
use Rattle.rules.proofs.Follows.{or-either, or_right}
use Rattle.program.specs.Program.{Instr, LIT, MOVE, USE, DUP, VEC, LEN, GET, SET, ARITH, SELECT, CAST, NAMED, STORE, PROM, FORCE, PEEK, POKE, CALL, DISPATCH, SKIP, Line, Block, Version, Program, find_version}
use Rattle.program.proofs.Held.{find-own}
use Rattle.program.proofs.Laid.{version_bounded}
use Rattle.checker.proofs.Accepted.{checked}
use Rattle.machine.specs.Begin.{program_of}
use Rattle.soundness.proofs.Invariant.{Sure}
use Rattle.bounds.specs.Bounds.{allows, passing, fitting, reaches, reached_by, reached_in, dependencies, Row, same, is_listed, bound_in, is_free, first_of, versions_from, by_number, row_of, listed_from, bounded, steps, large, unbounded, MOST, reads, bound_of}
use Rattle.bounds.specs.Claim.{place_in, AfterThose, Depends, Chain, link, more, Returns, itself, later, NoneExactly, Exactly}
use Rattle.bounds.proofs.Priced.{mem-left, mem-right, Own}
use Rattle.bounds.proofs.Listing.{mem-split, first-mem, same_self, same-own, passing-own, fitting-own, listed_more, has-row, new-listed, agrees}

-- ---- what a version depends on is found by its own numbers

reaches-own : (P : Program) (v : Version) (i : Instr) (X : Version) → Memᴰ X (reaches P v i) → Own P X
unfolding reaches
reaches-own P v (LIT d i) X m = elim m [ ]
reaches-own P v (MOVE d a) X m = elim m [ ]
reaches-own P v (USE d a) X m = elim m [ ]
reaches-own P v (DUP d a) X m = elim m [ ]
reaches-own P v (VEC d rs) X m = elim m [ ]
reaches-own P v (LEN d a) X m = elim m [ ]
reaches-own P v (GET d a i) X m = elim m [ ]
reaches-own P v (SET a i e) X m = elim m [ ]
reaches-own P v (ARITH d op a b) X m = elim m [ ]
reaches-own P v (SELECT d c a b) X m = elim m [ ]
reaches-own P v (CAST d a) X m = elim m [ ]
reaches-own P v (NAMED d x) X m = elim m [ ]
reaches-own P v (STORE x a) X m = elim m [ ]
reaches-own P v (PROM d b) X m = elim m [ ]
reaches-own P v (FORCE d a) X m = elim m [ ]
reaches-own P v (PEEK d a x) X m = elim m [ ]
reaches-own P v (POKE a x e) X m = elim m [ ]
reaches-own P v (SKIP a n) X m = elim m [ ]
reaches-own P v (CALL d f w rs) X m = passing-own P (λ c. true) f w X m
reaches-own P v (DISPATCH d f mark ret pairs) X m = fitting-own P f (allows v.level mark ret pairs) VERSIONS 0 X m

by-own : (P : Program) (v : Version) (ls : List Line) (X : Version) → Memᴰ X (reached_by P v ls) → Own P X
unfolding reached_by
by-own P v [] X m = elim m [ ]
by-own P v (l ∷ ls) X m = go (mem-split X (reaches P v l.does) (reached_by P v ls) m) (by-own P v ls X)
  where
    go : Memᴰ X (reaches P v l.does) ⊎ Memᴰ X (reached_by P v ls) → (Memᴰ X (reached_by P v ls) → Own P X) → Own P X
    go (inl e) ih = reaches-own P v l.does X e
    go (inr e) ih = ih e

in-own : (P : Program) (v : Version) (bs : List Block) (X : Version) → Memᴰ X (reached_in P v bs) → Own P X
unfolding reached_in
in-own P v [] X m = elim m [ ]
in-own P v (b ∷ bs) X m = go (mem-split X (reached_by P v b.code) (reached_in P v bs) m) (in-own P v bs X)
  where
    go : Memᴰ X (reached_by P v b.code) ⊎ Memᴰ X (reached_in P v bs) → (Memᴰ X (reached_in P v bs) → Own P X) → Own P X
    go (inl e) ih = by-own P v b.code X e
    go (inr e) ih = ih e

pub depends-own : (P : Program) (v X : Version) → Depends P v X → Own P X
unfolding dependencies
depends-own P v X m = in-own P v v.blocks X m

-- ---- every version is listed by number

fitting-in : (P : Program) (f : ℕ) (n w i : ℕ) (X : Version) → i < n → find_version P f (w + i) ≡ some X → Memᴰ X (fitting P f (λ v. true) n w)
unfolding fitting passing
fitting-in P f zero w i X h e = absurd (omega arith)
fitting-in P f (suc n) w zero X h e = let z : w + 0 ≡ w = omega arith in let g : find_version P f w ≡ some X = rw z at e in rw g (mathlib.Core.List.Memᴰ.head refl)
fitting-in P f (suc n) w (suc i) X h e = let z : w + suc i ≡ suc w + i = omega arith in mem-right X (passing (λ v. true) (find_version P f w)) (fitting P f (λ v. true) n (suc w)) (fitting-in P f n (suc w) i X (omega arith) (rw z at e))

from_in : (P : Program) (n f i w : ℕ) (X : Version) → i < n → w < VERSIONS → find_version P (f + i) w ≡ some X → Memᴰ X (versions_from P n f)
unfolding versions_from
from_in P zero f i w X h l e = absurd (omega arith)
from_in P (suc n) f zero w X h l e =
    let z : f + 0 ≡ f = omega arith in
    let y : 0 + w ≡ w = omega arith in
    let g : find_version P f w ≡ some X = rw z at e in
    mem-left X (fitting P f (λ v. true) VERSIONS 0) (versions_from P n (suc f)) (fitting-in P f VERSIONS 0 w X l (rw y g))
from_in P (suc n) f (suc i) w X h l e = let z : f + suc i ≡ suc f + i = omega arith in mem-right X (fitting P f (λ v. true) VERSIONS 0) (versions_from P n (suc f)) (from_in P n (suc f) i w X (omega arith) l (rw z at e))

pub number_in : (P : Program) → Sure P → (X : Version) → Own P X → Memᴰ X (by_number P)
unfolding by_number version_bounded
number_in P sure X o =
    let b : version_bounded X ≡ true = (sure X.function X.version X o).bound.of_version in
    let l = and_both (ltb X.level LEVELS) _ b in
    let p = and_both (ltb X.function FUNCTIONS) _ l.1 in
    let q = and_both (ltb X.version VERSIONS) _ p.1 in
    let z : 0 + X.function ≡ X.function = omega arith in
    from_in P FUNCTIONS 0 X.function X.version X (ltb-true _ _ p.0) (ltb-true _ _ q.0) (rw z o)

-- ---- counting what passes

count_less : (p q : Version → Bool) (vs : List Version) → ((x : Version) → q x ≡ true → p x ≡ true) → count q vs ≤ count p vs
unfolding count
count_less p q [] h = omega arith
count_less p q (x ∷ vs) h = go (p x) (q x) refl refl (count_less p q vs h)
  where
    go : (a b : Bool) → p x ≡ a → q x ≡ b → count q vs ≤ count p vs → cond b 1 0 + count q vs ≤ cond a 1 0 + count p vs
    go true true e f ih = omega arith
    go true false e f ih = omega arith
    go false true e f ih = absurd (true≢false (sym (h x f) ∙ e))
    go false false e f ih = omega arith

-- one that passes the first test and not the second
count-falls : (p q : Version → Bool) (vs : List Version) → ((x : Version) → q x ≡ true → p x ≡ true) → (v : Version) → Memᴰ v vs → p v ≡ true → q v ≡ false → suc (count q vs) ≤ count p vs
unfolding count
count-falls p q [] h v m a b = elim m [ ]
count-falls p q (x ∷ vs) h v (mathlib.Core.List.Memᴰ.head e) a b =
    let c : p x ≡ true = ap p (sym e) ∙ a in
    let d : q x ≡ false = ap q (sym e) ∙ b in
    rw (c, d) (omega (arith, count_less p q vs h))
count-falls p q (x ∷ vs) h v (mathlib.Core.List.Memᴰ.tail m) a b = go (p x) (q x) refl refl (count-falls p q vs h v m a b)
  where
    go : (a b : Bool) → p x ≡ a → q x ≡ b → suc (count q vs) ≤ count p vs → suc (cond b 1 0 + count q vs) ≤ cond a 1 0 + count p vs
    go true true e f ih = omega arith
    go true false e f ih = omega arith
    go false true e f ih = absurd (true≢false (sym (h x f) ∙ e))
    go false false e f ih = omega arith

pub count-some : (p : Version → Bool) (vs : List Version) (v : Version) → Memᴰ v vs → p v ≡ true → 1 ≤ count p vs
unfolding count
count-some p [] v m a = elim m [ ]
count-some p (x ∷ vs) v (mathlib.Core.List.Memᴰ.head e) a = let c : p x ≡ true = ap p (sym e) ∙ a in rw c (omega arith)
count-some p (x ∷ vs) v (mathlib.Core.List.Memᴰ.tail m) a = omega (arith, count-some p vs v m a)

pub count_most : (p : Version → Bool) (vs : List Version) → count p vs ≤ length vs
unfolding count
count_most p [] = omega arith
count_most p (x ∷ vs) = go (p x) (count_most p vs)
  where
    go : (b : Bool) → count p vs ≤ length vs → cond b 1 0 + count p vs ≤ suc (length vs)
    go true ih = omega arith
    go false ih = omega arith

-- ---- none is the first

pub first-none : (p : Version → Bool) (vs : List Version) (v : Version) → first_of p vs ≡ none → Memᴰ v vs → p v ≡ false
unfolding first_of
first-none p [] v h m = elim m [ ]
first-none p (x ∷ vs) v h m = go (p x) refl h m (first-none p vs v)
  where
    go : (b : Bool) → p x ≡ b → cond b (some x) (first_of p vs) ≡ none → Memᴰ v (x ∷ vs) → (first_of p vs ≡ none → Memᴰ v vs → p v ≡ false) → p v ≡ false
    go true e q n ih = let z : ◌≡◌ {A = ℕ} 0 1 = cc in absurd (omega arith)
    go false e q (mathlib.Core.List.Memᴰ.head i) ih = ap p i ∙ e
    go false e q (mathlib.Core.List.Memᴰ.tail n) ih = ih q n

none_first : (p : Version → Bool) (vs : List Version) → ((v : Version) → Memᴰ v vs → p v ≡ false) → first_of p vs ≡ none
unfolding first_of
none_first p [] h = refl
none_first p (x ∷ vs) h = rw (h x (mathlib.Core.List.Memᴰ.head refl)) (none_first p vs (λ v m. h v (mathlib.Core.List.Memᴰ.tail m)))

-- one that does not pass
not-all : (p : Version → Bool) (l : List Version) → all p l ≡ false → (x : Version) × Memᴰ x l × (p x ≡ false)
unfolding all ◌and◌
not-all p [] h = absurd (true≢false h)
not-all p (y ∷ l) h = go (p y) refl h (not-all p l)
  where
    go : (b : Bool) → p y ≡ b → (b and all p l) ≡ false → (all p l ≡ false → (x : Version) × Memᴰ x l × (p x ≡ false)) → (x : Version) × Memᴰ x (y ∷ l) × (p x ≡ false)
    go true e q ih = let t = ih q in (t.0, mathlib.Core.List.Memᴰ.tail t.1, t.2)
    go false e q ih = (y, mathlib.Core.List.Memᴰ.head refl, e)

pub is-not : (b : Bool) → not b ≡ true → b ≡ false
is-not true h = absurd (false≢true h)
is-not false h = refl

pub not_is : (b : Bool) → b ≡ false → not b ≡ true
not_is b e = rw e refl

-- ---- along a chain of listed versions the places fall

module _ (P : Program) where
  abbrev R : List Row
  R = bounded P

  step-rank : (u v : Version) → Own P u → is_listed R u ≡ true → Depends P u v → (is_listed R v ≡ true) × (place_in R v < place_in R u)
  step-rank u v o l d =
      let h = has-row R u l in
      let e : h.row.version ≡ u = same-own P h.row.version u ((agrees P).own h.row h.in_rows) o h.named in
      let m : Memᴰ v (dependencies P h.row.version) = rw e d in
      ((agrees P).closed h.row h.in_rows v m, subst (λ (x : Version). place_in R v < place_in R x) e ((agrees P).before h.row h.in_rows v m))

  chain_rank : (u v : Version) → Chain P u v → Own P u → is_listed R u ≡ true → (is_listed R v ≡ true) × Own P v × (place_in R v < place_in R u)
  chain_rank u v (link a b d) o l = let t = step-rank u v o l d in (t.0, depends-own P u v d, t.1)
  chain_rank u w (more a v b d c) o l = let t = step-rank u v o l d in let r = chain_rank v w c (depends-own P u v d) t.0 in (r.0, r.1, omega (arith, t.1, r.2))

  no_return : (v : Version) → Own P v → is_listed R v ≡ true → Returns P v → ⊥
  no_return v o l (itself c) = let t = chain_rank v v c o l in omega (arith, t.2)
  no_return v o l (later u c r) = let t = chain_rank v u c o l in let q = chain_rank u u r t.1 t.0 in omega (arith, q.2)

-- a number reads as a number or large
pub reads-some : (n : ℕ) (b : Bool) → ltb MOST n ≡ b → reads n ≡ unbounded → ⊥
unfolding reads
reads-some n true l e = let q : large ≡ unbounded = rw l at e in let z : ◌≡◌ {A = ℕ} 0 1 = cc in omega arith
reads-some n false l e = let q : steps n ≡ unbounded = rw l at e in let z : ◌≡◌ {A = ℕ} 0 1 = cc in omega arith

-- ---- one that is not listed depends on another such

-- those that are not listed
abbrev pub open_in : List Row → Version → Bool
open_in rows v = not (is_listed rows v)

-- in the end none is free
pub none_free : (P : Program) (vs : List Version) (n : ℕ) (rows : List Row) → count (open_in rows) vs ≤ n → first_of (is_free P (listed_from P vs n rows)) vs ≡ none
unfolding listed_from is_free ◌and◌ row_of
none_free P vs zero rows h = none_first (is_free P rows) vs (λ v m. go v m (is_listed rows v) refl)
  where
    go : (v : Version) → Memᴰ v vs → (b : Bool) → is_listed rows v ≡ b → (not (is_listed rows v) and all (is_listed rows) (dependencies P v)) ≡ false
    go v m true e = rw e refl
    go v m false e = absurd (omega (arith, h, count-some (open_in rows) vs v m (not_is _ e)))
none_free P vs (suc n) rows h = go (first_of (is_free P rows) vs) refl (λ r l. none_free P vs n r l)
  where
    go : (o : Option Version) → first_of (is_free P rows) vs ≡ o → ((r : List Row) → count (open_in r) vs ≤ n → first_of (is_free P (listed_from P vs n r)) vs ≡ none) → first_of (is_free P (elim o [ none ↦ rows | some v ↦ listed_from P vs n (rows ++ (row_of P rows v ∷ [])) ])) vs ≡ none
    go none e ih = e
    go (some v) e ih =
        let t = first-mem (is_free P rows) vs v e in
        ih (rows ++ (row_of P rows v ∷ [])) (fewer v t.0 (and_both _ _ t.1).0)
      where
        fewer : (v : Version) → Memᴰ v vs → not (is_listed rows v) ≡ true → count (open_in (rows ++ (row_of P rows v ∷ []))) vs ≤ n
        fewer v m f =
            let new = row_of P rows v in
            let c = count-falls (open_in rows) (open_in (rows ++ (new ∷ []))) vs (λ x q. still x (is_listed rows x) refl q) v m f (rw (new-listed rows new) refl) in
            omega (arith, c, h)
          where
            still : (x : Version) (b : Bool) → is_listed rows x ≡ b → not (is_listed (rows ++ (row_of P rows v ∷ [])) x) ≡ true → not (is_listed rows x) ≡ true
            still x true e q = absurd (false≢true (ap not (sym (listed_more rows (row_of P rows v ∷ []) x e)) ∙ q))
            still x false e q = rw e refl

-- where none is free, the list stays
pub listed-stays : (P : Program) (vs : List Version) (n : ℕ) (rows : List Row) → first_of (is_free P rows) vs ≡ none → listed_from P vs n rows ≡ rows
unfolding listed_from
listed-stays P vs zero rows h = refl
listed-stays P vs (suc n) rows h = rw (h, listed_from) refl

-- n rounds and k more
listed-more-rounds : (P : Program) (vs : List Version) (n k : ℕ) (rows : List Row) → listed_from P vs (n + k) rows ≡ listed_from P vs k (listed_from P vs n rows)
unfolding listed_from
listed-more-rounds P vs zero k rows = let z : 0 + k ≡ k = omega arith in rw z refl
listed-more-rounds P vs (suc n) k rows = let z : suc n + k ≡ suc (n + k) = omega arith in rw z (go (first_of (is_free P rows) vs) refl (λ r. listed-more-rounds P vs n k r))
  where
    go : (o : Option Version) → first_of (is_free P rows) vs ≡ o → ((r : List Row) → listed_from P vs (n + k) r ≡ listed_from P vs k (listed_from P vs n r))
        → (elim o [ none ↦ rows | some v ↦ listed_from P vs (n + k) (rows ++ (row_of P rows v ∷ [])) ]) ≡ listed_from P vs k (elim o [ none ↦ rows | some v ↦ listed_from P vs n (rows ++ (row_of P rows v ∷ [])) ])
    go none e ih = sym (listed-stays P vs k rows e)
    go (some v) e ih = ih (rows ++ (row_of P rows v ∷ []))

-- THE LAW for the code's loop: any number of rounds that is no less than the open versions gives the same list
pub enough-rounds : (P : Program) (vs : List Version) (n k : ℕ) (rows : List Row) → count (open_in rows) vs ≤ n → listed_from P vs (n + k) rows ≡ listed_from P vs n rows
enough-rounds P vs n k rows h = listed-more-rounds P vs n k rows ∙ listed-stays P vs k (listed_from P vs n rows) (none_free P vs n rows h)

module _ (P : Program) (sure : Sure P) where
  -- so it depends on one that is not listed
  depends-open : (v : Version) → Own P v → is_listed (bounded P) v ≡ false → (X : Version) × Depends P v X × (is_listed (bounded P) X ≡ false)
  unfolding bounded is_free ◌and◌
  depends-open v o l =
      let f = none_free P (by_number P) (length (by_number P)) [] (count_most (open_in []) (by_number P)) in
      let g : (not (is_listed (bounded P) v) and all (is_listed (bounded P)) (dependencies P v)) ≡ false = first-none (is_free P (bounded P)) (by_number P) v f (number_in P sure v o) in
      not-all (is_listed (bounded P)) (dependencies P v) (rw l at g)

  -- ---- a walk through such versions comes back

  chain-on : (u v w : Version) → Chain P u v → Depends P v w → Chain P u w
  chain-on u v w (link a b d) e = more u v w d (link v w e)
  chain-on u v w (more a x b d c) e = more u x w d (chain-on x v w c e)

  -- seen by its numbers
  abbrev seen_in : List Version → Version → Bool
  seen_in seen v = any (λ (u : Version). same u v) seen

  seen_one : (seen : List Version) (v : Version) → ((u : Version) → Memᴰ u seen → Own P u) → Own P v → seen_in seen v ≡ true → Memᴰ v seen
  unfolding any
  seen_one [] v own o h = absurd (false≢true h)
  seen_one (u ∷ seen) v own o h = go (or-either (same u v) (seen_in seen v) h) (seen_one seen v (λ x m. own x (mathlib.Core.List.Memᴰ.tail m)) o)
    where
      go : (same u v ≡ true) ⊎ (seen_in seen v ≡ true) → (seen_in seen v ≡ true → Memᴰ v seen) → Memᴰ v (u ∷ seen)
      go (inl e) ih = mathlib.Core.List.Memᴰ.head (sym (same-own P u v (own u (mathlib.Core.List.Memᴰ.head refl)) o e))
      go (inr e) ih = mathlib.Core.List.Memᴰ.tail (ih e)

  record Walk (start : Version) (seen : List Version) (v : Version) : Type 0 where
    own : Own P v
    unlisted : is_listed (bounded P) v ≡ false
    owns : (u : Version) → Memᴰ u seen → Own P u
    chains : (u : Version) → Memᴰ u seen → Chain P u v
    from : (start ≡ v) ⊎ Chain P start v

  returned : (start v : Version) → (start ≡ v) ⊎ Chain P start v → Chain P v v → Returns P start
  returned start v (inl e) c = rw e (itself c)
  returned start v (inr d) c = later v d c

  -- those that were not seen
  abbrev unseen : List Version → Version → Bool
  unseen seen x = not (seen_in seen x)

  -- one link on
  walk-on : (start : Version) (seen : List Version) (v X : Version) → Walk start seen v → Depends P v X → is_listed (bounded P) X ≡ false → Walk start (v ∷ seen) X
  walk-on start seen v X w d l = record { own = depends-own P v X d; unlisted = l; owns = owns; chains = chains; from = from w.from }
    where
      owns : (u : Version) → Memᴰ u (v ∷ seen) → Own P u
      owns u (mathlib.Core.List.Memᴰ.head e) = rw e w.own
      owns u (mathlib.Core.List.Memᴰ.tail m) = w.owns u m

      chains : (u : Version) → Memᴰ u (v ∷ seen) → Chain P u X
      chains u (mathlib.Core.List.Memᴰ.head e) = rw e (link v X d)
      chains u (mathlib.Core.List.Memᴰ.tail m) = chain-on u v X (w.chains u m) d

      from : (start ≡ v) ⊎ Chain P start v → (start ≡ X) ⊎ Chain P start X
      from (inl e) = inr (rw e (link v X d))
      from (inr c) = inr (chain-on start v X c d)

  -- one more was seen
  unseen-falls : (seen : List Version) (v : Version) → Own P v → seen_in seen v ≡ false → suc (count (unseen (v ∷ seen)) (by_number P)) ≤ count (unseen seen) (by_number P)
  unfolding any
  unseen-falls seen v o e = count-falls (unseen seen) (unseen (v ∷ seen)) (by_number P) (λ x q. still x (seen_in seen x) refl q) v (number_in P sure v o) (rw e refl) (rw (same_self v) refl)
    where
      still : (x : Version) (b : Bool) → seen_in seen x ≡ b → not (same v x || seen_in seen x) ≡ true → not (seen_in seen x) ≡ true
      still x true e q = absurd (false≢true (ap not (sym (or_right (same v x) e)) ∙ q))
      still x false e q = rw e refl

  walk : (n : ℕ) (start : Version) (seen : List Version) (v : Version) → count (unseen seen) (by_number P) ≤ n → Walk start seen v → Returns P start
  walk zero start seen v h w = go (seen_in seen v) refl
    where
      go : (b : Bool) → seen_in seen v ≡ b → Returns P start
      go true e = returned start v w.from (w.chains v (seen_one seen v w.owns w.own e))
      go false e = absurd (omega (arith, h, unseen-falls seen v w.own e))
  walk (suc n) start seen v h w = go (seen_in seen v) refl (λ s x l y. walk n start s x l y)
    where
      go : (b : Bool) → seen_in seen v ≡ b → ((s : List Version) (x : Version) → count (unseen s) (by_number P) ≤ n → Walk start s x → Returns P start) → Returns P start
      go true e ih = returned start v w.from (w.chains v (seen_one seen v w.owns w.own e))
      go false e ih = let t = depends-open v w.own w.unlisted in ih (v ∷ seen) t.0 (omega (arith, h, unseen-falls seen v w.own e)) (walk-on start seen v t.0 w t.1 t.2)

  -- ---- none is given exactly then

  open-returns : (v : Version) → Own P v → is_listed (bounded P) v ≡ false → Returns P v
  open-returns v o l = walk (count (unseen []) (by_number P)) v [] v (omega arith) (record { own = o; unlisted = l; owns = λ u m. elim m [ ]; chains = λ u m. elim m [ ]; from = inl refl })

  pub none-exactly : (v : Version) → Own P v → NoneExactly P v
  unfolding bound_of
  none-exactly v o = record { returns = λ e. given (is_listed (bounded P) v) refl e; unbound = λ r. back (is_listed (bounded P) v) refl r }
    where
      number : (n : ℕ) → reads n ≡ unbounded → ⊥
      number n e = reads-some n (ltb MOST n) refl e

      given : (b : Bool) → is_listed (bounded P) v ≡ b → cond b (reads (bound_in (bounded P) v)) unbounded ≡ unbounded → Returns P v
      given true l e = absurd (number (bound_in (bounded P) v) e)
      given false l e = open-returns v o l

      back : (b : Bool) → is_listed (bounded P) v ≡ b → Returns P v → cond b (reads (bound_in (bounded P) v)) unbounded ≡ unbounded
      back true l r = absurd (no_return P v o l r)
      back false l r = refl

-- THE LAW: a listed version stands behind those that it depends on
pub after-those : AfterThose
unfolding AfterThose
after-those P f w u v h l d = step-rank P u v (find-own P f w u h) l d

-- THE LAW: none exactly where a chain comes back
pub exactly : Exactly
unfolding Exactly
exactly image k e f v W h = none-exactly (program_of image) (checked image k e) W (find-own (program_of image) f v W h)
