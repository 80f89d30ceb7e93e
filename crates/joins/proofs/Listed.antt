-- 02, 13: the list of 12) of a program in which two stand, the second's functions behind the first's: the first's list, then the second's renumbered.
use mathlib.Core.Path.{◌≡◌, refl, sym, ap, ◌∙◌, subst}
use mathlib.Core.List.{List, [], ◌∷◌, ◌++◌, map, map-append, append_assoc, append-nil, Memᴰ}
use mathlib.Core.Option.{Option, none, some}
use mathlib.Core.Bool.{Bool, true, false, cond}
use Prim.Native.Nat.{ℕ, zero, suc, ◌+◌, ◌-◌, ◌≤◌, ◌<◌}
use native.Mathlib.Nat.{zero-add}
use native.Mathlib.Omega.{arith}
use lib.ListN.{length, length-append, length-map}
use borrow.Author.Tests.{ne_eqb}
use Rattle.layout.specs.Bounds.{FUNCTIONS, VERSIONS}
use Rattle.layout.specs.Tests.{◌and◌, all, any}
use Rattle.program.specs.Program.{Version, Program, find_version}
use Rattle.program.proofs.Held.{find-own}
use Rattle.bounds.specs.Bounds.{passing, fitting, dependencies, Row, same, is_listed, bound_in, is_free, first_of, versions_from, by_number, row_of, listed_from, bounded, bound_of, unlisted, Entry, entry_of, none_of, report}
use Rattle.bounds.proofs.Priced.{Own}
use Rattle.bounds.proofs.Listing.{number-own, steps-same, first-mem, agrees}
use Rattle.bounds.proofs.Chains.{depends-own, open_in, count_most, none_free, enough-rounds}
use Rattle.bounds.proofs.Sorted.{map-mem}
use Rattle.joins.specs.Shifted.{shift_version}
use Rattle.joins.specs.Alongside.{shift_found, Carries, Closed}
use Rattle.joins.specs.Agreed.{bound_found, raise_entry}
use Rattle.joins.proofs.Together.{Below, below-found, below_none, eqb-add}
use Rattle.joins.proofs.Depending.{fitting-shifted, dependencies-shifted, steps-shifted}

-- a row of the list, under the new number of its version's function
abbrev shift_row : ℕ → ℕ → Row → Row
shift_row k o r = record { version = shift_version k o r.version; steps = r.steps }

-- ---- the first of two lists that passes

first-front : (p : Version → Bool) (l m : List Version) (v : Version) → first_of p l ≡ some v → first_of p (l ++ m) ≡ some v
unfolding first_of
first-front p [] m v h = let z : ◌≡◌ {A = ℕ} 0 1 = cc in absurd (omega arith)
first-front p (x ∷ l) m v h = go (p x) h (first-front p l m v)
  where
    go : (b : Bool) → cond b (some x) (first_of p l) ≡ some v → (first_of p l ≡ some v → first_of p (l ++ m) ≡ some v) → cond b (some x) (first_of p (l ++ m)) ≡ some v
    go true q ih = q
    go false q ih = ih q

first-behind : (p : Version → Bool) (l m : List Version) → first_of p l ≡ none → first_of p (l ++ m) ≡ first_of p m
unfolding first_of
first-behind p [] m h = refl
first-behind p (x ∷ l) m h = go (p x) h (first-behind p l m)
  where
    go : (b : Bool) → cond b (some x) (first_of p l) ≡ none → (first_of p l ≡ none → first_of p (l ++ m) ≡ first_of p m) → cond b (some x) (first_of p (l ++ m)) ≡ first_of p m
    go true q ih = let z : ◌≡◌ {A = ℕ} 0 1 = cc in absurd (omega arith)
    go false q ih = ih q

-- one round
round : (P : Program) (vs : List Version) (n : ℕ) (rows : List Row) (v : Version) → first_of (is_free P rows) vs ≡ some v → listed_from P vs (suc n) rows ≡ listed_from P vs n (rows ++ (row_of P rows v ∷ []))
unfolding listed_from
round P vs n rows v e = rw (e, listed_from) refl

stays : (P : Program) (vs : List Version) (n : ℕ) (rows : List Row) → first_of (is_free P rows) vs ≡ none → listed_from P vs (suc n) rows ≡ rows
unfolding listed_from
stays P vs n rows e = rw (e, listed_from) refl

-- ---- rows that are not of a version

abbrev Apart : List Row → Version → Type 0
Apart rows x = (r : Row) → Memᴰ r rows → same r.version x ≡ false

listed-behind : (pre S : List Row) (x : Version) → Apart pre x → (is_listed (pre ++ S) x ≡ is_listed S x) × (bound_in (pre ++ S) x ≡ bound_in S x)
unfolding is_listed any bound_in
listed-behind [] S x h = (refl, refl)
listed-behind (r ∷ pre) S x h = let t = listed-behind pre S x (λ y m. h y (Memᴰ.tail m)) in rw (h r (Memᴰ.head refl)) t

listed-before : (S post : List Row) (x : Version) → Apart post x → (is_listed (S ++ post) x ≡ is_listed S x) × (bound_in (S ++ post) x ≡ bound_in S x)
unfolding is_listed any bound_in
listed-before [] [] x h = (refl, refl)
listed-before [] (r ∷ post) x h = let t = listed-before [] post x (λ y m. h y (Memᴰ.tail m)) in rw (h r (Memᴰ.head refl)) t
listed-before (r ∷ S) post x h = let t = listed-before S post x h in rw (t.0, t.1) (refl, refl)

module _ (k o n : ℕ) (P J : Program) (C : Carries k o n P J) (D : Closed n P) where
  abbrev up : Version → Version
  up v = shift_version k o v

  -- rows of J that say of the versions of P what these rows of P say
  pub record Shows (S rows : List Row) : Type 0 where
    pub listed : (v : Version) → Own P v → is_listed S (shift_version k o v) ≡ is_listed rows v
    pub bound : (v : Version) → Own P v → bound_in S (shift_version k o v) ≡ bound_in rows v

  same-shifted : (u v : Version) → same (up u) (up v) ≡ same u v
  unfolding same
  same-shifted u v = rw (eqb-add k u.function v.function) refl

  shown-map : (rows : List Row) (v : Version) → (is_listed (map (shift_row k o) rows) (up v) ≡ is_listed rows v) × (bound_in (map (shift_row k o) rows) (up v) ≡ bound_in rows v)
  unfolding is_listed any bound_in
  shown-map [] v = (refl, refl)
  shown-map (r ∷ rows) v = let t = shown-map rows v in rw (same-shifted r.version v, t.0, t.1) (refl, refl)

  pub shows-map : (rows : List Row) → Shows (map (shift_row k o) rows) rows
  shows-map rows = record { listed = λ v e. (shown-map rows v).0; bound = λ v e. (shown-map rows v).1 }

  pub shows-behind : (pre S rows : List Row) → ((v : Version) → Own P v → Apart pre (up v)) → Shows S rows → Shows (pre ++ S) rows
  shows-behind pre S rows h s = record { listed = λ v e. (listed-behind pre S (up v) (h v e)).0 ∙ s.listed v e; bound = λ v e. (listed-behind pre S (up v) (h v e)).1 ∙ s.bound v e }

  pub shows-before : (S post rows : List Row) → ((v : Version) → Own P v → Apart post (up v)) → Shows S rows → Shows (S ++ post) rows
  shows-before S post rows h s = record { listed = λ v e. (listed-before S post (up v) (h v e)).0 ∙ s.listed v e; bound = λ v e. (listed-before S post (up v) (h v e)).1 ∙ s.bound v e }

  -- ---- the same versions are free, and get the same row

  abbrev Owns : List Version → Type 0
  Owns vs = (x : Version) → Memᴰ x vs → Own P x

  module _ (S rows : List Row) (s : Shows S rows) where
    all_shown : (l : List Version) → Owns l → all (is_listed S) (map up l) ≡ all (is_listed rows) l
    unfolding all
    all_shown [] h = refl
    all_shown (x ∷ l) h = rw (s.listed x (h x (Memᴰ.head refl)), all_shown l (λ y m. h y (Memᴰ.tail m))) refl

    free-shown : (v : Version) → Own P v → is_free J S (up v) ≡ is_free P rows v
    unfolding is_free
    free-shown v e = rw (dependencies-shifted k o n P J C v (D v.function v.version v e), s.listed v e, all_shown (dependencies P v) (λ x d. depends-own P v x d)) refl

    row-shown : (v : Version) → Own P v → row_of J S (up v) ≡ shift_row k o (row_of P rows v)
    unfolding row_of
    row-shown v e = ap (λ (i : ℕ). record { version = up v; steps = i }) (steps-shifted k o n P J C (bound_in S) v (D v.function v.version v e) ∙ steps-same P (λ x. bound_in S (up x)) (bound_in rows) v (λ x d. s.bound x (depends-own P v x d)))

    pub first-shown : (vs : List Version) → Owns vs → first_of (is_free J S) (map up vs) ≡ shift_found k o (first_of (is_free P rows) vs)
    unfolding first_of shift_found
    first-shown [] h = refl
    first-shown (x ∷ vs) h = rw (free-shown x (h x (Memᴰ.head refl))) (go (is_free P rows x) (first-shown vs (λ y m. h y (Memᴰ.tail m))))
      where
        go : (b : Bool) → first_of (is_free J S) (map up vs) ≡ shift_found k o (first_of (is_free P rows) vs) → cond b (some (up x)) (first_of (is_free J S) (map up vs)) ≡ shift_found k o (cond b (some x) (first_of (is_free P rows) vs))
        go true ih = refl
        go false ih = ih

    pub unlisted-shown : (vs : List Version) → Owns vs → unlisted S (map up vs) ≡ map up (unlisted rows vs)
    unfolding unlisted
    unlisted-shown [] h = refl
    unlisted-shown (x ∷ vs) h = rw (s.listed x (h x (Memᴰ.head refl)), unlisted-shown vs (λ y m. h y (Memᴰ.tail m))) (go (is_listed rows x))
      where
        go : (b : Bool) → cond b (map up (unlisted rows vs)) (up x ∷ map up (unlisted rows vs)) ≡ map up (cond b (unlisted rows vs) (x ∷ unlisted rows vs))
        go true = refl
        go false = refl

  -- ---- the same bound

  module _ (s : Shows (bounded J) (bounded P)) where
    same-bound : (v : Version) → Own P v → bound_of J (shift_version k o v) ≡ bound_of P v
    unfolding bound_of
    same-bound v e = rw (s.listed v e, s.bound v e) refl

    pub bound-found : (f w : ℕ) → f < n → bound_found J (find_version J (k + f) w) ≡ bound_found P (find_version P f w)
    unfolding bound_found shift_found
    bound-found f w h = ap (bound_found J) (C.look f w h) ∙ go (find_version P f w) refl
      where
        go : (x : Option Version) → find_version P f w ≡ x → bound_found J (shift_found k o x) ≡ bound_found P x
        go none e = refl
        go (some v) e = ap some (same-bound v (find-own P f w v e))

  -- ---- rounds

  module _ (vs : List Version) (own : Owns vs) where
    -- one round more
    grown : (pre rows : List Row) (v : Version) → Shows (pre ++ map (shift_row k o) rows) rows → Own P v
        → (pre ++ map (shift_row k o) rows) ++ (row_of J (pre ++ map (shift_row k o) rows) (up v) ∷ []) ≡ pre ++ map (shift_row k o) (rows ++ (row_of P rows v ∷ []))
    grown pre rows v s e =
        ap (λ (r : Row). (pre ++ map (shift_row k o) rows) ++ (r ∷ [])) (row-shown (pre ++ map (shift_row k o) rows) rows s v e)
        ∙ append_assoc pre (map (shift_row k o) rows) (shift_row k o (row_of P rows v) ∷ [])
        ∙ ap (λ (l : List Row). pre ++ l) (sym (map-append (shift_row k o) rows (row_of P rows v ∷ [])))

    -- while one of these is free it is listed, whatever stands behind them
    pub phase-first : (rest : List Version) (m c : ℕ) (rows : List Row) → (t : ℕ) × (listed_from J (map up vs ++ rest) (m + c) (map (shift_row k o) rows) ≡ listed_from J (map up vs ++ rest) (t + c) (map (shift_row k o) (listed_from P vs m rows)))
    unfolding listed_from shift_found
    phase-first rest zero c rows = (0, refl)
    phase-first rest (suc m) c rows = go (first_of (is_free P rows) vs) refl (λ r. phase-first rest m c r)
      where
        front : List Version
        front = map up vs ++ rest

        go : (x : Option Version) → first_of (is_free P rows) vs ≡ x → ((r : List Row) → (t : ℕ) × (listed_from J front (m + c) (map (shift_row k o) r) ≡ listed_from J front (t + c) (map (shift_row k o) (listed_from P vs m r))))
            → (t : ℕ) × (listed_from J front (suc m + c) (map (shift_row k o) rows) ≡ listed_from J front (t + c) (map (shift_row k o) (elim x [ none ↦ rows | some v ↦ listed_from P vs m (rows ++ (row_of P rows v ∷ [])) ])))
        go none e ih = (suc m, refl)
        go (some v) e ih =
            let s = shows-map rows in
            let f : first_of (is_free J (map (shift_row k o) rows)) front ≡ some (up v) = first-front _ (map up vs) rest (up v) (picked v e) in
            let z : suc m + c ≡ suc (m + c) = omega arith in
            let i = ih (rows ++ (row_of P rows v ∷ [])) in (
              i.0,
              ap (λ (j : ℕ). listed_from J front j (map (shift_row k o) rows)) z ∙ round J front (m + c) (map (shift_row k o) rows) (up v) f
                  ∙ ap (listed_from J front (m + c)) (grown [] rows v s (own v (first-mem (is_free P rows) vs v e).0)) ∙ i.1,
            )
          where
            picked : (v : Version) → first_of (is_free P rows) vs ≡ some v → first_of (is_free J (map (shift_row k o) rows)) (map up vs) ≡ some (up v)
            picked v e = first-shown (map (shift_row k o) rows) rows (shows-map rows) vs own ∙ found e
              where
                found : first_of (is_free P rows) vs ≡ some v → shift_found k o (first_of (is_free P rows) vs) ≡ some (up v)
                found e = rw e refl

    -- where none of those before them is free, these are listed as alone
    pub phase-second : (front : List Version) (pre : List Row) → ((rows : List Row) → first_of (is_free J (pre ++ map (shift_row k o) rows)) front ≡ none) → ((v : Version) → Own P v → Apart pre (shift_version k o v))
        → (m : ℕ) (rows : List Row) → listed_from J (front ++ map (shift_version k o) vs) m (pre ++ map (shift_row k o) rows) ≡ pre ++ map (shift_row k o) (listed_from P vs m rows)
    unfolding listed_from shift_found
    phase-second front pre never apart zero rows = refl
    phase-second front pre never apart (suc m) rows = go (first_of (is_free P rows) vs) refl (λ r. phase-second front pre never apart m r)
      where
        S : List Row
        S = pre ++ map (shift_row k o) rows

        s : Shows S rows
        s = shows-behind pre (map (shift_row k o) rows) rows apart (shows-map rows)

        picked : (x : Option Version) → first_of (is_free P rows) vs ≡ x → first_of (is_free J S) (front ++ map up vs) ≡ shift_found k o x
        picked x e = first-behind (is_free J S) front (map up vs) (never rows) ∙ first-shown S rows s vs own ∙ ap (shift_found k o) e

        go : (x : Option Version) → first_of (is_free P rows) vs ≡ x → ((r : List Row) → listed_from J (front ++ map up vs) m (pre ++ map (shift_row k o) r) ≡ pre ++ map (shift_row k o) (listed_from P vs m r))
            → listed_from J (front ++ map up vs) (suc m) S ≡ pre ++ map (shift_row k o) (elim x [ none ↦ rows | some v ↦ listed_from P vs m (rows ++ (row_of P rows v ∷ [])) ])
        go none e ih = stays J (front ++ map up vs) m S (picked none e)
        go (some v) e ih =
            round J (front ++ map up vs) m S (up v) (picked (some v) e)
            ∙ ap (listed_from J (front ++ map up vs) m) (grown pre rows v s (own v (first-mem (is_free P rows) vs v e).0))
            ∙ ih (rows ++ (row_of P rows v ∷ []))

  -- functions from f on, in order of number
  pub from-shifted : (c f : ℕ) → f + c ≤ n → versions_from J c (k + f) ≡ map (shift_version k o) (versions_from P c f)
  unfolding versions_from
  from-shifted zero f h = refl
  from-shifted (suc c) f h =
      let z : suc (k + f) ≡ k + suc f = omega arith in
      let here = fitting P f (λ v. true) VERSIONS 0 in
      ap (λ (l : List Version). l ++ versions_from J c (suc (k + f))) (fitting-shifted k o n P J C f (λ v. true) (omega (arith, h)) (λ U. refl) VERSIONS 0)
      ∙ ap (λ (i : ℕ). map up here ++ versions_from J c i) z
      ∙ ap (λ (l : List Version). map up here ++ l) (from-shifted c (suc f) (omega (arith, h)))
      ∙ sym (map-append up here (versions_from P c (suc f)))

-- ---- all versions in order of number

from-split : (P : Program) (n m f : ℕ) → versions_from P (n + m) f ≡ versions_from P n f ++ versions_from P m (f + n)
unfolding versions_from
from-split P zero m f =
    let z : 0 + m ≡ m = omega arith in
    let y : f ≡ f + 0 = omega arith in
    ap (λ (i : ℕ). versions_from P i f) z ∙ ap (versions_from P m) y
from-split P (suc n) m f =
    let z : suc n + m ≡ suc (n + m) = omega arith in
    let y : suc f + n ≡ f + suc n = omega arith in
    let here = fitting P f (λ v. true) VERSIONS 0 in
    ap (λ (i : ℕ). versions_from P i f) z
    ∙ ap (λ (l : List Version). here ++ l) (from-split P n m (suc f))
    ∙ sym (append_assoc here (versions_from P n (suc f)) (versions_from P m (suc f + n)))
    ∙ ap (λ (i : ℕ). (here ++ versions_from P n (suc f)) ++ versions_from P m i) y

fitting-none : (P : Program) (f : ℕ) (p : Version → Bool) → ((w : ℕ) → find_version P f w ≡ none) → (n w : ℕ) → fitting P f p n w ≡ []
unfolding fitting passing
fitting-none P f p h zero w = refl
fitting-none P f p h (suc n) w = rw (h w) (fitting-none P f p h n (suc w))

from-none : (P : Program) (n f : ℕ) → ((g w : ℕ) → f ≤ g → find_version P g w ≡ none) → versions_from P n f ≡ []
unfolding versions_from
from-none P zero f h = refl
from-none P (suc n) f h =
    ap (λ (l : List Version). l ++ versions_from P n (suc f)) (fitting-none P f (λ v. true) (λ w. h f w (omega arith)) VERSIONS 0)
    ∙ from-none P n (suc f) (λ g w l. h g w (omega (arith, l)))

-- those of the functions below n are all
number-below : (P : Program) (n : ℕ) → n ≤ FUNCTIONS → ((g w : ℕ) → n ≤ g → find_version P g w ≡ none) → by_number P ≡ versions_from P n 0
unfolding by_number
number-below P n h high =
    let z : FUNCTIONS ≡ n + (FUNCTIONS - n) = omega (arith, h) in
    ap (λ (i : ℕ). versions_from P i 0) z ∙ from-split P n (FUNCTIONS - n) 0
    ∙ ap (λ (l : List Version). versions_from P n 0 ++ l) (from-none P (FUNCTIONS - n) (0 + n) (λ g w l. high g w (omega (arith, l))))
    ∙ append-nil (versions_from P n 0)

-- ---- entries under new numbers

unlisted-split : (S : List Row) (l m : List Version) → unlisted S (l ++ m) ≡ unlisted S l ++ unlisted S m
unfolding unlisted
unlisted-split S [] m = refl
unlisted-split S (x ∷ l) m = go (is_listed S x) (unlisted-split S l m)
  where
    go : (b : Bool) → unlisted S (l ++ m) ≡ unlisted S l ++ unlisted S m → cond b (unlisted S (l ++ m)) (x ∷ unlisted S (l ++ m)) ≡ cond b (unlisted S l) (x ∷ unlisted S l) ++ unlisted S m
    go true ih = ih
    go false ih = ap (λ (r : List Version). x ∷ r) ih

rows-raised : (k o : ℕ) (rows : List Row) → map entry_of (map (shift_row k o) rows) ≡ map (raise_entry k) (map entry_of rows)
rows-raised k o [] = refl
rows-raised k o (r ∷ rows) = ap (λ (l : List Entry). raise_entry k (entry_of r) ∷ l) (rows-raised k o rows)

nones-raised : (k o : ℕ) (vs : List Version) → map none_of (map (shift_version k o) vs) ≡ map (raise_entry k) (map none_of vs)
nones-raised k o [] = refl
nones-raised k o (v ∷ vs) = ap (λ (l : List Entry). raise_entry k (none_of v) ∷ l) (nones-raised k o vs)

entries-0 : (es : List Entry) → map (raise_entry 0) es ≡ es
entries-0 [] = refl
entries-0 (e ∷ es) = rw (zero-add e.function, entries-0 es) refl

-- ---- two programs in one

far : (u v : Version) → (u.function ≡ v.function → ⊥) → same u v ≡ false
unfolding same ◌and◌
far u v h = rw (ne_eqb u.function v.function h) refl

module _ (k m o : ℕ) (P Q J : Program) (C : Carries 0 0 k P J) (D : Closed k P) (B : Below k P) (C' : Carries k o m Q J) (D' : Closed m Q) (B' : Below m Q)
    (high : (f w : ℕ) → k + m ≤ f → find_version J f w ≡ none) (few : k + m ≤ FUNCTIONS) where
  abbrev vp : List Version
  vp = map (shift_version 0 0) (by_number P)

  abbrev vq : List Version
  vq = map (shift_version k o) (by_number Q)

  pub number-joined : by_number J ≡ map (shift_version 0 0) (by_number P) ++ map (shift_version k o) (by_number Q)
  number-joined =
      let p = number-below P k (omega (arith, few)) (λ g w h. below_none k P B g w h) in
      let q = number-below Q m (omega (arith, few)) (λ g w h. below_none m Q B' g w h) in
      let z : 0 + k ≡ k + 0 = omega arith in
      number-below J (k + m) few high ∙ from-split J k m 0
      ∙ ap (λ (l : List Version). l ++ versions_from J m (0 + k)) (from-shifted 0 0 k P J C D k 0 (omega arith) ∙ ap (map (shift_version 0 0)) (sym p))
      ∙ ap (λ (i : ℕ). vp ++ versions_from J m i) z
      ∙ ap (λ (l : List Version). vp ++ l) (from-shifted k o m Q J C' D' m 0 (omega arith) ∙ ap (map (shift_version k o)) (sym q))

  -- rows of the one are not those of versions of the other
  apart-second : (rows : List Row) (v : Version) → Own P v → Apart (map (shift_row k o) rows) (shift_version 0 0 v)
  apart-second rows v e r i =
      let t = map-mem (shift_row k o) rows r i in
      let l = below-found k P B v.function v.version v e in
      ap (λ (x : Row). same x.version (shift_version 0 0 v)) t.2 ∙ far (shift_version k o t.0.version) (shift_version 0 0 v) (λ z. absurd (omega (arith, z, l)))

  apart-first : (v : Version) → Own Q v → Apart (map (shift_row 0 0) (bounded P)) (shift_version k o v)
  apart-first v e r i =
      let t = map-mem (shift_row 0 0) (bounded P) r i in
      let l = below-found k P B t.0.version.function t.0.version.version t.0.version ((agrees P).own t.0 t.1) in
      ap (λ (x : Row). same x.version (shift_version k o v)) t.2 ∙ far (shift_version 0 0 t.0.version) (shift_version k o v) (λ z. absurd (omega (arith, z, l)))

  shows_first : (rows : List Row) → Shows 0 0 k P J C D (map (shift_row 0 0) (bounded P) ++ map (shift_row k o) rows) (bounded P)
  shows_first rows = shows-before 0 0 k P J C D (map (shift_row 0 0) (bounded P)) (map (shift_row k o) rows) (bounded P) (apart-second rows) (shows-map 0 0 k P J C D (bounded P))

  shows_second : (rows : List Row) → Shows k o m Q J C' D' (map (shift_row 0 0) (bounded P) ++ map (shift_row k o) rows) rows
  shows_second rows = shows-behind k o m Q J C' D' (map (shift_row 0 0) (bounded P)) (map (shift_row k o) rows) rows apart-first (shows-map k o m Q J C' D' rows)

  -- behind the first's list none of the first is free
  never : (rows : List Row) → first_of (is_free J (map (shift_row 0 0) (bounded P) ++ map (shift_row k o) rows)) vp ≡ none
  unfolding shift_found bounded
  never rows =
      first-shown 0 0 k P J C D (map (shift_row 0 0) (bounded P) ++ map (shift_row k o) rows) (bounded P) (shows_first rows) (by_number P) (number-own P)
      ∙ ap (shift_found 0 0) (none_free P (by_number P) (length (by_number P)) [] (count_most (open_in []) (by_number P)))

  -- THE LAW of the list
  pub bounded-joined : bounded J ≡ map (shift_row 0 0) (bounded P) ++ map (shift_row k o) (bounded Q)
  unfolding bounded
  bounded-joined =
      let a = length (by_number P) in
      let c = length (by_number Q) in
      let t = phase-first 0 0 k P J C D (by_number P) (number-own P) vq a c [] in
      let z : t.0 + c ≡ c + t.0 = omega arith in
      ap (λ (l : List Version). listed_from J l (length l) []) number-joined
      ∙ ap (λ (i : ℕ). listed_from J (vp ++ vq) i []) (length-append vp vq ∙ ap (λ (i : ℕ). i + length vq) (length-map (by_number P) (shift_version 0 0)) ∙ ap (λ (i : ℕ). a + i) (length-map (by_number Q) (shift_version k o)))
      ∙ t.1
      ∙ ap (listed_from J (vp ++ vq) (t.0 + c)) (sym (append-nil (map (shift_row 0 0) (bounded P))))
      ∙ phase-second k o m Q J C' D' (by_number Q) (number-own Q) vp (map (shift_row 0 0) (bounded P)) never apart-first (t.0 + c) []
      ∙ ap (λ (i : ℕ). map (shift_row 0 0) (bounded P) ++ map (shift_row k o) (listed_from Q (by_number Q) i [])) z
      ∙ ap (λ (l : List Row). map (shift_row 0 0) (bounded P) ++ map (shift_row k o) l) (enough-rounds Q (by_number Q) c t.0 [] (count_most (open_in []) (by_number Q)))

  -- THE LAW of the bounds
  pub bounds-first : (f w : ℕ) → f < k → bound_found J (find_version J (0 + f) w) ≡ bound_found P (find_version P f w)
  bounds-first = bound-found 0 0 k P J C D (subst (λ (S : List Row). Shows 0 0 k P J C D S (bounded P)) (sym bounded-joined) (shows_first (bounded Q)))

  pub bounds-second : (f w : ℕ) → f < m → bound_found J (find_version J (k + f) w) ≡ bound_found Q (find_version Q f w)
  bounds-second = bound-found k o m Q J C' D' (subst (λ (S : List Row). Shows k o m Q J C' D' S (bounded Q)) (sym bounded-joined) (shows_second (bounded Q)))

  -- THE LAW of those that are not listed
  pub unlisted-joined : unlisted (bounded J) (by_number J) ≡ map (shift_version 0 0) (unlisted (bounded P) (by_number P)) ++ map (shift_version k o) (unlisted (bounded Q) (by_number Q))
  unlisted-joined =
      let S = map (shift_row 0 0) (bounded P) ++ map (shift_row k o) (bounded Q) in
      ap (λ (l : List Row). unlisted l (by_number J)) bounded-joined
      ∙ ap (unlisted S) number-joined
      ∙ unlisted-split S vp vq
      ∙ ap (λ (l : List Version). l ++ unlisted S vq) (unlisted-shown 0 0 k P J C D S (bounded P) (shows_first (bounded Q)) (by_number P) (number-own P))
      ∙ ap (λ (l : List Version). map (shift_version 0 0) (unlisted (bounded P) (by_number P)) ++ l) (unlisted-shown k o m Q J C' D' S (bounded Q) (shows_second (bounded Q)) (by_number Q) (number-own Q))

  -- THE LAW of the report
  pub report-joined : report J ≡ (map entry_of (bounded P) ++ map (raise_entry k) (map entry_of (bounded Q))) ++ (map none_of (unlisted (bounded P) (by_number P)) ++ map (raise_entry k) (map none_of (unlisted (bounded Q) (by_number Q))))
  unfolding report
  report-joined =
      ap (λ (l : List Entry). l ++ map none_of (unlisted (bounded J) (by_number J))) (ap (map entry_of) bounded-joined ∙ map-append entry_of (map (shift_row 0 0) (bounded P)) (map (shift_row k o) (bounded Q))
      ∙ ap (λ (l : List Entry). l ++ map entry_of (map (shift_row k o) (bounded Q))) (rows-raised 0 0 (bounded P) ∙ entries-0 (map entry_of (bounded P)))
      ∙ ap (λ (l : List Entry). map entry_of (bounded P) ++ l) (rows-raised k o (bounded Q)))
      ∙ ap (λ (l : List Entry). (map entry_of (bounded P) ++ map (raise_entry k) (map entry_of (bounded Q))) ++ l) (ap (map none_of) unlisted-joined ∙ map-append none_of (map (shift_version 0 0) np) (map (shift_version k o) nq)
      ∙ ap (λ (l : List Entry). l ++ map none_of (map (shift_version k o) nq)) (nones-raised 0 0 np ∙ entries-0 (map none_of np))
      ∙ ap (λ (l : List Entry). map none_of np ++ l) (nones-raised k o nq))
    where
      np : List Version
      np = unlisted (bounded P) (by_number P)

      nq : List Version
      nq = unlisted (bounded Q) (by_number Q)
