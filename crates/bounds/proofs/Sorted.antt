-- The report: each version once and with its bound, the lowest that is free first, those with none last in order of number.
use mathlib.Core.Path.{◌≡◌, refl, sym, ap, ◌∙◌, subst}
use mathlib.Core.Logic.{◌⊎◌, inl, inr}
use mathlib.Core.List.{List, [], ◌∷◌, ◌++◌, map, append_assoc, Memᴰ}
use mathlib.Core.Option.{Option, none, some}
use mathlib.Core.Bool.{Bool, true, false, cond, ◌||◌, true≢false}
use Prim.Native.Nat.{ℕ, zero, suc, ◌+◌, ◌/◌, ◌%◌, ◌≤◌, ◌<◌}
use native.Mathlib.Decide.{dec_lt, ℕ_discrete}
use native.Mathlib.Omega.{arith}
use lib.ListN.{length, get_elem?, take, length-append}
use lib.Dec.{eqb, ltb}
use borrow.Author.Tests.{eqb-true, not-true}
use Rattle.layout.specs.Tests.{◌and◌, count}
use Rattle.layout.proofs.Bools.{and_both, and-off}
use Rattle.layout.proofs.Lists.{get_none}
use Rattle.program.specs.Program.{Version, Program, find_version}
use Rattle.program.proofs.Held.{find-numbers, find-own}
use Rattle.checker.proofs.Accepted.{checked}
use Rattle.machine.proofs.Places.{eqb-back}
use Rattle.machine.specs.Begin.{program_of}
use Rattle.machine.specs.Calls.{present}
use Rattle.bounds.specs.Bounds.{steps_of, Row, same, is_listed, bound_in, is_free, first_of, by_number, row_of, listed_from, bounded, MOST, bound_of, unlisted, Entry, entry_of, none_of, report}
use Rattle.bounds.specs.Reports.{Once, Tells, FewRows, Before, LowestFirst, Ascending, NoneLast}
use Rattle.bounds.proofs.Listing.{mem-split, first-mem, same-own, number-own, has-row, agrees}
use Rattle.bounds.proofs.Chains.{number_in, reads-some}
use Rattle.bounds.proofs.Slots.{slot, slots, by_slots, slots-there, slots-missing}
use Rattle.bounds.proofs.Totals.{mem-slot, once, listed_same, listed-last, unlisted-none, total, few-versions}

-- ---- lists

count-append : {A : Type 0} (p : A → Bool) (l m : List A) → count p (l ++ m) ≡ count p l + count p m
unfolding count
count-append p [] m = omega arith
count-append p (x ∷ l) m = omega (arith, count-append p l m)

count_map : {A B : Type 0} (p : B → Bool) (g : A → B) (l : List A) → count p (map g l) ≡ count (λ (x : A). p (g x)) l
unfolding count
count_map p g [] = refl
count_map p g (x ∷ l) = rw (count_map p g l) refl

count-like : {A : Type 0} (p q : A → Bool) (l : List A) → ((x : A) → p x ≡ q x) → count p l ≡ count q l
unfolding count
count-like p q [] h = refl
count-like p q (x ∷ l) h = rw (h x, count-like p q l h) refl

count_none : {A : Type 0} (p : A → Bool) (l : List A) → ((x : A) → Memᴰ x l → p x ≡ false) → count p l ≡ 0
unfolding count
count_none p [] h = refl
count_none p (x ∷ l) h = rw (h x (Memᴰ.head refl)) (omega (arith, count_none p l (λ y m. h y (Memᴰ.tail m))))

pub map-mem : {A B : Type 0} (g : A → B) (l : List A) (y : B) → Memᴰ y (map g l) → (x : A) × Memᴰ x l × (y ≡ g x)
map-mem g [] y m = elim m [ ]
map-mem g (x ∷ l) y (Memᴰ.head e) = (x, Memᴰ.head refl, e)
map-mem g (x ∷ l) y (Memᴰ.tail m) = let t = map-mem g l y m in (t.0, Memᴰ.tail t.1, t.2)

unlisted-mem : (rows : List Row) (vs : List Version) (u : Version) → Memᴰ u (unlisted rows vs) → Memᴰ u vs × (is_listed rows u ≡ false)
unfolding unlisted
unlisted-mem rows [] u m = elim m [ ]
unlisted-mem rows (x ∷ vs) u m = go (is_listed rows x) refl m (unlisted-mem rows vs u)
  where
    go : (b : Bool) → is_listed rows x ≡ b → Memᴰ u (cond b (unlisted rows vs) (x ∷ unlisted rows vs)) → (Memᴰ u (unlisted rows vs) → Memᴰ u vs × (is_listed rows u ≡ false)) → Memᴰ u (x ∷ vs) × (is_listed rows u ≡ false)
    go true e q ih = let t = ih q in (Memᴰ.tail t.0, t.1)
    go false e (Memᴰ.head i) ih = (Memᴰ.head i, rw i e)
    go false e (Memᴰ.tail n) ih = let t = ih n in (Memᴰ.tail t.0, t.1)

-- ---- each entry is that of a version, with its bound

row-bound : (P : Program) (r : Row) → Memᴰ r (bounded P) → bound_in (bounded P) r.version ≡ r.steps
row-bound P r m =
    let a = agrees P in
    let h = has-row (bounded P) r.version (a.listed r m) in
    let e : h.row.version ≡ r.version = same-own P h.row.version r.version (a.own h.row h.in_rows) (a.own r m) h.named in
    h.bound ∙ a.cost h.row h.in_rows ∙ ap (steps_of P (bound_in (bounded P))) e ∙ sym (a.cost r m)

-- what an entry tells
abbrev Told : Program → Entry → Type 0
Told P e = (W : Version) × (find_version P e.function e.version ≡ some W) × (e.bound ≡ bound_of P W)

row_told : (P : Program) (r : Row) → Memᴰ r (bounded P) → Told P (entry_of r)
unfolding bound_of
row_told P r m = (r.version, (agrees P).own r m, rw ((agrees P).listed r m, row-bound P r m) refl)

none_told : (P : Program) (u : Version) → Memᴰ u (unlisted (bounded P) (by_number P)) → Told P (none_of u)
unfolding bound_of
none_told P u m = let t = unlisted-mem (bounded P) (by_number P) u m in (u, number-own P u t.0, rw t.1 refl)

-- THE LAW
pub tells : Tells
unfolding Tells report
tells P e m = go (mem-split e (map entry_of (bounded P)) (map none_of (unlisted (bounded P) (by_number P))) m)
  where
    go : Memᴰ e (map entry_of (bounded P)) ⊎ Memᴰ e (map none_of (unlisted (bounded P) (by_number P))) → Told P e
    go (inl n) = let t = map-mem entry_of (bounded P) e n in subst (Told P) (sym t.2) (row_told P t.0 t.1)
    go (inr n) = let t = map-mem none_of (unlisted (bounded P) (by_number P)) e n in subst (Told P) (sym t.2) (none_told P t.0 t.1)

tells-version : (P : Program) (e : Entry) → Memᴰ e (report P) → (W : Version) × (find_version P e.function e.version ≡ some W)
unfolding Tells
tells-version P e m = let t = tells P e m in (t.0, t.1)

-- ---- each version once

-- the version has these numbers
abbrev is : ℕ → ℕ → Version → Bool
is f w v = eqb v.function f and eqb v.version w

is_same : (f w : ℕ) (v x : Version) → v.function ≡ f → v.version ≡ w → is f w x ≡ same v x
unfolding same
is_same f w v x ef ew = rw (ef, ew, eqb-back x.function f, eqb-back x.version w) refl

-- of two with the same numbers
same-is : (f w : ℕ) (v x : Version) → same v x ≡ true → is f w x ≡ is f w v
unfolding same
same-is f w v x e =
    let t = and_both _ _ e in
    rw (eqb-true v.function x.function t.0, eqb-true v.version x.version t.1) refl

and_left : {a b : Bool} → a ≡ true → b ≡ true → (a and b) ≡ true
unfolding ◌and◌
and_left p q = rw (p, q) refl

and-skip : {a b : Bool} → a ≡ true → b ≡ false → (a and b) ≡ false
unfolding ◌and◌
and-skip p q = rw (p, q) refl

unlisted-count : (f w : ℕ) (rows : List Row) (r : Row) → is_listed rows r.version ≡ false → (l : List Version) → count (is f w) (unlisted rows l) ≡ count (is f w) (unlisted (rows ++ (r ∷ [])) l) + count (λ (x : Version). same r.version x and is f w x) l
unfolding unlisted count ◌and◌
unlisted-count f w rows r h [] = refl
unlisted-count f w rows r h (x ∷ l) = rw (listed-last rows r x) (go (is_listed rows x) (same r.version x) (is f w x) refl refl refl (unlisted-count f w rows r h l))
  where
    Less : Type 0
    Less = count (is f w) (unlisted rows l) ≡ count (is f w) (unlisted (rows ++ (r ∷ [])) l) + count (λ (x : Version). same r.version x and is f w x) l

    go : (a b c : Bool) → is_listed rows x ≡ a → same r.version x ≡ b → is f w x ≡ c → Less
        → count (is f w) (cond a (unlisted rows l) (x ∷ unlisted rows l)) ≡ count (is f w) (cond (a || b) (unlisted (rows ++ (r ∷ [])) l) (x ∷ unlisted (rows ++ (r ∷ [])) l)) + (cond (b and c) 1 0 + count (λ (x : Version). same r.version x and is f w x) l)
    go true true c ea eb ec ih = absurd (true≢false (sym ea ∙ listed_same rows r.version x eb ∙ h))
    go true false c ea eb ec ih = omega (arith, ih)
    go false true true ea eb ec ih = rw ec (omega (arith, ih))
    go false true false ea eb ec ih = rw ec (omega (arith, ih))
    go false false true ea eb ec ih = rw ec (omega (arith, ih))
    go false false false ea eb ec ih = rw ec (omega (arith, ih))

-- one more row takes its version out of those that are not listed
unlisted-one : (f w : ℕ) (rows : List Row) (r : Row) → is_listed rows r.version ≡ false → (vs : List Version) → count (same r.version) vs ≡ 1
    → count (is f w) (unlisted rows vs) ≡ count (is f w) (unlisted (rows ++ (r ∷ [])) vs) + cond (is f w r.version) 1 0
unlisted-one f w rows r h vs o = all_of vs ∙ ap (λ (n : ℕ). count (is f w) (unlisted (rows ++ (r ∷ [])) vs) + n) (once-only (is f w r.version) refl)
  where
    both : Version → Bool
    both x = same r.version x and is f w x

    alike : (x : Version) → same r.version x ≡ true → is f w x ≡ is f w r.version
    alike x e = same-is f w r.version x e

    once-only : (b : Bool) → is f w r.version ≡ b → count both vs ≡ cond b 1 0
    once-only true e = count-like both (same r.version) vs (λ x. each x (same r.version x) refl) ∙ o
      where
        each : (x : Version) (t : Bool) → same r.version x ≡ t → both x ≡ same r.version x
        each x true q = and_left q (alike x q ∙ e) ∙ sym q
        each x false q = and-off _ q ∙ sym q
    once-only false e = count_none both vs (λ x m. each x (same r.version x) refl)
      where
        each : (x : Version) (t : Bool) → same r.version x ≡ t → both x ≡ false
        each x true q = and-skip q (alike x q ∙ e)
        each x false q = and-off _ q

    all_of : (l : List Version) → count (is f w) (unlisted rows l) ≡ count (is f w) (unlisted (rows ++ (r ∷ [])) l) + count both l
    all_of l = unlisted-count f w rows r h l

-- one more row
count-row : (P : Program) (f w : ℕ) (rows : List Row) (v : Version) → count (λ (r : Row). is f w r.version) (rows ++ (row_of P rows v ∷ [])) ≡ count (λ (r : Row). is f w r.version) rows + cond (is f w v) 1 0
unfolding row_of count
count-row P f w rows v = count-append (λ (r : Row). is f w r.version) rows (row_of P rows v ∷ []) ∙ omega arith

count-free : (P : Program) (f w : ℕ) (rows : List Row) (v : Version) → first_of (is_free P rows) (by_number P) ≡ some v → count (is f w) (unlisted rows (by_number P)) ≡ count (is f w) (unlisted (rows ++ (row_of P rows v ∷ [])) (by_number P)) + cond (is f w v) 1 0
unfolding row_of is_free
count-free P f w rows v e =
    let m = first-mem (is_free P rows) (by_number P) v e in
    let t = mem-slot P 128 0 v (subst (Memᴰ v) (by_slots P) m.0) in
    unlisted-one f w rows (row_of P rows v) (not-true (is_listed rows v) (and_both _ _ m.1).0) (by_number P) (rw (by_slots P) (once P t.0 v t.1 128 0 t.2 t.3))

count-from : (P : Program) (f w : ℕ) (n : ℕ) (rows : List Row) → count (λ (r : Row). is f w r.version) rows + count (is f w) (unlisted rows (by_number P)) ≡ count (is f w) (by_number P)
    → count (λ (r : Row). is f w r.version) (listed_from P (by_number P) n rows) + count (is f w) (unlisted (listed_from P (by_number P) n rows) (by_number P)) ≡ count (is f w) (by_number P)
unfolding listed_from
count-from P f w zero rows h = h
count-from P f w (suc n) rows h = go (first_of (is_free P rows) (by_number P)) refl (λ r q. count-from P f w n r q)
  where
    Total : List Row → Type 0
    Total r = count (λ (x : Row). is f w x.version) r + count (is f w) (unlisted r (by_number P)) ≡ count (is f w) (by_number P)

    go : (o : Option Version) → first_of (is_free P rows) (by_number P) ≡ o → ((r : List Row) → Total r → Total (listed_from P (by_number P) n r)) → Total (elim o [ none ↦ rows | some v ↦ listed_from P (by_number P) n (rows ++ (row_of P rows v ∷ [])) ])
    go none e ih = h
    go (some v) e ih = ih (rows ++ (row_of P rows v ∷ [])) (omega (arith, h, count-row P f w rows v, count-free P f w rows v e))

-- in the report
count-report : (P : Program) (f w : ℕ) → count (λ (x : Entry). eqb x.function f and eqb x.version w) (report P) ≡ count (is f w) (by_number P)
unfolding report bounded count
count-report P f w =
    count-append named (map entry_of (bounded P)) (map none_of (unlisted (bounded P) (by_number P)))
    ∙ rw (count_map named entry_of (bounded P), count_map named none_of (unlisted (bounded P) (by_number P))) (count-from P f w (length (by_number P)) [] (rw (unlisted-none (by_number P)) (omega arith)))
  where
    named : Entry → Bool
    named x = eqb x.function f and eqb x.version w

count-there : (P : Program) (f w : ℕ) (v : Version) → find_version P f w ≡ some v → Memᴰ v (by_number P) → count (λ (x : Entry). eqb x.function f and eqb x.version w) (report P) ≡ 1
count-there P f w v e m =
    let n = find-numbers P f w v e in
    let t = mem-slot P 128 0 v (subst (Memᴰ v) (by_slots P) m) in
    count-report P f w ∙ count-like (is f w) (same v) (by_number P) (λ x. is_same f w v x n.0 n.1) ∙ rw (by_slots P) (once P t.0 v t.1 128 0 t.2 t.3)

count-missing : (P : Program) (f w : ℕ) → find_version P f w ≡ none → count (λ (x : Entry). eqb x.function f and eqb x.version w) (report P) ≡ 0
count-missing P f w e = count_none (λ (x : Entry). eqb x.function f and eqb x.version w) (report P) (λ x m. go x (tells-version P x m) (eqb x.function f and eqb x.version w) refl)
  where
    go : (x : Entry) → ((W : Version) × (find_version P x.function x.version ≡ some W)) → (b : Bool) → (eqb x.function f and eqb x.version w) ≡ b → (eqb x.function f and eqb x.version w) ≡ false
    go x t true q =
        let a = and_both _ _ q in
        let z : ◌≡◌ {A = Option Version} none (some t.0) = sym e ∙ ap (λ (n : ℕ). find_version P n w) (sym (eqb-true x.function f a.0)) ∙ ap (λ (n : ℕ). find_version P x.function n) (sym (eqb-true x.version w a.1)) ∙ t.1 in
        let y : ◌≡◌ {A = ℕ} 0 1 = cc in
        absurd (omega arith)
    go x t false q = q

map-length : {A B : Type 0} (g : A → B) (l : List A) → length (map g l) ≡ length l
map-length g [] = refl
map-length g (x ∷ l) = ap suc (map-length g l)

-- THE LAW
pub once-each : Once
unfolding Once present
once-each image k e f w = go (find_version (program_of image) f w) refl
  where
    P : Program
    P = program_of image

    go : (o : Option Version) → find_version P f w ≡ o → count (λ (x : Entry). eqb x.function f and eqb x.version w) (report P) ≡ present o
    go none q = count-missing P f w q
    go (some v) q = count-there P f w v q (number_in P (checked image k e) v (find-own P f w v q))

-- THE LAW
pub few-rows : FewRows
unfolding FewRows report
few-rows image k e =
    let P = program_of image in
    omega (arith, length-append (map entry_of (bounded P)) (map none_of (unlisted (bounded P) (by_number P))), map-length entry_of (bounded P), map-length none_of (unlisted (bounded P) (by_number P)), total P, few-versions image k e)

-- ---- the lowest that is free

append-none : (l : List Row) → l ++ [] ≡ l
append-none [] = refl
append-none (x ∷ l) = ap (λ (m : List Row). x ∷ m) (append-none l)

none-behind : (l : List Row) (i : ℕ) (r : Row) → length l ≤ i → get_elem? l i ≡ some r → ⊥
none-behind l i r h e = let q : ◌≡◌ {A = Option Row} none (some r) = sym (get_none l i h) ∙ e in let z : ◌≡◌ {A = ℕ} 0 1 = cc in omega arith

take-front : (l m : List Row) → take (length l) (l ++ m) ≡ l
take-front [] m = take-zero m
  where
    take-zero : (x : List Row) → take 0 x ≡ []
    take-zero [] = refl
    take-zero (y ∷ x) = refl
take-front (x ∷ l) m = ap (λ (n : List Row). x ∷ n) (take-front l m)

row_at : (l : List Row) (x : Row) (m : List Row) → get_elem? (l ++ (x ∷ m)) (length l) ≡ some x
row_at [] x m = refl
row_at (y ∷ l) x m = row_at l x m

row_here : (P : Program) (rows : List Row) (v : Version) (m : List Row) (r : Row) → get_elem? (rows ++ (row_of P rows v ∷ m)) (length rows) ≡ some r → some v ≡ some r.version
unfolding row_of
row_here P rows v m r e =
    let q : ◌≡◌ {A = Option Row} (some (row_of P rows v)) (some r) = sym (row_at rows (row_of P rows v) m) ∙ e in
    let z : row_of P rows v ≡ r = cc in
    ap (λ (x : Row). some x.version) z

-- a list only grows
listed-extends : (P : Program) (vs : List Version) (n : ℕ) (rows : List Row) → (more : List Row) × (listed_from P vs n rows ≡ rows ++ more)
unfolding listed_from
listed-extends P vs zero rows = ([], sym (append-none rows))
listed-extends P vs (suc n) rows = go (first_of (is_free P rows) vs) refl (λ r. listed-extends P vs n r)
  where
    go : (o : Option Version) → first_of (is_free P rows) vs ≡ o → ((r : List Row) → (more : List Row) × (listed_from P vs n r ≡ r ++ more)) → (more : List Row) × ((elim o [ none ↦ rows | some v ↦ listed_from P vs n (rows ++ (row_of P rows v ∷ [])) ]) ≡ rows ++ more)
    go none e ih = ([], sym (append-none rows))
    go (some v) e ih = let t = ih (rows ++ (row_of P rows v ∷ [])) in (row_of P rows v ∷ t.0, t.1 ∙ append_assoc rows (row_of P rows v ∷ []) t.0)

-- each row behind those given is the first that is free there
listed_free : (P : Program) (vs : List Version) (n : ℕ) (rows : List Row) (i : ℕ) (r : Row) → length rows ≤ i → get_elem? (listed_from P vs n rows) i ≡ some r → first_of (is_free P (take i (listed_from P vs n rows))) vs ≡ some r.version
unfolding listed_from
listed_free P vs zero rows i r h e = absurd (none-behind rows i r h e)
listed_free P vs (suc n) rows i r h e = go (first_of (is_free P rows) vs) refl (λ x. listed_free P vs n x) e
  where
    go : (o : Option Version) → first_of (is_free P rows) vs ≡ o
        → ((x : List Row) (i : ℕ) (r : Row) → length x ≤ i → get_elem? (listed_from P vs n x) i ≡ some r → first_of (is_free P (take i (listed_from P vs n x))) vs ≡ some r.version)
        → get_elem? (elim o [ none ↦ rows | some v ↦ listed_from P vs n (rows ++ (row_of P rows v ∷ [])) ]) i ≡ some r
        → first_of (is_free P (take i (elim o [ none ↦ rows | some v ↦ listed_from P vs n (rows ++ (row_of P rows v ∷ [])) ]))) vs ≡ some r.version
    go none q ih g = absurd (none-behind rows i r h g)
    go (some v) q ih g = at (ℕ_discrete i (length rows))
      where
        t : (more : List Row) × (listed_from P vs n (rows ++ (row_of P rows v ∷ [])) ≡ (rows ++ (row_of P rows v ∷ [])) ++ more)
        t = listed-extends P vs n (rows ++ (row_of P rows v ∷ []))

        at : Dec (i ≡ length rows) → first_of (is_free P (take i (listed_from P vs n (rows ++ (row_of P rows v ∷ []))))) vs ≡ some r.version
        at (yes z) = rw (t.1, z, append_assoc rows (row_of P rows v ∷ []) t.0, take-front rows (row_of P rows v ∷ t.0)) (q ∙ row_here P rows v t.0 r (rw (t.1, z, append_assoc rows (row_of P rows v ∷ []) t.0) at g))
        at (no z) = ih (rows ++ (row_of P rows v ∷ [])) i r (omega (arith, h, z, length-append rows (row_of P rows v ∷ []))) g

-- places in order are numbers in order
before-place : (P : Program) (k c : ℕ) (x u : Version) → slot P k ≡ some x → slot P c ≡ some u → k < c → Before x.function x.version u.function u.version
before-place P k c x u e g h = go (dec_lt (k / 4) (c / 4))
  where
    a : (x.function ≡ k / 4) × (x.version ≡ k % 4)
    a = find-numbers P (k / 4) (k % 4) x e

    b : (u.function ≡ c / 4) × (u.version ≡ c % 4)
    b = find-numbers P (c / 4) (c % 4) u g

    go : Dec (k / 4 < c / 4) → Before x.function x.version u.function u.version
    go (yes l) = inl (omega (arith, a.0, b.0, l))
    go (no l) = inr (omega (arith, a.0, b.0, l, h), omega (arith, a.0, a.1, b.0, b.1, l, h))

not-before : (f w g x : ℕ) → Before f w g x → Before g x f w → ⊥
not-before f w g x (inl a) (inl b) = omega (arith, a, b)
not-before f w g x (inl a) (inr b) = omega (arith, a, b.0)
not-before f w g x (inr a) (inl b) = omega (arith, a.0, b)
not-before f w g x (inr a) (inr b) = omega (arith, a.1, b.1)

-- the first that passes is the lowest
first-lowest : (P : Program) (p : Version → Bool) (n k : ℕ) (v : Version) → first_of p (slots P n k) ≡ some v → (u : Version) → Memᴰ u (slots P n k) → p u ≡ true → Before u.function u.version v.function v.version → ⊥
unfolding slots first_of
first-lowest P p zero k v e u m q b = elim m [ ]
first-lowest P p (suc n) k v e u m q b = go (slot P k) refl (λ y z. first-lowest P p n (k + 1) v y u z q b)
  where
    pick : (x : Version) → slot P k ≡ some x → (t : Bool) → p x ≡ t → cond t (some x) (first_of p (slots P n (k + 1))) ≡ some v → Memᴰ u (x ∷ slots P n (k + 1)) → (first_of p (slots P n (k + 1)) ≡ some v → Memᴰ u (slots P n (k + 1)) → ⊥) → ⊥
    pick x s true px g (Memᴰ.head i) ih = let y : x ≡ v = cc in itself (subst (λ (z : Version). Before z.function z.version v.function v.version) (i ∙ y) b)
      where
        itself : Before v.function v.version v.function v.version → ⊥
        itself c = not-before _ _ _ _ c c
    pick x s true px g (Memᴰ.tail i) ih =
        let y : x ≡ v = cc in
        let c = mem-slot P n (k + 1) u i in
        not-before _ _ _ _ b (subst (λ (z : Version). Before z.function z.version u.function u.version) y (before-place P k c.0 x u s c.1 (omega (arith, c.2))))
    pick x s false px g (Memᴰ.head i) ih = true≢false (sym q ∙ ap p i ∙ px)
    pick x s false px g (Memᴰ.tail i) ih = ih g i

    go : (o : Option Version) → slot P k ≡ o → (first_of p (slots P n (k + 1)) ≡ some v → Memᴰ u (slots P n (k + 1)) → ⊥) → ⊥
    go none s ih = ih (subst (λ (l : List Version). first_of p l ≡ some v) (slots-missing P n k s) e) (subst (Memᴰ u) (slots-missing P n k s) m)
    go (some x) s ih = pick x s (p x) refl (subst (λ (l : List Version). first_of p l ≡ some v) (slots-there P n k x s) e) (subst (Memᴰ u) (slots-there P n k x s) m) ih

-- THE LAW
pub lowest-first : LowestFirst
unfolding LowestFirst bounded
lowest-first P i r e =
    let f = listed_free P (by_number P) (length (by_number P)) [] i r (omega arith) e in
    ((first-mem (is_free P (take i (bounded P))) (by_number P) r.version f).1, λ u m q b. first-lowest P (is_free P (take i (bounded P))) 128 0 r.version (subst (λ (l : List Version). first_of (is_free P (take i (bounded P))) l ≡ some r.version) (by_slots P) f) u (subst (Memᴰ u) (by_slots P) m) q b)

-- ---- those with none

ascending : (P : Program) (rows : List Row) (n k : ℕ) → Ascending (map none_of (unlisted rows (slots P n k)))
unfolding slots unlisted Ascending
ascending P rows zero k = tt
ascending P rows (suc n) k = go (slot P k) refl (ascending P rows n (k + 1))
  where
    pick : (x : Version) → slot P k ≡ some x → (b : Bool) → Ascending (map none_of (unlisted rows (slots P n (k + 1)))) → Ascending (map none_of (cond b (unlisted rows (slots P n (k + 1))) (x ∷ unlisted rows (slots P n (k + 1)))))
    pick x s true ih = ih
    pick x s false ih = (λ y m. later y m, ih)
      where
        later : (y : Entry) → Memᴰ y (map none_of (unlisted rows (slots P n (k + 1)))) → Before x.function x.version y.function y.version
        later y m =
            let t = map-mem none_of (unlisted rows (slots P n (k + 1))) y m in
            let u = unlisted-mem rows (slots P n (k + 1)) t.0 t.1 in
            let c = mem-slot P n (k + 1) t.0 u.0 in
            rw t.2 (before-place P k c.0 x t.0 s c.1 (omega (arith, c.2)))

    go : (o : Option Version) → slot P k ≡ o → Ascending (map none_of (unlisted rows (slots P n (k + 1)))) → Ascending (map none_of (unlisted rows (slots P (suc n) k)))
    go none s ih = rw (slots-missing P n k s) ih
    go (some x) s ih = rw (slots-there P n k x s) (pick x s (is_listed rows x) ih)

-- THE LAW
pub none_last : (P : Program) → NoneLast P
unfolding report
none_last P = record {
  front = map entry_of (bounded P);
  last = map none_of (unlisted (bounded P) (by_number P));
  whole = refl;
  some-bound = λ e m q. let t = map-mem entry_of (bounded P) e m in reads-some t.0.steps (ltb MOST t.0.steps) refl (sym (ap (λ (x : Entry). x.bound) t.2) ∙ q);
  none-bound = λ e m. let t = map-mem none_of (unlisted (bounded P) (by_number P)) e m in ap (λ (x : Entry). x.bound) t.2;
  ordered = rw (by_slots P) (ascending P (bounded P) 128 0);
}
