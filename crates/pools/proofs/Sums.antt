-- Sums over the eight numbers, from a number on.
use mathlib.Core.Path.{◌≡◌, refl, sym, ap, ◌∙◌}
use mathlib.Core.Bool.{Bool, cond}
use mathlib.Core.List.{List, [], ◌∷◌}
use Prim.Native.Nat.{ℕ, zero, suc, ◌+◌, ◌-◌, ◌≤◌, ◌<◌}
use native.Mathlib.Numerals.{add-one}
use native.Mathlib.Omega.{arith}
use lib.ListN.{length, get_or, drop, drop_of_length-le}
use lib.Seq.{drop-cons}
use lib.Dec.{ltb}
use borrow.Author.Tests.{eq-eqb, ne_eqb, le-leb, lt-leb}
use Rattle.machine.specs.Pools.{sum, sum_but, unused, larger, allowed, over_reserved}
use Rattle.pools.specs.Shares.{pool_of, share_of, shares}

-- ---- sums

pub sum-at : (xs : List ℕ) (j n : ℕ) → length xs ≡ n → j < n → sum (drop j xs) ≡ get_or xs j 0 + sum (drop (j + 1) xs)
unfolding sum
sum-at xs j n e h = let past : j < length xs = omega arith in rw (add-one, drop-cons xs j 0 past) refl

pub sum_done : (xs : List ℕ) (j n : ℕ) → length xs ≡ n → n ≤ j → sum (drop j xs) ≡ 0
unfolding sum
sum_done xs j n e h = let past : length xs ≤ j = omega arith in rw (drop_of_length-le xs past) refl

-- past the last there is none
pub past : (xs : List ℕ) (i n : ℕ) → length xs ≡ n → n ≤ i → get_or xs i 0 ≡ 0
past [] i n e h = refl
past (x ∷ xs) zero n e h = absurd (omega arith)
past (x ∷ xs) (suc i) n e h = past xs i (length xs) refl (omega arith)

-- the sum, once all are added up
pub over_by : (xs : List ℕ) (total : ℕ) → total ≡ sum xs → ltb 64 total ≡ over_reserved xs
unfolding over_reserved
over_by xs total e = ap (ltb 64) e

-- ---- shares

pub share-self : (j i r h : ℕ) → j ≡ i → 0 ≡ share_of j i r h
share-self j i r h e = ap (λ (b : Bool). cond b 0 (h + (r - h))) (sym (eq-eqb j i e))

pub share-reserve : (j i r h : ℕ) → (j ≡ i → ⊥) → h < r → r ≡ share_of j i r h
share-reserve j i r h d l = let k : r ≡ h + (r - h) = omega arith in k ∙ ap (λ (b : Bool). cond b 0 (h + (r - h))) (sym (ne_eqb j i d))

pub share-has : (j i r h : ℕ) → (j ≡ i → ⊥) → r ≤ h → h ≡ share_of j i r h
share-has j i r h d l = let k : h ≡ h + (r - h) = omega arith in k ∙ ap (λ (b : Bool). cond b 0 (h + (r - h))) (sym (ne_eqb j i d))

pub shares_at : (rs hs : List ℕ) (i j n : ℕ) → length rs ≡ n → length hs ≡ n → j < n → shares j i (drop j rs) (drop j hs) ≡ share_of j i (get_or rs j 0) (get_or hs j 0) + shares (j + 1) i (drop (j + 1) rs) (drop (j + 1) hs)
unfolding shares
shares_at rs hs i j n e f h = let p : j < length rs = omega arith in let q : j < length hs = omega arith in rw (add-one, drop-cons rs j 0 p, drop-cons hs j 0 q) refl

pub shares-done : (rs hs : List ℕ) (i j n : ℕ) → length rs ≡ n → n ≤ j → shares j i (drop j rs) (drop j hs) ≡ 0
unfolding shares
shares-done rs hs i j n e h = let past : length rs ≤ j = omega arith in rw (drop_of_length-le rs past) refl

-- behind the run i all count
shares-past : (rs hs : List ℕ) (j i : ℕ) → length rs ≡ length hs → i < j → shares j i rs hs ≡ sum hs + sum (unused rs hs)
unfolding shares sum unused
shares-past [] [] j i e l = refl
shares-past [] (h ∷ hs) j i e l = absurd (omega arith)
shares-past (r ∷ rs) [] j i e l = absurd (omega arith)
shares-past (r ∷ rs) (h ∷ hs) j i e l =
    let s = share-both j i r h (λ q. absurd (omega (arith, q, l))) in
    let t = shares-past rs hs (suc j) i (omega arith) (omega arith) in
    omega (arith, s, t)
  where
    share-both : (j i r h : ℕ) → (j ≡ i → ⊥) → share_of j i r h ≡ h + (r - h)
    share-both j i r h d = ap (λ (b : Bool). cond b 0 (h + (r - h))) (ne_eqb j i d)

-- from the first on all but its own do
shares-from : (rs hs : List ℕ) (j i : ℕ) → length rs ≡ length hs → shares j (j + i) rs hs ≡ sum_but i hs + sum_but i (unused rs hs)
unfolding shares sum_but unused
shares-from [] [] j i e = refl
shares-from [] (h ∷ hs) j i e = absurd (omega arith)
shares-from (r ∷ rs) [] j i e = absurd (omega arith)
shares-from (r ∷ rs) (h ∷ hs) j zero e =
    let s : share_of j (j + 0) r h ≡ 0 = sym (share-self j (j + 0) r h (omega arith)) in
    let t = shares-past rs hs (suc j) (j + 0) (omega arith) (omega arith) in
    omega (arith, s, t)
shares-from (r ∷ rs) (h ∷ hs) j (suc i) e =
    let s : share_of j (j + suc i) r h ≡ h + (r - h) = ap (λ (b : Bool). cond b 0 (h + (r - h))) (ne_eqb j (j + suc i) (λ q. absurd (omega (arith, q)))) in
    let k : j + suc i ≡ suc j + i = omega arith in
    let t = ap (λ (m : ℕ). shares (suc j) m rs hs) k ∙ shares-from rs hs (suc j) i (omega arith) in
    omega (arith, s, t)

-- ---- what a run may have

pub larger-right : (m n : ℕ) → m ≤ n → n ≡ larger m n
unfolding larger
larger-right m n h = ap (λ (b : Bool). cond b n m) (sym (le-leb m n h))

pub larger-left : (m n : ℕ) → n < m → m ≡ larger m n
unfolding larger
larger-left m n h = ap (λ (b : Bool). cond b n m) (sym (lt-leb m n h))

pub allowed-shares : (rs hs : List ℕ) (i : ℕ) → length rs ≡ length hs → larger (get_or rs i 0) (64 - shares 0 i rs hs) ≡ allowed (pool_of rs hs) i
unfolding allowed
allowed-shares rs hs i e = let k : 0 + i ≡ i = omega arith in ap (λ (m : ℕ). larger (get_or rs i 0) (64 - m)) (ap (λ (x : ℕ). shares 0 x rs hs) (sym k) ∙ shares-from rs hs 0 i e)
