-- The rule of the pool: what a run may have, and that a pool in order stays so when a run has what it may have.
use mathlib.Core.Path.{◌≡◌, refl, ap, ◌∙◌}
use mathlib.Core.Logic.{◌⊎◌, inl, inr}
use mathlib.Core.List.{List, [], ◌∷◌}
use mathlib.Core.Bool.{Bool, true, false, cond, ◌||◌}
use Prim.Native.Nat.{ℕ, zero, suc, ◌+◌, ◌-◌, ◌≤◌, ◌<◌}
use native.Mathlib.Omega.{arith}
use lib.ListN.{length, get_or, set, length-set}
use lib.Seq.{get_or-set_same}
use lib.Dec.{leb, ltb}
use borrow.Author.Tests.{leb-true, leb-false, ltb-true, ltb-false, lt-ltb, le-ltb}
use Rattle.machine.specs.States.{VECTORS}
use Rattle.machine.specs.Pools.{RUNS, sum, sum_but, unused, larger, reserve_of, gets, allowed}
use Rattle.machine.specs.declared.Pool.{Pool}
use Rattle.runs.specs.Stores.{AllowedIs}

-- ---- the rule

larger-is : (m n : ℕ) → ((m ≤ n) × (larger m n ≡ n)) ⊎ ((n < m) × (larger m n ≡ m))
unfolding larger
larger-is m n = go (leb m n) refl
  where
    go : (b : Bool) → leb m n ≡ b → ((m ≤ n) × (cond b n m ≡ n)) ⊎ ((n < m) × (cond b n m ≡ m))
    go true e = inl (leb-true m n e, refl)
    go false e = inr (leb-false m n e, refl)

-- what counts against the run i: those in use by others, and their unused reserves
abbrev against : Pool → ℕ → ℕ
against p i = sum_but i p.has + sum_but i (unused p.reserves p.has)

-- THE LAW: a run may have one more exactly when the rule says so
pub allowed-is : AllowedIs
unfolding AllowedIs allowed gets
allowed-is p i h = go (ltb h (reserve_of p i)) (ltb (h + sum_but i p.has + sum_but i (unused p.reserves p.has)) VECTORS) refl refl (larger-is (reserve_of p i) (VECTORS - (sum_but i p.has + sum_but i (unused p.reserves p.has))))
  where
    r : ℕ
    r = reserve_of p i

    u : ℕ
    u = sum_but i p.has

    n : ℕ
    n = sum_but i (unused p.reserves p.has)

    go : (x y : Bool) → ltb h r ≡ x → ltb (h + u + n) VECTORS ≡ y → ((r ≤ VECTORS - (u + n)) × (larger r (VECTORS - (u + n)) ≡ VECTORS - (u + n))) ⊎ ((VECTORS - (u + n) < r) × (larger r (VECTORS - (u + n)) ≡ r)) → ltb h (larger r (VECTORS - (u + n))) ≡ (x || y)
    go true y a b (inl q) = rw q.1 (lt-ltb h (VECTORS - (u + n)) (omega (arith, ltb-true h r a, q.0)))
    go true y a b (inr q) = rw q.1 (lt-ltb h r (ltb-true h r a))
    go false true a b (inl q) = rw q.1 (lt-ltb h (VECTORS - (u + n)) (omega (arith, ltb-true (h + u + n) VECTORS b)))
    go false true a b (inr q) = absurd (omega (arith, q.0, ltb-false h r a, ltb-true (h + u + n) VECTORS b))
    go false false a b (inl q) = rw q.1 (le-ltb h (VECTORS - (u + n)) (omega (arith, ltb-false (h + u + n) VECTORS b)))
    go false false a b (inr q) = rw q.1 (le-ltb h r (ltb-false h r a))

-- ---- sums

-- all but one, and the one
sum-but : (i : ℕ) (hs : List ℕ) → sum hs ≡ get_or hs i 0 + sum_but i hs
unfolding sum sum_but
sum-but i [] = refl
sum-but zero (h ∷ hs) = refl
sum-but (suc i) (h ∷ hs) = omega (arith, sum-but i hs)

pub unused-at : (i : ℕ) (rs hs : List ℕ) → length rs ≡ length hs → i < length rs → get_or (unused rs hs) i 0 ≡ get_or rs i 0 - get_or hs i 0
unfolding unused
unused-at i [] hs e l = absurd (omega arith)
unused-at i (r ∷ rs) [] e l = absurd (omega arith)
unused-at zero (r ∷ rs) (h ∷ hs) e l = refl
unused-at (suc i) (r ∷ rs) (h ∷ hs) e l = unused-at i rs hs (omega arith) (omega arith)

-- what the run i has does not matter to what counts against it
but-set : (i : ℕ) (hs : List ℕ) (x : ℕ) → sum_but i (set hs i x) ≡ sum_but i hs
unfolding sum_but
but-set i [] x = refl
but-set zero (h ∷ hs) x = refl
but-set (suc i) (h ∷ hs) x = ap (λ (n : ℕ). h + n) (but-set i hs x)

but-unused : (i : ℕ) (rs hs : List ℕ) (x : ℕ) → sum_but i (unused rs (set hs i x)) ≡ sum_but i (unused rs hs)
unfolding sum_but unused
but-unused i [] hs x = refl
but-unused i (r ∷ rs) [] x = refl
but-unused zero (r ∷ rs) (h ∷ hs) x = refl
but-unused (suc i) (r ∷ rs) (h ∷ hs) x = ap (λ (n : ℕ). r - h + n) (but-unused i rs hs x)

-- so neither to what it may have
pub allowed-set : (p : Pool) (i x : ℕ) → allowed (record { reserves = p.reserves; has = set p.has i x }) i ≡ allowed p i
unfolding allowed
allowed-set p i x = let a = but-set i p.has x in let b = but-unused i p.reserves p.has x in λ j. larger (reserve_of p i) (VECTORS - (a j + b j))

pub reserve-in : (p : Pool) (i : ℕ) → reserve_of p i ≤ allowed p i
unfolding allowed
reserve-in p i = go (larger-is (reserve_of p i) (VECTORS - against p i))
  where
    m : ℕ
    m = VECTORS - against p i

    go : ((reserve_of p i ≤ m) × (larger (reserve_of p i) m ≡ m)) ⊎ ((m < reserve_of p i) × (larger (reserve_of p i) m ≡ reserve_of p i)) → reserve_of p i ≤ larger (reserve_of p i) m
    go (inl q) = omega (arith, q.0, q.1)
    go (inr q) = omega (arith, q.1)

-- ---- a pool in order

pub record Ordered (p : Pool) : Type 0 where
  pub reserved : length p.reserves ≡ RUNS
  pub counted : length p.has ≡ RUNS
  pub whole : sum p.has + sum (unused p.reserves p.has) ≤ VECTORS

module _ (p : Pool) (o : Ordered p) (i : ℕ) (l : i < RUNS) where
  abbrev h : ℕ
  h = get_or p.has i 0

  abbrev r : ℕ
  r = reserve_of p i

  -- what it has, its unused reserve, and what counts against it
  split : h + (r - h) + against p i ≤ VECTORS
  split =
      let a = sum-but i p.has in
      let b = sum-but i (unused p.reserves p.has) in
      let c = unused-at i p.reserves p.has (omega (arith, o.reserved, o.counted)) (omega (arith, o.reserved)) in
      omega (arith, a, b, c, o.whole)

  -- so it may have what the others leave
  may : allowed p i ≡ VECTORS - against p i
  unfolding allowed
  may = go (larger-is r (VECTORS - against p i))
    where
      go : ((r ≤ VECTORS - against p i) × (larger r (VECTORS - against p i) ≡ VECTORS - against p i)) ⊎ ((VECTORS - against p i < r) × (larger r (VECTORS - against p i) ≡ r)) → larger r (VECTORS - against p i) ≡ VECTORS - against p i
      go (inl q) = q.1
      go (inr q) = absurd (omega (arith, q.0, split))

  pub in-allowed : h ≤ allowed p i
  in-allowed = omega (arith, may, split)

  pub most-allowed : allowed p i ≤ VECTORS
  most-allowed = omega (arith, may)

  -- with the reserve 64 it may have 64
  pub reserved-64 : r ≡ VECTORS → allowed p i ≡ VECTORS
  reserved-64 e = omega (arith, may, split, e)

  -- a new count that it may have
  pub set-ordered : (x : ℕ) → x ≤ allowed p i → Ordered (record { reserves = p.reserves; has = set p.has i x })
  set-ordered x q =
      let a = sum-but i (set p.has i x) in
      let b = sum-but i (unused p.reserves (set p.has i x)) in
      let c = unused-at i p.reserves (set p.has i x) (omega (arith, o.reserved, o.counted, length-set p.has i x)) (omega (arith, o.reserved)) in
      let d = get_or-set_same p.has i x 0 (omega (arith, o.counted)) in
      let e = but-set i p.has x in
      let f = but-unused i p.reserves p.has x in
      let g : x + (reserve_of p i - x) + (sum_but i p.has + sum_but i (unused p.reserves p.has)) ≤ VECTORS = omega (arith, q, may, split) in
      record { reserved = o.reserved; counted = length-set p.has i x ∙ o.counted; whole = omega (arith, a, b, (rw d at c), d, e, f, g) }
