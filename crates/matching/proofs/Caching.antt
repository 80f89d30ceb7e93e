-- The choices of a budget, row by row.
use Rattle.std.specs.Prelude.{Ok}
use mathlib.Core.Path.{◌≡◌, refl, sym, ap, ◌∙◌, subst}
use mathlib.Core.List.{List}
use mathlib.Core.Bool.{Bool, true, false}
use Prim.Native.Nat.{ℕ, ◌+◌, ◌*◌, ◌/◌, ◌%◌, ◌≤◌, ◌<◌}
use native.Mathlib.Omega.{arith}
use lib.ListN.{length, length-set, set}
use lib.Seq.{get_or-set_same, get_or-set_other}
use lib.Dec.{eqb}
use borrow.Author.Tests.{eqb-true, eqb-false}
use Rattle.layout.specs.Records.{◌!◌}
use Rattle.matching.specs.Choosing.{choice, Cached, Calling, Decides, Holds, Keeps, RowRight, count_at, decided_at}
use Rattle.matching.specs.Codes.{kinds_in}
use Rattle.integers.specs.declared.Fault.{Fault}
use Rattle.matching.specs.declared.Choice.{Choice}

-- ---- one row

module _ (c : List ℕ) (i p key x : ℕ) where
  -- the cache with one, two and three of the numbers
  abbrev c₁ : List ℕ
  c₁ = set c i p

  abbrev c₂ : List ℕ
  c₂ = set c₁ (i + 1) key

  abbrev c₃ : List ℕ
  c₃ = set c₂ (i + 2) x

  pub holds_not : Holds false c i p key x
  unfolding Holds
  holds_not = omega arith

  pub holds_by : c ! i ≡ p → c ! (i + 1) ≡ key → Holds (eqb (c ! (i + 2)) x) c i p key x
  unfolding Holds
  holds_by a b = go (eqb (c ! (i + 2)) x) refl
    where
      go : (y : Bool) → eqb (c ! (i + 2)) x ≡ y → Holds y c i p key x
      go true q = (a, b, eqb-true _ _ q)
      go false q = omega arith

  pub keep-done : (y : ℕ) → i < 253 → length c ≡ 256 → Keeps c (set c₃ (i + 3) y) i p key x y
  keep-done y h l = record {
    place = get_or-set_other c₃ (i + 3) i y 0 (λ z. omega arith) ∙ get_or-set_other c₂ (i + 2) i x 0 (λ z. omega arith) ∙ get_or-set_other c₁ (i + 1) i key 0 (λ z. omega arith)
        ∙ get_or-set_same c i p 0 (omega arith);
    key = get_or-set_other c₃ (i + 3) (i + 1) y 0 (λ z. omega arith) ∙ get_or-set_other c₂ (i + 2) (i + 1) x 0 (λ z. omega arith) ∙ get_or-set_same c₁ (i + 1) key 0
        (rw (length-set c i p) (omega arith));
    code = get_or-set_other c₃ (i + 3) (i + 2) y 0 (λ z. omega arith) ∙ get_or-set_same c₂ (i + 2) x 0 (rw (length-set c₁ (i + 1) key, length-set c i p) (omega arith));
    to = get_or-set_same c₃ (i + 3) y 0 (rw (length-set c₂ (i + 2) x, length-set c₁ (i + 1) key, length-set c i p) (omega arith));
    others = λ k o. let z : (i ≤ k → k < i + 4 → ⊥) = o in
        get_or-set_other c₃ (i + 3) k y 0 (λ e. z (omega arith) (omega arith)) ∙ get_or-set_other c₂ (i + 2) k x 0 (λ e. z (omega arith) (omega arith)) ∙ get_or-set_other c₁ (i + 1) k key 0
        (λ e. z (omega arith) (omega arith)) ∙ get_or-set_other c i k p 0 (λ e. z (omega arith) (omega arith));
    long = simp length-set;
  }

-- ---- all rows

-- an empty cache says nothing
pub cached-none : (s t c : List ℕ) → ((i : ℕ) → i < 256 → c ! i ≡ 0) → length c ≡ 256 → Cached s t c
cached-none s t c h l = record { right = λ i r m own k o e. let z = h (4 * i + 1) (omega arith) in let a = k.0 in absurd (omega arith); long = l }

module _ (s t c : List ℕ) (C : Cached s t c) (q : ℕ) (low : q < 64) (p key m own x : ℕ) (is : key ≡ 256 * m + own) (calls : Calling m) (few : own < 128) where
  -- what a row says
  pub cached-hit : {r : Bool} → Holds r c (4 * q) p key x → r ≡ true
      → Decides (Ok (choice (c ! (4 * q + 3) / 256) (c ! (4 * q + 3) % 256))) s t (count_at s m p) (decided_at s t own p m (kinds_in x (count_at s m p)))
  unfolding Holds
  cached-hit H e =
      let M = rw e at H in
      let R : RowRight s t p key x (c ! (4 * q + 3)) = rw (M.0, M.1, M.2) at (C.right q low) in
      R m own calls few is

  -- one more row
  pub cached-keep : (c' : List ℕ) (j w : ℕ) → j < 256 → w < 256 → Keeps c c' (4 * q) p key x (256 * j + w) → Decides (Ok (choice j w)) s t (count_at s m p)
      (decided_at s t own p m (kinds_in x (count_at s m p))) → Cached s t c'
  cached-keep c' j w a b K D = record { right = λ i l. go i l (eqb i q) refl; long = K.long ∙ C.long }
    where
      same : (y : ℕ) → y ≡ 256 * j + w → RowRight s t p key x y
      same y e m' own' calls' few' is' =
          let f : m ≡ m' = omega arith in
          let g : own ≡ own' = omega arith in
          let u : y / 256 ≡ j = omega arith in
          let v : y % 256 ≡ w = omega arith in
          rw (← f, ← g, u, v) D

      other : (i : ℕ) → (i ≡ q → ⊥) → (d : ℕ) → d < 4 → c' ! (4 * i + d) ≡ c ! (4 * i + d)
      other i z d l = K.others (4 * i + d) (λ f g. omega arith)

      go : (i : ℕ) → i < 64 → (y : Bool) → eqb i q ≡ y → RowRight s t (c' ! (4 * i)) (c' ! (4 * i + 1)) (c' ! (4 * i + 2)) (c' ! (4 * i + 3))
      go i l true e = rw (eqb-true i q e, K.place, K.key, K.code) (same (c' ! (4 * q + 3)) K.to)
      go i l false e =
          let z = eqb-false i q e in
          let f : 4 * i + 0 ≡ 4 * i = omega arith in
          let o : c' ! (4 * i) ≡ c ! (4 * i) = ap (λ (k : ℕ). c' ! k) (sym f) ∙ other i z 0 (omega arith) ∙ ap (λ (k : ℕ). c ! k) f in
          rw (o, other i z 1 (omega arith), other i z 2 (omega arith), other i z 3 (omega arith)) (C.right i l)
