-- Each version stands once in the list; an accepted image has no more of them than there are rows.
use Rattle.std.specs.Prelude.{Ok}
use mathlib.Core.Path.{◌≡◌, refl, sym, ap, ◌∙◌, subst}
use mathlib.Core.List.{List, [], ◌∷◌, ◌++◌, Memᴰ}
use mathlib.Core.Option.{Option, none, some}
use mathlib.Core.Bool.{Bool, true, false, cond, ◌||◌, true≢false}
use Prim.Native.Nat.{ℕ, zero, suc, ◌+◌, ◌/◌, ◌%◌, ◌≤◌, ◌<◌}
use native.Mathlib.Decide.{ℕ_discrete}
use native.Mathlib.Omega.{arith}
use lib.ListN.{length, length-append}
use borrow.Author.Tests.{eqb-true, not-true}
use Rattle.layout.specs.Bounds.{ALL-VERSIONS}
use Rattle.layout.specs.Records.{records}
use Rattle.layout.specs.Tests.{any, count}
use Rattle.layout.proofs.Bools.{and_both}
use Rattle.program.specs.Program.{Version, Program}
use Rattle.program.proofs.Held.{find-numbers}
use Rattle.checker.specs.Verdicts.{verdict_of}
use Rattle.checker.proofs.Accepted.{passed as passed-all}
use Rattle.checker.proofs.Few.{few-versions as few-in-all}
use Rattle.machine.specs.Begin.{program_of}
use Rattle.bounds.specs.Bounds.{Row, same, is_listed, is_free, first_of, by_number, row_of, listed_from, bounded, unlisted}
use Rattle.bounds.proofs.Listing.{first-mem, same_self}
use Rattle.bounds.proofs.Slots.{slot, slots, by_slots, slots-there, slots-missing, slots-few}

-- ---- a version in order of number stands at one place

-- one of n places from k on
pub mem-slot : (P : Program) (n k : ℕ) (v : Version) → Memᴰ v (slots P n k) → (c : ℕ) × (slot P c ≡ some v) × (k ≤ c) × (c < k + n)
unfolding slots
mem-slot P zero k v m = elim m [ ]
mem-slot P (suc n) k v m = go (slot P k) refl (mem-slot P n (k + 1) v)
  where
    later : ((c : ℕ) × (slot P c ≡ some v) × (k + 1 ≤ c) × (c < k + 1 + n)) → (c : ℕ) × (slot P c ≡ some v) × (k ≤ c) × (c < k + suc n)
    later t = (t.0, t.1, omega (arith, t.2), omega (arith, t.3))

    go : (o : Option Version) → slot P k ≡ o → (Memᴰ v (slots P n (k + 1)) → (c : ℕ) × (slot P c ≡ some v) × (k + 1 ≤ c) × (c < k + 1 + n)) → (c : ℕ) × (slot P c ≡ some v) × (k ≤ c) × (c < k + suc n)
    go none e ih = later (ih (subst (Memᴰ v) (slots-missing P n k e) m))
    go (some x) e ih = front (subst (Memᴰ v) (slots-there P n k x e) m)
      where
        front : Memᴰ v (x ∷ slots P n (k + 1)) → (c : ℕ) × (slot P c ≡ some v) × (k ≤ c) × (c < k + suc n)
        front (Memᴰ.head q) = (k, rw q e, omega arith, omega arith)
        front (Memᴰ.tail q) = later (ih q)

-- versions at two places are two
same-apart : (P : Program) (c k : ℕ) (v x : Version) → slot P c ≡ some v → slot P k ≡ some x → (c ≡ k → ⊥) → same v x ≡ false
unfolding same
same-apart P c k v x e g h = go (same v x) refl
  where
    a : (v.function ≡ c / 4) × (v.version ≡ c % 4)
    a = find-numbers P (c / 4) (c % 4) v e

    b : (x.function ≡ k / 4) × (x.version ≡ k % 4)
    b = find-numbers P (k / 4) (k % 4) x g

    go : (t : Bool) → same v x ≡ t → same v x ≡ false
    go true q = let t = and_both _ _ q in absurd (h (omega (arith, a.0, a.1, b.0, b.1, eqb-true v.function x.function t.0, eqb-true v.version x.version t.1)))
    go false q = q

module _ (P : Program) (c : ℕ) (v : Version) (there : slot P c ≡ some v) where
  once-behind : (n k : ℕ) → c < k → count (same v) (slots P n k) ≡ 0
  unfolding slots count
  once-behind zero k h = refl
  once-behind (suc n) k h = go (slot P k) refl (once-behind n (k + 1) (omega arith))
    where
      go : (o : Option Version) → slot P k ≡ o → count (same v) (slots P n (k + 1)) ≡ 0 → count (same v) (slots P (suc n) k) ≡ 0
      go none e ih = rw (slots-missing P n k e) ih
      go (some x) e ih = rw (slots-there P n k x e, same-apart P c k v x there e (λ q. absurd (omega arith))) (omega (arith, ih))

  pub once : (n k : ℕ) → k ≤ c → c < k + n → count (same v) (slots P n k) ≡ 1
  unfolding slots count
  once zero k h l = absurd (omega arith)
  once (suc n) k h l = go (ℕ_discrete c k) (λ a b. once n (k + 1) a b)
    where
      other : (c ≡ k → ⊥) → (o : Option Version) → slot P k ≡ o → count (same v) (slots P n (k + 1)) ≡ 1 → count (same v) (slots P (suc n) k) ≡ 1
      other q none e ih = rw (slots-missing P n k e) ih
      other q (some x) e ih = rw (slots-there P n k x e, same-apart P c k v x there e q) (omega (arith, ih))

      go : Dec (c ≡ k) → (k + 1 ≤ c → c < k + 1 + n → count (same v) (slots P n (k + 1)) ≡ 1) → count (same v) (slots P (suc n) k) ≡ 1
      go (yes q) ih = rw (slots-there P n k v (rw (sym q) there), same_self v) (omega (arith, once-behind n (k + 1) (omega arith)))
      go (no q) ih = other q (slot P k) refl (ih (omega arith) (omega arith))

-- ---- one more row, one fewer that is not listed

-- by numbers alone
pub listed_same : (rows : List Row) (v x : Version) → same v x ≡ true → is_listed rows x ≡ is_listed rows v
unfolding is_listed same
listed_same rows v x h =
    let t = and_both _ _ h in
    rw (eqb-true v.function x.function t.0, eqb-true v.version x.version t.1) refl

pub listed-last : (rows : List Row) (r : Row) (x : Version) → is_listed (rows ++ (r ∷ [])) x ≡ (is_listed rows x || same r.version x)
unfolding is_listed any
listed-last [] r x = or-none (same r.version x)
  where
    or-none : (b : Bool) → (b || false) ≡ b
    or-none true = refl
    or-none false = refl
listed-last (y ∷ rows) r x = go (same y.version x) (listed-last rows r x)
  where
    go : (b : Bool) → is_listed (rows ++ (r ∷ [])) x ≡ (is_listed rows x || same r.version x) → (b || is_listed (rows ++ (r ∷ [])) x) ≡ ((b || is_listed rows x) || same r.version x)
    go true ih = refl
    go false ih = ih

unlisted-less : (rows : List Row) (r : Row) → is_listed rows r.version ≡ false → (vs : List Version) → length (unlisted rows vs) ≡ length (unlisted (rows ++ (r ∷ [])) vs) + count (same r.version) vs
unfolding unlisted count
unlisted-less rows r h [] = refl
unlisted-less rows r h (x ∷ vs) = rw (listed-last rows r x) (go (is_listed rows x) (same r.version x) refl refl (unlisted-less rows r h vs))
  where
    go : (a b : Bool) → is_listed rows x ≡ a → same r.version x ≡ b → length (unlisted rows vs) ≡ length (unlisted (rows ++ (r ∷ [])) vs) + count (same r.version) vs
        → length (cond a (unlisted rows vs) (x ∷ unlisted rows vs)) ≡ length (cond (a || b) (unlisted (rows ++ (r ∷ [])) vs) (x ∷ unlisted (rows ++ (r ∷ [])) vs)) + (cond b 1 0 + count (same r.version) vs)
    go true true ea eb ih = absurd (true≢false (sym ea ∙ listed_same rows r.version x eb ∙ h))
    go true false ea eb ih = omega (arith, ih)
    go false true ea eb ih = omega (arith, ih)
    go false false ea eb ih = omega (arith, ih)

pub unlisted-none : (vs : List Version) → unlisted [] vs ≡ vs
unfolding unlisted is_listed any
unlisted-none [] = refl
unlisted-none (x ∷ vs) = ap (λ (l : List Version). x ∷ l) (unlisted-none vs)

-- one that is free is not listed
free-less : (P : Program) (rows : List Row) (v : Version) → is_free P rows v ≡ true → (vs : List Version) → length (unlisted rows vs) ≡ length (unlisted (rows ++ (row_of P rows v ∷ [])) vs) + count (same v) vs
unfolding is_free row_of
free-less P rows v e vs = unlisted-less rows (row_of P rows v) (not-true (is_listed rows v) (and_both _ _ e).0) vs

total-from : (P : Program) (n : ℕ) (rows : List Row) → length rows + length (unlisted rows (by_number P)) ≡ length (by_number P)
    → length (listed_from P (by_number P) n rows) + length (unlisted (listed_from P (by_number P) n rows) (by_number P)) ≡ length (by_number P)
unfolding listed_from
total-from P zero rows h = h
total-from P (suc n) rows h = go (first_of (is_free P rows) (by_number P)) refl (λ r q. total-from P n r q)
  where
    Total : List Row → Type 0
    Total r = length r + length (unlisted r (by_number P)) ≡ length (by_number P)

    go : (o : Option Version) → first_of (is_free P rows) (by_number P) ≡ o → ((r : List Row) → Total r → Total (listed_from P (by_number P) n r)) → Total (elim o [ none ↦ rows | some v ↦ listed_from P (by_number P) n (rows ++ (row_of P rows v ∷ [])) ])
    go none e ih = h
    go (some v) e ih = ih (rows ++ (row_of P rows v ∷ [])) (omega (arith, h, length-append rows (row_of P rows v ∷ []), less, one))
      where
        met : Memᴰ v (by_number P) × (is_free P rows v ≡ true)
        met = first-mem (is_free P rows) (by_number P) v e

        less : length (unlisted rows (by_number P)) ≡ length (unlisted (rows ++ (row_of P rows v ∷ [])) (by_number P)) + count (same v) (by_number P)
        less = free-less P rows v met.1 (by_number P)

        one : count (same v) (by_number P) ≡ 1
        one =
            let t = mem-slot P 128 0 v (subst (Memᴰ v) (by_slots P) met.0) in
            rw (by_slots P) (once P t.0 v t.1 128 0 t.2 t.3)

-- THE LAW: each version is listed, or it is not, and stands once
pub total : (P : Program) → length (bounded P) + length (unlisted (bounded P) (by_number P)) ≡ length (by_number P)
unfolding bounded
total P = total-from P (length (by_number P)) [] (rw (unlisted-none (by_number P)) (omega arith))

-- THE LAW: an accepted image has at most 64 versions
pub few-versions : (image : List ℕ) (k : ℕ) → verdict_of image ≡ Ok k → length (by_number (program_of image)) ≤ ALL-VERSIONS
few-versions image k e = omega (arith, few-in-all (length image) (records image) (passed-all image k e).q4, slots-few (program_of image))
