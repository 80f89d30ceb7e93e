-- The verdict, question by question, and the versions that it counts.
use Rattle.std.specs.Prelude.{None, Some, Err, Ok}
use mathlib.Core.Path.{◌≡◌, refl, ap}
use Rattle.layout.specs.Found.{Found}
use mathlib.Core.List.{List}
use mathlib.Core.Bool.{Bool, true, false, cond}
use Prim.Native.Nat.{ℕ, ◌+◌, ◌≤◌}
use native.Mathlib.Omega.{arith}
use lib.ListN.{length}
use lib.Dec.{eqb, ltb, leb}
use borrow.Author.Tests.{eqb-true, eqb-false, leb-true}
use Rattle.layout.specs.Bounds.{IMAGE}
use Rattle.layout.specs.Tests.{◌and◌}
use Rattle.layout.specs.Questions.{question1}
use Rattle.layout.proofs.Bools.{and_both}
use Rattle.layout.specs.Kinds as kind
use Rattle.layout.specs.declared.Form.{Form}
use Rattle.program.specs.Program.{nowhere}
use Rattle.program.specs.Places.{view_at}
use Rattle.program.proofs.Views.{Whole, at-version, at_block, at-line}
use Rattle.checker.specs.declared.Refusal.{Refusal}
use Rattle.checker.specs.Verdicts.{ask, verdict_in, Verdict, refused}

-- a question that says yes, and one that says no
pub ask-yes : (n : ℕ) {x : Found} (more : Verdict) → x ≡ None → ask n x more ≡ more
unfolding ask
ask-yes n more e = rw e

pub ask-no : (n : ℕ) {p : ℕ} {x : Found} (more : Verdict) → x ≡ Some p → ask n x more ≡ Err (refused n p)
unfolding ask
ask-no n more e = rw e

-- a question that says no refuses, whatever follows
pub still-refused : (n : ℕ) (x : Found) (k : ℕ) (more : Verdict) {why : Refusal} → ask n x (Ok k) ≡ Err why → ask n x more ≡ Err why
unfolding ask
still-refused n None k more e = let z : ◌≡◌ {A = ℕ} 0 1 = cc in absurd (omega arith)
still-refused n (Some p) k more e = e

-- one refusal has one number and one offset
pub refused-same : {q p n m : ℕ} → ◌≡◌ {A = Verdict} (Err (refused q p)) (Err (refused n m)) → (q ≡ n) × (p ≡ m)
refused-same {q} {p} {n} {m} e = let z : refused q p ≡ refused n m = cc in (ap (λ (why : Refusal). why.question) z, ap (λ (why : Refusal). why.at) z)

-- the versions ahead of a record
pub none_ahead : (s : List ℕ) (p : ℕ) → view_at s p ≡ nowhere → length (view_at s p).versions ≡ 0
none_ahead s p e = rw e

module _ {s : List ℕ} {p n k : ℕ} (m : Whole s p n k) where
  pub one-ahead : k ≡ kind.VERSION → length (view_at s p).versions ≡ 1 + length (view_at s (p + n)).versions
  one-ahead e = rw (at-version m e) (omega arith)

  pub same_ahead : (k ≡ kind.VERSION → ⊥) → (view_at s p).versions ≡ (view_at s (p + n)).versions
  same_ahead x = go (eqb k kind.BLOCK) refl
    where
      go : (b : Bool) → eqb k kind.BLOCK ≡ b → (view_at s p).versions ≡ (view_at s (p + n)).versions
      go true e = rw (at_block m (eqb-true k kind.BLOCK e))
      go false e = rw (at-line m x (eqb-false k kind.BLOCK e))

-- an accepted image is no longer than the bound
pub asked : (n : ℕ) (x : Found) (more : Verdict) (k : ℕ) → ask n x more ≡ Ok k → (x ≡ None) × (more ≡ Ok k)
unfolding ask
asked n None more k e = (refl, e)
asked n (Some p) more k e = let z : ◌≡◌ {A = ℕ} 0 1 = cc in absurd (omega arith)

pub accepted-short : (form : Form) (s : List ℕ) (k : ℕ) → verdict_in form s ≡ Ok k → length s ≤ IMAGE
unfolding verdict_in question1
accepted-short form s k e = go (ltb 0 (length s) and leb (length s) IMAGE) refl (asked 1 _ _ k e).0
  where
    go : (b : Bool) → (ltb 0 (length s) and leb (length s) IMAGE) ≡ b → cond {A = Found} b None (Some 0) ≡ None → length s ≤ IMAGE
    go true x y = leb-true (length s) IMAGE (and_both _ _ x).1
    go false x y = let z : ◌≡◌ {A = ℕ} 0 1 = cc in absurd (omega arith)
