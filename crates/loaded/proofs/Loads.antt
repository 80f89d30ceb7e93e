-- What `load` answers, by the verdict and the table's length.
use Rattle.std.specs.Prelude.{None, Err, Ok}
use mathlib.Core.Path.{◌≡◌, refl, ap, ◌∙◌}
use mathlib.Core.List.{List}
use Prim.Native.Nat.{ℕ, ◌≤◌, ◌<◌, min}
use native.Mathlib.Omega.{arith}
use lib.ListN.{length}
use borrow.Author.Tests.{lt-ltb, le-ltb, leb-true}
use Rattle.layout.specs.Bounds.{IMAGE}
use Rattle.layout.specs.Records.{◌!◌, records}
use Rattle.layout.specs.Questions.{question1}
use Rattle.layout.proofs.Bools.{and_both}
use Rattle.program.proofs.Laid.{passed}
use Rattle.program.specs.Program.{find_version}
use Rattle.checker.specs.Verdicts.{verdict_of}
use Rattle.checker.specs.declared.Refusal.{Refusal}
use Rattle.checker.proofs.Accepted as Accept
use Rattle.loaded.specs.Loaded.{program_in}
use Rattle.loaded.specs.Filling.{beginning, filled}
use Rattle.loaded.specs.Loading.{answered, bytes_for, load_of, Stands}
use Rattle.loaded.proofs.Filled.{filled-stands}
use Rattle.loaded.proofs.Finding.{no-versions}
use Rattle.loaded.specs.declared.LoadError.TheVariants.{Short, Refused}

-- an accepted image is not too long
pub not-long : (s : List ℕ) (n : ℕ) → verdict_of s ≡ Ok n → length s ≤ 32768
unfolding question1
not-long s n e = leb-true _ _ (and_both _ _ (passed _ None 0 (Accept.passed s n e).q1).0).1

-- t₀ with all versions taken off is t
module _ (s t₀ t : List ℕ) (long : length t ≡ length t₀) (free : (j : ℕ) → j < 256 → t ! j ≡ 0) where
  pub load-refused : (why : Refusal) → verdict_of s ≡ Err why → (Err (Refused why) ≡ load_of s (length t₀)) × Stands s t (Err (Refused why)) × (length t ≡ length t₀)
  unfolding answered Stands
  load-refused why e = (rw e refl, no-versions s t free, long)

  module _ (n : ℕ) (e : verdict_of s ≡ Ok n) (m : ℕ) (needed : m ≡ bytes_for (min (length s) IMAGE)) where
    enough : m ≡ bytes_for (length s)
    enough = let l = not-long s n e in let x : min (length s) IMAGE ≡ length s = omega arith in rw x at needed

    pub load-short : length t < m → (Err (Short m) ≡ load_of s (length t₀)) × Stands s t (Err (Short m)) × (length t ≡ length t₀)
    unfolding answered Stands
    load-short l = let g = enough in (rw (g, e, lt-ltb (length t₀) (bytes_for (length s)) (omega arith)) refl, no-versions s t free, long)

    pub load-ready : (T : List ℕ) → m ≤ length t → T ≡ filled s (records s) beginning t → length T ≡ length t₀ → (Ok n ≡ load_of s (length t₀)) × Stands s T (Ok n) ×
        (length T ≡ length t₀)
    unfolding answered Stands
    load-ready T l x y =
        let g = enough in (
          rw (e, le-ltb (length t₀) (bytes_for (length s)) (omega arith)) refl,
          (λ f w. ap (λ (u : List ℕ). find_version (program_in s u) f w) x ∙ filled-stands s t n e free (omega arith) f w),
          y,
        )
