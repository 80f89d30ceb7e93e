-- A start, and a change of the image that is one or is refused.
use Rattle.std.specs.Prelude.{Err, Ok}
use mathlib.Core.Path.{◌≡◌, refl, sym}
use mathlib.Core.List.{List}
use mathlib.Core.Bool.{true, false, true≢false}
use Prim.Native.Nat.{ℕ}
use native.Mathlib.Omega.{arith}
use lib.IntN.{ℤ}
use Rattle.machine.specs.Changes.{change_of}
use Rattle.machine.specs.Trails.{behind_by, change_on}
use Rattle.runs.specs.Backs.{is_taken}
use Rattle.store.specs.Store.{state_in}
use Rattle.trails.specs.Arrays.{Renews, Starts, behind_in}
use Rattle.machine.specs.Denials.{Grant}

pub starts : (b : List ℕ) (n : List ℤ) → Starts b n b n 0 0
unfolding behind_in behind_by
starts b n = record { trail = refl; bytes = refl; numbers = refl }

-- what a change does by whether it is taken
module _ (old new b : List ℕ) (n : List ℤ) (b₀ : List ℕ) (n₀ : List ℤ) (s p : ℕ) where
  pub change-taken : (c : Grant) (b₀' : List ℕ) (n₀' : List ℤ) (s' p' : ℕ) → ((n : List ℤ) → c ≡ change_of old new (state_in b n)) → is_taken c ≡ true → Starts b n b₀' n₀' s' p' → Renews c old new b n b₀ n₀ s p b₀' n₀' s' p'
  unfolding change_on
  change-taken (Ok _) b₀' n₀' s' p' h e x = record {
    changed = h n;
    trail = x.trail;
    taken = λ _. x;
    refused = λ q o g. let z : ◌≡◌ {A = ℕ} 0 1 = cc in absurd (omega arith);
  }
  change-taken (Err why) b₀' n₀' s' p' h e x = absurd (true≢false (sym e))

  pub change-refused : (c : Grant) → ((n : List ℤ) → c ≡ change_of old new (state_in b n)) → is_taken c ≡ false → Renews c old new b n b₀ n₀ s p b₀ n₀ s p
  unfolding change_on
  change-refused (Ok _) h e = absurd (true≢false e)
  change-refused (Err why) h e = record {
    changed = h n;
    trail = refl;
    taken = λ g. let z : ◌≡◌ {A = ℕ} 0 1 = cc in absurd (omega arith);
    refused = λ _ _ _. (refl, refl, refl, refl);
  }
