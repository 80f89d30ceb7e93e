-- Questions 4 and 5: what their code keeps and says, as the definitions have it.
use Rattle.std.specs.Prelude.{None, Some}
use mathlib.Core.Path.{◌≡◌, refl}
use mathlib.Core.Option.{none, some}
use mathlib.Core.Bool.{Bool, true, false}
use mathlib.Core.List.{List}
use Prim.Native.Nat.{ℕ, ◌≤◌, ◌<◌}
use native.Mathlib.Omega.{arith}
use lib.ListN.{length}
use borrow.Author.Tests.{lt-ltb, le-ltb}
use Rattle.layout.specs.Tests.{◌and◌}
use Rattle.layout.specs.Records.{rec_at}
use Rattle.layout.specs.Questions.{idle, none_due}
use Rattle.layout.specs.Turns.{turn_of, last_at}
use Rattle.layout.specs.declared.Due.{Due}

-- a turn that goes on, and one that does not
pub turn-next : (b : Bool) (due next : Due) → turn_of b due ≡ Some next → (b ≡ true) × (due ≡ next)
turn-next true due next e = (refl, cc)
turn-next false due next e = let z : ◌≡◌ {A = ℕ} 0 1 = cc in absurd (omega arith)

pub turn-refused : (b : Bool) (due : Due) → turn_of b due ≡ None → b ≡ false
turn-refused true due e = let z : ◌≡◌ {A = ℕ} 0 1 = cc in absurd (omega arith)
turn-refused false due e = refl

-- nothing is missing, or something is
pub none-missing : (end : ℕ) (due : Due) → idle due ≡ true → None ≡ none_due end due
unfolding none_due
none-missing end due h = rw h refl

pub some-missing : (end : ℕ) (due : Due) → idle due ≡ false → Some end ≡ none_due end due
unfolding none_due
some-missing end due h = rw h refl
