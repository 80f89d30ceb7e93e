-- A beginning in numbers.
use mathlib.Core.Path.{◌≡◌, ap, subst, ◌∙◌}
use mathlib.Core.List.{List}
use Prim.Native.Nat.{ℕ}
use lib.IntN.{ℤ}
use Rattle.program.specs.Program.{Program}
use Rattle.begin.specs.Asking.{Begins}
use Rattle.begin.specs.declared.Entrance.{Entrance}
use Rattle.abi.specs.Answers.{grant_numbers}
use Rattle.abi.specs.declared.answers.FirEntry.{FirEntry}
use Rattle.machine.specs.Denials.{Grant}

-- the answer as the code has it, and as it is defined
pub begins : (P : Program) (e : Entrance) (words buffer : List ℤ) (b : List ℕ) (n : List ℤ) (b' : List ℕ) (n' : List ℤ) {r : FirEntry} {x y : Grant}
    → r ≡ grant_numbers x → (x ≡ y) × Begins x P e words buffer b n b' n' → (r ≡ grant_numbers y) × Begins y P e words buffer b n b' n'
begins P e words buffer b n b' n' f h = (f ∙ ap grant_numbers h.0, subst (λ (z : Grant). Begins z P e words buffer b n b' n') h.0 h.1)
