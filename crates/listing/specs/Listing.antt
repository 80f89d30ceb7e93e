-- The integers of registers that are listed.
use Rattle.std.specs.Prelude.{List, [], ◌∷◌, ◌≡◌, Bool, true, false, ℕ, ◌+◌, ◌*◌, ◌<◌, ℤ, pos, get_or, length}
use Rattle.layout.specs.Records.{◌!◌}
use Rattle.machine.specs.States.{integer, new_vector, with_vector}
use Rattle.machine.specs.Try.{each, got, stuck}
use Rattle.machine.specs.declared.State.{State}
use Rattle.store.specs.Store.{◌#◌, frame_in, state_in}

-- the numbers of these registers of the frame k
unfoldable pub numbers_of : List ℤ → ℕ → List ℕ → List ℤ
numbers_of n k [] = []
numbers_of n k (r ∷ rs) = n # (32 * k + r) ∷ numbers_of n k rs

-- the number of the register j that is listed, 0 where there is none
abbrev pub pick_in : List ℤ → ℕ → List ℕ → ℕ → ℤ
pick_in n k rs j = get_or (numbers_of n k rs) j (pos 0)

-- they are registers of a frame
abbrev pub Small : List ℕ → Type 0
Small rs = (i : ℕ) → i < length rs → rs ! i < 16

-- they hold integers, which are their numbers, or one does not
unfoldable pub Gathers : Bool → List ℕ → List ℤ → ℕ → List ℕ → Type 0
Gathers true b n k rs = (each (integer (frame_in b n k)) rs ≡ got (numbers_of n k rs)) × Small rs
Gathers false b n k rs = each (integer (frame_in b n k)) rs ≡ stuck

-- the state with a vector of them at the place v
abbrev pub vector_made : List ℕ → List ℤ → ℕ → ℕ → List ℕ → State
vector_made b n k v rs = with_vector (state_in b n) v (new_vector (numbers_of n k rs))
