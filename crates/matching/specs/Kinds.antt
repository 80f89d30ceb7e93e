-- Kinds under a loaded program: s is the image, t its table, b the bytes of the state; nothing here depends on the state's numbers n.
use Rattle.std.specs.Prelude.{List, ◌≡◌, cond, ℕ, ◌<◌, ℤ, eqb, Option, Bool}
use Rattle.program.specs.Program.{Program}
use Rattle.machine.specs.States.{kind_in, value}
use Rattle.machine.specs.Try.{Try, got, stuck, ◌>>=◌}
use Rattle.machine.specs.declared.Frame.{Frame}
use Rattle.machine.specs.declared.State.{State}
use Rattle.machine.specs.declared.Value.{Value}
use Rattle.store.specs.Store.{frame_in, state_in, value_of}
use Rattle.acts.specs.Typed.{typed_in, typed_of}
use Rattle.ending.specs.Ends.{returns_in}
use Rattle.loaded.specs.Loaded.{program_in, version_in}

-- a kind as the code has it: 0 where there is none
unfoldable pub kind_try : ℕ → Try ℕ
kind_try m = cond (eqb m 0) stuck (got m)

-- it is that of a value, 2 an integer's, 3 a vector's, 4 a quiet and 5 a reflective promise's; or there is none
abbrev pub OfValue : ℕ → Type 0
OfValue m = (m ≡ 1 → ⊥) × (m < 6)

-- m is the kind of the value v, 0 where it has none
abbrev pub Kinded : ℕ → List ℕ → List ℕ → List ℕ → Value → Type 0
Kinded m s t b v = (n : List ℤ) → kind_try m ≡ kind_in (program_in s t) (state_in b n) v

-- likewise of a cell with this tag and this place, whatever its number
abbrev pub KindedCell : ℕ → List ℕ → List ℕ → List ℕ → ℕ → ℕ → Type 0
KindedCell m s t b tag place = (n : List ℤ) (z : ℤ) → kind_try m ≡ kind_in (program_in s t) (state_in b n) (value_of tag place z)

-- the kind of what a register holds. Stuck: it holds nothing
unfoldable pub register_kind : Program → State → Frame → ℕ → Try ℕ
register_kind P s f r = do
  v ← value f r
  kind_in P s v

-- m is that of the register r of the frame k
abbrev pub KindedRegister : ℕ → List ℕ → List ℕ → List ℕ → ℕ → ℕ → Type 0
KindedRegister m s t b k r = (n : List ℤ) → kind_try m ≡ register_kind (program_in s t) (state_in b n) (frame_in b n k) r

-- x tells whether the register a of the frame k fits the register d of the version under the number w
abbrev pub TypedBy : Option Bool → List ℕ → List ℕ → List ℕ → ℕ → ℕ → ℕ → ℕ → Type 0
TypedBy x s t b k w d a = (n : List ℤ) → typed_in (program_in s t) (version_in s t w) (state_in b n) (frame_in b n k) d a ≡ typed_of x

-- x tells whether the register r of the frame k fits what the version under the number w returns
abbrev pub Returned : Option Bool → List ℕ → List ℕ → List ℕ → ℕ → ℕ → ℕ → Type 0
Returned x s t b k w r = (n : List ℤ) → returns_in (program_in s t) (version_in s t w) (state_in b n) (frame_in b n k) r ≡ typed_of x
