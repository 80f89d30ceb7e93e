-- What the questions to a run come to, and what beginning it leaves.
use Rattle.std.specs.Prelude.{◌≡◌, List, [], ◌∷◌, ℕ, ◌/◌, ◌%◌, ℤ, Result, Ok, Err}
use Rattle.std.proofs.Math.Option.{some}
use Rattle.program.specs.Program.{Program, Version, find_version, parameter_types}
use Rattle.machine.specs.Calls.{frame_for}
use Rattle.machine.specs.Begin.{Given, arguments, entered_of, first_state, question19, refused, values_of, vectors_of}
use Rattle.machine.specs.declared.Begun.{Begun}
use Rattle.loaded.specs.Loaded.{program_in, version_in}
use Rattle.store.specs.Store.{state_in}
use Rattle.begin.specs.Arguments.{arguments_in, given_to}
use Rattle.begin.specs.Arrays.{first_bytes, first_numbers}
use Rattle.begin.specs.declared.Entrance.{Entrance}
use Rattle.machine.specs.Denials.{Grant}

-- a run of W that was begun with these arguments
unfoldable pub begun_with : Version → List Given → Begun
begun_with W xs = record { state = first_state (frame_for W (values_of xs 0) ∷ []) (vectors_of xs); entry = Ok tt }

-- the words make arguments for W, and with them a run is begun
abbrev pub Fitting : Begun → Version → List ℤ → Type 0
Fitting b W words = (b ≡ begun_with W (given_to W words)) × (arguments (parameter_types W) words ≡ some (given_to W words))

-- 19, 12 and 13 to a run of W, under the number k
unfoldable pub Allows : Result ℕ ℕ → ℕ → ℕ → Version → List ℤ → List ℤ → Type 0
Allows (Err q) k level W words buffer = question19 level W words buffer ≡ refused q 0
Allows (Ok j) k level W words buffer = (j ≡ k) × Fitting (question19 level W words buffer) W words

-- a run as the machine enters it
abbrev pub entered_at : Program → Entrance → List ℤ → List ℤ → Begun
entered_at P e words buffer = entered_of P e.level e.function e.version words buffer

-- 11, 19, 12 and 13 to an entrance: the version that is entered is the one of its numbers
unfoldable pub Asks : Result ℕ ℕ → List ℕ → List ℕ → Entrance → List ℤ → List ℤ → Type 0
Asks (Err q) s t e words buffer = entered_at (program_in s t) e words buffer ≡ refused q 0
Asks (Ok k) s t e words buffer =
    (k / 4 ≡ e.function) × (k % 4 ≡ e.version) × (find_version (program_in s t) e.function e.version ≡ some (version_in s t k))
    × Fitting (entered_at (program_in s t) e words buffer) (version_in s t k) words

-- What beginning leaves: a refusal the arrays as they were; else the first state, and every byte and number is told by program, entrance and words.
unfoldable pub Begins : Grant → Program → Entrance → List ℤ → List ℤ → List ℕ → List ℤ → List ℕ → List ℤ → Type 0
Begins (Err why) P e words buffer b n b' n' = (b' ≡ b) × (n' ≡ n)
Begins (Ok _) P e words buffer b n b' n' =
    let xs = arguments_in P e.function e.version words in
    (state_in b' n' ≡ (entered_at P e words buffer).state) × (b' ≡ first_bytes e.function e.version xs) × (n' ≡ first_numbers xs)
