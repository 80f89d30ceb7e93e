-- CALL and DISPATCH before they open a call.
use Rattle.std.specs.Prelude.{List, ◌≡◌, Bool, true, false, cond, ℕ, ◌+◌, ◌*◌, ◌/◌, ◌%◌, ◌<◌, ◌≤◌, ℤ, length, take, eqb, Result, Ok, Err}
use Rattle.layout.specs.Kinds as kind
use Rattle.layout.specs.Records.{◌!◌, every}
use Rattle.program.specs.Program.{Version, find_version, parameter_types}
use Rattle.machine.specs.Calls.{matching}
use Rattle.machine.specs.Steps.{execute}
use Rattle.machine.specs.Try.{Try, got, stuck, stop, ◌>>=◌, ◌>>◌, or_stuck, stuck_unless}
use Rattle.machine.specs.declared.End.{End}
use Rattle.machine.specs.declared.State.{State}
use Rattle.store.specs.Store.{frame_in, state_in}
use Rattle.listing.specs.Entering.{AllFull, Marks, entered}
use Rattle.loaded.specs.Loaded.{NUMBERS, few, instr_in, place_in, program_in, record_at, version_in}
use Rattle.matching.specs.Arguments.{Masks, picked_at}
use Rattle.matching.specs.Codes.{kinds_in}
use Rattle.integers.specs.declared.Fault.{Fault}
use Rattle.matching.specs.declared.Choice.{Choice}
use Rattle.matching.specs.declared.Site.{Site}

-- ---- which version is called, by the kinds of the arguments

-- what the CALL at the place p calls: the version that it names, where the arguments match
unfoldable pub called_at : List ℕ → List ℕ → ℕ → List ℕ → Try Version
called_at s t p ks = do
  X ← or_stuck (find_version (program_in s t) (s ! (p + 3)) (s ! (p + 4)))
  stuck_unless (matching ks (parameter_types X))
  got X

-- what the instruction of the kind m calls, a CALL or DISPATCH at the place p of the version under the number own
unfoldable pub decided_at : List ℕ → List ℕ → ℕ → ℕ → ℕ → List ℕ → Try Version
decided_at s t own p m ks = cond (eqb m kind.CALL) (called_at s t p ks) (picked_at s t own p ks)

-- the version under the number j, and of its arguments the owned ones by the mask m
abbrev pub choice : ℕ → ℕ → Choice
choice j m = record { version = j; owned = m }

-- a choice says what that is, and of n arguments which go to owned parameters
unfoldable pub Decides : Result Choice Fault → List ℕ → List ℕ → ℕ → Try Version → Type 0
Decides (Ok r) s t n x = (x ≡ got (version_in s t r.version)) × (r.version < NUMBERS) × Masks r.owned (parameter_types (version_in s t r.version)) n
Decides (Err Fault.Undef) s t n x = x ≡ stop End.Undef
Decides (Err Fault.Stuck) s t n x = x ≡ stuck

-- ---- what is known from before

-- a kind of instruction that calls
abbrev pub Calling : ℕ → Type 0
Calling m = (kind.CALL ≤ m) × (m ≤ kind.DISPATCH)

-- how many registers the CALL or DISPATCH of the kind m at the place p lists
unfoldable pub count_at : List ℕ → ℕ → ℕ → ℕ
count_at s m p = few (s ! (p + cond (eqb m kind.CALL) 5 6))

-- the registers that it lists
unfoldable pub registers_at : List ℕ → ℕ → ℕ → List ℕ
registers_at s m p = cond (eqb m kind.CALL) (every s (p + 6) 1 (count_at s m p)) (every s (p + 8) 2 (count_at s m p))

-- the row (p, key, x, y) is right: where key is 256 m + own, the kind m at the place p in the version own calls, by the code x, the version y / 256 with the mask y % 256
abbrev pub RowRight : List ℕ → List ℕ → ℕ → ℕ → ℕ → ℕ → Type 0
RowRight s t p key x y = (m own : ℕ) → Calling m → own < NUMBERS → key ≡ 256 * m + own
    → Decides (Ok (choice (y / 256) (y % 256))) s t (count_at s m p) (decided_at s t own p m (kinds_in x (count_at s m p)))

-- each of the 64 rows of the cache is right, or empty
pub record Cached (s t c : List ℕ) : Type 0 where
  pub right : (i : ℕ) → i < 64 → RowRight s t (c ! (4 * i)) (c ! (4 * i + 1)) (c ! (4 * i + 2)) (c ! (4 * i + 3))
  pub long : length c ≡ 256

-- ---- the instruction

-- the site's numbers are in bounds, and rs are the registers that a CALL or DISPATCH at its place lists
pub record Sited (s : List ℕ) (x : Site) (rs : List ℕ) : Type 0 where
  pub frame : x.frame < 32
  pub own : x.own < NUMBERS
  pub calls : Calling x.kind
  pub count : x.n ≡ count_at s x.kind x.place
  pub lists : take x.n rs ≡ registers_at s x.kind x.place

-- a choice says what is called there, by the code of the kinds of the arguments
abbrev pub DecidesBy : Result Choice Fault → List ℕ → List ℕ → Site → ℕ → Type 0
DecidesBy r s t x code = Decides r s t x.n (decided_at s t x.own x.place x.kind (kinds_in code x.n))

-- what executing the instruction of the record i there comes to
abbrev pub executed_at : List ℕ → List ℕ → List ℕ → List ℤ → Site → ℕ → Try State
executed_at s t b n x i = execute (program_in s t) (state_in b n) x.frame (frame_in b n x.frame) (version_in s t x.own) (instr_in s t i)

-- the version under the number j is entered with the registers rs, of which the mask m tells
pub record Entering (j m : ℕ) (s t b : List ℕ) (n : List ℤ) (x : Site) (i : ℕ) (rs : List ℕ) : Type 0 where
  pub low : j < NUMBERS
  pub enters : executed_at s t b n x i ≡ entered (state_in b n) x.frame (frame_in b n x.frame) (s ! (x.place + 2)) (version_in s t j) rs
  pub marks : Marks m (parameter_types (version_in s t j)) rs
  pub function : (version_in s t j).function ≡ j / 4
  pub version : (version_in s t j).version ≡ j % 4
  pub full : AllFull b n x.frame rs

-- by the choice: a version is entered; UNDEF; stuck
unfoldable pub Comes : Result Choice Fault → List ℕ → List ℕ → List ℕ → List ℤ → Site → ℕ → List ℕ → Type 0
Comes (Ok r) s t b n x i rs = Entering r.version r.owned s t b n x i rs
Comes (Err Fault.Undef) s t b n x i rs = executed_at s t b n x i ≡ stop End.Undef
Comes (Err Fault.Stuck) s t b n x i rs = executed_at s t b n x i ≡ stuck

-- so for each record of the site's kind and place, whatever the state's numbers: it tells something where there is one, and the loop always has one
abbrev pub Chooses : Result Choice Fault → List ℕ → List ℕ → List ℕ → Site → List ℕ → Type 0
Chooses r s t b x rs = (n : List ℤ) (i : ℕ) → t ! record_at i ≡ x.kind → place_in t i ≡ x.place → Comes r s t b n x i (take x.n rs)

-- ---- a row of the cache

-- the row at i is that of the place, the key and the code; false tells nothing
unfoldable pub Holds : Bool → List ℕ → ℕ → ℕ → ℕ → ℕ → Type 0
Holds true c i p key x = (c ! i ≡ p) × (c ! (i + 1) ≡ key) × (c ! (i + 2) ≡ x)
Holds false c i p key x = 0 < 1  -- always true

-- the four numbers stand at i, and all else is as it was
pub record Keeps (c c' : List ℕ) (i p h x y : ℕ) : Type 0 where
  pub place : c' ! i ≡ p
  pub key : c' ! (i + 1) ≡ h
  pub code : c' ! (i + 2) ≡ x
  pub to : c' ! (i + 3) ≡ y
  pub others : (k : ℕ) → (i ≤ k → k < i + 4 → ⊥) → c' ! k ≡ c ! k
  pub long : length c' ≡ length c
