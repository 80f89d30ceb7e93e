-- What the DISPATCH looks at that a state stands at, by its bytes b, whatever its numbers n: s is the image, t its table.
use Rattle.std.specs.Prelude.{List, ◌≡◌, ℕ, ◌+◌, ℤ}
use Rattle.layout.specs.Records.{◌!◌}
use Rattle.program.specs.Program.{Program, find_version}
use Rattle.machine.specs.Searches.{kinds_of, looked_by, search_by, search_from, search_of}
use Rattle.machine.specs.Steps.{Here, registers_of}
use Rattle.machine.specs.Try.{Try, got, ◌>>=◌, at, or_stuck}
use Rattle.machine.specs.declared.Activation.{Activation}
use Rattle.machine.specs.declared.Frame.{Frame}
use Rattle.machine.specs.declared.Search.{Search}
use Rattle.store.specs.Store.{frame_in, state_in}
use Rattle.loaded.specs.Dispatching.{pairs_at}
use Rattle.loaded.specs.Loaded.{instr_in, program_in, version_in}

-- r is what the DISPATCH at the place p looks at, in the frame k of the version under the number own
abbrev pub Looks : Search → List ℕ → List ℕ → List ℕ → ℕ → ℕ → ℕ → Type 0
Looks r s t b k own p = (n : List ℤ) → r ≡ looked_by (program_in s t) (version_in s t own).level (s ! (p + 3)) (s ! (p + 4)) (s ! (p + 5)) (pairs_at s p)
    (kinds_of (program_in s t) (state_in b n) (frame_in b n k) (registers_of (pairs_at s p)))

-- r is what the instruction of the record i looks at
abbrev pub LooksAt : Search → List ℕ → List ℕ → List ℕ → ℕ → ℕ → ℕ → Type 0
LooksAt r s t b k own i = (n : List ℤ) → r ≡ search_by (program_in s t) (state_in b n) (frame_in b n k) (version_in s t own).level (instr_in s t i)

-- where a run stands, by its activation and its frame
unfoldable pub here_by : Program → Activation → Frame → Try Here
here_by P a f = do
  W ← or_stuck (find_version P f.function f.version)
  B ← at W.blocks a.block
  got (record { activation = a; frame = f; version = W; block = B })

-- r is what the run looks at whose activation on top is a, in the frame k
abbrev pub LooksIn : Search → List ℕ → List ℕ → List ℕ → ℕ → Activation → Type 0
LooksIn r s t b k a = (n : List ℤ) → r ≡ search_from (program_in s t) (state_in b n) (here_by (program_in s t) a (frame_in b n k))

-- r is what the state looks at
abbrev pub Observes : Search → List ℕ → List ℕ → List ℕ → Type 0
Observes r s t b = (n : List ℤ) → r ≡ search_of (program_in s t) (state_in b n)
