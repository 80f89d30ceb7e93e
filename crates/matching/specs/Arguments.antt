-- Arguments by their kinds: which versions they fit, and which of them go to owned parameters.
use Rattle.std.specs.Prelude.{List, ◌≡◌, Bool, true, false, cond, ◌&&◌, ℕ, ◌+◌, ◌<◌, length, ltb, None, Option, Some}
use Rattle.layout.specs.Records.{◌!◌}
use Rattle.program.specs.Program.{Version, parameter_types}
use Rattle.rules.specs.Types.{is_owned}
use Rattle.machine.specs.Calls.{dispatches, matching, picked, searched}
use Rattle.machine.specs.Try.{Try}
use Rattle.listing.specs.Entering.{is_bit}
use Rattle.loaded.specs.Dispatching.{pairs_at}
use Rattle.loaded.specs.Loaded.{program_in, version_in}

-- the bit of a type: 1 for an owned one
unfoldable pub bit_of : ℕ → ℕ
bit_of t = cond (is_owned t) 1 0

-- the mask tells which of n arguments go to owned parameters of types ts
abbrev pub Masks : ℕ → List ℕ → ℕ → Type 0
Masks m ts n = (i : ℕ) → i < n → is_bit m i ≡ (ltb i (length ts) && is_owned (ts ! i))

-- n arguments pass a test or not, and where they do a mask tells which go to owned parameters of types ts
unfoldable pub FitsIf : Option ℕ → Bool → List ℕ → ℕ → Type 0
FitsIf (Some m) y ts n = (y ≡ true) × Masks m ts n
FitsIf None y ts n = y ≡ false

-- arguments of the kinds ks against a version
abbrev pub Matches : Option ℕ → List ℕ → Version → Type 0
Matches r ks W = FitsIf r (matching ks (parameter_types W)) (parameter_types W) (length ks)

-- what the DISPATCH at the place p, in the version under the number own, passes with arguments of the kinds ks
unfoldable pub dispatches_at : List ℕ → List ℕ → ℕ → ℕ → List ℕ → Version → Bool
dispatches_at s t own p ks W = dispatches (version_in s t own).level (s ! (p + 4)) (s ! (p + 5)) (pairs_at s p) ks W

-- r tells whether W is passed, and which arguments go to owned parameters
abbrev pub Passes : Option ℕ → List ℕ → List ℕ → ℕ → ℕ → List ℕ → Version → Type 0
Passes r s t own p ks W = FitsIf r (dispatches_at s t own p ks W) (parameter_types W) (length ks)

-- what it picks
abbrev pub picked_at : List ℕ → List ℕ → ℕ → ℕ → List ℕ → Try Version
picked_at s t own p ks = picked (program_in s t) (version_in s t own).level (s ! (p + 3)) (s ! (p + 4)) (s ! (p + 5)) (pairs_at s p) ks

-- how many versions it looks at
abbrev pub searched_at : List ℕ → List ℕ → ℕ → ℕ → List ℕ → ℕ
searched_at s t own p ks = searched (program_in s t) (version_in s t own).level (s ! (p + 3)) (s ! (p + 4)) (s ! (p + 5)) (pairs_at s p) ks
