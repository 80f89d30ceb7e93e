-- The kinds of arguments in one number.
use Rattle.std.specs.Prelude.{List, [], ◌∷◌, ◌≡◌, cond, ℕ, zero, suc, ◌+◌, ◌/◌, ◌%◌, ℤ, length, ltb}
use Rattle.machine.specs.Searches.{kinds_of}
use Rattle.machine.specs.Try.{Try, got, stuck}
use Rattle.store.specs.Store.{frame_in, state_in}
use Rattle.loaded.specs.Loaded.{program_in}

-- the kinds of n arguments by their code: two bits for each, those of the first the lowest, 0 for kind 2 up to 3 for kind 5
unfoldable pub kinds_in : ℕ → ℕ → List ℕ
kinds_in x zero = []
kinds_in x (suc n) = (2 + x % 4) ∷ kinds_in (x / 4) n

-- above the codes of 8 arguments: one of them has no kind
abbrev pub KINDLESS : ℕ
KINDLESS = 65536

-- what a number stands for as the code of n arguments
unfoldable pub kinds_by : ℕ → ℕ → Try (List ℕ)
kinds_by x n = cond (ltb x KINDLESS) (got (kinds_in x n)) stuck

-- x stands for the kinds of what the registers rs of the frame k hold
abbrev pub Coded : ℕ → List ℕ → List ℕ → List ℕ → ℕ → List ℕ → Type 0
Coded x s t b k rs = (n : List ℤ) → kinds_of (program_in s t) (state_in b n) (frame_in b n k) rs ≡ kinds_by x (length rs)
