-- Lists by a rule for each place.
use Rattle.std.specs.Prelude.{List, [], ◌∷◌, ℕ, zero, suc}

-- f of each of n numbers from i on
unfoldable pub up_to : {A : Type 0} → (ℕ → A) → ℕ → ℕ → List A
up_to f i zero = []
up_to f i (suc n) = f i ∷ up_to f (suc i) n
