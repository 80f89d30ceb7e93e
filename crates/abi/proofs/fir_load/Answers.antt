-- `abi::fir_load`: the numbers of the load; the table is the one that `load` leaves.
use Rattle.std.specs.Prelude.{Result}
use mathlib.Core.Path.{◌≡◌, ap, subst, ◌∙◌}
use mathlib.Core.List.{List}
use Prim.Native.Nat.{ℕ}
use Rattle.loaded.specs.Loading.{Stands}
use Rattle.abi.specs.Answers.{loaded_numbers}
use Rattle.abi.proofs.fir_load.Goals as goal
use Rattle.loaded.specs.declared.LoadError.{LoadError}

-- by the answer as it is defined
stands_by : (s t : List ℕ) {a b : Result ℕ LoadError} → a ≡ b → Stands s t a → Stands s t b
stands_by s t e h = subst (λ (l : Result ℕ LoadError). Stands s t l) e h

pub returns : goal.returns
returns c =
    let e = c.load.ensures in
    (c.loaded.ensures ∙ ap loaded_numbers e.0, stands_by _ _ e.0 e.1, e.2)
