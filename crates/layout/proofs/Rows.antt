-- A table chosen from by a number.
use mathlib.Core.Path.{◌≡◌, refl}
use mathlib.Core.List.{List, [], ◌∷◌}
use mathlib.Core.Bool.{Bool, true, false, cond}
use Prim.Native.Nat.{ℕ}
use lib.Dec.{eqb}
use borrow.Author.Tests.{eqb-true}
use Rattle.layout.specs.Records.{choose}

-- what holds of each row, if it is that of the number
unfoldable pub Rows : {A : Type 0} → (A → Type 0) → ℕ → List (ℕ × A) → Type 0
Rows T k [] = Unit {0}
Rows T k (row ∷ rows) = (k ≡ row.0 → T row.1) × Rows T k rows

-- holds of the row that is chosen
pub choose-each : {A : Type 0} (T : A → Type 0) (k : ℕ) (other : A) (rows : List (ℕ × A)) → T other → Rows T k rows → T (choose k other rows)
unfolding Rows choose
choose-each T k other [] o h = o
choose-each T k other (row ∷ rows) o h = go (eqb k row.0) refl (choose-each T k other rows o h.1)
  where
    go : (b : Bool) → eqb k row.0 ≡ b → T (choose k other rows) → T (cond b row.1 (choose k other rows))
    go true e ih = h.0 (eqb-true k row.0 e)
    go false e ih = ih
