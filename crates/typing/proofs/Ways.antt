-- An argument, by the ownership of its parameter.
use mathlib.Core.Path.{◌≡◌}
use mathlib.Core.List.{List}
use Prim.Native.Nat.{ℕ, ◌/◌, ◌%◌}
use lib.Dec.{eqb}
use borrow.Author.Tests.{eq-eqb, ne_eqb}
use Rattle.layout.specs.Tests.{◌and◌, count}
use Rattle.program.specs.Program.{Argument, Version}
use Rattle.rules.specs.Types.{kind_of, ownership_of, is_owned, is_borrowed, within}
use Rattle.rules.specs.Fits.{declared_kind, shared, vector, owned, fits_argument}

module _ (v : Version) (call : List Argument) (a : Argument) {t : ℕ} (e : t ≡ a.type) where
  pub fits-owned : t / 16 ≡ 1 → fits_argument v call a ≡ (owned v a.register and eqb (count (λ (b : Argument). eqb b.register a.register) call) 1)
  unfolding fits_argument is_owned ownership_of
  fits-owned h = simp (← e, eq-eqb (t / 16) 1 h)

  pub fits-borrowed : t / 16 ≡ 2 → fits_argument v call a ≡ vector v a.register
  unfolding fits_argument is_owned is_borrowed ownership_of
  fits-borrowed h = simp (← e, h)

  pub fits-shared : (t / 16 ≡ 1 → ⊥) → (t / 16 ≡ 2 → ⊥) → fits_argument v call a ≡ (shared v a.register and within (declared_kind v a.register) (t % 16))
  unfolding fits_argument is_owned is_borrowed ownership_of kind_of
  fits-shared x y = simp (← e, ne_eqb (t / 16) 1 x, ne_eqb (t / 16) 2 y)
