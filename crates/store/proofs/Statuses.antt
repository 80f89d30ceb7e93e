-- The status of a state, by its byte.
use mathlib.Core.Path.{◌≡◌, refl}
use mathlib.Core.Bool.{Bool, true, false, cond}
use Prim.Native.Nat.{ℕ}
use lib.IntN.{ℤ}
use lib.Dec.{eqb}
use borrow.Author.Tests.{ne_eqb}
use Rattle.machine.specs.declared.End.{End}
use Rattle.machine.specs.declared.Status.{Status}
use Rattle.store.specs.Store.{status_of}

-- all but 0 is an end
pub ended_by : (m : ℕ) → (m ≡ 0 → ⊥) → (l : ℕ) (v : ℤ) → (w : End) × (status_of m l v ≡ Status.Ended w)
unfolding status_of
ended_by m h l v = rw (ne_eqb m 0 h) (five (eqb m 1) (eqb m 2) (eqb m 3) (eqb m 4) (eqb m 5))
  where
    five : (a b c d e : Bool) → (w : End) × (cond a (Status.Ended (End.Integer v))
        (cond b (Status.Ended (End.Vector l)) (cond c (Status.Ended End.Undef)
        (cond d (Status.Ended End.Deep) (cond e (Status.Ended End.Vectors) (Status.Ended End.Promises))))) ≡ Status.Ended w)
    five true b c d e = (End.Integer v, refl)
    five false true c d e = (End.Vector l, refl)
    five false false true d e = (End.Undef, refl)
    five false false false true e = (End.Deep, refl)
    five false false false false true = (End.Vectors, refl)
    five false false false false false = (End.Promises, refl)
