-- The operations on integers end a run by UNDEF alone.
use Rattle.std.specs.Prelude.{None, Some, Ok, Err}
use mathlib.Core.Path.{◌≡◌, refl}
use mathlib.Core.Bool.{Bool, true, false, cond, not}
use Prim.Native.Nat.{ℕ}
use lib.IntN.{ℤ, pos, negsuc, ◌+ℤ◌, ◌-ℤ◌, ◌*ℤ◌}
use lib.Signed.{mag, lt_z}
use lib.Dec.{eqb, ltb}
use Rattle.layout.specs.Records.{choose}
use Rattle.machine.specs.Try.{Try, got, stuck, stop, ◌>>◌, end_unless}
use Rattle.machine.specs.Values.{RANGE, ranged, ranged_to, floored, divided, divided_to, is_zero, arith, arith_to, index}
use Rattle.machine.specs.declared.End.{End}
use Rattle.integers.specs.Computed.{computed_of, indexed_of}
use Rattle.integers.specs.declared.Fault.{Fault}

-- UNDEF is the only stop that it may come to
Only : Try ℤ → Type 0
Only t = computed_of t ≡ Err Fault.Undef → t ≡ stop End.Undef

only-cond : (b : Bool) (t u : Try ℤ) → Only t → Only u → Only (cond b t u)
only-cond true t u p q = p
only-cond false t u p q = q

only-got : (z : ℤ) → Only (got z)
unfolding computed_of Only
only-got z h = cc

only-stuck : Only stuck
unfolding computed_of Only
only-stuck h = cc

ends : (b : Bool) (t : Try ℤ) → Only t → Only (end_unless End.Undef b >> t)
unfolding end_unless ◌>>◌ Only
ends true t p = p
ends false t p = λ h. refl

only-ranged : (z : ℤ) → Only (ranged z)
unfolding ranged_to
only-ranged z = ends (ltb (mag z) RANGE) (got z) (only-got z)

only-divided : (x y : ℤ) → Only (divided x y)
unfolding divided_to
only-divided x y = ends (not (is_zero y)) (ranged (floored x y)) (only-ranged (floored x y))

pub arith-undef : (op : ℕ) (x y : ℤ) → computed_of (arith op x y) ≡ Err Fault.Undef → arith op x y ≡ stop End.Undef
unfolding arith_to choose Only
arith-undef op x y =
    only-cond (eqb op 0) _ _ (only-ranged (x +ℤ y))
    (only-cond (eqb op 1) _ _ (only-ranged (x -ℤ y))
    (only-cond (eqb op 2) _ _ (only-ranged (x *ℤ y))
    (only-cond (eqb op 3) _ _ (only-divided x y)
    (only-cond (eqb op 4) _ _ (only-got (cond (lt_z x y) (pos 1) (pos 0))) only-stuck))))

-- what an answer says of an operation
pub computed-got : (t : Try ℤ) (z : ℤ) → computed_of t ≡ Ok z → t ≡ got z
unfolding computed_of
computed-got (got x) z h = cc
computed-got stuck z h = cc
computed-got (stop e) z h = cc

pub computed-stuck : (t : Try ℤ) → computed_of t ≡ Err Fault.Stuck → t ≡ stuck
unfolding computed_of
computed-stuck (got x) h = cc
computed-stuck stuck h = refl
computed-stuck (stop e) h = cc

-- ---- indices

indexed-got : (t : Try ℕ) (i : ℕ) → indexed_of t ≡ Some i → t ≡ got i
unfolding indexed_of
indexed-got (got x) i h = cc
indexed-got stuck i h = cc
indexed-got (stop e) i h = cc

pub index_at : (z : ℤ) (n i : ℕ) → indexed_of (index z n) ≡ Some i → index z n ≡ got i
index_at z n i h = indexed-got (index z n) i h

below : (b : Bool) (i : ℕ) → indexed_of (end_unless End.Undef b >> got i) ≡ None → (end_unless End.Undef b >> got i) ≡ stop End.Undef
unfolding indexed_of end_unless ◌>>◌
below true i h = cc
below false i h = refl

pub index-undef : (z : ℤ) (n : ℕ) → indexed_of (index z n) ≡ None → index z n ≡ stop End.Undef
unfolding index
index-undef (pos i) n h = below (ltb i n) i h
index-undef (negsuc i) n h = refl
