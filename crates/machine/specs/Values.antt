-- Steps: what the operations on integers give.
use Rattle.std.specs.Prelude.{[], ◌∷◌, Bool, false, cond, not, ℕ, suc, ℤ, pos, negsuc, neg_ℤ, ◌+ℤ◌, ◌-ℤ◌, ◌*ℤ◌, eqb, ltb}
use Rattle.std.specs.Int.Signed.{lt_z, mag, shr_z}
use Rattle.layout.specs.Records.{choose}
use Rattle.machine.specs.Try.{Try, got, stuck, stop, ◌>>◌, end_unless}
use Rattle.machine.specs.declared.End.{End}

-- 02, 5: integers from −9,223,372,036,854,775,808 to 9,223,372,036,854,775,807; one more than the greatest
abbrev pub RANGE : ℕ
RANGE = 9223372036854775808

-- Values and types of 01: the same for integers of 32 bits, −2,147,483,648 to 2,147,483,647
abbrev pub NARROW-RANGE : ℕ
NARROW-RANGE = 2147483648

-- ---- with integers in the range R

-- UNDEF: integer result out of range; `mag` is n both for n and for −(n + 1)
unfoldable pub ranged_to : ℕ → ℤ → Try ℤ
ranged_to R z = do
  end_unless End.Undef (ltb (mag z) R)
  got z

-- is it 0?
unfoldable pub is_zero : ℤ → Bool
is_zero (pos n) = eqb n 0
is_zero (negsuc n) = false

-- the quotient by a divisor that is not 0, rounded toward minus infinity; by a negative one, that of the negated numbers
unfoldable pub floored : ℤ → ℤ → ℤ
floored x (pos b) = shr_z x b
floored x (negsuc b) = shr_z (neg_ℤ x) (suc b)

-- UNDEF: divide by 0
unfoldable pub divided_to : ℕ → ℤ → ℤ → Try ℤ
divided_to R x y = do
  end_unless End.Undef (not (is_zero y))
  ranged_to R (floored x y)

-- op 0 add, 1 subtract, 2 multiply, 3 divide, 4 less, which gives 1 or 0; there is no other
unfoldable pub arith_to : ℕ → ℕ → ℤ → ℤ → Try ℤ
arith_to R op x y = choose op stuck (
    (0, ranged_to R (x +ℤ y)) ∷
    (1, ranged_to R (x -ℤ y)) ∷
    (2, ranged_to R (x *ℤ y)) ∷
    (3, divided_to R x y) ∷
    (4, got (cond (lt_z x y) (pos 1) (pos 0))) ∷ [])

-- UNDEF: GET or SET index outside a vector of n items
unfoldable pub index : ℤ → ℕ → Try ℕ
index (pos i) n = do
  end_unless End.Undef (ltb i n)
  got i
index (negsuc i) n = stop End.Undef

-- ---- in the range in force

abbrev pub ranged : ℤ → Try ℤ
ranged z = ranged_to RANGE z

abbrev pub divided : ℤ → ℤ → Try ℤ
divided x y = divided_to RANGE x y

abbrev pub arith : ℕ → ℤ → ℤ → Try ℤ
arith op x y = arith_to RANGE op x y
