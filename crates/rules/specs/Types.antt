-- Values and types: what a type byte says, and where it may stand.
use Rattle.std.specs.Prelude.{Bool, not, ◌&&◌, ◌||◌, ℕ, ◌/◌, ◌%◌, ltb, eqb}
use Rattle.layout.specs.Tests.{◌and◌}

-- a type byte is kind + 16 × ownership
unfoldable pub kind_of : ℕ → ℕ
kind_of t = t % 16

-- its ownership
unfoldable pub ownership_of : ℕ → ℕ
ownership_of t = t / 16

-- ownership: 0 shared, 1 owned, 2 borrowed
unfoldable pub is_shared : ℕ → Bool
is_shared t = eqb (ownership_of t) 0

unfoldable pub is_owned : ℕ → Bool
is_owned t = eqb (ownership_of t) 1

unfoldable pub is_borrowed : ℕ → Bool
is_borrowed t = eqb (ownership_of t) 2

-- kind: 0 any, 1 value, 2 integer, 3 vector, 4 quiet promise, 5 reflective promise
unfoldable pub is_integer : ℕ → Bool
is_integer t = eqb (kind_of t) 2

unfoldable pub is_vector : ℕ → Bool
is_vector t = eqb (kind_of t) 3

unfoldable pub is_promise : ℕ → Bool
is_promise t = eqb (kind_of t) 4 || eqb (kind_of t) 5

-- "Within", on kinds: each is within itself and 0; 2 and 3 are within 1; 4 is within 5
unfoldable pub within : ℕ → ℕ → Bool
within a b = eqb a b || eqb b 0 || ((eqb a 2 || eqb a 3) && eqb b 1) || (eqb a 4 && eqb b 5)

-- how many kinds there are
abbrev pub KINDS : ℕ
KINDS = 6

-- a type byte at a parameter or in a call signature: owned and borrowed go with kind 3 only
unfoldable pub parameter_type : ℕ → Bool
parameter_type t = ltb (kind_of t) KINDS and (is_shared t || ((is_owned t || is_borrowed t) and is_vector t))

-- at a register that is no parameter: borrowed stands only on parameters and call signatures
unfoldable pub register_type : ℕ → Bool
register_type t = parameter_type t and not (is_borrowed t)

-- at a return: kind 1, 2 or 3, shared or owned
unfoldable pub return_type : ℕ → Bool
return_type t = register_type t and ltb 0 (kind_of t) and ltb (kind_of t) 4
