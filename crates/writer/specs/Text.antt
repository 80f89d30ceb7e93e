-- Program: text as bytes, numbers in decimal, and a buffer with bytes put into it.
use Rattle.std.specs.Prelude.{List, [], ◌∷◌, ◌++◌, cond, ℕ, zero, suc, ◌+◌, ◌/◌, ◌%◌, ltb, leb, length, take, drop}
use Prim.Native.Char.{code}
use Prim.Native.String.{String}

-- an ASCII text as bytes
unfoldable pub text : String → List ℕ
text String.[] = []
text (String.◌∷◌ c t) = code c ∷ text t

-- the last k decimal digits of a number, without zeros in front
unfoldable pub digits : ℕ → ℕ → List ℕ
digits zero n = []
digits (suc k) n = let front = digits k (n / 10) in cond (ltb n 10) [] front ++ ((48 + n % 10) ∷ [])

-- a number below 10^20 in decimal
abbrev pub decimal : ℕ → List ℕ
decimal n = digits 20 n

-- a buffer with the bytes t from the place `at` on, all else as it was; the buffer itself where t does not fit
unfoldable pub placed : List ℕ → ℕ → List ℕ → List ℕ
placed out at t = cond (leb (at + length t) (length out)) (take at out ++ t ++ drop (at + length t) out) out
