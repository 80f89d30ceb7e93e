-- Where the two arrays of a caller's state lie, and how large it is.
use mathlib.Core.Path.{◌≡◌, refl}
use Prim.Native.Nat.{ℕ, zero, suc, ◌+◌}
use mathlib.Core.List.{List, [], ◌∷◌, map}
use mir.Syntax.{Ty, ty_array, ty_int, w8, w64}
use prog.Memory.{align, size, up}
use denote.RattleType.{RattleType, Denots}
use denote.Array.{Array}
use denote.Builtin.{u8, i64}
use denote.Struct.Members.{Member, rows_of}
use Rattle.abi.specs.declared.state.FirState.{FirState}
use Rattle.abi.specs.contracts.state.FirState as T
use Rattle.abi.specs.Answers.{state_alignment, state_size}

-- where a field begins behind what ends at e, and where it ends
abbrev from : Member → ℕ → ℕ
from m e = up (align m.ty) e

abbrev past : Member → ℕ → ℕ
past m e = from m e + size m.ty

-- where the field i of these begins, behind what ends at e
abbrev pub place : List Member → ℕ → ℕ → ℕ
place [] e i = e
place (m ∷ ms) e zero = from m e
place (m ∷ ms) e (suc i) = place ms (past m e) i

-- where the last of these ends
abbrev pub ending : List Member → ℕ → ℕ
ending [] e = e
ending (m ∷ ms) e = ending ms (past m e)

-- an array as a field
abbrev pub array : RattleType → Ty → ℕ → Member
array R τ n = record { row = Array R n; ty = ty_array τ n }

abbrev pub members : List Member
members = array i64 (ty_int w64) 2129 ∷ array u8 (ty_int w8) 2632 ∷ []

-- the size and the alignment that C is told are the struct's
size-told : up state_alignment (ending members 0) ≡ state_size
size-told = refl

-- so they are by the type that the code has
size-of : map size (T.the_row).mir ≡ state_size ∷ []
size-of = refl

alignment-of : map align (T.the_row).mir ≡ state_alignment ∷ []
alignment-of = refl

abbrev pub parts : FirState → Denots (rows_of members)
parts h = (h.numbers, (h.bytes, tt))

-- they are the struct's own
parts_are : (h : FirState) → (T.the_type).to h ≡ parts h
parts_are h = refl

-- where they begin in the struct
abbrev pub numbers-place : ℕ
numbers-place = place members 0 0

abbrev pub bytes-place : ℕ
bytes-place = place members 0 1
