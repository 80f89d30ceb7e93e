-- What the code of question 8 has in hand: a type byte taken apart, and the arguments of a call where they stand.
use Rattle.std.specs.Prelude.{List, cond, ℕ, zero, suc, ◌<◌, None, Option, Some}
use Rattle.layout.specs.Records.{every, body_at, ◌!◌}
use Rattle.program.specs.Program.{Argument, beside}
use Rattle.rules.specs.Types.{kind_of, is_owned}
use Rattle.typing.specs.declared.Call.{Call}

-- the kind of a type byte, if it is owned
unfoldable pub owned_kind : ℕ → Option ℕ
owned_kind t = cond (is_owned t) (Some (kind_of t)) None

-- n types from the field k of one body on, beside as many registers from the field l of another
abbrev pub pairs : List ℕ → ℕ → List ℕ → ℕ → ℕ → ℕ → List Argument
pairs b k c l step n = beside (every b k step n) (every c l step n)

-- the arguments of the call whose record stands at p
unfoldable pub arguments_at : List ℕ → ℕ → Call → List Argument
arguments_at s p c = pairs (body_at s c.place) c.types (body_at s p) c.registers c.step c.n

-- the smaller of two numbers
unfoldable pub least : ℕ → ℕ → ℕ
least zero y = zero
least (suc x) zero = zero
least (suc x) (suc y) = suc (least x y)

-- a call whose fields are bytes
pub record Small (c : Call) : Type 0 where
  pub types : c.types < 256
  pub registers : c.registers < 256
  pub step : c.step < 256
  pub n : c.n < 256

-- where the arguments of the CALL at p of the version at q stand
unfoldable pub call_of : List ℕ → ℕ → ℕ → Call
call_of s p q = record { place = q; types = 6; registers = 4; step = 1; n = least (body_at s q ! 2) (least (body_at s q ! 3) (body_at s p ! 3)) }

-- where the arguments of the DISPATCH at p stand
unfoldable pub dispatch_of : List ℕ → ℕ → Call
dispatch_of s p = record { place = p; types = 5; registers = 6; step = 2; n = body_at s p ! 4 }
