-- What a part of a step comes to, and the notation that the steps are written in.
use Rattle.std.specs.Prelude.{List, [], ◌∷◌, Bool, true, false, ℕ, length, set, ltb}
use Rattle.std.proofs.Math.Option.{Option, none, some}
use Rattle.std.proofs.Math.ListN.{get_elem?}
use Rattle.machine.specs.declared.End.{End}

-- a result, stuck, or a stop: UNDEF, DEEP, VECTORS or PROMISES; neither of the latter two has a state of its own
pub data Try (A : Type 0) : Type 0 where
  got : A → Try A
  stuck : Try A
  stop : End → Try A

-- in a `do`, the line `x ← t`: go on with the result of t
infixr 20 ◌>>=◌
unfoldable pub ◌>>=◌ : {A B : Type 0} → Try A → (A → Try B) → Try B
got a >>= f = f a
stuck >>= f = stuck
stop e >>= f = stop e

-- in a `do`, the line `t`: go on if t has a result
infixr 20 ◌>>◌
unfoldable pub ◌>>◌ : {A B : Type 0} → Try A → Try B → Try B
got a >> t = t
stuck >> t = stuck
stop e >> t = stop e

-- go on if the test holds, else stuck
unfoldable pub stuck_unless : Bool → Try (Unit {0})
stuck_unless true = got tt
stuck_unless false = stuck

-- go on if the test holds, else stop with the end e
unfoldable pub end_unless : End → Bool → Try (Unit {0})
end_unless e true = got tt
end_unless e false = stop e

-- Stuck: what is looked up is not there
unfoldable pub or_stuck : {A : Type 0} → Option A → Try A
or_stuck none = stuck
or_stuck (some a) = got a

-- Stuck: points outside itself or its image. Places of a state, registers, types and blocks are looked up by number so
unfoldable pub at : {A : Type 0} → List A → ℕ → Try A
at xs i = or_stuck (get_elem? xs i)

-- the list with x at the place i, stuck likewise
unfoldable pub put : {A : Type 0} → List A → ℕ → A → Try (List A)
put xs i x = do
  stuck_unless (ltb i (length xs))
  got (set xs i x)

-- one after the other, each with a result
unfoldable pub each : {A B : Type 0} → (A → Try B) → List A → Try (List B)
each f [] = got []
each f (x ∷ xs) = do
  y ← f x
  ys ← each f xs
  got (y ∷ ys)
