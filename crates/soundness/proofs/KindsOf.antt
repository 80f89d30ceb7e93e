-- The kind that a step finds of a value.
use mathlib.Core.Path.{◌≡◌, refl}
use mathlib.Core.List.{List, []}
use mathlib.Core.Option.{some}
use mathlib.Core.Bool.{Bool, true, false≢true}
use Prim.Native.Nat.{ℕ, ◌<◌}
use native.Mathlib.Omega.{arith}
use lib.ListN.{length}
use Rattle.program.specs.Program.{Program, find_version}
use Rattle.rules.specs.Types.{kind_of, within}
use Rattle.machine.specs.Try.{got, ◌>>=◌, ◌>>◌, or_stuck, at}
use Rattle.machine.specs.States.{VECTORS, new_vector, kind_in}
use Rattle.machine.specs.declared.Frame.{Frame}
use Rattle.machine.specs.declared.Promise.{Promise}
use Rattle.machine.specs.declared.State.{State}
use Rattle.machine.specs.declared.Value.{Value}
use Rattle.machine.proofs.Tries.{at_in, at_some}
use Rattle.soundness.proofs.Cells.{frame_at, frame_is}
use Rattle.soundness.proofs.Invariant.{version_at, promise_at, no_promise, is_full, kind_at, Fits, Heap}

unfoldable pub value_kind : Program → List Frame → List Promise → Value → ℕ
value_kind P fs ps Value.Empty = 0
value_kind P fs ps (Value.Integer z) = 2
value_kind P fs ps (Value.Vector v) = 3
value_kind P fs ps (Value.Promise p) = kind_at P fs (promise_at ps p)

module _ (P : Program) (K : ℕ → ℕ → Bool) (fs : List Frame) (ps : List Promise) (k : ℕ) where
  -- a value's kind is within its type's
  pub kind-within : (t : ℕ) (x : Value) → is_full x ≡ true → Fits P K fs ps k t x → within (value_kind P fs ps x) (kind_of t) ≡ true
  unfolding value_kind Fits is_full
  kind-within t Value.Empty h f = absurd (false≢true h)
  kind-within t (Value.Integer z) h f = f
  kind-within t (Value.Vector v) h f = f.0
  kind-within t (Value.Promise p) h f = f.1.kind

  -- and it is of every type whose kind holds it
  pub kind_fits : (t u : ℕ) (x : Value) → Fits P K fs ps k t x → within (value_kind P fs ps x) (kind_of u) ≡ true → Fits P K fs ps k u x
  unfolding value_kind Fits
  kind_fits t u Value.Empty f w = tt
  kind_fits t u (Value.Integer z) f w = w
  kind_fits t u (Value.Vector v) f w = (w, f.1)
  kind_fits t u (Value.Promise p) f w = (f.0, record { kind = w; older = f.1.older; alive = f.1.alive })

pub promise-is : (s : State) (p : ℕ) → p < length s.promises → at s.promises p ≡ got (promise_at s.promises p)
unfolding promise_at
promise-is s p h = at_in s.promises p no_promise h

pub version-is : (P : Program) (fs : List Frame) (k : ℕ) → find_version P (frame_at fs k).function (frame_at fs k).version ≡ some (version_at P fs k) → or_stuck (find_version P (frame_at fs k).function (frame_at fs k).version) ≡ got (version_at P fs k)
unfolding or_stuck
version-is P fs k e = rw e refl

-- the step finds it
pub kind-got : (P : Program) {K : ℕ → ℕ → Bool} (s : State) → Heap P K s.frames s.calls s.promises → length s.vectors ≡ VECTORS → (k t : ℕ) → k < s.calls → (x : Value) → is_full x ≡ true → Fits P K s.frames s.promises k t x → kind_in P s x ≡ got (value_kind P s.frames s.promises x)
unfolding kind_in value_kind kind_at Fits is_full ◌>>=◌ ◌>>◌
kind-got P s H n k t hk Value.Empty h f = absurd (false≢true h)
kind-got P s H n k t hk (Value.Integer z) h f = refl
kind-got P s H n k t hk (Value.Vector v) h f = rw (at_in s.vectors v (new_vector []) (omega (arith, f.1))) refl
kind-got P s H n k t hk (Value.Promise p) h f =
    let l : (promise_at s.promises p).frame < s.calls = omega (arith, f.1.older) in
    rw (promise-is s p (omega (arith, f.0, H.pool)), frame_is s H.sized (promise_at s.promises p).frame l H.bound, version-is P s.frames (promise_at s.promises p).frame (H.known _ l), at_some _ (promise_at s.promises p).block _ f.1.alive.does.there) refl
