-- `writer::fits`: the room behind the place, which does not wrap.
use mathlib.Core.Path.{◌≡◌, refl, sym}
use mathlib.Core.Bool.{Bool, true, false}
use Prim.Native.Nat.{ℕ, ◌+◌, ◌-◌, ◌≤◌}
use native.Mathlib.Omega.{arith}
use lib.Dec.{leb}
use borrow.Author.Tests.{le-leb, lt-leb, leb-true, leb-false}
use Rattle.writer.proofs.fits.Goals as goal

-- a size against the room behind a place
leb-behind : (room at size : ℕ) → at ≤ room → leb size (room - at) ≡ leb (at + size) room
leb-behind room at size h = go (leb size (room - at)) refl
  where
    go : (b : Bool) → leb size (room - at) ≡ b → b ≡ leb (at + size) room
    go true e = sym (le-leb (at + size) room (omega (arith, leb-true size (room - at) e)))
    go false e = sym (lt-leb (at + size) room (omega (arith, leb-false size (room - at) e)))

pub returns-then-room-at : goal.returns-then-room-at
returns-then-room-at c =
    let args = c.args in
    sym (lt-leb (args.at + args.size) args.room (omega arith))

pub returns : goal.returns
returns c = leb-behind _ _ _ c.if-room-at.false
