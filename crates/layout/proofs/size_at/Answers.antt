-- `layout::size_at`: each return is one case of the record's length.
use Rattle.layout.proofs.Walk.{no_room, broken-length, no_end, whole_length}
use mathlib.Core.Path.{sym}
use native.Mathlib.Omega.{arith}
use Rattle.layout.proofs.size_at.Goals as goal

pub returns-then-image-p : goal.returns-then-image-p
returns-then-image-p c =
    sym (no_room _ _ (omega arith))

pub returns-then-room-lt4 : goal.returns-then-room-lt4
returns-then-room-lt4 c =
    sym (no_room _ _ c.if-room-lt4.true)

pub returns-then-n-lt4 : goal.returns-then-n-lt4
returns-then-n-lt4 c =
    sym (broken-length _ _ (omega (arith, c.wide.ensures, c.wide-2.ensures, c.if-n-lt4.true)))

pub returns-then-image-last_byte : goal.returns-then-image-last_byte
returns-then-image-last_byte c =
    sym (no_end _ _ (omega (arith, c.wide.ensures, c.wide-2.ensures, c.if-image-p.false, c.if-n-lt4.false, c.if-image-last_byte.true)))

pub returns : goal.returns
returns c =
    let s = c.args.image.now in
    let p = c.args.p in
    omega (
      arith,
      c.wide.ensures,
      c.wide-2.ensures,
      whole_length s p c.if-room-lt4.false (omega (arith, c.wide.ensures, c.wide-2.ensures, c.if-n-lt4.false))
          (omega (arith, c.wide.ensures, c.wide-2.ensures, c.if-n-lt4.false, c.if-image-last_byte.false)),
    )
