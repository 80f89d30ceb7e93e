-- `layout::byte`: past the end a list reads 0.
use Rattle.layout.proofs.Walk.{byte-outside}
use mathlib.Core.Path.{sym}
use native.Mathlib.Omega.{arith}
use Rattle.layout.proofs.byte.Goals as goal

pub returns-else-p-image : goal.returns-else-p-image
returns-else-p-image c =
    (sym (byte-outside c.args.image.now _ c.if-p-image.false), omega arith)
