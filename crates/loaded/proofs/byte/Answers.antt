-- `loaded::byte`: past its end an image reads 0.
use mathlib.Core.Path.{sym}
use Rattle.layout.proofs.Walk.{byte-outside}
use Rattle.loaded.proofs.byte.Goals as goal

pub returns-else-k-bytes : goal.returns-else-k-bytes
returns-else-k-bytes c = sym (byte-outside c.args.bytes.now _ c.if-k-bytes.false)
