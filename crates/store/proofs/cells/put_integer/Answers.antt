use Rattle.store.proofs.Recounting.{covers-ready, integer-put, number_put}
use mir.Facts.{to_z-of_z}
use Rattle.store.proofs.cells.put_integer.Goals as goal

pub returns-then-bytes-k-eq1 : goal.returns-then-bytes-k-eq1
returns-then-bytes-k-eq1 c =
    number_put c.args.bytes.now c.args.numbers.now _ _ _ c.requires.0 c.requires.1
    c.requires.2 (to_z-of_z c.ranges.z) c.if-bytes-k-eq1.true

pub release-requires : goal.release-requires
release-requires c = (
  c.requires.1.0,
  c.requires.2,
  covers-ready c.requires.0
      c.requires.1 c.requires.2,
  c.requires.0.counts,
)

pub returns : goal.returns
returns c =
    integer-put c.args.bytes.now c.args.numbers.now _ _ _
    c.requires.0 c.requires.1
    c.requires.2 c.release.ensures (to_z-of_z c.ranges.z)
