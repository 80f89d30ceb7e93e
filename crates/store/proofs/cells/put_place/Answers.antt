use Rattle.store.proofs.Recounting.{covers-ready, few-left, place-put}
use Rattle.store.proofs.cells.put_place.Goals as goal

pub release-requires : goal.release-requires
release-requires c = (
  c.requires.1.0,
  c.requires.2,
  covers-ready c.requires.0 c.requires.1 c.requires.2,
  c.requires.0.counts,
)

pub retain-requires : goal.retain-requires
retain-requires c = (
  c.requires.1.0,
  c.requires.2,
  few-left c.requires.0
      c.requires.1.0 c.release.ensures,
  c.release.ensures.long,
)

pub returns : goal.returns
returns c =
    place-put c.args.bytes.now c.args.numbers.now _ _ _
    c.requires.0 c.requires.1
    c.requires.2 c.release.ensures _ _ c.retain.ensures
