use mathlib.Core.Path.{ap}
use Rattle.turning.specs.Turning.{opened_of}
use Rattle.turning.proofs.Turning.{forces, forces-on, stored-ready, turns-by}
use Rattle.turning.proofs.force.Goals as goal

pub force-requires : goal.force-requires
force-requires c =
    stored-ready _ _ _ _ _ _ c.requires.1.1 c.requires.0
    c.store_next.ensures

pub returns-then-bytes-depth : goal.returns-then-bytes-depth
returns-then-bytes-depth c =
    λ t. forces-on t _ _ _ _ c.requires.0 _ _ _
    c.store_next.ensures _ _ _ _ c.force.ensures
    c.in-On.is c.if-bytes-depth.true

pub returns-else-bytes-depth : goal.returns-else-bytes-depth
unfolding opened_of
returns-else-bytes-depth c =
    λ t. turns-by t _ _ _ _ _ _ _ (forces t _ _ _ _ c.requires.0 _ _ _
    c.store_next.ensures _ _ _ _ c.force.ensures)
    (ap opened_of c.in-On.is)

pub returns-in-Stuck : goal.returns-in-Stuck
unfolding opened_of
returns-in-Stuck c =
    λ t. turns-by t _ _ _ _ _ _ _ (forces t _ _ _ _ c.requires.0 _ _ _
    c.store_next.ensures _ _ _ _ c.force.ensures) (ap opened_of c.in-Stuck.is)

pub returns-in-Stop : goal.returns-in-Stop
unfolding opened_of
returns-in-Stop c =
    λ t. turns-by t _ _ _ _ _ _ _ (forces t _ _ _ _ c.requires.0 _ _ _
    c.store_next.ensures _ _ _ _ c.force.ensures) (ap opened_of c.in-Stop.is)
