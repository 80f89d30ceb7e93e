-- `flow::walk::walk_block` and `walk_instruction`: the walk of a block meets the law of flow, and PROM enters only blocks above; blocks are below 256, and those left fall.
use Rattle.std.proofs.Common.{◌≡◌, ◌+◌, ◌-◌, ◌*◌, ◌≤◌, length, get_or}
use Rattle.layout.specs.Records.{records}
use Rattle.program.specs.Program.{program}
use Rattle.program.specs.Places.{version_at}
use Rattle.flow.proofs.Blocks.{onward}
use Rattle.flow.specs.Masks.{flowed}
use Rattle.rules.specs.Walks.{block_action}
use mathlib.Core.List.{map}
use mathlib.Core.Option.{none}
use Rattle.flow.proofs.walk.+walk_block_walk_instruction.Given as goal

abbrev pub decreases-walk_block : goal.decreases-walk_block
decreases-walk_block l = 2 * (256 - l.b) + 1

abbrev pub decreases-walk_instruction : goal.decreases-walk_instruction
decreases-walk_instruction l = 2 * (256 - l.b)

abbrev pub invariant-walk_block-loop-at : goal.invariant-walk_block-loop-at
invariant-walk_block-loop-at l =
    (block_action (program (records l.tabled.image.now)) (version_at l.tabled.image.now l.v) l.b ≡ onward l.tabled.image.now l.v l.b l.q l.count l.i l.p (flowed l.done) (map flowed l.taken))
    × (length l.taken ≡ 51) × (get_or (map flowed l.taken) 50 none ≡ none) × (l.i ≤ l.p)

abbrev pub decreases-walk_block-loop-at : goal.decreases-walk_block-loop-at
decreases-walk_block-loop-at l = length l.tabled.image.now - l.p
