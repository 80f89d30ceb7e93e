use native.Mathlib.Omega.{arith}
use Rattle.turning.proofs.Turning.{depth-there}
use Rattle.turning.proofs.Looking.{end-done, end_moved, end-over, end-ready, end-stuck}
use Rattle.turning.proofs.ends.Goals as goal

pub store_next-requires : goal.store_next-requires
store_next-requires c =
    let H = c.requires.1 in
    let w = H.near in
    (depth-there _ _ _ _ _ H _ c.requires.0, H.low, H.first, omega (arith, w), H.small, omega arith)

pub own-v-requires : goal.own-v-requires
own-v-requires c =
    let H = c.requires.1 in
    let z = (end-ready _ _ _ _ _ H _ c.requires.0 c.requires.2 _
    c.store_next.ensures).2 in
    let w = H.few in
    (H.live.0, omega (arith, z, w))

pub end_block-requires : goal.end_block-requires
end_block-requires c =
    let z = end-ready _ _ _ _ _ c.requires.1 _
    c.requires.0
    c.requires.2 _
    c.store_next.ensures in
    (z.0, z.1)

pub returns-then-bytes-eq0 : goal.returns-then-bytes-eq0
returns-then-bytes-eq0 c =
    end_moved _ _ _ _ _ c.requires.1 _
    c.requires.0
    c.requires.2 _
    c.store_next.ensures _
    c.own-v.ensures
    (c.result_at-r.ensures _)
    c.returned-typed.ensures _ _ _ _ c.end_block.ensures
    c.in-Back.is c.if-bytes-eq0.true

pub returns-else-bytes-eq0 : goal.returns-else-bytes-eq0
returns-else-bytes-eq0 c =
    end-over _ _ _ _ _ c.requires.1 _
    c.requires.0
    c.requires.2 _
    c.store_next.ensures _
    c.own-v.ensures
    (c.result_at-r.ensures _)
    c.returned-typed.ensures _ _ _ _ c.end_block.ensures
    c.in-Back.is c.if-bytes-eq0.false

pub returns-in-Done : goal.returns-in-Done
returns-in-Done c =
    end-done _ _ _ _ _ c.requires.1 _
    c.requires.0
    c.requires.2 _
    c.store_next.ensures _
    c.own-v.ensures
    (c.result_at-r.ensures _)
    c.returned-typed.ensures _ _ _ _ c.end_block.ensures c.in-Done.is

pub returns-in-Stuck : goal.returns-in-Stuck
returns-in-Stuck c =
    end-stuck _ _ _ _ _ c.requires.1 _
    c.requires.0
    c.requires.2 _
    c.store_next.ensures _
    c.own-v.ensures
    (c.result_at-r.ensures _)
    c.returned-typed.ensures _ _ _ _ c.end_block.ensures c.in-Stuck.is
