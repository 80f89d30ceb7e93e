-- `layout::records::Records::behind`: a record that is there ends inside.
use Prim.Native.Nat.{◌+◌}
use native.Mathlib.Omega.{arith}
use mathlib.Core.Path.{ap}
use Rattle.layout.specs.Left.{spots}
use Rattle.layout.proofs.Walk.{no_room, size_room}
use Rattle.layout.proofs.records.Records.behind.Goals as goal

pub returns-then-image-p : goal.returns-then-image-p
returns-then-image-p c = let z = no_room c.args.image.now c.args.p (omega (arith, c.if-image-p.true)) in ap (spots c.args.image.now) (omega (arith, z))

pub overflow_add-result : goal.overflow_add-result
overflow_add-result c = omega (arith, c.size_at-size.ensures, size_room c.args.image.now c.args.p (omega (arith, c.if-image-p.false)))

pub returns : goal.returns
returns c = ap (λ n. spots c.args.image.now (c.args.p + n)) c.size_at-size.ensures
