use Prim.Native.Nat.{◌+◌}
use Rattle.store.proofs.Promises.{promise-is}
use Rattle.store.specs.Store.{◌#◌}
use mir.Val.{SFits}
use mir.Syntax.{w64}
use mir.Facts.{to_z-of_z}
use borrow.Author.Rules.{rules}
use Rattle.store.proofs.heap.promise_at.Goals as goal

pub returns : goal.returns
returns c =
    let s : SFits w64 (c.args.numbers.now # (2048 + c.args.p)) = search rules in
    promise-is c.args.bytes.now c.args.numbers.now _ (rw (to_z-of_z s) at c.cache.ensures)
