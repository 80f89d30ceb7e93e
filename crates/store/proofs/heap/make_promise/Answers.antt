use Rattle.store.proofs.Promises.{delay-made}
use Rattle.store.proofs.heap.make_promise.Goals as goal

pub returns : goal.returns
returns c =
    delay-made _ _ _ _ c.requires.0 c.requires.1 _ _
