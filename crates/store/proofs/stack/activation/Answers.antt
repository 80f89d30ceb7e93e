use Rattle.store.proofs.Pushing.{activation-is}
use Rattle.store.proofs.stack.activation.Goals as goal

pub returns : goal.returns
returns c =
    activation-is _ _ c.opener.ensures
