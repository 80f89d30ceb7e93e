use Rattle.turning.proofs.Looking.{typed_look}
use Rattle.turning.proofs.casts.Goals as goal

pub returns : goal.returns
returns c =
    typed_look _ _ _ _ _ _ _ _ _ _ _ _ _ c.own-v.ensures c.typed-typed.ensures c.cast_typed.ensures
