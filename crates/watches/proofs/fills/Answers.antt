-- `watches::fills`: by the answer.
use Rattle.watches.proofs.Tops.{some_written, none_written}
use Rattle.watches.proofs.fills.Goals as goal

pub returns-in-Ok : goal.returns-in-Ok
returns-in-Ok c =
    some_written _ _ _ c.args.n c.watched.ensures c.in-Ok.is c.wide.ensures.0

pub returns-in-Err : goal.returns-in-Err
returns-in-Err c =
    none_written _ _ _ c.args.n c.watched.ensures c.in-Err.is
