-- `begin::may_enter`: both levels as the definition has them.
use Rattle.begin.proofs.may_enter.Goals as goal

pub returns : goal.returns
returns c =
    rw (← c.level.ensures, ← c.run_level.ensures)
