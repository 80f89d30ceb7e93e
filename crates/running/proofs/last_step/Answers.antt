use native.Mathlib.Omega.{arith}
use mathlib.Core.Path.{sym, ap}
use Rattle.store.specs.Answers.{end_of}
use Rattle.machine.specs.Runs.{last_step}
use Rattle.running.proofs.last_step.Goals as goal

pub returns-in-Undef : goal.returns-in-Undef
unfolding last_step end_of
returns-in-Undef c =
    (sym (ap (λ h. last_step (end_of h)) c.in-Undef.is), omega arith)

pub returns-in-Deep : goal.returns-in-Deep
unfolding last_step end_of
returns-in-Deep c =
    (sym (ap (λ h. last_step (end_of h)) c.in-Deep.is), omega arith)

pub returns-in-Vectors : goal.returns-in-Vectors
unfolding last_step end_of
returns-in-Vectors c =
    (sym (ap (λ h. last_step (end_of h)) c.in-Vectors.is), omega arith)

pub returns-in-Promises : goal.returns-in-Promises
unfolding last_step end_of
returns-in-Promises c =
    (sym (ap (λ h. last_step (end_of h)) c.in-Promises.is), omega arith)
