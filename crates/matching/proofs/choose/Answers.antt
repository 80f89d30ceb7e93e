use Rattle.std.proofs.lemmas.Result.{err_from_is_err_and}
use Rattle.std.specs.Prelude.{Ok, Err}
use mathlib.Core.Path.{sym, ap, ◌∙◌}
use Rattle.matching.proofs.Joined.{choose-kindless, choose-hit, choose-as, choose-kept, sited-few, sited-room}
use native.Mathlib.Omega.{arith}
use Rattle.matching.proofs.choose.Goals as goal

pub code_of-kinds-requires : goal.code_of-kinds-requires
code_of-kinds-requires c =
    (c.requires.0.frame, sited-few _ _ _ c.requires.0, sited-room _ _ _ c.requires.0)

pub returns-then-kinds-ge-KINDLESS : goal.returns-then-kinds-ge-KINDLESS
returns-then-kinds-ge-KINDLESS c =
    (choose-kindless _ _ _ _ _ c.requires.0 _ c.code_of-kinds.ensures.0 c.if-kinds-ge-KINDLESS.true, c.requires.1)

pub returns-then-holds : goal.returns-then-holds
returns-then-holds c = (
  choose-hit _ _ _ _ _ _ c.requires.0
      c.requires.1 _
      c.code_of-kinds.ensures.0 c.if-kinds-ge-KINDLESS.false _ (omega arith)
      c.holds.ensures c.if-holds.true _ (ap Ok c.kept.ensures),
  c.requires.1,
)

pub decided-requires : goal.decided-requires
decided-requires c =
    sited-few _ _ _ c.requires.0

pub keep-requires : goal.keep-requires
keep-requires c =
    (omega arith, c.requires.1.long)

pub returns-in_err-chosen : goal.returns-in_err-chosen
returns-in_err-chosen c = let p = err_from_is_err_and c.from_residual.result c.from_residual.ensures.1 in (
  choose-as _ _ _ _ _ _ c.requires.0
      c.requires.1 _
      c.code_of-kinds.ensures.0
      c.if-kinds-ge-KINDLESS.false 0 _ c.decided.ensures _ (c.in_err-chosen.was ∙ ap Err (sym p.2) ∙ sym p.1),
  c.requires.1,
)

pub returns : goal.returns
returns c = (
  choose-as _ _ _ _ _ _ c.requires.0
      c.requires.1 _
      c.code_of-kinds.ensures.0
      c.if-kinds-ge-KINDLESS.false 0 _ c.decided.ensures _
      c.in_ok-chosen.was,
  choose-kept _ _ _ _ _ _
      c.requires.0
      c.requires.1 _
      c.code_of-kinds.ensures.0
      c.if-kinds-ge-KINDLESS.false _ _ c.decided.ensures
      (omega arith) _ _ _ (omega arith) (omega arith) c.keep.ensures c.in_ok-chosen.was,
)
