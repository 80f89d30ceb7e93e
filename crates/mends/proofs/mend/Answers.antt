-- `mends::mend`: by the verdict.
use mathlib.Core.Path.{sym, ◌∙◌}
use Rattle.mends.proofs.Parts.{mend-accepted, mend-other, mend-refused}
use Rattle.mends.proofs.mend.Goals as goal

pub mend_refused-requires : goal.mend_refused-requires
mend_refused-requires c =
    record { may = sym c.may_mend.ensures ∙ c.if-may_mend.true; refused = sym c.verdict.ensures ∙ c.in-Err.is }

pub returns-in-Ok : goal.returns-in-Ok
returns-in-Ok c =
    mend-accepted c.args.image.now _ (sym c.verdict.ensures ∙ c.in-Ok.is)

pub returns-then-may_mend : goal.returns-then-may_mend
returns-then-may_mend c =
    mend-refused c.args.image.now _ (sym c.verdict.ensures ∙ c.in-Err.is) c.may_mend.ensures c.if-may_mend.true c.mend_refused.ensures

pub returns-else-may_mend : goal.returns-else-may_mend
returns-else-may_mend c =
    mend-other c.args.image.now _ (sym c.verdict.ensures ∙ c.in-Err.is) c.may_mend.ensures c.if-may_mend.false
