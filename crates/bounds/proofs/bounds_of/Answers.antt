-- `bounds::bounds_of`: behind the verdict.
use Rattle.bounds.proofs.Reporting.{few-rows, bounds-listed, bounds-refused}
use Rattle.std.proofs.lemmas.Result.{err_from_is_err_and}
use Rattle.bounds.specs.Rows.{unless}
use mathlib.Core.Path.{refl}
use Rattle.bounds.proofs.bounds_of.Goals as goal

pub list-requires : goal.list-requires
list-requires c =
    few-rows _ c.verdict.ensures _ c.in_ok-verdict.was

pub returns-in_err-verdict : goal.returns-in_err-verdict
unfolding unless
returns-in_err-verdict c =
    let p = err_from_is_err_and c.from_residual.result c.from_residual.ensures.1 in
    rw (p.1, p.2) (bounds-refused _ c.verdict.ensures _ c.in_err-verdict.was, refl, refl)

pub returns : goal.returns
unfolding unless
returns c =
    (bounds-listed _ c.verdict.ensures _ _ c.in_ok-verdict.was c.list.ensures.0, c.list.ensures.1, c.list.ensures.2)
