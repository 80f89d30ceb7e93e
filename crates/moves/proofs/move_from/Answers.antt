-- `moves::move_from`: by the verdict.
use mathlib.Core.Path.{sym, ◌∙◌}
use Rattle.std.proofs.lemmas.Result.{err_from_is_err_and}
use Rattle.moves.proofs.Parts.{accepted-says, ready, refused_says}
use Rattle.moves.proofs.move_from.Goals as goal

pub move_accepted-requires : goal.move_accepted-requires
move_accepted-requires c =
    ready c.args.form c.args.image.now _ (λ i. (c.shared_slice_known-1.given i).fits) (sym c.verdict_in.ensures ∙ c.in_ok-verdict_in.was)

pub returns-in_err-verdict_in : goal.returns-in_err-verdict_in
returns-in_err-verdict_in c =
    let p = err_from_is_err_and c.from_residual.result c.from_residual.ensures.1 in
    rw (p.1, p.2) (refused_says c.args.form c.args.image.now _ c.args.out.now (sym c.verdict_in.ensures ∙ c.in_err-verdict_in.was))

pub returns : goal.returns
returns c =
    accepted-says c.args.form c.args.image.now _ c.args.out.now (sym c.verdict_in.ensures ∙ c.in_ok-verdict_in.was)
    c.move_accepted.ensures.0 c.move_accepted.ensures.1
