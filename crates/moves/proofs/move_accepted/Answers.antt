-- `moves::move_accepted`: by what was measured.
use mathlib.Core.Path.{sym, ◌∙◌}
use Rattle.std.proofs.lemmas.Result.{err_from_is_err_and}
use Rattle.moves.proofs.Parts.{found_none, fit-says, unfit-says}
use Rattle.moves.proofs.move_accepted.Goals as goal

pub write_moved-requires : goal.write_moved-requires
write_moved-requires c = record { ready = c.requires; n_value = (found_none _ _ _ (sym c.in_ok-n.was ∙ c.measure.ensures)).1 }

pub returns-in_err-n : goal.returns-in_err-n
returns-in_err-n c =
    let p = err_from_is_err_and c.from_residual.result c.from_residual.ensures.1 in
    rw (p.1, p.2) (unfit-says c.args.form c.args.image.now c.args.out.now _ _ _ (sym c.in_err-n.was ∙ c.measure.ensures))

pub returns : goal.returns
returns c =
    let z = found_none _ _ _ (sym c.in_ok-n.was ∙ c.measure.ensures) in
    (fit-says c.args.form c.args.image.now _ _ z.0 z.1 c.write_moved.ensures.0, c.write_moved.ensures.1)
