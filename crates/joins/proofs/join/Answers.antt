-- `joins::join`: by the verdicts.
use mathlib.Core.Path.{sym, ◌∙◌}
use Rattle.std.proofs.lemmas.Result.{err_from_is_err_and}
use Rattle.joins.specs.declared.JoinError.TheVariants.{First, Second}
use Rattle.joins.proofs.Answers.{both-accepted, first-refused, named-err, named-ok, second-refused}
use Rattle.joins.proofs.join.Goals as goal

pub returns-in_err-n : goal.returns-in_err-n
returns-in_err-n c =
    let p = err_from_is_err_and c.from_residual.result c.from_residual.ensures.1 in
    let w = named-err c.verdict.result c.map_err.result First c.map_err.ensures.cases _ c.in_err-n.was in
    rw (p.1, p.2, w.2) (first-refused c.args.first.now c.args.second.now c.args.out.now w.0 (sym c.verdict.ensures ∙ w.1))

pub returns-in_err-m : goal.returns-in_err-m
returns-in_err-m c =
    let p = err_from_is_err_and c.from_residual-in_err-m.result c.from_residual-in_err-m.ensures.1 in
    let n = named-ok c.verdict.result c.map_err.result First c.map_err.ensures.cases _ c.in_ok-n.was in
    let w = named-err c.verdict-2.result c.map_err-2.result Second c.map_err-2.ensures.cases _ c.in_err-m.was in
    rw (p.1, p.2, w.2) (second-refused c.args.first.now c.args.second.now c.args.out.now _ w.0 (sym c.verdict.ensures ∙ n) (sym c.verdict-2.ensures ∙ w.1))

pub join_accepted-requires-clause-first_value : goal.join_accepted-requires-clause-first_value
join_accepted-requires-clause-first_value c =
    sym c.verdict.ensures ∙ named-ok c.verdict.result c.map_err.result First c.map_err.ensures.cases _ c.in_ok-n.was

pub join_accepted-requires-clause-second_value : goal.join_accepted-requires-clause-second_value
join_accepted-requires-clause-second_value c =
    sym c.verdict-2.ensures ∙ named-ok c.verdict-2.result c.map_err-2.result Second c.map_err-2.ensures.cases _ c.in_ok-m.was

pub returns : goal.returns
returns c =
    let n = named-ok c.verdict.result c.map_err.result First c.map_err.ensures.cases _ c.in_ok-n.was in
    let m = named-ok c.verdict-2.result c.map_err-2.result Second c.map_err-2.ensures.cases _ c.in_ok-m.was in
    both-accepted c.args.first.now c.args.second.now c.args.out.now _ _ (sym c.verdict.ensures ∙ n) (sym c.verdict-2.ensures ∙ m) c.join_accepted.ensures
