-- `loaded::load`: the verdict, then the table's length, then the law of loading.
use mathlib.Core.Path.{sym, ◌∙◌}
use Rattle.std.proofs.lemmas.Result.{err_from_is_err_and}
use Rattle.loaded.proofs.Loads.{not-long, load-refused, load-short, load-ready}
use Rattle.loaded.proofs.load.Goals as goal

pub returns-in_err-n : goal.returns-in_err-n
returns-in_err-n c =
    let p = err_from_is_err_and c.from_residual.result c.from_residual.ensures.1 in
    let cleared = c.clear.ensures in
    rw (p.1, p.2) (load-refused c.args.image.now c.args.table.now c.clear.new.table cleared.0 cleared.1 _ (sym c.verdict.ensures ∙ c.in_err-n.was))

pub returns-then-table-needed : goal.returns-then-table-needed
returns-then-table-needed c =
    let accepted = sym c.verdict.ensures ∙ c.in_ok-n.was in
    let cleared = c.clear.ensures in
    load-short c.args.image.now
    c.args.table.now
    c.clear.new.table cleared.0 cleared.1 _ accepted _ c.bytes_for-needed.ensures c.if-table-needed.true

pub fill-requires : goal.fill-requires
fill-requires c = not-long _ _ (sym c.verdict.ensures ∙ c.in_ok-n.was)

pub returns : goal.returns
returns c =
    let accepted = sym c.verdict.ensures ∙ c.in_ok-n.was in
    let cleared = c.clear.ensures in
    load-ready c.args.image.now
    c.args.table.now
    c.clear.new.table cleared.0 cleared.1 _ accepted _
    c.bytes_for-needed.ensures c.fill.new.table c.if-table-needed.false
    c.fill.ensures (c.fill.auto.table ∙ c.clear.auto.table)
