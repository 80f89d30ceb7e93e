use Rattle.std.proofs.Common.{refl, sym, ap, ◌∙◌}
use Rattle.layout.specs.Left.{left}
use Rattle.layout.proofs.Left.{given, exhausted}
use Rattle.program.proofs.Passes.{start, at-end, at-broken, say-no, go_on}
use Rattle.program.proofs.pass.first_failing.Goals as goal

pub loop-record-init : goal.loop-record-init
loop-record-init g c =
    (tt, tt, c.requires, (0, ap left c.into_iter-record-iterator.ensures.into_iter_gives ∙ c.of-record-items.ensures, λ q a. start _ _))

pub returns-then-record-eq0 : goal.returns-then-record-eq0
returns-then-record-eq0 g c q a =
    let i = c.loop-record.invariant.3 in
    let x = given _ _ (sym i.1 ∙ c.in-Some.ensures.steps) in
    at-broken (rw x.at at i.2 q a) x.size c.if-record-eq0.true

pub loop-record-preserved : goal.loop-record-preserved
loop-record-preserved g c =
    let i = c.loop-record.invariant.3 in
    let x = given _ _ (sym i.1 ∙ c.in-Some.ensures.steps) in (
      tt,
      tt,
      c.loop-record.invariant.2,
      (
        _,
        x.whole c.if-record-eq0.false,
        λ q a.
            go_on (rw x.at at i.2 q a) (record { inside = x.inside; size = x.size; whole = c.if-record-eq0.false; kind = refl }) c.moved-here.ensures (sym (a _ _ _ c.asks.ensures) ∙ c.if-not-asks.false),
      ),
    )

pub returns-then-not-asks : goal.returns-then-not-asks
returns-then-not-asks g c q a =
    let i = c.loop-record.invariant.3 in
    let x = given _ _ (sym i.1 ∙ c.in-Some.ensures.steps) in
    say-no (rw x.at at i.2 q a) (record { inside = x.inside; size = x.size; whole = c.if-record-eq0.false; kind = refl }) c.moved-here.ensures (sym (a _ _ _ c.asks.ensures) ∙ c.if-not-asks.true)

pub returns : goal.returns
returns g c q a =
    let i = c.loop-record.invariant.3 in
    at-end (i.2 q a) (exhausted _ _ (sym i.1 ∙ c.in-None.ensures.steps.0))
