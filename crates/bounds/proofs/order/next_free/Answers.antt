use Rattle.bounds.specs.Counts.{Worth}
use Rattle.bounds.proofs.Writing.{entry-is, first-here, first-later, first-none, free-shut, ready-next, free-yes, free-no, worth-now}
use mathlib.Core.Path.{refl, sym, ◌∙◌}
use Rattle.bounds.proofs.order.next_free.Goals as goal

pub loop-k-init : goal.loop-k-init
loop-k-init c =
    (c.requires, refl)

pub returns-then-c : goal.returns-then-c
returns-then-c c = (
  sym (c.loop-k.invariant.1
      ∙ first-here _ _ c.loop-k-test.true
      (free-yes _ _ _ _ c.loop-k.invariant.0 _ c.loop-k-test.true (sym c.is_open.ensures ∙ c.if-not-is_open.false)
      (entry-is c.args.tabled.listed _) c.count-c.ensures c.if-c.true)),
  ready-next _ _ _ _ c.loop-k.invariant.0 _ c.loop-k-test.true
      (sym c.is_open.ensures ∙ c.if-not-is_open.false) (entry-is c.args.tabled.listed _) c.count-c.ensures,
  worth-now _ _ _ _ c.loop-k.invariant.0 _
      c.loop-k-test.true (sym c.is_open.ensures ∙ c.if-not-is_open.false) (entry-is c.args.tabled.listed _) c.count-c.ensures c.if-c.true,
)

pub loop-k-preserved : goal.loop-k-preserved
loop-k-preserved c = (
  ready-next _ _ _ _ c.loop-k.invariant.0 _ c.loop-k-test.true
      (sym c.is_open.ensures ∙ c.if-not-is_open.false) (entry-is c.args.tabled.listed _) c.count-c.ensures,
  c.loop-k.invariant.1
      ∙ first-later _ _ c.loop-k-test.true
      (free-no _ _ _ _ c.loop-k.invariant.0 _ c.loop-k-test.true (sym c.is_open.ensures ∙ c.if-not-is_open.false)
      (entry-is c.args.tabled.listed _) c.count-c.ensures c.if-c.false),
)

pub loop-k-preserved-then-not-is_open : goal.loop-k-preserved-then-not-is_open
loop-k-preserved-then-not-is_open c =
    (c.loop-k.invariant.0, c.loop-k.invariant.1 ∙ first-later _ _ c.loop-k-test.true (free-shut _ _ _ (sym c.is_open.ensures ∙ c.if-not-is_open.true)))

pub returns : goal.returns
unfolding Worth
returns c =
    (sym (c.loop-k.invariant.1 ∙ first-none _ _ c.loop-k-test.false), c.loop-k.invariant.0, tt)
