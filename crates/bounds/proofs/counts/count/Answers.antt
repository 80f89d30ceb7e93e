use Rattle.bounds.proofs.Ahead.{counted-block, counted-line, stopped-line, over-version, over-nowhere, over-all}
use Rattle.layout.proofs.Walk.{size_in}
use Rattle.program.proofs.Views.{view-end, view-past}
use mathlib.Core.Bool.{false≢true}
use mathlib.Core.Path.{sym, ◌∙◌}
use native.Mathlib.Omega.{arith}
use Rattle.bounds.proofs.counts.count.Goals as goal

pub loop-p-init : goal.loop-p-init
loop-p-init c =
    λ x. x

pub returns-then-n-eq0 : goal.returns-then-n-eq0
returns-then-n-eq0 c =
    let o = over-nowhere _ _ (view-past _ _ (sym c.size_at-n.ensures ∙ c.if-n-eq0.true)) in record { counted = c.loop-p.invariant; whole = λ _. o; stays = over-all _ _ _ _ o }

pub returns-then-k-eq-VERSION : goal.returns-then-k-eq-VERSION
returns-then-k-eq-VERSION c =
    let o = over-version (record { inside = c.loop-p-test.true; size = c.size_at-n.ensures; whole = c.if-n-eq0.false; kind = c.kind_at-k.ensures }) c.if-k-eq-VERSION.true in record { counted = c.loop-p.invariant; whole = λ _. o; stays = over-all _ _ _ _ o }

pub overflow_add-p : goal.overflow_add-p
overflow_add-p c =
    omega (arith, size_in _ _ c.size_at-n.ensures c.if-n-eq0.false)

pub loop-p-smaller-then-k-eq-BLOCK : goal.loop-p-smaller-then-k-eq-BLOCK
loop-p-smaller-then-k-eq-BLOCK c =
    omega (arith, c.if-n-eq0.false, c.loop-p-test.true)

pub loop-p-preserved-then-k-eq-BLOCK : goal.loop-p-preserved-then-k-eq-BLOCK
loop-p-preserved-then-k-eq-BLOCK c =
    λ x. counted-block _ _ _ _ (record { inside = c.loop-p-test.true; size = c.size_at-n.ensures; whole = c.if-n-eq0.false; kind = c.kind_at-k.ensures }) c.if-k-eq-BLOCK.true c.add-sum.ensures
    (c.loop-p.invariant x)

pub returns-then-r-eq0 : goal.returns-then-r-eq0
returns-then-r-eq0 c =
    record {
      counted = c.loop-p.invariant;
      whole = λ e. absurd (false≢true e);
      stays = stopped-line _ _ _ 0
          (record { inside = c.loop-p-test.true; size = c.size_at-n.ensures; whole = c.if-n-eq0.false; kind = c.kind_at-k.ensures }) c.if-k-eq-VERSION.false c.if-k-eq-BLOCK.false
          c.reach-r.ensures c.if-r-eq0.true;
    }

pub overflow_add-p-else-k-eq-BLOCK : goal.overflow_add-p-else-k-eq-BLOCK
overflow_add-p-else-k-eq-BLOCK c =
    omega (arith, size_in _ _ c.size_at-n.ensures c.if-n-eq0.false)

pub loop-p-smaller : goal.loop-p-smaller
loop-p-smaller c =
    omega (arith, c.if-n-eq0.false, c.loop-p-test.true)

pub loop-p-preserved : goal.loop-p-preserved
loop-p-preserved c =
    λ x. counted-line _ _ _ _ (record { inside = c.loop-p-test.true; size = c.size_at-n.ensures; whole = c.if-n-eq0.false; kind = c.kind_at-k.ensures })
    c.if-k-eq-VERSION.false c.if-k-eq-BLOCK.false c.reach-r.ensures c.if-r-eq0.false c.add-sum-else-k-eq-BLOCK.ensures (c.loop-p.invariant x)

pub returns : goal.returns
returns c =
    let o = over-nowhere _ _ (view-end _ _ c.loop-p-test.false) in record { counted = c.loop-p.invariant; whole = λ _. o; stays = over-all _ _ _ _ o }
