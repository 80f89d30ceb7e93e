use mathlib.Core.Path.{◌≡◌, sym, ap, ap₂, ◌∙◌}
use Prim.Native.Nat.{ℕ, ◌-◌}
use native.Mathlib.Omega.{arith}
use lib.ListN.{length}
use borrow.Author.Rules.{rules}
use Rattle.machine.specs.Pools.{larger}
use Rattle.pools.specs.Shares.{shares}
use Rattle.pools.proofs.Sums.{shares_at, shares-done, allowed-shares}
use Rattle.pools.proofs.most.Goals as goal

pub loop-j-init : goal.loop-j-init
loop-j-init c = (omega arith, omega arith, omega arith)

pub overflow_add-against : goal.overflow_add-against
overflow_add-against c = record { fits = omega (arith, c.loop-j.invariant.0, c.loop-j.invariant.1, c.share-against.ensures.1) }

pub loop-j-preserved : goal.loop-j-preserved
loop-j-preserved c =
    let l = c.loop-j in
    let a = c.args in
    let s = shares_at a.reserves a.has a.i l.j 8 (search rules) (search rules) (omega arith) in
    (omega arith, omega (arith, l.invariant.1, c.share-against.ensures.1), omega (arith, s, l.invariant.2, c.share-against.ensures.0))

pub returns : goal.returns
returns c =
    let l = c.loop-j in
    let a = c.args in
    let n : length a.reserves ≡ 8 = search rules in
    let m : length a.has ≡ 8 = search rules in
    let s = shares-done a.reserves a.has a.i l.j 8 n (omega arith) in
    let k : l.against ≡ shares 0 a.i a.reserves a.has = omega (arith, s, l.invariant.2) in
    c.greater.ensures ∙ ap₂ larger c.reserve.ensures (c.left.ensures ∙ ap (λ (x : ℕ). 64 - x) k) ∙ allowed-shares a.reserves a.has a.i (n ∙ sym m)
