use mir.Syntax.{w8}
use mir.Val.{Fits}
use Rattle.store.proofs.Pushing.{calm-one, forced-byte}
use Rattle.store.specs.Store.{forced_by}
use Rattle.store.specs.Counts.{repend}
use native.Mathlib.Omega.{arith}
use mathlib.Core.Path.{refl}
use borrow.Author.Rules.{rules}
use Rattle.store.proofs.stack.pend.Goals as goal

pub overflow_add-counts-in-Force : goal.overflow_add-counts-in-Force
overflow_add-counts-in-Force c =
    omega (arith, calm-one c.args.counts.now {p = c.in-Force.p} c.requires (search rules))

pub returns-in-Call : goal.returns-in-Call
unfolding repend forced_by
returns-in-Call c =
    rw c.in-Call.is (refl, omega arith)

pub returns-in-Force : goal.returns-in-Force
unfolding repend
returns-in-Force c =
    let f : Fits w8 c.in-Force.p = search rules in
    (rw c.in-Force.is refl, forced-byte c.in-Force.is f)
