use mir.Syntax.{w64}
use Rattle.std.specs.Prelude.{Some}
use mathlib.Core.Path.{sym, ap, ◌∙◌}
use native.Mathlib.Omega.{arith}
use mir.Facts.{to_z-of_z}
use Rattle.begin.proofs.Filling.{leaves_all, leaves-integer, leaves-vector, leaves_nothing, leaves_none, room-integer, room-vector}
use borrow.Author.Rules.{rules}
use Rattle.begin.proofs.fill.Goals as goal

pub loop-p-init : goal.loop-p-init
loop-p-init c =
    (omega arith, omega arith, omega arith, leaves_all _ _ _)

pub returns-in_default : goal.returns-in_default
returns-in_default c =
    λ ts xs e. absurd (leaves_nothing c.loop-p.invariant.3 (sym c.given.ensures ∙ c.in_default.is) c.loop-p-test.true ts xs e)

pub overflow_add-p : goal.overflow_add-p
overflow_add-p c =
    let t = room-integer c.loop-p.invariant.3 (sym c.given.ensures ∙ c.in-Some.is ∙ ap Some c.in-Integer.is) in search (rules, t)

pub overflow_add-i : goal.overflow_add-i
overflow_add-i c =
    let t = room-integer c.loop-p.invariant.3 (sym c.given.ensures ∙ c.in-Some.is ∙ ap Some c.in-Integer.is) in search (rules, t)

pub loop-p-preserved-in-Integer : goal.loop-p-preserved-in-Integer
loop-p-preserved-in-Integer c =
    let g = sym c.given.ensures ∙ c.in-Some.is ∙ ap Some c.in-Integer.is in
    let t = room-integer c.loop-p.invariant.3 g in
    (omega arith, omega arith, t, leaves-integer c.loop-p.invariant.3 g (to_z-of_z {w = w64} (search rules)) c.put_integer.ensures.0 c.put_integer.ensures.1)

pub put_vector-requires : goal.put_vector-requires
put_vector-requires c =
    c.loop-p.invariant.0

pub overflow_add-p-in-Vector : goal.overflow_add-p-in-Vector
overflow_add-p-in-Vector c =
    let t = room-vector c.loop-p.invariant.3 (sym c.given.ensures ∙ c.in-Some.is ∙ ap Some c.in-Vector.is) in search (rules, t.1)

pub put_items-requires : goal.put_items-requires
put_items-requires c =
    let t = room-vector c.loop-p.invariant.3 (sym c.given.ensures ∙ c.in-Some.is ∙ ap Some c.in-Vector.is) in (t.0, t.1)

pub overflow_add-c : goal.overflow_add-c
overflow_add-c c =
    let t = room-vector c.loop-p.invariant.3 (sym c.given.ensures ∙ c.in-Some.is ∙ ap Some c.in-Vector.is) in search (rules, t.1)

pub overflow_add-p-in-Vector-2 : goal.overflow_add-p-in-Vector-2
overflow_add-p-in-Vector-2 c =
    let t = room-vector c.loop-p.invariant.3 (sym c.given.ensures ∙ c.in-Some.is ∙ ap Some c.in-Vector.is) in search (rules, t.0)

pub overflow_add-p-in-Vector-3 : goal.overflow_add-p-in-Vector-3
overflow_add-p-in-Vector-3 c =
    let t = room-vector c.loop-p.invariant.3 (sym c.given.ensures ∙ c.in-Some.is ∙ ap Some c.in-Vector.is) in search (rules, t.1)

pub overflow_add-i-in-Vector : goal.overflow_add-i-in-Vector
overflow_add-i-in-Vector c =
    let t = room-vector c.loop-p.invariant.3 (sym c.given.ensures ∙ c.in-Some.is ∙ ap Some c.in-Vector.is) in search (rules, t.1)

pub loop-p-preserved : goal.loop-p-preserved
loop-p-preserved c =
    let g = sym c.given.ensures ∙ c.in-Some.is ∙ ap Some c.in-Vector.is in
    let t = room-vector c.loop-p.invariant.3 g in
    (omega arith, omega arith, omega (arith, t.1), leaves-vector c.loop-p.invariant.3 g c.put_vector.ensures c.put_items.ensures.0 c.put_items.ensures.1)

pub returns : goal.returns
returns c =
    leaves_none c.loop-p.invariant.3 c.loop-p-test.false
