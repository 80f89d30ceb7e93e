use native.Mathlib.Omega.{arith}
use mir.Syntax.{w64}
use mir.Val.{SFits}
use mir.Facts.{to_z-of_z}
use mathlib.Core.Path.{◌∙◌, sym}
use Rattle.acts.proofs.Answers.{whole_is, whole-stuck}
use Rattle.turning.proofs.Turning.{skip-went-stuck, skip-went-on, skip-went-over, skip-went-far}
use borrow.Author.Rules.{rules}
use Rattle.turning.proofs.skip.Goals as goal

pub returns-in_default : goal.returns-in_default
returns-in_default c =
    λ t k R s H l is. skip-went-stuck s t _ _ _ H l _ _ is k (whole-stuck c.integer.ensures c.in_default.is)

pub returns-then-spot-over-gt-INSTRUCTIONS : goal.returns-then-spot-over-gt-INSTRUCTIONS
returns-then-spot-over-gt-INSTRUCTIONS c =
    let x : SFits w64 c.in-Some.z = search rules in
    let y = rw (to_z-of_z x) at c.is_zero.ensures in
    let w = c.wide-over.ensures.0 in
    let o = c.if-spot-over-gt-INSTRUCTIONS.true in
    λ t k R s H l is. skip-went-far s t _ _ _ H l _ _ is _ (whole_is c.integer.ensures
    c.in-Some.is) k (sym y ∙ c.if-is_zero.true) (omega (arith, w, o))

pub returns-else-spot-over-gt-INSTRUCTIONS : goal.returns-else-spot-over-gt-INSTRUCTIONS
returns-else-spot-over-gt-INSTRUCTIONS c =
    let x : SFits w64 c.in-Some.z = search rules in
    let y = rw (to_z-of_z x) at c.is_zero.ensures in
    let w = c.wide-over.ensures.0 in
    let o = c.if-spot-over-gt-INSTRUCTIONS.false in
    λ t k R s H l is. rw w (skip-went-over s t _ _ _ H l _ _ is _ (whole_is c.integer.ensures
    c.in-Some.is) (sym y ∙ c.if-is_zero.true) (omega (arith, w, o)) R)

pub returns-else-is_zero : goal.returns-else-is_zero
returns-else-is_zero c =
    let x : SFits w64 c.in-Some.z = search rules in
    let y = rw (to_z-of_z x) at c.is_zero.ensures in
    λ t k R s H l is. skip-went-on s t _ _ _ H l _ _ is _ (whole_is c.integer.ensures c.in-Some.is)
    (sym y ∙ c.if-is_zero.false) R
