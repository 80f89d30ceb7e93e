-- `abi::answers::taken`: field by field.
use mir.Facts.{to_z-of_z}
use mir.Syntax.{w64}
use mir.Val.{SFits}
use mathlib.Core.Path.{refl}
use borrow.Author.Rules.{rules}
use Rattle.abi.specs.Answers.{answer_with}
use Rattle.abi.proofs.answers.taken.Goals as goal

pub returns : goal.returns
unfolding answer_with
returns c =
    let s : SFits w64 c.args.said.value = search rules in
    rw (to_z-of_z s) refl
