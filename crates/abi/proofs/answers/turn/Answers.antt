-- `abi::answers::turn`: field by field.
use mir.Facts.{to_z-of_z}
use mir.Syntax.{w64}
use mir.Val.{SFits}
use mathlib.Core.Path.{refl}
use borrow.Author.Rules.{rules}
use Rattle.abi.specs.Answers.{turn_with}
use Rattle.abi.proofs.answers.turn.Goals as goal

pub returns : goal.returns
unfolding turn_with
returns c =
    let s : SFits w64 c.args.said.value = search rules in
    rw (to_z-of_z s) refl
