use mir.Syntax.{w64}
use Rattle.acts.proofs.Clauses.{len-done, len_out}
use Rattle.acts.proofs.Answers.{stays, by, found-is, found-stuck}
use Rattle.machine.specs.Steps.{execute_to}
use Rattle.machine.specs.Try.{◌>>=◌}
use mathlib.Core.Path.{refl}
use mir.Facts.{to_z_pos}
use borrow.Author.Rules.{rules}
use Rattle.acts.proofs.len.Goals as goal

pub returns-in_default : goal.returns-in_default
unfolding execute_to ◌>>=◌
returns-in_default c =
    (λ P W. stays _ _ (rw (found-stuck c.vector.ensures.0 c.in_default.is) refl), c.requires.0)

pub returns-then-v-ge64 : goal.returns-then-v-ge64
returns-then-v-ge64 c = (
  λ P W. stays _ _ (len_out P W _ _ _ _ _ (found-is c.vector.ensures.0 c.in-Some.is) c.if-v-ge64.true),
  c.requires.0,
)

pub assign_integer-requires : goal.assign_integer-requires
assign_integer-requires c =
    c.requires

pub returns : goal.returns
returns c =
    let g = rw (to_z_pos w64 {n = c.items-n.result} (search rules)) at c.assign_integer.ensures in (
      λ P W. by _ _ _ _ _ (len-done P W c.args.bytes.now
          c.args.numbers.now _ _ _
          (found-is c.vector.ensures.0
          c.in-Some.is) c.if-v-ge64.false
          c.items-n.ensures.0) g.0,
      g.1,
    )
