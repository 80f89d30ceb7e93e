use Rattle.acts.proofs.Clauses.{get-done}
use Rattle.acts.proofs.Answers.{stays, stops, by, found-is, found-stuck, index_below, whole_is, whole-stuck}
use Rattle.acts.proofs.Undef.{index_at, index-undef}
use Rattle.store.proofs.Vectors.{vector-at, vector-outside}
use Rattle.machine.specs.Steps.{execute_to}
use Rattle.machine.specs.Try.{◌>>=◌}
use Rattle.store.specs.Answers.{end_of}
use Rattle.store.specs.declared.Halt.{Halt}
use mathlib.Core.Path.{refl, sym, ◌∙◌}
use mir.Val.{SFits}
use mir.Syntax.{w64}
use mir.Facts.{to_z-of_z}
use borrow.Author.Rules.{rules}
use Rattle.acts.proofs.get.Goals as goal

pub returns-in_default : goal.returns-in_default
unfolding execute_to ◌>>=◌
returns-in_default c =
    (λ P W. stays _ _ (rw (found-stuck c.vector.ensures.0 c.in_default.is) refl), c.requires.0)

pub returns-then-v-ge64 : goal.returns-then-v-ge64
unfolding execute_to ◌>>=◌
returns-then-v-ge64 c = (
  λ P W. stays _ _ (rw (found-is c.vector.ensures.0 c.in-Some.is, vector-outside _ _ _ c.if-v-ge64.true) refl),
  c.requires.0,
)

pub returns-in_default-integer : goal.returns-in_default-integer
unfolding execute_to ◌>>=◌
returns-in_default-integer c = (
  λ P W. stays _ _ (rw (
    found-is c.vector.ensures.0
        c.in-Some.is,
    vector-at _ _ _ c.if-v-ge64.false,
    whole-stuck
        c.integer.ensures c.in_default-integer.is,
  ) refl),
  c.requires.0,
)

pub item-x-requires : goal.item-x-requires
item-x-requires c =
    let s : SFits w64 c.in-Some-integer.z = search rules in
    let e = rw (to_z-of_z s, c.items.ensures.0) at c.index.ensures in (
      c.if-v-ge64.false,
      index_below _ _ _
          (index_at _ _ _ (sym e ∙ c.in-Some-index.is)),
    )

pub assign_integer-requires : goal.assign_integer-requires
assign_integer-requires c =
    c.requires

pub returns-in-Some-index : goal.returns-in-Some-index
returns-in-Some-index c =
    let s : SFits w64 c.in-Some-integer.z = search rules in
    let e = rw (to_z-of_z s, c.items.ensures.0) at
    c.index.ensures in
    let x : SFits w64 c.item-x.result = search rules in
    let g = rw (to_z-of_z x) at c.assign_integer.ensures in (
      λ P W. by _ _ _ _ _
          (get-done P W
          c.args.bytes.now
          c.args.numbers.now _ _ _
          (found-is c.vector.ensures.0
          c.in-Some.is)
          c.if-v-ge64.false _
          (whole_is c.integer.ensures
          c.in-Some-integer.is)
          (index_at _ _ _ (sym e ∙ c.in-Some-index.is)) c.item-x.ensures) g.0,
      g.1,
    )

pub returns-in-None : goal.returns-in-None
unfolding execute_to ◌>>=◌ end_of
returns-in-None c =
    let s : SFits w64 c.in-Some-integer.z = search rules in
    let e = rw (to_z-of_z s, c.items.ensures.0) at c.index.ensures in (
      λ P W. stops _ _ Halt.Undef
          (rw (
            found-is c.vector.ensures.0
                c.in-Some.is,
            vector-at _ _ _
                c.if-v-ge64.false,
            whole_is
                c.integer.ensures
                c.in-Some-integer.is,
            index-undef _ _ (sym e ∙ c.in-None.is),
          ) refl),
      c.requires.0,
    )
