use Rattle.acts.proofs.Setting.{replaced, shared, undef}
use Rattle.acts.proofs.Answers.{stays, stops, found-is, found-stuck, index_below, whole_is, whole-stuck}
use Rattle.acts.proofs.Undef.{index_at, index-undef}
use Rattle.store.proofs.Vectors.{vector-at, vector-outside}
use Rattle.store.specs.Acts.{Does}
use Rattle.machine.specs.Steps.{execute_to}
use Rattle.machine.specs.Try.{◌>>=◌, got}
use Rattle.store.specs.Answers.{end_of}
use Rattle.store.specs.declared.Halt.{Halt}
use native.Mathlib.Omega.{arith}
use mathlib.Core.Path.{refl, sym, ap, ◌∙◌}
use mir.Val.{SFits}
use mir.Syntax.{w64}
use mir.Facts.{to_z-of_z}
use borrow.Author.Rules.{rules}
use Rattle.acts.proofs.set.Goals as goal

pub returns-in_default : goal.returns-in_default
unfolding execute_to ◌>>=◌
returns-in_default c =
    (λ P W. stays _ _ (rw (found-stuck c.vector.ensures.0 c.in_default.is) refl), c.requires.0)

pub returns-then-v-ge64 : goal.returns-then-v-ge64
unfolding execute_to ◌>>=◌
returns-then-v-ge64 c = (
  λ P W. stays _ _ (rw (found-is c.vector.ensures.0 c.in-Some.is, vector-outside _ _ _ c.if-v-ge64.true) refl),
  c.requires.0,
)

pub returns-in_default-integer : goal.returns-in_default-integer
unfolding execute_to ◌>>=◌
returns-in_default-integer c = (
  λ P W. stays _ _ (rw (
    found-is c.vector.ensures.0
        c.in-Some.is,
    vector-at _ _ _ c.if-v-ge64.false,
    whole-stuck
        c.integer.ensures c.in_default-integer.is,
  ) refl),
  c.requires.0,
)

pub returns-in_default-integer-2 : goal.returns-in_default-integer-2
unfolding execute_to ◌>>=◌
returns-in_default-integer-2 c = (
  λ P W. stays _ _ (rw (
    found-is c.vector.ensures.0
        c.in-Some.is,
    vector-at _ _ _
        c.if-v-ge64.false,
    whole_is
        c.integer.ensures c.in-Some-integer.is,
    whole-stuck
        c.integer-2.ensures c.in_default-integer-2.is,
  ) refl),
  c.requires.0,
)

pub returns-then-counts-v-ne1 : goal.returns-then-counts-v-ne1
returns-then-counts-v-ne1 c = (
  λ P W. stays _ _
      (shared P W c.args.bytes.now
      c.args.numbers.now
      c.args.counts.now _ _ _ _
      c.requires.1
      c.requires.0.counted
      (found-is c.vector.ensures.0
      c.in-Some.is)
      c.if-v-ge64.false
      (whole_is c.integer.ensures
      c.in-Some-integer.is)
      (whole_is c.integer-2.ensures c.in-Some-integer-2.is) c.if-counts-v-ne1.true),
  c.requires.0,
)

pub set_item-requires : goal.set_item-requires
set_item-requires c =
    let s : SFits w64
    c.in-Some-integer.z = search rules in
    let e = rw (to_z-of_z s) at c.index.ensures in
    let b = index_below _ _ _ (index_at _ _ _ (sym e ∙ c.in-Some-index.is)) in (
      c.if-v-ge64.false,
      omega (arith, b, c.items.ensures.1),
      c.requires.0,
    )

pub returns-in-Some-index : goal.returns-in-Some-index
unfolding Does
returns-in-Some-index c =
    let s : SFits w64
    c.in-Some-integer.z = search rules in
    let t : SFits w64 c.in-Some-integer-2.x = search rules in
    let e = rw (to_z-of_z s, c.items.ensures.0) at
    c.index.ensures in
    let g = rw (to_z-of_z t) at c.set_item.ensures in (
      λ P W. replaced P W
          c.args.bytes.now
          c.args.numbers.now
          c.args.counts.now _ _ _ _
          c.requires.1
          c.requires.0.counted
          (found-is c.vector.ensures.0
          c.in-Some.is)
          c.if-v-ge64.false
          (whole_is c.integer.ensures
          c.in-Some-integer.is)
          (whole_is c.integer-2.ensures
          c.in-Some-integer-2.is)
          c.if-counts-v-ne1.false
          (index_at _ _ _ (sym e ∙ c.in-Some-index.is)) ∙ ap got (sym g.0),
      g.1,
    )

pub returns-in-None : goal.returns-in-None
unfolding end_of
returns-in-None c =
    let s : SFits w64 c.in-Some-integer.z = search rules in
    let e = rw (to_z-of_z s, c.items.ensures.0) at c.index.ensures in (
      λ P W. stops _ _ Halt.Undef
          (undef P W c.args.bytes.now
          c.args.numbers.now
          c.args.counts.now _ _ _ _
          c.requires.1
          c.requires.0.counted
          (found-is c.vector.ensures.0
          c.in-Some.is)
          c.if-v-ge64.false
          (whole_is c.integer.ensures
          c.in-Some-integer.is)
          (whole_is c.integer-2.ensures
          c.in-Some-integer-2.is) c.if-counts-v-ne1.false
          (index-undef _ _ (sym e ∙ c.in-None.is))),
      c.requires.0,
    )
