use Rattle.machine.proofs.Within.{makes}
use native.Mathlib.Omega.{arith}
use mathlib.Core.Path.{refl}
use Rattle.loaded.proofs.Reading.{short-cast, short-move, short-prom}
use Rattle.turning.specs.Plain.{is_plain}
use Rattle.turning.proofs.Looking.{lit-here, look-answers, made-answers, plain-answers, vec_here}
use Rattle.turning.proofs.looks.Goals as goal

pub calls-requires : goal.calls-requires
calls-requires c =
    let z = c.in-33.is in (
      c.requires.0,
      c.requires.1,
      (omega (arith, z), omega (arith, z)),
      c.requires.3,
    )

pub calls-requires-in-34 : goal.calls-requires-in-34
calls-requires-in-34 c =
    let z = c.in-34.is in (
      c.requires.0,
      c.requires.1,
      (omega (arith, z), omega (arith, z)),
      c.requires.3,
    )

pub returns-in-17 : goal.returns-in-17
unfolding is_plain makes
returns-in-17 c = (
  look-answers _ _ _ _ _ c.requires.1 _ _ _ _ _ c.turned.ensures
      c.moves.ensures (short-move _ _ _ c.in-17.is) refl refl,
  c.requires.3,
)

pub returns-in-20 : goal.returns-in-20
unfolding is_plain makes
returns-in-20 c = (
  made-answers _ _ _ _ _ c.requires.1 _ _ _ _ _ c.turned-in-20.ensures
      c.vectors.ensures (vec_here _ _ _ c.place_at-e.ensures
      c.in-20.is) refl,
  c.requires.3,
)

pub returns-in-26 : goal.returns-in-26
unfolding is_plain makes
returns-in-26 c = (
  look-answers _ _ _ _ _ c.requires.1 _ _ _ _ _ c.turned-in-26.ensures
      c.casts.ensures (short-cast _ _ _ c.in-26.is) refl refl,
  c.requires.3,
)

pub returns-in-29 : goal.returns-in-29
unfolding is_plain makes
returns-in-29 c = (
  look-answers _ _ _ _ _ c.requires.1 _ _ _ _ _ c.turned-in-29.ensures
      c.delays.ensures (short-prom _ _ _ c.in-29.is) refl refl,
  c.requires.3,
)

pub returns-in_default : goal.returns-in_default
unfolding is_plain makes
returns-in_default c = (
  plain-answers _ _ _ _ _ c.requires.1 _ _ _ _ _ c.turned-in_default.ensures
      c.lits.ensures (lit-here _ _ _ c.place_at-e.ensures
      c.requires.2
      c.in_default.in_default-own.rest.0.0.0.0.0.1 c.in_default.in_default-own.rest.0.0.0.0.1
      c.in_default.in_default-own.rest.0.0.0.1 c.in_default.in_default-own.rest.0.0.1
      c.in_default.in_default-own.rest.0.1 c.in_default.in_default-own.rest.1) refl refl,
  c.requires.3,
)
