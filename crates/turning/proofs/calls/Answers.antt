use native.Mathlib.Omega.{arith}
use mathlib.Core.Path.{sym, refl}
use Rattle.turning.proofs.Turning.{stored-ready}
use Rattle.turning.proofs.Looking.{call-answers, own-low, part-all, to-enter}
use Rattle.turning.proofs.calls.Goals as goal

pub own-requires : goal.own-requires
own-requires c = (
  c.requires.1.fit.live.0,
  own-low _ _ _ _ _
      c.requires.1 _
      c.requires.0 _ c.store_next.ensures,
)

pub choose-choice-requires : goal.choose-choice-requires
choose-choice-requires c =
    let z = c.own.ensures in
    let w = own-low _ _ _ _ _ c.requires.1 _
    c.requires.0 _
    c.store_next.ensures in (
      record {
        frame = c.requires.1.fit.live.0;
        own = omega
            (arith, z, w);
        calls = c.requires.2;
        count = c.registers-n.ensures.0;
        lists = c.registers-n.ensures.2;
      },
      c.requires.3,
    )

pub enters-requires : goal.enters-requires
enters-requires c =
    let q = stored-ready _ _ _ _ _ _
    c.requires.1.fit
    c.requires.0 c.store_next.ensures in (
      q.0,
      q.1,
      to-enter _ _ _ _ _
          c.requires.1 _
          c.requires.0 _ c.store_next.ensures _
          c.own.ensures refl refl
          (sym c.place_at-e.ensures) _ _
          (part-all c.registers-n.result
          c.registers-n.new.rs) _
          c.choose-choice.ensures.0,
    )

pub returns : goal.returns
returns c = (
  call-answers _ _ _ _ _
      c.requires.1 _
      c.requires.0 _ c.store_next.ensures _
      c.own.ensures refl refl
      (sym c.place_at-e.ensures) _ _
      (part-all c.registers-n.result
      c.registers-n.new.rs) _
      c.choose-choice.ensures.0
      c.requires.2 _ _ c.byte-d.ensures _ _ _ c.enters.ensures,
  c.choose-choice.ensures.1,
)
