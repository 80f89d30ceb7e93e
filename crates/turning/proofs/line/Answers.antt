use mathlib.Core.Path.{refl}
use Rattle.loaded.proofs.Reading.{short_use, short-dup, short-len, short-get, short-set, short-arith, short-select, short-named, short-store, short-force, short-peek, short-poke, short-skip}
use Rattle.turning.specs.Plain.{is_plain}
use Rattle.machine.proofs.Within.{makes}
use Rattle.turning.proofs.Turning.{quick-by, quick-own, quick-plain, quick-rest}
use Rattle.turning.proofs.line.Goals as goal

pub returns-in-18 : goal.returns-in-18
unfolding is_plain makes
returns-in-18 c =
    quick-own _ _ _ _ _ _ _ _ _ c.requires.2 c.turned.ensures
    c.use_up.ensures refl refl (λ s. short_use s _ _ c.in-18.is)

pub returns-in-19 : goal.returns-in-19
unfolding is_plain makes
returns-in-19 c =
    quick-plain _ _ _ _ _ _ _ _ _ c.requires.2 c.turned-in-19.ensures
    c.dup.ensures refl (λ s. short-dup s _ _ c.in-19.is)

pub returns-in-21 : goal.returns-in-21
unfolding is_plain makes
returns-in-21 c =
    quick-own _ _ _ _ _ _ _ _ _ c.requires.2 c.turned-in-21.ensures
    c.len.ensures refl refl (λ s. short-len s _ _ c.in-21.is)

pub returns-in-22 : goal.returns-in-22
unfolding is_plain makes
returns-in-22 c =
    quick-own _ _ _ _ _ _ _ _ _ c.requires.2 c.turned-in-22.ensures
    c.get.ensures refl refl (λ s. short-get s _ _ c.in-22.is)

pub returns-in-23 : goal.returns-in-23
unfolding is_plain makes
returns-in-23 c =
    quick-own _ _ _ _ _ _ _ _ _ c.requires.2 c.turned-in-23.ensures
    c.set.ensures refl refl (λ s. short-set s _ _ c.in-23.is)

pub returns-in-24 : goal.returns-in-24
unfolding is_plain makes
returns-in-24 c =
    quick-own _ _ _ _ _ _ _ _ _ c.requires.2 c.turned-in-24.ensures
    c.arith.ensures refl refl (λ s. short-arith s _ _ c.in-24.is)

pub returns-in-25 : goal.returns-in-25
unfolding is_plain makes
returns-in-25 c =
    quick-own _ _ _ _ _ _ _ _ _ c.requires.2 c.turned-in-25.ensures
    c.select.ensures refl refl (λ s. short-select s _ _ c.in-25.is)

pub returns-in-27 : goal.returns-in-27
unfolding is_plain makes
returns-in-27 c =
    quick-own _ _ _ _ _ _ _ _ _ c.requires.2 c.turned-in-27.ensures
    c.named.ensures refl refl (λ s. short-named s _ _ c.in-27.is)

pub returns-in-28 : goal.returns-in-28
unfolding is_plain makes
returns-in-28 c =
    quick-own _ _ _ _ _ _ _ _ _ c.requires.2 c.turned-in-28.ensures
    c.store_name.ensures refl refl (λ s. short-store s _ _ c.in-28.is)

pub returns-in-30 : goal.returns-in-30
returns-in-30 c =
    quick-by _ _ _ _ _ _ _ _ _ c.requires.2 (c.force.ensures _)
    (λ s. short-force s _ _ c.in-30.is)

pub returns-in-31 : goal.returns-in-31
unfolding is_plain makes
returns-in-31 c =
    quick-own _ _ _ _ _ _ _ _ _ c.requires.2 c.turned-in-31.ensures
    c.peek.ensures refl refl (λ s. short-peek s _ _ c.in-31.is)

pub returns-in-32 : goal.returns-in-32
unfolding is_plain makes
returns-in-32 c =
    quick-own _ _ _ _ _ _ _ _ _ c.requires.2 c.turned-in-32.ensures
    c.poke.ensures refl refl (λ s. short-poke s _ _ c.in-32.is)

pub returns-in-35 : goal.returns-in-35
returns-in-35 c =
    quick-by _ _ _ _ _ _ _ _ _ c.requires.2
    (c.skip.ensures _ _ c.requires.0)
    (λ s. short-skip s _ _ c.in-35.is)

pub returns-in_default : goal.returns-in_default
returns-in_default c =
    quick-rest _ _ _ _ _ c.requires.0
    (λ _. record {
      not_use = c.in_default.in_default-own.rest.0.0.0.0.0.0.0.0.0.0.0.0.1;
      not_dup = c.in_default.in_default-own.rest.0.0.0.0.0.0.0.0.0.0.0.1;
      not_len = c.in_default.in_default-own.rest.0.0.0.0.0.0.0.0.0.0.1;
      not_get = c.in_default.in_default-own.rest.0.0.0.0.0.0.0.0.0.1;
      not_set = c.in_default.in_default-own.rest.0.0.0.0.0.0.0.0.1;
      not_arith = c.in_default.in_default-own.rest.0.0.0.0.0.0.0.1;
      not_select = c.in_default.in_default-own.rest.0.0.0.0.0.0.1;
      not_named = c.in_default.in_default-own.rest.0.0.0.0.0.1;
      not_store = c.in_default.in_default-own.rest.0.0.0.0.1;
      not_force = c.in_default.in_default-own.rest.0.0.0.1;
      not_peek = c.in_default.in_default-own.rest.0.0.1;
      not_poke = c.in_default.in_default-own.rest.0.1;
      not_skip = c.in_default.in_default-own.rest.1;
    })
