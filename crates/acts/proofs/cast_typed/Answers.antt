use Rattle.std.specs.Prelude.{Some}
use Rattle.acts.proofs.Delayed.{cast-by}
use Rattle.acts.proofs.Answers.{by, stays, stops}
use Rattle.acts.specs.Typed.{typed_of}
use Rattle.machine.specs.States.{value}
use Rattle.store.specs.Acts.{assign_try}
use Rattle.store.specs.Store.{frame_in, state_in}
use Rattle.machine.specs.Try.{◌>>=◌, ◌>>◌, end_unless}
use Rattle.store.specs.Answers.{end_of}
use Rattle.store.specs.declared.Halt.{Halt}
use mathlib.Core.Path.{refl, ap, ◌∙◌}
use Rattle.acts.proofs.cast_typed.Goals as goal

pub assign_register-requires : goal.assign_register-requires
assign_register-requires c =
    c.requires

pub returns-then-fits : goal.returns-then-fits
unfolding typed_of ◌>>=◌ ◌>>◌ end_unless
returns-then-fits c = (
  λ P W T. by {u = assign_try (state_in c.args.bytes.now c.args.numbers.now) c.args.k c.args.d (value (frame_in c.args.bytes.now c.args.numbers.now c.args.k) c.args.a)} _ _ _ _ _
      (cast-by P W _ _ _ _ _ ∙ rw (T ∙ ap typed_of (c.in-Some.is ∙ ap Some c.if-fits.true)) refl) c.assign_register.ensures.0,
  c.assign_register.ensures.1,
)

pub returns-else-fits : goal.returns-else-fits
unfolding typed_of ◌>>=◌ ◌>>◌ end_unless end_of
returns-else-fits c =
    (λ P W T. stops _ _ Halt.Undef (cast-by P W _ _ _ _ _ ∙ rw (T ∙ ap typed_of (c.in-Some.is ∙ ap Some c.if-fits.false)) refl), c.requires.0)

pub returns-in_default : goal.returns-in_default
unfolding typed_of ◌>>=◌ ◌>>◌ end_unless
returns-in_default c =
    (λ P W T. stays _ _ (cast-by P W _ _ _ _ _ ∙ rw (T ∙ ap typed_of c.in_default.is) refl), c.requires.0)
