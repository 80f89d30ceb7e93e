use Rattle.std.specs.Prelude.{Some}
use Rattle.ending.proofs.Calls.{back-ends, block-ends, clash-ends, last-ends, newer-ends, out-ends, returning, stuck-ends}
use Rattle.ending.proofs.Answered.{comes-by, comes-stuck, left-stuck}
use Rattle.ending.proofs.Runs.{run_ends, run-left}
use Rattle.acts.specs.Typed.{typed_of}
use native.Mathlib.Omega.{arith}
use mathlib.Core.Path.{ap, ◌∙◌}
use Rattle.ending.proofs.end_call.Goals as goal

pub returns-then-not-fits : goal.returns-then-not-fits
unfolding typed_of
returns-then-not-fits c =
    (λ P W T. comes-stuck _ _ (clash-ends P W _ _ _ _ (T ∙ ap typed_of (c.in-Some.is ∙ ap Some c.if-not-fits.true))), left-stuck _ _ _ c.requires.0)

pub returns-in_default : goal.returns-in_default
unfolding typed_of
returns-in_default c =
    (λ P W T. comes-stuck _ _ (stuck-ends P W _ _ _ _ (T ∙ ap typed_of c.in_default.is)), left-stuck _ _ _ c.requires.0)

pub returns-then-e-ge16 : goal.returns-then-e-ge16
returns-then-e-ge16 c =
    (λ P W T. comes-stuck _ _ (out-ends P W _ _ _ _ c.if-e-ge16.true), left-stuck _ _ _ c.requires.0)

pub overflow_sub-depth : goal.overflow_sub-depth
overflow_sub-depth c =
    omega (arith, c.wide-depth.ensures.0, c.requires.1.depth)

pub activation-top-requires : goal.activation-top-requires
activation-top-requires c =
    omega (arith, c.wide-depth.ensures.0, c.requires.1.depth, c.requires.1.low)

pub returns-then-top-ne0 : goal.returns-then-top-ne0
unfolding typed_of
returns-then-top-ne0 c = (
  λ P W T. comes-stuck _ _ (block-ends P W c.args.bytes.now
      c.args.numbers.now _ _
      (T ∙ ap typed_of (c.in-Some.is ∙ ap Some c.if-not-fits.false)) c.if-e-ge16.false
      c.requires.1 c.wide-depth.ensures.0
      c.activation-top.ensures c.if-top-ne0.true),
  left-stuck _ _ _ c.requires.0,
)

pub overflow_add-k : goal.overflow_add-k
overflow_add-k c =
    omega (arith, c.requires.1.few)

pub returns-then-k-wide : goal.returns-then-k-wide
unfolding typed_of
returns-then-k-wide c = (
  λ P W T. comes-stuck _ _ (newer-ends P W c.args.bytes.now
      c.args.numbers.now _ _
      (T ∙ ap typed_of (c.in-Some.is ∙ ap Some c.if-not-fits.false))
      c.if-e-ge16.false
      c.requires.1
      c.wide-depth.ensures.0 c.activation-top.ensures
      c.if-top-ne0.false c.wide.ensures.0 c.if-k-wide.true),
  left-stuck _ _ _
      c.requires.0,
)

pub end_run-requires : goal.end_run-requires
end_run-requires c = (
  c.requires.1.few,
  omega
      (arith, c.if-e-ge16.false),
  (
    c.requires.0.bytes,
    c.requires.0.numbers,
  ),
)

pub returns-then-depth-eq1 : goal.returns-then-depth-eq1
unfolding typed_of
returns-then-depth-eq1 c = (
  λ P W T. run_ends _ _ _ _ _
      (last-ends P W c.args.bytes.now
      c.args.numbers.now _ _
      (T ∙ ap typed_of (c.in-Some.is ∙ ap Some c.if-not-fits.false))
      c.if-e-ge16.false
      c.requires.1
      c.wide-depth.ensures.0
      c.activation-top.ensures c.if-top-ne0.false
      c.wide.ensures.0 c.if-k-wide.false c.if-depth-eq1.true)
      c.end_run.ensures,
  run-left _ _ _ _ _ _ _ c.end_run.ensures
      c.requires.0,
)

pub go_back-requires : goal.go_back-requires
go_back-requires c = (
  c.requires.0,
  returning _ _
      c.requires.1
      c.requires.2
      c.wide-depth.ensures.0 c.if-depth-eq1.false
      c.wide.ensures.0 c.if-k-wide.false,
  c.if-e-ge16.false,
)

pub returns : goal.returns
unfolding typed_of
returns c = (
  λ P W T. comes-by _ _ _ _ _
      (back-ends P W c.args.bytes.now
      c.args.numbers.now _ _
      (T ∙ ap typed_of (c.in-Some.is ∙ ap Some c.if-not-fits.false))
      c.if-e-ge16.false
      c.requires.1
      c.wide-depth.ensures.0
      c.activation-top.ensures
      c.if-top-ne0.false c.wide.ensures.0
      c.if-k-wide.false c.if-depth-eq1.false) c.go_back.ensures.0,
  c.go_back.ensures.1,
)
