-- `checker::report::put_count`: two pieces, one after the other.
use Rattle.checker.proofs.Texts.{length-count}
use Rattle.writer.proofs.Placed.{placed-then}
use Rattle.writer.specs.Text.{text, decimal}
use mathlib.Core.List.{[], ◌∷◌}
use mathlib.Core.Path.{refl}
use native.Mathlib.Omega.{arith}
use Rattle.checker.proofs.report.put_count.Goals as goal

pub returns : goal.returns
unfolding text
returns c = (
  omega (arith, length-count c.args.n, c.digits_of-size.ensures.0),
  placed-then _ _ (32 ∷ []) (decimal c.args.n)
      c.put_byte.ensures refl c.put_number.ensures (omega (arith, c.requires, length-count c.args.n)),
)
