use native.Mathlib.Omega.{arith}
use Rattle.std.proofs.lemmas.Grind.{common_steps}
use Rattle.writer.proofs.Digits.{length-one, length-tens}
use Rattle.writer.proofs.digits_of.Goals as goal

pub returns : goal.returns
returns c = grind (arith, common_steps, length-one c.args.n, length-tens c.args.n)
