-- `program::question14::Ends::none_before`: what is left of a mask by 2 to the n is its n lowest digits.
use Prim.Native.Nat.{ℕ}
use Rattle.program.proofs.Ends.{at_place, ends-first}
use Rattle.program.specs.Skips.{PLACES}
use lib.Dec.{eqb}
use lib.Pow.{pow_mono}
use mathlib.Core.Path.{sym, ap, ◌∙◌}
use native.Mathlib.Nat.{lt_of_lt_of_le, mod-eq_of_lt}
use Rattle.program.proofs.question14.Ends.none_before.Goals as goal

pub returns-then-n-lt-PLACES : goal.returns-then-n-lt-PLACES
returns-then-n-lt-PLACES c =
    rw (at_place c.if-n-lt-PLACES.true) (sym (ends-first PLACES _ _ c.args.self.kept))

pub returns-else-n-lt-PLACES : goal.returns-else-n-lt-PLACES
returns-else-n-lt-PLACES c =
    let less = lt_of_lt_of_le c.args.self.kept (pow_mono c.if-n-lt-PLACES.false) in
    sym (ends-first PLACES _ _ c.args.self.kept ∙ ap (λ (x : ℕ). eqb x 0) (mod-eq_of_lt less))
