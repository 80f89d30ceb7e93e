-- The refusal of a call that begins, runs, changes or watches: the number of the question that says no, and an offset of 16 bits.
use Rattle.std.specs.Prelude.{ℕ, Result}
use Rattle.machine.specs.declared.Denial.{Denial}

-- by the question q at the offset p
abbrev pub denied : ℕ → ℕ → Denial
denied q p = record { question = q; at = p }

-- what is asked is granted, or denied
abbrev pub Grant : Type 0
Grant = Result (Unit {0}) Denial
