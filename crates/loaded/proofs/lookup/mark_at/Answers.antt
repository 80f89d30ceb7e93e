-- `loaded::lookup::mark_at`: by the first field of its record.
use native.Mathlib.Omega.{arith}
use Rattle.loaded.specs.Loaded.{block_in}
use Rattle.loaded.proofs.Lookups.{quiet_by, reflective-by}
use Rattle.loaded.proofs.lookup.mark_at.Goals as goal

pub returns-then-byte-eq0 : goal.returns-then-byte-eq0
unfolding block_in
returns-then-byte-eq0 c = (λ s. quiet_by c.byte.ensures c.if-byte-eq0.true, omega arith)

pub returns-else-byte-eq0 : goal.returns-else-byte-eq0
unfolding block_in
returns-else-byte-eq0 c = (λ s. reflective-by c.byte.ensures c.if-byte-eq0.false, omega arith)
