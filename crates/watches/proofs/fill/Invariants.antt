-- The first i records are written.
use Rattle.std.proofs.Common.{◌≡◌, ◌≤◌}
use Rattle.loaded.specs.Loaded.{program_in}
use Rattle.store.specs.Store.{state_in}
use Rattle.watches.proofs.Filling.{written}
use Rattle.watches.proofs.fill.Given as goal

abbrev pub invariant-loop-i : goal.invariant-loop-i
invariant-loop-i l = (l.rows ≡ written (program_in l.image l.table) (state_in l.bytes l.numbers) l.initial.rows l.i) × (l.i ≤ l.k)
