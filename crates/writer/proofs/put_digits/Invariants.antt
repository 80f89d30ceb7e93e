-- `writer::put_digits`: the digits that are left, put before the next place, make the number whole.
use mathlib.Core.Path.{◌≡◌}
use Prim.Native.Nat.{◌+◌, ◌-◌, ◌≤◌}
use lib.ListN.{length}
use Rattle.writer.specs.Text.{decimal, digits, placed}
use Rattle.writer.proofs.put_digits.Given as goal

abbrev pub invariant-loop-place : goal.invariant-loop-place
invariant-loop-place l =
    (l.front ≤ l.n) × (l.at + 1 ≤ l.place) × (l.place ≤ length l.out) × (length (digits (l.place - l.at) l.front) ≡ l.place - l.at)
    × (placed l.out l.at (digits (l.place - l.at) l.front) ≡ placed l.initial.out l.at (decimal l.n))
