-- `abi::parts::put_items`: after j turns the first j items are in the buffer.
use mathlib.Core.Path.{◌≡◌}
use Prim.Native.Nat.{◌-◌, ◌≤◌}
use lib.ListN.{length, take}
use Rattle.machine.specs.States.{over}
use Rattle.abi.specs.Exits.{result_in}
use Rattle.abi.proofs.parts.put_items.Given as goal

abbrev pub invariant-loop-j : goal.invariant-loop-j
invariant-loop-j l = (l.j ≤ l.n) × (l.j ≤ 16) × (l.buffer ≡ over (take l.j (result_in l.numbers)) l.initial.buffer) × (length l.buffer ≡ length l.initial.buffer)
