use mathlib.Core.Path.{◌≡◌}
use mathlib.Core.Bool.{Bool, true, false}
use Prim.Native.Nat.{ℕ, ◌≤◌}
use native.Mathlib.Omega.{arith}
use mir.Val.{bool_byte}
use Rattle.store.specs.Counts.{is_held, one}
use Rattle.store.proofs.InUse.{upto_all, upto-none, upto-on}
use Rattle.store.proofs.heap.in_use.Goals as goal

pub loop-v-init : goal.loop-v-init
loop-v-init c = upto-none _

-- a test as a number
told : (t : Bool) (h : ℕ) → h ≡ bool_byte t → (h ≡ one t) × (h ≤ 1)
told true h e = (e, omega (arith, e))
told false h e = (e, omega (arith, e))

pub loop-v-preserved : goal.loop-v-preserved
unfolding is_held
loop-v-preserved c =
    let held = told _ _ c.from-n.ensures in
    upto-on _ _ _ _ c.loop-v-test.true c.loop-v.invariant held.0 held.1

pub returns : goal.returns
returns c = upto_all _ _ _ c.loop-v-test.false c.loop-v.invariant
