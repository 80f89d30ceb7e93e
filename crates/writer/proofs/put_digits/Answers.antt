-- `writer::put_digits`: the last of the digits that are left may be stored before those in front of it.
use mathlib.Core.Path.{◌≡◌, refl, sym, ap, ◌∙◌}
use mathlib.Core.List.{List, [], ◌∷◌}
use Prim.Native.Nat.{ℕ, suc, ◌+◌, ◌-◌, ◌/◌, ◌%◌, ◌<◌}
use native.Mathlib.Omega.{arith}
use lib.ListN.{length, set, length-set, length-append}
use Rattle.writer.specs.Text.{decimal, digits, placed}
use Rattle.writer.proofs.Digits.{decimal-some, decimal-whole, digits-last}
use Rattle.writer.proofs.Placed.{placed-last, placed-none}
use Rattle.writer.proofs.put_digits.Goals as goal

-- the k digits in front of the last one, and the last one stored
last_stored : (out : List ℕ) (at k place n d : ℕ) → place ≡ at + k → place < length out → length (digits (suc k) n) ≡ suc k → d ≡ 48 + n % 10
    → (length (digits k (n / 10)) ≡ k) × (placed (set out place d) at (digits k (n / 10)) ≡ placed out at (digits (suc k) n))
last_stored out at k place n d ends room whole digit =
    let front = digits k (n / 10) in
    let last = digits-last k n whole in
    let size : length front ≡ k = omega (arith, whole, ap length last, length-append front ((48 + n % 10) ∷ [])) in
    let there : place ≡ at + length front = omega arith in (
      size,
      rw (last, there, digit) (placed-last out at front (48 + n % 10) (omega arith)),
    )

-- the first place is one of the buffer's
pub bounds-out-at : goal.bounds-out-at
bounds-out-at c = omega (arith, decimal-some c.args.n)

pub loop-place-init : goal.loop-place-init
loop-place-init c =
    let some = decimal-some c.args.n in
    let all : c.args.at + c.args.size - c.args.at ≡ length (decimal c.args.n) = omega arith in
    rw (all, decimal-whole c.args.n) (omega arith, omega (arith, some), c.requires.size_in_bounds, refl, refl)

pub loop-place-preserved : goal.loop-place-preserved
loop-place-preserved c =
    let now = c.loop-place in
    let at = c.args.at in
    let k = now.place - 1 - at in
    let more : now.place - at ≡ suc k = omega arith in
    let digit : c.last_digit.result ≡ 48 + now.front % 10 = omega arith in
    let step = last_stored now.out at k (now.place - 1) now.front _ (omega arith) (omega arith) (rw more at now.invariant.3) digit in (
      omega arith,
      omega arith,
      rw length-set (omega arith),
      step.0,
      step.1 ∙ rw more at now.invariant.4,
    )

pub returns : goal.returns
unfolding digits
returns c =
    let now = c.loop-place in
    let at = c.args.at in
    let one : now.place - at ≡ 1 = omega arith in
    let digit : c.last_digit-2.result ≡ 48 + now.front % 10 = omega arith in
    let step = last_stored now.out at 0 at now.front _ (omega arith) (omega arith) (rw one at now.invariant.3) digit in
    sym (placed-none _ at) ∙ step.1 ∙ rw one at now.invariant.4
