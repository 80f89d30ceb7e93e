-- `checker::report::report_refused`: five pieces, one after the other, where they fit.
use Prim.Native.Nat.{ℕ, ◌+◌}
use Rattle.checker.proofs.Puts.{told-short, told-written, refusal-length, refusal-put}
use Rattle.checker.specs.Reports.{refusal}
use Rattle.writer.specs.Text.{text}
use lib.ListN.{length}
use mathlib.Core.Path.{◌≡◌, refl, ap}
use native.Mathlib.Omega.{arith}
use Rattle.checker.proofs.report.report_refused.Goals as goal

pub returns-then-out-total : goal.returns-then-out-total
returns-then-out-total c =
    let l = refusal-length c.args.why.question c.args.why.at in
    told-short _ _ _ (omega (arith, l, c.digits_of-size.ensures.0, c.digits_of-place.ensures.0)) c.if-out-total.true

pub returns : goal.returns
unfolding text
returns c =
    let l = refusal-length c.args.why.question
    c.args.why.at in
    let e : 8 + c.digits_of-size.result + 4 +
    c.digits_of-place.result + 1
    ≡ length (refusal c.args.why.question
    c.args.why.at) = omega (
      arith,
      l,
      c.digits_of-size.ensures.0,
      c.digits_of-place.ensures.0,
    ) in
    told-written _ _ e c.if-out-total.false
    (refusal-put c.args.why.question
    c.args.why.at
    (omega (arith, e, c.if-out-total.false))
    (record { writes = c.put_bytes.ensures; ends = refl })
    (record {
      writes = c.put_number.ensures;
      ends = ap (λ (m : ℕ). 8 + m)
          c.digits_of-size.ensures.0;
    }) (record { writes = c.put_bytes-2.ensures; ends = omega arith })
    (record {
      writes = c.put_number-2.ensures;
      ends = ap (λ (m : ℕ). 12 + c.digits_of-size.result + m)
          c.digits_of-place.ensures.0;
    }) (record { writes = c.put_byte.ensures; ends = refl }))
