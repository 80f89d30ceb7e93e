-- `checker::report::report_accepted`: four pieces, one after the other, where they fit.
use Rattle.std.specs.Prelude.{Ok}
use Prim.Native.Nat.{ℕ, ◌+◌}
use Rattle.checker.proofs.Puts.{told-short, told-written, accepted-length, accepted-put}
use Rattle.checker.specs.Reports.{answer}
use Rattle.layout.specs.Records.{records}
use Rattle.program.specs.Program.{program}
use Rattle.writer.specs.Text.{text}
use lib.ListN.{length}
use mathlib.Core.Path.{◌≡◌, refl, sym, ap, ◌∙◌}
use native.Mathlib.Nat.{zero-add}
use native.Mathlib.Omega.{arith}
use Rattle.checker.proofs.report.report_accepted.Goals as goal

pub returns-then-out-total : goal.returns-then-out-total
returns-then-out-total c =
    let l = accepted-length (program (records c.args.image.now)) c.args.n in
    told-short _ _ _ (omega (arith, l, c.digits_of-size.ensures.0, c.lines_length.ensures.0)) c.if-out-total.true

pub returns : goal.returns
unfolding text
returns c =
    let P = program (records c.args.image.now) in
    let l = accepted-length P c.args.n in
    let e : c.lines_length.result + 9 + c.digits_of-size.result + 1
    ≡ length (answer P (Ok c.args.n)) = omega
    (arith, l, c.digits_of-size.ensures.0, c.lines_length.ensures.0) in
    told-written _ _ e c.if-out-total.false
    (accepted-put P c.args.n (omega (arith, e, c.if-out-total.false))
    (record { writes = c.put_lines-at.ensures.1; ends = c.put_lines-at.ensures.0 ∙ sym (zero-add _) })
    (record { writes = c.put_bytes.ensures; ends = refl })
    (record {
      writes = c.put_number.ensures;
      ends = ap (λ (m : ℕ). c.put_lines-at.result + 9 + m)
          c.digits_of-size.ensures.0;
    }) (record { writes = c.put_byte.ensures; ends = refl }))
