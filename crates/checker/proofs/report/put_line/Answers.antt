-- `checker::report::put_line`: five pieces, one after the other.
use Prim.Native.Nat.{ℕ, ◌+◌, ◌≤◌}
use Rattle.checker.proofs.Puts.{line-put}
use Rattle.checker.proofs.Texts.{line-length}
use Rattle.checker.specs.Reports.{counts_of, line_of, line_text}
use Rattle.writer.proofs.Placed.{placed-length}
use Rattle.writer.specs.Text.{text}
use lib.ListN.{length}
use mathlib.Core.Path.{◌≡◌, refl, ap, ◌∙◌}
use native.Mathlib.Omega.{arith}
use Rattle.checker.proofs.report.put_line.Goals as goal

pub put_counts-end-requires : goal.put_counts-end-requires
unfolding line_of
put_counts-end-requires c =
    let l = c.args.line in
    let e : length c.put_number-2.new.out ≡ length c.args.out.now = (ap length c.put_number-2.ensures ∙ placed-length _ _ _)
    ∙ (ap length c.put_byte.ensures ∙ placed-length _ _ _) ∙ (ap length c.put_number.ensures ∙ placed-length _ _ _) in
    let n = line-length l.function l.version (counts_of l.counts) in
    let h : c.args.at + length (line_text l.function l.version (counts_of l.counts)) ≤ length c.args.out.now =
    c.requires in
    omega (arith, h, n, e, c.digits_of.ensures.0, c.digits_of-2.ensures.0)

pub overflow_add-result : goal.overflow_add-result
unfolding line_of
overflow_add-result c =
    let l = c.args.line in
    let n = line-length l.function l.version (counts_of l.counts) in
    let h : c.args.at + length (line_text l.function l.version (counts_of l.counts)) ≤ length
    c.args.out.now =
    c.requires in
    omega (
      arith,
      h,
      n,
      c.digits_of.ensures.0,
      c.digits_of-2.ensures.0,
      c.put_counts-end.ensures.0,
      c.well_formed,
    )

pub returns : goal.returns
unfolding line_of text
returns c =
    let l = c.args.line in
    let w = line-put l.function l.version (counts_of l.counts) c.requires
    (record {
      writes = c.put_number.ensures;
      ends = ap
          (λ (n : ℕ). c.args.at + n)
          c.digits_of.ensures.0;
    }) (record { writes = c.put_byte.ensures; ends = refl })
    (record {
      writes = c.put_number-2.ensures;
      ends = ap
          (λ (n : ℕ). c.args.at +
          c.digits_of.result + 1 + n) c.digits_of-2.ensures.0;
    })
    (record { writes = c.put_counts-end.ensures.1; ends = c.put_counts-end.ensures.0 }) (record { writes = c.put_byte-2.ensures; ends = refl }) in
    (w.ends, w.writes)
