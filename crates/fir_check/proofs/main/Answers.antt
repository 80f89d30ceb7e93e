-- The image lies within its room, and the written text within the buffer.
use Rattle.std.proofs.Common.{◌≤◌, length, sym, ap, ◌∙◌}
use lib.Seq.{length-take-le}
use Rattle.writer.proofs.Placed.{placed-length}
use Rattle.checker.proofs.Puts.{written-fits}
use Rattle.fir_check.specs.Inputs.{Fits}
use Rattle.fir_check.proofs.main.Goals as goal

pub slice_bounds-image-end : goal.slice_bounds-image-end
unfolding Fits
slice_bounds-image-end c = c.in-Whole.ensures.fits

pub slice_bounds-report-end : goal.slice_bounds-report-end
unfolding Fits
slice_bounds-report-end c = sym (length-take-le _ _ c.in-Whole.ensures.fits)

pub slice_bounds-text-end : goal.slice_bounds-text-end
slice_bounds-text-end c =
    let w = written-fits _ _ _ (sym c.report.ensures.says ∙ c.in-Some.is) in
    rw (ap length c.report.ensures.writes ∙ placed-length _ _ _) w

pub slice_bounds-write_all-end-in-Some : goal.slice_bounds-write_all-end-in-Some
slice_bounds-write_all-end-in-Some c =
    let w = written-fits _ _ _ (sym c.report.ensures.says ∙ c.in-Some.is) in
    let h : c.in-Some.size ≤ length c.report.new.out = rw (ap length c.report.ensures.writes ∙ placed-length _ _ _) w in
    sym (length-take-le _ _ h)
