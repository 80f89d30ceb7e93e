-- `checker::report::put_counts`: four pieces, one after the other.
use Rattle.checker.proofs.Puts.{counts-put}
use Rattle.checker.proofs.Texts.{length-count, counts-known, counts-none}
use Rattle.writer.proofs.Placed.{placed-none, placed-length}
use lib.ListN.{length}
use mathlib.Core.Path.{◌≡◌, sym, ap, ◌∙◌}
use native.Mathlib.Omega.{arith}
use Rattle.checker.proofs.report.put_counts.Goals as goal

pub put_count-second-requires : goal.put_count-second-requires
put_count-second-requires c =
    let k = counts-known c.args.counts c.in-Some.is in
    rw length-count (omega (arith, c.requires, k))

pub put_count-third-requires : goal.put_count-third-requires
put_count-third-requires c =
    let k = counts-known c.args.counts c.in-Some.is in
    let l : length c.put_count-second.new.out ≡ length c.args.out.now = ap length c.put_count-second.ensures.1 ∙ placed-length _ _ _ in
    rw length-count (omega (arith, c.requires, k, l, rw length-count at c.put_count-second.ensures.0))

pub put_count-fourth-requires : goal.put_count-fourth-requires
put_count-fourth-requires c =
    let k = counts-known c.args.counts c.in-Some.is in
    let l : length c.put_count-second.new.out ≡ length c.args.out.now = ap length c.put_count-second.ensures.1 ∙ placed-length _ _ _ in
    let m : length c.put_count-third.new.out ≡ length c.put_count-second.new.out = ap length c.put_count-third.ensures.1 ∙ placed-length _ _ _ in
    rw length-count (omega (arith, c.requires, k, l, m, rw length-count at c.put_count-second.ensures.0, rw length-count at c.put_count-third.ensures.0))

pub put_count-requires : goal.put_count-requires
put_count-requires c =
    let k = counts-known c.args.counts c.in-Some.is in
    let l : length c.put_count-second.new.out
    ≡ length c.args.out.now = ap length c.put_count-second.ensures.1 ∙ placed-length _ _ _ in
    let m : length c.put_count-third.new.out ≡ length c.put_count-second.new.out = ap length c.put_count-third.ensures.1 ∙ placed-length _ _ _ in
    let n : length c.put_count-fourth.new.out ≡ length c.put_count-third.new.out = ap length c.put_count-fourth.ensures.1 ∙ placed-length _ _ _ in
    rw length-count (omega (
      arith,
      c.requires,
      k,
      l,
      m,
      n,
      rw length-count at c.put_count-second.ensures.0,
      rw length-count at
          c.put_count-third.ensures.0,
      rw length-count at c.put_count-fourth.ensures.0,
    ))

pub returns-in-Some : goal.returns-in-Some
returns-in-Some c =
    let w = counts-put _ c.in-Some.is c.requires
    (record { writes = c.put_count-second.ensures.1; ends = c.put_count-second.ensures.0 })
    (record { writes = c.put_count-third.ensures.1; ends = c.put_count-third.ensures.0 })
    (record { writes = c.put_count-fourth.ensures.1; ends = c.put_count-fourth.ensures.0 }) (record { writes = c.put_count.ensures.1; ends = c.put_count.ensures.0 }) in
    (w.ends, w.writes)

pub returns-in-None : goal.returns-in-None
returns-in-None c =
    (omega (arith, ap length (counts-none c.args.counts c.in-None.is)), rw (counts-none _ c.in-None.is) (sym (placed-none _ _)))
