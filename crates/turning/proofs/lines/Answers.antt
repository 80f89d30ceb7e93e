use native.Mathlib.Omega.{arith}
use mathlib.Core.List.{[]}
use mathlib.Core.Path.{◌∙◌}
use Rattle.turning.proofs.Locating.{counts-as}
use Rattle.turning.proofs.lines.Goals as goal

pub returns-then-count-lt-INSTRUCTIONS : goal.returns-then-count-lt-INSTRUCTIONS
returns-then-count-lt-INSTRUCTIONS c =
    let e = c.wide-count.ensures.0 ∙ counts-as [] _ _ (c.count_at.ensures []) in
    let l = c.if-count-lt-INSTRUCTIONS.true in
    (omega (arith, e, l), omega (arith, l))

pub returns-else-count-lt-INSTRUCTIONS : goal.returns-else-count-lt-INSTRUCTIONS
returns-else-count-lt-INSTRUCTIONS c =
    let e = c.wide-count.ensures.0 ∙ counts-as [] _ _ (c.count_at.ensures []) in
    let l = c.if-count-lt-INSTRUCTIONS.false in
    (omega (arith, e, l), omega arith)
