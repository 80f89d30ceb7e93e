-- `moves::write_moved`: by the two tests of question 17.
use Rattle.moves.proofs.Parts.{says-long, says-short, says-written}
use Rattle.moves.proofs.write_moved.Goals as goal

pub returns-then-n-gt-IMAGE : goal.returns-then-n-gt-IMAGE
returns-then-n-gt-IMAGE c =
    says-long _ _ _ _ c.if-n-gt-IMAGE.true

pub returns-then-out-n : goal.returns-then-out-n
returns-then-out-n c =
    says-short _ _ _ _ c.if-out-n.true

pub returns : goal.returns
returns c =
    says-written _ _ _ _ c.if-n-gt-IMAGE.false c.if-out-n.false c.put_records.ensures
