-- `words::say`: a text that fits, or none.
use Rattle.words.proofs.Saying.{fits, too_long}
use Rattle.words.proofs.say.Goals as goal

pub returns-then-out-size : goal.returns-then-out-size
returns-then-out-size c =
    too_long _ _ c.if-out-size.true

pub returns : goal.returns
returns c =
    fits _ _ _ c.if-out-size.false c.put_bytes.ensures
