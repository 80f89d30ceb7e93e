-- `abi::answers::ended`: by the byte of the status.
use Rattle.abi.proofs.Ends.{says-integer, says-vector, says_plain, says_last}
use mathlib.Core.Path.{◌∙◌}
use borrow.Author.Rules.{rules}
use Rattle.abi.proofs.answers.ended.Goals as goal

pub returns-then-status-eq-INTEGER : goal.returns-then-status-eq-INTEGER
returns-then-status-eq-INTEGER c =
    says-integer _ _ (search rules) c.if-status-eq-INTEGER.true

pub returns-then-status-eq-VECTOR : goal.returns-then-status-eq-VECTOR
returns-then-status-eq-VECTOR c =
    says-vector _ _ c.if-status-eq-VECTOR.true

pub returns-then-status-lt-PROMISES : goal.returns-then-status-lt-PROMISES
returns-then-status-lt-PROMISES c =
    c.plain.ensures ∙ says_plain _ _ c.if-status-eq-INTEGER.false c.if-status-eq-VECTOR.false c.if-status-lt-PROMISES.true

pub returns : goal.returns
returns c =
    c.plain-2.ensures ∙ says_last _ _ c.if-status-lt-PROMISES.false
