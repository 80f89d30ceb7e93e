-- `trails::back`: 20 where none lies behind, else the start and one step less.
use borrow.Author.Rules.{rules}
use Rattle.trails.proofs.Returning.{back_none, back-past, back-taken}
use Rattle.trails.proofs.back.Goals as goal

pub returns-then-past-ne0 : goal.returns-then-past-ne0
returns-then-past-ne0 c = back-past _ _ _ _ _ _ _ c.if-past-ne0.true

pub returns-then-steps-eq0 : goal.returns-then-steps-eq0
returns-then-steps-eq0 c = back_none _ _ _ _ _ _ _ c.if-past-ne0.false c.if-steps-eq0.true

pub returns : goal.returns
returns c = back-taken _ _ _ _ _ _ _ _ _ _ c.if-past-ne0.false c.if-steps-eq0.false (search rules) c.resume.ensures
