-- `watches::shown`: by the kind of value.
use borrow.Author.Rules.{rules}
use Rattle.watches.proofs.Records.{empty-shown, integer-shown, items_shown, mark-shown}
use Rattle.watches.proofs.shown.Goals as goal

pub returns-in-Empty : goal.returns-in-Empty
returns-in-Empty c =
    empty-shown _ _ _ c.in-Empty.is c.plain.ensures

pub returns-in-Integer : goal.returns-in-Integer
returns-in-Integer c =
    integer-shown _ _ _ c.in-Integer.is (search rules) c.plain-in-Integer.ensures

pub returns-in-Vector : goal.returns-in-Vector
returns-in-Vector c =
    items_shown _ _ _ c.in-Vector.is c.vector.ensures

pub returns-in-Promise : goal.returns-in-Promise
returns-in-Promise c =
    mark-shown _ _ _ c.in-Promise.is (c.mark.ensures _) c.plain-in-Promise.ensures
