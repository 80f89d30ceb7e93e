-- `abi::answers::searched`: by the search.
use Rattle.abi.specs.Answers.{search_numbers}
use Rattle.abi.proofs.answers.searched.Goals as goal

pub returns-in-Elsewhere : goal.returns-in-Elsewhere
unfolding search_numbers
returns-in-Elsewhere c =
    rw c.in-Elsewhere.is

pub returns-in-Looked : goal.returns-in-Looked
unfolding search_numbers
returns-in-Looked c =
    rw c.in-Looked.is
