-- `machine::Frame::with_name`: a place inside is put to the value.
use Rattle.machine.proofs.Places.{length-mapped, write-inside, write-outside}
use Rattle.machine.specs.States.{with_name}
use borrow.Author.Rules.{rules}
use Rattle.machine.proofs.Frame.with_name.Goals as goal

pub returns-then-i-lt-NAMES : goal.returns-then-i-lt-NAMES
unfolding with_name
returns-then-i-lt-NAMES c = let h = c.from-i.ensures in rw h (write-inside _ _ _ (search (rules, length-mapped)) _ _ _ (rw h at c.if-i-lt-NAMES.true))

pub returns-else-i-lt-NAMES : goal.returns-else-i-lt-NAMES
unfolding with_name
returns-else-i-lt-NAMES c = let h = c.from-i.ensures in write-outside _ _ _ (search (rules, length-mapped)) _ _ _ (rw h at c.if-i-lt-NAMES.false)
