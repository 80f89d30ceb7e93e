-- `machine::Frame::with_register`: a place inside is put to the value.
use Rattle.machine.proofs.Places.{length-mapped, write-inside, write-outside}
use Rattle.machine.specs.States.{with_register}
use borrow.Author.Rules.{rules}
use Rattle.machine.proofs.Frame.with_register.Goals as goal

pub returns-then-i-lt-REGISTERS : goal.returns-then-i-lt-REGISTERS
unfolding with_register
returns-then-i-lt-REGISTERS c = let h = c.from-i.ensures in rw h (write-inside _ _ _ (search (rules, length-mapped)) _ _ _ (rw h at c.if-i-lt-REGISTERS.true))

pub returns-else-i-lt-REGISTERS : goal.returns-else-i-lt-REGISTERS
unfolding with_register
returns-else-i-lt-REGISTERS c = let h = c.from-i.ensures in write-outside _ _ _ (search (rules, length-mapped)) _ _ _ (rw h at c.if-i-lt-REGISTERS.false)
