-- `begin::put_integer`: where there is such a register.
use mir.Syntax.{w64}
use mir.Facts.{to_z-of_z}
use Rattle.begin.proofs.Stores.{integer-put, integer-out}
use borrow.Author.Rules.{rules}
use Rattle.begin.proofs.put_integer.Goals as goal

pub returns-then-i-lt-REGISTERS : goal.returns-then-i-lt-REGISTERS
returns-then-i-lt-REGISTERS c =
    integer-put _ _ _ _ _ c.if-i-lt-REGISTERS.true (to_z-of_z {w = w64} (search rules))

pub returns-else-i-lt-REGISTERS : goal.returns-else-i-lt-REGISTERS
returns-else-i-lt-REGISTERS c =
    integer-out _ _ _ _ c.if-i-lt-REGISTERS.false
