use mir.Syntax.{w64}
use Rattle.store.proofs.Recounting.{of-byte-promise, of-byte-vector}
use Rattle.store.specs.Counts.{Byte}
use Rattle.store.specs.Store.{cell_in, value_of}
use borrow.Author.Tests.{ne_eqb}
use mathlib.Core.Path.{refl, ap}
use native.Mathlib.Omega.{arith}
use mir.Facts.{to_z-of_z}
use Rattle.machine.specs.declared.Value.{Value}
use borrow.Author.Rules.{rules}
use Rattle.store.proofs.cells.cell.Goals as goal

pub returns-in-1 : goal.returns-in-1
unfolding cell_in value_of Byte
returns-in-1 c =
    (rw c.in-1.is (ap Value.Integer (to_z-of_z {w = w64} (search rules))), omega arith)

pub returns-in-2 : goal.returns-in-2
unfolding cell_in value_of
returns-in-2 c =
    (rw c.in-2.is (ap Value.Vector c.small.ensures.0), of-byte-vector c.small.ensures.1)

pub returns-in-3 : goal.returns-in-3
unfolding cell_in value_of
returns-in-3 c =
    (rw c.in-3.is (ap Value.Promise c.small-in-3.ensures.0), of-byte-promise c.small-in-3.ensures.1)

pub returns-in_default : goal.returns-in_default
unfolding cell_in value_of Byte
returns-in_default c =
    (rw (ne_eqb _ _ c.in_default.in_default-own.rest.1, ne_eqb _ _ c.in_default.in_default-own.rest.0.1, ne_eqb _ _ c.in_default.in_default-own.rest.0.0.1) refl, omega arith)
