use mir.Syntax.{w64}
use Rattle.store.proofs.Recounting.{puts-as, puts-integer, tagged}
use Rattle.store.specs.Store.{cell_in}
use mir.Facts.{to_z-of_z}
use borrow.Author.Rules.{rules}
use Rattle.store.proofs.cells.put_copy.Goals as goal

pub returns-then-t-eq1 : goal.returns-then-t-eq1
unfolding cell_in
returns-then-t-eq1 c =
    (puts-integer _ _ c.put_integer.ensures.0 c.if-t-eq1.true (to_z-of_z {w = w64} (search rules)), c.put_integer.ensures.1)

pub returns : goal.returns
unfolding cell_in
returns c =
    (puts-as (tagged _ _ _ _ c.if-t-eq1.false) c.put_place.ensures.0, c.put_place.ensures.1)
