use mir.Syntax.{w64}
use mir.Facts.{to_z-of_z}
use mathlib.Core.Path.{sym, ◌∙◌}
use native.Mathlib.Omega.{arith}
use Rattle.store.proofs.Vectors.{inside, item-at}
use borrow.Author.Rules.{rules}
use Rattle.store.proofs.heap.item.Goals as goal

pub overflow_add-result-2 : goal.overflow_add-result-2
overflow_add-result-2 c =
    let q = inside _ _ _ _ c.requires.1 in omega (arith, q.1, c.requires.0)

pub offset_bounds-numbers-v : goal.offset_bounds-numbers-v
offset_bounds-numbers-v c =
    let q = inside _ _ _ _ c.requires.1 in omega (arith, q.1, c.requires.0)

pub bounds-numbers-v : goal.bounds-numbers-v
bounds-numbers-v c =
    let q = inside _ _ _ _ c.requires.1 in omega (arith, q.1, c.requires.0)

pub returns : goal.returns
returns c =
    to_z-of_z {w = w64} (search rules) ∙ sym (item-at _ _ _ _ c.requires.1)
