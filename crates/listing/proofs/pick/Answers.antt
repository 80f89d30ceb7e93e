use Rattle.listing.proofs.Gathering.{pick_at, pick-none}
use Rattle.store.specs.Store.{◌#◌}
use mathlib.Core.Path.{sym, ap, ◌∙◌}
use mir.Facts.{to_z-of_z}
use native.Mathlib.Omega.{arith}
use Prim.Native.Nat.{◌+◌, ◌*◌}
use borrow.Author.Rules.{rules}
use mir.Syntax.{w64}
use Rattle.listing.proofs.pick.Goals as goal

pub returns-then-rs-j : goal.returns-then-rs-j
returns-then-rs-j c =
    sym (pick-none _ _ _ _ c.if-rs-j.true)

pub overflow_add-result : goal.overflow_add-result
overflow_add-result c =
    omega (arith, c.wide.ensures.1)

pub offset_bounds-numbers-k : goal.offset_bounds-numbers-k
offset_bounds-numbers-k c =
    omega (arith, c.wide.ensures.1)

pub bounds-numbers-k : goal.bounds-numbers-k
bounds-numbers-k c =
    omega (arith, c.wide.ensures.1)

pub returns : goal.returns
returns c =
    to_z-of_z {w = w64} (search rules) ∙ ap (λ i. c.args.numbers.now # (32 * c.args.k + i))
    c.wide.ensures.0 ∙ sym (pick_at c.args.numbers.now _ _ _ c.if-rs-j.false)
