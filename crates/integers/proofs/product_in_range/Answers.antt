-- `integers::product_in_range`: of narrow numbers always; else by the sizes and the greatest size of a product.
use mathlib.Core.Path.{sym, ◌∙◌}
use mir.Facts.{to_z-of_z}
use Rattle.integers.proofs.Ranges.{product-in}
use Rattle.integers.proofs.product_in_range.Goals as goal

pub returns : goal.returns
returns c =
    c.product_at_most.ensures
    ∙ rw (c.unsigned_abs.ensures.value, c.unsigned_abs-2.ensures.value, c.product_limit.ensures, to_z-of_z c.ranges.x, to_z-of_z c.ranges.y)
    (sym (product-in c.args.x c.args.y))
