-- `bounds::order::list`: those with a bound, then the rest.
use Rattle.bounds.proofs.Known.{stands-none}
use Rattle.bounds.proofs.Reporting.{rest-fits, report-whole}
use Prim.Native.Nat.{ℕ}
use lib.ListN.{replicate, length-replicate, get_or-replicate}
use Rattle.bounds.proofs.order.list.Goals as goal

pub list_bounded-row-requires : goal.list_bounded-row-requires
list_bounded-row-requires c =
    (stands-none (replicate 128 0) (length-replicate {A = ℕ} 128 0) (λ k h. get_or-replicate {A = ℕ} 128 k 0 0 h), c.requires)

pub list_rest-requires : goal.list_rest-requires
list_rest-requires c =
    rest-fits _ _ c.list_bounded-row.ensures.1 c.requires c.list_bounded-row.ensures.0

pub returns : goal.returns
returns c =
    report-whole _ _ c.list_bounded-row.ensures.1 _ _ c.list_bounded-row.ensures.0 c.list_bounded-row.ensures.2 c.list_bounded-row.ensures.3 c.list_rest.ensures
