-- `pools::share`: nothing from itself, else the larger of what is reserved and had.
use native.Mathlib.Omega.{arith}
use Rattle.pools.proofs.Sums.{share-self, share-reserve, share-has}
use Rattle.pools.proofs.share.Goals as goal

pub returns-then-j-i : goal.returns-then-j-i
returns-then-j-i c = (share-self _ _ _ _ c.if-j-i.true, omega arith)

pub returns-then-has-reserve : goal.returns-then-has-reserve
returns-then-has-reserve c = (share-reserve _ _ _ _ c.if-j-i.false c.if-has-reserve.true, omega arith)

pub returns : goal.returns
returns c = (share-has _ _ _ _ c.if-j-i.false c.if-has-reserve.false, omega arith)
