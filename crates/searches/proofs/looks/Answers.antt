use Rattle.searches.proofs.Observed.{looks-not, looks-by}
use Rattle.matching.proofs.Picking.{first-long}
use Rattle.matching.proofs.Gathering.{length-kinds}
use native.Mathlib.Omega.{arith}
use mathlib.Core.Path.{refl}
use Rattle.searches.proofs.looks.Goals as goal

pub listed-requires : goal.listed-requires
listed-requires c =
    (omega arith, omega arith, c.most-n.ensures.1, refl)

pub code_of-code-requires : goal.code_of-code-requires
code_of-code-requires c =
    (c.requires, c.most-n.ensures.1, let l = c.listed.ensures.1 in omega (arith, l, c.most-n.ensures.1))

pub returns-then-code-ge-KINDLESS : goal.returns-then-code-ge-KINDLESS
returns-then-code-ge-KINDLESS c =
    looks-not _ _ _ _ _ _ c.byte.ensures c.most-n.ensures.0 _ c.listed.ensures.0 _ c.code_of-code.ensures.0 c.if-code-ge-KINDLESS.true

pub kinds_in-found-requires : goal.kinds_in-found-requires
kinds_in-found-requires c =
    c.most-n.ensures.1

pub searched-looked-requires : goal.searched-looked-requires
searched-looked-requires c =
    (c.most-n.ensures.1, first-long _ _ _ c.kinds_in-found.ensures (length-kinds _ _))

pub returns : goal.returns
returns c =
    looks-by _ _ _ _ _ _ c.byte.ensures c.most-n.ensures.0 _ c.listed.ensures.0 _
    c.code_of-code.ensures.0 _ c.if-code-ge-KINDLESS.false c.kinds_in-found.ensures c.searched-looked.ensures c.byte-2.ensures c.versions.ensures
