use Rattle.matching.proofs.Picking.{called-missing, called-clashes, called-fits, first_of}
use Rattle.matching.proofs.called.Goals as goal

pub returns-in_default : goal.returns-in_default
returns-in_default c =
    called-missing _ _ _ _ _ c.byte-f.ensures c.byte-w.ensures _ (c.version.ensures _)
    c.in_default.is

pub returns : goal.returns
returns c =
    called-fits _ _ _ _ _ c.byte-f.ensures
    c.byte-w.ensures _ (c.version.ensures _)
    c.in-Some.is _ c.matches.ensures _
    (first_of _ _ c.requires.1) c.in-Some-matches.is

pub returns-in_default-matches : goal.returns-in_default-matches
returns-in_default-matches c =
    called-clashes _ _ _ _ _ c.byte-f.ensures
    c.byte-w.ensures _ (c.version.ensures _)
    c.in-Some.is _ c.matches.ensures c.in_default-matches.is
