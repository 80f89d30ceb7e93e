-- `begin::allowed`: 19, then 12 and 13.
use Rattle.begin.proofs.Answers.{above, not-given, too_short, entered}
use Rattle.begin.proofs.allowed.Goals as goal

pub returns-then-not-may_enter : goal.returns-then-not-may_enter
returns-then-not-may_enter c =
    above _ _ _ _ _ c.may_enter.ensures (c.if-not-may_enter.true)

pub returns-then-not-fits : goal.returns-then-not-fits
returns-then-not-fits c =
    not-given _ _ _ _ _ c.may_enter.ensures (c.if-not-may_enter.false) c.fits.ensures (c.if-not-fits.true)

pub returns-then-buffer-lt-ITEMS : goal.returns-then-buffer-lt-ITEMS
returns-then-buffer-lt-ITEMS c =
    too_short _ _ _ _ _ c.may_enter.ensures (c.if-not-may_enter.false) c.fits.ensures (c.if-not-fits.false) c.if-buffer-lt-ITEMS.true

pub returns : goal.returns
returns c =
    entered _ _ _ _ _ c.may_enter.ensures (c.if-not-may_enter.false) c.fits.ensures (c.if-not-fits.false) c.if-buffer-lt-ITEMS.false
