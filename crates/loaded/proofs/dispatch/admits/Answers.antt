-- `loaded::dispatch::admits`: test by test.
use Rattle.loaded.proofs.Dispatching.{above, other-signature, other-return, other-kind, by-mark}
use Rattle.loaded.proofs.dispatch.admits.Goals as goal

pub returns-then-level : goal.returns-then-level
returns-then-level c = above c.args.image.now c.args.table.now
    c.args.own c.args.p _ c.level.ensures c.level-2.ensures
    c.if-level.true

pub returns-then-not-same_ownerships : goal.returns-then-not-same_ownerships
returns-then-not-same_ownerships c = other-signature c.args.image.now c.args.table.now
    c.args.own c.args.p _
    c.level.ensures c.level-2.ensures c.if-level.false c.same_ownerships.ensures
    (c.if-not-same_ownerships.true)

pub returns-then-gives-asked : goal.returns-then-gives-asked
returns-then-gives-asked c = other-return c.args.image.now
    c.args.table.now
    c.args.own
    c.args.p _ c.level.ensures
    c.level-2.ensures c.if-level.false c.same_ownerships.ensures
    (c.if-not-same_ownerships.false) c.returns-gives.ensures c.byte-asked.ensures c.if-gives-asked.true

pub returns-then-not-is_within : goal.returns-then-not-is_within
returns-then-not-is_within c = other-kind c.args.image.now
    c.args.table.now
    c.args.own
    c.args.p _
    c.level.ensures c.level-2.ensures
    c.if-level.false c.same_ownerships.ensures
    (c.if-not-same_ownerships.false) c.returns-gives.ensures c.byte-asked.ensures
    c.if-gives-asked.false c.is_within.ensures (c.if-not-is_within.true)

pub returns : goal.returns
returns c = by-mark c.args.image.now
    c.args.table.now
    c.args.own
    c.args.p _
    c.level.ensures
    c.level-2.ensures
    c.if-level.false c.same_ownerships.ensures
    (c.if-not-same_ownerships.false) c.returns-gives.ensures
    c.byte-asked.ensures c.if-gives-asked.false c.is_within.ensures
    (c.if-not-is_within.false) c.mark.ensures c.byte.ensures
