-- `program::lookup::level`: by the record behind the VERSION.
use native.Mathlib.Omega.{arith}
use mathlib.Core.Path.{sym}
use Rattle.program.proofs.Lookups.{level-outside, level-zero, level-short, level-stated, level-unstated}
use Rattle.layout.proofs.Walk.{size_room}
use Rattle.program.proofs.lookup.level.Goals as goal

pub returns-then-image-v : goal.returns-then-image-v
returns-then-image-v c =
    (sym (level-outside _ _ c.if-image-v.true), omega arith)

pub overflow_add-p : goal.overflow_add-p
overflow_add-p c =
    omega (arith, c.size_at.ensures, size_room c.args.image.now c.args.v (omega (arith, c.if-image-v.false)))

pub overflow_add-p-2 : goal.overflow_add-p-2
overflow_add-p-2 c =
    omega (arith, c.size_at.ensures, size_room c.args.image.now c.args.v (omega (arith, c.if-image-v.false)))

pub returns-then-stated-eq0 : goal.returns-then-stated-eq0
returns-then-stated-eq0 c =
    (sym (level-zero _ _ c.size_at.ensures c.byte-stated.ensures.0 c.if-stated-eq0.true), omega arith)

pub returns-then-size_at-le4 : goal.returns-then-size_at-le4
returns-then-size_at-le4 c =
    (sym (level-short _ _ c.size_at.ensures c.size_at-2.ensures c.if-size_at-le4.true), omega arith)

pub returns-then-kind_at-eq-LEVEL : goal.returns-then-kind_at-eq-LEVEL
returns-then-kind_at-eq-LEVEL c =
    (sym (level-stated _ _ c.size_at.ensures c.kind_at.ensures c.size_at-2.ensures c.if-size_at-le4.false c.byte-stated.ensures.0 c.if-kind_at-eq-LEVEL.true), c.byte-stated.ensures.1)

pub returns-else-kind_at-eq-LEVEL : goal.returns-else-kind_at-eq-LEVEL
returns-else-kind_at-eq-LEVEL c =
    (sym (level-unstated _ _ c.size_at.ensures c.kind_at.ensures c.if-kind_at-eq-LEVEL.false), omega arith)
