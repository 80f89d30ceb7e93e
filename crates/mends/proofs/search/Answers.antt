use native.Mathlib.Omega.{arith}
use lib.ListN.{length}
use mathlib.Core.Path.{ap, ◌∙◌}
use Prim.Native.Nat.{◌+◌}
use Rattle.mends.proofs.Parts.{search-first, search-whole, search-types, search-broken, search-past, search-nowhere, search-other, search-owned, search-hit, search-next, owned-as, failing-as, refused-short}
use Rattle.mends.proofs.search.Goals as goal

pub loop-p-init : goal.loop-p-init
loop-p-init c =
    search-first _

pub shape_of-image-then-n-eq0 : goal.shape_of-image-then-n-eq0
shape_of-image-then-n-eq0 c =
    ap length c.loop-p.invariant.same

pub returns-then-n-eq0 : goal.returns-then-n-eq0
returns-then-n-eq0 c =
    search-nowhere c.loop-p.invariant (search-broken c.loop-p.invariant c.size_at-n.ensures c.if-n-eq0.true)

pub overflow_add-p : goal.overflow_add-p
overflow_add-p c =
    omega (arith, refused-short c.requires.refusal, c.loop-p-test.true, ap length c.loop-p.invariant.same)

pub place_in-requires : goal.place_in-requires
place_in-requires c =
    let m = search-whole c.loop-p.invariant c.loop-p-test.true c.size_at-n.ensures c.if-n-eq0.false c.kind_at.ensures in
    record {
      failing = failing-as c.loop-p.invariant.same c.requires;
      owned = owned-as (c.loop-p.p + 10) c.registers-many.result c.loop-p.invariant.same (search-owned c.loop-p.invariant m.0 m.1 c.if-kind_at-eq-VERSION.true (search-types c.loop-p.invariant c.registers-many.ensures.0));
    }

pub shape_of-image-in-Some : goal.shape_of-image-in-Some
shape_of-image-in-Some c =
    ap length (c.place_in.ensures.1 ∙ c.loop-p.invariant.same)

pub returns-in-Some : goal.returns-in-Some
returns-in-Some c =
    let m = search-whole c.loop-p.invariant c.loop-p-test.true c.size_at-n.ensures c.if-n-eq0.false c.kind_at.ensures in
    search-hit c.loop-p.invariant m.0 m.1 c.if-kind_at-eq-VERSION.true (search-types c.loop-p.invariant c.registers-many.ensures.0) c.place_in.ensures.0 c.in-Some.is c.place_in.ensures.1

pub overflow_add-p-then-kind_at-eq-VERSION : goal.overflow_add-p-then-kind_at-eq-VERSION
overflow_add-p-then-kind_at-eq-VERSION c =
    let m = search-whole c.loop-p.invariant c.loop-p-test.true c.size_at-n.ensures c.if-n-eq0.false c.kind_at.ensures in
    omega (arith, refused-short c.requires.refusal, m.1)

pub loop-p-smaller-then-kind_at-eq-VERSION : goal.loop-p-smaller-then-kind_at-eq-VERSION
loop-p-smaller-then-kind_at-eq-VERSION c =
    let m = search-whole c.loop-p.invariant c.loop-p-test.true c.size_at-n.ensures c.if-n-eq0.false c.kind_at.ensures in
    omega (arith, m.1, m.0.inside, c.if-n-eq0.false)

pub loop-p-preserved-then-kind_at-eq-VERSION : goal.loop-p-preserved-then-kind_at-eq-VERSION
loop-p-preserved-then-kind_at-eq-VERSION c =
    let m = search-whole c.loop-p.invariant c.loop-p-test.true c.size_at-n.ensures c.if-n-eq0.false c.kind_at.ensures in
    search-next c.loop-p.invariant m.0 m.1 c.if-kind_at-eq-VERSION.true (search-types c.loop-p.invariant c.registers-many.ensures.0) c.place_in.ensures.0 c.in_default.is c.place_in.ensures.1

pub overflow_add-p-else-kind_at-eq-VERSION : goal.overflow_add-p-else-kind_at-eq-VERSION
overflow_add-p-else-kind_at-eq-VERSION c =
    let m = search-whole c.loop-p.invariant c.loop-p-test.true c.size_at-n.ensures c.if-n-eq0.false c.kind_at.ensures in
    omega (arith, refused-short c.requires.refusal, m.1)

pub loop-p-smaller : goal.loop-p-smaller
loop-p-smaller c =
    let m = search-whole c.loop-p.invariant c.loop-p-test.true c.size_at-n.ensures c.if-n-eq0.false c.kind_at.ensures in
    omega (arith, m.1, m.0.inside, c.if-n-eq0.false)

pub loop-p-preserved : goal.loop-p-preserved
loop-p-preserved c =
    let m = search-whole c.loop-p.invariant c.loop-p-test.true c.size_at-n.ensures c.if-n-eq0.false c.kind_at.ensures in
    search-other c.loop-p.invariant m.0 m.1 c.if-kind_at-eq-VERSION.false

pub shape_of-image : goal.shape_of-image
shape_of-image c =
    ap length c.loop-p.invariant.same

pub returns : goal.returns
returns c =
    search-nowhere c.loop-p.invariant (search-past c.loop-p.invariant c.loop-p-test.false)
