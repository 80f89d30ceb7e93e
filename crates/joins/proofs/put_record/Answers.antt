-- `joins::put_record`: the record byte by byte, and then its function, where it has one.
use native.Mathlib.Omega.{arith}
use Prim.Native.Nat.{◌+◌, ◌-◌}
use mathlib.Core.Path.{refl, sym, ap, ◌∙◌}
use Rattle.layout.proofs.Walk.{size_in}
use Rattle.checker.proofs.Puts.{put-length}
use Rattle.joins.specs.Parts.{function_place}
use Rattle.joins.proofs.Parts.{plain-put, raised-put, function-inside, function-low}
use Rattle.joins.proofs.put_record.Goals as goal

pub overflow_add-p : goal.overflow_add-p
overflow_add-p c =
    omega (arith, size_in _ _ c.size_at-n.ensures (λ z. c.requires.stands.whole (sym c.size_at-n.ensures ∙ z)))

pub slice_bounds-put_bytes-end : goal.slice_bounds-put_bytes-end
slice_bounds-put_bytes-end c =
    omega (arith, size_in _ _ c.size_at-n.ensures (λ z. c.requires.stands.whole (sym c.size_at-n.ensures ∙ z)))

pub overflow_add-result : goal.overflow_add-result
overflow_add-result c =
    omega (arith, c.requires.p_in_bounds, c.size_at-n.ensures)

pub returns-then-i-eq0 : goal.returns-then-i-eq0
returns-then-i-eq0 c =
    let g = c.function_place-i.ensures ∙ ap function_place c.kind_at.ensures in
    plain-put c.requires.stands c.args.out.now c.args.at c.size_at-n.result (c.args.p + c.size_at-n.result - c.args.p) c.function_place-i.result c.size_at-n.ensures (omega arith) c.put_bytes.ensures g c.if-i-eq0.true

pub overflow_add-out : goal.overflow_add-out
overflow_add-out c =
    let g = c.function_place-i.ensures ∙ ap function_place c.kind_at.ensures in
    omega (arith, function-inside c.requires.stands c.function_place-i.result g c.if-i-eq0.false, c.requires.p_in_bounds)

pub bounds-out-at : goal.bounds-out-at
bounds-out-at c =
    let g = c.function_place-i.ensures ∙ ap function_place c.kind_at.ensures in
    omega (arith, function-inside c.requires.stands c.function_place-i.result g c.if-i-eq0.false, c.requires.p_in_bounds, put-length (record { writes = c.put_bytes.ensures; ends = refl }))

pub overflow_add-out-2 : goal.overflow_add-out-2
overflow_add-out-2 c =
    let g = c.function_place-i.ensures ∙ ap function_place c.kind_at.ensures in
    omega (arith, function-low c.requires.stands c.function_place-i.result g c.if-i-eq0.false c.args.out.now c.args.at c.size_at-n.result (c.args.p + c.size_at-n.result - c.args.p) c.size_at-n.ensures (omega arith) c.put_bytes.ensures c.requires.p_in_bounds)

pub overflow_add-out-3 : goal.overflow_add-out-3
overflow_add-out-3 c =
    let g = c.function_place-i.ensures ∙ ap function_place c.kind_at.ensures in
    omega (arith, function-inside c.requires.stands c.function_place-i.result g c.if-i-eq0.false, c.requires.p_in_bounds)

pub bounds-out-at-2 : goal.bounds-out-at-2
bounds-out-at-2 c =
    let g = c.function_place-i.ensures ∙ ap function_place c.kind_at.ensures in
    omega (arith, function-inside c.requires.stands c.function_place-i.result g c.if-i-eq0.false, c.requires.p_in_bounds, put-length (record { writes = c.put_bytes.ensures; ends = refl }))

pub overflow_add-result-2 : goal.overflow_add-result-2
overflow_add-result-2 c =
    omega (arith, c.requires.p_in_bounds, c.size_at-n.ensures)

pub returns : goal.returns
returns c =
    let g = c.function_place-i.ensures ∙ ap function_place c.kind_at.ensures in
    raised-put c.requires.stands c.function_place-i.result g c.if-i-eq0.false c.args.out.now c.args.at c.size_at-n.result (c.args.p + c.size_at-n.result - c.args.p) c.size_at-n.ensures (omega arith) c.put_bytes.ensures c.requires.p_in_bounds refl
