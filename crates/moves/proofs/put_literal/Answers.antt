-- `moves::put_literal`: its head, its register and low bytes, and where it gets longer the sign, one behind the other.
use Prim.Native.Nat.{◌+◌, ◌-◌}
use native.Mathlib.Omega.{arith}
use Rattle.moves.proofs.Parts.{literal-put-narrow, literal-put-wide, literal-inside}
use Rattle.moves.proofs.put_literal.Goals as goal

pub slice_bounds-put_bytes-end : goal.slice_bounds-put_bytes-end
slice_bounds-put_bytes-end c =
    omega (arith, literal-inside c.requires.stands c.requires.p_value)

pub returns-in-Narrow : goal.returns-in-Narrow
returns-in-Narrow c =
    literal-put-narrow c.args.out.now c.args.image.now c.args.p c.args.at (c.args.p + 9 - (c.args.p + 4)) c.args.form
    c.other_form.result c.in-Narrow.is c.other_form.ensures c.requires.stands c.requires.p_value c.requires.p_in_bounds (omega arith) c.put_head.ensures
    c.put_bytes.ensures c.put_sign.ensures

pub returns-in-Wide : goal.returns-in-Wide
returns-in-Wide c =
    literal-put-wide c.args.out.now c.args.image.now c.args.p c.args.at (c.args.p + 9 - (c.args.p + 4)) c.args.form
    c.other_form.result c.in-Wide.is c.other_form.ensures c.requires.stands c.requires.p_value c.requires.p_in_bounds (omega arith) c.put_head.ensures
    c.put_bytes.ensures
