use Rattle.ending.proofs.Calls.{cell-back, ending-is, full_back, gone-back, integer-back, live_below}
use Rattle.ending.proofs.Answered.{comes_back, comes-stuck, left_back, left-stuck}
use native.Mathlib.Omega.{arith}
use mir.Facts.{to_z-of_z}
use borrow.Author.Rules.{rules}
use mir.Syntax.{w64}
use Rattle.ending.proofs.go_back.Goals as goal

pub overflow_sub-depth : goal.overflow_sub-depth
overflow_sub-depth c =
    omega (arith, c.wide-depth.ensures.0, c.requires.1.below)

pub activation-below-requires : goal.activation-below-requires
activation-below-requires c =
    omega (arith, c.wide-depth.ensures.0, c.requires.1.below, c.requires.1.low)

pub returns-then-k-j : goal.returns-then-k-j
returns-then-k-j c = (
  comes-stuck _ _ (gone-back c.args.bytes.now c.args.numbers.now _
      c.requires.1 c.wide-depth.ensures.0 c.activation-below.ensures
      c.wide-j.ensures.0 _ _ c.if-k-j.true),
  left-stuck _ _ _ c.requires.0,
)

pub returns-then-d-ge16 : goal.returns-then-d-ge16
returns-then-d-ge16 c = (
  comes-stuck _ _ (full_back c.args.bytes.now
      c.args.numbers.now _ c.requires.1
      c.wide-depth.ensures.0 c.activation-below.ensures c.wide-j.ensures.0 _ _
      c.if-k-j.false c.if-d-ge16.true),
  left-stuck _ _ _ c.requires.0,
)

pub close_call-requires : goal.close_call-requires
close_call-requires c = (
  c.requires.0,
  ending-is _
      c.args.numbers.now _
      c.requires.1,
)

pub overflow_mul-k : goal.overflow_mul-k
overflow_mul-k c =
    omega (arith, c.requires.1.few)

pub overflow_add-k : goal.overflow_add-k
overflow_add-k c =
    omega (
      arith,
      c.requires.1.few,
      c.requires.2,
    )

pub bounds-bytes-k : goal.bounds-bytes-k
bounds-bytes-k c =
    omega (
      arith,
      c.requires.1.few,
      c.requires.2,
    )

pub overflow_mul-z : goal.overflow_mul-z
overflow_mul-z c =
    omega (arith, c.requires.1.few)

pub overflow_add-z : goal.overflow_add-z
overflow_add-z c =
    omega (
      arith,
      c.requires.1.few,
      c.requires.2,
    )

pub bounds-numbers-k : goal.bounds-numbers-k
bounds-numbers-k c =
    omega (
      arith,
      c.requires.1.few,
      c.requires.2,
    )

pub assign_integer-requires : goal.assign_integer-requires
assign_integer-requires c = (
  c.close_call.ensures.1,
  live_below
      c.args.bytes.now
      c.args.numbers.now _
      c.requires.1 _
      c.close_call.ensures.0
      c.if-k-j.false,
)

pub returns-then-bytes-k-eq1 : goal.returns-then-bytes-k-eq1
returns-then-bytes-k-eq1 c = (
  comes_back _ _ _ _
      (integer-back c.args.bytes.now
      c.args.numbers.now _
      c.requires.1
      c.wide-depth.ensures.0
      c.activation-below.ensures
      c.wide-j.ensures.0 _ _
      c.if-k-j.false _
      c.close_call.ensures.0
      c.requires.2 _ _ _
      c.if-d-ge16.false c.if-bytes-k-eq1.true
      (to_z-of_z {w = w64} (search rules)) c.assign_integer.ensures.0),
  left_back _ _ _ c.assign_integer.ensures.1,
)

pub assign_cell-requires : goal.assign_cell-requires
assign_cell-requires c = (
  c.close_call.ensures.1,
  live_below
      c.args.bytes.now
      c.args.numbers.now _
      c.requires.1 _
      c.close_call.ensures.0 c.if-k-j.false,
  c.requires.1.few,
  omega
      (arith, c.requires.2),
)

pub returns : goal.returns
returns c = (
  comes_back _ _ _ _
      (cell-back c.args.bytes.now
      c.args.numbers.now _
      c.requires.1
      c.wide-depth.ensures.0
      c.activation-below.ensures
      c.wide-j.ensures.0 _ _
      c.if-k-j.false _
      c.close_call.ensures.0
      c.requires.2 _ _ _
      c.if-d-ge16.false c.assign_cell.ensures.0),
  left_back _ _ _ c.assign_cell.ensures.1,
)
