-- `program::question7::instruction_exists`: one row for each kind.
use Rattle.layout.proofs.Bools.{and-true}
use Rattle.layout.specs.Records.{choose, every, body_at}
use Rattle.layout.specs.Tests.{all}
use Rattle.program.proofs.Existence.{all_same}
use Rattle.program.specs.Places.{instr_at}
use Rattle.program.specs.Program.{instr_by}
use Rattle.program.specs.Questions.{exists}
use borrow.Author.Tests.{ne_eqb}
use mathlib.Core.Path.{refl, sym, ◌∙◌}
use Rattle.program.proofs.question7.instruction_exists.Goals as goal

pub returns-in-17 : goal.returns-in-17
unfolding exists instr_at instr_by choose all every
returns-in-17 c =
    c.all_exist.ensures ∙ all_same {n = 2} (body_at c.args.tabled.image.now c.args.p) 0 1 c.registers-registers.ensures.0 refl ∙ simp (sym c.kind_at.ensures ∙ c.in-17.is, and-true)

pub returns-in-18 : goal.returns-in-18
unfolding exists instr_at instr_by choose all every
returns-in-18 c =
    c.all_exist-in-18.ensures ∙ all_same {n = 2} (body_at c.args.tabled.image.now c.args.p) 0 1 c.registers-registers.ensures.0 refl ∙ simp (sym c.kind_at.ensures ∙ c.in-18.is, and-true)

pub returns-in-19 : goal.returns-in-19
unfolding exists instr_at instr_by choose all every
returns-in-19 c =
    c.all_exist-in-19.ensures ∙ all_same {n = 2} (body_at c.args.tabled.image.now c.args.p) 0 1 c.registers-registers.ensures.0 refl ∙ simp (sym c.kind_at.ensures ∙ c.in-19.is, and-true)

pub returns-in-20 : goal.returns-in-20
unfolding instr_at
returns-in-20 c =
    c.vec_exists.ensures ∙ simp (sym c.kind_at.ensures ∙ c.in-20.is)

pub returns-in-21 : goal.returns-in-21
unfolding exists instr_at instr_by choose all every
returns-in-21 c =
    c.all_exist-in-21.ensures ∙ all_same {n = 2} (body_at c.args.tabled.image.now c.args.p) 0 1 c.registers-registers.ensures.0 refl ∙ simp (sym c.kind_at.ensures ∙ c.in-21.is, and-true)

pub returns-in-22 : goal.returns-in-22
unfolding exists instr_at instr_by choose all every
returns-in-22 c =
    c.all_exist-in-22.ensures ∙ all_same {n = 3} (body_at c.args.tabled.image.now c.args.p) 0 1 c.registers-registers.ensures.0 refl ∙ simp (sym c.kind_at.ensures ∙ c.in-22.is, and-true)

pub returns-in-23 : goal.returns-in-23
unfolding exists instr_at instr_by choose all every
returns-in-23 c =
    c.all_exist-in-23.ensures ∙ all_same {n = 3} (body_at c.args.tabled.image.now c.args.p) 0 1 c.registers-registers.ensures.0 refl ∙ simp (sym c.kind_at.ensures ∙ c.in-23.is, and-true)

pub returns-in-24 : goal.returns-in-24
unfolding instr_at
returns-in-24 c =
    c.arith_exists.ensures ∙ simp (sym c.kind_at.ensures ∙ c.in-24.is)

pub returns-in-25 : goal.returns-in-25
unfolding exists instr_at instr_by choose all every
returns-in-25 c =
    c.all_exist-in-25.ensures ∙ all_same {n = 4} (body_at c.args.tabled.image.now c.args.p) 0 1 c.registers-registers.ensures.0 refl ∙ simp (sym c.kind_at.ensures ∙ c.in-25.is, and-true)

pub returns-in-26 : goal.returns-in-26
unfolding exists instr_at instr_by choose all every
returns-in-26 c =
    c.all_exist-in-26.ensures ∙ all_same {n = 2} (body_at c.args.tabled.image.now c.args.p) 0 1 c.registers-registers.ensures.0 refl ∙ simp (sym c.kind_at.ensures ∙ c.in-26.is, and-true)

pub returns-in-27 : goal.returns-in-27
unfolding instr_at
returns-in-27 c =
    c.named_exists.ensures ∙ simp (sym c.kind_at.ensures ∙ c.in-27.is)

pub returns-in-28 : goal.returns-in-28
unfolding instr_at
returns-in-28 c =
    c.store_exists.ensures ∙ simp (sym c.kind_at.ensures ∙ c.in-28.is)

pub returns-in-29 : goal.returns-in-29
unfolding instr_at
returns-in-29 c =
    c.prom_exists.ensures ∙ simp (sym c.kind_at.ensures ∙ c.in-29.is)

pub returns-in-30 : goal.returns-in-30
unfolding exists instr_at instr_by choose all every
returns-in-30 c =
    c.all_exist-in-30.ensures ∙ all_same {n = 2} (body_at c.args.tabled.image.now c.args.p) 0 1 c.registers-registers.ensures.0 refl ∙ simp (sym c.kind_at.ensures ∙ c.in-30.is, and-true)

pub returns-in-31 : goal.returns-in-31
unfolding instr_at
returns-in-31 c =
    c.peek_exists.ensures ∙ simp (sym c.kind_at.ensures ∙ c.in-31.is)

pub returns-in-32 : goal.returns-in-32
unfolding instr_at
returns-in-32 c =
    c.poke_exists.ensures ∙ simp (sym c.kind_at.ensures ∙ c.in-32.is)

pub returns-in-33 : goal.returns-in-33
unfolding instr_at
returns-in-33 c =
    c.call_exists.ensures ∙ simp (sym c.kind_at.ensures ∙ c.in-33.is)

pub returns-in-34 : goal.returns-in-34
unfolding instr_at
returns-in-34 c =
    c.dispatch_exists.ensures ∙ simp (sym c.kind_at.ensures ∙ c.in-34.is)

pub returns-in-35 : goal.returns-in-35
unfolding exists instr_at instr_by choose all every
returns-in-35 c =
    c.all_exist-in-35.ensures ∙ all_same {n = 1} (body_at c.args.tabled.image.now c.args.p) 0 1 c.registers-registers.ensures.0 refl ∙ simp (sym c.kind_at.ensures ∙ c.in-35.is, and-true)

pub returns-in_default : goal.returns-in_default
unfolding exists instr_at instr_by choose all every
returns-in_default c =
    c.all_exist-in_default.ensures ∙ all_same {n = 1} (body_at c.args.tabled.image.now c.args.p) 0 1 c.registers-registers.ensures.0 refl
    ∙ simp (
      ← c.kind_at.ensures,
      ne_eqb _ _ c.in_default.in_default-own.rest.0.0.0.0.0.0.0.0.0.0.0.0.0.0.0.0.0.0.1,
      ne_eqb _ _ c.in_default.in_default-own.rest.0.0.0.0.0.0.0.0.0.0.0.0.0.0.0.0.0.1,
      ne_eqb _ _ c.in_default.in_default-own.rest.0.0.0.0.0.0.0.0.0.0.0.0.0.0.0.0.1,
      ne_eqb _ _
          c.in_default.in_default-own.rest.0.0.0.0.0.0.0.0.0.0.0.0.0.0.0.1,
      ne_eqb _ _ c.in_default.in_default-own.rest.0.0.0.0.0.0.0.0.0.0.0.0.0.0.1,
      ne_eqb _ _ c.in_default.in_default-own.rest.0.0.0.0.0.0.0.0.0.0.0.0.0.1,
      ne_eqb _ _ c.in_default.in_default-own.rest.0.0.0.0.0.0.0.0.0.0.0.0.1,
      ne_eqb _ _
          c.in_default.in_default-own.rest.0.0.0.0.0.0.0.0.0.0.0.1,
      ne_eqb _ _ c.in_default.in_default-own.rest.0.0.0.0.0.0.0.0.0.0.1,
      ne_eqb _ _ c.in_default.in_default-own.rest.0.0.0.0.0.0.0.0.0.1,
      ne_eqb _ _ c.in_default.in_default-own.rest.0.0.0.0.0.0.0.0.1,
      ne_eqb _ _ c.in_default.in_default-own.rest.0.0.0.0.0.0.0.1,
      ne_eqb _ _
          c.in_default.in_default-own.rest.0.0.0.0.0.0.1,
      ne_eqb _ _ c.in_default.in_default-own.rest.0.0.0.0.0.1,
      ne_eqb _ _ c.in_default.in_default-own.rest.0.0.0.0.1,
      ne_eqb _ _ c.in_default.in_default-own.rest.0.0.0.1,
      ne_eqb _ _ c.in_default.in_default-own.rest.0.0.1,
      ne_eqb _ _ c.in_default.in_default-own.rest.0.1,
      ne_eqb _ _ c.in_default.in_default-own.rest.1,
      and-true,
    )
