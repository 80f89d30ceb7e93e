-- What question 4 says of the numbers of a checked version.
use mathlib.Core.Path.{◌≡◌}
use mathlib.Core.Option.{some}
use mathlib.Core.Bool.{true}
use Prim.Native.Nat.{ℕ, ◌≤◌, ◌<◌}
use lib.ListN.{length, get_elem?}
use lib.Seq.{length-take-le}
use lib.Dec.{ltb, leb}
use borrow.Author.Tests.{ltb-true, leb-true}
use Rattle.layout.specs.Bounds.{FUNCTIONS, VERSIONS, LEVELS, REGISTERS, PARAMETERS, INSTRUCTIONS, MARKS}
use Rattle.layout.proofs.Bools.{and_both}
use Rattle.program.specs.Program.{Block, Version, Program, parameter_types}
use Rattle.program.proofs.Laid.{version_bounded, block_bounded}
use Rattle.checker.proofs.Accepted.{Checked}

-- the counts of a version are in bounds
pub record Limited (v : Version) : Type 0 where
  pub parameters : v.parameters ≤ PARAMETERS
  pub declared : v.parameters ≤ length v.types
  pub registers : length v.types ≤ REGISTERS
  pub body : 0 < length v.blocks
  pub level : v.level < LEVELS

-- by the tests of question 4
bounded-limited : (v : Version) → version_bounded v ≡ true → Limited v
unfolding version_bounded
bounded-limited v h =
    let l = and_both (ltb v.level LEVELS) _ h in
    let a = and_both (ltb v.function FUNCTIONS) _ l.1 in
    let b = and_both (ltb v.version VERSIONS) _ a.1 in
    let c = and_both (leb v.parameters PARAMETERS) _ b.1 in
    let d = and_both (leb v.parameters (length v.types)) _ c.1 in
    let e = and_both (ltb 0 (length v.types)) _ d.1 in
    let f = and_both (leb (length v.types) REGISTERS) _ e.1 in
    let g = and_both (ltb 0 (length v.blocks)) _ f.1 in
    record { parameters = leb-true _ _ c.0; declared = leb-true _ _ d.0; registers = leb-true _ _ f.0; body = ltb-true _ _ g.0; level = ltb-true _ _ l.0 }

-- a checked version passed them
pub limited : (P : Program) (v : Version) → Checked P v → Limited v
limited P v ck = bounded-limited v ck.bound.of_version

-- marks are 0 and 1
pub mark-bound : (P : Program) (v : Version) → Checked P v → (b : ℕ) (x : Block) → get_elem? v.blocks b ≡ some x → x.mark < MARKS
unfolding block_bounded
mark-bound P v ck b x e = ltb-true _ _ (and_both (ltb x.mark MARKS) _ (ck.bound.of_block b x e)).0

-- a block has at most 48 instructions
pub code-few : (P : Program) (v : Version) → Checked P v → (b : ℕ) (x : Block) → get_elem? v.blocks b ≡ some x → length x.code ≤ INSTRUCTIONS
unfolding block_bounded
code-few P v ck b x e = leb-true _ _ (and_both (ltb x.mark MARKS) _ (ck.bound.of_block b x e)).1

-- as many types as parameters
pub length-parameters : (P : Program) (v : Version) → Checked P v → length (parameter_types v) ≡ v.parameters
length-parameters P v ck = length-take-le v.parameters v.types (limited P v ck).declared
