-- Flow, computed: what "then" allows and leaves of one register, and what two small bodies do. A wrong rule makes one of these facts false.
use mathlib.Core.Path.{◌≡◌, refl}
use mathlib.Core.List.{[], ◌∷◌}
use mathlib.Core.Option.{some}
use mathlib.Core.Bool.{true}
use lib.IntN.{pos}
use Rattle.sets.specs.Sets.{Set, empty, only, both, those, inhabited}
use Rattle.program.specs.Program.{Instr, LIT, PROM, SKIP, Line, Block, Version}
use Rattle.rules.specs.Actions.{clash, joined, ◌then◌, ∅, promised, touch, action_of, skip_of, either, join, here, past, walk, enter, actions, body_action}

-- the register 0 alone
one : Set
one = those 16 (0 ∷ [])

-- a captured register may not be emptied
captured-emptied : clash (record { R = ∅; W = ∅; U = ∅; C = one }) (record { R = one; W = ∅; U = one; C = ∅ }) ≡ true
unfolding one clash both inhabited those only empty
captured-emptied = refl

-- also not by the instruction that fills it again
captured-refilled : clash (record { R = ∅; W = ∅; U = ∅; C = one }) (record { R = one; W = one; U = one; C = ∅ }) ≡ true
unfolding one clash both inhabited those only empty
captured-refilled = refl

-- what is empty may not be read by the instruction that fills it
read_first : clash (record { R = ∅; W = ∅; U = one; C = ∅ }) (record { R = one; W = one; U = ∅; C = ∅ }) ≡ true
unfolding one clash both inhabited those only empty
read_first = refl

-- what is assigned is filled again
filled-again : (joined (record { R = ∅; W = ∅; U = one; C = ∅ }) (record { R = ∅; W = one; U = ∅; C = ∅ })).U ≡ ∅
unfolding one joined both those only empty
filled-again = refl

line : Instr → Line
line i = record { at = 0; does = i }

-- SKIP r0 2, LIT r1, SKIP r0 0, the result in r1: the first SKIP leads to the end too, so r1 is read before it is assigned
skipping : Version
skipping = record {
  at = 0;
  function = 0;
  version = 0;
  parameters = 1;
  types = 2 ∷ 2 ∷ [];
  return = 2;
  level = 0;
  blocks = record { at = 0; mark = 0; result = 1; code = line (SKIP 0 2) ∷ line (LIT 1 (pos 7)) ∷ line (SKIP 0 0) ∷ [] } ∷ [];
}

both_ways : body_action [] skipping ≡ some (record { R = those 16 (0 ∷ 1 ∷ []); W = ∅; U = ∅; C = ∅ })
unfolding skipping line actions walk past here join either touch skip_of action_of ◌then◌ clash joined both inhabited those only empty
both_ways = refl

-- PROM r0 of a block whose result is r2 and that has no instruction: what the block reads at its end PROM reads and captures
promising : Version
promising = record {
  at = 0;
  function = 0;
  version = 0;
  parameters = 0;
  types = 4 ∷ 2 ∷ 2 ∷ [];
  return = 2;
  level = 0;
  blocks = record { at = 0; mark = 0; result = 0; code = line (PROM 0 1) ∷ [] } ∷ record { at = 0; mark = 0; result = 2; code = [] } ∷ [];
}

result-read : body_action [] promising ≡ some (record { R = those 16 (2 ∷ []); W = those 16 (0 ∷ []); U = ∅; C = those 16 (2 ∷ []) })
unfolding promising line actions enter promised walk past here join either touch skip_of action_of ◌then◌ clash joined both inhabited those only empty
result-read = refl
