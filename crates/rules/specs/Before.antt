-- The rules of flow before 02, 9, where what is emptied stays empty.
use Rattle.std.specs.Prelude.{List, [], ◌∷◌, Bool, cond, ◌||◌, ℕ, ◌+◌, length, drop, get_or, set, ltb}
use Rattle.std.proofs.Math.Option.{Option, none, some}
use Rattle.layout.specs.Bounds.{REGISTERS}
use Rattle.layout.specs.Tests.{found}
use Rattle.sets.specs.Sets.{below, those, ◌∪◌, ◌∖◌, meets}
use Rattle.program.specs.Program.{Instr, Line, Block, Version, Program}
use Rattle.rules.specs.Actions.{Action, ∅, reading, promised, Touch, reads◌empties◌assigns◌, enters◌assigns◌, reads◌skips◌, touch, skip_of, Walk, join, here, start, enter}

-- what A empties, A' may not touch at all
unfoldable pub clash₀ : Action → Action → Bool
clash₀ a b = meets a.U b.R || meets a.U b.W || meets a.U b.U || meets a.U b.C || meets a.C b.U

-- what is emptied stays empty
unfoldable pub joined₀ : Action → Action → Action
joined₀ a b = record { R = a.R ∪ (b.R ∖ a.W); W = a.W ∪ b.W; U = a.U ∪ b.U; C = a.C ∪ b.C }

-- A then A', before
infixl 40 ◌then₀◌
unfoldable pub ◌then₀◌ : Option Action → Option Action → Option Action
none then₀ b = none
some a then₀ none = none
some a then₀ some b = cond (clash₀ a b) none (some (joined₀ a b))

-- what only empties registers
abbrev pub emptying : List ℕ → Option Action
emptying rs = some (record { R = ∅; W = ∅; U = those REGISTERS rs; C = ∅ })

-- what only assigns them
abbrev pub assigning : List ℕ → Option Action
assigning rs = some (record { R = ∅; W = those REGISTERS rs; U = ∅; C = ∅ })

-- an instruction reads its operands, then empties, then assigns d, each by "then"; what PROM yields is joined by "then" before d is assigned
unfoldable pub action_of₀ : (ℕ → Option Action) → Touch → Option Action
action_of₀ enter (reads rs empties us assigns ds) = reading rs then₀ emptying us then₀ assigning ds
action_of₀ enter (enters block assigns ds) = promised ∅ (enter block) then₀ assigning ds
action_of₀ enter (reads rs skips n) = reading rs

-- past an instruction that does b, as now but for "then"
unfoldable pub past₀ : Option ℕ → Option Action → Walk → Walk
past₀ none b w = record { done = here w then₀ b; ways = drop 1 w.ways }
past₀ (some n) b w =
    let a = here w then₀ b in
    let later = drop 1 w.ways in
    record { done = cond (ltb n (length later)) a none; ways = set later n (join a (get_or later n none)) }

-- instructions one after the other
unfoldable pub walk₀ : (Instr → Option ℕ) → (Instr → Option Action) → Walk → List Line → Walk
walk₀ skip act w [] = w
walk₀ skip act w (l ∷ ls) = walk₀ skip act (past₀ (skip l.does) (act l.does) w) ls

-- a block: its instructions, and the result register is read last
abbrev pub along₀ : (Instr → Option ℕ) → (Instr → Option Action) → ℕ → List Line → Option Action
along₀ skip act result code = here (walk₀ skip act (start code) code) then₀ reading (result ∷ [])

-- of each block, from the last on
unfoldable pub actions₀ : Program → ℕ → List Block → List (Option Action)
actions₀ P n [] = []
actions₀ P n (b ∷ bs) =
    let above = actions₀ P (n + 1) bs in
    along₀ (λ i. skip_of (touch P i)) (λ i. action_of₀ (enter n above) (touch P i)) b.result b.code ∷ above

-- what the body of a version does
abbrev pub body_action₀ : Program → Version → Option Action
body_action₀ P v = get_or (actions₀ P 0 v.blocks) 0 none

-- 10 before
unfoldable pub flows₀ : Program → Version → Bool
flows₀ P v = found (body_action₀ P v) (λ a. below v.parameters a.R)
