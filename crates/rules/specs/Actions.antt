-- Flow: actions, what an instruction does to registers, and what a block does.
use Rattle.std.specs.Prelude.{List, [], ◌∷◌, map, Bool, cond, ◌||◌, ℕ, ◌+◌, ◌-◌, length, take, drop, get_or, set, replicate, ltb}
use Rattle.std.proofs.Math.Option.{Option, none, some, Option-elim}
use Rattle.layout.specs.Bounds.{REGISTERS, INSTRUCTIONS}
use Rattle.sets.specs.Sets.{Set, empty, those, ◌∪◌, ◌∩◌, ◌∖◌, meets}
use Rattle.program.specs.Program.{Argument, Instr, LIT, MOVE, USE, DUP, VEC, LEN, GET, SET, ARITH, SELECT, CAST, NAMED, STORE, PROM, FORCE, PEEK, POKE, CALL, DISPATCH, SKIP, Line}
use Rattle.program.specs.Program.{Block, Version, Program, find_version, given}
use Rattle.rules.specs.Types.{is_owned}

-- four sets: R read before assigned, W assigned, U emptied and not filled again, C captured
pub record Action : Type 0 where
  pub R : Set
  pub W : Set
  pub U : Set
  pub C : Set

-- is A then the single instruction A' not allowed? It may assign what A emptied, but not read, empty or capture it, nor empty what A captured
unfoldable pub clash : Action → Action → Bool
clash a b = meets a.U b.R || meets a.U b.U || meets a.U b.C || meets a.C b.U

-- the result of A then the single instruction A': U loses what A' assigns, also where A' emptied it
unfoldable pub joined : Action → Action → Action
joined a b = record { R = a.R ∪ (b.R ∖ a.W); W = a.W ∪ b.W; U = (a.U ∪ b.U) ∖ b.W; C = a.C ∪ b.C }

-- A then A', where all is allowed
infixl 40 ◌then◌
unfoldable pub ◌then◌ : Option Action → Option Action → Option Action
none then b = none
some a then none = none
some a then some b = cond (clash a b) none (some (joined a b))

-- Flow, ∅: no register
abbrev pub ∅ : Set
∅ = empty REGISTERS

-- what only reads registers
abbrev pub reading : List ℕ → Option Action
reading rs = some (record { R = those REGISTERS rs; W = ∅; U = ∅; C = ∅ })

-- what reads, empties and assigns registers
abbrev pub touching : List ℕ → List ℕ → List ℕ → Option Action
touching rs us ds = some (record { R = those REGISTERS rs; W = those REGISTERS ds; U = those REGISTERS us; C = ∅ })

-- what PROM yields, by its block's action, where it assigns w
unfoldable pub promised : Set → Option Action → Option Action
promised w none = none
promised w (some a) = some (record { R = a.R; W = w; U = a.U; C = a.R ∪ a.W ∪ a.U ∪ a.C })

-- an instruction reads its operands, then empties, then assigns; PROM enters a block, then assigns; SKIP reads, and may pass over n instructions
infix 20 reads◌empties◌assigns◌
infix 20 enters◌assigns◌
infix 20 reads◌skips◌
pub data Touch : Type 0 where
  reads◌empties◌assigns◌ : List ℕ → List ℕ → List ℕ → Touch
  enters◌assigns◌ : ℕ → List ℕ → Touch
  reads◌skips◌ : List ℕ → ℕ → Touch

-- the registers of a call's owned parameters
unfoldable pub emptied : List Argument → List ℕ
emptied [] = []
emptied (a ∷ l) = cond (is_owned a.type) (a.register ∷ emptied l) (emptied l)

-- what each instruction touches
unfoldable pub touch : Program → Instr → Touch
touch P (LIT d i) = reads [] empties [] assigns d ∷ []
touch P (MOVE d a) = reads a ∷ [] empties [] assigns d ∷ []
touch P (USE d a) = reads a ∷ [] empties a ∷ [] assigns d ∷ []
touch P (DUP d a) = reads a ∷ [] empties [] assigns d ∷ []
touch P (VEC d rs) = reads rs empties [] assigns d ∷ []
touch P (LEN d a) = reads a ∷ [] empties [] assigns d ∷ []
touch P (GET d a i) = reads a ∷ i ∷ [] empties [] assigns d ∷ []
touch P (SET a i e) = reads a ∷ i ∷ e ∷ [] empties [] assigns a ∷ []
touch P (ARITH d op a b) = reads a ∷ b ∷ [] empties [] assigns d ∷ []
touch P (SELECT d c a b) = reads c ∷ a ∷ b ∷ [] empties [] assigns d ∷ []
touch P (CAST d a) = reads a ∷ [] empties [] assigns d ∷ []
touch P (NAMED d x) = reads [] empties [] assigns d ∷ []
touch P (STORE x a) = reads a ∷ [] empties [] assigns []
touch P (PROM d block) = enters block assigns d ∷ []
touch P (FORCE d a) = reads a ∷ [] empties [] assigns d ∷ []
touch P (PEEK d a x) = reads a ∷ [] empties [] assigns d ∷ []
touch P (POKE a x e) = reads a ∷ e ∷ [] empties [] assigns []
touch P (CALL d f w rs) = reads rs empties (Option-elim (find_version P f w) [] (λ c. emptied (given c rs))) assigns d ∷ []
touch P (DISPATCH d f mark ret pairs) = reads (map (λ (a : Argument). a.register) pairs) empties (emptied pairs) assigns d ∷ []
touch P (SKIP a n) = reads a ∷ [] skips n

-- what an instruction does, where `enter` says what a block does
unfoldable pub action_of : (ℕ → Option Action) → Touch → Option Action
action_of enter (reads rs empties us assigns ds) = touching rs us ds
action_of enter (enters block assigns ds) = promised (those REGISTERS ds) (enter block)
action_of enter (reads rs skips n) = reading rs

-- how many instructions it may pass over
unfoldable pub skip_of : Touch → Option ℕ
skip_of (reads rs empties us assigns ds) = none
skip_of (enters block assigns ds) = none
skip_of (reads rs skips n) = some n

-- two ways joined: R, U and C by union, W by what both assign
unfoldable pub either : Action → Action → Action
either a b = record { R = a.R ∪ b.R; W = a.W ∩ b.W; U = a.U ∪ b.U; C = a.C ∪ b.C }

-- at a place in a block. `done`: what was done on the way through the instruction before (none: not allowed). `ways`: for each place from
-- here to the block's end, what was done on the skips that lead there, joined (none: no skip leads there)
pub record Walk : Type 0 where
  pub done : Option Action
  pub ways : List (Option Action)

-- a way, joined by one that a skip took, if there is one
unfoldable pub join : Option Action → Option Action → Option Action
join none w = none
join (some a) none = some a
join (some a) (some w) = some (either a w)

-- what was done before the instruction here, on all ways
unfoldable pub here : Walk → Option Action
here w = join w.done (get_or w.ways 0 none)

-- past an instruction that does b, by what it may pass over; a way past the end of the block is not allowed
unfoldable pub past : Option ℕ → Option Action → Walk → Walk
past none b w = record { done = here w then b; ways = drop 1 w.ways }
past (some n) b w =
    let a = here w then b in
    let later = drop 1 w.ways in
    record { done = cond (ltb n (length later)) a none; ways = set later n (join a (get_or later n none)) }

-- instructions one after the other
unfoldable pub walk : (Instr → Option ℕ) → (Instr → Option Action) → Walk → List Line → Walk
walk skip act w [] = w
walk skip act w (l ∷ ls) = walk skip act (past (skip l.does) (act l.does) w) ls

-- before a block: no way has been taken to its first 48 instructions and to its end
abbrev pub start : List Line → Walk
start code = record { done = reading []; ways = replicate (length (take INSTRUCTIONS code) + 1) none }

-- a block: its instructions, and the result register is read last
abbrev pub along : (Instr → Option ℕ) → (Instr → Option Action) → ℕ → List Line → Option Action
along skip act result code = here (walk skip act (start code) code) then reading (result ∷ [])

-- PROM enters a block above its own, n, where `above` says what those do
unfoldable pub enter : ℕ → List (Option Action) → ℕ → Option Action
enter n above block = cond (ltb n block) (get_or above (block - (n + 1)) none) none

-- what each block does, from the block n on
unfoldable pub actions : Program → ℕ → List Block → List (Option Action)
actions P n [] = []
actions P n (b ∷ bs) =
    let above = actions P (n + 1) bs in
    along (λ i. skip_of (touch P i)) (λ i. action_of (enter n above) (touch P i)) b.result b.code ∷ above

-- what the body does
abbrev pub body_action : Program → Version → Option Action
body_action P v = get_or (actions P 0 v.blocks) 0 none
