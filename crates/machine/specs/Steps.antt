-- Steps: one instruction or one block end is one step; one clause for each kind of instruction.
use Rattle.std.specs.Prelude.{List, [], ◌∷◌, map, cond, not, ℕ, zero, suc, ◌-◌, pos, length, get_or, set, take}
use Rattle.layout.specs.Bounds.{INSTRUCTIONS}
use Rattle.program.specs.Program.{Argument, Instr, LIT, MOVE, USE, DUP, VEC, LEN, GET, SET, ARITH, SELECT, CAST, NAMED, STORE, PROM, FORCE, PEEK, POKE, CALL, DISPATCH, SKIP, Line}
use Rattle.program.specs.Program.{Block, Version, Program, find_version, parameter_types}
use Rattle.rules.specs.Types.{kind_of, within}
use Rattle.machine.specs.Try.{Try, got, stuck, ◌>>=◌, ◌>>◌, stuck_unless, end_unless, or_stuck, at, each}
use Rattle.machine.specs.Values.{RANGE, arith_to, index, is_zero}
use Rattle.machine.specs.States.{assign, free_promise, free_vector, integer, items_of, kind_in, live_activations, live_frames, name, new_vector, plain, promise, store, value}
use Rattle.machine.specs.States.{vector, vector_counts, with_promise, with_vector}
use Rattle.machine.specs.Calls.{enter, finish, force, matching, passed, picked, skipped}
use Rattle.machine.specs.declared.Activation.{Activation}
use Rattle.machine.specs.declared.Cache.{Cache}
use Rattle.machine.specs.declared.End.{End}
use Rattle.machine.specs.declared.Frame.{Frame}
use Rattle.machine.specs.declared.State.{State}
use Rattle.machine.specs.declared.Value.{Value}

-- ---- instructions

-- Stuck: SET on a vector that another register or name holds; it counts even with the register a emptied
unfoldable pub alone : State → ℕ → ℕ → ℕ → Try (Unit {0})
alone s k a v = do
  t ← assign s k a Value.Empty
  stuck_unless (not (vector_counts t v))

-- the registers of a DISPATCH's pairs
abbrev pub registers_of : List Argument → List ℕ
registers_of pairs = map (λ (a : Argument). a.register) pairs

-- in the frame f, which stands at the place k and is of the version W; s already stands at the next instruction, with integers in the range R
unfoldable pub execute_to : ℕ → Program → State → ℕ → Frame → Version → Instr → Try State
execute_to R P s k f W (LIT d i) = assign s k d (Value.Integer i)
execute_to R P s k f W (MOVE d a) = do
  v ← value f a
  m ← kind_in P s v
  t ← at W.types d
  stuck_unless (within m (kind_of t))
  assign s k d v
execute_to R P s k f W (USE d a) = do
  v ← vector f a
  t ← assign s k a Value.Empty
  assign t k d (Value.Vector v)
execute_to R P s k f W (DUP d a) = do
  v ← vector f a
  w ← at s.vectors v
  n ← free_vector s
  assign (with_vector s n w) k d (Value.Vector n)
execute_to R P s k f W (VEC d rs) = do
  xs ← each (integer f) rs
  n ← free_vector s
  assign (with_vector s n (new_vector xs)) k d (Value.Vector n)
execute_to R P s k f W (LEN d a) = do
  v ← vector f a
  w ← at s.vectors v
  assign s k d (Value.Integer (pos (length (items_of w))))
execute_to R P s k f W (GET d a i) = do
  v ← vector f a
  w ← at s.vectors v
  z ← integer f i
  j ← index z (length (items_of w))
  assign s k d (Value.Integer (get_or (items_of w) j (pos 0)))
execute_to R P s k f W (SET a i e) = do
  v ← vector f a
  w ← at s.vectors v
  z ← integer f i
  x ← integer f e
  alone s k a v
  j ← index z (length (items_of w))
  got (with_vector s v (record { length = w.length; items = set w.items j x }))
execute_to R P s k f W (ARITH d op a b) = do
  x ← integer f a
  y ← integer f b
  z ← arith_to R op x y
  assign s k d (Value.Integer z)
execute_to R P s k f W (SELECT d c a b) = do
  z ← integer f c
  x ← integer f a
  y ← integer f b
  assign s k d (Value.Integer (cond (is_zero z) y x))
execute_to R P s k f W (CAST d a) = do
  v ← value f a
  m ← kind_in P s v
  t ← at W.types d
  end_unless End.Undef (within m (kind_of t))
  assign s k d v
execute_to R P s k f W (NAMED d x) = do
  v ← name f x
  assign s k d v
execute_to R P s k f W (STORE x a) = do
  v ← plain f a
  store s k x v
execute_to R P s k f W (PROM d block) = do
  at W.blocks block
  n ← free_promise s
  assign (with_promise s n (record { frame = k; block = block; cache = Cache.Unforced })) k d (Value.Promise n)
execute_to R P s k f W (FORCE d a) = do
  p ← promise f a
  q ← at s.promises p
  force s k d p q q.cache
execute_to R P s k f W (PEEK d a x) = do
  p ← promise f a
  q ← at s.promises p
  g ← at (live_frames s) q.frame
  v ← name g x
  assign s k d v
execute_to R P s k f W (POKE a x e) = do
  p ← promise f a
  q ← at s.promises p
  v ← plain f e
  store s q.frame x v
execute_to R P s k f W (CALL d g w rs) = do
  X ← or_stuck (find_version P g w)
  vs ← each (value f) rs
  ks ← each (kind_in P s) vs
  stuck_unless (matching ks (parameter_types X))
  enter s k d X rs vs
execute_to R P s k f W (DISPATCH d g mark ret pairs) = do
  vs ← each (value f) (registers_of pairs)
  ks ← each (kind_in P s) vs
  X ← picked P W.level g mark ret pairs ks
  enter s k d X (registers_of pairs) vs
execute_to R P s k f W (SKIP a n) = do
  z ← integer f a
  cond (is_zero z) (skipped s n) (got s)

-- ---- the step

-- where a run stands: the activation on top, its frame, version and block
pub record Here : Type 0 where
  pub activation : Activation
  pub frame : Frame
  pub version : Version
  pub block : Block

-- where the run of s stands. Stuck: a state that points outside itself or its image
unfoldable pub here : Program → State → Try Here
here P s = do
  a ← at (live_activations s) (s.depth - 1)
  f ← at (live_frames s) a.frame
  W ← or_stuck (find_version P f.function f.version)
  B ← at W.blocks a.block
  got (record { activation = a; frame = f; version = W; block = B })

-- at an instruction, at the block end, or (stuck) at neither
pub data Position : Type 0 where
  instruction : Instr → Position
  block_end outside : Position

-- what stands at the number n among these instructions: one of them, their end, or neither
unfoldable pub position : List Line → ℕ → Position
position [] zero = block_end
position [] (suc n) = outside
position (l ∷ ls) zero = instruction l.does
position (l ∷ ls) (suc n) = position ls n

-- where a run stands in its block, of which the first 48 instructions count: a block of an accepted image has no more
unfoldable pub position_of : Here → Position
position_of h = position (take INSTRUCTIONS h.block.code) h.activation.next

-- one instruction or one block end is one step. Stuck: at neither
unfoldable pub proceed_to : ℕ → Program → State → Here → Position → Try State
proceed_to R P s h (instruction i) = execute_to R P (passed s h.activation) h.activation.frame h.frame h.version i
proceed_to R P s h block_end = do
  v ← value h.frame h.block.result
  finish P s h.activation h.version v h.activation.opener
proceed_to R P s h outside = stuck

-- what one step of a run that goes on comes to
unfoldable pub advance_to : ℕ → Program → State → Try State
advance_to R P s = do
  h ← here P s
  proceed_to R P s h (position_of h)

-- ---- in the range in force

abbrev pub execute : Program → State → ℕ → Frame → Version → Instr → Try State
execute P s k f W i = execute_to RANGE P s k f W i

abbrev pub proceed : Program → State → Here → Position → Try State
proceed P s h p = proceed_to RANGE P s h p

abbrev pub advance : Program → State → Try State
advance P s = advance_to RANGE P s
