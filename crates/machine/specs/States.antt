-- Steps: the state of a run; what is live in it, what counts, how places are read and written.
use Rattle.std.specs.Prelude.{List, [], ◌∷◌, Bool, true, false, ◌||◌, ℕ, zero, suc, ℤ, pos, length, replicate, set, take, eqb}
use Rattle.layout.specs.Bounds.{REGISTERS, NAMES}
use Rattle.layout.specs.Tests.{any}
use Rattle.program.specs.Program.{Program, find_version}
use Rattle.rules.specs.Fits.{promise_kind}
use Rattle.machine.specs.Try.{Try, got, stuck, stop, ◌>>=◌, ◌>>◌, or_stuck, at, put}
use Rattle.machine.specs.declared.Activation.{Activation}
use Rattle.machine.specs.declared.End.{End}
use Rattle.machine.specs.declared.Frame.{Frame}
use Rattle.machine.specs.declared.Opener.{Opener}
use Rattle.machine.specs.declared.Place.{Place}
use Rattle.machine.specs.declared.Promise.{Promise}
use Rattle.machine.specs.declared.State.{State}
use Rattle.machine.specs.declared.Status.{Status}
use Rattle.machine.specs.declared.Value.{Value}
use Rattle.machine.specs.declared.Vector.{Vector}

-- ---- limits

-- Steps: at most 32 activations live
abbrev pub ACTIVATIONS : ℕ
ACTIVATIONS = 32

-- Steps: at most 64 vectors count
abbrev pub VECTORS : ℕ
VECTORS = 64

-- Steps: at most 64 promises count
abbrev pub PROMISES : ℕ
PROMISES = 64

-- Values and types: a vector has 0..16 integers
abbrev pub ITEMS : ℕ
ITEMS = 16

-- ---- new frames and vectors

-- a place of a frame that holds v
abbrev pub place : Value → Place
place v = record { value = v }

-- xs from the place 0 on, all else stays
unfoldable pub over : {A : Type 0} → List A → List A → List A
over [] ys = ys
over (x ∷ xs) [] = []
over (x ∷ xs) (y ∷ ys) = x ∷ over xs ys

-- a frame with 16 register places and 8 unset names
abbrev pub new_frame : ℕ → ℕ → Frame
new_frame f v = record { function = f; version = v; registers = replicate REGISTERS (place Value.Empty); names = replicate NAMES (place Value.Empty) }

-- a vector of the items xs, with 0 in the places behind them
unfoldable pub new_vector : List ℤ → Vector
new_vector xs = record { length = length xs; items = over xs (replicate ITEMS (pos 0)) }

-- the items of a vector: of its 16 places the first, as many as its length says
unfoldable pub items_of : Vector → List ℤ
items_of w = take w.length w.items

-- ---- reading

-- the frames of the live calls, oldest first
unfoldable pub live_frames : State → List Frame
live_frames s = take s.calls s.frames

-- the live activations, oldest first
unfoldable pub live_activations : State → List Activation
live_activations s = take s.depth s.activations

-- what a register of a frame holds; stuck where there is none
unfoldable pub register : Frame → ℕ → Try Value
register f r = do
  c ← at f.registers r
  got c.value

-- what a name of a frame holds; stuck where there is none
unfoldable pub named : Frame → ℕ → Try Value
named f x = do
  c ← at f.names x
  got c.value

-- an operand of any kind. Stuck: empty
unfoldable pub full : Value → Try Value
full Value.Empty = stuck
full (Value.Integer z) = got (Value.Integer z)
full (Value.Vector v) = got (Value.Vector v)
full (Value.Promise p) = got (Value.Promise p)

-- an integer operand. Stuck: empty, or of another kind
unfoldable pub an_integer : Value → Try ℤ
an_integer Value.Empty = stuck
an_integer (Value.Integer z) = got z
an_integer (Value.Vector v) = stuck
an_integer (Value.Promise p) = stuck

-- a vector operand: its place. Stuck: empty, or of another kind
unfoldable pub a_vector : Value → Try ℕ
a_vector Value.Empty = stuck
a_vector (Value.Integer z) = stuck
a_vector (Value.Vector v) = got v
a_vector (Value.Promise p) = stuck

-- a promise operand: its place. Stuck: empty, or of another kind
unfoldable pub a_promise : Value → Try ℕ
a_promise Value.Empty = stuck
a_promise (Value.Integer z) = stuck
a_promise (Value.Vector v) = stuck
a_promise (Value.Promise p) = got p

-- an operand of kind 1, for STORE and POKE. Stuck: empty, or a promise
unfoldable pub no_promise : Value → Try Value
no_promise Value.Empty = stuck
no_promise (Value.Integer z) = got (Value.Integer z)
no_promise (Value.Vector v) = got (Value.Vector v)
no_promise (Value.Promise p) = stuck

-- UNDEF: unset name. NAMED and PEEK give kind 1
unfoldable pub is_set : Value → Try Value
is_set Value.Empty = stop End.Undef
is_set (Value.Integer z) = got (Value.Integer z)
is_set (Value.Vector v) = got (Value.Vector v)
is_set (Value.Promise p) = stuck

-- the operand in a register: of any kind that is not empty, promises too; `plain` is the one of kind 1
unfoldable pub value : Frame → ℕ → Try Value
value f r = do
  v ← register f r
  full v

-- the integer in a register
unfoldable pub integer : Frame → ℕ → Try ℤ
integer f r = do
  v ← register f r
  an_integer v

-- the place of the vector in a register
unfoldable pub vector : Frame → ℕ → Try ℕ
vector f r = do
  v ← register f r
  a_vector v

-- the place of the promise in a register
unfoldable pub promise : Frame → ℕ → Try ℕ
promise f r = do
  v ← register f r
  a_promise v

-- the operand of kind 1 in a register, no promise, for STORE and POKE; `value` is the one of any kind
unfoldable pub plain : Frame → ℕ → Try Value
plain f r = do
  v ← register f r
  no_promise v

-- what a name holds, for NAMED and PEEK. UNDEF: unset name
unfoldable pub name : Frame → ℕ → Try Value
name f x = do
  v ← named f x
  is_set v

-- the kind of a value that is there: integer 2, vector 3, promise 4 or 5 by its block's mark
unfoldable pub kind_in : Program → State → Value → Try ℕ
kind_in P s Value.Empty = stuck
kind_in P s (Value.Integer z) = got 2
kind_in P s (Value.Vector v) = do
  at s.vectors v
  got 3
kind_in P s (Value.Promise p) = do
  q ← at s.promises p
  f ← at (live_frames s) q.frame
  W ← or_stuck (find_version P f.function f.version)
  B ← at W.blocks q.block
  got (promise_kind B.mark)

-- ---- what counts

-- the value is the vector at the place v
unfoldable pub is_vector : ℕ → Value → Bool
is_vector v Value.Empty = false
is_vector v (Value.Integer z) = false
is_vector v (Value.Vector w) = eqb v w
is_vector v (Value.Promise p) = false

-- the value is the promise at the place p
unfoldable pub is_promise : ℕ → Value → Bool
is_promise p Value.Empty = false
is_promise p (Value.Integer z) = false
is_promise p (Value.Vector v) = false
is_promise p (Value.Promise q) = eqb p q

-- the opener is a force of the promise at the place p
unfoldable pub is_force : ℕ → Opener → Bool
is_force p Opener.Call = false
is_force p (Opener.Force q) = eqb p q

-- a register or a name of the frame holds such a value
unfoldable pub refers : (Value → Bool) → Frame → Bool
refers is f = any (λ (c : Place). is c.value) f.registers || any (λ (c : Place). is c.value) f.names

-- a register or a name of a live call holds such a value
unfoldable pub held : (Value → Bool) → State → Bool
held is s = any (refers is) (live_frames s)

-- a pending force refers to the promise
unfoldable pub pending : State → ℕ → Bool
pending s p = any (λ (a : Activation). is_force p a.opener) (live_activations s)

-- Steps: a vector counts while a register or a name refers to it
unfoldable pub vector_counts : State → ℕ → Bool
vector_counts s v = held (is_vector v) s

-- Steps: a promise counts while a register, a name or a pending force refers to it
unfoldable pub promise_counts : State → ℕ → Bool
promise_counts s p = held (is_promise p) s || pending s p

-- the lowest of n places from i on that does not count, or the end where all do
unfoldable pub free : End → (ℕ → Bool) → ℕ → ℕ → Try ℕ
free e counts zero i = stop e
free e counts (suc n) i = elim (counts i) [ true ↦ free e counts n (suc i) | false ↦ got i ]

-- a place for a vector. VECTORS: 65th needed while 64 count
unfoldable pub free_vector : State → Try ℕ
free_vector s = free End.Vectors (vector_counts s) VECTORS 0

-- a place for a promise. PROMISES: 65th needed while 64 count
unfoldable pub free_promise : State → Try ℕ
free_promise s = free End.Promises (promise_counts s) PROMISES 0

-- ---- writing

-- the state with these frames and their count, and these activations and theirs
unfoldable pub with_stack : State → List Frame → ℕ → List Activation → ℕ → State
with_stack s fs n acts m = record {
  frames = fs;
  calls = n;
  activations = acts;
  depth = m;
  vectors = s.vectors;
  promises = s.promises;
  result = s.result;
  status = s.status;
}

-- the state with w as the vector at the place v
unfoldable pub with_vector : State → ℕ → Vector → State
with_vector s v w = record {
  frames = s.frames;
  calls = s.calls;
  activations = s.activations;
  depth = s.depth;
  vectors = set s.vectors v w;
  promises = s.promises;
  result = s.result;
  status = s.status;
}

-- the state with q as the promise at the place p
unfoldable pub with_promise : State → ℕ → Promise → State
with_promise s p q = record {
  frames = s.frames;
  calls = s.calls;
  activations = s.activations;
  depth = s.depth;
  vectors = s.vectors;
  promises = set s.promises p q;
  result = s.result;
  status = s.status;
}

-- the state with the result xs, ended by e
unfoldable pub with_end : State → List ℤ → End → State
with_end s xs e = record {
  frames = s.frames;
  calls = s.calls;
  activations = s.activations;
  depth = s.depth;
  vectors = s.vectors;
  promises = s.promises;
  result = xs;
  status = Status.Ended e;
}

-- the state with f as the frame at the place k
unfoldable pub with_frame : State → ℕ → Frame → State
with_frame s k f = with_stack s (set s.frames k f) s.calls s.activations s.depth

-- the frame with its register d put to v; stuck outside
unfoldable pub with_register : Frame → ℕ → Value → Try Frame
with_register f d v = do
  rs ← put f.registers d (place v)
  got (record { function = f.function; version = f.version; registers = rs; names = f.names })

-- the frame with its name x put to v; stuck outside
unfoldable pub with_name : Frame → ℕ → Value → Try Frame
with_name f x v = do
  xs ← put f.names x (place v)
  got (record { function = f.function; version = f.version; registers = f.registers; names = xs })

-- the register d of the frame k gets v
unfoldable pub assign : State → ℕ → ℕ → Value → Try State
assign s k d v = do
  f ← at (live_frames s) k
  g ← with_register f d v
  got (with_frame s k g)

-- the name x of the frame k gets v
unfoldable pub store : State → ℕ → ℕ → Value → Try State
store s k x v = do
  f ← at (live_frames s) k
  g ← with_name f x v
  got (with_frame s k g)
