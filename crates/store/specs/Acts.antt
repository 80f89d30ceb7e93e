-- What a part of a step has done to the state.
use Rattle.std.specs.Prelude.{List, ◌≡◌, ℕ, ◌+◌, ◌<◌, ℤ, set, None, Some}
use Rattle.layout.specs.Found.{Found}
use Rattle.program.specs.Program.{Instr, Program, Version}
use Rattle.machine.specs.Allowed.{execute_with}
use Rattle.machine.specs.States.{assign, store, with_promise, with_stack, with_vector}
use Rattle.machine.specs.Steps.{execute}
use Rattle.machine.specs.Try.{Try, got, stuck, stop, ◌>>=◌}
use Rattle.machine.specs.declared.Activation.{Activation}
use Rattle.machine.specs.declared.Cache.{Cache}
use Rattle.machine.specs.declared.Frame.{Frame}
use Rattle.machine.specs.declared.Promise.{Promise}
use Rattle.machine.specs.declared.State.{State}
use Rattle.machine.specs.declared.Value.{Value}
use Rattle.machine.specs.declared.Vector.{Vector}
use Rattle.store.specs.Answers.{end_of}
use Rattle.store.specs.declared.Did.{Did}
use Rattle.store.specs.Store.{cell_in, frame_in, promise_in, state_in, vector_in, Puts}
use Rattle.store.specs.Counts.{Ready}

-- a place that is found is that of a byte
unfoldable pub Narrow : Found → Type 0
Narrow (Some v) = v < 256
Narrow None = 0 < 1  -- always true

-- t is what the machine's definitions come to in the state of the arrays b and n; b' and n' are left, which are b and n where it is stuck or stopped
unfoldable pub Does : Did → Try State → List ℕ → List ℤ → List ℕ → List ℤ → Type 0
Does Did.On t b n b' n' = t ≡ got (state_in b' n')
Does Did.Stuck t b n b' n' = (t ≡ stuck) × (b' ≡ b) × (n' ≡ n)
Does (Did.Stop h) t b n b' n' = (t ≡ stop (end_of h)) × (b' ≡ b) × (n' ≡ n)

-- the register d, or the name x, of the frame k gets the operand
abbrev pub assign_try : State → ℕ → ℕ → Try Value → Try State
assign_try s k d t = t >>= assign s k d

abbrev pub store_try : State → ℕ → ℕ → Try Value → Try State
store_try s k x t = t >>= store s k x

-- what f says of the state was done, and the counts are kept
abbrev pub Acts : Did → List ℕ → List ℤ → List ℕ → List ℤ → List ℕ → (State → Try State) → Type 0
Acts r b n b' n' c' f = Does r (f (state_in b n)) b n b' n' × Ready b' n' c'

-- the cell e of the frame k was put to v, and the counts are kept
abbrev pub Sets : List ℕ → List ℤ → List ℕ → List ℤ → List ℕ → ℕ → ℕ → Value → Type 0
Sets b n b' n' c' k e v = Puts b n b' n' k e v × Ready b' n' c'

-- the register d of the frame k got what the cell e of the frame j holds; likewise the name x
abbrev pub AssignsCell : Did → List ℕ → List ℤ → List ℕ → List ℤ → List ℕ → ℕ → ℕ → ℕ → ℕ → Type 0
AssignsCell r b n b' n' c' k d j e = Acts r b n b' n' c' (λ s. assign s k d (cell_in b n j e))

abbrev pub StoresCell : Did → List ℕ → List ℤ → List ℕ → List ℤ → List ℕ → ℕ → ℕ → ℕ → ℕ → Type 0
StoresCell r b n b' n' c' k x j e = Acts r b n b' n' c' (λ s. store s k x (cell_in b n j e))

-- the register d of the frame k got the operand g of the frame j; likewise the name x
abbrev pub AssignsFrom : Did → List ℕ → List ℤ → List ℕ → List ℤ → List ℕ → ℕ → ℕ → ℕ → (Frame → Try Value) → Type 0
AssignsFrom r b n b' n' c' k d j g = Acts r b n b' n' c' (λ s. assign_try s k d (g (frame_in b n j)))

abbrev pub StoresFrom : Did → List ℕ → List ℤ → List ℕ → List ℤ → List ℕ → ℕ → ℕ → ℕ → (Frame → Try Value) → Type 0
StoresFrom r b n b' n' c' k x j g = Acts r b n b' n' c' (λ s. store_try s k x (g (frame_in b n j)))

-- the arrays stand for the state s, and the counts are kept
abbrev pub Leaves : List ℕ → List ℤ → List ℕ → State → Type 0
Leaves b n c s = (state_in b n ≡ s) × Ready b n c

-- the instruction i in the frame k, of whatever version and program
abbrev pub Executes : Did → List ℕ → List ℤ → List ℕ → List ℤ → List ℕ → ℕ → Instr → Type 0
Executes r b n b' n' c' k i = ((P : Program) (W : Version) → Does r (execute P (state_in b n) k (frame_in b n k) W i) b n b' n') × Ready b' n' c'

-- likewise, of a run that may have `most` vectors
abbrev pub ExecutesWith : ℕ → Did → List ℕ → List ℤ → List ℕ → List ℤ → List ℕ → ℕ → Instr → Type 0
ExecutesWith most r b n b' n' c' k i = ((P : Program) (W : Version) → Does r (execute_with most P (state_in b n) k (frame_in b n k) W i) b n b' n') × Ready b' n' c'

-- the state with x as the item j of the vector w at the place v
unfoldable pub with_item : State → ℕ → Vector → ℕ → ℤ → State
with_item s v w j x = with_vector s v (record { length = w.length; items = set w.items j x })

-- the state with one more live frame
unfoldable pub with_open : State → Frame → State
with_open s f = with_stack s (set s.frames s.calls f) (s.calls + 1) s.activations s.depth

-- the state with the activation a at the place i standing at its instruction x
unfoldable pub with_next : State → ℕ → Activation → ℕ → State
with_next s i a x = with_stack s s.frames s.calls (set s.activations i (record { opener = a.opener; d = a.d; frame = a.frame; block = a.block; next = x })) s.depth

-- the state with a promise of the block in the frame at the place p
unfoldable pub with_delay : State → ℕ → ℕ → ℕ → State
with_delay s p frame block = with_promise s p (record { frame = frame; block = block; cache = Cache.Unforced })

-- the state with the integer z cached by the promise q at the place p
unfoldable pub with_cache : State → ℕ → Promise → ℤ → State
with_cache s p q z = with_promise s p (record { frame = q.frame; block = q.block; cache = Cache.Forced z })

-- ---- of arrays

-- the state with x as the item j of the vector v
abbrev pub item_put : List ℕ → List ℤ → ℕ → ℕ → ℤ → State
item_put b n v j x = with_item (state_in b n) v (vector_in b n v) j x

-- the state with the vector v at the place w too
abbrev pub vector_copied : List ℕ → List ℤ → ℕ → ℕ → State
vector_copied b n v w = with_vector (state_in b n) w (vector_in b n v)

-- the state with the integer z cached by the promise p
abbrev pub cache_put : List ℕ → List ℤ → ℕ → ℤ → State
cache_put b n p z = with_cache (state_in b n) p (promise_in b n p) z
