-- Steps, computed: what each instruction leaves in a small state, what makes it stuck or UNDEF, and what block ends, DISPATCH, 19, changes and history come to. A wrong clause makes a row false.
use Rattle.std.specs.Prelude.{Err, Ok}
use mathlib.Core.Path.{◌≡◌, refl, ap, ◌∙◌}
use mathlib.Core.List.{List, [], ◌∷◌, ◌++◌, map}
use mathlib.Core.Bool.{true}
use Prim.Native.Nat.{ℕ}
use native.Mathlib.Omega.{arith}
use lib.IntN.{ℤ, pos}
use lib.ListN.{length, replicate}
use Rattle.layout.specs.Tests.{◌and◌, any, found}
use Rattle.program.specs.Program.{Argument, Instr, LIT, MOVE, USE, DUP, VEC, LEN, GET, SET, SELECT, CAST, NAMED, STORE, PROM, FORCE, PEEK, POKE, CALL, Block, Version, Program, find_version, first_mark}
use Rattle.rules.specs.Types.{kind_of, ownership_of, is_owned, within}
use Rattle.machine.specs.Try.{Try, got, stuck, stop, ◌>>=◌, ◌>>◌, stuck_unless, end_unless, or_stuck, at, put, each}
use Rattle.machine.specs.States.{place, over, new_vector, items_of, live_frames, live_activations, register, named, full, an_integer, a_vector, a_promise, no_promise, is_set, value, integer, vector, promise, plain, name, kind_in, is_force, refers, held, pending, vector_counts, promise_counts, free, free_vector, free_promise, with_stack, with_vector, with_promise, with_frame, with_register}
use Rattle.machine.specs.States.{with_name, assign, store}
use Rattle.machine.specs.States as states
use Rattle.machine.specs.Values.{index}
use Rattle.machine.specs.Values as values
use Rattle.machine.specs.Calls.{opened, matching, empty_if, emptied, frame_for, enter, same_ownerships, dispatches, lowest, picked, force, back, finish}
use Rattle.machine.specs.Steps.{alone, execute, execute_to}
use Rattle.machine.specs.Runs.{long_enough, step_of}
use Rattle.machine.specs.Begin.{question12, question13, question19, refused, run_level, arguments}
use Rattle.machine.specs.Changes.{change_of}
use Rattle.machine.specs.Events.{Run, Event, program_in, single, budget, change, in_force, handle, handle_to, in_state, onward, tried_under, tried_in, tried_by, tried, history}
use Rattle.machine.specs.declared.Activation.{Activation}
use Rattle.machine.specs.declared.Cache.{Cache}
use Rattle.machine.specs.declared.End.{End}
use Rattle.machine.specs.declared.Frame.{Frame}
use Rattle.machine.specs.declared.Opener.{Opener}
use Rattle.machine.specs.declared.Promise.{Promise}
use Rattle.machine.specs.declared.Said.{Said}
use Rattle.machine.specs.declared.State.{State}
use Rattle.machine.specs.declared.Status.{Status}
use Rattle.machine.specs.declared.Value.{Value}
use Rattle.machine.specs.declared.Vector.{Vector}
use Rattle.machine.specs.Denials.{denied, Grant}

-- ---- a small state

-- a frame whose registers and names hold these
frame : List Value → List Value → Frame
frame rs xs = record { function = 0; version = 0; registers = map place rs; names = map place xs }

-- registers 7, the vector 0, the promise 0, nothing, the promise 1 and the index 1; a name that is set and one that is not
F : Frame
F = frame (Value.Integer (pos 7) ∷ Value.Vector 0 ∷ Value.Promise 0 ∷ Value.Empty ∷ Value.Promise 1 ∷ Value.Integer (pos 1) ∷ []) (Value.Integer (pos 5) ∷ Value.Empty ∷ [])

vector_of : List ℤ → Vector
vector_of xs = record { length = length xs; items = xs }

promise_of : Cache → Promise
promise_of c = record { frame = 0; block = 1; cache = c }

-- an activation of the frame k, at the instruction 1
opens : Opener → ℕ → ℕ → Activation
opens o k d = record { opener = o; d = d; frame = k; block = 0; next = 1 }

-- a state with these frames and activations, the vectors 4 6 and one that is free, an unforced promise, one forced to 9 and one that is free
small : List Frame → List Activation → State
small fs acts = record {
  frames = fs ++ frame [] [] ∷ [];
  calls = length fs;
  activations = acts ++ opens Opener.Call 0 0 ∷ [];
  depth = length acts;
  vectors = vector_of (pos 4 ∷ pos 6 ∷ []) ∷ vector_of [] ∷ [];
  promises = promise_of Cache.Unforced ∷ promise_of (Cache.Forced (pos 9)) ∷ promise_of Cache.Unforced ∷ [];
  result = [];
  status = Status.Running;
}

-- its version: an integer, an own vector, a quiet promise, any, a quiet promise, an integer; two blocks
block : Block
block = record { at = 0; mark = 0; result = 0; code = [] }

version : ℕ → ℕ → List ℕ → ℕ → ℕ → Version
version f w types n level = record { at = 0; function = f; version = w; parameters = n; types = types; return = 2; level = level; blocks = block ∷ block ∷ [] }

W : Version
W = version 0 0 (2 ∷ 0x13 ∷ 4 ∷ 0 ∷ 4 ∷ 2 ∷ []) 0 0

-- 1.0 of level 2, 1.1 of level 0 take an own vector and an integer
P : Program
P = W ∷ version 1 0 (0x13 ∷ 2 ∷ []) 2 2 ∷ version 1 1 (0x13 ∷ 2 ∷ []) 2 0 ∷ []

-- an instruction in the only call
does : Instr → Try State
does i = execute P (small (F ∷ []) (opens Opener.Call 0 0 ∷ [])) 0 F W i

-- ---- what is seen behind it

-- the registers of each live call
registers : Try State → Try (List (List Value))
registers t = t >>= λ s. got (map (λ (f : Frame). map (λ c. c.value) f.registers) (live_frames s))

-- the names
names : Try State → Try (List (List Value))
names t = t >>= λ s. got (map (λ (f : Frame). map (λ c. c.value) f.names) (live_frames s))

-- the items of the vectors
items : Try State → Try (List (List ℤ))
items t = t >>= λ s. got (map items_of s.vectors)

-- the caches of the promises
caches : Try State → Try (List Cache)
caches t = t >>= λ s. got (map (λ (q : Promise). q.cache) s.promises)

-- where each activation stands
nexts : Try State → Try (List ℕ)
nexts t = t >>= λ s. got (map (λ (a : Activation). a.next) (live_activations s))

-- ---- registers: the fourth gets what it should, the source of USE is empty then, and all others stay

with4 : Value → Value → Try (List (List Value))
with4 b v = got ((Value.Integer (pos 7) ∷ b ∷ Value.Promise 0 ∷ v ∷ Value.Promise 1 ∷ Value.Integer (pos 1) ∷ []) ∷ [])

registers-are :
    map (λ (i : Instr). registers (does i)) (LIT 3 (pos 8) ∷ MOVE 3 2 ∷ USE 3 1 ∷ DUP 3 1 ∷ VEC 3 (0 ∷ 5 ∷ []) ∷ LEN 3 1 ∷ GET 3 1 5 ∷ SELECT 3 0 5 0 ∷ CAST 3 0 ∷ NAMED 3 0 ∷ PROM 3 1 ∷ FORCE 3 4 ∷ PEEK 3 2 0 ∷ []) ≡
    with4 (Value.Vector 0) (Value.Integer (pos 8)) ∷ with4 (Value.Vector 0) (Value.Promise 0) ∷ with4 Value.Empty (Value.Vector 0) ∷ with4 (Value.Vector 0) (Value.Vector 1) ∷ with4 (Value.Vector 0) (Value.Vector 1) ∷
    with4 (Value.Vector 0) (Value.Integer (pos 2)) ∷ with4 (Value.Vector 0) (Value.Integer (pos 6)) ∷ with4 (Value.Vector 0) (Value.Integer (pos 1)) ∷ with4 (Value.Vector 0) (Value.Integer (pos 7)) ∷
    with4 (Value.Vector 0) (Value.Integer (pos 5)) ∷ with4 (Value.Vector 0) (Value.Promise 2) ∷ with4 (Value.Vector 0) (Value.Integer (pos 9)) ∷ with4 (Value.Vector 0) (Value.Integer (pos 5)) ∷ []
unfolding F frame vector_of promise_of opens small block version W P does registers with4 execute_to ◌>>=◌ ◌>>◌ stuck_unless end_unless or_stuck at put each live_frames live_activations register named full an_integer a_vector a_promise no_promise is_set value integer vector promise plain name kind_in states.is_vector states.is_promise is_force refers held pending vector_counts promise_counts free
    free_vector free_promise with_stack with_vector with_promise with_frame with_register with_name assign store new_vector items_of over index values.is_zero force within kind_of find_version any found ◌and◌
registers-are = refl

-- ---- vectors, names and promises

items-are : map (λ (i : Instr). items (does i)) (USE 3 1 ∷ DUP 3 1 ∷ VEC 3 (0 ∷ 5 ∷ []) ∷ SET 1 5 0 ∷ []) ≡
    got ((pos 4 ∷ pos 6 ∷ []) ∷ [] ∷ []) ∷ got ((pos 4 ∷ pos 6 ∷ []) ∷ (pos 4 ∷ pos 6 ∷ []) ∷ []) ∷
    got ((pos 4 ∷ pos 6 ∷ []) ∷ (pos 7 ∷ pos 1 ∷ []) ∷ []) ∷ got ((pos 4 ∷ pos 7 ∷ []) ∷ [] ∷ []) ∷ []
unfolding F frame vector_of promise_of opens small block version W P does items execute_to alone ◌>>=◌ ◌>>◌ stuck_unless end_unless or_stuck at put each live_frames register full an_integer a_vector value integer vector states.is_vector refers held vector_counts free free_vector with_stack with_vector with_frame with_register assign new_vector items_of over index any
items-are = refl

names-are : map (λ (i : Instr). names (does i)) (STORE 1 0 ∷ POKE 2 1 5 ∷ NAMED 3 0 ∷ []) ≡
    got ((Value.Integer (pos 5) ∷ Value.Integer (pos 7) ∷ []) ∷ []) ∷ got ((Value.Integer (pos 5) ∷ Value.Integer (pos 1) ∷ []) ∷ []) ∷ got ((Value.Integer (pos 5) ∷ Value.Empty ∷ []) ∷ []) ∷ []
unfolding F frame vector_of promise_of opens small block version W P does names execute_to ◌>>=◌ ◌>>◌ stuck_unless or_stuck at put live_frames register named a_promise no_promise is_set promise plain name with_stack with_frame with_register with_name assign store
names-are = refl

-- ---- stuck and UNDEF: an empty register, a kind that does not go into d, SET of a vector that a name holds too; an unset name, an index outside, a CAST that does not fit, a promise that is being forced

ends-are : map (λ (i : Instr). registers (does i)) (MOVE 0 3 ∷ MOVE 0 2 ∷ LEN 3 0 ∷ STORE 0 2 ∷ NAMED 3 1 ∷ GET 3 1 0 ∷ CAST 0 2 ∷ []) ≡
    stuck ∷ stuck ∷ stuck ∷ stuck ∷ stop End.Undef ∷ stop End.Undef ∷ stop End.Undef ∷ []
unfolding F frame vector_of promise_of opens small block version W P does registers execute_to ◌>>=◌ ◌>>◌ stuck_unless end_unless or_stuck at put live_frames register named full an_integer a_vector a_promise no_promise is_set value integer vector plain name kind_in index within kind_of find_version found ◌and◌ items_of
ends-are = refl

-- ---- FORCE and the end of a forced block: the integer is cached, and goes to d

-- a force of the promise 0 opens its block; while it is pending it is UNDEF
forced : List Activation → Try State
forced acts = execute P (small (F ∷ []) acts) 0 F W (FORCE 3 2)

forces-are : nexts (forced (opens Opener.Call 0 0 ∷ [])) ∷ nexts (forced (opens Opener.Call 0 0 ∷ opens (Opener.Force 0) 0 3 ∷ [])) ∷ [] ≡ got (1 ∷ 0 ∷ []) ∷ stop End.Undef ∷ []
unfolding F frame vector_of promise_of opens small block version W P forced nexts execute_to ◌>>=◌ ◌>>◌ stuck_unless end_unless or_stuck at live_frames live_activations register a_promise promise is_force pending with_stack opened force any
forces-are = refl

-- the block of the promise 0 ends with 8, for the register 3
ended : Try State
ended = finish P (small (F ∷ []) (opens Opener.Call 0 0 ∷ opens (Opener.Force 0) 0 3 ∷ [])) (opens (Opener.Force 0) 0 3) W (Value.Integer (pos 8)) (Opener.Force 0)

force-caches : caches ended ≡ got (Cache.Forced (pos 8) ∷ Cache.Forced (pos 9) ∷ Cache.Unforced ∷ [])
unfolding F frame vector_of promise_of opens small ended caches finish back ◌>>=◌ ◌>>◌ stuck_unless or_stuck at put live_frames an_integer with_stack with_promise with_frame with_register assign
force-caches = refl

force-gives : registers ended ≡ with4 (Value.Vector 0) (Value.Integer (pos 8))
unfolding F frame vector_of promise_of opens small ended registers with4 finish back ◌>>=◌ ◌>>◌ stuck_unless or_stuck at put live_frames an_integer with_stack with_promise with_frame with_register assign
force-gives = refl

-- ---- CALL and DISPATCH

-- the owned argument is empty in the caller, and both are in the new frame
call-gives : registers (does (CALL 0 1 1 (1 ∷ 0 ∷ []))) ≡ got (
    (Value.Integer (pos 7) ∷ Value.Empty ∷ Value.Promise 0 ∷ Value.Empty ∷ Value.Promise 1 ∷ Value.Integer (pos 1) ∷ []) ∷
    (Value.Vector 0 ∷ Value.Integer (pos 7) ∷ replicate 14 Value.Empty) ∷ [])
unfolding F frame vector_of promise_of opens small block version W P does registers execute_to ◌>>=◌ ◌>>◌ stuck_unless end_unless or_stuck at put each live_frames register full value kind_in with_stack with_frame with_register assign opened matching empty_if emptied frame_for enter over within kind_of is_owned ownership_of find_version found ◌and◌
call-gives = refl

-- the version that is picked at a level, by its number: 1.0 is of level 2
number_of : Try Version → Try ℕ
number_of t = t >>= λ X. got X.version

arg : ℕ → Argument
arg t = record { type = t; register = 0 }

picked-are : map (λ (level : ℕ). number_of (picked P level 1 0 2 (arg 0x13 ∷ arg 2 ∷ []) (3 ∷ 2 ∷ []))) (0 ∷ 1 ∷ 2 ∷ []) ≡ got 1 ∷ got 1 ∷ got 0 ∷ []
unfolding block version W P number_of arg picked lowest dispatches same_ownerships matching ◌>>=◌ or_stuck within kind_of ownership_of find_version first_mark found ◌and◌
picked-are = refl

-- nothing fits: other ownerships, another return, or a kind that is not within
unpicked-are : number_of (picked P 2 1 0 2 (arg 3 ∷ arg 2 ∷ []) (3 ∷ 2 ∷ [])) ∷ number_of (picked P 2 1 0 3 (arg 0x13 ∷ arg 2 ∷ []) (3 ∷ 2 ∷ [])) ∷ number_of (picked P 2 1 0 2 (arg 0x13 ∷ arg 2 ∷ []) (3 ∷ 3 ∷ [])) ∷ [] ≡
    stop End.Undef ∷ stop End.Undef ∷ stop End.Undef ∷ []
unfolding block version W P number_of arg picked lowest dispatches same_ownerships matching ◌>>=◌ or_stuck within kind_of ownership_of find_version first_mark found ◌and◌
unpicked-are = refl

-- ---- 19: a run of a version of level 1, without parameters, at the levels 0, 1, 2 and 7

entry_at : ℕ → Grant
entry_at level = (question19 level (version 0 0 (2 ∷ []) 0 1) [] (replicate 16 (pos 0))).entry

levels-are : map entry_at (0 ∷ 1 ∷ 2 ∷ 7 ∷ []) ≡ Err (denied 19 0) ∷ (Ok tt) ∷ (Ok tt) ∷ (Ok tt) ∷ []
unfolding entry_at version block question19 question12 question13 refused run_level arguments long_enough
levels-are = refl

-- ---- events, for every run

-- a change that is refused leaves the run, one that is taken the state
refused-change : (r : Run) (new : List ℕ) (q p : ℕ) → change_of r.image new r.state ≡ Err (denied q p) → (handle (change new) r).run ≡ r
unfolding handle_to in_force
refused-change r new q p e = rw e refl

taken-change : (r : Run) (new : List ℕ) → change_of r.image new r.state ≡ Ok tt → (handle (change new) r).run ≡ record { image = new; state = r.state }
unfolding handle_to in_force
taken-change r new e = rw e refl

-- a budget of one step tries what a single step tries, on a run that goes on
none-behind : (s : State) (d : Said) → onward s d (λ t. []) ≡ []
unfolding onward
none-behind s Said.GoesOn = refl
none-behind s (Said.Ended e) = refl
none-behind s Said.Stuck = refl

one-tried : (r : Run) (buffer : List ℤ) → long_enough buffer ≡ true → r.state.status ≡ Status.Running → tried (budget 1 buffer) r ≡ tried single r
unfolding tried tried_by tried_in tried_under
one-tried r buffer l e = ap (map (in_state r)) (asked ∙ goes r.state.status e)
  where
    asked : tried_by (program_in r) r.state 1 buffer ≡ tried_in (program_in r) r.state 1 r.state.status
    asked = rw (l, tried_by) refl

    goes : (st : Status) → st ≡ Status.Running → tried_in (program_in r) r.state 1 st ≡ r.state ∷ []
    goes Status.Running h = let x = step_of (program_in r) r.state in ap (λ (ss : List State). r.state ∷ ss) (none-behind x.state x.said)
    goes (Status.Ended x) h = let z : ◌≡◌ {A = ℕ} 0 1 = cc in absurd (omega arith)

-- the history of a list is that of its first event and of the others
history-of : (e : Event) (es : List Event) (r : Run) → history (e ∷ es) r ≡ tried e r ++ history es (handle e r).run
unfolding history
history-of e es r = refl
