-- No part of a step stops with DONE: a stop is UNDEF, DEEP, VECTORS or PROMISES.
use mathlib.Core.Path.{◌≡◌, refl}
use mathlib.Core.List.{List, [], ◌∷◌}
use mathlib.Core.Option.{Option, none, some}
use mathlib.Core.Bool.{Bool, true, false, cond, not}
use Prim.Native.Nat.{ℕ, zero, suc, ◌+◌, ◌-◌}
use lib.IntN.{ℤ, pos, negsuc}
use lib.ListN.{length, get_elem?}
use lib.Dec.{eqb, leb, ltb}
use Rattle.layout.specs.Bounds.{INSTRUCTIONS}
use lib.Signed.{mag}
use Rattle.layout.specs.Records.{choose}
use Rattle.layout.specs.Tests.{◌and◌, found}
use Rattle.program.specs.Program.{Instr, LIT, MOVE, USE, DUP, VEC, LEN, GET, SET, ARITH, SELECT, CAST, NAMED, STORE, PROM, FORCE, PEEK, POKE, CALL, DISPATCH, SKIP, Version, Program, find_version, parameter_types}
use Rattle.rules.specs.Types.{kind_of, is_owned, within}
use Rattle.machine.specs.Try.{Try, got, stuck, stop, ◌>>=◌, ◌>>◌, stuck_unless, end_unless, or_stuck, at, put, each}
use Rattle.machine.specs.Values.{RANGE, ranged, is_zero, divided, arith, index, ranged_to, divided_to, arith_to}
use Rattle.machine.specs.States.{ACTIVATIONS, place, items_of, live_frames, live_activations, register, named, full, an_integer, a_vector, a_promise, no_promise, is_set, value, integer, vector, promise, plain, name, kind_in, vector_counts, free, free_vector, free_promise, pending, with_vector, with_promise, with_register, with_name, assign, store}
use Rattle.machine.specs.Calls.{opened, passed, matching, empty_if, emptied, frame_for, enter, lowest, picked, force, skipped, done, back, finish}
use Rattle.machine.specs.Steps.{alone, registers_of, execute, execute_to, Here, here, Position, instruction, block_end, outside, position_of, proceed, proceed_to, advance, advance_to}
use Rattle.machine.specs.declared.Activation.{Activation}
use Rattle.machine.specs.declared.Cache.{Cache}
use Rattle.machine.specs.declared.End.{End}
use Rattle.machine.specs.declared.Frame.{Frame}
use Rattle.machine.specs.declared.Opener.{Opener}
use Rattle.machine.specs.declared.Promise.{Promise}
use Rattle.machine.specs.declared.State.{State}
use Rattle.machine.specs.declared.Value.{Value}
use Rattle.runs.specs.Lives.{is_done}

-- it does not stop with DONE
unfoldable pub Halts : {A : Type 0} → Try A → Type 0
Halts (got a) = Unit {0}
Halts stuck = Unit {0}
Halts (stop e) = is_done e ≡ false

-- ---- the lines of a `do`

-- `x ← t`
bind : {A B : Type 0} (t : Try A) (f : A → Try B) → Halts t → ((a : A) → Halts (f a)) → Halts (t >>= f)
unfolding ◌>>=◌ Halts
bind (got a) f h k = k a
bind stuck f h k = tt
bind (stop e) f h k = h

-- `t`
next : {A B : Type 0} (t : Try A) (u : Try B) → Halts t → Halts u → Halts (t >> u)
unfolding ◌>>◌ Halts
next (got a) u h k = k
next stuck u h k = tt
next (stop e) u h k = h

-- a test
test-halts : (b : Bool) → Halts (stuck_unless b)
unfolding stuck_unless Halts
test-halts true = tt
test-halts false = tt

-- a test for an end
end-halts : (e : End) (b : Bool) → is_done e ≡ false → Halts (end_unless e b)
unfolding end_unless Halts
end-halts e true h = tt
end-halts e false h = h

-- the tests for UNDEF
undef-halts : (b : Bool) → Halts (end_unless End.Undef b)
unfolding is_done
undef-halts b = end-halts End.Undef b refl

-- a look-up
or-halts : {A : Type 0} (o : Option A) → Halts (or_stuck o)
unfolding or_stuck Halts
or-halts none = tt
or-halts (some a) = tt

-- a place of a list
at-halts : {A : Type 0} (xs : List A) (i : ℕ) → Halts (at xs i)
unfolding at
at-halts xs i = or-halts (get_elem? xs i)

-- a place that is put to something
put-halts : {A : Type 0} (xs : List A) (i : ℕ) (x : A) → Halts (put xs i x)
unfolding put Halts
put-halts xs i x = next _ _ (test-halts (ltb i (length xs))) tt

-- one after the other
each-halts : {A B : Type 0} (f : A → Try B) (xs : List A) → ((a : A) → Halts (f a)) → Halts (each f xs)
unfolding each Halts
each-halts f [] h = tt
each-halts f (x ∷ xs) h = bind (f x) _ (h x) (λ y. bind (each f xs) _ (each-halts f xs h) (λ ys. tt))

-- ---- operands

-- what a register holds
register-halts : (f : Frame) (r : ℕ) → Halts (register f r)
unfolding register Halts
register-halts f r = bind _ _ (at-halts f.registers r) (λ c. tt)

-- what a name holds
named-halts : (f : Frame) (x : ℕ) → Halts (named f x)
unfolding named Halts
named-halts f x = bind _ _ (at-halts f.names x) (λ c. tt)

-- that it is there
full-halts : (v : Value) → Halts (full v)
unfolding full Halts
full-halts Value.Empty = tt
full-halts (Value.Integer z) = tt
full-halts (Value.Vector v) = tt
full-halts (Value.Promise p) = tt

-- that it is an integer
an-integer-halts : (v : Value) → Halts (an_integer v)
unfolding an_integer Halts
an-integer-halts Value.Empty = tt
an-integer-halts (Value.Integer z) = tt
an-integer-halts (Value.Vector v) = tt
an-integer-halts (Value.Promise p) = tt

-- a vector
a-vector-halts : (v : Value) → Halts (a_vector v)
unfolding a_vector Halts
a-vector-halts Value.Empty = tt
a-vector-halts (Value.Integer z) = tt
a-vector-halts (Value.Vector v) = tt
a-vector-halts (Value.Promise p) = tt

-- a promise
a-promise-halts : (v : Value) → Halts (a_promise v)
unfolding a_promise Halts
a-promise-halts Value.Empty = tt
a-promise-halts (Value.Integer z) = tt
a-promise-halts (Value.Vector v) = tt
a-promise-halts (Value.Promise p) = tt

-- no promise
no-promise-halts : (v : Value) → Halts (no_promise v)
unfolding no_promise Halts
no-promise-halts Value.Empty = tt
no-promise-halts (Value.Integer z) = tt
no-promise-halts (Value.Vector v) = tt
no-promise-halts (Value.Promise p) = tt

-- that a name is set: UNDEF
is-set-halts : (v : Value) → Halts (is_set v)
unfolding is_set Halts is_done
is-set-halts Value.Empty = refl
is-set-halts (Value.Integer z) = tt
is-set-halts (Value.Vector v) = tt
is-set-halts (Value.Promise p) = tt

-- the operands: a value
value-halts : (f : Frame) (r : ℕ) → Halts (value f r)
unfolding value
value-halts f r = bind _ _ (register-halts f r) full-halts

-- an integer
integer-halts : (f : Frame) (r : ℕ) → Halts (integer f r)
unfolding integer
integer-halts f r = bind _ _ (register-halts f r) an-integer-halts

-- a vector
vector-halts : (f : Frame) (r : ℕ) → Halts (vector f r)
unfolding vector
vector-halts f r = bind _ _ (register-halts f r) a-vector-halts

-- a promise
promise-halts : (f : Frame) (r : ℕ) → Halts (promise f r)
unfolding promise
promise-halts f r = bind _ _ (register-halts f r) a-promise-halts

-- kind 1
plain-halts : (f : Frame) (r : ℕ) → Halts (plain f r)
unfolding plain
plain-halts f r = bind _ _ (register-halts f r) no-promise-halts

-- a name
name-halts : (f : Frame) (x : ℕ) → Halts (name f x)
unfolding name
name-halts f x = bind _ _ (named-halts f x) is-set-halts

-- the kind of a value
kind-halts : (P : Program) (s : State) (v : Value) → Halts (kind_in P s v)
unfolding kind_in Halts
kind-halts P s Value.Empty = tt
kind-halts P s (Value.Integer z) = tt
kind-halts P s (Value.Vector v) = next _ _ (at-halts s.vectors v) tt
kind-halts P s (Value.Promise p) = bind _ _ (at-halts s.promises p) (λ q. bind _ _ (at-halts (live_frames s) q.frame) (λ f. bind _ _ (or-halts (find_version P f.function f.version)) (λ W. bind _ _ (at-halts W.blocks q.block) (λ B. tt))))

-- a free place
free-halts : (e : End) (counts : ℕ → Bool) (n i : ℕ) → is_done e ≡ false → Halts (free e counts n i)
unfolding free Halts
free-halts e counts zero i h = h
free-halts e counts (suc n) i h = go (counts i) (free-halts e counts n (suc i) h)
  where
    go : (b : Bool) → Halts (free e counts n (suc i)) → Halts {A = ℕ} (elim b [ true ↦ free e counts n (suc i) | false ↦ got i ])
    go true ih = ih
    go false ih = tt

-- VECTORS
free-vector-halts : (s : State) → Halts (free_vector s)
unfolding free_vector is_done
free-vector-halts s = free-halts End.Vectors _ _ 0 refl

-- PROMISES
free-promise-halts : (s : State) → Halts (free_promise s)
unfolding free_promise is_done
free-promise-halts s = free-halts End.Promises _ _ 0 refl

-- ---- integers

-- the range
ranged-halts : (z : ℤ) → Halts (ranged z)
unfolding ranged_to Halts
ranged-halts z = next _ _ (undef-halts (ltb (mag z) RANGE)) tt

-- division
divided-halts : (x y : ℤ) → Halts (divided x y)
unfolding divided_to
divided-halts x y = next _ _ (undef-halts (not (is_zero y))) (ranged-halts _)

-- an index
index-halts : (z : ℤ) (n : ℕ) → Halts (index z n)
unfolding index Halts is_done
index-halts (pos i) n = next _ _ (undef-halts (ltb i n)) tt
index-halts (negsuc i) n = refl

-- a choice of two
cond-halts : {A : Type 0} (b : Bool) (t u : Try A) → Halts t → Halts u → Halts (cond b t u)
cond-halts true t u h k = h
cond-halts false t u h k = k

-- ARITH
arith-halts : (op : ℕ) (x y : ℤ) → Halts (arith op x y)
unfolding arith_to choose Halts
arith-halts op x y = cond-halts (eqb op 0) _ _ (ranged-halts _) (cond-halts (eqb op 1) _ _ (ranged-halts _) (cond-halts (eqb op 2) _ _ (ranged-halts _) (cond-halts (eqb op 3) _ _ (divided-halts x y) (cond-halts (eqb op 4) _ _ tt tt))))

-- ---- writing

-- a register
assign-halts : (s : State) (k d : ℕ) (v : Value) → Halts (assign s k d v)
unfolding assign with_register Halts
assign-halts s k d v = bind _ _ (at-halts (live_frames s) k) (λ f. bind _ _ (bind _ _ (put-halts f.registers d (place v)) (λ rs. tt)) (λ g. tt))

-- a name
store-halts : (s : State) (k x : ℕ) (v : Value) → Halts (store s k x v)
unfolding store with_name Halts
store-halts s k x v = bind _ _ (at-halts (live_frames s) k) (λ f. bind _ _ (bind _ _ (put-halts f.names x (place v)) (λ xs. tt)) (λ g. tt))

-- DEEP
opened-halts : (s : State) (a : Activation) → Halts (opened s a)
unfolding opened Halts is_done
opened-halts s a = next _ _ (end-halts End.Deep (ltb s.depth ACTIVATIONS) refl) tt

-- an owned parameter's register
empty-halts : (b : Bool) (s : State) (k r : ℕ) → Halts (empty_if b s k r)
unfolding empty_if Halts
empty-halts true s k r = assign-halts s k r Value.Empty
empty-halts false s k r = tt

-- all parameters
emptied-halts : (s : State) (k : ℕ) (ts rs : List ℕ) → Halts (emptied s k ts rs)
unfolding emptied Halts
emptied-halts s k [] rs = tt
emptied-halts s k (t ∷ ts) [] = tt
emptied-halts s k (t ∷ ts) (r ∷ rs) = bind (empty_if (is_owned t) s k r) _ (empty-halts (is_owned t) s k r) (λ u. emptied-halts u k ts rs)

-- a call
enter-halts : (s : State) (k d : ℕ) (W : Version) (rs : List ℕ) (vs : List Value) → Halts (enter s k d W rs vs)
unfolding enter Halts
enter-halts s k d W rs vs = bind _ _ (opened-halts s _) (λ t. bind _ _ (emptied-halts t k (parameter_types W) rs) (λ u. bind _ _ (put-halts u.frames u.calls (frame_for W vs)) (λ fs. tt)))

-- DISPATCH with no fit: UNDEF
lowest-halts : (P : Program) (f : ℕ) (passes : Version → Bool) (n w : ℕ) → Halts (lowest P f passes n w)
unfolding lowest Halts is_done
lowest-halts P f passes zero w = refl
lowest-halts P f passes (suc n) w = go (found (find_version P f w) passes) (lowest-halts P f passes n (suc w))
  where
    go : (b : Bool) → Halts (lowest P f passes n (suc w)) → Halts {A = Version} (elim b [ true ↦ or_stuck (find_version P f w) | false ↦ lowest P f passes n (suc w) ])
    go true ih = or-halts (find_version P f w)
    go false ih = ih

-- a force
force-halts : (s : State) (k d p : ℕ) (q : Promise) (c : Cache) → Halts (force s k d p q c)
unfolding force
force-halts s k d p q (Cache.Forced z) = assign-halts s k d (Value.Integer z)
force-halts s k d p q Cache.Unforced = next _ _ (undef-halts (not (pending s p))) (opened-halts s _)

-- a skip
skip-halts : (b : Bool) (s : State) (n : ℕ) → Halts (cond b (skipped s n) (got s))
unfolding skipped Halts
skip-halts true s n = bind _ _ (at-halts (live_activations s) (s.depth - 1)) (λ a. next _ _ (test-halts (leb (a.next + n) INSTRUCTIONS)) tt)
skip-halts false s n = tt

-- ---- instructions

-- every instruction
execute-halts : (P : Program) (s : State) (k : ℕ) (f : Frame) (W : Version) (i : Instr) → Halts (execute P s k f W i)
unfolding execute_to alone picked Halts
execute-halts P s k f W (LIT d i) = assign-halts s k d _
execute-halts P s k f W (MOVE d a) = bind _ _ (value-halts f a) (λ v. bind _ _ (kind-halts P s v) (λ m. bind _ _ (at-halts W.types d) (λ t. next _ _ (test-halts (within m (kind_of t))) (assign-halts s k d v))))
execute-halts P s k f W (USE d a) = bind _ _ (vector-halts f a) (λ v. bind _ _ (assign-halts s k a Value.Empty) (λ t. assign-halts t k d (Value.Vector v)))
execute-halts P s k f W (DUP d a) = bind _ _ (vector-halts f a) (λ v. bind _ _ (at-halts s.vectors v) (λ w. bind _ _ (free-vector-halts s) (λ n. assign-halts (with_vector s n w) k d _)))
execute-halts P s k f W (VEC d rs) = bind _ _ (each-halts (integer f) rs (integer-halts f)) (λ xs. bind _ _ (free-vector-halts s) (λ n. assign-halts _ k d _))
execute-halts P s k f W (LEN d a) = bind _ _ (vector-halts f a) (λ v. bind _ _ (at-halts s.vectors v) (λ w. assign-halts s k d _))
execute-halts P s k f W (GET d a i) = bind _ _ (vector-halts f a) (λ v. bind _ _ (at-halts s.vectors v) (λ w. bind _ _ (integer-halts f i) (λ z. bind _ _ (index-halts z (length (items_of w))) (λ j. assign-halts s k d _))))
execute-halts P s k f W (SET a i e) = bind _ _ (vector-halts f a) (λ v. bind _ _ (at-halts s.vectors v) (λ w. bind _ _ (integer-halts f i) (λ z. bind _ _ (integer-halts f e) (λ x.
    next _ _ (bind _ _ (assign-halts s k a Value.Empty) (λ t. test-halts (not (vector_counts t v)))) (bind _ _ (index-halts z (length (items_of w))) (λ j. tt))))))
execute-halts P s k f W (ARITH d op a b) = bind _ _ (integer-halts f a) (λ x. bind _ _ (integer-halts f b) (λ y. bind _ _ (arith-halts op x y) (λ z. assign-halts s k d _)))
execute-halts P s k f W (SELECT d c a b) = bind _ _ (integer-halts f c) (λ z. bind _ _ (integer-halts f a) (λ x. bind _ _ (integer-halts f b) (λ y. assign-halts s k d _)))
execute-halts P s k f W (CAST d a) = bind _ _ (value-halts f a) (λ v. bind _ _ (kind-halts P s v) (λ m. bind _ _ (at-halts W.types d) (λ t. next _ _ (undef-halts (within m (kind_of t))) (assign-halts s k d v))))
execute-halts P s k f W (NAMED d x) = bind _ _ (name-halts f x) (λ v. assign-halts s k d v)
execute-halts P s k f W (STORE x a) = bind _ _ (plain-halts f a) (λ v. store-halts s k x v)
execute-halts P s k f W (PROM d block) = next _ _ (at-halts W.blocks block) (bind _ _ (free-promise-halts s) (λ n. assign-halts _ k d _))
execute-halts P s k f W (FORCE d a) = bind _ _ (promise-halts f a) (λ p. bind _ _ (at-halts s.promises p) (λ q. force-halts s k d p q q.cache))
execute-halts P s k f W (PEEK d a x) = bind _ _ (promise-halts f a) (λ p. bind _ _ (at-halts s.promises p) (λ q. bind _ _ (at-halts (live_frames s) q.frame) (λ g. bind _ _ (name-halts g x) (λ v. assign-halts s k d v))))
execute-halts P s k f W (POKE a x e) = bind _ _ (promise-halts f a) (λ p. bind _ _ (at-halts s.promises p) (λ q. bind _ _ (plain-halts f e) (λ v. store-halts s q.frame x v)))
execute-halts P s k f W (CALL d g w rs) = bind _ _ (or-halts (find_version P g w)) (λ X. bind _ _ (each-halts (value f) rs (value-halts f)) (λ vs. bind _ _ (each-halts (kind_in P s) vs (kind-halts P s)) (λ ks.
    next _ _ (test-halts (matching ks (parameter_types X))) (enter-halts s k d X rs vs))))
execute-halts P s k f W (DISPATCH d g mark ret pairs) = bind _ _ (each-halts (value f) (registers_of pairs) (value-halts f)) (λ vs. bind _ _ (each-halts (kind_in P s) vs (kind-halts P s)) (λ ks.
    bind _ _ (lowest-halts P g _ _ 0) (λ X. enter-halts s k d X (registers_of pairs) vs)))
execute-halts P s k f W (SKIP a n) = bind _ _ (integer-halts f a) (λ z. skip-halts (is_zero z) s n)

-- ---- block ends

-- DONE has a result
done-halts : (s : State) (v : Value) → Halts (done s v)
unfolding done Halts
done-halts s Value.Empty = tt
done-halts s (Value.Integer z) = tt
done-halts s (Value.Vector v) = bind _ _ (at-halts s.vectors v) (λ w. tt)
done-halts s (Value.Promise p) = tt

-- the way back to the caller
back-halts : (s : State) (n d : ℕ) (v : Value) → Halts (back s n d v)
unfolding back
back-halts s n d v = next _ _ (test-halts (ltb 1 s.depth)) (bind _ _ (at-halts s.activations (s.depth - 2)) (λ b. assign-halts _ b.frame d v))

-- an activation ends
finish-halts : (P : Program) (s : State) (a : Activation) (W : Version) (v : Value) (o : Opener) → Halts (finish P s a W v o)
unfolding finish
finish-halts P s a W v Opener.Call = bind _ _ (kind-halts P s v) (λ k. next _ _ (test-halts (within k (kind_of W.return))) (next _ _ (test-halts (eqb a.block 0 and eqb (a.frame + 1) s.calls)) (go (eqb s.depth 1))))
  where
    go : (b : Bool) → Halts {A = State} (elim b [ true ↦ done s v | false ↦ back s a.frame a.d v ])
    go true = done-halts s v
    go false = back-halts s a.frame a.d v
finish-halts P s a W v (Opener.Force p) = bind _ _ (an-integer-halts v) (λ z. bind _ _ (at-halts s.promises p) (λ q. back-halts (with_promise s p (record { frame = q.frame; block = q.block; cache = Cache.Forced z })) s.calls a.d v))

-- ---- the step

-- where a run stands
here-halts : (P : Program) (s : State) → Halts (here P s)
unfolding here Halts
here-halts P s = bind _ _ (at-halts (live_activations s) (s.depth - 1)) (λ a. bind _ _ (at-halts (live_frames s) a.frame) (λ f. bind _ _ (or-halts (find_version P f.function f.version)) (λ W. bind _ _ (at-halts W.blocks a.block) (λ B. tt))))

-- by what stands there
proceed-halts : (P : Program) (s : State) (h : Here) (x : Position) → Halts (proceed P s h x)
unfolding proceed_to Halts
proceed-halts P s h (instruction i) = execute-halts P (passed s h.activation) h.activation.frame h.frame h.version i
proceed-halts P s h block_end = bind _ _ (value-halts h.frame h.block.result) (λ v. finish-halts P s h.activation h.version v h.activation.opener)
proceed-halts P s h outside = tt

-- THE LAW: no step stops with DONE
pub advance-halts : (P : Program) (s : State) → Halts (advance P s)
unfolding advance_to
advance-halts P s = bind _ _ (here-halts P s) (λ h. proceed-halts P s h (position_of h))
