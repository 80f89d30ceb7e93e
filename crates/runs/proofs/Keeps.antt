-- What keeps the calls of a state: every part of a step but the entry and the end of a call, and every instruction but CALL and DISPATCH.
use mathlib.Core.Path.{◌≡◌, refl, sym, ap, ◌∙◌}
use mathlib.Core.Logic.{◌≢◌}
use mathlib.Core.List.{List, [], ◌∷◌}
use mathlib.Core.Option.{none, some}
use mathlib.Core.Bool.{Bool, true, false, cond, not, true≢false}
use Prim.Native.Nat.{ℕ, zero, suc, ◌+◌, ◌-◌, ◌≤◌, ◌<◌}
use native.Mathlib.Decide.{dec_lt}
use native.Mathlib.Omega.{arith}
use lib.ListN.{length, get_elem?, set, take}
use lib.Dec.{leb, ltb}
use Rattle.layout.specs.Bounds.{INSTRUCTIONS}
use Rattle.program.specs.Program.{Instr, LIT, MOVE, USE, DUP, VEC, LEN, GET, SET, ARITH, SELECT, CAST, NAMED, STORE, PROM, FORCE, PEEK, POKE, CALL, DISPATCH, SKIP, Version, Program}
use Rattle.rules.specs.Types.{kind_of, is_owned, within}
use Rattle.machine.specs.Try.{Try, got, stuck, stop, ◌>>=◌, ◌>>◌, stuck_unless, end_unless, at, put, each}
use Rattle.machine.specs.Values.{index, is_zero}
use Rattle.machine.specs.Values as values
use Rattle.machine.specs.States.{ACTIVATIONS, place, items_of, new_vector, live_frames, live_activations, value, integer, vector, promise, plain, name, kind_in, free_vector, free_promise, pending, with_stack, with_vector, with_promise, with_frame, with_register, with_name, assign, store}
use Rattle.machine.specs.Calls.{opened, passed, empty_if, emptied, force, skipped}
use Rattle.machine.specs.Steps.{alone, execute, execute_to}
use Rattle.machine.specs.declared.Activation.{Activation}
use Rattle.machine.specs.declared.Cache.{Cache}
use Rattle.machine.specs.declared.End.{End}
use Rattle.machine.specs.declared.Frame.{Frame}
use Rattle.machine.specs.declared.Promise.{Promise}
use Rattle.machine.specs.declared.State.{State}
use Rattle.machine.specs.declared.Value.{Value}
use Rattle.machine.specs.declared.Vector.{Vector}
use Rattle.layout.proofs.Lists.{get_take, take_in, take_none}
use Rattle.machine.proofs.Tries.{or-stuck}
use Rattle.runs.specs.Lives.{numbers, call_at, Stays, is_call}

-- ---- results: a part of a step that has one

-- its result, if it has one, is in Q
unfoldable pub Gives : {A : Type 0} → (A → Type 0) → Try A → Type 0
Gives Q (got a) = Q a
Gives Q stuck = Unit {0}
Gives Q (stop e) = Unit {0}

-- the line `x ← t`
pub gives_then : {A B : Type 0} (Q : B → Type 0) (t : Try A) (f : A → Try B) → ((a : A) → t ≡ got a → Gives Q (f a)) → Gives Q (t >>= f)
unfolding ◌>>=◌ Gives
gives_then Q (got a) f k = k a refl
gives_then Q stuck f k = tt
gives_then Q (stop e) f k = tt

-- the line `t`
pub gives-next : {A B : Type 0} (Q : B → Type 0) (t : Try A) (u : Try B) → ((a : A) → t ≡ got a → Gives Q u) → Gives Q (t >> u)
unfolding ◌>>◌ Gives
gives-next Q (got a) u k = k a refl
gives-next Q stuck u k = tt
gives-next Q (stop e) u k = tt

-- the result of t is in R, so that of the whole is in Q
pub gives_after : {A B : Type 0} (Q : B → Type 0) (R : A → Type 0) (t : Try A) (f : A → Try B) → Gives R t → ((a : A) → R a → Gives Q (f a)) → Gives Q (t >>= f)
unfolding ◌>>=◌ Gives
gives_after Q R (got a) f h k = k a h
gives_after Q R stuck f h k = tt
gives_after Q R (stop e) f h k = tt

-- what follows from Q
pub gives-weaken : {A : Type 0} (Q R : A → Type 0) (t : Try A) → Gives Q t → ((a : A) → Q a → R a) → Gives R t
unfolding Gives
gives-weaken Q R (got a) h k = k a h
gives-weaken Q R stuck h k = tt
gives-weaken Q R (stop e) h k = tt

-- a result that is there
pub gives-got : {A : Type 0} (Q : A → Type 0) (t : Try A) (a : A) → Gives Q t → t ≡ got a → Q a
unfolding Gives
gives-got Q t a h e = rw e at h

-- a test that passed
pub test-true : (b : Bool) (x : Unit {0}) → stuck_unless b ≡ got x → b ≡ true
unfolding stuck_unless
test-true true x e = refl
test-true false x e = let z : ◌≡◌ {A = ℕ} 0 1 = cc in absurd (omega arith)

-- ---- lists of any length

-- a frame put in the place of one with the same numbers
same_numbers : (fs : List Frame) (k : ℕ) (f g : Frame) → get_elem? fs k ≡ some f → g.function ≡ f.function → g.version ≡ f.version → (j : ℕ) → numbers (get_elem? (set fs k g) j) ≡ numbers (get_elem? fs j)
unfolding numbers
same_numbers [] k f g e p q j = refl
same_numbers (x ∷ fs) zero f g e p q zero = let y : x ≡ f = cc in rw (y, p, q) refl
same_numbers (x ∷ fs) zero f g e p q (suc j) = refl
same_numbers (x ∷ fs) (suc k) f g e p q zero = refl
same_numbers (x ∷ fs) (suc k) f g e p q (suc j) = same_numbers fs k f g e p q j

-- ---- the calls of a state

-- below the count it is the frame's
pub call-in : (s : State) (k : ℕ) → k < s.calls → call_at s k ≡ numbers (get_elem? s.frames k)
unfolding call_at live_frames
call-in s k h = ap numbers (get_take s.frames s.calls k h)

-- from the count on there is none
pub call-out : (s : State) (k : ℕ) → s.calls ≤ k → call_at s k ≡ none
unfolding call_at live_frames numbers
call-out s k h = ap numbers (take_none s.frames s.calls k h)

-- t has the frames of s, each with its numbers, and goes on as s does
pub record Keeps (s t : State) : Type 0 where
  pub count : t.calls ≡ s.calls
  pub status : t.status ≡ s.status
  pub frames : (k : ℕ) → numbers (get_elem? t.frames k) ≡ numbers (get_elem? s.frames k)

-- one after the other
pub keeps-trans : (s t u : State) → Keeps s t → Keeps t u → Keeps s u
keeps-trans s t u a b = record { count = b.count ∙ a.count; status = b.status ∙ a.status; frames = λ k. b.frames k ∙ a.frames k }

-- nothing done
keeps_same : (s : State) → Keeps s s
keeps_same s = record { count = refl; status = refl; frames = λ k. refl }

-- so the same calls are live
pub keeps-stays : (s t : State) → Keeps s t → Stays s t
keeps-stays s t h = record { count = h.count; same = λ k. go k (dec_lt k s.calls) }
  where
    go : (k : ℕ) → Dec (k < s.calls) → call_at t k ≡ call_at s k
    go k (yes l) = call-in t k (omega (arith, h.count)) ∙ h.frames k ∙ sym (call-in s k l)
    go k (no l) = call-out t k (omega (arith, h.count)) ∙ sym (call-out s k (omega arith))

-- ---- what keeps them

-- a live frame that is found stands in the state
live-there : (s : State) (k : ℕ) (f : Frame) → at (live_frames s) k ≡ got f → get_elem? s.frames k ≡ some f
unfolding at live_frames
live-there s k f e = let l = or-stuck (get_elem? (take s.calls s.frames) k) f e in sym (get_take s.frames s.calls k (take_in s.frames s.calls k f l)) ∙ l

-- a live frame put to one with the same numbers
frame-keeps : (s : State) (k : ℕ) (f g : Frame) → at (live_frames s) k ≡ got f → (g.function ≡ f.function) × (g.version ≡ f.version) → Keeps s (with_frame s k g)
unfolding with_frame with_stack
frame-keeps s k f g e n = record { count = refl; status = refl; frames = same_numbers s.frames k f g (live-there s k f e) n.0 n.1 }

-- a register of a frame
register-numbers : (f : Frame) (d : ℕ) (v : Value) → Gives (λ (g : Frame). (g.function ≡ f.function) × (g.version ≡ f.version)) (with_register f d v)
unfolding with_register Gives
register-numbers f d v = gives_then _ (put f.registers d (place v)) _ (λ rs e. (refl, refl))

-- a name of a frame
name-numbers : (f : Frame) (x : ℕ) (v : Value) → Gives (λ (g : Frame). (g.function ≡ f.function) × (g.version ≡ f.version)) (with_name f x v)
unfolding with_name Gives
name-numbers f x v = gives_then _ (put f.names x (place v)) _ (λ xs e. (refl, refl))

-- a register is put
pub assign-keeps : (s : State) (k d : ℕ) (v : Value) → Gives (Keeps s) (assign s k d v)
unfolding assign Gives
assign-keeps s k d v = gives_then _ (at (live_frames s) k) _ (λ f e. gives_after _ _ (with_register f d v) _ (register-numbers f d v) (λ g n. frame-keeps s k f g e n))

-- a name is put
store_keeps : (s : State) (k x : ℕ) (v : Value) → Gives (Keeps s) (store s k x v)
unfolding store Gives
store_keeps s k x v = gives_then _ (at (live_frames s) k) _ (λ f e. gives_after _ _ (with_name f x v) _ (name-numbers f x v) (λ g n. frame-keeps s k f g e n))

-- behind what keeps them
gives-further : (s t : State) (u : Try State) → Keeps s t → Gives (Keeps t) u → Gives (Keeps s) u
gives-further s t u h g = gives-weaken (Keeps t) (Keeps s) u g (λ w k. keeps-trans s t w h k)

-- one more activation
pub opened-keeps : (s : State) (a : Activation) → Gives (Keeps s) (opened s a)
unfolding opened with_stack Gives
opened-keeps s a = gives-next _ (end_unless End.Deep (ltb s.depth ACTIVATIONS)) _ (λ x e. record { count = refl; status = refl; frames = λ k. refl })

-- the activation on top past its instruction
pub passed-keeps : (s : State) (a : Activation) → Keeps s (passed s a)
unfolding passed with_stack
passed-keeps s a = record { count = refl; status = refl; frames = λ k. refl }

-- the items of a vector
items_keep : (s : State) (v : ℕ) (w : Vector) → Keeps s (with_vector s v w)
unfolding with_vector
items_keep s v w = record { count = refl; status = refl; frames = λ k. refl }

-- a vector and a register
vector-keeps : (s : State) (k d n : ℕ) (v : Value) (w : Vector) → Gives (Keeps s) (assign (with_vector s n w) k d v)
vector-keeps s k d n v w = gives-further s (with_vector s n w) (assign (with_vector s n w) k d v) (items_keep s n w) (assign-keeps (with_vector s n w) k d v)

-- a promise and a register
promise-keeps : (s : State) (k d n : ℕ) (v : Value) (q : Promise) → Gives (Keeps s) (assign (with_promise s n q) k d v)
unfolding with_promise
promise-keeps s k d n v q = gives-further s (with_promise s n q) _ (record { count = refl; status = refl; frames = λ j. refl }) (assign-keeps (with_promise s n q) k d v)

-- an owned parameter's register
empty-keeps : (b : Bool) (s : State) (k r : ℕ) → Gives (Keeps s) (empty_if b s k r)
unfolding empty_if Gives
empty-keeps true s k r = assign-keeps s k r Value.Empty
empty-keeps false s k r = keeps_same s

-- all parameters
pub emptied-keeps : (s : State) (k : ℕ) (ts rs : List ℕ) → Gives (Keeps s) (emptied s k ts rs)
unfolding emptied Gives
emptied-keeps s k [] rs = keeps_same s
emptied-keeps s k (t ∷ ts) [] = keeps_same s
emptied-keeps s k (t ∷ ts) (r ∷ rs) = gives_after _ _ (empty_if (is_owned t) s k r) _ (empty-keeps (is_owned t) s k r) (λ u h. gives-further s u (emptied u k ts rs) h (emptied-keeps u k ts rs))

-- a force opens no frame
force-keeps : (s : State) (k d p : ℕ) (q : Promise) (c : Cache) → Gives (Keeps s) (force s k d p q c)
unfolding force
force-keeps s k d p q (Cache.Forced z) = assign-keeps s k d (Value.Integer z)
force-keeps s k d p q Cache.Unforced = gives-next _ (end_unless End.Undef (not (pending s p))) _ (λ x e. opened-keeps s _)

-- a skip moves the activation on top
skip-keeps : (b : Bool) (s : State) (n : ℕ) → Gives (Keeps s) (cond b (skipped s n) (got s))
unfolding skipped with_stack Gives
skip-keeps true s n = gives_then _ (at (live_activations s) (s.depth - 1)) _ (λ a _. gives-next _ (stuck_unless (leb (a.next + n) INSTRUCTIONS)) _ (λ _ _. record { count = refl; status = refl; frames = λ k. refl }))
skip-keeps false s n = record { count = refl; status = refl; frames = λ k. refl }

-- ---- instructions

-- no other instruction than CALL and DISPATCH changes the calls
pub execute-keeps : (P : Program) (s : State) (k : ℕ) (f : Frame) (W : Version) (i : Instr) → is_call i ≡ false → Gives (Keeps s) (execute P s k f W i)
unfolding execute_to is_call Gives
execute-keeps P s k f W (LIT d i) n = assign-keeps s k d _
execute-keeps P s k f W (MOVE d a) n =
    gives_then _ (value f a) _ (λ v _. gives_then _ (kind_in P s v) _ (λ m _. gives_then _ (at W.types d) _ (λ t _. gives-next _ (stuck_unless (within m (kind_of t))) _ (λ _ _. assign-keeps s k d v))))
execute-keeps P s k f W (USE d a) n = gives_then _ (vector f a) _ (λ v _. gives_after _ _ (assign s k a Value.Empty) _ (assign-keeps s k a Value.Empty) (λ t h. gives-further s t (assign t k d (Value.Vector v)) h (assign-keeps t k d (Value.Vector v))))
execute-keeps P s k f W (DUP d a) n = gives_then _ (vector f a) _ (λ v _. gives_then _ (at s.vectors v) _ (λ w _. gives_then _ (free_vector s) _ (λ m _. vector-keeps s k d m (Value.Vector m) w)))
execute-keeps P s k f W (VEC d rs) n = gives_then _ (each (integer f) rs) _ (λ xs _. gives_then _ (free_vector s) _ (λ m _. vector-keeps s k d m (Value.Vector m) (new_vector xs)))
execute-keeps P s k f W (LEN d a) n = gives_then _ (vector f a) _ (λ v _. gives_then _ (at s.vectors v) _ (λ w _. assign-keeps s k d _))
execute-keeps P s k f W (GET d a i) n =
    gives_then _ (vector f a) _ (λ v _. gives_then _ (at s.vectors v) _ (λ w _. gives_then _ (integer f i) _ (λ z _. gives_then _ (index z (length (items_of w))) _ (λ j _. assign-keeps s k d _))))
execute-keeps P s k f W (SET a i e) n =
    gives_then _ (vector f a) _ (λ v _. gives_then _ (at s.vectors v) _ (λ w _. gives_then _ (integer f i) _ (λ z _. gives_then _ (integer f e) _ (λ x _.
    gives-next _ (alone s k a v) _ (λ _ _. gives_then _ (index z (length (items_of w))) _ (λ j _. items_keep s v _))))))
execute-keeps P s k f W (ARITH d op a b) n = gives_then _ (integer f a) _ (λ x _. gives_then _ (integer f b) _ (λ y _. gives_then _ (values.arith op x y) _ (λ z _. assign-keeps s k d (Value.Integer z))))
execute-keeps P s k f W (SELECT d c a b) n = gives_then _ (integer f c) _ (λ z _. gives_then _ (integer f a) _ (λ x _. gives_then _ (integer f b) _ (λ y _. assign-keeps s k d _)))
execute-keeps P s k f W (CAST d a) n =
    gives_then _ (value f a) _ (λ v _. gives_then _ (kind_in P s v) _ (λ m _. gives_then _ (at W.types d) _ (λ t _. gives-next _ (end_unless End.Undef (within m (kind_of t))) _ (λ _ _. assign-keeps s k d v))))
execute-keeps P s k f W (NAMED d x) n = gives_then _ (name f x) _ (λ v _. assign-keeps s k d v)
execute-keeps P s k f W (STORE x a) n = gives_then _ (plain f a) _ (λ v _. store_keeps s k x v)
execute-keeps P s k f W (PROM d block) n = gives-next _ (at W.blocks block) _ (λ _ _. gives_then _ (free_promise s) _ (λ m _. promise-keeps s k d m (Value.Promise m) _))
execute-keeps P s k f W (FORCE d a) n = gives_then _ (promise f a) _ (λ p _. gives_then _ (at s.promises p) _ (λ q _. force-keeps s k d p q q.cache))
execute-keeps P s k f W (PEEK d a x) n =
    gives_then _ (promise f a) _ (λ p _. gives_then _ (at s.promises p) _ (λ q _. gives_then _ (at (live_frames s) q.frame) _ (λ g _. gives_then _ (name g x) _ (λ v _. assign-keeps s k d v))))
execute-keeps P s k f W (POKE a x e) n = gives_then _ (promise f a) _ (λ p _. gives_then _ (at s.promises p) _ (λ q _. gives_then _ (plain f e) _ (λ v _. store_keeps s q.frame x v)))
execute-keeps P s k f W (CALL d g w rs) n = absurd (true≢false n)
execute-keeps P s k f W (DISPATCH d g mark ret pairs) n = absurd (true≢false n)
execute-keeps P s k f W (SKIP a m) n = gives_then _ (integer f a) _ (λ z _. skip-keeps (is_zero z) s m)
