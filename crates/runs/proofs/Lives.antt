-- What a step does to the live calls: only the entry of a call and the end of its body change how many there are.
use Rattle.std.specs.Prelude.{Err, Ok}
use mathlib.Core.Path.{◌≡◌, refl, sym, ap, ◌∙◌}
use mathlib.Core.Logic.{◌≢◌, ◌⊎◌, inl, inr}
use mathlib.Core.List.{List, [], ◌∷◌}
use mathlib.Core.Option.{Option, none, some}
use mathlib.Core.Bool.{Bool, true, false, not, true≢false}
use Prim.Native.Nat.{ℕ, zero, suc, ◌+◌, ◌-◌, ◌<◌}
use native.Mathlib.Decide.{dec_lt}
use native.Mathlib.Omega.{arith}
use lib.IntN.{ℤ}
use lib.ListN.{length, set}
use lib.Dec.{eqb, leb, ltb}
use borrow.Author.Tests.{eqb-true}
use Rattle.layout.specs.Bounds.{VERSIONS}
use Rattle.layout.specs.Tests.{◌and◌, found}
use Rattle.layout.proofs.Bools.{and_both}
use Rattle.layout.proofs.Lists.{get_other, get-same}
use Rattle.machine.proofs.Tries.{or-stuck, put-there}
use Rattle.program.specs.Program.{Argument, Instr, LIT, MOVE, USE, DUP, VEC, LEN, GET, SET, ARITH, SELECT, CAST, NAMED, STORE, PROM, FORCE, PEEK, POKE, CALL, DISPATCH, SKIP, Version, Program, find_version, parameter_types}
use Rattle.rules.specs.Types.{kind_of, within}
use Rattle.checker.specs.Verdicts.{verdict_of, Verdict}
use Rattle.machine.specs.Try.{Try, got, stuck, stop, stuck_unless, or_stuck, at, put, each}
use Rattle.machine.specs.States.{over, items_of, live_frames, an_integer, value, kind_in, with_stack, with_promise, with_end}
use Rattle.machine.specs.Calls.{opened, passed, matching, emptied, frame_for, enter, dispatches, lowest, picked, closed, done, back, finish}
use Rattle.machine.specs.Steps.{registers_of, execute, Here, here, Position, instruction, block_end, outside, position_of, proceed, advance, proceed_to, advance_to, execute_to}
use Rattle.machine.specs.Runs.{saying, settled, step_in, step_in_to, step_of_to, long_enough}
use Rattle.machine.specs.Begin.{Given, arguments, values_of, vectors_of, first_state, refused, question11, question19, run_level, question12, question13, entered_of, begin_after, begin_of, program_of}
use Rattle.machine.specs.declared.Activation.{Activation}
use Rattle.machine.specs.declared.Cache.{Cache}
use Rattle.machine.specs.declared.End.{End}
use Rattle.machine.specs.declared.Frame.{Frame}
use Rattle.machine.specs.declared.Opener.{Opener}
use Rattle.machine.specs.declared.Promise.{Promise}
use Rattle.machine.specs.declared.State.{State}
use Rattle.machine.specs.declared.Status.{Status}
use Rattle.machine.specs.declared.Value.{Value}
use Rattle.machine.specs.declared.Vector.{Vector}
use Rattle.runs.specs.Lives.{numbers, call_at, Enters, Leaves, is_done, Finishes, Ends, is_call, Happens, calls, dispatches as dispatched, ends, stays, steps, Lives, Unmoved, idle, FirstCall, Advances, Moves}
use Rattle.runs.proofs.Keeps.{Gives, gives_then, gives-next, gives_after, gives-weaken, gives-got, test-true, call-in, call-out, Keeps, keeps-trans, keeps-stays, assign-keeps, opened-keeps, passed-keeps, emptied-keeps, execute-keeps}
use Rattle.program.proofs.Held.{find-numbers}
use Rattle.runs.proofs.Stops.{Halts, advance-halts}
use Rattle.machine.specs.Denials.{denied, Grant}

-- a refusal is no beginning
pub refused-begun : (q p : ℕ) → ◌≡◌ {A = Grant} (Err (denied q p)) (Ok tt) → ⊥
refused-begun q p e = let z : ◌≡◌ {A = ℕ} 0 1 = cc in omega arith

-- ---- entering a call

-- one more is live, of f.w, and the run goes on as before
abbrev pub EntersOn : State → ℕ → ℕ → State → Type 0
EntersOn s f w t = (t.status ≡ s.status) × Enters s t f w

-- the frame F put behind the live ones of u
put-enters : (s u : State) (F : Frame) → Keeps s u → u.calls < length u.frames → EntersOn s F.function F.version (with_stack u (set u.frames u.calls F) (u.calls + 1) u.activations u.depth)
unfolding with_stack numbers
put-enters s u F h l = (h.status, record { count = ap (λ (n : ℕ). n + 1) h.count; new = new; same = λ k n. same k n (dec_lt k s.calls) })
  where
    t : State
    t = with_stack u (set u.frames u.calls F) (u.calls + 1) u.activations u.depth

    new : call_at t s.calls ≡ some (F.function, F.version)
    new = ap (call_at t) (sym h.count) ∙ call-in t u.calls (omega arith) ∙ ap numbers (get-same u.frames u.calls F l)

    same : (k : ℕ) → k ≢ s.calls → Dec (k < s.calls) → call_at t k ≡ call_at s k
    same k n (yes m) = call-in t k (omega (arith, h.count)) ∙ ap numbers (get_other u.frames u.calls k F (λ e. n (e ∙ h.count))) ∙ h.frames k ∙ sym (call-in s k m)
    same k n (no m) = let g : s.calls ≢ k = λ e. n (sym e) in call-out t k (omega (arith, h.count)) ∙ sym (call-out s k (omega arith))

-- the frame of the version W
frame-enters : (s u : State) (W : Version) (vs : List Value) (fs : List Frame) → Keeps s u → put u.frames u.calls (frame_for W vs) ≡ got fs → EntersOn s W.function W.version (with_stack u fs (u.calls + 1) u.activations u.depth)
unfolding frame_for
frame-enters s u W vs fs h e =
    let p = put-there u.frames fs u.calls (frame_for W vs) e in
    rw (sym p.1) (put-enters s u (frame_for W vs) h p.0)

-- the version that is entered
pub enter-enters : (s : State) (k d : ℕ) (W : Version) (rs : List ℕ) (vs : List Value) → Gives (EntersOn s W.function W.version) (enter s k d W rs vs)
unfolding enter Gives
enter-enters s k d W rs vs =
    gives_after _ _ (opened s _) _ (opened-keeps s _)
    (λ t a. gives_after _ _ (emptied t k (parameter_types W) rs) _ (emptied-keeps t k (parameter_types W) rs)
    (λ u b. gives_then _ (put u.frames u.calls (frame_for W vs)) _ (λ fs e. frame-enters s u W vs fs (keeps-trans s t u a b) e)))

-- a version by its numbers
named-enters : (P : Program) (s : State) (k d f w : ℕ) (W : Version) (rs : List ℕ) (vs : List Value) → find_version P f w ≡ some W → Gives (EntersOn s f w) (enter s k d W rs vs)
named-enters P s k d f w W rs vs e = let n = find-numbers P f w W e in rw (sym n.0, sym n.1) (enter-enters s k d W rs vs)

-- a version that a DISPATCH picks is one of its function
lowest-found : (P : Program) (f : ℕ) (passes : Version → Bool) (n w : ℕ) (X : Version) → lowest P f passes n w ≡ got X → (v : ℕ) × (find_version P f v ≡ some X)
unfolding lowest
lowest-found P f passes zero w X e = let z : ◌≡◌ {A = ℕ} 0 1 = cc in absurd (omega arith)
lowest-found P f passes (suc n) w X e = go (found (find_version P f w) passes) e (λ g. lowest-found P f passes n (suc w) X g)
  where
    go : (b : Bool) → (elim b [ true ↦ or_stuck (find_version P f w) | false ↦ lowest P f passes n (suc w) ]) ≡ got X → (lowest P f passes n (suc w) ≡ got X → (v : ℕ) × (find_version P f v ≡ some X)) → (v : ℕ) × (find_version P f v ≡ some X)
    go true g ih = (w, or-stuck (find_version P f w) X g)
    go false g ih = ih g

-- ---- block ends

-- the run goes on as before, or is DONE
abbrev pub GoesOn : State → State → Type 0
GoesOn s t = (t.status ≡ s.status) ⊎ ((e : End) × (is_done e ≡ true) × (t.status ≡ Status.Ended e))

-- the state of which n calls are left
abbrev lowered : State → ℕ → State
lowered s n = with_stack s s.frames n s.activations (s.depth - 1)

-- the result goes to the activation below
back-keeps : (s : State) (n d : ℕ) (v : Value) → Gives (Keeps (lowered s n)) (back s n d v)
unfolding back
back-keeps s n d v = gives-next _ (stuck_unless (ltb 1 s.depth)) _ (λ _ _. gives_then _ (at s.activations (s.depth - 2)) _ (λ b _. assign-keeps (lowered s n) b.frame d v))

-- the newest call is gone
lowered-leaves : (s t : State) (n : ℕ) → n + 1 ≡ s.calls → Keeps (lowered s n) t → (t.status ≡ s.status) × Leaves s t n
unfolding with_stack
lowered-leaves s t n e h = (h.status, record { count = h.count; gone = call-out t n (omega (arith, h.count)); same = λ k m. same k m (dec_lt k n) })
  where
    same : (k : ℕ) → k ≢ n → Dec (k < n) → call_at t k ≡ call_at s k
    same k m (yes l) = call-in t k (omega (arith, h.count)) ∙ h.frames k ∙ sym (call-in s k (omega arith))
    same k m (no l) = let g : n ≢ k = λ q. m (sym q) in call-out t k (omega (arith, h.count)) ∙ sym (call-out s k (omega arith))

-- no call is gone
lowered-keeps : (s : State) (p : ℕ) (q : Promise) (t : State) → Keeps (lowered (with_promise s p q) s.calls) t → Keeps s t
unfolding with_stack with_promise
lowered-keeps s p q t h = record { count = h.count; status = h.status; frames = h.frames }

-- no call is left
finished : (s : State) (xs : List ℤ) (e : End) → s.depth ≡ 1 → is_done e ≡ true → Finishes s (with_end (closed s) xs e)
unfolding with_end closed with_stack
finished s xs e l d = record { lowest = l; count = refl; gone = λ k. call-out (with_end (closed s) xs e) k (omega arith); end = e; done = d; status = refl }

-- DONE
done-finishes : (s : State) (v : Value) → s.depth ≡ 1 → Gives (Finishes s) (done s v)
unfolding done Gives is_done
done-finishes s Value.Empty e = tt
done-finishes s (Value.Integer z) e = finished s s.result (End.Integer z) e refl
done-finishes s (Value.Vector v) e = gives_then _ (at s.vectors v) _ (λ w _. finished s w.items (End.Vector (length (items_of w))) e refl)
done-finishes s (Value.Promise p) e = tt

-- a call ends
call_ends : (s : State) (a : Activation) (v : Value) → a.block ≡ 0 → a.frame + 1 ≡ s.calls → (b : Bool) → eqb s.depth 1 ≡ b → Gives (λ (t : State). GoesOn s t × Ends s t a) (elim b [ true ↦ done s v | false ↦ back s a.frame a.d v ])
call_ends s a v e n true l =
    gives-weaken (Finishes s) _ (done s v) (done-finishes s v (eqb-true s.depth 1 l)) (λ t h. (inr (h.end, h.done, h.status), record { body = e; newest = n; left = inr h }))
call_ends s a v e n false l =
    gives-weaken (Keeps (lowered s a.frame)) _ (back s a.frame a.d v) (back-keeps s a.frame a.d v) (λ t h. let g = lowered-leaves s t a.frame n h in (inl g.0, record { body = e; newest = n; left = inl g.1 }))

-- behind its tests
finish-call : (P : Program) (s : State) (a : Activation) (W : Version) (v : Value) → Gives (λ (t : State). GoesOn s t × Ends s t a) (finish P s a W v Opener.Call)
unfolding finish
finish-call P s a W v = gives_then _ (kind_in P s v) _ (λ k _. gives-next _ (stuck_unless (within k (kind_of W.return))) _ (λ _ _. gives-next _ (stuck_unless (eqb a.block 0 and eqb (a.frame + 1) s.calls)) _ (λ x e.
    let b = and_both (eqb a.block 0) (eqb (a.frame + 1) s.calls) (test-true _ x e) in
    call_ends s a v (eqb-true a.block 0 b.0) (eqb-true (a.frame + 1) s.calls b.1) (eqb s.depth 1) refl)))

-- a forced block ends
finish-force : (P : Program) (s : State) (a : Activation) (W : Version) (v : Value) (p : ℕ) → Gives (Keeps s) (finish P s a W v (Opener.Force p))
unfolding finish
finish-force P s a W v p = gives_then _ (an_integer v) _ (λ z _. gives_then _ (at s.promises p) _ (λ q _.
    let c : Promise = record { frame = q.frame; block = q.block; cache = Cache.Forced z } in
    gives-weaken (Keeps (lowered (with_promise s p c) s.calls)) (Keeps s) (back (with_promise s p c) s.calls a.d v) (back-keeps (with_promise s p c) s.calls a.d v) (λ t h. lowered-keeps s p c t h)))

-- ---- the step

-- what a step is to the calls, and to the run
abbrev LivesOn : State → Activation → Position → State → Type 0
LivesOn s a x t = GoesOn s t × Happens s t a x

-- what keeps the calls
kept-lives : (s t : State) (a : Activation) (i : Instr) → is_call i ≡ false → Keeps (passed s a) t → LivesOn s a (instruction i) t
kept-lives s t a i n h = let g = keeps-trans s (passed s a) t (passed-keeps s a) h in (inl g.status, steps i n (keeps-stays s t g))

-- what enters one
entered_on : (s t : State) (a : Activation) (f w : ℕ) → EntersOn (passed s a) f w t → (GoesOn s t) × Enters s t f w
unfolding passed with_stack call_at live_frames
entered_on s t a f w h = (inl h.0, record { count = h.1.count; new = h.1.new; same = h.1.same })

-- CALL
call-lives : (P : Program) (s : State) (a : Activation) (fr : Frame) (W : Version) (d f w : ℕ) (rs : List ℕ) → Gives (LivesOn s a (instruction (CALL d f w rs))) (execute P (passed s a) a.frame fr W (CALL d f w rs))
unfolding execute_to
call-lives P s a fr W d f w rs =
    gives_then _ (or_stuck (find_version P f w)) _ (λ X e. gives_then _ (each (value fr) rs) _ (λ vs _. gives_then _ (each (kind_in P (passed s a)) vs) _ (λ ks _. gives-next _ (stuck_unless (matching ks (parameter_types X))) _ (λ _ _.
    gives-weaken (EntersOn (passed s a) f w) _ (enter (passed s a) a.frame d X rs vs) (named-enters P (passed s a) a.frame d f w X rs vs (or-stuck (find_version P f w) X e))
    (λ t h. let g = entered_on s t a f w h in (g.0, calls d f w rs g.1))))))

-- DISPATCH
dispatch-lives : (P : Program) (s : State) (a : Activation) (fr : Frame) (W : Version) (d f mark ret : ℕ) (pairs : List Argument)
    → Gives (LivesOn s a (instruction (DISPATCH d f mark ret pairs))) (execute P (passed s a) a.frame fr W (DISPATCH d f mark ret pairs))
unfolding execute_to picked
dispatch-lives P s a fr W d f mark ret pairs =
    gives_then _ (each (value fr) (registers_of pairs)) _ (λ vs _. gives_then _ (each (kind_in P (passed s a)) vs) _ (λ ks _. gives_then _ (picked P W.level f mark ret pairs ks) _ (λ X e.
    let l = lowest-found P f (dispatches W.level mark ret pairs ks) VERSIONS 0 X e in
    gives-weaken (EntersOn (passed s a) f l.0) _ (enter (passed s a) a.frame d X (registers_of pairs) vs) (named-enters P (passed s a) a.frame d f l.0 X (registers_of pairs) vs l.1)
    (λ t h. let g = entered_on s t a f l.0 h in (g.0, dispatched d f mark ret pairs l.0 g.1)))))

-- any other
other-lives : (P : Program) (s : State) (a : Activation) (fr : Frame) (W : Version) (i : Instr) → is_call i ≡ false → Gives (LivesOn s a (instruction i)) (execute P (passed s a) a.frame fr W i)
other-lives P s a fr W i n = gives-weaken (Keeps (passed s a)) _ (execute P (passed s a) a.frame fr W i) (execute-keeps P (passed s a) a.frame fr W i n) (λ t h. kept-lives s t a i n h)

-- any instruction
execute-lives : (P : Program) (s : State) (a : Activation) (fr : Frame) (W : Version) (i : Instr) → Gives (LivesOn s a (instruction i)) (execute P (passed s a) a.frame fr W i)
unfolding is_call
execute-lives P s a fr W (LIT d i) = other-lives P s a fr W (LIT d i) refl
execute-lives P s a fr W (MOVE d r) = other-lives P s a fr W (MOVE d r) refl
execute-lives P s a fr W (USE d r) = other-lives P s a fr W (USE d r) refl
execute-lives P s a fr W (DUP d r) = other-lives P s a fr W (DUP d r) refl
execute-lives P s a fr W (VEC d rs) = other-lives P s a fr W (VEC d rs) refl
execute-lives P s a fr W (LEN d r) = other-lives P s a fr W (LEN d r) refl
execute-lives P s a fr W (GET d r i) = other-lives P s a fr W (GET d r i) refl
execute-lives P s a fr W (SET r i e) = other-lives P s a fr W (SET r i e) refl
execute-lives P s a fr W (ARITH d op r q) = other-lives P s a fr W (ARITH d op r q) refl
execute-lives P s a fr W (SELECT d c r q) = other-lives P s a fr W (SELECT d c r q) refl
execute-lives P s a fr W (CAST d r) = other-lives P s a fr W (CAST d r) refl
execute-lives P s a fr W (NAMED d x) = other-lives P s a fr W (NAMED d x) refl
execute-lives P s a fr W (STORE x r) = other-lives P s a fr W (STORE x r) refl
execute-lives P s a fr W (PROM d block) = other-lives P s a fr W (PROM d block) refl
execute-lives P s a fr W (FORCE d r) = other-lives P s a fr W (FORCE d r) refl
execute-lives P s a fr W (PEEK d r x) = other-lives P s a fr W (PEEK d r x) refl
execute-lives P s a fr W (POKE r x e) = other-lives P s a fr W (POKE r x e) refl
execute-lives P s a fr W (CALL d f w rs) = call-lives P s a fr W d f w rs
execute-lives P s a fr W (DISPATCH d f mark ret pairs) = dispatch-lives P s a fr W d f mark ret pairs
execute-lives P s a fr W (SKIP r n) = other-lives P s a fr W (SKIP r n) refl

-- a block end, by what opened it
end-lives : (P : Program) (s : State) (a : Activation) (W : Version) (v : Value) (o : Opener) → a.opener ≡ o → Gives (LivesOn s a block_end) (finish P s a W v o)
end-lives P s a W v Opener.Call e = gives-weaken (λ (t : State). GoesOn s t × Ends s t a) _ (finish P s a W v Opener.Call) (finish-call P s a W v) (λ t h. (h.0, ends e h.1))
end-lives P s a W v (Opener.Force p) e = gives-weaken (Keeps s) _ (finish P s a W v (Opener.Force p)) (finish-force P s a W v p) (λ t h. (inl h.status, stays p e (keeps-stays s t h)))

-- by where it stands
proceed-lives : (P : Program) (s : State) (h : Here) (x : Position) → Gives (LivesOn s h.activation x) (proceed P s h x)
unfolding proceed_to Gives
proceed-lives P s h (instruction i) = execute-lives P s h.activation h.frame h.version i
proceed-lives P s h block_end = gives_then _ (value h.frame h.block.result) _ (λ v _. end-lives P s h.activation h.version v h.activation.opener refl)
proceed-lives P s h outside = tt

-- what a step comes to
pub advance-gives : (P : Program) (s : State) → Gives (λ (t : State). GoesOn s t × Lives P s t) (advance P s)
unfolding advance_to
advance-gives P s = gives_then _ (here P s) _ (λ h e. gives-weaken (LivesOn s h.activation (position_of h)) _ (proceed P s h (position_of h)) (proceed-lives P s h (position_of h)) (λ t l. (l.0, record { place = h; stands = e; happens = l.1 })))

-- THE LAW: of what a step comes to
pub advances : Advances
unfolding Advances
advances P s t e = (gives-got _ (advance P s) t (advance-gives P s) e).1

-- ---- the single step

-- nothing is moved
unmoved-same : (s : State) → Unmoved s s
unmoved-same s = record { frames = refl; count = refl; activations = refl; depth = refl }

-- nor by an end
unmoved-end : (s : State) (xs : List ℤ) (e : End) → Unmoved s (with_end s xs e)
unfolding with_end
unmoved-end s xs e = record { frames = refl; count = refl; activations = refl; depth = refl }

-- a result goes on or is DONE
result-busy : (s t : State) → s.status ≡ Status.Running → GoesOn s t → idle Status.Running (saying t.status) ≡ false
unfolding idle saying
result-busy s t run (inl e) = rw (e, run) refl
result-busy s t run (inr (e, d, q)) = rw (q, d) refl

-- what a step comes to
module _ (P : Program) (s : State) (run : s.status ≡ Status.Running) where
  settled-moved : (t : Try State) → Halts t → Gives (λ (u : State). GoesOn s u × Lives P s u) t → idle Status.Running (settled s t).said ≡ false → Lives P s (settled s t).state
  unfolding settled idle Halts Gives
  settled-moved (got u) h g i = g.1
  settled-moved stuck h g i = absurd (true≢false i)
  settled-moved (stop e) h g i = absurd (true≢false (ap not (sym h) ∙ i))

  settled-unmoved : (t : Try State) → Gives (λ (u : State). GoesOn s u × Lives P s u) t → idle Status.Running (settled s t).said ≡ true → Unmoved s (settled s t).state
  unfolding settled Gives
  settled-unmoved (got u) g i = absurd (true≢false (sym i ∙ result-busy s u run g.0))
  settled-unmoved stuck g i = unmoved-same s
  settled-unmoved (stop e) g i = unmoved-end s s.result e

-- THE LAW: of every step
pub moves : (P : Program) (s : State) → Moves P s
unfolding step_of_to step_in_to idle
moves P s = record { moved = moved s.status refl; unmoved = unmoved s.status refl }
  where
    moved : (st : Status) → s.status ≡ st → idle st (step_in P s st).said ≡ false → Lives P s (step_in P s st).state
    moved Status.Running e i = settled-moved P s e (advance P s) (advance-halts P s) (advance-gives P s) i
    moved (Status.Ended x) e i = absurd (true≢false i)

    unmoved : (st : Status) → s.status ≡ st → idle st (step_in P s st).said ≡ true → Unmoved s (step_in P s st).state
    unmoved Status.Running e i = settled-unmoved P s e (advance P s) (advance-gives P s) i
    unmoved (Status.Ended x) e i = unmoved-same s

-- ---- the first call

-- the state of a begun run has one, of f.v
abbrev First : ℕ → ℕ → State → Type 0
First f v s = (s.calls ≡ 1) × (call_at s 0 ≡ some (f, v))

-- the first state of a call of W
first-call : (W : Version) (vs : List Value) (ws : List Vector) → First W.function W.version (first_state (frame_for W vs ∷ []) ws)
unfolding first_state frame_for call_at live_frames numbers over
first-call W vs ws = (refl, refl)

-- behind question 13
first-13 : (f v : ℕ) (s : State) (buffer : List ℤ) → First f v s → (question13 s buffer).entry ≡ Ok tt → First f v (question13 s buffer).state
unfolding question13 refused
first-13 f v s buffer h g = go (long_enough buffer) refl g
  where
    go : (b : Bool) → long_enough buffer ≡ b → (question13 s buffer).entry ≡ Ok tt → First f v (question13 s buffer).state
    go true e g = rw (e, question13) h
    go false e g = absurd (refused-begun 13 0 (rw (e, question13) at g))

-- behind 11, 19 and 12
first-entered : (P : Program) (level f v : ℕ) (words buffer : List ℤ) → (entered_of P level f v words buffer).entry ≡ Ok tt → First f v (entered_of P level f v words buffer).state
unfolding entered_of question11 question19 question12 refused
first-entered P level f v words buffer h = go (find_version P f v) refl h
  where
    given : (W : Version) → (W.function ≡ f) × (W.version ≡ v) → (o : Option (List Given)) → (question12 W o buffer).entry ≡ Ok tt → First f v (question12 W o buffer).state
    given W n none g = absurd (refused-begun 12 0 g)
    given W n (some xs) g = first-13 f v _ buffer (rw (sym n.0, sym n.1) (first-call W (values_of xs 0) (vectors_of xs))) g

    low : (W : Version) → find_version P f v ≡ some W → (b : Bool) → leb W.level (run_level level) ≡ b → (question19 level W words buffer).entry ≡ Ok tt → First f v (question19 level W words buffer).state
    low W e true l g = rw (l, question19) (given W (find-numbers P f v W e) (arguments (parameter_types W) words) (rw (l, question19) at g))
    low W e false l g = absurd (refused-begun 19 0 (rw (l, question19) at g))

    go : (o : Option Version) → find_version P f v ≡ o → (question11 level o words buffer).entry ≡ Ok tt → First f v (question11 level o words buffer).state
    go none e g = absurd (refused-begun 11 0 g)
    go (some W) e g = low W e (leb W.level (run_level level)) refl g

-- THE LAW: as the run begins
pub first-enters : FirstCall
unfolding FirstCall begin_of begin_after refused
first-enters image level f v words buffer = go (verdict_of image)
  where
    go : (a : Verdict) → (begin_after a (program_of image) level f v words buffer).entry ≡ Ok tt → First f v (begin_after a (program_of image) level f v words buffer).state
    go (Err why) h = absurd (refused-begun why.question why.at h)
    go (Ok n) h = first-entered (program_of image) level f v words buffer h
