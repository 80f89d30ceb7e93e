-- A trail counts the steps between its start and its state, and a step back gives one less: after every list of steps, budgets, changes and steps back.
use Rattle.std.specs.Prelude.{Ok, Err}
use mathlib.Core.Path.{◌≡◌, refl, sym, ap, ◌∙◌, subst}
use mathlib.Core.List.{List, [], ◌∷◌, ◌++◌, map}
use mathlib.Core.Bool.{Bool, true, false, cond, true≢false}
use Prim.Native.Nat.{ℕ, zero, suc, ◌+◌, ◌≤◌, ◌<◌}
use native.Mathlib.Nat.{add-zero, zero-add}
use native.Mathlib.Numerals.{add-one}
use native.Mathlib.Omega.{arith}
use lib.IntN.{ℤ}
use lib.Dec.{leb}
use borrow.Author.Tests.{leb-true, leb-false, le-leb, lt-leb}
use Rattle.program.specs.Program.{Program}
use Rattle.machine.specs.Runs.{step_of, budget_in, budget_in_to, long_enough, budget_of, budget_of_to}
use Rattle.machine.specs.Changes.{change_of}
use Rattle.machine.specs.Events.{Run, Event, single, budget, change, program_in, in_state, in_force, handle, handle_to, after, after_to}
use Rattle.machine.specs.Trails.{REACH, behind_by, further, steps_by, step_on, budget_on, change_on, state_after, back_by, back_of, Visit, visit_program, run_now, run_then, visit_of, Move, event, step_back, move, visit_after}
use Rattle.machine.specs.declared.Behind.{Behind}
use Rattle.machine.specs.declared.Ran.{Ran}
use Rattle.machine.specs.declared.Returned.{Returned}
use Rattle.machine.specs.declared.Said.{Said}
use Rattle.machine.specs.declared.State.{State}
use Rattle.machine.specs.declared.Status.{Status}
use Rattle.machine.specs.declared.Trail.{Trail}
use Rattle.runs.specs.Backs.{At, gone, stopped, taken_of, Kept, Counts, GoesBack, StepsBack, Undoes, Redoes, is_taken, takes, count_back, count_on, count_after, NoneTaken, Since, steps_of, steps_in, OneLess, Straight}
use Rattle.runs.proofs.Splits.{budget-long}
use Rattle.runs.proofs.Counted.{lent, lent-long, after_more, after_one, after_none, at_goes, at-step, at-budget, one-taken, taken-most, then-taken, less-taken, taken_more}
use Rattle.machine.specs.Denials.{Grant}

-- ---- what lies behind

pub within-reach : (n : ℕ) → n ≤ REACH → behind_by n ≡ Behind.Steps n
unfolding behind_by
within-reach n h = ap (λ (b : Bool). cond b (Behind.Steps n) Behind.Past) (le-leb n REACH h)

pub past-reach : (n : ℕ) → REACH < n → behind_by n ≡ Behind.Past
unfolding behind_by
past-reach n h = ap (λ (b : Bool). cond b (Behind.Steps n) Behind.Past) (lt-leb n REACH h)

-- a count that is said is the true one
behind-steps : (n m : ℕ) → behind_by n ≡ Behind.Steps m → (n ≡ m) × (n ≤ REACH)
unfolding behind_by
behind-steps n m = go (leb n REACH) refl
  where
    go : (o : Bool) → leb n REACH ≡ o → cond o (Behind.Steps n) Behind.Past ≡ Behind.Steps m → (n ≡ m) × (n ≤ REACH)
    go true l e = (cc, leb-true n REACH l)
    go false l e = let z : ◌≡◌ {A = ℕ} 0 1 = cc in absurd (omega arith)

-- k steps more
pub behind-further : (n k : ℕ) → further (behind_by n) k ≡ behind_by (n + k)
unfolding behind_by further
behind-further n k = go (leb n REACH) refl
  where
    go : (o : Bool) → leb n REACH ≡ o → further (cond o (Behind.Steps n) Behind.Past) k ≡ behind_by (n + k)
    go true l = refl
    go false l = sym (past-reach (n + k) (omega (arith, leb-false n REACH l)))

more-behind : (b : Behind) (n k : ℕ) → b ≡ behind_by n → further b k ≡ behind_by (n + k)
more-behind b n k e = ap (λ (x : Behind). further x k) e ∙ behind-further n k

-- ---- what a trail keeps

-- a start
started-keeps : (r : Run) → Kept (visit_of r)
started-keeps r = record { steps = 0; behind = sym (within-reach 0 (omega arith)); taken = omega (arith, taken-most (program_in r) r.state 0); stands = gone (sym (after_none (program_in r) r.state)) }

change-keeps : (v : Visit) (new : List ℕ) (c : Grant) → Kept v → Kept (record { image = in_force c v.image new; trail = change_on v.trail c })
unfolding in_force change_on
change-keeps v new (Ok _) k = started-keeps (record { image = new; state = v.trail.state })
change-keeps v new (Err why) k = k

back-keeps : (v : Visit) (b : Behind) → v.trail.behind ≡ b → Kept v → Kept (record { image = v.image; trail = (back_by (visit_program v) v.trail b).trail })
unfolding back_by
back-keeps v Behind.Past e k = k
back-keeps v (Behind.Steps zero) e k = k
back-keeps v (Behind.Steps (suc m)) e k = let n = behind-steps k.steps (suc m) (sym k.behind ∙ e) in record { steps = m; behind = sym (within-reach m (omega (arith, n.0, n.1))); taken = less-taken (visit_program v) v.trail.start m (ap (taken_of (visit_program v) v.trail.start) (sym n.0) ∙ k.taken ∙ n.0); stands = gone refl }

-- all steps are taken, whatever a single step or a budget adds
step-taken : (v : Visit) (k : Kept v) → let n = k.steps + steps_by v.trail.state.status (step_of (visit_program v) v.trail.state).said in taken_of (visit_program v) v.trail.start n ≡ n
unfolding steps_by
step-taken v k = go v.trail.state.status refl
  where
    P : Program
    P = visit_program v

    s : State
    s = v.trail.state

    go : (st : Status) → s.status ≡ st → taken_of P v.trail.start (k.steps + steps_by st (step_of P s).said) ≡ k.steps + steps_by st (step_of P s).said
    go Status.Running h = subst (λ (m : ℕ). taken_of P v.trail.start (k.steps + m) ≡ k.steps + m) (one-taken P s h) (then-taken P v.trail.start s k.steps 1 k.taken (at_goes P v.trail.start k.steps s k.stands h))
    go (Status.Ended e) h = rw (add-zero k.steps) k.taken

budget-taken : (v : Visit) (k : Kept v) (m : ℕ) (buffer : List ℤ) → let n = k.steps + (budget_of (visit_program v) v.trail.state m buffer).steps in taken_of (visit_program v) v.trail.start n ≡ n
unfolding budget_of_to budget_in_to
budget-taken v k m buffer = go (long_enough buffer) refl
  where
    P : Program
    P = visit_program v

    s : State
    s = v.trail.state

    under : (st : Status) → s.status ≡ st → taken_of P v.trail.start (k.steps + (budget_in P s m st).steps) ≡ k.steps + (budget_in P s m st).steps
    under Status.Running h = subst (λ (st : Status). taken_of P v.trail.start (k.steps + (budget_in P s m st).steps) ≡ k.steps + (budget_in P s m st).steps) h (then-taken P v.trail.start s k.steps m k.taken (at_goes P v.trail.start k.steps s k.stands h))
    under (Status.Ended e) h = rw (add-zero k.steps) k.taken

    go : (o : Bool) → long_enough buffer ≡ o → taken_of P v.trail.start (k.steps + (budget_of P s m buffer).steps) ≡ k.steps + (budget_of P s m buffer).steps
    go true h = rw (h, budget_of_to) (under s.status refl)
    go false h = rw (h, budget_of_to, add-zero k.steps) k.taken

move-keeps : (m : Move) (v : Visit) → Kept v → Kept (move m v).visit
unfolding move step_on budget_on back_of
move-keeps (event single) v k = record { steps = k.steps + steps_by v.trail.state.status (step_of (visit_program v) v.trail.state).said; behind = more-behind v.trail.behind k.steps _ k.behind; taken = step-taken v k; stands = at-step (visit_program v) v.trail.start k.steps v.trail.state k.stands }
move-keeps (event (budget n buffer)) v k = record { steps = k.steps + (budget_of (visit_program v) v.trail.state n buffer).steps; behind = more-behind v.trail.behind k.steps _ k.behind; taken = budget-taken v k n buffer; stands = at-budget (visit_program v) v.trail.start k.steps v.trail.state n buffer k.stands }
move-keeps (event (change new)) v k = change-keeps v new (change_of v.image new v.trail.state) k
move-keeps step_back v k = back-keeps v v.trail.behind refl k

visit-keeps : (ms : List Move) (v : Visit) → Kept v → Kept (visit_after ms v)
unfolding visit_after
visit-keeps [] v k = k
visit-keeps (m ∷ ms) v k = visit-keeps ms (move m v).visit (move-keeps m v k)

-- ---- as many as the moves come to

change-counts : (v : Visit) (new : List ℕ) (c : Grant) (k : Kept v) → (change-keeps v new c k).steps ≡ cond (is_taken c) 0 (k.steps + 0)
unfolding change-keeps started-keeps
change-counts v new (Ok _) k = refl
change-counts v new (Err why) k = sym (add-zero k.steps)

back-counts : (v : Visit) (b : Behind) (e : v.trail.behind ≡ b) (k : Kept v) → (back-keeps v b e k).steps ≡ count_back (back_by (visit_program v) v.trail b).back k.steps
unfolding back-keeps back_by count_back
back-counts v Behind.Past e k = refl
back-counts v (Behind.Steps zero) e k = refl
back-counts v (Behind.Steps (suc m)) e k = let n = behind-steps k.steps (suc m) (sym k.behind ∙ e) in omega (arith, n.0)

move-counts : (m : Move) (v : Visit) (k : Kept v) → (move-keeps m v k).steps ≡ count_on m v k.steps
unfolding move-keeps count_on takes steps_of back_of
move-counts (event single) v k = refl
move-counts (event (budget n buffer)) v k = refl
move-counts (event (change new)) v k = change-counts v new (change_of v.image new v.trail.state) k
move-counts step_back v k = back-counts v v.trail.behind refl k

visit-counts : (ms : List Move) (v : Visit) (k : Kept v) → (j : Kept (visit_after ms v)) × (j.steps ≡ count_after ms v k.steps)
unfolding visit_after count_after
visit-counts [] v k = (k, refl)
visit-counts (m ∷ ms) v k = let r = visit-counts ms (move m v).visit (move-keeps m v k) in (r.0, r.1 ∙ ap (count_after ms (move m v).visit) (move-counts m v k))

-- THE LAW: after every list of moves
pub counts : Counts
unfolding Counts started-keeps
counts r ms = visit-counts ms (visit_of r) (started-keeps r)

-- ---- the step back

goes_back : (P : Program) (t : Trail) (n : ℕ) → t.behind ≡ behind_by n → GoesBack P t.start n t
unfolding back_of back_by
goes_back P t n e = record {
  one = λ m q l. ap (back_by P t) (e ∙ within-reach n l ∙ ap Behind.Steps q);
  none = λ q. ap (back_by P t) (e ∙ ap behind_by q ∙ within-reach 0 (omega arith));
  past = λ l. ap (back_by P t) (e ∙ past-reach n l);
}

-- THE LAW: one step less
pub steps_back : StepsBack
unfolding StepsBack
steps_back r ms k = let v = visit_after ms (visit_of r) in goes_back (visit_program v) v.trail k.steps k.behind

-- only a run that goes on counts a step
counts-running : (st : Status) (d : Said) → steps_by st d ≡ 1 → st ≡ Status.Running
unfolding steps_by
counts-running Status.Running d h = refl
counts-running (Status.Ended e) d h = absurd (omega (arith, h))

undone : (v : Visit) → Kept v → (n : ℕ) → v.trail.behind ≡ Behind.Steps n → n < REACH → steps_by v.trail.state.status (step_of (visit_program v) v.trail.state).said ≡ 1
    → back_of (visit_program v) (step_on (visit_program v) v.trail) ≡ record { trail = v.trail; back = Ok tt }
unfolding back_of back_by step_on further
undone v k n b l c =
    let P = visit_program v in
    let t = v.trail in
    let q = behind-steps k.steps n (sym k.behind ∙ b) in
    let run = counts-running t.state.status (step_of P t.state).said c in
    let here : t.state ≡ state_after P t.start n = at_goes P t.start k.steps t.state k.stands run ∙ ap (state_after P t.start) q.0 in
    let one : further t.behind (steps_by t.state.status (step_of P t.state).said) ≡ Behind.Steps (suc n) = ap (λ (x : Behind). further x (steps_by t.state.status (step_of P t.state).said)) b ∙ ap (further (Behind.Steps n)) c ∙ ap behind_by (add-one n) ∙ within-reach (suc n) (omega (arith, l)) in
    ap (back_by P (step_on P t)) one ∙ same t n b (state_after P t.start n) here
  where
    same : (t : Trail) (n : ℕ) → t.behind ≡ Behind.Steps n → (s : State) → t.state ≡ s → ◌≡◌ {A = Returned} (record { trail = record { start = t.start; behind = Behind.Steps n; state = s }; back = Ok tt }) (record { trail = t; back = Ok tt })
    same t n b s e = rw (sym b, sym e) refl

-- THE LAW: a counted step, taken back
pub undoes : Undoes
unfolding Undoes
undoes r ms n b l c = undone (visit_after ms (visit_of r)) (visit-keeps ms (visit_of r) (started-keeps r)) n b l c

-- the state one step before goes on, and its step counts
before_last : (P : Program) (s : State) (m : ℕ) → taken_of P s (suc m) ≡ suc m → taken_of P (state_after P s m) 1 ≡ 1
before_last P s m h =
    let a = taken_more P s m 1 in
    let b : taken_of P s (m + 1) ≡ suc m = ap (taken_of P s) (add-one m) ∙ h in
    omega (arith, a, b, less-taken P s m h)

takes-running : (P : Program) (s : State) → taken_of P s 1 ≡ 1 → s.status ≡ Status.Running
unfolding budget_in_to
takes-running P s h = go s.status h
  where
    go : (st : Status) → (budget_in P s 1 st).steps ≡ 1 → st ≡ Status.Running
    go Status.Running q = refl
    go (Status.Ended e) q = absurd (omega (arith, q))

redone : (v : Visit) → Kept v → (m : ℕ) → v.trail.behind ≡ Behind.Steps (suc m) → v.trail.state ≡ state_after (visit_program v) v.trail.start (suc m) → step_on (visit_program v) (back_of (visit_program v) v.trail).trail ≡ v.trail
unfolding back_of back_by step_on further
redone v k m b e =
    let P = visit_program v in
    let t = v.trail in
    let n = behind-steps k.steps (suc m) (sym k.behind ∙ b) in
    let u = state_after P t.start m in
    let one = before_last P t.start m (ap (taken_of P t.start) (sym n.0) ∙ k.taken ∙ n.0) in
    let run = takes-running P u one in
    let c : steps_by u.status (step_of P u).said ≡ 1 = ap (λ (st : Status). steps_by st (step_of P u).said) run ∙ sym (one-taken P u run) ∙ one in
    let s : (step_of P u).state ≡ t.state = sym (after_one P u run) ∙ after_more P t.start m 1 ∙ ap (state_after P t.start) (add-one m) ∙ sym e in
    let q : further (Behind.Steps m) (steps_by u.status (step_of P u).said) ≡ t.behind = ap (further (Behind.Steps m)) c ∙ ap behind_by (add-one m) ∙ within-reach (suc m) (omega (arith, n.0, n.1)) ∙ sym b in
    ap (λ (x : Returned). step_on P x.trail) (ap (back_by P t) b) ∙ same t (step_of P u).state (further (Behind.Steps m) (steps_by u.status (step_of P u).said)) s q
  where
    same : (t : Trail) (s : State) (x : Behind) → s ≡ t.state → x ≡ t.behind → ◌≡◌ {A = Trail} (record { start = t.start; behind = x; state = s }) t
    same t s x p q = rw (p, q) refl

-- THE LAW: a step forward behind a step back
pub redoes : Redoes
unfolding Redoes
redoes r ms m b e = redone (visit_after ms (visit_of r)) (visit-keeps ms (visit_of r) (started-keeps r)) m b e

-- ---- the start, and the last change

taken-anew : (v : Visit) (new : List ℕ) (c : Grant) → c ≡ Ok tt → ◌≡◌ {A = Visit} (record { image = in_force c v.image new; trail = change_on v.trail c }) (visit_of (record { image = new; state = v.trail.state }))
unfolding in_force change_on
taken-anew v new (Ok _) e = refl
taken-anew v new (Err why) e = let z : ◌≡◌ {A = ℕ} 0 1 = cc in absurd (omega arith)

-- a change that is refused leaves all
refused-same : (v : Visit) (new : List ℕ) (c : Grant) → is_taken c ≡ false → ◌≡◌ {A = Visit} (record { image = in_force c v.image new; trail = change_on v.trail c }) v
unfolding in_force change_on
refused-same v new (Ok _) e = absurd (true≢false e)
refused-same v new (Err why) e = refl

-- a step back leaves the start
back_start : (P : Program) (t : Trail) (b : Behind) → (back_by P t b).trail.start ≡ t.start
unfolding back_by
back_start P t Behind.Past = refl
back_start P t (Behind.Steps zero) = refl
back_start P t (Behind.Steps (suc m)) = refl

move_same : (m : Move) (v : Visit) → takes m v ≡ false → run_then (move m v).visit ≡ run_then v
unfolding move takes step_on budget_on back_of
move_same (event single) v h = refl
move_same (event (budget n buffer)) v h = refl
move_same (event (change new)) v h = ap run_then (refused-same v new (change_of v.image new v.trail.state) h)
move_same step_back v h = ap (λ (s : State). record { image = v.image; state = s }) (back_start (visit_program v) v.trail v.trail.behind)

start-same : (ms : List Move) (v : Visit) → NoneTaken ms v → run_then (visit_after ms v) ≡ run_then v
unfolding visit_after NoneTaken
start-same [] v h = refl
start-same (m ∷ ms) v h = start-same ms (move m v).visit h.1 ∙ move_same m v h.0

-- THE LAW: how far it goes back
pub since : Since
unfolding move
since = record { same = start-same; anew = λ new v e. taken-anew v new (change_of v.image new v.trail.state) e }

-- ---- counted from the start

-- an event leaves the run that it leaves without a trail
now-changed : (v : Visit) (new : List ℕ) (c : Grant) → ◌≡◌ {A = Run} (record { image = in_force c v.image new; state = (change_on v.trail c).state }) (record { image = in_force c v.image new; state = v.trail.state })
unfolding in_force change_on
now-changed v new (Ok _) = refl
now-changed v new (Err why) = refl

now-handled : (e : Event) (v : Visit) → run_now (move (event e) v).visit ≡ (handle e (run_now v)).run
unfolding move handle_to step_on budget_on
now-handled single v = refl
now-handled (budget n buffer) v = refl
now-handled (change new) v = now-changed v new (change_of v.image new v.trail.state)

event-behind : (e : Event) (v : Visit) (n : ℕ) → takes (event e) v ≡ false → v.trail.behind ≡ behind_by n → (move (event e) v).visit.trail.behind ≡ behind_by (n + steps_of e (run_now v))
unfolding move takes steps_of step_on budget_on
event-behind single v n h e = more-behind v.trail.behind n _ e
event-behind (budget m buffer) v n h e = more-behind v.trail.behind n _ e
event-behind (change new) v n h e = rw (add-zero n) (ap (λ (w : Visit). w.trail.behind) (refused-same v new (change_of v.image new v.trail.state) h) ∙ e)

events-behind : (es : List Event) (v : Visit) (n : ℕ) → NoneTaken (map event es) v → v.trail.behind ≡ behind_by n → (visit_after (map event es) v).trail.behind ≡ behind_by (n + steps_in es (run_now v))
unfolding visit_after NoneTaken steps_in
events-behind [] v n h e = rw (add-zero n) e
events-behind (x ∷ es) v n h e =
    let q = events-behind es (move (event x) v).visit (n + steps_of x (run_now v)) h.1 (event-behind x v n h.0 e) in
    let z : n + steps_of x (run_now v) + steps_in es (handle x (run_now v)).run ≡ n + (steps_of x (run_now v) + steps_in es (handle x (run_now v)).run) = omega arith in
    q ∙ ap (λ (r : Run). behind_by (n + steps_of x (run_now v) + steps_in es r)) (now-handled x v) ∙ ap behind_by z

-- THE LAW: after n steps since the start
pub one_less : OneLess
unfolding OneLess
one_less r es h =
    let v = visit_after (map event es) (visit_of r) in
    let b = events-behind es (visit_of r) 0 h (sym (within-reach 0 (omega arith))) ∙ ap behind_by (zero-add (steps_in es r)) in
    let s : v.trail.start ≡ r.state = ap (λ (x : Run). x.state) (start-same (map event es) (visit_of r) h) in
    subst (λ (x : State). GoesBack (program_in r) x (steps_in es r) v.trail) s (goes_back (program_in r) v.trail (steps_in es r) b)

-- ---- events alone

after-append : (xs ys : List Event) (r : Run) → after (xs ++ ys) r ≡ after ys (after xs r)
unfolding after_to
after-append [] ys r = refl
after-append (x ∷ xs) ys r = after-append xs ys (handle x r).run

-- a budget of n steps from a run
after-budget : (r : Run) (n : ℕ) → after (budget n lent ∷ []) r ≡ in_state r (state_after (program_in r) r.state n)
unfolding after_to handle_to
after-budget r n = ap (λ (x : Ran). in_state r x.state) (budget-long (program_in r) r.state n lent lent-long)

after-single : (r : Run) → after (single ∷ []) r ≡ in_state r (step_of (program_in r) r.state).state
unfolding after_to handle_to
after-single r = refl

-- events that come to a run
abbrev Comes : Run → Run → Type 0
Comes r x = (es : List Event) × (after es r ≡ x)

comes-more : (r x y : Run) (ys : List Event) → Comes r x → after ys x ≡ y → Comes r y
comes-more r x y ys c e = (c.0 ++ ys, after-append c.0 ys r ∙ ap (after ys) c.1 ∙ e)

-- from the start to the state
now-comes : (r : Run) (v : Visit) → Kept v → Comes r (run_then v) → Comes r (run_now v)
now-comes r v k c = go k.stands
  where
    P : Program
    P = visit_program v

    s : State
    s = v.trail.state

    u : State
    u = v.trail.start

    n : ℕ
    n = k.steps

    there : Comes r (record { image = v.image; state = state_after P u n })
    there = comes-more r (run_then v) _ (budget n lent ∷ []) c (after-budget (run_then v) n)

    go : At P u n s → Comes r (run_now v)
    go (gone e) = (there.0, there.1 ∙ ap (λ (x : State). record { image = v.image; state = x }) (sym e))
    go (stopped x q z e) = comes-more r (record { image = v.image; state = state_after P u n }) (run_now v) (single ∷ []) there (after-single (record { image = v.image; state = state_after P u n }) ∙ ap (λ (x : State). record { image = v.image; state = x }) (sym e))

after-taken : (v : Visit) (new : List ℕ) → change_of v.image new v.trail.state ≡ Ok tt → after (change new ∷ []) (run_now v) ≡ record { image = new; state = v.trail.state }
unfolding after_to handle_to in_force
after-taken v new e = ap (λ (c : Grant). record { image = in_force c v.image new; state = v.trail.state }) e

change-comes : (r : Run) (v : Visit) (new : List ℕ) → Kept v → Comes r (run_then v) → (c : Grant) → change_of v.image new v.trail.state ≡ c → Comes r (run_then (record { image = in_force c v.image new; trail = change_on v.trail c }))
unfolding in_force change_on
change-comes r v new k p (Ok _) e = comes-more r (run_now v) _ (change new ∷ []) (now-comes r v k p) (after-taken v new e)
change-comes r v new k p (Err why) e = p

move-comes : (r : Run) (m : Move) (v : Visit) → Kept v → Comes r (run_then v) → Comes r (run_then (move m v).visit)
unfolding move step_on budget_on back_of
move-comes r (event single) v k c = c
move-comes r (event (budget n buffer)) v k c = c
move-comes r (event (change new)) v k c = change-comes r v new k c (change_of v.image new v.trail.state) refl
move-comes r step_back v k c = (c.0, c.1 ∙ ap (λ (s : State). record { image = v.image; state = s }) (sym (back_start (visit_program v) v.trail v.trail.behind)))

visit-comes : (r : Run) (ms : List Move) (v : Visit) → Kept v → Comes r (run_then v) → Comes r (run_now (visit_after ms v))
unfolding visit_after
visit-comes r [] v k c = now-comes r v k c
visit-comes r (m ∷ ms) v k c = visit-comes r ms (move m v).visit (move-keeps m v k) (move-comes r m v k c)

-- THE LAW: a step back leads to a state of the run
pub straight : Straight
unfolding Straight after_to
straight r ms = visit-comes r ms (visit_of r) (started-keeps r) ([], refl)
