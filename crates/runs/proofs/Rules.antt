-- The rule of the pool at a step that needs a vector, and a budget in the pool beside one without a pool.
use mathlib.Core.Path.{◌≡◌, refl, sym, ap, ◌∙◌, subst}
use mathlib.Core.Logic.{◌≢◌, ◌⊎◌, inl, inr}
use mathlib.Core.List.{List, [], ◌∷◌, ◌++◌, map}
use mathlib.Core.Option.{Option, none, some}
use mathlib.Core.Bool.{Bool, true, false, cond, false≢true}
use Prim.Native.Nat.{ℕ, zero, suc, ◌+◌, ◌≤◌, ◌<◌}
use native.Mathlib.Omega.{arith}
use lib.ListN.{length, get_elem?, set}
use lib.Dec.{leb, ltb, eqb}
use borrow.Author.Tests.{ltb-true, ltb-false, le-leb, lt-leb}
use Rattle.layout.specs.Tests.{◌and◌}
use Rattle.program.specs.Program.{Instr, LIT, MOVE, USE, DUP, VEC, LEN, GET, SET, ARITH, SELECT, CAST, NAMED, STORE, PROM, FORCE, PEEK, POKE, CALL, DISPATCH, SKIP, Version, Program}
use Rattle.machine.specs.Try.{Try, got, stuck, stop, ◌>>=◌, ◌>>◌, stuck_unless, or_stuck, at, put, each}
use Rattle.machine.specs.States.{VECTORS, place, vector_counts, held, live_frames, integer, vector, free, free_vector, new_vector, with_stack, with_vector, with_frame, with_register, assign}
use Rattle.machine.specs.Calls.{passed}
use Rattle.machine.specs.Steps.{execute, execute_to, Here, here, Position, instruction, block_end, outside, position_of, proceed, proceed_to, advance, advance_to}
use Rattle.machine.specs.Runs.{saying, settled, step_in, step_in_to, step_of, step_of_to, last_step, continued, run_from, run_from_to, budget_in, budget_in_to, long_enough, budget_of_to}
use Rattle.machine.specs.Events.{Run, program_in}
use Rattle.machine.specs.Allowed.{counting, vectors_in, is_got, needs_vector, execute_with, proceed_with, advance_with, step_in_with, step_with, run_with, budget_in_with, budget_with}
use Rattle.machine.specs.Pools.{gets, allowed, refuses21, fresh}
use Rattle.machine.specs.Houses.{Ask, start, go_on, Asked, House, opened, serve, TriedIn, tried_by, tried_ask, history_under}
use Rattle.machine.specs.declared.Answer.{Answer}
use Rattle.machine.specs.declared.End.{End}
use Rattle.machine.specs.declared.Frame.{Frame}
use Rattle.machine.specs.declared.Place.{Place}
use Rattle.machine.specs.declared.Pool.{Pool}
use Rattle.machine.specs.declared.Ran.{Ran}
use Rattle.machine.specs.declared.Said.{Said}
use Rattle.machine.specs.declared.State.{State}
use Rattle.machine.specs.declared.Status.{Status}
use Rattle.machine.specs.declared.Stepped.{Stepped}
use Rattle.machine.specs.declared.Value.{Value}
use Rattle.machine.specs.declared.Vector.{Vector}
use Rattle.runs.specs.Stores.{AllowedIs}
use Rattle.runs.specs.Company.{stopped_by, Needs, Gets, Rule, Others, InCompany, same, earlier, before_stuck, Budgets}
use Rattle.runs.proofs.Always.{All, all_none, all_append, all_map}
use Rattle.runs.proofs.Splits.{run-counts}
use Rattle.runs.proofs.Caps.{own-or-vectors}
use Rattle.runs.proofs.Reserves.{allowed-is}
use Rattle.runs.proofs.Stores.{Order, order-housed, number_in, serve-keeps, opened-order}

-- ---- a step in the pool is the machine's own, or stops with VECTORS

pub step-or : (most : ℕ) (P : Program) (s : State) → (step_with most P s ≡ step_of P s) ⊎ (step_with most P s ≡ stopped_by s)
unfolding step_with step_in_with step_of_to step_in_to settled
step-or most P s = go s.status
  where
    ways : (advance_with most P s ≡ advance P s) ⊎ (advance_with most P s ≡ stop End.Vectors) → (settled s (advance_with most P s) ≡ settled s (advance P s)) ⊎ (settled s (advance_with most P s) ≡ stopped_by s)
    ways (inl e) = inl (ap (settled s) e)
    ways (inr e) = inr (ap (settled s) e)

    go : (st : Status) → (step_in_with most P s st ≡ step_in P s st) ⊎ (step_in_with most P s st ≡ stopped_by s)
    go Status.Running = ways (own-or-vectors most P s)
    go (Status.Ended e) = inl refl

-- ---- the rule

-- where fewer than n of n count, one is free
free_one : (e : End) (c : ℕ → Bool) (n i : ℕ) → counting c n i < n → (j : ℕ) × (free e c n i ≡ got j)
unfolding counting free
free_one e c zero i h = absurd (omega arith)
free_one e c (suc n) i h = go (c i) h (free_one e c n (suc i))
  where
    go : (x : Bool) → cond x 1 0 + counting c n (suc i) < suc n → (counting c n (suc i) < n → (j : ℕ) × (free e c n (suc i) ≡ got j)) → (j : ℕ) × (◌≡◌ {A = Try ℕ} (elim x [ true ↦ free e c n (suc i) | false ↦ got i ]) (got j))
    go true l ih = ih (omega arith)
    go false l ih = (i, refl)

below_free : (s : State) → vectors_in s < VECTORS → (n : ℕ) × (free_vector s ≡ got n)
unfolding vectors_in free_vector
below_free s h = free_one End.Vectors (vector_counts s) VECTORS 0 h

-- standing at the next instruction changes neither
passed-vectors : (s : State) (h : Here) → (passed s h.activation).vectors ≡ s.vectors
unfolding passed with_stack
passed-vectors s h = refl

passed-in : (s : State) (h : Here) → vectors_in (passed s h.activation) ≡ vectors_in s
unfolding vectors_in vector_counts held live_frames passed with_stack
passed-in s h = refl

own-advance : (P : Program) (s : State) (h : Here) (x : Instr) → here P s ≡ got h → position_of h ≡ instruction x → advance P s ≡ execute P (passed s h.activation) h.activation.frame h.frame h.version x
unfolding advance_to proceed_to ◌>>=◌
own-advance P s h x e q = rw (e, q) refl

execute-needed : (most : ℕ) (P : Program) (u : State) (k : ℕ) (f : Frame) (W : Version) (x : Instr) → needs_vector u.vectors f x ≡ true → execute_with most P u k f W x ≡ elim (leb most (vectors_in u)) [ true ↦ stop End.Vectors | false ↦ execute P u k f W x ]
unfolding execute_with ◌and◌
execute-needed most P u k f W x h = ap (λ (b : Bool). tried (b and leb most (vectors_in u))) h
  where
    tried : Bool → Try State
    tried b = elim b [ true ↦ stop End.Vectors | false ↦ execute P u k f W x ]

-- what a step comes to where a vector is needed
need-advance : (most : ℕ) (P : Program) (s : State) (n : Needs P s) → advance_with most P s ≡ elim (leb most (vectors_in s)) [ true ↦ stop End.Vectors | false ↦ advance P s ]
unfolding advance_with proceed_with ◌>>=◌
need-advance most P s n = e ∙ execute-needed most P u k f W x d ∙ ap (λ (v : ℕ). tried v (execute P u k f W x)) (passed-in s h) ∙ ap (tried (vectors_in s)) (sym (own-advance P s h x n.stands n.is_at))
  where
    h : Here
    h = n.place

    x : Instr
    x = n.instr

    u : State
    u = passed s h.activation

    k : ℕ
    k = h.activation.frame

    f : Frame
    f = h.frame

    W : Version
    W = h.version

    tried : ℕ → Try State → Try State
    tried v t = elim (leb most v) [ true ↦ stop End.Vectors | false ↦ t ]

    e : (here P s >>= λ (y : Here). proceed_with most P s y (position_of y)) ≡ execute_with most P u k f W x
    e = rw (n.stands, n.is_at) refl

    d : needs_vector u.vectors f x ≡ true
    d = ap (λ (vs : List Vector). needs_vector vs f x) (passed-vectors s h) ∙ n.needs

-- a step of a run that goes on
with-runs : (most : ℕ) (P : Program) (s : State) → s.status ≡ Status.Running → step_with most P s ≡ settled s (advance_with most P s)
unfolding step_with step_in_with
with-runs most P s h = ap (step_in_with most P s) h

own_runs : (P : Program) (s : State) → s.status ≡ Status.Running → step_of P s ≡ settled s (advance P s)
unfolding step_of_to step_in_to
own_runs P s h = ap (step_in P s) h

with-ended : (most : ℕ) (P : Program) (s : State) (e : End) → s.status ≡ Status.Ended e → step_with most P s ≡ record { state = s; said = Said.Ended e }
unfolding step_with step_in_with
with-ended most P s e h = ap (step_in_with most P s) h

own-ended : (P : Program) (s : State) (e : End) → s.status ≡ Status.Ended e → step_of P s ≡ record { state = s; said = Said.Ended e }
unfolding step_of_to step_in_to
own-ended P s e h = ap (step_in P s) h

-- where none is needed
execute-other : (most : ℕ) (P : Program) (u : State) (k : ℕ) (f : Frame) (W : Version) (x : Instr) → needs_vector u.vectors f x ≡ false → execute_with most P u k f W x ≡ execute P u k f W x
unfolding execute_with ◌and◌
execute-other most P u k f W x h = ap (λ (b : Bool). tried (b and leb most (vectors_in u))) h
  where
    tried : Bool → Try State
    tried b = elim b [ true ↦ stop End.Vectors | false ↦ execute P u k f W x ]

-- a vector is needed, or the step is that without a cap
needs-or-own : (most : ℕ) (P : Program) (s : State) → (Needs P s) ⊎ (advance_with most P s ≡ advance P s)
unfolding advance_with advance_to proceed_with proceed_to ◌>>=◌
needs-or-own most P s = go (here P s) refl
  where
    at_place : (h : Here) → here P s ≡ got h → (p : Position) → position_of h ≡ p → (Needs P s) ⊎ (proceed_with most P s h p ≡ proceed P s h p)
    at_place h e (instruction x) q = needed (needs_vector s.vectors h.frame x) refl
      where
        needed : (b : Bool) → needs_vector s.vectors h.frame x ≡ b → (Needs P s) ⊎ (execute_with most P (passed s h.activation) h.activation.frame h.frame h.version x ≡ execute P (passed s h.activation) h.activation.frame h.frame h.version x)
        needed true n = inl (record { place = h; stands = e; instr = x; is_at = q; needs = n })
        needed false n = inr (execute-other most P (passed s h.activation) h.activation.frame h.frame h.version x (ap (λ (vs : List Vector). needs_vector vs h.frame x) (passed-vectors s h) ∙ n))
    at_place h e block_end q = inr refl
    at_place h e outside q = inr refl

    go : (o : Try Here) → here P s ≡ o → (Needs P s) ⊎ ((o >>= λ (h : Here). proceed_with most P s h (position_of h)) ≡ (o >>= λ (h : Here). proceed P s h (position_of h)))
    go (got h) e = at_place h e (position_of h) refl
    go stuck e = inr refl
    go (stop x) e = inr refl

other-advance : (most : ℕ) (P : Program) (s : State) → (Needs P s → ⊥) → advance_with most P s ≡ advance P s
other-advance most P s free = go (needs-or-own most P s)
  where
    go : (Needs P s) ⊎ (advance_with most P s ≡ advance P s) → advance_with most P s ≡ advance P s
    go (inl n) = absurd (free n)
    go (inr e) = e

-- THE LAW: no other step asks the pool
pub others : Others
unfolding Others step_with step_in_with step_of_to step_in_to
others most P s free = go s.status
  where
    go : (st : Status) → step_in_with most P s st ≡ step_in P s st
    go Status.Running = ap (settled s) (other-advance most P s free)
    go (Status.Ended e) = refl

-- ---- where the cap stops a step

-- what a step without a cap comes to where a vector is needed, and n is the place that is free: it goes on; or stops with VECTORS, where none is free; or is stuck at its destination
data Outcome (st : Status) (n : Try ℕ) (o : Try State) : Type 0 where
  on : (t : State) → o ≡ got t → t.status ≡ st → Outcome st n o
  full : n ≡ stop End.Vectors → o ≡ stop End.Vectors → Outcome st n o
  lost : o ≡ stuck → Outcome st n o

first_to : {A : Type 0} (st : Status) (m : Try ℕ) (o : Try A) (g : A → Try State) → is_got o ≡ true → ((x : A) → Outcome st m (g x)) → Outcome st m (o >>= g)
unfolding is_got ◌>>=◌
first_to st m (got a) g h f = f a
first_to st m stuck g h f = absurd (false≢true h)
first_to st m (stop e) g h f = absurd (false≢true h)

both_to : {A B : Type 0} (st : Status) (m : Try ℕ) (o : Try A) (g : A → Try B) (k : A → B → Try State) → is_got (o >>= g) ≡ true → ((x : A) (y : B) → Outcome st m (k x y)) → Outcome st m (o >>= λ (x : A). g x >>= λ (y : B). k x y)
unfolding is_got ◌>>=◌
both_to st m (got a) g k h f = first_to st m (g a) (k a) h (f a)
both_to st m stuck g k h f = absurd (false≢true h)
both_to st m (stop e) g k h f = absurd (false≢true h)

free-to : (st : Status) (c : ℕ → Bool) (n i : ℕ) (g : ℕ → Try State) → ((j : ℕ) (m : Try ℕ) → Outcome st m (g j)) → Outcome st (free End.Vectors c n i) (free End.Vectors c n i >>= g)
unfolding free ◌>>=◌
free-to st c zero i g f = full refl refl
free-to st c (suc n) i g f = go (c i) (free-to st c n (suc i) g f)
  where
    go : (b : Bool) → Outcome st (free End.Vectors c n (suc i)) (free End.Vectors c n (suc i) >>= g) → let m : Try ℕ = elim b [ true ↦ free End.Vectors c n (suc i) | false ↦ got i ] in Outcome st m (m >>= g)
    go true h = h
    go false h = f i (got i)

assign-to : (t : State) (k d : ℕ) (x : Value) (m : Try ℕ) → Outcome t.status m (assign t k d x)
unfolding assign at with_register put with_frame with_stack or_stuck stuck_unless ◌>>=◌ ◌>>◌
assign-to t k d x m = go (get_elem? (live_frames t) k)
  where
    there : (f : Frame) (b : Bool) → Outcome t.status m (((stuck_unless b >> got (set f.registers d (place x))) >>= λ (rs : List Place). got (record { function = f.function; version = f.version; registers = rs; names = f.names })) >>= λ (g : Frame). got (with_frame t k g))
    there f true = on _ refl refl
    there f false = lost refl

    go : (o : Option Frame) → Outcome t.status m (or_stuck o >>= λ (f : Frame). with_register f d x >>= λ (g : Frame). got (with_frame t k g))
    go none = lost refl
    go (some f) = there f (ltb d (length f.registers))

-- a new vector in the register d
new-to : (u : State) (k d : ℕ) (w : Vector) → Outcome u.status (free_vector u) (free_vector u >>= λ (m : ℕ). assign (with_vector u m w) k d (Value.Vector m))
unfolding free_vector with_vector
new-to u k d w = free-to u.status (vector_counts u) VECTORS 0 _ (λ m o. assign-to (with_vector u m w) k d (Value.Vector m) o)

execute-to : (P : Program) (u : State) (k : ℕ) (f : Frame) (W : Version) (i : Instr) → needs_vector u.vectors f i ≡ true → Outcome u.status (free_vector u) (execute P u k f W i)
unfolding needs_vector execute_to
execute-to P u k f W (LIT d i) n = absurd (false≢true n)
execute-to P u k f W (MOVE d a) n = absurd (false≢true n)
execute-to P u k f W (USE d a) n = absurd (false≢true n)
execute-to P u k f W (DUP d a) n = both_to u.status (free_vector u) (vector f a) (λ (w : ℕ). at u.vectors w) _ n (λ w y. new-to u k d y)
execute-to P u k f W (VEC d rs) n = first_to u.status (free_vector u) (each (integer f) rs) _ n (λ xs. new-to u k d (new_vector xs))
execute-to P u k f W (LEN d a) n = absurd (false≢true n)
execute-to P u k f W (GET d a i) n = absurd (false≢true n)
execute-to P u k f W (SET a i x) n = absurd (false≢true n)
execute-to P u k f W (ARITH d op a b) n = absurd (false≢true n)
execute-to P u k f W (SELECT d c a b) n = absurd (false≢true n)
execute-to P u k f W (CAST d a) n = absurd (false≢true n)
execute-to P u k f W (NAMED d y) n = absurd (false≢true n)
execute-to P u k f W (STORE y a) n = absurd (false≢true n)
execute-to P u k f W (PROM d block) n = absurd (false≢true n)
execute-to P u k f W (FORCE d a) n = absurd (false≢true n)
execute-to P u k f W (PEEK d a y) n = absurd (false≢true n)
execute-to P u k f W (POKE a y x) n = absurd (false≢true n)
execute-to P u k f W (CALL d g w rs) n = absurd (false≢true n)
execute-to P u k f W (DISPATCH d g mark ret pairs) n = absurd (false≢true n)
execute-to P u k f W (SKIP a m) n = absurd (false≢true n)

passed-status : (s : State) (h : Here) → (passed s h.activation).status ≡ s.status
unfolding passed with_stack
passed-status s h = refl

passed-free : (s : State) (h : Here) → free_vector (passed s h.activation) ≡ free_vector s
unfolding free_vector vector_counts held live_frames passed with_stack
passed-free s h = refl

need-to : (P : Program) (s : State) → Needs P s → Outcome s.status (free_vector s) (advance P s)
need-to P s n =
    subst (Outcome s.status (free_vector s)) (sym (own-advance P s n.place n.instr n.stands n.is_at))
    (subst (λ (m : Try ℕ). Outcome s.status m (execute P u n.place.activation.frame n.place.frame n.place.version n.instr)) (passed-free s n.place)
    (subst (λ (st : Status). Outcome st (free_vector u) (execute P u n.place.activation.frame n.place.frame n.place.version n.instr)) (passed-status s n.place)
    (execute-to P u n.place.activation.frame n.place.frame n.place.version n.instr (ap (λ (vs : List Vector). needs_vector vs n.place.frame n.instr) (passed-vectors s n.place) ∙ n.needs))))
  where
    u : State
    u = passed s n.place.activation

-- a step in the pool is the machine's own; or it stops with VECTORS at one that goes on without a pool, or is stuck
pub data StepWays (most : ℕ) (P : Program) (s : State) : Type 0 where
  its : step_with most P s ≡ step_of P s → StepWays most P s
  stops : step_with most P s ≡ stopped_by s → (step_of P s).said ≡ Said.GoesOn → StepWays most P s
  nowhere : step_with most P s ≡ stopped_by s → (step_of P s).said ≡ Said.Stuck → StepWays most P s

pub step-ways : (most : ℕ) (P : Program) (s : State) → StepWays most P s
unfolding settled saying
step-ways most P s = go s.status refl
  where
    tried : Bool → Try State
    tried b = elim b [ true ↦ stop End.Vectors | false ↦ advance P s ]

    capped : s.status ≡ Status.Running → (o : Try State) → advance_with most P s ≡ o → step_with most P s ≡ settled s o
    capped h o e = with-runs most P s h ∙ ap (settled s) e

    -- where it stops
    at-stop : s.status ≡ Status.Running → advance_with most P s ≡ stop End.Vectors → Outcome s.status (free_vector s) (advance P s) → StepWays most P s
    at-stop h e (on t q st) = stops (capped h (stop End.Vectors) e) (ap (λ (r : Stepped). r.said) (own_runs P s h ∙ ap (settled s) q) ∙ ap saying (st ∙ h))
    at-stop h e (full m q) = its (capped h (stop End.Vectors) e ∙ sym (own_runs P s h ∙ ap (settled s) q))
    at-stop h e (lost q) = nowhere (capped h (stop End.Vectors) e) (ap (λ (r : Stepped). r.said) (own_runs P s h ∙ ap (settled s) q))

    needed : s.status ≡ Status.Running → Needs P s → (b : Bool) → leb most (vectors_in s) ≡ b → StepWays most P s
    needed h n true e = at-stop h (need-advance most P s n ∙ ap tried e) (need-to P s n)
    needed h n false e = its (capped h (advance P s) (need-advance most P s n ∙ ap tried e) ∙ sym (own_runs P s h))

    running : s.status ≡ Status.Running → (Needs P s) ⊎ (advance_with most P s ≡ advance P s) → StepWays most P s
    running h (inl n) = needed h n (leb most (vectors_in s)) refl
    running h (inr e) = its (capped h (advance P s) e ∙ sym (own_runs P s h))

    go : (st : Status) → s.status ≡ st → StepWays most P s
    go Status.Running h = running h (needs-or-own most P s)
    go (Status.Ended x) h = its (with-ended most P s x h ∙ sym (own-ended P s x h))

-- with a place that is free it is not VECTORS
pub need-goes : (P : Program) (s : State) (m : ℕ) → s.status ≡ Status.Running → Needs P s → free_vector s ≡ got m → (step_of P s).said ≢ Said.Ended End.Vectors
unfolding settled saying
need-goes P s m h n free e = go (need-to P s n)
  where
    says : (o : Try State) → advance P s ≡ o → (settled s o).said ≡ Said.Ended End.Vectors
    says o q = ap (λ (x : Try State). (settled s x).said) (sym q) ∙ ap (λ (r : Stepped). r.said) (sym (own_runs P s h)) ∙ e

    on-not : (t : State) → t.status ≡ Status.Running → saying t.status ≡ Said.Ended End.Vectors → ⊥
    on-not t st q = let k : Said.GoesOn ≡ Said.Ended End.Vectors = sym (ap saying st) ∙ q in let z : ◌≡◌ {A = ℕ} 0 1 = cc in omega arith

    go : Outcome s.status (free_vector s) (advance P s) → ⊥
    go (on t q st) = on-not t (st ∙ h) (says (got t) q)
    go (full f q) = let k : got m ≡ stop End.Vectors = sym free ∙ f in let z : ◌≡◌ {A = ℕ} 0 1 = cc in omega arith
    go (lost q) = let k : Said.Stuck ≡ Said.Ended End.Vectors = says stuck q in let z : ◌≡◌ {A = ℕ} 0 1 = cc in omega arith

-- ---- budgets

-- steps are counted on
counts-on : (P : Program) (m : ℕ) (s : State) (n : ℕ) → n ≤ (run_from P m s n).steps
counts-on P m s n = let e = ap (λ (r : Ran). r.steps) (run-counts P m s n) in omega (arith, e)

-- r is own, or stopped after j steps behind n, where own goes on or is stuck
data Aside (P : Program) (s : State) (n : ℕ) (r own : Ran) : Type 0 where
  equal : r ≡ own → Aside P s n r own
  sooner : (j : ℕ) → r.answer ≡ Answer.Ended End.Vectors → r.steps ≡ n + j → n + j < own.steps → r.state ≡ (stopped_by (run_from P j s 0).state).state → Aside P s n r own
  at_stuck : (j : ℕ) → r.answer ≡ Answer.Ended End.Vectors → r.steps ≡ n + j → own.answer ≡ Answer.Stuck → own.steps ≡ n + j → r.state ≡ (stopped_by (run_from P j s 0).state).state → Aside P s n r own

run_none : (most : ℕ) (P : Program) (s : State) (n : ℕ) → run_with most P 0 s n ≡ run_from P 0 s n
unfolding run_with run_from_to
run_none most P s n = refl

run-next : (P : Program) (m : ℕ) (s : State) (n : ℕ) → run_from P (suc m) s n ≡ continued (step_of P s).state (step_of P s).said n (λ t. run_from P m t (n + 1))
unfolding run_from_to
run-next P m s n = refl

-- a step that goes on, and j more
one_more : (P : Program) (s : State) (j : ℕ) → (step_of P s).said ≡ Said.GoesOn → (run_from P (suc j) s 0).state ≡ (run_from P j (step_of P s).state 0).state
unfolding run_from_to continued
one_more P s j e = rw e (ap (λ (r : Ran). r.state) (run-counts P j (step_of P s).state 1))

run-start : (P : Program) (s : State) → (run_from P 0 s 0).state ≡ s
unfolding run_from_to
run-start P s = refl

module _ (most : ℕ) (P : Program) where
  -- the steps behind one that is the machine's own
  next-aside : (m : ℕ) (s : State) (n : ℕ) (d : Said) → (step_of P s).said ≡ d → ((t : State) → Aside P t (n + 1) (run_with most P m t (n + 1)) (run_from P m t (n + 1)))
      → Aside P s n (continued (step_of P s).state d n (λ t. run_with most P m t (n + 1))) (continued (step_of P s).state d n (λ t. run_from P m t (n + 1)))
  unfolding continued
  next-aside m s n Said.GoesOn e ih = go (ih (step_of P s).state)
    where
      u : State
      u = (step_of P s).state

      go : Aside P u (n + 1) (run_with most P m u (n + 1)) (run_from P m u (n + 1)) → Aside P s n (run_with most P m u (n + 1)) (run_from P m u (n + 1))
      go (equal q) = equal q
      go (sooner j a k l q) = sooner (suc j) a (omega (arith, k)) (omega (arith, l)) (q ∙ ap (λ (t : State). (stopped_by t).state) (sym (one_more P s j e)))
      go (at_stuck j a k b l q) = at_stuck (suc j) a (omega (arith, k)) b (omega (arith, l)) (q ∙ ap (λ (t : State). (stopped_by t).state) (sym (one_more P s j e)))
  next-aside m s n (Said.Ended x) e ih = equal refl
  next-aside m s n Said.Stuck e ih = equal refl

  run-aside : (m : ℕ) (s : State) (n : ℕ) → Aside P s n (run_with most P m s n) (run_from P m s n)
  unfolding run_with continued last_step
  run-aside zero s n = equal (run_none most P s n)
  run-aside (suc m) s n = go (step-ways most P s) (λ t. run-aside m t (n + 1))
    where
      capped : Stepped → Ran
      capped r = continued r.state r.said n (λ t. run_with most P m t (n + 1))

      first : (r : Stepped) → r ≡ stopped_by s → (capped r).state ≡ (stopped_by (run_from P 0 s 0).state).state
      first r e = ap (λ (r : Stepped). (capped r).state) e ∙ ap (λ (t : State). (stopped_by t).state) (sym (run-start P s))

      go : StepWays most P s → ((t : State) → Aside P t (n + 1) (run_with most P m t (n + 1)) (run_from P m t (n + 1))) → Aside P s n (capped (step_with most P s)) (run_from P (suc m) s n)
      go (its e) ih = rw (e, run-next P m s n) (next-aside m s n (step_of P s).said refl ih)
      go (stops e d) ih =
          let l = counts-on P m (step_of P s).state (n + 1) in
          let k : (run_from P (suc m) s n).steps ≡ (run_from P m (step_of P s).state (n + 1)).steps = ap (λ (r : Ran). r.steps) (run-next P m s n) ∙ ap (λ (x : Said). (continued (step_of P s).state x n (λ t. run_from P m t (n + 1))).steps) d in
          sooner 0 (ap (λ (r : Stepped). (capped r).answer) e) (ap (λ (r : Stepped). (capped r).steps) e) (omega (arith, l, k)) (first (step_with most P s) e)
      go (nowhere e d) ih =
          let k : (run_from P (suc m) s n).steps ≡ n = ap (λ (r : Ran). r.steps) (run-next P m s n) ∙ ap (λ (x : Said). (continued (step_of P s).state x n (λ t. run_from P m t (n + 1))).steps) d in
          at_stuck 0 (ap (λ (r : Stepped). (capped r).answer) e) (ap (λ (r : Stepped). (capped r).steps) e)
          (ap (λ (r : Ran). r.answer) (run-next P m s n) ∙ ap (λ (x : Said). (continued (step_of P s).state x n (λ t. run_from P m t (n + 1))).answer) d)
          (omega (arith, k)) (first (step_with most P s) e)

-- THE LAW: a budget in company
pub budgets : Budgets
unfolding Budgets budget_with budget_in_with budget_of_to budget_in_to
budgets most P s n buffer = go (long_enough buffer) s.status refl
  where
    refusal : Ran
    refusal = record { state = s; answer = Answer.Refused 13 0; steps = 0 }

    running : s.status ≡ Status.Running → Aside P s 0 (run_with most P n s 0) (run_from P n s 0) → InCompany P s (run_with most P n s 0) (run_from P n s 0)
    running h (equal q) = same q
    running h (sooner j a k l q) =
        let z : (run_with most P n s 0).steps ≡ j = omega (arith, k) in
        let y : (budget_in P s (run_with most P n s 0).steps s.status).state ≡ (run_from P j s 0).state = ap (λ (i : ℕ). (budget_in P s i s.status).state) z ∙ ap (λ (st : Status). (budget_in P s j st).state) h in
        earlier a (omega (arith, k, l)) (q ∙ ap (λ (t : State). (stopped_by t).state) (sym y))
    running h (at_stuck j a k b l q) =
        let z : (run_with most P n s 0).steps ≡ j = omega (arith, k) in
        let y : (budget_in P s (run_with most P n s 0).steps s.status).state ≡ (run_from P j s 0).state = ap (λ (i : ℕ). (budget_in P s i s.status).state) z ∙ ap (λ (st : Status). (budget_in P s j st).state) h in
        before_stuck a b (omega (arith, k, l)) (q ∙ ap (λ (t : State). (stopped_by t).state) (sym y))

    go : (b : Bool) (st : Status) → s.status ≡ st → InCompany P s (elim b [ true ↦ budget_in_with most P s n st | false ↦ refusal ]) (elim b [ true ↦ budget_in P s n st | false ↦ refusal ])
    go true Status.Running h = running h (run-aside most P n s 0)
    go true (Status.Ended e) h = same refl
    go false st h = same refl

-- THE LAW of a step, for a pool whose runs may have no more than 64
pub gets-one : (p : Pool) (i : ℕ) (P : Program) (s : State) → allowed p i ≤ VECTORS → s.status ≡ Status.Running → Needs P s → Gets p i P s
unfolding AllowedIs settled
gets-one p i P s most run n = record { given = given; stopped = stops }
  where
    tried : Bool → Try State
    tried b = elim b [ true ↦ stop End.Vectors | false ↦ advance P s ]

    given : gets p i (vectors_in s) ≡ true → (m : ℕ) × (free_vector s ≡ got m) × (step_with (allowed p i) P s ≡ step_of P s)
    given g =
        let l = ltb-true (vectors_in s) (allowed p i) (allowed-is p i (vectors_in s) ∙ g) in
        let t = below_free s (omega (arith, l, most)) in
        let e : advance_with (allowed p i) P s ≡ advance P s = need-advance (allowed p i) P s n ∙ ap tried (lt-leb (allowed p i) (vectors_in s) l) in
        (t.0, t.1, with-runs (allowed p i) P s run ∙ ap (settled s) e ∙ sym (own_runs P s run))

    stops : gets p i (vectors_in s) ≡ false → step_with (allowed p i) P s ≡ stopped_by s
    stops g =
        let l = ltb-false (vectors_in s) (allowed p i) (allowed-is p i (vectors_in s) ∙ g) in
        let e : advance_with (allowed p i) P s ≡ stop End.Vectors = need-advance (allowed p i) P s n ∙ ap tried (le-leb (allowed p i) (vectors_in s) l) in
        with-runs (allowed p i) P s run ∙ ap (settled s) e

-- what holds of every tried state under a number holds of a list, where each ask keeps it
history-all : (Q : TriedIn → Type 0) (reserves : List ℕ) (i : ℕ) → ((w : House) → Order reserves w → (a : Ask) → All (λ (r : Run). Q (record { pool = w.pool; run = r })) (tried_ask w.pool i a (w.runs i)))
    → (l : List Asked) (w : House) → Order reserves w → All Q (history_under i l w)
unfolding history_under
history-all Q reserves i each [] w o = all_none Q
history-all Q reserves i each (a ∷ l) w o = go (eqb a.number i) refl (history-all Q reserves i each l (serve a w).house (serve-keeps reserves a w o))
  where
    go : (b : Bool) → eqb a.number i ≡ b → All Q (history_under i l (serve a w).house) → All Q (elim b [ true ↦ map (λ (r : Run). record { pool = w.pool; run = r }) (tried_ask w.pool i a.ask (w.runs i)) ++ history_under i l (serve a w).house | false ↦ history_under i l (serve a w).house ])
    go true e ih = all_append Q (map (λ (r : Run). record { pool = w.pool; run = r }) (tried_ask w.pool i a.ask (w.runs i))) (history_under i l (serve a w).house) (all_map Q (λ (r : Run). record { pool = w.pool; run = r }) (tried_ask w.pool i a.ask (w.runs i)) (each w o a.ask)) ih
    go false e ih = ih

-- 21 tries none, so the number of a step that was tried is below 8, and it may have no more than 64
tried-bounded : (reserves : List ℕ) (i : ℕ) (w : House) → Order reserves w → (a : Ask) → All (λ (r : Run). allowed w.pool i ≤ VECTORS) (tried_ask w.pool i a (w.runs i))
unfolding tried_ask
tried-bounded reserves i w o (start image level f v words buffer) = all_none (λ (r : Run). allowed w.pool i ≤ VECTORS)
tried-bounded reserves i w o (go_on e) = under (w.runs i)
  where
    under : (x : Option Run) → All (λ (r : Run). allowed w.pool i ≤ VECTORS) (tried_ask w.pool i (go_on e) x)
    under none = all_none (λ (r : Run). allowed w.pool i ≤ VECTORS)
    under (some r) = go (refuses21 w.pool i) refl
      where
        go : (b : Bool) → refuses21 w.pool i ≡ b → All (λ (r : Run). allowed w.pool i ≤ VECTORS) (elim b [ true ↦ [] | false ↦ tried_by w.pool i e r ])
        go true q = all_none (λ (r : Run). allowed w.pool i ≤ VECTORS)
        go false q = λ x m. (order-housed reserves w o).bounded i (number_in w.pool i q)

-- THE LAW: wherever a step was tried under a number
pub rule : Rule
unfolding Rule
rule reserves l e asks i t m run n = gets-one t.pool i (program_in t.run) t.run.state (history-all (λ (x : TriedIn). allowed x.pool i ≤ VECTORS) reserves i (tried-bounded reserves i) asks (opened (fresh reserves)) (opened-order reserves l e) t m) run n
