-- What every step keeps holds after every budget and list of events, and wherever a step was tried.
use Rattle.std.specs.Prelude.{Err, Ok}
use mathlib.Core.Path.{◌≡◌, refl, sym, subst}
use mathlib.Core.List.{List, [], ◌∷◌, ◌++◌, map, Memᴰ}
use mathlib.Core.Bool.{Bool, true, false}
use Prim.Native.Nat.{ℕ, zero, suc, ◌+◌}
use lib.IntN.{ℤ}
use Rattle.program.specs.Program.{Program}
use Rattle.machine.specs.Changes.{change_of}
use Rattle.machine.specs.Events.{Run, Event, single, budget, change, program_in, in_state, in_force, handle, handle_to, after, after_to, onward, tried_under, tried_in, tried_by, tried, history}
use Rattle.machine.specs.Runs.{step_of, continued, run_from, run_from_to, budget_in, budget_in_to, long_enough, budget_of, budget_of_to}
use Rattle.machine.specs.declared.Ran.{Ran}
use Rattle.machine.specs.declared.Said.{Said}
use Rattle.machine.specs.declared.State.{State}
use Rattle.machine.specs.declared.Status.{Status}
use Rattle.machine.specs.Denials.{Grant}

-- ---- what holds of every element of a list

abbrev pub All : {A : Type 0} → (A → Type 0) → List A → Type 0
All Q l = (b : _) → Memᴰ b l → Q b

module _ {A : Type 0} (Q : A → Type 0) where
  pub all_none : All Q []
  all_none b m = elim m [ ]

  pub all_cons : (s : A) (l : List A) → Q s → All Q l → All Q (s ∷ l)
  all_cons s l q all b (Memᴰ.head e) = subst Q (sym e) q
  all_cons s l q all b (Memᴰ.tail m) = all b m

  pub all_append : (l m : List A) → All Q l → All Q m → All Q (l ++ m)
  all_append [] m p q b i = q b i
  all_append (x ∷ l) m p q b (Memᴰ.head e) = p b (Memᴰ.head e)
  all_append (x ∷ l) m p q b (Memᴰ.tail i) = all_append l m (λ c j. p c (Memᴰ.tail j)) q b i

pub all_map : {A B : Type 0} (Q : B → Type 0) (g : A → B) (l : List A) → All (λ x. Q (g x)) l → All Q (map g l)
all_map Q g [] h b m = elim m [ ]
all_map Q g (x ∷ l) h b (Memᴰ.head e) = subst Q (sym e) (h x (Memᴰ.head refl))
all_map Q g (x ∷ l) h b (Memᴰ.tail m) = all_map Q g l (λ c i. h c (Memᴰ.tail i)) b m

-- ---- states of one program

module _ (P : Program) (Q : State → Type 0) (keeps : (s : State) → Q s → Q (step_of P s).state) where
  continued-keeps : (s : State) (d : Said) (n : ℕ) (more : State → Ran) → Q s → ((t : State) → Q t → Q (more t).state) → Q (continued s d n more).state
  unfolding continued
  continued-keeps s Said.GoesOn n more q ih = ih s q
  continued-keeps s (Said.Ended e) n more q ih = q
  continued-keeps s Said.Stuck n more q ih = q

  -- steps under a budget
  run-keeps : (m : ℕ) (s : State) (n : ℕ) → Q s → Q (run_from P m s n).state
  unfolding run_from_to
  run-keeps zero s n q = q
  run-keeps (suc m) s n q = continued-keeps (step_of P s).state (step_of P s).said n (λ t. run_from P m t (n + 1)) (keeps s q) (λ t i. run-keeps m t (n + 1) i)

  -- a budget that is not refused
  pub in-keeps : (s : State) (n : ℕ) (st : Status) → Q s → Q (budget_in P s n st).state
  unfolding budget_in_to
  in-keeps s n Status.Running q = run-keeps n s 0 q
  in-keeps s n (Status.Ended e) q = q

  -- any budget
  pub budget-keeps : (s : State) (n : ℕ) (buffer : List ℤ) → Q s → Q (budget_of P s n buffer).state
  unfolding budget_of_to
  budget-keeps s n buffer q = go (long_enough buffer) refl
    where
      go : (b : Bool) → long_enough buffer ≡ b → Q (budget_of P s n buffer).state
      go true e = rw (e, budget_of_to) (in-keeps s n s.status q)
      go false e = rw (e, budget_of_to) q

  -- the states in which a step was tried: those behind a step
  onward-all : (s : State) (d : Said) (more : State → List State) → Q s → ((t : State) → Q t → All Q (more t)) → All Q (onward s d more)
  unfolding onward
  onward-all s Said.GoesOn more q ih = ih s q
  onward-all s (Said.Ended e) more q ih = all_none Q
  onward-all s Said.Stuck more q ih = all_none Q

  -- those under a budget
  under_all : (m : ℕ) (s : State) → Q s → All Q (tried_under P m s)
  unfolding tried_under
  under_all zero s q = all_none Q
  under_all (suc m) s q = all_cons Q s _ q (onward-all (step_of P s).state (step_of P s).said (λ t. tried_under P m t) (keeps s q) (λ t i. under_all m t i))

  -- those of a budget that is not refused
  pub in_all : (s : State) (n : ℕ) (st : Status) → Q s → All Q (tried_in P s n st)
  unfolding tried_in
  in_all s n Status.Running q = under_all n s q
  in_all s n (Status.Ended e) q = all_none Q

  -- those of any budget
  pub tried-all : (s : State) (n : ℕ) (buffer : List ℤ) → Q s → All Q (tried_by P s n buffer)
  unfolding tried_by
  tried-all s n buffer q = go (long_enough buffer) refl
    where
      go : (b : Bool) → long_enough buffer ≡ b → All Q (tried_by P s n buffer)
      go true e = rw (e, tried_by) (in_all s n s.status q)
      go false e = rw (e, tried_by) (all_none Q)

-- ---- runs, whose image may change

module _ (I : Run → Type 0)
    (steps : (r : Run) → I r → I (in_state r (step_of (program_in r) r.state).state))
    (taken : (new : List ℕ) (r : Run) → I r → change_of r.image new r.state ≡ Ok tt → I (record { image = new; state = r.state })) where
  -- under one image
  under : (r : Run) → (s : State) → I (in_state r s) → I (in_state r (step_of (program_in r) s).state)
  under r s i = steps (in_state r s) i

  changed : (new : List ℕ) (r : Run) → I r → (c : Grant) → change_of r.image new r.state ≡ c → I (record { image = in_force c r.image new; state = r.state })
  unfolding in_force
  changed new r i (Ok _) e = taken new r i e
  changed new r i (Err why) e = i

  pub handle-keeps : (e : Event) (r : Run) → I r → I (handle e r).run
  unfolding handle_to
  handle-keeps single r i = steps r i
  handle-keeps (budget n buffer) r i = budget-keeps (program_in r) (λ s. I (in_state r s)) (under r) r.state n buffer i
  handle-keeps (change new) r i = changed new r i (change_of r.image new r.state) refl

  -- THE LAW: after a list of events
  pub after-keeps : (es : List Event) (r : Run) → I r → I (after es r)
  unfolding after_to
  after-keeps [] r i = i
  after-keeps (e ∷ es) r i = after-keeps es (handle e r).run (handle-keeps e r i)

  pub tried-keeps : (e : Event) (r : Run) → I r → All I (tried e r)
  unfolding tried
  tried-keeps single r i = all_cons I r [] i (all_none I)
  tried-keeps (budget n buffer) r i = all_map I (in_state r) (tried_by (program_in r) r.state n buffer) (tried-all (program_in r) (λ s. I (in_state r s)) (under r) r.state n buffer i)
  tried-keeps (change new) r i = all_none I

  -- THE LAW: and wherever a step was tried
  pub history-keeps : (es : List Event) (r : Run) → I r → All I (history es r)
  unfolding history
  history-keeps [] r i = all_none I
  history-keeps (e ∷ es) r i = all_append I (tried e r) (history es (handle e r).run) (tried-keeps e r i) (history-keeps es (handle e r).run (handle-keeps e r i))
