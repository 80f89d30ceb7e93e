-- Steps, budgets, lists of events and beginnings under a program, and under one in which it stands renumbered.
use Rattle.std.specs.Prelude.{Ok}
use mathlib.Core.Path.{◌≡◌, refl, sym, ap, subst}
use mathlib.Core.List.{List, [], ◌∷◌}
use mathlib.Core.Option.{Option, none, some}
use mathlib.Core.Bool.{Bool, true, false}
use Prim.Native.Nat.{ℕ, zero, suc, ◌+◌, ◌<◌}
use native.Mathlib.Omega.{arith}
use lib.IntN.{ℤ}
use lib.Dec.{leb}
use Rattle.program.specs.Program.{Version, Program, find_version, parameter_types}
use Rattle.program.proofs.Held.{find-numbers}
use Rattle.machine.specs.Try.{Try, got, stuck, stop}
use Rattle.machine.specs.States.{over, with_end}
use Rattle.machine.specs.Calls.{frame_for}
use Rattle.machine.specs.Steps.{advance}
use Rattle.machine.specs.Runs.{saying, settled, step_in, step_in_to, step_of, step_of_to, continued, run_from, run_from_to, budget_in, budget_in_to, long_enough, budget_of, budget_of_to, buffer_of}
use Rattle.machine.specs.Events.{Event, single, budget, change, handle_to, after, after_to, replies, replies_to}
use Rattle.machine.specs.Begin.{Given, values_of, vectors_of, first_state, arguments, refused, question13, question12, question19, question11, run_level, entered_of, program_of}
use Rattle.machine.specs.declared.Answer.{Answer}
use Rattle.machine.specs.declared.Frame.{Frame}
use Rattle.machine.specs.declared.Ran.{Ran}
use Rattle.machine.specs.declared.Said.{Said}
use Rattle.machine.specs.declared.State.{State}
use Rattle.machine.specs.declared.Status.{Status}
use Rattle.joins.specs.Shifted.{shift_version}
use Rattle.joins.specs.Alongside.{shift_found, Carries, Closed, Beside, with_frames, Sim, SimRan, SimStepped, SimBegun}
use Rattle.joins.specs.Claims.{Stays}
use Rattle.joins.proofs.Both.{Both}
use Rattle.joins.proofs.Steps.{advance-in}

module _ (k o n : ℕ) (P J : Program) (C : Carries k o n P J) (D : Closed n P) where
  settled-in : (s : State) (fs : List Frame) → Beside k n s.calls s.frames fs → (x y : Try State) → Both (Sim k n) x y → SimStepped k n (settled s x) (settled (with_frames s fs) y)
  unfolding settled Both with_end with_frames
  settled-in s fs B (got a) (got b) h = record { says = ap (λ (u : State). saying u.status) h.others; states = h }
  settled-in s fs B (got a) stuck h = absurd h
  settled-in s fs B (got a) (stop e) h = absurd h
  settled-in s fs B stuck (got b) h = absurd h
  settled-in s fs B stuck stuck h = record { says = refl; states = record { frames = fs; others = refl; calls = B } }
  settled-in s fs B stuck (stop e) h = absurd h
  settled-in s fs B (stop e) (got b) h = absurd h
  settled-in s fs B (stop e) stuck h = absurd h
  settled-in s fs B (stop e) (stop f) h = rw h (record { says = refl; states = record { frames = fs; others = refl; calls = B } })

  step_in_lem : (s : State) (fs : List Frame) → Beside k n s.calls s.frames fs → (x : Status) → SimStepped k n (step_in P s x) (step_in J (with_frames s fs) x)
  unfolding step_in_to
  step_in_lem s fs B Status.Running = settled-in s fs B (advance P s) (advance J (with_frames s fs)) (advance-in k o n P J C D s fs B)
  step_in_lem s fs B (Status.Ended e) = record { says = refl; states = record { frames = fs; others = refl; calls = B } }

  pub step-sim : (s t : State) → Sim k n s t → SimStepped k n (step_of P s) (step_of J t)
  unfolding step_of_to with_frames
  step-sim s t S = subst (λ (t : State). SimStepped k n (step_of P s) (step_of J t)) (sym S.others) (step_in_lem s S.frames S.calls s.status)

  run_sim : (m i : ℕ) (s t : State) → Sim k n s t → SimRan k n (run_from P m s i) (run_from J m t i)
  unfolding run_from_to continued
  run_sim zero i s t S = record { answers = refl; steps = refl; states = S }
  run_sim (suc m) i s t S = go (step_of P s).said (step_of J t).said (step-sim s t S).says (λ u v. run_sim m (i + 1) u v) (step-sim s t S).states
    where
      go : (x y : Said) → y ≡ x → ((u v : State) → Sim k n u v → SimRan k n (run_from P m u (i + 1)) (run_from J m v (i + 1))) → Sim k n (step_of P s).state (step_of J t).state
          → SimRan k n (continued (step_of P s).state x i (λ u. run_from P m u (i + 1))) (continued (step_of J t).state y i (λ u. run_from J m u (i + 1)))
      go Said.GoesOn y e ih q = rw e (ih _ _ q)
      go (Said.Ended x) y e ih q = rw e (record { answers = refl; steps = refl; states = q })
      go Said.Stuck y e ih q = rw e (record { answers = refl; steps = refl; states = q })

  status-same : (s t : State) → Sim k n s t → t.status ≡ s.status
  unfolding with_frames
  status-same s t S = ap (λ (u : State). u.status) S.others

  result-same : (s t : State) → Sim k n s t → t.result ≡ s.result
  unfolding with_frames
  result-same s t S = ap (λ (u : State). u.result) S.others

  pub budget-sim : (m : ℕ) (buffer : List ℤ) (s t : State) → Sim k n s t → SimRan k n (budget_of P s m buffer) (budget_of J t m buffer)
  unfolding budget_of_to budget_in_to
  budget-sim m buffer s t S = go (long_enough buffer)
    where
      in-sim : (x y : Status) → y ≡ x → SimRan k n (budget_in P s m x) (budget_in J t m y)
      in-sim Status.Running y e = rw e (run_sim m 0 s t S)
      in-sim (Status.Ended x) y e = rw e (record { answers = refl; steps = refl; states = S })

      go : (b : Bool) → SimRan k n (elim b [ true ↦ budget_in P s m s.status | false ↦ record { state = s; answer = Answer.Refused 13 0; steps = 0 } ]) (elim b [ true ↦ budget_in J t m t.status | false ↦ record { state = t; answer = Answer.Refused 13 0; steps = 0 } ])
      go true = in-sim s.status t.status (status-same s t S)
      go false = record { answers = refl; steps = refl; states = S }

  pub buffer-sim : (r q : Ran) (buffer : List ℤ) → SimRan k n r q → buffer_of q buffer ≡ buffer_of r buffer
  unfolding buffer_of
  buffer-sim r q buffer S = rw (S.answers, result-same r.state q.state S.states) refl

  -- ---- beginnings

  same-empty : (s : State) → s.calls ≡ 0 → Sim k n s s
  unfolding with_frames Beside
  same-empty s e = record { frames = s.frames; others = refl; calls = rw e refl }

  refused-sim : (q p : ℕ) → SimBegun k n (refused q p) (refused q p)
  unfolding refused first_state
  refused-sim q p = record { entries = refl; states = same-empty (first_state [] []) refl }

  first-sim : (W : Version) (xs : List Given) → W.function < n → Sim k n (first_state (frame_for W (values_of xs 0) ∷ []) (vectors_of xs)) (first_state (frame_for (shift_version k o W) (values_of xs 0) ∷ []) (vectors_of xs))
  unfolding first_state frame_for with_frames Beside over
  first-sim W xs h = record { frames = (first_state (frame_for (shift_version k o W) (values_of xs 0) ∷ []) (vectors_of xs)).frames; others = refl; calls = (h, refl, refl) }

  pub begun-sim : (level f w : ℕ) (words buffer : List ℤ) → f < n → SimBegun k n (entered_of P level f w words buffer) (entered_of J level (k + f) w words buffer)
  unfolding entered_of question11 question19 question12 question13 shift_found
  begun-sim level f w words buffer h = subst (λ (x : Option Version). SimBegun k n (question11 level (find_version P f w) words buffer) (question11 level x words buffer)) (sym (C.look f w h)) (go (find_version P f w) refl)
    where
      third : (W : Version) (xs : List Given) (b : Bool) → W.function < n
          → SimBegun k n (elim b [ true ↦ record { state = first_state (frame_for W (values_of xs 0) ∷ []) (vectors_of xs); entry = Ok tt } | false ↦ refused 13 0 ])
          (elim b [ true ↦ record { state = first_state (frame_for (shift_version k o W) (values_of xs 0) ∷ []) (vectors_of xs); entry = Ok tt } | false ↦ refused 13 0 ])
      third W xs true l = record { entries = refl; states = first-sim W xs l }
      third W xs false l = refused-sim 13 0

      second : (W : Version) (x : Option (List Given)) → W.function < n → SimBegun k n (question12 W x buffer) (question12 (shift_version k o W) x buffer)
      second W none l = refused-sim 12 0
      second W (some xs) l = third W xs (long_enough buffer) l

      first : (W : Version) (b : Bool) → W.function < n
          → SimBegun k n (elim b [ true ↦ question12 W (arguments (parameter_types W) words) buffer | false ↦ refused 19 0 ])
          (elim b [ true ↦ question12 (shift_version k o W) (arguments (parameter_types W) words) buffer | false ↦ refused 19 0 ])
      first W true l = second W (arguments (parameter_types W) words) l
      first W false l = refused-sim 19 0

      go : (x : Option Version) → find_version P f w ≡ x → SimBegun k n (question11 level x words buffer) (question11 level (shift_found k o x) words buffer)
      go none e = refused-sim 11 0
      go (some W) e = first W (leb W.level (run_level level)) (omega (arith, h, (find-numbers P f w W e).0))

-- every list of single steps and budgets is answered alike, by an image and by one in which its program stands
pub events-sim : (k o n : ℕ) (p j : List ℕ) → Carries k o n (program_of p) (program_of j) → Closed n (program_of p) → (es : List Event) → Stays es → (s t : State) → Sim k n s t
    → (replies es (record { image = j; state = t }) ≡ replies es (record { image = p; state = s })) × Sim k n (after es (record { image = p; state = s })).state (after es (record { image = j; state = t })).state
unfolding replies_to after_to handle_to Stays
events-sim k o n p j C D [] h s t S = (refl, S)
events-sim k o n p j C D (single ∷ es) h s t S =
    let r = step-sim k o n (program_of p) (program_of j) C D s t S in
    let g = events-sim k o n p j C D es h _ _ r.states in
    (rw (r.says, g.0) refl, g.1)
events-sim k o n p j C D (budget m buffer ∷ es) h s t S =
    let r = budget-sim k o n (program_of p) (program_of j) C D m buffer s t S in
    let g = events-sim k o n p j C D es h _ _ r.states in
    (rw (buffer-sim k o n (program_of p) (program_of j) C D (budget_of (program_of p) s m buffer) (budget_of (program_of j) t m buffer) buffer r, r.answers, r.steps, g.0) refl, g.1)
events-sim k o n p j C D (change image ∷ es) h s t S = absurd h
