-- A call that stays live through a list of events keeps its numbers and its version, whatever changes came between.
use Rattle.std.specs.Prelude.{Err, Ok}
use mathlib.Core.Path.{◌≡◌, refl, sym, ap, ap₂, ◌∙◌, subst}
use mathlib.Core.Logic.{◌⊎◌, inl, inr}
use mathlib.Core.List.{List, [], ◌∷◌, ◌++◌, Memᴰ}
use mathlib.Core.Option.{some}
use mathlib.Core.Bool.{Bool, true, false}
use Prim.Native.Nat.{ℕ, zero, suc, ◌<◌}
use native.Mathlib.Omega.{arith}
use lib.ListN.{get_elem?, length, take}
use Rattle.program.specs.Program.{Version, Program, find_version}
use Rattle.machine.specs.Begin.{program_of}
use Rattle.machine.specs.Changes.{change_of}
use Rattle.machine.specs.Events.{Run, Event, single, budget, change, program_in, in_state, in_force, handle, handle_to, after, after_to, tried, history}
use Rattle.machine.specs.Runs.{step_of}
use Rattle.machine.specs.States.{live_frames}
use Rattle.machine.specs.Steps.{Position, position_of}
use Rattle.machine.specs.declared.Activation.{Activation}
use Rattle.machine.specs.declared.Frame.{Frame}
use Rattle.machine.specs.declared.State.{State}
use Rattle.runs.specs.Alike.{Alike}
use Rattle.runs.specs.Lives.{call_at, numbers, idle, Leaves, Finishes, Happens, calls, dispatches, ends, stays, steps, Unmoved}
use Rattle.runs.specs.Singles.{singles, BudgetIsSteps}
use Rattle.runs.proofs.Lives.{moves}
use Rattle.runs.proofs.Singles.{budget-is-steps}
use Rattle.soundness.specs.Claim.{entered, begun}
use Rattle.soundness.specs.Stay.{StayLong}
use Rattle.soundness.proofs.Closing.{live-known}
use Rattle.soundness.proofs.Histories.{Sound, sure-of, handle-sound, after-sound, begun-sound}
use Rattle.soundness.proofs.Invariant.{version_at}
use Rattle.soundness.proofs.Levels.{live_of}
use Rattle.soundness.proofs.Taken.{taken-passed, live_alike}
use Rattle.machine.specs.Denials.{Grant}

-- ---- one step

-- a call that is live before and after a step is the same call
module _ (P : Program) (s : State) (k : ℕ) where
  abbrev t : State
  t = (step_of P s).state

  happens-keeps : (a : Activation) (p : Position) → Happens s t a p → k < s.calls → k < t.calls → call_at t k ≡ call_at s k
  happens-keeps a _ (calls d f w rs e) h g = e.same k (λ q. omega arith)
  happens-keeps a _ (dispatches d f mark ret pairs w e) h g = e.same k (λ q. omega arith)
  happens-keeps a _ (ends o x) h g = left x.left
    where
      left : Leaves s t a.frame ⊎ Finishes s t → call_at t k ≡ call_at s k
      left (inl l) = l.same k (λ q. omega (arith, l.count, g))
      left (inr l) = absurd (omega (arith, l.count, g))
  happens-keeps a _ (stays p o x) h g = x.same k
  happens-keeps a _ (steps i c x) h g = x.same k

  unmoved-keeps : Unmoved s t → call_at t k ≡ call_at s k
  unfolding call_at live_frames
  unmoved-keeps u = ap₂ (λ (n : ℕ) (fs : List Frame). numbers (get_elem? (take n fs) k)) u.count u.frames

  step_keeps : k < s.calls → k < t.calls → call_at t k ≡ call_at s k
  step_keeps h g = go (idle s.status (step_of P s).said) refl
    where
      go : (b : Bool) → idle s.status (step_of P s).said ≡ b → call_at t k ≡ call_at s k
      go true e = unmoved-keeps ((moves P s).unmoved e)
      go false e = let l = (moves P s).moved e in happens-keeps l.place.activation (position_of l.place) l.happens h g

-- ---- so many single steps

-- the call k is live in every state in which a step was tried
abbrev Through : ℕ → List Run → Type 0
Through k h = (b : Run) → Memᴰ b h → k < b.state.calls

through-left : (k : ℕ) (l m : List Run) → Through k (l ++ m) → Through k l
through-left k [] m h b i = elim i [ ]
through-left k (x ∷ l) m h b (Memᴰ.head e) = h b (Memᴰ.head e)
through-left k (x ∷ l) m h b (Memᴰ.tail i) = through-left k l m (λ c j. h c (Memᴰ.tail j)) b i

through-right : (k : ℕ) (l m : List Run) → Through k (l ++ m) → Through k m
through-right k [] m h = h
through-right k (x ∷ l) m h = through-right k l m (λ c j. h c (Memᴰ.tail j))

-- what stays live through so many single steps was live before them
singles-first : (k m : ℕ) (r : Run) → Through k (history (singles m) r) → k < (after (singles m) r).state.calls → k < r.state.calls
unfolding history tried after_to
singles-first k zero r h g = g
singles-first k (suc m) r h g = h r (Memᴰ.head refl)

record Keeps (k : ℕ) (r t : Run) : Type 0 where
  image : t.image ≡ r.image
  call : call_at t.state k ≡ call_at r.state k

singles-keep : (k m : ℕ) (r : Run) → Through k (history (singles m) r) → k < (after (singles m) r).state.calls → Keeps k r (after (singles m) r)
unfolding history tried after_to handle_to
singles-keep k zero r h g = record { image = refl; call = refl }
singles-keep k (suc m) r h g =
    let n = in_state r (step_of (program_in r) r.state).state in
    let later : Through k (history (singles m) n) = λ b i. h b (Memᴰ.tail i) in
    let i = singles-keep k m n later g in
    record { image = i.image; call = i.call ∙ step_keeps (program_in r) r.state k (h r (Memᴰ.head refl)) (singles-first k m n later g) }

-- ---- one event

-- what stays live through a list was live before it
events-first : (k : ℕ) (es : List Event) (r : Run) → Through k (history es r) → k < (after es r).state.calls → k < r.state.calls
unfolding history tried after_to handle_to BudgetIsSteps
events-first k [] r h g = g
events-first k (single ∷ es) r h g = h r (Memᴰ.head refl)
events-first k (budget n buffer ∷ es) r h g =
    let x = budget-is-steps n buffer r in
    let next = events-first k es (handle (budget n buffer) r).run (through-right k (tried (budget n buffer) r) _ h) g in
    singles-first k (length (tried (budget n buffer) r)) r (subst (Through k) x.0 (through-left k (tried (budget n buffer) r) _ h)) (subst (λ (q : Run). k < q.state.calls) x.1 next)
events-first k (change new ∷ es) r h g = events-first k es (handle (change new) r).run h g

-- the call k is g.w in both runs, and its version is alike
abbrev Kept : ℕ → ℕ → ℕ → Run → Run → Type 0
Kept k g w r t = (call_at t.state k ≡ some (g, w)) × (U : Version) × (W : Version) × (find_version (program_in r) g w ≡ some U) × (find_version (program_in t) g w ≡ some W) × Alike U W

-- a version is alike itself
alike_self : (v : Version) → Alike v v
unfolding Alike
alike_self v = refl

alike-trans : (u v w : Version) → Alike u v → Alike v w → Alike u w
unfolding Alike
alike-trans u v w a b = a ∙ b

module _ (k g w : ℕ) where
  -- a live call is of a version of the image in force
  known : (r : Run) → Sound r → call_at r.state k ≡ some (g, w) → (U : Version) × (find_version (program_in r) g w ≡ some U)
  unfolding entered
  known r o c =
      let x = live_of r.state k g w c in
      (version_at (program_in r) r.state.frames k, ap₂ (find_version (program_in r)) (sym x.2) (sym x.3) ∙ live-known (program_in r) (sure-of r o) r.state o.inv k x.0 x.1)

  -- where the image stays
  stays-kept : (r t : Run) → Sound r → call_at r.state k ≡ some (g, w) → Keeps k r t → Kept k g w r t
  stays-kept r t o c x =
      let u = known r o c in
      (x.call ∙ c, u.0, u.0, u.1, ap (λ (i : List ℕ). find_version (program_of i) g w) x.image ∙ u.1, alike_self u.0)

  -- a change
  change-kept : (new : List ℕ) (r : Run) → Sound r → call_at r.state k ≡ some (g, w) → (c : Grant) → change_of r.image new r.state ≡ c → Kept k g w r (record { image = in_force c r.image new; state = r.state })
  unfolding in_force
  change-kept new r o c (Err why) e = stays-kept r r o c (record { image = refl; call = refl })
  change-kept new r o c (Ok _) e =
      let u = known r o c in
      let x = live_of r.state k g w c in
      let t = live_alike r.image new o.versions o.verdict r.state (taken-passed r.image new r.state e) k x.0 u.0 x.1 (ap₂ (find_version (program_in r)) x.2 x.3 ∙ u.1) in
      (c, u.0, t.0, u.1, ap₂ (find_version (program_of new)) (sym x.2) (sym x.3) ∙ t.1, t.2)

  event-kept : (e : Event) (r : Run) → Sound r → call_at r.state k ≡ some (g, w) → Through k (tried e r) → k < (handle e r).run.state.calls → Kept k g w r (handle e r).run
  unfolding handle_to tried BudgetIsSteps
  event-kept single r o c h l = stays-kept r _ o c (record { image = refl; call = step_keeps (program_in r) r.state k (h r (Memᴰ.head refl)) l })
  event-kept (budget n buffer) r o c h l =
      let x = budget-is-steps n buffer r in
      stays-kept r _ o c (subst (Keeps k r) (sym x.1) (singles-keep k (length (tried (budget n buffer) r)) r (subst (Through k) x.0 h) (subst (λ (q : Run). k < q.state.calls) x.1 l)))
  event-kept (change new) r o c h l = change-kept new r o c (change_of r.image new r.state) refl

  -- ---- a list of events

  both-kept : (r n t : Run) → Kept k g w r n → Kept k g w n t → Kept k g w r t
  both-kept r n t x y =
      let q : x.2 ≡ y.1 = same (sym x.4 ∙ y.3) in
      (y.0, x.1, y.2, x.3, y.4, alike-trans x.1 x.2 y.2 x.5 (subst (λ (v : Version). Alike v y.2) (sym q) y.5))
    where
      same : {a b : Version} → some a ≡ some b → a ≡ b
      same e = cc

  events-kept : (es : List Event) (r : Run) → Sound r → call_at r.state k ≡ some (g, w) → Through k (history es r) → k < (after es r).state.calls → Kept k g w r (after es r)
  unfolding history after_to
  events-kept [] r o c h l = stays-kept r r o c (record { image = refl; call = refl })
  events-kept (e ∷ es) r o c h l =
      let n = (handle e r).run in
      let later = through-right k (tried e r) (history es n) h in
      let x = event-kept e r o c (through-left k (tried e r) (history es n) h) (events-first k es n later l) in
      both-kept r n (after es n) x (events-kept es n (handle-sound e r o) x.0 later l)

-- THE LAW: whatever changes came between, a call that stays live keeps the version that it entered
pub stay-long : StayLong
unfolding StayLong
stay-long image level f v words buffer h before later k g w c through live =
    events-kept k g w later (after before (begun image level f v words buffer)) (after-sound before (begun image level f v words buffer) (begun-sound image level f v words buffer h)) c through live
