-- Demand 3, the levels and the listed replies in the pool: under each number goes a run whose image is accepted and whose state has the invariant.
use Rattle.std.specs.Prelude.{Err, Ok}
use mathlib.Core.Path.{◌≡◌, refl, sym, ap, ◌∙◌, subst}
use mathlib.Core.Logic.{◌≢◌, ◌⊎◌, inl, inr}
use mathlib.Core.List.{List, [], ◌∷◌, map}
use mathlib.Core.Option.{Option, none, some}
use mathlib.Core.Bool.{Bool, true, false, cond}
use Prim.Native.Nat.{ℕ}
use native.Mathlib.Omega.{arith}
use lib.IntN.{ℤ}
use lib.Dec.{eqb}
use borrow.Author.Tests.{eqb-true}
use Rattle.program.specs.Program.{Program}
use Rattle.machine.specs.States.{live_frames, with_stack, with_end}
use Rattle.machine.specs.Calls.{closed}
use Rattle.machine.specs.Runs.{step_of, budget_of, buffer_of}
use Rattle.machine.specs.Begin.{begin_of}
use Rattle.machine.specs.Events.{Run, Event, single, budget, change, program_in, in_state, handle, handle_to}
use Rattle.machine.specs.Allowed.{step_with, budget_with}
use Rattle.machine.specs.Pools.{allowed, refuses21, fresh, said_in_pool, PoolStepped, PoolRan, overfull, PoolBegun, pool_begun_as}
use Rattle.machine.specs.Houses.{Ask, start, go_on, Asked, Heard, began, turned, spent, changed, nobody, heard21, started_run, go_on_in, ask_in, House, opened, serve, house_after, heard_under, asks_under, heard_as, ask_alone, heard_alone, TriedIn, history_under}
use Rattle.machine.specs.declared.Answer.{Answer}
use Rattle.machine.specs.declared.End.{End}
use Rattle.machine.specs.declared.Pool.{Pool}
use Rattle.machine.specs.declared.Ran.{Ran}
use Rattle.machine.specs.declared.Said.{Said}
use Rattle.machine.specs.declared.State.{State}
use Rattle.machine.specs.declared.Stepped.{Stepped}
use Rattle.machine.specs.declared.PoolSaid.{PoolSaid}
use Rattle.runs.specs.Company.{stopped_by, InCompany, same, earlier, before_stuck, Budgets, Comes, by_single, by_budget, single_stuck, budget_stuck, Pace, in_step, Beside, end as end_beside, same as same_heard, comes, at_once, again, refused, anew, CompanyBut}
use Rattle.runs.specs.Levels.{NoneAbove}
use Rattle.runs.specs.Lives.{numbers, call_at}
use Rattle.runs.proofs.Always.{All, all_map}
use Rattle.runs.proofs.Company.{step_is, budget-is, change-is, begin-is, runs-at, heard-at, company}
use Rattle.runs.proofs.Lodgers.{Of, Asks, house-of, history-of, serve-of, start-new}
use Rattle.runs.proofs.Refusals.{heard-21}
use Rattle.runs.proofs.Rules.{step-or, budgets}
use Rattle.soundness.specs.Claim.{begun}
use Rattle.soundness.specs.Results.{Result, is_refused as result_refused, is_steps, is_ended, Told}
use Rattle.soundness.specs.Pools.{Demand3Pool, StatesUpTo, NeverAbovePool, CompanySafe, ListedHeard, start21, single21, budget21, change21, begins, is_refused, goes_on, has_ended, gives, changes, is_nobody, AllHeard, end, next, PoolReplies}
use Rattle.soundness.proofs.Invariant.{Inv}
use Rattle.soundness.proofs.Heap.{heap-pop}
use Rattle.soundness.proofs.Ends.{not-running}
use Rattle.soundness.proofs.Closing.{end-keeps, step-unstuck}
use Rattle.soundness.proofs.Quiet.{reflective-runs, none-quiet}
use Rattle.soundness.proofs.Demand.{sound-safe}
use Rattle.soundness.proofs.Histories.{Sound, sure-of, safe-of, sound-step, sound-taken, handle-sound, begun-sound}
use Rattle.soundness.proofs.Levels.{Low, low_step, low-taken, begun-low}
use Rattle.soundness.proofs.Results.{Entered, begin-entered, budget-told, refused-13, buffer-kept, outcome}
use Rattle.machine.specs.Denials.{Grant}

-- ---- what a stop with VECTORS keeps

sound-stops : (r : Run) → Sound r → Sound (in_state r (stopped_by r.state).state)
sound-stops r o = record { versions = o.versions; verdict = o.verdict; inv = end-keeps (program_in r) r.state r.state.result End.Vectors o.inv }

-- a start that stops at once has no call
overfull-inv : (P : Program) (s : State) → Inv P s → Inv P (overfull s)
unfolding with_end closed with_stack
overfull-inv P s inv = record { keep = inv.keep; heap = heap-pop P s.frames s.calls 0 s.promises (omega arith) inv.heap; vectors = inv.vectors; room = inv.room; deep = omega arith; stack = λ h. absurd (not-running End.Vectors h) }

sound-empties : (r : Run) → Sound r → Sound (in_state r (overfull r.state))
sound-empties r o = record { versions = o.versions; verdict = o.verdict; inv = overfull-inv (program_in r) r.state o.inv }

-- any start may be asked for
abbrev Any : Ask → Type 0
Any a = Unit {0}

sound-begins : (image : List ℕ) (level f v : ℕ) (words buffer : List ℤ) → Any (start image level f v words buffer) → (begin_of image level f v words buffer).entry ≡ Ok tt → Sound (begun image level f v words buffer)
sound-begins image level f v words buffer _ e = begun-sound image level f v words buffer e

none_of : (I : Run → Type 0) (p : Pool) (i : ℕ) → Of I ((opened p).runs i)
none_of I p i r e = let z : ◌≡◌ {A = ℕ} 0 1 = cc in absurd (omega arith)

any-asks : (i : ℕ) (l : List Asked) → Asks Any i l
any-asks i l x m = tt

-- ---- demand 3

-- a step in the pool is stuck only where the machine's own is
pub pool-unstuck : (most : ℕ) (r : Run) → Sound r → (step_with most (program_in r) r.state).said ≢ Said.Stuck
pool-unstuck most r o e = go (step-or most (program_in r) r.state)
  where
    go : (step_with most (program_in r) r.state ≡ step_of (program_in r) r.state) ⊎ (step_with most (program_in r) r.state ≡ stopped_by r.state) → ⊥
    go (inl q) = step-unstuck (program_in r) (safe-of r o) r.state o.inv (sym (ap (λ (x : Stepped). x.said) q) ∙ e)
    go (inr q) = let h : Said.Ended End.Vectors ≡ Said.Stuck = sym (ap (λ (x : Stepped). x.said) q) ∙ e in let z : ◌≡◌ {A = ℕ} 0 1 = cc in omega arith

-- the run under a number, after every list
pub house-sound : (reserves : List ℕ) (l : List Asked) (i : ℕ) → Of Sound ((house_after l (opened (fresh reserves))).runs i)
house-sound reserves l i = house-of Sound Any sound-begins sound-step sound-taken sound-stops sound-empties i l (opened (fresh reserves)) (any-asks i l) (none_of Sound (fresh reserves) i)

-- DEMAND 3, in the pool
pub demand3-pool : Demand3Pool
unfolding Demand3Pool
demand3-pool reserves n fits l i = record {
  unstuck = λ t m. pool-unstuck (allowed t.pool i) t.run (past t m);
  quiet = λ t m e k f live. none-quiet (program_in t.run) (sure-of t.run (past t m)) t.run.state (past t m).inv (reflective-runs (program_in t.run) t.run.state e) e k f live;
  safe = λ r e. sound-safe (map (λ (t : TriedIn). t.run) h) r (all_map Sound (λ (t : TriedIn). t.run) h past) (house-sound reserves l i r e);
}
  where
    w : House
    w = opened (fresh reserves)

    h : List TriedIn
    h = history_under i l w

    past : All (λ (t : TriedIn). Sound t.run) h
    past = history-of Sound Any sound-begins sound-step sound-taken sound-stops sound-empties i l w (any-asks i l) (none_of Sound (fresh reserves) i)

-- ---- levels

-- a stop changes no call
stops-calls : (s : State) (k : ℕ) → call_at (stopped_by s).state k ≡ call_at s k
unfolding call_at live_frames with_end
stops-calls s k = refl

-- and without a call none is above
empty-calls : (s : State) (k f w : ℕ) → call_at (overfull s) k ≡ some (f, w) → ⊥
unfolding call_at numbers live_frames with_end closed with_stack
empty-calls s k f w e = let z : ◌≡◌ {A = ℕ} 0 1 = cc in omega arith

module _ (level : ℕ) where
  low-stops : (r : Run) → Low level r → Low level (in_state r (stopped_by r.state).state)
  unfolding NoneAbove
  low-stops r o = record { sound = sound-stops r o.sound; low = λ k f w e. o.low k f w (sym (stops-calls r.state k) ∙ e) }

  low-empties : (r : Run) → Low level r → Low level (in_state r (overfull r.state))
  unfolding NoneAbove
  low-empties r o = record { sound = sound-empties r o.sound; low = λ k f w e. absurd (empty-calls r.state k f w e) }

  -- a level below is below this one
  low-begins : (image : List ℕ) (l f v : ℕ) (words buffer : List ℤ) → StatesUpTo level (start image l f v words buffer) → (begin_of image l f v words buffer).entry ≡ Ok tt → Low level (begun image l f v words buffer)
  unfolding StatesUpTo NoneAbove
  low-begins image l f v words buffer h e = record { sound = begun-sound image l f v words buffer e; low = λ k g w c. let t = begun-low image l f v words buffer e k g w c in (t.0, t.1, omega (arith, t.2, h)) }

began-is : (e x : Grant) → began e ≡ began x → e ≡ x
began-is e x h = cc

-- the run of a start that is not refused
started_of : (level : ℕ) (w : House) (i : ℕ) (image : List ℕ) (f v : ℕ) (words buffer : List ℤ) → let a : Asked = record { number = i; ask = start image level f v words buffer } in (serve a w).heard ≡ began (Ok tt) → Of (Low level) ((serve a w).house.runs i)
unfolding serve ask_in StatesUpTo
started_of level w i image f v words buffer h =
    subst (Of (Low level)) (sym (runs-at (record { number = i; ask = start image level f v words buffer }) w i refl))
    (start-new (Low level) (StatesUpTo level) (low-begins level) (low_step level) (low-taken level) (low-stops level) (low-empties level) w.pool i image level f v words buffer (w.runs i) (omega arith) (began-is _ _ h))

-- THE LAW: levels in the pool
pub never-above-pool : NeverAbovePool
unfolding NeverAbovePool
never-above-pool w i image level f v words buffer h l ok =
    let u = (serve (record { number = i; ask = start image level f v words buffer }) w).house in
    let s = started_of level w i image f v words buffer h in (
      λ r e. (house-of (Low level) (StatesUpTo level) (low-begins level) (low_step level) (low-taken level) (low-stops level) (low-empties level) i l u ok s r e).low,
      λ t m. (history-of (Low level) (StatesUpTo level) (low-begins level) (low_step level) (low-taken level) (low-stops level) (low-empties level) i l u ok s t m).low,
    )

-- ---- what is heard

ended-steps : Answer.Ended End.Vectors ≡ Answer.Steps → ⊥
ended-steps e = let z : ◌≡◌ {A = ℕ} 0 1 = cc in omega arith

ended-refused : (q p : ℕ) → Answer.Ended End.Vectors ≡ Answer.Refused q p → ⊥
ended-refused q p e = let z : ◌≡◌ {A = ℕ} 0 1 = cc in omega arith

-- a budget in the pool is told of
company-told : (P : Program) (s : State) (n : ℕ) (buffer : List ℤ) (r : Ran) → InCompany P s r (budget_of P s n buffer) → Told n buffer (budget_of P s n buffer) → Told n buffer r
company-told P s n buffer r (same e) t = subst (Told n buffer) (sym e) t
company-told P s n buffer r (earlier a k q) t = record {
  answer = subst Result (sym a) (is_ended End.Vectors);
  inside = omega (arith, k, t.inside);
  used = λ e. absurd (ended-steps (sym a ∙ e));
  none = λ x y e. absurd (ended-refused x y (sym a ∙ e));
  kept = buffer-kept r buffer;
}
company-told P s n buffer r (before_stuck a b k q) t = record {
  answer = subst Result (sym a) (is_ended End.Vectors);
  inside = omega (arith, k, t.inside);
  used = λ e. absurd (ended-steps (sym a ∙ e));
  none = λ x y e. absurd (ended-refused x y (sym a ∙ e));
  kept = buffer-kept r buffer;
}

-- and refused by 13 alone
company-13 : (P : Program) (s : State) (n : ℕ) (buffer : List ℤ) (r : Ran) → InCompany P s r (budget_of P s n buffer) → ((q p : ℕ) → (budget_of P s n buffer).answer ≡ Answer.Refused q p → (q ≡ 13) × (p ≡ 0)) → (q p : ℕ) → r.answer ≡ Answer.Refused q p → (q ≡ 13) × (p ≡ 0)
company-13 P s n buffer r (same e) t q p h = t q p (sym (ap (λ (x : Ran). x.answer) e) ∙ h)
company-13 P s n buffer r (earlier a k z) t q p h = absurd (ended-refused q p (sym a ∙ h))
company-13 P s n buffer r (before_stuck a b k z) t q p h = absurd (ended-refused q p (sym a ∙ h))

turn-listed : (d : Said) → d ≢ Said.Stuck → ListedHeard (go_on single) (turned (said_in_pool d))
unfolding said_in_pool
turn-listed Said.GoesOn h = goes_on
turn-listed (Said.Ended e) h = has_ended e
turn-listed Said.Stuck h = absurd (h refl)

heard21-listed : (a : Ask) → ListedHeard a (heard21 a)
unfolding heard21
heard21-listed (start image level f v words buffer) = start21 image level f v words buffer
heard21-listed (go_on single) = single21
heard21-listed (go_on (budget n buffer)) = budget21 n buffer
heard21-listed (go_on (change new)) = change21 new

module _ (p : Pool) (i : ℕ) (passes : refuses21 p i ≡ false) where
  begun-listed : (image : List ℕ) (level f v : ℕ) (words buffer : List ℤ) (s : State) (e : Grant) → Entered e → ListedHeard (start image level f v words buffer) (began (pool_begun_as p i (record { state = s; entry = e }) e).begun.entry)
  unfolding pool_begun_as Entered
  begun-listed image level f v words buffer s (Err why) h = is_refused image level f v words buffer why.question why.at h
  begun-listed image level f v words buffer s (Ok _) h = begins image level f v words buffer

  event-listed : (e : Event) (r : Run) → Sound r → ListedHeard (go_on e) (ask_in p i (go_on e) (some r)).heard
  unfolding ask_in go_on_in Budgets
  event-listed single r o = subst (λ (x : PoolStepped). ListedHeard (go_on single) (turned x.turn)) (sym (step_is p i passes (program_in r) r.state)) (turn-listed (step_with (allowed p i) (program_in r) r.state).said (pool-unstuck (allowed p i) r o))
  event-listed (budget n buffer) r o =
      let P = program_in r in
      let x = budget_with (allowed p i) P r.state n buffer in
      let c = budgets (allowed p i) P r.state n buffer in
      subst (λ (y : PoolRan). ListedHeard (go_on (budget n buffer)) (spent y.ran.answer y.ran.steps (buffer_of y.ran buffer))) (sym (budget-is p i passes P r.state n buffer))
      (gives n buffer x (company-told P r.state n buffer x c (budget-told P (safe-of r o) r.state n buffer o.inv)) (company-13 P r.state n buffer x c (refused-13 P (safe-of r o) r.state n buffer o.inv)))
  event-listed (change new) r o = subst (λ (c : Grant). ListedHeard (go_on (change new)) (changed c)) (sym (change-is p i passes r.image new r.state)) (changes new _ (outcome r.image new r.state))

  ask-listed : (a : Ask) (x : Option Run) → Of Sound x → ListedHeard a (ask_in p i a x).heard
  unfolding ask_in
  ask-listed (start image level f v words buffer) x o = let b = begin_of image level f v words buffer in subst (λ (y : PoolBegun). ListedHeard (start image level f v words buffer) (began y.begun.entry)) (sym (begin-is p i passes image level f v words buffer)) (begun-listed image level f v words buffer b.state b.entry (begin-entered image level f v words buffer))
  ask-listed (go_on e) none o = subst (λ (b : Bool). ListedHeard (go_on e) (cond b (heard21 (go_on e)) nobody)) (sym passes) (is_nobody e)
  ask-listed (go_on e) (some r) o = event-listed e r (o r refl)

-- 21 or not
heard-listed : (p : Pool) (i : ℕ) (a : Ask) (x : Option Run) → Of Sound x → ListedHeard a (ask_in p i a x).heard
heard-listed p i a x o = go (refuses21 p i) refl
  where
    go : (b : Bool) → refuses21 p i ≡ b → ListedHeard a (ask_in p i a x).heard
    go true e = subst (ListedHeard a) (sym (heard-21 p i e a x)) (heard21-listed a)
    go false e = ask-listed p i e a x o

all-heard : (i : ℕ) (l : List Asked) (w : House) → Of Sound (w.runs i) → AllHeard (asks_under i l) (heard_under i l w)
unfolding asks_under heard_under
all-heard i [] w o = end
all-heard i (a ∷ l) w o = go (eqb a.number i) refl (all-heard i l (serve a w).house (serve-of Sound Any sound-begins sound-step sound-taken sound-stops sound-empties a w i (λ _. tt) o))
  where
    go : (b : Bool) → eqb a.number i ≡ b → AllHeard (asks_under i l) (heard_under i l (serve a w).house) → AllHeard (elim b [ true ↦ a.ask ∷ asks_under i l | false ↦ asks_under i l ]) (elim b [ true ↦ (serve a w).heard ∷ heard_under i l (serve a w).house | false ↦ heard_under i l (serve a w).house ])
    go true e ih = next a.ask (serve a w).heard (asks_under i l) (heard_under i l (serve a w).house) (subst (ListedHeard a.ask) (sym (heard-at a w i (eqb-true a.number i e))) (heard-listed w.pool i a.ask (w.runs i) o)) ih
    go false e ih = ih

-- THE LAW: all that is asked under every number hears a listed reply
pub pool-replies : PoolReplies
unfolding PoolReplies
pool-replies reserves n fits l i = all-heard i l (opened (fresh reserves)) (none_of Sound (fresh reserves) i)

-- ---- in company

-- not stuck
unfoldable Moves : Heard → Type 0
Moves (began e) = Unit {0}
Moves (turned PoolSaid.GoesOn) = Unit {0}
Moves (turned (PoolSaid.Ended e)) = Unit {0}
Moves (turned PoolSaid.Stuck) = ⊥
Moves (turned (PoolSaid.Refused q p)) = Unit {0}
Moves (spent (Answer.Refused q p) n buffer) = Unit {0}
Moves (spent Answer.Steps n buffer) = Unit {0}
Moves (spent (Answer.Ended e) n buffer) = Unit {0}
Moves (spent Answer.Stuck n buffer) = ⊥
Moves (changed c) = Unit {0}
Moves nobody = Unit {0}

unfoldable Every : List Heard → Type 0
Every [] = Unit {0}
Every (h ∷ hs) = Moves h × Every hs

turn-moves : (d : Said) → d ≢ Said.Stuck → Moves (turned (said_in_pool d))
unfolding said_in_pool Moves
turn-moves Said.GoesOn h = tt
turn-moves (Said.Ended e) h = tt
turn-moves Said.Stuck h = h refl

result-moves : (a : Answer) (n : ℕ) (buffer : List ℤ) → Result a → Moves (spent a n buffer)
unfolding Moves
result-moves _ n buffer (result_refused q p r) = tt
result-moves _ n buffer is_steps = tt
result-moves _ n buffer (is_ended e) = tt

-- without a pool no run that was started is stuck
alone-moves : (e : Event) (r : Run) → Sound r → Moves (heard_as (handle e r).reply)
unfolding handle_to heard_as Moves
alone-moves single r o = turn-moves (step_of (program_in r) r.state).said (step-unstuck (program_in r) (safe-of r o) r.state o.inv)
alone-moves (budget n buffer) r o = let x = budget_of (program_in r) r.state n buffer in result-moves x.answer x.steps (buffer_of x buffer) (budget-told (program_in r) (safe-of r o) r.state n buffer o.inv).answer
alone-moves (change new) r o = tt

some_is : {r r' : Run} → some r ≡ some r' → r ≡ r'
some_is e = cc

started-sound : (image : List ℕ) (level f v : ℕ) (words buffer : List ℤ) (x : Option Run) → Of Sound x → (e : Grant) → (begin_of image level f v words buffer).entry ≡ e → Of Sound (started_run image (begin_of image level f v words buffer).state x e)
unfolding started_run
started-sound image level f v words buffer x o (Err why) d = o
started-sound image level f v words buffer x o (Ok _) d = λ r e. subst Sound (some_is e) (begun-sound image level f v words buffer d)

all-move : (l : List Ask) (x : Option Run) → Of Sound x → Every (heard_alone l x)
unfolding heard_alone ask_alone Every Moves
all-move [] x o = tt
all-move (start image level f v words buffer ∷ l) x o = let b = begin_of image level f v words buffer in (tt, all-move l (started_run image b.state x b.entry) (started-sound image level f v words buffer x o b.entry refl))
all-move (go_on e ∷ l) none o = (tt, all-move l none o)
all-move (go_on e ∷ l) (some r) o = (alone-moves e r (o r refl), all-move l (some (handle e r).run) (λ u q. subst Sound (some_is q) (handle-sound e r (o r refl))))

comes-safe : (r : Run) (e : Event) (h g : Heard) (s : State) → Comes (Unit {0}) r e h g s → Moves g → Comes ⊥ r e h g s
unfolding Moves
comes-safe r _ _ _ _ by_single m = by_single
comes-safe r _ _ _ _ (by_budget n buffer j k a left l) m = by_budget n buffer j k a left l
comes-safe r _ _ _ _ (single_stuck u) m = absurd m
comes-safe r _ _ _ _ (budget_stuck u n buffer j left) m = absurd m

beside-safe : (q : Pace) (l : List Ask) (hs gs : List Heard) → Beside (Unit {0}) q l hs gs → Every gs → Beside ⊥ q l hs gs
unfolding Every
beside-safe _ _ _ _ (end_beside q) m = end_beside q
beside-safe _ _ _ _ (same_heard o a h l hs gs b) m = same_heard o a h l hs gs (beside-safe _ l hs gs b m.1)
beside-safe _ _ _ _ (comes r e h g s l hs gs c b) m = comes r e h g s l hs gs (comes-safe r e h g s c m.0) (beside-safe _ l hs gs b m.1)
beside-safe _ _ _ _ (at_once image level f v words buffer q l hs gs b) m = at_once image level f v words buffer q l hs gs (beside-safe _ l hs gs b m.1)
beside-safe _ _ _ _ (again r e h g l hs gs c b) m = again r e h g l hs gs c (beside-safe _ l hs gs b m.1)
beside-safe _ _ _ _ (refused r image level f v words buffer k o l hs gs b) m = refused r image level f v words buffer k o l hs gs (beside-safe _ l hs gs b m.1)
beside-safe _ _ _ _ (anew r image level f v words buffer l hs gs b) m = anew r image level f v words buffer l hs gs (beside-safe _ l hs gs b m.1)

-- THE LAW: in company, and never where a step is stuck
pub company-safe : CompanySafe
unfolding CompanyBut
company-safe reserves n fits l i k = beside-safe (in_step none) (asks_under i l) (heard_under i l (opened (fresh reserves))) (heard_alone (asks_under i l) none) (company reserves n fits l i k) (all-move (asks_under i l) none (none_of Sound (fresh reserves) i))
