-- Every run from the start gives one of the results, and every event of a list one of its replies, from a safe step.
use Rattle.std.specs.Prelude.{None, Some, Err, Ok}
use mathlib.Core.Path.{◌≡◌, refl}
use Rattle.layout.specs.Found.{Found}
use mathlib.Core.Logic.{◌≢◌}
use mathlib.Core.List.{List, [], ◌∷◌}
use mathlib.Core.Option.{Option, none, some}
use mathlib.Core.Bool.{Bool, true, false}
use Prim.Native.Nat.{ℕ, zero, suc, ◌+◌, ◌≤◌}
use native.Mathlib.Omega.{arith}
use lib.Dec.{leb}
use lib.IntN.{ℤ}
use Rattle.layout.specs.Tests.{any}
use Rattle.program.specs.Program.{Version, Program, find_version, parameter_types}
use Rattle.checker.specs.Verdicts.{ask, verdict_of, verdict_in, Verdict}
use Rattle.machine.specs.States.{over}
use Rattle.machine.specs.Runs.{step_of, last_step, continued, run_from, run_from_to, budget_in, budget_in_to, long_enough, budget_of, budget_of_to, written, buffer_of}
use Rattle.machine.specs.Begin.{Given, arguments, refused, question11, question19, run_level, question12, question13, entered_of, begin_after, begin_of, program_of, run_after, run_after_to, run_of_to}
use Rattle.machine.specs.Changes.{answer15, changed_by, change_after, change_of}
use Rattle.machine.specs.Events.{Run, Event, single, budget, change, program_in, handle, handle_to, replies, replies_to}
use Rattle.machine.specs.declared.Answer.{Answer}
use Rattle.machine.specs.declared.End.{End}
use Rattle.machine.specs.declared.Ran.{Ran}
use Rattle.machine.specs.declared.Said.{Said}
use Rattle.machine.specs.declared.State.{State}
use Rattle.machine.specs.declared.Status.{Status}
use Rattle.soundness.specs.Results.{Among, to_image, Refusal, of_image, of_beginning, Result, is_refused, is_steps, is_ended, Told, Results, Outcome, is_taken, is_refused_image, is_refused15, Listed, steps, gives, changes, AllListed, end, next, Replies}
use Rattle.soundness.specs.Claim.{begun}
use Rattle.soundness.proofs.Invariant.{Inv}
use Rattle.soundness.proofs.Closing.{StepSafe, step_keeps, step-unstuck}
use Rattle.soundness.proofs.Histories.{Sound, safe-of, handle-sound, begun-sound}
use Rattle.machine.specs.Denials.{Grant}

-- ---- refusals

-- of the questions to an image, by their numbers
unfoldable Numbered : Verdict → Type 0
Numbered (Err why) = Among to_image why.question
Numbered (Ok n) = Unit {0}

-- a question refuses by its own number
ask-numbered : (n : ℕ) (x : Found) (more : Verdict) → Among to_image n → Numbered more → Numbered (ask n x more)
unfolding ask Numbered
ask-numbered n None more h m = m
ask-numbered n (Some p) more h m = h

-- so do all questions to an image
verdict-numbered : (image : List ℕ) → Numbered (verdict_of image)
unfolding verdict_in Numbered Among any
verdict-numbered image =
    ask-numbered 1 _ _ refl (ask-numbered 2 _ _ refl (ask-numbered 3 _ _ refl (ask-numbered 4 _ _ refl (ask-numbered 5 _ _ refl
    (ask-numbered 6 _ _ refl (ask-numbered 7 _ _ refl (ask-numbered 14 _ _ refl (ask-numbered 8 _ _ refl (ask-numbered 18 _ _ refl (ask-numbered 9 _ _ refl (ask-numbered 10 _ _ refl tt)))))))))))

-- of an entry
unfoldable pub Entered : Grant → Type 0
Entered (Ok _) = Unit {0}
Entered (Err why) = Refusal why.question why.at

-- question 13
thirteenth : (s : State) (buffer : List ℤ) → Entered (question13 s buffer).entry
unfolding question13 refused Entered Among any
thirteenth s buffer = go (long_enough buffer) refl
  where
    go : (b : Bool) → long_enough buffer ≡ b → Entered (question13 s buffer).entry
    go true e = rw (e, question13) tt
    go false e = rw (e, question13) (of_beginning 13 refl)

-- question 12
twelfth : (W : Version) (o : Option (List Given)) (buffer : List ℤ) → Entered (question12 W o buffer).entry
unfolding question12 refused Entered Among any
twelfth W none buffer = of_beginning 12 refl
twelfth W (some xs) buffer = thirteenth _ buffer

-- question 19
nineteenth : (level : ℕ) (W : Version) (words buffer : List ℤ) → Entered (question19 level W words buffer).entry
unfolding question19 refused Entered Among any
nineteenth level W words buffer = go (leb W.level (run_level level)) refl
  where
    go : (b : Bool) → leb W.level (run_level level) ≡ b → Entered (question19 level W words buffer).entry
    go true e = rw (e, question19) (twelfth W (arguments (parameter_types W) words) buffer)
    go false e = rw (e, question19) (of_beginning 19 refl)

-- question 11
eleventh : (level : ℕ) (o : Option Version) (words buffer : List ℤ) → Entered (question11 level o words buffer).entry
unfolding question11 refused Entered Among any
eleventh level none words buffer = of_beginning 11 refl
eleventh level (some W) words buffer = nineteenth level W words buffer

-- begin refuses by one of the questions
pub begin-entered : (image : List ℕ) (level f v : ℕ) (words buffer : List ℤ) → Entered (begin_of image level f v words buffer).entry
unfolding begin_of begin_after entered_of refused Entered Numbered
begin-entered image level f v words buffer = go (verdict_of image) (verdict-numbered image)
  where
    go : (a : Verdict) → Numbered a → Entered (begin_after a (program_of image) level f v words buffer).entry
    go (Err why) m = of_image why.question why.at m
    go (Ok n) m = eleventh level (find_version (program_of image) f v) words buffer

-- ---- runs

-- only DONE with a vector writes
writes-none : (xs : List ℤ) (a : Answer) → ((k : ℕ) → a ≢ Answer.Ended (End.Vector k)) → written xs a ≡ []
unfolding written
writes-none xs (Answer.Refused q p) h = refl
writes-none xs Answer.Steps h = refl
writes-none xs (Answer.Ended (End.Integer z)) h = refl
writes-none xs (Answer.Ended (End.Vector k)) h = absurd (h k refl)
writes-none xs (Answer.Ended End.Undef) h = refl
writes-none xs (Answer.Ended End.Deep) h = refl
writes-none xs (Answer.Ended End.Vectors) h = refl
writes-none xs (Answer.Ended End.Promises) h = refl
writes-none xs Answer.Stuck h = refl

-- and what writes nothing leaves the buffer
pub buffer-kept : (r : Ran) (buffer : List ℤ) → ((k : ℕ) → r.answer ≢ Answer.Ended (End.Vector k)) → buffer_of r buffer ≡ buffer
unfolding buffer_of over
buffer-kept r buffer h = rw (writes-none r.state.result r.answer h) refl

-- an end adds at most one step
last_step_lem : (e : End) → last_step e ≤ 1
unfolding last_step
last_step_lem (End.Integer z) = omega arith
last_step_lem (End.Vector n) = omega arith
last_step_lem End.Undef = omega arith
last_step_lem End.Deep = omega arith
last_step_lem End.Vectors = omega arith
last_step_lem End.Promises = omega arith

-- a run under a budget of m, behind k steps: STEPS with all of them, or an end
record Took (k m : ℕ) (r : Ran) : Type 0 where
  answer : Result r.answer
  inside : r.steps ≤ k + m
  used : r.answer ≡ Answer.Steps → r.steps ≡ k + m
  plain : (q p : ℕ) → r.answer ≢ Answer.Refused q p

-- no budget left
took-steps : (k : ℕ) (s : State) → Took k 0 (record { state = s; answer = Answer.Steps; steps = k })
took-steps k s = record { answer = is_steps; inside = omega arith; used = λ _. omega arith; plain = λ q p e. let z : ◌≡◌ {A = ℕ} 0 1 = cc in omega arith }

-- an end within the budget
took-end : (k m i : ℕ) (s : State) (e : End) → i ≤ k + m → Took k m (record { state = s; answer = Answer.Ended e; steps = i })
took-end k m i s e h = record { answer = is_ended e; inside = h; used = λ f. let z : ◌≡◌ {A = ℕ} 0 1 = cc in absurd (omega arith); plain = λ q p f. let z : ◌≡◌ {A = ℕ} 0 1 = cc in omega arith }

-- one step taken
took_more : (k m : ℕ) (r : Ran) → Took (k + 1) m r → Took k (suc m) r
took_more k m r t = record { answer = t.answer; inside = omega (arith, t.inside); used = λ e. omega (arith, t.used e); plain = t.plain }

-- a run of a safe program, by what its first step says
run-took : (P : Program) → StepSafe P → (m : ℕ) (s : State) (k : ℕ) → Inv P s → Took k m (run_from P m s k)
unfolding run_from_to continued
run-took P safe zero s k inv = took-steps k s
run-took P safe (suc m) s k inv = go (step_of P s).said refl (run-took P safe m (step_of P s).state (k + 1) (step_keeps P safe s inv))
  where
    go : (d : Said) → (step_of P s).said ≡ d → Took (k + 1) m (run_from P m (step_of P s).state (k + 1)) → Took k (suc m) (continued (step_of P s).state d k (λ t. run_from P m t (k + 1)))
    go Said.GoesOn e ih = took_more k m _ ih
    go (Said.Ended x) e ih = took-end k (suc m) (k + last_step x) (step_of P s).state x (omega (arith, last_step_lem x))
    go Said.Stuck e ih = absurd (step-unstuck P safe s inv e)

-- ---- from the start

-- a run behind no step is told of
took-told : (n : ℕ) (buffer : List ℤ) (r : Ran) → Took 0 n r → Told n buffer r
took-told n buffer r t = record { answer = t.answer; inside = omega (arith, t.inside); used = λ e. omega (arith, t.used e); none = λ q p e. absurd (t.plain q p e); kept = buffer-kept r buffer }

-- so is a refusal
refused-told : (n : ℕ) (buffer : List ℤ) (s : State) (q p : ℕ) → Refusal q p → Told n buffer (record { state = s; answer = Answer.Refused q p; steps = 0 })
refused-told n buffer s q p h = record { answer = is_refused q p h; inside = omega arith; used = λ e. let z : ◌≡◌ {A = ℕ} 0 1 = cc in absurd (omega arith); none = λ _ _ _. refl; kept = buffer-kept _ buffer }

-- and any budget on a state with the invariant
pub budget-told : (P : Program) → StepSafe P → (s : State) (n : ℕ) (buffer : List ℤ) → Inv P s → Told n buffer (budget_of P s n buffer)
unfolding budget_of_to budget_in_to Among any
budget-told P safe s n buffer inv = long (long_enough buffer) refl
  where
    inner : (st : Status) → Told n buffer (budget_in P s n st)
    inner Status.Running = took-told n buffer _ (run-took P safe n s 0 inv)
    inner (Status.Ended e) = took-told n buffer _ (took-end 0 n 0 s e (omega arith))

    long : (b : Bool) → long_enough buffer ≡ b → Told n buffer (budget_of P s n buffer)
    long true e = rw (e, budget_of_to) (inner s.status)
    long false e = rw (e, budget_of_to) (refused-told n buffer s 13 0 (of_beginning 13 refl))

-- and only 13 refuses it
pub refused-13 : (P : Program) → StepSafe P → (s : State) (n : ℕ) (buffer : List ℤ) → Inv P s → (q p : ℕ) → (budget_of P s n buffer).answer ≡ Answer.Refused q p → (q ≡ 13) × (p ≡ 0)
unfolding budget_of_to budget_in_to
refused-13 P safe s n buffer inv q p = long (long_enough buffer) refl
  where
    inner : (st : Status) → (budget_in P s n st).answer ≡ Answer.Refused q p → (q ≡ 13) × (p ≡ 0)
    inner Status.Running e = absurd ((run-took P safe n s 0 inv).plain q p e)
    inner (Status.Ended x) e = let z : ◌≡◌ {A = ℕ} 0 1 = cc in absurd (omega arith)

    long : (b : Bool) → long_enough buffer ≡ b → (budget_of P s n buffer).answer ≡ Answer.Refused q p → (q ≡ 13) × (p ≡ 0)
    long true e = rw (e, budget_of_to) (inner s.status)
    long false e = rw (e, budget_of_to) (λ h. (cc, cc))

-- THE LAW: every run from the start has a result
pub results : Results
unfolding Results run_of_to run_after_to Entered
results image level f v words n buffer = go (begin_of image level f v words buffer).entry refl (begin-entered image level f v words buffer)
  where
    s : State
    s = (begin_of image level f v words buffer).state

    go : (e : Grant) → (begin_of image level f v words buffer).entry ≡ e → Entered e → Told n buffer (run_after e (program_of image) s n buffer)
    go (Err why) e h = refused-told n buffer s why.question why.at h
    go (Ok _) e h = let o = begun-sound image level f v words buffer e in budget-told (program_of image) (safe-of (begun image level f v words buffer) o) s n buffer o.inv

-- ---- lists of events

-- a change is taken or refused by a question
pub outcome : (old new : List ℕ) (s : State) → Outcome (change_of old new s)
unfolding change_of change_after changed_by Numbered
outcome old new s = go (verdict_of new) (verdict-numbered new)
  where
    by15 : (x : Found) → Outcome (changed_by x)
    by15 None = is_taken
    by15 (Some p) = is_refused15 p

    go : (a : Verdict) → Numbered a → Outcome (change_after a old new s)
    go (Err why) m = is_refused_image why.question why.at m
    go (Ok n) m = by15 (answer15 old new s)

pub listed : (e : Event) (r : Run) → Sound r → Listed e (handle e r).reply
unfolding handle_to
listed single r o = steps _ (step-unstuck (program_in r) (safe-of r o) r.state o.inv)
listed (budget n buffer) r o = gives n buffer (budget_of (program_in r) r.state n buffer) (budget-told (program_in r) (safe-of r o) r.state n buffer o.inv) (refused-13 (program_in r) (safe-of r o) r.state n buffer o.inv)
listed (change new) r o = changes new _ (outcome r.image new r.state)

all_listed : (es : List Event) (r : Run) → Sound r → AllListed es (replies es r)
unfolding replies_to
all_listed [] r o = end
all_listed (e ∷ es) r o = next e _ es _ (listed e r o) (all_listed es (handle e r).run (handle-sound e r o))

-- THE LAW: every event of every list has a listed reply
pub all-replies : Replies
unfolding Replies
all-replies image level f v words buffer h events = all_listed events (begun image level f v words buffer) (begun-sound image level f v words buffer h)
