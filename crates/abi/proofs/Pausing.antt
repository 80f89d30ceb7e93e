-- What a run that pauses comes to: its answer in numbers, its state and the lent buffer.
use Rattle.std.specs.Prelude.{Err, Ok}
use mathlib.Core.Path.{◌≡◌, refl, sym, ap, subst, ◌∙◌}
use mathlib.Core.List.{List}
use mathlib.Core.Bool.{Bool, true, false}
use mathlib.Core.Option.{Option, none, some}
use Prim.Native.Nat.{ℕ, zero, suc, ◌+◌, ◌<◌, ◌≤◌}
use lib.IntN.{ℤ}
use lib.ListN.{length}
use lib.Dec.{leb}
use borrow.Author.Tests.{le-leb, lt-leb}
use Rattle.program.specs.Program.{Program, Version, find_version, parameter_types}
use Rattle.machine.specs.Allowed.{budget_in_with, budget_with, run_with, step_with}
use Rattle.machine.specs.Begin.{Given, arguments, entered_of, question11, question12, question13, question19, refused, run_after_to, run_level}
use Rattle.machine.specs.Runs.{budget_in, budget_of, budget_of_to, buffer_of, continued, long_enough, saying, step_of, written}
use Rattle.machine.specs.States.{VECTORS, over}
use Rattle.machine.specs.Values.{RANGE}
use Rattle.machine.specs.declared.Answer.{Answer}
use Rattle.machine.specs.declared.Begun.{Begun}
use Rattle.machine.specs.declared.Ran.{Ran}
use Rattle.machine.specs.declared.Said.{Said}
use Rattle.machine.specs.declared.State.{State}
use Rattle.machine.specs.declared.Status.{Status}
use Rattle.machine.specs.declared.Stepped.{Stepped}
use Rattle.runs.proofs.Caps.{budget-64}
use Rattle.runs.proofs.Lives.{refused-begun}
use Rattle.store.specs.Store.{state_in}
use Rattle.loaded.specs.Loaded.{program_in}
use Rattle.loaded.specs.Running.{run_in_to}
use Rattle.begin.specs.Asking.{Begins, entered_at}
use Rattle.begin.specs.declared.Entrance.{Entrance}
use Rattle.running.specs.Budgets.{Resumes, ResumesTo, Steps as Stepping, answer_of, outcome_in, said_of}
use Rattle.running.specs.declared.Counted.{Counted}
use Rattle.running.specs.declared.Pause.{Pause}
use Rattle.abi.specs.Answers.{answer_numbers, answer_with, said_numbers}
use Rattle.abi.specs.Exits.{Answers, Left, Rests, Steps, ended_by, items_in}
use Rattle.abi.specs.Held.{held, stored}
use Rattle.abi.specs.declared.answers.FirAnswer.{FirAnswer}
use Rattle.abi.specs.declared.answers.FirSaid.{FirSaid}
use Rattle.abi.specs.declared.state.FirState.{FirState}
use Rattle.machine.specs.Denials.{Grant, denied}

-- ---- by the pause

-- a run that has ended says what its status says
pub said-ended : (st : Status) → said_of Pause.Ended st ≡ saying st
unfolding said_of saying
said-ended Status.Running = refl
said-ended (Status.Ended e) = refl

answer-ended : (st : Status) → answer_of Pause.Ended st ≡ ended_by st
unfolding answer_of ended_by
answer-ended Status.Running = refl
answer-ended (Status.Ended e) = refl

-- and leaves what its state has for the buffer
pub items_left : (s : State) → written s.result (answer_of Pause.Ended s.status) ≡ items_in s
unfolding items_in
items_left s = ap (written s.result) (answer-ended s.status)

-- an answer in numbers, by what is said
answered : (p : Pause) (st : Status) (n : ℕ) → answer_with (said_numbers (said_of p st)) n ≡ answer_numbers (answer_of p st) n
unfolding answer_numbers said_of answer_of
answered Pause.Steps st n = refl
answered Pause.Stuck st n = refl
answered Pause.Ended Status.Running n = refl
answered Pause.Ended (Status.Ended e) n = refl

pub answered-by : (p : Pause) (st : Status) (n : ℕ) {w : FirSaid} {a : FirAnswer} → w ≡ said_numbers (said_of p st) → a ≡ answer_with w n → a ≡ answer_numbers (answer_of p st) n
answered-by p st n e f = f ∙ ap (λ (x : FirSaid). answer_with x n) e ∙ answered p st n

-- no pause is a refusal
left-paused : (p : Pause) (st : Status) (s : State) (E X : FirState) → held X ≡ s → Left (answer_of p st) s E X
unfolding answer_of Left
left-paused Pause.Steps st s E X h = h
left-paused Pause.Stuck st s E X h = h
left-paused Pause.Ended Status.Running s E X h = h
left-paused Pause.Ended (Status.Ended e) s E X h = h

-- is it stuck?
unfoldable Stuck : Answer → Type 0
Stuck (Answer.Refused q p) = ⊥
Stuck Answer.Steps = ⊥
Stuck (Answer.Ended e) = ⊥
Stuck Answer.Stuck = Unit {0}

unfoldable pub StuckSaid : Said → Type 0
StuckSaid Said.GoesOn = ⊥
StuckSaid (Said.Ended e) = ⊥
StuckSaid Said.Stuck = Unit {0}

answer-stuck : (p : Pause) (st : Status) → Stuck (answer_of p st) → p ≡ Pause.Stuck
unfolding answer_of Stuck
answer-stuck Pause.Steps st h = absurd h
answer-stuck Pause.Stuck st h = refl
answer-stuck Pause.Ended Status.Running h = absurd h
answer-stuck Pause.Ended (Status.Ended e) h = absurd h

pub said-stuck : (p : Pause) (st : Status) → StuckSaid (said_of p st) → p ≡ Pause.Stuck
unfolding said_of StuckSaid
said-stuck Pause.Steps st h = absurd h
said-stuck Pause.Stuck st h = refl
said-stuck Pause.Ended Status.Running h = absurd h
said-stuck Pause.Ended (Status.Ended e) h = absurd h

stuck-is : (a : Answer) → a ≡ Answer.Stuck → Stuck a
unfolding Stuck
stuck-is a e = subst Stuck (sym e) tt

pub stuck-said-is : (w : Said) → w ≡ Said.Stuck → StuckSaid w
unfolding StuckSaid
stuck-said-is w e = subst StuckSaid (sym e) tt

-- the same arrays are the same memory
pub same_memory : {b b' : List ℕ} {n n' : List ℤ} → (b' ≡ b) × (n' ≡ n) → stored b' n' ≡ stored b n
same_memory h = λ i. stored (h.0 i) (h.1 i)

-- ---- a budget that was taken, whatever it comes to

module _ (b : List ℕ) (n : List ℤ) (b' : List ℕ) (n' : List ℤ) (m : ℕ) (buffer : List ℤ) (r : Counted) (last : List ℤ) {x u : Ran} {a : FirAnswer} where
  pub resumed : x ≡ outcome_in r b' n' → ResumesTo u r b n b' n' m
      → (a ≡ answer_numbers (answer_of r.pause (state_in b' n').status) r.steps) × (last ≡ over (written (state_in b' n').result (answer_of r.pause (state_in b' n').status)) buffer)
      → Answers a x (stored b n) (stored b' n') buffer last × Rests m x (stored b n) (stored b' n')
  unfolding buffer_of
  resumed e h f =
      subst (λ (y : Ran). Answers a y (stored b n) (stored b' n') buffer last × Rests m y (stored b n) (stored b' n')) (sym e) (
        record {
          numbers = f.0;
          state = left-paused r.pause (state_in b' n').status (state_in b' n') (stored b n) (stored b' n') refl;
          written = f.1;
        },
        record {
          none = λ z. same_memory (h.none z);
          stuck = λ g z. same_memory (h.stuck (answer-stuck r.pause (state_in b' n').status (stuck-is _ g)) z);
          ended = λ w g. same_memory (h.ended w g);
        },
      )

-- ---- the single step

module _ (P : Program) (b : List ℕ) (n : List ℤ) (b' : List ℕ) (n' : List ℤ) where
  pub steps-with : (p : Pause) {r : FirSaid} → Stepping p P b n b' n' → r ≡ said_numbers (said_of p (state_in b' n').status) → Steps r (step_of P (state_in b n)) (stored b n) (stored b' n')
  steps-with p h e = record {
    numbers = e ∙ ap (λ (t : Stepped). said_numbers t.said) (sym h.stepped);
    state = ap (λ (t : Stepped). t.state) (sym h.stepped);
    stuck = λ g. same_memory (h.stuck (said-stuck p (state_in b' n').status (stuck-said-is (said_of p (state_in b' n').status) (ap (λ (t : Stepped). t.said) (sym h.stepped) ∙ g))));
    ended = λ x g. same_memory (h.ended x g);
  }

  -- ---- a budget and its lent buffer

  abbrev before : FirState
  before = stored b n

  abbrev after : FirState
  after = stored b' n'

  module _ (m : ℕ) (buffer : List ℤ) where
    pub refuses : length buffer < 16 → record { state = state_in b n; answer = Answer.Refused 13 0; steps = 0 } ≡ budget_of P (state_in b n) m buffer
    unfolding budget_of_to long_enough
    refuses h = rw (lt-leb 16 (length buffer) h, budget_of_to)

    pub takes : 16 ≤ length buffer → budget_in P (state_in b n) m (state_in b n).status ≡ budget_of P (state_in b n) m buffer
    unfolding budget_of_to long_enough
    takes h = rw (le-leb 16 (length buffer) h, budget_of_to) refl

    pub budget-taken : (r : Counted) (last : List ℤ) {a : FirAnswer} → 16 ≤ length buffer → Resumes r P b n b' n' m
        → (a ≡ answer_numbers (answer_of r.pause (state_in b' n').status) r.steps) × (last ≡ over (written (state_in b' n').result (answer_of r.pause (state_in b' n').status)) buffer)
        → Answers a (budget_of P (state_in b n) m buffer) before after buffer last × Rests m (budget_of P (state_in b n) m buffer) before after
    budget-taken r last {a} l h f = subst (λ (x : Ran). Answers a x before after buffer last × Rests m x before after) (sym h.ran ∙ takes l) (resumed b n b' n' m buffer r last refl h f)

module _ (P : Program) (b : List ℕ) (n : List ℤ) (m : ℕ) (buffer : List ℤ) where
  -- the buffer is too short
  pub budget-refused : {a : FirAnswer} → length buffer < 16 → a ≡ answer_numbers (Answer.Refused 13 0) 0
      → Answers a (budget_of P (state_in b n) m buffer) (stored b n) (stored b n) buffer buffer × Rests m (budget_of P (state_in b n) m buffer) (stored b n) (stored b n)
  unfolding Left buffer_of written over
  budget-refused {a} l e =
      subst (λ (x : Ran). Answers a x (stored b n) (stored b n) buffer buffer × Rests m x (stored b n) (stored b n)) (refuses P b n b n m buffer l)
      (record { numbers = e; state = refl; written = refl }, record { none = λ z. refl; stuck = λ g z. refl; ended = λ x g. refl })

-- ---- from the start

-- a run that has begun was lent a buffer that is long enough
begun-13 : (s : State) (buffer : List ℤ) → (question13 s buffer).entry ≡ Ok tt → long_enough buffer ≡ true
unfolding question13 refused
begun-13 s buffer g = go (long_enough buffer) refl g
  where
    go : (x : Bool) → long_enough buffer ≡ x → (question13 s buffer).entry ≡ Ok tt → long_enough buffer ≡ true
    go true e g = e
    go false e g = absurd (refused-begun 13 0 (rw (e, question13) at g))

pub begun-entered : (P : Program) (level f v : ℕ) (words buffer : List ℤ) → (entered_of P level f v words buffer).entry ≡ Ok tt → long_enough buffer ≡ true
unfolding entered_of question11 question19 question12 refused
begun-entered P level f v words buffer = go (find_version P f v)
  where
    given : (W : Version) (o : Option (List Given)) → (question12 W o buffer).entry ≡ Ok tt → long_enough buffer ≡ true
    given W none g = absurd (refused-begun 12 0 g)
    given W (some xs) g = begun-13 _ buffer g

    low : (W : Version) (b : Bool) → leb W.level (run_level level) ≡ b → (question19 level W words buffer).entry ≡ Ok tt → long_enough buffer ≡ true
    low W true l g = given W (arguments (parameter_types W) words) (rw (l, question19) at g)
    low W false l g = absurd (refused-begun 19 0 (rw (l, question19) at g))

    go : (o : Option Version) → (question11 level o words buffer).entry ≡ Ok tt → long_enough buffer ≡ true
    go none g = absurd (refused-begun 11 0 g)
    go (some W) g = low W (leb W.level (run_level level)) refl g

-- a budget gives no refusal once it is taken
unfoldable pub Taken : Answer → Type 0
Taken (Answer.Refused q p) = ⊥
Taken Answer.Steps = Unit {0}
Taken (Answer.Ended e) = Unit {0}
Taken Answer.Stuck = Unit {0}

run-taken : (most : ℕ) (P : Program) (n : ℕ) (s : State) (m : ℕ) → Taken (run_with most P n s m).answer
unfolding run_with continued Taken
run-taken most P zero s m = tt
run-taken most P (suc n) s m = go (step_with most P s).state (step_with most P s).said (λ t. run-taken most P n t (m + 1))
  where
    go : (t : State) (w : Said) → ((u : State) → Taken (run_with most P n u (m + 1)).answer) → Taken (continued t w m (λ u. run_with most P n u (m + 1))).answer
    go t Said.GoesOn more = more t
    go t (Said.Ended e) more = tt
    go t Said.Stuck more = tt

in_taken : (most : ℕ) (P : Program) (s : State) (n : ℕ) (x : Status) → Taken (budget_in_with most P s n x).answer
unfolding budget_in_with Taken
in_taken most P s n Status.Running = run-taken most P n s 0
in_taken most P s n (Status.Ended e) = tt

pub of-taken-with : (most : ℕ) (P : Program) (s : State) (n : ℕ) (buffer : List ℤ) → long_enough buffer ≡ true → Taken (budget_with most P s n buffer).answer
unfolding budget_with
of-taken-with most P s n buffer e = rw (e, budget_with) (in_taken most P s n s.status)

of-taken : (P : Program) (s : State) (n : ℕ) (buffer : List ℤ) → long_enough buffer ≡ true → Taken (budget_of P s n buffer).answer
of-taken P s n buffer e = subst (λ (r : Ran). Taken r.answer) (budget-64 P s n buffer) (of-taken-with VECTORS P s n buffer e)

-- whatever the state was before, a budget that is taken leaves the same
pub left-again : (w : Answer) (s : State) (E E' X : FirState) → Taken w → Left w s E X → Left w s E' X
unfolding Taken Left
left-again (Answer.Refused q p) s E E' X t h = absurd t
left-again Answer.Steps s E E' X t h = h
left-again (Answer.Ended e) s E E' X t h = h
left-again Answer.Stuck s E E' X t h = h

-- the run of a beginning, by its entry
after-refused : (P : Program) (x : Begun) (m : ℕ) (buffer : List ℤ) (q p : ℕ) → x.entry ≡ Err (denied q p) → record { state = x.state; answer = Answer.Refused q p; steps = 0 } ≡ run_after_to RANGE x.entry P x.state m buffer
unfolding run_after_to
after-refused P x m buffer q p e = rw e refl

after-begun : (P : Program) (x : Begun) (s : State) (m : ℕ) (buffer : List ℤ) → x.entry ≡ Ok tt → s ≡ x.state → budget_of P s m buffer ≡ run_after_to RANGE x.entry P x.state m buffer
unfolding run_after_to
after-begun P x s m buffer e f = rw (e, f) refl

module _ (s t : List ℕ) (e : Entrance) (words : List ℤ) (m : ℕ) (buffer : List ℤ) (b : List ℕ) (n : List ℤ) (b₁ : List ℕ) (n₁ : List ℤ) (x : Grant) (h : (x ≡ (entered_at (program_in s t) e words buffer).entry) × Begins x (program_in s t) e words buffer b n b₁ n₁) where
  abbrev P : Program
  P = program_in s t

  abbrev ran : Ran
  ran = run_in_to RANGE s t e.level e.function e.version words m buffer

  begins-at : (y : Grant) → x ≡ y → Begins y P e words buffer b n b₁ n₁
  begins-at y g = subst (λ (z : Grant). Begins z P e words buffer b n b₁ n₁) g h.1

  pub run-refused : (q p : ℕ) {a : FirAnswer} → x ≡ Err (denied q p) → a ≡ answer_numbers (Answer.Refused q p) 0 → Answers a ran (stored b n) (stored b₁ n₁) buffer buffer
  unfolding run_in_to Begins Left buffer_of written over
  run-refused q p {a} g f =
      subst (λ (z : Ran). Answers a z (stored b n) (stored b₁ n₁) buffer buffer) (after-refused P (entered_at P e words buffer) m buffer q p (sym h.0 ∙ g))
      (record { numbers = f; state = same_memory (begins-at (Err (denied q p)) g); written = refl })

  pub run-begun : (b₂ : List ℕ) (n₂ : List ℤ) (last : List ℤ) {a : FirAnswer} → x ≡ Ok tt
      → Answers a (budget_of P (state_in b₁ n₁) m buffer) (stored b₁ n₁) (stored b₂ n₂) buffer last → Answers a ran (stored b n) (stored b₂ n₂) buffer last
  unfolding run_in_to Begins
  run-begun b₂ n₂ last {a} g f =
      let y : (entered_at P e words buffer).entry ≡ (Ok tt) = sym h.0 ∙ g in
      let l : long_enough buffer ≡ true = begun-entered P e.level e.function e.version words buffer y in
      subst (λ (z : Ran). Answers a z (stored b n) (stored b₂ n₂) buffer last) (after-begun P (entered_at P e words buffer) (state_in b₁ n₁) m buffer y (begins-at (Ok tt) g).0)
      (record { numbers = f.numbers; state = left-again _ _ (stored b₁ n₁) (stored b n) (stored b₂ n₂) (of-taken P (state_in b₁ n₁) m buffer l) f.state; written = f.written })
