-- 02, request 10: what the calls come to that are lent a pool.
use Rattle.std.specs.Prelude.{Err, Ok}
use mathlib.Core.Path.{◌≡◌, refl, sym, ap, subst, ◌∙◌}
use mathlib.Core.List.{List, [], ◌∷◌}
use mathlib.Core.Bool.{Bool, true, false, cond, ◌||◌, true≢false}
use Prim.Native.Nat.{ℕ, zero, suc, ◌+◌, ◌<◌, ◌≤◌}
use native.Mathlib.Omega.{arith}
use lib.IntN.{ℤ}
use lib.ListN.{length, set}
use lib.Dec.{leb}
use borrow.Author.Tests.{le-leb, lt-leb}
use Rattle.program.specs.Program.{Program}
use Rattle.machine.specs.Allowed.{budget_in_with, budget_with, run_with, step_with, vectors_in}
use Rattle.machine.specs.Begin.{refused}
use Rattle.machine.specs.Changes.{change_of}
use Rattle.machine.specs.Pools.{RUNS, PoolBegun, PoolMade, PoolRan, PoolStepped, allowed, make_of, noted, noted_after, over_reserved, overfull, pool_back, pool_begun_as, pool_begun_by, pool_budget, pool_change, pool_run_as, pool_run_by, pool_step, refuses21, said_in_pool, started_in}
use Rattle.machine.specs.Runs.{buffer_of, continued, long_enough, written}
use Rattle.machine.specs.States.{over}
use Rattle.machine.specs.declared.Answer.{Answer}
use Rattle.machine.specs.declared.Begun.{Begun}
use Rattle.machine.specs.declared.End.{End}
use Rattle.machine.specs.declared.Pool.{Pool}
use Rattle.machine.specs.declared.PoolSaid.{PoolSaid}
use Rattle.machine.specs.declared.Ran.{Ran}
use Rattle.machine.specs.declared.Said.{Said}
use Rattle.machine.specs.declared.State.{State}
use Rattle.machine.specs.declared.Status.{Status}
use Rattle.machine.specs.declared.Stepped.{Stepped}
use Rattle.runs.proofs.Company.{budget-is, change-is, step_is}
use Rattle.runs.proofs.Lives.{refused-begun}
use Rattle.store.specs.Store.{state_in}
use Rattle.begin.specs.Asking.{Begins, entered_at}
use Rattle.begin.specs.declared.Entrance.{Entrance}
use Rattle.ending.specs.Ends.{closed_bytes}
use Rattle.running.specs.Budgets.{ResumesWith, StepsWith, answer_of, outcome_in, said_of}
use Rattle.running.specs.declared.Counted.{Counted}
use Rattle.running.specs.declared.Pause.{Pause}
use Rattle.pools.specs.Shares.{Makes, Settles, has_now, pool_of}
use Rattle.abi.specs.Answers.{answer_numbers, grant_numbers, said_numbers, turn_numbers, turn_with}
use Rattle.abi.specs.Exits.{Answers, Left, Rests}
use Rattle.abi.specs.Held.{held, stored}
use Rattle.abi.specs.Pools.{AnswersIn, BeginsIn, EntersIn, MakesIn, RunsIn, StepsIn}
use Rattle.abi.specs.declared.answers.FirAnswer.{FirAnswer}
use Rattle.abi.specs.declared.answers.FirEntry.{FirEntry}
use Rattle.abi.specs.declared.answers.FirSaid.{FirSaid}
use Rattle.abi.specs.declared.answers.FirTurn.{FirTurn}
use Rattle.abi.specs.declared.state.FirState.{FirState}
use Rattle.abi.proofs.Pausing.{Taken, begun-entered, left-again, of-taken-with, resumed, said-stuck, same_memory, stuck-said-is}
use Rattle.machine.specs.Denials.{Grant, denied}

-- ---- making

pub makes-in : (given rs hs rs' hs' : List ℕ) (m : Grant) {r : FirEntry} → Makes m given rs hs rs' hs' → r ≡ grant_numbers m → MakesIn r given (pool_of rs hs) (pool_of rs' hs')
makes-in given rs hs rs' hs' m h e = (e ∙ ap (λ (x : PoolMade). grant_numbers x.made) h, ap (λ (x : PoolMade). x.pool) h)

-- ---- 21

module _ (rs hs : List ℕ) (i : ℕ) {t : Bool} (e : t ≡ (over_reserved rs || leb RUNS i)) where
  pub passes : t ≡ false → refuses21 (pool_of rs hs) i ≡ false
  unfolding refuses21
  passes h = sym e ∙ h

  pub fails : t ≡ true → refuses21 (pool_of rs hs) i ≡ true
  unfolding refuses21
  fails h = sym e ∙ h

module _ (p : Pool) (i : ℕ) (bad : refuses21 p i ≡ true) where
  step-refused : (P : Program) (s : State) → record { pool = p; state = s; turn = PoolSaid.Refused 21 0 } ≡ pool_step P p i s
  unfolding pool_step
  step-refused P s = ap outcome (sym bad)
    where
      outcome : Bool → PoolStepped
      outcome b = elim b [ true ↦ record { pool = p; state = s; turn = PoolSaid.Refused 21 0 } | false ↦ let r = step_with (allowed p i) P s in record { pool = noted p i r.state; state = r.state; turn = said_in_pool r.said } ]

  budget-refused : (P : Program) (s : State) (n : ℕ) (buffer : List ℤ) → record { pool = p; ran = record { state = s; answer = Answer.Refused 21 0; steps = 0 } } ≡ pool_budget P p i s n buffer
  unfolding pool_budget
  budget-refused P s n buffer = ap outcome (sym bad)
    where
      outcome : Bool → PoolRan
      outcome b = elim b [ true ↦ record { pool = p; ran = record { state = s; answer = Answer.Refused 21 0; steps = 0 } } | false ↦ let r = budget_with (allowed p i) P s n buffer in record { pool = noted_after p i r r.answer; ran = r } ]

  begun-refused : (b : Begun) → record { pool = p; begun = refused 21 0 } ≡ pool_begun_by p i b
  begun-refused b = ap outcome (sym bad)
    where
      outcome : Bool → PoolBegun
      outcome x = elim x [ true ↦ record { pool = p; begun = refused 21 0 } | false ↦ pool_begun_as p i b b.entry ]

  pub change-refused : (old new : List ℕ) (s : State) {r : FirEntry} → r ≡ grant_numbers (Err (denied 21 0)) → r ≡ grant_numbers (pool_change p i old new s)
  unfolding pool_change
  change-refused old new s e = e ∙ ap outcome (sym bad)
    where
      outcome : Bool → FirEntry
      outcome x = grant_numbers (elim x [ true ↦ Err (denied 21 0) | false ↦ change_of old new s ])

  pub back-refused : {r : FirEntry} → r ≡ grant_numbers (Err (denied 21 0)) → r ≡ grant_numbers (pool_back p i)
  unfolding pool_back
  back-refused e = e ∙ ap outcome (sym bad)
    where
      outcome : Bool → FirEntry
      outcome x = grant_numbers (elim x [ true ↦ Err (denied 21 0) | false ↦ Err (denied 20 0) ])

begun-is : (p : Pool) (i : ℕ) → refuses21 p i ≡ false → (b : Begun) → pool_begun_by p i b ≡ pool_begun_as p i b b.entry
begun-is p i ok b = ap outcome ok
  where
    outcome : Bool → PoolBegun
    outcome x = elim x [ true ↦ record { pool = p; begun = refused 21 0 } | false ↦ pool_begun_as p i b b.entry ]

pub back_none : (p : Pool) (i : ℕ) → refuses21 p i ≡ false → {r : FirEntry} → r ≡ grant_numbers (Err (denied 20 0)) → r ≡ grant_numbers (pool_back p i)
unfolding pool_back
back_none p i ok e = e ∙ ap outcome (sym ok)
  where
    outcome : Bool → FirEntry
    outcome x = grant_numbers (elim x [ true ↦ Err (denied 21 0) | false ↦ Err (denied 20 0) ])

pub change-taken : (p : Pool) (i : ℕ) → refuses21 p i ≡ false → (old new : List ℕ) (s : State) {r : FirEntry} → r ≡ grant_numbers (change_of old new s) → r ≡ grant_numbers (pool_change p i old new s)
change-taken p i ok old new s e = e ∙ ap grant_numbers (sym (change-is p i ok old new s))

-- ---- the single step

turn-said : (d : Said) → turn_with (said_numbers d) ≡ turn_numbers (said_in_pool d)
unfolding turn_numbers said_in_pool
turn-said Said.GoesOn = refl
turn-said (Said.Ended e) = refl
turn-said Said.Stuck = refl

-- stuck in the pool is stuck
stuck-in : (d : Said) → said_in_pool d ≡ PoolSaid.Stuck → d ≡ Said.Stuck
unfolding said_in_pool
stuck-in Said.GoesOn e = let z : ◌≡◌ {A = ℕ} 0 1 = cc in absurd (omega arith)
stuck-in (Said.Ended x) e = let z : ◌≡◌ {A = ℕ} 0 1 = cc in absurd (omega arith)
stuck-in Said.Stuck e = refl

module _ (P : Program) (rs hs : List ℕ) (i : ℕ) (b : List ℕ) (n : List ℤ) where
  abbrev q : Pool
  q = pool_of rs hs

  pub turned_down : refuses21 q i ≡ true → {r : FirTurn} → r ≡ turn_numbers (PoolSaid.Refused 21 0) → StepsIn r P q i (stored b n) (stored b n) q
  turned_down bad e =
      let z = step-refused q i bad P (state_in b n) in
      record {
        numbers = e ∙ ap (λ (x : PoolStepped). turn_numbers x.turn) z;
        state = ap (λ (x : PoolStepped). x.state) z;
        pool = ap (λ (x : PoolStepped). x.pool) z;
        refused = λ _. refl;
        stuck = λ _. refl;
        ended = λ _ _. refl;
      }

  module _ (ok : refuses21 q i ≡ false) {m : ℕ} (most : m ≡ allowed q i) (b' : List ℕ) (n' : List ℤ) (hs' : List ℕ) (note : hs' ≡ set hs i (has_now b' n')) where
    -- what the run has is noted
    noted-is : pool_of rs hs' ≡ noted q i (state_in b' n')
    unfolding noted
    noted-is = ap (pool_of rs) note

    module _ (k : Pause) (h : StepsWith m k P b n b' n') where
      stepped : step_with (allowed q i) P (state_in b n) ≡ record { state = state_in b' n'; said = said_of k (state_in b' n').status }
      stepped = ap (λ j. step_with j P (state_in b n)) (sym most) ∙ h.stepped

      is : pool_step P q i (state_in b n) ≡ record { pool = noted q i (state_in b' n'); state = state_in b' n'; turn = said_in_pool (said_of k (state_in b' n').status) }
      is = step_is q i ok P (state_in b n) ∙ ap (λ (r : Stepped). record { pool = noted q i r.state; state = r.state; turn = said_in_pool r.said }) stepped

      pub steps-in : {w : FirSaid} {r : FirTurn} → w ≡ said_numbers (said_of k (state_in b' n').status) → r ≡ turn_with w → StepsIn r P q i (stored b n) (stored b' n') (pool_of rs hs')
      steps-in e f = record {
        numbers = f ∙ ap turn_with e ∙ turn-said (said_of k (state_in b' n').status) ∙ ap (λ (x : PoolStepped). turn_numbers x.turn) (sym is);
        state = ap (λ (x : PoolStepped). x.state) (sym is);
        pool = noted-is ∙ ap (λ (x : PoolStepped). x.pool) (sym is);
        refused = λ bad. absurd (true≢false (sym bad ∙ ok));
        stuck = λ g. same_memory (h.stuck (said-stuck k (state_in b' n').status (stuck-said-is _ (stuck-in _ (ap (λ (x : PoolStepped). x.turn) (sym is) ∙ g)))));
        ended = λ x g. same_memory (h.ended x g);
      }

  -- ---- a budget

  module _ (j : ℕ) (buffer : List ℤ) where
    refused_as : (y : PoolRan) (o : ℕ) → record { pool = q; ran = record { state = state_in b n; answer = Answer.Refused o 0; steps = 0 } } ≡ y → y ≡ pool_budget P q i (state_in b n) j buffer
        → {a : FirAnswer} → a ≡ answer_numbers (Answer.Refused o 0) 0 → AnswersIn a P j q i (stored b n) (stored b n) q buffer buffer
    unfolding Left buffer_of written over
    refused_as y o e f {a} g = record {
      budget = subst (λ (x : PoolRan). Answers a x.ran (stored b n) (stored b n) buffer buffer) (e ∙ f) (record { numbers = g; state = refl; written = refl });
      rests = record { none = λ _. refl; stuck = λ _ _. refl; ended = λ _ _. refl };
      pool = ap (λ (x : PoolRan). x.pool) (e ∙ f);
    }

    pub answers-refused : refuses21 q i ≡ true → {a : FirAnswer} → a ≡ answer_numbers (Answer.Refused 21 0) 0 → AnswersIn a P j q i (stored b n) (stored b n) q buffer buffer
    answers-refused bad e = refused_as _ 21 (budget-refused q i bad P (state_in b n) j buffer) refl e

    module _ (ok : refuses21 q i ≡ false) where
      short : length buffer < 16 → record { state = state_in b n; answer = Answer.Refused 13 0; steps = 0 } ≡ budget_with (allowed q i) P (state_in b n) j buffer
      unfolding budget_with long_enough
      short h = ap outcome (sym (lt-leb 16 (length buffer) h))
        where
          outcome : Bool → Ran
          outcome x = elim x [ true ↦ budget_in_with (allowed q i) P (state_in b n) j (state_in b n).status | false ↦ record { state = state_in b n; answer = Answer.Refused 13 0; steps = 0 } ]

      pub answers-short : length buffer < 16 → {a : FirAnswer} → a ≡ answer_numbers (Answer.Refused 13 0) 0 → AnswersIn a P j q i (stored b n) (stored b n) q buffer buffer
      unfolding noted_after
      answers-short h e = refused_as _ 13 (ap (λ (r : Ran). record { pool = noted_after q i r r.answer; ran = r }) (short h)) (sym (budget-is q i ok P (state_in b n) j buffer)) e

      long : 16 ≤ length buffer → budget_in_with (allowed q i) P (state_in b n) j (state_in b n).status ≡ budget_with (allowed q i) P (state_in b n) j buffer
      unfolding budget_with long_enough
      long h = ap outcome (sym (le-leb 16 (length buffer) h))
        where
          outcome : Bool → Ran
          outcome x = elim x [ true ↦ budget_in_with (allowed q i) P (state_in b n) j (state_in b n).status | false ↦ record { state = state_in b n; answer = Answer.Refused 13 0; steps = 0 } ]

      -- no pause is a refusal
      noted-paused : (r : Ran) (k : Pause) (st : Status) → noted_after q i r (answer_of k st) ≡ noted q i r.state
      unfolding noted_after answer_of
      noted-paused r Pause.Steps st = refl
      noted-paused r Pause.Stuck st = refl
      noted-paused r Pause.Ended Status.Running = refl
      noted-paused r Pause.Ended (Status.Ended e) = refl

      module _ {m : ℕ} (most : m ≡ allowed q i) (b' : List ℕ) (n' : List ℤ) (hs' : List ℕ) (note : hs' ≡ set hs i (has_now b' n')) (k : Counted) (h : ResumesWith m k P b n b' n' j) (l : 16 ≤ length buffer) where
        ran : budget_with (allowed q i) P (state_in b n) j buffer ≡ outcome_in k b' n'
        ran = sym (long l) ∙ ap (λ x. budget_in_with x P (state_in b n) j (state_in b n).status) (sym most) ∙ h.ran

        came : pool_budget P q i (state_in b n) j buffer ≡ record { pool = noted q i (state_in b' n'); ran = outcome_in k b' n' }
        came = budget-is q i ok P (state_in b n) j buffer ∙ ap (λ (r : Ran). record { pool = noted_after q i r r.answer; ran = r }) ran
            ∙ ap (λ (x : Pool). record { pool = x; ran = outcome_in k b' n' }) (noted-paused (outcome_in k b' n') k.pause (state_in b' n').status)

        pub answers-in : (last : List ℤ) {a : FirAnswer}
            → (a ≡ answer_numbers (answer_of k.pause (state_in b' n').status) k.steps) × (last ≡ over (written (state_in b' n').result (answer_of k.pause (state_in b' n').status)) buffer)
            → AnswersIn a P j q i (stored b n) (stored b' n') (pool_of rs hs') buffer last
        answers-in last {a} f =
            let R = subst (λ (x : PoolRan). Answers a x.ran (stored b n) (stored b' n') buffer last × Rests j x.ran (stored b n) (stored b' n')) (sym came) (resumed b n b' n' j buffer k last refl h f) in
            record { budget = R.0; rests = R.1; pool = noted-is ok most b' n' hs' note ∙ ap (λ (x : PoolRan). x.pool) (sym came) }

-- ---- a start

module _ (P : Program) (e : Entrance) (words buffer : List ℤ) (rs hs : List ℕ) (i : ℕ) (b : List ℕ) (n : List ℤ) where
  abbrev o : Pool
  o = pool_of rs hs

  abbrev B : Begun
  B = entered_at P e words buffer

  pub enters-refused-by-21 : refuses21 o i ≡ true → EntersIn (Err (denied 21 0)) P e words buffer o i (stored b n) (stored b n) o
  unfolding refused
  enters-refused-by-21 bad =
      let z = begun-refused o i bad B in
      record {
        entry = ap (λ (x : PoolBegun). x.begun.entry) z;
        pool = ap (λ (x : PoolBegun). x.pool) z;
        refused = λ _ _ _. refl;
        state = λ g. let z : ◌≡◌ {A = ℕ} 0 1 = cc in absurd (omega arith);
        values = λ g. let z : ◌≡◌ {A = ℕ} 0 1 = cc in absurd (omega arith);
        fits = λ g. let z : ◌≡◌ {A = ℕ} 0 1 = cc in absurd (omega arith);
        over = λ g. let z : ◌≡◌ {A = ℕ} 0 1 = cc in absurd (omega arith);
      }

  module _ (ok : refuses21 o i ≡ false) (b₁ : List ℕ) (n₁ : List ℤ) (x : Grant) (h : (x ≡ B.entry) × Begins x P e words buffer b n b₁ n₁) where
    begins-as : (y : Grant) → x ≡ y → Begins y P e words buffer b n b₁ n₁
    begins-as y g = subst (λ (z : Grant). Begins z P e words buffer b n b₁ n₁) g h.1

    by-entry : (y : Grant) → x ≡ y → pool_begun_by o i B ≡ pool_begun_as o i B y
    by-entry y g = begun-is o i ok B ∙ ap (pool_begun_as o i B) (sym h.0 ∙ g)

    pub enters-refused : (k p : ℕ) → x ≡ Err (denied k p) → EntersIn (Err (denied k p)) P e words buffer o i (stored b n) (stored b₁ n₁) o
    unfolding pool_begun_as Begins
    enters-refused k p g =
        let z = by-entry (Err (denied k p)) g in
        record {
          entry = sym g ∙ h.0 ∙ ap (λ (y : PoolBegun). y.begun.entry) (sym z);
          pool = ap (λ (y : PoolBegun). y.pool) (sym z);
          refused = λ _ _ _. same_memory (begins-as (Err (denied k p)) g);
          state = λ g. let z : ◌≡◌ {A = ℕ} 0 1 = cc in absurd (omega arith);
          values = λ g. let z : ◌≡◌ {A = ℕ} 0 1 = cc in absurd (omega arith);
          fits = λ g. let z : ◌≡◌ {A = ℕ} 0 1 = cc in absurd (omega arith);
          over = λ g. let z : ◌≡◌ {A = ℕ} 0 1 = cc in absurd (omega arith);
        }

    pub enters-begun : x ≡ Ok tt → (b₂ hs' : List ℕ) → Settles b₁ n₁ rs hs i b₂ hs' → EntersIn (Ok tt) P e words buffer o i (stored b n) (stored b₂ n₁) (pool_of rs hs')
    unfolding pool_begun_as Begins started_in noted
    enters-begun g b₂ hs' S =
        let z = by-entry (Ok tt) g in
        let first = begins-as (Ok tt) g in
        let now : state_in b₂ n₁ ≡ started_in o i B.state = S.0.state ∙ ap (started_in o i) first.0 in
        record {
          entry = ap (λ (y : PoolBegun). y.begun.entry) (sym z);
          pool = ap (pool_of rs) S.1 ∙ ap (noted o i) now ∙ ap (λ (y : PoolBegun). y.pool) (sym z);
          refused = λ k p w. let z : ◌≡◌ {A = ℕ} 0 1 = cc in absurd (omega arith);
          state = λ _. now ∙ ap (λ (y : PoolBegun). y.begun.state) (sym z);
          values = λ _. first.2;
          fits = λ _ l. S.0.fits (subst (λ (s : State). vectors_in s ≤ allowed o i) (sym first.0) l) ∙ first.1;
          over = λ _ l. S.0.over (subst (λ (s : State). allowed o i < vectors_in s) (sym first.0) l) ∙ ap (λ y. closed_bytes y 5 0) first.1;
        }

pub begins-in : (P : Program) (e : Entrance) (words buffer : List ℤ) (p : Pool) (i : ℕ) (S S' : FirState) (p' : Pool) (x : Grant) {r : FirEntry}
    → EntersIn x P e words buffer p i S S' p' → r ≡ grant_numbers x → BeginsIn r P e words buffer p i S S' p'
begins-in P e words buffer p i S S' p' x E f = (f ∙ ap grant_numbers E.entry, subst (λ (y : Grant). EntersIn y P e words buffer p i S S' p') E.entry E)

-- ---- a start and its first budget

module _ (P : Program) (e : Entrance) (words : List ℤ) (j : ℕ) (buffer : List ℤ) (p : Pool) (i : ℕ) (S S₁ : FirState) (p₁ : Pool) (x : Grant) (E : EntersIn x P e words buffer p i S S₁ p₁) where
  abbrev A : PoolBegun
  A = pool_begun_by p i (entered_at P e words buffer)

  ran-as : (y : Grant) → x ≡ y → pool_run_as P i j buffer A y ≡ pool_run_by P p i (entered_at P e words buffer) j buffer
  ran-as y g = ap (pool_run_as P i j buffer A) (sym g ∙ E.entry)

  pub runs-refused : (k o : ℕ) {a : FirAnswer} → x ≡ Err (denied k o) → a ≡ answer_numbers (Answer.Refused k o) 0 → RunsIn a P e words j p i S S₁ p₁ buffer buffer
  unfolding pool_run_as Left buffer_of written over
  runs-refused k o {a} g f =
      subst (λ (y : PoolRan). Answers a y.ran S S₁ buffer buffer × (p₁ ≡ y.pool)) (ran-as (Err (denied k o)) g)
      (record { numbers = f; state = E.refused k o g; written = refl }, E.pool)

  module _ (g : x ≡ Ok tt) where
    -- a start that is not refused has passed 21 and all questions to a beginning
    begun-passes : (t : Bool) → refuses21 p i ≡ t → (refuses21 p i ≡ false) × (A ≡ pool_begun_as p i (entered_at P e words buffer) (entered_at P e words buffer).entry)
    unfolding refused
    begun-passes true q = absurd (refused-begun 21 0 (ap (λ (y : PoolBegun). y.begun.entry) (begun-refused p i q (entered_at P e words buffer)) ∙ sym E.entry ∙ g))
    begun-passes false q = (q, begun-is p i q (entered_at P e words buffer))

    passed : (refuses21 p i ≡ false) × (A ≡ pool_begun_as p i (entered_at P e words buffer) (entered_at P e words buffer).entry)
    passed = begun-passes (refuses21 p i) refl

    entry-as : (B : Begun) (y : Grant) → (pool_begun_as p i B y).begun.entry ≡ Ok tt → B.entry ≡ y → (y ≡ Ok tt) × ((pool_begun_as p i B y).pool.reserves ≡ p.reserves)
    unfolding pool_begun_as noted
    entry-as B (Err why) w q = absurd (refused-begun why.question why.at (sym q ∙ w))
    entry-as B (Ok _) w q = (refl, refl)

    begun-at : ((entered_at P e words buffer).entry ≡ Ok tt) × (A.pool.reserves ≡ p.reserves)
    begun-at =
        let z = passed.1 in
        let w = entry-as (entered_at P e words buffer) (entered_at P e words buffer).entry (ap (λ (y : PoolBegun). y.begun.entry) (sym z) ∙ sym E.entry ∙ g) refl in
        (w.0, ap (λ (y : PoolBegun). y.pool.reserves) z ∙ w.1)

    buffer-long : long_enough buffer ≡ true
    buffer-long = begun-entered P e.level e.function e.version words buffer begun-at.0

    -- the reserves are as they were
    still-passes : refuses21 p₁ i ≡ false
    unfolding refuses21
    still-passes = ap (λ (y : Pool). over_reserved y.reserves || leb RUNS i) E.pool ∙ ap (λ rs. over_reserved rs || leb RUNS i) begun-at.1 ∙ passed.0

    module _ (S₂ : FirState) (p₂ : Pool) (last : List ℤ) {a : FirAnswer} (F : AnswersIn a P j p₁ i S₁ S₂ p₂ buffer last) where
      taken_here : Taken (pool_budget P p₁ i (held S₁) j buffer).ran.answer
      taken_here = subst (λ (y : PoolRan). Taken y.ran.answer) (sym (budget-is p₁ i still-passes P (held S₁) j buffer)) (of-taken-with (allowed p₁ i) P (held S₁) j buffer buffer-long)

      answered-here : Answers a (pool_budget P p₁ i (held S₁) j buffer).ran S S₂ buffer last
      answered-here = record { numbers = F.budget.numbers; state = left-again _ _ S₁ S S₂ taken_here F.budget.state; written = F.budget.written }

      same : pool_budget P p₁ i (held S₁) j buffer ≡ pool_budget P A.pool i A.begun.state j buffer
      same = λ k. pool_budget P (E.pool k) i (E.state g k) j buffer

      pub runs-begun : RunsIn a P e words j p i S S₂ p₂ buffer last
      unfolding pool_run_as
      runs-begun = subst (λ (y : PoolRan). Answers a y.ran S S₂ buffer last × (p₂ ≡ y.pool)) (same ∙ ran-as (Ok tt) g) (answered-here, F.pool)
