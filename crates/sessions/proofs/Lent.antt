-- A table of an image, and a start: what they say of the image's own program.
use Rattle.std.specs.Prelude.{Err, Ok, Result}
use mathlib.Core.Path.{◌≡◌, refl, sym, ap, ◌∙◌, subst}
use mathlib.Core.Logic.{◌≢◌}
use mathlib.Core.List.{List, [], ◌∷◌}
use Prim.Native.Nat.{ℕ}
use native.Mathlib.Omega.{arith}
use lib.IntN.{ℤ}
use lib.ListN.{length}
use Rattle.machine.specs.Begin.{begin_of, entered_of, program_of, run_after_to, run_of_to}
use Rattle.machine.specs.Events.{Event, budget, after, after_to, handle_to}
use Rattle.machine.specs.Runs.{budget_of}
use Rattle.machine.specs.Values.{RANGE}
use Rattle.machine.specs.declared.Answer.{Answer}
use Rattle.machine.specs.declared.Begun.{Begun}
use Rattle.machine.specs.declared.Ran.{Ran}
use Rattle.machine.specs.declared.State.{State}
use Rattle.loaded.specs.Loaded.{program_in}
use Rattle.loaded.specs.Loading.{Stands, load_of}
use Rattle.loaded.proofs.Runs.{loaded-begin, loaded-run}
use Rattle.begin.specs.Asking.{Begins}
use Rattle.soundness.specs.Claim.{begun}
use Rattle.abi.specs.Answers.{answer_numbers, answer_with, grant_numbers, loaded_numbers}
use Rattle.abi.specs.Exits.{Answers, Began, Left, entrance}
use Rattle.abi.specs.Held.{held}
use Rattle.abi.specs.declared.answers.FirAnswer.{FirAnswer}
use Rattle.abi.specs.declared.answers.FirEntry.{FirEntry}
use Rattle.abi.specs.declared.answers.FirLoaded.{FirLoaded}
use Rattle.abi.specs.declared.state.FirState.{FirState}
use Rattle.sessions.specs.Lent.{Starts, TableOf, by_begin, by_run, run_in}
use Rattle.sessions.proofs.Numbers.{entered-numbered, zero-begun}
use Rattle.loaded.specs.declared.LoadError.{LoadError}
use Rattle.loaded.specs.declared.LoadError.TheVariants.{Short, Refused}
use Rattle.machine.specs.Denials.{Grant}

-- ---- tables

-- the load was ready, and image and table stand for the image's program
pub record Filled (image table : List ℕ) : Type 0 where
  pub size : ℕ
  pub count : ℕ
  pub ready : load_of image size ≡ Ok count
  pub stands : Stands image table (Ok count)

pub filled : (image table : List ℕ) → TableOf image table → Filled image table
unfolding loaded_numbers
filled image table t = go (load_of image (length t.before)) refl t.load.1 (ap (λ (r : FirLoaded). r.code) (sym t.load.0) ∙ t.ready)
  where
    go : (x : Result ℕ LoadError) → load_of image (length t.before) ≡ x → Stands image table x → (loaded_numbers x).code ≡ 0 → Filled image table
    go (Ok n) e s z = record { size = length t.before; count = n; ready = e; stands = s }
    go (Err (Refused why)) e s z = absurd (omega (arith, z))
    go (Err (Short n)) e s z = absurd (omega (arith, z))

-- ---- what a budget leaves

-- one that is not refused leaves its state
pub left-state : (a : Answer) (n : ℕ) (s : State) (before S : FirState) → (answer_numbers a n).code ≢ 8 → Left a s before S → held S ≡ s
unfolding Left answer_numbers answer_with
left-state (Answer.Refused q p) n s before S h l = absurd (h refl)
left-state Answer.Steps n s before S h l = l
left-state (Answer.Ended e) n s before S h l = l
left-state Answer.Stuck n s before S h l = l

-- ---- starts

-- a start has begun, and its state is that of the begun run after the first events
pub record Started (image : List ℕ) (level f v : ℕ) (words buffer : List ℤ) (S : FirState) (first : List Event) : Type 0 where
  pub entry : (begin_of image level f v words buffer).entry ≡ Ok tt
  pub run : run_in image S ≡ after first (begun image level f v words buffer)

module _ (image : List ℕ) (level f v : ℕ) (words buffer : List ℤ) where
  abbrev B : Begun
  B = begin_of image level f v words buffer

  by-begin : (S : FirState) (table : List ℕ) (before : FirState) (r : FirEntry) → Filled image table
      → (r ≡ grant_numbers (entered_of (program_in image table) level f v words buffer).entry)
      → Began (entered_of (program_in image table) level f v words buffer).entry (program_in image table) (entrance level f v) words buffer before S
      → r.question ≡ 0 → Started image level f v words buffer S []
  unfolding after_to Begins
  by-begin S table before r t e b z =
      let x = entered_of (program_in image table) level f v words buffer in
      let same : x ≡ B = loaded-begin image table t.size t.count t.ready t.stands level f v words buffer in
      let begins : x.entry ≡ (Ok tt) = zero-begun x.entry (entered-numbered (program_in image table) level f v words buffer) (ap (λ (q : FirEntry). q.question) (sym e) ∙ z) in
      let told = subst (λ (y : Grant). Began y (program_in image table) (entrance level f v) words buffer before S) begins b in
      record {
        entry = ap (λ (y : Begun). y.entry) (sym same) ∙ begins;
        run = ap (λ (s : State). record { image = image; state = s }) (told.0 ∙ ap (λ (y : Begun). y.state) same);
      }

  by-run : (S : FirState) (table : List ℕ) (before : FirState) (n : ℕ) (last : List ℤ) (r : FirAnswer) → Filled image table
      → Answers r (run_of_to RANGE image level f v words n buffer) before S buffer last → r.code ≢ 8 → Started image level f v words buffer S (budget n buffer ∷ [])
  unfolding after_to handle_to run_of_to run_after_to answer_numbers
  by-run S table before n last r t a h = go B.entry refl a.numbers a.state
    where
      ran : Grant → Ran
      ran x = run_after_to RANGE x (program_of image) B.state n buffer

      go : (x : Grant) → B.entry ≡ x → r ≡ answer_numbers (ran x).answer (ran x).steps → Left (ran x).answer (ran x).state before S → Started image level f v words buffer S (budget n buffer ∷ [])
      go (Err why) e m l = absurd (h (ap (λ (y : FirAnswer). y.code) m))
      go (Ok _) e m l =
          let b = budget_of (program_of image) B.state n buffer in
          let code : (answer_numbers b.answer b.steps).code ≢ 8 = λ z. h (ap (λ (y : FirAnswer). y.code) m ∙ z) in
          record { entry = e; run = ap (λ (s : State). record { image = image; state = s }) (left-state b.answer b.steps b.state before S code l) }

  pub started : (S : FirState) (first : List Event) → Starts image level f v words buffer S first → Started image level f v words buffer S first
  started S _ (by_begin table before r t c z) = by-begin S table before r (filled image table t) c.0 c.1 z
  started S _ (by_run table before n last r t c h) =
      let k = filled image table t in
      by-run S table before n last r k (subst (λ (x : Ran). Answers r x before S buffer last) (loaded-run image table k.size k.count k.ready k.stands RANGE level f v words n buffer) c) h
