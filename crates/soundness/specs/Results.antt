-- What a run from the start and each event of a list gives, as the sections "Questions put to an image" and "Steps" and 02, 3 have it: the statements alone.
use Rattle.std.specs.Prelude.{◌≡◌, ◌≢◌, List, [], ◌∷◌, true, ℕ, ◌≤◌, ℤ, eqb, Err, Ok}
use Rattle.layout.specs.Tests.{any}
use Rattle.machine.specs.Runs.{buffer_of}
use Rattle.machine.specs.Begin.{begin_of, run_of}
use Rattle.machine.specs.Events.{Event, single, budget, change, Reply, said, gave, became, replies}
use Rattle.machine.specs.declared.Answer.{Answer}
use Rattle.machine.specs.declared.End.{End}
use Rattle.machine.specs.declared.Ran.{Ran}
use Rattle.machine.specs.declared.Said.{Said}
use Rattle.soundness.specs.Claim.{begun}
use Rattle.machine.specs.Denials.{Grant, denied}

-- the number is one of these
unfoldable pub Among : List ℕ → ℕ → Type 0
Among ns q = any (eqb q) ns ≡ true

-- the questions put to an image, in order
abbrev pub to_image : List ℕ
to_image = 1 ∷ 2 ∷ 3 ∷ 4 ∷ 5 ∷ 6 ∷ 7 ∷ 14 ∷ 8 ∷ 18 ∷ 9 ∷ 10 ∷ []

-- and to a beginning
abbrev pub to_beginning : List ℕ
to_beginning = 11 ∷ 19 ∷ 12 ∷ 13 ∷ []

-- a question's number and an offset, which is 0 for a question to a beginning
pub data Refusal : ℕ → ℕ → Type 0 where
  of_image : (q p : ℕ) → Among to_image q → Refusal q p
  of_beginning : (q : ℕ) → Among to_beginning q → Refusal q 0

-- a refusal, STEPS, or an end: DONE, UNDEF, DEEP, VECTORS or PROMISES; there is no other, so none is stuck
pub data Result : Answer → Type 0 where
  is_refused : (q p : ℕ) → Refusal q p → Result (Answer.Refused q p)
  is_steps : Result Answer.Steps
  is_ended : (e : End) → Result (Answer.Ended e)

-- of a run r under a budget of n steps with a lent buffer
pub record Told (n : ℕ) (buffer : List ℤ) (r : Ran) : Type 0 where
  pub answer : Result r.answer
  -- No more steps are taken than the budget has;
  pub inside : r.steps ≤ n
  -- STEPS says that it is used up,
  pub used : r.answer ≡ Answer.Steps → r.steps ≡ n
  -- and a refusal takes none.
  pub none : (q p : ℕ) → r.answer ≡ Answer.Refused q p → r.steps ≡ 0
  -- Only DONE with a vector writes to the buffer.
  pub kept : ((k : ℕ) → r.answer ≢ Answer.Ended (End.Vector k)) → buffer_of r buffer ≡ buffer

-- Every image, level, entry, argument words, budget and buffer has such a result
unfoldable pub Results : Type 0
Results = (image : List ℕ) (level f v : ℕ) (words : List ℤ) (n : ℕ) (buffer : List ℤ) → Told n buffer (run_of image level f v words n buffer)

-- a change is taken, refused by one of the questions to an image, or by 15
pub data Outcome : Grant → Type 0 where
  is_taken : Outcome (Ok tt)
  is_refused_image : (q p : ℕ) → Among to_image q → Outcome (Err (denied q p))
  is_refused15 : (p : ℕ) → Outcome (Err (denied 15 p))

-- the reply to an event is one of those listed for it: no step is stuck, and a budget is refused by 13 alone
pub data Listed : Event → Reply → Type 0 where
  steps : (d : Said) → d ≢ Said.Stuck → Listed single (said d)
  gives : (n : ℕ) (buffer : List ℤ) (r : Ran) → Told n buffer r → ((q p : ℕ) → r.answer ≡ Answer.Refused q p → (q ≡ 13) × (p ≡ 0))
      → Listed (budget n buffer) (gave r.answer r.steps (buffer_of r buffer))
  changes : (new : List ℕ) (c : Grant) → Outcome c → Listed (change new) (became c)

-- each reply to the event at its place
pub data AllListed : List Event → List Reply → Type 0 where
  end : AllListed [] []
  next : (e : Event) (r : Reply) (es : List Event) (rs : List Reply) → Listed e r → AllListed es rs → AllListed (e ∷ es) (r ∷ rs)

-- Every event of every list, on every begun run, has such a reply
unfoldable pub Replies : Type 0
Replies = (image : List ℕ) (level f v : ℕ) (words buffer : List ℤ) → (begin_of image level f v words buffer).entry ≡ Ok tt → (events : List Event)
    → AllListed events (replies events (begun image level f v words buffer))
