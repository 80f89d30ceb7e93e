-- Demand 3, the levels and the listed replies in the pool of 02, 10, under each number: the statements alone.
use Rattle.std.specs.Prelude.{◌≡◌, ◌≢◌, true, false, ℕ, ◌≤◌, ℤ, length, Err, Ok}
use mathlib.Core.List.{List, [], ◌∷◌, map, Memᴰ}
use Rattle.std.proofs.Math.Option.{Option, some}
use Rattle.machine.specs.Runs.{buffer_of}
use Rattle.machine.specs.Begin.{run_level}
use Rattle.machine.specs.Events.{Run, Event, single, budget, change, program_in}
use Rattle.machine.specs.Allowed.{step_with}
use Rattle.machine.specs.Pools.{RUNS, allowed, over_reserved, fresh}
use Rattle.machine.specs.Houses.{Ask, start, go_on, Asked, Heard, began, turned, spent, changed, nobody, House, opened, serve, house_after, heard_under, asks_under, TriedIn, history_under}
use Rattle.machine.specs.declared.Answer.{Answer}
use Rattle.machine.specs.declared.End.{End}
use Rattle.machine.specs.declared.Frame.{Frame}
use Rattle.machine.specs.declared.Ran.{Ran}
use Rattle.machine.specs.declared.Said.{Said}
use Rattle.machine.specs.declared.PoolSaid.{PoolSaid}
use Rattle.runs.specs.Company.{CompanyBut}
use Rattle.soundness.specs.Claim.{reflective, Live, entered, is_quiet, Safe}
use Rattle.soundness.specs.Levels.{AtOrBelow}
use Rattle.soundness.specs.Results.{Refusal, Told, Outcome}
use Rattle.machine.specs.Denials.{Grant, denied}

-- ---- demand 3

-- of the number i, the steps that were tried under it, single or in budgets, and the run that it has now
pub record SafeUnder (i : ℕ) (h : List TriedIn) (now : Option Run) : Type 0 where
  -- No step was stuck, with the vectors that the run might have then.
  pub unstuck : (t : TriedIn) → Memᴰ t h → (step_with (allowed t.pool i) (program_in t.run) t.run.state).said ≢ Said.Stuck
  -- Where a reflective read or write was tried, no call that was live then is quiet.
  pub quiet : (t : TriedIn) → Memᴰ t h → reflective (program_in t.run) t.run.state ≡ true → (k : ℕ) (f : Frame) → Live t.run.state k f → is_quiet (entered (program_in t.run) f) ≡ false
  -- Of the run that it has now holds all that demand 3 says.
  pub safe : (r : Run) → now ≡ some r → Safe (map (λ (t : TriedIn). t.run) h) r

-- After every list of starts, steps, budgets and changes under any numbers, refused ones too, from a pool just made
unfoldable pub Demand3Pool : Type 0
Demand3Pool =
    (reserves : List ℕ) → length reserves ≡ RUNS → over_reserved reserves ≡ false → (l : List Asked) (i : ℕ)
    → let w = opened (fresh reserves) in SafeUnder i (history_under i l w) ((house_after l w).runs i)

-- ---- levels

-- a start states the level or one below it
unfoldable pub StatesUpTo : ℕ → Ask → Type 0
StatesUpTo level (start image l f v words buffer) = run_level l ≤ run_level level
StatesUpTo level (go_on e) = Unit {0}

-- After a start at a level that is not refused, whatever was before, and while no start under the number states a higher one: no version above it is ever entered under that number
unfoldable pub NeverAbovePool : Type 0
NeverAbovePool =
    (w : House) (i : ℕ) (image : List ℕ) (level f v : ℕ) (words buffer : List ℤ) → let a : Asked = record { number = i; ask = start image level f v words buffer } in
    (serve a w).heard ≡ began (Ok tt) → (l : List Asked) → ((x : Ask) → Memᴰ x (asks_under i l) → StatesUpTo level x)
    → let u = (serve a w).house in ((r : Run) → (house_after l u).runs i ≡ some r → AtOrBelow level r) × ((t : TriedIn) → Memᴰ t (history_under i l u) → AtOrBelow level t.run)

-- ---- what is heard

pub data ListedHeard : Ask → Heard → Type 0 where
  -- 21, at 0
  start21 : (image : List ℕ) (level f v : ℕ) (words buffer : List ℤ) → ListedHeard (start image level f v words buffer) (began (Err (denied 21 0)))
  single21 : ListedHeard (go_on single) (turned (PoolSaid.Refused 21 0))
  budget21 : (n : ℕ) (buffer : List ℤ) → ListedHeard (go_on (budget n buffer)) (spent (Answer.Refused 21 0) 0 buffer)
  change21 : (new : List ℕ) → ListedHeard (go_on (change new)) (changed (Err (denied 21 0)))
  -- a start has begun, or is refused by a question
  begins : (image : List ℕ) (level f v : ℕ) (words buffer : List ℤ) → ListedHeard (start image level f v words buffer) (began (Ok tt))
  is_refused : (image : List ℕ) (level f v : ℕ) (words buffer : List ℤ) (q p : ℕ) → Refusal q p → ListedHeard (start image level f v words buffer) (began (Err (denied q p)))
  -- a single step goes on or has ended; it is not stuck
  goes_on : ListedHeard (go_on single) (turned PoolSaid.GoesOn)
  has_ended : (e : End) → ListedHeard (go_on single) (turned (PoolSaid.Ended e))
  -- a budget has a result, and is refused by 13 alone
  gives : (n : ℕ) (buffer : List ℤ) (r : Ran) → Told n buffer r → ((q p : ℕ) → r.answer ≡ Answer.Refused q p → (q ≡ 13) × (p ≡ 0))
      → ListedHeard (go_on (budget n buffer)) (spent r.answer r.steps (buffer_of r buffer))
  -- a change is taken or refused
  changes : (new : List ℕ) (c : Grant) → Outcome c → ListedHeard (go_on (change new)) (changed c)
  -- a number without a run
  is_nobody : (e : Event) → ListedHeard (go_on e) nobody

pub data AllHeard : List Ask → List Heard → Type 0 where
  end : AllHeard [] []
  next : (a : Ask) (h : Heard) (l : List Ask) (hs : List Heard) → ListedHeard a h → AllHeard l hs → AllHeard (a ∷ l) (h ∷ hs)

-- All that is asked under every number hears one of these
unfoldable pub PoolReplies : Type 0
PoolReplies =
    (reserves : List ℕ) → length reserves ≡ RUNS → over_reserved reserves ≡ false → (l : List Asked) (i : ℕ)
    → AllHeard (asks_under i l) (heard_under i l (opened (fresh reserves)))

-- ---- in company

-- Under every number VECTORS comes, in the pool, only at a step that goes on without one: none is stuck there
abbrev pub CompanySafe : Type 0
CompanySafe = CompanyBut ⊥
