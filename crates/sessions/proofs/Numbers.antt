-- No refusal has the number 0, so that an answer in numbers says whether there was one.
use Rattle.std.specs.Prelude.{None, Some, Err, Ok}
use mathlib.Core.Path.{◌≡◌, refl}
use Rattle.layout.specs.Found.{Found}
use mathlib.Core.List.{List}
use mathlib.Core.Bool.{Bool, true, false}
use mathlib.Core.Option.{Option, none, some}
use Prim.Native.Nat.{ℕ}
use native.Mathlib.Omega.{arith}
use lib.Dec.{eqb, leb}
use lib.IntN.{ℤ}
use Rattle.program.specs.Program.{Program, Version, find_version, parameter_types}
use Rattle.checker.specs.Verdicts.{ask, verdict_of, verdict_in, Verdict}
use Rattle.machine.specs.Begin.{Given, arguments, entered_of, question11, question12, question13, question19, refused, run_level}
use Rattle.machine.specs.Changes.{answer15, changed_by, change_after, change_of}
use Rattle.machine.specs.Pools.{PoolBegun, pool_begun_as, pool_begun_by, pool_change, refuses21}
use Rattle.machine.specs.Runs.{long_enough}
use Rattle.machine.specs.declared.Answer.{Answer}
use Rattle.machine.specs.declared.Begun.{Begun}
use Rattle.machine.specs.declared.End.{End}
use Rattle.machine.specs.declared.Pool.{Pool}
use Rattle.machine.specs.declared.State.{State}
use Rattle.abi.specs.Answers.{answer_numbers, answer_with, end_numbers, grant_numbers, plain_numbers, said_numbers}
use Rattle.machine.specs.Denials.{Grant, denied}

-- ---- the number of a refusal is not 0

unfoldable Asked : Verdict → Type 0
Asked (Err why) = eqb why.question 0 ≡ false
Asked (Ok n) = Unit {0}

unfoldable pub Enters : Grant → Type 0
Enters (Err why) = eqb why.question 0 ≡ false
Enters (Ok _) = Unit {0}

unfoldable pub Changes : Grant → Type 0
Changes (Err why) = eqb why.question 0 ≡ false
Changes (Ok _) = Unit {0}

-- ---- images

asks : (n : ℕ) (x : Found) (more : Verdict) → eqb n 0 ≡ false → Asked more → Asked (ask n x more)
unfolding ask Asked
asks n None more h m = m
asks n (Some p) more h m = h

verdict-asked : (image : List ℕ) → Asked (verdict_of image)
unfolding verdict_in Asked
verdict-asked image =
    asks 1 _ _ refl (asks 2 _ _ refl (asks 3 _ _ refl (asks 4 _ _ refl (asks 5 _ _ refl (asks 6 _ _ refl (asks 7 _ _ refl
    (asks 14 _ _ refl (asks 8 _ _ refl (asks 18 _ _ refl (asks 9 _ _ refl (asks 10 _ _ refl tt)))))))))))

-- ---- changes

pub change-numbered : (old new : List ℕ) (s : State) → Changes (change_of old new s)
unfolding change_of change_after changed_by Changes Asked
change-numbered old new s = go (verdict_of new) (verdict-asked new)
  where
    by15 : (x : Found) → Changes (changed_by x)
    by15 None = tt
    by15 (Some p) = refl

    go : (a : Verdict) → Asked a → Changes (change_after a old new s)
    go (Err why) h = h
    go (Ok n) h = by15 (answer15 old new s)

pub pool-change-numbered : (p : Pool) (i : ℕ) (old new : List ℕ) (s : State) → Changes (pool_change p i old new s)
unfolding pool_change Changes
pool-change-numbered p i old new s = go (refuses21 p i)
  where
    go : (b : Bool) → Changes (elim b [ true ↦ Err (denied 21 0) | false ↦ change_of old new s ])
    go true = refl
    go false = change-numbered old new s

-- ---- beginnings

pub entered-numbered : (P : Program) (level f v : ℕ) (words buffer : List ℤ) → Enters (entered_of P level f v words buffer).entry
unfolding entered_of question11 question19 question12 question13 refused Enters
entered-numbered P level f v words buffer = eleven (find_version P f v)
  where
    by13 : State → Bool → Begun
    by13 s b = elim b [ true ↦ record { state = s; entry = Ok tt } | false ↦ refused 13 0 ]

    thirteen : (s : State) (b : Bool) → Enters (by13 s b).entry
    thirteen s true = tt
    thirteen s false = refl

    twelve : (W : Version) (o : Option (List Given)) → Enters (question12 W o buffer).entry
    twelve W none = refl
    twelve W (some xs) = thirteen _ (long_enough buffer)

    by19 : Version → Bool → Begun
    by19 W b = elim b [ true ↦ question12 W (arguments (parameter_types W) words) buffer | false ↦ refused 19 0 ]

    nineteen : (W : Version) (b : Bool) → Enters (by19 W b).entry
    nineteen W true = twelve W (arguments (parameter_types W) words)
    nineteen W false = refl

    eleven : (o : Option Version) → Enters (question11 level o words buffer).entry
    eleven none = refl
    eleven (some W) = nineteen W (leb W.level (run_level level))

pub pool-begun-numbered : (p : Pool) (i : ℕ) (b : Begun) → Enters b.entry → Enters (pool_begun_by p i b).begun.entry
unfolding pool_begun_as refused Enters
pool-begun-numbered p i b h = go (refuses21 p i)
  where
    begun : (x : Grant) → Enters (pool_begun_as p i b x).begun.entry
    begun (Err why) = h
    begun (Ok _) = tt

    by21 : Bool → PoolBegun
    by21 c = elim c [ true ↦ record { pool = p; begun = refused 21 0 } | false ↦ pool_begun_as p i b b.entry ]

    go : (c : Bool) → Enters (by21 c).begun.entry
    go true = refl
    go false = begun b.entry

-- the answer 0 says that a run has begun
pub zero-begun : (x : Grant) → Enters x → (grant_numbers x).question ≡ 0 → x ≡ Ok tt
unfolding Enters grant_numbers
zero-begun (Ok _) h z = refl
zero-begun (Err why) h z = let t : true ≡ false = rw z at h in let y : ◌≡◌ {A = ℕ} 0 1 = cc in absurd (omega (arith, y))

-- and that the buffer was long enough
pub entered-long : (P : Program) (level f v : ℕ) (words buffer : List ℤ) → (entered_of P level f v words buffer).entry ≡ Ok tt → long_enough buffer ≡ true
unfolding entered_of question11 question19 question12 question13 refused
entered-long P level f v words buffer = eleven (find_version P f v)
  where
    by13 : State → Bool → Begun
    by13 s b = elim b [ true ↦ record { state = s; entry = Ok tt } | false ↦ refused 13 0 ]

    thirteen : (s : State) (b : Bool) → (by13 s b).entry ≡ Ok tt → b ≡ true
    thirteen s true e = refl
    thirteen s false e = let z : ◌≡◌ {A = ℕ} 0 1 = cc in absurd (omega arith)

    twelve : (W : Version) (o : Option (List Given)) → (question12 W o buffer).entry ≡ Ok tt → long_enough buffer ≡ true
    twelve W none e = let z : ◌≡◌ {A = ℕ} 0 1 = cc in absurd (omega arith)
    twelve W (some xs) e = thirteen _ (long_enough buffer) e

    by19 : Version → Bool → Begun
    by19 W b = elim b [ true ↦ question12 W (arguments (parameter_types W) words) buffer | false ↦ refused 19 0 ]

    nineteen : (W : Version) (b : Bool) → (by19 W b).entry ≡ Ok tt → long_enough buffer ≡ true
    nineteen W true e = twelve W (arguments (parameter_types W) words) e
    nineteen W false e = let z : ◌≡◌ {A = ℕ} 0 1 = cc in absurd (omega arith)

    eleven : (o : Option Version) → (question11 level o words buffer).entry ≡ Ok tt → long_enough buffer ≡ true
    eleven none e = let z : ◌≡◌ {A = ℕ} 0 1 = cc in absurd (omega arith)
    eleven (some W) e = nineteen W (leb W.level (run_level level)) e

-- the code 8 says that a budget is refused, and nothing else does
pub not-8 : (a : Answer) (n : ℕ) → ((q p : ℕ) → a ≡ Answer.Refused q p → ⊥) → eqb (answer_numbers a n).code 8 ≡ false
unfolding answer_numbers answer_with said_numbers end_numbers plain_numbers
not-8 (Answer.Refused q p) n h = absurd (h q p refl)
not-8 Answer.Steps n h = refl
not-8 (Answer.Ended (End.Integer z)) n h = refl
not-8 (Answer.Ended (End.Vector m)) n h = refl
not-8 (Answer.Ended End.Undef) n h = refl
not-8 (Answer.Ended End.Deep) n h = refl
not-8 (Answer.Ended End.Vectors) n h = refl
not-8 (Answer.Ended End.Promises) n h = refl
not-8 Answer.Stuck n h = refl
