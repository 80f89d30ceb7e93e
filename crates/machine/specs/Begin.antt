-- Questions 11, 19, 12 and 13 behind those to the image, and the state of a begun run before its first step.
use Rattle.std.specs.Prelude.{List, [], ◌∷◌, ◌&&◌, true, false, cond, ℕ, zero, suc, ◌-◌, ℤ, pos, negsuc, length, drop, replicate, take, leb, ltb, Err, Ok}
use Rattle.std.proofs.Math.Option.{Option, bind as ◌>>=◌, none, some}
use Rattle.layout.specs.Bounds.{LEVELS}
use Rattle.layout.specs.Records.{records}
use Rattle.program.specs.Program.{Version, Program, program, find_version, parameter_types}
use Rattle.rules.specs.Types.{kind_of, within}
use Rattle.checker.specs.Verdicts.{verdict_of, Verdict}
use Rattle.machine.specs.Values.{RANGE}
use Rattle.machine.specs.States.{ACTIVATIONS, ITEMS, PROMISES, VECTORS, new_frame, new_vector, over}
use Rattle.machine.specs.Calls.{frame_for}
use Rattle.machine.specs.Runs.{long_enough, budget_of_to}
use Rattle.machine.specs.declared.Answer.{Answer}
use Rattle.machine.specs.declared.Begun.{Begun}
use Rattle.machine.specs.declared.Cache.{Cache}
use Rattle.machine.specs.declared.Frame.{Frame}
use Rattle.machine.specs.declared.Opener.{Opener}
use Rattle.machine.specs.declared.Ran.{Ran}
use Rattle.machine.specs.declared.State.{State}
use Rattle.machine.specs.declared.Status.{Status}
use Rattle.machine.specs.declared.Value.{Value}
use Rattle.machine.specs.declared.Vector.{Vector}
use Rattle.machine.specs.Denials.{Grant, denied}

-- ---- 12: arguments

-- 12: an argument, an integer or the items of a vector
pub data Given : Type 0 where
  integer : ℤ → Given
  vector : List ℤ → Given

-- −1 and an integer, or 0..16 and that many integers: the argument, and the words behind it
unfoldable pub first : List ℤ → Option (Given × List ℤ)
first [] = none
first (pos n ∷ ws) = elim (leb n ITEMS && leb n (length ws)) [ true ↦ some (vector (take n ws), drop n ws) | false ↦ none ]
first (negsuc zero ∷ []) = none
first (negsuc zero ∷ z ∷ ws) = some (integer z, ws)
first (negsuc (suc n) ∷ ws) = none

-- the kind of an argument: 2 integer, 3 vector
unfoldable pub given_kind : Given → ℕ
given_kind (integer z) = 2
given_kind (vector xs) = 3

-- an argument matches its parameter's kind; a promise parameter never matches
unfoldable pub matched : ℕ → Given × List ℤ → Option (Given × List ℤ)
matched t p = elim (within (given_kind p.0) (kind_of t)) [ true ↦ some p | false ↦ none ]

-- the arguments for parameters of these types, where the words use up exactly
unfoldable pub arguments : List ℕ → List ℤ → Option (List Given)
arguments [] [] = some []
arguments [] (w ∷ ws) = none
arguments (t ∷ ts) ws = do
  p ← first ws
  q ← matched t p
  xs ← arguments ts q.1
  some (q.0 ∷ xs)

-- ---- the first state

-- vector arguments take the places from n on
unfoldable pub values_of : List Given → ℕ → List Value
values_of [] n = []
values_of (integer z ∷ xs) n = Value.Integer z ∷ values_of xs n
values_of (vector ys ∷ xs) n = Value.Vector n ∷ values_of xs (suc n)

-- the vectors among the arguments, in order
unfoldable pub vectors_of : List Given → List Vector
vectors_of [] = []
vectors_of (integer z ∷ xs) = vectors_of xs
vectors_of (vector ys ∷ xs) = new_vector ys ∷ vectors_of xs

-- these frames' calls at the start of their bodies, and these vectors
unfoldable pub first_state : List Frame → List Vector → State
first_state fs ws = record {
  frames = over fs (replicate ACTIVATIONS (new_frame 0 0));
  calls = length fs;
  activations = replicate ACTIVATIONS (record { opener = Opener.Call; d = 0; frame = 0; block = 0; next = 0 });
  depth = length fs;
  vectors = over ws (replicate VECTORS (new_vector []));
  promises = replicate PROMISES (record { frame = 0; block = 0; cache = Cache.Unforced });
  result = replicate ITEMS (pos 0);
  status = Status.Running;
}

-- ---- the questions 11, 19, 12 and 13, each with offset 0, behind those to the image

-- a refusal; no call is live
unfoldable pub refused : ℕ → ℕ → Begun
refused q p = record { state = first_state [] []; entry = Err (denied q p) }

-- 13: has the result buffer at least 16 places?
unfoldable pub question13 : State → List ℤ → Begun
question13 s buffer = elim (long_enough buffer) [ true ↦ record { state = s; entry = Ok tt } | false ↦ refused 13 0 ]

-- 12: do the argument words use up exactly, each argument matching its parameter's kind? `none` says no
unfoldable pub question12 : Version → Option (List Given) → List ℤ → Begun
question12 W none buffer = refused 12 0
question12 W (some xs) buffer = question13 (first_state (frame_for W (values_of xs 0) ∷ []) (vectors_of xs)) buffer

-- 02, 7: the level of a run that states this one: above 2 it counts as 2
unfoldable pub run_level : ℕ → ℕ
run_level level = cond (ltb level LEVELS) level (LEVELS - 1)

-- 02, 7: 19: is the entry not above the run's level?
unfoldable pub question19 : ℕ → Version → List ℤ → List ℤ → Begun
question19 level W words buffer = elim (leb W.level (run_level level)) [ true ↦ question12 W (arguments (parameter_types W) words) buffer | false ↦ refused 19 0 ]

-- 11: does the entry exist? `none` says no
unfoldable pub question11 : ℕ → Option Version → List ℤ → List ℤ → Begun
question11 level none words buffer = refused 11 0
question11 level (some W) words buffer = question19 level W words buffer

-- a run, at a level, of the version v of the function f of a program
unfoldable pub entered_of : Program → ℕ → ℕ → ℕ → List ℤ → List ℤ → Begun
entered_of P level f v words buffer = question11 level (find_version P f v) words buffer

-- after the questions to its image
unfoldable pub begin_after : Verdict → Program → ℕ → ℕ → ℕ → List ℤ → List ℤ → Begun
begin_after (Err why) P level f v words buffer = refused why.question why.at
begin_after (Ok n) P level f v words buffer = entered_of P level f v words buffer

-- the program of an image
abbrev pub program_of : List ℕ → Program
program_of image = program (records image)

-- Questions put to an image: to begin a run, 11, 19, 12 and 13 after those to its image
unfoldable pub begin_of : List ℕ → ℕ → ℕ → ℕ → List ℤ → List ℤ → Begun
begin_of image level f v words buffer = begin_after (verdict_of image) (program_of image) level f v words buffer

-- ---- from the start

-- a budget given at the start counts as the first; a refusal takes no step
unfoldable pub run_after_to : ℕ → Grant → Program → State → ℕ → List ℤ → Ran
run_after_to R (Err why) P s n buffer = record { state = s; answer = Answer.Refused why.question why.at; steps = 0 }
run_after_to R (Ok _) P s n buffer = budget_of_to R P s n buffer

-- a run from the start: it is begun and gets its first budget
unfoldable pub run_of_to : ℕ → List ℕ → ℕ → ℕ → ℕ → List ℤ → ℕ → List ℤ → Ran
run_of_to R image level f v words n buffer = let b = begin_of image level f v words buffer in run_after_to R b.entry (program_of image) b.state n buffer

-- ---- in the range in force

abbrev pub run_after : Grant → Program → State → ℕ → List ℤ → Ran
run_after e P s n buffer = run_after_to RANGE e P s n buffer

abbrev pub run_of : List ℕ → ℕ → ℕ → ℕ → List ℤ → ℕ → List ℤ → Ran
run_of image level f v words n buffer = run_of_to RANGE image level f v words n buffer
