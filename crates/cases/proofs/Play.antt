-- The tables hold: one test of each by computation, and one fact that gives the statement of each row.
use mathlib.Core.List.Memᴰ
use mathlib.Core.List.{List, Memᴰ, [], ◌∷◌, map}
use mathlib.Core.Logic.{◌⊎◌, inl, inr}
use mathlib.Core.Option.{bind, Option-elim}
use mathlib.Core.Path.{◌≡◌, refl, ap}
use Prim.Native.Nat.{ℕ}
use lib.IntN.{ℤ}
use Rattle.sets.specs.Sets.{empty, only, both, those, inhabited}
use Rattle.layout.specs.Tests.{◌and◌, all, any, count, found, all_from}
use Rattle.layout.specs.Records.{size_of, walk, rest, every, choose}
use Rattle.layout.specs.Scan.{scan}
use Rattle.layout.specs.Forms.{literal_kind, literal_length, record_bytes, printed, other, sign_byte, moved_number, moved_kind, moved_body, moved}
use Rattle.layout.specs.Questions.{question1, question2, plain_length, length_of, question3, version_in_bounds, in_bounds, in_order, due_after, none_due, question4, follows, question5}
use Rattle.program.specs.Program.{number_in, instr_by, put_by, view_by, find_version, first_mark, beside, arguments as pairs_of}
use Rattle.program.specs.Search.{first_line, first_block, first as first_no}
use Rattle.program.specs.Questions.{exists, names_block, namings, block_named}
use Rattle.program.specs.Skips.{ends_after, ends_within, question14}
use Rattle.rules.specs.Types.{kind_of, ownership_of, is_shared, is_owned, is_borrowed, is_integer, is_vector as vector_type, is_promise as promise_type, within, parameter_type, register_type, return_type}
use Rattle.rules.specs.Fits.{fresh, fits_argument, fits_return, fits_call, fits, fits_result}
use Rattle.rules.specs.Effects.{reflective, covered}
use Rattle.rules.specs.Questions.{type_allowed, version_types, types_allowed, stays_down}
use Rattle.rules.specs.Actions.{clash, joined, ◌then◌, promised, emptied as emptied_by, touch, action_of, skip_of, either, join, here as here_in, past, walk as walk_code, enter as enters_block, actions}
use Rattle.rules.specs.Flows.{flows}
use Rattle.checker.specs.Verdicts.{ask, verdict_in}
use Rattle.machine.specs.Try.{◌>>=◌, ◌>>◌, stuck_unless, end_unless, or_stuck, at, put, each}
use Rattle.machine.specs.Values.{ranged_to, is_zero, floored, divided_to, arith_to, index}
use Rattle.machine.specs.States.{over, new_vector, items_of, live_frames, live_activations, register, named, full, an_integer, a_vector, a_promise, no_promise, is_set, value, integer, vector, promise, plain, name, kind_in, is_vector, is_promise, is_force, refers, held, pending, vector_counts, promise_counts, free, free_vector, free_promise, with_stack, with_vector, with_promise, with_end}
use Rattle.machine.specs.States.{with_frame, with_register, with_name, assign, store}
use Rattle.machine.specs.Calls.{opened, passed, skipped, matching, empty_if, emptied, frame_for, enter, same_ownerships, dispatches, lowest, picked, force, closed, done, back, finish}
use Rattle.machine.specs.Steps.{alone, execute_to, here, position, position_of, proceed_to, advance_to}
use Rattle.machine.specs.Runs.{saying, settled, step_in_to, step_of_to, last_step, continued, run_from_to, budget_in_to, long_enough, budget_of_to, written, buffer_of}
use Rattle.machine.specs.Begin.{first, given_kind, matched, arguments, values_of, vectors_of, first_state, refused, question13, question12, run_level, question19, question11, entered_of, begin_after, begin_of, run_after_to, run_of_to}
use Rattle.machine.specs.declared.Answer.{Answer}
use Rattle.cases.specs.Table.{Row, ran, Gives, cases}
use Rattle.cases.specs.Further.{further}
use Rattle.cases.specs.SixtyFour.{sixty_four, MovesBelow, MovesAbove}

-- ---- all rows in one equation

-- an answer, steps and a buffer
pub record Outcome : Type 0 where
  pub answer : Answer
  pub steps : ℕ
  pub after : List ℤ

-- what the run of a row gives
unfoldable pub play : Row → Outcome
play r = let x = ran r in record { answer = x.answer; steps = x.steps; after = buffer_of x r.buffer }

-- what it must give
unfoldable pub expected : Row → Outcome
expected r = record { answer = r.answer; steps = r.steps; after = r.after }

-- every row gives what it must
unfoldable pub Holds : List Row → Type 0
Holds rows = map play rows ≡ map expected rows

-- ---- the test

-- the definitions that a run computes by
rules : Unit {0}
unfolding
    bind Option-elim
    empty only both those inhabited
    ◌and◌ all any count found all_from
    size_of walk rest every choose
    scan
    literal_kind literal_length question1 question2 plain_length length_of question3 version_in_bounds in_bounds in_order due_after none_due question4 follows question5
    number_in instr_by put_by view_by find_version first_mark beside pairs_of
    first_line first_block first_no
    exists names_block namings block_named ends_after ends_within question14
    kind_of ownership_of is_shared is_owned is_borrowed is_integer vector_type promise_type within parameter_type register_type return_type
    fresh fits_argument fits_return fits_call fits fits_result
    reflective covered
    type_allowed version_types types_allowed stays_down
    clash joined ◌then◌ promised emptied_by touch action_of skip_of either join here_in past walk_code enters_block actions
    flows
    ask verdict_in
    ◌>>=◌ ◌>>◌ stuck_unless end_unless or_stuck at put each
    ranged_to is_zero floored divided_to arith_to index
    over new_vector items_of live_frames live_activations register named full an_integer a_vector a_promise no_promise is_set value integer vector promise plain name kind_in is_vector is_promise is_force refers held pending vector_counts promise_counts free free_vector free_promise with_stack with_vector with_promise with_end with_frame with_register with_name assign store
    opened passed skipped matching empty_if emptied frame_for enter same_ownerships dispatches lowest picked force closed done back finish
    alone execute_to here position position_of proceed_to advance_to
    saying settled step_in_to step_of_to last_step continued run_from_to budget_in_to long_enough budget_of_to written buffer_of
    first given_kind matched arguments values_of vectors_of first_state refused question13 question12 run_level question19 question11 entered_of begin_after begin_of run_after_to run_of_to
rules = tt

pub cases-hold : Holds cases
unfolding rules Holds play expected cases
cases-hold = refl

pub further-hold : Holds further
unfolding rules Holds play expected further
further-hold = refl

pub sixty-four-hold : Holds sixty_four
unfolding rules Holds play expected sixty_four
sixty-four-hold = refl

-- literals in both forms
pub moves-below : MovesBelow
unfolding rules MovesBelow record_bytes printed other sign_byte moved_number moved_kind moved_body moved
moves-below = refl

pub moves-above : MovesAbove
unfolding rules MovesAbove record_bytes printed other sign_byte moved_number moved_kind moved_body moved
moves-above = refl

-- ---- each row

-- of a table that holds, each row gives what it says
pub row-holds : (rows : List Row) → Holds rows → (r : Row) → Memᴰ r rows → Gives r
unfolding Holds play expected
row-holds [] h r m = absurd (Memᴰ.not-nil m)
row-holds (x ∷ xs) h r m = go (row-holds xs later r) (Memᴰ.cases_cons m)
  where
    whole : play x ∷ map play xs ≡ expected x ∷ map expected xs
    whole = h

    later : map play xs ≡ map expected xs
    later = cc

    now : play x ≡ expected x
    now = cc

    go : (Memᴰ r xs → Gives r) → (r ≡ x) ⊎ Memᴰ r xs → Gives r
    go ih (inl e) = rw e (ap (λ (o : Outcome). o.answer) now, ap (λ (o : Outcome). o.steps) now, ap (λ (o : Outcome). o.after) now)
    go ih (inr k) = ih k

-- P1 to P11, each by itself
pub case-holds : (r : Row) → Memᴰ r cases → Gives r
case-holds = row-holds cases cases-hold
