-- A run begins with the bound of its entry paid for.
use Rattle.std.specs.Prelude.{Err, Ok}
use mathlib.Core.Path.{◌≡◌, refl, subst}
use mathlib.Core.Logic.{◌⊎◌, inl, inr}
use mathlib.Core.List.{List, [], ◌∷◌}
use mathlib.Core.Option.{Option, none, some}
use mathlib.Core.Bool.{Bool, true, false, false≢true}
use Prim.Native.Nat.{ℕ, zero, suc, ◌<◌}
use native.Mathlib.Omega.{arith}
use lib.IntN.{ℤ}
use lib.Dec.{leb}
use Rattle.layout.specs.Tests.{any}
use Rattle.rules.proofs.Follows.{or-either}
use Rattle.program.specs.Program.{Version, Program, find_version, parameter_types}
use Rattle.checker.specs.Verdicts.{verdict_of, Verdict}
use Rattle.machine.specs.States.{PROMISES, is_promise, refers, held, live_frames, over}
use Rattle.machine.specs.Calls.{frame_for}
use Rattle.machine.specs.Runs.{long_enough}
use Rattle.machine.specs.Begin.{Given, integer, vector, arguments, values_of, vectors_of, first_state, run_level, refused, question11, question12, question13, question19, entered_of, begin_after, begin_of, program_of}
use Rattle.machine.specs.declared.State.{State}
use Rattle.runs.proofs.Lives.{refused-begun}
use Rattle.soundness.proofs.Cells.{frame_at}
use Rattle.soundness.proofs.Invariant.{Sure, version_at, or_none, stack_of}
use Rattle.bounds.specs.Bounds.{steps_at}
use Rattle.bounds.proofs.Trees.{sum_from}
use Rattle.bounds.proofs.Calm.{holds, new-refers}
use Rattle.bounds.proofs.Potential.{owed, Paid}
use Rattle.bounds.proofs.Priced.{Own, Priced}
use Rattle.bounds.proofs.Running.{body-cost}

-- ---- the first state

-- the state of a run of W that has begun
pub record First (W : Version) (s : State) : Type 0 where
  pub given : List Given
  pub is : s ≡ first_state (frame_for W (values_of given 0) ∷ []) (vectors_of given)

first-13 : (W : Version) (s : State) (buffer : List ℤ) → First W s → (question13 s buffer).entry ≡ Ok tt → First W (question13 s buffer).state
unfolding question13 refused
first-13 W s buffer h g = go (long_enough buffer) refl g
  where
    go : (b : Bool) → long_enough buffer ≡ b → (question13 s buffer).entry ≡ Ok tt → First W (question13 s buffer).state
    go true e g = rw (e, question13) h
    go false e g = absurd (refused-begun 13 0 (rw (e, question13) at g))

first-12 : (W : Version) (o : Option (List Given)) (buffer : List ℤ) → (question12 W o buffer).entry ≡ Ok tt → First W (question12 W o buffer).state
unfolding question12 refused
first-12 W none buffer g = absurd (refused-begun 12 0 g)
first-12 W (some xs) buffer g = first-13 W _ buffer (record { given = xs; is = refl }) g

first-19 : (level : ℕ) (W : Version) (words buffer : List ℤ) → (question19 level W words buffer).entry ≡ Ok tt → First W (question19 level W words buffer).state
unfolding question19 refused
first-19 level W words buffer g = go (leb W.level (run_level level)) refl g
  where
    go : (b : Bool) → leb W.level (run_level level) ≡ b → (question19 level W words buffer).entry ≡ Ok tt → First W (question19 level W words buffer).state
    go true e g = rw (e, question19) (first-12 W (arguments (parameter_types W) words) buffer (rw (e, question19) at g))
    go false e g = absurd (refused-begun 19 0 (rw (e, question19) at g))

first-11 : (level : ℕ) (W : Version) (o : Option Version) (words buffer : List ℤ) → o ≡ some W → (question11 level o words buffer).entry ≡ Ok tt → First W (question11 level o words buffer).state
unfolding question11 refused
first-11 level W none words buffer e g = absurd (refused-begun 11 0 g)
first-11 level W (some v) words buffer e g = let q : v ≡ W = cc in subst (λ (x : Version). First x (question19 level v words buffer).state) q (first-19 level v words buffer g)

pub first-state : (image : List ℕ) (level f v : ℕ) (words buffer : List ℤ) (W : Version) → find_version (program_of image) f v ≡ some W → (begin_of image level f v words buffer).entry ≡ Ok tt → First W (begin_of image level f v words buffer).state
unfolding begin_of begin_after refused entered_of
first-state image level f v words buffer W e = go (verdict_of image)
  where
    go : (a : Verdict) → (begin_after a (program_of image) level f v words buffer).entry ≡ Ok tt → First W (begin_after a (program_of image) level f v words buffer).state
    go (Err why) h = absurd (refused-begun why.question why.at h)
    go (Ok n) h = first-11 level W (find_version (program_of image) f v) words buffer e h

-- arguments are no promises
no-promises : (p : ℕ) (xs : List Given) (n : ℕ) → any (is_promise p) (values_of xs n) ≡ true → ⊥
unfolding any values_of is_promise
no-promises p [] n h = false≢true h
no-promises p (integer z ∷ xs) n h = no-promises p xs n h
no-promises p (vector ys ∷ xs) n h = no-promises p xs (suc n) h

-- no promise is referred to
holds-none : (W : Version) (xs : List Given) (p : ℕ) → holds (first_state (frame_for W (values_of xs 0) ∷ []) (vectors_of xs)) p ≡ true → ⊥
unfolding held live_frames first_state over any
holds-none W xs p h = go (or-either _ false h)
  where
    go : (refers (is_promise p) (frame_for W (values_of xs 0)) ≡ true) ⊎ (false ≡ true) → ⊥
    go (inl e) = new-refers p ⊥ W (values_of xs 0) (no-promises p xs 0) e
    go (inr e) = false≢true e

-- nothing is set aside
sum-nothing : (k n : ℕ) → sum_from (λ p. 0) k n ≡ 0
unfolding sum_from
sum-nothing k zero = refl
sum-nothing k (suc n) = omega (arith, sum-nothing (suc k) n)

module _ (P : Program) (sure : Sure P) (bound : Version → ℕ) (G : Version → Bool) (agree : Priced P bound G) where
  first-paid : (W : Version) → Own P W → G W ≡ true → (xs : List Given) → Paid P (steps_at P bound) G (first_state (frame_for W (values_of xs 0) ∷ []) (vectors_of xs)) (bound W)
  unfolding first_state over version_at frame_at frame_for or_none owed stack_of
  first-paid W o g xs = record {
    purse = λ p. 0;
    backed = λ p h. absurd (holds-none W xs p h);
    enough = rw o (omega (arith, sum-nothing 0 PROMISES, body-cost P sure bound G agree W o g));
    priced = λ k l. priced k l;
  }
    where
      priced : (k : ℕ) → k < 1 → G (version_at P (first_state (frame_for W (values_of xs 0) ∷ []) (vectors_of xs)).frames k) ≡ true
      priced zero l = rw o g
      priced (suc k) l = absurd (omega arith)

  -- THE LAW: as the run begins
  pub begun-paid : (s : State) (W : Version) → Own P W → G W ≡ true → First W s → Paid P (steps_at P bound) G s (bound W)
  begun-paid s W o g h = rw h.is (first-paid W o g h.given)
