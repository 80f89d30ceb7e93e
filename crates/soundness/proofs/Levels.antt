-- Levels of staff: no call is ever above the run's level, and a run begun at one level is the same at each higher one.
use Rattle.std.specs.Prelude.{Err, Ok}
use mathlib.Core.Path.{◌≡◌, refl, sym, ap, ap₂, ◌∙◌}
use mathlib.Core.List.{List}
use mathlib.Core.Option.{Option, none, some}
use Prim.Native.Nat.{ℕ, ◌≤◌}
use native.Mathlib.Omega.{arith}
use lib.IntN.{ℤ}
use lib.ListN.{get_elem?}
use Rattle.program.specs.Program.{Version, find_version}
use Rattle.checker.specs.Verdicts.{verdict_of, Verdict}
use Rattle.checker.proofs.Accepted.{passed}
use Rattle.machine.specs.Begin.{run_level, refused, begin_after, begin_of, program_of, run_after, run_of_to}
use Rattle.machine.specs.Changes.{change_of}
use Rattle.machine.specs.Events.{Run, program_in, in_state, replies}
use Rattle.machine.specs.Runs.{step_of}
use Rattle.machine.specs.States.{live_frames}
use Rattle.machine.specs.declared.Begun.{Begun}
use Rattle.machine.specs.declared.Frame.{Frame}
use Rattle.machine.specs.declared.State.{State}
use Rattle.runs.specs.Alike.{Alike}
use Rattle.runs.specs.Levels.{NoneAbove}
use Rattle.runs.specs.Lives.{numbers, call_at}
use Rattle.runs.proofs.Always.{after-keeps, history-keeps}
use Rattle.runs.proofs.Levels.{some_pair, step-low, entered-low, entered-above}
use Rattle.runs.proofs.Lives.{refused-begun}
use Rattle.soundness.specs.Claim.{Live, begun}
use Rattle.soundness.specs.Levels.{AtOrBelow, NeverAbove, SameAbove, SameResult, SameReplies}
use Rattle.soundness.proofs.Histories.{Sound, sound-step, sound-taken, begun-sound}
use Rattle.soundness.proofs.Taken.{taken-passed, live_alike}

-- ---- a change that is taken

-- versions that are alike have the same level
same-level : (v w : Version) → Alike v w → v.level ≡ w.level
unfolding Alike
same-level v w e = ap (λ (u : Version). u.level) e

-- the frame of a live call
pub live_of : (s : State) (k f w : ℕ) → call_at s k ≡ some (f, w) → (g : Frame) × Live s k g × (g.function ≡ f) × (g.version ≡ w)
unfolding call_at numbers
live_of s k f w e = go (get_elem? (live_frames s) k) refl e
  where
    go : (o : Option Frame) → get_elem? (live_frames s) k ≡ o → numbers o ≡ some (f, w) → (g : Frame) × Live s k g × (g.function ≡ f) × (g.version ≡ w)
    go none l h = let z : ◌≡◌ {A = ℕ} 0 1 = cc in absurd (omega arith)
    go (some g) l h = (g, l, (some_pair h).0, (some_pair h).1)

-- a run of an accepted image without a call above the level
pub record Low (level : ℕ) (r : Run) : Type 0 where
  pub sound : Sound r
  pub low : AtOrBelow level r

module _ (level : ℕ) where
  pub low_step : (r : Run) → Low level r → Low level (in_state r (step_of (program_in r) r.state).state)
  low_step r o = record {
    sound = sound-step r o.sound;
    low = step-low (program_in r) (run_level level) (passed r.image o.sound.versions o.sound.verdict).q18 r.state o.low;
  }

  -- the live versions are alike in both images, so their levels are
  pub low-taken : (new : List ℕ) (r : Run) → Low level r → change_of r.image new r.state ≡ Ok tt → Low level (record { image = new; state = r.state })
  unfolding NoneAbove
  low-taken new r o e = record { sound = sound-taken new r o.sound e; low = λ k f w c. at k f w c (live_of r.state k f w c) }
    where
      at : (k f w : ℕ) → call_at r.state k ≡ some (f, w) → (g : Frame) × Live r.state k g × (g.function ≡ f) × (g.version ≡ w) → (W : Version) × (find_version (program_of new) f w ≡ some W) × (W.level ≤ run_level level)
      at k f w c (g, l, a, b) =
          let was = o.low k f w c in
          let known : find_version (program_in r) g.function g.version ≡ some was.0 = ap₂ (find_version (program_in r)) a b ∙ was.1 in
          let t = live_alike r.image new o.sound.versions o.sound.verdict r.state (taken-passed r.image new r.state e) k g was.0 l known in
          let found : find_version (program_of new) f w ≡ some t.0 = ap₂ (find_version (program_of new)) (sym a) (sym b) ∙ t.1 in
          (t.0, found, omega (arith, was.2, same-level was.0 t.0 t.2))

-- ---- the claims

pub begun-low : (image : List ℕ) (level f v : ℕ) (words buffer : List ℤ) → (begin_of image level f v words buffer).entry ≡ Ok tt → AtOrBelow level (begun image level f v words buffer)
unfolding begin_of begin_after refused
begun-low image level f v words buffer e = go (verdict_of image) e
  where
    go : (a : Verdict) → (begin_after a (program_of image) level f v words buffer).entry ≡ Ok tt → NoneAbove (program_of image) (run_level level) (begin_after a (program_of image) level f v words buffer).state
    go (Err why) g = absurd (refused-begun why.question why.at g)
    go (Ok n) g = entered-low (program_of image) level f v words buffer g

-- THE LAW: no version above the run's level is ever entered
pub never-above : NeverAbove
unfolding NeverAbove
never-above image level f v words buffer e events =
    let r = begun image level f v words buffer in
    let o : Low level r = record { sound = begun-sound image level f v words buffer e; low = begun-low image level f v words buffer e } in
    ((after-keeps (Low level) (low_step level) (low-taken level) events r o).low, λ b m. (history-keeps (Low level) (low_step level) (low-taken level) events r o b m).low)

-- THE LAW: a run begun at one level is begun in the same state at each higher one
pub same_above : SameAbove
unfolding SameAbove begin_of begin_after refused
same_above image l m f v words buffer h e = go (verdict_of image) e
  where
    go : (a : Verdict) → (begin_after a (program_of image) l f v words buffer).entry ≡ Ok tt → begin_after a (program_of image) m f v words buffer ≡ begin_after a (program_of image) l f v words buffer
    go (Err why) g = refl
    go (Ok n) g = entered-above (program_of image) l m f v words buffer h g

-- THE LAW: and has the same result
pub same-result : SameResult
unfolding SameResult SameAbove run_of_to
same-result image l m f v words buffer n h e =
    let b : begin_of image m f v words buffer ≡ begin_of image l f v words buffer = same_above image l m f v words buffer h e in
    ap (λ (x : Begun). run_after x.entry (program_of image) x.state n buffer) b

-- THE LAW: and the same replies
pub same-replies : SameReplies
unfolding SameReplies SameAbove
same-replies image l m f v words buffer h e events =
    let b : begin_of image m f v words buffer ≡ begin_of image l f v words buffer = same_above image l m f v words buffer h e in
    ap (λ (x : Begun). replies events (record { image = image; state = x.state })) b
