-- A change that is taken: the live versions are alike in both programs, so these agree on the live frames.
use Rattle.std.specs.Prelude.{None, Some, Err, Ok}
use mathlib.Core.Path.{◌≡◌, refl, sym, ap, ◌∙◌, subst}
use Rattle.layout.specs.Found.{Found}
use mathlib.Core.List.{List, [], ◌∷◌}
use mathlib.Core.Option.{Option, none, some}
use mathlib.Core.Bool.{Bool, true, false, cond, not, ◌||◌, false≢true}
use Prim.Native.Nat.{ℕ, ◌≤◌, ◌<◌}
use native.Mathlib.Omega.{arith}
use lib.ListN.{length, get_elem?}
use lib.Dec.{eqb}
use borrow.Author.Tests.{eqb-true, eq-eqb}
use Rattle.layout.specs.Tests.{◌and◌, found}
use Rattle.layout.proofs.Bools.{and_both}
use Rattle.program.specs.Program.{Version, find_version}
use Rattle.program.specs.Search.{first}
use Rattle.program.proofs.Held.{holds, find-numbers}
use Rattle.checker.specs.Verdicts.{verdict_of, Verdict}
use Rattle.checker.proofs.Accepted as accepted
use Rattle.machine.specs.States.{ACTIVATIONS, live_frames}
use Rattle.machine.specs.Begin.{program_of}
use Rattle.machine.specs.declared.Frame.{Frame}
use Rattle.machine.specs.declared.State.{State}
use Rattle.runs.proofs.Lists.{any_at, all-at}
use Rattle.soundness.specs.Claim.{Live}
use Rattle.soundness.proofs.Cells.{Sized, no_frame, frame_at}
use Rattle.layout.proofs.Lists.{get_take, get-some}
use Rattle.soundness.proofs.Invariant.{or_none, version_at, Inv}
use Rattle.runs.specs.Alike.{bare, Alike}
use Rattle.machine.specs.Changes.{bytes_of, same_bytes, is_live, same_in, question15, all_there, missing, answer15, changed_by, change_after, change_of}
use Rattle.soundness.proofs.Bytes.{Own, own}
use Rattle.soundness.proofs.Transfer.{Agree}
use Rattle.machine.specs.Denials.{denied, Grant}

-- versions whose bytes are the same are alike
own-alike : (v w : Version) (b : List ℕ) → Own v b → Own w b → Alike v w
unfolding Alike
own-alike v w b x y =
    let e : x.version ∷ [] ≡ y.version ∷ [] = sym x.only ∙ y.only in
    let h : x.version ≡ y.version = cc in
    x.alike ∙ ap bare h ∙ sym y.alike

-- ---- what question 15 found

same_bytes_lem : (xs ys : List ℕ) → same_bytes xs ys ≡ true → xs ≡ ys
unfolding same_bytes
same_bytes_lem [] [] h = refl
same_bytes_lem [] (y ∷ ys) h = absurd (false≢true h)
same_bytes_lem (x ∷ xs) [] h = absurd (false≢true h)
same_bytes_lem (x ∷ xs) (y ∷ ys) h = let t = and_both (eqb x y) (same_bytes xs ys) h in let p = eqb-true x y t.0 in let q = same_bytes_lem xs ys t.1 in rw (p, q) refl

found_some : {A : Type 0} (o : Option A) (p : A → Bool) → found o p ≡ true → (x : A) × (o ≡ some x) × (p x ≡ true)
unfolding found
found_some none p h = absurd (false≢true h)
found_some (some x) p h = (x, refl, h)

not_live : (a b : Bool) → (not a || b) ≡ true → a ≡ true → b ≡ true
not_live a b h e = rw e at h

-- a live version of the new image has its bytes in the old one too
stays-both : (old new : List ℕ) (s : State) (f w : ℕ) (x : Version) → is_live s f w ≡ true → find_version (program_of new) f w ≡ some x → first (question15 old new s) (program_of new) ≡ None → (b : List ℕ) × (bytes_of old f w ≡ some b) × (bytes_of new f w ≡ some b)
unfolding same_in
stays-both old new s f w x live e h =
    let n = find-numbers (program_of new) f w x e in
    let q : (not (is_live s f w) || same_in old new f w) ≡ true = rw (n.0, n.1) at (holds (question15 old new s) (program_of new) h f w x e).of_version in
    let y = found_some (bytes_of old f w) (λ (b : List ℕ). found (bytes_of new f w) (same_bytes b)) (not_live (is_live s f w) (same_in old new f w) q live) in
    let z = found_some (bytes_of new f w) (same_bytes y.0) y.2 in
    (y.0, y.1, z.1 ∙ ap some (sym (same_bytes_lem y.0 z.0 z.2)))

-- what a change that is taken has passed
pub record Passed (old new : List ℕ) (s : State) : Type 0 where
  pub versions : ℕ
  pub verdict : verdict_of new ≡ Ok versions
  pub changed : first (question15 old new s) (program_of new) ≡ None
  pub there : all_there (program_of new) s ≡ true

pub taken-passed : (old new : List ℕ) (s : State) → change_of old new s ≡ Ok tt → Passed old new s
unfolding change_of change_after changed_by answer15 missing
taken-passed old new s h = verdicts (verdict_of new) refl h
  where
    refused-taken : (q p : ℕ) → ◌≡◌ {A = Grant} (Err (denied q p)) (Ok tt) → ⊥
    refused-taken q p e = let z : ◌≡◌ {A = ℕ} 0 1 = cc in omega arith

    there_is : (n : ℕ) → verdict_of new ≡ Ok n → first (question15 old new s) (program_of new) ≡ None → (b : Bool) → all_there (program_of new) s ≡ b → changed_by (cond b None (Some (length new))) ≡ Ok tt → Passed old new s
    there_is n v c true e g = record { versions = n; verdict = v; changed = c; there = e }
    there_is n v c false e g = absurd (refused-taken 15 (length new) g)

    changes : (n : ℕ) → verdict_of new ≡ Ok n → (c : Found) → first (question15 old new s) (program_of new) ≡ c → changed_by (missing new s c) ≡ Ok tt → Passed old new s
    changes n v None e g = there_is n v e (all_there (program_of new) s) refl g
    changes n v (Some p) e g = absurd (refused-taken 15 p g)

    verdicts : (a : Verdict) → verdict_of new ≡ a → change_after a old new s ≡ Ok tt → Passed old new s
    verdicts (Err why) e g = absurd (refused-taken why.question why.at g)
    verdicts (Ok n) e g = changes n e (first (question15 old new s) (program_of new)) refl g

-- ---- the live versions are alike

pub frame-live : (s : State) → Sized s.frames → s.calls ≤ ACTIVATIONS → (k : ℕ) → k < s.calls → get_elem? (live_frames s) k ≡ some (frame_at s.frames k)
unfolding live_frames frame_at
frame-live s sz b k h = get_take s.frames s.calls k h ∙ get-some s.frames k no_frame (omega (arith, sz.frames))

eqb_same : (n : ℕ) → eqb n n ≡ true
eqb_same n = eq-eqb n n refl

module _ (old new : List ℕ) (n : ℕ) (was : verdict_of old ≡ Ok n) (s : State) (ok : Passed old new s) where
  -- a live call's version is in both, alike
  pub live_alike : (k : ℕ) (g : Frame) (v : Version) → Live s k g → find_version (program_of old) g.function g.version ≡ some v
      → (w : Version) × (find_version (program_of new) g.function g.version ≡ some w) × Alike v w
  unfolding is_live all_there ◌and◌
  live_alike k g v l e =
      let t = found_some (find_version (program_of new) g.function g.version) (λ (x : Version). true) (all-at (λ (x : Frame). found (find_version (program_of new) x.function x.version) (λ (y : Version). true)) (live_frames s) ok.there k g l) in
      let live : is_live s g.function g.version ≡ true = any_at (λ (x : Frame). eqb x.function g.function and eqb x.version g.version) (live_frames s) k g l (rw (eqb_same g.function, eqb_same g.version) refl) in
      let b = stays-both old new s g.function g.version t.0 live t.1 ok.changed in
      let x = own old g.function g.version v b.0 (accepted.passed old n was).q2 e b.1 in
      let y = own new g.function g.version t.0 b.0 (accepted.passed new ok.versions ok.verdict).q2 t.1 b.2 in
      (t.0, t.1, own-alike v t.0 b.0 x y)

  -- so the programs agree on the live frames of a state with the invariant
  pub agrees : Inv (program_of old) s → Agree (program_of old) (program_of new) s.frames s.calls
  unfolding version_at or_none
  agrees inv = record { found = λ k h. at-found k h; alike = λ k h. at-alike k h }
    where
      g : ℕ → Frame
      g k = frame_at s.frames k

      t : (k : ℕ) → k < s.calls → (w : Version) × (find_version (program_of new) (g k).function (g k).version ≡ some w) × Alike (version_at (program_of old) s.frames k) w
      t k h = live_alike k (g k) (version_at (program_of old) s.frames k) (frame-live s inv.heap.sized inv.heap.bound k h) (inv.heap.known k h)

      is : (k : ℕ) (h : k < s.calls) → version_at (program_of new) s.frames k ≡ (t k h).0
      is k h = ap or_none (t k h).1

      at-found : (k : ℕ) → k < s.calls → find_version (program_of new) (g k).function (g k).version ≡ some (version_at (program_of new) s.frames k)
      at-found k h = (t k h).1 ∙ ap some (sym (is k h))

      at-alike : (k : ℕ) → k < s.calls → Alike (version_at (program_of old) s.frames k) (version_at (program_of new) s.frames k)
      at-alike k h = subst (Alike (version_at (program_of old) s.frames k)) (sym (is k h)) (t k h).2
