-- The topmost call by the bytes that tell it, and how many records it has.
use Rattle.std.specs.Prelude.{None, Some, Option as Optional, Err, Ok, Result}
use mathlib.Core.Path.{◌≡◌, refl, sym, ap, ◌∙◌}
use Rattle.loaded.specs.Answers.{Number}
use mathlib.Core.Bool.{Bool, true, false}
use mathlib.Core.List.{List, []}
use mathlib.Core.Option.{none, some}
use Prim.Native.Nat.{ℕ, ◌+◌, ◌-◌, ◌*◌, ◌<◌, ◌≤◌, min}
use native.Mathlib.Omega.{arith}
use lib.IntN.{ℤ}
use lib.ListN.{length, length-take, take}
use lib.Dec.{leb}
use borrow.Author.Tests.{le-leb, leb-true, lt-leb}
use Rattle.layout.specs.Bounds.{REGISTERS}
use Rattle.layout.specs.Records.{◌!◌}
use Rattle.layout.proofs.Lists.{none-taken, take_none}
use Rattle.program.specs.Program.{Program, find_version}
use Rattle.machine.specs.States.{live_frames}
use Rattle.machine.specs.Watches.{newest, rows_at, rows_of, watch_of, watched_of}
use Rattle.machine.specs.declared.Row.{Row}
use Rattle.machine.specs.declared.State.{State}
use Rattle.machine.specs.Try.{at}
use Rattle.machine.proofs.Tries.{or-stuck}
use Rattle.runs.proofs.Watches.{rows-length}
use Rattle.store.specs.Lists.{up_to}
use Rattle.store.specs.Store.{CALLS, frame_in, state_in}
use Rattle.store.proofs.Frames.{frame-live}
use Rattle.store.proofs.Lists.{missing-up_to}
use Rattle.loaded.specs.Answers.{version_of}
use Rattle.loaded.specs.Loaded.{program_in, version_in}
use Rattle.watches.specs.Rows.{Tops, filled_by}
use Rattle.watches.specs.declared.Top.{Top}
use Rattle.machine.specs.declared.Denial.{Denial}
use Rattle.machine.specs.Denials.{denied}

-- ---- the newest frame

module _ (b : List ℕ) (n : List ℤ) where
  no-frame : b ! CALLS ≡ 0 → newest (state_in b n) ≡ none
  unfolding live_frames state_in
  no-frame h = take_none (up_to (frame_in b n) 0 32) (b ! CALLS) (b ! CALLS - 1) (omega (arith, h))

  far-frame : 32 < b ! CALLS → newest (state_in b n) ≡ none
  unfolding live_frames state_in
  far-frame h = none-taken (up_to (frame_in b n) 0 32) (b ! CALLS) (b ! CALLS - 1) (missing-up_to (frame_in b n) 32 (b ! CALLS - 1) (omega (arith, h)))

  newest-frame : 0 < b ! CALLS → b ! CALLS ≤ 32 → newest (state_in b n) ≡ some (frame_in b n (b ! CALLS - 1))
  unfolding at state_in
  newest-frame l m = or-stuck _ (frame_in b n (b ! CALLS - 1)) (frame-live b n (b ! CALLS - 1) (omega (arith, l, m), omega (arith, l)))

-- ---- the topmost call

module _ (t b : List ℕ) {c : ℕ} (z : c ≡ b ! CALLS) where
  pub no_call : c ≡ 0 → Tops None t b
  unfolding Tops watch_of rows_at
  no_call h s n = ap (rows_at (program_in s t) (state_in b n)) (no-frame b n (sym z ∙ h))

  pub far_call : 32 < c → Tops None t b
  unfolding Tops watch_of rows_at
  far_call h s n = ap (rows_at (program_in s t) (state_in b n)) (far-frame b n (omega (arith, z, h)))

  module _ (l : c ≡ 0 → ⊥) (m : c ≤ 32) (r : Number) (v : (s : List ℕ) → version_of s t r ≡ find_version (program_in s t) (b ! (32 * (c - 1) + 24)) (b ! (32 * (c - 1) + 25))) where
    top_frame : (n : List ℤ) → newest (state_in b n) ≡ some (frame_in b n (c - 1))
    top_frame n = newest-frame b n (omega (arith, z, l)) (omega (arith, z, m)) ∙ ap (λ (k : ℕ). some (frame_in b n (k - 1))) (sym z)

    by-version : (s : List ℕ) (n : List ℤ) → watch_of (program_in s t) (state_in b n) ≡ rows_of (program_in s t) (state_in b n) (frame_in b n (c - 1)) (version_of s t r)
    unfolding watch_of rows_at frame_in
    by-version s n = ap (rows_at (program_in s t) (state_in b n)) (top_frame n) ∙ ap (rows_of (program_in s t) (state_in b n) (frame_in b n (c - 1))) (sym (v s))

    pub no-version : r ≡ None → Tops None t b
    unfolding Tops rows_of version_of
    no-version e s n = by-version s n ∙ ap (λ x. rows_of (program_in s t) (state_in b n) (frame_in b n (c - 1)) (version_of s t x)) e

    pub top-call : {own : ℕ} → r ≡ Some own → Tops (Some (record { frame = c - 1; own = own })) t b
    unfolding Tops rows_of version_of
    top-call e = (omega (arith, l, m), λ s n. by-version s n ∙ ap (λ x. rows_of (program_in s t) (state_in b n) (frame_in b n (c - 1)) (version_of s t x)) e)

-- ---- how many records

module _ (s t b : List ℕ) {r : Optional Top} (T : Tops r t b) where
  pub none-counted : r ≡ None → (n : List ℤ) → 0 ≡ length (watch_of (program_in s t) (state_in b n))
  unfolding Tops
  none-counted e n = let M = rw e at T in sym (ap (λ (l : List Row). length l) (M s n))

  pub all-counted : {top : Top} {x y : ℕ} → r ≡ Some top → x ≡ length (version_in s t top.own).types → y ≡ min REGISTERS x → (n : List ℤ) → y ≡ length (watch_of (program_in s t) (state_in b n))
  unfolding Tops
  all-counted {top} e g h n =
      let M = rw e at T in
      h ∙ ap (λ (i : ℕ). min REGISTERS i) g ∙ sym (ap (λ (l : List Row). length l) (M.1 s n) ∙ rows-length (program_in s t) (state_in b n) (frame_in b n top.frame) 0 (take REGISTERS (version_in s t top.own).types) ∙ length-take REGISTERS (version_in s t top.own).types)

module _ (P : Program) (u : State) (n : ℕ) {k : ℕ} (e : k ≡ length (watch_of P u)) where
  pub enough : {w : ℕ} → w ≡ k → w ≤ n → Ok k ≡ watched_of P u n
  unfolding watched_of
  enough q h = ap Ok e ∙ rw (watched_of, le-leb (length (watch_of P u)) n (omega (arith, e, q, h))) refl

  pub too_short : {w : ℕ} → w ≡ k → n < w → Err (denied 22 0) ≡ watched_of P u n
  unfolding watched_of
  too_short q h = rw (watched_of, lt-leb (length (watch_of P u)) n (omega (arith, e, q, h))) refl

-- no more than the list has
pub fills-inside : (P : Program) (u : State) (n : ℕ) → filled_by (watched_of P u n) ≤ n
unfolding filled_by watched_of
fills-inside P u n = go (leb (length (watch_of P u)) n) refl
  where
    go : (x : Bool) → leb (length (watch_of P u)) n ≡ x → filled_by (elim x [ true ↦ Ok (length (watch_of P u)) | false ↦ Err (denied 22 0) ]) ≤ n
    go true e = leb-true (length (watch_of P u)) n e
    go false e = omega arith

-- how many are written, by the answer
module _ (s t b : List ℕ) (n : ℕ) {w : Result ℕ Denial} (a : (m : List ℤ) → w ≡ watched_of (program_in s t) (state_in b m) n) where
  inside : filled_by w ≤ n
  inside = let h = fills-inside (program_in s t) (state_in b []) n in omega (arith, h, ap filled_by (a []))

  pub some_written : {k r : ℕ} → w ≡ Ok k → r ≡ k → ((m : List ℤ) → r ≡ filled_by (watched_of (program_in s t) (state_in b m) n)) × (r ≤ n)
  unfolding filled_by
  some_written e q = (λ m. q ∙ ap filled_by (sym e ∙ a m), omega (arith, inside, q, ap filled_by e))

  pub none_written : {q o : ℕ} → w ≡ Err (denied q o) → ((m : List ℤ) → 0 ≡ filled_by (watched_of (program_in s t) (state_in b m) n)) × (0 ≤ n)
  unfolding filled_by
  none_written e = (λ m. ap filled_by (sym e ∙ a m), omega arith)
