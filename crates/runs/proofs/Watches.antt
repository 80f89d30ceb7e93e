-- 02, request 11: watching the topmost call fills the first records of the lent list and leaves the others.
use Rattle.std.specs.Prelude.{Err, Ok, Result}
use mathlib.Core.Path.{◌≡◌, refl, ap, ◌∙◌}
use mathlib.Core.List.{List, [], ◌∷◌}
use mathlib.Core.Option.{Option, none, some}
use mathlib.Core.Bool.{Bool, true, false}
use Prim.Native.Nat.{ℕ, zero, suc, ◌+◌, ◌-◌, ◌≤◌, ◌<◌}
use native.Mathlib.Nat.{add-zero}
use native.Mathlib.Omega.{arith}
use lib.ListN.{length, get_elem?, length-take, take}
use lib.Dec.{leb}
use borrow.Author.Tests.{leb-true, leb-false, le-leb, lt-leb}
use Rattle.layout.specs.Bounds.{REGISTERS}
use Rattle.program.specs.Program.{Version, Program, find_version}
use Rattle.machine.specs.States.{live_frames, over, register}
use Rattle.machine.specs.Watches.{row_of, or_empty, rows_from, rows_of, rows_at, newest, watch_of, watched_of, rows_after}
use Rattle.machine.specs.declared.Frame.{Frame}
use Rattle.machine.specs.declared.Row.{Row}
use Rattle.machine.specs.declared.State.{State}
use Rattle.machine.proofs.Overlays.{length_over, over-in, over-past}
use Rattle.runs.specs.Watches.{Fills, Watching}
use Rattle.machine.specs.declared.Denial.{Denial}
use Rattle.machine.specs.Denials.{denied}

-- ---- the records

pub rows-length : (P : Program) (s : State) (f : Frame) (r : ℕ) (ts : List ℕ) → length (rows_from P s f r ts) ≡ length ts
unfolding rows_from
rows-length P s f r [] = refl
rows-length P s f r (t ∷ ts) = ap suc (rows-length P s f (r + 1) ts)

pub rows-at : (P : Program) (s : State) (f : Frame) (r : ℕ) (ts : List ℕ) (k t : ℕ) → get_elem? ts k ≡ some t → get_elem? (rows_from P s f r ts) k ≡ some (row_of P s t (or_empty (register f (r + k))))
unfolding rows_from
rows-at P s f r [] k t h = let z : ◌≡◌ {A = ℕ} 0 1 = cc in absurd (omega arith)
rows-at P s f r (x ∷ ts) zero t h = let e : x ≡ t = cc in rw (e, add-zero r) refl
rows-at P s f r (x ∷ ts) (suc k) t h = let e : r + 1 + k ≡ r + suc k = omega arith in rows-at P s f (r + 1) ts k t h ∙ ap (λ (i : ℕ). some (row_of P s t (or_empty (register f i)))) e

of-most : (P : Program) (s : State) (f : Frame) (o : Option Version) → length (rows_of P s f o) ≤ REGISTERS
unfolding rows_of
of-most P s f none = omega arith
of-most P s f (some W) = omega (arith, rows-length P s f 0 (take REGISTERS W.types), length-take REGISTERS W.types)

at-most : (P : Program) (s : State) (o : Option Frame) → length (rows_at P s o) ≤ REGISTERS
unfolding rows_at
at-most P s none = omega arith
at-most P s (some f) = of-most P s f (find_version P f.function f.version)

-- with no live call there is no newest frame
pub no_call : (P : Program) (s : State) → s.calls ≡ 0 → watch_of P s ≡ []
unfolding watch_of rows_at live_frames
no_call P s h = ap (rows_at P s) (ap (λ (n : ℕ). get_elem? (take n s.frames) (s.calls - 1)) h)

-- ---- the lent list

module _ (P : Program) (s : State) (rows : List Row) where
  is-filled : length (watch_of P s) ≤ length rows → (watched_of P s (length rows) ≡ Ok (length (watch_of P s))) × (rows_after P s rows ≡ over (watch_of P s) rows)
  unfolding watched_of rows_after
  is-filled h = let e = le-leb (length (watch_of P s)) (length rows) h in (ap answer e, ap list e)
    where
      answer : Bool → Result ℕ Denial
      answer b = elim b [ true ↦ Ok (length (watch_of P s)) | false ↦ Err (denied 22 0) ]

      list : Bool → List Row
      list b = elim b [ true ↦ over (watch_of P s) rows | false ↦ rows ]

  is-short : length rows < length (watch_of P s) → (watched_of P s (length rows) ≡ Err (denied 22 0)) × (rows_after P s rows ≡ rows)
  unfolding watched_of rows_after
  is-short h = let e = lt-leb (length (watch_of P s)) (length rows) h in (ap answer e, ap list e)
    where
      answer : Bool → Result ℕ Denial
      answer b = elim b [ true ↦ Ok (length (watch_of P s)) | false ↦ Err (denied 22 0) ]

      list : Bool → List Row
      list b = elim b [ true ↦ over (watch_of P s) rows | false ↦ rows ]

  -- long enough or not
  either : (X : Type 0) → (length (watch_of P s) ≤ length rows → X) → (length rows < length (watch_of P s) → X) → X
  either X f g = go (leb (length (watch_of P s)) (length rows)) refl
    where
      go : (b : Bool) → leb (length (watch_of P s)) (length rows) ≡ b → X
      go true e = f (leb-true (length (watch_of P s)) (length rows) e)
      go false e = g (leb-false (length (watch_of P s)) (length rows) e)

  nothing : s.calls ≡ 0 → (watched_of P s (length rows) ≡ Ok 0) × (rows_after P s rows ≡ rows)
  unfolding over
  nothing h =
      let e = no_call P s h in
      let n : length (watch_of P s) ≡ 0 = ap (λ (l : List Row). length l) e in
      let t = is-filled (omega (arith, n)) in
      (t.0 ∙ ap Ok n, t.1 ∙ ap (λ (l : List Row). over l rows) e)

  fills : Fills P s rows
  unfolding watch_of
  fills = record {
    most = at-most P s (newest s);
    long = either _ (λ h. ap (λ (l : List Row). length l) (is-filled h).1 ∙ length_over (watch_of P s) rows) (λ h. ap (λ (l : List Row). length l) (is-short h).1);
    none = nothing;
    filled = λ h. ((is-filled h).0, λ k l. ap (λ (x : List Row). get_elem? x k) (is-filled h).1 ∙ over-in (watch_of P s) rows k h l);
    past = λ k l. either _ (λ h. ap (λ (x : List Row). get_elem? x k) (is-filled h).1 ∙ over-past (watch_of P s) rows k l) (λ h. ap (λ (x : List Row). get_elem? x k) (is-short h).1);
    short = is-short;
  }

-- THE LAW: in every state of every program
pub watching : Watching
unfolding Watching
watching P s rows = fills P s rows
