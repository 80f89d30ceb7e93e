-- The lent list with its first records written, for `fill`.
use Rattle.std.specs.Prelude.{Err, Ok}
use mathlib.Core.Path.{◌≡◌, refl, ap, ◌∙◌}
use mathlib.Core.Bool.{Bool, true, false}
use mathlib.Core.List.{List}
use Prim.Native.Nat.{ℕ, ◌+◌, ◌<◌, ◌≤◌}
use native.Mathlib.Numerals.{add-one}
use native.Mathlib.Omega.{arith}
use lib.Dec.{leb}
use lib.ListN.{length, set, take}
use lib.Seq.{take-length}
use Rattle.program.specs.Program.{Program}
use Rattle.machine.specs.States.{over}
use Rattle.machine.specs.Watches.{rows_after, watch_of, watched_of}
use Rattle.machine.specs.declared.Row.{Row}
use Rattle.machine.specs.declared.State.{State}
use Rattle.machine.proofs.Overlays.{over-next}
use Rattle.watches.specs.Rows.{filled_by, row_at}
use Rattle.machine.specs.Denials.{denied}

module _ (P : Program) (u : State) (rows : List Row) where
  -- with its first i records written
  abbrev pub written : ℕ → List Row
  written i = over (take i (watch_of P u)) rows

  -- how many are to be written
  abbrev due : ℕ
  due = filled_by (watched_of P u (length rows))

  -- by whether the list is long enough
  either : (X : ℕ → List Row → Type 0) → X (length (watch_of P u)) (over (watch_of P u) rows) → X 0 rows → X due (rows_after P u rows)
  unfolding filled_by watched_of rows_after
  either X f g = go (leb (length (watch_of P u)) (length rows))
    where
      go : (x : Bool) → X (filled_by (elim x [ true ↦ Ok (length (watch_of P u)) | false ↦ Err (denied 22 0) ])) (elim x [ true ↦ over (watch_of P u) rows | false ↦ rows ])
      go true = f
      go false = g

  -- one record more
  pub next-written : (i k : ℕ) → i < k → k ≡ due → {r : Row} → r ≡ row_at (watch_of P u) i → set (written i) i r ≡ written (i + 1)
  next-written i k h e q =
      let l : due ≤ length (watch_of P u) = either (λ m _. m ≤ length (watch_of P u)) (omega arith) (omega arith) in
      ap (set (written i) i) q ∙ rw add-one (over-next (watch_of P u) rows i _ (omega (arith, h, e, l)))

  -- all of them
  pub all-written : (i k : ℕ) → i ≡ k → k ≡ due → written i ≡ rows_after P u rows
  unfolding over
  all-written i k h e = ap written (h ∙ e) ∙ either (λ m l. written m ≡ l) (ap (λ (l : List Row). over l rows) (take-length (watch_of P u))) refl
