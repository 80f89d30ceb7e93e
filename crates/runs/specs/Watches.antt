-- 02, request 11: what watching the topmost call leaves in the lent list, in every state of every program. The statements alone.
use Rattle.std.specs.Prelude.{◌≡◌, List, ℕ, ◌≤◌, ◌<◌, length, Err, Ok}
use Rattle.std.proofs.Math.ListN.{get_elem?}
use Rattle.layout.specs.Bounds.{REGISTERS}
use Rattle.program.specs.Program.{Program}
use Rattle.machine.specs.Watches.{watch_of, watched_of, rows_after}
use Rattle.machine.specs.declared.Row.{Row}
use Rattle.machine.specs.declared.State.{State}
use Rattle.machine.specs.Denials.{denied}

-- of a lent list of records
pub record Fills (P : Program) (s : State) (rows : List Row) : Type 0 where
  -- At most 16 are filled, and the list keeps its length;
  pub most : length (watch_of P s) ≤ REGISTERS
  pub long : length (rows_after P s rows) ≡ length rows
  -- with no live call 0 are, and the whole list is untouched, an empty one too;
  pub none : s.calls ≡ 0 → (watched_of P s (length rows) ≡ Ok 0) × (rows_after P s rows ≡ rows)
  -- where the list is long enough, each record that is shown stands at its place
  pub filled : length (watch_of P s) ≤ length rows → (watched_of P s (length rows) ≡ Ok (length (watch_of P s)))
      × ((k : ℕ) → k < length (watch_of P s) → get_elem? (rows_after P s rows) k ≡ get_elem? (watch_of P s) k)
  -- and those past the last register are untouched;
  pub past : (k : ℕ) → length (watch_of P s) ≤ k → get_elem? (rows_after P s rows) k ≡ get_elem? rows k
  -- where it is too short, 22 at 0, and all of it is untouched.
  pub short : length rows < length (watch_of P s) → (watched_of P s (length rows) ≡ Err (denied 22 0)) × (rows_after P s rows ≡ rows)

-- So for every program, state and list.
unfoldable pub Watching : Type 0
Watching = (P : Program) (s : State) (rows : List Row) → Fills P s rows
