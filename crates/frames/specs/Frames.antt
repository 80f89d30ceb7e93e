-- What frames and activations that open and end do to the state and its counts.
use Rattle.std.specs.Prelude.{List, ◌≡◌, Bool, true, false, cond, ℕ, zero, suc, ◌+◌, ◌-◌, ◌≤◌, ◌<◌, ℤ, length, ltb}
use Rattle.std.proofs.Math.ListN.{get_elem?}
use Rattle.layout.specs.Records.{◌!◌}
use Rattle.machine.specs.States.{live_frames, with_stack}
use Rattle.machine.specs.Try.{at, stuck}
use Rattle.machine.specs.declared.Opener.{Opener}
use Rattle.machine.specs.declared.State.{State}
use Rattle.machine.specs.declared.Value.{Value}
use Rattle.store.specs.Lists.{up_to}
use Rattle.store.specs.Store.{CALLS, DEPTH, activation_in, cell_in, frame_in, state_in, Live}
use Rattle.store.specs.Counts.{one, in_frame, in_frames, forcers, references, refers_to, counts_at}

-- the frame k is live, or there is none
unfoldable pub Lives : Bool → List ℕ → ℕ → Type 0
Lives true b k = Live b k
Lives false b k = (n : List ℤ) → at (live_frames (state_in b n)) k ≡ stuck

-- what the cells of the frame k hold is counted, and in its own count nothing else
pub record Held (b : List ℕ) (n : List ℤ) (c : List ℕ) (k : ℕ) : Type 0 where
  pub counted : (i : ℕ) → i < 800 → in_frame (counts_at i k) (frame_in b n k) ≤ c ! i
  pub own : c ! (768 + k) ≡ in_frame (counts_at (768 + k) k) (frame_in b n k)
  pub long : length c ≡ 800

-- the counts without the cells of the frame k
pub record Dropped (b : List ℕ) (n : List ℤ) (c c' : List ℕ) (k : ℕ) : Type 0 where
  pub less : (i : ℕ) → i < 800 → c' ! i + in_frame (counts_at i k) (frame_in b n k) ≡ c ! i
  pub long : length c' ≡ 800

-- the activation on top is a call's, and there are frames and activations within the arrays
pub record Ending (b : List ℕ) : Type 0 where
  pub calls : 0 < b ! CALLS
  pub few : b ! CALLS ≤ 32
  pub depth : 0 < b ! DEPTH
  pub low : b ! DEPTH ≤ 32
  pub opener : (activation_in b (b ! DEPTH - 1)).opener ≡ Opener.Call

-- the activation on top forces the promise p
pub record Forcing (b : List ℕ) (p : ℕ) : Type 0 where
  pub depth : 0 < b ! DEPTH
  pub low : b ! DEPTH ≤ 32
  pub opener : (activation_in b (b ! DEPTH - 1)).opener ≡ Opener.Force p

-- the state with n live calls, and one activation less
unfoldable pub with_less : State → ℕ → State
with_less s n = with_stack s s.frames n s.activations (s.depth - 1)

-- ---- the counts at the start of a budget

-- of a count, those within an array of 32
abbrev pub at_most : ℕ → ℕ
at_most n = cond (ltb n 32) n 32

-- nothing is counted
pub record Nothing (c : List ℕ) : Type 0 where
  pub none : (i : ℕ) → i < 800 → c ! i ≡ 0
  pub long : length c ≡ 800

-- there is room for the cells of one more frame
abbrev pub Room : List ℕ → Type 0
Room c = (i : ℕ) → i < 800 → c ! i ≤ 744

-- how many of the first e cells of the frame k hold such a value
unfoldable pub cells_to : (Value → Bool) → List ℕ → List ℤ → ℕ → ℕ → ℕ
cells_to is b n k zero = 0
cells_to is b n k (suc e) = cells_to is b n k e + one (is (cell_in b n k e))

-- the counts with the first e cells of the frame k
pub record Added (b : List ℕ) (n : List ℤ) (c c' : List ℕ) (k e : ℕ) : Type 0 where
  pub most : e ≤ 24
  pub more : (i : ℕ) → i < 800 → c' ! i ≡ c ! i + cells_to (counts_at i k) b n k e
  pub long : length c' ≡ 800

-- the counts of the first k frames and the first d activations
pub record Tallied (b : List ℕ) (n : List ℤ) (c : List ℕ) (k d : ℕ) : Type 0 where
  pub calls : k ≤ 32
  pub depth : d ≤ 32
  pub held : (i : ℕ) → i < 512 → c ! i ≡ in_frames (refers_to i) (up_to (frame_in b n) 0 k)
  pub forced : (p : ℕ) → p < 256 → c ! (512 + p) ≡ forcers p (up_to (activation_in b) 0 d)
  pub frames : (j : ℕ) → j < 32 → c ! (768 + j) ≡ references (get_elem? (up_to (frame_in b n) 0 k) j)
  pub long : length c ≡ 800
