-- The invariant of a run of a checked program.
use mathlib.Core.Path.{◌≡◌}
use mathlib.Core.Logic.{◌⊎◌}
use mathlib.Core.List.{List, [], ◌∷◌}
use mathlib.Core.Option.{Option, none, some}
use mathlib.Core.Bool.{Bool, true, false, cond, ◌||◌}
use Prim.Native.Nat.{ℕ, zero, suc, ◌≤◌, ◌<◌}
use lib.ListN.{length, get_or}
use lib.Dec.{eqb, ltb}
use Rattle.layout.specs.Bounds.{REGISTERS}
use Rattle.sets.specs.Sets.{has}
use Rattle.program.specs.Program.{Block, Version, Program, find_version}
use Rattle.program.specs.Questions.{register_exists}
use Rattle.rules.specs.Types.{kind_of, is_owned, is_borrowed, within}
use Rattle.rules.specs.Fits.{type_of, promise_kind, fits_return}
use Rattle.rules.specs.Actions.{Action, here}
use Rattle.rules.specs.Walks.{walk_to}
use Rattle.rules.proofs.Prefixes.{Does}
use Rattle.rules.proofs.Needs.{Needed}
use Rattle.checker.proofs.Accepted.{Checked}
use Rattle.machine.specs.States.{ACTIVATIONS, VECTORS, PROMISES}
use Rattle.machine.specs.declared.Activation.{Activation}
use Rattle.machine.specs.declared.Cache.{Cache}
use Rattle.machine.specs.declared.Frame.{Frame}
use Rattle.machine.specs.declared.Opener.{Opener}
use Rattle.machine.specs.declared.Promise.{Promise}
use Rattle.machine.specs.declared.State.{State}
use Rattle.machine.specs.declared.Status.{Status}
use Rattle.machine.specs.declared.Value.{Value}
use Rattle.soundness.proofs.Cells.{Sized, Apart, frame_at, cell_at}

-- every version that is found is checked
abbrev pub Sure : Program → Type 0
Sure P = (f w : ℕ) (v : Version) → find_version P f w ≡ some v → Checked P v

-- ---- versions and types of the frames; defaults are not unfolded in proofs

pub no_version : Version
no_version = record { at = 0; function = 0; version = 0; parameters = 0; types = []; return = 0; level = 0; blocks = [] }

pub no_block : Block
no_block = record { at = 0; mark = 0; result = 0; code = [] }

pub no_promise : Promise
no_promise = record { frame = 0; block = 0; cache = Cache.Unforced }

unfoldable pub or_none : Option Version → Version
or_none none = no_version
or_none (some v) = v

unfoldable pub version_at : Program → List Frame → ℕ → Version
version_at P fs k = or_none (find_version P (frame_at fs k).function (frame_at fs k).version)

unfoldable pub block_at : Version → ℕ → Block
block_at v b = get_or v.blocks b no_block

unfoldable pub promise_at : List Promise → ℕ → Promise
promise_at ps p = get_or ps p no_promise

-- the type of a cell: that of a register, and kind 1, shared, of a name
unfoldable pub cell_type : Version → ℕ → ℕ
cell_type v c = cond (ltb c REGISTERS) (type_of v c) 1

unfoldable pub type_at : Program → List Frame → ℕ → ℕ → ℕ
type_at P fs k c = cell_type (version_at P fs k) c

unfoldable pub is_full : Value → Bool
is_full Value.Empty = false
is_full (Value.Integer z) = true
is_full (Value.Vector v) = true
is_full (Value.Promise p) = true

-- a promise of the block captures what the block touches
unfoldable pub touches : Action → ℕ → Bool
touches a r = has a.R r || has a.W r || has a.U r || has a.C r

-- ---- values

-- a block b over the frame f that can be entered at any time: what it reads is there, and what it touches is kept; K says which registers each frame keeps
pub record Alive (P : Program) (K : ℕ → ℕ → Bool) (fs : List Frame) (f b : ℕ) : Type 0 where
  pub positive : 0 < b
  pub action : Action
  pub does : Does P (version_at P fs f) b (block_at (version_at P fs f) b) action
  pub ready : (r : ℕ) → has action.R r ≡ true → is_full (cell_at fs f r) ≡ true
  pub kept : (r : ℕ) → touches action r ≡ true → K f r ≡ true

-- the kind of a promise
unfoldable pub kind_at : Program → List Frame → Promise → ℕ
kind_at P fs q = promise_kind (block_at (version_at P fs q.frame) q.block).mark

-- a promise in a cell of the frame k and of the type t: its frame is not above k, so it does not end before
pub record PromiseFits (P : Program) (K : ℕ → ℕ → Bool) (fs : List Frame) (q : Promise) (k t : ℕ) : Type 0 where
  pub kind : within (kind_at P fs q) (kind_of t) ≡ true
  pub older : q.frame ≤ k
  pub alive : Alive P K fs q.frame q.block

-- the value in a cell of the frame k is of the type t
unfoldable pub Fits : Program → (ℕ → ℕ → Bool) → List Frame → List Promise → ℕ → ℕ → Value → Type 0
Fits P K fs ps k t Value.Empty = Unit {0}
Fits P K fs ps k t (Value.Integer z) = within 2 (kind_of t) ≡ true
Fits P K fs ps k t (Value.Vector v) = (within 3 (kind_of t) ≡ true) × (v < VECTORS)
Fits P K fs ps k t (Value.Promise p) = (p < PROMISES) × PromiseFits P K fs (promise_at ps p) k t

-- a vector in an owned cell is in no other one but borrowed ones of newer frames
unfoldable pub Unshared : Program → List Frame → ℕ → Type 0
Unshared P fs n = (k c k' c' v : ℕ) → k < n → k' < n → cell_at fs k c ≡ Value.Vector v → cell_at fs k' c' ≡ Value.Vector v → is_owned (type_at P fs k c) ≡ true → ((k' ≡ k) × (c' ≡ c)) ⊎ ((is_borrowed (type_at P fs k' c') ≡ true) × (k < k'))

-- the value x that enters the cell c of the frame k is no vector, or in no other cell, or neither here nor there owned
unfoldable pub Lone : Program → List Frame → ℕ → ℕ → ℕ → Value → Type 0
Lone P fs n k c x = (v k' c' : ℕ) → x ≡ Value.Vector v → k' < n → cell_at fs k' c' ≡ Value.Vector v → Apart k c k' c' → (is_owned (type_at P fs k c) ≡ false) × (is_owned (type_at P fs k' c') ≡ false)

-- what holds of n live frames and of the promises
pub record Heap (P : Program) (K : ℕ → ℕ → Bool) (fs : List Frame) (n : ℕ) (ps : List Promise) : Type 0 where
  pub sized : Sized fs
  pub bound : n ≤ ACTIVATIONS
  pub pool : length ps ≡ PROMISES
  -- every live frame is of a version of the program
  pub known : (k : ℕ) → k < n → find_version P (frame_at fs k).function (frame_at fs k).version ≡ some (version_at P fs k)
  pub typed : (k c : ℕ) → k < n → Fits P K fs ps k (type_at P fs k c) (cell_at fs k c)
  pub own : Unshared P fs n

-- frames below n keep their versions, and the cells that L names stay full
pub record Ext (n : ℕ) (L : ℕ → ℕ → Bool) (fs fs' : List Frame) : Type 0 where
  pub functions : (k : ℕ) → k < n → (frame_at fs' k).function ≡ (frame_at fs k).function
  pub versions : (k : ℕ) → k < n → (frame_at fs' k).version ≡ (frame_at fs k).version
  pub grow : (k c : ℕ) → k < n → L k c ≡ true → is_full (cell_at fs k c) ≡ true → is_full (cell_at fs' k c) ≡ true

abbrev pub every : ℕ → ℕ → Bool
every k c = true

-- ---- activations

-- what an activation waits for: nothing, or a result of the type t for its register d, from a block of the mark m
pub data Pend : Type 0 where
  top : Pend
  waits : (d t m : ℕ) → Pend

unfoldable pub is_pend : Pend → ℕ → Bool
is_pend top r = false
is_pend (waits d t m) r = eqb r d

-- the result may enter d, and marks do not rise going up
unfoldable pub Gets : Version → ℕ → Pend → Type 0
Gets v mark top = Unit {0}
Gets v mark (waits d t m) = (register_exists v d ≡ true) × (fits_return v d t ≡ true) × (m ≤ mark)

-- what a frame keeps: by its body what was captured so far, by a promise block all that it captures
unfoldable pub Keeps : ℕ → (ℕ → Bool) → Action → Action → Type 0
Keeps zero keep done action = (r : ℕ) → keep r ≡ has done.C r
Keeps (suc b) keep done action = (r : ℕ) → has action.C r ≡ true → keep r ≡ true

-- an activation of the block b over the frame f at its instruction i: what the block reads or has assigned and what is needed from there on is there or awaited, unless it is emptied
pub record Stands (P : Program) (K : ℕ → ℕ → Bool) (fs : List Frame) (pend : Pend) (f b i : ℕ) : Type 0 where
  pub action : Action
  pub does : Does P (version_at P fs f) b (block_at (version_at P fs f) b) action
  pub inside : i ≤ length (block_at (version_at P fs f) b).code
  pub done : Action
  pub is-done : here (walk_to P (version_at P fs f) b (block_at (version_at P fs f) b).code i) ≡ some done
  pub ready : (r : ℕ) → (has action.R r ≡ true) ⊎ (has done.W r ≡ true) → has done.U r ≡ false → Needed P (version_at P fs f) b (block_at (version_at P fs f) b) r i → (is_pend pend r ≡ true) ⊎ (is_full (cell_at fs f r) ≡ true)
  pub keeps : Keeps b (K f) done action
  pub gets : Gets (version_at P fs f) (block_at (version_at P fs f) b).mark pend

-- a call works in the newest frame, a force in any live one
unfoldable pub Opened : ℕ → ℕ → ℕ → Opener → Type 0
Opened n f b Opener.Call = (suc f ≡ n) × (b ≡ 0)
Opened n f b (Opener.Force p) = (f < n) × (0 < b) × (p < PROMISES)

-- the frames that are live without the activation
unfoldable pub below : ℕ → ℕ → Opener → ℕ
below n f Opener.Call = f
below n f (Opener.Force p) = n

-- the type of what an activation gives
unfoldable pub gives : Version → Opener → ℕ
gives v Opener.Call = v.return
gives v (Opener.Force p) = 2

-- what the activation below waits for
unfoldable pub awaited : Program → List Frame → Activation → Pend
awaited P fs a = waits a.d (gives (version_at P fs a.frame) a.opener) (block_at (version_at P fs a.frame) a.block).mark

-- below the first activation there is no frame, and nothing waits without one
unfoldable pub Base : Pend → ℕ → Type 0
Base top n = ⊥
Base (waits d t m) n = n ≡ 0

-- activations, the newest first
unfoldable pub Stack : Program → (ℕ → ℕ → Bool) → List Frame → Pend → ℕ → List Activation → Type 0
Stack P K fs pend n [] = Base pend n
Stack P K fs pend n (a ∷ rest) = Stands P K fs pend a.frame a.block a.next × Opened n a.frame a.block a.opener × Stack P K fs (awaited P fs a) (below n a.frame a.opener) rest

-- a default, not unfolded in proofs
pub no_activation : Activation
no_activation = record { opener = Opener.Call; d = 0; frame = 0; block = 0; next = 0 }

unfoldable pub stack_of : List Activation → ℕ → List Activation
stack_of l zero = []
stack_of l (suc h) = get_or l h no_activation ∷ stack_of l h

-- the invariant
pub record Inv (P : Program) (s : State) : Type 0 where
  pub keep : ℕ → ℕ → Bool
  pub heap : Heap P keep s.frames s.calls s.promises
  pub vectors : length s.vectors ≡ VECTORS
  pub room : length s.activations ≡ ACTIVATIONS
  pub deep : s.depth ≤ ACTIVATIONS
  pub stack : s.status ≡ Status.Running → Stack P keep s.frames top s.calls (stack_of s.activations s.depth)
