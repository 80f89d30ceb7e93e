-- Where a run stands, with the number of its next instruction kept beside the state.
use Rattle.std.specs.Prelude.{◌≡◌, List, ℕ, ◌+◌, ◌-◌, ◌*◌, ◌≤◌, ◌<◌, min, ℤ, set}
use Rattle.std.proofs.Math.Option.{some}
use Rattle.std.proofs.Math.ListN.{get_elem?}
use Rattle.layout.specs.Bounds.{INSTRUCTIONS}
use Rattle.layout.specs.Records.{◌!◌}
use Rattle.program.specs.Program.{Block, Version, Program, find_version}
use Rattle.machine.specs.Allowed.{advance_with}
use Rattle.machine.specs.Try.{got, stuck, at}
use Rattle.machine.specs.States.{live_frames, with_stack}
use Rattle.machine.specs.declared.Activation.{Activation}
use Rattle.machine.specs.declared.Frame.{Frame}
use Rattle.machine.specs.declared.State.{State}
use Rattle.store.specs.Store.{DEPTH, STACK, activation_in, frame_in, state_in, Live}
use Rattle.loaded.specs.Loaded.{NUMBERS, block_in, count_in, program_in, version_in}
use Rattle.turning.specs.declared.Spot.{Spot}

-- ---- any state

-- the state with these activations in the place of its own
unfoldable pub aside : State → List Activation → State
aside s A = with_stack s s.frames s.calls A s.depth

-- the activation a at its instruction x
unfoldable pub moved : Activation → ℕ → Activation
moved a x = record { opener = a.opener; d = a.d; frame = a.frame; block = a.block; next = x }

-- the state u, whose activation on top is a, with that standing at its instruction x
unfoldable pub standing : State → Activation → ℕ → State
standing u a x = aside u (set u.activations (u.depth - 1) (moved a x))

-- the run of u stands in the block B of the version W, in its frame f at the place k, by its activation a on top
pub record Spotted (P : Program) (u : State) (k : ℕ) (a : Activation) (f : Frame) (W : Version) (B : Block) : Type 0 where
  pub top : get_elem? u.activations (u.depth - 1) ≡ some a
  pub deep : 0 < u.depth
  pub frame : a.frame ≡ k
  pub live : at (live_frames u) k ≡ got f
  pub version : find_version P f.function f.version ≡ some W
  pub block : get_elem? W.blocks a.block ≡ some B

-- ---- the arrays of a state, and a spot

-- the activation on top
abbrev pub top_in : List ℕ → Activation
top_in b = activation_in b (b ! DEPTH - 1)

-- the number of the next instruction in its block
abbrev pub next_of : Spot → ℕ
next_of p = p.next - (p.block + 1)

-- the state that the arrays stand for, with the activation on top at the spot's instruction
abbrev pub state_at : List ℕ → List ℤ → Spot → State
state_at b n p = standing (state_in b n) (top_in b) (next_of p)

-- how many instructions of the block of the record e count
abbrev pub length_in : List ℕ → ℕ → ℕ
length_in t e = min (count_in t e) INSTRUCTIONS

-- the run of the arrays stands at the spot: in the frame, in the block of the record, whose version is the one under the number own
pub record Here (s t b : List ℕ) (n : List ℤ) (p : Spot) : Type 0 where
  pub own : ℕ
  pub spotted : Spotted (program_in s t) (state_in b n) p.frame (top_in b) (frame_in b n p.frame) (version_in s t own) (block_in s t p.block)
  pub number : own ≡ 4 * b ! (32 * p.frame + 24) + b ! (32 * p.frame + 25)
  pub few : own < NUMBERS
  pub live : Live b p.frame
  pub low : b ! DEPTH ≤ 32
  pub first : p.block < p.next
  pub near : p.next ≤ p.block + 256
  pub last : p.last ≡ p.block + 1 + length_in t p.block
  pub small : p.block < 65536

-- the spot m instructions further on
unfoldable pub onward : Spot → ℕ → Spot
onward p m = record { frame = p.frame; block = p.block; next = p.next + m; last = p.last; most = p.most }

-- where the number of the next instruction of the activation on top stands
abbrev pub next_byte : List ℕ → ℕ
next_byte b = STACK + 8 * (b ! DEPTH - 1) + 5

-- what is found of where the run of the bytes stands: nowhere, or at the spot; nowhere is last 0 and next 1, so that next is neither below nor at last
pub record Located (s t b : List ℕ) (p : Spot) : Type 0 where
  pub lost : p.last ≡ 0 → (n : List ℤ) → advance_with p.most (program_in s t) (state_in b n) ≡ stuck
  pub here : 0 < p.last → (n : List ℤ) → Here s t b n p
  pub next : 0 < p.last → next_of p ≡ (top_in b).next
  pub none : p.last ≡ 0 → p.next ≡ 1

-- a is the activation on top, and works in the live frame k
pub record Framed (b : List ℕ) (k : ℕ) (a : Activation) : Type 0 where
  pub deep : 0 < b ! DEPTH
  pub low : b ! DEPTH ≤ 32
  pub top : a ≡ top_in b
  pub frame : a.frame ≡ k
  pub live : Live b k
