-- A program beside another in which it stands renumbered: what the look-ups find, and states of runs of the two.
use Rattle.std.specs.Prelude.{◌≡◌, List, [], ◌∷◌, ℕ, zero, suc, ◌+◌, ◌<◌, length}
use Rattle.std.proofs.Math.Option.{Option, none, some}
use Rattle.std.proofs.Math.ListN.{get_elem?}
use Rattle.program.specs.Program.{Instr, LIT, MOVE, USE, DUP, VEC, LEN, GET, SET, ARITH, SELECT, CAST, NAMED, STORE, PROM, FORCE, PEEK, POKE, CALL, DISPATCH, SKIP, Line, Block}
use Rattle.program.specs.Program.{Version, Program, find_version, has_function}
use Rattle.machine.specs.declared.Frame.{Frame}
use Rattle.machine.specs.declared.Begun.{Begun}
use Rattle.machine.specs.declared.Ran.{Ran}
use Rattle.machine.specs.declared.State.{State}
use Rattle.machine.specs.declared.Stepped.{Stepped}
use Rattle.joins.specs.Shifted.{shift_version, shift_frame}

-- what is found, renumbered
unfoldable pub shift_found : ℕ → ℕ → Option Version → Option Version
shift_found k o none = none
shift_found k o (some v) = some (shift_version k o v)

-- the functions of P below n stand in J, each raised by k, and nothing else stands under their numbers
pub record Carries (k o n : ℕ) (P J : Program) : Type 0 where
  pub look : (f w : ℕ) → f < n → find_version J (k + f) w ≡ shift_found k o (find_version P f w)
  pub has : (f : ℕ) → f < n → has_function (k + f) J ≡ has_function f P

-- an instruction that names a function names one below n
unfoldable pub Names : ℕ → Instr → Type 0
Names n (LIT d i) = Unit {0}
Names n (MOVE d a) = Unit {0}
Names n (USE d a) = Unit {0}
Names n (DUP d a) = Unit {0}
Names n (VEC d rs) = Unit {0}
Names n (LEN d a) = Unit {0}
Names n (GET d a i) = Unit {0}
Names n (SET a i e) = Unit {0}
Names n (ARITH d op a b) = Unit {0}
Names n (SELECT d c a b) = Unit {0}
Names n (CAST d a) = Unit {0}
Names n (NAMED d x) = Unit {0}
Names n (STORE x a) = Unit {0}
Names n (PROM d block) = Unit {0}
Names n (FORCE d a) = Unit {0}
Names n (PEEK d a x) = Unit {0}
Names n (POKE a x e) = Unit {0}
Names n (CALL d f w rs) = f < n
Names n (DISPATCH d f mark ret pairs) = f < n
Names n (SKIP a m) = Unit {0}

-- so do all of a version, of a program
abbrev pub NamesIn : ℕ → Version → Type 0
NamesIn n v = (b : ℕ) (B : Block) (i : ℕ) (l : Line) → get_elem? v.blocks b ≡ some B → get_elem? B.code i ≡ some l → Names n l.does

abbrev pub Closed : ℕ → Program → Type 0
Closed n P = (f w : ℕ) (v : Version) → find_version P f w ≡ some v → NamesIn n v

-- the first m frames, of functions below n, renumbered; as many places in all
unfoldable pub Beside : ℕ → ℕ → ℕ → List Frame → List Frame → Type 0
Beside k n zero xs ys = length ys ≡ length xs
Beside k n (suc m) [] [] = Unit {0}
Beside k n (suc m) [] (y ∷ ys) = ⊥
Beside k n (suc m) (x ∷ xs) [] = ⊥
Beside k n (suc m) (x ∷ xs) (y ∷ ys) = (x.function < n) × (y ≡ shift_frame k x) × Beside k n m xs ys

-- the state with other frames
unfoldable pub with_frames : State → List Frame → State
with_frames s fs = record {
  frames = fs;
  calls = s.calls;
  activations = s.activations;
  depth = s.depth;
  vectors = s.vectors;
  promises = s.promises;
  result = s.result;
  status = s.status;
}

-- t is s but for the functions of its live calls, which are raised by k, and for frames of calls that are no longer live, at which no step looks
pub record Sim (k n : ℕ) (s t : State) : Type 0 where
  pub frames : List Frame
  pub others : t ≡ with_frames s frames
  pub calls : Beside k n s.calls s.frames frames

-- of two steps, two budgets and two beginnings: the same answers and steps, and states of which one is the other renumbered
pub record SimStepped (k n : ℕ) (r q : Stepped) : Type 0 where
  pub says : q.said ≡ r.said
  pub states : Sim k n r.state q.state

pub record SimRan (k n : ℕ) (r q : Ran) : Type 0 where
  pub answers : q.answer ≡ r.answer
  pub steps : q.steps ≡ r.steps
  pub states : Sim k n r.state q.state

pub record SimBegun (k n : ℕ) (r q : Begun) : Type 0 where
  pub entries : q.entry ≡ r.entry
  pub states : Sim k n r.state q.state
