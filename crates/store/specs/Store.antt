-- The state of a run in two arrays, of bytes and of numbers, and the state that they stand for, whatever they hold.
use Rattle.std.specs.Prelude.{List, ◌≡◌, cond, ℕ, ◌+◌, ◌*◌, ◌≤◌, ◌<◌, ℤ, pos, get_or, length, eqb}
use Rattle.layout.specs.Bounds.{REGISTERS, NAMES}
use Rattle.layout.specs.Records.{◌!◌}
use Rattle.machine.specs.States.{ACTIVATIONS, VECTORS, PROMISES, ITEMS, place}
use Rattle.machine.specs.declared.Activation.{Activation}
use Rattle.machine.specs.declared.Cache.{Cache}
use Rattle.machine.specs.declared.End.{End}
use Rattle.machine.specs.declared.Frame.{Frame}
use Rattle.machine.specs.declared.Opener.{Opener}
use Rattle.machine.specs.declared.Promise.{Promise}
use Rattle.machine.specs.declared.State.{State}
use Rattle.machine.specs.declared.Status.{Status}
use Rattle.machine.specs.declared.Value.{Value}
use Rattle.machine.specs.declared.Vector.{Vector}
use Rattle.store.specs.Lists.{up_to}

-- ---- where things stand

-- bytes: 32 for the tags and the version of a frame, 32 for the places of its cells, 8 for an activation, 4 for a promise, one for the length
-- of a vector, then how many calls and activations are live, the status and the length of the result
-- spare, read by nothing: of a frame's tags the last 6 bytes, of its places the last 8, of an activation the last 2, of a promise the last, and the last 4 of all
abbrev pub PLACES : ℕ
PLACES = 1024

abbrev pub STACK : ℕ
STACK = 2048

abbrev pub DELAYS : ℕ
DELAYS = 2304

abbrev pub LENGTHS : ℕ
LENGTHS = 2560

abbrev pub CALLS : ℕ
CALLS = 2624

abbrev pub DEPTH : ℕ
DEPTH = 2625

abbrev pub STATUS : ℕ
STATUS = 2626

-- numbers: 32 for a frame, 16 for the items of a vector, one for what a promise has cached, then the result and the end; of a frame's 32 the last 8 are spare
abbrev pub ITEM : ℕ
ITEM = 1024

abbrev pub CACHES : ℕ
CACHES = 2048

abbrev pub RESULT : ℕ
RESULT = 2112

abbrev pub ENDING : ℕ
ENDING = 2128

-- the number at a place
infixl 80 ◌#◌
abbrev pub ◌#◌ : List ℤ → ℕ → ℤ
n # i = get_or n i (pos 0)

-- ---- what they stand for

-- tag 1 is the integer, 2 the vector at the place p, 3 the promise there, all else empty
unfoldable pub value_of : ℕ → ℕ → ℤ → Value
value_of t p z = cond (eqb t 1) (Value.Integer z) (cond (eqb t 2) (Value.Vector p) (cond (eqb t 3) (Value.Promise p) Value.Empty))

-- the cell c of the frame k: its registers are 0 to 15, its names 16 to 23
unfoldable pub cell_in : List ℕ → List ℤ → ℕ → ℕ → Value
cell_in b n k c = value_of (b ! (32 * k + c)) (b ! (PLACES + 32 * k + c)) (n # (32 * k + c))

-- the frame k
unfoldable pub frame_in : List ℕ → List ℤ → ℕ → Frame
frame_in b n k = record {
  function = b ! (32 * k + 24);
  version = b ! (32 * k + 25);
  registers = up_to (λ r. place (cell_in b n k r)) 0 REGISTERS;
  names = up_to (λ x. place (cell_in b n k (16 + x))) 0 NAMES;
}

-- 0 is a call, all else a force of the promise p
unfoldable pub opener_of : ℕ → ℕ → Opener
opener_of o p = cond (eqb o 0) Opener.Call (Opener.Force p)

-- the two bytes of an opener
unfoldable pub tag_of : Opener → ℕ
tag_of Opener.Call = 0
tag_of (Opener.Force p) = 1

unfoldable pub forced_by : Opener → ℕ
forced_by Opener.Call = 0
forced_by (Opener.Force p) = p

-- the activation i
unfoldable pub activation_in : List ℕ → ℕ → Activation
activation_in b i = record {
  opener = opener_of (b ! (STACK + 8 * i)) (b ! (STACK + 8 * i + 1));
  d = b ! (STACK + 8 * i + 2);
  frame = b ! (STACK + 8 * i + 3);
  block = b ! (STACK + 8 * i + 4);
  next = b ! (STACK + 8 * i + 5);
}

-- the vector v
unfoldable pub vector_in : List ℕ → List ℤ → ℕ → Vector
vector_in b n v = record { length = b ! (LENGTHS + v); items = up_to (λ j. n # (ITEM + 16 * v + j)) 0 ITEMS }

-- 0 is not forced
unfoldable pub cache_of : ℕ → ℤ → Cache
cache_of c z = cond (eqb c 0) Cache.Unforced (Cache.Forced z)

-- the promise p
unfoldable pub promise_in : List ℕ → List ℤ → ℕ → Promise
promise_in b n p = record {
  frame = b ! (DELAYS + 4 * p);
  block = b ! (DELAYS + 4 * p + 1);
  cache = cache_of (b ! (DELAYS + 4 * p + 2)) (n # (CACHES + p));
}

-- 0 goes on, 1 is DONE with the integer z, 2 DONE with a vector of length l, 3 UNDEF, 4 DEEP, 5 VECTORS, all else PROMISES
unfoldable pub status_of : ℕ → ℕ → ℤ → Status
status_of t l z =
    cond (eqb t 0) Status.Running
    (cond (eqb t 1) (Status.Ended (End.Integer z))
    (cond (eqb t 2) (Status.Ended (End.Vector l))
    (cond (eqb t 3) (Status.Ended End.Undef)
    (cond (eqb t 4) (Status.Ended End.Deep)
    (cond (eqb t 5) (Status.Ended End.Vectors)
    (Status.Ended End.Promises))))))

-- the state that the arrays stand for
unfoldable pub state_in : List ℕ → List ℤ → State
state_in b n = record {
  frames = up_to (frame_in b n) 0 ACTIVATIONS;
  calls = b ! CALLS;
  activations = up_to (activation_in b) 0 ACTIVATIONS;
  depth = b ! DEPTH;
  vectors = up_to (vector_in b n) 0 VECTORS;
  promises = up_to (promise_in b n) 0 PROMISES;
  result = up_to (λ j. n # (RESULT + j)) 0 ITEMS;
  status = status_of (b ! STATUS) (b ! (STATUS + 1)) (n # ENDING);
}

-- the arrays are as long as the code's
abbrev pub Sized : List ℕ → List ℤ → Type 0
Sized b n = (length b ≡ 2632) × (length n ≡ 2129)

-- the frame k is that of a live call
abbrev pub Live : List ℕ → ℕ → Type 0
Live b k = (k < 32) × (k < b ! CALLS)

-- the cell c of the frame k holds v, and all else is as it was
pub record Puts (b : List ℕ) (n : List ℤ) (b' : List ℕ) (n' : List ℤ) (k c : ℕ) (v : Value) : Type 0 where
  pub holds : cell_in b' n' k c ≡ v
  pub bytes : (i : ℕ) → (i ≡ 32 * k + c → ⊥) → (i ≡ PLACES + 32 * k + c → ⊥) → b' ! i ≡ b ! i
  pub numbers : (i : ℕ) → (i ≡ 32 * k + c → ⊥) → n' # i ≡ n # i
  pub sized : Sized b' n'

-- the tags of the first m cells of the frame k are 0, and all bytes but the tags of its 24 cells are as they were
pub record Cleared (b b' : List ℕ) (k m : ℕ) : Type 0 where
  pub within : m ≤ 24
  pub empty : (c : ℕ) → c < m → b' ! (32 * k + c) ≡ 0
  pub kept : (i : ℕ) → (32 * k ≤ i → i < 32 * k + 24 → ⊥) → b' ! i ≡ b ! i
  pub long : length b' ≡ 2632
