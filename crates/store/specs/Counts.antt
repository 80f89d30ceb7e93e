-- How many registers and names of live calls hold a value, how many live activations force a promise, and the counts that a budget keeps.
use Rattle.std.specs.Prelude.{List, [], ◌∷◌, ◌≡◌, Bool, true, false, cond, not, ◌&&◌, ◌||◌, ℕ, ◌+◌, ◌-◌, ◌≤◌, ◌<◌, ℤ, length, set, eqb, leb, ltb, None, Some}
use Rattle.layout.specs.Found.{Found}
use Rattle.std.proofs.Math.Option.{Option, none, some}
use Rattle.std.proofs.Math.ListN.{get_elem?}
use Rattle.layout.specs.Records.{◌!◌}
use Rattle.machine.specs.Allowed.{counting}
use Rattle.machine.specs.Try.{Try, got, stop}
use Rattle.machine.specs.States.{VECTORS, free, live_activations, live_frames, is_force, is_promise, is_vector}
use Rattle.machine.specs.declared.Activation.{Activation}
use Rattle.machine.specs.declared.End.{End}
use Rattle.machine.specs.declared.Frame.{Frame}
use Rattle.machine.specs.declared.Opener.{Opener}
use Rattle.machine.specs.declared.Place.{Place}
use Rattle.machine.specs.declared.State.{State}
use Rattle.machine.specs.declared.Value.{Value}
use Rattle.store.specs.Store.{cell_in, forced_by, state_in}

-- ---- how many hold such a value

-- 1 where it holds
abbrev pub one : Bool → ℕ
one b = cond b 1 0

-- of these places
unfoldable pub holders : (Value → Bool) → List Place → ℕ
holders is [] = 0
holders is (c ∷ cs) = one (is c.value) + holders is cs

-- of a frame
unfoldable pub in_frame : (Value → Bool) → Frame → ℕ
in_frame is f = holders is f.registers + holders is f.names

-- of these frames
unfoldable pub in_frames : (Value → Bool) → List Frame → ℕ
in_frames is [] = 0
in_frames is (f ∷ fs) = in_frame is f + in_frames is fs

-- of the live calls
unfoldable pub holding : (Value → Bool) → State → ℕ
holding is s = in_frames is (live_frames s)

-- ---- how many force a promise

-- of these activations
unfoldable pub forcers : ℕ → List Activation → ℕ
forcers p [] = 0
forcers p (a ∷ l) = one (is_force p a.opener) + forcers p l

-- of the live ones
unfoldable pub forcing : ℕ → State → ℕ
forcing p s = forcers p (live_activations s)

-- ---- how many refer to a vector or a promise

unfoldable pub is_reference : Value → Bool
is_reference Value.Empty = false
is_reference (Value.Integer z) = false
is_reference (Value.Vector v) = true
is_reference (Value.Promise p) = true

-- of a frame that may be there
unfoldable pub references : Option Frame → ℕ
references none = 0
references (some f) = in_frame is_reference f

-- of the frame k, 0 where it is not live
abbrev pub referring : ℕ → State → ℕ
referring k s = references (get_elem? (live_frames s) k)

-- ---- the counts

-- what the count i is of: the vector i, from 256 on the promise i − 256
unfoldable pub refers_to : ℕ → Value → Bool
refers_to i = cond (ltb i 256) (is_vector i) (is_promise (i - 256))

-- the counts are those of the state: of what holds vectors, of what holds promises, of what forces promises, then of what refers in each frame
pub record Counted (c : List ℕ) (s : State) : Type 0 where
  pub held : (i : ℕ) → i < 512 → c ! i ≡ holding (refers_to i) s
  pub forced : (p : ℕ) → p < 256 → c ! (512 + p) ≡ forcing p s
  pub frames : (k : ℕ) → k < 32 → c ! (768 + k) ≡ referring k s

-- does a cell of the frame k that holds the value count at i?
unfoldable pub counts_at : ℕ → ℕ → Value → Bool
counts_at i k u = cond (ltb i 512) (refers_to i u) (is_reference u && eqb i (768 + k))

-- no count is more than there are cells
abbrev pub Few : List ℕ → Type 0
Few c = (i : ℕ) → i < 800 → c ! i ≤ 768

-- a cell of the frame k that holds the value is counted
abbrev pub Covers : List ℕ → ℕ → Value → Type 0
Covers c k u = (i : ℕ) → i < 800 → one (counts_at i k u) ≤ c ! i

-- the counts with the count i changed by f
abbrev pub changed : (ℕ → ℕ) → List ℕ → ℕ → List ℕ
changed f c i = set c i (f (c ! i))

-- the counts with those of the value in a cell of the frame k changed by f
unfoldable pub recount : (ℕ → ℕ) → List ℕ → ℕ → Value → List ℕ
recount f c k Value.Empty = c
recount f c k (Value.Integer z) = c
recount f c k (Value.Vector v) = changed f (changed f c v) (768 + k)
recount f c k (Value.Promise p) = changed f (changed f c (256 + p)) (768 + k)

-- no promise is forced more often than there are activations
abbrev pub Calm : List ℕ → Type 0
Calm c = (p : ℕ) → p < 256 → c ! (512 + p) ≤ 32

-- the counts with that of the force changed by f
unfoldable pub repend : (ℕ → ℕ) → List ℕ → Opener → List ℕ
repend f c Opener.Call = c
repend f c (Opener.Force p) = changed f c (512 + p)

-- one less and one more
abbrev pub fewer : ℕ → ℕ
fewer m = m - 1

abbrev pub more : ℕ → ℕ
more m = m + 1

-- the force of a byte's promise, if it is one, is counted
abbrev pub Pends : List ℕ → List ℕ → Opener → Type 0
Pends c c' o = (c' ≡ repend more c o) × (forced_by o < 256)

-- the places of a value are those of a byte
unfoldable pub Byte : Value → Type 0
Byte Value.Empty = 0 < 1  -- always true
Byte (Value.Integer z) = 0 < 1  -- always true
Byte (Value.Vector v) = v < 256
Byte (Value.Promise p) = p < 256

-- what the cell e of the frame k holds is counted anew
pub record Recounts (f : ℕ → ℕ) (b : List ℕ) (n : List ℤ) (c c' : List ℕ) (k e : ℕ) : Type 0 where
  pub counts : c' ≡ recount f c k (cell_in b n k e)
  pub byte : Byte (cell_in b n k e)
  pub long : length c' ≡ 800

-- what a step relies on and leaves: the arrays are as long as the code's, and the counts are those of the state
pub record Ready (b : List ℕ) (n : List ℤ) (c : List ℕ) : Type 0 where
  pub bytes : length b ≡ 2632
  pub numbers : length n ≡ 2129
  pub counts : length c ≡ 800
  pub counted : Counted c (state_in b n)

-- one of the counts i and j is not 0
unfoldable pub taken : List ℕ → ℕ → ℕ → Bool
taken c i j = not (eqb (c ! i) 0) || not (eqb (c ! j) 0)

-- the lowest of 64 places whose counts, from a and from b on, are 0, or that there is none
unfoldable pub Frees : Found → List ℕ → ℕ → ℕ → Type 0
Frees (Some v) c a b = ((e : End) → free e (λ i. taken c (a + i) (b + i)) 64 0 ≡ got v) × (v < 64)
Frees None c a b = (e : End) → free e (λ i. taken c (a + i) (b + i)) 64 0 ≡ stop e

-- a count that is not 0
unfoldable pub is_held : ℕ → Bool
is_held m = not (eqb m 0)

-- how many of the 64 counts of vectors are not 0
unfoldable pub in_use : List ℕ → ℕ
in_use c = counting (λ i. is_held (c ! i)) VECTORS 0

-- a place for a vector of a run that may have `most`, by the counts
unfoldable pub free_by : List ℕ → ℕ → Try ℕ
free_by c most = elim (leb most (in_use c)) [ true ↦ stop End.Vectors | false ↦ free End.Vectors (λ i. taken c (0 + i) (0 + i)) 64 0 ]

unfoldable pub FreesVector : Found → List ℕ → ℕ → Type 0
FreesVector (Some v) c most = (free_by c most ≡ got v) × (v < 64)
FreesVector None c most = free_by c most ≡ stop End.Vectors
