-- 02, request 10, on the parts of a pool and the arrays of a state: what counts against a run, number by number, and what a start leaves.
use Rattle.std.specs.Prelude.{ℕ, suc, ◌+◌, ◌-◌, ◌≤◌, ◌<◌, cond, List, [], ◌∷◌, ◌≡◌, eqb, leb, ℤ, set}
use Rattle.machine.specs.Allowed.{vectors_in}
use Rattle.machine.specs.Pools.{allowed, has_in, make_of, overfull}
use Rattle.machine.specs.declared.Pool.{Pool}
use Rattle.store.specs.Store.{state_in}
use Rattle.ending.specs.Ends.{closed_bytes}
use Rattle.machine.specs.Denials.{Grant}

-- a pool of its parts
abbrev pub pool_of : List ℕ → List ℕ → Pool
pool_of reserves has = record { reserves = reserves; has = has }

-- what the run j keeps from the run i, with the reserve r and h vectors
abbrev pub share_of : ℕ → ℕ → ℕ → ℕ → ℕ
share_of j i r h = cond (eqb j i) 0 (h + (r - h))

-- all of them, from the run j on
unfoldable pub shares : ℕ → ℕ → List ℕ → List ℕ → ℕ
shares j i [] hs = 0
shares j i (r ∷ rs) [] = 0
shares j i (r ∷ rs) (h ∷ hs) = share_of j i r h + shares (suc j) i rs hs

-- a pool that is made of its parts
abbrev pub Makes : Grant → List ℕ → List ℕ → List ℕ → List ℕ → List ℕ → Type 0
Makes r given rs hs rs' hs' = record { pool = pool_of rs' hs'; made = r } ≡ make_of given (pool_of rs hs)

-- what the run of the arrays has
abbrev pub has_now : List ℕ → List ℤ → ℕ
has_now b n = has_in (state_in b n) (state_in b n).status

-- a run that has just begun in b and n and may have `most` vectors: its first state, or VECTORS, byte for byte
pub record Caps (most : ℕ) (b : List ℕ) (n : List ℤ) (b' : List ℕ) : Type 0 where
  pub state : state_in b' n ≡ cond (leb (vectors_in (state_in b n)) most) (state_in b n) (overfull (state_in b n))
  pub fits : vectors_in (state_in b n) ≤ most → b' ≡ b
  pub over : most < vectors_in (state_in b n) → b' ≡ closed_bytes b 5 0

-- of the run i: and what it then has
abbrev pub Settles : List ℕ → List ℤ → List ℕ → List ℕ → ℕ → List ℕ → List ℕ → Type 0
Settles b n rs hs i b' hs' = Caps (allowed (pool_of rs hs) i) b n b' × (hs' ≡ set hs i (has_now b' n))
