-- A pool that is made, and what a run has by the arrays of its state.
use Rattle.std.specs.Prelude.{Err, Ok}
use mathlib.Core.Path.{◌≡◌, refl, sym, ap, ◌∙◌, subst}
use mathlib.Core.List.{List, [], ◌∷◌}
use mathlib.Core.Bool.{Bool, true, false, cond}
use Prim.Native.Nat.{ℕ, zero, suc, ◌+◌, ◌≤◌, ◌<◌}
use native.Mathlib.Omega.{arith}
use lib.IntN.{ℤ}
use lib.ListN.{length, replicate, set}
use borrow.Author.Tests.{le-leb, lt-leb}
use Rattle.layout.specs.Records.{◌!◌}
use Rattle.machine.specs.Allowed.{vectors_in}
use Rattle.machine.specs.Pools.{PoolMade, allowed, fresh, has_in, make_of, over_reserved, overfull}
use Rattle.machine.specs.declared.State.{State}
use Rattle.machine.specs.declared.Status.{Status}
use Rattle.store.specs.Store.{ENDING, STATUS, ◌#◌, state_in, status_of}
use Rattle.store.specs.Counts.{Ready, in_use}
use Rattle.store.proofs.InUse.{vectors-used}
use Rattle.store.proofs.Statuses.{ended_by}
use Rattle.ending.specs.Ends.{closed_bytes}
use Rattle.pools.specs.Shares.{Caps, Makes, Settles, has_now, pool_of}
use Rattle.machine.specs.Denials.{denied}

-- ---- making

module _ (given rs hs : List ℕ) {t : Bool} (e : t ≡ over_reserved given) where
  made : Bool → PoolMade
  made x = elim x [ true ↦ record { pool = pool_of rs hs; made = Err (denied 21 0) } | false ↦ record { pool = fresh given; made = Ok tt } ]

  pub make-refused : t ≡ true → Makes (Err (denied 21 0)) given rs hs rs hs
  unfolding make_of made
  make-refused h = ap made (sym h ∙ e)

  pub make-ready : t ≡ false → Makes (Ok tt) given rs hs given (replicate 8 0)
  unfolding make_of made
  make-ready h = ap made (sym h ∙ e)

-- ---- what a run has

pub counted : (b : List ℕ) (n : List ℤ) (c : List ℕ) {m : ℕ} → Ready b n c → m ≡ in_use c → m ≡ vectors_in (state_in b n)
counted b n c R e = e ∙ sym (vectors-used c (state_in b n) R.counted)

pub has_ended : (b : List ℕ) (n : List ℤ) → (b ! STATUS ≡ 0 → ⊥) → 0 ≡ has_now b n
unfolding has_in state_in
has_ended b n h = let E = ended_by (b ! STATUS) h (b ! (STATUS + 1)) (n # ENDING) in sym (ap (has_in (state_in b n)) E.1)

pub has-running : (b : List ℕ) (n : List ℤ) {m : ℕ} → b ! STATUS ≡ 0 → m ≡ vectors_in (state_in b n) → m ≡ has_now b n
unfolding has_in state_in status_of
has-running b n h e = e ∙ sym (ap (has_in (state_in b n)) going)
  where
    going : status_of (b ! STATUS) (b ! (STATUS + 1)) (n # ENDING) ≡ Status.Running
    going = rw h refl

-- a number above 7 has no place
pub past-set : (xs : List ℕ) (i x : ℕ) → length xs ≤ i → xs ≡ set xs i x
past-set [] i x h = refl
past-set (y ∷ xs) zero x h = absurd (omega arith)
past-set (y ∷ xs) (suc i) x h = ap (λ l. y ∷ l) (past-set xs i x (omega arith))

-- ---- a start

module _ (most : ℕ) (b : List ℕ) (n : List ℤ) {k : ℕ} (needs : k ≡ vectors_in (state_in b n)) where
  abbrev first : Bool → State
  first t = cond t (state_in b n) (overfull (state_in b n))

  pub cap-fits : k ≤ most → Caps most b n b
  cap-fits h = record { state = sym (ap first (le-leb (vectors_in (state_in b n)) most (omega (arith, needs, h)))); fits = λ _. refl; over = λ l. absurd (omega (arith, needs, l, h)) }

  pub cap-over : most < k → (b' : List ℕ) → (state_in b' n ≡ overfull (state_in b n)) × (b' ≡ closed_bytes b 5 0) → Caps most b n b'
  cap-over h b' s = record { state = s.0 ∙ sym (ap first (lt-leb (vectors_in (state_in b n)) most (omega (arith, needs, h)))); fits = λ l. absurd (omega (arith, needs, l, h)); over = λ _. s.1 }

pub settled : (b : List ℕ) (n : List ℤ) (rs hs : List ℕ) (i : ℕ) (b' hs' : List ℕ) {m : ℕ} → m ≡ allowed (pool_of rs hs) i → Caps m b n b' → hs' ≡ set hs i (has_now b' n) → Settles b n rs hs i b' hs'
settled b n rs hs i b' hs' e C h = (subst (λ k. Caps k b n b') e C, h)
