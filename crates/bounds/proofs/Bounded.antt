-- A run never takes more steps than a bound given for its entry.
use mathlib.Core.Path.{◌≡◌, refl}
use mathlib.Core.Bool.{Bool, true, false, cond}
use Prim.Native.Nat.{ℕ}
use native.Mathlib.Omega.{arith}
use lib.Dec.{ltb}
use Rattle.program.specs.Program.{Version, Program}
use Rattle.program.proofs.Held.{find-own}
use Rattle.machine.specs.Begin.{begin_of, program_of}
use Rattle.soundness.proofs.Histories.{sure-of, begun-sound}
use Rattle.soundness.specs.Claim.{begun}
use Rattle.bounds.specs.Bounds.{is_listed, bound_in, bounded, steps, large, unbounded, MOST, reads, bound_of}
use Rattle.bounds.specs.Claim.{AtMost}
use Rattle.bounds.proofs.Beginning.{first-state, begun-paid}
use Rattle.bounds.proofs.Counting.{at-most}
use Rattle.bounds.proofs.Listing.{priced}

-- a number that is read is that number
reads-steps : (m n : ℕ) → reads m ≡ steps n → m ≡ n
unfolding reads
reads-steps m n e = go (ltb MOST m) e
  where
    go : (b : Bool) → cond b large (steps m) ≡ steps n → m ≡ n
    go true q = let z : ◌≡◌ {A = ℕ} 0 1 = cc in absurd (omega arith)
    go false q = cc

-- a bound that is given is that of the version's row
given-bound : (P : Program) (v : Version) (n : ℕ) → bound_of P v ≡ steps n → (is_listed (bounded P) v ≡ true) × (bound_in (bounded P) v ≡ n)
unfolding bound_of
given-bound P v n e = go (is_listed (bounded P) v) refl e
  where
    go : (b : Bool) → is_listed (bounded P) v ≡ b → cond b (reads (bound_in (bounded P) v)) unbounded ≡ steps n → (is_listed (bounded P) v ≡ true) × (bound_in (bounded P) v ≡ n)
    go true l q = (l, reads-steps (bound_in (bounded P) v) n q)
    go false l q = let z : ◌≡◌ {A = ℕ} 0 1 = cc in absurd (omega arith)

-- THE LAW
pub bound-holds : AtMost
unfolding AtMost
bound-holds image level f v words buffer entered W found n given events stays =
    let P = program_of image in
    let s = (begin_of image level f v words buffer).state in
    let t = begun-sound image level f v words buffer entered in
    let sure = sure-of (begun image level f v words buffer) t in
    let g = given-bound P W n given in
    let p = begun-paid P sure (bound_in (bounded P)) (is_listed (bounded P)) (priced P) s W (find-own P f v W found) g.0 (first-state image level f v words buffer W found entered) in
    let r = at-most image sure (bound_in (bounded P)) (is_listed (bounded P)) (priced P) events s (bound_in (bounded P) W) (record { inv = t.inv; paid = λ _. p }) stays in
    omega (arith, g.1, r)
