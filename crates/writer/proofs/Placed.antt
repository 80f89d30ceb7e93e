-- A buffer with bytes put into it.
use mathlib.Core.Path.{◌≡◌, refl, sym, ap, ◌∙◌}
use mathlib.Core.List.{List, [], ◌∷◌, ◌++◌}
use mathlib.Core.Bool.{Bool, true, false}
use Prim.Native.Nat.{ℕ, suc, ◌+◌, ◌≤◌, ◌<◌}
use native.Mathlib.Nat.{add-zero, add-suc, suc-add}
use native.Mathlib.Omega.{arith}
use lib.Dec.{leb}
use lib.ListN.{length, take, drop, set, length-append, length-set}
use lib.Seq.{sets, length-sets, sets-eq, set_comm, take-length}
use borrow.Rule.Slice.PartMut.{put_mid}
use Rattle.std.proofs.lemmas.Slice.{put_mid-paste}
use borrow.Author.Tests.{le-leb, lt-leb, leb-true, leb-false}
use Rattle.writer.specs.Text.{placed}

-- ---- stores one after the other

-- the stores of two pieces are those of one
sets-joined : (a b out : List ℕ) (at : ℕ) → sets (sets out at a) (at + length a) b ≡ sets out at (a ++ b)
sets-joined [] b out at = rw add-zero
sets-joined (x ∷ a) b out at = rw (add-suc, ← suc-add) (sets-joined a b (set out at x) (suc at))

-- a store behind a piece may come first
sets_behind : (t out : List ℕ) (at i x : ℕ) → at + length t ≤ i → sets (set out i x) at t ≡ set (sets out at t) i x
sets_behind [] out at i x h = refl
sets_behind (y ∷ t) out at i x h =
    ap (λ (l : List ℕ). sets l (suc at) t) (set_comm out i at x y (λ e. omega arith))
    ∙ sets_behind t (set out at y) (suc at) i x (omega arith)

-- ---- where the bytes fit, and where not

-- bytes that fit stand between what was before and behind them
pub placed-fits : (out : List ℕ) (at : ℕ) (t : List ℕ) → at + length t ≤ length out
    → placed out at t ≡ take at out ++ t ++ drop (at + length t) out
unfolding placed
placed-fits out at t h = rw (le-leb (at + length t) (length out) h)

-- bytes written over the middle of a buffer
pub placed-mid : (out : List ℕ) (at size : ℕ) (t u : List ℕ) → u ≡ t → size ≡ length t → at + length t ≤ length out
    → put_mid at size out u ≡ placed out at t
placed-mid out at size t u e n h =
    put_mid-paste at size out u t (length t) e (sym n) refl
    ∙ ap (λ (l : List ℕ). take at out ++ l ++ drop (at + length t) out) (take-length t)
    ∙ sym (placed-fits out at t h)

-- bytes that do not fit change nothing
pub placed_past : (out : List ℕ) (at : ℕ) (t : List ℕ) → length out < at + length t → placed out at t ≡ out
unfolding placed
placed_past out at t h = rw (lt-leb (at + length t) (length out) h)

-- where they fit, they are stored one after the other
pub placed-sets : (out : List ℕ) (at : ℕ) (t : List ℕ) → at + length t ≤ length out → placed out at t ≡ sets out at t
placed-sets out at t h = placed-fits out at t h ∙ sym (sets-eq t out at h)

-- a fact of both cases
by-room : {P : Type 0} (out : List ℕ) (at : ℕ) (t : List ℕ)
    → (at + length t ≤ length out → P) → (length out < at + length t → P) → P
by-room {P} out at t fits past = go (leb (at + length t) (length out)) refl
  where
    go : (b : Bool) → leb (at + length t) (length out) ≡ b → P
    go true e = fits (leb-true (at + length t) (length out) e)
    go false e = past (leb-false (at + length t) (length out) e)

-- ---- the laws

-- a buffer keeps its length
pub placed-length : (out : List ℕ) (at : ℕ) (t : List ℕ) → length (placed out at t) ≡ length out
placed-length out at t =
    by-room out at t
    (λ fits. ap length (placed-sets out at t fits) ∙ length-sets out at t)
    (λ past. ap length (placed_past out at t past))

-- no bytes change nothing
pub placed-none : (out : List ℕ) (at : ℕ) → placed out at [] ≡ out
placed-none out at = by-room out at [] (placed-sets out at []) (placed_past out at [])

-- THE LAW: pieces one after the other are one piece
pub placed-joined : (out : List ℕ) (at : ℕ) (a b : List ℕ) → at + length (a ++ b) ≤ length out
    → placed (placed out at a) (at + length a) b ≡ placed out at (a ++ b)
placed-joined out at a b h =
    let whole : at + length a + length b ≤ length out = omega (arith, length-append a b) in
    let first : placed out at a ≡ sets out at a = placed-sets out at a (omega arith) in
    ap (λ (l : List ℕ). placed l (at + length a) b) first
    ∙ placed-sets (sets out at a) (at + length a) b (rw length-sets whole)
    ∙ sets-joined a b out at
    ∙ sym (placed-sets out at (a ++ b) h)

-- the law as a caller has it: a piece was put, and the next one behind it
pub placed-then : (out : List ℕ) (at : ℕ) (a b : List ℕ) {first both : List ℕ} {next : ℕ} → first ≡ placed out at a → next ≡ at + length a
    → both ≡ placed first next b → next + length b ≤ length out → both ≡ placed out at (a ++ b)
placed-then out at a b e n f h =
    f ∙ rw (e, n) (placed-joined out at a b (rw length-append (omega arith)))

-- one byte is one store
pub placed-byte : (out : List ℕ) (at b : ℕ) → at < length out → set out at b ≡ placed out at (b ∷ [])
placed-byte out at b h = sym (placed-sets out at (b ∷ []) (omega arith))

-- the last byte may be stored first
pub placed-last : (out : List ℕ) (at : ℕ) (t : List ℕ) (b : ℕ) → at + length t < length out
    → placed (set out (at + length t) b) at t ≡ placed out at (t ++ (b ∷ []))
placed-last out at t b h =
    placed-sets (set out (at + length t) b) at t (rw length-set (omega arith))
    ∙ sets_behind t out at (at + length t) b (omega arith)
    ∙ sets-joined t (b ∷ []) out at
    ∙ sym (placed-sets out at (t ++ (b ∷ [])) (rw length-append (omega arith)))
