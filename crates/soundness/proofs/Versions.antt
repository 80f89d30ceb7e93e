-- What a checked version gives, whatever the state.
use mathlib.Core.Path.{◌≡◌}
use mathlib.Core.Logic.{◌⊎◌, inl, inr}
use mathlib.Core.List.{List, [], ◌∷◌}
use mathlib.Core.Option.{some}
use mathlib.Core.Bool.{Bool, true, false, cond, not, ◌||◌}
use Prim.Native.Nat.{ℕ, zero, suc, ◌+◌, ◌<◌}
use native.Mathlib.Nat.{add-zero, zero-add}
use native.Mathlib.Omega.{arith}
use lib.ListN.{length, get_or, get_elem?}
use lib.Dec.{eqb, ltb}
use borrow.Author.Tests.{eqb-true, ltb-true, not-true}
use Rattle.layout.specs.Bounds.{REGISTERS}
use Rattle.layout.specs.Tests.{◌and◌, all_from, any}
use Rattle.layout.proofs.Bools.{and_both}
use Rattle.program.specs.Program.{Line, Block, Version, Program}
use Rattle.program.specs.Questions.{register_exists, block_named}
use Rattle.rules.specs.Types.{kind_of, ownership_of, is_shared, is_owned, is_borrowed, is_vector, parameter_type, register_type}
use Rattle.rules.specs.Fits.{type_of, integer}
use Rattle.rules.specs.Effects.{reflective, covered}
use Rattle.rules.specs.Questions.{type_allowed, version_types}
use Rattle.rules.proofs.Follows.{or-either}
use Rattle.rules.proofs.Rules.{return-kinds, Yields, body-yields, promise-yields}
use Rattle.checker.proofs.Accepted.{Checked}
use Rattle.soundness.proofs.Types.{clash, vector-kind}
use Rattle.runs.proofs.Lists.{any_at}
use Rattle.checker.proofs.Limits.{limited}

all-at : (p : ℕ → ℕ → Bool) (n : ℕ) (l : List ℕ) (i : ℕ) → all_from p n l ≡ true → i < length l → p (n + i) (get_or l i 0) ≡ true
unfolding all_from
all-at p n [] i h l = absurd (omega arith)
all-at p n (x ∷ xs) zero h l = rw add-zero (and_both _ _ h).0
all-at p n (x ∷ xs) (suc i) h l = let m : n + suc i ≡ n + 1 + i = omega arith in rw m (all-at p (n + 1) xs i (and_both _ _ h).1 (omega arith))

-- an owned or borrowed type is a vector's
pub parameter-vector : (t : ℕ) → parameter_type t ≡ true → (is_owned t ≡ true) ⊎ (is_borrowed t ≡ true) → kind_of t ≡ 3
unfolding parameter_type is_shared is_owned is_borrowed
parameter-vector t h o = go (or-either _ _ (and_both _ _ h).1) o
  where
    go : (is_shared t ≡ true) ⊎ (((is_owned t || is_borrowed t) and is_vector t) ≡ true) → (is_owned t ≡ true) ⊎ (is_borrowed t ≡ true) → kind_of t ≡ 3
    go (inl e) (inl x) = absurd (omega (arith, eqb-true (ownership_of t) 0 e, eqb-true (ownership_of t) 1 x))
    go (inl e) (inr x) = absurd (omega (arith, eqb-true (ownership_of t) 0 e, eqb-true (ownership_of t) 2 x))
    go (inr e) x = vector-kind t (and_both _ _ e).1

module _ (P : Program) (v : Version) (c : Checked P v) where
  -- ---- question 7

  pub register-in : (r : ℕ) → register_exists v r ≡ true → r < REGISTERS
  register-in r h = omega (arith, (limited P v c).registers, ltb-true r (length v.types) h)

  pub result-exists : (n : ℕ) (b : Block) → get_elem? v.blocks n ≡ some b → register_exists v b.result ≡ true
  unfolding block_named
  result-exists n b h = (and_both _ _ (c.exist.of_block n b h)).0

  -- ---- question 6

  pub type-allowed : (r : ℕ) → r < length v.types → parameter_type (type_of v r) ≡ true
  unfolding version_types type_allowed register_type
  type-allowed r h = go (ltb r v.parameters) (rw zero-add at (all-at (type_allowed v.parameters) 0 v.types r (and_both _ _ c.types.of_version).0 h))
    where
      go : (b : Bool) → cond b (parameter_type (type_of v r)) (register_type (type_of v r)) ≡ true → parameter_type (type_of v r) ≡ true
      go true e = e
      go false e = (and_both _ _ e).0

  pub return-kind : (kind_of v.return ≡ 1) ⊎ (kind_of v.return ≡ 2) ⊎ (kind_of v.return ≡ 3)
  unfolding version_types
  return-kind = return-kinds v.return (and_both _ _ c.types.of_version).1

  -- ---- question 8

  pub promise-result : (n : ℕ) (b : Block) → get_elem? v.blocks n ≡ some b → 0 < n → integer v b.result ≡ true
  promise-result n b h p = promise-yields v n b p (c.fit.of_block n b h)

  pub body-result : (b : Block) → get_elem? v.blocks 0 ≡ some b → Yields v b
  body-result b h = body-yields v b (c.fit.of_block 0 b h)

  -- ---- question 9

  pub covers : (n : ℕ) (b : Block) (i : ℕ) (l : Line) → get_elem? v.blocks n ≡ some b → get_elem? b.code i ≡ some l → reflective P v l.does ≡ true → b.mark ≡ 1
  unfolding covered
  covers n b i l h g e = go (or-either _ _ (c.cover.of_block n b h))
    where
      go : (eqb b.mark 1 ≡ true) ⊎ (not (any (λ (l : Line). reflective P v l.does) b.code) ≡ true) → b.mark ≡ 1
      go (inl x) = eqb-true _ 1 x
      go (inr x) = clash (any_at (λ (l : Line). reflective P v l.does) b.code i l g e) (not-true _ x)
