-- Question 9: the instructions of a block, as a loop along its records meets them, and those whose effect is quiet.
use mathlib.Core.Path.{◌≡◌, refl, ◌∙◌}
use mathlib.Core.List.{List}
use mathlib.Core.Bool.{Bool, true, false, ◌||◌}
use Prim.Native.Nat.{ℕ, ◌+◌, ◌≤◌}
use native.Mathlib.Omega.{arith}
use lib.ListN.{length}
use lib.Dec.{eqb}
use borrow.Author.Tests.{ne_eqb}
use Rattle.layout.specs.Kinds as kind
use Rattle.layout.specs.Tests.{any}
use Rattle.layout.proofs.Rows.{Rows, choose-each}
use Rattle.program.specs.Program.{Instr, Line, Block, Version, Program, nowhere, instr_of, instr_by}
use Rattle.program.specs.Places.{view_at, past, block_at, instr_at}
use Rattle.program.proofs.Views.{view-end, Whole, at-version, at_block, at-line}
use Rattle.rules.specs.Effects.{reflective, covered}

-- does an instruction that lies ahead of p in its block pass the test?
abbrev pub any_ahead : (Instr → Bool) → List ℕ → ℕ → Bool
any_ahead f s p = any (λ (l : Line). f l.does) (view_at s p).code

pub none_ahead : (f : Instr → Bool) (s : List ℕ) (p : ℕ) → view_at s p ≡ nowhere → any_ahead f s p ≡ false
unfolding any
none_ahead f s p e = rw e

pub block-ahead : (f : Instr → Bool) (s : List ℕ) (b : ℕ) → any (λ (l : Line). f l.does) (block_at s b).code ≡ any_ahead f s (past s b)
unfolding block_at
block-ahead f s b = refl

pub none-outside : (f : Instr → Bool) (s : List ℕ) (b : ℕ) → length s ≤ b → any (λ (l : Line). f l.does) (block_at s b).code ≡ false
none-outside f s b h = block-ahead f s b ∙ none_ahead f s (past s b) (view-end s (past s b) (omega arith))

module _ (f : Instr → Bool) {s : List ℕ} {p n k : ℕ} (m : Whole s p n k) where
  pub version-ahead : k ≡ kind.VERSION → any_ahead f s p ≡ false
  unfolding any
  version-ahead e = rw (at-version m e)

  pub next-ahead : k ≡ kind.BLOCK → any_ahead f s p ≡ false
  unfolding any
  next-ahead e = rw (at_block m e)

  line-ahead : (k ≡ kind.VERSION → ⊥) → (k ≡ kind.BLOCK → ⊥) → any_ahead f s p ≡ (f (instr_at s p) || any_ahead f s (p + n))
  unfolding any instr_at
  line-ahead x y = rw (at-line m x y)

  pub met-ahead : (k ≡ kind.VERSION → ⊥) → (k ≡ kind.BLOCK → ⊥) → f (instr_at s p) ≡ true → any_ahead f s p ≡ true
  met-ahead x y e = line-ahead x y ∙ rw e

  pub passed-ahead : (k ≡ kind.VERSION → ⊥) → (k ≡ kind.BLOCK → ⊥) → f (instr_at s p) ≡ false → any_ahead f s p ≡ any_ahead f s (p + n)
  passed-ahead x y e = line-ahead x y ∙ rw e

-- all other instructions are quiet
pub is-quiet : (P : Program) (v : Version) (k : ℕ) (b : List ℕ) → (k ≡ kind.FORCE → ⊥) → (k ≡ kind.PEEK → ⊥) → (k ≡ kind.POKE → ⊥) → (k ≡ kind.CALL → ⊥) → (k ≡ kind.DISPATCH → ⊥) → reflective P v (instr_of k b) ≡ false
unfolding reflective instr_by Rows
is-quiet P v k b f pe po c d = choose-each (λ (i : Instr). reflective P v i ≡ false) k _ _ refl
    (λ e. refl, (λ e. refl, (λ e. refl, (λ e. refl, (λ e. refl, (λ e. refl, (λ e. refl, (λ e. refl, (λ e. refl, (λ e. refl, (λ e. refl, (λ e. refl, (λ e. refl, (λ e. absurd (f e), (λ e. absurd (pe e), (λ e. absurd (po e), (λ e. absurd (c e), (λ e. absurd (d e), (λ e. refl, tt)))))))))))))))))))

-- a block whose mark covers its effect, by its mark or its effect, and one whose mark does not
module _ (P : Program) (v : Version) (b : Block) where
  pub covers-mark : {m : ℕ} → m ≡ b.mark → m ≡ 1 → covered P v b ≡ true
  unfolding covered
  covers-mark e h = rw (← e, h)

  pub covers-quiet : any (λ (l : Line). reflective P v l.does) b.code ≡ false → covered P v b ≡ true
  unfolding covered
  covers-quiet e = rw e (go (eqb b.mark 1))
    where
      go : (t : Bool) → (t || true) ≡ true
      go true = refl
      go false = refl

  pub covers-not : {m : ℕ} → m ≡ b.mark → (m ≡ 1 → ⊥) → any (λ (l : Line). reflective P v l.does) b.code ≡ true → covered P v b ≡ false
  unfolding covered
  covers-not {m} e h x = rw (← e, ne_eqb m 1 h, x)
