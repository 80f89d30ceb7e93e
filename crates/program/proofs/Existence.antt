-- Question 7: registers that exist, and PROMs that name a block.
use Rattle.std.specs.Prelude.{None, Some}
use mathlib.Core.Path.{◌≡◌, refl, sym, ap, ◌∙◌}
use mathlib.Core.List.{List}
use mathlib.Core.Bool.{Bool, true, false, cond}
use Prim.Native.Nat.{ℕ, ◌+◌, ◌-◌, ◌≤◌, ◌<◌}
use native.Mathlib.Nat.{zero-add}
use native.Mathlib.Omega.{arith}
use lib.ListN.{length}
use lib.Dec.{ltb}
use Rattle.layout.specs.Kinds as kind
use Rattle.layout.specs.Tests.{all, count}
use Rattle.layout.specs.Records.{◌!◌, every, body_at}
use Rattle.layout.proofs.Fields.{length-every, all_map}
use Rattle.layout.proofs.Rows.{Rows, choose-each}
use Rattle.program.specs.Program.{Argument, Instr, Line, View, nowhere, arguments, instr_of, instr_by}
use Rattle.program.proofs.Forms.{argument-registers}
use Rattle.program.specs.Places.{view_at, past, version_at, block_at, instr_at, block_place}
use Rattle.program.specs.Questions.{names_block, namings}
use Rattle.layout.proofs.Lists.{none-past, get_in}
use Rattle.program.proofs.Lookups.{block-found, block-missing}
use Rattle.program.proofs.Views.{view-end, Whole, at-version, at_block, at-line}

-- ---- registers and blocks

pub registers-count : (s : List ℕ) (v : ℕ) → length (version_at s v).types ≡ body_at s v ! 3
unfolding version_at
registers-count s v = length-every (body_at s v) 6 1 (body_at s v ! 3)

pub block-exists : (s : List ℕ) (v b q : ℕ) → block_place s v b ≡ Some q → b < length (version_at s v).blocks
block-exists s v b q e = (get_in (version_at s v).blocks b (block_at s q) (block_at s q) (block-found s v b q e)).0

pub block-lacks : (s : List ℕ) (v b : ℕ) → block_place s v b ≡ None → length (version_at s v).blocks ≤ b
block-lacks s v b e = none-past (version_at s v).blocks b (block-missing s v b e)

-- ---- PROMs that name a block

-- only a PROM names a block
pub names-none : (n k : ℕ) (b : List ℕ) → (k ≡ kind.PROM → ⊥) → names_block n (instr_of k b) ≡ false
unfolding names_block instr_by Rows
names-none n k b h = choose-each (λ (i : Instr). names_block n i ≡ false) k _ _ refl
    (λ e. refl, (λ e. refl, (λ e. refl, (λ e. refl, (λ e. refl, (λ e. refl, (λ e. refl, (λ e. refl, (λ e. refl, (λ e. refl, (λ e. refl, (λ e. refl, (λ e. absurd (h e), (λ e. refl, (λ e. refl, (λ e. refl, (λ e. refl, (λ e. refl, (λ e. refl, tt)))))))))))))))))))

-- how many name the block n, of what is seen; before the first block of a version no instruction counts
unfoldable pub namings_seen : ℕ → Bool → View → ℕ
namings_seen n begun w = cond begun (count (λ (l : Line). names_block n l.does) w.code) 0 + namings n w.blocks

pub none_seen : (n : ℕ) (begun : Bool) → namings_seen n begun nowhere ≡ 0
unfolding namings_seen namings count
none_seen n true = refl
none_seen n false = refl

pub seen_first : (s : List ℕ) (v n : ℕ) → namings n (version_at s v).blocks ≡ namings_seen n false (view_at s (past s v))
unfolding namings_seen version_at
seen_first s v n = sym (zero-add _)

pub seen-outside : (s : List ℕ) (v n : ℕ) → length s ≤ v → namings n (version_at s v).blocks ≡ 0
seen-outside s v n h = seen_first s v n ∙ rw (view-end s (past s v) (omega arith)) (none_seen n false)

module _ {s : List ℕ} {p m k : ℕ} (w : Whole s p m k) (n : ℕ) where
  pub seen-version : (begun : Bool) → k ≡ kind.VERSION → namings_seen n begun (view_at s p) ≡ 0
  unfolding namings_seen namings count
  seen-version true e = rw (at-version w e)
  seen-version false e = rw (at-version w e)

  pub seen-block : (begun : Bool) → k ≡ kind.BLOCK → namings_seen n begun (view_at s p) ≡ namings_seen n true (view_at s (p + m))
  unfolding namings_seen namings count block_at
  seen-block true e = rw (at_block w e, ← w.size, zero-add)
  seen-block false e = rw (at_block w e, ← w.size, zero-add)

  pub seen-stray : (k ≡ kind.VERSION → ⊥) → (k ≡ kind.BLOCK → ⊥) → namings_seen n false (view_at s p) ≡ namings_seen n false (view_at s (p + m))
  unfolding namings_seen
  seen-stray x y = rw (at-line w x y)

  seen-line : (k ≡ kind.VERSION → ⊥) → (k ≡ kind.BLOCK → ⊥) → namings_seen n true (view_at s p) ≡ cond (names_block n (instr_at s p)) 1 0 + namings_seen n true (view_at s (p + m))
  unfolding namings_seen count instr_at
  seen-line x y = rw (at-line w x y) (omega arith)

  pub seen-named : (k ≡ kind.VERSION → ⊥) → (k ≡ kind.BLOCK → ⊥) → names_block n (instr_at s p) ≡ true → namings_seen n true (view_at s p) ≡ 1 + namings_seen n true (view_at s (p + m))
  seen-named x y e = seen-line x y ∙ rw e

  pub seen_other : (k ≡ kind.VERSION → ⊥) → (k ≡ kind.BLOCK → ⊥) → names_block n (instr_at s p) ≡ false → namings_seen n true (view_at s p) ≡ namings_seen n true (view_at s (p + m))
  seen_other x y e = seen-line x y ∙ rw (e, zero-add)

-- the registers of a DISPATCH's pairs are every second field
pub pairs-exist : (f : ℕ → Bool) (b : List ℕ) (k n : ℕ) → all (λ (a : Argument). f a.register) (arguments b k n) ≡ all f (every b (k + 1) 2 n)
pairs-exist f b k n = all_map f (λ (a : Argument). a.register) (arguments b k n) ∙ ap (all f) (argument-registers b k n)

-- a test of registers, as the code has their count and the length of their list
pub all_same : {r m n l : ℕ} (b : List ℕ) (k step : ℕ) → r ≡ m → n ≡ l → all (λ x. ltb x r) (every b k step n) ≡ all (λ x. ltb x m) (every b k step l)
all_same b k step e f = rw (e, f)
