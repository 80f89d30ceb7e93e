-- Blocks and instructions of the program that an image and a table stand for, by their numbers.
use Rattle.std.specs.Prelude.{None, Some}
use mathlib.Core.Path.{◌≡◌, refl, sym, ap, ◌∙◌}
use mathlib.Core.List.{List, [], ◌∷◌}
use mathlib.Core.Bool.{Bool, true, false, cond}
use mathlib.Core.Option.{none, some}
use Prim.Native.Nat.{ℕ, zero, suc, ◌+◌, ◌*◌, ◌≤◌, ◌<◌}
use native.Mathlib.Nat.{add-zero}
use native.Mathlib.Omega.{arith}
use lib.ListN.{length, get_elem?, take}
use lib.Dec.{leb}
use borrow.Author.Tests.{le-leb, leb-true, lt-leb, ne_eqb}
use Rattle.layout.specs.Records.{◌!◌}
use Rattle.layout.specs.Bounds.{INSTRUCTIONS}
use Rattle.layout.proofs.Fields.{fields_at, every-past}
use Rattle.layout.proofs.Lists.{get_none}
use Rattle.program.specs.Program.{Block, first_mark, mark_of}
use Rattle.machine.specs.Steps.{instruction, block_end, outside, position}
use Rattle.loaded.specs.Loaded.{instr_in, lines_in, count_in, entry_in, block_in, blocks_in, mark_by, record_at, version_in}
use Rattle.loaded.specs.Answers.{block_of, next_of}
use Rattle.loaded.specs.declared.Next.{Next}

module _ (s t : List ℕ) where
  pub length-lines : (k n : ℕ) → length (lines_in s t k n) ≡ n
  unfolding lines_in
  length-lines k zero = refl
  length-lines k (suc n) = ap suc (length-lines (k + 1) n)

  pub length-blocks : (k n : ℕ) → length (blocks_in s t k n) ≡ n
  unfolding blocks_in
  length-blocks k zero = refl
  length-blocks k (suc n) = ap suc (length-blocks (k + 1) n)

  -- the block b of n
  pub block_at : (k n b : ℕ) → b < n → get_elem? (blocks_in s t k n) b ≡ some (block_in s t (entry_in t (k + b)))
  unfolding blocks_in
  block_at k zero b h = absurd (omega arith)
  block_at k (suc n) zero h = rw add-zero refl
  block_at k (suc n) (suc b) h = let e : k + 1 + b ≡ k + suc b = omega arith in rw (← e) (block_at (k + 1) n b (omega arith))

  pub no_block : (k n b : ℕ) → n ≤ b → get_elem? (blocks_in s t k n) b ≡ none
  no_block k n b h = get_none (blocks_in s t k n) b (rw (length-blocks k n) h)

  -- the instruction i of n, of which the first m count
  pub line_at : (m k n i : ℕ) → i < m → i < n → position (take m (lines_in s t k n)) i ≡ instruction (instr_in s t (k + i))
  unfolding lines_in position
  line_at zero k n i h l = absurd (omega arith)
  line_at (suc m) k zero i h l = absurd (omega arith)
  line_at (suc m) k (suc n) zero h l = rw add-zero refl
  line_at (suc m) k (suc n) (suc i) h l = let e : k + 1 + i ≡ k + suc i = omega arith in rw (← e) (line_at m (k + 1) n i (omega arith) (omega arith))

  -- their end
  pub line-end : (m k n i : ℕ) → i ≤ m → i ≤ n → (i < m → i < n → ⊥) → position (take m (lines_in s t k n)) i ≡ block_end
  unfolding lines_in position
  line-end zero k zero zero h l x = refl
  line-end zero k zero (suc i) h l x = absurd (omega arith)
  line-end zero k (suc n) zero h l x = refl
  line-end zero k (suc n) (suc i) h l x = absurd (omega arith)
  line-end (suc m) k zero zero h l x = refl
  line-end (suc m) k zero (suc i) h l x = absurd (omega arith)
  line-end (suc m) k (suc n) zero h l x = absurd (x (omega arith) (omega arith))
  line-end (suc m) k (suc n) (suc i) h l x = line-end m (k + 1) n i (omega arith) (omega arith) (λ a b. x (omega arith) (omega arith))

  -- behind it
  pub no_line : (m k n i : ℕ) → (i ≤ m → i ≤ n → ⊥) → position (take m (lines_in s t k n)) i ≡ outside
  unfolding lines_in position
  no_line zero k zero zero x = absurd (x (omega arith) (omega arith))
  no_line zero k zero (suc i) x = refl
  no_line zero k (suc n) zero x = absurd (x (omega arith) (omega arith))
  no_line zero k (suc n) (suc i) x = refl
  no_line (suc m) k zero zero x = absurd (x (omega arith) (omega arith))
  no_line (suc m) k zero (suc i) x = refl
  no_line (suc m) k (suc n) zero x = absurd (x (omega arith) (omega arith))
  no_line (suc m) k (suc n) (suc i) x = no_line m (k + 1) n i (λ a b. x (omega arith) (omega arith))

-- ---- as a look-up answers it

module _ (s t : List ℕ) (k b : ℕ) {m : ℕ} (counted : m ≡ length (version_in s t k).blocks) where
  pub found-block : {e : ℕ} → b < m → e ≡ entry_in t (128 + 8 * k + b) → block_of s t (Some e) ≡ get_elem? (version_in s t k).blocks b
  unfolding block_of version_in
  found-block l x = let n = counted ∙ length-blocks s t (128 + 8 * k) (s ! (entry_in t k + 7)) in sym (block_at s t (128 + 8 * k) (s ! (entry_in t k + 7)) b (omega arith) ∙ rw x refl)

  pub missing-block : m ≤ b → block_of s t None ≡ get_elem? (version_in s t k).blocks b
  unfolding block_of version_in
  missing-block l = let n = counted ∙ length-blocks s t (128 + 8 * k) (s ! (entry_in t k + 7)) in sym (no_block s t (128 + 8 * k) (s ! (entry_in t k + 7)) b (omega arith))

module _ (s t : List ℕ) (e n : ℕ) {m : ℕ} (counted : m ≡ length (block_in s t e).code) where
  many : m ≡ count_in t e
  unfolding block_in
  many = counted ∙ length-lines s t (e + 1) (count_in t e)

  pub next-line : n < 48 → n < m → next_of s t (Some (Next.Line (e + 1 + n))) ≡ position (take INSTRUCTIONS (block_in s t e).code) n
  unfolding next_of block_in
  next-line a l = let c = many in sym (line_at s t 48 (e + 1) (count_in t e) n a (omega arith))

  pub next-end : n ≤ 48 → n ≤ m → (n < 48 → n < m → ⊥) → next_of s t (Some Next.End) ≡ position (take INSTRUCTIONS (block_in s t e).code) n
  unfolding next_of block_in
  next-end a l x = let c = many in sym (line-end s t 48 (e + 1) (count_in t e) n a (omega arith) (λ h g. x h (omega arith)))

  pub next-outside : (n ≤ 48 → n ≤ m → ⊥) → next_of s t None ≡ position (take INSTRUCTIONS (block_in s t e).code) n
  unfolding next_of block_in
  next-outside x = let c = many in sym (no_line s t 48 (e + 1) (count_in t e) n (λ h g. x h (omega arith)))

-- how many instructions a block has
module _ (t : List ℕ) (i : ℕ) {n : ℕ} (counted : n ≡ t ! (record_at i + 3)) where
  pub all_placed : record_at (i + 1 + n) ≤ length t → n ≡ count_in t i
  unfolding count_in
  all_placed h = rw (sym counted, le-leb (record_at (i + 1 + n)) (length t) h) refl

  pub not-placed : length t < record_at (i + 1 + n) → 0 ≡ count_in t i
  unfolding count_in
  not-placed h = rw (sym counted, lt-leb (record_at (i + 1 + n)) (length t) h) refl

-- the records of a block's instructions stand within the table
pub record-within : (t : List ℕ) (i n : ℕ) → n < count_in t i → record_at (i + 1 + n) + 8 ≤ length t
unfolding count_in
record-within t i n = go (leb (record_at (i + 1 + t ! (record_at i + 3))) (length t)) refl
  where
    go : (b : Bool) → leb (record_at (i + 1 + t ! (record_at i + 3))) (length t) ≡ b → n < cond b (t ! (record_at i + 3)) 0 → record_at (i + 1 + n) + 8 ≤ length t
    go true q l = let m = leb-true (record_at (i + 1 + t ! (record_at i + 3))) (length t) q in omega arith
    go false q l = absurd (omega arith)

-- the type of a register
module _ (s t : List ℕ) (k r : ℕ) {e m : ℕ} (placed : e ≡ entry_in t k) (counted : m ≡ s ! (e + 5)) where
  pub type-inside : {x : ℕ} → r < m → x ≡ s ! (e + 8 + r) → x ≡ (version_in s t k).types ! r
  unfolding version_in
  type-inside l h = let c : m ≡ s ! (entry_in t k + 5) = rw placed at counted in h ∙ rw placed (sym (fields_at s (entry_in t k + 8) (s ! (entry_in t k + 5)) r (omega arith)))

  pub type-outside : m ≤ r → 0 ≡ (version_in s t k).types ! r
  unfolding version_in
  type-outside l = let c : m ≡ s ! (entry_in t k + 5) = rw placed at counted in sym (every-past s (entry_in t k + 8) 1 (s ! (entry_in t k + 5)) r (omega arith))

-- a mark by its byte
pub quiet_by : {x y : ℕ} → x ≡ y → x ≡ 0 → 0 ≡ mark_by y
unfolding mark_by
quiet_by e z = rw (sym e ∙ z) refl

pub reflective-by : {x y : ℕ} → x ≡ y → (x ≡ 0 → ⊥) → 1 ≡ mark_by y
unfolding mark_by
reflective-by {y = y} e z = rw (ne_eqb y 0 (λ w. z (e ∙ w))) refl

-- one that is in bounds says itself
pub mark-is : (x : ℕ) → x < 2 → x ≡ mark_by x
unfolding mark_by
mark-is zero l = refl
mark-is (suc zero) l = refl
mark-is (suc (suc x)) l = absurd (omega arith)

-- the mark of a version, by its block 0
pub marked : (s t : List ℕ) (k e : ℕ) → block_of s t (Some e) ≡ get_elem? (version_in s t k).blocks 0 → (block_in s t e).mark ≡ mark_of (version_in s t k)
unfolding block_of first_mark
marked s t k e h = go (version_in s t k).blocks h
  where
    go : (bs : List Block) → some (block_in s t e) ≡ get_elem? bs 0 → (block_in s t e).mark ≡ first_mark bs
    go [] h = let z : ◌≡◌ {A = ℕ} 0 1 = cc in absurd (omega arith)
    go (b ∷ bs) h = let z : block_in s t e ≡ b = cc in ap (λ (x : Block). x.mark) z

pub unmarked : (s t : List ℕ) (k : ℕ) → block_of s t None ≡ get_elem? (version_in s t k).blocks 0 → 0 ≡ mark_of (version_in s t k)
unfolding block_of first_mark
unmarked s t k h = go (version_in s t k).blocks h
  where
    go : (bs : List Block) → none ≡ get_elem? bs 0 → 0 ≡ first_mark bs
    go [] h = refl
    go (b ∷ bs) h = let z : ◌≡◌ {A = ℕ} 0 1 = cc in absurd (omega arith)
