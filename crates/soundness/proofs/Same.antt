-- Lists of the same instructions and of the same blocks, by number.
use mathlib.Core.Path.{◌≡◌, refl, ap}
use mathlib.Core.List.{List, [], ◌∷◌, map}
use mathlib.Core.Option.{none, some}
use Prim.Native.Nat.{ℕ, zero, suc}
use native.Mathlib.Omega.{arith}
use lib.ListN.{length, take, get_elem?}
use Rattle.program.specs.Program.{Line, Block, Version}
use Rattle.runs.specs.Alike.{bare_line, bare_block, Alike}

-- the same instructions
unfoldable pub SameCode : List Line → List Line → Type 0
SameCode [] [] = Unit {0}
SameCode [] (m ∷ ms) = ⊥
SameCode (l ∷ ls) [] = ⊥
SameCode (l ∷ ls) (m ∷ ms) = (l.does ≡ m.does) × SameCode ls ms

-- the same block
pub record SameBlock (x y : Block) : Type 0 where
  pub mark : x.mark ≡ y.mark
  pub result : x.result ≡ y.result
  pub code : SameCode x.code y.code

-- the same blocks, in order
unfoldable pub SameBlocks : List Block → List Block → Type 0
SameBlocks [] [] = Unit {0}
SameBlocks [] (y ∷ ys) = ⊥
SameBlocks (x ∷ xs) [] = ⊥
SameBlocks (x ∷ xs) (y ∷ ys) = SameBlock x y × SameBlocks xs ys

-- ---- versions that are alike

code_same : (ls ms : List Line) → map bare_line ls ≡ map bare_line ms → SameCode ls ms
unfolding SameCode
code_same [] [] h = tt
code_same [] (m ∷ ms) h = let z : ◌≡◌ {A = ℕ} 0 1 = cc in absurd (omega arith)
code_same (l ∷ ls) [] h = let z : ◌≡◌ {A = ℕ} 0 1 = cc in absurd (omega arith)
code_same (l ∷ ls) (m ∷ ms) h =
    let x : bare_line l ≡ bare_line m = cc in
    let y : map bare_line ls ≡ map bare_line ms = cc in
    (ap (λ (i : Line). i.does) x, code_same ls ms y)

blocks-same : (xs ys : List Block) → map bare_block xs ≡ map bare_block ys → SameBlocks xs ys
unfolding SameBlocks
blocks-same [] [] h = tt
blocks-same [] (y ∷ ys) h = let z : ◌≡◌ {A = ℕ} 0 1 = cc in absurd (omega arith)
blocks-same (x ∷ xs) [] h = let z : ◌≡◌ {A = ℕ} 0 1 = cc in absurd (omega arith)
blocks-same (x ∷ xs) (y ∷ ys) h =
    let e : bare_block x ≡ bare_block y = cc in
    let f : map bare_block xs ≡ map bare_block ys = cc in
    (record { mark = ap (λ (b : Block). b.mark) e; result = ap (λ (b : Block). b.result) e; code = code_same x.code y.code (ap (λ (b : Block). b.code) e) }, blocks-same xs ys f)

module _ (v w : Version) (h : Alike v w) where
  pub same-types : v.types ≡ w.types
  unfolding Alike
  same-types = ap (λ (u : Version). u.types) h

  pub same-return : v.return ≡ w.return
  unfolding Alike
  same-return = ap (λ (u : Version). u.return) h

  pub same_blocks : SameBlocks v.blocks w.blocks
  unfolding Alike
  same_blocks = blocks-same v.blocks w.blocks (ap (λ (u : Version). u.blocks) h)

-- ---- by number

-- up to an instruction
pub code-take : (i : ℕ) (ls ms : List Line) → SameCode ls ms → SameCode (take i ls) (take i ms)
unfolding SameCode
code-take zero ls ms h = tt
code-take (suc i) [] [] h = tt
code-take (suc i) [] (m ∷ ms) h = absurd h
code-take (suc i) (l ∷ ls) [] h = absurd h
code-take (suc i) (l ∷ ls) (m ∷ ms) h = (h.0, code-take i ls ms h.1)

-- the instruction i of both
pub code-there : (ls ms : List Line) (i : ℕ) (m : Line) → SameCode ls ms → get_elem? ms i ≡ some m → (l : Line) × (get_elem? ls i ≡ some l) × (l.does ≡ m.does)
unfolding SameCode
code-there ls [] i m h e = let z : ◌≡◌ {A = ℕ} 0 1 = cc in absurd (omega arith)
code-there [] (y ∷ ms) i m h e = absurd h
code-there (l ∷ ls) (y ∷ ms) zero m h e = let q : y ≡ m = cc in (l, refl, rw q at h.0)
code-there (l ∷ ls) (y ∷ ms) (suc i) m h e = code-there ls ms i m h.1 e

-- the end of both
pub code-missing : (ls ms : List Line) (i : ℕ) → SameCode ls ms → get_elem? ms i ≡ none → get_elem? ls i ≡ none
unfolding SameCode
code-missing [] ms i h e = refl
code-missing (l ∷ ls) [] i h e = absurd h
code-missing (l ∷ ls) (y ∷ ms) zero h e = let z : ◌≡◌ {A = ℕ} 0 1 = cc in absurd (omega arith)
code-missing (l ∷ ls) (y ∷ ms) (suc i) h e = code-missing ls ms i h.1 e

-- as many
pub code-length : (ls ms : List Line) → SameCode ls ms → length ls ≡ length ms
unfolding SameCode
code-length [] [] h = refl
code-length [] (m ∷ ms) h = absurd h
code-length (l ∷ ls) [] h = absurd h
code-length (l ∷ ls) (m ∷ ms) h = ap suc (code-length ls ms h.1)

-- the block b of both
pub block-there : (xs ys : List Block) (b : ℕ) (x : Block) → SameBlocks xs ys → get_elem? xs b ≡ some x → (y : Block) × (get_elem? ys b ≡ some y) × SameBlock x y
unfolding SameBlocks
block-there [] ys b x h e = let z : ◌≡◌ {A = ℕ} 0 1 = cc in absurd (omega arith)
block-there (a ∷ xs) [] b x h e = absurd h
block-there (a ∷ xs) (y ∷ ys) zero x h e = let q : a ≡ x = cc in (y, refl, rw q at h.0)
block-there (a ∷ xs) (y ∷ ys) (suc b) x h e = block-there xs ys b x h.1 e

-- a block that one has not the other has not
pub block-missing : (xs ys : List Block) (b : ℕ) → SameBlocks xs ys → get_elem? xs b ≡ none → get_elem? ys b ≡ none
unfolding SameBlocks
block-missing [] [] b h e = refl
block-missing [] (y ∷ ys) b h e = absurd h
block-missing (a ∷ xs) [] b h e = absurd h
block-missing (a ∷ xs) (y ∷ ys) zero h e = let z : ◌≡◌ {A = ℕ} 0 1 = cc in absurd (omega arith)
block-missing (a ∷ xs) (y ∷ ys) (suc b) h e = block-missing xs ys b h.1 e
