-- A block and all that its PROMs enter, their blocks' PROMs included: from the body on, that is no more than all blocks together, since each is named once.
use mathlib.Core.Path.{◌≡◌, refl, sym, ap, ◌∙◌}
use mathlib.Core.Logic.{◌⊎◌, inl, inr}
use mathlib.Core.List.{List, [], ◌∷◌, ◌++◌}
use mathlib.Core.Option.{some}
use mathlib.Core.Bool.{Bool, true, false, cond}
use Prim.Native.Nat.{ℕ, zero, suc, ◌+◌, ◌≤◌, ◌<◌}
use native.Mathlib.Decide.{dec_lt}
use native.Mathlib.Omega.{arith}
use lib.ListN.{length, get_or, get_elem?}
use lib.Dec.{eqb, ltb}
use borrow.Author.Tests.{ne_eqb, eqb-true, eqb-false, lt-ltb, le-ltb, ltb-true}
use Rattle.layout.specs.Tests.{◌and◌, count}
use Rattle.layout.proofs.Bools.{and_both}
use Rattle.layout.proofs.Lists.{get-some, get_in}
use Rattle.program.specs.Program.{Instr, LIT, MOVE, USE, DUP, VEC, LEN, GET, SET, ARITH, SELECT, CAST, NAMED, STORE, PROM, FORCE, PEEK, POKE, CALL, DISPATCH, SKIP, Line, Block, Version, Program}
use Rattle.program.specs.Questions.{names_block, namings, exists, register_exists, block_named}
use Rattle.rules.proofs.Follows.{or-either}
use Rattle.checker.proofs.Accepted.{Checked}
use Rattle.soundness.proofs.Invariant.{no_block}
use Rattle.bounds.specs.Bounds.{steps_to, steps_in}

-- ---- sums

-- n numbers from k on
unfoldable pub sum_from : (ℕ → ℕ) → ℕ → ℕ → ℕ
sum_from f k zero = 0
sum_from f k (suc n) = f k + sum_from f (suc k) n

pub sum-last : (f : ℕ → ℕ) (k n : ℕ) → sum_from f k (suc n) ≡ sum_from f k n + f (k + n)
unfolding sum_from
sum-last f k zero = let e : k + 0 ≡ k = omega arith in rw e (omega arith)
sum-last f k (suc n) =
    let e : suc k + n ≡ k + suc n = omega arith in
    let g : sum_from f (suc k) (suc n) ≡ sum_from f (suc k) n + f (k + suc n) = rw e at (sum-last f (suc k) n) in
    omega (arith, g)

-- ---- what a PROM enters

-- by what each block is worth
unfoldable pub promised : (ℕ → ℕ) → Instr → ℕ
promised T (LIT d i) = 0
promised T (MOVE d a) = 0
promised T (USE d a) = 0
promised T (DUP d a) = 0
promised T (VEC d rs) = 0
promised T (LEN d a) = 0
promised T (GET d a i) = 0
promised T (SET a i e) = 0
promised T (ARITH d op a b) = 0
promised T (SELECT d c a b) = 0
promised T (CAST d a) = 0
promised T (NAMED d x) = 0
promised T (STORE x a) = 0
promised T (PROM d block) = T block
promised T (FORCE d a) = 0
promised T (PEEK d a x) = 0
promised T (POKE a x e) = 0
promised T (SKIP a n) = 0
promised T (CALL d f w rs) = 0
promised T (DISPATCH d f mark ret pairs) = 0

-- it is a PROM, or nothing is entered
pub data Enters (i : Instr) : Type 0 where
  proms : (d b : ℕ) → i ≡ PROM d b → Enters i
  plain : ((T : ℕ → ℕ) → promised T i ≡ 0) → ((n : ℕ) → names_block n i ≡ false) → Enters i

pub enters : (i : Instr) → Enters i
unfolding promised names_block
enters (LIT d i) = plain (λ T. refl) (λ n. refl)
enters (MOVE d a) = plain (λ T. refl) (λ n. refl)
enters (USE d a) = plain (λ T. refl) (λ n. refl)
enters (DUP d a) = plain (λ T. refl) (λ n. refl)
enters (VEC d rs) = plain (λ T. refl) (λ n. refl)
enters (LEN d a) = plain (λ T. refl) (λ n. refl)
enters (GET d a i) = plain (λ T. refl) (λ n. refl)
enters (SET a i e) = plain (λ T. refl) (λ n. refl)
enters (ARITH d op a b) = plain (λ T. refl) (λ n. refl)
enters (SELECT d c a b) = plain (λ T. refl) (λ n. refl)
enters (CAST d a) = plain (λ T. refl) (λ n. refl)
enters (NAMED d x) = plain (λ T. refl) (λ n. refl)
enters (STORE x a) = plain (λ T. refl) (λ n. refl)
enters (PROM d block) = proms d block refl
enters (FORCE d a) = plain (λ T. refl) (λ n. refl)
enters (PEEK d a x) = plain (λ T. refl) (λ n. refl)
enters (POKE a x e) = plain (λ T. refl) (λ n. refl)
enters (SKIP a n) = plain (λ T. refl) (λ n. refl)
enters (CALL d f w rs) = plain (λ T. refl) (λ n. refl)
enters (DISPATCH d f mark ret pairs) = plain (λ T. refl) (λ n. refl)

-- what these instructions' PROMs enter
unfoldable pub promised_by : (ℕ → ℕ) → List Line → ℕ
promised_by T [] = 0
promised_by T (l ∷ ls) = promised T l.does + promised_by T ls

-- every PROM of these instructions names a block that T and S value alike
abbrev Alike : (ℕ → ℕ) → (ℕ → ℕ) → List Line → Type 0
Alike T S ls = (i : ℕ) (l : Line) (d b : ℕ) → get_elem? ls i ≡ some l → l.does ≡ PROM d b → T b ≡ S b

promised-same : (T S : ℕ → ℕ) (i : Instr) → ((d b : ℕ) → i ≡ PROM d b → T b ≡ S b) → promised T i ≡ promised S i
unfolding promised
promised-same T S i h = go (enters i)
  where
    go : Enters i → promised T i ≡ promised S i
    go (proms d b e) = rw e (h d b e)
    go (plain p q) = p T ∙ sym (p S)

module _ (price : Instr → ℕ) where
  -- these instructions, their block end, and what their PROMs enter
  unfoldable pub tree : (ℕ → ℕ) → List Line → ℕ
  tree T [] = 1
  tree T (l ∷ ls) = price l.does + promised T l.does + tree T ls

  tree-same : (T S : ℕ → ℕ) (ls : List Line) → Alike T S ls → tree T ls ≡ tree S ls
  unfolding tree
  tree-same T S [] h = refl
  tree-same T S (l ∷ ls) h =
      let a = promised-same T S l.does (λ d b e. h 0 l d b refl e) in
      let b = tree-same T S ls (λ i x d b e g. h (suc i) x d b e g) in
      omega arith

  tree-parts : (T : ℕ → ℕ) (ls : List Line) → tree T ls ≡ steps_to price ls + promised_by T ls
  unfolding tree steps_to promised_by
  tree-parts T [] = refl
  tree-parts T (l ∷ ls) = omega (arith, tree-parts T ls)

  -- the block b with all that is entered from it, n deep
  unfoldable pub worth_in : List Block → ℕ → ℕ → ℕ
  worth_in bs zero b = 0
  worth_in bs (suc n) b = tree (worth_in bs n) (get_or bs b no_block).code

-- ---- every PROM's block is above its own, and there

abbrev pub Upward : List Block → Type 0
Upward bs = (n : ℕ) (x : Block) (i : ℕ) (l : Line) (d b : ℕ) → get_elem? bs n ≡ some x → get_elem? x.code i ≡ some l → l.does ≡ PROM d b → (n < b) × (b < length bs)

module _ (price : Instr → ℕ) (bs : List Block) (up : Upward bs) where
  -- deep enough is deep enough
  worth-deep : (n b : ℕ) → b < length bs → length bs ≤ b + n → worth_in price bs (suc n) b ≡ worth_in price bs n b
  unfolding worth_in
  worth-deep zero b h k = absurd (omega arith)
  worth-deep (suc n) b h k = tree-same price (worth_in price bs (suc n)) (worth_in price bs n) (get_or bs b no_block).code
      (λ i l d c e g. let u = up b (get_or bs b no_block) i l d c (get-some bs b no_block h) e g in worth-deep n c u.1 (omega (arith, u.0)))

  -- the worth of a block: itself and all that is entered from it
  abbrev pub worth : ℕ → ℕ
  worth = worth_in price bs (length bs)

  pub worth-is : (b : ℕ) → b < length bs → worth b ≡ tree price worth (get_or bs b no_block).code
  unfolding worth_in
  worth-is b h = sym (worth-deep (length bs) b h (omega arith))

-- ---- each block is named once

-- all instructions
unfoldable pub all_code : List Block → List Line
all_code [] = []
all_code (b ∷ bs) = b.code ++ all_code bs

promised-append : (T : ℕ → ℕ) (ls ms : List Line) → promised_by T (ls ++ ms) ≡ promised_by T ls + promised_by T ms
unfolding promised_by
promised-append T [] ms = omega arith
promised-append T (l ∷ ls) ms = omega (arith, promised-append T ls ms)

abbrev names : ℕ → Line → Bool
names n l = names_block n l.does

count-append : (n : ℕ) (ls ms : List Line) → count (names n) (ls ++ ms) ≡ count (names n) ls + count (names n) ms
unfolding count
count-append n [] ms = omega arith
count-append n (l ∷ ls) ms = omega (arith, count-append n ls ms)

namings-count : (n : ℕ) (bs : List Block) → namings n bs ≡ count (names n) (all_code bs)
unfolding namings all_code count
namings-count n [] = refl
namings-count n (b ∷ bs) = ap (λ (k : ℕ). count (names n) b.code + k) (namings-count n bs) ∙ sym (count-append n b.code (all_code bs))

-- the blocks below n alone
unfoldable under : (ℕ → ℕ) → ℕ → ℕ → ℕ
under T n b = cond (ltb b n) (T b) 0

-- one more block, that a PROM does not name, or names
under_one : (T : ℕ → ℕ) (n : ℕ) (i : Instr) → promised (under T (suc n)) i ≡ promised (under T n) i + cond (names_block n i) (T n) 0
unfolding promised names_block under
under_one T n i = go (enters i)
  where
    at : (b : ℕ) (t : Bool) → eqb b n ≡ t → cond (ltb b (suc n)) (T b) 0 ≡ cond (ltb b n) (T b) 0 + cond t (T n) 0
    at b true e = let q = eqb-true b n e in rw (q, lt-ltb n (suc n) (omega arith), le-ltb n n (omega arith)) (omega arith)
    at b false e = less (dec_lt b n)
      where
        less : Dec (b < n) → cond (ltb b (suc n)) (T b) 0 ≡ cond (ltb b n) (T b) 0 + cond false (T n) 0
        less (yes k) = rw (lt-ltb b (suc n) (omega arith), lt-ltb b n k) (omega arith)
        less (no k) = let q = eqb-false b n e in rw (le-ltb b (suc n) (omega arith), le-ltb b n (omega arith)) refl

    go : Enters i → promised (under T (suc n)) i ≡ promised (under T n) i + cond (names_block n i) (T n) 0
    go (proms d b e) = rw e (at b (eqb b n) refl)
    go (plain p q) = rw (p (under T (suc n)), p (under T n), q n) refl

-- by instructions that do not name it
under_none : (T : ℕ → ℕ) (n : ℕ) (ls : List Line) → count (names n) ls ≡ 0 → promised_by (under T (suc n)) ls ≡ promised_by (under T n) ls
unfolding promised_by count
under_none T n [] h = refl
under_none T n (l ∷ ls) h = go (names_block n l.does) refl (under_none T n ls)
  where
    go : (t : Bool) → names_block n l.does ≡ t → (count (names n) ls ≡ 0 → promised_by (under T (suc n)) ls ≡ promised_by (under T n) ls) → promised (under T (suc n)) l.does + promised_by (under T (suc n)) ls ≡ promised (under T n) l.does + promised_by (under T n) ls
    go true e ih = let m : 1 + count (names n) ls ≡ 0 = rw e at h in absurd (omega arith)
    go false e ih = let m : 0 + count (names n) ls ≡ 0 = rw e at h in
        let a : promised (under T (suc n)) l.does ≡ promised (under T n) l.does + 0 = rw e at (under_one T n l.does) in
        omega (arith, a, ih (omega arith))

-- by instructions that name it once
under-once : (T : ℕ → ℕ) (n : ℕ) (ls : List Line) → count (names n) ls ≤ 1 → promised_by (under T (suc n)) ls ≤ promised_by (under T n) ls + T n
unfolding promised_by count
under-once T n [] h = omega arith
under-once T n (l ∷ ls) h = go (names_block n l.does) refl (under-once T n ls)
  where
    go : (t : Bool) → names_block n l.does ≡ t → (count (names n) ls ≤ 1 → promised_by (under T (suc n)) ls ≤ promised_by (under T n) ls + T n) → promised (under T (suc n)) l.does + promised_by (under T (suc n)) ls ≤ promised (under T n) l.does + promised_by (under T n) ls + T n
    go true e ih = let m : 1 + count (names n) ls ≤ 1 = rw e at h in
        let a : promised (under T (suc n)) l.does ≡ promised (under T n) l.does + T n = rw e at (under_one T n l.does) in
        omega (arith, a, under_none T n ls (omega arith))
    go false e ih = let m : 0 + count (names n) ls ≤ 1 = rw e at h in
        let a : promised (under T (suc n)) l.does ≡ promised (under T n) l.does + 0 = rw e at (under_one T n l.does) in
        omega (arith, a, ih (omega arith))

-- no block is below 0
under-zero : (T : ℕ → ℕ) (i : Instr) → promised (under T 0) i ≡ 0
unfolding promised under
under-zero T i = go (enters i)
  where
    go : Enters i → promised (under T 0) i ≡ 0
    go (proms d b e) = rw (e, le-ltb b 0 (omega arith)) refl
    go (plain p q) = p (under T 0)

under-nothing : (T : ℕ → ℕ) (ls : List Line) → promised_by (under T 0) ls ≡ 0
unfolding promised_by
under-nothing T [] = refl
under-nothing T (l ∷ ls) = omega (arith, under-zero T l.does, under-nothing T ls)

-- the body by none, each other block by one at most: together they enter no more than these blocks
entered-sum : (T : ℕ → ℕ) (ls : List Line) → count (names 0) ls ≡ 0 → (n : ℕ) → ((b : ℕ) → 0 < b → b < suc n → count (names b) ls ≤ 1) → promised_by (under T (suc n)) ls ≤ sum_from T 1 n
unfolding sum_from
entered-sum T ls z zero h = omega (arith, under_none T 0 ls z, under-nothing T ls)
entered-sum T ls z (suc n) h =
    let a = entered-sum T ls z n (λ b p q. h b p (omega arith)) in
    let b = under-once T (suc n) ls (h (suc n) (omega arith) (omega arith)) in
    let c : sum_from T 1 (suc n) ≡ sum_from T 1 n + T (suc n) = let e : 1 + n ≡ suc n = omega arith in rw e at (sum-last T 1 n) in
    omega (arith, a, b, c)

-- ---- the body and all that is entered from it

module _ (price : Instr → ℕ) (T : ℕ → ℕ) where
  -- of a list of blocks, that from k on, each is worth its tree
  sum-trees : (bs : List Block) (k : ℕ) → ((i : ℕ) (b : Block) → get_elem? bs i ≡ some b → T (k + i) ≡ tree price T b.code) → sum_from T k (length bs) ≡ steps_in price bs + promised_by T (all_code bs)
  unfolding sum_from steps_in all_code promised_by
  sum-trees [] k h = refl
  sum-trees (b ∷ bs) k h =
      let z : k + 0 ≡ k = omega arith in
      let a : T k ≡ tree price T b.code = rw z at (h 0 b refl) in
      let r = sum-trees bs (suc k) (λ i x e. let m : suc k + i ≡ k + suc i = omega arith in rw m (h (suc i) x e)) in
      omega (arith, a, r, tree-parts price T b.code, promised-append T b.code (all_code bs))

-- PROMs name blocks that are there, so those above do not matter
under_all : (T : ℕ → ℕ) (n : ℕ) (ls : List Line) → ((i : ℕ) (l : Line) (d b : ℕ) → get_elem? ls i ≡ some l → l.does ≡ PROM d b → b < n) → promised_by (under T n) ls ≡ promised_by T ls
unfolding promised_by under
under_all T n [] h = refl
under_all T n (l ∷ ls) h =
    let a = promised-same (under T n) T l.does (λ d b e. inside b (h 0 l d b refl e)) in
    omega (arith, a, under_all T n ls (λ i x d b e g. h (suc i) x d b e g))
  where
    inside : (b : ℕ) → b < n → under T n b ≡ T b
    inside b k = rw (lt-ltb b n k) refl

-- what is found in two lists of instructions stands in one of them
get-append : (ls ms : List Line) (i : ℕ) (l : Line) → get_elem? (ls ++ ms) i ≡ some l → ((j : ℕ) × (get_elem? ls j ≡ some l)) ⊎ ((j : ℕ) × (get_elem? ms j ≡ some l))
get-append [] ms i l e = inr (i, e)
get-append (x ∷ ls) ms zero l e = inl (0, e)
get-append (x ∷ ls) ms (suc i) l e = go (get-append ls ms i l e)
  where
    go : ((j : ℕ) × (get_elem? ls j ≡ some l)) ⊎ ((j : ℕ) × (get_elem? ms j ≡ some l)) → ((j : ℕ) × (get_elem? (x ∷ ls) j ≡ some l)) ⊎ ((j : ℕ) × (get_elem? ms j ≡ some l))
    go (inl (j, h)) = inl (suc j, h)
    go (inr h) = inr h

-- and what is found in the instructions of all blocks
found_in : (bs : List Block) (i : ℕ) (l : Line) → get_elem? (all_code bs) i ≡ some l → (n : ℕ) × (x : Block) × (j : ℕ) × (get_elem? bs n ≡ some x) × (get_elem? x.code j ≡ some l)
unfolding all_code
found_in [] i l e = let z : ◌≡◌ {A = ℕ} 0 1 = cc in absurd (omega arith)
found_in (b ∷ bs) i l e = go (get-append b.code (all_code bs) i l e) (λ j h. found_in bs j l h)
  where
    Found : List Block → Type 0
    Found cs = (n : ℕ) × (x : Block) × (j : ℕ) × (get_elem? cs n ≡ some x) × (get_elem? x.code j ≡ some l)

    go : ((j : ℕ) × (get_elem? b.code j ≡ some l)) ⊎ ((j : ℕ) × (get_elem? (all_code bs) j ≡ some l)) → ((j : ℕ) → get_elem? (all_code bs) j ≡ some l → Found bs) → Found (b ∷ bs)
    go (inl (j, h)) ih = (0, b, j, refl, h)
    go (inr (j, h)) ih = let t = ih j h in (suc t.0, t.1, t.2, t.3, t.4)

-- none names it
count_none : (n : ℕ) (ls : List Line) → ((i : ℕ) (l : Line) → get_elem? ls i ≡ some l → names_block n l.does ≡ false) → count (names n) ls ≡ 0
unfolding count
count_none n [] h = refl
count_none n (l ∷ ls) h = rw (h 0 l refl) (omega (arith, count_none n ls (λ i x e. h (suc i) x e)))

-- a PROM that names a block above another does not name 0
not-zero : (i : Instr) → ((d b : ℕ) → i ≡ PROM d b → 0 < b) → names_block 0 i ≡ false
unfolding names_block
not-zero i h = go (enters i)
  where
    go : Enters i → names_block 0 i ≡ false
    go (proms d b e) = let k = h d b e in rw e (ne_eqb b 0 (λ z. absurd (omega arith)))
    go (plain p q) = q 0

-- ---- a checked version

module _ (P : Program) (v : Version) (ck : Checked P v) where
  pub upward : Upward v.blocks
  unfolding exists
  upward n x i l d b h g e =
      let t : (register_exists v d and ltb n b and ltb b (length v.blocks)) ≡ true = rw e at (ck.exist.of_instr n x i l h g) in
      let u = and_both _ _ (and_both _ _ t).1 in
      (ltb-true n b u.0, ltb-true b (length v.blocks) u.1)

  named-once : (b : ℕ) → 0 < b → b < length v.blocks → count (names b) (all_code v.blocks) ≤ 1
  unfolding block_named
  named-once b h k = go (or-either _ _ (and_both _ _ (ck.exist.of_block b (get_or v.blocks b no_block) (get-some v.blocks b no_block k))).1)
    where
      go : (eqb b 0 ≡ true) ⊎ (eqb (namings b v.blocks) 1 ≡ true) → count (names b) (all_code v.blocks) ≤ 1
      go (inl e) = absurd (omega (arith, eqb-true b 0 e))
      go (inr e) = omega (arith, eqb-true (namings b v.blocks) 1 e, namings-count b v.blocks)

  module _ (price : Instr → ℕ) where
    abbrev pub worth_of : ℕ → ℕ
    worth_of = worth_in price v.blocks (length v.blocks)

    -- THE LAW: the body and all that is entered from it take no more steps than all blocks together
    pub body-worth : 0 < length v.blocks → worth_of 0 ≤ steps_in price v.blocks
    unfolding sum_from
    body-worth h = go (length v.blocks) refl h
      where
        ls : List Line
        ls = all_code v.blocks

        whole : sum_from worth_of 0 (length v.blocks) ≡ steps_in price v.blocks + promised_by worth_of ls
        whole = sum-trees price worth_of v.blocks 0 (λ i b e.
            let m : 0 + i ≡ i = omega arith in
            let g = get_in v.blocks i no_block b e in
            rw m (worth-is price v.blocks upward i g.0 ∙ ap (λ (x : Block). tree price worth_of x.code) g.1))

        above : (i : ℕ) (l : Line) (d b : ℕ) → get_elem? ls i ≡ some l → l.does ≡ PROM d b → (0 < b) × (b < length v.blocks)
        above i l d b e g = let t = found_in v.blocks i l e in let u = upward t.0 t.1 t.2 l d b t.3 t.4 g in (omega (arith, u.0), u.1)

        go : (n : ℕ) → length v.blocks ≡ n → 0 < n → worth_of 0 ≤ steps_in price v.blocks
        go zero e k = absurd (omega arith)
        go (suc n) e k =
            let w : sum_from worth_of 0 (suc n) ≡ steps_in price v.blocks + promised_by worth_of ls = ap (sum_from worth_of 0) (sym e) ∙ whole in
            let p = entered-sum worth_of ls (count_none 0 ls (λ i l q. not-zero l.does (λ d b g. (above i l d b q g).0))) n (λ b x y. named-once b x (omega (arith, e))) in
            let q = under_all worth_of (suc n) ls (λ i l d b x g. let u = above i l d b x g in omega (arith, u.1, e)) in
            omega (arith, w, p, q)
