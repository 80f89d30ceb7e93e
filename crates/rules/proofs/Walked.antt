-- What a block does, by what the blocks that it enters do.
use mathlib.Core.Path.{◌≡◌, refl, ap, ◌∙◌, fun_ext}
use mathlib.Core.List.{List, [], ◌∷◌}
use mathlib.Core.Option.{Option, none, some}
use mathlib.Core.Bool.{Bool, true, false, cond}
use Prim.Native.Nat.{ℕ, zero, suc, ◌+◌, ◌-◌, ◌<◌}
use native.Mathlib.Nat.{add-zero, zero-add, sub-zero}
use native.Mathlib.Omega.{arith}
use lib.ListN.{get_or, get_elem?}
use lib.Dec.{ltb}
use borrow.Author.Tests.{ltb-true}
use Rattle.program.specs.Program.{Block, Version, Program}
use Rattle.rules.specs.Actions.{Action, touch, action_of, skip_of, along, enter, actions}
use Rattle.rules.specs.Walks.{block_action, acts, skips_of}

-- the block b with the blocks that it enters, where `does` says what each block does
abbrev walked : Program → ℕ → (ℕ → Option Action) → Block → Option Action
walked P b does x = along (skips_of P) (λ i. action_of (λ e. cond (ltb b e) (does e) none) (touch P i)) x.result x.code

walked-ext : (P : Program) (b : ℕ) (f g : ℕ → Option Action) (x : Block) → ((e : ℕ) → b < e → f e ≡ g e) → walked P b f x ≡ walked P b g x
walked-ext P b f g x h = ap (λ (k : ℕ → Option Action). along (skips_of P) (λ i. action_of k (touch P i)) x.result x.code) (fun_ext (λ e. go e (ltb b e) refl))
  where
    go : (e : ℕ) (t : Bool) → ltb b e ≡ t → cond t (f e) none ≡ cond t (g e) none
    go e true p = h e (ltb-true b e p)
    go e false p = refl

later : (n e : ℕ) (a : Option Action) (l : List (Option Action)) → n < e → get_or l (e - (n + 1)) none ≡ get_or (a ∷ l) (e - n) none
later n e a l h = let m : e - n ≡ suc (e - (n + 1)) = omega arith in rw m

walked_from : (P : Program) (n : ℕ) (bs : List Block) (i : ℕ) (x : Block) → get_elem? bs i ≡ some x → get_or (actions P n bs) i none ≡ walked P (n + i) (λ e. get_or (actions P n bs) (e - n) none) x
unfolding actions enter
walked_from P n [] i x h = let z : ◌≡◌ {A = ℕ} 0 1 = cc in absurd (omega arith)
walked_from P n (b ∷ bs) zero x h =
    let y : x ≡ b = cc in rw (y, add-zero) (walked-ext P n (λ e. get_or (actions P (n + 1) bs) (e - (n + 1)) none) (λ e. get_or (actions P n (b ∷ bs)) (e - n) none) b (λ e lt. later n e (get_or (actions P n (b ∷ bs)) 0 none) (actions P (n + 1) bs) lt))
walked_from P n (b ∷ bs) (suc i) x h =
    let m : n + suc i ≡ n + 1 + i = omega arith in
    walked_from P (n + 1) bs i x h
    ∙ rw m (walked-ext P (n + 1 + i) (λ e. get_or (actions P (n + 1) bs) (e - (n + 1)) none) (λ e. get_or (actions P n (b ∷ bs)) (e - n) none) x (λ e lt. later n e (get_or (actions P n (b ∷ bs)) 0 none) (actions P (n + 1) bs) (omega arith)))

-- THE LAW of flow: what the block b of a version does, by what the blocks that it enters do
pub walked_at : (P : Program) (v : Version) (b : ℕ) (x : Block) → get_elem? v.blocks b ≡ some x → block_action P v b ≡ along (skips_of P) (acts P v b) x.result x.code
walked_at P v b x h = simp (zero-add, sub-zero) at (walked_from P 0 v.blocks b x h)

-- a block that is not there does nothing that is allowed
missing-from : (P : Program) (n : ℕ) (bs : List Block) (b : ℕ) → get_elem? bs b ≡ none → get_or (actions P n bs) b none ≡ none
unfolding actions
missing-from P n [] b h = refl
missing-from P n (x ∷ bs) zero h = let z : ◌≡◌ {A = ℕ} 0 1 = cc in absurd (omega arith)
missing-from P n (x ∷ bs) (suc b) h = missing-from P (n + 1) bs b h

pub walked-missing : (P : Program) (v : Version) (b : ℕ) → get_elem? v.blocks b ≡ none → block_action P v b ≡ none
walked-missing P v b h = missing-from P 0 v.blocks b h
