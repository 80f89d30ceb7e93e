-- What is few: registers in the sets of an action, and versions of an image that question 4 passed.
use Rattle.std.specs.Prelude.{None}
use mathlib.Core.Path.{◌≡◌, refl, ap}
use mathlib.Core.List.{List, [], ◌∷◌, map}
use mathlib.Core.Option.{Option, none, some}
use mathlib.Core.Bool.{Bool, true, false, cond}
use Prim.Native.Nat.{ℕ, zero, suc, ◌+◌, ◌-◌, ◌≤◌, ◌<◌}
use native.Mathlib.Omega.{arith}
use lib.ListN.{length, take, drop, get_or, set, replicate}
use lib.Dec.{eqb, ltb}
use borrow.Author.Tests.{eqb-false, ltb-true}
use Rattle.layout.specs.Bounds.{ALL-VERSIONS, REGISTERS, INSTRUCTIONS}
use Rattle.layout.specs.Kinds as kind
use Rattle.layout.specs.Records.{Rec, choose}
use Rattle.layout.specs.Scan.{scan}
use Rattle.layout.specs.Questions.{question4, placed, in_order, due_after, none_due}
use Rattle.layout.specs.Tests.{◌and◌}
use Rattle.layout.specs.declared.Due.{Due}
use Rattle.layout.proofs.Bools.{and_both}
use Rattle.layout.proofs.Lists.{Each}
use Rattle.layout.proofs.Rows.{Rows, choose-each}
use Rattle.sets.specs.Sets.{Set, both, size, empty, those}
use Rattle.sets.proofs.Sizes.{length_none, length-those}
use Rattle.program.specs.Program.{Instr, Line, Block, Version, Program, program}
use Rattle.program.proofs.Laid.{passed}
use Rattle.program.proofs.Programs.{no-versions, program-version, program-other}
use Rattle.rules.specs.Actions.{Action, Touch, Walk, reads◌empties◌assigns◌, enters◌assigns◌, reads◌skips◌, clash, joined, either, join, ◌then◌}
use Rattle.rules.specs.Actions.{here, past, walk, start, along, enter, actions, body_action, promised, action_of, touch, reading, touching}

-- ---- sets

length-map : (f : Bool → Bool) (s : Set) → length (map f s) ≡ length s
length-map f [] = refl
length-map f (a ∷ s) = ap suc (length-map f s)

both-few : (f : Bool → Bool → Bool) (s t : Set) (k : ℕ) → length s ≤ k → length t ≤ k → length (both f s t) ≤ k
unfolding both
both-few f [] t k h l = omega (arith, length-map (f false) t)
both-few f (a ∷ s) [] k h l = omega (arith, length-map (λ x. f x false) s)
both-few f (a ∷ s) (b ∷ t) k h l = omega (arith, both-few f s t (k - 1) (omega (arith, h)) (omega (arith, l)))

-- no more are in than there are
pub size_few : (s : Set) → size s ≤ length s
unfolding size
size_few [] = omega arith
size_few (a ∷ s) = go a (size_few s)
  where
    go : (b : Bool) → size s ≤ length s → cond b 1 0 + size s ≤ suc (length s)
    go true h = omega (arith, h)
    go false h = omega (arith, h)

-- ---- actions

-- each set is one of at most 16 registers
pub record Sixteen (a : Action) : Type 0 where
  pub R : length a.R ≤ REGISTERS
  pub W : length a.W ≤ REGISTERS
  pub U : length a.U ≤ REGISTERS
  pub C : length a.C ≤ REGISTERS

-- of an action, if there is one
unfoldable pub Small : Option Action → Type 0
Small none = Unit {0}
Small (some a) = Sixteen a

then-small : (x y : Option Action) → Small x → Small y → Small (x then y)
unfolding ◌then◌ Small joined
then-small none y h l = tt
then-small (some a) none h l = tt
then-small (some a) (some b) h l = go (clash a b)
  where
    go : (t : Bool) → Small (cond t none (some (joined a b)))
    go true = tt
    go false = record {
      R = both-few _ _ _ 16 h.R (both-few _ _ _ 16 l.R h.W);
      W = both-few _ _ _ 16 h.W l.W;
      U = both-few _ _ _ 16 (both-few _ _ _ 16 h.U l.U) l.W;
      C = both-few _ _ _ 16 h.C l.C;
    }

join-small : (x y : Option Action) → Small x → Small y → Small (join x y)
unfolding join Small either
join-small none y h l = tt
join-small (some a) none h l = h
join-small (some a) (some b) h l = record {
  R = both-few _ _ _ 16 h.R l.R;
  W = both-few _ _ _ 16 h.W l.W;
  U = both-few _ _ _ 16 h.U l.U;
  C = both-few _ _ _ 16 h.C l.C;
}

those-few : (rs : List ℕ) → length (those 16 rs) ≤ 16
those-few rs = omega (arith, length-those 16 rs)

none-few : length (empty 16) ≤ 16
none-few = omega (arith, length_none 16)

touching-small : (rs us ds : List ℕ) → Small (touching rs us ds)
unfolding Small
touching-small rs us ds = record { R = those-few rs; W = those-few ds; U = those-few us; C = none-few }

reading_small : (rs : List ℕ) → Small (reading rs)
unfolding Small
reading_small rs = record { R = those-few rs; W = none-few; U = none-few; C = none-few }

promised-small : (w : Set) (x : Option Action) → length w ≤ 16 → Small x → Small (promised w x)
unfolding promised Small
promised-small w none h l = tt
promised-small w (some a) h l = record { R = l.R; W = h; U = l.U; C = both-few _ _ _ 16 (both-few _ _ _ 16 (both-few _ _ _ 16 l.R l.W) l.U) l.C }

action-small : (f : ℕ → Option Action) → ((n : ℕ) → Small (f n)) → (t : Touch) → Small (action_of f t)
unfolding action_of
action-small f h (reads rs empties us assigns ds) = touching-small rs us ds
action-small f h (enters block assigns ds) = promised-small (those 16 ds) (f block) (those-few ds) (h block)
action-small f h (reads rs skips n) = reading_small rs

-- ---- lists of them

get-small : (l : List (Option Action)) (n : ℕ) → Each Small l → Small (get_or l n none)
unfolding Each Small
get-small [] n h = tt
get-small (x ∷ l) zero h = h.0
get-small (x ∷ l) (suc n) h = get-small l n h.1

drop-small : (l : List (Option Action)) → Each Small l → Each Small (drop 1 l)
unfolding Each
drop-small [] h = tt
drop-small (x ∷ l) h = h.1

set-small : (l : List (Option Action)) (n : ℕ) (x : Option Action) → Each Small l → Small x → Each Small (set l n x)
unfolding Each
set-small [] n x h e = tt
set-small (y ∷ l) zero x h e = (e, h.1)
set-small (y ∷ l) (suc n) x h e = (h.0, set-small l n x h.1 e)

none-small : (n : ℕ) → Each Small (replicate n none)
unfolding Each Small
none-small zero = tt
none-small (suc n) = (tt, none-small n)

-- ---- along a block

record Ways (w : Walk) : Type 0 where
  done : Small w.done
  ways : Each Small w.ways

here-small : (w : Walk) → Ways w → Small (here w)
unfolding here
here-small w h = join-small _ _ h.done (get-small w.ways 0 h.ways)

past-small : (skip : Option ℕ) (b : Option Action) (w : Walk) → Small b → Ways w → Ways (past skip b w)
unfolding past Small
past-small none b w e h = record { done = then-small (here w) b (here-small w h) e; ways = drop-small w.ways h.ways }
past-small (some n) b w e h =
    let later = drop-small w.ways h.ways in
    let x = then-small (here w) b (here-small w h) e in
    record { done = go (ltb n (length (drop 1 w.ways))) x; ways = set-small _ n _ later (join-small _ _ x (get-small (drop 1 w.ways) n later)) }
  where
    go : (t : Bool) → Small (here w then b) → Small (cond t (here w then b) none)
    go true x = x
    go false x = tt

walk-small : (skip : Instr → Option ℕ) (act : Instr → Option Action) → ((i : Instr) → Small (act i)) → (w : Walk) (ls : List Line) → Ways w → Ways (walk skip act w ls)
unfolding walk
walk-small skip act f w [] h = h
walk-small skip act f w (l ∷ ls) h = walk-small skip act f (past (skip l.does) (act l.does) w) ls (past-small (skip l.does) (act l.does) w (f l.does) h)

along-small : (skip : Instr → Option ℕ) (act : Instr → Option Action) → ((i : Instr) → Small (act i)) → (result : ℕ) (ls : List Line) → Small (along skip act result ls)
along-small skip act f result ls =
    let w = walk-small skip act f (start ls) ls (record { done = reading_small []; ways = none-small (length (take INSTRUCTIONS ls) + 1) }) in
    then-small _ _ (here-small _ w) (reading_small (result ∷ []))

enter-small : (n : ℕ) (above : List (Option Action)) → Each Small above → (block : ℕ) → Small (enter n above block)
unfolding enter Small
enter-small n above h block = go (ltb n block)
  where
    go : (t : Bool) → Small (cond t (get_or above (block - (n + 1)) none) none)
    go true = get-small above (block - (n + 1)) h
    go false = tt

actions-small : (P : Program) (n : ℕ) (bs : List Block) → Each Small (actions P n bs)
unfolding actions Each
actions-small P n [] = tt
actions-small P n (b ∷ bs) =
    let above = actions-small P (n + 1) bs in
    (along-small _ _ (λ i. action-small _ (enter-small n (actions P (n + 1) bs) above) (touch P i)) b.result b.code, above)

-- THE LAW: the sets of a body are of at most 16 registers
pub body-small : (P : Program) (v : Version) → Small (body_action P v)
body-small P v = get-small (actions P 0 v.blocks) 0 (actions-small P 0 v.blocks)

-- ---- versions

-- none but a VERSION counts
due-same : (d : Due) (r : Rec) → eqb r.kind kind.VERSION ≡ false → (due_after d r).versions ≡ d.versions
unfolding due_after Rows
due-same d r e = choose-each (λ (x : Due). x.versions ≡ d.versions) r.kind _ _ refl (λ h. absurd (eqb-false r.kind kind.VERSION e h), (λ h. refl, (λ h. refl, tt)))

due-next : (d : Due) (r : Rec) → eqb r.kind kind.VERSION ≡ true → in_order d r.kind ≡ true → ((due_after d r).versions ≡ d.versions + 1) × (d.versions < ALL-VERSIONS)
unfolding due_after in_order choose
due-next d r e h = (rw e refl, ltb-true _ _ (and_both _ _ (rw e at h)).0)

few-due : (end : ℕ) (d : Due) (rs : List Rec) → d.versions ≤ ALL-VERSIONS → scan placed due_after (none_due end) d rs ≡ None → d.versions + length (program rs) ≤ ALL-VERSIONS
unfolding scan
few-due end d [] h e = omega (arith, ap length no-versions)
few-due end d (r ∷ rs) h e = go (eqb r.kind kind.VERSION) refl (λ l. few-due end (due_after d r) rs l p.1)
  where
    p : ((ltb 0 r.size and placed d r) ≡ true) × (scan placed due_after (none_due end) (due_after d r) rs ≡ None)
    p = passed _ _ _ e

    whole : 0 < r.size
    whole = ltb-true 0 r.size (and_both _ _ p.0).0

    order : in_order d r.kind ≡ true
    order = (and_both _ _ (and_both _ _ p.0).1).1

    Left : Type 0
    Left = (due_after d r).versions ≤ ALL-VERSIONS → (due_after d r).versions + length (program rs) ≤ ALL-VERSIONS

    go : (v : Bool) → eqb r.kind kind.VERSION ≡ v → Left → d.versions + length (program (r ∷ rs)) ≤ ALL-VERSIONS
    go true ev ih =
        let t = due-next d r ev order in
        omega (arith, t.0, t.1, ap length (program-version r rs whole ev), ih (omega (arith, t.0, t.1)))
    go false ev ih =
        let t = due-same d r ev in
        omega (arith, t, ap length (program-other r rs whole ev), ih (omega (arith, t, h)))

-- THE LAW: at most 64
pub few-versions : (end : ℕ) (rs : List Rec) → question4 end rs ≡ None → length (program rs) ≤ ALL-VERSIONS
unfolding question4
few-versions end rs e = omega (arith, few-due end _ rs (omega arith) e)
