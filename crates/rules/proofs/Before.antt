-- Filling a register again (02, 9): what was accepted by the rules before remains so, with the same action.
use mathlib.Core.Path.{◌≡◌, refl, sym, ap, ◌∙◌, subst}
use mathlib.Core.Logic.{◌⊎◌, inl, inr, ⊎_elim}
use mathlib.Core.List.{List, [], ◌∷◌}
use mathlib.Core.Option.{Option, none, some}
use mathlib.Core.Bool.{Bool, true, false, cond, ◌||◌, true≢false}
use Prim.Native.Nat.{ℕ, zero, suc, ◌+◌, ◌-◌, ◌≤◌}
use native.Mathlib.Omega.{arith}
use lib.ListN.{length, take, drop, get_or, set, replicate}
use lib.Seq.{get_or-drop}
use lib.Dec.{ltb}
use Rattle.layout.specs.Bounds.{REGISTERS, INSTRUCTIONS}
use Rattle.layout.specs.Tests.{found}
use Rattle.sets.specs.Sets as Sets
use Rattle.sets.specs.Sets.{Set, both, below, those, ◌∪◌, ◌∖◌, meets}
use Rattle.sets.proofs.Sizes.{both_first, both-second, length_none, length-those, union-none, none-union, apart-minus, meets-union}
use Rattle.program.specs.Program.{Instr, Line, Block, Version, Program}
use Rattle.rules.specs.Actions.{Action, clash, joined, ◌then◌, ∅, reading, touching, promised, Touch, reads◌empties◌assigns◌, enters◌assigns◌, reads◌skips◌, touch, action_of, skip_of, either, Walk, join, here, past, walk, start, along, enter, actions, body_action}
use Rattle.rules.specs.Before.{clash₀, joined₀, ◌then₀◌, emptying, assigning, action_of₀, past₀, walk₀, along₀, actions₀, body_action₀, flows₀}
use Rattle.rules.specs.Flows.{flows}
use Rattle.rules.proofs.Follows.{or-neither, or-none}
use Rattle.rules.proofs.Ways.{some_is}

-- ---- one action then another

not_some : {A B : Type 0} {x : A} → none ≡ some x → B
not_some e = let z : ◌≡◌ {A = ℕ} 0 1 = cc in absurd (omega arith)

-- R and U say something of each of the 16 registers
pub record Wide (a : Action) : Type 0 where
  pub read : 16 ≤ length a.R
  pub emptied : 16 ≤ length a.U

-- of a single instruction: it assigns none that it empties, and its W is no longer, as a list, than its U
pub record Single (b : Action) : Type 0 where
  pub apart : meets b.U b.W ≡ false
  pub shorter : length b.W ≤ length b.U

-- what was allowed is allowed
still-clear : (a b : Action) → clash₀ a b ≡ false → clash a b ≡ false
unfolding clash clash₀
still-clear a b h =
    let x4 = or-neither _ (meets a.C b.U) h in
    let x3 = or-neither _ (meets a.U b.C) x4.0 in
    let x2 = or-neither _ (meets a.U b.U) x3.0 in
    let x1 = or-neither (meets a.U b.R) (meets a.U b.W) x2.0 in
    or-none (or-none (or-none x1.0 x2.1) x3.1) x4.1

assigns-none : (a b : Action) → clash₀ a b ≡ false → meets a.U b.W ≡ false
unfolding clash₀
assigns-none a b h =
    let x4 = or-neither _ (meets a.C b.U) h in
    let x3 = or-neither _ (meets a.U b.C) x4.0 in
    let x2 = or-neither _ (meets a.U b.U) x3.0 in
    (or-neither (meets a.U b.R) (meets a.U b.W) x2.0).1

same-joined : (a b : Action) → clash₀ a b ≡ false → Single b → joined₀ a b ≡ joined a b
unfolding joined joined₀
same-joined a b h s =
    let e : (a.U ∪ b.U) ∖ b.W ≡ a.U ∪ b.U = apart-minus (a.U ∪ b.U) b.W (omega (arith, s.shorter, both-second ◌||◌ a.U b.U)) (meets-union a.U b.U b.W (assigns-none a b h) s.apart) in
    rw e refl

-- THE LAW of "then": with a single instruction on the right, what it gave it gives
pub still-then : (a b c : Action) → Single b → (some a then₀ some b) ≡ some c → (some a then some b) ≡ some c
unfolding ◌then◌ ◌then₀◌
still-then a b c s h = go (clash₀ a b) refl h
  where
    go : (t : Bool) → clash₀ a b ≡ t → cond t none (some (joined₀ a b)) ≡ some c → cond (clash a b) none (some (joined a b)) ≡ some c
    go true e g = not_some g
    go false e g = rw (still-clear a b e, sym (same-joined a b e s)) g

-- both parts of what was allowed
record Parts₀ (x y : Option Action) (c : Action) : Type 0 where
  first : Action
  second : Action
  is-first : x ≡ some first
  is-second : y ≡ some second
  clear : clash₀ first second ≡ false
  is-joined : joined₀ first second ≡ c

then₀-parts : (x y : Option Action) (c : Action) → (x then₀ y) ≡ some c → Parts₀ x y c
unfolding ◌then₀◌
then₀-parts none y c h = not_some h
then₀-parts (some a) none c h = not_some h
then₀-parts (some a) (some b) c h = go (clash₀ a b) refl h
  where
    go : (t : Bool) → clash₀ a b ≡ t → cond t none (some (joined₀ a b)) ≡ some c → Parts₀ (some a) (some b) c
    go true e g = not_some g
    go false e g = record { first = a; second = b; is-first = refl; is-second = refl; clear = e; is-joined = some_is g }

joined-wide : (a b : Action) → Wide a → Wide (joined₀ a b)
unfolding joined₀
joined-wide a b w = record { read = omega (arith, w.read, both_first ◌||◌ a.R (b.R ∖ a.W)); emptied = omega (arith, w.emptied, both_first ◌||◌ a.U b.U) }

-- ---- single instructions

-- what was done by an instruction is done by it, and it is a single one
pub record Same (o : Option Action) (b : Action) : Type 0 where
  pub is_same : o ≡ some b
  pub single : Single b

same-as : {a b : Action} → a ≡ b → Single a → Same (some a) b
same-as e s = record { is_same = ap some e; single = subst Single e s }

-- what A then A' was, where A and A' are known
known : (a b : Action) {x y : Option Action} {c : Action} → (p : Parts₀ x y c) → p.first ≡ a → p.second ≡ b → (clash₀ a b ≡ false) × (joined₀ a b ≡ c)
known a b {c = c} p e f = (
  subst (λ (z : Action). clash₀ a z ≡ false) f (subst (λ (z : Action). clash₀ z p.second ≡ false) e p.clear),
  subst (λ (z : Action). joined₀ a z ≡ c) f (subst (λ (z : Action). joined₀ z p.second ≡ c) e p.is-joined),
)

four : {r r' w w' u u' c c' : Set} → r ≡ r' → w ≡ w' → u ≡ u' → c ≡ c' → ◌≡◌ {A = Action} (record { R = r; W = w; U = u; C = c }) (record { R = r'; W = w'; U = u'; C = c' })
four e f g h = cc

wide : (ts : List ℕ) → 16 ≤ length (those 16 ts)
wide ts = omega (arith, length-those 16 ts)

module _ (rs us ds : List ℕ) where
  read : Action
  read = record { R = those 16 rs; W = ∅; U = ∅; C = ∅ }

  empty : Action
  empty = record { R = ∅; W = ∅; U = those 16 us; C = ∅ }

  assign : Action
  assign = record { R = ∅; W = those 16 ds; U = ∅; C = ∅ }

  all_three : Action
  all_three = record { R = those 16 rs; W = those 16 ds; U = those 16 us; C = ∅ }

  three-joined : joined₀ (joined₀ read empty) assign ≡ all_three
  unfolding joined₀ read empty assign all_three both Sets.empty
  three-joined = four
      (union-none 16 (those 16 rs ∪ ∅) (omega (arith, wide rs, both_first ◌||◌ (those 16 rs) ∅)) ∙ union-none 16 (those 16 rs) (wide rs))
      (none-union 16 (those 16 ds) (wide ds))
      (union-none 16 (∅ ∪ those 16 us) (omega (arith, wide us, both-second ◌||◌ ∅ (those 16 us))) ∙ none-union 16 (those 16 us) (wide us))
      refl

  three-single : clash₀ (joined₀ read empty) assign ≡ false → Single all_three
  unfolding joined₀ read empty assign all_three
  three-single h = record {
    apart = ap (λ (u : Set). meets u (those 16 ds)) (sym (none-union 16 (those 16 us) (wide us))) ∙ assigns-none (joined₀ read empty) assign h;
    shorter = omega (arith, length-those 16 us, length-those 16 ds);
  }

  touched-same : (b : Action) → (reading rs then₀ emptying us then₀ assigning ds) ≡ some b → Same (touching rs us ds) b
  unfolding read empty assign all_three
  touched-same b h =
      let p = then₀-parts (reading rs then₀ emptying us) (assigning ds) b h in
      let q = then₀-parts (some read) (some empty) p.first p.is-first in
      let e = known read empty q (sym (some_is q.is-first)) (sym (some_is q.is-second)) in
      let k = known (joined₀ read empty) assign p (sym e.1) (sym (some_is p.is-second)) in
      same-as (sym three-joined ∙ k.1) (three-single k.0)

-- PROM, by what its block does
module _ (i : Action) (ds : List ℕ) (w : Wide i) where
  yielded : Action
  yielded = record { R = i.R; W = ∅; U = i.U; C = i.R ∪ i.W ∪ i.U ∪ i.C }

  given : Action
  given = record { R = ∅; W = those 16 ds; U = ∅; C = ∅ }

  whole : Action
  whole = record { R = i.R; W = those 16 ds; U = i.U; C = i.R ∪ i.W ∪ i.U ∪ i.C }

  captured-wide : 16 ≤ length (i.R ∪ i.W ∪ i.U ∪ i.C)
  captured-wide = omega (arith, w.read, both_first ◌||◌ i.R i.W, both_first ◌||◌ (i.R ∪ i.W) i.U, both_first ◌||◌ (i.R ∪ i.W ∪ i.U) i.C)

  whole-joined : joined₀ yielded given ≡ whole
  unfolding joined₀ yielded given whole both Sets.empty
  whole-joined = four (union-none 16 i.R w.read) (none-union 16 (those 16 ds) (wide ds)) (union-none 16 i.U w.emptied) (union-none 16 (i.R ∪ i.W ∪ i.U ∪ i.C) captured-wide)

  whole-single : clash₀ yielded given ≡ false → Single whole
  unfolding yielded given whole
  whole-single h = record { apart = assigns-none yielded given h; shorter = omega (arith, length-those 16 ds, w.emptied) }

  promised-same : (b : Action) → (promised ∅ (some i) then₀ assigning ds) ≡ some b → Same (promised (those 16 ds) (some i)) b
  unfolding promised yielded given whole
  promised-same b h =
      let p = then₀-parts (some yielded) (some given) b h in
      let k = known yielded given p (sym (some_is p.is-first)) (sym (some_is p.is-second)) in
      same-as (sym whole-joined ∙ k.1) (whole-single k.0)

-- what a block did it does
pub record Still (o : Option Action) (a : Action) : Type 0 where
  pub is-still : o ≡ some a
  pub wide : Wide a

reading-single : (rs : List ℕ) → Single (record { R = those 16 rs; W = ∅; U = ∅; C = ∅ })
unfolding both Sets.empty Sets.inhabited
reading-single rs = record { apart = refl; shorter = omega arith }

-- an instruction, by what the blocks do that it may enter
action-same : (enter₀ enter : ℕ → Option Action) → ((k : ℕ) (a : Action) → enter₀ k ≡ some a → Still (enter k) a) → (t : Touch) (b : Action) → action_of₀ enter₀ t ≡ some b → Same (action_of enter t) b
unfolding action_of action_of₀ promised ◌then₀◌
action-same enter₀ enter e (reads rs empties us assigns ds) b h = touched-same rs us ds b h
action-same enter₀ enter e (reads rs skips n) b h = same-as (some_is h) (reading-single rs)
action-same enter₀ enter e (enters block assigns ds) b h = go (enter₀ block) refl h
  where
    go : (o : Option Action) → enter₀ block ≡ o → (promised ∅ o then₀ assigning ds) ≡ some b → Same (promised (those 16 ds) (enter block)) b
    go none f g = not_some g
    go (some i) f g = let s = e block i f in rw s.is-still (promised-same i ds s.wide b g)

-- ---- walks

-- what was done on each way is wide
pub record WideWalk (w : Walk) : Type 0 where
  pub along : (a : Action) → w.done ≡ some a → Wide a
  pub across : (i : ℕ) (a : Action) → get_or w.ways i none ≡ some a → Wide a

either-wide : (a b : Action) → Wide a → Wide (either a b)
unfolding either
either-wide a b w = record { read = omega (arith, w.read, both_first ◌||◌ a.R b.R); emptied = omega (arith, w.emptied, both_first ◌||◌ a.U b.U) }

join-wide : (x y : Option Action) (c : Action) → ((a : Action) → x ≡ some a → Wide a) → join x y ≡ some c → Wide c
unfolding join
join-wide none y c h e = not_some e
join-wide (some a) none c h e = h c e
join-wide (some a) (some b) c h e = subst Wide (some_is e) (either-wide a b (h a refl))

here-wide : (w : Walk) (a : Action) → WideWalk w → here w ≡ some a → Wide a
unfolding here
here-wide w a h e = join-wide w.done (get_or w.ways 0 none) a h.along e

-- what is found where one way was set: that one, or what was there
set-one : (l : List (Option Action)) (n i : ℕ) (x : Option Action) (a : Action) → get_or (set l n x) i none ≡ some a → (x ≡ some a) ⊎ (get_or l i none ≡ some a)
set-one [] n i x a h = inr h
set-one (y ∷ l) zero zero x a h = inl h
set-one (y ∷ l) zero (suc i) x a h = inr h
set-one (y ∷ l) (suc n) zero x a h = inr h
set-one (y ∷ l) (suc n) (suc i) x a h = set-one l n i x a h

-- an instruction that did b₀ before and does b now
module _ (b₀ b : Option Action) (same : (x : Action) → b₀ ≡ some x → Same b x) where
  then_same : (o : Option Action) (c : Action) → (o then₀ b₀) ≡ some c → (o then b) ≡ (o then₀ b₀)
  then_same o c h =
      let p = then₀-parts o b₀ c h in
      let s = same p.second p.is-second in
      let k : (some p.first then₀ some p.second) ≡ some c = rw (sym p.is-first, sym p.is-second) h in
      let t : (o then b) ≡ some c = rw (p.is-first, s.is_same) (still-then p.first p.second c s.single k) in
      t ∙ sym h

  then-is-wide : (o : Option Action) (c : Action) → ((a : Action) → o ≡ some a → Wide a) → (o then₀ b₀) ≡ some c → Wide c
  then-is-wide o c w h =
      let p = then₀-parts o b₀ c h in
      subst Wide p.is-joined (joined-wide p.first p.second (w p.first p.is-first))

  -- past it, where it is allowed
  past_same : (k : Option ℕ) (w : Walk) (c : Action) → WideWalk w → (past₀ k b₀ w).done ≡ some c → (past k b w ≡ past₀ k b₀ w) × WideWalk (past₀ k b₀ w)
  unfolding past past₀
  past_same none w c h e = (
    rw (then_same (here w) c e) refl,
    record { along = λ a q. then-is-wide (here w) a (λ x. here-wide w x h) q; across = λ i a q. h.across (1 + i) a (sym (get_or-drop 1 w.ways i none) ∙ q) },
  )
  past_same (some n) w c h e = go (ltb n (length (drop 1 w.ways))) refl e
    where
      go : (t : Bool) → ltb n (length (drop 1 w.ways)) ≡ t → cond t (here w then₀ b₀) none ≡ some c → (past (some n) b w ≡ past₀ (some n) b₀ w) × WideWalk (past₀ (some n) b₀ w)
      go true f q =
          let g : WideWalk (past₀ (some n) b₀ w) = record {
            along = λ a x. then-is-wide (here w) a (λ y. here-wide w y h) (sym (rw f refl) ∙ x);
            across = λ i a x. ⊎_elim (λ y. join-wide (here w then₀ b₀) _ a (λ z. then-is-wide (here w) z (λ v. here-wide w v h)) y) (λ y. h.across (1 + i) a (sym (get_or-drop 1 w.ways i none) ∙ y)) (set-one (drop 1 w.ways) n i (join (here w then₀ b₀) (get_or (drop 1 w.ways) n none)) a x);
          } in
          (rw (then_same (here w) c q) refl, g)
      go false f q = not_some q

-- ---- blocks

-- a block's instructions, each of which did act₀ before and does act now
module _ (skip : Instr → Option ℕ) (act₀ act : Instr → Option Action) (same : (i : Instr) (x : Action) → act₀ i ≡ some x → Same (act i) x) where
  -- what is not allowed stays so
  past-none₀ : (k : Option ℕ) (b : Option Action) (w : Walk) → w.done ≡ none → (past₀ k b w).done ≡ none
  unfolding past₀ here join ◌then₀◌
  past-none₀ none b w e = rw e
  past-none₀ (some n) b w e = go (ltb n (length (drop 1 w.ways))) (here w) (rw e)
    where
      go : (t : Bool) (a : Option Action) → a ≡ none → cond t (a then₀ b) none ≡ none
      go true a e = rw e
      go false a e = refl

  walk-none₀ : (w : Walk) (ls : List Line) → w.done ≡ none → (walk₀ skip act₀ w ls).done ≡ none
  unfolding walk₀
  walk-none₀ w [] e = e
  walk-none₀ w (l ∷ ls) e = walk-none₀ (past₀ (skip l.does) (act₀ l.does) w) ls (past-none₀ (skip l.does) (act₀ l.does) w e)

  reached : (w : Walk) (ls : List Line) (c : Action) → here (walk₀ skip act₀ w ls) ≡ some c → (a : Action) × (w.done ≡ some a)
  unfolding here join
  reached w ls c e = go w.done refl
    where
      go : (o : Option Action) → w.done ≡ o → (a : Action) × (w.done ≡ some a)
      go none h = let n = walk-none₀ w ls h in not_some (sym (rw n refl) ∙ e)
      go (some a) h = (a, h)

  walk_same : (w : Walk) (ls : List Line) (c : Action) → WideWalk w → here (walk₀ skip act₀ w ls) ≡ some c → Still (here (walk skip act w ls)) c
  unfolding walk walk₀
  walk_same w [] c h e = record { is-still = e; wide = here-wide w c h e }
  walk_same w (l ∷ ls) c h e =
      let v = past₀ (skip l.does) (act₀ l.does) w in
      let r = reached v ls c e in
      let p = past_same (act₀ l.does) (act l.does) (same l.does) (skip l.does) w r.0 h r.1 in
      subst (λ (x : Walk). Still (here (walk skip act x ls)) c) (sym p.0) (walk_same v ls c p.1 e)

  none-taken : (n i : ℕ) (a : Action) → get_or (replicate n none) i none ≡ some a → Wide a
  none-taken zero i a e = not_some e
  none-taken (suc n) zero a e = not_some e
  none-taken (suc n) (suc i) a e = none-taken n i a e

  start-wide : (code : List Line) → WideWalk (start code)
  unfolding those
  start-wide code = record {
    along = λ a e. subst Wide (some_is e) (record { read = omega (arith, length_none 16); emptied = omega (arith, length_none 16) });
    across = none-taken (length (take INSTRUCTIONS code) + 1);
  }

  along-same : (result : ℕ) (code : List Line) (c : Action) → along₀ skip act₀ result code ≡ some c → Still (along skip act result code) c
  along-same result code c h =
      let o = here (walk₀ skip act₀ (start code) code) in
      let p = then₀-parts o (reading (result ∷ [])) c h in
      let s = walk_same (start code) code p.first (start-wide code) p.is-first in
      let f : (x : Action) → reading (result ∷ []) ≡ some x → Same (reading (result ∷ [])) x = λ x e. same-as (some_is e) (reading-single (result ∷ [])) in
      record {
        is-still = ap (λ (x : Option Action). x then reading (result ∷ [])) (s.is-still ∙ sym p.is-first) ∙ then_same (reading (result ∷ [])) (reading (result ∷ [])) f o c h ∙ h;
        wide = then-is-wide (reading (result ∷ [])) (reading (result ∷ [])) f o c (λ a e. subst Wide (some_is (sym p.is-first ∙ e)) s.wide) h;
      }

module _ (P : Program) where
  enter-same : (n : ℕ) (above₀ above : List (Option Action)) → ((i : ℕ) (a : Action) → get_or above₀ i none ≡ some a → Still (get_or above i none) a) → (k : ℕ) (a : Action) → enter n above₀ k ≡ some a → Still (enter n above k) a
  unfolding enter
  enter-same n above₀ above h k a e = go (ltb n k) e
    where
      go : (t : Bool) → cond t (get_or above₀ (k - (n + 1)) none) none ≡ some a → Still (cond t (get_or above (k - (n + 1)) none) none) a
      go true q = h (k - (n + 1)) a q
      go false q = not_some q

  actions-same : (n : ℕ) (bs : List Block) (i : ℕ) (a : Action) → get_or (actions₀ P n bs) i none ≡ some a → Still (get_or (actions P n bs) i none) a
  unfolding actions actions₀
  actions-same n [] i a e = not_some e
  actions-same n (b ∷ bs) zero a e =
      along-same (λ i. skip_of (touch P i)) (λ i. action_of₀ (enter n (actions₀ P (n + 1) bs)) (touch P i)) (λ i. action_of (enter n (actions P (n + 1) bs)) (touch P i))
      (λ i. action-same _ _ (enter-same n (actions₀ P (n + 1) bs) (actions P (n + 1) bs) (actions-same (n + 1) bs)) (touch P i)) b.result b.code a e
  actions-same n (b ∷ bs) (suc i) a e = actions-same (n + 1) bs i a e

  -- THE LAW: what a body did it does
  pub still-does : (v : Version) (a : Action) → body_action₀ P v ≡ some a → body_action P v ≡ some a
  still-does v a e = (actions-same 0 v.blocks 0 a e).is-still

  -- THE LAW: where flow held it holds
  pub still-flows : (v : Version) → flows₀ P v ≡ true → flows P v ≡ true
  unfolding flows flows₀ found
  still-flows v h = go (body_action₀ P v) refl h
    where
      go : (o : Option Action) → body_action₀ P v ≡ o → found o (λ (a : Action). below v.parameters a.R) ≡ true → flows P v ≡ true
      go none e q = absurd (true≢false (sym q))
      go (some a) e q = rw (still-does v a e) q
