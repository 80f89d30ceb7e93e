-- Flow looks at a register type by whether it is owned: of two values that agree in that, both let question 10 pass or neither does.
use Rattle.std.specs.Prelude.{None}
use mathlib.Core.Path.{◌≡◌, refl, sym, ap, ◌∙◌}
use mathlib.Core.List.{List, [], ◌∷◌, map}
use mathlib.Core.Option.{Option, none, some, Option-elim}
use mathlib.Core.Bool.{Bool, true, false, cond}
use Prim.Native.Nat.{ℕ, zero, suc, ◌+◌, ◌-◌}
use lib.ListN.{length, set, take}
use Rattle.program.specs.Program.{Instr, LIT, MOVE, USE, DUP, VEC, LEN, GET, SET, ARITH, SELECT, CAST, NAMED, STORE, PROM, FORCE, PEEK, POKE, CALL, DISPATCH, SKIP, Line, Block, Version, Program, find_version, beside, given}
use Rattle.program.specs.Search.{first}
use Rattle.program.proofs.Held.{Helds, helds, helds-back}
use Rattle.rules.specs.Types.{is_owned}
use Rattle.rules.specs.Actions.{Action, Walk, reading, Touch, reads◌empties◌assigns◌, touch, emptied, action_of, skip_of, here, past, walk, start, along, enter, actions, ◌then◌}
use Rattle.rules.specs.Flows.{flows, question10}
use Rattle.mends.specs.Retyped.{with_types, within, retype_one, retype}
use Rattle.mends.proofs.Retypes.{mapped, find-retyped}

-- ---- programs whose instructions touch the same

module _ (X Y : Program) (same : (i : Instr) → touch X i ≡ touch Y i) where
  walk_same : (en : ℕ → Option Action) (w : Walk) (ls : List Line)
      → walk (λ i. skip_of (touch X i)) (λ i. action_of en (touch X i)) w ls ≡ walk (λ i. skip_of (touch Y i)) (λ i. action_of en (touch Y i)) w ls
  unfolding walk
  walk_same en w [] = refl
  walk_same en w (l ∷ ls) =
      ap (λ (t : Touch). walk (λ i. skip_of (touch X i)) (λ i. action_of en (touch X i)) (past (skip_of t) (action_of en t) w) ls) (same l.does) ∙ walk_same en (past (skip_of (touch Y l.does)) (action_of en (touch Y l.does)) w) ls

  along-same : (en : ℕ → Option Action) (result : ℕ) (ls : List Line)
      → along (λ i. skip_of (touch X i)) (λ i. action_of en (touch X i)) result ls ≡ along (λ i. skip_of (touch Y i)) (λ i. action_of en (touch Y i)) result ls
  along-same en result ls = ap (λ (w : Walk). here w then reading (result ∷ [])) (walk_same en (start ls) ls)

  actions-same : (m : ℕ) (bs : List Block) → actions X m bs ≡ actions Y m bs
  unfolding actions
  actions-same m [] = refl
  actions-same m (b ∷ bs) =
      ap (λ (above : List (Option Action)). along (λ i. skip_of (touch X i)) (λ i. action_of (enter m above) (touch X i)) b.result b.code ∷ above) (actions-same (m + 1) bs)
      ∙ ap (λ (a : Option Action). a ∷ actions Y (m + 1) bs) (along-same (enter m (actions Y (m + 1) bs)) b.result b.code)

  flows-same : (u v : Version) → u.blocks ≡ v.blocks → u.parameters ≡ v.parameters → flows X u ≡ flows Y v
  unfolding flows
  flows-same u v b n = rw (b, n, actions-same 0 v.blocks) refl

-- ---- a byte changed to x, or to y

module _ (x y : ℕ) (o : is_owned x ≡ is_owned y) where
  emptied-same : (n : ℕ) (ts : List ℕ) (i : ℕ) (rs : List ℕ) → emptied (beside (take n (set ts i x)) rs) ≡ emptied (beside (take n (set ts i y)) rs)
  unfolding emptied beside
  emptied-same zero ts i rs = refl
  emptied-same (suc n) [] i rs = refl
  emptied-same (suc n) (t ∷ ts) zero [] = refl
  emptied-same (suc n) (t ∷ ts) zero (r ∷ rs) = rw o refl
  emptied-same (suc n) (t ∷ ts) (suc i) [] = refl
  emptied-same (suc n) (t ∷ ts) (suc i) (r ∷ rs) = rw (emptied-same n ts i rs) refl

  module _ (p : ℕ) where
    given-same : (v : Version) (rs : List ℕ) → emptied (given (retype_one p x v) rs) ≡ emptied (given (retype_one p y v) rs)
    unfolding retype_one
    given-same v rs = go (within p (length v.types) v)
      where
        go : (b : Bool) → emptied (given (cond b (with_types v (set v.types (p - (v.at + 10)) x)) v) rs) ≡ emptied (given (cond b (with_types v (set v.types (p - (v.at + 10)) y)) v) rs)
        go true = emptied-same v.parameters v.types (p - (v.at + 10)) rs
        go false = refl

    call_same : (found : Option Version) (rs : List ℕ) → Option-elim (mapped (retype_one p x) found) [] (λ c. emptied (given c rs)) ≡ Option-elim (mapped (retype_one p y) found) [] (λ c. emptied (given c rs))
    unfolding mapped Option-elim
    call_same none rs = refl
    call_same (some v) rs = given-same v rs

    touch-same : (P : Program) (i : Instr) → touch (retype p x P) i ≡ touch (retype p y P) i
    unfolding touch
    touch-same P (LIT d i) = refl
    touch-same P (MOVE d a) = refl
    touch-same P (USE d a) = refl
    touch-same P (DUP d a) = refl
    touch-same P (VEC d rs) = refl
    touch-same P (LEN d a) = refl
    touch-same P (GET d a i) = refl
    touch-same P (SET a i e) = refl
    touch-same P (ARITH d op a b) = refl
    touch-same P (SELECT d c a b) = refl
    touch-same P (CAST d a) = refl
    touch-same P (NAMED d n) = refl
    touch-same P (STORE n a) = refl
    touch-same P (PROM d block) = refl
    touch-same P (FORCE d a) = refl
    touch-same P (PEEK d a n) = refl
    touch-same P (POKE a n e) = refl
    touch-same P (CALL d f w rs) = rw (find-retyped p x P f w, find-retyped p y P f w) (ap (λ (us : List ℕ). reads rs empties us assigns d ∷ []) (call_same (find_version P f w) rs))
    touch-same P (DISPATCH d f mark ret pairs) = refl
    touch-same P (SKIP a n) = refl

    blocks-same : (v : Version) → (retype_one p x v).blocks ≡ (retype_one p y v).blocks
    unfolding retype_one
    blocks-same v = go (within p (length v.types) v)
      where
        go : (b : Bool) → (cond b (with_types v (set v.types (p - (v.at + 10)) x)) v).blocks ≡ (cond b (with_types v (set v.types (p - (v.at + 10)) y)) v).blocks
        go true = refl
        go false = refl

    parameters-same : (v : Version) → (retype_one p x v).parameters ≡ (retype_one p y v).parameters
    unfolding retype_one
    parameters-same v = go (within p (length v.types) v)
      where
        go : (b : Bool) → (cond b (with_types v (set v.types (p - (v.at + 10)) x)) v).parameters ≡ (cond b (with_types v (set v.types (p - (v.at + 10)) y)) v).parameters
        go true = refl
        go false = refl

    helds-same : (P vs : Program) → Helds (question10 (retype p x P)) (map (retype_one p x) vs) → Helds (question10 (retype p y P)) (map (retype_one p y) vs)
    unfolding Helds
    helds-same P [] h = tt
    helds-same P (v ∷ vs) h =
        let e = flows-same (retype p x P) (retype p y P) (touch-same P) (retype_one p x v) (retype_one p y v) (blocks-same v) (parameters-same v) in
        (record { of_version = sym e ∙ h.0.of_version; of_block = λ n b g. refl; of_instr = λ n b i l g k. refl }, helds-same P vs h.1)

    -- THE LAW: 10 goes by whether the byte is owned
    pub flow-by-ownership : (P : Program) → first (question10 (retype p x P)) (retype p x P) ≡ None → first (question10 (retype p y P)) (retype p y P) ≡ None
    flow-by-ownership P e = helds-back (question10 (retype p y P)) (retype p y P) (helds-same P P (helds (question10 (retype p x P)) (retype p x P) e))
