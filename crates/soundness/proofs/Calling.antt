-- CALL and DISPATCH.
use mathlib.Core.Path.{◌≡◌, refl, sym, ◌∙◌}
use mathlib.Core.Logic.{◌⊎◌, inl, inr}
use mathlib.Core.List.{List, [], ◌∷◌, map}
use mathlib.Core.Option.{Option, none, some}
use mathlib.Core.Bool.{Bool, true, false, cond, not, false≢true}
use Prim.Native.Nat.{ℕ, zero, suc, ◌≤◌, ◌<◌}
use native.Mathlib.Omega.{arith}
use lib.ListN.{length, get_elem?, length-map}
use lib.Dec.{eqb}
use borrow.Author.Tests.{eqb-true, eqb-false, eq-eqb, leb-true, ltb-true, not-true}
use Rattle.layout.specs.Bounds.{VERSIONS}
use Rattle.layout.specs.Tests.{◌and◌, all, count, found}
use Rattle.layout.proofs.Fields.{all_map}
use Rattle.layout.proofs.Bools.{and_both, found_some, found_none}
use Rattle.layout.proofs.Lists.{get_in, get-some, get_take, take_in}
use Rattle.sets.specs.Sets.{has}
use Rattle.program.specs.Program.{Argument, Instr, CALL, DISPATCH, Line, Version, Program, find_version, mark_of, parameter_types, beside, given}
use Rattle.program.specs.Questions.{register_exists, exists}
use Rattle.program.proofs.Laid.{instr_bounded}
use Rattle.rules.specs.Types.{kind_of, ownership_of, is_shared, is_owned, is_borrowed, within}
use Rattle.rules.specs.Fits.{type_of, declared_kind, owned, vector, shared, fresh, plain, fits_argument, empties as emptying, fits_return, fits_call}
use Rattle.rules.specs.Effects.{reflective}
use Rattle.rules.specs.Actions.{touch, reads◌empties◌assigns◌, emptied as freed}
use Rattle.rules.proofs.Follows.{or-either}
use Rattle.rules.proofs.Touches.{emptied-owned}
use Rattle.rules.proofs.Fitted.{call_fits, call-touches, dispatch-fits, dispatch-touches}
use Rattle.checker.proofs.Accepted.{Checked}
use Rattle.machine.specs.Try.{got, or_stuck, each}
use Rattle.machine.specs.States as states
use Rattle.machine.proofs.Matching.{matching-all, matching-at, same_length, same_at, same-freed, same_beside}
use Rattle.machine.specs.Calls.{matching, same_ownerships, dispatches, lowest, picked}
use Rattle.machine.specs.Steps.{execute, registers_of, execute_to}
use Rattle.machine.specs.declared.Activation.{Activation}
use Rattle.machine.specs.declared.State.{State}
use Rattle.soundness.proofs.Cells.{frame_at, cell_at}
use Rattle.soundness.proofs.Invariant.{Sure, version_at, block_at, no_block, is_full, Inv}
use Rattle.soundness.proofs.Progress.{Good, good, good-then, good-got, good-test}
use Rattle.soundness.proofs.Types.{clash, eqb_same, vector-kind, owned-kind, owned-owned, within_same, within-trans}
use Rattle.soundness.proofs.Versions.{parameter-vector, type-allowed}
use Rattle.checker.proofs.Limits.{limited, length-parameters, mark-bound}
use Rattle.soundness.proofs.LiveCalls.{mark-is}
use Rattle.program.proofs.Held.{find-own}
use Rattle.soundness.proofs.Counting.{each_map}
use Rattle.soundness.proofs.KindsOf.{value_kind, kind-got, kind-within}
use Rattle.soundness.proofs.Clearing.{is_in, at-in-list, those-in}
use Rattle.soundness.proofs.Standing.{At, live, place_in, typed, meets}
use Rattle.soundness.proofs.Operands.{only_one, fits-i, exists-i, bounded-i, marked-i, touched, full_at, assigned-in, value-got}
use Rattle.soundness.proofs.Plain.{Stepped}
use Rattle.soundness.proofs.Entering.{Enters, enters}
use Rattle.runs.proofs.Lists.{any_at, all-at, get-map, map_get, counted-once}

both_hold : {b c : Bool} → b ≡ true → c ≡ true → (b and c) ≡ true
unfolding ◌and◌
both_hold p q = rw (p, q) refl

-- ---- a call by its arguments and the version that it enters

module _ (P : Program) (sure : Sure P) (s : State) (a : Activation) (rest : List Activation) (l : Line) (W : At P s a rest l) (i : Instr) (is : l.does ≡ i) where
  abbrev X : Version
  X = version_at P s.frames a.frame

  -- the kinds of the values of registers
  abbrev kinds_of : List ℕ → List ℕ
  kinds_of rs = map (value_kind P s.frames s.promises) (map (cell_at s.frames a.frame) rs)

  module _ (C : Version) (call : List Argument) (d ret : ℕ) (e : touch P i ≡ (reads (registers_of call) empties (freed call) assigns d ∷ []))
      (known : find_version P C.function C.version ≡ some C) (exist : all (λ (x : Argument). register_exists X x.register) call ≡ true) (ed : register_exists X d ≡ true)
      (fc : fits_call X a.block d call ret ≡ true) (same : same_ownerships call (parameter_types C) ≡ true) (fits-kinds : matching (map (value_kind P s.frames s.promises) (map (cell_at s.frames a.frame) (registers_of call))) (parameter_types C) ≡ true)
      (own-ret : ownership_of C.return ≡ ownership_of ret) (kind-ret : within (kind_of C.return) (kind_of ret) ≡ true) (mark : mark_of C ≤ (block_at X a.block).mark) where
    -- the argument at a place
    argument : (j r : ℕ) → get_elem? (registers_of call) j ≡ some r → (x : Argument) × (get_elem? call j ≡ some x) × (x.register ≡ r)
    argument j r g = get-map (λ (x : Argument). x.register) call j r g

    exists-at : (j : ℕ) (x : Argument) → get_elem? call j ≡ some x → register_exists X x.register ≡ true
    exists-at j x g = all-at (λ (x : Argument). register_exists X x.register) call exist j x g

    register-exists : (j r : ℕ) → get_elem? (registers_of call) j ≡ some r → register_exists X r ≡ true
    register-exists j r g = let x = argument j r g in rw x.2 at (exists-at j x.0 x.1)

    arguments-fit : (j : ℕ) (x : Argument) → get_elem? call j ≡ some x → fits_argument X call x ≡ true
    unfolding fits_call
    arguments-fit j x g = all-at (fits_argument X call) call (and_both _ _ fc).0 j x g

    -- the type of its parameter, which has the same ownership
    type_at : (j : ℕ) (x : Argument) → get_elem? call j ≡ some x → get_elem? (parameter_types C) j ≡ some (type_of C j)
    type_at j x g =
        let h : j < C.parameters = omega (arith, (get_in call j x x g).0, same_length call (parameter_types C) same, length-parameters P C (sure _ _ C known)) in
        get_take C.types C.parameters j h ∙ get-some C.types j 0 (omega (arith, (limited P C (sure _ _ C known)).declared))

    same-ownership : (j : ℕ) (x : Argument) → get_elem? call j ≡ some x → ownership_of x.type ≡ ownership_of (type_of C j)
    same-ownership j x g = same_at call (parameter_types C) same j x (type_of C j) g (type_at j x g)

    owned_at : (j r : ℕ) → get_elem? (registers_of call) j ≡ some r → is_owned (type_of C j) ≡ true → (is_owned (type_of X r) ≡ true) × ((j' : ℕ) → get_elem? (registers_of call) j' ≡ some r → j' ≡ j)
    unfolding fits_argument is_owned
    owned_at j r g o = go (argument j r g)
      where
        go : (x : Argument) × (get_elem? call j ≡ some x) × (x.register ≡ r) → (is_owned (type_of X r) ≡ true) × ((j' : ℕ) → get_elem? (registers_of call) j' ≡ some r → j' ≡ j)
        go x =
            let h : (owned X x.0.register and eqb (count (λ (b : Argument). eqb b.register x.0.register) call) 1) ≡ true = rw (same-ownership j x.0 x.1, o) at (arguments-fit j x.0 x.1) in
            let t = and_both _ _ h in (
              rw x.2 at (owned-owned X x.0.register t.0),
              λ j' g'. let y = argument j' r g' in counted-once (λ (b : Argument). eqb b.register x.0.register) call (eqb-true (count (λ (b : Argument). eqb b.register x.0.register) call) 1 t.1) j x.0 x.1 (eqb_same x.0.register) j' y.0 y.1 (eq-eqb y.0.register x.0.register (y.2 ∙ sym x.2)),
            )

    shared_at : (j r : ℕ) → get_elem? (registers_of call) j ≡ some r → is_owned (type_of C j) ≡ false → is_borrowed (type_of C j) ≡ false → is_shared (type_of X r) ≡ true
    unfolding fits_argument is_owned is_borrowed
    shared_at j r g o b = go (argument j r g)
      where
        go : (x : Argument) × (get_elem? call j ≡ some x) × (x.register ≡ r) → is_shared (type_of X r) ≡ true
        go x =
            let h : (shared X x.0.register and within (declared_kind X x.0.register) (kind_of x.0.type)) ≡ true = rw (same-ownership j x.0 x.1, o, b) at (arguments-fit j x.0 x.1) in
            rw x.2 at (and_both _ _ h).0

    -- what the call empties
    freed-at : (r : ℕ) → is_in (freed (beside (parameter_types C) (registers_of call))) r ≡ true → (j : ℕ) × (x : Argument) × (get_elem? call j ≡ some x) × (is_owned x.type ≡ true) × (x.register ≡ r)
    freed-at r h = let t = at-in-list (freed call) r (rw (same-freed call (parameter_types C) same) h) in emptied-owned call t.0 r t.1

    empties-at : (r : ℕ) → is_in (freed (beside (parameter_types C) (registers_of call))) r ≡ true → has (meets P sure s a rest l W).now.U r ≡ true
    empties-at r h =
        let t = freed-at r h in
        (touched P sure s a rest l W i is (registers_of call) (freed call) (d ∷ []) e).is-U r
        ∙ those-in (freed call) r (place_in P sure s a rest l W r (rw t.4 at (exists-at t.0 t.1 t.2))) (rw (same-freed call (parameter_types C) same) h)

    in_body : (r : ℕ) → is_in (freed (beside (parameter_types C) (registers_of call))) r ≡ true → a.block ≡ 0
    unfolding fits_call
    in_body r h =
        let t = freed-at r h in
        go (or-either (eqb a.block 0) (not (emptying call)) (and_both _ _ (and_both _ _ fc).1).0) (any_at (λ (x : Argument). is_owned x.type) call t.0 t.1 t.2 t.3)
      where
        go : (eqb a.block 0 ≡ true) ⊎ (not (emptying call) ≡ true) → emptying call ≡ true → a.block ≡ 0
        go (inl x) y = eqb-true _ 0 x
        go (inr x) y = clash y (not-true _ x)

    returns : fits_return X d C.return ≡ true
    unfolding fits_call fits_return is_owned
    returns = rw own-ret (go (eqb (ownership_of ret) 1) (and_both _ _ (and_both _ _ fc).1).1)
      where
        go : (b : Bool) → cond b (fresh X d) (plain X d (kind_of ret)) ≡ true → cond b (fresh X d) (plain X d (kind_of C.return)) ≡ true
        go true h = h
        go false h = let t = and_both _ _ h in both_hold t.0 (within-trans (kind_of C.return) (kind_of ret) _ kind-ret t.1)

    pub call_enters : Enters P sure s a rest l W C (registers_of call) d
    call_enters = record {
      known = known;
      exist = register-exists;
      full = λ j r g. full_at P sure s a rest l W i is (registers_of call) (freed call) (d ∷ []) e j r g (register-exists j r g);
      count = length-map call (λ (x : Argument). x.register) ∙ same_length call (parameter_types C) same ∙ length-parameters P C (sure _ _ C known);
      matches = λ j r g. let x = argument j r g in matching-at (kinds_of (registers_of call)) (parameter_types C) fits-kinds j _ (type_of C j) (map_get (value_kind P s.frames s.promises) (map (cell_at s.frames a.frame) (registers_of call)) j (cell_at s.frames a.frame r) (map_get (cell_at s.frames a.frame) (registers_of call) j r g)) (type_at j x.0 x.1);
      owned = owned_at;
      shared = shared_at;
      empties = empties-at;
      body = in_body;
      d-exists = ed;
      d-fits = returns;
      marked = mark;
      only = λ r h. only_one d r (assigned-in P sure s a rest l W i is (registers_of call) (freed call) (d ∷ []) e r h);
    }

  -- the values of registers that are there, and their kinds
  values-got : (rs : List ℕ) → ((j r : ℕ) → get_elem? rs j ≡ some r → (register_exists X r ≡ true) × (is_full (cell_at s.frames a.frame r) ≡ true)) → each (states.value (frame_at s.frames a.frame)) rs ≡ got (map (cell_at s.frames a.frame) rs)
  values-got rs h = each_map _ (cell_at s.frames a.frame) rs (λ j r g. value-got P sure s a rest l W i is r (h j r g).0 (h j r g).1)

  kinds-got : (rs : List ℕ) → ((j r : ℕ) → get_elem? rs j ≡ some r → (register_exists X r ≡ true) × (is_full (cell_at s.frames a.frame r) ≡ true))
      → each (states.kind_in P s) (map (cell_at s.frames a.frame) rs) ≡ got (map (value_kind P s.frames s.promises) (map (cell_at s.frames a.frame) rs))
  kinds-got rs h = each_map _ (value_kind P s.frames s.promises) _ (λ j x g.
      let t = get-map (cell_at s.frames a.frame) rs j x g in
      let q = h j t.0 t.1 in
      rw (← t.2) (kind-got P s W.heap W.vectors a.frame _ (live P sure s a rest l W) (cell_at s.frames a.frame t.0) q.1 (typed P sure s a rest l W t.0 (place_in P sure s a rest l W t.0 q.0))))

-- a mark that is not 1 is 0
mark-zero : (P : Program) (C : Version) → Checked P C → eqb (mark_of C) 1 ≡ false → mark_of C ≡ 0
unfolding block_at
mark-zero P C ck h =
    let b = (limited P C ck).body in
    omega (arith, eqb-false (mark_of C) 1 h, sym (mark-is C b), mark-bound P C ck 0 _ (get-some C.blocks 0 no_block b))

beside_at : (ts rs : List ℕ) (j t r : ℕ) → get_elem? ts j ≡ some t → get_elem? rs j ≡ some r → get_elem? (beside ts rs) j ≡ some (record { type = t; register = r })
unfolding beside
beside_at [] rs j t r e f = let z : ◌≡◌ {A = ℕ} 0 1 = cc in absurd (omega arith)
beside_at (u ∷ ts) [] j t r e f = let z : ◌≡◌ {A = ℕ} 0 1 = cc in absurd (omega arith)
beside_at (u ∷ ts) (q ∷ rs) zero t r e f = let x : u ≡ t = cc in let y : q ≡ r = cc in rw (x, y) refl
beside_at (u ∷ ts) (q ∷ rs) (suc j) t r e f = beside_at ts rs j t r e f

-- what holds of a call's registers holds of its arguments
all-registers : (p : ℕ → Bool) (call : List Argument) (rs : List ℕ) → registers_of call ≡ rs → all p rs ≡ true → all (λ (x : Argument). p x.register) call ≡ true
all-registers p call rs e h = all_map p (λ (x : Argument). x.register) call ∙ (rw (← e) at h)

-- ---- CALL

module _ (P : Program) (sure : Sure P) (s : State) (a : Activation) (rest : List Activation) (l : Line) (W : At P s a rest l) (d g w : ℕ) (rs : List ℕ) (is : l.does ≡ CALL d g w rs) where
  abbrev Y : Version
  Y = version_at P s.frames a.frame

  module _ (C : Version) (e : find_version P g w ≡ some C) where
    found-exists : (register_exists Y d and all (register_exists Y) rs and eqb (length rs) C.parameters) ≡ true
    unfolding exists
    found-exists = rw (found_some (λ (c : Version). eqb (length rs) c.parameters) e) at (exists-i P sure s a rest l W _ is)

    found-fits : fits_call Y a.block d (given C rs) C.return ≡ true
    found-fits = call_fits P Y a.block d g w rs C e (fits-i P sure s a rest l W _ is)

    touches-call : touch P (CALL d g w rs) ≡ (reads rs empties (freed (given C rs)) assigns d ∷ [])
    touches-call = call-touches P d g w rs C e

    callee : Checked P C
    callee = sure g w C e

    as_many : length rs ≡ length (parameter_types C)
    as_many = eqb-true _ _ (and_both _ _ (and_both _ _ found-exists).1).1 ∙ sym (length-parameters P C callee)

    there-at : (j r : ℕ) → get_elem? rs j ≡ some r → (register_exists Y r ≡ true) × (is_full (cell_at s.frames a.frame r) ≡ true)
    there-at j r q = let h = all-at (register_exists Y) rs (and_both _ _ (and_both _ _ found-exists).1).0 j r q in
        (h, full_at P sure s a rest l W _ is rs (freed (given C rs)) (d ∷ []) touches-call j r q h)

    -- the mark of the called version is no greater
    mark-le : mark_of C ≤ (block_at Y a.block).mark
    unfolding reflective
    mark-le = go (eqb (mark_of C) 1) refl
      where
        go : (b : Bool) → eqb (mark_of C) 1 ≡ b → mark_of C ≤ (block_at Y a.block).mark
        go true q = omega (arith, eqb-true (mark_of C) 1 q, marked-i P sure s a rest l W _ is (found_some (λ (c : Version). eqb (mark_of c) 1) e ∙ q))
        go false q = omega (arith, mark-zero P C callee q)

    -- the kinds of the arguments are within those of the parameters
    kind-at : (j r : ℕ) → get_elem? rs j ≡ some r → (t : ℕ) → get_elem? (parameter_types C) j ≡ some t → within (kind_of (type_of Y r)) (kind_of t) ≡ true
    unfolding fits_call fits_argument
    kind-at j r q t h = go (is_owned t) (is_borrowed t) refl refl (all-at (fits_argument Y (given C rs)) (given C rs) (and_both _ _ found-fits).0 j (record { type = t; register = r }) (beside_at (parameter_types C) rs j t r h q))
      where
        k : j < C.parameters
        k = take_in C.types C.parameters j t h

        m : (j < length C.types) × (type_of C j ≡ t)
        m = get_in C.types j 0 t (sym (get_take C.types C.parameters j k) ∙ h)

        vector-type : (is_owned t ≡ true) ⊎ (is_borrowed t ≡ true) → kind_of t ≡ 3
        vector-type o = parameter-vector t (rw m.1 at (type-allowed P C callee j m.0)) o

        go : (o b : Bool) → is_owned t ≡ o → is_borrowed t ≡ b
            → cond o (owned Y r and eqb (count (λ (x : Argument). eqb x.register r) (given C rs)) 1) (cond b (vector Y r) (shared Y r and within (declared_kind Y r) (kind_of t))) ≡ true → within (kind_of (type_of Y r)) (kind_of t) ≡ true
        go true b eo eb f = rw (owned-kind Y r (and_both _ _ f).0, vector-type (inl eo)) (within_same 3)
        go false true eo eb f = rw (vector-kind (type_of Y r) f, vector-type (inr eb)) (within_same 3)
        go false false eo eb f = (and_both _ _ f).1

    matches : matching (map (value_kind P s.frames s.promises) (map (cell_at s.frames a.frame) rs)) (parameter_types C) ≡ true
    matches = matching-all _ (parameter_types C) (length-map (map (cell_at s.frames a.frame) rs) (value_kind P s.frames s.promises) ∙ length-map rs (cell_at s.frames a.frame) ∙ as_many) each-kind
      where
        each-kind : (j k t : ℕ) → get_elem? (map (value_kind P s.frames s.promises) (map (cell_at s.frames a.frame) rs)) j ≡ some k → get_elem? (parameter_types C) j ≡ some t → within k (kind_of t) ≡ true
        each-kind j k t f h =
            let x = get-map (value_kind P s.frames s.promises) (map (cell_at s.frames a.frame) rs) j k f in
            let y = get-map (cell_at s.frames a.frame) rs j x.0 x.1 in
            let q = there-at j y.0 y.1 in
            rw (← x.2, ← y.2) (within-trans _ _ (kind_of t)
            (kind-within P W.keep s.frames s.promises a.frame (type_of Y y.0) (cell_at s.frames a.frame y.0) q.1 (typed P sure s a rest l W y.0 (place_in P sure s a rest l W y.0 q.0)))
            (kind-at j y.0 y.1 t h))

    call-rules : Enters P sure s a rest l W C rs d
    call-rules =
        let b = same_beside (parameter_types C) rs as_many in
        rw b.1 at (call_enters P sure s a rest l W (CALL d g w rs) is C (given C rs) d C.return (rw b.1 touches-call) (find-own P g w C e)
        (all-registers (λ (r : ℕ). register_exists Y r) (given C rs) rs b.1 (and_both _ _ (and_both _ _ found-exists).1).0) (and_both _ _ found-exists).0 found-fits b.0 (rw b.1 matches) refl (within_same _) mark-le)

    call_opens : Good (Inv P) (execute P s a.frame (frame_at s.frames a.frame) (version_at P s.frames a.frame) (CALL d g w rs))
    unfolding execute_to or_stuck
    call_opens =
        good-got (Inv P) _ C _ (rw e refl) (good-got (Inv P) _ _ _ (values-got P sure s a rest l W (CALL d g w rs) is rs there-at) (good-got (Inv P) _ _ _ (kinds-got P sure s a rest l W (CALL d g w rs) is rs there-at)
        (good-test (Inv P) _ _ matches (enters P sure s a rest l W C rs d call-rules))))

  pub call_step : Stepped P sure s a rest l W (CALL d g w rs)
  unfolding exists
  call_step = go (find_version P g w) refl
    where
      go : (o : Option Version) → find_version P g w ≡ o → Stepped P sure s a rest l W (CALL d g w rs)
      go none e = absurd (false≢true (sym (found_none (λ (c : Version). eqb (length rs) c.parameters) e) ∙ (and_both _ _ (and_both _ _ (exists-i P sure s a rest l W _ is)).1).1))
      go (some C) e = call_opens C e

-- ---- DISPATCH

found-got : (o : Option Version) (C : Version) → o ≡ some C → or_stuck o ≡ got C
unfolding or_stuck
found-got o C e = rw e refl

-- the version that is picked is found by its numbers, and passes
lowest-ok : (P : Program) (f : ℕ) (passes : Version → Bool) (n w : ℕ) → Good (λ (C : Version). (find_version P C.function C.version ≡ some C) × (passes C ≡ true)) (lowest P f passes n w)
unfolding lowest Good
lowest-ok P f passes zero w = tt
lowest-ok P f passes (suc n) w = go (find_version P f w) refl (lowest-ok P f passes n (suc w))
  where
    Q : Version → Type 0
    Q C = (find_version P C.function C.version ≡ some C) × (passes C ≡ true)

    pass : (C : Version) → find_version P f w ≡ some C → (b : Bool) → passes C ≡ b → Good Q (lowest P f passes n (suc w)) → Good Q (elim b [ true ↦ or_stuck (find_version P f w) | false ↦ lowest P f passes n (suc w) ])
    pass C e true q ih = good Q (or_stuck (find_version P f w)) C (found-got _ C e) (find-own P f w C e, q)
    pass C e false q ih = ih

    go : (o : Option Version) → find_version P f w ≡ o → Good Q (lowest P f passes n (suc w)) → Good Q (elim (found (find_version P f w) passes) [ true ↦ or_stuck (find_version P f w) | false ↦ lowest P f passes n (suc w) ])
    go none e ih = rw (found_none passes e) ih
    go (some C) e ih = rw (found_some passes e) (pass C e (passes C) refl ih)

module _ (P : Program) (sure : Sure P) (s : State) (a : Activation) (rest : List Activation) (l : Line) (W : At P s a rest l) (d g mark ret : ℕ) (pairs : List Argument) (is : l.does ≡ DISPATCH d g mark ret pairs) where
  abbrev Z : Version
  Z = version_at P s.frames a.frame

  pairs-exist : (register_exists Z d ≡ true) × (all (λ (x : Argument). register_exists Z x.register) pairs ≡ true)
  unfolding exists
  pairs-exist = let x = and_both _ _ (exists-i P sure s a rest l W _ is) in (x.0, (and_both _ _ x.1).0)

  pairs-there : (j r : ℕ) → get_elem? (registers_of pairs) j ≡ some r → (register_exists Z r ≡ true) × (is_full (cell_at s.frames a.frame r) ≡ true)
  pairs-there j r q =
      let x = get-map (λ (x : Argument). x.register) pairs j r q in
      let h : register_exists Z r ≡ true = rw x.2 at (all-at (λ (x : Argument). register_exists Z x.register) pairs pairs-exist.1 j x.0 x.1) in
      (h, full_at P sure s a rest l W _ is (registers_of pairs) (freed pairs) (d ∷ []) (dispatch-touches P d g mark ret pairs) j r q h)

  -- the mark of a DISPATCH is no greater than that of its block
  mark-within : mark ≤ (block_at Z a.block).mark
  unfolding instr_bounded reflective
  mark-within = go (eqb mark 1) refl
    where
      go : (b : Bool) → eqb mark 1 ≡ b → mark ≤ (block_at Z a.block).mark
      go true q = omega (arith, eqb-true mark 1 q, marked-i P sure s a rest l W _ is q)
      go false q = omega (arith, eqb-false mark 1 q, ltb-true mark 2 (and_both _ _ (bounded-i P sure s a rest l W _ is)).0)

  dispatch-rules : (C : Version) → (find_version P C.function C.version ≡ some C) × (dispatches Z.level mark ret pairs (map (value_kind P s.frames s.promises) (map (cell_at s.frames a.frame) (registers_of pairs))) C ≡ true) → Enters P sure s a rest l W C (registers_of pairs) d
  unfolding dispatches
  dispatch-rules C h =
      let x = and_both _ _ (and_both _ _ h.1).1 in
      let y = and_both _ _ x.1 in
      let z = and_both _ _ y.1 in
      let u = and_both _ _ z.1 in
      call_enters P sure s a rest l W (DISPATCH d g mark ret pairs) is C pairs d ret (dispatch-touches P d g mark ret pairs) h.0 pairs-exist.1 pairs-exist.0 (dispatch-fits P Z a.block d g mark ret pairs (fits-i P sure s a rest l W _ is)) x.0 u.1 (eqb-true _ _ y.0) z.0 (omega (arith, mark-within, leb-true (mark_of C) mark u.0))

  pub dispatch-step : Stepped P sure s a rest l W (DISPATCH d g mark ret pairs)
  unfolding execute_to picked
  dispatch-step =
      good-got (Inv P) _ _ _ (values-got P sure s a rest l W (DISPATCH d g mark ret pairs) is (registers_of pairs) pairs-there) (good-got (Inv P) _ _ _ (kinds-got P sure s a rest l W (DISPATCH d g mark ret pairs) is (registers_of pairs) pairs-there)
      (good-then (Inv P) _ _ _ (lowest-ok P g _ VERSIONS 0) (λ C h. enters P sure s a rest l W C (registers_of pairs) d (dispatch-rules C h))))
