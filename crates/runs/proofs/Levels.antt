-- No step enters a version above the level of the calls that are live, and none is begun above the run's level.
use Rattle.std.specs.Prelude.{None, Ok}
use mathlib.Core.Path.{◌≡◌, refl, sym, ap, ◌∙◌, subst}
use mathlib.Core.Logic.{◌≢◌, ◌⊎◌, inl, inr}
use mathlib.Core.List.{List, [], ◌∷◌}
use mathlib.Core.Option.{Option, none, some}
use mathlib.Core.Bool.{Bool, true, false, cond, true≢false}
use Prim.Native.Nat.{ℕ, zero, suc, ◌-◌, ◌≤◌}
use native.Mathlib.Decide.{ℕ_discrete}
use native.Mathlib.Omega.{arith}
use lib.IntN.{ℤ}
use lib.ListN.{get_elem?, take}
use lib.Dec.{leb, ltb}
use borrow.Author.Tests.{leb-true, le-leb, ltb-true, ltb-false}
use Rattle.layout.specs.Bounds.{INSTRUCTIONS, VERSIONS, LEVELS}
use Rattle.layout.specs.Tests.{◌and◌, found}
use Rattle.layout.proofs.Bools.{and_both}
use Rattle.program.specs.Program.{Argument, Instr, LIT, MOVE, USE, DUP, VEC, LEN, GET, SET, ARITH, SELECT, CAST, NAMED, STORE, PROM, FORCE, PEEK, POKE, CALL, DISPATCH, SKIP, Line, Version, Program, find_version, parameter_types}
use Rattle.program.specs.Search.{first}
use Rattle.program.proofs.Held.{holds, find-own}
use Rattle.rules.specs.Questions.{stays_down, question18}
use Rattle.machine.specs.Try.{Try, got, stuck, stop, ◌>>=◌, or_stuck, at, each}
use Rattle.machine.specs.States.{over, value, kind_in, live_frames, live_activations, with_end}
use Rattle.machine.specs.Calls.{passed, dispatches, lowest, picked, frame_for, enter}
use Rattle.machine.specs.Steps.{registers_of, execute, Here, here, Position, instruction, block_end, outside, position, position_of, proceed, proceed_to, advance, advance_to, execute_to}
use Rattle.machine.specs.Runs.{settled, step_in, step_in_to, step_of, step_of_to, long_enough}
use Rattle.machine.specs.Events.{single}
use Rattle.machine.specs.Begin.{Given, arguments, values_of, vectors_of, first_state, refused, run_level, question11, question19, question12, question13, entered_of}
use Rattle.machine.specs.declared.Activation.{Activation}
use Rattle.machine.specs.declared.Begun.{Begun}
use Rattle.machine.specs.declared.End.{End}
use Rattle.machine.specs.declared.State.{State}
use Rattle.machine.specs.declared.Status.{Status}
use Rattle.machine.specs.declared.Value.{Value}
use Rattle.machine.specs.declared.Vector.{Vector}
use Rattle.machine.proofs.Tries.{or-stuck}
use Rattle.runs.specs.Lives.{numbers, call_at, Stays, Enters, Leaves, Finishes, Ends, Happens, calls, dispatches as dispatched, ends, stays, steps, Advances}
use Rattle.runs.proofs.Keeps.{Gives, gives_then, gives-weaken, gives-got, call-out, keeps-stays, passed-keeps}
use Rattle.runs.proofs.Lives.{EntersOn, enter-enters, advances, refused-begun}
use Rattle.runs.specs.Levels.{NoneAbove}

-- a version that passed is one of the program
lowest-passes : (P : Program) (f : ℕ) (t : Version → Bool) (n w : ℕ) (X : Version) → lowest P f t n w ≡ got X → (v : ℕ) × (find_version P f v ≡ some X) × (t X ≡ true)
unfolding lowest found or_stuck
lowest-passes P f t zero w X e = let z : ◌≡◌ {A = ℕ} 0 1 = cc in absurd (omega arith)
lowest-passes P f t (suc n) w X e = go (find_version P f w) refl e (λ g. lowest-passes P f t n (suc w) X g)
  where
    go : (o : Option Version) → find_version P f w ≡ o → (elim (found o t) [ true ↦ or_stuck o | false ↦ lowest P f t n (suc w) ]) ≡ got X → (lowest P f t n (suc w) ≡ got X → (v : ℕ) × (find_version P f v ≡ some X) × (t X ≡ true)) → (v : ℕ) × (find_version P f v ≡ some X) × (t X ≡ true)
    go none q g ih = ih g
    go (some Y) q g ih = pick (t Y) refl g
      where
        pick : (b : Bool) → t Y ≡ b → (elim b [ true ↦ or_stuck (some Y) | false ↦ lowest P f t n (suc w) ]) ≡ got X → (v : ℕ) × (find_version P f v ≡ some X) × (t X ≡ true)
        pick true z g = let y : Y ≡ X = cc in (w, q ∙ ap some y, subst (λ (v : Version). t v ≡ true) y z)
        pick false z g = ih g

-- the numbers of a pair
pub some_pair : {a b c d : ℕ} → ◌≡◌ {A = Option (ℕ × ℕ)} (some (a, b)) (some (c, d)) → (a ≡ c) × (b ≡ d)
some_pair e = (ap one e, ap two e)
  where
    one : Option (ℕ × ℕ) → ℕ
    one none = 0
    one (some q) = q.0

    two : Option (ℕ × ℕ) → ℕ
    two none = 0
    two (some q) = q.1

module _ (P : Program) (l : ℕ) (down : first (question18 P) P ≡ None) where
  abbrev Q : State → Type 0
  Q s = NoneAbove P l s

  abbrev Low : ℕ → ℕ → Type 0
  Low f w = (W : Version) × (find_version P f w ≡ some W) × (W.level ≤ l)

  -- ---- what happens to the calls

  by-enters : (s t : State) (f w : ℕ) → Q s → Low f w → Enters s t f w → Q t
  unfolding NoneAbove
  by-enters s t f w q z e k g y c = go (ℕ_discrete k s.calls)
    where
      go : Dec (k ≡ s.calls) → Low g y
      go (yes x) =
          let p : ◌≡◌ {A = Option (ℕ × ℕ)} (some (f, w)) (some (g, y)) = sym e.new ∙ sym (ap (call_at t) x) ∙ c in
          let n = some_pair p in
          subst (λ (i : ℕ). Low i y) n.0 (subst (λ (i : ℕ). Low f i) n.1 z)
      go (no x) = q k g y (sym (e.same k x) ∙ c)

  by-stays : (s t : State) → Q s → Stays s t → Q t
  unfolding NoneAbove
  by-stays s t q e k g y c = q k g y (sym (e.same k) ∙ c)

  by-ends : (s t : State) (a : Activation) → Q s → Ends s t a → Q t
  unfolding NoneAbove
  by-ends s t a q e k g y c = go e.left
    where
      go : Leaves s t a.frame ⊎ Finishes s t → Low g y
      go (inl z) = near (ℕ_discrete k a.frame)
        where
          near : Dec (k ≡ a.frame) → Low g y
          near (yes x) = let h : ◌≡◌ {A = Option (ℕ × ℕ)} none (some (g, y)) = sym z.gone ∙ sym (ap (call_at t) x) ∙ c in let w : ◌≡◌ {A = ℕ} 0 1 = cc in absurd (omega arith)
          near (no x) = q k g y (sym (z.same k x) ∙ c)
      go (inr z) = let h : ◌≡◌ {A = Option (ℕ × ℕ)} none (some (g, y)) = sym (z.gone k) ∙ c in let w : ◌≡◌ {A = ℕ} 0 1 = cc in absurd (omega arith)

  -- ---- where a run stands

  -- the version is not above
  abbrev Standing : Here → Type 0
  Standing h = (find_version P h.frame.function h.frame.version ≡ some h.version) × (h.version.level ≤ l) × (get_elem? h.version.blocks h.activation.block ≡ some h.block)

  here-gives : (s : State) → Q s → Gives Standing (here P s)
  unfolding here at Gives call_at numbers NoneAbove
  here-gives s q =
      gives_then _ (at (live_activations s) _) _ (λ a ea. gives_then _ (at (live_frames s) a.frame) _ (λ f ef. gives_then _ (or_stuck (find_version P f.function f.version)) _ (λ W ew. gives_then _ (at W.blocks a.block) _ (λ B eb.
      let w = or-stuck (find_version P f.function f.version) W ew in
      let c : call_at s a.frame ≡ some (f.function, f.version) = ap numbers (or-stuck (get_elem? (live_frames s) a.frame) f ef) in
      let z = q a.frame f.function f.version c in
      let y : z.0 ≡ W = some_same z.0 W (sym z.1 ∙ w) in
      (w, subst (λ (u : Version). u.level ≤ l) y z.2, or-stuck (get_elem? W.blocks a.block) B eb)))))
    where
      some_same : (u w : Version) → some u ≡ some w → u ≡ w
      some_same u w e = cc

  here-low : (s : State) → Q s → (h : Here) → here P s ≡ got h → Standing h
  here-low s q h e = gives-got _ (here P s) h (here-gives s q) e

  -- ---- what is called

  -- a call that is named is not above
  unfoldable LowI : Instr → Type 0
  LowI (LIT d i) = Unit {0}
  LowI (MOVE d a) = Unit {0}
  LowI (USE d a) = Unit {0}
  LowI (DUP d a) = Unit {0}
  LowI (VEC d rs) = Unit {0}
  LowI (LEN d a) = Unit {0}
  LowI (GET d a i) = Unit {0}
  LowI (SET a i e) = Unit {0}
  LowI (ARITH d op a b) = Unit {0}
  LowI (SELECT d c a b) = Unit {0}
  LowI (CAST d a) = Unit {0}
  LowI (NAMED d x) = Unit {0}
  LowI (STORE x a) = Unit {0}
  LowI (PROM d block) = Unit {0}
  LowI (FORCE d a) = Unit {0}
  LowI (PEEK d a x) = Unit {0}
  LowI (POKE a x e) = Unit {0}
  LowI (CALL d f w rs) = Low f w
  LowI (DISPATCH d f mark ret pairs) = ⊥
  LowI (SKIP a n) = Unit {0}

  unfoldable LowAt : Position → Type 0
  LowAt (instruction i) = LowI i
  LowAt block_end = Unit {0}
  LowAt outside = Unit {0}

  happens-low : (s t : State) (a : Activation) (x : Position) → Q s → LowAt x → Happens s t a x → Q t
  unfolding LowAt LowI
  happens-low s t a _ q z (calls d f w rs e) = by-enters s t f w q z e
  happens-low s t a _ q z (dispatched d f mark ret pairs w e) = absurd z
  happens-low s t a _ q z (ends o e) = by-ends s t a q e
  happens-low s t a _ q z (stays p o e) = by-stays s t q e
  happens-low s t a _ q z (steps i n e) = by-stays s t q e

  position-line : (m : ℕ) (ls : List Line) (n : ℕ) (i : Instr) → position (take m ls) n ≡ instruction i → (x : Line) × (get_elem? ls n ≡ some x) × (x.does ≡ i)
  unfolding position
  position-line zero [] zero i e = let z : ◌≡◌ {A = ℕ} 0 1 = cc in absurd (omega arith)
  position-line zero [] (suc n) i e = let z : ◌≡◌ {A = ℕ} 0 1 = cc in absurd (omega arith)
  position-line zero (x ∷ ls) zero i e = let z : ◌≡◌ {A = ℕ} 0 1 = cc in absurd (omega arith)
  position-line zero (x ∷ ls) (suc n) i e = let z : ◌≡◌ {A = ℕ} 0 1 = cc in absurd (omega arith)
  position-line (suc m) [] zero i e = let z : ◌≡◌ {A = ℕ} 0 1 = cc in absurd (omega arith)
  position-line (suc m) [] (suc n) i e = let z : ◌≡◌ {A = ℕ} 0 1 = cc in absurd (omega arith)
  position-line (suc m) (x ∷ ls) zero i e = let z : x.does ≡ i = cc in (x, refl, z)
  position-line (suc m) (x ∷ ls) (suc n) i e = position-line m ls n i e

  -- question 18, of the CALL where the run stands
  call-low : (h : Here) → Standing h → (d f w : ℕ) (rs : List ℕ) → position_of h ≡ instruction (CALL d f w rs) → Low f w
  unfolding position_of stays_down found
  call-low h z d f w rs e =
      let x = position-line INSTRUCTIONS h.block.code h.activation.next (CALL d f w rs) e in
      let g = (holds (question18 P) P down h.frame.function h.frame.version h.version z.0).of_instr h.activation.block h.block h.activation.next x.0 z.2 x.1 in
      go (find_version P f w) refl (subst (λ (i : Instr). stays_down P h.version i ≡ true) x.2 g)
    where
      go : (o : Option Version) → find_version P f w ≡ o → found o (λ (c : Version). leb c.level h.version.level) ≡ true → Low f w
      go none q b = absurd (true≢false (sym b))
      go (some c) q b = (c, q, omega (arith, leb-true c.level h.version.level b, z.1))

  -- ---- the step

  advance-here : (s : State) (h : Here) → here P s ≡ got h → advance P s ≡ proceed P s h (position_of h)
  unfolding advance_to ◌>>=◌
  advance-here s h e = rw e refl

  -- what today's step comes to, but at a DISPATCH
  today : (s : State) → Q s → (h : Here) → here P s ≡ got h → LowAt (position_of h) → (t : State) → proceed P s h (position_of h) ≡ got t → Q t
  unfolding Advances
  today s q h e z t g =
      let v = advances P s t (advance-here s h e ∙ g) in
      let y : v.place ≡ h = got_same v.place h (sym v.stands ∙ e) in
      happens-low s t v.place.activation (position_of v.place) q (subst (λ (u : Here). LowAt (position_of u)) (sym y) z) v.happens
    where
      got_same : (u w : Here) → got u ≡ got w → u ≡ w
      got_same u w e = cc

  gives_all : (S : State → Type 0) (t : Try State) → ((u : State) → t ≡ got u → S u) → Gives S t
  unfolding Gives
  gives_all S (got u) h = h u refl
  gives_all S stuck h = tt
  gives_all S (stop e) h = tt

  dispatch-low : (s : State) → Q s → (h : Here) → Standing h → (d g mark ret : ℕ) (pairs : List Argument) → Gives Q (execute P (passed s h.activation) h.activation.frame h.frame h.version (DISPATCH d g mark ret pairs))
  unfolding execute_to picked dispatches
  dispatch-low s q h z d g mark ret pairs =
      let u = passed s h.activation in
      let qu : Q u = by-stays s u q (keeps-stays s u (passed-keeps s h.activation)) in
      gives_then _ (each (value h.frame) (registers_of pairs)) _ (λ vs _. gives_then _ (each (kind_in P u) vs) _ (λ ks _. gives_then _ (picked P h.version.level g mark ret pairs ks) _ (λ X e.
      let x = lowest-passes P g _ VERSIONS 0 X e in
      let f : find_version P X.function X.version ≡ some X = find-own P g x.0 X x.1 in
      let low : X.level ≤ l = omega (arith, leb-true X.level h.version.level (and_both _ _ x.2).0, z.1) in
      gives-weaken (EntersOn u X.function X.version) Q (enter u h.activation.frame d X (registers_of pairs) vs) (enter-enters u h.activation.frame d X (registers_of pairs) vs) (λ t en. by-enters u t X.function X.version qu (X, f, low) en.1))))

  other-low : (s : State) → Q s → (h : Here) → here P s ≡ got h → (i : Instr) → position_of h ≡ instruction i → LowI i → Gives Q (execute P (passed s h.activation) h.activation.frame h.frame h.version i)
  unfolding LowAt proceed_to
  other-low s q h e i x z = gives_all Q _ (λ t g. today s q h e (subst LowAt (sym x) z) t (ap (proceed P s h) x ∙ g))

  execute-low : (s : State) → Q s → (h : Here) → here P s ≡ got h → (i : Instr) → position_of h ≡ instruction i → Gives Q (execute P (passed s h.activation) h.activation.frame h.frame h.version i)
  unfolding LowI
  execute-low s q h e (LIT d i) x = other-low s q h e (LIT d i) x tt
  execute-low s q h e (MOVE d a) x = other-low s q h e (MOVE d a) x tt
  execute-low s q h e (USE d a) x = other-low s q h e (USE d a) x tt
  execute-low s q h e (DUP d a) x = other-low s q h e (DUP d a) x tt
  execute-low s q h e (VEC d rs) x = other-low s q h e (VEC d rs) x tt
  execute-low s q h e (LEN d a) x = other-low s q h e (LEN d a) x tt
  execute-low s q h e (GET d a i) x = other-low s q h e (GET d a i) x tt
  execute-low s q h e (SET a i y) x = other-low s q h e (SET a i y) x tt
  execute-low s q h e (ARITH d op a b) x = other-low s q h e (ARITH d op a b) x tt
  execute-low s q h e (SELECT d c a b) x = other-low s q h e (SELECT d c a b) x tt
  execute-low s q h e (CAST d a) x = other-low s q h e (CAST d a) x tt
  execute-low s q h e (NAMED d y) x = other-low s q h e (NAMED d y) x tt
  execute-low s q h e (STORE y a) x = other-low s q h e (STORE y a) x tt
  execute-low s q h e (PROM d block) x = other-low s q h e (PROM d block) x tt
  execute-low s q h e (FORCE d a) x = other-low s q h e (FORCE d a) x tt
  execute-low s q h e (PEEK d a y) x = other-low s q h e (PEEK d a y) x tt
  execute-low s q h e (POKE a y b) x = other-low s q h e (POKE a y b) x tt
  execute-low s q h e (CALL d f w rs) x = other-low s q h e (CALL d f w rs) x (call-low h (here-low s q h e) d f w rs x)
  execute-low s q h e (DISPATCH d f mark ret pairs) x = dispatch-low s q h (here-low s q h e) d f mark ret pairs
  execute-low s q h e (SKIP a n) x = other-low s q h e (SKIP a n) x tt

  proceed-low : (s : State) → Q s → (h : Here) → here P s ≡ got h → (x : Position) → position_of h ≡ x → Gives Q (proceed P s h x)
  unfolding proceed_to Gives LowAt
  proceed-low s q h e (instruction i) x = execute-low s q h e i x
  proceed-low s q h e block_end x = gives_all Q _ (λ t g. today s q h e (subst LowAt (sym x) tt) t (ap (proceed P s h) x ∙ g))
  proceed-low s q h e outside x = tt

  advance-low : (s : State) → Q s → Gives Q (advance P s)
  unfolding advance_to
  advance-low s q = gives_then _ (here P s) _ (λ h e. proceed-low s q h e (position_of h) refl)

  -- ---- the single step

  end_low : (s : State) → Q s → (xs : List ℤ) (e : End) → Q (with_end s xs e)
  unfolding NoneAbove with_end call_at live_frames
  end_low s q xs e = q

  in-low : (s : State) → Q s → (st : Status) → Q (step_in P s st).state
  unfolding step_in_to settled Gives
  in-low s q Status.Running = go (advance P s) (advance-low s q)
    where
      go : (t : Try State) → Gives Q t → Q (settled s t).state
      go (got u) g = g
      go stuck g = q
      go (stop e) g = end_low s q s.result e
  in-low s q (Status.Ended e) = q

  -- THE LAW: a step enters no version above
  pub step-low : (s : State) → Q s → Q (step_of P s).state
  unfolding step_of_to
  step-low s q = in-low s q s.status

-- ---- the first state

module _ (P : Program) (l : ℕ) where
  first-none : (W : Version) (vs : List Value) (ws : List Vector) → find_version P W.function W.version ≡ some W → W.level ≤ l → NoneAbove P l (first_state (frame_for W vs ∷ []) ws)
  unfolding NoneAbove call_at live_frames numbers first_state frame_for over
  first-none W vs ws e h zero g y c =
      let n = some_pair c in
      subst (λ (i : ℕ). (X : Version) × (find_version P i y ≡ some X) × (X.level ≤ l)) n.0 (subst (λ (i : ℕ). (X : Version) × (find_version P W.function i ≡ some X) × (X.level ≤ l)) n.1 (W, e, h))
  first-none W vs ws e h (suc k) g y c =
      let z : ◌≡◌ {A = Option (ℕ × ℕ)} none (some (g, y)) = sym (call-out (first_state (frame_for W vs ∷ []) ws) (suc k) (omega arith)) ∙ c in
      let w : ◌≡◌ {A = ℕ} 0 1 = cc in absurd (omega arith)

  begun-none : (W : Version) (o : Option (List Given)) (buffer : List ℤ) → find_version P W.function W.version ≡ some W → W.level ≤ l → (question12 W o buffer).entry ≡ Ok tt → NoneAbove P l (question12 W o buffer).state
  unfolding question12 question13 refused
  begun-none W none buffer e h g = absurd (refused-begun 12 0 g)
  begun-none W (some xs) buffer e h g = go (long_enough buffer) refl g
    where
      go : (b : Bool) → long_enough buffer ≡ b → (question13 (first_state (frame_for W (values_of xs 0) ∷ []) (vectors_of xs)) buffer).entry ≡ Ok tt → NoneAbove P l (question13 (first_state (frame_for W (values_of xs 0) ∷ []) (vectors_of xs)) buffer).state
      go true x g = rw (x, question13) (first-none W (values_of xs 0) (vectors_of xs) e h)
      go false x g = absurd (refused-begun 13 0 (rw (x, question13) at g))

-- ---- what is begun

-- THE LAW: a begun run has one call, of its entry, which is not above
pub entered-low : (P : Program) (level f v : ℕ) (words buffer : List ℤ) → (entered_of P level f v words buffer).entry ≡ Ok tt → NoneAbove P (run_level level) (entered_of P level f v words buffer).state
unfolding entered_of question11 question19 refused
entered-low P level f v words buffer e = go (find_version P f v) refl e
  where
    low : (W : Version) → find_version P f v ≡ some W → (b : Bool) → leb W.level (run_level level) ≡ b → (question19 level W words buffer).entry ≡ Ok tt → NoneAbove P (run_level level) (question19 level W words buffer).state
    low W w true x g = rw (x, question19) (begun-none P (run_level level) W (arguments (parameter_types W) words) buffer (find-own P f v W w) (leb-true W.level (run_level level) x) (rw (x, question19) at g))
    low W w false x g = absurd (refused-begun 19 0 (rw (x, question19) at g))

    go : (o : Option Version) → find_version P f v ≡ o → (question11 level o words buffer).entry ≡ Ok tt → NoneAbove P (run_level level) (question11 level o words buffer).state
    go none w g = absurd (refused-begun 11 0 g)
    go (some W) w g = low W w (leb W.level (run_level level)) refl g

-- a higher level counts as no lower one
level-up : (l m : ℕ) → l ≤ m → run_level l ≤ run_level m
unfolding run_level
level-up l m h = go (ltb l LEVELS) (ltb m LEVELS) refl refl
  where
    go : (a b : Bool) → ltb l LEVELS ≡ a → ltb m LEVELS ≡ b → cond a l (LEVELS - 1) ≤ cond b m (LEVELS - 1)
    go true true x y = h
    go true false x y = omega (arith, ltb-true l LEVELS x)
    go false true x y = absurd (omega (arith, h, ltb-false l LEVELS x, ltb-true m LEVELS y))
    go false false x y = omega arith

-- THE LAW: a run begun at one level is begun in the same state at each higher one
pub entered-above : (P : Program) (l m f v : ℕ) (words buffer : List ℤ) → l ≤ m → (entered_of P l f v words buffer).entry ≡ Ok tt → entered_of P m f v words buffer ≡ entered_of P l f v words buffer
unfolding entered_of question11 question19 refused
entered-above P l m f v words buffer h e = go (find_version P f v) e
  where
    low : (W : Version) (b : Bool) → leb W.level (run_level l) ≡ b → (question19 l W words buffer).entry ≡ Ok tt → question19 m W words buffer ≡ question19 l W words buffer
    low W true x y = let z = le-leb W.level (run_level m) (omega (arith, level-up l m h, leb-true W.level (run_level l) x)) in rw (x, z, question19) refl
    low W false x y = absurd (refused-begun 19 0 (rw (x, question19) at y))

    go : (o : Option Version) → (question11 l o words buffer).entry ≡ Ok tt → question11 m o words buffer ≡ question11 l o words buffer
    go none g = refl
    go (some W) g = low W (leb W.level (run_level l)) refl g
