-- Names: NAMED, STORE, PEEK and POKE.
use mathlib.Core.Path.{◌≡◌, refl}
use mathlib.Core.Logic.{inl}
use mathlib.Core.List.{List, [], ◌∷◌}
use mathlib.Core.Bool.{true}
use Prim.Native.Nat.{ℕ, ◌+◌, ◌<◌}
use native.Mathlib.Omega.{arith}
use borrow.Author.Tests.{ltb-true}
use Rattle.layout.specs.Bounds.{REGISTERS, NAMES}
use Rattle.layout.proofs.Bools.{and_both}
use Rattle.program.specs.Program.{Instr, NAMED, STORE, PEEK, POKE, Line, Version, Program}
use Rattle.program.specs.Questions.{register_exists, name_exists, exists}
use Rattle.rules.specs.Types.{is_shared}
use Rattle.rules.specs.Fits.{value, plain}
use Rattle.rules.specs.Actions.{touch, reads◌empties◌assigns◌}
use Rattle.rules.proofs.Fitted.{named-fits, named-touches, store-fits, store-touches, peek-fits, peek-touches, poke-fits, poke-touches}
use Rattle.machine.specs.Try.{◌>>=◌}
use Rattle.machine.specs.States.{name, is_set, store}
use Rattle.machine.specs.States as states
use Rattle.machine.specs.Steps.{execute_to}
use Rattle.machine.specs.declared.Activation.{Activation}
use Rattle.machine.specs.declared.State.{State}
use Rattle.machine.specs.declared.Value.{Value}
use Rattle.soundness.proofs.Cells.{frame_at, cell_at, wrote, frame_is, store_is, named-is}
use Rattle.soundness.proofs.Invariant.{Sure, version_at, type_at, promise_at, is_full, Fits, Inv}
use Rattle.soundness.proofs.Progress.{Good, good, good-then, good-got}
use Rattle.soundness.proofs.Types.{name-type, name-shared, name-kind, plain_shared, plain-kind, fits-within, fits-promise, fits-down}
use Rattle.soundness.proofs.KindsOf.{promise-is}
use Rattle.soundness.proofs.Standing.{At, live, place_in, type-is, writes-cell, shared-lone, fits_on}
use Rattle.soundness.proofs.Operands.{only_none, fits-i, exists-i, full_at, assigned-in, promise-got, fits-value, plain-got}
use Rattle.soundness.proofs.Plain.{Stepped, gives-shared}

module _ (P : Program) (sure : Sure P) (s : State) (a : Activation) (rest : List Activation) (l : Line) (W : At P s a rest l) where
  abbrev X : Version
  X = version_at P s.frames a.frame

  -- a name is a shared cell of kind 1
  name-is-shared : (k x : ℕ) → is_shared (type_at P s.frames k (REGISTERS + x)) ≡ true
  unfolding type_at
  name-is-shared k x = rw (name-type (version_at P s.frames k) x) name-shared

  name-fits : (k x : ℕ) → k < s.calls → Fits P W.keep s.frames s.promises k 1 (cell_at s.frames k (REGISTERS + x))
  unfolding type_at
  name-fits k x hk = rw (name-type (version_at P s.frames k) x) at (W.heap.typed k (REGISTERS + x) hk)

  set_value : (y : Value) → ((p : ℕ) → y ≡ Value.Promise p → ⊥) → Good (λ (v : Value). (v ≡ y) × (is_full y ≡ true)) (is_set y)
  unfolding is_set Good is_full
  set_value Value.Empty n = tt
  set_value (Value.Integer z) n = (refl, refl)
  set_value (Value.Vector v) n = (refl, refl)
  set_value (Value.Promise p) n = absurd (n p refl)

  -- a set name gives its value
  name-got : (k x : ℕ) → k < s.calls → name_exists x ≡ true → Good (λ (v : Value). (v ≡ cell_at s.frames k (REGISTERS + x)) × (is_full (cell_at s.frames k (REGISTERS + x)) ≡ true)) (name (frame_at s.frames k) x)
  unfolding name ◌>>=◌ cell_at
  name-got k x hk hx =
      rw (named-is (frame_at s.frames k) (W.heap.sized.whole k (omega (arith, W.heap.bound))) x (ltb-true x NAMES hx))
      (set_value (cell_at s.frames k (REGISTERS + x)) (λ p q. fits-promise P W.keep s.frames s.promises k 1 p (inl name-kind) (rw q at (name-fits k x hk))))

  -- the value of a name x of a live frame k enters d
  gives-name : (i : Instr) (is : l.does ≡ i) (rs : List ℕ) (d : ℕ) (e : touch P i ≡ (reads rs empties [] assigns d ∷ [])) → register_exists X d ≡ true → plain X d 1 ≡ true → (k x : ℕ) → k < s.calls
      → (v : Value) → (v ≡ cell_at s.frames k (REGISTERS + x)) × (is_full (cell_at s.frames k (REGISTERS + x)) ≡ true) → Good (Inv P) (states.assign s a.frame d v)
  gives-name i is rs d e ed pd k x hk v q =
      rw q.0 (gives-shared P sure s a rest l W i is rs d e ed k (REGISTERS + x) hk (name-is-shared k x) (plain_shared X d 1 pd) q.1
      (fits-within P W.keep s.frames s.promises a.frame 1 _ (rw name-kind (plain-kind X d 1 pd)) _ (fits-down P W.keep s.frames s.promises k a.frame 1 (inl name-kind) _ (name-fits k x hk))))

  pub named_step : (d x : ℕ) → l.does ≡ NAMED d x → Stepped P sure s a rest l W (NAMED d x)
  unfolding execute_to exists
  named_step d x is =
      let e = and_both _ _ (exists-i P sure s a rest l W _ is) in
      good-then (Inv P) _ _ _ (name-got a.frame x (live P sure s a rest l W) e.1) (gives-name (NAMED d x) is [] d (named-touches P d x) e.0 (named-fits P X a.block d x (fits-i P sure s a rest l W _ is)) a.frame x (live P sure s a rest l W))

  -- a register r of kind 1 goes to the name x of a live frame k
  stores : (i : Instr) (is : l.does ≡ i) (rs : List ℕ) (e : touch P i ≡ (reads rs empties [] assigns [])) (r : ℕ) (er : register_exists X r ≡ true) (fr : is_full (cell_at s.frames a.frame r) ≡ true) → value X r ≡ true → (k x : ℕ) → k < s.calls → name_exists x ≡ true
      → Good (Inv P) (store s k x (cell_at s.frames a.frame r))
  unfolding type_at
  stores i is rs e r er fr vr k x hk hx =
      let lx = ltb-true x NAMES hx in
      good (Inv P) _ (wrote s k (REGISTERS + x) (cell_at s.frames a.frame r)) (store_is s W.heap.sized k hk W.heap.bound x _ lx)
      (writes-cell P sure s a rest l W k (REGISTERS + x) _ hk (omega arith) (λ q h. absurd (only_none q (assigned-in P sure s a rest l W i is rs [] [] e q h))) fr
      (rw (name-type (version_at P s.frames k) x) (fits_on P sure s a rest l W k 1 hk _ (fits-down P W.keep s.frames s.promises a.frame k 1 (inl name-kind) _ (fits-value P sure s a rest l W i is r er fr vr))))
      (shared-lone P sure s a rest l W a.frame r k (REGISTERS + x) (live P sure s a rest l W) (rw (type-is P sure s a rest l W r (place_in P sure s a rest l W r er)) (and_both _ _ vr).0) (name-is-shared k x)))

  pub store_step : (x r : ℕ) → l.does ≡ STORE x r → Stepped P sure s a rest l W (STORE x r)
  unfolding execute_to exists
  store_step x r is =
      let e = and_both _ _ (exists-i P sure s a rest l W _ is) in
      let t = store-fits P X a.block x r (fits-i P sure s a rest l W _ is) in
      let fr = full_at P sure s a rest l W _ is (r ∷ []) [] [] (store-touches P x r) 0 r refl e.1 in
      good-got (Inv P) _ _ _ (plain-got P sure s a rest l W _ is r e.1 fr t) (stores (STORE x r) is (r ∷ []) (store-touches P x r) r e.1 fr t a.frame x (live P sure s a rest l W) e.0)

  pub peek : (d r x : ℕ) → l.does ≡ PEEK d r x → Stepped P sure s a rest l W (PEEK d r x)
  unfolding execute_to exists
  peek d r x is =
      let e = and_both _ _ (exists-i P sure s a rest l W _ is) in
      let g = and_both _ _ e.1 in
      let t = peek-fits P X a.block d r x (fits-i P sure s a rest l W _ is) in
      let p = promise-got P sure s a rest l W _ is r g.0 (full_at P sure s a rest l W _ is (r ∷ []) [] (d ∷ []) (peek-touches P d r x) 0 r refl g.0) t.0 in
      let q = promise_at s.promises p.0 in
      let hq : q.frame < s.calls = omega (arith, p.3.older, live P sure s a rest l W) in
      good-got (Inv P) _ p.0 _ p.1 (good-got (Inv P) _ q _ (promise-is s p.0 (omega (arith, p.2, W.heap.pool)))
      (good-got (Inv P) _ (frame_at s.frames q.frame) _ (frame_is s W.heap.sized q.frame hq W.heap.bound)
      (good-then (Inv P) _ _ _ (name-got q.frame x hq g.1) (gives-name (PEEK d r x) is (r ∷ []) d (peek-touches P d r x) e.0 t.1 q.frame x hq))))

  pub poke : (r x c : ℕ) → l.does ≡ POKE r x c → Stepped P sure s a rest l W (POKE r x c)
  unfolding execute_to exists
  poke r x c is =
      let e = and_both _ _ (exists-i P sure s a rest l W _ is) in
      let g = and_both _ _ e.1 in
      let t = poke-fits P X a.block r x c (fits-i P sure s a rest l W _ is) in
      let rs = r ∷ c ∷ [] in
      let p = promise-got P sure s a rest l W _ is r e.0 (full_at P sure s a rest l W _ is rs [] [] (poke-touches P r x c) 0 r refl e.0) t.0 in
      let q = promise_at s.promises p.0 in
      let hq : q.frame < s.calls = omega (arith, p.3.older, live P sure s a rest l W) in
      let fc = full_at P sure s a rest l W _ is rs [] [] (poke-touches P r x c) 1 c refl g.1 in
      good-got (Inv P) _ p.0 _ p.1 (good-got (Inv P) _ q _ (promise-is s p.0 (omega (arith, p.2, W.heap.pool)))
      (good-got (Inv P) _ _ _ (plain-got P sure s a rest l W _ is c g.1 fc t.1) (stores (POKE r x c) is rs (poke-touches P r x c) c g.1 fc t.1 q.frame x hq g.0)))
