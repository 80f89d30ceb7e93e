-- The operands of an instruction, as the step takes them.
use mathlib.Core.Path.{◌≡◌, refl, sym, ap, ◌∙◌}
use mathlib.Core.Logic.{inl}
use mathlib.Core.List.{List, [], ◌∷◌}
use mathlib.Core.Option.{none, some}
use mathlib.Core.Bool.{true, false≢true}
use Prim.Native.Nat.{ℕ, zero, suc, ◌<◌}
use native.Mathlib.Omega.{arith}
use lib.IntN.{ℤ}
use lib.ListN.{get_elem?}
use Rattle.layout.specs.Bounds.{REGISTERS}
use Rattle.layout.proofs.Bools.{and_both}
use Rattle.sets.specs.Sets.{has, those}
use Rattle.program.specs.Program.{Instr, Line, Program}
use Rattle.program.specs.Questions.{register_exists, exists}
use Rattle.program.proofs.Laid.{instr_bounded}
use Rattle.rules.specs.Types.{kind_of}
use Rattle.rules.specs.Fits.{type_of, integer, vector, promise, value, fits}
use Rattle.rules.specs.Effects.{reflective}
use Rattle.rules.specs.Actions.{reads◌empties◌assigns◌, touch, action_of}
use Rattle.rules.specs.Walks.{entered}
use Rattle.rules.proofs.Touches.{Touched, touched-by, has-those, those-has}
use Rattle.machine.specs.Try.{got, ◌>>=◌}
use Rattle.machine.specs.States.{VECTORS, PROMISES, an_integer, a_vector, a_promise, full, no_promise}
use Rattle.machine.specs.States as states
use Rattle.machine.specs.declared.Activation.{Activation}
use Rattle.machine.specs.declared.State.{State}
use Rattle.machine.specs.declared.Value.{Value}
use Rattle.soundness.proofs.Cells.{frame_at, cell_at}
use Rattle.soundness.proofs.Invariant.{Sure, version_at, block_at, promise_at, is_full, Fits, PromiseFits}
use Rattle.soundness.proofs.Types.{name-kind, integer-kind, vector-kind, promise-kind, fits-within, fits-promise, an-integer, a-vector, a-promise}
use Rattle.soundness.proofs.Standing.{At, exist, fit, bounded, marked, meets, operand, typed, register-got, place_in}

-- a register of a list of one
pub only_one : (d r : ℕ) → has (those 16 (d ∷ [])) r ≡ true → r ≡ d
only_one d r h = go (those-has 16 (d ∷ []) r h)
  where
    go : (i : ℕ) × (get_elem? (d ∷ []) i ≡ some r) → r ≡ d
    go (zero, e) = cc
    go (suc i, e) = let z : ◌≡◌ {A = ℕ} 0 1 = cc in absurd (omega arith)

pub only_none : (r : ℕ) → has (those 16 []) r ≡ true → ⊥
only_none r h = let t = those-has 16 [] r h in let e : none ≡ some r = t.1 in let z : ◌≡◌ {A = ℕ} 0 1 = cc in absurd (omega arith)

pub full-value : (x : Value) → is_full x ≡ true → full x ≡ got x
unfolding full is_full
full-value Value.Empty h = absurd (false≢true h)
full-value (Value.Integer z) h = refl
full-value (Value.Vector v) h = refl
full-value (Value.Promise p) h = refl

plain_value : (x : Value) → is_full x ≡ true → ((p : ℕ) → x ≡ Value.Promise p → ⊥) → no_promise x ≡ got x
unfolding no_promise is_full
plain_value Value.Empty h n = absurd (false≢true h)
plain_value (Value.Integer z) h n = refl
plain_value (Value.Vector v) h n = refl
plain_value (Value.Promise p) h n = absurd (n p refl)

module _ (P : Program) (sure : Sure P) (s : State) (a : Activation) (rest : List Activation) (l : Line) (W : At P s a rest l) (i : Instr) (is : l.does ≡ i) where
  -- what the questions found of the instruction, and what it touches
  pub fits-i : fits P (version_at P s.frames a.frame) a.block i ≡ true
  fits-i = rw is at (fit P sure s a rest l W)

  pub exists-i : exists P (version_at P s.frames a.frame) a.block i ≡ true
  exists-i = rw is at (exist P sure s a rest l W)

  pub bounded-i : instr_bounded i ≡ true
  bounded-i = rw is at (bounded P sure s a rest l W)

  pub marked-i : reflective P (version_at P s.frames a.frame) i ≡ true → (block_at (version_at P s.frames a.frame) a.block).mark ≡ 1
  marked-i h = marked P sure s a rest l W (rw is h)

  pub touched : (rs us ds : List ℕ) → touch P i ≡ (reads rs empties us assigns ds) → Touched rs us ds (meets P sure s a rest l W).now
  touched rs us ds e =
      let E = entered P (version_at P s.frames a.frame) a.block in
      touched-by E rs us ds (meets P sure s a rest l W).now (sym (ap (action_of E) e) ∙ sym (ap (λ (x : Instr). action_of E (touch P x)) is) ∙ (meets P sure s a rest l W).is-now)

  module _ (rs us ds : List ℕ) (e : touch P i ≡ (reads rs empties us assigns ds)) where
    -- the operand at the place j is there
    pub full_at : (j r : ℕ) → get_elem? rs j ≡ some r → register_exists (version_at P s.frames a.frame) r ≡ true → is_full (cell_at s.frames a.frame r) ≡ true
    full_at j r g h = operand P sure s a rest l W r ((touched rs us ds e).is-R r ∙ has-those 16 rs j r (place_in P sure s a rest l W r h) g)

    pub assigned-in : (r : ℕ) → has (meets P sure s a rest l W).now.W r ≡ true → has (those 16 ds) r ≡ true
    assigned-in r h = sym ((touched rs us ds e).is-W r) ∙ h

  -- ---- an operand by its declared kind

  module _ (r : ℕ) (er : register_exists (version_at P s.frames a.frame) r ≡ true) (fr : is_full (cell_at s.frames a.frame r) ≡ true) where
    hr : r < REGISTERS
    hr = place_in P sure s a rest l W r er

    pub integer-got : integer (version_at P s.frames a.frame) r ≡ true → (z : ℤ) × (states.integer (frame_at s.frames a.frame) r ≡ got z)
    unfolding states.integer ◌>>=◌ an_integer
    integer-got t = let x = an-integer P W.keep s.frames s.promises a.frame _ (cell_at s.frames a.frame r) (integer-kind _ t) fr (typed P sure s a rest l W r hr) in
        (x.0, rw (register-got P sure s a rest l W r hr) (ap an_integer x.1))

    pub vector-got : vector (version_at P s.frames a.frame) r ≡ true → (v : ℕ) × (states.vector (frame_at s.frames a.frame) r ≡ got v) × (cell_at s.frames a.frame r ≡ Value.Vector v) × (v < VECTORS)
    unfolding states.vector ◌>>=◌ a_vector
    vector-got t = let x = a-vector P W.keep s.frames s.promises a.frame _ (cell_at s.frames a.frame r) (vector-kind _ t) fr (typed P sure s a rest l W r hr) in
        (x.0, rw (register-got P sure s a rest l W r hr) (ap a_vector x.1), x.1, x.2)

    pub promise-got : promise (version_at P s.frames a.frame) r ≡ true
        → (p : ℕ) × (states.promise (frame_at s.frames a.frame) r ≡ got p) × (p < PROMISES) × PromiseFits P W.keep s.frames (promise_at s.promises p) a.frame (type_of (version_at P s.frames a.frame) r)
    unfolding states.promise ◌>>=◌ a_promise
    promise-got t = let x = a-promise P W.keep s.frames s.promises a.frame _ (cell_at s.frames a.frame r) (promise-kind _ t) fr (typed P sure s a rest l W r hr) in
        (x.0, rw (register-got P sure s a rest l W r hr) (ap a_promise x.1), x.2, x.3)

    pub value-got : states.value (frame_at s.frames a.frame) r ≡ got (cell_at s.frames a.frame r)
    unfolding states.value ◌>>=◌
    value-got = rw (register-got P sure s a rest l W r hr) (full-value (cell_at s.frames a.frame r) fr)

    pub fits-value : value (version_at P s.frames a.frame) r ≡ true → Fits P W.keep s.frames s.promises a.frame 1 (cell_at s.frames a.frame r)
    unfolding kind_of
    fits-value t = fits-within P W.keep s.frames s.promises a.frame _ 1 (and_both _ _ t).1 (cell_at s.frames a.frame r) (typed P sure s a rest l W r hr)

    pub plain-got : value (version_at P s.frames a.frame) r ≡ true → states.plain (frame_at s.frames a.frame) r ≡ got (cell_at s.frames a.frame r)
    unfolding states.plain ◌>>=◌
    plain-got t = rw (register-got P sure s a rest l W r hr) (plain_value (cell_at s.frames a.frame r) fr (λ p q. fits-promise P W.keep s.frames s.promises a.frame 1 p (inl name-kind) (rw q at (fits-value t))))
