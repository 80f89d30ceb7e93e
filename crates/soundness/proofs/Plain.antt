-- Instructions that put one value into one cell.
use mathlib.Core.Path.{◌≡◌, refl}
use mathlib.Core.List.{List, [], ◌∷◌}
use mathlib.Core.Bool.{true}
use Prim.Native.Nat.{ℕ, zero, suc, ◌<◌}
use native.Mathlib.Omega.{arith}
use lib.IntN.{ℤ, pos, negsuc}
use lib.ListN.{get_or}
use lib.Dec.{ltb}
use borrow.Author.Tests.{ltb-true}
use Rattle.layout.specs.Bounds.{OPERATIONS}
use Rattle.layout.specs.Records.{choose}
use Rattle.layout.proofs.Bools.{and_both}
use Rattle.machine.proofs.Tries.{at_in}
use Rattle.program.specs.Program.{Instr, LIT, MOVE, LEN, GET, ARITH, SELECT, CAST, Line, Version, Program}
use Rattle.program.specs.Questions.{register_exists, exists}
use Rattle.program.proofs.Laid.{instr_bounded}
use Rattle.rules.specs.Types.{is_shared}
use Rattle.rules.specs.Fits.{type_of, plain}
use Rattle.rules.specs.Actions.{touch, reads◌empties◌assigns◌}
use Rattle.rules.proofs.Rules.{move-shared}
use Rattle.rules.proofs.Fitted.{lit-fits, lit-touches, move-touches, len-fits, len-touches, get-fits, get-touches, arith-fits, arith-touches, select-fits, select-touches, cast_fits, cast-touches}
use Rattle.machine.specs.Try.{got, at}
use Rattle.machine.specs.Values.{ranged, divided, arith as arithmetic, arith_to, index, ranged_to, divided_to}
use Rattle.machine.specs.States.{VECTORS, new_vector, assign}
use Rattle.machine.specs.Steps.{execute, execute_to}
use Rattle.machine.specs.declared.Activation.{Activation}
use Rattle.machine.specs.declared.State.{State}
use Rattle.machine.specs.declared.Value.{Value}
use Rattle.machine.specs.declared.Vector.{Vector}
use Rattle.soundness.proofs.Cells.{frame_at, cell_at}
use Rattle.soundness.proofs.Invariant.{Sure, version_at, type_at, is_full, Fits, Inv}
use Rattle.soundness.proofs.Progress.{Good, good, good-then, good-got, good-end, good-test}
use Rattle.soundness.proofs.Types.{plain-kind, fits-within}
use Rattle.soundness.proofs.Heap.{lone-unless}
use Rattle.soundness.proofs.KindsOf.{kind-got, kind-within, kind_fits}
use Rattle.soundness.proofs.Standing.{At, live, place_in, type-is, typed, writes-register, shared-lone, fits_on}
use Rattle.soundness.proofs.Operands.{only_one, fits-i, exists-i, bounded-i, full_at, assigned-in, integer-got, vector-got, value-got}

-- ---- integers

pub no-vector : (z : ℤ) (v : ℕ) → Value.Integer z ≡ Value.Vector v → ⊥
no-vector z v e = let q : ◌≡◌ {A = ℕ} 0 1 = cc in omega arith

any-result : (z : ℤ) → Good (λ (_ : ℤ). Unit {0}) (ranged z)
unfolding ranged_to
any-result z = good-end (λ (_ : ℤ). Unit {0}) _ _ (got z) (λ _. done)
  where
    done : Good (λ (_ : ℤ). Unit {0}) (got z)
    done = good (λ (_ : ℤ). Unit {0}) (got z) z refl tt

any-quotient : (x y : ℤ) → Good (λ (_ : ℤ). Unit {0}) (divided x y)
unfolding divided_to
any-quotient x y = good-end (λ (_ : ℤ). Unit {0}) _ _ (ranged _) (λ _. any-result _)

-- an operation that exists is not stuck
pub arith-ok : (op : ℕ) (x y : ℤ) → ltb op OPERATIONS ≡ true → Good (λ (_ : ℤ). Unit {0}) (arithmetic op x y)
unfolding arith_to choose
arith-ok op x y h = go op (ltb-true op OPERATIONS h)
  where
    go : (op : ℕ) → op < 5 → Good (λ (_ : ℤ). Unit {0}) (arithmetic op x y)
    go zero l = any-result _
    go (suc zero) l = any-result _
    go (suc (suc zero)) l = any-result _
    go (suc (suc (suc zero))) l = any-quotient x y
    go (suc (suc (suc (suc zero)))) l = good (λ (_ : ℤ). Unit {0}) _ _ refl tt
    go (suc (suc (suc (suc (suc op))))) l = absurd (omega arith)

pub index_ok : (z : ℤ) (n : ℕ) → Good (λ (_ : ℕ). Unit {0}) (index z n)
unfolding index Good
index_ok (pos i) n = good-end (λ (_ : ℕ). Unit {0}) _ _ (got i) (λ _. tt)
index_ok (negsuc i) n = tt

module _ (P : Program) (sure : Sure P) (s : State) (a : Activation) (rest : List Activation) (l : Line) (W : At P s a rest l) where
  -- its version
  abbrev X : Version
  X = version_at P s.frames a.frame

  -- a step of an instruction
  abbrev pub Stepped : Instr → Type 0
  Stepped i = Good (Inv P) (execute P s a.frame (frame_at s.frames a.frame) (version_at P s.frames a.frame) i)

  module _ (i : Instr) (is : l.does ≡ i) (rs : List ℕ) (d : ℕ) (e : touch P i ≡ (reads rs empties [] assigns d ∷ [])) (ed : register_exists X d ≡ true) where
    -- an integer enters d
    pub gives-integer : plain X d 2 ≡ true → (z : ℤ) → Good (Inv P) (assign s a.frame d (Value.Integer z))
    unfolding Fits is_full
    gives-integer pd z = writes-register P sure s a rest l W d (Value.Integer z) ed (λ r q. only_one d r (assigned-in P sure s a rest l W i is rs [] (d ∷ []) e r q)) refl (plain-kind X d 2 pd) (lone-unless P s.frames s.calls a.frame d (Value.Integer z) (no-vector z))

    -- the value of a shared cell c of a live frame k enters a shared d
    pub gives-shared : (k c : ℕ) → k < s.calls → is_shared (type_at P s.frames k c) ≡ true → is_shared (type_of X d) ≡ true → is_full (cell_at s.frames k c) ≡ true
        → Fits P W.keep s.frames s.promises a.frame (type_of X d) (cell_at s.frames k c) → Good (Inv P) (assign s a.frame d (cell_at s.frames k c))
    gives-shared k c hk hs hd fx fits-x = writes-register P sure s a rest l W d (cell_at s.frames k c) ed (λ r q. only_one d r (assigned-in P sure s a rest l W i is rs [] (d ∷ []) e r q)) fx (fits_on P sure s a rest l W a.frame (type_of X d) (live P sure s a rest l W) (cell_at s.frames k c) fits-x)
        (shared-lone P sure s a rest l W k c a.frame d hk hs (rw (type-is P sure s a rest l W d (place_in P sure s a rest l W d ed)) hd))

  pub lit : (d : ℕ) (z : ℤ) → l.does ≡ LIT d z → Stepped (LIT d z)
  unfolding execute_to exists
  lit d z is = gives-integer (LIT d z) is [] d (lit-touches P d z) (exists-i P sure s a rest l W _ is) (lit-fits P X a.block d z (fits-i P sure s a rest l W _ is)) z

  pub move : (d r : ℕ) → l.does ≡ MOVE d r → Stepped (MOVE d r)
  unfolding execute_to exists
  move d r is =
      let x = and_both _ _ (exists-i P sure s a rest l W _ is) in
      let t = move-shared P X a.block d r (fits-i P sure s a rest l W _ is) in
      let fr = full_at P sure s a rest l W _ is (r ∷ []) [] (d ∷ []) (move-touches P d r) 0 r refl x.1 in
      let hr = place_in P sure s a rest l W r x.1 in
      let f = fits-within P W.keep s.frames s.promises a.frame _ (type_of X d) t.kind _ (typed P sure s a rest l W r hr) in
      good-got (Inv P) _ (cell_at s.frames a.frame r) _ (value-got P sure s a rest l W _ is r x.1 fr)
      (good-got (Inv P) _ _ _ (kind-got P s W.heap W.vectors a.frame _ (live P sure s a rest l W) (cell_at s.frames a.frame r) fr f)
      (good-got (Inv P) _ (type_of X d) _ (at_in X.types d 0 (ltb-true d _ x.0))
      (good-test (Inv P) _ _ (kind-within P W.keep s.frames s.promises a.frame (type_of X d) _ fr f)
      (gives-shared (MOVE d r) is (r ∷ []) d (move-touches P d r) x.0 a.frame r (live P sure s a rest l W) (rw (type-is P sure s a rest l W r hr) t.from) t.to fr f))))

  -- the vector that an operand refers to
  pub vector-at : (v : ℕ) → v < VECTORS → (w : Vector) × (at s.vectors v ≡ got w)
  vector-at v h = (get_or s.vectors v (new_vector []), at_in s.vectors v (new_vector []) (omega (arith, W.vectors)))

  pub len : (d r : ℕ) → l.does ≡ LEN d r → Stepped (LEN d r)
  unfolding execute_to exists
  len d r is =
      let x = and_both _ _ (exists-i P sure s a rest l W _ is) in
      let t = len-fits P X a.block d r (fits-i P sure s a rest l W _ is) in
      let v = vector-got P sure s a rest l W _ is r x.1 (full_at P sure s a rest l W _ is (r ∷ []) [] (d ∷ []) (len-touches P d r) 0 r refl x.1) t.0 in
      let w = vector-at v.0 v.3 in
      good-got (Inv P) _ v.0 _ v.1 (good-got (Inv P) _ w.0 _ w.1 (gives-integer (LEN d r) is (r ∷ []) d (len-touches P d r) x.0 t.1 _))

  pub get : (d r j : ℕ) → l.does ≡ GET d r j → Stepped (GET d r j)
  unfolding execute_to exists
  get d r j is =
      let x = and_both _ _ (exists-i P sure s a rest l W _ is) in
      let y = and_both _ _ x.1 in
      let t = get-fits P X a.block d r j (fits-i P sure s a rest l W _ is) in
      let v = vector-got P sure s a rest l W _ is r y.0 (full_at P sure s a rest l W _ is (r ∷ j ∷ []) [] (d ∷ []) (get-touches P d r j) 0 r refl y.0) t.0 in
      let w = vector-at v.0 v.3 in
      let z = integer-got P sure s a rest l W _ is j y.1 (full_at P sure s a rest l W _ is (r ∷ j ∷ []) [] (d ∷ []) (get-touches P d r j) 1 j refl y.1) t.1 in
      good-got (Inv P) _ v.0 _ v.1 (good-got (Inv P) _ w.0 _ w.1 (good-got (Inv P) _ z.0 _ z.1
      (good-then (Inv P) (λ (_ : ℕ). Unit {0}) _ _ (index_ok z.0 _) (λ n _. gives-integer (GET d r j) is (r ∷ j ∷ []) d (get-touches P d r j) x.0 t.2 _))))

  pub arith-step : (d op b c : ℕ) → l.does ≡ ARITH d op b c → Stepped (ARITH d op b c)
  unfolding execute_to exists instr_bounded
  arith-step d op b c is =
      let x = and_both _ _ (exists-i P sure s a rest l W _ is) in
      let y = and_both _ _ x.1 in
      let t = arith-fits P X a.block d op b c (fits-i P sure s a rest l W _ is) in
      let m = integer-got P sure s a rest l W _ is b y.0 (full_at P sure s a rest l W _ is (b ∷ c ∷ []) [] (d ∷ []) (arith-touches P d op b c) 0 b refl y.0) t.0 in
      let n = integer-got P sure s a rest l W _ is c y.1 (full_at P sure s a rest l W _ is (b ∷ c ∷ []) [] (d ∷ []) (arith-touches P d op b c) 1 c refl y.1) t.1 in
      good-got (Inv P) _ m.0 _ m.1 (good-got (Inv P) _ n.0 _ n.1
      (good-then (Inv P) (λ (_ : ℤ). Unit {0}) _ _ (arith-ok op m.0 n.0 (bounded-i P sure s a rest l W _ is)) (λ z _. gives-integer (ARITH d op b c) is (b ∷ c ∷ []) d (arith-touches P d op b c) x.0 t.2 z)))

  pub select : (d b c e : ℕ) → l.does ≡ SELECT d b c e → Stepped (SELECT d b c e)
  unfolding execute_to exists
  select d b c e is =
      let x = and_both _ _ (exists-i P sure s a rest l W _ is) in
      let y = and_both _ _ x.1 in
      let z = and_both _ _ y.1 in
      let t = select-fits P X a.block d b c e (fits-i P sure s a rest l W _ is) in
      let rs = b ∷ c ∷ e ∷ [] in
      let m = integer-got P sure s a rest l W _ is b y.0 (full_at P sure s a rest l W _ is rs [] (d ∷ []) (select-touches P d b c e) 0 b refl y.0) t.0 in
      let n = integer-got P sure s a rest l W _ is c z.0 (full_at P sure s a rest l W _ is rs [] (d ∷ []) (select-touches P d b c e) 1 c refl z.0) t.1 in
      let o = integer-got P sure s a rest l W _ is e z.1 (full_at P sure s a rest l W _ is rs [] (d ∷ []) (select-touches P d b c e) 2 e refl z.1) t.2 in
      good-got (Inv P) _ m.0 _ m.1 (good-got (Inv P) _ n.0 _ n.1 (good-got (Inv P) _ o.0 _ o.1 (gives-integer (SELECT d b c e) is rs d (select-touches P d b c e) x.0 t.3 _)))

  pub cast : (d r : ℕ) → l.does ≡ CAST d r → Stepped (CAST d r)
  unfolding execute_to exists
  cast d r is =
      let x = and_both _ _ (exists-i P sure s a rest l W _ is) in
      let t = cast_fits P X a.block d r (fits-i P sure s a rest l W _ is) in
      let fr = full_at P sure s a rest l W _ is (r ∷ []) [] (d ∷ []) (cast-touches P d r) 0 r refl x.1 in
      let hr = place_in P sure s a rest l W r x.1 in
      let f = typed P sure s a rest l W r hr in
      good-got (Inv P) _ (cell_at s.frames a.frame r) _ (value-got P sure s a rest l W _ is r x.1 fr)
      (good-got (Inv P) _ _ _ (kind-got P s W.heap W.vectors a.frame _ (live P sure s a rest l W) (cell_at s.frames a.frame r) fr f)
      (good-got (Inv P) _ (type_of X d) _ (at_in X.types d 0 (ltb-true d _ x.0))
      (good-end (Inv P) _ _ _ (λ k. gives-shared (CAST d r) is (r ∷ []) d (cast-touches P d r) x.0 a.frame r (live P sure s a rest l W) (rw (type-is P sure s a rest l W r hr) t.0) t.1 fr
      (kind_fits P W.keep s.frames s.promises a.frame _ _ _ f k)))))
