-- Vectors: DUP, VEC and SET.
use mathlib.Core.Path.{◌≡◌, refl, sym, ap, ◌∙◌}
use mathlib.Core.Logic.{◌⊎◌, inl, inr}
use mathlib.Core.List.{List, [], ◌∷◌}
use mathlib.Core.Bool.{Bool, true, false}
use Prim.Native.Nat.{ℕ, suc, ◌+◌, ◌≤◌, ◌<◌}
use native.Mathlib.Omega.{arith}
use lib.ListN.{length, length-set}
use Rattle.layout.specs.Bounds.{REGISTERS}
use Rattle.layout.proofs.Bools.{and_both}
use Rattle.sets.specs.Sets.{has}
use Rattle.program.specs.Program.{Instr, DUP, VEC, SET, Line, Version, Program}
use Rattle.program.specs.Questions.{register_exists, exists}
use Rattle.rules.specs.Types.{is_owned, is_borrowed}
use Rattle.rules.specs.Fits.{type_of, integer, fresh}
use Rattle.rules.specs.Actions.{touch, reads◌empties◌assigns◌}
use Rattle.rules.proofs.Fitted.{dup-fits, dup-touches, vec-fits, vec-touches, set-fits, set-touches}
use Rattle.machine.specs.Try.{got, ◌>>=◌, stuck_unless}
use Rattle.machine.specs.States.{ACTIVATIONS, VECTORS, new_vector, free_vector, vector_counts, with_vector, with_stack, assign}
use Rattle.machine.specs.Steps.{alone, execute_to}
use Rattle.machine.specs.declared.Activation.{Activation}
use Rattle.machine.specs.declared.Frame.{Frame}
use Rattle.machine.specs.declared.Opener.{Opener}
use Rattle.machine.specs.declared.State.{State}
use Rattle.machine.specs.declared.Value.{Value}
use Rattle.machine.specs.declared.Vector.{Vector}
use Rattle.soundness.proofs.Cells.{Sized, Apart, place?, cell_at, write_at, wrote, at_same, at_other, assign-is, write-sized}
use Rattle.soundness.proofs.Invariant.{Sure, version_at, type_at, is_full, Fits, Unshared, Lone, Heap, Ext, every, top, Gets, Opened, below, Stack, stack_of, Inv}
use Rattle.soundness.proofs.Progress.{Good, good, good-then, good-got, good-next}
use Rattle.soundness.proofs.Types.{owned-owned, fresh-kind}
use Rattle.soundness.proofs.Heap.{ext_same}
use Rattle.soundness.proofs.Counting.{each-some, vector-free, vector-alone, free-ok}
use Rattle.soundness.proofs.Standing.{At, moved, live, inside, place_in, type-is, meets, onward, stack-on, writes-register, heap-on}
use Rattle.soundness.proofs.Operands.{only_one, fits-i, exists-i, full_at, assigned-in, integer-got, vector-got}
use Rattle.soundness.proofs.Plain.{Stepped, vector-at, index_ok}
use Rattle.runs.proofs.Lists.{all-at}

-- a change of the vectors alone
pub at-vector : (P : Program) (s : State) (a : Activation) (rest : List Activation) (l : Line) (v : ℕ) (w : Vector) → At P s a rest l → At P (with_vector s v w) a rest l
unfolding with_vector
at-vector P s a rest l v w W = record { keep = W.keep; heap = W.heap; vectors = length-set s.vectors v w ∙ W.vectors; room = W.room; deep = W.deep; stacked = W.stacked; stands = W.stands; opened = W.opened; under = W.under; line = W.line }

-- a body runs only in the newest frame
pub opened-newest : (n f b : ℕ) (o : Opener) → Opened n f b o → b ≡ 0 → suc f ≡ n
unfolding Opened
opened-newest n f b Opener.Call x e = x.0
opened-newest n f b (Opener.Force p) x e = absurd (omega (arith, x.1))

-- under a body there are older frames only
pub opened-under : (n f b : ℕ) (o : Opener) {fs fs' : List Frame} → Opened n f b o → b ≡ 0 → Ext f every fs fs' → Ext (below n f o) every fs fs'
unfolding Opened below
opened-under n f b Opener.Call x e y = y
opened-under n f b (Opener.Force p) x e y = absurd (omega (arith, x.1))

-- SET's test, where no other cell holds the vector
alone-got : (s : State) (k r v : ℕ) → Sized s.frames → k < s.calls → s.calls ≤ ACTIVATIONS → r < REGISTERS
    → ((k' c : ℕ) → k' < s.calls → cell_at (write_at s.frames k r Value.Empty) k' c ≡ Value.Vector v → ⊥) → alone s k r v ≡ got tt
unfolding alone ◌>>=◌ stuck_unless wrote with_stack
alone-got s k r v sz hk hn hr h =
    let sz' = write-sized s.frames sz k r Value.Empty (omega arith) (omega arith) in
    rw (assign-is s sz k hk hn r Value.Empty hr, vector-alone (wrote s k r Value.Empty) sz' hn v h) refl

-- a state with a vector changed
vector-inv : (P : Program) {K : ℕ → ℕ → Bool} (s : State) (v : ℕ) (w : Vector) (l : List Activation) → Heap P K s.frames s.calls s.promises → length s.vectors ≡ VECTORS → length s.activations ≡ ACTIVATIONS → s.depth ≤ ACTIVATIONS → stack_of s.activations s.depth ≡ l
    → Stack P K s.frames top s.calls l → Inv P (with_vector s v w)
unfolding with_vector
vector-inv P {K} s v w l h e r d q k = record { keep = K; heap = h; vectors = length-set s.vectors v w ∙ e; room = r; deep = d; stack = λ _. rw q k }

module _ (P : Program) (sure : Sure P) (s : State) (a : Activation) (rest : List Activation) (l : Line) (W : At P s a rest l) where
  abbrev X : Version
  X = version_at P s.frames a.frame

  -- ---- new vectors

  -- a vector w at a free place n enters d
  gives-fresh : (i : Instr) (is : l.does ≡ i) (rs : List ℕ) (d : ℕ) (e : touch P i ≡ (reads rs empties [] assigns d ∷ [])) → register_exists X d ≡ true → fresh X d ≡ true → (w : Vector) (n : ℕ) → (vector_counts s n ≡ false) × (n < 0 + VECTORS)
      → Good (Inv P) (assign (with_vector s n w) a.frame d (Value.Vector n))
  unfolding with_vector Fits is_full Lone
  gives-fresh i is rs d e ed fd w n h =
      writes-register P sure (with_vector s n w) a rest l (at-vector P s a rest l n w W) d (Value.Vector n) ed
      (λ r q. only_one d r (assigned-in P sure (with_vector s n w) a rest l (at-vector P s a rest l n w W) i is rs [] (d ∷ []) e r q)) refl
      (fresh-kind X d fd, omega (arith, h.1))
      (λ v k c q hk g _. absurd (vector-free s W.heap.sized W.heap.bound n h.0 k c hk (g ∙ sym q)))

  pub dup : (d r : ℕ) → l.does ≡ DUP d r → Stepped P sure s a rest l W (DUP d r)
  unfolding execute_to exists free_vector
  dup d r is =
      let x = and_both _ _ (exists-i P sure s a rest l W _ is) in
      let t = dup-fits P X a.block d r (fits-i P sure s a rest l W _ is) in
      let v = vector-got P sure s a rest l W _ is r x.1 (full_at P sure s a rest l W _ is (r ∷ []) [] (d ∷ []) (dup-touches P d r) 0 r refl x.1) t.0 in
      let w = vector-at P sure s a rest l W v.0 v.3 in
      good-got (Inv P) _ v.0 _ v.1 (good-got (Inv P) _ w.0 _ w.1
      (good-then (Inv P) _ _ _ (free-ok _ (vector_counts s) VECTORS 0) (gives-fresh (DUP d r) is (r ∷ []) d (dup-touches P d r) x.0 t.1 w.0)))

  pub vec : (d : ℕ) (rs : List ℕ) → l.does ≡ VEC d rs → Stepped P sure s a rest l W (VEC d rs)
  unfolding execute_to exists free_vector
  vec d rs is =
      let x = and_both _ _ (exists-i P sure s a rest l W _ is) in
      let t = vec-fits P X a.block d rs (fits-i P sure s a rest l W _ is) in
      let zs = each-some _ rs (λ j r e.
      let er = all-at (register_exists X) rs x.1 j r e in
      integer-got P sure s a rest l W _ is r er (full_at P sure s a rest l W _ is rs [] (d ∷ []) (vec-touches P d rs) j r e er) (all-at (integer X) rs t.0 j r e)) in
      good-got (Inv P) _ zs.0 _ zs.1
      (good-then (Inv P) _ _ _ (free-ok _ (vector_counts s) VECTORS 0) (gives-fresh (VEC d rs) is rs d (vec-touches P d rs) x.0 t.1 (new_vector zs.0)))

  -- ---- owned vectors of a body

  -- a body runs only in the newest frame
  pub newest : a.block ≡ 0 → suc a.frame ≡ s.calls
  newest e = opened-newest s.calls a.frame a.block a.opener W.opened e

  -- there, an owned vector is nowhere else
  pub sole : (r v k c : ℕ) → a.block ≡ 0 → is_owned (type_at P s.frames a.frame r) ≡ true → cell_at s.frames a.frame r ≡ Value.Vector v
      → k < s.calls → cell_at s.frames k c ≡ Value.Vector v → Apart a.frame r k c → ⊥
  unfolding Apart Unshared
  sole r v k c b o e hk q ap = go (W.heap.own a.frame r k c v (live P sure s a rest l W) hk e q o)
    where
      go : ((k ≡ a.frame) × (c ≡ r)) ⊎ ((is_borrowed (type_at P s.frames k c) ≡ true) × (a.frame < k)) → ⊥
      go (inl x) = ap x.0 x.1
      go (inr x) = omega (arith, newest b)

  -- once its register is emptied, it is nowhere
  pub gone : (r v k c : ℕ) → r < REGISTERS → a.block ≡ 0 → is_owned (type_at P s.frames a.frame r) ≡ true → cell_at s.frames a.frame r ≡ Value.Vector v
      → k < s.calls → cell_at (write_at s.frames a.frame r Value.Empty) k c ≡ Value.Vector v → ⊥
  gone r v k c hr b o e hk q = go (place? a.frame r k c)
    where
      go : ((k ≡ a.frame) × (c ≡ r)) ⊎ Apart a.frame r k c → ⊥
      go (inl x) = let y : cell_at (write_at s.frames a.frame r Value.Empty) a.frame r ≡ Value.Vector v = rw (x.0, x.1) at q in
          let z : ◌≡◌ {A = ℕ} 0 1 = cc (at_same s.frames W.heap.sized a.frame r Value.Empty (inside P sure s a rest l W) (omega arith)) in omega arith
      go (inr x) = sole r v k c b o e hk (sym (at_other s.frames W.heap.sized a.frame r Value.Empty (inside P sure s a rest l W) (omega arith) k c x) ∙ q) x

  -- under a body there are older frames only
  pub under-body : {fs' : List Frame} → a.block ≡ 0 → Ext a.frame every s.frames fs' → Ext (below s.calls a.frame a.opener) every s.frames fs'
  under-body {fs'} e x = opened-under s.calls a.frame a.block a.opener W.opened e x

  -- ---- SET

  pub set-step : (r j c : ℕ) → l.does ≡ SET r j c → Stepped P sure s a rest l W (SET r j c)
  unfolding execute_to exists alone wrote with_stack Gets
  set-step r j c is =
      let x = and_both _ _ (exists-i P sure s a rest l W _ is) in
      let y = and_both _ _ x.1 in
      let t = set-fits P X a.block r j c (fits-i P sure s a rest l W _ is) in
      let rs = r ∷ j ∷ c ∷ [] in
      let fr = full_at P sure s a rest l W _ is rs [] (r ∷ []) (set-touches P r j c) 0 r refl x.0 in
      let v = vector-got P sure s a rest l W _ is r x.0 fr (and_both _ _ t.1).0 in
      let z = vector-at P sure s a rest l W v.0 v.3 in
      let m = integer-got P sure s a rest l W _ is j y.0 (full_at P sure s a rest l W _ is rs [] (r ∷ []) (set-touches P r j c) 1 j refl y.0) t.2 in
      let n = integer-got P sure s a rest l W _ is c y.1 (full_at P sure s a rest l W _ is rs [] (r ∷ []) (set-touches P r j c) 2 c refl y.1) t.3 in
      good-got (Inv P) _ v.0 _ v.1 (good-got (Inv P) _ z.0 _ z.1 (good-got (Inv P) _ m.0 _ m.1 (good-got (Inv P) _ n.0 _ n.1
      (good-next (Inv P) _ tt _ (alone-ok r v.0 x.0 t.0 (owned-owned X r t.1) v.2)
      (good-then (Inv P) (λ (_ : ℕ). Unit {0}) _ _ (index_ok m.0 _) (λ i _. good (Inv P) _ _ refl (changed r v.0 _ fr (λ q h. only_one r q (assigned-in P sure s a rest l W _ is rs [] (r ∷ []) (set-touches P r j c) q h)))))))))
    where
      alone-ok : (r v : ℕ) → register_exists X r ≡ true → a.block ≡ 0 → is_owned (type_of X r) ≡ true → cell_at s.frames a.frame r ≡ Value.Vector v → alone s a.frame r v ≡ got tt
      alone-ok r v er b o e =
          let hr = place_in P sure s a rest l W r er in
          alone-got s a.frame r v W.heap.sized (live P sure s a rest l W) W.heap.bound hr
          (λ k c hk q. gone r v k c hr b (rw (type-is P sure s a rest l W r hr) o) e hk q)

      changed : (r v : ℕ) (w : Vector) → is_full (cell_at s.frames a.frame r) ≡ true → ((q : ℕ) → has (meets P sure s a rest l W).now.W q ≡ true → q ≡ r) → Inv P (with_vector s v w)
      changed r v w fr only = vector-inv P s v w (moved a ∷ rest) (heap-on P sure s a rest l W (meets P sure s a rest l W).next (meets P sure s a rest l W).joins W.heap) W.vectors W.room W.deep W.stacked
          (stack-on P sure s a rest l W s.frames refl (ext_same _ every s.frames) (onward P sure s a rest l W s.frames top refl tt (λ q h. inr (rw (only q h) fr)) (λ q _ g. g)))
