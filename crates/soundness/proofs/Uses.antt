-- USE: the same vector, its old register emptied.
use mathlib.Core.Path.{◌≡◌, refl, sym, ◌∙◌}
use mathlib.Core.Logic.{inr}
use mathlib.Core.List.{List, [], ◌∷◌}
use mathlib.Core.Bool.{true, false}
use Prim.Native.Nat.{ℕ, zero, suc, ◌<◌}
use lib.ListN.{get_elem?}
use mathlib.Core.Option.{some}
use native.Mathlib.Omega.{arith}
use Rattle.layout.specs.Bounds.{REGISTERS}
use Rattle.layout.proofs.Bools.{and_both}
use Rattle.sets.specs.Sets.{has}
use Rattle.program.specs.Program.{USE, Line, Version, Program}
use Rattle.program.specs.Questions.{register_exists, exists}
use Rattle.rules.specs.Types.{is_owned}
use Rattle.rules.specs.Fits.{type_of, fresh}
use Rattle.rules.proofs.Fitted.{use-fits, use-touches}
use Rattle.machine.specs.States.{VECTORS, with_stack, assign}
use Rattle.machine.specs.Steps.{execute_to}
use Rattle.machine.specs.declared.Activation.{Activation}
use Rattle.machine.specs.declared.State.{State}
use Rattle.machine.specs.declared.Value.{Value}
use Rattle.soundness.proofs.Cells.{cell_at, write_at, wrote, at_same, assign-is, write-sized}
use Rattle.soundness.proofs.Invariant.{Sure, version_at, type_at, is_full, Fits, Lone, Heap, Ext, every, top, Gets, Inv}
use Rattle.soundness.proofs.Progress.{Good, good, good-got}
use Rattle.soundness.proofs.Types.{clash, owned-owned, fresh-kind, register-type}
use Rattle.soundness.proofs.Heap.{same_version, ext-every, ext-less, ext-both, ext-full, heap-write}
use Rattle.soundness.proofs.Standing.{At, moved, inv-of, live, inside, place_in, type-is, meets, onward, stack-on, under-le, spare, heap-on}
use Rattle.soundness.proofs.Operands.{only_one, fits-i, exists-i, touched, full_at, assigned-in, vector-got}
use Rattle.soundness.proofs.Plain.{Stepped}
use Rattle.soundness.proofs.Vectors.{gone, under-body}
use Rattle.soundness.proofs.Clearing.{is_in, those-in, at-in-list, Cleared, cleared-none, cleared-one, full-still, ext-older, ext-clear, heap-clear}
use Rattle.rules.proofs.Follows.{not-true as not-false}

module _ (P : Program) (sure : Sure P) (s : State) (a : Activation) (rest : List Activation) (l : Line) (W : At P s a rest l) (d r : ℕ) (is : l.does ≡ USE d r) where
  abbrev X : Version
  X = version_at P s.frames a.frame

  module _ (v : ℕ) (body : a.block ≡ 0) (ed : register_exists X d ≡ true) (er : register_exists X r ≡ true) (own : is_owned (type_of X r) ≡ true) (fd : fresh X d ≡ true) (e : cell_at s.frames a.frame r ≡ Value.Vector v) (hv : v < VECTORS) where
    hd : d < REGISTERS
    hd = place_in P sure s a rest l W d ed

    hr : r < REGISTERS
    hr = place_in P sure s a rest l W r er

    one : Cleared s.frames (write_at s.frames a.frame r Value.Empty) a.frame (is_in (r ∷ []))
    one = cleared-one s.frames _ a.frame r [] W.heap.sized (inside P sure s a rest l W) hr (cleared-none _ a.frame (write-sized s.frames W.heap.sized a.frame r Value.Empty (inside P sure s a rest l W) (omega (arith, hr))))

    -- what is in the list is emptied by the instruction, and nothing else
    empties : (q : ℕ) → is_in (r ∷ []) q ≡ true → has (meets P sure s a rest l W).now.U q ≡ true
    empties q h = (touched P sure s a rest l W _ is (r ∷ []) (r ∷ []) (d ∷ []) (use-touches P d r)).is-U q ∙ those-in (r ∷ []) q (small q (at-in-list (r ∷ []) q h)) h
      where
        small : (q : ℕ) → (i : ℕ) × (get_elem? (r ∷ []) i ≡ some q) → q < 16
        small q (zero, g) = let z : r ≡ q = cc in omega (arith, hr)
        small q (suc i, g) = let z : ◌≡◌ {A = ℕ} 0 1 = cc in absurd (omega arith)

    spared : (q : ℕ) → is_in (r ∷ []) q ≡ true → W.keep a.frame q ≡ false
    spared q h = spare P sure s a rest l W q body (empties q h)

    H₁ : Heap P W.keep (write_at s.frames a.frame r Value.Empty) s.calls s.promises
    H₁ = heap-clear s.frames _ a.frame (is_in (r ∷ [])) one P s.calls s.promises W.heap spared

    E₁ : Ext s.calls W.keep s.frames (write_at s.frames a.frame r Value.Empty)
    E₁ = ext-clear s.frames _ a.frame (is_in (r ∷ [])) one P s.calls s.promises W.heap spared

    E₂ : Ext s.calls every (write_at s.frames a.frame r Value.Empty) (write_at (write_at s.frames a.frame r Value.Empty) a.frame d (Value.Vector v))
    unfolding is_full
    E₂ = ext-full P _ s.calls s.promises H₁ a.frame d (live P sure s a rest l W) (omega (arith, hd)) (Value.Vector v) refl

    same : version_at P (write_at (write_at s.frames a.frame r Value.Empty) a.frame d (Value.Vector v)) a.frame ≡ version_at P s.frames a.frame
    same = same_version P E₂ a.frame (live P sure s a rest l W) ∙ same_version P E₁ a.frame (live P sure s a rest l W)

    H₂ : Heap P W.keep (write_at (write_at s.frames a.frame r Value.Empty) a.frame d (Value.Vector v)) s.calls s.promises
    unfolding Fits Lone type_at
    H₂ = heap-write P _ s.calls s.promises H₁ a.frame d (live P sure s a rest l W) (omega (arith, hd)) (Value.Vector v) (ext-every _ E₂)
        (rw (same_version P E₁ a.frame (live P sure s a rest l W), register-type X d hd) (fresh-kind X d fd), hv)
        (λ w k c q hk g _. absurd (gone P sure s a rest l W r v k c hr body (rw (type-is P sure s a rest l W r hr) own) e hk (g ∙ sym q)))

    pub taken-over : Good (Inv P) (assign (wrote s a.frame r Value.Empty) a.frame d (Value.Vector v))
    unfolding wrote with_stack Gets is_full
    taken-over = good (Inv P) _ (wrote (wrote s a.frame r Value.Empty) a.frame d (Value.Vector v)) (assign-is (wrote s a.frame r Value.Empty) H₁.sized a.frame (live P sure s a rest l W) W.heap.bound d (Value.Vector v) hd)
        (inv-of P s _ s.calls (moved a ∷ rest) W.vectors W.room W.deep W.stacked (heap-on P sure s a rest l W (meets P sure s a rest l W).next (meets P sure s a rest l W).joins H₂)
        (stack-on P sure s a rest l W _ same (ext-both (under-body P sure s a rest l W body (ext-older s.frames _ a.frame (is_in (r ∷ [])) one)) (ext-less _ (under-le P sure s a rest l W) E₂))
        (onward P sure s a rest l W _ top same tt
        (λ q h. inr (rw (only_one d q (assigned-in P sure s a rest l W _ is (r ∷ []) (r ∷ []) (d ∷ []) (use-touches P d r) q h), at_same _ H₁.sized a.frame d (Value.Vector v) (inside P sure s a rest l W) (omega (arith, hd))) refl))
        (λ q h g. E₂.grow a.frame q (live P sure s a rest l W) refl (full-still s.frames _ a.frame (is_in (r ∷ [])) one q (not-false _ (λ z. clash (empties q z) h)) g)))))

  pub use-step : Stepped P sure s a rest l W (USE d r)
  unfolding execute_to exists
  use-step =
      let x = and_both _ _ (exists-i P sure s a rest l W _ is) in
      let t = use-fits P X a.block d r (fits-i P sure s a rest l W _ is) in
      let v = vector-got P sure s a rest l W _ is r x.1 (full_at P sure s a rest l W _ is (r ∷ []) (r ∷ []) (d ∷ []) (use-touches P d r) 0 r refl x.1) (and_both _ _ t.1).0 in
      good-got (Inv P) _ v.0 _ v.1 (good-got (Inv P) _ (wrote s a.frame r Value.Empty) _ (assign-is s W.heap.sized a.frame (live P sure s a rest l W) W.heap.bound r Value.Empty (place_in P sure s a rest l W r x.1))
      (taken-over v.0 t.0 x.0 x.1 (owned-owned X r t.1) t.2 v.2 v.3))
