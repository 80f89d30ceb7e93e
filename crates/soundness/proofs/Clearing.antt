-- Registers that are emptied: by USE one, by a call those of its owned parameters.
use mathlib.Core.Path.{◌≡◌, refl, sym, ap, ◌∙◌}
use mathlib.Core.Logic.{◌⊎◌, inl, inr}
use mathlib.Core.List.{List, [], ◌∷◌}
use mathlib.Core.Option.{some}
use mathlib.Core.Bool.{Bool, true, false, ◌||◌, false≢true}
use Prim.Native.Nat.{ℕ, zero, suc, ◌≤◌, ◌<◌}
use native.Mathlib.Decide.{ℕ_discrete}
use native.Mathlib.Omega.{arith}
use lib.ListN.{get_elem?}
use lib.Dec.{eqb}
use borrow.Author.Tests.{eqb-true}
use Rattle.layout.specs.Bounds.{REGISTERS}
use Rattle.sets.specs.Sets.{has, those}
use Rattle.program.specs.Program.{Program, beside}
use Rattle.rules.specs.Types.{is_owned}
use Rattle.rules.specs.Actions.{emptied as freed}
use Rattle.rules.proofs.Follows.{or-either, or_left, or_right}
use Rattle.rules.proofs.Touches.{has-those}
use Rattle.machine.specs.Try.{got, ◌>>=◌}
use Rattle.machine.specs.States.{ACTIVATIONS, with_stack}
use Rattle.machine.specs.Calls.{empty_if, emptied}
use Rattle.machine.specs.declared.Frame.{Frame}
use Rattle.machine.specs.declared.Promise.{Promise}
use Rattle.machine.specs.declared.State.{State}
use Rattle.machine.specs.declared.Value.{Value}
use Rattle.soundness.proofs.Cells.{Sized, Apart, frame_at, cell_at, write_at, wrote, at_same, at_other, at-function, at-version, write-sized, assign-is}
use Rattle.soundness.proofs.Invariant.{type_at, is_full, Fits, Unshared, Heap, Ext, every}
use Rattle.soundness.proofs.Types.{clash, eqb_same}
use Rattle.soundness.proofs.Heap.{same_version, fits-ext, known-ext}

-- is the register in the list?
unfoldable pub is_in : List ℕ → ℕ → Bool
is_in [] r = false
is_in (u ∷ us) r = eqb r u || is_in us r

pub in-at : (us : List ℕ) (i r : ℕ) → get_elem? us i ≡ some r → is_in us r ≡ true
unfolding is_in
in-at [] i r e = let z : ◌≡◌ {A = ℕ} 0 1 = cc in absurd (omega arith)
in-at (u ∷ us) zero r e = let q : u ≡ r = cc in or_left {a = eqb r u} _ (rw q (eqb_same r))
in-at (u ∷ us) (suc i) r e = or_right (eqb r u) (in-at us i r e)

pub at-in-list : (us : List ℕ) (r : ℕ) → is_in us r ≡ true → (i : ℕ) × (get_elem? us i ≡ some r)
unfolding is_in
at-in-list [] r h = absurd (false≢true h)
at-in-list (u ∷ us) r h = go (or-either (eqb r u) (is_in us r) h) (at-in-list us r)
  where
    go : (eqb r u ≡ true) ⊎ (is_in us r ≡ true) → (is_in us r ≡ true → (i : ℕ) × (get_elem? us i ≡ some r)) → (i : ℕ) × (get_elem? (u ∷ us) i ≡ some r)
    go (inl e) ih = (0, ap some (sym (eqb-true r u e)))
    go (inr e) ih = let t = ih e in (suc t.0, t.1)

pub those-in : (us : List ℕ) (r : ℕ) → r < 16 → is_in us r ≡ true → has (those 16 us) r ≡ true
those-in us r l h = let t = at-in-list us r h in has-those 16 us t.0 r l t.1

-- the registers of the frame f that E marks are emptied, by whatever way
pub record Cleared (fs fs' : List Frame) (f : ℕ) (E : ℕ → Bool) : Type 0 where
  pub sized : Sized fs'
  pub functions : (k : ℕ) → (frame_at fs' k).function ≡ (frame_at fs k).function
  pub versions : (k : ℕ) → (frame_at fs' k).version ≡ (frame_at fs k).version
  pub gone : (r : ℕ) → E r ≡ true → cell_at fs' f r ≡ Value.Empty
  pub same : (k r : ℕ) → (k ≡ f → E r ≡ true → ⊥) → cell_at fs' k r ≡ cell_at fs k r

module _ (fs fs' : List Frame) (f : ℕ) (E : ℕ → Bool) (C : Cleared fs fs' f E) where
  -- each cell is as it was, or emptied
  pub cleared? : (k r : ℕ) → ((k ≡ f) × (E r ≡ true)) ⊎ (cell_at fs' k r ≡ cell_at fs k r)
  cleared? k r = go (ℕ_discrete k f) (E r) refl
    where
      go : Dec (k ≡ f) → (b : Bool) → E r ≡ b → ((k ≡ f) × (E r ≡ true)) ⊎ (cell_at fs' k r ≡ cell_at fs k r)
      go (yes e) true h = inl (e, h)
      go (yes e) false h = inr (C.same k r (λ _ q. clash q h))
      go (no e) b h = inr (C.same k r (λ q _. e q))

  pub still : (k r w : ℕ) → cell_at fs' k r ≡ Value.Vector w → cell_at fs k r ≡ Value.Vector w
  still k r w e = go (cleared? k r)
    where
      go : ((k ≡ f) × (E r ≡ true)) ⊎ (cell_at fs' k r ≡ cell_at fs k r) → cell_at fs k r ≡ Value.Vector w
      go (inl x) = let y : cell_at fs' f r ≡ Value.Vector w = rw x.0 at e in let z : ◌≡◌ {A = ℕ} 0 1 = cc (C.gone r x.1) in absurd (omega arith)
      go (inr x) = sym x ∙ e

  -- what is not emptied stays full
  pub full-still : (r : ℕ) → E r ≡ false → is_full (cell_at fs f r) ≡ true → is_full (cell_at fs' f r) ≡ true
  full-still r h q = rw (C.same f r (λ _ g. clash g h)) q

  -- older frames do not notice
  pub ext-older : Ext f every fs fs'
  ext-older = record { functions = λ k _. C.functions k; versions = λ k _. C.versions k; grow = λ k r h _ q. rw (C.same k r (λ e _. absurd (omega arith))) q }

  module _ (P : Program) {K : ℕ → ℕ → Bool} (n : ℕ) (ps : List Promise) (H : Heap P K fs n ps) (spare : (r : ℕ) → E r ≡ true → K f r ≡ false) where
    pub ext-clear : Ext n (K) fs fs'
    ext-clear = record { functions = λ k _. C.functions k; versions = λ k _. C.versions k; grow = λ k r _ h q. go k r h q (cleared? k r) }
      where
        go : (k r : ℕ) → K k r ≡ true → is_full (cell_at fs k r) ≡ true → ((k ≡ f) × (E r ≡ true)) ⊎ (cell_at fs' k r ≡ cell_at fs k r) → is_full (cell_at fs' k r) ≡ true
        go k r h q (inl x) = clash (rw x.0 at h) (spare r x.1)
        go k r h q (inr x) = rw x q

    pub heap-clear : Heap P K fs' n ps
    unfolding Unshared Fits type_at
    heap-clear = record {
      sized = C.sized;
      bound = H.bound;
      pool = H.pool;
      known = λ k h. known-ext P ext-clear k h (H.known k h);
      typed = λ k r h. rw (same_version P ext-clear k h) (fits-ext P K n fs fs' ps k (type_at P fs k r) ext-clear h (cell_at fs' k r) (old k r h (cleared? k r)));
      own = λ k r k' r' w h h' e e' o. rw (same_version P ext-clear k' h') (H.own k r k' r' w h h' (still k r w e) (still k' r' w e') (rw (same_version P ext-clear k h) at o));
    }
      where
        old : (k r : ℕ) → k < n → ((k ≡ f) × (E r ≡ true)) ⊎ (cell_at fs' k r ≡ cell_at fs k r) → Fits P K fs ps k (type_at P fs k r) (cell_at fs' k r)
        old k r h (inl x) = rw (x.0, C.gone r x.1) tt
        old k r h (inr x) = rw x (H.typed k r h)

-- nothing emptied
pub cleared-none : (fs : List Frame) (f : ℕ) → Sized fs → Cleared fs fs f (is_in [])
unfolding is_in
cleared-none fs f sz = record { sized = sz; functions = λ k. refl; versions = λ k. refl; gone = λ r e. absurd (false≢true e); same = λ k r _. refl }

-- one more
pub cleared-one : (fs fs' : List Frame) (f u : ℕ) (us : List ℕ) → Sized fs → f < ACTIVATIONS → u < REGISTERS → Cleared (write_at fs f u Value.Empty) fs' f (is_in us) → Cleared fs fs' f (is_in (u ∷ us))
unfolding is_in Apart
cleared-one fs fs' f u us sz hf hu C = record {
  sized = C.sized;
  functions = λ k. C.functions k ∙ at-function fs sz f u Value.Empty hf (omega arith) k;
  versions = λ k. C.versions k ∙ at-version fs sz f u Value.Empty hf (omega arith) k;
  gone = λ r e. gone r (is_in us r) refl (or-either (eqb r u) (is_in us r) e);
  same = λ k r h. C.same k r (λ e q. h e (or_right (eqb r u) q)) ∙ at_other fs sz f u Value.Empty hf (omega arith) k r (λ e q. h e (or_left {a = eqb r u} (is_in us r) (rw q (eqb_same u))));
}
  where
    gone : (r : ℕ) (b : Bool) → is_in us r ≡ b → (eqb r u ≡ true) ⊎ (is_in us r ≡ true) → cell_at fs' f r ≡ Value.Empty
    gone r true e h = C.gone r e
    gone r false e (inl q) = C.same f r (λ _ z. clash z e) ∙ (rw (eqb-true r u q) (at_same fs sz f u Value.Empty hf (omega arith)))
    gone r false e (inr q) = clash q e

-- the registers rs of the frame k that go to owned parameters, as the step empties them
pub record Emptied (s : State) (k : ℕ) (ts rs : List ℕ) : Type 0 where
  pub frames : List Frame
  pub is : emptied s k ts rs ≡ got (with_stack s frames s.calls s.activations s.depth)
  pub cleared : Cleared s.frames frames k (is_in (freed (beside ts rs)))

emptied-more : (s : State) (k t r : ℕ) (ts rs : List ℕ) → Sized s.frames → k < s.calls → s.calls ≤ ACTIVATIONS → r < REGISTERS → Emptied s k ts rs → Emptied (wrote s k r Value.Empty) k ts rs → Emptied s k (t ∷ ts) (r ∷ rs)
unfolding emptied empty_if freed beside ◌>>=◌ with_stack wrote
emptied-more s k t r ts rs sz hk hn hr same more = go (is_owned t) refl
  where
    go : (b : Bool) → is_owned t ≡ b → Emptied s k (t ∷ ts) (r ∷ rs)
    go true e = record { frames = more.frames; is = rw (e, assign-is s sz k hk hn r Value.Empty hr) more.is; cleared = rw e (cleared-one s.frames more.frames k r (freed (beside ts rs)) sz (omega arith) hr more.cleared) }
    go false e = record { frames = same.frames; is = rw e same.is; cleared = rw e same.cleared }

pub emptied-ok : (s : State) (k : ℕ) (ts rs : List ℕ) → Sized s.frames → k < s.calls → s.calls ≤ ACTIVATIONS → ((i r : ℕ) → get_elem? rs i ≡ some r → r < REGISTERS) → Emptied s k ts rs
unfolding emptied freed beside with_stack wrote
emptied-ok s k [] rs sz hk hn h = record { frames = s.frames; is = refl; cleared = cleared-none s.frames k sz }
emptied-ok s k (t ∷ ts) [] sz hk hn h = record { frames = s.frames; is = refl; cleared = cleared-none s.frames k sz }
emptied-ok s k (t ∷ ts) (r ∷ rs) sz hk hn h =
    emptied-more s k t r ts rs sz hk hn (h 0 r refl) (emptied-ok s k ts rs sz hk hn (λ i q e. h (suc i) q e))
    (emptied-ok (wrote s k r Value.Empty) k ts rs (write-sized s.frames sz k r Value.Empty (omega arith) (let l = h 0 r refl in omega arith)) hk hn (λ i q e. h (suc i) q e))
