-- A call opens its frame: what CALL and DISPATCH share.
use mathlib.Core.Path.{◌≡◌, refl, sym, ap, ◌∙◌}
use mathlib.Core.Logic.{◌⊎◌, inl, inr}
use mathlib.Core.List.{List, [], ◌∷◌, map}
use mathlib.Core.Option.{some}
use mathlib.Core.Bool.{Bool, true, false, cond}
use Prim.Native.Nat.{ℕ, zero, suc, ◌+◌, ◌≤◌, ◌<◌}
use native.Mathlib.Numerals.{add-one}
use native.Mathlib.Omega.{arith}
use lib.ListN.{length, get_or, get_elem?, set, length-set, length-map}
use lib.Dec.{eqb, ltb}
use borrow.Author.Tests.{ltb-true, ne_eqb}
use Rattle.layout.specs.Bounds.{REGISTERS}
use Rattle.layout.proofs.Lists.{get_in, get-some, get_take}
use Rattle.machine.proofs.Tries.{put_in}
use Rattle.sets.specs.Sets.{has}
use Rattle.program.specs.Program.{Line, Version, Program, find_version, mark_of, parameter_types, beside}
use Rattle.program.specs.Questions.{register_exists}
use Rattle.rules.specs.Types.{kind_of, is_shared, is_owned, is_borrowed, within}
use Rattle.rules.specs.Fits.{type_of, fits_return}
use Rattle.rules.specs.Actions.{∅, emptied as freed}
use Rattle.rules.proofs.Follows.{has-empty, or_left, or_right, not-true as not-false}
use Rattle.checker.proofs.Accepted.{Checked}
use Rattle.machine.specs.Try.{Try, got, ◌>>=◌, ◌>>◌, end_unless}
use Rattle.machine.specs.States.{ACTIVATIONS, with_stack}
use Rattle.machine.specs.Calls.{opened, frame_for, enter}
use Rattle.machine.specs.declared.Activation.{Activation}
use Rattle.machine.specs.declared.End.{End}
use Rattle.machine.specs.declared.Frame.{Frame}
use Rattle.machine.specs.declared.Opener.{Opener}
use Rattle.machine.specs.declared.State.{State}
use Rattle.machine.specs.declared.Value.{Value}
use Rattle.soundness.proofs.Cells.{cell, cell_at, Apart, place?}
use Rattle.soundness.proofs.Invariant.{Sure, version_at, block_at, cell_type, type_at, is_full, Fits, Unshared, Heap, Ext, every, Pend, top, waits, is_pend, Gets, Stands, Opened, below, gives, awaited, Base, Stack, stack_of, Inv}
use Rattle.soundness.proofs.Progress.{Good, good, good-got}
use Rattle.soundness.proofs.Types.{clash, eqb_same, register-type}
use Rattle.soundness.proofs.Heap.{same_version, same-type, ext-less, fits-ext, ext-push, version-new, cell-new, heap-push, heap-keep, fits-keep, stack-keep, ext-both}
use Rattle.checker.proofs.Limits.{limited}
use Rattle.soundness.proofs.LiveCalls.{mark-is}
use Rattle.soundness.proofs.NewFrames.{frame-function, frame-version, frame-whole, frame-cell, body-stands}
use Rattle.soundness.proofs.KindsOf.{value_kind, kind_fits}
use Rattle.soundness.proofs.Clearing.{is_in, Cleared, still, full-still, ext-older, ext-clear, heap-clear, emptied-ok}
use Rattle.soundness.proofs.Standing.{At, moved, live, place_in, type-is, typed, meets, onward, under-le, spare, not-owned, keep_on, keep-more, under-on}
use Rattle.soundness.proofs.Vectors.{sole, under-body}
use Rattle.soundness.proofs.Promises.{stack_push}

-- ---- arguments

-- the value at the place c of a call's values is that of its register there, or there is none
pub argument-at : (f : ℕ → Value) (rs : List ℕ) (c : ℕ) → ((r : ℕ) × (get_elem? rs c ≡ some r) × (get_or (map f rs) c Value.Empty ≡ f r)) ⊎ (get_or (map f rs) c Value.Empty ≡ Value.Empty)
argument-at f [] c = inr refl
argument-at f (r ∷ rs) zero = inl (r, refl, refl)
argument-at f (r ∷ rs) (suc c) = argument-at f rs c

pub argument-in : (f : ℕ → Value) (rs : List ℕ) (c r : ℕ) → get_elem? rs c ≡ some r → get_or (map f rs) c Value.Empty ≡ f r
argument-in f [] c r e = let z : ◌≡◌ {A = ℕ} 0 1 = cc in absurd (omega arith)
argument-in f (q ∷ rs) zero r e = let y : q ≡ r = cc in ap f y
argument-in f (q ∷ rs) (suc c) r e = argument-in f rs c r e

-- the register of an owned parameter is emptied
freed-owned : (ts rs : List ℕ) (c t r : ℕ) → get_elem? ts c ≡ some t → get_elem? rs c ≡ some r → is_owned t ≡ true → is_in (freed (beside ts rs)) r ≡ true
unfolding beside freed is_in
freed-owned [] rs c t r e g o = let z : ◌≡◌ {A = ℕ} 0 1 = cc in absurd (omega arith)
freed-owned (u ∷ ts) [] c t r e g o = let z : ◌≡◌ {A = ℕ} 0 1 = cc in absurd (omega arith)
freed-owned (u ∷ ts) (q ∷ rs) zero t r e g o =
    let x : u ≡ t = cc in
    let y : q ≡ r = cc in
    rw (x, o) (or_left {a = eqb r q} _ (rw y (eqb_same r)))
freed-owned (u ∷ ts) (q ∷ rs) (suc c) t r e g o = go (is_owned u) (freed-owned ts rs c t r e g o)
  where
    go : (b : Bool) → is_in (freed (beside ts rs)) r ≡ true → is_in (cond b (q ∷ freed (beside ts rs)) (freed (beside ts rs))) r ≡ true
    go true h = or_right (eqb r q) h
    go false h = h

-- ---- frames and activations

-- no more frames are live than activations
stack-count : (P : Program) (K : ℕ → ℕ → Bool) (fs : List Frame) (pend : Pend) (n : ℕ) (l : List Activation) → Stack P K fs pend n l → n ≤ length l
unfolding Stack Base Opened below
stack-count P K fs top n [] s = absurd s
stack-count P K fs (waits d t m) n [] s = omega arith
stack-count P K fs pend n (a ∷ rest) s = go a.opener s.1 (stack-count P K fs (awaited P fs a) (below n a.frame a.opener) rest s.2)
  where
    go : (o : Opener) → Opened n a.frame a.block o → below n a.frame o ≤ length rest → n ≤ suc (length rest)
    go Opener.Call x h = omega arith
    go (Opener.Force p) x h = omega arith

pub stack-length : (l : List Activation) (h : ℕ) → length (stack_of l h) ≡ h
unfolding stack_of
stack-length l zero = refl
stack-length l (suc h) = ap suc (stack-length l h)

pub below_suc : (n f b : ℕ) (o : Opener) → Opened n f b o → n ≤ suc (below n f o)
unfolding Opened below
below_suc n f b Opener.Call x = omega arith
below_suc n f b (Opener.Force p) x = omega arith

-- a list of registers has one, or none
is_in-any : (us : List ℕ) → ((r : ℕ) × (is_in us r ≡ true)) ⊎ ((r : ℕ) → is_in us r ≡ false)
unfolding is_in
is_in-any [] = inr (λ r. refl)
is_in-any (u ∷ us) = inl (u, or_left {a = eqb u u} _ (eqb_same u))

-- where none is emptied nothing changes
ext-unchanged : (fs fs' : List Frame) (f : ℕ) (E : ℕ → Bool) → Cleared fs fs' f E → ((r : ℕ) → E r ≡ false) → (n : ℕ) → Ext n every fs fs'
ext-unchanged fs fs' f E Z h n = record { functions = λ k _. Z.functions k; versions = λ k _. Z.versions k; grow = λ k r _ _ q. rw (Z.same k r (λ _ e. clash e (h r))) q }

-- ---- what the rules give of a call of C with the registers rs, for d

pub record Enters (P : Program) (sure : Sure P) (s : State) (a : Activation) (rest : List Activation) (l : Line) (W : At P s a rest l) (C : Version) (rs : List ℕ) (d : ℕ) : Type 0 where
  pub known : find_version P C.function C.version ≡ some C
  pub exist : (j r : ℕ) → get_elem? rs j ≡ some r → register_exists (version_at P s.frames a.frame) r ≡ true
  pub full : (j r : ℕ) → get_elem? rs j ≡ some r → is_full (cell_at s.frames a.frame r) ≡ true
  pub count : length rs ≡ C.parameters
  pub matches : (j r : ℕ) → get_elem? rs j ≡ some r → within (value_kind P s.frames s.promises (cell_at s.frames a.frame r)) (kind_of (type_of C j)) ≡ true
  -- an owned parameter takes an owned register that stands only once in the call
  pub owned : (j r : ℕ) → get_elem? rs j ≡ some r → is_owned (type_of C j) ≡ true → (is_owned (type_of (version_at P s.frames a.frame) r) ≡ true) × ((j' : ℕ) → get_elem? rs j' ≡ some r → j' ≡ j)
  pub shared : (j r : ℕ) → get_elem? rs j ≡ some r → is_owned (type_of C j) ≡ false → is_borrowed (type_of C j) ≡ false → is_shared (type_of (version_at P s.frames a.frame) r) ≡ true
  pub empties : (r : ℕ) → is_in (freed (beside (parameter_types C) rs)) r ≡ true → has (meets P sure s a rest l W).now.U r ≡ true
  pub body : (r : ℕ) → is_in (freed (beside (parameter_types C) rs)) r ≡ true → a.block ≡ 0
  pub d-exists : register_exists (version_at P s.frames a.frame) d ≡ true
  pub d-fits : fits_return (version_at P s.frames a.frame) d C.return ≡ true
  pub marked : mark_of C ≤ (block_at (version_at P s.frames a.frame) a.block).mark
  pub only : (r : ℕ) → has (meets P sure s a rest l W).now.W r ≡ true → r ≡ d

module _ (P : Program) (sure : Sure P) (s : State) (a : Activation) (rest : List Activation) (l : Line) (W : At P s a rest l) (C : Version) (rs : List ℕ) (d : ℕ) (K : Enters P sure s a rest l W C rs d) where
  abbrev values : List Value
  values = map (cell_at s.frames a.frame) rs

  callee : Checked P C
  callee = sure _ _ C K.known

  few : length (map (cell_at s.frames a.frame) rs) ≤ REGISTERS
  few = omega (arith, length-map rs (cell_at s.frames a.frame), K.count, (limited P C callee).parameters)

  -- the type of a parameter
  parameter : (j r : ℕ) → get_elem? rs j ≡ some r → (j < REGISTERS) × (cell_type C j ≡ type_of C j) × (get_elem? (parameter_types C) j ≡ some (type_of C j))
  parameter j r e =
      let h = (get_in rs j 0 r e).0 in
      let g : j < C.parameters = omega (arith, K.count) in
      let b : j < REGISTERS = omega (arith, (limited P C callee).parameters) in
      (b, register-type C j b, get_take C.types C.parameters j g ∙ get-some C.types j 0 (omega (arith, (limited P C callee).declared)))

  hf : a.frame < s.calls
  hf = live P sure s a rest l W

  calls-few : s.depth < ACTIVATIONS → s.calls < ACTIVATIONS
  calls-few h = omega (arith, below_suc s.calls a.frame a.block a.opener W.opened, stack-count P W.keep s.frames _ _ rest W.under, ap length W.stacked, stack-length s.activations s.depth)

  -- fs₁ has the registers of owned parameters emptied
  module _ (fs₁ : List Frame) (Z : Cleared s.frames fs₁ a.frame (is_in (freed (beside (parameter_types C) rs)))) (hn : s.calls < ACTIVATIONS) where
    spared : (r : ℕ) → is_in (freed (beside (parameter_types C) rs)) r ≡ true → W.keep a.frame r ≡ false
    spared r h = spare P sure s a rest l W r (K.body r h) (K.empties r h)

    H₁ : Heap P W.keep fs₁ s.calls s.promises
    H₁ = heap-clear s.frames fs₁ a.frame _ Z P s.calls s.promises W.heap spared

    E₁ : Ext s.calls W.keep s.frames fs₁
    E₁ = ext-clear s.frames fs₁ a.frame _ Z P s.calls s.promises W.heap spared

    g : Frame
    g = frame_for C (map (cell_at s.frames a.frame) rs)

    is-new : find_version P (frame_for C (map (cell_at s.frames a.frame) rs)).function (frame_for C (map (cell_at s.frames a.frame) rs)).version ≡ some C
    is-new = rw (frame-function, frame-version) K.known

    -- a cell of the new frame
    new-cell : (c : ℕ) → ((r : ℕ) × (get_elem? rs c ≡ some r) × (cell (frame_for C (map (cell_at s.frames a.frame) rs)) c ≡ cell_at s.frames a.frame r)) ⊎ (cell (frame_for C (map (cell_at s.frames a.frame) rs)) c ≡ Value.Empty)
    new-cell c = rw (frame-cell C (map (cell_at s.frames a.frame) rs) c few) (argument-at (cell_at s.frames a.frame) rs c)

    new-vector : (c w : ℕ) → cell (frame_for C (map (cell_at s.frames a.frame) rs)) c ≡ Value.Vector w → (r : ℕ) × (get_elem? rs c ≡ some r) × (cell_at s.frames a.frame r ≡ Value.Vector w)
    new-vector c w e = go (new-cell c)
      where
        go : ((r : ℕ) × (get_elem? rs c ≡ some r) × (cell (frame_for C (map (cell_at s.frames a.frame) rs)) c ≡ cell_at s.frames a.frame r)) ⊎ (cell (frame_for C (map (cell_at s.frames a.frame) rs)) c ≡ Value.Empty) → (r : ℕ) × (get_elem? rs c ≡ some r) × (cell_at s.frames a.frame r ≡ Value.Vector w)
        go (inl x) = (x.0, x.1, sym x.2 ∙ e)
        go (inr x) = let z : ◌≡◌ {A = ℕ} 0 1 = cc in absurd (omega arith)

    fit : (c : ℕ) → Fits P W.keep fs₁ s.promises a.frame (cell_type C c) (cell (frame_for C (map (cell_at s.frames a.frame) rs)) c)
    unfolding Fits
    fit c = go (new-cell c)
      where
        go : ((r : ℕ) × (get_elem? rs c ≡ some r) × (cell (frame_for C (map (cell_at s.frames a.frame) rs)) c ≡ cell_at s.frames a.frame r)) ⊎ (cell (frame_for C (map (cell_at s.frames a.frame) rs)) c ≡ Value.Empty) → Fits P W.keep fs₁ s.promises a.frame (cell_type C c) (cell (frame_for C (map (cell_at s.frames a.frame) rs)) c)
        go (inl x) =
            let t = typed P sure s a rest l W x.0 (place_in P sure s a rest l W x.0 (K.exist c x.0 x.1)) in
            rw (x.2, (parameter c x.0 x.1).1) (fits-ext P W.keep s.calls s.frames fs₁ s.promises a.frame (type_of C c) E₁ hf (cell_at s.frames a.frame x.0) (kind_fits P W.keep s.frames s.promises a.frame (type_of (version_at P s.frames a.frame) x.0) (type_of C c) (cell_at s.frames a.frame x.0) t (K.matches c x.0 x.1)))
        go (inr x) = rw x tt

    -- the vector of an owned parameter is in no cell any more
    taken : (c r w k c' : ℕ) → get_elem? rs c ≡ some r → cell_at s.frames a.frame r ≡ Value.Vector w → k < s.calls → cell_at fs₁ k c' ≡ Value.Vector w → is_owned (type_of C c) ≡ true → ⊥
    taken c r w k c' e q hk h o = go (place? a.frame r k c')
      where
        gone-in : is_in (freed (beside (parameter_types C) rs)) r ≡ true
        gone-in = freed-owned (parameter_types C) rs c (type_of C c) r (parameter c r e).2 e o

        go : ((k ≡ a.frame) × (c' ≡ r)) ⊎ Apart a.frame r k c' → ⊥
        go (inl x) = let y : cell_at fs₁ a.frame r ≡ Value.Vector w = rw (x.0, x.1) at h in let z : ◌≡◌ {A = ℕ} 0 1 = cc (Z.gone r gone-in) in omega arith
        go (inr x) = sole P sure s a rest l W r w k c' (K.body r gone-in) (rw (type-is P sure s a rest l W r (place_in P sure s a rest l W r (K.exist c r e))) (K.owned c r e o).0) q hk (still s.frames fs₁ a.frame _ Z k c' w h) x

    lone : (w c k c' : ℕ) → cell (frame_for C (map (cell_at s.frames a.frame) rs)) c ≡ Value.Vector w → k < s.calls → cell_at fs₁ k c' ≡ Value.Vector w → (is_owned (cell_type C c) ≡ false) × (is_owned (type_at P fs₁ k c') ≡ true → is_borrowed (cell_type C c) ≡ true)
    lone w c k c' e hk h =
        let x = new-vector c w e in
        let no-owner : is_owned (type_of C c) ≡ false = not-false _ (taken c x.0 w k c' x.1 x.2 hk h) in
        rw (parameter c x.0 x.1).1 (no-owner, λ o. is-borrowed x.0 x.1 x.2 no-owner o (is_borrowed (type_of C c)) refl)
      where
        is-borrowed : (r : ℕ) → get_elem? rs c ≡ some r → cell_at s.frames a.frame r ≡ Value.Vector w → is_owned (type_of C c) ≡ false → is_owned (type_at P fs₁ k c') ≡ true → (b : Bool) → is_borrowed (type_of C c) ≡ b → is_borrowed (type_of C c) ≡ true
        is-borrowed r g q n o true z = z
        is-borrowed r g q n o false z =
            clash (rw (same-type P E₁ k c' hk) at o)
            (not-owned P sure s a rest l W a.frame r w k c' hf (rw (type-is P sure s a rest l W r (place_in P sure s a rest l W r (K.exist c r g))) (K.shared c r g n z)) q hk (still s.frames fs₁ a.frame _ Z k c' w h))

    once : (w c c' : ℕ) → cell (frame_for C (map (cell_at s.frames a.frame) rs)) c ≡ Value.Vector w → cell (frame_for C (map (cell_at s.frames a.frame) rs)) c' ≡ Value.Vector w → is_owned (cell_type C c) ≡ true → c' ≡ c
    unfolding Unshared
    once w c c' e e' o = go (W.heap.own a.frame x.0 a.frame x'.0 w hf hf x.2 x'.2 (rw (type-is P sure s a rest l W x.0 (place_in P sure s a rest l W x.0 (K.exist c x.0 x.1))) k.0))
      where
        x : (r : ℕ) × (get_elem? rs c ≡ some r) × (cell_at s.frames a.frame r ≡ Value.Vector w)
        x = new-vector c w e

        x' : (r : ℕ) × (get_elem? rs c' ≡ some r) × (cell_at s.frames a.frame r ≡ Value.Vector w)
        x' = new-vector c' w e'

        k : (is_owned (type_of (version_at P s.frames a.frame) x.0) ≡ true) × ((j' : ℕ) → get_elem? rs j' ≡ some x.0 → j' ≡ c)
        k = K.owned c x.0 x.1 (rw (parameter c x.0 x.1).1 at o)

        go : ((a.frame ≡ a.frame) × (x'.0 ≡ x.0)) ⊎ ((is_borrowed (type_at P s.frames a.frame x'.0) ≡ true) × (a.frame < a.frame)) → c' ≡ c
        go (inl z) = k.1 c' (x'.1 ∙ ap some z.1)
        go (inr z) = absurd (omega (arith, z.1))

    -- the caller keeps what it has captured, the new frame nothing
    abbrev K₁ : ℕ → ℕ → Bool
    K₁ = keep_on a.block W.keep a.frame (meets P sure s a rest l W).next

    abbrev K₂ : ℕ → ℕ → Bool
    K₂ = keep_on 0 (keep_on a.block W.keep a.frame (meets P sure s a rest l W).next) s.calls (record { R = ∅; W = ∅; U = ∅; C = ∅ })

    keeps-old : (k r : ℕ) → k < s.calls → K₂ k r ≡ K₁ k r
    unfolding keep_on
    keeps-old k r h = rw (ne_eqb k s.calls (λ z. absurd (omega arith))) refl

    keeps-more : (k r : ℕ) → k < s.calls → W.keep k r ≡ true → K₂ k r ≡ true
    keeps-more k r h q = keeps-old k r h ∙ keep-more P sure s a rest l W (meets P sure s a rest l W).next (meets P sure s a rest l W).joins k r q

    H₂ : Heap P (keep_on 0 (keep_on a.block W.keep a.frame (meets P sure s a rest l W).next) s.calls (record { R = ∅; W = ∅; U = ∅; C = ∅ })) (set fs₁ s.calls (frame_for C (map (cell_at s.frames a.frame) rs))) (suc s.calls) s.promises
    H₂ = heap-push P fs₁ s.calls s.promises (heap-keep P W.keep K₂ fs₁ s.calls keeps-more s.promises H₁) C _ hn (frame-whole C _) is-new a.frame hf
        (λ c. fits-keep P W.keep K₂ fs₁ s.calls keeps-more s.promises a.frame (cell_type C c) hf (cell (frame_for C (map (cell_at s.frames a.frame) rs)) c) (fit c)) lone once

    E₂ : (L : ℕ → ℕ → Bool) → Ext s.calls L fs₁ (set fs₁ s.calls (frame_for C (map (cell_at s.frames a.frame) rs)))
    E₂ L = ext-push P fs₁ s.calls s.promises H₁ C _ hn (frame-whole C _) is-new L

    same : version_at P (set fs₁ s.calls (frame_for C (map (cell_at s.frames a.frame) rs))) a.frame ≡ version_at P s.frames a.frame
    same = same_version P (E₂ every) a.frame hf ∙ same_version P E₁ a.frame hf

    is-C : version_at P (set fs₁ s.calls (frame_for C (map (cell_at s.frames a.frame) rs))) s.calls ≡ C
    is-C = version-new P fs₁ s.calls s.promises H₁ C _ hn (frame-whole C _) is-new

    -- the body of the called version at its start
    body-at : Stands P (keep_on 0 (keep_on a.block W.keep a.frame (meets P sure s a rest l W).next) s.calls (record { R = ∅; W = ∅; U = ∅; C = ∅ })) (set fs₁ s.calls (frame_for C (map (cell_at s.frames a.frame) rs))) top s.calls 0 0
    unfolding keep_on
    body-at = body-stands P K₂ _ s.calls (rw is-C callee) (λ r h. filled r (rw is-C at h)) (λ r. rw (eqb_same s.calls) (has-empty 16 r))
      where
        filled : (r : ℕ) → r < C.parameters → is_full (cell_at (set fs₁ s.calls (frame_for C (map (cell_at s.frames a.frame) rs))) s.calls r) ≡ true
        filled r h = let e = get-some rs r 0 (omega (arith, K.count)) in
            rw (cell-new P fs₁ s.calls s.promises H₁ C _ hn (frame-whole C _) is-new r, frame-cell C (map (cell_at s.frames a.frame) rs) r few, argument-in (cell_at s.frames a.frame) rs r (get_or rs r 0) e) (K.full r (get_or rs r 0) e)

    -- the caller waits for its result
    waiting : Stack P (keep_on 0 (keep_on a.block W.keep a.frame (meets P sure s a rest l W).next) s.calls (record { R = ∅; W = ∅; U = ∅; C = ∅ })) (set fs₁ s.calls (frame_for C (map (cell_at s.frames a.frame) rs))) (waits d C.return (block_at C 0).mark) s.calls (moved a ∷ rest)
    unfolding Stack awaited Gets is_pend
    waiting = stack-keep P K₁ K₂ _ s.calls _ keeps-old (moved a ∷ rest) (
      onward P sure s a rest l W _ (waits d C.return (block_at C 0).mark) same (K.d-exists, K.d-fits, rw (mark-is C (limited P C callee).body) K.marked)
          (λ r h. inl (rw (K.only r h) (eqb_same d)))
          (λ r h q. (E₂ every).grow a.frame r hf refl (full-still s.frames fs₁ a.frame _ Z r (not-false _ (λ z. clash (K.empties r z) h)) q)),
      W.opened,
      under-on P sure s a rest l W (meets P sure s a rest l W).next (meets P sure s a rest l W).joins _ same (ext-both under-cleared (ext-less _ (under-le P sure s a rest l W) (E₂ every))),
    )
      where
        under-cleared : Ext (below s.calls a.frame a.opener) every s.frames fs₁
        under-cleared = older (is_in-any (freed (beside (parameter_types C) rs)))
          where
            older : ((r : ℕ) × (is_in (freed (beside (parameter_types C) rs)) r ≡ true)) ⊎ ((r : ℕ) → is_in (freed (beside (parameter_types C) rs)) r ≡ false) → Ext (below s.calls a.frame a.opener) every s.frames fs₁
            older (inl x) = under-body P sure s a rest l W (K.body x.0 x.1) (ext-older s.frames fs₁ a.frame _ Z)
            older (inr x) = ext-unchanged s.frames fs₁ a.frame _ Z x _

    -- the state after it
    entered : s.depth < ACTIVATIONS → Inv P (with_stack s (set fs₁ s.calls (frame_for C (map (cell_at s.frames a.frame) rs))) (s.calls + 1) (set s.activations s.depth (record { opener = Opener.Call; d = d; frame = s.calls; block = 0; next = 0 })) (s.depth + 1))
    unfolding with_stack Stack awaited gives Opened below
    entered h = record {
      keep = K₂;
      heap = rw add-one H₂;
      vectors = W.vectors;
      room = length-set s.activations s.depth _ ∙ W.room;
      deep = omega (arith, h);
      stack = λ _. rw (stack_push s.activations s.depth _ (omega (arith, h, W.room)), W.stacked) (body-at, (omega arith, refl), rw is-C waiting);
    }

-- ---- the step

-- DEEP, or one more activation
pub opened-then : {B : Type 0} (Q : B → Type 0) (s : State) (a : Activation) (f : State → Try B) → (s.depth < ACTIVATIONS → Good Q (f (with_stack s s.frames s.calls (set s.activations s.depth a) (s.depth + 1)))) → Good Q (opened s a >>= f)
unfolding opened ◌>>=◌ ◌>>◌ end_unless Good
opened-then {B} Q s a f k = go (ltb s.depth ACTIVATIONS) refl
  where
    go : (b : Bool) → ltb s.depth ACTIVATIONS ≡ b → Good Q ((end_unless End.Deep b >> got (with_stack s s.frames s.calls (set s.activations s.depth a) (s.depth + 1))) >>= f)
    go true e = k (ltb-true s.depth ACTIVATIONS e)
    go false e = tt

-- a call that keeps to the rules opens its frame
pub enters : (P : Program) (sure : Sure P) (s : State) (a : Activation) (rest : List Activation) (l : Line) (W : At P s a rest l) (C : Version) (rs : List ℕ) (d : ℕ) → Enters P sure s a rest l W C rs d
    → Good (Inv P) (enter s a.frame d C rs (map (cell_at s.frames a.frame) rs))
unfolding enter with_stack
enters P sure s a rest l W C rs d K = opened-then (Inv P) s _ _ (λ h.
    let act : Activation = record { opener = Opener.Call; d = d; frame = s.calls; block = 0; next = 0 } in
    let t = with_stack s s.frames s.calls (set s.activations s.depth act) (s.depth + 1) in
    let M = emptied-ok t a.frame (parameter_types C) rs W.heap.sized (live P sure s a rest l W) W.heap.bound (λ j r e. place_in P sure s a rest l W r (K.exist j r e)) in
    let hn = calls-few P sure s a rest l W C rs d K h in
    good-got (Inv P) _ _ _ M.is (good-got (Inv P) _ _ _ (put_in M.frames s.calls _ (omega (arith, M.cleared.sized.frames)))
    (good (Inv P) _ _ refl (entered P sure s a rest l W C rs d K M.frames M.cleared hn h))))
