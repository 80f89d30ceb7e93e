-- The state of a begun run before its first step has the invariant.
use Rattle.std.specs.Prelude.{Ok}
use mathlib.Core.Path.{◌≡◌, refl, sym, ap, ◌∙◌, subst}
use mathlib.Core.Logic.{inl}
use mathlib.Core.List.{List, [], ◌∷◌}
use mathlib.Core.Option.{Option, bind, none, some}
use mathlib.Core.Bool.{Bool, true, false}
use Prim.Native.Nat.{ℕ, zero, suc, ◌+◌, ◌≤◌, ◌<◌}
use native.Mathlib.Nat.{le_of_suc-le-suc, not-suc-le-zero}
use native.Mathlib.Decide.{dec_lt}
use native.Mathlib.Omega.{arith}
use lib.Dec.{leb}
use lib.IntN.{ℤ}
use lib.ListN.{length, get_or, replicate, length-replicate, get_or-replicate, get_or-eq_default}
use lib.Seq.{length-take-le, get_or-take}
use borrow.Author.Tests.{lt-ltb}
use Rattle.layout.specs.Bounds.{REGISTERS, NAMES}
use Rattle.program.specs.Program.{Version, Program, find_version, parameter_types}
use Rattle.rules.specs.Types.{kind_of, within}
use Rattle.checker.proofs.Accepted.{Checked}
use Rattle.machine.specs.States.{ACTIVATIONS, VECTORS, PROMISES, place, new_frame, new_vector, over}
use Rattle.machine.specs.Calls.{frame_for}
use Rattle.machine.specs.Runs.{long_enough}
use Rattle.machine.specs.Begin.{Given, integer, vector, given_kind, matched, arguments, values_of, vectors_of, first_state, refused, question11, question19, run_level, question12, question13, entered_of}
use Rattle.machine.specs.Begin as begin
use Rattle.machine.specs.declared.Activation.{Activation}
use Rattle.machine.specs.declared.Cache.{Cache}
use Rattle.machine.specs.declared.Frame.{Frame}
use Rattle.machine.specs.declared.Opener.{Opener}
use Rattle.machine.specs.declared.Promise.{Promise}
use Rattle.machine.specs.declared.State.{State}
use Rattle.machine.specs.declared.Value.{Value}
use Rattle.soundness.proofs.Cells.{Whole, Sized, no_frame, frame_at, cell_at}
use Rattle.soundness.proofs.Invariant.{Sure, or_none, version_at, cell_type, type_at, is_full, Fits, Unshared, Heap, top, Stands, Opened, below, awaited, Base, Stack, stack_of, Inv}
use Rattle.soundness.proofs.NewFrames.{over-length, frame-function, frame-version, frame-whole, frame-cell, body-stands}
use Rattle.program.proofs.Held.{find-own}
use Rattle.checker.proofs.Limits.{Limited, limited}
use Rattle.runs.proofs.Lives.{refused-begun}

-- ---- question 12

-- each argument's kind is within that of its parameter
unfoldable pub Matched : List ℕ → List Given → Type 0
Matched [] [] = Unit {0}
Matched [] (x ∷ xs) = ⊥
Matched (t ∷ ts) [] = ⊥
Matched (t ∷ ts) (x ∷ xs) = (within (given_kind x) (kind_of t) ≡ true) × Matched ts xs

-- each line of a `do` that came to something did
bind-some : {A B : Type 0} (o : Option A) (f : A → Option B) (y : B) → bind o f ≡ some y → (x : A) × (o ≡ some x) × (f x ≡ some y)
unfolding bind
bind-some none f y e = let z : ◌≡◌ {A = ℕ} 0 1 = cc in absurd (omega arith)
bind-some (some x) f y e = (x, refl, e)

-- an argument that matched is within its parameter's kind
matched-within : (t : ℕ) (p q : Given × List ℤ) → matched t p ≡ some q → within (given_kind q.0) (kind_of t) ≡ true
unfolding matched
matched-within t p q e = go (within (given_kind p.0) (kind_of t)) refl e
  where
    go : (b : Bool) → within (given_kind p.0) (kind_of t) ≡ b → (elim b [ true ↦ some p | false ↦ none ]) ≡ some q → within (given_kind q.0) (kind_of t) ≡ true
    go true h g = let y : p ≡ q = cc in subst (λ (x : Given × List ℤ). within (given_kind x.0) (kind_of t) ≡ true) y h
    go false h g = let z : ◌≡◌ {A = ℕ} 0 1 = cc in absurd (omega arith)

arguments-matched : (ts : List ℕ) (ws : List ℤ) (xs : List Given) → arguments ts ws ≡ some xs → Matched ts xs
unfolding arguments Matched
arguments-matched [] [] [] e = tt
arguments-matched [] [] (x ∷ xs) e = let z : ◌≡◌ {A = ℕ} 0 1 = cc in absurd (omega arith)
arguments-matched [] (w ∷ ws) xs e = let z : ◌≡◌ {A = ℕ} 0 1 = cc in absurd (omega arith)
arguments-matched (t ∷ ts) ws xs e =
    let p = bind-some (begin.first ws) _ xs e in
    let q = bind-some (matched t p.0) _ xs p.2 in
    let r = bind-some (arguments ts q.0.1) _ xs q.2 in
    let y : q.0.0 ∷ r.0 ≡ xs = cc r.2 in
    subst (Matched (t ∷ ts)) y (matched-within t p.0 q.0 q.1, arguments-matched ts q.0.1 r.0 r.1)

-- there are as many as parameters
matched-length : (ts : List ℕ) (xs : List Given) → Matched ts xs → length xs ≡ length ts
unfolding Matched
matched-length [] [] m = refl
matched-length [] (x ∷ xs) m = absurd m
matched-length (t ∷ ts) [] m = absurd m
matched-length (t ∷ ts) (x ∷ xs) m = ap suc (matched-length ts xs m.1)

-- ---- the values of the arguments

-- there is one for each argument
values_length : (xs : List Given) (n : ℕ) → length (values_of xs n) ≡ length xs
unfolding values_of
values_length [] n = refl
values_length (integer z ∷ xs) n = ap suc (values_length xs n)
values_length (vector ys ∷ xs) n = ap suc (values_length xs (suc n))

-- nothing is kept before the first step
abbrev none_kept : ℕ → ℕ → Bool
none_kept k r = false

-- each is of its parameter's type
values-fit : (P : Program) (K : ℕ → ℕ → Bool) (fs : List Frame) (ps : List Promise) (ts : List ℕ) (xs : List Given) (n c : ℕ) → Matched ts xs → n + length xs ≤ VECTORS → Fits P K fs ps 0 (get_or ts c 0) (get_or (values_of xs n) c Value.Empty)
unfolding Matched values_of given_kind Fits
values-fit P K fs ps [] [] n c m h = tt
values-fit P K fs ps [] (x ∷ xs) n c m h = absurd m
values-fit P K fs ps (t ∷ ts) [] n c m h = absurd m
values-fit P K fs ps (t ∷ ts) (integer z ∷ xs) n zero m h = m.0
values-fit P K fs ps (t ∷ ts) (integer z ∷ xs) n (suc c) m h = values-fit P K fs ps ts xs n c m.1 (omega (arith, h))
values-fit P K fs ps (t ∷ ts) (vector ys ∷ xs) n zero m h = (m.0, omega (arith, h))
values-fit P K fs ps (t ∷ ts) (vector ys ∷ xs) n (suc c) m h = values-fit P K fs ps ts xs (suc n) c m.1 (omega (arith, h))

-- none is empty
values-full : (xs : List Given) (n c : ℕ) → c < length xs → is_full (get_or (values_of xs n) c Value.Empty) ≡ true
unfolding values_of is_full
values-full [] n c h = absurd (not-suc-le-zero h)
values-full (integer z ∷ xs) n zero h = refl
values-full (integer z ∷ xs) n (suc c) h = values-full xs n c (le_of_suc-le-suc h)
values-full (vector ys ∷ xs) n zero h = refl
values-full (vector ys ∷ xs) n (suc c) h = values-full xs (suc n) c (le_of_suc-le-suc h)

-- vectors have places from n on
values-from : (xs : List Given) (n c v : ℕ) → get_or (values_of xs n) c Value.Empty ≡ Value.Vector v → n ≤ v
unfolding values_of
values-from [] n c v e = let z : ◌≡◌ {A = ℕ} 0 1 = cc in absurd (omega arith)
values-from (integer i ∷ xs) n zero v e = let z : ◌≡◌ {A = ℕ} 0 1 = cc in absurd (omega arith)
values-from (integer i ∷ xs) n (suc c) v e = values-from xs n c v e
values-from (vector ys ∷ xs) n zero v e = let z : n ≡ v = cc in omega arith
values-from (vector ys ∷ xs) n (suc c) v e = omega (arith, values-from xs (suc n) c v e)

-- each its own
values-apart : (xs : List Given) (n c c' v : ℕ) → get_or (values_of xs n) c Value.Empty ≡ Value.Vector v → get_or (values_of xs n) c' Value.Empty ≡ Value.Vector v → c' ≡ c
unfolding values_of
values-apart [] n c c' v e e' = let z : ◌≡◌ {A = ℕ} 0 1 = cc in absurd (omega arith)
values-apart (integer i ∷ xs) n zero c' v e e' = let z : ◌≡◌ {A = ℕ} 0 1 = cc in absurd (omega arith)
values-apart (integer i ∷ xs) n (suc c) zero v e e' = let z : ◌≡◌ {A = ℕ} 0 1 = cc in absurd (omega arith)
values-apart (integer i ∷ xs) n (suc c) (suc c') v e e' = ap suc (values-apart xs n c c' v e e')
values-apart (vector ys ∷ xs) n zero zero v e e' = refl
values-apart (vector ys ∷ xs) n zero (suc c') v e e' = let z : n ≡ v = cc in absurd (omega (arith, values-from xs (suc n) c' v e'))
values-apart (vector ys ∷ xs) n (suc c) zero v e e' = let z : n ≡ v = cc in absurd (omega (arith, values-from xs (suc n) c v e))
values-apart (vector ys ∷ xs) n (suc c) (suc c') v e e' = ap suc (values-apart xs (suc n) c c' v e e')

-- ---- the first state

-- a blank frame has all its places
blank-whole : Whole (new_frame 0 0)
blank-whole = record { registers = length-replicate REGISTERS (place Value.Empty); names = length-replicate NAMES (place Value.Empty) }

-- one frame, then blank ones
unfoldable first_frames : Frame → List Frame
first_frames f = over (f ∷ []) (replicate ACTIVATIONS (new_frame 0 0))

-- the first is the one
first-at : (f : Frame) → frame_at (first_frames f) 0 ≡ f
unfolding frame_at first_frames over
first-at f = refl

-- all have their places
first-sized : (f : Frame) → Whole f → Sized (first_frames f)
unfolding frame_at first_frames over
first-sized f w = record { frames = ap suc (length-replicate 31 (new_frame 0 0)); whole = go }
  where
    go : (k : ℕ) → k < ACTIVATIONS → Whole (frame_at (first_frames f) k)
    go zero h = w
    go (suc k) h = rw (get_or-replicate 31 k (new_frame 0 0) no_frame (omega (arith, h))) blank-whole

module _ (P : Program) (sure : Sure P) (f w : ℕ) (W : Version) (found : find_version P f w ≡ some W) (xs : List Given) (m : Matched (parameter_types W) xs) where
  -- its frames
  abbrev frames : List Frame
  frames = first_frames (frame_for W (values_of xs 0))

  -- the version entered is checked
  sure-of : Checked P W
  sure-of = sure f w W found

  -- its counts are in bounds
  lim : Limited W
  lim = limited P W sure-of

  -- there is an argument for each parameter
  count : length xs ≡ W.parameters
  count = matched-length (parameter_types W) xs m ∙ length-take-le W.parameters W.types lim.declared

  -- the frame names the version
  own-version : find_version P (frame_at frames 0).function (frame_at frames 0).version ≡ some W
  own-version = rw (first-at (frame_for W (values_of xs 0)), frame-function W (values_of xs 0), frame-version W (values_of xs 0)) (find-own P f w W found)

  -- which is W
  version-is : version_at P frames 0 ≡ W
  unfolding version_at or_none
  version-is = rw own-version refl

  -- its cells hold the arguments
  cell-is : (c : ℕ) → cell_at frames 0 c ≡ get_or (values_of xs 0) c Value.Empty
  unfolding cell_at
  cell-is c = rw (first-at (frame_for W (values_of xs 0))) (frame-cell W (values_of xs 0) c (omega (arith, values_length xs 0, count, lim.parameters)))

  -- a parameter has its own type
  type-is : (c : ℕ) → c < W.parameters → type_at P frames 0 c ≡ get_or (parameter_types W) c 0
  unfolding type_at cell_type
  type-is c h = rw (version-is, lt-ltb c REGISTERS (omega (arith, h, lim.parameters))) (sym (get_or-take W.parameters W.types c 0 h))

  -- every cell holds what fits
  cell-fits : (ps : List Promise) (c : ℕ) → Fits P none_kept frames ps 0 (type_at P frames 0 c) (cell_at frames 0 c)
  unfolding Fits
  cell-fits ps c = go (dec_lt c W.parameters)
    where
      go : Dec (c < W.parameters) → Fits P none_kept frames ps 0 (type_at P frames 0 c) (cell_at frames 0 c)
      go (yes h) = rw (type-is c h, cell-is c) (values-fit P none_kept frames ps (parameter_types W) xs 0 c m (omega (arith, count, lim.parameters)))
      go (no h) = rw (cell-is c, get_or-eq_default (values_of xs 0) Value.Empty {n = c} (omega (arith, values_length xs 0, count))) tt

  first_heap : (ps : List Promise) → length ps ≡ PROMISES → Heap P none_kept frames 1 ps
  unfolding Unshared
  first_heap ps l = record {
    sized = first-sized (frame_for W (values_of xs 0)) (frame-whole W (values_of xs 0));
    bound = omega arith;
    pool = l;
    known = known;
    typed = typed;
    own = own;
  }
    where
      known : (k : ℕ) → k < 1 → find_version P (frame_at frames k).function (frame_at frames k).version ≡ some (version_at P frames k)
      known zero h = own-version ∙ ap some (sym version-is)
      known (suc k) h = absurd (omega arith)

      typed : (k c : ℕ) → k < 1 → Fits P none_kept frames ps k (type_at P frames k c) (cell_at frames k c)
      typed zero c h = cell-fits ps c
      typed (suc k) c h = absurd (omega arith)

      own : Unshared P frames 1
      own zero c zero c' v h h' e e' o = inl (refl, values-apart xs 0 c c' v (sym (cell-is c) ∙ e) (sym (cell-is c') ∙ e'))
      own zero c (suc k') c' v h h' e e' o = absurd (omega arith)
      own (suc k) c zero c' v h h' e e' o = absurd (omega arith)
      own (suc k) c (suc k') c' v h h' e e' o = absurd (omega arith)

  first-stands : Stands P none_kept frames top 0 0 0
  first-stands = body-stands P none_kept frames 0 (rw version-is sure-of) (λ r h. rw (cell-is r) (values-full xs 0 r (omega (arith, h, count, ap (λ (v : Version). v.parameters) version-is)))) (λ r. refl)

  -- the first state has the invariant
  pub first-inv : Inv P (first_state (frame_for W (values_of xs 0) ∷ []) (vectors_of xs))
  unfolding first_state first_frames Stack stack_of Opened below Base awaited
  first-inv = record {
    keep = none_kept;
    heap = first_heap _ (length-replicate {A = Promise} PROMISES (record { frame = 0; block = 0; cache = Cache.Unforced }));
    vectors = over-length (vectors_of xs) (replicate VECTORS (new_vector [])) ∙ length-replicate VECTORS (new_vector []);
    room = length-replicate {A = Activation} ACTIVATIONS (record { opener = Opener.Call; d = 0; frame = 0; block = 0; next = 0 });
    deep = omega arith;
    stack = λ _. (first-stands, (refl, refl), refl);
  }

-- ---- questions 11, 19, 12 and 13

-- a buffer that is long enough changes nothing
after-13 : (P : Program) (s : State) (buffer : List ℤ) → Inv P s → (question13 s buffer).entry ≡ Ok tt → Inv P (question13 s buffer).state
unfolding question13 refused
after-13 P s buffer inv h = go (long_enough buffer) refl h
  where
    go : (b : Bool) → long_enough buffer ≡ b → (question13 s buffer).entry ≡ Ok tt → Inv P (question13 s buffer).state
    go true e g = rw (e, question13) inv
    go false e g = absurd (refused-begun 13 0 (rw (e, question13) at g))

-- THE LAW: a begun run of a checked program
pub begun-inv : (P : Program) → Sure P → (level f v : ℕ) (words buffer : List ℤ) → (entered_of P level f v words buffer).entry ≡ Ok tt → Inv P (entered_of P level f v words buffer).state
unfolding entered_of question11 question19 question12 refused
begun-inv P sure level f v words buffer h = go (find_version P f v) refl h
  where
    given : (W : Version) → find_version P f v ≡ some W → (o : Option (List Given)) → arguments (parameter_types W) words ≡ o → (question12 W o buffer).entry ≡ Ok tt → Inv P (question12 W o buffer).state
    given W e none a g = absurd (refused-begun 12 0 g)
    given W e (some xs) a g = after-13 P _ buffer (first-inv P sure f v W e xs (arguments-matched (parameter_types W) words xs a)) g

    low : (W : Version) → find_version P f v ≡ some W → (b : Bool) → leb W.level (run_level level) ≡ b → (question19 level W words buffer).entry ≡ Ok tt → Inv P (question19 level W words buffer).state
    low W e true l g = rw (l, question19) (given W e (arguments (parameter_types W) words) refl (rw (l, question19) at g))
    low W e false l g = absurd (refused-begun 19 0 (rw (l, question19) at g))

    go : (o : Option Version) → find_version P f v ≡ o → (question11 level o words buffer).entry ≡ Ok tt → Inv P (question11 level o words buffer).state
    go none e g = absurd (refused-begun 11 0 g)
    go (some W) e g = low W e (leb W.level (run_level level)) refl g
