-- A step under a program, and under one in which it stands renumbered.
use mathlib.Core.Path.{◌≡◌, refl, sym, ap, ◌∙◌, subst, fun_ext}
use mathlib.Core.List.{List, [], ◌∷◌, map}
use mathlib.Core.Option.{Option, none, some}
use mathlib.Core.Bool.{Bool, true, false, cond, not, ◌||◌}
use Prim.Native.Nat.{ℕ, zero, suc, ◌+◌, ◌-◌, ◌≤◌, ◌<◌}
use native.Mathlib.Omega.{arith}
use lib.ListN.{length, take, set, get_elem?}
use lib.Dec.{ltb, leb, eqb}
use borrow.Author.Tests.{eqb-true}
use Rattle.layout.specs.Bounds.{INSTRUCTIONS, VERSIONS}
use Rattle.layout.specs.Tests.{◌and◌, found}
use Rattle.layout.proofs.Bools.{and_both}
use Rattle.program.specs.Program.{Argument, Instr, LIT, MOVE, USE, DUP, VEC, LEN, GET, SET, ARITH, SELECT, CAST, NAMED, STORE, PROM, FORCE, PEEK, POKE, CALL, DISPATCH, SKIP, Line, Block, Version, Program, find_version, parameter_types, first_mark}
use Rattle.program.proofs.Held.{find-numbers}
use Rattle.rules.specs.Types.{kind_of, is_owned, within}
use Rattle.machine.specs.Try.{Try, got, stuck, stop, ◌>>=◌, ◌>>◌, stuck_unless, end_unless, or_stuck, at, put, each}
use Rattle.machine.specs.Values.{RANGE, index, is_zero, arith_to}
use Rattle.machine.specs.States.{ACTIVATIONS, place, items_of, new_vector, live_frames, live_activations, register, an_integer, value, integer, vector, promise, plain, name, named, is_vector, is_promise, refers, held, pending, kind_in, vector_counts, promise_counts, free_vector, free_promise, with_stack, with_vector, with_promise, with_frame, with_register, with_name, with_end, assign, store}
use Rattle.machine.specs.Calls.{opened, passed, matching, empty_if, emptied, frame_for, enter, dispatches, lowest, picked, force, closed, done, back, finish, skipped}
use Rattle.machine.specs.Steps.{alone, registers_of, execute, execute_to, Here, here, Position, instruction, block_end, outside, position, position_of, proceed, proceed_to, advance, advance_to}
use Rattle.machine.specs.declared.Activation.{Activation}
use Rattle.machine.specs.declared.Cache.{Cache}
use Rattle.machine.specs.declared.End.{End}
use Rattle.machine.specs.declared.Frame.{Frame}
use Rattle.machine.specs.declared.Opener.{Opener}
use Rattle.machine.specs.declared.Promise.{Promise}
use Rattle.machine.specs.declared.State.{State}
use Rattle.machine.specs.declared.Value.{Value}
use Rattle.runs.proofs.Keeps.{test-true}
use Rattle.joins.specs.Shifted.{shift_instr, shift_line, shift_block, shift_version, shift_frame}
use Rattle.joins.specs.Alongside.{shift_found, Carries, Names, NamesIn, Closed, Beside, with_frames, Sim}
use Rattle.joins.proofs.Both.{Both, both-then, both-same, both-next, both-line, both-eq, at_map, at-map-in}
use Rattle.joins.proofs.Frames.{beside_at, beside-length, beside-set, beside-more, beside-less, beside-any}

-- ---- versions

pub mark-shifted : (k o : ℕ) (bs : List Block) → first_mark (map (shift_block k o) bs) ≡ first_mark bs
unfolding first_mark
mark-shifted k o [] = refl
mark-shifted k o (b ∷ bs) = refl

-- DISPATCH judges a version by what stays
dispatches-shifted : (k o level mark ret : ℕ) (pairs : List Argument) (ks : List ℕ) (W : Version) → dispatches level mark ret pairs ks (shift_version k o W) ≡ dispatches level mark ret pairs ks W
unfolding dispatches
dispatches-shifted k o level mark ret pairs ks W = rw (mark-shifted k o W.blocks) refl

module _ (k o n : ℕ) (P J : Program) (C : Carries k o n P J) (D : Closed n P) where
  -- a version that both find, of a function below n, which names such functions alone
  abbrev Same : Version → Version → Type 0
  Same U W = (U.function < n) × (W ≡ shift_version k o U) × NamesIn n U

  find-sim : (f w : ℕ) → f < n → Both Same (or_stuck (find_version P f w)) (or_stuck (find_version J (k + f) w))
  unfolding Both or_stuck shift_found
  find-sim f w h = rw (C.look f w h) (go (find_version P f w) refl)
    where
      go : (x : Option Version) → find_version P f w ≡ x → Both Same (or_stuck x) (or_stuck (shift_found k o x))
      go none e = tt
      go (some U) e = (omega (arith, h, (find-numbers P f w U e).0), refl, D f w U e)

  lowest-sim : (f : ℕ) (p : Version → Bool) → f < n → ((U : Version) → p (shift_version k o U) ≡ p U) → (m w : ℕ) → Both Same (lowest P f p m w) (lowest J (k + f) p m w)
  unfolding Both lowest found or_stuck shift_found
  lowest-sim f p h e zero w = refl
  lowest-sim f p h e (suc m) w = subst (λ (y : Option Version). Both Same (lowest P f p (suc m) w) (elim (found y p) [ true ↦ or_stuck y | false ↦ lowest J (k + f) p m (suc w) ])) (sym (C.look f w h)) (go (lowest-sim f p h e m (suc w)) (find_version P f w) refl)
    where
      more : Type 0
      more = Both Same (lowest P f p m (suc w)) (lowest J (k + f) p m (suc w))

      pick : more → (b : Bool) (U : Version) → find_version P f w ≡ some U → Both Same (elim b [ true ↦ got U | false ↦ lowest P f p m (suc w) ]) (elim b [ true ↦ got (shift_version k o U) | false ↦ lowest J (k + f) p m (suc w) ])
      pick ih true U q = (omega (arith, h, (find-numbers P f w U q).0), refl, D f w U q)
      pick ih false U q = ih

      go : more → (x : Option Version) → find_version P f w ≡ x → Both Same (elim (found x p) [ true ↦ or_stuck x | false ↦ lowest P f p m (suc w) ]) (elim (found (shift_found k o x) p) [ true ↦ or_stuck (shift_found k o x) | false ↦ lowest J (k + f) p m (suc w) ])
      go ih none q = ih
      go ih (some U) q = rw (e U) (pick ih (p U) U q)

  -- ---- a state with its frames renumbered
  module _ (s : State) (fs : List Frame) (B : Beside k n s.calls s.frames fs) where
    abbrev t : State
    t = with_frames s fs

    live-sim : (i : ℕ) → Both (λ (x y : Frame). (x.function < n) × (y ≡ shift_frame k x)) (at (live_frames s) i) (at (live_frames t) i)
    unfolding live_frames with_frames
    live-sim i = beside_at k n s.calls s.frames fs B i

    kind-same : (v : Value) → kind_in J t v ≡ kind_in P s v
    unfolding kind_in with_frames Both
    kind-same Value.Empty = refl
    kind-same (Value.Integer z) = refl
    kind-same (Value.Vector v) = refl
    kind-same (Value.Promise p) =
        both-eq _ _ (both-same (λ (a b : ℕ). b ≡ a) (at s.promises p) _ _ (λ q.
        both-then (λ (a b : ℕ). b ≡ a) (λ (x y : Frame). (x.function < n) × (y ≡ shift_frame k x)) _ _ _ _ (live-sim q.frame) (λ f g r. rw r.1
        (both-then (λ (a b : ℕ). b ≡ a) Same _ _ _ _ (find-sim f.function f.version r.0) (λ U W q'. rw q'.1
        (both-then (λ (a b : ℕ). b ≡ a) (λ (x y : Block). y ≡ shift_block k o x) _ _ _ _ (at_map (shift_block k o) U.blocks q.block) (λ X Y z. rw z refl)))))))

    counts_same : (is : Value → Bool) → held is t ≡ held is s
    unfolding held live_frames with_frames refers
    counts_same is = beside-any k n (refers is) (λ x. refl) s.calls s.frames fs B

    vectors-same : vector_counts t ≡ vector_counts s
    unfolding vector_counts
    vectors-same = fun_ext (λ v. counts_same (is_vector v))

    promises-same : promise_counts t ≡ promise_counts s
    unfolding promise_counts pending live_activations with_frames
    promises-same = fun_ext (λ p. ap (λ (b : Bool). b || pending s p) (counts_same (is_promise p)))

    vector-same : free_vector t ≡ free_vector s
    unfolding free_vector
    vector-same = rw vectors-same refl

    promise-same : free_promise t ≡ free_promise s
    unfolding free_promise
    promise-same = rw promises-same refl

    -- a state that is s but for its frames, which stay beside
    frame-sim : (j : ℕ) (g : Frame) → g.function < n → Sim k n (with_frame s j g) (with_frame t j (shift_frame k g))
    unfolding with_frame with_stack with_frames
    frame-sim j g h = record { frames = set fs j (shift_frame k g); others = refl; calls = beside-set k n s.calls s.frames fs g h B j }

    assign-in : (j d : ℕ) (v : Value) → Both (Sim k n) (assign s j d v) (assign t j d v)
    unfolding assign with_register Both
    assign-in j d v =
        both-then (Sim k n) (λ (x y : Frame). (x.function < n) × (y ≡ shift_frame k x)) _ _ _ _ (live-sim j) (λ f g r. rw r.1
        (both-then (Sim k n) (λ (x y : Frame). (x.function < n) × (y ≡ shift_frame k x)) _ _ _ _
        (both-same (λ (x y : Frame). (x.function < n) × (y ≡ shift_frame k x)) (put f.registers d (place v)) _ _ (λ rs. (r.0, refl)))
        (λ x y q. rw q.1 (frame-sim j x q.0))))

    store_in : (j x : ℕ) (v : Value) → Both (Sim k n) (store s j x v) (store t j x v)
    unfolding store with_name Both
    store_in j x v =
        both-then (Sim k n) (λ (x y : Frame). (x.function < n) × (y ≡ shift_frame k x)) _ _ _ _ (live-sim j) (λ f g r. rw r.1
        (both-then (Sim k n) (λ (x y : Frame). (x.function < n) × (y ≡ shift_frame k x)) _ _ _ _
        (both-same (λ (x y : Frame). (x.function < n) × (y ≡ shift_frame k x)) (put f.names x (place v)) _ _ (λ rs. (r.0, refl)))
        (λ x y q. rw q.1 (frame-sim j x q.0))))

    opened_in : (a : Activation) → Both (Sim k n) (opened s a) (opened t a)
    unfolding opened Both with_stack with_frames
    opened_in a = both-next (Sim k n) (end_unless End.Deep (ltb s.depth ACTIVATIONS)) _ _ (λ u e. record { frames = fs; others = refl; calls = B })

  -- the same for any two states of which one is the other renumbered
  sim-in : (Q : State → Type 0) (s t : State) → Sim k n s t → ((fs : List Frame) → Beside k n s.calls s.frames fs → Q (with_frames s fs)) → Q t
  sim-in Q s t S f = subst Q (sym S.others) (f S.frames S.calls)

  assign-sim : (s t : State) → Sim k n s t → (j d : ℕ) (v : Value) → Both (Sim k n) (assign s j d v) (assign t j d v)
  assign-sim s t S j d v = sim-in (λ t. Both (Sim k n) (assign s j d v) (assign t j d v)) s t S (λ fs B. assign-in s fs B j d v)

  emptied-sim : (ts rs : List ℕ) (s t : State) → Sim k n s t → (j : ℕ) → Both (Sim k n) (emptied s j ts rs) (emptied t j ts rs)
  unfolding emptied empty_if Both
  emptied-sim [] rs s t S j = S
  emptied-sim (x ∷ ts) [] s t S j = S
  emptied-sim (x ∷ ts) (r ∷ rs) s t S j = both-then (Sim k n) (Sim k n) _ _ _ _ (one (is_owned x)) (λ u v q. emptied-sim ts rs u v q j)
    where
      one : (b : Bool) → Both (Sim k n) (empty_if b s j r) (empty_if b t j r)
      one true = assign-sim s t S j r Value.Empty
      one false = S

  -- a new frame of a version of both
  entered-in : (s : State) (fs : List Frame) → Beside k n s.calls s.frames fs → (g : Frame) → g.function < n
      → Both (Sim k n) (put s.frames s.calls g >>= λ xs. got (with_stack s xs (s.calls + 1) s.activations s.depth))
      (put fs s.calls (shift_frame k g) >>= λ xs. got (with_stack (with_frames s fs) xs (s.calls + 1) s.activations s.depth))
  unfolding put Both with_stack with_frames ◌>>=◌ ◌>>◌ stuck_unless
  entered-in s fs B g h = rw (beside-length k n s.calls s.frames fs B) (go (ltb s.calls (length s.frames)))
    where
      go : (b : Bool) → Both (Sim k n) ((stuck_unless b >> got (set s.frames s.calls g)) >>= λ xs. got (with_stack s xs (s.calls + 1) s.activations s.depth))
          ((stuck_unless b >> got (set fs s.calls (shift_frame k g))) >>= λ xs. got (with_stack (with_frames s fs) xs (s.calls + 1) s.activations s.depth))
      go true = record { frames = set fs s.calls (shift_frame k g); others = refl; calls = let e : s.calls + 1 ≡ suc s.calls = omega arith in rw e (beside-more k n s.calls s.frames fs g h B) }
      go false = tt

  enter-sim : (s : State) (fs : List Frame) → Beside k n s.calls s.frames fs → (j d : ℕ) (W : Version) (rs : List ℕ) (vs : List Value) → W.function < n
      → Both (Sim k n) (enter s j d W rs vs) (enter (with_frames s fs) j d (shift_version k o W) rs vs)
  unfolding enter frame_for with_frames
  enter-sim s fs B j d W rs vs h =
      both-then (Sim k n) (Sim k n) _ _ _ _ (opened_in s fs B _) (λ x y q.
      both-then (Sim k n) (Sim k n) _ _ _ _ (emptied-sim (parameter_types W) rs x y q j) (λ u v r.
      sim-in (λ v. Both (Sim k n) (put u.frames u.calls (frame_for W vs) >>= λ xs. got (with_stack u xs (u.calls + 1) u.activations u.depth)) (put v.frames v.calls (frame_for (shift_version k o W) vs) >>= λ xs. got (with_stack v xs (v.calls + 1) v.activations v.depth))) u v r (λ gs E. entered-in u gs E (frame_for W vs) h)))

  -- ---- instructions

  abbrev St : State → State → Type 0
  St = Sim k n

  module _ (s : State) (fs : List Frame) (B : Beside k n s.calls s.frames fs) where
    abbrev t₁ : State
    t₁ = with_frames s fs

    alone-in : (j a v : ℕ) → Both (λ (x y : Unit {0}). Unit {0}) (alone s j a v) (alone t₁ j a v)
    unfolding alone Both
    alone-in j a v = both-then (λ (x y : Unit {0}). Unit {0}) St _ _ _ _ (assign-in s fs B j a Value.Empty) (λ x y q.
        sim-in (λ y. Both (λ (a b : Unit {0}). Unit {0}) (stuck_unless (not (vector_counts x v))) (stuck_unless (not (vector_counts y v)))) x y q (λ gs E. rw (vectors-same x gs E) (go (stuck_unless (not (vector_counts x v))))))
      where
        go : (x : Try (Unit {0})) → Both (λ (a b : Unit {0}). Unit {0}) x x
        go (got a) = tt
        go stuck = tt
        go (stop e) = refl

    force-in : (j d p : ℕ) (q : Promise) (c : Cache) → Both St (force s j d p q c) (force t₁ j d p q c)
    unfolding force pending live_activations with_frames
    force-in j d p q (Cache.Forced z) = assign-in s fs B j d (Value.Integer z)
    force-in j d p q Cache.Unforced = both-next St (end_unless End.Undef (not (pending s p))) _ _ (λ u e. opened_in s fs B _)

    kinds-same : kind_in J t₁ ≡ kind_in P s
    kinds-same = fun_ext (kind-same s fs B)

    -- a vector and a promise written, which no frame is
    vector-in : (i j d : ℕ) (w : _) (v : Value) → Both St (assign (with_vector s i w) j d v) (assign (with_vector t₁ i w) j d v)
    unfolding with_vector with_frames
    vector-in i j d w v = assign-in (with_vector s i w) fs B j d v

    promise-in : (i j d : ℕ) (q : Promise) (v : Value) → Both St (assign (with_promise s i q) j d v) (assign (with_promise t₁ i q) j d v)
    unfolding with_promise with_frames
    promise-in i j d q v = assign-in (with_promise s i q) fs B j d v

    skipped-in : (m : ℕ) → Both St (skipped s m) (skipped t₁ m)
    unfolding skipped Both live_activations with_stack with_frames
    skipped-in m = both-same St (at (live_activations s) (s.depth - 1)) _ _ (λ a. both-next St (stuck_unless (leb (a.next + m) INSTRUCTIONS)) _ _ (λ u e. record { frames = fs; others = refl; calls = B }))

    execute-in : (j : ℕ) (f : Frame) (W : Version) (i : Instr) → Names n i → Both St (execute P s j f W i) (execute J t₁ j (shift_frame k f) (shift_version k o W) (shift_instr k i))
    unfolding execute_to shift_instr value integer vector promise plain name register named Names with_frames Both with_vector picked lowest
    execute-in j f W (LIT d i) c = assign-in s fs B j d (Value.Integer i)
    execute-in j f W (MOVE d a) c = rw kinds-same (both-same St (value f a) _ _ (λ v. both-same St (kind_in P s v) _ _ (λ m. both-same St (at W.types d) _ _ (λ x. both-next St (stuck_unless (within m (kind_of x))) _ _ (λ u e. assign-in s fs B j d v)))))
    execute-in j f W (USE d a) c = both-same St (vector f a) _ _ (λ v. both-then St St _ _ _ _ (assign-in s fs B j a Value.Empty) (λ x y q. assign-sim x y q j d (Value.Vector v)))
    execute-in j f W (DUP d a) c = rw (vector-same s fs B) (both-same St (vector f a) _ _ (λ v. both-same St (at s.vectors v) _ _ (λ w. both-same St (free_vector s) _ _ (λ i. vector-in i j d w (Value.Vector i)))))
    execute-in j f W (VEC d rs) c = rw (vector-same s fs B) (both-same St (each (integer f) rs) _ _ (λ xs. both-same St (free_vector s) _ _ (λ i. vector-in i j d (new_vector xs) (Value.Vector i))))
    execute-in j f W (LEN d a) c = both-same St (vector f a) _ _ (λ v. both-same St (at s.vectors v) _ _ (λ w. assign-in s fs B j d _))
    execute-in j f W (GET d a i) c = both-same St (vector f a) _ _ (λ v. both-same St (at s.vectors v) _ _ (λ w. both-same St (integer f i) _ _ (λ z. both-same St (index z (length (items_of w))) _ _ (λ x. assign-in s fs B j d _))))
    execute-in j f W (SET a i e) c = both-same St (vector f a) _ _ (λ v. both-same St (at s.vectors v) _ _ (λ w. both-same St (integer f i) _ _ (λ z. both-same St (integer f e) _ _ (λ x. both-line St (λ (x y : Unit {0}). Unit {0}) _ _ _ _ (alone-in j a v) (both-same St (index z (length (items_of w))) _ _ (λ l. written v _))))))
      where
        written : (v : ℕ) (w : _) → Both St (got (with_vector s v w)) (got (with_vector t₁ v w))
        written v w = record { frames = fs; others = refl; calls = B }
    execute-in j f W (ARITH d op a b) c = both-same St (integer f a) _ _ (λ x. both-same St (integer f b) _ _ (λ y. both-same St (arith_to RANGE op x y) _ _ (λ z. assign-in s fs B j d (Value.Integer z))))
    execute-in j f W (SELECT d x a b) c = both-same St (integer f x) _ _ (λ z. both-same St (integer f a) _ _ (λ p. both-same St (integer f b) _ _ (λ q. assign-in s fs B j d _)))
    execute-in j f W (CAST d a) c = rw kinds-same (both-same St (value f a) _ _ (λ v. both-same St (kind_in P s v) _ _ (λ m. both-same St (at W.types d) _ _ (λ x. both-next St (end_unless End.Undef (within m (kind_of x))) _ _ (λ u e. assign-in s fs B j d v)))))
    execute-in j f W (NAMED d x) c = both-same St (name f x) _ _ (λ v. assign-in s fs B j d v)
    execute-in j f W (STORE x a) c = both-same St (plain f a) _ _ (λ v. store_in s fs B j x v)
    execute-in j f W (PROM d block) c = rw (promise-same s fs B) (both-line St (λ (x y : Block). y ≡ shift_block k o x) _ _ _ _ (at_map (shift_block k o) W.blocks block) (both-same St (free_promise s) _ _ (λ i. promise-in i j d _ (Value.Promise i))))
    execute-in j f W (FORCE d a) c = both-same St (promise f a) _ _ (λ p. both-same St (at s.promises p) _ _ (λ q. force-in j d p q q.cache))
    execute-in j f W (PEEK d a x) c = both-same St (promise f a) _ _ (λ p. both-same St (at s.promises p) _ _ (λ q. both-then St (λ (x y : Frame). (x.function < n) × (y ≡ shift_frame k x)) _ _ _ _ (live-sim s fs B q.frame) (λ g h r. rw r.1 (both-same St (name g x) _ _ (λ v. assign-in s fs B j d v)))))
    execute-in j f W (POKE a x e) c = both-same St (promise f a) _ _ (λ p. both-same St (at s.promises p) _ _ (λ q. both-same St (plain f e) _ _ (λ v. store_in s fs B q.frame x v)))
    execute-in j f W (CALL d g w rs) c = rw kinds-same (both-then St Same _ _ _ _ (find-sim g w c) (λ X Y q. rw q.1 (both-same St (each (value f) rs) _ _ (λ vs. both-same St (each (kind_in P s) vs) _ _ (λ ks. both-next St (stuck_unless (matching ks (parameter_types X))) _ _ (λ u e. enter-sim s fs B j d X rs vs q.0))))))
    execute-in j f W (DISPATCH d g mark ret pairs) c = rw kinds-same
        (both-same St (each (value f) (registers_of pairs)) _ _ (λ vs. both-same St (each (kind_in P s) vs) _ _ (λ ks. both-then St Same _ _ _ _ (lowest-sim g (dispatches W.level mark ret pairs ks) c (dispatches-shifted k o W.level mark ret pairs ks) VERSIONS 0) (λ X Y q. rw q.1 (enter-sim s fs B j d X (registers_of pairs) vs q.0)))))
    execute-in j f W (SKIP a m) c = both-same St (integer f a) _ _ (λ z. go (is_zero z))
      where
        go : (b : Bool) → Both St (cond b (skipped s m) (got s)) (cond b (skipped t₁ m) (got t₁))
        go true = skipped-in m
        go false = record { frames = fs; others = refl; calls = B }

    -- ---- block ends

    done-in : (v : Value) → Both St (done s v) (done t₁ v)
    unfolding done Both closed with_end with_stack with_frames
    done-in Value.Empty = tt
    done-in (Value.Integer z) = record { frames = fs; others = refl; calls = beside-less k n s.calls 0 s.frames fs (omega arith) B }
    done-in (Value.Vector v) = both-same St (at s.vectors v) _ _ (λ w. record { frames = fs; others = refl; calls = beside-less k n s.calls 0 s.frames fs (omega arith) B })
    done-in (Value.Promise p) = tt

    back_in : (m d : ℕ) (v : Value) → m ≤ s.calls → Both St (back s m d v) (back t₁ m d v)
    unfolding back with_stack with_frames
    back_in m d v h = both-next St (stuck_unless (ltb 1 s.depth)) _ _ (λ u e. both-same St (at s.activations (s.depth - 2)) _ _ (λ b. assign-in (with_stack s s.frames m s.activations (s.depth - 1)) fs (beside-less k n s.calls m s.frames fs h B) b.frame d v))

  finish-in : (s : State) (fs : List Frame) → Beside k n s.calls s.frames fs → (a : Activation) (W : Version) (v : Value) (x : Opener) → Both St (finish P s a W v x) (finish J (with_frames s fs) a (shift_version k o W) v x)
  unfolding finish with_frames with_promise
  finish-in s fs B a W v Opener.Call = rw (kind-same s fs B v) (both-same St (kind_in P s v) _ _ (λ m. both-next St (stuck_unless (within m (kind_of W.return))) _ _ (λ u e. both-next St (stuck_unless (eqb a.block 0 and eqb (a.frame + 1) s.calls)) _ _ (λ u' e'. go (eqb s.depth 1) (and_both _ _ (test-true _ u' e')).1))))
    where
      go : (b : Bool) → eqb (a.frame + 1) s.calls ≡ true → Both St (elim b [ true ↦ done s v | false ↦ back s a.frame a.d v ]) (elim b [ true ↦ done (with_frames s fs) v | false ↦ back (with_frames s fs) a.frame a.d v ])
      go true e = done-in s fs B v
      go false e = back_in s fs B a.frame a.d v (omega (arith, eqb-true (a.frame + 1) s.calls e))
  finish-in s fs B a W v (Opener.Force p) = both-same St (an_integer v) _ _ (λ z. both-same St (at s.promises p) _ _ (λ q. back_in (with_promise s p _) fs B s.calls a.d v (omega arith)))

  -- ---- the step

  -- where both stand
  pub record Stands (h g : Here) : Type 0 where
    pub same : g ≡ record { activation = h.activation; frame = shift_frame k h.frame; version = shift_version k o h.version; block = shift_block k o h.block }
    pub names : (i : ℕ) (l : Line) → get_elem? h.block.code i ≡ some l → Names n l.does

  here_in : (s : State) (fs : List Frame) → Beside k n s.calls s.frames fs → Both Stands (here P s) (here J (with_frames s fs))
  unfolding here with_frames live_activations Both
  here_in s fs B =
      both-same Stands (at (take s.depth s.activations) (s.depth - 1)) _ _ (λ a.
      both-then Stands (λ (x y : Frame). (x.function < n) × (y ≡ shift_frame k x)) _ _ _ _ (live-sim s fs B a.frame) (λ f g r. rw r.1
      (both-then Stands Same _ _ _ _ (find-sim f.function f.version r.0) (λ X Y q. rw q.1
      (both-then Stands (λ (x y : Block). (get_elem? X.blocks a.block ≡ some x) × (y ≡ shift_block k o x)) _ _ _ _ (at-map-in (shift_block k o) X.blocks a.block) (λ x y z. rw z.1 (record { same = refl; names = λ i l. q.2 a.block x i l z.0 })))))))

  unfoldable shift_position : Position → Position
  shift_position (instruction i) = instruction (shift_instr k i)
  shift_position block_end = block_end
  shift_position outside = outside

  position-shifted : (m : ℕ) (ls : List Line) (i : ℕ) → position (take m (map (shift_line k o) ls)) i ≡ shift_position (position (take m ls) i)
  unfolding position shift_position
  position-shifted zero [] zero = refl
  position-shifted zero [] (suc i) = refl
  position-shifted zero (l ∷ ls) zero = refl
  position-shifted zero (l ∷ ls) (suc i) = refl
  position-shifted (suc m) [] zero = refl
  position-shifted (suc m) [] (suc i) = refl
  position-shifted (suc m) (l ∷ ls) zero = refl
  position-shifted (suc m) (l ∷ ls) (suc i) = position-shifted m ls i

  unfoldable NamesAt : Position → Type 0
  NamesAt (instruction i) = Names n i
  NamesAt block_end = Unit {0}
  NamesAt outside = Unit {0}

  position-names : (m : ℕ) (ls : List Line) (i : ℕ) → ((j : ℕ) (l : Line) → get_elem? ls j ≡ some l → Names n l.does) → NamesAt (position (take m ls) i)
  unfolding position NamesAt
  position-names zero [] zero h = tt
  position-names zero [] (suc i) h = tt
  position-names zero (l ∷ ls) zero h = tt
  position-names zero (l ∷ ls) (suc i) h = tt
  position-names (suc m) [] zero h = tt
  position-names (suc m) [] (suc i) h = tt
  position-names (suc m) (l ∷ ls) zero h = h 0 l refl
  position-names (suc m) (l ∷ ls) (suc i) h = position-names m ls i (λ j. h (suc j))

  proceed-in : (s : State) (fs : List Frame) → Beside k n s.calls s.frames fs → (h g : Here) → Stands h g → (p : Position) → NamesAt p → Both St (proceed P s h p) (proceed J (with_frames s fs) g (shift_position p))
  unfolding proceed_to shift_position NamesAt Both passed with_stack with_frames value register
  proceed-in s fs B h g w (instruction i) c = rw w.same (execute-in (passed s h.activation) fs B h.activation.frame h.frame h.version i c)
  proceed-in s fs B h g w block_end c = rw w.same (both-same St (value h.frame h.block.result) _ _ (λ v. finish-in s fs B h.activation h.version v h.activation.opener))
  proceed-in s fs B h g w outside c = tt

  -- THE LAW of a step under both
  pub advance-in : (s : State) (fs : List Frame) → Beside k n s.calls s.frames fs → Both St (advance P s) (advance J (with_frames s fs))
  unfolding advance_to position_of
  advance-in s fs B = both-then St Stands _ _ _ _ (here_in s fs B) (λ h g w.
      let e : position_of g ≡ shift_position (position_of h) = ap position_of w.same ∙ position-shifted INSTRUCTIONS h.block.code h.activation.next in
      rw e (proceed-in s fs B h g w (position_of h) (position-names INSTRUCTIONS h.block.code h.activation.next w.names)))
