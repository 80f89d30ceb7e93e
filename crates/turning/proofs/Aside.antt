-- A plain instruction does not look at where its activation stands: with other activations, of which the same force the same promises, it does the same.
use mathlib.Core.Path.{◌≡◌, refl, sym, ap, ◌∙◌}
use mathlib.Core.List.{List}
use mathlib.Core.Bool.{Bool, true, false, cond, not, ◌||◌, false≢true}
use Prim.Native.Nat.{ℕ, zero, suc}
use lib.IntN.{ℤ, pos}
use lib.ListN.{length, get_or, set}
use Rattle.program.specs.Program.{Instr, LIT, MOVE, USE, DUP, VEC, LEN, GET, SET, ARITH, SELECT, CAST, NAMED, STORE, PROM, FORCE, PEEK, POKE, CALL, DISPATCH, SKIP, Version, Program}
use Rattle.program.specs.Program.{find_version}
use Rattle.rules.specs.Types.{kind_of, within}
use Rattle.machine.specs.Try.{Try, got, stuck, stop, ◌>>=◌, ◌>>◌, stuck_unless, end_unless, at, put, each, or_stuck}
use Rattle.machine.specs.Values.{arith_to, index, is_zero}
use Rattle.machine.specs.States.{PROMISES, items_of, new_vector, held, live_activations, live_frames, value, integer, vector, promise, plain, name, kind_in, free, free_vector, free_promise}
use Rattle.machine.specs.States.{is_promise, pending, promise_counts, vector_counts, with_stack, with_vector, with_promise, with_frame, with_register, with_name, assign, store}
use Rattle.machine.specs.Steps.{alone, execute_to}
use Rattle.machine.specs.declared.Activation.{Activation}
use Rattle.machine.specs.declared.Cache.{Cache}
use Rattle.machine.specs.declared.End.{End}
use Rattle.machine.specs.declared.Frame.{Frame}
use Rattle.machine.specs.declared.Promise.{Promise}
use Rattle.machine.specs.declared.State.{State}
use Rattle.machine.specs.declared.Value.{Value}
use Rattle.machine.specs.declared.Vector.{Vector}
use Rattle.turning.specs.Plain.{is_plain}
use Rattle.turning.specs.Standing.{aside}

-- what is done, with these activations
unfoldable pub besides : List Activation → Try State → Try State
besides A (got u) = got (aside u A)
besides A stuck = stuck
besides A (stop e) = stop e

-- the line `x ← t`, where t looks at no state
then : {B : Type 0} (A : List Activation) (t : Try B) (f g : B → Try State) → ((x : B) → f x ≡ besides A (g x)) → (t >>= f) ≡ besides A (t >>= g)
unfolding ◌>>=◌ besides
then A (got x) f g h = h x
then A stuck f g h = refl
then A (stop e) f g h = refl

-- the line `t`
next : {B : Type 0} (A : List Activation) (t : Try B) (f g : Try State) → f ≡ besides A g → (t >> f) ≡ besides A (t >> g)
unfolding ◌>>◌ besides
next A (got x) f g h = h
next A stuck f g h = refl
next A (stop e) f g h = refl

-- a state in between
after : (A : List Activation) (t u : Try State) (f g : State → Try State) → t ≡ besides A u → ((x : State) → f (aside x A) ≡ besides A (g x)) → (t >>= f) ≡ besides A (u >>= g)
unfolding ◌>>=◌ besides
after A t (got x) f g e h = rw e (h x)
after A t stuck f g e h = rw e refl
after A t (stop x) f g e h = rw e refl

module _ (A : List Activation) where
  assign-aside : (s : State) (k d : ℕ) (v : Value) → assign (aside s A) k d v ≡ besides A (assign s k d v)
  unfolding assign aside with_stack with_frame live_frames besides
  assign-aside s k d v = then A (at (live_frames s) k) _ _ (λ f. then A (with_register f d v) _ _ (λ g. refl))

  store-aside : (s : State) (k x : ℕ) (v : Value) → store (aside s A) k x v ≡ besides A (store s k x v)
  unfolding store aside with_stack with_frame live_frames besides
  store-aside s k x v = then A (at (live_frames s) k) _ _ (λ f. then A (with_name f x v) _ _ (λ g. refl))

  kind-aside : (P : Program) (s : State) (v : Value) → kind_in P (aside s A) v ≡ kind_in P s v
  unfolding kind_in aside with_stack live_frames
  kind-aside P s Value.Empty = refl
  kind-aside P s (Value.Integer z) = refl
  kind-aside P s (Value.Vector v) = refl
  kind-aside P s (Value.Promise p) = refl

  vector-aside : (s : State) (n : ℕ) (w : Vector) → with_vector (aside s A) n w ≡ aside (with_vector s n w) A
  unfolding with_vector aside with_stack
  vector-aside s n w = refl

  promise-aside : (s : State) (n : ℕ) (q : Promise) → with_promise (aside s A) n q ≡ aside (with_promise s n q) A
  unfolding with_promise aside with_stack
  promise-aside s n q = refl

  free-aside : (s : State) → free_vector (aside s A) ≡ free_vector s
  unfolding free_vector vector_counts held aside with_stack live_frames
  free-aside s = refl

  counts-aside : (s : State) (v : ℕ) → vector_counts (aside s A) v ≡ vector_counts s v
  unfolding vector_counts held aside with_stack live_frames
  counts-aside s v = refl

  counted-aside : (t : Try State) (v : ℕ) → (besides A t >>= λ u. stuck_unless (not (vector_counts u v))) ≡ (t >>= λ u. stuck_unless (not (vector_counts u v)))
  unfolding besides ◌>>=◌ vector_counts held aside with_stack live_frames
  counted-aside (got u) v = refl
  counted-aside stuck v = refl
  counted-aside (stop e) v = refl

  alone-aside : (s : State) (k a v : ℕ) → alone (aside s A) k a v ≡ alone s k a v
  unfolding alone
  alone-aside s k a v = ap (λ (t : Try State). t >>= λ u. stuck_unless (not (vector_counts u v))) (assign-aside s k a Value.Empty) ∙ counted-aside (assign s k a Value.Empty) v

  -- the same promises count
  free-same : (e : End) (f g : ℕ → Bool) → ((i : ℕ) → f i ≡ g i) → (n i : ℕ) → free e f n i ≡ free e g n i
  unfolding free
  free-same e f g h zero i = refl
  free-same e f g h (suc n) i = go (f i) (g i) (h i) (free-same e f g h n (suc i))
    where
      go : (a b : Bool) → a ≡ b → free e f n (suc i) ≡ free e g n (suc i) → ◌≡◌ {A = Try ℕ} (elim a [ true ↦ free e f n (suc i) | false ↦ got i ])
          (elim b [ true ↦ free e g n (suc i) | false ↦ got i ])
      go true true q r = r
      go true false q r = absurd (false≢true (sym q))
      go false true q r = absurd (false≢true q)
      go false false q r = refl

  module _ (s : State) (same : (p : ℕ) → pending (aside s A) p ≡ pending s p) where
    promise-counts-aside : (p : ℕ) → promise_counts (aside s A) p ≡ promise_counts s p
    unfolding promise_counts held aside with_stack live_frames
    promise-counts-aside p = ap (λ b. held (is_promise p) s || b) (same p)

    free-promise-aside : free_promise (aside s A) ≡ free_promise s
    unfolding free_promise
    free-promise-aside = free-same End.Promises (promise_counts (aside s A)) (promise_counts s) promise-counts-aside PROMISES 0

    -- a vector, or a promise, and a register
    made-aside : (k d n : ℕ) (v : Value) (w : Vector) → assign (with_vector (aside s A) n w) k d v ≡ besides A (assign (with_vector s n w) k d v)
    made-aside k d n v w = ap (λ (u : State). assign u k d v) (vector-aside s n w) ∙ assign-aside (with_vector s n w) k d v

    delayed-aside : (k d n : ℕ) (v : Value) (q : Promise) → assign (with_promise (aside s A) n q) k d v ≡ besides A (assign (with_promise s n q) k d v)
    delayed-aside k d n v q = ap (λ (u : State). assign u k d v) (promise-aside s n q) ∙ assign-aside (with_promise s n q) k d v

    -- an item
    set-aside : (v : ℕ) (w : Vector) (j : ℕ) (x : ℤ) → got (with_vector (aside s A) v (record { length = w.length; items = set w.items j x })) ≡ besides A
        (got (with_vector s v (record { length = w.length; items = set w.items j x })))
    unfolding besides
    set-aside v w j x = ap got (vector-aside s v _)

    -- a kind, then what it is asked for
    kinded : (P : Program) (v : Value) (f g : ℕ → Try State) → ((m : ℕ) → f m ≡ besides A (g m)) → (kind_in P (aside s A) v >>= f) ≡ besides A (kind_in P s v >>= g)
    kinded P v f g h = ap (λ (t : Try ℕ). t >>= f) (kind-aside P s v) ∙ then A (kind_in P s v) f g h

    -- what stands at a place
    at-vector : (v : ℕ) (f g : Vector → Try State) → ((w : Vector) → f w ≡ besides A (g w)) → (at (aside s A).vectors v >>= f) ≡ besides A (at s.vectors v >>= g)
    unfolding aside with_stack
    at-vector v f g h = then A (at s.vectors v) f g h

    at-promise : (p : ℕ) (f g : Promise → Try State) → ((q : Promise) → f q ≡ besides A (g q)) → (at (aside s A).promises p >>= f) ≡ besides A (at s.promises p >>= g)
    unfolding aside with_stack
    at-promise p f g h = then A (at s.promises p) f g h

    at-frame : (k : ℕ) (f g : Frame → Try State) → ((q : Frame) → f q ≡ besides A (g q)) → (at (live_frames (aside s A)) k >>= f) ≡ besides A (at (live_frames s) k >>= g)
    unfolding aside with_stack live_frames
    at-frame k f g h = then A (at (live_frames s) k) f g h

    -- a free place
    a-vector : (f g : ℕ → Try State) → ((m : ℕ) → f m ≡ besides A (g m)) → (free_vector (aside s A) >>= f) ≡ besides A (free_vector s >>= g)
    a-vector f g h = ap (λ (t : Try ℕ). t >>= f) (free-aside s) ∙ then A (free_vector s) f g h

    a-promise : (f g : ℕ → Try State) → ((m : ℕ) → f m ≡ besides A (g m)) → (free_promise (aside s A) >>= f) ≡ besides A (free_promise s >>= g)
    a-promise f g h = ap (λ (t : Try ℕ). t >>= f) free-promise-aside ∙ then A (free_promise s) f g h

    -- nobody else
    by_itself : (k a v : ℕ) (f g : Try State) → f ≡ besides A g → (alone (aside s A) k a v >> f) ≡ besides A (alone s k a v >> g)
    by_itself k a v f g h = ap (λ (t : Try (Unit {0})). t >> f) (alone-aside s k a v) ∙ next A (alone s k a v) f g h

    pub execute-aside : (R : ℕ) (P : Program) (k : ℕ) (f : Frame) (W : Version) (i : Instr) → is_plain i ≡ true → execute_to R P (aside s A) k f W i ≡ besides A (execute_to R P s k f W i)
    unfolding execute_to is_plain
    execute-aside R P k f W (LIT d i) n = assign-aside s k d (Value.Integer i)
    execute-aside R P k f W (MOVE d a) n = then A (value f a) _ _ (λ v. kinded P v _ _
        (λ m. then A (at W.types d) _ _ (λ t. next A (stuck_unless (within m (kind_of t))) _ _ (assign-aside s k d v))))
    execute-aside R P k f W (USE d a) n = then A (vector f a) _ _ (λ v. after A (assign (aside s A) k a Value.Empty) (assign s k a Value.Empty) _ _ (assign-aside s k a Value.Empty)
        (λ t. assign-aside t k d (Value.Vector v)))
    execute-aside R P k f W (DUP d a) n = then A (vector f a) _ _ (λ v. at-vector v _ _ (λ w. a-vector _ _ (λ m. made-aside k d m (Value.Vector m) w)))
    execute-aside R P k f W (VEC d rs) n = then A (each (integer f) rs) _ _ (λ xs. a-vector _ _ (λ m. made-aside k d m (Value.Vector m) (new_vector xs)))
    execute-aside R P k f W (LEN d a) n = then A (vector f a) _ _ (λ v. at-vector v _ _ (λ w. assign-aside s k d _))
    execute-aside R P k f W (GET d a i) n = then A (vector f a) _ _
        (λ v. at-vector v _ _ (λ w. then A (integer f i) _ _ (λ z. then A (index z (length (items_of w))) _ _ (λ j. assign-aside s k d _))))
    execute-aside R P k f W (ARITH d op a b) n = then A (integer f a) _ _ (λ x. then A (integer f b) _ _ (λ y. then A (arith_to R op x y) _ _ (λ z. assign-aside s k d (Value.Integer z))))
    execute-aside R P k f W (SELECT d c a b) n = then A (integer f c) _ _ (λ z. then A (integer f a) _ _ (λ x. then A (integer f b) _ _ (λ y. assign-aside s k d _)))
    execute-aside R P k f W (CAST d a) n = then A (value f a) _ _ (λ v. kinded P v _ _
        (λ m. then A (at W.types d) _ _ (λ t. next A (end_unless End.Undef (within m (kind_of t))) _ _ (assign-aside s k d v))))
    execute-aside R P k f W (NAMED d x) n = then A (name f x) _ _ (λ v. assign-aside s k d v)
    execute-aside R P k f W (STORE x a) n = then A (plain f a) _ _ (λ v. store-aside s k x v)
    execute-aside R P k f W (PEEK d a x) n = then A (promise f a) _ _ (λ p. at-promise p _ _ (λ q. at-frame q.frame _ _ (λ g. then A (name g x) _ _ (λ v. assign-aside s k d v))))
    execute-aside R P k f W (POKE a x e) n = then A (promise f a) _ _ (λ p. at-promise p _ _ (λ q. then A (plain f e) _ _ (λ v. store-aside s q.frame x v)))
    execute-aside R P k f W (SET a i e) n = then A (vector f a) _ _
        (λ v. at-vector v _ _ (λ w. then A (integer f i) _ _ (λ z. then A (integer f e) _ _ (λ x. by_itself k a v _ _ (then A (index z (length (items_of w))) _ _ (λ j. set-aside v w j x))))))
    execute-aside R P k f W (PROM d block) n = next A (at W.blocks block) _ _ (a-promise _ _ (λ m. delayed-aside k d m (Value.Promise m) _))
    execute-aside R P k f W (FORCE d a) n = absurd (false≢true n)
    execute-aside R P k f W (CALL d g w rs) n = absurd (false≢true n)
    execute-aside R P k f W (DISPATCH d g mark ret pairs) n = absurd (false≢true n)
    execute-aside R P k f W (SKIP a m) n = absurd (false≢true n)
