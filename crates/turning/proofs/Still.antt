-- A plain instruction leaves all activations as they were.
use mathlib.Core.Path.{◌≡◌, refl, sym, ap, ◌∙◌}
use mathlib.Core.Bool.{Bool, true, false, cond, not, false≢true}
use Prim.Native.Nat.{ℕ}
use lib.ListN.{length, set}
use Rattle.program.specs.Program.{Instr, LIT, MOVE, USE, DUP, VEC, LEN, GET, SET, ARITH, SELECT, CAST, NAMED, STORE, PROM, FORCE, PEEK, POKE, CALL, DISPATCH, SKIP, Version, Program}
use Rattle.rules.specs.Types.{kind_of, within}
use Rattle.machine.specs.Try.{Try, got, ◌>>=◌, ◌>>◌, stuck_unless, end_unless, at, put, each}
use Rattle.machine.specs.Values.{arith_to, index}
use Rattle.machine.specs.States.{items_of, new_vector, live_frames, value, integer, vector, promise, plain, name, kind_in, free_vector, free_promise, with_stack, with_vector, with_promise, with_frame}
use Rattle.machine.specs.States.{with_register, with_name, assign, store}
use Rattle.machine.specs.Steps.{alone, execute_to}
use Rattle.machine.specs.declared.End.{End}
use Rattle.machine.specs.declared.Frame.{Frame}
use Rattle.machine.specs.declared.Promise.{Promise}
use Rattle.machine.specs.declared.State.{State}
use Rattle.machine.specs.declared.Value.{Value}
use Rattle.machine.specs.declared.Vector.{Vector}
use Rattle.runs.proofs.Keeps.{Gives, gives_then, gives-next, gives_after, gives-weaken}
use Rattle.turning.specs.Plain.{is_plain}

-- t has the activations of s
pub record Still (s t : State) : Type 0 where
  pub activations : t.activations ≡ s.activations
  pub depth : t.depth ≡ s.depth

still-same : (s : State) → Still s s
still-same s = record { activations = refl; depth = refl }

pub assign-still : (s : State) (k d : ℕ) (v : Value) → Gives (Still s) (assign s k d v)
unfolding assign Gives with_frame with_stack
assign-still s k d v = gives_then _ (at (live_frames s) k) _ (λ f e. gives_then _ (with_register f d v) _ (λ g n. record { activations = refl; depth = refl }))

store-still : (s : State) (k x : ℕ) (v : Value) → Gives (Still s) (store s k x v)
unfolding store Gives with_frame with_stack
store-still s k x v = gives_then _ (at (live_frames s) k) _ (λ f e. gives_then _ (with_name f x v) _ (λ g n. record { activations = refl; depth = refl }))

further : (s t : State) (u : Try State) → Still s t → Gives (Still t) u → Gives (Still s) u
further s t u h g = gives-weaken (Still t) (Still s) u g (λ w k. record { activations = k.activations ∙ h.activations; depth = k.depth ∙ h.depth })

items-still : (s : State) (v : ℕ) (w : Vector) → Still s (with_vector s v w)
unfolding with_vector
items-still s v w = record { activations = refl; depth = refl }

vector-still : (s : State) (k d n : ℕ) (v : Value) (w : Vector) → Gives (Still s) (assign (with_vector s n w) k d v)
vector-still s k d n v w = further s (with_vector s n w) (assign (with_vector s n w) k d v) (items-still s n w) (assign-still (with_vector s n w) k d v)

promise-still : (s : State) (k d n : ℕ) (v : Value) (q : Promise) → Gives (Still s) (assign (with_promise s n q) k d v)
unfolding with_promise
promise-still s k d n v q = further s (with_promise s n q) _ (record { activations = refl; depth = refl }) (assign-still (with_promise s n q) k d v)

pub execute-still : (R : ℕ) (P : Program) (s : State) (k : ℕ) (f : Frame) (W : Version) (i : Instr) → is_plain i ≡ true → Gives (Still s) (execute_to R P s k f W i)
unfolding execute_to is_plain Gives
execute-still R P s k f W (LIT d i) n = assign-still s k d _
execute-still R P s k f W (MOVE d a) n =
    gives_then _ (value f a) _ (λ v _. gives_then _ (kind_in P s v) _
    (λ m _. gives_then _ (at W.types d) _ (λ t _. gives-next _ (stuck_unless (within m (kind_of t))) _ (λ _ _. assign-still s k d v))))
execute-still R P s k f W (USE d a) n = gives_then _ (vector f a) _
    (λ v _. gives_after _ _ (assign s k a Value.Empty) _ (assign-still s k a Value.Empty) (λ t h. further s t (assign t k d (Value.Vector v)) h (assign-still t k d (Value.Vector v))))
execute-still R P s k f W (DUP d a) n = gives_then _ (vector f a) _
    (λ v _. gives_then _ (at s.vectors v) _ (λ w _. gives_then _ (free_vector s) _ (λ m _. vector-still s k d m (Value.Vector m) w)))
execute-still R P s k f W (VEC d rs) n = gives_then _ (each (integer f) rs) _ (λ xs _. gives_then _ (free_vector s) _ (λ m _. vector-still s k d m (Value.Vector m) (new_vector xs)))
execute-still R P s k f W (LEN d a) n = gives_then _ (vector f a) _ (λ v _. gives_then _ (at s.vectors v) _ (λ w _. assign-still s k d _))
execute-still R P s k f W (GET d a i) n =
    gives_then _ (vector f a) _ (λ v _. gives_then _ (at s.vectors v) _
    (λ w _. gives_then _ (integer f i) _ (λ z _. gives_then _ (index z (length (items_of w))) _ (λ j _. assign-still s k d _))))
execute-still R P s k f W (SET a i e) n =
    gives_then _ (vector f a) _ (λ v _. gives_then _ (at s.vectors v) _ (λ w _. gives_then _ (integer f i) _ (λ z _. gives_then _ (integer f e) _ (λ x _.
    gives-next _ (alone s k a v) _ (λ _ _. gives_then _ (index z (length (items_of w))) _ (λ j _. items-still s v _))))))
execute-still R P s k f W (ARITH d op a b) n = gives_then _ (integer f a) _
    (λ x _. gives_then _ (integer f b) _ (λ y _. gives_then _ (arith_to R op x y) _ (λ z _. assign-still s k d (Value.Integer z))))
execute-still R P s k f W (SELECT d c a b) n = gives_then _ (integer f c) _ (λ z _. gives_then _ (integer f a) _ (λ x _. gives_then _ (integer f b) _ (λ y _. assign-still s k d _)))
execute-still R P s k f W (CAST d a) n =
    gives_then _ (value f a) _ (λ v _. gives_then _ (kind_in P s v) _
    (λ m _. gives_then _ (at W.types d) _ (λ t _. gives-next _ (end_unless End.Undef (within m (kind_of t))) _ (λ _ _. assign-still s k d v))))
execute-still R P s k f W (NAMED d x) n = gives_then _ (name f x) _ (λ v _. assign-still s k d v)
execute-still R P s k f W (STORE x a) n = gives_then _ (plain f a) _ (λ v _. store-still s k x v)
execute-still R P s k f W (PROM d block) n = gives-next _ (at W.blocks block) _ (λ _ _. gives_then _ (free_promise s) _ (λ m _. promise-still s k d m (Value.Promise m) _))
execute-still R P s k f W (FORCE d a) n = absurd (false≢true n)
execute-still R P s k f W (PEEK d a x) n =
    gives_then _ (promise f a) _ (λ p _. gives_then _ (at s.promises p) _
    (λ q _. gives_then _ (at (live_frames s) q.frame) _ (λ g _. gives_then _ (name g x) _ (λ v _. assign-still s k d v))))
execute-still R P s k f W (POKE a x e) n = gives_then _ (promise f a) _ (λ p _. gives_then _ (at s.promises p) _ (λ q _. gives_then _ (plain f e) _ (λ v _. store-still s q.frame x v)))
execute-still R P s k f W (CALL d g w rs) n = absurd (false≢true n)
execute-still R P s k f W (DISPATCH d g mark ret pairs) n = absurd (false≢true n)
execute-still R P s k f W (SKIP a m) n = absurd (false≢true n)
