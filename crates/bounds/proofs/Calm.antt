-- What a step does to the promises that registers and names refer to: only a PROM makes one that was not referred to. For every program and every state.
use mathlib.Core.Path.{◌≡◌, refl, sym, ap, ◌∙◌}
use mathlib.Core.Logic.{◌⊎◌, inl, inr}
use mathlib.Core.List.{List, [], ◌∷◌, map}
use mathlib.Core.Bool.{Bool, true, false, ◌||◌, false≢true, true≢false}
use Prim.Native.Nat.{ℕ, zero, suc, ◌≤◌, ◌<◌}
use native.Mathlib.Omega.{arith}
use lib.ListN.{length, get_elem?, set, take, replicate}
use lib.IntN.{ℤ}
use Rattle.layout.specs.Bounds.{REGISTERS, NAMES}
use Rattle.layout.specs.Tests.{any}
use Rattle.program.specs.Program.{Instr, LIT, MOVE, USE, DUP, VEC, LEN, GET, SET, ARITH, SELECT, CAST, NAMED, STORE, PROM, FORCE, PEEK, POKE, CALL, DISPATCH, SKIP, Version, Program}
use Rattle.rules.specs.Types.{kind_of, is_owned, within}
use Rattle.rules.proofs.Follows.{or-either, or_left, or_right}
use Rattle.machine.specs.Try.{Try, got, stuck, stop, stuck_unless, end_unless, at, put, each}
use Rattle.machine.specs.Values.{index}
use Rattle.machine.specs.Values as values
use Rattle.machine.specs.States.{place, items_of, new_vector, over, live_frames, register, named, full, no_promise, is_set, value, integer, vector, promise, plain, name, kind_in, is_promise, refers, held, free_vector, with_stack, with_vector, with_frame, with_register, with_name, assign, store}
use Rattle.machine.specs.Calls.{empty_if, emptied, frame_for}
use Rattle.machine.specs.Steps.{alone, execute, execute_to}
use Rattle.machine.specs.declared.End.{End}
use Rattle.machine.specs.declared.Frame.{Frame}
use Rattle.machine.specs.declared.Place.{Place}
use Rattle.machine.specs.declared.State.{State}
use Rattle.machine.specs.declared.Value.{Value}
use Rattle.machine.specs.declared.Vector.{Vector}
use Rattle.machine.proofs.Tries.{or-stuck, put-there}
use Rattle.runs.proofs.Keeps.{Gives, gives_then, gives-next, gives_after, gives-weaken}
use Rattle.runs.proofs.Lists.{any_at}

-- ---- some of a list passes

any-set : {A : Type 0} (p : A → Bool) (l : List A) (i : ℕ) (x : A) → any p (set l i x) ≡ true → (p x ≡ true) ⊎ (any p l ≡ true)
unfolding any
any-set p [] i x h = inr h
any-set p (y ∷ l) zero x h = go (or-either (p x) (any p l) h)
  where
    go : (p x ≡ true) ⊎ (any p l ≡ true) → (p x ≡ true) ⊎ ((p y || any p l) ≡ true)
    go (inl e) = inl e
    go (inr e) = inr (or_right (p y) e)
any-set p (y ∷ l) (suc i) x h = go (or-either (p y) (any p (set l i x)) h) (any-set p l i x)
  where
    later : (p x ≡ true) ⊎ (any p l ≡ true) → (p x ≡ true) ⊎ ((p y || any p l) ≡ true)
    later (inl q) = inl q
    later (inr q) = inr (or_right (p y) q)

    go : (p y ≡ true) ⊎ (any p (set l i x) ≡ true) → (any p (set l i x) ≡ true → (p x ≡ true) ⊎ (any p l ≡ true)) → (p x ≡ true) ⊎ ((p y || any p l) ≡ true)
    go (inl e) ih = inr (or_left (any p l) e)
    go (inr e) ih = later (ih e)

any-later : {A : Type 0} (p : A → Bool) (y : A) (l m : List A) (T : Type 0) → (any p m ≡ true → T ⊎ (any p l ≡ true)) → any p (y ∷ m) ≡ true → T ⊎ (any p (y ∷ l) ≡ true)
unfolding any
any-later p y l m T f h = go (or-either (p y) (any p m) h)
  where
    later : T ⊎ (any p l ≡ true) → T ⊎ ((p y || any p l) ≡ true)
    later (inl q) = inl q
    later (inr q) = inr (or_right (p y) q)

    go : (p y ≡ true) ⊎ (any p m ≡ true) → T ⊎ ((p y || any p l) ≡ true)
    go (inl e) = inr (or_left (any p l) e)
    go (inr e) = later (f e)

-- of the first n, one of them put
pub any-take-set : {A : Type 0} (p : A → Bool) (n : ℕ) (l : List A) (i : ℕ) (x : A) → any p (take n (set l i x)) ≡ true → (p x ≡ true) ⊎ (any p (take n l) ≡ true)
unfolding any
any-take-set p zero l i x h = absurd (false≢true h)
any-take-set p (suc n) [] i x h = absurd (false≢true h)
any-take-set p (suc n) (y ∷ l) zero x h = go (or-either (p x) (any p (take n l)) h)
  where
    go : (p x ≡ true) ⊎ (any p (take n l) ≡ true) → (p x ≡ true) ⊎ ((p y || any p (take n l)) ≡ true)
    go (inl e) = inl e
    go (inr e) = inr (or_right (p y) e)
any-take-set p (suc n) (y ∷ l) (suc i) x h = any-later p y (take n l) (take n (set l i x)) (p x ≡ true) (any-take-set p n l i x) h

-- of the first n and one more
pub any_push : {A : Type 0} (p : A → Bool) (n : ℕ) (l : List A) (x : A) → n < length l → any p (take (suc n) (set l n x)) ≡ true → (p x ≡ true) ⊎ (any p (take n l) ≡ true)
unfolding any
any_push p n [] x k h = absurd (omega arith)
any_push p zero (y ∷ l) x k h = or-either (p x) false h
any_push p (suc n) (y ∷ l) x k h = any-later p y (take n l) (take (suc n) (set l n x)) (p x ≡ true) (any_push p n l x (omega arith)) h

-- fewer
pub any-fewer : {A : Type 0} (p : A → Bool) (n m : ℕ) (l : List A) → n ≤ m → any p (take n l) ≡ true → any p (take m l) ≡ true
unfolding any
any-fewer p zero m l k h = absurd (false≢true h)
any-fewer p (suc n) zero l k h = absurd (omega arith)
any-fewer p (suc n) (suc m) [] k h = h
any-fewer p (suc n) (suc m) (y ∷ l) k h = go (or-either (p y) (any p (take n l)) h) (any-fewer p n m l (omega arith))
  where
    go : (p y ≡ true) ⊎ (any p (take n l) ≡ true) → (any p (take n l) ≡ true → any p (take m l) ≡ true) → (p y || any p (take m l)) ≡ true
    go (inl e) ih = or_left (any p (take m l)) e
    go (inr e) ih = or_right (p y) (ih e)

any-over : {A : Type 0} (p : A → Bool) (xs ys : List A) → any p (over xs ys) ≡ true → (any p xs ≡ true) ⊎ (any p ys ≡ true)
unfolding any over
any-over p [] ys h = inr h
any-over p (x ∷ xs) [] h = absurd (false≢true h)
any-over p (x ∷ xs) (y ∷ ys) h = go (or-either (p x) (any p (over xs ys)) h) (any-over p xs ys)
  where
    later : (any p xs ≡ true) ⊎ (any p ys ≡ true) → ((p x || any p xs) ≡ true) ⊎ ((p y || any p ys) ≡ true)
    later (inl q) = inl (or_right (p x) q)
    later (inr q) = inr (or_right (p y) q)

    go : (p x ≡ true) ⊎ (any p (over xs ys) ≡ true) → (any p (over xs ys) ≡ true → (any p xs ≡ true) ⊎ (any p ys ≡ true)) → ((p x || any p xs) ≡ true) ⊎ ((p y || any p ys) ≡ true)
    go (inl e) ih = inl (or_left (any p xs) e)
    go (inr e) ih = later (ih e)

any_none : {A : Type 0} (p : A → Bool) (x : A) (n : ℕ) → p x ≡ false → any p (replicate n x) ≡ true → ⊥
unfolding any
any_none p x zero e h = false≢true h
any_none p x (suc n) e h = go (or-either (p x) (any p (replicate n x)) h) (any_none p x n e)
  where
    go : (p x ≡ true) ⊎ (any p (replicate n x) ≡ true) → (any p (replicate n x) ≡ true → ⊥) → ⊥
    go (inl q) ih = true≢false (sym q ∙ e)
    go (inr q) ih = ih q

any-map : {A B : Type 0} (p : B → Bool) (g : A → B) (l : List A) → any p (map g l) ≡ any (λ (x : A). p (g x)) l
unfolding any
any-map p g [] = refl
any-map p g (x ∷ l) = ap (λ (b : Bool). p (g x) || b) (any-map p g l)

-- ---- what refers to the promise v

-- a register or a name of a live call refers to it
abbrev pub holds : State → ℕ → Bool
holds s v = held (is_promise v) s

module _ (v : ℕ) where
  abbrev pub is : Value → Bool
  is = is_promise v

  abbrev pub in_place : Place → Bool
  in_place c = is_promise v c.value

  -- a value that was read stands in the frame
  abbrev pub In : Frame → Value → Type 0
  In f x = is x ≡ true → refers is f ≡ true

  pub register-in : (f : Frame) (r : ℕ) → Gives (In f) (register f r)
  unfolding register at refers Gives
  register-in f r = gives_then _ (at f.registers r) _ (λ c e h. or_left {a = any in_place f.registers} _ (any_at in_place f.registers r c (or-stuck (get_elem? f.registers r) c e) h))

  named_in : (f : Frame) (x : ℕ) → Gives (In f) (named f x)
  unfolding named at refers Gives
  named_in f x = gives_then _ (at f.names x) _ (λ c e h. or_right (any in_place f.registers) (any_at in_place f.names x c (or-stuck (get_elem? f.names x) c e) h))

  full-in : (f : Frame) (x : Value) → In f x → Gives (In f) (full x)
  unfolding full Gives
  full-in f Value.Empty i = tt
  full-in f (Value.Integer z) i = i
  full-in f (Value.Vector w) i = i
  full-in f (Value.Promise p) i = i

  plain-in' : (f : Frame) (x : Value) → In f x → Gives (In f) (no_promise x)
  unfolding no_promise Gives
  plain-in' f Value.Empty i = tt
  plain-in' f (Value.Integer z) i = i
  plain-in' f (Value.Vector w) i = i
  plain-in' f (Value.Promise p) i = tt

  set-in : (f : Frame) (x : Value) → In f x → Gives (In f) (is_set x)
  unfolding is_set Gives
  set-in f Value.Empty i = tt
  set-in f (Value.Integer z) i = i
  set-in f (Value.Vector w) i = i
  set-in f (Value.Promise p) i = tt

  pub value_in : (f : Frame) (r : ℕ) → Gives (In f) (value f r)
  unfolding value
  value_in f r = gives_after _ _ (register f r) _ (register-in f r) (λ x i. full-in f x i)

  plain_in : (f : Frame) (r : ℕ) → Gives (In f) (plain f r)
  unfolding plain
  plain_in f r = gives_after _ _ (register f r) _ (register-in f r) (λ x i. plain-in' f x i)

  name_in : (f : Frame) (x : ℕ) → Gives (In f) (name f x)
  unfolding name
  name_in f x = gives_after _ _ (named f x) _ (named_in f x) (λ y i. set-in f y i)

  pub each_in : (f : Frame) (rs : List ℕ) → Gives (λ (xs : List Value). any is xs ≡ true → refers is f ≡ true) (each (value f) rs)
  unfolding each any Gives
  each_in f [] = λ h. absurd (false≢true h)
  each_in f (r ∷ rs) = gives_after _ _ (value f r) _ (value_in f r) (λ x i. gives_after _ _ (each (value f) rs) _ (each_in f rs) (λ xs j h. go x xs i j (or-either (is x) (any is xs) h)))
    where
      go : (x : Value) (xs : List Value) → In f x → (any is xs ≡ true → refers is f ≡ true) → (is x ≡ true) ⊎ (any is xs ≡ true) → refers is f ≡ true
      go x xs i j (inl e) = i e
      go x xs i j (inr e) = j e

  -- a live frame
  pub live-holds : (s : State) (k : ℕ) (f : Frame) → at (live_frames s) k ≡ got f → refers is f ≡ true → holds s v ≡ true
  unfolding held at
  live-holds s k f e h = any_at (refers is) (live_frames s) k f (or-stuck (get_elem? (live_frames s) k) f e) h

  -- a frame with a register or a name put
  abbrev Puts : Frame → Value → Frame → Type 0
  Puts f x g = refers is g ≡ true → (is x ≡ true) ⊎ (refers is f ≡ true)

  register-puts : (f : Frame) (d : ℕ) (x : Value) → Gives (Puts f x) (with_register f d x)
  unfolding with_register Gives refers
  register-puts f d x = gives_then _ (put f.registers d (place x)) _ (λ rs e h. go rs (put-there f.registers rs d (place x) e).1 (or-either (any in_place rs) (any in_place f.names) h))
    where
      first : (is x ≡ true) ⊎ (any in_place f.registers ≡ true) → (is x ≡ true) ⊎ ((any in_place f.registers || any in_place f.names) ≡ true)
      first (inl q) = inl q
      first (inr q) = inr (or_left (any in_place f.names) q)

      go : (rs : List Place) → set f.registers d (place x) ≡ rs → (any in_place rs ≡ true) ⊎ (any in_place f.names ≡ true) → (is x ≡ true) ⊎ ((any in_place f.registers || any in_place f.names) ≡ true)
      go rs e (inl q) = first (any-set in_place f.registers d (place x) (rw e q))
      go rs e (inr q) = inr (or_right (any in_place f.registers) q)

  name-puts : (f : Frame) (d : ℕ) (x : Value) → Gives (Puts f x) (with_name f d x)
  unfolding with_name Gives refers
  name-puts f d x = gives_then _ (put f.names d (place x)) _ (λ xs e h. go xs (put-there f.names xs d (place x) e).1 (or-either (any in_place f.registers) (any in_place xs) h))
    where
      second : (is x ≡ true) ⊎ (any in_place f.names ≡ true) → (is x ≡ true) ⊎ ((any in_place f.registers || any in_place f.names) ≡ true)
      second (inl q) = inl q
      second (inr q) = inr (or_right (any in_place f.registers) q)

      go : (xs : List Place) → set f.names d (place x) ≡ xs → (any in_place f.registers ≡ true) ⊎ (any in_place xs ≡ true) → (is x ≡ true) ⊎ ((any in_place f.registers || any in_place f.names) ≡ true)
      go xs e (inl q) = inr (or_left (any in_place f.names) q)
      go xs e (inr q) = second (any-set in_place f.names d (place x) (rw e q))

  frame-puts : (t : State) (k : ℕ) (f g : Frame) (x : Value) → at (live_frames t) k ≡ got f → Puts f x g → holds (with_frame t k g) v ≡ true → (is x ≡ true) ⊎ (holds t v ≡ true)
  unfolding held live_frames with_frame with_stack
  frame-puts t k f g x e p h = go (any-take-set (refers is) t.calls t.frames k g h)
    where
      here : (is x ≡ true) ⊎ (refers is f ≡ true) → (is x ≡ true) ⊎ (holds t v ≡ true)
      here (inl q) = inl q
      here (inr q) = inr (live-holds t k f e q)

      go : (refers is g ≡ true) ⊎ (any (refers is) (take t.calls t.frames) ≡ true) → (is x ≡ true) ⊎ (holds t v ≡ true)
      go (inl q) = here (p q)
      go (inr q) = inr q

  -- the new value, or one that was referred to before
  abbrev pub Either : State → Value → State → Type 0
  Either t x u = holds u v ≡ true → (is x ≡ true) ⊎ (holds t v ≡ true)

  pub assign-either : (t : State) (k d : ℕ) (x : Value) → Gives (Either t x) (assign t k d x)
  unfolding assign Gives
  assign-either t k d x = gives_then _ (at (live_frames t) k) _ (λ f e. gives_after _ _ (with_register f d x) _ (register-puts f d x) (λ g p. frame-puts t k f g x e p))

  store-either : (t : State) (k d : ℕ) (x : Value) → Gives (Either t x) (store t k d x)
  unfolding store Gives
  store-either t k d x = gives_then _ (at (live_frames t) k) _ (λ f e. gives_after _ _ (with_name f d x) _ (name-puts f d x) (λ g p. frame-puts t k f g x e p))

  -- a value that is no promise
  pub no-integer : (z : ℤ) (T : Type 0) → is (Value.Integer z) ≡ true → T
  unfolding is_promise
  no-integer z T h = absurd (false≢true h)

  no-vector : (p : ℕ) (T : Type 0) → is (Value.Vector p) ≡ true → T
  unfolding is_promise
  no-vector p T h = absurd (false≢true h)

  no-empty : (T : Type 0) → is Value.Empty ≡ true → T
  unfolding is_promise
  no-empty T h = absurd (false≢true h)

  -- a new frame refers to what its values refer to
  pub new-refers : (T : Type 0) (W : Version) (xs : List Value) → (any is xs ≡ true → T) → refers is (frame_for W xs) ≡ true → T
  unfolding refers frame_for is_promise
  new-refers T W xs j h = go (or-either (any in_place (over (map place xs) (replicate REGISTERS (place Value.Empty)))) (any in_place (replicate NAMES (place Value.Empty))) h)
    where
      first : (any in_place (map place xs) ≡ true) ⊎ (any in_place (replicate REGISTERS (place Value.Empty)) ≡ true) → T
      first (inl q) = j (sym (any-map in_place place xs) ∙ q)
      first (inr q) = absurd (any_none in_place (place Value.Empty) REGISTERS refl q)

      go : (any in_place (over (map place xs) (replicate REGISTERS (place Value.Empty))) ≡ true) ⊎ (any in_place (replicate NAMES (place Value.Empty)) ≡ true) → T
      go (inl q) = first (any-over in_place (map place xs) (replicate REGISTERS (place Value.Empty)) q)
      go (inr q) = absurd (any_none in_place (place Value.Empty) NAMES refl q)

-- ---- states

-- the parts of a state that a frame put leaves
pub record Rests (s t : State) : Type 0 where
  pub promises : t.promises ≡ s.promises
  pub activations : t.activations ≡ s.activations
  pub depth : t.depth ≡ s.depth

frame-rests : (s : State) (k : ℕ) (g : Frame) → Rests s (with_frame s k g)
unfolding with_frame with_stack
frame-rests s k g = record { promises = refl; activations = refl; depth = refl }

pub assign-rests : (s : State) (k d : ℕ) (x : Value) → Gives (Rests s) (assign s k d x)
unfolding assign Gives
assign-rests s k d x = gives_then _ (at (live_frames s) k) _ (λ f e. gives_then _ (with_register f d x) _ (λ g _. frame-rests s k g))

store-rests : (s : State) (k d : ℕ) (x : Value) → Gives (Rests s) (store s k d x)
unfolding store Gives
store-rests s k d x = gives_then _ (at (live_frames s) k) _ (λ f e. gives_then _ (with_name f d x) _ (λ g _. frame-rests s k g))

-- ---- a state that refers to no promise that s does not refer to

-- t has the activations and the promises of s, and refers to none that s does not refer to
pub record Still (s t : State) : Type 0 where
  pub rests : Rests s t
  pub fewer : (v : ℕ) → holds t v ≡ true → holds s v ≡ true

pub still-same : (s : State) → Still s s
still-same s = record { rests = record { promises = refl; activations = refl; depth = refl }; fewer = λ v h. h }

-- for every v
pub gives_all : {A B : Type 0} (Q : B → A → Type 0) (t : Try A) → ((b : B) → Gives (Q b) t) → Gives (λ (a : A). (b : B) → Q b a) t
unfolding Gives
gives_all Q (got a) h = h
gives_all Q stuck h = tt
gives_all Q (stop e) h = tt

pub gives_both : {A : Type 0} (Q R : A → Type 0) (t : Try A) → Gives Q t → Gives R t → Gives (λ (a : A). Q a × R a) t
unfolding Gives
gives_both Q R (got a) h g = (h, g)
gives_both Q R stuck h g = tt
gives_both Q R (stop e) h g = tt

-- the value comes from a place that s refers to
abbrev pub Known : State → Value → Type 0
Known s x = (v : ℕ) → is_promise v x ≡ true → holds s v ≡ true

put-still : (s t u : State) (x : Value) → Still s t → Known s x → Rests t u × ((v : ℕ) → Either v t x u) → Still s u
put-still s t u x h own g = record {
  rests = record { promises = g.0.promises ∙ h.rests.promises; activations = g.0.activations ∙ h.rests.activations; depth = g.0.depth ∙ h.rests.depth };
  fewer = λ v q. go v (g.1 v q);
}
  where
    go : (v : ℕ) → (is_promise v x ≡ true) ⊎ (holds t v ≡ true) → holds s v ≡ true
    go v (inl e) = own v e
    go v (inr e) = h.fewer v e

pub assign-still : (s t : State) (k d : ℕ) (x : Value) → Still s t → Known s x → Gives (Still s) (assign t k d x)
assign-still s t k d x h own = gives-weaken _ _ (assign t k d x) (gives_both _ _ (assign t k d x) (assign-rests t k d x) (gives_all (λ (v : ℕ). Either v t x) (assign t k d x) (λ v. assign-either v t k d x))) (λ u g. put-still s t u x h own g)

store-still : (s t : State) (k d : ℕ) (x : Value) → Still s t → Known s x → Gives (Still s) (store t k d x)
store-still s t k d x h own = gives-weaken _ _ (store t k d x) (gives_both _ _ (store t k d x) (store-rests t k d x) (gives_all (λ (v : ℕ). Either v t x) (store t k d x) (λ v. store-either v t k d x))) (λ u g. put-still s t u x h own g)

vector-still : (s : State) (n : ℕ) (w : Vector) → Still s (with_vector s n w)
unfolding with_vector held live_frames
vector-still s n w = record { rests = record { promises = refl; activations = refl; depth = refl }; fewer = λ v h. h }

empty-still : (s t : State) (b : Bool) (k r : ℕ) → Still s t → Gives (Still s) (empty_if b t k r)
unfolding empty_if Gives
empty-still s t true k r h = assign-still s t k r Value.Empty h (λ v. no-empty v _)
empty-still s t false k r h = h

pub emptied-still : (s t : State) (k : ℕ) (ts rs : List ℕ) → Still s t → Gives (Still s) (emptied t k ts rs)
unfolding emptied Gives
emptied-still s t k [] rs h = h
emptied-still s t k (y ∷ ts) [] h = h
emptied-still s t k (y ∷ ts) (r ∷ rs) h = gives_after _ _ (empty_if (is_owned y) t k r) _ (empty-still s t (is_owned y) k r h) (λ u g. emptied-still s u k ts rs g)

-- ---- instructions

-- none of PROM, FORCE, CALL, DISPATCH
unfoldable pub is_plain : Instr → Bool
is_plain (LIT d i) = true
is_plain (MOVE d a) = true
is_plain (USE d a) = true
is_plain (DUP d a) = true
is_plain (VEC d rs) = true
is_plain (LEN d a) = true
is_plain (GET d a i) = true
is_plain (SET a i e) = true
is_plain (ARITH d op a b) = true
is_plain (SELECT d c a b) = true
is_plain (CAST d a) = true
is_plain (NAMED d x) = true
is_plain (STORE x a) = true
is_plain (PROM d block) = false
is_plain (FORCE d a) = false
is_plain (PEEK d a x) = true
is_plain (POKE a x e) = true
is_plain (SKIP a n) = false
is_plain (CALL d g w rs) = false
is_plain (DISPATCH d g mark ret pairs) = false

module _ (P : Program) (s : State) (k : ℕ) (f : Frame) (W : Version) (live : at (live_frames s) k ≡ got f) where
  pub own : (x : Value) → ((v : ℕ) → In v f x) → Known s x
  own x i v h = live-holds v s k f live (i v h)

  self : Still s s
  self = still-same s

  integer-put : (d : ℕ) (z : ℤ) → Gives (Still s) (assign s k d (Value.Integer z))
  integer-put d z = assign-still s s k d (Value.Integer z) self (λ v. no-integer v z _)

  value-own : (r : ℕ) → Gives (Known s) (value f r)
  value-own r = gives-weaken _ _ (value f r) (gives_all (λ (v : ℕ). In v f) (value f r) (λ v. value_in v f r)) (λ x i. own x i)

  plain-own : (r : ℕ) → Gives (Known s) (plain f r)
  plain-own r = gives-weaken _ _ (plain f r) (gives_all (λ (v : ℕ). In v f) (plain f r) (λ v. plain_in v f r)) (λ x i. own x i)

  name-own : (k' : ℕ) (g : Frame) → at (live_frames s) k' ≡ got g → (x : ℕ) → Gives (Known s) (name g x)
  name-own k' g e x = gives-weaken _ _ (name g x) (gives_all (λ (v : ℕ). In v g) (name g x) (λ v. name_in v g x)) (λ y i v h. live-holds v s k' g e (i v h))

  pub execute-still : (i : Instr) → is_plain i ≡ true → Gives (Still s) (execute P s k f W i)
  unfolding execute_to is_plain Gives with_vector
  execute-still (LIT d i) n = integer-put d i
  execute-still (MOVE d a) n = gives_after _ _ (value f a) _ (value-own a) (λ x i. gives_then _ (kind_in P s x) _ (λ m _. gives_then _ (at W.types d) _ (λ t _. gives-next _ (stuck_unless (within m (kind_of t))) _ (λ _ _. assign-still s s k d x self i))))
  execute-still (USE d a) n = gives_then _ (vector f a) _ (λ w _. gives_after _ _ (assign s k a Value.Empty) _ (assign-still s s k a Value.Empty self (λ v. no-empty v _)) (λ t h. assign-still s t k d (Value.Vector w) h (λ v. no-vector v w _)))
  execute-still (DUP d a) n = gives_then _ (vector f a) _ (λ w _. gives_then _ (at s.vectors w) _ (λ y _. gives_then _ (free_vector s) _ (λ m _. assign-still s (with_vector s m y) k d (Value.Vector m) (vector-still s m y) (λ v. no-vector v m _))))
  execute-still (VEC d rs) n = gives_then _ (each (integer f) rs) _ (λ xs _. gives_then _ (free_vector s) _ (λ m _. assign-still s (with_vector s m (new_vector xs)) k d (Value.Vector m) (vector-still s m (new_vector xs)) (λ v. no-vector v m _)))
  execute-still (LEN d a) n = gives_then _ (vector f a) _ (λ w _. gives_then _ (at s.vectors w) _ (λ y _. integer-put d _))
  execute-still (GET d a i) n = gives_then _ (vector f a) _ (λ w _. gives_then _ (at s.vectors w) _ (λ y _. gives_then _ (integer f i) _ (λ z _. gives_then _ (index z (length (items_of y))) _ (λ j _. integer-put d _))))
  execute-still (SET a i e) n = gives_then _ (vector f a) _ (λ w _. gives_then _ (at s.vectors w) _ (λ y _. gives_then _ (integer f i) _ (λ z _. gives_then _ (integer f e) _ (λ x _. gives-next _ (alone s k a w) _ (λ _ _. gives_then _ (index z (length (items_of y))) _ (λ j _. vector-still s w _))))))
  execute-still (ARITH d op a b) n = gives_then _ (integer f a) _ (λ x _. gives_then _ (integer f b) _ (λ y _. gives_then _ (values.arith op x y) _ (λ z _. integer-put d z)))
  execute-still (SELECT d c a b) n = gives_then _ (integer f c) _ (λ z _. gives_then _ (integer f a) _ (λ x _. gives_then _ (integer f b) _ (λ y _. integer-put d _)))
  execute-still (CAST d a) n = gives_after _ _ (value f a) _ (value-own a) (λ x i. gives_then _ (kind_in P s x) _ (λ m _. gives_then _ (at W.types d) _ (λ t _. gives-next _ (end_unless End.Undef (within m (kind_of t))) _ (λ _ _. assign-still s s k d x self i))))
  execute-still (NAMED d y) n = gives_after _ _ (name f y) _ (name-own k f live y) (λ x i. assign-still s s k d x self i)
  execute-still (STORE y a) n = gives_after _ _ (plain f a) _ (plain-own a) (λ x i. store-still s s k y x self i)
  execute-still (PROM d block) n = absurd (false≢true n)
  execute-still (FORCE d a) n = absurd (false≢true n)
  execute-still (PEEK d a y) n = gives_then _ (promise f a) _ (λ p _. gives_then _ (at s.promises p) _ (λ q _. gives_then _ (at (live_frames s) q.frame) _ (λ g e. gives_after _ _ (name g y) _ (name-own q.frame g e y) (λ x i. assign-still s s k d x self i))))
  execute-still (POKE a y e) n = gives_then _ (promise f a) _ (λ p _. gives_then _ (at s.promises p) _ (λ q _. gives_after _ _ (plain f e) _ (plain-own e) (λ x i. store-still s s q.frame y x self i)))
  execute-still (SKIP a m) n = absurd (false≢true n)
  execute-still (CALL d g w rs) n = absurd (false≢true n)
  execute-still (DISPATCH d g mark ret pairs) n = absurd (false≢true n)
