-- Vectors that count: a step adds one at most, and that only by VEC or DUP. For every program and every state.
use mathlib.Core.Path.{◌≡◌, refl, sym, ap, ◌∙◌}
use mathlib.Core.Logic.{◌⊎◌, inl, inr}
use mathlib.Core.List.{List, [], ◌∷◌, map}
use mathlib.Core.Bool.{Bool, true, false, cond, not, false≢true, true≢false, ◌||◌}
use Prim.Native.Nat.{ℕ, zero, suc, ◌+◌, ◌-◌, ◌≤◌, ◌<◌}
use native.Mathlib.Numerals.{add-one}
use native.Mathlib.Omega.{arith}
use lib.ListN.{length, get_elem?, set, take, replicate}
use lib.IntN.{ℤ}
use lib.Dec.{eqb, leb, ltb}
use borrow.Author.Tests.{eqb-true}
use Rattle.layout.specs.Bounds.{REGISTERS, NAMES, INSTRUCTIONS}
use Rattle.layout.specs.Tests.{◌and◌, any}
use Rattle.layout.proofs.Bools.{and_both}
use Rattle.program.specs.Program.{Instr, LIT, MOVE, USE, DUP, VEC, LEN, GET, SET, ARITH, SELECT, CAST, NAMED, STORE, PROM, FORCE, PEEK, POKE, CALL, DISPATCH, SKIP, Version, Program, find_version, parameter_types}
use Rattle.rules.specs.Types.{kind_of, is_owned, within}
use Rattle.rules.proofs.Follows.{or-either, or_left, or_right}
use Rattle.machine.proofs.Within.{makes}
use Rattle.machine.specs.Try.{got, stuck_unless, end_unless, or_stuck, at, put, each}
use Rattle.machine.specs.Values.{RANGE, index, is_zero}
use Rattle.machine.specs.Values as values
use Rattle.machine.specs.States.{ACTIVATIONS, place, items_of, new_vector, over, live_frames, live_activations, register, named, full, no_promise, is_set, value, integer, vector, a_vector, promise, plain, name, kind_in, is_vector, refers, held, vector_counts, free_vector, free_promise, pending, with_stack, with_vector, with_promise, with_end, with_frame, with_register, with_name, an_integer, assign, store}
use Rattle.machine.specs.Calls.{opened, matching, empty_if, emptied, frame_for, enter, picked, force, skipped, closed, done, back, finish}
use Rattle.machine.specs.Steps.{alone, registers_of, execute, execute_to, here}
use Rattle.machine.specs.declared.Activation.{Activation}
use Rattle.machine.specs.declared.Cache.{Cache}
use Rattle.machine.specs.declared.End.{End}
use Rattle.machine.specs.declared.Frame.{Frame}
use Rattle.machine.specs.declared.Opener.{Opener}
use Rattle.machine.specs.declared.Place.{Place}
use Rattle.machine.specs.declared.Promise.{Promise}
use Rattle.machine.specs.declared.State.{State}
use Rattle.machine.specs.declared.Value.{Value}
use Rattle.machine.specs.declared.Vector.{Vector}
use Rattle.machine.proofs.Tries.{or-stuck, put-there}
use Rattle.runs.proofs.Keeps.{Gives, gives_then, gives-next, gives_after, gives-weaken, test-true}
use Rattle.runs.proofs.Lists.{any_at}

-- ---- some of a list passes

any-set : {A : Type 0} (p : A → Bool) (l : List A) (i : ℕ) (x : A) → any p (set l i x) ≡ true → (p x ≡ true) ⊎ (any p l ≡ true)
unfolding any
any-set p [] i x h = inr h
any-set p (y ∷ l) zero x h = go (or-either (p x) (any p l) h)
  where
    go : (p x ≡ true) ⊎ (any p l ≡ true) → (p x ≡ true) ⊎ ((p y || any p l) ≡ true)
    go (inl e) = inl e
    go (inr e) = inr (or_right (p y) e)
any-set p (y ∷ l) (suc i) x h = go (or-either (p y) (any p (set l i x)) h) (any-set p l i x)
  where
    go : (p y ≡ true) ⊎ (any p (set l i x) ≡ true) → (any p (set l i x) ≡ true → (p x ≡ true) ⊎ (any p l ≡ true)) → (p x ≡ true) ⊎ ((p y || any p l) ≡ true)
    go (inl e) ih = inr (or_left (any p l) e)
    go (inr e) ih = later (ih e)
      where
        later : (p x ≡ true) ⊎ (any p l ≡ true) → (p x ≡ true) ⊎ ((p y || any p l) ≡ true)
        later (inl q) = inl q
        later (inr q) = inr (or_right (p y) q)

any-later : {A : Type 0} (p : A → Bool) (y : A) (l m : List A) (T : Type 0) → (any p m ≡ true → T ⊎ (any p l ≡ true)) → any p (y ∷ m) ≡ true → T ⊎ (any p (y ∷ l) ≡ true)
unfolding any
any-later p y l m T f h = go (or-either (p y) (any p m) h)
  where
    later : T ⊎ (any p l ≡ true) → T ⊎ ((p y || any p l) ≡ true)
    later (inl q) = inl q
    later (inr q) = inr (or_right (p y) q)

    go : (p y ≡ true) ⊎ (any p m ≡ true) → T ⊎ ((p y || any p l) ≡ true)
    go (inl e) = inr (or_left (any p l) e)
    go (inr e) = later (f e)

-- of the first n, one of them put
any-take-set : {A : Type 0} (p : A → Bool) (n : ℕ) (l : List A) (i : ℕ) (x : A) → any p (take n (set l i x)) ≡ true → (p x ≡ true) ⊎ (any p (take n l) ≡ true)
unfolding any
any-take-set p zero l i x h = absurd (false≢true h)
any-take-set p (suc n) [] i x h = absurd (false≢true h)
any-take-set p (suc n) (y ∷ l) zero x h = go (or-either (p x) (any p (take n l)) h)
  where
    go : (p x ≡ true) ⊎ (any p (take n l) ≡ true) → (p x ≡ true) ⊎ ((p y || any p (take n l)) ≡ true)
    go (inl e) = inl e
    go (inr e) = inr (or_right (p y) e)
any-take-set p (suc n) (y ∷ l) (suc i) x h = any-later p y (take n l) (take n (set l i x)) (p x ≡ true) (any-take-set p n l i x) h

-- of the first n and one more
any_push : {A : Type 0} (p : A → Bool) (n : ℕ) (l : List A) (x : A) → n < length l → any p (take (suc n) (set l n x)) ≡ true → (p x ≡ true) ⊎ (any p (take n l) ≡ true)
unfolding any
any_push p n [] x k h = absurd (omega arith)
any_push p zero (y ∷ l) x k h = go (or-either (p x) false h)
  where
    go : (p x ≡ true) ⊎ (false ≡ true) → (p x ≡ true) ⊎ (false ≡ true)
    go e = e
any_push p (suc n) (y ∷ l) x k h = any-later p y (take n l) (take (suc n) (set l n x)) (p x ≡ true) (any_push p n l x (omega arith)) h

-- fewer
any-fewer : {A : Type 0} (p : A → Bool) (n m : ℕ) (l : List A) → n ≤ m → any p (take n l) ≡ true → any p (take m l) ≡ true
unfolding any
any-fewer p zero m l k h = absurd (false≢true h)
any-fewer p (suc n) zero l k h = absurd (omega arith)
any-fewer p (suc n) (suc m) [] k h = h
any-fewer p (suc n) (suc m) (y ∷ l) k h = go (or-either (p y) (any p (take n l)) h) (any-fewer p n m l (omega arith))
  where
    go : (p y ≡ true) ⊎ (any p (take n l) ≡ true) → (any p (take n l) ≡ true → any p (take m l) ≡ true) → (p y || any p (take m l)) ≡ true
    go (inl e) ih = or_left (any p (take m l)) e
    go (inr e) ih = or_right (p y) (ih e)

any-over : {A : Type 0} (p : A → Bool) (xs ys : List A) → any p (over xs ys) ≡ true → (any p xs ≡ true) ⊎ (any p ys ≡ true)
unfolding any over
any-over p [] ys h = inr h
any-over p (x ∷ xs) [] h = absurd (false≢true h)
any-over p (x ∷ xs) (y ∷ ys) h = go (or-either (p x) (any p (over xs ys)) h) (any-over p xs ys)
  where
    go : (p x ≡ true) ⊎ (any p (over xs ys) ≡ true) → (any p (over xs ys) ≡ true → (any p xs ≡ true) ⊎ (any p ys ≡ true)) → ((p x || any p xs) ≡ true) ⊎ ((p y || any p ys) ≡ true)
    go (inl e) ih = inl (or_left (any p xs) e)
    go (inr e) ih = later (ih e)
      where
        later : (any p xs ≡ true) ⊎ (any p ys ≡ true) → ((p x || any p xs) ≡ true) ⊎ ((p y || any p ys) ≡ true)
        later (inl q) = inl (or_right (p x) q)
        later (inr q) = inr (or_right (p y) q)

any_none : {A : Type 0} (p : A → Bool) (x : A) (n : ℕ) → p x ≡ false → any p (replicate n x) ≡ true → ⊥
unfolding any
any_none p x zero e h = false≢true h
any_none p x (suc n) e h = go (or-either (p x) (any p (replicate n x)) h) (any_none p x n e)
  where
    go : (p x ≡ true) ⊎ (any p (replicate n x) ≡ true) → (any p (replicate n x) ≡ true → ⊥) → ⊥
    go (inl q) ih = true≢false (sym q ∙ e)
    go (inr q) ih = ih q

any-map : {A B : Type 0} (p : B → Bool) (g : A → B) (l : List A) → any p (map g l) ≡ any (λ (x : A). p (g x)) l
unfolding any
any-map p g [] = refl
any-map p g (x ∷ l) = ap (λ (b : Bool). p (g x) || b) (any-map p g l)

-- a vector written leaves the frames
with-frames : (s : State) (n : ℕ) (w : Vector) → (with_vector s n w).frames ≡ s.frames
unfolding with_vector
with-frames s n w = refl

with-calls : (s : State) (n : ℕ) (w : Vector) → (with_vector s n w).calls ≡ s.calls
unfolding with_vector
with-calls s n w = refl

-- ---- instructions

-- ---- what refers to the vector v

module _ (v : ℕ) where
  abbrev pub is : Value → Bool
  is = is_vector v

  abbrev pub in_place : Place → Bool
  in_place c = is_vector v c.value

  -- a value that was read stands in the frame
  abbrev pub In : Frame → Value → Type 0
  In f x = is x ≡ true → refers is f ≡ true

  register-in : (f : Frame) (r : ℕ) → Gives (In f) (register f r)
  unfolding register at refers Gives
  register-in f r = gives_then _ (at f.registers r) _ (λ c e h. or_left {a = any in_place f.registers} _ (any_at in_place f.registers r c (or-stuck (get_elem? f.registers r) c e) h))

  named_in : (f : Frame) (x : ℕ) → Gives (In f) (named f x)
  unfolding named at refers Gives
  named_in f x = gives_then _ (at f.names x) _ (λ c e h. or_right (any in_place f.registers) (any_at in_place f.names x c (or-stuck (get_elem? f.names x) c e) h))

  full-in : (f : Frame) (x : Value) → In f x → Gives (In f) (full x)
  unfolding full Gives
  full-in f Value.Empty i = tt
  full-in f (Value.Integer z) i = i
  full-in f (Value.Vector w) i = i
  full-in f (Value.Promise p) i = i

  plain-in' : (f : Frame) (x : Value) → In f x → Gives (In f) (no_promise x)
  unfolding no_promise Gives
  plain-in' f Value.Empty i = tt
  plain-in' f (Value.Integer z) i = i
  plain-in' f (Value.Vector w) i = i
  plain-in' f (Value.Promise p) i = tt

  set-in : (f : Frame) (x : Value) → In f x → Gives (In f) (is_set x)
  unfolding is_set Gives
  set-in f Value.Empty i = tt
  set-in f (Value.Integer z) i = i
  set-in f (Value.Vector w) i = i
  set-in f (Value.Promise p) i = tt

  a-vector-in : (f : Frame) (x : Value) → In f x → Gives (λ (w : ℕ). In f (Value.Vector w)) (a_vector x)
  unfolding a_vector Gives
  a-vector-in f Value.Empty i = tt
  a-vector-in f (Value.Integer z) i = tt
  a-vector-in f (Value.Vector w) i = i
  a-vector-in f (Value.Promise p) i = tt

  pub value_in : (f : Frame) (r : ℕ) → Gives (In f) (value f r)
  unfolding value
  value_in f r = gives_after _ _ (register f r) _ (register-in f r) (λ x i. full-in f x i)

  plain_in : (f : Frame) (r : ℕ) → Gives (In f) (plain f r)
  unfolding plain
  plain_in f r = gives_after _ _ (register f r) _ (register-in f r) (λ x i. plain-in' f x i)

  name_in : (f : Frame) (x : ℕ) → Gives (In f) (name f x)
  unfolding name
  name_in f x = gives_after _ _ (named f x) _ (named_in f x) (λ y i. set-in f y i)

  vector-in : (f : Frame) (r : ℕ) → Gives (λ (w : ℕ). In f (Value.Vector w)) (vector f r)
  unfolding vector
  vector-in f r = gives_after _ _ (register f r) _ (register-in f r) (λ x i. a-vector-in f x i)

  each_in : (f : Frame) (rs : List ℕ) → Gives (λ (xs : List Value). any is xs ≡ true → refers is f ≡ true) (each (value f) rs)
  unfolding each any Gives
  each_in f [] = λ h. absurd (false≢true h)
  each_in f (r ∷ rs) = gives_after _ _ (value f r) _ (value_in f r) (λ x i. gives_after _ _ (each (value f) rs) _ (each_in f rs) (λ xs j h. go x xs i j (or-either (is x) (any is xs) h)))
    where
      go : (x : Value) (xs : List Value) → In f x → (any is xs ≡ true → refers is f ≡ true) → (is x ≡ true) ⊎ (any is xs ≡ true) → refers is f ≡ true
      go x xs i j (inl e) = i e
      go x xs i j (inr e) = j e

  -- ---- states

  -- it counts in t only where it counts in s
  abbrev pub Few : State → State → Type 0
  Few s t = vector_counts t v ≡ true → vector_counts s v ≡ true

  -- a live frame
  pub live-counts : (s : State) (k : ℕ) (f : Frame) → at (live_frames s) k ≡ got f → refers is f ≡ true → vector_counts s v ≡ true
  unfolding vector_counts held at
  live-counts s k f e h = any_at (refers is) (live_frames s) k f (or-stuck (get_elem? (live_frames s) k) f e) h

  -- the frames and their count alone decide
  pub same-few : (s t : State) → t.frames ≡ s.frames → t.calls ≡ s.calls → Few s t
  unfolding vector_counts held live_frames
  same-few s t e f h = rw (e, f) at h

  few-frames : (s t : State) (n : ℕ) → t.frames ≡ s.frames → t.calls ≡ n → n ≤ s.calls → Few s t
  unfolding vector_counts held live_frames
  few-frames s t n e f l h = any-fewer (refers is) n s.calls s.frames l (rw (e, f) at h)

  -- a frame with a register or a name put
  abbrev Puts : Frame → Value → Frame → Type 0
  Puts f x g = refers is g ≡ true → (is x ≡ true) ⊎ (refers is f ≡ true)

  register-puts : (f : Frame) (d : ℕ) (x : Value) → Gives (Puts f x) (with_register f d x)
  unfolding with_register Gives refers
  register-puts f d x = gives_then _ (put f.registers d (place x)) _ (λ rs e h. go rs (put-there f.registers rs d (place x) e).1 (or-either (any in_place rs) (any in_place f.names) h))
    where
      first : (is x ≡ true) ⊎ (any in_place f.registers ≡ true) → (is x ≡ true) ⊎ ((any in_place f.registers || any in_place f.names) ≡ true)
      first (inl q) = inl q
      first (inr q) = inr (or_left (any in_place f.names) q)

      go : (rs : List Place) → set f.registers d (place x) ≡ rs → (any in_place rs ≡ true) ⊎ (any in_place f.names ≡ true) → (is x ≡ true) ⊎ ((any in_place f.registers || any in_place f.names) ≡ true)
      go rs e (inl q) = first (any-set in_place f.registers d (place x) (rw e q))
      go rs e (inr q) = inr (or_right (any in_place f.registers) q)

  name-puts : (f : Frame) (d : ℕ) (x : Value) → Gives (Puts f x) (with_name f d x)
  unfolding with_name Gives refers
  name-puts f d x = gives_then _ (put f.names d (place x)) _ (λ xs e h. go xs (put-there f.names xs d (place x) e).1 (or-either (any in_place f.registers) (any in_place xs) h))
    where
      second : (is x ≡ true) ⊎ (any in_place f.names ≡ true) → (is x ≡ true) ⊎ ((any in_place f.registers || any in_place f.names) ≡ true)
      second (inl q) = inl q
      second (inr q) = inr (or_right (any in_place f.registers) q)

      go : (xs : List Place) → set f.names d (place x) ≡ xs → (any in_place f.registers ≡ true) ⊎ (any in_place xs ≡ true) → (is x ≡ true) ⊎ ((any in_place f.registers || any in_place f.names) ≡ true)
      go xs e (inl q) = inr (or_left (any in_place f.names) q)
      go xs e (inr q) = second (any-set in_place f.names d (place x) (rw e q))

  -- put into a live frame of t: it counts then in t, or is the value put
  frame-puts : (t : State) (k : ℕ) (f g : Frame) (x : Value) → at (live_frames t) k ≡ got f → Puts f x g → vector_counts (with_frame t k g) v ≡ true → (is x ≡ true) ⊎ (vector_counts t v ≡ true)
  unfolding vector_counts held live_frames with_frame with_stack
  frame-puts t k f g x e p h = go (any-take-set (refers is) t.calls t.frames k g h)
    where
      here : (is x ≡ true) ⊎ (refers is f ≡ true) → (is x ≡ true) ⊎ (vector_counts t v ≡ true)
      here (inl q) = inl q
      here (inr q) = inr (live-counts t k f e q)

      go : (refers is g ≡ true) ⊎ (any (refers is) (take t.calls t.frames) ≡ true) → (is x ≡ true) ⊎ (vector_counts t v ≡ true)
      go (inl q) = here (p q)
      go (inr q) = inr q

  abbrev Either : State → Value → State → Type 0
  Either t x u = vector_counts u v ≡ true → (is x ≡ true) ⊎ (vector_counts t v ≡ true)

  assign-either : (t : State) (k d : ℕ) (x : Value) → Gives (Either t x) (assign t k d x)
  unfolding assign Gives
  assign-either t k d x = gives_then _ (at (live_frames t) k) _ (λ f e. gives_after _ _ (with_register f d x) _ (register-puts f d x) (λ g p. frame-puts t k f g x e p))

  store-either : (t : State) (k d : ℕ) (x : Value) → Gives (Either t x) (store t k d x)
  unfolding store Gives
  store-either t k d x = gives_then _ (at (live_frames t) k) _ (λ f e. gives_after _ _ (with_name f d x) _ (name-puts f d x) (λ g p. frame-puts t k f g x e p))

  either-few : (s t u : State) (x : Value) → Few s t → (is x ≡ true → vector_counts s v ≡ true) → Either t x u → Few s u
  either-few s t u x few own e h = go (e h)
    where
      go : (is x ≡ true) ⊎ (vector_counts t v ≡ true) → vector_counts s v ≡ true
      go (inl q) = own q
      go (inr q) = few q

  assign-few : (s t : State) (k d : ℕ) (x : Value) → Few s t → (is x ≡ true → vector_counts s v ≡ true) → Gives (Few s) (assign t k d x)
  assign-few s t k d x few own = gives-weaken _ _ (assign t k d x) (assign-either t k d x) (λ u e. either-few s t u x few own e)

  store-few : (s t : State) (k d : ℕ) (x : Value) → Few s t → (is x ≡ true → vector_counts s v ≡ true) → Gives (Few s) (store t k d x)
  store-few s t k d x few own = gives-weaken _ _ (store t k d x) (store-either t k d x) (λ u e. either-few s t u x few own e)

  -- a value that is no vector
  no-integer : (z : ℤ) (T : Type 0) → is (Value.Integer z) ≡ true → T
  unfolding is_vector
  no-integer z T h = absurd (false≢true h)

  no-promise : (p : ℕ) (T : Type 0) → is (Value.Promise p) ≡ true → T
  unfolding is_vector
  no-promise p T h = absurd (false≢true h)

  no-empty : (T : Type 0) → is Value.Empty ≡ true → T
  unfolding is_vector
  no-empty T h = absurd (false≢true h)

  opened-few : (s t : State) (a : Activation) → Few s t → Gives (Few s) (opened t a)
  unfolding opened with_stack Gives
  opened-few s t a few = gives-next _ (end_unless End.Deep (ltb t.depth ACTIVATIONS)) _ (λ _ _ h. few (same-few t _ refl refl h))

  emptied-few : (s t : State) (k : ℕ) (ts rs : List ℕ) → Few s t → Gives (Few s) (emptied t k ts rs)
  unfolding emptied Gives empty_if
  emptied-few s t k [] rs few = few
  emptied-few s t k (y ∷ ts) [] few = few
  emptied-few s t k (y ∷ ts) (r ∷ rs) few = gives_after _ _ (empty_if (is_owned y) t k r) _ (go (is_owned y)) (λ u h. emptied-few s u k ts rs h)
    where
      go : (b : Bool) → Gives (Few s) (empty_if b t k r)
      go true = assign-few s t k r Value.Empty few (no-empty _)
      go false = few

  -- ---- calls

  -- the values of a new frame come from registers of the caller
  new-refers : (f : Frame) (W : Version) (xs : List Value) → (any is xs ≡ true → refers is f ≡ true) → refers is (frame_for W xs) ≡ true → refers is f ≡ true
  unfolding refers frame_for is_vector
  new-refers f W xs j h = go (or-either (any in_place (over (map place xs) (replicate REGISTERS (place Value.Empty)))) (any in_place (replicate NAMES (place Value.Empty))) h)
    where
      first : (any in_place (map place xs) ≡ true) ⊎ (any in_place (replicate REGISTERS (place Value.Empty)) ≡ true) → refers is f ≡ true
      first (inl q) = j (sym (any-map in_place place xs) ∙ q)
      first (inr q) = absurd (any_none in_place (place Value.Empty) REGISTERS refl q)

      go : (any in_place (over (map place xs) (replicate REGISTERS (place Value.Empty))) ≡ true) ⊎ (any in_place (replicate NAMES (place Value.Empty)) ≡ true) → refers is f ≡ true
      go (inl q) = first (any-over in_place (map place xs) (replicate REGISTERS (place Value.Empty)) q)
      go (inr q) = absurd (any_none in_place (place Value.Empty) NAMES refl q)

  pushed-few : (s u : State) (f : Frame) (W : Version) (xs : List Value) (fs : List Frame) (acts : List Activation) (m : ℕ) → Few s u → (refers is (frame_for W xs) ≡ true → vector_counts s v ≡ true) → u.calls < length u.frames → set u.frames u.calls (frame_for W xs) ≡ fs
      → Few s (with_stack u fs (u.calls + 1) acts m)
  unfolding vector_counts held live_frames with_stack
  pushed-few s u f W xs fs acts m few own l e h =
      let n : u.calls + 1 ≡ suc u.calls = add-one u.calls in
      go (any_push (refers is) u.calls u.frames (frame_for W xs) l (rw (sym e, n) at h))
    where
      go : (refers is (frame_for W xs) ≡ true) ⊎ (any (refers is) (take u.calls u.frames) ≡ true) → any (refers is) (take s.calls s.frames) ≡ true
      go (inl q) = own q
      go (inr q) = few q

  enter-few : (s : State) (k d : ℕ) (W : Version) (rs : List ℕ) (xs : List Value) → (refers is (frame_for W xs) ≡ true → vector_counts s v ≡ true) → Gives (Few s) (enter s k d W rs xs)
  unfolding enter Gives
  enter-few s k d W rs xs own =
      gives_after _ _ (opened s _) _ (opened-few s s _ (λ h. h)) (λ t few. gives_after _ _ (emptied t k (parameter_types W) rs) _ (emptied-few s t k (parameter_types W) rs few) (λ u few'.
      gives_then _ (put u.frames u.calls (frame_for W xs)) _ (λ fs e. let q = put-there u.frames fs u.calls (frame_for W xs) e in pushed-few s u (frame_for W xs) W xs fs u.activations u.depth few' own q.0 q.1)))

  force-few : (s : State) (k d p : ℕ) (q : Promise) (c : Cache) → Gives (Few s) (force s k d p q c)
  unfolding force
  force-few s k d p q (Cache.Forced z) = assign-few s s k d (Value.Integer z) (λ h. h) (no-integer z _)
  force-few s k d p q Cache.Unforced = gives-next _ (end_unless End.Undef (not (pending s p))) _ (λ _ _. opened-few s s _ (λ h. h))

  -- a skip moves the activation on top
  skip-few : (s : State) (n : ℕ) (b : Bool) → Gives (Few s) (cond b (skipped s n) (got s))
  unfolding skipped with_stack Gives
  skip-few s n true = gives_then _ (at (live_activations s) (s.depth - 1)) _ (λ a _. gives-next _ (stuck_unless (leb (a.next + n) INSTRUCTIONS)) _ (λ _ _. same-few s _ refl refl))
  skip-few s n false = λ h. h

  -- ---- instructions

  module _ (P : Program) (s : State) (k : ℕ) (f : Frame) (W : Version) (live : at (live_frames s) k ≡ got f) where
    own : (x : Value) → In f x → is x ≡ true → vector_counts s v ≡ true
    own x i h = live-counts s k f live (i h)

    self : Few s s
    self h = h

    pub execute-few : (i : Instr) → makes i ≡ false → Gives (Few s) (execute P s k f W i)
    unfolding execute_to makes Gives with_vector with_promise
    execute-few (LIT d i) n = assign-few s s k d _ self (no-integer i _)
    execute-few (MOVE d a) n = gives_after _ _ (value f a) _ (value_in f a) (λ x i. gives_then _ (kind_in P s x) _ (λ m _. gives_then _ (at W.types d) _ (λ t _. gives-next _ (stuck_unless (within m (kind_of t))) _ (λ _ _. assign-few s s k d x self (own x i)))))
    execute-few (USE d a) n = gives_after _ _ (vector f a) _ (vector-in f a) (λ w i. gives_after _ _ (assign s k a Value.Empty) _ (assign-few s s k a Value.Empty self (no-empty _)) (λ t h. assign-few s t k d (Value.Vector w) h (own (Value.Vector w) i)))
    execute-few (DUP d a) n = absurd (true≢false n)
    execute-few (VEC d rs) n = absurd (true≢false n)
    execute-few (LEN d a) n = gives_then _ (vector f a) _ (λ w _. gives_then _ (at s.vectors w) _ (λ y _. assign-few s s k d _ self (no-integer _ _)))
    execute-few (GET d a i) n = gives_then _ (vector f a) _ (λ w _. gives_then _ (at s.vectors w) _ (λ y _. gives_then _ (integer f i) _ (λ z _. gives_then _ (index z (length (items_of y))) _ (λ j _. assign-few s s k d _ self (no-integer _ _)))))
    execute-few (SET a i e) n = gives_then _ (vector f a) _ (λ w _. gives_then _ (at s.vectors w) _ (λ y _. gives_then _ (integer f i) _ (λ z _. gives_then _ (integer f e) _ (λ x _. gives-next _ (alone s k a w) _ (λ _ _. gives_then _ (index z (length (items_of y))) _ (λ j _. same-few s _ refl refl))))))
    execute-few (ARITH d op a b) n = gives_then _ (integer f a) _ (λ x _. gives_then _ (integer f b) _ (λ y _. gives_then _ (values.arith_to RANGE op x y) _ (λ z _. assign-few s s k d _ self (no-integer _ _))))
    execute-few (SELECT d c a b) n = gives_then _ (integer f c) _ (λ z _. gives_then _ (integer f a) _ (λ x _. gives_then _ (integer f b) _ (λ y _. assign-few s s k d _ self (no-integer _ _))))
    execute-few (CAST d a) n = gives_after _ _ (value f a) _ (value_in f a) (λ x i. gives_then _ (kind_in P s x) _ (λ m _. gives_then _ (at W.types d) _ (λ t _. gives-next _ (end_unless End.Undef (within m (kind_of t))) _ (λ _ _. assign-few s s k d x self (own x i)))))
    execute-few (NAMED d y) n = gives_after _ _ (name f y) _ (name_in f y) (λ x i. assign-few s s k d x self (own x i))
    execute-few (STORE y a) n = gives_after _ _ (plain f a) _ (plain_in f a) (λ x i. store-few s s k y x self (own x i))
    execute-few (PROM d block) n = gives-next _ (at W.blocks block) _ (λ _ _. gives_then _ (free_promise s) _ (λ m _. assign-few s _ k d (Value.Promise m) (same-few s _ refl refl) (no-promise m _)))
    execute-few (FORCE d a) n = gives_then _ (promise f a) _ (λ p _. gives_then _ (at s.promises p) _ (λ q _. force-few s k d p q q.cache))
    execute-few (PEEK d a y) n = gives_then _ (promise f a) _ (λ p _. gives_then _ (at s.promises p) _ (λ q _. gives_then _ (at (live_frames s) q.frame) _ (λ g e. gives_after _ _ (name g y) _ (name_in g y) (λ x i. assign-few s s k d x self (λ h. live-counts s q.frame g e (i h))))))
    execute-few (POKE a y e) n = gives_then _ (promise f a) _ (λ p _. gives_then _ (at s.promises p) _ (λ q _. gives_after _ _ (plain f e) _ (plain_in f e) (λ x i. store-few s s q.frame y x self (own x i))))
    execute-few (CALL d g w rs) n = gives_then _ (or_stuck (find_version P g w)) _ (λ X _. gives_after _ _ (each (value f) rs) _ (each_in f rs) (λ xs j. gives_then _ (each (kind_in P s) xs) _ (λ ks _. gives-next _ (stuck_unless (matching ks (parameter_types X))) _ (λ _ _. enter-few s k d X rs xs (λ h. live-counts s k f live (new-refers f X xs j h))))))
    execute-few (DISPATCH d g mark ret pairs) n = gives_after _ _ (each (value f) (registers_of pairs)) _ (each_in f (registers_of pairs)) (λ xs j. gives_then _ (each (kind_in P s) xs) _ (λ ks _. gives_then _ (picked P W.level g mark ret pairs ks) _ (λ X _. enter-few s k d X (registers_of pairs) xs (λ h. live-counts s k f live (new-refers f X xs j h)))))
    execute-few (SKIP a m) n = gives_then _ (integer f a) _ (λ z _. skip-few s m (is_zero z))

    -- the new place, or one that counted before
    pub make-few : (i : Instr) → makes i ≡ true → Gives (λ (t : State). (n : ℕ) × (free_vector s ≡ got n) × (vector_counts t v ≡ true → (is (Value.Vector n) ≡ true) ⊎ (vector_counts s v ≡ true))) (execute P s k f W i)
    unfolding execute_to makes Gives
    make-few (LIT d i) n = absurd (false≢true n)
    make-few (MOVE d a) n = absurd (false≢true n)
    make-few (USE d a) n = absurd (false≢true n)
    make-few (DUP d a) n = gives_then _ (vector f a) _ (λ w _. gives_then _ (at s.vectors w) _ (λ y _. gives_then _ (free_vector s) _ (λ m e. gives-weaken _ _ (assign (with_vector s m y) k d (Value.Vector m)) (assign-either (with_vector s m y) k d (Value.Vector m)) (λ u h. (m, e, λ q. made m y (h q))))))
      where
        made : (m : ℕ) (y : Vector) → (is (Value.Vector m) ≡ true) ⊎ (vector_counts (with_vector s m y) v ≡ true) → (is (Value.Vector m) ≡ true) ⊎ (vector_counts s v ≡ true)
        made m y (inl q) = inl q
        made m y (inr q) = inr (same-few s (with_vector s m y) (with-frames s m y) (with-calls s m y) q)
    make-few (VEC d rs) n = gives_then _ (each (integer f) rs) _ (λ xs _. gives_then _ (free_vector s) _ (λ m e. gives-weaken _ _ (assign (with_vector s m (new_vector xs)) k d (Value.Vector m)) (assign-either (with_vector s m (new_vector xs)) k d (Value.Vector m)) (λ u h. (m, e, λ q. made m (new_vector xs) (h q)))))
      where
        made : (m : ℕ) (y : Vector) → (is (Value.Vector m) ≡ true) ⊎ (vector_counts (with_vector s m y) v ≡ true) → (is (Value.Vector m) ≡ true) ⊎ (vector_counts s v ≡ true)
        made m y (inl q) = inl q
        made m y (inr q) = inr (same-few s (with_vector s m y) (with-frames s m y) (with-calls s m y) q)
    make-few (LEN d a) n = absurd (false≢true n)
    make-few (GET d a i) n = absurd (false≢true n)
    make-few (SET a i e) n = absurd (false≢true n)
    make-few (ARITH d op a b) n = absurd (false≢true n)
    make-few (SELECT d c a b) n = absurd (false≢true n)
    make-few (CAST d a) n = absurd (false≢true n)
    make-few (NAMED d y) n = absurd (false≢true n)
    make-few (STORE y a) n = absurd (false≢true n)
    make-few (PROM d block) n = absurd (false≢true n)
    make-few (FORCE d a) n = absurd (false≢true n)
    make-few (PEEK d a y) n = absurd (false≢true n)
    make-few (POKE a y e) n = absurd (false≢true n)
    make-few (CALL d g w rs) n = absurd (false≢true n)
    make-few (DISPATCH d g mark ret pairs) n = absurd (false≢true n)
    make-few (SKIP a m) n = absurd (false≢true n)

  -- ---- block ends

  -- a run that is DONE has no live call
  done-few : (s : State) (x : Value) → Gives (Few s) (done s x)
  unfolding done Gives closed with_end with_stack
  done-few s Value.Empty = tt
  done-few s (Value.Integer z) = few-frames s _ 0 refl refl (omega arith)
  done-few s (Value.Vector w) = gives_then _ (at s.vectors w) _ (λ y _. few-frames s _ 0 refl refl (omega arith))
  done-few s (Value.Promise p) = tt

  -- a result that counts goes to the activation below, and n calls are left
  back-few : (s t : State) (n d : ℕ) (x : Value) → t.frames ≡ s.frames → n ≤ s.calls → (is x ≡ true → vector_counts s v ≡ true) → Gives (Few s) (back t n d x)
  unfolding back with_stack
  back-few s t n d x e l own = gives-next _ (stuck_unless (ltb 1 t.depth)) _ (λ _ _. gives_then _ (at t.activations (t.depth - 2)) _ (λ b _. assign-few s _ b.frame d x (few-frames s _ n e refl l) own))

  pub finish-few : (P : Program) (s : State) (a : Activation) (W : Version) (x : Value) (o : Opener) → (is x ≡ true → vector_counts s v ≡ true) → Gives (Few s) (finish P s a W x o)
  unfolding finish with_promise
  finish-few P s a W x Opener.Call own = gives_then _ (kind_in P s x) _ (λ m _. gives-next _ (stuck_unless (within m (kind_of W.return))) _ (λ _ _. gives-next _ (stuck_unless (eqb a.block 0 and eqb (a.frame + 1) s.calls)) _ (λ y e. go (eqb s.depth 1) (eqb-true (a.frame + 1) s.calls (and_both _ _ (test-true (eqb a.block 0 and eqb (a.frame + 1) s.calls) y e)).1))))
    where
      go : (b : Bool) → a.frame + 1 ≡ s.calls → Gives (Few s) (elim b [ true ↦ done s x | false ↦ back s a.frame a.d x ])
      go true e = done-few s x
      go false e = back-few s s a.frame a.d x refl (omega arith) own
  finish-few P s a W x (Opener.Force p) own = gives_then _ (an_integer x) _ (λ z _. gives_then _ (at s.promises p) _ (λ q _. back-few s _ s.calls a.d x refl (omega arith) own))
