-- Reading the arguments: whether there are some, and what those that are left make of the arrays so far.
use Rattle.std.specs.Prelude.{None, Some, Option as Optional}
use mathlib.Core.Path.{◌≡◌, refl, sym, ap, ◌∙◌}
use mathlib.Core.List.{List, [], ◌∷◌}
use mathlib.Core.Option.{Option, bind, none, some}
use mathlib.Core.Bool.{Bool, true, false}
use Prim.Native.Nat.{ℕ, suc, ◌+◌, ◌≤◌, ◌<◌}
use native.Mathlib.Nat.{min-eq_right, min-le_left}
use native.Mathlib.Omega.{arith}
use lib.IntN.{ℤ, pos}
use lib.ListN.{length, get_or, take, drop, length-drop, length-take, drop_of_length-le}
use lib.Dec.{leb}
use lib.Seq.{drop-cons, drop-drop, length-take-le, get_or-take}
use borrow.Author.Tests.{leb-true, leb-false}
use Rattle.layout.specs.Records.{◌!◌}
use Rattle.program.specs.Program.{Version, parameter_types}
use Rattle.machine.specs.States.{ITEMS}
use Rattle.machine.specs.Begin.{Given, integer, vector, matched, arguments}
use Rattle.machine.specs.Begin as begins
use Rattle.begin.specs.Arguments.{argument_of, is_given}
use Rattle.begin.specs.Arrays.{bytes_with, integer_bytes, integer_numbers, item_numbers, length_bytes, numbers_with, vector_bytes}
use Rattle.begin.specs.declared.Argument.{Argument}
use Rattle.begin.proofs.Words.{argument-nothing, argument-integer, argument-vector, first-integer, first-vector, matched-same}

-- ---- how many parameters are registers too

module _ (W : Version) {a b : ℕ} (e : a ≡ W.parameters) (f : b ≡ length W.types) where
  pub few-stated : a < b → a ≡ length (parameter_types W)
  few-stated h = e ∙ sym (length-take-le W.parameters W.types (omega (arith, e, f, h)))

  pub many-stated : b ≤ a → b ≡ length (parameter_types W)
  many-stated h = f ∙ sym (length-take W.parameters W.types ∙ min-eq_right (omega (arith, e, f, h)))

-- ---- one argument more

bind-twice : {A B C : Type 0} (o : Option A) (f : A → Option B) (g : B → Option C) → bind o (λ x. bind (f x) g) ≡ bind (bind o f) g
unfolding bind
bind-twice none f g = refl
bind-twice (some x) f g = refl

module _ (ts : List ℕ) (ws : List ℤ) (t : ℕ) where
  -- the one that the words begin with, where it matches
  abbrev head : Option (Given × List ℤ)
  head = bind (begins.first ws) (matched t)

  arguments-cons : arguments (t ∷ ts) ws ≡ bind head (λ q. bind (arguments ts q.1) (λ xs. some (q.0 ∷ xs)))
  unfolding arguments
  arguments-cons = bind-twice (begins.first ws) (matched t) (λ q. bind (arguments ts q.1) (λ xs. some (q.0 ∷ xs)))

  cons-nothing : argument_of head ≡ None → arguments (t ∷ ts) ws ≡ none
  unfolding bind
  cons-nothing e = arguments-cons ∙ rw (argument-nothing head e) refl

  cons-integer : (z : ℤ) → argument_of head ≡ Some (Argument.Integer z) → (2 ≤ length ws) × (arguments (t ∷ ts) ws ≡ bind (arguments ts (drop 2 ws)) (λ xs. some (integer z ∷ xs)))
  unfolding bind
  cons-integer z e =
      let a = argument-integer head z e in
      let f = first-integer ws z a.0 (matched-same t (begins.first ws) (integer z, a.0) a.1) in
      (f.0, arguments-cons ∙ go a.0 f.1 a.1)
    where
      go : (r : List ℤ) → r ≡ drop 2 ws → head ≡ some (integer z, r) → bind head (λ q. bind (arguments ts q.1) (λ xs. some (q.0 ∷ xs))) ≡ bind (arguments ts (drop 2 ws)) (λ xs. some (integer z ∷ xs))
      go r er eh = rw (eh, er) refl

  cons-vector : (n : ℕ) → argument_of head ≡ Some (Argument.Vector n) → (n ≤ ITEMS) × (suc n ≤ length ws) × (arguments (t ∷ ts) ws ≡ bind (arguments ts (drop (suc n) ws)) (λ xs. some (vector (take n (drop 1 ws)) ∷ xs)))
  unfolding bind
  cons-vector n e =
      let a = argument-vector head n e in
      let f = first-vector ws a.0 a.1 n a.3 (matched-same t (begins.first ws) (vector a.0, a.1) a.2) in
      (f.few, f.room, arguments-cons ∙ go a.0 a.1 f.are f.rest a.2)
    where
      go : (ys r : List ℤ) → ys ≡ take n (drop 1 ws) → r ≡ drop (suc n) ws → head ≡ some (vector ys, r) → bind head (λ q. bind (arguments ts q.1) (λ xs. some (q.0 ∷ xs))) ≡ bind (arguments ts (drop (suc n) ws)) (λ xs. some (vector (take n (drop 1 ws)) ∷ xs))
      go ys r ey er eh = rw (eh, ey, er) refl

-- ---- are there arguments from the parameter i and the word p on?

given-cons : (g : Given) (o : Option (List Given)) → is_given (bind o (λ xs. some (g ∷ xs))) ≡ is_given o
unfolding is_given bind
given-cons g none = refl
given-cons g (some xs) = refl

module _ (ts : List ℕ) (ws : List ℤ) (i p : ℕ) where
  abbrev ahead : Bool
  ahead = is_given (arguments (drop i ts) (drop p ws))

  module _ (t : ℕ) (inside : i < length ts) (is : t ≡ get_or ts i 0) where
    types-cons : drop i ts ≡ t ∷ drop (suc i) ts
    types-cons = drop-cons ts i 0 inside ∙ ap (λ (x : ℕ). x ∷ drop (suc i) ts) (sym is)

    -- the argument for the parameter i
    abbrev next : Optional Argument
    next = argument_of (bind (begins.first (drop p ws)) (matched t))

    ahead-nothing : next ≡ None → ahead ≡ false
    unfolding is_given
    ahead-nothing e = rw (types-cons, cons-nothing (drop (suc i) ts) (drop p ws) t e) refl

    ahead-integer : (z : ℤ) → next ≡ Some (Argument.Integer z) → (p + 2 ≤ length ws) × (ahead ≡ is_given (arguments (drop (i + 1) ts) (drop (p + 2) ws)))
    ahead-integer z e =
        let k = cons-integer (drop (suc i) ts) (drop p ws) t z e in
        let a : suc i ≡ i + 1 = omega arith in
        (omega (arith, k.0, length-drop p ws), rw (types-cons, k.1, given-cons (integer z), drop-drop 2 p ws, a) refl)

    ahead-vector : (m : ℕ) → next ≡ Some (Argument.Vector m) → (m ≤ ITEMS) × (p + 1 + m ≤ length ws) × (ahead ≡ is_given (arguments (drop (i + 1) ts) (drop (p + (m + 1)) ws)))
    ahead-vector m e =
        let k = cons-vector (drop (suc i) ts) (drop p ws) t m e in
        let a : suc i ≡ i + 1 = omega arith in
        let d : p + suc m ≡ p + (m + 1) = omega arith in
        (k.0, omega (arith, k.1, length-drop p ws), rw (types-cons, k.2, given-cons (vector (take m (drop 1 (drop p ws)))), drop-drop (suc m) p ws, a, d) refl)

  -- behind the last parameter: is no word left?
  ahead-end : length ts ≤ i → leb (length ws) p ≡ ahead
  unfolding is_given arguments
  ahead-end done = go (leb (length ws) p) refl
    where
      go : (t : Bool) → leb (length ws) p ≡ t → t ≡ is_given (arguments (drop i ts) (drop p ws))
      go true e = rw (drop_of_length-le ts done, drop_of_length-le ws (leb-true _ _ e)) refl
      go false e = rw (drop_of_length-le ts done, drop-cons ws p (pos 0) (leb-false _ _ e)) refl

module _ (W : Version) (ws : List ℤ) where
  -- before the parameter i of n: there are arguments where those that are left are there
  pub record Going (n i p : ℕ) : Type 0 where
    pub many : length (parameter_types W) ≡ n
    pub rest : is_given (arguments (drop i (parameter_types W)) (drop p ws)) ≡ is_given (arguments (parameter_types W) ws)

  pub going-none : {n : ℕ} → n ≡ length (parameter_types W) → Going n 0 0
  going-none e = record { many = sym e; rest = refl }

module _ {W : Version} {ws : List ℤ} {n i p : ℕ} (g : Going W ws n i p) where
  module _ {t : ℕ} (inside : i < n) (et : t ≡ W.types ! i) where
    below : i < length (parameter_types W)
    below = omega (arith, g.many, inside)

    is : t ≡ get_or (parameter_types W) i 0
    is = et ∙ sym (get_or-take W.parameters W.types i 0 (omega (arith, g.many, inside, length-take W.parameters W.types, min-le_left W.parameters (length W.types))))

    pub going-nothing : argument_of (bind (begins.first (drop p ws)) (matched t)) ≡ None → false ≡ is_given (arguments (parameter_types W) ws)
    going-nothing e = sym (ahead-nothing (parameter_types W) ws i p t below is e) ∙ g.rest

    pub going-integer : {z : ℤ} → argument_of (bind (begins.first (drop p ws)) (matched t)) ≡ Some (Argument.Integer z) → (p + 2 ≤ length ws) × Going W ws n (i + 1) (p + 2)
    going-integer {z} e = let a = ahead-integer (parameter_types W) ws i p t below is z e in (a.0, record { many = g.many; rest = sym a.1 ∙ g.rest })

    pub going-vector : {m : ℕ} → argument_of (bind (begins.first (drop p ws)) (matched t)) ≡ Some (Argument.Vector m) → (m ≤ ITEMS) × (p + 1 + m ≤ length ws) × Going W ws n (i + 1) (p + (m + 1))
    going-vector {m} e = let a = ahead-vector (parameter_types W) ws i p t below is m e in (a.0, a.1, record { many = g.many; rest = sym a.2 ∙ g.rest })

  pub going_end : n ≤ i → leb (length ws) p ≡ is_given (arguments (parameter_types W) ws)
  going_end done = ahead-end (parameter_types W) ws i p (omega (arith, g.many, done)) ∙ g.rest

-- ---- the arguments that some words make, one by one

bind-some : {A B : Type 0} (o : Option A) (f : A → Option B) (y : B) → bind o f ≡ some y → (x : A) × (o ≡ some x) × (f x ≡ some y)
unfolding bind
bind-some none f y e = let z : ◌≡◌ {A = ℕ} 0 1 = cc in absurd (omega arith)
bind-some (some x) f y e = (x, refl, e)

-- the first one, and those behind it
first_of : (t : ℕ) (ts : List ℕ) (ws : List ℤ) (xs : List Given) → arguments (t ∷ ts) ws ≡ some xs
    → (q : Given × List ℤ) × (ys : List Given) × (begins.first ws ≡ some q) × (arguments ts q.1 ≡ some ys) × (xs ≡ q.0 ∷ ys)
first_of t ts ws xs e =
    let a = bind-some (bind (begins.first ws) (matched t)) (λ q. bind (arguments ts q.1) (λ xs. some (q.0 ∷ xs))) xs (sym (arguments-cons ts ws t) ∙ e) in
    let b = bind-some (arguments ts a.0.1) (λ xs. some (a.0.0 ∷ xs)) xs a.2 in
    let l : a.0.0 ∷ b.0 ≡ xs = cc in
    (a.0, b.0, matched-same t (begins.first ws) a.0 a.1, b.1, sym l)

next-integer : (ts : List ℕ) (ws : List ℤ) (xs : List Given) (z : ℤ) → arguments ts ws ≡ some xs → argument_of (begins.first ws) ≡ Some (Argument.Integer z)
    → (us : List ℕ) × (ys : List Given) × (arguments us (drop 2 ws) ≡ some ys) × (xs ≡ integer z ∷ ys)
unfolding arguments argument_of begins.first
next-integer [] [] xs z e h = let y : ◌≡◌ {A = ℕ} 0 1 = cc in absurd (omega arith)
next-integer [] (w ∷ ws) xs z e h = let y : ◌≡◌ {A = ℕ} 0 1 = cc in absurd (omega arith)
next-integer (t ∷ ts) ws xs z e h =
    let a = first_of t ts ws xs e in
    let b = argument-integer (begins.first ws) z h in
    let c = first-integer ws z b.0 b.1 in
    let q : a.0 ≡ (integer z, b.0) = cc in
    (ts, a.1, rw (q, c.1) at a.3, a.4 ∙ ap (λ (x : Given × List ℤ). x.0 ∷ a.1) q)

next-vector : (ts : List ℕ) (ws : List ℤ) (xs : List Given) (m : ℕ) → arguments ts ws ≡ some xs → argument_of (begins.first ws) ≡ Some (Argument.Vector m)
    → (us : List ℕ) × (ys : List Given) × (arguments us (drop (suc m) ws) ≡ some ys) × (xs ≡ vector (take m (drop 1 ws)) ∷ ys) × (m ≡ length (take m (drop 1 ws)))
unfolding arguments argument_of begins.first
next-vector [] [] xs m e h = let y : ◌≡◌ {A = ℕ} 0 1 = cc in absurd (omega arith)
next-vector [] (w ∷ ws) xs m e h = let y : ◌≡◌ {A = ℕ} 0 1 = cc in absurd (omega arith)
next-vector (t ∷ ts) ws xs m e h =
    let a = first_of t ts ws xs e in
    let b = argument-vector (begins.first ws) m h in
    let c = first-vector ws b.0 b.1 m b.3 b.2 in
    let q : a.0 ≡ (vector b.0, b.1) = cc in
    (ts, a.1, rw (q, c.rest) at a.3, a.4 ∙ ap (λ (x : Given × List ℤ). x.0 ∷ a.1) q ∙ ap (λ (l : List ℤ). vector l ∷ a.1) c.are, sym b.3 ∙ ap length c.are)

next-nothing : (ts : List ℕ) (ws : List ℤ) (xs : List Given) → arguments ts ws ≡ some xs → argument_of (begins.first ws) ≡ None → ws ≡ []
unfolding arguments argument_of
next-nothing [] [] xs e h = refl
next-nothing [] (w ∷ ws) xs e h = let y : ◌≡◌ {A = ℕ} 0 1 = cc in absurd (omega arith)
next-nothing (t ∷ ts) ws xs e h =
    let a = first_of t ts ws xs e in
    let b = argument-nothing (begins.first ws) h in
    let y : ◌≡◌ {A = ℕ} 0 1 = cc in absurd (omega arith)

no_more : (ts : List ℕ) (xs : List Given) → arguments ts [] ≡ some xs → xs ≡ []
unfolding arguments begins.first bind
no_more [] xs e = let y : xs ≡ [] = cc in y
no_more (t ∷ ts) xs e = let y : ◌≡◌ {A = ℕ} 0 1 = cc in absurd (omega arith)

-- ---- writing them

module _ (ws : List ℤ) where
  -- the arguments from the word p on, in the registers from i on and the vectors from c on, make the arrays B and N of b and n
  pub record Left (p i c : ℕ) (b : List ℕ) (n : List ℤ) (B : List ℕ) (N : List ℤ) : Type 0 where
    pub types : List ℕ
    pub those : List Given
    pub are : arguments types (drop p ws) ≡ some those
    pub bytes : bytes_with those i c b ≡ B
    pub numbers : numbers_with those i c n ≡ N

  -- all arguments, whatever the parameters
  pub record Leaves (p i c : ℕ) (b : List ℕ) (n : List ℤ) (b₀ : List ℕ) (n₀ : List ℤ) : Type 0 where
    pub each : (ts : List ℕ) (xs : List Given) → arguments ts ws ≡ some xs → Left p i c b n (bytes_with xs 0 0 b₀) (numbers_with xs 0 0 n₀)

  pub leaves_all : (b : List ℕ) (n : List ℤ) → Leaves 0 0 0 b n b n
  leaves_all b n = record { each = λ ts xs e. record { types = ts; those = xs; are = e; bytes = refl; numbers = refl } }

module _ {ws : List ℤ} {p i c : ℕ} {b : List ℕ} {n : List ℤ} {b₀ : List ℕ} {n₀ : List ℤ} (g : Leaves ws p i c b n b₀ n₀) where
  -- the words that an argument takes
  pub room-integer : {z : ℤ} → argument_of (begins.first (drop p ws)) ≡ Some (Argument.Integer z) → p + 2 ≤ length ws
  room-integer {z} h =
      let a = argument-integer (begins.first (drop p ws)) z h in
      omega (arith, (first-integer (drop p ws) z a.0 a.1).0, length-drop p ws)

  pub room-vector : {m : ℕ} → argument_of (begins.first (drop p ws)) ≡ Some (Argument.Vector m) → (m ≤ ITEMS) × (p + 1 + m ≤ length ws)
  room-vector {m} h =
      let a = argument-vector (begins.first (drop p ws)) m h in
      let r = first-vector (drop p ws) a.0 a.1 m a.3 a.2 in
      (r.few, omega (arith, r.room, length-drop p ws))

  pub leaves-integer : {z : ℤ} → argument_of (begins.first (drop p ws)) ≡ Some (Argument.Integer z) → {y : ℤ} → y ≡ z → {b' : List ℕ} {n' : List ℤ} → b' ≡ integer_bytes i b → n' ≡ integer_numbers i y n → Leaves ws (p + 2) (i + 1) c b' n' b₀ n₀
  unfolding bytes_with numbers_with
  leaves-integer {z} h q eb en = record {
    each = λ ts xs e.
        let l = g.each ts xs e in
        let a = next-integer l.types (drop p ws) l.those z l.are h in
        let s : suc i ≡ i + 1 = omega arith in
        record { types = a.0; those = a.1; are = rw (drop-drop 2 p ws) at a.2; bytes = rw (eb, ← s) (rw a.3 at l.bytes); numbers = rw (en, q, ← s) (rw a.3 at l.numbers) };
  }

  pub leaves-vector : {m : ℕ} → argument_of (begins.first (drop p ws)) ≡ Some (Argument.Vector m) → {b₁ b₂ : List ℕ} {n₂ : List ℤ} → b₁ ≡ vector_bytes i c b → b₂ ≡ length_bytes c m b₁ → n₂ ≡ item_numbers c (take m (drop (p + 1) ws)) n
      → Leaves ws (p + (m + 1)) (i + 1) (c + 1) b₂ n₂ b₀ n₀
  unfolding bytes_with numbers_with
  leaves-vector {m} h {b₁} {b₂} e₁ e₂ en = record {
    each = λ ts xs e.
        let l = g.each ts xs e in
        let a = next-vector l.types (drop p ws) l.those m l.are h in
        let s : suc i ≡ i + 1 = omega arith in
        let u : suc c ≡ c + 1 = omega arith in
        let d : p + suc m ≡ p + (m + 1) = omega arith in
        let x : b₂ ≡ length_bytes c (length (take m (drop (p + 1) ws))) (vector_bytes i c b) = e₂ ∙ ap (λ (l : ℕ). length_bytes c l b₁) (rw (drop-drop 1 p ws) at a.4) ∙ ap (length_bytes c (length (take m (drop (p + 1) ws)))) e₁ in
        let y = rw (drop-drop 1 p ws) at a.3 in
        record { types = a.0; those = a.1; are = rw (drop-drop (suc m) p ws, d) at a.2; bytes = rw (x, ← s, ← u) (rw y at l.bytes); numbers = rw (en, ← s, ← u) (rw y at l.numbers) };
  }

  pub leaves_nothing : argument_of (begins.first (drop p ws)) ≡ None → p < length ws → (ts : List ℕ) (xs : List Given) → arguments ts ws ≡ some xs → ⊥
  leaves_nothing h k ts xs e =
      let l = g.each ts xs e in
      let a = next-nothing l.types (drop p ws) l.those l.are h in
      let q : length (drop p ws) ≡ 0 = ap length a in
      omega (arith, length-drop p ws, q, k)

  pub leaves_none : length ws ≤ p → (ts : List ℕ) (xs : List Given) → arguments ts ws ≡ some xs → (b ≡ bytes_with xs 0 0 b₀) × (n ≡ numbers_with xs 0 0 n₀)
  unfolding bytes_with numbers_with
  leaves_none k ts xs e =
      let l = g.each ts xs e in
      let a = no_more l.types l.those (rw (drop_of_length-le ws k) at l.are) in
      (rw a at l.bytes, rw a at l.numbers)
