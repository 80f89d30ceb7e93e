-- Types and kinds: what "within" and ownerships say, and what a value of a type is.
use mathlib.Core.Path.{◌≡◌, refl, sym, ◌∙◌}
use mathlib.Core.Logic.{◌⊎◌, inl, inr}
use mathlib.Core.List.{List}
use mathlib.Core.Bool.{Bool, true, false, ◌&&◌, ◌||◌, true≢false, false≢true}
use Prim.Native.Nat.{ℕ, ◌+◌, ◌<◌}
use native.Mathlib.Omega.{arith}
use lib.IntN.{ℤ}
use lib.Dec.{eqb}
use borrow.Author.Tests.{eqb-true, eq-eqb, lt-ltb, le-ltb}
use Rattle.layout.specs.Bounds.{REGISTERS}
use Rattle.layout.proofs.Bools.{and_both}
use Rattle.program.specs.Program.{Version, Program}
use Rattle.rules.specs.Types.{kind_of, ownership_of, is_shared, is_owned, is_borrowed, is_integer, is_vector, is_promise, within}
use Rattle.rules.specs.Fits.{type_of, promise_kind, owned, plain, fresh}
use Rattle.rules.proofs.Follows.{or-either}
use Rattle.machine.specs.States.{VECTORS, PROMISES}
use Rattle.machine.specs.declared.Frame.{Frame}
use Rattle.machine.specs.declared.Promise.{Promise}
use Rattle.machine.specs.declared.Value.{Value}
use Rattle.soundness.proofs.Invariant.{cell_type, is_full, kind_at, promise_at, PromiseFits, Fits}

pub clash : {A : Type 0} {b : Bool} → b ≡ true → b ≡ false → A
clash p q = absurd (true≢false (sym p ∙ q))

pub eqb_same : (n : ℕ) → eqb n n ≡ true
eqb_same n = eq-eqb n n refl

-- ---- within, by its cases

pub data In (a b : ℕ) : Type 0 where
  itself : a ≡ b → In a b
  any : b ≡ 0 → In a b
  value : (a ≡ 2) ⊎ (a ≡ 3) → b ≡ 1 → In a b
  promise : a ≡ 4 → b ≡ 5 → In a b

pub both : (a b : Bool) → (a && b) ≡ true → (a ≡ true) × (b ≡ true)
both true b h = (refl, h)
both false b h = absurd (false≢true h)

pub within_in : (a b : ℕ) → within a b ≡ true → In a b
unfolding within
within_in a b h = first (or-either (eqb a b || eqb b 0 || ((eqb a 2 || eqb a 3) && eqb b 1)) (eqb a 4 && eqb b 5) h)
  where
    fourth : (eqb a 2 ≡ true) ⊎ (eqb a 3 ≡ true) → (a ≡ 2) ⊎ (a ≡ 3)
    fourth (inl e) = inl (eqb-true a 2 e)
    fourth (inr e) = inr (eqb-true a 3 e)

    third : (eqb a b ≡ true) ⊎ (eqb b 0 ≡ true) → In a b
    third (inl e) = itself (eqb-true a b e)
    third (inr e) = any (eqb-true b 0 e)

    second : ((eqb a b || eqb b 0) ≡ true) ⊎ (((eqb a 2 || eqb a 3) && eqb b 1) ≡ true) → In a b
    second (inl e) = third (or-either (eqb a b) (eqb b 0) e)
    second (inr e) = let p = both (eqb a 2 || eqb a 3) (eqb b 1) e in value (fourth (or-either (eqb a 2) (eqb a 3) p.0)) (eqb-true b 1 p.1)

    first : ((eqb a b || eqb b 0 || ((eqb a 2 || eqb a 3) && eqb b 1)) ≡ true) ⊎ ((eqb a 4 && eqb b 5) ≡ true) → In a b
    first (inl e) = second (or-either (eqb a b || eqb b 0) ((eqb a 2 || eqb a 3) && eqb b 1) e)
    first (inr e) = let p = both (eqb a 4) (eqb b 5) e in promise (eqb-true a 4 p.0) (eqb-true b 5 p.1)

pub within_same : (a : ℕ) → within a a ≡ true
unfolding within
within_same a = rw (eqb_same a) refl

pub in_within : (a b : ℕ) → In a b → within a b ≡ true
unfolding within
in_within a b (itself e) = rw (e, eqb_same b) refl
in_within a b (any e) = rw e (go (eqb a 0) (eqb a 2 || eqb a 3) (eqb a 4))
  where
    go : (c d f : Bool) → (c || true || (d && false) || (f && false)) ≡ true
    go true d f = refl
    go false d f = refl
in_within a b (value (inl e) g) = rw (e, g) refl
in_within a b (value (inr e) g) = rw (e, g) refl
in_within a b (promise e g) = rw (e, g) refl

pub within-trans : (a b c : ℕ) → within a b ≡ true → within b c ≡ true → within a c ≡ true
within-trans a b c p q = second (within_in a b p) (within_in b c q)
  where
    second : In a b → In b c → within a c ≡ true
    second x (itself e) = rw (← e) p
    second x (any e) = in_within a c (any e)
    second x (value g h) = third x g h
      where
        third : In a b → (b ≡ 2) ⊎ (b ≡ 3) → c ≡ 1 → within a c ≡ true
        third (itself e) g h = rw e q
        third (any e) (inl g) h = absurd (omega arith)
        third (any e) (inr g) h = absurd (omega arith)
        third (value e i) (inl g) h = absurd (omega arith)
        third (value e i) (inr g) h = absurd (omega arith)
        third (promise e i) (inl g) h = absurd (omega arith)
        third (promise e i) (inr g) h = absurd (omega arith)
    second x (promise g h) = third x
      where
        third : In a b → within a c ≡ true
        third (itself e) = rw e q
        third (any e) = absurd (omega arith)
        third (value e i) = absurd (omega arith)
        third (promise e i) = absurd (omega arith)

-- no promise is within value, integer or vector
pub no-promise : (m b : ℕ) → (b ≡ 1) ⊎ (b ≡ 2) ⊎ (b ≡ 3) → within (promise_kind m) b ≡ true → ⊥
no-promise m b h p = go h (within_in (promise_kind m) b p)
  where
    go : (b ≡ 1) ⊎ (b ≡ 2) ⊎ (b ≡ 3) → In (promise_kind m) b → ⊥
    go (inl e) (itself g) = omega arith
    go (inl e) (any g) = omega arith
    go (inl e) (value (inl g) i) = omega arith
    go (inl e) (value (inr g) i) = omega arith
    go (inl e) (promise g i) = omega arith
    go (inr (inl e)) (itself g) = omega arith
    go (inr (inl e)) (any g) = omega arith
    go (inr (inl e)) (value g i) = omega arith
    go (inr (inl e)) (promise g i) = omega arith
    go (inr (inr e)) (itself g) = omega arith
    go (inr (inr e)) (any g) = omega arith
    go (inr (inr e)) (value g i) = omega arith
    go (inr (inr e)) (promise g i) = omega arith

-- an integer and a vector are not of kinds 3 and 2, and neither is of a promise's kind
pub not_within : (a b : ℕ) → (a ≡ 2) ⊎ (a ≡ 3) → (b ≡ 2) ⊎ (b ≡ 3) ⊎ (b ≡ 4) ⊎ (b ≡ 5) → within a b ≡ true → a ≡ b
not_within a b h g p = go h g (within_in a b p)
  where
    go : (a ≡ 2) ⊎ (a ≡ 3) → (b ≡ 2) ⊎ (b ≡ 3) ⊎ (b ≡ 4) ⊎ (b ≡ 5) → In a b → a ≡ b
    go h g (itself e) = e
    go h (inl g) (any e) = absurd (omega arith)
    go h (inr (inl g)) (any e) = absurd (omega arith)
    go h (inr (inr (inl g))) (any e) = absurd (omega arith)
    go h (inr (inr (inr g))) (any e) = absurd (omega arith)
    go h (inl g) (value e i) = absurd (omega arith)
    go h (inr (inl g)) (value e i) = absurd (omega arith)
    go h (inr (inr (inl g))) (value e i) = absurd (omega arith)
    go h (inr (inr (inr g))) (value e i) = absurd (omega arith)
    go (inl h) g (promise e i) = absurd (omega arith)
    go (inr h) g (promise e i) = absurd (omega arith)

-- ---- type bytes

pub integer-kind : (t : ℕ) → is_integer t ≡ true → kind_of t ≡ 2
unfolding is_integer
integer-kind t h = eqb-true (kind_of t) 2 h

pub vector-kind : (t : ℕ) → is_vector t ≡ true → kind_of t ≡ 3
unfolding is_vector
vector-kind t h = eqb-true (kind_of t) 3 h

pub promise-kind : (t : ℕ) → is_promise t ≡ true → (kind_of t ≡ 4) ⊎ (kind_of t ≡ 5)
unfolding is_promise
promise-kind t h = go (or-either (eqb (kind_of t) 4) (eqb (kind_of t) 5) h)
  where
    go : (eqb (kind_of t) 4 ≡ true) ⊎ (eqb (kind_of t) 5 ≡ true) → (kind_of t ≡ 4) ⊎ (kind_of t ≡ 5)
    go (inl e) = inl (eqb-true (kind_of t) 4 e)
    go (inr e) = inr (eqb-true (kind_of t) 5 e)

differ : (n a b : ℕ) → (a ≡ b → ⊥) → eqb n a ≡ true → eqb n b ≡ false
differ n a b h e = go (eqb n b) refl
  where
    go : (c : Bool) → eqb n b ≡ c → eqb n b ≡ false
    go true g = absurd (h (sym (eqb-true n a e) ∙ eqb-true n b g))
    go false g = g

pub shared-owned : (t : ℕ) → is_shared t ≡ true → is_owned t ≡ false
unfolding is_shared is_owned
shared-owned t h = differ (ownership_of t) 0 1 (λ e. omega arith) h

pub shared-borrowed : (t : ℕ) → is_shared t ≡ true → is_borrowed t ≡ false
unfolding is_shared is_borrowed
shared-borrowed t h = differ (ownership_of t) 0 2 (λ e. omega arith) h

-- ---- cells

pub register-type : (v : Version) (r : ℕ) → r < REGISTERS → cell_type v r ≡ type_of v r
unfolding cell_type
register-type v r h = rw (lt-ltb r REGISTERS h) refl

pub name-type : (v : Version) (x : ℕ) → cell_type v (REGISTERS + x) ≡ 1
unfolding cell_type
name-type v x = rw (le-ltb (REGISTERS + x) REGISTERS (omega arith)) refl

pub name-shared : is_shared 1 ≡ true
unfolding is_shared ownership_of
name-shared = refl

pub name-kind : kind_of 1 ≡ 1
unfolding kind_of
name-kind = refl

pub force-kind : kind_of 2 ≡ 2
unfolding kind_of
force-kind = refl

pub force-owned : is_owned 2 ≡ false
unfolding is_owned ownership_of
force-owned = refl

-- ---- results

pub plain_shared : (v : Version) (d k : ℕ) → plain v d k ≡ true → is_shared (type_of v d) ≡ true
plain_shared v d k h = (and_both _ _ h).0

pub plain-kind : (v : Version) (d k : ℕ) → plain v d k ≡ true → within k (kind_of (type_of v d)) ≡ true
plain-kind v d k h = (and_both _ _ h).1

pub owned-kind : (v : Version) (d : ℕ) → owned v d ≡ true → kind_of (type_of v d) ≡ 3
owned-kind v d h = vector-kind (type_of v d) (and_both _ _ h).0

pub owned-owned : (v : Version) (d : ℕ) → owned v d ≡ true → is_owned (type_of v d) ≡ true
owned-owned v d h = (and_both _ _ h).1

pub fresh-kind : (v : Version) (d : ℕ) → fresh v d ≡ true → within 3 (kind_of (type_of v d)) ≡ true
unfolding fresh
fresh-kind v d h = go (or-either (owned v d) (plain v d 3) h)
  where
    go : (owned v d ≡ true) ⊎ (plain v d 3 ≡ true) → within 3 (kind_of (type_of v d)) ≡ true
    go (inl e) = rw (owned-kind v d e) (within_same 3)
    go (inr e) = plain-kind v d 3 e

-- ---- values of a type

module _ (P : Program) (K : ℕ → ℕ → Bool) (fs : List Frame) (ps : List Promise) (k : ℕ) where
  pub fits-within : (t u : ℕ) → within (kind_of t) (kind_of u) ≡ true → (x : Value) → Fits P K fs ps k t x → Fits P K fs ps k u x
  unfolding Fits
  fits-within t u w Value.Empty f = tt
  fits-within t u w (Value.Integer z) f = within-trans 2 (kind_of t) (kind_of u) f w
  fits-within t u w (Value.Vector i) f = (within-trans 3 (kind_of t) (kind_of u) f.0 w, f.1)
  fits-within t u w (Value.Promise p) f = (f.0, record { kind = within-trans (kind_at P fs (promise_at ps p)) (kind_of t) (kind_of u) f.1.kind w; older = f.1.older; alive = f.1.alive })

  pub an-integer : (t : ℕ) (x : Value) → kind_of t ≡ 2 → is_full x ≡ true → Fits P K fs ps k t x → (z : ℤ) × (x ≡ Value.Integer z)
  unfolding Fits is_full kind_at
  an-integer t Value.Empty e h f = absurd (false≢true h)
  an-integer t (Value.Integer z) e h f = (z, refl)
  an-integer t (Value.Vector i) e h f = absurd (omega (arith, not_within 3 (kind_of t) (inr refl) (inl e) f.0))
  an-integer t (Value.Promise p) e h f = absurd (no-promise _ (kind_of t) (inr (inl e)) f.1.kind)

  pub a-vector : (t : ℕ) (x : Value) → kind_of t ≡ 3 → is_full x ≡ true → Fits P K fs ps k t x → (i : ℕ) × (x ≡ Value.Vector i) × (i < VECTORS)
  unfolding Fits is_full kind_at
  a-vector t Value.Empty e h f = absurd (false≢true h)
  a-vector t (Value.Integer z) e h f = absurd (omega (arith, not_within 2 (kind_of t) (inl refl) (inr (inl e)) f))
  a-vector t (Value.Vector i) e h f = (i, refl, f.1)
  a-vector t (Value.Promise p) e h f = absurd (no-promise _ (kind_of t) (inr (inr e)) f.1.kind)

  pub a-promise : (t : ℕ) (x : Value) → (kind_of t ≡ 4) ⊎ (kind_of t ≡ 5) → is_full x ≡ true → Fits P K fs ps k t x → (p : ℕ) × (x ≡ Value.Promise p) × (p < PROMISES) × PromiseFits P K fs (promise_at ps p) k t
  unfolding Fits is_full
  a-promise t Value.Empty e h f = absurd (false≢true h)
  a-promise t (Value.Integer z) (inl e) h f = absurd (omega (arith, not_within 2 (kind_of t) (inl refl) (inr (inr (inl e))) f))
  a-promise t (Value.Integer z) (inr e) h f = absurd (omega (arith, not_within 2 (kind_of t) (inl refl) (inr (inr (inr e))) f))
  a-promise t (Value.Vector i) (inl e) h f = absurd (omega (arith, not_within 3 (kind_of t) (inr refl) (inr (inr (inl e))) f.0))
  a-promise t (Value.Vector i) (inr e) h f = absurd (omega (arith, not_within 3 (kind_of t) (inr refl) (inr (inr (inr e))) f.0))
  a-promise t (Value.Promise p) e h f = (p, refl, f.0, f.1)

  -- a value that is no promise
  pub fits-promise : (t p : ℕ) → (kind_of t ≡ 1) ⊎ (kind_of t ≡ 2) ⊎ (kind_of t ≡ 3) → Fits P K fs ps k t (Value.Promise p) → ⊥
  unfolding Fits kind_at
  fits-promise t p e f = no-promise _ (kind_of t) e f.1.kind

-- what is no promise is at home in any frame
pub fits-down : (P : Program) (K : ℕ → ℕ → Bool) (fs : List Frame) (ps : List Promise) (k k' t : ℕ) → (kind_of t ≡ 1) ⊎ (kind_of t ≡ 2) ⊎ (kind_of t ≡ 3) → (x : Value) → Fits P K fs ps k t x → Fits P K fs ps k' t x
unfolding Fits
fits-down P K fs ps k k' t h Value.Empty f = tt
fits-down P K fs ps k k' t h (Value.Integer z) f = f
fits-down P K fs ps k k' t h (Value.Vector i) f = f
fits-down P K fs ps k k' t h (Value.Promise p) f = absurd (fits-promise P K fs ps k t p h f)
