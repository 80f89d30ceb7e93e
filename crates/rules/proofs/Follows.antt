-- One action then another, register by register.
use mathlib.Core.Path.{◌≡◌, refl, sym, ap, ◌∙◌, subst}
use mathlib.Core.Logic.{◌⊎◌, inl, inr}
use mathlib.Core.Option.{Option, none, some}
use mathlib.Core.Bool.{Bool, true, false, cond, not, ◌&&◌, ◌||◌, true≢false, false≢true}
use Prim.Native.Nat.{ℕ, zero, suc}
use native.Mathlib.Omega.{arith}
use Rattle.sets.specs.Sets.{Set, has, empty, both, ◌∪◌, ◌∖◌, meets}
use Rattle.sets.proofs.Members.{has_both, has-none}
use Rattle.rules.specs.Actions.{Action, clash, joined, ◌then◌}

-- ---- tests

pub or_left : {a : Bool} (b : Bool) → a ≡ true → (a || b) ≡ true
or_left b h = rw h

pub or_right : (a : Bool) {b : Bool} → b ≡ true → (a || b) ≡ true
or_right true h = refl
or_right false h = h

pub or-either : (a b : Bool) → (a || b) ≡ true → (a ≡ true) ⊎ (b ≡ true)
or-either true b h = inl refl
or-either false b h = inr h

pub or-neither : (a b : Bool) → (a || b) ≡ false → (a ≡ false) × (b ≡ false)
or-neither true b h = absurd (true≢false h)
or-neither false b h = (refl, h)

pub or-none : {a b : Bool} → a ≡ false → b ≡ false → (a || b) ≡ false
or-none p q = rw (p, q)

not-both : (a b : Bool) → (a && b) ≡ false → a ≡ true → b ≡ false
not-both a b h e = rw e at h

pub not-true : (a : Bool) → (a ≡ true → ⊥) → a ≡ false
not-true true h = absurd (h refl)
not-true false h = refl

-- ---- sets

pub has-empty : (k r : ℕ) → has (empty k) r ≡ false
unfolding has empty
has-empty zero r = refl
has-empty (suc k) zero = refl
has-empty (suc k) (suc r) = has-empty k r

pub has-union : (s t : Set) (r : ℕ) → has (s ∪ t) r ≡ (has s r || has t r)
has-union s t r = has_both ◌||◌ refl s t r

pub has-minus : (s t : Set) (r : ℕ) → has (s ∖ t) r ≡ (has s r && not (has t r))
has-minus s t r = has_both (λ a b. a && not b) refl s t r

apart-has : (s t : Set) → meets s t ≡ false → (r : ℕ) → has s r ≡ true → has t r ≡ false
apart-has s t h r e = not-both (has s r) (has t r) (sym (has_both ◌&&◌ refl s t r) ∙ has-none (both ◌&&◌ s t) h r) e

-- ---- A then A': what it says of each register

pub record Clear (a b : Action) : Type 0 where
  pub emptied : (r : ℕ) → has a.U r ≡ true → (has b.R r ≡ false) × (has b.U r ≡ false) × (has b.C r ≡ false)
  pub captured : (r : ℕ) → has a.C r ≡ true → has b.U r ≡ false

clash-clear : (a b : Action) → clash a b ≡ false → Clear a b
unfolding clash
clash-clear a b h =
    let x3 = or-neither _ (meets a.C b.U) h in
    let x2 = or-neither _ (meets a.U b.C) x3.0 in
    let x1 = or-neither _ (meets a.U b.U) x2.0 in
    record {
      emptied = λ r u. (apart-has a.U b.R x1.0 r u, apart-has a.U b.U x1.1 r u, apart-has a.U b.C x2.1 r u);
      captured = λ r q. apart-has a.C b.U x3.1 r q;
    }

-- c is what a then b does
pub record Follows (a b c : Action) : Type 0 where
  pub clear : Clear a b
  pub is-R : (r : ℕ) → has c.R r ≡ (has a.R r || (has b.R r && not (has a.W r)))
  pub is-W : (r : ℕ) → has c.W r ≡ (has a.W r || has b.W r)
  pub is-U : (r : ℕ) → has c.U r ≡ ((has a.U r || has b.U r) && not (has b.W r))
  pub is-C : (r : ℕ) → has c.C r ≡ (has a.C r || has b.C r)

joined-follows : (a b : Action) → Clear a b → Follows a b (joined a b)
unfolding joined
joined-follows a b h = record {
  clear = h;
  is-R = λ r. has-union a.R (b.R ∖ a.W) r ∙ ap (λ (x : Bool). has a.R r || x) (has-minus b.R a.W r);
  is-W = has-union a.W b.W;
  is-U = λ r. has-minus (a.U ∪ b.U) b.W r ∙ ap (λ (x : Bool). x && not (has b.W r)) (has-union a.U b.U r);
  is-C = has-union a.C b.C;
}

pub then-follows : (a b c : Action) → (some a then some b) ≡ some c → Follows a b c
unfolding ◌then◌
then-follows a b c h = go (clash a b) refl h
  where
    go : (t : Bool) → clash a b ≡ t → cond t none (some (joined a b)) ≡ some c → Follows a b c
    go true e g = let z : ◌≡◌ {A = ℕ} 0 1 = cc in absurd (omega arith)
    go false e g = let f : joined a b ≡ c = cc in subst (Follows a b) f (joined-follows a b (clash-clear a b e))

-- both parts of what is allowed
pub record Parts (x y : Option Action) (c : Action) : Type 0 where
  pub first : Action
  pub second : Action
  pub is-first : x ≡ some first
  pub is-second : y ≡ some second
  pub follows : Follows first second c

pub then-parts : (x y : Option Action) (c : Action) → (x then y) ≡ some c → Parts x y c
unfolding ◌then◌
then-parts none y c h = let z : ◌≡◌ {A = ℕ} 0 1 = cc in absurd (omega arith)
then-parts (some a) none c h = let z : ◌≡◌ {A = ℕ} 0 1 = cc in absurd (omega arith)
then-parts (some a) (some b) c h = record { first = a; second = b; is-first = refl; is-second = refl; follows = then-follows a b c h }

-- what each part does the whole does; what the second reads is read by the whole, or the first assigned it
module _ {a b c : Action} (f : Follows a b c) (r : ℕ) where
  pub first_reads : has a.R r ≡ true → has c.R r ≡ true
  first_reads h = f.is-R r ∙ or_left _ h

  pub first-assigns : has a.W r ≡ true → has c.W r ≡ true
  first-assigns h = f.is-W r ∙ or_left _ h

  pub first-captures : has a.C r ≡ true → has c.C r ≡ true
  first-captures h = f.is-C r ∙ or_left _ h

  pub second-assigns : has b.W r ≡ true → has c.W r ≡ true
  second-assigns h = f.is-W r ∙ or_right (has a.W r) h

  pub second-captures : has b.C r ≡ true → has c.C r ≡ true
  second-captures h = f.is-C r ∙ or_right (has a.C r) h

  pub second_reads : has b.R r ≡ true → (has c.R r ≡ true) ⊎ (has a.W r ≡ true)
  second_reads h = go (has a.W r) refl
    where
      go : (w : Bool) → has a.W r ≡ w → (has c.R r ≡ true) ⊎ (has a.W r ≡ true)
      go true e = inr e
      go false e = inl (f.is-R r ∙ rw (h, e) (or_right (has a.R r) refl))

-- what is not emptied behind both, and which the second does not assign, was not emptied before, and the second does not empty it
pub stays-emptied : {a b c : Action} → Follows a b c → (r : ℕ) → has b.W r ≡ false → has c.U r ≡ false → (has a.U r ≡ false) × (has b.U r ≡ false)
stays-emptied {a} {b} {c} f r w u = or-neither (has a.U r) (has b.U r) (go (has a.U r || has b.U r) (sym (f.is-U r) ∙ u))
  where
    go : (x : Bool) → (x && not (has b.W r)) ≡ false → x ≡ false
    go true h = absurd (false≢true (sym h ∙ rw w refl))
    go false h = refl
