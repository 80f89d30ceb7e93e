-- What a run can still take: what is left of each activation's block, with all that its PROMs will enter, and what is set aside for each promise.
use mathlib.Core.Path.{◌≡◌, refl, sym, ap, ◌∙◌}
use mathlib.Core.Logic.{◌≢◌, ◌⊎◌, inl, inr}
use mathlib.Core.List.{List, [], ◌∷◌}
use mathlib.Core.Option.{Option, none, some}
use mathlib.Core.Bool.{Bool, true, false, cond, ◌||◌, false≢true}
use Prim.Native.Nat.{ℕ, zero, suc, ◌+◌, ◌≤◌, ◌<◌}
use native.Mathlib.Decide.{dec_lt, ℕ_discrete}
use native.Mathlib.Omega.{arith}
use lib.ListN.{length, get_or, get_elem?, set, take, drop, get_or-eq_default}
use lib.Dec.{eqb}
use borrow.Author.Tests.{ne_eqb, eqb-false}
use Rattle.layout.specs.Tests.{any}
use Rattle.layout.proofs.Lists.{get-some, get_none}
use Rattle.rules.proofs.Follows.{or-either, or_left, or_right}
use Rattle.program.specs.Program.{Instr, Version, Program, find_version}
use Rattle.machine.specs.States.{PROMISES, pending}
use Rattle.machine.specs.declared.Activation.{Activation}
use Rattle.machine.specs.declared.Cache.{Cache}
use Rattle.machine.specs.declared.Frame.{Frame}
use Rattle.machine.specs.declared.Promise.{Promise}
use Rattle.machine.specs.declared.State.{State}
use Rattle.runs.specs.Lives.{numbers}
use Rattle.soundness.proofs.Cells.{no_frame, frame_at}
use Rattle.soundness.proofs.Invariant.{version_at, or_none, block_at, promise_at, stack_of, Stack, below, Pend, awaited}
use Rattle.soundness.proofs.Stacks.{opened-live, below-le}
use Rattle.bounds.proofs.Trees.{sum_from, tree, worth_in}
use Rattle.bounds.proofs.Calm.{holds}

-- ---- some of the first n pass

-- one of them put to one that passes as the old one
pub any-alike : {A : Type 0} (p : A → Bool) (n : ℕ) (l : List A) (i : ℕ) (x y : A) → get_elem? l i ≡ some y → p x ≡ p y → any p (take n (set l i x)) ≡ any p (take n l)
unfolding any
any-alike p zero l i x y e h = refl
any-alike p (suc n) [] i x y e h = refl
any-alike p (suc n) (z ∷ l) zero x y e h = let q : z ≡ y = cc in ap (λ (b : Bool). b || any p (take n l)) (h ∙ ap p (sym q))
any-alike p (suc n) (z ∷ l) (suc i) x y e h = ap (λ (b : Bool). p z || b) (any-alike p n l i x y e h)

-- one more, where one passed before
pub any-more : {A : Type 0} (p : A → Bool) (n : ℕ) (l : List A) (x : A) → any p (take n l) ≡ true → any p (take (suc n) (set l n x)) ≡ true
unfolding any
any-more p zero l x h = absurd (false≢true h)
any-more p (suc n) [] x h = absurd (false≢true h)
any-more p (suc n) (y ∷ l) x h = go (or-either (p y) (any p (take n l)) h) (any-more p n l x)
  where
    go : (p y ≡ true) ⊎ (any p (take n l) ≡ true) → (any p (take n l) ≡ true → any p (take (suc n) (set l n x)) ≡ true) → (p y || any p (take (suc n) (set l n x))) ≡ true
    go (inl e) ih = or_left _ e
    go (inr e) ih = or_right (p y) (ih e)

-- or one that passes itself
pub any-new : {A : Type 0} (p : A → Bool) (n : ℕ) (l : List A) (x : A) → n < length l → p x ≡ true → any p (take (suc n) (set l n x)) ≡ true
unfolding any
any-new p n [] x k h = absurd (omega arith)
any-new p zero (y ∷ l) x k h = or_left _ h
any-new p (suc n) (y ∷ l) x k h = or_right (p y) (any-new p n l x (omega arith) h)

-- one less
pub any-less : {A : Type 0} (p : A → Bool) (n : ℕ) (l : List A) (x : A) → get_elem? l n ≡ some x → any p (take (suc n) l) ≡ true → (p x ≡ true) ⊎ (any p (take n l) ≡ true)
unfolding any
any-less p n [] x e h = absurd (false≢true h)
any-less p zero (y ∷ l) x e h = let q : y ≡ x = cc in rw q at (or-either (p y) false h)
any-less p (suc n) (y ∷ l) x e h = go (or-either (p y) (any p (take (suc n) l)) h) (any-less p n l x e)
  where
    later : (p x ≡ true) ⊎ (any p (take n l) ≡ true) → (p x ≡ true) ⊎ ((p y || any p (take n l)) ≡ true)
    later (inl q) = inl q
    later (inr q) = inr (or_right (p y) q)

    go : (p y ≡ true) ⊎ (any p (take (suc n) l) ≡ true) → (any p (take (suc n) l) ≡ true → (p x ≡ true) ⊎ (any p (take n l) ≡ true)) → (p x ≡ true) ⊎ ((p y || any p (take n l)) ≡ true)
    go (inl q) ih = inr (or_left _ q)
    go (inr q) ih = later (ih q)

-- ---- purses

-- what is set aside for p is put to x
unfoldable pub filled : (ℕ → ℕ) → ℕ → ℕ → ℕ → ℕ
filled w p x q = cond (eqb q p) x (w q)

pub filled-same : (w : ℕ → ℕ) (p x : ℕ) → filled w p x p ≡ x
unfolding filled
filled-same w p x = go (eqb p p) refl
  where
    go : (b : Bool) → eqb p p ≡ b → cond b x (w p) ≡ x
    go true e = refl
    go false e = absurd (eqb-false p p e refl)

pub filled-other : (w : ℕ → ℕ) (p x q : ℕ) → q ≢ p → filled w p x q ≡ w q
unfolding filled
filled-other w p x q n = rw (ne_eqb q p n) refl

-- those below p
sum_low : (w : ℕ → ℕ) (p x k n : ℕ) → p < k → sum_from (filled w p x) k n ≡ sum_from w k n
unfolding sum_from
sum_low w p x k zero h = refl
sum_low w p x k (suc n) h =
    let a = filled-other w p x k (λ e. absurd (omega arith)) in
    let b = sum_low w p x (suc k) n (omega arith) in
    omega arith

-- no more than x is added
pub sum-filled : (w : ℕ → ℕ) (p x k n : ℕ) → sum_from (filled w p x) k n ≤ sum_from w k n + x
unfolding sum_from
sum-filled w p x k zero = omega arith
sum-filled w p x k (suc n) = go (ℕ_discrete k p) (sum-filled w p x (suc k) n)
  where
    go : Dec (k ≡ p) → sum_from (filled w p x) (suc k) n ≤ sum_from w (suc k) n + x → filled w p x k + sum_from (filled w p x) (suc k) n ≤ w k + sum_from w (suc k) n + x
    go (yes e) ih =
        let a : filled w p x k ≡ x = rw e (filled-same w p x) in
        let b = sum_low w p x (suc k) n (omega arith) in
        omega arith
    go (no e) ih = let a = filled-other w p x k e in omega arith

-- what was set aside for p is taken out
pub sum-emptied : (w : ℕ → ℕ) (p k n : ℕ) → k ≤ p → p < k + n → sum_from (filled w p 0) k n + w p ≤ sum_from w k n
unfolding sum_from
sum-emptied w p k zero h l = absurd (omega arith)
sum-emptied w p k (suc n) h l = go (ℕ_discrete k p) (λ i j. sum-emptied w p (suc k) n i j)
  where
    go : Dec (k ≡ p) → (suc k ≤ p → p < suc k + n → sum_from (filled w p 0) (suc k) n + w p ≤ sum_from w (suc k) n) → filled w p 0 k + sum_from (filled w p 0) (suc k) n + w p ≤ w k + sum_from w (suc k) n
    go (yes e) ih =
        let a : filled w p 0 k ≡ 0 = rw e (filled-same w p 0) in
        let b = sum_low w p 0 (suc k) n (omega arith) in
        let c : w p ≡ w k = ap w (sym e) in
        omega arith
    go (no e) ih = let a = filled-other w p 0 k e in let b = ih (omega arith) (omega arith) in omega arith

-- ---- frames with the same numbers

frame_or : (fs : List Frame) (k : ℕ) → (get_elem? fs k ≡ some (frame_at fs k)) ⊎ ((get_elem? fs k ≡ none) × (frame_at fs k ≡ no_frame))
unfolding frame_at
frame_or fs k = go (dec_lt k (length fs))
  where
    go : Dec (k < length fs) → (get_elem? fs k ≡ some (get_or fs k no_frame)) ⊎ ((get_elem? fs k ≡ none) × (get_or fs k no_frame ≡ no_frame))
    go (yes h) = inl (get-some fs k no_frame h)
    go (no h) = inr (get_none fs k (omega arith), get_or-eq_default fs no_frame {n = k} (omega arith))

pub same_version : (P : Program) (fs gs : List Frame) (k : ℕ) → numbers (get_elem? gs k) ≡ numbers (get_elem? fs k) → version_at P gs k ≡ version_at P fs k
unfolding version_at numbers
same_version P fs gs k h = go (frame_or gs k) (frame_or fs k)
  where
    both : (f g : Frame) → numbers (some g) ≡ numbers (some f) → or_none (find_version P g.function g.version) ≡ or_none (find_version P f.function f.version)
    both f g q = let e : ◌≡◌ {A = Option (ℕ × ℕ)} (some (g.function, g.version)) (some (f.function, f.version)) = q in let e2 : ◌≡◌ {A = ℕ × ℕ} (g.function, g.version) (f.function, f.version) = cc in let a : g.function ≡ f.function = ap (λ (x : ℕ × ℕ). x.0) e2 in let b : g.version ≡ f.version = ap (λ (x : ℕ × ℕ). x.1) e2 in rw (a, b) refl

    go : (get_elem? gs k ≡ some (frame_at gs k)) ⊎ ((get_elem? gs k ≡ none) × (frame_at gs k ≡ no_frame)) → (get_elem? fs k ≡ some (frame_at fs k)) ⊎ ((get_elem? fs k ≡ none) × (frame_at fs k ≡ no_frame))
        → or_none (find_version P (frame_at gs k).function (frame_at gs k).version) ≡ or_none (find_version P (frame_at fs k).function (frame_at fs k).version)
    go (inl a) (inl b) = both (frame_at fs k) (frame_at gs k) (rw (a, b) at h)
    go (inl a) (inr b) = let e : ◌≡◌ {A = Option (ℕ × ℕ)} (some ((frame_at gs k).function, (frame_at gs k).version)) none = rw (a, b.0) at h in let z : ◌≡◌ {A = ℕ} 0 1 = cc in absurd (omega arith)
    go (inr a) (inl b) = let e : ◌≡◌ {A = Option (ℕ × ℕ)} none (some ((frame_at fs k).function, (frame_at fs k).version)) = rw (a.0, b) at h in let z : ◌≡◌ {A = ℕ} 0 1 = cc in absurd (omega arith)
    go (inr a) (inr b) = rw (a.1, b.1) refl

-- ---- activations

-- each works in one of the first n frames
unfoldable pub AllIn : ℕ → List Activation → Type 0
AllIn n [] = Unit {0}
AllIn n (a ∷ l) = (a.frame < n) × AllIn n l

pub stack-in : (P : Program) (K : ℕ → ℕ → Bool) (fs : List Frame) (n : ℕ) (pend : Pend) (m : ℕ) (l : List Activation) → m ≤ n → Stack P K fs pend m l → AllIn n l
unfolding Stack AllIn
stack-in P K fs n pend m [] k st = tt
stack-in P K fs n pend m (a ∷ l) k st =
    let f = opened-live m a.frame a.block a.opener st.1 in
    let b = below-le m a.frame a.block a.opener st.1 in
    (omega arith, stack-in P K fs n (awaited P fs a) (below m a.frame a.opener) l (omega arith) st.2)

-- ---- the potential

module _ (P : Program) (price : Version → Instr → ℕ) where
  -- a block of a version with all that is entered from it
  unfoldable pub worth_at : Version → ℕ → ℕ
  worth_at v = worth_in (price v) v.blocks (length v.blocks)

  -- what is left of the block b from its instruction i on
  unfoldable pub left : Version → ℕ → ℕ → ℕ
  left v b i = tree (price v) (worth_at v) (drop i (block_at v b).code)

  -- of these activations
  unfoldable pub owed : List Frame → List Activation → ℕ
  owed fs [] = 0
  owed fs (a ∷ rest) = left (version_at P fs a.frame) a.block a.next + owed fs rest

  -- for a promise that is not forced and that no pending force works on, enough is set aside
  unfoldable pub Backed : (ℕ → ℕ) → List Frame → Promise → Bool → ℕ → Type 0
  Backed purse fs q pend p = q.cache ≡ Cache.Unforced → (pend ≡ true) ⊎ (worth_at (version_at P fs q.frame) q.block ≤ purse p)

  -- m steps are enough; every live call is one with a bound
  pub record Paid (G : Version → Bool) (s : State) (m : ℕ) : Type 0 where
    pub purse : ℕ → ℕ
    pub backed : (p : ℕ) → holds s p ≡ true → Backed purse s.frames (promise_at s.promises p) (pending s p) p
    pub enough : owed s.frames (stack_of s.activations s.depth) + sum_from purse 0 PROMISES ≤ m
    pub priced : (k : ℕ) → k < s.calls → G (version_at P s.frames k) ≡ true

  pub paid-more : (G : Version → Bool) (s : State) (m n : ℕ) → Paid G s m → m ≤ n → Paid G s n
  paid-more G s m n p h = record { purse = p.purse; backed = p.backed; enough = omega (arith, p.enough); priced = p.priced }

  -- what is left, where the versions are the same
  pub owed_same : (fs gs : List Frame) → ((k : ℕ) → version_at P gs k ≡ version_at P fs k) → (l : List Activation) → owed gs l ≡ owed fs l
  unfolding owed
  owed_same fs gs h [] = refl
  owed_same fs gs h (a ∷ l) = rw (h a.frame, owed_same fs gs h l) refl

  -- of activations in the first n frames, where these have the same versions
  pub owed-live : (fs gs : List Frame) (n : ℕ) → ((k : ℕ) → k < n → version_at P gs k ≡ version_at P fs k) → (l : List Activation) → AllIn n l → owed gs l ≡ owed fs l
  unfolding owed AllIn
  owed-live fs gs n h [] st = refl
  owed-live fs gs n h (a ∷ l) st = rw (h a.frame st.0, owed-live fs gs n h l st.1) refl

  -- ---- a state that has no more than s

  pub record Moved (s t : State) : Type 0 where
    pub versions : (k : ℕ) → version_at P t.frames k ≡ version_at P s.frames k
    pub calls : t.calls ≤ s.calls
    pub fewer : (p : ℕ) → holds t p ≡ true → holds s p ≡ true
    pub same : (p : ℕ) → (promise_at t.promises p).cache ≡ Cache.Unforced → promise_at t.promises p ≡ promise_at s.promises p
    pub pends : (p : ℕ) → (promise_at t.promises p).cache ≡ Cache.Unforced → pending s p ≡ true → pending t p ≡ true

  pub record Falls (G : Version → Bool) (s t : State) (m x : ℕ) : Type 0 where
    pub rest : ℕ
    pub falls : rest + x ≤ m
    pub paid : Paid G t rest

  pub moved-paid : (G : Version → Bool) (s t : State) (m x : ℕ) → Moved s t → owed t.frames (stack_of t.activations t.depth) + x ≤ owed s.frames (stack_of s.activations s.depth) → Paid G s m → Falls G s t m x
  unfolding Backed
  moved-paid G s t m x h k p = record {
    rest = owed t.frames (stack_of t.activations t.depth) + sum_from p.purse 0 PROMISES;
    falls = omega (arith, k, p.enough);
    paid = record {
      purse = p.purse;
      backed = backed;
      enough = omega arith;
      priced = λ j l. rw (h.versions j) (p.priced j (omega (arith, l, h.calls)));
    };
  }
    where
      backed : (q : ℕ) → holds t q ≡ true → Backed p.purse t.frames (promise_at t.promises q) (pending t q) q
      backed q e c = go (p.backed q (h.fewer q e) (ap (λ (r : Promise). r.cache) (sym (h.same q c)) ∙ c))
        where
          go : (pending s q ≡ true) ⊎ (worth_at (version_at P s.frames (promise_at s.promises q).frame) (promise_at s.promises q).block ≤ p.purse q) → (pending t q ≡ true) ⊎ (worth_at (version_at P t.frames (promise_at t.promises q).frame) (promise_at t.promises q).block ≤ p.purse q)
          go (inl a) = inl (h.pends q c a)
          go (inr a) = inr (rw (h.same q c, h.versions (promise_at s.promises q).frame) a)
