-- What one instruction does, register by register, and the body of a version that passes question 10.
use mathlib.Core.Path.{◌≡◌, refl, sym, ap, ◌∙◌}
use mathlib.Core.List.{List, [], ◌∷◌}
use mathlib.Core.Logic.{◌⊎◌, inl, inr}
use mathlib.Core.Option.{Option, none, some}
use mathlib.Core.Bool.{Bool, true, false, cond, not, ◌&&◌, ◌||◌, or-false, true≢false, false≢true}
use Prim.Native.Nat.{ℕ, zero, suc, ◌+◌, ◌-◌, ◌<◌}
use native.Mathlib.Omega.{arith}
use lib.ListN.{drop, get_or, get_elem?}
use lib.Seq.{get_or-drop}
use lib.Dec.{ltb}
use borrow.Author.Tests.{ltb-true, ltb-false}
use Rattle.layout.specs.Tests.{found}
use Rattle.sets.specs.Sets.{Set, has, only, those, inhabited, below, ◌∪◌}
use Rattle.sets.proofs.Members.{has-none}
use Rattle.program.specs.Program.{Argument, Version, Program}
use Rattle.program.specs.Search.{first}
use Rattle.rules.specs.Types.{is_owned}
use Rattle.rules.specs.Actions.{Action, ∅, promised, emptied, reads◌empties◌assigns◌, enters◌assigns◌, action_of, body_action}
use Rattle.rules.specs.Flows.{flows}
use Rattle.rules.proofs.Follows.{Follows, Parts, then-parts, then-follows, or_left, or_right, or-either, has-empty, has-union}

-- ---- registers of a list

has-only : (k r : ℕ) → r < k → has (only k r) r ≡ true
unfolding has only
has-only zero r h = absurd (omega arith)
has-only (suc k) zero h = refl
has-only (suc k) (suc r) h = has-only k r (omega arith)

only-has : (k r x : ℕ) → has (only k r) x ≡ true → x ≡ r
unfolding has only
only-has zero r x h = absurd (false≢true h)
only-has (suc k) zero zero h = refl
only-has (suc k) zero (suc x) h = absurd (true≢false (sym h ∙ has-empty k x))
only-has (suc k) (suc r) zero h = absurd (false≢true h)
only-has (suc k) (suc r) (suc x) h = ap suc (only-has k r x h)

-- each register of a list is in its set
pub has-those : (k : ℕ) (rs : List ℕ) (i r : ℕ) → r < k → get_elem? rs i ≡ some r → has (those k rs) r ≡ true
unfolding those
has-those k [] i r h e = let z : ◌≡◌ {A = ℕ} 0 1 = cc in absurd (omega arith)
has-those k (x ∷ rs) zero r h e = let y : x ≡ r = cc in has-union (only k x) (those k rs) r ∙ or_left {a = has (only k x) r} _ (rw y (has-only k r h))
has-those k (x ∷ rs) (suc i) r h e = has-union (only k x) (those k rs) r ∙ or_right (has (only k x) r) (has-those k rs i r h e)

-- and no other
pub those-has : (k : ℕ) (rs : List ℕ) (r : ℕ) → has (those k rs) r ≡ true → (i : ℕ) × (get_elem? rs i ≡ some r)
unfolding those
those-has k [] r h = absurd (true≢false (sym h ∙ has-empty k r))
those-has k (x ∷ rs) r h = go (or-either (has (only k x) r) (has (those k rs) r) (sym (has-union (only k x) (those k rs) r) ∙ h)) (λ e. those-has k rs r e)
  where
    go : (has (only k x) r ≡ true) ⊎ (has (those k rs) r ≡ true) → (has (those k rs) r ≡ true → (i : ℕ) × (get_elem? rs i ≡ some r)) → (i : ℕ) × (get_elem? (x ∷ rs) i ≡ some r)
    go (inl e) ih = (0, ap some (sym (only-has k x r e)))
    go (inr e) ih = let t = ih e in (suc t.0, t.1)

-- ---- registers that a call empties

-- none, where no argument is owned
pub none-emptied : (l : List Argument) → ((i : ℕ) (a : Argument) → get_elem? l i ≡ some a → is_owned a.type ≡ false) → emptied l ≡ []
unfolding emptied
none-emptied [] h = refl
none-emptied (a ∷ l) h = rw (h 0 a refl) (none-emptied l (λ i b e. h (suc i) b e))

-- an owned argument's
pub emptied-owned : (l : List Argument) (j r : ℕ) → get_elem? (emptied l) j ≡ some r → (i : ℕ) × (a : Argument) × (get_elem? l i ≡ some a) × (is_owned a.type ≡ true) × (a.register ≡ r)
unfolding emptied
emptied-owned [] j r e = let z : ◌≡◌ {A = ℕ} 0 1 = cc in absurd (omega arith)
emptied-owned (a ∷ l) j r e = go (is_owned a.type) refl j e (λ k f. emptied-owned l k r f)
  where
    Owned : List Argument → Type 0
    Owned m = (i : ℕ) × (b : Argument) × (get_elem? m i ≡ some b) × (is_owned b.type ≡ true) × (b.register ≡ r)

    later : Owned l → Owned (a ∷ l)
    later t = (suc t.0, t.1, t.2, t.3, t.4)

    go : (o : Bool) → is_owned a.type ≡ o → (k : ℕ) → get_elem? (cond o (a.register ∷ emptied l) (emptied l)) k ≡ some r → ((k : ℕ) → get_elem? (emptied l) k ≡ some r → Owned l) → Owned (a ∷ l)
    go true o zero f ih = (0, a, refl, o, cc)
    go true o (suc k) f ih = later (ih k f)
    go false o k f ih = later (ih k f)

-- ---- an instruction that enters no block

pub record Touched (rs us ds : List ℕ) (a : Action) : Type 0 where
  pub is-R : (r : ℕ) → has a.R r ≡ has (those 16 rs) r
  pub is-W : (r : ℕ) → has a.W r ≡ has (those 16 ds) r
  pub is-U : (r : ℕ) → has a.U r ≡ has (those 16 us) r
  pub is-C : (r : ℕ) → has a.C r ≡ false

pub touched-by : (enter : ℕ → Option Action) (rs us ds : List ℕ) (a : Action) → action_of enter (reads rs empties us assigns ds) ≡ some a → Touched rs us ds a
unfolding action_of
touched-by enter rs us ds a h =
    let e : a ≡ record { R = those 16 rs; W = those 16 ds; U = those 16 us; C = ∅ } = cc in
    record { is-R = λ r. rw e refl; is-W = λ r. rw e refl; is-U = λ r. rw e refl; is-C = λ r. rw e (has-empty 16 r) }

-- ---- PROM, by what its block does

pub record Promises (enter : ℕ → Option Action) (block : ℕ) (ds : List ℕ) (a : Action) : Type 0 where
  pub inner : Action
  pub is-inner : enter block ≡ some inner
  pub is-R : (r : ℕ) → has a.R r ≡ has inner.R r
  pub is-W : (r : ℕ) → has a.W r ≡ has (those 16 ds) r
  pub is-U : (r : ℕ) → has a.U r ≡ has inner.U r
  pub is-C : (r : ℕ) → has a.C r ≡ (has inner.R r || has inner.W r || has inner.U r || has inner.C r)

pub promises-by : (enter : ℕ → Option Action) (block : ℕ) (ds : List ℕ) (a : Action) → action_of enter (enters block assigns ds) ≡ some a → Promises enter block ds a
unfolding action_of promised
promises-by enter block ds a h = go (enter block) refl h
  where
    go : (o : Option Action) → enter block ≡ o → promised (those 16 ds) o ≡ some a → Promises enter block ds a
    go none e g = let z : ◌≡◌ {A = ℕ} 0 1 = cc in absurd (omega arith)
    go (some i) e g =
        let q : a ≡ record { R = i.R; W = those 16 ds; U = i.U; C = i.R ∪ i.W ∪ i.U ∪ i.C } = cc in
        record { inner = i; is-inner = e; is-R = λ r. rw q refl; is-W = λ r. rw q refl; is-U = λ r. rw q refl; is-C = λ r. rw q (simp has-union refl) }

-- ---- question 10: the body reads only parameters before they are assigned

below-has : (n : ℕ) (s : Set) → below n s ≡ true → (r : ℕ) → has s r ≡ true → r < n
unfolding has
below-has n s h r e = go (ltb r n) refl
  where
    none-past : (b : Bool) → not b ≡ true → b ≡ false
    none-past true h = absurd (false≢true h)
    none-past false h = refl

    go : (b : Bool) → ltb r n ≡ b → r < n
    go true l = ltb-true r n l
    go false l =
        let m : n + (r - n) ≡ r = omega (arith, ltb-false r n l) in
        absurd (true≢false (sym e ∙ ap (λ (k : ℕ). get_or s k false) (sym m) ∙ sym (get_or-drop n s (r - n) false) ∙ has-none (drop n s) (none-past (inhabited (drop n s)) h) (r - n)))

pub record Flowing (P : Program) (v : Version) : Type 0 where
  pub body : Action
  pub is_body : body_action P v ≡ some body
  pub within : (r : ℕ) → has body.R r ≡ true → r < v.parameters

pub flows-body : (P : Program) (v : Version) → flows P v ≡ true → Flowing P v
unfolding flows found
flows-body P v h = go (body_action P v) refl h
  where
    go : (o : Option Action) → body_action P v ≡ o → found o (λ (a : Action). below v.parameters a.R) ≡ true → Flowing P v
    go none e f = absurd (false≢true f)
    go (some a) e f = record { body = a; is_body = e; within = below-has v.parameters a.R f }
