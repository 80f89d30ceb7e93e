-- The versions of an accepted image: those of a function have the numbers from 0 on, without a gap.
use Rattle.std.specs.Prelude.{None, Some, Ok}
use mathlib.Core.Path.{◌≡◌, refl, sym, ap, ◌∙◌}
use Rattle.layout.specs.Found.{Found}
use mathlib.Core.List.{List, [], ◌∷◌}
use mathlib.Core.Logic.{◌⊎◌, inl, inr}
use mathlib.Core.Option.{Option, none, some}
use mathlib.Core.Bool.{Bool, true, false, cond, not, ◌||◌, false≢true}
use Prim.Native.Nat.{ℕ, ◌+◌, ◌<◌, ◌≤◌}
use native.Mathlib.Omega.{arith}
use native.Mathlib.Nat.{zero-add}
use lib.Dec.{eqb, ltb}
use borrow.Author.Tests.{eqb-true, eqb-false, eq-eqb, ne_eqb, ltb-true, ltb-false}
use Rattle.layout.specs.Kinds as kind
use Rattle.layout.specs.Questions.{question5, follows, following, last_version, nothing}
use Rattle.layout.specs.Records.{Rec, records, ◌!◌}
use Rattle.layout.specs.Scan.{scan}
use Rattle.layout.specs.Tests.{◌and◌, count}
use Rattle.layout.proofs.Bools.{and_both}
use Rattle.checker.specs.Verdicts.{verdict_of}
use Rattle.checker.proofs.Accepted.{passed as passed-all}
use Rattle.machine.specs.Begin.{program_of}
use Rattle.program.specs.Program.{Program, Version, View, find_version, put_by, view, view_by, nowhere, version_of, block_of, level_of, line_of}
use Rattle.runs.specs.Searches.{of_function}

-- ---- the numbers follow on each other

-- a scan that found nothing passed its tests
passed : (t u : Bool) (x : Found) (p : ℕ) → cond (t and u) x (Some p) ≡ None → (u ≡ true) × (x ≡ None)
unfolding ◌and◌
passed true true x p e = (refl, e)
passed true false x p e = let z : ◌≡◌ {A = ℕ} 0 1 = cc in absurd (omega arith)
passed false u x p e = let z : ◌≡◌ {A = ℕ} 0 1 = cc in absurd (omega arith)

-- the version x of the function g follows on the version w of the function f
after : ℕ → ℕ → ℕ → ℕ → Bool
after f w g x = (eqb g f and eqb x (w + 1)) || (eqb g (f + 1) and eqb x 0)

-- the first version passes the test, each next one follows on the one before
Ordered : (ℕ → ℕ → Bool) → Program → Type 0
Ordered t [] = Unit {0}
Ordered t (W ∷ P) = (t W.function W.version ≡ true) × Ordered (after W.function W.version) P

-- question 5 of records is that of their versions
ordered : (o : Option Rec) (rs : List Rec) → scan following last_version nothing o rs ≡ None → Ordered (λ f w. follows o f w) (view rs).versions
unfolding scan view_by put_by Ordered after ◌and◌ follows
ordered o [] e = tt
ordered o (r ∷ rs) e = go (eqb r.size 0) (ltb 0 r.size) (eqb r.kind kind.VERSION) (eqb r.kind kind.BLOCK) (ordered o rs) (ordered (some r) rs) e
  where
    go : (z t v b : Bool)
        → (scan following last_version nothing o rs ≡ None → Ordered (λ f w. follows o f w) (view rs).versions)
        → (scan following last_version nothing (some r) rs ≡ None → Ordered (λ f w. follows (some r) f w) (view rs).versions)
        → cond (t and (not v || follows o (r.body ! 0) (r.body ! 1))) (scan following last_version nothing (cond v (some r) o) rs) (Some r.at) ≡ None
        → Ordered (λ f w. follows o f w)
        (cond z nowhere (cond v (record { level = 0; code = []; blocks = []; versions = version_of r (view rs).level (view rs).blocks ∷ (view rs).versions })
        (cond b (record { level = 0; code = []; blocks = block_of r (view rs).code ∷ (view rs).blocks; versions = (view rs).versions }) (record { level = level_of r; code = line_of r ∷ (view rs).code; blocks = (view rs).blocks; versions = (view rs).versions })))).versions
    go true t v b same next h = tt
    go false t true b same next h =
        let x = passed t (follows o (r.body ! 0) (r.body ! 1)) _ _ h in
        (x.0, next x.1)
    go false t false true same next h = same (passed t true _ _ h).1
    go false t false false same next h = same (passed t true _ _ h).1

-- ---- the versions of one function

-- the look-up of the version x, of n versions from `from` on
pub data Among (o : Option Version) (from n x : ℕ) : Type 0 where
  there : (W : Version) → o ≡ some W → from ≤ x → x < from + n → Among o from n x
  before : o ≡ none → x < from → Among o from n x
  behind : o ≡ none → from + n ≤ x → Among o from n x

-- behind the version w of the function f, the numbers of the function g go on from here
from : ℕ → ℕ → ℕ → ℕ
from f w g = cond (eqb g f) (w + 1) 0

follows_on : (f w g x : ℕ) → after f w g x ≡ true → ((g ≡ f) × (x ≡ w + 1)) ⊎ ((g ≡ f + 1) × (x ≡ 0))
unfolding after
follows_on f w g x e = go (eqb g f and eqb x (w + 1)) refl e
  where
    go : (b : Bool) → (eqb g f and eqb x (w + 1)) ≡ b → (b || (eqb g (f + 1) and eqb x 0)) ≡ true → ((g ≡ f) × (x ≡ w + 1)) ⊎ ((g ≡ f + 1) × (x ≡ 0))
    go true h k = let a = and_both _ _ h in inl (eqb-true _ _ a.0, eqb-true _ _ a.1)
    go false h k = let a = and_both _ _ k in inr (eqb-true _ _ a.0, eqb-true _ _ a.1)

from-same : (f w g : ℕ) → g ≡ f → from f w g ≡ w + 1
unfolding from
from-same f w g e = rw (eq-eqb g f e) refl

from-other : (f w g : ℕ) → (g ≡ f → ⊥) → from f w g ≡ 0
unfolding from
from-other f w g h = rw (ne_eqb g f h) refl

module _ {o : Option Version} {k l n m x : ℕ} where
  -- the same numbers
  among_same : k ≡ l → n ≡ m → Among o k n x → Among o l m x
  among_same e f (there W g a b) = there W g (omega arith) (omega arith)
  among_same e f (before g a) = before g (omega arith)
  among_same e f (behind g a) = behind g (omega arith)

  -- one more, in front
  among-more : l + 1 ≡ k → m ≡ 1 + n → (x ≡ l → ⊥) → Among o k n x → Among o l m x
  among-more e f h (there W g a b) = there W g (omega arith) (omega arith)
  among-more e f h (before g a) = before g (less (ltb x l) refl)
    where
      less : (b : Bool) → ltb x l ≡ b → x < l
      less true q = ltb-true x l q
      less false q = let i = ltb-false x l q in absurd (h (omega arith))
  among-more e f h (behind g a) = behind g (omega arith)

  -- none at all, from wherever on
  among_none : n ≡ 0 → m ≡ 0 → k ≡ 0 → Among o k n x → Among o l m x
  among_none e f z (there W g a b) = absurd (omega arith)
  among_none e f z (before g a) = absurd (omega arith)
  among_none e f z (behind g a) = go (ltb x l) refl
    where
      go : (b : Bool) → ltb x l ≡ b → Among o l m x
      go true q = before g (ltb-true x l q)
      go false q = let i = ltb-false x l q in behind g (omega arith)

-- versions that follow on the version w of the function f: those of each function g, and none of a lower one
counted : (f w : ℕ) (P : Program) → Ordered (after f w) P → (g : ℕ) → ((x : ℕ) → Among (find_version P g x) (from f w g) (of_function P g) x) × (g < f → of_function P g ≡ 0)
unfolding Ordered find_version count ◌and◌
counted f w [] h g = (λ x. among_none {k = 0} {n = 0} refl refl refl (behind refl (omega arith)), λ l. refl)
counted f w (W ∷ P) both g =
    let h = both.0 in
    let ih = counted W.function W.version P both.1 g in
    (λ x. go x (eqb W.function g) (eqb W.version x) refl refl (ih.0 x) ih.1 (follows_on f w W.function W.version h), λ l. none-low (eqb W.function g) refl l ih.1 (follows_on f w W.function W.version h))
  where
    Next : Type 0
    Next = ((W.function ≡ f) × (W.version ≡ w + 1)) ⊎ ((W.function ≡ f + 1) × (W.version ≡ 0))

    none-low : (a : Bool) → eqb W.function g ≡ a → g < f → (g < W.function → of_function P g ≡ 0) → Next → cond a 1 0 + of_function P g ≡ 0
    none-low true e l k (inl (y, z)) = let i : W.function ≡ g = eqb-true _ _ e in absurd (omega arith)
    none-low true e l k (inr (y, z)) = let i : W.function ≡ g = eqb-true _ _ e in absurd (omega arith)
    none-low false e l k (inl (y, z)) = let i : of_function P g ≡ 0 = k (omega arith) in omega arith
    none-low false e l k (inr (y, z)) = let i : of_function P g ≡ 0 = k (omega arith) in omega arith

    -- of its own function W is the first
    starts : W.function ≡ g → Next → from f w g ≡ W.version
    starts e (inl (y, z)) = from-same f w g (sym e ∙ y) ∙ sym z
    starts e (inr (y, z)) = from-other f w g (λ (q : g ≡ f). let i : f + 1 ≡ f = sym y ∙ e ∙ q in omega arith) ∙ sym z

    -- of another one it is none
    other : (x : ℕ) → (W.function ≡ g → ⊥) → Among (find_version P g x) 0 (of_function P g) x → (g < W.function → of_function P g ≡ 0) → Next → Among (find_version P g x) (from f w g) (of_function P g) x
    other x h m low (inl (y, z)) = among_same (sym (from-other f w g (λ (q : g ≡ f). h (y ∙ sym q)))) refl m
    other x h m low (inr (y, z)) = at (eqb g f) refl
      where
        at : (b : Bool) → eqb g f ≡ b → Among (find_version P g x) (from f w g) (of_function P g) x
        at true e =
            let q = eqb-true g f e in
            let none_left : of_function P g ≡ 0 = low (omega arith) in
            among_none none_left none_left refl m
        at false e = among_same (sym (from-other f w g (eqb-false g f e))) refl m

    go : (x : ℕ) (a b : Bool) → eqb W.function g ≡ a → eqb W.version x ≡ b → Among (find_version P g x) (from W.function W.version g) (of_function P g) x → (g < W.function → of_function P g ≡ 0) → Next
        → Among (cond (a and b) (some W) (find_version P g x)) (from f w g) (cond a 1 0 + of_function P g) x
    go x true true ea eb m low n =
        let e = eqb-true W.function g ea in
        let q = eqb-true W.version x eb in
        let s = starts e n in
        there W refl (omega arith) (omega arith)
    go x true false ea eb m low n =
        let e = eqb-true W.function g ea in
        let s = starts e n in
        let k = from-same W.function W.version g (sym e) in
        among-more (omega arith) refl (λ (q : x ≡ from f w g). eqb-false W.version x eb (omega arith)) m
    go x false b ea eb m low n =
        let h = eqb-false _ _ ea in
        among_same refl (sym (zero-add _)) (other x h (among_same (from-other W.function W.version g (λ (q : g ≡ W.function). h (sym q))) refl m) low n)

-- from the first version on
first : (P : Program) → Ordered (λ f w. follows none f w) P → (g x : ℕ) → Among (find_version P g x) 0 (of_function P g) x
unfolding Ordered find_version count ◌and◌ follows
first [] h g x = behind refl (omega arith)
first (W ∷ P) both g x =
    let z = and_both _ _ both.0 in
    let c = counted W.function W.version P both.1 g in
    go (eqb W.function g) (eqb W.version x) refl refl (eqb-true _ _ z.0) (eqb-true _ _ z.1) (c.0 x)
  where
    go : (a b : Bool) → eqb W.function g ≡ a → eqb W.version x ≡ b → W.function ≡ 0 → W.version ≡ 0 → Among (find_version P g x) (from W.function W.version g) (of_function P g) x
        → Among (cond (a and b) (some W) (find_version P g x)) 0 (cond a 1 0 + of_function P g) x
    go true true ea eb f w m = let q = eqb-true W.version x eb in there W refl (omega arith) (omega arith)
    go true false ea eb f w m =
        let k = from-same W.function W.version g (sym (eqb-true _ _ ea)) in
        among-more (omega arith) refl (λ (q : x ≡ 0). eqb-false W.version x eb (omega arith)) m
    go false b ea eb f w m = among_same (from-other W.function W.version g (λ (q : g ≡ W.function). eqb-false _ _ ea (sym q))) (sym (zero-add _)) m

-- THE LAW: the versions of each function are those from 0 on, as many as it has
pub numbered : (s : List ℕ) (k : ℕ) → verdict_of s ≡ Ok k → (f w : ℕ) → Among (find_version (program_of s) f w) 0 (of_function (program_of s) f) w
unfolding question5
numbered s k e f w = first (program_of s) (ordered none (records s) (passed-all s k e).q5) f w
