-- Lists of fields, by their lengths and places, and what a loop along them meets.
use mathlib.Core.Path.{◌≡◌, refl, sym, ap, ◌∙◌}
use mathlib.Core.List.{List, [], ◌∷◌, map}
use mathlib.Core.Bool.{Bool, true, false}
use Prim.Native.Nat.{ℕ, zero, suc, ◌+◌, ◌-◌, ◌*◌, ◌≤◌, ◌<◌}
use native.Mathlib.Nat.{add-zero, zero-mul, suc-mul, mul-one}
use native.Mathlib.Omega.{arith}
use lib.ListN.{length, get_or-eq_default}
use Rattle.std.specs.Prelude.{◌&&◌}
use Rattle.std.specs.Iterator.{YieldsFirst}
use Rattle.std.specs.List.{list_all, enumerate_from}
use Rattle.std.proofs.lemmas.Iterator.{YieldsList}
use Rattle.std.proofs.lemmas.Iterator.Consumers.{YieldsList-from_first}
use Rattle.layout.specs.declared.records.Fields.{Fields}
use Rattle.layout.specs.Tests.{◌and◌, all, all_from}
use Rattle.layout.specs.Records.{◌!◌, body_at, every, fields}
use Rattle.layout.proofs.Bools.{and-on, and-off}

pub length-every : (b : List ℕ) (k step n : ℕ) → length (every b k step n) ≡ n
unfolding every
length-every b k step zero = refl
length-every b k step (suc n) = ap suc (length-every b (k + step) step n)

pub every-at : (b : List ℕ) (k step n i : ℕ) → i < n → every b k step n ! i ≡ b ! (k + i * step)
unfolding every
every-at b k step zero i h = absurd (omega arith)
every-at b k step (suc n) zero h = rw (zero-mul, add-zero)
every-at b k step (suc n) (suc i) h = rw (suc-mul i step) (let e : k + (i * step + step) ≡ k + step + i * step = omega arith in rw e (every-at b (k + step) step n i (omega arith)))

pub every-past : (b : List ℕ) (k step n i : ℕ) → n ≤ i → every b k step n ! i ≡ 0
every-past b k step n i h = get_or-eq_default (every b k step n) 0 (rw length-every h)

pub fields_at : (b : List ℕ) (k n i : ℕ) → i < n → fields b k n ! i ≡ b ! (k + i)
fields_at b k n i h = every-at b k 1 n i h ∙ rw mul-one

-- the fields from the field at k on, of which n are left: the first and the others
pub every-next : (b : List ℕ) (k step n : ℕ) → 0 < n → every b k step n ≡ b ! k ∷ every b (k + step) step (n - 1)
unfolding every
every-next b k step zero h = absurd (omega arith)
every-next b k step (suc n) h = let e : suc n - 1 ≡ n = omega arith in rw e

from_next : (p : ℕ → ℕ → Bool) (i : ℕ) (b : List ℕ) (k step n : ℕ) → 0 < n → all_from p i (every b k step n) ≡ (p i (b ! k) and all_from p (i + 1) (every b (k + step) step (n - 1)))
unfolding all_from
from_next p i b k step n h = rw (every-next b k step n h)

-- A loop along n fields has come to the one at k, its i-th: that one passes, it does not, or there is none.
module _ (p : ℕ → ℕ → Bool) (b : List ℕ) (k step n i : ℕ) where
  pub from-passed : i < n → p i (b ! k) ≡ true → all_from p i (every b k step (n - i)) ≡ all_from p (i + 1) (every b (k + step) step (n - (i + 1)))
  from-passed h e = let less : n - i - 1 ≡ n - (i + 1) = omega arith in rw (← less) (from_next p i b k step (n - i) (omega arith) ∙ and-on _ e)

  pub from-failed : i < n → p i (b ! k) ≡ false → all_from p i (every b k step (n - i)) ≡ false
  from-failed h e = from_next p i b k step (n - i) (omega arith) ∙ and-off _ e

  pub from-done : n ≤ i → all_from p i (every b k step (n - i)) ≡ true
  unfolding all_from every
  from-done h = let none : n - i ≡ 0 = omega arith in rw none

-- a test that does not look at the place
as-from : (f : ℕ → Bool) (i : ℕ) (l : List ℕ) → all f l ≡ all_from (λ j x. f x) i l
unfolding all all_from
as-from f i [] = refl
as-from f i (x ∷ l) = ap (λ (t : Bool). f x and t) (as-from f (i + 1) l)

module _ (f : ℕ → Bool) (b : List ℕ) (k step n i : ℕ) where
  pub all-passed : i < n → f (b ! k) ≡ true → all f (every b k step (n - i)) ≡ all f (every b (k + step) step (n - (i + 1)))
  all-passed h e = as-from f i _ ∙ from-passed (λ j x. f x) b k step n i h e ∙ sym (as-from f (i + 1) _)

  pub all-failed : i < n → f (b ! k) ≡ false → all f (every b k step (n - i)) ≡ false
  all-failed h e = as-from f i _ ∙ from-failed (λ j x. f x) b k step n i h e

  pub all_done : n ≤ i → all f (every b k step (n - i)) ≡ true
  all_done h = as-from f i _ ∙ from-done (λ j x. f x) b k step n i h

-- a test of what stands in records
pub all_map : {A : Type 0} (f : ℕ → Bool) (g : A → ℕ) (l : List A) → all (λ (a : A). f (g a)) l ≡ all f (map g l)
unfolding all
all_map f g [] = refl
all_map f g (a ∷ l) = ap (λ (x : Bool). f (g a) and x) (all_map f g l)

-- what an iterator along fields yields
abbrev pub left_of : Fields → List ℕ
left_of f = every (body_at f.image.now f.place) f.next f.step f.many

pub yields-fields : (f : Fields) (xs : List ℕ) → every (body_at f.image.now f.place) f.next f.step f.many ≡ xs → YieldsList (YieldsFirst left_of) (λ x. x) f xs
yields-fields f xs e = YieldsList-from_first (λ x. x) left_of xs e

-- the library's `all` and that of the questions are one
pub all-same : (p : ℕ → Bool) (l : List ℕ) → list_all p l ≡ all p l
unfolding all ◌and◌
all-same p [] = refl
all-same p (x ∷ l) = ap (λ (t : Bool). p x && t) (all-same p l)

-- and those that look at the place
pub all_from-same : (p : ℕ → ℕ → Bool) (i : ℕ) (l : List ℕ) → list_all (λ x. p x.0 x.1) (enumerate_from i l) ≡ all_from p i l
unfolding all_from ◌and◌
all_from-same p i [] = refl
all_from-same p i (x ∷ l) = ap (λ (t : Bool). p i x && t) (all_from-same p (i + 1) l)
