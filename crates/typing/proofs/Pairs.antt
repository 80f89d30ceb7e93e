-- The arguments of a call, as loops along their fields meet them.
use mathlib.Core.Path.{◌≡◌, refl, ap, sym, ◌∙◌}
use mathlib.Core.List.{List, [], ◌∷◌}
use mathlib.Core.Bool.{Bool, true, false, cond, ◌||◌}
use Prim.Native.Nat.{ℕ, zero, suc, ◌+◌, ◌-◌, ◌≤◌, ◌<◌}
use native.Mathlib.Nat.{zero-add}
use native.Mathlib.Omega.{arith}
use lib.ListN.{take, length}
use Rattle.std.specs.List.{list_any, filter}
use Rattle.layout.proofs.Fields.{length-every}
use lib.Dec.{eqb}
use Rattle.layout.specs.Tests.{◌and◌, all, any, count}
use Rattle.layout.specs.Records.{◌!◌, every, body_at}
use Rattle.layout.proofs.Bools.{and-on, and-off}
use Rattle.program.specs.Program.{Argument, arguments, beside, given}
use Rattle.program.specs.Places.{version_at}
use Rattle.rules.specs.Types.{is_owned}
use Rattle.typing.specs.Calls.{pairs, least, arguments_at, call_of, dispatch_of}

module _ (b : List ℕ) (k : ℕ) (c : List ℕ) (l step : ℕ) where
  -- the argument whose type stands in the field k and whose register stands in the field l
  abbrev pub pair : Argument
  pair = record { type = b ! k; register = c ! l }

  more : (m : ℕ) → pairs b k c l step (suc m) ≡ pair ∷ pairs b (k + step) c (l + step) step m
  unfolding every beside
  more m = refl

  -- A loop along n arguments has come to its i-th, or behind the last.
  pairs_next : (n i : ℕ) → i < n → pairs b k c l step (n - i) ≡ pair ∷ pairs b (k + step) c (l + step) step (n - (i + 1))
  pairs_next n i h = let e : n - i ≡ suc (n - (i + 1)) = omega arith in rw e (more (n - (i + 1)))

  pairs-done : (n i : ℕ) → n ≤ i → pairs b k c l step (n - i) ≡ []
  unfolding every beside
  pairs-done n i h = let e : n - i ≡ 0 = omega arith in rw e

  module _ (f : Argument → Bool) (n i : ℕ) where
    pub all-passed : i < n → f pair ≡ true → all f (pairs b k c l step (n - i)) ≡ all f (pairs b (k + step) c (l + step) step (n - (i + 1)))
    unfolding all
    all-passed h e = rw (pairs_next n i h) (and-on _ e)

    pub all-failed : i < n → f pair ≡ false → all f (pairs b k c l step (n - i)) ≡ false
    unfolding all
    all-failed h e = rw (pairs_next n i h) (and-off _ e)

    pub all_done : n ≤ i → all f (pairs b k c l step (n - i)) ≡ true
    unfolding all
    all_done h = rw (pairs-done n i h)

    pub any_met : i < n → f pair ≡ true → any f (pairs b k c l step (n - i)) ≡ true
    unfolding any
    any_met h e = rw (pairs_next n i h, e)

    pub any-passed : i < n → f pair ≡ false → any f (pairs b k c l step (n - i)) ≡ any f (pairs b (k + step) c (l + step) step (n - (i + 1)))
    unfolding any
    any-passed h e = rw (pairs_next n i h, e)

    pub any-done : n ≤ i → any f (pairs b k c l step (n - i)) ≡ false
    unfolding any
    any-done h = rw (pairs-done n i h)

    pub count-met : i < n → f pair ≡ true → count f (pairs b k c l step (n - i)) ≡ 1 + count f (pairs b (k + step) c (l + step) step (n - (i + 1)))
    unfolding count
    count-met h e = rw (pairs_next n i h, e)

    pub count-passed : i < n → f pair ≡ false → count f (pairs b k c l step (n - i)) ≡ count f (pairs b (k + step) c (l + step) step (n - (i + 1)))
    unfolding count
    count-passed h e = rw (pairs_next n i h, e, zero-add)

    pub count-done : n ≤ i → count f (pairs b k c l step (n - i)) ≡ 0
    unfolding count
    count-done h = rw (pairs-done n i h)

-- ---- tests that look at one side alone

-- how often a register stands in a call does not depend on the types
pub types-free : (r : ℕ) (b : List ℕ) (k : ℕ) (d : List ℕ) (j : ℕ) (c : List ℕ) (l step n : ℕ) → count (λ (a : Argument). eqb a.register r) (pairs b k c l step n) ≡ count (λ (a : Argument). eqb a.register r) (pairs d j c l step n)
unfolding count every beside
types-free r b k d j c l step zero = refl
types-free r b k d j c l step (suc n) = ap (λ (m : ℕ). cond (eqb (c ! l) r) 1 0 + m) (types-free r b (k + step) d (j + step) c (l + step) step n)

-- whether a call empties does not depend on the registers
pub registers-free : (b : List ℕ) (k : ℕ) (c : List ℕ) (l : ℕ) (d : List ℕ) (j step n : ℕ) → any (λ (a : Argument). is_owned a.type) (pairs b k c l step n) ≡ any (λ (a : Argument). is_owned a.type) (pairs b k d j step n)
unfolding any every beside
registers-free b k c l d j step zero = refl
registers-free b k c l d j step (suc n) = ap (λ (x : Bool). is_owned (b ! k) || x) (registers-free b (k + step) c (l + step) d (j + step) step n)

-- ---- the smaller of two numbers

pub least_first : (x y : ℕ) → x < y → x ≡ least x y
unfolding least
least_first zero y h = refl
least_first (suc x) zero h = absurd (omega arith)
least_first (suc x) (suc y) h = ap suc (least_first x y (omega arith))

pub least-second : (x y : ℕ) → y ≤ x → y ≡ least x y
unfolding least
least-second zero y h = omega arith
least-second (suc x) zero h = refl
least-second (suc x) (suc y) h = ap suc (least-second x y (omega arith))

pub least-small : (x y : ℕ) → least x y ≤ x
unfolding least
least-small zero y = omega arith
least-small (suc x) zero = omega arith
least-small (suc x) (suc y) = omega (arith, least-small x y)

-- ---- what CALL and DISPATCH give

taken : (b : List ℕ) (k : ℕ) (c : List ℕ) (l : ℕ) (x y z : ℕ) → beside (take x (every b k 1 y)) (every c l 1 z) ≡ pairs b k c l 1 (least x (least y z))
unfolding least every beside
taken b k c l zero y z = refl
taken b k c l (suc x) zero z = refl
taken b k c l (suc x) (suc y) zero = refl
taken b k c l (suc x) (suc y) (suc z) = ap (λ (m : List Argument). pair b k c l 1 ∷ m) (taken b (k + 1) c (l + 1) x y z)

pub call-arguments : (s : List ℕ) (p q : ℕ) → given (version_at s q) (every (body_at s p) 4 1 (body_at s p ! 3)) ≡ arguments_at s p (call_of s p q)
unfolding arguments_at call_of version_at
call-arguments s p q = taken (body_at s q) 6 (body_at s p) 4 (body_at s q ! 2) (body_at s q ! 3) (body_at s p ! 3)

paired : (b : List ℕ) (k n : ℕ) → arguments b k n ≡ pairs b k b (k + 1) 2 n
unfolding arguments every beside
paired b k zero = refl
paired b k (suc n) = let e : k + 2 + 1 ≡ k + 1 + 2 = omega arith in ap (λ (m : List Argument). record { type = b ! k; register = b ! (k + 1) } ∷ m) (rw e at (paired b (k + 2) n))

pub dispatch-arguments : (s : List ℕ) (p : ℕ) → arguments (body_at s p) 5 (body_at s p ! 4) ≡ arguments_at s p (dispatch_of s p)
unfolding arguments_at dispatch_of
dispatch-arguments s p = paired (body_at s p) 5 (body_at s p ! 4)

-- a test of the types alone, and a count of the registers alone
any-beside : (p : ℕ → Bool) (ts rs : List ℕ) → length ts ≡ length rs → list_any p ts ≡ any (λ (a : Argument). p a.type) (beside ts rs)
unfolding any beside
any-beside p [] rs e = refl
any-beside p (t ∷ ts) [] e = absurd (omega (arith, e))
any-beside p (t ∷ ts) (r ∷ rs) e = ap (λ (b : Bool). p t || b) (any-beside p ts rs (omega (arith, e)))

pub any-types : (p : ℕ → Bool) (b c : List ℕ) (k l step n : ℕ) → list_any p (every b k step n) ≡ any (λ (a : Argument). p a.type) (pairs b k c l step n)
any-types p b c k l step n = any-beside p _ _ (length-every b k step n ∙ sym (length-every c l step n))

count-beside : (p : ℕ → Bool) (ts rs : List ℕ) → length ts ≡ length rs → length (filter p rs) ≡ count (λ (a : Argument). p a.register) (beside ts rs)
unfolding count beside
count-beside p [] [] e = refl
count-beside p [] (r ∷ rs) e = absurd (omega (arith, e))
count-beside p (t ∷ ts) [] e = absurd (omega (arith, e))
count-beside p (t ∷ ts) (r ∷ rs) e = go (p r) (count-beside p ts rs (omega (arith, e)))
  where
    go : {m : ℕ} (b : Bool) → length (filter p rs) ≡ m → length (cond b (r ∷ filter p rs) (filter p rs)) ≡ cond b 1 0 + m
    go true f = omega (arith, f)
    go false f = omega (arith, f)

pub count-registers : (p : ℕ → Bool) (b c : List ℕ) (k l step n : ℕ) → length (filter p (every c l step n)) ≡ count (λ (a : Argument). p a.register) (pairs b k c l step n)
count-registers p b c k l step n = count-beside p _ _ (length-every b k step n ∙ sym (length-every c l step n))
