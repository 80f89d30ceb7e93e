-- What stays of a program with one register type byte changed, and what the byte must be for question 6.
use mathlib.Core.Path.{◌≡◌, refl, subst}
use mathlib.Core.List.{List, [], ◌∷◌}
use mathlib.Core.Option.{Option, none, some}
use mathlib.Core.Bool.{Bool, true, false, cond, not}
use Prim.Native.Nat.{ℕ, zero, suc, ◌+◌, ◌-◌, ◌<◌}
use native.Mathlib.Omega.{arith}
use lib.ListN.{length, set}
use lib.Dec.{eqb, ltb}
use borrow.Author.Tests.{ltb-true, leb-true}
use Rattle.layout.specs.Tests.{◌and◌, all_from}
use Rattle.layout.proofs.Bools.{and_both}
use Rattle.program.specs.Program.{Version, Program, find_version}
use Rattle.program.proofs.Held.{Held}
use Rattle.rules.specs.Types.{is_borrowed, parameter_type, register_type}
use Rattle.rules.specs.Questions.{type_allowed, version_types, question6}
use Rattle.mends.specs.Retyped.{with_types, within, retype_one, retype}

-- what is found, changed
unfoldable pub mapped : (Version → Version) → Option Version → Option Version
mapped g none = none
mapped g (some v) = some (g v)

module _ (p x : ℕ) where
  -- the version that has the byte
  retyped-own : (v : Version) → within p (length v.types) v ≡ true → retype_one p x v ≡ with_types v (set v.types (p - (v.at + 10)) x)
  unfolding retype_one
  retyped-own v e = rw e refl

  -- what stays of every version: where it stands and its numbers
  pub record Stays (v u : Version) : Type 0 where
    pub at : u.at ≡ v.at
    pub function : u.function ≡ v.function
    pub version : u.version ≡ v.version

  pub stays : (v : Version) → Stays v (retype_one p x v)
  unfolding retype_one
  stays v = go (within p (length v.types) v)
    where
      go : (b : Bool) → Stays v (cond b (with_types v (set v.types (p - (v.at + 10)) x)) v)
      go true = record { at = refl; function = refl; version = refl }
      go false = record { at = refl; function = refl; version = refl }

  pub find-retyped : (P : Program) (g y : ℕ) → find_version (retype p x P) g y ≡ mapped (retype_one p x) (find_version P g y)
  unfolding find_version mapped retype_one
  find-retyped [] g y = refl
  find-retyped (v ∷ P) g y = rw ((stays v).function, (stays v).version) (go (eqb v.function g and eqb v.version y) (find-retyped P g y))
    where
      go : (b : Bool) → find_version (retype p x P) g y ≡ mapped (retype_one p x) (find_version P g y) → cond b (some (retype_one p x v)) (find_version (retype p x P) g y) ≡ mapped (retype_one p x) (cond b (some v) (find_version P g y))
      go true ih = refl
      go false ih = ih

-- ---- the values that can mend

allowed_at : (n r i x : ℕ) (ts : List ℕ) → i < length ts → all_from (type_allowed n) r (set ts i x) ≡ true → type_allowed n (r + i) x ≡ true
unfolding all_from
allowed_at n r i x [] h q = absurd (omega arith)
allowed_at n r zero x (t ∷ ts) h q = let e : r + 0 ≡ r = omega arith in rw e (and_both _ _ q).0
allowed_at n r (suc i) x (t ∷ ts) h q = let e : r + suc i ≡ r + 1 + i = omega arith in rw e (allowed_at n (r + 1) i x ts (omega arith) (and_both _ _ q).1)

any-type : (n r x : ℕ) → type_allowed n r x ≡ true → parameter_type x ≡ true
unfolding type_allowed register_type
any-type n r x q = go (ltb r n) q
  where
    go : (b : Bool) → cond b (parameter_type x) (parameter_type x and not (is_borrowed x)) ≡ true → parameter_type x ≡ true
    go true e = e
    go false e = (and_both _ _ e).0

-- a value that makes question 6 pass is a type byte
pub own-type : (p x : ℕ) (v : Version) → within p (length v.types) v ≡ true → Held question6 (retype_one p x v) → parameter_type x ≡ true
unfolding version_types within
own-type p x v h g =
    let i = p - (v.at + 10) in
    let b = and_both _ _ h in
    let l : i < length v.types = omega (arith, leb-true (v.at + 10) p b.0, ltb-true p (v.at + 10 + length v.types) b.1) in
    let q : version_types (with_types v (set v.types i x)) ≡ true = subst (λ (u : Version). version_types u ≡ true) (retyped-own p x v h) g.of_version in
    any-type v.parameters (0 + i) x (allowed_at v.parameters 0 i x v.types l (and_both _ _ q).0)
