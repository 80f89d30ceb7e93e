-- A search that passes over values that cannot mend finds the same, and a search in two parts is one.
use Rattle.std.specs.Prelude.{None, Some, Option}
use mathlib.Core.Path.{◌≡◌, refl, ap, ap₂, ◌∙◌}
use mathlib.Core.Logic.{inl, inr}
use mathlib.Core.List.{List, [], ◌∷◌, ◌++◌}
use mathlib.Core.Bool.{Bool, true, false, cond}
use Prim.Native.Nat.{ℕ}
use Rattle.mends.specs.declared.Change.{Change}
use Rattle.mends.specs.Mends.{first_value, or_else, first_place, to}
use Rattle.mends.specs.Parts.{Among}

-- those that pass a test
unfoldable pub kept : (ℕ → Bool) → List ℕ → List ℕ
kept t [] = []
kept t (x ∷ xs) = cond (t x) (x ∷ kept t xs) (kept t xs)

values-kept : (mends t : ℕ → Bool) (p : ℕ) (xs : List ℕ) → ((x : ℕ) → t x ≡ false → mends x ≡ false) → first_value mends p (kept t xs) ≡ first_value mends p xs
unfolding first_value kept
values-kept mends t p [] h = refl
values-kept mends t p (x ∷ xs) h = go (t x) refl (values-kept mends t p xs h)
  where
    go : (b : Bool) → t x ≡ b → first_value mends p (kept t xs) ≡ first_value mends p xs → first_value mends p (cond b (x ∷ kept t xs) (kept t xs)) ≡ cond (mends x) (Some (to p x)) (first_value mends p xs)
    go true e ih = rw ih refl
    go false e ih = rw (h x e) ih

pub places-kept : (mends : ℕ → ℕ → Bool) (t : ℕ → Bool) (values ps : List ℕ) → ((p : ℕ) → Among p ps → (x : ℕ) → t x ≡ false → mends p x ≡ false) → first_place mends (kept t values) ps ≡ first_place mends values ps
unfolding first_place Among
places-kept mends t values [] h = refl
places-kept mends t values (p ∷ ps) h = ap₂ or_else (values-kept (mends p) t p values (h p (inl refl))) (places-kept mends t values ps (λ q a. h q (inr a)))

or_assoc : (a b c : Option Change) → or_else a (or_else b c) ≡ or_else (or_else a b) c
unfolding or_else
or_assoc (Some hit) b c = refl
or_assoc None b c = refl

pub places-both : (mends : ℕ → ℕ → Bool) (values a b : List ℕ) → first_place mends values (a ++ b) ≡ or_else (first_place mends values a) (first_place mends values b)
unfolding first_place or_else
places-both mends values [] b = refl
places-both mends values (p ∷ a) b = ap (or_else (first_value (mends p) p values)) (places-both mends values a b) ∙ or_assoc (first_value (mends p) p values) (first_place mends values a) (first_place mends values b)
