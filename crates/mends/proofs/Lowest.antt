-- 02, 14: lowest offset first, then lowest new value: places and values are looked at in rising order.
use Rattle.std.specs.Prelude.{None, Some, Option}
use mathlib.Core.Path.{◌≡◌, refl, sym, ap, ◌∙◌, subst}
use mathlib.Core.Logic.{◌⊎◌, inl, inr}
use mathlib.Core.List.{List, [], ◌∷◌, ◌++◌, flat_map}
use mathlib.Core.Bool.{Bool, true, false, cond, true≢false}
use Prim.Native.Nat.{ℕ, zero, suc, ◌+◌, ◌≤◌, ◌<◌}
use native.Mathlib.Nat.{zero-add}
use native.Mathlib.Omega.{arith}
use lib.ListN.{length, set}
use lib.Dec.{eqb}
use borrow.Author.Tests.{eqb-true, ne_eqb}
use Rattle.layout.specs.Kinds as kind
use Rattle.layout.specs.Records.{Rec, ◌!◌, records, fields}
use Rattle.layout.proofs.Behind.{Chain, chained}
use Rattle.layout.proofs.Bools.{and-on}
use Rattle.layout.proofs.Fields.{length-every}
use Rattle.program.specs.Program.{Program, version_of, view, program}
use Rattle.program.specs.Places.{numbers}
use Rattle.program.proofs.Programs.{no-versions, program-version, program-other}
use Rattle.checker.specs.Verdicts.{verdict_of}
use Rattle.mends.specs.declared.Change.{Change}
use Rattle.mends.specs.Mends.{type_places, places, VALUES, is_accepted, mends_by, first_value, or_else, first_place, mend_of, to}
use Rattle.mends.specs.Parts.{Among}
use Rattle.mends.specs.Claims.{LowestFirst}
use Rattle.mends.proofs.Changed.{Sets, sets-from}
use Rattle.mends.proofs.Claimed.{to-same, value-some, value_none, answered_byte}
use Rattle.mends.proofs.Mending.{sound-records}
use Rattle.mends.proofs.Parts.{among-number}

-- ---- numbers in rising order

-- each is at least c and above those before it
unfoldable Rising : ℕ → List ℕ → Type 0
Rising c [] = Unit {0}
Rising c (x ∷ xs) = (c ≤ x) × Rising (suc x) xs

rising-from : (c d : ℕ) (l : List ℕ) → c ≤ d → Rising d l → Rising c l
unfolding Rising
rising-from c d [] h r = tt
rising-from c d (x ∷ l) h r = (omega (arith, h, r.0), r.1)

rising-among : (c y : ℕ) (l : List ℕ) → Rising c l → Among y l → c ≤ y
unfolding Rising Among
rising-among c y [] r a = absurd a
rising-among c y (x ∷ l) r (inl e) = omega (arith, e, r.0)
rising-among c y (x ∷ l) r (inr a) = omega (arith, r.0, rising-among (suc x) y l r.1 a)

rising-numbers : (k n : ℕ) (l : List ℕ) → Rising (k + n) l → Rising k (numbers k n ++ l)
unfolding Rising numbers
rising-numbers k zero l r = rising-from k (k + 0) l (omega arith) r
rising-numbers k (suc n) l r = let e : k + suc n ≡ k + 1 + n = omega arith in (omega arith, rising-from (suc k) (k + 1) (numbers (k + 1) n ++ l) (omega arith) (rising-numbers (k + 1) n l (rw e at r)))

-- ---- what a search finds is the lowest

value-lowest : (mends : ℕ → Bool) (p c : ℕ) (xs : List ℕ) (q x : ℕ) → Rising c xs → first_value mends p xs ≡ Some (to q x) → (y : ℕ) → Among y xs → mends y ≡ true → x ≤ y
unfolding first_value Rising Among
value-lowest mends p c [] q x r e y a m = absurd a
value-lowest mends p c (z ∷ xs) q x r e y a m = go (mends z) refl e a (value-lowest mends p (suc z) xs q x r.1)
  where
    go : (b : Bool) → mends z ≡ b → cond b (Some (to p z)) (first_value mends p xs) ≡ Some (to q x) → Among y (z ∷ xs) → (first_value mends p xs ≡ Some (to q x) → (y : ℕ) → Among y xs → mends y ≡ true → x ≤ y) → x ≤ y
    go true f g (inl h) ih = omega (arith, (to-same g).1, h)
    go true f g (inr h) ih = omega (arith, (to-same g).1, rising-among (suc z) y xs r.1 h)
    go false f g (inl h) ih = absurd (true≢false (sym m ∙ ap mends h ∙ f))
    go false f g (inr h) ih = ih g y h m

place-lowest : (mends : ℕ → ℕ → Bool) (values : List ℕ) (c d : ℕ) (ps : List ℕ) (p x : ℕ) → Rising c ps → Rising d values → first_place mends values ps ≡ Some (to p x)
    → (p' x' : ℕ) → Among p' ps → Among x' values → mends p' x' ≡ true → (p < p') ⊎ ((p ≡ p') × (x ≤ x'))
unfolding first_place or_else Rising Among
place-lowest mends values c d [] p x r v e p' x' a b m = absurd a
place-lowest mends values c d (z ∷ ps) p x r v e p' x' a b m = go (first_value (mends z) z values) refl e a (place-lowest mends values (suc z) d ps p x r.1 v)
  where
    go : (k : Option Change) → first_value (mends z) z values ≡ k → or_else k (first_place mends values ps) ≡ Some (to p x) → Among p' (z ∷ ps)
        → (first_place mends values ps ≡ Some (to p x) → (p' x' : ℕ) → Among p' ps → Among x' values → mends p' x' ≡ true → (p < p') ⊎ ((p ≡ p') × (x ≤ x'))) → (p < p') ⊎ ((p ≡ p') × (x ≤ x'))
    go (Some hit) f g (inl h) ih =
        let t = value-some (mends z) z values p x (f ∙ g) in
        inr (t.0 ∙ sym h, value-lowest (mends z) z d values p x v (f ∙ g) x' b (subst (λ (j : ℕ). mends j x' ≡ true) h m))
    go (Some hit) f g (inr h) ih = let t = value-some (mends z) z values p x (f ∙ g) in inl (omega (arith, t.0, rising-among (suc z) p' ps r.1 h))
    go None f g (inl h) ih = absurd (value_none (mends z) z values f x' b (subst (λ (j : ℕ). mends j x' ≡ true) h m))
    go None f g (inr h) ih = ih g p' x' h b m

-- ---- the places of an image rise

rising_none : (c : ℕ) → Rising c (places [])
unfolding Rising flat_map
rising_none c = tt

places-rise : (rs : List Rec) (c e : ℕ) → Sets rs → Chain c rs e → Rising c (places (program rs))
unfolding Sets Chain flat_map
places-rise [] c e f ch = subst (λ (vs : Program). Rising c (places vs)) (sym no-versions) (rising_none c)
places-rise (r ∷ rs) c e f ch = go (eqb r.kind kind.VERSION) refl (places-rise rs (c + r.size) e f.1 ch.2)
  where
    go : (b : Bool) → eqb r.kind kind.VERSION ≡ b → Rising (c + r.size) (places (program rs)) → Rising c (places (program (r ∷ rs)))
    go true k ih =
        let v = version_of r (view rs).level (view rs).blocks in
        let n = r.body ! 3 in
        let many : length (fields r.body 6 n) ≡ n = length-every r.body 6 1 n in
        let z : r.size ≡ 10 + n = f.0.version (eqb-true r.kind kind.VERSION k) in
        subst (λ (vs : Program). Rising c (places vs)) (sym (program-version r rs (omega (arith, f.0.size)) k))
        (rising-from c (r.at + 10) (type_places v ++ places (program rs)) (omega (arith, ch.0))
        (rising-numbers (r.at + 10) (length (fields r.body 6 n)) (places (program rs)) (rising-from (r.at + 10 + length (fields r.body 6 n)) (c + r.size) (places (program rs)) (omega (arith, ch.0, many, z)) ih)))
    go false k ih = subst (λ (vs : Program). Rising c (places vs)) (sym (program-other r rs (omega (arith, f.0.size)) k)) (rising-from c (c + r.size) (places (program rs)) (omega arith) ih)

values-rise : Rising 0 VALUES
unfolding Rising
values-rise = subst (Rising 0) (append-none (numbers 0 256)) (rising-numbers 0 256 [] tt)
  where
    append-none : (l : List ℕ) → l ++ [] ≡ l
    append-none [] = refl
    append-none (x ∷ l) = ap (λ (t : List ℕ). x ∷ t) (append-none l)

-- THE LAW
pub lowest-first : LowestFirst
unfolding LowestFirst mend_of mends_by
lowest-first s q r p x e p' x' l m =
    let a = answered_byte s q r p x (verdict_of s) refl e in
    let w = sound-records s q r a.1 a.0 in
    place-lowest (mends_by s) VALUES 0 0 (places (program (records s))) p x
    (places-rise (records s) 0 (length s) (sets-from (records s) 0 (length s) (chained s w.1) w.2) (chained s w.1)) values-rise a.2 p' x' m.place
    (subst (λ (i : ℕ). Among i VALUES) (zero-add x') (among-number 0 256 x' l)) (and-on (is_accepted (verdict_of (set s p' x'))) (rw (ne_eqb x' (s ! p') m.other) refl) ∙ rw m.accepted refl)
