-- 02, 14: the claims hold.
use Rattle.std.specs.Prelude.{Err, Ok, None, Some, Option}
use mathlib.Core.Path.{◌≡◌, refl, sym, ap, ◌∙◌, subst}
use mathlib.Core.Logic.{inl, inr}
use mathlib.Core.List.{List, [], ◌∷◌}
use mathlib.Core.Bool.{Bool, true, false, cond, not, true≢false}
use Prim.Native.Nat.{ℕ}
use native.Mathlib.Nat.{zero-add}
use native.Mathlib.Omega.{arith}
use lib.ListN.{set}
use lib.Dec.{eqb}
use borrow.Author.Tests.{ne_eqb, not-true, eqb-false}
use Rattle.layout.specs.Records.{◌!◌, records}
use Rattle.layout.proofs.Bools.{and_both, and-on}
use Rattle.program.specs.Program.{program}
use Rattle.checker.specs.Verdicts.{verdict_of, Verdict, refused}
use Rattle.checker.specs.declared.Refusal.{Refusal}
use Rattle.mends.specs.declared.Mended.TheVariants.{Refused, Byte, Unmended}
use Rattle.mends.specs.Mends.{places, VALUES, is_accepted, mends_by, first_value, or_else, first_place, mendable, beside, mend_after, mend_of, to}
use Rattle.mends.specs.declared.Change.{Change}
use Rattle.mends.specs.Parts.{Among}
use Rattle.mends.specs.Claims.{MendsWell, NoneMends}
use Rattle.mends.proofs.Mending.{accepted-some}
use Rattle.mends.proofs.Parts.{among-number}

-- ---- what a search found

-- one change has one byte and one value
pub to-same : {p x q y : ℕ} → ◌≡◌ {A = Option Change} (Some (to p x)) (Some (to q y)) → (p ≡ q) × (x ≡ y)
to-same {p} {x} {q} {y} e = let z : to p x ≡ to q y = cc in (ap (λ (m : Change). m.at) z, ap (λ (m : Change). m.value) z)

pub value-some : (mends : ℕ → Bool) (p : ℕ) (xs : List ℕ) (q x : ℕ) → first_value mends p xs ≡ Some (to q x) → (q ≡ p) × (mends x ≡ true)
unfolding first_value
value-some mends p [] q x e = let z : ◌≡◌ {A = ℕ} 0 1 = cc in absurd (omega arith)
value-some mends p (y ∷ xs) q x e = go (mends y) refl e (value-some mends p xs q x)
  where
    go : (b : Bool) → mends y ≡ b → cond b (Some (to p y)) (first_value mends p xs) ≡ Some (to q x) → (first_value mends p xs ≡ Some (to q x) → (q ≡ p) × (mends x ≡ true)) → (q ≡ p) × (mends x ≡ true)
    go true f g ih = let t = to-same g in (sym t.0, subst (λ (i : ℕ). mends i ≡ true) t.1 f)
    go false f g ih = ih g

place-some : (mends : ℕ → ℕ → Bool) (values ps : List ℕ) (q x : ℕ) → first_place mends values ps ≡ Some (to q x) → Among q ps × (mends q x ≡ true)
unfolding first_place or_else Among
place-some mends values [] q x e = let z : ◌≡◌ {A = ℕ} 0 1 = cc in absurd (omega arith)
place-some mends values (p ∷ ps) q x e = go (first_value (mends p) p values) refl e (place-some mends values ps q x)
  where
    go : (c : Option Change) → first_value (mends p) p values ≡ c → or_else c (first_place mends values ps) ≡ Some (to q x) → (first_place mends values ps ≡ Some (to q x) → Among q ps × (mends q x ≡ true)) → Among q (p ∷ ps) × (mends q x ≡ true)
    go (Some hit) f g ih = let t = value-some (mends p) p values q x (f ∙ g) in (inl t.0, subst (λ (i : ℕ). mends i x ≡ true) (sym t.0) t.1)
    go None f g ih = let t = ih g in (inr t.0, t.1)

pub value_none : (mends : ℕ → Bool) (p : ℕ) (xs : List ℕ) → first_value mends p xs ≡ None → (x : ℕ) → Among x xs → mends x ≡ true → ⊥
unfolding first_value Among
value_none mends p [] e x a m = a
value_none mends p (y ∷ xs) e x a m = go (mends y) refl e a (value_none mends p xs)
  where
    go : (b : Bool) → mends y ≡ b → cond b (Some (to p y)) (first_value mends p xs) ≡ None → Among x (y ∷ xs) → (first_value mends p xs ≡ None → (x : ℕ) → Among x xs → mends x ≡ true → ⊥) → ⊥
    go true f g a ih = let z : ◌≡◌ {A = ℕ} 0 1 = cc in omega arith
    go false f g (inl h) ih = true≢false (sym m ∙ ap mends h ∙ f)
    go false f g (inr h) ih = ih g x h m

place_none : (mends : ℕ → ℕ → Bool) (values ps : List ℕ) → first_place mends values ps ≡ None → (p : ℕ) → Among p ps → (x : ℕ) → Among x values → mends p x ≡ true → ⊥
unfolding first_place or_else Among
place_none mends values [] e p a x b m = a
place_none mends values (q ∷ ps) e p a x b m = go (first_value (mends q) q values) refl e a (place_none mends values ps)
  where
    go : (c : Option Change) → first_value (mends q) q values ≡ c → or_else c (first_place mends values ps) ≡ None → Among p (q ∷ ps) → (first_place mends values ps ≡ None → (p : ℕ) → Among p ps → (x : ℕ) → Among x values → mends p x ≡ true → ⊥) → ⊥
    go (Some hit) f g a ih = let z : ◌≡◌ {A = ℕ} 0 1 = cc in omega arith
    go None f g (inl h) ih = value_none (mends q) q values f x b (subst (λ (i : ℕ). mends i x ≡ true) h m)
    go None f g (inr h) ih = ih g p h x b m

-- ---- the answer

found-byte : (why by : Refusal) (hit : Change) (c : Option Change) → beside why c ≡ Byte by hit → (why ≡ by) × (c ≡ Some hit)
unfolding beside
found-byte why by hit (Some m) e = let u : why ≡ by = cc in let v : m ≡ hit = cc in (u, rw v refl)
found-byte why by hit None e = let z : ◌≡◌ {A = ℕ} 0 1 = cc in absurd (omega arith)

found_none : (why by : Refusal) (c : Option Change) → beside why c ≡ Unmended by → c ≡ None
unfolding beside
found_none why by (Some hit) e = let z : ◌≡◌ {A = ℕ} 0 1 = cc in absurd (omega arith)
found_none why by None e = refl

module _ (s : List ℕ) where
  abbrev pub found : Option Change
  found = first_place (mends_by s) VALUES (places (program (records s)))

  -- what the answer says of the verdict
  pub answered_byte : (q r p x : ℕ) (v : Verdict) → verdict_of s ≡ v → mend_after v s ≡ Byte (refused q r) (to p x) → (verdict_of s ≡ Err (refused q r)) × (mendable q ≡ true) × (found ≡ Some (to p x))
  unfolding mend_after
  answered_byte q r p x (Ok n) e f = let z : ◌≡◌ {A = ℕ} 0 1 = cc in absurd (omega arith)
  answered_byte q r p x (Err why) e f = go (mendable why.question) refl f
    where
      go : (t : Bool) → mendable why.question ≡ t → cond t (beside why found) (Refused why) ≡ Byte (refused q r) (to p x) → (verdict_of s ≡ Err (refused q r)) × (mendable q ≡ true) × (found ≡ Some (to p x))
      go true g h = let t = found-byte why (refused q r) (to p x) found h in (e ∙ rw t.0 refl, ap (λ (w : Refusal). mendable w.question) (sym t.0) ∙ g, t.1)
      go false g h = let z : ◌≡◌ {A = ℕ} 0 1 = cc in absurd (omega arith)

  answered-none : (q r : ℕ) (v : Verdict) → verdict_of s ≡ v → mend_after v s ≡ Unmended (refused q r) → found ≡ None
  unfolding mend_after
  answered-none q r (Ok n) e f = let z : ◌≡◌ {A = ℕ} 0 1 = cc in absurd (omega arith)
  answered-none q r (Err why) e f = go (mendable why.question) f
    where
      go : (t : Bool) → cond t (beside why found) (Refused why) ≡ Unmended (refused q r) → found ≡ None
      go true h = found_none why (refused q r) found h
      go false h = let z : ◌≡◌ {A = ℕ} 0 1 = cc in absurd (omega arith)

-- THE LAW: a byte that is named mends
pub mends-well : MendsWell
unfolding MendsWell mend_of mends_by
mends-well s q r p x e =
    let a = answered_byte s q r p x (verdict_of s) refl e in
    let f = place-some (mends_by s) VALUES (places (program (records s))) p x a.2 in
    let m = and_both (not (eqb x (s ! p))) (is_accepted (verdict_of (set s p x))) f.1 in
    let k = accepted-some (verdict_of (set s p x)) m.1 in
    record { refused = a.0; may = a.1; place = f.0; other = eqb-false x (s ! p) (not-true _ m.0); versions = k.0; accepted = k.1 }

-- THE LAW: where none is named, none mends
pub none-mends : NoneMends
unfolding NoneMends mend_of mends_by
none-mends s q r e p x l m =
    place_none (mends_by s) VALUES (places (program (records s))) (answered-none s q r (verdict_of s) refl e) p m.place x (subst (λ (i : ℕ). Among i VALUES) (zero-add x) (among-number 0 256 x l))
    (and-on (is_accepted (verdict_of (set s p x))) (rw (ne_eqb x (s ! p) m.other) refl) ∙ rw m.accepted refl)
