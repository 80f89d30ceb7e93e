-- 02, 14: a place and a value that mend: the byte is a register type of a VERSION, and the value is a type byte.
use Rattle.std.specs.Prelude.{None, Some, Err, Ok}
use mathlib.Core.Path.{◌≡◌, refl, sym, ap, ◌∙◌, subst}
use Rattle.layout.specs.Found.{Found}
use mathlib.Core.Logic.{◌⊎◌, inl, inr}
use mathlib.Core.List.{List, [], ◌∷◌, ◌++◌, map, flat_map}
use mathlib.Core.Bool.{Bool, true, false, true≢false}
use Prim.Native.Nat.{ℕ, zero, suc, ◌+◌, ◌≤◌, ◌<◌}
use native.Mathlib.Omega.{arith}
use lib.ListN.{length, set}
use lib.Dec.{eqb}
use borrow.Author.Tests.{eqb-true}
use Rattle.layout.specs.Kinds as kind
use Rattle.layout.specs.Tests.{◌and◌}
use Rattle.layout.specs.Records.{Rec, ◌!◌, records, fields}
use Rattle.layout.specs.Questions.{question1, question2, question3}
use Rattle.layout.specs.declared.Form.{Form}
use Rattle.layout.proofs.Behind.{chained}
use Rattle.layout.proofs.Bools.{and_both}
use Rattle.layout.proofs.Fields.{length-every}
use Rattle.program.specs.Program.{Version, Program, version_of, view, program}
use Rattle.program.specs.Search.{Question, first}
use Rattle.program.specs.Places.{numbers}
use Rattle.program.proofs.Held.{Held, Helds, helds}
use Rattle.program.proofs.Programs.{no-versions, program-version, program-other}
use Rattle.rules.specs.Types.{parameter_type, kind_of, ownership_of, is_shared, is_owned, is_borrowed, is_vector}
use Rattle.rules.specs.Questions.{question6}
use Rattle.checker.specs.Verdicts.{ask, verdict_of, verdict_in, Verdict, refused}
use Rattle.checker.proofs.Accepted.{passed}
use Rattle.checker.proofs.Asks.{refused-same}
use Rattle.mends.specs.Mends.{type_places, places, VALUES, is_accepted, mends_by, first_place, mendable}
use Rattle.mends.specs.Parts.{Among, TYPES}
use Rattle.mends.specs.Retyped.{within, retype_one, retype}
use Rattle.mends.proofs.Changed.{Sets, sets-from, Typed, Asides, asides, program-changed, in-range}
use Rattle.mends.proofs.Retypes.{own-type}
use Rattle.mends.proofs.Searches.{kept, places-kept}

-- ---- an image that is refused by 6, 8, 9 or 10

pub refused-behind : (n q r : ℕ) (x : Found) (more : Verdict) → mendable n ≡ false → mendable q ≡ true → ask n x more ≡ Err (refused q r) → (x ≡ None) × (more ≡ Err (refused q r))
unfolding ask
refused-behind n q r None more a b e = (refl, e)
refused-behind n q r (Some p) more a b e = absurd (true≢false (sym b ∙ ap mendable (sym (refused-same e).0) ∙ a))

-- it passed 1, 2 and 3
pub sound-records : (s : List ℕ) (q r : ℕ) → mendable q ≡ true → verdict_of s ≡ Err (refused q r) → (question1 s ≡ None) × (question2 (records s) ≡ None) × (question3 Form.Wide (records s) ≡ None)
unfolding verdict_in mendable
sound-records s q r m e =
    let e1 = refused-behind 1 q r _ _ refl m e in
    let e2 = refused-behind 2 q r _ _ refl m e1.1 in
    let e3 = refused-behind 3 q r _ _ refl m e2.1 in
    (e1.0, e2.0, e3.0)

-- ---- places

among-either : (p : ℕ) (a b : List ℕ) → Among p (a ++ b) → Among p a ⊎ Among p b
unfolding Among
among-either p [] b h = inr h
among-either p (q ∷ a) b (inl e) = inl (inl e)
among-either p (q ∷ a) b (inr h) = go (among-either p a b h)
  where
    go : Among p a ⊎ Among p b → ((p ≡ q) ⊎ Among p a) ⊎ Among p b
    go (inl x) = inl (inr x)
    go (inr y) = inr y

among-numbers : (p k n : ℕ) → Among p (numbers k n) → (k ≤ p) × (p < k + n)
unfolding Among numbers
among-numbers p k zero h = absurd h
among-numbers p k (suc n) (inl e) = (omega (arith, e), omega (arith, e))
among-numbers p k (suc n) (inr h) = let t = among-numbers p (k + 1) n h in (omega (arith, t.0), omega (arith, t.1))

nowhere : (p : ℕ) → Among p (places []) → ⊥
unfolding Among flat_map
nowhere p h = h

-- each place of the definition is a register type byte of a VERSION
pub places-typed : (p : ℕ) (rs : List Rec) → Sets rs → Among p (places (program rs)) → Typed p rs
unfolding Sets Typed flat_map
places-typed p [] f h = nowhere p (subst (λ (vs : Program). Among p (places vs)) no-versions h)
places-typed p (r ∷ rs) f h = go (eqb r.kind kind.VERSION) refl (λ x. places-typed p rs f.1 x)
  where
    go : (b : Bool) → eqb r.kind kind.VERSION ≡ b → (Among p (places (program rs)) → Typed p rs) → ((r.kind ≡ kind.VERSION) × (r.at + 10 ≤ p) × (p < r.at + r.size)) ⊎ Typed p rs
    go true e ih =
        let k = eqb-true r.kind kind.VERSION e in
        let v = version_of r (view rs).level (view rs).blocks in
        let x : Among p (type_places v ++ places (program rs)) = subst (λ (vs : Program). Among p (places vs)) (program-version r rs (omega (arith, f.0.size)) e) h in
        either k (among-either p (type_places v) (places (program rs)) x)
      where
        either : r.kind ≡ kind.VERSION → Among p (type_places (version_of r (view rs).level (view rs).blocks)) ⊎ Among p (places (program rs)) → ((r.kind ≡ kind.VERSION) × (r.at + 10 ≤ p) × (p < r.at + r.size)) ⊎ Typed p rs
        either k (inl y) =
            let t = among-numbers p (r.at + 10) (length (fields r.body 6 (r.body ! 3))) y in
            inl (k, t.0, omega (arith, t.1, length-every r.body 6 1 (r.body ! 3), f.0.version k))
        either k (inr y) = inr (ih y)
    go false e ih = inr (ih (subst (λ (vs : Program). Among p (places vs)) (program-other r rs (omega (arith, f.0.size)) e) h))

-- ---- the version that has the place

unfoldable In : Version → Program → Type 0
In v [] = ⊥
In v (u ∷ vs) = (u ≡ v) ⊎ In v vs

typed-version : (p : ℕ) (rs : List Rec) → Sets rs → Typed p rs → (v : Version) × (within p (length v.types) v ≡ true) × In v (program rs)
unfolding Sets Typed In
typed-version p [] f t = absurd t
typed-version p (r ∷ rs) f (inl t) =
    let v = version_of r (view rs).level (view rs).blocks in
    let n = length-every r.body 6 1 (r.body ! 3) in
    (v, in-range p 0 v t.1 (rw n (omega (arith, t.2, f.0.version t.0))), rw (program-version r rs (omega (arith, f.0.size)) (rw t.0 refl)) (inl refl))
typed-version p (r ∷ rs) f (inr t) = let h = typed-version p rs f.1 t in (h.0, h.1, more h.0 (eqb r.kind kind.VERSION) refl h.2)
  where
    more : (v : Version) (b : Bool) → eqb r.kind kind.VERSION ≡ b → In v (program rs) → In v (program (r ∷ rs))
    more v true e i = rw (program-version r rs (omega (arith, f.0.size)) e) (inr i)
    more v false e i = rw (program-other r rs (omega (arith, f.0.size)) e) i

held_in : (q : Question) (g : Version → Version) (v : Version) (vs : Program) → In v vs → Helds q (map g vs) → Held q (g v)
unfolding In Helds
held_in q g v [] i h = absurd i
held_in q g v (u ∷ vs) (inl e) h = rw e at h.0
held_in q g v (u ∷ vs) (inr i) h = held_in q g v vs i h.1

-- ---- the laws

pub accepted-some : (v : Verdict) → is_accepted v ≡ true → (k : ℕ) × (v ≡ Ok k)
accepted-some (Ok k) e = (k, refl)
accepted-some (Err why) e = absurd (true≢false (sym e))

-- a register type byte of an image that is refused by 6, 8, 9 or 10
module _ (s : List ℕ) (q r : ℕ) (m : mendable q ≡ true) (e : verdict_of s ≡ Err (refused q r)) (p : ℕ) (a : Among p (places (program (records s)))) where
  sound : (question1 s ≡ None) × (question2 (records s) ≡ None) × (question3 Form.Wide (records s) ≡ None)
  sound = sound-records s q r m e

  sets : Sets (records s)
  sets = sets-from (records s) 0 (length s) (chained s sound.1) sound.2

  pub all_typed : Typed p (records s)
  all_typed = places-typed p (records s) sets a

  -- it stands in no record's head
  pub apart : Asides p (records s)
  apart = asides p (records s) 0 (length s) (chained s sound.1) all_typed

  -- the program after the change
  pub changed : (x : ℕ) → program (records (set s p x)) ≡ retype p x (program (records s))
  changed x = program-changed s p x sound.1 sound.2 apart

  -- THE LAW of values: a value that mends is a type byte
  pub a-type : (x : ℕ) → mends_by s p x ≡ true → parameter_type x ≡ true
  unfolding mends_by
  a-type x good =
      let k = accepted-some (verdict_of (set s p x)) (and_both _ _ good).1 in
      let six : first question6 (retype p x (program (records s))) ≡ None = subst (λ (R : Program). first question6 R ≡ None) (changed x) (passed (set s p x) k.0 k.1).q6 in
      let v = typed-version p (records s) sets all_typed in
      own-type p x v.0 v.1 (held_in question6 (retype_one p x) v.0 (program (records s)) v.2 (helds question6 (retype p x (program (records s))) six))

-- those that are type bytes are eight
types-kept : kept parameter_type VALUES ≡ TYPES
unfolding kept parameter_type kind_of ownership_of is_shared is_owned is_borrowed is_vector numbers ◌and◌
types-kept = refl

pub bool_false : (b : Bool) → (b ≡ true → ⊥) → b ≡ false
bool_false true h = absurd (h refl)
bool_false false h = refl

-- THE LAW of the short search: eight values do
pub short : (s : List ℕ) (q r : ℕ) → mendable q ≡ true → verdict_of s ≡ Err (refused q r) → first_place (mends_by s) TYPES (places (program (records s))) ≡ first_place (mends_by s) VALUES (places (program (records s)))
short s q r m e =
    ap (λ (values : List ℕ). first_place (mends_by s) values (places (program (records s)))) (sym types-kept)
    ∙ places-kept (mends_by s) parameter_type VALUES (places (program (records s))) (λ p a x h. bool_false (mends_by s p x) (λ good. true≢false (sym (a-type s q r m e p a x good) ∙ h)))
