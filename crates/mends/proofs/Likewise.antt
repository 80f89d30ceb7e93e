-- Where a pass stands at the record that fails: after a change of a register type byte it stands there likewise.
use Rattle.std.specs.Prelude.{None, Some, Err}
use mathlib.Core.Path.{◌≡◌, refl, sym, ap, ◌∙◌, subst}
use Rattle.layout.specs.Found.{Found}
use mathlib.Core.Logic.{◌⊎◌}
use mathlib.Core.List.{List}
use mathlib.Core.Bool.{Bool, true, false, cond}
use Prim.Native.Nat.{ℕ, ◌+◌, ◌≤◌, ◌<◌}
use native.Mathlib.Omega.{arith}
use lib.ListN.{length, length-set, set}
use lib.Dec.{eqb}
use Rattle.layout.specs.Records.{size_at, kind_at, rec_at, rest, records, choose}
use Rattle.layout.specs.Questions.{question2}
use Rattle.layout.proofs.Behind.{whole-at, whole-size, rest-whole}
use Rattle.layout.proofs.Printed.{body-long}
use Rattle.program.specs.Program.{Program, program}
use Rattle.program.specs.Search.{Question, first}
use Rattle.program.specs.Places.{asked, moved_to}
use Rattle.program.specs.declared.Here.{Here}
use Rattle.program.proofs.Passes.{Asking, start, at-end, say-no, go_on}
use Rattle.program.proofs.Views.{Whole}
use Rattle.rules.specs.Questions.{question6, question8, question9}
use Rattle.rules.specs.Flows.{question10}
use Rattle.checker.specs.Verdicts.{ask, verdict_of, verdict_in, Verdict, refused}
use Rattle.checker.proofs.Accepted.{passed}
use Rattle.checker.proofs.Asks.{refused-same}
use Rattle.mends.specs.Mends.{places, is_accepted, mendable}
use Rattle.mends.specs.Parts.{question_by, Among, Passing}
use Rattle.mends.proofs.Changed.{Aside, Asides, no-head, size_same, kind-same}
use Rattle.mends.proofs.Mending.{refused-behind, sound-records, accepted-some, apart}

-- ---- what refuses, and what an accepted image passed

-- the question that refused found the record at r
module _ (s : List ℕ) (q r : ℕ) (m : mendable q ≡ true) where
  abbrev P : Program
  P = program (records s)

  abbrev Goal : Type 0
  Goal = first (question_by q P) P ≡ Some r

  by : (n : ℕ) → n ≡ q → first (question_by n P) P ≡ Some r → Goal
  by n z h = subst (λ (i : ℕ). first (question_by i P) P ≡ Some r) z h

  -- it is this question's own no, or that of those behind it
  either : (n : ℕ) (x : Found) (more : Verdict) → (n ≡ q → x ≡ Some r → Goal) → (more ≡ Err (refused q r) → Goal) → ask n x more ≡ Err (refused q r) → Goal
  unfolding ask
  either n None more own behind e = behind e
  either n (Some p) more own behind e = let z = refused-same e in own z.0 (ap Some z.1)

  pub refused-first : verdict_of s ≡ Err (refused q r) → first (question_by q (program (records s))) (program (records s)) ≡ Some r
  unfolding verdict_in mendable question_by choose
  refused-first e =
      let e1 = refused-behind 1 q r _ _ refl m e in
      let e2 = refused-behind 2 q r _ _ refl m e1.1 in
      let e3 = refused-behind 3 q r _ _ refl m e2.1 in
      let e4 = refused-behind 4 q r _ _ refl m e3.1 in
      let e5 = refused-behind 5 q r _ _ refl m e4.1 in
      either 6 _ _ (by 6) (λ e6.
      either 8 _ _ (by 8) (λ e8.
      either 9 _ _ (by 9) (
      either 10 _ _ (by 10) (λ z. let w : ◌≡◌ {A = ℕ} 0 1 = cc in absurd (omega arith)))
      (refused-behind 18 q r _ _ refl m e8).1)
      (refused-behind 14 q r _ _ refl m (refused-behind 7 q r _ _ refl m e6).1).1) e5.1

-- an accepted image passed it
pub accepted-first : (s : List ℕ) (q : ℕ) → is_accepted (verdict_of s) ≡ true → first (question_by q (program (records s))) (program (records s)) ≡ None
unfolding question_by choose
accepted-first s q e = let k = accepted-some (verdict_of s) e in let w = passed s k.0 k.1 in go (eqb q 6) (eqb q 8) (eqb q 9) w.q6 w.q8 w.q9 w.q10
  where
    go : (x y z : Bool) → first question6 (program (records s)) ≡ None → first (question8 (program (records s))) (program (records s)) ≡ None → first (question9 (program (records s))) (program (records s)) ≡ None → first (question10 (program (records s))) (program (records s)) ≡ None
        → first (cond x question6 (cond y (question8 (program (records s))) (cond z (question9 (program (records s))) (question10 (program (records s)))))) (program (records s)) ≡ None
    go true y z a b c d = a
    go false true z a b c d = b
    go false false true a b c d = c
    go false false false a b c d = d

-- ---- the pass

-- a pass along s has come to c and stands at h, and so does one along s after each change
pub record Walking (s : List ℕ) (q r c : ℕ) (h : Here) : Type 0 where
  pub own : Asking (question_by q (program (records s))) (Some r) s c h
  pub whole : question2 (rest s c) ≡ None
  pub aside : (p : ℕ) → Among p (places (program (records s))) → Asides p (rest s c)
  pub comes : (p x : ℕ) → Among p (places (program (records s))) → (k : Question) → first k (program (records (set s p x))) ≡ None → Asking k None (set s p x) c h

pub walk_first : (s : List ℕ) (q r : ℕ) → mendable q ≡ true → verdict_of s ≡ Err (refused q r) → Walking s q r 0 (record { version = length s; blocks = 0 })
walk_first s q r m e = record {
  own = subst (λ (a : Found). Asking (question_by q (program (records s))) a s 0 (record { version = length s; blocks = 0 })) (refused-first s q r m e) (start (question_by q (program (records s))) s);
  whole = (sound-records s q r m e).1;
  aside = λ p a. apart s q r m e p a;
  comes = λ p x a k f.
      subst (λ (n : ℕ). Asking k None (set s p x) 0 (record { version = n; blocks = 0 })) (length-set s p x)
      (subst (λ (y : Found). Asking k y (set s p x) 0 (record { version = length (set s p x); blocks = 0 })) f (start k (set s p x)));
}

pub no_place : (p : ℕ) → Some p ≡ None → ⊥
no_place p e = let z : ◌≡◌ {A = ℕ} 0 1 = cc in omega (arith, z)

other_place : (p r : ℕ) → Some p ≡ Some r → (p ≡ r → ⊥) → ⊥
other_place p r e n = let z : p ≡ r = cc in n z

is_true : (b : Bool) → (b ≡ false → ⊥) → b ≡ true
is_true true h = refl
is_true false h = absurd (h refl)

moved_same : (s t : List ℕ) (h : Here) (c : ℕ) → kind_at t c ≡ kind_at s c → length t ≡ length s → moved_to t h c ≡ moved_to s h c
unfolding moved_to
moved_same s t h c e l = rw (e, l) refl

module _ {s : List ℕ} {q r c : ℕ} {h : Here} (w : Walking s q r c h) (l : c < length s) where
  size-here : 0 < size_at s c
  size-here = (whole-at s c l w.whole).0

  split : (p : ℕ) → Among p (places (program (records s))) → Aside p (rec_at s c) × Asides p (rest s (c + size_at s c))
  unfolding Asides
  split p a = subst (Asides p) (rest-whole s c l size-here) (w.aside p a)

  near : (p : ℕ) → Among p (places (program (records s))) → (p < c) ⊎ (c + 4 ≤ p)
  near p a = no-head p (rec_at s c) (sym (body-long s c (λ z. absurd (omega (arith, size-here, z))))) (split p a).0

  own-whole : {n k : ℕ} → n ≡ size_at s c → k ≡ kind_at s c → Whole s c n k
  own-whole e f = record { inside = l; size = e; whole = λ z. absurd (omega (arith, size-here, e, z)); kind = f }

  module _ (p x : ℕ) (a : Among p (places (program (records s)))) where
    its-whole : {n : ℕ} → n ≡ size_at s c → Whole (set s p x) c n (kind_at (set s p x) c)
    its-whole e = record { inside = rw (length-set s p x) l; size = e ∙ sym (size_same s p x c (near p a)); whole = λ z. absurd (omega (arith, size-here, e, z)); kind = refl }

    its-move : {g : Here} → g ≡ moved_to s h c → g ≡ moved_to (set s p x) h c
    its-move e = e ∙ sym (moved_same s (set s p x) h c (kind-same s p x c (near p a)) (length-set s p x))

    its-answer : {n : ℕ} {g : Here} → n ≡ size_at s c → g ≡ moved_to s h c → (k : Question) → first k (program (records (set s p x))) ≡ None → asked k (set s p x) g c ≡ true
    its-answer e f k y = is_true _ (λ z. no_place c (say-no (w.comes p x a k y) (its-whole e) (its-move f) z))

  -- at the record that fails: an image that passes the question after a change passes there
  pub walk-told : {g : Here} → c ≡ r → g ≡ moved_to s h c → (p x : ℕ) → Among p (places (program (records s))) → Passing q g r (set s p x)
  unfolding Passing
  walk-told {g} e f p x a good = subst (λ (i : ℕ). asked (question_by q (program (records (set s p x)))) (set s p x) g i ≡ true) e (its-answer p x a refl f (question_by q (program (records (set s p x)))) good)

  -- past any other
  pub walk-next : {n : ℕ} {g : Here} → (c ≡ r → ⊥) → n ≡ size_at s c → g ≡ moved_to s h c → Walking s q r (c + n) g
  walk-next {n} {g} d e f = record {
    own = go_on w.own (own-whole e refl) f (is_true _ (λ z. other_place c r (say-no w.own (own-whole e refl) f z) d));
    whole = rw e (whole-at s c l w.whole).1;
    aside = λ p a. rw e (split p a).1;
    comes = λ p x a k y. go_on (w.comes p x a k y) (its-whole p x a e) (its-move p x a f) (its-answer p x a e f k y);
  }

  pub walk-size : {n : ℕ} → n ≡ size_at s c → (0 < n) × (c + n ≤ length s)
  walk-size e = (omega (arith, size-here, e), omega (arith, (whole-size s c size-here).1, e))

-- the record that fails is one of the image's
pub walk_ends : {s : List ℕ} {q r c : ℕ} {h : Here} → Walking s q r c h → length s ≤ c → ⊥
walk_ends {r = r} w l = no_place r (sym (at-end w.own l))
