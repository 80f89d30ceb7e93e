-- Two images whose records are those of both forms are asked alike: the one is accepted in its form exactly when the other is.
use Rattle.std.specs.Prelude.{None, Some, Ok}
use mathlib.Core.Path.{◌≡◌, refl, sym, ap, ap₂, ◌∙◌}
use Rattle.layout.specs.Found.{Found}
use mathlib.Core.Logic.{◌⊎◌, inl, inr}
use mathlib.Core.List.{List, [], ◌∷◌, map}
use mathlib.Core.Option.{Option, none, some}
use mathlib.Core.Bool.{Bool, true, false, cond, not, ◌||◌}
use Prim.Native.Nat.{ℕ, ◌<◌, ◌≤◌}
use native.Mathlib.Omega.{arith}
use lib.ListN.{length}
use lib.Dec.{eqb, ltb, leb}
use borrow.Author.Tests.{ltb-true, leb-true, lt-ltb, le-leb, eq-eqb}
use Rattle.layout.specs.Bounds.{IMAGE}
use Rattle.layout.specs.Kinds as kind
use Rattle.layout.specs.Tests.{◌and◌}
use Rattle.layout.specs.Records.{Rec, ◌!◌, choose, walk, rest, records}
use Rattle.layout.specs.Scan.{scan}
use Rattle.layout.specs.Forms.{literal_kind, literal_length, other, printed, moved}
use Rattle.layout.specs.Questions.{question1, question2, question3, question4, question5, plain_length, length_of, whole, same, nothing, in_bounds, in_order, placed, due_after, none_due, start, follows, following, last_version}
use Rattle.layout.specs.declared.Due.{Due}
use Rattle.layout.specs.declared.Form.{Form}
use Rattle.program.specs.Program.{Program, program}
use Rattle.program.specs.Skips.{Ends, ends_after, ends_within, no_ends, question14}
use Rattle.rules.proofs.Shapes.{map-length, shape, quiet, shape-6, shape-7, shape-8, shape-18, shape-9, shape-10}
use Rattle.checker.specs.Verdicts.{verdict_in}
use Rattle.checker.proofs.Accepted.{Passed, passed, accept}
use Rattle.layout.proofs.Bools.{and_both}
use Rattle.runs.specs.Wider.{LongerAccepted}
use Rattle.runs.proofs.Moved.{all_known, all-return, not-literal, records-wider, there_and_back}
use Rattle.runs.proofs.Widened.{Literal, Kept, Widened, old-whole, new-whole, forms-shape}

-- ---- what fails nowhere

quiet-nothing : (f : Found) → quiet f ≡ true → f ≡ None
unfolding quiet
quiet-nothing None e = refl
quiet-nothing (Some p) e = let z : ◌≡◌ {A = ℕ} 0 1 = cc in absurd (omega arith)

nothing-quiet : {f : Found} → f ≡ None → quiet f ≡ true
unfolding quiet
nothing-quiet e = rw e refl

-- where one of two that say the same fails nowhere, the other does
too : {f g : Found} → quiet f ≡ quiet g → f ≡ None → g ≡ None
too {f} {g} e h = quiet-nothing g (sym e ∙ nothing-quiet h)

-- ---- a record in both forms

abbrev Moved : Rec → Rec → Type 0
Moved r q = Literal r q ⊎ Kept r q

whole-too : (r q : Rec) → Moved r q → ltb 0 r.size ≡ ltb 0 q.size
whole-too r q (inl l) = lt-ltb 0 r.size (old-whole r q l) ∙ sym (lt-ltb 0 q.size (new-whole r q l))
whole-too r q (inr k) = ap (ltb 0) (sym k.same_size)

-- what looks at the kind and the body alone, and says the same of the literals of both forms
moved_same : {A : Type 0} (f : ℕ → List ℕ → A) → ((b c : List ℕ) → f (literal_kind Form.Narrow) b ≡ f (literal_kind Form.Wide) c) → (r q : Rec) → Moved r q → f r.kind r.body ≡ f q.kind q.body
moved_same f h r q (inl l) = ap (λ (k : ℕ). f k r.body) l.old ∙ h r.body q.body ∙ sym (ap (λ (k : ℕ). f k q.body) l.new)
moved_same f h r q (inr k) = ap₂ f (sym k.same_kind) (sym k.same_body)

-- a record of this kind and body
abbrev rec_by : ℕ → List ℕ → Rec
rec_by k b = record { at = 0; size = 0; kind = k; body = b }

-- ---- a question to the records, with what it keeps alike

module _ {S : Type 0} (T : S → S → Type 0) (ok : S → Rec → Bool) (next : S → Rec → S) (end end' : S → Found)
    (judged : (s t : S) (r q : Rec) → T s t → Moved r q → ok s r ≡ ok t q) (left : (s t : S) (r q : Rec) → T s t → Moved r q → T (next s r) (next t q)) (ended : (s t : S) → T s t → quiet (end s) ≡ quiet (end' t)) where
  either-quiet : (b c : Bool) (x y : Found) (p p' : ℕ) → b ≡ c → quiet x ≡ quiet y → quiet (cond b x (Some p)) ≡ quiet (cond c y (Some p'))
  unfolding quiet
  either-quiet true c x y p p' e h = rw (sym e) h
  either-quiet false c x y p p' e h = rw (sym e) refl

  scan-too : (rs qs : List Rec) → Widened rs qs → (s t : S) → T s t → quiet (scan ok next end s rs) ≡ quiet (scan ok next end' t qs)
  unfolding Widened scan
  scan-too [] [] h s t e = ended s t e
  scan-too [] (q ∷ qs) h s t e = absurd h
  scan-too (r ∷ rs) [] h s t e = absurd h
  scan-too (r ∷ rs) (q ∷ qs) h s t e = either-quiet _ _ _ _ _ _ (ap₂ (λ (a b : Bool). a and b) (whole-too r q h.0) (judged s t r q e h.0)) (scan-too rs qs h.1 (next s r) (next t q) (left s t r q e h.0))

-- ---- 2, 4, 5 and 14

module _ (rs qs : List Rec) (h : Widened rs qs) where
  alike-2 : quiet (question2 rs) ≡ quiet (question2 qs)
  unfolding question2
  alike-2 = scan-too (λ (s t : Unit {0}). Unit {0}) whole same nothing nothing (λ s t r q e m. refl) (λ s t r q e m. tt) (λ s t e. refl) rs qs h tt tt tt

  alike-4 : (n m : ℕ) → quiet (question4 n rs) ≡ quiet (question4 m qs)
  unfolding question4 in_bounds in_order due_after choose literal_kind none_due quiet
  alike-4 n m = scan-too (λ (s t : Due). s ≡ t) placed due_after (none_due n) (none_due m)
      (λ s t r q e w. ap (λ (d : Due). placed d r) e ∙ moved_same (λ k b. placed t (rec_by k b)) (λ b c. refl) r q w)
      (λ s t r q e w. ap (λ (d : Due). due_after d r) e ∙ moved_same (λ k b. due_after t (rec_by k b)) (λ b c. refl) r q w)
      (λ s t e. ap (λ (d : Due). quiet (none_due n d)) e ∙ at-end (eqb t.levels 0 and eqb t.blocks 0 and eqb t.instructions 0)) rs qs h start start refl
    where
      at-end : (b : Bool) → quiet (cond b None (Some n)) ≡ quiet (cond b None (Some m))
      at-end true = refl
      at-end false = refl

  alike-14 : quiet (question14 rs) ≡ quiet (question14 qs)
  unfolding question14 ends_within ends_after choose literal_kind
  alike-14 = scan-too (λ (s t : Ends). s ≡ t) ends_within ends_after nothing nothing
      (λ s t r q e w. ap (λ (d : Ends). ends_within d r) e ∙ moved_same (λ k b. ends_within t (rec_by k b)) (λ b c. refl) r q w)
      (λ s t r q e w. ap (λ (d : Ends). ends_after d r) e ∙ moved_same (λ k b. ends_after t (rec_by k b)) (λ b c. refl) r q w)
      (λ s t e. refl) rs qs h no_ends no_ends refl

  -- 5 keeps the last VERSION, of which it looks at the body
  unfoldable LastSame : Option Rec → Option Rec → Type 0
  LastSame none none = Unit {0}
  LastSame none (some q) = ⊥
  LastSame (some r) none = ⊥
  LastSame (some r) (some q) = r.body ≡ q.body

  follows_same : (s t : Option Rec) (f w : ℕ) → LastSame s t → follows s f w ≡ follows t f w
  unfolding LastSame follows
  follows_same none none f w e = refl
  follows_same none (some q) f w e = absurd e
  follows_same (some r) none f w e = absurd e
  follows_same (some r) (some q) f w e = rw e refl

  last-same : (s t : Option Rec) (r q : Rec) → LastSame s t → Moved r q → LastSame (last_version s r) (last_version t q)
  unfolding LastSame literal_kind
  last-same s t r q e (inl l) = rw (l.old, l.new) e
  last-same s t r q e (inr k) = go (eqb r.kind kind.VERSION) (eqb q.kind kind.VERSION) (ap (λ (n : ℕ). eqb n kind.VERSION) (sym k.same_kind))
    where
      go : (b c : Bool) → b ≡ c → LastSame (cond b (some r) s) (cond c (some q) t)
      go true c p = rw (sym p) (sym k.same_body)
      go false c p = rw (sym p) e

  alike-5 : quiet (question5 rs) ≡ quiet (question5 qs)
  unfolding question5 LastSame literal_kind
  alike-5 = scan-too LastSame following last_version nothing nothing
      (λ s t r q e w. ap (λ (b : Bool). not (eqb r.kind kind.VERSION) || b) (follows_same s t (r.body ! 0) (r.body ! 1) e) ∙ moved_same (λ k b. following t (rec_by k b)) (λ b c. refl) r q w)
      last-same (λ s t e. refl) rs qs h none none tt

-- ---- 3: each record has the length that it must have in its form

by-literal : (form : Form) (r : Rec) → r.kind ≡ literal_kind form → r.size ≡ literal_length form → r.size ≡ length_of form r.kind r.body
unfolding length_of
by-literal form r e f = f ∙ sym (rw (eq-eqb r.kind (literal_kind form) e) refl)

by_kind : (form : Form) (r : Rec) → 0 < r.size → r.size ≡ plain_length r.kind r.body → r.size ≡ length_of form r.kind r.body
unfolding length_of
by_kind form r h e = e ∙ sym (rw (not-literal form r.kind r.body (omega (arith, h, e))) refl)

both-fit : (r q : Rec) → Moved r q → (r.size ≡ length_of Form.Narrow r.kind r.body) × (q.size ≡ length_of Form.Wide q.kind q.body)
both-fit r q (inl l) = (by-literal Form.Narrow r l.old l.old-size, by-literal Form.Wide q l.new l.new-size)
both-fit r q (inr k) =
    let e : plain_length q.kind q.body ≡ plain_length r.kind r.body = ap₂ plain_length k.same_kind k.same_body in
    (by_kind Form.Narrow r k.whole k.known, by_kind Form.Wide q (omega (arith, k.whole, k.same_size)) (k.same_size ∙ k.known ∙ sym e))

both-whole : (r q : Rec) → Moved r q → (0 < r.size) × (0 < q.size)
both-whole r q (inl l) = (old-whole r q l, new-whole r q l)
both-whole r q (inr k) = (k.whole, omega (arith, k.whole, k.same_size))

both-3 : (rs qs : List Rec) → Widened rs qs → (question3 Form.Narrow rs ≡ None) × (question3 Form.Wide qs ≡ None)
unfolding question3 scan Widened ◌and◌
both-3 [] [] h = (refl, refl)
both-3 [] (q ∷ qs) h = absurd h
both-3 (r ∷ rs) [] h = absurd h
both-3 (r ∷ rs) (q ∷ qs) h =
    let w = both-whole r q h.0 in
    let f = both-fit r q h.0 in
    let more = both-3 rs qs h.1 in
    (rw (lt-ltb 0 r.size w.0, eq-eqb _ _ f.0) more.0, rw (lt-ltb 0 q.size w.1, eq-eqb _ _ f.1) more.1)

-- ---- all questions

-- a question that found nothing, and one that says the same
abbrev Both : Found → Found → Type 0
Both f g = quiet f ≡ quiet g

-- what an image passed, and the other one too, from what they say alike
carried : {F : Form} {s : List ℕ} {n : ℕ} (G : Form) (t : List ℕ) → Passed F s n → question1 t ≡ None → question3 G (records t) ≡ None → map shape (program (records s)) ≡ map shape (program (records t))
    → Both (question2 (records s)) (question2 (records t)) → Both (question4 (length s) (records s)) (question4 (length t) (records t)) → Both (question5 (records s)) (question5 (records t)) → Both (question14 (records s)) (question14 (records t))
    → verdict_in G t ≡ Ok n
carried {F} {s} {n} G t a one three e two four five fourteen =
    let P = program (records s) in
    let Q = program (records t) in
    accept (record {
      q1 = one;
      q2 = too two a.q2;
      q3 = three;
      q4 = too four a.q4;
      q5 = too five a.q5;
      q6 = too (shape-6 P Q e) a.q6;
      q7 = too (shape-7 P Q e) a.q7;
      q14 = too fourteen a.q14;
      q8 = too (shape-8 P Q e) a.q8;
      q18 = too (shape-18 P Q e) a.q18;
      q9 = too (shape-9 P Q e) a.q9;
      q10 = too (shape-10 P Q e) a.q10;
      count = same_count P Q e ∙ a.count;
    })
  where
    same_count : (X Y : Program) → map shape X ≡ map shape Y → length Y ≡ length X
    same_count X Y p = sym (map-length shape Y) ∙ sym (ap length p) ∙ map-length shape X

-- THE LAWS: images in both forms are accepted alike, with as many versions, where neither is too long
module _ (s t : List ℕ) (h : Widened (records s) (records t)) where
  pub wide-accepted : (n : ℕ) → verdict_in Form.Narrow s ≡ Ok n → question1 t ≡ None → verdict_in Form.Wide t ≡ Ok n
  wide-accepted n e one =
      let rs = records s in
      let qs = records t in
      carried Form.Wide t (passed s n e) one (both-3 rs qs h).1 (forms-shape rs qs h) (alike-2 rs qs h) (alike-4 rs qs h (length s) (length t)) (alike-5 rs qs h) (alike-14 rs qs h)

  pub narrow-accepted : (n : ℕ) → verdict_in Form.Wide t ≡ Ok n → question1 s ≡ None → verdict_in Form.Narrow s ≡ Ok n
  narrow-accepted n e one =
      let rs = records s in
      let qs = records t in
      carried Form.Narrow s (passed t n e) one (both-3 rs qs h).0 (sym (forms-shape rs qs h)) (sym (alike-2 rs qs h)) (sym (alike-4 rs qs h (length s) (length t))) (sym (alike-5 rs qs h)) (sym (alike-14 rs qs h))

-- an image that passes question 1 has a byte and is not too long, and back
pub long-enough : (s : List ℕ) → question1 s ≡ None → (0 < length s) × (length s ≤ IMAGE)
unfolding question1
long-enough s e = go (ltb 0 (length s) and leb (length s) IMAGE) refl e
  where
    go : (b : Bool) → (ltb 0 (length s) and leb (length s) IMAGE) ≡ b → cond {A = Found} b None (Some 0) ≡ None → (0 < length s) × (length s ≤ IMAGE)
    go true x y = let z = and_both _ _ x in (ltb-true 0 (length s) z.0, leb-true (length s) IMAGE z.1)
    go false x y = let z : ◌≡◌ {A = ℕ} 0 1 = cc in absurd (omega arith)

pub asks-one : (s : List ℕ) → 0 < length s → length s ≤ IMAGE → question1 s ≡ None
unfolding question1 ◌and◌
asks-one s h l = rw (lt-ltb 0 (length s) h, le-leb (length s) IMAGE l) refl

-- moved bytes of an image with a byte have one
some_byte : (form : Form) (s t : List ℕ) → moved (other form) (records t) ≡ s → 0 < length s → 0 < length t
unfolding moved rest walk printed
some_byte form s [] e h = let z : length s ≡ 0 = ap length (sym e) in absurd (omega (arith, h, z))
some_byte form s (x ∷ t) e h = omega arith

pub moved-one : (form : Form) (s : List ℕ) → question1 s ≡ None → moved (other form) (records (moved form (records s))) ≡ s → length (moved form (records s)) ≤ IMAGE → question1 (moved form (records s)) ≡ None
moved-one form s one back l = asks-one (moved form (records s)) (some_byte form s (moved form (records s)) back (long-enough s one).0) l

-- the longer image, where it is not too long
pub longer-accepted : LongerAccepted
unfolding LongerAccepted
longer-accepted image bytes n old short =
    let a = passed image n old in
    let k = all_known Form.Narrow image bytes a.q2 a.q3 in
    let back = there_and_back Form.Narrow image bytes a.q2 k (all-return (records image) k) in
    wide-accepted image (moved Form.Narrow (records image)) (records-wider (records image) k) n old (moved-one Form.Narrow image a.q1 back short)
