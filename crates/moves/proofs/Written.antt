-- 02, 6: a move that is written gives an image that is asked, printed and run as the one that it was, and there and back is that image.
use Rattle.std.specs.Prelude.{None, Some, Err, Ok, Result}
use mathlib.Core.Path.{◌≡◌, refl, sym, ap, ◌∙◌}
use Rattle.layout.specs.Found.{Found}
use mathlib.Core.Logic.{◌⊎◌, inl, inr}
use mathlib.Core.List.{List, [], ◌∷◌, map}
use mathlib.Core.Bool.{Bool, true, false, cond}
use Prim.Native.Nat.{ℕ, ◌≤◌, ◌<◌}
use native.Mathlib.Omega.{arith}
use lib.ListN.{length}
use lib.Dec.{leb}
use borrow.Author.Tests.{lt-ltb, le-leb, leb-true, eq-eqb}
use Rattle.layout.specs.Bounds.{IMAGE}
use Rattle.layout.specs.Tests.{◌and◌}
use Rattle.layout.specs.Records.{Rec, ◌!◌, records}
use Rattle.layout.specs.Scan.{scan}
use Rattle.layout.specs.Forms.{literal_kind, literal_length, other}
use Rattle.layout.specs.Questions.{plain_length, question1, question4}
use Rattle.layout.specs.declared.Form.{Form}
use Rattle.layout.proofs.Bools.{and_both}
use Rattle.layout.proofs.Lists.{Each, each_both, each-then}
use Rattle.layout.proofs.Printed.{all_pass}
use Rattle.program.specs.Program.{program, number_in}
use Rattle.checker.specs.Verdicts.{verdict_in, Verdict, ask}
use Rattle.checker.specs.Reports.{report_in}
use Rattle.checker.proofs.Accepted.{passed}
use Rattle.checker.proofs.Alike.{answer-shape}
use Rattle.rules.proofs.Shapes.{shape}
use Rattle.machine.specs.Begin.{run_of}
use Rattle.runs.specs.Wider.{SixtyFour}
use Rattle.runs.proofs.Widened.{Literal, Kept, Widened, old-whole, new-whole, forms-alike, forms-shape}
use Rattle.runs.proofs.Moved.{Known, Returns, all_known, all-return, literal-long, moved-bytes, not-literal, records-narrower, records-wider, there_and_back}
use Rattle.runs.proofs.Longer.{long-enough, moved-one, narrow-accepted, wide-accepted}
use Rattle.runs.proofs.SixtyFour.{sixty-four}
use Rattle.checker.proofs.Asks.{asked}
use Rattle.moves.specs.Moves.{fits32, fitting32, question16, question17, after, move_of}
use Rattle.moves.specs.Claims.{result, Moves, MovedWhole, MovedAccepted, SameReport, ThereAndBack, RunsAgree, MovedAlike, narrow_of, wide_of}
use Rattle.moves.proofs.Numbers.{fitting-returns, narrow-fits}
use Rattle.checker.specs.declared.Refusal.{Refusal}

-- ---- what a written move passed

after-written : (v : Verdict) (more : Result ℕ Refusal) (m : ℕ) → after v more ≡ Ok m → ((n : ℕ) × (v ≡ Ok n)) × (more ≡ Ok m)
unfolding after
after-written (Ok n) more m e = ((n, refl), e)
after-written (Err why) more m e = let z : ◌≡◌ {A = ℕ} 0 1 = cc in absurd (omega arith)

short-enough : (n places : ℕ) → question17 n places ≡ None → (n ≤ IMAGE) × (n ≤ places)
unfolding question17
short-enough n places e = go (leb n IMAGE and leb n places) refl e
  where
    go : (b : Bool) → (leb n IMAGE and leb n places) ≡ b → cond {A = Found} b None (Some 0) ≡ None → (n ≤ IMAGE) × (n ≤ places)
    go true x y = let z = and_both _ _ x in (leb-true n IMAGE z.0, leb-true n places z.1)
    go false x y = let z : ◌≡◌ {A = ℕ} 0 1 = cc in absurd (omega arith)

pub asks-17 : (n places : ℕ) → n ≤ IMAGE → n ≤ places → question17 n places ≡ None
unfolding question17 ◌and◌
asks-17 n places h l = rw (le-leb n IMAGE h, le-leb n places l) refl

-- a literal that passed 16 comes back as it was
fit-returns : (r : Rec) → Known Form.Wide r → fitting32 Form.Wide tt r ≡ true → Returns Form.Wide r
unfolding Returns literal_length other
fit-returns r k e l =
    let f : fits32 (number_in Form.Wide r.body) ≡ true = rw (eq-eqb r.kind (literal_kind Form.Wide) l) at e in
    fitting-returns r.body (omega (arith, literal-long k l)) k.is.bytes f

all_fit : (form : Form) (rs : List Rec) → Each (Known form) rs → question16 form rs ≡ None → Each (Returns form) rs
unfolding question16
all_fit Form.Narrow rs k e = all-return rs k
all_fit Form.Wide rs k e =
    each-then (λ r. Known Form.Wide r × ((0 < r.size) × (fitting32 Form.Wide tt r ≡ true))) (Returns Form.Wide) rs (λ r h. fit-returns r h.0 h.1.1)
    (each_both (Known Form.Wide) (λ r. (0 < r.size) × (fitting32 Form.Wide tt r ≡ true)) rs k (all_pass (fitting32 Form.Wide) rs e))

-- all of it
record Made (form : Form) (s : List ℕ) (places m : ℕ) : Type 0 where
  bytes : (i : ℕ) → s ! i < 256
  versions : ℕ
  accepted : verdict_in form s ≡ Ok versions
  size : m ≡ length (result form s)
  short : m ≤ IMAGE
  room : m ≤ places
  known : Each (Known form) (records s)
  back : result (other form) (result form s) ≡ s
  returns : Each (Returns form) (records s)

carried : Result ℕ Refusal → ℕ
carried (Ok n) = n
carried (Err why) = why.at

made : (form : Form) (s : List ℕ) (places m : ℕ) → Moves form s places m → Made form s places m
unfolding Moves move_of carried
made form s places m h =
    let a = after-written _ _ m h.1 in
    let b = asked 16 _ _ m a.1 in
    let c = asked 17 _ _ m b.1 in
    let d = short-enough _ places c.0 in
    let p = passed s a.0.0 a.0.1 in
    let k = all_known form s h.0 p.q2 p.q3 in
    let r = all_fit form (records s) k b.0 in
    let e : length (result form s) ≡ m = ap carried c.1 in
    record {
      bytes = h.0;
      versions = a.0.0;
      accepted = a.0.1;
      size = sym e;
      short = omega (arith, e, d.0);
      room = omega (arith, e, d.1);
      known = k;
      back = there_and_back form s h.0 p.q2 k r;
      returns = r;
    }

-- its source is of bytes and accepted
pub accepted-source : (form : Form) (s : List ℕ) (places m : ℕ) → Moves form s places m → ((i : ℕ) → s ! i < 256) × (n : ℕ) × (verdict_in form s ≡ Ok n)
accepted-source form s places m h = let a = made form s places m h in (a.bytes, a.versions, a.accepted)

-- ---- the two images

widened : (form : Form) (s : List ℕ) (places m : ℕ) → Made form s places m → Widened (records (narrow_of form s)) (records (wide_of form s))
unfolding narrow_of wide_of
widened Form.Narrow s places m a = records-wider (records s) a.known
widened Form.Wide s places m a = records-narrower (records s) a.known a.returns

result-one : (form : Form) (s : List ℕ) (places m : ℕ) → Made form s places m → question1 (result form s) ≡ None
result-one form s places m a = moved-one form s (passed s a.versions a.accepted).q1 a.back (omega (arith, a.short, a.size))

result-accepted : (form : Form) (s : List ℕ) (places m : ℕ) (a : Made form s places m) → verdict_in (other form) (result form s) ≡ Ok a.versions
unfolding other narrow_of wide_of
result-accepted Form.Narrow s places m a = wide-accepted s (result Form.Narrow s) (widened Form.Narrow s places m a) a.versions a.accepted (result-one Form.Narrow s places m a)
result-accepted Form.Wide s places m a = narrow-accepted (result Form.Wide s) s (widened Form.Wide s places m a) a.versions a.accepted (result-one Form.Wide s places m a)

-- 16 finds nothing in either
fits-plain : (form : Form) (r : Rec) → 0 < r.size → r.size ≡ plain_length r.kind r.body → fitting32 form tt r ≡ true
fits-plain form r h e = rw (not-literal form r.kind r.body (omega (arith, h, e))) refl

fits-literal : (form : Form) (r : Rec) → r.kind ≡ literal_kind form → fits32 (number_in form r.body) ≡ true → fitting32 form tt r ≡ true
fits-literal form r e f = rw (eq-eqb r.kind (literal_kind form) e, f) refl

both-16 : (rs qs : List Rec) → Widened rs qs → (question16 Form.Narrow rs ≡ None) × (question16 Form.Wide qs ≡ None)
unfolding question16 scan Widened ◌and◌
both-16 [] [] h = (refl, refl)
both-16 [] (q ∷ qs) h = absurd h
both-16 (r ∷ rs) [] h = absurd h
both-16 (r ∷ rs) (q ∷ qs) h =
    let w = one h.0 in
    let more = both-16 rs qs h.1 in
    (rw (lt-ltb 0 r.size w.0, w.1) more.0, rw (lt-ltb 0 q.size w.2, w.3) more.1)
  where
    one : (Literal r q ⊎ Kept r q) → (0 < r.size) × (fitting32 Form.Narrow tt r ≡ true) × (0 < q.size) × (fitting32 Form.Wide tt q ≡ true)
    one (inl l) =
        let f = narrow-fits r.body l.old-bytes in
        (old-whole r q l, fits-literal Form.Narrow r l.old f, new-whole r q l, fits-literal Form.Wide q l.new (ap fits32 l.number ∙ f))
    one (inr k) =
        let e : q.size ≡ plain_length q.kind q.body = k.same_size ∙ k.known ∙ sym (rw (k.same_kind, k.same_body) refl) in
        let w : 0 < q.size = omega (arith, k.whole, k.same_size) in
        (k.whole, fits-plain Form.Narrow r k.whole k.known, w, fits-plain Form.Wide q w e)

back-16 : (form : Form) (s : List ℕ) (places m : ℕ) → Made form s places m → question16 (other form) (records (result form s)) ≡ None
unfolding other narrow_of wide_of
back-16 Form.Narrow s places m a = (both-16 _ _ (widened Form.Narrow s places m a)).1
back-16 Form.Wide s places m a = (both-16 _ _ (widened Form.Wide s places m a)).0

-- ---- THE LAWS

pub moved-whole : MovedWhole
unfolding MovedWhole
moved-whole form s places m h = let a = made form s places m h in (a.size, a.short, a.room, moved-bytes form (records s) a.known)

pub moved-accepted : MovedAccepted
unfolding MovedAccepted
moved-accepted form s places m h = let a = made form s places m h in (a.versions, a.accepted, result-accepted form s places m a)

same_shape : (form : Form) (s : List ℕ) (places m : ℕ) → Made form s places m → map shape (program (records s)) ≡ map shape (program (records (result form s)))
unfolding narrow_of wide_of
same_shape Form.Narrow s places m a = forms-shape _ _ (widened Form.Narrow s places m a)
same_shape Form.Wide s places m a = sym (forms-shape _ _ (widened Form.Wide s places m a))

pub same-report : SameReport
unfolding SameReport report_in
same-report form s places m h =
    let a = made form s places m h in
    rw (a.accepted, result-accepted form s places m a) (sym (answer-shape _ _ (same_shape form s places m a) (Ok a.versions)))

pub returned : ThereAndBack
unfolding ThereAndBack move_of after ask
returned form s places m h =
    let a = made form s places m h in
    let l = (long-enough s (passed s a.versions a.accepted).q1).1 in
    (a.back, λ room k. rw (result-accepted form s places m a, back-16 form s places m a, a.back, asks-17 (length s) room l k) refl)

pub runs-agree : RunsAgree
unfolding RunsAgree SixtyFour narrow_of wide_of other
runs-agree Form.Narrow s places m h level f v words budget buffer u =
    let a = made Form.Narrow s places m h in
    sixty-four s a.bytes a.versions a.versions a.accepted (result-accepted Form.Narrow s places m a) level f v words budget buffer u
runs-agree Form.Wide s places m h level f v words budget buffer u =
    let a = made Form.Wide s places m h in
    let t = result Form.Wide s in
    let e : verdict_in Form.Wide (result Form.Narrow t) ≡ Ok a.versions = ap (verdict_in Form.Wide) a.back ∙ a.accepted in
    ap (λ (x : List ℕ). run_of x level f v words budget buffer) (sym a.back)
    ∙ sixty-four t (moved-bytes Form.Wide (records s) a.known) a.versions a.versions (result-accepted Form.Wide s places m a) e level f v words budget buffer u

-- the records of the 32-bit form are in order
narrow-4 : (form : Form) (s : List ℕ) (places m : ℕ) → Made form s places m → question4 (length (narrow_of form s)) (records (narrow_of form s)) ≡ None
unfolding narrow_of other
narrow-4 Form.Narrow s places m a = (passed s a.versions a.accepted).q4
narrow-4 Form.Wide s places m a = (passed (result Form.Wide s) a.versions (result-accepted Form.Wide s places m a)).q4

pub moved-alike : MovedAlike
unfolding MovedAlike
moved-alike form s places m h = let a = made form s places m h in forms-alike _ _ (widened form s places m a) (length (narrow_of form s)) (narrow-4 form s places m a)
