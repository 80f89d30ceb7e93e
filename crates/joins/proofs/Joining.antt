-- 02, 13: the claims hold.
use Rattle.std.specs.Prelude.{None, Some, Err, Ok}
use mathlib.Core.Path.{◌≡◌, refl, sym, ap, ◌∙◌, subst}
use mathlib.Core.List.{List, ◌++◌, map}
use mathlib.Core.Option.{none}
use mathlib.Core.Bool.{Bool, true, false, cond}
use Prim.Native.Nat.{ℕ, ◌+◌, ◌≤◌, ◌<◌}
use native.Mathlib.Nat.{zero-add}
use native.Mathlib.Omega.{arith}
use lib.IntN.{ℤ}
use lib.ListN.{length, length-append, length-map}
use lib.Dec.{leb, ltb}
use borrow.Author.Tests.{leb-true, ltb-true, lt-ltb, le-leb}
use Rattle.layout.specs.Bounds.{IMAGE, FUNCTIONS, ALL-VERSIONS}
use Rattle.layout.specs.Tests.{◌and◌}
use Rattle.layout.specs.Records.{Rec, records}
use Rattle.layout.specs.Found.{Found}
use Rattle.layout.specs.Forms.{printed}
use Rattle.layout.specs.Questions.{question1, question5}
use Rattle.layout.specs.declared.Form.{Form}
use Rattle.layout.proofs.Bools.{and_both}
use Rattle.layout.proofs.Printed.{records-printed}
use Rattle.program.specs.Program.{Program, View, view, program}
use Rattle.program.specs.Search.{first}
use Rattle.program.specs.Questions.{question7}
use Rattle.program.specs.Skips.{question14}
use Rattle.program.proofs.Held.{holds}
use Rattle.program.proofs.Laid as laid
use Rattle.rules.specs.Questions.{question6, question8, question18, question9}
use Rattle.rules.specs.Flows.{question10}
use Rattle.checker.specs.Verdicts.{verdict_of, Verdict, refused as refused_by}
use Rattle.checker.proofs.Accepted.{Passed, passed, accept}
use Rattle.machine.specs.Begin.{begin_of, begin_after, entered_of, question11, refused, run_after, run_after_to, run_of, run_of_to, program_of}
use Rattle.joins.specs.Shifted.{shift_version, shift_program}
use Rattle.joins.specs.Joins.{functions_in, versions_in, joined, in_bounds, join_after, join_of, raise_rec}
use Rattle.joins.specs.Alongside.{Carries, Closed, SimRan, SimBegun}
use Rattle.joins.specs.Claims.{SameRuns, Joins, JoinsWell}
use Rattle.layout.proofs.Behind.{behind, chained, records-behind}
use Rattle.joins.proofs.Raised.{shift_rec, Fits, fits-from, shift_view, view-shifted, program-behind, begins}
use Rattle.joins.proofs.Ordered.{next_of, Counted, counted, question2-joined, question3-joined, question4-joined, question5-joined, question14-joined, chain-laid, raised-behind, chain_length}
use Rattle.joins.proofs.Questions.{asks6, asks7, asks8, asks18, asks9, asks10}
use Rattle.joins.proofs.Together.{Below, below-records, names_in, carries-first, carries-second, first-joined, find-high}
use Rattle.joins.proofs.Runs.{budget-sim, buffer-sim, events-sim, begun-sim}
use Rattle.joins.specs.declared.JoinError.TheVariants.{Together}
use Rattle.machine.specs.Denials.{Grant, denied}

-- ---- what an accepted image gives

module _ (s : List ℕ) (n : ℕ) (w : Passed Form.Wide s n) where
  pub fits-image : Fits (records s)
  fits-image = fits-from (records s) 0 (length s) (chained s w.q2) w.q3

  counted-image : Counted none (records s)
  unfolding question5
  counted-image = counted (records s) none w.q5

  pub below-image : Below (functions_in s) (program_of s)
  unfolding next_of
  below-image = below-records (functions_in s) (records s) fits-image counted-image.low

  pub closed-image : Closed (functions_in s) (program_of s)
  closed-image f x v e = names_in (functions_in s) (program_of s) below-image v (holds (question7 (program_of s)) (program_of s) w.q7 f x v e)

-- ---- runs of a program that stands in another

module _ (k o n : ℕ) (s t : List ℕ) (x y : ℕ) (va : verdict_of s ≡ Ok x) (vt : verdict_of t ≡ Ok y) (C : Carries k o n (program_of s) (program_of t)) (D : Closed n (program_of s)) where
  begin-same : (level f v : ℕ) (words buffer : List ℤ) → f < n → SimBegun k n (begin_of s level f v words buffer) (begin_of t level (k + f) v words buffer)
  unfolding begin_of begin_after
  begin-same level f v words buffer h = rw (va, vt) (begun-sim k o n (program_of s) (program_of t) C D level f v words buffer h)

  run-same : (level f v : ℕ) (words : List ℤ) (m : ℕ) (buffer : List ℤ) → f < n → SimRan k n (run_of s level f v words m buffer) (run_of t level (k + f) v words m buffer)
  unfolding run_of_to run_after_to
  run-same level f v words m buffer h = go (begin_of s level f v words buffer).entry (begin_of t level (k + f) v words buffer).entry (begin-same level f v words buffer h).entries
    where
      go : (p q : Grant) → q ≡ p → SimRan k n (run_after p (program_of s) (begin_of s level f v words buffer).state m buffer) (run_after q (program_of t) (begin_of t level (k + f) v words buffer).state m buffer)
      go (Err why) q e = rw e (record { answers = refl; steps = refl; states = (begin-same level f v words buffer h).states })
      go (Ok _) q e = rw e (budget-sim k o n (program_of s) (program_of t) C D m buffer (begin_of s level f v words buffer).state (begin_of t level (k + f) v words buffer).state (begin-same level f v words buffer h).states)

  pub same_runs : (f : ℕ) → f < n → SameRuns k n s f t (k + f)
  same_runs f h = record {
    entry = λ level v words buffer. (begin-same level f v words buffer h).entries;
    answer = λ level v words m buffer. (run-same level f v words m buffer h).answers;
    steps = λ level v words m buffer. (run-same level f v words m buffer h).steps;
    buffers = λ level v words m buffer. buffer-sim k o n (program_of s) (program_of t) C D _ _ buffer (run-same level f v words m buffer h);
    replied = λ level v words buffer events e. (events-sim k o n s t C D events e _ _ (begin-same level f v words buffer h).states).0;
    states = λ level v words buffer events e. (events-sim k o n s t C D events e _ _ (begin-same level f v words buffer h).states).1;
  }

-- ---- the joined image

module _ (a b : List ℕ) (n m room : ℕ) (va : verdict_of a ≡ Ok n) (vb : verdict_of b ≡ Ok m) (h : in_bounds a b room ≡ true) where
  wa : Passed Form.Wide a n
  wa = passed a n va

  wb : Passed Form.Wide b m
  wb = passed b m vb

  abbrev k : ℕ
  k = functions_in a

  abbrev o : ℕ
  o = length a

  bytes : length a + length b ≤ IMAGE
  unfolding in_bounds
  bytes = leb-true _ _ (and_both _ _ h).0

  numbers : functions_in a + functions_in b ≤ FUNCTIONS
  unfolding in_bounds
  numbers = leb-true _ _ (and_both _ _ (and_both _ _ h).1).0

  many : versions_in a + versions_in b ≤ ALL-VERSIONS
  unfolding in_bounds
  many = leb-true _ _ (and_both _ _ (and_both _ _ (and_both _ _ h).1).1).0

  joined_length : length (joined a b) ≡ length a + length b
  unfolding joined
  joined_length = length-append a (printed (map (raise_rec k) (records b))) ∙ (let e = chain_length k (records b) 0 (length b) (chained b wb.q2) in omega (arith, e))

  joined-records : records (joined a b) ≡ records a ++ map (shift_rec k o) (records b)
  unfolding joined
  joined-records =
      let raised = map (raise_rec k) (records b) in
      records-behind a (printed raised) wa.q2
      ∙ ap (λ (l : List Rec). records a ++ map (behind o) l) (records-printed raised ∙ chain-laid k (records b) 0 (length b) (chained b wb.q2))
      ∙ ap (λ (l : List Rec). records a ++ l) (raised-behind k o (records b))

  view-second : view (map (shift_rec k o) (records b)) ≡ shift_view k o (view (records b))
  view-second = view-shifted k o (records b) (fits-image b m wb)

  pub joined-program : program_of (joined a b) ≡ program_of a ++ shift_program k o (program_of b)
  unfolding shift_view
  joined-program =
      let g = begins (length b) (records b) wb.q4 in
      ap (λ (l : List Rec). program l) joined-records
      ∙ program-behind (records a) (map (shift_rec k o) (records b)) (fits-image a n wa) (rw (view-second, g.0) refl) (rw (view-second, g.1) refl) (rw (view-second, g.2) refl)
      ∙ ap (λ (w : View). program_of a ++ w.versions) view-second

  below-a : Below k (program_of a)
  below-a = below-image a n wa

  below-b : Below (functions_in b) (program_of b)
  below-b = below-image b m wb

  abbrev J : Program
  J = program_of a ++ shift_program k o (program_of b)

  first-a : Carries 0 0 k (program_of a) J
  first-a = carries-first k (functions_in b) o (program_of a) (program_of b) below-a below-b

  second-b : Carries k o (functions_in b) (program_of b) J
  second-b = carries-second k (functions_in b) o (program_of a) (program_of b) below-a below-b

  q1-joined : question1 (joined a b) ≡ None
  unfolding question1 ◌and◌
  q1-joined =
      let z : (0 < length a) × (length a ≤ IMAGE) = one in
      rw (joined_length, lt-ltb 0 (length a + length b) (omega (arith, z.0)), le-leb (length a + length b) IMAGE bytes) refl
    where
      one : (0 < length a) × (length a ≤ IMAGE)
      one = let t = and_both _ _ (laid.passed (ltb 0 (length a) and leb (length a) IMAGE) None 0 (flip wa.q1)).0 in (ltb-true _ _ t.0, leb-true _ _ t.1)
        where
          flip : question1 a ≡ None → cond {A = Found} (ltb 0 (length a) and leb (length a) IMAGE) None (Some 0) ≡ None
          flip e = e

  passed-joined : Passed Form.Wide (joined a b) (versions_in a + versions_in b)
  unfolding question5 next_of first-a second-b
  passed-joined =
      let fa = fits-image a n wa in
      let fb = fits-image b m wb in
      let cb = counted-image b m wb in
      let P = program_of a in
      let Q = program_of b in
      record {
        q1 = q1-joined;
        q2 = rw joined-records (question2-joined k o (records a) (records b) wa.q2 wb.q2);
        q3 = rw joined-records (question3-joined k o (records a) (records b) wa.q3 wb.q3);
        q4 = rw joined-records (question4-joined k (functions_in b) o (length a) (length b) (length (joined a b)) (records a) (records b) fa fb cb.low numbers many wa.q4 wb.q4);
        q5 = subst (λ (rs : List Rec). question5 rs ≡ None) (sym joined-records) (question5-joined k o (records a) (records b) fb (counted-image a n wa).last wa.q5 wb.q5);
        q6 = subst (λ (R : Program). first question6 R ≡ None) (sym joined-program) (first-joined k (functions_in b) o P Q below-a below-b question6 question6 question6 (asks6 0 0 k P J first-a) (asks6 k o (functions_in b) Q J second-b) wa.q7 wb.q7 wa.q6 wb.q6);
        q7 = subst (λ (R : Program). first (question7 R) R ≡ None) (sym joined-program) (first-joined k (functions_in b) o P Q below-a below-b (question7 P) (question7 Q) (question7 J) (asks7 0 0 k P J first-a) (asks7 k o (functions_in b) Q J second-b) wa.q7 wb.q7 wa.q7 wb.q7);
        q14 = subst (λ (rs : List Rec). question14 rs ≡ None) (sym joined-records) (question14-joined k o (length b) (records a) (records b) wb.q4 wa.q14 wb.q14);
        q8 = subst (λ (R : Program). first (question8 R) R ≡ None) (sym joined-program) (first-joined k (functions_in b) o P Q below-a below-b (question8 P) (question8 Q) (question8 J) (asks8 0 0 k P J first-a) (asks8 k o (functions_in b) Q J second-b) wa.q7 wb.q7 wa.q8 wb.q8);
        q18 = subst (λ (R : Program). first (question18 R) R ≡ None) (sym joined-program) (first-joined k (functions_in b) o P Q below-a below-b (question18 P) (question18 Q) (question18 J) (asks18 0 0 k P J first-a) (asks18 k o (functions_in b) Q J second-b) wa.q7 wb.q7 wa.q18 wb.q18);
        q9 = subst (λ (R : Program). first (question9 R) R ≡ None) (sym joined-program) (first-joined k (functions_in b) o P Q below-a below-b (question9 P) (question9 Q) (question9 J) (asks9 0 0 k P J first-a) (asks9 k o (functions_in b) Q J second-b) wa.q7 wb.q7 wa.q9 wb.q9);
        q10 = subst (λ (R : Program). first (question10 R) R ≡ None) (sym joined-program) (first-joined k (functions_in b) o P Q below-a below-b (question10 P) (question10 Q) (question10 J) (asks10 0 0 k P J first-a) (asks10 k o (functions_in b) Q J second-b) wa.q7 wb.q7 wa.q10 wb.q10);
        count = ap (λ (R : Program). length R) joined-program ∙ length-append P (shift_program k o Q) ∙ ap (λ (i : ℕ). length P + i) (length-map Q (shift_version k o));
      }

  accepted-joined : verdict_of (joined a b) ≡ Ok (versions_in a + versions_in b)
  accepted-joined = accept passed-joined

  -- no version stands behind those of both
  others-joined : (level f v : ℕ) (words buffer : List ℤ) → k + functions_in b ≤ f → (begin_of (joined a b) level f v words buffer).entry ≡ Err (denied 11 0)
  unfolding begin_of begin_after entered_of question11 refused
  others-joined level f v words buffer h = rw (accepted-joined, joined-program, find-high k (functions_in b) o (program_of a) (program_of b) below-a below-b f v h) refl

  joins-both : Joins a b (length a + length b)
  joins-both = record {
    size = joined_length;
    accepted = accepted-joined;
    first = λ f l. rw (zero-add f) at (same_runs 0 0 k a (joined a b) n _ va accepted-joined (rw joined-program first-a) (closed-image a n wa) f l);
    second = λ f l. same_runs k o (functions_in b) b (joined a b) m _ vb accepted-joined (rw joined-program second-b) (closed-image b m wb) f l;
    others = others-joined;
  }

-- ---- a join that was written

-- both images are accepted, and keep the bounds together
pub record Taken (a b : List ℕ) (room n : ℕ) : Type 0 where
  pub first_count : ℕ
  pub second-count : ℕ
  pub first : verdict_of a ≡ Ok first_count
  pub second : verdict_of b ≡ Ok second-count
  pub inside : in_bounds a b room ≡ true
  pub size : length a + length b ≡ n

pub taken : (a b : List ℕ) (room n : ℕ) → join_of a b room ≡ Ok n → Taken a b room n
unfolding join_of join_after
taken a b room n e = go (verdict_of a) (verdict_of b) refl refl e
  where
    in_bounds_lem : (i j : ℕ) → verdict_of a ≡ Ok i → verdict_of b ≡ Ok j → (t : Bool) → in_bounds a b room ≡ t → cond t (Ok (length a + length b)) (Err (Together (refused_by 23 0))) ≡ Ok n → Taken a b room n
    in_bounds_lem i j p q true t g = record { first_count = i; second-count = j; first = p; second = q; inside = t; size = cc }
    in_bounds_lem i j p q false t g = let z : ◌≡◌ {A = ℕ} 0 1 = cc in absurd (omega arith)

    go : (x y : Verdict) → verdict_of a ≡ x → verdict_of b ≡ y → join_after x y a b room ≡ Ok n → Taken a b room n
    go (Err why) y p q g = let z : ◌≡◌ {A = ℕ} 0 1 = cc in absurd (omega arith)
    go (Ok i) (Err why) p q g = let z : ◌≡◌ {A = ℕ} 0 1 = cc in absurd (omega arith)
    go (Ok i) (Ok j) p q g = in_bounds_lem i j p q (in_bounds a b room) refl g

-- THE LAW of 02, 13
pub joins-well : JoinsWell
unfolding JoinsWell
joins-well a b room n e = let t = taken a b room n e in subst (Joins a b) t.size (joins-both a b t.first_count t.second-count room t.first t.second t.inside)
