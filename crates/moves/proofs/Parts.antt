-- What a pass along the records of an image that it moves knows at each record.
use Rattle.std.specs.Prelude.{None, Some, Err, Ok, Result}
use mathlib.Core.Path.{◌≡◌, refl, sym, ap, ◌∙◌}
use Rattle.layout.specs.Found.{Found}
use mathlib.Core.List.{List, [], ◌∷◌, ◌++◌, append_assoc}
use mathlib.Core.Bool.{Bool, true, false, cond}
use Prim.Native.Nat.{ℕ, zero, suc, ◌+◌, ◌-◌, ◌*◌, ◌/◌, ◌%◌, ◌≤◌, ◌<◌}
use native.Mathlib.Omega.{arith}
use native.Mathlib.Nat.{zero-add, add-zero}
use lib.ListN.{length, take, drop, length-append, length-take}
use lib.Seq.{drop-drop, take-length}
use lib.Dec.{eqb, leb}
use borrow.Author.Tests.{eqb-true, eq-eqb, ne_eqb, le-leb, lt-leb}
use Rattle.layout.specs.Tests.{◌and◌}
use Rattle.layout.specs.Bounds.{IMAGE}
use Rattle.layout.specs.Records.{◌!◌, size_at, kind_at, body_at, rec_at, rest, records}
use Rattle.layout.specs.Forms.{literal_kind, literal_length, record_bytes, printed, other, moved_number, moved_kind, moved_body, moved}
use Rattle.layout.specs.Questions.{length_of, fitting, same, nothing, question3}
use Rattle.layout.specs.declared.Form.{Form}
use Rattle.layout.proofs.Printed.{body-long, record-slice}
use Rattle.layout.proofs.Walk.{Along, ended, broken, refused as unmet, passed, rest-cons, rest_end, size-head, size_room}
use Rattle.runs.proofs.Moved.{number-long}
use Rattle.checker.specs.Verdicts.{ask, verdict_in, refused}
use Rattle.checker.proofs.Accepted.{passed as all-passed}
use Rattle.checker.proofs.Asks.{accepted-short, still-refused}
use Rattle.checker.proofs.Puts.{Put, Writing, put_as, put_then, writing-as, writing-first, writing-fits, writing-last, writing-next}
use Rattle.writer.proofs.Placed.{placed-length}
use Rattle.writer.specs.Text.{placed}
use Rattle.moves.specs.Moves.{after, buffer_after, fitting32, from16, leaves, move_of, question16, question17}
use Rattle.moves.specs.Parts.{Ready, Stands, head_of, moved_at, sign_of}
use Rattle.checker.specs.declared.Refusal.{Refusal}

-- where question 3 found nothing, it finds nothing from p on
abbrev pub Rest : Form → List ℕ → ℕ → Type 0
Rest form s p = Along (fitting form) same nothing None s p tt

pub rest-first : (form : Form) (s : List ℕ) → question3 form (records s) ≡ None → Rest form s 0
unfolding question3
rest-first form s e = record { inside = omega arith; left = sym e }

no_place : (p : ℕ) → Some p ≡ None → ⊥
no_place p e = let z : ◌≡◌ {A = ℕ} 0 1 = cc in omega (arith, z)

-- so a whole record stands at p
pub standing : (form : Form) (s : List ℕ) (p : ℕ) → ((i : ℕ) → s ! i < 256) → Rest form s p → p < length s → Stands form s p
standing form s p b w h = record { bytes = b; inside = h; whole = λ z. no_place p (broken w h refl z); fits = go (eqb (size_at s p) (length_of form (kind_at s p) (body_at s p))) refl }
  where
    go : (t : Bool) → eqb (size_at s p) (length_of form (kind_at s p) (body_at s p)) ≡ t → size_at s p ≡ length_of form (kind_at s p) (body_at s p)
    go true e = eqb-true _ _ e
    go false e = absurd (no_place p (unmet w h e))

room : (form : Form) (n : ℕ) → literal_length form ≡ n → literal_length (other form) ≤ n + 4
unfolding literal_length other
room Form.Narrow n h = omega (arith, h)
room Form.Wide n h = omega (arith, h)

module _ {form : Form} {s : List ℕ} {p : ℕ} (st : Stands form s p) where
  pub rest-next : Rest form s p → Rest form s (p + size_at s p)
  rest-next w = passed w st.inside refl st.whole (eq-eqb _ _ st.fits)

  -- its bytes in the other form stand before those of the records behind it
  pub moved-cons : moved form (rest s p) ≡ moved_at form s p ++ moved form (rest s (p + size_at s p))
  unfolding moved printed moved_at
  moved-cons = rw (rest-cons s p st.inside, ne_eqb (size_at s p) 0 st.whole) refl

  -- how many they are
  literal-size : kind_at s p ≡ literal_kind form → 4 + length (body_at s p) ≡ literal_length form
  unfolding length_of
  literal-size e = body-long s p st.whole ∙ st.fits ∙ rw (eq-eqb (kind_at s p) (literal_kind form) e) refl

  bytes-long : length (moved_at form s p) ≡ 4 + length (moved_body form (kind_at s p) (body_at s p))
  unfolding moved_at record_bytes
  bytes-long = omega arith

  pub literal-long : kind_at s p ≡ literal_kind form → length (moved_at form s p) ≡ literal_length (other form)
  unfolding moved_body
  literal-long e = bytes-long ∙ rw (eq-eqb (kind_at s p) (literal_kind form) e) (number-long form (body_at s p) (literal-size e))

  pub plain-long : (kind_at s p ≡ literal_kind form → ⊥) → length (moved_at form s p) ≡ size_at s p
  unfolding moved_body
  plain-long e = bytes-long ∙ rw (ne_eqb (kind_at s p) (literal_kind form) e) (body-long s p st.whole)

  -- a literal becomes at most four bytes longer
  pub literal-room : kind_at s p ≡ literal_kind form → literal_length (other form) ≤ size_at s p + 4
  literal-room e = room form (size_at s p) (omega (arith, literal-size e, body-long s p st.whole))

  -- any other record stays as it is
  pub plain-bytes : (kind_at s p ≡ literal_kind form → ⊥) → moved_at form s p ≡ take (size_at s p) (drop p s)
  unfolding moved_at moved_kind moved_body
  plain-bytes e = rw (ne_eqb (kind_at s p) (literal_kind form) e) (sym (record-slice s p st.bytes st.whole))

-- the part of a literal that both forms have ends inside
pub literal-inside : {form : Form} {s : List ℕ} {p : ℕ} → Stands form s p → kind_at s p ≡ literal_kind form → p + 9 ≤ length s
unfolding literal_length
literal-inside {form} {s} {p} st e = omega (arith, nine form, literal-size st e, body-long s p st.whole, size_room s p (omega (arith, st.inside)))
  where
    nine : (f : Form) → 9 ≤ literal_length f
    nine Form.Narrow = omega arith
    nine Form.Wide = omega arith

-- a literal: its head in the other form, its register and its low four bytes, and where it comes from 32 bits the sign
take_short : (a b : ℕ) (l : List ℕ) → a ≤ b → take a (take b l) ≡ take a l
take_short zero zero [] h = refl
take_short zero zero (x ∷ l) h = refl
take_short zero (suc b) [] h = refl
take_short zero (suc b) (x ∷ l) h = refl
take_short (suc a) zero l h = absurd (omega arith)
take_short (suc a) (suc b) [] h = refl
take_short (suc a) (suc b) (x ∷ l) h = ap (λ (t : List ℕ). x ∷ t) (take_short a b l (omega arith))

low-bytes : (s : List ℕ) (p n : ℕ) → size_at s p ≡ n → 9 ≤ n → take 5 (body_at s p) ≡ take 5 (drop (p + 4) s)
unfolding body_at
low-bytes s p n e h = take_short 5 (size_at s p - 4) (drop 4 (drop p s)) (omega (arith, e)) ∙ ap (take 5) (drop-drop 4 p s)

-- a record of fewer than 256 bytes, of a kind below 256
low-record : (k n : ℕ) (b : List ℕ) → k < 256 → n < 256 → 4 + length b ≡ n → record_bytes k b ≡ n ∷ 0 ∷ k ∷ 0 ∷ b
unfolding record_bytes
low-record k n b h l e =
    let n0 : n % 256 ≡ n = omega arith in
    let n1 : n / 256 ≡ 0 = omega arith in
    let k0 : k % 256 ≡ k = omega arith in
    let k1 : k / 256 ≡ 0 = omega arith in
    rw (e, n0, n1, k0, k1) refl

pub narrow-bytes : (s : List ℕ) (p : ℕ) → Stands Form.Narrow s p → kind_at s p ≡ literal_kind Form.Narrow → moved_at Form.Narrow s p ≡ head_of Form.Wide ++ take 5 (drop (p + 4) s) ++ sign_of s p
unfolding moved_at moved_kind moved_body moved_number other head_of sign_of literal_length literal_kind
narrow-bytes s p st e =
    let n = literal-size st e in
    let b = body_at s p in
    let five : length b ≡ 5 = omega (arith, n) in
    let low : b ≡ take 5 (drop (p + 4) s) = sym (ap (λ (j : ℕ). take j b) (sym five) ∙ take-length b) ∙ low-bytes s p 9 (omega (arith, n, body-long s p st.whole)) (omega arith) in
    rw (eq-eqb (kind_at s p) (literal_kind Form.Narrow) e)
    (low-record 36 13 (b ++ sign_of s p) (omega arith) (omega arith) (rw length-append (omega (arith, n))) ∙ ap (λ (l : List ℕ). 13 ∷ 0 ∷ 36 ∷ 0 ∷ l ++ sign_of s p) low)

pub wide-bytes : (s : List ℕ) (p : ℕ) → Stands Form.Wide s p → kind_at s p ≡ literal_kind Form.Wide → moved_at Form.Wide s p ≡ head_of Form.Narrow ++ take 5 (drop (p + 4) s)
unfolding moved_at moved_kind moved_body moved_number other head_of literal_length literal_kind
wide-bytes s p st e =
    let n = literal-size st e in
    rw (eq-eqb (kind_at s p) (literal_kind Form.Wide) e)
    (low-record 16 9 (take 5 (body_at s p)) (omega arith) (omega arith) (rw length-take (omega (arith, n))) ∙ ap (λ (l : List ℕ). 9 ∷ 0 ∷ 16 ∷ 0 ∷ l) (low-bytes s p 13 (omega (arith, n, body-long s p st.whole)) (omega arith)))

-- ---- as the code puts them

pub literal-put-narrow : {y z w : List ℕ} (x s : List ℕ) (p at n : ℕ) (form to : Form) → form ≡ Form.Narrow → to ≡ other form → Stands form s p → kind_at s p ≡ literal_kind form
    → at + length (moved_at form s p) ≤ length x → n ≡ 5 → y ≡ placed x at (head_of to) → z ≡ placed y (at + 4) (take n (drop (p + 4) s)) → w ≡ placed z (at + 9) (sign_of s p)
    → (at + 9 + 4 ≡ at + length (moved_at form s p)) × (w ≡ placed x at (moved_at form s p))
unfolding other head_of sign_of literal_length
literal-put-narrow x s p at n Form.Wide to e t st k h five a b c = let z : ◌≡◌ {A = ℕ} 0 1 = cc in absurd (omega (arith, z))
literal-put-narrow {y} {z} {w} x s p at n Form.Narrow to e t st k h five a b c =
    let part = take 5 (drop (p + 4) s) in
    let l : length (moved_at Form.Narrow s p) ≡ 13 = literal-long st k in
    let bs = narrow-bytes s p st k in
    let lp : length part ≡ 5 = omega (arith, l, ap length bs, length-append part (sign_of s p)) in
    let first : Put x y at (at + 4) (head_of Form.Wide) = record { writes = a ∙ ap (λ (f : Form). placed x at (head_of f)) t; ends = omega arith } in
    let second : Put y z (at + 4) (at + 9) part = record { writes = b ∙ ap (λ (j : ℕ). placed y (at + 4) (take j (drop (p + 4) s))) five; ends = omega (arith, lp) } in
    let third : Put z w (at + 9) (at + 13) (sign_of s p) = record { writes = c; ends = omega arith } in
    let all = put_as (append_assoc (head_of Form.Wide) part (sign_of s p) ∙ sym bs) (put_then (put_then first second (omega (arith, h, l))) third (omega (arith, h, l))) in
    (omega (arith, l), all.writes)

pub literal-put-wide : {y z : List ℕ} (x s : List ℕ) (p at n : ℕ) (form to : Form) → form ≡ Form.Wide → to ≡ other form → Stands form s p → kind_at s p ≡ literal_kind form
    → at + length (moved_at form s p) ≤ length x → n ≡ 5 → y ≡ placed x at (head_of to) → z ≡ placed y (at + 4) (take n (drop (p + 4) s))
    → (at + 9 ≡ at + length (moved_at form s p)) × (z ≡ placed x at (moved_at form s p))
unfolding other head_of literal_length
literal-put-wide x s p at n Form.Narrow to e t st k h five a b = let z : ◌≡◌ {A = ℕ} 0 1 = cc in absurd (omega (arith, z))
literal-put-wide {y} {z} x s p at n Form.Wide to e t st k h five a b =
    let part = take 5 (drop (p + 4) s) in
    let l : length (moved_at Form.Wide s p) ≡ 9 = literal-long st k in
    let bs = wide-bytes s p st k in
    let lp : length part ≡ 5 = omega (arith, l, ap length bs) in
    let first : Put x y at (at + 4) (head_of Form.Narrow) = record { writes = a ∙ ap (λ (f : Form). placed x at (head_of f)) t; ends = omega arith } in
    let second : Put y z (at + 4) (at + 9) part = record { writes = b ∙ ap (λ (j : ℕ). placed y (at + 4) (take j (drop (p + 4) s))) five; ends = omega (arith, lp) } in
    let all = put_as (sym bs) (put_then first second (omega (arith, h, l))) in
    (omega (arith, l), all.writes)

pub plain-put : {y : List ℕ} {s : List ℕ} {p : ℕ} {form : Form} (x : List ℕ) (at n m : ℕ) → (st : Stands form s p) → (kind_at s p ≡ literal_kind form → ⊥) → n ≡ size_at s p → m ≡ n → y ≡ placed x at (take m (drop p s))
    → (at + n ≡ at + length (moved_at form s p)) × (y ≡ placed x at (moved_at form s p))
plain-put {s = s} {p = p} x at n m st k e f a = (omega (arith, e, plain-long st k), rw (plain-bytes st k, sym e, sym f) a)

pub moved-end : (form : Form) (s : List ℕ) (p : ℕ) → length s ≤ p → moved form (rest s p) ≡ []
unfolding moved printed
moved-end form s p h = rw (rest_end s p h) refl

-- A pass that measures has come to p: what is left of 3 and 16 is put to the records from p on, and what is left of the length is that of their bytes.
pub record Measuring (form : Form) (s : List ℕ) (p total : ℕ) : Type 0 where
  pub three : Rest form s p
  pub sixteen : Along (fitting32 form) same nothing (question16 form (records s)) s p tt
  pub left : length (moved form (records s)) ≡ total + length (moved form (rest s p))
  pub small : total ≤ 2 * p

pub measure-first : (form : Form) (s : List ℕ) → Ready form s → Measuring form s 0 0
unfolding question16
measure-first form s r = record { three = rest-first form s r.known; sixteen = record { inside = omega arith; left = refl }; left = sym (zero-add _); small = omega arith }

module _ {form : Form} {s : List ℕ} {p total : ℕ} (r : Ready form s) (w : Measuring form s p total) where
  pub measured-end : length s ≤ p → Ok total ≡ ask 16 (question16 form (records s)) (Ok (length (moved form (records s))))
  unfolding ask
  measured-end h = rw (sym (ended w.sixteen h), w.left, moved-end form s p h, add-zero) refl

  pub measured-unfit : p < length s → fitting32 form tt (rec_at s p) ≡ false → Err (refused 16 p) ≡ ask 16 (question16 form (records s)) (Ok (length (moved form (records s))))
  unfolding ask
  measured-unfit h e = rw (sym (unmet w.sixteen h e)) refl

  pub measuring-stands : p < length s → Stands form s p
  measuring-stands h = standing form s p r.bytes w.three h

  pub measure-next : {n k : ℕ} → p < length s → n ≡ size_at s p → fitting32 form tt (rec_at s p) ≡ true → k ≡ length (moved_at form s p) → k ≤ size_at s p + 4 → Measuring form s (p + n) (total + k)
  measure-next {n} {k} h e f g l =
      let st = measuring-stands h in
      rw e (record {
        three = rest-next st w.three;
        sixteen = passed w.sixteen h refl st.whole f;
        left = w.left ∙ ap (λ (t : List ℕ). total + length t) (moved-cons st) ∙ rw (length-append (moved_at form s p) (moved form (rest s (p + size_at s p)))) (omega (arith, g));
        small = omega (arith, w.small, l, (size-head s p st.whole).1);
      })

-- A pass that writes has come to p: what is left of 3 is put to the records from p on, and their bytes are still to be put.
pub record Moved (form : Form) (s before after : List ℕ) (p at : ℕ) : Type 0 where
  pub three : Rest form s p
  pub same-room : length after ≡ length before
  pub writing : Writing (moved form (records s)) (moved form (rest s p)) before after at

pub move-first : (form : Form) (s x : List ℕ) → Ready form s → Moved form s x x 0 0
move-first form s x r = record { three = rest-first form s r.known; same-room = refl; writing = writing-first _ _ }

module _ {form : Form} {s x y : List ℕ} {p at : ℕ} (r : Ready form s) (w : Moved form s x y p at) where
  pub move-stands : p < length s → Stands form s p
  move-stands h = standing form s p r.bytes w.three h

  pub move-fits : p < length s → length (moved form (records s)) ≤ length x → at + length (moved_at form s p) ≤ length y
  move-fits h l = rw w.same-room (writing-fits (moved_at form s p) (moved form (rest s (p + size_at s p))) (writing-as (moved-cons (move-stands h)) w.writing) l)

  pub move-next : {n next : ℕ} {z : List ℕ} → p < length s → length (moved form (records s)) ≤ length x → n ≡ size_at s p → next ≡ at + length (moved_at form s p) → z ≡ placed y at (moved_at form s p) → Moved form s x z (p + n) next
  move-next {n} h l e f g =
      let st = move-stands h in
      rw e (record {
        three = rest-next st w.three;
        same-room = ap length g ∙ placed-length y at (moved_at form s p) ∙ w.same-room;
        writing = writing-next (moved_at form s p) (moved form (rest s (p + size_at s p))) (writing-as (moved-cons st) w.writing) l (record { writes = g; ends = f });
      })

  pub move-last : length s ≤ p → y ≡ placed x 0 (moved form (records s))
  move-last h = (writing-last (writing-as (moved-end form s p h) w.writing)).writes

-- ---- the answer

module _ (n places : ℕ) (out t : List ℕ) where
  pub says-long : IMAGE < n → (Err (refused 17 0) ≡ ask 17 (question17 n places) (Ok n)) × (out ≡ leaves (Err (refused 17 0)) out t)
  unfolding ask question17 leaves ◌and◌
  says-long h = (rw (lt-leb n IMAGE h) refl, refl)

  pub says-short : places < n → (Err (refused 17 0) ≡ ask 17 (question17 n places) (Ok n)) × (out ≡ leaves (Err (refused 17 0)) out t)
  unfolding ask question17 leaves ◌and◌
  says-short h = (rw (lt-leb n places h) (go (leb n IMAGE)), refl)
    where
      go : (b : Bool) → Err (refused 17 0) ≡ ask 17 (cond (b and false) None (Some 0)) (Ok n)
      go true = refl
      go false = refl

  pub says-written : {last : List ℕ} → n ≤ IMAGE → n ≤ places → last ≡ placed out 0 t → (Ok n ≡ ask 17 (question17 n places) (Ok n)) × (last ≡ leaves (Ok n) out t)
  unfolding ask question17 leaves ◌and◌
  says-written h l e = (rw (le-leb n IMAGE h, le-leb n places l) refl, e)

-- what was measured says what 16 found
pub found_none : (f : Found) (n m : ℕ) → Ok m ≡ ask 16 f (Ok n) → (f ≡ None) × (m ≡ n)
unfolding ask
found_none None n m e = let z : m ≡ n = cc in (refl, z)
found_none (Some q) n m e = let z : ◌≡◌ {A = ℕ} 0 1 = cc in absurd (omega (arith, z))

pub unfit-says : (form : Form) (s out t : List ℕ) (n : ℕ) (why : Refusal) → Err why ≡ ask 16 (question16 form (records s)) (Ok n) → (Err why ≡ from16 form s (length out)) × (out ≡ leaves (Err why) out t)
unfolding leaves
unfit-says form s out t n why e = (sym (still-refused 16 _ _ _ (sym e)), refl)

pub fit-says : (form : Form) (s : List ℕ) (n places : ℕ) {r : Result ℕ Refusal} → question16 form (records s) ≡ None → n ≡ length (moved form (records s)) → r ≡ ask 17 (question17 n places) (Ok n) → r ≡ from16 form s places
unfolding ask
fit-says form s n places e f g = g ∙ rw (e, f) refl

-- ---- behind the verdict

module _ (form : Form) (s : List ℕ) where
  pub ready : (k : ℕ) → ((i : ℕ) → s ! i < 256) → verdict_in form s ≡ Ok k → Ready form s
  ready k b e = record { bytes = b; short = accepted-short form s k e; known = (all-passed s k e).q3 }

  pub accepted-says : {r : Result ℕ Refusal} {last : List ℕ} (k : ℕ) (out : List ℕ) → verdict_in form s ≡ Ok k → r ≡ from16 form s (length out) → last ≡ leaves r out (moved form (records s)) → (r ≡ move_of form s (length out)) × (last ≡ buffer_after form s out)
  unfolding move_of after
  accepted-says {r} {last} k out e f g = let z : r ≡ move_of form s (length out) = f ∙ sym (rw e refl) in (z, g ∙ ap (λ (m : Result ℕ Refusal). leaves m out (moved form (records s))) z)

  pub refused_says : (why : Refusal) (out : List ℕ) → verdict_in form s ≡ Err why → (Err why ≡ move_of form s (length out)) × (out ≡ buffer_after form s out)
  unfolding move_of after leaves
  refused_says why out e = (rw e refl, rw e refl)
