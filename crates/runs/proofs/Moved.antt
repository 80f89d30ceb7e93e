-- 02, 6: an image in the other form: its records are those of the image in both forms, and there and back is the image.
use Rattle.std.specs.Prelude.{None}
use mathlib.Core.Path.{◌≡◌, refl, sym, ap, ap₂, ◌∙◌}
use mathlib.Core.Logic.{◌⊎◌, inl, inr}
use mathlib.Core.List.{List, [], ◌∷◌, ◌++◌, map}
use mathlib.Core.Bool.{Bool, true, false, cond}
use Prim.Native.Nat.{ℕ, zero, suc, ◌+◌, ◌-◌, ◌*◌, ◌≤◌, ◌<◌}
use native.Mathlib.Omega.{arith}
use lib.ListN.{length, take, length-append, length-take}
use lib.Dec.{eqb, ltb}
use borrow.Author.Tests.{ltb-true, ltb-false, eqb-true, eq-eqb, ne_eqb}
use mir.Syntax.{w32, w64}
use mir.Val.{to_z}
use mir.ValLaws.{to_z_pos, to_z-neg}
use Rattle.layout.specs.Records.{Rec, ◌!◌, choose, records}
use Rattle.layout.specs.Forms.{literal_kind, literal_length, record_bytes, printed, other, sign_byte, moved_number, moved_kind, moved_body, moved_record, moved}
use Rattle.layout.specs.Questions.{length_of, plain_length, fitting, question2, question3}
use Rattle.layout.specs.declared.Form.{Form}
use Rattle.layout.proofs.Lists.{Each, each_both, each-then}
use Rattle.layout.proofs.Printed.{Whole, all_pass, all_whole, both_bytes, laid, part_bytes, printed-bytes, printed-laid, records-printed, verbatim}
use Rattle.program.specs.Program.{number_in}
use Rattle.runs.proofs.Widened.{Literal, Kept, Widened}

-- ---- records that are known in a form

-- a whole record of bytes with the length that its kind and fields make in a form
pub record Known (form : Form) (r : Rec) : Type 0 where
  pub is : Whole r
  pub fits : r.size ≡ length_of form r.kind r.body

pub all_known : (form : Form) (s : List ℕ) → ((i : ℕ) → s ! i < 256) → question2 (records s) ≡ None → question3 form (records s) ≡ None → Each (Known form) (records s)
unfolding question3
all_known form s bytes e f = each-then (λ r. Whole r × Passes r) (Known form) (records s) (λ r h. record { is = h.0; fits = eqb-true _ _ h.1.1 }) (each_both Whole Passes (records s) (all_whole s bytes e) (all_pass (fitting form) (records s) f))
  where
    Passes : Rec → Type 0
    Passes r = (0 < r.size) × (fitting form tt r ≡ true)

-- the kind of a literal is none of both forms
pub not-literal : (form : Form) (k : ℕ) (b : List ℕ) → 0 < plain_length k b → eqb k (literal_kind form) ≡ false
unfolding plain_length choose literal_kind
not-literal Form.Narrow k b h = ne_eqb k 16 (λ e. let z : plain_length k b ≡ 0 = rw e refl in absurd (omega (arith, h, z)))
not-literal Form.Wide k b h = ne_eqb k 36 (λ e. let z : plain_length k b ≡ 0 = rw e refl in absurd (omega (arith, h, z)))

-- a record is a literal of its form, or of a kind of both
module _ {form : Form} {r : Rec} (n : Known form r) where
  pub literal-long : r.kind ≡ literal_kind form → 4 + length r.body ≡ literal_length form
  unfolding length_of
  literal-long e = sym n.is.whole ∙ n.fits ∙ rw (eq-eqb r.kind (literal_kind form) e) refl

  plain-long : eqb r.kind (literal_kind form) ≡ false → r.size ≡ plain_length r.kind r.body
  unfolding length_of
  plain-long e = n.fits ∙ rw e refl

  plain_other : eqb r.kind (literal_kind form) ≡ false → eqb r.kind (literal_kind (other form)) ≡ false
  plain_other e = not-literal (other form) r.kind r.body (omega (arith, n.is.whole, plain-long e))

-- ---- the number of a literal

low : (x y : ℕ) → x < 2147483648 → y ≡ x → to_z w64 y ≡ to_z w32 x
low x y l e = ap (to_z w64) e ∙ to_z_pos w64 x (omega arith) ∙ sym (to_z_pos w32 x (omega arith))

high : (x y : ℕ) → 2147483648 ≤ x → x < 4294967296 → y ≡ x + 18446744069414584320 → to_z w64 y ≡ to_z w32 x
high x y h l e = ap (to_z w64) above ∙ to_z-neg w64 (4294967295 - x) (omega arith) ∙ sym (to_z-neg w32 (4294967295 - x) (omega arith)) ∙ ap (to_z w32) below
  where
    above : y ≡ 18446744073709551616 - suc (4294967295 - x)
    above = omega (arith, e)

    below : 4294967296 - suc (4294967295 - x) ≡ x
    below = omega arith

number_same : (d a b c e : ℕ) → a < 256 → b < 256 → c < 256 → e < 256
    → number_in Form.Wide (d ∷ a ∷ b ∷ c ∷ e ∷ sign_byte e ∷ sign_byte e ∷ sign_byte e ∷ sign_byte e ∷ []) ≡ number_in Form.Narrow (d ∷ a ∷ b ∷ c ∷ e ∷ [])
unfolding number_in sign_byte
number_same d a b c e ha hb hc he = go (ltb e 128) refl
  where
    word : ℕ
    word = a + 256 * (b + 256 * (c + 256 * e))

    go : (s : Bool) → ltb e 128 ≡ s → let x = cond {A = ℕ} s 0 255 in to_z w64 (word + 4294967296 * (x + 256 * (x + 256 * (x + 256 * x)))) ≡ to_z w32 word
    go true q = let z = ltb-true e 128 q in low word (word + 4294967296 * (0 + 256 * (0 + 256 * (0 + 256 * 0)))) (omega (arith, z)) (omega arith)
    go false q = let z = ltb-false e 128 q in high word (word + 4294967296 * (255 + 256 * (255 + 256 * (255 + 256 * 255)))) (omega (arith, z)) (omega arith) (omega arith)

-- ---- a literal in both forms

-- five bytes, and nine that begin with them
five : (b : List ℕ) → length b ≡ 5 → ((i : ℕ) → b ! i < 256)
    → (moved_number Form.Narrow b ! 0 ≡ b ! 0) × (number_in Form.Wide (moved_number Form.Narrow b) ≡ number_in Form.Narrow b) × (moved_number Form.Wide (moved_number Form.Narrow b) ≡ b)
unfolding moved_number
five [] l i = absurd (omega (arith, l))
five (d ∷ []) l i = absurd (omega (arith, l))
five (d ∷ x ∷ []) l i = absurd (omega (arith, l))
five (d ∷ x ∷ y ∷ []) l i = absurd (omega (arith, l))
five (d ∷ x ∷ y ∷ z ∷ []) l i = absurd (omega (arith, l))
five (d ∷ x ∷ y ∷ z ∷ w ∷ []) l i = (refl, number_same d x y z w (i 1) (i 2) (i 3) (i 4), refl)
five (d ∷ x ∷ y ∷ z ∷ w ∷ v ∷ u) l i = absurd (omega (arith, l))

longer : (b : List ℕ) → length (moved_number Form.Narrow b) ≡ length b + 4
unfolding moved_number
longer b = length-append b _

-- its record in both forms
literal-both : (r q : Rec) → r.kind ≡ literal_kind Form.Narrow → q.kind ≡ literal_kind Form.Wide → r.size ≡ 4 + length r.body → q.size ≡ 4 + length q.body → length r.body ≡ 5 → ((i : ℕ) → r.body ! i < 256)
    → q.body ≡ moved_number Form.Narrow r.body → Literal r q
unfolding literal_length
literal-both r q e f g h l b m =
    let z = five r.body l b in
    record {
      old = e;
      new = f;
      old-size = omega (arith, g, l);
      old-bytes = b;
      new-size = omega (arith, h, l, ap length m, longer r.body);
      register = ap (λ (t : List ℕ). t ! 0) m ∙ z.0;
      number = ap (number_in Form.Wide) m ∙ z.1;
    }

-- a literal that comes back as it was
unfoldable pub Returns : Form → Rec → Type 0
Returns form r = r.kind ≡ literal_kind form → moved_number (other form) (moved_number form r.body) ≡ r.body

-- each of 32 bits does
narrow_returns : (r : Rec) → Known Form.Narrow r → Returns Form.Narrow r
unfolding Returns literal_length other
narrow_returns r n e = (five r.body (omega (arith, literal-long n e)) n.is.bytes).2

pub all-return : (rs : List Rec) → Each (Known Form.Narrow) rs → Each (Returns Form.Narrow) rs
all-return rs k = each-then (Known Form.Narrow) (Returns Form.Narrow) rs narrow_returns k

-- ---- the records of both forms

-- a record as it is moved, at the offset p
abbrev moved_at : Form → ℕ → Rec → Rec
moved_at form p r = let b = moved_body form r.kind r.body in record { at = p; size = 4 + length b; kind = moved_kind form r.kind; body = b }

wider : (p : ℕ) (r : Rec) → Known Form.Narrow r → Literal r (moved_at Form.Narrow p r) ⊎ Kept r (moved_at Form.Narrow p r)
unfolding moved_kind moved_body literal_length other
wider p r n = go (eqb r.kind (literal_kind Form.Narrow)) refl
  where
    go : (a : Bool) → eqb r.kind (literal_kind Form.Narrow) ≡ a → Literal r (moved_at Form.Narrow p r) ⊎ Kept r (moved_at Form.Narrow p r)
    go true e =
        let k = eqb-true r.kind (literal_kind Form.Narrow) e in
        rw e (inl (literal-both r _ k refl n.is.whole refl (omega (arith, literal-long n k)) n.is.bytes refl))
    go false e = rw e (inr (record { whole = omega (arith, n.is.whole); known = plain-long n e; same_kind = refl; same_size = sym n.is.whole; same_body = refl }))

narrower : (p : ℕ) (r : Rec) → Known Form.Wide r → Returns Form.Wide r → Literal (moved_at Form.Wide p r) r ⊎ Kept (moved_at Form.Wide p r) r
unfolding moved_kind moved_body moved_number literal_length other Returns
narrower p r n back = go (eqb r.kind (literal_kind Form.Wide)) refl
  where
    go : (a : Bool) → eqb r.kind (literal_kind Form.Wide) ≡ a → Literal (moved_at Form.Wide p r) r ⊎ Kept (moved_at Form.Wide p r) r
    go true e =
        let k = eqb-true r.kind (literal_kind Form.Wide) e in
        rw e (inl (literal-both _ r refl k refl n.is.whole (rw length-take (omega (arith, literal-long n k))) (part_bytes 5 r.body n.is.bytes) (sym (back k))))
    go false e = rw e (inr (record { whole = omega arith; known = sym n.is.whole ∙ plain-long n e; same_kind = refl; same_size = n.is.whole; same_body = refl }))

all-wider : (rs : List Rec) (p : ℕ) → Each (Known Form.Narrow) rs → Widened rs (laid p (map (moved_record Form.Narrow) rs))
unfolding Each Widened laid
all-wider [] p k = tt
all-wider (r ∷ rs) p k = (wider p r k.0, all-wider rs _ k.1)

all-narrower : (rs : List Rec) (p : ℕ) → Each (Known Form.Wide) rs → Each (Returns Form.Wide) rs → Widened (laid p (map (moved_record Form.Wide) rs)) rs
unfolding Each Widened laid
all-narrower [] p k b = tt
all-narrower (r ∷ rs) p k b = (narrower p r k.0 b.0, all-narrower rs _ k.1 b.1)

-- THE LAWS: the records of the bytes in the other form
pub records-wider : (rs : List Rec) → Each (Known Form.Narrow) rs → Widened rs (records (moved Form.Narrow rs))
unfolding moved
records-wider rs k = rw (records-printed (map (moved_record Form.Narrow) rs)) (all-wider rs 0 k)

pub records-narrower : (rs : List Rec) → Each (Known Form.Wide) rs → Each (Returns Form.Wide) rs → Widened (records (moved Form.Wide rs)) rs
unfolding moved
records-narrower rs k b = rw (records-printed (map (moved_record Form.Wide) rs)) (all-narrower rs 0 k b)

-- ---- there and back

other-other : (form : Form) → other (other form) ≡ form
unfolding other
other-other Form.Narrow = refl
other-other Form.Wide = refl

module _ (form : Form) where
  record-back : (r : Rec) → Known form r → Returns form r
      → let k = moved_kind form r.kind in (moved_kind (other form) k ≡ r.kind) × (moved_body (other form) k (moved_body form r.kind r.body) ≡ r.body)
  unfolding moved_kind moved_body Returns
  record-back r n back = go (eqb r.kind (literal_kind form)) refl
    where
      go : (a : Bool) → eqb r.kind (literal_kind form) ≡ a
          → let k = moved_kind form r.kind in (moved_kind (other form) k ≡ r.kind) × (moved_body (other form) k (moved_body form r.kind r.body) ≡ r.body)
      go true e =
          let k = eqb-true r.kind (literal_kind form) e in
          rw (e, eq-eqb (literal_kind (other form)) (literal_kind (other form)) refl) (ap literal_kind (other-other form) ∙ sym k, back k)
      go false e = rw (e, plain_other n e) (refl, refl)

  printed-back : (rs : List Rec) (p : ℕ) → Each (Known form) rs → Each (Returns form) rs → printed (map (moved_record (other form)) (laid p (map (moved_record form) rs))) ≡ printed rs
  unfolding Each printed laid
  printed-back [] p k b = refl
  printed-back (r ∷ rs) p k b = let z = record-back r k.0 b.0 in ap₂ ◌++◌ (ap₂ record_bytes z.0 z.1) (printed-back rs _ k.1 b.1)

-- THE LAW: there and back is the image
pub there_and_back : (form : Form) (s : List ℕ) → ((i : ℕ) → s ! i < 256) → question2 (records s) ≡ None → Each (Known form) (records s) → Each (Returns form) (records s)
    → moved (other form) (records (moved form (records s))) ≡ s
unfolding moved
there_and_back form s bytes e k b =
    ap (λ (rs : List Rec). printed (map (moved_record (other form)) rs)) (records-printed (map (moved_record form) (records s))) ∙ printed-back form (records s) 0 k b ∙ verbatim s bytes e

-- ---- bytes

sign-byte : (b : ℕ) → sign_byte b < 256
unfolding sign_byte
sign-byte b = go (ltb b 128)
  where
    go : (a : Bool) → cond {A = ℕ} a 0 255 < 256
    go true = omega arith
    go false = omega arith

number-bytes : (form : Form) (b : List ℕ) → ((i : ℕ) → b ! i < 256) → (i : ℕ) → moved_number form b ! i < 256
unfolding moved_number
number-bytes Form.Narrow b f = both_bytes b (sign_byte (b ! 4) ∷ sign_byte (b ! 4) ∷ sign_byte (b ! 4) ∷ sign_byte (b ! 4) ∷ []) f (signs (sign_byte (b ! 4)) (sign-byte (b ! 4)))
  where
    signs : (s : ℕ) → s < 256 → (i : ℕ) → (s ∷ s ∷ s ∷ s ∷ []) ! i < 256
    signs s h zero = h
    signs s h (suc zero) = h
    signs s h (suc (suc zero)) = h
    signs s h (suc (suc (suc zero))) = h
    signs s h (suc (suc (suc (suc i)))) = omega arith
number-bytes Form.Wide b f = part_bytes 5 b f

pub number-long : (form : Form) (b : List ℕ) → 4 + length b ≡ literal_length form → 4 + length (moved_number form b) ≡ literal_length (other form)
unfolding moved_number literal_length other
number-long Form.Narrow b e = rw (length-append b (sign_byte (b ! 4) ∷ sign_byte (b ! 4) ∷ sign_byte (b ! 4) ∷ sign_byte (b ! 4) ∷ [])) (omega (arith, e))
number-long Form.Wide b e = rw length-take (omega (arith, e))

low-kind : (form : Form) → (literal_kind form < 65536) × (literal_length form < 65536)
unfolding literal_kind literal_length
low-kind Form.Narrow = (omega arith, omega arith)
low-kind Form.Wide = (omega arith, omega arith)

moved-whole : (form : Form) (r : Rec) → Known form r → Whole (moved_record form r)
unfolding moved_kind moved_body
moved-whole form r n = go (eqb r.kind (literal_kind form)) refl
  where
    go : (a : Bool) → eqb r.kind (literal_kind form) ≡ a → Whole (moved_record form r)
    go true e =
        let l = number-long form r.body (literal-long n (eqb-true r.kind (literal_kind form) e)) in
        let h = low-kind (other form) in
        rw e (record { whole = refl; short = omega (arith, l, h.1); low = h.0; bytes = number-bytes form r.body n.is.bytes })
    go false e = rw e (record { whole = refl; short = omega (arith, n.is.whole, n.is.short); low = n.is.low; bytes = n.is.bytes })

all_moved : (form : Form) (rs : List Rec) → Each (Known form) rs → Each Whole (map (moved_record form) rs)
unfolding Each
all_moved form [] k = tt
all_moved form (r ∷ rs) k = (moved-whole form r k.0, all_moved form rs k.1)

pub moved-bytes : (form : Form) (rs : List Rec) → Each (Known form) rs → (i : ℕ) → moved form rs ! i < 256
unfolding moved
moved-bytes form rs k = printed-bytes (map (moved_record form) rs) (all_moved form rs k)
