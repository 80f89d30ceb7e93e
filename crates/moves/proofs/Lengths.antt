-- How long a moved image is: four bytes more or fewer for each literal.
use Rattle.std.specs.Prelude.{Ok}
use mathlib.Core.Path.{◌≡◌, refl, ap, ◌∙◌}
use mathlib.Core.List.{List, [], ◌∷◌, map}
use mathlib.Core.Bool.{Bool, true, false, cond}
use Prim.Native.Nat.{ℕ, ◌+◌, ◌*◌, ◌≤◌, ◌<◌}
use native.Mathlib.Omega.{arith}
use lib.ListN.{length}
use lib.Dec.{eqb}
use borrow.Author.Tests.{eqb-true}
use Rattle.layout.specs.Records.{Rec, ◌!◌, records}
use Rattle.layout.specs.Forms.{literal_kind, literal_length, other, printed, moved_kind, moved_body, moved_record, moved}
use Rattle.layout.specs.declared.Form.{Form}
use Rattle.layout.proofs.Lists.{Each}
use Rattle.layout.proofs.Printed.{record-long, verbatim}
use Rattle.checker.specs.Verdicts.{verdict_in}
use Rattle.checker.proofs.Accepted.{passed}
use Rattle.runs.proofs.Moved.{Known, all_known, literal-long, number-long}
use Rattle.runs.proofs.Longer.{long-enough}
use Rattle.moves.specs.Claims.{result, literals, MovedWhole, NarrowedLength, NarrowedFits, WidenedLength}
use Rattle.moves.proofs.Written.{accepted-source, asks-17, moved-whole}

-- the literal that a record is, or not
abbrev one : Form → Rec → ℕ
one form r = cond (eqb r.kind (literal_kind form)) 1 0

-- a record of 64 bits
record-narrowed : (r : Rec) → Known Form.Wide r → length (moved_body Form.Wide r.kind r.body) + 4 * one Form.Wide r ≡ length r.body
unfolding moved_body literal_length other
record-narrowed r k = go (eqb r.kind (literal_kind Form.Wide)) refl
  where
    go : (b : Bool) → eqb r.kind (literal_kind Form.Wide) ≡ b → length (moved_body Form.Wide r.kind r.body) + 4 * one Form.Wide r ≡ length r.body
    go true e =
        let l = literal-long k (eqb-true _ _ e) in
        let n = number-long Form.Wide r.body l in
        rw e (omega (arith, l, n))
    go false e = rw e (omega arith)

-- one of 32 bits
abbrev Longer : Rec → Type 0
Longer r = (length (moved_body Form.Narrow r.kind r.body) ≡ length r.body + 4 * one Form.Narrow r) × (9 * one Form.Narrow r ≤ 4 + length r.body)

record-widened : (r : Rec) → Known Form.Narrow r → Longer r
unfolding moved_body literal_length other
record-widened r k = go (eqb r.kind (literal_kind Form.Narrow)) refl
  where
    go : (b : Bool) → eqb r.kind (literal_kind Form.Narrow) ≡ b → Longer r
    go true e =
        let l = literal-long k (eqb-true _ _ e) in
        let n = number-long Form.Narrow r.body l in
        rw e (omega (arith, l, n), omega (arith, l))
    go false e = rw e (omega arith, omega arith)

-- all records
records-narrowed : (rs : List Rec) → Each (Known Form.Wide) rs → length (printed (map (moved_record Form.Wide) rs)) + 4 * literals Form.Wide rs ≡ length (printed rs)
unfolding printed literals Each
records-narrowed [] k = refl
records-narrowed (r ∷ rs) k =
    let x = record-long (moved_kind Form.Wide r.kind) (moved_body Form.Wide r.kind r.body) (printed (map (moved_record Form.Wide) rs)) in
    omega (arith, x, record-long r.kind r.body (printed rs), record-narrowed r k.0, records-narrowed rs k.1)

records-widened : (rs : List Rec) → Each (Known Form.Narrow) rs
    → (length (printed (map (moved_record Form.Narrow) rs)) ≡ length (printed rs) + 4 * literals Form.Narrow rs) × (9 * literals Form.Narrow rs ≤ length (printed rs))
unfolding printed literals Each
records-widened [] k = (refl, omega arith)
records-widened (r ∷ rs) k =
    let x = record-long (moved_kind Form.Narrow r.kind) (moved_body Form.Narrow r.kind r.body) (printed (map (moved_record Form.Narrow) rs)) in
    let y = record-long r.kind r.body (printed rs) in
    let z = record-widened r k.0 in
    let w = records-widened rs k.1 in
    (omega (arith, x, y, z.0, w.0), omega (arith, y, z.1, w.1))

-- ---- an accepted image

module _ (s : List ℕ) (b : (i : ℕ) → s ! i < 256) (n : ℕ) where
  narrowed : verdict_in Form.Wide s ≡ Ok n → length (result Form.Wide s) + 4 * literals Form.Wide (records s) ≡ length s
  unfolding moved
  narrowed e =
      let p = passed s n e in
      records-narrowed (records s) (all_known Form.Wide s b p.q2 p.q3) ∙ ap length (verbatim s b p.q2)

  widened : verdict_in Form.Narrow s ≡ Ok n → (length (result Form.Narrow s) ≡ length s + 4 * literals Form.Narrow (records s)) × (9 * literals Form.Narrow (records s) ≤ length s)
  unfolding moved
  widened e =
      let p = passed s n e in
      let z = records-widened (records s) (all_known Form.Narrow s b p.q2 p.q3) in
      let v = ap length (verbatim s b p.q2) in
      (omega (arith, z.0, v), omega (arith, z.1, v))

-- ---- THE LAWS

pub narrowed-length : NarrowedLength
unfolding NarrowedLength MovedWhole
narrowed-length s places m h =
    let a = accepted-source Form.Wide s places m h in
    let e = narrowed s a.0 a.1 a.2 in
    let w = moved-whole Form.Wide s places m h in
    (omega (arith, e, w.0), omega (arith, e, w.0))

pub narrowed-fits : NarrowedFits
unfolding NarrowedFits
narrowed-fits s b n e places h =
    let z = narrowed s b n e in
    let l = (long-enough s (passed s n e).q1).1 in
    asks-17 (length (result Form.Wide s)) places (omega (arith, z, l)) (omega (arith, z, h))

pub widened-length : WidenedLength
unfolding WidenedLength MovedWhole
widened-length s places m h =
    let a = accepted-source Form.Narrow s places m h in
    let e = widened s a.0 a.1 a.2 in
    let w = moved-whole Form.Narrow s places m h in
    (w.0 ∙ e.0, omega (arith, e.0, e.1, w.0))
