-- What a pass along the records of an image that it counts or raises knows at each record.
use Rattle.std.specs.Prelude.{None}
use mathlib.Core.Path.{◌≡◌, refl, sym, ap, ◌∙◌, subst}
use mathlib.Core.List.{List, [], ◌∷◌, ◌++◌, map, append_assoc, append-nil}
use mathlib.Core.Bool.{Bool, true, false, cond}
use Prim.Native.Nat.{ℕ, zero, suc, ◌+◌, ◌≤◌, ◌<◌}
use native.Mathlib.Nat.{suc-add, zero-add}
use native.Mathlib.Omega.{arith}
use lib.ListN.{length, take, drop, set, length-append, length-set, get_or-append}
use lib.Seq.{get_or-append-add, length-take-le}
use lib.Dec.{eqb}
use borrow.Author.Tests.{eqb-true}
use Rattle.layout.specs.Kinds as kind
use Rattle.layout.specs.Records.{Rec, ◌!◌, size_at, kind_at, body_at, rest, records, choose}
use Rattle.layout.specs.Forms.{record_bytes, printed}
use Rattle.layout.specs.Questions.{question2}
use Rattle.layout.proofs.Printed.{body-long, record-slice}
use Rattle.layout.proofs.Walk.{rest_end}
use Rattle.program.specs.Program.{nowhere}
use Rattle.program.specs.Places.{view_at, version_at}
use Rattle.program.proofs.Views.{Whole, at-version}
use Rattle.writer.specs.Text.{placed}
use Rattle.writer.proofs.Placed.{placed-fits, placed-length, placed-none}
use Rattle.checker.proofs.Asks.{same_ahead}
use Rattle.checker.proofs.Puts.{Put, put_then}
use Rattle.joins.specs.Joins.{raise, raised, raise_rec, functions_from, functions_in}
use Rattle.joins.specs.Parts.{Raisable, AllRaisable, Ready, Stands, raised_at, function_place}
use Rattle.layout.proofs.Behind.{whole-at, whole-size, rest-whole, chained}
use Rattle.joins.proofs.Raised.{length-raised}
use Rattle.joins.proofs.Ordered.{chain_length}

-- ---- functions

-- so many functions are counted up to p
pub record Counting (s : List ℕ) (p count : ℕ) : Type 0 where
  pub inside : p ≤ length s
  pub low : count ≤ 256
  pub left : functions_in s ≡ functions_from count (view_at s p).versions

pub count-first : (s : List ℕ) → Counting s 0 0
count-first s = record { inside = omega arith; low = omega arith; left = refl }

module _ {s : List ℕ} {p count : ℕ} (c : Counting s p count) where
  pub counted-all : view_at s p ≡ nowhere → (count ≡ functions_in s) × (count ≤ 256)
  unfolding functions_from
  counted-all e = (sym (c.left ∙ rw e refl), c.low)

  module _ {n k : ℕ} (m : Whole s p n k) (r : p + n ≤ length s) where
    pub count-version : {f : ℕ} → k ≡ kind.VERSION → f ≡ body_at s p ! 0 → f < 256 → Counting s (p + n) (f + 1)
    unfolding functions_from version_at
    count-version {f} e g l = record { inside = r; low = omega (arith, l); left = c.left ∙ rw (at-version m e, g) refl }

    pub count-other : (k ≡ kind.VERSION → ⊥) → Counting s (p + n) count
    count-other x = record { inside = r; low = c.low; left = c.left ∙ ap (functions_from count) (same_ahead m x) }

-- ---- one byte of a piece

set-behind : (x y : List ℕ) (i v : ℕ) → set (x ++ y) (length x + i) v ≡ x ++ set y i v
set-behind [] y i v = rw (zero-add i) refl
set-behind (a ∷ x) y i v = rw (suc-add (length x) i) (ap (λ (l : List ℕ). a ∷ l) (set-behind x y i v))

set_front : (x y : List ℕ) (i v : ℕ) → i < length x → set (x ++ y) i v ≡ set x i v ++ y
set_front [] y i v h = absurd (omega arith)
set_front (a ∷ x) y zero v h = refl
set_front (a ∷ x) y (suc i) v h = ap (λ (l : List ℕ). a ∷ l) (set_front x y i v (omega arith))

module _ (out t : List ℕ) (at i : ℕ) (h : at + length t ≤ length out) (l : i < length t) where
  front_long : length (take at out) ≡ at
  front_long = length-take-le at out (omega (arith, h))

  inside-front : length (take at out) + i < length (take at out ++ t)
  inside-front = rw (length-append (take at out) t) (omega (arith, l))

  -- a byte of the piece, and the buffer with it changed
  pub byte-placed : placed out at t ! (at + i) ≡ t ! i
  byte-placed =
      let d = drop (at + length t) out in
      ap (λ (o : List ℕ). o ! (at + i)) (placed-fits out at t h)
      ∙ ap (λ (n : ℕ). (take at out ++ t ++ d) ! (n + i)) (sym front_long)
      ∙ get_or-append (take at out ++ t) d 0 (length (take at out) + i) inside-front
      ∙ get_or-append-add (take at out) t i 0

  pub set-placed : (v : ℕ) → set (placed out at t) (at + i) v ≡ placed out at (set t i v)
  set-placed v =
      let n = length-set t i v in
      let d = drop (at + length t) out in
      ap (λ (o : List ℕ). set o (at + i) v) (placed-fits out at t h)
      ∙ ap (λ (n : ℕ). set (take at out ++ t ++ d) (n + i) v) (sym front_long)
      ∙ set_front (take at out ++ t) d (length (take at out) + i) v inside-front
      ∙ ap (λ (r : List ℕ). r ++ d) (set-behind (take at out) t i v)
      ∙ ap (λ (j : ℕ). take at out ++ set t i v ++ drop (at + j) out) (sym n)
      ∙ sym (placed-fits out at (set t i v) (rw n h))

-- ---- a record

record-set : (n i v : ℕ) (b : List ℕ) → record_bytes n (set b i v) ≡ set (record_bytes n b) (4 + i) v
unfolding record_bytes
record-set n i v b = let e : 4 + i ≡ suc (suc (suc (suc i))) = omega arith in rw (length-set b i v, e) refl

record-get : (n i : ℕ) (b : List ℕ) → record_bytes n b ! (4 + i) ≡ b ! i
unfolding record_bytes
record-get n i b = let e : 4 + i ≡ suc (suc (suc (suc i))) = omega arith in rw e refl

record-size : (n : ℕ) (b : List ℕ) → length (record_bytes n b) ≡ 4 + length b
unfolding record_bytes
record-size n b = omega arith

-- where its function stands
pub record Place (k n : ℕ) (b : List ℕ) : Type 0 where
  pub field : ℕ
  pub place : function_place n ≡ 4 + field
  pub raises : raised k n b ≡ raise k field b
  pub inside : field < length b
  pub low : k + b ! field < 256

pub no-function : (k n : ℕ) (b : List ℕ) → function_place n ≡ 0 → raised k n b ≡ b
unfolding function_place raised choose
no-function k n b e = go (eqb n kind.VERSION) (eqb n kind.CALL) (eqb n kind.DISPATCH) e
  where
    go : (x y z : Bool) → cond {A = ℕ} x 4 (cond y 5 (cond z 5 0)) ≡ 0 → cond x (raise k 0 b) (cond y (raise k 1 b) (cond z (raise k 1 b) b)) ≡ b
    go true y z e = absurd (omega (arith, e))
    go false true z e = absurd (omega (arith, e))
    go false false true e = absurd (omega (arith, e))
    go false false false e = refl

pub a-function : (k n : ℕ) (b : List ℕ) → Raisable k n b → (function_place n ≡ 0 → ⊥) → Place k n b
unfolding function_place raised choose
a-function k n b r h = go (eqb n kind.VERSION) (eqb n kind.CALL) (eqb n kind.DISPATCH) refl refl refl
  where
    go : (x y z : Bool) → eqb n kind.VERSION ≡ x → eqb n kind.CALL ≡ y → eqb n kind.DISPATCH ≡ z → Place k n b
    go true y z ex ey ez = let t = r.version (eqb-true n kind.VERSION ex) in record { field = 0; place = rw ex refl; raises = rw ex refl; inside = t.0; low = t.1 }
    go false true z ex ey ez = let t = r.call (eqb-true n kind.CALL ey) in record { field = 1; place = rw (ex, ey) refl; raises = rw (ex, ey) refl; inside = t.0; low = t.1 }
    go false false true ex ey ez = let t = r.dispatch (eqb-true n kind.DISPATCH ez) in record { field = 1; place = rw (ex, ey, ez) refl; raises = rw (ex, ey, ez) refl; inside = t.0; low = t.1 }
    go false false false ex ey ez = absurd (h (rw (ex, ey, ez) refl))

pub raised_long : (k : ℕ) (s : List ℕ) (p : ℕ) → (size_at s p ≡ 0 → ⊥) → length (raised_at k s p) ≡ size_at s p
unfolding raised_at
raised_long k s p w = record-size (kind_at s p) (raised k (kind_at s p) (body_at s p)) ∙ ap (λ (n : ℕ). 4 + n) (length-raised k (kind_at s p) (body_at s p)) ∙ body-long s p w

module _ {k : ℕ} {s : List ℕ} {p : ℕ} (st : Stands k s p) where
  -- its bytes as they are
  pub bytes-put : {y : List ℕ} (x : List ℕ) (at n m : ℕ) → n ≡ size_at s p → m ≡ n → y ≡ placed x at (take m (drop p s)) → y ≡ placed x at (record_bytes (kind_at s p) (body_at s p))
  bytes-put x at n m e f a = a ∙ ap (λ (j : ℕ). placed x at (take j (drop p s))) (f ∙ e) ∙ ap (placed x at) (record-slice s p st.bytes st.whole)

  pub plain-put : {y : List ℕ} (x : List ℕ) (at n m i : ℕ) → n ≡ size_at s p → m ≡ n → y ≡ placed x at (take m (drop p s)) → i ≡ function_place (kind_at s p) → i ≡ 0
      → (at + n ≡ at + length (raised_at k s p)) × (y ≡ placed x at (raised_at k s p))
  unfolding raised_at
  plain-put x at n m i e f a g z =
      (omega (arith, e, raised_long k s p st.whole), bytes-put x at n m e f a ∙ ap (λ (b : List ℕ). placed x at (record_bytes (kind_at s p) b)) (sym (no-function k (kind_at s p) (body_at s p) (sym g ∙ z))))

  module _ (i : ℕ) (g : i ≡ function_place (kind_at s p)) (z : i ≡ 0 → ⊥) where
    pub there : Place k (kind_at s p) (body_at s p)
    there = a-function k (kind_at s p) (body_at s p) st.raisable (λ e. z (g ∙ e))

    -- its function stands inside
    pub function-inside : i < size_at s p
    function-inside = omega (arith, g, there.place, there.inside, body-long s p st.whole)

    module _ {y : List ℕ} (x : List ℕ) (at n m : ℕ) (e : n ≡ size_at s p) (f : m ≡ n) (a : y ≡ placed x at (take m (drop p s))) (h : at + size_at s p ≤ length x) where
      abbrev t : List ℕ
      t = record_bytes (kind_at s p) (body_at s p)

      long : length t ≡ size_at s p
      long = record-size (kind_at s p) (body_at s p) ∙ body-long s p st.whole

      at_place : i ≡ 4 + there.field
      at_place = g ∙ there.place

      pub function-byte : y ! (at + i) ≡ body_at s p ! there.field
      function-byte =
          ap (λ (l : List ℕ). l ! (at + i)) (bytes-put x at n m e f a) ∙ byte-placed x t at i (rw long h) (rw long function-inside)
          ∙ ap (λ (j : ℕ). t ! j) at_place ∙ record-get (kind_at s p) there.field (body_at s p)

      pub function-low : y ! (at + i) + k < 256
      function-low = rw function-byte (omega (arith, there.low))

      pub raised-put : {w : List ℕ} → w ≡ set y (at + i) (y ! (at + i) + k) → (at + n ≡ at + length (raised_at k s p)) × (w ≡ placed x at (raised_at k s p))
      unfolding raised_at
      raised-put c =
          let q : y ! (at + i) + k ≡ k + body_at s p ! there.field = omega (arith, function-byte) in (
            omega (arith, e, raised_long k s p st.whole),
            c ∙ ap (λ (v : ℕ). set y (at + i) v) q
                ∙ ap (λ (l : List ℕ). set l (at + i) (k + body_at s p ! there.field)) (bytes-put x at n m e f a)
                ∙ set-placed x t at i (rw long h) (rw long function-inside) (k + body_at s p ! there.field)
                ∙ ap (λ (l : List ℕ). placed x at l)
                (ap (λ (j : ℕ). set t j (k + body_at s p ! there.field)) at_place
                ∙ sym (record-set (kind_at s p) there.field (k + body_at s p ! there.field) (body_at s p))
                ∙ ap (record_bytes (kind_at s p)) (sym there.raises)),
          )

-- ---- all records

-- their bytes, raised
abbrev pub all_raised : ℕ → List Rec → List ℕ
all_raised k rs = printed (map (raise_rec k) rs)

-- a pass that writes from the place `from` on has come to p and to the place `at`
pub record Raising (k : ℕ) (s before after : List ℕ) (from p at : ℕ) : Type 0 where
  pub inside : p ≤ length s
  pub whole : question2 (rest s p) ≡ None
  pub raisable : AllRaisable k (rest s p)
  pub same-room : length after ≡ length before
  pub part : List ℕ
  pub ahead : all_raised k (records s) ≡ part ++ all_raised k (rest s p)
  pub put : Put before after from at part

pub raise-first : (k : ℕ) (s x : List ℕ) (from : ℕ) → Ready k s → Raising k s x x from 0 from
raise-first k s x from r = record {
  inside = omega arith;
  whole = r.whole;
  raisable = r.raisable;
  same-room = refl;
  part = [];
  ahead = refl;
  put = record { writes = sym (placed-none x from); ends = omega arith };
}

-- as many bytes as the image has
pub all-long : (k : ℕ) (s : List ℕ) → question2 (records s) ≡ None → length (all_raised k (records s)) ≡ length s
all-long k s q = let e = chain_length k (records s) 0 (length s) (chained s q) in omega (arith, e)

module _ {k : ℕ} {s x y : List ℕ} {from p at : ℕ} (r : Ready k s) (w : Raising k s x y from p at) where
  module _ (h : p < length s) where
    here : (0 < size_at s p) × (question2 (rest s (p + size_at s p)) ≡ None)
    here = whole-at s p h w.whole

    split : Raisable k (kind_at s p) (body_at s p) × AllRaisable k (rest s (p + size_at s p))
    unfolding AllRaisable
    split = subst (λ (rs : List Rec). AllRaisable k rs) (rest-whole s p h here.0) w.raisable

    pub raise-stands : Stands k s p
    raise-stands = record { bytes = r.bytes; inside = h; whole = λ z. absurd (omega (arith, here.0, z)); raisable = split.0 }

    cons : all_raised k (rest s p) ≡ raised_at k s p ++ all_raised k (rest s (p + size_at s p))
    unfolding printed raised_at
    cons = ap (all_raised k) (rest-whole s p h here.0)

    pub raise-fits : from + length s ≤ length x → at + size_at s p ≤ length y
    raise-fits l = rw w.same-room (omega (arith, l, w.put.ends, all-long k s r.whole, ap length w.ahead, length-append w.part (all_raised k (rest s p)), ap length cons, length-append (raised_at k s p) (all_raised k (rest s (p + size_at s p))), raised_long k s p raise-stands.whole))

    pub raise-next : {n next : ℕ} {z : List ℕ} → from + length s ≤ length x → n ≡ size_at s p → next ≡ at + length (raised_at k s p) → z ≡ placed y at (raised_at k s p) → Raising k s x z from (p + n) next
    raise-next {n} l e f g =
        rw e (record {
          inside = (whole-size s p here.0).1;
          whole = here.1;
          raisable = split.1;
          same-room = ap length g ∙ placed-length y at (raised_at k s p) ∙ w.same-room;
          part = w.part ++ raised_at k s p;
          ahead = w.ahead ∙ ap (λ (t : List ℕ). w.part ++ t) cons ∙ sym (append_assoc w.part (raised_at k s p) _);
          put = put_then w.put (record { writes = g; ends = f }) (omega (arith, f, raised_long k s p raise-stands.whole, raise-fits l, w.same-room));
        })

  pub raise-last : length s ≤ p → y ≡ placed x from (all_raised k (records s))
  unfolding printed
  raise-last h = w.put.writes ∙ ap (placed x from) (sym (w.ahead ∙ ap (λ (rs : List Rec). w.part ++ all_raised k rs) (rest_end s p h) ∙ append-nil w.part))
