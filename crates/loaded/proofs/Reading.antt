-- The instruction of a record, kind by kind: what an arm of a loop reads.
use mathlib.Core.Path.{◌≡◌, refl, ap, ◌∙◌}
use mathlib.Core.List.{List, ◌∷◌}
use mathlib.Core.Bool.{Bool, true, false, ◌||◌}
use Prim.Native.Nat.{ℕ, zero, suc, ◌+◌, ◌*◌, ◌≤◌, ◌<◌}
use native.Mathlib.Omega.{arith}
use lib.ListN.{drop}
use lib.Dec.{eqb, leb, ltb}
use lib.Seq.{get_or-drop}
use borrow.Author.Tests.{eqb-true, leb-true, ltb-false, ltb-true, ne_eqb}
use Rattle.layout.specs.Kinds as kind
use Rattle.layout.specs.Records.{◌!◌, choose, every, fields}
use Rattle.layout.specs.Tests.{◌and◌}
use Rattle.layout.specs.declared.Form.{Form}
use Rattle.layout.proofs.Bools.{and_both}
use Rattle.program.specs.Program.{Instr, LIT, MOVE, USE, DUP, VEC, LEN, GET, SET, ARITH, SELECT, CAST, NAMED, STORE, PROM, FORCE, PEEK, POKE, CALL, DISPATCH, SKIP, arguments, instr_of}
use Rattle.program.specs.Program.{number_in, word}
use Rattle.loaded.specs.Loaded.{few, instr_in, is_short, long_in, place_in, read_by, record_at}
use Rattle.loaded.proofs.Decoding.{is-arith, is-cast, is-dup, is-force, is_get, is-len, is_move, is-named, is-peek, is-poke, is-prom, is-select, is_set, is-skip, is_store, is-use}

-- ---- by its kind

-- a short one is what its fields in the table make
pub is-short : (k : ℕ) (a d : List ℕ) → is_short k ≡ true → read_by k a d ≡ instr_of k a
unfolding read_by
is-short k a d e = rw e refl

module _ {k : ℕ} (a d : List ℕ) where
  pub reads_vec : k ≡ kind.VEC → read_by k a d ≡ VEC (d ! 0) (fields d 2 (few (d ! 1)))
  unfolding read_by is_short long_in choose ◌and◌
  reads_vec e = simp e

  pub reads-call : k ≡ kind.CALL → read_by k a d ≡ CALL (d ! 0) (d ! 1) (d ! 2) (fields d 4 (few (d ! 3)))
  unfolding read_by is_short long_in choose ◌and◌
  reads-call e = simp e

  pub reads-dispatch : k ≡ kind.DISPATCH → read_by k a d ≡ DISPATCH (d ! 0) (d ! 1) (d ! 2) (d ! 3) (arguments d 5 (few (d ! 4)))
  unfolding read_by is_short long_in choose ◌and◌
  reads-dispatch e = simp e

  pub reads-lit : is_short k ≡ false → (k ≡ kind.VEC → ⊥) → (k ≡ kind.CALL → ⊥) → (k ≡ kind.DISPATCH → ⊥) → read_by k a d ≡ LIT (d ! 0) (number_in Form.Wide d)
  unfolding read_by long_in choose
  reads-lit e x y z = rw (e, ne_eqb k kind.VEC x, ne_eqb k kind.CALL y, ne_eqb k kind.DISPATCH z) refl

-- a kind that is none of the short ones
none-short : (k : ℕ) → ((kind.MOVE ≤ k → k ≤ kind.DUP → ⊥)) → ((kind.LEN ≤ k → k ≤ kind.POKE → ⊥)) → (k ≡ kind.SKIP → ⊥) → is_short k ≡ false
unfolding is_short
none-short k x y z = go (leb kind.MOVE k and leb k kind.DUP) (leb kind.LEN k and leb k kind.POKE) (eqb k kind.SKIP) refl refl refl
  where
    go : (a b c : Bool) → (leb kind.MOVE k and leb k kind.DUP) ≡ a → (leb kind.LEN k and leb k kind.POKE) ≡ b → eqb k kind.SKIP ≡ c → (a || b || c) ≡ false
    go true b c p q r = let h = and_both _ _ p in absurd (x (leb-true _ _ h.0) (leb-true _ _ h.1))
    go false true c p q r = let h = and_both _ _ q in absurd (y (leb-true _ _ h.0) (leb-true _ _ h.1))
    go false false true p q r = absurd (z (eqb-true _ _ r))
    go false false false p q r = refl

-- none of the kinds of a range
out3 : (k : ℕ) → kind.MOVE ≤ k → k ≤ kind.DUP → (k ≡ kind.MOVE → ⊥) → (k ≡ kind.USE → ⊥) → (k ≡ kind.DUP → ⊥) → ⊥
out3 k a b x y z = omega arith

out6 : (k m : ℕ) → m ≤ k → k < m + 6 → (k ≡ m → ⊥) → (k ≡ m + 1 → ⊥) → (k ≡ m + 2 → ⊥) → (k ≡ m + 3 → ⊥) → (k ≡ m + 4 → ⊥) → (k ≡ m + 5 → ⊥) → ⊥
out6 k m a b n1 n2 n3 n4 n5 n6 = omega arith

below : {k : ℕ} → k ≤ kind.POKE → k < kind.NAMED + 6
below b = omega arith

out12 : (k : ℕ) → kind.LEN ≤ k → k ≤ kind.POKE → (k ≡ kind.LEN → ⊥) → (k ≡ kind.GET → ⊥) → (k ≡ kind.SET → ⊥) → (k ≡ kind.ARITH → ⊥) → (k ≡ kind.SELECT → ⊥) → (k ≡ kind.CAST → ⊥)
    → (k ≡ kind.NAMED → ⊥) → (k ≡ kind.STORE → ⊥) → (k ≡ kind.PROM → ⊥) → (k ≡ kind.FORCE → ⊥) → (k ≡ kind.PEEK → ⊥) → (k ≡ kind.POKE → ⊥) → ⊥
out12 k a b n1 n2 n3 n4 n5 n6 n7 n8 n9 n10 n11 n12 = go (ltb k kind.NAMED) refl
  where
    go : (c : Bool) → ltb k kind.NAMED ≡ c → ⊥
    go true q = out6 k kind.LEN a (ltb-true k kind.NAMED q) n1 n2 n3 n4 n5 n6
    go false q = out6 k kind.NAMED (ltb-false k kind.NAMED q) (below b) n7 n8 n9 n10 n11 n12

-- ---- fields behind others

-- a list and the part of it from m on
module _ (s : List ℕ) (m : ℕ) where
  pub behind : (j n : ℕ) → m + j ≡ n → drop m s ! j ≡ s ! n
  behind j n e = get_or-drop m s j 0 ∙ ap (λ (x : ℕ). s ! x) e

  fields-behind : (k l n : ℕ) → m + k ≡ l → fields (drop m s) k n ≡ fields s l n
  unfolding every
  fields-behind k l zero e = refl
  fields-behind k l (suc n) e = rw (behind k l e, fields-behind (k + 1) (l + 1) n (omega arith)) refl

  pub arguments-behind : (k l n : ℕ) → m + k ≡ l → arguments (drop m s) k n ≡ arguments s l n
  unfolding arguments
  arguments-behind k l zero e = refl
  arguments-behind k l (suc n) e =
      let t = behind k l e in
      let r = behind (k + 1) (l + 1) (omega arith) in
      let rest = arguments-behind (k + 2) (l + 2) n (omega arith) in
      λ i. record { type = t i; register = r i } ∷ rest i

-- ---- literals

pub literal-bytes : (s : List ℕ) (p : ℕ) → word (drop (p + 2) s) 1 + 4294967296 * word (drop (p + 2) s) 5 ≡ word s (p + 3) + 4294967296 * word s (p + 7)
literal-bytes s p =
    let b = behind s (p + 2) in
    rw (
      b 1 (p + 3) (omega arith),
      b 2 (p + 3 + 1) (omega arith),
      b 3 (p + 3 + 2) (omega arith),
      b 4 (p + 3 + 3) (omega arith),
      b 5 (p + 7) (omega arith),
      b 6 (p + 7 + 1) (omega arith),
      b 7
          (p + 7 + 2) (omega arith),
      b 8 (p + 7 + 3) (omega arith),
    ) refl

-- ---- short instructions, by the record's bytes

module _ (s t : List ℕ) (i : ℕ) where
  abbrev from : List ℕ
  from = drop (record_at i + 1) t

  -- the field j is the byte j + 1
  field : (j n : ℕ) → record_at i + 1 + j ≡ n → from ! j ≡ t ! n
  field j n e = behind t (record_at i + 1) j n e

  two : (C : ℕ → ℕ → Instr) → is_short (t ! record_at i) ≡ true → instr_of (t ! record_at i) from ≡ C (from ! 0) (from ! 1) → instr_in s t i ≡ C (t ! (record_at i + 1)) (t ! (record_at i + 2))
  unfolding instr_in
  two C e h = is-short (t ! record_at i) from (drop (place_in t i + 2) s) e ∙ h ∙ rw (field 0 (record_at i + 1) (omega arith), field 1 (record_at i + 2) (omega arith)) refl

  three : (C : ℕ → ℕ → ℕ → Instr) → is_short (t ! record_at i) ≡ true → instr_of (t ! record_at i) from ≡ C (from ! 0) (from ! 1) (from ! 2) → instr_in s t i ≡ C (t ! (record_at i + 1))
      (t ! (record_at i + 2)) (t ! (record_at i + 3))
  unfolding instr_in
  three C e h = is-short (t ! record_at i) from (drop (place_in t i + 2) s) e ∙ h ∙ rw
      (field 0 (record_at i + 1) (omega arith), field 1 (record_at i + 2) (omega arith), field 2 (record_at i + 3) (omega arith)) refl

  four : (C : ℕ → ℕ → ℕ → ℕ → Instr) → is_short (t ! record_at i) ≡ true → instr_of (t ! record_at i) from ≡ C (from ! 0) (from ! 1) (from ! 2) (from ! 3)
      → instr_in s t i ≡ C (t ! (record_at i + 1)) (t ! (record_at i + 2)) (t ! (record_at i + 3)) (t ! (record_at i + 4))
  unfolding instr_in
  four C e h = is-short (t ! record_at i) from (drop (place_in t i + 2) s) e ∙ h ∙ rw
      (field 0 (record_at i + 1) (omega arith), field 1 (record_at i + 2) (omega arith), field 2 (record_at i + 3) (omega arith), field 3 (record_at i + 4) (omega arith)) refl

  pub short-move : t ! record_at i ≡ kind.MOVE → instr_in s t i ≡ MOVE (t ! (record_at i + 1)) (t ! (record_at i + 2))
  unfolding is_short ◌and◌
  short-move e = two MOVE (simp e) (is_move from e)

  pub short_use : t ! record_at i ≡ kind.USE → instr_in s t i ≡ USE (t ! (record_at i + 1)) (t ! (record_at i + 2))
  unfolding is_short ◌and◌
  short_use e = two USE (simp e) (is-use from e)

  pub short-dup : t ! record_at i ≡ kind.DUP → instr_in s t i ≡ DUP (t ! (record_at i + 1)) (t ! (record_at i + 2))
  unfolding is_short ◌and◌
  short-dup e = two DUP (simp e) (is-dup from e)

  pub short-len : t ! record_at i ≡ kind.LEN → instr_in s t i ≡ LEN (t ! (record_at i + 1)) (t ! (record_at i + 2))
  unfolding is_short ◌and◌
  short-len e = two LEN (simp e) (is-len from e)

  pub short-get : t ! record_at i ≡ kind.GET → instr_in s t i ≡ GET (t ! (record_at i + 1)) (t ! (record_at i + 2)) (t ! (record_at i + 3))
  unfolding is_short ◌and◌
  short-get e = three GET (simp e) (is_get from e)

  pub short-set : t ! record_at i ≡ kind.SET → instr_in s t i ≡ SET (t ! (record_at i + 1)) (t ! (record_at i + 2)) (t ! (record_at i + 3))
  unfolding is_short ◌and◌
  short-set e = three SET (simp e) (is_set from e)

  pub short-arith : t ! record_at i ≡ kind.ARITH → instr_in s t i ≡ ARITH (t ! (record_at i + 1)) (t ! (record_at i + 2)) (t ! (record_at i + 3)) (t ! (record_at i + 4))
  unfolding is_short ◌and◌
  short-arith e = four ARITH (simp e) (is-arith from e)

  pub short-select : t ! record_at i ≡ kind.SELECT → instr_in s t i ≡ SELECT (t ! (record_at i + 1)) (t ! (record_at i + 2)) (t ! (record_at i + 3)) (t ! (record_at i + 4))
  unfolding is_short ◌and◌
  short-select e = four SELECT (simp e) (is-select from e)

  pub short-cast : t ! record_at i ≡ kind.CAST → instr_in s t i ≡ CAST (t ! (record_at i + 1)) (t ! (record_at i + 2))
  unfolding is_short ◌and◌
  short-cast e = two CAST (simp e) (is-cast from e)

  pub short-named : t ! record_at i ≡ kind.NAMED → instr_in s t i ≡ NAMED (t ! (record_at i + 1)) (t ! (record_at i + 2))
  unfolding is_short ◌and◌
  short-named e = two NAMED (simp e) (is-named from e)

  pub short-store : t ! record_at i ≡ kind.STORE → instr_in s t i ≡ STORE (t ! (record_at i + 1)) (t ! (record_at i + 2))
  unfolding is_short ◌and◌
  short-store e = two STORE (simp e) (is_store from e)

  pub short-prom : t ! record_at i ≡ kind.PROM → instr_in s t i ≡ PROM (t ! (record_at i + 1)) (t ! (record_at i + 2))
  unfolding is_short ◌and◌
  short-prom e = two PROM (simp e) (is-prom from e)

  pub short-force : t ! record_at i ≡ kind.FORCE → instr_in s t i ≡ FORCE (t ! (record_at i + 1)) (t ! (record_at i + 2))
  unfolding is_short ◌and◌
  short-force e = two FORCE (simp e) (is-force from e)

  pub short-peek : t ! record_at i ≡ kind.PEEK → instr_in s t i ≡ PEEK (t ! (record_at i + 1)) (t ! (record_at i + 2)) (t ! (record_at i + 3))
  unfolding is_short ◌and◌
  short-peek e = three PEEK (simp e) (is-peek from e)

  pub short-poke : t ! record_at i ≡ kind.POKE → instr_in s t i ≡ POKE (t ! (record_at i + 1)) (t ! (record_at i + 2)) (t ! (record_at i + 3))
  unfolding is_short ◌and◌
  short-poke e = three POKE (simp e) (is-poke from e)

  pub short-skip : t ! record_at i ≡ kind.SKIP → instr_in s t i ≡ SKIP (t ! (record_at i + 1)) (t ! (record_at i + 2))
  unfolding is_short ◌and◌
  short-skip e = two SKIP (simp e) (is-skip from e)

  -- ---- long ones, by the image's bytes from the record's place on

  abbrev p : ℕ
  p = place_in t i

  -- the field j stands at the byte 2 + j
  seen : (j n : ℕ) → p + 2 + j ≡ n → drop (p + 2) s ! j ≡ s ! n
  seen j n e = behind s (p + 2) j n e

  pub long-vec : t ! record_at i ≡ kind.VEC → instr_in s t i ≡ VEC (s ! (p + 2)) (fields s (p + 4) (few (s ! (p + 3))))
  unfolding instr_in
  long-vec e = reads_vec from (drop (p + 2) s) e ∙ rw (seen 0 (p + 2) (omega arith), seen 1 (p + 3) (omega arith), fields-behind s (p + 2) 2 (p + 4) (few (s ! (p + 3))) (omega arith)) refl

  pub long-call : t ! record_at i ≡ kind.CALL → instr_in s t i ≡ CALL (s ! (p + 2)) (s ! (p + 3)) (s ! (p + 4)) (fields s (p + 6) (few (s ! (p + 5))))
  unfolding instr_in
  long-call e = reads-call from (drop (p + 2) s) e ∙ rw (
    seen 0 (p + 2) (omega arith),
    seen 1 (p + 3) (omega arith),
    seen 2 (p + 4) (omega arith),
    seen 3 (p + 5)
        (omega arith),
    fields-behind s (p + 2) 4 (p + 6) (few (s ! (p + 5))) (omega arith),
  ) refl

  pub long-dispatch : t ! record_at i ≡ kind.DISPATCH → instr_in s t i ≡ DISPATCH (s ! (p + 2)) (s ! (p + 3)) (s ! (p + 4)) (s ! (p + 5)) (arguments s (p + 7) (few (s ! (p + 6))))
  unfolding instr_in
  long-dispatch e = reads-dispatch from (drop (p + 2) s) e
      ∙ rw (
        seen 0 (p + 2) (omega arith),
        seen 1 (p + 3) (omega arith),
        seen 2 (p + 4) (omega arith),
        seen 3 (p + 5) (omega arith),
        seen 4 (p + 6) (omega arith),
        arguments-behind s
            (p + 2) 5 (p + 7) (few (s ! (p + 6))) (omega arith),
      ) refl

  -- any other kind reads as a literal
  pub long-lit : (t ! record_at i ≡ kind.MOVE → ⊥) → (t ! record_at i ≡ kind.USE → ⊥) → (t ! record_at i ≡ kind.DUP → ⊥) → (t ! record_at i ≡ kind.VEC → ⊥) →
      (t ! record_at i ≡ kind.LEN → ⊥) → (t ! record_at i ≡ kind.GET → ⊥) → (t ! record_at i ≡ kind.SET → ⊥) → (t ! record_at i ≡ kind.ARITH → ⊥) →
      (t ! record_at i ≡ kind.SELECT → ⊥) → (t ! record_at i ≡ kind.CAST → ⊥) → (t ! record_at i ≡ kind.NAMED → ⊥) → (t ! record_at i ≡ kind.STORE → ⊥) →
      (t ! record_at i ≡ kind.PROM → ⊥) → (t ! record_at i ≡ kind.FORCE → ⊥) → (t ! record_at i ≡ kind.PEEK → ⊥) → (t ! record_at i ≡ kind.POKE → ⊥) →
      (t ! record_at i ≡ kind.CALL → ⊥) → (t ! record_at i ≡ kind.DISPATCH → ⊥) → (t ! record_at i ≡ kind.SKIP → ⊥) → instr_in s t i ≡ LIT (s ! (p + 2)) (number_in Form.Wide (drop (p + 2) s))
  unfolding instr_in
  long-lit n1 n2 n3 n4 n5 n6 n7 n8 n9 n10 n11 n12 n13 n14 n15 n16 n17 n18 n19 =
      reads-lit from (drop (p + 2) s) (none-short (t ! record_at i)
      (λ a b. out3 (t ! record_at i) a b n1 n2 n3)
      (λ a b. out12 (t ! record_at i) a b n5 n6 n7 n8 n9 n10 n11 n12 n13 n14 n15 n16)
      n19) n4 n17 n18 ∙ rw (seen 0 (p + 2) (omega arith)) refl
