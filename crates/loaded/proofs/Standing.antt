-- A record as it stands in the image and in the table: where questions 3 and 4 passed it, its fields are the bytes behind its head.
use mathlib.Core.Path.{◌≡◌, refl, sym, ap, ◌∙◌}
use mathlib.Core.List.{List, ◌∷◌}
use mathlib.Core.Bool.{Bool, true, false, cond}
use Prim.Native.Nat.{ℕ, zero, suc, ◌+◌, ◌-◌, ◌*◌, ◌/◌, ◌%◌, ◌≤◌, ◌<◌}
use native.Mathlib.Omega.{arith}
use lib.ListN.{drop, length}
use lib.Seq.{get_or-drop}
use lib.Dec.{eqb}
use borrow.Author.Tests.{eqb-true, leb-true}
use Rattle.layout.specs.Bounds.{OPERANDS}
use Rattle.layout.specs.Kinds as kind
use Rattle.layout.specs.Records.{◌!◌, choose, every, fields, size_at, kind_at, body_at, rec_at}
use Rattle.layout.specs.Forms.{literal_kind, literal_length}
use Rattle.layout.specs.Questions.{in_bounds, plain_length, length_of}
use Rattle.layout.specs.Tests.{◌and◌}
use Rattle.layout.specs.declared.Form.{Form}
use Rattle.layout.proofs.Bools.{and_both}
use Rattle.layout.proofs.Rows.{Rows, choose-each}
use Rattle.layout.proofs.Walk.{kind-at, body-at, size-head}
use Rattle.program.specs.Program.{Instr, Line, Block, MOVE, USE, DUP, VEC, LEN, GET, SET, ARITH, SELECT, CAST, NAMED, STORE, PROM, FORCE, PEEK, POKE, CALL, DISPATCH, SKIP, arguments}
use Rattle.program.specs.Program.{instr_of, number_in, line_of, block_of, version_of}
use Rattle.program.specs.Places.{past}
use Rattle.loaded.specs.Loaded.{BLOCK-ENTRIES, block_in, blocks_in, count_in, entry_in, few, instr_in, is_short, line_in, lines_in, mark_by, place_in, read_by, record_at, version_in}
use Rattle.loaded.proofs.Decoding.{is-arith, is_call, is-cast, is-dispatch, is-dup, is-force, is_get, is-len, is-lit, is_move, is-named, is-peek, is-poke, is-prom, is-select, is_set}
use Rattle.loaded.proofs.Decoding.{is-skip, is_store, is-use, is-vec}
use Rattle.loaded.proofs.Lookups.{all_placed, mark-is}
use Rattle.loaded.proofs.Reading.{is-short, reads-call, reads-dispatch, reads-lit, reads_vec}
use Rattle.loaded.proofs.Stores.{Written, written-field, written-kind, written-place}

-- ---- question 4: no instruction lists more than 8

module _ (b : List ℕ) where
  vec-bound : {k : ℕ} → k ≡ kind.VEC → in_bounds k b ≡ true → b ! 1 ≤ OPERANDS
  unfolding in_bounds choose
  vec-bound e h = leb-true (b ! 1) OPERANDS (simp e at h)

  call-bound : {k : ℕ} → k ≡ kind.CALL → in_bounds k b ≡ true → b ! 3 ≤ OPERANDS
  unfolding in_bounds choose
  call-bound e h = leb-true (b ! 3) OPERANDS (simp e at h)

  dispatch-bound : {k : ℕ} → k ≡ kind.DISPATCH → in_bounds k b ≡ true → b ! 4 ≤ OPERANDS
  unfolding in_bounds choose
  dispatch-bound e h = leb-true (b ! 4) OPERANDS (and_both _ _ (simp e at h)).1

-- ---- an instruction is told by the fields that its length leaves: a has the first five of b, d all of them

module _ (b a d : List ℕ) (n : ℕ) (first : (j : ℕ) → j < n → j < 5 → b ! j ≡ a ! j) (h : (j : ℕ) → j < n → b ! j ≡ d ! j) where
  fields-same : (k m : ℕ) → k + m ≤ n → every b k 1 m ≡ every d k 1 m
  unfolding every
  fields-same k zero l = refl
  fields-same k (suc m) l = rw (h k (omega arith), fields-same (k + 1) m (omega arith)) refl

  arguments-same : (k m : ℕ) → k + 2 * m ≤ n → arguments b k m ≡ arguments d k m
  unfolding arguments
  arguments-same k zero l = refl
  arguments-same k (suc m) l =
      let t = h k (omega arith) in
      let r = h (k + 1) (omega arith) in
      let rest = arguments-same (k + 2) m (omega arith) in
      λ i. record { type = t i; register = r i } ∷ rest i

  number_same : 9 ≤ n → number_in Form.Wide b ≡ number_in Form.Wide d
  unfolding number_in
  number_same l = rw (h 1 (omega arith), h 2 (omega arith), h 3 (omega arith), h 4 (omega arith), h 5 (omega arith), h 6 (omega arith), h 7 (omega arith), h 8 (omega arith)) refl

  module _ (k : ℕ) where
    -- by the fields: two, three, four; lists, pairs and literals
    two : (C : ℕ → ℕ → Instr) → ((x : List ℕ) → instr_of k x ≡ C (x ! 0) (x ! 1)) → is_short k ≡ true → 2 ≤ n → instr_of k b ≡ read_by k a d
    two C f s l = f b ∙ rw (first 0 (omega arith) (omega arith), first 1 (omega arith) (omega arith)) refl ∙ sym (is-short k a d s ∙ f a)

    three : (C : ℕ → ℕ → ℕ → Instr) → ((x : List ℕ) → instr_of k x ≡ C (x ! 0) (x ! 1) (x ! 2)) → is_short k ≡ true → 3 ≤ n → instr_of k b ≡ read_by k a d
    three C f s l = f b ∙ rw (first 0 (omega arith) (omega arith), first 1 (omega arith) (omega arith), first 2 (omega arith) (omega arith)) refl ∙ sym (is-short k a d s ∙ f a)

    four : (C : ℕ → ℕ → ℕ → ℕ → Instr) → ((x : List ℕ) → instr_of k x ≡ C (x ! 0) (x ! 1) (x ! 2) (x ! 3)) → is_short k ≡ true → 4 ≤ n → instr_of k b ≡ read_by k a d
    four C f s l = f b ∙ rw (first 0 (omega arith) (omega arith), first 1 (omega arith) (omega arith), first 2 (omega arith) (omega arith), first 3 (omega arith) (omega arith)) refl ∙ sym
        (is-short k a d s ∙ f a)

    vec : k ≡ kind.VEC → b ! 1 ≤ OPERANDS → 6 + b ! 1 ≡ n + 4 → instr_of k b ≡ read_by k a d
    vec e o l =
        let x = h 1 (omega arith) in
        let z : few (d ! 1) ≡ d ! 1 = omega arith in
        let y : VEC (b ! 0) (fields b 2 (b ! 1)) ≡ VEC (d ! 0) (fields d 2 (few (d ! 1))) = rw (z, h 0 (omega arith), x, fields-same 2 (d ! 1) (omega arith)) refl in
        is-vec b e ∙ y ∙ sym (reads_vec a d e)

    call : k ≡ kind.CALL → b ! 3 ≤ OPERANDS → 8 + b ! 3 ≡ n + 4 → instr_of k b ≡ read_by k a d
    call e o l =
        let x = h 3 (omega arith) in
        let z : few (d ! 3) ≡ d ! 3 = omega arith in
        let y : CALL (b ! 0) (b ! 1) (b ! 2) (fields b 4 (b ! 3)) ≡ CALL (d ! 0) (d ! 1) (d ! 2) (fields d 4 (few (d ! 3))) = rw
        (z, h 0 (omega arith), h 1 (omega arith), h 2 (omega arith), x, fields-same 4 (d ! 3) (omega arith)) refl in
        is_call b e ∙ y ∙ sym (reads-call a d e)

    dispatch : k ≡ kind.DISPATCH → b ! 4 ≤ OPERANDS → 9 + 2 * b ! 4 ≡ n + 4 → instr_of k b ≡ read_by k a d
    dispatch e o l =
        let x = h 4 (omega arith) in
        let z : few (d ! 4) ≡ d ! 4 = omega arith in
        let y : DISPATCH (b ! 0) (b ! 1) (b ! 2) (b ! 3) (arguments b 5 (b ! 4)) ≡ DISPATCH (d ! 0) (d ! 1) (d ! 2) (d ! 3) (arguments d 5 (few (d ! 4))) =
        rw (z, h 0 (omega arith), h 1 (omega arith), h 2 (omega arith), h 3 (omega arith), x, arguments-same 5 (d ! 4) (omega arith)) refl in
        is-dispatch b e ∙ y ∙ sym (reads-dispatch a d e)

    lit : k ≡ kind.LIT → 13 ≡ n + 4 → instr_of k b ≡ read_by k a d
    unfolding is_short ◌and◌
    lit e l = is-lit b e ∙ rw (h 0 (omega arith), number_same (omega arith)) refl ∙ sym (reads-lit a d (simp e) (λ z. omega arith) (λ z. omega arith) (λ z. omega arith))

    plain : (k ≡ kind.VERSION → ⊥) → (k ≡ kind.BLOCK → ⊥) → (k ≡ kind.LEVEL → ⊥) → in_bounds k b ≡ true → plain_length k b ≡ n + 4 → instr_of k b ≡ read_by k a d
    unfolding plain_length Rows is_short ◌and◌
    plain v bl le o = choose-each (λ (x : ℕ). x ≡ n + 4 → instr_of k b ≡ read_by k a d) k 0 _ (λ l. absurd (omega arith)) (
      λ e l. absurd (v e),
      (
        λ e l. absurd (bl e),
        (
          λ e l. absurd (le e),
          (
            λ e l. two MOVE (λ d. is_move d e) (simp e) (omega arith),
            (
              λ e l. two USE (λ d. is-use d e) (simp e) (omega arith),
              (
                λ e l. two DUP (λ d. is-dup d e) (simp e) (omega arith),
                (
                  λ e l. vec e (vec-bound b e o) l,
                  (
                    λ e l. two LEN (λ d. is-len d e) (simp e) (omega arith),
                    (
                      λ e l. three GET (λ d. is_get d e) (simp e) (omega arith),
                      (
                        λ e l. three SET (λ d. is_set d e) (simp e) (omega arith),
                        (
                          λ e l. four ARITH (λ d. is-arith d e) (simp e) (omega arith),
                          (
                            λ e l. four SELECT (λ d. is-select d e) (simp e) (omega arith),
                            (
                              λ e l. two CAST (λ d. is-cast d e) (simp e) (omega arith),
                              (
                                λ e l. two NAMED (λ d. is-named d e) (simp e) (omega arith),
                                (
                                  λ e l. two STORE (λ d. is_store d e) (simp e) (omega arith),
                                  (
                                    λ e l. two PROM (λ d. is-prom d e) (simp e) (omega arith),
                                    (
                                      λ e l. two FORCE (λ d. is-force d e) (simp e) (omega arith),
                                      (
                                        λ e l. three PEEK (λ d. is-peek d e) (simp e) (omega arith),
                                        (
                                          λ e l. three POKE (λ d. is-poke d e) (simp e) (omega arith),
                                          (
                                            λ e l. call e (call-bound b e o) l,
                                            (
                                              λ e l. dispatch e (dispatch-bound b e o) l,
                                              (λ e l. two SKIP (λ d. is-skip d e) (simp e) (omega arith), tt),
                                            ),
                                          ),
                                        ),
                                      ),
                                    ),
                                  ),
                                ),
                              ),
                            ),
                          ),
                        ),
                      ),
                    ),
                  ),
                ),
              ),
            ),
          ),
        ),
      ),
    )

    pub instr-same : (k ≡ kind.VERSION → ⊥) → (k ≡ kind.BLOCK → ⊥) → (k ≡ kind.LEVEL → ⊥) → in_bounds k b ≡ true → length_of Form.Wide k b ≡ n + 4 → instr_of k b ≡ read_by k a d
    unfolding length_of literal_kind literal_length
    instr-same v bl le o = go (eqb k kind.LIT) refl
      where
        go : (t : Bool) → eqb k kind.LIT ≡ t → cond t 13 (plain_length k b) ≡ n + 4 → instr_of k b ≡ read_by k a d
        go true q l = lit (eqb-true k kind.LIT q) l
        go false q l = plain v bl le o l

-- ---- a record that question 3 passed

-- its kind is one byte
kind-small : (k : ℕ) (b : List ℕ) → 0 < length_of Form.Wide k b → k < 256
unfolding length_of literal_kind literal_length plain_length Rows
kind-small k b = go (eqb k kind.LIT) refl
  where
    go : (t : Bool) → eqb k kind.LIT ≡ t → 0 < cond t 13 (plain_length k b) → k < 256
    go true q = λ l. let e = eqb-true k kind.LIT q in omega arith
    go false q = choose-each (λ (x : ℕ). 0 < x → k < 256) k 0 _ (λ l. absurd (omega arith)) (
      λ e l. omega arith,
      (
        λ e l. omega arith,
        (
          λ e l. omega arith,
          (
            λ e l. omega arith,
            (
              λ e l. omega arith,
              (
                λ e l. omega arith,
                (
                  λ e l. omega arith,
                  (
                    λ e l. omega arith,
                    (
                      λ e l. omega arith,
                      (
                        λ e l. omega arith,
                        (
                          λ e l. omega arith,
                          (
                            λ e l. omega arith,
                            (
                              λ e l. omega arith,
                              (
                                λ e l. omega arith,
                                (
                                  λ e l. omega arith,
                                  (λ e l. omega arith, (λ e l. omega arith, (λ e l. omega arith, (λ e l. omega arith, (λ e l. omega arith, (λ e l. omega arith, (λ e l. omega arith, tt))))))),
                                ),
                              ),
                            ),
                          ),
                        ),
                      ),
                    ),
                  ),
                ),
              ),
            ),
          ),
        ),
      ),
    )

-- an instruction has 6 bytes at least, and so has a BLOCK
line-long : (k : ℕ) (b : List ℕ) → (k ≡ kind.VERSION → ⊥) → (k ≡ kind.LEVEL → ⊥) → 0 < length_of Form.Wide k b → 6 ≤ length_of Form.Wide k b
unfolding length_of literal_kind literal_length plain_length Rows
line-long k b v le = go (eqb k kind.LIT)
  where
    go : (t : Bool) → 0 < cond t 13 (plain_length k b) → 6 ≤ cond t 13 (plain_length k b)
    go true = λ l. omega arith
    go false = choose-each (λ (x : ℕ). 0 < x → 6 ≤ x) k 0 _ (λ l. absurd (omega arith)) (
      λ e l. absurd (v e),
      (
        λ e l. omega arith,
        (
          λ e l. absurd (le e),
          (
            λ e l. omega arith,
            (
              λ e l. omega arith,
              (
                λ e l. omega arith,
                (
                  λ e l. omega arith,
                  (
                    λ e l. omega arith,
                    (
                      λ e l. omega arith,
                      (
                        λ e l. omega arith,
                        (
                          λ e l. omega arith,
                          (
                            λ e l. omega arith,
                            (
                              λ e l. omega arith,
                              (
                                λ e l. omega arith,
                                (
                                  λ e l. omega arith,
                                  (λ e l. omega arith, (λ e l. omega arith, (λ e l. omega arith, (λ e l. omega arith, (λ e l. omega arith, (λ e l. omega arith, (λ e l. omega arith, tt))))))),
                                ),
                              ),
                            ),
                          ),
                        ),
                      ),
                    ),
                  ),
                ),
              ),
            ),
          ),
        ),
      ),
    )

-- a whole record whose length is the one that its fields make
pub record Fitting (s : List ℕ) (p : ℕ) : Type 0 where
  pub whole : size_at s p ≡ 0 → ⊥
  pub fit : size_at s p ≡ length_of Form.Wide (kind_at s p) (body_at s p)

module _ {s : List ℕ} {p : ℕ} (w : Fitting s p) where
  long : 4 ≤ size_at s p
  long = (size-head s p w.whole).1

  pub kind-stands : kind_at s p ≡ s ! (p + 2)
  kind-stands = let l = kind-small (kind_at s p) (body_at s p) (omega (arith, w.fit, long)) in let e = kind-at s p in omega arith

  pub field-stands : (j : ℕ) → j < size_at s p - 4 → body_at s p ! j ≡ s ! (p + 2 + 2 + j)
  field-stands j l = let e : p + 2 + 2 + j ≡ p + 4 + j = omega arith in rw e (body-at s p j l)

  module _ (v : kind_at s p ≡ kind.VERSION → ⊥) (le : kind_at s p ≡ kind.LEVEL → ⊥) where
    pub six : 6 ≤ size_at s p
    six = let f = w.fit in let l = line-long (kind_at s p) (body_at s p) v le (omega (arith, long)) in omega arith

    pub line-stands : (kind_at s p ≡ kind.BLOCK → ⊥) → in_bounds (kind_at s p) (body_at s p) ≡ true → (T : List ℕ) (i : ℕ) → Written s T i (p + 2) → line_of (rec_at s p) ≡ line_in s T i
    unfolding instr_in
    line-stands bl o T i W =
        let q = written-place s T i (p + 2) W in
        let at : p ≡ place_in T i - 2 = omega arith in
        let same : instr_of (kind_at s p) (body_at s p) ≡ read_by (kind_at s p) (drop (record_at i + 1) T) (drop (p + 2 + 2) s) =
        instr-same (body_at s p) (drop (record_at i + 1) T) (drop (p + 2 + 2) s) (size_at s p - 4)
        (λ j l m. field-stands j l ∙ sym (get_or-drop (record_at i + 1) T j 0 ∙ written-field s T i (p + 2) W j m))
        (λ j l. field-stands j l ∙ sym (get_or-drop (p + 2 + 2) s j 0)) (kind_at s p) v bl le o (omega (arith, w.fit, long)) in
        let does : instr_of (kind_at s p) (body_at s p) ≡ read_by (T ! record_at i) (drop (record_at i + 1) T) (drop (place_in T i + 2) s) =
        same ∙ rw (kind-stands, ← written-kind s T i (p + 2) W, q) refl in
        λ x. record { at = at x; does = does x }

-- ---- a version and a block as they stand

module _ {s : List ℕ} {p : ℕ} (w : Fitting s p) where
  pub stands : (j m : ℕ) → j < size_at s p - 4 → p + 4 + j ≡ m → body_at s p ! j ≡ s ! m
  stands j m l e = field-stands w j l ∙ ap (λ x. s ! x) (omega arith)

  fields-stand : (k m n : ℕ) → k + n ≤ size_at s p - 4 → p + 4 + k ≡ m → every (body_at s p) k 1 n ≡ every s m 1 n
  unfolding every
  fields-stand k m zero l e = refl
  fields-stand k m (suc n) l e = rw (stands k m (omega arith) e, fields-stand (k + 1) (m + 1) n (omega arith) (omega arith)) refl

  pub version-size : kind_at s p ≡ kind.VERSION → size_at s p ≡ 10 + body_at s p ! 3
  unfolding length_of plain_length choose literal_kind literal_length
  version-size e = w.fit ∙ simp e

  pub block_size : kind_at s p ≡ kind.BLOCK → size_at s p ≡ 7
  unfolding length_of plain_length choose literal_kind literal_length
  block_size e = w.fit ∙ simp e

  pub level-size : kind_at s p ≡ kind.LEVEL → size_at s p ≡ 5
  unfolding length_of plain_length choose literal_kind literal_length
  level-size e = w.fit ∙ simp e

  pub version-stands : (T : List ℕ) (k lv : ℕ) (bs : List Block) → kind_at s p ≡ kind.VERSION → body_at s p ! 1 < 4 → k ≡ 4 * body_at s p ! 0 + body_at s p ! 1 → entry_in T k ≡ p + 2
      → lv ≡ s ! (past s p + 4) → bs ≡ blocks_in s T (BLOCK-ENTRIES + 8 * k) (body_at s p ! 5) → version_of (rec_at s p) lv bs ≡ version_in s T k
  unfolding version_in
  version-stands T k lv bs e v n x l b =
      let z = version-size e in
      let a : p ≡ entry_in T k - 2 = omega arith in
      let f : body_at s p ! 0 ≡ k / 4 = omega arith in
      let g : body_at s p ! 1 ≡ k % 4 = omega arith in
      let f2 = stands 2 (entry_in T k + 4) (omega arith) (omega arith) in
      let f3 = stands 3 (entry_in T k + 5) (omega arith) (omega arith) in
      let f4 = stands 4 (entry_in T k + 6) (omega arith) (omega arith) in
      let f5 = stands 5 (entry_in T k + 7) (omega arith) (omega arith) in
      let ts : fields (body_at s p) 6 (body_at s p ! 3) ≡ fields s (entry_in T k + 8) (s ! (entry_in T k + 5)) = fields-stand 6 (entry_in T k + 8) (body_at s p ! 3) (omega arith) (omega arith)
      ∙ ap (λ m. fields s (entry_in T k + 8) m) f3 in
      let lv' : lv ≡ s ! (entry_in T k + 12 + s ! (entry_in T k + 5)) = l ∙ ap (λ m. s ! m) (omega arith) in
      let bs' : bs ≡ blocks_in s T (BLOCK-ENTRIES + 8 * k) (s ! (entry_in T k + 7)) = b ∙ ap (blocks_in s T (BLOCK-ENTRIES + 8 * k)) f5 in
      λ i. record { at = a i; function = f i; version = g i; parameters = f2 i; types = ts i; return = f4 i; level = lv' i; blocks = bs' i }

  pub block-stands : (T : List ℕ) (i : ℕ) (ls : List Line) → kind_at s p ≡ kind.BLOCK → body_at s p ! 0 < 2 → Written s T i (p + 2) → record_at (i + 1 + body_at s p ! 2) ≤ length T
      → ls ≡ lines_in s T (i + 1) (body_at s p ! 2) → block_of (rec_at s p) ls ≡ block_in s T i
  unfolding block_in
  block-stands T i ls e few W room l =
      let z = block_size e in
      let q = written-place s T i (p + 2) W in
      let inside : (j m : ℕ) → j < 3 → record_at i + 1 + j ≡ m → body_at s p ! j ≡ T ! m = λ j m x y. field-stands w j (omega arith) ∙ sym (written-field s T i (p + 2) W j (omega arith)) ∙ ap
      (λ (u : ℕ). T ! u) y in
      let at : p ≡ place_in T i - 2 = omega arith in
      let f0 = mark-is (body_at s p ! 0) few ∙ ap mark_by (inside 0 (record_at i + 1) (omega arith) (omega arith)) in
      let f1 = inside 1 (record_at i + 2) (omega arith) (omega arith) in
      let f2 = inside 2 (record_at i + 3) (omega arith) (omega arith) in
      let code : ls ≡ lines_in s T (i + 1) (count_in T i) = l ∙ ap (lines_in s T (i + 1)) (all_placed T i f2 room) in
      λ x. record { at = at x; mark = f0 x; result = f1 x; code = code x }
