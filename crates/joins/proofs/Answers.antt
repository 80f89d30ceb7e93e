-- 02, 13: the answer of a join, as the code finds it.
use Rattle.std.specs.Prelude.{Err, Ok, Result}
use mathlib.Core.Path.{◌≡◌, refl, sym, ap, ◌∙◌}
use mathlib.Core.List.{List, [], ◌∷◌}
use mathlib.Core.Bool.{Bool, true, false, cond}
use Prim.Native.Nat.{ℕ, suc, ◌+◌, ◌≤◌, ◌<◌}
use native.Mathlib.Nat.{zero-add}
use native.Mathlib.Omega.{arith}
use lib.ListN.{length}
use lib.Dec.{eqb}
use borrow.Author.Tests.{le-leb, lt-leb}
use Rattle.layout.specs.Bounds.{IMAGE, FUNCTIONS, ALL-VERSIONS}
use Rattle.layout.specs.Kinds as kind
use Rattle.layout.specs.Tests.{◌and◌}
use Rattle.layout.specs.Records.{Rec, records}
use Rattle.layout.specs.declared.Form.{Form}
use Rattle.program.specs.Program.{Program, program}
use Rattle.program.specs.Questions.{question7}
use Rattle.writer.specs.Text.{placed}
use Rattle.writer.proofs.Placed.{placed-then}
use Rattle.std.specs.Result.{MatchResult, IsErrAnd}
use Rattle.std.proofs.lemmas.Result.{err_from_is_err_and}
use Rattle.checker.specs.Verdicts.{Verdict, verdict_of, refused}
use Rattle.checker.specs.declared.Refusal.{Refusal}
use Rattle.checker.proofs.Accepted.{passed}
use Rattle.checker.proofs.Asks.{accepted-short}
use Rattle.machine.specs.Begin.{program_of}
use Rattle.joins.specs.Joins.{functions_in, versions_in, joined, in_bounds, join_after, join_of, leaves, joined_buffer}
use Rattle.joins.specs.Parts.{Bytes, Ready}
use Rattle.layout.proofs.Behind.{Chain, chained}
use Rattle.joins.proofs.Raised.{Fits}
use Rattle.program.proofs.Held.{helds}
use Rattle.program.proofs.Programs.{no-versions, program-version, program-other}
use Rattle.joins.proofs.Named.{all-within, all-raisable}
use Rattle.joins.proofs.Joining.{fits-image, below-image}
use Rattle.joins.proofs.Parts.{all_raised}
use Rattle.joins.specs.declared.JoinError.{JoinError}
use Rattle.joins.specs.declared.JoinError.TheVariants.{First, Second, Together}

-- ---- versions

-- each takes a record
versions-few : (rs : List Rec) (p e : ℕ) → Chain p rs e → Fits rs → p + length (program rs) ≤ e
unfolding Chain Fits
versions-few [] p e c f = rw no-versions (omega (arith, c))
versions-few (r ∷ rs) p e c f = go (eqb r.kind kind.VERSION) refl (versions-few rs (p + r.size) e c.2 f.1)
  where
    go : (b : Bool) → eqb r.kind kind.VERSION ≡ b → p + r.size + length (program rs) ≤ e → p + length (program (r ∷ rs)) ≤ e
    go true x h = let n : length (program (r ∷ rs)) ≡ suc (length (program rs)) = ap (λ (vs : Program). length vs) (program-version r rs f.0.size x) in omega (arith, h, n, f.0.size)
    go false x h = let n : length (program (r ∷ rs)) ≡ length (program rs) = ap (λ (vs : Program). length vs) (program-other r rs f.0.size x) in omega (arith, h, n, f.0.size)

-- an accepted image: its count, and bounds that keep sums small
pub counted-versions : (s : List ℕ) (n : ℕ) → verdict_of s ≡ Ok n → (versions_in s ≡ n) × (n ≤ IMAGE) × (length s ≤ IMAGE)
counted-versions s n e =
    let w = passed s n e in
    let l = accepted-short Form.Wide s n e in
    (w.count, omega (arith, l, w.count, versions-few (records s) 0 (length s) (chained s w.q2) (fits-image s n w)), l)

-- its records can be raised as far as functions go
pub ready : (k : ℕ) (s : List ℕ) (n : ℕ) → Bytes s → verdict_of s ≡ Ok n → k + functions_in s ≤ FUNCTIONS → Ready k s
ready k s n b e h =
    let w = passed s n e in
    record {
      bytes = b;
      short = accepted-short Form.Wide s n e;
      whole = w.q2;
      raisable =
          all-raisable k (functions_in s) (omega (arith, h)) (length s) (records s) (fits-image s n w) w.q4
          (all-within (functions_in s) (program_of s) (below-image s n w) (program_of s) (below-image s n w) (helds (question7 (program_of s)) (program_of s) w.q7));
    }

-- ---- 23

-- what becomes of two accepted images
abbrev pub Says : List ℕ → List ℕ → List ℕ → Result ℕ JoinError → List ℕ → Type 0
Says a b out r last = (r ≡ cond (in_bounds a b (length out)) (Ok (length a + length b)) (Err (Together (refused 23 0)))) × (last ≡ leaves r out (joined a b))

module _ (a b out : List ℕ) where
  no_bound : in_bounds a b (length out) ≡ false → Says a b out (Err (Together (refused 23 0))) out
  unfolding leaves
  no_bound e = (rw e refl, refl)

  long-bound : IMAGE < length a + length b → in_bounds a b (length out) ≡ false
  unfolding in_bounds ◌and◌
  long-bound h = rw (lt-leb (length a + length b) IMAGE h) refl

  pub says-long : IMAGE < length a + length b → Says a b out (Err (Together (refused 23 0))) out
  says-long h = no_bound (long-bound h)

  module _ (l : length a + length b ≤ IMAGE) {k m : ℕ} (ek : k ≡ functions_in a) (em : m ≡ functions_in b) where
    numbers-bound : FUNCTIONS < k + m → in_bounds a b (length out) ≡ false
    unfolding in_bounds ◌and◌
    numbers-bound h = rw (le-leb (length a + length b) IMAGE l, lt-leb (functions_in a + functions_in b) FUNCTIONS (omega (arith, h, ek, em))) refl

    pub says-numbers : FUNCTIONS < k + m → Says a b out (Err (Together (refused 23 0))) out
    says-numbers h = no_bound (numbers-bound h)

    module _ (f : k + m ≤ FUNCTIONS) {x y : ℕ} (ex : versions_in a ≡ x) (ey : versions_in b ≡ y) where
      many-bound : ALL-VERSIONS < x + y → in_bounds a b (length out) ≡ false
      unfolding in_bounds ◌and◌
      many-bound h = rw (le-leb (length a + length b) IMAGE l, le-leb (functions_in a + functions_in b) FUNCTIONS (omega (arith, f, ek, em)), lt-leb (versions_in a + versions_in b) ALL-VERSIONS (omega (arith, h, ex, ey))) refl

      pub says-many : ALL-VERSIONS < x + y → Says a b out (Err (Together (refused 23 0))) out
      says-many h = no_bound (many-bound h)

      module _ (v : x + y ≤ ALL-VERSIONS) where
        room_bound : length out < length a + length b → in_bounds a b (length out) ≡ false
        unfolding in_bounds ◌and◌
        room_bound h = rw (le-leb (length a + length b) IMAGE l, le-leb (functions_in a + functions_in b) FUNCTIONS (omega (arith, f, ek, em)), le-leb (versions_in a + versions_in b) ALL-VERSIONS (omega (arith, v, ex, ey)), lt-leb (length a + length b) (length out) h) refl

        pub says-short : length out < length a + length b → Says a b out (Err (Together (refused 23 0))) out
        says-short h = no_bound (room_bound h)

        all-bounds : length a + length b ≤ length out → in_bounds a b (length out) ≡ true
        unfolding in_bounds ◌and◌
        all-bounds h = rw (le-leb (length a + length b) IMAGE l, le-leb (functions_in a + functions_in b) FUNCTIONS (omega (arith, f, ek, em)), le-leb (versions_in a + versions_in b) ALL-VERSIONS (omega (arith, v, ex, ey)), le-leb (length a + length b) (length out) h) refl

        pub says-written : {first last : List ℕ} → length a + length b ≤ length out → length (all_raised (functions_in a) (records b)) ≡ length b → first ≡ placed out 0 a → last ≡ placed first (length a) (all_raised k (records b)) → Says a b out (Ok (length a + length b)) last
        unfolding leaves joined
        says-written {first} {last} h n p q = (
          rw (all-bounds h) refl,
          placed-then out 0 a (all_raised (functions_in a) (records b)) p (sym (zero-add (length a))) (q ∙ ap (λ (i : ℕ). placed first (length a) (all_raised i (records b))) ek) (omega (arith, h, n)),
        )

-- ---- behind the verdicts

module _ (a b out : List ℕ) where
  pub first-refused : (why : Refusal) → verdict_of a ≡ Err why → (Err (First why) ≡ join_of a b (length out)) × (out ≡ joined_buffer a b out)
  unfolding join_of join_after leaves
  first-refused why e = (rw e refl, rw e refl)

  pub second-refused : (n : ℕ) (why : Refusal) → verdict_of a ≡ Ok n → verdict_of b ≡ Err why → (Err (Second why) ≡ join_of a b (length out)) × (out ≡ joined_buffer a b out)
  unfolding join_of join_after leaves
  second-refused n why e f = (rw (e, f) refl, rw (e, f) refl)

  pub both-accepted : {r : Result ℕ JoinError} {last : List ℕ} (n m : ℕ) → verdict_of a ≡ Ok n → verdict_of b ≡ Ok m → Says a b out r last → (r ≡ join_of a b (length out)) × (last ≡ joined_buffer a b out)
  unfolding join_of join_after
  both-accepted {r} n m e f s =
      let z : r ≡ join_of a b (length out) = s.0 ∙ sym (rw (e, f) refl) in
      (z, s.1 ∙ ap (λ (j : Result ℕ JoinError). leaves j out (joined a b)) z)

-- ---- a verdict under the name of its image

module _ (v : Verdict) (r : Result ℕ JoinError) (named : Refusal → JoinError) (h : MatchResult v (λ n. r ≡ Ok n) (λ why. IsErrAnd r (λ e. e ≡ named why))) where
  pub named-ok : (n : ℕ) → r ≡ Ok n → v ≡ Ok n
  named-ok n e = go v h
    where
      go : (w : Verdict) → MatchResult w (λ m. r ≡ Ok m) (λ why. IsErrAnd r (λ d. d ≡ named why)) → w ≡ Ok n
      go (Ok m) g = let z : m ≡ n = cc in rw z refl
      go (Err why) g = let t = err_from_is_err_and r g in let y = t.1 in let z : ◌≡◌ {A = ℕ} 0 1 = cc in absurd (omega arith)

  pub named-err : (e : JoinError) → r ≡ Err e → (why : Refusal) × (v ≡ Err why) × (e ≡ named why)
  named-err d e = go v h
    where
      go : (w : Verdict) → MatchResult w (λ m. r ≡ Ok m) (λ why. IsErrAnd r (λ d. d ≡ named why)) → (why : Refusal) × (w ≡ Err why) × (d ≡ named why)
      go (Ok m) g = let z : ◌≡◌ {A = ℕ} 0 1 = cc in absurd (omega arith)
      go (Err why) g = let t = err_from_is_err_and r g in let y = t.1 in let z : d ≡ t.0 = cc in (why, refl, z ∙ t.2)
