-- The pairs of a DISPATCH against the parameters of a version, and its other tests, as the code goes along them.
use mathlib.Core.Path.{◌≡◌, refl, sym, ◌∙◌}
use mathlib.Core.List.{List, [], ◌∷◌}
use mathlib.Core.Bool.{Bool, true, false}
use Prim.Native.Nat.{ℕ, zero, suc, ◌+◌, ◌-◌, ◌*◌, ◌/◌, ◌%◌, ◌≤◌, ◌<◌}
use native.Mathlib.Numerals.{add-one}
use native.Mathlib.Omega.{arith}
use lib.ListN.{length, take, drop}
use lib.Seq.{drop-cons, get_or-take}
use lib.Dec.{eqb, leb}
use borrow.Author.Tests.{eq-eqb, ne_eqb}
use Rattle.layout.proofs.Bools.{and-on, and-off}
use Rattle.layout.specs.Records.{◌!◌, body_at}
use Rattle.layout.specs.Tests.{◌and◌}
use Rattle.program.specs.Places.{version_at}
use Rattle.program.specs.Program.{Argument, Version, arguments, mark_of, parameter_types}
use Rattle.program.proofs.Forms.{length-arguments}
use Rattle.rules.specs.Types.{kind_of, ownership_of, within}
use Rattle.machine.specs.Calls.{same_ownerships}
use Rattle.machine.proofs.Matching.{same_length}
use Rattle.bounds.specs.Bounds.{allows}

-- ---- parameters that a version has registers for

taken_in : (n i : ℕ) (ts : List ℕ) → i < length (take n ts) → i < n
taken_in zero i ts h = absurd (omega arith)
taken_in (suc n) i [] h = absurd (omega arith)
taken_in (suc n) zero (t ∷ ts) h = omega arith
taken_in (suc n) (suc i) (t ∷ ts) h = omega (arith, taken_in n i ts (omega arith))

module _ (s : List ℕ) (v : ℕ) where
  abbrev X : Version
  X = version_at s v

  pub parameter-at : (i : ℕ) → i < length (parameter_types (version_at s v)) → parameter_types (version_at s v) ! i ≡ (version_at s v).types ! i
  parameter-at i h = get_or-take X.parameters X.types i 0 (taken_in X.parameters i X.types h)

-- ---- n pairs of a body b against types, from the pair i on

module _ (b ts : List ℕ) (n : ℕ) where
  abbrev pub ahead : ℕ → Bool
  ahead i = same_ownerships (arguments b (5 + 2 * i) (n - i)) (drop i ts)

  pub pairs_first : same_ownerships (arguments b 5 n) ts ≡ ahead 0
  pairs_first = let z : n - 0 ≡ n = omega arith in rw z refl

  pub pairs-uneven : (n ≡ length ts → ⊥) → false ≡ same_ownerships (arguments b 5 n) ts
  pairs-uneven h = go (same_ownerships (arguments b 5 n) ts) refl
    where
      go : (t : Bool) → same_ownerships (arguments b 5 n) ts ≡ t → false ≡ same_ownerships (arguments b 5 n) ts
      go true e = absurd (h (sym (length-arguments b 5 n) ∙ same_length (arguments b 5 n) ts e))
      go false e = sym e

  module _ (even : n ≡ length ts) (i : ℕ) where
    pub pairs_next : i < n → ahead i ≡ (eqb (ownership_of (b ! (5 + 2 * i))) (ownership_of (ts ! i)) and ahead (i + 1))
    unfolding same_ownerships arguments
    pairs_next h =
        let z : n - i ≡ suc (n - (i + 1)) = omega arith in
        let k : 5 + 2 * (i + 1) ≡ 5 + 2 * i + 2 = omega arith in
        rw (z, drop-cons ts i 0 (omega arith), k, add-one i) refl

    pub pairs-last : n ≤ i → ahead i ≡ true
    unfolding same_ownerships arguments
    pairs-last h =
        let z : n - i ≡ 0 = omega arith in
        rw (z, none_left ts i (omega arith)) refl
      where
        none_left : (l : List ℕ) (j : ℕ) → length l ≤ j → drop j l ≡ []
        none_left [] zero g = refl
        none_left [] (suc j) g = refl
        none_left (x ∷ l) zero g = absurd (omega arith)
        none_left (x ∷ l) (suc j) g = none_left l j (omega arith)

    module _ (h : i < n) {x y : ℕ} (listed : x ≡ b ! (5 + 2 * i)) (typed : y ≡ ts ! i) where
      pub pairs-alike : x / 16 ≡ y / 16 → ahead i ≡ ahead (i + 1)
      unfolding ownership_of
      pairs-alike e = pairs_next h ∙ and-on _ (eq-eqb (b ! (5 + 2 * i) / 16) (ts ! i / 16) (rw (← listed, ← typed) e))

      pub pairs-unlike : (x / 16 ≡ y / 16 → ⊥) → ahead i ≡ false
      unfolding ownership_of
      pairs-unlike e = pairs_next h ∙ and-off _ (ne_eqb (b ! (5 + 2 * i) / 16) (ts ! i / 16) (rw (← listed, ← typed) e))

-- ---- the tests one after the other

module _ (level mark ret : ℕ) (pairs : List Argument) (s : List ℕ) (v : ℕ) where
  abbrev W : Version
  W = version_at s v

  abbrev Allowed : Bool
  Allowed = allows level mark ret pairs W

  pub allows-above : leb W.level level ≡ false → false ≡ Allowed
  unfolding allows
  allows-above e = sym (and-off _ e)

  module _ (low : leb W.level level ≡ true) where
    pub allows-unlike : same_ownerships pairs (parameter_types W) ≡ false → false ≡ Allowed
    unfolding allows
    allows-unlike e = sym (and-on _ low ∙ and-off _ e)

    module _ (alike : same_ownerships pairs (parameter_types W) ≡ true) {t u : ℕ} (told : t ≡ body_at s v ! 4) (asked : u ≡ ret) where
      returned : W.return ≡ t
      unfolding version_at
      returned = sym told

      pub allows-other : (t / 16 ≡ u / 16 → ⊥) → false ≡ Allowed
      unfolding allows ownership_of
      allows-other h = sym (and-on _ low ∙ and-on _ alike ∙ and-off _ (ne_eqb (W.return / 16) (ret / 16) (rw (returned, ← asked) h)))

      module _ (owned : t / 16 ≡ u / 16) where
        own : eqb (ownership_of W.return) (ownership_of ret) ≡ true
        unfolding ownership_of
        own = eq-eqb (W.return / 16) (ret / 16) (rw (returned, ← asked) owned)

        pub allows-outside : within (t % 16) (u % 16) ≡ false → false ≡ Allowed
        unfolding allows kind_of
        allows-outside h = sym (and-on _ low ∙ and-on _ alike ∙ and-on _ own ∙ and-off _ (rw (returned, ← asked) h))

        pub allows-marked : within (t % 16) (u % 16) ≡ true → {m n : ℕ} → m ≡ mark_of W → n ≡ mark → leb m n ≡ Allowed
        unfolding allows kind_of
        allows-marked h e f = sym (and-on _ low ∙ and-on _ alike ∙ and-on _ own ∙ and-on _ (rw (returned, ← asked) h) ∙ rw (e, f) refl)
