-- DISPATCH: its test as the part that looks at no value and the match of its arguments.
use mathlib.Core.Path.{◌≡◌, refl, sym, ap, ◌∙◌}
use mathlib.Core.List.{List, [], ◌∷◌, map}
use mathlib.Core.Option.{Option, none, some}
use mathlib.Core.Bool.{Bool, true, false}
use Prim.Native.Nat.{ℕ, zero, suc, ◌+◌, ◌*◌, ◌/◌, ◌%◌, ◌≤◌, ◌<◌, min}
use native.Mathlib.Omega.{arith}
use lib.ListN.{length, length-take, drop}
use lib.Seq.{get_or-take}
use lib.Dec.{eqb, leb}
use borrow.Author.Tests.{eq-eqb, ne_eqb, eqb-true, eqb-false, le-leb, lt-leb}
use Rattle.layout.specs.Records.{◌!◌}
use Rattle.layout.specs.Tests.{◌and◌, found}
use Rattle.layout.proofs.Bools.{and-on, and-off}
use Rattle.layout.proofs.Fields.{every-at}
use Rattle.program.specs.Program.{Argument, Program, Version, find_version, mark_of, parameter_types}
use Rattle.program.proofs.Forms.{argument-types, length-arguments}
use Rattle.rules.specs.Types.{kind_of, ownership_of, within}
use Rattle.machine.specs.Calls.{dispatches, lowest, matching, same_ownerships}
use Rattle.machine.specs.Try.{Try, or_stuck, stop}
use Rattle.machine.specs.declared.End.{End}
use Rattle.loaded.specs.Loaded.{few, version_in}
use Rattle.loaded.specs.Dispatching.{admits, admits_at, pairs_at}
use Rattle.loaded.proofs.Reading.{behind}

-- ---- the test of a DISPATCH in two

and_assoc : (a b c : Bool) → ((a and b) and c) ≡ (a and (b and c))
unfolding ◌and◌
and_assoc true b c = refl
and_assoc false b c = refl

pub in_two : (level mark ret : ℕ) (pairs : List Argument) (ks : List ℕ) (W : Version) → dispatches level mark ret pairs ks W ≡
    (admits level mark ret pairs W and matching ks (parameter_types W))
unfolding dispatches admits
in_two level mark ret pairs ks W = sym (and_assoc _ _ _ ∙ ap (λ b. leb W.level level and b)
    (and_assoc _ _ _ ∙ ap (λ b. same_ownerships pairs (parameter_types W) and b) (and_assoc _ _ _ ∙ ap (λ b. eqb (ownership_of W.return) (ownership_of ret) and b) (and_assoc _ _ _))))

found-two : (level mark ret : ℕ) (pairs : List Argument) (ks : List ℕ) (o : Option Version) → found o (dispatches level mark ret pairs ks) ≡
    (found o (admits level mark ret pairs) and found o (λ W. matching ks (parameter_types W)))
unfolding found ◌and◌
found-two level mark ret pairs ks none = refl
found-two level mark ret pairs ks (some W) = in_two level mark ret pairs ks W

-- the lowest of the candidates m, of n from w on, whose parameters match
unfoldable pub among : Program → ℕ → (ℕ → Bool) → List ℕ → ℕ → ℕ → Try Version
among P f m ks zero w = stop End.Undef
among P f m ks (suc n) w = elim (m w and found (find_version P f w) (λ W. matching ks (parameter_types W))) [ true ↦ or_stuck (find_version P f w) | false ↦ among P f m ks n (suc w) ]

-- a DISPATCH picks among its candidates
pub picked-among : (P : Program) (level f mark ret : ℕ) (pairs : List Argument) (ks : List ℕ) (m : ℕ → Bool) → ((w : ℕ) → m w ≡ found (find_version P f w) (admits level mark ret pairs)) →
    (n w : ℕ) → lowest P f (dispatches level mark ret pairs ks) n w ≡ among P f m ks n w
unfolding lowest among
picked-among P level f mark ret pairs ks m h zero w = refl
picked-among P level f mark ret pairs ks m h (suc n) w =
    ap (λ (b : Bool). elim b [ true ↦ or_stuck (find_version P f w) | false ↦ lowest P f (dispatches level mark ret pairs ks) n (suc w) ])
    (found-two level mark ret pairs ks (find_version P f w) ∙ ap (λ (b : Bool). b and found (find_version P f w) (λ W. matching ks (parameter_types W))) (sym (h w)))
    ∙ ap (λ (t : Try Version). elim (m w and found (find_version P f w) (λ W. matching ks (parameter_types W))) [ true ↦ or_stuck (find_version P f w) | false ↦ t ])
    (picked-among P level f mark ret pairs ks m h n (suc w))

-- ---- ownerships, place by place

types_of : List Argument → List ℕ
types_of pairs = map (λ (a : Argument). a.type) pairs

same-all : (pairs : List Argument) (ts : List ℕ) → length pairs ≡ length ts → ((i : ℕ) → i < length pairs → types_of pairs ! i / 16 ≡ ts ! i / 16) → same_ownerships pairs ts ≡ true
unfolding same_ownerships types_of ownership_of ◌and◌
same-all [] [] e h = refl
same-all [] (t ∷ ts) e h = absurd (omega arith)
same-all (a ∷ l) [] e h = absurd (omega arith)
same-all (a ∷ l) (t ∷ ts) e h = rw (eq-eqb (a.type / 16) (t / 16) (h 0 (omega arith))) (same-all l ts (omega arith) (λ i m. h (suc i) (omega arith)))

differ-some : (pairs : List Argument) (ts : List ℕ) (i : ℕ) → i < length pairs → (types_of pairs ! i / 16 ≡ ts ! i / 16 → ⊥) → same_ownerships pairs ts ≡ false
unfolding same_ownerships types_of ownership_of ◌and◌
differ-some [] ts i l h = absurd (omega arith)
differ-some (a ∷ ps) [] i l h = refl
differ-some (a ∷ ps) (t ∷ ts) zero l h = rw (ne_eqb (a.type / 16) (t / 16) h) refl
differ-some (a ∷ ps) (t ∷ ts) (suc i) l h = rw (differ-some ps ts i (omega arith) h) (go (eqb (a.type / 16) (t / 16)))
  where
    go : (b : Bool) → (b and false) ≡ false
    go true = refl
    go false = refl

differ-length : (pairs : List Argument) (ts : List ℕ) → (length pairs ≡ length ts → ⊥) → same_ownerships pairs ts ≡ false
unfolding same_ownerships ◌and◌
differ-length [] [] h = absurd (h refl)
differ-length [] (t ∷ ts) h = refl
differ-length (a ∷ ps) [] h = refl
differ-length (a ∷ ps) (t ∷ ts) h = rw (differ-length ps ts (λ e. h (ap suc e))) (go (eqb (ownership_of a.type) (ownership_of t)))
  where
    go : (b : Bool) → (b and false) ≡ false
    go true = refl
    go false = refl

module _ (s t : List ℕ) (p k : ℕ) {n m : ℕ} (pairs : n ≡ few (s ! (p + 6))) (most : m ≡ min (version_in s t k).parameters (length (version_in s t k).types)) where
  many : length (pairs_at s p) ≡ n
  many = length-arguments (drop (p + 2) s) 5 (few (s ! (p + 6))) ∙ sym pairs

  taking : length (parameter_types (version_in s t k)) ≡ m
  taking = length-take (version_in s t k).parameters (version_in s t k).types ∙ sym most

  asked-at : (i : ℕ) → i < n → types_of (pairs_at s p) ! i ≡ s ! (p + 7 + 2 * i)
  unfolding types_of
  asked-at i l = ap (λ (x : List ℕ). x ! i) (argument-types (drop (p + 2) s) 5 (few (s ! (p + 6)))) ∙ every-at (drop (p + 2) s) 5 2 (few (s ! (p + 6))) i (omega arith) ∙ behind s (p + 2)
      (5 + i * 2) (p + 7 + 2 * i) (omega arith)

  pub other-count : (n ≡ m → ⊥) → false ≡ same_ownerships (pairs_at s p) (parameter_types (version_in s t k))
  other-count h = let a = many in let b = taking in sym (differ-length (pairs_at s p) (parameter_types (version_in s t k)) (λ e. h (omega arith)))

  module _ (e : n ≡ m) where
    has-at : (i : ℕ) → i < n → parameter_types (version_in s t k) ! i ≡ (version_in s t k).types ! i
    has-at i l = get_or-take (version_in s t k).parameters (version_in s t k).types i 0 (omega (arith, e, l, most))

    pub other-ownership : (i : ℕ) {x y : ℕ} → i < n → x ≡ s ! (p + 7 + 2 * i) → y ≡ (version_in s t k).types ! i → (x / 16 ≡ y / 16 → ⊥) → false ≡ same_ownerships (pairs_at s p)
        (parameter_types (version_in s t k))
    other-ownership i {x} {y} l a b h = let c = many in sym (differ-some (pairs_at s p) (parameter_types (version_in s t k)) i (omega arith)
        (λ g. h (ap (λ z. z / 16) (a ∙ sym (asked-at i l)) ∙ g ∙ ap (λ z. z / 16) (has-at i l ∙ sym b))))

    pub all_same : ((i : ℕ) → i < n → s ! (p + 7 + 2 * i) / 16 ≡ (version_in s t k).types ! i / 16) → true ≡ same_ownerships (pairs_at s p) (parameter_types (version_in s t k))
    all_same h = let a = many in let b = taking in sym (same-all (pairs_at s p) (parameter_types (version_in s t k)) (omega arith)
        (λ i l. ap (λ z. z / 16) (asked-at i (omega arith)) ∙ h i (omega arith) ∙ ap (λ z. z / 16) (sym (has-at i (omega arith)))))

-- one place more
pub same_more : (s t : List ℕ) (p k i : ℕ) {x y : ℕ} → ((j : ℕ) → j < i → s ! (p + 7 + 2 * j) / 16 ≡ (version_in s t k).types ! j / 16) → x ≡ s ! (p + 7 + 2 * i)
    → y ≡ (version_in s t k).types ! i → x / 16 ≡ y / 16
    → (j : ℕ) → j < i + 1 → s ! (p + 7 + 2 * j) / 16 ≡ (version_in s t k).types ! j / 16
same_more s t p k i {x} {y} h a b e j l = go (eqb j i) refl
  where
    go : (c : Bool) → eqb j i ≡ c → s ! (p + 7 + 2 * j) / 16 ≡ (version_in s t k).types ! j / 16
    go true q = rw (eqb-true j i q) (ap (λ z. z / 16) (sym a) ∙ e ∙ ap (λ z. z / 16) b)
    go false q = let z : j ≡ i → ⊥ = eqb-false j i q in h j (omega arith)

-- ---- the part that looks at no value, test by test

module _ (s t : List ℕ) (own p : ℕ) (W : Version) where
  pub above : {a b : ℕ} → a ≡ (version_in s t own).level → b ≡ W.level → a < b → false ≡ admits_at s t own p W
  unfolding admits_at admits
  above {a} {b} x y l = sym (and-off _ (lt-leb W.level (version_in s t own).level (omega arith)))

  module _ {a b : ℕ} (x : a ≡ (version_in s t own).level) (y : b ≡ W.level) (l : b ≤ a) where
    low : leb W.level (version_in s t own).level ≡ true
    low = le-leb W.level (version_in s t own).level (omega arith)

    pub other-signature : {r : Bool} → r ≡ same_ownerships (pairs_at s p) (parameter_types W) → r ≡ false → false ≡ admits_at s t own p W
    unfolding admits_at admits
    other-signature e f = sym (and-on _ low ∙ and-off _ (sym e ∙ f))

    module _ {r : Bool} (e : r ≡ same_ownerships (pairs_at s p) (parameter_types W)) (f : r ≡ true) {g h : ℕ} (gives : g ≡ W.return) (asked : h ≡ s ! (p + 5)) where
      pub other-return : (g / 16 ≡ h / 16 → ⊥) → false ≡ admits_at s t own p W
      unfolding admits_at admits ownership_of
      other-return n = sym (and-on _ low ∙ and-on _ (sym e ∙ f) ∙ and-off _ (ne_eqb (W.return / 16) (s ! (p + 5) / 16) (λ z. n (ap (λ i. i / 16) gives ∙ z ∙ ap (λ i. i / 16) (sym asked)))))

      module _ (q : g / 16 ≡ h / 16) {v : Bool} (w : v ≡ within (g % 16) (h % 16)) where
        owned : eqb (ownership_of W.return) (ownership_of (s ! (p + 5))) ≡ true
        unfolding ownership_of
        owned = eq-eqb (W.return / 16) (s ! (p + 5) / 16) (ap (λ i. i / 16) (sym gives) ∙ q ∙ ap (λ i. i / 16) asked)

        inner : v ≡ within (kind_of W.return) (kind_of (s ! (p + 5)))
        unfolding kind_of
        inner = w ∙ rw (gives, asked) refl

        pub other-kind : v ≡ false → false ≡ admits_at s t own p W
        unfolding admits_at admits
        other-kind z = sym (and-on _ low ∙ and-on _ (sym e ∙ f) ∙ and-on _ owned ∙ and-off _ (sym inner ∙ z))

        pub by-mark : {m n : ℕ} → v ≡ true → m ≡ mark_of W → n ≡ s ! (p + 4) → leb m n ≡ admits_at s t own p W
        unfolding admits_at admits
        by-mark z mm nn = rw (mm, nn) (sym (and-on _ low ∙ and-on _ (sym e ∙ f) ∙ and-on _ owned ∙ and-on _ (sym inner ∙ z)))
