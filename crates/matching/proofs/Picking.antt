-- Matching place by place, and the search along the versions of a function.
use Rattle.std.specs.Prelude.{None, Some, Option, Ok, Err, Result}
use mathlib.Core.Path.{◌≡◌, refl, sym, ap, ◌∙◌, subst}
use Rattle.loaded.specs.Answers.{Number}
use mathlib.Core.List.{List, [], ◌∷◌}
use mathlib.Core.Bool.{Bool, true, false, false≢true, cond, ◌&&◌}
use Prim.Native.Nat.{ℕ, zero, suc, ◌+◌, ◌-◌, ◌*◌, ◌/◌, ◌%◌, ◌≤◌, ◌<◌, min}
use native.Mathlib.Omega.{arith}
use lib.ListN.{length, length-take, take}
use lib.Seq.{get_or-take}
use lib.Dec.{eqb, ltb}
use borrow.Author.Tests.{eq-eqb, eqb-true, eqb-false, lt-ltb, ne_eqb}
use Rattle.layout.proofs.Bools.{and-on, and-off, found_some, found_none}
use Rattle.layout.specs.Kinds as kind
use Rattle.layout.specs.Records.{◌!◌}
use Rattle.layout.specs.Tests.{◌and◌, found}
use Rattle.program.specs.Program.{Program, Version, find_version, parameter_types}
use Rattle.rules.specs.Types.{is_owned, kind_of, ownership_of, within}
use Rattle.machine.specs.Calls.{lowest, matching, picked}
use Rattle.machine.specs.Try.{Try, got, stuck, stop, ◌>>=◌, ◌>>◌, or_stuck, stuck_unless}
use Rattle.machine.specs.declared.End.{End}
use Rattle.listing.specs.Entering.{is_bit}
use Rattle.loaded.proofs.Dispatching.{in_two}
use Rattle.loaded.specs.Answers.{version_of}
use Rattle.loaded.specs.Dispatching.{admits_at}
use Rattle.loaded.specs.Loaded.{program_in, version_in}
use Rattle.matching.specs.Arguments.{FitsIf, Masks, Matches, Passes, bit_of, dispatches_at, picked_at}
use Rattle.matching.specs.Choosing.{choice, Decides, called_at, decided_at}
use Rattle.integers.specs.declared.Fault.{Fault}
use Rattle.matching.specs.declared.Choice.{Choice}
use Rattle.matching.proofs.Kinding.{version_low, version-none, version-some}

-- ---- kinds against types

match-all : (ks ts : List ℕ) → length ks ≡ length ts → ((i : ℕ) → i < length ks → within (ks ! i) (kind_of (ts ! i)) ≡ true) → matching ks ts ≡ true
unfolding matching ◌and◌
match-all [] [] e h = refl
match-all [] (t ∷ ts) e h = absurd (omega arith)
match-all (k ∷ ks) [] e h = absurd (omega arith)
match-all (k ∷ ks) (t ∷ ts) e h = rw (h 0 (omega arith)) (match-all ks ts (omega arith) (λ i l. h (suc i) (omega arith)))

and_none : (b : Bool) → (b and false) ≡ false
unfolding ◌and◌
and_none true = refl
and_none false = refl

match-not : (ks ts : List ℕ) (i : ℕ) → i < length ks → within (ks ! i) (kind_of (ts ! i)) ≡ false → matching ks ts ≡ false
unfolding matching ◌and◌
match-not [] ts i l h = absurd (omega arith)
match-not (k ∷ ks) [] i l h = refl
match-not (k ∷ ks) (t ∷ ts) zero l h = rw h refl
match-not (k ∷ ks) (t ∷ ts) (suc i) l h = rw (match-not ks ts i (omega arith) h) (and_none (within k (kind_of t)))

match-uneven : (ks ts : List ℕ) → (length ks ≡ length ts → ⊥) → matching ks ts ≡ false
unfolding matching
match-uneven [] [] h = absurd (h refl)
match-uneven [] (t ∷ ts) h = refl
match-uneven (k ∷ ks) [] h = refl
match-uneven (k ∷ ks) (t ∷ ts) h = rw (match-uneven ks ts (λ e. h (ap suc e))) (and_none (within k (kind_of t)))

-- ---- the first of a list

pub first_of : (n : ℕ) (ks : List ℕ) → n ≤ length ks → length (take n ks) ≡ n
first_of n ks h = let e = length-take n ks in omega arith

-- a list of n is told to be the first n
pub first-long : (n : ℕ) (ks ls : List ℕ) → take n ks ≡ ls → length ls ≡ n → n ≤ length ks
first-long n ks ls e h = let l = length-take n ks in let q : length (take n ks) ≡ length ls = ap length e in omega arith

-- ---- masks

-- 2 × .. × 2
unfoldable pub pow2 : ℕ → ℕ
pow2 zero = 1
pow2 (suc j) = 2 * pow2 j

-- at most 8 places
pow2-most : (j : ℕ) → j ≤ 8 → pow2 j ≤ 256
unfolding pow2
pow2-most zero h = omega arith
pow2-most (suc zero) h = omega arith
pow2-most (suc (suc zero)) h = omega arith
pow2-most (suc (suc (suc zero))) h = omega arith
pow2-most (suc (suc (suc (suc zero)))) h = omega arith
pow2-most (suc (suc (suc (suc (suc zero))))) h = omega arith
pow2-most (suc (suc (suc (suc (suc (suc zero)))))) h = omega arith
pow2-most (suc (suc (suc (suc (suc (suc (suc zero))))))) h = omega arith
pow2-most (suc (suc (suc (suc (suc (suc (suc (suc zero)))))))) h = omega arith
pow2-most (suc (suc (suc (suc (suc (suc (suc (suc (suc j))))))))) h = absurd (omega arith)

pub bit-set : (t : ℕ) → t / 16 ≡ 1 → 1 ≡ bit_of t
unfolding bit_of is_owned ownership_of
bit-set t e = rw (eq-eqb (t / 16) 1 e) refl

pub bit-clear : (t : ℕ) → (t / 16 ≡ 1 → ⊥) → 0 ≡ bit_of t
unfolding bit_of is_owned ownership_of
bit-clear t e = rw (ne_eqb (t / 16) 1 e) refl

bit-low : (t : ℕ) → bit_of t ≤ 1
unfolding bit_of
bit-low t = go (is_owned t)
  where
    go : (b : Bool) → cond b 1 0 ≤ 1
    go true = omega arith
    go false = omega arith

bit_is : (t : ℕ) → eqb (bit_of t) 1 ≡ is_owned t
unfolding bit_of
bit_is t = go (is_owned t)
  where
    go : (b : Bool) → eqb (cond b 1 0) 1 ≡ b
    go true = refl
    go false = refl

first_bit : (m t : ℕ) → is_bit (2 * m + bit_of t) 0 ≡ is_owned t
unfolding is_bit
first_bit m t = let l = bit-low t in let e : (2 * m + bit_of t) % 2 ≡ bit_of t = omega arith in rw e (bit_is t)

next_bit : (m t j : ℕ) → is_bit (2 * m + bit_of t) (suc j) ≡ is_bit m j
unfolding is_bit
next_bit m t j = let l = bit-low t in let e : (2 * m + bit_of t) / 2 ≡ m = omega arith in rw e refl

-- ---- by the version's record

rest-fits : {x t k u : ℕ} {y : Bool} → x ≡ k → t ≡ u → y ≡ within x (t % 16) → y ≡ true → within k (kind_of u) ≡ true
unfolding kind_of
rest-fits a b g e = rw (← a, ← b) (sym g ∙ e)

rest-clashes : {x t k u : ℕ} {y : Bool} → x ≡ k → t ≡ u → y ≡ within x (t % 16) → y ≡ false → within k (kind_of u) ≡ false
unfolding kind_of
rest-clashes a b g e = rw (← a, ← b) (sym g ∙ e)

-- the arguments from i on of n fit the registers of W, and the mask tells of them
pub record Fitting (W : Version) (ks : List ℕ) (n i m : ℕ) : Type 0 where
  pub few : i ≤ n
  pub low : m < pow2 (n - i)
  pub fit : (j : ℕ) → i ≤ j → j < n → within (ks ! j) (kind_of (W.types ! j)) ≡ true
  pub bits : (j : ℕ) → i + j < n → is_bit m j ≡ is_owned (W.types ! (i + j))

module _ (W : Version) (ks : List ℕ) (n : ℕ) where
  pub fit-begun : Fitting W ks n n 0
  unfolding pow2
  fit-begun = record { few = omega arith; low = let z : n - n ≡ 0 = omega arith in rw z (omega arith); fit = λ j a b. absurd (omega arith); bits = λ j a. absurd (omega arith) }

  module _ (e m : ℕ) (G : Fitting W ks n e m) (above : 0 < e) where
    abbrev i : ℕ
    i = e - 1

    F : Fitting W ks n (i + 1) m
    F = subst (λ (v : ℕ). Fitting W ks n v m) (omega arith) G

    -- there is room for one more bit
    pub fit-room : n ≤ 8 → 2 * m + 1 < 256
    unfolding pow2
    fit-room h = let f = F.few in let l = F.low in let q = pow2-most (suc (n - (i + 1))) (omega arith) in omega arith

    pub fit-bit : (x t : ℕ) → n ≤ 8 → x ≡ bit_of t → 2 * m + x < 256
    fit-bit x t h z = let r = fit-room h in let l = bit-low t in omega arith

    pub fit_on : {x t b : ℕ} {y : Bool} → x ≡ ks ! i → t ≡ W.types ! i → y ≡ within x (t % 16) → y ≡ true → b ≡ bit_of t → Fitting W ks n i (2 * m + b)
    unfolding pow2
    fit_on {x} {t} {b} k f g o bit =
        let a = F.few in
        let l = F.low in
        let c = bit-low t in
        let z : n - i ≡ suc (n - (i + 1)) = omega arith in
        record { few = omega arith; low = rw z (omega arith); fit = λ j u v. here j u v (eqb j i) refl; bits = bits }
      where
        here : (j : ℕ) → i ≤ j → j < n → (c : Bool) → eqb j i ≡ c → within (ks ! j) (kind_of (W.types ! j)) ≡ true
        here j u v true q = rw (eqb-true j i q) (rest-fits k f g o)
        here j u v false q = let z : j ≡ i → ⊥ = eqb-false j i q in F.fit j (omega arith) v

        bits : (j : ℕ) → i + j < n → is_bit (2 * m + b) j ≡ is_owned (W.types ! (i + j))
        bits zero u = let z : i + 0 ≡ i = omega arith in rw (bit, z, ← f) (first_bit m t)
        bits (suc j) u = let z : i + suc j ≡ i + 1 + j = omega arith in rw (bit, z) (next_bit m t j ∙ F.bits j (omega arith))

  module _ {most : ℕ} (is : most ≡ min W.parameters (length W.types)) where
    types_long : length (parameter_types W) ≡ most
    types_long = length-take W.parameters W.types ∙ sym is

    type_at : (i : ℕ) → i < most → parameter_types W ! i ≡ W.types ! i
    type_at i l = get_or-take W.parameters W.types i 0 (omega (arith, l, is))

    module _ (h : n ≤ length ks) where
      -- as many kinds as parameters, or not
      pub fit-uneven : (n ≡ most → ⊥) → Matches None (take n ks) W
      unfolding FitsIf
      fit-uneven z = match-uneven (take n ks) (parameter_types W) (λ e. z (sym (first_of n ks h) ∙ e ∙ types_long))

      module _ (same : n ≡ most) where
        pub fit-not : (i : ℕ) {x t : ℕ} {y : Bool} → i < n → x ≡ ks ! i → t ≡ W.types ! i → y ≡ within x (t % 16) → y ≡ false → Matches None (take n ks) W
        unfolding FitsIf
        fit-not i l k f g e = let q = first_of n ks h in match-not (take n ks) (parameter_types W) i (omega arith) (rw (type_at i (omega arith), get_or-take n ks i 0 l) (rest-clashes k f g e))

        pub fit-done : (i m : ℕ) → Fitting W ks n i m → i ≡ 0 → Matches (Some m) (take n ks) W
        unfolding FitsIf
        fit-done i m F z =
            let q = first_of n ks h in
            let u = types_long in (
              match-all (take n ks) (parameter_types W) (q ∙ same ∙ sym u)
                  (λ j l. rw (type_at j (omega arith), get_or-take n ks j 0 (omega arith)) (F.fit j (omega arith) (omega arith))),
              λ j l. bits j (omega arith),
            )
          where
            bits : (j : ℕ) → j < n → is_bit m j ≡ (ltb j (length (parameter_types W)) && is_owned (parameter_types W ! j))
            bits j l =
                let u = types_long in
                let y : i + j ≡ j = omega arith in
                let a = F.bits j (omega arith) in
                rw (lt-ltb j (length (parameter_types W)) (omega arith), type_at j (omega arith)) (a ∙ ap (λ (v : ℕ). is_owned (W.types ! v)) y)

-- ---- a version passes

fits-same : (r : Option ℕ) {x y : Bool} (ts : List ℕ) (n : ℕ) → x ≡ y → FitsIf r x ts n → FitsIf r y ts n
fits-same r ts n e F = subst (λ (z : Bool). FitsIf r z ts n) e F

module _ (s t : List ℕ) (own p : ℕ) (ks : List ℕ) (W : Version) where
  pub passes-not : {a : Bool} → a ≡ admits_at s t own p W → a ≡ false → Passes None s t own p ks W
  unfolding dispatches_at admits_at FitsIf
  passes-not e f = in_two _ _ _ _ ks W ∙ and-off _ (sym e ∙ f)

  pub passes-by : {a : Bool} (r : Option ℕ) → a ≡ admits_at s t own p W → a ≡ true → Matches r ks W → Passes r s t own p ks W
  unfolding dispatches_at admits_at
  passes-by r e f M = fits-same r _ _ (sym (in_two _ _ _ _ ks W ∙ and-on _ (sym e ∙ f))) M

-- ---- the search

module _ (P : Program) (f : ℕ) (p : Version → Bool) (n w : ℕ) where
  lowest-past : found (find_version P f w) p ≡ false → lowest P f p (suc n) w ≡ lowest P f p n (suc w)
  unfolding lowest
  lowest-past e = go (found (find_version P f w) p) e
    where
      go : (b : Bool) → b ≡ false → ◌≡◌ {A = Try Version} (elim b [ true ↦ or_stuck (find_version P f w) | false ↦ lowest P f p n (suc w) ]) (lowest P f p n (suc w))
      go true e = absurd (false≢true (sym e))
      go false e = refl

  lowest-here : found (find_version P f w) p ≡ true → lowest P f p (suc n) w ≡ or_stuck (find_version P f w)
  unfolding lowest
  lowest-here e = go (found (find_version P f w) p) e
    where
      go : (b : Bool) → b ≡ true → ◌≡◌ {A = Try Version} (elim b [ true ↦ or_stuck (find_version P f w) | false ↦ lowest P f p n (suc w) ]) (or_stuck (find_version P f w))
      go true e = refl
      go false e = absurd (false≢true e)

module _ (s t : List ℕ) (own p : ℕ) (ks : List ℕ) where
  -- what is left of the search from the version w on
  pub record Left (w : ℕ) : Type 0 where
    pub most : w ≤ 4
    pub rest : picked_at s t own p ks ≡ lowest (program_in s t) (s ! (p + 3)) (dispatches_at s t own p ks) (4 - w) w

  pub left-all : Left 0
  unfolding picked dispatches_at
  left-all = record { most = omega arith; rest = refl }

  pub left-none : (n w : ℕ) → Left w → 4 ≤ w → Decides (Err Fault.Undef) s t n (picked_at s t own p ks)
  unfolding Decides lowest
  left-none n w L h = let z : 4 - w ≡ 0 = omega arith in L.rest ∙ ap (λ n. lowest (program_in s t) (s ! (p + 3)) (dispatches_at s t own p ks) n w) z

  module _ (w : ℕ) (L : Left w) (h : w < 4) where
    turn : picked_at s t own p ks ≡ lowest (program_in s t) (s ! (p + 3)) (dispatches_at s t own p ks) (suc (4 - (w + 1))) w
    turn = let z : 4 - w ≡ suc (4 - (w + 1)) = omega arith in L.rest ∙ ap (λ n. lowest (program_in s t) (s ! (p + 3)) (dispatches_at s t own p ks) n w) z

    past : found (find_version (program_in s t) (s ! (p + 3)) w) (dispatches_at s t own p ks) ≡ false → Left (w + 1)
    past e = let z : suc w ≡ w + 1 = omega arith in
        record {
          most = omega arith;
          rest = turn ∙ lowest-past (program_in s t) (s ! (p + 3)) (dispatches_at s t own p ks) (4 - (w + 1)) w e ∙ ap
              (lowest (program_in s t) (s ! (p + 3)) (dispatches_at s t own p ks) (4 - (w + 1))) z;
        }

    module _ {f : ℕ} (of : f ≡ s ! (p + 3)) (r : Number) (found-by : version_of s t r ≡ find_version (program_in s t) f w) where
      looked-up : version_of s t r ≡ find_version (program_in s t) (s ! (p + 3)) w
      looked-up = found-by ∙ ap (λ (g : ℕ). find_version (program_in s t) g w) of

      pub left-missing : r ≡ None → Left (w + 1)
      left-missing e = past (found_none (dispatches_at s t own p ks) (version-none s t looked-up e))

      module _ {j : ℕ} (e : r ≡ Some j) (x : Option ℕ) (D : Passes x s t own p ks (version_in s t j)) where
        pub left-past : x ≡ None → Left (w + 1)
        unfolding FitsIf
        left-past q = let M = rw q at D in past (found_some (dispatches_at s t own p ks) (version-some s t looked-up e) ∙ M)

        pub left_here : (n m : ℕ) → length ks ≡ n → x ≡ Some m → Decides (Ok (choice j m)) s t n (picked_at s t own p ks)
        unfolding FitsIf Decides or_stuck
        left_here n m long q =
            let M = rw q at D in (
              turn ∙ lowest-here (program_in s t) (s ! (p + 3)) (dispatches_at s t own p ks) (4 - (w + 1)) w (found_some (dispatches_at s t own p ks) (version-some s t looked-up e) ∙ M.0)
                  ∙ rw (version-some s t looked-up e) refl,
              version_low s t _ _ found-by e,
              λ i l. M.1 i (omega arith),
            )

-- ---- the version that a CALL names

module _ (s t : List ℕ) (p n : ℕ) (ks : List ℕ) {f w : ℕ} (of : f ≡ s ! (p + 3)) (to : w ≡ s ! (p + 4)) (r : Number) (found-by : version_of s t r ≡ find_version (program_in s t) f w) where
  named : version_of s t r ≡ find_version (program_in s t) (s ! (p + 3)) (s ! (p + 4))
  named = found-by ∙ rw (of, to) refl

  pub called-missing : r ≡ None → Decides (Err Fault.Stuck) s t n (called_at s t p ks)
  unfolding Decides called_at ◌>>=◌ or_stuck
  called-missing e = rw (version-none s t named e) refl

  module _ {j : ℕ} (e : r ≡ Some j) (x : Option ℕ) (M : Matches x ks (version_in s t j)) where
    pub called-clashes : x ≡ None → Decides (Err Fault.Stuck) s t n (called_at s t p ks)
    unfolding Decides called_at ◌>>=◌ ◌>>◌ or_stuck stuck_unless FitsIf
    called-clashes q = let N = rw q at M in rw (version-some s t named e, N) refl

    pub called-fits : (m : ℕ) → length ks ≡ n → x ≡ Some m → Decides (Ok (choice j m)) s t n (called_at s t p ks)
    unfolding Decides called_at ◌>>=◌ ◌>>◌ or_stuck stuck_unless FitsIf
    called-fits m long q = let N = rw q at M in (rw (version-some s t named e, N.0) refl, version_low s t _ _ found-by e, λ i l. N.1 i (omega arith))

-- ---- by the kind of the instruction

module _ (s t : List ℕ) (own p m n : ℕ) {ks ls : List ℕ} (same : ks ≡ ls) (r : Result Choice Fault) where
  pub decided-call : m ≡ kind.CALL → Decides r s t n (called_at s t p ks) → Decides r s t n (decided_at s t own p m ls)
  unfolding decided_at
  decided-call e D = rw (eq-eqb m kind.CALL e) (subst (λ (l : List ℕ). Decides r s t n (called_at s t p l)) same D)

  pub decided-dispatch : (m ≡ kind.CALL → ⊥) → Decides r s t n (picked_at s t own p ks) → Decides r s t n (decided_at s t own p m ls)
  unfolding decided_at
  decided-dispatch e D = rw (ne_eqb m kind.CALL e) (subst (λ (l : List ℕ). Decides r s t n (picked_at s t own p l)) same D)
