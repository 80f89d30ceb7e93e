-- 02, request 4: how many versions a search looks at.
use Rattle.std.specs.Prelude.{None, Some, Option}
use Rattle.std.specs.Option.{is_some}
use mathlib.Core.Path.{◌≡◌, refl, sym, ap, ◌∙◌}
use Rattle.loaded.specs.Answers.{Number}
use mathlib.Core.List.{List}
use mathlib.Core.Bool.{Bool, true, false, false≢true}
use Prim.Native.Nat.{ℕ, suc, ◌+◌, ◌-◌, ◌≤◌, ◌<◌}
use native.Mathlib.Omega.{arith}
use Rattle.layout.proofs.Bools.{found_some, found_none}
use Rattle.layout.specs.Tests.{found}
use Rattle.program.specs.Program.{Program, Version, find_version}
use Rattle.machine.specs.Calls.{looked, present, searched, versions_of}
use Rattle.loaded.specs.Answers.{version_of}
use Rattle.loaded.specs.Loaded.{program_in, version_in}
use Rattle.layout.specs.Records.{◌!◌}
use Rattle.matching.specs.Arguments.{FitsIf, Passes, dispatches_at, searched_at}
use Rattle.matching.proofs.Kinding.{version-none, version-some}

module _ (P : Program) (f : ℕ) (p : Version → Bool) (n w : ℕ) where
  looked-past : found (find_version P f w) p ≡ false → looked P f p (suc n) w ≡ present (find_version P f w) + looked P f p n (suc w)
  unfolding looked
  looked-past e = go (found (find_version P f w) p) e
    where
      go : (b : Bool) → b ≡ false → ◌≡◌ {A = ℕ} (elim b [ true ↦ 1 | false ↦ present (find_version P f w) + looked P f p n (suc w) ]) (present (find_version P f w) + looked P f p n (suc w))
      go true e = absurd (false≢true (sym e))
      go false e = refl

  looked-here : found (find_version P f w) p ≡ true → looked P f p (suc n) w ≡ 1
  unfolding looked
  looked-here e = go (found (find_version P f w) p) e
    where
      go : (b : Bool) → b ≡ true → ◌≡◌ {A = ℕ} (elim b [ true ↦ 1 | false ↦ present (find_version P f w) + looked P f p n (suc w) ]) 1
      go true e = refl
      go false e = absurd (false≢true e)

-- what is left of the count from the version w on, after c were looked at
pub record Counting (P : Program) (f : ℕ) (p : Version → Bool) (w c : ℕ) : Type 0 where
  pub most : w ≤ 4
  pub few : c ≤ w
  pub rest : looked P f p 4 0 ≡ c + looked P f p (4 - w) w

module _ (s t : List ℕ) (f : ℕ) (p : Version → Bool) where
  pub count-begun : Counting (program_in s t) f p 0 0
  count-begun = record { most = omega arith; few = omega arith; rest = omega arith }

  module _ (w c : ℕ) (C : Counting (program_in s t) f p w c) where
    pub count-done : 4 ≤ w → c ≡ looked (program_in s t) f p 4 0
    unfolding looked
    count-done h = let z : 4 - w ≡ 0 = omega arith in let e = C.rest ∙ ap (λ n. c + looked (program_in s t) f p n w) z in omega (arith, e)

    module _ (h : w < 4) where
      turn : looked (program_in s t) f p 4 0 ≡ c + looked (program_in s t) f p (suc (4 - (w + 1))) w
      turn = let z : 4 - w ≡ suc (4 - (w + 1)) = omega arith in C.rest ∙ ap (λ n. c + looked (program_in s t) f p n w) z

      past : found (find_version (program_in s t) f w) p ≡ false → (m : ℕ) → present (find_version (program_in s t) f w) ≡ m → m ≤ 1 → Counting (program_in s t) f p (w + 1) (c + m)
      past e m there one =
          let z : suc w ≡ w + 1 = omega arith in
          let x = looked-past (program_in s t) f p (4 - (w + 1)) w e ∙ ap (λ v. present (find_version (program_in s t) f w) + looked (program_in s t) f p (4 - (w + 1)) v) z in
          let y = turn in
          let q = C.few in
          record { most = omega arith; few = omega arith; rest = omega (arith, x, y, there) }

      module _ (r : Number) (found-by : version_of s t r ≡ find_version (program_in s t) f w) where
        pub count-missing : r ≡ None → Counting (program_in s t) f p (w + 1) c
        unfolding present
        count-missing e =
            let g = version-none s t found-by e in
            let z : c + 0 ≡ c = omega arith in
            let x = past (found_none p g) 0 (rw g refl) (omega arith) in
            rw z at x

        pub count-none : is_some r ≡ false → {d : ℕ} → d ≡ c → Counting (program_in s t) f p (w + 1) d
        count-none h q = rw q (go r refl h)
          where
            go : (o : Number) → r ≡ o → is_some o ≡ false → Counting (program_in s t) f p (w + 1) c
            go None e h = count-missing e
            go (Some k) e h = absurd (false≢true (sym h))

        module _ {k : ℕ} (e : r ≡ Some k) where
          pub count_past : p (version_in s t k) ≡ false → Counting (program_in s t) f p (w + 1) (c + 1)
          unfolding present
          count_past q = let g = version-some s t found-by e in past (found_some p g ∙ q) 1 (rw g refl) (omega arith)

          pub count-here : p (version_in s t k) ≡ true → c + 1 ≡ looked (program_in s t) f p 4 0
          count-here q = let g = version-some s t found-by e in sym (turn ∙ ap (λ m. c + m) (looked-here (program_in s t) f p (4 - (w + 1)) w (found_some p g ∙ q)))

  -- each version that is there counts
  pub count-each : (w c : ℕ) → Counting (program_in s t) f p w c → w < 4 → (r : Number) → version_of s t r ≡ find_version (program_in s t) f w
      → ((W : Version) → p W ≡ false) → is_some r ≡ true → {d : ℕ} → d ≡ c + 1 → Counting (program_in s t) f p (w + 1) d
  count-each w c C l (Some k) v never h q = rw q (count_past w c C l (Some k) v refl (never (version_in s t k)))
  count-each w c C l None v never h q = absurd (false≢true h)

-- by the test of a DISPATCH
module _ (s t : List ℕ) (own p j : ℕ) (ks : List ℕ) (x : Option ℕ) (D : Passes x s t own p ks (version_in s t j)) where
  pub passes-here : is_some x ≡ true → dispatches_at s t own p ks (version_in s t j) ≡ true
  unfolding FitsIf
  passes-here h = go x D h
    where
      go : (o : Option ℕ) → Passes o s t own p ks (version_in s t j) → is_some o ≡ true → dispatches_at s t own p ks (version_in s t j) ≡ true
      go (Some m) F h = F.0
      go None F h = absurd (false≢true h)

  pub passes-past : is_some x ≡ false → dispatches_at s t own p ks (version_in s t j) ≡ false
  unfolding FitsIf
  passes-past h = go x D h
    where
      go : (o : Option ℕ) → Passes o s t own p ks (version_in s t j) → is_some o ≡ false → dispatches_at s t own p ks (version_in s t j) ≡ false
      go (Some m) F h = absurd (false≢true (sym h))
      go None F h = F

pub searched-is : (s t : List ℕ) (own p : ℕ) (ks : List ℕ) {f : ℕ} → f ≡ s ! (p + 3) → looked (program_in s t) f (dispatches_at s t own p ks) 4 0 ≡ searched_at s t own p ks
unfolding searched dispatches_at
searched-is s t own p ks e = rw e refl

pub versions-is : (s t : List ℕ) (f : ℕ) → looked (program_in s t) f (λ W. false) 4 0 ≡ versions_of (program_in s t) f
unfolding versions_of
versions-is s t f = refl
