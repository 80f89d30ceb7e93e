-- The count of a search in an accepted image: the picked version's number plus 1, or all of the function.
use Rattle.std.specs.Prelude.{Ok}
use mathlib.Core.Path.{◌≡◌, refl, sym, ap, ◌∙◌}
use mathlib.Core.List.{List}
use mathlib.Core.Option.{Option, none, some}
use mathlib.Core.Bool.{Bool, true, false, false≢true}
use Prim.Native.Nat.{ℕ, zero, suc, ◌+◌, ◌-◌, ◌<◌, ◌≤◌}
use native.Mathlib.Omega.{arith}
use lib.Dec.{ltb}
use borrow.Author.Tests.{ltb-true}
use Rattle.layout.specs.Bounds.{FUNCTIONS, LEVELS, VERSIONS}
use Rattle.layout.specs.Tests.{◌and◌, found}
use Rattle.layout.proofs.Bools.{and_both, found_some, found_none}
use Rattle.program.specs.Program.{Argument, Program, Version, find_version}
use Rattle.program.proofs.Held.{find-numbers}
use Rattle.program.proofs.Laid.{version_bounded}
use Rattle.checker.specs.Verdicts.{verdict_of}
use Rattle.checker.proofs.Accepted.{checked}
use Rattle.machine.specs.Begin.{program_of}
use Rattle.machine.specs.Calls.{dispatches, looked, lowest, picked, present, searched, versions_of}
use Rattle.machine.specs.Try.{Try, got, stuck, stop, or_stuck}
use Rattle.machine.specs.declared.End.{End}
use Rattle.runs.specs.Searches.{CountIs, SearchCounts, of_function}
use Rattle.runs.proofs.Numbers.{Among, numbered, there, before, behind}

-- the version after the last would have a number that question 4 refuses
few : (s : List ℕ) (k : ℕ) → verdict_of s ≡ Ok k → (f : ℕ) → of_function (program_of s) f ≤ VERSIONS
unfolding version_bounded
few s k e f = go (find_version (program_of s) f VERSIONS) refl (numbered s k e f VERSIONS)
  where
    go : (o : Option Version) → find_version (program_of s) f VERSIONS ≡ o → Among o 0 (of_function (program_of s) f) VERSIONS → of_function (program_of s) f ≤ VERSIONS
    go none h (there W g a b) = let z : ◌≡◌ {A = ℕ} 0 1 = cc in absurd (omega arith)
    go none h (before g a) = absurd (omega arith)
    go none h (behind g a) = omega arith
    go (some W) h m =
        let b = (and_both (ltb W.version VERSIONS) _ (and_both (ltb W.function FUNCTIONS) _ (and_both (ltb W.level LEVELS) _ (checked s k e f VERSIONS W h).bound.of_version).1).1).0 in
        let l = ltb-true W.version VERSIONS b in
        let n = (find-numbers (program_of s) f VERSIONS W h).1 in
        absurd (omega arith)

module _ (P : Program) (f c : ℕ) (p : Version → Bool) (all : (x : ℕ) → Among (find_version P f x) 0 c x) where
  -- from the version w on, n left: what is picked says how many are looked at
  unfoldable Looks : ℕ → Try Version → ℕ → Type 0
  Looks w (got W) n = (w ≤ W.version) × (W.version < c) × (n ≡ W.version + 1 - w)
  Looks w stuck n = ⊥
  Looks w (stop e) n = n ≡ c - w

  -- one version less to look at, which is not there, or does not pass
  looks-none : (w k : ℕ) (t : Try Version) → c ≤ w → Looks (suc w) t k → Looks w t (0 + k)
  unfolding Looks
  looks-none w k (got W) l (a, b, e) = absurd (omega arith)
  looks-none w k stuck l h = h
  looks-none w k (stop x) l e = omega arith

  looks-more : (w k : ℕ) (t : Try Version) → w < c → Looks (suc w) t k → Looks w t (1 + k)
  unfolding Looks
  looks-more w k (got W) l (a, b, e) = (omega arith, b, omega arith)
  looks-more w k stuck l h = h
  looks-more w k (stop x) l e = omega arith

  looks : (n w : ℕ) → c ≤ w + n → Looks w (lowest P f p n w) (looked P f p n w)
  unfolding lowest looked Looks found present or_stuck
  looks zero w l = omega arith
  looks (suc n) w l = go (find_version P f w) refl (all w) (looks n (suc w) (omega arith))
    where
      go : (o : Option Version) → find_version P f w ≡ o → Among o 0 c w → Looks (suc w) (lowest P f p n (suc w)) (looked P f p n (suc w))
          → Looks w (elim (found o p) [ true ↦ or_stuck o | false ↦ lowest P f p n (suc w) ]) (elim (found o p) [ true ↦ 1 | false ↦ present o + looked P f p n (suc w) ])
      go none e (there W g a b) ih = let z : ◌≡◌ {A = ℕ} 0 1 = cc in absurd (omega arith)
      go none e (before g a) ih = absurd (omega arith)
      go none e (behind g a) ih = looks-none w (looked P f p n (suc w)) (lowest P f p n (suc w)) (omega arith) ih
      go (some W) e (there X g a b) ih = at (p W)
        where
          at : (b : Bool) → Looks w (elim b [ true ↦ got W | false ↦ lowest P f p n (suc w) ]) (elim b [ true ↦ 1 | false ↦ 1 + looked P f p n (suc w) ])
          at true = let v = (find-numbers P f w W e).1 in (omega arith, omega arith, omega arith)
          at false = looks-more w (looked P f p n (suc w)) (lowest P f p n (suc w)) (omega arith) ih
      go (some W) e (before g a) ih = absurd (omega arith)
      go (some W) e (behind g a) ih = let z : ◌≡◌ {A = ℕ} 0 1 = cc in absurd (omega arith)

  counts : (t : Try Version) (n : ℕ) → Looks 0 t n → c ≡ of_function P f → CountIs P f t n
  unfolding Looks CountIs
  counts (got W) n (a, b, e) h = omega arith
  counts stuck n h q = h
  counts (stop x) n e h = omega arith

-- where nothing passes, none is picked
none_passes : (P : Program) (f n w : ℕ) → lowest P f (λ W. false) n w ≡ stop End.Undef
unfolding lowest found
none_passes P f zero w = refl
none_passes P f (suc n) w = go (find_version P f w) (none_passes P f n (suc w))
  where
    go : (o : Option Version) → lowest P f (λ W. false) n (suc w) ≡ stop End.Undef
        → ◌≡◌ {A = Try Version} (elim (found o (λ W. false)) [ true ↦ or_stuck o | false ↦ lowest P f (λ W. false) n (suc w) ]) (stop End.Undef)
    go none e = e
    go (some W) e = e

pub search-counts : SearchCounts
unfolding SearchCounts picked searched versions_of CountIs
search-counts s k e level f mark ret pairs ks =
    let P = program_of s in
    let c = of_function P f in
    let l = few s k e f in
    let q = dispatches level mark ret pairs ks in
    let x = looks P f c (λ W. false) (numbered s k e f) VERSIONS 0 (omega arith) in
    (counts P f c q (numbered s k e f) _ _ (looks P f c q (numbered s k e f) VERSIONS 0 (omega arith)) refl, counts P f c (λ W. false) (numbered s k e f) (stop End.Undef) _ (rw (none_passes P f VERSIONS 0) at x) refl)
