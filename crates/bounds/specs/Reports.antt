-- 02, 12, how long at most: what is promised of the report. The statements alone.
use Rattle.std.specs.Prelude.{◌≡◌, ◌≢◌, ◌⊎◌, true, ℕ, ◌≤◌, ◌<◌, length, take, eqb, Ok}
use mathlib.Core.List.{List, [], ◌∷◌, ◌++◌, Memᴰ}
use Rattle.std.proofs.Math.Option.{some}
use Rattle.std.proofs.Math.ListN.{get_elem?}
use Rattle.layout.specs.Bounds.{ALL-VERSIONS}
use Rattle.layout.specs.Tests.{◌and◌, count}
use Rattle.program.specs.Program.{Version, Program, find_version}
use Rattle.checker.specs.Verdicts.{verdict_of}
use Rattle.machine.specs.Begin.{program_of}
use Rattle.machine.specs.Calls.{present}
use Rattle.bounds.specs.Bounds.{Row, is_free, by_number, bounded, unbounded, bound_of, Entry, report}

-- For each version of an accepted image report a bound, or none: each stands exactly once in the report, and nothing else does
unfoldable pub Once : Type 0
Once = (image : List ℕ) (k : ℕ) → verdict_of image ≡ Ok k → (f w : ℕ) → count (λ (e : Entry). eqb e.function f and eqb e.version w) (report (program_of image))
    ≡ present (find_version (program_of image) f w)

-- each entry is that of a version, and has its bound
unfoldable pub Tells : Type 0
Tells = (P : Program) (e : Entry) → Memᴰ e (report P) → (W : Version) × (find_version P e.function e.version ≡ some W) × (e.bound ≡ bound_of P W)

-- at most 64
unfoldable pub FewRows : Type 0
FewRows = (image : List ℕ) (k : ℕ) → verdict_of image ≡ Ok k → length (report (program_of image)) ≤ ALL-VERSIONS

-- the numbers f.w come before g.x: lowest function, then lowest version
abbrev pub Before : ℕ → ℕ → ℕ → ℕ → Type 0
Before f w g x = (f < g) ⊎ ((f ≡ g) × (w < x))

-- lowest function, then lowest version, first among those free: behind the rows before it, each row's version is free, and none that is free comes before it
unfoldable pub LowestFirst : Type 0
LowestFirst =
    (P : Program) (i : ℕ) (r : Row) → get_elem? (bounded P) i ≡ some r
    → (is_free P (take i (bounded P)) r.version ≡ true)
    × ((u : Version) → Memᴰ u (by_number P) → is_free P (take i (bounded P)) u ≡ true → Before u.function u.version r.version.function r.version.version → ⊥)

-- each comes before those behind it
unfoldable pub Ascending : List Entry → Type 0
Ascending [] = Unit {0}
Ascending (e ∷ es) = ((x : Entry) → Memᴰ x es → Before e.function e.version x.function x.version) × Ascending es

-- those with none come last in order of number
pub record NoneLast (P : Program) : Type 0 where
  pub front : List Entry
  pub last : List Entry
  pub whole : report P ≡ front ++ last
  pub some-bound : (e : Entry) → Memᴰ e front → e.bound ≢ unbounded
  pub none-bound : (e : Entry) → Memᴰ e last → e.bound ≡ unbounded
  pub ordered : Ascending last
