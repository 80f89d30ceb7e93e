-- What the code has in hand: of each version a number, and how far its steps are counted.
use Rattle.std.specs.Prelude.{◌≡◌, List, [], ◌∷◌, ◌++◌, Bool, true, cond, not, ℕ, zero, suc, ◌+◌, ◌-◌, ◌*◌, ◌/◌, ◌%◌, ◌≤◌, ◌<◌, length, eqb, ltb, None, Some}
use Rattle.layout.specs.Found.{Found}
use Rattle.layout.specs.Bounds.{FUNCTIONS, VERSIONS}
use Rattle.layout.specs.Records.{◌!◌}
use Rattle.layout.specs.Tests.{◌and◌, all}
use Rattle.program.specs.Places.{table_of, version_at, view_at}
use Rattle.program.specs.Program.{Instr, Line, Version, Program, View}
use Rattle.machine.specs.Begin.{program_of}
use Rattle.bounds.specs.Bounds.{reached_by, reached_in, dependencies, greater, steps_at, steps_in, steps_of, Row}
use Rattle.bounds.specs.Sums.{LIMIT, cap}
use Rattle.bounds.specs.declared.Count.{Count}

-- ---- a number for each version: 0 where it is not listed, else one more than its bound, which stops at LIMIT

-- that of the version w of the function f
unfoldable pub kept_at : List ℕ → ℕ → ℕ → ℕ
kept_at known f w = cond (ltb f FUNCTIONS and ltb w VERSIONS) (known ! (VERSIONS * f + w)) 0

-- that of a version
abbrev pub kept : List ℕ → Version → ℕ
kept known v = kept_at known v.function v.version

-- the version is listed
abbrev pub has : (Version → ℕ) → Version → Bool
has g v = not (eqb (g v) 0)

-- its bound
abbrev pub below : (Version → ℕ) → Version → ℕ
below g v = g v - 1

-- the greatest number of these and n, 0 where one is not listed
unfoldable pub most : (Version → ℕ) → ℕ → List Version → ℕ
most g n [] = n
most g n (v ∷ vs) = cond (eqb (g v) 0) 0 (most g (greater n (g v)) vs)

-- h has what g has
abbrev pub Keeps : (Version → ℕ) → (Version → ℕ) → Type 0
Keeps g h = (v : Version) → (g v ≡ 0 → ⊥) → h v ≡ g v

-- ---- how far the steps of a version are counted

-- these instructions, without their block end
unfoldable pub lines_in : (Instr → ℕ) → List Line → ℕ
lines_in price [] = 0
lines_in price (l ∷ ls) = price l.does + lines_in price ls

-- the steps that lie ahead in a version; the end of a block that has begun is counted
unfoldable pub steps_ahead : (Instr → ℕ) → View → ℕ
steps_ahead price w = lines_in price w.code + steps_in price w.blocks

-- the versions that it may enter there
unfoldable pub reached_ahead : Program → Version → View → List Version
reached_ahead P v w = reached_by P v w.code ++ reached_in P v w.blocks

-- by the numbers h: n steps of v are counted, all that is entered there is listed, and w lies ahead
pub record Left (P : Program) (v : Version) (h : Version → ℕ) (w : View) (n : ℕ) : Type 0 where
  pub needs : all (has h) (dependencies P v) ≡ all (has h) (reached_ahead P v w)
  pub steps : cap (steps_of P (below h) v) ≡ cap (n + steps_ahead (steps_at P (below h) v) w)

-- the count of the version at v stands at the offset p with n steps, also once more versions are listed
pub record Counted (s known : List ℕ) (v p n : ℕ) : Type 0 where
  pub room : n ≤ LIMIT
  pub left : (h : Version → ℕ) → Keeps (kept known) h → Left (program_of s) (version_at s v) h (view_at s p) n

-- nothing lies ahead
pub record Over (s : List ℕ) (p : ℕ) : Type 0 where
  pub code : (view_at s p).code ≡ []
  pub blocks : (view_at s p).blocks ≡ []

-- the count of the version at v begins at the offset p
pub record Begin (s : List ℕ) (v p : ℕ) : Type 0 where
  pub code : (view_at s p).code ≡ []
  pub blocks : (view_at s p).blocks ≡ (version_at s v).blocks

-- a count goes on as far as all that is entered is listed
pub record Goes (s known : List ℕ) (v p n : ℕ) (r : Count) : Type 0 where
  pub counted : Counted s known v p n → Counted s known v r.at r.steps
  pub whole : r.whole ≡ true → Over s r.at
  pub stays : r.whole ≡ all (has (kept known)) (reached_ahead (program_of s) (version_at s v) (view_at s r.at))

-- ---- the first that is free, by places of the table

-- the first of n places from k on that passes
unfoldable pub first_place : (ℕ → Bool) → ℕ → ℕ → Found
first_place p zero k = None
first_place p (suc n) k = cond (p k) (Some k) (first_place p n (k + 1))

-- a version stands at the place k and is not listed
unfoldable pub open_at : List ℕ → List ℕ → ℕ → Bool
open_at s known k = ltb (table_of s ! k) (length s) and eqb (known ! k) 0

-- and all that it depends on is
unfoldable pub free_at : List ℕ → List ℕ → ℕ → Bool
free_at s known k = open_at s known k and all (has (kept known)) (dependencies (program_of s) (version_at s (table_of s ! k)))

-- every version is counted so far, by places of the table
pub record Ready (s known places sums : List ℕ) : Type 0 where
  pub placed : length places ≡ FUNCTIONS * VERSIONS
  pub summed : length sums ≡ FUNCTIONS * VERSIONS
  pub each : (k : ℕ) → k < FUNCTIONS * VERSIONS → table_of s ! k < length s → Counted s known (table_of s ! k) (places ! k) (sums ! k)

-- where the counts of all versions begin
pub record Begins (s places : List ℕ) (n : ℕ) : Type 0 where
  pub placed : length places ≡ FUNCTIONS * VERSIONS
  pub each : (k : ℕ) → k < n → table_of s ! k < length s → Begin s (table_of s ! k) (places ! k)

-- the first that is free is counted to its end
unfoldable pub Worth : List ℕ → List ℕ → List ℕ → Found → Type 0
Worth s known sums None = Unit {0}
Worth s known sums (Some k) = (k < FUNCTIONS * VERSIONS) × (free_at s known k ≡ true) × (sums ! k ≡ cap (steps_of (program_of s) (below (kept known)) (version_at s (table_of s ! k))))

-- ---- the numbers of a list of rows

-- that of the version w of the function f
unfoldable pub number_in : List Row → ℕ → ℕ → ℕ
number_in [] f w = 0
number_in (r ∷ rows) f w = cond (eqb r.version.function f and eqb r.version.version w) (suc (cap r.steps)) (number_in rows f w)

-- the numbers in hand are those of these rows, whose versions are within the bounds
pub record Stands (known : List ℕ) (rows : List Row) : Type 0 where
  pub size : length known ≡ FUNCTIONS * VERSIONS
  pub is : (k : ℕ) → k < FUNCTIONS * VERSIONS → known ! k ≡ number_in rows (k / VERSIONS) (k % VERSIONS)
  pub small : (f w : ℕ) → (number_in rows f w ≡ 0 → ⊥) → (f < FUNCTIONS) × (w < VERSIONS)
