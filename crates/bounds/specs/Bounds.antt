-- 02, 12, how long at most: what a version depends on, its bound, and the order in which versions are listed.
use Rattle.std.specs.Prelude.{List, [], ◌∷◌, ◌++◌, map, Bool, true, cond, not, ℕ, zero, suc, ◌+◌, length, eqb, leb, ltb}
use Rattle.std.proofs.Math.Option.{Option, none, some}
use Rattle.layout.specs.Bounds.{FUNCTIONS, VERSIONS}
use Rattle.layout.specs.Tests.{◌and◌, all, any}
use Rattle.program.specs.Program.{Argument, Instr, LIT, MOVE, USE, DUP, VEC, LEN, GET, SET, ARITH, SELECT, CAST, NAMED, STORE, PROM, FORCE, PEEK, POKE, CALL, DISPATCH, SKIP, Line}
use Rattle.program.specs.Program.{Block, Version, Program, find_version, mark_of, parameter_types}
use Rattle.rules.specs.Types.{kind_of, ownership_of, within}
use Rattle.machine.specs.Calls.{same_ownerships}

-- ---- dependence

-- what the signature of a DISPATCH in a version of this level allows, argument kinds left aside: a level not above, equal parameter
-- count and ownerships, equal return ownership, return within, mark no greater
unfoldable pub allows : ℕ → ℕ → ℕ → List Argument → Version → Bool
allows level mark ret pairs W =
    leb W.level level
    and same_ownerships pairs (parameter_types W)
    and eqb (ownership_of W.return) (ownership_of ret)
    and within (kind_of W.return) (kind_of ret)
    and leb (mark_of W) mark

-- what was found, if it passes
unfoldable pub passing : (Version → Bool) → Option Version → List Version
passing p none = []
passing p (some v) = cond (p v) (v ∷ []) []

-- of n versions of the function f, from w on, those that pass
unfoldable pub fitting : Program → ℕ → (Version → Bool) → ℕ → ℕ → List Version
fitting P f p zero w = []
fitting P f p (suc n) w = passing p (find_version P f w) ++ fitting P f p n (suc w)

-- the versions that an instruction of v may enter: the one that a CALL names, by DISPATCH all that its signature and the level of v allow
unfoldable pub reaches : Program → Version → Instr → List Version
reaches P v (LIT d i) = []
reaches P v (MOVE d a) = []
reaches P v (USE d a) = []
reaches P v (DUP d a) = []
reaches P v (VEC d rs) = []
reaches P v (LEN d a) = []
reaches P v (GET d a i) = []
reaches P v (SET a i e) = []
reaches P v (ARITH d op a b) = []
reaches P v (SELECT d c a b) = []
reaches P v (CAST d a) = []
reaches P v (NAMED d x) = []
reaches P v (STORE x a) = []
reaches P v (PROM d block) = []
reaches P v (FORCE d a) = []
reaches P v (PEEK d a x) = []
reaches P v (POKE a x e) = []
reaches P v (CALL d f w rs) = passing (λ c. true) (find_version P f w)
reaches P v (DISPATCH d f mark ret pairs) = fitting P f (allows v.level mark ret pairs) VERSIONS 0
reaches P v (SKIP a n) = []

-- those that these instructions may enter
unfoldable pub reached_by : Program → Version → List Line → List Version
reached_by P v [] = []
reached_by P v (l ∷ ls) = reaches P v l.does ++ reached_by P v ls

-- those that the instructions of these blocks may enter
unfoldable pub reached_in : Program → Version → List Block → List Version
reached_in P v [] = []
reached_in P v (b ∷ bs) = reached_by P v b.code ++ reached_in P v bs

-- the versions that a version depends on, promise bodies included
unfoldable pub dependencies : Program → Version → List Version
dependencies P v = reached_in P v v.blocks

-- ---- the bound, by the bounds of the versions that are reached

-- the greater of two
unfoldable pub greater : ℕ → ℕ → ℕ
greater a b = cond (ltb a b) b a

-- the largest bound of these, 0 where there is none
unfoldable pub largest : (Version → ℕ) → List Version → ℕ
largest bound [] = 0
largest bound (v ∷ vs) = greater (bound v) (largest bound vs)

-- an instruction, and for a call the largest bound it may reach
unfoldable pub steps_at : Program → (Version → ℕ) → Version → Instr → ℕ
steps_at P bound v i = suc (largest bound (reaches P v i))

-- these instructions and their block end
unfoldable pub steps_to : (Instr → ℕ) → List Line → ℕ
steps_to price [] = 1
steps_to price (l ∷ ls) = price l.does + steps_to price ls

-- in all these blocks
unfoldable pub steps_in : (Instr → ℕ) → List Block → ℕ
steps_in price [] = 0
steps_in price (b ∷ bs) = steps_to price b.code + steps_in price bs

-- a version's instructions and block ends in all blocks plus, for each call, the largest bound it may reach
unfoldable pub steps_of : Program → (Version → ℕ) → Version → ℕ
steps_of P bound v = steps_in (steps_at P bound v) v.blocks

-- ---- the list

-- a version and its bound
pub record Row : Type 0 where
  pub version : Version
  pub steps : ℕ

-- the same numbers
unfoldable pub same : Version → Version → Bool
same u v = eqb u.function v.function and eqb u.version v.version

-- is it listed?
unfoldable pub is_listed : List Row → Version → Bool
is_listed rows v = any (λ (r : Row). same r.version v) rows

-- its bound there
unfoldable pub bound_in : List Row → Version → ℕ
bound_in [] v = 0
bound_in (r ∷ rows) v = cond (same r.version v) r.steps (bound_in rows v)

-- free to be listed: not yet listed, and all that it depends on are
unfoldable pub is_free : Program → List Row → Version → Bool
is_free P rows v = not (is_listed rows v) and all (is_listed rows) (dependencies P v)

-- the first that passes
unfoldable pub first_of : (Version → Bool) → List Version → Option Version
first_of p [] = none
first_of p (v ∷ vs) = cond (p v) (some v) (first_of p vs)

-- of n functions from f on, all versions in order of number
unfoldable pub versions_from : Program → ℕ → ℕ → List Version
versions_from P zero f = []
versions_from P (suc n) f = fitting P f (λ v. true) VERSIONS 0 ++ versions_from P n (suc f)

-- all versions in order of number: lowest function, then lowest version, first
unfoldable pub by_number : Program → List Version
by_number P = versions_from P FUNCTIONS 0

-- the row of a version behind these
unfoldable pub row_of : Program → List Row → Version → Row
row_of P rows v = record { version = v; steps = steps_of P (bound_in rows) v }

-- behind these rows, n times or until none is free, the first of vs that is free
unfoldable pub listed_from : Program → List Version → ℕ → List Row → List Row
listed_from P vs zero rows = rows
listed_from P vs (suc n) rows = elim (first_of (is_free P rows) vs) [ none ↦ rows | some v ↦ listed_from P vs n (rows ++ (row_of P rows v ∷ [])) ]

-- the versions with a bound, one by one
unfoldable pub bounded : Program → List Row
bounded P = listed_from P (by_number P) (length (by_number P)) []

-- ---- the report

-- a bound; one above 4,294,967,295 reads "large"; or none
pub data Bound : Type 0 where
  steps : ℕ → Bound
  large : Bound
  unbounded : Bound

-- the greatest bound that reads as a number
abbrev pub MOST : ℕ
MOST = 4294967295

-- a bound as it reads
unfoldable pub reads : ℕ → Bound
reads n = cond (ltb MOST n) large (steps n)

-- the bound of a version
unfoldable pub bound_of : Program → Version → Bound
bound_of P v = cond (is_listed (bounded P) v) (reads (bound_in (bounded P) v)) unbounded

-- those that are not listed
unfoldable pub unlisted : List Row → List Version → List Version
unlisted rows [] = []
unlisted rows (v ∷ vs) = cond (is_listed rows v) (unlisted rows vs) (v ∷ unlisted rows vs)

-- a version by its numbers, and its bound
pub record Entry : Type 0 where
  pub function : ℕ
  pub version : ℕ
  pub bound : Bound

-- the entry of a row, and that of a version with none
abbrev pub entry_of : Row → Entry
entry_of r = record { function = r.version.function; version = r.version.version; bound = reads r.steps }

abbrev pub none_of : Version → Entry
none_of v = record { function = v.function; version = v.version; bound = unbounded }

-- 02, 12: the report: the versions with a bound, or "large", one by one, then those with none in order of number
unfoldable pub report : Program → List Entry
report P = map entry_of (bounded P) ++ map none_of (unlisted (bounded P) (by_number P))
