-- The program by offsets: what code that goes along the records has in hand.
use Rattle.std.specs.Prelude.{◌≡◌, List, [], ◌∷◌, map, Bool, true, cond, not, ℕ, zero, suc, ◌+◌, ◌-◌, ◌*◌, ◌/◌, ◌%◌, length, ltb, eqb, None, Some}
use Rattle.layout.specs.Found.{Found}
use Rattle.std.proofs.Math.Option.{Option, none, some}
use Rattle.std.proofs.Math.ListN.{get_elem?}
use Rattle.layout.specs.Bounds.{FUNCTIONS, VERSIONS}
use Rattle.layout.specs.Kinds as kind
use Rattle.layout.specs.Tests.{◌and◌}
use Rattle.layout.specs.Records.{◌!◌, size_at, kind_at, body_at, rec_at, rest, records, choose}
use Rattle.program.specs.Program.{Instr, Block, Version, View, instr_of, block_of, version_of, view, program, find_version, has_function}
use Rattle.program.specs.Search.{Question}
use Rattle.program.specs.declared.Here.{Here}

-- what lies ahead of an offset
abbrev pub view_at : List ℕ → ℕ → View
view_at s p = view (rest s p)

-- the end of the record at an offset
abbrev pub past : List ℕ → ℕ → ℕ
past s p = p + size_at s p

-- the version whose record stands at an offset
unfoldable pub version_at : List ℕ → ℕ → Version
version_at s p = version_of (rec_at s p) (view_at s (past s p)).level (view_at s (past s p)).blocks

-- the level that the record at an offset states; 0 where it is no LEVEL
unfoldable pub level_at : List ℕ → ℕ → ℕ
level_at s p = cond (eqb (kind_at s p) kind.LEVEL) (body_at s p ! 0) 0

-- the block whose record stands at an offset
unfoldable pub block_at : List ℕ → ℕ → Block
block_at s p = block_of (rec_at s p) (view_at s (past s p)).code

-- the instruction whose record stands at an offset
unfoldable pub instr_at : List ℕ → ℕ → Instr
instr_at s p = instr_of (kind_at s p) (body_at s p)

-- a whole record that is neither a VERSION nor a BLOCK stands at an offset: an instruction, in an accepted image, or the LEVEL behind a VERSION
unfoldable pub is_line : List ℕ → ℕ → Bool
is_line s p = ltb p (length s) and not (eqb (size_at s p) 0) and not (eqb (kind_at s p) kind.VERSION) and not (eqb (kind_at s p) kind.BLOCK)

-- where what was looked up stands
unfoldable pub place_of : {A : Type 0} → (A → ℕ) → Option A → Found
place_of at none = None
place_of at (some x) = Some (at x)

-- where the version w of the function f stands
unfoldable pub version_place : List ℕ → ℕ → ℕ → Found
version_place s f w = place_of (λ (v : Version). v.at) (find_version (program (records s)) f w)

-- where the block b of the version at v stands
unfoldable pub block_place : List ℕ → ℕ → ℕ → Found
block_place s v b = place_of (λ (x : Block). x.at) (get_elem? (version_at s v).blocks b)

-- the offset that stands for a place in a table: the image length for none
unfoldable pub offset_of : List ℕ → Found → ℕ
offset_of s None = length s
offset_of s (Some p) = p

-- n numbers from k on
unfoldable pub numbers : ℕ → ℕ → List ℕ
numbers k zero = []
numbers k (suc n) = k ∷ numbers (k + 1) n

-- the entry k of the table: where the version k % VERSIONS of the function k / VERSIONS stands, the image length for none
unfoldable pub table_entry : List ℕ → ℕ → ℕ
table_entry s k = offset_of s (version_place s (k / VERSIONS) (k % VERSIONS))

-- the table of an image's versions: where each that the bounds allow stands, by VERSIONS × function + version
unfoldable pub table_of : List ℕ → List ℕ
table_of s = map (table_entry s) (numbers 0 (FUNCTIONS * VERSIONS))

-- the entry that the record at p has there, if it is a VERSION within the bounds; else their count
unfoldable pub slot_of : List ℕ → ℕ → ℕ
slot_of s p =
    cond (eqb (kind_at s p) kind.VERSION and ltb (body_at s p ! 0) FUNCTIONS and ltb (body_at s p ! 1) VERSIONS)
    (VERSIONS * body_at s p ! 0 + body_at s p ! 1) (FUNCTIONS * VERSIONS)

-- an entry of a table as a place; the image length and more stand for none
unfoldable pub place_in : List ℕ → ℕ → Found
place_in s p = cond (ltb p (length s)) (Some p) None

-- where a table says that the version w of the function f stands; what lies outside of the bounds is looked up
unfoldable pub listed_in : List ℕ → List ℕ → ℕ → ℕ → Found
listed_in s t f w = cond (ltb f FUNCTIONS and ltb w VERSIONS) (place_in s (t ! (VERSIONS * f + w))) (version_place s f w)

-- has the function f a version, by a table: version 0 is listed, or one is found
unfoldable pub function_in : List ℕ → List ℕ → ℕ → Bool
function_in s t f = cond (ltb f FUNCTIONS and ltb (t ! (VERSIONS * f)) (length s)) true (has_function f (program (records s)))

-- where a pass along the records stands behind the record at p; it counts no more blocks than there are bytes
unfoldable pub moved_to : List ℕ → Here → ℕ → Here
moved_to s h p = choose (kind_at s p) h (
    (kind.VERSION, record { version = p; blocks = 0 }) ∷
    (kind.BLOCK, record { version = h.version; blocks = cond (ltb h.blocks (length s)) (h.blocks + 1) h.blocks }) ∷ [])

-- what a question asks of the record at p, by where the pass stands behind it; a record that belongs to no version or block is asked nothing
unfoldable pub asked : Question → List ℕ → Here → ℕ → Bool
asked q s h p =
    let v = version_at s h.version in
    let begun = ltb h.version (length s) and ltb 0 h.blocks in
    choose (kind_at s p) (cond begun (q.of_instr v (h.blocks - 1) (instr_at s p)) true) (
    (kind.VERSION, q.of_version (version_at s p)) ∷
    (kind.BLOCK, cond begun (q.of_block v (h.blocks - 1) (block_at s p)) true) ∷ [])

-- calls of the code ask what the question asks
abbrev pub Asks : (Here → ℕ → Bool → Type 0) → Question → List ℕ → Type 0
Asks called q s = (h : Here) (p : ℕ) (b : Bool) → called h p b → b ≡ asked q s h p
