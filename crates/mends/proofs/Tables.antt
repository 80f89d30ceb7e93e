-- A change of a register type byte leaves the table of versions as it is.
use Rattle.std.specs.Prelude.{None, Some, Err}
use mathlib.Core.Path.{◌≡◌, refl, ap, ap₂, ◌∙◌}
use Rattle.layout.specs.Found.{Found}
use mathlib.Core.List.{List, [], ◌∷◌, map}
use mathlib.Core.Option.{Option, none, some}
use mathlib.Core.Bool.{true}
use Prim.Native.Nat.{ℕ, ◌*◌, ◌/◌, ◌%◌}
use lib.ListN.{length, length-set, set}
use Rattle.layout.specs.Bounds.{VERSIONS, FUNCTIONS}
use Rattle.layout.specs.Records.{records}
use Rattle.program.specs.Program.{Version, Program, program, find_version}
use Rattle.program.specs.Places.{place_of, version_place, offset_of, numbers, table_entry, table_of}
use Rattle.checker.specs.Verdicts.{verdict_of, refused}
use Rattle.mends.specs.Mends.{places, mendable}
use Rattle.mends.specs.Parts.{Among}
use Rattle.mends.specs.Retyped.{retype_one}
use Rattle.mends.proofs.Retypes.{mapped, stays, find-retyped}
use Rattle.mends.proofs.Mending.{changed}

place_kept : (p x : ℕ) (o : Option Version) → place_of (λ (v : Version). v.at) (mapped (retype_one p x) o) ≡ place_of (λ (v : Version). v.at) o
unfolding place_of mapped
place_kept p x none = refl
place_kept p x (some v) = ap Some (stays p x v).at

offset-kept : (s t : List ℕ) → length t ≡ length s → (f : Found) → offset_of t f ≡ offset_of s f
unfolding offset_of
offset-kept s t e None = e
offset-kept s t e (Some p) = refl

map_same : (f g : ℕ → ℕ) → ((k : ℕ) → f k ≡ g k) → (l : List ℕ) → map f l ≡ map g l
map_same f g h [] = refl
map_same f g h (k ∷ l) = ap₂ ◌∷◌ (h k) (map_same f g h l)

pub table_kept : (s : List ℕ) (q r : ℕ) → mendable q ≡ true → verdict_of s ≡ Err (refused q r) → (p x : ℕ) → Among p (places (program (records s))) → table_of (set s p x) ≡ table_of s
unfolding table_of table_entry version_place
table_kept s q r m e p x a = map_same (table_entry (set s p x)) (table_entry s) entry (numbers 0 (FUNCTIONS * VERSIONS))
  where
    found : (f w : ℕ) → version_place (set s p x) f w ≡ version_place s f w
    found f w =
        ap (λ (R : Program). place_of (λ (v : Version). v.at) (find_version R f w)) (changed s q r m e p a x)
        ∙ ap (place_of (λ (v : Version). v.at)) (find-retyped p x (program (records s)) f w) ∙ place_kept p x (find_version (program (records s)) f w)

    entry : (k : ℕ) → table_entry (set s p x) k ≡ table_entry s k
    entry k = ap (offset_of (set s p x)) (found (k / VERSIONS) (k % VERSIONS)) ∙ offset-kept s (set s p x) (length-set s p x) (version_place s (k / VERSIONS) (k % VERSIONS))
