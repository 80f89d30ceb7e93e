-- The program of records: what the first makes of those behind it.
use mathlib.Core.Path.{◌≡◌, refl, ap, ◌∙◌}
use mathlib.Core.List.{List, [], ◌∷◌}
use mathlib.Core.Bool.{Bool, true, false}
use Prim.Native.Nat.{◌<◌}
use native.Mathlib.Omega.{arith}
use lib.Dec.{eqb}
use borrow.Author.Tests.{ne_eqb}
use Rattle.layout.specs.Kinds as kind
use Rattle.layout.specs.Records.{Rec}
use Rattle.program.specs.Program.{View, line_of, level_of, block_of, version_of, put, put_by, view, view_by, program}

pub put-version : (r : Rec) (w : View) → eqb r.kind kind.VERSION ≡ true → put r w ≡ record { level = 0; code = []; blocks = []; versions = version_of r w.level w.blocks ∷ w.versions }
unfolding put_by
put-version r w e = rw e refl

pub put-block : (r : Rec) (w : View) → eqb r.kind kind.VERSION ≡ false → eqb r.kind kind.BLOCK ≡ true → put r w ≡ record { level = 0; code = []; blocks = block_of r w.code ∷ w.blocks; versions = w.versions }
unfolding put_by
put-block r w e f = rw (e, f) refl

pub put-line : (r : Rec) (w : View) → eqb r.kind kind.VERSION ≡ false → eqb r.kind kind.BLOCK ≡ false → put r w ≡ record { level = level_of r; code = line_of r ∷ w.code; blocks = w.blocks; versions = w.versions }
unfolding put_by
put-line r w e f = rw (e, f) refl

put-versions : (r : Rec) (w : View) → eqb r.kind kind.VERSION ≡ false → (put r w).versions ≡ w.versions
put-versions r w e = go (eqb r.kind kind.BLOCK) refl
  where
    go : (y : Bool) → eqb r.kind kind.BLOCK ≡ y → (put r w).versions ≡ w.versions
    go true f = ap (λ (u : View). u.versions) (put-block r w e f)
    go false f = ap (λ (u : View). u.versions) (put-line r w e f)

pub no-versions : program [] ≡ []
unfolding view_by
no-versions = refl

pub view-whole : (r : Rec) (rs : List Rec) → 0 < r.size → view (r ∷ rs) ≡ put r (view rs)
unfolding view_by
view-whole r rs l = rw (ne_eqb r.size 0 (λ z. absurd (omega (arith, z, l)))) refl

pub program-version : (r : Rec) (rs : List Rec) → 0 < r.size → eqb r.kind kind.VERSION ≡ true → program (r ∷ rs) ≡ version_of r (view rs).level (view rs).blocks ∷ program rs
program-version r rs l e = ap (λ (u : View). u.versions) (view-whole r rs l ∙ put-version r (view rs) e)

pub program-other : (r : Rec) (rs : List Rec) → 0 < r.size → eqb r.kind kind.VERSION ≡ false → program (r ∷ rs) ≡ program rs
program-other r rs l e = ap (λ (u : View). u.versions) (view-whole r rs l) ∙ put-versions r (view rs) e
