-- 02, 13: a program that stands renumbered in another: what a version depends on, and the steps it comes to.
use mathlib.Core.Path.{◌≡◌, refl, sym}
use mathlib.Core.List.{List, [], ◌∷◌, map, map-append}
use mathlib.Core.Option.{Option, none, some}
use mathlib.Core.Bool.{Bool, true, false, cond}
use Prim.Native.Nat.{ℕ, zero, suc, ◌+◌, ◌<◌}
use lib.ListN.{get_elem?}
use Rattle.layout.specs.Bounds.{VERSIONS}
use Rattle.program.specs.Program.{Argument, Instr, LIT, MOVE, USE, DUP, VEC, LEN, GET, SET, ARITH, SELECT, CAST, NAMED, STORE, PROM, FORCE, PEEK, POKE, CALL, DISPATCH, SKIP, Line, Block, Version, Program, find_version}
use Rattle.bounds.specs.Bounds.{allows, passing, fitting, reaches, reached_by, reached_in, dependencies, largest, steps_at, steps_to, steps_in, steps_of}
use Rattle.joins.specs.Shifted.{shift_instr, shift_line, shift_block, shift_version}
use Rattle.joins.specs.Alongside.{shift_found, Carries, Names, NamesIn}
use Rattle.joins.proofs.Steps.{mark-shifted}

-- ---- a signature allows the same versions

allows-shifted : (k o level mark ret : ℕ) (pairs : List Argument) (W : Version) → allows level mark ret pairs (shift_version k o W) ≡ allows level mark ret pairs W
unfolding allows
allows-shifted k o level mark ret pairs W = rw (mark-shifted k o W.blocks) refl

module _ (k o n : ℕ) (P J : Program) (C : Carries k o n P J) where
  abbrev up : Version → Version
  up v = shift_version k o v

  -- ---- what is reached

  passing-shifted : (p : Version → Bool) → ((U : Version) → p (up U) ≡ p U) → (x : Option Version) → passing p (shift_found k o x) ≡ map up (passing p x)
  unfolding passing shift_found
  passing-shifted p e none = refl
  passing-shifted p e (some U) = rw (e U) (go (p U))
    where
      go : (b : Bool) → cond b (up U ∷ []) [] ≡ map up (cond b (U ∷ []) [])
      go true = refl
      go false = refl

  pub fitting-shifted : (f : ℕ) (p : Version → Bool) → f < n → ((U : Version) → p (up U) ≡ p U) → (m w : ℕ) → fitting J (k + f) p m w ≡ map up (fitting P f p m w)
  unfolding fitting
  fitting-shifted f p h e zero w = refl
  fitting-shifted f p h e (suc m) w = rw (C.look f w h, passing-shifted p e (find_version P f w), fitting-shifted f p h e m (suc w)) (sym (map-append up (passing p (find_version P f w)) (fitting P f p m (suc w))))

  reaches-shifted : (v : Version) (i : Instr) → Names n i → reaches J (up v) (shift_instr k i) ≡ map up (reaches P v i)
  unfolding reaches shift_instr Names
  reaches-shifted v (LIT d i) h = refl
  reaches-shifted v (MOVE d a) h = refl
  reaches-shifted v (USE d a) h = refl
  reaches-shifted v (DUP d a) h = refl
  reaches-shifted v (VEC d rs) h = refl
  reaches-shifted v (LEN d a) h = refl
  reaches-shifted v (GET d a i) h = refl
  reaches-shifted v (SET a i e) h = refl
  reaches-shifted v (ARITH d op a b) h = refl
  reaches-shifted v (SELECT d c a b) h = refl
  reaches-shifted v (CAST d a) h = refl
  reaches-shifted v (NAMED d x) h = refl
  reaches-shifted v (STORE x a) h = refl
  reaches-shifted v (PROM d block) h = refl
  reaches-shifted v (FORCE d a) h = refl
  reaches-shifted v (PEEK d a x) h = refl
  reaches-shifted v (POKE a x e) h = refl
  reaches-shifted v (CALL d f w rs) h = rw (C.look f w h) (passing-shifted (λ c. true) (λ U. refl) (find_version P f w))
  reaches-shifted v (DISPATCH d f mark ret pairs) h = fitting-shifted f (allows v.level mark ret pairs) h (allows-shifted k o v.level mark ret pairs) VERSIONS 0
  reaches-shifted v (SKIP a m) h = refl

  abbrev NamesBy : List Line → Type 0
  NamesBy ls = (i : ℕ) (l : Line) → get_elem? ls i ≡ some l → Names n l.does

  abbrev NamesOf : List Block → Type 0
  NamesOf bs = (b : ℕ) (x : Block) (i : ℕ) (l : Line) → get_elem? bs b ≡ some x → get_elem? x.code i ≡ some l → Names n l.does

  by-shifted : (v : Version) (ls : List Line) → NamesBy ls → reached_by J (up v) (map (shift_line k o) ls) ≡ map up (reached_by P v ls)
  unfolding reached_by
  by-shifted v [] h = refl
  by-shifted v (l ∷ ls) h = rw (reaches-shifted v l.does (h 0 l refl), by-shifted v ls (λ i. h (suc i))) (sym (map-append up (reaches P v l.does) (reached_by P v ls)))

  in-shifted : (v : Version) (bs : List Block) → NamesOf bs → reached_in J (up v) (map (shift_block k o) bs) ≡ map up (reached_in P v bs)
  unfolding reached_in
  in-shifted v [] h = refl
  in-shifted v (b ∷ bs) h = rw (by-shifted v b.code (λ i l e. h 0 b i l refl e), in-shifted v bs (λ j. h (suc j))) (sym (map-append up (reached_by P v b.code) (reached_in P v bs)))

  pub dependencies-shifted : (v : Version) → NamesIn n v → dependencies J (up v) ≡ map up (dependencies P v)
  unfolding dependencies
  dependencies-shifted v h = in-shifted v v.blocks h

  -- ---- the steps that it comes to

  module _ (bound : Version → ℕ) where
    abbrev own-bound : Version → ℕ
    own-bound x = bound (up x)

    largest-shifted : (vs : List Version) → largest bound (map up vs) ≡ largest own-bound vs
    unfolding largest
    largest-shifted [] = refl
    largest-shifted (v ∷ vs) = rw (largest-shifted vs) refl

    to-shifted : (v : Version) (ls : List Line) → NamesBy ls → steps_to (steps_at J bound (up v)) (map (shift_line k o) ls) ≡ steps_to (steps_at P own-bound v) ls
    unfolding steps_to steps_at
    to-shifted v [] h = refl
    to-shifted v (l ∷ ls) h = rw (reaches-shifted v l.does (h 0 l refl), largest-shifted (reaches P v l.does), to-shifted v ls (λ i. h (suc i))) refl

    blocks-shifted : (v : Version) (bs : List Block) → NamesOf bs → steps_in (steps_at J bound (up v)) (map (shift_block k o) bs) ≡ steps_in (steps_at P own-bound v) bs
    unfolding steps_in
    blocks-shifted v [] h = refl
    blocks-shifted v (b ∷ bs) h = rw (to-shifted v b.code (λ i l e. h 0 b i l refl e), blocks-shifted v bs (λ j. h (suc j))) refl

    pub steps-shifted : (v : Version) → NamesIn n v → steps_of J bound (up v) ≡ steps_of P own-bound v
    unfolding steps_of
    steps-shifted v h = blocks-shifted v v.blocks h
