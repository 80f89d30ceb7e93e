-- What an instruction that fits says of its registers, and what it touches: a law for each, in the order of kinds. The safety of a step cites these.
use mathlib.Core.Path.{◌≡◌, refl, sym, ◌∙◌}
use mathlib.Core.List.{List, [], ◌∷◌, map}
use mathlib.Core.Bool.{true}
use mathlib.Core.Option.{some, Option-elim}
use Prim.Native.Nat.{ℕ}
use lib.ListN.{get_elem?}
use lib.IntN.{ℤ}
use borrow.Author.Tests.{eqb-true}
use Rattle.layout.specs.Tests.{all}
use Rattle.layout.proofs.Bools.{and_both, found_some}
use Rattle.program.specs.Program.{Argument, LIT, MOVE, USE, DUP, VEC, LEN, GET, SET, ARITH, SELECT, CAST, NAMED, STORE, PROM, FORCE, PEEK, POKE, CALL, DISPATCH, SKIP, Block, Version, Program, find_version, given}
use Rattle.rules.specs.Fits.{integer, vector, owned, promise, shared, value, plain, fresh, promise_kind, fits_call, fits}
use Rattle.rules.specs.Actions.{reads◌empties◌assigns◌, enters◌assigns◌, reads◌skips◌, emptied, touch}

module _ (P : Program) (v : Version) (n : ℕ) where
  -- ---- what fits

  pub lit-fits : (d : ℕ) (z : ℤ) → fits P v n (LIT d z) ≡ true → plain v d 2 ≡ true
  unfolding fits
  lit-fits d z h = h

  -- only in a body: an owned vector enters what takes a fresh one
  pub use-fits : (d a : ℕ) → fits P v n (USE d a) ≡ true → (n ≡ 0) × (owned v a ≡ true) × (fresh v d ≡ true)
  unfolding fits
  use-fits d a h = let t = and_both _ _ h in let u = and_both _ _ t.1 in (eqb-true n 0 t.0, u.0, u.1)

  pub dup-fits : (d a : ℕ) → fits P v n (DUP d a) ≡ true → (vector v a ≡ true) × (fresh v d ≡ true)
  unfolding fits
  dup-fits d a h = and_both _ _ h

  pub vec-fits : (d : ℕ) (rs : List ℕ) → fits P v n (VEC d rs) ≡ true → (all (integer v) rs ≡ true) × (fresh v d ≡ true)
  unfolding fits
  vec-fits d rs h = and_both _ _ h

  pub len-fits : (d a : ℕ) → fits P v n (LEN d a) ≡ true → (vector v a ≡ true) × (plain v d 2 ≡ true)
  unfolding fits
  len-fits d a h = and_both _ _ h

  pub get-fits : (d a i : ℕ) → fits P v n (GET d a i) ≡ true → (vector v a ≡ true) × (integer v i ≡ true) × (plain v d 2 ≡ true)
  unfolding fits
  get-fits d a i h = let t = and_both _ _ h in let u = and_both _ _ t.1 in (t.0, u.0, u.1)

  -- only in a body, of an owned vector
  pub set-fits : (a i e : ℕ) → fits P v n (SET a i e) ≡ true → (n ≡ 0) × (owned v a ≡ true) × (integer v i ≡ true) × (integer v e ≡ true)
  unfolding fits
  set-fits a i e h =
      let t = and_both _ _ h in let u = and_both _ _ t.1 in let w = and_both _ _ u.1 in
      (eqb-true n 0 t.0, u.0, w.0, w.1)

  pub arith-fits : (d op a b : ℕ) → fits P v n (ARITH d op a b) ≡ true → (integer v a ≡ true) × (integer v b ≡ true) × (plain v d 2 ≡ true)
  unfolding fits
  arith-fits d op a b h = let t = and_both _ _ h in let u = and_both _ _ t.1 in (t.0, u.0, u.1)

  pub select-fits : (d c a b : ℕ) → fits P v n (SELECT d c a b) ≡ true → (integer v c ≡ true) × (integer v a ≡ true) × (integer v b ≡ true) × (plain v d 2 ≡ true)
  unfolding fits
  select-fits d c a b h = let t = and_both _ _ h in let u = and_both _ _ t.1 in let w = and_both _ _ u.1 in (t.0, u.0, w.0, w.1)

  pub cast_fits : (d a : ℕ) → fits P v n (CAST d a) ≡ true → (shared v a ≡ true) × (shared v d ≡ true)
  unfolding fits
  cast_fits d a h = and_both _ _ h

  pub named-fits : (d x : ℕ) → fits P v n (NAMED d x) ≡ true → plain v d 1 ≡ true
  unfolding fits
  named-fits d x h = h

  -- no promise and no owned vector gets a name
  pub store-fits : (x a : ℕ) → fits P v n (STORE x a) ≡ true → value v a ≡ true
  unfolding fits
  store-fits x a h = h

  pub prom-fits : (d block : ℕ) (b : Block) → get_elem? v.blocks block ≡ some b → fits P v n (PROM d block) ≡ true → plain v d (promise_kind b.mark) ≡ true
  unfolding fits
  prom-fits d block b e h = sym (found_some (λ (x : Block). plain v d (promise_kind x.mark)) e) ∙ h

  pub force-fits : (d a : ℕ) → fits P v n (FORCE d a) ≡ true → (promise v a ≡ true) × (plain v d 2 ≡ true)
  unfolding fits
  force-fits d a h = and_both _ _ h

  pub peek-fits : (d a x : ℕ) → fits P v n (PEEK d a x) ≡ true → (promise v a ≡ true) × (plain v d 1 ≡ true)
  unfolding fits
  peek-fits d a x h = and_both _ _ h

  pub poke-fits : (a x e : ℕ) → fits P v n (POKE a x e) ≡ true → (promise v a ≡ true) × (value v e ≡ true)
  unfolding fits
  poke-fits a x e h = and_both _ _ h

  pub call_fits : (d f w : ℕ) (rs : List ℕ) (c : Version) → find_version P f w ≡ some c → fits P v n (CALL d f w rs) ≡ true → fits_call v n d (given c rs) c.return ≡ true
  unfolding fits
  call_fits d f w rs c e h = sym (found_some (λ (x : Version). fits_call v n d (given x rs) x.return) e) ∙ h

  pub dispatch-fits : (d f mark ret : ℕ) (pairs : List Argument) → fits P v n (DISPATCH d f mark ret pairs) ≡ true → fits_call v n d pairs ret ≡ true
  unfolding fits
  dispatch-fits d f mark ret pairs h = h

  pub skip-fits : (a k : ℕ) → fits P v n (SKIP a k) ≡ true → integer v a ≡ true
  unfolding fits
  skip-fits a k h = h

-- ---- what is touched

module _ (P : Program) where
  pub lit-touches : (d : ℕ) (z : ℤ) → touch P (LIT d z) ≡ (reads [] empties [] assigns d ∷ [])
  unfolding touch
  lit-touches d z = refl

  pub move-touches : (d a : ℕ) → touch P (MOVE d a) ≡ (reads a ∷ [] empties [] assigns d ∷ [])
  unfolding touch
  move-touches d a = refl

  -- the only one that empties a register it names
  pub use-touches : (d a : ℕ) → touch P (USE d a) ≡ (reads a ∷ [] empties a ∷ [] assigns d ∷ [])
  unfolding touch
  use-touches d a = refl

  pub dup-touches : (d a : ℕ) → touch P (DUP d a) ≡ (reads a ∷ [] empties [] assigns d ∷ [])
  unfolding touch
  dup-touches d a = refl

  pub vec-touches : (d : ℕ) (rs : List ℕ) → touch P (VEC d rs) ≡ (reads rs empties [] assigns d ∷ [])
  unfolding touch
  vec-touches d rs = refl

  pub len-touches : (d a : ℕ) → touch P (LEN d a) ≡ (reads a ∷ [] empties [] assigns d ∷ [])
  unfolding touch
  len-touches d a = refl

  pub get-touches : (d a i : ℕ) → touch P (GET d a i) ≡ (reads a ∷ i ∷ [] empties [] assigns d ∷ [])
  unfolding touch
  get-touches d a i = refl

  -- it assigns the vector that it changes
  pub set-touches : (a i e : ℕ) → touch P (SET a i e) ≡ (reads a ∷ i ∷ e ∷ [] empties [] assigns a ∷ [])
  unfolding touch
  set-touches a i e = refl

  pub arith-touches : (d op a b : ℕ) → touch P (ARITH d op a b) ≡ (reads a ∷ b ∷ [] empties [] assigns d ∷ [])
  unfolding touch
  arith-touches d op a b = refl

  pub select-touches : (d c a b : ℕ) → touch P (SELECT d c a b) ≡ (reads c ∷ a ∷ b ∷ [] empties [] assigns d ∷ [])
  unfolding touch
  select-touches d c a b = refl

  pub cast-touches : (d a : ℕ) → touch P (CAST d a) ≡ (reads a ∷ [] empties [] assigns d ∷ [])
  unfolding touch
  cast-touches d a = refl

  pub named-touches : (d x : ℕ) → touch P (NAMED d x) ≡ (reads [] empties [] assigns d ∷ [])
  unfolding touch
  named-touches d x = refl

  pub store-touches : (x a : ℕ) → touch P (STORE x a) ≡ (reads a ∷ [] empties [] assigns [])
  unfolding touch
  store-touches x a = refl

  pub prom-touches : (d block : ℕ) → touch P (PROM d block) ≡ (enters block assigns d ∷ [])
  unfolding touch
  prom-touches d block = refl

  pub force-touches : (d a : ℕ) → touch P (FORCE d a) ≡ (reads a ∷ [] empties [] assigns d ∷ [])
  unfolding touch
  force-touches d a = refl

  pub peek-touches : (d a x : ℕ) → touch P (PEEK d a x) ≡ (reads a ∷ [] empties [] assigns d ∷ [])
  unfolding touch
  peek-touches d a x = refl

  pub poke-touches : (a x e : ℕ) → touch P (POKE a x e) ≡ (reads a ∷ e ∷ [] empties [] assigns [])
  unfolding touch
  poke-touches a x e = refl

  -- a call empties what goes to owned parameters
  pub call-touches : (d f w : ℕ) (rs : List ℕ) (c : Version) → find_version P f w ≡ some c → touch P (CALL d f w rs) ≡ (reads rs empties (emptied (given c rs)) assigns d ∷ [])
  unfolding touch Option-elim
  call-touches d f w rs c e = rw e refl

  pub dispatch-touches : (d f mark ret : ℕ) (pairs : List Argument) → touch P (DISPATCH d f mark ret pairs) ≡ (reads (map (λ (a : Argument). a.register) pairs) empties (emptied pairs) assigns d ∷ [])
  unfolding touch
  dispatch-touches d f mark ret pairs = refl

  pub skip-touches : (a k : ℕ) → touch P (SKIP a k) ≡ (reads a ∷ [] skips k)
  unfolding touch
  skip-touches a k = refl
