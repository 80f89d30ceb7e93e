-- Bounds that agree: a version with a bound depends only on versions with one, and its own is no less than what its instructions, block ends and calls come to.
use mathlib.Core.Path.{◌≡◌, refl, sym, ap, ◌∙◌, subst}
use mathlib.Core.List.{List, [], ◌∷◌, ◌++◌, Memᴰ}
use mathlib.Core.Option.{Option, none, some}
use mathlib.Core.Bool.{Bool, true, false, cond}
use Prim.Native.Nat.{ℕ, zero, suc, ◌≤◌}
use native.Mathlib.Omega.{arith}
use lib.ListN.{get_elem?}
use lib.Dec.{ltb}
use borrow.Author.Tests.{ltb-true, ltb-false}
use Rattle.layout.specs.Bounds.{VERSIONS}
use Rattle.layout.specs.Tests.{◌and◌, found}
use Rattle.layout.proofs.Bools.{and_both, found_some, found_none}
use Rattle.program.specs.Program.{Argument, CALL, DISPATCH, Line, Block, Version, Program, find_version, parameter_types}
use Rattle.machine.specs.Try.{got, or_stuck}
use Rattle.machine.specs.Calls.{matching, dispatches, lowest, picked}
use Rattle.machine.proofs.Tries.{or-stuck}
use Rattle.program.proofs.Held.{find-own}
use Rattle.bounds.specs.Bounds.{allows, passing, fitting, reaches, reached_by, reached_in, dependencies, greater, largest, steps_of}

-- ---- lists

pub mem-left : {A : Type 0} (x : A) (l m : List A) → Memᴰ x l → Memᴰ x (l ++ m)
mem-left x [] m h = elim h [ ]
mem-left x (y ∷ l) m (Memᴰ.head e) = Memᴰ.head e
mem-left x (y ∷ l) m (Memᴰ.tail h) = Memᴰ.tail (mem-left x l m h)

pub mem-right : {A : Type 0} (x : A) (l m : List A) → Memᴰ x m → Memᴰ x (l ++ m)
mem-right x [] m h = h
mem-right x (y ∷ l) m h = Memᴰ.tail (mem-right x l m h)

-- ---- the version that is entered is one that is reached

-- it passed
passing-in : (p : Version → Bool) (o : Option Version) (X : Version) → o ≡ some X → p X ≡ true → Memᴰ X (passing p o)
unfolding passing
passing-in p o X e h = rw (e, h) (Memᴰ.head refl)

-- CALL
pub call-reaches : (P : Program) (v : Version) (d f w : ℕ) (rs : List ℕ) (X : Version) → find_version P f w ≡ some X → Memᴰ X (reaches P v (CALL d f w rs))
unfolding reaches
call-reaches P v d f w rs X e = passing-in (λ c. true) (find_version P f w) X e refl

-- DISPATCH picks one that passes, of those that are found
lowest-in : (P : Program) (f : ℕ) (passes p : Version → Bool) → ((X : Version) → passes X ≡ true → p X ≡ true) → (n w : ℕ) (X : Version) → lowest P f passes n w ≡ got X → (find_version P X.function X.version ≡ some X) × Memᴰ X (fitting P f p n w)
unfolding lowest fitting
lowest-in P f passes p h zero w X e = let z : ◌≡◌ {A = ℕ} 0 1 = cc in absurd (omega arith)
lowest-in P f passes p h (suc n) w X e = go (find_version P f w) refl (λ q. lowest-in P f passes p h n (suc w) X q) e
  where
    Out : Type 0
    Out = (find_version P X.function X.version ≡ some X) × Memᴰ X (passing p (find_version P f w) ++ fitting P f p n (suc w))

    later : (lowest P f passes n (suc w) ≡ got X → (find_version P X.function X.version ≡ some X) × Memᴰ X (fitting P f p n (suc w))) → lowest P f passes n (suc w) ≡ got X → Out
    later ih q = ((ih q).0, mem-right X (passing p (find_version P f w)) (fitting P f p n (suc w)) (ih q).1)

    here : (Y : Version) → find_version P f w ≡ some Y → (b : Bool) → passes Y ≡ b → (lowest P f passes n (suc w) ≡ got X → (find_version P X.function X.version ≡ some X) × Memᴰ X (fitting P f p n (suc w)))
        → (elim b [ true ↦ or_stuck (find_version P f w) | false ↦ lowest P f passes n (suc w) ]) ≡ got X → Out
    here Y o true t ih q =
        let x : find_version P f w ≡ some X = or-stuck (find_version P f w) X q in
        let y : ◌≡◌ {A = Option Version} (some Y) (some X) = sym o ∙ x in
        let z : Y ≡ X = cc in
        (find-own P f w X x, mem-left X (passing p (find_version P f w)) (fitting P f p n (suc w)) (passing-in p (find_version P f w) X x (h X (subst (λ (v : Version). passes v ≡ true) z t))))
    here Y o false t ih q = later ih q

    go : (o : Option Version) → find_version P f w ≡ o → (lowest P f passes n (suc w) ≡ got X → (find_version P X.function X.version ≡ some X) × Memᴰ X (fitting P f p n (suc w)))
        → (elim (found (find_version P f w) passes) [ true ↦ or_stuck (find_version P f w) | false ↦ lowest P f passes n (suc w) ]) ≡ got X → Out
    go none o ih q = later ih (rw (found_none passes o) at q)
    go (some Y) o ih q = here Y o (passes Y) refl ih (rw (found_some passes o) at q)

and_assoc : (a b c : Bool) → ((a and b) and c) ≡ (a and (b and c))
unfolding ◌and◌
and_assoc true b c = refl
and_assoc false b c = refl

-- THE LAW: a DISPATCH picks by what its signature allows, and by the kinds of its arguments
pub dispatches-is : (level mark ret : ℕ) (pairs : List Argument) (ks : List ℕ) (X : Version) → dispatches level mark ret pairs ks X ≡ (allows level mark ret pairs X and matching ks (parameter_types X))
unfolding dispatches allows
dispatches-is level mark ret pairs ks X = simp and_assoc

-- so its signature allows what it picks
pub dispatch-allows : (level mark ret : ℕ) (pairs : List Argument) (ks : List ℕ) (X : Version) → dispatches level mark ret pairs ks X ≡ true → allows level mark ret pairs X ≡ true
dispatch-allows level mark ret pairs ks X h = (and_both _ _ (sym (dispatches-is level mark ret pairs ks X) ∙ h)).0

pub dispatch-reaches : (P : Program) (v : Version) (d f mark ret : ℕ) (pairs : List Argument) (ks : List ℕ) (X : Version) → picked P v.level f mark ret pairs ks ≡ got X → (find_version P X.function X.version ≡ some X) × Memᴰ X (reaches P v (DISPATCH d f mark ret pairs))
unfolding picked reaches
dispatch-reaches P v d f mark ret pairs ks X e = lowest-in P f (dispatches v.level mark ret pairs ks) (allows v.level mark ret pairs) (λ Y h. dispatch-allows v.level mark ret pairs ks Y h) VERSIONS 0 X e

-- ---- what an instruction reaches, its version depends on

line-reaches : (P : Program) (v : Version) (ls : List Line) (i : ℕ) (l : Line) (X : Version) → get_elem? ls i ≡ some l → Memᴰ X (reaches P v l.does) → Memᴰ X (reached_by P v ls)
unfolding reached_by
line-reaches P v [] i l X e h = let z : ◌≡◌ {A = ℕ} 0 1 = cc in absurd (omega arith)
line-reaches P v (x ∷ ls) zero l X e h = let q : x ≡ l = cc in mem-left X (reaches P v x.does) (reached_by P v ls) (rw q h)
line-reaches P v (x ∷ ls) (suc i) l X e h = mem-right X (reaches P v x.does) (reached_by P v ls) (line-reaches P v ls i l X e h)

block-reaches : (P : Program) (v : Version) (bs : List Block) (b : ℕ) (x : Block) (X : Version) → get_elem? bs b ≡ some x → Memᴰ X (reached_by P v x.code) → Memᴰ X (reached_in P v bs)
unfolding reached_in
block-reaches P v [] b x X e h = let z : ◌≡◌ {A = ℕ} 0 1 = cc in absurd (omega arith)
block-reaches P v (y ∷ bs) zero x X e h = let q : y ≡ x = cc in mem-left X (reached_by P v y.code) (reached_in P v bs) (rw q h)
block-reaches P v (y ∷ bs) (suc b) x X e h = mem-right X (reached_by P v y.code) (reached_in P v bs) (block-reaches P v bs b x X e h)

pub depends-on : (P : Program) (v : Version) (b : ℕ) (x : Block) (i : ℕ) (l : Line) (X : Version) → get_elem? v.blocks b ≡ some x → get_elem? x.code i ≡ some l → Memᴰ X (reaches P v l.does) → Memᴰ X (dependencies P v)
unfolding dependencies
depends-on P v b x i l X e g h = block-reaches P v v.blocks b x X e (line-reaches P v x.code i l X g h)

-- and its bound is no greater than the largest
greater-left : (a b : ℕ) → a ≤ greater a b
unfolding greater
greater-left a b = go (ltb a b) refl
  where
    go : (t : Bool) → ltb a b ≡ t → a ≤ cond t b a
    go true e = omega (arith, ltb-true a b e)
    go false e = omega arith

greater-right : (a b : ℕ) → b ≤ greater a b
unfolding greater
greater-right a b = go (ltb a b) refl
  where
    go : (t : Bool) → ltb a b ≡ t → b ≤ cond t b a
    go true e = omega arith
    go false e = omega (arith, ltb-false a b e)

pub in-largest : (bound : Version → ℕ) (vs : List Version) (X : Version) → Memᴰ X vs → bound X ≤ largest bound vs
unfolding largest
in-largest bound [] X h = elim h [ ]
in-largest bound (v ∷ vs) X (Memᴰ.head e) = let g = greater-left (bound v) (largest bound vs) in let q : bound X ≡ bound v = ap bound e in omega arith
in-largest bound (v ∷ vs) X (Memᴰ.tail h) = let g = greater-right (bound v) (largest bound vs) in let r = in-largest bound vs X h in omega arith

-- ---- bounds that agree

-- found by its own numbers
abbrev pub Own : Program → Version → Type 0
Own P v = find_version P v.function v.version ≡ some v

pub record Priced (P : Program) (bound : Version → ℕ) (G : Version → Bool) : Type 0 where
  pub closed : (v X : Version) → Own P v → G v ≡ true → Own P X → Memᴰ X (dependencies P v) → G X ≡ true
  pub covers : (v : Version) → Own P v → G v ≡ true → steps_of P bound v ≤ bound v
