-- Two programs, the second's functions behind the first's: both stand in the joined one, and what both passed it passes.
use Rattle.std.specs.Prelude.{None}
use mathlib.Core.Path.{◌≡◌, refl, ap, ◌∙◌}
use mathlib.Core.List.{List, [], ◌∷◌, ◌++◌, map}
use mathlib.Core.Option.{Option, none, some}
use mathlib.Core.Bool.{Bool, true, false, cond, ◌||◌}
use Prim.Native.Nat.{ℕ, ◌+◌, ◌≤◌, ◌<◌}
use native.Mathlib.Nat.{zero-add}
use native.Mathlib.Omega.{arith}
use lib.ListN.{length}
use lib.Dec.{eqb}
use borrow.Author.Tests.{eqb-true, eqb-false, ne_eqb, eq-eqb}
use Rattle.layout.specs.Kinds as kind
use Rattle.layout.specs.Tests.{◌and◌, any, found}
use Rattle.layout.specs.Records.{Rec}
use Rattle.layout.proofs.Bools.{and_both}
use Rattle.program.specs.Program.{Instr, LIT, MOVE, USE, DUP, VEC, LEN, GET, SET, ARITH, SELECT, CAST, NAMED, STORE, PROM, FORCE, PEEK, POKE, CALL, DISPATCH, SKIP, Line, Block, Version, Program, program, find_version, has_function}
use Rattle.program.specs.Search.{Question, first}
use Rattle.program.specs.Questions.{exists, question7}
use Rattle.program.proofs.Held.{Held, Helds, helds, helds-back}
use Rattle.program.proofs.Programs.{no-versions, program-version, program-other}
use Rattle.joins.specs.Shifted.{shift_instr, shift_line, shift_block, shift_version, shift_program}
use Rattle.joins.specs.Alongside.{shift_found, Carries, Names, NamesIn}
use Rattle.joins.proofs.Raised.{Fits}
use Rattle.joins.proofs.Ordered.{Low}
use Rattle.joins.proofs.Questions.{Asks, helds-shifted}

-- ---- functions below a number

unfoldable pub Below : ℕ → Program → Type 0
Below n [] = Unit {0}
Below n (v ∷ vs) = (v.function < n) × Below n vs

pub below-found : (n : ℕ) (P : Program) → Below n P → (f w : ℕ) (v : Version) → find_version P f w ≡ some v → f < n
unfolding Below find_version
below-found n [] b f w v e = let z : ◌≡◌ {A = ℕ} 0 1 = cc in absurd (omega arith)
below-found n (x ∷ P) b f w v e = go (eqb x.function f and eqb x.version w) refl e (λ g. below-found n P b.1 f w v g)
  where
    go : (t : Bool) → (eqb x.function f and eqb x.version w) ≡ t → cond t (some x) (find_version P f w) ≡ some v → (find_version P f w ≡ some v → f < n) → f < n
    go true q g ih = let y = eqb-true x.function f (and_both _ _ q).0 in omega (arith, y, b.0)
    go false q g ih = ih g

pub below_none : (n : ℕ) (P : Program) → Below n P → (f w : ℕ) → n ≤ f → find_version P f w ≡ none
unfolding Below find_version ◌and◌
below_none n [] b f w h = refl
below_none n (x ∷ P) b f w h = rw (ne_eqb x.function f (λ e. absurd (omega (arith, e, h, b.0)))) (below_none n P b.1 f w h)

below-has : (n : ℕ) (P : Program) → Below n P → (f : ℕ) → has_function f P ≡ true → f < n
unfolding Below any
below-has n [] b f e = let z : ◌≡◌ {A = ℕ} 0 1 = cc in absurd (omega arith)
below-has n (x ∷ P) b f e = go (eqb x.function f) refl e (λ g. below-has n P b.1 f g)
  where
    go : (t : Bool) → eqb x.function f ≡ t → (t || has_function f P) ≡ true → (has_function f P ≡ true → f < n) → f < n
    go true q g ih = let y = eqb-true x.function f q in omega (arith, y, b.0)
    go false q g ih = ih g

below-no : (n : ℕ) (P : Program) → Below n P → (f : ℕ) → n ≤ f → has_function f P ≡ false
unfolding Below any
below-no n [] b f h = refl
below-no n (x ∷ P) b f h = rw (ne_eqb x.function f (λ e. absurd (omega (arith, e, h, b.0)))) (below-no n P b.1 f h)

-- those of the records
pub below-records : (m : ℕ) (rs : List Rec) → Fits rs → Low m rs → Below m (program rs)
unfolding Fits Low Below
below-records m [] f w = rw no-versions tt
below-records m (r ∷ rs) f w = go (eqb r.kind kind.VERSION) refl (below-records m rs f.1 w.1)
  where
    go : (x : Bool) → eqb r.kind kind.VERSION ≡ x → Below m (program rs) → Below m (program (r ∷ rs))
    go true e ih = rw (program-version r rs f.0.size e) (w.0 (eqb-true _ _ e), ih)
    go false e ih = rw (program-other r rs f.0.size e) ih

-- ---- what question 7 says of the functions that are named

named : (n : ℕ) (P : Program) → Below n P → (v : Version) (m : ℕ) (i : Instr) → exists P v m i ≡ true → Names n i
unfolding exists Names found
named n P b v m (LIT d i) h = tt
named n P b v m (MOVE d a) h = tt
named n P b v m (USE d a) h = tt
named n P b v m (DUP d a) h = tt
named n P b v m (VEC d rs) h = tt
named n P b v m (LEN d a) h = tt
named n P b v m (GET d a i) h = tt
named n P b v m (SET a i e) h = tt
named n P b v m (ARITH d op a c) h = tt
named n P b v m (SELECT d x a c) h = tt
named n P b v m (CAST d a) h = tt
named n P b v m (NAMED d x) h = tt
named n P b v m (STORE x a) h = tt
named n P b v m (PROM d block) h = tt
named n P b v m (FORCE d a) h = tt
named n P b v m (PEEK d a x) h = tt
named n P b v m (POKE a x e) h = tt
named n P b v m (CALL d f w rs) h = go (find_version P f w) refl (and_both _ _ (and_both _ _ h).1).1
  where
    go : (x : Option Version) → find_version P f w ≡ x → found x (λ (c : Version). eqb (length rs) c.parameters) ≡ true → f < n
    go none e g = let z : ◌≡◌ {A = ℕ} 0 1 = cc in absurd (omega arith)
    go (some c) e g = below-found n P b f w c e
named n P b v m (DISPATCH d f mark ret pairs) h = below-has n P b f (and_both _ _ (and_both _ _ h).1).1
named n P b v m (SKIP a i) h = tt

pub names_in : (n : ℕ) (P : Program) → Below n P → (v : Version) → Held (question7 P) v → NamesIn n v
names_in n P b v h m B i l e g = named n P b v m l.does (h.of_instr m B i l e g)

-- ---- look-ups

pub find-behind : (P Q : Program) (f w : ℕ) → find_version P f w ≡ none → find_version (P ++ Q) f w ≡ find_version Q f w
unfolding find_version
find-behind [] Q f w e = refl
find-behind (x ∷ P) Q f w e = go (eqb x.function f and eqb x.version w) refl e (λ g. find-behind P Q f w g)
  where
    go : (t : Bool) → (eqb x.function f and eqb x.version w) ≡ t → cond t (some x) (find_version P f w) ≡ none → (find_version P f w ≡ none → find_version (P ++ Q) f w ≡ find_version Q f w) → cond t (some x) (find_version (P ++ Q) f w) ≡ find_version Q f w
    go true q g ih = let z : ◌≡◌ {A = ℕ} 0 1 = cc in absurd (omega arith)
    go false q g ih = ih g

find-front : (P Q : Program) (f w : ℕ) → find_version Q f w ≡ none → find_version (P ++ Q) f w ≡ find_version P f w
unfolding find_version
find-front [] Q f w e = e
find-front (x ∷ P) Q f w e = ap (λ (o : Option Version). cond (eqb x.function f and eqb x.version w) (some x) o) (find-front P Q f w e)

has-behind : (P Q : Program) (f : ℕ) → has_function f (P ++ Q) ≡ (has_function f P || has_function f Q)
unfolding any
has-behind [] Q f = refl
has-behind (x ∷ P) Q f = rw (has-behind P Q f) (or_assoc (eqb x.function f) (has_function f P) (has_function f Q))
  where
    or_assoc : (a b c : Bool) → (a || (b || c)) ≡ ((a || b) || c)
    or_assoc true b c = refl
    or_assoc false b c = refl

pub eqb-add : (k a b : ℕ) → eqb (k + a) (k + b) ≡ eqb a b
eqb-add k a b = go (eqb a b) refl
  where
    go : (x : Bool) → eqb a b ≡ x → eqb (k + a) (k + b) ≡ x
    go true e = eq-eqb (k + a) (k + b) (omega (arith, eqb-true a b e))
    go false e = ne_eqb (k + a) (k + b) (λ z. absurd (eqb-false a b e (omega (arith, z))))

module _ (k o : ℕ) where
  find-shifted : (Q : Program) (f w : ℕ) → find_version (shift_program k o Q) (k + f) w ≡ shift_found k o (find_version Q f w)
  unfolding find_version shift_found
  find-shifted [] f w = refl
  find-shifted (x ∷ Q) f w = rw (eqb-add k x.function f) (go (eqb x.function f and eqb x.version w) (find-shifted Q f w))
    where
      go : (t : Bool) → find_version (shift_program k o Q) (k + f) w ≡ shift_found k o (find_version Q f w) → cond t (some (shift_version k o x)) (find_version (shift_program k o Q) (k + f) w) ≡ shift_found k o (cond t (some x) (find_version Q f w))
      go true ih = refl
      go false ih = ih

  has-shifted : (Q : Program) (f : ℕ) → has_function (k + f) (shift_program k o Q) ≡ has_function f Q
  unfolding any
  has-shifted [] f = refl
  has-shifted (x ∷ Q) f = rw (eqb-add k x.function f, has-shifted Q f) refl

  -- below k stands nothing
  find-low : (Q : Program) (f w : ℕ) → f < k → find_version (shift_program k o Q) f w ≡ none
  unfolding find_version ◌and◌
  find-low [] f w h = refl
  find-low (x ∷ Q) f w h = rw (ne_eqb (k + x.function) f (λ e. absurd (omega (arith, e, h)))) (find-low Q f w h)

  has-low : (Q : Program) (f : ℕ) → f < k → has_function f (shift_program k o Q) ≡ false
  unfolding any
  has-low [] f h = refl
  has-low (x ∷ Q) f h = rw (ne_eqb (k + x.function) f (λ e. absurd (omega (arith, e, h)))) (has-low Q f h)

-- ---- functions raised

below-shifted : (k o m : ℕ) (Q : Program) → Below m Q → Below (k + m) (shift_program k o Q)
unfolding Below
below-shifted k o m [] b = tt
below-shifted k o m (v ∷ Q) b = (omega (arith, b.0), below-shifted k o m Q b.1)

-- ---- nothing raised

instr-0 : (i : Instr) → shift_instr 0 i ≡ i
unfolding shift_instr
instr-0 (LIT d i) = refl
instr-0 (MOVE d a) = refl
instr-0 (USE d a) = refl
instr-0 (DUP d a) = refl
instr-0 (VEC d rs) = refl
instr-0 (LEN d a) = refl
instr-0 (GET d a i) = refl
instr-0 (SET a i e) = refl
instr-0 (ARITH d op a b) = refl
instr-0 (SELECT d c a b) = refl
instr-0 (CAST d a) = refl
instr-0 (NAMED d x) = refl
instr-0 (STORE x a) = refl
instr-0 (PROM d block) = refl
instr-0 (FORCE d a) = refl
instr-0 (PEEK d a x) = refl
instr-0 (POKE a x e) = refl
instr-0 (CALL d f w rs) = rw (zero-add f) refl
instr-0 (DISPATCH d f mark ret pairs) = rw (zero-add f) refl
instr-0 (SKIP a m) = refl

lines-0 : (ls : List Line) → map (shift_line 0 0) ls ≡ ls
lines-0 [] = refl
lines-0 (l ∷ ls) = rw (instr-0 l.does, zero-add l.at, lines-0 ls) refl

blocks-0 : (bs : List Block) → map (shift_block 0 0) bs ≡ bs
blocks-0 [] = refl
blocks-0 (b ∷ bs) = rw (lines-0 b.code, zero-add b.at, blocks-0 bs) refl

version-0 : (v : Version) → shift_version 0 0 v ≡ v
version-0 v = rw (blocks-0 v.blocks, zero-add v.at, zero-add v.function) refl

program-0 : (P : Program) → shift_program 0 0 P ≡ P
program-0 [] = refl
program-0 (v ∷ P) = rw (version-0 v, program-0 P) refl

found-0 : (x : Option Version) → shift_found 0 0 x ≡ x
unfolding shift_found
found-0 none = refl
found-0 (some v) = ap some (version-0 v)

-- ---- the joined program

module _ (k m o : ℕ) (P Q : Program) (bp : Below k P) (bq : Below m Q) where
  abbrev pub J : Program
  J = P ++ shift_program k o Q

  -- the first program stands in it as it is
  pub carries-first : Carries 0 0 k P J
  carries-first = record {
    look = λ f w h. rw (zero-add f, found-0 (find_version P f w)) (find-front P (shift_program k o Q) f w (find-low k o Q f w h));
    has = λ f h. rw (zero-add f) (has-behind P (shift_program k o Q) f ∙ rw (has-low k o Q f h) (or-none (has_function f P)));
  }
    where
      or-none : (b : Bool) → (b || false) ≡ b
      or-none true = refl
      or-none false = refl

  -- the second renumbered
  pub carries-second : Carries k o m Q J
  carries-second = record {
    look = λ f w h. find-behind P (shift_program k o Q) (k + f) w (below_none k P bp (k + f) w (omega arith)) ∙ find-shifted k o Q f w;
    has = λ f h. has-behind P (shift_program k o Q) (k + f) ∙ rw (below-no k P bp (k + f) (omega arith)) (has-shifted k o Q f);
  }

  -- behind both stands nothing
  pub find-high : (f w : ℕ) → k + m ≤ f → find_version J f w ≡ none
  find-high f w h = find-behind P (shift_program k o Q) f w (below_none k P bp f w (omega (arith, h))) ∙ below_none (k + m) (shift_program k o Q) (below-shifted k o m Q bq) f w h

  helds-both : (q : Question) (vs ws : Program) → Helds q vs → Helds q ws → Helds q (vs ++ ws)
  unfolding Helds
  helds-both q [] ws h g = g
  helds-both q (v ∷ vs) ws h g = (h.0, helds-both q vs ws h.1 g)

  -- a question that finds the same in both finds nothing in the joined program
  pub first-joined : (q q' r : Question) → Asks 0 0 k P J carries-first q r → Asks k o m Q J carries-second q' r
      → first (question7 P) P ≡ None → first (question7 Q) Q ≡ None → first q P ≡ None → first q' Q ≡ None → first r J ≡ None
  first-joined q q' r a b p7 q7 p q₁ =
      helds-back r J (helds-both r P (shift_program k o Q)
      (rw (program-0 P) at (helds-shifted 0 0 k P J carries-first q r a P (names_in k P bp) (helds (question7 P) P p7) (helds q P p)))
      (helds-shifted k o m Q J carries-second q' r b Q (names_in m Q bq) (helds (question7 Q) Q q7) (helds q' Q q₁)))
