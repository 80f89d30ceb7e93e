-- Lists of registers as a loop gathers them: those it passed, and those that are left.
use Rattle.std.specs.Prelude.{None, Some}
use mathlib.Core.Path.{◌≡◌, refl, sym, ap, ap₂, ◌∙◌}
use mathlib.Core.List.{List, [], ◌∷◌}
use mathlib.Core.Bool.{true, false, or-false}
use Prim.Native.Nat.{ℕ, zero, suc, ◌+◌, ◌-◌, ◌*◌, ◌/◌, ◌≤◌, ◌<◌}
use native.Mathlib.Numerals.{add-one}
use native.Mathlib.Omega.{arith}
use lib.ListN.{length, drop, length-take}
use borrow.Author.Tests.{eq-eqb, ne_eqb}
use lib.Seq.{drop-cons, get_or-take}
use Rattle.layout.specs.Records.{◌!◌, records, body_at, every, fields}
use Rattle.layout.proofs.Fields.{length-every, every-at, fields_at}
use Rattle.program.specs.Places.{version_at, version_place}
use Rattle.program.proofs.Lookups.{version-found, version-missing}
use mathlib.Core.Option.{Option, none, some}
use Rattle.sets.specs.Sets.{Set, empty, only, those, both, ◌∪◌, set_of}
use Rattle.sets.proofs.Masks.{set-empty}
use Rattle.sets.proofs.Members.{union_assoc}
use Rattle.program.specs.Program.{Argument, Version, arguments, parameter_types, beside, program, find_version}
use Rattle.rules.specs.Types.{ownership_of, is_owned}
use Rattle.rules.specs.Actions.{Action, touching, promised, emptied}
use Rattle.flow.specs.Masks.{masked}

-- ---- unions

-- no register, and some
pub union-empty : (k m : ℕ) → set_of k m ∪ empty k ≡ set_of k m
unfolding set_of both empty
union-empty zero m = refl
union-empty (suc k) m = ap₂ ◌∷◌ (or-false _) (union-empty k _)

empty-empty : (k : ℕ) → empty k ∪ empty k ≡ empty k
unfolding both empty
empty-empty zero = refl
empty-empty (suc k) = ap (λ (l : Set). false ∷ l) (empty-empty k)

empty-only : (k r : ℕ) → empty k ∪ only k r ≡ only k r
unfolding both empty only
empty-only zero r = refl
empty-only (suc k) zero = ap (λ (l : Set). true ∷ l) (empty-empty k)
empty-only (suc k) (suc r) = ap (λ (l : Set). false ∷ l) (empty-only k r)

pub only-alone : (k r : ℕ) → only k r ∪ empty k ≡ only k r
unfolding both empty only
only-alone zero r = refl
only-alone (suc k) zero = ap (λ (l : Set). true ∷ l) (empty-empty k)
only-alone (suc k) (suc r) = ap (λ (l : Set). false ∷ l) (only-alone k r)

empty-union : (k : ℕ) (rs : List ℕ) → empty k ∪ those k rs ≡ those k rs
unfolding those
empty-union k [] = empty-empty k
empty-union k (r ∷ rs) = sym (union_assoc (empty k) (only k r) (those k rs)) ∙ ap (λ (l : Set). l ∪ those k rs) (empty-only k r)

-- ---- what a loop has gathered, and what is left to gather

pub record Gathers (all : List ℕ) (m : ℕ) (rest : List ℕ) : Type 0 where
  pub is : those 16 all ≡ set_of 16 m ∪ those 16 rest

pub gather-start : (rs : List ℕ) → Gathers rs 0 rs
gather-start rs = record { is = sym (ap (λ (l : Set). l ∪ those 16 rs) (set-empty 16) ∙ empty-union 16 rs) }

-- one more is gathered, or none; all are
pub gather-one : {all rest next : List ℕ} {m n r x : ℕ} (o : ℕ) → Gathers all m rest → rest ≡ r ∷ next → x ≡ r → set_of 16 o ≡ only 16 x → set_of 16 n ≡ set_of 16 m ∪ set_of 16 o → Gathers all n next
unfolding those
gather-one {all} {rest} {next} {m} {n} {r} {x} o g d h e f = record {
  is =
      g.is ∙ ap (λ (l : List ℕ). set_of 16 m ∪ those 16 l) d ∙ sym (union_assoc (set_of 16 m) (only 16 r) (those 16 next))
      ∙ ap (λ (l : Set). l ∪ those 16 next) (sym (f ∙ ap (λ (l : Set). set_of 16 m ∪ l) (e ∙ ap (only 16) h)));
}

pub gather_none : {all rest next : List ℕ} {m : ℕ} → Gathers all m rest → rest ≡ next → Gathers all m next
gather_none {all} {rest} {next} {m} g e = rw e at g

pub gather-end : {all rest : List ℕ} {m : ℕ} → Gathers all m rest → rest ≡ [] → set_of 16 m ≡ those 16 all
unfolding those
gather-end {all} {rest} {m} g e = sym (g.is ∙ ap (λ (l : List ℕ). set_of 16 m ∪ those 16 l) e ∙ union-empty 16 m)

-- ---- fields

pub fields-next : (b : List ℕ) (k step n i : ℕ) → i < n → every b k step (n - i) ≡ b ! k ∷ every b (k + step) step (n - (i + 1))
unfolding every
fields-next b k step n i h = let e : n - i ≡ suc (n - (i + 1)) = omega arith in rw e

pub fields-done : (b : List ℕ) (k step n i : ℕ) → n ≤ i → every b k step (n - i) ≡ []
unfolding every
fields-done b k step n i h = let e : n - i ≡ zero = omega arith in rw e

-- ---- the registers of owned parameters

-- of types beside registers, from the i-th on
abbrev pub owned_from : List ℕ → List ℕ → ℕ → List ℕ
owned_from ts rs i = emptied (beside (drop i ts) (drop i rs))

drop_past : (l : List ℕ) (i : ℕ) → length l ≤ i → drop i l ≡ []
drop_past [] zero h = refl
drop_past [] (suc i) h = refl
drop_past (x ∷ l) zero h = absurd (omega arith)
drop_past (x ∷ l) (suc i) h = drop_past l i (omega arith)

beside_none : (ts : List ℕ) → beside ts [] ≡ []
unfolding beside
beside_none [] = refl
beside_none (t ∷ ts) = refl

module _ (ts rs : List ℕ) (i : ℕ) where
  beside-next : i < length ts → i < length rs → beside (drop i ts) (drop i rs) ≡ record { type = ts ! i; register = rs ! i } ∷ beside (drop (i + 1) ts) (drop (i + 1) rs)
  unfolding beside
  beside-next h g = rw (add-one, drop-cons ts i 0 h, drop-cons rs i 0 g)

  pub owned-one : i < length ts → i < length rs → is_owned (ts ! i) ≡ true → owned_from ts rs i ≡ rs ! i ∷ owned_from ts rs (i + 1)
  unfolding emptied
  owned-one h g e = ap emptied (beside-next h g) ∙ simp e

  pub owned-other : i < length ts → i < length rs → is_owned (ts ! i) ≡ false → owned_from ts rs i ≡ owned_from ts rs (i + 1)
  unfolding emptied
  owned-other h g e = ap emptied (beside-next h g) ∙ simp e

  pub owned-done : length ts ≤ i → owned_from ts rs i ≡ []
  unfolding emptied beside
  owned-done h = rw (drop_past ts i h)

  pub owned-over : length rs ≤ i → owned_from ts rs i ≡ []
  unfolding emptied
  owned-over h = rw (drop_past rs i h) (ap emptied (beside_none (drop i ts)))

-- the pairs of a DISPATCH are types beside registers
pub pairs-beside : (b : List ℕ) (k n : ℕ) → arguments b k n ≡ beside (every b k 2 n) (every b (k + 1) 2 n)
unfolding arguments every beside
pairs-beside b k zero = refl
pairs-beside b k (suc n) = let e : k + 1 + 2 ≡ k + 2 + 1 = omega arith in rw e (ap (λ (l : List Argument). record { type = b ! k; register = b ! (k + 1) } ∷ l) (pairs-beside b (k + 2) n))

is-owned : {t u : ℕ} → t ≡ u → t / 16 ≡ 1 → is_owned u ≡ true
unfolding is_owned ownership_of
is-owned {t} {u} e h = eq-eqb (u / 16) 1 (sym (ap (λ (x : ℕ). x / 16) e) ∙ h)

not-owned : {t u : ℕ} → t ≡ u → (t / 16 ≡ 1 → ⊥) → is_owned u ≡ false
unfolding is_owned ownership_of
not-owned {t} {u} e h = ne_eqb (u / 16) 1 (λ x. h (ap (λ (y : ℕ). y / 16) e ∙ x))

-- ---- what a CALL gives to the parameters of the version at c, from the i-th on

abbrev pub call_owned : List ℕ → ℕ → ℕ → ℕ → List ℕ
call_owned s c p i = owned_from (parameter_types (version_at s c)) (fields (body_at s p) 4 (body_at s p ! 3)) i

parameter-inside : (v : Version) (i : ℕ) → i < v.parameters → i < length v.types → (i < length (parameter_types v)) × (parameter_types v ! i ≡ v.types ! i)
parameter-inside v i h g = (simp length-take (omega arith), get_or-take v.parameters v.types i 0 h)

module _ (s : List ℕ) (c p i : ℕ) {n : ℕ} (en : n ≡ body_at s p ! 3) where
  pub call-done : n ≤ i → call_owned s c p i ≡ []
  call-done h = owned-over (parameter_types (version_at s c)) (fields (body_at s p) 4 (body_at s p ! 3)) i (simp length-every (omega arith))

  module _ {m l : ℕ} (em : m ≡ (version_at s c).parameters) (el : l ≡ length (version_at s c).types) where
    pub call-past : m ≤ i → call_owned s c p i ≡ []
    call-past h = owned-done (parameter_types (version_at s c)) (fields (body_at s p) 4 (body_at s p ! 3)) i (simp length-take (omega arith))

    pub call-over : l ≤ i → call_owned s c p i ≡ []
    call-over h = owned-done (parameter_types (version_at s c)) (fields (body_at s p) 4 (body_at s p ! 3)) i (simp length-take (omega arith))

    module _ {t : ℕ} (hn : i < n) (hm : i < m) (hl : i < l) (et : t ≡ (version_at s c).types ! i) where
      inside : (i < length (parameter_types (version_at s c))) × (parameter_types (version_at s c) ! i ≡ (version_at s c).types ! i)
      inside = parameter-inside (version_at s c) i (omega arith) (omega arith)

      listed : i < length (fields (body_at s p) 4 (body_at s p ! 3))
      listed = simp length-every (omega arith)

      pub call-one : t / 16 ≡ 1 → call_owned s c p i ≡ body_at s p ! (4 + i) ∷ call_owned s c p (i + 1)
      call-one h =
          owned-one (parameter_types (version_at s c)) (fields (body_at s p) 4 (body_at s p ! 3)) i inside.0 listed (is-owned (et ∙ sym inside.1) h)
          ∙ ap (λ (r : ℕ). r ∷ call_owned s c p (i + 1)) (fields_at (body_at s p) 4 (body_at s p ! 3) i (omega arith))

      pub call-other : (t / 16 ≡ 1 → ⊥) → call_owned s c p i ≡ call_owned s c p (i + 1)
      call-other h = owned-other (parameter_types (version_at s c)) (fields (body_at s p) 4 (body_at s p ! 3)) i inside.0 listed (not-owned (et ∙ sym inside.1) h)

-- ---- what a DISPATCH gives, from the i-th pair on

abbrev pub pair_owned : List ℕ → ℕ → ℕ → List ℕ
pair_owned s p i = owned_from (every (body_at s p) 5 2 (body_at s p ! 4)) (every (body_at s p) 6 2 (body_at s p ! 4)) i

module _ (s : List ℕ) (p i : ℕ) {n : ℕ} (en : n ≡ body_at s p ! 4) where
  pub pair-done : n ≤ i → pair_owned s p i ≡ []
  pair-done h = owned-over (every (body_at s p) 5 2 (body_at s p ! 4)) (every (body_at s p) 6 2 (body_at s p ! 4)) i (simp length-every (omega arith))

  module _ {t : ℕ} (hn : i < n) (et : t ≡ body_at s p ! (5 + i * 2)) where
    there : (k : ℕ) → i < length (every (body_at s p) k 2 (body_at s p ! 4))
    there k = simp length-every (omega arith)

    type-is : t ≡ every (body_at s p) 5 2 (body_at s p ! 4) ! i
    type-is = et ∙ sym (every-at (body_at s p) 5 2 (body_at s p ! 4) i (omega arith))

    pub pair_one : t / 16 ≡ 1 → pair_owned s p i ≡ body_at s p ! (6 + i * 2) ∷ pair_owned s p (i + 1)
    pair_one h =
        owned-one (every (body_at s p) 5 2 (body_at s p ! 4)) (every (body_at s p) 6 2 (body_at s p ! 4)) i (there 5) (there 6) (is-owned type-is h)
        ∙ ap (λ (r : ℕ). r ∷ pair_owned s p (i + 1)) (every-at (body_at s p) 6 2 (body_at s p ! 4) i (omega arith))

    pub pair-other : (t / 16 ≡ 1 → ⊥) → pair_owned s p i ≡ pair_owned s p (i + 1)
    pair-other h = owned-other (every (body_at s p) 5 2 (body_at s p ! 4)) (every (body_at s p) 6 2 (body_at s p ! 4)) i (there 5) (there 6) (not-owned type-is h)

-- ---- what an instruction does, by the masks of what it reads, empties and assigns

pub none_named : set_of 16 0 ≡ those 16 []
unfolding those
none_named = set-empty 16

pub touched : (rs us ds : List ℕ) (r u d : ℕ) → set_of 16 r ≡ those 16 rs → set_of 16 u ≡ those 16 us → set_of 16 d ≡ those 16 ds
    → some (masked r d u 0) ≡ touching rs us ds
touched rs us ds r u d e f g = simp (e, f, g, set-empty)

pub promised-at : (w w' : Set) (o : Option Action) → w ≡ w' → promised w o ≡ promised w' o
promised-at w w' o e = rw e refl

-- the version that a CALL names, as the code looks it up
module _ (s : List ℕ) (p : ℕ) {f w : ℕ} (ef : f ≡ body_at s p ! 1) (ew : w ≡ body_at s p ! 2) where
  pub call-missing : version_place s f w ≡ None → find_version (program (records s)) (body_at s p ! 1) (body_at s p ! 2) ≡ none
  call-missing e = rw (← ef, ← ew) (version-missing s f w e)

  pub call-found : (q : ℕ) → version_place s f w ≡ Some q → find_version (program (records s)) (body_at s p ! 1) (body_at s p ! 2) ≡ some (version_at s q)
  call-found q e = rw (← ef, ← ew) (version-found s f w q e).0
