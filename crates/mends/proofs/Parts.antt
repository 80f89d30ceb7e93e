-- What the parts of the search for a mend know on their way.
use Rattle.std.specs.Prelude.{None, Err, Ok, Some, Option}
use mathlib.Core.Path.{◌≡◌, refl, sym, ap, ◌∙◌, subst}
use mathlib.Core.Logic.{inl, inr}
use mathlib.Core.List.{List, [], ◌∷◌, ◌++◌, flat_map, append-nil}
use mathlib.Core.Bool.{Bool, true, false, cond, not, true≢false}
use Prim.Native.Nat.{ℕ, zero, suc, ◌+◌, ◌-◌, ◌≤◌, ◌<◌}
use native.Mathlib.Omega.{arith}
use lib.ListN.{length, set, take, drop, drop_of_length-le}
use lib.Seq.{drop-cons, set-get_or}
use lib.Dec.{ltb, leb}
use borrow.Author.Tests.{eq-eqb, ne_eqb, leb-true}
use Rattle.layout.specs.Bounds.{IMAGE}
use Rattle.layout.specs.Kinds as kind
use Rattle.layout.specs.Tests.{◌and◌}
use Rattle.layout.specs.Records.{Rec, ◌!◌, size_at, kind_at, records, choose}
use Rattle.layout.specs.Questions.{question1}
use Rattle.layout.proofs.Behind.{Chain, chained}
use Rattle.layout.proofs.Bools.{and_both, and-on, and-off}
use Rattle.layout.proofs.Walk.{size_in}
use Rattle.program.specs.Program.{Program, program, nowhere}
use Rattle.program.specs.Places.{asked, numbers, table_of, version_at, view_at}
use Rattle.program.specs.declared.Here.{Here}
use Rattle.program.specs.Search.{first}
use Rattle.program.proofs.Laid.{passed}
use Rattle.program.proofs.Views.{Whole, at-version, view-end, view-past}
use Rattle.rules.specs.Types.{is_owned}
use Rattle.rules.specs.Flows.{question10}
use Rattle.checker.specs.Verdicts.{verdict_of}
use Rattle.checker.proofs.Asks.{same_ahead}
use Rattle.writer.specs.Text.{placed}
use Rattle.writer.proofs.Placed.{placed-fits}
use Rattle.checker.specs.declared.Refusal.{Refusal}
use Rattle.mends.specs.declared.Change.{Change}
use Rattle.mends.specs.declared.Mended.{Mended}
use Rattle.mends.specs.declared.Mended.TheVariants.{Accepted, Refused, Byte, Unmended}
use Rattle.mends.specs.Mends.{places, VALUES, is_accepted, mends_by, first_value, or_else, first_place, mendable, beside, mend_after, mend_of, to}
use Rattle.mends.specs.Parts.{TYPES, question_by, Among, Passing, Told, RefusedBy, Failing, Owned, Helps}
use Rattle.mends.specs.Retyped.{retype}
use Rattle.mends.proofs.Changed.{Typed}
use Rattle.mends.proofs.Likewise.{accepted-first, refused-first, no_place}
use Rattle.mends.proofs.Mending.{sound-records, all_typed, changed, bool_false, short}
use Rattle.mends.proofs.Owning.{flow-by-ownership}
use Rattle.mends.proofs.Searches.{places-both}
use Rattle.mends.proofs.Tables.{table_kept}

-- ---- the type bytes

pub low-types : (i : ℕ) → i < 6 → TYPES ! i ≡ i
low-types zero h = refl
low-types (suc zero) h = refl
low-types (suc (suc zero)) h = refl
low-types (suc (suc (suc zero))) h = refl
low-types (suc (suc (suc (suc zero)))) h = refl
low-types (suc (suc (suc (suc (suc zero))))) h = refl
low-types (suc (suc (suc (suc (suc (suc i)))))) h = absurd (omega (arith, h))

-- ---- one byte

typed-inside : (p : ℕ) (rs : List Rec) (c e : ℕ) → Chain c rs e → Typed p rs → p < e
unfolding Chain Typed
typed-inside p [] c e ch t = absurd t
typed-inside p (r ∷ rs) c e ch (inl t) = omega (arith, ch.0, t.2, behind rs (c + r.size) e ch.2)
  where
    behind : (rs : List Rec) (c e : ℕ) → Chain c rs e → c ≤ e
    behind [] c e ch = omega (arith, ch)
    behind (r ∷ rs) c e ch = omega (arith, behind rs (c + r.size) e ch.2)
typed-inside p (r ∷ rs) c e ch (inr t) = typed-inside p rs (c + r.size) e ch.2 t

-- it stands in the image
pub place_inside : {s : List ℕ} {q r : ℕ} → RefusedBy s q r → (p : ℕ) → Among p (places (program (records s))) → p < length s
place_inside {s} {q} {r} f p a = typed-inside p (records s) 0 (length s) (chained s (sound-records s q r f.may f.refused).1) (all_typed s q r f.may f.refused p a)

pub same-value : (s : List ℕ) (p x : ℕ) {y : ℕ} → y ≡ s ! p → y ≡ x → false ≡ mends_by s p x
unfolding mends_by
same-value s p x e f = sym (and-off _ (rw (eq-eqb x (s ! p) (sym f ∙ e)) refl))

pub other-value : (s : List ℕ) (p x : ℕ) {y : ℕ} {m : Bool} → y ≡ s ! p → (y ≡ x → ⊥) → m ≡ is_accepted (verdict_of (set s p x)) → m ≡ mends_by s p x
unfolding mends_by
other-value s p x e f g = g ∙ sym (and-on _ (rw (ne_eqb x (s ! p) (λ z. f (e ∙ sym z))) refl))

set_twice : (l : List ℕ) (i x y : ℕ) → set (set l i x) i y ≡ set l i y
set_twice [] i x y = refl
set_twice (a ∷ l) zero x y = refl
set_twice (a ∷ l) (suc i) x y = ap (λ (t : List ℕ). a ∷ t) (set_twice l i x y)

pub changed-back : (s : List ℕ) (p x : ℕ) {y : ℕ} → y ≡ s ! p → set (set s p x) p y ≡ s
changed-back s p x e = rw e (set_twice s p x (s ! p) ∙ set-get_or s p 0)

pub still-table : {s t : List ℕ} {q r : ℕ} {h : Here} → Failing s t q r h → (p x : ℕ) → Among p (places (program (records s))) → t ≡ table_of (set s p x)
still-table {s} {t} {q} {r} f p x a = f.table ∙ sym (table_kept s q r f.refusal.may f.refusal.refused p x a)

-- the image by another name
pub failing-as : {s now t : List ℕ} {q r : ℕ} {h : Here} → now ≡ s → Failing s t q r h → Failing now t q r h
failing-as {t = t} {q = q} {r = r} {h = h} e f = subst (λ (l : List ℕ). Failing l t q r h) (sym e) f

pub among-as : {s now : List ℕ} (p : ℕ) → now ≡ s → Among p (places (program (records s))) → Among p (places (program (records now)))
among-as p e a = subst (λ (l : List ℕ). Among p (places (program (records l)))) (sym e) a

-- ---- whether it is accepted

pub fails-first : (q : ℕ) (h : Here) (r : ℕ) (s : List ℕ) {b : Bool} → Passing q h r s → b ≡ asked (question_by q (program (records s))) s h r → b ≡ false → false ≡ is_accepted (verdict_of s)
unfolding Passing
fails-first q h r s f e z = go (is_accepted (verdict_of s)) refl
  where
    go : (a : Bool) → is_accepted (verdict_of s) ≡ a → false ≡ is_accepted (verdict_of s)
    go true g = sym z ∙ e ∙ f (accepted-first s q g) ∙ sym g
    go false g = sym g

-- ---- whether a change of a byte can help

-- the byte at p of an image that 10 refuses
module _ {s t : List ℕ} {r : ℕ} {h : Here} (f : Failing s t 10 r h) (p : ℕ) (a : Among p (places (program (records s)))) where
  abbrev Allowed : Program → Type 0
  Allowed P = first (question10 P) P ≡ None

  program-with : (x : ℕ) → program (records (set s p x)) ≡ retype p x (program (records s))
  program-with x = changed s 10 r f.refusal.may f.refusal.refused p a x

  -- after two changes to values that agree in ownership 10 says the same
  allowed-as : (x y : ℕ) → is_owned x ≡ is_owned y → Allowed (program (records (set s p x))) → Allowed (program (records (set s p y)))
  allowed-as x y o e = subst Allowed (sym (program-with y)) (flow-by-ownership x y o p (program (records s)) (subst Allowed (program-with x) e))

  -- the value that the byte has does not pass
  own-fails : Allowed (program (records (set s p (s ! p)))) → ⊥
  unfolding question_by choose
  own-fails e = no_place r (sym (refused-first s 10 r f.refusal.may f.refusal.refused) ∙ subst (λ (l : List ℕ). Allowed (program (records l))) (set-get_or s p 0) e)

  -- where one value of the other ownership does not pass, none mends
  pub none-helps : (y : ℕ) → is_owned y ≡ not (is_owned (s ! p)) → asked (question10 (program (records (set s p y)))) (set s p y) h r ≡ false → (x : ℕ) → mends_by s p x ≡ false
  unfolding mends_by Told Passing question_by choose
  none-helps y o e x = bool_false (mends_by s p x) (λ g. go (is_owned x) (is_owned (s ! p)) refl refl o (accepted-first (set s p x) 10 (and_both _ _ g).1))
    where
      go : (b c : Bool) → is_owned x ≡ b → is_owned (s ! p) ≡ c → is_owned y ≡ not c → Allowed (program (records (set s p x))) → ⊥
      go true true u v w k = own-fails (allowed-as x (s ! p) (u ∙ sym v) k)
      go false false u v w k = own-fails (allowed-as x (s ! p) (u ∙ sym v) k)
      go true false u v w k = true≢false (sym (f.told p y a (allowed-as x y (u ∙ sym w) k)) ∙ e)
      go false true u v w k = true≢false (sym (f.told p y a (allowed-as x y (u ∙ sym w) k)) ∙ e)

-- what was tried tells of every value
pub helps-as : {s t : List ℕ} {q r : ℕ} {h : Here} → Failing s t q r h → q ≡ 10 → (p y : ℕ) → Among p (places (program (records s))) → is_owned y ≡ not (is_owned (s ! p))
    → (b : Bool) → b ≡ asked (question_by q (program (records (set s p y)))) (set s p y) h r → Helps b s p
unfolding Helps question_by choose
helps-as f e p y a o true g = tt
helps-as {s} {t} {q} {r} {h} f e p y a o false g =
    none-helps (subst (λ (i : ℕ). Failing s t i r h) e f) p a y o (sym (g ∙ ap (λ (i : ℕ). asked (question_by i (program (records (set s p y)))) (set s p y) h r) e))

-- a byte that cannot help has no value that mends
pub helpless : (s : List ℕ) (p : ℕ) (b : Bool) → Helps b s p → b ≡ false → None ≡ first_value (mends_by s p) p TYPES
unfolding Helps first_value
helpless s p true h e = absurd (true≢false e)
helpless s p false h e = sym (none TYPES)
  where
    none : (xs : List ℕ) → first_value (mends_by s p) p xs ≡ None
    none [] = refl
    none (x ∷ xs) = rw (h x) (none xs)

-- ---- values

-- the first i of the type bytes do not mend at p
pub record Valuing (s now : List ℕ) (p i : ℕ) : Type 0 where
  pub same : now ≡ s
  pub few : i ≤ 8
  pub left : first_value (mends_by s p) p TYPES ≡ first_value (mends_by s p) p (drop i TYPES)

pub value-first : (s : List ℕ) (p : ℕ) → Valuing s s p 0
value-first s p = record { same = refl; few = omega arith; left = refl }

-- the image by another name
pub valued_as : {s now later : List ℕ} {c : Option Change} (p : ℕ) → now ≡ s → (c ≡ first_value (mends_by now p) p TYPES) × (later ≡ now) → (c ≡ first_value (mends_by s p) p TYPES) × (later ≡ s)
valued_as {s} {now} {later} {c} p e h = subst (λ (l : List ℕ). (c ≡ first_value (mends_by l p) p TYPES) × (later ≡ l)) e h

module _ {s now : List ℕ} {p i : ℕ} (w : Valuing s now p i) where
  value-test : i < 8 → {x : ℕ} {m : Bool} → x ≡ TYPES ! i → m ≡ mends_by now p x → first_value (mends_by s p) p TYPES ≡ cond m (Some (to p x)) (first_value (mends_by s p) p (drop (suc i) TYPES))
  unfolding first_value
  value-test h {x} {m} e f =
      let g : m ≡ mends_by s p (TYPES ! i) = f ∙ ap (λ (t : List ℕ). mends_by t p x) w.same ∙ ap (mends_by s p) e in
      w.left ∙ ap (first_value (mends_by s p) p) (drop-cons TYPES i 0 h) ∙ rw (sym g, sym e) refl

  pub value-hit : i < 8 → {x : ℕ} {m : Bool} {later : List ℕ} → x ≡ TYPES ! i → m ≡ mends_by now p x → m ≡ true → later ≡ now → (Some (to p x) ≡ first_value (mends_by s p) p TYPES) × (later ≡ s)
  value-hit h {x} e f t g = (sym (value-test h e f ∙ rw t refl), g ∙ w.same)

  pub value-next : i < 8 → {x : ℕ} {m : Bool} {later : List ℕ} → x ≡ TYPES ! i → m ≡ mends_by now p x → m ≡ false → later ≡ now → Valuing s later p (i + 1)
  value-next h {x} e f t g = let n : i + 1 ≡ suc i = omega arith in record { same = g ∙ w.same; few = omega arith; left = value-test h e f ∙ rw (t, n) refl }

  pub value-last : 8 ≤ i → (None ≡ first_value (mends_by s p) p TYPES) × (now ≡ s)
  unfolding first_value
  value-last h = let n : i ≡ 8 = omega (arith, h, w.few) in (sym (w.left ∙ rw n refl), w.same)

-- ---- places

-- the first i of the n places do not mend
pub record Placing (s now : List ℕ) (from n i : ℕ) : Type 0 where
  pub same : now ≡ s
  pub few : i ≤ n
  pub left : first_place (mends_by s) TYPES (numbers from n) ≡ first_place (mends_by s) TYPES (numbers (from + i) (n - i))

pub place-first : (s : List ℕ) (from n : ℕ) → Placing s s from n 0
place-first s from n = let e : from + 0 ≡ from = omega arith in let f : n - 0 ≡ n = omega arith in record { same = refl; few = omega arith; left = rw (e, f) refl }

pub among-number : (from n i : ℕ) → i < n → Among (from + i) (numbers from n)
unfolding numbers Among
among-number from zero i h = absurd (omega arith)
among-number from (suc n) zero h = inl (omega arith)
among-number from (suc n) (suc i) h = let e : from + suc i ≡ from + 1 + i = omega arith in inr (subst (λ (x : ℕ). Among x (numbers (from + 1) n)) (sym e) (among-number (from + 1) n i (omega arith)))

pub place-owned : {s now : List ℕ} {from n i : ℕ} → Placing s now from n i → Owned s from n → i < n → Among (from + i) (places (program (records now)))
unfolding Owned
place-owned {s} {now} {from} {n} {i} w o h = rw w.same (o (from + i) (among-number from n i h))

pub place-few : {s : List ℕ} {q r : ℕ} → RefusedBy s q r → (from n i : ℕ) → Owned s from n → i < n → from + i < length s
unfolding Owned
place-few f from n i o h = place_inside f (from + i) (o (from + i) (among-number from n i h))

module _ {s now : List ℕ} {from n i : ℕ} (w : Placing s now from n i) (h : i < n) where
  place-test : {c : Option Change} → c ≡ first_value (mends_by now (from + i)) (from + i) TYPES → first_place (mends_by s) TYPES (numbers from n) ≡ or_else c (first_place (mends_by s) TYPES (numbers (from + i + 1) (n - (i + 1))))
  unfolding first_place numbers
  place-test {c} e =
      let m : n - i ≡ suc (n - (i + 1)) = omega arith in
      w.left ∙ ap (λ (k : ℕ). first_place (mends_by s) TYPES (numbers (from + i) k)) m
      ∙ ap (λ (d : Option Change). or_else d (first_place (mends_by s) TYPES (numbers (from + i + 1) (n - (i + 1))))) (sym (e ∙ ap (λ (t : List ℕ). first_value (mends_by t (from + i)) (from + i) TYPES) w.same))

  pub place-hit : {c : Option Change} {hit : Change} {later : List ℕ} → c ≡ first_value (mends_by now (from + i)) (from + i) TYPES → c ≡ Some hit → later ≡ now → (Some hit ≡ first_place (mends_by s) TYPES (numbers from n)) × (later ≡ s)
  unfolding or_else
  place-hit e f g = (sym (place-test e ∙ rw f refl), g ∙ w.same)

  pub place-next : {c : Option Change} {later : List ℕ} → c ≡ first_value (mends_by now (from + i)) (from + i) TYPES → c ≡ None → later ≡ now → Placing s later from n (i + 1)
  unfolding or_else
  place-next e f g = let k : from + (i + 1) ≡ from + i + 1 = omega arith in record { same = g ∙ w.same; few = omega arith; left = place-test e ∙ rw (f, k) refl }

pub place-last : {s now : List ℕ} {from n i : ℕ} → Placing s now from n i → n ≤ i → (None ≡ first_place (mends_by s) TYPES (numbers from n)) × (now ≡ s)
unfolding first_place numbers
place-last {n = n} {i = i} w h = let e : n - i ≡ 0 = omega arith in (sym (w.left ∙ rw e refl), w.same)

-- ---- versions

-- the places of the versions before p do not mend
pub record Searching (s now : List ℕ) (p : ℕ) : Type 0 where
  pub same : now ≡ s
  pub inside : p ≤ length s
  pub left : first_place (mends_by s) TYPES (places (program (records s))) ≡ first_place (mends_by s) TYPES (places (view_at s p).versions)
  pub owned : (x : ℕ) → Among x (places (view_at s p).versions) → Among x (places (program (records s)))

pub search-first : (s : List ℕ) → Searching s s 0
search-first s = record { same = refl; inside = omega arith; left = refl; owned = λ x a. a }

among_first : (p : ℕ) (a b : List ℕ) → Among p a → Among p (a ++ b)
unfolding Among
among_first p [] b h = absurd h
among_first p (q ∷ a) b (inl e) = inl e
among_first p (q ∷ a) b (inr h) = inr (among_first p a b h)

among_second : (p : ℕ) (a b : List ℕ) → Among p b → Among p (a ++ b)
unfolding Among
among_second p [] b h = h
among_second p (q ∷ a) b h = inr (among_second p a b h)

-- what is read in the image as it is now
pub search-whole : {s now : List ℕ} {p n k : ℕ} → Searching s now p → p < length now → n ≡ size_at now p → (n ≡ 0 → ⊥) → k ≡ kind_at now p → Whole s p n k × (p + n ≤ length s)
search-whole {s} {now} {p} {n} {k} w l e z g =
    let f : n ≡ size_at s p = e ∙ ap (λ (t : List ℕ). size_at t p) w.same in
    (record { inside = omega (arith, l, ap length w.same); size = f; whole = z; kind = g ∙ ap (λ (t : List ℕ). kind_at t p) w.same }, (size_in s p f z).1)

pub search-types : {s now : List ℕ} {p many : ℕ} → Searching s now p → many ≡ length (version_at now p).types → many ≡ length (version_at s p).types
search-types {p = p} w e = e ∙ ap (λ (t : List ℕ). length (version_at t p).types) w.same

pub owned-as : {s now : List ℕ} (from n : ℕ) → now ≡ s → Owned s from n → Owned now from n
owned-as from n e o = subst (λ (t : List ℕ). Owned t from n) (sym e) o

pub search-broken : {s now : List ℕ} {p n : ℕ} → Searching s now p → n ≡ size_at now p → n ≡ 0 → view_at s p ≡ nowhere
search-broken {s} {p = p} w e z = view-past s p (sym (e ∙ ap (λ (t : List ℕ). size_at t p) w.same) ∙ z)

pub search-past : {s now : List ℕ} {p : ℕ} → Searching s now p → length now ≤ p → view_at s p ≡ nowhere
search-past {s} {p = p} w h = view-end s p (omega (arith, h, ap length w.same))

pub search-nowhere : {s now : List ℕ} {p : ℕ} → Searching s now p → view_at s p ≡ nowhere → (None ≡ first_place (mends_by s) TYPES (places (program (records s)))) × (now ≡ s)
unfolding first_place flat_map
search-nowhere w e = (sym (w.left ∙ rw e refl), w.same)

module _ {s now : List ℕ} {p n k : ℕ} (w : Searching s now p) (m : Whole s p n k) (l : p + n ≤ length s) where
  pub search-other : (k ≡ kind.VERSION → ⊥) → Searching s now (p + n)
  search-other x = let e = same_ahead m x in record { same = w.same; inside = l; left = w.left ∙ ap (λ (vs : Program). first_place (mends_by s) TYPES (places vs)) e; owned = λ y a. w.owned y (subst (λ (vs : Program). Among y (places vs)) (sym e) a) }

  module _ (x : k ≡ kind.VERSION) {many : ℕ} (e : many ≡ length (version_at s p).types) where
    here : places (view_at s p).versions ≡ numbers (p + 10) many ++ places (view_at s (p + n)).versions
    unfolding flat_map version_at
    here = rw (at-version m x, e) refl

    pub search-owned : Owned s (p + 10) many
    unfolding Owned
    search-owned = λ y a. w.owned y (subst (Among y) (sym here) (among_first y (numbers (p + 10) many) (places (view_at s (p + n)).versions) a))

    search-test : {c : Option Change} → c ≡ first_place (mends_by now) TYPES (numbers (p + 10) many) → first_place (mends_by s) TYPES (places (program (records s))) ≡ or_else c (first_place (mends_by s) TYPES (places (view_at s (p + n)).versions))
    search-test f =
        w.left ∙ ap (first_place (mends_by s) TYPES) here ∙ places-both (mends_by s) TYPES (numbers (p + 10) many) (places (view_at s (p + n)).versions)
        ∙ ap (λ (d : Option Change). or_else d (first_place (mends_by s) TYPES (places (view_at s (p + n)).versions))) (sym (f ∙ ap (λ (t : List ℕ). first_place (mends_by t) TYPES (numbers (p + 10) many)) w.same))

    pub search-hit : {c : Option Change} {hit : Change} {later : List ℕ} → c ≡ first_place (mends_by now) TYPES (numbers (p + 10) many) → c ≡ Some hit → later ≡ now → (Some hit ≡ first_place (mends_by s) TYPES (places (program (records s)))) × (later ≡ s)
    unfolding or_else
    search-hit f g z = (sym (search-test f ∙ rw g refl), z ∙ w.same)

    pub search-next : {c : Option Change} {later : List ℕ} → c ≡ first_place (mends_by now) TYPES (numbers (p + 10) many) → c ≡ None → later ≡ now → Searching s later (p + n)
    unfolding or_else
    search-next f g z = record { same = z ∙ w.same; inside = l; left = search-test f ∙ rw g refl; owned = λ y a. w.owned y (subst (Among y) (sym here) (among_second y (numbers (p + 10) many) (places (view_at s (p + n)).versions) a)) }

-- ---- the answer

-- a copy is the image
pub copied : (s out : List ℕ) {y : List ℕ} → length out ≡ length s → y ≡ placed out 0 s → y ≡ s
copied s out e f =
    let n : 0 + length s ≡ length out = omega (arith, e) in
    f ∙ placed-fits out 0 s (omega (arith, e)) ∙ ap (λ (i : ℕ). take 0 out ++ s ++ drop i out) n ∙ whole out s
  where
    whole : (out s : List ℕ) → take 0 out ++ s ++ drop (length out) out ≡ s
    whole out s = rw (drop_of_length-le out {i = length out} (omega arith)) (none out ∙ append-nil s)
      where
        none : (l : List ℕ) → take 0 l ++ s ++ [] ≡ s ++ []
        none [] = refl
        none (x ∷ l) = refl

-- it is no longer than an image may be
pub refused-short : {s : List ℕ} {q r : ℕ} → RefusedBy s q r → length s ≤ IMAGE
unfolding question1
refused-short {s} {q} {r} f = leb-true _ _ (and_both _ _ (passed (ltb 0 (length s) and leb (length s) IMAGE) None 0 (sound-records s q r f.may f.refused).0).0).1

pub found-short : {s : List ℕ} {q r : ℕ} {c : Option Change} → RefusedBy s q r → c ≡ first_place (mends_by s) TYPES (places (program (records s))) → c ≡ first_place (mends_by s) VALUES (places (program (records s)))
found-short {s} {q} {r} f e = e ∙ short s q r f.may f.refused

pub found-copied : {s now : List ℕ} {q r : ℕ} {c : Option Change} → now ≡ s → RefusedBy s q r → c ≡ first_place (mends_by now) TYPES (places (program (records now))) → c ≡ first_place (mends_by s) VALUES (places (program (records s)))
found-copied e f g = found-short f (g ∙ ap (λ (t : List ℕ). first_place (mends_by t) TYPES (places (program (records t)))) e)

-- a change beside the refusal, or none
pub beside-change : (why : Refusal) {c d : Option Change} {hit : Change} → c ≡ d → c ≡ Some hit → Byte why hit ≡ beside why d
unfolding beside
beside-change why e f = ap (beside why) (sym f ∙ e)

pub beside-nowhere : (why : Refusal) {c d : Option Change} → c ≡ d → c ≡ None → Unmended why ≡ beside why d
unfolding beside
beside-nowhere why e f = ap (beside why) (sym f ∙ e)

pub mend-accepted : (s : List ℕ) (n : ℕ) → verdict_of s ≡ Ok n → Accepted n ≡ mend_of s
unfolding mend_of mend_after
mend-accepted s n e = rw e refl

pub mend-other : (s : List ℕ) (why : Refusal) {b : Bool} → verdict_of s ≡ Err why → b ≡ mendable why.question → b ≡ false → Refused why ≡ mend_of s
unfolding mend_of mend_after
mend-other s why e f g = rw (e, sym f, g) refl

pub mend-refused : (s : List ℕ) (why : Refusal) {m : Mended} {b : Bool} → verdict_of s ≡ Err why → b ≡ mendable why.question → b ≡ true → m ≡ beside why (first_place (mends_by s) VALUES (places (program (records s)))) → m ≡ mend_of s
unfolding mend_of mend_after
mend-refused s why e f g h = h ∙ sym (rw (e, sym f, g) refl)
