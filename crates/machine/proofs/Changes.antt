-- A new image, as code meets it: the bytes of a version by its place, bytes compared one by one, and what a change depends on.
use Rattle.std.specs.Prelude.{None, Some, Err, Ok}
use mathlib.Core.Path.{◌≡◌, refl, ap, ◌∙◌}
use Rattle.layout.specs.Found.{Found}
use mathlib.Core.List.{List, [], ◌∷◌}
use mathlib.Core.Option.{none, some}
use mathlib.Core.Bool.{Bool, true, false, cond, not, ◌||◌}
use Prim.Native.Nat.{ℕ, zero, suc, ◌+◌, ◌-◌, ◌≤◌, ◌<◌}
use native.Mathlib.Numerals.{add-one}
use native.Mathlib.Omega.{arith}
use lib.ListN.{length, drop}
use lib.Seq.{drop-cons, drop-length}
use lib.Dec.{eqb, ltb}
use borrow.Author.Tests.{ne_eqb, eq-eqb, ltb-true, ltb-false, eqb-true, eqb-false}
use Rattle.layout.specs.declared.Form.{Form}
use Rattle.layout.specs.Bounds.{IMAGE}
use Rattle.layout.specs.Kinds as kind
use Rattle.layout.specs.Tests.{◌and◌, found}
use Rattle.layout.specs.Records.{◌!◌, size_at, kind_at, body_at}
use Rattle.program.specs.Program.{Version, Program, nowhere, find_version}
use Rattle.program.specs.Search.{Question, free, first}
use Rattle.program.specs.Places.{view_at, past, version_at, version_place}
use Rattle.program.proofs.Views.{view-end, view-past, Whole, at-version}
use Rattle.program.proofs.Lookups.{place_found, place-nothing}
use Rattle.checker.specs.Verdicts.{verdict_of, Verdict, refused}
use Rattle.checker.proofs.Asks.{same_ahead, accepted-short}
use Rattle.checker.proofs.Offsets.{first-low}
use Rattle.machine.specs.Begin.{program_of}
use Rattle.machine.specs.Changes.{start_of, slice, bytes_in, bytes_of, same_bytes, is_live, same_in, question15, all_there, missing, answer15, changed_by, change_after, change_of}
use Rattle.machine.specs.declared.State.{State}
use Rattle.machine.specs.Denials.{denied}

-- ---- the bytes of a version, by its place

-- each of these versions is followed by those that are seen from its record's end
unfoldable Followed : List ℕ → Program → Type 0
Followed s [] = Unit {0}
Followed s (v ∷ vs) = (vs ≡ (view_at s (past s v.at)).versions) × Followed s vs

followed-from : (f : ℕ) (s : List ℕ) (p : ℕ) → length s - p ≤ f → Followed s (view_at s p).versions
unfolding Followed version_at
followed-from zero s p h = rw (view-end s p (omega arith)) tt
followed-from (suc f) s p h = go (ltb p (length s)) (eqb (size_at s p) 0) refl refl (λ x. followed-from f s (past s p) x)
  where
    go : (a b : Bool) → ltb p (length s) ≡ a → eqb (size_at s p) 0 ≡ b → (length s - past s p ≤ f → Followed s (view_at s (past s p)).versions) → Followed s (view_at s p).versions
    go false b ea eb k = rw (view-end s p (ltb-false _ _ ea)) tt
    go true true ea eb k = rw (view-past s p (eqb-true _ _ eb)) tt
    go true false ea eb k = kinds (eqb (kind_at s p) kind.VERSION) refl
      where
        m : Whole s p (size_at s p) (kind_at s p)
        m = record { inside = ltb-true _ _ ea; size = refl; whole = eqb-false _ _ eb; kind = refl }

        more : Followed s (view_at s (past s p)).versions
        more = k (omega (arith, m.whole, m.inside))

        kinds : (c : Bool) → eqb (kind_at s p) kind.VERSION ≡ c → Followed s (view_at s p).versions
        kinds true e = rw (at-version m (eqb-true _ _ e)) (refl, more)
        kinds false e = rw (same_ahead m (eqb-false _ _ e)) more

-- what follows a place, up to the next version
abbrev part : List ℕ → ℕ → List ℕ
part s p = slice s p (start_of (length s) (view_at s (past s p)).versions)

part_in : (s : List ℕ) (vs : Program) (f w : ℕ) (v : Version) → Followed s vs → find_version vs f w ≡ some v → bytes_in s vs f w ≡ some (part s v.at)
unfolding Followed find_version bytes_in
part_in s [] f w v h e = let z : ◌≡◌ {A = ℕ} 0 1 = cc in absurd (omega arith)
part_in s (x ∷ vs) f w v h e = go (eqb x.function f and eqb x.version w) (part_in s vs f w v h.1) e
  where
    go : (b : Bool) → (find_version vs f w ≡ some v → bytes_in s vs f w ≡ some (part s v.at)) → cond b (some x) (find_version vs f w) ≡ some v
        → cond b (some (slice s x.at (start_of (length s) vs))) (bytes_in s vs f w) ≡ some (part s v.at)
    go true ih g = let y : x ≡ v = cc in ap (λ (n : Program). some (slice s x.at (start_of (length s) n))) h.0 ∙ ap (λ (u : Version). some (part s u.at)) y
    go false ih g = ih g

no_part : (s : List ℕ) (vs : Program) (f w : ℕ) → find_version vs f w ≡ none → bytes_in s vs f w ≡ none
unfolding find_version bytes_in
no_part s [] f w e = refl
no_part s (x ∷ vs) f w e = go (eqb x.function f and eqb x.version w) (no_part s vs f w) e
  where
    go : (b : Bool) → (find_version vs f w ≡ none → bytes_in s vs f w ≡ none) → cond b (some x) (find_version vs f w) ≡ none
        → cond b (some (slice s x.at (start_of (length s) vs))) (bytes_in s vs f w) ≡ none
    go true ih g = let z : ◌≡◌ {A = ℕ} 0 1 = cc in absurd (omega arith)
    go false ih g = ih g

module _ (s : List ℕ) (f w : ℕ) where
  pub bytes-at : (p : ℕ) → version_place s f w ≡ Some p → bytes_of s f w ≡ some (part s p)
  unfolding version_place
  bytes-at p e =
      let r = place_found (λ (v : Version). v.at) (find_version (program_of s) f w) p e in
      part_in s (program_of s) f w r.0 (followed-from (length s) s 0 (omega arith)) r.1 ∙ ap (λ (n : ℕ). some (part s n)) r.2

  pub no_bytes : version_place s f w ≡ None → bytes_of s f w ≡ none
  unfolding version_place
  no_bytes e = no_part s (program_of s) f w (place-nothing (λ (v : Version). v.at) (find_version (program_of s) f w) e)

-- whether it stays, by its places in both images
module _ (old new : List ℕ) (f w : ℕ) where
  pub stays_at : (p q : ℕ) → version_place old f w ≡ Some p → version_place new f w ≡ Some q → same_in old new f w ≡ same_bytes (part old p) (part new q)
  unfolding same_in found
  stays_at p q a b = rw (bytes-at old f w p a, bytes-at new f w q b) refl

  pub not-in-old : version_place old f w ≡ None → same_in old new f w ≡ false
  unfolding same_in found
  not-in-old a = rw (no_bytes old f w a) refl

  pub not-in-new : (p : ℕ) → version_place old f w ≡ Some p → version_place new f w ≡ None → same_in old new f w ≡ false
  unfolding same_in found
  not-in-new p a b = rw (bytes-at old f w p a, no_bytes new f w b) refl

-- ---- where a version ends

pub end-nowhere : (s : List ℕ) (p : ℕ) → view_at s p ≡ nowhere → start_of (length s) (view_at s p).versions ≡ length s
unfolding start_of
end-nowhere s p e = rw e refl

module _ {s : List ℕ} {p n k : ℕ} (m : Whole s p n k) where
  pub end-here : k ≡ kind.VERSION → start_of (length s) (view_at s p).versions ≡ p
  unfolding start_of version_at
  end-here e = rw (at-version m e) refl

  pub end_later : (k ≡ kind.VERSION → ⊥) → start_of (length s) (view_at s p).versions ≡ start_of (length s) (view_at s (p + n)).versions
  end_later x = ap (start_of (length s)) (same_ahead m x)

-- ---- bytes, one by one

pub same-lengths : (xs ys : List ℕ) → (length xs ≡ length ys → ⊥) → same_bytes xs ys ≡ false
unfolding same_bytes ◌and◌
same-lengths [] [] h = absurd (h refl)
same-lengths [] (y ∷ ys) h = refl
same-lengths (x ∷ xs) [] h = refl
same-lengths (x ∷ xs) (y ∷ ys) h = rw (same-lengths xs ys (λ e. h (ap suc e))) (go (eqb x y))
  where
    go : (b : Bool) → (b and false) ≡ false
    go true = refl
    go false = refl

module _ (xs ys : List ℕ) (i : ℕ) (a : i < length xs) (b : i < length ys) where
  same_step : same_bytes (drop i xs) (drop i ys) ≡ (eqb (xs ! i) (ys ! i) and same_bytes (drop (i + 1) xs) (drop (i + 1) ys))
  unfolding same_bytes
  same_step = rw (drop-cons xs i 0 a, drop-cons ys i 0 b, add-one) refl

  pub same-differ : (xs ! i ≡ ys ! i → ⊥) → same_bytes (drop i xs) (drop i ys) ≡ false
  unfolding ◌and◌
  same-differ h = same_step ∙ rw (ne_eqb _ _ h) refl

  pub same-further : xs ! i ≡ ys ! i → same_bytes (drop i xs) (drop i ys) ≡ same_bytes (drop (i + 1) xs) (drop (i + 1) ys)
  unfolding ◌and◌
  same-further h = same_step ∙ rw (eq-eqb _ _ h) refl

pub same_ended : (xs ys : List ℕ) (i : ℕ) → i ≡ length xs → i ≡ length ys → same_bytes (drop i xs) (drop i ys) ≡ true
unfolding same_bytes
same_ended xs ys i a b =
    let x : drop i xs ≡ [] = ap (λ (n : ℕ). drop n xs) a ∙ drop-length xs in
    let y : drop i ys ≡ [] = ap (λ (n : ℕ). drop n ys) b ∙ drop-length ys in
    rw (x, y) refl

-- ---- the answer

-- what 15 asks of the VERSION at p, by its numbers
module _ (old new : List ℕ) (s : State) (p f w : ℕ) (ef : f ≡ body_at new p ! 0) (ew : w ≡ body_at new p ! 1) where
  pub asked-live : is_live s f w ≡ true → (question15 old new s).of_version (version_at new p) ≡ same_in old new f w
  unfolding version_at
  asked-live e = rw (← ef, ← ew, e) refl

  pub asked-idle : is_live s f w ≡ false → (question15 old new s).of_version (version_at new p) ≡ true
  unfolding version_at
  asked-idle e = rw (← ef, ← ew, e) refl

module _ (old new : List ℕ) (s : State) where
  pub differs : (p : ℕ) → first (question15 old new s) (program_of new) ≡ Some p → answer15 old new s ≡ Some p
  unfolding answer15 missing
  differs p e = rw e refl

  pub is-missing : first (question15 old new s) (program_of new) ≡ None → all_there (program_of new) s ≡ false → answer15 old new s ≡ Some (length new)
  unfolding answer15 missing
  is-missing e h = rw (e, h) refl

  pub all_stay : first (question15 old new s) (program_of new) ≡ None → all_there (program_of new) s ≡ true → answer15 old new s ≡ None
  unfolding answer15 missing
  all_stay e h = rw (e, h) refl

  -- its offset lies within the new image
  answer-in : (p : ℕ) → answer15 old new s ≡ Some p → p ≤ length new
  unfolding answer15 missing
  answer-in p e = go (first (question15 old new s) (program_of new)) refl (all_there (program_of new) s) e
    where
      go : (x : Found) → first (question15 old new s) (program_of new) ≡ x → (b : Bool) → missing new s x ≡ Some p → p ≤ length new
      go (Some r) h b g = let y : r ≡ p = cc in omega (arith, first-low (question15 old new s) new r h)
      go None h b g = last (all_there (program_of new) s) g
        where
          last : (c : Bool) → cond c None (Some (length new)) ≡ Some p → p ≤ length new
          last true k = let z : ◌≡◌ {A = ℕ} 0 1 = cc in absurd (omega arith)
          last false k = let y : length new ≡ p = cc in omega arith

  -- the change, by the verdict on the new image and the answer
  pub change-refused : (q p : ℕ) → verdict_of new ≡ Err (refused q p) → change_of old new s ≡ Err (denied q p)
  unfolding change_of change_after
  change-refused q p e = rw e refl

  module _ (k : ℕ) (e : verdict_of new ≡ Ok k) where
    pub change-taken : answer15 old new s ≡ None → change_of old new s ≡ Ok tt
    unfolding change_of change_after changed_by
    change-taken h = rw (e, h) refl

    pub change-differs : (p : ℕ) → answer15 old new s ≡ Some p → change_of old new s ≡ Err (denied 15 p)
    unfolding change_of change_after changed_by
    change-differs p h = rw (e, h) refl

    pub answer-low : (p : ℕ) → answer15 old new s ≡ Some p → p ≤ IMAGE
    answer-low p h = omega (arith, answer-in p h, accepted-short Form.Wide new k e)

-- THE LAW: a change asks of a state only which versions have a live frame, and whether they are there
pub change-alike : (old new : List ℕ) (s t : State) → ((f w : ℕ) → is_live s f w ≡ is_live t f w) → ((P : Program) → all_there P s ≡ all_there P t) → change_of old new s ≡ change_of old new t
unfolding change_of change_after answer15 missing
change-alike old new s t h g = go (verdict_of new)
  where
    asks : question15 old new s ≡ question15 old new t
    asks = λ i. record { of_version = λ v. not (h v.function v.version i) || same_in old new v.function v.version; of_block = free; of_instr = free }

    lacks : (x : Found) → missing new s x ≡ missing new t x
    lacks (Some p) = refl
    lacks None = ap (λ (b : Bool). cond b None (Some (length new))) (g (program_of new))

    answers : answer15 old new s ≡ answer15 old new t
    answers = lacks (first (question15 old new s) (program_of new)) ∙ ap (λ (q : Question). missing new t (first q (program_of new))) asks

    go : (v : Verdict) → change_after v old new s ≡ change_after v old new t
    go (Err why) = refl
    go (Ok n) = ap changed_by answers
