-- The walk of a block over an array of ways: at each place the law of rules, at the array's indices.
use mathlib.Core.Path.{◌≡◌, refl, sym, ap, ◌∙◌}
use mathlib.Core.List.{List, [], ◌∷◌}
use mathlib.Core.Option.{Option, none, some}
use mathlib.Core.Bool.{Bool, true, false, cond}
use Prim.Native.Nat.{ℕ, zero, suc, ◌+◌, ◌-◌, ◌≤◌, ◌<◌}
use native.Mathlib.Omega.{arith}
use lib.ListN.{length, take, drop, get_or, set, replicate, length-drop, length-replicate}
use lib.Seq.{drop-drop, get_or-drop, get_or-set_other}
use lib.Dec.{leb, ltb}
use borrow.Author.Tests.{leb-true, leb-false, le-leb, lt-leb, lt-ltb, le-ltb}
use Rattle.rules.specs.Actions.{Action, ◌then◌, Walk, join, here, past}
use Rattle.layout.specs.Tests.{◌and◌}
use Rattle.flow.specs.Ways.{ways_at, walk_at, here_at, goes_on, opened, place_in, target_of, skip_in}

-- ---- lists

module _ {A : Type 0} where
  take-replicate : (n m : ℕ) (x : A) → n ≤ m → take n (replicate m x) ≡ replicate n x
  take-replicate zero m x h = refl
  take-replicate (suc n) zero x h = absurd (omega arith)
  take-replicate (suc n) (suc m) x h = ap (λ (l : List A). x ∷ l) (take-replicate n m x (omega arith))

  set-take : (m j : ℕ) (x : A) (xs : List A) → set (take m xs) j x ≡ take m (set xs j x)
  set-take zero j x [] = refl
  set-take zero j x (y ∷ xs) = refl
  set-take (suc m) j x [] = refl
  set-take (suc m) zero x (y ∷ xs) = refl
  set-take (suc m) (suc j) x (y ∷ xs) = ap (λ (l : List A). y ∷ l) (set-take m j x xs)

  set-drop : (k n : ℕ) (x : A) (xs : List A) → set (drop k xs) n x ≡ drop k (set xs (k + n) x)
  set-drop zero n x xs = let z : 0 + n ≡ n = omega arith in rw z
  set-drop (suc k) n x [] = refl
  set-drop (suc k) n x (y ∷ xs) = let z : suc k + n ≡ suc (k + n) = omega arith in rw z (set-drop k n x xs)

  set_past : (n : ℕ) (x : A) (xs : List A) → length xs ≤ n → set xs n x ≡ xs
  set_past n x [] h = refl
  set_past zero x (y ∷ xs) h = absurd (omega arith)
  set_past (suc n) x (y ∷ xs) h = ap (λ (l : List A). y ∷ l) (set_past n x xs (omega arith))

  take-few : (i : ℕ) (xs : List A) → i ≤ length xs → length (take i xs) ≡ i
  take-few zero xs h = refl
  take-few (suc i) [] h = absurd (omega arith)
  take-few (suc i) (x ∷ xs) h = ap suc (take-few i xs (omega arith))

  get_take : (m j : ℕ) (xs : List A) (d : A) → j < m → get_or (take m xs) j d ≡ get_or xs j d
  get_take zero j xs d h = absurd (omega arith)
  get_take (suc m) j [] d h = refl
  get_take (suc m) zero (x ∷ xs) d h = refl
  get_take (suc m) (suc j) (x ∷ xs) d h = get_take m j xs d (omega arith)

  get-past : (xs : List A) (j : ℕ) (d : A) → length xs ≤ j → get_or xs j d ≡ d
  get-past [] j d h = refl
  get-past (x ∷ xs) zero d h = absurd (omega arith)
  get-past (x ∷ xs) (suc j) d h = get-past xs j d (omega arith)

join-none : (o : Option Action) → join o none ≡ o
unfolding join
join-none none = refl
join-none (some a) = refl

-- ---- the entries of the array, test by test

pub place_none : (count i : ℕ) → count < i → 50 ≡ place_in count i
unfolding place_in ◌and◌
place_none count i h = rw (lt-leb i count h) refl

pub place-far : (count i : ℕ) → i ≤ count → 48 < i → 50 ≡ place_in count i
unfolding place_in ◌and◌
place-far count i h l = rw (le-leb i count h, lt-leb i 48 l) refl

pub place_at : (count i : ℕ) → i ≤ count → i ≤ 48 → i ≡ place_in count i
unfolding place_in ◌and◌
place_at count i h l = rw (le-leb i count h, le-leb i 48 l) refl

module _ (count i : ℕ) where
  pub target_none : (skip : ℕ) → skip ≡ 0 → 49 ≡ target_of (skip_in skip) count i
  unfolding target_of skip_in
  target_none zero e = refl
  target_none (suc n) e = absurd (omega (arith, e))

  pub target_past : (skip : ℕ) → (skip ≡ 0 → ⊥) → count < i + skip → 49 ≡ target_of (skip_in skip) count i
  unfolding target_of skip_in ◌and◌
  target_past zero e h = absurd (e refl)
  target_past (suc n) e h = rw (lt-leb (i + 1 + n) count (omega (arith, h))) refl

  pub target-far : (skip : ℕ) → (skip ≡ 0 → ⊥) → i + skip ≤ count → 48 < i + skip → 49 ≡ target_of (skip_in skip) count i
  unfolding target_of skip_in ◌and◌
  target-far zero e h l = absurd (e refl)
  target-far (suc n) e h l = rw (le-leb (i + 1 + n) count (omega (arith, h)), lt-leb (i + 1 + n) 48 (omega (arith, l))) refl

  pub target_at : (skip : ℕ) → (skip ≡ 0 → ⊥) → i + skip ≤ count → i + skip ≤ 48 → i + skip ≡ target_of (skip_in skip) count i
  unfolding target_of skip_in ◌and◌
  target_at zero e h l = absurd (e refl)
  target_at (suc n) e h l = let z : i + suc n ≡ i + 1 + n = omega arith in rw (le-leb (i + 1 + n) count (omega (arith, h)), le-leb (i + 1 + n) 48 (omega (arith, l))) z

  pub goes_none : (skip : ℕ) (now : Option Action) → skip ≡ 0 → now ≡ goes_on (skip_in skip) count i now
  unfolding goes_on skip_in
  goes_none zero now e = refl
  goes_none (suc n) now e = absurd (omega (arith, e))

  pub goes-past : (skip : ℕ) (now : Option Action) → (skip ≡ 0 → ⊥) → count < i + skip → none ≡ goes_on (skip_in skip) count i now
  unfolding goes_on skip_in
  goes-past zero now e h = absurd (e refl)
  goes-past (suc n) now e h = rw (lt-leb (i + 1 + n) count (omega (arith, h))) refl

  pub goes_at : (skip : ℕ) (now : Option Action) → (skip ≡ 0 → ⊥) → i + skip ≤ count → now ≡ goes_on (skip_in skip) count i now
  unfolding goes_on skip_in
  goes_at zero now e h = absurd (e refl)
  goes_at (suc n) now e h = rw (le-leb (i + 1 + n) count (omega (arith, h))) refl

-- ---- the ways of a block with `count` instructions, of which there are at most 48

pub starts : (count : ℕ) → count ≤ 48 → ways_at (replicate 51 none) count 0 ≡ replicate (count + 1) none
unfolding ways_at
starts count h = take-replicate (count + 1) 51 none (omega arith)

module _ (ways : List (Option Action)) (whole : 49 ≤ length ways) (count : ℕ) (few : count ≤ 48) where
  ways-length : (i : ℕ) → length (ways_at ways count i) ≡ count + 1 - i
  unfolding ways_at
  ways-length i = length-drop i (take (count + 1) ways) ∙ ap (λ (n : ℕ). n - i) (take-few (count + 1) ways (omega (arith, whole)))

  slot : (i n : ℕ) → i + n ≤ count → get_or (ways_at ways count i) n none ≡ get_or ways (i + n) none
  unfolding ways_at
  slot i n h = get_or-drop i (take (count + 1) ways) n none ∙ get_take (count + 1) (i + n) ways none (omega arith)

  next : (i : ℕ) → drop 1 (ways_at ways count i) ≡ ways_at ways count (i + 1)
  unfolding ways_at
  next i = drop-drop 1 i (take (count + 1) ways)

  put : (i n : ℕ) (x : Option Action) → set (ways_at ways count i) n x ≡ ways_at (set ways (i + n) x) count i
  unfolding ways_at
  put i n x = set-drop i n x (take (count + 1) ways) ∙ ap (drop i) (set-take (count + 1) (i + n) x ways)

  -- at a place
  pub here-at : (done : Option Action) (i : ℕ) → here (walk_at done ways count i) ≡ here_at done ways count i
  unfolding here here_at
  here-at done i = go (leb i count) refl
    where
      go : (b : Bool) → leb i count ≡ b → join done (get_or (ways_at ways count i) 0 none) ≡ cond b (join done (get_or ways i none)) done
      go true e = let z : i + 0 ≡ i = omega arith in ap (join done) (slot i 0 (omega (arith, leb-true i count e)) ∙ ap (λ (k : ℕ). get_or ways k none) z)
      go false e = ap (join done) (get-past (ways_at ways count i) 0 none (omega (arith, ways-length i, leb-false i count e))) ∙ join-none done

  -- THE LAW of a turn: past an instruction
  pub turn : (k : Option ℕ) (b done : Option Action) (i : ℕ)
      → past k b (walk_at done ways count i) ≡ walk_at (goes_on k count i (here_at done ways count i then b)) (opened k count i (here_at done ways count i then b) ways) count (i + 1)
  unfolding past goes_on opened
  turn none b done i = rw (here-at done i, next i) refl
  turn (some n) b done i = rw (here-at done i, next i) (go (leb (i + 1 + n) count) refl)
    where
      go : (t : Bool) → leb (i + 1 + n) count ≡ t
          → ◌≡◌ {A = Walk} (record { done = cond (ltb n (length (ways_at ways count (i + 1)))) (here_at done ways count i then b) none; ways = set (ways_at ways count (i + 1)) n (join (here_at done ways count i then b) (get_or (ways_at ways count (i + 1)) n none)) })
          (walk_at (cond t (here_at done ways count i then b) none) (cond t (set ways (i + 1 + n) (join (here_at done ways count i then b) (get_or ways (i + 1 + n) none))) ways) count (i + 1))
      go true e =
          let h = leb-true (i + 1 + n) count e in
          rw (lt-ltb n (length (ways_at ways count (i + 1))) (omega (arith, ways-length (i + 1))), slot (i + 1) n h)
          (ap (λ (l : List (Option Action)). record { done = here_at done ways count i then b; ways = l }) (put (i + 1) n _))
      go false e =
          let h = leb-false (i + 1 + n) count e in
          rw (le-ltb n (length (ways_at ways count (i + 1))) (omega (arith, ways-length (i + 1))), set_past n _ (ways_at ways count (i + 1)) (omega (arith, ways-length (i + 1)))) refl

  -- what the code reads at a place, and what it stores: the entry 50 is never written, the entry 49 never read
  pub placed : (done : Option Action) (i : ℕ) → get_or ways 50 none ≡ none → join done (get_or ways (place_in count i) none) ≡ here_at done ways count i
  unfolding place_in here_at ◌and◌
  placed done i e = go (leb i count) refl
    where
      go : (b : Bool) → leb i count ≡ b → join done (get_or ways (cond (b and leb i 48) i 50) none) ≡ cond b (join done (get_or ways i none)) done
      go true h = rw (le-leb i 48 (omega (arith, leb-true i count h))) refl
      go false h = ap (join done) e ∙ join-none done

  pub stored : (k : Option ℕ) (now x : Option Action) (i j : ℕ) → x ≡ join now (get_or ways (target_of k count i) none) → ways_at (set ways (target_of k count i) x) count j ≡ ways_at (opened k count i now ways) count j
  unfolding target_of opened ways_at ◌and◌
  stored none now x i j e = ap (drop j) (sym (set-take (count + 1) 49 x ways) ∙ set_past 49 x (take (count + 1) ways) (omega (arith, take-few (count + 1) ways (omega arith))))
  stored (some n) now x i j e = go (leb (i + 1 + n) count) refl e
    where
      go : (b : Bool) → leb (i + 1 + n) count ≡ b → x ≡ join now (get_or ways (cond (b and leb (i + 1 + n) 48) (i + 1 + n) 49) none)
          → drop j (take (count + 1) (set ways (cond (b and leb (i + 1 + n) 48) (i + 1 + n) 49) x)) ≡ drop j (take (count + 1) (cond b (set ways (i + 1 + n) (join now (get_or ways (i + 1 + n) none))) ways))
      go true h q = let l = le-leb (i + 1 + n) 48 (omega (arith, leb-true (i + 1 + n) count h)) in rw (l, rw l at q) refl
      go false h q = ap (drop j) (sym (set-take (count + 1) 49 x ways) ∙ set_past 49 x (take (count + 1) ways) (omega (arith, take-few (count + 1) ways (omega arith))))

  pub stays-free : (k : Option ℕ) (x : Option Action) (i : ℕ) → get_or ways 50 none ≡ none → get_or (set ways (target_of k count i) x) 50 none ≡ none
  unfolding target_of ◌and◌
  stays-free none x i e = get_or-set_other ways 49 50 x none (λ z. absurd (omega arith)) ∙ e
  stays-free (some n) x i e = go (leb (i + 1 + n) count) (leb (i + 1 + n) 48) refl
    where
      go : (b c : Bool) → leb (i + 1 + n) 48 ≡ c → get_or (set ways (cond (b and c) (i + 1 + n) 49) x) 50 none ≡ none
      go true true h = get_or-set_other ways (i + 1 + n) 50 x none (λ z. absurd (omega (arith, leb-true (i + 1 + n) 48 h))) ∙ e
      go true false h = get_or-set_other ways 49 50 x none (λ z. absurd (omega arith)) ∙ e
      go false c h = get_or-set_other ways 49 50 x none (λ z. absurd (omega arith)) ∙ e
