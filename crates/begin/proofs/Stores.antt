-- Stores one behind the other: what is left to store, and what all of them make.
use mathlib.Core.Path.{◌≡◌, refl, sym, ap, ◌∙◌}
use mathlib.Core.List.{List, [], ◌∷◌}
use mathlib.Core.Bool.{Bool, true, false}
use Prim.Native.Nat.{ℕ, zero, suc, ◌+◌, ◌-◌, ◌*◌, ◌≤◌, ◌<◌}
use native.Mathlib.Nat.{add-zero, min-le_left, not-suc-le-zero, le_of_suc-le-suc}
use native.Mathlib.Omega.{arith}
use lib.IntN.{ℤ, pos}
use lib.ListN.{length, length-set, get_or, set, take, drop, replicate, length-drop, length-take}
use lib.Dec.{ltb}
use lib.Seq.{sets, drop-cons, get_or-set_same, get_or-set_other, get_or-take, length-take-le, take_all}
use borrow.Author.Tests.{lt-ltb, le-ltb, ltb-true, ltb-false}
use mir.Syntax.{w64}
use mir.Val.{SFits, to_z, of_z}
use mir.Facts.{to_z-of_z}
use Rattle.machine.specs.States.{ITEMS, over}
use Rattle.store.specs.Lists.{up_to}
use Rattle.store.specs.Store.{◌#◌, ITEM, LENGTHS, PLACES}
use Rattle.begin.specs.Arrays.{integer_bytes, integer_numbers, item_numbers, length_bytes, vector_bytes}

-- ---- from the place 0 on

sets-none : {A : Type 0} (i : ℕ) (xs : List A) → ◌≡◌ {A = List A} (sets [] i xs) []
sets-none i [] = refl
sets-none i (x ∷ xs) = sets-none (suc i) xs

sets_behind : {A : Type 0} (y : A) (ys : List A) (i : ℕ) (xs : List A) → sets (y ∷ ys) (suc i) xs ≡ y ∷ sets ys i xs
sets_behind y ys i [] = refl
sets_behind y ys i (x ∷ xs) = sets_behind y (set ys i x) (suc i) xs

-- stores from the place 0 on lay a list over another
pub sets_over : {A : Type 0} (xs ys : List A) → sets ys 0 xs ≡ over xs ys
unfolding over
sets_over [] ys = refl
sets_over (x ∷ xs) [] = sets-none 1 xs
sets_over (x ∷ xs) (y ∷ ys) = sets_behind x ys 0 xs ∙ ap (λ l. x ∷ l) (sets_over xs ys)

-- ---- what stands at a place

pub stored_other : {A : Type 0} (xs l : List A) (i j : ℕ) (d : A) → (i ≤ j → j < i + length xs → ⊥) → get_or (sets l i xs) j d ≡ get_or l j d
stored_other [] l i j d h = refl
stored_other (x ∷ xs) l i j d h = stored_other xs (set l i x) (suc i) j d (λ a b. h (omega arith) (omega arith)) ∙ get_or-set_other l i j x d (λ e. h (omega arith) (omega arith))

pub stored_at : {A : Type 0} (xs l : List A) (i k : ℕ) (d : A) → k < length xs → i + length xs ≤ length l → get_or (sets l i xs) (i + k) d ≡ get_or xs k d
stored_at [] l i k d h r = absurd (not-suc-le-zero h)
stored_at (x ∷ xs) l i zero d h r = rw add-zero (stored_other xs (set l i x) (suc i) i d (λ a b. omega arith) ∙ get_or-set_same l i x d (omega arith))
stored_at (x ∷ xs) l i (suc k) d h r =
    let e : i + suc k ≡ suc i + k = omega arith in
    let n = length-set l i x in
    ap (λ (j : ℕ). get_or (sets (set l i x) (suc i) xs) j d) e ∙ stored_at xs (set l i x) (suc i) k d (le_of_suc-le-suc h) (omega arith)

pub get_or-none : {A : Type 0} (n i : ℕ) (d : A) → get_or (replicate n d) i d ≡ d
get_or-none zero i d = refl
get_or-none (suc n) zero d = refl
get_or-none (suc n) (suc i) d = get_or-none n i d

missing : {A : Type 0} (xs : List A) (i : ℕ) (d : A) → length xs ≤ i → get_or xs i d ≡ d
missing [] i d h = refl
missing (x ∷ xs) zero d h = absurd (not-suc-le-zero h)
missing (x ∷ xs) (suc i) d h = missing xs i d (le_of_suc-le-suc h)

-- ---- a list over a blank one, place by place

up_to-behind : {A : Type 0} (f : ℕ → A) (i n : ℕ) → up_to f (suc i) n ≡ up_to (λ j. f (suc j)) i n
unfolding up_to
up_to-behind f i zero = refl
up_to-behind f i (suc n) = ap (λ l. f (suc i) ∷ l) (up_to-behind f (suc i) n)

blank-up_to : {A : Type 0} (d : A) (i n : ℕ) → replicate n d ≡ up_to (λ j. d) i n
unfolding up_to
blank-up_to d i zero = refl
blank-up_to d i (suc n) = ap (λ l. d ∷ l) (blank-up_to d (suc i) n)

pub over-up_to : {A : Type 0} (xs : List A) (d : A) (n : ℕ) → over xs (replicate n d) ≡ up_to (λ j. get_or xs j d) 0 n
unfolding over up_to
over-up_to [] d n = blank-up_to d 0 n
over-up_to (x ∷ xs) d zero = refl
over-up_to (x ∷ xs) d (suc n) = ap (λ l. x ∷ l) (over-up_to xs d n ∙ sym (up_to-behind (λ j. get_or (x ∷ xs) j d) 0 n))

pub take-few : {A : Type 0} (m : ℕ) (xs : List A) → length (take m xs) ≤ m
take-few m xs = rw (length-take m xs) (min-le_left m (length xs))

-- the items of a vector: those that are written over blank ones
pub item-stored : (n : List ℤ) (a j : ℕ) (ys : List ℤ) → j < 16 → a + 16 ≤ length n → n # (a + j) ≡ pos 0 → sets n a (take ITEMS ys) # (a + j) ≡ get_or ys j (pos 0)
item-stored n a j ys h l e = go (ltb j (length (take ITEMS ys))) refl ∙ get_or-take ITEMS ys j (pos 0) h
  where
    go : (t : Bool) → ltb j (length (take ITEMS ys)) ≡ t → sets n a (take ITEMS ys) # (a + j) ≡ get_or (take ITEMS ys) j (pos 0)
    go true q = stored_at (take ITEMS ys) n a j (pos 0) (ltb-true _ _ q) (let f = take-few ITEMS ys in omega arith)
    go false q = let f = ltb-false _ _ q in stored_other (take ITEMS ys) n a (a + j) (pos 0) (λ x y. omega arith) ∙ e ∙ sym (missing (take ITEMS ys) j (pos 0) f)

-- ---- the items of the vector c, m words from the word p on

module _ (ws : List ℤ) (p m c : ℕ) where
  -- those from the j-th on
  abbrev pub left : ℕ → List ℤ
  left j = take (m - j) (drop (p + j) ws)

  -- written into n, they make what all of them make in b
  unfoldable pub Copied : List ℤ → List ℤ → ℕ → Type 0
  Copied b n j = sets n (ITEM + 16 * c + j) (left j) ≡ item_numbers c (take m (drop p ws)) b

  module _ (room : p + m ≤ length ws) (few : m ≤ ITEMS) (b : List ℤ) where
    all-items : take ITEMS (take m (drop p ws)) ≡ take m (drop p ws)
    all-items = let l = length-take-le m (drop p ws) (omega (arith, length-drop p ws, room)) in take_all ITEMS (take m (drop p ws)) (omega (arith, l, few))

    pub copied_none : c < 64 → Copied b b 0
    unfolding Copied item_numbers
    copied_none h = let x : p + 0 ≡ p = omega arith in let y : m - 0 ≡ m = omega arith in let z : ITEM + 16 * c + 0 ≡ ITEM + 16 * c = omega arith in rw (x, y, z, lt-ltb c 64 h, all-items) refl

    left-cons : (j : ℕ) → j < m → left j ≡ get_or ws (p + j) (pos 0) ∷ left (j + 1)
    left-cons j h =
        let x : m - j ≡ suc (m - (j + 1)) = omega (arith, h) in
        let y : suc (p + j) ≡ p + (j + 1) = omega arith in
        rw (x, drop-cons ws (p + j) (pos 0) (omega (arith, h, room)), y) refl

    -- the word as it is read
    pub copied-one : (n : List ℤ) (j : ℕ) → SFits w64 (get_or ws (p + j) (pos 0)) → j < m → Copied b n j → Copied b (set n (ITEM + 16 * c + j) (to_z w64 (of_z w64 (get_or ws (p + j) (pos 0))))) (j + 1)
    unfolding Copied
    copied-one n j f h e =
        let x : ITEM + 16 * c + (j + 1) ≡ suc (ITEM + 16 * c + j) = omega arith in
        rw (to_z-of_z f, x) (rw (left-cons j h) at e)

    pub copied_all : (n : List ℤ) (j : ℕ) → m ≤ j → Copied b n j → n ≡ item_numbers c (take m (drop p ws)) b
    unfolding Copied
    copied_all n j h e = let x : m - j ≡ 0 = omega (arith, h) in rw x at e

-- a vector that the state has no place for
pub items-out : (c : ℕ) (ys n : List ℤ) → 64 ≤ c → n ≡ item_numbers c ys n
unfolding item_numbers
items-out c ys n h = rw (le-ltb c 64 h) refl

-- ---- what the code writes for an argument

module _ (i : ℕ) (b : List ℕ) where
  pub integer-put : (n : List ℤ) (y z : ℤ) → i < 16 → y ≡ z → (set b i 1 ≡ integer_bytes i b) × (set n i y ≡ integer_numbers i z n)
  unfolding integer_bytes integer_numbers
  integer-put n y z h e = rw (lt-ltb i 16 h, e) (refl, refl)

  pub integer-out : (n : List ℤ) (z : ℤ) → 16 ≤ i → (b ≡ integer_bytes i b) × (n ≡ integer_numbers i z n)
  unfolding integer_bytes integer_numbers
  integer-out n z h = rw (le-ltb i 16 h) (refl, refl)

  pub vector-put : (c : ℕ) → i < 16 → set (set b i 2) (PLACES + i) c ≡ vector_bytes i c b
  unfolding vector_bytes
  vector-put c h = rw (lt-ltb i 16 h) refl

  pub vector-out : (c : ℕ) → 16 ≤ i → b ≡ vector_bytes i c b
  unfolding vector_bytes
  vector-out c h = rw (le-ltb i 16 h) refl

module _ (c m : ℕ) (b : List ℕ) where
  pub length-put : c < 64 → set b (LENGTHS + c) m ≡ length_bytes c m b
  unfolding length_bytes
  length-put h = rw (lt-ltb c 64 h) refl

  pub length-out : 64 ≤ c → b ≡ length_bytes c m b
  unfolding length_bytes
  length-out h = rw (le-ltb c 64 h) refl
