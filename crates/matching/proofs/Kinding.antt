-- Kinds by what the look-ups answered.
use Rattle.std.specs.Prelude.{None, Some, Option as Optional}
use Rattle.loaded.specs.Answers.{BlockAt}
use mathlib.Core.Path.{◌≡◌, refl, sym, ap, ◌∙◌}
use Rattle.loaded.specs.Answers.{Number}
use mathlib.Core.List.{List}
use mathlib.Core.Option.{Option, none, some}
use mathlib.Core.Logic.{◌⊎◌, inl, inr}
use mathlib.Core.Bool.{Bool, true, false, cond}
use Prim.Native.Nat.{ℕ, ◌+◌, ◌*◌, ◌/◌, ◌%◌, ◌≤◌, ◌<◌}
use native.Mathlib.Omega.{arith}
use lib.IntN.{ℤ}
use lib.ListN.{length, get_elem?}
use lib.Dec.{eqb, ltb}
use borrow.Author.Tests.{ltb-false, ltb-true, ne_eqb}
use Rattle.layout.specs.Records.{◌!◌}
use Rattle.layout.proofs.Lists.{get_none}
use Rattle.program.specs.Program.{Program, Version, find_version}
use Rattle.rules.specs.Types.{kind_of, within}
use Rattle.machine.specs.Try.{Try, got, stuck, stop, ◌>>=◌, ◌>>◌, at, or_stuck}
use Rattle.machine.specs.States.{full, kind_in, live_frames, value}
use Rattle.machine.specs.declared.Value.{Value}
use Rattle.machine.proofs.Tries.{at_in, at_none}
use Rattle.store.specs.Store.{cell_in, frame_in, promise_in, state_in, value_of}
use Rattle.store.proofs.Frames.{frame-live, register-in, register-out}
use Rattle.store.proofs.Promises.{promise-at, promise-outside}
use Rattle.store.proofs.Vectors.{vector-at, vector-outside}
use Rattle.frames.specs.Frames.{Lives}
use Rattle.acts.specs.Typed.{typed_in, typed_of}
use Rattle.ending.specs.Ends.{returns_in}
use Rattle.loaded.proofs.Finding as Find
use Rattle.loaded.specs.Answers.{block_of, version_of}
use Rattle.loaded.specs.Loaded.{block_in, entry_in, numbered_in, program_in, version_in}
use Rattle.matching.specs.Kinds.{KindedCell, OfValue, kind_try, register_kind}

-- ---- a kind as a number

pub kind-stuck : {m : ℕ} {x : Try ℕ} → kind_try m ≡ x → m ≡ 0 → x ≡ stuck
unfolding kind_try
kind-stuck {m = m} e h = sym e ∙ rw h refl

pub kind-got : {m : ℕ} {x : Try ℕ} → kind_try m ≡ x → (m ≡ 0 → ⊥) → x ≡ got m
unfolding kind_try
kind-got {m = m} e h = sym e ∙ rw (ne_eqb m 0 h) refl

told : (m : ℕ) → kind_try (4 + m) ≡ got (4 + m)
unfolding kind_try
told m = rw (ne_eqb (4 + m) 0 (λ z. absurd (omega arith))) refl

-- ---- kinds are those of values

pub no_kind : OfValue 0
no_kind = (λ e. absurd (omega arith), omega arith)

pub whole-valued : OfValue 2
whole-valued = (λ e. absurd (omega arith), omega arith)

pub vector-valued : OfValue 3
vector-valued = (λ e. absurd (omega arith), omega arith)

pub promise-valued : {x m : ℕ} → x ≡ m → m < 2 → OfValue (4 + x)
promise-valued e l = (λ z. absurd (omega arith), omega arith)

-- ---- what a look-up answered

pub version-none : (s t : List ℕ) {r : Number} {o : Option Version} → version_of s t r ≡ o → r ≡ None → o ≡ none
unfolding version_of
version-none s t e h = sym e ∙ ap (version_of s t) h

pub version-some : (s t : List ℕ) {r : Number} {o : Option Version} {k : ℕ} → version_of s t r ≡ o → r ≡ Some k → o ≡ some (version_in s t k)
unfolding version_of
version-some s t e h = sym e ∙ ap (version_of s t) h

low-number : (s t : List ℕ) (f w k : ℕ) → version_in s t (4 * f + w) ≡ version_in s t k → f < 32 → w < 4 → k < 128
unfolding version_in
low-number s t f w k q a b = let x : (4 * f + w) / 4 ≡ k / 4 = ap (λ (X : Version). X.function) q in omega arith

-- its number is one of the table
pub version_low : (s t : List ℕ) (f w : ℕ) {r : Number} {k : ℕ} → version_of s t r ≡ find_version (program_in s t) f w → r ≡ Some k → k < 128
unfolding numbered_in
version_low s t f w {k = k} e h = go (ltb f 32) (ltb w 4) refl refl
  where
    is : find_version (program_in s t) f w ≡ some (version_in s t k)
    is = version-some s t e h

    far : find_version (program_in s t) f w ≡ none → k < 128
    far o = let q : ◌≡◌ {A = Option Version} none (some (version_in s t k)) = sym o ∙ is in let z : ◌≡◌ {A = ℕ} 0 1 = cc in absurd (omega arith)

    by : (y : Bool) → cond y none (some (version_in s t (4 * f + w))) ≡ some (version_in s t k) → f < 32 → w < 4 → k < 128
    by true q a b = let z : ◌≡◌ {A = ℕ} 0 1 = cc in absurd (omega arith)
    by false q a b = let x : version_in s t (4 * f + w) ≡ version_in s t k = cc in low-number s t f w k x a b

    go : (a b : Bool) → ltb f 32 ≡ a → ltb w 4 ≡ b → k < 128
    go true true x y = let a = ltb-true f 32 x in let b = ltb-true w 4 y in by (eqb (entry_in t (4 * f + w)) 0) (sym (Find.within s t f w a b) ∙ is) a b
    go true false x y = far (Find.outside s t f w (inr (ltb-false w 4 y)))
    go false b x y = far (Find.outside s t f w (inl (ltb-false f 32 x)))

-- ---- promises

module _ (s t b : List ℕ) (n : List ℤ) (p : ℕ) where
  pub promise-out : 64 ≤ p → kind_try 0 ≡ kind_in (program_in s t) (state_in b n) (Value.Promise p)
  unfolding kind_in ◌>>=◌ kind_try
  promise-out h = rw (promise-outside b n p h) refl

  module _ (h : p < 64) {j : ℕ} (of : j ≡ b ! (2304 + 4 * p)) where
    frame_is : (promise_in b n p).frame ≡ j
    unfolding promise_in
    frame_is = sym of

    pub promise-gone : (l : Bool) → Lives l b j → l ≡ false → kind_try 0 ≡ kind_in (program_in s t) (state_in b n) (Value.Promise p)
    unfolding kind_in ◌>>=◌ Lives kind_try
    promise-gone l L e = let M = rw e at L in rw (promise-at b n p h, frame_is, M n) refl

    module _ (l : Bool) (L : Lives l b j) (e : l ≡ true) where
      live : at (live_frames (state_in b n)) j ≡ got (frame_in b n j)
      unfolding Lives
      live = let M = rw e at L in frame-live b n j M

      -- by its version and its block
      by-frame : kind_in (program_in s t) (state_in b n) (Value.Promise p)
          ≡ (or_stuck (find_version (program_in s t) (b ! (32 * j + 24)) (b ! (32 * j + 25))) >>= λ W. at W.blocks (b ! (2304 + 4 * p + 1)) >>= λ B. got (4 + B.mark))
      unfolding kind_in ◌>>=◌ frame_in promise_in
      by-frame = rw (promise-at b n p h, sym of, live) refl

      pub version-gone : {r : Number} → version_of s t r ≡ find_version (program_in s t) (b ! (32 * j + 24)) (b ! (32 * j + 25)) → r ≡ None
          → kind_try 0 ≡ kind_in (program_in s t) (state_in b n) (Value.Promise p)
      unfolding ◌>>=◌ or_stuck kind_try
      version-gone v q = sym (by-frame ∙ rw (version-none s t v q) refl)

      module _ {r : Number} (v : version_of s t r ≡ find_version (program_in s t) (b ! (32 * j + 24)) (b ! (32 * j + 25))) {k : ℕ} (q : r ≡ Some k) where
        pub block-gone : {r : BlockAt} → block_of s t r ≡ get_elem? (version_in s t k).blocks (b ! (2304 + 4 * p + 1)) → r ≡ None
            → kind_try 0 ≡ kind_in (program_in s t) (state_in b n) (Value.Promise p)
        unfolding ◌>>=◌ or_stuck kind_try at block_of
        block-gone x y = sym (by-frame ∙ rw (version-some s t v q, sym x, y) refl)

        pub block-there : {r : BlockAt} {e m : ℕ} → block_of s t r ≡ get_elem? (version_in s t k).blocks (b ! (2304 + 4 * p + 1)) → r ≡ Some e → m ≡ (block_in s t e).mark
            → kind_try (4 + m) ≡ kind_in (program_in s t) (state_in b n) (Value.Promise p)
        unfolding ◌>>=◌ or_stuck at block_of
        block-there {m = m} x y z = told m ∙ sym (by-frame ∙ rw (version-some s t v q, sym x, y, z) refl)

-- ---- cells

module _ (s t b : List ℕ) (place : ℕ) where
  pub cell-integer : (tag : ℕ) → tag ≡ 1 → KindedCell 2 s t b tag place
  unfolding value_of kind_in kind_try
  cell-integer tag e n z = rw e refl

  pub cell-vector : (tag : ℕ) → tag ≡ 2 → place < 64 → KindedCell 3 s t b tag place
  unfolding value_of kind_in kind_try ◌>>◌
  cell-vector tag e h n z = rw (e, vector-at b n place h) refl

  pub cell-beyond : (tag : ℕ) → tag ≡ 2 → 64 ≤ place → KindedCell 0 s t b tag place
  unfolding value_of kind_in kind_try ◌>>◌
  cell-beyond tag e h n z = rw (e, vector-outside b n place h) refl

  pub cell-promise : (tag m : ℕ) → tag ≡ 3 → ((n : List ℤ) → kind_try m ≡ kind_in (program_in s t) (state_in b n) (Value.Promise place)) → KindedCell m s t b tag place
  unfolding value_of
  cell-promise tag m e h n z = rw e (h n)

  pub cell-empty : (tag : ℕ) → (tag ≡ 1 → ⊥) → (tag ≡ 2 → ⊥) → (tag ≡ 3 → ⊥) → KindedCell 0 s t b tag place
  unfolding value_of kind_in kind_try
  cell-empty tag x y w n z = rw (ne_eqb tag 1 x, ne_eqb tag 2 y, ne_eqb tag 3 w) refl

-- ---- registers

module _ (P : Program) (b : List ℕ) (n : List ℤ) (k r : ℕ) where
  pub register-past : 16 ≤ r → kind_try 0 ≡ register_kind P (state_in b n) (frame_in b n k) r
  unfolding register_kind value ◌>>=◌ kind_try
  register-past h = rw (register-out b n k r h) refl

  pub register-at : (m : ℕ) → r < 16 → kind_try m ≡ kind_in P (state_in b n) (cell_in b n k r) → kind_try m ≡ register_kind P (state_in b n) (frame_in b n k) r
  unfolding register_kind value ◌>>=◌ full kind_in
  register-at m h e = rw (register-in b n k r h) (e ∙ go (cell_in b n k r))
    where
      go : (v : Value) → kind_in P (state_in b n) v ≡ (full v >>= kind_in P (state_in b n))
      go Value.Empty = refl
      go (Value.Integer z) = refl
      go (Value.Vector v) = refl
      go (Value.Promise p) = refl

-- ---- types

module _ (P : Program) (W : Version) (b : List ℕ) (n : List ℤ) (k a : ℕ) where
  -- by the kind of the register
  by_kind : (d : ℕ) → typed_in P W (state_in b n) (frame_in b n k) d a ≡ (register_kind P (state_in b n) (frame_in b n k) a >>= λ m. at W.types d >>= λ t. got (within m (kind_of t)))
  unfolding typed_in register_kind ◌>>=◌
  by_kind d = go (value (frame_in b n k) a)
    where
      go : (o : Try Value) → (o >>= λ v. kind_in P (state_in b n) v >>= λ m. at W.types d >>= λ t. got (within m (kind_of t))) ≡
          ((o >>= kind_in P (state_in b n)) >>= λ m. at W.types d >>= λ t. got (within m (kind_of t)))
      go (got v) = refl
      go stuck = refl
      go (stop e) = refl

  by-return : returns_in P W (state_in b n) (frame_in b n k) a ≡ (register_kind P (state_in b n) (frame_in b n k) a >>= λ m. got (within m (kind_of W.return)))
  unfolding returns_in register_kind ◌>>=◌
  by-return = go (value (frame_in b n k) a)
    where
      go : (o : Try Value) → (o >>= λ v. kind_in P (state_in b n) v >>= λ m. got (within m (kind_of W.return))) ≡
          ((o >>= kind_in P (state_in b n)) >>= λ m. got (within m (kind_of W.return)))
      go (got v) = refl
      go stuck = refl
      go (stop e) = refl

  module _ {m : ℕ} (K : kind_try m ≡ register_kind P (state_in b n) (frame_in b n k) a) where
    pub typed-none : (d : ℕ) → m ≡ 0 → typed_in P W (state_in b n) (frame_in b n k) d a ≡ typed_of None
    unfolding typed_of ◌>>=◌
    typed-none d h = by_kind d ∙ rw (kind-stuck K h) refl

    pub returned-none : m ≡ 0 → returns_in P W (state_in b n) (frame_in b n k) a ≡ typed_of None
    unfolding typed_of ◌>>=◌
    returned-none h = by-return ∙ rw (kind-stuck K h) refl

    module _ (h : m ≡ 0 → ⊥) where
      pub typed-outside : (d : ℕ) {c : ℕ} → c ≡ length W.types → c ≤ d → typed_in P W (state_in b n) (frame_in b n k) d a ≡ typed_of None
      unfolding typed_of ◌>>=◌
      typed-outside d e l = by_kind d ∙ rw (kind-got K h, at_none W.types d (get_none W.types d (omega arith))) refl

      pub typed-is : (d : ℕ) {c : ℕ} → c ≡ length W.types → d < c → (x : Optional Bool) {t : ℕ} {y : Bool} → t ≡ W.types ! d → y ≡ within m (t % 16) → got y ≡ typed_of x
          → typed_in P W (state_in b n) (frame_in b n k) d a ≡ typed_of x
      unfolding ◌>>=◌ kind_of
      typed-is d e l x f g q = by_kind d ∙ rw (kind-got K h, at_in W.types d 0 (omega arith), sym f) (ap got (sym g) ∙ q)

      pub returned-is : (x : Optional Bool) {t : ℕ} {y : Bool} → t ≡ W.return → y ≡ within m (t % 16) → got y ≡ typed_of x → returns_in P W (state_in b n) (frame_in b n k) a ≡ typed_of x
      unfolding ◌>>=◌ kind_of
      returned-is x f g q = by-return ∙ rw (kind-got K h, sym f) (ap got (sym g) ∙ q)

pub told-is : (y : Bool) → got y ≡ typed_of (Some y)
unfolding typed_of
told-is y = refl
