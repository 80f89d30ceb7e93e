-- What a record shows of its register, by the cells, vectors and promises of the arrays.
use Rattle.std.specs.Prelude.{None, Some, Option as Optional}
use Rattle.loaded.specs.Answers.{BlockAt}
use mathlib.Core.Path.{◌≡◌, refl, sym, ap, ◌∙◌}
use Rattle.loaded.specs.Answers.{Number}
use mathlib.Core.Bool.{Bool, true, false}
use mathlib.Core.List.{List}
use mathlib.Core.Option.{Option, some}
use Prim.Native.Nat.{ℕ, ◌+◌, ◌*◌, ◌<◌, ◌≤◌, min}
use native.Mathlib.Nat.{zero-add}
use native.Mathlib.Numerals.{add-one}
use native.Mathlib.Omega.{arith}
use lib.IntN.{ℤ, pos}
use lib.ListN.{get_or, get_elem?, length, length-take, get_or-eq_default, set, take}
use lib.Seq.{take-length}
use mir.Syntax.{w64}
use mir.Val.{SFits, of_z, to_z}
use mir.Facts.{to_z-of_z}
use Rattle.layout.specs.Bounds.{REGISTERS}
use Rattle.layout.specs.Records.{◌!◌}
use Rattle.layout.proofs.Lists.{get_in, get-some, get_take}
use Rattle.program.specs.Program.{Program, Version, find_version}
use Rattle.machine.specs.States.{items_of, live_frames, over, register}
use Rattle.machine.specs.Try.{Try, ◌>>=◌, at, got, or_stuck}
use Rattle.machine.specs.Watches.{empty_row, items_at, mark_in, or_empty, or_zero, row_of, rows_from, vector_row, watch_of, zeros}
use Rattle.machine.specs.declared.Row.{Row}
use Rattle.machine.specs.declared.State.{State}
use Rattle.machine.specs.declared.Value.{Value}
use Rattle.machine.proofs.Overlays.{over-next}
use Rattle.machine.proofs.Tries.{or-stuck}
use Rattle.runs.proofs.Watches.{rows-at, rows-length}
use Rattle.store.specs.Store.{DELAYS, cell_in, frame_in, promise_in, state_in, vector_in}
use Rattle.store.proofs.Frames.{frame-live, register-in}
use Rattle.store.proofs.Lists.{missing-up_to}
use Rattle.store.proofs.Promises.{promise-at, promise-outside}
use Rattle.store.proofs.Vectors.{vector-at}
use Rattle.frames.specs.Frames.{Lives}
use Rattle.loaded.specs.Answers.{block_of, version_of}
use Rattle.loaded.specs.Loaded.{block_in, program_in, version_in}
use Rattle.watches.specs.Rows.{Tops, plain_row, row_at}
use Rattle.watches.specs.declared.Top.{Top}

-- ---- a vector

-- no items are laid over the zeros yet
pub none-laid : (xs : List ℤ) → zeros ≡ over (take 0 xs) zeros
unfolding over
none-laid xs = refl

-- the next one, as it is read
pub next-laid : (xs items : List ℤ) (j : ℕ) {x : ℤ} → items ≡ over (take j xs) zeros → j < length xs → SFits w64 x → x ≡ get_or xs j (pos 0) → set items j (to_z w64 (of_z w64 x)) ≡ over (take (j + 1) xs) zeros
next-laid xs items j h l f e = (λ i. set (h i) j ((to_z-of_z f ∙ e) i)) ∙ rw add-one (over-next xs zeros j (pos 0) l)

-- all of them
pub all_laid : (xs items : List ℤ) (j n : ℕ) → items ≡ over (take j xs) zeros → j ≤ n → n ≤ j → n ≡ length xs → items ≡ over xs zeros
all_laid xs items j n h a b e = let q : j ≡ length xs = omega (arith, a, b, e) in h ∙ ap (λ (l : List ℤ). over l zeros) (ap (λ (i : ℕ). take i xs) q ∙ take-length xs)

module _ (b : List ℕ) (n : List ℤ) (t v : ℕ) where
  pub far-vector : 64 ≤ v → plain_row t 2 (pos 0) 0 ≡ vector_row t (items_at (get_elem? (state_in b n).vectors v))
  unfolding items_at state_in over
  far-vector h = rw (missing-up_to (vector_in b n) 64 v h) refl

  vector-there : v < 64 → get_elem? (state_in b n).vectors v ≡ some (vector_in b n v)
  unfolding at
  vector-there h = or-stuck _ (vector_in b n v) (vector-at b n v h)

  pub vector-shown : v < 64 → {m : ℕ} {xs : List ℤ} → m ≡ length (items_of (vector_in b n v)) → xs ≡ over (items_of (vector_in b n v)) zeros
      → ◌≡◌ {A = Row} (record { integer = pos 0; items = xs; declared = t; holds = 2; length = m; mark = 0 }) (vector_row t (items_at (get_elem? (state_in b n).vectors v)))
  unfolding items_at
  vector-shown h e f = rw (vector-there h) (λ i. record { integer = pos 0; items = f i; declared = t; holds = 2; length = e i; mark = 0 })

-- ---- a promise

-- by the version of its frame and the number of its block
abbrev marked : Option Version → ℕ → Try ℕ
marked o i = or_stuck o >>= λ W. at W.blocks i >>= λ B. got B.mark

-- the frame is live
pub is-there : (b : List ℕ) (k : ℕ) {l : Bool} → Lives l b k → l ≡ true → k < 32
unfolding Lives
is-there b k L e = let M = rw e at L in M.0

module _ (s t b : List ℕ) (n : List ℤ) (p : ℕ) where
  pub no-promise : 64 ≤ p → 0 ≡ or_zero (mark_in (program_in s t) (state_in b n) p)
  unfolding mark_in or_zero ◌>>=◌
  no-promise h = rw (promise-outside b n p h) refl

  module _ (h : p < 64) {j : ℕ} (of : j ≡ b ! (DELAYS + 4 * p)) where
    frame_is : (promise_in b n p).frame ≡ j
    unfolding promise_in
    frame_is = sym of

    pub frame-gone : {l : Bool} → Lives l b j → l ≡ false → 0 ≡ or_zero (mark_in (program_in s t) (state_in b n) p)
    unfolding mark_in or_zero ◌>>=◌ Lives
    frame-gone L e = let M = rw e at L in rw (promise-at b n p h, frame_is, M n) refl

    module _ {l : Bool} (L : Lives l b j) (e : l ≡ true) where
      live : at (live_frames (state_in b n)) j ≡ got (frame_in b n j)
      unfolding Lives
      live = let M = rw e at L in frame-live b n j M

      module _ (r : Number) (v : version_of s t r ≡ find_version (program_in s t) (b ! (32 * j + 24)) (b ! (32 * j + 25))) where
        by-version : mark_in (program_in s t) (state_in b n) p ≡ marked (version_of s t r) (b ! (DELAYS + 4 * p + 1))
        unfolding mark_in ◌>>=◌ frame_in promise_in
        by-version = rw (v, promise-at b n p h, sym of, live) refl

        pub version-gone : r ≡ None → 0 ≡ or_zero (mark_in (program_in s t) (state_in b n) p)
        unfolding ◌>>=◌ or_stuck or_zero version_of
        version-gone q = sym (ap or_zero (by-version ∙ ap (λ x. marked (version_of s t x) (b ! (DELAYS + 4 * p + 1))) q))

        module _ {k : ℕ} (q : r ≡ Some k) {i : ℕ} (d : i ≡ b ! (DELAYS + 4 * p + 1)) (a : BlockAt) (x : block_of s t a ≡ get_elem? (version_in s t k).blocks i) where
          by-block : mark_in (program_in s t) (state_in b n) p ≡ (or_stuck (block_of s t a) >>= λ B. got B.mark)
          unfolding ◌>>=◌ or_stuck at version_of
          by-block = by-version ∙ ap (λ y. marked (version_of s t y) (b ! (DELAYS + 4 * p + 1))) q ∙ ap (λ m. marked (some (version_in s t k)) m) (sym d) ∙ ap (λ o. or_stuck o >>= λ B. got B.mark) (sym x)

          pub block-gone : a ≡ None → 0 ≡ or_zero (mark_in (program_in s t) (state_in b n) p)
          unfolding ◌>>=◌ or_stuck or_zero block_of
          block-gone y = sym (ap or_zero (by-block ∙ ap (λ z. or_stuck (block_of s t z) >>= λ B. got B.mark) y))

          pub block-there : {c m : ℕ} → a ≡ Some c → m ≡ (block_in s t c).mark → m ≡ or_zero (mark_in (program_in s t) (state_in b n) p)
          unfolding ◌>>=◌ or_stuck or_zero block_of
          block-there y z = z ∙ sym (ap or_zero (by-block ∙ ap (λ z. or_stuck (block_of s t z) >>= λ B. got B.mark) y))

-- ---- a value

module _ (P : Program) (u : State) (t : ℕ) {v : Value} {x : Row} where
  pub empty-shown : v ≡ Value.Empty → x ≡ plain_row t 0 (pos 0) 0 → x ≡ row_of P u t v
  unfolding row_of
  empty-shown e h = h ∙ ap (row_of P u t) (sym e)

  -- as it is passed
  pub integer-shown : {z : ℤ} → v ≡ Value.Integer z → SFits w64 z → x ≡ plain_row t 1 (to_z w64 (of_z w64 z)) 0 → x ≡ row_of P u t v
  unfolding row_of
  integer-shown e f h = h ∙ ap (λ (y : ℤ). plain_row t 1 y 0) (to_z-of_z f) ∙ ap (row_of P u t) (sym e)

  pub items_shown : {p : ℕ} → v ≡ Value.Vector p → x ≡ vector_row t (items_at (get_elem? u.vectors p)) → x ≡ row_of P u t v
  unfolding row_of
  items_shown e h = h ∙ ap (row_of P u t) (sym e)

  pub mark-shown : {p m : ℕ} → v ≡ Value.Promise p → m ≡ or_zero (mark_in P u p) → x ≡ plain_row t 3 (pos 0) m → x ≡ row_of P u t v
  unfolding row_of
  mark-shown e g h = h ∙ ap (plain_row t 3 (pos 0)) g ∙ ap (row_of P u t) (sym e)

-- ---- a register of the topmost call

module _ (s t b : List ℕ) (n : List ℤ) {x : Optional Top} (T : Tops x t b) (r : ℕ) where
  pub none-shown : x ≡ None → empty_row 0 ≡ row_at (watch_of (program_in s t) (state_in b n)) r
  unfolding Tops
  none-shown e = let M = rw e at T in rw (M s n) refl

  module _ {top : Top} (e : x ≡ Some top) where
    rows_are : watch_of (program_in s t) (state_in b n) ≡ rows_from (program_in s t) (state_in b n) (frame_in b n top.frame) 0 (take REGISTERS (version_in s t top.own).types)
    unfolding Tops
    rows_are = let M = rw e at T in M.1 s n

    pub frame-inside : top.frame < 32
    unfolding Tops
    frame-inside = let M = rw e at T in M.0

    module _ {m y : ℕ} (g : m ≡ length (version_in s t top.own).types) (h : y ≡ min REGISTERS m) where
      abbrev types : List ℕ
      types = (version_in s t top.own).types

      pub past-shown : y ≤ r → empty_row 0 ≡ row_at (watch_of (program_in s t) (state_in b n)) r
      past-shown l =
          let q = rows-length (program_in s t) (state_in b n) (frame_in b n top.frame) 0 (take REGISTERS types) in
          let w = length-take REGISTERS types in
          sym (ap (λ (rows : List Row). row_at rows r) rows_are ∙ get_or-eq_default (rows_from (program_in s t) (state_in b n) (frame_in b n top.frame) 0 (take REGISTERS types)) (empty_row 0) {n = r} (omega (arith, q, w, g, h, l)))

      pub register-shown : r < y → {d : ℕ} {v : Value} {z : Row} → d ≡ types ! r → v ≡ cell_in b n top.frame r → z ≡ row_of (program_in s t) (state_in b n) d v → z ≡ row_at (watch_of (program_in s t) (state_in b n)) r
      unfolding or_empty
      register-shown l a c f =
          let low : r < 16 = omega (arith, h, l) in
          let typed : get_elem? (take REGISTERS types) r ≡ some (types ! r) = get_take types REGISTERS r low ∙ get-some types r 0 (omega (arith, g, h, l)) in
          let there = rows-at (program_in s t) (state_in b n) (frame_in b n top.frame) 0 (take REGISTERS types) r (types ! r) typed in
          let row = (get_in (rows_from (program_in s t) (state_in b n) (frame_in b n top.frame) 0 (take REGISTERS types)) r (empty_row 0) _ there).1 in
          let held : or_empty (register (frame_in b n top.frame) (0 + r)) ≡ cell_in b n top.frame r = ap (λ (i : ℕ). or_empty (register (frame_in b n top.frame) i)) (zero-add r) ∙ ap or_empty (register-in b n top.frame r low) in
          f ∙ (λ i. row_of (program_in s t) (state_in b n) (a i) ((c ∙ sym held) i)) ∙ sym (ap (λ (rows : List Row). row_at rows r) rows_are ∙ row)
