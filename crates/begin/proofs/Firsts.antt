-- The state that the first arrays stand for.
use mathlib.Core.Path.{◌≡◌, refl, sym, ap, ◌∙◌}
use mathlib.Core.List.{List, [], ◌∷◌, map}
use mathlib.Core.Bool.{Bool, true, false, cond}
use Prim.Native.Nat.{ℕ, suc, ◌+◌, ◌*◌, ◌≤◌, ◌<◌}
use native.Mathlib.Omega.{arith}
use lib.IntN.{ℤ, pos}
use lib.ListN.{length, length-set, length-replicate, get_or, replicate, set, take}
use lib.Dec.{ltb}
use lib.Seq.{sets, length-sets, get_or-set_same, get_or-set_other, set_out}
use borrow.Author.Tests.{lt-ltb, ltb-true, ltb-false}
use Rattle.layout.specs.Bounds.{NAMES, REGISTERS}
use Rattle.layout.specs.Records.{◌!◌}
use Rattle.program.specs.Program.{Version}
use Rattle.machine.specs.Calls.{frame_for}
use Rattle.machine.specs.States.{ACTIVATIONS, ITEMS, PROMISES, VECTORS, assign, live_frames, new_frame, new_vector, over, place, with_frame, with_register, with_stack, with_vector}
use Rattle.machine.specs.Try.{◌>>=◌, ◌>>◌, at, got, or_stuck, put, stuck_unless}
use Rattle.machine.specs.Begin.{Given, first_state, integer, values_of, vector, vectors_of}
use Rattle.machine.specs.declared.Cache.{Cache}
use Rattle.machine.specs.declared.Opener.{Opener}
use Rattle.machine.specs.declared.Place.{Place}
use Rattle.machine.specs.declared.State.{State}
use Rattle.machine.specs.declared.Status.{Status}
use Rattle.machine.specs.declared.Value.{Value}
use Rattle.machine.specs.declared.Vector.{Vector}
use Rattle.store.specs.Lists.{up_to}
use Rattle.store.specs.Store.{◌#◌, CALLS, DEPTH, ENDING, ITEM, LENGTHS, PLACES, RESULT, STATUS, Puts, activation_in, cache_of, cell_in, frame_in, opener_of, promise_in, state_in, status_of, value_of, vector_in}
use Rattle.store.proofs.Frames.{assigned}
use Rattle.store.proofs.Kept.{by_parts, cell_same, delays-kept, frame_same, new-vector, result-kept, stack-kept, vectors-kept}
use Rattle.store.proofs.Lists.{set-up_to-by, up_to-same}
use Rattle.store.proofs.Puts.{put-integer, put-place}
use Rattle.begin.specs.Arrays.{blank_bytes, blank_numbers, bytes_with, first_bytes, first_numbers, integer_bytes, integer_numbers, item_numbers, length_bytes, numbers_with, open_bytes, vector_bytes}
use Rattle.begin.proofs.Stores.{get_or-none, item-stored, over-up_to, sets_over, stored_other, take-few}

-- ---- a run of the version w of the function f

module _ (f w : ℕ) where
  -- its first state, with these registers and vectors
  abbrev opened : List Place → List Vector → State
  opened rs vs = record {
    frames = record { function = f; version = w; registers = rs; names = replicate NAMES (place Value.Empty) } ∷ replicate 31 (new_frame 0 0);
    calls = 1;
    activations = replicate ACTIVATIONS (record { opener = Opener.Call; d = 0; frame = 0; block = 0; next = 0 });
    depth = 1;
    vectors = vs;
    promises = replicate PROMISES (record { frame = 0; block = 0; cache = Cache.Unforced });
    result = replicate ITEMS (pos 0);
    status = Status.Running;
  }

  -- the arrays stand for it, and the items of vectors from c on are blank
  record Stand (c : ℕ) (b : List ℕ) (n : List ℤ) (rs : List Place) (vs : List Vector) : Type 0 where
    state : state_in b n ≡ opened rs vs
    bytes : length b ≡ 2632
    numbers : length n ≡ 2129
    registers : length rs ≡ 16
    vectors : length vs ≡ 64
    blank : (j : ℕ) → ITEM + 16 * c ≤ j → j < 2048 → n # j ≡ pos 0

  -- ---- without arguments

  module _ (B : List ℕ) (N : List ℤ) (lb : length B ≡ 2632) (ln : length N ≡ 2129) (zb : (i : ℕ) → B ! i ≡ 0) (zn : (i : ℕ) → N # i ≡ pos 0) where
    -- the bytes of the one call
    abbrev b : List ℕ
    b = open_bytes f w B

    long : length b ≡ 2632
    unfolding open_bytes
    long = simp (length-set, lb)

    others : (i : ℕ) → (i ≡ 24 → ⊥) → (i ≡ 25 → ⊥) → (i ≡ CALLS → ⊥) → (i ≡ DEPTH → ⊥) → b ! i ≡ 0
    unfolding open_bytes
    others i p q r s =
        get_or-set_other (set (set (set B 24 f) 25 w) CALLS 1) DEPTH i 1 0 s ∙ get_or-set_other (set (set B 24 f) 25 w) CALLS i 1 0 r
        ∙ get_or-set_other (set B 24 f) 25 i w 0 q ∙ get_or-set_other B 24 i f 0 p ∙ zb i

    function-is : b ! 24 ≡ f
    unfolding open_bytes
    function-is =
        get_or-set_other (set (set (set B 24 f) 25 w) CALLS 1) DEPTH 24 1 0 (λ z. omega arith) ∙ get_or-set_other (set (set B 24 f) 25 w) CALLS 24 1 0 (λ z. omega arith)
        ∙ get_or-set_other (set B 24 f) 25 24 w 0 (λ z. omega arith) ∙ get_or-set_same B 24 f 0 (omega arith)

    version-is : b ! 25 ≡ w
    unfolding open_bytes
    version-is =
        let l : length (set B 24 f) ≡ 2632 = simp (length-set, lb) in
        get_or-set_other (set (set (set B 24 f) 25 w) CALLS 1) DEPTH 25 1 0 (λ z. omega arith) ∙ get_or-set_other (set (set B 24 f) 25 w) CALLS 25 1 0 (λ z. omega arith)
        ∙ get_or-set_same (set B 24 f) 25 w 0 (omega arith)

    calls_is : b ! CALLS ≡ 1
    unfolding open_bytes
    calls_is =
        let l : length (set (set B 24 f) 25 w) ≡ 2632 = simp (length-set, lb) in
        get_or-set_other (set (set (set B 24 f) 25 w) CALLS 1) DEPTH CALLS 1 0 (λ z. omega arith) ∙ get_or-set_same (set (set B 24 f) 25 w) CALLS 1 0 (omega arith)

    depth_is : b ! DEPTH ≡ 1
    unfolding open_bytes
    depth_is = let l : length (set (set (set B 24 f) 25 w) CALLS 1) ≡ 2632 = simp (length-set, lb) in get_or-set_same (set (set (set B 24 f) 25 w) CALLS 1) DEPTH 1 0 (omega arith)

    -- its frame: each cell as where nothing is set
    owner : frame_in b N 0 ≡ record { function = f; version = w; registers = replicate REGISTERS (place Value.Empty); names = replicate NAMES (place Value.Empty) }
    unfolding frame_in cell_in value_of up_to
    owner =
        let c : (j : ℕ) → j < 24 → cell_in b N 0 j ≡ cell_in [] [] 0 j = λ j h. cell_same [] b [] N 0 j (others _ (λ z. omega arith) (λ z. omega arith) (λ z. omega arith) (λ z. omega arith)) (others _ (λ z. omega arith) (λ z. omega arith) (λ z. omega arith) (λ z. omega arith)) (zn _) in
        let rs = up_to-same (λ r. place (cell_in b N 0 r)) (λ r. place (cell_in [] [] 0 r)) 0 16 (λ r x y. ap place (c r (omega arith))) in
        let xs = up_to-same (λ x. place (cell_in b N 0 (16 + x))) (λ x. place (cell_in [] [] 0 (16 + x))) 0 8 (λ r x y. ap place (c (16 + r) (omega arith))) in
        λ t. record { function = function-is t; version = version-is t; registers = rs t; names = xs t }

    -- the other frames
    frames-are : up_to (frame_in b N) 0 32 ≡ record { function = f; version = w; registers = replicate REGISTERS (place Value.Empty); names = replicate NAMES (place Value.Empty) } ∷ replicate 31 (new_frame 0 0)
    unfolding frame_in cell_in value_of up_to
    frames-are = sym (set-up_to-by (frame_in [] []) (frame_in b N) 32 0 _ owner (λ j a q. frame_same [] b [] N j
        (λ m d e. others m (λ z. q (omega arith)) (λ z. q (omega arith)) (λ z. omega arith) (λ z. omega arith))
        (λ m d e. others m (λ z. omega arith) (λ z. omega arith) (λ z. omega arith) (λ z. omega arith))
        (λ m d e. zn m)))

    activations-are : up_to (activation_in b) 0 32 ≡ replicate ACTIVATIONS (record { opener = Opener.Call; d = 0; frame = 0; block = 0; next = 0 })
    unfolding activation_in opener_of up_to
    activations-are = stack-kept [] b [] N (λ m d e. others m (λ z. omega arith) (λ z. omega arith) (λ z. omega arith) (λ z. omega arith))

    vectors-are : up_to (vector_in b N) 0 64 ≡ replicate VECTORS (new_vector [])
    unfolding vector_in new_vector over up_to
    vectors-are = vectors-kept [] b [] N (λ m d e. others m (λ z. omega arith) (λ z. omega arith) (λ z. omega arith) (λ z. omega arith)) (λ m d e. zn m)

    promises-are : up_to (promise_in b N) 0 64 ≡ replicate PROMISES (record { frame = 0; block = 0; cache = Cache.Unforced })
    unfolding promise_in cache_of up_to
    promises-are = delays-kept [] b [] N (λ m d e. others m (λ z. omega arith) (λ z. omega arith) (λ z. omega arith) (λ z. omega arith)) (λ m d e. zn m)

    result-is : up_to (λ j. N # (RESULT + j)) 0 16 ≡ replicate ITEMS (pos 0)
    unfolding up_to
    result-is = result-kept [] b [] N (λ m d e. zn m)

    status-is : status_of (b ! STATUS) (b ! (STATUS + 1)) (N # ENDING) ≡ Status.Running
    unfolding status_of
    status-is = rw (others STATUS (λ z. omega arith) (λ z. omega arith) (λ z. omega arith) (λ z. omega arith)) refl

    open-stands : Stand 0 b N (replicate REGISTERS (place Value.Empty)) (replicate VECTORS (new_vector []))
    open-stands = record {
      state = by_parts [] b [] N (opened (replicate REGISTERS (place Value.Empty)) (replicate VECTORS (new_vector []))) frames-are calls_is activations-are depth_is vectors-are promises-are result-is status-is;
      bytes = long;
      numbers = ln;
      registers = refl;
      vectors = refl;
      blank = λ j x y. zn j;
    }

  -- ---- an argument more

  module _ {c : ℕ} {b : List ℕ} {n : List ℤ} {rs : List Place} {vs : List Vector} (S : Stand c b n rs vs) where
    live : (0 < 32) × (0 < b ! CALLS)
    unfolding state_in
    live = let e : b ! CALLS ≡ 1 = ap (λ (s : State). s.calls) S.state in (omega arith, omega arith)

    -- a register of the first frame is assigned
    put_in : {b' : List ℕ} {n' : List ℤ} {i : ℕ} {v : Value} → i < 16 → Puts b n b' n' 0 i v → state_in b' n' ≡ opened (set rs i (place v)) vs
    unfolding assign live_frames with_register with_frame with_stack put at or_stuck stuck_unless ◌>>=◌ ◌>>◌
    put_in {b'} {n'} {i} {v} h P =
        let a : assign (opened rs vs) 0 i v ≡ got (state_in b' n') = rw S.state at (assigned P live h) in
        let l : ltb i (length rs) ≡ true = lt-ltb i (length rs) (omega (arith, S.registers, h)) in
        let q : got (opened (set rs i (place v)) vs) ≡ got (state_in b' n') = rw l at a in
        let r : opened (set rs i (place v)) vs ≡ state_in b' n' = cc in
        sym r

    integer-stands : (i : ℕ) (z : ℤ) → Stand c (integer_bytes i b) (integer_numbers i z n) (set rs i (place (Value.Integer z))) vs
    unfolding integer_bytes integer_numbers
    integer-stands i z = go (ltb i 16) refl
      where
        go : (t : Bool) → ltb i 16 ≡ t → Stand c (cond t (set b i 1) b) (cond t (set n i z) n) (set rs i (place (Value.Integer z))) vs
        go true q =
            let h = ltb-true i 16 q in
            let e : 32 * 0 + i ≡ i = omega arith in
            record {
              state = put_in h (rw e at (put-integer b n 0 i S.bytes S.numbers (omega arith, omega (arith, h)) z));
              bytes = simp (length-set, S.bytes);
              numbers = simp (length-set, S.numbers);
              registers = simp (length-set, S.registers);
              vectors = S.vectors;
              blank = λ j x y. get_or-set_other n i j z (pos 0) (λ a. omega (arith, h, x, a)) ∙ S.blank j x y;
            }
        go false q = rw (set_out rs i (place (Value.Integer z)) (omega (arith, S.registers, ltb-false i 16 q))) S

    vector-stands : (i d : ℕ) → Stand c (vector_bytes i d b) n (set rs i (place (Value.Vector d))) vs
    unfolding vector_bytes value_of
    vector-stands i d = go (ltb i 16) refl
      where
        go : (t : Bool) → ltb i 16 ≡ t → Stand c (cond t (set (set b i 2) (PLACES + i) d) b) n (set rs i (place (Value.Vector d))) vs
        go true q =
            let h = ltb-true i 16 q in
            let e : 32 * 0 + i ≡ i = omega arith in
            let g : PLACES + 32 * 0 + i ≡ PLACES + i = omega arith in
            record {
              state = put_in h (rw (e, g) at (put-place b n 0 i S.bytes S.numbers (omega arith, omega (arith, h)) 2 d));
              bytes = simp (length-set, S.bytes);
              numbers = S.numbers;
              registers = simp (length-set, S.registers);
              vectors = S.vectors;
              blank = S.blank;
            }
        go false q = rw (set_out rs i (place (Value.Vector d)) (omega (arith, S.registers, ltb-false i 16 q))) S

    items-stand : (ys : List ℤ) → Stand (suc c) (length_bytes c (length ys) b) (item_numbers c ys n) rs (set vs c (new_vector ys))
    unfolding length_bytes item_numbers vector_in new_vector with_vector
    items-stand ys = go (ltb c 64) refl
      where
        vector-is : c < 64 → vector_in (set b (LENGTHS + c) (length ys)) (sets n (ITEM + 16 * c) (take ITEMS ys)) c ≡ new_vector ys
        vector-is h =
            let l = get_or-set_same b (LENGTHS + c) (length ys) 0 (omega (arith, S.bytes, h)) in
            let xs = up_to-same (λ j. sets n (ITEM + 16 * c) (take ITEMS ys) # (ITEM + 16 * c + j)) (λ j. get_or ys j (pos 0)) 0 16 (λ j x y. item-stored n (ITEM + 16 * c) j ys (omega arith) (omega (arith, S.numbers, h)) (S.blank (ITEM + 16 * c + j) (omega arith) (omega (arith, h, y)))) in
            let zs = xs ∙ sym (over-up_to ys (pos 0) 16) in
            λ t. record { length = l t; items = zs t }

        go : (t : Bool) → ltb c 64 ≡ t → Stand (suc c) (cond t (set b (LENGTHS + c) (length ys)) b) (cond t (sets n (ITEM + 16 * c) (take ITEMS ys)) n) rs (set vs c (new_vector ys))
        go true q =
            let h = ltb-true c 64 q in
            let l = take-few ITEMS ys in
            let other : (j : ℕ) → (ITEM + 16 * c ≤ j → j < ITEM + 16 * c + 16 → ⊥) → sets n (ITEM + 16 * c) (take ITEMS ys) # j ≡ n # j = λ j x. stored_other (take ITEMS ys) n (ITEM + 16 * c) j (pos 0) (λ y z. x y (omega (arith, l, z))) in
            let s = new-vector b (set b (LENGTHS + c) (length ys)) n (sets n (ITEM + 16 * c) (take ITEMS ys)) c h (λ m x. get_or-set_other b (LENGTHS + c) m (length ys) 0 (λ z. x (omega arith) (omega arith))) other in
            record {
              state = s ∙ ap (λ (u : State). with_vector u c (vector_in (set b (LENGTHS + c) (length ys)) (sets n (ITEM + 16 * c) (take ITEMS ys)) c)) S.state ∙ ap (λ (v : Vector). opened rs (set vs c v)) (vector-is h);
              bytes = simp (length-set, S.bytes);
              numbers = length-sets n (ITEM + 16 * c) (take ITEMS ys) ∙ S.numbers;
              registers = S.registers;
              vectors = simp (length-set, S.vectors);
              blank = λ j x y. other j (λ u z. omega (arith, x, z)) ∙ S.blank j (omega (arith, x)) y;
            }
        go false q = rw (set_out vs c (new_vector ys) (omega (arith, S.vectors, ltb-false c 64 q))) (record {
          state = S.state;
          bytes = S.bytes;
          numbers = S.numbers;
          registers = S.registers;
          vectors = S.vectors;
          blank = λ j x y. S.blank j (omega (arith, x)) y;
        })

  -- ---- all of them

  all-stand : (xs : List Given) (i c : ℕ) (b : List ℕ) (n : List ℤ) (rs : List Place) (vs : List Vector) → Stand c b n rs vs
      → state_in (bytes_with xs i c b) (numbers_with xs i c n) ≡ opened (sets rs i (map place (values_of xs c))) (sets vs c (vectors_of xs))
  unfolding bytes_with numbers_with values_of vectors_of
  all-stand [] i c b n rs vs S = S.state
  all-stand (integer z ∷ xs) i c b n rs vs S = all-stand xs (suc i) c _ _ _ _ (integer-stands S i z)
  all-stand (vector ys ∷ xs) i c b n rs vs S = all-stand xs (suc i) (suc c) _ _ _ _ (items-stand (vector-stands S i c) ys)

-- THE LAW: the first arrays stand for the first state
pub first-state : (W : Version) (xs : List Given) → state_in (first_bytes W.function W.version xs) (first_numbers xs) ≡ first_state (frame_for W (values_of xs 0) ∷ []) (vectors_of xs)
unfolding first_bytes first_numbers blank_bytes blank_numbers first_state frame_for over
first-state W xs =
    all-stand W.function W.version xs 0 0 _ _ _ _ (open-stands W.function W.version blank_bytes blank_numbers (length-replicate {A = ℕ} 2632 0) (length-replicate 2129 (pos 0)) (λ i. get_or-none {A = ℕ} 2632 i 0) (λ i. get_or-none 2129 i (pos 0)))
    ∙ rw (sets_over (map place (values_of xs 0)) (replicate REGISTERS (place Value.Empty)), sets_over (vectors_of xs) (replicate VECTORS (new_vector []))) refl
