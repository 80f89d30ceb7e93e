-- A call that opens: its arguments go to the new frame one after the other, its owned ones are emptied in the old one.
use mathlib.Core.Path.{◌≡◌, refl, sym, ap, ◌∙◌}
use mathlib.Core.List.{List, [], ◌∷◌, map}
use mathlib.Core.Bool.{Bool, true, false}
use mathlib.Core.Option.{some}
use Prim.Native.Nat.{ℕ, suc, ◌+◌, ◌/◌, ◌%◌, ◌≤◌, ◌<◌}
use native.Mathlib.Numerals.{add-one}
use native.Mathlib.Omega.{arith}
use lib.IntN.{ℤ}
use lib.ListN.{drop, get_elem?, length, set, take}
use lib.Seq.{drop-cons, take-suc}
use lib.Dec.{eqb, ltb}
use borrow.Author.Tests.{eq-eqb, ne_eqb, le-ltb, lt-ltb, ltb-true, ltb-false}
use Rattle.layout.specs.Records.{◌!◌}
use Rattle.layout.proofs.Lists.{get_other, get-same, get_take}
use Rattle.rules.specs.Types.{is_owned}
use Rattle.machine.specs.Try.{Try, got, stuck, stop, ◌>>=◌, ◌>>◌, at, or_stuck, put, stuck_unless}
use Rattle.machine.specs.Calls.{emptied, empty_if}
use Rattle.machine.specs.States.{assign, live_frames, over, place, register, with_frame, with_register, with_stack}
use Rattle.machine.specs.declared.Frame.{Frame}
use Rattle.machine.specs.declared.State.{State}
use Rattle.machine.specs.declared.Value.{Value}
use Rattle.machine.proofs.Overlays.{length_over}
use Rattle.store.proofs.Lists.{get_elem?-up_to, length-up_to, set-up_to-by}
use Rattle.store.specs.declared.Did.{Did}
use Rattle.store.specs.Store.{CALLS, cell_in, frame_in, state_in, Live}
use Rattle.store.specs.Counts.{Ready}
use Rattle.store.specs.Acts.{Does}
use Rattle.store.proofs.Frames.{register-in}
use Rattle.acts.proofs.Answers.{assigned-is}
use Rattle.listing.specs.Listing.{Small}
use Rattle.listing.specs.Entering.{Marks, held_by, is_bit, masked, passed_on, with_arguments}
use Rattle.listing.proofs.Gathering.{drop_all, take_all}
use Rattle.listing.proofs.Arguments.{length-map, length-take, map-append, over-most, over-next, set_twice, take-map}

-- ---- frames that stay

-- a frame of arrays, by the frames of the state
pub frame-by : (b b' : List ℕ) (n n' : List ℤ) (k : ℕ) {f : Frame} → k < 32 → get_elem? (state_in b' n').frames k ≡ some f → frame_in b' n' k ≡ f
unfolding state_in
frame-by b b' n n' k {f = f} h e = let q : some (frame_in b' n' k) ≡ some f = sym (get_elem?-up_to (frame_in b' n') 32 k h) ∙ e in cc

pub frame_is : (b : List ℕ) (n : List ℤ) (k : ℕ) → k < 32 → get_elem? (state_in b n).frames k ≡ some (frame_in b n k)
unfolding state_in
frame_is b n k h = get_elem?-up_to (frame_in b n) 32 k h

pub frames-long : (b : List ℕ) (n : List ℤ) → length (state_in b n).frames ≡ 32
unfolding state_in
frames-long b n = length-up_to (frame_in b n) 32

-- its cells
cell-by : (b b' : List ℕ) (n n' : List ℤ) (k r : ℕ) → r < 16 → frame_in b' n' k ≡ frame_in b n k → cell_in b' n' k r ≡ cell_in b n k r
cell-by b b' n n' k r h f = let u : got (cell_in b' n' k r) ≡ got (cell_in b n k r) = sym (register-in b' n' k r h) ∙ ap (λ (g : Frame). register g r) f ∙ register-in b n k r h in cc

pub held_same : (b b' : List ℕ) (n n' : List ℤ) (k : ℕ) (rs : List ℕ) → Small rs → frame_in b' n' k ≡ frame_in b n k → held_by b' n' k rs ≡ held_by b n k rs
held_same b b' n n' k [] S f = refl
held_same b b' n n' k (r ∷ rs) S f = λ t. cell-by b b' n n' k r (S 0 (omega arith)) f t ∷ held_same b b' n n' k rs (λ i h. S (suc i) (omega arith)) f t

-- ---- arguments

-- a register of a frame that was just put
assign-again : (s : State) (k d : ℕ) (f : Frame) (v : Value) → k < s.calls → k < length s.frames → d < length f.registers
    → assign (with_frame s k f) k d v ≡ got (with_frame s k (record { function = f.function; version = f.version; registers = set f.registers d (place v); names = f.names }))
unfolding assign with_frame with_stack live_frames at or_stuck with_register put stuck_unless ◌>>=◌ ◌>>◌
assign-again s k d f v h l g =
    rw (get_take (set s.frames k f) s.calls k h, get-same s.frames k f l, lt-ltb d (length f.registers) g)
    (ap (λ fs. got (with_stack s fs s.calls s.activations s.depth)) (set_twice s.frames k f (record {
      function = f.function;
      version = f.version;
      registers = set
          f.registers d (place v);
      names = f.names;
    })))

-- the first i are in the frame j
pub record Passed (b : List ℕ) (n : List ℤ) (b' : List ℕ) (n' : List ℤ) (c' : List ℕ) (k j : ℕ) (rs : List ℕ) (i : ℕ) : Type 0 where
  pub most : i ≤ 16
  pub within : i ≤ length rs
  pub state : state_in b' n' ≡ passed_on b n k j (take i rs)
  pub ready : Ready b' n' c'

module _ (b : List ℕ) (n : List ℤ) (k j : ℕ) (rs : List ℕ) where
  pub pass-begun : (c : List ℕ) → Live b j → Ready b n c → Passed b n b n c k j rs 0
  unfolding with_arguments over with_frame with_stack state_in
  pass-begun c L R = record {
    most = omega arith;
    within = omega arith;
    state = ap (λ fs. with_stack (state_in b n) fs (state_in b n).calls (state_in b n).activations (state_in b n).depth)
        (sym (set-up_to-by (frame_in b n) (frame_in b n) 32 j (frame_in b n j) refl (λ i a q. refl)));
    ready = R;
  }

  module _ (b' : List ℕ) (n' : List ℤ) (c' : List ℕ) (i : ℕ) (G : Passed b n b' n' c' k j rs i) (L : Live b j) where
    pub pass-live : Live b' j
    unfolding with_frame with_stack state_in
    pass-live = let e : b' ! CALLS ≡ b ! CALLS = ap (λ (s : State). s.calls) G.state in (L.0, omega (arith, L.1, e))

    pub pass-done : length rs ≤ i → state_in b' n' ≡ passed_on b n k j rs
    pass-done h = G.state ∙ ap (passed_on b n k j) (take_all rs i h)

    pub pass-full : 16 ≤ i → state_in b' n' ≡ passed_on b n k j rs
    unfolding with_arguments frame_in
    pass-full h =
        let l = length-up_to (λ r. place (cell_in b n j r)) 16 in
        let q = over-most (map place (held_by b n k rs)) (frame_in b n j).registers i (rw l h) in
        let m = sym (ap (map place) (take-map (cell_in b n k) rs i)) ∙ sym (take-map place (held_by b n k rs) i) in
        G.state ∙ ap (λ ps. with_frame (state_in b n) j (record { function = (frame_in b n j).function; version = (frame_in b n j).version; registers = ps; names = (frame_in b n j).names }))
        (ap (λ xs. over xs (frame_in b n j).registers) m ∙ q)

    module _ (h : i < length rs) (lt : i < 16) (o : k < j) (S : Small rs) where
      same-cell : cell_in b' n' k (rs ! i) ≡ cell_in b n k (rs ! i)
      unfolding with_frame with_stack
      same-cell =
          let l : k < 32 = omega (arith, L.0, o) in
          let fs = ap (λ (s : State). s.frames) G.state in
          cell-by b b' n n' k (rs ! i) (S i h) (frame-by b b' n n' k l (ap (λ gs. get_elem? gs k) fs ∙ get_other (state_in b n).frames j k _ (λ e. omega arith) ∙ frame_is b n k l))

      pub pass_on : (b'' : List ℕ) (n'' : List ℤ) (c'' : List ℕ) (r : Did) {e : ℕ} → e ≡ rs ! i → Does r (assign (state_in b' n') j i (cell_in b' n' k e)) b' n' b'' n'' → Ready b'' n'' c''
          → Passed b n b'' n'' c'' k j rs (i + 1)
      unfolding with_arguments state_in frame_in
      pass_on b'' n'' c'' r {e = e} w D R =
          let f = with_arguments (frame_in b n j) (held_by b n k (take i rs)) in
          let v = cell_in b n k (rs ! i) in
          let a = assigned-is b' b'' n' n'' j i (cell_in b' n' k e) r pass-live lt D in
          let q : length f.registers ≡ 16 = length_over (map place (held_by b n k (take i rs))) (frame_in b n j).registers ∙ length-up_to (λ r. place (cell_in b n j r)) 16 in
          let g : i < length f.registers = omega arith in
          let y = frames-long b n in
          let z : j < length (state_in b n).frames = omega (arith, L.0, y) in
          let u = assign-again (state_in b n) j i f v L.1 z g in
          let x : cell_in b' n' k e ≡ v = ap (cell_in b' n' k) w ∙ same-cell in
          let p : got (state_in b'' n'') ≡ got (with_frame (state_in b n) j (record {
            function = f.function;
            version = f.version;
            registers = set f.registers i
                (place v);
            names = f.names;
          })) = sym a ∙ (λ t. assign (G.state t) j i (x t)) ∙ u in
          let s : state_in b'' n'' ≡ with_frame (state_in b n) j (record { function = f.function; version = f.version; registers = set f.registers i (place v); names = f.names }) = cc in
          record {
            most = omega arith;
            within = omega arith;
            state = s ∙ ap (λ ps. with_frame (state_in b n) j (record { function = f.function; version = f.version; registers = ps; names = f.names })) next;
            ready = R;
          }
        where
          long : length (map place (held_by b n k (take i rs))) ≡ i
          long = length-map place (held_by b n k (take i rs)) ∙ length-map (cell_in b n k) (take i rs) ∙ length-take rs i G.within

          next : set (over (map place (held_by b n k (take i rs))) (frame_in b n j).registers) i (place (cell_in b n k (rs ! i))) ≡ over (map place (held_by b n k (take (i + 1) rs)))
              (frame_in b n j).registers
          next =
              ap (λ m. set (over (map place (held_by b n k (take i rs))) (frame_in b n j).registers) m (place (cell_in b n k (rs ! i)))) (sym long)
              ∙ over-next (map place (held_by b n k (take i rs))) (frame_in b n j).registers (place (cell_in b n k (rs ! i)))
              ∙ ap (λ xs. over xs (frame_in b n j).registers) (sym (map-append place (held_by b n k (take i rs)) (cell_in b n k (rs ! i) ∷ [])) ∙ ap (map place)
              (sym (map-append (cell_in b n k) (take i rs) (rs ! i ∷ [])) ∙ ap (map (cell_in b n k)) (sym (take-suc rs i 0 h) ∙ ap (λ m. take m rs) (sym (add-one i)))))

-- ---- owned arguments

-- the mask is the rest of that of the first i, which are emptied
pub record Emptied (b : List ℕ) (n : List ℤ) (b' c' : List ℕ) (k m : ℕ) (rs : List ℕ) (l i : ℕ) : Type 0 where
  pub state : masked (state_in b n) k m rs ≡ masked (state_in b' n) k l (drop i rs)
  pub ready : Ready b' n c'
  pub live : Live b' k

-- an empty mask tells of none
none-masked : (s : State) (k : ℕ) (rs : List ℕ) → masked s k 0 rs ≡ got s
unfolding masked empty_if ◌>>=◌
none-masked s k [] = refl
none-masked s k (r ∷ rs) = none-masked s k rs

module _ (b : List ℕ) (n : List ℤ) (b' c' : List ℕ) (k m : ℕ) (rs : List ℕ) (l i : ℕ) (G : Emptied b n b' c' k m rs l i) where
  pub empty-done : l ≡ 0 → masked (state_in b n) k m rs ≡ got (state_in b' n)
  empty-done h = G.state ∙ ap (λ l. masked (state_in b' n) k l (drop i rs)) h ∙ none-masked (state_in b' n) k (drop i rs)

  pub empty-short : length rs ≤ i → masked (state_in b n) k m rs ≡ got (state_in b' n)
  unfolding masked
  empty-short h = G.state ∙ ap (masked (state_in b' n) k l) (drop_all rs i h)

  module _ (h : i < length rs) where
    one_more : masked (state_in b n) k m rs ≡ (empty_if (eqb (l % 2) 1) (state_in b' n) k (rs ! i) >>= λ u. masked u k (l / 2) (drop (i + 1) rs))
    unfolding masked
    one_more = G.state ∙ rw (drop-cons rs i 0 h, add-one i) refl

    pub empty-kept : (l % 2 ≡ 1 → ⊥) → Emptied b n b' c' k m rs (l / 2) (i + 1)
    unfolding empty_if ◌>>=◌
    empty-kept e = record { state = one_more ∙ rw (ne_eqb (l % 2) 1 e) refl; ready = G.ready; live = G.live }

    pub empty-one : (b'' c'' : List ℕ) (r : Did) → l % 2 ≡ 1 → Small rs → Does r (assign (state_in b' n) k (rs ! i) Value.Empty) b' n b'' n → Ready b'' n c'' → Live b'' k
        → Emptied b n b'' c'' k m rs (l / 2) (i + 1)
    unfolding empty_if ◌>>=◌
    empty-one b'' c'' r e S D R L = record { state = one_more ∙ rw (eq-eqb (l % 2) 1 e, assigned-is b' b'' n n k (rs ! i) Value.Empty r G.live (S i h) D) refl; ready = R; live = L }

-- ---- the mask

below : (i n : ℕ) → ltb (suc i) (suc n) ≡ ltb i n
below i n = go (ltb i n) refl
  where
    go : (t : Bool) → ltb i n ≡ t → ltb (suc i) (suc n) ≡ t
    go true q = let h = ltb-true i n q in lt-ltb (suc i) (suc n) (omega arith)
    go false q = let h = ltb-false i n q in le-ltb (suc i) (suc n) (omega arith)

unmasked : (s : State) (k m : ℕ) (rs : List ℕ) → ((i : ℕ) → i < length rs → is_bit m i ≡ false) → masked s k m rs ≡ got s
unfolding masked empty_if is_bit ◌>>=◌
unmasked s k m [] M = refl
unmasked s k m (r ∷ rs) M = rw (M 0 (omega arith)) (unmasked s k (m / 2) rs (λ i h. M (suc i) (omega arith)))

-- by the mask or by the types
pub mask-types : (s : State) (k m : ℕ) (ts rs : List ℕ) → Marks m ts rs → emptied s k ts rs ≡ masked s k m rs
unfolding emptied masked is_bit ◌>>=◌
mask-types s k m [] rs M = sym (unmasked s k m rs (λ i h. M i h ∙ rw (le-ltb i 0 (omega arith)) refl))
mask-types s k m (t ∷ ts) [] M = refl
mask-types s k m (t ∷ ts) (r ∷ rs) M = rw first (go (empty_if (is_owned t) s k r) (λ u. mask-types u k (m / 2) ts rs rest))
  where
    first : eqb (m % 2) 1 ≡ is_owned t
    first = M 0 (omega arith) ∙ rw (lt-ltb 0 (length (t ∷ ts)) (omega arith)) refl

    rest : Marks (m / 2) ts rs
    rest i h = M (suc i) (omega arith) ∙ rw (below i (length ts)) refl

    go : (o : Try State) → ((u : State) → emptied u k ts rs ≡ masked u k (m / 2) rs) → (o >>= λ u. emptied u k ts rs) ≡ (o >>= λ u. masked u k (m / 2) rs)
    go (got u) ih = ih u
    go stuck ih = refl
    go (stop e) ih = refl
