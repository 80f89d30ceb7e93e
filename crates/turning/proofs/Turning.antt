-- Steps of a run that stands at a spot.
use mathlib.Core.Path.{◌≡◌, refl, sym, ap, ◌∙◌, subst}
use mathlib.Core.List.{List, [], ◌∷◌}
use mathlib.Core.Option.{some}
use mathlib.Core.Bool.{Bool, true, false, not, false≢true}
use Prim.Native.Nat.{ℕ, zero, suc, ◌+◌, ◌-◌, ◌*◌, ◌≤◌, ◌<◌, min}
use native.Mathlib.Omega.{arith}
use lib.IntN.{ℤ}
use lib.ListN.{length, get_elem?, set, take}
use lib.Seq.{get_or-set_other, set-get_or, set-set}
use Rattle.layout.proofs.Lists.{get-same}
use Rattle.layout.specs.Bounds.{INSTRUCTIONS}
use Rattle.layout.specs.Records.{◌!◌}
use Rattle.program.specs.Program.{Instr, LIT, MOVE, USE, DUP, VEC, LEN, GET, SET, ARITH, SELECT, CAST, NAMED, STORE, PROM, FORCE, PEEK, POKE, CALL, DISPATCH, SKIP, Program, Version}
use Rattle.machine.specs.Calls.{finish, force, opened}
use Rattle.machine.specs.Allowed.{advance_with, execute_with}
use Rattle.machine.specs.Steps.{Position, block_end, execute, execute_to, instruction, outside, position}
use Rattle.machine.proofs.Within.{makes, own-within}
use Rattle.machine.specs.States.{ACTIVATIONS, assign, integer, live_frames, pending, promise, value, with_stack}
use Rattle.machine.specs.Try.{Try, got, stuck, stop, ◌>>=◌, ◌>>◌, at, end_unless}
use Rattle.machine.specs.Values.{RANGE, is_zero}
use Rattle.machine.specs.declared.Cache.{Cache}
use Rattle.machine.specs.declared.Promise.{Promise}
use lib.Dec.{ltb}
use Rattle.machine.specs.declared.Activation.{Activation}
use Rattle.machine.specs.declared.End.{End}
use Rattle.machine.specs.declared.Frame.{Frame}
use Rattle.machine.specs.declared.State.{State}
use Rattle.machine.specs.declared.Value.{Value}
use Rattle.runs.proofs.Keeps.{Gives, Keeps, execute-keeps, gives-got, gives-next, gives_then, gives-weaken}
use Rattle.runs.specs.Lives.{is_call}
use Rattle.store.specs.Acts.{Does, Executes, ExecutesWith, with_next}
use Rattle.store.specs.Answers.{end_of}
use Rattle.store.specs.Counts.{Ready}
use Rattle.store.specs.Store.{CALLS, DEPTH, STACK, activation_in, frame_in, state_in, Live}
use Rattle.store.specs.declared.Did.{Did}
use Rattle.store.proofs.Frames.{frame-live}
use Rattle.store.specs.Lists.{up_to}
use Rattle.store.proofs.Lists.{get_elem?-up_to, length-up_to}
use Rattle.store.proofs.Pushing.{next-set}
use Rattle.loaded.specs.Answers as answers
use Rattle.loaded.specs.Loaded.{block_in, count_in, instr_in, program_in, record_at, version_in}
use Rattle.loaded.proofs.Lookups.{length-lines, next-line, next-end, next-outside, record-within}
use Rattle.turning.specs.Plain.{is_plain}
use Rattle.turning.specs.Standing.{Here, Spotted, aside, length_in, moved, next_byte, next_of, onward, standing, state_at, top_in}
use Rattle.turning.specs.Turning.{Fit, Left, Quick, Stored, Touched, Turns, Went, opened_of, turn_of}
use Rattle.ending.specs.Ends.{ended_by, top_opener}
use Rattle.turning.specs.declared.Spot.{Spot}
use Rattle.turning.specs.declared.Turn.{Turn}
use Rattle.turning.proofs.Locating.{counts-as, top-there}
use Rattle.turning.proofs.Spots.{plain-got, plain-stop, plain-stuck, skip-far, skip-on, skip-over, skip-stuck, spotted-still, step_end, step_line, step-outside, with-got}
use Rattle.turning.proofs.Still.{Still, assign-still, execute-still}

-- plain instructions open no call
plain-no-call : (i : Instr) → is_plain i ≡ true → is_call i ≡ false
unfolding is_plain is_call
plain-no-call (LIT a b) q = refl
plain-no-call (MOVE a b) q = refl
plain-no-call (USE a b) q = refl
plain-no-call (DUP a b) q = refl
plain-no-call (VEC a b) q = refl
plain-no-call (LEN a b) q = refl
plain-no-call (GET a b c) q = refl
plain-no-call (SET a b c) q = refl
plain-no-call (ARITH a b c d) q = refl
plain-no-call (SELECT a b c d) q = refl
plain-no-call (CAST a b) q = refl
plain-no-call (NAMED a b) q = refl
plain-no-call (STORE a b) q = refl
plain-no-call (PROM a b) q = refl
plain-no-call (FORCE a b) q = absurd (false≢true q)
plain-no-call (PEEK a b c) q = refl
plain-no-call (POKE a b c) q = refl
plain-no-call (CALL a b c d) q = absurd (false≢true q)
plain-no-call (DISPATCH a b c d e) q = absurd (false≢true q)
plain-no-call (SKIP a b) q = absurd (false≢true q)

-- ---- it stands there still

got-is : {A : Type 0} {x y : A} → got x ≡ got y → x ≡ y
got-is e = cc

some_is : {A : Type 0} {x y : A} → some x ≡ some y → x ≡ y
some_is e = cc

-- b' and n' stand one instruction further on
pub record Behind (s t b : List ℕ) (n : List ℤ) (b' : List ℕ) (n' : List ℤ) (p : Spot) : Type 0 where
  pub top : top_in b' ≡ top_in b
  pub here : Here s t b' n' (onward p 1)

module _ (s t b : List ℕ) (n : List ℤ) (b' : List ℕ) (n' : List ℤ) (p : Spot) (H : Here s t b n p) (K : Keeps (state_in b n) (state_in b' n')) (T : Still (state_in b n) (state_in b' n'))
    (l : p.next < p.last) where
  depth_same : b' ! DEPTH ≡ b ! DEPTH
  unfolding state_in
  depth_same = T.depth

  calls_same : b' ! CALLS ≡ b ! CALLS
  unfolding state_in
  calls_same = K.count

  deep : 0 < b ! DEPTH
  unfolding state_in
  deep = H.spotted.deep

  top-same : top_in b' ≡ top_in b
  unfolding state_in
  top-same =
      let d = depth_same in
      let z = deep in
      let l = H.low in
      some_is (sym (get_elem?-up_to (activation_in b') 32 (b' ! DEPTH - 1) (omega arith)) ∙ ap (λ x. get_elem? x (b' ! DEPTH - 1)) T.activations ∙ ap
      (λ x. get_elem? (up_to (activation_in b) 0 32) (x - 1)) d ∙ get_elem?-up_to (activation_in b) 32 (b ! DEPTH - 1) (omega arith))

  live-still : Live b' p.frame
  live-still = let c = calls_same in let l = H.live in (l.0, omega (arith, c, l.1))

  found : (g : Frame) × Spotted (program_in s t) (state_in b' n') p.frame (top_in b) g (version_in s t H.own) (block_in s t p.block) × (g.function ≡ (frame_in b n p.frame).function) ×
      (g.version ≡ (frame_in b n p.frame).version)
  found = spotted-still (program_in s t) (state_in b n) (state_in b' n') p.frame (top_in b) (frame_in b n p.frame) (version_in s t H.own) (block_in s t p.block) H.spotted K T

  frame_is : found.0 ≡ frame_in b' n' p.frame
  frame_is = got-is (sym found.1.live ∙ frame-live b' n' p.frame live-still)

  function-same : b' ! (32 * p.frame + 24) ≡ b ! (32 * p.frame + 24)
  unfolding frame_in
  function-same = sym (ap (λ (g : Frame). g.function) frame_is) ∙ found.2

  version-same : b' ! (32 * p.frame + 25) ≡ b ! (32 * p.frame + 25)
  unfolding frame_in
  version-same = sym (ap (λ (g : Frame). g.version) frame_is) ∙ found.3

  spotted-now : Spotted (program_in s t) (state_in b' n') p.frame (top_in b') (frame_in b' n' p.frame) (version_in s t H.own) (block_in s t p.block)
  spotted-now = subst (λ a. Spotted (program_in s t) (state_in b' n') p.frame a (frame_in b' n' p.frame) (version_in s t H.own) (block_in s t p.block)) (sym top-same)
      (subst (λ g. Spotted (program_in s t) (state_in b' n') p.frame (top_in b) g (version_in s t H.own) (block_in s t p.block)) frame_is found.1)

  pub stays : Behind s t b n b' n' p
  unfolding onward
  stays = record {
    top = top-same;
    here = record {
      own = H.own;
      spotted = spotted-now;
      number = rw (function-same, version-same) H.number;
      few = H.few;
      live = live-still;
      low = let d = depth_same in let l = H.low in omega arith;
      first = let f = H.first in omega arith;
      near = let q = H.last in omega (arith, q);
      last = H.last;
      small = H.small;
    };
  }

-- nothing was done
pub untouched : (b : List ℕ) (n : List ℤ) (b' : List ℕ) (n' : List ℤ) → b' ≡ b → n' ≡ n → Touched b n b' n'
untouched b n b' n' e h = record { next = b ! next_byte b; bytes = e ∙ sym (set-get_or b (next_byte b) 0); numbers = h }

module _ (s t b : List ℕ) (n : List ℤ) (p : Spot) (H : Here s t b n p) where
  counted : length (block_in s t p.block).code ≡ count_in t p.block
  unfolding block_in
  counted = length-lines s t (p.block + 1) (count_in t p.block)

  record_is : p.block + 1 + next_of p ≡ p.next
  record_is = let f = H.first in omega arith

  -- it stands at an instruction
  module _ (l : p.next < p.last) where
    inside : (next_of p < 48) × (next_of p < count_in t p.block)
    inside = let f = H.first in let e = H.last in (omega (arith, e), omega (arith, e))

    pub room : record_at p.next + 8 ≤ length t
    room = subst (λ i. record_at i + 8 ≤ length t) record_is (record-within t p.block (next_of p) inside.1)

    at-line : position (take INSTRUCTIONS (block_in s t p.block).code) (next_of p) ≡ instruction (instr_in s t p.next)
    unfolding answers.next_of
    at-line = let z = inside in sym (next-line s t p.block (next_of p) refl z.0 (omega (arith, z, counted))) ∙ ap (λ i. instruction (instr_in s t i)) record_is

    onward-next : next_of p + 1 ≡ next_of (onward p 1)
    unfolding onward
    onward-next = let f = H.first in omega arith

    abbrev own : ℕ
    own = H.own

    -- what it comes to
    pub here-line : advance_with p.most (program_in s t) (state_at b n p) ≡ execute_with p.most (program_in s t) (state_at b n (onward p 1)) p.frame (frame_in b n p.frame)
        (version_in s t own) (instr_in s t p.next)
    here-line = step_line p.most (program_in s t) (state_in b n) p.frame (top_in b) (frame_in b n p.frame) (version_in s t own) (block_in s t p.block) H.spotted (next_of p)
        (instr_in s t p.next) at-line
        ∙ ap (λ x. execute_with p.most (program_in s t) (standing (state_in b n) (top_in b) x) p.frame (frame_in b n p.frame) (version_in s t own) (instr_in s t p.next)) onward-next

    -- a plain one
    module _ (i : Instr) (is : instr_in s t p.next ≡ i) (plain : is_plain i ≡ true) where
      step : {u : Try State} → execute_with p.most (program_in s t) (state_at b n (onward p 1)) p.frame (frame_in b n p.frame) (version_in s t own) i ≡ u → advance_with p.most
          (program_in s t) (state_at b n p) ≡ u
      step e = here-line ∙ ap (execute_with p.most (program_in s t) (state_at b n (onward p 1)) p.frame (frame_in b n p.frame) (version_in s t own)) is ∙ e

      module _ (b' : List ℕ) (n' : List ℤ) (e : execute_with p.most (program_in s t) (state_in b n) p.frame (frame_in b n p.frame) (version_in s t own) i ≡ got (state_in b' n')) where
        executed : execute (program_in s t) (state_in b n) p.frame (frame_in b n p.frame) (version_in s t own) i ≡ got (state_in b' n')
        executed = with-got p.most (program_in s t) (state_in b n) p.frame (frame_in b n p.frame) (version_in s t own) i (state_in b' n') e

        kept : Keeps (state_in b n) (state_in b' n')
        kept = gives-got (Keeps (state_in b n)) _ _ (execute-keeps (program_in s t) (state_in b n) p.frame (frame_in b n p.frame) (version_in s t own) i (plain-no-call i plain)) executed

        still : Still (state_in b n) (state_in b' n')
        still = gives-got (Still (state_in b n)) _ _ (execute-still RANGE (program_in s t) (state_in b n) p.frame (frame_in b n p.frame) (version_in s t own) i plain) executed

        behind : Behind s t b n b' n' p
        behind = stays s t b n b' n' p H kept still l

        pub plain-on : {c' : List ℕ} → Ready b' n' c' → Went Turn.On s t b n b' n' c' p
        unfolding Went
        plain-on R = (
          step (plain-got p.most (program_in s t) (state_in b n) p.frame (top_in b) (frame_in b n p.frame) (version_in s t own) (block_in s t p.block) H.spotted
              (next_of (onward p 1)) i plain (state_in b' n') e
              ∙ ap (λ a. got (standing (state_in b' n') a (next_of (onward p 1)))) (sym behind.top)),
          behind.here,
          R,
          λ q. kept.status ∙ q,
        )

      pub plain-went : (b' : List ℕ) (n' : List ℤ) (c' : List ℕ) (r : Did) → Does r
          (execute_with p.most (program_in s t) (state_in b n) p.frame (frame_in b n p.frame) (version_in s t own) i) b n b' n' → Ready b' n' c' → Went (turn_of r) s t b n b' n' c' p
      unfolding Does turn_of Went
      plain-went b' n' c' Did.On D R = plain-on b' n' D R
      plain-went b' n' c' Did.Stuck D R = (
        step (plain-stuck p.most (program_in s t) (state_in b n) p.frame (top_in b) (frame_in b n p.frame) (version_in s t own)
            (block_in s t p.block) H.spotted (next_of (onward p 1)) i plain D.0),
        untouched b n b' n' D.1 D.2,
      )
      plain-went b' n' c' (Did.Stop h) D R = (
        step (plain-stop p.most (program_in s t) (state_in b n) p.frame (top_in b) (frame_in b n p.frame) (version_in s t own)
            (block_in s t p.block) H.spotted (next_of (onward p 1)) i plain (end_of h) D.0),
        untouched b n b' n' D.1 D.2,
      )

-- ---- the number of the next instruction in the state

-- the state with it is the one that stands there
module _ (b : List ℕ) (n : List ℤ) (c : List ℕ) (R : Ready b n c) (deep : 0 < b ! DEPTH) (low : b ! DEPTH ≤ 32) (y : ℕ) where
  abbrev bytes : List ℕ
  bytes = set b (next_byte b) y

  few : b ! DEPTH - 1 < 32
  few = omega arith

  pub synced : state_in bytes n ≡ standing (state_in b n) (top_in b) y
  unfolding standing aside moved with_next state_in
  synced = (next-set b n c (b ! DEPTH - 1) y few R).0

  pub synced-ready : Ready bytes n c
  synced-ready = (next-set b n c (b ! DEPTH - 1) y few R).1

  long : next_byte b < length b
  long = let l = R.bytes in omega (arith, few, l)

  pub depth-set : bytes ! DEPTH ≡ b ! DEPTH
  depth-set = get_or-set_other b (next_byte b) DEPTH y 0 (λ z. omega (arith, few, z))

  pub calls-set : bytes ! CALLS ≡ b ! CALLS
  calls-set = get_or-set_other b (next_byte b) CALLS y 0 (λ z. omega (arith, few, z))

  -- the frames are as they were
  pub frame-set : (k : ℕ) → Live b k → frame_in bytes n k ≡ frame_in b n k
  unfolding standing aside with_stack live_frames
  frame-set k L =
      let z = calls-set in
      let M : Live bytes k = (L.0, omega (arith, z, L.1)) in
      got-is (sym (frame-live bytes n k M) ∙ ap (λ (u : State). at (live_frames u) k) synced ∙ frame-live b n k L)

  pub top_set : top_in bytes ≡ moved (top_in b) y
  unfolding standing aside with_stack state_in
  top_set =
      let d = depth-set in
      let l : b ! DEPTH - 1 < length (up_to (activation_in b) 0 32) = rw (length-up_to (activation_in b) 32) few in
      some_is (sym (get_elem?-up_to (activation_in bytes) 32 (bytes ! DEPTH - 1) (omega (arith, d, few)))
      ∙ ap (λ (u : State). get_elem? u.activations (bytes ! DEPTH - 1)) synced
      ∙ ap (λ x. get_elem? (set (up_to (activation_in b) 0 32) (b ! DEPTH - 1) (moved (top_in b) y)) (x - 1)) d
      ∙ get-same (up_to (activation_in b) 0 32) (b ! DEPTH - 1) (moved (top_in b) y) l)

set_same : {A : Type 0} (l : List A) (i : ℕ) (x : A) → get_elem? l i ≡ some x → set l i x ≡ l
set_same [] i x h = refl
set_same (y ∷ l) zero x h = let q : y ≡ x = cc in ap (λ z. z ∷ l) (sym q)
set_same (y ∷ l) (suc i) x h = ap (λ z. y ∷ z) (set_same l i x h)

-- an activation on top that says where it stands
pub standing-same : (u : State) (a : Activation) → get_elem? u.activations (u.depth - 1) ≡ some a → standing u a a.next ≡ u
unfolding standing aside with_stack moved
standing-same u a e = ap (λ l. with_stack u u.frames u.calls l u.depth) (set_same u.activations (u.depth - 1) a e)

module _ (s t b : List ℕ) (n : List ℤ) (p : Spot) (H : Here s t b n p) (c : List ℕ) (R : Ready b n c) where
  pub depth-there : 0 < b ! DEPTH
  unfolding state_in
  depth-there = H.spotted.deep

  module _ (y : ℕ) where
    abbrev with : List ℕ
    with = set b (next_byte b) y

    abbrev k : ℕ
    k = p.frame

    live-with : Live with k
    live-with = let z = calls-set b n c R depth-there H.low y in let L = H.live in (L.0, omega (arith, z, L.1))

    pub deep-with : 0 < with ! DEPTH
    deep-with = let z = depth-set b n c R depth-there H.low y in let d = depth-there in omega arith

    pub low-with : with ! DEPTH ≤ 32
    low-with = let z = depth-set b n c R depth-there H.low y in let d = H.low in omega arith

    frame-with : frame_in with n k ≡ frame_in b n k
    frame-with = frame-set b n c R depth-there H.low y k H.live

    top-with : top_in with ≡ moved (top_in b) y
    top-with = top_set b n c R depth-there H.low y

    pub function-with : with ! (32 * k + 24) ≡ b ! (32 * k + 24)
    unfolding frame_in
    function-with = ap (λ (f : Frame). f.function) frame-with

    pub version-with : with ! (32 * k + 25) ≡ b ! (32 * k + 25)
    unfolding frame_in
    version-with = ap (λ (f : Frame). f.version) frame-with

    -- it stands at the spot all the same
    pub here-with : Here s t with n p
    unfolding state_in moved
    here-with = record {
      own = H.own;
      spotted = record {
        top = top-there s t with n deep-with low-with;
        deep = deep-with;
        frame = ap (λ (a : Activation). a.frame) top-with ∙ H.spotted.frame;
        live = frame-live with n k live-with;
        version = rw frame-with H.spotted.version;
        block = ap (λ (a : Activation). get_elem? (version_in s t H.own).blocks a.block) top-with ∙ H.spotted.block;
      };
      number = rw (function-with, version-with) H.number;
      few = H.few;
      live = live-with;
      low = low-with;
      first = H.first;
      near = H.near;
      last = H.last;
      small = H.small;
    }

    opener-with : top_opener with ≡ (top_in b).opener
    unfolding moved
    opener-with = ap (λ (a : Activation). a.opener) top-with

    -- the state with it
    pub state-with : state_in with n ≡ standing (state_in b n) (top_in b) y
    state-with = synced b n c R depth-there H.low y

    status-with : (state_in with n).status ≡ (state_in b n).status
    unfolding standing aside with_stack
    status-with = ap (λ (u : State). u.status) state-with

  -- ---- an instruction that looks at where it stands

  module _ (l : p.next < p.last) where
    abbrev past : List ℕ
    past = set b (next_byte b) (next_of (onward p 1))

    pub past-line : makes (instr_in s t p.next) ≡ false → advance_with p.most (program_in s t) (state_at b n p) ≡ execute (program_in s t) (state_in past n) p.frame
        (frame_in past n p.frame) (version_in s t H.own) (instr_in s t p.next)
    past-line o = here-line s t b n p H l ∙ own-within p.most (program_in s t) (state_at b n (onward p 1)) p.frame (frame_in b n p.frame) (version_in s t H.own)
        (instr_in s t p.next) o
        ∙ rw (state-with (next_of (onward p 1)), frame-with (next_of (onward p 1))) refl

    module _ (i : Instr) (is : instr_in s t p.next ≡ i) (own : makes i ≡ false) (b' : List ℕ) (n' : List ℤ) (c' : List ℕ) where
      abbrev done : Try State
      done = execute (program_in s t) (state_in past n) p.frame (frame_in past n p.frame) (version_in s t H.own) i

      come : {u : Try State} → done ≡ u → advance_with p.most (program_in s t) (state_at b n p) ≡ u
      come e = past-line (ap makes is ∙ own) ∙ ap (execute (program_in s t) (state_in past n) p.frame (frame_in past n p.frame) (version_in s t H.own)) is ∙ e

      pub opened-went : (r : Did) → Does r done past n b' n' → Ready b' n' c' → Gives (λ (w : State). w.status ≡ (state_in past n).status) done → Went (opened_of r) s t b n b' n' c' p
      unfolding Does opened_of Went
      opened-went Did.On D Q G = (come D, Q, λ q. gives-got _ done (state_in b' n') G D ∙ status-with (next_of (onward p 1)) ∙ q)
      opened-went Did.Stuck D Q G = (come D.0, record { next = next_of (onward p 1); bytes = D.1; numbers = D.2 })
      opened-went (Did.Stop h) D Q G = (come D.0, record { next = next_of (onward p 1); bytes = D.1; numbers = D.2 })

  -- ---- the end of the block

  module _ (e : p.next ≡ p.last) where
    abbrev there : List ℕ
    there = set b (next_byte b) (next_of p)

    at-end : position (take INSTRUCTIONS (block_in s t p.block).code) (next_of p) ≡ block_end
    unfolding answers.next_of
    at-end =
        let f = H.first in
        let q = H.last in
        sym (next-end s t p.block (next_of p) refl (omega (arith, q)) (omega (arith, q, counted s t b n p H)) (λ a z. omega (arith, q, counted s t b n p H)))

    pub here_end : advance_with p.most (program_in s t) (state_at b n p) ≡ ended_by (program_in s t) (version_in s t H.own) there n p.frame (block_in s t p.block).result
        (top_opener there)
    unfolding moved
    here_end = step_end p.most (program_in s t) (state_in b n) p.frame (top_in b) (frame_in b n p.frame) (version_in s t H.own) (block_in s t p.block) H.spotted (next_of p) at-end
        ∙ rw (state-with (next_of p), frame-with (next_of p), opener-with (next_of p), top-with (next_of p)) refl

  -- neither
  pub here-outside : p.last < p.next → advance_with p.most (program_in s t) (state_at b n p) ≡ stuck
  unfolding answers.next_of
  here-outside l =
      let f = H.first in
      let q = H.last in
      step-outside p.most (program_in s t) (state_in b n) p.frame (top_in b) (frame_in b n p.frame) (version_in s t H.own) (block_in s t p.block) H.spotted (next_of p)
      (sym (next-outside s t p.block (next_of p) refl (λ a z. omega (arith, q, counted s t b n p H))))

-- ---- FORCE

-- a force that opens nothing leaves the activations as they were
force-still : (s : State) (k d p : ℕ) (q : Promise) (x : Cache) → Gives (λ (w : State). w.depth ≡ s.depth → Still s w) (force s k d p q x)
unfolding force opened with_stack Gives
force-still s k d p q (Cache.Forced z) = gives-weaken (Still s) _ (assign s k d (Value.Integer z)) (assign-still s k d (Value.Integer z)) (λ w h _. h)
force-still s k d p q Cache.Unforced = gives-next _ (end_unless End.Undef (not (pending s p))) _
    (λ _ _. gives-next _ (end_unless End.Deep (ltb s.depth ACTIVATIONS)) _ (λ _ _ e. absurd (omega (arith, e))))

pub forced-still : (P : Program) (s : State) (k : ℕ) (f : Frame) (W : Version) (d a : ℕ) → Gives (λ (w : State). w.depth ≡ s.depth → Still s w) (execute P s k f W (FORCE d a))
unfolding execute_to
forced-still P s k f W d a = gives_then _ (promise f a) _ (λ p _. gives_then _ (at s.promises p) _ (λ q _. force-still s k d p q q.cache))

module _ (s t b : List ℕ) (n : List ℤ) (p : Spot) (H : Here s t b n p) (c : List ℕ) (R : Ready b n c) (l : p.next < p.last) (d a : ℕ) (is : instr_in s t p.next ≡ FORCE d a)
    (b' : List ℕ) (n' : List ℤ) (c' : List ℕ) where
  abbrev behind-it : List ℕ
  behind-it = set b (next_byte b) (next_of (onward p 1))

  abbrev forced : Try State
  forced = execute (program_in s t) (state_in behind-it n) p.frame (frame_in behind-it n p.frame) (version_in s t H.own) (FORCE d a)

  force-keeps : Gives (Keeps (state_in behind-it n)) forced
  unfolding is_call
  force-keeps = execute-keeps (program_in s t) (state_in behind-it n) p.frame (frame_in behind-it n p.frame) (version_in s t H.own) (FORCE d a) refl

  pub force-opened : (r : Did) → Does r forced behind-it n b' n' → Ready b' n' c' → Went (opened_of r) s t b n b' n' c' p
  unfolding makes
  force-opened r D Q = opened-went s t b n p H c R l (FORCE d a) is refl b' n' c' r D Q (gives-weaken (Keeps (state_in behind-it n)) _ forced force-keeps (λ w h. h.status))

  module _ (D : forced ≡ got (state_in b' n')) (same : b' ! DEPTH ≡ b ! DEPTH) (Q : Ready b' n' c') where
    keeps-it : Keeps (state_in behind-it n) (state_in b' n')
    keeps-it = gives-got _ forced (state_in b' n') force-keeps D

    still-it : Still (state_in behind-it n) (state_in b' n')
    unfolding state_in
    still-it = gives-got _ forced (state_in b' n') (forced-still (program_in s t) (state_in behind-it n) p.frame (frame_in behind-it n p.frame) (version_in s t H.own) d a) D
        (same ∙ sym (depth-set b n c R (depth-there s t b n p H c R) H.low (next_of (onward p 1))))

    after-it : Behind s t behind-it n b' n' p
    after-it = stays s t behind-it n b' n' p (here-with s t b n p H c R (next_of (onward p 1))) keeps-it still-it l

    next-is : (top_in b').next ≡ next_of (onward p 1)
    unfolding moved
    next-is = ap (λ (x : Activation). x.next) (after-it.top ∙ top-with s t b n p H c R (next_of (onward p 1)))

    pub force-on : Went Turn.On s t b n b' n' c' p
    unfolding Went opened_of Does
    force-on = (
      (force-opened Did.On D Q).0 ∙ ap got (sym (ap (standing (state_in b' n') (top_in b')) (sym next-is) ∙ standing-same (state_in b' n') (top_in b') after-it.here.spotted.top)),
      after-it.here,
      Q,
      (force-opened Did.On D Q).2,
    )

-- ---- SKIP

module _ (s t b : List ℕ) (n : List ℤ) (p : Spot) (H : Here s t b n p) (l : p.next < p.last) (x m : ℕ) (is : instr_in s t p.next ≡ SKIP x m) where
  abbrev k₀ : ℕ
  k₀ = p.frame

  skip_step : {u : Try State} → execute (program_in s t) (standing (state_in b n) (top_in b) (next_of (onward p 1))) k₀ (frame_in b n k₀) (version_in s t H.own) (SKIP x m) ≡ u → advance_with
      p.most (program_in s t) (state_at b n p) ≡ u
  unfolding makes
  skip_step e = here-line s t b n p H l ∙ ap (execute_with p.most (program_in s t) (state_at b n (onward p 1)) k₀ (frame_in b n k₀) (version_in s t H.own)) is
      ∙ own-within p.most (program_in s t) (state_at b n (onward p 1)) k₀ (frame_in b n k₀) (version_in s t H.own) (SKIP x m) refl ∙ e

  further : (j : ℕ) → p.next + j ≤ p.block + 256 → Here s t b n (onward p j)
  unfolding onward
  further j g = record {
    own = H.own;
    spotted = H.spotted;
    number = H.number;
    few = H.few;
    live = H.live;
    low = H.low;
    first = let f = H.first in omega arith;
    near = g;
    last = H.last;
    small = H.small;
  }

  pub skip-went-stuck : (c : List ℕ) → integer (frame_in b n k₀) x ≡ stuck → Went Turn.Stuck s t b n b n c p
  unfolding Went
  skip-went-stuck c e = (
    skip_step (skip-stuck RANGE (program_in s t) (state_in b n) k₀ (top_in b) (frame_in b n k₀) (version_in s t H.own) (block_in s t p.block) H.spotted
        (next_of (onward p 1)) x m e),
    untouched b n b n refl refl,
  )

  module _ (z : ℤ) (e : integer (frame_in b n k₀) x ≡ got z) where
    pub skip-went-on : {c : List ℕ} → is_zero z ≡ false → Ready b n c → Went Turn.On s t b n b n c p
    unfolding Went
    skip-went-on h Q = (
      skip_step (skip-on RANGE (program_in s t) (state_in b n) k₀ (top_in b) (frame_in b n k₀) (version_in s t H.own) (block_in s t p.block) H.spotted
          (next_of (onward p 1)) x m z e h),
      further 1 (let q = H.last in omega (arith, q)),
      Q,
      λ g. g,
    )

    past_by : next_of (onward p 1) + m ≡ next_of (onward p (1 + m))
    unfolding onward
    past_by = let f = H.first in omega arith

    pub skip-went-over : {c : List ℕ} → is_zero z ≡ true → p.next - p.block + m ≤ 48 → Ready b n c → Went (Turn.Over m) s t b n b n c p
    unfolding Went onward
    skip-went-over h q Q = (
      skip_step (skip-over RANGE (program_in s t) (state_in b n) k₀ (top_in b) (frame_in b n k₀) (version_in s t H.own) (block_in s t p.block) H.spotted
          (next_of (onward p 1)) x m z e h near) ∙ ap (λ j. got (standing (state_in b n) (top_in b) j)) past_by,
      refl,
      refl,
      Q,
      further (1 + m) (let f = H.first in omega (arith, q, f)),
      omega
          (arith, q),
    )
      where
        near : next_of (onward p 1) + m ≤ INSTRUCTIONS
        near = let f = H.first in let g = past_by in omega (arith, q, f)

    pub skip-went-far : (c : List ℕ) → is_zero z ≡ true → 48 < p.next - p.block + m → Went Turn.Stuck s t b n b n c p
    unfolding Went onward
    skip-went-far c h q = (
      skip_step (skip-far RANGE (program_in s t) (state_in b n) k₀ (top_in b) (frame_in b n k₀) (version_in s t H.own) (block_in s t p.block) H.spotted
          (next_of (onward p 1)) x m z e h far),
      untouched b n b n refl refl,
    )
      where
        far : INSTRUCTIONS < next_of (onward p 1) + m
        far = let f = H.first in omega (arith, q, f)

-- ---- as the code has it in hand

-- the activation on top is behind the instruction
pub stored-ready : (t b : List ℕ) (n : List ℤ) (c : List ℕ) (p : Spot) (b₁ : List ℕ) → Fit t b p → Ready b n c → Stored b b₁ p 1 → Ready b₁ n c × Live b₁ p.frame
stored-ready t b n c p b₁ F R e =
    let z = calls-set b n c R F.deep F.low (next_of (onward p 1)) in
    let y = ap (λ l. l ! CALLS) e in
    let L = F.live in
    (rw e (synced-ready b n c R F.deep F.low (next_of (onward p 1))), (L.0, omega (arith, y, z, L.1)))

module _ (t b : List ℕ) (n : List ℤ) (c : List ℕ) (p : Spot) (R : Ready b n c) (d a : ℕ) (b₁ : List ℕ) (e : Stored b b₁ p 1) (b' : List ℕ) (n' : List ℤ) (c' : List ℕ) (r : Did)
    (E : Executes r b₁ n b' n' c' p.frame (FORCE d a)) where
  told : Executes r (set b (next_byte b) (next_of (onward p 1))) n b' n' c' p.frame (FORCE d a)
  told = subst (λ x. Executes r x n b' n' c' p.frame (FORCE d a)) e E

  pub forces : Turns (opened_of r) t b n b' n' c' p (FORCE d a)
  forces s H l is = force-opened s t b n p H c R l d a is b' n' c' r (told.0 (program_in s t) (version_in s t H.own)) told.1

  pub forces-on : r ≡ Did.On → b' ! DEPTH ≡ b ! DEPTH → Turns Turn.On t b n b' n' c' p (FORCE d a)
  unfolding Does
  forces-on q same s H l is = force-on s t b n p H c R l d a is b' n' c'
      (subst (λ x. Does x (execute (program_in s t) (state_in (set b (next_byte b) (next_of (onward p 1))) n) p.frame (frame_in (set b (next_byte b) (next_of (onward p 1))) n p.frame)
      (version_in s t H.own) (FORCE d a)) (set b (next_byte b) (next_of (onward p 1))) n b' n') q (told.0 (program_in s t) (version_in s t H.own))) same told.1

-- a turn that is the same
pub turns-by : {x y : Turn} (t b : List ℕ) (n : List ℤ) (b' : List ℕ) (n' : List ℤ) (c' : List ℕ) (p : Spot) (i : Instr) → Turns x t b n b' n' c' p i → x ≡ y → Turns y t b n b' n' c' p i
turns-by t b n b' n' c' p i T e s H l is = subst (λ r. Went r s t b n b' n' c' p) e (T s H l is)

-- an instruction that makes no vector does not look at how many there may be
pub own-executes : (most : ℕ) (r : Did) (b : List ℕ) (n : List ℤ) (b' : List ℕ) (n' : List ℤ) (c' : List ℕ) (k : ℕ) (i : Instr) → makes i ≡ false → Executes r b n b' n' c' k i
    → ExecutesWith most r b n b' n' c' k i
own-executes most r b n b' n' c' k i o E = (λ P W. subst (λ u. Does r u b n b' n') (sym (own-within most P (state_in b n) k (frame_in b n k) W i o)) (E.0 P W), E.1)

-- a plain instruction, of whatever image
pub plain-turns : (t b : List ℕ) (n : List ℤ) (b' : List ℕ) (n' : List ℤ) (c' : List ℕ) (p : Spot) (i : Instr) (r : Did) → is_plain i ≡ true → ExecutesWith p.most r b n b' n' c'
    p.frame i → Turns (turn_of r) t b n b' n' c' p i
plain-turns t b n b' n' c' p i r q E s H l is = plain-went s t b n p H l i is q b' n' c' r (E.0 (program_in s t) (version_in s t H.own)) E.1

pub stored-by : (b : List ℕ) (x : ℕ) {d : ℕ} → d ≡ b ! DEPTH → set b (STACK + 8 * (d - 1) + 5) x ≡ set b (next_byte b) x
stored-by b x e = ap (λ z. set b (STACK + 8 * (z - 1) + 5) x) e

-- at the spot, by the kind of its record
pub quick-by : (t b : List ℕ) (n : List ℤ) (b' : List ℕ) (n' : List ℤ) (c' : List ℕ) (p : Spot) (i : Instr) (r : Turn) → p.next < p.last → Turns r t b n b' n' c' p i →
    ((s : List ℕ) → instr_in s t p.next ≡ i) → Quick r t b n b' n' c' p
quick-by t b n b' n' c' p i r l T is s H = T s (H l) l (is s)

-- the same of a plain one
pub quick-plain : (t b : List ℕ) (n : List ℤ) (b' : List ℕ) (n' : List ℤ) (c' : List ℕ) (p : Spot) (i : Instr) (r : Did) {x : Turn} → p.next < p.last → x ≡ turn_of r → ExecutesWith
    p.most r b n b' n' c' p.frame i → is_plain i ≡ true → ((s : List ℕ) → instr_in s t p.next ≡ i) → Quick x t b n b' n' c' p
quick-plain t b n b' n' c' p i r l e E q is s H = subst (λ y. Went y s t b n b' n' c' p) (sym e) (plain-turns t b n b' n' c' p i r q E s (H l) l (is s))

-- and of one that makes no vector
pub quick-own : (t b : List ℕ) (n : List ℤ) (b' : List ℕ) (n' : List ℤ) (c' : List ℕ) (p : Spot) (i : Instr) (r : Did) {x : Turn} → p.next < p.last → x ≡ turn_of r
    → Executes r b n b' n' c' p.frame i → is_plain i ≡ true → makes i ≡ false → ((s : List ℕ) → instr_in s t p.next ≡ i) → Quick x t b n b' n' c' p
quick-own t b n b' n' c' p i r l e E q o is = quick-plain t b n b' n' c' p i r l e (own-executes p.most r b n b' n' c' p.frame i o E) q is

-- nothing is next that needs its record alone
pub quick-rest : (t b : List ℕ) (n : List ℤ) (c : List ℕ) (p : Spot) → Ready b n c → (p.next < p.last → Left t p.next) → Quick Turn.Rest t b n b n c p
unfolding Went
quick-rest t b n c p R L s H = (refl, refl, R, L)

pub stored-now : (b b₁ : List ℕ) (p : Spot) → Stored b b₁ p 0 → b₁ ≡ set b (next_byte b) (next_of p)
unfolding onward
stored-now b b₁ p e = e ∙ ap (set b (next_byte b)) (let z : p.next + 0 - (p.block + 1) ≡ next_of p = omega arith in z)
