-- Instructions that look at the image, as turns.
use Rattle.std.specs.Prelude.{Option as Optional, Ok, Err, Result}
use mathlib.Core.Path.{◌≡◌, refl, sym, ap, ◌∙◌, subst}
use mathlib.Core.List.{List}
use mathlib.Core.Bool.{Bool, true, false, cond, false≢true}
use mathlib.Core.Logic.{◌⊎◌, inl, inr}
use Rattle.ending.specs.Ends as ends
use Rattle.ending.specs.Ends.{BlockEnds, Working, returns_in}
use Rattle.ending.specs.declared.Ended.{Ended}
use Rattle.store.specs.Store.{ENDING, STATUS, ◌#◌, status_of}
use Rattle.matching.specs.Kinds.{Returned}
use Rattle.loaded.specs.Loaded.{block_in}
use Rattle.machine.specs.Runs.{last_step}
use Rattle.machine.specs.States.{with_stack}
use Rattle.machine.specs.declared.Status.{Status}
use Rattle.program.specs.Program.{Program}
use Rattle.runs.specs.Lives.{is_done}
use Rattle.runs.proofs.Keeps.{gives-got}
use Rattle.runs.proofs.Caps.{own-or-vectors}
use Rattle.runs.proofs.Lives.{GoesOn, advance-gives}
use Rattle.store.proofs.Statuses.{ended_by}
use Rattle.turning.specs.Standing.{aside, standing, state_at}
use Rattle.turning.specs.Turning.{Kept, Left, Quick, Turned}
use Rattle.layout.specs.Kinds as kind
use Rattle.layout.specs.declared.Form.{Form}
use Rattle.program.specs.Program.{number_in}
use Rattle.loaded.proofs.Reading.{long-call, long-dispatch, long-lit, long-vec}
use lib.ListN.{drop}
use Rattle.turning.proofs.Turning.{deep-with, depth-there, here_end, here-outside, here-with, low-with, room, synced-ready, untouched}
use lib.Dec.{eqb}
use borrow.Author.Tests.{eq-eqb, ne_eqb}
use Prim.Native.Nat.{ℕ, ◌+◌, ◌-◌, ◌*◌, ◌/◌, ◌%◌, ◌≤◌, ◌<◌}
use native.Mathlib.Omega.{arith}
use native.Mathlib.Decide.{dec_lt}
use lib.IntN.{ℤ}
use lib.ListN.{length, take}
use Rattle.program.specs.Program.{Instr, LIT, PROM, VEC}
use Rattle.layout.specs.Records.{every, fields}
use Rattle.store.specs.Store.{frame_in, state_in}
use Rattle.matching.specs.Kinds.{TypedBy}
use Rattle.store.specs.Acts.{Executes, ExecutesWith}
use Rattle.store.specs.Counts.{Ready}
use Rattle.store.specs.declared.Did.{Did}
use Rattle.acts.specs.Typed.{ExecutesIf, ExecutesTyped, typed_in, typed_of}
use Rattle.loaded.specs.Loaded.{few, program_in, version_in}
use Rattle.turning.specs.Turning.{Looks, own_in}
use Rattle.layout.specs.Records.{◌!◌}
use Rattle.program.specs.Program.{Version}
use Rattle.machine.specs.Calls.{enter}
use Rattle.machine.specs.Allowed.{advance_with, execute_with}
use Rattle.machine.specs.Steps.{advance, execute}
use Rattle.machine.proofs.Within.{makes, own-within}
use Rattle.machine.specs.States.{value}
use Rattle.machine.specs.Try.{Try, got, stuck, stop, each, ◌>>=◌}
use Rattle.machine.specs.declared.End.{End}
use Rattle.machine.specs.declared.Frame.{Frame}
use Rattle.machine.specs.declared.State.{State}
use Rattle.runs.proofs.Keeps.{Gives, gives_then, gives-weaken}
use Rattle.runs.proofs.Lives.{EntersOn, enter-enters}
use Rattle.store.specs.Acts.{Does}
use Rattle.store.specs.Answers.{end_of}
use Rattle.store.specs.declared.Halt.{Halt}
use Rattle.listing.specs.Entering.{AllFull, Enters, entered}
use Rattle.loaded.specs.Loaded.{instr_in, place_in, record_at}
use Rattle.matching.specs.Choosing.{choice, Calling, Chooses, Comes, Entering, count_at, executed_at, registers_at}
use Rattle.integers.specs.declared.Fault.{Fault}
use Rattle.matching.specs.declared.Choice.{Choice}
use Rattle.matching.specs.declared.Site.{Site}
use Rattle.turning.specs.Plain.{is_plain}
use Rattle.turning.specs.Standing.{Here, next_byte, next_of, onward}
use Rattle.turning.specs.Turning.{Answers, Chosen, Opens, Stands, Stored, Went, opened_of, turn_of}
use Rattle.turning.specs.declared.Spot.{Spot}
use Rattle.turning.specs.declared.Turn.{Turn}
use Rattle.turning.proofs.Turning.{function-with, opened-went, own-executes, past-line, plain-went, version-with}
use lib.ListN.{set}

-- PROM, told how many blocks there are
pub delays-look : (s t b : List ℕ) (n : List ℤ) (b' : List ℕ) (n' : List ℤ) (c' : List ℕ) (k : ℕ) (r : Did) (d l : ℕ) {m v : ℕ} → m ≡ length (version_in s t v).blocks → v ≡ own_in b k
    → ExecutesIf (λ P W. length W.blocks ≡ m) r b n b' n' c' k (PROM d l) → Looks r s t b n b' n' c' k (PROM d l)
delays-look s t b n b' n' c' k r d l e h E = (E.0 (program_in s t) (version_in s t (own_in b k)) (sym (e ∙ ap (λ x. length (version_in s t x).blocks) h)), E.1)

-- LIT with the same operands
pub lit-as : (b : List ℕ) (n : List ℤ) (b' : List ℕ) (n' : List ℤ) (c' : List ℕ) (k : ℕ) (r : Did) {d e : ℕ} {i j : ℤ} → d ≡ e → i ≡ j → Executes r b n b' n' c' k (LIT d i)
    → Executes r b n b' n' c' k (LIT e j)
lit-as b n b' n' c' k r p q E = rw (sym p, sym q) E

-- MOVE and CAST, told whether the types fit
pub typed_look : (s t b : List ℕ) (n : List ℤ) (b' : List ℕ) (n' : List ℤ) (c' : List ℕ) (k : ℕ) (r : Did) (x : Optional Bool) (d a : ℕ) (i : Instr) {v : ℕ} → v ≡ own_in b k → TypedBy x s t b k v d a
    → ExecutesTyped x r b n b' n' c' k d a i → Looks r s t b n b' n' c' k i
typed_look s t b n b' n' c' k r x d a i h T E = (
  E.0 (program_in s t) (version_in s t (own_in b k))
      (subst (λ v. typed_in (program_in s t) (version_in s t v) (state_in b n) (frame_in b n k) d a ≡ typed_of x) h (T n)),
  E.1,
)

-- VEC with the registers that stand in the image
pub vec-as : (most : ℕ) (s b : List ℕ) (n : List ℤ) (b' : List ℕ) (n' : List ℤ) (c' : List ℕ) (k : ℕ) (r : Did) (at m : ℕ) {d e : ℕ} {rs : List ℕ} → d ≡ e → rs ≡ fields s at m
    → ExecutesWith most r b n b' n' c' k (VEC d rs) → ExecutesWith most r b n b' n' c' k (VEC e (fields s at m))
vec-as most s b n b' n' c' k r at m p q E = rw (sym p, sym q) E

-- the part of a room that was listed
pub sliced : (s rs : List ℕ) (at n : ℕ) {x : ℕ} {m : ℕ} → take n rs ≡ every s at 1 n → n ≡ few m → m ≡ x → take (n - 0) rs ≡ fields s at (few x)
sliced s rs at n e f g = let z : n - 0 ≡ n = omega arith in ap (λ j. take j rs) z ∙ e ∙ ap (every s at 1) (f ∙ ap few g)

-- ---- as turns

module _ (s t b : List ℕ) (n : List ℤ) (p : Spot) (H : Here s t b n p) (l : p.next < p.last) where
  -- a plain instruction of the version in the loaded program
  pub look-went : (b' : List ℕ) (n' : List ℤ) (c' : List ℕ) (i : Instr) (r : Did) {x : Turn} → x ≡ turn_of r → Looks r s t b n b' n' c' p.frame i → instr_in s t p.next ≡ i
      → is_plain i ≡ true → makes i ≡ false → Went x s t b n b' n' c' p
  look-went b' n' c' i r e L is q o =
      subst (λ y. Went y s t b n b' n' c' p) (sym e)
      (plain-went s t b n p H l i is q b' n' c' r (subst (λ u. Does r u b n b' n')
      (sym (own-within p.most (program_in s t) (state_in b n) p.frame (frame_in b n p.frame) (version_in s t H.own) i o))
      (subst (λ v. Does r (execute (program_in s t) (state_in b n) p.frame (frame_in b n p.frame) (version_in s t v) i) b n b' n') (sym H.number) L.0)) L.1)

  pub made-went : (b' : List ℕ) (n' : List ℤ) (c' : List ℕ) (i : Instr) (r : Did) {x : Turn} → x ≡ turn_of r → ExecutesWith p.most r b n b' n' c' p.frame i → instr_in s t p.next ≡ i
      → is_plain i ≡ true → Went x s t b n b' n' c' p
  made-went b' n' c' i r e E is q = subst (λ y. Went y s t b n b' n' c' p) (sym e) (plain-went s t b n p H l i is q b' n' c' r (E.0 (program_in s t) (version_in s t H.own)) E.1)

-- what is not plain is not left
pub not-rest : (r : Did) {x : Turn} → x ≡ turn_of r → x ≡ Turn.Rest → ⊥
unfolding turn_of
not-rest Did.On e h = let z : ◌≡◌ {A = ℕ} 0 1 = cc in omega arith
not-rest Did.Stuck e h = let z : ◌≡◌ {A = ℕ} 0 1 = cc in omega arith
not-rest (Did.Stop x) e h = let z : ◌≡◌ {A = ℕ} 0 1 = cc in omega arith

-- ---- CALL and DISPATCH

-- CALL and DISPATCH make no vector
calls-own : (s t : List ℕ) (i : ℕ) → Calling (t ! record_at i) → makes (instr_in s t i) ≡ false
unfolding makes
calls-own s t i C = go (dec_lt (t ! record_at i) 34)
  where
    go : Dec (t ! record_at i < 34) → makes (instr_in s t i) ≡ false
    go (yes l) = rw (long-call s t i (let z : t ! record_at i ≡ 33 = omega (arith, C.0, l) in z)) refl
    go (no l) = rw (long-dispatch s t i (let z : t ! record_at i ≡ 34 = omega (arith, C.1, l) in z)) refl

-- entering keeps the status
enter-status : (u : State) (k d : ℕ) (f : Frame) (W : Version) (rs : List ℕ) → Gives (λ (w : State). w.status ≡ u.status) (entered u k f d W rs)
enter-status u k d f W rs = gives_then _ (each (value f) rs) _ (λ vs _. gives-weaken (EntersOn u W.function W.version) _ (enter u k d W rs vs) (enter-enters u k d W rs vs)
    (λ w h. h.0))

module _ (s t b : List ℕ) (n : List ℤ) (p : Spot) (H : Here s t b n p) (c : List ℕ) (R : Ready b n c) (l : p.next < p.last) (b₁ : List ℕ) (st : Stored b b₁ p 1) (x : Site)
    (own_is : x.own ≡ own_in b₁ p.frame) (at-frame : x.frame ≡ p.frame) (rs : List ℕ) (b' : List ℕ) (n' : List ℤ) (c' : List ℕ) (calling : Calling (t ! record_at p.next)) where
  abbrev b₂ : List ℕ
  b₂ = set b (next_byte b) (next_of (onward p 1))

  own_same : own_in b₂ p.frame ≡ H.own
  own_same = rw (function-with s t b n p H c R (next_of (onward p 1)), version-with s t b n p H c R (next_of (onward p 1))) (sym H.number)

  abbrev now-done : Try State
  now-done = execute (program_in s t) (state_in b₂ n) p.frame (frame_in b₂ n p.frame) (version_in s t H.own) (instr_in s t p.next)

  at-site : executed_at s t b₁ n x p.next ≡ now-done
  at-site = rw (own_is, at-frame, st, own_same) refl

  module _ (r : Result Choice Fault) (C : Comes r s t b₁ n x p.next rs) where
    pub call-stuck : r ≡ Err Fault.Stuck → b' ≡ b₁ → n' ≡ n → Went Turn.Stuck s t b n b' n' c' p
    unfolding Comes Went
    call-stuck e f g = let D : executed_at s t b₁ n x p.next ≡ stuck = subst (λ y. Comes y s t b₁ n x p.next rs) e C in
        (past-line s t b n p H c R l (calls-own s t p.next calling) ∙ sym at-site ∙ D, record { next = next_of (onward p 1); bytes = f ∙ st; numbers = g })

    pub call-undef : r ≡ Err Fault.Undef → b' ≡ b₁ → n' ≡ n → Went (Turn.Stop Halt.Undef) s t b n b' n' c' p
    unfolding Comes Went end_of
    call-undef e f g = let D : executed_at s t b₁ n x p.next ≡ stop End.Undef = subst (λ y. Comes y s t b₁ n x p.next rs) e C in
        (past-line s t b n p H c R l (calls-own s t p.next calling) ∙ sym at-site ∙ D, record { next = next_of (onward p 1); bytes = f ∙ st; numbers = g })

    module _ (j m : ℕ) (e : r ≡ Ok (choice j m)) where
      pub entering : Entering j m s t b₁ n x p.next rs
      unfolding Comes
      entering = subst (λ y. Comes y s t b₁ n x p.next rs) e C

      pub call-went : (y : Did) (d : ℕ) → d ≡ s ! (x.place + 2) → Enters y b₁ n b' n' c' p.frame (record { d = d; function = j / 4; version = j % 4 }) m rs → Went
          (opened_of y) s t b n b' n' c' p
      call-went y d q E = opened-went s t b n p H c R l (instr_in s t p.next) refl (calls-own s t p.next calling) b' n' c' y
          (subst (λ z. Does y z b₂ n b' n') (sym done-is) entered-does) E.1
          (subst (Gives (λ (w : State). w.status ≡ (state_in b₂ n).status)) (sym done-is) (enter-status (state_in b₂ n) p.frame d (frame_in b₂ n p.frame) (version_in s t j) rs))
        where
          done-is : now-done ≡ entered (state_in b₂ n) p.frame (frame_in b₂ n p.frame) d (version_in s t j) rs
          done-is = sym at-site ∙ entering.enters ∙ rw (at-frame, sym q, st) refl

          entered-does : Does y (entered (state_in b₂ n) p.frame (frame_in b₂ n p.frame) d (version_in s t j) rs) b₂ n b' n'
          entered-does = subst (λ z. Does y (entered (state_in z n) p.frame (frame_in z n p.frame) d (version_in s t j) rs) z n b' n') st
              (E.0 (version_in s t j) entering.function entering.version entering.marks)

-- as the code has it in hand
pub chosen-full : (r : Result Choice Fault) (b : List ℕ) (n : List ℤ) (k : ℕ) (rs : List ℕ) (j m : ℕ) → Chosen r b n k rs → r ≡ Ok (choice j m) → AllFull b n k rs
unfolding Chosen
chosen-full r b n k rs j m C e = subst (λ x. Chosen x b n k rs) e C

pub opens-version : (r : Result Choice Fault) (x : Turn) (b : List ℕ) (n : List ℤ) (b' : List ℕ) (n' : List ℤ) (c' : List ℕ) (k d : ℕ) (rs : List ℕ) (j m : ℕ) (y : Did) → r ≡ Ok (choice j m)
    → x ≡ opened_of y → Enters y b n b' n' c' k (record { d = d; function = j / 4; version = j % 4 }) m rs → Opens x r b n b' n' c' k d rs
unfolding Opens
opens-version r x b n b' n' c' k d rs j m y e q E = subst (λ z. Opens x z b n b' n' c' k d rs) (sym e) (record { did = y; turn = q; enters = E })

pub opens-undef : (r : Result Choice Fault) (b : List ℕ) (n : List ℤ) (c' : List ℕ) (k d : ℕ) (rs : List ℕ) (x : Fault) → r ≡ Err x → x ≡ Fault.Undef → Opens (Turn.Stop Halt.Undef) r b n b n c' k d rs
unfolding Opens
opens-undef r b n c' k d rs x e f = subst (λ z. Opens (Turn.Stop Halt.Undef) z b n b n c' k d rs) (sym (e ∙ ap Err f)) (refl, refl, refl)

pub opens-stuck : (r : Result Choice Fault) (b : List ℕ) (n : List ℤ) (c' : List ℕ) (k d : ℕ) (rs : List ℕ) (x : Fault) → r ≡ Err x → x ≡ Fault.Stuck → Opens Turn.Stuck r b n b n c' k d rs
unfolding Opens
opens-stuck r b n c' k d rs x e f = subst (λ z. Opens Turn.Stuck z b n b n c' k d rs) (sym (e ∙ ap Err f)) (refl, refl, refl)

-- the registers that are listed
module _ (s : List ℕ) (q e : ℕ) (rs : List ℕ) {n x : ℕ} (f : n ≡ few x) (low : n ≤ 8) (long : length rs ≡ 8) where
  pub listed-call : q ≡ 33 → x ≡ s ! (e + 5) → take n rs ≡ every s (e + 6) 1 n → (n ≡ count_at s q e) × (n ≤ 8) × (take n rs ≡ registers_at s q e) × (length rs ≡ 8)
  unfolding count_at registers_at
  listed-call h g l = let z : eqb q 33 ≡ true = eq-eqb q 33 h in let c : n ≡ few (s ! (e + 5)) = f ∙ ap few g in (rw z c, low, rw z (l ∙ ap (every s (e + 6) 1) c), long)

  pub listed-dispatch : (q ≡ 33 → ⊥) → x ≡ s ! (e + 6) → take n rs ≡ every s (e + 8) 2 n → (n ≡ count_at s q e) × (n ≤ 8) × (take n rs ≡ registers_at s q e) × (length rs ≡ 8)
  unfolding count_at registers_at
  listed-dispatch h g l = let z : eqb q 33 ≡ false = ne_eqb q 33 h in let c : n ≡ few (s ! (e + 6)) = f ∙ ap few g in (rw z c, low, rw z (l ∙ ap (every s (e + 8) 2) c), long)

-- a part from 0 on
pub part-all : (n : ℕ) (rs : List ℕ) → take (n - 0) rs ≡ take n rs
part-all n rs = let z : n - 0 ≡ n = omega arith in ap (λ j. take j rs) z

moved-rest : (y : Did) → opened_of y ≡ Turn.Rest → ⊥
unfolding opened_of
moved-rest Did.On h = let z : ◌≡◌ {A = ℕ} 0 1 = cc in omega arith
moved-rest Did.Stuck h = let z : ◌≡◌ {A = ℕ} 0 1 = cc in omega arith
moved-rest (Did.Stop x) h = let z : ◌≡◌ {A = ℕ} 0 1 = cc in omega arith

pub stuck-rest : Turn.Stuck ≡ Turn.Rest → ⊥
stuck-rest h = let z : ◌≡◌ {A = ℕ} 0 1 = cc in omega arith

pub stop-rest : (x : Halt) → Turn.Stop x ≡ Turn.Rest → ⊥
stop-rest x h = let z : ◌≡◌ {A = ℕ} 0 1 = cc in omega arith

module _ (s t b : List ℕ) (n : List ℤ) (p : Spot) (S : Stands s t b n p) (c : List ℕ) (R : Ready b n c) (b₁ : List ℕ) (st : Stored b b₁ p 1) where
  pub own-stored : own_in b₁ p.frame ≡ own_in b p.frame
  own-stored = rw st (rw (function-with s t b n p S.here c R (next_of (onward p 1)), version-with s t b n p S.here c R (next_of (onward p 1))) refl)

  pub own-low : own_in b₁ p.frame < 128
  own-low = let z = own-stored in let f = S.few in omega (arith, z, f)

  module _ (x : Site) (own_is : x.own ≡ own_in b₁ p.frame) (at-frame : x.frame ≡ p.frame) (kind-is : t ! record_at p.next ≡ x.kind) (place_is : place_in t p.next ≡ x.place)
      (rs room : List ℕ) (part : rs ≡ take x.n room) (r : Result Choice Fault) (C : Chooses r s t b₁ x room) where
    comes : Comes r s t b₁ n x p.next rs
    comes = subst (Comes r s t b₁ n x p.next) (sym part) (C n p.next kind-is place_is)

    pub to-enter : Chosen r b₁ n p.frame rs
    unfolding Comes Chosen
    to-enter = go r comes
      where
        go : (y : Result Choice Fault) → Comes y s t b₁ n x p.next rs → Chosen y b₁ n p.frame rs
        go (Ok v) E = subst (λ k. AllFull b₁ n k rs) at-frame E.full
        go (Err Fault.Undef) E = omega arith
        go (Err Fault.Stuck) E = omega arith

    module _ (calling : Calling (t ! record_at p.next)) (y : Turn) (d : ℕ) (d-is : d ≡ s ! (x.place + 2)) (b' : List ℕ) (n' : List ℤ) (c' : List ℕ)
        (O : Opens y r b₁ n b' n' c' p.frame d rs) where
      pub call-answers : Answers y s t b n b' n' c' p
      unfolding Opens
      call-answers = go r refl O
        where
          go : (z : Result Choice Fault) → r ≡ z → Opens y z b₁ n b' n' c' p.frame d rs → Answers y s t b n b' n' c' p
          go (Ok v) e E = (
            subst (λ w. Went w s t b n b' n' c' p) (sym E.turn)
                (call-went s t b n p S.here c R S.line b₁ st x own_is at-frame rs b' n' c' calling r comes v.version v.owned e E.did d d-is E.enters),
            λ q. moved-rest E.did
                (sym E.turn ∙ q),
          )
          go (Err Fault.Undef) e E = (
            subst (λ w. Went w s t b n b' n' c' p) (sym E.0)
                (call-undef s t b n p S.here c R S.line b₁ st x own_is at-frame rs b' n' c' calling r comes e E.1 E.2),
            λ q. stop-rest Halt.Undef (sym E.0 ∙ q),
          )
          go (Err Fault.Stuck) e E = (
            subst (λ w. Went w s t b n b' n' c' p) (sym E.0)
                (call-stuck s t b n p S.here c R S.line b₁ st x own_is at-frame rs b' n' c' calling r comes e E.1 E.2),
            λ q. stuck-rest (sym E.0 ∙ q),
          )

-- ---- the end of a block

-- a step of a run that goes on ends it with DONE alone
pub done-by : (most : ℕ) (P : Program) (u w : State) (x : End) → u.status ≡ Status.Running → advance_with most P u ≡ got w → w.status ≡ Status.Ended x → last_step x ≡ 1
unfolding is_done last_step
done-by most P u w x run e q = go (gives-got _ (advance P u) w (advance-gives P u) (advanced (own-or-vectors most P u))).0
  where
    advanced : (advance_with most P u ≡ advance P u) ⊎ (advance_with most P u ≡ stop End.Vectors) → advance P u ≡ got w
    advanced (inl h) = sym h ∙ e
    advanced (inr h) = let z : ◌≡◌ {A = ℕ} 0 1 = cc in absurd (omega arith)

    count : (y : End) → is_done y ≡ true → last_step y ≡ 1
    count (End.Integer z) d = refl
    count (End.Vector m) d = refl
    count End.Undef d = absurd (false≢true d)
    count End.Deep d = absurd (false≢true d)
    count End.Vectors d = absurd (false≢true d)
    count End.Promises d = absurd (false≢true d)

    go : GoesOn u w → last_step x ≡ 1
    go (inl s) = let z : ◌≡◌ {A = ℕ} 0 1 = cc in absurd (omega arith)
    go (inr (y, d, s)) = let f : y ≡ x = cc in ap last_step (sym f) ∙ count y d

module _ (s t b : List ℕ) (n : List ℤ) (p : Spot) (H : Here s t b n p) (c : List ℕ) (R : Ready b n c) (e : p.next ≡ p.last) (b₁ : List ℕ) (st : Stored b b₁ p 0) where
  stored_here : b₁ ≡ set b (next_byte b) (next_of p)
  unfolding onward
  stored_here = st ∙ ap (set b (next_byte b)) (let f = H.first in let z : p.next + 0 - (p.block + 1) ≡ next_of p = omega arith in z)

  pub end-ready : Ready b₁ n c × Working b₁ p.frame × (own_in b₁ p.frame ≡ H.own)
  end-ready = rw stored_here (
    synced-ready b n c R (depth-there s t b n p H c R) H.low (next_of p),
    record { depth = deep-with s t b n p H c R (next_of p); low = low-with s t b n p H c R (next_of p); frame = (here-with s t b n p H c R (next_of p)).spotted.frame; few = H.live.0 },
    rw (function-with s t b n p H c R (next_of p), version-with s t b n p H c R (next_of p)) (sym H.number),
  )

  module _ (x : Optional Bool) {v r : ℕ} (own_is : v ≡ own_in b₁ p.frame) (r-is : r ≡ (block_in s t p.block).result) (T : Returned x s t b₁ p.frame v r) (y : Ended) (b' : List ℕ)
      (n' : List ℤ) (c' : List ℕ) (B : BlockEnds x y b₁ n b' n' c' p.frame r) where
    came : ends.Comes y (advance_with p.most (program_in s t) (state_at b n p)) b₁ n b' n'
    came = subst (λ z. ends.Comes y z b₁ n b' n') (sym (here_end s t b n p H c R e ∙ rw (sym stored_here, sym r-is) refl))
        (B.0 (program_in s t) (version_in s t H.own) (λ _. subst (λ w. returns_in (program_in s t) (version_in s t w) (state_in b₁ n) (frame_in b₁ n p.frame) r ≡ typed_of x)
        (own_is ∙ end-ready.2) (T n)))

    at-status : (state_at b n p).status ≡ (state_in b n).status
    unfolding standing aside with_stack
    at-status = refl

    pub end-stuck : y ≡ Ended.Stuck → Answers Turn.Stuck s t b n b' n' c' p
    unfolding ends.Comes Went
    end-stuck q = let D = subst (λ z. ends.Comes z (advance_with p.most (program_in s t) (state_at b n p)) b₁ n b' n') q came in
        ((D.0, record { next = next_of p; bytes = D.1 ∙ stored_here; numbers = D.2 }), stuck-rest)

    pub end_moved : y ≡ Ended.Back → b' ! STATUS ≡ 0 → Answers Turn.Moved s t b n b' n' c' p
    unfolding ends.Comes ends.Left Went state_in status_of
    end_moved q z = (
      (
        subst (λ w. ends.Comes w (advance_with p.most (program_in s t) (state_at b n p)) b₁ n b' n') q came,
        subst (λ w. ends.Left w b' n' c') q
            B.1,
        λ _. rw z refl,
      ),
      λ h. let o : ◌≡◌ {A = ℕ} 0 1 = cc in omega arith,
    )

    pub end-done : y ≡ Ended.Done → Answers Turn.Done s t b n b' n' c' p
    unfolding ends.Comes ends.Left Went
    end-done q =
        let D = subst (λ w. ends.Comes w (advance_with p.most (program_in s t) (state_at b n p)) b₁ n b' n') q came in
        let L = subst (λ w. ends.Left w b' n' c') q B.1 in (
          (D, L.0, λ run. (L.1.0, L.1.1, done-by p.most (program_in s t) (state_at b n p) (state_in b' n') L.1.0 (at-status ∙ run) D L.1.1)),
          λ h. let o : ◌≡◌
              {A = ℕ} 0 1 = cc in omega arith,
        )

    pub end-over : y ≡ Ended.Back → (b' ! STATUS ≡ 0 → ⊥) → Answers Turn.Done s t b n b' n' c' p
    unfolding ends.Comes ends.Left Went state_in
    end-over q z =
        let D = subst (λ w. ends.Comes w (advance_with p.most (program_in s t) (state_at b n p)) b₁ n b' n') q came in
        let Q : Ready b' n' c' = subst (λ w. ends.Left w b' n' c') q B.1 in
        let E = ended_by (b' ! STATUS) z (b' ! (STATUS + 1)) (n' # ENDING) in (
          (D, (Q.bytes, Q.numbers), λ run. (E.0, E.1, done-by p.most (program_in s t) (state_at b n p) (state_in b' n') E.0 (at-status ∙ run) D E.1)),
          λ h. let o : ◌≡◌
              {A = ℕ} 0 1 = cc in omega arith,
        )

-- ---- a turn

plain-rest : (r : Did) {x : Turn} → x ≡ turn_of r → x ≡ Turn.Rest → ⊥
plain-rest r e h = not-rest r e h

module _ (s t b : List ℕ) (n : List ℤ) (p : Spot) (S : Stands s t b n p) (b' : List ℕ) (n' : List ℤ) (c' : List ℕ) where
  pub look-answers : (i : Instr) (r : Did) {x : Turn} → x ≡ turn_of r → Looks r s t b n b' n' c' p.frame i → instr_in s t p.next ≡ i → is_plain i ≡ true → makes i ≡ false
      → Answers x s t b n b' n' c' p
  look-answers i r e L is q o = (look-went s t b n p S.here S.line b' n' c' i r e L is q o, plain-rest r e)

  pub made-answers : (i : Instr) (r : Did) {x : Turn} → x ≡ turn_of r → ExecutesWith p.most r b n b' n' c' p.frame i → instr_in s t p.next ≡ i → is_plain i ≡ true
      → Answers x s t b n b' n' c' p
  made-answers i r e E is q = (made-went s t b n p S.here S.line b' n' c' i r e E is q, plain-rest r e)

  pub plain-answers : (i : Instr) (r : Did) {x : Turn} → x ≡ turn_of r → Executes r b n b' n' c' p.frame i → instr_in s t p.next ≡ i → is_plain i ≡ true → makes i ≡ false
      → Answers x s t b n b' n' c' p
  plain-answers i r e E is q o = made-answers i r e (own-executes p.most r b n b' n' c' p.frame i o E) is q

-- from what the loop keeps
pub stands_by : (s t b : List ℕ) (n : List ℤ) (p : Spot) → Kept s t b n p → p.next < p.last → Stands s t b n p
unfolding state_in
stands_by s t b n p K l =
    let H = K.here (omega arith) in
    let f = H.first in
    let q = H.last in
    record {
      here = H;
      fit = record { room = room s t b n p H l; live = H.live; deep = H.spotted.deep; low = H.low; first = f; near = omega (arith, q); small = H.small };
      line = l;
      few = let e = H.number in let w = H.few in omega (arith, e, w);
    }

-- a turn by its answer
module _ (s t b : List ℕ) (n : List ℤ) (p : Spot) (b' : List ℕ) (n' : List ℤ) (c' : List ℕ) (x : Turn) where
  pub turned_by : 0 < p.last → Answers x s t b n b' n' c' p → Turned x s t b n b' n' c' p
  turned_by l A = record { went = λ _. A.0; lost = λ z. absurd (omega (arith, l, z)); told = A.1 }

-- neither an instruction nor the end of a block
pub turned_none : (s t b : List ℕ) (n : List ℤ) (p : Spot) (c : List ℕ) → Ready b n c → Kept s t b n p → (p.next < p.last → ⊥) → (p.next ≡ p.last → ⊥) → Turned Turn.Stuck s t b n b n c p
unfolding Went
turned_none s t b n p c R K a z = record {
  went = λ l. (here-outside s t b n p (K.here l) c R (omega arith), untouched b n b n refl refl);
  lost = λ _. (refl, refl, refl);
  told = stuck-rest;
}

-- instructions at their places
module _ (s t : List ℕ) (i : ℕ) {e : ℕ} (at : e ≡ place_in t i) where
  pub vec_here : t ! record_at i ≡ kind.VEC → instr_in s t i ≡ VEC (s ! (e + 2)) (fields s (e + 4) (few (s ! (e + 3))))
  vec_here q = rw at (long-vec s t i q)

  pub lit-here : Left t i → (t ! record_at i ≡ kind.MOVE → ⊥) → (t ! record_at i ≡ kind.VEC → ⊥) → (t ! record_at i ≡ kind.CAST → ⊥) → (t ! record_at i ≡ kind.PROM → ⊥) →
      (t ! record_at i ≡ kind.CALL → ⊥) → (t ! record_at i ≡ kind.DISPATCH → ⊥)
      → instr_in s t i ≡ LIT (s ! (e + 2)) (number_in Form.Wide (drop (e + 2) s))
  lit-here L m v a r c d = rw at (long-lit s t i m L.not_use L.not_dup v L.not_len L.not_get L.not_set L.not_arith L.not_select a L.not_named L.not_store r L.not_force
      L.not_peek L.not_poke c d L.not_skip)

pub end-here : (s t b : List ℕ) (n : List ℤ) (p : Spot) → Kept s t b n p → p.next ≡ p.last → 0 < p.last
end-here s t b n p K e = go (dec_lt 0 p.last)
  where
    go : Dec (0 < p.last) → 0 < p.last
    go (yes l) = l
    go (no l) = let z : p.last ≡ 0 = omega arith in let w = K.none z in omega (arith, e, z, w)

-- ---- a turn by its quick part

pub turned-quick : (s t b : List ℕ) (n : List ℤ) (b' : List ℕ) (n' : List ℤ) (c' : List ℕ) (p : Spot) (x y : Turn) → Kept s t b n p → Quick x t b n b' n' c' p →
    ((p.next < p.last → ⊥) → x ≡ Turn.Rest) → x ≡ y → (y ≡ Turn.Rest → ⊥) → Turned y s t b n b' n' c' p
turned-quick s t b n b' n' c' p x y K Q L e o = record {
  went = λ l. subst (λ z. Went z s t b n b' n' c' p) e (Q s (λ _. K.here l));
  lost = λ z. absurd (o (sym e ∙ L (λ l. omega (arith, l, z))));
  told = o;
}

module _ (s t b : List ℕ) (n : List ℤ) (b' : List ℕ) (n' : List ℤ) (c' : List ℕ) (p : Spot) (x : Turn) (K : Kept s t b n p) (Q : Quick x t b n b' n' c' p) (e : x ≡ Turn.Rest) where
  rested : (b' ≡ b) × (n' ≡ n) × Ready b' n' c' × (p.next < p.last → Left t p.next)
  unfolding Went
  rested = subst (λ z. Went z s t b n b' n' c' p) e (Q s (λ l. K.here (omega arith)))

  pub rest-ready : Ready b' n' c' × Kept s t b' n' p × (p.next < p.last → Left t p.next)
  rest-ready = (rested.2, rw (rested.0, rested.1) K, rested.3)

  pub rest-turned : (y : Turn) (b'' : List ℕ) (n'' : List ℤ) (c'' : List ℕ) → Turned y s t b' n' b'' n'' c'' p → Turned y s t b n b'' n'' c'' p
  rest-turned y b'' n'' c'' T = subst (λ a. Turned y s t a n b'' n'' c'' p) rested.0 (subst (λ a. Turned y s t b' a b'' n'' c'' p) rested.1 T)

-- other answers than that it is left
pub on-rest : Turn.On ≡ Turn.Rest → ⊥
on-rest h = let z : ◌≡◌ {A = ℕ} 0 1 = cc in omega arith

pub over-rest : (m : ℕ) → Turn.Over m ≡ Turn.Rest → ⊥
over-rest m h = let z : ◌≡◌ {A = ℕ} 0 1 = cc in omega arith

pub away-rest : Turn.Moved ≡ Turn.Rest → ⊥
away-rest h = let z : ◌≡◌ {A = ℕ} 0 1 = cc in omega arith

pub done-rest : Turn.Done ≡ Turn.Rest → ⊥
done-rest h = let z : ◌≡◌ {A = ℕ} 0 1 = cc in omega arith
