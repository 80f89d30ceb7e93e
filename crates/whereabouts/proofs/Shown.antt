-- Where a state stands, by the bytes that tell it.
use Rattle.std.specs.Prelude.{None, Some, Option as Optional}
use Rattle.loaded.specs.Answers.{BlockAt}
use mathlib.Core.Path.{◌≡◌, refl, sym, ap, ◌∙◌}
use Rattle.loaded.specs.Answers.{Number}
use mathlib.Core.List.{List, [], ◌∷◌}
use mathlib.Core.Option.{Option, none, some}
use Prim.Native.Nat.{ℕ, zero, suc, ◌+◌, ◌-◌, ◌*◌, ◌<◌, ◌≤◌}
use native.Mathlib.Nat.{not-suc-le-zero, le_of_suc-le-suc}
use native.Mathlib.Omega.{arith}
use lib.ListN.{get_elem?, take}
use lib.IntN.{ℤ}
use Rattle.layout.specs.Bounds.{INSTRUCTIONS}
use Rattle.layout.specs.Records.{◌!◌}
use Rattle.layout.proofs.Lists.{get_take}
use Rattle.program.specs.Program.{Block, Instr, Program, Version, find_version}
use Rattle.machine.specs.Runs.{settled, step_in, step_in_to, step_of_to}
use Rattle.machine.specs.States.{live_activations, live_frames, with_end}
use Rattle.machine.specs.Steps.{Position, advance, block_end, here, instruction, outside, position, position_of}
use Rattle.machine.specs.Try.{Try, ◌>>=◌, at, got, or_stuck, stop, stuck}
use Rattle.machine.specs.declared.Activation.{Activation}
use Rattle.machine.specs.declared.End.{End}
use Rattle.machine.specs.declared.Frame.{Frame}
use Rattle.machine.specs.declared.Said.{Said}
use Rattle.machine.specs.declared.State.{State}
use Rattle.machine.specs.declared.Status.{Status}
use Rattle.store.specs.Lists.{up_to}
use Rattle.store.specs.Store.{CALLS, DEPTH, activation_in, frame_in, state_in}
use Rattle.store.proofs.Frames.{frame-live}
use Rattle.store.proofs.Lists.{get_elem?-up_to, missing-up_to}
use Rattle.loaded.specs.Loaded.{block_in, count_in, instr_in, line_in, lines_in, place_in, program_in, version_in}
use Rattle.loaded.specs.Answers.{block_of, next_of, version_of}
use Rattle.loaded.specs.declared.Next.{Next}
use Rattle.whereabouts.specs.Where.{StandsStill, block_by, offset_of, spot_from, spot_in, where_at, where_by, where_from, where_of}
use Rattle.whereabouts.specs.declared.Where.{Where}

-- ---- from the state to the numbers

-- what a list does not have, its beginning does not have
take_none : {A : Type 0} (xs : List A) (n k : ℕ) → get_elem? xs k ≡ none → get_elem? (take n xs) k ≡ none
take_none [] zero k h = refl
take_none [] (suc n) k h = refl
take_none (x ∷ xs) zero k h = refl
take_none (x ∷ xs) (suc n) zero h = h
take_none (x ∷ xs) (suc n) (suc k) h = take_none xs n k h

-- nor what lies behind it
take-over : {A : Type 0} (xs : List A) (n k : ℕ) → n ≤ k → get_elem? (take n xs) k ≡ none
take-over [] zero k h = refl
take-over [] (suc n) k h = refl
take-over (x ∷ xs) zero k h = refl
take-over (x ∷ xs) (suc n) zero h = absurd (not-suc-le-zero h)
take-over (x ∷ xs) (suc n) (suc k) h = take-over xs n k (le_of_suc-le-suc h)

-- frames that are not those of live calls
module _ (b : List ℕ) (n : List ℤ) (k : ℕ) where
  pub frame-outside : 32 ≤ k → at (live_frames (state_in b n)) k ≡ stuck
  unfolding live_frames at or_stuck state_in
  frame-outside h = rw (take_none (up_to (frame_in b n) 0 32) (b ! CALLS) k (missing-up_to (frame_in b n) 32 k h)) refl

  pub frame-ended : b ! CALLS ≤ k → at (live_frames (state_in b n)) k ≡ stuck
  unfolding live_frames at or_stuck state_in
  frame-ended h = rw (take-over (up_to (frame_in b n) 0 32) (b ! CALLS) k h) refl

-- the numbers of a place, and the place
module _ (a : Activation) (f : Frame) where
  by-block : (W : Version) (o : Try Block) → spot_from f.function f.version a.block a.next o ≡ where_from (o >>= λ B. got (record { activation = a; frame = f; version = W; block = B }))
  unfolding spot_from where_from ◌>>=◌ position_of where_at spot_in
  by-block W stuck = refl
  by-block W (stop e) = refl
  by-block W (got B) = go (position (take INSTRUCTIONS B.code) a.next)
    where
      go : (x : Position) → spot_in f.function f.version a.block a.next B x ≡ where_at (record { activation = a; frame = f; version = W; block = B }) x
      go (instruction i) = refl
      go block_end = refl
      go outside = refl

  by-version : (o : Try Version) → spot_from f.function f.version a.block a.next (o >>= λ W. at W.blocks a.block) ≡ where_from (o >>= λ W. at W.blocks a.block >>= λ B. got (record { activation = a; frame = f; version = W; block = B }))
  unfolding spot_from where_from ◌>>=◌
  by-version stuck = refl
  by-version (stop e) = refl
  by-version (got W) = by-block W (at W.blocks a.block)

module _ (P : Program) (b : List ℕ) (n : List ℤ) {d : ℕ} (z : d ≡ b ! DEPTH) where
  pub no-depth : d ≡ 0 → None ≡ where_of P (state_in b n)
  unfolding where_of where_from here live_activations at or_stuck ◌>>=◌ state_in
  no-depth h = rw (take-over (up_to (activation_in b) 0 32) (b ! DEPTH) (b ! DEPTH - 1) (omega arith)) refl

  pub too-deep : 32 < d → None ≡ where_of P (state_in b n)
  unfolding where_of where_from here live_activations at or_stuck ◌>>=◌ state_in
  too-deep h = rw (take_none (up_to (activation_in b) 0 32) (b ! DEPTH) (b ! DEPTH - 1) (missing-up_to (activation_in b) 32 (b ! DEPTH - 1) (omega arith))) refl

  module _ (l : d ≡ 0 → ⊥) (m : d ≤ 32) {a : Activation} (t : a ≡ activation_in b (d - 1)) {k : ℕ} (e : k ≡ a.frame) where
    on-top : at (live_activations (state_in b n)) (b ! DEPTH - 1) ≡ got a
    unfolding live_activations at or_stuck state_in
    on-top = rw (t, z, get_take (up_to (activation_in b) 0 32) (b ! DEPTH) (b ! DEPTH - 1) (omega arith), get_elem?-up_to (activation_in b) 32 (b ! DEPTH - 1) (omega arith)) refl

    pub no-frame : 32 ≤ k → None ≡ where_of P (state_in b n)
    unfolding where_of where_from here ◌>>=◌ state_in
    no-frame h = rw (on-top, ap (at (live_frames (state_in b n))) (sym e) ∙ frame-outside b n k h) refl

    pub not_live : {c : ℕ} → c ≡ b ! CALLS → c ≤ k → None ≡ where_of P (state_in b n)
    unfolding where_of where_from here ◌>>=◌ state_in
    not_live y h = rw (on-top, ap (at (live_frames (state_in b n))) (sym e) ∙ frame-ended b n k (omega (arith, y, h))) refl

    pub by-numbers : {c : ℕ} → c ≡ b ! CALLS → k < 32 → k < c → where_by P (b ! (32 * k + 24)) (b ! (32 * k + 25)) a.block a.next ≡ where_of P (state_in b n)
    unfolding where_of where_by block_by here ◌>>=◌ frame_in state_in
    by-numbers y h c = rw (on-top, ap (at (live_frames (state_in b n))) (sym e) ∙ frame-live b n k (h, omega (arith, y, c))) (by-version a (frame_in b n k) (or_stuck (find_version P (b ! (32 * k + 24)) (b ! (32 * k + 25)))))

-- ---- from the look-ups to the numbers

-- an instruction's offset is the one that its record says
offset_at : (s t : List ℕ) (m k c x : ℕ) (y : Instr) → position (take m (lines_in s t k c)) x ≡ instruction y → offset_of (lines_in s t k c) x ≡ place_in t (k + x) - 2
unfolding offset_of lines_in position
offset_at s t zero k c zero y e = let z : ◌≡◌ {A = ℕ} 0 1 = cc in absurd (omega arith)
offset_at s t zero k c (suc x) y e = let z : ◌≡◌ {A = ℕ} 0 1 = cc in absurd (omega arith)
offset_at s t (suc m) k zero zero y e = let z : ◌≡◌ {A = ℕ} 0 1 = cc in absurd (omega arith)
offset_at s t (suc m) k zero (suc x) y e = let z : ◌≡◌ {A = ℕ} 0 1 = cc in absurd (omega arith)
offset_at s t (suc m) k (suc c) zero y e = let z : k ≡ k + 0 = omega arith in ap (λ i. place_in t i - 2) z
offset_at s t (suc m) k (suc c) (suc x) y e = let z : k + 1 + x ≡ k + suc x = omega arith in offset_at s t m (k + 1) c x y e ∙ ap (λ i. place_in t i - 2) z

module _ (s t : List ℕ) (f w b x : ℕ) {r : Number} (h : version_of s t r ≡ find_version (program_in s t) f w) where
  pub no-version : r ≡ None → None ≡ where_by (program_in s t) f w b x
  unfolding where_by block_by spot_from or_stuck ◌>>=◌ version_of
  no-version e = let q : none ≡ find_version (program_in s t) f w = ap (version_of s t) (sym e) ∙ h in rw (← q) refl

  module _ (k : ℕ) (e : r ≡ Some k) (B : BlockAt) (g : block_of s t B ≡ get_elem? (version_in s t k).blocks b) where
    block-is : block_by (program_in s t) f w b ≡ or_stuck (block_of s t B)
    unfolding block_by or_stuck at ◌>>=◌ version_of
    block-is = let q : some (version_in s t k) ≡ find_version (program_in s t) f w = ap (version_of s t) (sym e) ∙ h in rw (← q, g) refl

    pub no_block : B ≡ None → None ≡ where_by (program_in s t) f w b x
    unfolding where_by spot_from or_stuck block_of
    no_block d = rw (block-is, d) refl

    module _ (i : ℕ) (d : B ≡ Some i) (y : Optional Next) (v : next_of s t y ≡ position (take INSTRUCTIONS (block_in s t i).code) x) where
      spot_is : where_by (program_in s t) f w b x ≡ spot_in f w b x (block_in s t i) (next_of s t y)
      unfolding where_by spot_from or_stuck block_of
      spot_is = rw (block-is, d, v) refl

      pub spot-outside : y ≡ None → None ≡ where_by (program_in s t) f w b x
      unfolding spot_in next_of
      spot-outside q = rw (spot_is, q) refl

      pub spot-end : y ≡ Some Next.End → {o : ℕ} → o ≡ place_in t i - 2 → Some (Where.BlockEnd f w b x o) ≡ where_by (program_in s t) f w b x
      unfolding spot_in next_of block_in
      spot-end q z = rw (spot_is, q, z) refl

      pub spot-line : {m : ℕ} → y ≡ Some (Next.Line m) → {o : ℕ} → o ≡ place_in t (i + 1 + x) - 2 → Some (Where.Instruction f w b x o) ≡ where_by (program_in s t) f w b x
      unfolding spot_in next_of block_in
      spot-line {m} q z =
          let p : instruction (instr_in s t m) ≡ position (take INSTRUCTIONS (block_in s t i).code) x = ap (next_of s t) (sym q) ∙ v in
          rw (spot_is, q, z, offset_at s t 48 (i + 1) (count_in t i) x (instr_in s t m) (sym p)) refl

-- ---- a run that ended

module _ (P : Program) (s : State) where
  -- where a state stands does not depend on whether its run goes on
  where-end : (xs : List ℤ) (e : End) → where_of P (with_end s xs e) ≡ where_of P s
  unfolding where_of here live_activations live_frames with_end
  where-end xs e = refl

-- THE LAW: a step that ends with UNDEF or a stop leaves the state where it stood
pub stands-still : StandsStill
unfolding StandsStill step_of_to step_in_to settled
stands-still P s e r h = go s.status r
  where
    tried : (t : Try State) → t ≡ stop e → ((settled s t).said ≡ Said.Ended e) × (where_of P (settled s t).state ≡ where_of P s)
    tried t x = rw x (refl, where-end P s s.result e)

    go : (st : Status) → st ≡ Status.Running → ((step_in P s st).said ≡ Said.Ended e) × (where_of P (step_in P s st).state ≡ where_of P s)
    go Status.Running x = tried (advance P s) h
    go (Status.Ended y) x = let z : ◌≡◌ {A = ℕ} 0 1 = cc in absurd (omega arith)
