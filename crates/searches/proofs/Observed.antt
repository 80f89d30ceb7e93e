-- What a state looks at, by where its run stands.
use Rattle.std.specs.Prelude.{None, Some, Option as Optional}
use Rattle.loaded.specs.Answers.{BlockAt}
use mathlib.Core.Path.{◌≡◌, refl, sym, ap, ◌∙◌, subst}
use Rattle.loaded.specs.Answers.{Number}
use mathlib.Core.List.{List}
use mathlib.Core.Option.{none, some}
use mathlib.Core.Bool.{Bool, true, false, cond}
use Prim.Native.Nat.{ℕ, zero, suc, ◌+◌, ◌-◌, ◌*◌, ◌<◌, ◌≤◌}
use native.Mathlib.Omega.{arith}
use lib.IntN.{ℤ}
use lib.ListN.{get_elem?, length, take}
use lib.Dec.{ltb}
use borrow.Author.Tests.{le-ltb, lt-ltb}
use Rattle.layout.specs.Bounds.{INSTRUCTIONS}
use Rattle.layout.specs.Kinds as kind
use Rattle.layout.specs.Records.{◌!◌, choose, every}
use Rattle.layout.specs.declared.Form.{Form}
use Rattle.layout.proofs.Fields.{length-every}
use Rattle.layout.proofs.Lists.{get_take, none-taken, take_none}
use Rattle.layout.proofs.Rows.{Rows, choose-each}
use Rattle.program.specs.Program.{Argument, Instr, Program, Version, arguments, find_version, instr_by}
use Rattle.machine.specs.Calls.{versions_of}
use Rattle.machine.specs.Searches.{kinds_of, looked_by, search_at, search_by, search_from, search_of}
use Rattle.machine.specs.States.{live_activations, live_frames}
use Rattle.machine.specs.Steps.{Position, here, position, position_of, registers_of, instruction, block_end, outside}
use Rattle.machine.specs.Try.{Try, got, stuck, stop, ◌>>=◌, at, or_stuck}
use Rattle.machine.specs.declared.Activation.{Activation}
use Rattle.machine.specs.declared.Frame.{Frame}
use Rattle.machine.specs.declared.Search.{Search}
use Rattle.machine.specs.declared.State.{State}
use Rattle.store.specs.Lists.{up_to}
use Rattle.store.specs.Store.{CALLS, DEPTH, Live, activation_in, frame_in, state_in}
use Rattle.store.proofs.Frames.{frame-live}
use Rattle.store.proofs.Lists.{get_elem?-up_to, missing-up_to}
use Rattle.frames.specs.Frames.{Lives}
use Rattle.loaded.proofs.Reading.{arguments-behind, long-dispatch}
use Rattle.loaded.specs.Answers.{block_of, next_of, version_of}
use Rattle.loaded.specs.Dispatching.{pairs_at}
use Rattle.loaded.specs.Loaded.{block_in, few, instr_in, is_short, long_in, place_in, program_in, read_by, record_at, version_in}
use Rattle.loaded.specs.declared.Next.{Next}
use Rattle.matching.proofs.Joined.{dispatch-here, pair-registers}
use Rattle.matching.proofs.Kinding.{version-none, version-some}
use Rattle.matching.specs.Arguments.{searched_at}
use Rattle.matching.specs.Codes.{Coded, KINDLESS, kinds_by, kinds_in}
use Rattle.searches.specs.Observing.{Looks, LooksAt, LooksIn, Observes, here_by}

-- ---- a DISPATCH

module _ (s t b : List ℕ) (k own p : ℕ) {c n : ℕ} (count : c ≡ s ! (p + 6)) (is : n ≡ few c) (rs : List ℕ) (lists : take n rs ≡ every s (p + 8) 2 n) (code : ℕ) (C : Coded code s t b k (take n rs)) where
  registers : take n rs ≡ registers_of (pairs_at s p)
  registers = lists ∙ rw (is, count) (sym (pair-registers s p))

  long : length (take n rs) ≡ n
  long = ap length lists ∙ length-every s (p + 8) 2 n

  -- a register has no kind
  pub looks-not : KINDLESS ≤ code → Looks Search.Elsewhere s t b k own p
  unfolding looked_by kinds_by
  looks-not h z = rw (← registers, C z, le-ltb code KINDLESS h) refl

  pub looks-by : {y w f : ℕ} (ks : List ℕ) → code < KINDLESS → take n ks ≡ kinds_in code n → y ≡ searched_at s t own p (take n ks) → f ≡ s ! (p + 3) → w ≡ versions_of (program_in s t) f → Looks (Search.Looked y w) s t b k own p
  unfolding looked_by kinds_by
  looks-by ks h e q o r z = rw (← registers, C z, lt-ltb code KINDLESS h, long, q, r, e, o) refl

-- ---- by the instruction

-- any other than a DISPATCH
no-looks : (P : Program) (S : State) (f : Frame) (level k : ℕ) (a d : List ℕ) → (k ≡ kind.DISPATCH → ⊥) → Search.Elsewhere ≡ search_by P S f level (read_by k a d)
unfolding search_by read_by long_in instr_by Rows
no-looks P S f level k a d other = go (is_short k)
  where
    go : (y : Bool) → Search.Elsewhere ≡ search_by P S f level (cond y (instr_by Form.Wide k a) (long_in k d))
    go true = choose-each (λ (j : Instr). Search.Elsewhere ≡ search_by P S f level j) k _ _ refl
        (λ h. refl, (λ h. refl, (λ h. refl, (λ h. refl, (λ h. refl, (λ h. refl, (λ h. refl, (λ h. refl, (λ h. refl, (λ h. refl, (λ h. refl, (λ h. refl, (λ h. refl, (λ h. refl, (λ h. refl, (λ h. refl, (λ h. refl, (λ h. absurd (other h), (λ h. refl, tt)))))))))))))))))))
    go false = choose-each (λ (j : Instr). Search.Elsewhere ≡ search_by P S f level j) k _ _ refl (λ h. refl, (λ h. refl, (λ h. absurd (other h), tt)))

module _ (s t b : List ℕ) (k own j : ℕ) {m : ℕ} (of : m ≡ t ! record_at j) where
  pub at_other : (m ≡ kind.DISPATCH → ⊥) → LooksAt Search.Elsewhere s t b k own j
  unfolding instr_in
  at_other h n = no-looks (program_in s t) (state_in b n) (frame_in b n k) (version_in s t own).level (t ! record_at j) _ _ (λ w. h (of ∙ w))

  pub at-dispatch : (x : Search) {p : ℕ} → m ≡ kind.DISPATCH → p ≡ place_in t j → Looks x s t b k own p → LooksAt x s t b k own j
  unfolding search_by
  at-dispatch x {p} h w L n = rw (dispatch-here s t j p (sym w) (sym of ∙ h)) (L n)

-- ---- by where a run stands

module _ (s t b : List ℕ) (k : ℕ) (a : Activation) (r : Number) (found : (u : List ℕ) → version_of u t r ≡ find_version (program_in u t) (b ! (32 * k + 24)) (b ! (32 * k + 25))) where
  pub in-nothing : r ≡ None → LooksIn Search.Elsewhere s t b k a
  unfolding here_by search_from ◌>>=◌ or_stuck frame_in
  in-nothing e n = rw (version-none s t (found s) e) refl

  module _ {own : ℕ} (e : r ≡ Some own) (o : BlockAt) (block : block_of s t o ≡ get_elem? (version_in s t own).blocks a.block) where
    pub in-no-block : o ≡ None → LooksIn Search.Elsewhere s t b k a
    unfolding here_by search_from ◌>>=◌ or_stuck at block_of frame_in
    in-no-block q n = rw (version-some s t (found s) e, ← block, q) refl

    module _ {i : ℕ} (q : o ≡ Some i) (y : Optional Next) (next : (u : List ℕ) → next_of u t y ≡ position (take INSTRUCTIONS (block_in u t i).code) a.next) where
      by-position : (n : List ℤ) → search_from (program_in s t) (state_in b n) (here_by (program_in s t) a (frame_in b n k)) ≡ search_at (program_in s t) (state_in b n) (frame_in b n k) (version_in s t own).level (next_of s t y)
      unfolding here_by search_from ◌>>=◌ or_stuck at block_of frame_in position_of
      by-position n = rw (version-some s t (found s) e, ← block, q, next s) refl

      pub in_end : y ≡ Some Next.End → LooksIn Search.Elsewhere s t b k a
      unfolding search_at next_of
      in_end z n = rw (by-position n, z) refl

      pub in-outside : y ≡ None → LooksIn Search.Elsewhere s t b k a
      unfolding search_at next_of
      in-outside z n = rw (by-position n, z) refl

      pub in-line : {j : ℕ} → y ≡ Some (Next.Line j) → (x : Search) → LooksAt x s t b k own j → LooksIn x s t b k a
      unfolding search_at next_of
      in-line z x L n = rw (by-position n, z) (L n)

-- ---- the state

module _ (s t b : List ℕ) {d : ℕ} (z : d ≡ b ! DEPTH) where
  pub no-depth : d ≡ 0 → Observes Search.Elsewhere s t b
  unfolding search_of search_from here live_activations at or_stuck ◌>>=◌ state_in
  no-depth h n = rw (take_none (up_to (activation_in b) 0 32) (b ! DEPTH) (b ! DEPTH - 1) (omega arith)) refl

  pub too-deep : 32 < d → Observes Search.Elsewhere s t b
  unfolding search_of search_from here live_activations at or_stuck ◌>>=◌ state_in
  too-deep h n = rw (none-taken (up_to (activation_in b) 0 32) (b ! DEPTH) (b ! DEPTH - 1) (missing-up_to (activation_in b) 32 (b ! DEPTH - 1) (omega arith))) refl

  module _ (l : d ≡ 0 → ⊥) (m : d ≤ 32) {a : Activation} (top : a ≡ activation_in b (d - 1)) {k : ℕ} (e : k ≡ a.frame) (x : Bool) (lives : Lives x b k) where
    on-top : (n : List ℤ) → at (live_activations (state_in b n)) (b ! DEPTH - 1) ≡ got a
    unfolding live_activations at or_stuck state_in
    on-top n = rw (top, z, get_take (up_to (activation_in b) 0 32) (b ! DEPTH) (b ! DEPTH - 1) (omega arith), get_elem?-up_to (activation_in b) 32 (b ! DEPTH - 1) (omega arith)) refl

    pub not_live : x ≡ false → Observes Search.Elsewhere s t b
    unfolding search_of search_from here ◌>>=◌ Lives state_in
    not_live h n = let L = rw h at lives in rw (on-top n, ← e, L n) refl

    pub live-looks : (r : Search) → x ≡ true → LooksIn r s t b k a → Observes r s t b
    unfolding search_of here here_by ◌>>=◌ Lives state_in
    live-looks r h I n = let L = rw h at lives in I n ∙ sym (rw (on-top n, ap (at (live_frames (state_in b n))) (sym e) ∙ frame-live b n k L) refl)
