-- SKIP: the newest activation goes on at the next instruction, or behind the part that it passes over.
use mathlib.Core.Path.{◌≡◌, refl, sym, ap, ◌∙◌, subst}
use mathlib.Core.List.{List, [], ◌∷◌}
use mathlib.Core.Option.{some}
use mathlib.Core.Bool.{Bool, true, false, cond}
use Prim.Native.Nat.{ℕ, zero, suc, ◌+◌, ◌-◌, ◌<◌}
use native.Mathlib.Omega.{arith}
use lib.ListN.{length, get_or, get_elem?, take, set, length-set}
use borrow.Author.Tests.{le-leb}
use Rattle.layout.specs.Bounds.{INSTRUCTIONS}
use Rattle.layout.proofs.Lists.{get-some, get_take}
use Rattle.sets.specs.Sets.{has, those}
use Rattle.program.specs.Program.{Instr, SKIP, Line, Version, Program}
use Rattle.program.specs.Questions.{exists}
use Rattle.rules.specs.Actions.{Action, ∅, reading, touch, action_of, skip_of}
use Rattle.rules.specs.Walks.{entered, skips_of}
use Rattle.rules.proofs.Follows.{has-empty}
use Rattle.rules.proofs.Touches.{has-those}
use Rattle.rules.proofs.Prefixes.{Lands, lands}
use Rattle.rules.proofs.Needs.{Needed, beyond as behind-part}
use Rattle.rules.proofs.Fitted.{skip-fits, skip-touches}
use Rattle.checker.proofs.Limits.{code-few}
use Rattle.machine.specs.Try.{got}
use Rattle.machine.specs.Values.{is_zero}
use Rattle.machine.specs.States.{live_activations, with_stack}
use Rattle.machine.specs.Calls.{skipped}
use Rattle.machine.specs.Steps.{execute_to}
use Rattle.machine.specs.declared.Activation.{Activation}
use Rattle.machine.specs.declared.State.{State}
use Rattle.machine.proofs.Tries.{at_some}
use Rattle.soundness.proofs.Invariant.{Sure, version_at, block_at, every, top, Gets, awaited, Stack, no_activation, stack_of, Inv}
use Rattle.soundness.proofs.Progress.{Good, good, good-got, good-test}
use Rattle.soundness.proofs.Types.{clash}
use Rattle.soundness.proofs.Heap.{ext_same}
use Rattle.soundness.proofs.Stacks.{stack_top}
use Rattle.soundness.proofs.Standing.{At, moved, keep_on, checked-version, there, place_in, meets, operand, heap-on, onward, onward-to, under-on, stack-on}
use Rattle.soundness.proofs.Operands.{fits-i, exists-i, integer-got}
use Rattle.soundness.proofs.Plain.{Stepped}

-- a stack that is not empty
top-is : (l : List Activation) (d : ℕ) (x : Activation) (rest : List Activation) → stack_of l d ≡ x ∷ rest → (h : ℕ) × (d ≡ suc h) × (get_or l h no_activation ≡ x) × (stack_of l h ≡ rest)
unfolding stack_of
top-is l zero x rest e = let z : ◌≡◌ {A = ℕ} 0 1 = cc in absurd (omega arith)
top-is l (suc h) x rest e = (h, refl, cc, cc)

module _ (P : Program) (sure : Sure P) (s : State) (a : Activation) (rest : List Activation) (l : Line) (W : At P s a rest l) (c n : ℕ) (is : l.does ≡ SKIP c n) where
  abbrev X : Version
  X = version_at P s.frames a.frame

  -- it reads its register, and nothing else
  now-is : (meets P sure s a rest l W).now ≡ record { R = those 16 (c ∷ []); W = ∅; U = ∅; C = ∅ }
  unfolding action_of
  now-is = go (sym (ap (λ (x : Instr). action_of (entered P X a.block) (touch P x)) is ∙ ap (action_of (entered P X a.block)) (skip-touches P c n)) ∙ (meets P sure s a rest l W).is-now)
    where
      go : {x : Action} → reading (c ∷ []) ≡ some x → x ≡ record { R = those 16 (c ∷ []); W = ∅; U = ∅; C = ∅ }
      go e = cc

  no-assign : (r : ℕ) → has (meets P sure s a rest l W).now.W r ≡ true → ⊥
  no-assign r h = clash h (ap (λ (x : Action). has x.W r) now-is ∙ has-empty 16 r)

  -- on at the next instruction
  next-inv : Inv P s
  unfolding Gets
  next-inv = record {
    keep = keep_on a.block W.keep a.frame (meets P sure s a rest l W).next;
    heap = heap-on P sure s a rest l W (meets P sure s a rest l W).next (meets P sure s a rest l W).joins W.heap;
    vectors = W.vectors;
    room = W.room;
    deep = W.deep;
    stack = λ _. rw W.stacked (stack-on P sure s a rest l W s.frames refl (ext_same _ every s.frames) (onward P sure s a rest l W s.frames top refl tt (λ r h. absurd (no-assign r h)) (λ r _ g. g)));
  }

  -- on behind the part
  landing : Lands P (version_at P s.frames a.frame) a.block (block_at (version_at P s.frames a.frame) a.block) a.next n (meets P sure s a rest l W).behind
  unfolding skip_of
  landing = lands W.stands.does a.next n l W.stands.done W.line (ap (skips_of P) is ∙ ap skip_of (skip-touches P c n)) (meets P sure s a rest l W)

  -- where the activation stands then
  abbrev beyond : Activation
  beyond = record { opener = a.opener; d = a.d; frame = a.frame; block = a.block; next = a.next + 1 + n }

  stacked-far : (h : ℕ) → s.depth ≡ suc h → stack_of s.activations h ≡ rest → stack_of (set s.activations (s.depth - 1) (record { opener = a.opener; d = a.d; frame = a.frame; block = a.block; next = a.next + 1 + n })) s.depth ≡ beyond ∷ rest
  stacked-far h e q =
      let m : s.depth - 1 ≡ h = omega (arith, e) in
      ap (λ (i : ℕ). stack_of (set s.activations i beyond) s.depth) m ∙ ap (stack_of (set s.activations h beyond)) e ∙ stack_top s.activations h beyond (omega (arith, e, W.room, W.deep)) ∙ ap (λ (l : List Activation). beyond ∷ l) q

  -- what is needed there is needed here
  back : (r : ℕ) → has (meets P sure s a rest l W).now.W r ≡ false → Needed P (version_at P s.frames a.frame) a.block (block_at (version_at P s.frames a.frame) a.block) r (a.next + 1 + n) → Needed P (version_at P s.frames a.frame) a.block (block_at (version_at P s.frames a.frame) a.block) r a.next
  unfolding skip_of
  back r w k = behind-part a.next n l (meets P sure s a rest l W).now W.line (meets P sure s a rest l W).is-now w (ap (skips_of P) is ∙ ap skip_of (skip-touches P c n)) k

  far-stack : Stack P (keep_on a.block W.keep a.frame landing.far) s.frames top s.calls (record { opener = a.opener; d = a.d; frame = a.frame; block = a.block; next = a.next + 1 + n } ∷ rest)
  unfolding Stack awaited Gets
  far-stack = (
    onward-to P sure s a rest l W (a.next + 1 + n) landing.far landing.joins landing.inside landing.is-far back s.frames top refl tt (λ r g. absurd (no-assign r g)) (λ r _ g. g),
    W.opened,
    under-on P sure s a rest l W landing.far landing.joins s.frames refl (ext_same _ every s.frames),
  )

  far-inv : (h : ℕ) → s.depth ≡ suc h → stack_of s.activations h ≡ rest → Inv P (with_stack s s.frames s.calls (set s.activations (s.depth - 1) (record { opener = a.opener; d = a.d; frame = a.frame; block = a.block; next = a.next + 1 + n })) s.depth)
  unfolding with_stack
  far-inv h e q = record {
    keep = keep_on a.block W.keep a.frame landing.far;
    heap = heap-on P sure s a rest l W landing.far landing.joins W.heap;
    vectors = W.vectors;
    room = length-set s.activations (s.depth - 1) _ ∙ W.room;
    deep = W.deep;
    stack = λ _. subst (Stack P (keep_on a.block W.keep a.frame landing.far) s.frames top s.calls) (sym (stacked-far h e q)) far-stack;
  }

  skips : Good (Inv P) (skipped s n)
  unfolding skipped live_activations
  skips =
      let t = top-is s.activations s.depth (moved a) rest W.stacked in
      let m : s.depth - 1 ≡ t.0 = omega (arith, t.1) in
      let room : t.0 < length s.activations = omega (arith, t.1, W.room, W.deep) in
      let few = code-few P X (checked-version P sure s a rest l W) a.block _ (there P sure s a rest l W) in
      good-got (Inv P) _ (moved a) _ (at_some (take s.depth s.activations) (s.depth - 1) (moved a) (ap (get_elem? (take s.depth s.activations)) m ∙ get_take s.activations s.depth t.0 (omega (arith, t.1)) ∙ get-some s.activations t.0 no_activation room ∙ ap some t.2))
      (good-test (Inv P) _ _ (le-leb (a.next + 1 + n) INSTRUCTIONS (omega (arith, landing.inside, few))) (good (Inv P) _ _ refl (far-inv t.0 t.1 t.3)))

  either_way : (b : Bool) → Good (Inv P) (cond b (skipped s n) (got s))
  either_way true = skips
  either_way false = good (Inv P) _ s refl next-inv

  pub skip_step : Stepped P sure s a rest l W (SKIP c n)
  unfolding execute_to exists
  skip_step =
      let e = exists-i P sure s a rest l W _ is in
      let z = integer-got P sure s a rest l W _ is c e (operand P sure s a rest l W c (ap (λ (x : Action). has x.R c) now-is ∙ has-those 16 (c ∷ []) 0 c (place_in P sure s a rest l W c e) refl)) (skip-fits P X a.block c n (fits-i P sure s a rest l W _ is)) in
      good-got (Inv P) _ z.0 _ z.1 (either_way (is_zero z.0))
