-- A run that may have so many vectors never has more; with 64 it is the machine's own; it differs from that only by stopping with VECTORS.
use mathlib.Core.Path.{◌≡◌, refl, sym, ap, ◌∙◌, fun_ext}
use mathlib.Core.Logic.{◌≢◌, ◌⊎◌, inl, inr}
use mathlib.Core.List.{List}
use mathlib.Core.Bool.{Bool, true, false, cond, false≢true, true≢false}
use Prim.Native.Nat.{ℕ, zero, suc, ◌+◌, ◌≤◌, ◌<◌}
use native.Mathlib.Decide.{ℕ_discrete}
use native.Mathlib.Omega.{arith}
use lib.IntN.{ℤ}
use lib.Dec.{leb}
use borrow.Author.Tests.{leb-true, leb-false, eqb-true}
use Rattle.layout.specs.Tests.{◌and◌}
use Rattle.layout.proofs.Bools.{and_both}
use Rattle.program.specs.Program.{Instr, LIT, MOVE, USE, DUP, VEC, LEN, GET, SET, ARITH, SELECT, CAST, NAMED, STORE, PROM, FORCE, PEEK, POKE, CALL, DISPATCH, SKIP, Version, Program, find_version}
use Rattle.machine.specs.Try.{Try, got, stuck, stop, ◌>>=◌, or_stuck, at, each}
use Rattle.machine.specs.States.{VECTORS, live_activations, live_frames, value, integer, vector, is_vector, vector_counts, free, free_vector, new_vector, with_stack, with_vector, with_end, assign}
use Rattle.machine.specs.Calls.{passed}
use Rattle.machine.specs.Steps.{execute, execute_to, Here, here, Position, instruction, block_end, outside, position_of, proceed, proceed_to, advance, advance_to}
use Rattle.machine.specs.Runs.{settled, step_in, step_in_to, step_of, step_of_to, continued, run_from, run_from_to, budget_in, budget_in_to, long_enough, budget_of, budget_of_to}
use Rattle.machine.specs.declared.Activation.{Activation}
use Rattle.machine.specs.declared.Answer.{Answer}
use Rattle.machine.specs.declared.End.{End}
use Rattle.machine.specs.declared.Frame.{Frame}
use Rattle.machine.specs.declared.Ran.{Ran}
use Rattle.machine.specs.declared.Said.{Said}
use Rattle.machine.specs.declared.State.{State}
use Rattle.machine.specs.declared.Status.{Status}
use Rattle.machine.specs.declared.Value.{Value}
use Rattle.machine.specs.declared.Vector.{Vector}
use Rattle.runs.proofs.Keeps.{Gives, gives_then, gives_after, gives-got}
use Rattle.machine.specs.Allowed.{counting, vectors_in, is_got, needs_vector, execute_with, proceed_with, advance_with, step_in_with, step_with, run_with, budget_in_with, budget_with}
use Rattle.machine.proofs.Counting.{all-count, counting-most}
use Rattle.machine.proofs.Within.{makes}
use Rattle.runs.proofs.Fewer.{Few, execute-few, make-few, finish-few, same-few, value_in, live-counts}

-- ---- counting

-- where each that counts now counted before
counting-from : (c d : ℕ → Bool) (n i : ℕ) → ((j : ℕ) → i ≤ j → d j ≡ true → c j ≡ true) → counting d n i ≤ counting c n i
unfolding counting
counting-from c d zero i h = omega arith
counting-from c d (suc n) i h = go (d i) (c i) refl refl (counting-from c d n (suc i) (λ j l. h j (omega arith)))
  where
    go : (x y : Bool) → d i ≡ x → c i ≡ y → counting d n (suc i) ≤ counting c n (suc i) → cond x 1 0 + counting d n (suc i) ≤ cond y 1 0 + counting c n (suc i)
    go true true p q ih = omega arith
    go true false p q ih = absurd (true≢false (sym (h i (omega arith) p) ∙ q))
    go false true p q ih = omega arith
    go false false p q ih = omega arith

-- or is the place m
counting-one : (c d : ℕ → Bool) (m n i : ℕ) → ((j : ℕ) → d j ≡ true → (j ≡ m) ⊎ (c j ≡ true)) → counting d n i ≤ counting c n i + 1
unfolding counting
counting-one c d m zero i h = omega arith
counting-one c d m (suc n) i h = go (ℕ_discrete i m) (counting-one c d m n (suc i) h)
  where
    other : (j : ℕ) → j ≢ m → (j ≡ m) ⊎ (c j ≡ true) → c j ≡ true
    other j e (inl q) = absurd (e q)
    other j e (inr q) = q

    same : (x y : Bool) → counting d n (suc i) ≤ counting c n (suc i) → cond x 1 0 + counting d n (suc i) ≤ cond y 1 0 + counting c n (suc i) + 1
    same true true ih = omega arith
    same true false ih = omega arith
    same false true ih = omega arith
    same false false ih = omega arith

    next : (x y : Bool) → d i ≡ x → c i ≡ y → i ≢ m → counting d n (suc i) ≤ counting c n (suc i) + 1 → cond x 1 0 + counting d n (suc i) ≤ cond y 1 0 + counting c n (suc i) + 1
    next true true p q e ih = omega arith
    next true false p q e ih = absurd (true≢false (sym (other i e (h i p)) ∙ q))
    next false true p q e ih = omega arith
    next false false p q e ih = omega arith

    go : Dec (i ≡ m) → counting d n (suc i) ≤ counting c n (suc i) + 1 → cond (d i) 1 0 + counting d n (suc i) ≤ cond (c i) 1 0 + counting c n (suc i) + 1
    go (yes e) ih = same (d i) (c i) (counting-from c d n (suc i) (λ j l q. other j (λ z. absurd (omega (arith, e, z))) (h j q)))
    go (no e) ih = next (d i) (c i) refl refl e ih

pub vectors-most : (s : State) → vectors_in s ≤ VECTORS
unfolding vectors_in
vectors-most s = counting-most (vector_counts s) VECTORS 0

-- ---- the vectors of a state

-- it holds of every place
fewer-in : (s t : State) → ((v : ℕ) → Few v s t) → vectors_in t ≤ vectors_in s
unfolding vectors_in
fewer-in s t h = counting-from (vector_counts s) (vector_counts t) VECTORS 0 (λ j _. h j)

same_in : (s t : State) → t.frames ≡ s.frames → t.calls ≡ s.calls → vectors_in t ≤ vectors_in s
same_in s t e f = fewer-in s t (λ v. same-few v s t e f)

is-place : (v n : ℕ) → is_vector v (Value.Vector n) ≡ true → v ≡ n
unfolding is_vector
is-place v n h = eqb-true v n h

got-is : {A : Type 0} {x y : A} → got x ≡ got y → x ≡ y
got-is e = cc

-- what has a result has those of its parts
got-first : {A B : Type 0} (o : Try A) (g : A → Try B) (b : B) → (o >>= g) ≡ got b → is_got o ≡ true
unfolding is_got ◌>>=◌
got-first (got a) g b e = refl
got-first stuck g b e = let z : ◌≡◌ {A = ℕ} 0 1 = cc in absurd (omega arith)
got-first (stop x) g b e = let z : ◌≡◌ {A = ℕ} 0 1 = cc in absurd (omega arith)

got-both : {A B C : Type 0} (o : Try A) (g : A → Try B) (h : A → B → Try C) (b : C) → (o >>= λ (x : A). g x >>= λ (y : B). h x y) ≡ got b → is_got (o >>= g) ≡ true
unfolding is_got ◌>>=◌
got-both (got a) g h b e = got-first (g a) (h a) b e
got-both stuck g h b e = let z : ◌≡◌ {A = ℕ} 0 1 = cc in absurd (omega arith)
got-both (stop x) g h b e = let z : ◌≡◌ {A = ℕ} 0 1 = cc in absurd (omega arith)

module _ (P : Program) (s : State) (k : ℕ) (f : Frame) (W : Version) (live : at (live_frames s) k ≡ got f) where
  -- no more by other instructions
  keeps-count : (i : Instr) (t : State) → makes i ≡ false → execute P s k f W i ≡ got t → vectors_in t ≤ vectors_in s
  keeps-count i t n e = fewer-in s t (λ v. gives-got (Few v s) (execute P s k f W i) t (execute-few v P s k f W live i n) e)

  -- one more by VEC or DUP
  makes-count : (i : Instr) (t : State) → makes i ≡ true → execute P s k f W i ≡ got t → vectors_in t ≤ vectors_in s + 1
  unfolding vectors_in
  makes-count i t n e =
      let m = gives-got _ (execute P s k f W i) t (make-few 0 P s k f W live i n) e in
      counting-one (vector_counts s) (vector_counts t) m.0 VECTORS 0 (λ j h. go j (gives-got _ (execute P s k f W i) t (make-few j P s k f W live i n) e) m.0 m.1 h)
    where
      go : (j : ℕ) → ((n : ℕ) × (free_vector s ≡ got n) × (vector_counts t j ≡ true → (is_vector j (Value.Vector n) ≡ true) ⊎ (vector_counts s j ≡ true))) → (p : ℕ) → free_vector s ≡ got p → vector_counts t j ≡ true → (j ≡ p) ⊎ (vector_counts s j ≡ true)
      go j x p q h = ways (x.2 h)
        where
          ways : (is_vector j (Value.Vector x.0) ≡ true) ⊎ (vector_counts s j ≡ true) → (j ≡ p) ⊎ (vector_counts s j ≡ true)
          ways (inl y) = inl (is-place j x.0 y ∙ got-is (sym x.1 ∙ q))
          ways (inr y) = inr y

  -- an instruction that made one needed one
  needed : (i : Instr) (t : State) → makes i ≡ true → execute P s k f W i ≡ got t → needs_vector s.vectors f i ≡ true
  unfolding makes needs_vector execute_to
  needed (LIT d i) t n e = absurd (false≢true n)
  needed (MOVE d a) t n e = absurd (false≢true n)
  needed (USE d a) t n e = absurd (false≢true n)
  needed (DUP d a) t n e = got-both (vector f a) (λ (w : ℕ). at s.vectors w) (λ (w : ℕ) (y : Vector). free_vector s >>= λ (m : ℕ). assign (with_vector s m y) k d (Value.Vector m)) t e
  needed (VEC d rs) t n e = got-first (each (integer f) rs) (λ (xs : List ℤ). free_vector s >>= λ (m : ℕ). assign (with_vector s m (new_vector xs)) k d (Value.Vector m)) t e
  needed (LEN d a) t n e = absurd (false≢true n)
  needed (GET d a i) t n e = absurd (false≢true n)
  needed (SET a i x) t n e = absurd (false≢true n)
  needed (ARITH d op a b) t n e = absurd (false≢true n)
  needed (SELECT d c a b) t n e = absurd (false≢true n)
  needed (CAST d a) t n e = absurd (false≢true n)
  needed (NAMED d y) t n e = absurd (false≢true n)
  needed (STORE y a) t n e = absurd (false≢true n)
  needed (PROM d block) t n e = absurd (false≢true n)
  needed (FORCE d a) t n e = absurd (false≢true n)
  needed (PEEK d a y) t n e = absurd (false≢true n)
  needed (POKE a y x) t n e = absurd (false≢true n)
  needed (CALL d g w rs) t n e = absurd (false≢true n)
  needed (DISPATCH d g mark ret pairs) t n e = absurd (false≢true n)
  needed (SKIP a m) t n e = absurd (false≢true n)

  -- THE LAW of a cap, for an instruction
  capped : (most : ℕ) (i : Instr) (t : State) → vectors_in s ≤ most → execute_with most P s k f W i ≡ got t → vectors_in t ≤ most
  unfolding execute_with ◌and◌
  capped most i t h e = go (makes i) refl (needs_vector s.vectors f i and leb most (vectors_in s)) refl e
    where
      go : (m : Bool) → makes i ≡ m → (b : Bool) → (needs_vector s.vectors f i and leb most (vectors_in s)) ≡ b → ◌≡◌ {A = Try State} (elim b [ true ↦ stop End.Vectors | false ↦ execute P s k f W i ]) (got t) → vectors_in t ≤ most
      go m n true p q = let z : ◌≡◌ {A = ℕ} 0 1 = cc in absurd (omega arith)
      go false n false p q = omega (arith, h, keeps-count i t n q)
      go true n false p q = omega (arith, makes-count i t n q, below (leb most (vectors_in s)) refl)
        where
          below : (x : Bool) → leb most (vectors_in s) ≡ x → vectors_in s < most
          below true y = absurd (true≢false (sym (rw (needed i t n q, y) refl) ∙ p))
          below false y = leb-false most (vectors_in s) y

-- ---- a step

-- a block end adds none
end-count : (P : Program) (s : State) (h : Here) (t : State) → at (live_frames s) h.activation.frame ≡ got h.frame → proceed P s h block_end ≡ got t → vectors_in t ≤ vectors_in s
unfolding proceed_to
end-count P s h t live e = fewer-in s t (λ v. gives-got (Few v s) (proceed P s h block_end) t
    (gives_after _ _ (value h.frame h.block.result) _ (value_in v h.frame h.block.result) (λ x i. finish-few v P s h.activation h.version x h.activation.opener (λ q. live-counts v s h.activation.frame h.frame live (i q)))) e)

-- where a run stands, its frame is live
here-live : (P : Program) (s : State) → Gives (λ (h : Here). at (live_frames s) h.activation.frame ≡ got h.frame) (here P s)
unfolding here Gives
here-live P s = gives_then _ (at (live_activations s) _) _ (λ a _. gives_then _ (at (live_frames s) a.frame) _ (λ f e. gives_then _ (or_stuck (find_version P f.function f.version)) _ (λ W _. gives_then _ (at W.blocks a.block) _ (λ B _. e))))

passed-live : (s : State) (a : Activation) (k : ℕ) → at (live_frames (passed s a)) k ≡ at (live_frames s) k
unfolding live_frames passed with_stack
passed-live s a k = refl

passed-in : (s : State) (a : Activation) → vectors_in (passed s a) ≤ vectors_in s
unfolding passed with_stack
passed-in s a = same_in s _ refl refl

proceed-count : (most : ℕ) (P : Program) (s : State) (h : Here) (p : Position) (t : State) → at (live_frames s) h.activation.frame ≡ got h.frame → vectors_in s ≤ most → proceed_with most P s h p ≡ got t → vectors_in t ≤ most
unfolding proceed_with proceed_to
proceed-count most P s h (instruction i) t live l e = capped P (passed s h.activation) h.activation.frame h.frame h.version (passed-live s h.activation h.activation.frame ∙ live) most i t (omega (arith, l, passed-in s h.activation)) e
proceed-count most P s h block_end t live l e = omega (arith, l, end-count P s h t live e)
proceed-count most P s h outside t live l e = let z : ◌≡◌ {A = ℕ} 0 1 = cc in absurd (omega arith)

gives-every : (Q : State → Type 0) (o : Try State) → ((u : State) → o ≡ got u → Q u) → Gives Q o
unfolding Gives
gives-every Q (got u) f = f u refl
gives-every Q stuck f = tt
gives-every Q (stop x) f = tt

-- THE LAW of a cap: a step never has more than it may have
pub advance-count : (most : ℕ) (P : Program) (s t : State) → vectors_in s ≤ most → advance_with most P s ≡ got t → vectors_in t ≤ most
unfolding advance_with
advance-count most P s t l e = gives-got (λ (u : State). vectors_in u ≤ most) (advance_with most P s) t (gives_after _ _ (here P s) _ (here-live P s) (λ h live. counted h live)) e
  where
    counted : (h : Here) → at (live_frames s) h.activation.frame ≡ got h.frame → Gives (λ (u : State). vectors_in u ≤ most) (proceed_with most P s h (position_of h))
    counted h live = gives-every (λ (u : State). vectors_in u ≤ most) (proceed_with most P s h (position_of h)) (λ u q. proceed-count most P s h (position_of h) u live l q)

-- ---- single steps and budgets

end-frames : (s : State) (e : End) → (with_end s s.result e).frames ≡ s.frames
unfolding with_end
end-frames s e = refl

end-calls : (s : State) (e : End) → (with_end s s.result e).calls ≡ s.calls
unfolding with_end
end-calls s e = refl

settled-count : (most : ℕ) (s : State) (o : Try State) → vectors_in s ≤ most → ((t : State) → o ≡ got t → vectors_in t ≤ most) → vectors_in (settled s o).state ≤ most
unfolding settled with_end
settled-count most s (got t) l f = f t refl
settled-count most s stuck l f = l
settled-count most s (stop e) l f = omega (arith, l, same_in s (with_end s s.result e) (end-frames s e) (end-calls s e))

module _ (most : ℕ) (P : Program) where
  pub step_count : (s : State) → vectors_in s ≤ most → vectors_in (step_with most P s).state ≤ most
  unfolding step_with step_in_with
  step_count s l = go s.status
    where
      go : (st : Status) → vectors_in (step_in_with most P s st).state ≤ most
      go Status.Running = settled-count most s (advance_with most P s) l (λ t e. advance-count most P s t l e)
      go (Status.Ended e) = l

  continued-count : (s : State) (d : Said) (n : ℕ) (more : State → Ran) → vectors_in s ≤ most → ((t : State) → vectors_in t ≤ most → vectors_in (more t).state ≤ most) → vectors_in (continued s d n more).state ≤ most
  unfolding continued
  continued-count s Said.GoesOn n more l ih = ih s l
  continued-count s (Said.Ended e) n more l ih = l
  continued-count s Said.Stuck n more l ih = l

  run-count : (m : ℕ) (s : State) (n : ℕ) → vectors_in s ≤ most → vectors_in (run_with most P m s n).state ≤ most
  unfolding run_with
  run-count zero s n l = l
  run-count (suc m) s n l = continued-count (step_with most P s).state (step_with most P s).said n (λ t. run_with most P m t (n + 1)) (step_count s l) (λ t i. run-count m t (n + 1) i)

  pub budget-count : (s : State) (n : ℕ) (buffer : List ℤ) → vectors_in s ≤ most → vectors_in (budget_with most P s n buffer).state ≤ most
  unfolding budget_with budget_in_with
  budget-count s n buffer l = go (long_enough buffer) refl
    where
      under : (st : Status) → vectors_in (budget_in_with most P s n st).state ≤ most
      under Status.Running = run-count n s 0 l
      under (Status.Ended e) = l

      go : (b : Bool) → long_enough buffer ≡ b → vectors_in (budget_with most P s n buffer).state ≤ most
      go true e = rw (e, budget_with) (under s.status)
      go false e = rw (e, budget_with) l

-- ---- in company, only when VECTORS comes may differ

-- a capped instruction, and a capped step, is the machine's own, or stops with VECTORS
execute-or : (most : ℕ) (P : Program) (s : State) (k : ℕ) (f : Frame) (W : Version) (i : Instr) → (execute_with most P s k f W i ≡ execute P s k f W i) ⊎ (execute_with most P s k f W i ≡ stop End.Vectors)
unfolding execute_with
execute-or most P s k f W i = go (needs_vector s.vectors f i and leb most (vectors_in s))
  where
    go : (b : Bool) → (◌≡◌ {A = Try State} (elim b [ true ↦ stop End.Vectors | false ↦ execute P s k f W i ]) (execute P s k f W i)) ⊎ (◌≡◌ {A = Try State} (elim b [ true ↦ stop End.Vectors | false ↦ execute P s k f W i ]) (stop End.Vectors))
    go true = inr refl
    go false = inl refl

pub own-or-vectors : (most : ℕ) (P : Program) (s : State) → (advance_with most P s ≡ advance P s) ⊎ (advance_with most P s ≡ stop End.Vectors)
unfolding advance_with advance_to proceed_with proceed_to ◌>>=◌
own-or-vectors most P s = go (here P s)
  where
    at_place : (h : Here) (p : Position) → (proceed_with most P s h p ≡ proceed P s h p) ⊎ (proceed_with most P s h p ≡ stop End.Vectors)
    at_place h (instruction i) = execute-or most P (passed s h.activation) h.activation.frame h.frame h.version i
    at_place h block_end = inl refl
    at_place h outside = inl refl

    go : (o : Try Here) → ((o >>= λ (h : Here). proceed_with most P s h (position_of h)) ≡ (o >>= λ (h : Here). proceed P s h (position_of h))) ⊎ ((o >>= λ (h : Here). proceed_with most P s h (position_of h)) ≡ stop End.Vectors)
    go (got h) = at_place h (position_of h)
    go stuck = inl refl
    go (stop e) = inl refl

-- ---- alone: with 64 it is the machine's own

stop-first : {A B : Type 0} (o : Try A) (g : A → Try B) (e : End) → is_got o ≡ true → ((x : A) → g x ≡ stop e) → (o >>= g) ≡ stop e
unfolding is_got ◌>>=◌
stop-first (got a) g e h f = f a
stop-first stuck g e h f = absurd (false≢true h)
stop-first (stop x) g e h f = absurd (false≢true h)

stop-both : {A B C : Type 0} (o : Try A) (g : A → Try B) (k : A → B → Try C) (e : End) → is_got (o >>= g) ≡ true → ((x : A) (y : B) → k x y ≡ stop e) → (o >>= λ (x : A). g x >>= λ (y : B). k x y) ≡ stop e
unfolding is_got ◌>>=◌
stop-both (got a) g k e h f = stop-first (g a) (k a) e h (f a)
stop-both stuck g k e h f = absurd (false≢true h)
stop-both (stop x) g k e h f = absurd (false≢true h)

none_free : (s : State) → VECTORS ≤ vectors_in s → free_vector s ≡ stop End.Vectors
unfolding vectors_in free_vector
none_free s h = all-count End.Vectors (vector_counts s) VECTORS 0 h

stop-bind : {A B : Type 0} (o : Try A) (g : A → Try B) (e : End) → o ≡ stop e → (o >>= g) ≡ stop e
unfolding ◌>>=◌
stop-bind o g e h = rw h refl

full-stops : (P : Program) (s : State) (k : ℕ) (f : Frame) (W : Version) (i : Instr) → needs_vector s.vectors f i ≡ true → VECTORS ≤ vectors_in s → execute P s k f W i ≡ stop End.Vectors
unfolding needs_vector execute_to
full-stops P s k f W (LIT d i) n h = absurd (false≢true n)
full-stops P s k f W (MOVE d a) n h = absurd (false≢true n)
full-stops P s k f W (USE d a) n h = absurd (false≢true n)
full-stops P s k f W (DUP d a) n h = stop-both (vector f a) (λ (w : ℕ). at s.vectors w) (λ (w : ℕ) (y : Vector). free_vector s >>= λ (m : ℕ). assign (with_vector s m y) k d (Value.Vector m)) End.Vectors n (λ w y. stop-bind (free_vector s) _ End.Vectors (none_free s h))
full-stops P s k f W (VEC d rs) n h = stop-first (each (integer f) rs) (λ (xs : List ℤ). free_vector s >>= λ (m : ℕ). assign (with_vector s m (new_vector xs)) k d (Value.Vector m)) End.Vectors n (λ xs. stop-bind (free_vector s) _ End.Vectors (none_free s h))
full-stops P s k f W (LEN d a) n h = absurd (false≢true n)
full-stops P s k f W (GET d a i) n h = absurd (false≢true n)
full-stops P s k f W (SET a i x) n h = absurd (false≢true n)
full-stops P s k f W (ARITH d op a b) n h = absurd (false≢true n)
full-stops P s k f W (SELECT d c a b) n h = absurd (false≢true n)
full-stops P s k f W (CAST d a) n h = absurd (false≢true n)
full-stops P s k f W (NAMED d y) n h = absurd (false≢true n)
full-stops P s k f W (STORE y a) n h = absurd (false≢true n)
full-stops P s k f W (PROM d block) n h = absurd (false≢true n)
full-stops P s k f W (FORCE d a) n h = absurd (false≢true n)
full-stops P s k f W (PEEK d a y) n h = absurd (false≢true n)
full-stops P s k f W (POKE a y x) n h = absurd (false≢true n)
full-stops P s k f W (CALL d g w rs) n h = absurd (false≢true n)
full-stops P s k f W (DISPATCH d g mark ret pairs) n h = absurd (false≢true n)
full-stops P s k f W (SKIP a m) n h = absurd (false≢true n)

execute-64 : (P : Program) (s : State) (k : ℕ) (f : Frame) (W : Version) (i : Instr) → execute_with VECTORS P s k f W i ≡ execute P s k f W i
unfolding execute_with
execute-64 P s k f W i = go (needs_vector s.vectors f i and leb VECTORS (vectors_in s)) refl
  where
    go : (b : Bool) → (needs_vector s.vectors f i and leb VECTORS (vectors_in s)) ≡ b → ◌≡◌ {A = Try State} (elim b [ true ↦ stop End.Vectors | false ↦ execute P s k f W i ]) (execute P s k f W i)
    go true e = let t = and_both (needs_vector s.vectors f i) (leb VECTORS (vectors_in s)) e in sym (full-stops P s k f W i t.0 (leb-true VECTORS (vectors_in s) t.1))
    go false e = refl

-- THE LAW: a step of a run that may have 64 is the machine's own
pub advance-64 : (P : Program) (s : State) → advance_with VECTORS P s ≡ advance P s
unfolding advance_with advance_to proceed_with proceed_to ◌>>=◌
advance-64 P s = go (here P s)
  where
    at_place : (h : Here) (p : Position) → proceed_with VECTORS P s h p ≡ proceed P s h p
    at_place h (instruction i) = execute-64 P (passed s h.activation) h.activation.frame h.frame h.version i
    at_place h block_end = refl
    at_place h outside = refl

    go : (o : Try Here) → (o >>= λ (h : Here). proceed_with VECTORS P s h (position_of h)) ≡ (o >>= λ (h : Here). proceed P s h (position_of h))
    go (got h) = at_place h (position_of h)
    go stuck = refl
    go (stop e) = refl

pub step-64 : (P : Program) (s : State) → step_with VECTORS P s ≡ step_of P s
unfolding step_with step_in_with step_of_to step_in_to
step-64 P s = go s.status
  where
    go : (st : Status) → step_in_with VECTORS P s st ≡ step_in P s st
    go Status.Running = ap (settled s) (advance-64 P s)
    go (Status.Ended e) = refl

run-64 : (P : Program) (m : ℕ) (s : State) (n : ℕ) → run_with VECTORS P m s n ≡ run_from P m s n
unfolding run_with run_from_to
run-64 P zero s n = refl
run-64 P (suc m) s n = rw (step-64 P s) (ap (continued (step_of P s).state (step_of P s).said n) (fun_ext (λ t. run-64 P m t (n + 1))))

pub in-64 : (P : Program) (s : State) (n : ℕ) (st : Status) → budget_in_with VECTORS P s n st ≡ budget_in P s n st
unfolding budget_in_with budget_in_to
in-64 P s n Status.Running = run-64 P n s 0
in-64 P s n (Status.Ended e) = refl

pub budget-64 : (P : Program) (s : State) (n : ℕ) (buffer : List ℤ) → budget_with VECTORS P s n buffer ≡ budget_of P s n buffer
unfolding budget_with budget_of_to
budget-64 P s n buffer = go (long_enough buffer)
  where
    go : (b : Bool) → ◌≡◌ {A = Ran} (elim b [ true ↦ budget_in_with VECTORS P s n s.status | false ↦ record { state = s; answer = Answer.Refused 13 0; steps = 0 } ]) (elim b [ true ↦ budget_in P s n s.status | false ↦ record { state = s; answer = Answer.Refused 13 0; steps = 0 } ])
    go true = in-64 P s n s.status
    go false = refl
