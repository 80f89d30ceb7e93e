-- What the parts of an instruction answered, as the machine's definitions say it.
use Rattle.std.specs.Prelude.{None, Some, Option}
use mathlib.Core.Path.{◌≡◌, refl, sym, ap, subst, ◌∙◌}
use Rattle.layout.specs.Found.{Found}
use mathlib.Core.Bool.{Bool, true, false}
use mathlib.Core.List.{List}
use Prim.Native.Nat.{ℕ, ◌<◌}
use native.Mathlib.Omega.{arith}
use lib.IntN.{ℤ, pos, negsuc}
use lib.Dec.{ltb}
use borrow.Author.Tests.{ltb-true}
use Rattle.machine.specs.States.{assign, free_promise, with_frame, with_register, with_stack}
use Rattle.machine.specs.Allowed.{free_within}
use Rattle.machine.specs.Values.{index}
use Rattle.machine.specs.Try.{Try, got, stuck, stop, ◌>>=◌, ◌>>◌, end_unless}
use Rattle.machine.specs.declared.End.{End}
use Rattle.machine.specs.declared.Frame.{Frame}
use Rattle.machine.specs.declared.State.{State}
use Rattle.machine.specs.declared.Value.{Value}
use Rattle.store.specs.Answers.{end_of, whole_of, found_of}
use Rattle.store.specs.declared.Did.{Did}
use Rattle.store.specs.declared.Halt.{Halt}
use Rattle.store.specs.Store.{frame_in, state_in, Live}
use Rattle.store.specs.Counts.{Counted, Frees, FreesVector}
use Rattle.store.specs.Acts.{Does, Narrow}
use Rattle.store.proofs.Counting.{free-promise}
use Rattle.store.proofs.Frames.{assign-in, frame-live}
use Rattle.store.proofs.InUse.{free-within}

-- ---- operands

pub whole_is : {r : Option ℤ} {t : Try ℤ} {x : ℤ} → whole_of r ≡ t → r ≡ Some x → t ≡ got x
unfolding whole_of
whole_is e h = sym e ∙ ap whole_of h

pub whole-stuck : {r : Option ℤ} {t : Try ℤ} → whole_of r ≡ t → r ≡ None → t ≡ stuck
unfolding whole_of
whole-stuck e h = sym e ∙ ap whole_of h

pub found-is : {r : Found} {t : Try ℕ} {x : ℕ} → found_of r ≡ t → r ≡ Some x → t ≡ got x
unfolding found_of
found-is e h = sym e ∙ ap found_of h

pub found-stuck : {r : Found} {t : Try ℕ} → found_of r ≡ t → r ≡ None → t ≡ stuck
unfolding found_of
found-stuck e h = sym e ∙ ap found_of h

pub narrow_at : {r : Found} {v : ℕ} → Narrow r → r ≡ Some v → v < 256
unfolding Narrow
narrow_at n e = rw e at n

inside : (n i j : ℕ) (b : Bool) → ltb i n ≡ b → (end_unless End.Undef b >> got i) ≡ got j → j < n
unfolding end_unless ◌>>◌
inside n i j true p e = let f : i ≡ j = cc in let g : i < n = ltb-true i n p in omega arith
inside n i j false p e = let z : ◌≡◌ {A = ℕ} 0 1 = cc in absurd (omega arith)

-- an index in range is below the length
pub index_below : (z : ℤ) (n j : ℕ) → index z n ≡ got j → j < n
unfolding index end_unless ◌>>◌
index_below (pos i) n j e = inside n i j (ltb i n) refl e
index_below (negsuc i) n j e = let z : ◌≡◌ {A = ℕ} 0 1 = cc in absurd (omega arith)

-- ---- free places

module _ (c : List ℕ) (s : State) (C : Counted c s) {r : Found} where
  pub vector-free : (most : ℕ) {v : ℕ} → FreesVector r c most → r ≡ Some v → (free_within most s ≡ got v) × (v < 64)
  unfolding FreesVector
  vector-free most F e = let G = rw e at F in (free-within c s C most ∙ G.0, G.1)

  pub vector-none : (most : ℕ) → FreesVector r c most → r ≡ None → free_within most s ≡ stop End.Vectors
  unfolding FreesVector
  vector-none most F e = let G = rw e at F in free-within c s C most ∙ G

  pub promise-free : {p : ℕ} → Frees r c 256 512 → r ≡ Some p → (free_promise s ≡ got p) × (p < 64)
  unfolding Frees
  promise-free F e = let G = rw e at F in (free-promise c s C ∙ G.0 End.Promises, G.1)

  pub promise-none : Frees r c 256 512 → r ≡ None → free_promise s ≡ stop End.Promises
  unfolding Frees
  promise-none F e = let G = rw e at F in free-promise c s C ∙ G End.Promises

-- ---- what was done

-- nothing
pub stays : {t : Try State} (b : List ℕ) (n : List ℤ) → t ≡ stuck → Does Did.Stuck t b n b n
unfolding Does
stays b n e = (e, refl, refl)

pub stops : {t : Try State} (b : List ℕ) (n : List ℤ) (h : Halt) → t ≡ stop (end_of h) → Does (Did.Stop h) t b n b n
unfolding Does
stops b n h e = (e, refl, refl)

-- what another line of the definitions comes to
pub by : {t u : Try State} (r : Did) (b : List ℕ) (n : List ℤ) (b' : List ℕ) (n' : List ℤ) → t ≡ u → Does r u b n b' n' → Does r t b n b' n'
by r b n b' n' e d = subst (λ x. Does r x b n b' n') (sym e) d

-- what has a result was done, whatever arrays it is told of
pub does-got : (r : Did) (t : Try State) (b : List ℕ) (n : List ℤ) (b' : List ℕ) (n' : List ℤ) {x : State} → Does r t b n b' n' → t ≡ got x → state_in b' n' ≡ x
unfolding Does
does-got Did.On t b n b' n' d e = cc
does-got Did.Stuck t b n b' n' d e = let h = d.0 in cc
does-got (Did.Stop h) t b n b' n' d e = let g = d.0 in cc

pub does-from : (r : Did) (t : Try State) (b : List ℕ) (n : List ℤ) (b' : List ℕ) (n' : List ℤ) (b₀ : List ℕ) (n₀ : List ℤ) {x : State} → Does r t b n b' n' → t ≡ got x
    → Does r t b₀ n₀ b' n'
unfolding Does
does-from Did.On t b n b' n' b₀ n₀ d e = d
does-from Did.Stuck t b n b' n' b₀ n₀ d e = let h = d.0 in let z : ◌≡◌ {A = ℕ} 0 1 = cc in absurd (omega arith)
does-from (Did.Stop h) t b n b' n' b₀ n₀ d e = let g = d.0 in let z : ◌≡◌ {A = ℕ} 0 1 = cc in absurd (omega arith)

-- ---- live frames

-- as many calls live as did
pub live-by : (b b' : List ℕ) (n n' : List ℤ) {k : ℕ} → Live b k → (state_in b' n').calls ≡ (state_in b n).calls → Live b' k
unfolding state_in
live-by b b' n n' L e = (L.0, omega (arith, L.1, e))

-- a register that was emptied or assigned, in a state of arrays
module _ (b b' : List ℕ) (n n' : List ℤ) (k d : ℕ) (v : Value) (r : Did) (L : Live b k) (h : d < 16) (D : Does r (assign (state_in b n) k d v) b n b' n') where
  pub assigned-is : assign (state_in b n) k d v ≡ got (state_in b' n')
  assigned-is = let t = assign-in b n k d v L h in t.1 ∙ ap got (sym (does-got r (assign (state_in b n) k d v) b n b' n' D t.1))

  calls-kept : (state_in b' n').calls ≡ (state_in b n).calls
  unfolding assign ◌>>=◌ with_frame with_stack
  calls-kept = go (with_register (frame_in b n k) d v) refl (rw (frame-live b n k L) at assigned-is)
    where
      go : (o : Try Frame) → with_register (frame_in b n k) d v ≡ o → (o >>= λ (g : Frame). got (with_frame (state_in b n) k g)) ≡ got (state_in b' n') → (state_in b' n').calls ≡ (state_in b n).calls
      go (got g) q e = let z : with_frame (state_in b n) k g ≡ state_in b' n' = cc in sym (ap (λ (s : State). s.calls) z)
      go stuck q e = let z : ◌≡◌ {A = ℕ} 0 1 = cc in absurd (omega arith)
      go (stop x) q e = let z : ◌≡◌ {A = ℕ} 0 1 = cc in absurd (omega arith)

  pub live-still : Live b' k
  live-still = live-by b b' n n' L calls-kept
