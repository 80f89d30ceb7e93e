-- A run that ends.
use mathlib.Core.Path.{◌≡◌, refl, sym, ap, ◌∙◌}
use mathlib.Core.List.{List}
use mathlib.Core.Bool.{Bool, true, false}
use Prim.Native.Nat.{ℕ, ◌+◌, ◌*◌, ◌≤◌, ◌<◌}
use native.Mathlib.Omega.{arith}
use lib.IntN.{ℤ, pos}
use lib.ListN.{length, length-set, set}
use lib.Seq.{get_or-set_same, get_or-set_other}
use lib.Dec.{eqb}
use borrow.Author.Tests.{eqb-true, eqb-false}
use Rattle.layout.specs.Records.{◌!◌}
use Rattle.machine.specs.Try.{Try, got, ◌>>=◌}
use Rattle.machine.specs.Calls.{closed, done}
use Rattle.machine.specs.Pools.{overfull}
use Rattle.machine.specs.States.{items_of, with_end, with_stack}
use Rattle.machine.specs.declared.End.{End}
use Rattle.machine.specs.declared.State.{State}
use Rattle.machine.specs.declared.Status.{Status}
use Rattle.machine.specs.declared.Value.{Value}
use Rattle.store.specs.Lists.{up_to}
use Rattle.store.proofs.Lists.{up_to-same}
use Rattle.store.specs.Store.{◌#◌, CALLS, DEPTH, STATUS, ITEM, RESULT, ENDING, state_in, status_of, vector_in, Sized}
use Rattle.store.specs.Answers.{end_of}
use Rattle.store.specs.declared.Halt.{Halt}
use Rattle.store.specs.Counts.{Ready}
use Rattle.store.proofs.Kept.{by_parts, delays-kept, frames-kept, result-kept, stack-kept, vectors-kept}
use Rattle.store.proofs.Vectors.{vector-at, vector-outside}
use Rattle.ending.specs.declared.Ended.{Ended}
use Rattle.ending.specs.Ends.{Comes, Left, RunEnds, closed_bytes, done_integer, done_vector, stop_byte, stopped_by}

-- ---- the arrays of an ended run

module _ (b : List ℕ) (n : List ℤ) (S : Sized b n) (s l : ℕ) where
  closed-kept : (m : ℕ) → (CALLS ≤ m → m < CALLS + 4 → ⊥) → closed_bytes b s l ! m ≡ b ! m
  closed-kept m q =
      get_or-set_other (set (set (set b CALLS 0) DEPTH 0) STATUS s) (STATUS + 1) m l 0 (λ z. q (omega arith) (omega arith))
      ∙ get_or-set_other (set (set b CALLS 0) DEPTH 0) STATUS m s 0 (λ z. q (omega arith) (omega arith))
      ∙ get_or-set_other (set b CALLS 0) DEPTH m 0 0 (λ z. q (omega arith) (omega arith))
      ∙ get_or-set_other b CALLS m 0 0 (λ z. q (omega arith) (omega arith))

  pub closed-long : length (closed_bytes b s l) ≡ 2632
  closed-long = simp (length-set, S.0)

  -- by its result and its status
  pub ends_as : (n' : List ℤ) (xs : List ℤ) (e : End) → ((m : ℕ) → m < RESULT → n' # m ≡ n # m) → up_to (λ j. n' # (RESULT + j)) 0 16 ≡ xs → status_of s l (n' # ENDING) ≡ Status.Ended e
      → state_in (closed_bytes b s l) n' ≡ with_end (closed (state_in b n)) xs e
  unfolding with_end closed with_stack state_in
  ends_as n' xs e g r t =
      let lb = S.0 in
      let b' = closed_bytes b s l in
      let l₁ : length (set b CALLS 0) ≡ 2632 = simp (length-set, lb) in
      let l₂ : length (set (set b CALLS 0) DEPTH 0) ≡ 2632 = simp (length-set, lb) in
      let l₃ : length (set (set (set b CALLS 0) DEPTH 0) STATUS s) ≡ 2632 = simp (length-set, lb) in
      let h : (m : ℕ) → m < CALLS → b' ! m ≡ b ! m = λ m a. closed-kept m (λ x y. omega arith) in
      let c = get_or-set_other (set (set (set b CALLS 0) DEPTH 0) STATUS s) (STATUS + 1) CALLS l 0 (λ x. omega arith) ∙ get_or-set_other (set (set b CALLS 0) DEPTH 0) STATUS CALLS s 0
      (λ x. omega arith) ∙ get_or-set_other (set b CALLS 0) DEPTH CALLS 0 0 (λ x. omega arith) ∙ get_or-set_same b CALLS 0 0 (omega arith) in
      let d = get_or-set_other (set (set (set b CALLS 0) DEPTH 0) STATUS s) (STATUS + 1) DEPTH l 0 (λ x. omega arith) ∙ get_or-set_other (set (set b CALLS 0) DEPTH 0) STATUS DEPTH s 0
      (λ x. omega arith) ∙ get_or-set_same (set b CALLS 0) DEPTH 0 0 (omega arith) in
      let u = get_or-set_other (set (set (set b CALLS 0) DEPTH 0) STATUS s) (STATUS + 1) STATUS l 0 (λ x. omega arith) ∙ get_or-set_same (set (set b CALLS 0) DEPTH 0) STATUS s 0 (omega arith) in
      let w = get_or-set_same (set (set (set b CALLS 0) DEPTH 0) STATUS s) (STATUS + 1) l 0 (omega arith) in
      by_parts b b' n n' _
      (frames-kept b b' n n' (λ m x y. h m (omega arith)) (λ m x y. g m (omega arith)))
      c
      (stack-kept b b' n n' (λ m x y. h m (omega arith)))
      d
      (vectors-kept b b' n n' (λ m x y. h m (omega arith)) (λ m x y. g m (omega arith)))
      (delays-kept b b' n n' (λ m x y. h m (omega arith)) (λ m x y. g m (omega arith)))
      r
      ((λ i. status_of (u i) (w i) (n' # ENDING)) ∙ t)

-- ---- an integer

pub integer-ends : (b : List ℕ) (n : List ℤ) → Sized b n → {b' : List ℕ} {y z : ℤ} → b' ≡ closed_bytes b 1 0 → y ≡ z → (state_in b' (set n ENDING y) ≡ done_integer b n z) × Sized b'
    (set n ENDING y)
unfolding status_of state_in
integer-ends b n S {y = y} {z = z} q e =
    let g : (m : ℕ) → (m ≡ ENDING → ⊥) → set n ENDING y # m ≡ n # m = λ m q. get_or-set_other n ENDING m y (pos 0) q in
    let w = get_or-set_same n ENDING y (pos 0) (omega (arith, S.1)) ∙ e in
    rw q (
      ends_as b n S 1 0 (set n ENDING y) _ (End.Integer z) (λ m a. g m (λ x. omega arith)) (result-kept b b n (set n ENDING y) (λ m x u. g m (λ q. omega arith)))
          (ap (λ x. Status.Ended (End.Integer x)) w),
      (closed-long b n S 1 0, simp (length-set, S.1)),
    )

-- ---- a start that needs too many vectors

pub start-stops : (b : List ℕ) (n : List ℤ) → Sized b n → {b' : List ℕ} → b' ≡ closed_bytes b 5 0 → (state_in b' n ≡ overfull (state_in b n)) × (b' ≡ closed_bytes b 5 0)
unfolding status_of state_in
start-stops b n S q = (rw q (ends_as b n S 5 0 n (state_in b n).result End.Vectors (λ m a. refl) refl refl), q)

-- ---- a vector

-- the first j items are in the result
pub record Delivered (n n' : List ℤ) (v j : ℕ) : Type 0 where
  pub most : j ≤ 16
  pub items : (i : ℕ) → i < j → n' # (RESULT + i) ≡ n # (ITEM + 16 * v + i)
  pub kept : (m : ℕ) → m < RESULT → n' # m ≡ n # m
  pub long : length n' ≡ 2129

module _ (n : List ℤ) (v : ℕ) (h : v < 64) where
  pub deliver-begun : length n ≡ 2129 → Delivered n n v 0
  deliver-begun l = record { most = omega arith; items = λ i a. absurd (omega arith); kept = λ m a. refl; long = l }

  pub deliver-one : (n' : List ℤ) (j : ℕ) {y : ℤ} → Delivered n n' v j → j < 16 → y ≡ n' # (ITEM + 16 * v + j) → Delivered n (set n' (RESULT + j) y) v (j + 1)
  deliver-one n' j {y = y} D l e =
      let q = D.long in
      record {
        most = omega arith;
        items = λ i a. one i (eqb i j) refl a;
        kept = λ m a. get_or-set_other n' (RESULT + j) m y (pos 0) (λ z. omega arith) ∙ D.kept m a;
        long = simp (length-set, q);
      }
    where
      one : (i : ℕ) (t : Bool) → eqb i j ≡ t → i < j + 1 → set n' (RESULT + j) y # (RESULT + i) ≡ n # (ITEM + 16 * v + i)
      one i true q a = let z = eqb-true i j q in let m = D.long in rw z (get_or-set_same n' (RESULT + j) y (pos 0) (omega arith) ∙ e ∙ D.kept (ITEM + 16 * v + j) (omega arith))
      one i false q a = let z = eqb-false i j q in get_or-set_other n' (RESULT + j) (RESULT + i) y (pos 0) (λ r. z (omega arith)) ∙ D.items i (omega arith)

  pub vector-ends : (b : List ℕ) → Sized b n → (n' : List ℤ) (j : ℕ) → Delivered n n' v j → 16 ≤ j → {b' : List ℕ} {l : ℕ} → b' ≡ closed_bytes b 2 l → l ≡ length (items_of (vector_in b n v)) →
      (state_in b' n' ≡ done_vector b n v) × Sized b' n'
  unfolding status_of vector_in
  vector-ends b S n' j D a {l = l} q e =
      let m = D.most in
      rw q (
        ends_as b n S 2 l n' _ _ D.kept (up_to-same (λ i. n' # (RESULT + i)) (λ i. n # (ITEM + 16 * v + i)) 0 16 (λ i x y. D.items i (omega arith)))
            (ap (λ x. Status.Ended (End.Vector x)) e),
        (closed-long b n S 2 l, D.long),
      )

-- ---- what the value is

module _ (b : List ℕ) (n : List ℤ) {u : Value} where
  pub empty-stays : u ≡ Value.Empty → RunEnds Ended.Stuck (done (state_in b n) u) b n b n
  unfolding RunEnds done
  empty-stays e = (rw e refl, refl, refl)

  pub promise-stays : {p : ℕ} → u ≡ Value.Promise p → RunEnds Ended.Stuck (done (state_in b n) u) b n b n
  unfolding RunEnds done
  promise-stays e = (rw e refl, refl, refl)

  pub outside-stays : {p v : ℕ} → u ≡ Value.Vector p → v ≡ p → 64 ≤ v → RunEnds Ended.Stuck (done (state_in b n) u) b n b n
  unfolding RunEnds done ◌>>=◌
  outside-stays {p = p} e q h = (rw (e, vector-outside b n p (omega arith)) refl, refl, refl)

  module _ (b' : List ℕ) (n' : List ℤ) (S : Sized b' n') where
    pub integer-done : {z : ℤ} → u ≡ Value.Integer z → state_in b' n' ≡ done_integer b n z → RunEnds Ended.Done (done (state_in b n) u) b n b' n'
    unfolding RunEnds done with_end
    integer-done {z = z} e q = (rw e (ap got (sym q)), (S, (End.Integer z, ap (λ (s : State). s.status) q)))

    pub vector-done : {p v : ℕ} → u ≡ Value.Vector p → v ≡ p → v < 64 → state_in b' n' ≡ done_vector b n v → RunEnds Ended.Done (done (state_in b n) u) b n b' n'
    unfolding RunEnds done with_end ◌>>=◌
    vector-done {p = p} e y h q =
        let x = q ∙ ap (done_vector b n) y in
        (rw (e, vector-at b n p (omega arith)) (ap got (sym x)), (S, (End.Vector (length (items_of (vector_in b n p))), ap (λ (s : State). s.status) x)))

-- the end of a run is that of its last block
pub run_ends : (x : Ended) {t u : Try State} (b : List ℕ) (n : List ℤ) (b' : List ℕ) (n' : List ℤ) → t ≡ u → RunEnds x u b n b' n' → Comes x t b n b' n'
unfolding RunEnds Comes
run_ends Ended.Back b n b' n' e R = absurd R
run_ends Ended.Done b n b' n' e R = e ∙ R.0
run_ends Ended.Stuck b n b' n' e R = (e ∙ R.0, R.1, R.2)

pub run-left : (x : Ended) (t : Try State) (b : List ℕ) (n : List ℤ) (b' : List ℕ) (n' : List ℤ) (c : List ℕ) → RunEnds x t b n b' n' → Ready b n c → Left x b' n' c
unfolding RunEnds Left
run-left Ended.Back t b n b' n' c R Q = absurd R
run-left Ended.Done t b n b' n' c R Q = R.1
run-left Ended.Stuck t b n b' n' c R Q = rw (R.1, R.2) Q

-- ---- a stop

stop-status : (h : Halt) (l : ℕ) (z : ℤ) → status_of (stop_byte h) l z ≡ Status.Ended (end_of h)
unfolding status_of stop_byte end_of
stop-status Halt.Undef l z = refl
stop-status Halt.Deep l z = refl
stop-status Halt.Vectors l z = refl
stop-status Halt.Promises l z = refl

pub run-stops : (b : List ℕ) (n : List ℤ) (h : Halt) {s : ℕ} → Sized b n → s ≡ stop_byte h → (state_in (set b STATUS s) n ≡ stopped_by b n h) × Sized (set b STATUS s) n
unfolding with_end state_in
run-stops b n h {s = s} S e =
    let b' = set b STATUS s in
    let k : (m : ℕ) → (m ≡ STATUS → ⊥) → b' ! m ≡ b ! m = λ m q. get_or-set_other b STATUS m s 0 q in
    let u = get_or-set_same b STATUS s 0 (omega (arith, S.0)) ∙ e in (
      by_parts b b' n n _
          (frames-kept b b' n n (λ m x y. k m (λ q. omega arith)) (λ m x y. refl))
          (k CALLS (λ q. omega arith))
          (stack-kept b b' n n (λ m x y. k m (λ q. omega arith)))
          (k DEPTH (λ q. omega arith))
          (vectors-kept b b' n n (λ m x y. k m (λ q. omega arith)) (λ m x y. refl))
          (delays-kept b b' n n (λ m x y. k m (λ q. omega arith)) (λ m x y. refl))
          refl
          ((λ i. status_of (u i) (b' ! (STATUS + 1)) (n # ENDING)) ∙ stop-status h (b' ! (STATUS + 1)) (n # ENDING)),
      (simp (length-set, S.0), S.1),
    )
