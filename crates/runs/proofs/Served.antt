-- What is served by the rule of the pool, and a budget in the pool as so many single steps.
use mathlib.Core.Path.{◌≡◌, refl, sym, ap, ◌∙◌, subst}
use mathlib.Core.List.{List, [], ◌∷◌, ◌++◌, map}
use mathlib.Core.Option.{Option, none, some}
use mathlib.Core.Bool.{Bool, true, false, cond}
use Prim.Native.Nat.{ℕ, zero, suc, ◌+◌}
use native.Mathlib.Decide.{ℕ_discrete}
use lib.IntN.{ℤ}
use lib.ListN.{length, get_or, set}
use lib.Dec.{eqb}
use borrow.Author.Tests.{eq-eqb}
use Rattle.program.specs.Program.{Program}
use Rattle.machine.specs.Runs.{step_of, continued, long_enough, buffer_of}
use Rattle.machine.specs.Events.{Run, Event, single, budget, program_in, in_state, onward}
use Rattle.machine.specs.Allowed.{step_with, run_with, budget_in_with, budget_with, tried_under_with, tried_in_with, tried_by_with}
use Rattle.machine.specs.Pools.{allowed, refuses21, fresh, has_in, noted, noted_after, said_in_pool, PoolStepped, PoolRan}
use Rattle.machine.specs.Houses.{go_on, Asked, turned, spent, Lodged, go_on_in, ask_in, House, opened, placed, Served, serve, house_after, TriedIn, tried_by, tried_ask, history_under}
use Rattle.machine.specs.declared.Answer.{Answer}
use Rattle.machine.specs.declared.Pool.{Pool}
use Rattle.machine.specs.declared.Ran.{Ran}
use Rattle.machine.specs.declared.Said.{Said}
use Rattle.machine.specs.declared.State.{State}
use Rattle.machine.specs.declared.Status.{Status}
use Rattle.machine.specs.declared.Stepped.{Stepped}
use Rattle.runs.specs.Stores.{has_of, Housed, Stores}
use Rattle.runs.specs.Company.{stopped_by, Gets, step_under, Turns, ServedByRule, singles_under, AsSingles, BudgetIsSinglesIn}
use Rattle.runs.proofs.Reserves.{allowed-set}
use Rattle.runs.proofs.Stores.{placed_same, placed-other, refused-same, house-keeps, opened-order, none-refused, stores}
use Rattle.runs.proofs.Rules.{gets-one, need-goes}
use Rattle.runs.proofs.Company.{step_is, budget-is}

-- ---- what is put twice, and what was there

set_twice : {A : Type 0} (l : List A) (i : ℕ) (x y : A) → set (set l i x) i y ≡ set l i y
set_twice [] i x y = refl
set_twice (z ∷ l) zero x y = refl
set_twice (z ∷ l) (suc i) x y = ap (λ m. z ∷ m) (set_twice l i x y)

set_own : (l : List ℕ) (i x : ℕ) → get_or l i 0 ≡ x → set l i x ≡ l
set_own [] i x e = refl
set_own (z ∷ l) zero x e = ap (λ (y : ℕ). y ∷ l) (sym e)
set_own (z ∷ l) (suc i) x e = ap (λ m. z ∷ m) (set_own l i x e)

noted-twice : (p : Pool) (i : ℕ) (s t : State) → noted (noted p i s) i t ≡ noted p i t
unfolding noted
noted-twice p i s t = ap (λ (hs : List ℕ). record { reserves = p.reserves; has = hs }) (set_twice p.has i _ _)

noted-own : (p : Pool) (i : ℕ) (s : State) → get_or p.has i 0 ≡ has_in s s.status → noted p i s ≡ p
unfolding noted
noted-own p i s e = ap (λ (hs : List ℕ). record { reserves = p.reserves; has = hs }) (set_own p.has i _ e)

noted-refuses : (p : Pool) (i : ℕ) (s : State) → refuses21 (noted p i s) i ≡ refuses21 p i
unfolding noted refuses21
noted-refuses p i s = refl

noted-allowed : (p : Pool) (i : ℕ) (s : State) → allowed (noted p i s) i ≡ allowed p i
unfolding noted
noted-allowed p i s = allowed-set p i (has_in s s.status)

placed-twice : (f : ℕ → Option Run) (i : ℕ) (x y : Option Run) (j : ℕ) → placed (placed f i x) i y j ≡ placed f i y j
unfolding placed
placed-twice f i x y j = go (eqb j i)
  where
    go : (b : Bool) → cond b y (cond b x (f j)) ≡ cond b y (f j)
    go true = refl
    go false = refl

placed-own : (f : ℕ → Option Run) (i : ℕ) (x : Option Run) → f i ≡ x → (j : ℕ) → placed f i x j ≡ f j
placed-own f i x e j = go (ℕ_discrete j i)
  where
    go : Dec (j ≡ i) → placed f i x j ≡ f j
    go (yes q) = ap (placed f i x) q ∙ placed_same f i x ∙ sym e ∙ ap f (sym q)
    go (no q) = placed-other f i j x q

length-map : {A B : Type 0} (f : A → B) (l : List A) → length (map f l) ≡ length l
length-map f [] = refl
length-map f (x ∷ l) = ap suc (length-map f l)

-- ---- one ask under the number i

module _ (i : ℕ) (w : House) (r : Run) (passes : refuses21 w.pool i ≡ false) (is : w.runs i ≡ some r) where
  -- the house, and what is heard
  abbrev outcome : Lodged → Served
  outcome y = record { house = record { pool = y.pool; runs = placed w.runs i y.run }; heard = y.heard }

  single-serve : let x = step_with (allowed w.pool i) (program_in r) r.state in serve (step_under i) w ≡ outcome (record { pool = noted w.pool i x.state; run = some (in_state r x.state); heard = turned (said_in_pool x.said) })
  unfolding serve ask_in go_on_in
  single-serve =
      ap (λ (o : Option Run). outcome (ask_in w.pool i (go_on single) o)) is
      ∙ ap (λ (x : PoolStepped). outcome (record { pool = x.pool; run = some (in_state r x.state); heard = turned x.turn })) (step_is w.pool i passes (program_in r) r.state)

  budget-serve : (n : ℕ) (buffer : List ℤ) → let x = budget_with (allowed w.pool i) (program_in r) r.state n buffer in
      serve (record { number = i; ask = go_on (budget n buffer) }) w ≡ outcome (record { pool = noted_after w.pool i x x.answer; run = some (in_state r x.state); heard = spent x.answer x.steps (buffer_of x buffer) })
  unfolding serve ask_in go_on_in
  budget-serve n buffer =
      ap (λ (o : Option Run). outcome (ask_in w.pool i (go_on (budget n buffer)) o)) is
      ∙ ap (λ (x : PoolRan). outcome (record { pool = x.pool; run = some (in_state r x.ran.state); heard = spent x.ran.answer x.ran.steps (buffer_of x.ran buffer) })) (budget-is w.pool i passes (program_in r) r.state n buffer)

  -- where a step comes to x, the number hears it
  single-turns : (x : Stepped) → step_with (allowed w.pool i) (program_in r) r.state ≡ x → Turns w i r (said_in_pool x.said) x.state
  single-turns x e =
      let z : serve (step_under i) w ≡ outcome (record { pool = noted w.pool i x.state; run = some (in_state r x.state); heard = turned (said_in_pool x.said) }) =
      single-serve ∙ ap (λ (y : Stepped). outcome (record { pool = noted w.pool i y.state; run = some (in_state r y.state); heard = turned (said_in_pool y.said) })) e in
      record { heard = ap (λ (y : Served). y.heard) z; run = ap (λ (y : Served). y.house.runs i) z ∙ placed_same w.runs i (some (in_state r x.state)); pool = ap (λ (y : Served). y.house.pool) z }

  -- the steps that an ask tries
  event-tried : (e : Event) → tried_ask w.pool i (go_on e) (w.runs i) ≡ tried_by w.pool i e r
  unfolding tried_ask
  event-tried e = ap (tried_ask w.pool i (go_on e)) is ∙ ap tries passes
    where
      tries : Bool → List Run
      tries b = elim b [ true ↦ [] | false ↦ tried_by w.pool i e r ]

-- ---- THE LAW: by the rule

pub served-by-rule : ServedByRule
unfolding ServedByRule Stores said_in_pool
served-by-rule reserves n e l i m r is run need = record { given = λ g. (single-turns i w r ok is (step_of (program_in r) r.state) (x.given g).2, need-goes (program_in r) r.state (x.given g).0 run need (x.given g).1); stopped = λ g. single-turns i w r ok is (stopped_by r.state) (x.stopped g) }
  where
    w : House
    w = house_after l (opened (fresh reserves))

    ok : refuses21 w.pool i ≡ false
    ok = none-refused reserves w e (house-keeps reserves l (opened (fresh reserves)) (opened-order reserves n e)) i m

    x : Gets w.pool i (program_in r) r.state
    x = gets-one w.pool i (program_in r) r.state (housed.bounded i m) run need
      where
        housed : Housed reserves w
        housed = stores reserves n e l

-- ---- a budget is so many single steps

module _ (i : ℕ) (r : Run) where
  -- behind single steps in these states of r, the pool notes the state t, and the run is in it
  abbrev As : House → List State → State → Type 0
  As w bs t = let k = length bs in
      (map (λ (x : TriedIn). x.run) (history_under i (singles_under i k) w) ≡ map (in_state r) bs) × ((house_after (singles_under i k) w).pool ≡ noted w.pool i t)
      × ((j : ℕ) → (house_after (singles_under i k) w).runs j ≡ placed w.runs i (some (in_state r t)) j)

  none-as : (w : House) (s : State) → w.runs i ≡ some (in_state r s) → noted w.pool i s ≡ w.pool → As w [] s
  unfolding history_under house_after
  none-as w s is known = (refl, sym known, λ j. sym (placed-own w.runs i (some (in_state r s)) is j))

  -- the house behind a single step
  abbrev behind : House → State → House
  behind w t = record { pool = noted w.pool i t; runs = placed w.runs i (some (in_state r t)) }

  cons-as : (w : House) (s : State) → refuses21 w.pool i ≡ false → w.runs i ≡ some (in_state r s) → (bs : List State) (t : State) → As (behind w (step_with (allowed w.pool i) (program_in r) s).state) bs t → As w (s ∷ bs) t
  unfolding history_under house_after tried_by
  cons-as w s passes is bs t (a, b, c) = (history ∙ ap (λ (rs : List Run). in_state r s ∷ rs) (after-history ∙ a), ap (λ (h : House). (house_after ks h).pool) same ∙ b ∙ noted-twice w.pool i u t, λ j. ap (λ (h : House). (house_after ks h).runs j) same ∙ c j ∙ placed-twice w.runs i (some (in_state r u)) (some (in_state r t)) j)
    where
      u : State
      u = (step_with (allowed w.pool i) (program_in r) s).state

      ks : List Asked
      ks = singles_under i (length bs)

      same : (serve (step_under i) w).house ≡ behind w u
      same = ap (λ (y : Served). y.house) (single-serve i w (in_state r s) passes is)

      after-history : map (λ (x : TriedIn). x.run) (history_under i ks (serve (step_under i) w).house) ≡ map (λ (x : TriedIn). x.run) (history_under i ks (behind w u))
      after-history = ap (λ (h : House). map (λ (x : TriedIn). x.run) (history_under i ks h)) same

      rest : List TriedIn
      rest = history_under i ks (serve (step_under i) w).house

      first : List Run → List TriedIn
      first rs = map (λ r. record { pool = w.pool; run = r }) rs ++ rest

      chosen : Bool → List TriedIn
      chosen x = elim x [ true ↦ first (tried_ask w.pool i (go_on single) (w.runs i)) | false ↦ rest ]

      history : map (λ (x : TriedIn). x.run) (chosen (eqb i i)) ≡ in_state r s ∷ map (λ (x : TriedIn). x.run) rest
      history = ap (λ (x : Bool). map (λ (x : TriedIn). x.run) (chosen x)) (eq-eqb i i refl) ∙ ap (λ (rs : List Run). map (λ (x : TriedIn). x.run) (first rs)) (event-tried i w (in_state r s) passes is single)

  module _ (most : ℕ) where
    under-singles : (m : ℕ) (s : State) (n : ℕ) (w : House) → refuses21 w.pool i ≡ false → allowed w.pool i ≡ most → w.runs i ≡ some (in_state r s) → noted w.pool i s ≡ w.pool
        → As w (tried_under_with most (program_in r) m s) (run_with most (program_in r) m s n).state
    unfolding tried_under_with run_with onward continued
    under-singles zero s n w passes may is known = none-as w s is known
    under-singles (suc m) s n w passes may is known = go x.said (under-singles m x.state (n + 1) after (noted-refuses w.pool i x.state ∙ passes) (noted-allowed w.pool i x.state ∙ may) here (noted-twice w.pool i x.state x.state))
      where
        x : Stepped
        x = step_with most (program_in r) s

        after : House
        after = behind w x.state

        here : after.runs i ≡ some (in_state r x.state)
        here = placed_same w.runs i (some (in_state r x.state))

        back : (bs : List State) (t : State) → As after bs t → As w (s ∷ bs) t
        back bs t a = cons-as w s passes is bs t (subst (λ (k : ℕ). As (behind w (step_with k (program_in r) s).state) bs t) (sym may) a)

        go : (d : Said) → As after (tried_under_with most (program_in r) m x.state) (run_with most (program_in r) m x.state (n + 1)).state
            → As w (s ∷ onward x.state d (λ t. tried_under_with most (program_in r) m t)) (continued x.state d n (λ t. run_with most (program_in r) m t (n + 1))).state
        go Said.GoesOn ih = back (tried_under_with most (program_in r) m x.state) _ ih
        go (Said.Ended e) ih = back [] x.state (none-as after x.state here (noted-twice w.pool i x.state x.state))
        go Said.Stuck ih = back [] x.state (none-as after x.state here (noted-twice w.pool i x.state x.state))

  by-singles : (n : ℕ) (buffer : List ℤ) (w : House) → refuses21 w.pool i ≡ false → w.runs i ≡ some r → noted w.pool i r.state ≡ w.pool
      → let most = allowed w.pool i in As w (tried_by_with most (program_in r) r.state n buffer) (budget_with most (program_in r) r.state n buffer).state
  unfolding tried_by_with tried_in_with budget_with budget_in_with
  by-singles n buffer w passes is known = go (long_enough buffer) r.state.status
    where
      most : ℕ
      most = allowed w.pool i

      tries : Bool → Status → List State
      tries b st = elim b [ true ↦ tried_in_with most (program_in r) r.state n st | false ↦ [] ]

      comes : Bool → Status → Ran
      comes b st = elim b [ true ↦ budget_in_with most (program_in r) r.state n st | false ↦ record { state = r.state; answer = Answer.Refused 13 0; steps = 0 } ]

      go : (b : Bool) (st : Status) → As w (tries b st) (comes b st).state
      go true Status.Running = under-singles most n r.state 0 w passes refl is known
      go true (Status.Ended e) = none-as w r.state is known
      go false st = none-as w r.state is known

  -- the pool notes the state that a budget leaves, also where it is refused
  noted-after : (p : Pool) (P : Program) (n : ℕ) (buffer : List ℤ) → noted p i r.state ≡ p → let x = budget_with (allowed p i) P r.state n buffer in noted_after p i x x.answer ≡ noted p i x.state
  unfolding noted_after
  noted-after p P n buffer known = go x.answer refl
    where
      x : Ran
      x = budget_with (allowed p i) P r.state n buffer

      go : (a : Answer) → x.answer ≡ a → noted_after p i x a ≡ noted p i x.state
      go (Answer.Refused q o) e = sym known ∙ ap (noted p i) (sym (refused-same (allowed p i) P r.state n buffer q o e))
      go Answer.Steps e = refl
      go (Answer.Ended y) e = refl
      go Answer.Stuck e = refl

has-is : (r : Run) (o : Option Run) → o ≡ some r → has_of o ≡ has_in r.state r.state.status
unfolding has_of
has-is r o e = ap has_of e

-- a number without a run
no_run : (i : ℕ) (w : House) (n : ℕ) (buffer : List ℤ) → w.runs i ≡ none → let runs = tried_ask w.pool i (go_on (budget n buffer)) (w.runs i) in AsSingles w i n buffer runs (length runs)
unfolding serve ask_in tried_ask history_under house_after
no_run i w n buffer is =
    subst (λ (rs : List Run). AsSingles w i n buffer rs (length rs)) (sym (ap (tried_ask w.pool i (go_on (budget n buffer))) is))
    (record { tried = refl; left = λ j. ap (λ (o : Option Run). placed w.runs i (ask_in w.pool i (go_on (budget n buffer)) o).run j) is ∙ placed-own w.runs i none is j; pool = ap (λ (o : Option Run). (ask_in w.pool i (go_on (budget n buffer)) o).pool) is })

with-run : (i : ℕ) (w : House) (r : Run) → refuses21 w.pool i ≡ false → w.runs i ≡ some r → (n : ℕ) (buffer : List ℤ) → noted w.pool i r.state ≡ w.pool
    → let runs = tried_ask w.pool i (go_on (budget n buffer)) (w.runs i) in AsSingles w i n buffer runs (length runs)
unfolding tried_by
with-run i w r passes is n buffer known =
    subst (λ (rs : List Run). AsSingles w i n buffer rs (length rs)) (sym (event-tried i w r passes is (budget n buffer)))
    (subst (AsSingles w i n buffer (map (in_state r) bs)) (sym (length-map (in_state r) bs)) (record { tried = sym a.0; left = λ j. ap (λ (y : Served). y.house.runs j) z ∙ sym (a.2 j); pool = ap (λ (y : Served). y.house.pool) z ∙ noted-after i r w.pool (program_in r) n buffer known ∙ sym a.1 }))
  where
    bs : List State
    bs = tried_by_with (allowed w.pool i) (program_in r) r.state n buffer

    a : As i r w bs (budget_with (allowed w.pool i) (program_in r) r.state n buffer).state
    a = by-singles i r n buffer w passes is known

    z : let x = budget_with (allowed w.pool i) (program_in r) r.state n buffer in serve (record { number = i; ask = go_on (budget n buffer) }) w ≡ outcome i w r passes is (record { pool = noted_after w.pool i x x.answer; run = some (in_state r x.state); heard = spent x.answer x.steps (buffer_of x buffer) })
    z = budget-serve i w r passes is n buffer

-- THE LAW: a budget under a number is so many single steps
pub budget-is-singles-in : BudgetIsSinglesIn
unfolding BudgetIsSinglesIn Stores
budget-is-singles-in reserves n e l i m k buffer = go (w.runs i) refl
  where
    w : House
    w = house_after l (opened (fresh reserves))

    ok : refuses21 w.pool i ≡ false
    ok = none-refused reserves w e (house-keeps reserves l (opened (fresh reserves)) (opened-order reserves n e)) i m

    housed : Housed reserves w
    housed = stores reserves n e l

    go : (o : Option Run) → w.runs i ≡ o → let runs = tried_ask w.pool i (go_on (budget k buffer)) (w.runs i) in AsSingles w i k buffer runs (length runs)
    go none is = no_run i w k buffer is
    go (some r) is = with-run i w r ok is k buffer (noted-own w.pool i r.state (housed.known i m ∙ has-is r (w.runs i) is))
