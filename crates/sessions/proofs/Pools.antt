-- A list of calls under the numbers of a pool is the list of its asks: by induction, one call at a time.
use Rattle.std.specs.Prelude.{Err, Ok}
use mathlib.Core.Path.{◌≡◌, refl, sym, ap, ap₂, ◌∙◌, subst}
use mathlib.Core.List.{List, [], ◌∷◌, ◌++◌, map}
use mathlib.Core.Option.{Option, some}
use mathlib.Core.Bool.{Bool, true, false, cond}
use Prim.Native.Nat.{ℕ, zero, suc, ◌+◌}
use native.Mathlib.Omega.{arith}
use lib.Dec.{eqb}
use borrow.Author.Tests.{eqb-true}
use lib.IntN.{ℤ}
use Rattle.program.specs.Program.{Program}
use Rattle.machine.specs.Allowed.{budget_in_with, budget_with, run_with, step_with}
use Rattle.machine.specs.Begin.{begin_of, entered_of, program_of, refused}
use Rattle.machine.specs.Events.{Run, budget}
use Rattle.machine.specs.Pools.{PoolBegun, PoolRan, PoolStepped, allowed, fresh, make_of, noted, over_reserved, pool_begin, pool_begun_as, pool_begun_by, pool_run_as, pool_budget, pool_change, pool_step, refuses21}
use Rattle.machine.specs.Runs.{buffer_of, continued, long_enough, written}
use Rattle.machine.specs.States.{over}
use Rattle.machine.specs.Houses.{Ask, start, go_on, Asked, Heard, began, heard21, ask_in, go_on_in, started_run, House, opened, placed, serve, house_after, heard_under, history_under}
use Rattle.machine.specs.declared.Answer.{Answer}
use Rattle.machine.specs.declared.Begun.{Begun}
use Rattle.machine.specs.declared.Pool.{Pool}
use Rattle.machine.specs.declared.Said.{Said}
use Rattle.machine.specs.declared.State.{State}
use Rattle.machine.specs.declared.Status.{Status}
use Rattle.loaded.specs.Loaded.{program_in}
use Rattle.loaded.proofs.Runs.{loaded-begin, loaded-pool-begin, loaded-pool-budget, loaded-pool-run, loaded-pool-step}
use Rattle.soundness.specs.Pools.{SafeUnder, Demand3Pool}
use Rattle.soundness.proofs.Pools.{demand3-pool}
use Rattle.soundness.proofs.Types.{eqb_same}
use Rattle.abi.specs.Answers.{answer_numbers, grant_numbers, turn_numbers}
use Rattle.abi.specs.Exits.{Answers, Left}
use Rattle.abi.specs.Held.{held}
use Rattle.abi.specs.Pools.{MakesIn}
use Rattle.abi.specs.declared.answers.FirAnswer.{FirAnswer}
use Rattle.abi.specs.declared.answers.FirEntry.{FirEntry}
use Rattle.abi.specs.declared.state.FirState.{FirState}
use Rattle.sessions.specs.Pools.{Host, put_at, run_of, house_of, vacant, Request, begin, run, step, steps, update, PoolCall, own, foreign, MeetsIn, image_after, host_after, PoolSession, empty, next}
use Rattle.sessions.specs.Pools.{asks_by, under, asks_of, PoolTold, by_begin, by_turn, by_budget, by_change, told_in, heard_in_numbers, told_under, CallsAreAsks, Demand3PoolInC}
use Rattle.sessions.proofs.Numbers.{Enters, entered-long, entered-numbered, not-8, pool-begun-numbered, pool-change-numbered}
use Rattle.sessions.proofs.Lent.{filled}
use Rattle.sessions.proofs.Lists.{in-force, left}
use Rattle.machine.specs.Denials.{Grant, denied}

-- ---- a budget that is refused leaves its state

module _ (most : ℕ) (P : Program) where
  not-refused : (m : ℕ) (s : State) (n q p : ℕ) → (run_with most P m s n).answer ≡ Answer.Refused q p → ⊥
  unfolding run_with continued
  not-refused zero s n q p e = let z : ◌≡◌ {A = ℕ} 0 1 = cc in omega arith
  not-refused (suc m) s n q p e = go (step_with most P s).said (not-refused m (step_with most P s).state (n + 1) q p) e
    where
      go : (d : Said) → ((run_with most P m (step_with most P s).state (n + 1)).answer ≡ Answer.Refused q p → ⊥)
          → (continued (step_with most P s).state d n (λ t. run_with most P m t (n + 1))).answer ≡ Answer.Refused q p → ⊥
      go Said.GoesOn ih h = ih h
      go (Said.Ended x) ih h = let z : ◌≡◌ {A = ℕ} 0 1 = cc in omega arith
      go Said.Stuck ih h = let z : ◌≡◌ {A = ℕ} 0 1 = cc in omega arith

  in-not-refused : (s : State) (n : ℕ) (st : Status) (q p : ℕ) → (budget_in_with most P s n st).answer ≡ Answer.Refused q p → ⊥
  unfolding budget_in_with
  in-not-refused s n Status.Running q p e = not-refused n s 0 q p e
  in-not-refused s n (Status.Ended x) q p e = let z : ◌≡◌ {A = ℕ} 0 1 = cc in omega arith

  refused-stays : (s : State) (n : ℕ) (buffer : List ℤ) (q p : ℕ) → (budget_with most P s n buffer).answer ≡ Answer.Refused q p → (budget_with most P s n buffer).state ≡ s
  unfolding budget_with
  refused-stays s n buffer q p e = go (long_enough buffer) refl e
    where
      go : (b : Bool) → long_enough buffer ≡ b → (budget_with most P s n buffer).answer ≡ Answer.Refused q p → (budget_with most P s n buffer).state ≡ s
      go true l h = absurd (in-not-refused s n s.status q p (rw (l, budget_with) at h))
      go false l h = rw (l, budget_with) refl

pool-refused-stays : (P : Program) (p : Pool) (i : ℕ) (s : State) (n : ℕ) (buffer : List ℤ) (q o : ℕ) → (pool_budget P p i s n buffer).ran.answer ≡ Answer.Refused q o → (pool_budget P p i s n buffer).ran.state ≡ s
unfolding pool_budget
pool-refused-stays P p i s n buffer q o e = go (refuses21 p i) refl e
  where
    go : (b : Bool) → refuses21 p i ≡ b → (pool_budget P p i s n buffer).ran.answer ≡ Answer.Refused q o → (pool_budget P p i s n buffer).ran.state ≡ s
    go true l h = rw (l, pool_budget) refl
    go false l h = rw (l, pool_budget) (refused-stays (allowed p i) P s n buffer q o (rw (l, pool_budget) at h))

pool-not-refused : (P : Program) (p : Pool) (i : ℕ) (s : State) (n : ℕ) (buffer : List ℤ) → refuses21 p i ≡ false → long_enough buffer ≡ true → (q o : ℕ) → (pool_budget P p i s n buffer).ran.answer ≡ Answer.Refused q o → ⊥
unfolding pool_budget budget_with
pool-not-refused P p i s n buffer r l q o e = in-not-refused (allowed p i) P s n s.status q o (rw (r, pool_budget, l, budget_with) at e)

-- ---- asks under one number, one after the other

-- what they leave under it, and what is heard
record Stayed : Type 0 where
  pool : Pool
  run : Option Run
  heard : List Heard

unfoldable stays : Pool → ℕ → List Ask → Option Run → Stayed
stays p i [] o = record { pool = p; run = o; heard = [] }
stays p i (a ∷ qs) o = let x = ask_in p i a o in let y = stays x.pool i qs x.run in record { pool = y.pool; run = y.run; heard = x.heard ∷ y.heard }

-- in the house
abbrev housed : House → ℕ → List Ask → House
housed w i qs = let x = stays w.pool i qs (w.runs i) in record { pool = x.pool; runs = placed w.runs i x.run }

-- what is put under a number is there, what was there stays, and the last counts
placed-own : (runs : ℕ → Option Run) (i : ℕ) (o : Option Run) → placed runs i o i ≡ o
unfolding placed
placed-own runs i o = rw (eqb_same i) refl

placed_same : (runs : ℕ → Option Run) (i : ℕ) → placed runs i (runs i) ≡ runs
unfolding placed
placed_same runs i = λ k j. at j (eqb j i) refl k
  where
    at : (j : ℕ) (b : Bool) → eqb j i ≡ b → cond b (runs i) (runs j) ≡ runs j
    at j true e = ap runs (sym (eqb-true j i e))
    at j false e = refl

placed-twice : (runs : ℕ → Option Run) (i : ℕ) (o u : Option Run) → placed (placed runs i o) i u ≡ placed runs i u
unfolding placed
placed-twice runs i o u = λ k j. at j (eqb j i) k
  where
    at : (j : ℕ) (b : Bool) → cond b u (cond b o (runs j)) ≡ cond b u (runs j)
    at j true = refl
    at j false = refl

-- one ask, then the others
housed-next : (w : House) (i : ℕ) (a : Ask) (qs : List Ask) → housed (serve (under i a) w).house i qs ≡ housed w i (a ∷ qs)
unfolding serve stays
housed-next w i a qs =
    let x = ask_in w.pool i a (w.runs i) in
    ap (λ (o : Option Run). let y = stays x.pool i qs o in record { pool = y.pool; runs = placed (placed w.runs i x.run) i y.run }) (placed-own w.runs i x.run)
    ∙ (λ k. record { pool = (stays x.pool i qs x.run).pool; runs = placed-twice w.runs i x.run (stays x.pool i qs x.run).run k })

houses : (i : ℕ) (qs : List Ask) (l : List Asked) (w : House) → house_after (map (under i) qs ++ l) w ≡ house_after l (housed w i qs)
unfolding house_after stays
houses i [] l w = ap (λ (rs : ℕ → Option Run). house_after l (record { pool = w.pool; runs = rs })) (sym (placed_same w.runs i))
houses i (a ∷ qs) l w = houses i qs l (serve (under i a) w).house ∙ ap (house_after l) (housed-next w i a qs)

-- what is heard under the number j
hears : (j i : ℕ) (qs : List Ask) (l : List Asked) (w : House)
    → heard_under j (map (under i) qs ++ l) w ≡ cond (eqb i j) (stays w.pool i qs (w.runs i)).heard [] ++ heard_under j l (housed w i qs)
unfolding heard_under stays serve placed ask_in
hears j i [] l w = ap (λ (rs : ℕ → Option Run). heard_under j l (record { pool = w.pool; runs = rs })) (sym (placed_same w.runs i)) ∙ none-heard (eqb i j)
  where
    none-heard : (b : Bool) → heard_under j l (housed w i []) ≡ cond b [] [] ++ heard_under j l (housed w i [])
    none-heard true = refl
    none-heard false = refl
hears j i (a ∷ qs) l w = go (eqb i j) refl (hears j i qs l (serve (under i a) w).house)
  where
    x : House
    x = (serve (under i a) w).house

    same : stays x.pool i qs (x.runs i) ≡ stays (ask_in w.pool i a (w.runs i)).pool i qs (ask_in w.pool i a (w.runs i)).run
    same = ap (stays x.pool i qs) (placed-own w.runs i (ask_in w.pool i a (w.runs i)).run)

    rest : (b : Bool) → cond b (stays x.pool i qs (x.runs i)).heard [] ++ heard_under j l (housed x i qs)
        ≡ cond b (stays (ask_in w.pool i a (w.runs i)).pool i qs (ask_in w.pool i a (w.runs i)).run).heard [] ++ heard_under j l (housed w i (a ∷ qs))
    rest b = ap₂ (λ (y : Stayed) (u : House). cond b y.heard [] ++ heard_under j l u) same (housed-next w i a qs)

    go : (b : Bool) → eqb i j ≡ b → heard_under j (map (under i) qs ++ l) x ≡ cond (eqb i j) (stays x.pool i qs (x.runs i)).heard [] ++ heard_under j l (housed x i qs)
        → heard_under j (map (under i) (a ∷ qs) ++ l) w ≡ cond (eqb i j) (stays w.pool i (a ∷ qs) (w.runs i)).heard [] ++ heard_under j l (housed w i (a ∷ qs))
    go true e ih = rw (e, heard_under) (ap (λ (z : List Heard). (serve (under i a) w).heard ∷ z) ((rw e at ih) ∙ rest true))
    go false e ih = rw (e, heard_under) ((rw e at ih) ∙ rest false)

-- ---- one call

-- it leaves the pool and the run that its asks leave, and tells what is heard
record Does (o : Option (List ℕ)) (c : Request) (p : Pool) (i : ℕ) (S S' : FirState) (p' : Pool) : Type 0 where
  pool : p' ≡ (stays p i (asks_by c) (run_of o S)).pool
  run : run_of (image_after o c) S' ≡ (stays p i (asks_by c) (run_of o S)).run
  told : told_in c ≡ map heard_in_numbers (stays p i (asks_by c) (run_of o S)).heard

-- a start
begins : (o : Option (List ℕ)) (image : List ℕ) (x : PoolBegun) (r : FirEntry) (S S' : FirState)
    → Enters x.begun.entry → r ≡ grant_numbers x.begun.entry
    → ((q k : ℕ) → x.begun.entry ≡ Err (denied q k) → S' ≡ S) → (x.begun.entry ≡ Ok tt → held S' ≡ x.begun.state)
    → run_of (cond (eqb r.question 0) (some image) o) S' ≡ started_run image x.begun.state (run_of o S) x.begun.entry
unfolding Enters grant_numbers started_run run_of
begins o image x r S S' n e refused begun = rw e (go x.begun.entry refl n)
  where
    go : (y : Grant) → x.begun.entry ≡ y → Enters y → run_of (cond (eqb (grant_numbers y).question 0) (some image) o) S' ≡ started_run image x.begun.state (run_of o S) y
    go (Err why) h z = rw z (ap (run_of o) (refused why.question why.at h))
    go (Ok _) h z = ap (λ (s : State). some (record { image = image; state = s })) (begun h)

-- a list of one
one : {x y : PoolTold} → x ≡ y → ◌≡◌ {A = List PoolTold} (x ∷ []) (y ∷ [])
one e = ap (λ z. z ∷ []) e

-- a start that has begun: 21 does not refuse its number then, and the buffer is long enough for its first budget
begun-asked : (p : Pool) (i : ℕ) (b : Begun) → (pool_begun_by p i b).begun.entry ≡ Ok tt → (refuses21 (pool_begun_by p i b).pool i ≡ false) × (b.entry ≡ Ok tt)
unfolding pool_begun_as refused noted refuses21
begun-asked p i b = go (refuses21 p i) refl
  where
    by21 : Bool → PoolBegun
    by21 c = elim c [ true ↦ record { pool = p; begun = refused 21 0 } | false ↦ pool_begun_as p i b b.entry ]

    begun : refuses21 p i ≡ false → (x : Grant) → b.entry ≡ x → (pool_begun_as p i b x).begun.entry ≡ Ok tt → (refuses21 (pool_begun_as p i b x).pool i ≡ false) × (x ≡ Ok tt)
    begun r (Err why) e h = let y : Err (denied why.question why.at) ≡ (Ok tt) = sym e ∙ h in let z : ◌≡◌ {A = ℕ} 0 1 = cc in absurd (omega arith)
    begun r (Ok _) e h = (r, refl)

    go : (c : Bool) → refuses21 p i ≡ c → (by21 c).begun.entry ≡ Ok tt → (refuses21 (by21 c).pool i ≡ false) × (b.entry ≡ Ok tt)
    go true r h = let z : ◌≡◌ {A = ℕ} 0 1 = cc in absurd (omega arith)
    go false r h = begun r b.entry refl h

-- a start and its first budget, by the pool, the state and the entry that the start comes to
module _ (o : Option (List ℕ)) (image table : List ℕ) (level f v : ℕ) (words : List ℤ) (n : ℕ) (buffer last : List ℤ) (r : FirAnswer) (i : ℕ) (S S' : FirState) (p' : Pool) where
  abbrev ran : Pool → State → Grant → PoolRan
  ran p s y = pool_run_as (program_of image) i n buffer (record { pool = p; begun = record { state = s; entry = y } }) y

  -- what the two asks leave
  abbrev left_by : Pool → State → Grant → Stayed
  left_by p s y =
      let x = stays p i (cond (eqb r.code 8) [] (go_on (budget n buffer) ∷ [])) (started_run image s (run_of o S) y) in
      record { pool = x.pool; run = x.run; heard = began y ∷ x.heard }

  record Both (p : Pool) (s : State) (y : Grant) : Type 0 where
    pool : p' ≡ (left_by p s y).pool
    goes : run_of (cond (eqb r.code 8) o (some image)) S' ≡ (left_by p s y).run
    told : told_in (run image table level f v words n buffer last r) ≡ map heard_in_numbers (left_by p s y).heard

  ran-by : (p : Pool) (s : State) (y : Grant) → Answers r (ran p s y).ran S S' buffer last → p' ≡ (ran p s y).pool → (y ≡ Ok tt → (refuses21 p i ≡ false) × (long_enough buffer ≡ true)) → Both p s y
  unfolding pool_run_as stays started_run run_of told_in heard_in_numbers answer_numbers grant_numbers ask_in go_on_in Left
  ran-by p s (Err why) a m g =
      let eight : eqb r.code 8 ≡ true = ap (λ (z : FirAnswer). eqb z.code 8) a.numbers in
      record {
        pool = rw eight m;
        goes = rw eight (ap (run_of o) a.state);
        told = rw eight (one (ap (λ (z : FirAnswer). by_begin (record { offset = z.offset; question = z.question })) a.numbers));
      }
  ran-by p s (Ok _) a m g =
      let b = pool_budget (program_of image) p i s n buffer in
      let fine : (q k : ℕ) → b.ran.answer ≡ Answer.Refused q k → ⊥ = λ q k e. pool-not-refused (program_of image) p i s n buffer (g refl).0 (g refl).1 q k e in
      let other : eqb r.code 8 ≡ false = ap (λ (z : FirAnswer). eqb z.code 8) a.numbers ∙ not-8 b.ran.answer b.ran.steps fine in
      record {
        pool = rw other m;
        goes = rw other (ap (λ (u : State). some (record { image = image; state = u })) (left b.ran.answer b.ran.state S S' (λ q k e. absurd (fine q k e)) a.state));
        told = rw other (ap₂ (λ (u : FirAnswer) (w : List ℤ). by_begin (record { offset = 0; question = 0 }) ∷ by_budget u w ∷ []) a.numbers a.written);
      }

does : (o : Option (List ℕ)) (c : Request) (p : Pool) (i : ℕ) (S S' : FirState) (p' : Pool) → MeetsIn o c p i S S' p' → Does o c p i S S' p'
unfolding MeetsIn image_after asks_by stays ask_in go_on_in heard21 told_in heard_in_numbers run_of pool_step pool_budget buffer_of over written pool_change grant_numbers pool_begin
does o (begin image table level f v words buffer r) p i S S' p' (t, h) =
    let k = filled image table t in
    let P = program_in image table in
    let x = pool_begun_by p i (entered_of P level f v words buffer) in
    let e : x ≡ pool_begin image level f v words buffer p i = loaded-pool-begin image table k.size k.count k.ready k.stands level f v words buffer p i in
    let run = begins o image x r S S' (pool-begun-numbered p i (entered_of P level f v words buffer) (entered-numbered P level f v words buffer)) h.0 h.1.refused h.1.state in
    record {
      pool = h.1.pool ∙ ap (λ (y : PoolBegun). y.pool) e;
      run = run ∙ ap (λ (y : PoolBegun). started_run image y.begun.state (run_of o S) y.begun.entry) e;
      told = one (ap by_begin (h.0 ∙ ap (λ (y : PoolBegun). grant_numbers y.begun.entry) e));
    }
does o (run image table level f v words n buffer last r) p i S S' p' (t, h) =
    let k = filled image table t in
    let e = loaded-pool-run image table k.size k.count k.ready k.stands level f v words buffer p i n in
    let b = begin_of image level f v words buffer in
    let x = pool_begun_by p i b in
    let a = subst (λ (y : PoolRan). Answers r y.ran S S' buffer last) e h.0 in
    let fine : x.begun.entry ≡ Ok tt → (refuses21 x.pool i ≡ false) × (long_enough buffer ≡ true) = λ g.
    let y = begun-asked p i b g in
    (y.0, entered-long (program_in image table) level f v words buffer (ap (λ (z : Begun). z.entry) (loaded-begin image table k.size k.count k.ready k.stands level f v words buffer) ∙ y.1)) in
    let d = ran-by o image table level f v words n buffer last r i S S' p' x.pool x.begun.state x.begun.entry a (h.1 ∙ ap (λ (y : PoolRan). y.pool) e) fine in
    record { pool = d.pool; run = d.goes; told = d.told }
does _ (step image table r) p i S S' p' (own _, t, h) =
    let k = filled image table t in
    let e = loaded-pool-step image table k.count k.stands p i (held S) in
    record {
      pool = h.pool ∙ ap (λ (y : PoolStepped). y.pool) e;
      run = ap (λ (s : State). some (record { image = image; state = s })) (h.state ∙ ap (λ (y : PoolStepped). y.state) e);
      told = one (ap by_turn (h.numbers ∙ ap (λ (y : PoolStepped). turn_numbers y.turn) e));
    }
does _ (step image table r) p i S S' p' (foreign _ g, t, h) = record {
  pool = h.pool ∙ rw (g, pool_step) refl;
  run = refl;
  told = one (rw g (ap by_turn (h.numbers ∙ rw (g, pool_step) refl)));
}
does _ (steps image table n buffer last r) p i S S' p' (own _, t, h) =
    let k = filled image table t in
    let e = loaded-pool-budget image table k.count k.stands p i (held S) n buffer in
    let b = pool_budget (program_of image) p i (held S) n buffer in
    let a : Answers r b.ran S S' buffer last = subst (λ (y : PoolRan). Answers r y.ran S S' buffer last) e h.budget in
    record {
      pool = h.pool ∙ ap (λ (y : PoolRan). y.pool) e;
      run = ap (λ (s : State). some (record { image = image; state = s })) (left b.ran.answer b.ran.state S S' (λ q k'. pool-refused-stays (program_of image) p i (held S) n buffer q k') a.state);
      told = one (ap₂ by_budget a.numbers a.written);
    }
does _ (steps image table n buffer last r) p i S S' p' (foreign _ g, t, h) = record {
  pool = h.pool ∙ rw (g, pool_budget) refl;
  run = refl;
  told = one (rw g (ap₂ by_budget (h.budget.numbers ∙ rw (g, pool_budget) refl) (h.budget.written ∙ rw (g, pool_budget) refl)));
}
does _ (update old new r) p i S S' p' (own _, e, same, pool-stays) =
    let c = pool_change p i old new (held S) in
    record {
      pool = pool-stays;
      run = taken (ap (λ (q : FirEntry). cond (eqb q.question 0) new old) e ∙ in-force old new c (pool-change-numbered p i old new (held S))) (ap held same);
      told = one (ap by_change e);
    }
  where
    some-image : (b : Bool) → run_of (cond b (some new) (some old)) S' ≡ some (record { image = cond b new old; state = held S' })
    some-image true = refl
    some-image false = refl

    taken : {i' : List ℕ} → cond (eqb r.question 0) new old ≡ i' → held S' ≡ held S → run_of (cond (eqb r.question 0) (some new) (some old)) S' ≡ some (record { image = i'; state = held S })
    taken a b = some-image (eqb r.question 0) ∙ ap₂ (λ (j : List ℕ) (s : State). some (record { image = j; state = s })) a b
does _ (update old new r) p i S S' p' (foreign _ g, e, same, pool-stays) = record {
  pool = pool-stays;
  run = rw (e, g, pool_change) refl;
  told = one (rw g (ap by_change (e ∙ rw (g, pool_change) refl)));
}

-- ---- lists

-- a call leaves the house that its asks leave
house-of : (h : Host) (c : PoolCall) (S' : FirState) (p' : Pool) → Does (h.images c.number) c.request h.pool c.number (h.states c.number) S' p'
    → house_of (host_after h c S' p') ≡ housed (house_of h) c.number (asks_by c.request)
unfolding put_at placed
house-of h c S' p' d = λ k. record { pool = d.pool k; runs = λ j. at j (eqb j c.number) k }
  where
    at : (j : ℕ) (b : Bool)
        → run_of (cond b (image_after (h.images c.number) c.request) (h.images j)) (cond b S' (h.states j))
        ≡ cond b (stays h.pool c.number (asks_by c.request) (run_of (h.images c.number) (h.states c.number))).run (run_of (h.images j) (h.states j))
    at j true = d.run
    at j false = refl

-- what is told is what is heard, of one list and then of another
map-append : (xs ys : List Heard) → map heard_in_numbers (xs ++ ys) ≡ map heard_in_numbers xs ++ map heard_in_numbers ys
map-append [] ys = refl
map-append (x ∷ xs) ys = ap (λ (l : List PoolTold). heard_in_numbers x ∷ l) (map-append xs ys)

list_of : (h : Host) (cs : List PoolCall) (end : Host) → PoolSession h cs end
    → (house_of end ≡ house_after (asks_of cs) (house_of h)) × ((i : ℕ) → told_under i cs ≡ map heard_in_numbers (heard_under i (asks_of cs) (house_of h)))
unfolding asks_of told_under house_after heard_under
list_of _ _ _ (empty h) = (refl, λ i. refl)
list_of _ _ _ (next h c S' p' cs end m more) =
    let d = does (h.images c.number) c.request h.pool c.number (h.states c.number) S' p' m in
    let e = house-of h c S' p' d in
    let rest = list_of (host_after h c S' p') cs end more in
    (rest.0 ∙ ap (house_after (asks_of cs)) e ∙ sym (houses c.number (asks_by c.request) (asks_of cs) (house_of h)), λ i. told i d e (rest.1 i))
  where
    w : House
    w = housed (house_of h) c.number (asks_by c.request)

    hs : List Heard
    hs = (stays h.pool c.number (asks_by c.request) ((house_of h).runs c.number)).heard

    picked : (b : Bool) → told_in c.request ≡ map heard_in_numbers hs → cond b (told_in c.request) [] ≡ map heard_in_numbers (cond b hs [])
    picked true g = g
    picked false g = refl

    told : (i : ℕ) → Does (h.images c.number) c.request h.pool c.number (h.states c.number) S' p' → house_of (host_after h c S' p') ≡ w
        → told_under i cs ≡ map heard_in_numbers (heard_under i (asks_of cs) (house_of (host_after h c S' p')))
        → cond (eqb c.number i) (told_in c.request) [] ++ told_under i cs ≡ map heard_in_numbers (heard_under i (map (under c.number) (asks_by c.request) ++ asks_of cs) (house_of h))
    told i d e rest =
        ap₂ ◌++◌ (picked (eqb c.number i) d.told) (rest ∙ ap (λ (y : House). map heard_in_numbers (heard_under i (asks_of cs) y)) e)
        ∙ sym (map-append (cond (eqb c.number i) hs []) (heard_under i (asks_of cs) w))
        ∙ ap (map heard_in_numbers) (sym (hears i c.number (asks_by c.request) (asks_of cs) (house_of h)))

-- THE LAW: a list of calls in a pool is the list of its asks
pub calls-are-asks : CallsAreAsks
unfolding CallsAreAsks
calls-are-asks = list_of

-- ---- behind fir_pool_make

-- a pool that was made with the answer 0 has these reserves, which do not sum above 64
made : (reserves : List ℕ) (before p : Pool) (r : FirEntry) → MakesIn r reserves before p → r.question ≡ 0 → (over_reserved reserves ≡ false) × (p ≡ fresh reserves)
unfolding make_of grant_numbers
made reserves before p r m z = go (over_reserved reserves) refl m
  where
    go : (b : Bool) → over_reserved reserves ≡ b → MakesIn r reserves before p → (over_reserved reserves ≡ false) × (p ≡ fresh reserves)
    go true e (a, b) = let y : ◌≡◌ {A = ℕ} 21 0 = rw (e, make_of) at (ap (λ (q : FirEntry). q.question) (sym a) ∙ z) in absurd (omega (arith, y))
    go false e (a, b) = (e, rw (e, make_of) at b)

-- the house behind every list of calls
pub pool-house : (reserves : List ℕ) (before p : Pool) (r : FirEntry) → MakesIn r reserves before p → r.question ≡ 0
    → (states : ℕ → FirState) (cs : List PoolCall) (end : Host) → PoolSession (vacant p states) cs end
    → (over_reserved reserves ≡ false) × (house_of end ≡ house_after (asks_of cs) (opened (fresh reserves)))
unfolding CallsAreAsks run_of
pool-house reserves before p r m z states cs end h =
    let k = made reserves before p r m z in
    (k.0, (calls-are-asks (vacant p states) cs end h).0 ∙ ap (λ (y : Pool). house_after (asks_of cs) (opened y)) k.1)

-- DEMAND 3 in a pool
pub demand3-pool-in-c : Demand3PoolInC
unfolding Demand3PoolInC Demand3Pool
demand3-pool-in-c reserves before p r n m z states cs end h i =
    let k = pool-house reserves before p r m z states cs end h in
    subst (λ (w : House). SafeUnder i (history_under i (asks_of cs) (opened (fresh reserves))) (w.runs i)) (sym k.1) (demand3-pool reserves n k.0 (asks_of cs) i)
