-- What the loop of a budget keeps, and what it comes to.
use mathlib.Core.Path.{◌≡◌, refl, sym, ap, ◌∙◌, subst}
use mathlib.Core.List.{List}
use Prim.Native.Nat.{ℕ, ◌+◌, ◌-◌, ◌*◌, ◌≤◌, ◌<◌}
use native.Mathlib.Omega.{arith}
use native.Mathlib.Decide.{dec_lt}
use lib.IntN.{ℤ}
use lib.ListN.{length, set}
use lib.Seq.{set-get_or, set-set}
use Rattle.layout.specs.Records.{◌!◌}
use Rattle.machine.specs.Allowed.{advance_with, run_with}
use Rattle.machine.specs.Runs.{last_step}
use Rattle.machine.specs.States.{with_end, with_stack}
use Rattle.machine.specs.Try.{got, stuck, stop}
use Rattle.machine.specs.declared.Activation.{Activation}
use Rattle.machine.specs.declared.Answer.{Answer}
use Rattle.machine.specs.declared.End.{End}
use Rattle.machine.specs.declared.State.{State}
use Rattle.machine.specs.declared.Status.{Status}
use Rattle.store.specs.Answers.{end_of}
use Rattle.store.specs.Counts.{Ready}
use Rattle.store.specs.Store.{DEPTH, STATUS, activation_in, state_in, status_of, Sized}
use Rattle.store.specs.declared.Halt.{Halt}
use Rattle.ending.specs.Ends.{stopped_by}
use Rattle.loaded.specs.Loaded.{program_in}
use Rattle.matching.specs.Choosing.{Cached}
use Rattle.running.specs.Budgets as going
use Rattle.running.specs.Budgets.{Keeps, Ran, answer_of, outcome_in}
use Rattle.turning.specs.Standing.{Here, Located, aside, next_byte, next_of, onward, standing, state_at, top_in}
use Rattle.turning.specs.Turning.{Kept, Touched, Turned, Went}
use Rattle.running.specs.declared.Counted.{Counted}
use Rattle.running.specs.declared.Pause.{Pause}
use Rattle.turning.specs.declared.Spot.{Spot}
use Rattle.turning.specs.declared.Turn.{Turn}
use Rattle.turning.proofs.Locating.{top-there}
use Rattle.turning.proofs.Turning.{depth-set, depth-there, standing-same, synced, synced-ready}
use Rattle.running.proofs.Turns.{turn-done, turn-none, turn_on, turn-stop, turn-stuck}

-- the state that the run has come to: at the spot, or as the arrays say where it stands nowhere
pub record Come (s t : List ℕ) (most budget : ℕ) (b₀ : List ℕ) (n₀ : List ℤ) (b : List ℕ) (n : List ℤ) (p : Spot) (m : ℕ) (u : State) : Type 0 where
  pub here : 0 < p.last → u ≡ state_at b n p
  pub lost : p.last ≡ 0 → u ≡ state_in b n
  pub same : run_with most (program_in s t) (budget - m) u m ≡ run_with most (program_in s t) budget (state_in b₀ n₀) 0

-- after m steps
pub record Going (s t : List ℕ) (most budget : ℕ) (b₀ : List ℕ) (n₀ : List ℤ) (b : List ℕ) (n : List ℤ) (c x : List ℕ) (p : Spot) (left : ℕ) : Type 0 where
  pub ready : Ready b n c
  pub cached : Cached s t x
  pub run : (state_in b n).status ≡ Status.Running
  pub kept : Kept s t b n p
  pub within : left ≤ budget
  pub state : State
  pub allowed : p.most ≡ most
  pub come : Come s t most budget b₀ n₀ b n p (budget - left) state
  pub first : left ≡ budget → (b ≡ b₀) × (n ≡ n₀) × (0 < p.last → next_of p ≡ (top_in b).next)

-- the state that says where it stands
at_first : (s t b : List ℕ) (n : List ℤ) (p : Spot) → Here s t b n p → next_of p ≡ (top_in b).next → state_at b n p ≡ state_in b n
at_first s t b n p H e = ap (standing (state_in b n) (top_in b)) e ∙ standing-same (state_in b n) (top_in b) H.spotted.top

-- the number of the next instruction written where it stands already
same_next : (b : List ℕ) (p : Spot) → next_of p ≡ (top_in b).next → set b (next_byte b) (next_of p) ≡ b
unfolding activation_in
same_next b p e = ap (set b (next_byte b)) e ∙ set-get_or b (next_byte b) 0

pub kept_by : (s t b : List ℕ) (n : List ℤ) (p : Spot) → Located s t b p → Kept s t b n p
kept_by s t b n p L = record { lost = λ z. L.lost z n; none = L.none; here = λ l. L.here l n }

module _ (s t : List ℕ) (most budget : ℕ) (b₀ : List ℕ) (n₀ : List ℤ) where
  pub going_start : (c x : List ℕ) (p : Spot) → Ready b₀ n₀ c → Cached s t x → b₀ ! STATUS ≡ 0 → Located s t b₀ p → p.most ≡ most → Going s t most budget b₀ n₀ b₀ n₀ c x p budget
  unfolding state_in status_of
  going_start c x p R C z L a = record {
    allowed = a;
    ready = R;
    cached = C;
    run = rw z refl;
    kept = kept_by s t b₀ n₀ p L;
    within = omega arith;
    state = state_in b₀ n₀;
    come = record {
      here = λ l. sym (at_first s t b₀ n₀ p (L.here l n₀) (L.next l));
      lost = λ _. refl;
      same = let e : budget - budget ≡ 0 = omega arith in let f : budget -
          (budget - budget) ≡ budget = omega arith in rw (f, e) refl;
    };
    first = λ _. (refl, refl, L.next);
  }

  module _ (b : List ℕ) (n : List ℤ) (c x : List ℕ) (p : Spot) (left : ℕ) (G : Going s t most budget b₀ n₀ b n c x p left) (more : left ≡ 0 → ⊥) where
    abbrev m : ℕ
    m = budget - left

    abbrev u : State
    u = G.state

    status-here : 0 < p.last → u.status ≡ Status.Running
    unfolding standing aside with_stack
    status-here l = ap (λ (w : State). w.status) (G.come.here l) ∙ G.run

    next-count : budget - (left - 1) ≡ m + 1
    next-count = let w = G.within in omega arith

    under : m < budget
    under = let w = G.within in omega arith

    -- the spot says how many vectors it may have
    to-most : (v : State) → advance_with most (program_in s t) v ≡ advance_with p.most (program_in s t) v
    to-most v = ap (λ j. advance_with j (program_in s t) v) (sym G.allowed)

    on-with : (u' : State) → 0 < p.last → advance_with p.most (program_in s t) (state_at b n p) ≡ got u' → u'.status ≡ Status.Running → run_with most (program_in s t)
        (budget - (budget - (left - 1))) u' (budget - (left - 1)) ≡ run_with most (program_in s t) budget (state_in b₀ n₀) 0
    on-with u' l e q = ap (λ j. run_with most (program_in s t) (budget - j) u' j) next-count ∙ sym
        (turn_on most (program_in s t) u (status-here l) budget m under u' (to-most u ∙ ap (advance_with p.most (program_in s t)) (G.come.here l) ∙ e) q) ∙ G.come.same

    module _ (b' : List ℕ) (n' : List ℤ) (c' x' : List ℕ) (r : Turn) (T : Turned r s t b n b' n' c' p) (C : Cached s t x') where
      not-lost : (r ≡ Turn.Stuck → ⊥) → 0 < p.last
      not-lost h = go (dec_lt 0 p.last)
        where
          go : Dec (0 < p.last) → 0 < p.last
          go (yes l) = l
          go (no l) = absurd (h (T.lost (omega arith)).0)

      pub going_on : r ≡ Turn.On → Going s t most budget b₀ n₀ b' n' c' x' (onward p 1) (left - 1)
      unfolding Went onward standing aside with_stack
      going_on e =
          let l = not-lost (λ h. let o : ◌≡◌ {A = ℕ} 0 1 = cc in omega arith) in
          let W = subst (λ y. Went y s t b n b' n' c' p) e (T.went l) in
          record {
            ready = W.2;
            cached = C;
            run = W.3 G.run;
            allowed = G.allowed;
            kept = record { lost = λ z. absurd (omega (arith, l, z)); none = λ z. absurd (omega (arith, l, z)); here = λ _. W.1 };
            within = let w = G.within in omega arith;
            state = state_at b' n' (onward p 1);
            come = record { here = λ _. refl; lost = λ z. absurd (omega (arith, l, z)); same = on-with (state_at b' n' (onward p 1)) l W.0 (W.3 G.run) };
            first = λ q. let w = G.within in absurd (omega (arith, q, w, more));
          }

      pub going-over : (j : ℕ) → r ≡ Turn.Over j → Going s t most budget b₀ n₀ b' n' c' x' (onward p (1 + j)) (left - 1)
      unfolding Went onward standing aside with_stack
      going-over j e =
          let l = not-lost (λ h. let o : ◌≡◌ {A = ℕ} 0 1 = cc in omega arith) in
          let W = subst (λ y. Went y s t b n b' n' c' p) e (T.went l) in
          rw (W.1, W.2) (record {
            ready = rw (sym W.1, sym W.2) W.3;
            cached = C;
            run = G.run;
            allowed = G.allowed;
            kept = record { lost = λ z. absurd (omega (arith, l, z)); none = λ z. absurd (omega (arith, l, z)); here = λ _. W.4 };
            within = let w = G.within in omega arith;
            state = state_at b n (onward p (1 + j));
            come = record { here = λ _. refl; lost = λ z. absurd (omega (arith, l, z)); same = on-with (state_at b n (onward p (1 + j))) l W.0 G.run };
            first = λ q. let w = G.within in absurd (omega (arith, q, w, more));
          })

      pub going-moved : r ≡ Turn.Moved → (p' : Spot) → Located s t b' p' → p'.most ≡ most → Going s t most budget b₀ n₀ b' n' c' x' p' (left - 1)
      unfolding Went
      going-moved e p' L a =
          let l = not-lost (λ h. let z : ◌≡◌ {A = ℕ} 0 1 = cc in omega arith) in
          let W = subst (λ y. Went y s t b n b' n' c' p) e (T.went l) in
          record {
            ready = W.1;
            cached = C;
            run = W.2 G.run;
            allowed = a;
            kept = kept_by s t b' n' p' L;
            within = let w = G.within in omega arith;
            state = state_in b' n';
            come = record { here = λ k. sym (at_first s t b' n' p' (L.here k n') (L.next k)); lost = λ _. refl; same = on-with (state_in b' n') l W.0 (W.2 G.run) };
            first = λ q. let w = G.within in absurd (omega (arith, q, w, more));
          }

      pub going_done : r ≡ Turn.Done → Ran (record { pause = Pause.Ended; steps = m + 1 }) s t b₀ n₀ b' n' most budget
      unfolding Went answer_of
      going_done e =
          let l = not-lost (λ h. let z : ◌≡◌ {A = ℕ} 0 1 = cc in omega arith) in
          let W = subst (λ y. Went y s t b n b' n' c' p) e (T.went l) in
          let E = W.2 G.run in
          record {
            ran = sym G.come.same ∙ turn-done most (program_in s t) u (status-here l) budget m under (state_in b' n') E.0
                (to-most u ∙ ap (advance_with p.most (program_in s t)) (G.come.here l) ∙ W.0) E.1 ∙ rw (E.1, E.2) refl;
            over = λ _. (E.0, E.1);
            stuck = λ h. let z : ◌≡◌
                {A = ℕ} 0 1 = cc in absurd (omega arith);
            none = λ z. absurd (omega (arith, under, z));
          }

      -- the arrays where it pauses
      module _ (b'' : List ℕ) (K : Keeps b' b'' p) (W : Touched b n b' n') where
        deep-here : 0 < p.last → 0 < b ! DEPTH
        unfolding state_in
        deep-here l = (G.kept.here l).spotted.deep

        same_byte : 0 < p.last → next_byte b' ≡ next_byte b
        same_byte l = ap next_byte W.bytes ∙ ap (λ d. 2048 + 8 * (d - 1) + 5) (depth-set b n c G.ready (deep-here l) (G.kept.here l).low W.next)

        paused-is : 0 < p.last → b'' ≡ set b (next_byte b) (next_of p)
        paused-is l = K.here l ∙ ap (λ i. set b' i (next_of p)) (same_byte l) ∙ ap (λ y. set y (next_byte b) (next_of p)) W.bytes ∙ set-set b (next_byte b) W.next (next_of p)

        paused-here : 0 < p.last → state_in b'' n ≡ u
        paused-here l = ap (λ y. state_in y n) (paused-is l) ∙ synced b n c G.ready (deep-here l) (G.kept.here l).low (next_of p) ∙ sym (G.come.here l)

        byte-is : 0 < p.last → next_of p ≡ (top_in b).next → b'' ≡ b
        byte-is l e = paused-is l ∙ same_next b p e

        steps-none : m ≡ 0 → left ≡ budget
        steps-none z = let w = G.within in omega arith

        length-paused : 0 < p.last → Ready b'' n c
        length-paused l = subst (λ y. Ready y n c) (sym (paused-is l)) (synced-ready b n c G.ready (deep-here l) (G.kept.here l).low (next_of p))

        pub going-stop : (h : Halt) → r ≡ Turn.Stop h → (b''' : List ℕ) → state_in b''' n' ≡ stopped_by b'' n' h → Ran (record {
          pause = Pause.Ended;
          steps = m + last_step
              (end_of h);
        }) s t b₀ n₀ b''' n' most budget
        unfolding Went answer_of with_end
        going-stop h e b''' q =
            let l = not-lost (λ k. let z : ◌≡◌ {A = ℕ} 0 1 = cc in omega arith) in
            let A = (subst (λ y. Went y s t b n b' n' c' p) e (T.went l)).0 in
            let z = ap (λ y. state_in b'' y) W.numbers ∙ paused-here l in
            record {
              ran = sym G.come.same ∙ turn-stop most (program_in s t) u (status-here l) budget m under (end_of h)
                  (to-most u ∙ ap (advance_with p.most (program_in s t)) (G.come.here l) ∙ A) ∙ sym (rw (q, z) refl);
              over = λ _. (end_of h, ap (λ (w : State). w.status) q);
              stuck = λ k. let o : ◌≡◌ {A = ℕ} 0 1 = cc in absurd (omega arith);
              none = λ k. absurd (omega (arith, under, k));
            }

        pub stop-sized : (h : Halt) → r ≡ Turn.Stop h → Sized b'' n'
        stop-sized h e =
            let l = not-lost (λ k. let z : ◌≡◌ {A = ℕ} 0 1 = cc in omega arith) in
            let Q = length-paused l in
            (Q.bytes, ap length W.numbers ∙ Q.numbers)

        stuck-here : 0 < p.last → r ≡ Turn.Stuck → Ran (record { pause = Pause.Stuck; steps = m }) s t b₀ n₀ b'' n' most budget
        unfolding Went answer_of
        stuck-here l e =
            let A = (subst (λ y. Went y s t b n b' n' c' p) e (T.went l)).0 in
            let z = ap (λ y. state_in b'' y) W.numbers ∙ paused-here l in
            record {
              ran = sym G.come.same ∙ turn-stuck most (program_in s t) u (status-here l) budget m under (to-most u ∙ ap (advance_with p.most (program_in s t)) (G.come.here l) ∙ A)
                  ∙ sym (rw z refl);
              over = λ k. let o : ◌≡◌ {A = ℕ} 0 1 = cc in absurd (omega arith);
              stuck = λ _ k. let F = G.first (steps-none k) in (byte-is l (F.2 l) ∙ F.0, W.numbers ∙ F.1);
              none = λ k. absurd (omega (arith, under, k));
            }

      -- where it stands nowhere
      stuck-lost : (b'' : List ℕ) → Keeps b' b'' p → p.last ≡ 0 → Ran (record { pause = Pause.Stuck; steps = m }) s t b₀ n₀ b'' n' most budget
      unfolding answer_of
      stuck-lost b'' K z =
          let T₀ = T.lost z in
          let e : b'' ≡ b = K.lost z ∙ T₀.1 in
          let q : state_in b'' n' ≡ u = rw (e, T₀.2) (sym (G.come.lost z)) in
          let A : advance_with most (program_in s t) u ≡ stuck = to-most u ∙ ap (advance_with p.most (program_in s t)) (G.come.lost z) ∙ G.kept.lost z in
          let g : u.status ≡ Status.Running = ap (λ (w : State). w.status) (G.come.lost z) ∙ G.run in
          record {
            ran = sym G.come.same ∙ turn-stuck most (program_in s t) u g budget m under A ∙ sym (rw q refl);
            over = λ k. let o : ◌≡◌ {A = ℕ} 0 1 = cc in absurd (omega arith);
            stuck = λ _ k. let w = G.within in let F = G.first (omega arith) in (e ∙ F.0, T₀.2 ∙ F.1);
            none = λ k. absurd (omega (arith, under, k));
          }

      pub going-stuck : (b'' : List ℕ) → Keeps b' b'' p → r ≡ Turn.Stuck → Ran (record { pause = Pause.Stuck; steps = m }) s t b₀ n₀ b'' n' most budget
      unfolding Went
      going-stuck b'' K e = go (dec_lt 0 p.last)
        where
          go : Dec (0 < p.last) → Ran (record { pause = Pause.Stuck; steps = m }) s t b₀ n₀ b'' n' most budget
          go (yes l) = stuck-here b'' K (subst (λ y. Went y s t b n b' n' c' p) e (T.went l)).1 l e
          go (no l) = stuck-lost b'' K (omega arith)

      pub stop-touched : (h : Halt) → r ≡ Turn.Stop h → Touched b n b' n'
      unfolding Went
      stop-touched h e = (subst (λ y. Went y s t b n b' n' c' p) e (T.went (not-lost (λ k. let z : ◌≡◌ {A = ℕ} 0 1 = cc in omega arith)))).1

      -- what `keep` asks for
      pub may-keep : (r ≡ Turn.Rest → ⊥) → Touched b n b' n' → 0 < p.last → going.Standing b' p
      may-keep o W l =
          let H = G.kept.here l in
          let d : b' ! DEPTH ≡ b ! DEPTH = ap (λ y. y ! DEPTH) W.bytes ∙ depth-set b n c G.ready (H-deep l) H.low W.next in
          let z = H-deep l in
          let w = H.low in
          record { deep = omega arith; low = omega arith; first = H.first; near = H.near; small = H.small }
        where
          H-deep : 0 < p.last → 0 < b ! DEPTH
          H-deep l = depth-there s t b n p (G.kept.here l) c G.ready

      pub stuck-keep : r ≡ Turn.Stuck → 0 < p.last → going.Standing b' p
      unfolding Went
      stuck-keep e l = may-keep T.told (subst (λ y. Went y s t b n b' n' c' p) e (T.went l)).1 l

      pub stop-keep : (h : Halt) → r ≡ Turn.Stop h → 0 < p.last → going.Standing b' p
      stop-keep h e l = may-keep T.told (stop-touched h e) l

      pub over-low : (j : ℕ) → r ≡ Turn.Over j → j < 256
      unfolding Went
      over-low j e = (subst (λ y. Went y s t b n b' n' c' p) e (T.went (not-lost (λ h. let z : ◌≡◌ {A = ℕ} 0 1 = cc in omega arith)))).5

  -- where the budget is used up
  module _ (b : List ℕ) (n : List ℤ) (c x : List ℕ) (p : Spot) (left : ℕ) (G : Going s t most budget b₀ n₀ b n c x p left) where
    pub none-keep : 0 < p.last → going.Standing b p
    none-keep l = let H = G.kept.here l in record { deep = depth-there s t b n p H c G.ready; low = H.low; first = H.first; near = H.near; small = H.small }

    pub next_low : p.next < 70000
    next_low = go (dec_lt 0 p.last)
      where
        go : Dec (0 < p.last) → p.next < 70000
        go (yes l) = let H = G.kept.here l in let a = H.near in let z = H.small in omega arith
        go (no l) = let z = G.kept.none (omega arith) in omega arith

    pub going-none : left ≡ 0 → (b'' : List ℕ) → Keeps b b'' p → Ran (record { pause = Pause.Steps; steps = budget }) s t b₀ n₀ b'' n most budget
    unfolding answer_of
    going-none z b'' K = record {
      ran = sym G.come.same ∙ turn-none most (program_in s t) G.state budget (budget - left) (omega arith) ∙
          (let e : budget - left ≡ budget = omega arith in sym (rw (paused (dec_lt 0 p.last), e) refl));
      over = λ h. let o : ◌≡◌ {A = ℕ} 0 1 = cc in absurd (omega arith);
      stuck = λ h. let o : ◌≡◌ {A = ℕ} 0 1 = cc in absurd (omega arith);
      none = λ h. let F = G.first (omega arith) in (untouched F.2 (dec_lt 0 p.last) ∙ F.0, F.1);
    }
      where
        untouched : (0 < p.last → next_of p ≡ (top_in b).next) → Dec (0 < p.last) → b'' ≡ b
        untouched e (yes l) = K.here l ∙ same_next b p (e l)
        untouched e (no l) = K.lost (omega arith)

        paused : Dec (0 < p.last) → state_in b'' n ≡ G.state
        paused (yes l) = let H = G.kept.here l in ap (λ y. state_in y n) (K.here l) ∙ synced b n c G.ready (depth-there s t b n p H c G.ready) H.low (next_of p) ∙ sym
            (G.come.here l)
        paused (no l) = let w : p.last ≡ 0 = omega arith in ap (λ y. state_in y n) (K.lost w) ∙ sym (G.come.lost w)

-- one sum for another
pub over-spot : (s t : List ℕ) (most budget : ℕ) (b₀ : List ℕ) (n₀ : List ℤ) (b : List ℕ) (n : List ℤ) (c x : List ℕ) (p : Spot) (left j : ℕ) → Going s t most budget b₀ n₀ b n c x
    (onward p (1 + j)) left
    → Going s t most budget b₀ n₀ b n c x (record { frame = p.frame; block = p.block; next = p.next + 1 + j; last = p.last; most = p.most }) left
unfolding onward
over-spot s t most budget b₀ n₀ b n c x p left j G = let e : p.next + (1 + j) ≡ p.next + 1 + j = omega arith in subst
    (λ i. Going s t most budget b₀ n₀ b n c x (record { frame = p.frame; block = p.block; next = i; last = p.last; most = p.most }) left) e G

-- the same with the spot's fields apart
pub going-apart : (s t : List ℕ) (most budget : ℕ) (b₀ : List ℕ) (n₀ : List ℤ) (b : List ℕ) (n : List ℤ) (c x : List ℕ) (p : Spot) (left : ℕ) → p.most ≡ most
    → Going s t most budget b₀ n₀ b n c x p left
    → Going s t most budget b₀ n₀ b n c x (record { frame = p.frame; block = p.block; next = p.next; last = p.last; most = most }) left
going-apart s t most budget b₀ n₀ b n c x p left e G = subst (λ i. Going s t most budget b₀ n₀ b n c x
    (record { frame = p.frame; block = p.block; next = p.next; last = p.last; most = i }) left) e G

-- the same spot, by its parts, and the same number of steps left
pub going-same : (s t : List ℕ) (most budget : ℕ) (b₀ : List ℕ) (n₀ : List ℤ) (b : List ℕ) (n : List ℤ) (c x : List ℕ) (p : Spot) (left : ℕ) → Going s t most budget b₀ n₀ b n c x p left
    → {f k i z l : ℕ} → f ≡ p.frame → k ≡ p.block → i ≡ p.next → z ≡ p.last → p.most ≡ most → l ≡ left
    → Going s t most budget b₀ n₀ b n c x (record { frame = f; block = k; next = i; last = z; most = most }) l
going-same s t most budget b₀ n₀ b n c x p left G ef ek ei ez em el = rw (ef, ek, ei, ez, el) (going-apart s t most budget b₀ n₀ b n c x p left em G)
