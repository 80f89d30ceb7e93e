-- From one step to all events: a run with m steps paid for takes no more than m.
use mathlib.Core.Path.{◌≡◌, refl, sym, ◌∙◌, subst}
use mathlib.Core.List.{List, Memᴰ}
use mathlib.Core.Option.{some}
use mathlib.Core.Bool.{Bool, true, false, cond, not}
use Prim.Native.Nat.{ℕ, suc, ◌+◌, ◌-◌, ◌≤◌, ◌<◌}
use native.Mathlib.Omega.{arith}
use lib.ListN.{length, get_elem?, set, take, length-set}
use lib.Dec.{ltb, leb}
use borrow.Author.Tests.{ltb-true, not-true}
use Rattle.layout.proofs.Lists.{get-some, get_in, get_take}
use Rattle.program.specs.Program.{Argument, Instr, LIT, MOVE, USE, DUP, VEC, LEN, GET, SET, ARITH, SELECT, CAST, NAMED, STORE, PROM, FORCE, PEEK, POKE, CALL, DISPATCH, SKIP, Line, Version, Program, find_version, parameter_types}
use Rattle.program.proofs.Held.{find-own}
use Rattle.checker.proofs.Limits.{limited}
use Rattle.machine.proofs.Tries.{or-stuck, put-there}
use Rattle.machine.specs.Try.{Try, got, stuck, stop, ◌>>=◌, ◌>>◌, stuck_unless, end_unless, or_stuck, at, put, each}
use Rattle.machine.specs.States.{ACTIVATIONS, PROMISES, register, value, integer, live_activations, a_promise, promise, kind_in, is_promise, refers, live_frames, pending, free_promise, with_stack, with_promise, assign}
use Rattle.machine.specs.Calls.{opened, passed, matching, emptied, frame_for, enter, picked, force, skipped}
use Rattle.machine.specs.Values.{is_zero}
use Rattle.layout.specs.Bounds.{INSTRUCTIONS}
use Rattle.machine.specs.Steps.{registers_of, execute, execute_to, proceed_to, position, proceed, advance}
use Rattle.machine.specs.declared.Activation.{Activation}
use Rattle.machine.specs.declared.Cache.{Cache}
use Rattle.machine.specs.declared.End.{End}
use Rattle.machine.specs.declared.Frame.{Frame}
use Rattle.machine.specs.declared.Opener.{Opener}
use Rattle.machine.specs.declared.Promise.{Promise}
use Rattle.machine.specs.declared.State.{State}
use Rattle.machine.specs.declared.Status.{Status}
use Rattle.machine.specs.declared.Value.{Value}
use Rattle.runs.specs.Lives.{is_call}
use Rattle.runs.proofs.Keeps.{Gives, gives_then, gives-next, gives_after, gives-weaken, gives-got, Keeps, assign-keeps, emptied-keeps, execute-keeps}
use Rattle.soundness.proofs.Cells.{frame_at, frame_is}
use Rattle.soundness.proofs.Invariant.{Sure, version_at, block_at, promise_at, no_promise, no_block, Heap, stack_of, Inv}
use Rattle.soundness.proofs.Stacks.{top_of, here_of, has-top, at_top, top-live, advance-is, position-is, below-le, Standing, at-line, at-end, standing}
use Rattle.bounds.specs.Bounds.{reaches, steps_at, steps_of}
use Rattle.bounds.proofs.Trees.{sum_from, promised, body-worth}
use Rattle.bounds.proofs.Calm.{holds, Still, still-same, no-integer, value_in, gives_both, gives_all, Either, assign-either, assign-rests, assign-still, emptied-still, execute-still, is_plain, In, each_in, register-in, live-holds, new-refers}
use Rattle.bounds.proofs.Potential.{AllIn, stack-in, worth_at, left, owed, Paid, paid-more, Falls}
use Rattle.bounds.proofs.Spending.{left-positive, free_in, same-promise, left-start, passed-stack, passed-falls, skip-falls, still-falls, prom-paid}
use Rattle.bounds.proofs.Opening.{opening, force-paid, enter-paid}
use Rattle.bounds.proofs.Ending.{finish-next}
use Rattle.bounds.proofs.Priced.{Own, Priced, call-reaches, dispatch-reaches, depends-on, in-largest}

-- an end that is not reached goes on
end-true : (e : End) (b : Bool) (x : Unit {0}) → end_unless e b ≡ got x → b ≡ true
unfolding end_unless
end-true e true x h = refl
end-true e false x h = let z : ◌≡◌ {A = ℕ} 0 1 = cc in absurd (omega arith)

-- the promise that a register holds
promise-held : (f : Frame) (r : ℕ) → Gives (λ (p : ℕ). refers (is_promise p) f ≡ true) (promise f r)
unfolding promise a_promise Gives
promise-held f r = gives_then _ (register f r) _ (λ x e. go x (λ p. gives-got (In p f) (register f r) x (register-in p f r) e))
  where
    go : (x : Value) → ((p : ℕ) → In p f x) → Gives (λ (p : ℕ). refers (is_promise p) f ≡ true) (a_promise x)
    go Value.Empty i = tt
    go (Value.Integer z) i = tt
    go (Value.Vector v) i = tt
    go (Value.Promise p) i = i p (same-promise p)

-- a result, by what it is
gives-got-then : {A : Type 0} {Q : A → Type 0} (t : Try A) → ((a : A) → t ≡ got a → Q a) → Gives Q t
unfolding Gives
gives-got-then (got a) h = h a refl
gives-got-then stuck h = tt
gives-got-then (stop e) h = tt

-- SKIP taken, and not taken
skip-gives : (s : State) (n : ℕ) (Q : State → Type 0) → ((b : Activation) → at (live_activations s) (s.depth - 1) ≡ got b → Q (with_stack s s.frames s.calls (set s.activations (s.depth - 1) (record { opener = b.opener; d = b.d; frame = b.frame; block = b.block; next = b.next + n })) s.depth)) → Gives Q (skipped s n)
unfolding skipped Gives
skip-gives s n Q h = gives_then _ (at (live_activations s) (s.depth - 1)) _ (λ b e. gives-next _ (stuck_unless (leb (b.next + n) INSTRUCTIONS)) _ (λ _ _. h b e))

stays-way : (s : State) (n : ℕ) (Q : State → Type 0) → Q s → Gives Q (cond false (skipped s n) (got s))
unfolding Gives
stays-way s n Q h = h

passed-depth : (s : State) (a : Activation) → (passed s a).depth ≡ s.depth
unfolding passed with_stack
passed-depth s a = refl

-- a live activation that is found stands there
live-act : (s : State) (b : Activation) → at (live_activations s) (s.depth - 1) ≡ got b → s.depth - 1 < s.depth → get_elem? s.activations (s.depth - 1) ≡ some b
unfolding at live_activations
live-act s b e l = sym (get_take s.activations s.depth (s.depth - 1) l) ∙ or-stuck (get_elem? (take s.depth s.activations) (s.depth - 1)) b e

-- one more activation
opened-is : (s t : State) (a : Activation) → opened s a ≡ got t → (s.depth < ACTIVATIONS) × (opening s a ≡ t)
unfolding opened ◌>>◌ end_unless
opened-is s t a e = go (ltb s.depth ACTIVATIONS) refl e
  where
    go : (b : Bool) → ltb s.depth ACTIVATIONS ≡ b → (end_unless End.Deep b >> got (opening s a)) ≡ got t → (s.depth < ACTIVATIONS) × (opening s a ≡ t)
    go true l q = (ltb-true s.depth ACTIVATIONS l, cc)
    go false l q = let z : ◌≡◌ {A = ℕ} 0 1 = cc in absurd (omega arith)

module _ (P : Program) (sure : Sure P) (bound : Version → ℕ) (G : Version → Bool) (agree : Priced P bound G) where
  abbrev price : Version → Instr → ℕ
  price = steps_at P bound

  -- the body of a version with a bound, with all that is entered from it
  pub body-cost : (X : Version) → Own P X → G X ≡ true → left P price X 0 0 ≤ bound X
  unfolding worth_at block_at steps_of
  body-cost X o g =
      let ck = sure X.function X.version X o in
      let n = (limited P X ck).body in
      omega (arith, left-start P sure price G X ck 0 (get-some X.blocks 0 no_block n), body-worth P X ck (price X) n, agree.covers X o g)

  -- ---- the instruction l of a running state

  module _ (s : State) (inv : Inv P s) (run : s.status ≡ Status.Running) (h : ℕ) (d : s.depth ≡ suc h) (l : Line) (line : get_elem? (block_at (version_at P s.frames (top_of s h).frame) (top_of s h).block).code (top_of s h).next ≡ some l) (m : ℕ) (paid : Paid P price G s m) where
    abbrev k : ℕ
    k = (top_of s h).frame

    abbrev W : Version
    W = version_at P s.frames k

    abbrev u : State
    u = passed s (top_of s h)

    abbrev Next : State → Type 0
    Next t = Falls P price G s t m 1

    past : Falls P price G s u m (price W l.does + promised (worth_at P price W) l.does)
    past = passed-falls P sure price G s inv run h d l line m paid

    heap : Heap P inv.keep u.frames u.calls u.promises
    unfolding passed with_stack
    heap = inv.heap

    room : length u.activations ≡ ACTIVATIONS
    unfolding passed with_stack
    room = length-set s.activations (s.depth - 1) _ ∙ inv.room

    live : at (live_frames u) k ≡ got (frame_at s.frames k)
    unfolding passed with_stack live_frames
    live = frame_is s inv.heap.sized k (top-live P s inv run h d) inv.heap.bound

    -- every activation works in a live frame
    all_in : AllIn u.calls (stack_of u.activations u.depth)
    unfolding AllIn passed with_stack
    all_in = rw (passed-stack P sure price G s inv run h d l line) (top-live P s inv run h d, stack-in P inv.keep s.frames s.calls _ _ (stack_of s.activations h) (below-le s.calls _ _ _ (at_top P s inv run h d).1) (at_top P s inv run h d).2)

    -- an instruction costs one step at least
    spent : (t : State) (n : ℕ) → Paid P price G t (past.rest + n) → n + 1 ≤ price W l.does + promised (worth_at P price W) l.does → Next t
    spent t n p c = record { rest = past.rest + n; falls = omega (arith, past.falls, c); paid = p }

    plain-next : (i : Instr) → is_plain i ≡ true → is_call i ≡ false → Gives Next (execute P u k (frame_at s.frames k) W i)
    unfolding steps_at
    plain-next i e f = gives-weaken _ _ (execute P u k (frame_at s.frames k) W i) (gives_both _ _ (execute P u k (frame_at s.frames k) W i) (execute-still P u k (frame_at s.frames k) W live i e) (execute-keeps P u k (frame_at s.frames k) W i f))
        (λ t g. let r = still-falls P sure price G u t past.rest g.0 g.1 past.paid in record { rest = r.rest; falls = omega (arith, past.falls, r.falls); paid = r.paid })

    -- PROM
    made-next : (dst block : ℕ) → l.does ≡ PROM dst block → (n : ℕ) → free_promise u ≡ got n → Gives Next (assign (with_promise u n (record { frame = k; block = block; cache = Cache.Unforced })) k dst (Value.Promise n))
    unfolding steps_at promised free_promise passed with_stack
    made-next dst block e n f =
        let q : Promise = record { frame = k; block = block; cache = Cache.Unforced } in
        let x : Value = Value.Promise n in
        gives-weaken _ _ (assign (with_promise u n q) k dst x) (gives_both _ _ (assign (with_promise u n q) k dst x) (gives_both _ _ (assign (with_promise u n q) k dst x) (assign-rests (with_promise u n q) k dst x) (gives_all (λ (p : ℕ). Either p (with_promise u n q) x) (assign (with_promise u n q) k dst x) (λ p. assign-either p (with_promise u n q) k dst x))) (assign-keeps (with_promise u n q) k dst x))
        (λ t g. spent t (worth_at P price W block) (prom-paid P sure price G u n k block (omega (arith, free_in End.Promises _ PROMISES 0 n f, heap.pool)) t past.rest g.0.0 g.0.1 g.1 past.paid) (rw e (omega arith)))

    prom-next : (dst block : ℕ) → l.does ≡ PROM dst block → Gives Next (execute P u k (frame_at s.frames k) W (PROM dst block))
    unfolding execute_to
    prom-next dst block e = gives-next _ (at W.blocks block) _ (λ _ _. gives_then _ (free_promise u) _ (λ n f. made-next dst block e n f))

    -- FORCE
    cheap : 0 + 1 ≤ price W l.does + promised (worth_at P price W) l.does
    unfolding steps_at
    cheap = omega arith

    dear : (X : Version) → Memᴰ X (reaches P W l.does) → bound X + 1 ≤ price W l.does + promised (worth_at P price W) l.does
    unfolding steps_at
    dear X mem = omega (arith, in-largest bound (reaches P W l.does) X mem)

    still-next : (t : State) → Still u t → Keeps u t → Next t
    still-next t a b = let r = still-falls P sure price G u t past.rest a b past.paid in record { rest = r.rest; falls = omega (arith, past.falls, r.falls, cheap); paid = r.paid }

    force-next : (dst p : ℕ) → holds u p ≡ true → (c : Cache) → (promise_at u.promises p).cache ≡ c → Gives Next (force u k dst p (promise_at u.promises p) c)
    unfolding force
    force-next dst p e (Cache.Forced z) c = gives-weaken _ _ (assign u k dst (Value.Integer z)) (gives_both _ _ (assign u k dst (Value.Integer z)) (assign-still u u k dst (Value.Integer z) (still-same u) (λ v. no-integer v z _)) (assign-keeps u k dst (Value.Integer z))) (λ t g. still-next t g.0 g.1)
    force-next dst p e Cache.Unforced c = gives-next _ (end_unless End.Undef (not (pending u p))) _ (λ x y.
        gives-got-then (opened u _) (λ t q. let o = opened-is u t _ q in
        subst Next o.1 (spent _ 0 (paid-more P price G _ past.rest (past.rest + 0) (force-paid P sure price G u inv.keep heap room o.0 dst p e c (not-true _ (end-true End.Undef (not (pending u p)) x y)) past.rest past.paid) (omega arith)) cheap)))

    forced-next : (dst a : ℕ) → Gives Next (execute P u k (frame_at s.frames k) W (FORCE dst a))
    unfolding execute_to at promise_at
    forced-next dst a = gives_after _ _ (promise (frame_at s.frames k) a) _ (promise-held (frame_at s.frames k) a) (λ p r. gives_then _ (at u.promises p) _ (λ q g.
        let o = get_in u.promises p no_promise q (or-stuck (get_elem? u.promises p) q g) in
        subst (λ (x : Promise). Gives Next (force u k dst p x x.cache)) o.1 (force-next dst p (live-holds p u k (frame_at s.frames k) live r) (promise_at u.promises p).cache refl)))

    -- a call enters a version that its instruction reaches, which costs its bound
    enter-next : (dst : ℕ) (X : Version) (rs : List ℕ) (vs : List Value) → Own P X → Memᴰ X (reaches P W l.does) → ((p : ℕ) → refers (is_promise p) (frame_for X vs) ≡ true → holds u p ≡ true) → Gives Next (enter u k dst X rs vs)
    unfolding enter Gives
    enter-next dst X rs vs o mem args = gives_then _ (opened u act) _ (λ t e. let w = opened-is u t act e in subst (λ (x : State). Gives Next (rest_of x)) w.1 (go w.0))
      where
        act : Activation
        act = record { opener = Opener.Call; d = dst; frame = u.calls; block = 0; next = 0 }

        rest_of : State → Try State
        rest_of t = emptied t k (parameter_types X) rs >>= λ y. put y.frames y.calls (frame_for X vs) >>= λ fs. got (with_stack y fs (y.calls + 1) y.activations y.depth)

        good : G X ≡ true
        good = agree.closed W X (find-own P _ _ W (inv.heap.known k (top-live P s inv run h d))) (paid.priced k (top-live P s inv run h d)) o (depends-on P W (top_of s h).block _ (top_of s h).next l X (at_top P s inv run h d).0.does.there line mem)

        cost : bound X + 1 ≤ price W l.does + promised (worth_at P price W) l.does
        cost = dear X mem

        go : u.depth < ACTIVATIONS → Gives Next (rest_of (opening u act))
        go deep = gives_after _ _ (emptied (opening u act) k (parameter_types X) rs) _ (gives_both _ _ (emptied (opening u act) k (parameter_types X) rs) (emptied-still (opening u act) (opening u act) k (parameter_types X) rs (still-same (opening u act))) (emptied-keeps (opening u act) k (parameter_types X) rs))
            (λ y g. gives_then _ (put y.frames y.calls (frame_for X vs)) _ (λ fs e.
            let w = put-there y.frames fs y.calls (frame_for X vs) e in
            subst (λ (zs : List Frame). Next (with_stack y zs (y.calls + 1) y.activations y.depth)) w.1
            (spent _ (bound X) (enter-paid P sure price G u inv.keep heap room deep dst X o vs good all_in y g.0 g.1 w.0 args past.rest (bound X) (body-cost X o good) past.paid) cost)))

    -- CALL
    args-held : (X : Version) (rs : List ℕ) → Gives (λ (vs : List Value). (p : ℕ) → refers (is_promise p) (frame_for X vs) ≡ true → holds u p ≡ true) (each (value (frame_at s.frames k)) rs)
    args-held X rs = gives_all (λ (p : ℕ) (vs : List Value). refers (is_promise p) (frame_for X vs) ≡ true → holds u p ≡ true) (each (value (frame_at s.frames k)) rs) (λ p.
        gives-weaken _ _ (each (value (frame_at s.frames k)) rs) (each_in p (frame_at s.frames k) rs) (λ vs j e. live-holds p u k (frame_at s.frames k) live (new-refers p (refers (is_promise p) (frame_at s.frames k) ≡ true) X vs j e)))

    call_next : (dst f w : ℕ) (rs : List ℕ) → l.does ≡ CALL dst f w rs → Gives Next (execute P u k (frame_at s.frames k) W (CALL dst f w rs))
    unfolding execute_to
    call_next dst f w rs e = gives_then _ (or_stuck (find_version P f w)) _ (λ X g.
        let o = or-stuck (find_version P f w) X g in
        gives_after _ _ (each (value (frame_at s.frames k)) rs) _ (args-held X rs) (λ vs j. gives_then _ (each (kind_in P u) vs) _ (λ ks _. gives-next _ (stuck_unless (matching ks (parameter_types X))) _ (λ _ _.
        enter-next dst X rs vs (find-own P f w X o) (rw e (call-reaches P W dst f w rs X o)) j))))

    -- DISPATCH
    dispatch-next : (dst f mark ret : ℕ) (pairs : List Argument) → l.does ≡ DISPATCH dst f mark ret pairs → Gives Next (execute P u k (frame_at s.frames k) W (DISPATCH dst f mark ret pairs))
    unfolding execute_to
    dispatch-next dst f mark ret pairs e = gives_after _ _ (each (value (frame_at s.frames k)) (registers_of pairs)) _ (gives_all (λ (X : Version) (vs : List Value). (p : ℕ) → refers (is_promise p) (frame_for X vs) ≡ true → holds u p ≡ true) (each (value (frame_at s.frames k)) (registers_of pairs)) (λ X. args-held X (registers_of pairs)))
        (λ vs j. gives_then _ (each (kind_in P u) vs) _ (λ ks _. gives_then _ (picked P W.level f mark ret pairs ks) _ (λ X g.
        let o = dispatch-reaches P W dst f mark ret pairs ks X g in
        enter-next dst X (registers_of pairs) vs o.0 (rw e o.1) (j X))))

    -- SKIP
    skip-next : (a n : ℕ) → Gives Next (execute P u k (frame_at s.frames k) W (SKIP a n))
    unfolding execute_to
    skip-next a n = gives_then _ (integer (frame_at s.frames k) a) _ (λ z _. way (is_zero z))
      where
        deep : u.depth ≡ suc h
        deep = passed-depth s (top_of s h) ∙ d

        falls : (b : Activation) → at (live_activations u) (u.depth - 1) ≡ got b → Next (with_stack u u.frames u.calls (set u.activations (u.depth - 1) (record { opener = b.opener; d = b.d; frame = b.frame; block = b.block; next = b.next + n })) u.depth)
        falls b e = let r = skip-falls P sure price G u h deep b (live-act u b e (omega (arith, deep))) n past.rest past.paid in record { rest = r.rest; falls = omega (arith, past.falls, r.falls, cheap); paid = r.paid }

        way : (b : Bool) → Gives Next (cond b (skipped u n) (got u))
        way true = taken-way
          where
            taken-way : Gives Next (skipped u n)
            taken-way = skip-gives u n Next (λ b e. falls b e)
        way false = stays-way u n Next (record { rest = past.rest; falls = omega (arith, past.falls, cheap); paid = past.paid })

    -- any instruction
    pub execute-next : (i : Instr) → l.does ≡ i → Gives Next (execute P u k (frame_at s.frames k) W i)
    unfolding is_plain is_call
    execute-next (LIT c i) e = plain-next (LIT c i) refl refl
    execute-next (MOVE c a) e = plain-next (MOVE c a) refl refl
    execute-next (USE c a) e = plain-next (USE c a) refl refl
    execute-next (DUP c a) e = plain-next (DUP c a) refl refl
    execute-next (VEC c rs) e = plain-next (VEC c rs) refl refl
    execute-next (LEN c a) e = plain-next (LEN c a) refl refl
    execute-next (GET c a i) e = plain-next (GET c a i) refl refl
    execute-next (SET a i x) e = plain-next (SET a i x) refl refl
    execute-next (ARITH c op a b) e = plain-next (ARITH c op a b) refl refl
    execute-next (SELECT c t a b) e = plain-next (SELECT c t a b) refl refl
    execute-next (CAST c a) e = plain-next (CAST c a) refl refl
    execute-next (NAMED c x) e = plain-next (NAMED c x) refl refl
    execute-next (STORE x a) e = plain-next (STORE x a) refl refl
    execute-next (PROM c b) e = prom-next c b e
    execute-next (FORCE c a) e = forced-next c a
    execute-next (PEEK c a x) e = plain-next (PEEK c a x) refl refl
    execute-next (POKE a x z) e = plain-next (POKE a x z) refl refl
    execute-next (SKIP a n) e = skip-next a n
    execute-next (CALL c f w rs) e = call_next c f w rs e
    execute-next (DISPATCH c f mark ret pairs) e = dispatch-next c f mark ret pairs e

  -- ---- one step of a running state

  -- it falls, unless the run has ended
  abbrev pub After : State → ℕ → State → Type 0
  After s m t = t.status ≡ Status.Running → Falls P price G s t m 1

  module _ (s : State) (inv : Inv P s) (run : s.status ≡ Status.Running) (h : ℕ) (d : s.depth ≡ suc h) (m : ℕ) (paid : Paid P price G s m) where
    abbrev X : Version
    X = version_at P s.frames (top_of s h).frame

    live-top : at (live_frames s) (top_of s h).frame ≡ got (frame_at s.frames (top_of s h).frame)
    live-top = frame_is s inv.heap.sized (top_of s h).frame (top-live P s inv run h d) inv.heap.bound

    standing-next : Standing (block_at X (top_of s h).block).code (top_of s h).next → Gives (After s m) (proceed P s (here_of P s h) (position (block_at X (top_of s h).block).code (top_of s h).next))
    unfolding proceed_to
    standing-next (at-line l e p) = rw p (gives-weaken _ _ (execute P (passed s (top_of s h)) (top_of s h).frame (frame_at s.frames (top_of s h).frame) X l.does) (execute-next s inv run h d l e m paid l.does refl) (λ t g _. g))
    standing-next (at-end e n p) = rw p (gives_after _ _ (value (frame_at s.frames (top_of s h).frame) (block_at X (top_of s h).block).result) _
        (gives_all (λ (p : ℕ). In p (frame_at s.frames (top_of s h).frame)) (value (frame_at s.frames (top_of s h).frame) (block_at X (top_of s h).block).result) (λ p. value_in p (frame_at s.frames (top_of s h).frame) (block_at X (top_of s h).block).result))
        (λ v i. finish-next P price G s h d (omega (arith, d, inv.room, inv.deep)) m X v (λ p q. live-holds p s (top_of s h).frame (frame_at s.frames (top_of s h).frame) live-top (i p q)) paid (top_of s h).opener refl))

  -- THE LAW of one step
  pub advance-falls : (s : State) → Inv P s → s.status ≡ Status.Running → (m : ℕ) → Paid P price G s m → Gives (After s m) (advance P s)
  advance-falls s inv run m paid =
      let t = has-top P s inv run in
      rw (advance-is P s inv run t.0 t.1, position-is P sure s inv run t.0 t.1) (standing-next s inv run t.0 t.1 m paid (standing _ _ (at_top P s inv run t.0 t.1).0.inside))

  -- a running state has a step paid for
  pub paid-one : (s : State) → Inv P s → s.status ≡ Status.Running → (m : ℕ) → Paid P price G s m → 1 ≤ m
  unfolding owed stack_of
  paid-one s inv run m paid =
      let t = has-top P s inv run in
      let e : owed P price s.frames (stack_of s.activations (suc t.0)) + sum_from paid.purse 0 PROMISES ≤ m = rw t.1 at paid.enough in
      omega (arith, e, left-positive P price (version_at P s.frames (top_of s t.0).frame) (top_of s t.0).block (top_of s t.0).next)
