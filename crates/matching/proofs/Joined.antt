-- CALL and DISPATCH up to the call that they open, by the kinds of their arguments.
use Rattle.std.specs.Prelude.{Ok, Err, Result}
use mathlib.Core.Path.{◌≡◌, refl, sym, ap, ◌∙◌, subst}
use mathlib.Core.List.{List, [], ◌∷◌, map}
use mathlib.Core.Option.{Option, none, some}
use mathlib.Core.Bool.{Bool, true, false, cond}
use Prim.Native.Nat.{ℕ, zero, suc, ◌+◌, ◌-◌, ◌*◌, ◌/◌, ◌%◌, ◌≤◌, ◌<◌}
use native.Mathlib.Omega.{arith}
use lib.IntN.{ℤ}
use lib.ListN.{length, take}
use lib.Dec.{eqb, ltb}
use borrow.Author.Tests.{eq-eqb, eqb-true, eqb-false, le-ltb, lt-ltb, ltb-false, ltb-true, ne_eqb}
use Rattle.layout.proofs.Fields.{length-every}
use Rattle.layout.specs.Kinds as kind
use Rattle.layout.specs.Records.{◌!◌, every, fields}
use Rattle.program.proofs.Forms.{argument-registers}
use Rattle.program.specs.Program.{Argument, Program, Version, CALL, DISPATCH, arguments, find_version, parameter_types}
use Rattle.machine.specs.Calls.{matching, picked}
use Rattle.machine.specs.Searches.{kinds_of}
use Rattle.machine.specs.States.{full, kind_in, register, value}
use Rattle.machine.specs.Steps.{execute, registers_of}
use Rattle.machine.specs.Try.{Try, got, stuck, stop, ◌>>=◌, ◌>>◌, each, or_stuck, stuck_unless}
use Rattle.machine.specs.declared.End.{End}
use Rattle.machine.specs.declared.Frame.{Frame}
use Rattle.machine.specs.declared.State.{State}
use Rattle.machine.specs.declared.Value.{Value}
use Rattle.store.specs.Store.{cell_in, frame_in, state_in}
use Rattle.store.proofs.Frames.{register-in, register-out}
use Rattle.listing.specs.Entering.{AllFull, called_in, calling, entered, held_by, picked_in}
use Rattle.listing.specs.Listing.{Small}
use Rattle.listing.proofs.Calling.{call_by, calls-it, calls-none, calls-undef, dispatch-by}
use Rattle.loaded.proofs.Reading.{arguments-behind, long-call, long-dispatch}
use Rattle.loaded.specs.Dispatching.{pairs_at}
use Rattle.loaded.specs.Loaded.{few, instr_in, place_in, program_in, record_at, version_in}
use Rattle.matching.specs.Arguments.{picked_at}
use Rattle.matching.specs.Choosing as Choosing
use Rattle.matching.specs.Choosing.{choice, Cached, Chooses, Decides, DecidesBy, Entering, Holds, Keeps, Sited, called_at, count_at, decided_at, executed_at, registers_at}
use Rattle.matching.specs.Codes.{Coded, KINDLESS, kinds_by, kinds_in}
use Rattle.integers.specs.declared.Fault.{Fault}
use Rattle.matching.specs.declared.Choice.{Choice}
use Rattle.matching.specs.declared.Site.{Site}
use Rattle.matching.proofs.Caching.{cached-hit, cached-keep}
use Rattle.matching.proofs.Picking.{first-long}

-- ---- arguments that have kinds are there

module _ (b : List ℕ) (n : List ℤ) (k : ℕ) where
  full_is : (u v : Value) → full u ≡ got v → v ≡ u
  unfolding full
  full_is Value.Empty v e = let z : ◌≡◌ {A = ℕ} 0 1 = cc in absurd (omega arith)
  full_is (Value.Integer z) v e = cc
  full_is (Value.Vector w) v e = cc
  full_is (Value.Promise p) v e = cc

  value-is : (r : ℕ) (v : Value) → value (frame_in b n k) r ≡ got v → (r < 16) × (v ≡ cell_in b n k r)
  unfolding value ◌>>=◌
  value-is r v e = go (ltb r 16) refl
    where
      go : (y : Bool) → ltb r 16 ≡ y → (r < 16) × (v ≡ cell_in b n k r)
      go true q = let l = ltb-true r 16 q in (l, full_is (cell_in b n k r) v (rw (register-in b n k r l) at e))
      go false q = let u : ◌≡◌ {A = Try Value} stuck (got v) = rw (register-out b n k r (ltb-false r 16 q)) at e in let z : ◌≡◌ {A = ℕ} 0 1 = cc in absurd (omega arith)

  values-full : (rs : List ℕ) (vs : List Value) → each (value (frame_in b n k)) rs ≡ got vs → (vs ≡ held_by b n k rs) × Small rs
  unfolding each ◌>>=◌
  values-full [] vs e = (cc, λ i l. absurd (omega arith))
  values-full (r ∷ rs) vs e = go (value (frame_in b n k) r) refl (each (value (frame_in b n k)) rs) (values-full rs) e
    where
      small : r < 16 → Small rs → Small (r ∷ rs)
      small h S zero l = h
      small h S (suc i) l = S i (omega arith)

      go : (x : Try Value) → value (frame_in b n k) r ≡ x → (y : Try (List Value)) → ((us : List Value) → y ≡ got us → (us ≡ held_by b n k rs) × Small rs) →
          (x >>= λ v. y >>= λ us. got (v ∷ us)) ≡ got vs → (vs ≡ held_by b n k (r ∷ rs)) × Small (r ∷ rs)
      go (got v) p (got us) q e =
          let a = value-is r v p in
          let c = q us refl in
          let f : v ∷ us ≡ vs = cc in
          (sym f ∙ (λ i. a.1 i ∷ c.0 i), small a.0 c.1)
      go (got v) p stuck q e = let z : ◌≡◌ {A = ℕ} 0 1 = cc in absurd (omega arith)
      go (got v) p (stop w) q e = let z : ◌≡◌ {A = ℕ} 0 1 = cc in absurd (omega arith)
      go stuck p y q e = let z : ◌≡◌ {A = ℕ} 0 1 = cc in absurd (omega arith)
      go (stop w) p y q e = let z : ◌≡◌ {A = ℕ} 0 1 = cc in absurd (omega arith)

  pub kinded-full : (P : Program) (rs ks : List ℕ) → kinds_of P (state_in b n) (frame_in b n k) rs ≡ got ks → AllFull b n k rs
  unfolding kinds_of ◌>>=◌
  kinded-full P rs ks e = go (each (value (frame_in b n k)) rs) refl e
    where
      go : (x : Try (List Value)) → each (value (frame_in b n k)) rs ≡ x → (x >>= each (kind_in P (state_in b n))) ≡ got ks → AllFull b n k rs
      go (got vs) p e = let a = values-full rs vs p in (p ∙ ap got a.0, a.1)
      go stuck p e = let z : ◌≡◌ {A = ℕ} 0 1 = cc in absurd (omega arith)
      go (stop w) p e = let z : ◌≡◌ {A = ℕ} 0 1 = cc in absurd (omega arith)

-- ---- the version that is called, by the kinds

module _ (P : Program) (s : State) (f : Frame) where
  called-kinds : (g w : ℕ) (rs ks : List ℕ) → kinds_of P s f rs ≡ got ks → called_in P s f g w rs ≡ (or_stuck (find_version P g w) >>= λ X. stuck_unless (matching ks (parameter_types X)) >> got X)
  unfolding called_in kinds_of ◌>>=◌
  called-kinds g w rs ks e = go (or_stuck (find_version P g w)) (each (value f) rs) e
    where
      go : (o : Try Version) (l : Try (List Value)) → (l >>= each (kind_in P s)) ≡ got ks
          → (o >>= λ X. l >>= λ vs. each (kind_in P s) vs >>= λ ks. stuck_unless (matching ks (parameter_types X)) >> got X) ≡ (o >>= λ X. stuck_unless (matching ks (parameter_types X)) >> got X)
      go (got X) (got vs) e = rw e refl
      go (got X) stuck e = let z : ◌≡◌ {A = ℕ} 0 1 = cc in absurd (omega arith)
      go (got X) (stop w) e = let z : ◌≡◌ {A = ℕ} 0 1 = cc in absurd (omega arith)
      go stuck l e = refl
      go (stop w) l e = refl

  called-none : (g w : ℕ) (rs : List ℕ) → kinds_of P s f rs ≡ stuck → called_in P s f g w rs ≡ stuck
  unfolding called_in kinds_of ◌>>=◌ or_stuck
  called-none g w rs e = go (find_version P g w) (each (value f) rs) e
    where
      go : (o : Option Version) (l : Try (List Value)) → (l >>= each (kind_in P s)) ≡ stuck
          → (or_stuck o >>= λ X. l >>= λ vs. each (kind_in P s) vs >>= λ ks. stuck_unless (matching ks (parameter_types X)) >> got X) ≡ stuck
      go none l e = refl
      go (some X) (got vs) e = rw e refl
      go (some X) stuck e = refl
      go (some X) (stop w) e = let z : ◌≡◌ {A = ℕ} 0 1 = cc in absurd (omega arith)

  module _ (level g mark ret : ℕ) (pairs : List Argument) where
    picked-by : picked_in P s f level g mark ret pairs ≡ (kinds_of P s f (registers_of pairs) >>= picked P level g mark ret pairs)
    unfolding picked_in kinds_of ◌>>=◌
    picked-by = go (each (value f) (registers_of pairs))
      where
        go : (l : Try (List Value)) → (l >>= λ vs. each (kind_in P s) vs >>= λ ks. picked P level g mark ret pairs ks) ≡ ((l >>= each (kind_in P s)) >>= picked P level g mark ret pairs)
        go (got vs) = refl
        go stuck = refl
        go (stop w) = refl

    picked-kinds : (ks : List ℕ) → kinds_of P s f (registers_of pairs) ≡ got ks → picked_in P s f level g mark ret pairs ≡ picked P level g mark ret pairs ks
    unfolding ◌>>=◌
    picked-kinds ks e = picked-by ∙ rw e refl

    picked_none : kinds_of P s f (registers_of pairs) ≡ stuck → picked_in P s f level g mark ret pairs ≡ stuck
    unfolding ◌>>=◌
    picked_none e = picked-by ∙ rw e refl

-- ---- the instruction of a record

module _ (s t : List ℕ) (i p : ℕ) (place : place_in t i ≡ p) where
  call-here : t ! record_at i ≡ kind.CALL → instr_in s t i ≡ CALL (s ! (p + 2)) (s ! (p + 3)) (s ! (p + 4)) (fields s (p + 6) (few (s ! (p + 5))))
  call-here e = subst (λ (q : ℕ). instr_in s t i ≡ CALL (s ! (q + 2)) (s ! (q + 3)) (s ! (q + 4)) (fields s (q + 6) (few (s ! (q + 5))))) place (long-call s t i e)

  pub dispatch-here : t ! record_at i ≡ kind.DISPATCH → instr_in s t i ≡ DISPATCH (s ! (p + 2)) (s ! (p + 3)) (s ! (p + 4)) (s ! (p + 5)) (pairs_at s p)
  dispatch-here e =
      subst (λ (q : ℕ). instr_in s t i ≡ DISPATCH (s ! (q + 2)) (s ! (q + 3)) (s ! (q + 4)) (s ! (q + 5)) (arguments s (q + 7) (few (s ! (q + 6))))) place (long-dispatch s t i e)
      ∙ ap (DISPATCH (s ! (p + 2)) (s ! (p + 3)) (s ! (p + 4)) (s ! (p + 5))) (sym (arguments-behind s (p + 2) 5 (p + 7) (few (s ! (p + 6))) (omega arith)))

-- the registers of the pairs
pub pair-registers : (s : List ℕ) (p : ℕ) → registers_of (pairs_at s p) ≡ every s (p + 8) 2 (few (s ! (p + 6)))
pair-registers s p =
    ap registers_of (arguments-behind s (p + 2) 5 (p + 7) (few (s ! (p + 6))) (omega arith)) ∙ argument-registers s (p + 7) (few (s ! (p + 6)))
    ∙ ap (λ (k : ℕ). every s k 2 (few (s ! (p + 6)))) (omega arith)

registers-call : (s : List ℕ) (m p : ℕ) → m ≡ kind.CALL → registers_at s m p ≡ fields s (p + 6) (few (s ! (p + 5)))
unfolding registers_at count_at
registers-call s m p e = rw (eq-eqb m kind.CALL e) refl

registers-dispatch : (s : List ℕ) (m p : ℕ) → (m ≡ kind.CALL → ⊥) → registers_at s m p ≡ registers_of (pairs_at s p)
unfolding registers_at count_at
registers-dispatch s m p e = rw (ne_eqb m kind.CALL e) (sym (pair-registers s p))

pub registers-long : (s : List ℕ) (m p : ℕ) → length (registers_at s m p) ≡ count_at s m p
unfolding registers_at
registers-long s m p = go (eqb m kind.CALL)
  where
    go : (y : Bool) → length (cond y (every s (p + 6) 1 (count_at s m p)) (every s (p + 8) 2 (count_at s m p))) ≡ count_at s m p
    go true = length-every s (p + 6) 1 (count_at s m p)
    go false = length-every s (p + 8) 2 (count_at s m p)

-- ---- what executing it comes to

module _ (s t b : List ℕ) (n : List ℤ) (x : Site) (rs : List ℕ) (S : Sited s x rs) (i : ℕ) (of : t ! record_at i ≡ x.kind) (place : place_in t i ≡ x.place) where
  abbrev P : Program
  P = program_in s t

  abbrev F : Frame
  F = frame_in b n x.frame

  abbrev ls : List ℕ
  ls = take x.n rs

  -- a CALL
  module _ (e : x.kind ≡ kind.CALL) where
    lists-call : ls ≡ fields s (x.place + 6) (few (s ! (x.place + 5)))
    lists-call = S.lists ∙ registers-call s x.kind x.place e

    call-executed : executed_at s t b n x i ≡ calling (called_in P (state_in b n) F (s ! (x.place + 3)) (s ! (x.place + 4)) ls) (state_in b n) x.frame F (s ! (x.place + 2)) ls
    call-executed =
        ap (execute P (state_in b n) x.frame F (version_in s t x.own))
        (call-here s t i x.place place (of ∙ e) ∙ ap (CALL (s ! (x.place + 2)) (s ! (x.place + 3)) (s ! (x.place + 4))) (sym lists-call))
        ∙ call_by P (version_in s t x.own) (state_in b n) x.frame F (s ! (x.place + 2)) (s ! (x.place + 3)) (s ! (x.place + 4)) ls

  -- a DISPATCH
  module _ (e : x.kind ≡ kind.CALL → ⊥) where
    is-dispatch : x.kind ≡ kind.DISPATCH
    is-dispatch = let c = S.calls in omega (arith, c.0, c.1)

    lists-dispatch : ls ≡ registers_of (pairs_at s x.place)
    lists-dispatch = S.lists ∙ registers-dispatch s x.kind x.place e

    abbrev picks : Try Version
    picks = picked_in P (state_in b n) F (version_in s t x.own).level (s ! (x.place + 3)) (s ! (x.place + 4)) (s ! (x.place + 5)) (pairs_at s x.place)

    dispatch-executed : executed_at s t b n x i ≡ calling picks (state_in b n) x.frame F (s ! (x.place + 2)) ls
    dispatch-executed =
        ap (execute P (state_in b n) x.frame F (version_in s t x.own)) (dispatch-here s t i x.place place (of ∙ is-dispatch))
        ∙ dispatch-by P (version_in s t x.own) (state_in b n) x.frame F (s ! (x.place + 2)) (s ! (x.place + 3)) (s ! (x.place + 4)) (s ! (x.place + 5)) (pairs_at s x.place)
        ∙ ap (calling picks (state_in b n) x.frame F (s ! (x.place + 2))) (sym lists-dispatch)

  -- an argument has no kind
  kindless : kinds_of P (state_in b n) F ls ≡ stuck → executed_at s t b n x i ≡ stuck
  kindless k = go (eqb x.kind kind.CALL) refl
    where
      go : (y : Bool) → eqb x.kind kind.CALL ≡ y → executed_at s t b n x i ≡ stuck
      go true q = let e = eqb-true _ _ q in call-executed e ∙ calls-none (state_in b n) x.frame F (s ! (x.place + 2)) ls
          (called-none P (state_in b n) F (s ! (x.place + 3)) (s ! (x.place + 4)) ls k)
      go false q =
          let e = eqb-false _ _ q in
          dispatch-executed e ∙ calls-none (state_in b n) x.frame F (s ! (x.place + 2)) ls
          (picked_none P (state_in b n) F _ _ _ _ (pairs_at s x.place) (ap (kinds_of P (state_in b n) F) (sym (lists-dispatch e)) ∙ k))

  module _ (ks : List ℕ) (kinds : kinds_of P (state_in b n) F ls ≡ got ks) where
    by-kinds : executed_at s t b n x i ≡ calling (decided_at s t x.own x.place x.kind ks) (state_in b n) x.frame F (s ! (x.place + 2)) ls
    unfolding decided_at called_at
    by-kinds = go (eqb x.kind kind.CALL) refl
      where
        go : (y : Bool) → eqb x.kind kind.CALL ≡ y → executed_at s t b n x i ≡ calling (cond y (called_at s t x.place ks) (picked_at s t x.own x.place ks)) (state_in b n)
            x.frame F (s ! (x.place + 2)) ls
        go true q = let e = eqb-true _ _ q in call-executed e ∙ ap (λ (u : Try Version). calling u (state_in b n) x.frame F (s ! (x.place + 2)) ls)
            (called-kinds P (state_in b n) F (s ! (x.place + 3)) (s ! (x.place + 4)) ls ks kinds)
        go false q =
            let e = eqb-false _ _ q in
            dispatch-executed e ∙ ap (λ (u : Try Version). calling u (state_in b n) x.frame F (s ! (x.place + 2)) ls)
            (picked-kinds P (state_in b n) F _ _ _ _ (pairs_at s x.place) ks (ap (kinds_of P (state_in b n) F) (sym (lists-dispatch e)) ∙ kinds))

    long : length ls ≡ x.n
    long = ap length S.lists ∙ registers-long s x.kind x.place ∙ sym S.count

    comes : (r : Result Choice Fault) → Decides r s t x.n (decided_at s t x.own x.place x.kind ks) → Choosing.Comes r s t b n x i ls
    unfolding Decides Choosing.Comes version_in
    comes (Ok v) D = record {
      low = D.1;
      enters = by-kinds ∙ calls-it (state_in b n) x.frame F (s ! (x.place + 2)) ls D.0;
      marks = λ k l. D.2 k (omega (arith, long));
      function = refl;
      version = refl;
      full = kinded-full b n x.frame P ls ks kinds;
    }
    comes (Err Fault.Undef) D = by-kinds ∙ calls-undef (state_in b n) x.frame F (s ! (x.place + 2)) ls D
    comes (Err Fault.Stuck) D = by-kinds ∙ calls-none (state_in b n) x.frame F (s ! (x.place + 2)) ls D

-- ---- as the code has the answers in hand

module _ (s t b : List ℕ) (x : Site) (rs : List ℕ) (S : Sited s x rs) (code : ℕ) (C : Coded code s t b x.frame (take x.n rs)) where
  pub choose-kindless : KINDLESS ≤ code → Chooses (Err Fault.Stuck) s t b x rs
  unfolding Choosing.Comes kinds_by
  choose-kindless h n i of place = kindless s t b n x rs S i of place (C n ∙ rw (le-ltb code KINDLESS h) refl)

  sited-long : length (take x.n rs) ≡ x.n
  sited-long = ap length S.lists ∙ registers-long s x.kind x.place ∙ sym S.count

  pub choose-by : code < KINDLESS → (r : Result Choice Fault) → DecidesBy r s t x code → Chooses r s t b x rs
  unfolding kinds_by
  choose-by h r D n i of place = comes s t b n x rs S i of place (kinds_in code x.n) (C n ∙ rw (lt-ltb code KINDLESS h, sited-long) refl) r D

-- what a site is known to have
module _ (s : List ℕ) (x : Site) (rs : List ℕ) (S : Sited s x rs) where
  pub sited-few : x.n ≤ 8
  unfolding count_at
  sited-few = let c = S.count in omega arith

  pub sited-room : x.n ≤ length rs
  sited-room = first-long x.n rs (registers_at s x.kind x.place) S.lists (registers-long s x.kind x.place ∙ sym S.count)

-- with a cache: q is the number of the row
module _ (s t b : List ℕ) (x : Site) (rs c : List ℕ) (S : Sited s x rs) (K : Cached s t c) (code : ℕ) (C : Coded code s t b x.frame (take x.n rs)) (below : code < KINDLESS)
    (q : ℕ) where
  -- it is told by its row
  pub choose-hit : q < 64 → {r : Bool} → Holds r c (4 * q) x.place (256 * x.kind + x.own) code → r ≡ true → (w : Result Choice Fault) → w ≡ Ok (choice (c ! (4 * q + 3) / 256) (c ! (4 * q + 3) % 256)) → Chooses w s t b x rs
  choose-hit l H e w is =
      let D = cached-hit s t c K q l x.place (256 * x.kind + x.own) x.kind x.own code refl S.calls S.own H e in
      let E = rw (← S.count, ← is) at D in
      choose-by s t b x rs S code C below w E

  -- it is decided
  module _ (r : Result Choice Fault) (D : DecidesBy r s t x code) where
    pub choose-as : (w : Result Choice Fault) → r ≡ w → Chooses w s t b x rs
    choose-as w e = choose-by s t b x rs S code C below w (subst (λ (z : Result Choice Fault). DecidesBy z s t x code) e D)

    pub choose-kept : q < 64 → (c' : List ℕ) (j w : ℕ) → j < 256 → w < 256 → Keeps c c' (4 * q) x.place (256 * x.kind + x.own) code (256 * j + w) → r ≡ Ok (choice j w)
        → Cached s t c'
    choose-kept l c' j w a d E e =
        let M = rw (e, S.count) at D in
        cached-keep s t c K q l x.place (256 * x.kind + x.own) x.kind x.own code refl S.calls S.own c' j w a d E M
