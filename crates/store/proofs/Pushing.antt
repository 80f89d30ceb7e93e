-- Activations: one more, and one that stands elsewhere in its block.
use mathlib.Core.Path.{◌≡◌, refl, sym, ap, ◌∙◌}
use mathlib.Core.List.{List, [], ◌∷◌, ◌++◌}
use mathlib.Core.Bool.{Bool, true, false, cond}
use mir.Syntax.{w8}
use mir.Val.{Fits}
use native.Mathlib.Numerals.{add-one}
use Prim.Native.Nat.{ℕ, zero, suc, ◌+◌, ◌*◌, ◌≤◌, ◌<◌}
use native.Mathlib.Omega.{arith}
use lib.IntN.{ℤ}
use lib.ListN.{length, length-set, set, take}
use lib.Seq.{get_or-set_same, get_or-set_other, take-suc-set}
use lib.Dec.{eqb}
use borrow.Author.Tests.{eqb-true, eqb-false, lt-ltb, le-ltb}
use Rattle.layout.specs.Records.{◌!◌}
use Rattle.machine.specs.Try.{got, stop, ◌>>◌, end_unless}
use Rattle.machine.specs.States.{is_force, live_activations, live_frames, with_stack}
use Rattle.machine.specs.Calls.{opened}
use Rattle.machine.specs.declared.Activation.{Activation}
use Rattle.machine.specs.declared.End.{End}
use Rattle.machine.specs.declared.Opener.{Opener}
use Rattle.machine.specs.declared.State.{State}
use Rattle.store.specs.Lists.{up_to}
use Rattle.store.proofs.Lists.{length-up_to}
use Rattle.store.specs.Store.{STACK, CALLS, DEPTH, opener_of, tag_of, forced_by, activation_in, state_in}
use Rattle.store.specs.Counts.{one, holding, forcers, forcing, referring, refers_to, repend, more, Calm, Counted, Pends, Ready}
use Rattle.store.specs.Acts.{with_next}
use Rattle.store.proofs.Counting.{one-most}
use Rattle.store.proofs.Kept.{new-activation, new-stack}
use Rattle.store.proofs.Rows.{row, length-row, row_in, row_out}

opener-back : (o : Opener) → opener_of (tag_of o) (forced_by o) ≡ o
unfolding opener_of tag_of forced_by
opener-back Opener.Call = refl
opener-back (Opener.Force p) = refl

-- the bytes of an activation
abbrev pub six_of : Activation → List ℕ
six_of a = tag_of a.opener ∷ forced_by a.opener ∷ a.d ∷ a.frame ∷ a.block ∷ a.next ∷ []

module _ (b : List ℕ) (n : List ℤ) (a : Activation) (s : length b ≡ 2632) where
  abbrev pub topped : List ℕ
  topped = row b (STACK + 8 * b ! DEPTH) 0 (six_of a)

  top-is : b ! DEPTH < 32 → activation_in topped (b ! DEPTH) ≡ a
  unfolding activation_in
  top-is h =
      let i = STACK + 8 * b ! DEPTH in
      let z : i + 0 ≡ i = omega arith in
      let l : i + 0 + 6 ≤ length b = omega arith in
      let o = rw z at (row_in b i 0 (six_of a) 0 (omega arith) l) in
      let p = row_in b i 0 (six_of a) 1 (omega arith) l in
      let d = row_in b i 0 (six_of a) 2 (omega arith) l in
      let f = row_in b i 0 (six_of a) 3 (omega arith) l in
      let c = row_in b i 0 (six_of a) 4 (omega arith) l in
      let x = row_in b i 0 (six_of a) 5 (omega arith) l in
      (λ t. record { opener = opener_of (o t) (p t); d = d t; frame = f t; block = c t; next = x t }) ∙
      (λ t. record { opener = opener-back a.opener t; d = a.d; frame = a.frame; block = a.block; next = a.next })

  finish : b ! DEPTH < 32 → state_in topped n ≡ with_stack (state_in b n) (state_in b n).frames (b ! CALLS) (set (state_in b n).activations (b ! DEPTH) (activation_in topped (b ! DEPTH)))
      (b ! DEPTH)
      → set topped DEPTH (b ! DEPTH + 1) ! CALLS ≡ b ! CALLS → set topped DEPTH (b ! DEPTH + 1) ! DEPTH ≡ b ! DEPTH + 1
      → with_stack (state_in topped n) (state_in topped n).frames (set topped DEPTH (b ! DEPTH + 1) ! CALLS) (state_in topped n).activations (set topped DEPTH (b ! DEPTH + 1) ! DEPTH)
      ≡ with_stack (state_in b n) (state_in b n).frames (b ! CALLS) (set (state_in b n).activations (b ! DEPTH) a) (b ! DEPTH + 1)
  unfolding with_stack
  finish h e k w = rw (e, k, w, top-is h) refl

  -- the stack with one more activation
  pub pushed : b ! DEPTH < 32 → opened (state_in b n) a ≡ got (state_in (set topped DEPTH (b ! DEPTH + 1)) n)
  unfolding opened end_unless ◌>>◌ state_in
  pushed h =
      let l : length topped ≡ 2632 = length-row b (STACK + 8 * b ! DEPTH) 0 (six_of a) ∙ s in
      let c : topped ! CALLS ≡ b ! CALLS = row_out b (STACK + 8 * b ! DEPTH) 0 (six_of a) CALLS (λ x y. omega arith) in
      let e = new-activation b topped n n (b ! DEPTH) h (λ m q. row_out b (STACK + 8 * b ! DEPTH) 0 (six_of a) m (λ x y. q (omega arith) (omega arith))) (λ m q. refl) in
      let f = new-stack topped (set topped DEPTH (b ! DEPTH + 1)) n n (λ m q. get_or-set_other topped DEPTH m (b ! DEPTH + 1) 0 (λ z. q (omega arith) (omega arith))) (λ m q. refl) in
      let k : set topped DEPTH (b ! DEPTH + 1) ! CALLS ≡ b ! CALLS = get_or-set_other topped DEPTH CALLS (b ! DEPTH + 1) 0 (λ z. omega arith) ∙ c in
      let w : set topped DEPTH (b ! DEPTH + 1) ! DEPTH ≡ b ! DEPTH + 1 = get_or-set_same topped DEPTH (b ! DEPTH + 1) 0 (omega arith) in
      rw (lt-ltb (b ! DEPTH) 32 h) (ap got (sym (f ∙ finish h e k w)))

pub too-deep : (b : List ℕ) (n : List ℤ) (a : Activation) → 32 ≤ b ! DEPTH → opened (state_in b n) a ≡ stop End.Deep
unfolding opened end_unless ◌>>◌ state_in
too-deep b n a h = rw (le-ltb (b ! DEPTH) 32 h) refl

-- an activation by its bytes
pub activation-is : (b : List ℕ) (i : ℕ) {o : Opener} → o ≡ opener_of (b ! (STACK + 8 * i)) (b ! (STACK + 8 * i + 1))
    → ◌≡◌ {A = Activation} (record { opener = o; d = b ! (STACK + 8 * i + 2); frame = b ! (STACK + 8 * i + 3); block = b ! (STACK + 8 * i + 4); next = b ! (STACK + 8 * i + 5) })
    (activation_in b i)
unfolding activation_in
activation-is b i e = λ t. record { opener = e t; d = b ! (STACK + 8 * i + 2); frame = b ! (STACK + 8 * i + 3); block = b ! (STACK + 8 * i + 4); next = b ! (STACK + 8 * i + 5) }

-- ---- what forces

pub forcers-append : (p : ℕ) (l m : List Activation) → forcers p (l ++ m) ≡ forcers p l + forcers p m
unfolding forcers
forcers-append p [] m = omega arith
forcers-append p (a ∷ l) m = let h = forcers-append p l m in omega arith

-- by the openers alone
forcers-by : (p : ℕ) (f g : ℕ → Activation) (m i j : ℕ) → ((k : ℕ) → i ≤ k → k < i + j → (f k).opener ≡ (g k).opener) → forcers p (take m (up_to f i j)) ≡ forcers p (take m (up_to g i j))
unfolding forcers up_to
forcers-by p f g zero i zero h = refl
forcers-by p f g zero i (suc j) h = refl
forcers-by p f g (suc m) i zero h = refl
forcers-by p f g (suc m) i (suc j) h = rw (h i (omega arith) (omega arith), forcers-by p f g m (suc i) j (λ k a b. h k (omega arith) (omega arith))) refl

forcers-most : (p : ℕ) (f : ℕ → Activation) (m i j : ℕ) → forcers p (take m (up_to f i j)) ≤ j
unfolding forcers up_to
forcers-most p f zero i zero = omega arith
forcers-most p f zero i (suc j) = omega arith
forcers-most p f (suc m) i zero = omega arith
forcers-most p f (suc m) i (suc j) = let h = forcers-most p f m (suc i) j in let g = one-most (is_force p (f i).opener) in omega arith

pub forcing-most : (p : ℕ) (b : List ℕ) (n : List ℤ) → forcing p (state_in b n) ≤ 32
unfolding forcing live_activations state_in
forcing-most p b n = forcers-most p (activation_in b) (b ! DEPTH) 0 32

pub length-repend : (f : ℕ → ℕ) (c : List ℕ) (o : Opener) → length (repend f c o) ≡ length c
unfolding repend
length-repend f c Opener.Call = refl
length-repend f c (Opener.Force p) = simp length-set

pub repend-held : (f : ℕ → ℕ) (c : List ℕ) (o : Opener) (i : ℕ) → i < 512 → repend f c o ! i ≡ c ! i
unfolding repend
repend-held f c Opener.Call i h = refl
repend-held f c (Opener.Force p) i h = get_or-set_other c (512 + p) i (f (c ! (512 + p))) 0 (λ e. omega arith)

pub repend-forced : (f : ℕ → ℕ) (c : List ℕ) (o : Opener) (p : ℕ) → p < 256 → length c ≡ 800 → repend f c o ! (512 + p) ≡ cond (is_force p o) (f (c ! (512 + p))) (c ! (512 + p))
unfolding repend is_force
repend-forced f c Opener.Call p h l = refl
repend-forced f c (Opener.Force q) p h l = go (eqb p q) refl
  where
    go : (t : Bool) → eqb p q ≡ t → set c (512 + q) (f (c ! (512 + q))) ! (512 + p) ≡ cond t (f (c ! (512 + p))) (c ! (512 + p))
    go true e = let z = eqb-true p q e in rw z (get_or-set_same c (512 + q) (f (c ! (512 + q))) 0 (omega arith))
    go false e = let z = eqb-false p q e in get_or-set_other c (512 + q) (512 + p) (f (c ! (512 + q))) 0 (λ y. z (omega arith))

pub repend-frames : (f : ℕ → ℕ) (c : List ℕ) (o : Opener) (k : ℕ) → forced_by o < 256 → repend f c o ! (768 + k) ≡ c ! (768 + k)
unfolding repend forced_by
repend-frames f c Opener.Call k h = refl
repend-frames f c (Opener.Force p) k h = get_or-set_other c (512 + p) (768 + k) (f (c ! (512 + p))) 0 (λ e. omega arith)

pub forced-byte : {o : Opener} {p : ℕ} → o ≡ Opener.Force p → Fits w8 p → forced_by o < 256
unfolding forced_by
forced-byte e f = rw e (omega arith)

opened-counted : (b : List ℕ) (n : List ℤ) (a : Activation) (c : List ℕ) (t : State) → length c ≡ 800 → b ! DEPTH < 32 → forced_by a.opener < 256 → Counted c (state_in b n) → opened
    (state_in b n) a ≡ got t → Counted (repend more c a.opener) t
unfolding opened end_unless ◌>>◌ holding forcing forcers live_frames live_activations with_stack state_in
opened-counted b n a c t l h y C e =
    let u = rw (lt-ltb (state_in b n).depth 32 (depth_is h)) at e in
    let q : with_stack (state_in b n) (state_in b n).frames (state_in b n).calls (set (state_in b n).activations (state_in b n).depth a) ((state_in b n).depth + 1) ≡ t = cc in
    record {
      held = λ i x. repend-held more c a.opener i x ∙ C.held i x ∙ ap (holding (refers_to i)) q;
      forced = λ p x. repend-forced more c a.opener p x l ∙ go p (is_force p a.opener) refl (C.forced p x) ∙ ap (forcing p) q;
      frames = λ k x. repend-frames more c a.opener k y ∙ C.frames k x ∙ ap (referring k) q;
    }
  where
    depth_is : b ! DEPTH < 32 → (state_in b n).depth < 32
    depth_is h = h

    add-up : (t : Bool) (i j k : ℕ) → {m : ℕ} → m ≡ i → j ≡ one t + 0 → k ≡ i + j → cond t (m + 1) m ≡ k
    add-up true i j k e f g = omega arith
    add-up false i j k e f g = omega arith

    go : (p : ℕ) (t : Bool) → is_force p a.opener ≡ t → c ! (512 + p) ≡ forcing p (state_in b n) → cond t (c ! (512 + p) + 1) (c ! (512 + p)) ≡ forcers p
        (take ((state_in b n).depth + 1) (set (state_in b n).activations (state_in b n).depth a))
    go p t x y =
        let d = (state_in b n).depth in
        let us = (state_in b n).activations in
        let m : d < length us = rw (length-up_to (activation_in b) 32) h in
        let z = forcers-append p (take d us) (a ∷ []) in
        let w : forcers p (a ∷ []) ≡ one t + 0 = ap (λ r. one r + 0) x in
        rw (add-one d, take-suc-set us d a m) (add-up t (forcers p (take d us)) (forcers p (a ∷ [])) (forcers p (take d us ++ (a ∷ []))) y w z)

-- seven bytes written one after the other
module _ (b : List ℕ) (n : List ℤ) (a : Activation) where
  abbrev pub heap7 : ℕ → ℕ → List ℕ
  heap7 o p = set (set (set (set (set (set (set b (STACK + 8 * b ! DEPTH) o) (STACK + 8 * b ! DEPTH + 1) p) (STACK + 8 * b ! DEPTH + 2) a.d) (STACK + 8 * b ! DEPTH + 3) a.frame)
      (STACK + 8 * b ! DEPTH + 4) a.block) (STACK + 8 * b ! DEPTH + 5) a.next) DEPTH (b ! DEPTH + 1)

  seven : (o p : ℕ) → o ≡ tag_of a.opener → p ≡ forced_by a.opener → (s : length b ≡ 2632) → heap7 o p ≡ set (topped b n a s) DEPTH (b ! DEPTH + 1)
  unfolding row
  seven o p e f s = let z : STACK + 8 * b ! DEPTH + 0 ≡ STACK + 8 * b ! DEPTH = omega arith in rw (e, f, z) refl

  pub pushed-by : {o p : ℕ} {c c' : List ℕ} → o ≡ tag_of a.opener → p ≡ forced_by a.opener → Ready b n c → b ! DEPTH < 32 → Pends c c' a.opener →
      (opened (state_in b n) a ≡ got (state_in (heap7 o p) n)) × Ready (heap7 o p) n c'
  pushed-by {o = o} {p = p} {c = c} {c' = c'} e f R h q =
      let lb = R.bytes in
      let s = pushed b n a lb h ∙ ap (λ l. got (state_in l n)) (sym (seven o p e f lb)) in (
        s,
        record {
          bytes = simp (length-set, lb);
          numbers = R.numbers;
          counts = ap length q.0 ∙ length-repend more c a.opener ∙ R.counts;
          counted = rw q.0
              (opened-counted b n a c (state_in (heap7 o p) n) R.counts h q.1 R.counted s);
        },
      )

pub calm-ready : {b : List ℕ} {n : List ℤ} {c : List ℕ} → Ready b n c → Calm c
calm-ready {b = b} {n = n} {c = c} R p h = let e = R.counted.forced p h in let m = forcing-most p b n in omega arith

pub calm-one : (c : List ℕ) {p : ℕ} → Calm c → Fits w8 p → c ! (512 + p) ≤ 32
calm-one c {p = p} C f = C p (omega arith)

-- ---- another place in its block

module _ (b : List ℕ) (n : List ℤ) (c : List ℕ) (i x : ℕ) (h : i < 32) (R : Ready b n c) where
  next-is : activation_in (set b (STACK + 8 * i + 5) x) i ≡ record
      { opener = (activation_in b i).opener; d = (activation_in b i).d; frame = (activation_in b i).frame; block = (activation_in b i).block; next = x }
  unfolding activation_in
  next-is =
      let j = STACK + 8 * i in
      let lb = R.bytes in
      let o = get_or-set_other b (j + 5) j x 0 (λ z. omega arith) in
      let p = get_or-set_other b (j + 5) (j + 1) x 0 (λ z. omega arith) in
      let d = get_or-set_other b (j + 5) (j + 2) x 0 (λ z. omega arith) in
      let f = get_or-set_other b (j + 5) (j + 3) x 0 (λ z. omega arith) in
      let l = get_or-set_other b (j + 5) (j + 4) x 0 (λ z. omega arith) in
      let e = get_or-set_same b (j + 5) x 0 (omega arith) in
      λ t. record { opener = opener_of (o t) (p t); d = d t; frame = f t; block = l t; next = e t }

  openers-same : (j : ℕ) → j < 32 → (activation_in (set b (STACK + 8 * i + 5) x) j).opener ≡ (activation_in b j).opener
  unfolding activation_in
  openers-same j a =
      let o = get_or-set_other b (STACK + 8 * i + 5) (STACK + 8 * j) x 0 (λ z. omega arith) in
      let p = get_or-set_other b (STACK + 8 * i + 5) (STACK + 8 * j + 1) x 0 (λ z. omega arith) in
      λ t. opener_of (o t) (p t)

  pub next-set : (state_in (set b (STACK + 8 * i + 5) x) n ≡ with_next (state_in b n) i (activation_in b i) x) × Ready (set b (STACK + 8 * i + 5) x) n c
  unfolding with_next with_stack holding live_frames forcing live_activations state_in
  next-set =
      let lb = R.bytes in
      let b' = set b (STACK + 8 * i + 5) x in
      let e = new-activation b b' n n i h (λ m q. get_or-set_other b (STACK + 8 * i + 5) m x 0 (λ z. q (omega arith) (omega arith))) (λ m q. refl) in
      let s = e ∙ ap (λ (a : Activation). with_stack (state_in b n) (state_in b n).frames (b ! CALLS) (set (state_in b n).activations i a) (b ! DEPTH)) next-is in (
        s,
        record {
          bytes = simp (length-set, lb);
          numbers = R.numbers;
          counts = R.counts;
          counted = record {
            held = λ j a. R.counted.held j a ∙ sym (ap (holding (refers_to j)) e);
            frames = λ j a. R.counted.frames j a ∙ sym (ap (referring j) e);
            forced = λ p a. R.counted.forced p a ∙ sym (forcers-by p (activation_in b') (activation_in b) (b' ! DEPTH) 0 32 (λ j d f. openers-same j (omega arith)) ∙ ap
                (λ d. forcers p (take d (up_to (activation_in b) 0 32))) (get_or-set_other b (STACK + 8 * i + 5) DEPTH x 0 (λ z. omega arith)));
          };
        },
      )
