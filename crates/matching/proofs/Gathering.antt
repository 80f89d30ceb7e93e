-- The registers that are listed, and their kinds in one number.
use mathlib.Core.Path.{◌≡◌, refl, sym, ap, ◌∙◌, subst}
use mathlib.Core.List.{List, [], ◌∷◌}
use mathlib.Core.Option.{Option, none, some}
use mathlib.Core.Bool.{Bool, true, false}
use Prim.Native.Nat.{ℕ, zero, suc, ◌+◌, ◌-◌, ◌*◌, ◌/◌, ◌%◌, ◌≤◌, ◌<◌}
use native.Mathlib.Nat.{add-zero, zero-mul, suc-mul}
use native.Mathlib.Numerals.{add-one}
use native.Mathlib.Omega.{arith}
use lib.IntN.{ℤ}
use lib.ListN.{drop, length, length-set, length-take, set, take}
use lib.Seq.{ext_get_or, get_or-set_same, get_or-set_other, get_or-take}
use lib.Dec.{eqb}
use borrow.Author.Tests.{eqb-true, eqb-false, lt-ltb}
use Rattle.layout.proofs.Fields.{every-at, length-every}
use Rattle.layout.specs.Records.{◌!◌, every}
use Rattle.program.specs.Program.{Program}
use Rattle.machine.specs.Searches.{kinds_of}
use Rattle.machine.specs.States.{full, kind_in, register, value}
use Rattle.machine.specs.Try.{Try, got, stuck, stop, ◌>>=◌, ◌>>◌, at, each, or_stuck}
use Rattle.machine.specs.declared.Frame.{Frame}
use Rattle.machine.specs.declared.State.{State}
use Rattle.machine.specs.declared.Value.{Value}
use Rattle.store.specs.Store.{frame_in, state_in}
use Rattle.loaded.specs.Loaded.{program_in}
use Rattle.matching.specs.Kinds.{KindedRegister, OfValue, register_kind}
use Rattle.matching.specs.Codes.{Coded, KINDLESS, kinds_by, kinds_in}
use Rattle.matching.proofs.Kinding.{kind-got, kind-stuck}

-- ---- the registers

-- the first i of n are listed, and the next stands at p
pub record Listed (s : List ℕ) (at step n : ℕ) (rs : List ℕ) (i p : ℕ) : Type 0 where
  pub long : length rs ≡ 8
  pub place : p ≡ at + i * step
  pub near : p ≤ at + 2 * i
  pub few : i ≤ n
  pub most : n ≤ 8
  pub same : (j : ℕ) → j < i → rs ! j ≡ s ! (at + j * step)

module _ (s : List ℕ) (at step n : ℕ) (rs : List ℕ) where
  pub list-begun : n ≤ 8 → length rs ≡ 8 → Listed s at step n rs 0 at
  list-begun h e = record { long = e; place = rw (zero-mul, add-zero) refl; near = omega arith; few = omega arith; most = h; same = λ j l. absurd (omega arith) }

  module _ (i p : ℕ) (L : Listed s at step n rs i p) where
    pub list_on : {x : ℕ} → step < 3 → i < n → x ≡ s ! p → Listed s at step n (set rs i x) (i + 1) (p + step)
    list_on {x} h l e =
        let a = L.place in
        let c = L.near in
        let d = L.long in
        let m = L.most in
        record {
          long = simp (length-set, d);
          place = rw (add-one i, suc-mul i step) (omega arith);
          near = omega arith;
          few = omega arith;
          most = m;
          same = λ j y. go j y (eqb j i) refl;
        }
      where
        go : (j : ℕ) → j < i + 1 → (c : Bool) → eqb j i ≡ c → set rs i x ! j ≡ s ! (at + j * step)
        go j m true q = let d = L.long in let y = L.most in rw (eqb-true j i q, get_or-set_same rs i x 0 (omega arith)) (e ∙ ap (λ (y : ℕ). s ! y) L.place)
        go j m false q = let y = eqb-false j i q in rw (get_or-set_other rs i j x 0 y) (L.same j (omega arith))

    pub list_done : n ≤ i → (take n rs ≡ every s at step n) × (length rs ≡ 8)
    list_done h =
        let d = L.long in
        let m = L.most in
        let t = length-take n rs in (
          ext_get_or 0 (take n rs) (every s at step n) (omega (arith, t, length-every s at step n))
              (λ j l. get_or-take n rs j 0 (omega arith) ∙ L.same j (omega arith) ∙ sym (every-at s at step n j (omega arith))),
          d,
        )

-- ---- no stop

-- it is no end
unfoldable Goes : {A : Type 0} → Try A → Type 0
Goes (got a) = 0 < 1
Goes stuck = 0 < 1
Goes (stop e) = ⊥

goes_then : {A B : Type 0} (x : Try A) (f : A → Try B) → Goes x → ((a : A) → Goes (f a)) → Goes (x >>= f)
unfolding Goes ◌>>=◌
goes_then (got a) f g h = h a
goes_then stuck f g h = g
goes_then (stop e) f g h = g

goes-or : {A : Type 0} (o : Option A) → Goes (or_stuck o)
unfolding Goes or_stuck
goes-or none = omega arith
goes-or (some a) = omega arith

goes-got : {A : Type 0} (a : A) → Goes (got a)
unfolding Goes
goes-got a = omega arith

goes_at : {A : Type 0} (l : List A) (i : ℕ) → Goes (at l i)
unfolding at
goes_at l i = goes-or _

goes-full : (v : Value) → Goes (full v)
unfolding full Goes
goes-full Value.Empty = omega arith
goes-full (Value.Integer z) = omega arith
goes-full (Value.Vector v) = omega arith
goes-full (Value.Promise p) = omega arith

goes-value : (f : Frame) (r : ℕ) → Goes (value f r)
unfolding value register
goes-value f r = goes_then _ _ (goes_then _ _ (goes_at _ _) (λ c. goes-got _)) goes-full

goes-promise : (P : Program) (s : State) (p : ℕ) → Goes (kind_in P s (Value.Promise p))
unfolding kind_in
goes-promise P s p = goes_then _ _ (goes_at _ _) (λ q. goes_then _ _ (goes_at _ _) (λ f. goes_then _ _ (goes-or _) (λ W. goes_then _ _ (goes_at _ _) (λ B. goes-got _))))

goes-kind : (P : Program) (s : State) (v : Value) → Goes (kind_in P s v)
unfolding kind_in Goes ◌>>◌
goes-kind P s Value.Empty = omega arith
goes-kind P s (Value.Integer z) = omega arith
goes-kind P s (Value.Vector v) = go (at s.vectors v) (goes_at s.vectors v)
  where
    go : {A : Type 0} (x : Try A) → Goes x → Goes {A = ℕ} (x >> got 3)
    go (got a) g = omega arith
    go stuck g = g
    go (stop e) g = g
goes-kind P s (Value.Promise p) = goes-promise P s p

goes-each : {A B : Type 0} (f : A → Try B) (l : List A) → ((a : A) → Goes (f a)) → Goes (each f l)
unfolding each
goes-each f [] h = goes-got _
goes-each f (a ∷ l) h = goes_then _ _ (h a) (λ y. goes_then _ _ (goes-each f l h) (λ ys. goes-got _))

-- ---- all, or none

module _ (P : Program) (s : State) (f : Frame) where
  pub kinds-all : (rs ks : List ℕ) → length ks ≡ length rs → ((j : ℕ) → j < length rs → register_kind P s f (rs ! j) ≡ got (ks ! j)) → kinds_of P s f rs ≡ got ks
  unfolding kinds_of register_kind each ◌>>=◌
  kinds-all [] [] e h = refl
  kinds-all [] (m ∷ ks) e h = absurd (omega arith)
  kinds-all (r ∷ rs) [] e h = absurd (omega arith)
  kinds-all (r ∷ rs) (m ∷ ks) e h = go (value f r) (each (value f) rs) (h 0 (omega arith)) (kinds-all rs ks (omega arith) (λ j l. h (suc j) (omega arith)))
    where
      go : (o : Try Value) (l : Try (List Value)) → (o >>= kind_in P s) ≡ got m → (l >>= each (kind_in P s)) ≡ got ks
          → ((o >>= λ v. l >>= λ vs. got (v ∷ vs)) >>= each (kind_in P s)) ≡ got (m ∷ ks)
      go (got v) (got vs) a b = rw (a, b) refl
      go (got v) stuck a b = let z : ◌≡◌ {A = ℕ} 0 1 = cc in absurd (omega arith)
      go (got v) (stop x) a b = let z : ◌≡◌ {A = ℕ} 0 1 = cc in absurd (omega arith)
      go stuck l a b = let z : ◌≡◌ {A = ℕ} 0 1 = cc in absurd (omega arith)
      go (stop x) l a b = let z : ◌≡◌ {A = ℕ} 0 1 = cc in absurd (omega arith)

  pub kinds-none : (rs : List ℕ) (i : ℕ) → i < length rs → register_kind P s f (rs ! i) ≡ stuck → kinds_of P s f rs ≡ stuck
  unfolding kinds_of register_kind each ◌>>=◌ Goes
  kinds-none [] i l e = absurd (omega arith)
  kinds-none (r ∷ rs) zero l e = go (value f r) (each (value f) rs) (goes-value f r) (goes-each (value f) rs (goes-value f)) e
    where
      go : (o : Try Value) (l : Try (List Value)) → Goes o → Goes l → (o >>= kind_in P s) ≡ stuck → ((o >>= λ v. l >>= λ vs. got (v ∷ vs)) >>= each (kind_in P s)) ≡ stuck
      go (got v) (got vs) a b e = rw e refl
      go (got v) stuck a b e = refl
      go (got v) (stop x) a b e = absurd b
      go stuck l a b e = refl
      go (stop x) l a b e = absurd a
  kinds-none (r ∷ rs) (suc i) l e = go (value f r) (each (value f) rs) (goes-value f r) (kinds-none rs i (omega arith) e)
    where
      by : (x : Try ℕ) (y : Try (List ℕ)) → Goes x → y ≡ stuck → (x >>= λ m. y >>= λ ms. got (m ∷ ms)) ≡ stuck
      by (got m) y a e = rw e refl
      by stuck y a e = refl
      by (stop z) y a e = absurd a

      go : (o : Try Value) (l : Try (List Value)) → Goes o → (l >>= each (kind_in P s)) ≡ stuck → ((o >>= λ v. l >>= λ vs. got (v ∷ vs)) >>= each (kind_in P s)) ≡ stuck
      go (got v) (got vs) a e = by (kind_in P s v) (each (kind_in P s) vs) (goes-kind P s v) e
      go (got v) stuck a e = refl
      go (got v) (stop x) a e = let z : ◌≡◌ {A = ℕ} 0 1 = cc in absurd (omega arith)
      go stuck l a e = refl
      go (stop x) l a e = absurd a

-- ---- their code

-- 4 × .. × 4
unfoldable pub pow4 : ℕ → ℕ
pow4 zero = 1
pow4 (suc j) = 4 * pow4 j

-- at most 8 places
pow4-most : (j : ℕ) → j ≤ 8 → pow4 j ≤ KINDLESS
unfolding pow4
pow4-most zero h = omega arith
pow4-most (suc zero) h = omega arith
pow4-most (suc (suc zero)) h = omega arith
pow4-most (suc (suc (suc zero))) h = omega arith
pow4-most (suc (suc (suc (suc zero)))) h = omega arith
pow4-most (suc (suc (suc (suc (suc zero))))) h = omega arith
pow4-most (suc (suc (suc (suc (suc (suc zero)))))) h = omega arith
pow4-most (suc (suc (suc (suc (suc (suc (suc zero))))))) h = omega arith
pow4-most (suc (suc (suc (suc (suc (suc (suc (suc zero)))))))) h = omega arith
pow4-most (suc (suc (suc (suc (suc (suc (suc (suc (suc j))))))))) h = absurd (omega arith)

pub length-kinds : (x n : ℕ) → length (kinds_in x n) ≡ n
unfolding kinds_in
length-kinds x zero = refl
length-kinds x (suc n) = ap suc (length-kinds (x / 4) n)

-- one kind more in front
kinds-put : (x m n : ℕ) → 2 ≤ m → m < 6 → kinds_in (4 * x + (m - 2)) (suc n) ≡ m ∷ kinds_in x n
unfolding kinds_in
kinds-put x m n a b =
    let e : 2 + (4 * x + (m - 2)) % 4 ≡ m = omega arith in
    let f : (4 * x + (m - 2)) / 4 ≡ x = omega arith in
    λ i. e i ∷ kinds_in (f i) n

-- x is the code of the registers from i on of the n ones
pub record Coding (s t b : List ℕ) (k : ℕ) (rs : List ℕ) (n i x : ℕ) : Type 0 where
  pub few : i ≤ n
  pub low : x < pow4 (n - i)
  pub kinds : (z : List ℤ) (j : ℕ) → i + j < n → register_kind (program_in s t) (state_in b z) (frame_in b z k) (rs ! (i + j)) ≡ got (kinds_in x (n - i) ! j)

module _ (s t b : List ℕ) (k : ℕ) (rs : List ℕ) (n : ℕ) where
  pub code-begun : Coding s t b k rs n n 0
  unfolding pow4
  code-begun = record { few = omega arith; low = let z : n - n ≡ 0 = omega arith in rw z (omega arith); kinds = λ z j l. absurd (omega arith) }

  module _ (e x : ℕ) (D : Coding s t b k rs n e x) (above : 0 < e) where
    abbrev i : ℕ
    i = e - 1

    C : Coding s t b k rs n (i + 1) x
    C = subst (λ (v : ℕ). Coding s t b k rs n v x) (omega arith) D

    -- there is room for one more
    pub code-room : n ≤ 8 → 4 * x + 3 < KINDLESS
    unfolding pow4
    code-room h =
        let f = C.few in
        let l = C.low in
        let q = pow4-most (suc (n - (i + 1))) (omega arith) in
        omega arith

    pub code-on : (m : ℕ) → KindedRegister m s t b k (rs ! i) → (m ≡ 0 → ⊥) → OfValue m → Coding s t b k rs n i (4 * x + (m - 2))
    unfolding pow4
    code-on m K z o =
        let f = C.few in
        let l = C.low in
        let a : m ≡ 1 → ⊥ = o.0 in
        let b' = o.1 in
        let g : n - i ≡ suc (n - (i + 1)) = omega arith in
        let ks : kinds_in (4 * x + (m - 2)) (n - i) ≡ m ∷ kinds_in x (n - (i + 1)) = ap (kinds_in (4 * x + (m - 2))) g ∙ kinds-put x m (n - (i + 1)) (omega arith) b' in
        record { few = omega arith; low = rw g (omega arith); kinds = λ w j y. go w j y ks }
      where
        go : (w : List ℤ) (j : ℕ) → i + j < n → kinds_in (4 * x + (m - 2)) (n - i) ≡ m ∷ kinds_in x (n - (i + 1)) → register_kind (program_in s t) (state_in b w) (frame_in b w k)
            (rs ! (i + j)) ≡ got (kinds_in (4 * x + (m - 2)) (n - i) ! j)
        go w zero y ks = let q : i + 0 ≡ i = omega arith in rw (ks, q) (kind-got (K w) z)
        go w (suc j) y ks = let q : i + suc j ≡ i + 1 + j = omega arith in rw (ks, q) (C.kinds w j (omega arith))

    -- the next one has no kind
    pub code-none : (m : ℕ) → n ≤ length rs → KindedRegister m s t b k (rs ! i) → m ≡ 0 → Coded KINDLESS s t b k (take n rs)
    unfolding kinds_by
    code-none m h K z w =
        let f = C.few in
        let l = length-take n rs in
        kinds-none (program_in s t) (state_in b w) (frame_in b w k) (take n rs) i (omega arith)
        (ap (register_kind (program_in s t) (state_in b w) (frame_in b w k)) (get_or-take n rs i 0 (omega arith)) ∙ kind-stuck (K w) z)

  pub code-done : (i x : ℕ) → Coding s t b k rs n i x → i ≡ 0 → n ≤ 8 → n ≤ length rs → Coded x s t b k (take n rs) × (x ≤ KINDLESS)
  unfolding kinds_by
  code-done i x C e h y =
      let l = C.low in
      let q = pow4-most (n - i) (omega arith) in
      let t' = length-take n rs in
      let m : length (take n rs) ≡ n = omega arith in
      let o : n - i ≡ n = omega arith in
      let u : x < KINDLESS = omega arith in (
        λ w. kinds-all (program_in s t) (state_in b w) (frame_in b w k) (take n rs) (kinds_in x n) (length-kinds x n ∙ sym m)
            (λ j v. ap (register_kind (program_in s t) (state_in b w) (frame_in b w k)) (get_or-take n rs j 0 (omega arith) ∙ ap (λ (r : ℕ). rs ! r) (omega arith)) ∙ C.kinds w j (omega arith)
            ∙ ap (λ (r : ℕ). got (kinds_in x r ! j)) o)
            ∙ rw (lt-ltb x KINDLESS u, m) refl,
        omega arith,
      )

-- ---- the kinds of a code

-- the first i of n kinds are in hand, and c is the code of the others
pub record Decoding (x n : ℕ) (ks : List ℕ) (i c : ℕ) : Type 0 where
  pub long : length ks ≡ 8
  pub few : i ≤ n
  pub low : c < KINDLESS
  pub same : (j : ℕ) → j < i → ks ! j ≡ kinds_in x n ! j
  pub rest : (j : ℕ) → i + j < n → kinds_in x n ! (i + j) ≡ kinds_in c (n - i) ! j

module _ (x n : ℕ) (ks : List ℕ) where
  pub decode-begun : length ks ≡ 8 → x < KINDLESS → Decoding x n ks 0 x
  decode-begun e l = record {
    long = e;
    few = omega arith;
    low = l;
    same = λ j l. absurd
        (omega arith);
    rest = λ j l. let e : n - 0 ≡ n = omega arith in let f : 0 + j ≡ j = omega arith in rw (e, f) refl;
  }

  module _ (i c : ℕ) (D : Decoding x n ks i c) where
    pub decode-on : {m : ℕ} → n ≤ 8 → i < n → m ≡ 2 + c % 4 → Decoding x n (set ks i m) (i + 1) (c / 4)
    unfolding kinds_in
    decode-on {m} h l e =
        let d = D.long in
        let g : n - i ≡ suc (n - (i + 1)) = omega arith in
        let w = D.low in
        record {
          long = simp (length-set, d);
          few = omega arith;
          low = omega arith;
          same = λ j y. go j y (eqb j i) refl;
          rest = λ j y. let a : i + 1 + j ≡ i + suc j = omega arith in rw a (D.rest (suc j) (omega arith) ∙ rw g refl);
        }
      where
        go : (j : ℕ) → j < i + 1 → (q : Bool) → eqb j i ≡ q → set ks i m ! j ≡ kinds_in x n ! j
        go j y true q =
            let d = D.long in
            let g : n - i ≡ suc (n - (i + 1)) = omega arith in
            let a : i + 0 ≡ i = omega arith in
            let r = D.rest 0 (omega arith) in
            rw (eqb-true j i q, get_or-set_same ks i m 0 (omega arith)) (e ∙ sym (ap (λ (v : ℕ). kinds_in x n ! v) (sym a) ∙ r ∙ rw g refl))
        go j y false q = let z = eqb-false j i q in rw (get_or-set_other ks i j m 0 z) (D.same j (omega arith))

    pub decode-done : n ≤ 8 → n ≤ i → take n ks ≡ kinds_in x n
    decode-done h l =
        let d = D.long in
        let t = length-take n ks in
        ext_get_or 0 (take n ks) (kinds_in x n) (omega (arith, t, length-kinds x n)) (λ j y. get_or-take n ks j 0 (omega arith) ∙ D.same j (omega arith))
