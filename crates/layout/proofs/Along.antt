-- The law of what goes along the records, in its cases.
use Rattle.std.specs.Prelude.{List, [], ◌∷◌, ℕ, Bool, true, false, cond, length, eqb, ltb, not, zero, suc, None, Some, Option, Result, Ok, Err}
use mathlib.Core.Path.{◌≡◌, refl, sym, ap, ◌∙◌}
use Rattle.std.specs.Result.{result_err}
use Rattle.std.specs.Option.{option_map}
use Prim.Native.Nat.{◌+◌, ◌-◌, ◌≤◌, ◌<◌}
use native.Mathlib.Omega.{arith}
use borrow.Author.Tests.{ne_eqb, eqb-false, lt-ltb, ltb-true, ltb-false}
use Rattle.layout.specs.Records.{Rec, size_at, rec_at, rest, records}
use Rattle.layout.specs.Found.{Found}
use Rattle.layout.specs.Questions.{nothing}
use Rattle.layout.specs.Tests.{◌and◌}
use Rattle.layout.specs.Scan.{along, continued, scan}
use Rattle.layout.specs.Left.{spots}
use Rattle.layout.specs.declared.records.Spot.{Spot}
use Rattle.layout.proofs.Left.{Given}
use Rattle.layout.proofs.Walk.{rest_end, rest-cons}

module _ {S : Type 0} (t : S → Rec → Option S) (st : S) (s : List ℕ) where
  -- at the end
  pub along-end : (q : ℕ) → length s ≤ q → along t st (rest s q) ≡ Ok st
  unfolding along
  along-end q h = simp (rest_end s q h)

  module _ {q : ℕ} {x : Spot} {xs : List Spot} (g : Given s q x xs) where
    not_empty : (x.size ≡ 0 → ⊥) → size_at s x.at ≡ 0 → ⊥
    not_empty z y = z (g.size ∙ y)

    -- at a record that is not whole
    pub along-broken : x.size ≡ 0 → along t st (rest s q) ≡ Err x.at
    unfolding along
    along-broken z = rw g.at (let e : along t st (rest s x.at) ≡ Err x.at = simp (rest-cons s x.at g.inside, sym g.size ∙ z) in e)

    -- at one that fails
    pub along-stopped : (x.size ≡ 0 → ⊥) → t st (rec_at s x.at) ≡ None → along t st (rest s q) ≡ Err x.at
    unfolding along continued
    along-stopped z f = rw g.at (let e : along t st (rest s x.at) ≡ Err x.at = simp (rest-cons s x.at g.inside, ne_eqb (size_at s x.at) 0 (not_empty z), f) in e)

    -- behind one that passes
    pub along-passed : (x.size ≡ 0 → ⊥) → (next : S) → t st (rec_at s x.at) ≡ Some next → along t st (rest s q) ≡ along t next (rest s (x.at + x.size))
    unfolding along continued
    along-passed z next f = rw g.at (
        let e : along t st (rest s x.at) ≡ along t next (rest s (x.at + size_at s x.at)) = simp (rest-cons s x.at g.inside, ne_eqb (size_at s x.at) 0 (not_empty z), f) in
        e ∙ ap (λ n. along t next (rest s (x.at + n))) (sym g.size))

-- what a question says of where it came to
unfoldable pub ended : {S : Type 0} → (S → Found) → Result S ℕ → Found
ended end (Ok st) = end st
ended end (Err p) = Some p

-- a question that judges a record and then says what it leaves, as a turn
abbrev pub judged : {S : Type 0} → (S → Rec → Bool) → (S → Rec → S) → S → Rec → Option S
judged ok next st r = cond (ok st r) (Some (next st r)) None

-- whether a record is whole, by its length
filled : (n : ℕ) → ltb 0 n ≡ not (eqb n 0)
filled zero = refl
filled (suc n) = rw (lt-ltb 0 (suc n) (omega arith), ne_eqb (suc n) 0 (omega arith)) refl

-- THE LAW: a question to the records goes along them
pub scan-along : {S : Type 0} (ok : S → Rec → Bool) (next : S → Rec → S) (end : S → Found) (st : S) (rs : List Rec) → ended end (along (judged ok next) st rs) ≡ scan ok next end st rs
unfolding scan along continued ◌and◌ ended
scan-along ok next end st [] = refl
scan-along {S} ok next end st (r ∷ rs) = rw (filled r.size) (go (eqb r.size 0) (ok st r) (scan-along ok next end (next st r) rs))
  where
    go : (z b : Bool) → ended end (along (judged ok next) (next st r) rs) ≡ scan ok next end (next st r) rs
        → ended end (cond z (Err r.at) (continued {S = S} r.at (λ left. along (judged ok next) left rs) (cond b (Some (next st r)) None)))
        ≡ cond (not z and b) (scan ok next end (next st r) rs) (Some r.at)
    go true b e = refl
    go false true e = e
    go false false e = refl

-- of a question that asks nothing at the end
pub err-along : {S : Type 0} (ok : S → Rec → Bool) (next : S → Rec → S) (st : S) (rs : List Rec) → result_err (along (judged ok next) st rs) ≡ scan ok next nothing st rs
unfolding ended
err-along ok next st rs = go (along (judged ok next) st rs) ∙ scan-along ok next nothing st rs
  where
    go : {S : Type 0} (r : Result S ℕ) → result_err r ≡ ended nothing r
    go (Ok st) = refl
    go (Err p) = refl

-- THE LAW: where one turn keeps what another does, by α, both come to the same place
module _ {S T : Type 0} (α : S → T) (tS : S → Rec → Option S) (tT : T → Rec → Option T) (s : List ℕ)
    (same : (st : S) (q : ℕ) → tT (α st) (rec_at s q) ≡ option_map α (tS st (rec_at s q))) where
  step : (q n : ℕ) (st : S) (o : Option S) (u : Option T) → u ≡ option_map α o
      → ((next : S) → (n ≡ 0 → ⊥) → result_err (along tS next (rest s (q + n))) ≡ result_err (along tT (α next) (rest s (q + n))))
      → (z : Bool) → eqb n 0 ≡ z
      → result_err (cond z (Err q) (continued {S = S} q (λ left. along tS left (cond z [] (rest s (q + n)))) o))
      ≡ result_err (cond z (Err q) (continued {S = T} q (λ left. along tT left (cond z [] (rest s (q + n)))) u))
  unfolding continued
  step q n st o u e more true f = refl
  step q n st None u e more false f = rw e refl
  step q n st (Some next) u e more false f = rw e (more next (λ y. absurd (eqb-false n 0 f y)))

  over : (q : ℕ) → length s ≤ q → (st : S) → result_err (along tS st (rest s q)) ≡ result_err (along tT (α st) (rest s q))
  unfolding along
  over q h st = simp (rest_end s q h)

  here : (q : ℕ) (st : S) → ((next : S) → (size_at s q ≡ 0 → ⊥) → result_err (along tS next (rest s (q + size_at s q))) ≡ result_err (along tT (α next) (rest s (q + size_at s q))))
      → (b : Bool) → ltb q (length s) ≡ b → result_err (along tS st (rest s q)) ≡ result_err (along tT (α st) (rest s q))
  unfolding along
  here q st more false e = over q (ltb-false q (length s) e) st
  here q st more true e = rw (rest-cons s q (ltb-true q (length s) e)) (step q (size_at s q) st (tS st (rec_at s q)) (tT (α st) (rec_at s q)) (same st q) more (eqb (size_at s q) 0) refl)

  from : (f q : ℕ) → length s - q ≤ f → (st : S) → result_err (along tS st (rest s q)) ≡ result_err (along tT (α st) (rest s q))
  from zero q h st = over q (omega arith) st
  from (suc f) q h st = here q st (λ next z. from f (q + size_at s q) (omega (arith, z)) next) (ltb q (length s)) refl

  pub keeps-place : (st : S) → result_err (along tS st (records s)) ≡ result_err (along tT (α st) (records s))
  keeps-place st = from (length s) 0 (omega arith) st
