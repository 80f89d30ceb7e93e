-- A block at an instruction: what was done before it on all ways that lead there, what it does, and where it leads.
use mathlib.Core.Path.{◌≡◌, refl, sym, ap, ◌∙◌}
use mathlib.Core.Logic.{◌⊎◌}
use mathlib.Core.List.{List, [], ◌∷◌, ◌++◌}
use mathlib.Core.Option.{Option, none, some}
use mathlib.Core.Bool.{true, false}
use Prim.Native.Nat.{ℕ, zero, suc, ◌+◌, ◌-◌, ◌≤◌, ◌<◌}
use native.Mathlib.Omega.{arith}
use native.Mathlib.Numerals.{add-one}
use lib.ListN.{length, take, drop, get_or, get_elem?, replicate, take-append-drop, length-take, length-replicate, get_or-replicate}
use lib.Seq.{take-suc, take-length}
use Rattle.layout.specs.Bounds.{INSTRUCTIONS}
use Rattle.sets.specs.Sets.{has, those}
use Rattle.program.specs.Program.{Line, Block, Version, Program}
use Rattle.layout.proofs.Lists.{get_in, none-past}
use Rattle.rules.specs.Actions.{Action, ◌then◌, ∅, reading, Walk, join, here, past, walk, start, along}
use Rattle.rules.specs.Walks.{block_action, acts, skips_of, walk_to}
use Rattle.rules.proofs.Walked.{walked_at}
use Rattle.rules.proofs.Follows.{Follows, Parts, then-parts, first_reads, first-captures}
use Rattle.rules.proofs.Ways.{Within, within_both, some_is, walk_here, came, stepped, Opens, opens, carried, grows, walk-parts, walk-length}

-- ---- lists

take-both : {A : Type 0} (m n : ℕ) (xs : List A) → take (m + n) xs ≡ take m xs ++ take n (drop m xs)
take-both zero n xs = let z : 0 + n ≡ n = omega arith in rw z
take-both (suc m) n [] = let z : suc m + n ≡ suc (m + n) = omega arith in rw z (nothing n)
  where
    nothing : {A : Type 0} (n : ℕ) → [] ≡ take {A = A} n []
    nothing zero = refl
    nothing (suc n) = refl
take-both (suc m) n (x ∷ xs) = let z : suc m + n ≡ suc (m + n) = omega arith in rw z (ap (λ (l : List _). x ∷ l) (take-both m n xs))

take_all : {A : Type 0} (i : ℕ) (xs : List A) → length xs ≤ i → take i xs ≡ xs
take_all zero [] h = refl
take_all (suc i) [] h = refl
take_all zero (x ∷ xs) h = absurd (omega arith)
take_all (suc i) (x ∷ xs) h = ap (λ (l : List _). x ∷ l) (take_all i xs (omega arith))

take-few : {A : Type 0} (i : ℕ) (xs : List A) → i ≤ length xs → length (take i xs) ≡ i
take-few zero xs h = refl
take-few (suc i) [] h = absurd (omega arith)
take-few (suc i) (x ∷ xs) h = ap suc (take-few i xs (omega arith))

take-le : {A : Type 0} (i : ℕ) (xs : List A) → length (take i xs) ≤ length xs
take-le zero xs = omega arith
take-le (suc i) [] = omega arith
take-le (suc i) (x ∷ xs) = omega (arith, take-le i xs)

drop-rest : {A : Type 0} (m n : ℕ) (xs : List A) → m + n ≤ length xs → n ≤ length (drop m xs)
drop-rest zero n xs h = omega arith
drop-rest (suc m) n [] h = absurd (omega arith)
drop-rest (suc m) n (x ∷ xs) h = drop-rest m n xs (omega arith)

-- ---- the block x, which is the block b of a version, does c

pub record Does (P : Program) (v : Version) (b : ℕ) (x : Block) (c : Action) : Type 0 where
  pub there : get_elem? v.blocks b ≡ some x
  pub does : block_action P v b ≡ some c

-- before the instruction i it has done `done`, on all ways that lead there
pub record Reached (P : Program) (v : Version) (b : ℕ) (x : Block) (c : Action) (i : ℕ) : Type 0 where
  pub done : Action
  pub is-done : here (walk_to P v b x.code i) ≡ some done
  pub reads : (r : ℕ) → has done.R r ≡ true → has c.R r ≡ true
  pub captures : (r : ℕ) → has done.C r ≡ true → has c.C r ≡ true

module _ {P : Program} {v : Version} {b : ℕ} {x : Block} {c : Action} (h : Does P v b x c) where
  whole : Parts (here (walk (skips_of P) (acts P v b) (start x.code) x.code)) (reading (x.result ∷ [])) c
  whole = then-parts _ _ c (sym (walked_at P v b x h.there) ∙ h.does)

  from : (i : ℕ) → here (walk (skips_of P) (acts P v b) (walk_to P v b x.code i) (drop i x.code)) ≡ some whole.first
  from i = ap here (sym (walk-parts (skips_of P) (acts P v b) (start x.code) (take i x.code) (drop i x.code)) ∙ ap (walk (skips_of P) (acts P v b) (start x.code)) (take-append-drop i x.code)) ∙ whole.is-first

  -- every place is reached
  pub reached : (i : ℕ) → Reached P v b x c i
  reached i =
      let w = walk_to P v b x.code i in
      let p = walk_here (skips_of P) (acts P v b) w (drop i x.code) whole.first (from i) in
      let g = grows (skips_of P) (acts P v b) w (drop i x.code) p.0 whole.first p.1 (from i) in
      record {
        done = p.0;
        is-done = p.1;
        reads = λ r q. first_reads whole.follows r (g.reads r q);
        captures = λ r q. first-captures whole.follows r (g.captures r q);
      }

  -- at the end the result register is read
  pub met-end : (i : ℕ) (done : Action) → get_elem? x.code i ≡ none → here (walk_to P v b x.code i) ≡ some done → (last : Action) × (reading (x.result ∷ []) ≡ some last) × Follows done last c
  met-end i done n e =
      let z : take i x.code ≡ x.code = take_all i x.code (none-past x.code i n) in
      let y : done ≡ whole.first = some_is (sym e ∙ ap (λ (l : List Line). here (walk (skips_of P) (acts P v b) (start x.code) l)) z ∙ whole.is-first) in
      (whole.second, whole.is-second, rw y whole.follows)

-- at its first instruction nothing has been done
pub at_first : (P : Program) (v : Version) (b : ℕ) (x : Block) → here (walk_to P v b x.code 0) ≡ some (record { R = ∅; W = ∅; U = ∅; C = ∅ })
unfolding here walk join those
at_first P v b x = rw (get_or-replicate {A = Option Action} (length (take INSTRUCTIONS x.code) + 1) 0 none none (omega arith)) refl

-- the instruction l at the place i, before which `done` was done: what it does, what is done behind it, and what is done at the next place on all ways
pub record Meets (P : Program) (v : Version) (b : ℕ) (x : Block) (c : Action) (i : ℕ) (l : Line) (done : Action) : Type 0 where
  pub now : Action
  pub is-now : acts P v b l.does ≡ some now
  pub behind : Action
  pub follows : Follows done now behind
  pub is-behind : (past (skips_of P l.does) (acts P v b l.does) (walk_to P v b x.code i)).done ≡ some behind
  pub next : Action
  pub is-next : here (walk_to P v b x.code (i + 1)) ≡ some next
  pub joins : Within behind next
  pub reads : (r : ℕ) → has behind.R r ≡ true → has c.R r ≡ true
  pub captures : (r : ℕ) → has behind.C r ≡ true → has c.C r ≡ true

-- the walk goes past it
walk-next : (P : Program) (v : Version) (b : ℕ) (code : List Line) (i : ℕ) (l : Line) → get_elem? code i ≡ some l → walk_to P v b code (i + 1) ≡ past (skips_of P l.does) (acts P v b l.does) (walk_to P v b code i)
unfolding walk
walk-next P v b code i l e =
    let g = get_in code i l l e in
    ap (walk (skips_of P) (acts P v b) (start code)) (ap (λ (k : ℕ). take k code) (add-one i) ∙ take-suc code i l g.0 ∙ ap (λ (y : Line). take i code ++ (y ∷ [])) g.1)
    ∙ walk-parts (skips_of P) (acts P v b) (start code) (take i code) (l ∷ [])

pub met : {P : Program} {v : Version} {b : ℕ} {x : Block} {c : Action} → Does P v b x c → (i : ℕ) (l : Line) (done : Action) → get_elem? x.code i ≡ some l → here (walk_to P v b x.code i) ≡ some done → Meets P v b x c i l done
met {P} {v} {b} {x} {c} h i l done e d =
    let n = reached h (i + 1) in
    let w = walk_to P v b x.code i in
    let k = came (skips_of P) (acts P v b) (past (skips_of P l.does) (acts P v b l.does) w) n.done (ap here (sym (walk-next P v b x.code i l e)) ∙ n.is-done) in
    let s = stepped (skips_of P) (acts P v b) w l.does k.way k.is-way in
    let z : s.before ≡ done = some_is (sym s.is-before ∙ d) in
    record {
      now = s.now;
      is-now = s.is-now;
      behind = k.way;
      follows = rw z at s.follows;
      is-behind = k.is-way;
      next = n.done;
      is-next = n.is-done;
      joins = k.joins;
      reads = λ r q. n.reads r (k.joins.reads r q);
      captures = λ r q. n.captures r (k.joins.captures r q);
    }

-- a SKIP of n leads to a place of the block too
pub record Lands (P : Program) (v : Version) (b : ℕ) (x : Block) (i n : ℕ) (behind : Action) : Type 0 where
  pub inside : i + 1 + n ≤ length x.code
  pub far : Action
  pub is-far : here (walk_to P v b x.code (i + 1 + n)) ≡ some far
  pub joins : Within behind far

pub lands : {P : Program} {v : Version} {b : ℕ} {x : Block} {c : Action} → Does P v b x c → (i n : ℕ) (l : Line) (done : Action) → get_elem? x.code i ≡ some l → skips_of P l.does ≡ some n → (m : Meets P v b x c i l done) → Lands P v b x i n m.behind
lands {P} {v} {b} {x} {c} h i n l done e s m = record {
  inside = room;
  far = f.done;
  is-far = f.is-done;
  joins = within_both o.joins (carried (skips_of P) (acts P v b) n (walk_to P v b x.code (i + 1)) o.far (drop (i + 1) x.code) f.done (ap (λ (w : Walk). get_or w.ways n none) at ∙ o.is-far) (drop-rest (i + 1) n x.code room) (ap here (sym parts) ∙ f.is-done));
}
  where
    w : Walk
    w = walk_to P v b x.code i

    at : walk_to P v b x.code (i + 1) ≡ past (some n) (acts P v b l.does) (walk_to P v b x.code i)
    at = walk-next P v b x.code i l e ∙ ap (λ (k : Option ℕ). past k (acts P v b l.does) w) s

    o : Opens (skips_of P) (acts P v b) n (walk_to P v b x.code i) (past (some n) (acts P v b l.does) (walk_to P v b x.code i)) m.behind
    o = opens (skips_of P) (acts P v b) w n (acts P v b l.does) m.behind (ap (λ (k : Option ℕ). (past k (acts P v b l.does) w).done) (sym s) ∙ m.is-behind)

    room : i + 1 + n ≤ length x.code
    room =
        let g = (get_in x.code i l l e).0 in
        let a = ap (λ (y : Walk). length y.ways) at in
        omega (arith, o.inside, a, walk-length (skips_of P) (acts P v b) (start x.code) (take (i + 1) x.code), take-few (i + 1) x.code (omega arith), length-replicate {A = Option Action} (length (take INSTRUCTIONS x.code) + 1) none, take-le INSTRUCTIONS x.code)

    f : Reached P v b x c (i + 1 + n)
    f = reached h (i + 1 + n)

    parts : walk_to P v b x.code (i + 1 + n) ≡ walk (skips_of P) (acts P v b) (walk_to P v b x.code (i + 1)) (take n (drop (i + 1) x.code))
    parts = ap (walk (skips_of P) (acts P v b) (start x.code)) (take-both (i + 1) n x.code) ∙ walk-parts (skips_of P) (acts P v b) (start x.code) (take (i + 1) x.code) (take n (drop (i + 1) x.code))
