-- The walk of a block: what stands before each instruction, on all ways that lead there.
use mathlib.Core.Path.{◌≡◌, refl, sym, ap, ◌∙◌, subst}
use mathlib.Core.List.{List, [], ◌∷◌, ◌++◌}
use mathlib.Core.Option.{Option, none, some}
use mathlib.Core.Bool.{Bool, true, false, cond, ◌&&◌, false≢true}
use Prim.Native.Nat.{ℕ, zero, suc, ◌+◌, ◌-◌, ◌≤◌, ◌<◌}
use native.Mathlib.Omega.{arith}
use lib.ListN.{length, take, drop, get_or, set, replicate, length-drop, length-set}
use lib.Seq.{get_or-drop, get_or-set_same, get_or-set_other}
use lib.Dec.{ltb, eqb}
use borrow.Author.Tests.{ltb-true, eqb-true, eqb-false}
use Rattle.sets.specs.Sets.{has, ◌∩◌}
use Rattle.sets.proofs.Members.{has_both}
use Rattle.program.specs.Program.{Instr, Line}
use Rattle.rules.specs.Actions.{Action, ◌then◌, either, Walk, join, here, past, walk}
use Rattle.rules.proofs.Follows.{Follows, Parts, then-parts, or_left, or_right, has-union, first_reads, first-captures}

-- ---- ways joined

-- what is said of all ways behind b holds behind a
pub record Within (a b : Action) : Type 0 where
  pub reads : (r : ℕ) → has a.R r ≡ true → has b.R r ≡ true
  pub assigns : (r : ℕ) → has b.W r ≡ true → has a.W r ≡ true
  pub empties : (r : ℕ) → has a.U r ≡ true → has b.U r ≡ true
  pub captures : (r : ℕ) → has a.C r ≡ true → has b.C r ≡ true

pub within_same : (a : Action) → Within a a
within_same a = record { reads = λ r h. h; assigns = λ r h. h; empties = λ r h. h; captures = λ r h. h }

pub within_both : {a b c : Action} → Within a b → Within b c → Within a c
within_both f g = record {
  reads = λ r h. g.reads r (f.reads r h);
  assigns = λ r h. f.assigns r (g.assigns r h);
  empties = λ r h. g.empties r (f.empties r h);
  captures = λ r h. g.captures r (f.captures r h);
}

and_first : (a b : Bool) → (a && b) ≡ true → a ≡ true
and_first true b h = refl
and_first false b h = h

and_second : (a b : Bool) → (a && b) ≡ true → b ≡ true
and_second true b h = h
and_second false b h = absurd (false≢true h)

pub either_first : (a b : Action) → Within a (either a b)
unfolding either
either_first a b = record {
  reads = λ r h. has-union a.R b.R r ∙ or_left _ h;
  assigns = λ r h. and_first (has a.W r) (has b.W r) (sym (has_both ◌&&◌ refl a.W b.W r) ∙ h);
  empties = λ r h. has-union a.U b.U r ∙ or_left _ h;
  captures = λ r h. has-union a.C b.C r ∙ or_left _ h;
}

pub either_second : (a b : Action) → Within b (either a b)
unfolding either
either_second a b = record {
  reads = λ r h. has-union a.R b.R r ∙ or_right (has a.R r) h;
  assigns = λ r h. and_second (has a.W r) (has b.W r) (sym (has_both ◌&&◌ refl a.W b.W r) ∙ h);
  empties = λ r h. has-union a.U b.U r ∙ or_right (has a.U r) h;
  captures = λ r h. has-union a.C b.C r ∙ or_right (has a.C r) h;
}

-- no way and a way are two things
some-none : {A B : Type 0} {x : A} → some x ≡ none → B
some-none e = let z : ◌≡◌ {A = ℕ} 0 1 = cc in absurd (omega arith)

pub some_is : {A : Type 0} {x y : A} → some x ≡ some y → x ≡ y
some_is e = cc

join_first : (a f : Action) (w : Option Action) → join (some a) w ≡ some f → Within a f
unfolding join
join_first a f none e = subst (Within a) (some_is e) (within_same a)
join_first a f (some w) e = subst (Within a) (some_is e) (either_first a w)

join-second : (x : Option Action) (w f : Action) → join x (some w) ≡ some f → Within w f
unfolding join
join-second none w f e = some-none (sym e)
join-second (some a) w f e = subst (Within w) (some_is e) (either_second a w)

-- ---- what is not allowed stays so

module _ (skip : Instr → Option ℕ) (act : Instr → Option Action) where
  past-none : (k : Option ℕ) (b : Option Action) (w : Walk) → here w ≡ none → (past k b w).done ≡ none
  unfolding past ◌then◌
  past-none none b w e = rw e
  past-none (some n) b w e = go (ltb n (length (drop 1 w.ways))) (here w) e
    where
      go : (t : Bool) (a : Option Action) → a ≡ none → cond t (a then b) none ≡ none
      go true a e = rw e
      go false a e = refl

  here-none : (w : Walk) → w.done ≡ none → here w ≡ none
  unfolding here join
  here-none w e = rw e

  walk_none : (w : Walk) (ls : List Line) → here w ≡ none → here (walk skip act w ls) ≡ none
  unfolding walk
  walk_none w [] e = e
  walk_none w (l ∷ ls) e = let v = past (skip l.does) (act l.does) w in walk_none v ls (here-none v (past-none (skip l.does) (act l.does) w e))

  -- where a later place is reached, so is this one
  pub walk_here : (w : Walk) (ls : List Line) (c : Action) → here (walk skip act w ls) ≡ some c → (a : Action) × (here w ≡ some a)
  walk_here w ls c e = go (here w) refl
    where
      go : (o : Option Action) → here w ≡ o → (a : Action) × (here w ≡ some a)
      go none h = some-none (sym e ∙ walk_none w ls h)
      go (some a) h = (a, h)

  -- the way from the instruction before, where a place is reached
  pub record Came (w : Walk) (f : Action) : Type 0 where
    pub way : Action
    pub is-way : w.done ≡ some way
    pub joins : Within way f

  pub came : (w : Walk) (f : Action) → here w ≡ some f → Came w f
  unfolding here join
  came w f e = go w.done refl e
    where
      go : (o : Option Action) → w.done ≡ o → join o (get_or w.ways 0 none) ≡ some f → Came w f
      go none h g = some-none (sym g)
      go (some a) h g = record { way = a; is-way = h; joins = join_first a f (get_or w.ways 0 none) g }

  -- ---- one instruction

  pub record Steps (w : Walk) (i : Instr) (d : Action) : Type 0 where
    pub before : Action
    pub now : Action
    pub is-before : here w ≡ some before
    pub is-now : act i ≡ some now
    pub follows : Follows before now d

  steps-by : (w : Walk) (i : Instr) (d : Action) → (here w then act i) ≡ some d → Steps w i d
  steps-by w i d e = let p = then-parts (here w) (act i) d e in record { before = p.first; now = p.second; is-before = p.is-first; is-now = p.is-second; follows = p.follows }

  -- it is allowed, and so is the way that it opens
  pub stepped : (w : Walk) (i : Instr) (d : Action) → (past (skip i) (act i) w).done ≡ some d → Steps w i d
  unfolding past
  stepped w i d e = go (skip i) e
    where
      at : (t : Bool) → cond t (here w then act i) none ≡ some d → (here w then act i) ≡ some d
      at true h = h
      at false h = some-none (sym h)

      go : (k : Option ℕ) → (past k (act i) w).done ≡ some d → Steps w i d
      go none h = steps-by w i d h
      go (some n) h = steps-by w i d (at (ltb n (length (drop 1 w.ways))) h)

  -- a SKIP of n opens a way to the n-th place behind the next, which lies in the block
  pub record Opens (n : ℕ) (w v : Walk) (d : Action) : Type 0 where
    pub inside : n < length v.ways
    pub far : Action
    pub is-far : get_or v.ways n none ≡ some far
    pub joins : Within d far

  pub opens : (w : Walk) (n : ℕ) (b : Option Action) (d : Action) → (past (some n) b w).done ≡ some d → Opens n w (past (some n) b w) d
  unfolding past join
  opens w n b d e = go (ltb n (length (drop 1 w.ways))) refl e
    where
      at : (here w then b) ≡ some d → n < length (drop 1 w.ways) → (o : Option Action) → get_or (drop 1 w.ways) n none ≡ o → Opens n w (past (some n) b w) d
      at h l none g = record {
        inside = rw length-set l;
        far = d;
        is-far = rw (h, g) (get_or-set_same (drop 1 w.ways) n (some d) none l);
        joins = within_same d;
      }
      at h l (some x) g = record {
        inside = rw length-set l;
        far = either d x;
        is-far = rw (h, g) (get_or-set_same (drop 1 w.ways) n (some (either d x)) none l);
        joins = either_first d x;
      }

      go : (t : Bool) → ltb n (length (drop 1 w.ways)) ≡ t → cond t (here w then b) none ≡ some d → Opens n w (past (some n) b w) d
      go true l h = at h (ltb-true n _ l) (get_or (drop 1 w.ways) n none) refl
      go false l h = some-none (sym h)

  -- ---- a way that a skip took goes on to its place

  pub record Kept (n : ℕ) (w : Walk) (e : Action) : Type 0 where
    pub later : Action
    pub is_later : get_or w.ways n none ≡ some later
    pub joins : Within e later

  next-slot : (w : Walk) (n : ℕ) → get_or (drop 1 w.ways) n none ≡ get_or w.ways (suc n) none
  next-slot w n = let m : 1 + n ≡ suc n = omega arith in get_or-drop 1 w.ways n none ∙ ap (λ (k : ℕ). get_or w.ways k none) m

  kept : (k : Option ℕ) (b : Option Action) (w : Walk) (n : ℕ) (e d : Action) → get_or w.ways (suc n) none ≡ some e → (past k b w).done ≡ some d → Kept n (past k b w) e
  unfolding past join
  kept none b w n e d h g = record { later = e; is_later = next-slot w n ∙ h; joins = within_same e }
  kept (some m) b w n e d h g = at (eqb n m) refl (ltb m (length (drop 1 w.ways))) refl g
    where
      slot : get_or (drop 1 w.ways) n none ≡ some e
      slot = next-slot w n ∙ h

      at : (s : Bool) → eqb n m ≡ s → (t : Bool) → ltb m (length (drop 1 w.ways)) ≡ t → cond t (here w then b) none ≡ some d → Kept n (past (some m) b w) e
      at s p false l q = some-none (sym q)
      at true p true l q =
          let z : n ≡ m = eqb-true n m p in
          record {
            later = either d e;
            is_later = rw (q, z, rw z at slot) (get_or-set_same (drop 1 w.ways) m (some (either d e)) none (ltb-true m _ l));
            joins = either_second d e;
          }
      at false p true l q = record {
        later = e;
        is_later = get_or-set_other (drop 1 w.ways) m n _ none (eqb-false n m p) ∙ slot;
        joins = within_same e;
      }

  pub carried : (n : ℕ) (w : Walk) (e : Action) (ls : List Line) (f : Action) → get_or w.ways n none ≡ some e → n ≤ length ls → here (walk skip act w (take n ls)) ≡ some f → Within e f
  unfolding walk here
  carried zero w e ls f h l g = join-second w.done e f (rw h at g)
  carried (suc n) w e [] f h l g = absurd (omega arith)
  carried (suc n) w e (x ∷ ls) f h l g =
      let v = past (skip x.does) (act x.does) w in
      let a = walk_here v (take n ls) f g in
      let c = came v a.0 a.1 in
      let k = kept (skip x.does) (act x.does) w n e c.way h c.is-way in
      within_both k.joins (carried n v k.later ls f k.is_later (omega arith) g)

  -- ---- from one place to a later one

  pub record Grows (a b : Action) : Type 0 where
    pub reads : (r : ℕ) → has a.R r ≡ true → has b.R r ≡ true
    pub captures : (r : ℕ) → has a.C r ≡ true → has b.C r ≡ true

  pub grows : (w : Walk) (ls : List Line) (a c : Action) → here w ≡ some a → here (walk skip act w ls) ≡ some c → Grows a c
  unfolding walk
  grows w [] a c h g = let z : a ≡ c = some_is (sym h ∙ g) in record { reads = λ r q. rw (← z) q; captures = λ r q. rw (← z) q }
  grows w (l ∷ ls) a c h g =
      let v = past (skip l.does) (act l.does) w in
      let p = walk_here v ls c g in
      let k = came v p.0 p.1 in
      let s = stepped w l.does k.way k.is-way in
      let z : a ≡ s.before = some_is (sym h ∙ s.is-before) in
      let t = grows v ls p.0 c p.1 g in
      record {
        reads = λ r q. t.reads r (k.joins.reads r (first_reads s.follows r (rw z at q)));
        captures = λ r q. t.captures r (k.joins.captures r (first-captures s.follows r (rw z at q)));
      }

  -- ---- the walk in parts

  pub walk-parts : (w : Walk) (xs ys : List Line) → walk skip act w (xs ++ ys) ≡ walk skip act (walk skip act w xs) ys
  unfolding walk
  walk-parts w [] ys = refl
  walk-parts w (x ∷ xs) ys = walk-parts (past (skip x.does) (act x.does) w) xs ys

  past-length : (k : Option ℕ) (b : Option Action) (w : Walk) → length (past k b w).ways ≡ length w.ways - 1
  unfolding past
  past-length none b w = length-drop 1 w.ways
  past-length (some n) b w = rw length-set (length-drop 1 w.ways)

  pub walk-length : (w : Walk) (ls : List Line) → length (walk skip act w ls).ways ≡ length w.ways - length ls
  unfolding walk
  walk-length w [] = omega arith
  walk-length w (l ∷ ls) = let v = past (skip l.does) (act l.does) w in omega (arith, walk-length v ls, past-length (skip l.does) (act l.does) w)
