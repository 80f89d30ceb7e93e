-- What the rest of a block needs of a register: some way from a place reads it before it is assigned. What is emptied at a place is not needed there.
use mathlib.Core.Path.{◌≡◌, refl, sym, ap, ◌∙◌}
use mathlib.Core.List.{[], ◌∷◌}
use mathlib.Core.Option.{none, some}
use mathlib.Core.Bool.{Bool, true, false, not, true≢false}
use Prim.Native.Nat.{ℕ, ◌+◌}
use lib.ListN.{get_elem?}
use Rattle.sets.specs.Sets.{has, those}
use Rattle.program.specs.Program.{Line, Block, Version, Program}
use Rattle.rules.specs.Actions.{Action, here}
use Rattle.rules.specs.Walks.{acts, skips_of, walk_to}
use Rattle.rules.proofs.Follows.{Follows}
use Rattle.rules.proofs.Ways.{some_is}
use Rattle.rules.proofs.Prefixes.{Does, met, met-end, lands}

-- from the place i on, the block x, which is the block b of a version, reads the register r before it assigns it, on some way
pub data Needed (P : Program) (v : Version) (b : ℕ) (x : Block) (r : ℕ) : ℕ → Type 0 where
  yielded : (i : ℕ) → get_elem? x.code i ≡ none → has (those 16 (x.result ∷ [])) r ≡ true → Needed P v b x r i
  read : (i : ℕ) (l : Line) (now : Action) → get_elem? x.code i ≡ some l → acts P v b l.does ≡ some now → has now.R r ≡ true → Needed P v b x r i
  later : (i : ℕ) (l : Line) (now : Action) → get_elem? x.code i ≡ some l → acts P v b l.does ≡ some now → has now.W r ≡ false → Needed P v b x r (i + 1) → Needed P v b x r i
  beyond : (i n : ℕ) (l : Line) (now : Action) → get_elem? x.code i ≡ some l → acts P v b l.does ≡ some now → has now.W r ≡ false → skips_of P l.does ≡ some n → Needed P v b x r (i + 1 + n) → Needed P v b x r i

clash : {A : Type 0} {t : Bool} → t ≡ true → t ≡ false → A
clash h g = absurd (true≢false (sym h ∙ g))

-- what is emptied before an instruction that does not assign it is emptied behind it
still-emptied : {a b c : Action} → Follows a b c → (r : ℕ) → has a.U r ≡ true → has b.W r ≡ false → has c.U r ≡ true
still-emptied f r u w = f.is-U r ∙ rw (u, w) refl

module _ {P : Program} {v : Version} {b : ℕ} {x : Block} {c : Action} (h : Does P v b x c) (r : ℕ) where
  -- THE LAW: what is emptied is not needed
  pub spent : (i : ℕ) (done : Action) → here (walk_to P v b x.code i) ≡ some done → has done.U r ≡ true → Needed P v b x r i → ⊥
  spent i done e u (yielded _ n g) =
      let m = met-end h i done n e in
      let z : record { R = those 16 (x.result ∷ []); W = _; U = _; C = _ } ≡ m.0 = some_is m.1 in
      clash (sym (ap (λ (y : Action). has y.R r) z) ∙ g) (m.2.clear.emptied r u).0
  spent i done e u (read _ l now n q g) =
      let m = met h i l done n e in
      let z : now ≡ m.now = some_is (sym q ∙ m.is-now) in
      clash g (ap (λ (y : Action). has y.R r) z ∙ (m.follows.clear.emptied r u).0)
  spent i done e u (later _ l now n q g k) =
      let m = met h i l done n e in
      let z : now ≡ m.now = some_is (sym q ∙ m.is-now) in
      spent (i + 1) m.next m.is-next (m.joins.empties r (still-emptied m.follows r u (sym (ap (λ (y : Action). has y.W r) z) ∙ g))) k
  spent i done e u (beyond _ n l now o q g s k) =
      let m = met h i l done o e in
      let z : now ≡ m.now = some_is (sym q ∙ m.is-now) in
      let f = lands h i n l done o s m in
      spent (i + 1 + n) f.far f.is-far (f.joins.empties r (still-emptied m.follows r u (sym (ap (λ (y : Action). has y.W r) z) ∙ g))) k
