-- A step keeps the invariant and is not stuck, and what the claim says of a state that has it.
use mathlib.Core.Path.{◌≡◌, refl, sym, ap, ◌∙◌, subst}
use mathlib.Core.Logic.{◌≢◌, ◌⊎◌, inl, inr}
use mathlib.Core.List.{List}
use mathlib.Core.Option.{some}
use mathlib.Core.Bool.{Bool, true, false, true≢false, false≢true}
use Prim.Native.Nat.{ℕ, ◌+◌, ◌<◌}
use native.Mathlib.Decide.{dec_lt}
use native.Mathlib.Omega.{arith}
use lib.IntN.{ℤ}
use lib.ListN.{length, get_elem?, get_or-eq_default}
use borrow.Author.Tests.{le-ltb}
use Rattle.layout.specs.Bounds.{REGISTERS, NAMES}
use Rattle.layout.proofs.Lists.{get_in, get_none, get-some}
use Rattle.soundness.proofs.Ends.{not-running}
use Rattle.soundness.proofs.Types.{register-type}
use Rattle.program.specs.Program.{Version, Program, find_version}
use Rattle.rules.specs.Types.{ownership_of, is_owned, is_borrowed}
use Rattle.rules.specs.Fits.{type_of}
use Rattle.machine.specs.Try.{Try, got, stuck, stop, ◌>>=◌, or_stuck, at}
use Rattle.machine.specs.States.{register, named, with_end}
use Rattle.machine.specs.Steps.{advance}
use Rattle.machine.specs.Runs.{saying, settled, step_in, step_in_to, step_of, step_of_to}
use Rattle.machine.specs.declared.End.{End}
use Rattle.machine.specs.declared.Frame.{Frame}
use Rattle.machine.specs.declared.Said.{Said}
use Rattle.machine.specs.declared.State.{State}
use Rattle.machine.specs.declared.Status.{Status}
use Rattle.machine.specs.declared.Value.{Value}
use Rattle.soundness.specs.Claim.{Live, entered, Declared, OfType, nothing, of_kind, Owns, Borrows}
use Rattle.soundness.proofs.Cells.{Whole, cell, cell_at, frame_at, register-is, named-is}
use Rattle.soundness.proofs.Invariant.{Sure, version_at, cell_type, type_at, is_full, Fits, Unshared, Inv}
use Rattle.soundness.proofs.Progress.{Good}
use Rattle.checker.proofs.Limits.{limited}
use Rattle.soundness.proofs.LiveCalls.{live-frame}
use Rattle.soundness.proofs.KindsOf.{value_kind, kind-got, kind-within}

-- a step of a run that goes on is not stuck and keeps the invariant
abbrev pub StepSafe : Program → Type 0
StepSafe P = (s : State) → Inv P s → s.status ≡ Status.Running → Good (Inv P) (advance P s)

-- an end keeps all but the stack, which is spoken of only while the run goes on
pub end-keeps : (P : Program) (s : State) (xs : List ℤ) (e : End) → Inv P s → Inv P (with_end s xs e)
unfolding with_end
end-keeps P s xs e inv = record { keep = inv.keep; heap = inv.heap; vectors = inv.vectors; room = inv.room; deep = inv.deep; stack = λ h. absurd (not-running e h) }

-- ---- the invariant is kept

module _ (P : Program) (safe : StepSafe P) where
  -- what a step comes to has it
  settled-keeps : (s : State) (t : Try State) → Inv P s → Good (Inv P) t → Inv P (settled s t).state
  unfolding settled Good
  settled-keeps s (got t) inv g = g
  settled-keeps s stuck inv g = inv
  settled-keeps s (stop e) inv g = end-keeps P s s.result e inv

  -- the single step
  pub step_keeps : (s : State) → Inv P s → Inv P (step_of P s).state
  unfolding step_of_to step_in_to
  step_keeps s inv = go s.status refl
    where
      go : (st : Status) → s.status ≡ st → Inv P (step_in P s st).state
      go Status.Running e = settled-keeps s (advance P s) inv (safe s inv e)
      go (Status.Ended x) e = inv

  -- ---- no step is stuck

  -- what is good is not stuck
  settled-unstuck : (s : State) (t : Try State) → Good (Inv P) t → (settled s t).said ≢ Said.Stuck
  unfolding settled Good saying
  settled-unstuck s (got t) g e = go t.status e
    where
      go : (st : Status) → saying st ≡ Said.Stuck → ⊥
      go Status.Running h = let z : ◌≡◌ {A = ℕ} 0 1 = cc in omega arith
      go (Status.Ended x) h = let z : ◌≡◌ {A = ℕ} 0 1 = cc in omega arith
  settled-unstuck s stuck g e = g
  settled-unstuck s (stop x) g e = let z : ◌≡◌ {A = ℕ} 0 1 = cc in omega arith

  -- so no step of a state with the invariant is
  pub step-unstuck : (s : State) → Inv P s → (step_of P s).said ≢ Said.Stuck
  unfolding step_of_to step_in_to
  step-unstuck s inv = go s.status refl
    where
      go : (st : Status) → s.status ≡ st → (step_in P s st).said ≢ Said.Stuck
      go Status.Running e = settled-unstuck s (advance P s) (safe s inv e)
      go (Status.Ended x) e = λ h. let z : ◌≡◌ {A = ℕ} 0 1 = cc in omega arith

-- ---- registers and names that hold a value

module _ (f : Frame) (w : Whole f) where
  -- a register that holds a value is one of the frame's
  pub register-holds : (r : ℕ) (v : Value) → register f r ≡ got v → (r < REGISTERS) × (cell f r ≡ v)
  unfolding register ◌>>=◌ at or_stuck
  register-holds r v e = go (dec_lt r REGISTERS)
    where
      go : Dec (r < REGISTERS) → (r < REGISTERS) × (cell f r ≡ v)
      go (yes h) = let q : got (cell f r) ≡ got v = sym (register-is f w r h) ∙ e in (h, cc)
      go (no h) = let q : stuck ≡ got v = rw (get_none f.registers r (omega (arith, w.registers))) at e in let z : ◌≡◌ {A = ℕ} 0 1 = cc in absurd (omega arith)

  -- and so with names
  pub name-holds : (x : ℕ) (v : Value) → named f x ≡ got v → cell f (REGISTERS + x) ≡ v
  unfolding named ◌>>=◌ at or_stuck
  name-holds x v e = go (dec_lt x NAMES)
    where
      go : Dec (x < NAMES) → cell f (REGISTERS + x) ≡ v
      go (yes h) = let q : got (cell f (REGISTERS + x)) ≡ got v = sym (named-is f w x h) ∙ e in cc
      go (no h) = let q : stuck ≡ got v = rw (get_none f.names x (omega (arith, w.names))) at e in let z : ◌≡◌ {A = ℕ} 0 1 = cc in absurd (omega arith)

-- a name is of a type that is not borrowed
name-not-borrowed : (v : Version) (x : ℕ) → is_borrowed (cell_type v (REGISTERS + x)) ≡ false
unfolding cell_type is_borrowed ownership_of
name-not-borrowed v x = rw (le-ltb (REGISTERS + x) REGISTERS (omega arith)) refl

-- a register of a borrowed type is declared: the type of others is 0
borrowed-declared : (v : Version) (r : ℕ) → is_borrowed (type_of v r) ≡ true → get_elem? v.types r ≡ some (type_of v r)
unfolding is_borrowed ownership_of
borrowed-declared v r e = go (dec_lt r (length v.types))
  where
    go : Dec (r < length v.types) → get_elem? v.types r ≡ some (type_of v r)
    go (yes h) = get-some v.types r 0 h
    go (no h) = absurd (false≢true (rw (get_or-eq_default v.types 0 {n = r} (omega arith)) at e))

-- what is not full is empty
empty-is : (v : Value) → is_full v ≡ false → v ≡ Value.Empty
unfolding is_full
empty-is Value.Empty e = refl
empty-is (Value.Integer z) e = absurd (false≢true (sym e))
empty-is (Value.Vector i) e = absurd (false≢true (sym e))
empty-is (Value.Promise p) e = absurd (false≢true (sym e))

-- ---- a state with the invariant

module _ (P : Program) (sure : Sure P) (s : State) (inv : Inv P s) where
  -- a value that fits is of its type
  pub of-type : (k t : ℕ) (v : Value) → k < s.calls → Fits P inv.keep s.frames s.promises k t v → OfType P s t v
  of-type k t v h fit = go (is_full v) refl
    where
      go : (b : Bool) → is_full v ≡ b → OfType P s t v
      go true e = of_kind v (value_kind P s.frames s.promises v) (kind-got P s inv.heap inv.vectors k t h v e fit) (kind-within P inv.keep s.frames s.promises k t v e fit)
      go false e = rw (empty-is v e) nothing

  module _ (k : ℕ) (f : Frame) (live : Live s k f) where
    -- its number is below the count
    pub is_live : k < s.calls
    is_live = (live-frame s k f live).0

    -- its frame stands at its place
    frame-at : frame_at s.frames k ≡ f
    frame-at = (live-frame s k f live).1

    -- with all its registers and names
    pub live-whole : Whole f
    live-whole = subst Whole frame-at (inv.heap.sized.whole k (omega (arith, is_live, inv.heap.bound)))

    -- its version is one of the program
    pub live-known : entered P f ≡ some (version_at P s.frames k)
    unfolding entered
    live-known = ap (λ (g : Frame). find_version P g.function g.version) (sym frame-at) ∙ inv.heap.known k is_live

    -- its cells are those at its place
    pub cell-at : (c : ℕ) → cell f c ≡ cell_at s.frames k c
    unfolding cell_at
    cell-at c = ap (λ (g : Frame). cell g c) (sym frame-at)

    -- the version that declares its registers is that one
    declared-version : (r t : ℕ) (d : Declared P f r t) → d.version ≡ version_at P s.frames k
    declared-version r t d = let e : some d.version ≡ some (version_at P s.frames k) = sym d.found ∙ live-known in cc

    -- a declared register is one of the frame's
    declared-register : (r t : ℕ) → Declared P f r t → r < REGISTERS
    unfolding entered
    declared-register r t d =
        let i = get_in d.version.types r 0 t d.typed in
        let b = (limited P d.version (sure f.function f.version d.version d.found)).registers in
        omega (arith, i.0, b)

    -- of the declared type
    declared-type : (r t : ℕ) → Declared P f r t → type_at P s.frames k r ≡ t
    unfolding type_at
    declared-type r t d =
        register-type (version_at P s.frames k) r (declared-register r t d) ∙ ap (λ (v : Version). type_of v r) (sym (declared-version r t d)) ∙ (get_in d.version.types r 0 t d.typed).1

    -- it holds nothing or a value of its type
    pub register-typed : (r t : ℕ) → Declared P f r t → (v : Value) × (register f r ≡ got v) × OfType P s t v
    register-typed r t d = (cell f r, register-is f live-whole r (declared-register r t d), rw (cell-at r) (of-type k t (cell_at s.frames k r) is_live (rw (declared-type r t d) at (inv.heap.typed k r is_live))))

    -- a borrowed cell of it is a borrowed register
    register-borrows : (r : ℕ) → r < REGISTERS → is_borrowed (type_at P s.frames k r) ≡ true → Borrows P f r
    unfolding type_at
    register-borrows r h e =
        let v = version_at P s.frames k in
        let b : is_borrowed (type_of v r) ≡ true = rw (register-type v r h) at e in
        record { type = type_of v r; declared = record { version = v; found = live-known; typed = borrowed-declared v r b }; borrowed = b }

  -- what owns a vector: its cell holds it, and its type is owned
  module _ (k r v : ℕ) (o : Owns P s k r v) where
    -- its call is live
    owner-live : k < s.calls
    owner-live = is_live k o.frame o.live

    -- its register is one of the frame's
    owner-register : r < REGISTERS
    owner-register = (register-holds o.frame (live-whole k o.frame o.live) r (Value.Vector v) o.holds).0

    -- its cell holds the vector
    owner-holds : cell_at s.frames k r ≡ Value.Vector v
    owner-holds = sym (cell-at k o.frame o.live r) ∙ (register-holds o.frame (live-whole k o.frame o.live) r (Value.Vector v) o.holds).1

    -- its type is owned
    owner-owned : is_owned (type_at P s.frames k r) ≡ true
    owner-owned = rw (declared-type k o.frame o.live r o.type o.declared) o.owned

    -- a cell that holds the same vector is the same one, or a borrowed one of a call above
    shares : (k' c' : ℕ) (f' : Frame) → Live s k' f' → cell f' c' ≡ Value.Vector v → ((k' ≡ k) × (c' ≡ r)) ⊎ ((is_borrowed (type_at P s.frames k' c') ≡ true) × (k < k'))
    unfolding Unshared
    shares k' c' f' l e = inv.heap.own k r k' c' v owner-live (is_live k' f' l) owner-holds (sym (cell-at k' f' l c') ∙ e) owner-owned

    -- so no name holds it
    pub none_named : (k' x : ℕ) (f' : Frame) → Live s k' f' → named f' x ≢ got (Value.Vector v)
    unfolding type_at
    none_named k' x f' l e = go (shares k' (REGISTERS + x) f' l (name-holds f' (live-whole k' f' l) x (Value.Vector v) e))
      where
        go : ((k' ≡ k) × (REGISTERS + x ≡ r)) ⊎ ((is_borrowed (cell_type (version_at P s.frames k') (REGISTERS + x)) ≡ true) × (k < k')) → ⊥
        go (inl q) = omega (arith, q.1, owner-register)
        go (inr q) = true≢false (sym q.0 ∙ name-not-borrowed (version_at P s.frames k') x)

    pub none-shared : (k' r' : ℕ) (f' : Frame) → Live s k' f' → register f' r' ≡ got (Value.Vector v) → ((k' ≡ k) × (r' ≡ r)) ⊎ ((k < k') × Borrows P f' r')
    none-shared k' r' f' l e = go (shares k' r' f' l h.1)
      where
        h : (r' < REGISTERS) × (cell f' r' ≡ Value.Vector v)
        h = register-holds f' (live-whole k' f' l) r' (Value.Vector v) e

        go : ((k' ≡ k) × (r' ≡ r)) ⊎ ((is_borrowed (type_at P s.frames k' r') ≡ true) × (k < k')) → ((k' ≡ k) × (r' ≡ r)) ⊎ ((k < k') × Borrows P f' r')
        go (inl q) = inl q
        go (inr q) = inr (q.1, register-borrows k' f' l r' h.0 q.0)
