-- 02, request 11: what is shown of the topmost call of a run of demand 3: one record per register of its version, each true.
use mathlib.Core.Path.{◌≡◌, refl, sym, ap, ◌∙◌}
use mathlib.Core.List.{List}
use mathlib.Core.Option.{Option, none, some}
use Prim.Native.Nat.{ℕ, ◌-◌, ◌≤◌, ◌<◌}
use native.Mathlib.Nat.{zero-add}
use native.Mathlib.Omega.{arith}
use lib.ListN.{length, get_elem?, length-take, take}
use Rattle.layout.specs.Bounds.{REGISTERS}
use Rattle.layout.proofs.Lists.{get_in, get_take}
use Rattle.program.specs.Program.{Block, Version, Program, find_version}
use Rattle.checker.proofs.Limits.{limited}
use Rattle.rules.specs.Fits.{promise_kind}
use Rattle.machine.specs.Try.{Try, got, stuck, stop, ◌>>=◌, ◌>>◌, or_stuck, at}
use Rattle.machine.specs.States.{kind_in, live_frames, register}
use Rattle.machine.specs.Events.{Run, program_in}
use Rattle.machine.specs.Watches.{items_at, mark_in, or_zero, row_of, or_empty, rows_from, rows_of, rows_at, newest, watch_of}
use Rattle.machine.specs.declared.Frame.{Frame}
use Rattle.machine.specs.declared.Promise.{Promise}
use Rattle.machine.specs.declared.Row.{Row}
use Rattle.machine.specs.declared.State.{State}
use Rattle.machine.specs.declared.Value.{Value}
use Rattle.machine.specs.declared.Vector.{Vector}
use Rattle.runs.proofs.Visits.{visit-after-keeps}
use Rattle.runs.proofs.Watches.{rows-length, rows-at}
use Rattle.soundness.specs.Claim.{entered, Declared, OfType, nothing, of_kind, begun}
use Rattle.soundness.specs.Watches.{Shows, shows_nothing, shows_integer, shows_vector, shows_promise, ShowsRegister, ShowsRun, Watched, WatchedBack, WatchedPool}
use Rattle.soundness.proofs.Cells.{frame_at}
use Rattle.soundness.proofs.Invariant.{version_at}
use Rattle.soundness.proofs.Closing.{live-known, register-typed}
use Rattle.soundness.proofs.Histories.{Sound, sure-of, after-sound, sound-step, sound-taken, begun-sound}
use Rattle.soundness.proofs.Taken.{frame-live}
use Rattle.soundness.proofs.Pools.{house-sound}

-- ---- a value that has a kind is there

-- the vector
vector-there : (P : Program) (s : State) (v k : ℕ) → kind_in P s (Value.Vector v) ≡ got k → (w : Vector) × (get_elem? s.vectors v ≡ some w)
unfolding kind_in at or_stuck ◌>>◌ ◌>>=◌
vector-there P s v k = go (get_elem? s.vectors v) refl
  where
    go : (o : Option Vector) → get_elem? s.vectors v ≡ o → (or_stuck o >> got 3) ≡ got k → (w : Vector) × (get_elem? s.vectors v ≡ some w)
    go none e h = let z : ◌≡◌ {A = ℕ} 0 1 = cc in absurd (omega arith)
    go (some w) e h = (w, e)

-- a mark where there is a kind
marked : {A : Type 0} (t : Try A) (f : A → Try ℕ) (g : A → Try ℕ) (k : ℕ) → ((a : A) → f a ≡ got k → (m : ℕ) × (g a ≡ got m)) → (t >>= f) ≡ got k → (m : ℕ) × ((t >>= g) ≡ got m)
unfolding ◌>>=◌
marked (got a) f g k h e = h a e
marked stuck f g k h e = let z : ◌≡◌ {A = ℕ} 0 1 = cc in absurd (omega arith)
marked (stop x) f g k h e = let z : ◌≡◌ {A = ℕ} 0 1 = cc in absurd (omega arith)

-- the promise
promise-there : (P : Program) (s : State) (p k : ℕ) → kind_in P s (Value.Promise p) ≡ got k → (m : ℕ) × (mark_in P s p ≡ got m)
unfolding kind_in mark_in
promise-there P s p k =
    marked (at s.promises p) _ _ k (λ (q : Promise). marked (at (live_frames s) q.frame) _ _ k (λ (f : Frame). marked (or_stuck (find_version P f.function f.version)) _ _ k (λ (W : Version). marked (at W.blocks q.block) (λ (B : Block). got (promise_kind B.mark)) (λ (B : Block). got B.mark) k (λ (B : Block) e. (B.mark, refl)))))

-- so its record shows it
shows-kind : (P : Program) (s : State) (t : ℕ) (v : Value) (k : ℕ) → kind_in P s v ≡ got k → Shows P s t v (row_of P s t v)
unfolding row_of items_at or_zero
shows-kind P s t Value.Empty k e = shows_nothing
shows-kind P s t (Value.Integer z) k e = shows_integer z
shows-kind P s t (Value.Vector v) k e = let w = vector-there P s v k e in rw w.1 (shows_vector v w.0 w.1)
shows-kind P s t (Value.Promise p) k e = let m = promise-there P s p k e in rw m.1 (shows_promise p m.0 m.1)

shows-value : (P : Program) (s : State) (t : ℕ) (v : Value) → OfType P s t v → Shows P s t v (row_of P s t v)
unfolding row_of
shows-value P s t v nothing = shows_nothing
shows-value P s t v (of_kind x k e w) = shows-kind P s t x k e

-- ---- the topmost call

module _ (r : Run) (o : Sound r) (live : 0 < r.state.calls) where
  abbrev P : Program
  P = program_in r

  abbrev s : State
  s = r.state

  abbrev g : Frame
  g = frame_at s.frames (s.calls - 1)

  top : newest s ≡ some g
  top = frame-live s o.inv.heap.sized o.inv.heap.bound (s.calls - 1) (omega (arith, live))

  abbrev W : Version
  W = version_at P s.frames (s.calls - 1)

  known : entered P g ≡ some W
  known = live-known P (sure-of r o) s o.inv (s.calls - 1) g top

  -- all types are shown: a version declares at most 16
  few : length W.types ≤ REGISTERS
  unfolding entered
  few = (limited P W (sure-of r o g.function g.version W known)).registers

  rows_are : watch_of P s ≡ rows_from P s g 0 (take REGISTERS W.types)
  unfolding watch_of rows_at rows_of entered
  rows_are = ap (rows_at P s) top ∙ ap (rows_of P s g) known

  taken : length (take REGISTERS W.types) ≡ length W.types
  taken = omega (arith, length-take REGISTERS W.types, few)

  counts : length (watch_of P s) ≡ length W.types
  counts = ap (λ (l : List Row). length l) rows_are ∙ rows-length P s g 0 (take REGISTERS W.types) ∙ taken

  register-shown : (k t : ℕ) → Declared P g k t → ShowsRegister P s g k t
  unfolding or_empty
  register-shown k t d =
      let x = register-typed P (sure-of r o) s o.inv (s.calls - 1) g top k t d in
      let e : some d.version ≡ some W = sym d.found ∙ known in
      let same : d.version ≡ W = cc in
      let typed : get_elem? W.types k ≡ some t = ap (λ (v : Version). get_elem? v.types k) (sym same) ∙ d.typed in
      let l : k < length W.types = (get_in W.types k t t typed).0 in
      let row = rows-at P s g 0 (take REGISTERS W.types) k t (get_take W.types REGISTERS k (omega (arith, l, few)) ∙ typed) in
      record {
        value = x.0;
        row = row_of P s t x.0;
        holds = x.1;
        of_type = x.2;
        shown = ap (λ (l : List Row). get_elem? l k) rows_are ∙ row ∙ ap (λ (i : ℕ). some (row_of P s t (or_empty (register g i)))) (zero-add k) ∙ ap (λ (y : Try Value). some (row_of P s t (or_empty y))) x.1;
        shows = shows-value P s t x.0 x.2;
      }

-- a run of an accepted image whose state has the invariant
pub shows-run : (r : Run) → Sound r → ShowsRun r
shows-run r o live = (g r o live, top r o live, W r o live, known r o live, record { count = counts r o live; each = register-shown r o live })

-- THE LAW: after every list of events
pub watched : Watched
unfolding Watched
watched image level f v words buffer h events = shows-run _ (after-sound events (begun image level f v words buffer) (begun-sound image level f v words buffer h))

-- THE LAW: after every list with steps back
pub watched-back : WatchedBack
unfolding WatchedBack
watched-back image level f v words buffer h moves =
    shows-run _ (visit-after-keeps Sound sound-step sound-taken moves (begun image level f v words buffer) (begun-sound image level f v words buffer h))

-- and in the pool
pub watched-pool : WatchedPool
unfolding WatchedPool
watched-pool reserves n fits l i r e = shows-run r (house-sound reserves l i r e)
