-- The invariant of a run outlives a change of the program, where the versions of its live calls stay: the transfer law of request 3.
use mathlib.Core.Path.{◌≡◌, refl, sym, ap, ◌∙◌}
use mathlib.Core.Logic.{◌⊎◌, inl, inr}
use mathlib.Core.List.{List, [], ◌∷◌}
use mathlib.Core.Option.{some}
use mathlib.Core.Bool.{Bool, true}
use Prim.Native.Nat.{ℕ, zero, suc, ◌+◌, ◌≤◌, ◌<◌}
use native.Mathlib.Omega.{arith}
use lib.ListN.{get_or, get_elem?}
use Rattle.layout.proofs.Lists.{get_in}
use Rattle.sets.specs.Sets.{has, those}
use Rattle.program.specs.Program.{Line, Block, Version, Program, find_version}
use Rattle.rules.specs.Fits.{fresh, fits_return}
use Rattle.rules.specs.Actions.{Action}
use Rattle.rules.specs.Walks.{block_action, acts, skips_of}
use Rattle.rules.proofs.Follows.{not-true as not-false}
use Rattle.rules.proofs.Prefixes.{Does, reached, met}
use Rattle.rules.proofs.Needs.{Needed, yielded, read, later, beyond, spent}
use Rattle.rules.proofs.Calm.{promise-empties-nothing}
use Rattle.checker.proofs.Accepted.{Checked}
use Rattle.machine.specs.declared.Activation.{Activation}
use Rattle.machine.specs.declared.Frame.{Frame}
use Rattle.machine.specs.declared.Opener.{Opener}
use Rattle.machine.specs.declared.Promise.{Promise}
use Rattle.machine.specs.declared.State.{State}
use Rattle.machine.specs.declared.Value.{Value}
use Rattle.soundness.proofs.Cells.{frame_at, cell_at}
use Rattle.soundness.proofs.Stacks.{opened-live, below-le}
use Rattle.soundness.proofs.Invariant.{Sure, version_at, block_at, promise_at, cell_type, type_at, touches, Alive, kind_at, PromiseFits, Fits, Unshared, Heap, Pend, top, waits, Gets, Keeps, Stands, below, gives, awaited, Stack, Inv, no_block}
use Rattle.runs.specs.Alike.{Alike}
use Rattle.soundness.proofs.Same.{SameBlock, same-types, same-return, same_blocks, code-length, code-there, code-missing, block-there}
use Rattle.soundness.proofs.Likeness.{Like, skips-same, like-blocks, like-instr, like-place}
use Rattle.soundness.proofs.Defined.{defined}

-- ---- one version under two programs

module _ (P Q : Program) (v w : Version) (cp : Checked P v) (cq : Checked Q w) (same : Alike v w) where
  -- its blocks, by number
  block_same : (b : ℕ) (x : Block) → get_elem? v.blocks b ≡ some x → (get_elem? w.blocks b ≡ some (block_at w b)) × SameBlock (block_at v b) (block_at w b)
  unfolding block_at
  block_same b x e =
      let t = block-there v.blocks w.blocks b x (same_blocks v w same) e in
      let p : get_or v.blocks b no_block ≡ x = (get_in v.blocks b no_block x e).1 in
      let q : get_or w.blocks b no_block ≡ t.0 = (get_in w.blocks b no_block t.0 t.1).1 in
      (rw q t.1, rw (p, q) t.2)

  like : (b : ℕ) (a a' : Action) → block_action P v b ≡ some a → block_action Q w b ≡ some a' → Like a a'
  like b = like-blocks P Q v w (promise-empties-nothing P v cp.fit) (promise-empties-nothing Q w cq.fit) (same_blocks v w same) b

  -- what a block does under the second program
  pub record DoesToo (b : ℕ) (a : Action) : Type 0 where
    pub action : Action
    pub does : Does Q w b (block_at w b) action
    pub likes : Like a action

  does-too : (b : ℕ) (a : Action) → Does P v b (block_at v b) a → DoesToo b a
  does-too b a d =
      let t = block_same b (block_at v b) d.there in
      let c = defined Q w cq b (block_at w b) t.0 in
      record { action = c.0; does = record { there = t.0; does = c.1 }; likes = like b a c.0 d.does c.1 }

  -- what is needed from a place on under the second program is needed under the first
  needed-too : (b : ℕ) (a : Action) → Does P v b (block_at v b) a → (r i : ℕ) → Needed Q w b (block_at w b) r i → Needed P v b (block_at v b) r i
  needed-too b a d r = go
    where
      x : SameBlock (block_at v b) (block_at w b)
      x = (block_same b (block_at v b) d.there).1

      -- an instruction of both, and what it does under both
      there : (i : ℕ) (m : Line) (now' : Action) → get_elem? (block_at w b).code i ≡ some m → acts Q w b m.does ≡ some now'
          → (l : Line) × (now : Action) × (get_elem? (block_at v b).code i ≡ some l) × (acts P v b l.does ≡ some now) × (l.does ≡ m.does) × Like now now'
      there i m now' e f =
          let t = code-there (block_at v b).code (block_at w b).code i m x.code e in
          let h = reached d i in
          let n = met d i t.0 h.done t.1 h.is-done in
          (t.0, n.now, t.1, n.is-now, t.2, like-instr P Q v w (promise-empties-nothing P v cp.fit) (promise-empties-nothing Q w cq.fit) (same_blocks v w same) b t.0.does n.now now' n.is-now (ap (acts Q w b) t.2 ∙ f))

      go : (i : ℕ) → Needed Q w b (block_at w b) r i → Needed P v b (block_at v b) r i
      go i (yielded _ e h) = yielded i (code-missing (block_at v b).code (block_at w b).code i x.code e) (ap (λ (k : ℕ). has (those 16 (k ∷ [])) r) x.result ∙ h)
      go i (read _ m now e f h) = let t = there i m now e f in read i t.0 t.1 t.2 t.3 (t.5.R r ∙ h)
      go i (later _ m now e f h n) = let t = there i m now e f in later i t.0 t.1 t.2 t.3 (t.5.W r ∙ h) (go (i + 1) n)
      go i (beyond _ k m now e f h s n) = let t = there i m now e f in beyond i k t.0 t.1 t.2 t.3 (t.5.W r ∙ h) (skips-same P Q t.0.does ∙ ap (skips_of Q) t.4 ∙ s) (go (i + 1 + k) n)

  -- what is kept does not change
  keeps_same : (b : ℕ) (keep : ℕ → Bool) (done done' action action' : Action) → Like done done' → Like action action' → Keeps b keep done action → Keeps b keep done' action'
  unfolding Keeps
  keeps_same zero keep done done' action action' p q h = λ r. h r ∙ p.C r
  keeps_same (suc b) keep done done' action action' p q h = λ r e. h r (q.C r ∙ e)

  -- a promise block empties nothing, so what it touches is the same
  touches-same : (b : ℕ) (a a' : Action) → 0 < b → block_action P v b ≡ some a → block_action Q w b ≡ some a' → (r : ℕ) → touches a' r ≡ touches a r
  unfolding touches
  touches-same b a a' h e e' r =
      let l = like b a a' e e' in
      let u = promise-empties-nothing P v cp.fit b a h e r in
      let u' = promise-empties-nothing Q w cq.fit b a' h e' r in
      sym (rw (u, u', l.R r, l.W r, l.C r) refl)

  type-same : (c : ℕ) → cell_type v c ≡ cell_type w c
  unfolding cell_type
  type-same c = rw (same-types v w same) refl

  gives_same : (o : Opener) → gives v o ≡ gives w o
  unfolding gives
  gives_same Opener.Call = same-return v w same
  gives_same (Opener.Force p) = refl

  gets-same : (b : ℕ) (pend : Pend) → (block_at v b).mark ≡ (block_at w b).mark → Gets v (block_at v b).mark pend → Gets w (block_at w b).mark pend
  unfolding Gets fits_return fresh
  gets-same b top m g = tt
  gets-same b (waits d t k) m g = (rw (same-types v w same) at g.0, rw (same-types v w same) at g.1, omega (arith, m, g.2))

-- ---- the frames of a state, whose live versions are alike

-- the live versions are found in both programs, alike
pub record Agree (P Q : Program) (fs : List Frame) (n : ℕ) : Type 0 where
  pub found : (k : ℕ) → k < n → find_version Q (frame_at fs k).function (frame_at fs k).version ≡ some (version_at Q fs k)
  pub alike : (k : ℕ) → k < n → Alike (version_at P fs k) (version_at Q fs k)

module _ (P Q : Program) (sp : Sure P) (sq : Sure Q) (K : ℕ → ℕ → Bool) (fs : List Frame) (n : ℕ) (known : (k : ℕ) → k < n → find_version P (frame_at fs k).function (frame_at fs k).version ≡ some (version_at P fs k)) (agree : Agree P Q fs n) where
  old : (k : ℕ) → k < n → Checked P (version_at P fs k)
  old k h = sp _ _ _ (known k h)

  new : (k : ℕ) → k < n → Checked Q (version_at Q fs k)
  new k h = sq _ _ _ (agree.found k h)

  alive-too : (f b : ℕ) → f < n → Alive P K fs f b → Alive Q K fs f b
  alive-too f b h a =
      let d = does-too P Q _ _ (old f h) (new f h) (agree.alike f h) b a.action a.does in
      record {
        positive = a.positive;
        action = d.action;
        does = d.does;
        ready = λ r q. a.ready r (d.likes.R r ∙ q);
        kept = λ r q. a.kept r (sym (touches-same P Q _ _ (old f h) (new f h) (agree.alike f h) b a.action d.action a.positive a.does.does d.does.does r) ∙ q);
      }

  mark-same : (f b : ℕ) (x : Block) → f < n → get_elem? (version_at P fs f).blocks b ≡ some x → (block_at (version_at P fs f) b).mark ≡ (block_at (version_at Q fs f) b).mark
  mark-same f b x h e = (block_same P Q _ _ (old f h) (new f h) (agree.alike f h) b x e).1.mark

  promise-too : (q : Promise) (k t : ℕ) → k < n → PromiseFits P K fs q k t → PromiseFits Q K fs q k t
  unfolding kind_at
  promise-too q k t h a =
      let l : q.frame < n = omega (arith, a.older) in
      record {
        kind = rw (mark-same q.frame q.block _ l a.alive.does.there) at a.kind;
        older = a.older;
        alive = alive-too q.frame q.block l a.alive;
      }

  fits-too : (ps : List Promise) (k t : ℕ) → k < n → (x : Value) → Fits P K fs ps k t x → Fits Q K fs ps k t x
  unfolding Fits
  fits-too ps k t h Value.Empty f = tt
  fits-too ps k t h (Value.Integer z) f = f
  fits-too ps k t h (Value.Vector i) f = f
  fits-too ps k t h (Value.Promise p) f = (f.0, promise-too (promise_at ps p) k t h f.1)

  type-too : (k c : ℕ) → k < n → type_at P fs k c ≡ type_at Q fs k c
  unfolding type_at
  type-too k c h = type-same P Q _ _ (old k h) (new k h) (agree.alike k h) c

  heap-too : (ps : List Promise) → Heap P K fs n ps → Heap Q K fs n ps
  unfolding Unshared
  heap-too ps H = record {
    sized = H.sized;
    bound = H.bound;
    pool = H.pool;
    known = agree.found;
    typed = λ k c h. rw (type-too k c h) at (fits-too ps k (type_at P fs k c) h (cell_at fs k c) (H.typed k c h));
    own = λ k c k' c' v h h' e e' o. rw (type-too k' c' h') at (H.own k c k' c' v h h' e e' (rw (type-too k c h) o));
  }

  stands-too : (pend : Pend) (f b i : ℕ) → f < n → Stands P K fs pend f b i → Stands Q K fs pend f b i
  stands-too pend f b i h a =
      let v = version_at P fs f in
      let w = version_at Q fs f in
      let s = agree.alike f h in
      let d = does-too P Q v w (old f h) (new f h) s b a.action a.does in
      let x = (block_same P Q v w (old f h) (new f h) s b _ a.does.there).1 in
      let t = reached d.does i in
      let l = like-place P Q v w (promise-empties-nothing P v (old f h).fit) (promise-empties-nothing Q w (new f h).fit) (same_blocks v w s) b i _ _ x.code a.done t.done a.is-done t.is-done in
      record {
        action = d.action;
        does = d.does;
        inside = omega (arith, a.inside, code-length _ _ x.code);
        done = t.done;
        is-done = t.is-done;
        ready = λ r q u n.
            let m = needed-too P Q v w (old f h) (new f h) s b a.action a.does r i n in
            a.ready r (was a.action a.done d.action t.done d.likes l r q) (not-false _ (λ g. spent a.does r i a.done a.is-done g m)) m;
        keeps = keeps_same P Q v w (old f h) (new f h) s b (K f) a.done t.done a.action d.action l d.likes a.keeps;
        gets = gets-same P Q v w (old f h) (new f h) s b pend x.mark a.gets;
      }
    where
      was : (a e a' e' : Action) → Like a a' → Like e e' → (r : ℕ) → (has a'.R r ≡ true) ⊎ (has e'.W r ≡ true) → (has a.R r ≡ true) ⊎ (has e.W r ≡ true)
      was a e a' e' p q r (inl h) = inl (p.R r ∙ h)
      was a e a' e' p q r (inr h) = inr (q.W r ∙ h)

  awaited-too : (a : Activation) (x : Block) → a.frame < n → get_elem? (version_at P fs a.frame).blocks a.block ≡ some x → awaited P fs a ≡ awaited Q fs a
  unfolding awaited
  awaited-too a x h e = rw (gives_same P Q _ _ (old a.frame h) (new a.frame h) (agree.alike a.frame h) a.opener, mark-same a.frame a.block x h e) refl

  stack-too : (pend : Pend) (m : ℕ) → m ≤ n → (l : List Activation) → Stack P K fs pend m l → Stack Q K fs pend m l
  unfolding Stack
  stack-too pend m h [] s = s
  stack-too pend m h (a ∷ rest) s =
      let f : a.frame < n = omega (arith, h, opened-live m a.frame a.block a.opener s.1) in
      (stands-too pend a.frame a.block a.next f s.0, s.1, rw (awaited-too a _ f s.0.does.there) at (stack-too (awaited P fs a) (below m a.frame a.opener) (omega (arith, h, below-le m a.frame a.block a.opener s.1)) rest s.2))

-- THE LAW of a change: the invariant under P is the invariant under Q
pub transfer : (P Q : Program) → Sure P → Sure Q → (s : State) → Agree P Q s.frames s.calls → Inv P s → Inv Q s
transfer P Q sp sq s agree inv = record {
  keep = inv.keep;
  heap = heap-too P Q sp sq inv.keep s.frames s.calls inv.heap.known agree s.promises inv.heap;
  vectors = inv.vectors;
  room = inv.room;
  deep = inv.deep;
  stack = λ e. stack-too P Q sp sq inv.keep s.frames s.calls inv.heap.known agree top s.calls (omega arith) _ (inv.stack e);
}
