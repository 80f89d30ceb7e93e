-- What a block does, as a walk that enters higher blocks meets it.
use Rattle.std.specs.Prelude.{None, Some}
use Rattle.flow.specs.Masks.{Flowed}
use mathlib.Core.Path.{◌≡◌, refl, sym, ap, ◌∙◌}
use mathlib.Core.List.{List, [], ◌∷◌, map}
use mathlib.Core.Option.{Option, none, some}
use mathlib.Core.Bool.{Bool, true, false}
use Prim.Native.Nat.{ℕ, ◌+◌, ◌-◌, ◌≤◌, ◌<◌, zero, suc}
use native.Mathlib.Omega.{arith}
use lib.ListN.{length, take, replicate, get_or, set}
use lib.Dec.{eqb}
use borrow.Author.Tests.{lt-ltb, le-ltb, eqb-true, eqb-false}
use Rattle.layout.specs.Kinds as kind
use Rattle.layout.specs.Records.{◌!◌, size_at, kind_at, body_at, rec_at, records, choose}
use Rattle.layout.proofs.Walk.{size_in}
use Rattle.layout.proofs.Rows.{Rows, choose-each}
use Rattle.sets.specs.Sets.{only, those, set_of}
use Rattle.sets.proofs.Masks.{set-empty}
use Rattle.program.specs.Program.{Instr, Program, instr_of, instr_by, line_of, program, Line}
use Rattle.program.specs.Places.{view_at, past, version_at, block_at, instr_at, block_place, is_line}
use Rattle.program.proofs.Views.{line_view, line-none, is-lined}
use Rattle.program.proofs.Lookups.{block-found, block-missing}
use Rattle.rules.specs.Actions.{Action, ◌then◌, reading, promised, touch, action_of, skip_of, Walk, join, here, walk}
use Rattle.flow.specs.Masks.{masked, flowed}
use Rattle.rules.specs.Walks.{block_action, entered, acts, skips_of}
use Rattle.flow.specs.Ways.{ways_at, walk_at, here_at, goes_on, opened, skip_in, place_in, target_of}
use Rattle.flow.proofs.Places.{starts, here-at, turn, placed, stored, stays-free}
use Rattle.flow.proofs.Listed.{only-alone}
use Rattle.rules.proofs.Walked.{walked_at, walked-missing}

-- only PROM enters, and only its block
pub enters-same : (P : Program) (f g : ℕ → Option Action) (k : ℕ) (b : List ℕ) → (k ≡ kind.PROM → f (b ! 1) ≡ g (b ! 1)) → action_of f (touch P (instr_of k b)) ≡ action_of g (touch P (instr_of k b))
unfolding action_of touch instr_by Rows
enters-same P f g k b h = choose-each (λ (i : Instr). action_of f (touch P i) ≡ action_of g (touch P i)) k _ _ refl
    (λ e. refl, (λ e. refl, (λ e. refl, (λ e. refl, (λ e. refl, (λ e. refl, (λ e. refl, (λ e. refl, (λ e. refl, (λ e. refl, (λ e. refl, (λ e. refl, (λ e. ap (λ (o : Option Action). promised (those 16 (b ! 0 ∷ [])) o) (h e), (λ e. refl, (λ e. refl, (λ e. refl, (λ e. refl, (λ e. refl, (λ e. refl, tt)))))))))))))))))))

-- only SKIP passes over instructions
pub skip-none : (P : Program) (k : ℕ) (b : List ℕ) → (k ≡ kind.SKIP → ⊥) → none ≡ skips_of P (instr_of k b)
unfolding skip_of touch instr_by Rows
skip-none P k b h = choose-each (λ (i : Instr). none ≡ skip_of (touch P i)) k _ _ refl
    (λ e. refl, (λ e. refl, (λ e. refl, (λ e. refl, (λ e. refl, (λ e. refl, (λ e. refl, (λ e. refl, (λ e. refl, (λ e. refl, (λ e. refl, (λ e. refl, (λ e. refl, (λ e. refl, (λ e. refl, (λ e. refl, (λ e. refl, (λ e. refl, (λ e. absurd (h e), tt)))))))))))))))))))

pub skip-some : (P : Program) (k n : ℕ) (b : List ℕ) → k ≡ kind.SKIP → n ≡ b ! 1 → skip_in (n + 1) ≡ skips_of P (instr_of k b)
unfolding skip_of touch instr_by choose skip_in
skip-some P k n b e h = let z : n + 1 ≡ suc n = omega arith in rw (z, e, h) refl

-- ---- an instruction at an offset

-- a whole record of an instruction stands at p
pub record Stands (s : List ℕ) (p : ℕ) : Type 0 where
  pub inside : p < length s
  pub whole : size_at s p ≡ 0 → ⊥
  pub code : (view_at s p).code ≡ line_of (rec_at s p) ∷ (view_at s (past s p)).code

pub stands : (s : List ℕ) (p : ℕ) → is_line s p ≡ true → Stands s p
stands s p h = let l = is-lined s p h in record { inside = l.inside; whole = l.whole; code = line_view s p h }

-- how many instructions follow, at most 48
pub line-more : (s : List ℕ) (p n : ℕ) → is_line s p ≡ true → n < 48 → length (take (48 - n) (view_at s p).code) ≡ 1 + length (take (48 - (n + 1)) (view_at s (past s p)).code)
line-more s p n h l =
    let z : 48 - n ≡ suc (48 - (n + 1)) = omega arith in
    let y : suc (length (take (48 - (n + 1)) (view_at s (past s p)).code)) ≡ 1 + length (take (48 - (n + 1)) (view_at s (past s p)).code) = omega arith in
    rw (line_view s p h, z) y

pub line-last : (s : List ℕ) (p n : ℕ) → is_line s p ≡ false → length (take n (view_at s p).code) ≡ 0
line-last s p n h = rw (line-none s p h) (nothing n)
  where
    nothing : (n : ℕ) → length (take {A = Line} n []) ≡ 0
    nothing zero = refl
    nothing (suc n) = refl

pub line-full : (a n : ℕ) (ls : List Line) → a ≡ n + length (take (48 - n) ls) → 48 ≤ n → n ≡ a
line-full a n ls e h =
    let z : 48 - n ≡ 0 = omega arith in
    let y : length (take (48 - n) ls) ≡ 0 = rw z refl in
    omega (arith, e, y)

-- ---- the walk of a block of the version at v

nothing-done : some (masked 0 0 0 0) ≡ reading []
unfolding those
nothing-done = simp set-empty

pub reading-one : (m r : ℕ) → set_of 16 m ≡ only 16 r → some (masked m 0 0 0) ≡ reading (r ∷ [])
unfolding those
reading-one m r e = simp (e, set-empty, only-alone 16 r)

-- what is left of the block b, whose BLOCK stands at q, at the offset p of its instruction i, by the walk so far
abbrev pub onward : List ℕ → ℕ → ℕ → ℕ → ℕ → ℕ → ℕ → Option Action → List (Option Action) → Option Action
onward s v b q count i p done ways = here (walk (skips_of (program (records s))) (acts (program (records s)) (version_at s v) b) (walk_at done ways count i) (view_at s p).code) then reading (body_at s q ! 1 ∷ [])

module _ (s : List ℕ) (v b : ℕ) where
  pub no_block : block_place s v b ≡ None → none ≡ block_action (program (records s)) (version_at s v) b
  no_block e = sym (walked-missing (program (records s)) (version_at s v) b (block-missing s v b e))

  pub begins : {n count : ℕ} (q : ℕ) → block_place s v b ≡ Some q → n ≡ size_at s q → count ≡ length (take 48 (view_at s (q + n)).code) → count ≤ 48 → block_action (program (records s)) (version_at s v) b ≡ onward s v b q count 0 (q + n) (some (masked 0 0 0 0)) (replicate 51 none)
  unfolding block_at
  begins {n} {count} q e m h l =
      walked_at (program (records s)) (version_at s v) b (block_at s q) (block-found s v b q e)
      ∙ ap (λ (x : Walk). here (walk (skips_of (program (records s))) (acts (program (records s)) (version_at s v) b) x (view_at s (past-at q)).code) then reading (body_at s q ! 1 ∷ [])) begun
      ∙ rw m refl
    where
      past-at : ℕ → ℕ
      past-at q = q + size_at s q

      begun : ◌≡◌ {A = Walk} (record { done = reading []; ways = replicate (length (take 48 (view_at s (q + size_at s q)).code) + 1) none }) (walk_at (some (masked 0 0 0 0)) (replicate 51 none) count 0)
      begun = rw (nothing-done, starts count l, h, m) refl

  module _ (q p count i : ℕ) (done : Option Action) (ways : List (Option Action)) (whole : 49 ≤ length ways) (few : count ≤ 48) where
    pub meets : {n : ℕ} {k : Option ℕ} {now done' : Option Action} (ways' : List (Option Action)) → Stands s p → k ≡ skips_of (program (records s)) (instr_at s p) → now ≡ (here_at done ways count i then acts (program (records s)) (version_at s v) b (instr_at s p))
        → done' ≡ goes_on k count i now → ways_at ways' count (i + 1) ≡ ways_at (opened k count i now ways) count (i + 1) → n ≡ size_at s p → onward s v b q count i p done ways ≡ onward s v b q count (i + 1) (p + n) done' ways'
    unfolding walk instr_at
    meets ways' h ek e ed ew m =
        let P = program (records s) in
        ap (λ (l : List Line). here (walk (skips_of P) (acts P (version_at s v) b) (walk_at done ways count i) l) then reading (body_at s q ! 1 ∷ [])) h.code
        ∙ ap (λ (w : Walk). here (walk (skips_of P) (acts P (version_at s v) b) w (view_at s (past s p)).code) then reading (body_at s q ! 1 ∷ [])) (turn ways whole count few (skips_of P (instr_at s p)) (acts P (version_at s v) b (instr_at s p)) done i)
        ∙ rw (m, ew, ed, e, ek) refl

    pub ends : {now : Option Action} → is_line s p ≡ false → now ≡ (here_at done ways count i then reading (body_at s q ! 1 ∷ [])) → now ≡ onward s v b q count i p done ways
    unfolding walk
    ends h e = rw (line-none s p h, here-at ways whole count few done i) e

-- an entry of the array as a way
pub entry : (ws : List Flowed) (k : ℕ) (d : Flowed) → k < length ws → flowed (get_or ws k d) ≡ get_or (map flowed ws) k none
entry [] k d h = absurd (omega arith)
entry (w ∷ ws) zero d h = refl
entry (w ∷ ws) (suc k) d h = entry ws k d (omega arith)

pub map-set : (ws : List Flowed) (k : ℕ) (x : Flowed) → map flowed (set ws k x) ≡ set (map flowed ws) k (flowed x)
map-set [] k x = refl
map-set (w ∷ ws) zero x = refl
map-set (w ∷ ws) (suc k) x = ap (λ (l : List (Option Action)). flowed w ∷ l) (map-set ws k x)

pub map-length : (ws : List Flowed) → length (map flowed ws) ≡ length ws
map-length [] = refl
map-length (w ∷ ws) = ap suc (map-length ws)

pub then-both : (a a' b b' : Option Action) → a ≡ a' → b ≡ b' → (a then b) ≡ (a' then b')
then-both a a' b b' e h = rw (e, h) refl

-- what the code reads and stores, with an array of 51 entries
module _ (ws : List Flowed) (d : Flowed) (count i : ℕ) (whole : length ws ≡ 51) (few : count ≤ 48) where
  long : 49 ≤ length (map flowed ws)
  long = omega (arith, map-length ws, whole)

  pub came-here : (done : Flowed) (k : ℕ) → get_or (map flowed ws) 50 none ≡ none → k ≡ place_in count i → k < 51 → join (flowed done) (flowed (get_or ws k d)) ≡ here_at (flowed done) (map flowed ws) count i
  came-here done k free e l = ap (join (flowed done)) (entry ws k d (omega arith) ∙ ap (λ (m : ℕ). get_or (map flowed ws) m none) e) ∙ placed (map flowed ws) long count few (flowed done) i free

  module _ (n : Option ℕ) (t : ℕ) (now new : Flowed) (e : t ≡ target_of n count i) (l : t < 51) where
    pub put-away : (j : ℕ) → flowed new ≡ join (flowed now) (flowed (get_or ws t d)) → ways_at (map flowed (set ws t new)) count j ≡ ways_at (opened n count i (flowed now) (map flowed ws)) count j
    put-away j h =
        ap (λ (m : List (Option Action)). ways_at m count j) (map-set ws t new ∙ ap (λ (m : ℕ). set (map flowed ws) m (flowed new)) e)
        ∙ stored (map flowed ws) long count few n (flowed now) (flowed new) i j (h ∙ ap (join (flowed now)) (entry ws t d (omega arith) ∙ ap (λ (m : ℕ). get_or (map flowed ws) m none) e))

    pub still-free : get_or (map flowed ws) 50 none ≡ none → get_or (map flowed (set ws t new)) 50 none ≡ none
    still-free free = ap (λ (m : List (Option Action)). get_or m 50 none) (map-set ws t new ∙ ap (λ (m : ℕ). set (map flowed ws) m (flowed new)) e) ∙ stays-free (map flowed ws) long count few n (flowed new) i free

-- ---- the walk of an instruction

module _ (s : List ℕ) (v b p : ℕ) {k : ℕ} (ek : k ≡ kind_at s p) where
  entering : (o : Option Action) → (kind_at s p ≡ kind.PROM → o ≡ entered (program (records s)) (version_at s v) b (body_at s p ! 1)) → action_of (λ e. o) (touch (program (records s)) (instr_at s p)) ≡ acts (program (records s)) (version_at s v) b (instr_at s p)
  unfolding instr_at
  entering o h = enters-same (program (records s)) (λ e. o) (entered (program (records s)) (version_at s v) b) (kind_at s p) (body_at s p) h

  pub enters_none : (k ≡ kind.PROM → ⊥) → action_of (λ e. none) (touch (program (records s)) (instr_at s p)) ≡ acts (program (records s)) (version_at s v) b (instr_at s p)
  enters_none x = entering none (λ e. absurd (x (ek ∙ e)))

  module _ {block : ℕ} (eb : block ≡ body_at s p ! 1) where
    pub enters_below : block ≤ b → action_of (λ e. none) (touch (program (records s)) (instr_at s p)) ≡ acts (program (records s)) (version_at s v) b (instr_at s p)
    enters_below h = entering none (λ e. rw (← eb, le-ltb b block h))

    pub enters-block : (o : Option Action) → b < block → o ≡ block_action (program (records s)) (version_at s v) block → action_of (λ e. o) (touch (program (records s)) (instr_at s p)) ≡ acts (program (records s)) (version_at s v) b (instr_at s p)
    enters-block o h g = entering o (λ e. rw (← eb, lt-ltb b block h) g)

-- ---- offsets

-- the end of a record is no further than the number at which the code's numbers end
pub past-below : {n : ℕ} (s : List ℕ) (p w : ℕ) → n ≡ size_at s p → p < w → length s < w → p + n < w
past-below {n} s p w e h g = go (eqb n 0) refl
  where
    go : (b : Bool) → eqb n 0 ≡ b → p + n < w
    go true z = omega (arith, eqb-true n 0 z)
    go false z = omega (arith, size_in s p e (eqb-false n 0 z))
