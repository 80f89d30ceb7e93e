-- Questions 2 to 5 and 14 put to records with raised ones behind them.
use Rattle.std.specs.Prelude.{None}
use mathlib.Core.Path.{◌≡◌, refl, sym, ap, ◌∙◌, subst}
use Rattle.layout.specs.Found.{Found}
use mathlib.Core.Logic.{◌⊎◌, inl, inr}
use mathlib.Core.List.{List, [], ◌∷◌, ◌++◌, map}
use mathlib.Core.Option.{Option, none, some}
use mathlib.Core.Bool.{Bool, true, false, cond, not, ◌||◌, true≢false}
use Prim.Native.Nat.{ℕ, suc, ◌+◌, ◌≤◌, ◌<◌}
use native.Mathlib.Omega.{arith}
use lib.ListN.{length, set, take}
use lib.Seq.{get_or-set_same}
use lib.Dec.{ltb, eqb}
use borrow.Author.Tests.{ltb-true, lt-ltb, eqb-true, eqb-false, eq-eqb}
use Rattle.layout.specs.Bounds.{FUNCTIONS, ALL-VERSIONS}
use Rattle.layout.specs.Kinds as kind
use Rattle.layout.specs.Tests.{◌and◌, all}
use Rattle.layout.specs.Records.{Rec, ◌!◌, choose}
use Rattle.layout.specs.Forms.{printed}
use Rattle.layout.specs.Scan.{scan}
use Rattle.layout.specs.Questions.{whole, same, nothing, fitting, version_in_bounds, in_bounds, idle, version_next, level_next, block_next, line_next, after_level, after_block, after_line, in_order, due_after, start, none_due, placed, follows, last_version, following, question2, question3, question4, question5}
use Rattle.layout.specs.declared.Due.{Due}
use Rattle.layout.specs.declared.Form.{Form}
use Rattle.layout.proofs.Bools.{and_both}
use Rattle.layout.proofs.Printed.{laid, record-long}
use Rattle.program.specs.Program.{Program, program}
use Rattle.program.specs.Skips.{Ends, no_ends, onward, ends_after, ends_within, question14}
use Rattle.program.proofs.Laid.{passed}
use Rattle.program.proofs.Programs.{no-versions, program-version, program-other}
use Rattle.joins.specs.Joins.{raise, raised, raise_rec, functions_from}
use Rattle.layout.proofs.Behind.{Chain, behind}
use Rattle.joins.proofs.Raised.{shift_rec, by_kind, raise-other, length-raised, length_of-raised, Fit, Fits}

-- ---- questions to records behind others

-- what a scan has at the end
unfoldable pub final : {S : Type 0} → (S → Rec → S) → S → List Rec → S
final next st [] = st
final next st (r ∷ rs) = final next (next st r) rs

module _ {S : Type 0} (ok : S → Rec → Bool) (next : S → Rec → S) (end : S → Found) where
  -- a scan that found nothing comes to its end
  pub scan-end : (rs : List Rec) (st : S) → scan ok next end st rs ≡ None → end (final next st rs) ≡ None
  unfolding scan final
  scan-end [] st q = q
  scan-end (r ∷ rs) st q = scan-end rs (next st r) (passed (ltb 0 r.size and ok st r) _ r.at q).1

  -- and goes on behind it
  pub scan-behind : (end' : S → Found) (rs qs : List Rec) (st : S) → scan ok next end st rs ≡ None → scan ok next end' st (rs ++ qs) ≡ scan ok next end' (final next st rs) qs
  unfolding scan final
  scan-behind end' [] qs st q = refl
  scan-behind end' (r ∷ rs) qs st q = let t = passed (ltb 0 r.size and ok st r) _ r.at q in rw t.0 (scan-behind end' rs qs (next st r) t.1)

-- a question that keeps nothing
scan-map : (ok : Unit {0} → Rec → Bool) (k o : ℕ) → ((r : Rec) → ok tt (shift_rec k o r) ≡ ok tt r) → (rs : List Rec) → scan ok same nothing tt rs ≡ None → scan ok same nothing tt (map (shift_rec k o) rs) ≡ None
unfolding scan
scan-map ok k o h [] q = refl
scan-map ok k o h (r ∷ rs) q = let t = passed (ltb 0 r.size and ok tt r) _ r.at q in rw (h r, t.0) (scan-map ok k o h rs t.1)

pub question2-joined : (k o : ℕ) (rs qs : List Rec) → question2 rs ≡ None → question2 qs ≡ None → question2 (rs ++ map (shift_rec k o) qs) ≡ None
unfolding question2
question2-joined k o rs qs a b = scan-behind whole same nothing nothing rs (map (shift_rec k o) qs) tt a ∙ scan-map whole k o (λ r. refl) qs b

pub question3-joined : (k o : ℕ) (rs qs : List Rec) → question3 Form.Wide rs ≡ None → question3 Form.Wide qs ≡ None → question3 Form.Wide (rs ++ map (shift_rec k o) qs) ≡ None
unfolding question3
question3-joined k o rs qs a b = scan-behind (fitting Form.Wide) same nothing nothing rs (map (shift_rec k o) qs) tt a ∙ scan-map (fitting Form.Wide) k o (λ r. ap (λ (n : ℕ). eqb r.size n) (length_of-raised k r.kind r.body)) qs b

-- ---- 5

-- the function that may follow
unfoldable pub next_of : Option Rec → ℕ
next_of none = 0
next_of (some r) = r.body ! 0 + 1

-- the functions of VERSIONs are below m
unfoldable pub Low : ℕ → List Rec → Type 0
Low m [] = Unit {0}
Low m (r ∷ rs) = (r.kind ≡ kind.VERSION → r.body ! 0 < m) × Low m rs

low-more : (m l : ℕ) (rs : List Rec) → m ≤ l → Low m rs → Low l rs
unfolding Low
low-more m l [] h w = tt
low-more m l (r ∷ rs) h w = (λ e. omega (arith, h, w.0 e), low-more m l rs h w.1)

follows_next : (st : Option Rec) (f w : ℕ) → follows st f w ≡ true → next_of st ≤ f + 1
unfolding follows next_of
follows_next none f w h = omega arith
follows_next (some r) f w h = go (eqb f (r.body ! 0) and eqb w (r.body ! 1 + 1)) (eqb f (r.body ! 0 + 1) and eqb w 0) refl refl h
  where
    go : (x y : Bool) → (eqb f (r.body ! 0) and eqb w (r.body ! 1 + 1)) ≡ x → (eqb f (r.body ! 0 + 1) and eqb w 0) ≡ y → (x || y) ≡ true → r.body ! 0 + 1 ≤ f + 1
    go true y ex ey h = let e = eqb-true f _ (and_both _ _ ex).0 in omega (arith, e)
    go false true ex ey h = let e = eqb-true f _ (and_both _ _ ey).0 in omega (arith, e)
    go false false ex ey h = absurd (true≢false (sym h))

-- what question 5 gives: the functions are counted by the last
pub record Counted (st : Option Rec) (rs : List Rec) : Type 0 where
  pub least : next_of st ≤ functions_from (next_of st) (program rs)
  pub low : Low (functions_from (next_of st) (program rs)) rs
  pub last : next_of (final last_version st rs) ≡ functions_from (next_of st) (program rs)

pub counted : (rs : List Rec) (st : Option Rec) → scan following last_version nothing st rs ≡ None → Counted st rs
unfolding scan functions_from Low final next_of
counted [] st q = record { least = rw no-versions (omega arith); low = tt; last = rw no-versions refl }
counted (r ∷ rs) st q =
    let t = passed _ _ r.at q in
    let u = and_both _ _ t.0 in
    go (eqb r.kind kind.VERSION) refl (ltb-true 0 r.size u.0) u.1 (counted rs (last_version st r) t.1)
  where
    go : (x : Bool) → eqb r.kind kind.VERSION ≡ x → 0 < r.size → (not x || follows st (r.body ! 0) (r.body ! 1)) ≡ true → Counted (cond x (some r) st) rs → Counted st (r ∷ rs)
    go true e l f c =
        let p = program-version r rs l e in
        let n = follows_next st _ _ f in
        record {
          least = rw p (omega (arith, n, c.least));
          low = subst (λ (l : Program). Low (functions_from (next_of st) l) (r ∷ rs)) (sym p) (λ k. omega (arith, c.least), c.low);
          last = rw (p, e) c.last;
        }
    go false e l f c =
        let p = program-other r rs l e in
        record {
          least = rw p c.least;
          low = subst (λ (l : Program). Low (functions_from (next_of st) l) (r ∷ rs)) (sym p) (λ k. absurd (eqb-false _ _ e k), c.low);
          last = rw (p, e) c.last;
        }

-- the last VERSION so far, of the records and of the raised ones behind others
unfoldable Along : ℕ → Option Rec → Option Rec → Type 0
Along k none st = next_of st ≡ k
Along k (some r) none = ⊥
Along k (some r) (some q) = (q.body ! 0 ≡ k + r.body ! 0) × (q.body ! 1 ≡ r.body ! 1)

both : (a b : Bool) → a ≡ true → b ≡ true → (a and b) ≡ true
unfolding ◌and◌
both a b e f = rw (e, f) refl

or_left : (a b : Bool) → a ≡ true → (a || b) ≡ true
or_left a b e = rw e refl

or_right : (a b : Bool) → b ≡ true → (a || b) ≡ true
or_right true b e = refl
or_right false b e = e

follows-along : (k : ℕ) (st st' : Option Rec) (f w : ℕ) → Along k st st' → follows st f w ≡ true → follows st' (k + f) w ≡ true
unfolding follows Along next_of
follows-along k none none f w a h =
    let t = and_both _ _ h in
    both _ _ (eq-eqb (k + f) 0 (omega (arith, a, eqb-true f 0 t.0))) t.1
follows-along k none (some q) f w a h =
    let t = and_both _ _ h in
    or_right (eqb (k + f) (q.body ! 0) and eqb w (q.body ! 1 + 1)) _ (both _ _ (eq-eqb (k + f) (q.body ! 0 + 1) (omega (arith, a, eqb-true f 0 t.0))) t.1)
follows-along k (some r) none f w a h = absurd a
follows-along k (some r) (some q) f w a h = go (eqb f (r.body ! 0) and eqb w (r.body ! 1 + 1)) (eqb f (r.body ! 0 + 1) and eqb w 0) refl refl h
  where
    go : (x y : Bool) → (eqb f (r.body ! 0) and eqb w (r.body ! 1 + 1)) ≡ x → (eqb f (r.body ! 0 + 1) and eqb w 0) ≡ y → (x || y) ≡ true → ((eqb (k + f) (q.body ! 0) and eqb w (q.body ! 1 + 1)) || (eqb (k + f) (q.body ! 0 + 1) and eqb w 0)) ≡ true
    go true y ex ey h =
        let t = and_both _ _ ex in
        or_left _ _ (both _ _ (eq-eqb (k + f) (q.body ! 0) (omega (arith, a.0, eqb-true f (r.body ! 0) t.0))) (eq-eqb w (q.body ! 1 + 1) (omega (arith, a.1, eqb-true w (r.body ! 1 + 1) t.1))))
    go false true ex ey h =
        let t = and_both _ _ ey in
        or_right (eqb (k + f) (q.body ! 0) and eqb w (q.body ! 1 + 1)) _ (both _ _ (eq-eqb (k + f) (q.body ! 0 + 1) (omega (arith, a.0, eqb-true f (r.body ! 0 + 1) t.0))) t.1)
    go false false ex ey h = absurd (true≢false (sym h))

-- the numbers of a raised VERSION
version-numbers : (k : ℕ) (r : Rec) → r.kind ≡ kind.VERSION → 0 < length r.body → (raised k r.kind r.body ! 0 ≡ k + r.body ! 0) × ((j : ℕ) → 0 < j → raised k r.kind r.body ! j ≡ r.body ! j)
unfolding raised choose
version-numbers k r e h =
    let b = r.body in
    let x : raised k r.kind b ≡ raise k 0 b = rw e refl in
    (ap (λ (c : List ℕ). c ! 0) x ∙ get_or-set_same b 0 (k + b ! 0) 0 h, λ j l. ap (λ (c : List ℕ). c ! j) x ∙ raise-other k 0 j b (λ z. absurd (omega (arith, l, z))))

follow-map : (k o : ℕ) (rs : List Rec) (st st' : Option Rec) → Fits rs → Along k st st' → scan following last_version nothing st rs ≡ None → scan following last_version nothing st' (map (shift_rec k o) rs) ≡ None
unfolding scan Fits Along
follow-map k o [] st st' f a q = refl
follow-map k o (r ∷ rs) st st' f a q =
    let t = passed (ltb 0 r.size and following st r) _ r.at q in
    let u = and_both _ _ t.0 in
    let s = step (eqb r.kind kind.VERSION) refl u.1 in
    rw (both (ltb 0 r.size) (following st' (shift_rec k o r)) u.0 s.0) (follow-map k o rs (last_version st r) (last_version st' (shift_rec k o r)) f.1 s.1 t.1)
  where
    step : (x : Bool) → eqb r.kind kind.VERSION ≡ x → (not (eqb r.kind kind.VERSION) || follows st (r.body ! 0) (r.body ! 1)) ≡ true
        → (following st' (shift_rec k o r) ≡ true) × Along k (last_version st r) (last_version st' (shift_rec k o r))
    step true e h =
        let n = version-numbers k r (eqb-true _ _ e) (f.0.version (eqb-true _ _ e)) in
        (rw (e, n.0, n.1 1 (omega arith)) (follows-along k st st' (r.body ! 0) (r.body ! 1) a (rw e at h)), rw e (now n.0 (n.1 1 (omega arith))))
      where
        now : ((shift_rec k o r).body ! 0 ≡ k + r.body ! 0) → ((shift_rec k o r).body ! 1 ≡ r.body ! 1) → Along k (some r) (some (shift_rec k o r))
        now x y = (x, y)
    step false e h = (rw e refl, rw e a)

pub question5-joined : (k o : ℕ) (rs qs : List Rec) → Fits qs → next_of (final last_version none rs) ≡ k → question5 rs ≡ None → question5 qs ≡ None → question5 (rs ++ map (shift_rec k o) qs) ≡ None
unfolding question5 Along
question5-joined k o rs qs f e a b = scan-behind following last_version nothing nothing rs (map (shift_rec k o) qs) none a ∙ follow-map k o qs none (final last_version none rs) f e b

-- ---- 4

-- what is due, with n more versions so far
abbrev up : ℕ → Due → Due
up n d = record { versions = n + d.versions; levels = d.levels; blocks = d.blocks; instructions = d.instructions }

order-up : (n : ℕ) (d : Due) (m : ℕ) → (m ≡ kind.VERSION → n + d.versions < ALL-VERSIONS) → in_order d m ≡ true → in_order (up n d) m ≡ true
unfolding in_order choose
order-up n d m l h = go (eqb m kind.VERSION) (cond (eqb m kind.LEVEL) (level_next d) (cond (eqb m kind.BLOCK) (block_next d) (line_next d))) refl h
  where
    go : (x others : Bool) → eqb m kind.VERSION ≡ x → cond x (version_next d) others ≡ true → cond (eqb m kind.VERSION) (version_next (up n d)) others ≡ true
    go true others e h = let t = and_both _ _ h in rw e (both _ _ (lt-ltb _ _ (l (eqb-true _ _ e))) t.1)
    go false others e h = rw e h

bounds-up : (k : ℕ) (r : Rec) → Fit r → (r.kind ≡ kind.VERSION → k + r.body ! 0 < FUNCTIONS) → in_bounds r.kind r.body ≡ true → in_bounds r.kind (raised k r.kind r.body) ≡ true
unfolding in_bounds choose version_in_bounds
bounds-up k r f l h = by_kind k (λ m c. in_bounds m r.body ≡ true → in_bounds m c ≡ true) r.kind r.body
    (λ e g. let t = and_both _ _ g in rw (get_or-set_same r.body 0 (k + r.body ! 0) 0 (f.version e), o 0 1 (omega arith), o 0 2 (omega arith), o 0 3 (omega arith), o 0 5 (omega arith)) (both _ _ (lt-ltb _ _ (l e)) t.1))
    (λ e g. rw (o 1 3 (omega arith)) g)
    (λ e g. rw (o 1 2 (omega arith), o 1 4 (omega arith)) g)
    (λ x y z g. g) h
  where
    o : (i j : ℕ) → i < j → raise k i r.body ! j ≡ r.body ! j
    o i j h = raise-other k i j r.body (λ e. absurd (omega (arith, h, e)))

-- a record of another kind stays
raised-other : (k n : ℕ) (b : List ℕ) → eqb n kind.VERSION ≡ false → eqb n kind.CALL ≡ false → eqb n kind.DISPATCH ≡ false → raised k n b ≡ b
unfolding raised choose
raised-other k n b x y z = rw (x, y, z) refl

raised-block : (k n : ℕ) (b : List ℕ) → n ≡ kind.BLOCK → raised k n b ≡ b
unfolding raised choose
raised-block k n b e = rw e refl

due-version : (d : Due) (r : Rec) → eqb r.kind kind.VERSION ≡ true → (due_after d r).versions ≡ d.versions + 1
unfolding due_after choose
due-version d r e = rw e refl

due-other : (d : Due) (r : Rec) → eqb r.kind kind.VERSION ≡ false → (due_after d r).versions ≡ d.versions
unfolding due_after choose
due-other d r e = rw e (go (eqb r.kind kind.LEVEL) (eqb r.kind kind.BLOCK))
  where
    go : (x y : Bool) → (cond {A = Due} x (after_level d) (cond y (after_block d r.body) (after_line d))).versions ≡ d.versions
    go true y = refl
    go false true = refl
    go false false = refl

due-same : (d e : Due) → d.versions ≡ e.versions → d.levels ≡ e.levels → d.blocks ≡ e.blocks → d.instructions ≡ e.instructions → d ≡ e
due-same d e x l y z = rw (x, l, y, z) refl

after-up : (n k o : ℕ) (d : Due) (r : Rec) → Fit r → due_after (up n d) (shift_rec k o r) ≡ up n (due_after d r)
unfolding due_after choose
after-up n k o d r f = go (eqb r.kind kind.VERSION) (eqb r.kind kind.LEVEL) (eqb r.kind kind.BLOCK) refl refl refl
  where
    go : (x y z : Bool) → eqb r.kind kind.VERSION ≡ x → eqb r.kind kind.LEVEL ≡ y → eqb r.kind kind.BLOCK ≡ z → due_after (up n d) (shift_rec k o r) ≡ up n (due_after d r)
    go true y z ex ey ez =
        let e = eqb-true r.kind kind.VERSION ex in
        let v = (version-numbers k r e (f.version e)).1 5 (omega arith) in
        let z : n + d.versions + 1 ≡ n + (d.versions + 1) = omega arith in
        rw (ex, v, z) refl
    go false true z ex ey ez = rw (ex, ey) refl
    go false false true ex ey ez =
        let e = eqb-true r.kind kind.BLOCK ez in
        let x : raised k r.kind r.body ≡ r.body = raised-block k r.kind r.body e in
        rw (ex, ey, ez, x) refl
    go false false false ex ey ez = rw (ex, ey, ez) refl

due-map : (n k m o e e' : ℕ) → k + m ≤ FUNCTIONS → (rs : List Rec) (d : Due) → Fits rs → Low m rs → n + d.versions + length (program rs) ≤ ALL-VERSIONS → scan placed due_after (none_due e) d rs ≡ None → scan placed due_after (none_due e') (up n d) (map (shift_rec k o) rs) ≡ None
unfolding scan none_due Fits Low
due-map n k m o e e' l [] d f w z q = let t = (passed (idle d) None e q).0 in rw t refl
due-map n k m o e e' l (r ∷ rs) d f w z q =
    let t = passed (ltb 0 r.size and placed d r) _ r.at q in
    let u = and_both _ _ t.0 in
    let v = and_both _ _ u.1 in
    let g = gone (eqb r.kind kind.VERSION) refl in
    let x = bounds-up k r f.0 (λ y. omega (arith, l, w.0 y)) v.0 in
    let y = order-up n d r.kind (λ y. g.0 y) v.1 in
    rw (both (ltb 0 r.size) (placed (up n d) (shift_rec k o r)) u.0 (both _ _ x y), after-up n k o d r f.0) (due-map n k m o e e' l rs (due_after d r) f.1 w.1 g.1 t.1)
  where
    gone : (x : Bool) → eqb r.kind kind.VERSION ≡ x → (r.kind ≡ kind.VERSION → n + d.versions < ALL-VERSIONS) × (n + (due_after d r).versions + length (program rs) ≤ ALL-VERSIONS)
    gone true x =
        let p : length (program (r ∷ rs)) ≡ suc (length (program rs)) = ap (λ (vs : Program). length vs) (program-version r rs f.0.size x) in
        (λ y. omega (arith, z, p), rw (due-version d r x) (omega (arith, z, p)))
    gone false x =
        let p : length (program (r ∷ rs)) ≡ length (program rs) = ap (λ (vs : Program). length vs) (program-other r rs f.0.size x) in
        (λ y. absurd (eqb-false _ _ x y), rw (due-other d r x) (omega (arith, z, p)))

-- the versions so far, at the end
final-versions : (rs : List Rec) (d : Due) → Fits rs → (final due_after d rs).versions ≡ d.versions + length (program rs)
unfolding final Fits
final-versions [] d f = rw no-versions (omega arith)
final-versions (r ∷ rs) d f = go (eqb r.kind kind.VERSION) refl (final-versions rs (due_after d r) f.1)
  where
    go : (x : Bool) → eqb r.kind kind.VERSION ≡ x → (final due_after (due_after d r) rs).versions ≡ (due_after d r).versions + length (program rs) → (final due_after (due_after d r) rs).versions ≡ d.versions + length (program (r ∷ rs))
    go true x ih = let p : length (program (r ∷ rs)) ≡ suc (length (program rs)) = ap (λ (vs : Program). length vs) (program-version r rs f.0.size x) in omega (arith, ih, due-version d r x, p)
    go false x ih = let p : length (program (r ∷ rs)) ≡ length (program rs) = ap (λ (vs : Program). length vs) (program-other r rs f.0.size x) in omega (arith, ih, due-other d r x, p)

pub question4-joined : (k m o e e' e'' : ℕ) (rs qs : List Rec) → Fits rs → Fits qs → Low m qs → k + m ≤ FUNCTIONS → length (program rs) + length (program qs) ≤ ALL-VERSIONS → question4 e rs ≡ None → question4 e' qs ≡ None → question4 e'' (rs ++ map (shift_rec k o) qs) ≡ None
unfolding question4 none_due
question4-joined k m o e e' e'' rs qs f g w l z a b =
    let n = length (program rs) in
    let d = final due_after start rs in
    let i = and_both _ _ (passed (idle d) None e (scan-end placed due_after (none_due e) rs start a)).0 in
    let t = and_both _ _ i.1 in
    let v : d.versions ≡ n + 0 = final-versions rs start f ∙ omega arith in
    let same-due : d ≡ up n start = due-same d (up n start) v (eqb-true _ _ i.0) (eqb-true _ _ t.0) (eqb-true _ _ t.1) in
    scan-behind placed due_after (none_due e) (none_due e'') rs (map (shift_rec k o) qs) start a ∙ rw same-due (due-map n k m o e' e'' l qs start g w (omega (arith, z)) b)

-- ---- 14

within-raised : (k o : ℕ) (ends : Ends) (r : Rec) → ends_within ends (shift_rec k o r) ≡ ends_within ends r
unfolding ends_within
within-raised k o ends r =
    by_kind k (λ m c. (not (eqb m kind.SKIP) || all not (take (c ! 1) (onward ends))) ≡ (not (eqb m kind.SKIP) || all not (take (r.body ! 1) (onward ends)))) r.kind r.body (λ e. refl) (λ e. refl) (λ e. refl) (λ x y z. refl)

after-raised : (k o : ℕ) (ends : Ends) (r : Rec) → ends_after ends (shift_rec k o r) ≡ ends_after ends r
unfolding ends_after choose
after-raised k o ends r =
    by_kind k (λ m c. choose m (onward ends) ((kind.BLOCK, set no_ends (c ! 2) true) ∷ (kind.SKIP, set (onward ends) (c ! 1) true) ∷ []) ≡ choose m (onward ends) ((kind.BLOCK, set no_ends (r.body ! 2) true) ∷ (kind.SKIP, set (onward ends) (r.body ! 1) true) ∷ []))
    r.kind r.body (λ e. refl) (λ e. refl) (λ e. refl) (λ x y z. refl)

-- where no instruction is due, a BLOCK comes before the next: what ended before does not count
abbrev Apart : Due → Ends → Ends → Type 0
Apart d x y = (d.instructions ≡ 0) ⊎ (x ≡ y)

ends-order : (d : Due) (x y : Ends) (r : Rec) (a b c : Bool) → eqb r.kind kind.VERSION ≡ a → eqb r.kind kind.LEVEL ≡ b → eqb r.kind kind.BLOCK ≡ c → d.instructions ≡ 0 → in_order d r.kind ≡ true
    → (ends_within y r ≡ true) × Apart (due_after d r) (ends_after x r) (ends_after y r)
unfolding in_order due_after ends_within ends_after choose
ends-order d x y r true b c ea eb ec i h = let e = eqb-true r.kind kind.VERSION ea in rw e (refl, inl refl)
ends-order d x y r false true c ea eb ec i h = let e = eqb-true r.kind kind.LEVEL eb in rw e (refl, inl i)
ends-order d x y r false false true ea eb ec i h = let e = eqb-true r.kind kind.BLOCK ec in rw e (refl, inr refl)
ends-order d x y r false false false ea eb ec i h = let l : ltb 0 d.instructions ≡ true = rw (ea, eb, ec) at h in absurd (omega (arith, ltb-true 0 d.instructions l, i))

ends_next : (d : Due) (x y : Ends) (r : Rec) → Apart d x y → in_order d r.kind ≡ true → ends_within x r ≡ true → (ends_within y r ≡ true) × Apart (due_after d r) (ends_after x r) (ends_after y r)
ends_next d x y r (inl i) h g = ends-order d x y r (eqb r.kind kind.VERSION) (eqb r.kind kind.LEVEL) (eqb r.kind kind.BLOCK) refl refl refl i h
ends_next d x y r (inr f) h g = (ap (λ (s : Ends). ends_within s r) (sym f) ∙ g, inr (ap (λ (s : Ends). ends_after s r) f))

ends-map : (k o e : ℕ) (rs : List Rec) (d : Due) (x y : Ends) → Apart d x y → scan placed due_after (none_due e) d rs ≡ None → scan ends_within ends_after nothing x rs ≡ None → scan ends_within ends_after nothing y (map (shift_rec k o) rs) ≡ None
unfolding scan
ends-map k o e [] d x y a p q = refl
ends-map k o e (r ∷ rs) d x y a p q =
    let t = passed (ltb 0 r.size and placed d r) _ r.at p in
    let u = and_both _ _ t.0 in
    let v = and_both _ _ u.1 in
    let w = passed (ltb 0 r.size and ends_within x r) _ r.at q in
    let z = and_both _ _ w.0 in
    let n = ends_next d x y r a v.1 z.1 in
    rw (both (ltb 0 r.size) (ends_within y (shift_rec k o r)) z.0 (within-raised k o y r ∙ n.0), after-raised k o y r) (ends-map k o e rs (due_after d r) (ends_after x r) (ends_after y r) n.1 t.1 w.1)

pub question14-joined : (k o e : ℕ) (rs qs : List Rec) → question4 e qs ≡ None → question14 rs ≡ None → question14 qs ≡ None → question14 (rs ++ map (shift_rec k o) qs) ≡ None
unfolding question14 question4
question14-joined k o e rs qs h a b =
    scan-behind ends_within ends_after nothing nothing rs (map (shift_rec k o) qs) no_ends a ∙ ends-map k o e qs start no_ends (final ends_after no_ends rs) (inl refl) h b

-- ---- bytes

-- raised records one behind the other stand where those records stood
pub chain-laid : (k : ℕ) (rs : List Rec) (p e : ℕ) → Chain p rs e → laid p (map (raise_rec k) rs) ≡ map (raise_rec k) rs
unfolding Chain laid
chain-laid k [] p e c = refl
chain-laid k (r ∷ rs) p e c =
    let n : 4 + length (raised k r.kind r.body) ≡ r.size = ap (λ (n : ℕ). 4 + n) (length-raised k r.kind r.body) ∙ sym c.1 in
    rw (n, c.0, chain-laid k rs (p + r.size) e c.2) refl

pub raised-behind : (k o : ℕ) (rs : List Rec) → map (behind o) (map (raise_rec k) rs) ≡ map (shift_rec k o) rs
raised-behind k o [] = refl
raised-behind k o (r ∷ rs) = ap (λ (l : List Rec). shift_rec k o r ∷ l) (raised-behind k o rs)

pub chain_length : (k : ℕ) (rs : List Rec) (p e : ℕ) → Chain p rs e → p + length (printed (map (raise_rec k) rs)) ≡ e
unfolding Chain printed
chain_length k [] p e c = omega (arith, c)
chain_length k (r ∷ rs) p e c =
    let h = chain_length k rs (p + r.size) e c.2 in
    let x = record-long r.kind (raised k r.kind r.body) (printed (map (raise_rec k) rs)) in
    omega (arith, h, x, c.1, length-raised k r.kind r.body)
