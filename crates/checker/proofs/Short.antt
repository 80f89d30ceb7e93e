-- How long a report gets: digits, counts, lines, the whole text.
use Rattle.std.specs.Prelude.{None, Some, Err, Ok}
use mathlib.Core.Path.{◌≡◌, refl}
use Rattle.layout.specs.Found.{Found}
use mathlib.Core.List.{List, [], ◌∷◌, flat_map}
use mathlib.Core.Option.{Option, none, some, Option-elim}
use mathlib.Core.Bool.{Bool, true, false}
use Prim.Native.Nat.{ℕ, ◌+◌, ◌*◌, ◌/◌, ◌^◌, ◌≤◌, ◌<◌}
use native.Mathlib.Omega.{arith}
use lib.ListN.{length, length-append}
use lib.Dec.{ltb}
use borrow.Author.Tests.{ltb-true, ltb-false}
use Rattle.layout.specs.Bounds.{FUNCTIONS, VERSIONS, LEVELS, ALL-VERSIONS}
use Rattle.layout.specs.Records.{records}
use Rattle.layout.specs.declared.Form.{Form}
use Rattle.layout.proofs.Bools.{and_both}
use Rattle.layout.proofs.Lists.{Each, each-get}
use Rattle.sets.specs.Sets.{Set, size}
use Rattle.program.specs.Program.{Version, Program, program}
use Rattle.program.proofs.Held.{Helds, helds}
use Rattle.program.proofs.Laid.{bounds, in_bounds_lem, version_bounded}
use Rattle.rules.specs.Actions.{Action, body_action}
use Rattle.writer.specs.Text.{text, decimal}
use Rattle.writer.proofs.Digits.{length-one, length_more}
use Rattle.checker.specs.Verdicts.{ask, verdict_in, Verdict}
use Rattle.checker.specs.Reports.{counts, spaced, version_line, version_lines, refusal, answer, report_in}
use Rattle.checker.specs.Claims.{ReportsShort, LinesShort, RefusalsShort}
use Rattle.checker.proofs.Accepted.{passed as all-passed}
use Rattle.checker.proofs.Few.{Small, body-small, size_few, few-versions}
use Rattle.checker.proofs.Offsets.{refused-low}
use Rattle.checker.proofs.Texts.{line-length, spaced-length, spaced-none}

-- ---- digits

-- one more than the tenth has
one_more : (k n : ℕ) → n < 10 ^ 20 → (10 ≤ n → length (decimal (n / 10)) ≤ k) → length (decimal n) ≤ k + 1
one_more k n m h = go (ltb n 10) refl
  where
    go : (b : Bool) → ltb n 10 ≡ b → length (decimal n) ≤ k + 1
    go true e = omega (arith, length-one n (ltb-true n 10 e))
    go false e = let l = ltb-false n 10 e in omega (arith, length_more n l m, h l)

one-digit : (n : ℕ) → n < 10 → length (decimal n) ≤ 1
one-digit n h = omega (arith, length-one n h)

two_digits : (n : ℕ) → n < 100 → length (decimal n) ≤ 2
two_digits n h = one_more 1 n (omega arith) (λ l. one-digit (n / 10) (omega arith))

five-digits : (n : ℕ) → n < 100000 → length (decimal n) ≤ 5
five-digits n h =
    one_more 4 n (omega arith) (λ a.
    one_more 3 (n / 10) (omega arith) (λ b.
    one_more 2 (n / 10 / 10) (omega arith) (λ c.
    two_digits (n / 10 / 10 / 10) (omega arith))))

-- ---- counts

four-counts : (a b c d : ℕ) → a ≤ 16 → b ≤ 16 → c ≤ 16 → d ≤ 16 → length (spaced (a ∷ b ∷ c ∷ d ∷ [])) ≤ 12
four-counts a b c d ha hb hc hd =
    let wa = two_digits a (omega arith) in
    let wb = two_digits b (omega arith) in
    let wc = two_digits c (omega arith) in
    let wd = two_digits d (omega arith) in
    omega (arith, spaced-length a (b ∷ c ∷ d ∷ []), spaced-length b (c ∷ d ∷ []), spaced-length c (d ∷ []), spaced-length d [], spaced-none, wa, wb, wc, wd)

in-sixteen : (s : Set) → length s ≤ 16 → size s ≤ 16
in-sixteen s h = omega (arith, size_few s)

counts-short : (P : Program) (v : Version) → length (spaced (counts P v)) ≤ 12
unfolding counts Option-elim Small
counts-short P v = go (body_action P v) (body-small P v)
  where
    go : (o : Option Action) → Small o → length (spaced (Option-elim o [] (λ a. size a.R ∷ size a.W ∷ size a.U ∷ size a.C ∷ []))) ≤ 12
    go none h = omega (arith, spaced-none)
    go (some a) h = four-counts (size a.R) (size a.W) (size a.U) (size a.C) (in-sixteen _ h.R) (in-sixteen _ h.W) (in-sixteen _ h.U) (in-sixteen _ h.C)

-- ---- lines

-- by the tests of question 4
numbers : (v : Version) → version_bounded v ≡ true → (v.function < FUNCTIONS) × (v.version < VERSIONS)
unfolding version_bounded
numbers v h =
    let l = and_both (ltb v.level LEVELS) _ h in
    let a = and_both (ltb v.function FUNCTIONS) _ l.1 in
    let b = and_both (ltb v.version VERSIONS) _ a.1 in
    (ltb-true _ _ a.0, ltb-true _ _ b.0)

line-short : (P : Program) (v : Version) → version_bounded v ≡ true → length (version_line P v) ≤ 17
unfolding version_line
line-short P v h =
    let n = numbers v h in
    let f = two_digits v.function (omega (arith, n.0)) in
    let w = one-digit v.version (omega (arith, n.1)) in
    omega (arith, line-length v.function v.version (counts P v), counts-short P v, f, w)

abbrev Short : Program → Version → Type 0
Short P v = length (version_line P v) ≤ 17

each-short : (P vs : Program) → Helds bounds vs → Each (Short P) vs
unfolding Helds Each
each-short P [] h = tt
each-short P (v ∷ vs) h = (line-short P v h.0.of_version, each-short P vs h.1)

lines-short : (P vs : Program) → Each (Short P) vs → length (version_lines P vs) ≤ 17 * length vs
unfolding flat_map Each
lines-short P [] h = omega arith
lines-short P (v ∷ vs) h = omega (arith, length-append (version_line P v) (version_lines P vs), h.0, lines-short P vs h.1)

-- ---- the answer

accepted-bytes : (length (text "accepted ") ≡ 9) × (length (text "\n") ≡ 1)
unfolding text
accepted-bytes = (refl, refl)

refused-bytes : (length (text "refused ") ≡ 8) × (length (text " at ") ≡ 4)
unfolding text
refused-bytes = (refl, refl)

refusal-short : (q p : ℕ) → q < 100 → p < 100000 → length (refusal q p) ≤ 20
unfolding refusal
refusal-short q p h l = simp length-append (omega (arith, refused-bytes.0, refused-bytes.1, accepted-bytes.1, two_digits q h, five-digits p l))

accepted-short : (P : Program) (n : ℕ) → length P ≡ n → n ≤ ALL-VERSIONS → Each (Short P) P → length (answer P (Ok n)) ≤ 1100
unfolding answer
accepted-short P n e h each = simp length-append (omega (arith, accepted-bytes.0, accepted-bytes.1, two_digits n (omega (arith, h)), lines-short P P each))

-- ---- the number of a question that refuses

-- is below 100
unfoldable Numbered : Verdict → Type 0
Numbered (Ok n) = Unit {0}
Numbered (Err why) = why.question < 100

ask-numbered : (k : ℕ) (x : Found) (more : Verdict) → k < 100 → Numbered more → Numbered (ask k x more)
unfolding ask Numbered
ask-numbered k None more h e = e
ask-numbered k (Some p) more h e = h

numbered : (form : Form) (s : List ℕ) → Numbered (verdict_in form s)
unfolding verdict_in Numbered
numbered form s =
    ask-numbered 1 _ _ (omega arith)
    (ask-numbered 2 _ _ (omega arith)
    (ask-numbered 3 _ _ (omega arith)
    (ask-numbered 4 _ _ (omega arith)
    (ask-numbered 5 _ _ (omega arith)
    (ask-numbered 6 _ _ (omega arith)
    (ask-numbered 7 _ _ (omega arith)
    (ask-numbered 14 _ _ (omega arith)
    (ask-numbered 8 _ _ (omega arith)
    (ask-numbered 18 _ _ (omega arith)
    (ask-numbered 9 _ _ (omega arith)
    (ask-numbered 10 _ _ (omega arith) tt)))))))))))

-- ---- THE LAWS

pub refusals-short : RefusalsShort
unfolding RefusalsShort Numbered
refusals-short form s q p e =
    let h : Numbered (verdict_in form s) = numbered form s in
    refusal-short q p (rw e at h) (omega (arith, refused-low form s q p e))

lines_of : (form : Form) (s : List ℕ) (n : ℕ) → verdict_in form s ≡ Ok n → Each (Short (program (records s))) (program (records s))
lines_of form s n e = let a = all-passed s n e in each-short (program (records s)) (program (records s)) (helds bounds (program (records s)) (in_bounds_lem (length s) (records s) a.q4))

pub lines-few : LinesShort
unfolding LinesShort
lines-few form s n e =
    let a = all-passed s n e in
    (few-versions (length s) (records s) a.q4, λ i v g. each-get (Short (program (records s))) (program (records s)) i v (lines_of form s n e) g)

pub reports-short : ReportsShort
unfolding ReportsShort RefusalsShort report_in answer
reports-short form s = go (verdict_in form s) refl
  where
    go : (v : Verdict) → verdict_in form s ≡ v → length (answer (program (records s)) v) ≤ 1100
    go (Ok n) e =
        let a = all-passed s n e in
        let few = few-versions (length s) (records s) a.q4 in
        accepted-short (program (records s)) n a.count (omega (arith, few, a.count)) (lines_of form s n e)
    go (Err why) e = omega (arith, refusals-short form s why.question why.at e)
