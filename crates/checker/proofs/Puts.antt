-- Pieces put into a buffer one after the other are one piece.
use Rattle.std.specs.Prelude.{None, Option, Some, Err, Ok}
use mathlib.Core.Path.{◌≡◌, refl, sym, ap, ◌∙◌}
use mathlib.Core.List.{List, [], ◌∷◌, ◌++◌, append_assoc, append-nil}
use Prim.Native.Nat.{ℕ, ◌+◌, ◌≤◌, ◌<◌}
use native.Mathlib.Omega.{arith}
use lib.ListN.{length, length-append}
use Rattle.writer.specs.Text.{text, decimal, placed}
use Rattle.writer.proofs.Placed.{placed-then, placed-length, placed-none, placed_past}
use mathlib.Core.Bool.{Bool, true, false, cond}
use lib.Dec.{leb}
use borrow.Author.Tests.{le-leb, lt-leb, leb-true}
use Rattle.checker.specs.Reports.{spaced, line_text, counts_of, refusal, answer, report_in, reported_of, Told, version_lines}
use Rattle.layout.specs.Records.{records}
use Rattle.layout.specs.declared.Form.{Form}
use Rattle.program.specs.Program.{Program, program}
use Rattle.checker.specs.Verdicts.{verdict_in, refused}
use Rattle.checker.specs.declared.Counts.{Counts}
use Rattle.checker.proofs.Texts.{spaced-cons, spaced-nil, counts-known, length-count, line-length, one_byte}

-- the bytes t were put at a, and b is the place behind them
pub record Put (before after : List ℕ) (a b : ℕ) (t : List ℕ) : Type 0 where
  pub writes : after ≡ placed before a t
  pub ends : b ≡ a + length t

-- the buffer keeps its length
pub put-length : {x y t : List ℕ} {a b : ℕ} → Put x y a b t → length y ≡ length x
put-length {x} {y} {t} {a} p = ap length p.writes ∙ placed-length x a t

pub put_then : {x y z t u : List ℕ} {a b c : ℕ} → Put x y a b t → Put y z b c u → c ≤ length x → Put x z a c (t ++ u)
put_then {x} {y} {z} {t} {u} {a} {b} {c} p q h = record {
  writes = placed-then x a t u p.writes p.ends q.writes (omega (arith, q.ends));
  ends = omega (arith, p.ends, q.ends, length-append t u);
}

-- the same piece by another name
pub put_as : {x y t u : List ℕ} {a b : ℕ} → t ≡ u → Put x y a b t → Put x y a b u
put_as e p = rw e at p

count : ℕ → List ℕ
count n = text " " ++ decimal n

spaced-four : (r w u c : ℕ) → ((count r ++ count w) ++ count u) ++ count c ≡ spaced (r ∷ w ∷ u ∷ c ∷ [])
unfolding count
spaced-four r w u c = simp (spaced-cons, spaced-nil, append_assoc, append-nil)

-- four counts are the counts of a line
pub counts-put : {x y₁ y₂ y₃ y₄ : List ℕ} {a b₁ b₂ b₃ b₄ : ℕ} {n : Counts} (k : Option Counts) → k ≡ Some n → a + length (spaced (counts_of k)) ≤ length x
    → Put x y₁ a b₁ (text " " ++ decimal n.reads) → Put y₁ y₂ b₁ b₂ (text " " ++ decimal n.assigns) → Put y₂ y₃ b₂ b₃ (text " " ++ decimal n.empties)
    → Put y₃ y₄ b₃ b₄ (text " " ++ decimal n.captures)
    → Put x y₄ a b₄ (spaced (counts_of k))
unfolding count counts_of
counts-put {a = a} {n = n} k e h p q s t =
    let l = counts-known k e in
    let r = length-count n.reads in
    let w = length-count n.assigns in
    let u = length-count n.empties in
    let c = length-count n.captures in
    put_as (spaced-four n.reads n.assigns n.empties n.captures ∙ ap (λ (m : Option Counts). spaced (counts_of m)) (sym e))
    (put_then (put_then (put_then p q (omega (arith, l, r, w, p.ends, q.ends))) s
    (omega (arith, l, r, w, u, p.ends, q.ends, s.ends))) t
    (omega (arith, l, r, w, u, c, p.ends, q.ends, s.ends, t.ends)))

-- the pieces of a line
pub line-put : {x y₁ y₂ y₃ y₄ y₅ : List ℕ} {a b₁ b₂ b₃ b₄ b₅ : ℕ} (f w : ℕ) (ns : List ℕ) → a + length (line_text f w ns) ≤ length x
    → Put x y₁ a b₁ (decimal f) → Put y₁ y₂ b₁ b₂ (text ".") → Put y₂ y₃ b₂ b₃ (decimal w) → Put y₃ y₄ b₃ b₄ (spaced ns) → Put y₄ y₅ b₄ b₅ (text "\n")
    → Put x y₅ a b₅ (line_text f w ns)
unfolding line_text
line-put f w ns h p q s t v =
    let n = line-length f w ns in
    put_then (put_then (put_then (put_then p q (omega (arith, n, one_byte.1, p.ends, q.ends))) s (omega (arith, n, one_byte.1, p.ends, q.ends, s.ends))) t
    (omega (arith, n, one_byte.1, p.ends, q.ends, s.ends, t.ends))) v (omega (arith, n, one_byte.1, one_byte.2, p.ends, q.ends, s.ends, t.ends, v.ends))

-- Of the text `whole`, the part `ahead` is still to be put; what was put stands in the buffer from place 0 on.
pub record Writing (whole ahead before after : List ℕ) (at : ℕ) : Type 0 where
  pub part : List ℕ
  pub rest : whole ≡ part ++ ahead
  pub put : Put before after 0 at part

pub writing-first : (t x : List ℕ) → Writing t t x x 0
writing-first t x = record { part = []; rest = refl; put = record { writes = sym (placed-none x 0); ends = refl } }

pub writing-last : {t x y : List ℕ} {at : ℕ} → Writing t [] x y at → Put x y 0 at t
writing-last {t} w = put_as (sym (w.rest ∙ append-nil w.part)) w.put

-- the next piece fits, and is put
pub writing-fits : {t x y : List ℕ} {at : ℕ} (a b : List ℕ) → Writing t (a ++ b) x y at → length t ≤ length x → at + length a ≤ length x
writing-fits {t} {x} {y} {at} a b w h = omega (arith, ap length w.rest, length-append w.part (a ++ b), length-append a b, w.put.ends)

pub writing-next : {t x y z : List ℕ} {at next : ℕ} (a b : List ℕ) → Writing t (a ++ b) x y at → length t ≤ length x → Put y z at next a → Writing t b x z next
writing-next {t} {x} {y} {z} {at} {next} a b w h p = record {
  part = w.part ++ a;
  rest = w.rest ∙ sym (append_assoc w.part a b);
  put = put_then w.put p (omega (arith, p.ends, writing-fits a b w h));
}

-- the same, with what is ahead by another name
pub writing-as : {t a b x y : List ℕ} {at : ℕ} → a ≡ b → Writing t a x y at → Writing t b x y at
writing-as e w = rw e at w

-- a text whose length the code has, put whole or not at all
pub told-short : (x t : List ℕ) (n : ℕ) → n ≡ length t → length x < n → Told None x x t
unfolding reported_of
told-short x t n e h = record { says = simp (lt-leb (length t) (length x) (omega arith)); writes = sym (placed_past x 0 t (omega arith)) }

pub told-written : {x y : List ℕ} {b : ℕ} (t : List ℕ) (n : ℕ) → n ≡ length t → n ≤ length x → Put x y 0 b t → Told (Some n) x y t
unfolding reported_of
told-written {x} t n e h p = record { says = rw e (simp (le-leb (length t) (length x) (omega arith))); writes = p.writes }

-- ---- the two texts

eight-bytes : (length (text "refused ") ≡ 8) × (length (text " at ") ≡ 4) × (length (text "accepted ") ≡ 9)
unfolding text
eight-bytes = (refl, refl, refl)

pub refusal-length : (n p : ℕ) → length (refusal n p) ≡ 8 + length (decimal n) + 4 + length (decimal p) + 1
unfolding refusal
refusal-length n p = simp length-append (omega (arith, one_byte.2, eight-bytes.0, eight-bytes.1))

pub refusal-put : {x y₁ y₂ y₃ y₄ y₅ : List ℕ} {b₁ b₂ b₃ b₄ b₅ : ℕ} (n p : ℕ) → length (refusal n p) ≤ length x
    → Put x y₁ 0 b₁ (text "refused ") → Put y₁ y₂ b₁ b₂ (decimal n) → Put y₂ y₃ b₂ b₃ (text " at ") → Put y₃ y₄ b₃ b₄ (decimal p) → Put y₄ y₅ b₄ b₅ (text "\n")
    → Put x y₅ 0 b₅ (refusal n p)
unfolding refusal
refusal-put n p h q r s t u =
    let l = refusal-length n p in
    put_then (put_then (put_then (put_then q r (omega (arith, l, eight-bytes.0, q.ends, r.ends))) s (omega (arith, l, eight-bytes.0, eight-bytes.1, q.ends, r.ends, s.ends))) t
    (omega (arith, l, eight-bytes.0, eight-bytes.1, q.ends, r.ends, s.ends, t.ends))) u (omega (arith, l, one_byte.2, eight-bytes.0, eight-bytes.1, q.ends, r.ends, s.ends, t.ends, u.ends))

pub accepted-length : (P : Program) (n : ℕ) → length (answer P (Ok n)) ≡ length (version_lines P P) + 9 + length (decimal n) + 1
unfolding answer
accepted-length P n = simp length-append (omega (arith, one_byte.2, eight-bytes.2))

pub accepted-put : {x y₁ y₂ y₃ y₄ : List ℕ} {b₁ b₂ b₃ b₄ : ℕ} (P : Program) (n : ℕ) → length (answer P (Ok n)) ≤ length x
    → Put x y₁ 0 b₁ (version_lines P P) → Put y₁ y₂ b₁ b₂ (text "accepted ") → Put y₂ y₃ b₂ b₃ (decimal n) → Put y₃ y₄ b₃ b₄ (text "\n")
    → Put x y₄ 0 b₄ (answer P (Ok n))
unfolding answer
accepted-put P n h q r s t =
    let l = accepted-length P n in
    put_then (put_then (put_then q r (omega (arith, l, eight-bytes.2, q.ends, r.ends))) s (omega (arith, l, eight-bytes.2, q.ends, r.ends, s.ends))) t
    (omega (arith, l, one_byte.2, eight-bytes.2, q.ends, r.ends, s.ends, t.ends))

-- the text by its verdict
pub told-accepted : {r : Option ℕ} {x y : List ℕ} (form : Form) (s : List ℕ) (n : ℕ) → verdict_in form s ≡ Ok n → Told r x y (answer (program (records s)) (Ok n)) → Told r x y (report_in form s)
unfolding report_in
told-accepted form s n e t = rw e t

pub told-refused : {r : Option ℕ} {x y : List ℕ} (form : Form) (s : List ℕ) (n p : ℕ) → verdict_in form s ≡ Err (refused n p) → Told r x y (refusal n p) → Told r x y (report_in form s)
unfolding report_in answer
told-refused form s n p e t = rw e t

-- a text that was written fits
pub written-fits : (t : List ℕ) (places n : ℕ) → reported_of t places ≡ Some n → n ≤ places
unfolding reported_of
written-fits t places n e = go (leb (length t) places) refl e
  where
    go : (b : Bool) → leb (length t) places ≡ b → cond b (Some (length t)) None ≡ Some n → n ≤ places
    go true x y = let z : length t ≡ n = cc in omega (arith, leb-true (length t) places x)
    go false x y = let z : ◌≡◌ {A = ℕ} 0 1 = cc in absurd (omega arith)
