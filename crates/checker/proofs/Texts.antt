-- The text, piece by piece: its lengths, and its lines as a loop along the records meets them.
use Rattle.std.specs.Prelude.{None, Option, Some}
use mathlib.Core.Path.{◌≡◌, refl, ap}
use Rattle.flow.specs.Masks.{Flowed}
use mathlib.Core.List.{List, [], ◌∷◌, ◌++◌, flat_map}
use mathlib.Core.Option.{Option-elim}
use Prim.Native.Nat.{ℕ, ◌+◌}
use native.Mathlib.Omega.{arith}
use lib.ListN.{length, length-append}
use Rattle.layout.specs.Kinds as kind
use Rattle.sets.specs.Sets.{size, set_of}
use Rattle.program.specs.Program.{Version, Program, nowhere}
use Rattle.program.specs.Places.{view_at, version_at}
use Rattle.program.proofs.Views.{Whole, at-version}
use Rattle.rules.specs.Actions.{body_action}
use Rattle.flow.specs.Masks.{flowed}
use Rattle.flow.specs.declared.Action.{Action}
use Rattle.writer.specs.Text.{text, decimal}
use Rattle.checker.specs.Reports.{counts, counts_of, spaced, line_text, version_line, version_lines}
use Rattle.checker.specs.declared.Counts.{Counts}
use Rattle.checker.proofs.Asks.{same_ahead}

-- ---- counts

pub counts-allowed : (P : Program) (v : Version) (f : Flowed) (a : Action) → flowed f ≡ body_action P v → f ≡ Some a
    → counts P v ≡ size (set_of 16 a.reads) ∷ size (set_of 16 a.assigns) ∷ size (set_of 16 a.empties) ∷ size (set_of 16 a.captures) ∷ []
unfolding counts flowed Option-elim
counts-allowed P v f a e h = rw (← e, h)

pub counts-refused : (P : Program) (v : Version) (f : Flowed) → flowed f ≡ body_action P v → f ≡ None → counts P v ≡ []
unfolding counts flowed Option-elim
counts-refused P v f e h = rw (← e, h)

-- ---- lengths

pub one_byte : (length (text " ") ≡ 1) × (length (text ".") ≡ 1) × (length (text "\n") ≡ 1)
unfolding text
one_byte = (refl, refl, refl)

pub length-count : (n : ℕ) → length (text " " ++ decimal n) ≡ 1 + length (decimal n)
length-count n = omega (arith, length-append (text " ") (decimal n), one_byte.0)

pub spaced-cons : (n : ℕ) (ns : List ℕ) → spaced (n ∷ ns) ≡ (text " " ++ decimal n) ++ spaced ns
unfolding spaced flat_map text
spaced-cons n ns = refl

pub spaced-length : (n : ℕ) (ns : List ℕ) → length (spaced (n ∷ ns)) ≡ 1 + length (decimal n) + length (spaced ns)
spaced-length n ns = rw (spaced-cons n ns) (omega (arith, length-append (text " " ++ decimal n) (spaced ns), length-count n))

pub spaced-nil : spaced [] ≡ []
unfolding spaced flat_map
spaced-nil = refl

pub spaced-none : length (spaced []) ≡ 0
spaced-none = ap length spaced-nil

spaced-four : (r w u c : ℕ) → length (spaced (r ∷ w ∷ u ∷ c ∷ [])) ≡ 4 + length (decimal r) + length (decimal w) + length (decimal u) + length (decimal c)
spaced-four r w u c = omega (arith, spaced-length r (w ∷ u ∷ c ∷ []), spaced-length w (u ∷ c ∷ []), spaced-length u (c ∷ []), spaced-length c [], spaced-none)

pub counts-known : {n : Counts} (k : Option Counts) → k ≡ Some n
    → length (spaced (counts_of k)) ≡ 4 + length (decimal n.reads) + length (decimal n.assigns) + length (decimal n.empties) + length (decimal n.captures)
unfolding counts_of
counts-known {n} k e = rw e (spaced-four n.reads n.assigns n.empties n.captures)

pub counts-none : (k : Option Counts) → k ≡ None → spaced (counts_of k) ≡ []
unfolding counts_of
counts-none k e = rw e spaced-nil

pub counts-unknown : (k : Option Counts) → k ≡ None → length (spaced (counts_of k)) ≡ 0
counts-unknown k e = ap length (counts-none k e)

pub line-length : (f w : ℕ) (ns : List ℕ) → length (line_text f w ns) ≡ length (decimal f) + 1 + length (decimal w) + length (spaced ns) + 1
unfolding line_text
line-length f w ns = simp length-append (omega (arith, one_byte.1, one_byte.2))

-- ---- lines

-- the lines of the versions ahead of p
abbrev pub lines_ahead : Program → List ℕ → ℕ → List ℕ
lines_ahead P s p = version_lines P (view_at s p).versions

pub none_left : (P : Program) (s : List ℕ) (p : ℕ) → view_at s p ≡ nowhere → lines_ahead P s p ≡ []
unfolding flat_map
none_left P s p e = rw e

module _ (P : Program) {s : List ℕ} {p n k : ℕ} (m : Whole s p n k) where
  pub line-left : k ≡ kind.VERSION → lines_ahead P s p ≡ version_line P (version_at s p) ++ lines_ahead P s (p + n)
  unfolding flat_map
  line-left e = rw (at-version m e)

  pub same_left : (k ≡ kind.VERSION → ⊥) → lines_ahead P s p ≡ lines_ahead P s (p + n)
  same_left x = ap (version_lines P) (same_ahead m x)
