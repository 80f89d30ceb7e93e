-- What `check` prints looks at no offset and at no literal's number: of programs of the same shape it is the same.
use Rattle.std.specs.Prelude.{Err, Ok}
use mathlib.Core.Path.{◌≡◌, refl, ap, ap₂, ◌∙◌, sym}
use mathlib.Core.List.{List, [], ◌∷◌, ◌++◌, flat_map, map}
use mathlib.Core.Option.{Option, Option-elim}
use Prim.Native.Nat.{ℕ}
use Rattle.sets.specs.Sets.{size}
use Rattle.program.specs.Program.{Version, Program}
use Rattle.rules.specs.Actions.{Action}
use Rattle.rules.proofs.Shapes.{shape, body-shape}
use Rattle.writer.specs.Text.{text, decimal}
use Rattle.checker.specs.Reports.{counts, line_text, version_line, version_lines, answer}
use Rattle.checker.specs.Verdicts.{Verdict}

module _ (P : Program) where
  line-shape : (v : Version) → version_line P v ≡ version_line (map shape P) (shape v)
  unfolding version_line counts
  line-shape v = ap (λ (o : Option Action). line_text v.function v.version (Option-elim o [] (λ a. size a.R ∷ size a.W ∷ size a.U ∷ size a.C ∷ []))) (body-shape P v)

  lines-shape : (vs : Program) → version_lines P vs ≡ version_lines (map shape P) (map shape vs)
  unfolding flat_map
  lines-shape [] = refl
  lines-shape (v ∷ vs) = ap₂ ◌++◌ (line-shape v) (lines-shape vs)

-- THE LAW: the same verdict on programs of the same shape is printed alike, the four counts of each version included
pub answer-shape : (P Q : Program) → map shape P ≡ map shape Q → (v : Verdict) → answer P v ≡ answer Q v
unfolding answer
answer-shape P Q e (Ok n) =
    ap (λ (t : List ℕ). t ++ text "accepted " ++ decimal n ++ text "\n") (lines-shape P P ∙ ap (λ (X : Program). version_lines X X) e ∙ sym (lines-shape Q Q))
answer-shape P Q e (Err why) = refl
