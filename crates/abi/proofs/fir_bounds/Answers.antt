-- `abi::fir_bounds`: the numbers of what became of the image.
use Rattle.std.specs.Prelude.{Result}
use mathlib.Core.List.{List}
use mathlib.Core.Path.{◌≡◌, ap, ◌∙◌}
use Prim.Native.Nat.{ℕ}
use Rattle.bounds.specs.Rows.{unless}
use Rattle.abi.specs.Answers.{verdict_numbers}
use Rattle.abi.proofs.fir_bounds.Goals as goal
use Rattle.checker.specs.declared.Refusal.{Refusal}

unless-same : {a b : Result ℕ Refusal} → a ≡ b → (old new : List ℕ) → unless a old new ≡ unless b old new
unless-same e old new = ap (λ (x : Result ℕ Refusal). unless x old new) e

pub returns : goal.returns
returns c =
    let b = c.bounds_of.ensures in
    (c.verdict.ensures ∙ ap verdict_numbers b.0, b.1 ∙ unless-same b.0 _ _, b.2 ∙ unless-same b.0 _ _)
