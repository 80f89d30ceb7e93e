-- `trails::change`: a new start where it is taken, else nothing.
use mathlib.Core.Path.{refl, sym, ◌∙◌}
use Rattle.trails.proofs.Starting.{change-refused, change-taken}
use Rattle.trails.proofs.change.Goals as goal

pub returns-in-Ok : goal.returns-in-Ok
returns-in-Ok c = change-taken _ _ _ _ _ _ _ _ _ _ _ _ _ (λ n. sym c.in-Ok.is ∙ c.change.ensures n) refl c.start.ensures

pub returns-in-Err : goal.returns-in-Err
returns-in-Err c = change-refused _ _ _ _ _ _ _ _ _ (λ n. sym c.in-Err.is ∙ c.change.ensures n) refl
