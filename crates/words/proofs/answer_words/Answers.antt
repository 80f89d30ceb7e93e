-- `words::answer_words`: each code by its row, any other by none.
use mathlib.Core.Path.{sym, ◌∙◌}
use mathlib.Core.List.{[]}
use Rattle.words.specs.Words.{answer_text}
use Rattle.words.proofs.Saying.{next_row, no_row}
use Rattle.words.proofs.answer_words.Goals as goal

pub returns-in_default : goal.returns-in_default
unfolding answer_text
returns-in_default c =
    let q = c.args.code in
    sym (next_row q [] _ _ c.in_default.in_default-own.rest.0.0.0.0.0.0.0.0.1
    ∙ next_row q [] _ _ c.in_default.in_default-own.rest.0.0.0.0.0.0.0.1
    ∙ next_row q [] _ _ c.in_default.in_default-own.rest.0.0.0.0.0.0.1
    ∙ next_row q [] _ _ c.in_default.in_default-own.rest.0.0.0.0.0.1
    ∙ next_row q [] _ _ c.in_default.in_default-own.rest.0.0.0.0.1
    ∙ next_row q [] _ _ c.in_default.in_default-own.rest.0.0.0.1
    ∙ next_row q [] _ _ c.in_default.in_default-own.rest.0.0.1
    ∙ next_row q [] _ _ c.in_default.in_default-own.rest.0.1
    ∙ next_row q [] _ _ c.in_default.in_default-own.rest.1
    ∙ no_row q [])
