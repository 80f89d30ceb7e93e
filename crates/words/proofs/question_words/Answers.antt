-- `words::question_words`: each number by its row, any other by none.
use mathlib.Core.Path.{sym, ◌∙◌}
use mathlib.Core.List.{[]}
use Rattle.words.specs.Words.{question_text}
use Rattle.words.proofs.Saying.{next_row, no_row}
use Rattle.words.proofs.question_words.Goals as goal

pub returns-in_default : goal.returns-in_default
unfolding question_text
returns-in_default c =
    let q = c.args.question in
    sym (next_row q [] _ _ c.in_default.in_default-own.rest.0.0.0.0.0.0.0.0.0.0.0.0.0.0.0.0.0.0.0.0.0.0.0.1
    ∙ next_row q [] _ _ c.in_default.in_default-own.rest.0.0.0.0.0.0.0.0.0.0.0.0.0.0.0.0.0.0.0.0.0.0.1
    ∙ next_row q [] _ _ c.in_default.in_default-own.rest.0.0.0.0.0.0.0.0.0.0.0.0.0.0.0.0.0.0.0.0.0.1
    ∙ next_row q [] _ _ c.in_default.in_default-own.rest.0.0.0.0.0.0.0.0.0.0.0.0.0.0.0.0.0.0.0.0.1
    ∙ next_row q [] _ _ c.in_default.in_default-own.rest.0.0.0.0.0.0.0.0.0.0.0.0.0.0.0.0.0.0.0.1
    ∙ next_row q [] _ _ c.in_default.in_default-own.rest.0.0.0.0.0.0.0.0.0.0.0.0.0.0.0.0.0.0.1
    ∙ next_row q [] _ _ c.in_default.in_default-own.rest.0.0.0.0.0.0.0.0.0.0.0.0.0.0.0.0.0.1
    ∙ next_row q [] _ _ c.in_default.in_default-own.rest.0.0.0.0.0.0.0.0.0.0.0.0.0.0.0.0.1
    ∙ next_row q [] _ _ c.in_default.in_default-own.rest.0.0.0.0.0.0.0.0.0.0.0.0.0.0.0.1
    ∙ next_row q [] _ _ c.in_default.in_default-own.rest.0.0.0.0.0.0.0.0.0.0.0.0.0.0.1
    ∙ next_row q [] _ _ c.in_default.in_default-own.rest.0.0.0.0.0.0.0.0.0.0.0.0.0.1
    ∙ next_row q [] _ _ c.in_default.in_default-own.rest.0.0.0.0.0.0.0.0.0.0.0.0.1
    ∙ next_row q [] _ _ c.in_default.in_default-own.rest.0.0.0.0.0.0.0.0.0.0.0.1
    ∙ next_row q [] _ _ c.in_default.in_default-own.rest.0.0.0.0.0.0.0.0.0.0.1
    ∙ next_row q [] _ _ c.in_default.in_default-own.rest.0.0.0.0.0.0.0.0.0.1
    ∙ next_row q [] _ _ c.in_default.in_default-own.rest.0.0.0.0.0.0.0.0.1
    ∙ next_row q [] _ _ c.in_default.in_default-own.rest.0.0.0.0.0.0.0.1
    ∙ next_row q [] _ _ c.in_default.in_default-own.rest.0.0.0.0.0.0.1
    ∙ next_row q [] _ _ c.in_default.in_default-own.rest.0.0.0.0.0.1
    ∙ next_row q [] _ _ c.in_default.in_default-own.rest.0.0.0.0.1
    ∙ next_row q [] _ _ c.in_default.in_default-own.rest.0.0.0.1
    ∙ next_row q [] _ _ c.in_default.in_default-own.rest.0.0.1
    ∙ next_row q [] _ _ c.in_default.in_default-own.rest.0.1
    ∙ next_row q [] _ _ c.in_default.in_default-own.rest.1
    ∙ no_row q [])
