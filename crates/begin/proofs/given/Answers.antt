-- `begin::given`: by the word at p and what is behind it.
use Rattle.std.specs.Prelude.{Some}
use mir.Syntax.{w64}
use Rattle.begin.proofs.Words.{no_words, length_at, lone-at, one_at, below_at, many-at, short-at, items_at}
use Rattle.begin.specs.declared.Argument.{Argument}
use borrow.Author.Rules.{rules}
use lib.ListN.{drop_of_length-le}
use mathlib.Core.Path.{ap, ◌∙◌}
use mir.Facts.{to_z-of_z}
use Rattle.begin.proofs.given.Goals as goal

pub returns-then-words-p : goal.returns-then-words-p
returns-then-words-p c =
    rw (drop_of_length-le _ c.if-words-p.true) no_words

pub returns-then-left-eq0 : goal.returns-then-left-eq0
returns-then-left-eq0 c =
    lone-at _ _ c.if-words-p.false (search rules) c.if-w.true c.if-left-eq0.true

pub returns-then-w : goal.returns-then-w
returns-then-w c =
    ap (λ x. Some (Argument.Integer x)) (to_z-of_z {w = w64} (search rules)) ∙ one_at _ _ c.if-words-p.false (search rules) c.if-w.true c.if-left-eq0.false

pub returns-then-w-lt0 : goal.returns-then-w-lt0
returns-then-w-lt0 c =
    below_at _ _ c.if-words-p.false (search rules) c.if-w.false c.if-w-lt0.true

pub overflow_cast-n : goal.overflow_cast-n
overflow_cast-n c =
    length_at c.args.words.now c.args.p c.if-words-p.false (search rules) c.if-w-lt0.false

pub returns-then-n-gt-ITEMS : goal.returns-then-n-gt-ITEMS
returns-then-n-gt-ITEMS c =
    many-at _ _ c.if-words-p.false (search rules) c.if-w-lt0.false c.if-n-gt-ITEMS.true

pub returns-then-left-n : goal.returns-then-left-n
returns-then-left-n c =
    short-at _ _ c.if-words-p.false (search rules) c.if-w-lt0.false c.if-n-gt-ITEMS.false c.if-left-n.true

pub returns : goal.returns
returns c =
    items_at _ _ c.if-words-p.false (search rules) c.if-w-lt0.false c.if-n-gt-ITEMS.false c.if-left-n.false
