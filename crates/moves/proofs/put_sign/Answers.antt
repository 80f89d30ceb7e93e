-- `moves::put_sign`: the sign four times.
use mathlib.Core.Path.{sym, ap, ◌∙◌}
use Rattle.layout.specs.Forms.{sign_byte}
use Rattle.moves.specs.Parts.{sign_of}
use Rattle.moves.proofs.put_sign.Goals as goal

pub returns : goal.returns
unfolding sign_of
returns c =
    rw (sym (c.sign_byte-s.ensures ∙ ap sign_byte c.field.ensures.0)) c.put_bytes.ensures
