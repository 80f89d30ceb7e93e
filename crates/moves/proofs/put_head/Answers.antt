-- `moves::put_head`: one for each form.
use Rattle.layout.specs.Forms.{literal_kind, literal_length}
use Rattle.moves.specs.Parts.{head_of}
use Rattle.moves.proofs.put_head.Goals as goal

pub returns-in-Narrow : goal.returns-in-Narrow
unfolding head_of literal_length literal_kind
returns-in-Narrow c =
    rw c.in-Narrow.is c.put_bytes.ensures

pub returns-in-Wide : goal.returns-in-Wide
unfolding head_of literal_length literal_kind
returns-in-Wide c =
    rw c.in-Wide.is c.put_bytes-in-Wide.ensures
