-- `mends::mend_in`: the copy is the image.
use Rattle.mends.proofs.Parts.{copied, failing-as, found-copied}
use Rattle.mends.proofs.mend_in.Goals as goal

pub search-requires : goal.search-requires
search-requires c =
    failing-as (copied c.args.image.now c.args.copy.now c.requires.copy_len c.put_bytes.ensures) (record { refusal = c.requires.refusal; table = c.versions-table.ensures; told = c.standing-here.ensures })

pub returns : goal.returns
returns c =
    found-copied (copied c.args.image.now c.args.copy.now c.requires.copy_len c.put_bytes.ensures) c.requires.refusal c.search.ensures.0
