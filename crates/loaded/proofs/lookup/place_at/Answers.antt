-- `loaded::lookup::place_at`: the last two bytes of the record.
use mathlib.Core.Path.{ap, ◌∙◌}
use native.Mathlib.Omega.{arith}
use Prim.Native.Nat.{ℕ, ◌+◌, ◌*◌}
use Rattle.layout.specs.Records.{◌!◌}
use Rattle.loaded.specs.Loaded.{record_at}
use Rattle.loaded.specs.Loaded.{place_in}
use Rattle.loaded.proofs.lookup.place_at.Goals as goal

pub returns : goal.returns
unfolding place_in
returns c =
    let t = c.args.table.now in
    let i = c.args.i in
    c.pair.ensures ∙ ap (λ (j : ℕ). t ! (record_at i + 6) + 256 * t ! j) (omega arith)
