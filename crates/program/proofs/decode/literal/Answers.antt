-- `program::decode::literal`: twice four bytes make 64 bits.
use Prim.Native.Nat.{◌+◌, ◌*◌}
use Rattle.program.specs.Program.{number_in}
use mathlib.Core.Path.{refl, ◌∙◌}
use mir.Facts.{to_z-of_z}
use mir.Syntax.{w64}
use mir.Val.{Fits}
use mir.ValLaws.{to_z-Fits}
use native.Mathlib.Omega.{arith}
use Rattle.program.proofs.decode.literal.Goals as goal

pub returns : goal.returns
unfolding number_in
returns c =
    let u = c.word.result + 4294967296 * c.word-2.result in
    let f : Fits w64 u = record { fits = omega (arith, c.word.ensures.1, c.word-2.ensures.1) } in
    to_z-of_z {w = w64} (rw c.signed_of.ensures (to_z-Fits w64 u f)) ∙ c.signed_of.ensures ∙ rw (c.word.ensures.0, c.word-2.ensures.0) refl
