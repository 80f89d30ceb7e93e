-- `loaded::decode::literal`: twice four bytes make 64 bits.
use Prim.Native.Nat.{◌+◌, ◌*◌}
use mathlib.Core.Path.{sym, ap, ◌∙◌}
use mir.Facts.{to_z-of_z}
use mir.Syntax.{w64}
use mir.Val.{Fits, to_z}
use mir.ValLaws.{to_z-Fits}
use native.Mathlib.Omega.{arith}
use Rattle.program.specs.Program.{number_in}
use Rattle.loaded.proofs.Reading.{literal-bytes}
use Rattle.loaded.proofs.decode.literal.Goals as goal

pub returns-then-e-image : goal.returns-then-e-image
unfolding number_in
returns-then-e-image c =
    let u = c.four_inside.result + 4294967296 * c.four_inside-then-e-image.result in
    let f : Fits w64 u = record { fits = omega (arith, c.four_inside.ensures.1, c.four_inside-then-e-image.ensures.1) } in
    to_z-of_z {w = w64} (rw c.signed_of.ensures (to_z-Fits w64 u f)) ∙ c.signed_of.ensures ∙ rw (c.four_inside.ensures.0, c.four_inside-then-e-image.ensures.0)
    (ap (to_z w64) (sym (literal-bytes c.args.image.now c.args.p)))

pub returns : goal.returns
unfolding number_in
returns c =
    let u = c.four.result + 4294967296 * c.four-2.result in
    let f : Fits w64 u = record { fits = omega (arith, c.four.ensures.1, c.four-2.ensures.1) } in
    to_z-of_z {w = w64} (rw c.signed_of-2.ensures (to_z-Fits w64 u f)) ∙ c.signed_of-2.ensures ∙ rw (c.four.ensures.0, c.four-2.ensures.0)
    (ap (to_z w64) (sym (literal-bytes c.args.image.now c.args.p)))
