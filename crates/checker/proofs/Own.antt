-- Questions and report are the same with the program that an image's own form makes.
use mathlib.Core.Path.{◌≡◌, refl}
use mathlib.Core.List.{map}
use Rattle.layout.specs.Records.{records}
use Rattle.layout.specs.declared.Form.{Form}
use Rattle.program.specs.Program.{program, program_by}
use Rattle.rules.proofs.Literals.{bare, forms-bare, bare-shape, bare-length, bare-6, bare-7, bare-8, bare-18, bare-9, bare-10}
use Rattle.checker.specs.Verdicts.{verdict_in}
use Rattle.checker.specs.Reports.{report_in}
use Rattle.checker.specs.Claims.{verdict_by, OwnProgram, OwnReport}
use Rattle.checker.proofs.Alike.{answer-shape}

pub own-program : OwnProgram
unfolding OwnProgram verdict_in verdict_by
own-program form s =
    let P = program (records s) in
    let Q = program_by form (records s) in
    let e : map bare P ≡ map bare Q = forms-bare Form.Wide form (records s) in
    rw (bare-6 P Q e, bare-7 P Q e, bare-8 P Q e, bare-18 P Q e, bare-9 P Q e, bare-10 P Q e, bare-length P Q e) refl

pub own-report : OwnReport
unfolding OwnReport OwnProgram report_in
own-report form s =
    let P = program (records s) in
    let Q = program_by form (records s) in
    rw (own-program form s) (answer-shape P Q (bare-shape P Q (forms-bare Form.Wide form (records s))) (verdict_by form s))
