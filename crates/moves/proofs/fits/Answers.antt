-- `moves::fits`: the bytes above the low four are compared with the sign, one after the other.
use mathlib.Core.Path.{sym, ap, ◌∙◌}
use Rattle.layout.specs.Forms.{sign_byte}
use Rattle.layout.proofs.Printed.{body_bytes}
use Rattle.moves.proofs.Numbers.{fit-last, unfit}
use Rattle.moves.proofs.fits.Goals as goal

pub returns-then-field-sign : goal.returns-then-field-sign
returns-then-field-sign c =
    let s = c.wide-sign.ensures.0 ∙ c.sign_byte.ensures ∙ ap sign_byte c.field.ensures.0 in
    unfit _ (body_bytes c.args.image.now c.args.p (λ i. (c.shared_slice_known-1.given i).fits)) (λ z. c.if-field-sign.true (c.field-2.ensures.0 ∙ z.0 ∙ sym s))

pub returns-then-field-sign-2 : goal.returns-then-field-sign-2
returns-then-field-sign-2 c =
    let s = c.wide-sign.ensures.0 ∙ c.sign_byte.ensures ∙ ap sign_byte c.field.ensures.0 in
    unfit _ (body_bytes c.args.image.now c.args.p (λ i. (c.shared_slice_known-1.given i).fits)) (λ z. c.if-field-sign-2.true (c.field-3.ensures.0 ∙ z.1 ∙ sym s))

pub returns-then-field-sign-3 : goal.returns-then-field-sign-3
returns-then-field-sign-3 c =
    let s = c.wide-sign.ensures.0 ∙ c.sign_byte.ensures ∙ ap sign_byte c.field.ensures.0 in
    unfit _ (body_bytes c.args.image.now c.args.p (λ i. (c.shared_slice_known-1.given i).fits)) (λ z. c.if-field-sign-3.true (c.field-4.ensures.0 ∙ z.2 ∙ sym s))

pub returns : goal.returns
returns c =
    let s = c.wide-sign.ensures.0 ∙ c.sign_byte.ensures ∙ ap sign_byte c.field.ensures.0 in
    rw (s, c.field-5.ensures.0)
    (fit-last _ (body_bytes c.args.image.now c.args.p (λ i. (c.shared_slice_known-1.given i).fits)) (sym c.field-2.ensures.0 ∙ c.if-field-sign.false ∙ s) (sym c.field-3.ensures.0 ∙ c.if-field-sign-2.false ∙ s) (sym c.field-4.ensures.0 ∙ c.if-field-sign-3.false ∙ s))
