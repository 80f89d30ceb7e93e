-- `layout::records::Fields`: the first field ahead, and the others.
use Rattle.std.proofs.Common.{rules, ◌∙◌, sym, ap, length, arith, ◌∷◌, ◌+◌, ◌-◌}
use Rattle.layout.specs.Records.{body_at, every}
use Rattle.layout.proofs.Fields.{every-next}
use Rattle.layout.proofs.records.FieldsIterator.next.Goals as goal

pub returns-then-self-eq0-clause-steps : goal.returns-then-self-eq0-clause-steps
unfolding every
returns-then-self-eq0-clause-steps c = let z = c.if-self-eq0.true in (rw z, rw z)

pub returns-clause-steps : goal.returns-clause-steps
returns-clause-steps c =
    let f = c.args.self.now in
    let b = body_at f.image.now f.place in
    every-next b f.next f.step f.many (omega (arith, c.if-self-eq0.false)) ∙ ap (λ x. x ∷ every b (f.next + f.step) f.step (f.many - 1)) (sym c.field.ensures.0)

pub returns-clause-goes : goal.returns-clause-goes
returns-clause-goes c =
    let f = c.args.self.now in
    let step = every-next (body_at f.image.now f.place) f.next f.step f.many (omega (arith, c.if-self-eq0.false)) in
    let shorter = ap length step in search rules
