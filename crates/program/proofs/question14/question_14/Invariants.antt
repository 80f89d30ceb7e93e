-- `program::question14::question_14`: one turn for each record, with the ends ahead kept as a mask.
use Rattle.std.specs.Prelude.{◌≡◌, ℕ}
use Rattle.layout.proofs.Walk.{Along}
use Rattle.layout.specs.Left.{left, spots}
use Rattle.layout.specs.Questions.{nothing}
use Rattle.layout.specs.Records.{records}
use Rattle.program.specs.Skips.{PLACES, ends_after, ends_within, question14, ends_of}
use Rattle.program.proofs.question14.question_14.Given as goal

abbrev pub invariant-loop-record : goal.invariant-loop-record
invariant-loop-record l =
    goal.iterator-loop-record.can_next l.record-iterator
    × goal.iterator-loop-record.is_finite l.record-iterator
    × ((p : ℕ) × (left l.record-iterator ≡ spots l.image p)
    × Along ends_within ends_after nothing (question14 (records l.image)) l.image p (ends_of PLACES l.ends.digits))
