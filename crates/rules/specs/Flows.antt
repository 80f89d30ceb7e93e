-- Question 10: does flow hold?
use Rattle.std.specs.Prelude.{Bool}
use Rattle.layout.specs.Tests.{found}
use Rattle.sets.specs.Sets.{below}
use Rattle.program.specs.Program.{Version, Program}
use Rattle.program.specs.Search.{Question, free}
use Rattle.rules.specs.Actions.{body_action}

-- 10: does flow hold, with the body's R within the parameters?
unfoldable pub flows : Program → Version → Bool
flows P v = found (body_action P v) (λ a. below v.parameters a.R)

-- 10, as a question to the program (at the VERSION)
abbrev pub question10 : Program → Question
question10 P = record { of_version = flows P; of_block = free; of_instr = free }
