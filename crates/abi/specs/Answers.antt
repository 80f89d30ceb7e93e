-- Answers as numbers, field by field as include/fir.h has them.
use Rattle.std.specs.Prelude.{cond, List, ℕ, ◌+◌, ◌*◌, eqb, ℤ, pos, Option, None, Some, Err, Ok, Result}
use Rattle.layout.specs.declared.Form.{Form}
use Rattle.machine.specs.Runs.{saying}
use Rattle.machine.specs.declared.Answer.{Answer}
use Rattle.machine.specs.declared.End.{End}
use Rattle.machine.specs.declared.Said.{Said}
use Rattle.machine.specs.declared.PoolSaid.{PoolSaid}
use Rattle.machine.specs.declared.Search.{Search}
use Rattle.mends.specs.declared.Mended.{Mended}
use Rattle.store.specs.Store.{state_in}
use Rattle.whereabouts.specs.declared.Where.{Where}
use Rattle.abi.specs.declared.answers.FirAnswer.{FirAnswer}
use Rattle.abi.specs.declared.answers.FirEntry.{FirEntry}
use Rattle.abi.specs.declared.answers.FirJoined.{FirJoined}
use Rattle.abi.specs.declared.answers.FirLoaded.{FirLoaded}
use Rattle.abi.specs.declared.answers.FirMended.{FirMended}
use Rattle.abi.specs.declared.answers.FirSaid.{FirSaid}
use Rattle.abi.specs.declared.answers.FirSearched.{FirSearched}
use Rattle.abi.specs.declared.answers.FirTurn.{FirTurn}
use Rattle.abi.specs.declared.answers.FirVerdict.{FirVerdict}
use Rattle.abi.specs.declared.answers.FirVersion.{FirVersion}
use Rattle.abi.specs.declared.answers.FirWatched.{FirWatched}
use Rattle.abi.specs.declared.answers.FirWhere.{FirWhere}
use Rattle.checker.specs.Verdicts.{Verdict}
use Rattle.joins.specs.declared.JoinError.{JoinError}
use Rattle.joins.specs.declared.JoinError.TheVariants.{First, Together, Second}
use Rattle.loaded.specs.declared.LoadError.{LoadError}
use Rattle.loaded.specs.declared.LoadError.TheVariants.{Short, Refused}
use Rattle.machine.specs.declared.Denial.{Denial}
use Rattle.machine.specs.Denials.{Grant}

-- a number, of versions, of bytes of the image in the other form or of rows of bounds, or the offset and the number of a refusal
unfoldable pub verdict_numbers : Verdict → FirVerdict
verdict_numbers (Ok n) = record { detail = n; question = 0 }
verdict_numbers (Err why) = record { detail = why.at; question = why.question }

-- a join: the length of the joined image, or the offset and the number of a refusal, and the image that it refuses: 1 the first, 2 the second, 0 neither
unfoldable pub joined_numbers : Result ℕ JoinError → FirJoined
joined_numbers (Ok n) = record { detail = n; question = 0; image = 0 }
joined_numbers (Err (First why)) = record { detail = why.at; question = why.question; image = 1 }
joined_numbers (Err (Second why)) = record { detail = why.at; question = why.question; image = 2 }
joined_numbers (Err (Together why)) = record { detail = why.at; question = why.question; image = 0 }

-- a load: 0 and the number of versions, 8 with a refusal's offset and number, or 9 and the bytes that the table needs
unfoldable pub loaded_numbers : Result ℕ LoadError → FirLoaded
loaded_numbers (Ok n) = record { detail = n; code = 0; question = 0 }
loaded_numbers (Err (Refused why)) = record { detail = why.at; code = 8; question = why.question }
loaded_numbers (Err (Short n)) = record { detail = n; code = 9; question = 0 }

-- a mend: the versions of an accepted image, or the offset and the number of a refusal; beside it 1 with the place of a byte and its new value, 2 where no byte mends, 0 where none is looked for
unfoldable pub mended_numbers : Mended → FirMended
mended_numbers (Mended.Accepted n) = record { detail = n; place = 0; question = 0; mend = 0; value = 0 }
mended_numbers (Mended.Refused why) = record { detail = why.at; place = 0; question = why.question; mend = 0; value = 0 }
mended_numbers (Mended.Byte why hit) = record { detail = why.at; place = hit.at; question = why.question; mend = 1; value = hit.value }
mended_numbers (Mended.Unmended why) = record { detail = why.at; place = 0; question = why.question; mend = 2; value = 0 }

-- the form that a number names: 1 that of 32 bits, any other that of 64
unfoldable pub form_of : ℕ → Form
form_of n = cond (eqb n 1) Form.Narrow Form.Wide

-- what is granted, an entry, a change, a step back, a pool that is made, or the offset and the number of a refusal
unfoldable pub grant_numbers : Grant → FirEntry
grant_numbers (Ok _) = record { offset = 0; question = 0 }
grant_numbers (Err why) = record { offset = why.at; question = why.question }

-- a search: 1, how many versions it looks at and how many there are; all 0 where there is none
unfoldable pub search_numbers : Search → FirSearched
search_numbers Search.Elsewhere = record { dispatch = 0; looked = 0; versions = 0 }
search_numbers (Search.Looked looked versions) = record { dispatch = 1; looked = looked; versions = versions }

-- where a state stands: 0 nowhere, 1 at an instruction, 2 at a block end; all else 0 where it stands nowhere
unfoldable pub where_numbers : Option Where → FirWhere
where_numbers None = record { offset = 0; kind = 0; function = 0; version = 0; block = 0; instruction = 0 }
where_numbers (Some (Where.Instruction f v b n p)) = record { offset = p; kind = 1; function = f; version = v; block = b; instruction = n }
where_numbers (Some (Where.BlockEnd f v b n p)) = record { offset = p; kind = 2; function = f; version = v; block = b; instruction = n }

-- watching: how many records were filled, or the number of a refusal, whose offset is always 0
unfoldable pub watched_numbers : Result ℕ Denial → FirWatched
watched_numbers (Ok n) = record { filled = n; question = 0 }
watched_numbers (Err why) = record { filled = 0; question = why.question }

-- the number of the interface, and that of the layout of a stored state; each goes up where a program that was made for it could not go on
unfoldable pub version_numbers : FirVersion
version_numbers = record { interface = 2; state = 2 }

-- ---- steps

-- an end: DONE with an integer, DONE with a vector of that length, UNDEF and the three stops
unfoldable pub end_numbers : End → FirSaid
end_numbers (End.Integer z) = record { value = z; code = 1; length = 0 }
end_numbers (End.Vector n) = record { value = pos 0; code = 2; length = n }
end_numbers End.Undef = record { value = pos 0; code = 3; length = 0 }
end_numbers End.Deep = record { value = pos 0; code = 4; length = 0 }
end_numbers End.Vectors = record { value = pos 0; code = 5; length = 0 }
end_numbers End.Promises = record { value = pos 0; code = 6; length = 0 }

-- a code without value and length: 0 goes on, 7 stuck
unfoldable pub plain_numbers : ℕ → FirSaid
plain_numbers code = record { value = pos 0; code = code; length = 0 }

-- a single step: 0 goes on, 1 to 6 an end, 7 stuck
unfoldable pub said_numbers : Said → FirSaid
said_numbers Said.GoesOn = plain_numbers 0
said_numbers (Said.Ended e) = end_numbers e
said_numbers Said.Stuck = plain_numbers 7

-- what the status of a state says, by its bytes and numbers
unfoldable pub end_in : List ℕ → List ℤ → FirSaid
end_in b n = said_numbers (saying (state_in b n).status)

-- the answer that says so much, after so many steps
unfoldable pub answer_with : FirSaid → ℕ → FirAnswer
answer_with w n = record { steps = n; value = w.value; offset = 0; code = w.code; length = w.length; question = 0 }

-- a budget with the steps taken under it: 0 STEPS, 1 to 6 an end, 7 stuck, 8 refused
unfoldable pub answer_numbers : Answer → ℕ → FirAnswer
answer_numbers (Answer.Refused q p) n = record { steps = n; value = pos 0; offset = p; code = 8; length = 0; question = q }
answer_numbers Answer.Steps n = answer_with (said_numbers Said.GoesOn) n
answer_numbers (Answer.Ended e) n = answer_with (said_numbers (Said.Ended e)) n
answer_numbers Answer.Stuck n = answer_with (said_numbers Said.Stuck) n

-- ---- in a pool

-- the turn that says so much
unfoldable pub turn_with : FirSaid → FirTurn
turn_with w = record { value = w.value; offset = 0; code = w.code; length = w.length; question = 0 }

-- a single step in a pool: 0 goes on, 1 to 6 an end, 7 stuck, 8 refused
unfoldable pub turn_numbers : PoolSaid → FirTurn
turn_numbers (PoolSaid.Refused q p) = record { value = pos 0; offset = p; code = 8; length = 0; question = q }
turn_numbers PoolSaid.GoesOn = turn_with (said_numbers Said.GoesOn)
turn_numbers (PoolSaid.Ended e) = turn_with (said_numbers (Said.Ended e))
turn_numbers PoolSaid.Stuck = turn_with (said_numbers Said.Stuck)

-- ---- the memory of a state

-- its bytes: 2,129 numbers of eight, and 2,632
abbrev pub state_size : ℕ
state_size = 8 * 2129 + 2632

-- that of its widest field
abbrev pub state_alignment : ℕ
state_alignment = 8
