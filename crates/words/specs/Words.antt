-- Words for the number of a question that refuses, and for the code of an answer, as the C interface gives them.
use Rattle.std.specs.Prelude.{List, [], ◌∷◌, cond, ℕ, leb, length}
use Rattle.layout.specs.Records.{choose}
use Rattle.writer.specs.Text.{text}

-- how many places of a buffer with this room a text takes: all of it, or none where it does not fit
unfoldable pub written_of : List ℕ → ℕ → ℕ
written_of t room = cond (leb (length t) room) (length t) 0

-- what a refusal by a question of 01 or 02 says
unfoldable pub question_text : ℕ → List ℕ
question_text n = choose n [] (
    (0, text "accepted") ∷
    (1, text "the image is empty or has more than 32768 bytes") ∷
    (2, text "a record has no full head, a length below 4, or an end behind the image") ∷
    (3, text "a kind is not known, or a length is not the one that its fields make") ∷
    (4, text "a number, count, level, mark, op or n is out of bounds, or a record is missing or out of order") ∷
    (5, text "the first version is not 0.0, or a version does not follow on the one before it") ∷
    (6, text "a type byte is not allowed at its place") ∷
    (7, text "something named does not exist, or a block is not named by exactly one PROM") ∷
    (8, text "types do not fit") ∷
    (9, text "a block's mark does not cover its effect") ∷
    (10, text "a register may be empty where it is read, emptied or captured, or is emptied after a capture") ∷
    (11, text "the entry does not exist") ∷
    (12, text "the argument words do not match the parameters, or some are left over") ∷
    (13, text "the result buffer has fewer than 16 places") ∷
    (14, text "a SKIP goes past the end of its block, or of a skipped part that it stands in") ∷
    (15, text "a version with a live call differs in the new image, or is missing there") ∷
    (16, text "a literal does not fit 32 bits") ∷
    (17, text "the moved image has more than 32768 bytes or does not fit the buffer") ∷
    (18, text "a CALL goes to a version of a higher level") ∷
    (19, text "the entry is above the level of the run") ∷
    (20, text "no step lies behind") ∷
    (21, text "the reserves of a pool sum above 64, or the number of a run is above 7") ∷
    (22, text "the list of records is too short") ∷
    (23, text "the joined image would break a bound of the layout, or does not fit the buffer") ∷ [])

-- what the code of an answer to a step or a budget says
unfoldable pub answer_text : ℕ → List ℕ
answer_text n = choose n [] (
    (0, text "the run goes on") ∷
    (1, text "DONE with an integer") ∷
    (2, text "DONE with a vector") ∷
    (3, text "UNDEF: an operation has no result") ∷
    (4, text "DEEP: a 33rd activation is needed") ∷
    (5, text "VECTORS: a 65th vector is needed, or one more than a pool gives") ∷
    (6, text "PROMISES: a 65th promise is needed") ∷
    (7, text "stuck: the state is none of a run of this image") ∷
    (8, text "refused") ∷ [])
