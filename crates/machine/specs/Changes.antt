-- 02, 3: a state goes on under a newly accepted image where every version with a live frame has the same bytes and number in both.
use Rattle.std.specs.Prelude.{List, [], ◌∷◌, Bool, true, false, cond, not, ◌||◌, ℕ, ◌-◌, length, drop, take, eqb, None, Some, Err, Ok}
use Rattle.layout.specs.Found.{Found}
use Rattle.std.proofs.Math.Option.{Option, none, some}
use Rattle.layout.specs.Tests.{◌and◌, all, any, found}
use Rattle.program.specs.Program.{Version, Program, find_version}
use Rattle.program.specs.Search.{Question, free, first}
use Rattle.checker.specs.Verdicts.{verdict_of, Verdict}
use Rattle.machine.specs.States.{live_frames}
use Rattle.machine.specs.Begin.{program_of}
use Rattle.machine.specs.declared.Frame.{Frame}
use Rattle.machine.specs.declared.State.{State}
use Rattle.machine.specs.Denials.{Grant, denied}

-- ---- the bytes of a version

-- where the first of these versions stands, or the end where there is none
unfoldable pub start_of : ℕ → Program → ℕ
start_of end [] = end
start_of end (v ∷ vs) = v.at

-- the bytes of an image from the offset a up to the offset e
unfoldable pub slice : List ℕ → ℕ → ℕ → List ℕ
slice image a e = take (e - a) (drop a image)

-- of the version v, which these versions follow: its record, level, blocks and instructions, up to the next version or the image's end
abbrev pub bytes_at : List ℕ → Version → Program → List ℕ
bytes_at image v vs = slice image v.at (start_of (length image) vs)

-- those of the version w of the function f, among these versions of the image
unfoldable pub bytes_in : List ℕ → Program → ℕ → ℕ → Option (List ℕ)
bytes_in image [] f w = none
bytes_in image (v ∷ vs) f w = cond (eqb v.function f and eqb v.version w) (some (bytes_at image v vs)) (bytes_in image vs f w)

-- those of the image
abbrev pub bytes_of : List ℕ → ℕ → ℕ → Option (List ℕ)
bytes_of image f w = bytes_in image (program_of image) f w

-- byte by byte the same
unfoldable pub same_bytes : List ℕ → List ℕ → Bool
same_bytes [] [] = true
same_bytes [] (y ∷ ys) = false
same_bytes (x ∷ xs) [] = false
same_bytes (x ∷ xs) (y ∷ ys) = eqb x y and same_bytes xs ys

-- ---- 15

-- has the version w of the function f a live frame?
unfoldable pub is_live : State → ℕ → ℕ → Bool
is_live s f w = any (λ (k : Frame). eqb k.function f and eqb k.version w) (live_frames s)

-- has the version w of the function f the same bytes in both images?
unfoldable pub same_in : List ℕ → List ℕ → ℕ → ℕ → Bool
same_in old new f w = found (bytes_of old f w) (λ b. found (bytes_of new f w) (same_bytes b))

-- 15, as a question to the new program (at the VERSION): a version with a live frame has the same bytes in both
abbrev pub question15 : List ℕ → List ℕ → State → Question
question15 old new s = record { of_version = λ v. not (is_live s v.function v.version) || same_in old new v.function v.version; of_block = free; of_instr = free }

-- every live call's version is one of the program
unfoldable pub all_there : Program → State → Bool
all_there P s = all (λ (k : Frame). found (find_version P k.function k.version) (λ v. true)) (live_frames s)

-- at the image's length where none differs and one is missing
unfoldable pub missing : List ℕ → State → Found → Found
missing new s (Some p) = Some p
missing new s None = cond (all_there (program_of new) s) None (Some (length new))

-- 15: is every version with a live frame the same in both images? The first that differs, or the length where one is missing
unfoldable pub answer15 : List ℕ → List ℕ → State → Found
answer15 old new s = missing new s (first (question15 old new s) (program_of new))

-- ---- the change

-- a no gives 15 and its offset
unfoldable pub changed_by : Found → Grant
changed_by None = Ok tt
changed_by (Some p) = Err (denied 15 p)

-- after the questions to the new image
unfoldable pub change_after : Verdict → List ℕ → List ℕ → State → Grant
change_after (Err why) old new s = Err (denied why.question why.at)
change_after (Ok n) old new s = changed_by (answer15 old new s)

-- 02, 3: from the old image to the new one, in the state s, which is carried over whole
unfoldable pub change_of : List ℕ → List ℕ → State → Grant
change_of old new s = change_after (verdict_of new) old new s
