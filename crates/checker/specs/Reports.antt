-- Program: the bytes that `check` prints.
use mathlib.Core.List.{List, [], ◌∷◌, ◌++◌, flat_map}
use Rattle.std.proofs.Math.Option.{Option-elim}
use Rattle.std.specs.Prelude.{cond, ℕ, length, leb, ◌≡◌, None, Option, Some, Err, Ok}
use Rattle.layout.specs.Records.{records}
use Rattle.layout.specs.declared.Form.{Form}
use Rattle.sets.specs.Sets.{size}
use Rattle.program.specs.Program.{Version, Program, program}
use Rattle.rules.specs.Actions.{body_action}
use Rattle.writer.specs.Text.{text, decimal, placed}
use Rattle.checker.specs.Verdicts.{verdict_in, Verdict}
use Rattle.checker.specs.declared.Counts.{Counts}
use Rattle.checker.specs.declared.Line.{Line}

-- the counts of registers in each set of a version's body: R W U C
unfoldable pub counts : Program → Version → List ℕ
counts P v = Option-elim (body_action P v) [] (λ a. size a.R ∷ size a.W ∷ size a.U ∷ size a.C ∷ [])

-- counts, each behind a space
unfoldable pub spaced : List ℕ → List ℕ
spaced ns = flat_map (λ n. text " " ++ decimal n) ns

-- `f.v` and counts, as a line
unfoldable pub line_text : ℕ → ℕ → List ℕ → List ℕ
line_text f w ns = decimal f ++ text "." ++ decimal w ++ spaced ns ++ text "\n"

-- per version: f.v R W U C
unfoldable pub version_line : Program → Version → List ℕ
version_line P v = line_text v.function v.version (counts P v)

-- the lines of the versions vs of P, in order
abbrev pub version_lines : Program → Program → List ℕ
version_lines P vs = flat_map (version_line P) vs

-- only `refused n at p`
unfoldable pub refusal : ℕ → ℕ → List ℕ
refusal n p = text "refused " ++ decimal n ++ text " at " ++ decimal p ++ text "\n"

-- `accepted` and the number of versions behind the lines; or the refusal
unfoldable pub answer : Program → Verdict → List ℕ
answer P (Ok n) = version_lines P P ++ text "accepted " ++ decimal n ++ text "\n"
answer P (Err why) = refusal why.question why.at

-- Program: what `check` prints of an image in a form
unfoldable pub report_in : Form → List ℕ → List ℕ
report_in form s = answer (program (records s)) (verdict_in form s)

-- in the form in force, that of 64 bits
abbrev pub report_text : List ℕ → List ℕ
report_text s = report_in Form.Wide s

-- what is said of a text for a buffer of so many places
unfoldable pub reported_of : List ℕ → ℕ → Option ℕ
reported_of t places = cond (leb (length t) places) (Some (length t)) None

-- what is said of a text t and what becomes of the buffer: t stands in it from place 0 on, all else as it was; one that is too short is left as it was
pub record Told (r : Option ℕ) (before after t : List ℕ) : Type 0 where
  pub says : r ≡ reported_of t (length before)
  pub writes : after ≡ placed before 0 t

-- the counts of a line as the code has it; none where they are not known
unfoldable pub counts_of : Option Counts → List ℕ
counts_of (Some n) = n.reads ∷ n.assigns ∷ n.empties ∷ n.captures ∷ []
counts_of None = []

-- a line as the code has it, as text
unfoldable pub line_of : Line → List ℕ
line_of l = line_text l.function l.version (counts_of l.counts)
