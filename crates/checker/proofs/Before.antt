-- Filling a register again (02, 9): an image that was accepted before is accepted, and `check` prints the same of it.
use Rattle.std.specs.Prelude.{None, Ok}
use mathlib.Core.Path.{◌≡◌, refl, sym, ap, ap₂, ◌∙◌}
use Rattle.layout.specs.Found.{Found}
use mathlib.Core.List.{List, [], ◌∷◌, ◌++◌, flat_map}
use mathlib.Core.Option.{Option, none, some}
use mathlib.Core.Bool.{Bool, true, true≢false}
use Prim.Native.Nat.{ℕ, ◌+◌}
use lib.ListN.{length}
use Rattle.layout.specs.Records.{records}
use Rattle.layout.specs.Tests.{found}
use Rattle.layout.specs.declared.Form.{Form}
use Rattle.sets.specs.Sets.{below}
use Rattle.program.specs.Program.{Line, Block, Version, Program, program}
use Rattle.program.specs.Search.{Question, first, first_block, first_line, free}
use Rattle.program.proofs.Laid.{passed}
use Rattle.rules.specs.Actions.{Action}
use Rattle.rules.specs.Flows.{flows, question10}
use Rattle.rules.specs.Before.{body_action₀, flows₀}
use Rattle.rules.proofs.Before.{still-does, still-flows}
use Rattle.writer.specs.Text.{text, decimal}
use Rattle.checker.specs.Verdicts.{ask, verdict_in, Verdict}
use Rattle.checker.specs.Before.{question10₀, verdict₀, counts₀, answer₀, report_text₀, StillAccepted, SameReport₀}
use Rattle.checker.specs.Reports.{counts, line_text, version_line, version_lines, answer, report_in}
use Rattle.checker.proofs.Asks.{asked, ask-yes}

-- a question to versions alone
abbrev of_versions : (Version → Bool) → Question
of_versions t = record { of_version = t; of_block = free; of_instr = free }

module _ (t : Version → Bool) (v : Version) where
  lines-pass : (n : ℕ) (ls : List Line) (more : Found) → first_line (of_versions t) v n ls more ≡ more
  unfolding first_line
  lines-pass n [] more = refl
  lines-pass n (l ∷ ls) more = lines-pass n ls more

  blocks-pass : (n : ℕ) (bs : List Block) (more : Found) → first_block (of_versions t) v n bs more ≡ more
  unfolding first_block
  blocks-pass n [] more = refl
  blocks-pass n (b ∷ bs) more = lines-pass n b.code (first_block (of_versions t) v (n + 1) bs more) ∙ blocks-pass (n + 1) bs more

-- where it finds nothing, it holds of the first version and finds nothing among the others
first_passes : (t : Version → Bool) (v : Version) (vs : Program) → first (of_versions t) (v ∷ vs) ≡ None → (t v ≡ true) × (first (of_versions t) vs ≡ None)
unfolding first
first_passes t v vs e =
    let p = passed (t v) (first_block (of_versions t) v 0 v.blocks (first (of_versions t) vs)) v.at e in
    (p.0, sym (blocks-pass t v 0 v.blocks (first (of_versions t) vs)) ∙ p.1)

module _ (P : Program) where
  still-nothing : (vs : Program) → first (question10₀ P) vs ≡ None → first (question10 P) vs ≡ None
  unfolding first
  still-nothing [] e = refl
  still-nothing (v ∷ vs) e =
      let p = first_passes (flows₀ P) v vs e in
      rw (still-flows P v p.0) (blocks-pass (flows P) v 0 v.blocks (first (question10 P) vs) ∙ still-nothing vs p.1)

  same-counts : (v : Version) → flows₀ P v ≡ true → counts₀ P v ≡ counts P v
  unfolding counts counts₀ flows₀ found
  same-counts v h = go (body_action₀ P v) refl h
    where
      go : (o : Option Action) → body_action₀ P v ≡ o → found o (λ (a : Action). below v.parameters a.R) ≡ true → counts₀ P v ≡ counts P v
      go none e q = absurd (true≢false (sym q))
      go (some a) e q = rw (e, still-does P v a e) refl

  same_lines : (vs : Program) → first (question10₀ P) vs ≡ None → flat_map (λ (v : Version). line_text v.function v.version (counts₀ P v)) vs ≡ version_lines P vs
  unfolding version_line flat_map
  same_lines [] e = refl
  same_lines (v ∷ vs) e =
      let p = first_passes (flows₀ P) v vs e in
      ap₂ ◌++◌ (ap (line_text v.function v.version) (same-counts v p.0)) (same_lines vs p.1)

-- what is accepted after one question is accepted after it with another continuation that accepts as much
ask-still : (n k : ℕ) (x : Found) {m m' : Verdict} → (m ≡ Ok k → m' ≡ Ok k) → ask n x m ≡ Ok k → ask n x m' ≡ Ok k
ask-still n k x {m} {m'} h e = let a = asked n x m k e in ask-yes n m' a.0 ∙ h a.1

-- THE LAW: an image that was accepted before is accepted, with as many versions
pub still-accepted : StillAccepted
unfolding StillAccepted verdict_in verdict₀
still-accepted form s k =
    ask-still 1 k _ (ask-still 2 k _ (ask-still 3 k _ (ask-still 4 k _ (ask-still 5 k _ (ask-still 6 k _ (ask-still 7 k _ (ask-still 14 k _ (ask-still 8 k _ (ask-still 18 k _ (ask-still 9 k _
    (λ e. let P = program (records s) in let a = asked 10 _ _ k e in ask-yes 10 (Ok (length P)) (still-nothing P P a.0) ∙ a.1)))))))))))

-- question 10 found nothing in such an image
ended : (form : Form) (s : List ℕ) (k : ℕ) → verdict₀ form s ≡ Ok k → first (question10₀ (program (records s))) (program (records s)) ≡ None
unfolding verdict₀
ended form s k e =
    let e1 = asked 1 _ _ k e in
    let e2 = asked 2 _ _ k e1.1 in
    let e3 = asked 3 _ _ k e2.1 in
    let e4 = asked 4 _ _ k e3.1 in
    let e5 = asked 5 _ _ k e4.1 in
    let e6 = asked 6 _ _ k e5.1 in
    let e7 = asked 7 _ _ k e6.1 in
    let e14 = asked 14 _ _ k e7.1 in
    let e8 = asked 8 _ _ k e14.1 in
    let e18 = asked 18 _ _ k e8.1 in
    let e9 = asked 9 _ _ k e18.1 in
    (asked 10 _ _ k e9.1).0

-- THE LAW: and `check` prints the same of it, the four counts of each version included
pub same-report : SameReport₀
unfolding SameReport₀ StillAccepted answer answer₀ report_in report_text₀
same-report s k e =
    let P = program (records s) in
    rw (e, still-accepted Form.Wide s k e) (ap (λ (t : List ℕ). t ++ text "accepted " ++ decimal k ++ text "\n") (same_lines P P (ended Form.Wide s k e)))
