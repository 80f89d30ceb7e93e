use Rattle.std.proofs.Common.{rules, ◌≡◌, ◌∙◌, ap, refl}
use Rattle.std.specs.Result.{result_err}
use Rattle.std.specs.Prelude.{List, Bool, true, false, Option, None, Some, ℕ, cond, eqb, ◌||◌, not}
use Rattle.std.specs.Option.{option_map}
use Rattle.std.proofs.Math.Option.{some}
use Rattle.layout.specs.Found.{Found}
use Rattle.layout.specs.Tests.{◌and◌}
use Rattle.layout.specs.Kinds as kind
use Rattle.layout.specs.Records.{Rec, ◌!◌, rec_at, kind_at, body_at}
use Rattle.layout.specs.Questions.{question5, following, follows, last_version}
use Rattle.layout.specs.Turns.{last_at}
use Rattle.layout.proofs.Along.{err-along, keeps-place, judged}
use Rattle.layout.proofs.question_5.Goals as goal

kept : (s : List ℕ) (v b : Bool) (st : Found) (q : ℕ) → cond (not v || b) (Some (cond v (some (rec_at s q)) (last_at s st))) None ≡ option_map (last_at s) (cond v (cond b (Some (Some q)) None) (Some st))
unfolding last_at
kept s true true st q = refl
kept s true false st q = refl
kept s false b st q = refl

pub returns : goal.returns
unfolding question5 last_at
returns c =
    let s = c.args.image.now in
    let turn : Option ℕ → Rec → Option (Option ℕ) = λ last r. cond (eqb r.kind kind.VERSION) (cond (follows (last_at s last) (r.body ! 0) (r.body ! 1)) (Some (Some r.at)) None) (Some last) in
    c.err.ensures.value ∙ ap result_err (c.along.ensures turn (λ st at r h e. search rules))
    ∙ keeps-place (last_at s) turn (judged following last_version) s (λ st q. kept s (eqb (kind_at s q) kind.VERSION) (follows (last_at s st) (body_at s q ! 0) (body_at s q ! 1)) st q) None ∙ err-along following last_version _ _
