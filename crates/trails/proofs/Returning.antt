-- A step back, by what lies behind: refused, or one step less from the start.
use Rattle.std.specs.Prelude.{Err, Ok}
use mathlib.Core.Path.{◌≡◌, refl, sym, ap, ◌∙◌}
use mathlib.Core.List.{List}
use Prim.Native.Nat.{ℕ, zero, suc, ◌-◌, ◌≤◌}
use native.Mathlib.Omega.{arith}
use lib.IntN.{ℤ}
use Rattle.program.specs.Program.{Program}
use Rattle.machine.specs.Trails.{REACH, back_by, back_of, behind_by, refused20}
use Rattle.machine.specs.declared.Behind.{Behind}
use Rattle.machine.specs.declared.Ran.{Ran as Outcome}
use Rattle.machine.specs.declared.Returned.{Returned}
use Rattle.machine.specs.declared.State.{State}
use Rattle.machine.specs.declared.Trail.{Trail}
use Rattle.store.specs.Store.{state_in}
use Rattle.runs.proofs.Backs.{within-reach}
use Rattle.running.specs.Budgets.{Resumes}
use Rattle.running.specs.declared.Counted.{Counted}
use Rattle.trails.specs.Arrays.{Returns, trail_in}
use Rattle.trails.proofs.Counting.{beyond, within}
use Rattle.machine.specs.Denials.{denied}

one_less : (s : ℕ) → (s ≡ 0 → ⊥) → s ≡ suc (s - 1)
one_less zero l = absurd (l refl)
one_less (suc m) l = omega arith

module _ (P : Program) (b₀ : List ℕ) (n₀ : List ℤ) (s p : ℕ) (b : List ℕ) (n : List ℤ) where
  abbrev before : Trail
  before = trail_in b₀ n₀ s p b n

  refused : back_of P before ≡ refused20 before → Returns (Err (denied 20 0)) P b₀ n₀ s p b n s b n
  refused e = record { back = e; refused = λ _ _ _. (refl, refl, refl) }

  pub back-past : (p ≡ 0 → ⊥) → Returns (Err (denied 20 0)) P b₀ n₀ s p b n s b n
  unfolding back_of back_by
  back-past h = refused (ap (back_by P before) (beyond s p h))

  pub back_none : p ≡ 0 → s ≡ 0 → Returns (Err (denied 20 0)) P b₀ n₀ s p b n s b n
  unfolding back_of back_by
  back_none z e = refused (ap (back_by P before) (within s p z ∙ ap behind_by e ∙ within-reach 0 (omega arith)))

  pub back-taken : (r : Counted) (b' : List ℕ) (n' : List ℤ) → p ≡ 0 → (s ≡ 0 → ⊥) → s ≤ REACH → Resumes r P b₀ n₀ b' n' (s - 1) → Returns (Ok tt) P b₀ n₀ s p b n (s - 1) b' n'
  unfolding back_of back_by
  back-taken r b' n' z l k h = record {
    back = ap (back_by P before) (within s p z ∙ within-reach s k ∙ ap Behind.Steps (one_less s l)) ∙ there (ap (λ (x : Outcome). x.state) h.ran) (sym (within (s - 1) p z ∙ within-reach (s - 1) (omega (arith, k))));
    refused = λ q o g. let z : ◌≡◌ {A = ℕ} 0 1 = cc in absurd (omega arith);
  }
    where
      there : {t u : State} {x y : Behind} → t ≡ u → x ≡ y → ◌≡◌ {A = Returned} (record { trail = record { start = state_in b₀ n₀; behind = x; state = t }; back = Ok tt }) (record { trail = record { start = state_in b₀ n₀; behind = y; state = u }; back = Ok tt })
      there f g = λ i. record { trail = record { start = state_in b₀ n₀; behind = g i; state = f i }; back = Ok tt }
