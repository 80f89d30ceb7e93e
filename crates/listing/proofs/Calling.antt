-- CALL and DISPATCH, by the version that they call.
use mathlib.Core.Path.{◌≡◌, refl, ap}
use mathlib.Core.List.{List}
use mathlib.Core.Bool.{Bool, true, false}
use Prim.Native.Nat.{ℕ}
use Rattle.program.specs.Program.{Argument, Program, Version, CALL, DISPATCH, find_version, parameter_types}
use Rattle.machine.specs.Try.{Try, got, stuck, stop, ◌>>=◌, ◌>>◌, each, or_stuck, stuck_unless}
use Rattle.machine.specs.Calls.{enter, matching, picked}
use Rattle.machine.specs.States.{kind_in, value}
use Rattle.machine.specs.Steps.{execute, execute_to, registers_of}
use Rattle.machine.specs.declared.End.{End}
use Rattle.machine.specs.declared.Frame.{Frame}
use Rattle.machine.specs.declared.State.{State}
use Rattle.machine.specs.declared.Value.{Value}
use Rattle.listing.specs.Entering.{called_in, calling, entered, picked_in}

-- ---- the version that is called

module _ {t : Try Version} (s : State) (k : ℕ) (f : Frame) (d : ℕ) (rs : List ℕ) where
  pub calls-it : {X : Version} → t ≡ got X → calling t s k f d rs ≡ entered s k f d X rs
  unfolding ◌>>=◌
  calls-it e = ap (λ (u : Try Version). calling u s k f d rs) e

  pub calls-none : t ≡ stuck → calling t s k f d rs ≡ stuck
  unfolding ◌>>=◌
  calls-none e = rw e refl

  pub calls-undef : t ≡ stop End.Undef → calling t s k f d rs ≡ stop End.Undef
  unfolding ◌>>=◌
  calls-undef e = rw e refl

-- ---- the instructions

module _ (P : Program) (W : Version) (s : State) (k : ℕ) (f : Frame) (d g : ℕ) where
  pub call_by : (w : ℕ) (rs : List ℕ) → execute P s k f W (CALL d g w rs) ≡ calling (called_in P s f g w rs) s k f d rs
  unfolding execute_to called_in ◌>>=◌ ◌>>◌ stuck_unless
  call_by w rs = go (or_stuck (find_version P g w)) (each (value f) rs)
    where
      fits : (X : Version) (vs : List Value) (b : Bool) → (stuck_unless b >> enter s k d X rs vs) ≡ ((stuck_unless b >> got X) >>= λ X. enter s k d X rs vs)
      fits X vs true = refl
      fits X vs false = refl

      kinds : (X : Version) (vs : List Value) (o : Try (List ℕ)) → (o >>= λ ks. stuck_unless (matching ks (parameter_types X)) >> enter s k d X rs vs) ≡
          ((o >>= λ ks. stuck_unless (matching ks (parameter_types X)) >> got X) >>= λ X. enter s k d X rs vs)
      kinds X vs (got ks) = fits X vs (matching ks (parameter_types X))
      kinds X vs stuck = refl
      kinds X vs (stop e) = refl

      go : (o : Try Version) (u : Try (List Value))
          → (o >>= λ X. u >>= λ vs. each (kind_in P s) vs >>= λ ks. stuck_unless (matching ks (parameter_types X)) >> enter s k d X rs vs)
          ≡ ((o >>= λ X. u >>= λ vs. each (kind_in P s) vs >>= λ ks. stuck_unless (matching ks (parameter_types X)) >> got X) >>= λ X. u >>= enter s k d X rs)
      go (got X) (got vs) = kinds X vs (each (kind_in P s) vs)
      go (got X) stuck = refl
      go (got X) (stop e) = refl
      go stuck u = refl
      go (stop e) u = refl

  pub dispatch-by : (mark ret : ℕ) (pairs : List Argument) → execute P s k f W (DISPATCH d g mark ret pairs) ≡ calling (picked_in P s f W.level g mark ret pairs) s k f d
      (registers_of pairs)
  unfolding execute_to picked_in ◌>>=◌
  dispatch-by mark ret pairs = go (each (value f) (registers_of pairs))
    where
      kinds : (vs : List Value) (o : Try (List ℕ)) → (o >>= λ ks. picked P W.level g mark ret pairs ks >>= λ X. enter s k d X (registers_of pairs) vs) ≡
          ((o >>= λ ks. picked P W.level g mark ret pairs ks) >>= λ X. enter s k d X (registers_of pairs) vs)
      kinds vs (got ks) = refl
      kinds vs stuck = refl
      kinds vs (stop e) = refl

      go : (u : Try (List Value))
          → (u >>= λ vs. each (kind_in P s) vs >>= λ ks. picked P W.level g mark ret pairs ks >>= λ X. enter s k d X (registers_of pairs) vs)
          ≡ ((u >>= λ vs. each (kind_in P s) vs >>= λ ks. picked P W.level g mark ret pairs ks) >>= λ X. u >>= enter s k d X (registers_of pairs))
      go (got vs) = kinds vs (each (kind_in P s) vs)
      go stuck = refl
      go (stop e) = refl
