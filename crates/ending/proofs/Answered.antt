-- What the end of a block answered, as the machine's definitions say it.
use mathlib.Core.Path.{◌≡◌, refl, sym, ap, subst, ◌∙◌}
use mathlib.Core.List.{List}
use Prim.Native.Nat.{ℕ, ◌-◌}
use lib.IntN.{ℤ}
use Rattle.layout.specs.Records.{◌!◌}
use Rattle.machine.specs.Try.{Try, got, stuck}
use Rattle.machine.specs.declared.Activation.{Activation}
use Rattle.machine.specs.declared.Opener.{Opener}
use Rattle.machine.specs.declared.State.{State}
use Rattle.store.specs.Store.{DEPTH, activation_in, state_in}
use Rattle.store.specs.Counts.{Ready}
use Rattle.frames.specs.Frames.{Forcing}
use Rattle.ending.specs.declared.Ended.{Ended}
use Rattle.ending.specs.Ends.{Comes, Left, Working, top_opener}

pub comes-stuck : {t : Try State} (b : List ℕ) (n : List ℤ) → t ≡ stuck → Comes Ended.Stuck t b n b n
unfolding Comes
comes-stuck b n e = (e, refl, refl)

pub comes_back : {t : Try State} (b : List ℕ) (n : List ℤ) (b' : List ℕ) (n' : List ℤ) → t ≡ got (state_in b' n') → Comes Ended.Back t b n b' n'
unfolding Comes
comes_back b n b' n' e = e

pub left-stuck : (b : List ℕ) (n : List ℤ) (c : List ℕ) → Ready b n c → Left Ended.Stuck b n c
unfolding Left
left-stuck b n c R = R

pub left_back : (b : List ℕ) (n : List ℤ) (c : List ℕ) → Ready b n c → Left Ended.Back b n c
unfolding Left
left_back b n c R = R

-- what another line of the definitions comes to
pub comes-by : (x : Ended) {t u : Try State} (b : List ℕ) (n : List ℤ) (b' : List ℕ) (n' : List ℤ) → t ≡ u → Comes x u b n b' n' → Comes x t b n b' n'
comes-by x b n b' n' e d = subst (λ t. Comes x t b n b' n') (sym e) d

-- the opener of the activation on top, by the numbers that a walk has in hand
module _ (b : List ℕ) {m : ℕ} {a : Activation} (x : m ≡ b ! DEPTH) (f : a ≡ activation_in b (m - 1)) where
  pub opener-is : {o : Opener} → a.opener ≡ o → top_opener b ≡ o
  opener-is e = ap (λ i. (activation_in b (i - 1)).opener) (sym x) ∙ ap (λ (a : Activation). a.opener) (sym f) ∙ e

  pub forcing-is : {k p : ℕ} → Working b k → a.opener ≡ Opener.Force p → Forcing b p
  forcing-is K e = record { depth = K.depth; low = K.low; opener = opener-is e }
