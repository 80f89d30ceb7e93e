-- What the questions to a run come to.
use Rattle.std.specs.Prelude.{None, Some, Ok, Err, Result}
use mathlib.Core.Path.{◌≡◌, refl, sym, ap, ◌∙◌}
use Rattle.loaded.specs.Answers.{Number}
use mathlib.Core.List.{List}
use mathlib.Core.Option.{Option, none, some}
use mathlib.Core.Bool.{Bool, true, false, cond, true≢false}
use Prim.Native.Nat.{ℕ, ◌+◌, ◌*◌, ◌/◌, ◌%◌, ◌≤◌, ◌<◌}
use native.Mathlib.Omega.{arith}
use lib.IntN.{ℤ}
use lib.ListN.{length}
use lib.Dec.{eqb, leb}
use borrow.Author.Tests.{le-leb, lt-leb}
use Rattle.program.specs.Program.{Version, find_version, parameter_types}
use Rattle.machine.specs.States.{ITEMS}
use Rattle.machine.specs.Runs.{long_enough}
use Rattle.machine.specs.Begin.{Given, arguments, entered_of, refused, run_level, question11, question12, question13, question19}
use Rattle.machine.specs.declared.Begun.{Begun}
use Rattle.machine.specs.declared.State.{State}
use Rattle.loaded.specs.Loaded.{entry_in, numbered_in, program_in, version_in}
use Rattle.loaded.specs.Answers.{version_of}
use Rattle.loaded.proofs.Finding.{within}
use Rattle.begin.specs.Arguments.{given_to, is_given, those}
use Rattle.begin.specs.Asking.{Allows, Asks, begun_with}
use Rattle.begin.specs.declared.Entrance.{Entrance}

-- ---- question 13

question13-by : (s : State) (buffer : List ℤ) → question13 s buffer ≡ cond (leb ITEMS (length buffer)) (record { state = s; entry = Ok tt }) (refused 13 0)
unfolding question13 long_enough
question13-by s buffer = go (leb ITEMS (length buffer))
  where
    go : (b : Bool) → ◌≡◌ {A = Begun} (elim b [ true ↦ record { state = s; entry = Ok tt } | false ↦ refused 13 0 ]) (cond b (record { state = s; entry = Ok tt }) (refused 13 0))
    go true = refl
    go false = refl

-- ---- question 12

are-given : (o : Option (List Given)) → is_given o ≡ true → o ≡ some (those o)
unfolding is_given those
are-given none e = absurd (true≢false (sym e))
are-given (some xs) e = refl

none-given : (o : Option (List Given)) → is_given o ≡ false → o ≡ none
unfolding is_given
none-given none e = refl
none-given (some xs) e = absurd (true≢false e)

-- ---- question 19, then 12 and 13

module _ (k level : ℕ) (W : Version) (words buffer : List ℤ) {a : Bool} (e : a ≡ leb W.level (run_level level)) where
  pub above : a ≡ false → Allows (Err 19) k level W words buffer
  unfolding Allows question19
  above h = rw (← e, h, question19) refl

  module _ (l : a ≡ true) {g : Bool} (d : g ≡ is_given (arguments (parameter_types W) words)) where
    within_level : question19 level W words buffer ≡ question12 W (arguments (parameter_types W) words) buffer
    unfolding question19
    within_level = rw (← e, l, question19) refl

    pub not-given : g ≡ false → Allows (Err 12) k level W words buffer
    unfolding Allows question12
    not-given h = within_level ∙ rw (none-given (arguments (parameter_types W) words) (sym d ∙ h)) refl

    module _ (h : g ≡ true) where
      all-given : arguments (parameter_types W) words ≡ some (given_to W words)
      unfolding given_to
      all-given = are-given (arguments (parameter_types W) words) (sym d ∙ h)

      pub too_short : length buffer < ITEMS → Allows (Err 13) k level W words buffer
      unfolding Allows question12
      too_short r = within_level ∙ rw (all-given, question13-by _ buffer, lt-leb ITEMS (length buffer) r) refl

      pub entered : ITEMS ≤ length buffer → Allows (Ok k) k level W words buffer
      unfolding Allows question12 begun_with
      entered r = (refl, (within_level ∙ rw (all-given, question13-by _ buffer, le-leb ITEMS (length buffer) r) refl, all-given))

-- ---- question 11

module _ (s t : List ℕ) (e : Entrance) (words buffer : List ℤ) where
  pub no-entry : find_version (program_in s t) e.function e.version ≡ none → Asks (Err 11) s t e words buffer
  unfolding Asks entered_of question11
  no-entry h = rw h refl

  module _ {r : Number} (h : version_of s t r ≡ find_version (program_in s t) e.function e.version) where
    pub entry-missing : r ≡ None → Asks (Err 11) s t e words buffer
    unfolding version_of
    entry-missing q = no-entry (sym h ∙ ap (version_of s t) q)

    module _ (k : ℕ) (q : r ≡ Some k) (f : e.function < 32) (w : e.version < 4) where
      found : find_version (program_in s t) e.function e.version ≡ some (version_in s t k)
      unfolding version_of
      found = sym h ∙ ap (version_of s t) q

      -- the number is that of the entrance
      number : (k / 4 ≡ e.function) × (k % 4 ≡ e.version)
      unfolding numbered_in version_in
      number = go (eqb (entry_in t (4 * e.function + e.version)) 0) (sym (within s t e.function e.version f w) ∙ found)
        where
          go : (a : Bool) → cond a none (some (version_in s t (4 * e.function + e.version))) ≡ some (version_in s t k) → (k / 4 ≡ e.function) × (k % 4 ≡ e.version)
          go true x = let z : ◌≡◌ {A = ℕ} 0 1 = cc in absurd (omega arith)
          go false x =
              let y : version_in s t (4 * e.function + e.version) ≡ version_in s t k = cc in
              let a : (4 * e.function + e.version) / 4 ≡ k / 4 = ap (λ (W : Version). W.function) y in
              let b : (4 * e.function + e.version) % 4 ≡ k % 4 = ap (λ (W : Version). W.version) y in
              (omega (arith, a, w), omega (arith, b, w))

      pub entry_found : (a : Result ℕ ℕ) → Allows a k e.level (version_in s t k) words buffer → Asks a s t e words buffer
      unfolding Asks Allows entered_of question11
      entry_found (Err q) A = rw found A
      entry_found (Ok j) A = rw A.0 (number.0, number.1, found, (rw found A.1.0, A.1.1))
