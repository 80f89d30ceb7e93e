-- What beginning leaves, by what was asked.
use Rattle.std.specs.Prelude.{Ok, Err, Result}
use mathlib.Core.Path.{◌≡◌, refl, sym, ap, ◌∙◌}
use mathlib.Core.List.{List}
use mathlib.Core.Option.{some}
use Prim.Native.Nat.{ℕ, ◌/◌, ◌%◌}
use lib.IntN.{ℤ}
use Rattle.machine.specs.Begin.{Given, arguments, refused}
use Rattle.machine.specs.declared.Begun.{Begun}
use Rattle.loaded.specs.Loaded.{program_in, version_in}
use Rattle.store.specs.Store.{state_in}
use Rattle.begin.specs.Arguments.{arguments_in, given_by, given_to}
use Rattle.begin.specs.Arrays.{first_bytes, first_numbers}
use Rattle.begin.specs.Asking.{Asks, Begins, begun_with, entered_at}
use Rattle.begin.specs.declared.Entrance.{Entrance}
use Rattle.begin.proofs.Firsts.{first-state}
use Rattle.machine.specs.Denials.{denied}

module _ (s t : List ℕ) (e : Entrance) (words buffer : List ℤ) (b : List ℕ) (n : List ℤ) {a : Result ℕ ℕ} (A : Asks a s t e words buffer) where
  -- a refusal writes nothing
  pub refusal : {q : ℕ} → a ≡ Err q → (Err (denied q 0) ≡ (entered_at (program_in s t) e words buffer).entry) × Begins (Err (denied q 0)) (program_in s t) e words buffer b n b n
  unfolding Asks Begins refused
  refusal h = let x = rw h at A in (sym (ap (λ (r : Begun). r.entry) x), (refl, refl))

  -- a run that is entered has its first arrays
  pub beginning : {k : ℕ} → a ≡ Ok k → {b' : List ℕ} {n' : List ℤ} → ((ts : List ℕ) (xs : List Given) → arguments ts words ≡ some xs → (b' ≡ first_bytes (k / 4) (k % 4) xs) × (n' ≡ first_numbers xs))
      → (Ok tt ≡ (entered_at (program_in s t) e words buffer).entry) × Begins (Ok tt) (program_in s t) e words buffer b n b' n'
  unfolding Asks Begins begun_with given_by version_in
  beginning {k} h {b'} {n'} w =
      let x = rw h at A in
      let y = w _ _ x.3.1 in
      let z = first-state (version_in s t k) (given_to (version_in s t k) words) in
      let given : given_to (version_in s t k) words ≡ arguments_in (program_in s t) e.function e.version words = ap (λ o. given_by o words) (sym x.2) in
      let bytes : first_bytes (k / 4) (k % 4) (given_to (version_in s t k) words) ≡ first_bytes e.function e.version (arguments_in (program_in s t) e.function e.version words) = λ i. first_bytes (x.0 i) (x.1 i) (given i) in
      let state : state_in b' n' ≡ (begun_with (version_in s t k) (given_to (version_in s t k) words)).state = rw (y.0, y.1) z in
      (sym (ap (λ (r : Begun). r.entry) x.3.0), (state ∙ sym (ap (λ (r : Begun). r.state) x.3.0), y.0 ∙ bytes, y.1 ∙ ap first_numbers given))
