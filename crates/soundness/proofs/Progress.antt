-- Progress and preservation in one: a part of a step is not stuck, and its result has what is asked.
use mathlib.Core.Path.{◌≡◌, refl}
use mathlib.Core.Bool.{Bool, true, false}
use Rattle.machine.specs.Try.{Try, got, stuck, stop, ◌>>=◌, ◌>>◌, stuck_unless, end_unless}
use Rattle.machine.specs.declared.End.{End}

unfoldable pub Good : {A : Type 0} → (A → Type 0) → Try A → Type 0
Good Q (got a) = Q a
Good Q stuck = ⊥
Good Q (stop e) = Unit {0}

pub good : {A : Type 0} (Q : A → Type 0) (t : Try A) (a : A) → t ≡ got a → Q a → Good Q t
unfolding Good
good Q t a e q = rw e q

-- the lines of a `do`
pub good-then : {A B : Type 0} (Q : B → Type 0) (R : A → Type 0) (t : Try A) (f : A → Try B) → Good R t → ((a : A) → R a → Good Q (f a)) → Good Q (t >>= f)
unfolding ◌>>=◌ Good
good-then Q R (got a) f h k = k a h
good-then Q R stuck f h k = absurd h
good-then Q R (stop e) f h k = tt

pub good-got : {A B : Type 0} (Q : B → Type 0) (t : Try A) (a : A) (f : A → Try B) → t ≡ got a → Good Q (f a) → Good Q (t >>= f)
unfolding ◌>>=◌
good-got Q t a f e g = rw e g

pub good-next : {A B : Type 0} (Q : B → Type 0) (t : Try A) (a : A) (u : Try B) → t ≡ got a → Good Q u → Good Q (t >> u)
unfolding ◌>>◌
good-next Q t a u e g = rw e g

pub good-end : {B : Type 0} (Q : B → Type 0) (e : End) (b : Bool) (u : Try B) → (b ≡ true → Good Q u) → Good Q (end_unless e b >> u)
unfolding ◌>>◌ end_unless Good
good-end Q e true u k = k refl
good-end Q e false u k = tt

pub good-test : {B : Type 0} (Q : B → Type 0) (b : Bool) (u : Try B) → b ≡ true → Good Q u → Good Q (stuck_unless b >> u)
unfolding ◌>>◌ stuck_unless
good-test Q b u e g = rw e g
