-- Question 6: the type bytes of a DISPATCH, and the records that have none.
use mathlib.Core.Path.{◌≡◌, refl, sym, ap, ◌∙◌}
use mathlib.Core.List.{List, [], ◌∷◌}
use mathlib.Core.Bool.{true}
use Prim.Native.Nat.{ℕ, ◌+◌, ◌≤◌}
use native.Mathlib.Nat.{zero-add}
use native.Mathlib.Omega.{arith}
use lib.ListN.{length}
use borrow.Author.Tests.{lt-ltb}
use Rattle.layout.specs.Kinds as kind
use Rattle.layout.specs.Tests.{◌and◌, all, all_from}
use Rattle.layout.specs.Records.{every}
use Rattle.layout.proofs.Fields.{length-every, all_map}
use Rattle.layout.proofs.Rows.{Rows, choose-each}
use Rattle.program.specs.Program.{Argument, Instr, arguments, instr_of, instr_by}
use Rattle.program.proofs.Forms.{argument-types}
use Rattle.rules.specs.Types.{parameter_type}
use Rattle.rules.specs.Questions.{type_allowed, types_allowed}

-- where all are parameters
all-parameters : (n i : ℕ) (l : List ℕ) → i + length l ≤ n → all_from (type_allowed n) i l ≡ all parameter_type l
unfolding all all_from type_allowed
all-parameters n i [] h = refl
all-parameters n i (t ∷ l) h = rw (lt-ltb i n (omega arith), all-parameters n (i + 1) l (omega arith))

-- the types of a DISPATCH's pairs are every second field
pub pair_types : {m : ℕ} (b : List ℕ) (k n : ℕ) → m ≡ n → all_from (type_allowed m) 0 (every b k 2 m) ≡ all (λ (a : Argument). parameter_type a.type) (arguments b k n)
pair_types {m} b k n e = rw e (all-parameters n 0 (every b k 2 n) (rw (length-every, zero-add) (omega arith)) ∙ sym (all_map parameter_type (λ (a : Argument). a.type) (arguments b k n) ∙ ap (all parameter_type) (argument-types b k n)))

-- only a DISPATCH has type bytes
pub no-types : (k : ℕ) (b : List ℕ) → (k ≡ kind.DISPATCH → ⊥) → types_allowed (instr_of k b) ≡ true
unfolding types_allowed instr_by Rows
no-types k b h = choose-each (λ (i : Instr). types_allowed i ≡ true) k _ _ refl
    (λ e. refl, (λ e. refl, (λ e. refl, (λ e. refl, (λ e. refl, (λ e. refl, (λ e. refl, (λ e. refl, (λ e. refl, (λ e. refl, (λ e. refl, (λ e. refl, (λ e. refl, (λ e. refl, (λ e. refl, (λ e. refl, (λ e. refl, (λ e. absurd (h e), (λ e. refl, tt)))))))))))))))))))
