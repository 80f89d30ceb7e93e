-- What reading the arguments answers.
use Rattle.std.specs.Prelude.{List, [], Bool, true, false, ℕ, ℤ, length, None, Some, Option as Optional}
use Rattle.std.proofs.Math.Option.{Option, none, some}
use Rattle.program.specs.Program.{Program, Version, find_version, parameter_types}
use Rattle.machine.specs.Begin.{Given, integer, vector, arguments}
use Rattle.begin.specs.declared.Argument.{Argument}

-- the argument that begins some words, if there is one
unfoldable pub argument_of : Option (Given × List ℤ) → Optional Argument
argument_of none = None
argument_of (some (integer z, ws)) = Some (Argument.Integer z)
argument_of (some (vector xs, ws)) = Some (Argument.Vector (length xs))

-- its kind: 2 an integer's, 3 a vector's
unfoldable pub kind : Argument → ℕ
kind (Argument.Integer z) = 2
kind (Argument.Vector n) = 3

-- are there arguments?
unfoldable pub is_given : Option (List Given) → Bool
is_given none = false
is_given (some xs) = true

-- those that there are
unfoldable pub those : Option (List Given) → List Given
those none = []
those (some xs) = xs

-- the arguments that the words make for a version
unfoldable pub given_to : Version → List ℤ → List Given
given_to W words = those (arguments (parameter_types W) words)

-- for a version that is looked up
unfoldable pub given_by : Option Version → List ℤ → List Given
given_by none words = []
given_by (some W) words = given_to W words

-- the arguments that the words make for the version w of the function f of a program
abbrev pub arguments_in : Program → ℕ → ℕ → List ℤ → List Given
arguments_in P f w words = given_by (find_version P f w) words
