-- Texts, numbers and buffers spelled out: what the definitions say of small cases.
use mathlib.Core.Path.{◌≡◌, refl}
use mathlib.Core.List.{[], ◌∷◌}
use Rattle.writer.specs.Text.{text, digits, decimal, placed}

-- a text is its ASCII codes
spelled-text : text "at 7\n" ≡ 97 ∷ 116 ∷ 32 ∷ 55 ∷ 10 ∷ []
unfolding text
spelled-text = refl

-- zero has a digit, others have no zero in front, and the largest usize has all of its 20
spelled-zero : decimal 0 ≡ text "0"
unfolding text digits
spelled-zero = refl

spelled-hundred : decimal 100 ≡ text "100"
unfolding text digits
spelled-hundred = refl

spelled-largest : decimal 18446744073709551615 ≡ text "18446744073709551615"
unfolding text digits
spelled-largest = refl

-- bytes that fit, to the last place, and bytes that do not
spelled-placed : placed (1 ∷ 2 ∷ 3 ∷ []) 1 (8 ∷ 9 ∷ []) ≡ 1 ∷ 8 ∷ 9 ∷ []
unfolding placed
spelled-placed = refl

spelled-past : placed (1 ∷ 2 ∷ 3 ∷ []) 2 (8 ∷ 9 ∷ []) ≡ 1 ∷ 2 ∷ 3 ∷ []
unfolding placed
spelled-past = refl
