-- 16: a number of 64 bits fits 32 where its four highest bytes are the sign of the fifth highest.
use mathlib.Core.Path.{◌≡◌, refl, sym, ap, ◌∙◌}
use mathlib.Core.List.{List, [], ◌∷◌, ◌++◌}
use mathlib.Core.Bool.{Bool, true, false}
use Prim.Native.Nat.{ℕ, suc, ◌+◌, ◌-◌, ◌*◌, ◌≤◌, ◌<◌}
use native.Mathlib.Omega.{arith}
use lib.IntN.{negsuc}
use lib.ListN.{length, take}
use lib.Dec.{eqb, ltb, leb}
use borrow.Author.Tests.{ltb-true, ltb-false, lt-ltb, le-ltb, leb-true, leb-false, eqb-true, eq-eqb}
use mir.Syntax.{w32, w64}
use mir.Val.{to_z}
use mir.ValLaws.{to_z_pos, to_z-neg}
use Rattle.layout.specs.Tests.{◌and◌}
use Rattle.layout.specs.Records.{◌!◌}
use Rattle.layout.specs.Forms.{sign_byte, moved_number}
use Rattle.layout.specs.declared.Form.{Form}
use Rattle.layout.proofs.Bools.{and_both}
use Rattle.program.specs.Program.{word, number_in}
use Rattle.moves.specs.Moves.{fits32}

-- ---- numbers

-- a number of 64 bits that is not below zero, and one that is
upper : (u : ℕ) → 9223372036854775808 ≤ u → u < 18446744073709551616 → to_z w64 u ≡ negsuc (18446744073709551615 - u)
upper u h l = ap (to_z w64) back ∙ to_z-neg w64 (18446744073709551615 - u) (omega arith)
  where
    back : u ≡ 18446744073709551616 - suc (18446744073709551615 - u)
    back = omega arith

-- it fits at the two ends
fits_low : (u : ℕ) → u < 2147483648 → fits32 (to_z w64 u) ≡ true
unfolding fits32
fits_low u h = rw (to_z_pos w64 u (omega arith)) (lt-ltb u 2147483648 h)

fits-high : (u : ℕ) → 18446744071562067968 ≤ u → u < 18446744073709551616 → fits32 (to_z w64 u) ≡ true
unfolding fits32
fits-high u h l = rw (upper u (omega arith) l) (lt-ltb (18446744073709551615 - u) 2147483648 (omega arith))

-- and between them it does not
fits_not : (u : ℕ) → 2147483648 ≤ u → u < 18446744071562067968 → fits32 (to_z w64 u) ≡ false
unfolding fits32
fits_not u h l = go (ltb u 9223372036854775808) refl
  where
    go : (b : Bool) → ltb u 9223372036854775808 ≡ b → fits32 (to_z w64 u) ≡ false
    go true e = let z = ltb-true u 9223372036854775808 e in rw (to_z_pos w64 u (omega (arith, z))) (le-ltb u 2147483648 h)
    go false e = let z = ltb-false u 9223372036854775808 e in rw (upper u z (omega arith)) (le-ltb (18446744073709551615 - u) 2147483648 (omega arith))

-- a number of 32 bits always does
pub narrow-fits : (b : List ℕ) → ((i : ℕ) → b ! i < 256) → fits32 (number_in Form.Narrow b) ≡ true
unfolding fits32 number_in
narrow-fits b f = go (word b 1) (omega (arith, f 1, f 2, f 3, f 4))
  where
    go : (u : ℕ) → u < 4294967296 → fits32 (to_z w32 u) ≡ true
    go u l = by (ltb u 2147483648) refl
      where
        by : (t : Bool) → ltb u 2147483648 ≡ t → fits32 (to_z w32 u) ≡ true
        by true e = let z = ltb-true u 2147483648 e in rw (to_z_pos w32 u (omega (arith, z))) (lt-ltb u 2147483648 z)
        by false e =
            let z = ltb-false u 2147483648 e in
            let back : u ≡ 4294967296 - suc (4294967295 - u) = omega arith in
            ap (λ (x : ℕ). fits32 (to_z w32 x)) back ∙ rw (to_z-neg w32 (4294967295 - u) (omega (arith, z))) (lt-ltb (4294967295 - u) 2147483648 (omega (arith, z)))

-- ---- bytes

-- are the bytes f, g, h, i all s?
unfoldable pub all_are : ℕ → ℕ → ℕ → ℕ → ℕ → Bool
all_are s f g h i = eqb f s and eqb g s and eqb h s and eqb i s

are_all : (s f g h i : ℕ) → all_are s f g h i ≡ true → (f ≡ s) × (g ≡ s) × (h ≡ s) × (i ≡ s)
unfolding all_are
are_all s f g h i e =
    let x = and_both _ _ e in
    let y = and_both _ _ x.1 in
    let z = and_both _ _ y.1 in
    (eqb-true _ _ x.0, eqb-true _ _ y.0, eqb-true _ _ z.0, eqb-true _ _ z.1)

all_are_lem : (s f g h i : ℕ) → f ≡ s → g ≡ s → h ≡ s → i ≡ s → all_are s f g h i ≡ true
unfolding all_are ◌and◌
all_are_lem s f g h i x y z w = rw (eq-eqb f s x, eq-eqb g s y, eq-eqb h s z, eq-eqb i s w) refl

module _ (a b c e f g h i : ℕ) (ka : a < 256) (kb : b < 256) (kc : c < 256) (ke : e < 256) (kf : f < 256) (kg : g < 256) (kh : h < 256) (ki : i < 256) where
  number : ℕ
  number = a + 256 * (b + 256 * (c + 256 * e)) + 4294967296 * (f + 256 * (g + 256 * (h + 256 * i)))

  sign_low : e < 128 → sign_byte e ≡ 0
  unfolding sign_byte
  sign_low l = rw (lt-ltb e 128 l) refl

  sign_high : 128 ≤ e → sign_byte e ≡ 255
  unfolding sign_byte
  sign_high l = rw (le-ltb e 128 l) refl

  low_end : number < 2147483648 → all_are (sign_byte e) f g h i ≡ true
  unfolding number
  low_end l = let s = sign_low (omega (arith, l)) in rw s (all_are_lem 0 f g h i (omega (arith, l)) (omega (arith, l)) (omega (arith, l)) (omega (arith, l)))

  high_end : 18446744071562067968 ≤ number → all_are (sign_byte e) f g h i ≡ true
  unfolding number
  high_end l = let s = sign_high (omega (arith, l)) in rw s (all_are_lem 255 f g h i (omega (arith, l)) (omega (arith, l)) (omega (arith, l)) (omega (arith, l)))

  below : number < 18446744073709551616
  unfolding number
  below = omega arith

  -- where they are, the number is at one of the ends
  no_middle : 2147483648 ≤ number → number < 18446744071562067968 → all_are (sign_byte e) f g h i ≡ true → ⊥
  unfolding number
  no_middle l u t = go (ltb e 128) refl
    where
      go : (b : Bool) → ltb e 128 ≡ b → ⊥
      go true q = let s = sign_low (ltb-true e 128 q) in let z = are_all _ f g h i t in omega (arith, l, s, z.0, z.1, z.2, z.3, ltb-true e 128 q)
      go false q = let s = sign_high (ltb-false e 128 q) in let z = are_all _ f g h i t in omega (arith, u, s, z.0, z.1, z.2, z.3, ltb-false e 128 q)

  fits-bytes : fits32 (to_z w64 number) ≡ all_are (sign_byte e) f g h i
  fits-bytes = go (ltb number 2147483648) (leb 18446744071562067968 number) refl refl
    where
      go : (x y : Bool) → ltb number 2147483648 ≡ x → leb 18446744071562067968 number ≡ y → fits32 (to_z w64 number) ≡ all_are (sign_byte e) f g h i
      go true y p q = let l = ltb-true number 2147483648 p in fits_low number l ∙ sym (low_end l)
      go false true p q = let l = leb-true 18446744071562067968 number q in fits-high number l below ∙ sym (high_end l)
      go false false p q =
          let l = ltb-false number 2147483648 p in
          let u = leb-false 18446744071562067968 number q in
          fits_not number l u ∙ sym (none (all_are (sign_byte e) f g h i) refl l u)
        where
          none : (t : Bool) → all_are (sign_byte e) f g h i ≡ t → 2147483648 ≤ number → number < 18446744071562067968 → t ≡ false
          none true s l u = absurd (no_middle l u s)
          none false s l u = refl

-- THE LAW: of a literal's body
pub wide_fits : (b : List ℕ) → ((i : ℕ) → b ! i < 256) → fits32 (number_in Form.Wide b) ≡ all_are (sign_byte (b ! 4)) (b ! 5) (b ! 6) (b ! 7) (b ! 8)
unfolding number_in number
wide_fits b k = fits-bytes (b ! 1) (b ! 2) (b ! 3) (b ! 4) (b ! 5) (b ! 6) (b ! 7) (b ! 8) (k 1) (k 2) (k 3) (k 4) (k 5) (k 6) (k 7) (k 8)

-- as the code finds it: one of the bytes is not the sign, or the first three are and the last one says
pub unfit : (b : List ℕ) → ((i : ℕ) → b ! i < 256) → let s = sign_byte (b ! 4) in ((b ! 5 ≡ s) × (b ! 6 ≡ s) × (b ! 7 ≡ s) × (b ! 8 ≡ s) → ⊥) → false ≡ fits32 (number_in Form.Wide b)
unfit b k h = go (fits32 (number_in Form.Wide b)) refl
  where
    go : (t : Bool) → fits32 (number_in Form.Wide b) ≡ t → false ≡ t
    go true e = absurd (h (are_all _ _ _ _ _ (sym (wide_fits b k) ∙ e)))
    go false e = refl

pub fit-last : (b : List ℕ) → ((i : ℕ) → b ! i < 256) → let s = sign_byte (b ! 4) in b ! 5 ≡ s → b ! 6 ≡ s → b ! 7 ≡ s → eqb (b ! 8) s ≡ fits32 (number_in Form.Wide b)
unfolding all_are ◌and◌
fit-last b k x y z = sym (wide_fits b k ∙ rw (eq-eqb _ _ x, eq-eqb _ _ y, eq-eqb _ _ z) refl)

-- such a body comes back as it was
nine : (b : List ℕ) (s : ℕ) → length b ≡ 9 → b ! 5 ≡ s → b ! 6 ≡ s → b ! 7 ≡ s → b ! 8 ≡ s → take 5 b ++ s ∷ s ∷ s ∷ s ∷ [] ≡ b
nine [] s l x y z w = absurd (omega (arith, l))
nine (a ∷ []) s l x y z w = absurd (omega (arith, l))
nine (a ∷ b ∷ []) s l x y z w = absurd (omega (arith, l))
nine (a ∷ b ∷ c ∷ []) s l x y z w = absurd (omega (arith, l))
nine (a ∷ b ∷ c ∷ d ∷ []) s l x y z w = absurd (omega (arith, l))
nine (a ∷ b ∷ c ∷ d ∷ e ∷ []) s l x y z w = absurd (omega (arith, l))
nine (a ∷ b ∷ c ∷ d ∷ e ∷ f ∷ []) s l x y z w = absurd (omega (arith, l))
nine (a ∷ b ∷ c ∷ d ∷ e ∷ f ∷ g ∷ []) s l x y z w = absurd (omega (arith, l))
nine (a ∷ b ∷ c ∷ d ∷ e ∷ f ∷ g ∷ h ∷ []) s l x y z w = absurd (omega (arith, l))
nine (a ∷ b ∷ c ∷ d ∷ e ∷ f ∷ g ∷ h ∷ i ∷ []) s l x y z w = rw (x, y, z, w) refl
nine (a ∷ b ∷ c ∷ d ∷ e ∷ f ∷ g ∷ h ∷ i ∷ j ∷ t) s l x y z w = absurd (omega (arith, l))

fifth : (b : List ℕ) → take 5 b ! 4 ≡ b ! 4
fifth [] = refl
fifth (a ∷ []) = refl
fifth (a ∷ b ∷ []) = refl
fifth (a ∷ b ∷ c ∷ []) = refl
fifth (a ∷ b ∷ c ∷ d ∷ []) = refl
fifth (a ∷ b ∷ c ∷ d ∷ e ∷ t) = refl

pub fitting-returns : (b : List ℕ) → length b ≡ 9 → ((i : ℕ) → b ! i < 256) → fits32 (number_in Form.Wide b) ≡ true → moved_number Form.Narrow (moved_number Form.Wide b) ≡ b
unfolding moved_number
fitting-returns b l k e =
    let z = are_all _ _ _ _ _ (sym (wide_fits b k) ∙ e) in
    rw (fifth b) (nine b (sign_byte (b ! 4)) l z.0 z.1 z.2 z.3)
