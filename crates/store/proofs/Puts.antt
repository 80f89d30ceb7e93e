-- A cell that is written, by the value.
use mathlib.Core.Path.{◌≡◌, refl, ◌∙◌}
use mathlib.Core.List.{List}
use Prim.Native.Nat.{ℕ, ◌+◌, ◌*◌, ◌<◌}
use native.Mathlib.Omega.{arith}
use lib.IntN.{ℤ, pos}
use lib.ListN.{length, length-set, set}
use lib.Seq.{get_or-set_same, get_or-set_other}
use Rattle.layout.specs.Records.{◌!◌}
use Rattle.machine.specs.declared.Value.{Value}
use Rattle.store.specs.Store.{◌#◌, PLACES, value_of, cell_in, Puts}

module _ (b : List ℕ) (n : List ℤ) (k c : ℕ) (sb : length b ≡ 2632) (sn : length n ≡ 2129) (h : (k < 32) × (c < 24)) where
  -- a tag and a number
  pub put-integer : (z : ℤ) → Puts b n (set b (32 * k + c) 1) (set n (32 * k + c) z) k c (Value.Integer z)
  unfolding cell_in value_of
  put-integer z = record {
    holds = rw (get_or-set_same b (32 * k + c) 1 0 (omega (arith, h.0, h.1)), get_or-set_same n (32 * k + c) z (pos 0) (omega (arith, h.0, h.1))) refl;
    bytes = λ i p q. get_or-set_other b (32 * k + c) i 1 0 p;
    numbers = λ i p. get_or-set_other n (32 * k + c) i z (pos 0) p;
    sized = (simp (length-set, sb), simp (length-set, sn));
  }

  -- a number, where the tag is that of an integer already
  pub put-number : (z : ℤ) → b ! (32 * k + c) ≡ 1 → Puts b n b (set n (32 * k + c) z) k c (Value.Integer z)
  unfolding cell_in value_of
  put-number z e = record {
    holds = rw (e, get_or-set_same n (32 * k + c) z (pos 0) (omega (arith, h.0, h.1))) refl;
    bytes = λ i p q. refl;
    numbers = λ i p. get_or-set_other n (32 * k + c) i z (pos 0) p;
    sized = (sb, simp (length-set, sn));
  }

  -- a tag and a place
  pub put-place : (t p : ℕ) → Puts b n (set (set b (32 * k + c) t) (PLACES + 32 * k + c) p) n k c (value_of t p (n # (32 * k + c)))
  unfolding cell_in
  put-place t p =
      let l : length (set b (32 * k + c) t) ≡ 2632 = simp (length-set, sb) in
      let f = get_or-set_other (set b (32 * k + c) t) (PLACES + 32 * k + c) (32 * k + c) p 0 (λ z. omega arith) in
      record {
        holds = rw (f, get_or-set_same b (32 * k + c) t 0 (omega (arith, h.0, h.1)), get_or-set_same (set b (32 * k + c) t) (PLACES + 32 * k + c) p 0 (omega (arith, h.0, h.1, l))) refl;
        bytes = λ i q r. get_or-set_other (set b (32 * k + c) t) (PLACES + 32 * k + c) i p 0 r ∙ get_or-set_other b (32 * k + c) i t 0 q;
        numbers = λ i q. refl;
        sized = (simp (length-set, sb), sn);
      }
