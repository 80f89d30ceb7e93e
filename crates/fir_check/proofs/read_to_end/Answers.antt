-- What a read gave stands right behind what was held before it.
use Rattle.std.proofs.Common.{◌≡◌, ℕ, ◌+◌, ◌-◌, ◌≤◌, List, ◌++◌, rules, arith, length, take, drop, sym, ap, ◌∙◌, subst, le_refl, drop_at, length-take-le}
use Rattle.std.proofs.lemmas.Slice.{take-put_mid_below}
use Rattle.std.proofs.lemmas.List.{drop-append-le}
use Rattle.std.specs.Io.KnownBytes.{Consumes}
use Rattle.std.proofs.KnownBytes.{Consumes-trans}
use borrow.Rule.Slice.PartMut.{put_mid, post_of}
use lib.Seq.{take-add, take-append-le}
use Rattle.fir_check.proofs.read_to_end.Goals as goal

-- n bytes of a part that was written, behind the a bytes before it
take-put_mid-part : (a k n : ℕ) (xs ys : List ℕ) → a ≤ length xs → n ≤ length ys → take (a + n) (put_mid a k xs ys) ≡ take a xs ++ take n ys
take-put_mid-part a k n xs ys within fits =
    let new = put_mid a k xs ys in
    let after = post_of a k xs in
    take-add a n new
    ∙ ap (λ l. l ++ take n (drop a new)) (take-put_mid_below a k xs ys a (le_refl a) within)
    ∙ ap (λ l. take a xs ++ take n l) (drop_at (take a xs) (ys ++ after) a (length-take-le a xs within))
    ∙ ap (λ l. take a xs ++ l) (take-append-le n ys after fits)

pub loop-held-preserved-in-Ok : goal.loop-held-preserved-in-Ok
loop-held-preserved-in-Ok g c =
    let from = c.loop-held.held in
    let image = c.loop-held.image in
    let room = length image - from in
    let within = c.loop-held.invariant.1 in
    let front = take-put_mid_below from room image c.read.new.buf c.args.n c.loop-held.invariant.3 within in
    let whole = take-put_mid-part from room c.in-Ok.got image c.read.new.buf within c.in-Ok.ensures.bound.0 in
    let long : c.args.n ≤ length (take from image) = rw length-take-le c.loop-held.invariant.3 in
    let behind = ap (drop c.args.n) whole ∙ drop-append-le c.args.n (take from image) (take c.in-Ok.got c.read.new.buf) long in (
      search rules,
      search rules,
      c.loop-held.invariant.2,
      omega arith,
      front ∙ c.loop-held.invariant.4,
      subst (Consumes _ _) (sym behind) (Consumes-trans _ _ _ _ _ c.loop-held.invariant.5 c.in-Ok.ensures.bytes.0),
    )
