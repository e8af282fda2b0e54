use Rattle.std.proofs.Common.{◌+◌, ◌-◌, ◌^◌, ◌%◌, [], ◌∷◌, map, ap, ◌∙◌, arith, w8, leb}
use Rattle.std.proofs.lemmas.Simd.{tops_compared, zip2_splat, zip2_splat_left, map-map, mask_l-mod}
use Rattle.std.proofs.lemmas.List.{length-map}
use lib.Lanes.{mask_l, zip2}
use Rattle.fixed_worth.specs.Numeral.{is_other}
use Rattle.fixed_worth.proofs.EightBytes.{others_are}
use Rattle.fixed_worth.proofs.eight_bytes.others_among.Goals as goal

pub returns : goal.returns
returns c =
    let v = c.args.bytes in
    let long = c.fits-bytes.0 in
    let less = zip2_splat (λ a b. (a + (256 - b)) % 256) v 8 48 long in
    let tens = 10 ∷ 10 ∷ 10 ∷ 10 ∷ 10 ∷ 10 ∷ 10 ∷ 10 ∷ [] in
    ap (λ ms. mask_l ms % 2 ^ 64)
    (tops_compared w8 leb tens _ ∙ ap (zip2 leb tens) less ∙ zip2_splat_left leb 10 8 (map (λ x. (x + 208) % 256) v)
    (length-map v (λ x. (x + 208) % 256) ∙ long)
    ∙ map-map (leb 10) (λ x. (x + 208) % 256) v ∙ others_are v c.fits-bytes.1)
    ∙ mask_l-mod (map is_other v) 64 (omega (arith, length-map v is_other, long))
