use Rattle.std.proofs.Common.{◌^◌, refl, ◌∙◌, arith, w8}
use Rattle.std.proofs.lemmas.Simd.{get_or_wider, below_from_Fits}
use Rattle.fixed_worth.proofs.EightBytes.{eight_bytes}
use Rattle.fixed_worth.proofs.eight_bytes.word_of.Goals as goal

pub returns : goal.returns
returns c = get_or_wider 256 8 (2 ^ 64) 1 c.args.bytes 0 refl (below_from_Fits w8 c.args.bytes c.fits-bytes.1)
    (omega arith) ∙ eight_bytes c.args.bytes c.fits-bytes.0
