-- A header that is read by itself is the one that is wanted, where it names these blocks and this group.
use Rattle.fixed_worth.proofs.Common.{◌≡◌, List, Some, Ok, arith, common_steps}
use Rattle.certificate_file.specs.declared.header.Header.{Header}
use Rattle.certificate_file.specs.declared.header.Wanted.{Wanted}
use Rattle.certificate_file.specs.Prelude.{Piece, header_of, header_for}

pub header_named : (w : Wanted) (ps : List Piece) (h : Header) → header_of ps ≡ Ok h → h.blocks ≡ w.blocks
    → h.group ≡ w.group → header_for (Some w) ps ≡ Ok h
header_named w ps h e b g = grind (arith, common_steps)
