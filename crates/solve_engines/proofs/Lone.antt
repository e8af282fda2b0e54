-- A header that is the wanted one is read so by itself.
use Rattle.fixed_worth.proofs.Common.{◌≡◌, List, Some, None, Ok, arith, common_steps}
use Rattle.certificate_file.specs.declared.header.Header.{Header}
use Rattle.certificate_file.specs.declared.header.Wanted.{Wanted}
use Rattle.certificate_file.specs.Prelude.{Piece, header_for}

pub header_alone : (w : Wanted) (ps : List Piece) (h : Header) → header_for (Some w) ps ≡ Ok h
    → header_for None ps ≡ Ok h
header_alone w ps h e = grind (arith, common_steps)
