-- A certificate that is read for a model, as a whole.
use Rattle.fixed_worth.proofs.Common.{◌≡◌, ℕ, List, Some, Result, Ok, arith, common_steps}
use Rattle.ordered_group.specs.declared.groups.Group.{Group}
use Rattle.certificate_file.specs.declared.header.Header.{Header}
use Rattle.certificate_file.specs.declared.header.Wanted.{Wanted}
use Rattle.certificate_file.specs.declared.header.Price.{Price}
use Rattle.certificate_file.specs.declared.header.Version.{Version}
use Rattle.certificate_file.specs.declared.cert_fault.CertFault.{CertFault}
use Rattle.certificate_file.specs.Prelude.{Piece, piece_at, read_line, header_with, ◌>>=◌, header_for, version_in}
use Rattle.certificate_file.specs.Prelude.{blocks_in, price_in, group_in}

-- A header has the blocks and the group that are wanted.
pub record Joined (a : Result Version CertFault) (b : Result ℕ CertFault) (c : Version → Result Price CertFault)
    (d : Result Group CertFault) (h : Header) : Type 0 where
  pub version : Version
  pub said : a ≡ Ok version
  pub blocks : b ≡ Ok h.blocks
  pub price : c version ≡ Ok h.price
  pub group : d ≡ Ok h.group

pub joined : (a : Result Version CertFault) (b : Result ℕ CertFault) (c : Version → Result Price CertFault)
    (d : Result Group CertFault) (h : Header)
    → (a >>= λ x. b >>= λ blocks. c x >>= λ price. d >>= λ group. Ok (header_with blocks price group)) ≡ Ok h
    → Joined a b c d h
joined a b c d h e = grind (arith, common_steps)

pub header_wanted : (w : Wanted) (ps : List Piece) (h : Header) → header_for (Some w) ps ≡ Ok h
    → (h.blocks ≡ w.blocks) × (h.group ≡ w.group)
header_wanted w ps h e =
    let q = joined (read_line version_in 1 (piece_at ps 0)) (read_line (blocks_in (Some w)) 2 (piece_at ps 1))
    (λ v. read_line (price_in v) 3 (piece_at ps 2)) (read_line (group_in (Some w)) 4 (piece_at ps 3)) h e in (
      (grind (arith, common_steps)),
      (grind (arith, common_steps)),
    )
