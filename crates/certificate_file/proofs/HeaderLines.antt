-- The lines of a header, read one after another.
use Rattle.fixed_worth.proofs.Common.{◌≡◌, ℕ, ◌+◌, ◌∷◌, drop, Option, Result, Ok, Err, refl, arith, common_steps}
use Rattle.ordered_group.specs.declared.groups.Group.{Group}
use Rattle.certificate_file.specs.declared.header.Wanted.{Wanted}
use Rattle.certificate_file.specs.declared.header.Price.{Price}
use Rattle.certificate_file.specs.declared.header.Version.{Version}
use Rattle.certificate_file.specs.declared.cert_fault.CertFault.{CertFault}
use Rattle.certificate_file.specs.Prelude.{Piece, Unread, IsPieceRead, piece_at, read_line, header_with, ◌>>=◌}
use Rattle.certificate_file.specs.Prelude.{header_for, version_in, blocks_in, price_in, group_in}

-- four lines that are read, the price by the version
pub all_ok : (a : Result Version CertFault) (b : Result ℕ CertFault) (c : Version → Result Price CertFault)
    (d : Result Group CertFault) (v : Version) (n : ℕ) (price : Price) (name : Group) → a ≡ Ok v → b ≡ Ok n
    → c v ≡ Ok price → d ≡ Ok name
    → (a >>= λ x. b >>= λ blocks. c x >>= λ price. d >>= λ group. Ok (header_with blocks price group))
    ≡ Ok (header_with n price name)
all_ok a b c d v n price name e f g h = rw (e, f, g, h) refl

-- The first three lines are passed.
pub record ThreePassed (wanted : Option Wanted) (before later : Unread) (v : Version) (n : ℕ) (price : Price) : Type 0
  where
    pub version : read_line version_in 1 (piece_at before.pieces 0) ≡ Ok v
    pub blocks : read_line (blocks_in wanted) 2 (piece_at before.pieces 1) ≡ Ok n
    pub price_is : read_line (price_in v) 3 (piece_at before.pieces 2) ≡ Ok price
    pub number : later.number ≡ 3
    pub first : Piece
    pub second : Piece
    pub third : Piece
    pub pieces : before.pieces ≡ first ∷ second ∷ third ∷ later.pieces

pub three_passed : (wanted : Option Wanted) (s a b c : Unread) (v : Version) (n : ℕ) (price : Price) → s.number ≡ 0
    → IsPieceRead version_in s a v → IsPieceRead (blocks_in wanted) a b n → IsPieceRead (price_in v) b c price
    → ThreePassed wanted s c v n price
three_passed wanted s a b c v n price zero p q r = grind (arith, common_steps)

-- The fourth line is passed too.
pub header_made : (wanted : Option Wanted) (s c d : Unread) (v : Version) (n : ℕ) (price : Price) (group : Group)
    → ThreePassed wanted s c v n price → IsPieceRead (group_in wanted) c d group
    → (header_for wanted s.pieces ≡ Ok (header_with n price group)) × (d.pieces ≡ drop 4 s.pieces) × (d.number ≡ 4)
header_made wanted s c d v n price group t q = grind (arith, common_steps)

-- The fourth line isn't read.
pub header_unmade : (wanted : Option Wanted) (s c : Unread) (v : Version) (n : ℕ) (price : Price) (fault : CertFault)
    → ThreePassed wanted s c v n price → read_line (group_in wanted) (c.number + 1) (piece_at c.pieces 0) ≡ Err fault
    → header_for wanted s.pieces ≡ Err fault
header_unmade wanted s c v n price fault t h = grind (arith, common_steps)
