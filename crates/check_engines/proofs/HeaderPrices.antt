-- The price of a header that is read is one that certificates may name.
use Rattle.fixed_worth.proofs.Common.{◌+◌, ◌≡◌, ℕ, List, refl, ap, subst, arith, cond, Bool, true, false, Option, Some}
use Rattle.fixed_worth.proofs.Common.{None, Result, Ok, result_unwrap_or, bytes_eq, common_steps}
use Rattle.fixed_worth.specs.declared.limits.TheConstants.{MOST_FACTOR}
use lib.Chars.{codes}
use Rattle.certificate_file.specs.Prelude.{Piece, piece_at, read_line, words_of, number_below, header_of, price_in}
use Rattle.certificate_file.specs.Prelude.{price_said, mill_said, or_number, factor_of, mill_of, value_after}
use Rattle.certificate_file.specs.Prelude.{value_after_both, version_in, blocks_in, group_in, IsPrice}
use Rattle.certificate_file.specs.declared.header.Header.{Header}
use Rattle.certificate_file.specs.declared.header.Price.{Price}
use Rattle.certificate_file.specs.declared.header.Price.TheVariants.{Objective}
use Rattle.certificate_file.specs.declared.header.Version.{Version}
use Rattle.certificate_file.specs.declared.header.Version.TheVariants.{One, Two}
use Rattle.certificate_file.specs.declared.cert_fault.LineFault.{LineFault}
use Rattle.certificate_file.proofs.Going.{text_read}
use Rattle.certificate_file.proofs.Wants.{joined}

factor_below : (word : List ℕ) (o : Option ℕ) (price : Price) → number_below (MOST_FACTOR + 1) word ≡ o
    → or_number (factor_of o) ≡ Ok price → IsPrice price
factor_below word (Some k) price e h = grind (arith, common_steps)
factor_below word None price e h = absurd cc

word_price : (word : List ℕ) (t : Bool) (price : Price)
    → cond t (Ok Objective) (or_number (factor_of (number_below (MOST_FACTOR + 1) word))) ≡ Ok price → IsPrice price
word_price word true price h = subst IsPrice (ap (λ (r : Result Price LineFault). result_unwrap_or r price) h) tt
word_price word false price h = factor_below word (number_below (MOST_FACTOR + 1) word) price refl h

plain_bound : (o : Option (List ℕ)) (price : Price) → price_said o ≡ Ok price → IsPrice price
plain_bound (Some word) price h = word_price word (bytes_eq word (codes "OBJECTIVE")) price h
plain_bound None price h = absurd cc

mill_below : (word : List ℕ) (o : Option ℕ) (price : Price) → number_below (MOST_FACTOR + 1) word ≡ o
    → or_number (mill_of o) ≡ Ok price → IsPrice price
mill_below word (Some k) price e h = grind (arith, common_steps)
mill_below word None price e h = absurd cc

mill_bound : (o : Option (List ℕ)) (price : Price) → mill_said o ≡ Ok price → IsPrice price
mill_bound (Some word) price h = mill_below word (number_below (MOST_FACTOR + 1) word) price refl h
mill_bound None price h = absurd cc

price_bound : (v : Version) (text : List ℕ) (price : Price) → price_in v text ≡ Ok price → IsPrice price
price_bound One text price h = plain_bound (value_after (codes "PRICE") (words_of text)) price h
price_bound Two text price h = mill_bound (value_after_both (codes "PRICE") (codes "MILL") (words_of text)) price h

-- the factor of a header that is read is at most 10,000
pub header_price : (ps : List Piece) (header : Header) → header_of ps ≡ Ok header → IsPrice header.price
header_price ps header e =
    let q = joined (read_line version_in 1 (piece_at ps 0)) (read_line (blocks_in None) 2 (piece_at ps 1))
    (λ v. read_line (price_in v) 3 (piece_at ps 2)) (read_line (group_in None) 4 (piece_at ps 3)) header e in
    price_bound q.version (piece_at ps 2).text header.price
    (text_read (price_in q.version) 3 (piece_at ps 2) header.price q.price)
