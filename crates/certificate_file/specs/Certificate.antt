-- What a certificate's text says, and what is wrong with it.
use Rattle.std.specs.Prelude.{◌≡◌, ℕ, ◌<◌, ◌==◌, ◌&&◌, Bool, true, false, cond, List, [], ◌∷◌, length, drop}
use Rattle.std.specs.Prelude.{slice_index_or, All, Option, Some, None, Result, Ok, Err, codes}
use Rattle.ordered_group.specs.declared.groups.Group.{Group}
use Rattle.ordered_group.specs.Prelude.{Amount, zero_amount, amount_at}
pub use Rattle.prec_file.specs.Rests.{has_pair}
use Rattle.closure_net.specs.Network.{FlowView, IsAscending}
use Rattle.certificate_file.specs.declared.header.Header.{Header}
use Rattle.certificate_file.specs.declared.header.Wanted.{Wanted}
use Rattle.certificate_file.specs.declared.header.Price.{Price}
use Rattle.certificate_file.specs.declared.cert_fault.CertFault.{CertFault}
use Rattle.certificate_file.specs.declared.cert_fault.CertFault.TheVariants.{NoMemory, Text, Number, OutOfOrder}
use Rattle.certificate_file.specs.declared.cert_fault.CertFault.TheVariants.{UnknownPair, Truncated}
use Rattle.certificate_file.specs.declared.body_lines.LineKind.{LineKind}
use Rattle.certificate_file.specs.declared.body_lines.LineKind.TheVariants.{Pit, Source, Rest, Sink}
use Rattle.certificate_file.specs.declared.body_lines.BodyLine.{BodyLine}
use Rattle.certificate_file.specs.Pieces.{Piece, pieces_of}
use Rattle.certificate_file.specs.Header.{header_for}
use Rattle.certificate_file.specs.BodyLines.{body_fault, lines_of_pieces}
use Rattle.certificate_file.specs.Written.{header_with, text_of}
use Rattle.fixed_worth.specs.FaultText.{at_line}

-- the lines after the header
abbrev pub body_of : List ℕ → List Piece
body_of text = drop 4 (pieces_of text)

-- what the header must say for n blocks and a group
abbrev pub wanted_for : ℕ → Group → Option Wanted
wanted_for n name = Some (record { blocks = n; group = name })

-- the fault of the header, or else of the lines after it
abbrev pub cert_fault_after : Bool → ℕ → List (ℕ × ℕ) → List Piece → Result Header CertFault → Option CertFault
cert_fault_after counts n pairs body (Err e) = Some e
cert_fault_after counts n pairs body (Ok header) = body_fault counts n (has_pair pairs) None 4 body

-- the fault of a text as a certificate of the group with this name, for n blocks and these pairs
abbrev pub cert_fault_of : Bool → Group → ℕ → List (ℕ × ℕ) → List ℕ → Option CertFault
cert_fault_of counts name n pairs text = cert_fault_after counts n pairs (body_of text)
    (header_for (wanted_for n name) (pieces_of text))

-- the amount of a line: its worth and its count
abbrev pub amount_of : BodyLine → Amount
amount_of line = record { w = line.worth; c = line.count }

-- the blocks of lines with that of one more before them, where its kind is PIT
abbrev pub block_if_pit : LineKind → ℕ → List ℕ → List ℕ
block_if_pit Pit b bs = b ∷ bs
block_if_pit _ b bs = bs

-- the blocks of the PIT lines, in order
abbrev pub pit_of : List BodyLine → List ℕ
pit_of [] = []
pit_of (l ∷ ls) = block_if_pit l.kind l.block (pit_of ls)

-- the kind of the lines SOURCE
abbrev pub is_source : LineKind → Bool
is_source Source = true
is_source _ = false

-- the kind of the lines REST
abbrev pub is_rest : LineKind → Bool
is_rest Rest = true
is_rest _ = false

-- the kind of the lines SINK
abbrev pub is_sink : LineKind → Bool
is_sink Sink = true
is_sink _ = false

-- whether a line gives the amount from the source for a block
abbrev pub gives_source : ℕ → BodyLine → Bool
gives_source b l = is_source l.kind && (l.block == b)

-- whether a line gives the amount over a pair
abbrev pub gives_rest : ℕ × ℕ → BodyLine → Bool
gives_rest q l = is_rest l.kind && ((q.0 == l.block) && (q.1 == l.other))

-- whether a line gives the amount to the sink for a block
abbrev pub gives_sink : ℕ → BodyLine → Bool
gives_sink b l = is_sink l.kind && (l.block == b)

-- the amount that the lines give, or this one where none does; of lines in order at most one gives it
abbrev pub given_amount : (BodyLine → Bool) → Amount → List BodyLine → Amount
given_amount gives x [] = x
given_amount gives x (l ∷ ls) = given_amount gives (cond (gives l) (amount_of l) x) ls

-- the flow has an amount for each of n blocks and m pairs
pub record Covers (n m : ℕ) (flow : FlowView) : Type 0 where
  pub sources : length flow.source ≡ n
  pub rests : length flow.rest ≡ m
  pub sinks : length flow.sink ≡ n

-- the pit and the flow that the lines say: an amount without a line is zero
pub record DenotesFlow (n : ℕ) (pairs : List (ℕ × ℕ)) (lines : List BodyLine) (blocks : List ℕ) (flow : FlowView) :
    Type 0 where
  pub pit : blocks ≡ pit_of lines
  pub covers : Covers n (length pairs) flow
  pub source : (b : ℕ) → b < n → amount_at flow.source b ≡ given_amount (gives_source b) zero_amount lines
  pub rest : (k : ℕ) → k < length pairs
      → amount_at flow.rest k ≡ given_amount (gives_rest (slice_index_or pairs k (0, 0))) zero_amount lines
  pub sink : (b : ℕ) → b < n → amount_at flow.sink b ≡ given_amount (gives_sink b) zero_amount lines

-- the lines of a text after its header, before END
abbrev pub lines_of_text : Bool → ℕ → List ℕ → List BodyLine
lines_of_text counts n text = lines_of_pieces counts n (body_of text)

-- The numbers, the pit and the flow that a text without a fault gives; and it is the one text of these.
pub record IsRead (counts : Bool) (name : Group) (n : ℕ) (pairs : List (ℕ × ℕ)) (text : List ℕ) (blocks : ℕ)
    (price : Price) (pit : List ℕ) (flow : FlowView) : Type 0 where
  pub header : header_for (wanted_for n name) (pieces_of text) ≡ Ok (record { blocks = n; price = price; group = name })
  pub same_blocks : blocks ≡ n
  pub denotes : DenotesFlow n pairs (lines_of_text counts n text) pit flow
  pub ascending : IsAscending pit
  pub known : All (λ b. b < n) pit
  pub spelled : text ≡ text_of (header_with n price name) pairs pit flow

-- want of memory says nothing of the text
abbrev pub UnlessCertMemory : CertFault → Type 0 → Type 0
UnlessCertMemory NoMemory P = Unit {0}
UnlessCertMemory _ P = P

-- of a text that is no certificate: the fault's name, and the line's number in parentheses where there is one
abbrev pub cert_fault_text : CertFault → List ℕ
cert_fault_text (Text k) = at_line (codes "Text") k
cert_fault_text (Number k) = at_line (codes "Number") k
cert_fault_text (OutOfOrder k) = at_line (codes "OutOfOrder") k
cert_fault_text (UnknownPair k) = at_line (codes "UnknownPair") k
cert_fault_text Truncated = codes "Truncated"
cert_fault_text NoMemory = codes "NoMemory"
