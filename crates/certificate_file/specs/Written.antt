-- The one text of a certificate.
use Rattle.std.specs.Prelude.{ℕ, pos, ◌+◌, cond, List, [], ◌∷◌, ◌++◌, map, slice_index_or}
use Rattle.std.specs.Fmt.{decimal, signed_decimal}
use lib.Chars.{codes}
use Rattle.ordered_group.specs.declared.groups.Group.{Group}
use Rattle.ordered_group.specs.Prelude.{group_name, Amount, is_zero}
use Rattle.closure_net.specs.Network.{FlowView}
use Rattle.certificate_file.specs.declared.header.Header.{Header}
use Rattle.certificate_file.specs.declared.header.Price.{Price}
use Rattle.certificate_file.specs.declared.header.Price.TheVariants.{Objective, Factor, Mill}
use Rattle.certificate_file.specs.declared.header.Version.{Version}
use Rattle.certificate_file.specs.declared.header.Version.TheVariants.{One, Two}
use Rattle.certificate_file.specs.declared.body_lines.LineKind.{LineKind}
use Rattle.certificate_file.specs.declared.body_lines.LineKind.TheVariants.{Pit, Source, Rest, Sink, End}
use Rattle.certificate_file.specs.declared.body_lines.BodyLine.{BodyLine}

-- words with a single space between two
abbrev pub spaced_words : List (List ℕ) → List ℕ
spaced_words [] = []
spaced_words (w ∷ []) = w
spaced_words (w ∷ v ∷ ws) = w ++ (32 ∷ spaced_words (v ∷ ws))

-- lines of words, with a line feed after each
abbrev pub lines_text : List (List (List ℕ)) → List ℕ
lines_text [] = []
lines_text (words ∷ lines) = spaced_words words ++ (10 ∷ lines_text lines)

-- the version of a text with this price: the second one exactly where there is a mill
abbrev pub version_for : Price → Version
version_for (Mill k) = Two
version_for _ = One

-- the number of a version
abbrev pub version_word : Version → List ℕ
version_word One = codes "1"
version_word Two = codes "2"

-- the words of the line of a price
abbrev pub price_words : Price → List (List ℕ)
price_words Objective = codes "PRICE" ∷ codes "OBJECTIVE" ∷ []
price_words (Factor k) = codes "PRICE" ∷ decimal k ∷ []
price_words (Mill k) = codes "PRICE" ∷ codes "MILL" ∷ decimal k ∷ []

-- the words of the first four lines
abbrev pub header_words : Header → List (List (List ℕ))
header_words h =
    (codes "PITCERT" ∷ version_word (version_for h.price) ∷ [])
    ∷ (codes "BLOCKS" ∷ decimal h.blocks ∷ [])
    ∷ price_words h.price
    ∷ (codes "GROUP" ∷ group_name h.group ∷ [])
    ∷ []

-- the words of a line of a kind
abbrev pub words_with : LineKind → BodyLine → List (List ℕ)
words_with Pit l = codes "PIT" ∷ decimal l.block ∷ []
words_with Source l = codes "SOURCE" ∷ decimal l.block ∷ signed_decimal l.worth ∷ signed_decimal l.count ∷ []
words_with Rest l = codes "REST" ∷ decimal l.block ∷ decimal l.other ∷ signed_decimal l.worth ∷ signed_decimal l.count
    ∷ []
words_with Sink l = codes "SINK" ∷ decimal l.block ∷ signed_decimal l.worth ∷ signed_decimal l.count ∷ []
words_with End l = codes "END" ∷ []

-- the words of a line
abbrev pub line_words : BodyLine → List (List ℕ)
line_words l = words_with l.kind l

-- the line of a block of the pit
abbrev pub pit_at : ℕ → BodyLine
pit_at b = record { kind = Pit; block = b; other = 0; worth = pos 0; count = pos 0 }

-- the line of an amount at a block
abbrev pub line_of_block : LineKind → ℕ → Amount → BodyLine
line_of_block kind b x = record { kind = kind; block = b; other = 0; worth = x.w; count = x.c }

-- the line of the amount over the pair at a place
abbrev pub pair_at : List (ℕ × ℕ) → ℕ → Amount → BodyLine
pair_at pairs k x = record {
  kind = Rest;
  block = (slice_index_or pairs k (0, 0)).0;
  other = (slice_index_or pairs k (0, 0)).1;
  worth = x.w;
  count = x.c;
}

-- the blocks that the line of a kind names at a place: those of the pair there, or the one of that number
abbrev pub blocks_named : LineKind → List (ℕ × ℕ) → ℕ → ℕ × ℕ
blocks_named Rest pairs k = slice_index_or pairs k (0, 0)
blocks_named kind pairs k = (k, 0)

-- the line of a kind for the amount at a place
abbrev pub line_at : LineKind → List (ℕ × ℕ) → ℕ → Amount → BodyLine
line_at kind pairs k x = record {
  kind = kind;
  block = (blocks_named kind pairs k).0;
  other = (blocks_named kind pairs k).1;
  worth = x.w;
  count =
      x.c;
}

-- the lines of amounts from place k on; a zero has none
abbrev pub amount_lines : (ℕ → Amount → BodyLine) → ℕ → List Amount → List BodyLine
amount_lines line k [] = []
amount_lines line k (x ∷ xs) = cond (is_zero x) (amount_lines line (k + 1) xs) (line k x ∷ amount_lines line (k + 1) xs)

-- the lines of a flow, in order
abbrev pub flow_lines : List (ℕ × ℕ) → FlowView → List BodyLine
flow_lines pairs flow = amount_lines (line_of_block Source) 0 flow.source
    ++ (amount_lines (pair_at pairs) 0 flow.rest ++ amount_lines (line_of_block Sink) 0 flow.sink)

-- the lines of a pit and a flow, in order
abbrev pub value_lines : List (ℕ × ℕ) → List ℕ → FlowView → List BodyLine
value_lines pairs pit flow = map pit_at pit ++ flow_lines pairs flow

-- the text of lines
abbrev pub body_text : List BodyLine → List ℕ
body_text ls = lines_text (map line_words ls)

-- the text of the last line
abbrev pub end_text : List ℕ
end_text = lines_text ((codes "END" ∷ []) ∷ [])

-- a header by what it says
abbrev pub header_with : ℕ → Price → Group → Header
header_with n price name = record { blocks = n; price = price; group = name }

-- the text of a certificate
abbrev pub text_of : Header → List (ℕ × ℕ) → List ℕ → FlowView → List ℕ
text_of h pairs pit flow = lines_text (header_words h) ++ (body_text (value_lines pairs pit flow) ++ end_text)

-- the text of a certificate by what it says
abbrev pub certificate_bytes : Group → List (ℕ × ℕ) → ℕ → Price → List ℕ → FlowView → List ℕ
certificate_bytes name pairs blocks price pit flow = text_of (header_with blocks price name) pairs pit flow
