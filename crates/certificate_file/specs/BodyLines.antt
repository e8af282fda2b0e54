-- The lines of a certificate after its header.
use Rattle.std.specs.Prelude.{ℕ, ℤ, pos, ◌+◌, Bool, true, false, not, cond, List, [], ◌∷◌, Option, Some, None, Result}
use Rattle.std.specs.Prelude.{Ok, Err}
use Rattle.std.specs.Str.{bytes_eq}
use Rattle.std.specs.Ordering.{int_eq, nat_cmp, ordering_then, is_lt}
use lib.Chars.{codes}
use Rattle.fixed_worth.specs.declared.numerals.NumberFault.{NumberFault}
use Rattle.fixed_worth.specs.Numeral.{plain_of}
use Rattle.certificate_file.specs.declared.cert_fault.CertFault.{CertFault}
use Rattle.certificate_file.specs.declared.cert_fault.CertFault.TheVariants as fault
use Rattle.certificate_file.specs.declared.cert_fault.LineFault.{LineFault}
use Rattle.certificate_file.specs.declared.cert_fault.LineFault.TheVariants.{Text, Number}
use Rattle.certificate_file.specs.declared.body_lines.LineKind.{LineKind}
use Rattle.certificate_file.specs.declared.body_lines.LineKind.TheVariants.{Pit, Source, Rest, Sink, End}
use Rattle.certificate_file.specs.declared.body_lines.BodyLine.{BodyLine}
use Rattle.certificate_file.specs.Pieces.{Piece, read_line, words_of, number_below}
use Rattle.certificate_file.specs.Header.{◌>>=◌}

-- the kind that a key names
abbrev pub line_kind_of : List ℕ → Option LineKind
line_kind_of key =
    cond (bytes_eq key (codes "PIT")) (Some Pit)
    (cond (bytes_eq key (codes "SOURCE")) (Some Source)
    (cond (bytes_eq key (codes "REST")) (Some Rest)
    (cond (bytes_eq key (codes "SINK")) (Some Sink)
    (cond (bytes_eq key (codes "END")) (Some End)
    None))))

-- an amount other than zero, without a count where the group has none
abbrev pub is_amount : Bool → ℤ → ℤ → Bool
is_amount counts w c = cond (int_eq c (pos 0)) (not (int_eq w (pos 0))) counts

-- the amount of two numbers that are written rightly
abbrev pub amount_said : Bool → Result ℤ NumberFault → Result ℤ NumberFault → Option (ℤ × ℤ)
amount_said counts (Ok w) (Ok c) = cond (is_amount counts w c) (Some (w, c)) None
amount_said counts _ _ = None

-- the amount that two words are
abbrev pub amount_in : Bool → List ℕ → List ℕ → Option (ℤ × ℤ)
amount_in counts worth count = amount_said counts (plain_of worth) (plain_of count)

-- a line of a kind, where all its numbers are right
abbrev pub numbered_line : LineKind → Option ℕ → Option ℕ → Option (ℤ × ℤ) → Result BodyLine LineFault
numbered_line kind (Some block) (Some other) (Some amount) = Ok
    (record { kind = kind; block = block; other = other; worth = amount.0; count = amount.1 })
numbered_line kind _ _ _ = Err Number

-- the line PIT, by the words after its key: a block
abbrev pub pit_line : ℕ → List (List ℕ) → Result BodyLine LineFault
pit_line n (b ∷ []) = numbered_line Pit (number_below n b) (Some 0) (Some (pos 0, pos 0))
pit_line n _ = Err Text

-- a line SOURCE or SINK, by the words after its key: a block and an amount
abbrev pub block_line : Bool → ℕ → LineKind → List (List ℕ) → Result BodyLine LineFault
block_line counts n kind (b ∷ w ∷ c ∷ []) = numbered_line kind (number_below n b) (Some 0) (amount_in counts w c)
block_line counts n kind _ = Err Text

-- a line REST, by the words after its key: a block, the predecessor that it rests on, and an amount
abbrev pub rest_line : Bool → ℕ → List (List ℕ) → Result BodyLine LineFault
rest_line counts n (b ∷ p ∷ w ∷ c ∷ []) = numbered_line Rest (number_below n b) (number_below n p)
    (amount_in counts w c)
rest_line counts n _ = Err Text

-- the line END, after whose key there is nothing
abbrev pub end_line : List (List ℕ) → Result BodyLine LineFault
end_line [] = numbered_line End (Some 0) (Some 0) (Some (pos 0, pos 0))
end_line (w ∷ ws) = Err Text

-- the line of a kind, by the words after its key
abbrev pub line_with : Bool → ℕ → Option LineKind → List (List ℕ) → Result BodyLine LineFault
line_with counts n None words = Err Text
line_with counts n (Some Pit) words = pit_line n words
line_with counts n (Some Source) words = block_line counts n Source words
line_with counts n (Some Rest) words = rest_line counts n words
line_with counts n (Some Sink) words = block_line counts n Sink words
line_with counts n (Some End) words = end_line words

-- the line that words are, of which the first is its key
abbrev pub line_of_words : Bool → ℕ → List (List ℕ) → Result BodyLine LineFault
line_of_words counts n [] = Err Text
line_of_words counts n (key ∷ words) = line_with counts n (line_kind_of key) words

-- the line that a text is, for n blocks and a group with or without counts
abbrev pub line_of : Bool → ℕ → List ℕ → Result BodyLine LineFault
line_of counts n text = line_of_words counts n (words_of text)

-- the kinds in the order in which they stand
abbrev pub rank : LineKind → ℕ
rank Pit = 0
rank Source = 1
rank Rest = 2
rank Sink = 3
rank End = 4

-- the kind of the last line of a certificate
abbrev pub is_end : LineKind → Bool
is_end End = true
is_end _ = false

-- by kinds, then by blocks, and then by predecessors, a line is above another
abbrev pub is_above : BodyLine → BodyLine → Bool
is_above previous line = is_lt
    (ordering_then (nat_cmp (rank previous.kind) (rank line.kind))
    (ordering_then (nat_cmp previous.block line.block) (nat_cmp previous.other line.other)))

-- a line that may stand after another, or first
abbrev pub may_follow : Option BodyLine → BodyLine → Bool
may_follow None line = true
may_follow (Some previous) line = is_above previous line

-- a line of a kind other than REST, or of a pair that the test has
abbrev pub is_of_model : (ℕ → ℕ → Bool) → LineKind → BodyLine → Bool
is_of_model has Rest line = has line.block line.other
is_of_model has _ line = true

-- the line, where it may follow
abbrev pub in_order : Option BodyLine → ℕ → BodyLine → Result BodyLine CertFault
in_order previous k line = cond (may_follow previous line) (Ok line) (Err (fault.OutOfOrder k))

-- the line, where it is of the model
abbrev pub in_model : (ℕ → ℕ → Bool) → ℕ → BodyLine → Result BodyLine CertFault
in_model has k line = cond (is_of_model has line.kind line) (Ok line) (Err (fault.UnknownPair k))

-- the line that piece k is, after another one
abbrev pub line_after : Bool → ℕ → Option BodyLine → ℕ → Piece → Result BodyLine CertFault
line_after counts n previous k p = do
  line ← read_line (line_of counts n) k p
  in_order previous k line

-- the line that piece k is, after another one, where the pair of a line `REST` must be one of the model's
abbrev pub next_line : Bool → ℕ → (ℕ → ℕ → Bool) → Option BodyLine → ℕ → Piece → Result BodyLine CertFault
next_line counts n has previous k p = do
  line ← line_after counts n previous k p
  in_model has k line

-- nothing may stand after the last line
abbrev pub cert_end_fault : ℕ → List Piece → Option CertFault
cert_end_fault k [] = None
cert_end_fault k (p ∷ ps) = Some (fault.Text (k + 1))

-- the fault of a line, or else what is wrong after it
abbrev pub fault_from : Option CertFault → (BodyLine → Option CertFault) → Result BodyLine CertFault → Option CertFault
fault_from at_end past (Err e) = Some e
fault_from at_end past (Ok line) = cond (is_end line.kind) at_end (past line)

-- the fault of the first faulty line after line k, which said what is previous
abbrev pub body_fault : Bool → ℕ → (ℕ → ℕ → Bool) → Option BodyLine → ℕ → List Piece → Option CertFault
body_fault counts n has previous k [] = Some fault.Truncated
body_fault counts n has previous k (p ∷ ps) = fault_from (cert_end_fault (k + 1) ps)
    (λ line. body_fault counts n has (Some line) (k + 1) ps) (next_line counts n has previous (k + 1) p)

-- a line and those after it, where it is read and is not END
abbrev pub lines_from : List BodyLine → Result BodyLine LineFault → List BodyLine
lines_from past (Err e) = []
lines_from past (Ok line) = cond (is_end line.kind) [] (line ∷ past)

-- the lines before END
abbrev pub lines_of_pieces : Bool → ℕ → List Piece → List BodyLine
lines_of_pieces counts n [] = []
lines_of_pieces counts n (p ∷ ps) = lines_from (lines_of_pieces counts n ps) (line_of counts n p.text)
