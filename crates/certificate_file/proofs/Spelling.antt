-- A text without a fault is spelled as its lines are.
use Rattle.fixed_worth.proofs.Common.{◌≡◌, ℕ, ◌+◌, Bool, true, cond, ℤ, pos, List, [], ◌∷◌, ◌++◌, Option, Some, None}
use Rattle.fixed_worth.proofs.Common.{Result, Ok, Err, refl, sym, ap, ◌∙◌, arith, unwrap_or, decimal, signed_decimal}
use Rattle.fixed_worth.proofs.Common.{bytes_eq-Decides, common_steps}
use lib.Chars.{codes}
use Rattle.fixed_worth.specs.declared.numerals.NumberFault.{NumberFault}
use Rattle.fixed_worth.specs.Numeral.{plain_of}
use Rattle.fixed_worth.proofs.PlainNumbers.{one_spelling}
use Rattle.certificate_file.specs.declared.cert_fault.CertFault.{CertFault}
use Rattle.certificate_file.specs.declared.cert_fault.LineFault.{LineFault}
use Rattle.certificate_file.specs.declared.body_lines.LineKind.{LineKind}
use Rattle.certificate_file.specs.declared.body_lines.LineKind.TheVariants.{Pit, Source, Rest, Sink, End}
use Rattle.certificate_file.specs.declared.body_lines.BodyLine.{BodyLine}
use Rattle.certificate_file.specs.Prelude.{Piece, number_below, words_of, read_line, line_kind_of, amount_said}
use Rattle.certificate_file.specs.Prelude.{amount_in, block_line, rest_line, line_with, line_of_words, line_of, is_end}
use Rattle.certificate_file.specs.Prelude.{next_line, cert_end_fault, fault_from, body_fault, lines_from}
use Rattle.certificate_file.specs.Prelude.{lines_of_pieces, spaced_words, words_with, line_words, body_text, end_text}
use Rattle.certificate_file.proofs.Texts.{pieces_text, words_make_line}
use Rattle.certificate_file.proofs.Going.{numbered, text_read, no_line_is}
use Rattle.certificate_file.proofs.Order.{met}

-- The key of a kind.
abbrev pub key_word : LineKind → List ℕ
key_word Pit = codes "PIT"
key_word Source = codes "SOURCE"
key_word Rest = codes "REST"
key_word Sink = codes "SINK"
key_word End = codes "END"

named : (key word : List ℕ) (k j : LineKind) → word ≡ key_word j → Some j ≡ Some k → key ≡ word → key ≡ key_word k
named key word k j w e h = h ∙ w ∙ ap key_word (ap (λ (o : Option LineKind). unwrap_or o k) e)

-- Numbers are spelled as they are printed.
below_at : (word : List ℕ) (limit j k : ℕ) (t : Bool) → plain_of word ≡ Ok (pos j) → cond t (Some j) None ≡ Some k
    → word ≡ decimal k
below_at word limit j k t e h = grind (arith, common_steps, (one_spelling word (pos j) e))

pub number_is : (word : List ℕ) (limit k : ℕ) → number_below limit word ≡ Some k → word ≡ decimal k
number_is word limit k h = grind (arith, common_steps, below_at)

amount_of_words : (counts : Bool) (v w : List ℕ) (a : ℤ × ℤ) (r s : Result ℤ NumberFault) → plain_of v ≡ r
    → plain_of w ≡ s → amount_said counts r s ≡ Some a → (v ≡ signed_decimal a.0) × (w ≡ signed_decimal a.1)
amount_of_words counts v w a (Ok x) (Ok y) e f h = grind (arith, common_steps, one_spelling)
amount_of_words counts v w a r s e f h = absurd cc

amount_is : (counts : Bool) (v w : List ℕ) (a : ℤ × ℤ) → amount_in counts v w ≡ Some a → (v ≡ signed_decimal a.0)
    × (w ≡ signed_decimal a.1)
amount_is counts v w a h = amount_of_words counts v w a (plain_of v) (plain_of w) refl refl h

block_words : (counts : Bool) (n : ℕ) (kind : LineKind) (words : List (List ℕ)) (l : BodyLine)
    → words_with kind l ≡ key_word kind ∷ decimal l.block ∷ signed_decimal l.worth ∷ signed_decimal l.count ∷ []
    → block_line counts n kind words ≡ Ok l → key_word kind ∷ words ≡ line_words l
block_words counts n kind words l e h = grind (arith, common_steps, no_line_is, numbered, amount_is, number_is)

rest_words : (counts : Bool) (n : ℕ) (words : List (List ℕ)) (l : BodyLine) → rest_line counts n words ≡ Ok l
    → key_word Rest ∷ words ≡ line_words l
rest_words counts n words l h = grind (arith, common_steps, no_line_is, numbered, amount_is, number_is)

kind_words : (counts : Bool) (n : ℕ) (k : LineKind) (words : List (List ℕ)) (l : BodyLine)
    → line_with counts n (Some k) words ≡ Ok l → key_word k ∷ words ≡ line_words l
kind_words counts n k words l h = grind (arith, common_steps, block_words, rest_words, no_line_is, numbered, number_is)

keyed_words : (counts : Bool) (n : ℕ) (key : List ℕ) (words : List (List ℕ)) (l : BodyLine) (o : Option LineKind)
    → line_kind_of key ≡ o → line_with counts n o words ≡ Ok l → key ∷ words ≡ line_words l
keyed_words counts n key words l (Some k) e h = ap (λ (w : List ℕ). w ∷ words)
    (grind (arith, common_steps, bytes_eq-Decides)) ∙ kind_words counts n k words l h
keyed_words counts n key words l None e h = no_line_is l h

line_words_are : (counts : Bool) (n : ℕ) (words : List (List ℕ)) (l : BodyLine) → line_of_words counts n words ≡ Ok l
    → words ≡ line_words l
line_words_are counts n words l h = grind (arith, common_steps, no_line_is, keyed_words)

pub line_is : (counts : Bool) (n : ℕ) (text : List ℕ) (l : BodyLine) → line_of counts n text ≡ Ok l
    → text ≡ spaced_words (line_words l)
line_is counts n text l h = sym (words_make_line text) ∙ ap spaced_words (line_words_are counts n (words_of text) l h)

pub read_ends : {A : Type 0} (f : List ℕ → Result A LineFault) (k : ℕ) (p : Piece) (x : A) → read_line f k p ≡ Ok x
    → p.ended ≡ true
read_ends f k p x h = grind (arith, common_steps)

pub piece_text : (p : Piece) (ps : List Piece) (line : List ℕ) → p.ended ≡ true → p.text ≡ line
    → pieces_text (p ∷ ps) ≡ line ++ (10 ∷ pieces_text ps)
piece_text p ps line e f = rw (e, f) refl

-- The body.
on : (counts : Bool) (n : ℕ) (has : ℕ → ℕ → Bool) (k : ℕ) (p : Piece) (ps : List Piece) (line : BodyLine) (t : Bool)
    → is_end line.kind ≡ t → p.ended ≡ true → p.text ≡ spaced_words (line_words line)
    → cond t (cert_end_fault (k + 1) ps) (body_fault counts n has (Some line) (k + 1) ps) ≡ None
    → (body_fault counts n has (Some line) (k + 1) ps ≡ None
    → pieces_text ps ≡ body_text (lines_of_pieces counts n ps) ++ end_text)
    → pieces_text (p ∷ ps) ≡ body_text (cond t [] (line ∷ lines_of_pieces counts n ps)) ++ end_text
on counts n has k p ps line t e f g h ih = grind (arith, common_steps)

read_on : (counts : Bool) (n : ℕ) (has : ℕ → ℕ → Bool) (previous : Option BodyLine) (k : ℕ) (p : Piece)
    (ps : List Piece) (r : Result BodyLine CertFault) → next_line counts n has previous (k + 1) p ≡ r
    → fault_from (cert_end_fault (k + 1) ps) (λ line. body_fault counts n has (Some line) (k + 1) ps) r ≡ None
    → ((line : BodyLine) → body_fault counts n has (Some line) (k + 1) ps ≡ None
    → pieces_text ps ≡ body_text (lines_of_pieces counts n ps) ++ end_text)
    → pieces_text (p ∷ ps) ≡ body_text (lines_from (lines_of_pieces counts n ps) (line_of counts n p.text)) ++ end_text
read_on counts n has previous k p ps (Err e) f h ih = absurd cc
read_on counts n has previous k p ps (Ok line) f h ih = grind (
  arith,
  common_steps,
  (met counts n has previous (k + 1) p line f),
  (text_read (line_of counts n) (k + 1) p line (met counts n has previous (k + 1) p line f).read),
  (read_ends (line_of counts n) (k + 1) p line (met counts n has previous (k + 1) p line f).read),
  (line_is counts n p.text line
      (text_read (line_of counts n) (k + 1) p line (met counts n has previous (k + 1) p line f).read)),
)

pub body_is : (counts : Bool) (n : ℕ) (has : ℕ → ℕ → Bool) (previous : Option BodyLine) (k : ℕ) (ps : List Piece)
    → body_fault counts n has previous k ps ≡ None → pieces_text ps ≡ body_text (lines_of_pieces counts n ps)
    ++ end_text
body_is counts n has previous k [] h = absurd cc
body_is counts n has previous k (p ∷ ps) h =
    read_on counts n has previous k p ps (next_line counts n has previous (k + 1) p) refl h
    (λ line g. body_is counts n has (Some line) (k + 1) ps g)
