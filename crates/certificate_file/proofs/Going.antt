-- Reading line after line: what a line that is read says, and what is left.
use Rattle.fixed_worth.proofs.Common.{◌≡◌, ℕ, get_or, ◌+◌, ◌<◌, Bool, true, false, ℤ, pos, ◌⊎◌, List, [], ◌∷◌, ◌++◌}
use Rattle.fixed_worth.proofs.Common.{length, Option, Some, None, Result, Ok, Err, refl, ap, arith, append_assoc}
use Rattle.fixed_worth.proofs.Common.{common_steps}
use Rattle.ordered_group.specs.Prelude.{zero_amount, amount_at}
use Rattle.certificate_file.specs.declared.cert_fault.CertFault.{CertFault}
use Rattle.certificate_file.specs.declared.cert_fault.LineFault.{LineFault}
use Rattle.certificate_file.specs.declared.cert_fault.LineFault.TheVariants.{Text}
use Rattle.certificate_file.specs.declared.body_lines.LineKind.{LineKind}
use Rattle.certificate_file.specs.declared.body_lines.LineKind.TheVariants.{Pit, Source, Rest, Sink, End}
use Rattle.certificate_file.specs.declared.body_lines.BodyLine.{BodyLine}
use Rattle.certificate_file.specs.Prelude.{Piece, Unread, IsPieceRead, read_line, number_below, words_of, line_kind_of}
use Rattle.certificate_file.specs.Prelude.{amount_in, is_amount, numbered_line, block_line, rest_line, line_with}
use Rattle.certificate_file.specs.Prelude.{line_of_words, line_of, is_end, is_of_model, may_follow, next_line}
use Rattle.certificate_file.specs.Prelude.{cert_end_fault, fault_from, body_fault, lines_of_pieces, Covers}
use Rattle.certificate_file.specs.Prelude.{UnlessCertMemory, pit_of, block_if_pit, given_amount, gives_source}
use Rattle.certificate_file.specs.Prelude.{gives_rest, gives_sink, is_rest, amount_of, Gathered, Adds}
use Rattle.prec_file.specs.Rests.{has_pair}

pub text_read : {A : Type 0} (f : List ℕ → Result A LineFault) (k : ℕ) (p : Piece) (x : A) → read_line f k p ≡ Ok x
    → f p.text ≡ Ok x
text_read f k p x h = grind (arith, common_steps)

-- A line of the body, by what it is made of.
pub record Numbered (kind : LineKind) (b o : Option ℕ) (a : Option (ℤ × ℤ)) (line : BodyLine) : Type 0 where
  pub kind_is : line.kind ≡ kind
  pub block_is : b ≡ Some line.block
  pub other_is : o ≡ Some line.other
  pub amount_is : a ≡ Some (line.worth, line.count)

pub numbered : (kind : LineKind) (b o : Option ℕ) (a : Option (ℤ × ℤ)) (line : BodyLine)
    → numbered_line kind b o a ≡ Ok line → Numbered kind b o a line
numbered kind b o a line h = grind (arith, common_steps)

-- A count is zero where the group has none.
abbrev pub Counted : Bool → ℤ → Type 0
Counted counts c = (counts ≡ true) ⊎ (c ≡ pos 0)

-- A line of such a kind has an amount.
abbrev pub carries : LineKind → Bool
carries Pit = false
carries End = false
carries _ = true

-- What a reader may rely on: where the line is not the last one, its block is one of n; only a REST line has a
-- predecessor; and the count fits the group.
pub record Sound (counts : Bool) (n : ℕ) (line : BodyLine) : Type 0 where
  pub block : is_end line.kind ≡ false → line.block < n
  pub other : is_rest line.kind ≡ false → line.other ≡ 0
  pub none : line.kind ≡ Pit → amount_of line ≡ zero_amount
  pub some : carries line.kind ≡ true → is_amount counts line.worth line.count ≡ true
  pub count : Counted counts line.count

abbrev refused : Result BodyLine LineFault
refused = Err Text

pub no_line_is : (line : BodyLine) {P : Type 0} → refused ≡ Ok line → P
no_line_is line h = absurd cc

sound_amount : (counts : Bool) (n : ℕ) (kind : LineKind) (b w c : List ℕ) (o : Option ℕ) (line : BodyLine)
    → Numbered kind (number_below n b) o (amount_in counts w c) line → (is_rest kind ≡ false → o ≡ Some 0)
    → carries kind ≡ true → Sound counts n line
sound_amount counts n kind b w c o line m z y = grind (arith, common_steps)

sound_block : (counts : Bool) (n : ℕ) (kind : LineKind) (words : List (List ℕ)) (line : BodyLine)
    → carries kind ≡ true → block_line counts n kind words ≡ Ok line → Sound counts n line
sound_block counts n kind (b ∷ w ∷ c ∷ []) line y h = sound_amount counts n kind b w c (Some 0) line
    (numbered kind (number_below n b) (Some 0) (amount_in counts w c) line h) (λ _. refl) y
sound_block counts n kind _ line y h = no_line_is line h

sound_rest : (counts : Bool) (n : ℕ) (words : List (List ℕ)) (line : BodyLine) → rest_line counts n words ≡ Ok line
    → Sound counts n line
sound_rest counts n (b ∷ p ∷ w ∷ c ∷ []) line h = sound_amount counts n Rest b w c (number_below n p) line
    (numbered Rest (number_below n b) (number_below n p) (amount_in counts w c) line h)
    (λ e. absurd (let z : true ≡ false = e in cc)) refl
sound_rest counts n _ line h = no_line_is line h

sound_with : (counts : Bool) (n : ℕ) (o : Option LineKind) (words : List (List ℕ)) (line : BodyLine)
    → line_with counts n o words ≡ Ok line → Sound counts n line
sound_with counts n None words line h = no_line_is line h
sound_with counts n (Some Source) words line h = sound_block counts n Source words line refl h
sound_with counts n (Some Rest) words line h = sound_rest counts n words line h
sound_with counts n (Some Sink) words line h = sound_block counts n Sink words line refl h
sound_with counts n (Some _) words line h = grind (arith, common_steps)

sound_words : (counts : Bool) (n : ℕ) (words : List (List ℕ)) (line : BodyLine)
    → line_of_words counts n words ≡ Ok line → Sound counts n line
sound_words counts n [] line h = no_line_is line h
sound_words counts n (key ∷ words) line h = sound_with counts n (line_kind_of key) words line h

pub sound : (counts : Bool) (n : ℕ) (text : List ℕ) (line : BodyLine) → line_of counts n text ≡ Ok line
    → Sound counts n line
sound counts n text line h = sound_words counts n (words_of text) line h

-- What is gathered, with what is left, is what all lines say; and what is wrong is wrong with what is left.
pub record Going (counts : Bool) (n : ℕ) (pairs : List (ℕ × ℕ)) (all : Unread) (start : Gathered)
    (previous : Option BodyLine) (left : Unread) (so : Gathered) : Type 0 where
  pub same_fault : body_fault counts n (has_pair pairs) previous left.number left.pieces ≡ body_fault counts n
      (has_pair pairs) None all.number all.pieces
  pub pit : so.pit ++ pit_of (lines_of_pieces counts n left.pieces) ≡ start.pit ++ pit_of
      (lines_of_pieces counts n all.pieces)
  pub source : (b : ℕ) → b < n → given_amount (gives_source b) (amount_at so.flow.source b)
      (lines_of_pieces counts n left.pieces) ≡ given_amount (gives_source b) (amount_at start.flow.source b)
      (lines_of_pieces counts n all.pieces)
  pub rest : (k : ℕ) → k < length pairs → given_amount (gives_rest (get_or pairs k (0, 0))) (amount_at so.flow.rest k)
      (lines_of_pieces counts n left.pieces) ≡ given_amount (gives_rest (get_or pairs k (0, 0)))
      (amount_at start.flow.rest k) (lines_of_pieces counts n all.pieces)
  pub sink : (b : ℕ) → b < n → given_amount (gives_sink b) (amount_at so.flow.sink b)
      (lines_of_pieces counts n left.pieces) ≡ given_amount (gives_sink b) (amount_at start.flow.sink b)
      (lines_of_pieces counts n all.pieces)
  pub covers : Covers n (length pairs) so.flow

-- One line on.
fault_at : (counts : Bool) (n : ℕ) (has : ℕ → ℕ → Bool) (previous : Option BodyLine) (left : Unread) (p : Piece)
    (ps : List Piece) → left.pieces ≡ p ∷ ps
    → body_fault counts n has previous left.number left.pieces ≡ fault_from (cert_end_fault (left.number + 1) ps)
    (λ line. body_fault counts n has (Some line) (left.number + 1) ps)
    (next_line counts n has previous (left.number + 1) p)
fault_at counts n has previous left p ps e = ap (body_fault counts n has previous left.number) e

pub goes_on : (counts : Bool) (n : ℕ) (pairs : List (ℕ × ℕ)) (all : Unread) (start : Gathered)
    (previous : Option BodyLine) (left next : Unread) (so later : Gathered) (line : BodyLine)
    → Going counts n pairs all start previous left so → IsPieceRead (line_of counts n) left next line
    → may_follow previous line ≡ true → is_end line.kind ≡ false → is_of_model (has_pair pairs) line.kind line ≡ true
    → Covers n (length pairs) later.flow → Adds n pairs (line ∷ []) so later
    → Going counts n pairs all start (Some line) next later
goes_on counts n pairs all start previous left next so later line g p f e m c a = grind (
  arith,
  common_steps,
  (has_pair pairs),
  (text_read (line_of counts n) next.number p.piece line p.read),
  (fault_at counts n (has_pair pairs) previous left p.piece next.pieces p.pieces),
  (append_assoc so.pit (block_if_pit line.kind line.block []) (pit_of (lines_of_pieces counts n next.pieces))),
)

pub always : (e : CertFault) {P : Type 0} → P → UnlessCertMemory e P
always e h = grind (arith, common_steps)
