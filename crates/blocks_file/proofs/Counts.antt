-- Counting the records of a text.
use Rattle.fixed_worth.proofs.Common.{◌≡◌, ℕ, ◌+◌, ◌<◌, ◌≤◌, true, false, cond, List, [], ◌∷◌, ◌++◌, length, get_or}
use Rattle.fixed_worth.proofs.Common.{refl, sym, ap, ◌∙◌, arith, append-nil, append_assoc, nat_lt, get_or_push}
use Rattle.fixed_worth.proofs.Common.{get_or_append_left, length-append, flat_map-append}
use Rattle.fixed_worth.specs.declared.limits.TheConstants.{LINE_BYTES}
use Rattle.fixed_worth.specs.Prelude.{Left, fields_of, Line, numbered_lines, is_skipped}
use Rattle.blocks_file.specs.Records.{record_line_numbers, long_fault}
use Rattle.fixed_worth.proofs.NextLine.{line, Next, next_is, short}

-- What has been counted, and what is left.
pub record Counted (all : List Line) (most count extra : ℕ) (left : Left) : Type 0 where
  pub before : List Line
  pub whole : before ++ numbered_lines left.number left.lines ≡ all
  pub long : long_fault (numbered_lines left.number left.lines) ≡ long_fault all
  pub counted : length (record_line_numbers before) ≡ count
  pub found : most < count → get_or (record_line_numbers before) most 0 ≡ extra
  pub small : count ≤ left.number

next_long : (k : ℕ) (text : List ℕ) (ls : List Line) → nat_lt LINE_BYTES (length text) ≡ false
    → long_fault (line k text ∷ ls) ≡ long_fault ls
next_long k text ls s = rw s refl

pub push_skipped : (before : List Line) (k : ℕ) (text : List ℕ) → is_skipped (fields_of text) ≡ true
    → record_line_numbers (before ++ line k text ∷ []) ≡ record_line_numbers before
push_skipped before k text s = flat_map-append (λ l. cond (is_skipped (fields_of l.text)) [] (l.number ∷ [])) before
    (line k text ∷ []) ∙ rw s (append-nil (record_line_numbers before))

pub push_record : (before : List Line) (k : ℕ) (text : List ℕ) → is_skipped (fields_of text) ≡ false
    → record_line_numbers (before ++ line k text ∷ []) ≡ record_line_numbers before ++ k ∷ []
push_record before k text s = flat_map-append (λ l. cond (is_skipped (fields_of l.text)) [] (l.number ∷ [])) before
    (line k text ∷ []) ∙ rw s refl

pub moved : (all before : List Line) (left next : Left) (k : ℕ) (text : List ℕ)
    → before ++ numbered_lines left.number left.lines ≡ all → Next left next k text
    → (before ++ line k text ∷ []) ++ numbered_lines next.number next.lines ≡ all
moved all before left next k text w h = append_assoc before (line k text ∷ []) (numbered_lines next.number next.lines)
    ∙ ap (λ (xs : List Line). before ++ xs) (sym (next_is left next k text h)) ∙ w

pub still_long : (all : List Line) (left next : Left) (k : ℕ) (text : List ℕ)
    → long_fault (numbered_lines left.number left.lines) ≡ long_fault all → Next left next k text
    → long_fault (numbered_lines next.number next.lines) ≡ long_fault all
still_long all left next k text l h = sym
    (next_long k text (numbered_lines next.number next.lines) (short text h.small))
    ∙ ap long_fault (sym (next_is left next k text h)) ∙ l

pub passes : (all : List Line) (most count extra : ℕ) (left next : Left) (k : ℕ) (text : List ℕ)
    → Counted all most count extra left → Next left next k text → is_skipped (fields_of text) ≡ true
    → Counted all most count extra next
passes all most count extra left next k text g h s = record {
  before = g.before ++ line k text ∷ [];
  whole = moved all g.before left next k text g.whole h;
  long = still_long all left next k text g.long h;
  counted = ap length (push_skipped g.before k text s) ∙ g.counted;
  found = λ m. ap (λ (xs : List ℕ). get_or xs most 0) (push_skipped g.before k text s) ∙ g.found m;
  small = omega (arith, g.small, h.number);
}

pub longer : (xs : List ℕ) (k : ℕ) → length (xs ++ k ∷ []) ≡ length xs + 1
longer xs k = length-append xs (k ∷ [])

-- The line is the first record that is too many.
pub is_extra : (all : List Line) (most count extra : ℕ) (left next : Left) (k : ℕ) (text : List ℕ)
    → Counted all most count extra left → Next left next k text → is_skipped (fields_of text) ≡ false → count ≡ most
    → Counted all most (count + 1) k next
is_extra all most count extra left next k text g h s e = record {
  before = g.before ++ line k text ∷ [];
  whole = moved all g.before left next k text g.whole h;
  long = still_long all left next k text g.long h;
  counted = ap length (push_record g.before k text s) ∙ longer (record_line_numbers g.before) k
      ∙ ap (λ (n : ℕ). n + 1) g.counted;
  found = λ m. ap (λ (xs : List ℕ). get_or xs most 0) (push_record g.before k text s)
      ∙ get_or_push (record_line_numbers g.before) k 0 most (g.counted ∙ e);
  small = omega (arith, g.small, h.number);
}

-- The line is another record.
pub is_counted : (all : List Line) (most count extra : ℕ) (left next : Left) (k : ℕ) (text : List ℕ)
    → Counted all most count extra left → Next left next k text → is_skipped (fields_of text) ≡ false
    → (count ≡ most → ⊥) → Counted all most (count + 1) extra next
is_counted all most count extra left next k text g h s ne = record {
  before = g.before ++ line k text ∷ [];
  whole = moved all g.before left next k text g.whole h;
  long = still_long all left next k text g.long h;
  counted = ap length (push_record g.before k text s) ∙ longer (record_line_numbers g.before) k
      ∙ ap (λ (n : ℕ). n + 1) g.counted;
  found = λ m.
      let more : most < count = omega (arith, m, ne) in
      ap (λ (xs : List ℕ). get_or xs most 0) (push_record g.before k text s)
      ∙ get_or_append_left (record_line_numbers g.before) (k ∷ []) 0 most (omega (arith, more, g.counted))
      ∙ g.found more;
  small = omega (arith, g.small, h.number);
}
