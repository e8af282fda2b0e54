-- The lines of blocks are read back.
use Rattle.fixed_worth.proofs.Common.{◌≡◌, ℕ, ℤ, pos, zero, suc, ◌+◌, ◌^◌, ◌<◌, ◌≤◌, Bool, true, false, eqb, List, []}
use Rattle.fixed_worth.proofs.Common.{◌∷◌, ◌++◌, length, get_or, None, refl, ap, ◌∙◌, arith, All, length-append}
use Rattle.fixed_worth.proofs.Common.{append-nil, ◌||◌, unsigned_abs, codes, option_or, list_all, decimal, and_from}
use Rattle.fixed_worth.proofs.Common.{nat_tests, length-decimal-le_wide, list_all-append, common_steps}
use Rattle.fixed_worth.specs.declared.limits.TheConstants.{MOST_BLOCKS, LINE_BYTES}
use Rattle.fixed_worth.specs.Prelude.{amount_text, Line, numbered_lines, is_skipped, is_separator, fields_of, block_of}
use Rattle.fixed_worth.specs.Prelude.{is_record_of}
use Rattle.fixed_worth.proofs.Lengths.{printed_micros_short}
use Rattle.upit_file.specs.Prelude.{is_long, fields_in, is_eof, value_of_record, upit_shape_fault, upit_line_fault}
use Rattle.upit_file.specs.Prelude.{has_value_record, value_among, first_upit_fault, before_end, record_line}
use Rattle.upit_file.specs.Prelude.{record_lines}
use Rattle.fixed_worth.proofs.Joined.{is_one_line, is_word, fields_cut}
use Rattle.fixed_worth.proofs.NextLine.{line, short}
use Rattle.fixed_worth.proofs.WrittenNumbers.{whole_of-decimal, digit_separates_not, digit_is_one_line, decimal_is_word}
use Rattle.fixed_worth.proofs.WrittenNumbers.{decimal_is_one_line, decimal_is_no_remark}
use Rattle.upit_file.proofs.BodyLines.{has-push}
use Rattle.upit_file.proofs.ReadBack.{printed_read, printed_all, printed_some}

abbrev pub Sizes : List ℤ → Type 0
Sizes [] = Unit {0}
Sizes (v ∷ vs) = (unsigned_abs v ≤ 10 ^ 18) × Sizes vs

pub sizes_each : (vs : List ℤ) → All (λ v. unsigned_abs v ≤ 10 ^ 18) vs → Sizes vs
sizes_each [] a = tt
sizes_each (v ∷ vs) a = (a 0 v (omega arith), sizes_each vs (λ k d h. a (suc k) d (omega arith)))

printed_word : (v : ℤ) → unsigned_abs v ≤ 10 ^ 18 → is_word (amount_text 6 v) ≡ true
unfolding is_separator
printed_word v h = grind (arith, common_steps, printed_some, and_from, printed_all, digit_separates_not)

pub record_fields : (b : ℕ) (v : ℤ) → b < MOST_BLOCKS → unsigned_abs v ≤ 10 ^ 18
    → fields_of (record_line b v) ≡ decimal b ∷ amount_text 6 v ∷ []
record_fields b v h s = grind (
  arith,
  common_steps,
  (append-nil (amount_text 6 v)),
  (fields_cut (decimal b) (amount_text 6 v ∷ []) (decimal_is_word b (omega arith))
      (and_from (is_word (amount_text 6 v)) true (printed_word v s) refl)),
  (decimal_is_word b (omega arith)),
  (and_from (is_word (amount_text 6 v)) true (printed_word v s) refl),
  (is_word (amount_text 6 v)),
  (printed_word v s),
)

record_short : (b : ℕ) (v : ℤ) → b < MOST_BLOCKS → unsigned_abs v ≤ 10 ^ 18 → length (record_line b v) ≤ LINE_BYTES
record_short b v h s = grind (
  arith,
  common_steps,
  (length-decimal-le_wide 8 b (omega arith) (omega arith) (omega arith)),
  (printed_micros_short v s),
  (length-append (decimal b) (32 ∷ amount_text 6 v)),
)

-- The line is the record of block b with the value v.
record IsRecordOf (b : ℕ) (v : ℤ) (l : Line) : Type 0 where
  small : is_long l ≡ false
  open_so : is_eof (fields_in l) ≡ false
  kept : is_skipped (fields_in l) ≡ false
  shape : upit_shape_fault l.number (fields_in l) ≡ None
  block : block_of (fields_in l) ≡ b
  worth : value_of_record (fields_in l) ≡ v

two_shape : (line b : ℕ) (v : ℤ) → b < MOST_BLOCKS → unsigned_abs v ≤ 10 ^ 18
    → upit_shape_fault line (decimal b ∷ amount_text 6 v ∷ []) ≡ None
two_shape line b v h s = rw (whole_of-decimal b (omega arith), printed_read v s) refl

two_block : (b : ℕ) (v : ℤ) → b < MOST_BLOCKS → block_of (decimal b ∷ amount_text 6 v ∷ []) ≡ b
two_block b v h = rw (whole_of-decimal b (omega arith)) refl

is_record : (k b : ℕ) (v : ℤ) → b < MOST_BLOCKS → unsigned_abs v ≤ 10 ^ 18 → IsRecordOf b v (line k (record_line b v))
is_record k b v h s = grind (
  arith,
  common_steps,
  (short (record_line b v) (record_short b v h s)),
  (record_short b v h s),
  (line k (record_line b v)),
  (record_fields b v h s),
  (decimal_is_no_remark b (omega arith)),
  (two_shape k b v h s),
  (two_block b v h),
  printed_read,
)

record_of : (b j : ℕ) (v : ℤ) (l : Line) → IsRecordOf b v l → is_record_of j (fields_in l) ≡ eqb b j
record_of b j v l r = rw (r.kept) (ap (λ x. eqb x j) r.block)

no_line_fault : (n b : ℕ) (v : ℤ) (had : ℕ → Bool) (l : Line) → IsRecordOf b v l → b < n → had b ≡ false
    → upit_line_fault n had l ≡ None
no_line_fault n b v had l r h f = grind (arith, common_steps)

-- The records have no fault.
pub no_first_fault : (n k b : ℕ) (vs : List ℤ) (before : List Line) → b + length vs ≤ n → n ≤ MOST_BLOCKS → Sizes vs
    → ((j : ℕ) → b ≤ j → has_value_record before j ≡ false)
    → first_upit_fault n before (numbered_lines k (record_lines b vs)) ≡ None
no_first_fault n k b [] before h m s new = refl
no_first_fault n k b (v ∷ vs) before h m s new =
    let l = line (k + 1) (record_line b v) in
    let r = is_record (k + 1) b v (omega arith) s.0 in
    let none = no_line_fault n b v (has_value_record before) l r (omega arith) (new b (omega arith)) in
    let later : (j : ℕ) → b + 1 ≤ j → has_value_record (before ++ l ∷ []) j ≡ false = λ j i.
    let other : eqb b j ≡ false = grind (arith, nat_tests) in
    has-push before l j ∙ ap (λ t. has_value_record before j || t) (record_of b j v l r ∙ other)
    ∙ ap (λ t. t || false) (new j (omega arith)) in
    ap (λ o. option_or o (first_upit_fault n (before ++ l ∷ []) (numbered_lines (k + 1) (record_lines (b + 1) vs))))
    none ∙ no_first_fault n (k + 1) (b + 1) vs (before ++ l ∷ []) (omega arith) m s.1 later

-- Each block has its value.
pub values_back : (k b i : ℕ) (vs : List ℤ) → i < length vs → b + length vs ≤ MOST_BLOCKS → Sizes vs
    → value_among (numbered_lines k (record_lines b vs)) (b + i) ≡ get_or vs i (pos 0)
values_back k b i [] h m s = absurd (omega arith)
values_back k b zero (v ∷ vs) h m s = grind (
  arith,
  common_steps,
  (line (k + 1) (record_line b v)),
  (is_record (k + 1) b v (omega arith) s.0),
  (record_of b (b + 0) v (line (k + 1) (record_line b v)) (is_record (k + 1) b v (omega arith) s.0)),
)
values_back k b (suc i) (v ∷ vs) h m s = grind (
  arith,
  common_steps,
  (line (k + 1) (record_line b v)),
  (is_record (k + 1) b v (omega arith) s.0),
  (record_of b (b + suc i) v (line (k + 1) (record_line b v)) (is_record (k + 1) b v (omega arith) s.0)),
  (values_back (k + 1) (b + 1) i vs (omega arith) (omega arith) s.1),
)

-- The records end at EOF.
pub body_back : (k b : ℕ) (vs : List ℤ) → b + length vs ≤ MOST_BLOCKS → Sizes vs
    → before_end (numbered_lines k (record_lines b vs ++ (codes "EOF" ∷ []))) ≡ numbered_lines k (record_lines b vs)
unfolding is_separator
body_back k b [] m s = refl
body_back k b (v ∷ vs) m s = grind (
  arith,
  common_steps,
  (line (k + 1) (record_line b v)),
  (is_record (k + 1) b v (omega arith) s.0),
  (body_back (k + 1) (b + 1) vs (omega arith) s.1),
)

-- No record has a line feed.
pub record_lines_whole : (b : ℕ) (vs : List ℤ) → b + length vs ≤ MOST_BLOCKS → Sizes vs
    → list_all is_one_line (record_lines b vs) ≡ true
record_lines_whole b [] m s = refl
record_lines_whole b (v ∷ vs) m s = grind (
  arith,
  common_steps,
  is_one_line,
  decimal_is_one_line,
  printed_all,
  digit_is_one_line,
  list_all-append,
  and_from,
  (record_lines_whole (b + 1) vs (omega arith) s.1),
)
