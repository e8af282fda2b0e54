-- A number that stands first in a line, and what is left after it.
use Rattle.fixed_worth.proofs.Common.{◌≡◌, ℕ, ◌+◌, ◌-◌, ◌*◌, ◌<◌, ◌≤◌, Bool, true, false, not, List, [], ◌∷◌, ◌++◌}
use Rattle.fixed_worth.proofs.Common.{length, take, drop, get_or, refl, sym, ap, ◌∙◌, arith, Some, None, Result, Ok}
use Rattle.fixed_worth.proofs.Common.{list_all, position_or_len, take_more, length-drop, take-append-drop}
use Rattle.fixed_worth.proofs.Common.{length-take-le, list_all_more, prefix_len_stops, and_parts, and_from}
use Rattle.fixed_worth.proofs.Common.{common_steps}
use Rattle.fixed_worth.specs.declared.numerals.NumberFault.{NumberFault}
use Rattle.fixed_worth.specs.Prelude.{BeginsWithField, is_digit, value_of, whole_of, first_whole, reads, is_remark}
use Rattle.fixed_worth.specs.Prelude.{WordRun, is_separator, runs_from}
use Rattle.fixed_worth.proofs.Cuts.{first_run}
use Rattle.fixed_worth.proofs.Digits.{value_of-append, value_below, power_fits}

-- one more digit after those that are read
pub one_more : (text : List ℕ) (i : ℕ) → i < length text → value_of (take (i + 1) text) ≡ value_of (take i text) * 10
    + (get_or text i 0 - 48)
one_more text i h = grind (arith, common_steps, value_of-append, take_more)

pub digit_more : (text : List ℕ) (i : ℕ) → i < length text → list_all is_digit (take i text) ≡ true
    → is_digit (get_or text i 0) ≡ true → list_all is_digit (take (i + 1) text) ≡ true
digit_more text i h all one = list_all_more is_digit text i 0 h ∙ rw (all, one) refl

-- a digit parts no fields
digit_inside : (b : ℕ) → is_digit b ≡ true → is_separator b ≡ false
unfolding is_separator
digit_inside b h = grind arith

separator_after : (w : ℕ) (bs past : List ℕ) → position_or_len is_separator bs ≡ w → past ≡ drop w bs
    → 0 < length past → is_separator (get_or past 0 0) ≡ true
separator_after w bs past ends e h = grind (arith, common_steps, prefix_len_stops)

reads_as : (text : List ℕ) (w v : ℕ) → length text ≡ w → 0 < w → w ≤ 19 → list_all is_digit text ≡ true
    → v ≡ value_of text → whole_of text ≡ Ok v
unfolding whole_of
reads_as text w v size some few digits value = grind (arith, common_steps, value_below, power_fits)

-- What stands first is the field, and what is left after it and its separator are the other fields.
field_passed : (p w : ℕ) (bs past rest : List ℕ) → 0 < w → w ≤ length bs → position_or_len is_separator bs ≡ w
    → past ≡ drop w bs → rest ≡ drop 1 past
    → runs_from p bs ≡ record { text = take w bs; place = p } ∷ runs_from (p + (length bs - length rest)) rest
field_passed p w bs past rest some within ends e f = grind
    (arith, common_steps, first_run, separator_after, length-drop)

-- nothing that is looked for stands in the first part
pub passed : (p : ℕ → Bool) (xs ys : List ℕ) → list_all (λ b. not (p b)) xs ≡ true
    → position_or_len p (xs ++ ys) ≡ length xs + position_or_len p ys
passed p [] ys h = omega arith
passed p (x ∷ xs) ys h =
    let both = and_parts (not (p x)) (list_all (λ b. not (p b)) xs) h in
    let ih = passed p xs ys both.1 in
    rw both.0 (omega (arith, ih))

-- Bytes without a separator that a separator or the end follows are the first field.
pub begins_with : (text field past rest : List ℕ) → text ≡ field ++ past → 0 < length field
    → list_all (λ b. not (is_separator b)) field ≡ true → (0 < length past → is_separator (get_or past 0 0) ≡ true)
    → rest ≡ drop 1 past → BeginsWithField text field rest
begins_with text field past rest e some inside ends f = grind (arith, common_steps, passed, field_passed)

digits_inside : (xs : List ℕ) → list_all is_digit xs ≡ true → list_all (λ b. not (is_separator b)) xs ≡ true
digits_inside [] h = refl
digits_inside (x ∷ xs) h = grind (
  arith,
  common_steps,
  and_parts,
  and_from,
  digit_inside,
  (digits_inside xs (and_parts (is_digit x) (list_all is_digit xs) h).1),
)

-- A short run of digits with a separator or the end after it is the first field, and reads as its value.
pub short_number : (text past rest : List ℕ) (w v : ℕ) → 0 < w → w ≤ length text → w ≤ 19
    → list_all is_digit (take w text) ≡ true → v ≡ value_of (take w text)
    → past ≡ drop w text → rest ≡ drop 1 past → (0 < length past → is_separator (get_or past 0 0) ≡ true)
    → (field : List ℕ) × BeginsWithField text field rest × (whole_of field ≡ Ok v)
short_number text past rest w v some within few digits value e f ends =
    let size = length-take-le w text within in
    let split : text ≡ take w text ++ past = sym (take-append-drop w text) ∙ ap (λ xs. take w text ++ xs) (sym e) in (
      take w text,
      begins_with text (take w text) past rest split (omega (arith, size)) (digits_inside (take w text) digits) ends f,
      reads_as (take w text) w v size some few digits value,
    )

-- What was read is the first of the fields.
pub first_is : (fields : List WordRun) (read : Result ℕ NumberFault) → Some read ≡ first_whole fields
    → (field : WordRun) × (fields ≡ field ∷ drop 1 fields) × (read ≡ whole_of field.text)
first_is fields read e = grind (arith, common_steps)

pub no_field : (fields : List WordRun) → None ≡ first_whole fields → fields ≡ []
no_field fields e = grind (arith, common_steps)

not_remark : (b : ℕ) (bs : List ℕ) (t : Bool) → is_digit b ≡ t → reads (b ∷ bs) ≡ true → is_remark (b ∷ bs) ≡ false
unfolding whole_of
not_remark b bs t e h = grind (arith, common_steps)

-- a number begins no remark
pub number_no_remark : (field : List ℕ) → reads field ≡ true → is_remark field ≡ false
number_no_remark field h = grind (arith, common_steps, not_remark)
