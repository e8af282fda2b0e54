-- The digits of a number and numbers with their spaces, put in front of what a line has.
use Rattle.fixed_worth.proofs.Common.{◌≡◌, ℕ, suc, ◌+◌, ◌-◌, ◌/◌, ◌%◌, ◌<◌, ◌≤◌, ◌^◌, List, [], ◌∷◌, ◌++◌, length, drop}
use Rattle.fixed_worth.proofs.Common.{set, get_or, refl, sym, ap, ◌∙◌, arith, append_assoc, decimal, decimal_step_wide}
use Rattle.fixed_worth.proofs.Common.{decimal_digit, decimal_by_steps_wide, length-append, drop_all, common_steps}
use Rattle.std.proofs.Math.Seq.{drop-cons}
use Rattle.std.proofs.lemmas.Fmt.{length-decimal-le_wide}
use Rattle.std.proofs.lemmas.List.{length-drop}
use Rattle.prec_file.specs.Written.{spaced_numbers}

-- The bytes from start on are what stands after the digits of what is left, and then what stood there.
pub record ArePut (n left start : ℕ) (old bytes : List ℕ) : Type 0 where
  pub whole : decimal n ++ old ≡ decimal left ++ drop start bytes
  pub room : length (decimal left) ≤ start
  pub small : left < 10 ^ 10
  pub within : start ≤ 77022
  pub size : length bytes ≡ 77022

-- a number has a digit
some_digit : (n : ℕ) → n < 10 ^ 64 → 0 < length (decimal n)
some_digit =
    decimal_by_steps_wide (λ n ds. 0 < length ds) (λ n h. omega arith)
    (λ n ds h k. omega (arith, k, length-append ds ((48 + n % 10) ∷ [])))

-- a number of 32 bits has at most ten
pub few_digits : (n : ℕ) → n < 2 ^ 32 → length (decimal n) ≤ 10
few_digits n h = length-decimal-le_wide 10 n (omega arith) (omega (arith, h)) (omega (arith, h))

pub put_begins : (n start : ℕ) (held bytes : List ℕ) → n < 2 ^ 32 → length bytes ≡ 77022 → start ≤ 77022
    → drop start bytes ≡ held → length held + 10 ≤ 77022 → ArePut n n start (drop start bytes) bytes
put_begins n start held bytes small size within same room =
    let d = length-drop start bytes in
    let e = ap length same in
    record {
      whole = refl;
      room = omega (arith, few_digits n small, d, e, size, within, room);
      small = omega
          (arith, small);
      within = within;
      size = size;
    }

pub starts_above : (n left start : ℕ) (old bytes : List ℕ) → ArePut n left start old bytes → 1 ≤ start
starts_above n left start old bytes a = omega (arith, some_digit left (omega (arith, a.small)), a.room)

pub put_before : (n left start : ℕ) (old bytes : List ℕ) → ArePut n left start old bytes → 10 ≤ left
    → ArePut n (left / 10) (start - 1) old (set bytes (start - 1) (48 + left % 10))
put_before n left start old bytes a h = grind (arith, common_steps, decimal_step_wide)

pub all_put : (n left start : ℕ) (old bytes : List ℕ) → ArePut n left start old bytes → left < 10
    → drop (start - 1) (set bytes (start - 1) (48 + left)) ≡ decimal n ++ old
all_put n left start old bytes a h = grind (arith, common_steps, decimal_digit)

pub few_more : (n : ℕ) (old new : List ℕ) → n < 2 ^ 32 → new ≡ decimal n ++ old → length new ≤ length old + 10
few_more n old new h e = omega (arith, ap length e, length-append (decimal n) old, few_digits n h)

-- no number yet
pub none_put : (numbers held : List ℕ) (left : ℕ) → left ≡ length numbers
    → held ≡ spaced_numbers (drop left numbers) ++ held
none_put numbers held left e = ap (λ (ns : List ℕ). spaced_numbers ns ++ held)
    (sym (drop_all left numbers (omega (arith, e))))

-- one more number
pub one_more_put : (numbers was held mid new : List ℕ) (left : ℕ) → 0 < left → left ≤ length numbers
    → held ≡ spaced_numbers (drop left numbers) ++ was
    → mid ≡ decimal (get_or numbers (left - 1) 0) ++ held → new ≡ 32 ∷ mid
    → new ≡ spaced_numbers (drop (left - 1) numbers) ++ was
one_more_put numbers was held mid new left some within h m e =
    let one : suc (left - 1) ≡ left = omega (arith, some) in
    let next : drop (left - 1) numbers ≡ get_or numbers (left - 1) 0 ∷ drop left numbers =
    drop-cons numbers (left - 1) 0 (omega (arith, some, within))
    ∙ ap (λ (k : ℕ). get_or numbers (left - 1) 0 ∷ drop k numbers) one in
    let digits = decimal (get_or numbers (left - 1) 0) in
    e ∙ ap (λ (t : List ℕ). 32 ∷ t) (m ∙ ap (λ (t : List ℕ). digits ++ t) h
    ∙ sym (append_assoc digits (spaced_numbers (drop left numbers)) was))
    ∙ ap (λ (ns : List ℕ). spaced_numbers ns ++ was) (sym next)

-- the whole line
pub line_put : (b k : ℕ) (numbers end row counted spaced line : List ℕ) → end ≡ 10 ∷ []
    → row ≡ spaced_numbers numbers ++ end → counted ≡ decimal k ++ row → spaced ≡ 32 ∷ counted
    → line ≡ decimal b ++ spaced
    → line ≡ (decimal b ++ (32 ∷ decimal k)) ++ (spaced_numbers numbers ++ (10 ∷ []))
line_put b k numbers end row counted spaced line e r c s l =
    l ∙ ap (λ (t : List ℕ). decimal b ++ t)
    (s ∙ ap (λ (t : List ℕ). 32 ∷ t)
    (c ∙ ap (λ (t : List ℕ). decimal k ++ t) (r ∙ ap (λ (t : List ℕ). spaced_numbers numbers ++ t) e)))
    ∙ sym (append_assoc (decimal b) (32 ∷ decimal k) (spaced_numbers numbers ++ (10 ∷ [])))
