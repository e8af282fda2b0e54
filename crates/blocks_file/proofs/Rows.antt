-- The values of a record's chosen columns.
use Rattle.fixed_worth.proofs.Common.{◌≡◌, ℕ, ℤ, pos, suc, ◌+◌, ◌^◌, ◌<◌, ◌≤◌, unsigned_abs, Bool, true, false, not}
use Rattle.fixed_worth.proofs.Common.{cond, eqb, inl, inr, List, [], ◌∷◌, length, get_or, drop, Some, None, Ok, Err}
use Rattle.fixed_worth.proofs.Common.{refl, sym, ap, ◌∙◌, arith, true≢false, ◌||◌, nat_lt, nat_le, is_some, unwrap_or}
use Rattle.fixed_worth.proofs.Common.{result_ok, list_any, cases_eq, or_right, nat_tests, drop_more, ints, common_steps}
use Rattle.fixed_worth.specs.declared.numerals.NumberFault.TheVariants.{NotANumber, TooLong, TooLarge}
use Rattle.fixed_worth.specs.Prelude.{is_minus, with_sign, is_decimal, is_too_long, millionths_of, most, value_read}
use Rattle.blocks_file.specs.Prelude.{value_in, is_bad, IsRow, AreTaken}

-- The next field is column k.
pub field_at : (all : List (List ℕ)) (k : ℕ) (field : List ℕ) (rest : List (List ℕ)) → field ∷ rest ≡ drop k all
    → k + length (field ∷ rest) ≡ length all → (get_or all k [] ≡ field) × (rest ≡ drop (k + 1) all)
field_at all k field rest e h =
    let more : k < length all = omega (arith, h) in
    let d : drop k all ≡ get_or all k [] ∷ drop (k + 1) all = drop_more all k [] more in
    (cc, cc)

pub row_more : (chosen : List ℕ) (all : List (List ℕ)) (k : ℕ) (field : List ℕ) (old new : List ℤ)
    → IsRow chosen all k old → AreTaken chosen k field old new → get_or all k [] ≡ field → IsRow chosen all (k + 1) new
row_more chosen all k field old new r t e = record {
  size = t.size ∙ r.size;
  each = λ i h l.
      elim (cases_eq (get_or chosen i 0) k) [
        | inl same ↦ ap (λ (c : ℕ). value_read (get_or all c [])) same ∙ ap value_read e ∙ t.here i h same
        | inr apart ↦ r.each i h (omega arith) ∙ ap Some (sym (t.others i h apart))
      ];
}

bad_at : (columns : List (List ℕ)) (c : ℕ) → c < length columns → value_read (get_or columns c []) ≡ None
    → is_bad columns c ≡ true
bad_at columns c h e = let t : nat_lt c (length columns) ≡ true = grind (arith, nat_tests) in rw (t, e) refl

bad_here : (columns : List (List ℕ)) (k c : ℕ) (a b : Bool) → is_bad columns k ≡ true → (t : Bool) → eqb c k ≡ t
    → (t || a) ≡ true → (a ≡ true → b ≡ true) → (is_bad columns c || b) ≡ true
bad_here columns k c a b h true e o f = grind (arith, common_steps)
bad_here columns k c a b h false e o f = or_right (is_bad columns c) b (f o)

bad_among : (columns : List (List ℕ)) (k : ℕ) (chosen : List ℕ) → is_bad columns k ≡ true
    → list_any (λ c. eqb c k) chosen ≡ true → list_any (is_bad columns) chosen ≡ true
bad_among columns k [] b h = absurd (true≢false (sym h))
bad_among columns k (c ∷ cs) b h = bad_here columns k c (list_any (λ x. eqb x k) cs) (list_any (is_bad columns) cs) b
    (eqb c k) refl h (bad_among columns k cs b)

pub row_bad : (all : List (List ℕ)) (k : ℕ) (field : List ℕ) (chosen : List ℕ) → k < length all
    → get_or all k [] ≡ field → list_any (λ c. eqb c k) chosen ≡ true → value_read field ≡ None
    → list_any (is_bad all) chosen ≡ true
row_bad all k field chosen h e w none = bad_among all k chosen (bad_at all k h (ap value_read e ∙ none)) w

-- No chosen column is bad where each that is there is read.
not_bad : (columns : List (List ℕ)) (c : ℕ) (t : Bool) → nat_lt c (length columns) ≡ t
    → (c < length columns → is_some (value_read (get_or columns c [])) ≡ true) → is_bad columns c ≡ false
not_bad columns c true e f = let s : is_some (value_read (get_or columns c [])) ≡ true = f
    (grind (arith, nat_tests)) in rw (e, s) refl
not_bad columns c false e f = rw e refl

none_bad : (columns : List (List ℕ)) (chosen : List ℕ)
    → ((i : ℕ) → i < length chosen → get_or chosen i 0 < length columns
    → is_some (value_read (get_or columns (get_or chosen i 0) [])) ≡ true) → list_any (is_bad columns) chosen ≡ false
none_bad columns [] f = refl
none_bad columns (c ∷ cs) f = rw (not_bad columns c (nat_lt c (length columns)) refl (f 0 (omega arith)))
    (none_bad columns cs (λ i h. f (suc i) (omega arith)))

pub row_good : (chosen : List ℕ) (columns : List (List ℕ)) (row : List ℤ) → IsRow chosen columns (length columns) row
    → list_any (is_bad columns) chosen ≡ false
row_good chosen columns row r = none_bad columns chosen (λ i h l. ap is_some (r.each i h l))

-- no value is above 10 ^ 18 millionths either way
sign_small : (minus : Bool) (n limit : ℕ) (t : Bool) → nat_le n limit ≡ t
    → unsigned_abs (unwrap_or (result_ok (with_sign minus (cond t (Ok n) (Err TooLarge)))) (pos 0)) ≤ limit
sign_small true n limit true e = let l : n ≤ limit = grind (arith, nat_tests) in omega (arith, ints, l)
sign_small false n limit true e = grind (arith, nat_tests)
sign_small minus n limit false e = omega arith

read_small : (a b minus : Bool) (n limit : ℕ)
    → unsigned_abs (unwrap_or
    (result_ok (cond a (Err NotANumber) (cond b (Err TooLong) (with_sign minus (most limit n))))) (pos 0)) ≤ limit
read_small false false minus n limit = sign_small minus n limit (nat_le n limit) refl
read_small a b minus n limit = omega arith

pub value_small : (columns : List (List ℕ)) (c : ℕ) → unsigned_abs (value_in columns c) ≤ 10 ^ 18
value_small columns c = let field = get_or columns c [] in read_small (not (is_decimal field)) (is_too_long field)
    (is_minus field) (millionths_of field) (10 ^ 18)
