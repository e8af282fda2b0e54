-- Lines that are read by themselves: which records they are, and that none of them is faulty, hang neither on their
-- numbers nor on what comes before.
use Rattle.fixed_worth.proofs.Common.{◌≡◌, ℕ, ℤ, pos, ◌+◌, ◌-◌, ◌<◌, ◌≤◌, ◌||◌, Bool, true, false, cond, eqb, inl, inr}
use Rattle.fixed_worth.proofs.Common.{List, [], ◌∷◌, ◌++◌, length, replicate, get_or, Option, Some, None, sym, refl, ap}
use Rattle.fixed_worth.proofs.Common.{◌∙◌, arith, nat_le, nat_tests, length-append, length-replicate, append-nil}
use Rattle.fixed_worth.proofs.Common.{append_assoc, list_any-append, option_or, or_parts, cases_lt, get_or-append_right}
use Rattle.fixed_worth.proofs.Common.{get_or_append_left, get_or-replicate, get_or_past, common_steps}
use Rattle.fixed_worth.specs.declared.limits.TheConstants.{LINE_BYTES}
use Rattle.fixed_worth.specs.Prelude.{Line, numbered_lines, fields_of, is_skipped, block_of, is_record_of}
use Rattle.fixed_worth.proofs.LineParts.{numbered-append}
use Rattle.fixed_worth.proofs.NextLine.{line, short}
use Rattle.upit_file.specs.declared.upit_fault.UpitFault.{UpitFault}
use Rattle.upit_file.specs.Prelude.{AreValuesOf, NoneFrom, before_end, fields_in, first_upit_fault, has_value_record}
use Rattle.upit_file.specs.Prelude.{is_eof, upit_line_fault, upit_shape_fault, value_among, value_of_record}

-- ---- records among lines

has-append : (xs ys : List Line) (b : ℕ)
    → has_value_record (xs ++ ys) b ≡ (has_value_record xs b || has_value_record ys b)
has-append xs ys b = list_any-append (λ l. is_record_of b (fields_in l)) xs ys

none_of_both : (a b : Bool) → a ≡ false → b ≡ false → (a || b) ≡ false
none_of_both a b h g = rw (h, g) refl

none_among : (xs ys : List Line) (b : ℕ) → has_value_record xs b ≡ false → has_value_record ys b ≡ false
    → has_value_record (xs ++ ys) b ≡ false
none_among xs ys b h g = has-append xs ys b ∙ none_of_both (has_value_record xs b) (has_value_record ys b) h g

-- a block without a record is worth nothing
value_none : (xs : List Line) (b : ℕ) → has_value_record xs b ≡ false → value_among xs b ≡ pos 0
value_none [] b h = refl
value_none (x ∷ xs) b h =
    let p = or_parts (is_record_of b (fields_in x)) (has_value_record xs b) h in
    rw p.0 (value_none xs b p.1)

value_after : (xs ys : List Line) (b : ℕ) → has_value_record xs b ≡ false → value_among (xs ++ ys) b ≡ value_among ys b
value_after [] ys b h = refl
value_after (x ∷ xs) ys b h =
    let p = or_parts (is_record_of b (fields_in x)) (has_value_record xs b) h in
    rw p.0 (value_after xs ys b p.1)

value_before : (xs ys : List Line) (b : ℕ) → has_value_record ys b ≡ false → value_among (xs ++ ys) b ≡ value_among xs b
value_before [] ys b h = value_none ys b h
value_before (x ∷ xs) ys b h = ap (cond (is_record_of b (fields_in x)) (value_of_record (fields_in x)))
    (value_before xs ys b h)

-- ---- values from a block on

abbrev pub nothing : ℕ → List ℤ
nothing n = replicate n (pos 0)

nothing_at : (n b : ℕ) → get_or (nothing n) b (pos 0) ≡ pos 0
nothing_at n b = elim (cases_lt b n) [
  | inl o ↦ get_or-replicate n b (pos 0) (pos 0) o
  | inr o ↦ get_or_past (nothing n) b (pos 0) (omega (arith, length-replicate n (pos 0)))
]

-- zeros after them change no value
pub padded : (xs : List ℤ) (n b : ℕ) → get_or (xs ++ nothing n) b (pos 0) ≡ get_or xs b (pos 0)
padded xs n b = elim (cases_lt b (length xs)) [
  | inl o ↦ get_or_append_left xs (nothing n) (pos 0) b o
  | inr o ↦ get_or-append_right xs (nothing n) (length xs) b (pos 0) refl o ∙ nothing_at n (b - length xs)
      ∙ sym (get_or_past xs b (pos 0) o)
]

-- the values of two parts, with zeros between
abbrev pub joined_values : ℕ → ℕ → List ℤ → List ℤ → List ℤ
joined_values from later vs ws = (vs ++ replicate (later - (from + length vs)) (pos 0)) ++ ws

module _ (from later : ℕ) (vs ws : List ℤ) (after : from + length vs ≤ later) where
  abbrev gap : ℕ
  gap = later - (from + length vs)

  abbrev front : List ℤ
  front = (nothing from ++ vs) ++ nothing gap

  front_length : length front ≡ later
  front_length = omega (
    arith,
    after,
    length-append (nothing from ++ vs) (nothing gap),
    length-append
        (nothing from) vs,
    length-replicate from (pos 0),
    length-replicate gap (pos 0),
  )

  whole : nothing from ++ joined_values from later vs ws ≡ front ++ ws
  whole = sym (append_assoc (nothing from) (vs ++ nothing gap) ws)
      ∙ ap (λ xs. xs ++ ws) (sym (append_assoc (nothing from) vs (nothing gap)))

  joined_below : (b : ℕ) → b < later → get_or (nothing from ++ joined_values from later vs ws) b (pos 0) ≡ get_or
      (nothing from ++ vs) b (pos 0)
  joined_below b l = ap (λ xs. get_or xs b (pos 0)) whole
      ∙ get_or_append_left front ws (pos 0) b (omega (arith, front_length)) ∙ padded (nothing from ++ vs) gap b

  joined_from : (b : ℕ) → later ≤ b → get_or (nothing from ++ joined_values from later vs ws) b (pos 0) ≡ get_or
      (nothing later ++ ws) b (pos 0)
  joined_from b l =
      ap (λ xs. get_or xs b (pos 0)) whole ∙ get_or-append_right front ws later b (pos 0) front_length l
      ∙ sym (get_or-append_right (nothing later) ws later b (pos 0) (length-replicate later (pos 0)) l)

  joined_length : from + length (joined_values from later vs ws) ≡ later + length ws
  joined_length = omega (
    arith,
    after,
    length-append (vs ++ nothing gap) ws,
    length-append vs
        (nothing gap),
    length-replicate gap (pos 0),
  )

-- ---- faults

or_both : (a b : Option UpitFault) → a ≡ None → b ≡ None → option_or a b ≡ None
or_both a b h g = rw (h, g) refl

or_first : (a b : Option UpitFault) → option_or a b ≡ None → a ≡ None
or_first None b h = refl
or_first (Some e) b h = grind (arith, common_steps)

or_rest : (a b : Option UpitFault) → option_or a b ≡ None → b ≡ None
or_rest None b h = h
or_rest (Some e) b h = grind (arith, common_steps)

-- none of the lines is faulty, and none of those after them
none_faulty : (n : ℕ) (before xs ys : List Line) → first_upit_fault n before xs ≡ None
    → first_upit_fault n (before ++ xs) ys ≡ None → first_upit_fault n before (xs ++ ys) ≡ None
none_faulty n before [] ys h g = ap (λ (ls : List Line). first_upit_fault n ls ys) (sym (append-nil before)) ∙ g
none_faulty n before (x ∷ xs) ys h g =
    let fault = upit_line_fault n (has_value_record before) x in
    let rest = first_upit_fault n (before ++ x ∷ []) xs in
    or_both fault (first_upit_fault n (before ++ x ∷ []) (xs ++ ys)) (or_first fault rest h)
    (none_faulty n (before ++ x ∷ []) xs ys (or_rest fault rest h)
    (ap (λ (ls : List Line). first_upit_fault n ls ys) (append_assoc before (x ∷ []) xs) ∙ g))

shape_elsewhere : (line other : ℕ) (fs : List (List ℕ)) → upit_shape_fault line fs ≡ None
    → upit_shape_fault other fs ≡ None
shape_elsewhere line other fs h = grind (arith, common_steps)

-- ---- lines that are read

pub none_read : (n from : ℕ) → from ≤ n → AreValuesOf n from [] []
none_read n from h = record {
  known = omega arith;
  above = λ k b l. refl;
  below = λ k b l. refl;
  worth = λ k b. sym (ap (λ xs. get_or xs b (pos 0)) (append-nil (nothing from)) ∙ nothing_at from b);
  unended = λ k ls. refl;
  sound = λ k before h. refl;
}

-- what a line's text gives, whatever its number
fields_same : (k : ℕ) (text : List ℕ) → length text ≤ LINE_BYTES → fields_in (line k text) ≡ fields_of text
fields_same k text h = rw (short text h) refl

passed_over : (n k : ℕ) (text : List ℕ) (before : List Line) → length text ≤ LINE_BYTES
    → is_skipped (fields_of text) ≡ true → first_upit_fault n before (line k text ∷ []) ≡ None
passed_over n k text before h s = rw (short text h, s) refl

pub skipped_read : (n from : ℕ) (text : List ℕ) → from ≤ n → length text ≤ LINE_BYTES
    → is_skipped (fields_of text) ≡ true → is_eof (fields_of text) ≡ false → AreValuesOf n from (text ∷ []) []
skipped_read n from text h m s e = record {
  known = omega arith;
  above = λ k b l. rw (short text m, s) refl;
  below = λ k b l. rw (short text m, s) refl;
  worth = λ k b. rw (short text m, s)
      (sym (ap (λ xs. get_or xs b (pos 0)) (append-nil (nothing from)) ∙ nothing_at from b));
  unended = λ k ls. rw (short text m, e) refl;
  sound = λ k before h. passed_over n (k + 1) text before m s;
}

record_is : (k b block : ℕ) (text : List ℕ) (t : Bool) → length text ≤ LINE_BYTES
    → is_skipped (fields_of text) ≡ false → block ≡ block_of (fields_of text) → eqb block b ≡ t
    → is_record_of b (fields_in (line k text)) ≡ t
record_is k b block text t m s is e = rw (short text m, s, sym is) e

one_has : (k b block : ℕ) (text : List ℕ) → length text ≤ LINE_BYTES → is_skipped (fields_of text) ≡ false
    → block ≡ block_of (fields_of text) → eqb block b ≡ false → has_value_record (line k text ∷ []) b ≡ false
one_has k b block text m s is e = rw (record_is k b block text false m s is e) refl

one_value : (k b block : ℕ) (v : ℤ) (text : List ℕ) → length text ≤ LINE_BYTES → is_skipped (fields_of text) ≡ false
    → block ≡ block_of (fields_of text) → v ≡ value_of_record (fields_of text) → (t : Bool) → eqb block b ≡ t
    → value_among (line k text ∷ []) b ≡ get_or (nothing block ++ v ∷ []) b (pos 0)
one_value k b block v text m s is worth true e =
    let here : block ≡ b = grind (arith, nat_tests) in
    let none : b - block ≡ 0 = omega (arith, here) in
    rw (record_is k b block text true m s is e)
    (ap value_of_record (fields_same k text m) ∙ sym worth
    ∙ sym (get_or-append_right (nothing block) (v ∷ []) block b (pos 0) (length-replicate block (pos 0))
    (omega (arith, here)) ∙ ap (λ i. get_or (v ∷ []) i (pos 0)) none))
one_value k b block v text m s is worth false e =
    let other : b ≡ block → ⊥ = grind (arith, nat_tests) in
    let long = length-replicate block (pos 0) in
    rw (record_is k b block text false m s is e) (sym (elim (cases_lt b block) [
      | inl o ↦ get_or_append_left (nothing block) (v ∷ []) (pos 0) b (omega (arith, long, o)) ∙ nothing_at block b
      | inr o ↦ get_or_past (nothing block ++ v ∷ []) b (pos 0)
          (omega (arith, long, o, other, length-append (nothing block) (v ∷ [])))
    ]))

one_sound : (n k at block : ℕ) (text : List ℕ) (before : List Line) → length text ≤ LINE_BYTES
    → is_skipped (fields_of text) ≡ false → upit_shape_fault at (fields_of text) ≡ None
    → block ≡ block_of (fields_of text) → block < n → has_value_record before block ≡ false
    → first_upit_fault n before (line k text ∷ []) ≡ None
one_sound n k at block text before m s shape is few new =
    let known : nat_le n block ≡ false = grind (arith, nat_tests) in
    rw (short text m, s, shape_elsewhere at k (fields_of text) shape, sym is, known, new) refl

pub record_read : (n at block : ℕ) (v : ℤ) (text : List ℕ) → length text ≤ LINE_BYTES
    → is_eof (fields_of text) ≡ false → is_skipped (fields_of text) ≡ false
    → upit_shape_fault at (fields_of text) ≡ None → block ≡ block_of (fields_of text)
    → v ≡ value_of_record (fields_of text) → block < n
    → AreValuesOf n block (text ∷ []) (v ∷ [])
record_read n at block v text m e s shape is worth few = record {
  known = omega arith;
  above = λ k b l. let o : eqb block b ≡ false = grind (arith, nat_tests) in one_has (k + 1) b block text m s is o;
  below = λ k b l. let o : eqb block b ≡ false = grind (arith, nat_tests) in one_has (k + 1) b block text m s is o;
  worth = λ k b. one_value (k + 1) b block v text m s is worth (eqb block b) refl;
  unended = λ k ls. rw (short text m, e) refl;
  sound = λ k before h. one_sound n (k + 1) at block text before m s shape is few (h block (omega arith));
}

-- ---- lines after lines

new_after : (from next : ℕ) (before xs : List Line) → from ≤ next → NoneFrom from before → NoneFrom next xs
    → NoneFrom next (before ++ xs)
new_after from next before xs l h g b m = none_among before xs b (h b (omega arith)) (g b m)

pub both_read : (n from later : ℕ) (xs ys : List (List ℕ)) (vs ws : List ℤ) → AreValuesOf n from xs vs
    → AreValuesOf n later ys ws → from + length vs ≤ later
    → AreValuesOf n from (xs ++ ys) (joined_values from later vs ws)
both_read n from later xs ys vs ws p q after =
    let both = λ (k : ℕ). numbered-append k xs ys in
    let ends = joined_length from later vs ws after in
    record {
      known = omega (arith, ends, q.known);
      above = λ k b l. ap (λ (ls : List Line). has_value_record ls b) (both k)
          ∙ none_among (numbered_lines k xs) (numbered_lines (k + length xs) ys) b (p.above k b l)
          (q.above (k + length xs) b (omega (arith, after)));
      below = λ k b l. ap (λ (ls : List Line). has_value_record ls b) (both k)
          ∙ none_among (numbered_lines k xs) (numbered_lines (k + length xs) ys) b
          (p.below k b (omega (arith, ends, after))) (q.below (k + length xs) b (omega (arith, ends)));
      worth = λ k b. ap (λ (ls : List Line). value_among ls b) (both k) ∙ elim (cases_lt b later) [
        | inl o ↦ value_before (numbered_lines k xs) (numbered_lines (k + length xs) ys) b
            (q.above (k + length xs) b o) ∙ p.worth k b ∙ sym (joined_below from later vs ws after b o)
        | inr o ↦ value_after (numbered_lines k xs) (numbered_lines (k + length xs) ys) b
            (p.below k b (omega (arith, after, o))) ∙ q.worth (k + length xs) b
            ∙ sym (joined_from from later vs ws after b o)
      ];
      unended = λ k ls.
          let front = numbered_lines k xs in
          let back = numbered_lines (k + length xs) ys in
          ap (λ (ms : List Line). before_end (ms ++ ls)) (both k) ∙ ap before_end (append_assoc front back ls)
          ∙ p.unended k (back ++ ls) ∙ ap (λ (ms : List Line). front ++ ms) (q.unended (k + length xs) ls)
          ∙ sym (append_assoc front back (before_end ls)) ∙ ap (λ (ms : List Line). ms ++ before_end ls) (sym (both k));
      sound = λ k before h.
          let front = numbered_lines k xs in
          let back = numbered_lines (k + length xs) ys in
          let fresh : NoneFrom later (before ++ front) = new_after from later before front (omega (arith, after)) h
          (λ b l. p.below k b (omega (arith, after))) in
          ap (first_upit_fault n before) (both k) ∙ none_faulty n before front back (p.sound k before h)
          (q.sound (k + length xs) (before ++ front) fresh);
    }
