-- The fields of a line are its longest runs of bytes that are no separators.
use Rattle.fixed_worth.proofs.Common.{◌≡◌, ℕ, suc, zero, ◌+◌, ◌-◌, ◌<◌, ◌≤◌, inl, inr, true, false, not, List, [], ◌∷◌}
use Rattle.fixed_worth.proofs.Common.{length, take, drop, get_or, sym, ap, ◌∙◌, subst, arith, length-drop, All}
use Rattle.fixed_worth.proofs.Common.{position_or_len, get_or-drop, drop-drop, drop_all, All-nil, All-cons}
use Rattle.fixed_worth.proofs.Common.{length-prefix_len, prefix_len_passes, prefix_len_stops, cases_lt, common_steps}
use Rattle.fixed_worth.specs.Prelude.{is_separator, WordRun, runs_from, IsField, AreInOrder, LiesIn, AreFields}
use Rattle.fixed_worth.proofs.Cuts.{gap, gap_skipped, gap_stops, first_run}
use Rattle.fixed_worth.proofs.Bits.{not_true}

-- the bytes of a gap, and of a run
gap_byte : (line : List ℕ) (p k : ℕ) → k < gap (drop p line) → is_separator (get_or line (p + k) 0) ≡ true
gap_byte line p k h = grind (arith, common_steps, prefix_len_passes)

run_ends : (line : List ℕ) (p : ℕ) → position_or_len is_separator (drop p line) < length (drop p line)
    → is_separator (get_or line (p + position_or_len is_separator (drop p line)) 0) ≡ true
run_ends line p h = grind (arith, common_steps, prefix_len_stops)

-- a field that begins at p has no byte before it
abbrev Fresh : List ℕ → ℕ → Type 0
Fresh line p = p < length line → is_separator (get_or line p 0) ≡ false → (k : ℕ) → k + 1 ≡ p
    → is_separator (get_or line k 0) ≡ true

record FieldsFrom (line : List ℕ) (p : ℕ) (fields : List WordRun) : Type 0 where
  each : All (IsField line) fields
  ordered : AreInOrder p fields
  complete : (k : ℕ) → p ≤ k → k < length line → is_separator (get_or line k 0) ≡ false → LiesIn k fields

abbrev end_of_gap : List ℕ → ℕ → ℕ
end_of_gap line p = p + gap (drop p line)

abbrev width : List ℕ → ℕ → ℕ
width line q = position_or_len is_separator (drop q line)

abbrev first : List ℕ → ℕ → WordRun
first line q = record { text = take (width line q) (drop q line); place = q }

after_gap : (line : List ℕ) (p : ℕ) → runs_from p (drop p line) ≡ runs_from (end_of_gap line p)
    (drop (end_of_gap line p) line)
after_gap line p = gap_skipped p (drop p line)
    ∙ ap (λ bs. runs_from (end_of_gap line p) bs) (drop-drop (gap (drop p line)) p line)

gap_ends : (line : List ℕ) (p : ℕ) → end_of_gap line p < length line
    → is_separator (get_or line (end_of_gap line p) 0) ≡ false
gap_ends line p h =
    let g = gap (drop p line) in
    let z : p + g + 0 ≡ p + g = omega arith in
    grind (arith, common_steps, get_or-drop, gap_stops, gap, drop-drop, length-drop)

run_given : (line : List ℕ) (q : ℕ) → q < length line → is_separator (get_or line q 0) ≡ false
    → runs_from q (drop q line) ≡ first line q ∷ runs_from (q + width line q) (drop (q + width line q) line)
run_given line q h e = grind (arith, common_steps, first_run)

is_field : (line : List ℕ) (q : ℕ) → q < length line → is_separator (get_or line q 0) ≡ false
    → ((k : ℕ) → k + 1 ≡ q → is_separator (get_or line k 0) ≡ true) → IsField line (first line q)
is_field line q h e before = grind (arith, common_steps, run_ends, not_true, prefix_len_passes)

finished : (line : List ℕ) (p : ℕ) → length line ≤ end_of_gap line p → FieldsFrom line p []
finished line p h = record {
  each = All-nil (IsField line);
  ordered = tt;
  complete = λ k l m e.
      let i : p + (k - p) ≡ k = omega arith in
      let s : is_separator (get_or line k 0) ≡ true = ap (λ j. is_separator (get_or line j 0)) (sym i)
      ∙ gap_byte line p (k - p) (omega arith) in
      let no : true ≡ false = sym s ∙ e in
      cc;
}

nothing_left : (line : List ℕ) (p : ℕ) → length line ≤ end_of_gap line p → [] ≡ runs_from p (drop p line)
nothing_left line p h = sym
    (after_gap line p ∙ ap (λ bs. runs_from (end_of_gap line p) bs) (drop_all (end_of_gap line p) line h))

lies : (line : List ℕ) (p k : ℕ) (fields : List WordRun)
    → FieldsFrom line (end_of_gap line p + width line (end_of_gap line p)) fields → end_of_gap line p < length line
    → p ≤ k → k < length line → is_separator (get_or line k 0) ≡ false
    → LiesIn k (first line (end_of_gap line p) ∷ fields)
lies line p k fields more h l m e =
    let q = end_of_gap line p in
    let len : length (take (width line q) (drop q line)) ≡ width line q = length-prefix_len
    (λ b. not (is_separator b)) (drop q line) in
    elim (cases_lt k (end_of_gap line p)) [
      | inl short ↦
          let i : p + (k - p) ≡ k = omega arith in
          let s : is_separator (get_or line k 0) ≡ true = ap (λ j. is_separator (get_or line j 0)) (sym i)
          ∙ gap_byte line p (k - p) (omega arith) in
          let no : true ≡ false = sym s ∙ e in
          cc
      | inr long ↦ elim (cases_lt k (end_of_gap line p + width line (end_of_gap line p))) [
        | inl inside ↦ inl (omega arith, omega arith)
        | inr past ↦ inr (more.complete k past m e)
      ]
    ]

gap_before : (line : List ℕ) (p : ℕ) → Fresh line p → end_of_gap line p < length line → (k : ℕ)
    → k + 1 ≡ end_of_gap line p → is_separator (get_or line k 0) ≡ true
gap_before line p fresh h k e =
    elim (cases_lt k p) [
      | inl short ↦
          let z : end_of_gap line p ≡ p = omega arith in
          fresh (omega arith) (ap (λ i. is_separator (get_or line i 0)) (sym z) ∙ gap_ends line p h) k (omega arith)
      | inr long ↦
          let i : p + (k - p) ≡ k = omega arith in
          ap (λ j. is_separator (get_or line j 0)) (sym i) ∙ gap_byte line p (k - p) (omega arith)
    ]

one_more : (line : List ℕ) (p : ℕ) (fields : List WordRun) → Fresh line p → end_of_gap line p < length line
    → FieldsFrom line (end_of_gap line p + width line (end_of_gap line p)) fields
    → FieldsFrom line p (first line (end_of_gap line p) ∷ fields)
one_more line p fields fresh h more =
    let q = end_of_gap line p in
    let head = gap_ends line p h in
    let len : length (take (width line q) (drop q line)) ≡ width line q = length-prefix_len
    (λ b. not (is_separator b)) (drop q line) in
    record {
      each = All-cons (IsField line) (first line q) fields (is_field line q h head (gap_before line p fresh h))
          more.each;
      ordered = (omega arith, subst (λ n. AreInOrder (q + n) fields) (sym len) more.ordered);
      complete = λ k l m e. lies line p k fields more h l m e;
    }

stays_fresh : (line : List ℕ) (q : ℕ) → q < length line → Fresh line (q + width line q)
stays_fresh line q h l e = grind (arith, common_steps, run_ends)

found : (n : ℕ) (line : List ℕ) (p : ℕ) → length line ≤ p + n → Fresh line p
    → FieldsFrom line p (runs_from p (drop p line))
found zero line p h fresh = grind (arith, common_steps)
found (suc n) line p h fresh =
    elim (cases_lt (end_of_gap line p) (length line)) [
      | inl short ↦
          let q = end_of_gap line p in
          let head : is_separator (get_or line (end_of_gap line p) 0) ≡ false = gap_ends line p short in
          let wide : 0 < width line (end_of_gap line p) = grind (arith, common_steps) in
          let rest : FieldsFrom line (q + width line q)
          (runs_from (q + width line q) (drop (q + width line q) line)) = found n line (q + width line q)
          (omega arith) (stays_fresh line q short) in
          subst (FieldsFrom line p) (sym (after_gap line p ∙ run_given line q short head))
          (one_more line p (runs_from (q + width line q) (drop (q + width line q) line)) fresh short rest)
      | inr long ↦ subst (FieldsFrom line p) (nothing_left line p long) (finished line p long)
    ]

-- The fields of a line are its longest runs.
pub fields_are : (line : List ℕ) → AreFields line (runs_from 0 line)
fields_are line =
    let all : FieldsFrom line 0 (runs_from 0 line) = found (length line) line 0 (omega arith)
    (λ l e k f. absurd (omega arith)) in
    record { each = all.each; ordered = all.ordered; complete = λ k l e. all.complete k (omega arith) l e }
