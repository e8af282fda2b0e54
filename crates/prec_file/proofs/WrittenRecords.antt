-- A written file has no fault, and its pairs are those that were written.
use Rattle.fixed_worth.proofs.Common.{◌≡◌, ℕ, zero, suc, ◌+◌, ◌<◌, ◌≤◌, ◌^◌, inl, inr, Bool, false, List, [], ◌∷◌, ◌++◌}
use Rattle.fixed_worth.proofs.Common.{length, get_or, None, refl, sym, ap, ◌∙◌, subst, arith, append_assoc, append-nil}
use Rattle.fixed_worth.proofs.Common.{length-append, All, map, nat_le, nat_lt, list_any, Contains, decimal, cases_eq}
use Rattle.fixed_worth.proofs.Common.{nat_tests, length-map, get_or-map, get_or_default, Contains-append_left}
use Rattle.fixed_worth.proofs.Common.{Contains-append_right, Contains-append_cases, option_or, common_steps}
use Rattle.fixed_worth.specs.Prelude.{lines_of, fields_of, Line, numbered_lines, reads, number_of, is_skipped, has}
use Rattle.fixed_worth.proofs.LineParts.{numbered-append}
use Rattle.fixed_worth.proofs.WrittenNumbers.{decimal_is_no_remark, decimal_reads, number_of-decimal, decimals_pass}
use Rattle.fixed_worth.proofs.WrittenNumbers.{numbers_of-decimals}
use Rattle.fixed_worth.specs.declared.limits.TheConstants.{LINE_BYTES}
use Rattle.prec_file.specs.declared.limits.TheConstants.{MOST_PAIRS}
use Rattle.prec_file.specs.Prelude.{RestsView, IsRests, ArePairsOf, from_at, to_at, numbers, above_of, first_of}
use Rattle.prec_file.specs.Prelude.{pairs_in, blocks_of_fields, shape_fault, record_fault, fault_after, blocks_of}
use Rattle.prec_file.specs.Prelude.{pairs_of, first_fault, pairs_of_text, prec_text, AreNarrow, ReadsBack}
use Rattle.prec_file.proofs.Shapes.{sound, pairs_at}
use Rattle.prec_file.proofs.History.{no_fault}
use Rattle.prec_file.proofs.Slots.{ending_next, ending_none, ending_most}
use Rattle.prec_file.proofs.OneListing.{one_listing}
use Rattle.prec_file.proofs.Finding.{above_length, found_pair, above_has}
use Rattle.prec_file.proofs.WrittenLines.{IsWritable, above_known, words_at, row, rows, text_lines, row_fields}
use Rattle.prec_file.proofs.WrittenLines.{row_short, small_blocks}

-- ---- one record

no_larger : (n : ℕ) (xs : List ℕ) → All (λ x. x < n) xs → list_any (nat_le n) xs ≡ false
no_larger n [] h = refl
no_larger n (x ∷ xs) h =
    let l : x < n = h 0 0 (omega arith) in
    let e : nat_le n x ≡ false = grind (arith, nat_tests) in
    rw (e, no_larger n xs (λ k d i. h (suc k) d (omega arith))) refl

record_sound : (n : ℕ) (ps : List (ℕ × ℕ)) (b line : ℕ) → IsWritable n ps → b < n
    → (is_skipped (decimal b ∷ words_at ps b) ≡ false) × (shape_fault n line (decimal b ∷ words_at ps b) ≡ None)
record_sound n ps b line w l =
    let above = above_of ps b in
    let few = w.narrow b l in
    let own : b < 2 ^ 64 = omega (arith, w.blocks) in
    let count : length above < 2 ^ 64 = omega (arith, few) in
    let known : nat_le n b ≡ false = grind (arith, nat_tests) in
    let rest : list_any (nat_le n) (map number_of (map decimal above)) ≡ false = ap (list_any (nat_le n))
    (numbers_of-decimals above (small_blocks n ps b w)) ∙ no_larger n above (above_known n ps b w) in
    sound n line b (decimal b ∷ words_at ps b) (decimal b) (decimal (length above)) (map decimal above) refl
    (decimal_is_no_remark b own) (decimal_reads b own) (number_of-decimal b own) (decimal_reads (length above) count)
    (decimals_pass reads decimal_reads above (small_blocks n ps b w))
    (rw (known, rest) refl)

fields_sound : (n : ℕ) (ps : List (ℕ × ℕ)) (b line k : ℕ) (had : ℕ → Bool) → IsWritable n ps → b < n → had b ≡ false
    → k + length (above_of ps b) ≤ MOST_PAIRS
    → record_fault n had k line (decimal b ∷ words_at ps b) ≡ None
fields_sound n ps b line k had w l new few = grind
    (arith, common_steps, record_sound, no_fault, words_at, number_of-decimal, numbers_of-decimals, small_blocks)

-- the pair of a block and its predecessor
abbrev with_block : ℕ → ℕ → ℕ × ℕ
with_block b p = (b, p)

-- the pairs of a block's record
row_pairs : (n : ℕ) (ps : List (ℕ × ℕ)) (b : ℕ) → IsWritable n ps → b < n
    → pairs_in (fields_of (row ps b)) ≡ map (with_block b) (above_of ps b)
row_pairs n ps b w l = grind (
  arith,
  common_steps,
  (above_of ps b),
  (row_fields n ps b w l),
  (pairs_at b (decimal b ∷ words_at ps b) (decimal b) (decimal (length (above_of ps b)))
      (map decimal (above_of ps b)) refl (decimal_is_no_remark b (omega (arith, w.blocks)))
      (number_of-decimal b (omega (arith, w.blocks)))),
  (words_at ps b),
  (decimal_is_no_remark b (omega (arith, w.blocks))),
  (number_of-decimal b (omega (arith, w.blocks))),
  (numbers_of-decimals (above_of ps b) (small_blocks n ps b w)),
  (small_blocks n ps b w),
)

-- its block
row_blocks : (n : ℕ) (ps : List (ℕ × ℕ)) (b : ℕ) → IsWritable n ps → b < n
    → blocks_of_fields (fields_of (row ps b)) ≡ b ∷ []
row_blocks n ps b w l = grind (
  arith,
  common_steps,
  (row_fields n ps b w l),
  (decimal_is_no_remark b (omega (arith, w.blocks))),
  (number_of-decimal b (omega (arith, w.blocks))),
)

-- ---- the records up to a block

-- the line of block b, and the lines below it
line_at : List (ℕ × ℕ) → ℕ → Line
line_at ps b = record { number = 0 + length (rows ps b) + 1; text = row ps b }

before : List (ℕ × ℕ) → ℕ → List Line
before ps b = numbered_lines 0 (rows ps b)

before_more : (ps : List (ℕ × ℕ)) (b : ℕ) → before ps (suc b) ≡ before ps b ++ (line_at ps b ∷ [])
unfolding before line_at
before_more ps b = numbered-append 0 (rows ps b) (row ps b ∷ [])

pairs_more : (n : ℕ) (ps : List (ℕ × ℕ)) (b : ℕ) → IsWritable n ps → b < n
    → pairs_of (before ps (suc b)) ≡ pairs_of (before ps b) ++ map (with_block b) (above_of ps b)
unfolding line_at
pairs_more n ps b w l = grind (
  arith,
  common_steps,
  (before_more ps b),
  (before ps b),
  (line_at ps b ∷ []),
  (append-nil (pairs_in (fields_of (row ps b)))),
  (row ps b),
  (row_pairs n ps b w l),
)

blocks_more : (n : ℕ) (ps : List (ℕ × ℕ)) (b : ℕ) → IsWritable n ps → b < n
    → blocks_of (before ps (suc b)) ≡ blocks_of (before ps b) ++ (b ∷ [])
unfolding line_at
blocks_more n ps b w l = grind (
  arith,
  common_steps,
  (before_more ps b),
  (before ps b),
  (line_at ps b ∷ []),
  (append-nil (blocks_of_fields (fields_of (row ps b)))),
  (row ps b),
  (row_blocks n ps b w l),
)

none_before : (ps : List (ℕ × ℕ)) → before ps zero ≡ []
unfolding before
none_before ps = refl

-- no later block has a record
not_yet : (n : ℕ) (ps : List (ℕ × ℕ)) (m b : ℕ) → IsWritable n ps → m ≤ n → m ≤ b
    → has (blocks_of (before ps m)) b ≡ false
not_yet n ps zero b w l h = ap (λ ls. has (blocks_of ls) b) (none_before ps)
not_yet n ps (suc m) b w l h = grind (
  arith,
  common_steps,
  (blocks_more n ps m w (omega arith)),
  (before ps m),
  (not_yet n ps m b w (omega arith) (omega arith)),
)

-- as many pairs as end below
pairs_so_far : (n : ℕ) (ps : List (ℕ × ℕ)) (m : ℕ) → IsWritable n ps → m ≤ n
    → length (pairs_of (before ps m)) ≡ first_of ps m
pairs_so_far n ps zero w l = ap (λ ls. length (pairs_of ls)) (none_before ps)
    ∙ sym (ending_none (from_at ps) (length ps))
pairs_so_far n ps (suc m) w l = grind (
  arith,
  common_steps,
  (ap length (pairs_more n ps m w (omega arith))),
  (length-append (pairs_of (before ps m)) (map (with_block m) (above_of ps m))),
  (length-map (above_of ps m) (with_block m)),
  (pairs_more n ps m w (omega arith)),
  (before ps m),
  (above_length ps m),
  (ending_next (from_at ps) m (length ps)),
  (pairs_so_far n ps m w (omega arith)),
)

-- ---- faults

first_fault-append : (n : ℕ) (past xs ys : List Line)
    → first_fault n past (xs ++ ys) ≡ option_or (first_fault n past xs) (first_fault n (past ++ xs) ys)
first_fault-append n past [] ys = ap (λ ls. first_fault n ls ys) (sym (append-nil past))
first_fault-append n past (x ∷ xs) ys = grind (
  arith,
  common_steps,
  (first_fault-append n (past ++ x ∷ []) xs ys
      ∙ ap (λ ls. option_or (first_fault n (past ++ x ∷ []) xs) (first_fault n ls ys)) (append_assoc past (x ∷ []) xs)),
)

line_sound : (n : ℕ) (ps : List (ℕ × ℕ)) (b : ℕ) → IsWritable n ps → b < n
    → fault_after n (before ps b) (line_at ps b) ≡ None
unfolding line_at
line_sound n ps b w l =
    let few = row_short n ps b w l in
    let short : nat_lt LINE_BYTES (length (row ps b)) ≡ false = grind (arith, nat_tests) in
    let room : length (pairs_of (before ps b)) + length (above_of ps b) ≤ MOST_PAIRS =
    omega (
      arith,
      w.few,
      pairs_so_far n ps b w (omega arith),
      above_length ps b,
      ending_next (from_at ps) b
          (length ps),
      ending_most (from_at ps) (suc b) (length ps),
    ) in
    let number = 0 + length (rows ps b) + 1 in
    rw short (ap (record_fault n (has (blocks_of (before ps b))) (length (pairs_of (before ps b))) number)
    (row_fields n ps b w l)
    ∙ fields_sound n ps b number (length (pairs_of (before ps b))) (has (blocks_of (before ps b))) w l
    (not_yet n ps b b w (omega arith) (omega arith)) room)

lines_sound : (n : ℕ) (ps : List (ℕ × ℕ)) (m : ℕ) → IsWritable n ps → m ≤ n → first_fault n [] (before ps m) ≡ None
lines_sound n ps zero w l = ap (first_fault n []) (none_before ps)
lines_sound n ps (suc m) w l = grind (
  arith,
  common_steps,
  before_more,
  first_fault-append,
  before,
  line_at,
  line_sound,
  (lines_sound n ps m w (omega arith)),
)

-- ---- pairs

pair_held : (n : ℕ) (ps : List (ℕ × ℕ)) (m : ℕ) (p : ℕ × ℕ) → IsWritable n ps → m ≤ n
    → Contains (pairs_of (before ps m)) p → Contains ps p
pair_held n ps zero p w l h = absurd (omega (arith, h.1, ap (λ ls. length (pairs_of ls)) (none_before ps)))
pair_held n ps (suc m) p w l h =
    elim (Contains-append_cases (pairs_of (before ps m)) (map (with_block m) (above_of ps m)) p
    (subst (λ xs. Contains xs p) (pairs_more n ps m w (omega arith)) h)) [
      | inl a ↦ pair_held n ps m p w (omega arith) a
      | inr a ↦ own_pair m p a
    ]
  where
    own_pair : (b : ℕ) (p : ℕ × ℕ) → Contains (map (with_block b) (above_of ps b)) p → Contains ps p
    own_pair b p a =
        let i = a.0 in
        let l : i < length (above_of ps b) = omega (arith, a.1, length-map (above_of ps b) (with_block b)) in
        let e : (b, get_or (above_of ps b) i 0) ≡ p = sym (get_or-map (with_block b) (above_of ps b) i 0 p l) ∙ a.2 in
        let f = found_pair ps w.rising b (get_or (above_of ps b) i 0) i l refl in
        (first_of ps b + i, f.0, sym (get_or_default ps (first_of ps b + i) (0, 0) p f.0) ∙ f.1 ∙ e)

pair_listed : (n : ℕ) (ps : List (ℕ × ℕ)) (m : ℕ) (p : ℕ × ℕ) → IsWritable n ps → m ≤ n → Contains ps p → p.0 < m
    → Contains (pairs_of (before ps m)) p
pair_listed n ps zero p w l h i = absurd (omega arith)
pair_listed n ps (suc m) p w l h i =
    let P : List (ℕ × ℕ) → Type 0 = λ xs. Contains xs p in
    subst P (sym (pairs_more n ps m w (omega arith)))
    (elim (cases_eq p.0 m) [
      | inl e ↦ Contains-append_right (pairs_of (before ps m)) (map (with_block m) (above_of ps m)) p (own_pair e)
      | inr d ↦ Contains-append_left (pairs_of (before ps m)) (map (with_block m) (above_of ps m)) p
          (pair_listed n ps m p w (omega arith) h (omega arith))
    ])
  where
    own_pair : p.0 ≡ m → Contains (map (with_block m) (above_of ps m)) p
    own_pair e =
        let k = h.0 in
        let at : get_or ps k (0, 0) ≡ p = get_or_default ps k (0, 0) p h.1 ∙ h.2 in
        let from : from_at ps k ≡ m = ap (λ (x : ℕ × ℕ). x.0) at ∙ e in
        let to : to_at ps k ≡ p.1 = ap (λ (x : ℕ × ℕ). x.1) at in
        let a = above_has ps m k h.1 from in
        let j = length (numbers (from_at ps) m k) in
        let found = a.1 ∙ to in (
          j,
          omega (arith, a.0, length-map (above_of ps m) (with_block m)),
          get_or-map (with_block m) (above_of ps m) j 0 p a.0 ∙ (λ i. (sym e i, found i)),
        )

-- ---- the file

writable : (v : RestsView) → IsRests v → length v.pairs ≤ MOST_PAIRS → AreNarrow v → IsWritable v.blocks v.pairs
writable v r few narrow = record { blocks = r.blocks; few = few; known = r.known; rising = r.rising; narrow = narrow }

text_records : (v : RestsView) → IsWritable v.blocks v.pairs
    → numbered_lines 0 (lines_of (prec_text v)) ≡ before v.pairs v.blocks
unfolding before
text_records v w = ap (numbered_lines 0) (text_lines v.blocks v.pairs w)

-- What is written is read back.
pub reads_back : (v : RestsView) → IsRests v → length v.pairs ≤ MOST_PAIRS → AreNarrow v → ReadsBack v (prec_text v)
reads_back v r few narrow =
    let n = v.blocks in
    let ps = v.pairs in
    let w = writable v r few narrow in
    let all : pairs_of_text (prec_text v) ≡ pairs_of (before ps n) = ap pairs_of (text_records v w) in
    let same : ArePairsOf (pairs_of_text (prec_text v)) ps = record {
      rising = r.rising;
      held = λ p h d. pair_held n ps n p w (omega arith) (subst (λ xs. Contains xs p) all h);
      only = λ p h. (
        subst (λ xs. Contains xs p) (sym all) (pair_listed n ps n p w (omega arith) h (from_known p h)),
        r.apart p h,
      );
    } in
    record {
      sound = ap (first_fault n []) (text_records v w) ∙ lines_sound n ps n w (omega arith);
      same = same;
      alone = λ qs other. one_listing (pairs_of_text (prec_text v)) qs ps other same;
    }
  where
    from_known : (p : ℕ × ℕ) → Contains v.pairs p → p.0 < v.blocks
    from_known p h = let P : ℕ × ℕ → Type 0 = λ x. x.0 < v.blocks in subst P h.2 (r.known h.0 p h.1).0
