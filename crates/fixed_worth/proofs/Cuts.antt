-- Where a text is cut into lines, and a line into fields.
use Rattle.fixed_worth.proofs.Common.{◌≡◌, ℕ, suc, get_or, ◌+◌, ◌<◌, ◌≤◌, Bool, true, false, cond, not, eqb, List, []}
use Rattle.fixed_worth.proofs.Common.{◌∷◌, length, take, drop, None, refl, arith, unwrap_or, position, onto_first}
use Rattle.fixed_worth.proofs.Common.{position_or_len, prefix_len-le-length, drop-drop, common_steps}
use Rattle.fixed_worth.specs.declared.limits.TheConstants.{LINE_BYTES}
use Rattle.fixed_worth.specs.Text.{lines_of, BeginsTooLong, is_separator, WordRun, run_before, runs_from}

one-add : (n : ℕ) → 1 + n ≡ suc n
one-add n = omega arith

pub position_none : {X : Type 0} (p : X → Bool) (xs : List X) → position p xs ≡ None → length xs ≡ position_or_len p xs
position_none p xs e = grind (arith, common_steps, prefix_len-le-length)

pub unwrap_position : {X : Type 0} (p : X → Bool) (xs : List X)
    → unwrap_or (position p xs) (length xs) ≡ position_or_len p xs
unwrap_position p xs = grind (arith, common_steps, prefix_len-le-length)

-- The first line ends at the first line feed.
longer : (b : ℕ) (bs : List ℕ) (j : ℕ) → lines_of bs ≡ take j bs ∷ lines_of (drop (j + 1) bs)
    → onto_first b (lines_of bs) ≡ take (1 + j) (b ∷ bs) ∷ lines_of (drop (1 + j + 1) (b ∷ bs))
longer b bs j ih = grind (arith, common_steps)

first_at : (b : ℕ) (bs : List ℕ) (t : Bool) → eqb b 10 ≡ t
    → (0 < length bs → lines_of bs ≡ take (position_or_len (λ x. eqb x 10) bs) bs ∷ lines_of
    (drop (position_or_len (λ x. eqb x 10) bs + 1) bs))
    → lines_of (b ∷ bs) ≡ take (position_or_len (λ x. eqb x 10) (b ∷ bs)) (b ∷ bs) ∷ lines_of
    (drop (position_or_len (λ x. eqb x 10) (b ∷ bs) + 1) (b ∷ bs))
first_at b bs t e ih = grind (arith, common_steps)

pub first_line : (bs : List ℕ) → 0 < length bs → lines_of bs ≡ take (position_or_len (λ x. eqb x 10) bs) bs ∷ lines_of
    (drop (position_or_len (λ x. eqb x 10) bs + 1) bs)
first_line [] h = absurd (omega arith)
first_line (b ∷ bs) h = first_at b bs (eqb b 10) refl (first_line bs)

-- What stands from a place on begins there or later.
abbrev BeginsFrom : ℕ → List WordRun → Type 0
BeginsFrom p [] = Unit {0}
BeginsFrom p (r ∷ rs) = p ≤ r.place

begins_later : (p : ℕ) (rs : List WordRun) → BeginsFrom (p + 1) rs → BeginsFrom p rs
begins_later p rs h = grind (arith, common_steps)

begins_from : (p : ℕ) (bs : List ℕ) → BeginsFrom p (runs_from p bs)
begins_from p [] = tt
begins_from p (b ∷ bs) = elim (is_separator b) as
    (λ t. BeginsFrom p (cond t (runs_from (p + 1) bs) (run_before b p (runs_from (p + 1) bs))))
    [ true ↦ begins_later p (runs_from (p + 1) bs) (begins_from (p + 1) bs) | false ↦ grind (arith, common_steps) ]

-- A byte with a gap after it is a run of its own.
alone : (b p : ℕ) (rs : List WordRun) → BeginsFrom (p + 1 + 1) rs
    → run_before b p rs ≡ record { text = b ∷ []; place = p } ∷ rs
alone b p rs h = grind (arith, common_steps)

-- The first w bytes are the first run.
abbrev pub Runs : ℕ → List ℕ → ℕ → Type 0
Runs p bs w = runs_from p bs ≡ record { text = take w bs; place = p } ∷ runs_from (p + w) (drop w bs)

run_step : (p b c : ℕ) (cs : List ℕ) → is_separator b ≡ false → (t : Bool) → is_separator c ≡ t
    → (is_separator c ≡ false → Runs (p + 1) (c ∷ cs) (1 + position_or_len is_separator cs))
    → Runs p (b ∷ c ∷ cs) (1 + position_or_len is_separator (c ∷ cs))
run_step p b c cs e t f ih = grind (arith, common_steps, alone, begins_from)

run_from : (p b : ℕ) (bs : List ℕ) → is_separator b ≡ false → Runs p (b ∷ bs) (1 + position_or_len is_separator bs)
run_from p b [] e = rw e refl
run_from p b (c ∷ cs) e = run_step p b c cs e (is_separator c) refl (run_from (p + 1) c cs)

pub first_run : (p : ℕ) (bs : List ℕ) → 0 < length bs → is_separator (get_or bs 0 0) ≡ false
    → Runs p bs (position_or_len is_separator bs)
first_run p bs h e = grind (arith, common_steps, run_from)

abbrev pub gap : List ℕ → ℕ
gap bs = position_or_len (λ b. not (is_separator b)) bs

-- What is left after the separators.
skip : (p b : ℕ) (bs : List ℕ) (t : Bool) → is_separator b ≡ t
    → runs_from (p + 1) bs ≡ runs_from (p + 1 + gap bs) (drop (gap bs) bs)
    → runs_from p (b ∷ bs) ≡ runs_from (p + gap (b ∷ bs)) (drop (gap (b ∷ bs)) (b ∷ bs))
skip p b bs t e ih = grind (arith, common_steps, (one-add (gap bs)))

pub gap_skipped : (p : ℕ) (bs : List ℕ) → runs_from p bs ≡ runs_from (p + gap bs) (drop (gap bs) bs)
gap_skipped p [] = refl
gap_skipped p (b ∷ bs) = skip p b bs (is_separator b) refl (gap_skipped (p + 1) bs)

stops : (b : ℕ) (bs : List ℕ) (t : Bool) → is_separator b ≡ t
    → (0 < length (drop (gap bs) bs) → is_separator (get_or (drop (gap bs) bs) 0 0) ≡ false)
    → 0 < length (drop (gap (b ∷ bs)) (b ∷ bs)) → is_separator (get_or (drop (gap (b ∷ bs)) (b ∷ bs)) 0 0) ≡ false
stops b bs t e ih = grind (arith, common_steps)

pub gap_stops : (bs : List ℕ) → 0 < length (drop (gap bs) bs) → is_separator (get_or (drop (gap bs) bs) 0 0) ≡ false
gap_stops [] h = absurd (omega arith)
gap_stops (b ∷ bs) h = stops b bs (is_separator b) refl (gap_stops bs) h

-- The steps of the readers.
pub line_given : (bs line back rest : List ℕ) (j : ℕ) → 0 < length bs → j ≡ position_or_len (λ x. eqb x 10) bs
    → line ≡ take j bs → back ≡ drop j bs → rest ≡ drop 1 back → lines_of bs ≡ line ∷ lines_of rest
line_given bs line back rest j h e f g k = grind (arith, common_steps, (drop-drop 1 j bs), (first_line bs h))

pub line_too_long : (bs : List ℕ) (j : ℕ) → LINE_BYTES < j → j ≡ position_or_len (λ x. eqb x 10) bs
    → BeginsTooLong (lines_of bs)
line_too_long bs j h e = grind (arith, common_steps, first_line)

pub field_none : (p g : ℕ) (bs back : List ℕ) → g ≡ gap bs → back ≡ drop g bs → eqb (length back) 0 ≡ true
    → (runs_from p bs ≡ []) × (runs_from (p + g) back ≡ [])
field_none p g bs back e f h = grind (arith, common_steps, gap_skipped)

pub field_given : (p g w : ℕ) (bs back text rest : List ℕ) → g ≡ gap bs → back ≡ drop g bs
    → eqb (length back) 0 ≡ false → w ≡ position_or_len is_separator back → text ≡ take w back → rest ≡ drop w back
    → runs_from p bs ≡ record { text = text; place = p + g } ∷ runs_from (p + g + w) rest
field_given p g w bs back text rest e f h k m n = grind (arith, common_steps, gap_stops, gap_skipped, first_run)

pub few_runs : (p : ℕ) (bs : List ℕ) → length (runs_from p bs) ≤ length bs
few_runs p [] = omega arith
few_runs p (b ∷ bs) = let ih = few_runs (p + 1) bs in elim (is_separator b) as
    (λ t. length (cond t (runs_from (p + 1) bs) (run_before b p (runs_from (p + 1) bs))) ≤ suc (length bs))
    [ true ↦ omega arith | false ↦ grind (arith, common_steps) ]
