-- A text is cut at its line feeds, and a line at its spaces.
use Rattle.fixed_worth.proofs.Common.{◌≡◌, ℕ, ◌<◌, Bool, true, false, cond, not, eqb, List, [], ◌∷◌, ◌++◌, length, Some}
use Rattle.fixed_worth.proofs.Common.{None, refl, ap, ◌∙◌, arith, list_all, onto_first, not-true, and_parts, nat_tests}
use Rattle.fixed_worth.proofs.Common.{common_steps}
use Rattle.fixed_worth.specs.Prelude.{is_digit, parts, with_line_feeds}
use Rattle.fixed_worth.proofs.Joined.{is_one_line}
use Rattle.fixed_worth.proofs.Parts.{some_part}
use Rattle.trace_file.specs.declared.trace_fault.TraceFault.TheVariants.{Text}
use Rattle.trace_file.specs.Prelude.{event_of_words, trace_end_fault}

-- A line, its line feed, and what follows.
pub line_cut : (line rest : List ℕ) → is_one_line line ≡ true → parts 10 (line ++ (10 ∷ rest)) ≡ line ∷ parts 10 rest
line_cut [] rest h = refl
line_cut (b ∷ bs) rest h =
    let q = and_parts (not (eqb b 10)) (is_one_line bs) h in
    let e : eqb b 10 ≡ false = not-true (eqb b 10) q.0 in
    rw e (ap (onto_first b) (line_cut bs rest q.1))

-- Lines with a line feed after each are the parts of their text, and after the last there is nothing.
pub lines_cut : (lines : List (List ℕ)) → list_all is_one_line lines ≡ true
    → parts 10 (with_line_feeds lines) ≡ lines ++ ([] ∷ [])
lines_cut [] h = refl
lines_cut (line ∷ lines) h =
    let q = and_parts (is_one_line line) (list_all is_one_line lines) h in
    line_cut line (with_line_feeds lines) q.0 ∙ ap (λ (ls : List (List ℕ)). line ∷ ls) (lines_cut lines q.1)

digit_no_space : (d : ℕ) → is_digit d ≡ true → eqb d 32 ≡ false
digit_no_space d h = grind (arith, common_steps)

-- Digits are one word.
pub digits_alone : (ds : List ℕ) → list_all is_digit ds ≡ true → parts 32 ds ≡ ds ∷ []
digits_alone [] h = refl
digits_alone (d ∷ ds) h =
    let q = and_parts (is_digit d) (list_all is_digit ds) h in
    let e : eqb d 32 ≡ false = digit_no_space d q.0 in
    rw e (ap (onto_first d) (digits_alone ds q.1))

-- ---- what stands after END, and after a word

pub some_after : (k : ℕ) (bs : List ℕ) → eqb (length bs) 0 ≡ false → Some (Text k) ≡ trace_end_fault k (parts 10 bs)
some_after k [] h = absurd (grind (arith, nat_tests))
some_after k (b ∷ bs) h = some_by k b (eqb b 10) (parts 10 bs) (some_part 10 bs)
  where
    onto : (k b : ℕ) (ps : List (List ℕ)) → Some (Text k) ≡ trace_end_fault k (onto_first b ps)
    onto k b [] = refl
    onto k b (p ∷ ps) = refl

    two : (k : ℕ) (ps : List (List ℕ)) → 0 < length ps → Some (Text k) ≡ trace_end_fault k ([] ∷ ps)
    two k [] l = absurd (omega arith)
    two k (p ∷ ps) l = refl

    some_by : (k b : ℕ) (t : Bool) (ps : List (List ℕ)) → 0 < length ps
        → Some (Text k) ≡ trace_end_fault k (cond t ([] ∷ ps) (onto_first b ps))
    some_by k b true ps l = two k ps l
    some_by k b false ps l = onto k b ps

three : (a b : List ℕ) (ps : List (List ℕ)) → 0 < length ps → event_of_words (a ∷ b ∷ ps) ≡ None
three a b [] l = absurd (omega arith)
three a b (p ∷ ps) l = refl

pub three_words : (line first second third fourth : List ℕ) → parts 32 line ≡ first ∷ parts 32 second
    → parts 32 second ≡ third ∷ parts 32 fourth → event_of_words (parts 32 line) ≡ None
three_words line first second third fourth e f = ap event_of_words (e ∙ ap (λ (ws : List (List ℕ)). first ∷ ws) f)
    ∙ three first third (parts 32 fourth) (some_part 32 fourth)
