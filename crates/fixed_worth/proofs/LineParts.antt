-- The lines of a text that is cut after a line feed are those of its parts.
use Rattle.fixed_worth.proofs.Common.{◌≡◌, ℕ, ◌+◌, ◌<◌, Bool, true, false, eqb, List, [], ◌∷◌, ◌++◌, length, get_or}
use Rattle.fixed_worth.proofs.Common.{take, drop, refl, sym, ap, ◌∙◌, arith, Some, position, position-Some, onto_first}
use Rattle.fixed_worth.proofs.Common.{append_assoc, get_or-drop, take_more, take-append-drop, nat_tests, common_steps}
use Rattle.fixed_worth.specs.Prelude.{lines_of, numbered_lines}

onto_some : (b : ℕ) (ls : List (List ℕ)) → 0 < length (onto_first b ls)
onto_some b [] = omega arith
onto_some b (l ∷ ls) = omega arith

onto_append : (b : ℕ) (ls ms : List (List ℕ)) → 0 < length ls → onto_first b (ls ++ ms) ≡ onto_first b ls ++ ms
onto_append b [] ms h = absurd (omega arith)
onto_append b (l ∷ ls) ms h = refl

some_by : (b : ℕ) (bs : List ℕ) (t : Bool) → eqb b 10 ≡ t → 0 < length (lines_of (b ∷ bs))
some_by b bs true e = rw e (omega arith)
some_by b bs false e = rw e (onto_some b (lines_of bs))

some_line : (front : List ℕ) → 0 < length (lines_of (front ++ 10 ∷ []))
some_line [] = omega arith
some_line (b ∷ bs) = some_by b (bs ++ 10 ∷ []) (eqb b 10) refl

cut_by : (b : ℕ) (bs back : List ℕ) (t : Bool) → eqb b 10 ≡ t → lines_of (bs ++ 10 ∷ back) ≡ lines_of (bs ++ 10 ∷ [])
    ++ lines_of back
    → lines_of (b ∷ (bs ++ 10 ∷ back)) ≡ lines_of (b ∷ (bs ++ 10 ∷ [])) ++ lines_of back
cut_by b bs back true e h = rw e (ap (λ ls. [] ∷ ls) h)
cut_by b bs back false e h = rw e
    (ap (onto_first b) h ∙ onto_append b (lines_of (bs ++ 10 ∷ [])) (lines_of back) (some_line bs))

-- a line feed between the parts
pub cut_lines : (front back : List ℕ) → lines_of (front ++ 10 ∷ back) ≡ lines_of (front ++ 10 ∷ []) ++ lines_of back
cut_lines [] back = refl
cut_lines (b ∷ bs) back = cut_by b bs back (eqb b 10) refl (cut_lines bs back)

-- the parts before and after place k, where the byte before it is a line feed
pub cut_at_feed : (text : List ℕ) (k : ℕ) → k < length text → get_or text k 0 ≡ 10
    → lines_of text ≡ lines_of (take (k + 1) text) ++ lines_of (drop (k + 1) text)
cut_at_feed text k l e =
    let front : take (k + 1) text ≡ take k text ++ 10 ∷ [] = take_more text k 0 l
    ∙ ap (λ (b : ℕ). take k text ++ b ∷ []) e in
    let whole : text ≡ take k text ++ (10 ∷ drop (k + 1) text) =
    sym (take-append-drop (k + 1) text) ∙ ap (λ (xs : List ℕ). xs ++ drop (k + 1) text) front
    ∙ append_assoc (take k text) (10 ∷ []) (drop (k + 1) text) in
    ap lines_of whole ∙ cut_lines (take k text) (drop (k + 1) text)
    ∙ ap (λ (xs : List ℕ). lines_of xs ++ lines_of (drop (k + 1) text)) (sym front)

-- the first line feed from a place on
pub feed_found : (text : List ℕ) (place j : ℕ) → position (λ b. eqb b 10) (drop place text) ≡ Some j
    → (place + j < length text) × (get_or text (place + j) 0 ≡ 10)
feed_found text place j e =
    let p = position-Some (λ b. eqb b 10) (drop place text) j 0 e in
    grind (arith, common_steps, nat_tests, get_or-drop)

-- the lines of both parts, numbered
pub numbered-append : (k : ℕ) (xs ys : List (List ℕ)) → numbered_lines k (xs ++ ys) ≡ numbered_lines k xs
    ++ numbered_lines (k + length xs) ys
numbered-append k [] ys = let e : k ≡ k + 0 = omega arith in ap (λ j. numbered_lines j ys) e
numbered-append k (x ∷ xs) ys =
    let e : k + 1 + length xs ≡ k + length (x ∷ xs) = omega arith in
    ap (λ ls. record { number = k + 1; text = x } ∷ ls)
    (numbered-append (k + 1) xs ys ∙ ap (λ j. numbered_lines (k + 1) xs ++ numbered_lines j ys) e)
