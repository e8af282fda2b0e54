-- The lines of a text give it back.
use Rattle.fixed_worth.proofs.Common.{◌≡◌, ℕ, suc, ◌<◌, Bool, false, eqb, List, [], ◌∷◌, length, get_or, refl, arith}
use Rattle.fixed_worth.proofs.Common.{All, EachIndex, onto_first, All-nil, All-cons, common_steps}
use Rattle.fixed_worth.specs.Prelude.{lines_of, with_last_line_feed, with_line_feeds, AreLines}

abbrev pub NoLineFeed : List ℕ → Type 0
NoLineFeed line = EachIndex line (λ k. eqb (get_or line k 0) 10 ≡ false)

onto_together : (b : ℕ) (ls : List (List ℕ)) → 0 < length ls
    → with_line_feeds (onto_first b ls) ≡ b ∷ with_line_feeds ls
onto_together b ls h = grind (arith, common_steps)

together_by : (b : ℕ) (bs : List ℕ) (t : Bool) → eqb b 10 ≡ t → with_line_feeds (lines_of bs) ≡ with_last_line_feed bs
    → with_line_feeds (lines_of (b ∷ bs)) ≡ with_last_line_feed (b ∷ bs)
together_by b bs t e ih = grind (arith, common_steps, onto_together)

together : (bs : List ℕ) → with_line_feeds (lines_of bs) ≡ with_last_line_feed bs
together [] = refl
together (b ∷ bs) = together_by b bs (eqb b 10) refl (together bs)

onto_line : (b : ℕ) (l : List ℕ) → eqb b 10 ≡ false → NoLineFeed l → NoLineFeed (b ∷ l)
onto_line b l e h f k = grind (arith, common_steps)

onto_whole : (b : ℕ) (ls : List (List ℕ)) → eqb b 10 ≡ false → All NoLineFeed ls → All NoLineFeed (onto_first b ls)
onto_whole b [] e h = All-cons NoLineFeed (b ∷ []) [] (onto_line b [] e (λ k l. absurd (omega arith)))
    (All-nil NoLineFeed)
onto_whole b (l ∷ ls) e h = All-cons NoLineFeed (b ∷ l) ls (onto_line b l e (h 0 [] (omega arith)))
    (λ k d s. h (suc k) d (omega arith))

whole_by : (b : ℕ) (bs : List ℕ) (t : Bool) → eqb b 10 ≡ t → All NoLineFeed (lines_of bs)
    → All NoLineFeed (lines_of (b ∷ bs))
whole_by b bs t e ih = grind (arith, common_steps, onto_whole)

whole : (bs : List ℕ) → All NoLineFeed (lines_of bs)
whole [] = All-nil NoLineFeed
whole (b ∷ bs) = whole_by b bs (eqb b 10) refl (whole bs)

-- The lines of a text are what line feeds end.
pub lines_are : (text : List ℕ) → AreLines text (lines_of text)
lines_are text = record { together = together text; whole = whole text }
