-- The words that name a pattern and a direction.
use Rattle.std.specs.Prelude.{ℕ, ◌≤◌, cond, List, [], ◌∷◌, codes, Option, Some, None}
use Rattle.std.specs.Str.{bytes_eq}
use Rattle.fixed_worth.specs.Text.{parts}
use Rattle.slope_offsets.specs.declared.up.Up.{Up}
use Rattle.slope_offsets.specs.declared.up.Up.TheVariants.{PlusZ, MinusZ}
use Rattle.slope_offsets.specs.declared.pattern.TheConstants.{MOST_CONE_NUMBER}
use Rattle.option_words.specs.declared.pattern_choice.PatternChoice.{PatternChoice}
use Rattle.option_words.specs.declared.pattern_choice.PatternChoice.TheVariants.{Five, Nine, Cone}
use Rattle.option_words.specs.WholeNumbers.{whole_within}

-- a number of a cone is from 1 to 1,000
abbrev pub IsConeNumber : ℕ → Type 0
IsConeNumber k = (1 ≤ k) × (k ≤ MOST_CONE_NUMBER)

-- the numbers of the pattern that is asked for are in their range
abbrev pub IsChoice : PatternChoice → Type 0
IsChoice (Cone levels run rise) = IsConeNumber levels × IsConeNumber run × IsConeNumber rise
IsChoice _ = Unit {0}

-- the number of a cone that a piece is: a whole number from 1 to 1,000
abbrev pub cone_number_of : List ℕ → Option ℕ
cone_number_of piece = whole_within piece 1 MOST_CONE_NUMBER

-- the cone with these numbers, where all three are there
abbrev pub cone_with : Option ℕ → Option ℕ → Option ℕ → Option PatternChoice
cone_with (Some levels) (Some run) (Some rise) = Some (Cone levels run rise)
cone_with _ _ _ = None

-- the cone that three pieces give: its levels, its run and its rise
abbrev pub cone_of : List (List ℕ) → Option PatternChoice
cone_of (levels ∷ run ∷ rise ∷ []) = cone_with (cone_number_of levels) (cone_number_of run) (cone_number_of rise)
cone_of _ = None

-- the pattern that a name without numbers gives
abbrev pub plain_pattern_of : List ℕ → Option PatternChoice
plain_pattern_of name = cond (bytes_eq name (codes "five")) (Some Five)
    (cond (bytes_eq name (codes "nine")) (Some Nine) None)

-- the pattern that a name gives with the pieces after it
abbrev pub pattern_with : List (List ℕ) → Option PatternChoice
pattern_with [] = None
pattern_with (name ∷ []) = plain_pattern_of name
pattern_with (name ∷ piece ∷ pieces) = cond (bytes_eq name (codes "cone")) (cone_of (piece ∷ pieces)) None

-- the pattern that a word names, if it names one: colons (58) divide the word into pieces
abbrev pub pattern_of : List ℕ → Option PatternChoice
pattern_of word = pattern_with (parts 58 word)

-- the direction that a word names, if it names one
abbrev pub up_of : List ℕ → Option Up
up_of word = cond (bytes_eq word (codes "plus")) (Some PlusZ) (cond (bytes_eq word (codes "minus")) (Some MinusZ) None)
