-- What the pieces of a word name.
use Rattle.fixed_worth.proofs.Common.{◌≡◌, ℕ, ◌<◌, cond, List, [], ◌∷◌, length, None, refl, ap, ◌∙◌, arith, codes}
use Rattle.fixed_worth.proofs.Common.{bytes_eq}
use Rattle.fixed_worth.specs.Text.{parts}
use Rattle.fixed_worth.proofs.Parts.{some_part}
use Rattle.option_words.specs.PatternWords.{cone_of, pattern_with, pattern_of}

named_by : (name : List ℕ) (ps : List (List ℕ)) → 0 < length ps
    → pattern_with (name ∷ ps) ≡ cond (bytes_eq name (codes "cone")) (cone_of ps) None
named_by name [] h = absurd (omega arith)
named_by name (p ∷ ps) h = refl

-- a word with a colon names what its name and the pieces after it do
pub named : (word name numbers : List ℕ) → parts 58 word ≡ name ∷ parts 58 numbers
    → pattern_of word ≡ cond (bytes_eq name (codes "cone")) (cone_of (parts 58 numbers)) None
named word name numbers e = ap pattern_with e ∙ named_by name (parts 58 numbers) (some_part 58 numbers)

four_none : (a b c : List ℕ) (ps : List (List ℕ)) → 0 < length ps → cone_of (a ∷ b ∷ c ∷ ps) ≡ None
four_none a b c [] h = absurd (omega arith)
four_none a b c (p ∷ ps) h = refl

-- four pieces are no cone
pub too_many_pieces : (numbers levels others run rise front back : List ℕ)
    → parts 58 numbers ≡ levels ∷ parts 58 others → parts 58 others ≡ run ∷ parts 58 rise
    → parts 58 rise ≡ front ∷ parts 58 back → cone_of (parts 58 numbers) ≡ None
too_many_pieces numbers levels others run rise front back e f g = rw (e, f, g)
    (four_none levels run front (parts 58 back) (some_part 58 back))
