-- What stands first in a text.
use Rattle.std.specs.Prelude.{◌≡◌, ◌+◌, ◌-◌, ◌<◌, ◌≤◌, ◌^◌, ℕ, List, [], ◌∷◌, ◌++◌, length, IsTrue}
use Rattle.std.specs.List.{list_all}
use Rattle.fixed_worth.specs.Numeral.{is_digit, value_of}
use Rattle.fixed_worth.specs.Text.{runs_from}

-- A point, or nothing; and without a point there are no digits after it.
abbrev pub MayFollow : List ℕ → List ℕ → Type 0
MayFollow digits [] = digits ≡ []
MayFollow digits (b ∷ bs) = (b ≡ 46) × (bs ≡ [])

-- A point with digits after it, if there is one, and then what is left: the digits' value, and how many they are.
pub record BeginsWithFraction (text : List ℕ) (value places : ℕ) (rest : List ℕ) : Type 0 where
  pub point : List ℕ
  pub digits : List ℕ
  pub all : text ≡ point ++ (digits ++ rest)
  pub form : MayFollow digits point
  pub are_digits : IsTrue (list_all is_digit digits)
  pub places_are : length digits ≡ places
  pub value_is : value ≡ value_of digits
  pub small : value < 10 ^ places

-- The first field of a text stands at its beginning, and what is left has the others.
pub record BeginsWithField (text field rest : List ℕ) : Type 0 where
  pub shorter : length rest ≤ length text
  pub fields : (p : ℕ) → runs_from p text ≡ record { text = field; place = p } ∷ runs_from
      (p + (length text - length rest)) rest
