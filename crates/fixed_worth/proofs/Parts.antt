-- What the search of a byte cuts a text into.
use Rattle.fixed_worth.proofs.Common.{◌≡◌, ℕ, ◌<◌, eqb, List, [], ◌∷◌, length, take, drop, Some, None, sym, arith}
use Rattle.fixed_worth.proofs.Common.{position, position-Some, fails_before_first, length-slice_split, slice_split_none}
use Rattle.fixed_worth.proofs.Common.{slice_split_first, common_steps}
use Rattle.std.proofs.Math.Seq.{drop-drop}
use Rattle.memchr.specs.Find.{IsFirstByte, is_byte}
use Rattle.fixed_worth.specs.Text.{parts}
use Rattle.fixed_worth.proofs.Cuts.{position_none}
use Rattle.fixed_worth.proofs.Searched.{first_place}

-- There is always a part.
pub some_part : (c : ℕ) (bs : List ℕ) → 0 < length (parts c bs)
some_part c bs = omega (arith, length-slice_split (λ b. eqb b c) bs)

none_passes : (c : ℕ) (bs : List ℕ) → position (λ b. eqb b c) bs ≡ None → parts c bs ≡ bs ∷ []
none_passes c bs e = slice_split_none (λ b. eqb b c) bs
    (λ k d m. fails_before_first (λ b. eqb b c) bs k d (omega (arith, m, position_none (λ b. eqb b c) bs e)))

-- without such a byte the text is one part
pub not_cut : (c : ℕ) (bs : List ℕ) → IsFirstByte (is_byte c) bs None → parts c bs ≡ bs ∷ []
not_cut c bs h = none_passes c bs (sym (first_place c bs None h))

-- the first part ends at the first such byte
pub cut : (c j : ℕ) (bs front back rest : List ℕ) → IsFirstByte (is_byte c) bs (Some j) → front ≡ take j bs
    → back ≡ drop j bs → rest ≡ drop 1 back → parts c bs ≡ front ∷ parts c rest
cut c j bs front back rest h e f g =
    let is : position (λ b. eqb b c) bs ≡ Some j = sym (first_place c bs (Some j) h) in
    grind (arith, common_steps, slice_split_first, eqb, first_place, position-Some, drop-drop)
