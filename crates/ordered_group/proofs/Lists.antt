-- Lists of values, and of the amounts that they stand for.
use Rattle.std.proofs.Common.{◌≡◌, ℕ, ◌<◌, List, length, get_or, map, sym, ap, subst, ◌∙◌}
use Rattle.std.proofs.lemmas.List.{get_or-map}
use Rattle.ordered_group.specs.Prelude.{Amount, zero_amount, amount_at}

-- the amount at i is that of the value that was read there
pub at_map : {X : Type 0} (f : X → Amount) (xs : List X) (i : ℕ) (x : X) → i < length xs → x ≡ get_or xs i x
    → amount_at (map f xs) i ≡ f x
at_map f xs i x h e = get_or-map f xs i x zero_amount h ∙ ap f (sym e)

-- what holds of the amount at i holds of that value's, and the other way round
pub here_from_map : {X : Type 0} (f : X → Amount) (P : Amount → Type 0) (xs : List X) (i : ℕ) (x : X) → i < length xs
    → x ≡ get_or xs i x → P (amount_at (map f xs) i) → P (f x)
here_from_map f P xs i x h e p = subst P (at_map f xs i x h e) p

pub map_from_here : {X : Type 0} (f : X → Amount) (P : Amount → Type 0) (xs : List X) (i : ℕ) (x : X) → i < length xs
    → x ≡ get_or xs i x → P (f x) → P (amount_at (map f xs) i)
map_from_here f P xs i x h e p = subst P (sym (at_map f xs i x h e)) p
