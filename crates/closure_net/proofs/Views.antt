-- Lists of values, seen as lists of amounts, and lists that agree at each place.
use Rattle.fixed_worth.proofs.Common.{◌≡◌, ℕ, ◌<◌, List, length, get_or, map, sym, ap, ◌∙◌, arith, length-map}
use Rattle.fixed_worth.proofs.Common.{same_lists, get_or_default}
use Rattle.ordered_group.specs.Prelude.{Amount, amount_at}
use Rattle.ordered_group.proofs.Lists.{at_map}

-- there are as many amounts as values
pub length_view : {X : Type 0} (f : X → Amount) (xs : List X) (ys : List Amount) → map f xs ≡ ys → length xs ≡ length ys
length_view f xs ys e = sym (length-map xs f) ∙ ap length e

-- the amount at a place is that of the value that was read there
pub at_view : {X : Type 0} (f : X → Amount) (xs : List X) (ys : List Amount) (i : ℕ) (x : X) → map f xs ≡ ys
    → i < length xs → x ≡ get_or xs i x → amount_at ys i ≡ f x
at_view f xs ys i x e h r = ap (λ l. amount_at l i) (sym e) ∙ at_map f xs i x h r

-- reading with one default is enough
pub same_at_default : {X : Type 0} (d : X) (xs ys : List X) → length xs ≡ length ys
    → ((k : ℕ) → k < length xs → get_or xs k d ≡ get_or ys k d) → xs ≡ ys
same_at_default d xs ys e h =
    same_lists xs ys e (λ k z l. sym (get_or_default xs k d z l) ∙ h k l ∙ get_or_default ys k d z (omega arith))

-- lists of values whose amounts agree at each place stand for the same amounts
pub same_amounts_at : {X : Type 0} (f : X → Amount) (d : Amount) (xs ys : List X) → length xs ≡ length ys
    → ((k : ℕ) → k < length xs → get_or (map f xs) k d ≡ get_or (map f ys) k d) → map f xs ≡ map f ys
same_amounts_at f d xs ys e h =
    let x = length-map xs f in
    let y = length-map ys f in
    same_at_default d (map f xs) (map f ys) (x ∙ e ∙ sym y) (λ k l. h k (omega arith))
