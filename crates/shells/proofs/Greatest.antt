-- The greatest of amounts, and the first that is as great.
use Rattle.fixed_worth.proofs.Common.{◌≡◌, ◌≢◌, ℕ, ◌+◌, ◌<◌, pos, ◌<ℤ◌, ◌≤ℤ◌, ℤ, Bool, true, false, cond, List, [], ◌∷◌}
use Rattle.fixed_worth.proofs.Common.{◌++◌, length, take, get_or, Option, Some, None, position, refl, sym, ap, ap₂, ◌∙◌}
use Rattle.fixed_worth.proofs.Common.{arith, ints, clamps, int_max, int_eq, take_more, get_or-map, length-map}
use Rattle.fixed_worth.proofs.Common.{position_or_len, position_or_len_is, false_from_ne_true, Decides-int_eq, nat_lt}
use Rattle.fixed_worth.proofs.Common.{lt-ltb, le-ltb, All, All-cons, All-nil}
use Rattle.std.specs.Prelude.{int_lt, Any, MatchBool}
use Rattle.shells.specs.Prelude.{WayView, best_of, first_best, left_at, worths_by}

best_push : (ws : List ℤ) (w : ℤ) → best_of (ws ++ w ∷ []) ≡ int_max w (best_of ws)
best_push [] w = refl
best_push (x ∷ xs) w = let rest = best_push xs w in omega (arith, ints, clamps, rest)

-- the greatest of one amount more
pub best_more : (ws : List ℤ) (i : ℕ) (w best next : ℤ) → i < length ws → get_or ws i (pos 0) ≡ w
    → best ≡ best_of (take i ws) → next ≡ int_max w best → next ≡ best_of (take (i + 1) ws)
best_more ws i w best next l at so is = is ∙ ap₂ int_max (sym at) so
    ∙ sym (best_push (take i ws) (get_or ws i (pos 0))) ∙ ap best_of (sym (take_more ws i (pos 0) l))

pub worths_count : (ways : List WayView) (k b : ℕ) → length (worths_by ways k b) ≡ length ways
worths_count ways k b = length-map ways (λ (w : WayView). left_at w.revenue w.processing k b)

-- what a block is worth by the way at a place
pub worth_by_way : (ways : List WayView) (k b i : ℕ) (way : WayView) → i < length ways → get_or ways i way ≡ way
    → get_or (worths_by ways k b) i (pos 0) ≡ left_at way.revenue way.processing k b
worth_by_way ways k b i way l is = get_or-map (λ (w : WayView). left_at w.revenue w.processing k b) ways i way
    (pos 0) l ∙ ap (λ (w : WayView). left_at w.revenue w.processing k b) is

is_other : (x y : ℤ) → x ≢ y → int_eq x y ≡ false
is_other x y n = false_from_ne_true (int_eq x y) (λ t. n ((Decides-int_eq x y).0 t))

-- the first amount that is so much
pub first_found : (ws : List ℤ) (i : ℕ) (w : ℤ) → i < length ws → ((j : ℕ) → j < i → get_or ws j (pos 0) ≢ w)
    → get_or ws i (pos 0) ≡ w → Some i ≡ position (λ x. int_eq x w) ws
first_found ws i w l before at =
    let p = λ (x : ℤ). int_eq x w in
    let is : position_or_len p ws ≡ i = position_or_len_is p ws i (pos 0) (omega (arith, l))
    (λ j h. is_other (get_or ws j (pos 0)) w (before j h)) (λ _. (Decides-int_eq (get_or ws i (pos 0)) w).1 at) in
    sym (ap (λ n. cond (nat_lt n (length ws)) (Some n) None) is
    ∙ ap (λ t. cond t (Some i) None) (lt-ltb i (length ws) l))

-- and none that is
pub none_found : (ws : List ℤ) (w : ℤ) → ((j : ℕ) → j < length ws → get_or ws j (pos 0) ≢ w)
    → None ≡ position (λ x. int_eq x w) ws
none_found ws w none =
    let p = λ (x : ℤ). int_eq x w in
    let is : position_or_len p ws ≡ length ws = position_or_len_is p ws (length ws) (pos 0) (omega arith)
    (λ j h. is_other (get_or ws j (pos 0)) w (none j h)) (λ l. absurd (omega (arith, l))) in
    sym (ap (λ n. cond (nat_lt n (length ws)) (Some n) None) is
    ∙ ap (λ t. cond t (Some (length ws)) None) (le-ltb (length ws) (length ws) (omega arith)))

-- the place of the first amount that is as great as the greatest
pub first_best_is : (ws : List ℤ) (best : ℤ) (place : Option ℕ) → best ≡ best_of ws → int_lt (pos 0) best ≡ true
    → place ≡ position (λ x. int_eq x best) ws → place ≡ first_best ws
first_best_is ws best place is above at =
    at ∙ ap (λ z. position (λ x. int_eq x z) ws) is
    ∙ sym (ap (λ t. cond t (position (λ x. int_eq x (best_of ws)) ws) None) (ap (int_lt (pos 0)) (sym is) ∙ above))

-- one amount is negative or isn't
pub one_sign : (r : ℤ) → MatchBool (int_lt r (pos 0)) (Any (λ x. x <ℤ pos 0) (r ∷ [])) (All (λ x. pos 0 ≤ℤ x) (r ∷ []))
one_sign r = by (int_lt r (pos 0)) refl
  where
    by : (t : Bool) → int_lt r (pos 0) ≡ t
        → MatchBool t (Any (λ x. x <ℤ pos 0) (r ∷ [])) (All (λ x. pos 0 ≤ℤ x) (r ∷ []))
    by true e = (0, r, omega arith, refl, omega (arith, ints))
    by false e = All-cons (λ x. pos 0 ≤ℤ x) r [] (omega (arith, ints)) (All-nil (λ x. pos 0 ≤ℤ x))
