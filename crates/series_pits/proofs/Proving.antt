-- The best pit of a net is that of its prices.
use Rattle.fixed_worth.proofs.Common.{◌≡◌, ℕ, ℤ, List, [], ◌∷◌, ◌++◌, All, length, length-append, get_or, refl, sym}
use Rattle.fixed_worth.proofs.Common.{subst, arith, get_or_append_left}
use Rattle.ordered_group.specs.Amount.{Amount}
use Rattle.closure_net.specs.Prelude.{NetView, holds_of, IsBest}
use Rattle.shells.specs.Prelude.{PricesView, mine_at}
use Rattle.shells.proofs.Shells.{net_of_over}
use Rattle.series_pits.specs.declared.best_pits.BestPit.{BestPit}
use Rattle.series_pits.specs.Prelude.{IsRowOf, IsNetAt, IsBestOf, IsProved}

pub proved_by : (block : ℤ → ℕ → Amount) (pairs : List (ℕ × ℕ)) (prices : PricesView) (k : ℕ) (net : NetView)
    (best : BestPit) → IsNetAt block pairs prices k net → IsBestOf block net k best → IsProved pairs prices best
proved_by block pairs prices k net best at is =
    let of_mine = net_of_over block pairs prices k net at.over in
    let B : ℕ → Type 0 = λ f. IsBest (mine_at pairs prices f) (holds_of best.pit) in
    let R : ℕ → Type 0 = λ f. IsRowOf (mine_at pairs prices f) best.row in
    record {
      is_best = subst B (sym is.at) (is.is_best (mine_at pairs prices k) of_mine);
      row_is = subst R (sym is.at) (is.row_is (mine_at pairs prices k) of_mine);
    }

-- ---- what holds of all of a list
pub all_one : {T : Type 0} (P : T → Type 0) (x : T) → P x → All P (x ∷ [])
all_one P x h j d low = let z : j ≡ 0 = omega (arith, low) in subst (λ n. P (get_or (x ∷ []) n d)) (sym z) h

pub all_before : {T : Type 0} (P : T → Type 0) (xs : List T) (x : T) → All P (xs ++ x ∷ []) → All P xs
all_before P xs x h j d low = subst P (get_or_append_left xs (x ∷ []) d j low)
    (h j d (omega (arith, low, length-append xs (x ∷ []))))

last_at : {T : Type 0} (xs : List T) (x d : T) → get_or (xs ++ x ∷ []) (length xs) d ≡ x
last_at [] x d = refl
last_at (y ∷ ys) x d = last_at ys x d

pub all_last : {T : Type 0} (P : T → Type 0) (xs : List T) (x : T) → All P (xs ++ x ∷ []) → P x
all_last P xs x h = subst P (last_at xs x x) (h (length xs) x (omega (arith, length-append xs (x ∷ []))))
