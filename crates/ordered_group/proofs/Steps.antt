-- One step of a loop that sums amounts, and what fits on the way.
use Rattle.std.proofs.Common.{◌≡◌, ℕ, ◌+◌, Bool, true, false, sym, refl, ap, subst, ◌∙◌, add-one}
use Rattle.ordered_group.specs.Prelude.{Amount, zero_amount, plus, FitsPair, total, where_so, SumFits}
use Rattle.ordered_group.proofs.Totals.Ranges.{plus-zero_right}
use Rattle.ordered_group.proofs.Totals.Sets.{where_at, where_not}
use Rattle.std.proofs.Common.{below_more}

-- the sum so far takes the next term
pub total_step : (g : ℕ → Amount) (i : ℕ) (old new x : Amount) → old ≡ total g i → g i ≡ x → new ≡ plus old x
    → new ≡ total g (i + 1)
total_step g i old new x p q r = r ∙ rw (p, ← q, add-one i) refl

-- a sum over a set takes the next amount, or passes it by
pub set_step : (e : ℕ → Bool) (w : ℕ → Amount) (i : ℕ) (old new x : Amount) → e i ≡ true
    → old ≡ total (λ b. where_so (e b) (w b)) i → w i ≡ x → new ≡ plus old x
    → new ≡ total (λ b. where_so (e b) (w b)) (i + 1)
set_step e w i old new x h p q r = total_step (λ b. where_so (e b) (w b)) i old new x p (where_at (e i) (w i) h ∙ q) r

pub set_skip : (e : ℕ → Bool) (w : ℕ → Amount) (i : ℕ) (old : Amount) → e i ≡ false
    → old ≡ total (λ b. where_so (e b) (w b)) i → old ≡ total (λ b. where_so (e b) (w b)) (i + 1)
set_skip e w i old h p = total_step (λ b. where_so (e b) (w b)) i old old zero_amount p (where_not (e i) (w i) h)
    (sym (plus-zero_right old))

-- what fits under one name fits under another
pub fits_same : (x y : Amount) → x ≡ y → FitsPair y → FitsPair x
fits_same x y e h = let P : Amount → Type 0 = λ a. FitsPair a in subst P (sym e) h

pub fits_there : (old x t y : Amount) → old ≡ t → y ≡ x → FitsPair (plus old x) → FitsPair (plus t y)
fits_there old x t y p q h = fits_same (plus t y) (plus old x) (ap (λ a. plus a y) (sym p) ∙ ap (plus old) q) h

-- the sums on the way, one term further
pub SumFits_step : (g : ℕ → Amount) (i : ℕ) (old x : Amount) → SumFits g i → old ≡ total g i → g i ≡ x
    → FitsPair (plus old x) → SumFits g (i + 1)
SumFits_step g i old x f p q h = below_more _ i f (fits_there old x (total g i) (g i) p q h)
