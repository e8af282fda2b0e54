-- What a shell is, and that no block has one at the opening; and that a net over pairs and prices is that of their
-- mine.
use Rattle.fixed_worth.proofs.Common.{◌≡◌, ℕ, ◌<◌, List, Option, Some, None, refl, ap, ◌∙◌, arith, ℤ, le-leb, lt-leb}
use Rattle.fixed_worth.proofs.Common.{common_steps}
use Rattle.prec_file.specs.Rests.{IsRests}
use Rattle.closure_net.proofs.BestPits.{best_is_one}
use Rattle.shells.specs.Prelude.{PricesView, priced_count, IsTable, mine_at, SeriesView, shell_at, is_upto, upto}
use Rattle.shells.specs.Prelude.{opened_series, IsSeries, IsShell, IsOver}
use Rattle.ordered_group.specs.Amount.{Amount}
use Rattle.closure_net.specs.Prelude.{NetView, IsNetOf}
use Rattle.prec_file.proofs.Pairs.{rests_of_pair, pair_of_rests}

shell_of_options : (s : SeriesView) (b : ℕ) (o : Option ℕ) → IsSeries s → b < priced_count s.prices
    → shell_at s.shells b ≡ o → IsShell s b o
shell_of_options s b None h l is = λ k e c best. best_is_one (mine_at s.pairs s.prices k) e (upto s.shells k) best
    (h.best k c) b l ∙ ap (λ o. is_upto o k) is
shell_of_options s b (Some x) h l is = (
  h.known b x is,
  λ e best. best_is_one (mine_at s.pairs s.prices x) e (upto s.shells x) best (h.best x (h.known b x is)) b l
      ∙ ap (λ o. is_upto o x) is ∙ le-leb x x (omega arith),
  λ k e c lower best. best_is_one (mine_at s.pairs s.prices k) e (upto s.shells k) best (h.best k c) b l
      ∙ ap (λ o. is_upto o k) is ∙ lt-leb x k lower,
)

pub shell_of_series : (s : SeriesView) (b : ℕ) → IsSeries s → b < priced_count s.prices
    → IsShell s b (shell_at s.shells b)
shell_of_series s b h l = shell_of_options s b (shell_at s.shells b) h l refl

pub opens : (pairs : List (ℕ × ℕ)) (table : PricesView)
    → IsRests (record { blocks = priced_count table; pairs = pairs }) → IsTable table
    → IsSeries (opened_series pairs table)
opens pairs table r t = grind (arith, common_steps)

pub net_of_over : (block : ℤ → ℕ → Amount) (pairs : List (ℕ × ℕ)) (table : PricesView) (k : ℕ) (net : NetView)
    → IsOver block pairs table k net → IsNetOf block (mine_at pairs table k) net
net_of_over block pairs table k net o = grind (arith, common_steps, rests_of_pair, pair_of_rests)
