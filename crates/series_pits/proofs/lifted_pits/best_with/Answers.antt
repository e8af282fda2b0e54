use Rattle.fixed_worth.proofs.Common.{◌<◌, ◌∙◌, ℕ, List, All, length, rules, FitsSigned, to_z, of_z, sym, ap, subst}
use Rattle.fixed_worth.proofs.Common.{arith, w128, to_z-of_z}
use Rattle.closure_net.specs.Prelude.{holds_of, IsBest}
use Rattle.ordered_group.specs.Sets.{worth_in}
use Rattle.shells.specs.Prelude.{priced_count, worth_at, mine_at}
use Rattle.check_engines.proofs.Counted.{ascending_short}
use Rattle.sub_mines.specs.Prelude.{every_block, number_in}
use Rattle.series_pits.specs.ShellTable.{IsRowOf}
use Rattle.series_pits.proofs.Among.{proved_row}
use Rattle.series_pits.proofs.lifted_pits.best_with.Goals as goal

pub overflow_cast-row : goal.overflow_cast-row
overflow_cast-row c =
    let n = priced_count c.args.prices.now in
    let low = subst (All (λ b. b < n)) c.as_slice.ensures.value c.in_ok-worth.ensures.sum.1 in
    let short = ascending_short c.args.blocks.items n c.in_ok-pit.ensures.1 low in
    let size = ap (λ (xs : List ℕ). length xs) c.in_ok-pit.ensures.0 in
    omega (arith, short, size, c.len-2.ensures, c.len.ensures.table.blocks)

pub returns-clause-best : goal.returns-clause-best
returns-clause-best c = λ pairs best.
    let prices = c.args.prices.now in
    let xs = c.args.blocks.items in
    let k = c.args.factor in
    let low = subst (All (λ b. b < priced_count prices)) c.as_slice.ensures.value c.in_ok-worth.ensures.sum.1 in
    let fits : FitsSigned w128 c.in_ok-worth.worth = search rules in
    let worth = to_z-of_z w128 c.in_ok-worth.worth fits ∙ c.in_ok-worth.ensures.sum.0
    ∙ ap (λ (ys : List ℕ). worth_in (λ i. worth_at prices k (number_in ys i)) every_block (length ys))
    c.as_slice.ensures.value in
    let count = c.len-2.ensures ∙ ap (λ (ys : List ℕ). length ys) c.in_ok-pit.ensures.0 in
    let row = proved_row pairs prices k xs c.len-2.result (to_z w128 (of_z w128 c.in_ok-worth.worth))
    c.in_ok-pit.ensures.1 low count worth best in
    record {
      is_best = subst (λ f. IsBest (mine_at pairs prices f) (holds_of c.in_ok-pit.pit)) (sym c.get.ensures.value)
          (subst (λ (ys : List ℕ). IsBest (mine_at pairs prices k) (holds_of ys)) (sym c.in_ok-pit.ensures.0) best);
      row_is = subst (λ f. IsRowOf (mine_at pairs prices f)
          (record { factor = f; blocks = c.len-2.result; worth = to_z w128 (of_z w128 c.in_ok-worth.worth) }))
          (sym c.get.ensures.value) row;
    }
