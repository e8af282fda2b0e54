use Rattle.fixed_worth.proofs.Common.{rules, ◌≡◌, ℕ, nat_lt, FitsSigned, w128, to_z-of_z, refl, sym, ap₂, ◌∙◌, subst}
use Rattle.ordered_group.specs.Sets.{count_in}
use Rattle.production_figures.specs.Figures.{production_of}
use Rattle.schedule_value.specs.Prelude.{AreBroken, overs_in_rows, period_by}
use Rattle.schedule_value.proofs.Feasible.{lagged_iff}
use Rattle.schedule_value.proofs.judging.judge_schedule.Goals as goal

pub returns : goal.returns
returns c =
    let pairs = c.args.predecessors.now.pairs in
    let f = c.args.figures.now in
    let plan = production_of pairs f in
    let s = period_by c.args.schedule.now in
    let waits = c.args.waits.now.pairs in
    let told = subst (λ (k : ℕ). AreBroken 0 s k pairs c.in_ok-broken.broken.count c.in_ok-broken.broken.first.items)
    c.periods-periods.ensures.is c.in_ok-broken.ensures in
    let early = subst (λ (k : ℕ). AreBroken c.args.lag s k waits c.in_ok-early.early.count
    c.in_ok-early.early.first.items) c.periods-periods.ensures.is c.in_ok-early.ensures in
    let over : c.in_ok-over.over.items ≡ overs_in_rows plan s f.resources = c.in_ok-over.ensures in
    let iff = lagged_iff plan pairs (λ b p. refl) s c.args.lag waits in
    let fits : FitsSigned w128 c.npv_at-npv.result = search rules in
    record {
      count = c.count_dug-count.ensures
          ∙ ap₂ (λ (k n : ℕ). count_in (λ b. nat_lt (s b) k) n) c.periods-periods.ensures.is c.requires.all;
      npv = to_z-of_z w128 c.npv_at-npv.result fits ∙ c.npv_at-npv.ensures;
      broken = told;
      early = early;
      over = over;
      feasible = (
        λ x. iff.0 (sym told.all ∙ x.0, sym early.all ∙ x.1, sym over ∙ x.2),
        λ h. let x = iff.1 h in
            (told.all ∙ x.0, early.all ∙ x.1, over ∙ x.2),
      );
    }
