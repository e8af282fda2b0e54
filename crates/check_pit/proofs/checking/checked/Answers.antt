use Rattle.fixed_worth.proofs.Common.{◌∙◌, sym, subst, arith, err_from_is_err_and, common_steps}
use Rattle.closure_net.specs.Prelude.{NetView, holds_of, IsGreatest}
use Rattle.check_pit.specs.Checks.{PassesCapacities}
use Rattle.check_pit.proofs.Verdicts.{flow_found, balance_fault, no_fault}
use Rattle.closure_net.proofs.Duality.{greatest_from_tight}
use Rattle.check_pit.proofs.checking.checked.Goals as goal

pub returns-in_err-balances-clause-found : goal.returns-in_err-balances-clause-found
returns-in_err-balances-clause-found g c = grind (arith, common_steps, err_from_is_err_and, balance_fault)

pub returns-in_err-balances-clause-complete : goal.returns-in_err-balances-clause-complete
returns-in_err-balances-clause-complete g c =
    let passes : PassesCapacities c.args.net.now c.args.flow.now c.args.pit.now = record {
      signs = record {
        sizes = c.sizes_agree.ensures.0 c.if-not-sizes_agree.false;
        closed = c.in_default.ensures;
        signs = c.none_below_zero.ensures.0 c.if-not-none_below_zero.false;
      };
      within = c.in_default-first_over.ensures;
    } in
    let found = balance_fault c.args.net.now c.args.flow.now c.args.pit.now c.in_err-balances.field-0.0 passes
    c.in_err-balances.ensures in
    λ proves fit. absurd (no_fault c.args.net.now c.args.flow.now c.args.pit.now c.in_err-balances.field-0.0 proves
    fit found.holds)

pub new-on_graph-requires-clause-greatest : goal.new-on_graph-requires-clause-greatest
new-on_graph-requires-clause-greatest g c =
    let is = flow_found c.args.net.now c.args.flow.now c.args.pit.now
    (c.sizes_agree.ensures.0 c.if-not-sizes_agree.false)
    (c.none_below_zero.ensures.0 c.if-not-none_below_zero.false) c.in_default-first_over.ensures
    c.in_ok-balances.ensures in
    let sum = rw c.in_ok-worth.ensures.ok_part at c.pit_worth.ensures.sum in
    let room = rw c.in_ok-room.ensures.ok_part at c.residual_of_source.ensures in
    let P : NetView → Type 0 = λ net. IsGreatest net (holds_of c.args.pit.now) in
    λ κs le. subst P (sym c.of_net.ensures)
    (greatest_from_tight c.args.net.now c.args.flow.now (holds_of c.args.pit.now) c.pit_worth.ensures.net.rests.known
    is c.in_default.ensures
    (sym sum.0 ∙ c.same.ensures.0 c.if-not-same.false ∙ room.0))
