use Rattle.std.proofs.Common.{◌<◌, ◌+◌, ◌∙◌, ap, subst, sym, refl, set}
use Rattle.ordered_group.specs.Amount.{Amount}
use Rattle.machine_law.specs.declared.operations.Operation.{Operation}
use Rattle.machine_law.specs.Prelude.{operation_as, with_operation}
use Rattle.async_step.specs.declared.limits.TheConstants.{MOST_STEPS}
use Rattle.async_step.specs.Prelude.{StateView, state_of, GoesTo, change_as, after_change}
use Rattle.async_step.specs.declared.changing.Change.{Change}
use Rattle.async_step.proofs.Becoming.{not_full, fits_changed, goes}
use Rattle.async_step.proofs.state.State.make_step.Goals as goal

pub returns-then-is_full : goal.returns-then-is_full
returns-then-is_full g c = record {
  same = refl;
  why = (fits_changed _ _ c.requires.over _ c.requires.block _ _ c.requires.can, c.is_full.ensures.0 c.if-is_full.true);
}

pub returns : goal.returns
returns g c =
    let f = g.G.OrderedGroup.parts_of in
    let o : Operation Amount = operation_as f c.args.operation in
    let change : Change Amount = change_as f c.args.change in
    let v : StateView = c.args.self.now in
    let few : v.steps < MOST_STEPS = not_full c.is_full.result v.steps MOST_STEPS c.is_full.ensures
    c.if-is_full.false in
    subst (GoesTo c.args.net.now v (after_change (with_operation (state_of v) c.args.b o) c.args.b change))
    (sym (c.go_on.ensures ∙ ap
    (λ (w : StateView). record w { operation = set w.operation c.args.b o; steps = w.steps + 1 }) c.change.ensures))
    (goes c.args.net.now v c.requires.over c.args.b c.requires.block o few c.len-sized.ensures.sized change
    c.requires.can)
