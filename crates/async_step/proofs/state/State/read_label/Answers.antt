use Rattle.std.proofs.Common.{ℕ, ◌<◌, ◌+◌, ◌∙◌, ap, ap₂, subst, sym, set, length}
use Rattle.ordered_group.specs.Amount.{Amount}
use Rattle.closure_net.specs.Ports.{ports}
use Rattle.machine_law.specs.declared.operations.Operation.{Operation}
use Rattle.machine_law.specs.Prelude.{end_label, with_operation}
use Rattle.async_step.specs.declared.limits.TheConstants.{MOST_STEPS}
use Rattle.async_step.specs.Prelude.{StateView, state_of, after_label_by, GoesTo}
use Rattle.async_step.specs.declared.saw.Saw.TheVariants.{Label}
use Rattle.async_step.proofs.Becoming.{not_full, goes}
use Rattle.async_step.specs.declared.changing.Change.TheVariants.{Nothing}
use Rattle.async_step.proofs.state.State.read_label.Goals as goal

pub returns : goal.returns
returns g c =
    let net = c.args.net.now in
    let v : StateView = c.args.self.now in
    let b = c.args.block in
    let next : ℕ → ℕ → Operation Amount = λ n x. after_label_by n ((state_of v).label b) c.args.port x
    ((state_of v).operation b) in
    let o : Operation Amount = next (length (ports net b)) (end_label net (state_of v) c.args.port) in
    let few : v.steps < MOST_STEPS = not_full c.is_full.result v.steps MOST_STEPS c.is_full.ensures
    c.if-is_full.false in (
      subst (GoesTo net v (with_operation (state_of v) b o))
          (sym (c.choose_port.ensures
          ∙ ap₂ (λ n x. record v { operation = set v.operation b (next n x); steps = v.steps + 1 }) c.ports.ensures
          c.label_beyond-label.ensures))
          (goes net v c.requires.over b c.requires.block o few c.len-sized.ensures.sized Nothing tt),
      ap Label c.label_beyond-label.ensures,
    )
