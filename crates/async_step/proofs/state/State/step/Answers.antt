use Rattle.fixed_worth.proofs.Common.{◌∙◌, sym, arith, rules, not-false}
use denote.Enum.Bare.{same_true}
use Rattle.machine_law.specs.contracts.events.Kind.{the_type}
use Rattle.async_step.proofs.Turns.{stepped, still_state}
use Rattle.async_step.proofs.state.State.step.Goals as goal

pub returns-clause-made : goal.returns-clause-made
returns-clause-made g c =
    stepped g.G.OrderedGroup.parts_of c.args.net.now c.args.self.now c.advance.new.self c.args.event c.advance.result
    c.requires (omega arith)
    (sym c.next_kind-next.ensures
    ∙ (same_true the_type (search rules) _ _ (not-false _ (sym c.ne.ensures ∙ c.if-ne.false)))) c.advance.ensures

pub returns-clause-state : goal.returns-clause-state
returns-clause-state g c = still_state _ _ _ _ _ _ c.requires
    (stepped _ _ _ _ _ _ c.requires (omega arith)
    (sym c.next_kind-next.ensures
    ∙ (same_true the_type (search rules) _ _ (not-false _ (sym c.ne.ensures ∙ c.if-ne.false)))) c.advance.ensures)
