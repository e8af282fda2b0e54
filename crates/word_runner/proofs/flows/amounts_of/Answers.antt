use Rattle.fixed_worth.proofs.Common.{rules, ◌≡◌, ◌+◌, ◌∙◌, ◌++◌, ◌∷◌, [], pos, ap, sym, slice_index, slots_items}
use Rattle.ordered_group.specs.declared.scaled.Scaled.{Scaled}
use Rattle.word_steps.specs.Layout.{units}
use Rattle.word_runner.proofs.Lists.{pushed_each}
use Rattle.word_runner.proofs.Settles.{at_get}
use Rattle.word_runner.proofs.flows.amounts_of.Goals as goal

pub loop-k-preserved : goal.loop-k-preserved
loop-k-preserved c =
    let ws = slots_items c.args.closed.now.words in
    let h = c.loop-k.invariant in
    let x : Scaled = c.amount_of-amount.result in
    let is : c.push.new.self.items ≡ c.loop-k.amounts.items ++ x ∷ [] = c.in_ok-push.ensures.items in
    let l = c.loop-k-test.true in (
      search rules,
      search rules,
      pushed_each (λ j. units (slice_index ws (c.args.from + j))) c.loop-k.amounts.items
          c.push.new.self.items x c.loop-k.k is h.1 h.2
          (ap (λ z. record { w = z; c = pos 0 }) c.amount_of-amount.ensures
          ∙ ap units (sym (at_get ws (c.args.from + c.loop-k.k) c.word-word.result c.word-word.ensures))),
    )
