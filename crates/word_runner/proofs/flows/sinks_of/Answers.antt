use Rattle.fixed_worth.proofs.Common.{rules, ◌≡◌, ◌<◌, ◌++◌, ◌∷◌, [], slice_index, slots_items}
use Rattle.ordered_group.specs.Prelude.{minus, negative, amount_at}
use Rattle.word_steps.specs.Layout.{units, count, room_at}
use Rattle.word_runner.proofs.Lists.{pushed_each}
use Rattle.word_runner.proofs.Settles.{room_within, given_is}
use Rattle.word_runner.proofs.flows.sinks_of.Goals as goal

pub given-sink-requires : goal.given-sink-requires
given-sink-requires c =
    let l : c.loop-b.b < count c.args.net.now = search rules in
    room_within c.args.net.now (slots_items c.args.closed.now.words) c.loop-b.b c.args.from c.word-word.result l
    c.requires.from c.word-word.ensures c.negative.result c.negative.ensures c.requires.rooms

pub loop-b-preserved : goal.loop-b-preserved
loop-b-preserved c =
    let ws = slots_items c.args.closed.now.words in
    let net = c.args.net.now in
    let b = c.loop-b.b in
    let h = c.loop-b.invariant in
    let x = c.given-sink.result in
    let is : c.push.new.self.items ≡ c.loop-b.amounts.items ++ x ∷ [] = search rules in
    let l : b < count net = search rules in (
      search rules,
      search rules,
      pushed_each (λ j. minus (negative (amount_at net.worths j)) (units (slice_index ws (room_at net j))))
          c.loop-b.amounts.items c.push.new.self.items x b is h.1 h.2
          (given_is net ws b c.args.from c.word-word.result l c.requires.from c.word-word.ensures c.negative.result x
          c.negative.ensures c.given-sink.ensures),
    )
