use Rattle.fixed_worth.proofs.Common.{◌≡◌, length, sym, ap, ◌∙◌, subst, rules}
use Rattle.closure_net.specs.Prelude.{NetView, net_view}
use Rattle.solve_engines.specs.Prelude.{IsAcceptedText}
use Rattle.solve_engines.proofs.PlacedAnswers.{header_is, accepted}
use Rattle.solve_engines.proofs.placed_solver.accepted_text.Goals as goal

pub returns-in-Ok-check_held : goal.returns-in-Ok-check_held
returns-in-Ok-check_held g c =
    let name = g.G.OrderedGroup.name in
    let counts = g.G.OrderedGroup.counts in
    let price = c.args.price in
    let text = c.args.text.now in
    let seen = c.with_pairs-graph.result in
    let net = net_view c.args.pairs.now.pairs c.args.net.now.worths in
    let same : seen ≡ net = c.with_pairs-graph.ensures
    ∙ ap (λ (v : NetView). net_view c.args.pairs.now.pairs v.worths) c.graph.ensures in
    let said = c.is_expected.ensures (search rules) in
    let blocks_is : c.in-Ok-header_for.header.blocks ≡ length c.args.net.now.worths = search rules in
    let size : length c.args.net.now.worths ≡ length seen.worths = sym (ap (λ (v : NetView). length v.worths) same) in
    let read = rw c.over-stream.ensures.from at c.in-Ok-header_for.ensures.read in
    let header = header_is name (length seen.worths) price text c.in-Ok-header_for.header read.0 (blocks_is ∙ size)
    said.0 (said.1 ∙ c.group.ensures) in
    let before = c.header_for.new.stream.lines in
    let later = c.check_held.new.stream.lines in
    let checked = c.in-Ok-check_held.ensures.checked c.in-Ok-header_for.ensures.open.fault
    c.in-Ok-header_for.ensures.open.undone in
    let pit = c.in-Ok-check_held.accepted.pit in
    subst (λ (v : NetView). IsAcceptedText counts name price v text) same
    (accepted counts name price seen text c.worths-worths.ensures.net header _ before later checked.0 pit read.1
    checked.1 checked.2.1)
