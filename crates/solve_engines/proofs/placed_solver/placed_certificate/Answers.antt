use Rattle.fixed_worth.proofs.Common.{◌≡◌, ℕ, ℤ, ◌∙◌, List, length, map, refl, ap, subst, arith}
use Rattle.closure_net.specs.Prelude.{NetView, net_view}
use Rattle.solve_engines.specs.Prelude.{IsAcceptedText, IsPlacedCertificate}
use Rattle.check_engines.specs.Prelude.{flow_for}
use Rattle.solve_engines.proofs.PlacedAnswers.{small_over, certificate}
use Rattle.solve_engines.proofs.placed_solver.placed_certificate.Goals as goal

pub returns-clause-certificate : goal.returns-clause-certificate
returns-clause-certificate g c =
    let name = g.G.OrderedGroup.name in
    let block = g.G.OrderedGroup.block_parts in
    let counts = g.G.OrderedGroup.counts in
    let price = c.args.price in
    let draft = c.in_ok-draft.draft in
    let small = c.in_ok-text.ensures.small in
    let pairs = c.args.pairs.now in
    let nanos = c.args.nanos.now in
    let net = net_view pairs.pairs draft.net.worths in
    let text = c.in_ok-text.text.items in
    let size : length nanos ≡ pairs.blocks = omega (arith, c.if-nanos-blocks.false, c.len-blocks.ensures.is) in
    let worths = c.in_ok-draft.ensures.worths ∙ ap (λ (n : ℕ). map (λ (v : ℤ). block v n) nanos) size in
    let accepted = subst (λ (t : List ℕ). IsAcceptedText counts name price net t) c.deref.ensures.value
    c.in_ok-count.ensures in
    let all = small_over counts name (length draft.net.worths) draft.net.pairs text draft.certificate.price
    draft.certificate.pit draft.certificate.flow c.in_ok-text.ensures.text net (flow_for counts net text)
    accepted.pit refl accepted.read.denotes small.worths small.source small.rest small.sink in
    subst (λ (v : NetView). IsPlacedCertificate counts name price v text) (ap (net_view pairs.pairs) worths)
    (certificate counts name price net text accepted all)
