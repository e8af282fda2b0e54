use Rattle.std.proofs.Common.{◌≡◌, List, ap, rules, ◌∙◌}
use Rattle.ordered_group.specs.Amount.{Amount}
use Rattle.closure_net.specs.Network.{flow_view}
use Rattle.prec_file.specs.Rests.{has_pair}
use Rattle.certificate_file.specs.Gathered.{Gathered, with_rest}
use Rattle.certificate_file.proofs.Additions.{absent, present, rest_absent, rest_present, adds_rest}
use Rattle.certificate_file.proofs.gathering.Parts.put.Goals as goal

pub returns-in_err-pair-in-Rest : goal.returns-in_err-pair-in-Rest
returns-in_err-pair-in-Rest g c =
    let lacks = rw c.in_err-pair-in-Rest.ensures.ok_part at c.find.ensures in
    let unknown = rest_absent (has_pair c.args.rests.now.pairs) c.args.line.now c.in-Rest.is
    (absent c.args.line.now.block c.args.line.now.other c.args.rests.now.pairs lacks) in
    search (rules, unknown)

pub returns-in_ok-set-in-Rest : goal.returns-in_ok-set-in-Rest
returns-in_ok-set-in-Rest g c =
    let found = rw c.in_ok-pair-in-Rest.ensures.ok_part at c.find.ensures in
    let s = c.self.inside in
    let k = c.in_ok-pair-in-Rest.pair in
    let x = g.G.OrderedGroup.parts_of c.amount-in-Rest.result in
    let later : List Amount → Gathered = λ r. record { pit = s.pit.items; flow = flow_view s.source r s.sink } in
    let made : later c.set-in-Rest.new.amounts ≡ with_rest k x c.args.self.now = ap later c.in_ok-set-in-Rest.ensures
    ∙ ap (with_rest k x) c.self.view_is in
    let q = adds_rest c.args.rests.now.blocks c.args.rests.now.pairs c.args.line.now c.args.self.now
    (later c.set-in-Rest.new.amounts) x k c.requires.rests.rising c.in-Rest.is c.requires.covers found.0 found.1
    c.amount-in-Rest.ensures made in (
      rest_present (has_pair c.args.rests.now.pairs) c.args.line.now c.in-Rest.is
          (present c.args.line.now.block c.args.line.now.other c.args.rests.now.pairs k found.0 found.1),
      q.0,
      q.1,
    )
