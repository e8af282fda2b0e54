use Rattle.fixed_worth.proofs.Common.{◌≡◌, ℤ, List, length, length-map, refl, sym, ap, ◌∙◌, subst, rules, FitsSigned}
use Rattle.fixed_worth.proofs.Common.{w128, to_z-of_z, err_from_is_err_and}
use Rattle.closure_net.specs.Prelude.{NetView, net_view}
use Rattle.mine_inputs.specs.ReadMines.{AreRead}
use Rattle.check_engines.specs.Refusals.{flow_for}
use Rattle.check_engines.proofs.Judged.{judged_accepted, net_fails, net_known}
use Rattle.check_engines.proofs.Streamed.{IsAsked, stream_answered, stream_read, stream_proves, stream_short}
use Rattle.check_engines.proofs.certificate_judge.judge_by.Goals as goal

pub returns-in_err-graph-clause-judged : goal.returns-in_err-graph-clause-judged
returns-in_err-graph-clause-judged g c = λ texts text read named header stands.
    let P : List ℤ → Type 0 = λ nanos. AreRead texts nanos c.args.mine.predecessors in
    let p = err_from_is_err_and c.from_residual.result c.from_residual.ensures.1 in
    rw (p.1, p.2)
    (net_fails g.G.OrderedGroup.name g.G.OrderedGroup.block_parts g.G.OrderedGroup.counts texts text
    c.args.mine.predecessors c.deref.result.now c.in_err-graph.field-0.0
    (subst P (sym c.deref.ensures.value) read) named header c.in_err-graph.ensures)

pub returns-in-Ok-clause-judged : goal.returns-in-Ok-clause-judged
returns-in-Ok-clause-judged g c = λ texts text read named header stands.
    let name = g.G.OrderedGroup.name in
    let block = g.G.OrderedGroup.block_parts in
    let counts = g.G.OrderedGroup.counts in
    let net = c.with_pairs-net.result in
    let P : List ℤ → Type 0 = λ nanos. AreRead texts nanos c.args.mine.predecessors in
    let known = net_known block texts text name c.args.mine.predecessors c.deref.result.now net
    (subst P (sym c.deref.ensures.value) read) header
    (c.with_pairs-net.ensures
    ∙ (ap (λ (v : NetView). net_view c.args.mine.predecessors.pairs v.worths) c.as_ref.ensures
    ∙ ap (net_view c.args.mine.predecessors.pairs) c.in_ok-graph.ensures.0)) c.in_ok-graph.ensures.1 in
    let asked : IsAsked name block counts texts text net = record {
      mine = known.mine;
      named = named;
      header = known.header;
      is_net = c.worths-worths.ensures.net;
      of_mine =
          known.of_mine;
    } in
    let checked = c.in-Ok.ensures.checked c.requires.open.fault c.requires.open.undone in
    let before = c.args.stream.now.lines in
    let later = c.check_held.new.stream.lines in
    let pit = c.in-Ok.accepted.pit in
    let laws = g.met.G.OrderedGroup g.world.𝓛 g.world.𝓜 g.world.𝓡 ((λ s x. x), (λ x. x), (λ x. x), λ x. x) in
    let fits : FitsSigned w128 c.size_and_worth-count.result.1 = search rules in
    judged_accepted name block counts texts text net pit (flow_for counts net text)
    (stream_read name block counts texts text net asked g.C.Read.remaining before later stands checked.0 checked.1 pit
    checked.2.1)
    (stream_short name block counts texts text net asked g.C.Read.remaining before later stands checked.0 checked.1
    pit checked.2.1)
    g.G.OrderedGroup.set_worth laws.tells_worth c.in-Ok.accepted.net pit checked.2.0 refl
    (stream_proves name block counts texts text net asked g.C.Read.remaining before later stands checked.0 checked.1
    pit checked.2.1)
    c.size_and_worth-count.ensures.greatest
    c.group.result c.size_and_worth-count.result.0 c.size_and_worth-count.result.1 _ c.group.ensures
    c.size_and_worth-count.ensures.size c.size_and_worth-count.ensures.worth
    (to_z-of_z w128 c.size_and_worth-count.result.1 fits)

pub returns-clause-judged : goal.returns-clause-judged
returns-clause-judged g c = λ texts text read named header stands.
    let name = g.G.OrderedGroup.name in
    let block = g.G.OrderedGroup.block_parts in
    let counts = g.G.OrderedGroup.counts in
    let net = c.with_pairs-net.result in
    let P : List ℤ → Type 0 = λ nanos. AreRead texts nanos c.args.mine.predecessors in
    let known = net_known block texts text name c.args.mine.predecessors c.deref.result.now net
    (subst P (sym c.deref.ensures.value) read) header
    (c.with_pairs-net.ensures
    ∙ (ap (λ (v : NetView). net_view c.args.mine.predecessors.pairs v.worths) c.as_ref.ensures
    ∙ ap (net_view c.args.mine.predecessors.pairs) c.in_ok-graph.ensures.0)) c.in_ok-graph.ensures.1 in
    let asked : IsAsked name block counts texts text net = record {
      mine = known.mine;
      named = named;
      header = known.header;
      is_net = c.worths-worths.ensures.net;
      of_mine =
          known.of_mine;
    } in
    let checked = c.in-Err.ensures.checked c.requires.open.fault c.requires.open.undone in
    rw (c.judgement_of.ensures)
    (stream_answered name block counts texts text net asked g.C.Read.remaining c.args.stream.now.lines
    c.check_held.new.stream.lines stands checked.0 checked.1 c.in-Err.fault checked.2)

pub with_pairs-net-requires : goal.with_pairs-net-requires
with_pairs-net-requires g c =
    let rests = c.args.mine.predecessors in
    let size : length c.as_ref.result.worths ≡ length c.deref.result.now = ap (λ (v : NetView). length v.worths)
    c.as_ref.ensures ∙ (ap length c.in_ok-graph.ensures.0
    ∙ length-map c.deref.result.now (λ (v : ℤ). g.G.OrderedGroup.block_parts v rests.blocks)) in
    (search rules, (search rules, c.in_ok-graph.ensures.1 ∙ sym size))
