use Rattle.fixed_worth.proofs.Common.{rules, ◌≡◌, ℕ, ℤ, ◌<◌, All, length, length-map, sym, ap, ◌∙◌, subst, IfOk-weaker}
use Rattle.closure_net.specs.Prelude.{NetView, net_view}
use Rattle.check_engines.specs.Refusals.{flow_for}
use Rattle.check_engines.proofs.Judged.{net_known}
use Rattle.check_engines.proofs.Streamed.{IsAsked, stream_read, stream_proves, stream_short}
use Rattle.bound_engines.specs.Prelude.{IsKeptBy, IsNoPit, IsPitTold}
use Rattle.bound_engines.proofs.PitsTold.{no_pit_kept, no_pit_told, pit_read}
use Rattle.bound_engines.proofs.pit_check.pit_of_group.Goals as goal

pub returns-in-Ok-blocks_of-clause-told : goal.returns-in-Ok-blocks_of-clause-told
returns-in-Ok-blocks_of-clause-told g c = λ texts text read named header stands.
    let name = g.G.OrderedGroup.name in
    let block = g.G.OrderedGroup.block_parts in
    let counts = g.G.OrderedGroup.counts in
    let rests = c.args.pairs.now in
    let nanos = c.args.nanos.now in
    let net = c.with_pairs-net.result in
    let known = net_known block texts text name rests nanos net read header
    (c.with_pairs-net.ensures
    ∙ (ap (λ (v : NetView). net_view rests.pairs v.worths) c.as_ref.ensures
    ∙ ap (net_view rests.pairs) c.in-Ok.ensures.0)) c.in-Ok.ensures.1 in
    let asked : IsAsked name block counts texts text net = record {
      mine = known.mine;
      named = named;
      header = known.header;
      is_net = c.worths-worths.ensures.net;
      of_mine =
          known.of_mine;
    } in
    let checked = c.in-Ok-check_held.ensures.checked c.requires.open.fault c.requires.open.undone in
    let before = c.args.stream.now.lines in
    let later = c.check_held.new.stream.lines in
    let pit = c.in-Ok-check_held.accepted.pit in
    let few : length c.as_ref.result.worths ≡ length nanos = ap (λ (v : NetView). length v.worths) c.as_ref.ensures
    ∙ (ap length c.in-Ok.ensures.0 ∙ length-map nanos (λ (v : ℤ). block v rests.blocks)) in
    let size : rests.blocks ≡ length net.worths = c.in-Ok.ensures.1
    ∙ sym (ap (λ (v : NetView). length v.worths) c.with_pairs-net.ensures ∙ few) in
    pit_read name block counts texts text net pit (flow_for counts net text)
    (stream_read name block counts texts text net asked g.C.Read.remaining before later stands checked.0 checked.1 pit
    checked.2.1)
    (stream_short name block counts texts text net asked g.C.Read.remaining before later stands checked.0 checked.1
    pit checked.2.1)
    (stream_proves name block counts texts text net asked g.C.Read.remaining before later stands checked.0 checked.1
    pit checked.2.1)
    c.in-Ok-check_held.accepted.net checked.2.0 c.in-Ok-blocks_of.ensures.greatest rests.blocks size
    c.in-Ok-blocks_of.kept.items c.in-Ok-blocks_of.ensures.is

pub returns-in-Ok-blocks_of-clause-kept_blocks : goal.returns-in-Ok-blocks_of-clause-kept_blocks
returns-in-Ok-blocks_of-clause-kept_blocks g c =
    let block = g.G.OrderedGroup.block_parts in
    let rests = c.args.pairs.now in
    let nanos = c.args.nanos.now in
    let checked = c.in-Ok-check_held.ensures.checked c.requires.open.fault c.requires.open.undone in
    let few : length c.as_ref.result.worths ≡ length nanos = ap (λ (v : NetView). length v.worths) c.as_ref.ensures
    ∙ (ap length c.in-Ok.ensures.0 ∙ length-map nanos (λ (v : ℤ). block v rests.blocks)) in
    let size : rests.blocks ≡ length c.with_pairs-net.result.worths = c.in-Ok.ensures.1
    ∙ sym (ap (λ (v : NetView). length v.worths) c.with_pairs-net.ensures ∙ few) in
    let all : length c.in-Ok-check_held.accepted.net.worths ≡ rests.blocks = ap (λ (v : NetView). length v.worths)
    checked.2.0 ∙ sym size in
    let P : ℕ → Type 0 = λ n. All (λ b. b < n) c.in-Ok-blocks_of.kept.items in
    (c.in-Ok-blocks_of.ensures.ascending, subst P all c.in-Ok-blocks_of.ensures.known)

pub returns-clause-told : goal.returns-clause-told
returns-clause-told g c = λ texts text read named header stands.
    let n = c.args.pairs.now.blocks in
    IfOk-weaker c.told_of.result IsNoPit (IsPitTold texts n text) (no_pit_told texts n text) c.told_of.ensures.refused

pub returns-clause-kept_blocks : goal.returns-clause-kept_blocks
returns-clause-kept_blocks g c =
    let n = c.args.pairs.now.blocks in
    IfOk-weaker c.told_of.result IsNoPit (IsKeptBy n) (no_pit_kept n) c.told_of.ensures.refused

pub with_pairs-net-requires : goal.with_pairs-net-requires
with_pairs-net-requires g c =
    let rests = c.args.pairs.now in
    let size : length c.as_ref.result.worths ≡ length c.args.nanos.now = ap (λ (v : NetView). length v.worths)
    c.as_ref.ensures ∙ (ap length c.in-Ok.ensures.0
    ∙ length-map c.args.nanos.now (λ (v : ℤ). g.G.OrderedGroup.block_parts v rests.blocks)) in
    (search rules, (search rules, c.in-Ok.ensures.1 ∙ sym size))
