use Rattle.std.proofs.Common.{ap, ◌∙◌, refl}
use Rattle.closure_net.specs.Reached.{HasSourceResidual}
use Rattle.closure_net.proofs.Holding.{apart}
use Rattle.closure_net.proofs.Spreads.{passed_add, passed_skip, passed_same}
use Rattle.closure_net.proofs.source_side.begin.Goals as goal
use Rattle.closure_net.proofs.source_side.begin.Goals.{then-has_room, else-has_room}

pub loop-b-preserved : goal.loop-b-preserved
loop-b-preserved g c =
    let W = HasSourceResidual c.args.net.now.worths c.args.flow.now.source in
    let b = c.loop-b.b in
    elim c.if-has_room.branch [
      | then-has_room w ↦ record {
        blocks = ap (λ s. s.blocks) w.search-is ∙ w.add.ensures.0 ∙ c.loop-b.invariant.blocks;
        found = passed_add W (λ x. x) c.args.search.now.found c.loop-b.search.found c.if-has_room.search.found b b
            c.loop-b.invariant.found
            (c.has_room.ensures.0 w.if-has_room.true) refl (ap (λ s. s.found) w.search-is ∙ w.add.ensures.1);
      }
      | else-has_room w ↦ record {
        blocks = ap (λ s. s.blocks) w.search-is ∙ c.loop-b.invariant.blocks;
        found = passed_same W (λ x. x) c.args.search.now.found c.loop-b.search.found c.if-has_room.search.found _
            (ap (λ s. s.found) w.search-is)
            (passed_skip W (λ x. x) c.args.search.now.found c.loop-b.search.found b c.loop-b.invariant.found
            (λ n. apart _ w.if-has_room.false (c.has_room.ensures.1 n)));
      }
    ]
