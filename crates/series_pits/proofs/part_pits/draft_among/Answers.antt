use Rattle.fixed_worth.proofs.Common.{◌∙◌, sym}
use Rattle.ordered_group.specs.Block.{scaled_block}
use Rattle.series_pits.proofs.Among.{net_of}
use Rattle.series_pits.proofs.part_pits.draft_among.Goals as goal

pub returns : goal.returns
returns c =
    let few = c.in-Some.few in
    record {
      few = few.pairs;
      held = c.all_held.ensures.0 c.if-not-all_held.false;
      of = net_of scaled_block few.pairs c.args.prices.now c.args.kept.now c.args.factor few.blocks
          c.as_slice-2.result.now c.in-Ok-of_worths.net (c.in-Some.ensures ∙ c.len-blocks.ensures.is
          ∙ sym c.requires.size) (c.as_slice-2.ensures.value ∙ c.in_ok-worths.ensures) c.in-Ok-of_worths.ensures.0;
    }
