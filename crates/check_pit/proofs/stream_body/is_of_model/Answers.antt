use Rattle.std.proofs.Common.{◌∙◌}
use Rattle.check_pit.proofs.NextLines.{rest_of_model}
use Rattle.check_pit.proofs.stream_body.is_of_model.Goals as goal

pub returns-in-Rest : goal.returns-in-Rest
returns-in-Rest c = rest_of_model _ _ _ c.in-Rest.is (c.has.ensures ∙ c.blocks-blocks.ensures.same _ _)
