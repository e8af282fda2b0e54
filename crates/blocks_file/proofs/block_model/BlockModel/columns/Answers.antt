use Rattle.std.proofs.Common.{length, sym, ap, ◌∙◌}
use Rattle.blocks_file.proofs.Slots.{columns_length, columns_small}
use Rattle.blocks_file.proofs.block_model.BlockModel.columns.Goals as goal

pub returns-clause-value : goal.returns-clause-value
returns-clause-value c = sym (columns_length c.self.inside.width c.self.inside.blocks c.self.inside.values.items)
    ∙ ap (λ m. length m.columns) c.self.view_is

pub returns-clause-small : goal.returns-clause-small
returns-clause-small c = columns_small c.self.inside.blocks c.self.inside.width c.self.inside.places.items
    c.self.inside.values.items _ c.self.view_is c.self.invariant
