use Rattle.fixed_worth.proofs.Common.{pos, ◌+◌, ◌*◌, ◌<◌, [], length, get_or, sym, ap, ◌∙◌, arith, get_or_read}
use Rattle.blocks_file.proofs.Slots.{columns_length, slot_below, column_at}
use Rattle.blocks_file.proofs.block_model.BlockModel.column.Goals as goal

pub index-requires : goal.index-requires
index-requires c =
    let i : c.args.i < c.self.inside.width = omega (
      arith,
      c.requires.column,
      columns_length c.self.inside.width c.self.inside.blocks c.self.inside.values.items,
      ap (λ m. length m.columns) c.self.view_is,
    ) in
    let b : c.args.block < c.self.inside.blocks = omega (arith, c.requires.known, ap (λ m. m.blocks) c.self.view_is) in
    let s : c.args.block * c.self.inside.width + c.args.i < c.self.inside.blocks * c.self.inside.width = slot_below
    c.self.inside.blocks c.self.inside.width c.args.block c.args.i b i in
    omega (arith, s, c.self.invariant.all_values)

pub returns : goal.returns
returns c =
    let i : c.args.i < c.self.inside.width = omega (
      arith,
      c.requires.column,
      columns_length c.self.inside.width c.self.inside.blocks c.self.inside.values.items,
      ap (λ m. length m.columns) c.self.view_is,
    ) in
    let b : c.args.block < c.self.inside.blocks = omega (arith, c.requires.known, ap (λ m. m.blocks) c.self.view_is) in
    let s : c.args.block * c.self.inside.width + c.args.i < c.self.inside.blocks * c.self.inside.width = slot_below
    c.self.inside.blocks c.self.inside.width c.args.block c.args.i b i in
    get_or_read c.self.inside.values.items (c.args.block * c.self.inside.width + c.args.i) c.index.result.now
    (omega (arith, s, c.self.invariant.all_values)) c.index.ensures (pos 0)
    ∙ sym (column_at c.self.inside.width c.self.inside.blocks c.args.i c.args.block c.self.inside.values.items i b)
    ∙ ap (λ m. get_or (get_or m.columns c.args.i []) c.args.block (pos 0)) c.self.view_is
