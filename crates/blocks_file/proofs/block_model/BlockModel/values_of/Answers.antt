use Rattle.fixed_worth.proofs.Common.{◌≡◌, ◌<◌, ℕ, pos, [], map, length, get_or, range_with_len, sym, ap, ◌∙◌, subst}
use Rattle.fixed_worth.proofs.Common.{arith, length-map-range_with_len}
use Rattle.blocks_file.specs.Denotes.{BlocksView}
use Rattle.blocks_file.proofs.Slots.{columns_length, gathered, column_gathered}
use Rattle.blocks_file.proofs.block_model.BlockModel.values_of.Goals as goal

pub loop-block-preserved : goal.loop-block-preserved
loop-block-preserved c =
    gathered (λ b. get_or (get_or c.args.self.now.columns c.args.i []) b (pos 0)) c.loop-block.block
    c.loop-block.values.items _ _ c.loop-block.invariant c.in_ok-push.ensures.items c.column.ensures

pub returns-clause-values : goal.returns-clause-values
returns-clause-values c =
    let w = c.self.inside.width in
    let n = c.self.inside.blocks in
    let vs = c.self.inside.values.items in
    let v = c.loop-block.values.items in
    let i : c.args.i < w = omega
    (arith, c.requires, columns_length w n vs, ap (λ m. length m.columns) c.self.view_is) in
    let end : c.loop-block.block ≡ n = omega (arith, c.loop-block-test.false, c.loop-block.auto.block-end) in
    let P : BlocksView → ℕ → Type 0 = λ m k. v ≡ map (λ b. get_or (get_or m.columns c.args.i []) b (pos 0))
    (range_with_len 0 k) in
    let whole = subst (λ m. P m n) (sym c.self.view_is) (subst (P c.args.self.now) end c.loop-block.invariant) in
    subst (λ m. v ≡ get_or m.columns c.args.i []) c.self.view_is (column_gathered w n c.args.i vs v i whole)

pub returns-clause-size : goal.returns-clause-size
returns-clause-size c =
    let end : c.loop-block.block ≡ c.self.inside.blocks = omega
    (arith, c.loop-block-test.false, c.loop-block.auto.block-end) in
    ap length c.loop-block.invariant
    ∙ length-map-range_with_len (λ b. get_or (get_or c.args.self.now.columns c.args.i []) b (pos 0)) 0
    c.loop-block.block ∙ end ∙ ap (λ m. m.blocks) c.self.view_is
