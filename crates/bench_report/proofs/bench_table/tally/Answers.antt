use Rattle.fixed_worth.proofs.Common.{◌≡◌, ◌<◌, ◌+◌, Some, None, sym, subst, ◌∙◌, to_z, of_z, rules, arith, w128, get}
use Rattle.fixed_worth.proofs.Common.{err_from_is_err_and}
use Rattle.bench_report.specs.Prelude.{reported_blocks, by_bench, IsTallied, TallyFaultStands}
use Rattle.bench_report.proofs.Tallies.{none_more, block_added, block_leaves, few_there}
use Rattle.bench_report.proofs.bench_table.tally.Goals.{in-Some+in_ok-add_block, in_default}
use Rattle.bench_report.proofs.bench_table.tally.Goals as goal

pub add_block-requires : goal.add_block-requires
add_block-requires c =
    let m = reported_blocks c.args.model.now c.args.series.now c.args.tonnes c.args.worths.now in
    let few = few_there m c.loop-b.b c.in-Some.shell c.bench_and_shell-place.result (get by_bench c.loop-b.rows)
    c.bench_and_shell-place.ensures c.loop-b.invariant in
    omega (arith, few, c.loop-b-test.true, c.len-b-end.ensures.bound)

pub returns-in_err-add_block : goal.returns-in_err-add_block
returns-in_err-add_block c =
    let m = reported_blocks c.args.model.now c.args.series.now c.args.tonnes c.args.worths.now in
    let shell : m.shell c.loop-b.b ≡ Some c.in-Some.shell = sym c.shell_of.ensures.is ∙ c.in-Some.is in
    let t = to_z w128 (of_z w128 c.tonnes_of-mass.result) in
    let w = to_z w128 (of_z w128 c.worth_of-worth.result) in
    let tonnes : t ≡ m.tonnes c.loop-b.b = search (rules, c.tonnes_of-mass.ensures) in
    let worth : w ≡ m.worth c.loop-b.b = search (rules, c.worth_of-worth.ensures) in
    let below : c.loop-b.b < m.blocks = omega (arith, c.loop-b-test.true, c.len-b-end.ensures.value) in
    let fault : TallyFaultStands m c.in_err-add_block.field-0.0 = block_leaves m c.loop-b.b c.in-Some.shell
    c.bench_and_shell-place.result t w (get by_bench c.loop-b.rows) c.in_err-add_block.field-0.0 below
    c.bench_and_shell-place.ensures shell tonnes worth c.loop-b.invariant c.in_err-add_block.ensures.refused in
    let p = err_from_is_err_and c.from_residual.result c.from_residual.ensures.1 in
    rw (p.1, p.2) fault

pub loop-b-preserved : goal.loop-b-preserved
loop-b-preserved c =
    let m = reported_blocks c.args.model.now c.args.series.now c.args.tonnes c.args.worths.now in
    elim c.match-shell_of.branch [
      | in-Some+in_ok-add_block b ↦
          (let shell : m.shell c.loop-b.b ≡ Some b.in-Some.shell = sym c.shell_of.ensures.is ∙ b.in-Some.is in
          let t = to_z w128 (of_z w128 b.tonnes_of-mass.result) in
          let w = to_z w128 (of_z w128 b.worth_of-worth.result) in
          let tonnes : t ≡ m.tonnes c.loop-b.b = search (rules, b.tonnes_of-mass.ensures) in
          let worth : w ≡ m.worth c.loop-b.b = search (rules, b.worth_of-worth.ensures) in
          subst (λ r. IsTallied m (c.loop-b.b + 1) (get by_bench r)) (sym b.rows-is)
          (block_added m c.loop-b.b b.in-Some.shell b.bench_and_shell-place.result t w (get by_bench c.loop-b.rows)
          (get by_bench b.add_block.new.rows) b.bench_and_shell-place.ensures shell tonnes worth
          c.loop-b.invariant b.in_ok-add_block.ensures.added.0 b.in_ok-add_block.ensures.fits))
      | in_default b ↦
          (let none : m.shell c.loop-b.b ≡ None = sym c.shell_of.ensures.is ∙ b.in_default.is in
          subst (λ r. IsTallied m (c.loop-b.b + 1) (get by_bench r)) (sym b.rows-is)
          (none_more m c.loop-b.b (get by_bench c.loop-b.rows) none c.loop-b.invariant))
    ]
