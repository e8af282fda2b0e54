use Rattle.std.proofs.Common.{◌≡◌, ℕ, ◌+◌, ◌<◌, List, [], ◌∷◌, ◌++◌, length, take, get_or, sym, ap, ◌∙◌, subst, arith}
use Rattle.prec_file.specs.Rests.{first_of, above_of}
use Rattle.schedule_value.proofs.BlockByBlock.{next_pair, block_passed}
use Rattle.schedule_value.specs.Prelude.{AreBroken, period_by}
use Rattle.schedule_value.proofs.PairByPair.{few_break}
use Rattle.schedule_value.proofs.broken.pass_block.Goals as goal

pub loop-i-preserved : goal.loop-i-preserved
loop-i-preserved c =
    let v = c.args.predecessors.now in
    let xs = c.above-row.result.now in
    let inside : c.loop-i.i < length (above_of v.pairs c.args.b) = omega (arith, ap length c.above-row.ensures) in
    let n = next_pair v c.len-blocks.ensures.all c.args.b c.loop-i.i inside in
    let same : get_or xs c.loop-i.i 0 ≡ get_or (above_of v.pairs c.args.b) c.loop-i.i 0 = ap
    (λ (ys : List ℕ). get_or ys c.loop-i.i 0) c.above-row.ensures in
    let before = take (first_of v.pairs c.args.b + c.loop-i.i) v.pairs in
    let all : take (first_of v.pairs c.args.b + (c.loop-i.i + 1)) v.pairs ≡ before
    ++ (c.args.b, get_or xs c.loop-i.i 0) ∷ [] = n.1 ∙ ap (λ (p : ℕ). before ++ (c.args.b, p) ∷ []) (sym same) in
    subst (λ (ps : List (ℕ × ℕ)). AreBroken c.args.lag (period_by c.args.schedule.now) c.args.periods ps
    c.pass_pair.new.broken.count c.pass_pair.new.broken.first.items) (sym all)
    (c.in_ok-pass_pair.ensures c.args.lag (period_by c.args.schedule.now) c.args.periods before
    (sym c.is_broken-is.ensures) c.loop-i.invariant)

pub is_broken-is-requires-clause-predecessor : goal.is_broken-is-requires-clause-predecessor
is_broken-is-requires-clause-predecessor c =
    let v = c.args.predecessors.now in
    let inside : c.loop-i.i < length (above_of v.pairs c.args.b) = omega (arith, ap length c.above-row.ensures) in
    let n = next_pair v c.len-blocks.ensures.all c.args.b c.loop-i.i inside in
    let same = ap (λ (ys : List ℕ). get_or ys c.loop-i.i 0) c.above-row.ensures in
    omega (arith, n.2, same, c.requires.all)

pub pass_pair-requires : goal.pass_pair-requires
pass_pair-requires c =
    let v = c.args.predecessors.now in
    let r = c.len-blocks.ensures.all in
    let inside : c.loop-i.i < length (above_of v.pairs c.args.b) = omega (arith, ap length c.above-row.ensures) in
    let n = next_pair v r c.args.b c.loop-i.i inside in
    let few = few_break c.args.lag (period_by c.args.schedule.now) c.args.periods v.pairs
    (first_of v.pairs c.args.b + c.loop-i.i) c.loop-i.broken.count c.loop-i.broken.first.items
    (omega (arith, n.0)) c.loop-i.invariant in
    omega (arith, few, n.0, c.len-blocks.ensures.few)

pub returns : goal.returns
returns c =
    let ps = c.args.predecessors.now.pairs in
    let end : first_of ps c.args.b + c.loop-i.i ≡ first_of ps (c.args.b + 1) = omega
    (arith, block_passed ps c.args.b, ap length c.above-row.ensures) in
    subst (λ (k : ℕ). AreBroken c.args.lag (period_by c.args.schedule.now) c.args.periods
    (take k ps) c.loop-i.broken.count c.loop-i.broken.first.items) end c.loop-i.invariant
