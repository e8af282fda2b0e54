use Rattle.std.proofs.Common.{◌≡◌, subst, [], None, replicate, rules, arith}
use Rattle.prec_file.specs.Rests.{IsRests}
use Rattle.shells.specs.Prices.{priced_count}
use Rattle.shells.proofs.Shells.{opens}
use Rattle.shells.proofs.shell_series.Series.open.Goals as goal

pub invariant_of-result : goal.invariant_of-result
invariant_of-result c =
    let blocks : c.args.rests.blocks ≡ priced_count c.args.prices = search
    (rules, c.len.ensures.is, c.len-blocks.ensures.is, c.if-len-blocks.false) in
    let rests : IsRests (record { blocks = priced_count c.args.prices; pairs = c.args.rests.pairs }) = subst
    (λ n. IsRests (record { blocks = n; pairs = c.args.rests.pairs })) blocks c.len.ensures.all in
    let factors : c.in_ok-factors.factors.items ≡ [] = c.in_ok-factors.ensures.items in
    let shells : c.in_ok-shells.shells.items ≡ replicate (priced_count c.args.prices) None = search
    (rules, c.in_ok-shells.ensures.items, c.len-blocks.ensures.is) in
    record {
      series = rw (factors, shells) (opens c.args.rests.pairs c.args.prices rests c.len-blocks.ensures.table);
      reserved = omega (arith, c.in_ok-factors.ensures.capacity);
      sized = blocks;
    }
