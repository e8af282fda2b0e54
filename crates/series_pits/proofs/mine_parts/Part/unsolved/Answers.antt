use Rattle.std.proofs.Common.{arith}
use Rattle.series_pits.proofs.Parting.{fewer_factors, part_of}
use Rattle.series_pits.proofs.mine_parts.Part.unsolved.Goals as goal

pub returns : goal.returns
returns c = λ pairs prices factors h.
    let part = c.args.self.now in
    let low = part.low.items in
    let kept = part.kept.items in
    record {
      found = tt;
      lower = part_of pairs prices factors c.in_ok-lower.lower part.from c.args.place low kept c.in_ok-lower.ensures
          (fewer_factors pairs prices factors part.from part.to part.from c.args.place low kept
          (omega arith) c.requires.last h);
      higher = part_of pairs prices factors c.in_ok-higher.higher c.args.next part.to low kept c.in_ok-higher.ensures
          (fewer_factors pairs prices factors part.from part.to c.args.next part.to low kept c.requires.first
          (omega arith) h);
    }
