use Rattle.std.proofs.Common.{ℕ, sym, subst}
use Rattle.check_pit.specs.CertStreams.{IsReadFor}
use Rattle.check_engines.proofs.certificate_judge.price_mine.Goals as goal

pub returns-in-Ok-clause-priced : goal.returns-in-Ok-clause-priced
returns-in-Ok-clause-priced g c = c.in-Ok.ensures.priced c.args.mine.predecessors (sym c.len.ensures.is)

pub returns-in-Err-clause-priced : goal.returns-in-Err-clause-priced
returns-in-Err-clause-priced g c = c.in-Err.ensures.priced c.args.mine.predecessors (sym c.len.ensures.is)

pub returns-in-Ok-clause-header : goal.returns-in-Ok-clause-header
returns-in-Ok-clause-header g c = subst
    (λ (n : ℕ). IsReadFor n c.in-Ok.priced.group c.price_blocks.new.stream.header c.price_blocks.new.stream.fault)
    c.len.ensures.is c.in-Ok.ensures.header
