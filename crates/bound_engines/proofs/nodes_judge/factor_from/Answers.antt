use Rattle.check_engines.proofs.HeaderAnswers.{header_given}
use Rattle.bound_engines.proofs.Bounded.{factor_told}
use Rattle.bound_engines.proofs.nodes_judge.factor_from.Goals as goal

pub returns-in-Some-clause-factor : goal.returns-in-Some-clause-factor
returns-in-Some-clause-factor g c =
    let before = c.args.stream.now.lines in
    let later = c.header.new.self.lines in
    let read = header_given g.C.Read.remaining before later c.requires.fresh.held c.requires.fresh.taken
    c.in-Ok.header (c.in-Ok.ensures.read c.requires.fresh.fault c.requires.fresh.header) in
    factor_told g.C.Read.remaining later (g.C.Read.remaining before.from) c.in-Ok.header c.in-Some.factor
    c.in-Some.ensures.1 read
