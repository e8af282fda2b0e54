use Rattle.check_engines.proofs.HeaderAnswers.{header_given, other_blocks}
use Rattle.check_engines.proofs.certificate_judge.header_for.Goals as goal

pub returns-then-header-n-clause-read : goal.returns-then-header-n-clause-read
returns-then-header-n-clause-read g c =
    let before = c.args.stream.now.lines in
    let later = c.header.new.self.lines in
    let read = header_given g.C.Read.remaining before later c.requires.fresh.held c.requires.fresh.taken
    c.in-Ok.header (c.in-Ok.ensures.read c.requires.fresh.fault c.requires.fresh.header) in
    other_blocks g.C.Read.remaining later (g.C.Read.remaining before.from) c.args.n c.in-Ok.header c.from.result
    c.if-header-n.true c.from.ensures read

pub returns-clause-read : goal.returns-clause-read
returns-clause-read g c =
    header_given g.C.Read.remaining c.args.stream.now.lines c.header.new.self.lines c.requires.fresh.held
    c.requires.fresh.taken c.in-Ok.header (c.in-Ok.ensures.read c.requires.fresh.fault c.requires.fresh.header)
