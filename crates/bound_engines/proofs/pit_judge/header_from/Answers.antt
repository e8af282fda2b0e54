use Rattle.std.proofs.Common.{rules}
use Rattle.check_engines.proofs.HeaderAnswers.{header_given}
use Rattle.bound_engines.proofs.PitsTold.{header_told}
use Rattle.bound_engines.proofs.pit_judge.header_from.Goals as goal

pub returns-in-Some-clause-read : goal.returns-in-Some-clause-read
returns-in-Some-clause-read g c =
    let before = c.args.stream.now.lines in
    let later = c.header.new.self.lines in
    let remaining = g.C.Read.remaining in
    let read = header_given remaining before later c.requires.fresh.held c.requires.fresh.taken c.in-Ok.header
    (c.in-Ok.ensures.read c.requires.fresh.fault c.requires.fresh.header) in
    header_told remaining later (remaining before.from) c.args.worths.now c.args.blocks c.in-Some.factor
    c.in-Ok.header (search rules) c.in-Some.ensures.0 read
