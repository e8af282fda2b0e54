use Rattle.std.proofs.Common.{rules, length, false, sym, ap, ◌∙◌}
use Rattle.certificate_file.proofs.Splits.{word_step, words_left}
use Rattle.certificate_file.proofs.piece_reader.WordsIterator.next.Goals as goal

pub returns-in-Some-clause-steps : goal.returns-in-Some-clause-steps
returns-in-Some-clause-steps c =
    word_step c.args.self.now c.self.inside.done c.self.inside.rest.now c.in-Some.word.now c.in-Some.rest.now
    c.self.view_is c.if-self.false c.in-Some.ensures

pub returns-in-None-clause-steps : goal.returns-in-None-clause-steps
returns-in-None-clause-steps c =
    sym (words_left c.args.self.now c.self.inside.done false c.self.inside.rest.now c.self.view_is c.if-self.false)
    ∙ c.in-None.ensures

pub returns-in-Some-clause-goes : goal.returns-in-Some-clause-goes
returns-in-Some-clause-goes c =
    let h = ap length (returns-in-Some-clause-steps c) in
    search (rules, h)

pub returns-in-None-clause-goes : goal.returns-in-None-clause-goes
returns-in-None-clause-goes c =
    let h = ap length (returns-in-None-clause-steps c) in
    search (rules, h)
