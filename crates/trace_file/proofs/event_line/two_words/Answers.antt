use Rattle.trace_file.proofs.Parts.{three_words}
use Rattle.trace_file.proofs.event_line.two_words.Goals as goal

pub returns-in-Some-cut_at : goal.returns-in-Some-cut_at
returns-in-Some-cut_at c = three_words c.args.line.now c.in-Some.first.now c.in-Some.second.now
    c.in-Some-cut_at.field-0.0.now c.in-Some-cut_at.field-0.1.now c.in-Some.ensures c.in-Some-cut_at.ensures
