use Rattle.std.proofs.Common.{sym}
use Rattle.option_words.proofs.Pieces.{too_many_pieces}
use Rattle.option_words.proofs.pattern_words.cone_named.Goals as goal

pub returns-in-Some-cut_at-2-clause-is : goal.returns-in-Some-cut_at-2-clause-is
returns-in-Some-cut_at-2-clause-is c =
    sym (too_many_pieces c.args.numbers.now c.in-Some.pieces.0.now c.in-Some.pieces.1.now
    c.in-Some-cut_at.pieces.0.now c.in-Some-cut_at.pieces.1.now c.in-Some-cut_at-2.field-0.0.now
    c.in-Some-cut_at-2.field-0.1.now c.in-Some.ensures c.in-Some-cut_at.ensures c.in-Some-cut_at-2.ensures)
