use Rattle.std.proofs.Common.{rules}
use Rattle.option_words.proofs.Pieces.{named}
use Rattle.option_words.proofs.pattern_words.pattern_named.Goals as goal

pub returns-else-eq-clause-is : goal.returns-else-eq-clause-is
returns-else-eq-clause-is c =
    let n = named c.args.word.now c.in-Some.name.now c.in-Some.numbers.now c.in-Some.ensures in
    search (rules, n)
