use Rattle.prec_file.proofs.History.{wrong_count, too_many, no_fault}
use Rattle.std.proofs.Common.{arith}
use Rattle.prec_file.proofs.records.counted.Goals as goal

pub returns-then-read : goal.returns-then-read
returns-then-read c = λ n fields had r new. wrong_count n had c.args.before c.args.line c.args.read.block
    c.args.read.count c.args.read.found fields r.is r.sound r.block new r.count r.found c.if-read.true

pub returns-then-before-read : goal.returns-then-before-read
returns-then-before-read c = λ n fields had r new. too_many n had c.args.before c.args.line c.args.read.block
    c.args.read.count c.args.read.found fields r.is r.sound r.block new r.count r.found c.if-read.false (omega arith)

pub returns : goal.returns
returns c = λ n fields had r new. (
  no_fault n had c.args.before c.args.line c.args.read.block c.args.read.count c.args.read.found fields r.is
      r.sound r.block new r.count r.found c.if-read.false (omega arith),
  omega arith,
)
