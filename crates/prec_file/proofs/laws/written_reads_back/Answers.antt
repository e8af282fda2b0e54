use Rattle.prec_file.proofs.WrittenRecords.{reads_back}
use Rattle.prec_file.proofs.laws.written_reads_back.Goals as goal

pub returns : goal.returns
returns c = λ narrow. reads_back c.args.rests.now c.len.ensures.all c.len.ensures.few narrow
