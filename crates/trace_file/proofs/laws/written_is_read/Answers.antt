use Rattle.trace_file.proofs.RoundTrip.{written_is_read}
use Rattle.trace_file.proofs.laws.written_is_read.Goals as goal

pub returns : goal.returns
returns c = written_is_read
