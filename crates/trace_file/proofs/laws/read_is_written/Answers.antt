use Rattle.trace_file.proofs.RoundTrip.{read_is_written}
use Rattle.trace_file.proofs.laws.read_is_written.Goals as goal

pub returns : goal.returns
returns c = read_is_written
