use Rattle.check_pit.proofs.RoomSums.{puts_line, with_end}
use Rattle.check_pit.proofs.RoomLines.{puts_ok, puts_err}
use Rattle.check_pit.proofs.room.Room.put.Goals as goal

pub returns-in-Pit-clause-sums : goal.returns-in-Pit-clause-sums
returns-in-Pit-clause-sums g c = puts_ok _ c.args.net.now c.args.line.now c.args.self.now c.put_block.new.self
    c.put_block.result c.put_block.ensures.puts

pub returns-in-Pit-clause-fault : goal.returns-in-Pit-clause-fault
returns-in-Pit-clause-fault g c = puts_err _ c.args.net.now c.args.line.now c.args.self.now c.put_block.new.self
    c.put_block.result c.put_block.ensures.puts

pub returns-in-Source-clause-sums : goal.returns-in-Source-clause-sums
returns-in-Source-clause-sums g c = puts_ok _ c.args.net.now c.args.line.now c.args.self.now c.put_source.new.self
    c.put_source.result c.put_source.ensures.puts

pub returns-in-Source-clause-fault : goal.returns-in-Source-clause-fault
returns-in-Source-clause-fault g c = puts_err _ c.args.net.now c.args.line.now c.args.self.now c.put_source.new.self
    c.put_source.result c.put_source.ensures.puts

pub returns-in-Rest-clause-sums : goal.returns-in-Rest-clause-sums
returns-in-Rest-clause-sums g c = puts_ok _ c.args.net.now c.args.line.now c.args.self.now c.put_rest.new.self
    c.put_rest.result c.put_rest.ensures.puts

pub returns-in-Rest-clause-fault : goal.returns-in-Rest-clause-fault
returns-in-Rest-clause-fault g c = puts_err _ c.args.net.now c.args.line.now c.args.self.now c.put_rest.new.self
    c.put_rest.result c.put_rest.ensures.puts

pub returns-in-Sink-clause-sums : goal.returns-in-Sink-clause-sums
returns-in-Sink-clause-sums g c = puts_ok _ c.args.net.now c.args.line.now c.args.self.now c.put_sink.new.self
    c.put_sink.result c.put_sink.ensures.puts

pub returns-in-Sink-clause-fault : goal.returns-in-Sink-clause-fault
returns-in-Sink-clause-fault g c = puts_err _ c.args.net.now c.args.line.now c.args.self.now c.put_sink.new.self
    c.put_sink.result c.put_sink.ensures.puts

pub returns-in-End-clause-sums : goal.returns-in-End-clause-sums
returns-in-End-clause-sums g c = puts_line c.args.net.now c.args.line.now c.args.self.now c.args.self.now
    (with_end c.args.net.now c.args.line.now c.args.self.now c.in-End.is)
