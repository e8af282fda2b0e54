use Rattle.fixed_worth.proofs.Common.{◌≡◌, take, All}
use Rattle.counted_devices.specs.Device.{SentOrHeld}
use Rattle.trace_file.proofs.Puts.{begun}
use Rattle.trace_file.proofs.RoundTrip.{Fits}
use Rattle.trace_file.proofs.writing.write_trace.Given as goal

abbrev pub invariant-loop-event : goal.invariant-loop-event
invariant-loop-event g l = record {
  held : SentOrHeld (g.W.Write.contents l.fn.out) (g.W.Write.contents l.out) l.page
      (begun (take l.event-index l.events));
  fit : All Fits (take l.event-index l.events);
  kept : g.W.CountedWrite.failed l.out ≡ g.W.CountedWrite.failed l.fn.out;
}
