-- The names of this crate that its proofs and the crates above it use, each from its own file.
pub use Rattle.trace_file.specs.Faults.{UnlessTraceMemory, trace_end_fault, event_fault, events_of, trace_fault_after}
pub use Rattle.trace_file.specs.Faults.{fault_in, trace_fault_of, trace_fault_text, trace_line_fault, rest_fault}
pub use Rattle.trace_file.specs.Lines.{block_of_word, block_within, event_of, event_of_words, event_with, kind_of_word}
pub use Rattle.trace_file.specs.ReadBack.{IsTraceReadBack, IsWritten, ReadIsWritten, WrittenIsRead}
pub use Rattle.trace_file.specs.Written.{event_line, kind_word, trace_text}
