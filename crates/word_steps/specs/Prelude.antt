-- The names of this crate that its proofs and the crates above it use, each from its own file.
pub use Rattle.word_steps.specs.Halves.{IsHalf, IsSole, LooksUp, half, joined_view, left_half, right_half, spent_view}
pub use Rattle.word_steps.specs.Layout.{Cells, count, excess_at, flow_at, label_at, room_at, source_at, units, width}
pub use Rattle.word_steps.specs.SeatSteps.{HasTurned, IsNextAt, IsSame, IsSeat, StepAdds, StepReads, Stores, Subtracts}
pub use Rattle.word_steps.specs.StepWords.{after, after_capacity_word, after_label_word_if, after_look_word}
pub use Rattle.word_steps.specs.StepWords.{after_look_word_if, capacity_word, label_word_at, landing_word, look_word}
pub use Rattle.word_steps.specs.StepWords.{look_word_at, operation_begun_by_word, push_units, smaller_of, word_after}
pub use Rattle.word_steps.specs.StepWords.{word_after_push, word_of}
pub use Rattle.word_steps.specs.Turns.{CanTurn, IsBestPlaced, IsLargeBy, IsPlaced, RaisesTooFar, Sat}
pub use Rattle.word_steps.specs.Turns.{SomeFlowIsTooLarge, SomeLabelIsTooLarge, TurnsSeat, block_of_view}
pub use Rattle.word_steps.specs.Turns.{event_of_operation, is_word_overfull, labels_after, stopped_after}
pub use Rattle.word_steps.specs.Turns.{view_after_turn}
pub use Rattle.word_steps.specs.Views.{IsMade, IsMadeBy, IsRuled, IsSeatsOwn, IsStart, Sees, first_view, of_block}
pub use Rattle.word_steps.specs.Views.{operation_in_view, start_words}
