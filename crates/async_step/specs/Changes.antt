-- What a step changes beside its block's operation and the count of steps.
use Rattle.std.specs.Prelude.{ℕ, ◌<◌, ◌^◌, length, slice_set}
use Rattle.ordered_group.specs.Prelude.{Amount, minus, negative, FitsPair, amount_at}
use Rattle.closure_net.specs.Network.{NetView}
use Rattle.machine_law.specs.States.{State, with_value_at}
use Rattle.async_step.specs.Views.{StateView}
use Rattle.async_step.specs.declared.changing.Change.{Change}
use Rattle.async_step.specs.declared.changing.Change.TheVariants.{Nothing, Excess, Label, Source, Sink, Flow, AtSource}
use Rattle.async_step.specs.declared.changing.Change.TheVariants.{AtSink}

-- with each amount replaced by what f says of it
abbrev pub change_as : {N M : Type 0} → (N → M) → Change N → Change M
change_as f Nothing = Nothing
change_as f (Excess at amount) = Excess at (f amount)
change_as f (Label label) = Label label
change_as f (Source amount) = Source (f amount)
change_as f (Sink amount) = Sink (f amount)
change_as f (Flow pair amount) = Flow pair (f amount)
change_as f (AtSource amount) = AtSource (f amount)
change_as f (AtSink amount) = AtSink (f amount)

-- a state after a change by block b
abbrev pub after_change : State → ℕ → Change Amount → State
after_change s b Nothing = s
after_change s b (Excess at amount) = record s { excess = with_value_at s.excess at amount }
after_change s b (Label label) = record s { label = with_value_at s.label b label }
after_change s b (Source amount) = record s { source = with_value_at s.source b amount }
after_change s b (Sink amount) = record s { sink = with_value_at s.sink b amount }
after_change s b (Flow pair amount) = record s { flow = with_value_at s.flow pair amount }
after_change s b (AtSource amount) = record s { at_source = amount }
after_change s b (AtSink amount) = record s { at_sink = amount }

-- the lists of a state after a change by block b
abbrev pub lists_after_change : StateView → ℕ → Change Amount → StateView
lists_after_change v b Nothing = v
lists_after_change v b (Excess at amount) = record v { excess = slice_set v.excess at amount }
lists_after_change v b (Label label) = record v { label = slice_set v.label b label }
lists_after_change v b (Source amount) = record v { source = slice_set v.source b amount }
lists_after_change v b (Sink amount) = record v { sink = slice_set v.sink b amount }
lists_after_change v b (Flow pair amount) = record v { flow = slice_set v.flow pair amount }
lists_after_change v b (AtSource amount) = record v { at_source = amount }
lists_after_change v b (AtSink amount) = record v { at_sink = amount }

-- what changes is there, and the number that it becomes fits its type, also what the block may still give the sink
abbrev pub CanChange : NetView → ℕ → Change Amount → Type 0
CanChange net b Nothing = Unit {0}
CanChange net b (Excess at amount) = (at < length net.worths) × FitsPair amount
CanChange net b (Label label) = label < 2 ^ 64
CanChange net b (Source amount) = FitsPair amount
CanChange net b (Sink amount) = FitsPair amount × FitsPair (minus (negative (amount_at net.worths b)) amount)
CanChange net b (Flow pair amount) = (pair < length net.pairs) × FitsPair amount
CanChange net b (AtSource amount) = FitsPair amount
CanChange net b (AtSink amount) = FitsPair amount
