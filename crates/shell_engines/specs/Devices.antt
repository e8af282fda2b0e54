-- The inputs and outputs of an engine over the factors of settings, as devices: the bytes that they tell, and the
-- failures that they count.
use Rattle.std.specs.Prelude.{◌≡◌, ℕ, ◌+◌, ◌-◌, ◌^◌, ◌<◌, Bool, true, false, List, Option, Some, None, IfSome}
use Rattle.std.specs.Prelude.{option_map}
use Rattle.mine_inputs.specs.Mines.{PrecedenceBy, by_slopes, by_text}
use Rattle.shell_engines.specs.declared.series_inputs.SeriesInputs.{SeriesInputs}
use Rattle.shell_engines.specs.declared.series_outputs.SeriesOutputs.{SeriesOutputs}
use Rattle.shell_engines.specs.declared.series_outputs.Wanted.{Wanted}

-- the failures that a device has counted, which may be there
abbrev pub failures_in : {V : Type 0} → Option V → (V → ℕ) → ℕ
failures_in None failed = 0
failures_in (Some device) failed = failed device

-- ---- inputs

-- what says which block rests on which: the text of a device where there is one, if it tells its bytes, and the slopes
-- where there is none
abbrev pub precedence_in : {D : Type 0} → Option D → (D → Option (List ℕ)) → Option PrecedenceBy
precedence_in None remaining = Some by_slopes
precedence_in (Some device) remaining = option_map by_text (remaining device)

-- whether there is no such device, so that the slopes say it
abbrev pub is_without : {D : Type 0} → Option D → Bool
is_without None = true
is_without (Some device) = false

-- P holds of the texts, where all devices tell their bytes
abbrev pub ForSeries : {D : Type 0} → SeriesInputs D → (D → Option (List ℕ))
    → (List ℕ → List ℕ → PrecedenceBy → Type 0) → Type 0
ForSeries inputs remaining P = IfSome (remaining inputs.settings)
    (λ s. IfSome (remaining inputs.blocks) (λ b. IfSome (precedence_in inputs.prec remaining) (λ p. P s b p)))

-- each device has counted fewer than 2^64 - 1 failures, so that one more can be counted
abbrev pub InputsCanCount : {D : Type 0} → SeriesInputs D → (D → ℕ) → Type 0
InputsCanCount inputs failed = (failed inputs.settings < 2 ^ 64 - 1) × (failed inputs.blocks < 2 ^ 64 - 1)
    × (failures_in inputs.prec failed < 2 ^ 64 - 1)

-- the failures that they have counted together
abbrev pub input_failures : {D : Type 0} → SeriesInputs D → (D → ℕ) → ℕ
input_failures inputs failed = failed inputs.settings + failed inputs.blocks + failures_in inputs.prec failed

-- each device counts the failures that it had counted, and so none failed
abbrev pub NoInputFailed : {D : Type 0} → SeriesInputs D → SeriesInputs D → (D → ℕ) → Type 0
NoInputFailed old new failed = (failed new.settings ≡ failed old.settings) × (failed new.blocks ≡ failed old.blocks)
    × (failures_in new.prec failed ≡ failures_in old.prec failed)

-- ---- outputs

-- whether there is a device for a table of blocks
abbrev pub is_asked : {V : Type 0} → Option V → Bool
is_asked None = false
is_asked (Some device) = true

-- what is wanted beside the answer: the table of blocks where there is a device for it, and ways where they are asked
-- for
abbrev pub wanted_by : {V W : Type 0} → SeriesOutputs V W → Wanted
wanted_by outputs = record { table = is_asked outputs.by_block; ways = outputs.ways }

-- the bytes of a device that may be there; nothing is told of one that isn't
abbrev pub contents_in : {V : Type 0} → Option V → (V → Option (List ℕ)) → Option (List ℕ)
contents_in None contents = None
contents_in (Some device) contents = contents device

-- each device has counted fewer than 2^64 - 1 failures
abbrev pub OutputsCanCount : {V W : Type 0} → SeriesOutputs V W → (V → ℕ) → (W → ℕ) → Type 0
OutputsCanCount outputs failed failed' = (failures_in outputs.by_block failed < 2 ^ 64 - 1)
    × (failed' outputs.out < 2 ^ 64 - 1)

-- the failures that they have counted together
abbrev pub output_failures : {V W : Type 0} → SeriesOutputs V W → (V → ℕ) → (W → ℕ) → ℕ
output_failures outputs failed failed' = failures_in outputs.by_block failed + failed' outputs.out

-- none failed
abbrev pub NoOutputFailed : {V W : Type 0} → SeriesOutputs V W → SeriesOutputs V W → (V → ℕ) → (W → ℕ) → Type 0
NoOutputFailed old new failed failed' = (failures_in new.by_block failed ≡ failures_in old.by_block failed)
    × (failed' new.out ≡ failed' old.out)
