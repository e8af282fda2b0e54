-- The lines of a schedule.
use Rattle.std.specs.Prelude.{ℕ, zero, Bool, true, false, List, [], ◌∷◌, ◌++◌, codes, decimal, cond, ◌==◌, Option}
use Rattle.std.specs.Io.KnownBytes.{Keeps}
use Rattle.fixed_worth.specs.Prelude.{amount_text}
use Rattle.counted_devices.specs.Prelude.{ReceivedPrefix}
use Rattle.std.specs.List.{flat_map}
use Rattle.engine_faults.specs.declared.engine_fault.EngineFault.{EngineFault}
use Rattle.engine_faults.specs.declared.engine_fault.EngineFault.TheVariants as engine
use Rattle.schedule_value.specs.declared.usage.Over.{Over}
use Rattle.schedule_value.specs.Judging.{JudgedView}

-- the line of a pair after a word, and those of pairs
abbrev pub pair_line : List ℕ → ℕ × ℕ → List ℕ
pair_line word pair = word ++ (codes " " ++ (decimal pair.0 ++ (codes " " ++ (decimal pair.1 ++ 10 ∷ []))))

abbrev pub pairs_text : List ℕ → List (ℕ × ℕ) → List ℕ
pairs_text word pairs = flat_map (pair_line word) pairs

-- how many pairs are too early, and the first of them; nothing where none is
abbrev pub early_text : ℕ → List (ℕ × ℕ) → List ℕ
early_text count first = cond (count == 0) []
    (codes "EARLY " ++ (decimal count ++ (10 ∷ pairs_text (codes "WAITS") first)))

-- the line of a period that uses more of a resource than it has
abbrev pub over_line : Over → List ℕ
over_line o = codes "OVER "
    ++ (decimal o.resource ++
    (codes " " ++ (decimal o.period
    ++ (codes " " ++ (amount_text 6 o.used ++ (codes " " ++ (amount_text 6 o.capacity ++ 10 ∷ [])))))))

abbrev pub over_text : List Over → List ℕ
over_text overs = flat_map over_line overs

-- the lines of a schedule
abbrev pub schedule_text : JudgedView → List ℕ
schedule_text v = codes "SCHEDULE "
    ++ (decimal v.count ++ (codes " "
    ++ (amount_text 15 v.npv
    ++ (10 ∷ (codes "BROKEN "
    ++ (decimal v.broken ++ (10
    ∷ (pairs_text (codes "BREAKS") v.first ++ (early_text v.early v.first_early ++ over_text v.over)))))))))

-- whether no pair is broken, none is too early, and nowhere is more used than there is
abbrev pub is_clear : ℕ → ℕ → List Over → Bool
is_clear zero zero [] = true
is_clear _ _ _ = false

-- the lines could not be written: for want of memory nothing was, and else a front of them
abbrev pub LinesFail : Option (List ℕ) → Option (List ℕ) → List ℕ → EngineFault → Type 0
LinesFail old new lines engine.Memory = Keeps old new
LinesFail old new lines engine.Device = ReceivedPrefix old new lines
LinesFail old new lines _ = ⊥
