-- How kinds of step are printed.
use Rattle.std.specs.Prelude.{ℕ, List, codes}
use Rattle.machine_law.specs.declared.events.Kind.{Kind}
use Rattle.machine_law.specs.declared.events.Kind.TheVariants.{ReadExcess, ReadCapacity, ReadLabel, TakeCapacity}
use Rattle.machine_law.specs.declared.events.Kind.TheVariants.{GiveCapacity, TakeExcess, GiveExcess, RaiseLabel}

-- The kind's name.
abbrev pub kind_text : Kind → List ℕ
kind_text ReadExcess = codes "ReadExcess"
kind_text ReadCapacity = codes "ReadCapacity"
kind_text ReadLabel = codes "ReadLabel"
kind_text TakeCapacity = codes "TakeCapacity"
kind_text GiveCapacity = codes "GiveCapacity"
kind_text TakeExcess = codes "TakeExcess"
kind_text GiveExcess = codes "GiveExcess"
kind_text RaiseLabel = codes "RaiseLabel"
