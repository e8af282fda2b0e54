-- What the value of `resources` reads as: the columns of each resource by each way to treat a block.
use Rattle.std.specs.Prelude.{ℕ, ◌*◌, ◌==◌, Bool, cond, nat_le, nat_lt, List, [], ◌∷◌, length, replicate, is_some}
use Rattle.std.specs.Prelude.{Option, Some, None}
use Rattle.toml.specs.Data.{Data, Items, as_array}
use Rattle.toml_values.specs.Numbers.{whole_value_within}
use Rattle.periods_file.specs.Values.{all_rows, if_holds, row_value_within}

-- how many columns a resource has: one for each way, and one where there are no ways
abbrev pub width_of : ℕ → ℕ
width_of ways = cond (ways == 0) 1 ways

-- The columns of a resource by each way: a number is the column of all of them, and an array has one for each. Without
-- ways it is a number.
abbrev pub by_each_way : ℕ → Option ℕ → Option (List ℕ) → Option (List ℕ)
by_each_way ways (Some column) row = Some (replicate (width_of ways) column)
by_each_way ways None row = if_holds (λ ns. nat_lt 0 (length ns)) row

-- What a value reads as that has to be a resource: its columns by each way.
abbrev pub resource_row : ℕ → Data → Option (List ℕ)
resource_row ways d = by_each_way ways (whole_value_within 65535 d) (row_value_within 65535 ways d)

-- whether a resource has one column for all ways, as a row of its own
abbrev pub shared_row : Data → Option (List Bool)
shared_row d = Some (is_some (whole_value_within 65535 d) ∷ [])

-- the same of each item of an array, one after another
abbrev pub shared_rows : Option Items → Option (List Bool)
shared_rows (Some ds) = all_rows shared_row ds
shared_rows None = None

-- the columns of each resource of an array by each way, resource by resource
abbrev pub resource_rows : ℕ → Option Items → Option (List ℕ)
resource_rows ways (Some ds) = all_rows (resource_row ways) ds
resource_rows ways None = None

-- What a value reads as that has to be an array of at most 8 resources: whether each has one column for all ways.
abbrev pub shared_of : Data → Option (List Bool)
shared_of d = if_holds (λ ts. nat_le (length ts) 8) (shared_rows (as_array d))

-- What a value reads as that has to be an array of so many resources: the columns of each by each way, resource by
-- resource. They are numbers from 0 to 65,535.
abbrev pub resources_of : (ways rows : ℕ) → Data → Option (List ℕ)
resources_of ways rows d = if_holds (λ ns. length ns == rows * width_of ways) (resource_rows ways (as_array d))
