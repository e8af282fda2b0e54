-- What is told of a design, of the parts that the program holds.
use Rattle.design_engines.specs.declared.valued.Valued.{Valued}
use Rattle.design_engines.specs.Designs.{DesignView}

-- the numbers of a design: how many blocks it has, what they are worth, how many pairs lead out of it, and the first of
-- these
abbrev pub design_view : Valued → DesignView
design_view v = record { count = v.count; worth = v.worth; leading = v.open.count; needs = v.open.first.items }
