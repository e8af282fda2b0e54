-- What a bound on the worth of every schedule is, over the texts of a mine and its periods.
use Rattle.std.specs.Prelude.{◌≡◌, ℕ, ◌+◌, ◌*◌, ℤ, pos, ◌+ℤ◌, ◌-ℤ◌, ◌*ℤ◌, Bool, List, length, map, slice_index, Option}
use Rattle.std.specs.Prelude.{Some}
use Rattle.ordered_group.specs.Prelude.{worth_block}
use Rattle.prec_file.specs.Rests.{RestsView, has_pair}
use Rattle.closure_net.specs.Prelude.{Mine, NetView, IsGreatest, IsRichest, group_worth, net_view, worth_of}
use Rattle.mine_inputs.specs.Prelude.{DenoteMine, MineTexts, ways_of}
use Rattle.periods_file.specs.Periods.{PeriodsView}
use Rattle.schedules.specs.Prelude.{Treated, by_ways, price_of_capacities, sum_below}
use Rattle.production_figures.specs.Figures.{FiguresView, production_of}
use Rattle.expanded_mine.specs.Prelude.{IsTreatedBound, most_of, price_by, treated_mine_of}
use Rattle.schedule_engines.specs.Prelude.{ReadsPeriodsBy, ReadsWayUses, treated_of}
use Rattle.planned_mine.specs.declared.planned.Figured.{Figured}
use Rattle.planned_mine.specs.Prelude.{IsExpanded, IsFigured}
use Rattle.bound_engines.specs.Pits.{IsPartBy, PartView, treated_over, waits_over}
use Rattle.bound_engines.specs.declared.nodes_judge.NodesJudged.{NodesJudged}
use Rattle.bound_engines.specs.declared.nodes_judge.NodesJudged.TheVariants as nodes
use Rattle.bound_engines.specs.declared.bound_judge.BoundJudgement.{BoundJudgement}
use Rattle.bound_engines.specs.declared.bound_judge.BoundJudgement.TheVariants as told

-- the price of resource r in period t, by multipliers that are listed row by row
abbrev pub priced_by : PeriodsView → List ℕ → ℕ → ℕ → ℕ
priced_by said prices r t = slice_index prices (r * length said.weights + t)

-- what block b leaves in period t above what it is charged there, by a way
abbrev pub left_by_way : Treated → (price : ℕ → ℕ → ℕ) → (way b t : ℕ) → ℤ
left_by_way treated price way b t = treated.value b way t -ℤ sum_below (λ r. treated.uses r b way *ℤ pos (price r t))
    treated.resources

-- and at most, by any of so many ways or as waste, which is the number after the last
abbrev pub left_at_most : (ways : ℕ) → Treated → (price : ℕ → ℕ → ℕ) → (b t : ℕ) → ℤ
left_at_most ways treated price b t = most_of (λ way. left_by_way treated price way b t) ways

-- the expanded mine of a production whose blocks may go so many ways or to waste
abbrev pub treated_nodes : (ways : ℕ) → Treated → (price : ℕ → ℕ → ℕ) → (lag : ℕ) → List (ℕ × ℕ) → Mine
treated_nodes ways treated price lag waits = treated_mine_of treated (left_at_most ways treated price) lag waits

-- The texts denote a mine and its periods, with a multiplier for each resource in each period, what its blocks use by
-- each way to treat them, and the pairs of blocks that wait.
pub record DenotePlan (texts : MineTexts) (periods uses : List ℕ) : Type 0 where
  pub count : ℕ
  pub mine : DenoteMine texts count
  pub said : PeriodsView
  pub read : ReadsPeriodsBy (ways_of texts) periods said
  pub prices : List ℕ
  pub priced : said.multipliers ≡ Some prices
  pub used : List ℕ
  pub waits : RestsView
  pub uses_read : ReadsWayUses count (ways_of texts) said uses used waits

-- The expanded mine of these texts, or of what is kept of it: a node is worth what its block leaves at most, whichever
-- way
-- it goes.
abbrev pub nodes_mine : (texts : MineTexts) (periods uses : List ℕ) → DenotePlan texts periods uses → Option PartView
    → Mine
nodes_mine texts periods uses d part = treated_nodes (ways_of texts)
    (treated_over (treated_of texts d.count d.said uses) part) (priced_by d.said d.prices) d.said.lag
    (waits_over d.waits.pairs part)

-- The richest pit of the texts' expanded mine, and all capacities at their multipliers, come to this bound; and no
-- feasible schedule of the whole mine in which blocks wait as they should is worth more, whichever ways its blocks go.
-- Where the certificate of a pit is given, the expanded mine is that of this pit's blocks alone.
pub record IsBounded (texts : MineTexts) (periods uses : List ℕ) (pit : Option (List ℕ)) (bound : ℤ) : Type 0 where
  pub denotes : DenotePlan texts periods uses
  pub part : Option PartView
  pub over : IsPartBy texts denotes.count denotes.waits.pairs pit part
  pub best : ℕ → Bool
  pub richest : IsRichest (nodes_mine texts periods uses denotes part) best
  pub exact : bound ≡ worth_of (nodes_mine texts periods uses denotes part) best +ℤ price_of_capacities
      (by_ways (treated_of texts denotes.count denotes.said uses) (λ b. 0)) (priced_by denotes.said denotes.prices)
  pub holds : IsTreatedBound (treated_of texts denotes.count denotes.said uses) denotes.said.lag
      (has_pair denotes.waits.pairs) bound

-- a bound is one of the texts; of a certificate that proves no pit nothing is said
abbrev pub IsToldOf : MineTexts → List ℕ → List ℕ → Option (List ℕ) → BoundJudgement → Type 0
IsToldOf texts periods uses pit (told.Bound bound) = IsBounded texts periods uses pit bound
IsToldOf texts periods uses pit (told.Refused fault) = Unit {0}

-- the same of a mine of n blocks, over periods of which the text says this, and with these pairs of blocks that wait
abbrev pub IsToldFor : MineTexts → List ℕ → List ℕ → Option (List ℕ) → ℕ → PeriodsView → RestsView → BoundJudgement
    → Type 0
IsToldFor texts periods uses pit n said waits (told.Bound bound) = (b : IsBounded texts periods uses pit bound)
    × (b.denotes.count ≡ n) × (b.denotes.said ≡ said) × (b.denotes.waits ≡ waits)
IsToldFor texts periods uses pit n said waits (told.Refused fault) = Unit {0}

-- the net of nodes with these pairs and worths, in amounts of worth alone
abbrev pub node_net : RestsView → List ℤ → NetView
node_net pairs worths = net_view pairs.pairs (map (λ v. worth_block v pairs.blocks) worths)

-- a greatest closed set of the net of these pairs and worths is worth so much
abbrev pub IsJudgedOf : RestsView → List ℤ → NodesJudged → Type 0
IsJudgedOf pairs worths (nodes.Richest worth) = (best : ℕ → Bool) × IsGreatest (node_net pairs worths) best
    × (worth ≡ (group_worth (map (λ v. worth_block v pairs.blocks) worths) best).w)
IsJudgedOf pairs worths (nodes.Refused fault) = Unit {0}

-- what a certificate tells of nodes with these pairs and worths, which were made of these figures
abbrev pub IsToldBy : FiguresView → List ℕ → RestsView → List ℤ → BoundJudgement → Type 0
IsToldBy f prices pairs worths (told.Bound bound) = (worth : ℤ) × IsJudgedOf pairs worths (nodes.Richest worth)
    × ((base : List (ℕ × ℕ)) → bound ≡ worth +ℤ price_of_capacities (production_of base f) (price_by f prices))
IsToldBy f prices pairs worths (told.Refused fault) = Unit {0}

-- The same of the nodes of a mine with these pairs, whose blocks are worth this and use that by so many ways and as
-- waste.
pub record IsToldOver (rests : RestsView) (ways : ℕ) (worth : (way b : ℕ) → ℤ) (used : (r way b : ℕ) → ℤ)
    (said : PeriodsView) (waits : RestsView) (t : BoundJudgement) : Type 0 where
  pub figures : FiguresView
  pub others : List FiguresView
  pub prices : List ℕ
  pub node_pairs : RestsView
  pub node_worths : List ℤ
  pub expanded : IsExpanded rests ways worth used said waits figures others prices node_pairs node_worths
  pub told : IsToldBy figures prices node_pairs node_worths t

-- the same of the nodes of these figures, whatever they are figures of
abbrev pub IsToldIn : Figured → BoundJudgement → Type 0
IsToldIn x t = (rests : RestsView) (ways : ℕ) (worth : ℕ → ℕ → ℤ) (used : ℕ → ℕ → ℕ → ℤ) (said : PeriodsView)
    (waits : RestsView) → IsFigured rests ways worth used said waits x → IsToldOver rests ways worth used said waits t

-- nothing is proved
abbrev pub IsRefusal : NodesJudged → Type 0
IsRefusal (nodes.Richest worth) = ⊥
IsRefusal (nodes.Refused fault) = Unit {0}
