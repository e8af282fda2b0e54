-- A bound by figures that were read is one by the texts.
use Rattle.fixed_worth.proofs.Common.{◌≡◌, ℕ, ◌+◌, ◌<◌, ℤ, pos, ◌+ℤ◌, List, length, map, Option, Some, None, Ok, IfSome}
use Rattle.fixed_worth.proofs.Common.{refl, sym, ap, subst, ◌∙◌}
use Rattle.ordered_group.specs.Prelude.{Amount, worth_block}
use Rattle.prec_file.specs.Rests.{RestsView, has_pair}
use Rattle.closure_net.specs.Prelude.{NetView, holds_of, IsGreatest, IsNetOf, group_worth, net_view}
use Rattle.certificate_file.specs.declared.header.Header.{Header}
use Rattle.certificate_file.specs.Prelude.{header_of, pieces_of}
use Rattle.check_pit.specs.Prelude.{LineView}
use Rattle.check_engines.specs.Prelude.{StandsAfter, factor_in, factor_named}
use Rattle.mine_inputs.specs.declared.worths.Worths.{Worths}
use Rattle.mine_inputs.specs.Prelude.{IsMineRead, MineTexts, blocks_valued, factor_at, rests_of, ways_of, ways_valued}
use Rattle.mine_inputs.specs.Prelude.{worth_by_texts, worth_of_way, worth_valued}
use Rattle.periods_file.specs.Periods.{PeriodsView, periods_view}
use Rattle.schedules.specs.Prelude.{price_of_capacities}
use Rattle.production_figures.specs.Figures.{FiguresView, production_of}
use Rattle.expanded_mine.specs.Prelude.{price_by}
use Rattle.schedule_engines.specs.Prelude.{ReadsPeriodsBy, ReadsWayUses, amount_by, treated_of, use_of_way}
use Rattle.schedule_engines.proofs.Scheduled.{rests_same}
use Rattle.schedule_engines.proofs.WayUsesRead.{amount_same}
use Rattle.planned_mine.specs.declared.bound_inputs.BesideRead.{BesideRead}
use Rattle.planned_mine.specs.Prelude.{AreWayFigures, IsExpanded, used_valued}
use Rattle.bound_engines.specs.Prelude.{DenotePlan, IsJudgedOf, IsRefusal, IsToldBy, IsToldFor, IsToldOf, IsToldOver}
use Rattle.bound_engines.specs.Prelude.{node_net, nodes_mine, priced_by}
use Rattle.bound_engines.specs.declared.nodes_judge.NodesJudged.{NodesJudged}
use Rattle.bound_engines.specs.declared.nodes_judge.NodesJudged.TheVariants as nodes
use Rattle.bound_engines.specs.declared.bound_judge.BoundJudgement.{BoundJudgement}
use Rattle.bound_engines.specs.declared.bound_judge.BoundJudgement.TheVariants as told
use Rattle.bound_engines.proofs.WayNodes.{PitBound, bound_holds, figures_as, net_same, pit_bound}

-- ---- all of what was read

module _ (texts : MineTexts) (periods uses : List ℕ) (worths : Worths) (factor : ℕ) (rests : RestsView)
    (beside : BesideRead)
    (m : IsMineRead texts factor worths rests)
    (pr : ReadsPeriodsBy (ways_of texts) periods (periods_view beside.periods))
    (ur : ReadsWayUses rests.blocks (ways_of texts) (periods_view beside.periods) uses beside.uses.items
    beside.waits) where
  abbrev read_said : PeriodsView
  read_said = periods_view beside.periods

  -- what a block uses, as it was read and by the texts
  pub used_same : (r way b : ℕ) → r < length read_said.shared → b < rests.blocks
      → used_valued worths beside r way b ≡ use_of_way (ways_of texts) read_said uses r way b
  used_same r way b known l =
      ap (λ (k : ℕ). pos (amount_by beside.uses.items read_said.shared k (blocks_valued worths) r way b)) m.2.count
      ∙ ap (λ (n : ℕ). pos (amount_by beside.uses.items read_said.shared (ways_of texts) n r way b)) m.2.size
      ∙ amount_same rests.blocks (ways_of texts) read_said uses beside.uses.items beside.waits ur r way b known l

  figures_told : (f : FiguresView) (others : List FiguresView)
      → AreWayFigures rests.blocks (ways_valued worths) (worth_valued worths factor) (used_valued worths beside)
      read_said f others
      → AreWayFigures rests.blocks (ways_of texts) (worth_of_way texts) (use_of_way (ways_of texts) read_said uses)
      read_said f others
  figures_told f others a =
      figures_as rests.blocks (ways_valued worths) (ways_of texts) (worth_valued worths factor) (worth_of_way texts)
      (used_valued worths beside) (use_of_way (ways_of texts) read_said uses) read_said f others
      m.2.count (λ way b l. m.2.each way b l) used_same a

  pub pairs_told : (b p : ℕ) → rests_of texts b p ≡ has_pair rests.pairs b p
  pairs_told = rests_same (rests_of texts) rests.pairs m.0.pairs

  abbrev pub denotes : (prices : List ℕ) → read_said.multipliers ≡ Some prices → DenotePlan texts periods uses
  denotes prices priced = record {
    count = rests.blocks;
    mine = m.0.mine;
    said = read_said;
    read = pr;
    prices = prices;
    priced = priced;
    used = beside.uses.items;
    waits = beside.waits;
    uses_read = ur;
  }

  -- the net of the nodes is that of the texts' expanded mine
  pub net_told : (f : FiguresView) (others : List FiguresView) (prices : List ℕ) (pairs : RestsView)
      (node_worths : List ℤ) → (x : IsExpanded rests (ways_valued worths) (worth_valued worths factor)
      (used_valued worths beside) read_said beside.waits f others prices pairs node_worths)
      → IsNetOf worth_block (nodes_mine texts periods uses (denotes prices x.prices) None) (node_net pairs node_worths)
  net_told f others prices pairs node_worths x =
      net_same rests (rests_of texts) (worth_by_texts texts) (ways_of texts) (worth_of_way texts)
      (use_of_way (ways_of texts) read_said uses) read_said prices beside.waits f others pairs_told
      (figures_told f others x.figures) pairs node_worths x.pairs x.worths

  -- what is told of all of it is a bound of this mine and these periods
  pub told_whole : (t : BoundJudgement) → IsToldOver rests (ways_valued worths) (worth_valued worths factor)
      (used_valued worths beside) read_said beside.waits t
      → IsToldFor texts periods uses None rests.blocks read_said beside.waits t
  told_whole (told.Bound bound) o =
      let x = o.expanded in
      let treated = treated_of texts rests.blocks read_said uses in
      let price = priced_by read_said o.prices in
      let b : PitBound (ways_of texts) treated price read_said.lag beside.waits.pairs bound =
      pit_bound rests (rests_of texts) (worth_by_texts texts) (ways_of texts) (worth_of_way texts)
      (use_of_way (ways_of texts) read_said uses) read_said o.prices beside.waits o.figures o.others pairs_told
      (figures_told o.figures o.others x.figures) o.node_pairs o.node_worths x.pairs x.worths bound o.told in (
        record {
          denotes = denotes o.prices x.prices;
          part = None;
          over = tt;
          best = b.best;
          richest = b.richest;
          exact = b.exact;
          holds = bound_holds (ways_of texts) treated price read_said.lag beside.waits.pairs bound (λ i. refl) b;
        },
        refl,
        refl,
        refl,
      )
  told_whole (told.Refused fault) o = tt

-- what a judgement of nodes tells, with all capacities at their prices
pub told_bound : (f : FiguresView) (prices ps : List ℕ) (pairs : RestsView) (worths xs : List ℤ) → ps ≡ prices
    → xs ≡ worths → (worth bound : ℤ) → IsJudgedOf pairs xs (nodes.Richest worth)
    → ((base : List (ℕ × ℕ)) → bound ≡ worth +ℤ price_of_capacities (production_of base f) (price_by f ps))
    → IsToldBy f prices pairs worths (told.Bound bound)
told_bound f prices ps pairs worths xs same listed worth bound j sum = (
  worth,
  subst (λ (vs : List ℤ). IsJudgedOf pairs vs (nodes.Richest worth)) listed j,
  λ base. subst (λ (qs : List ℕ). bound ≡ worth +ℤ price_of_capacities (production_of base f) (price_by f qs)) same
      (sum base),
)

pub told_of : (texts : MineTexts) (periods uses : List ℕ) (pit : Option (List ℕ)) (n : ℕ) (said : PeriodsView)
    (lags : RestsView) (t : BoundJudgement) → IsToldFor texts periods uses pit n said lags t
    → IsToldOf texts periods uses pit t
told_of texts periods uses pit n said lags (told.Bound bound) h = h.0
told_of texts periods uses pit n said lags (told.Refused fault) h = tt

-- where nothing is proved nothing is told
pub refusal_told : (pairs : RestsView) (worths : List ℤ) (j : NodesJudged) → IsRefusal j → IsJudgedOf pairs worths j
refusal_told pairs worths (nodes.Richest worth) h = absurd h
refusal_told pairs worths (nodes.Refused fault) h = tt

-- what a check of the nodes' net accepts is greatest
pub richest_told : (pairs : RestsView) (worths : List ℤ) (graph net accepted : NetView) (pit : List ℕ)
    → graph ≡ net_view pairs.pairs (map (λ v. worth_block v pairs.blocks) worths) → net ≡ graph → accepted ≡ net
    → IsGreatest accepted (holds_of pit)
    → IsGreatest (net_view pairs.pairs (map (λ v. worth_block v pairs.blocks) worths)) (holds_of pit)
richest_told pairs worths graph net accepted pit e f h g = subst (λ (n : NetView). IsGreatest n (holds_of pit))
    (h ∙ f ∙ e) g

pub worth_told_by : (pairs : RestsView) (worths : List ℤ) (graph net accepted : NetView) (pit : List ℕ) (sum : Amount)
    → graph ≡ net_view pairs.pairs (map (λ v. worth_block v pairs.blocks) worths) → net ≡ graph → accepted ≡ net
    → sum ≡ group_worth accepted.worths (holds_of pit)
    → sum.w ≡ (group_worth (map (λ v. worth_block v pairs.blocks) worths) (holds_of pit)).w
worth_told_by pairs worths graph net accepted pit sum e f h s = ap (λ (m : Amount). m.w) s
    ∙ ap (λ (n : NetView). (group_worth n.worths (holds_of pit)).w) (h ∙ f ∙ e)

-- the factor that a header names is that of its text
pub factor_told : {R : Type 0} (remaining : R → Option (List ℕ)) (later : LineView R) (o : Option (List ℕ))
    (h : Header) (factor : ℕ) → factor ≡ factor_at h.price
    → IfSome o (λ c. (header_of (pieces_of c) ≡ Ok h) × StandsAfter remaining c later)
    → IfSome o (λ c. factor ≡ factor_in c)
factor_told remaining later None h factor e r = tt
factor_told remaining later (Some c) h factor e r = e ∙ sym (ap factor_named r.0)
