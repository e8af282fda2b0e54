-- What is told of the nodes of a pit's blocks bounds every schedule of the whole mine.
use Rattle.fixed_worth.proofs.Common.{◌≡◌, ℕ, ◌<◌, ℤ, Bool, ◌&&◌, nat_lt, List, All, length, slice_index, Some, refl}
use Rattle.fixed_worth.proofs.Common.{sym, subst, ◌∙◌, arith, ints, and_parts, and_from, ltb-true, lt-ltb}
use Rattle.prec_file.specs.Rests.{RestsView, has_pair}
use Rattle.prec_file.proofs.Pairs.{rests_of_pair, pair_of_rests}
use Rattle.ordered_group.specs.Prelude.{worth_block}
use Rattle.closure_net.specs.Prelude.{IsAscending, IsNetOf}
use Rattle.closure_net.proofs.Holding.{same_tests}
use Rattle.sub_mines.specs.Renumbered.{IsPartPairs, number_in}
use Rattle.mine_inputs.specs.declared.worths.Worths.{Worths}
use Rattle.mine_inputs.specs.Prelude.{IsMineRead, MineTexts, rests_of, ways_of, ways_valued, worth_by_texts}
use Rattle.mine_inputs.specs.Prelude.{worth_of_way, worth_valued}
use Rattle.periods_file.specs.Periods.{PeriodsView, periods_view}
use Rattle.schedules.specs.Prelude.{Treated}
use Rattle.schedules.proofs.Sums.{times_most}
use Rattle.production_figures.specs.Figures.{FiguresView}
use Rattle.expanded_mine.specs.Prelude.{IsTreatedBound}
use Rattle.pit_production.specs.Prelude.{IsEachWayWeighted, among_kept, treated_part_of}
use Rattle.pit_production.proofs.Part.{in_list, treated_part_bounds}
use Rattle.schedule_engines.specs.Prelude.{ReadsPeriodsBy, ReadsWayUses, treated_of, use_of_way}
use Rattle.planned_mine.specs.declared.bound_inputs.BesideRead.{BesideRead}
use Rattle.planned_mine.specs.declared.planned.Figured.{Figured}
use Rattle.planned_mine.specs.Prelude.{AreWayFigures, IsExpanded, IsPartFigured, used_valued}
use Rattle.bound_engines.specs.declared.bound_judge.BoundJudgement.{BoundJudgement}
use Rattle.bound_engines.specs.declared.bound_judge.BoundJudgement.TheVariants as told
use Rattle.bound_engines.specs.Prelude.{IsPitOf, IsToldFor, IsToldOver, node_net, nodes_mine, priced_by, treated_nodes}
use Rattle.bound_engines.proofs.Bounded.{denotes, pairs_told, used_same}
use Rattle.bound_engines.proofs.Falling.{are_falling_weights}
use Rattle.bound_engines.proofs.WayNodes.{PitBound, bound_holds, figures_as, net_same, pit_bound, treated_with}
use Rattle.bound_engines.proofs.MostWorth.{way_worth}

-- ---- the pairs of a part

among_is : (rest : ℕ → ℕ → Bool) (pairs : List (ℕ × ℕ)) → ((b p : ℕ) → rest b p ≡ has_pair pairs b p)
    → (kept : List ℕ) (less : List (ℕ × ℕ)) → IsPartPairs kept pairs less → (i j : ℕ)
    → among_kept kept rest i j ≡ has_pair less i j
among_is rest pairs are kept less part i j = same_tests (among_kept kept rest i j) (has_pair less i j)
    (λ t.
    let x = and_parts (nat_lt i (length kept) && nat_lt j (length kept)) (rest (number_in kept i) (number_in kept j))
    t in
    let y = and_parts (nat_lt i (length kept)) (nat_lt j (length kept)) x.0 in
    let held = pair_of_rests pairs (number_in kept i) (number_in kept j)
    (sym (are (number_in kept i) (number_in kept j)) ∙ x.1) in
    rests_of_pair less i j ((part.same i j (ltb-true i (length kept) y.0) (ltb-true j (length kept) y.1)).1 held))
    (λ t.
    let pair = pair_of_rests less i j t in
    let known = part.known i j pair in
    let held = (part.same i j known.0 known.1).0 pair in
    and_from (nat_lt i (length kept) && nat_lt j (length kept)) (rest (number_in kept i) (number_in kept j))
    (and_from (nat_lt i (length kept)) (nat_lt j (length kept)) (lt-ltb i (length kept) known.0)
    (lt-ltb j (length kept) known.1))
    (are (number_in kept i) (number_in kept j) ∙ rests_of_pair pairs (number_in kept i) (number_in kept j) held))

-- ---- the bound

module _ (texts : MineTexts) (periods uses : List ℕ) (worths : Worths) (factor : ℕ) (rests : RestsView)
    (beside : BesideRead)
    (m : IsMineRead texts factor worths rests)
    (pr : ReadsPeriodsBy (ways_of texts) periods (periods_view beside.periods))
    (ur : ReadsWayUses rests.blocks (ways_of texts) (periods_view beside.periods) uses beside.uses.items
    beside.waits)
    (certificate kept : List ℕ) (rising : IsAscending kept) (below : All (λ b. b < rests.blocks) kept)
    (pit : IsPitOf texts rests.blocks certificate kept) where
  abbrev said : PeriodsView
  said = periods_view beside.periods

  abbrev pub whole : Treated
  whole = treated_of texts rests.blocks said uses

  -- by no way is a block worth more than the mine says, or gives back
  each_weighted : IsEachWayWeighted whole (slice_index said.weights)
  each_weighted = record {
    values = λ b way t l k j. times_most (worth_of_way texts way b) (worth_by_texts texts b)
        (slice_index said.weights t) (way_worth texts way b);
    uses = λ r b way known l k.
        let is = used_same texts periods uses worths factor rests beside m pr ur r way b known l in
        omega (arith, ints, is);
  }

  module _ (q : Figured) (p : IsPartFigured kept worths factor rests beside q) where
    figures_told : (f : FiguresView) (others : List FiguresView)
        → AreWayFigures q.predecessors.blocks (ways_valued worths)
        (λ way i. worth_valued worths factor way (number_in kept i))
        (λ r way i. used_valued worths beside r way (number_in kept i)) said f others
        → AreWayFigures q.predecessors.blocks (ways_of texts) (λ way i. worth_of_way texts way (number_in kept i))
        (λ r way i. use_of_way (ways_of texts) said uses r way (number_in kept i)) said f others
    figures_told f others a =
        let known : (i : ℕ) → i < q.predecessors.blocks
        → number_in kept i < rests.blocks = λ i l. in_list rests.blocks kept below i (omega (arith, l, p.blocks)) in
        figures_as q.predecessors.blocks (ways_valued worths) (ways_of texts)
        (λ way i. worth_valued worths factor way (number_in kept i))
        (λ way i. worth_of_way texts way (number_in kept i))
        (λ r way i. used_valued worths beside r way (number_in kept i))
        (λ r way i. use_of_way (ways_of texts) said uses r way (number_in kept i)) said f others m.2.count
        (λ way i l. m.2.each way (number_in kept i) (known i l))
        (λ r way i low l. used_same texts periods uses worths factor rests beside m pr ur r way (number_in kept i) low
        (known i l)) a

    -- the production of as many blocks as its pairs have
    abbrev part_with : ℕ → Treated
    part_with n = treated_with n (among_kept kept (rests_of texts)) (λ i. worth_by_texts texts (number_in kept i))
        (ways_of texts) (λ way i. worth_of_way texts way (number_in kept i))
        (λ r way i. use_of_way (ways_of texts) said uses r way (number_in kept i)) said

    abbrev Expands : FiguresView → List FiguresView → List ℕ → RestsView → List ℤ → Type 0
    Expands f others prices node_pairs node_worths =
        IsExpanded q.predecessors (ways_valued worths) (λ way i. worth_valued worths factor way (number_in kept i))
        (λ r way i. used_valued worths beside r way (number_in kept i)) said q.waits.pairs f others prices
        node_pairs node_worths

    pairs_among : (i j : ℕ) → among_kept kept (rests_of texts) i j ≡ has_pair q.predecessors.pairs i j
    pairs_among = among_is (rests_of texts) rests.pairs
        (pairs_told texts periods uses worths factor rests beside m pr ur) kept q.predecessors.pairs p.pairs

    -- the net of its nodes
    pub net_of_part : (f : FiguresView) (others : List FiguresView) (prices : List ℕ) (node_pairs : RestsView)
        (node_worths : List ℤ) → (x : Expands f others prices node_pairs node_worths)
        → IsNetOf worth_block (nodes_mine texts periods uses
        (denotes texts periods uses worths factor rests beside m pr ur prices x.prices)
        (Some (record { kept = kept; waits = q.waits.pairs.pairs }))) (node_net node_pairs node_worths)
    net_of_part f others prices node_pairs node_worths x =
        let few = net_same q.predecessors (among_kept kept (rests_of texts))
        (λ i. worth_by_texts texts (number_in kept i)) (ways_of texts)
        (λ way i. worth_of_way texts way (number_in kept i))
        (λ r way i. use_of_way (ways_of texts) said uses r way (number_in kept i)) said prices
        q.waits.pairs f others pairs_among (figures_told f others x.figures) node_pairs node_worths x.pairs x.worths in
        subst (λ (n : ℕ). IsNetOf worth_block
        (treated_nodes (ways_of texts) (part_with n) (priced_by said prices) said.lag q.waits.pairs.pairs)
        (node_net node_pairs node_worths)) p.blocks few

    -- what is told of the nodes of the part
    part_bound : (prices : List ℕ) (bound : ℤ) → PitBound (ways_of texts) (part_with q.predecessors.blocks)
        (priced_by said prices) said.lag q.waits.pairs.pairs bound
        → PitBound (ways_of texts) (treated_part_of whole kept) (priced_by said prices) said.lag q.waits.pairs.pairs
        bound
    part_bound prices bound b = subst
        (λ (n : ℕ). PitBound (ways_of texts) (part_with n) (priced_by said prices) said.lag q.waits.pairs.pairs bound)
        p.blocks b

    bounds_whole : (prices : List ℕ) (bound : ℤ) → PitBound (ways_of texts) (treated_part_of whole kept)
        (priced_by said prices) said.lag q.waits.pairs.pairs bound
        → IsTreatedBound whole said.lag (has_pair beside.waits.pairs) bound
    bounds_whole prices bound b =
        treated_part_bounds whole (slice_index said.weights) kept said.lag beside.waits.pairs q.waits.pairs.pairs
        bound each_weighted (are_falling_weights (ways_of texts) periods said pr) rising below pit.richest
        p.wait_pairs
        (bound_holds (ways_of texts) (treated_part_of whole kept) (priced_by said prices) said.lag q.waits.pairs.pairs
        bound (λ i. refl) b)

    -- it is a bound of this mine and these periods
    pub told_part : (t : BoundJudgement)
        → IsToldOver q.predecessors (ways_valued worths) (λ way i. worth_valued worths factor way (number_in kept i))
        (λ r way i. used_valued worths beside r way (number_in kept i)) said q.waits.pairs t
        → IsToldFor texts periods uses (Some certificate) rests.blocks said beside.waits t
    told_part (told.Bound bound) o =
        let x = o.expanded in
        let few = pit_bound q.predecessors (among_kept kept (rests_of texts))
        (λ i. worth_by_texts texts (number_in kept i)) (ways_of texts)
        (λ way i. worth_of_way texts way (number_in kept i))
        (λ r way i. use_of_way (ways_of texts) said uses r way (number_in kept i)) said o.prices
        q.waits.pairs o.figures o.others pairs_among (figures_told o.figures o.others x.figures) o.node_pairs
        o.node_worths x.pairs x.worths bound o.told in
        let b = part_bound o.prices bound few in (
          record {
            denotes = denotes texts periods uses worths factor rests beside m pr ur o.prices x.prices;
            part = Some (record { kept = kept; waits = q.waits.pairs.pairs });
            over = (pit, p.wait_pairs);
            best = b.best;
            richest = b.richest;
            exact = b.exact;
            holds = bounds_whole o.prices bound b;
          },
          refl,
          refl,
          refl,
        )
    told_part (told.Refused fault) o = tt
