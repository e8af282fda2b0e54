-- What a schedule comes to by figures that were read is what it comes to by the texts.
use Rattle.fixed_worth.proofs.Common.{◌≡◌, ℕ, zero, suc, ◌+◌, ◌*◌, ◌<◌, ℤ, pos, ◌*ℤ◌, Bool, ◌==◌, nat_lt, List, [], ◌∷◌}
use Rattle.fixed_worth.proofs.Common.{◌++◌, length, take, slice_index, refl, sym, ap, ap₂, subst, ◌∙◌, arith, All}
use Rattle.fixed_worth.proofs.Common.{All-head, All-tail, MatchResult, Result, Ok, Err}
use Rattle.ordered_group.specs.Sets.{worth_in, count_in}
use Rattle.ordered_group.proofs.BlockSets.{count_in-same, worth_in-agrees}
use Rattle.prec_file.specs.Rests.{RestsView, IsRests, IsKnown, has_pair}
use Rattle.prec_file.proofs.Pairs.{rests_of_pair, pair_of_rests}
use Rattle.closure_net.proofs.Holding.{same_tests}
use Rattle.mine_inputs.specs.Prelude.{ArePairsBy, MineTexts, rests_of, worth_by_texts}
use Rattle.schedules.specs.Prelude.{Production, by_ways, dug_in, used_in}
use Rattle.production_figures.specs.Figures.{FiguresView, figures_view, production_of, uses_by, value_by}
use Rattle.schedule_value.specs.declared.judging.Judged.{Judged}
use Rattle.schedule_value.specs.declared.usage.Over.{Over}
use Rattle.schedule_value.specs.Prelude.{IsJudged, JudgedView, breaks, broken_pairs, is_over, judged_view, most_told}
use Rattle.schedule_value.specs.Prelude.{over_at, over_if, overs_in_row, overs_in_rows, period_by}
use Rattle.schedule_value.proofs.Feasible.{lagged_iff}
use Rattle.engine_faults.specs.declared.engine_fault.EngineFault.TheVariants as engine
use Rattle.schedule_engines.specs.declared.plan_fault.PeriodsProblem.TheVariants as period_problem
use Rattle.schedule_engines.specs.declared.plan_fault.PlanFault.{PlanFault}
use Rattle.schedule_engines.specs.declared.plan_fault.PlanFault.TheVariants as plan
use Rattle.schedule_engines.specs.Prelude.{IsJudgedOf, IsPlannedOf, IsTreated, IsTreatedFor, JudgeFails, NoJudgement}
use Rattle.schedule_engines.specs.Prelude.{PlannedView, entries_by, figures_of, schedule_by, treated_of, way_by}

-- ---- who rests on whom

pub rests_same : (rests : ℕ → ℕ → Bool) (pairs : List (ℕ × ℕ)) → ArePairsBy rests pairs → (b p : ℕ)
    → rests b p ≡ has_pair pairs b p
rests_same rests pairs are b p = same_tests (rests b p) (has_pair pairs b p)
    (λ h. rests_of_pair pairs b p ((are.same b p).1 h)) (λ h. (are.same b p).0 (pair_of_rests pairs b p h))

-- ---- two schedules that agree below n

breaks_alike : (lag n periods : ℕ) (s t : ℕ → ℕ) (pair : ℕ × ℕ) → ((b : ℕ) → b < n → s b ≡ t b) → IsKnown n pair
    → breaks lag s periods pair ≡ breaks lag t periods pair
breaks_alike lag n periods s t pair f known = rw (f pair.0 known.0, f pair.1 known.1) refl

broken_alike : (lag n periods : ℕ) (s t : ℕ → ℕ) (pairs : List (ℕ × ℕ)) → ((b : ℕ) → b < n → s b ≡ t b)
    → All (IsKnown n) pairs → broken_pairs lag s periods pairs ≡ broken_pairs lag t periods pairs
broken_alike lag n periods s t [] f known = refl
broken_alike lag n periods s t (pair ∷ pairs) f known =
    rw (
      breaks_alike lag n periods s t pair f (All-head (IsKnown n) pair pairs known),
      broken_alike lag n periods s t
          pairs f (All-tail (IsKnown n) pair pairs known),
    ) refl

-- ---- productions whose blocks use the same

over_alike : (p q : Production) (s t : ℕ → ℕ) (r k : ℕ) → used_in p s r k ≡ used_in q t r k
    → p.capacity r k ≡ q.capacity r k
    → over_if (is_over p s r k) (over_at p s r k) ≡ over_if (is_over q t r k) (over_at q t r k)
over_alike p q s t r k e f = rw (e, f) refl

row_alike : (p q : Production) (s t : ℕ → ℕ) (r m : ℕ) → ((k : ℕ) → k < m → used_in p s r k ≡ used_in q t r k)
    → ((k : ℕ) → k < m → p.capacity r k ≡ q.capacity r k)
    → overs_in_row p s r m ≡ overs_in_row q t r m
row_alike p q s t r zero e f = refl
row_alike p q s t r (suc m) e f =
    ap₂ (λ (xs ys : List Over). xs ++ ys)
    (row_alike p q s t r m (λ k l. e k (omega (arith, l))) (λ k l. f k (omega (arith, l))))
    (over_alike p q s t r m (e m (omega arith)) (f m (omega arith)))

rows_alike : (p q : Production) (s t : ℕ → ℕ) (m : ℕ) → p.periods ≡ q.periods
    → ((r k : ℕ) → r < m → used_in p s r k ≡ used_in q t r k) → ((r k : ℕ) → r < m → p.capacity r k ≡ q.capacity r k)
    → overs_in_rows p s m ≡ overs_in_rows q t m
rows_alike p q s t zero same e f = refl
rows_alike p q s t (suc m) same e f =
    ap₂ (λ (xs ys : List Over). xs ++ ys)
    (rows_alike p q s t m same (λ r k l. e r k (omega (arith, l))) (λ r k l. f r k (omega (arith, l))))
    (row_alike p q s t m p.periods (λ k l. e m k (omega arith)) (λ k l. f m k (omega arith))
    ∙ ap (overs_in_row q t m) same)

-- ---- two productions of the same blocks

-- a schedule of figures, and of a production whose blocks are worth and use the same
module _ (rests : RestsView) (nanos : List ℤ) (weights : List ℕ) (resources : ℕ) (used capacities listed : List ℕ)
    (rel : ℕ → ℕ → Bool) (worth : ℕ → ℤ) (value uses : ℕ → ℕ → ℤ) (told : ℕ → ℕ) where
  abbrev pub figured : FiguresView
  figured = figures_view nanos weights resources used capacities

  abbrev pub by_figured : Production
  by_figured = production_of rests.pairs figured

  abbrev pub other : Production
  other = record {
    mine = record { blocks = rests.blocks; rests = rel; worth = worth };
    periods = length weights;
    value = value;
    resources = resources;
    uses = uses;
    capacity = λ r t. pos (slice_index capacities (r * length weights + t) * 1000000);
  }

  module _ (size : length nanos ≡ rests.blocks) (periods : (b : ℕ) → b < rests.blocks → period_by listed b ≡ told b)
      (values : (b : ℕ) → b < rests.blocks → value_by figured b (period_by listed b) ≡ value b (told b))
      (amounts : (r b : ℕ) → r < resources → b < rests.blocks → uses_by figured r b ≡ uses r b) where
    used_alike : (r k : ℕ) → r < resources → used_in by_figured (period_by listed) r k ≡ used_in other told r k
    used_alike r k known =
        ap (worth_in (uses_by figured r) (dug_in (period_by listed) k)) size
        ∙ worth_in-agrees (uses_by figured r) (uses r) (dug_in (period_by listed) k) (dug_in told k) rests.blocks
        (λ b l. amounts r b known l) (λ b l. ap (λ (t : ℕ). t == k) (periods b l))

    pub judged_alike : IsRests rests → (lags : RestsView) → All (IsKnown rests.blocks) lags.pairs
        → ((b p : ℕ) → rel b p ≡ has_pair rests.pairs b p) → (lag : ℕ) → (v : JudgedView)
        → IsJudged by_figured (period_by listed) rests.pairs lag lags.pairs v
        → IsJudged other told rests.pairs lag lags.pairs v
    judged_alike known lags waiting same lag v j =
        let T = length weights in
        let n = rests.blocks in
        let dug : (b : ℕ) → b < n → nat_lt (period_by listed b) T ≡ nat_lt (told b) T = λ b l. ap
        (λ (t : ℕ). nat_lt t T) (periods b l) in
        let pairs : broken_pairs 0 (period_by listed) T rests.pairs ≡ broken_pairs 0 told T rests.pairs = broken_alike
        0 n T (period_by listed) told rests.pairs periods known.known in
        let soon : broken_pairs lag (period_by listed) T lags.pairs ≡ broken_pairs lag told T lags.pairs =
        broken_alike lag n T (period_by listed) told lags.pairs periods waiting in
        let all : v.broken ≡ length (broken_pairs 0 told T rests.pairs) = j.broken.all ∙ ap length pairs in
        let early : v.early ≡ length (broken_pairs lag told T lags.pairs) = j.early.all ∙ ap length soon in
        let over : v.over ≡ overs_in_rows other told resources = j.over
        ∙ rows_alike by_figured other (period_by listed) told resources refl (λ r k l. used_alike r k l)
        (λ r k l. refl) in
        let iff = lagged_iff other rests.pairs same told lag lags.pairs in
        record {
          count = j.count ∙ ap (count_in (λ b. nat_lt (period_by listed b) T)) size
              ∙ count_in-same (λ b. nat_lt (period_by listed b) T) (λ b. nat_lt (told b) T) n dug;
          npv = j.npv ∙ ap (worth_in (λ b. value_by figured b (period_by listed b))
              (λ b. nat_lt (period_by listed b) T)) size
              ∙ worth_in-agrees (λ b. value_by figured b (period_by listed b)) (λ b. value b (told b))
              (λ b. nat_lt (period_by listed b) T) (λ b. nat_lt (told b) T) n values dug;
          broken = record { all = all; first = j.broken.first ∙ ap (take most_told) pairs };
          early = record { all = early; first = j.early.first ∙ ap (take most_told) soon };
          over = over;
          feasible = (
            λ x. iff.0 (sym all ∙ x.0, sym early ∙ x.1, sym over ∙ x.2),
            λ h. let x = iff.1 h in
                (all ∙ x.0, early ∙ x.1, over ∙ x.2),
          );
        }

-- ---- a schedule over a mine whose blocks go ways

module _ (texts : MineTexts) (periods uses text : List ℕ) (q : PlannedView)
    (is : IsPlannedOf texts periods uses text q) where
  abbrev ways : ℕ → ℕ
  ways = way_by texts (entries_by texts q.periods text)

  abbrev treated : Production
  treated = by_ways (treated_of texts q.predecessors.blocks q.periods uses) ways

  -- what was planned comes to by the texts
  pub treated_as : (v : JudgedView) → IsJudgedOf q v → IsTreated texts periods uses text v
  treated_as v j =
      let said = q.periods in
      let n = q.predecessors.blocks in
      let told = schedule_by texts said text in
      let nanos = q.nanos in
      let figures = figures_of q in
      let values : (b : ℕ) → b < n → value_by figures b (period_by q.schedule b) ≡ treated.value b (told b) = λ b l.
      ap₂ (λ (w : ℤ) (t : ℕ). w *ℤ pos (slice_index said.weights t)) (is.worths b l) (is.dug b l) in
      let amounts : (r b : ℕ) → r < length said.shared → b < n
      → uses_by figures r b ≡ treated.uses r b = λ r b known l. ap
      (λ (k : ℕ). pos (slice_index q.uses (r * k + b))) is.valued ∙ is.amounts r b known l in
      record {
        count = n;
        mine = is.mine;
        said = said;
        read = is.read;
        used = is.listed;
        waits = q.waits;
        uses_read = is.uses_read;
        schedule_within = is.schedule_read.0;
        schedule_read = is.schedule_read.1;
        pairs = q.predecessors.pairs;
        are = is.pairs;
        judged = judged_alike q.predecessors nanos said.weights (length said.shared) q.uses said.capacities q.schedule
            (rests_of texts) (worth_by_texts texts) treated.value treated.uses told
            is.valued is.dug values amounts j.0 q.waits
            (subst (λ (k : ℕ). All (IsKnown k) q.waits.pairs) is.uses_read.waiting.waiting.blocks j.1.known)
            (rests_same (rests_of texts) q.predecessors.pairs is.pairs) said.lag v j.2;
      }

  pub not_judged : (e : PlanFault) → JudgeFails q e → NoJudgement texts periods uses text e
  not_judged (plan.Engine engine.Memory) h = tt
  not_judged (plan.Engine (engine.Model fault)) h = absurd
      (h (is.valued, is.scheduled, is.uses_read.waiting.waiting.blocks))
  not_judged (plan.Periods period_problem.TooLarge) h = record {
    count = q.predecessors.blocks;
    mine = is.mine;
    said = q.periods;
    read = is.read;
    listed = is.listed;
    lags = q.waits;
    uses_read = is.uses_read;
    schedule_within = is.schedule_read.0;
    schedule_read = is.schedule_read.1;
    nanos = q.nanos;
    used = q.uses;
    size = is.valued;
    worths = is.worths;
    as_many = is.as_many;
    amounts = is.amounts;
    leave = h;
  }
  not_judged _ h = absurd h

  -- so it is told of what was planned
  pub judged_told : (r : Result Judged PlanFault) → MatchResult r (λ j. IsJudgedOf q (judged_view j)) (JudgeFails q)
      → MatchResult r (λ j. IsTreatedFor texts periods uses text q.predecessors.blocks q.periods q.waits
      (judged_view j)) (NoJudgement texts periods uses text)
  unfolding treated_as
  judged_told (Ok j) h = (treated_as (judged_view j) h, refl, refl, refl)
  judged_told (Err e) h = not_judged e h
