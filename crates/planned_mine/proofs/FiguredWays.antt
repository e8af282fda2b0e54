-- The figures of some blocks, way by way.
use Rattle.fixed_worth.proofs.Common.{◌≡◌, ℕ, zero, suc, ◌+◌, ◌*◌, ◌/◌, ◌%◌, ◌<◌, ℤ, pos, List, [], ◌∷◌, ◌++◌, All}
use Rattle.fixed_worth.proofs.Common.{length, get_or, slice_index, slice_index_or, refl, sym, ap, ap₂, subst, ◌∙◌}
use Rattle.fixed_worth.proofs.Common.{arith, add-one, div-mul-add, inl, inr, cases_lt, length-append}
use Rattle.fixed_worth.proofs.Common.{get_or_append_left, get_or_default, get_or_push}
use Rattle.std.proofs.lemmas.Nat.{mod-mul-add}
use Rattle.mine_inputs.specs.declared.worths.Worths.{Worths}
use Rattle.mine_inputs.specs.Prelude.{blocks_valued, ways_valued, worth_valued}
use Rattle.periods_file.specs.Periods.{PeriodsView, periods_view}
use Rattle.production_figures.specs.Figures.{FiguresView, figures_view}
use Rattle.expanded_mine.specs.Prelude.{IsWayOf, figures_by}
use Rattle.sub_mines.specs.Renumbered.{number_in}
use Rattle.schedule_engines.specs.Prelude.{AreListed, amount_by}
use Rattle.schedule_engines.proofs.UsesRead.{in_rows}
use Rattle.planned_mine.specs.declared.bound_inputs.BesideRead.{BesideRead}
use Rattle.planned_mine.specs.Prelude.{AreWayFigures, IsFiguresBy, used_valued}

-- ---- by one way

pub figures_are : (worths : Worths) (factor way : ℕ) (beside : BesideRead) (kept : List ℕ) (nanos : List ℤ)
    (used : List ℕ) (f : FiguresView)
    → f ≡ figures_view nanos beside.periods.weights.items (length beside.periods.shared.items) used
    beside.periods.capacities.items
    → (length nanos ≡ length kept)
    × ((i : ℕ) → i < length kept → slice_index_or nanos i (pos 0) ≡ worth_valued worths factor way
    (slice_index kept i))
    → AreListed (length beside.periods.shared.items * length kept)
    (λ i. amount_by beside.uses.items beside.periods.shared.items (ways_valued worths) (blocks_valued worths)
    (i / length kept) way (slice_index kept (i % length kept))) used
    → IsFiguresBy (length kept) (periods_view beside.periods) (λ i. worth_valued worths factor way (number_in kept i))
    (λ r i. used_valued worths beside r way (number_in kept i)) f
figures_are worths factor way beside kept nanos used f is w u =
    let said = periods_view beside.periods in
    let m = length kept in
    let P : FiguresView → Type 0 = λ g. IsFiguresBy m said (λ i. worth_valued worths factor way (number_in kept i))
    (λ r i. used_valued worths beside r way (number_in kept i)) g in
    let a : ℕ → ℕ → ℕ = λ r b. amount_by beside.uses.items beside.periods.shared.items (ways_valued worths)
    (blocks_valued worths) r way (slice_index kept b) in
    subst P (sym is) (record {
      blocks = w.0;
      weights = refl;
      resources = refl;
      capacities = refl;
      worths = w.1;
      uses = λ r b known l.
          let row : (r * m + b) / m ≡ r = div-mul-add r m b l in
          let place : (r * m + b) % m ≡ b = mod-mul-add r m b l in
          ap (λ (k : ℕ). pos (slice_index used (r * k + b))) w.0
          ∙ ap (λ (k : ℕ). pos k) (u.at (r * m + b) (in_rows r b m (length beside.periods.shared.items) known l)
          ∙ ap₂ a row place);
    })

-- ---- by each

-- those of one way more
pub way_pushed : (P : ℕ → FiguresView → Type 0) (n : ℕ) (xs ys : List FiguresView) (y : FiguresView) → length xs ≡ n
    → ys ≡ xs ++ y ∷ [] → P n y → ((k : ℕ) (g : FiguresView) → k < n → P k (get_or xs k g))
    → (length ys ≡ n + 1) × ((k : ℕ) (g : FiguresView) → k < n + 1 → P k (get_or ys k g))
way_pushed P n xs ys y size is last before = (
  omega (arith, ap length is, length-append xs (y ∷ []), size),
  λ k g l. subst (λ (zs : List FiguresView). P k (get_or zs k g)) (sym is) (elim (cases_lt k n) [
    | inl less ↦ subst (P k) (sym (get_or_append_left xs (y ∷ []) g k (omega (arith, less, size)))) (before k g less)
    | inr past ↦
        let same : n ≡ k = omega (arith, l, past) in
        subst (P k) (sym (get_or_push xs y g k (size ∙ same))) (subst (λ (j : ℕ). P j y) same last)
  ]),
)

module _ (n ways : ℕ) (worth : ℕ → ℕ → ℤ) (used : ℕ → ℕ → ℕ → ℤ) (said : PeriodsView) (f : FiguresView)
    (others : List FiguresView) where
  abbrev By : ℕ → FiguresView → Type 0
  By way g = IsFiguresBy n said (worth way) (λ r b. used r way b) g

  -- the first, and the others after it
  pub ways_are : length others ≡ ways → By 0 f
      → ((k : ℕ) (g : FiguresView) → k < length others → By (k + 1) (get_or others k g))
      → AreWayFigures n ways worth used said f others
  ways_are count first rest = record {
    count = count;
    each = each;
  }
    where
      each : (way : ℕ) → way < ways + 1 → By way (figures_by f others way)
      each zero l = first
      each (suc k) l = subst (λ (j : ℕ). By j (get_or others k f)) (add-one k) (rest k f (omega (arith, l, count)))

  -- they are of the same blocks, over the same periods
  pub ways_alike : AreWayFigures n ways worth used said f others → All (IsWayOf f) others
  ways_alike a = λ k g l.
      let first = a.each 0 (omega arith) in
      let one = a.each (suc k) (omega (arith, l, a.count)) in
      subst (IsWayOf f) (get_or_default others k f g l)
      (record {
        blocks = one.blocks ∙ sym first.blocks;
        periods = one.weights
            ∙ sym first.weights;
        resources = one.resources ∙ sym first.resources;
      })

-- ---- all blocks

-- the figures of all blocks, listed in their order
pub whole_figures : (n m ways : ℕ) (worth : ℕ → ℕ → ℤ) (used : ℕ → ℕ → ℕ → ℤ) (said : PeriodsView) (kept : List ℕ)
    (f : FiguresView) (others : List FiguresView) → AreListed m (λ b. b) kept → m ≡ n
    → AreWayFigures (length kept) ways (λ way i. worth way (number_in kept i))
    (λ r way i. used r way (number_in kept i)) said f others → AreWayFigures n ways worth used said f others
whole_figures n m ways worth used said kept f others all size a =
    let same : length kept ≡ n = all.size ∙ size in
    record {
      count = a.count;
      each = λ way l.
          let x = a.each way l in
          record {
            blocks = x.blocks ∙ same;
            weights = x.weights;
            resources = x.resources;
            capacities = x.capacities;
            worths = λ b k. x.worths b (omega (arith, k, same))
                ∙ ap (λ (i : ℕ). worth way i) (all.at b (omega (arith, k, size)));
            uses = λ r b known k. x.uses r b known (omega (arith, k, same))
                ∙ ap (λ (i : ℕ). used r way i) (all.at b (omega (arith, k, size)));
          };
    }

-- they are known
pub all_known : (n m k : ℕ) (kept : List ℕ) → AreListed m (λ b. b) kept → m ≡ n → k ≡ n → All (λ b. b < k) kept
all_known n m k kept all size count = λ i d l.
    let low : i < m = omega (arith, l, all.size) in
    let is : get_or kept i d ≡ i = get_or_default kept i d 0 l ∙ all.at i low in
    omega (arith, is, low, size, count)
