-- From the ways that are chosen of what was read to those of the texts.
use Rattle.fixed_worth.proofs.Common.{◌≡◌, ℕ, ◌+◌, ◌*◌, ◌/◌, ◌%◌, ◌<◌, ℤ, pos, List, length, get_or, slice_index}
use Rattle.fixed_worth.proofs.Common.{unwrap_or, ap, ap₂, ◌∙◌, arith, div-mul-add, get_or_default, get_or-map}
use Rattle.fixed_worth.proofs.Common.{length-map}
use Rattle.std.proofs.lemmas.Nat.{mod-mul-add}
use Rattle.prec_file.specs.Rests.{RestsView}
use Rattle.mine_inputs.specs.declared.worths.Worths.{Worths}
use Rattle.mine_inputs.specs.Prelude.{IsMineRead, MineTexts, ways_of, ways_valued, worth_valued}
use Rattle.periods_file.specs.Periods.{PeriodsView, periods_view}
use Rattle.schedule_file.specs.Records.{no_entry}
use Rattle.schedule_file.specs.declared.entry.Entry.{Entry}
use Rattle.schedule_value.specs.Prelude.{period_by}
use Rattle.schedule_engines.specs.declared.plan_read.PlanRead.{PlanRead}
use Rattle.schedule_engines.specs.Prelude.{AreChosen, IsPlanRead, IsPlannedBy, IsPlannedOf, amount_by, entries_by}
use Rattle.schedule_engines.specs.Prelude.{planned_as, schedule_by, use_of_way, way_by, way_chosen}
use Rattle.schedule_engines.proofs.UsesRead.{in_rows}
use Rattle.schedule_engines.proofs.WayUsesRead.{amount_same}

module _ (texts : MineTexts) (factor : ℕ) (worths : Worths) (rests : RestsView) (read : PlanRead) (nanos : List ℤ)
    (used schedule : List ℕ) (p u s : List ℕ)
    (m : IsMineRead texts factor worths rests) (r : IsPlanRead rests.blocks (ways_of texts) read p u s)
    (a : AreChosen worths factor rests.blocks read nanos used schedule) where
  abbrev said : PeriodsView
  said = periods_view read.periods

  entry_same : (b : ℕ) → b < rests.blocks → get_or read.entries.items b (no_entry 0) ≡ entries_by texts said s b
  entry_same b l = get_or_default read.entries.items b (no_entry 0) (no_entry (length said.weights))
      (omega (arith, l, r.2.2.size)) ∙ r.2.2.at b l

  way_same : (b : ℕ) → b < rests.blocks → way_chosen worths factor read.entries.items b ≡ way_by texts
      (entries_by texts said s) b
  way_same b l = ap₂ (λ (e : Entry) (k : ℕ). unwrap_or e.way k) (entry_same b l) (m.2.most b l)

  amounts : (k b : ℕ) → k < length said.shared → b < rests.blocks
      → pos (slice_index used (k * rests.blocks + b)) ≡ use_of_way (ways_of texts) said u k
      (way_by texts (entries_by texts said s) b) b
  amounts k b known l =
      let n = rests.blocks in
      let row : (k * n + b) / n ≡ k = div-mul-add k n b l in
      let place : (k * n + b) % n ≡ b = mod-mul-add k n b l in
      let way = way_by texts (entries_by texts said s) in
      let f : ℕ → ℕ → ℕ = λ i j. amount_by read.uses.items read.periods.shared.items (ways_valued worths) n i
      (way_chosen worths factor read.entries.items j) j in
      let here : slice_index used (k * n + b) ≡ f k b = a.amounts (k * n + b)
      (in_rows k b n (length said.shared) known l) ∙ ap₂ f row place in
      ap (λ (x : ℕ). pos x) (here
      ∙ ap (λ (w : ℕ). amount_by read.uses.items read.periods.shared.items (ways_valued worths) n k w b)
      (way_same b l) ∙ ap (λ (x : ℕ). amount_by read.uses.items read.periods.shared.items x n k (way b) b)
      m.2.count)
      ∙ amount_same n (ways_of texts) said u read.uses.items read.waits r.1 k (way b) b known l

  dug_same : (b : ℕ) → b < rests.blocks → period_by schedule b ≡ schedule_by texts said s b
  dug_same b l =
      ap (λ (xs : List ℕ). get_or xs b 0) a.dug ∙ get_or-map (λ (e : Entry). e.period) read.entries.items b
      (no_entry 0) 0 (omega (arith, l, r.2.2.size)) ∙ ap (λ (e : Entry). e.period) (entry_same b l)

  by_read : IsPlannedBy texts p u s rests said read.waits nanos used schedule
  by_read = record {
    mine = m.0.mine;
    pairs = m.0.pairs;
    read = r.0;
    listed = read.uses.items;
    uses_read = r.1;
    entries = read.entries.items;
    schedule_read = r.2;
    valued = a.valued;
    worths = λ b l. a.each b l ∙ ap (λ (w : ℕ). worth_valued worths factor w b) (way_same b l)
        ∙ m.2.each (way_by texts (entries_by texts said s) b) b l;
    as_many = a.as_many;
    amounts = amounts;
    scheduled = ap length a.dug ∙ length-map read.entries.items (λ (e : Entry). e.period) ∙ r.2.2.size;
    dug = dug_same;
  }

  pub planned : IsPlannedOf texts p u s (planned_as rests read nanos used schedule)
  planned = by_read
