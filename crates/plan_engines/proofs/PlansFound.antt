-- From what is written for what was to be solved to what is written for the texts.
use Rattle.fixed_worth.proofs.Common.{◌≡◌, ◌∙◌, ℕ, List, sym, subst, Option, Some, None, Result, Err, inl, inr, IfSome}
use Rattle.std.specs.Io.KnownBytes.{Keeps}
use Rattle.prec_file.specs.Rests.{RestsView}
use Rattle.closure_net.specs.Prelude.{IsNet}
use Rattle.certificate_file.specs.declared.header.Price.{Price}
use Rattle.check_engines.specs.declared.judgement.Verdict.{Verdict}
use Rattle.option_words.specs.declared.method.Method.{Method}
use Rattle.mine_inputs.specs.declared.worths.Worths.{Worths}
use Rattle.mine_inputs.specs.Prelude.{IsMineRead, MineTexts, price_wanted, ways_of}
use Rattle.mine_inputs.proofs.MineDevices.{always, under}
use Rattle.periods_file.specs.Periods.{periods_view}
use Rattle.schedule_engines.specs.Prelude.{ReadsPeriodsBy, ReadsWayUses}
use Rattle.planned_mine.specs.declared.bound_fault.BoundFault.{BoundFault}
use Rattle.planned_mine.specs.declared.bound_inputs.BesideRead.{BesideRead}
use Rattle.planned_mine.specs.declared.planned.Figured.{Figured}
use Rattle.plan_engines.specs.declared.plan_within.ToSolve.{ToSolve}
use Rattle.plan_engines.specs.declared.plan_within.ToSolve.TheVariants as solve
use Rattle.bound_engines.specs.Prelude.{ForPit, IsPart, IsPitOf, node_net}
use Rattle.plan_engines.specs.Prelude.{IsPartPlan, IsPlanNet, IsToSolve, IsWholePlan, SolvesFound, SolvesNodes}
use Rattle.plan_engines.specs.Prelude.{SolvesPlan, SolvesPlanned}
use Rattle.bound_engines.proofs.PitsTold.{at_price}
use Rattle.plan_engines.proofs.PlanNets.{net_of_plan, net_within}
use Rattle.plan_engines.proofs.PlanSolved.{kept_back, solved}

module _ (worths : Worths) (rests : RestsView) (beside : BesideRead) (factor : ℕ) (method : Method) (limit : ℕ)
    (old new : Option (List ℕ)) (result : Result Verdict BoundFault) where
  -- what holds of all texts of what was read
  abbrev pub Solves : Option (List ℕ) → Type 0
  Solves o = (texts : MineTexts) (p u : List ℕ) → IsMineRead texts factor worths rests
      → ReadsPeriodsBy (ways_of texts) p (periods_view beside.periods)
      → ReadsWayUses rests.blocks (ways_of texts) (periods_view beside.periods) u beside.uses.items beside.waits
      → SolvesPlan texts p u o method limit old new result

  at_fault : (texts : MineTexts) (p u : List ℕ) (o : Option (List ℕ)) (e : BoundFault) → result ≡ Err e
      → Keeps old new → SolvesPlan texts p u o method limit old new result
  at_fault texts p u o e is k = subst
      (λ (r : Result Verdict BoundFault). SolvesPlan texts p u o method limit old new r) (sym is)
      (kept_back texts p u o method limit old new e k)

  whole_found : (q : Figured) (price : Price) → IsWholePlan worths rests beside factor (solve.Plan q price)
      → SolvesPlanned q price method limit old new result → Solves None
  whole_found q price is (inl h) texts p u read pr ur =
      let by : IsNet (node_net h.3 h.4) → IsPlanNet texts p u None (node_net h.3 h.4) = λ net. net_of_plan texts p u
      worths factor rests beside read pr ur q h.0 h.1 h.2 h.3 h.4 h.5 net is.0 in
      let P : Price → Type 0 = λ k. SolvesNodes k h.3 h.4 method limit old new result in
      solved texts p u None method limit h.3 h.4 by old new result (subst P (is.1 ∙ read.1) h.6)
  whole_found q price is (inr h) texts p u read pr ur = at_fault texts p u None h.0 h.1 h.2

  part_solved : (o : Option (List ℕ)) (named : ℕ) (q : Figured) (price : Price)
      (part : IsPart o worths rests beside named q) → SolvesPlanned q price method limit old new result
      → (c : List ℕ) (texts : MineTexts) (p u : List ℕ) → IsPitOf texts rests.blocks c part.kept
      → IsMineRead texts named worths rests → ReadsPeriodsBy (ways_of texts) p (periods_view beside.periods)
      → ReadsWayUses rests.blocks (ways_of texts) (periods_view beside.periods) u beside.uses.items beside.waits
      → price ≡ price_wanted texts → SolvesPlan texts p u (Some c) method limit old new result
  part_solved o named q price part (inl h) c texts p u pit read pr ur at =
      let by : IsNet (node_net h.3 h.4) → IsPlanNet texts p u (Some c) (node_net h.3 h.4) = λ net. net_within texts p
      u worths named rests beside read pr ur q h.0 h.1 h.2 h.3 h.4 h.5 net c part.kept part.ascending part.below
      pit part.part in
      let P : Price → Type 0 = λ k. SolvesNodes k h.3 h.4 method limit old new result in
      solved texts p u (Some c) method limit h.3 h.4 by old new result (subst P at h.6)
  part_solved o named q price part (inr h) c texts p u pit read pr ur at = at_fault texts p u (Some c) h.0 h.1 h.2

  part_found : (o : Option (List ℕ)) (q : Figured) (price : Price)
      → IsPartPlan o worths rests beside factor (solve.Plan q price)
      → SolvesPlanned q price method limit old new result → IfSome o (λ c. Solves (Some c))
  part_found o q price is h =
      let named = is.0 in
      let part = is.1 in
      under o (λ c. (texts : MineTexts) → IsMineRead texts named worths rests
      → IsPitOf texts rests.blocks c part.kept) (λ c. Solves (Some c)) part.pit (λ c proves texts p u read pr ur.
      let here = at_price texts worths rests named factor is.2 read in
      part_solved o named q price part h c texts p u (proves texts here) here pr ur (is.3 ∙ read.1))

  pub found : {D : Type 0} (pit : Option D) (remaining : D → Option (List ℕ)) (t : ToSolve)
      → IsToSolve pit remaining worths rests beside factor t → SolvesFound t method limit old new result
      → ForPit pit remaining Solves
  found None remaining (solve.Plan q price) is h = whole_found q price is h
  found None remaining (solve.NoPit fault) is h = absurd is
  found (Some device) remaining (solve.Plan q price) is h = part_found (remaining device) q price is h
  found (Some device) remaining (solve.NoPit fault) is h = always (remaining device) (λ c. Solves (Some c))
      (λ c texts p u read pr ur. h texts p u (Some c) tt)
