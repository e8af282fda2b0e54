-- From what is written for the net of nodes to what is written for the texts.
use Rattle.fixed_worth.proofs.Common.{◌≡◌, ◌∙◌, refl, ℕ, ℤ, false, List, map, ap₂, Option, Result, Ok, Err, inl, inr}
use Rattle.ordered_group.specs.Prelude.{worth_block}
use Rattle.ordered_group.specs.declared.groups.Group.TheVariants.{Worth}
use Rattle.prec_file.specs.Rests.{RestsView}
use Rattle.closure_net.specs.Prelude.{NetView, IsNet, holds_of, net_view}
use Rattle.closure_net.proofs.NetSums.{greatest_is_richest}
use Rattle.certificate_file.specs.declared.header.Price.{Price}
use Rattle.check_pit.specs.declared.pit_fault.PitFault.{PitFault}
use Rattle.check_pit.proofs.Duality.{duality}
use Rattle.std.specs.Io.KnownBytes.{Appends, Keeps}
use Rattle.check_engines.specs.declared.judgement.Verdict.{Verdict}
use Rattle.check_engines.specs.declared.judgement.Verdict.TheVariants.{Done, No}
use Rattle.option_words.specs.declared.method.Method.{Method}
use Rattle.check_engines.specs.declared.judgement.Judgement.TheVariants.{Refused}
use Rattle.check_engines.specs.Prelude.{LineFails, judgement_line}
use Rattle.solve_engines.specs.Prelude.{AnswersNet, IsCertificateOf, SolvesNet}
use Rattle.engine_faults.specs.declared.engine_fault.EngineFault.{EngineFault}
use Rattle.engine_faults.specs.declared.engine_fault.EngineFault.TheVariants as engine
use Rattle.mine_inputs.specs.Prelude.{MineTexts, price_wanted}
use Rattle.schedule_engines.specs.declared.plan_fault.PlanFault.TheVariants as plan
use Rattle.planned_mine.specs.declared.bound_fault.BoundFault.{BoundFault}
use Rattle.planned_mine.specs.declared.bound_fault.BoundFault.TheVariants as bound
use Rattle.bound_engines.specs.Prelude.{IsGiven, node_net, nodes_mine}
use Rattle.plan_engines.specs.Prelude.{AnswersPlan, IsPlanCertificate, IsPlanNet, SolvesNodes, SolvesPlan}
use Rattle.bound_engines.proofs.Answered.{keeps_self}

-- ---- the net of nodes

pub net_is : (pairs rests : RestsView) (worths listed : List ℤ) (net : NetView) → rests ≡ pairs → listed ≡ worths
    → net ≡ net_view rests.pairs (map (λ v. worth_block v rests.blocks) listed) → net ≡ node_net pairs worths
net_is pairs rests worths listed net same is e = e ∙ ap₂ (λ (r : RestsView) (l : List ℤ). node_net r l) same is

module _ (price : Price) (pairs : RestsView) (worths : List ℤ) (method : Method) (limit : ℕ)
    (old new : Option (List ℕ)) where
  pub sent : (e : EngineFault) → IsNet (node_net pairs worths)
      → SolvesNet false Worth price (node_net pairs worths) method limit old new (Err e)
      → SolvesNodes price pairs worths method limit old new (Err (bound.Plan (plan.Engine e)))
  sent engine.Memory n h = h
  sent engine.Thread n h = h
  sent engine.Stranger n h = h
  sent engine.Device n h = (n, h)
  sent _ n h = absurd h

-- ---- the texts

module _ (texts : MineTexts) (periods uses : List ℕ) (pit : Option (List ℕ)) (method : Method) (limit : ℕ) where
  certificate_is : (net : NetView) → IsPlanNet texts periods uses pit net → (text : List ℕ)
      → IsCertificateOf false Worth (price_wanted texts) net text → IsPlanCertificate texts periods uses pit text
  certificate_is net by text c =
      let mine = nodes_mine texts periods uses by.denotes by.part in
      let greatest = (duality net c.flow (holds_of c.pit) by.is_net.rests c.sound.proves.is_flow c.sound.proves.closed
      c.sound.proves.tight).greatest_set in
      record {
        net = net;
        by = by;
        certificate = c;
        richest = greatest_is_richest mine net (holds_of c.pit) by.of_nodes greatest;
      }

  answers : (net : NetView) → IsPlanNet texts periods uses pit net → (verdict : Verdict) (text : List ℕ)
      → AnswersNet false Worth (price_wanted texts) net method limit verdict text
      → AnswersPlan texts periods uses pit method limit verdict text
  answers net by Done text h = certificate_is net by text h
  answers net by No text h = inl (net, by, h)

  -- nothing was written: so it is at any fault
  pub unsolved : (w : Option (List ℕ)) (e : BoundFault) → SolvesPlan texts periods uses pit method limit w w (Err e)
  unsolved w (bound.Plan (plan.Engine engine.Device)) = inl (keeps_self w)
  unsolved w e = keeps_self w

  -- nothing was written at this fault
  pub kept_back : (old new : Option (List ℕ)) (e : BoundFault) → Keeps old new
      → SolvesPlan texts periods uses pit method limit old new (Err e)
  kept_back old new (bound.Plan (plan.Engine engine.Device)) h = inl h
  kept_back old new e h = h

  pub solved : (pairs : RestsView) (worths : List ℤ)
      → (IsNet (node_net pairs worths) → IsPlanNet texts periods uses pit (node_net pairs worths))
      → (old new : Option (List ℕ)) (result : Result Verdict BoundFault)
      → SolvesNodes (price_wanted texts) pairs worths method limit old new result
      → SolvesPlan texts periods uses pit method limit old new result
  solved pairs worths by old new (Ok verdict) h =
      (h.1.0, answers (node_net pairs worths) (by h.0) verdict h.1.0 h.1.1, h.1.2)
  solved pairs worths by old new (Err (bound.Plan (plan.Engine engine.Device))) h = inr
      (inl (node_net pairs worths, by h.0, h.1.0, h.1.1, h.1.2))
  solved pairs worths by old new (Err e) h = h

-- the line of a pit that is refused
pub no_pit : (texts : MineTexts) (periods uses : List ℕ) (pit : Option (List ℕ)) (method : Method) (limit : ℕ)
    → IsGiven pit → (fault : PitFault) (old new : Option (List ℕ)) → Appends old new (judgement_line (Refused fault))
    → SolvesPlan texts periods uses pit method limit old new (Ok No)
no_pit texts periods uses pit method limit given fault old new h =
    (judgement_line (Refused fault), inr (given, fault, refl), h)

pub no_pit_front : (texts : MineTexts) (periods uses : List ℕ) (pit : Option (List ℕ)) (method : Method) (limit : ℕ)
    → IsGiven pit → (fault : PitFault) (e : EngineFault) (old new : Option (List ℕ))
    → LineFails old new (judgement_line (Refused fault)) e → SolvesPlan texts periods uses pit method limit old new
    (Err (bound.Plan (plan.Engine e)))
no_pit_front texts periods uses pit method limit given fault engine.Memory old new h = h
no_pit_front texts periods uses pit method limit given fault engine.Device old new h = inr
    (inr (judgement_line (Refused fault), (given, fault, refl), h))
no_pit_front texts periods uses pit method limit given fault _ old new h = absurd h
