-- What `solve` over periods answers and writes: a certificate of the expanded mine, or a line that says why there is
-- none.
use Rattle.std.specs.Prelude.{◌≡◌, ◌⊎◌, ℕ, ℤ, false, List, Option, Result, Ok, Err}
use Rattle.std.specs.Io.KnownBytes.{Appends, Keeps}
use Rattle.counted_devices.specs.Device.{ReceivedPrefix}
use Rattle.ordered_group.specs.Prelude.{worth_block}
use Rattle.ordered_group.specs.declared.groups.Group.TheVariants.{Worth}
use Rattle.prec_file.specs.Rests.{RestsView}
use Rattle.closure_net.specs.Prelude.{NetView, IsNet, IsNetOf, IsRichest, holds_of}
use Rattle.certificate_file.specs.declared.header.Price.{Price}
use Rattle.check_pit.specs.declared.pit_fault.PitFault.{PitFault}
use Rattle.check_engines.specs.declared.judgement.Verdict.{Verdict}
use Rattle.check_engines.specs.declared.judgement.Verdict.TheVariants.{Done, No}
use Rattle.option_words.specs.declared.method.Method.{Method}
use Rattle.check_engines.specs.declared.judgement.Judgement.TheVariants.{Refused}
use Rattle.check_engines.specs.Prelude.{judgement_line}
use Rattle.solve_engines.specs.Prelude.{IsCertificateOf, IsDueFor, IsNoOf, SolvesNet}
use Rattle.periods_file.specs.Periods.{PeriodsView}
use Rattle.production_figures.specs.Figures.{FiguresView}
use Rattle.engine_faults.specs.declared.engine_fault.EngineFault.TheVariants as engine
use Rattle.mine_inputs.specs.Prelude.{MineTexts, price_wanted}
use Rattle.schedule_engines.specs.declared.plan_fault.PlanFault.TheVariants as plan
use Rattle.planned_mine.specs.declared.bound_fault.BoundFault.{BoundFault}
use Rattle.planned_mine.specs.declared.bound_fault.BoundFault.TheVariants as bound
use Rattle.planned_mine.specs.declared.planned.Figured.{Figured}
use Rattle.planned_mine.specs.Prelude.{IsExpanded, IsFigured}
use Rattle.bound_engines.specs.Prelude.{DenotePlan, IsGiven, IsPartBy, PartView, node_net, nodes_mine}
use Rattle.plan_engines.specs.declared.plan_within.ToSolve.{ToSolve}
use Rattle.plan_engines.specs.declared.plan_within.ToSolve.TheVariants as solve

-- ---- nodes

-- what is written for the net of nodes with these pairs and worths; nothing where it can't be made or memory or a
-- thread is wanted
abbrev pub SolvesNodes : Price → RestsView → List ℤ → Method → ℕ → Option (List ℕ) → Option (List ℕ)
    → Result Verdict BoundFault → Type 0
SolvesNodes price pairs worths method limit old new (Ok verdict) = IsNet (node_net pairs worths)
    × SolvesNet false Worth price (node_net pairs worths) method limit old new (Ok verdict)
SolvesNodes price pairs worths method limit old new (Err (bound.Plan (plan.Engine engine.Device))) = IsNet
    (node_net pairs worths) × SolvesNet false Worth price (node_net pairs worths) method limit old new
    (Err engine.Device)
SolvesNodes price pairs worths method limit old new (Err fault) = Keeps old new

-- these are the nodes of figures, whatever they are figures of
abbrev pub AreNodesOf : Figured → FiguresView → List FiguresView → List ℕ → RestsView → List ℤ → Type 0
AreNodesOf q f others prices pairs worths = (rests : RestsView) (ways : ℕ) (worth : ℕ → ℕ → ℤ) (used : ℕ → ℕ → ℕ → ℤ)
    (said : PeriodsView) (waits : RestsView) → IsFigured rests ways worth used said waits q
    → IsExpanded rests ways worth used said waits f others prices pairs worths

-- What is written for the nodes of these figures; nothing where they can't be made.
abbrev pub SolvesPlanned : Figured → Price → Method → ℕ → Option (List ℕ) → Option (List ℕ)
    → Result Verdict BoundFault → Type 0
SolvesPlanned q price method limit old new result = ((f : FiguresView) × (others : List FiguresView)
    × (prices : List ℕ) × (pairs : RestsView) × (worths : List ℤ) × AreNodesOf q f others prices pairs worths
    × SolvesNodes price pairs worths method limit old new result)
    ⊎ ((e : BoundFault) × (result ≡ Err e) × Keeps old new)

-- ---- the texts of a mine and its periods

-- The texts denote a mine and its periods, and this is the net of their expanded mine, or of that of the blocks of the
-- pit that a certificate proves, in amounts of worth alone.
pub record IsPlanNet (texts : MineTexts) (periods uses : List ℕ) (pit : Option (List ℕ)) (net : NetView) : Type 0 where
  pub denotes : DenotePlan texts periods uses
  pub part : Option PartView
  pub over : IsPartBy texts denotes.count denotes.waits.pairs pit part
  pub is_net : IsNet net
  pub of_nodes : IsNetOf worth_block (nodes_mine texts periods uses denotes part) net

-- The text is a certificate of the expanded mine: that of a pit and a flow of its net, at the mine's price, in which
-- the flow proves the pit; and no pit of the expanded mine is worth more.
pub record IsPlanCertificate (texts : MineTexts) (periods uses : List ℕ) (pit : Option (List ℕ)) (text : List ℕ) :
    Type 0 where
  pub net : NetView
  pub by : IsPlanNet texts periods uses pit net
  pub certificate : IsCertificateOf false Worth (price_wanted texts) net text
  pub richest : IsRichest (nodes_mine texts periods uses by.denotes by.part) (holds_of certificate.pit)

-- the certificate of a pit is refused, and this is its line
abbrev pub IsPitLine : Option (List ℕ) → List ℕ → Type 0
IsPitLine pit text = IsGiven pit × (fault : PitFault) × (text ≡ judgement_line (Refused fault))

-- the text that answers for them
abbrev pub AnswersPlan : MineTexts → List ℕ → List ℕ → Option (List ℕ) → Method → ℕ → Verdict → List ℕ → Type 0
AnswersPlan texts periods uses pit method limit Done text = IsPlanCertificate texts periods uses pit text
AnswersPlan texts periods uses pit method limit No text = ((net : NetView) × IsPlanNet texts periods uses pit net
    × IsNoOf net method limit text) ⊎ IsPitLine pit text

-- nothing was written, or a front of an answer
abbrev pub WritesPlanFront : MineTexts → List ℕ → List ℕ → Option (List ℕ) → Method → ℕ → Option (List ℕ)
    → Option (List ℕ) → Type 0
WritesPlanFront texts periods uses pit method limit old new = Keeps old new
    ⊎ (((net : NetView) × IsPlanNet texts periods uses pit net × (text : List ℕ)
    × IsDueFor Worth (price_wanted texts) net method limit text × ReceivedPrefix old new text)
    ⊎ ((text : List ℕ) × IsPitLine pit text × ReceivedPrefix old new text))

-- The answer, and what was written with it. At a fault nothing is, unless a device failed.
abbrev pub SolvesPlan : MineTexts → List ℕ → List ℕ → Option (List ℕ) → Method → ℕ → Option (List ℕ) → Option (List ℕ)
    → Result Verdict BoundFault → Type 0
SolvesPlan texts periods uses pit method limit old new (Ok verdict) = (text : List ℕ)
    × AnswersPlan texts periods uses pit method limit verdict text × Appends old new text
SolvesPlan texts periods uses pit method limit old new (Err (bound.Plan (plan.Engine engine.Device))) =
    WritesPlanFront texts periods uses pit method limit old new
SolvesPlan texts periods uses pit method limit old new (Err fault) = Keeps old new

-- what is written for what is to be solved, or where the certificate of a pit is refused
abbrev pub SolvesFound : ToSolve → Method → ℕ → Option (List ℕ) → Option (List ℕ) → Result Verdict BoundFault → Type 0
SolvesFound (solve.Plan q price) method limit old new result = SolvesPlanned q price method limit old new result
SolvesFound (solve.NoPit fault) method limit old new result = (texts : MineTexts) (periods uses : List ℕ)
    (pit : Option (List ℕ)) → IsGiven pit → SolvesPlan texts periods uses pit method limit old new result
