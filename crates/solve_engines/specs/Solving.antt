-- How the engine of `solve` ends, by the bytes of its inputs and of its output.
use Rattle.std.specs.Prelude.{◌≡◌, ℕ, ◌⊎◌, Bool, true, List, length, Option, Result, Ok, Err}
use Rattle.std.specs.Io.KnownBytes.{Appends, Keeps}
use Rattle.counted_devices.specs.Device.{ReceivedPrefix}
use Rattle.ordered_group.specs.declared.groups.Group.{Group}
use Rattle.closure_net.specs.Prelude.{NetView, FlowView, IsNet, holds_of, IsReached, IsNetOf}
use Rattle.workers.specs.Runs.{Settles, IsCutOff, SomeStepOverflows}
use Rattle.workers.specs.declared.solving.SolveFault.{SolveFault}
use Rattle.workers.specs.declared.solving.SolveFault.TheVariants as run
use Rattle.check_pit.specs.Checks.{IsOfNet, IsSound, PitFaultStands}
use Rattle.certificate_file.specs.ReadBack.{IsCertReadBack}
use Rattle.check_pit.specs.declared.pit_fault.PitFault.TheVariants as pit_fault
use Rattle.certificate_file.specs.declared.header.Price.{Price}
use Rattle.check_engines.specs.declared.judgement.Verdict.{Verdict}
use Rattle.check_engines.specs.declared.judgement.Verdict.TheVariants.{Done, No}
use Rattle.engine_faults.specs.declared.engine_fault.EngineFault.{EngineFault}
use Rattle.engine_faults.specs.declared.engine_fault.EngineFault.TheVariants as engine
use Rattle.solve_engines.specs.declared.solvers.Unsolved.{Unsolved}
use Rattle.solve_engines.specs.declared.solvers.Unsolved.TheVariants.{Unsettled, TooLarge, GaveUp, NoMemory, NoThread}
use Rattle.solve_engines.specs.declared.solvers.Unsolved.TheVariants.{Stranger}
use Rattle.option_words.specs.declared.method.Method.{Method}
use Rattle.option_words.specs.Methods.{ends_with_pseudoflow}
use Rattle.mine_inputs.specs.Prelude.{MineFails, MineTexts, price_wanted, mine_of, DenoteMine}
use Rattle.check_engines.specs.Prelude.{ModelFails, block_by, Reads, IsProvedPit}
use Rattle.solve_engines.specs.NetAnswers.{certificate_text, unsettled_line, too_large_line}

-- ---- a net

-- The check of what a run leaves, with the blocks that the source reaches in it, finds a sum that doesn't fit.
pub record CheckOverflows (net : NetView) (limit : ℕ) : Type 0 where
  pub flow : FlowView
  pub steps : ℕ
  pub settles : Settles net limit flow steps
  pub pit : List ℕ
  pub reached : IsReached net flow (holds_of pit)
  pub of_net : IsOfNet net pit
  pub stands : PitFaultStands net flow pit pit_fault.TooLarge

-- a step of a run, or the check of what it leaves, needs a number that doesn't fit
abbrev pub SomeNumberOverflows : NetView → ℕ → Type 0
SomeNumberOverflows net limit = SomeStepOverflows net limit ⊎ CheckOverflows net limit

-- why the machine's run gives none
abbrev pub MachineStands : NetView → ℕ → Unsolved → Type 0
MachineStands net limit Unsettled = IsCutOff net limit
MachineStands net limit TooLarge = SomeNumberOverflows net limit
MachineStands net limit GaveUp = ⊥
MachineStands net limit NoMemory = Unit {0}
MachineStands net limit NoThread = Unit {0}
MachineStands net limit Stranger = Unit {0}

-- whether pseudoflow may give up on a net: it alone was asked for, or the machine isn't tried after it, since there are
-- too many blocks
abbrev pub MayGiveUp : NetView → Method → Type 0
MayGiveUp net method = ends_with_pseudoflow method (length net.worths) ≡ true

-- why there is none; where pseudoflow gives up nothing is said of the net
abbrev pub UnsolvedStands : NetView → Method → ℕ → Unsolved → Type 0
UnsolvedStands net method limit GaveUp = MayGiveUp net method
UnsolvedStands net method limit unsolved = MachineStands net limit unsolved

-- what a fault of a run means; the number of workers is always right
abbrev pub unsolved_by : SolveFault → Unsolved
unsolved_by run.BadWorkers = Stranger
unsolved_by run.Unsettled = Unsettled
unsolved_by run.TooLarge = TooLarge
unsolved_by run.StrangerNet = Stranger
unsolved_by run.NoMemory = NoMemory
unsolved_by run.NoThread = NoThread

-- the text is that of one pit and one flow of the net, and the flow proves the pit
pub record IsCertificateOf (counts : Bool) (name : Group) (price : Price) (net : NetView) (text : List ℕ) : Type 0 where
  pub pit : List ℕ
  pub flow : FlowView
  pub read : IsCertReadBack counts name (length net.worths) net.pairs text price pit flow
  pub sound : IsSound net flow pit

-- such a line, and why it is answered: but where pseudoflow may give up, it is by the machine's run
abbrev pub IsNoOf : NetView → Method → ℕ → List ℕ → Type 0
IsNoOf net method limit text = (MayGiveUp net method × (text ≡ unsettled_line))
    ⊎ (IsCutOff net limit × (text ≡ unsettled_line)) ⊎ (SomeNumberOverflows net limit × (text ≡ too_large_line))

-- the text that answers for a net
abbrev pub AnswersNet : Bool → Group → Price → NetView → Method → ℕ → Verdict → List ℕ → Type 0
AnswersNet counts name price net method limit Done text = IsCertificateOf counts name price net text
AnswersNet counts name price net method limit No text = IsNoOf net method limit text

-- the text of a pit and a flow of the net, in which the flow proves the pit
pub record IsTextOf (name : Group) (price : Price) (net : NetView) (text : List ℕ) : Type 0 where
  pub pit : List ℕ
  pub flow : FlowView
  pub sound : IsSound net flow pit
  pub spelled : text ≡ certificate_text name price net pit flow

-- a text that was to be written for a net
abbrev pub IsDueFor : Group → Price → NetView → Method → ℕ → List ℕ → Type 0
IsDueFor name price net method limit text = IsTextOf name price net text ⊎ IsNoOf net method limit text

-- what is written with it: all of it, or nothing where memory or a thread is wanted, or a front of it where a device
-- fails
abbrev pub SolvesNet : Bool → Group → Price → NetView → Method → ℕ → Option (List ℕ) → Option (List ℕ)
    → Result Verdict EngineFault → Type 0
SolvesNet counts name price net method limit old new (Ok verdict) = (text : List ℕ)
    × AnswersNet counts name price net method limit verdict text × Appends old new text
SolvesNet counts name price net method limit old new (Err engine.Memory) = Keeps old new
SolvesNet counts name price net method limit old new (Err engine.Thread) = Keeps old new
SolvesNet counts name price net method limit old new (Err engine.Stranger) = Keeps old new
SolvesNet counts name price net method limit old new (Err engine.Device) = (text : List ℕ)
    × IsDueFor name price net method limit text × ReceivedPrefix old new text
SolvesNet counts name price net method limit old new (Err _) = ⊥

-- ---- the texts of a mine

-- The texts denote a mine, and this one a certificate for it whose flow proves its pit: a check accepts it where it
-- isn't too long to be read.
pub record IsCertificate (texts : MineTexts) (name : Group) (text : List ℕ) : Type 0 where
  pub read : Reads texts text
  pub group : read.group ≡ name
  pub sound : IsSound read.net read.flow read.pit
  pub proved : IsProvedPit name (mine_of read.blocks texts) (holds_of read.pit)

-- the net of the mine that the texts denote, in amounts of the group
pub record IsNetBy (texts : MineTexts) (name : Group) (net : NetView) : Type 0 where
  pub mine : DenoteMine texts (length net.worths)
  pub is_net : IsNet net
  pub of_mine : IsNetOf (block_by name) (mine_of (length net.worths) texts) net

-- the text that answers for them
abbrev pub AnswersMine : MineTexts → Group → Method → ℕ → Verdict → List ℕ → Type 0
AnswersMine texts name method limit Done text = IsCertificate texts name text
AnswersMine texts name method limit No text = (net : NetView) × IsNetBy texts name net × IsNoOf net method limit text

-- Why the engine answers a fault: it is one of the texts, or, where they are read, one of the mine's net. Want of a
-- thread and a board that comes back as another's say that the texts denote a mine, whose run was begun.
abbrev pub SolveFails : MineTexts → Group → EngineFault → Type 0
SolveFails texts name (engine.Model fault) = (n : ℕ) × DenoteMine texts n × ModelFails texts n name fault
SolveFails texts name engine.Thread = (n : ℕ) × DenoteMine texts n
SolveFails texts name engine.Stranger = (n : ℕ) × DenoteMine texts n
SolveFails texts name fault = MineFails texts fault

-- nothing was written, or a front of an answer
abbrev pub WritesSolveFront : MineTexts → Group → Method → ℕ → Option (List ℕ) → Option (List ℕ) → Type 0
WritesSolveFront texts name method limit old new = Keeps old new
    ⊎ ((net : NetView) × IsNetBy texts name net × (text : List ℕ)
    × IsDueFor name (price_wanted texts) net method limit text × ReceivedPrefix old new text)

-- what is in the writer at a fault: what was there before, unless a device failed
abbrev pub SolveAtFault : MineTexts → Group → Method → ℕ → Option (List ℕ) → Option (List ℕ) → EngineFault → Type 0
SolveAtFault texts name method limit old new engine.Device = WritesSolveFront texts name method limit old new
SolveAtFault texts name method limit old new _ = Keeps old new

-- the answer, and what was written with it
abbrev pub Solves : MineTexts → Group → Method → ℕ → Option (List ℕ) → Option (List ℕ) → Result Verdict EngineFault
    → Type 0
Solves texts name method limit old new (Ok verdict) = (text : List ℕ)
    × AnswersMine texts name method limit verdict text × Appends old new text
Solves texts name method limit old new (Err fault) = SolveFails texts name fault
    × SolveAtFault texts name method limit old new fault
