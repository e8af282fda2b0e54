-- How the engine of `solve` ends where a run without a lock is asked for, by the bytes of its inputs and of its output.
use Rattle.std.specs.Prelude.{◌≡◌, ℕ, ◌⊎◌, List, Option, Result, Ok, Err}
use Rattle.std.specs.Io.KnownBytes.{Appends, Keeps}
use Rattle.counted_devices.specs.Device.{ReceivedPrefix}
use Rattle.ordered_group.specs.declared.groups.Group.{Group}
use Rattle.ordered_group.specs.declared.groups.Group.TheVariants.{Scaled}
use Rattle.closure_net.specs.Network.{NetView}
use Rattle.certificate_file.specs.declared.header.Price.{Price}
use Rattle.check_engines.specs.declared.judgement.Verdict.{Verdict}
use Rattle.check_engines.specs.declared.judgement.Verdict.TheVariants.{Done, No}
use Rattle.engine_faults.specs.declared.engine_fault.EngineFault.{EngineFault}
use Rattle.engine_faults.specs.declared.engine_fault.EngineFault.TheVariants as engine
use Rattle.mine_inputs.specs.Mines.{MineTexts, price_wanted}
use Rattle.check_engines.specs.Prelude.{counts_by}
use Rattle.solve_engines.specs.Prelude.{unsettled_line, too_large_line, IsCertificateOf, IsTextOf, IsCertificate}
use Rattle.solve_engines.specs.Prelude.{IsNetBy, SolveFails}
use Rattle.lock_free_engine.specs.LockFreeRuns.{HasWords, SomeLockFreeNumberOverflows}

-- the amounts of a run without a lock
abbrev pub lock_free_group : Group
lock_free_group = Scaled

-- ---- a net

-- the line of an answer without a certificate, and why it is answered
abbrev pub IsNoWithoutLock : NetView → ℕ → ℕ → List ℕ → Type 0
IsNoWithoutLock net workers limit text = (HasWords net × (text ≡ unsettled_line))
    ⊎ (SomeLockFreeNumberOverflows net workers limit × (text ≡ too_large_line))

-- the text that answers for a net
abbrev pub AnswersNetWithoutLock : Price → NetView → ℕ → ℕ → Verdict → List ℕ → Type 0
AnswersNetWithoutLock price net workers limit Done text = IsCertificateOf (counts_by lock_free_group) lock_free_group
    price net text
AnswersNetWithoutLock price net workers limit No text = IsNoWithoutLock net workers limit text

-- a text that was to be written for a net
abbrev pub IsDueWithoutLock : Price → NetView → ℕ → ℕ → List ℕ → Type 0
IsDueWithoutLock price net workers limit text = IsTextOf lock_free_group price net text
    ⊎ IsNoWithoutLock net workers limit text

-- what is written with it: all of it, or nothing where memory or a thread is wanted, or a front of it where a device
-- fails
abbrev pub SolvesNetWithoutLock : Price → NetView → ℕ → ℕ → Option (List ℕ) → Option (List ℕ)
    → Result Verdict EngineFault → Type 0
SolvesNetWithoutLock price net workers limit old new (Ok verdict) = (text : List ℕ)
    × AnswersNetWithoutLock price net workers limit verdict text × Appends old new text
SolvesNetWithoutLock price net workers limit old new (Err engine.Memory) = Keeps old new
SolvesNetWithoutLock price net workers limit old new (Err engine.Thread) = Keeps old new
SolvesNetWithoutLock price net workers limit old new (Err engine.Device) = (text : List ℕ)
    × IsDueWithoutLock price net workers limit text × ReceivedPrefix old new text
SolvesNetWithoutLock price net workers limit old new (Err _) = ⊥

-- ---- the texts of a mine

-- the text that answers for them: a certificate is one of the mine, whose flow proves its pit
abbrev pub AnswersMineWithoutLock : MineTexts → ℕ → ℕ → Verdict → List ℕ → Type 0
AnswersMineWithoutLock texts workers limit Done text = IsCertificate texts lock_free_group text
AnswersMineWithoutLock texts workers limit No text = (net : NetView) × IsNetBy texts lock_free_group net
    × IsNoWithoutLock net workers limit text

-- nothing was written, or a front of an answer
abbrev pub WritesFrontWithoutLock : MineTexts → ℕ → ℕ → Option (List ℕ) → Option (List ℕ) → Type 0
WritesFrontWithoutLock texts workers limit old new = Keeps old new
    ⊎ ((net : NetView) × IsNetBy texts lock_free_group net × (text : List ℕ)
    × IsDueWithoutLock (price_wanted texts) net workers limit text × ReceivedPrefix old new text)

-- why a fault is answered: as under a lock, except that no board comes back as another's
abbrev pub FailsWithoutLock : MineTexts → EngineFault → Type 0
FailsWithoutLock texts engine.Stranger = ⊥
FailsWithoutLock texts fault = SolveFails texts lock_free_group fault

-- what is in the writer at a fault: what was there before, unless a device failed
abbrev pub AtFaultWithoutLock : MineTexts → ℕ → ℕ → Option (List ℕ) → Option (List ℕ) → EngineFault → Type 0
AtFaultWithoutLock texts workers limit old new engine.Device = WritesFrontWithoutLock texts workers limit old new
AtFaultWithoutLock texts workers limit old new _ = Keeps old new

-- the answer, and what was written with it
abbrev pub SolvesWithoutLock : MineTexts → ℕ → ℕ → Option (List ℕ) → Option (List ℕ) → Result Verdict EngineFault
    → Type 0
SolvesWithoutLock texts workers limit old new (Ok verdict) = (text : List ℕ)
    × AnswersMineWithoutLock texts workers limit verdict text × Appends old new text
SolvesWithoutLock texts workers limit old new (Err fault) = FailsWithoutLock texts fault
    × AtFaultWithoutLock texts workers limit old new fault
