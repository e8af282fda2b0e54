-- How an engine over the factors of settings ends, whatever it answers: what a fault says, and what is in the writers.
use Rattle.std.specs.Prelude.{ℕ, ◌⊎◌, List, Option, Result, Ok, Err}
use Rattle.std.specs.Io.KnownBytes.{Appends, Keeps}
use Rattle.counted_devices.specs.Device.{ReceivedPrefix}
use Rattle.closure_net.specs.declared.net.NetFault.{NetFault}
use Rattle.check_engines.specs.declared.judgement.Verdict.{Verdict}
use Rattle.engine_faults.specs.declared.engine_fault.EngineFault.{EngineFault}
use Rattle.engine_faults.specs.declared.engine_fault.EngineFault.TheVariants as engine

-- Why a fault is answered, from what is so where the texts denote no mine, where they denote one, and where an amount
-- of the mine's overflows. Want of memory and a failing device say nothing of the texts; want of a thread and a board
-- that comes back as another's, that they denote a mine, of which a run was begun.
abbrev pub FailsBy : (EngineFault → Type 0) → Type 0 → (NetFault → Type 0) → EngineFault → Type 0
FailsBy Unread Denoted NoNet (engine.Model fault) = NoNet fault
FailsBy Unread Denoted NoNet engine.Thread = Denoted
FailsBy Unread Denoted NoNet engine.Stranger = Denoted
FailsBy Unread Denoted NoNet fault = Unread fault

-- ---- Two texts are written: a table of blocks to its file, of which `before` and `after` are the bytes, and then an
-- answer to the output.

-- a device failed: the file has a prefix of the table, and the output nothing; or the file has the table, and the
-- output a prefix of the answer
abbrev pub IsCutShort : List ℕ → List ℕ → Option (List ℕ) → Option (List ℕ) → Option (List ℕ) → Option (List ℕ) → Type 0
IsCutShort table text before after old new = (ReceivedPrefix before after table × Keeps old new)
    ⊎ (Appends before after table × ReceivedPrefix old new text)

-- what is in both at a fault: what was there before, unless a device failed in writing them
abbrev pub WritesBothAtFault : (Verdict → List ℕ → List ℕ → Type 0) → Option (List ℕ) → Option (List ℕ)
    → Option (List ℕ) → Option (List ℕ) → EngineFault → Type 0
WritesBothAtFault Answers before after old new engine.Device =
    (Keeps before after × Keeps old new)
    ⊎ ((verdict : Verdict) × (table : List ℕ) × (text : List ℕ) × Answers verdict table text
    × IsCutShort table text before after old new)
WritesBothAtFault Answers before after old new _ = Keeps before after × Keeps old new

-- the answer, and what was written with it
abbrev pub Ends : (Verdict → List ℕ → List ℕ → Type 0) → (EngineFault → Type 0) → Option (List ℕ) → Option (List ℕ)
    → Option (List ℕ) → Option (List ℕ) → Result Verdict EngineFault → Type 0
Ends Answers Fails before after old new (Ok verdict) = (table : List ℕ) × (text : List ℕ) × Answers verdict table text
    × Appends before after table × Appends old new text
Ends Answers Fails before after old new (Err fault) = Fails fault × WritesBothAtFault Answers before after old new fault
