-- What is written for a net: the certificate of a pit, or a line that says why there is none.
use Rattle.std.specs.Prelude.{◌≡◌, ℕ, Bool, List, [], ◌∷◌, ◌++◌, codes, length, Option, Result, Ok, Err, MatchResult}
use Rattle.std.specs.Io.KnownBytes.{Appends, Keeps}
use Rattle.counted_devices.specs.Device.{ReceivedPrefix}
use Rattle.ordered_group.specs.declared.groups.Group.{Group}
use Rattle.closure_net.specs.Network.{NetView, FlowView}
use Rattle.certificate_file.specs.Prelude.{IsCertReadBack, header_with, text_of}
use Rattle.check_pit.specs.declared.pit_fault.PitFault.TheVariants as pit_fault
use Rattle.certificate_file.specs.declared.header.Price.{Price}
use Rattle.check_engines.specs.declared.judgement.Judgement.TheVariants.{Refused}
use Rattle.check_engines.specs.declared.judgement.Verdict.{Verdict}
use Rattle.check_engines.specs.declared.judgement.Verdict.TheVariants.{Done, No}
use Rattle.engine_faults.specs.declared.engine_fault.EngineFault.{EngineFault}
use Rattle.engine_faults.specs.declared.engine_fault.EngineFault.TheVariants as engine
use Rattle.solve_engines.specs.declared.solvers.Unsolved.{Unsolved}
use Rattle.solve_engines.specs.declared.solvers.Unsolved.TheVariants.{Unsettled, TooLarge, GaveUp, NoMemory, NoThread}
use Rattle.solve_engines.specs.declared.solvers.Unsolved.TheVariants.{Stranger}
use Rattle.check_engines.specs.OutputLines.{judgement_line}

-- the text of a pit and a flow of a net
abbrev pub certificate_text : Group → Price → NetView → List ℕ → FlowView → List ℕ
certificate_text name price net pit flow = text_of (header_with (length net.worths) price name) net.pairs pit flow

-- All of it was written, and reads back as that pit and that flow; or a prefix of it, where the device fails.
abbrev pub SendsCertificate : Bool → Group → Price → NetView → List ℕ → FlowView → Option (List ℕ) → Option (List ℕ)
    → Result Verdict EngineFault → Type 0
SendsCertificate counts name price net pit flow old new (Ok verdict) =
    (verdict ≡ Done) × ((text : List ℕ) × IsCertReadBack counts name (length net.worths) net.pairs text price pit flow
    × Appends old new text)
SendsCertificate counts name price net pit flow old new (Err fault) = (fault ≡ engine.Device)
    × ReceivedPrefix old new (certificate_text name price net pit flow)

-- the lines of an answer without a certificate
abbrev pub unsettled_line : List ℕ
unsettled_line = codes "UNSETTLED" ++ 10 ∷ []

abbrev pub too_large_line : List ℕ
too_large_line = judgement_line (Refused pit_fault.TooLarge)

-- such a line was written, or a prefix of it, where the device fails
abbrev pub SendsLine : List ℕ → Option (List ℕ) → Option (List ℕ) → Result Verdict EngineFault → Type 0
SendsLine line old new result = MatchResult result (λ verdict. (verdict ≡ No) × Appends old new line)
    (λ fault. (fault ≡ engine.Device) × ReceivedPrefix old new line)

-- this fault is answered, and nothing was written
abbrev pub Withholds : EngineFault → Option (List ℕ) → Option (List ℕ) → Result Verdict EngineFault → Type 0
Withholds fault old new result = (result ≡ Err fault) × Keeps old new

-- the line that says why there is no pit, or the fault that does
abbrev pub no_line : Unsolved → Result (List ℕ) EngineFault
no_line Unsettled = Ok unsettled_line
no_line GaveUp = Ok unsettled_line
no_line TooLarge = Ok too_large_line
no_line NoMemory = Err engine.Memory
no_line NoThread = Err engine.Thread
no_line Stranger = Err engine.Stranger

-- what is answered where there is no pit, by why there is none
abbrev pub SendsNo : Unsolved → Option (List ℕ) → Option (List ℕ) → Result Verdict EngineFault → Type 0
SendsNo why old new result = MatchResult (no_line why) (λ line. SendsLine line old new result)
    (λ fault. Withholds fault old new result)
