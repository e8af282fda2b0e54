-- The lines that the program prints.
use Rattle.std.specs.Prelude.{ℕ, List, [], ◌∷◌, ◌++◌, codes, decimal}
use Rattle.fixed_worth.specs.Printed.{amount_text}
use Rattle.ordered_group.specs.declared.groups.Group.{Group}
use Rattle.ordered_group.specs.declared.groups.Group.TheVariants.{Worth}
use Rattle.closure_net.specs.Faults.{net_fault_text}
use Rattle.upit_file.specs.Records.{upit_fault_text}
use Rattle.prec_file.specs.Faults.{prec_fault_text}
use Rattle.blocks_file.specs.Records.{blocks_fault_text}
use Rattle.settings_file.specs.Settings.{settings_fault_text}
use Rattle.shells.specs.FaultText.{prices_fault_text}
use Rattle.check_pit.specs.FaultText.{pit_fault_text}
use Rattle.trace_file.specs.Faults.{trace_fault_text}
use Rattle.check_engines.specs.declared.judgement.Judgement.{Judgement}
use Rattle.check_engines.specs.declared.judgement.Judgement.TheVariants.{Accepted, Refused}
use Rattle.engine_faults.specs.declared.engine_fault.EngineFault.{EngineFault}
use Rattle.engine_faults.specs.declared.engine_fault.EngineFault.TheVariants as engine
use Rattle.engine_faults.specs.EngineFaults.{problem_text, certificate_problem_text, slope_text}

-- what follows the worth on the line: something where worth alone was counted, and otherwise nothing
abbrev pub group_mark : Group → List ℕ
group_mark Worth = codes " GROUP WORTH"
group_mark _ = []

-- the line of a judgement
abbrev pub judgement_line : Judgement → List ℕ
judgement_line (Accepted group count worth) = codes "ACCEPTED "
    ++ (decimal count ++ (codes " " ++ (amount_text 9 worth ++ (group_mark group ++ 10 ∷ []))))
judgement_line (Refused fault) = codes "REFUSED " ++ (pit_fault_text fault ++ 10 ∷ [])

-- the word for what has the fault; what the machine fails at has none
abbrev pub input_word : EngineFault → List ℕ
input_word (engine.Blocks p) = codes "blocks "
input_word (engine.Upit p) = codes "upit "
input_word (engine.Prec p) = codes "prec "
input_word (engine.Settings p) = codes "settings "
input_word (engine.Prices fault) = codes "prices "
input_word (engine.Slope p) = codes "slope "
input_word (engine.Model fault) = codes "model "
input_word (engine.Certificate p) = codes "certificate "
input_word (engine.Trace p) = codes "trace "
input_word _ = []

-- the fault, without that word
abbrev pub problem_words : EngineFault → List ℕ
problem_words (engine.Blocks p) = problem_text blocks_fault_text p
problem_words (engine.Upit p) = problem_text upit_fault_text p
problem_words (engine.Prec p) = problem_text prec_fault_text p
problem_words (engine.Settings p) = problem_text settings_fault_text p
problem_words (engine.Prices fault) = prices_fault_text fault
problem_words (engine.Slope p) = slope_text p
problem_words (engine.Model fault) = net_fault_text fault
problem_words (engine.Certificate p) = certificate_problem_text p
problem_words (engine.Trace p) = problem_text trace_fault_text p
problem_words engine.Memory = codes "memory"
problem_words engine.Device = codes "device"
problem_words engine.Thread = codes "thread"
problem_words engine.Stranger = codes "stranger"

-- what has the fault, and the fault
abbrev pub fault_words : EngineFault → List ℕ
fault_words fault = input_word fault ++ problem_words fault

-- the line of a fault
abbrev pub fault_line : EngineFault → List ℕ
fault_line fault = codes "fault: " ++ (fault_words fault ++ 10 ∷ [])
