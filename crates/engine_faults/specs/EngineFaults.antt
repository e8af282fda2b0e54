-- The engine's fault of a reader's, of a pattern's and of a net's: want of memory is one of its own.
use Rattle.blocks_file.specs.declared.blocks_fault.BlocksFault.{BlocksFault}
use Rattle.blocks_file.specs.declared.blocks_fault.BlocksFault.TheVariants as blocks_fault
use Rattle.upit_file.specs.declared.upit_fault.UpitFault.{UpitFault}
use Rattle.upit_file.specs.declared.upit_fault.UpitFault.TheVariants as upit_fault
use Rattle.prec_file.specs.declared.prec_fault.PrecFault.{PrecFault}
use Rattle.prec_file.specs.declared.prec_fault.PrecFault.TheVariants as prec_fault
use Rattle.settings_file.specs.declared.settings_fault.SettingsFault.{SettingsFault}
use Rattle.settings_file.specs.declared.settings_fault.SettingsFault.TheVariants as settings_fault
use Rattle.certificate_file.specs.declared.cert_fault.CertFault.{CertFault}
use Rattle.certificate_file.specs.declared.cert_fault.CertFault.TheVariants as certificate_fault
use Rattle.trace_file.specs.declared.trace_fault.TraceFault.{TraceFault}
use Rattle.trace_file.specs.declared.trace_fault.TraceFault.TheVariants as trace_fault
use Rattle.slope_offsets.specs.declared.pattern_fault.PatternFault.{PatternFault}
use Rattle.slope_offsets.specs.declared.pattern_fault.PatternFault.TheVariants as pattern_fault
use Rattle.slope.specs.declared.slope_fault.SlopeFault.{SlopeFault}
use Rattle.slope.specs.declared.slope_fault.SlopeFault.TheVariants as slope_fault
use Rattle.slope.specs.declared.region_fault.RegionFault.{RegionFault}
use Rattle.slope.specs.declared.region_fault.RegionFault.TheVariants as region_fault
use Rattle.closure_net.specs.declared.net.NetFault.{NetFault}
use Rattle.closure_net.specs.declared.net.NetFault.TheVariants as net_fault
use Rattle.engine_faults.specs.declared.engine_fault.Problem.TheVariants as problem
use Rattle.engine_faults.specs.declared.engine_fault.CertificateProblem.TheVariants as certificate_problem
use Rattle.engine_faults.specs.declared.engine_fault.SlopeProblem.TheVariants as slope_problem
use Rattle.engine_faults.specs.declared.engine_fault.EngineFault.{EngineFault}
use Rattle.engine_faults.specs.declared.engine_fault.EngineFault.TheVariants as engine
use Rattle.std.specs.Prelude.{ℕ, List, codes, Option, Some}
use Rattle.slope_offsets.specs.FaultText.{pattern_fault_text}
use Rattle.slope.specs.FaultText.{region_fault_text, slope_fault_text}
use Rattle.certificate_file.specs.Certificate.{cert_fault_text}
use Rattle.engine_faults.specs.declared.engine_fault.Problem.{Problem}
use Rattle.engine_faults.specs.declared.engine_fault.CertificateProblem.{CertificateProblem}
use Rattle.engine_faults.specs.declared.engine_fault.SlopeProblem.{SlopeProblem}

-- ---- of the readers

abbrev pub of_blocks : BlocksFault → EngineFault
of_blocks blocks_fault.NoMemory = engine.Memory
of_blocks fault = engine.Blocks (problem.Fault fault)

abbrev pub of_upit : UpitFault → EngineFault
of_upit upit_fault.NoMemory = engine.Memory
of_upit fault = engine.Upit (problem.Fault fault)

abbrev pub of_prec : PrecFault → EngineFault
of_prec prec_fault.NoMemory = engine.Memory
of_prec fault = engine.Prec (problem.Fault fault)

abbrev pub of_settings : SettingsFault → EngineFault
of_settings settings_fault.NoMemory = engine.Memory
of_settings fault = engine.Settings (problem.Fault fault)

abbrev pub of_certificate : CertFault → EngineFault
of_certificate certificate_fault.NoMemory = engine.Memory
of_certificate fault = engine.Certificate (certificate_problem.Fault fault)

abbrev pub of_trace : TraceFault → EngineFault
of_trace trace_fault.NoMemory = engine.Memory
of_trace fault = engine.Trace (problem.Fault fault)

-- ---- of a pattern, of the pairs that its offsets give, and of a net

abbrev pub of_pattern : PatternFault → EngineFault
of_pattern pattern_fault.NoMemory = engine.Memory
of_pattern fault = engine.Slope (slope_problem.Pattern fault)

abbrev pub of_slope : SlopeFault → EngineFault
of_slope slope_fault.NoMemory = engine.Memory
of_slope fault = engine.Slope (slope_problem.Pairs fault)

abbrev pub of_regions : RegionFault → EngineFault
of_regions region_fault.NoMemory = engine.Memory
of_regions fault = engine.Slope (slope_problem.Regions fault)

abbrev pub of_model : NetFault → EngineFault
of_model net_fault.NoMemory = engine.Memory
of_model fault = engine.Model fault

-- what a problem with an input prints, by the text of its fault
abbrev pub problem_text : {F : Type 0} → (F → List ℕ) → Problem F → List ℕ
problem_text text problem.InputTooLong = codes "InputTooLong"
problem_text text (problem.Fault fault) = text fault

-- what a problem with an input prints, where a fault may have no text that is claimed
abbrev pub problem_output : {F : Type 0} → (F → Option (List ℕ)) → Problem F → Option (List ℕ)
problem_output output problem.InputTooLong = Some (codes "InputTooLong")
problem_output output (problem.Fault fault) = output fault

-- what a problem with a certificate prints
abbrev pub certificate_problem_text : CertificateProblem → List ℕ
certificate_problem_text certificate_problem.InputTooLong = codes "InputTooLong"
certificate_problem_text certificate_problem.WrongPrice = codes "WrongPrice"
certificate_problem_text (certificate_problem.Fault fault) = cert_fault_text fault

-- what a problem with slopes prints
abbrev pub slope_text : SlopeProblem → List ℕ
slope_text (slope_problem.Pattern fault) = pattern_fault_text fault
slope_text (slope_problem.Pairs fault) = slope_fault_text fault
slope_text (slope_problem.Regions fault) = region_fault_text fault
