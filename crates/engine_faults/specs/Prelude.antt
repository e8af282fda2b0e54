-- The names of this crate that its proofs and the crates above it use, each from its own file.
pub use Rattle.engine_faults.specs.EngineFaults.{certificate_problem_text, of_blocks, of_certificate, of_model}
pub use Rattle.engine_faults.specs.EngineFaults.{of_pattern, of_prec, of_regions, of_settings, of_slope, of_trace}
pub use Rattle.engine_faults.specs.EngineFaults.{of_upit, problem_output, problem_text, slope_text}
