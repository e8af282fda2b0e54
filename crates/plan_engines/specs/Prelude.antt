-- The names of this crate that its proofs and the crates above it use, each from its own file.
pub use Rattle.plan_engines.specs.PlansToSolve.{IsPartPlan, IsRightPlan, IsToSolve, IsWholePlan, PlanCanCount}
pub use Rattle.plan_engines.specs.PlanSolving.{AnswersPlan, AreNodesOf, IsPitLine, IsPlanCertificate, IsPlanNet}
pub use Rattle.plan_engines.specs.PlanSolving.{SolvesFound, SolvesNodes, SolvesPlan, SolvesPlanned, WritesPlanFront}
