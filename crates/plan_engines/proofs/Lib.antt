pub mod PlanNets
pub mod PlanSolved
pub mod PlansFound
