pub mod PlanLaws
pub mod StepPlans
pub mod TouchedLaws
