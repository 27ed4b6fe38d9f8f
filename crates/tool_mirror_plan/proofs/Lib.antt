mod PlanLemmas
pub mod IndexLemmas
