pub mod PlanTrees
