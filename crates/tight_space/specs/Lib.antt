pub mod PuttingChanges
