pub mod OppositeLemmas
pub mod PredLemmas
pub mod PushedLemmas
pub mod PushedTests
pub mod TruthLemmas
