pub mod PageAnswers
pub mod Printing
pub mod ReadingBack
pub mod TablePage
