pub mod LineTexts
pub mod QueryLinesLemmas
pub mod RefusalTexts
pub mod ShownLines
