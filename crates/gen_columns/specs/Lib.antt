pub mod DerivedSpans
