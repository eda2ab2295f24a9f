pub mod TableW
