pub mod FullFile
