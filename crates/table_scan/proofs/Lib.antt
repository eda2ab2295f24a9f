mod BlocksThatMayLemmas
pub mod ChoosingLemmas
mod CopiedRowsLemmas
mod CountingLemmas
mod ListingLemmas
mod RisingNumbersLemmas
mod ScannedBlocksLemmas
pub mod ScannedRowsLemmas
pub mod ScanningLemmas
mod SettledLemmas
mod SettledRowsLemmas
