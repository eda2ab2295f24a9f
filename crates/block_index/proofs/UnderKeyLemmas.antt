-- The blocks under one key, as the numbers under it.
use Rattle.std.proofs.Common.{◌≡◌, ◌^◌, ℕ, List}
use Rattle.std.specs.Prelude.{None}
use Rattle.mdc_words.specs.ByteOrder.{Entry}
use Rattle.block_index.specs.Reading.{AreBlocksUnder, FindsUnder}
use Rattle.block_index.proofs.NumberedLemmas.{AreNumbersBelow, numbers_below_all, numbers_below_most}

pub blocks_below_all : (key : List ℕ) (entries : List Entry) (from : ℕ) (blocks : List ℕ) → AreNumbersBelow 4 key entries from blocks → FindsUnder key entries from None → AreBlocksUnder key entries blocks
blocks_below_all key entries from blocks so none = record { all = numbers_below_all 4 key entries from blocks so none; only = so.only }

pub blocks_below_most : (key : List ℕ) (entries : List Entry) (from : ℕ) (blocks : List ℕ) → from ≡ 2 ^ 32 → AreNumbersBelow 4 key entries from blocks → AreBlocksUnder key entries blocks
blocks_below_most key entries from blocks most so = record { all = numbers_below_most 4 key entries from blocks so most; only = so.only }
