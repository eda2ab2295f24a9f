-- The entries of the trees of the worked database.
use Rattle.std.specs.Prelude.{ℕ, List, [], ◌∷◌, ◌++◌}
use Rattle.mdc_words.specs.ByteOrder.{Entry}

-- ---- the block map

-- block 1 is Used with two rows, 5 Free, 6 Pending, 8 Used with one row, and 10 with two
abbrev pub sales_lines : List Entry
sales_lines =
    (0 ∷ 0 ∷ 0 ∷ 1 ∷ 1 ∷ 0 ∷ 2 ∷ [])
    ∷ (0 ∷ 0 ∷ 0 ∷ 5 ∷ 0 ∷ 0 ∷ 0 ∷ [])
    ∷ (0 ∷ 0 ∷ 0 ∷ 6 ∷ 2 ∷ 0 ∷ 0 ∷ [])
    ∷ (0 ∷ 0 ∷ 0 ∷ 8 ∷ 1 ∷ 0 ∷ 1 ∷ [])
    ∷ (0 ∷ 0 ∷ 0 ∷ 10 ∷ 1 ∷ 0 ∷ 2 ∷ []) ∷ []

-- ---- the block indexes

-- `OS` in a key, with the blanks of a CHAR(4)
abbrev pub key_os : List ℕ
key_os = 0 ∷ 79 ∷ 83 ∷ 32 ∷ 32 ∷ []

-- 7 in a key
abbrev pub key_july : List ℕ
key_july = 0 ∷ 128 ∷ 0 ∷ 0 ∷ 7 ∷ []

-- a null of four bytes in a key
abbrev pub key_null : List ℕ
key_null = 1 ∷ 0 ∷ 0 ∷ 0 ∷ 0 ∷ []

-- a block in an entry
abbrev pub in_block : ℕ → List ℕ
in_block block = 0 ∷ 0 ∷ 0 ∷ block ∷ []

-- blocks 1 and 8 under one cell, and block 10 under nulls
abbrev pub sales_cells : List Entry
sales_cells = (key_os ++ key_july ++ in_block 1) ∷ (key_os ++ key_july ++ in_block 8) ∷ (key_null ++ key_null ++ in_block 10) ∷ []

-- the same by CITY
abbrev pub sales_cities : List Entry
sales_cities = (key_os ++ in_block 1) ∷ (key_os ++ in_block 8) ∷ (key_null ++ in_block 10) ∷ []

-- the same by MON
abbrev pub sales_months : List Entry
sales_months = (key_july ++ in_block 1) ∷ (key_july ++ in_block 8) ∷ (key_null ++ in_block 10) ∷ []

-- ---- the record indexes

-- 100 in a descending part of eight bytes
abbrev pub key_hundred : List ℕ
key_hundred = 255 ∷ 127 ∷ 255 ∷ 255 ∷ 255 ∷ 255 ∷ 255 ∷ 255 ∷ 155 ∷ []

-- 9 in such a part
abbrev pub key_nine : List ℕ
key_nine = 255 ∷ 127 ∷ 255 ∷ 255 ∷ 255 ∷ 255 ∷ 255 ∷ 255 ∷ 246 ∷ []

-- -3 in such a part
abbrev pub key_minus_three : List ℕ
key_minus_three = 255 ∷ 128 ∷ 0 ∷ 0 ∷ 0 ∷ 0 ∷ 0 ∷ 0 ∷ 2 ∷ []

-- a null in such a part
abbrev pub key_no_price : List ℕ
key_no_price = 254 ∷ 255 ∷ 255 ∷ 255 ∷ 255 ∷ 255 ∷ 255 ∷ 255 ∷ 255 ∷ []

-- a block and a slot in an entry
abbrev pub in_slot : ℕ → ℕ → List ℕ
in_slot block slot = 0 ∷ 0 ∷ 0 ∷ block ∷ 0 ∷ slot ∷ []

-- by PRICE downwards and CITY: row 2, a row of Pending block 6 that is no more, and row 7
abbrev pub low_prices : List Entry
low_prices = (key_no_price ++ key_null ++ in_slot 10 12) ∷ (key_hundred ++ key_os ++ in_slot 6 14) ∷ (key_nine ++ key_os ++ in_slot 1 13) ∷ []

-- between these and the next ones; it is no entry itself
abbrev pub price_separator : Entry
price_separator = key_nine ++ key_os ++ in_slot 2 0

-- another row that is no more, under the key of rows 7 and 1, and row 1
abbrev pub middle_prices : List Entry
middle_prices = (key_nine ++ key_os ++ in_slot 6 0) ∷ (key_nine ++ key_os ++ in_slot 8 2) ∷ []

-- between these and the last ones; it is the first of them
abbrev pub entry_separator : Entry
entry_separator = key_nine ++ key_null ++ in_slot 10 0

-- rows 8 and 4
abbrev pub high_prices : List Entry
high_prices = (key_nine ++ key_null ++ in_slot 10 0) ∷ (key_minus_three ++ key_os ++ in_slot 1 16) ∷ []

-- 2023-07-09 in a key, as the number 20230709
abbrev pub key_day_2023 : List ℕ
key_day_2023 = 0 ∷ 1 ∷ 52 ∷ 178 ∷ 53 ∷ []

-- 2024-07-01
abbrev pub key_first_2024 : List ℕ
key_first_2024 = 0 ∷ 1 ∷ 52 ∷ 217 ∷ 61 ∷ []

-- 2024-07-31
abbrev pub key_last_2024 : List ℕ
key_last_2024 = 0 ∷ 1 ∷ 52 ∷ 217 ∷ 91 ∷ []

-- by DAY, and PRICE downwards: row 7, the rows of block 6 that are no more, of which one had the key of row 7, and rows 1,
-- 4, 2 and 8
abbrev pub sales_days : List Entry
sales_days =
    (key_day_2023 ++ key_nine ++ in_slot 1 13)
    ∷ (key_day_2023 ++ key_nine ++ in_slot 6 0)
    ∷ (key_first_2024 ++ key_hundred ++ in_slot 6 14)
    ∷ (key_last_2024 ++ key_nine ++ in_slot 8 2)
    ∷ (key_last_2024 ++ key_minus_three ++ in_slot 1 16)
    ∷ (key_null ++ key_no_price ++ in_slot 10 12)
    ∷ (key_null ++ key_nine ++ in_slot 10 0) ∷ []
