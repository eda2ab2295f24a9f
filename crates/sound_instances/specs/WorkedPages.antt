-- The pages of the worked database, in 16 extents of 2 pages.
use Rattle.std.specs.Prelude.{ℕ, List, [], ◌∷◌, ◌++◌, replicate}
use Rattle.store_api.specs.StoreState.{zero_page}
use Rattle.extent_map.specs.Map.{map_page}
use Rattle.extent_map.specs.declared.kind.Kind.{Kind}
use Rattle.extent_map.specs.declared.kind.Kind.TheVariants.{Free, Block, Index}
use Rattle.node_page.specs.Node.{filled_page, node_bytes}
use Rattle.node_page.specs.Node.Node.{LeafNode, InnerNode}
use Rattle.table_page.specs.TablePage.{table_page}
use Rattle.table_trees.specs.ToldPages.{PageList}
use Rattle.mdc_sound.specs.SpaceRules.{stated_root}
use Rattle.sound_instances.specs.WorkedEntries.{entry_separator, high_prices, low_prices, middle_prices, price_separator, sales_cells, sales_cities, sales_days, sales_lines, sales_months}
use Rattle.sound_instances.specs.WorkedTables.{def_news, def_sales}

-- index extents, of which one has its second page in use alone, blocks of SALES, a free extent amid them, and free ones behind
abbrev pub worked_owners : List Kind
worked_owners =
    Index 3 ∷ Block 2 ∷ Index 3 ∷ Free ∷ Index 2 ∷ Block 2 ∷ Block 2 ∷ Index 3 ∷ Block 2 ∷ Index 3 ∷ Block 2 ∷ Index 3 ∷ Index 3
    ∷ replicate 3 Free

-- ---- the rows of SALES

-- a row page of SALES, which has 13 slots of 304 bytes: how many rows it states, its slot bits, and the bytes of the first slots
abbrev pub sales_page : ℕ → ℕ → ℕ → List ℕ → List ℕ
sales_page rows bits more_bits slots =
    filled_page ((82 ∷ 80 ∷ 0 ∷ 13 ∷ 0 ∷ rows ∷ []) ++ replicate 10 0 ++ (bits ∷ more_bits ∷ []) ++ slots)

-- a row as bytes: a number below 256, the null bits, DAY and MON, CITY, PRICE and HALF, NOTE with the blanks behind it, YEAR and
-- PERIOD, and NET
abbrev pub sales_slot : ℕ → List ℕ → List ℕ → List ℕ → List ℕ → List ℕ → List ℕ → List ℕ → List ℕ
sales_slot number nulls day city price note year net =
    (0 ∷ 0 ∷ 0 ∷ 0 ∷ 0 ∷ 0 ∷ 0 ∷ number ∷ []) ++ nulls ++ day ++ city ++ price ++ note ++ year ++ net

-- null bits where nothing is null
abbrev pub no_nulls : List ℕ
no_nulls = 0 ∷ 0 ∷ []

-- DAY and MON of 2023-07-09
abbrev pub july_2023 : List ℕ
july_2023 = 1 ∷ 52 ∷ 178 ∷ 53 ∷ 0 ∷ 0 ∷ 0 ∷ 7 ∷ []

-- YEAR and PERIOD of it: 2023 and 202307
abbrev pub year_2023 : List ℕ
year_2023 = 0 ∷ 0 ∷ 7 ∷ 231 ∷ 0 ∷ 3 ∷ 22 ∷ 67 ∷ []

-- DAY and MON of 2024-07-31
abbrev pub july_2024 : List ℕ
july_2024 = 1 ∷ 52 ∷ 217 ∷ 91 ∷ 0 ∷ 0 ∷ 0 ∷ 7 ∷ []

-- YEAR and PERIOD of it: 2024 and 202407
abbrev pub year_2024 : List ℕ
year_2024 = 0 ∷ 0 ∷ 7 ∷ 232 ∷ 0 ∷ 3 ∷ 22 ∷ 167 ∷ []

-- `OS` in a CHAR(4)
abbrev pub city_os : List ℕ
city_os = 79 ∷ 83 ∷ 32 ∷ 32 ∷ []

-- PRICE and HALF of 9
abbrev pub price_nine : List ℕ
price_nine = 0 ∷ 0 ∷ 0 ∷ 0 ∷ 0 ∷ 0 ∷ 0 ∷ 9 ∷ 0 ∷ 0 ∷ 0 ∷ 0 ∷ 0 ∷ 0 ∷ 0 ∷ 4 ∷ []

-- NET of it: 8
abbrev pub net_eight : List ℕ
net_eight = 0 ∷ 0 ∷ 0 ∷ 0 ∷ 0 ∷ 0 ∷ 0 ∷ 8 ∷ []

-- PRICE and HALF of -3
abbrev pub price_minus_three : List ℕ
price_minus_three = 255 ∷ 255 ∷ 255 ∷ 255 ∷ 255 ∷ 255 ∷ 255 ∷ 253 ∷ 255 ∷ 255 ∷ 255 ∷ 255 ∷ 255 ∷ 255 ∷ 255 ∷ 255 ∷ []

-- NET of it: -4
abbrev pub net_minus_four : List ℕ
net_minus_four = 255 ∷ 255 ∷ 255 ∷ 255 ∷ 255 ∷ 255 ∷ 255 ∷ 252 ∷ []

-- row 1
abbrev pub slot_one : List ℕ
slot_one = sales_slot 1 no_nulls july_2024 city_os price_nine (replicate 250 32) year_2024 net_eight

-- row 2: the null bits of all columns but NOTE
abbrev pub slot_two : List ℕ
slot_two =
    sales_slot 2 (1 ∷ 223 ∷ []) (replicate 8 0) (replicate 4 0) (replicate 16 0) ((65 ∷ 32 ∷ 66 ∷ []) ++ replicate 247 32) (replicate 8 0) (replicate 8 0)

-- row 4
abbrev pub slot_four : List ℕ
slot_four =
    sales_slot 4 no_nulls july_2024 city_os price_minus_three ((80 ∷ 65 ∷ 73 ∷ 68 ∷ []) ++ replicate 246 32) year_2024 net_minus_four

-- row 7
abbrev pub slot_seven : List ℕ
slot_seven = sales_slot 7 no_nulls july_2023 city_os price_nine ((32 ∷ 88 ∷ []) ++ replicate 248 32) year_2023 net_eight

-- row 8: the null bits of DAY, CITY and what is made of DAY
abbrev pub slot_eight : List ℕ
slot_eight = sales_slot 8 (0 ∷ 199 ∷ []) (replicate 8 0) (replicate 4 0) price_nine ((90 ∷ []) ++ replicate 249 32) (replicate 8 0) net_eight

-- row 3, which was rolled out
abbrev pub slot_three : List ℕ
slot_three = sales_slot 3 no_nulls july_2023 city_os price_nine (replicate 250 32) year_2023 net_eight

-- ---- all pages

-- the root page, 16 table pages and the map
abbrev pub worked_front : PageList
worked_front =
    stated_root 44 ∷ replicate 2 zero_page ++ table_page def_sales ∷ replicate 2 zero_page ++ table_page def_news ∷ replicate 10 zero_page
    ++ map_page worked_owners 0 ∷ []

-- The extents in order. Block 1 has rows in its second page alone; free pages, unused ones and those of the Free and the Pending
-- block have what was left there; a deleted row's bytes stand before row 1.
abbrev pub worked_extents : PageList
worked_extents =
    node_bytes 7 (LeafNode sales_lines) ∷ node_bytes 9 (LeafNode sales_months)
    ∷ sales_page 0 0 0 [] ∷ sales_page 2 144 0 (slot_seven ++ replicate 608 0 ++ slot_four)
    ∷ node_bytes 20 (LeafNode low_prices) ∷ node_bytes 9 (LeafNode sales_cities)
    ∷ node_bytes 7 (LeafNode sales_lines) ∷ zero_page
    ∷ filled_page (76 ∷ []) ∷ node_bytes 14 (LeafNode sales_cells)
    ∷ filled_page (replicate 99 255) ∷ sales_page 1 128 0 slot_seven
    ∷ sales_page 1 128 0 slot_three ∷ sales_page 3 0 0 []
    ∷ node_bytes 7 (LeafNode []) ∷ node_bytes 20 (InnerNode (price_separator ∷ []) (22 ∷ 42 ∷ []))
    ∷ sales_page 1 32 0 (replicate 608 255 ++ slot_one) ∷ sales_page 0 0 0 []
    ∷ node_bytes 20 (LeafNode sales_days) ∷ node_bytes 13 (LeafNode [])
    ∷ sales_page 2 128 8 (slot_eight ++ replicate 3344 0 ++ slot_two) ∷ sales_page 0 0 0 []
    ∷ node_bytes 20 (LeafNode middle_prices) ∷ node_bytes 13 (LeafNode [])
    ∷ node_bytes 20 (InnerNode (entry_separator ∷ []) (40 ∷ 43 ∷ [])) ∷ node_bytes 20 (LeafNode high_prices) ∷ []

-- all of them
abbrev pub worked_pages : PageList
worked_pages = worked_front ++ worked_extents
