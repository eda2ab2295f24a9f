-- What an INSERT asks for, added up: blocks, entries in the trees of blocks, and entries in record indexes.
use Rattle.std.proofs.Common.{◌≡◌, ◌<◌, ◌≤◌, ◌+◌, ◌*◌, ℕ, zero, suc, List, [], ◌∷◌, ◌++◌, length, map, cond, refl, ap, arith, sym, subst, ◌∙◌}
use Rattle.std.specs.Prelude.{Contains, slice_index_or, sum_by, zip}
use Rattle.std.specs.Str.{bytes_eq}
use Rattle.std.proofs.lemmas.List.{append_assoc}
use Rattle.std.proofs.lemmas.List.Elements.{Contains-append_left, Contains-append_right}
use Rattle.std.proofs.lemmas.List.Sums.{sum_by-append, sum_by-cons}
use Rattle.mdc_words.specs.ByteOrder.{Entry}
use Rattle.mdc_values.specs.declared.rid.Rid.{Rid}
use Rattle.mdc_ast.specs.declared.definition.IndexDef.{IndexDef}
use Rattle.mdc_ast.specs.declared.definition.TableDef.{TableDef}
use Rattle.mdc_ast.specs.declared.row.Row.{Row}
use Rattle.key_codec.specs.Keys.{ArePartsOf}
use Rattle.row_page.specs.RowPage.{count_rows}
use Rattle.entry_tree.specs.Forest.{once}
use Rattle.block_map.specs.MapLines.{map_entry}
use Rattle.block_map.proofs.MapLinesLemmas.{contains_more}
use Rattle.table_trees.specs.SpaceChanges.{SpaceChange, added_entries}
use Rattle.table_trees.specs.SpaceChanges.SpaceChange.{AddEntry, AmendEntry, ClaimBlock}
use Rattle.table_trees.specs.TableTrees.{TreePlace, block_entry, block_index_places, cell_parts, composite_place, dimension_place, map_place, record_place, record_places, rising_parts, tree_places}
use Rattle.mdc_sound.specs.Placing.{HasRoomFor, HoldsNowhere, IsFreeBlock, IsFreeExtent, IsLowestAt, PutsRow, Spot, SpotsAfterClaims, begun_with}
use Rattle.mdc_sound.specs.Placing.Spot.{FreeExtent, IndexExtent, OtherBlock, FreeBlock, PendingBlock, UsedBlock}
use Rattle.mdc_sound.specs.RunningFull.{HasNoSpot, InsertingChanges, block_changes, block_listings, listings_in, putting_changes, row_listings}
use Rattle.mdc_sound.specs.TightPages.{HaveRoomOnce, key_of_cell, rows_of_cell}
use Rattle.tight_space.specs.PuttingChanges.{AllFit, ArePutting}
use Rattle.tight_space.proofs.CellBlocksLemmas.{needed, needed_le, rows_of_cell-cons}
use Rattle.tight_space.proofs.TightChainsLemmas.{adds, adds_by, claims, claims_by, made_sum}
use Rattle.tight_space.proofs.TightSpotsLemmas.{AreTightSpots, PutsTight, all_rows, blocks_most, claims_rows, claims_tight, claims_used, fresh_by, put_counts, puts_tight, used_by, used_count}

-- ---- entries that are added

-- how often a root stands in places
abbrev pub roots_at : ℕ → List TreePlace → ℕ
roots_at root places = sum_by (λ (place : TreePlace). once root place.root) places

listed_places : List (TreePlace × Entry) → List TreePlace
listed_places listings = map (λ listing. listing.0) listings

adds_listed : (root : ℕ) (listings : List (TreePlace × Entry)) → adds root (added_entries listings) ≡ roots_at root (listed_places listings)
unfolding listed_places
adds_listed root [] = refl
adds_listed root (l ∷ listings) =
    omega (
      arith,
      adds_listed root listings,
      sum_by-cons (adds_by root) (AddEntry l.0 l.1) (added_entries listings),
      sum_by-cons (λ (place : TreePlace). once root place.root) l.0 (map (λ (listing : TreePlace × Entry). listing.0) listings),
    )

claims_listed : (listings : List (TreePlace × Entry)) → claims (added_entries listings) ≡ 0
claims_listed [] = refl
claims_listed (l ∷ listings) = omega (arith, claims_listed listings, sum_by-cons claims_by (AddEntry l.0 l.1) (added_entries listings))

dimension_listed : (def : TableDef) (row : Row) (block : ℕ) (pairs : List (List ℕ × ℕ))
    → listed_places (map (λ pair. (dimension_place def pair.0 pair.1, block_entry def.columns (rising_parts pair.0) row.values block)) pairs) ≡ map (λ pair. dimension_place def pair.0 pair.1) pairs
unfolding listed_places
dimension_listed def row block [] = refl
dimension_listed def row block (pair ∷ pairs) = ap (λ more. dimension_place def pair.0 pair.1 ∷ more) (dimension_listed def row block pairs)

blocks_listed : (def : TableDef) (row : Row) (block : ℕ) → listed_places (block_listings def row block) ≡ block_index_places def
unfolding listed_places
blocks_listed def row block = ap (λ more. composite_place def ∷ more) (dimension_listed def row block (zip def.dims def.roots.dims))

records_listed : (def : TableDef) (indexes : List IndexDef) (row : Row) (rid : Rid) → listed_places (listings_in def indexes row rid) ≡ map (record_place def) indexes
unfolding listed_places
records_listed def [] row rid = refl
records_listed def (index ∷ indexes) row rid = ap (λ more. record_place def index ∷ more) (records_listed def indexes row rid)

-- the trees of a table that have an entry a block
abbrev pub block_places : TableDef → List TreePlace
block_places def = map_place def ∷ block_index_places def

module _ (def : TableDef) (row : Row) (rid : Rid) where
  records_added : (root : ℕ) → adds root (added_entries (row_listings def row rid)) ≡ roots_at root (record_places def)
  records_added root = adds_listed root (row_listings def row rid) ∙ ap (roots_at root) (records_listed def def.indexes row rid)

  -- what a row asks for that is put into a spot which is no Free block
  pub put_claims : (spot : Spot) → (spot ≡ FreeBlock → ⊥) → claims (putting_changes def row rid spot) ≡ fresh_by spot
  put_claims FreeExtent none =
      omega (
        arith,
        sum_by-append claims_by (block_changes def row rid.block FreeExtent) (added_entries (row_listings def row rid)),
        claims_listed (row_listings def row rid),
        sum_by-cons claims_by (ClaimBlock def.number rid.block) (AddEntry (map_place def) (map_entry rid.block 1 1) ∷ added_entries (block_listings def row rid.block)),
        sum_by-cons claims_by (AddEntry (map_place def) (map_entry rid.block 1 1)) (added_entries (block_listings def row rid.block)),
        claims_listed (block_listings def row rid.block),
      )
  put_claims FreeBlock none = absurd (none refl)
  put_claims IndexExtent none = claims_listed (row_listings def row rid)
  put_claims OtherBlock none = claims_listed (row_listings def row rid)
  put_claims PendingBlock none = claims_listed (row_listings def row rid)
  put_claims (UsedBlock slots) none = claims_listed (row_listings def row rid)

  pub put_adds : (root : ℕ) (spot : Spot) → (spot ≡ FreeBlock → ⊥) → adds root (putting_changes def row rid spot) ≡ roots_at root (block_places def) * fresh_by spot + roots_at root (record_places def)
  put_adds root FreeExtent none =
      let product : roots_at root (block_places def) * 1 ≡ roots_at root (block_places def) = omega arith in
      omega (
        arith,
        product,
        sum_by-append (adds_by root) (block_changes def row rid.block FreeExtent) (added_entries (row_listings def row rid)),
        records_added root,
        sum_by-cons (adds_by root) (ClaimBlock def.number rid.block) (AddEntry (map_place def) (map_entry rid.block 1 1) ∷ added_entries (block_listings def row rid.block)),
        sum_by-cons (adds_by root) (AddEntry (map_place def) (map_entry rid.block 1 1)) (added_entries (block_listings def row rid.block)),
        adds_listed root (block_listings def row rid.block),
        ap (roots_at root) (blocks_listed def row rid.block),
        sum_by-cons (λ (place : TreePlace). once root place.root) (map_place def) (block_index_places def),
      )
  put_adds root FreeBlock none = absurd (none refl)
  put_adds root IndexExtent none = omega (arith, records_added root)
  put_adds root OtherBlock none = omega (arith, records_added root)
  put_adds root PendingBlock none = omega (arith, records_added root)
  put_adds root (UsedBlock slots) none =
      omega (
        arith,
        records_added root,
        sum_by-cons (adds_by root) (AmendEntry (map_place def) (map_entry rid.block 1 (count_rows slots)) (map_entry rid.block 1 (count_rows slots + 1))) (added_entries (row_listings def row rid)),
      )

-- ---- they only put

putting_joined : (places : List TreePlace) (listings : List (TreePlace × Entry)) (changes : List SpaceChange) → ((place : TreePlace) → Contains (listed_places listings) place → Contains places place) → ArePutting places changes
    → ArePutting places (added_entries listings ++ changes)
unfolding listed_places
putting_joined places [] changes there rest = rest
putting_joined places (l ∷ listings) changes there rest = (there l.0 (0, omega arith, refl), putting_joined places listings changes (λ place in_it. there place (contains_more place l.0 (map (λ (listing : TreePlace × Entry). listing.0) listings) in_it)) rest)

module _ (def : TableDef) (places : List TreePlace) (all : (place : TreePlace) → Contains (tree_places def) place → Contains places place) where
  in_map : Contains places (map_place def)
  in_map = all (map_place def) (0, omega arith, refl)

  in_blocks : (row : Row) (block : ℕ) (place : TreePlace) → Contains (listed_places (block_listings def row block)) place → Contains places place
  in_blocks row block place there =
      all place (contains_more place (map_place def) (block_index_places def ++ record_places def) (Contains-append_left (block_index_places def) (record_places def) place
      (subst (λ (ps : List TreePlace). Contains ps place) (blocks_listed def row block) there)))

  in_records : (row : Row) (rid : Rid) (place : TreePlace) → Contains (listed_places (row_listings def row rid)) place → Contains places place
  in_records row rid place there =
      all place (contains_more place (map_place def) (block_index_places def ++ record_places def) (Contains-append_right (block_index_places def) (record_places def) place
      (subst (λ (ps : List TreePlace). Contains ps place) (records_listed def def.indexes row rid) there)))

  put_putting : (row : Row) (rid : Rid) (spot : Spot) (changes : List SpaceChange) → ArePutting places changes → ArePutting places (putting_changes def row rid spot ++ changes)
  put_putting row rid spot changes rest =
      subst (ArePutting places) (sym (append_assoc (block_changes def row rid.block spot) (added_entries (row_listings def row rid)) changes))
      (go spot (putting_joined places (row_listings def row rid) changes (in_records row rid) rest))
    where
      go : (s : Spot) → ArePutting places (added_entries (row_listings def row rid) ++ changes) → ArePutting places (block_changes def row rid.block s ++ (added_entries (row_listings def row rid) ++ changes))
      go FreeExtent more = (tt, (in_map, putting_joined places (block_listings def row rid.block) (added_entries (row_listings def row rid) ++ changes) (in_blocks row rid.block) more))
      go FreeBlock more = (in_map, putting_joined places (block_listings def row rid.block) (added_entries (row_listings def row rid) ++ changes) (in_blocks row rid.block) more)
      go (UsedBlock slots) more = (in_map, more)
      go IndexExtent more = more
      go OtherBlock more = more
      go PendingBlock more = more

  pub inserting_putting : (n : ℕ) (spots : List Spot) (rows : List Row) (changes : List SpaceChange) → InsertingChanges def n spots rows changes → ArePutting places changes
  inserting_putting n spots rows [] InsertingChanges.none = tt
  inserting_putting n old (row ∷ rows) changes (InsertingChanges.one rid puts claims more) = put_putting row rid (slice_index_or old rid.block OtherBlock) _ (inserting_putting n _ rows _ more)
  inserting_putting n spots (row ∷ rows) changes (InsertingChanges.stuck none) = (tt, tt)

-- no tree is made
no_tree_listed : (listings : List (TreePlace × Entry)) (changes : List SpaceChange) → made_sum (added_entries listings ++ changes) ≡ made_sum changes
no_tree_listed [] changes = refl
no_tree_listed (l ∷ listings) changes = omega (arith, no_tree_listed listings changes)

no_tree_put : (def : TableDef) (row : Row) (rid : Rid) (spot : Spot) (changes : List SpaceChange) → made_sum (putting_changes def row rid spot ++ changes) ≡ made_sum changes
no_tree_put def row rid spot changes = ap made_sum (append_assoc (block_changes def row rid.block spot) (added_entries (row_listings def row rid)) changes) ∙ go spot (no_tree_listed (row_listings def row rid) changes)
  where
    go : (s : Spot) → made_sum (added_entries (row_listings def row rid) ++ changes) ≡ made_sum changes → made_sum (block_changes def row rid.block s ++ (added_entries (row_listings def row rid) ++ changes)) ≡ made_sum changes
    go FreeExtent more = omega (arith, no_tree_listed (block_listings def row rid.block) (added_entries (row_listings def row rid) ++ changes), more)
    go FreeBlock more = omega (arith, no_tree_listed (block_listings def row rid.block) (added_entries (row_listings def row rid) ++ changes), more)
    go (UsedBlock slots) more = omega (arith, more)
    go IndexExtent more = more
    go OtherBlock more = more
    go PendingBlock more = more

pub no_tree_inserted : (def : TableDef) (n : ℕ) (spots : List Spot) (rows : List Row) (changes : List SpaceChange) → InsertingChanges def n spots rows changes → made_sum changes ≡ 0
no_tree_inserted def n spots rows [] InsertingChanges.none = refl
no_tree_inserted def n old (row ∷ rows) changes (InsertingChanges.one rid puts claims more) = no_tree_put def row rid (slice_index_or old rid.block OtherBlock) _ ∙ no_tree_inserted def n _ rows _ more
no_tree_inserted def n spots (row ∷ rows) changes (InsertingChanges.stuck none) = refl

-- ---- all rows of an INSERT

-- blocks and entries that the changes of an INSERT ask for
pub record AsksNoMore (def : TableDef) (n : ℕ) (spots : List Spot) (rows : List Row) (changes : List SpaceChange) : Type 0 where
  pub blocks : used_count spots + claims changes ≤ needed def n (all_rows spots ++ rows)
  pub entries : (root : ℕ) → adds root changes ≤ roots_at root (block_places def) * claims changes + roots_at root (record_places def) * length rows

module _ (def : TableDef) (n : ℕ) (some : 0 < n) (parts : ArePartsOf def.columns (cell_parts def)) where
  -- more rows need no fewer blocks
  behind_counts : (k : Entry) (xs rows : List Row) → rows_of_cell def k (xs ++ rows) ≡ rows_of_cell def k xs + rows_of_cell def k rows
  behind_counts k xs rows = sum_by-append (λ (one : Row). cond (bytes_eq (key_of_cell def one) k) 1 0) xs rows

  more_needed : (xs rows : List Row) → needed def n xs ≤ needed def n (xs ++ rows)
  more_needed xs rows = needed_le def def n xs (xs ++ rows) some (λ k. omega (arith, behind_counts k xs rows))

  asks_one : (old mid next : List Spot) (row : Row) (rows : List Row) (changes : List SpaceChange) (rid : Rid) → AreTightSpots def n old → PutsTight def n old mid (slice_index_or old rid.block OtherBlock)
      → PutsRow def n old row mid rid → SpotsAfterClaims mid next → AsksNoMore def n next rows changes
      → AsksNoMore def n old (row ∷ rows) (putting_changes def row rid (slice_index_or old rid.block OtherBlock) ++ changes)
  asks_one old mid next row rows changes rid tight put puts after rest =
      let spot = slice_index_or old rid.block OtherBlock in
      let first = putting_changes def row rid spot in
      let count : claims (first ++ changes) ≡ fresh_by spot + claims changes = omega (arith, sum_by-append claims_by first changes, put_claims def row rid spot put.no_free_block) in record {
        blocks =
            let same : needed def n (all_rows next ++ rows) ≤ needed def n (all_rows old ++ row ∷ rows) =
            needed_le def def n (all_rows next ++ rows) (all_rows old ++ row ∷ rows) some
            (λ k. omega (
              arith,
              behind_counts k (all_rows next) rows,
              behind_counts k (all_rows old) (row ∷ rows),
              rows_of_cell-cons def k row rows,
              rows_of_cell-cons def k row (all_rows old),
              ap (rows_of_cell def k) (claims_rows def n mid next after),
              put_counts def n old mid row rid k some puts,
            )) in
            omega (arith, rest.blocks, claims_used def n mid next after, put.used, count, same);
        entries = λ root.
            let b = roots_at root (block_places def) in
            let r = roots_at root (record_places def) in
            let blocks : b * claims (first ++ changes) ≡ b * fresh_by spot + b * claims changes = ap (λ k. b * k) count ∙ omega arith in
            let records : r * suc (length rows) ≡ r + r * length rows = omega arith in
            omega (arith, rest.entries root, sum_by-append (adds_by root) first changes, put_adds def row rid root spot put.no_free_block, blocks, records);
      }

  -- a free extent in front of the spots, into which a row may go that has no spot
  front_tight : (spots : List Spot) → AreTightSpots def n spots → AreTightSpots def n (FreeExtent ∷ spots)
  front_tight spots tight = record { each = (tt, tight.each); once = once_now }
    where
      once_now : HaveRoomOnce def (FreeExtent ∷ spots)
      once_now row zero f a b = absurd a
      once_now row (suc e) zero a b = absurd b
      once_now row (suc e) (suc f) a b = (let same = tight.once row e f a b in omega (arith, same))

  front_nowhere : (P : Spot → Type 0) (spots : List Spot) → (P FreeExtent → ⊥) → HoldsNowhere P spots → HoldsNowhere P (FreeExtent ∷ spots)
  front_nowhere P spots not none zero d low is = not is
  front_nowhere P spots not none (suc k) d low is = none k d (omega (arith, low)) is

  front_lowest : (spots : List Spot) → IsLowestAt IsFreeExtent (FreeExtent ∷ spots) 0 FreeExtent
  front_lowest spots = record { within = omega arith; is_it = λ d. refl; holds = tt; lowest = λ k d less. absurd (omega (arith, less)) }

  front_puts : (spots : List Spot) (row : Row) → HasNoSpot def spots row → PutsRow def n (FreeExtent ∷ spots) row (begun_with n row ∷ spots) (record { block = 0; slot = 0 })
  front_puts spots row none =
      PutsRow.in_free_extent 0 (front_nowhere (HasRoomFor def row) spots (λ room. room) none.0) (front_nowhere IsFreeBlock spots (λ free. free) none.1) (front_lowest spots) refl

  pub inserting_asks : (spots : List Spot) (rows : List Row) (changes : List SpaceChange) → AreTightSpots def n spots → AllFit def rows → InsertingChanges def n spots rows changes → AsksNoMore def n spots rows changes
  inserting_asks spots rows [] tight fits InsertingChanges.none = record {
    blocks = omega (arith, blocks_most def n parts some spots tight.each tight.once, more_needed (all_rows spots) rows);
    entries = λ root. omega arith;
  }
  inserting_asks old (row ∷ rows) changes tight fits (InsertingChanges.one rid puts after more) =
      let put = puts_tight def n some old row fits.0 tight _ rid puts in
      asks_one old _ _ row rows _ rid tight put puts after (inserting_asks _ rows _ (claims_tight def n _ _ after put.tight) fits.1 more)
  inserting_asks spots (row ∷ rows) changes tight fits (InsertingChanges.stuck none) =
      let puts = front_puts spots row none in
      let put = puts_tight def n some (FreeExtent ∷ spots) row fits.0 (front_tight spots tight) (begun_with n row ∷ spots) (record { block = 0; slot = 0 }) puts in
      let most = blocks_most def n parts some (begun_with n row ∷ spots) put.tight.each put.tight.once in
      let same : needed def n (all_rows (begun_with n row ∷ spots)) ≤ needed def n (all_rows spots ++ row ∷ rows) =
      needed_le def def n (all_rows (begun_with n row ∷ spots)) (all_rows spots ++ row ∷ rows) some
      (λ k. omega (
        arith,
        put_counts def n (FreeExtent ∷ spots) (begun_with n row ∷ spots) row (record { block = 0; slot = 0 }) k some puts,
        behind_counts k (all_rows spots) (row ∷ rows),
        rows_of_cell-cons def k row rows,
        rows_of_cell-cons def k row (all_rows spots),
      )) in record {
        blocks = omega (arith, most, same, put.used, sum_by-cons used_by FreeExtent spots);
        entries = λ root. omega arith;
      }
