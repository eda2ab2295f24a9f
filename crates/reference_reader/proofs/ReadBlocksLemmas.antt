-- The pages of a block, one behind the other.
use Rattle.std.proofs.Common.{◌≡◌, ◌<◌, ◌≤◌, ◌+◌, ℕ, List, [], ◌∷◌, ◌++◌, ap, sym, subst, ◌∙◌, arith, append_assoc, length, take, get_or}
use Rattle.std.specs.Prelude.{Contains, Option, map, flat_map}
use Rattle.std.specs.List.{range_with_len}
use Rattle.std.proofs.lemmas.List.{flat_map_more, get_or_default, map-append, map-id, take_more}
use Rattle.std.proofs.lemmas.List.Elements.{Contains-get_or}
use Rattle.std.proofs.lemmas.List.FromFn.{map-range_with_len_more}
use Rattle.mdc_ast.specs.declared.definition.TableDef.{TableDef}
use Rattle.mdc_ast.specs.declared.row.Row.{Row}
use Rattle.store_api.specs.Extents.{first_page_of}
use Rattle.store_api.specs.StoreState.{StoreState, page_at}
use Rattle.store_api.specs.declared.fault.Damage.{Damage}
use Rattle.store_api.specs.declared.shape.Shape.{Shape}
use Rattle.row_page.specs.RowPage.{IsRowPage, rows_of}
use Rattle.mdc_sound.specs.TableRows.{PlacedRow}
use Rattle.reference_reader.specs.ReadPages.{BreaksBlock, BreaksRowPage}
use Rattle.reference_reader.specs.ReadTables.{rows_in_slots}
use Rattle.reference_reader.proofs.ReadRowsLemmas.{rows_in_slots-append}

-- damage of a page of the block, named in a later state that tells the same
pub breaks_block : (shape : Shape) (old now : StoreState) (def : TableDef) (block place p : ℕ) (damage : Damage) → now.is_told ≡ old.is_told → now.work ≡ old.work → place < shape.extent_pages
    → p ≡ first_page_of shape.extents shape.extent_pages block + place → BreaksRowPage now def p damage → BreaksBlock shape old def block damage
breaks_block shape old now def block place p damage tells works low at b = record {
  rule = b.rule;
  place = place;
  within = low;
  page = b.page ∙ at;
  broken = λ told sound.
      let same : page_at old.work (first_page_of shape.extents shape.extent_pages block + place) ≡ page_at now.work p = ap (λ pages. page_at pages (first_page_of shape.extents shape.extent_pages block + place)) (sym works) ∙ ap (page_at now.work) (sym at) in
      b.broken (tells ∙ told) (subst (λ (bytes : List ℕ). IsRowPage def.columns bytes (rows_of def.columns bytes)) same sound);
}

-- one number more
range_more : (n : ℕ) → range_with_len 0 (n + 1) ≡ range_with_len 0 n ++ n ∷ []
range_more n = sym (map-id (range_with_len 0 (n + 1))) ∙ (map-range_with_len_more (λ x. x) 0 n n (omega arith) ∙ ap (λ front. front ++ n ∷ []) (map-id (range_with_len 0 n)))

-- the rows of one page more
pub rows_of_page_more : (slots_of : ℕ → List (Option Row)) (n : ℕ) (old now new : List Row) → now ≡ old ++ rows_in_slots (flat_map slots_of (range_with_len 0 n))
    → new ≡ now ++ rows_in_slots (slots_of n) → new ≡ old ++ rows_in_slots (flat_map slots_of (range_with_len 0 (n + 1)))
rows_of_page_more slots_of n old now new so_far pushed =
    pushed ∙ (ap (λ rows. rows ++ rows_in_slots (slots_of n)) so_far ∙ (append_assoc old (rows_in_slots (flat_map slots_of (range_with_len 0 n))) (rows_in_slots (slots_of n))
    ∙ ap (λ rows. old ++ rows) (sym (rows_in_slots-append (flat_map slots_of (range_with_len 0 n)) (slots_of n))
    ∙ ap rows_in_slots (flat_map_more slots_of [] (range_with_len 0 n) n ∙ ap (flat_map slots_of) (sym (range_more n))))))

-- the rows of one block more
pub rows_of_block_more : (rows_at : ℕ → List PlacedRow) (items : List ℕ) (i : ℕ) (now new : List Row) → i < length items → now ≡ map (λ placed. placed.row) (flat_map rows_at (take i items))
    → new ≡ now ++ map (λ placed. placed.row) (rows_at (get_or items i 0)) → new ≡ map (λ placed. placed.row) (flat_map rows_at (take (i + 1) items))
rows_of_block_more rows_at items i now new low so_far pushed =
    pushed ∙ (ap (λ rows. rows ++ map (λ placed. placed.row) (rows_at (get_or items i 0))) so_far ∙ (sym (map-append (λ placed. placed.row) (flat_map rows_at (take i items)) (rows_at (get_or items i 0)))
    ∙ ap (map (λ placed. placed.row)) (flat_map_more rows_at [] (take i items) (get_or items i 0) ∙ ap (flat_map rows_at) (sym (take_more items i 0 low)))))

-- a block that a list names at a place
pub is_listed : (items used : List ℕ) (i : ℕ) → items ≡ used → i < length items → Contains used (get_or items i 0)
is_listed items used i e low = subst (λ xs. Contains xs (get_or items i 0)) e (Contains-get_or items i 0 low)

-- what holds at each place of a list holds of each block that it names
pub judged_block : (P : ℕ → Type 0) (items used : List ℕ) (n : ℕ) → items ≡ used → length items ≤ n → ((i : ℕ) → i < n → P (get_or items i 0)) → (block : ℕ) → Contains used block → P block
judged_block P items used n e all each block there =
    let inside : Contains items block = subst (λ xs. Contains xs block) (sym e) there in
    subst P (get_or_default items inside.0 0 block inside.1 ∙ inside.2) (each inside.0 (omega (arith, all, inside.1)))
