-- A table page that is written leaves the spots of every table: no block lies on it.
use Rattle.std.proofs.Common.{◌≡◌, ◌<◌, ◌+◌, ◌==◌, ℕ, cond, refl, ap, arith}
use Rattle.mdc_words.proofs.ListedLemmas.{listed_same}
use Rattle.mdc_ast.specs.declared.definition.TableDef.{TableDef}
use Rattle.store_api.specs.Extents.{first_page_of}
use Rattle.store_api.specs.declared.shape.Shape.{Shape}
use Rattle.extent_map.specs.Owners.{owner_of}
use Rattle.extent_map.specs.declared.kind.Kind.{Kind}
use Rattle.extent_map.specs.declared.kind.Kind.TheVariants.{Free, Block, Index}
use Rattle.entry_tree.specs.Forest.{Forest}
use Rattle.block_map.specs.MapLines.{map_lines, mapped_state}
use Rattle.table_trees.specs.ToldPages.{PageList}
use Rattle.mdc_sound.specs.Placing.{spot_of_kind, spot_of_state, table_spots}
use Rattle.mdc_sound.specs.Placing.Spot.{OtherBlock}
use Rattle.mdc_sound.specs.SoundDatabase.{with_table_page}
use Rattle.mdc_sound.specs.TableRows.{block_slots}
use Rattle.mdc_sound.proofs.SoundDatabaseLemmas.{page_at-with_table_page}
use Rattle.mdc_sound.proofs.TableRowsLemmas.{block_slots-kept}
use Rattle.std.specs.Prelude.{List}

module _ (shape : Shape) (written : TableDef) (pages : PageList) (low : written.number < 16) where
  slots_stay : (def : TableDef) (block : ℕ) → block_slots shape (with_table_page written pages) def block ≡ block_slots shape pages def block
  slots_stay def block =
      block_slots-kept shape pages (with_table_page written pages) def block
      (record { each = λ j within. page_at-with_table_page written pages (first_page_of shape.extents shape.extent_pages block + j) (λ e. omega (arith, e, low)) })

  spot_stays : (def : TableDef) (map_tree : Forest) (e : ℕ) (kind : Kind) → spot_of_kind shape (with_table_page written pages) def map_tree e kind ≡ spot_of_kind shape pages def map_tree e kind
  spot_stays def map_tree e Free = refl
  spot_stays def map_tree e (Index used) = refl
  spot_stays def map_tree e (Block t) = ap (λ slots. cond (t == def.number) (spot_of_state (mapped_state e (map_lines map_tree)) slots) OtherBlock) (slots_stay def e)

  pub spots_with_table_page : (def : TableDef) (owners : List Kind) (map_tree : Forest) → table_spots shape (with_table_page written pages) def owners map_tree ≡ table_spots shape pages def owners map_tree
  spots_with_table_page def owners map_tree =
      listed_same shape.extents (λ e. spot_of_kind shape (with_table_page written pages) def map_tree e (owner_of owners e)) (λ e. spot_of_kind shape pages def map_tree e (owner_of owners e))
      (λ e within. spot_stays def map_tree e (owner_of owners e))
