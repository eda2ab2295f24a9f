-- Which rules make up which part of soundness, and what pages are with a definition in hand.
use Rattle.std.proofs.Common.{◌≡◌, ◌≢◌, ◌<◌, ◌+◌, ℕ, [], length, refl, arith, sym, ◌∙◌}
use Rattle.std.proofs.lemmas.List.{get_or-set_other, length-set}
use Rattle.mdc_ast.specs.declared.definition.TableDef.{TableDef}
use Rattle.store_api.specs.Frame.{OnlyPage, Touches}
use Rattle.store_api.specs.StoreState.{page_at}
use Rattle.table_page.specs.TablePage.{table_page}
use Rattle.store_api.specs.Extents.{first_page_of}
use Rattle.store_api.specs.declared.shape.Shape.{Shape}
use Rattle.entry_tree.specs.Forest.{Forest}
use Rattle.table_trees.specs.ToldPages.{PageList, told_pages}
use Rattle.mdc_sound.specs.SoundDatabase.{KeepAllRules, IsSoundInParts, with_table_page}
use Rattle.mdc_sound.specs.SpaceRules.{DatabaseView}
use Rattle.mdc_sound.specs.TableRows.{rows_in_table}
use Rattle.mdc_sound.proofs.TableRowsLemmas.{rows_in_table-kept}

pub parts_of_rules : (shape : Shape) (pages : PageList) (view : DatabaseView) → KeepAllRules shape pages view → IsSoundInParts shape pages view
parts_of_rules shape pages view keeps = record {
  space = record {
    root = keeps.first.rule1;
    extents = keeps.first.rule2;
    tables = keeps.first.rule3;
    trees = keeps.first.rule4;
    tree_pages = keeps.first.rule5;
    block_maps = keeps.first.rule6;
    idle_counts = keeps.first.rule8.idle;
  };
  blocks = record {
    rows = keeps.first.rule7;
    used_counts = keeps.first.rule8.used;
    cells = keeps.first.rule9;
    block_indexes = keeps.first.rule10;
    numbers = keeps.rule12.numbers;
    unique = keeps.rule12.unique;
  };
  indexes = keeps.rule11;
}

pub rules_of_parts : (shape : Shape) (pages : PageList) (view : DatabaseView) → IsSoundInParts shape pages view → KeepAllRules shape pages view
rules_of_parts shape pages view sound = record {
  first = record {
    rule1 = sound.space.root;
    rule2 = sound.space.extents;
    rule3 = sound.space.tables;
    rule4 = sound.space.trees;
    rule5 = sound.space.tree_pages;
    rule6 = sound.space.block_maps;
    rule7 = sound.blocks.rows;
    rule8 = record { used = sound.blocks.used_counts; idle = sound.space.idle_counts };
    rule9 = sound.blocks.cells;
    rule10 = sound.blocks.block_indexes;
  };
  rule11 = sound.indexes;
  rule12 = record { numbers = sound.blocks.numbers; unique = sound.blocks.unique };
}

-- ---- with a definition in hand

-- there are as many pages, and each other one is as it is
pub length-with_table_page : (def : TableDef) (pages : PageList) → length (with_table_page def pages) ≡ length pages
length-with_table_page def pages = length-set pages (1 + def.number) (table_page def)

pub page_at-with_table_page : (def : TableDef) (pages : PageList) (p : ℕ) → p ≢ 1 + def.number → page_at (with_table_page def pages) p ≡ page_at pages p
page_at-with_table_page def pages p other = get_or-set_other pages (1 + def.number) p (table_page def) [] other

pub without_table_page : (def : TableDef) (pages : PageList) → Touches told_pages (OnlyPage (1 + def.number)) (with_table_page def pages) pages
without_table_page def pages = record {
  others = λ p bytes other holds. record {
    is_told = refl;
    within = omega (arith, holds.within, length-with_table_page def pages);
    bytes_are = sym (page_at-with_table_page def pages p other) ∙ holds.bytes_are;
  };
}

pub put_table_page : (def : TableDef) (pages : PageList) → Touches told_pages (OnlyPage (1 + def.number)) pages (with_table_page def pages)
put_table_page def pages = record {
  others = λ p bytes other holds. record {
    is_told = refl;
    within = omega (arith, holds.within, length-with_table_page def pages);
    bytes_are = page_at-with_table_page def pages p other ∙ holds.bytes_are;
  };
}

-- no block lies on a table page, so the rows of all tables are as they are
pub rows_with_table_page : (shape : Shape) (def : TableDef) (pages : PageList) → def.number < 16 → (other : TableDef) (map_tree : Forest)
    → rows_in_table shape (with_table_page def pages) other map_tree ≡ rows_in_table shape pages other map_tree
rows_with_table_page shape def pages low other map_tree =
    rows_in_table-kept shape pages (with_table_page def pages) other map_tree
    (λ block used. record { each = λ j within. page_at-with_table_page def pages (first_page_of shape.extents shape.extent_pages block + j) (λ e. omega (arith, e, low)) })
