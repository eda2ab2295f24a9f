use Rattle.sound_instances.proofs.BrokenBlocksLemmas.{breaks_cell, breaks_idle_count, breaks_row, breaks_row_page, breaks_used_count}
use Rattle.sound_instances.proofs.BrokenIndexesLemmas.{breaks_block_index, breaks_record_index, breaks_row_numbers, breaks_unique}
use Rattle.sound_instances.proofs.BrokenSpaceLemmas.{breaks_block_map, breaks_extents, breaks_root, breaks_root_outside, breaks_shared_page, breaks_table_page, breaks_tree}
use Rattle.sound_instances.proofs.laws.one_byte_breaks_each_rule.Goals as goal

pub returns-clause-root_page : goal.returns-clause-root_page
returns-clause-root_page c = breaks_root

pub returns-clause-extent_map : goal.returns-clause-extent_map
returns-clause-extent_map c = breaks_extents

pub returns-clause-table_page : goal.returns-clause-table_page
returns-clause-table_page c = breaks_table_page

pub returns-clause-root_outside : goal.returns-clause-root_outside
returns-clause-root_outside c = breaks_root_outside

pub returns-clause-tree : goal.returns-clause-tree
returns-clause-tree c = breaks_tree

pub returns-clause-shared_page : goal.returns-clause-shared_page
returns-clause-shared_page c = breaks_shared_page

pub returns-clause-block_map : goal.returns-clause-block_map
returns-clause-block_map c = breaks_block_map

pub returns-clause-row_page : goal.returns-clause-row_page
returns-clause-row_page c = breaks_row_page

pub returns-clause-row : goal.returns-clause-row
returns-clause-row c = breaks_row

pub returns-clause-used_count : goal.returns-clause-used_count
returns-clause-used_count c = breaks_used_count

pub returns-clause-idle_count : goal.returns-clause-idle_count
returns-clause-idle_count c = breaks_idle_count

pub returns-clause-cell : goal.returns-clause-cell
returns-clause-cell c = breaks_cell

pub returns-clause-block_index : goal.returns-clause-block_index
returns-clause-block_index c = breaks_block_index

pub returns-clause-record_index : goal.returns-clause-record_index
returns-clause-record_index c = breaks_record_index

pub returns-clause-row_numbers : goal.returns-clause-row_numbers
returns-clause-row_numbers c = breaks_row_numbers

pub returns-clause-unique : goal.returns-clause-unique
returns-clause-unique c = breaks_unique
