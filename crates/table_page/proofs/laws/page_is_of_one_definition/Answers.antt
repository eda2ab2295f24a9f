use Rattle.table_page.proofs.TablePageLemmas.{no_blank_table, one_definition}
use Rattle.table_page.proofs.laws.page_is_of_one_definition.Goals as goal

pub returns : goal.returns
returns c = record { one = one_definition; none = no_blank_table }
