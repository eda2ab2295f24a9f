-- The words of each length are those of the grammar that have it.
use Rattle.std.proofs.Common.{sym, ◌∙◌}
use Rattle.mdc_ast.specs.Classes.{reserved}
use Rattle.sql_reader.proofs.ReservedLemmas.{list_any-of_length}
use Rattle.sql_reader.proofs.reserved.is_reserved_of.Goals as goal

pub returns-in-2 : goal.returns-in-2
returns-in-2 c = c.is_among.ensures ∙ sym (list_any-of_length c.args.word.now 2 reserved c.in-2.is)

pub returns-in-3 : goal.returns-in-3
returns-in-3 c = c.is_among-in-3.ensures ∙ sym (list_any-of_length c.args.word.now 3 reserved c.in-3.is)

pub returns-in-4 : goal.returns-in-4
returns-in-4 c = c.is_among-in-4.ensures ∙ sym (list_any-of_length c.args.word.now 4 reserved c.in-4.is)

pub returns-in-5 : goal.returns-in-5
returns-in-5 c = c.is_among-in-5.ensures ∙ sym (list_any-of_length c.args.word.now 5 reserved c.in-5.is)

pub returns-in-6 : goal.returns-in-6
returns-in-6 c = c.is_among-in-6.ensures ∙ sym (list_any-of_length c.args.word.now 6 reserved c.in-6.is)

pub returns-in-7 : goal.returns-in-7
returns-in-7 c = c.is_among-in-7.ensures ∙ sym (list_any-of_length c.args.word.now 7 reserved c.in-7.is)

pub returns-in-8 : goal.returns-in-8
returns-in-8 c = c.is_among-in-8.ensures ∙ sym (list_any-of_length c.args.word.now 8 reserved c.in-8.is)
