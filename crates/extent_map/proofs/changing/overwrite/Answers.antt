use Rattle.std.proofs.Common.{ap, sym, ◌∙◌, length}
use Rattle.std.specs.Result.{is_ok}
use Rattle.store_api.proofs.RunsOverPagesLemmas.{runs_edit}
use Rattle.extent_map.proofs.changing.overwrite.Goals as goal

pub returns-clause-runs : goal.returns-clause-runs
returns-clause-runs g c = runs_edit c.args.p _ (c.edit.follows.holds c.put_bytes.new.page (ap is_ok c.in_ok-edit.was))

pub returns-clause-whole : goal.returns-clause-whole
returns-clause-whole g c = λ was holds. ap length (sym holds.bytes_are ∙ sym (c.in_ok-edit.ensures.page holds.is_told)) ∙ c.put_bytes.ensures.whole
