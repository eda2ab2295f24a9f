use Rattle.std.proofs.Common.{[], refl, sym, subst, ◌∙◌}
use Rattle.std.specs.Prelude.{IsTrue}
use Rattle.std.proofs.lemmas.Result.{on_ok_weaker}
use Rattle.row_groups.specs.Gathering.{AreGroupsOf, GroupsSoFar}
use Rattle.row_groups.specs.Lines.{grouping_of, shares_lines}
use Rattle.row_groups.specs.Shape.{shape_of}
use Rattle.row_groups.proofs.AlikeLemmas.{alike_itself}
use Rattle.row_groups.proofs.LineLemmas.{each_grows, shared_else}
use Rattle.row_groups.proofs.groups.Groups.add.Goals as goal

pub add_alike-requires : goal.add_alike-requires
add_alike-requires c =
    subst (λ (groups : GroupsSoFar). IsTrue (shares_lines groups.shape)) c.self.view_is
    (shared_else (grouping_of c.self.inside.select.now.outs c.self.inside.select.now.group) (λ e. c.in_default.not-EachRow (c.self.invariant.same ∙ e)))

pub returns-clause-groups : goal.returns-clause-groups
returns-clause-groups c = λ shape rows are. c.add_alike.ensures.groups shape rows [] (record { number = c.args.number; values = c.args.values.now }) are (alike_itself shape (record { number = c.args.number; values = c.args.values.now }))

pub returns-in-EachRow-clause-groups : goal.returns-in-EachRow-clause-groups
returns-in-EachRow-clause-groups c = λ shape rows are.
    let before : AreGroupsOf shape rows (record { shape = shape_of c.self.inside.select.now; found = c.self.inside.found; lines = c.self.inside.lines.items }) = subst (AreGroupsOf shape rows) (sym c.self.view_is) are in
    on_ok_weaker c.add_line.result
    (λ added. each_grows shape rows (record { number = c.args.number; values = c.args.values.now }) _ (record { shape = shape_of c.self.inside.select.now; found = c.self.inside.found; lines = c.add_line.new.lines.items }) before
    (sym c.self.invariant.same ∙ c.in-EachRow.is) refl refl added)
    c.add_line.ensures.added
