use Rattle.std.proofs.Common.{◌≡◌, ◌++◌, ◌∷◌, [], refl, sym, subst, ◌∙◌, arith}
use Rattle.std.specs.Prelude.{IsTrue}
use Rattle.std.proofs.lemmas.Result.{on_ok_weaker}
use Rattle.row_groups.specs.declared.grouping.Grouping.TheVariants.{ByValues}
use Rattle.row_groups.specs.Gathering.{AreGroupsOf, GroupsSoFar}
use Rattle.row_groups.specs.Lines.{grouping_of, line_of, shares_lines}
use Rattle.row_groups.specs.Naming.{AreAlike}
use Rattle.row_groups.specs.Numbers.{by_number, values_of}
use Rattle.row_groups.specs.Shape.{Shape, shape_of}
use Rattle.row_groups.proofs.LineLemmas.{by_values, by_values_else, group_grows, whole_grows, whole_line}
use Rattle.row_groups.proofs.groups.Groups.add_alike.Goals as goal

pub invariant_of-self : goal.invariant_of-self
invariant_of-self c = record { same = c.self.invariant.same; whole = λ is. let some = c.self.invariant.whole is in omega (arith, some, c.add_to_whole.ensures.longer) }

pub add_to_whole-requires : goal.add_to_whole-requires
add_to_whole-requires c = c.self.invariant.whole c.in-AllRows.is

pub returns-in-AllRows-clause-groups : goal.returns-in-AllRows-clause-groups
returns-in-AllRows-clause-groups c = λ shape rows more row are alike.
    let before : AreGroupsOf shape rows (record { shape = shape_of c.self.inside.select.now; found = c.self.inside.found; lines = c.self.inside.lines.items }) = subst (AreGroupsOf shape rows) (sym c.self.view_is) are in
    on_ok_weaker c.add_to_whole.result
    (λ added. whole_grows shape rows row more c.args.lowest c.args.count c.args.values.now _ (record { shape = shape_of c.self.inside.select.now; found = c.self.inside.found; lines = c.add_to_whole.new.lines.items }) before alike (sym c.self.invariant.same ∙ c.in-AllRows.is) refl refl added)
    (c.add_to_whole.ensures.added (line_of shape [] (values_of (by_number rows))) (whole_line shape rows _ before (sym c.self.invariant.same ∙ c.in-AllRows.is)))

pub returns-clause-groups : goal.returns-clause-groups
returns-clause-groups c = λ shape rows more row are alike.
    let before : AreGroupsOf shape rows (record { shape = shape_of c.self.inside.select.now; found = c.self.inside.found; lines = c.self.inside.lines.items }) = subst (AreGroupsOf shape rows) (sym c.self.view_is) are in
    let shared : IsTrue (shares_lines (shape_of c.self.inside.select.now)) = subst (λ (groups : GroupsSoFar). IsTrue (shares_lines groups.shape)) (sym c.self.view_is) c.requires in
    let here : grouping_of c.self.inside.select.now.outs c.self.inside.select.now.group ≡ ByValues = by_values_else (grouping_of c.self.inside.select.now.outs c.self.inside.select.now.group) shared (λ e. c.in_default.not-AllRows (c.self.invariant.same ∙ e)) in
    on_ok_weaker c.add.result
    (λ grown. group_grows shape rows (rows ++ row ∷ more) _ (record { shape = shape_of c.self.inside.select.now; found = c.add.new.self; lines = c.self.inside.lines.items }) before here refl refl grown)
    (c.add.ensures rows more row (by_values shape rows _ before here) (subst (λ (s : Shape). AreAlike s c.args.lowest c.args.count c.args.values.now row more) (sym before.shape_is) alike))
