use Rattle.std.proofs.Common.{◌≡◌, ◌++◌, ◌∷◌, List, ℕ, Some, ap, sym, subst, ◌∙◌}
use Rattle.std.specs.Prelude.{IsTrue}
use Rattle.std.specs.Map.{lookup}
use Rattle.std.specs.Str.{bytes_eq}
use Rattle.std.proofs.lemmas.Result.{on_ok_weaker}
use Rattle.row_groups.specs.Adding.{Numbered}
use Rattle.row_groups.specs.Gathering.{AreFound, IsPlaceOf, entries_of, lines_at}
use Rattle.row_groups.specs.Keys.{are_small, group_key}
use Rattle.row_groups.specs.Shape.{shape_of}
use Rattle.row_groups.proofs.PlaceLemmas.{line_grows}
use Rattle.row_groups.proofs.keyed_lines.KeyedLines.add.Goals as goal

pub returns-then-is_key : goal.returns-then-is_key
returns-then-is_key c = λ rows more row are alike.
    let same = c.is_key.ensures c.if-is_key.true in
    let is : c.self.inside.key.items ≡ group_key c.args.select.now.group c.args.values.now = sym c.as_slice.ensures.value ∙ same.0 ∙ ap (λ (columns : List ℕ). group_key columns c.args.values.now) c.as_slice-in-Some.ensures in
    let small : IsTrue (are_small c.args.select.now.group c.args.values.now) = subst (λ (columns : List ℕ). IsTrue (are_small columns c.args.values.now)) c.as_slice-in-Some.ensures same.1 in
    let there : lookup (bytes_eq c.self.inside.key.items) (entries_of c.self.inside.places) ≡ Some c.in-Some.place = subst (λ at. IsPlaceOf at c.self.inside.key.items (entries_of c.self.inside.places)) c.in-Some.is c.self.invariant.known in
    on_ok_weaker c.add_at.result
    (λ made. subst (λ (lines : List Numbered). AreFound (shape_of c.args.select.now) (rows ++ row ∷ more) (lines_at lines (entries_of c.self.inside.places))) (sym made)
    (line_grows (shape_of c.args.select.now) rows row more c.args.number c.args.count c.args.values.now c.self.inside.key.items c.self.inside.lines.items (entries_of c.self.inside.places) c.in-Some.place c.self.invariant.placed
    (subst (AreFound (shape_of c.args.select.now) rows) (sym c.self.view_is) are) alike small is there))
    c.add_at.ensures.added
