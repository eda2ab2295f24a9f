use Rattle.std.proofs.Common.{◌≡◌, ◌++◌, ◌∷◌, List, ℕ, length, None, ap, sym, subst, ◌∙◌}
use Rattle.std.specs.Prelude.{IsTrue}
use Rattle.std.specs.BTreeMap.{insert_entry}
use Rattle.std.specs.Cmp.Lexicographic.{slice_cmp}
use Rattle.std.specs.Map.{lookup}
use Rattle.std.specs.Ordering.{nat_cmp}
use Rattle.std.specs.Str.{bytes_eq}
use Rattle.std.proofs.lemmas.Result.{on_ok_weaker}
use Rattle.row_groups.specs.Adding.{Numbered}
use Rattle.row_groups.specs.Gathering.{AreFound, entries_of, lines_at}
use Rattle.row_groups.specs.Keys.{are_small, group_key}
use Rattle.row_groups.specs.Shape.{shape_of}
use Rattle.row_groups.proofs.PlaceLemmas.{keyed_more, line_begins, line_grows}
use Rattle.row_groups.proofs.keyed_lines.KeyedLines.add_elsewhere.Goals as goal

pub returns-in-Some : goal.returns-in-Some
returns-in-Some c = λ rows more row are alike.
    let is : c.find_place.new.key.items ≡ group_key c.args.select.now.group c.args.values.now = c.in_ok-place.ensures.key ∙ ap (λ (columns : List ℕ). group_key columns c.args.values.now) c.as_slice.ensures in
    let small : IsTrue (are_small c.args.select.now.group c.args.values.now) = subst (λ (columns : List ℕ). IsTrue (are_small columns c.args.values.now)) c.as_slice.ensures c.in_ok-place.ensures.small in
    on_ok_weaker c.add_at.result
    (λ made. subst (λ (lines : List Numbered). AreFound (shape_of c.args.select.now) (rows ++ row ∷ more) (lines_at lines (entries_of c.self.inside.places))) (sym made)
    (line_grows (shape_of c.args.select.now) rows row more c.args.number c.args.count c.args.values.now c.find_place.new.key.items c.self.inside.lines.items (entries_of c.self.inside.places) c.in-Some.place c.self.invariant.placed
    (subst (AreFound (shape_of c.args.select.now) rows) (sym c.self.view_is) are) alike small is (c.in_ok-place.ensures.place ∙ c.in-Some.is)))
    c.add_at.ensures.added

pub invariant_of-self-2 : goal.invariant_of-self-2
invariant_of-self-2 c =
    let none : lookup (bytes_eq c.find_place.new.key.items) (entries_of c.self.inside.places) ≡ None = c.in_ok-place.ensures.place ∙ c.in_default.is in
    keyed_more c.self.inside.lines.items c.begin_line.new.lines.items (entries_of c.self.inside.places) (entries_of c.begin_line.new.places) c.find_place.new.key.items c.in_ok-place-2.place c.in_ok-line.line c.self.invariant.placed none
    c.in_ok-place-2.ensures.lines
    (c.in_ok-place-2.ensures.places ∙ ap (λ (key : List ℕ). insert_entry (slice_cmp nat_cmp) (entries_of c.self.inside.places) key (length c.self.inside.lines.items)) c.as_slice-2.ensures.value) c.in_ok-place-2.ensures.place

pub returns : goal.returns
returns c = λ rows more row are alike.
    let is : c.find_place.new.key.items ≡ group_key c.args.select.now.group c.args.values.now = c.in_ok-place.ensures.key ∙ ap (λ (columns : List ℕ). group_key columns c.args.values.now) c.as_slice.ensures in
    let small : IsTrue (are_small c.args.select.now.group c.args.values.now) = subst (λ (columns : List ℕ). IsTrue (are_small columns c.args.values.now)) c.as_slice.ensures c.in_ok-place.ensures.small in
    let none : lookup (bytes_eq c.find_place.new.key.items) (entries_of c.self.inside.places) ≡ None = c.in_ok-place.ensures.place ∙ c.in_default.is in
    line_begins (shape_of c.args.select.now) rows row more c.args.number c.args.count c.args.values.now c.find_place.new.key.items c.self.inside.lines.items c.begin_line.new.lines.items (entries_of c.self.inside.places)
    (entries_of c.begin_line.new.places) c.in_ok-line.line c.self.invariant.placed (subst (AreFound (shape_of c.args.select.now) rows) (sym c.self.view_is) are) alike small is none
    c.in_ok-place-2.ensures.lines
    (c.in_ok-place-2.ensures.places ∙ ap (λ (key : List ℕ). insert_entry (slice_cmp nat_cmp) (entries_of c.self.inside.places) key (length c.self.inside.lines.items)) c.as_slice-2.ensures.value) c.in_ok-line.ensures
