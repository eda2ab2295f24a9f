-- A table that was made: its trees first, and then its table page.
use Rattle.std.proofs.Common.{◌≡◌, ◌<◌, ◌≤◌, ◌+◌, inl, ℕ, List, [], length, length-set, None, Some, arith, sym, subst, get_or-set_other}
use Rattle.std.specs.Prelude.{IsTrue, slice_get}
use Rattle.mdc_ast.specs.declared.definition.TableDef.{TableDef}
use Rattle.mdc_ast.specs.Database.{Database, with_place}
use Rattle.store_api.specs.Frame.{Touches}
use Rattle.store_api.specs.StoreState.{zero_page}
use Rattle.store_api.specs.declared.fault.Damage.{Damage}
use Rattle.store_api.specs.declared.pages.Pages.{Ghosts}
use Rattle.store_api.specs.declared.shape.Shape.{Shape}
use Rattle.extent_map.specs.Map.{HoldsMap}
use Rattle.extent_map.specs.declared.kind.Kind.{Kind}
use Rattle.extent_map.specs.declared.space_notes.SpaceNotes.{SpaceNotes}
use Rattle.extent_map.proofs.DamagesLemmas.{holds_first_count}
use Rattle.entry_tree.specs.Standing.{IsMapSpace, with_pages}
use Rattle.mdc_ast.specs.TableLimits.{IsTableDef}
use Rattle.table_page.specs.TablePage.{table_page}
use Rattle.table_trees.specs.SpaceChanges.{IsSameSpace}
use Rattle.table_trees.proofs.ToldPagesLemmas.{told_of_map}
use Rattle.mdc_sound.specs.SoundDatabase.{KeepAllRules}
use Rattle.mdc_sound.specs.SpaceRules.{DatabaseView}
use Rattle.mdc_sound.specs.StandingTable.{pages_of, roots_in}
use Rattle.mdc_sound.specs.StandsForDatabase.{PagesStandFor}
use Rattle.mdc_sound.specs.TablePages.{table_page_at}
use Rattle.stored_catalog.specs.AroundTable.{StandsBut, with_owners}
use Rattle.stored_catalog.specs.NewTables.{empty_trees, own_places}
use Rattle.stored_catalog.specs.StoredDefinitions.{LacksTablePage, with_stored}
use Rattle.stored_catalog.specs.TableSteps.{AddsTable, IsNameFree, plain_empty}
use Rattle.stored_catalog.specs.TreeRuns.{BreaksMaking, MakesTrees}
use Rattle.stored_catalog.proofs.AddingLemmas.{absent_of_zero, closed_adding, empty_place_held, no_blocks_absent, opened_adding}
use Rattle.stored_catalog.proofs.AroundTableLemmas.{ChangesAround, around_kept, around_place_kept, page_around, stands_for_but}
use Rattle.stored_catalog.proofs.MakingTreesLemmas.{made_around, no_blocks_made}

module _ {S : Type 0} (g : Ghosts S) where
  -- damage that says that table page t isn't there, met after trees were made
  pub lacks_breaks : (shape : Shape) (old mid : S) (t : ℕ) (damage : Damage) → t < 16 → length (pages_of g old) ≤ length (pages_of g mid) → LacksTablePage g mid t damage → BreaksMaking g shape old damage
  lacks_breaks shape old mid t damage low longer lacks = record {
    names = inl (lacks.page, lacks.rule);
    broken = λ owners held. omega (arith, holds_first_count shape held, lacks.short, longer, low);
  }

  -- what the making of a table goes from and to
  pub record MakesTable (shape : Shape) (before noted : SpaceNotes) (old mid new : S) (def : TableDef) (view : DatabaseView) : Type 0 where
    pub told : IsTrue (g.state old).is_told
    pub keeps : KeepAllRules shape (pages_of g old) view
    pub zeros : table_page_at (pages_of g old) def.number ≡ zero_page
    pub free : IsNameFree view def.name
    pub low : def.number < 16
    pub limits : IsTableDef def.number def
    pub no_indexes : def.indexes ≡ []
    pub longer : length (pages_of g old) ≤ length (pages_of g mid)
    pub touched : Touches g (IsMapSpace g shape old) old mid
    pub made : (owners : List Kind) → HoldsMap g shape old owners → MakesTrees g shape before noted old mid owners (own_places def)
    pub saved : pages_of g new ≡ with_stored (pages_of g mid) def.number (Some def)

  module _ (shape : Shape) (before noted : SpaceNotes) (old mid new : S) (def : TableDef) (view : DatabaseView) (m : MakesTable shape before noted old mid new def view) where
    -- no table is there
    absent : slice_get view.places def.number ≡ Some None
    absent = absent_of_zero shape (pages_of g old) view m.keeps def.number m.low m.zeros

    -- the database stands around the place
    opened : StandsBut shape (pages_of g old) view def.number [] []
    opened = opened_adding shape (pages_of g old) view m.keeps def.number m.low absent

    -- the trees were made
    trees_made : MakesTrees g shape before noted old mid view.owners (own_places def)
    trees_made = m.made view.owners (told_of_map g old m.told shape view.owners opened.extents)

    -- that changes nothing around the place
    around : ChangesAround shape (pages_of g old) (pages_of g mid) view.owners def.number [] (with_pages shape view.owners (roots_in (own_places def))) (own_places def) (empty_trees (own_places def))
    around = made_around g shape before noted old mid view def.number (own_places def) m.told opened m.longer m.touched trees_made

    -- so it still stands around it, with the trees beside
    stands : StandsBut shape (pages_of g mid) (with_owners view (with_pages shape view.owners (roots_in (own_places def)))) def.number (own_places def) (empty_trees (own_places def))
    stands = around_kept shape (pages_of g old) (pages_of g mid) view def.number [] [] (with_pages shape view.owners (roots_in (own_places def))) (own_places def) (empty_trees (own_places def)) opened around

    -- the table page changes nothing around it either
    written : ChangesAround shape (pages_of g mid) (with_stored (pages_of g mid) def.number (Some def)) (with_pages shape view.owners (roots_in (own_places def))) def.number (empty_trees (own_places def))
        (with_pages shape view.owners (roots_in (own_places def))) (own_places def) (empty_trees (own_places def))
    written = page_around shape (pages_of g mid) (with_owners view (with_pages shape view.owners (roots_in (own_places def)))) def.number (own_places def) (empty_trees (own_places def)) (table_page def) stands

    -- the page takes no space
    same_space : IsSameSpace shape (pages_of g mid) (with_stored (pages_of g mid) def.number (Some def))
    same_space =
        let owners = with_pages shape view.owners (roots_in (own_places def)) in
        record {
          owners = owners;
          had = stands.extents;
          has = written.extents;
          bytes = λ p used. get_or-set_other (pages_of g mid) (1 + def.number) p (table_page def) [] (λ same. omega (arith, used.page.behind, same, m.low));
          count = length-set (pages_of g mid) (1 + def.number) (table_page def);
        }

    -- the table was made in its place
    pub table_added : AddsTable shape before noted (pages_of g old) (pages_of g new) def view
    table_added =
        let owners = with_pages shape view.owners (roots_in (own_places def)) in
        let pages = with_stored (pages_of g mid) def.number (Some def) in
        subst (λ all. AddsTable shape before noted (pages_of g old) all def view) (sym m.saved) (record {
          owners_now = owners;
          sound = closed_adding shape (pages_of g mid) (with_owners view owners) def.number def stands
              (no_blocks_made shape view.owners (own_places def) def.number opened.extents.count trees_made.claims (no_blocks_absent shape (pages_of g old) view m.keeps def.number absent)) m.limits m.no_indexes m.free;
          notes = trees_made.notes;
          makes = λ right. record { reached = pages_of g mid; goes = trees_made.goes right; same = same_space };
        })

    -- and the pages stand for the database with it
    pub table_stands_for : (db : Database) → PagesStandFor shape (pages_of g old) db → PagesStandFor shape (pages_of g new) (with_place db def.number (Some (plain_empty def)))
    table_stands_for db were =
        let owners = with_pages shape view.owners (roots_in (own_places def)) in
        let pages = with_stored (pages_of g mid) def.number (Some def) in
        let places = own_places def in
        subst (λ all. PagesStandFor shape all (with_place db def.number (Some (plain_empty def)))) (sym m.saved)
        (stands_for_but shape (pages_of g old) pages db def.number (Some (plain_empty def)) were
        (λ u other low apart held. around_place_kept shape (pages_of g mid) pages (with_owners view owners) def.number places (empty_trees places) owners places (empty_trees places) stands written u other low apart
        (around_place_kept shape (pages_of g old) (pages_of g mid) view def.number [] [] owners places (empty_trees places) opened around u other low apart held))
        (empty_place_held shape (pages_of g mid) (with_owners view owners) def.number def stands m.limits))
