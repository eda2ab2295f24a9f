-- The walk that enters rows in a record index, one after the other.
use Rattle.std.proofs.Common.{◌≡◌, ◌<◌, ◌+◌, ◌∙◌, ℕ, zero, suc, List, [], ◌∷◌, ◌++◌, Option, None, Some, length, map, set, get_or, refl, ap, arith, sym, subst, inl, inr}
use Rattle.std.specs.Prelude.{Contains, IsTrue, slice_get}
use Rattle.std.specs.List.{FoldsTo}
use Rattle.std.proofs.lemmas.List.{map-append}
use Rattle.std.proofs.lemmas.List.Elements.{All-get_or}
use Rattle.std.proofs.lemmas.Option.{same_Some, slice_get_within}
use Rattle.mdc_words.specs.ByteOrder.{Entry}
use Rattle.mdc_words.proofs.PlacesLemmas.{slice_get-set_same}
use Rattle.mdc_ast.specs.declared.definition.IndexDef.{IndexDef}
use Rattle.mdc_ast.specs.declared.definition.TableDef.{TableDef}
use Rattle.key_codec.specs.Keys.{ArePartsOf}
use Rattle.store_api.specs.RunsOverPages.{RunsOverPages}
use Rattle.store_api.specs.declared.fault.Damage.{Damage}
use Rattle.store_api.specs.declared.fault.StoreFault.{StoreFault}
use Rattle.store_api.specs.declared.pages.Pages.{Ghosts}
use Rattle.store_api.specs.declared.shape.Shape.{Shape}
use Rattle.store_api.proofs.RunsOverPagesLemmas.{runs_none, runs_then}
use Rattle.extent_map.specs.Damages.{BreaksSpace, IfFull}
use Rattle.extent_map.specs.Owners.{AreRightNotes}
use Rattle.extent_map.specs.declared.fault.SpaceFault.{SpaceFault}
use Rattle.extent_map.specs.declared.fault.SpaceFault.TheVariants.{Full, Store}
use Rattle.extent_map.specs.declared.space_notes.SpaceNotes.{SpaceNotes}
use Rattle.extent_map.proofs.DamagesLemmas.{breaks_space_never}
use Rattle.entry_tree.specs.EntryBounds.{IsEntryOf, with_entry}
use Rattle.entry_tree.specs.Forest.{leaf_entries}
use Rattle.table_trees.specs.SpaceChanges.{AsksTooMuch, MakesChange, RunsFull}
use Rattle.table_trees.specs.SpaceChanges.SpaceChange.{AddEntry}
use Rattle.table_trees.specs.TableTrees.{TreePlace, composite_place, dimension_places, map_place, record_place, record_places, tree_places}
use Rattle.table_trees.specs.TreesBeside.{ChangesTrees, GrowsPages, HoldsTreeAt, IsSpaceOfTrees}
use Rattle.table_trees.proofs.PageCountLemmas.{grows_pages_none, grows_pages_then}
use Rattle.table_trees.proofs.SideBySideLemmas.{changes_none, changes_then, space_back, tree_among}
use Rattle.table_trees.proofs.TreeListsLemmas.{beside_at}
use Rattle.block_rows.specs.HeldRows.{HasReadValues, HaveReadValues}
use Rattle.block_rows.specs.declared.hit.Hit.{Hit}
use Rattle.mdc_sound.specs.BlockRules.{IsSoundIndex}
use Rattle.mdc_sound.specs.StandingTable.{NamesTablePart, roots_in}
use Rattle.mdc_sound.specs.TableRows.{PlacedRow}
use Rattle.record_index.specs.OneIndex.{AmongTrees, BreaksAddingRow, ChangesOneTree, GainsOneEntry}
use Rattle.record_index.specs.RecordIndexes.{HasRecordIndexes, HaveKeysIn, entry_in_record_index, place_of_record_index}
use Rattle.record_index.specs.SoundRows.{LieApart}
use Rattle.record_index.proofs.IndexesLemmas.{entry_of_which, key_parts, place_of_which}
use Rattle.record_index.proofs.KeysLemmas.{keys_of_each}
use Rattle.record_index.proofs.SoundRowsLemmas.{lacks_row}
use Rattle.stored_catalog.proofs.FreeingRunsLemmas.{root_there}
use Rattle.stored_catalog.proofs.MakingTreesLemmas.{goes_then}
use Rattle.index_building.specs.FilledIndexes.{BreaksFilling, FillsIndex, entering_changes}
use Rattle.index_building.proofs.AroundIndexLemmas.{set_twice}
use Rattle.index_building.proofs.FilledIndexesLemmas.{apart_before, gains_row, none_entered, set_itself}
use Rattle.index_building.proofs.RemovedLemmas.{at-behind, there-at}

at-map : {X Y : Type 0} (f : X → Y) (xs : List X) (n : ℕ) (x : X) → slice_get xs n ≡ Some x → slice_get (map f xs) n ≡ Some (f x)
at-map f [] n x at = absurd cc
at-map f (y ∷ xs) zero x at = ap (λ z. Some (f z)) (same_Some y x at)
at-map f (y ∷ xs) (suc n) x at = at-map f xs n x at

-- the first of some rows were entered, all of which are these
pub record IsFilling {S : Type 0} (g : Ghosts S) (shape : Shape) (before now : SpaceNotes) (old mid : S) (def : TableDef) (index : ℕ) (all rows : List PlacedRow) : Type 0 where
  pub fills : AmongTrees g shape old (place_of_record_index def index) (FillsIndex g shape before now mid def index rows)
  pub makes : AmongTrees g shape old (place_of_record_index def index) (λ owners places trees i. IsTrue (g.state old).is_told → AreRightNotes shape before owners
      → FoldsTo (MakesChange shape) (g.state old).work (entering_changes def index rows) (g.state mid).work)
  pub grows : AmongTrees g shape old (place_of_record_index def index) (λ owners places trees i. GrowsPages g shape old mid)
  pub runs : RunsOverPages g (IsSpaceOfTrees g shape old (place_of_record_index def index ∷ [])) (IsSpaceOfTrees g shape old (place_of_record_index def index ∷ [])) (BreaksFilling g shape old def index all) old mid None

module _ {S : Type 0} (g : Ghosts S) (shape : Shape) (before : SpaceNotes) (old : S) (def : TableDef) (index : ℕ) (which : IndexDef) (is : slice_get def.indexes index ≡ Some which) (all : List PlacedRow) where
  abbrev place : TreePlace
  place = place_of_record_index def index

  -- ---- before the first

  pub filling_none : IsFilling g shape before before old old def index all []
  filling_none = record {
    fills = λ owners places trees i st here.
        let one = beside_at (HoldsTreeAt g old) places trees i place st.held here in record {
          owners_now = owners;
          was = one.0;
          is = one.0;
          there = one.1;
          entries = λ other at empty. none_entered def other one.0 empty;
          changes = subst (ChangesTrees g shape before before old places owners trees owners) (sym (set_itself trees i one.0 one.1)) (changes_none shape before old places owners trees st);
        };
    makes = λ owners places trees i st here told right. refl;
    grows = λ owners places trees i st here. grows_pages_none shape old;
    runs = runs_none;
  }

  -- ---- one more

  module _ (now : SpaceNotes) (mid : S) (rows rest : List PlacedRow) (placed : PlacedRow) (cut : all ≡ rows ++ placed ∷ rest) (parts : ArePartsOf def.columns which.parts) (keys : HaveKeysIn def.columns which.parts placed.row.values)
      (so : IsFilling g shape before now old mid def index all rows) where
    abbrev x : Entry
    x = entry_in_record_index def index placed.row.values placed.rid

    place_is : place ≡ record_place def which
    place_is = place_of_which def index which is

    at_place : slice_get (record_places def) index ≡ Some place
    at_place = at-map (record_place def) def.indexes index which is ∙ ap Some (sym place_is)

    -- the pages
    space_so_far : (p : ℕ) → IsSpaceOfTrees g shape mid (place ∷ []) p → IsSpaceOfTrees g shape old (place ∷ []) p
    space_so_far p mine =
        space_back shape before now old mid (place ∷ []) p (λ owners trees st. let f = so.fills owners (place ∷ []) trees 0 st refl in (f.owners_now, set trees 0 f.is, f.changes)) mine

    -- damage
    breaks_there : (damage : Damage) → BreaksAddingRow g shape mid place x damage → BreaksFilling g shape old def index all damage
    breaks_there damage b = record {
      names = elim b.is [
        | inl tree_or_map ↦ elim tree_or_map [
          | inl standing ↦ NamesTablePart.tree standing.rule (in_table (standing.page ∙ ap (λ q. q.root) b.at))
          | inr space ↦ space_named damage space
        ]
        | inr row ↦ NamesTablePart.record_index row.rule (subst (Contains (roots_in (record_places def))) (sym (row.page ∙ ap (λ q. q.root) b.at)) (root_there (record_places def) index place at_place))
      ];
      broken = λ owners tree st empty lie.
          let f = so.fills owners (place ∷ []) (tree ∷ []) 0 st refl in
          let one = tree_among shape mid f.owners_now (place ∷ []) (set (tree ∷ []) 0 f.is) b.tree 0 f.changes.stand (ap Some (sym b.at)) in
          elim b.is [
            | inl tree_or_map ↦ elim tree_or_map [
              | inl standing ↦ standing.broken f.owners_now one.0 one.2
              | inr space ↦ breaks_space_never damage one.2.map space
            ]
            | inr row ↦
                let same : f.is ≡ one.0 = same_Some f.is one.0 one.1 in
                let was : f.was ≡ tree = same_Some f.was tree (sym f.there) in
                let sound : IsSoundIndex def rows [] which one.0 = subst (IsSoundIndex def rows [] which) same (f.entries which is (ap leaf_entries was ∙ empty)) in
                let before_it = apart_before rows rest placed (subst LieApart cut lie) in
                lacks_row def rows [] which one.0 placed.row.values placed.rid sound parts keys before_it.1 before_it.0 (λ none. omega (arith, none.1))
                (subst (λ e. IsEntryOf e (leaf_entries one.0)) (entry_of_which def index which placed.row.values placed.rid is) (row.wrong f.owners_now one.0 one.2))
          ];
    }
      where
        in_table : damage.page ≡ place.root → Contains (roots_in (tree_places def)) damage.page
        in_table page =
            subst (Contains (roots_in (tree_places def))) (sym page)
            (root_there (tree_places def) (2 + (length (dimension_places def) + index)) place
            (at-behind (map_place def ∷ composite_place def ∷ dimension_places def) (record_places def) (2 + (length (dimension_places def) + index)) index place (omega arith) at_place))

        space_named : (damage : Damage) → BreaksSpace g shape mid damage → NamesTablePart shape def damage
        space_named damage (inl count) = NamesTablePart.count count.rule count.page
        space_named damage (inr (i, page)) = NamesTablePart.map_page page.rule (omega (arith, page.page), omega (arith, page.page, page.on_map))

    pub filling_runs : (new : S) (fault : Option StoreFault) → RunsOverPages g (IsSpaceOfTrees g shape mid (place ∷ [])) (IsSpaceOfTrees g shape mid (place ∷ [])) (BreaksAddingRow g shape mid place x) mid new fault
        → RunsOverPages g (IsSpaceOfTrees g shape old (place ∷ [])) (IsSpaceOfTrees g shape old (place ∷ [])) (BreaksFilling g shape old def index all) old new fault
    filling_runs new fault more = runs_then so.runs more (λ p there mine. space_so_far p mine) space_so_far breaks_there

    -- the changes of one row more
    more_changes : entering_changes def index (rows ++ placed ∷ []) ≡ entering_changes def index rows ++ AddEntry place x ∷ []
    more_changes = map-append (λ (p : PlacedRow). AddEntry place (entry_in_record_index def index p.row.values p.rid)) rows (placed ∷ [])

    pub fills_next : (noted : SpaceNotes) (new : S) → AmongTrees g shape mid place (ChangesOneTree g shape now noted new (GainsOneEntry x))
        → AmongTrees g shape mid place (λ owners places trees i. IsTrue (g.state mid).is_told → AreRightNotes shape now owners → MakesChange shape (g.state mid).work (AddEntry place x) (g.state new).work)
        → AmongTrees g shape mid place (λ owners places trees i. GrowsPages g shape mid new)
        → RunsOverPages g (IsSpaceOfTrees g shape mid (place ∷ [])) (IsSpaceOfTrees g shape mid (place ∷ [])) (BreaksAddingRow g shape mid place x) mid new None
        → IsFilling g shape before noted old new def index all (rows ++ placed ∷ [])
    fills_next noted new adds makes grows more = record {
      fills = λ owners places trees i st here. next owners places trees i st here;
      makes = λ owners places trees i st here told right.
          let f = so.fills owners places trees i st here in
          subst (λ changes. FoldsTo (MakesChange shape) (g.state old).work changes (g.state new).work) (sym more_changes)
          (goes_then shape (g.state old).work (g.state mid).work (g.state new).work (entering_changes def index rows) (AddEntry place x ∷ []) (so.makes owners places trees i st here told right)
          ((g.state new).work, makes f.owners_now places (set trees i f.is) i f.changes.stand here (so.runs.works.steady.is_told ∙ told) (f.changes.notes right), refl));
      grows = λ owners places trees i st here.
          let f = so.fills owners places trees i st here in
          grows_pages_then shape old mid new so.runs.works.no_shorter more.works.no_shorter (so.grows owners places trees i st here) (grows f.owners_now places (set trees i f.is) i f.changes.stand here);
      runs = filling_runs new None more;
    }
      where
        next : AmongTrees g shape old place (FillsIndex g shape before noted new def index (rows ++ placed ∷ []))
        next owners places trees i st here =
            let f = so.fills owners places trees i st here in
            let a = adds f.owners_now places (set trees i f.is) i f.changes.stand here in
            let same : f.is ≡ a.was = same_Some f.is a.was (sym (slice_get-set_same trees i f.is (slice_get_within trees i f.was f.there)) ∙ a.there) in
            record {
              owners_now = a.owners_now;
              was = f.was;
              is = a.is;
              there = f.there;
              entries = λ other at empty.
                  let one : which ≡ other = same_Some which other (sym is ∙ at) in
                  subst (λ w. IsSoundIndex def (rows ++ placed ∷ []) [] w a.is) one
                  (gains_row def rows which f.is a.is placed (f.entries which is empty)
                  (a.moves.gains.is ∙ (ap (λ t. with_entry x (leaf_entries t)) (sym same) ∙ ap (λ e. with_entry e (leaf_entries f.is)) (entry_of_which def index which placed.row.values placed.rid is))));
              changes = changes_then shape before now noted mid new places owners f.owners_now a.owners_now trees (set trees i f.is) (set trees i a.is) f.changes
                  (subst (ChangesTrees g shape now noted new places f.owners_now (set trees i f.is) a.owners_now) (set_twice trees i f.is a.is) a.changes);
            }

    -- a full map
    pub fills_up : (Met : Type 0) (fault : SpaceFault) → IfFull fault (λ cap. (cap ≡ shape.extents) × Met)
        → IfFull fault (λ cap. AmongTrees g shape mid place (λ owners places trees i. IsTrue (g.state mid).is_told → AreRightNotes shape now owners → AsksTooMuch shape (g.state mid).work (AddEntry place x)))
        → IfFull fault (λ cap. (cap ≡ shape.extents) × AmongTrees g shape old place (λ owners places trees i. IsTrue (g.state old).is_told → AreRightNotes shape before owners
        → RunsFull shape (g.state old).work (entering_changes def index all)))
    fills_up Met (Store fault) states asks = tt
    fills_up Met (Full most) states asks = (
      states.0,
      λ owners places trees i st here told right.
          let f = so.fills owners places trees i st here in record {
            done = entering_changes def index rows;
            next = AddEntry place x;
            rest = entering_changes def index rest;
            reached = (g.state mid).work;
            split = ap (entering_changes def index) cut ∙ map-append (λ (p : PlacedRow). AddEntry place (entry_in_record_index def index p.row.values p.rid)) rows (placed ∷ rest);
            goes = so.makes owners places trees i st here told right;
            short = asks f.owners_now places (set trees i f.is) i f.changes.stand here (so.runs.works.steady.is_told ∙ told) (f.changes.notes right);
          },
    )

-- ---- one of some rows

-- it has keys in the index
pub keys_of_hit : (def : TableDef) (index : ℕ) (which : IndexDef) (hits : List Hit) (n : ℕ) (hit : Hit) → slice_get def.indexes index ≡ Some which → ArePartsOf def.columns which.parts → HaveReadValues def.columns hits
    → n < length hits → hit ≡ get_or hits n hit → HaveKeysIn def.columns which.parts hit.row.values
keys_of_hit def index which hits n hit is parts read low at =
    let one = subst (λ (h : Hit). HasReadValues def.columns h.row) (sym at) (All-get_or (λ (h : Hit). HasReadValues def.columns h.row) hits n hit low read) in
    keys_of_each def.columns which.parts hit.row.values parts.there one.each

-- the index that stands there, with the parts of a key
pub record IsIndexThere (def : TableDef) (index : ℕ) : Type 0 where
  pub which : IndexDef
  pub is : slice_get def.indexes index ≡ Some which
  pub parts : ArePartsOf def.columns which.parts

pub index_there : (def : TableDef) (index : ℕ) → HasRecordIndexes def → index < length def.indexes → IsIndexThere def index
index_there def index has low =
    let one = there-at def.indexes index low in
    record { which = one.0; is = one.1; parts = key_parts def index has one.0 one.1 }
