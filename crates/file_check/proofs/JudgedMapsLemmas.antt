-- The block maps of all tables, judged one after the other.
use Rattle.std.proofs.Common.{◌≡◌, ◌≢◌, ◌<◌, ◌≤◌, ◌+◌, ◌/◌, ℕ, zero, suc, List, [], ◌∷◌, Option, Some, None, IsTrue, refl, ap, arith, sym, ◌∙◌, subst, inl, inr, length, get_or}
use Rattle.std.specs.Prelude.{AllPairs, Contains, slice_get}
use Rattle.std.specs.List.{AllByRecursion}
use Rattle.std.proofs.lemmas.Option.{slice_get-get_or}
use Rattle.mdc_words.specs.ByteOrder.{Entry}
use Rattle.mdc_ast.specs.declared.definition.TableDef.{TableDef}
use Rattle.mdc_ast.specs.Definitions.{Definitions}
use Rattle.store_api.specs.declared.fault.Damage.{Damage}
use Rattle.store_api.specs.declared.pages.Pages.{Ghosts}
use Rattle.store_api.specs.declared.shape.Shape.{Shape}
use Rattle.extent_map.specs.Map.{HoldsMapPage}
use Rattle.extent_map.specs.Owners.{owner_of}
use Rattle.extent_map.specs.declared.kind.Kind.{Kind}
use Rattle.extent_map.proofs.HoldsMapLemmas.{on_map}
use Rattle.entry_tree.specs.EntryBounds.{IsEntryOf}
use Rattle.entry_tree.specs.Forest.{Forest, leaf_entries}
use Rattle.entry_tree.specs.HeldTrees.{HoldsTree}
use Rattle.entry_tree.specs.declared.tree.Tree.{Tree}
use Rattle.block_map.specs.BlockMaps.{IsMapForm}
use Rattle.block_map.specs.MapLines.{MapLine, map_line, map_lines}
use Rattle.table_trees.specs.TableTrees.{TreePlace, map_place, place_of_tree}
use Rattle.table_trees.specs.ToldPages.{HasTree, PageList, told_pages}
use Rattle.table_trees.specs.TreesBeside.{BreaksTreeAt, HoldsTreeAt}
use Rattle.table_trees.proofs.ToldPagesLemmas.{told_of_tree}
use Rattle.mdc_sound.specs.Breaks.{BreaksRule, ShowsTable}
use Rattle.mdc_sound.specs.SpaceRules.{AreBlockMapsSound, DatabaseView, IsBlockMapSound, IsMapLineSound, tables_there}
use Rattle.mdc_sound.specs.TablePages.{DefinesTable}
use Rattle.mdc_sound.specs.TableViews.{TableView}
use Rattle.mdc_sound.proofs.BlockRulesLemmas.{each_of}
use Rattle.mdc_sound.proofs.ElementsLemmas.{each_line, from_map, in_map, contains_block}
use Rattle.mdc_sound.proofs.SpaceRulesLemmas.{there_at}
use Rattle.mdc_sound.proofs.StandsForLemmas.{one_tree_at}
use Rattle.file_check.specs.Judging.{BreaksAny, Judges, JudgesEach, JudgesRule}
use Rattle.file_check.specs.Known.{ViewHasTrees}
use Rattle.file_check.specs.Looking.{Unless}
use Rattle.file_check.specs.BlockMapsJudged.{AreNoBlocksOf, BreaksMap, BreaksMapAt, HaveStates, IsBlockOf, JudgesMap, ListBlocksOf, ListOthers, RiseFrom}
use Rattle.file_check.proofs.JudgingLemmas.{breaks_any-member, judges_as, member-breaks_any, place_with}
use Rattle.file_check.proofs.KnownTablesLemmas.{defined_is_viewed, member_is_placed, viewed_is_defined}
use Rattle.file_check.proofs.OwnersShownLemmas.{one_owner}

-- ---- one map

-- rising blocks lie at their bound or above it, and differ
rise_all : (from : ℕ) (ns : List ℕ) (k d : ℕ) → RiseFrom from ns → k < length ns → from ≤ get_or ns k d
rise_all from [] k d h l = absurd (omega (arith, l))
rise_all from (n ∷ ns) zero d h l = h.0
rise_all from (n ∷ ns) (suc k) d h l = let above = rise_all (n + 1) ns k d h.1 (omega (arith, l)) in omega (arith, above, h.0)

rise_apart : (from : ℕ) (ns : List ℕ) → RiseFrom from ns → AllPairs (λ a b. a ≢ b) ns
rise_apart from [] h i j d l m e = omega (arith, m)
rise_apart from (n ∷ ns) h zero zero d l m e = omega (arith, l)
rise_apart from (n ∷ ns) h zero (suc j) d l m e = let above = rise_all (n + 1) ns j d h.1 (omega (arith, m)) in omega (arith, above, e)
rise_apart from (n ∷ ns) h (suc i) zero d l m e = omega (arith, l)
rise_apart from (n ∷ ns) h (suc i) (suc j) d l m e = rise_apart (n + 1) ns h.1 i j d (omega (arith, l)) (omega (arith, m)) e

states_of_form : (entries : List Entry) → HaveStates entries → (x : Entry) → IsEntryOf x entries → (map_line x).state ≤ 2
states_of_form [] h x at = absurd at
states_of_form (y ∷ ys) h x (inl e) = subst (λ v. (map_line v).state ≤ 2) (sym e) h.0
states_of_form (y ∷ ys) h x (inr at) = states_of_form ys h.1 x at

module _ (shape : Shape) (kinds : List Kind) (def : TableDef) (t : Forest) where
  pub lists_sound : length kinds ≡ shape.extents → ListBlocksOf kinds def.number (leaf_entries t) → IsBlockMapSound shape kinds def t
  lists_sound many lists =
      let same = lists.named.named in
      record {
        entries = lists.named.written;
        lines = each_line (IsMapLineSound shape kinds def) (leaf_entries t) (λ x at.
            let block = each_of (IsBlockOf kinds def.number) lists.blocks (map_line x).block lists.are.each (subst (λ bs. Contains bs (map_line x).block) (sym same) (contains_block (leaf_entries t) x at)) in
            record { state = states_of_form (leaf_entries t) lists.named.states x at; within = omega (arith, block.0, many); owned = block.1 });
        once_each = subst (AllPairs (λ a b. a ≢ b)) same (rise_apart 0 lists.blocks lists.named.rise);
        all_named = λ e low owned. subst (λ bs. Contains bs e) same (lists.are.all e (omega (arith, low, many), owned));
      }

  lists_unbroken : ListBlocksOf kinds def.number (leaf_entries t) → BreaksMap kinds def t → ⊥
  lists_unbroken lists (inl not_form) = not_form (record { states = lists.named.states; once_each = subst (AllPairs (λ a b. a ≢ b)) lists.named.named (rise_apart 0 lists.blocks lists.named.rise) })
  lists_unbroken lists (inr (AreNoBlocksOf.past b there past)) =
      let block = each_of (IsBlockOf kinds def.number) lists.blocks b lists.are.each (subst (λ bs. Contains bs b) (sym lists.named.named) there) in omega (arith, block.0, past)
  lists_unbroken lists (inr (AreNoBlocksOf.other b there low other)) =
      other (each_of (IsBlockOf kinds def.number) lists.blocks b lists.are.each (subst (λ bs. Contains bs b) (sym lists.named.named) there)).1
  lists_unbroken lists (inr (AreNoBlocksOf.lacks e lacks block)) = lacks (subst (λ bs. Contains bs e) lists.named.named (lists.are.all e block))

  -- the entries of the map list the blocks of the table
  pub map_keeps : (entries : List Entry) → entries ≡ leaf_entries t → length kinds ≡ shape.extents → ListBlocksOf kinds def.number entries → JudgesMap shape kinds def t None
  map_keeps entries same many lists =
      let all = subst (ListBlocksOf kinds def.number) same lists in
      record { holds = lists_sound many all; unbroken = λ p breaks. lists_unbroken all breaks.1 }

  -- or they don't, and the root is named
  pub map_breaks : (entries : List Entry) → entries ≡ leaf_entries t → ListOthers kinds def.number entries → JudgesMap shape kinds def t (Some def.roots.map)
  map_breaks entries same others = record { breaks = (refl, go (subst (ListOthers kinds def.number) same others)); lowest = λ p breaks. omega (arith, breaks.0) }
    where
      go : ListOthers kinds def.number (leaf_entries t) → BreaksMap kinds def t
      go (inl none) = inl (λ form. none form.states form.once_each)
      go (inr names) = inr names

-- a tree by its handle, and by its place
pub held_by_place : {S : Type 0} (g : Ghosts S) (s : S) (tree : Tree) (place : TreePlace) (t : Forest) → place_of_tree tree ≡ place → HoldsTreeAt g s place t → HoldsTree g s tree t
held_by_place g s tree place t e h = let k = subst (λ p. HoldsTreeAt g s p t) (sym e) h in record { is_tree = k.is_tree; trim = k.trim }

-- ---- all maps

-- what each block map is to be, and where it breaks its rule
abbrev pub MapSound : Shape → DatabaseView → TableView → Type 0
MapSound shape view table = IsBlockMapSound shape view.owners table.def table.map

abbrev pub MapBreaks : DatabaseView → TableView → ℕ → Type 0
MapBreaks view table = BreaksMapAt view.owners table.def table.map

module _ (shape : Shape) (pages : PageList) (defs : Definitions) (view : DatabaseView) (has : ViewHasTrees shape pages defs view) where
  -- the block map of a table stands
  pub map_stands : (t : ℕ) (table : TableView) → slice_get view.places t ≡ Some (Some table) → HasTree pages (map_place table.def) table.map
  map_stands t table at = (there_at _ view.places t table at has.rule4).0

  shown_table : (t : ℕ) (table : TableView) (P : Forest → Type 0) → slice_get view.places t ≡ Some (Some table) → P table.map → ShowsTable pages t table.def P
  shown_table t table P at holds =
      let d = viewed_is_defined shape pages defs view t table has at in
      record { within = d.within; defines = d.defines; map = λ u is. subst P (one_tree_at pages (map_place table.def) table.map u (map_stands t table at) is) holds }

  shown_page : (e : ℕ) → e < shape.extents → HoldsMapPage told_pages shape pages view.owners (e / 512)
  shown_page e low = (has.rule2.each (e / 512) (on_map shape.extents e low)).held

  -- a break of one map is one of the rule
  breaks_as_rule : (t : ℕ) (table : TableView) → slice_get view.places t ≡ Some (Some table) → BreaksMap view.owners table.def table.map → BreaksRule shape pages 6 table.def.roots.map
  breaks_as_rule t table at (inl not_form) =
      let d = viewed_is_defined shape pages defs view t table has at in
      BreaksRule.map_form t table.def d.within d.defines (λ u is form. not_form (subst IsMapForm (one_tree_at pages (map_place table.def) u table.map is (map_stands t table at)) form))
  breaks_as_rule t table at (inr (AreNoBlocksOf.past b there past)) =
      let (line, inside, is) = from_map (λ (line : MapLine). line.block) (map_lines table.map) b there in
      BreaksRule.map_past t table.def line (shown_table t table _ at inside) (omega (arith, is, past, has.rule2.count))
  breaks_as_rule t table at (inr (AreNoBlocksOf.other b there low other)) =
      let (line, inside, is) = from_map (λ (line : MapLine). line.block) (map_lines table.map) b there in
      let below : line.block < shape.extents = omega (arith, is, low, has.rule2.count) in
      BreaksRule.map_other t table.def line view.owners (shown_table t table _ at inside) below (shown_page line.block below) (λ e. other (ap (owner_of view.owners) (sym is) ∙ e))
  breaks_as_rule t table at (inr (AreNoBlocksOf.lacks e lacks block)) =
      let below : e < shape.extents = omega (arith, block.0, has.rule2.count) in
      BreaksRule.map_lacks t e table.def view.owners (shown_table t table _ at lacks) below (shown_page e below) block.1

  -- and the other way round: of a table that a page defines
  defined_break : (t : ℕ) (def : TableDef) → t < 16 → DefinesTable pages t def → ((table : TableView) → HasTree pages (map_place def) table.map → BreaksMap view.owners def table.map)
      → BreaksAny (MapBreaks view) (tables_there view.places) def.roots.map
  defined_break t def low defines breaks =
      let v = defined_is_viewed shape pages defs view t def has low defines in
      breaks_any-member (MapBreaks view) (tables_there view.places) v.table def.roots.map v.member
      (subst (λ (d : TableDef). BreaksMapAt view.owners d v.table.map def.roots.map) (sym v.same) (refl, breaks v.table (subst (λ (d : TableDef). HasTree pages (map_place d) v.table.map) v.same (map_stands t v.table v.stands))))

  shown_owner : (owners : List Kind) (e : ℕ) → e < shape.extents → HoldsMapPage told_pages shape pages owners (e / 512) → owner_of owners e ≡ owner_of view.owners e
  shown_owner owners e low shows = one_owner owners view.owners e shows (shown_page e low)

  rule_as_break : (p : ℕ) → BreaksRule shape pages 6 p → BreaksAny (MapBreaks view) (tables_there view.places) p
  rule_as_break _ (BreaksRule.map_form t def low defines not_form) = defined_break t def low defines (λ table stands. inl (not_form table.map stands))
  rule_as_break _ (BreaksRule.map_past t def line shows past) =
      defined_break t def shows.within shows.defines
      (λ table stands. inr (AreNoBlocksOf.past line.block (in_map (λ (l : MapLine). l.block) (map_lines table.map) line (shows.map table.map stands)) (omega (arith, past, has.rule2.count))))
  rule_as_break _ (BreaksRule.map_other t def line owners shows low page other) =
      defined_break t def shows.within shows.defines
      (λ table stands. inr (AreNoBlocksOf.other line.block (in_map (λ (l : MapLine). l.block) (map_lines table.map) line (shows.map table.map stands)) (omega (arith, low, has.rule2.count))
      (λ is. other (shown_owner owners line.block low page ∙ is))))
  rule_as_break _ (BreaksRule.map_lacks t e def owners shows low page owned) =
      defined_break t def shows.within shows.defines
      (λ table stands. inr (AreNoBlocksOf.lacks e (shows.map table.map stands) (omega (arith, low, has.rule2.count), sym (shown_owner owners e low page) ∙ owned)))

  break_as_rule : (p : ℕ) → BreaksAny (MapBreaks view) (tables_there view.places) p → BreaksRule shape pages 6 p
  break_as_rule p breaks =
      let (table, member, at_root) = member-breaks_any (MapBreaks view) (tables_there view.places) p breaks in
      let (t, at) = member_is_placed view table member in
      subst (BreaksRule shape pages 6) (sym at_root.0) (breaks_as_rule t table at at_root.1)

  -- all of them were judged
  pub maps_judged : (found : Option ℕ) → JudgesEach (MapSound shape view) (MapBreaks view) (tables_there view.places) found → JudgesRule shape pages 6 (AreBlockMapsSound shape view) found
  maps_judged found judged = judges_as {P = AllByRecursion (MapSound shape view) (tables_there view.places)} found (λ all. all) break_as_rule rule_as_break judged

  -- one more was
  pub map_judged : (i : ℕ) (kinds : List Kind) (def : TableDef) (here : Option ℕ) (table : TableView) → kinds ≡ view.owners → ((t : Forest) → HasTree pages (map_place def) t → JudgesMap shape kinds def t here)
      → slice_get view.places i ≡ Some (Some table) → table.def ≡ def → Judges (MapSound shape view table) (MapBreaks view table) here
  map_judged i kinds def here table owned judged at same =
      let judges = judged table.map (subst (λ (d : TableDef). HasTree pages (map_place d) table.map) same (map_stands i table at)) in
      subst (λ (d : TableDef). JudgesMap shape view.owners d table.map here) (sym same) (subst (λ (ks : List Kind). JudgesMap shape ks def table.map here) owned judges)

-- ---- between the calls

-- what stands in a place of the definitions
pub def_there : (defs : Definitions) (i : ℕ) (place : Option TableDef) → i < length defs → place ≡ get_or defs i place → slice_get defs i ≡ Some place
def_there defs i place l is = slice_get-get_or defs i place l ∙ ap Some (sym is)

module _ {S : Type 0} (g : Ghosts S) (old mid : S) (still : (g.state mid).is_told ≡ (g.state old).is_told) (same : (g.state mid).work ≡ (g.state old).work) where
  -- a tree of the pages is held
  pub held_still : (place : TreePlace) (t : Forest) → IsTrue (g.state old).is_told → HasTree (g.state old).work place t → HoldsTreeAt g mid place t
  held_still place t told has = told_of_tree g mid (still ∙ told) place t (subst (λ work. HasTree work place t) (sym same) has)

  -- so no damage of the block map of a table is named
  pub map_unless : (shape : Shape) (defs : Definitions) (i : ℕ) (def : TableDef) (damage : Damage) → slice_get defs i ≡ Some (Some def) → BreaksTreeAt g mid (map_place def) damage
      → Unless g old (λ pages. (view : DatabaseView) × ViewHasTrees shape pages defs view) damage
  map_unless shape defs i def damage at breaks told has =
      let view = has.0 in
      let (table, stands, is) = place_with view.places i def (ap (λ (ds : Definitions). slice_get ds i) has.1.defined ∙ at) in
      breaks.broken table.map (held_still (map_place def) table.map told (subst (λ (d : TableDef). HasTree (g.state old).work (map_place d) table.map) is (map_stands shape (g.state old).work defs view has.1 i table stands)))
