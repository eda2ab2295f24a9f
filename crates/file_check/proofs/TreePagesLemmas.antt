-- The pages of trees, judged by how often they stand in trees.
use Rattle.std.proofs.Common.{◌≡◌, ◌≢◌, ◌<◌, ◌≤◌, ◌+◌, ◌-◌, ◌*◌, ◌/◌, ◌⊎◌, ℕ, List, Bool, true, false, Option, Some, None, IsTrue, refl, ap, arith, sym, ◌∙◌, subst, inl, inr, length, get_or, sum_by}
use Rattle.std.specs.Prelude.{slice_get, if◌then◌else◌, is_some, nat_le, ◌&&◌, ◌^◌, MatchOption}
use Rattle.std.proofs.Math.Nat.{mul-le-mul_right}
use Rattle.std.proofs.lemmas.Bool.Decides.{nat_tests}
use Rattle.std.proofs.lemmas.Bool.{cases_eq, cases_lt}
use Rattle.std.proofs.lemmas.List.{get_or_past}
use Rattle.mdc_ast.specs.declared.definition.TableDef.{TableDef}
use Rattle.mdc_ast.specs.Definitions.{Definitions}
use Rattle.store_api.specs.Extents.{first_count, first_page_of, is_extent_size}
use Rattle.store_api.specs.Frame.{NoPage}
use Rattle.store_api.specs.RunsOverPages.{RunsOverPages}
use Rattle.store_api.specs.declared.fault.StoreFault.{StoreFault}
use Rattle.store_api.specs.declared.pages.Pages.{Ghosts}
use Rattle.store_api.specs.declared.shape.Shape.{Shape}
use Rattle.store_api.proofs.RunsOverPagesLemmas.{runs_wider}
use Rattle.extent_map.specs.Kinds.{is_used_place}
use Rattle.extent_map.specs.Map.{HoldsMap}
use Rattle.extent_map.specs.Owners.{IsExtentPage, IsUsedPage, extent_of, owner_of, place_in_extent}
use Rattle.extent_map.specs.declared.kind.Kind.{Kind}
use Rattle.extent_map.specs.declared.kind.Kind.TheVariants.{Free}
use Rattle.extent_map.proofs.ExtentsLemmas.{extent_below, extent_of-page, is_extent_page, place_of-page}
use Rattle.extent_map.proofs.DamagesLemmas.{breaks_space_never}
use Rattle.extent_map.proofs.HoldsMapLemmas.{holds_map_same, on_map}
use Rattle.entry_tree.specs.Forest.{Forest, times}
use Rattle.table_trees.specs.TableTrees.{TreePlace, tree_places}
use Rattle.table_trees.specs.ToldPages.{HasTree, PageList}
use Rattle.table_trees.proofs.TreeListsLemmas.{beside_at}
use Rattle.mdc_sound.specs.Breaks.{BreaksRule, IsTreePlace, ShowsExtentOf, ShowsTree}
use Rattle.mdc_sound.specs.SpaceRules.{AreTreePagesSound, DatabaseView, IsTreePageSound, times_in_trees}
use Rattle.mdc_sound.specs.TableViews.{TableView, trees_of_table}
use Rattle.mdc_sound.proofs.SpaceRulesLemmas.{same_table, there_at, there_sum, two_there_sum}
use Rattle.mdc_sound.proofs.StandsForLemmas.{one_tree_at}
use Rattle.file_check.specs.Judging.{JudgesRule}
use Rattle.file_check.specs.Known.{AreTimesInTrees, ViewHasTrees}
use Rattle.file_check.specs.Looking.{AnyPage, Unless}
use Rattle.file_check.specs.TreesJudged.{AreTimesDue, IsLowestUndue, due_times}
use Rattle.file_check.proofs.KindsLemmas.{ReadsMap}
use Rattle.file_check.proofs.KnownTablesLemmas.{defined_is_viewed, viewed_is_defined}
use Rattle.file_check.proofs.OwnersShownLemmas.{known_map, one_owner}
use Rattle.file_check.proofs.TreeCountsLemmas.{TableCounts, beside_back, no_table_counts, none_counts, one_counts, one_in_sum, one_table_counts, past_times, two_count, two_in_sum, two_tables_count}

-- a page in tree i of the table in place t
pub record IsInTree (view : DatabaseView) (p t i : ℕ) : Type 0 where
  pub table : TableView
  pub at : slice_get view.places t ≡ Some (Some table)
  pub tree : Forest
  pub stands : slice_get (trees_of_table table) i ≡ Some tree
  pub counts : 0 < times p tree

-- a page in two trees
pub record IsInTwo (view : DatabaseView) (p : ℕ) : Type 0 where
  pub t : ℕ
  pub i : ℕ
  pub one : IsInTree view p t i
  pub u : ℕ
  pub j : ℕ
  pub other : IsInTree view p u j
  pub apart : (t ≢ u) ⊎ (i ≢ j)

-- how often a page stands in the trees of a table
abbrev in_table : ℕ → TableView → ℕ
in_table p table = sum_by (times p) (trees_of_table table)

-- ---- counts and trees

table_in_tree : (view : DatabaseView) (p : ℕ) (c : TableCounts (in_table p) view.places) → (i : ℕ) × IsInTree view p c.place i
table_in_tree view p c =
    let tree = one_counts (times p) (trees_of_table c.table) c.counts in
    (tree.place, record { table = c.table; at = c.stands; tree = tree.x; stands = tree.stands; counts = tree.counts })

counted_once : (view : DatabaseView) (p t i : ℕ) → IsInTree view p t i → 0 < times_in_trees p view
counted_once view p t i x = omega (arith, x.counts, one_in_sum (times p) (trees_of_table x.table) i x.tree x.stands, there_sum (in_table p) view.places t x.table x.at)

counted_twice : (view : DatabaseView) (p t u i j : ℕ) → IsInTree view p t i → IsInTree view p u j → (t ≢ u) ⊎ (i ≢ j) → 1 < times_in_trees p view
counted_twice view p t u i j x y apart = elim (cases_eq t u) [
  | inl same ↦ elim apart [
    | inl tables ↦ absurd (tables same)
    | inr trees ↦
        let table : y.table ≡ x.table = same_table y.table x.table (sym (subst (λ n. slice_get view.places n ≡ Some (Some y.table)) (sym same) y.at) ∙ x.at) in
        let stands = subst (λ (v : TableView). slice_get (trees_of_table v) j ≡ Some y.tree) table y.stands in
        omega (arith, x.counts, y.counts, two_in_sum (times p) (trees_of_table x.table) i j x.tree y.tree trees x.stands stands, there_sum (in_table p) view.places t x.table x.at)
  ]
  | inr tables ↦
      omega (
        arith,
        x.counts,
        y.counts,
        one_in_sum (times p) (trees_of_table x.table) i x.tree x.stands,
        one_in_sum (times p) (trees_of_table y.table) j y.tree y.stands,
        two_there_sum (in_table p) view.places t u x.table y.table tables x.at y.at,
      )
]

module _ (shape : Shape) (pages : PageList) (defs : Definitions) (view : DatabaseView) (has : ViewHasTrees shape pages defs view) where
  -- the place of a tree of the view
  placed : (t i : ℕ) (table : TableView) (tree : Forest) → slice_get view.places t ≡ Some (Some table) → slice_get (trees_of_table table) i ≡ Some tree
      → (place : TreePlace) × (slice_get (tree_places table.def) i ≡ Some place) × HasTree pages place tree
  placed t i table tree at stands = beside_back (HasTree pages) (tree_places table.def) (trees_of_table table) i tree (there_at _ view.places t table at has.rule4) stands

  -- and the tree of a place
  in_place : (p t i : ℕ) (place : TreePlace) (tree : Forest) → IsTreePlace pages t i place → HasTree pages place tree → 0 < times p tree → IsInTree view p t i
  in_place p t i place tree is has_tree counts =
      let v = defined_is_viewed shape pages defs view t is.def has is.within is.defines in
      let its = subst (λ (d : TableDef). slice_get (tree_places d) i ≡ Some place) (sym v.same) is.is_its in
      let b = beside_at (HasTree pages) (tree_places v.table.def) (trees_of_table v.table) i place (there_at _ view.places t v.table v.stands has.rule4) its in
      record { table = v.table; at = v.stands; tree = b.0; stands = b.1; counts = subst (λ (u : Forest). 0 < times p u) (one_tree_at pages place tree b.0 has_tree b.2) counts }

  in_shown : (p t i : ℕ) → ShowsTree pages t i (λ tree. 0 < times p tree) → IsInTree view p t i
  in_shown p t i shows =
      let is = shows.is_place in
      let v = defined_is_viewed shape pages defs view t is.def has is.within is.defines in
      let its = subst (λ (d : TableDef). slice_get (tree_places d) i ≡ Some shows.place) (sym v.same) is.is_its in
      let b = beside_at (HasTree pages) (tree_places v.table.def) (trees_of_table v.table) i shows.place (there_at _ view.places t v.table v.stands has.rule4) its in
      record { table = v.table; at = v.stands; tree = b.0; stands = b.1; counts = shows.tree b.0 b.2 }

  shows_tree : (p t i : ℕ) → IsInTree view p t i → ShowsTree pages t i (λ tree. 0 < times p tree)
  shows_tree p t i x =
      let d = viewed_is_defined shape pages defs view t x.table has x.at in
      let b = placed t i x.table x.tree x.at x.stands in
      record {
        place = b.0;
        is_place = record { within = d.within; def = x.table.def; defines = d.defines; is_its = b.1 };
        tree = λ u h. subst (λ (v : Forest). 0 < times p v) (one_tree_at pages b.0 x.tree u b.2 h) x.counts;
      }

  few_times : (p t i : ℕ) (table : TableView) (tree : Forest) → slice_get view.places t ≡ Some (Some table) → slice_get (trees_of_table table) i ≡ Some tree → times p tree ≤ 1
  few_times p t i table tree at stands = (placed t i table tree at stands).2.is_tree.distinct p

  -- a page that is counted more than once is in two trees
  in_two : (p : ℕ) → 1 < times_in_trees p view → IsInTwo view p
  in_two p l = elim (two_tables_count (in_table p) view.places l) [
    | inl two ↦
        let one = table_in_tree view p two.one in
        let other = table_in_tree view p two.other in
        record { t = two.one.place; i = one.0; one = one.1; u = two.other.place; j = other.0; other = other.1; apart = inl two.apart }
    | inr more ↦
        let two = two_count (times p) (trees_of_table more.table) (λ i tree stands. few_times p more.place i more.table tree more.stands stands) more.counts in
        record {
          t = more.place;
          i = two.one.place;
          one = record { table = more.table; at = more.stands; tree = two.one.x; stands = two.one.stands; counts = two.one.counts };
          u = more.place;
          j = two.other.place;
          other = record { table = more.table; at = more.stands; tree = two.other.x; stands = two.other.stands; counts = two.other.counts };
          apart = inr two.apart;
        }
  ]

  -- pages behind those that there are stand in none
  pub none_past : (p : ℕ) → length pages ≤ p → times_in_trees p view ≡ 0
  none_past p past =
      no_table_counts (in_table p) view.places (λ t table at. none_counts (times p) (trees_of_table table) (λ i tree stands. let b = placed t i table tree at stands in past_times pages b.0 tree p b.2 past))

  -- so the counts are those of all pages
  pub counted : (ns : List ℕ) → AreTimesInTrees pages view ns → (p : ℕ) → get_or ns p 0 ≡ times_in_trees p view
  counted ns are p = elim (cases_lt p (length pages)) [
    | inl there ↦ are.each p there
    | inr past ↦ get_or_past ns p 0 (omega (arith, past, are.count)) ∙ sym (none_past p past)
  ]

  -- ---- what breaks the rule

  shown_extent : (p : ℕ) → IsExtentPage shape p → ShowsExtentOf shape pages view.owners p
  shown_extent p is = (is, (has.rule2.each (extent_of shape p / 512) (on_map shape.extents (extent_of shape p) (extent_below shape p is))).held)

  shared_breaks : (p : ℕ) → 1 < times_in_trees p view → BreaksRule shape pages 5 p
  shared_breaks p l =
      let two = in_two p l in
      BreaksRule.shared two.t two.u two.i two.j p (shows_tree p two.t two.i two.one) (shows_tree p two.u two.j two.other) two.apart

  in_none_breaks : (p : ℕ) → IsUsedPage shape view.owners p → times_in_trees p view ≡ 0 → BreaksRule shape pages 5 p
  in_none_breaks p used none =
      BreaksRule.in_none p view.owners (shown_extent p used.page) used (λ t i place tree is stands. elim (cases_lt 0 (times p tree)) [
        | inl counts ↦ absurd (omega (arith, none, counted_once view p t i (in_place p t i place tree is stands counts)))
        | inr most ↦ omega (arith, most)
      ])

  stray_breaks : (p : ℕ) → (IsUsedPage shape view.owners p → ⊥) → 0 < times_in_trees p view → BreaksRule shape pages 5 p
  stray_breaks p not_used l =
      let table = one_table_counts (in_table p) view.places l in
      let tree = table_in_tree view p table in
      let shows = shows_tree p table.place tree.0 tree.1 in
      elim (cases_lt p (first_count shape.extents)) [
        | inl ahead ↦ BreaksRule.outside table.place tree.0 p shows (λ is. omega (arith, ahead, is.behind))
        | inr behind ↦ elim (cases_lt p (first_page_of shape.extents shape.extent_pages shape.extents)) [
          | inl within ↦ BreaksRule.not_used table.place tree.0 p view.owners shows (shown_extent p (record { behind = behind; within = within })) not_used
          | inr past ↦ BreaksRule.outside table.place tree.0 p shows (λ is. omega (arith, past, is.within))
        ]
      ]

  -- a page that breaks it isn't sound
  not_counted : (p : ℕ) → (IsUsedPage shape view.owners p → ⊥) → 0 < times_in_trees p view → IsTreePageSound shape view p → ⊥
  not_counted p not_used l sound = omega (arith, l, sound.others not_used)

  used_as : (owners : List Kind) (p : ℕ) → ShowsExtentOf shape pages owners p → owner_of owners (extent_of shape p) ≡ owner_of view.owners (extent_of shape p)
  used_as owners p shows = one_owner owners view.owners (extent_of shape p) shows.1 (shown_extent p shows.0).1

  breaks_unsound : (p : ℕ) → BreaksRule shape pages 5 p → IsTreePageSound shape view p → ⊥
  breaks_unsound _ (BreaksRule.shared t u i j p one other apart) sound =
      let l = counted_twice view p t u i j (in_shown p t i one) (in_shown p u j other) apart in
      not_counted p (λ used. omega (arith, l, sound.used used)) (omega (arith, l)) sound
  breaks_unsound _ (BreaksRule.in_none p owners shows used none) sound =
      let here : IsUsedPage shape view.owners p = record { page = used.page; used = subst (λ (k : Kind). IsTrue (is_used_place (place_in_extent shape p) k)) (used_as owners p shows) used.used } in
      let table = one_table_counts (in_table p) view.places (omega (arith, sound.used here)) in
      let tree = table_in_tree view p table in
      let shown = shows_tree p table.place tree.0 tree.1 in
      let b = placed table.place tree.0 tree.1.table tree.1.tree tree.1.at tree.1.stands in
      let d = viewed_is_defined shape pages defs view table.place tree.1.table has tree.1.at in
      let zero_times = none table.place tree.0 b.0 tree.1.tree (record { within = d.within; def = tree.1.table.def; defines = d.defines; is_its = b.1 }) b.2 in
      omega (arith, zero_times, tree.1.counts)
  breaks_unsound _ (BreaksRule.outside t i p shows out) sound = not_counted p (λ used. out used.page) (counted_once view p t i (in_shown p t i shows)) sound
  breaks_unsound _ (BreaksRule.not_used t i p owners shows extent not_used) sound =
      not_counted p (λ used. not_used (record { page = used.page; used = subst (λ (k : Kind). IsTrue (is_used_place (place_in_extent shape p) k)) (sym (used_as owners p extent)) used.used }))
      (counted_once view p t i (in_shown p t i shows)) sound

  -- ---- what was judged

  pub all_judged : ((p : ℕ) → IsTreePageSound shape view p) → JudgesRule shape pages 5 (AreTreePagesSound shape view) None
  all_judged sound = record { holds = sound; unbroken = λ p breaks. breaks_unsound p breaks (sound p) }

  pub lowest_judged : (page : ℕ) → BreaksRule shape pages 5 page → ((p : ℕ) → p < page → IsTreePageSound shape view p) → JudgesRule shape pages 5 (AreTreePagesSound shape view) (Some page)
  lowest_judged page breaks sound = record {
    breaks = breaks;
    lowest = λ p other. elim (cases_lt p page) [
      | inl low ↦ absurd (breaks_unsound p other (sound p low))
      | inr high ↦ high
    ];
  }

  -- pages in front of the extents are to be in none
  ahead_unused : (p : ℕ) → p < first_page_of shape.extents shape.extent_pages 0 → IsUsedPage shape view.owners p → ⊥
  ahead_unused p low used = omega (arith, low, used.page.behind)

  module _ (ns : List ℕ) (are : AreTimesInTrees pages view ns) where
    pub ahead_sound : (n : ℕ) → n ≤ first_page_of shape.extents shape.extent_pages 0 → AreTimesDue Free ns 0 n → (p : ℕ) → p < n → IsTreePageSound shape view p
    ahead_sound n most due p low = record {
      used = λ used. absurd (ahead_unused p (omega (arith, low, most)) used);
      others = λ not_used. sym (counted ns are p) ∙ (ap (λ k. get_or ns k 0) (let e : p ≡ 0 + p = omega arith in e) ∙ due p low);
    }

    pub ahead_undue : (page : ℕ) → IsLowestUndue Free ns 0 (first_page_of shape.extents shape.extent_pages 0) page → JudgesRule shape pages 5 (AreTreePagesSound shape view) (Some page)
    ahead_undue page undue =
        let here : page ≡ undue.place = omega (arith, undue.page_is) in
        let count : get_or ns (0 + undue.place) 0 ≡ times_in_trees page view = ap (λ k. get_or ns k 0) (sym undue.page_is) ∙ counted ns are page in
        let some : times_in_trees page view ≢ 0 = λ e. undue.undue (count ∙ e) in
        lowest_judged page (stray_breaks page (ahead_unused page (omega (arith, here, undue.within))) (omega (arith, some)))
        (λ p low. ahead_sound undue.place (omega (arith, undue.within)) undue.lowest p (omega (arith, low, here)))

    -- ---- the pages of an extent

    module _ (e : ℕ) (kind : Kind) (below : e < shape.extents) (owned : owner_of view.owners e ≡ kind) where
      used_here : (j : ℕ) → j < shape.extent_pages → is_used_place j kind ≡ true → IsUsedPage shape view.owners (first_page_of shape.extents shape.extent_pages e + j)
      used_here j low is = record {
        page = is_extent_page shape e j below low;
        used = subst (λ n. IsTrue (is_used_place n (owner_of view.owners (extent_of shape (first_page_of shape.extents shape.extent_pages e + j))))) (sym (place_of-page shape e j low))
            (subst (λ n. IsTrue (is_used_place j (owner_of view.owners n))) (sym (extent_of-page shape e j low)) (subst (λ (k : Kind). IsTrue (is_used_place j k)) (sym owned) is));
      }

      use_of : (j : ℕ) → j < shape.extent_pages → IsUsedPage shape view.owners (first_page_of shape.extents shape.extent_pages e + j) → is_used_place j kind ≡ true
      use_of j low used =
          subst (λ (k : Kind). IsTrue (is_used_place j k)) owned (subst (λ n. IsTrue (is_used_place j (owner_of view.owners n))) (extent_of-page shape e j low)
          (subst (λ n. IsTrue (is_used_place n (owner_of view.owners (extent_of shape (first_page_of shape.extents shape.extent_pages e + j))))) (place_of-page shape e j low) used.used))

      due_of : (j : ℕ) (b : Bool) → is_used_place j kind ≡ b → due_times kind j ≡ (if b then 1 else 0)
      due_of j b is = ap (λ (u : Bool). if u then 1 else 0) is

      due_sound : (j : ℕ) → j < shape.extent_pages → times_in_trees (first_page_of shape.extents shape.extent_pages e + j) view ≡ due_times kind j → IsTreePageSound shape view (first_page_of shape.extents shape.extent_pages e + j)
      due_sound j low due = record { used = λ used. due ∙ due_of j true (use_of j low used); others = λ not_used. go (is_used_place j kind) refl not_used }
        where
          go : (b : Bool) → is_used_place j kind ≡ b → (IsUsedPage shape view.owners (first_page_of shape.extents shape.extent_pages e + j) → ⊥) → times_in_trees (first_page_of shape.extents shape.extent_pages e + j) view ≡ 0
          go true is not_used = absurd (not_used (used_here j low is))
          go false is not_used = due ∙ due_of j false is

      undue_breaks : (j : ℕ) → j < shape.extent_pages → times_in_trees (first_page_of shape.extents shape.extent_pages e + j) view ≢ due_times kind j → BreaksRule shape pages 5 (first_page_of shape.extents shape.extent_pages e + j)
      undue_breaks j low undue = go (is_used_place j kind) refl
        where
          go : (b : Bool) → is_used_place j kind ≡ b → BreaksRule shape pages 5 (first_page_of shape.extents shape.extent_pages e + j)
          go true is = elim (cases_lt 1 (times_in_trees (first_page_of shape.extents shape.extent_pages e + j) view)) [
            | inl more ↦ shared_breaks (first_page_of shape.extents shape.extent_pages e + j) more
            | inr few ↦
                let other : times_in_trees (first_page_of shape.extents shape.extent_pages e + j) view ≢ 1 = λ one. undue (one ∙ sym (due_of j true is)) in
                in_none_breaks (first_page_of shape.extents shape.extent_pages e + j) (used_here j low is) (omega (arith, few, other))
          ]
          go false is =
              let some : times_in_trees (first_page_of shape.extents shape.extent_pages e + j) view ≢ 0 = λ none. undue (none ∙ sym (due_of j false is)) in
              stray_breaks (first_page_of shape.extents shape.extent_pages e + j) (λ used. let wrong : true ≡ false = sym (use_of j low used) ∙ is in cc) (omega (arith, some))

      pub extent_sound : (n : ℕ) → n ≤ shape.extent_pages → AreTimesDue kind ns (first_page_of shape.extents shape.extent_pages e) n → ((p : ℕ) → p < first_page_of shape.extents shape.extent_pages e → IsTreePageSound shape view p)
          → (p : ℕ) → p < first_page_of shape.extents shape.extent_pages e + n → IsTreePageSound shape view p
      extent_sound n most due sound p low = elim (cases_lt p (first_page_of shape.extents shape.extent_pages e)) [
        | inl ahead ↦ sound p ahead
        | inr behind ↦
            let j = p - first_page_of shape.extents shape.extent_pages e in
            let is : first_page_of shape.extents shape.extent_pages e + j ≡ p = omega (arith, behind) in
            let inside : j < n = omega (arith, low, behind) in
            subst (IsTreePageSound shape view) is (due_sound j (omega (arith, inside, most)) (sym (counted ns are (first_page_of shape.extents shape.extent_pages e + j)) ∙ due j inside))
      ]

      pub extent_undue : (page : ℕ) → ((p : ℕ) → p < first_page_of shape.extents shape.extent_pages e → IsTreePageSound shape view p) → IsLowestUndue kind ns (first_page_of shape.extents shape.extent_pages e) shape.extent_pages page
          → JudgesRule shape pages 5 (AreTreePagesSound shape view) (Some page)
      extent_undue page sound undue =
          let first = first_page_of shape.extents shape.extent_pages e in
          subst (λ p. JudgesRule shape pages 5 (AreTreePagesSound shape view) (Some p)) (sym undue.page_is)
          (lowest_judged (first + undue.place) (undue_breaks undue.place undue.within (λ due. undue.undue (counted ns are (first + undue.place) ∙ due)))
          (extent_sound undue.place (omega (arith, undue.within)) undue.lowest sound))

    -- behind the last extent there is no page
    pub whole_sound : ((p : ℕ) → p < first_page_of shape.extents shape.extent_pages shape.extents → IsTreePageSound shape view p) → (p : ℕ) → IsTreePageSound shape view p
    whole_sound sound p = elim (cases_lt p (first_page_of shape.extents shape.extent_pages shape.extents)) [
      | inl low ↦ sound p low
      | inr past ↦
          let count = has.rule1.count in
          let all : count.extents * shape.extent_pages ≤ shape.extents * shape.extent_pages = mul-le-mul_right shape.extent_pages count.within in
          record { used = λ used. absurd (omega (arith, past, used.page.within)); others = λ not_used. none_past p (omega (arith, past, count.count, all)) }
    ]

-- ---- an answer that is there, or isn't

pub none_answered : (A : Type 0) (B : ℕ → Type 0) (answer : Option ℕ) → is_some answer ≡ false → MatchOption answer A B → A
none_answered A B None is h = h
none_answered A B (Some page) is h = absurd (cc)

pub one_answered : (P : Option ℕ → Type 0) (A : Type 0) (B : ℕ → Type 0) (answer : Option ℕ) → is_some answer ≡ true → MatchOption answer A B → ((page : ℕ) → B page → P (Some page)) → P answer
one_answered P A B None is h found = absurd (cc)
one_answered P A B (Some page) is h found = found page h

-- pages have numbers of 32 bits
third_true : (a b c d : Bool) → (a && b && c && d) ≡ true → d ≡ true
third_true true true true d is = is
third_true true true false d is = absurd (cc)
third_true true false c d is = absurd (cc)
third_true false b c d is = absurd (cc)

pub extent_small : (shape : Shape) (e : ℕ) → e < shape.extents → shape.extents < 2 ^ 32 → first_page_of shape.extents shape.extent_pages e + shape.extent_pages < 2 ^ 32
extent_small shape e below small =
    let few : nat_le (shape.extents * shape.extent_pages) 262144 ≡ true = third_true (nat_le 4 shape.extents) (nat_le shape.extents 65536) (is_extent_size shape.extent_pages) (nat_le (shape.extents * shape.extent_pages) 262144) shape.within in
    let most : shape.extents * shape.extent_pages ≤ 262144 = grind (arith, nat_tests, few) in
    let all : (e + 1) * shape.extent_pages ≤ shape.extents * shape.extent_pages = let next : e + 1 ≤ shape.extents = omega arith in mul-le-mul_right shape.extent_pages next in
    omega (arith, most, all, small)

-- a page in front of the next extent
pub page_before : (shape : Shape) (e p : ℕ) → p < first_page_of shape.extents shape.extent_pages (e + 1) → p < first_page_of shape.extents shape.extent_pages e + shape.extent_pages
page_before shape e p low = let more : (e + 1) * shape.extent_pages ≡ e * shape.extent_pages + shape.extent_pages = omega arith in omega (arith, low, more)

-- ---- between the calls

-- the kind that was read is that of the view
pub kind_owned : {S : Type 0} (g : Ghosts S) (shape : Shape) (old mid : S) (e : ℕ) (kind : Kind) → (g.state mid).is_told ≡ (g.state old).is_told → (g.state mid).work ≡ (g.state old).work
    → (defs : Definitions) (view : DatabaseView) → IsTrue (g.state old).is_told → ViewHasTrees shape (g.state old).work defs view → (HoldsMap g shape mid view.owners → kind ≡ owner_of view.owners e) → owner_of view.owners e ≡ kind
kind_owned g shape old mid e kind still same defs view told has read = sym (read (holds_map_same still same (known_map g old shape defs view told has)))

-- where the rules before hold, reading the map names no damage
pub reads_unless : {S : Type 0} (g : Ghosts S) (shape : Shape) (old new : S) (fault : Option StoreFault) → ReadsMap g shape old new fault
    → RunsOverPages g NoPage AnyPage (Unless g old (λ pages. (defs : Definitions) × (view : DatabaseView) × ViewHasTrees shape pages defs view)) old new fault
reads_unless g shape old new fault run =
    runs_wider run (λ p there none. none) (λ p is. tt) (λ damage breaks told has. breaks_space_never damage (known_map g old shape has.0 has.1 told has.2) breaks)
