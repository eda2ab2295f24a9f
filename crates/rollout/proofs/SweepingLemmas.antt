-- A sweep over one record index, leaf by leaf.
use Rattle.std.proofs.Common.{◌≡◌, ◌≢◌, ◌≤◌, ◌<◌, ◌+◌, ◌-◌, ◌/◌, ◌∙◌, ℕ, zero, suc, List, [], ◌∷◌, true, false, length, set, sum_by, replicate, refl, ap, arith, sym, subst, inl, inr}
use Rattle.std.specs.Prelude.{◌&&◌, Bool, Contains, Err, IfErr, IsTrue, None, Ok, Option, Result, Some, not, slice_get}
use Rattle.std.specs.List.{filter}
use Rattle.std.proofs.lemmas.Bool.{false≢true}
use Rattle.std.proofs.lemmas.Option.{same_Some}
use Rattle.mdc_words.specs.ByteOrder.{Entry, below}
use Rattle.mdc_ast.specs.declared.definition.IndexDef.{IndexDef}
use Rattle.mdc_ast.specs.declared.definition.KeyPart.{KeyPart}
use Rattle.mdc_ast.specs.declared.definition.TableDef.{TableDef}
use Rattle.store_api.specs.Causes.{fault_of}
use Rattle.store_api.specs.RunsOverPages.{RunsOverPages}
use Rattle.store_api.specs.declared.fault.Damage.{Damage}
use Rattle.store_api.specs.declared.fault.StoreFault.{StoreFault}
use Rattle.store_api.specs.declared.fault.StoreFault.TheVariants.{Damaged}
use Rattle.store_api.specs.declared.pages.Pages.{Ghosts}
use Rattle.store_api.specs.declared.shape.Shape.{Shape}
use Rattle.store_api.proofs.RunsOverPagesLemmas.{runs_damage, runs_none, runs_then, runs_wider}
use Rattle.extent_map.specs.Map.{HoldsMap, HoldsMapPage}
use Rattle.extent_map.specs.Owners.{IsUsedPage, extent_of}
use Rattle.extent_map.specs.declared.kind.Kind.{Kind}
use Rattle.extent_map.specs.declared.space_notes.SpaceNotes.{SpaceNotes}
use Rattle.extent_map.proofs.DamagesLemmas.{breaks_space_never}
use Rattle.extent_map.proofs.ExtentsLemmas.{extent_below}
use Rattle.extent_map.proofs.HoldsMapLemmas.{on_map}
use Rattle.key_codec.specs.Keys.{width_of_parts}
use Rattle.node_page.specs.Entries.{names_block}
use Rattle.entry_tree.specs.Entries.{AreOfWidth}
use Rattle.entry_tree.specs.EntryBounds.{Bound, Under}
use Rattle.entry_tree.specs.Forest.{Forest, leaf_entries, times}
use Rattle.entry_tree.specs.Reading.{RestBegins}
use Rattle.entry_tree.specs.Sweeping.{is_swept, lies_under, unswept}
use Rattle.entry_tree.specs.TreePlaces.{entries_behind}
use Rattle.entry_tree.specs.declared.tree.Tree.{Tree}
use Rattle.entry_tree.proofs.EntryBoundsLemmas.{below_trans}
use Rattle.entry_tree.proofs.WidthsLemmas.{tree_wide}
use Rattle.block_index.proofs.PartRangesLemmas.{not_below_zeros}
use Rattle.table_trees.specs.TableTrees.{TreePlace, place_of_tree, record_places}
use Rattle.table_trees.specs.TreesBeside.{ChangesTrees, IsTreesOrMapPage}
use Rattle.table_trees.proofs.SideBySideLemmas.{changes_none, changes_then, place_trees_or_map, sum_no_more, tree_among, trees_or_map_back}
use Rattle.table_trees.proofs.ToldPagesLemmas.{map_of_told}
use Rattle.table_trees.proofs.TreeListsLemmas.{cut_at, set_at_cut}
use Rattle.table_scan.proofs.ScanningLemmas.{filter_first, filter_past}
use Rattle.mdc_sound.specs.StandingTable.{roots_in}
use Rattle.record_index.specs.OneIndex.{AmongTrees, BreaksSweepingIndex, ChangesOneTree}
use Rattle.record_index.specs.RecordIndexes.{parts_of_record_index, place_of_record_index}
use Rattle.record_index.specs.SweptLeaf.{SweepsOneLeaf, TakesNoSpace}
use Rattle.record_index.proofs.IndexesLemmas.{parts_are}
use Rattle.row_entries.specs.ChosenTrees.{NamesIndexPart, StandIndexes}
use Rattle.row_entries.proofs.ChosenTreesLemmas.{space_named}
use Rattle.row_entries.proofs.WalkLemmas.{next_place, root_among}
use Rattle.rollout.specs.SweptIndexes.{BreaksCounted, BreaksSweep, NamesSoManyIn, SweptTo, SweptTree, is_gone}
use Rattle.rollout.proofs.NoSpaceLemmas.{space_itself, space_then}

-- ---- what is left of some entries

-- where each of two tests may take an entry, one test says what both leave
filter_both : {X : Type 0} (p q r : X → Bool) → ((x : X) → r x ≡ (q x && p x)) → (xs : List X) → filter p (filter q xs) ≡ filter r xs
filter_both p q r same [] = refl
filter_both p q r same (x ∷ xs) = go (q x) (p x) refl refl (filter_both p q r same xs)
  where
    go : (b c : Bool) → q x ≡ b → p x ≡ c → filter p (filter q xs) ≡ filter r xs → filter p (filter q (x ∷ xs)) ≡ filter r (x ∷ xs)
    go true true is too rest =
        ap (filter p) (filter_first q x xs is) ∙ filter_first p x (filter q xs) too ∙ ap (λ l. x ∷ l) rest ∙ sym (filter_first r x xs (same x ∙ ap (λ (b : Bool). b && p x) is ∙ too))
    go true false is too rest = ap (filter p) (filter_first q x xs is) ∙ filter_past p x (filter q xs) too ∙ rest ∙ sym (filter_past r x xs (same x ∙ ap (λ (b : Bool). b && p x) is ∙ too))
    go false c is too rest = ap (filter p) (filter_past q x xs is) ∙ rest ∙ sym (filter_past r x xs (same x ∙ ap (λ (b : Bool). b && p x) is))

-- a test that all pass leaves all
filter_all : {X : Type 0} (p : X → Bool) (xs : List X) → ((x : X) → Contains xs x → p x ≡ true) → filter p xs ≡ xs
filter_all p [] all = refl
filter_all p (x ∷ xs) all = filter_first p x xs (all x (0, omega arith, refl)) ∙ ap (λ l. x ∷ l) (filter_all p xs (λ y there. all y (suc there.0, omega (arith, there.1), there.2)))

-- the next bound lies above the one that a step began at
pub next_above : (bound : Entry) (items rest : List Entry) (next : Bound) → RestBegins (bound ∷ items) next rest → Under next bound
next_above bound items rest None begins = tt
next_above bound items [] (Some next) begins = absurd begins
next_above bound items (x ∷ rest) (Some next) begins = begins.0.0

lies_on : (bound : Entry) (next : Bound) (y : Entry) → Under next bound → below y bound ≡ true → lies_under next y ≡ true
lies_on bound None y above low = refl
lies_on bound (Some next) y above low = below_trans y bound next low above

swept_tests : (low under named : Bool) → (low ≡ true → under ≡ true) → not (under && named) ≡ (not (low && named) && not (not low && under && named))
swept_tests true true true on = refl
swept_tests true true false on = refl
swept_tests true false named on = let wrong : false ≡ true = on refl in absurd cc
swept_tests false true true on = refl
swept_tests false true false on = refl
swept_tests false false true on = refl
swept_tests false false false on = refl

-- what a step leaves of what is left so far is left once it has come to the next bound
pub swept_on : (bound : Entry) (next : Bound) (key_width : ℕ) (blocks : List ℕ) (entries : List Entry) → Under next bound
    → unswept bound next key_width blocks (filter (λ y. not (is_gone (Some bound) key_width blocks y)) entries) ≡ filter (λ y. not (is_gone next key_width blocks y)) entries
swept_on bound next key_width blocks entries above =
    filter_both (λ y. not (is_swept bound next key_width blocks y)) (λ y. not (is_gone (Some bound) key_width blocks y)) (λ y. not (is_gone next key_width blocks y))
    (λ y. swept_tests (below y bound) (lies_under next y) (names_block blocks key_width y) (lies_on bound next y above)) entries

wide_entry : (width : ℕ) (entries : List Entry) (y : Entry) → AreOfWidth width entries → Contains entries y → length y ≡ width
wide_entry width [] y wide there = absurd (omega (arith, there.1))
wide_entry width (x ∷ entries) y wide (zero, low, at) = ap length (sym at) ∙ wide.0
wide_entry width (x ∷ entries) y wide (suc k, low, at) = wide_entry width entries y wide.1 (k, omega (arith, low), at)

-- nothing lies below the lowest bound
pub none_swept : (width key_width : ℕ) (blocks : List ℕ) (entries : List Entry) (bound : Entry) → bound ≡ replicate width 0 → AreOfWidth width entries → filter (λ y. not (is_gone (Some bound) key_width blocks y)) entries ≡ entries
none_swept width key_width blocks entries bound is wide =
    filter_all (λ y. not (is_gone (Some bound) key_width blocks y)) entries (λ y there.
    let high : below y bound ≡ false = ap (below y) is ∙ not_below_zeros width y (wide_entry width entries y wide there) in
    ap (λ (low : Bool). not (low && names_block blocks key_width y)) high)

-- ---- one among some trees

-- a tree set in its own place changes nothing
pub set_itself : {X : Type 0} (xs : List X) (i : ℕ) (x : X) → slice_get xs i ≡ Some x → set xs i x ≡ xs
set_itself xs i x at = set_at_cut xs i x x at ∙ sym (cut_at xs i x at)

-- one set twice is the last
pub set_again : {X : Type 0} (xs : List X) (i : ℕ) (x y : X) → set (set xs i x) i y ≡ set xs i y
set_again [] i x y = refl
set_again (z ∷ xs) zero x y = refl
set_again (z ∷ xs) (suc i) x y = ap (λ l. z ∷ l) (set_again xs i x y)

-- and it is there
pub set_there : {X : Type 0} (xs : List X) (i : ℕ) (x y : X) → slice_get xs i ≡ Some x → slice_get (set xs i y) i ≡ Some y
set_there [] i x y at = absurd cc
set_there (z ∷ xs) zero x y at = refl
set_there (z ∷ xs) (suc i) x y at = set_there xs i x y at

-- ---- damage

map_page_told : {S : Type 0} {g : Ghosts S} {shape : Shape} {s : S} {owners : List Kind} {p : ℕ} → HoldsMap g shape s owners → IsUsedPage shape owners p → HoldsMapPage g shape s owners (extent_of shape p / 512)
map_page_told {shape = shape} {p = p} map used = map.pages (extent_of shape p / 512) (on_map shape.extents (extent_of shape p) (extent_below shape p used.page))

module _ {S : Type 0} (g : Ghosts S) (shape : Shape) (def : TableDef) where
  -- what a step may name is a part of the indexes, which didn't stand
  step_breaks : (s : S) (n : ℕ) (which : IndexDef) → slice_get def.indexes n ≡ Some which → (damage : Damage) → BreaksSweepingIndex g shape s (place_of_record_index def n) damage → BreaksSweep g shape s def damage
  step_breaks s n which is damage b = record {
    names = elim b.is [
      | inl broken ↦ NamesIndexPart.tree broken.rule (root_here broken.page)
      | inr at_return ↦ elim at_return.breaks [
        | inl space ↦ space_named g shape at_return.mid def damage space
        | inr unused ↦ NamesIndexPart.tree_page unused.rule
      ]
    ];
    broken = λ owners trees st.
        let one = tree_among shape s owners (record_places def) trees b.tree n st (next_place def n which is ∙ ap Some (sym b.at)) in
        elim b.is [
          | inl broken ↦ broken.broken one.0 one.2.held
          | inr at_return ↦
              let then = at_return.map owners (one.0, one.2) in
              elim at_return.breaks [
                | inl space ↦ breaks_space_never damage then.1 space
                | inr unused ↦ unused.not_used then.0 (map_page_told then.1 then.2) then.2
              ]
        ];
  }
    where
      root_here : damage.page ≡ b.tree.root → Contains (roots_in (record_places def)) damage.page
      root_here page = subst (Contains (roots_in (record_places def))) (sym (page ∙ ap (λ q. q.root) b.at)) (root_among (record_places def) n (place_of_record_index def n) (next_place def n which is))

  -- where the indexes stood before, they stand afterwards, and no page came to them
  abbrev pub StandOn : S → S → Type 0
  StandOn old mid =
      (owners : List Kind) (trees : List Forest) → StandIndexes g shape old def owners trees
      → (owners_mid : List Kind) × (trees_mid : List Forest) × StandIndexes g shape mid def owners_mid trees_mid × ((q : ℕ) → sum_by (times q) trees_mid ≤ sum_by (times q) trees)

  breaks_back : (old mid : S) → StandOn old mid → (damage : Damage) → BreaksSweep g shape mid def damage → BreaksSweep g shape old def damage
  breaks_back old mid on damage breaks = record { names = breaks.names; broken = λ owners trees st. let then = on owners trees st in breaks.broken then.0 then.1 then.2 }

  -- what was run behind calls of sweeps
  sweeps_behind : (old mid new : S) (fault : Option StoreFault) → StandOn old mid
      → RunsOverPages g (IsTreesOrMapPage g shape old (record_places def)) (IsTreesOrMapPage g shape old (record_places def)) (BreaksSweep g shape old def) old mid None
      → RunsOverPages g (IsTreesOrMapPage g shape mid (record_places def)) (IsTreesOrMapPage g shape mid (record_places def)) (BreaksSweep g shape mid def) mid new fault
      → RunsOverPages g (IsTreesOrMapPage g shape old (record_places def)) (IsTreesOrMapPage g shape old (record_places def)) (BreaksSweep g shape old def) old new fault
  sweeps_behind old mid new fault on first second = runs_then first second (λ p there mine. back p mine) back (breaks_back old mid on)
    where
      back : (p : ℕ) → IsTreesOrMapPage g shape mid (record_places def) p → IsTreesOrMapPage g shape old (record_places def) p
      back p mine = trees_or_map_back shape old mid (record_places def) p on mine

  -- a step, as one over all record indexes
  step_runs : (mid new : S) (fault : Option StoreFault) (n : ℕ) (which : IndexDef) → slice_get def.indexes n ≡ Some which
      → RunsOverPages g (IsTreesOrMapPage g shape mid (place_of_record_index def n ∷ [])) (IsTreesOrMapPage g shape mid (place_of_record_index def n ∷ [])) (BreaksSweepingIndex g shape mid (place_of_record_index def n)) mid new fault
      → RunsOverPages g (IsTreesOrMapPage g shape mid (record_places def)) (IsTreesOrMapPage g shape mid (record_places def)) (BreaksSweep g shape mid def) mid new fault
  step_runs mid new fault n which is run = runs_then runs_none run (λ p there mine. wide p mine) wide (step_breaks mid n which is)
    where
      wide : (p : ℕ) → IsTreesOrMapPage g shape mid (place_of_record_index def n ∷ []) p → IsTreesOrMapPage g shape mid (record_places def) p
      wide p mine = place_trees_or_map shape mid (record_places def) n (place_of_record_index def n) p (next_place def n which is) mine

-- what breaks them breaks them where they are expected to have some number of entries
pub runs_counted : {S : Type 0} {g : Ghosts S} {shape : Shape} {def : TableDef} {Mine Comes : ℕ → Type 0} (Counted : List Forest → Type 0) (old new : S) (fault : Option StoreFault)
    → RunsOverPages g Mine Comes (BreaksSweep g shape old def) old new fault → RunsOverPages g Mine Comes (BreaksCounted g shape old def Counted) old new fault
runs_counted Counted old new fault run =
    runs_wider run (λ p low is. is) (λ p is. is) (λ damage breaks. record { names = breaks.names; broken = λ owners trees st counted. breaks.broken owners trees st })

-- ---- how many left

filter_split : {X : Type 0} (p : X → Bool) (xs : List X) → length (filter p xs) + length (filter (λ x. not (p x)) xs) ≡ length xs
filter_split p [] = refl
filter_split p (x ∷ xs) = go (p x) refl (filter_split p xs)
  where
    go : (b : Bool) → p x ≡ b → length (filter p xs) + length (filter (λ x. not (p x)) xs) ≡ length xs → length (filter p (x ∷ xs)) + length (filter (λ x. not (p x)) (x ∷ xs)) ≡ suc (length xs)
    go true is rest = omega (arith, rest, ap length (filter_first p x xs is), ap length (filter_past (λ x. not (p x)) x xs (ap not is)))
    go false is rest = omega (arith, rest, ap length (filter_past p x xs is), ap length (filter_first (λ x. not (p x)) x xs (ap not is)))

filter_fewer : {X : Type 0} (p q : X → Bool) → ((x : X) → p x ≡ true → q x ≡ true) → (xs : List X) → length (filter p xs) ≤ length (filter q xs)
filter_fewer p q so [] = omega arith
filter_fewer p q so (x ∷ xs) = go (p x) (q x) refl refl (filter_fewer p q so xs)
  where
    go : (b c : Bool) → p x ≡ b → q x ≡ c → length (filter p xs) ≤ length (filter q xs) → length (filter p (x ∷ xs)) ≤ length (filter q (x ∷ xs))
    go true true is too rest = omega (arith, rest, ap length (filter_first p x xs is), ap length (filter_first q x xs too))
    go true false is too rest = absurd (false≢true (sym too ∙ so x is))
    go false true is too rest = omega (arith, rest, ap length (filter_past p x xs is), ap length (filter_first q x xs too))
    go false false is too rest = omega (arith, rest, ap length (filter_past p x xs is), ap length (filter_past q x xs too))

gone_named : (bound : Bound) (key_width : ℕ) (blocks : List ℕ) (y : Entry) → is_gone bound key_width blocks y ≡ true → names_block blocks key_width y ≡ true
gone_named bound key_width blocks y is = go (lies_under bound y) refl
  where
    go : (b : Bool) → lies_under bound y ≡ b → names_block blocks key_width y ≡ true
    go true under = sym (ap (λ (b : Bool). b && names_block blocks key_width y) under) ∙ is
    go false under = absurd (false≢true (sym (ap (λ (b : Bool). b && names_block blocks key_width y) under) ∙ is))

-- no more left than name a block
pub few_swept : (bound : Bound) (key_width : ℕ) (blocks : List ℕ) (gone : ℕ) (was is : Forest) → SweptTo bound key_width blocks gone was is → gone ≤ length (filter (names_block blocks key_width) (leaf_entries was))
few_swept bound key_width blocks gone was is swept = omega (
  arith,
  swept.fewer,
  ap length swept.leaves,
  filter_split (is_gone bound key_width blocks) (leaf_entries was),
  filter_fewer (is_gone bound key_width blocks) (names_block blocks key_width) (gone_named bound key_width blocks) (leaf_entries was),
)

-- and all of them at the end
pub all_swept : (key_width : ℕ) (blocks : List ℕ) (gone : ℕ) (was is : Forest) → SweptTree key_width blocks gone was is → gone ≡ length (filter (names_block blocks key_width) (leaf_entries was))
all_swept key_width blocks gone was is swept = omega (arith, swept.fewer, ap length swept.leaves, filter_split (names_block blocks key_width) (leaf_entries was))

-- ---- the loop

pub none_yet : (rows : ℕ) → 0 ≡ rows - rows
none_yet rows = omega arith

-- A sweep of one record index has come to a bound, and so many entries left it so far.
pub record IsSweeping {S : Type 0} (g : Ghosts S) (shape : Shape) (before now : SpaceNotes) (old mid : S) (def : TableDef) (index : ℕ) (blocks : List ℕ) (bound : Bound) (gone : ℕ) : Type 0 where
  pub done : AmongTrees g shape old (place_of_record_index def index) (ChangesOneTree g shape before now mid (SweptTo bound (width_of_parts def.columns (parts_of_record_index def index)) blocks gone))
  pub frees : AmongTrees g shape old (place_of_record_index def index) (λ owners places trees i. IsTrue (g.state old).is_told → TakesNoSpace shape (g.state old).work (g.state mid).work)
  pub count : length (g.state mid).work ≡ length (g.state old).work
  pub runs : RunsOverPages g (IsTreesOrMapPage g shape old (record_places def)) (IsTreesOrMapPage g shape old (record_places def)) (BreaksSweep g shape old def) old mid None

module _ {S : Type 0} (g : Ghosts S) (shape : Shape) (before : SpaceNotes) (old : S) (def : TableDef) (index : ℕ) (blocks : List ℕ) where
  abbrev place : TreePlace
  place = place_of_record_index def index

  abbrev key_width : ℕ
  key_width = width_of_parts def.columns (parts_of_record_index def index)

  -- nothing was swept
  pub sweeping_none : (tree : Tree) → place_of_tree tree ≡ place → (bound : Entry) → bound ≡ replicate place.width 0 → IsSweeping g shape before before old old def index blocks (Some bound) 0
  sweeping_none tree at bound lowest = record {
    done = λ owners places trees i st here.
        let one = tree_among shape old owners places trees tree i st (here ∙ ap Some (sym at)) in
        record {
          owners_now = owners;
          was = one.0;
          is = one.0;
          there = one.1;
          moves = record {
            leaves = sym (none_swept tree.width key_width blocks (leaf_entries one.0) bound (lowest ∙ ap (λ (q : TreePlace). replicate q.width 0) (sym at)) (tree_wide one.0 one.2.held));
            fewer = omega arith;
            pages = λ p. omega arith;
          };
          changes = subst (λ (list : List Forest). ChangesTrees g shape before before old places owners trees owners list) (sym (set_itself trees i one.0 one.1)) (changes_none shape before old places owners trees st);
        };
    frees = λ owners places trees i st here told. space_itself shape (g.state old).work owners (map_of_told g old told shape owners st.map);
    count = refl;
    runs = runs_none;
  }

  module _ (now : SpaceNotes) (mid : S) (bound : Entry) (gone : ℕ) (which : IndexDef) (is : slice_get def.indexes index ≡ Some which) (so : IsSweeping g shape before now old mid def index blocks (Some bound) gone) where
    stand_on : StandOn g shape def old mid
    stand_on owners trees st =
        let c = so.done owners (record_places def) trees index st (next_place def index which is) in
        (c.owners_now, set trees index c.is, c.changes.stand, sum_no_more trees index c.was c.is c.there c.moves.pages)

    -- a step
    pub sweeping_runs : (new : S) (fault : Option StoreFault) → RunsOverPages g (IsTreesOrMapPage g shape mid (place ∷ [])) (IsTreesOrMapPage g shape mid (place ∷ [])) (BreaksSweepingIndex g shape mid place) mid new fault
        → RunsOverPages g (IsTreesOrMapPage g shape old (record_places def)) (IsTreesOrMapPage g shape old (record_places def)) (BreaksSweep g shape old def) old new fault
    sweeping_runs new fault run = sweeps_behind g shape def old mid new fault stand_on so.runs (step_runs g shape def mid new fault index which is run)

    module _ (noted : SpaceNotes) (new : S) (removed : ℕ) (next : Bound) (sweeps : AmongTrees g shape mid place (ChangesOneTree g shape now noted new (SweepsOneLeaf bound key_width blocks removed next))) where
      -- which comes to the next bound
      pub sweeping_next : AmongTrees g shape mid place (λ owners places trees i. IsTrue (g.state mid).is_told → TakesNoSpace shape (g.state mid).work (g.state new).work) → length (g.state new).work ≡ length (g.state mid).work
          → RunsOverPages g (IsTreesOrMapPage g shape mid (place ∷ [])) (IsTreesOrMapPage g shape mid (place ∷ [])) (BreaksSweepingIndex g shape mid place) mid new None
          → IsSweeping g shape before noted old new def index blocks next (gone + removed)
      sweeping_next frees count run = record {
        done = λ owners places trees i st here.
            let c = so.done owners places trees i st here in
            let d = sweeps c.owners_now places (set trees i c.is) i c.changes.stand here in
            let same : d.was ≡ c.is = same_Some d.was c.is (sym d.there ∙ set_there trees i c.was c.is c.there) in
            let first = d.moves.first in
            record {
              owners_now = d.owners_now;
              was = c.was;
              is = d.is;
              there = c.there;
              moves = record {
                leaves = d.moves.leaves ∙ ap (λ (t : Forest). unswept bound next key_width blocks (leaf_entries t)) same ∙ ap (unswept bound next key_width blocks) c.moves.leaves
                    ∙ swept_on bound next key_width blocks (leaf_entries c.was) (next_above bound first.items (entries_behind first.above) next first.begins);
                fewer = omega (arith, d.moves.fewer, c.moves.fewer, ap (λ (t : Forest). length (leaf_entries t)) same);
                pages = λ p. omega (arith, d.moves.pages p, c.moves.pages p, ap (times p) same);
              };
              changes = subst (λ (list : List Forest). ChangesTrees g shape before noted new places owners trees d.owners_now list) (set_again trees i c.is d.is)
                  (changes_then shape before now noted mid new places owners c.owners_now d.owners_now trees (set trees i c.is) (set (set trees i c.is) i d.is) c.changes d.changes);
            };
        frees = λ owners places trees i st here told.
            let c = so.done owners places trees i st here in
            space_then shape (g.state old).work (g.state mid).work (g.state new).work (so.frees owners places trees i st here told)
            (frees c.owners_now places (set trees i c.is) i c.changes.stand here (so.runs.works.steady.is_told ∙ told));
        count = count ∙ so.count;
        runs = sweeping_runs new None run;
      }

      -- or to none above it, which is damage
      pub sweeping_stuck : (tree : Tree) → place_of_tree tree ≡ place → (Under next bound → ⊥)
          → RunsOverPages g (IsTreesOrMapPage g shape mid (place ∷ [])) (IsTreesOrMapPage g shape mid (place ∷ [])) (BreaksSweepingIndex g shape mid place) mid new None
          → RunsOverPages g (IsTreesOrMapPage g shape old (record_places def)) (IsTreesOrMapPage g shape old (record_places def)) (BreaksSweep g shape old def) old new (Some (Damaged (record { page = tree.root; rule = 4 })))
      sweeping_stuck tree at stuck run = runs_damage (sweeping_runs new None run) (record {
        names = NamesIndexPart.tree refl (subst (Contains (roots_in (record_places def))) (ap (λ (q : TreePlace). q.root) (sym at)) (root_among (record_places def) index place (next_place def index which is)));
        broken = λ owners trees st.
            let c = so.done owners (record_places def) trees index st (next_place def index which is) in
            let d = sweeps c.owners_now (record_places def) (set trees index c.is) index c.changes.stand (next_place def index which is) in
            let first = d.moves.first in
            stuck (next_above bound first.items (entries_behind first.above) next first.begins);
      })

  -- ---- another number of entries

  module _ (now : SpaceNotes) (mid : S) (bound : Bound) (gone rows : ℕ) (which : IndexDef) (is : slice_get def.indexes index ≡ Some which) (so : IsSweeping g shape before now old mid def index blocks bound gone) where
    -- a wrong number is damage of the index
    wrong_count : ((was after : Forest) → SweptTo bound key_width blocks gone was after → length (filter (names_block blocks key_width) (leaf_entries was)) ≡ rows → ⊥) → (tree : Tree) → place_of_tree tree ≡ place
        → RunsOverPages g (IsTreesOrMapPage g shape old (record_places def)) (IsTreesOrMapPage g shape old (record_places def)) (BreaksCounted g shape old def (NamesSoManyIn def blocks rows index)) old mid
        (Some (Damaged (record { page = tree.root; rule = 11 })))
    wrong_count wrong tree at = runs_damage (runs_counted (NamesSoManyIn def blocks rows index) old mid None so.runs) (record {
      names = NamesIndexPart.record_index refl (subst (Contains (roots_in (record_places def))) (ap (λ (q : TreePlace). q.root) (sym at)) (root_among (record_places def) index place (next_place def index which is)));
      broken = λ owners trees st counted.
          let c = so.done owners (record_places def) trees index st (next_place def index which is) in
          wrong c.was c.is c.moves
          (subst (λ (parts : List KeyPart). length (filter (names_block blocks (width_of_parts def.columns parts)) (leaf_entries c.was)) ≡ rows) (sym (parts_are def index index which refl is)) (counted which c.was is c.there));
    })

    -- more left than were to go
    pub too_many : rows < gone → (tree : Tree) → place_of_tree tree ≡ place
        → RunsOverPages g (IsTreesOrMapPage g shape old (record_places def)) (IsTreesOrMapPage g shape old (record_places def)) (BreaksCounted g shape old def (NamesSoManyIn def blocks rows index)) old mid
        (Some (Damaged (record { page = tree.root; rule = 11 })))
    too_many more tree at = wrong_count (λ was after swept count. omega (arith, more, few_swept bound key_width blocks gone was after swept, count)) tree at

    -- fewer did when it came to its end
    pub too_few : bound ≡ None → gone ≢ rows → (tree : Tree) → place_of_tree tree ≡ place
        → RunsOverPages g (IsTreesOrMapPage g shape old (record_places def)) (IsTreesOrMapPage g shape old (record_places def)) (BreaksCounted g shape old def (NamesSoManyIn def blocks rows index)) old mid
        (Some (Damaged (record { page = tree.root; rule = 11 })))
    too_few last other tree at =
        wrong_count (λ was after swept count. other (all_swept key_width blocks gone was after (subst (λ (b : Bound). SweptTo b key_width blocks gone was after) last swept) ∙ count)) tree at

    -- how it ended
    pub sweep_ended : {T : Type 0} → bound ≡ None → (left : ℕ) → gone + left ≡ rows → (tree : Tree) → place_of_tree tree ≡ place → (result : Result T StoreFault)
        → IfErr result (λ fault. (fault ≡ Damaged (record { page = tree.root; rule = 11 })) × (left ≢ 0))
        → RunsOverPages g (IsTreesOrMapPage g shape old (record_places def)) (IsTreesOrMapPage g shape old (record_places def)) (BreaksCounted g shape old def (NamesSoManyIn def blocks rows index)) old mid (fault_of result)
    sweep_ended last left total tree at (Ok done) err = runs_counted (NamesSoManyIn def blocks rows index) old mid None so.runs
    sweep_ended last left total tree at (Err fault) err =
        subst (λ (f : StoreFault). RunsOverPages g (IsTreesOrMapPage g shape old (record_places def)) (IsTreesOrMapPage g shape old (record_places def)) (BreaksCounted g shape old def (NamesSoManyIn def blocks rows index)) old mid (Some f))
        (sym err.0) (too_few last (λ same. err.1 (omega (arith, same, total))) tree at)
