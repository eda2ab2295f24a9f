-- The trees of a plan's parts, one after the other, and joined.
use Rattle.std.proofs.Common.{◌≡◌, ◌<◌, ◌≤◌, ◌+◌, ◌⊎◌, inl, inr, ℕ, List, [], ◌∷◌, ◌++◌, Bool, true, false, refl, ap, arith, sym, ◌∙◌, subst, get_or, length, length-append, map, take, zero, suc}
use Rattle.std.specs.Prelude.{◌&&◌, ◌||◌, Contains, IfOk, IsTrue, Result}
use Rattle.std.specs.List.{list_all, list_any}
use Rattle.std.proofs.lemmas.Bool.{and_from, and_parts, cases_Bool, false≢true, or_parts}
use Rattle.std.proofs.lemmas.Result.{IfOk-weaker}
use Rattle.std.proofs.lemmas.List.{map-append, take_all, take_more}
use Rattle.std.proofs.lemmas.List.Elements.{Contains-append_cases}
use Rattle.mdc_values.specs.declared.rid.Rid.{Rid}
use Rattle.mdc_values.specs.declared.value.Value.{Value}
use Rattle.mdc_ast.specs.declared.definition.TableDef.{TableDef}
use Rattle.mdc_ast.specs.declared.span.Span.{Span}
use Rattle.mdc_ast.specs.Truth.{value_at}
use Rattle.store_api.specs.declared.pages.Pages.{Ghosts}
use Rattle.store_api.specs.declared.shape.Shape.{Shape}
use Rattle.extent_map.specs.declared.kind.Kind.{Kind}
use Rattle.entry_tree.specs.Forest.{Forest}
use Rattle.block_map.specs.MapLines.{used_blocks}
use Rattle.block_map.proofs.MapLinesLemmas.{contains_cases, contains_more}
use Rattle.key_codec.specs.Spans.{lies_in_span}
use Rattle.mdc_sound.specs.BlockRules.{AreTableIndexesSound}
use Rattle.mdc_sound.specs.StandingTable.{StandsTable, TableForests, pages_of, view_of}
use Rattle.mdc_sound.specs.TableRows.{PlacedRow, rows_in_table}
use Rattle.block_lists.specs.Trees.{can_be_members, each_has_members, tree_holds, tree_lists_block}
use Rattle.block_lists.specs.Lists.{holds, lists_block}
use Rattle.block_lists.specs.declared.tree.ListTree.{ListTree}
use Rattle.block_lists.specs.declared.tree.ListTree.TheVariants as tree
use Rattle.block_lists.specs.declared.tree.ListTree.TheVariants.{rolls-All as rolls_all_trees, rolls-Any as rolls_any_trees}
use Rattle.block_lists.proofs.TreeLemmas.{all_says, any_says, whole_members}
use Rattle.plan_chooser.specs.PlanRows.{fits_dimension, fits_index, fits_plan, index_column, layer_fits, layer_row, plan_row}
use Rattle.plan_chooser.specs.declared.plan.Plan.{Plan}
use Rattle.plan_chooser.specs.declared.plan.Plan.TheFolds.{fold-roll-Plan}
use Rattle.plan_chooser.specs.declared.plan.Plan.TheOpen as layer
use Rattle.plan_chooser.specs.declared.plan.Plan.TheVariants as plan
use Rattle.plan_chooser.specs.declared.plan.Plan.TheVariants.{rolls-All, rolls-Any, rolls-Blocks, rolls-Rids, rolls-Scan}
use Rattle.plan_lists.specs.PlanTrees.{HasRowIn, NamesUsed, StandsFor, StandsForPlan}

-- ---- layers of plans

module _ (def : TableDef) (values : List Value) where
  pub row-Scan : plan_row def values plan.Scan ≡ true
  row-Scan = ap (plan_row def values) (sym rolls-Scan) ∙ fold-roll-Plan Bool (layer_row def values) layer.Scan

  pub row-Blocks : (dim column : ℕ) (span : Span) → plan_row def values (plan.Blocks dim column span) ≡ lies_in_span span (value_at values column)
  row-Blocks dim column span = ap (plan_row def values) (sym (rolls-Blocks dim column span)) ∙ fold-roll-Plan Bool (layer_row def values) (layer.Blocks dim column span)

  pub row-Rids : (index : ℕ) (span : Span) → plan_row def values (plan.Rids index span) ≡ lies_in_span span (value_at values (index_column def index))
  row-Rids index span = ap (plan_row def values) (sym (rolls-Rids index span)) ∙ fold-roll-Plan Bool (layer_row def values) (layer.Rids index span)

  pub row-All : (parts : List Plan) → plan_row def values (plan.All parts) ≡ list_all (λ b. b) (map (plan_row def values) parts)
  row-All parts = ap (plan_row def values) (sym (rolls-All parts)) ∙ fold-roll-Plan Bool (layer_row def values) (layer.All parts)

  pub row-Any : (parts : List Plan) → plan_row def values (plan.Any parts) ≡ list_any (λ b. b) (map (plan_row def values) parts)
  row-Any parts = ap (plan_row def values) (sym (rolls-Any parts)) ∙ fold-roll-Plan Bool (layer_row def values) (layer.Any parts)

module _ (def : TableDef) where
  pub fits-Blocks : (dim column : ℕ) (span : Span) → fits_plan def (plan.Blocks dim column span) ≡ fits_dimension def dim column span
  fits-Blocks dim column span = ap (fits_plan def) (sym (rolls-Blocks dim column span)) ∙ fold-roll-Plan Bool (layer_fits def) (layer.Blocks dim column span)

  pub fits-Rids : (index : ℕ) (span : Span) → fits_plan def (plan.Rids index span) ≡ fits_index def index span
  fits-Rids index span = ap (fits_plan def) (sym (rolls-Rids index span)) ∙ fold-roll-Plan Bool (layer_fits def) (layer.Rids index span)

  fits-All : (parts : List Plan) → fits_plan def (plan.All parts) ≡ list_all (λ b. b) (map (fits_plan def) parts)
  fits-All parts = ap (fits_plan def) (sym (rolls-All parts)) ∙ fold-roll-Plan Bool (layer_fits def) (layer.All parts)

  fits-Any : (parts : List Plan) → fits_plan def (plan.Any parts) ≡ list_all (λ b. b) (map (fits_plan def) parts)
  fits-Any parts = ap (fits_plan def) (sym (rolls-Any parts)) ∙ fold-roll-Plan Bool (layer_fits def) (layer.Any parts)

  all_at : {X : Type 0} (f : X → Bool) (xs : List X) (i : ℕ) (x : X) → i < length xs → list_all (λ b. b) (map f xs) ≡ true → f (get_or xs i x) ≡ true
  all_at f [] i x l h = absurd (omega (arith, l))
  all_at f (y ∷ xs) zero x l h = (and_parts (f y) (list_all (λ b. b) (map f xs)) h).0
  all_at f (y ∷ xs) (suc i) x l h = all_at f xs i x (omega (arith, l)) (and_parts (f y) (list_all (λ b. b) (map f xs)) h).1

  -- each part of a plan that fits does
  pub part_fits : (whole : Plan) (parts items : List Plan) (i : ℕ) (part : Plan) → (whole ≡ plan.All parts) ⊎ (whole ≡ plan.Any parts) → items ≡ parts → i < length items → part ≡ get_or items i part
      → IsTrue (fits_plan def whole) → IsTrue (fits_plan def part)
  part_fits whole parts items i part is are low at h = ap (fits_plan def) at ∙ all_at (fits_plan def) items i part low (ap (λ ps. list_all (λ b. b) (map (fits_plan def) ps)) are ∙ all is)
    where
      all : (whole ≡ plan.All parts) ⊎ (whole ≡ plan.Any parts) → list_all (λ b. b) (map (fits_plan def) parts) ≡ true
      all (inl e) = sym (fits-All parts) ∙ (sym (ap (fits_plan def) e) ∙ h)
      all (inr e) = sym (fits-Any parts) ∙ (sym (ap (fits_plan def) e) ∙ h)

-- ---- trees of some parts

-- Of some trees it is said of each place what plans say of the row there, and each is such.
pub record HoldParts (def : TableDef) (rows : List PlacedRow) (map_tree : Forest) (parts : List Plan) (trees : List ListTree) : Type 0 where
  pub exact : (placed : PlacedRow) → Contains rows placed → map (λ tree. tree_holds tree placed.rid) trees ≡ map (plan_row def placed.row.values) parts
  pub lie : (tree : ListTree) → Contains trees tree → (rid : Rid) → tree_holds tree rid ≡ true → tree_lists_block tree rid.block ≡ false → Contains (used_blocks map_tree) rid.block → HasRowIn rows rid

-- these trees stand for these plans, one for each
pub record StandForParts {S : Type 0} (g : Ghosts S) (shape : Shape) (s : S) (def : TableDef) (parts : List Plan) (trees : List ListTree) : Type 0 where
  pub many : length trees ≡ length parts
  pub members : list_all (λ b. b) (map each_has_members trees) ≡ true
  pub rows : (owners : List Kind) (forests : TableForests) → StandsTable g shape s def owners forests → AreTableIndexesSound shape (pages_of g s) (view_of def forests)
      → HoldParts def (rows_in_table shape (pages_of g s) def forests.map) forests.map parts trees
  pub blocks : (owners : List Kind) (forests : TableForests) → StandsTable g shape s def owners forests → (tree : ListTree) → Contains trees tree → NamesUsed forests.map tree

says_more : {A B : Type 0} (f : A → Bool) (h : B → Bool) (xs : List A) (x : A) (ys : List B) (y : B) → map f xs ≡ map h ys → f x ≡ h y → map f (xs ++ x ∷ []) ≡ map h (ys ++ y ∷ [])
says_more f h xs x ys y e same = map-append f xs (x ∷ []) ∙ (ap (λ l. l ++ f x ∷ []) e ∙ (ap (λ b. map h ys ++ b ∷ []) same ∙ sym (map-append h ys (y ∷ []))))

all_more : (bs : List Bool) (b : Bool) → list_all (λ b. b) bs ≡ true → b ≡ true → list_all (λ b. b) (bs ++ b ∷ []) ≡ true
all_more [] b all is = and_from b true is refl
all_more (x ∷ bs) b all is = let both = and_parts x (list_all (λ b. b) bs) all in and_from x (list_all (λ b. b) (bs ++ b ∷ [])) both.0 (all_more bs b both.1 is)

-- one that all have, all have
all_of : {X : Type 0} (f : X → Bool) (xs : List X) (x : X) → list_all f xs ≡ true → Contains xs x → f x ≡ true
all_of f [] x h (k, l, e) = absurd (omega (arith, l))
all_of f (y ∷ xs) x h there =
    let both = and_parts (f y) (list_all f xs) h in
    elim (contains_cases x y xs there) [ inl same ↦ ap f (sym same) ∙ both.0 | inr more ↦ all_of f xs x both.1 more ]

-- not all have it: one of them doesn't
lacks_one : {X : Type 0} (f : X → Bool) (xs : List X) → list_all f xs ≡ false → (x : X) × Contains xs x × (f x ≡ false)
lacks_one f [] h = cc
lacks_one f (y ∷ xs) h = elim (cases_Bool (f y)) [
  | inl is ↦ let rest = lacks_one f xs (sym (ap (λ b. b && list_all f xs) is) ∙ h) in (rest.0, contains_more rest.0 y xs rest.1, rest.2)
  | inr not ↦ (y, (0, omega arith, refl), not)
]

-- one of them has it
has_one : {X : Type 0} (f : X → Bool) (xs : List X) → list_any f xs ≡ true → (x : X) × Contains xs x × (f x ≡ true)
has_one f [] h = cc
has_one f (y ∷ xs) h = elim (cases_Bool (f y)) [
  | inl is ↦ (y, (0, omega arith, refl), is)
  | inr not ↦ let rest = has_one f xs (sym (ap (λ b. b || list_any f xs) not) ∙ h) in (rest.0, contains_more rest.0 y xs rest.1, rest.2)
]

-- none of them has it
none_of : {X : Type 0} (f : X → Bool) (xs : List X) (x : X) → list_any f xs ≡ false → Contains xs x → f x ≡ false
none_of f [] x h (k, l, e) = absurd (omega (arith, l))
none_of f (y ∷ xs) x h there =
    let both = or_parts (f y) (list_any f xs) h in
    elim (contains_cases x y xs there) [ inl same ↦ ap f (sym same) ∙ both.0 | inr more ↦ none_of f xs x both.1 more ]

list_all-map : {X : Type 0} (f : X → Bool) (xs : List X) → list_all (λ b. b) (map f xs) ≡ list_all f xs
list_all-map f [] = refl
list_all-map f (x ∷ xs) = ap (λ b. f x && b) (list_all-map f xs)

list_any-map : {X : Type 0} (f : X → Bool) (xs : List X) → list_any (λ b. b) (map f xs) ≡ list_any f xs
list_any-map f [] = refl
list_any-map f (x ∷ xs) = ap (λ b. f x || b) (list_any-map f xs)

module _ {S : Type 0} {g : Ghosts S} (shape : Shape) (s : S) (def : TableDef) where
  pub no_parts : (trees : List ListTree) → trees ≡ [] → StandForParts g shape s def [] trees
  no_parts trees none = subst (StandForParts g shape s def []) (sym none) (record {
    many = refl;
    members = refl;
    rows = λ owners forests st sound. record { exact = λ placed there. refl; lie = λ tree there. absurd (omega (arith, there.1)) };
    blocks = λ owners forests st tree there. absurd (omega (arith, there.1));
  })

  pub part_more : (items : List Plan) (i : ℕ) (part : Plan) (trees now : List ListTree) (more : ListTree) → i < length items → part ≡ get_or items i part → now ≡ trees ++ more ∷ []
      → StandsForPlan g shape s def part more → StandForParts g shape s def (take i items) trees → StandForParts g shape s def (take (i + 1) items) now
  part_more items i part trees now more low at pushed of so =
      let taken : take i items ++ part ∷ [] ≡ take (i + 1) items = ap (λ p. take i items ++ p ∷ []) at ∙ sym (take_more items i part low) in
      let longer : StandForParts g shape s def (take i items ++ part ∷ []) (trees ++ more ∷ []) = record {
        many = omega (arith, length-append trees (more ∷ []), length-append (take i items) (part ∷ []), so.many);
        members = ap (list_all (λ b. b)) (map-append each_has_members trees (more ∷ [])) ∙ all_more (map each_has_members trees) (each_has_members more) so.members of.members;
        rows = λ owners forests st sound.
            let were = so.rows owners forests st sound in
            let is = of.rows owners forests st sound in
            record {
              exact = λ placed there. says_more (λ tree. tree_holds tree placed.rid) (plan_row def placed.row.values) trees more (take i items) part (were.exact placed there) (is.exact placed there);
              lie = λ tree there. elim (Contains-append_cases trees (more ∷ []) tree there) [
                | inl early ↦ were.lie tree early
                | inr last ↦ elim (contains_cases tree more [] last) [
                  | inl same ↦ subst (λ t. (rid : Rid) → tree_holds t rid ≡ true → tree_lists_block t rid.block ≡ false → Contains (used_blocks forests.map) rid.block → HasRowIn (rows_in_table shape (pages_of g s) def forests.map) rid) same is.lies
                  | inr none ↦ absurd (omega (arith, none.1))
                ]
              ];
            };
        blocks = λ owners forests st tree there. elim (Contains-append_cases trees (more ∷ []) tree there) [
          | inl early ↦ so.blocks owners forests st tree early
          | inr last ↦ elim (contains_cases tree more [] last) [
            | inl same ↦ subst (NamesUsed forests.map) same (of.blocks owners forests st)
            | inr none ↦ absurd (omega (arith, none.1))
          ]
        ];
      } in
      subst (λ ps. StandForParts g shape s def ps now) taken (subst (StandForParts g shape s def (take i items ++ part ∷ [])) (sym pushed) longer)

  -- joined by AND
  all_stand : (parts : List Plan) (trees : List ListTree) → 0 < length parts → StandForParts g shape s def parts trees → StandsForPlan g shape s def (plan.All parts) (tree.All trees)
  all_stand parts trees some so = record {
    members = whole_members (tree.All trees) trees (inl refl) ∙ some_members trees (omega (arith, some, so.many)) so.members;
    rows = λ owners forests st sound.
        let has = so.rows owners forests st sound in
        record {
          exact = λ placed there. all_says (λ l. holds l placed.rid) trees ∙ (sym (list_all-map (λ tree. tree_holds tree placed.rid) trees) ∙ (ap (list_all (λ b. b)) (has.exact placed there) ∙ sym (row-All def placed.row.values parts)));
          lies = λ rid h other used.
              let one = lacks_one (λ tree. tree_lists_block tree rid.block) trees (sym (all_says (λ l. lists_block l rid.block) trees) ∙ other) in
              has.lie one.0 one.1 rid (all_of (λ tree. tree_holds tree rid) trees one.0 (sym (all_says (λ l. holds l rid) trees) ∙ h) one.1) one.2 used;
        };
    blocks = λ owners forests st block h.
        let one = some_tree trees (omega (arith, some, so.many)) in
        so.blocks owners forests st one.0 one.1 block (all_of (λ tree. tree_lists_block tree block) trees one.0 (sym (all_says (λ l. lists_block l block) trees) ∙ h) one.1);
  }
    where
      some_members : (ts : List ListTree) → 0 < length ts → list_all (λ b. b) (map each_has_members ts) ≡ true → can_be_members ts ≡ true
      some_members [] l all = absurd (omega (arith, l))
      some_members (t ∷ ts) l all = all

      some_tree : (ts : List ListTree) → 0 < length ts → (t : ListTree) × Contains ts t
      some_tree [] l = absurd (omega (arith, l))
      some_tree (t ∷ ts) l = (t, (0, omega arith, refl))

  -- joined by OR
  any_stand : (parts : List Plan) (trees : List ListTree) → 0 < length parts → StandForParts g shape s def parts trees → StandsForPlan g shape s def (plan.Any parts) (tree.Any trees)
  any_stand parts trees some so = record {
    members = whole_members (tree.Any trees) trees (inr refl) ∙ some_members trees (omega (arith, some, so.many)) so.members;
    rows = λ owners forests st sound.
        let has = so.rows owners forests st sound in
        record {
          exact = λ placed there. any_says (λ l. holds l placed.rid) trees ∙ (sym (list_any-map (λ tree. tree_holds tree placed.rid) trees) ∙ (ap (list_any (λ b. b)) (has.exact placed there) ∙ sym (row-Any def placed.row.values parts)));
          lies = λ rid h other used.
              let one = has_one (λ tree. tree_holds tree rid) trees (sym (any_says (λ l. holds l rid) trees) ∙ h) in
              has.lie one.0 one.1 rid one.2 (none_of (λ tree. tree_lists_block tree rid.block) trees one.0 (sym (any_says (λ l. lists_block l rid.block) trees) ∙ other) one.1) used;
        };
    blocks = λ owners forests st block h.
        let one = has_one (λ tree. tree_lists_block tree block) trees (sym (any_says (λ l. lists_block l block) trees) ∙ h) in
        so.blocks owners forests st one.0 one.1 block one.2;
  }
    where
      some_members : (ts : List ListTree) → 0 < length ts → list_all (λ b. b) (map each_has_members ts) ≡ true → can_be_members ts ≡ true
      some_members [] l all = absurd (omega (arith, l))
      some_members (t ∷ ts) l all = all

  -- the trees of all parts, joined as the plan is
  pub parts_stand : (whole : Plan) (parts items : List Plan) (i : ℕ) (trees : List ListTree) (joined : ListTree) → (whole ≡ plan.All parts) ⊎ (whole ≡ plan.Any parts) → items ≡ parts → length items ≤ i → 0 < length parts
      → ((all : List Plan) → whole ≡ plan.All all → joined ≡ tree.All trees) → ((any : List Plan) → whole ≡ plan.Any any → joined ≡ tree.Any trees) → StandForParts g shape s def (take i items) trees
      → StandsForPlan g shape s def whole joined
  parts_stand whole parts items i trees joined is are past some by_all by_any so =
      let whole_so = subst (λ ps. StandForParts g shape s def ps trees) (take_all i items past ∙ are) so in
      elim is [
        | inl e ↦ subst (λ p. StandsForPlan g shape s def p joined) (sym e) (subst (StandsForPlan g shape s def (plan.All parts)) (sym (by_all parts e)) (all_stand parts trees some whole_so))
        | inr e ↦ subst (λ p. StandsForPlan g shape s def p joined) (sym e) (subst (StandsForPlan g shape s def (plan.Any parts)) (sym (by_any parts e)) (any_stand parts trees some whole_so))
      ]

  -- a tree that stands for rows that pass one test stands for those that pass another which says the same
  pub stands_as : (passes other : List Value → Bool) (one : ListTree) → ((values : List Value) → passes values ≡ other values) → StandsFor g shape s def passes one → StandsFor g shape s def other one
  stands_as passes other one same so = record {
    members = so.members;
    rows = λ owners forests st sound. let has = so.rows owners forests st sound in record { exact = λ placed there. has.exact placed there ∙ same placed.row.values; lies = has.lies };
    blocks = so.blocks;
  }

  -- no row passes a test that none passes
  pub none_stand : (one : ListTree) → IsTrue (each_has_members one) → ((rid : Rid) → tree_holds one rid ≡ false) → ((block : ℕ) → tree_lists_block one block ≡ false) → StandsFor g shape s def (λ values. false) one
  none_stand one members rows blocks = record {
    members = members;
    rows = λ owners forests st sound. record { exact = λ placed there. rows placed.rid; lies = λ rid h other used. absurd (false≢true (sym (rows rid) ∙ h)) };
    blocks = λ owners forests st block h. absurd (false≢true (sym (blocks block) ∙ h));
  }

-- a plan without a part
pub no_part_stands : {S : Type 0} (g : Ghosts S) (shape : Shape) (s : S) (def : TableDef) {E : Type 0} (result : Result ListTree E) (whole : Plan) (parts : List Plan) → (whole ≡ plan.All parts) ⊎ (whole ≡ plan.Any parts) → length parts ≡ 0
    → (whole ≡ plan.All [] → IfOk result (StandsFor g shape s def (λ values. true))) → (whole ≡ plan.Any [] → IfOk result (StandsFor g shape s def (λ values. false))) → IfOk result (StandsForPlan g shape s def whole)
no_part_stands g shape s def result whole parts is empty by_all by_any = elim is [
  | inl e ↦
      let w : whole ≡ plan.All [] = e ∙ ap plan.All (nothing parts empty) in
      IfOk-weaker result _ _ (λ one so. subst (λ p. StandsForPlan g shape s def p one) (sym w) (stands_as shape s def (λ values. true) (λ values. plan_row def values (plan.All [])) one (λ values. sym (row-All def values [])) so)) (by_all w)
  | inr e ↦
      let w : whole ≡ plan.Any [] = e ∙ ap plan.Any (nothing parts empty) in
      IfOk-weaker result _ _ (λ one so. subst (λ p. StandsForPlan g shape s def p one) (sym w) (stands_as shape s def (λ values. false) (λ values. plan_row def values (plan.Any [])) one (λ values. sym (row-Any def values [])) so)) (by_any w)
]
  where
    nothing : (ps : List Plan) → length ps ≡ 0 → ps ≡ []
    nothing [] e = refl
    nothing (p ∷ ps) e = absurd (omega (arith, e))
