-- The spots of a table that stands: what each extent is, and that their rows are those of its Used blocks.
use Rattle.std.proofs.Common.{◌≡◌, ◌≢◌, ◌<◌, ◌≤◌, ◌==◌, ℕ, zero, suc, List, [], ◌∷◌, true, false, cond, Option, length, refl, ap, arith, sym, ◌∙◌, subst, ◌⊎◌, inl, inr}
use Rattle.std.specs.Prelude.{AllPairs, Contains, map, slice_index_or}
use Rattle.std.proofs.lemmas.Bool.{cases_eq, cases_lt, eq-eqb, eqb-true, ne_eqb}
use Rattle.std.proofs.lemmas.List.{get_or_past}
use Rattle.mdc_words.specs.ByteOrder.{Entry}
use Rattle.mdc_words.proofs.ListedLemmas.{get_or-listed, length-listed}
use Rattle.mdc_ast.specs.declared.definition.TableDef.{TableDef}
use Rattle.mdc_ast.specs.declared.row.Row.{Row}
use Rattle.store_api.specs.declared.shape.Shape.{Shape}
use Rattle.extent_map.specs.Owners.{owner_of}
use Rattle.extent_map.specs.declared.kind.Kind.{Kind}
use Rattle.extent_map.specs.declared.kind.Kind.TheVariants.{Free, Block, Index}
use Rattle.entry_tree.specs.EntryBounds.{IsEntryOf}
use Rattle.entry_tree.specs.Forest.{Forest, leaf_entries}
use Rattle.table_trees.specs.ToldPages.{PageList}
use Rattle.block_map.specs.MapLines.{MapLine, blocks_of_state, free_blocks, map_line, map_lines, mapped_state, pending_blocks, used_blocks}
use Rattle.block_map.proofs.MapLinesLemmas.{NamesInState, contains_more, in_state_named, named_entry, named_in_state}
use Rattle.mdc_sound.specs.Placing.{Spot, spot_of_kind, spot_of_state, table_spots}
use Rattle.mdc_sound.specs.Placing.Spot.{FreeExtent, IndexExtent, OtherBlock, FreeBlock, PendingBlock, UsedBlock}
use Rattle.mdc_sound.specs.SpaceRules.{IsBlockMapSound, IsMapLineSound}
use Rattle.mdc_sound.specs.TableRows.{block_slots}
use Rattle.mdc_sound.proofs.BlockRulesLemmas.{line_at, named_owned}

-- ---- lists whose elements differ

pub first_differs : {X : Type 0} (x : X) (xs : List X) → AllPairs (λ a b. a ≢ b) (x ∷ xs) → Contains xs x → ⊥
first_differs x xs differ (k, low, at) = differ 0 (suc k) x (omega arith) (omega (arith, low)) (sym at)

pub rest_differs : {X : Type 0} (x : X) (xs : List X) → AllPairs (λ a b. a ≢ b) (x ∷ xs) → AllPairs (λ a b. a ≢ b) xs
rest_differs x xs differ i j d low high = differ (suc i) (suc j) d (omega (arith, low)) (omega (arith, high))

-- ---- the state that a block map gives a block

-- the block of an entry that is there is one of those that are named
block_named : (entries : List Entry) (x : Entry) → IsEntryOf x entries → Contains (map (λ (line : MapLine). line.block) (map map_line entries)) (map_line x).block
block_named [] x there = absurd there
block_named (y ∷ entries) x (inl e) = (0, omega arith, ap (λ (z : Entry). (map_line z).block) (sym e))
block_named (y ∷ entries) x (inr later) = contains_more (map_line x).block (map_line y).block (map (λ (line : MapLine). line.block) (map map_line entries)) (block_named entries x later)

-- a block that is named with a state has it
pub state_of_named : (state : ℕ) (entries : List Entry) (block : ℕ) → AllPairs (λ a b. a ≢ b) (map (λ (line : MapLine). line.block) (map map_line entries)) → NamesInState state entries block
    → mapped_state block (map map_line entries) ≡ state
state_of_named state [] block differ named = absurd named.there
state_of_named state (x ∷ entries) block differ named = elim (cases_eq (map_line x).block block) [
  | inl here ↦
      let test : ((map_line x).block == block) ≡ true = eq-eqb (map_line x).block block here in
      ap (λ t. cond t (map_line x).state (mapped_state block (map map_line entries))) test ∙ is_first named.there here
  | inr other ↦
      let test : ((map_line x).block == block) ≡ false = ne_eqb (map_line x).block block other in
      ap (λ t. cond t (map_line x).state (mapped_state block (map map_line entries))) test ∙ is_later named.there other (λ later. state_of_named state entries block (rest_differs (map_line x).block (map (λ (line : MapLine). line.block) (map map_line entries)) differ)
      (record { entry = named.entry; there = later; state = named.state; block_is = named.block_is }))
]
  where
    is_first : (named.entry ≡ x) ⊎ IsEntryOf named.entry entries → (map_line x).block ≡ block → (map_line x).state ≡ state
    is_first (inl e) here = eqb-true (map_line x).state state (subst (λ (z : Entry). ((map_line z).state == state) ≡ true) e named.state)
    is_first (inr later) here =
        let twice = block_named entries named.entry later in
        let same : (map_line named.entry).block ≡ (map_line x).block = named.block_is ∙ sym here in
        absurd (first_differs (map_line x).block (map (λ (line : MapLine). line.block) (map map_line entries)) differ (subst (Contains (map (λ (line : MapLine). line.block) (map map_line entries))) same twice))

    is_later : (named.entry ≡ x) ⊎ IsEntryOf named.entry entries → (map_line x).block ≢ block → (IsEntryOf named.entry entries → mapped_state block (map map_line entries) ≡ state)
        → mapped_state block (map map_line entries) ≡ state
    is_later (inl e) other rest = absurd (other (subst (λ (z : Entry). (map_line z).block ≡ block) e named.block_is))
    is_later (inr later) other rest = rest later

-- and a block that has a state is named with it
pub named_of_state : (state : ℕ) (entries : List Entry) (block : ℕ) → mapped_state block (map map_line entries) ≡ state → state < 3 → NamesInState state entries block
named_of_state state [] block is small = absurd (omega (arith, is, small))
named_of_state state (x ∷ entries) block is small = elim (cases_eq (map_line x).block block) [
  | inl here ↦
      let test : ((map_line x).block == block) ≡ true = eq-eqb (map_line x).block block here in
      let same : (map_line x).state ≡ state = sym (ap (λ t. cond t (map_line x).state (mapped_state block (map map_line entries))) test) ∙ is in
      record { entry = x; there = inl refl; state = eq-eqb (map_line x).state state same; block_is = here }
  | inr other ↦
      let test : ((map_line x).block == block) ≡ false = ne_eqb (map_line x).block block other in
      let rest = named_of_state state entries block (sym (ap (λ t. cond t (map_line x).state (mapped_state block (map map_line entries))) test) ∙ is) small in
      record { entry = rest.entry; there = inr rest.there; state = rest.state; block_is = rest.block_is }
]

pub state_of_block : (shape : Shape) (owners : List Kind) (def : TableDef) (map_tree : Forest) (state block : ℕ) → IsBlockMapSound shape owners def map_tree → Contains (blocks_of_state state map_tree) block
    → mapped_state block (map_lines map_tree) ≡ state
state_of_block shape owners def map_tree state block sound there =
    state_of_named state (leaf_entries map_tree) block sound.once_each (named_in_state state (leaf_entries map_tree) block there)

pub block_of_state : (map_tree : Forest) (state block : ℕ) → mapped_state block (map_lines map_tree) ≡ state → state < 3 → Contains (blocks_of_state state map_tree) block
block_of_state map_tree state block is small = in_state_named state (leaf_entries map_tree) block (named_of_state state (leaf_entries map_tree) block is small)

-- ---- what an extent is

same_number : (t : ℕ) (a b : Spot) → cond (t == t) a b ≡ a
same_number t a b = ap (λ test. cond test a b) (eq-eqb t t refl)

other_number : (t n : ℕ) (a b : Spot) → t ≢ n → cond (t == n) a b ≡ b
other_number t n a b other = ap (λ test. cond test a b) (ne_eqb t n other)

module _ (shape : Shape) (pages : PageList) (def : TableDef) (owners : List Kind) (map_tree : Forest) where
  pub spot_at : (e : ℕ) (d : Spot) → e < shape.extents → slice_index_or (table_spots shape pages def owners map_tree) e d ≡ spot_of_kind shape pages def map_tree e (owner_of owners e)
  spot_at e d low = get_or-listed shape.extents (λ x. spot_of_kind shape pages def map_tree x (owner_of owners x)) e d low

  pub length-spots : length (table_spots shape pages def owners map_tree) ≡ shape.extents
  length-spots = length-listed shape.extents (λ x. spot_of_kind shape pages def map_tree x (owner_of owners x))

  spot_past : (e : ℕ) (d : Spot) → shape.extents ≤ e → slice_index_or (table_spots shape pages def owners map_tree) e d ≡ d
  spot_past e d past = get_or_past (table_spots shape pages def owners map_tree) e d (omega (arith, past, length-spots))

  pub free_spot : (e : ℕ) (d : Spot) → e < shape.extents → owner_of owners e ≡ Free → slice_index_or (table_spots shape pages def owners map_tree) e d ≡ FreeExtent
  free_spot e d low is = spot_at e d low ∙ ap (spot_of_kind shape pages def map_tree e) is

  pub index_spot : (e used : ℕ) (d : Spot) → e < shape.extents → owner_of owners e ≡ Index used → slice_index_or (table_spots shape pages def owners map_tree) e d ≡ IndexExtent
  index_spot e used d low is = spot_at e d low ∙ ap (spot_of_kind shape pages def map_tree e) is

  pub other_spot : (e t : ℕ) (d : Spot) → e < shape.extents → t ≢ def.number → owner_of owners e ≡ Block t → slice_index_or (table_spots shape pages def owners map_tree) e d ≡ OtherBlock
  other_spot e t d low other is =
      spot_at e d low ∙ ap (spot_of_kind shape pages def map_tree e) is ∙ other_number t def.number (spot_of_state (mapped_state e (map_lines map_tree)) (block_slots shape pages def e)) OtherBlock other

  pub own_spot : (e : ℕ) (d : Spot) → e < shape.extents → owner_of owners e ≡ Block def.number
      → slice_index_or (table_spots shape pages def owners map_tree) e d ≡ spot_of_state (mapped_state e (map_lines map_tree)) (block_slots shape pages def e)
  own_spot e d low is =
      spot_at e d low ∙ ap (spot_of_kind shape pages def map_tree e) is ∙ same_number def.number (spot_of_state (mapped_state e (map_lines map_tree)) (block_slots shape pages def e)) OtherBlock

  -- a block of a state
  pub block_spot : (state e : ℕ) (d : Spot) → IsBlockMapSound shape owners def map_tree → Contains (blocks_of_state state map_tree) e
      → slice_index_or (table_spots shape pages def owners map_tree) e d ≡ spot_of_state state (block_slots shape pages def e)
  block_spot state e d sound there =
      let owned = named_owned shape owners def map_tree state e sound there in
      own_spot e d owned.0 owned.1 ∙ ap (λ s. spot_of_state s (block_slots shape pages def e)) (state_of_block shape owners def map_tree state e sound there)

  pub used_spot : (e : ℕ) (d : Spot) → IsBlockMapSound shape owners def map_tree → Contains (used_blocks map_tree) e → slice_index_or (table_spots shape pages def owners map_tree) e d ≡ UsedBlock (block_slots shape pages def e)
  used_spot e d sound there = block_spot 1 e d sound there

  pub free_block_spot : (e : ℕ) (d : Spot) → IsBlockMapSound shape owners def map_tree → Contains (free_blocks map_tree) e → slice_index_or (table_spots shape pages def owners map_tree) e d ≡ FreeBlock
  free_block_spot e d sound there = block_spot 0 e d sound there

  pub pending_spot : (e : ℕ) (d : Spot) → IsBlockMapSound shape owners def map_tree → Contains (pending_blocks map_tree) e → slice_index_or (table_spots shape pages def owners map_tree) e d ≡ PendingBlock
  pending_spot e d sound there = block_spot 2 e d sound there

  -- each extent is one of these
  pub data ShownSpot (e : ℕ) (spot : Spot) : Type 0 where
    free_extent : owner_of owners e ≡ Free → spot ≡ FreeExtent → ShownSpot e spot
    index_extent : (used : ℕ) → owner_of owners e ≡ Index used → spot ≡ IndexExtent → ShownSpot e spot
    other_block : (t : ℕ) → t ≢ def.number → owner_of owners e ≡ Block t → spot ≡ OtherBlock → ShownSpot e spot
    free_block : Contains (free_blocks map_tree) e → spot ≡ FreeBlock → ShownSpot e spot
    used_block : Contains (used_blocks map_tree) e → spot ≡ UsedBlock (block_slots shape pages def e) → ShownSpot e spot
    pending_block : Contains (pending_blocks map_tree) e → spot ≡ PendingBlock → ShownSpot e spot

  -- a block that is named is in one of the three states
  module _ (sound : IsBlockMapSound shape owners def map_tree) where
    named_shown : (e state : ℕ) (d : Spot) → Contains (blocks_of_state state map_tree) e → state ≤ 2 → ShownSpot e (slice_index_or (table_spots shape pages def owners map_tree) e d)
    named_shown e zero d there few = free_block there (free_block_spot e d sound there)
    named_shown e (suc zero) d there few = used_block there (used_spot e d sound there)
    named_shown e (suc (suc zero)) d there few = pending_block there (pending_spot e d sound there)
    named_shown e (suc (suc (suc state))) d there few = absurd (omega (arith, few))

    own_shown : (e : ℕ) (d : Spot) → e < shape.extents → owner_of owners e ≡ Block def.number → ShownSpot e (slice_index_or (table_spots shape pages def owners map_tree) e d)
    own_shown e d low is =
        let named = named_entry (leaf_entries map_tree) e (sound.all_named e low is) in
        let line = map_line named.0 in
        let sound_line = line_at (IsMapLineSound shape owners def) (leaf_entries map_tree) named.0 sound.lines named.1 in
        named_shown e line.state d
        (in_state_named line.state (leaf_entries map_tree) e (record { entry = named.0; there = named.1; state = eq-eqb line.state line.state refl; block_is = named.2 })) sound_line.state

    kind_shown : (e : ℕ) (d : Spot) (kind : Kind) → e < shape.extents → owner_of owners e ≡ kind → ShownSpot e (slice_index_or (table_spots shape pages def owners map_tree) e d)
    kind_shown e d Free low is = free_extent is (free_spot e d low is)
    kind_shown e d (Index used) low is = index_extent used is (index_spot e used d low is)
    kind_shown e d (Block t) low is = elim (cases_eq t def.number) [
      | inl same ↦ own_shown e d low (is ∙ ap Block same)
      | inr other ↦ other_block t other is (other_spot e t d low other is)
    ]

    pub shown : (e : ℕ) (d : Spot) → e < shape.extents → ShownSpot e (slice_index_or (table_spots shape pages def owners map_tree) e d)
    shown e d low = kind_shown e d (owner_of owners e) low refl

    within : (e : ℕ) (spot : Spot) → slice_index_or (table_spots shape pages def owners map_tree) e OtherBlock ≡ spot → spot ≢ OtherBlock → e < shape.extents
    within e spot is other = elim (cases_lt e shape.extents) [ inl low ↦ low | inr past ↦ absurd (other (sym is ∙ spot_past e OtherBlock past)) ]

    -- what a spot says of its extent
    pub used_of_spot : (e : ℕ) (slots : List (Option Row)) → slice_index_or (table_spots shape pages def owners map_tree) e OtherBlock ≡ UsedBlock slots
        → Contains (used_blocks map_tree) e × (slots ≡ block_slots shape pages def e)
    used_of_spot e slots is = go (shown e OtherBlock (within e (UsedBlock slots) is (λ wrong. absurd (cc wrong))))
      where
        go : ShownSpot e (slice_index_or (table_spots shape pages def owners map_tree) e OtherBlock) → Contains (used_blocks map_tree) e × (slots ≡ block_slots shape pages def e)
        go (free_extent owner spot) = let wrong = sym is ∙ spot in absurd (cc)
        go (index_extent used owner spot) = let wrong = sym is ∙ spot in absurd (cc)
        go (other_block t other owner spot) = let wrong = sym is ∙ spot in absurd (cc)
        go (free_block there spot) = let wrong = sym is ∙ spot in absurd (cc)
        go (used_block there spot) = let same : UsedBlock slots ≡ UsedBlock (block_slots shape pages def e) = sym is ∙ spot in let slots_are : slots ≡ block_slots shape pages def e = cc in (there, slots_are)
        go (pending_block there spot) = let wrong = sym is ∙ spot in absurd (cc)

    pub free_block_of_spot : (e : ℕ) → slice_index_or (table_spots shape pages def owners map_tree) e OtherBlock ≡ FreeBlock → Contains (free_blocks map_tree) e
    free_block_of_spot e is = go (shown e OtherBlock (within e FreeBlock is (λ wrong. absurd (cc wrong))))
      where
        go : ShownSpot e (slice_index_or (table_spots shape pages def owners map_tree) e OtherBlock) → Contains (free_blocks map_tree) e
        go (free_extent owner spot) = let wrong = sym is ∙ spot in absurd (cc)
        go (index_extent used owner spot) = let wrong = sym is ∙ spot in absurd (cc)
        go (other_block t other owner spot) = let wrong = sym is ∙ spot in absurd (cc)
        go (free_block there spot) = there
        go (used_block there spot) = let wrong = sym is ∙ spot in absurd (cc)
        go (pending_block there spot) = let wrong = sym is ∙ spot in absurd (cc)

    pub pending_of_spot : (e : ℕ) → slice_index_or (table_spots shape pages def owners map_tree) e OtherBlock ≡ PendingBlock → Contains (pending_blocks map_tree) e
    pending_of_spot e is = go (shown e OtherBlock (within e PendingBlock is (λ wrong. absurd (cc wrong))))
      where
        go : ShownSpot e (slice_index_or (table_spots shape pages def owners map_tree) e OtherBlock) → Contains (pending_blocks map_tree) e
        go (free_extent owner spot) = let wrong = sym is ∙ spot in absurd (cc)
        go (index_extent used owner spot) = let wrong = sym is ∙ spot in absurd (cc)
        go (other_block t other owner spot) = let wrong = sym is ∙ spot in absurd (cc)
        go (free_block there spot) = let wrong = sym is ∙ spot in absurd (cc)
        go (used_block there spot) = let wrong = sym is ∙ spot in absurd (cc)
        go (pending_block there spot) = there

    pub free_of_spot : (e : ℕ) → slice_index_or (table_spots shape pages def owners map_tree) e OtherBlock ≡ FreeExtent → (e < shape.extents) × (owner_of owners e ≡ Free)
    free_of_spot e is = (low, go (shown e OtherBlock low))
      where
        low : e < shape.extents
        low = within e FreeExtent is (λ wrong. absurd (cc wrong))

        go : ShownSpot e (slice_index_or (table_spots shape pages def owners map_tree) e OtherBlock) → owner_of owners e ≡ Free
        go (free_extent owner spot) = owner
        go (index_extent used owner spot) = let wrong = sym is ∙ spot in absurd (cc)
        go (other_block t other owner spot) = let wrong = sym is ∙ spot in absurd (cc)
        go (free_block there spot) = let wrong = sym is ∙ spot in absurd (cc)
        go (used_block there spot) = let wrong = sym is ∙ spot in absurd (cc)
        go (pending_block there spot) = let wrong = sym is ∙ spot in absurd (cc)

    pub index_of_spot : (e : ℕ) → slice_index_or (table_spots shape pages def owners map_tree) e OtherBlock ≡ IndexExtent → (used : ℕ) × (owner_of owners e ≡ Index used)
    index_of_spot e is = go (shown e OtherBlock (within e IndexExtent is (λ wrong. absurd (cc wrong))))
      where
        go : ShownSpot e (slice_index_or (table_spots shape pages def owners map_tree) e OtherBlock) → (used : ℕ) × (owner_of owners e ≡ Index used)
        go (free_extent owner spot) = let wrong = sym is ∙ spot in absurd (cc)
        go (index_extent used owner spot) = (used, owner)
        go (other_block t other owner spot) = let wrong = sym is ∙ spot in absurd (cc)
        go (free_block there spot) = let wrong = sym is ∙ spot in absurd (cc)
        go (used_block there spot) = let wrong = sym is ∙ spot in absurd (cc)
        go (pending_block there spot) = let wrong = sym is ∙ spot in absurd (cc)

    pub other_of_spot : (e : ℕ) → e < shape.extents → slice_index_or (table_spots shape pages def owners map_tree) e OtherBlock ≡ OtherBlock → (t : ℕ) × (t ≢ def.number) × (owner_of owners e ≡ Block t)
    other_of_spot e low is = go (shown e OtherBlock low)
      where
        go : ShownSpot e (slice_index_or (table_spots shape pages def owners map_tree) e OtherBlock) → (t : ℕ) × (t ≢ def.number) × (owner_of owners e ≡ Block t)
        go (free_extent owner spot) = let wrong = sym is ∙ spot in absurd (cc)
        go (index_extent used owner spot) = let wrong = sym is ∙ spot in absurd (cc)
        go (other_block t other owner spot) = (t, other, owner)
        go (free_block there spot) = let wrong = sym is ∙ spot in absurd (cc)
        go (used_block there spot) = let wrong = sym is ∙ spot in absurd (cc)
        go (pending_block there spot) = let wrong = sym is ∙ spot in absurd (cc)
