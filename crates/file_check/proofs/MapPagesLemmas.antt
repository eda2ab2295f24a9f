-- Pages of the extent map: what their bytes say, entry by entry, and what they make up.
use Rattle.std.specs.Prelude.{◌≡◌, ◌≢◌, ◌≤◌, ◌<◌, ◌+◌, ◌*◌, ◌/◌, ◌%◌, ◌^◌, ◌==◌, ◌&&◌, ◌⊎◌, nat_lt, if◌then◌else◌, ℕ, List, [], ◌∷◌, ◌++◌, length, take, drop, Bool, true, false, Option, Some, None, unwrap_or}
use Rattle.std.specs.Int.{from_be_bytes, to_be_bytes, w32}
use Rattle.std.proofs.Common.{zero, suc, refl, sym, ap, subst, ◌∙◌, arith, inl, inr, get_or, length-drop}
use Rattle.std.proofs.Math.Nat.{mul-le-mul_right}
use Rattle.std.proofs.lemmas.Bool.{cases_lt, eqb-true, ltb-true}
use Rattle.std.proofs.lemmas.Nat.{be_bytes_4}
use Rattle.std.proofs.lemmas.List.{drop-drop, get_or-drop, get_or-take, get_or_past, length-take, take-append-drop}
use Rattle.std.proofs.lemmas.Option.{same_Some}
use Rattle.mdc_words.proofs.ListedLemmas.{get_or-listed, length-listed}
use Rattle.store_api.specs.Extents.{map_pages}
use Rattle.store_api.specs.StoreState.{page_at}
use Rattle.store_api.specs.declared.shape.Shape.{Shape}
use Rattle.extent_map.specs.Kinds.{IsKindOf, block_stated, free_stated, index_stated, kind_bytes, kind_marked, kind_stated}
use Rattle.extent_map.specs.Map.{entry_of, map_entries, map_page, map_page_of}
use Rattle.extent_map.specs.Owners.{owner_of}
use Rattle.extent_map.specs.declared.kind.Kind.{Kind}
use Rattle.extent_map.specs.declared.kind.Kind.TheVariants.{Free, Block, Index}
use Rattle.extent_map.proofs.ExtentsLemmas.{extent_limits}
use Rattle.extent_map.proofs.KindsLemmas.{kind_stated-kind_bytes}
use Rattle.extent_map.proofs.MapLemmas.{entry_of-map_page}
use Rattle.table_trees.specs.ToldPages.{PageList}
use Rattle.mdc_sound.specs.Breaks.{BreaksRule}
use Rattle.mdc_sound.specs.SpaceRules.{IsMapPageSound, IsMapSound, IsOwnerThere, IsRootSound}
use Rattle.file_check.specs.Judging.{HoldsUnbroken, IsLowestBreak}
use Rattle.file_check.specs.MapPagesJudged.{AreEntriesSound, EndsWithin, IsEntrySound, IsKindSound, TellTables, kind_on, owners_on}

-- ---- what the bytes of an entry say

-- each is a byte
abbrev pub AreBytes : List ℕ → Type 0
AreBytes bytes = (i : ℕ) → get_or bytes i 0 < 256

if_some : (b : Bool) (x : Option Kind) (kind : Kind) → (if b then x else None) ≡ Some kind → (b ≡ true) × (x ≡ Some kind)
if_some true x kind is = (refl, is)
if_some false x kind is = absurd (cc)

either_some : (b : Bool) (x y : Option Kind) (kind : Kind) → (if b then x else y) ≡ Some kind → ((b ≡ true) × (x ≡ Some kind)) ⊎ (y ≡ Some kind)
either_some true x y kind is = inl (refl, is)
either_some false x y kind is = inr is

both_true : (a b : Bool) → (a && b) ≡ true → (a ≡ true) × (b ≡ true)
both_true true b is = (refl, is)
both_true false b is = absurd (cc)

free_bytes : (n b c d e f g h : ℕ) (kind : Kind) → c ≡ 0 → d ≡ 0 → free_stated b (from_be_bytes w32 (e ∷ f ∷ g ∷ h ∷ [])) ≡ Some kind
    → (0 ∷ b ∷ c ∷ d ∷ e ∷ f ∷ g ∷ h ∷ [] ≡ kind_bytes kind) × IsKindOf n kind
unfolding kind_bytes
free_bytes n b c d e f g h kind third fourth is =
    let used = from_be_bytes w32 (e ∷ f ∷ g ∷ h ∷ []) in
    let told = if_some (b == 0 && used == 0) (Some Free) kind is in
    let tests = both_true (b == 0) (used == 0) told.0 in
    let none : used ≡ 0 = eqb-true used 0 tests.1 in
    let owner : b ≡ 0 = eqb-true b 0 tests.0 in
    let first : e ≡ 0 = omega (arith, none) in
    let second : f ≡ 0 = omega (arith, none) in
    let later : g ≡ 0 = omega (arith, none) in
    let last : h ≡ 0 = omega (arith, none) in
    let bytes : 0 ∷ b ∷ c ∷ d ∷ e ∷ f ∷ g ∷ h ∷ [] ≡ kind_bytes Free = cc in
    subst (λ k. (0 ∷ b ∷ c ∷ d ∷ e ∷ f ∷ g ∷ h ∷ [] ≡ kind_bytes k) × IsKindOf n k) (same_Some Free kind told.1) (bytes, tt)

block_bytes : (n b c d e f g h : ℕ) (kind : Kind) → c ≡ 0 → d ≡ 0 → b < 256 → block_stated b (from_be_bytes w32 (e ∷ f ∷ g ∷ h ∷ [])) ≡ Some kind
    → (1 ∷ b ∷ c ∷ d ∷ e ∷ f ∷ g ∷ h ∷ [] ≡ kind_bytes kind) × IsKindOf n kind
unfolding kind_bytes
block_bytes n b c d e f g h kind third fourth small is =
    let used = from_be_bytes w32 (e ∷ f ∷ g ∷ h ∷ []) in
    let told = if_some (used == 0) (Some (Block b)) kind is in
    let none : used ≡ 0 = eqb-true used 0 told.0 in
    let first : e ≡ 0 = omega (arith, none) in
    let second : f ≡ 0 = omega (arith, none) in
    let later : g ≡ 0 = omega (arith, none) in
    let last : h ≡ 0 = omega (arith, none) in
    let bytes : 1 ∷ b ∷ c ∷ d ∷ e ∷ f ∷ g ∷ h ∷ [] ≡ kind_bytes (Block b) = cc in
    subst (λ k. (1 ∷ b ∷ c ∷ d ∷ e ∷ f ∷ g ∷ h ∷ [] ≡ kind_bytes k) × IsKindOf n k) (same_Some (Block b) kind told.1) (bytes, small)

index_bytes : (n b c d e f g h : ℕ) (kind : Kind) → c ≡ 0 → d ≡ 0 → AreBytes (e ∷ f ∷ g ∷ h ∷ []) → index_stated n b (from_be_bytes w32 (e ∷ f ∷ g ∷ h ∷ [])) ≡ Some kind
    → (2 ∷ b ∷ c ∷ d ∷ e ∷ f ∷ g ∷ h ∷ [] ≡ kind_bytes kind) × IsKindOf n kind
unfolding kind_bytes
index_bytes n b c d e f g h kind third fourth are is =
    let used = from_be_bytes w32 (e ∷ f ∷ g ∷ h ∷ []) in
    let told = if_some (b == 0 && nat_lt 0 used && nat_lt used (2 ^ n)) (Some (Index used)) kind is in
    let tests = both_true (b == 0 && nat_lt 0 used) (nat_lt used (2 ^ n)) told.0 in
    let owned = both_true (b == 0) (nat_lt 0 used) tests.0 in
    let owner : b ≡ 0 = eqb-true b 0 owned.0 in
    let bits : to_be_bytes w32 used ≡ e ∷ f ∷ g ∷ h ∷ [] = be_bytes_4 (e ∷ f ∷ g ∷ h ∷ []) used refl are refl in
    let front : 2 ∷ b ∷ c ∷ d ∷ e ∷ f ∷ g ∷ h ∷ [] ≡ 2 ∷ 0 ∷ 0 ∷ 0 ∷ e ∷ f ∷ g ∷ h ∷ [] = cc in
    let bytes : 2 ∷ b ∷ c ∷ d ∷ e ∷ f ∷ g ∷ h ∷ [] ≡ kind_bytes (Index used) = front ∙ ap (λ (rest : List ℕ). 2 ∷ 0 ∷ 0 ∷ 0 ∷ rest) (sym bits) in
    subst (λ k. (2 ∷ b ∷ c ∷ d ∷ e ∷ f ∷ g ∷ h ∷ [] ≡ kind_bytes k) × IsKindOf n k) (same_Some (Index used) kind told.1) (bytes, (ltb-true 0 used owned.1, ltb-true used (2 ^ n) tests.1))

-- where they say a kind, they are its bytes
pub bytes_of_kind : (n : ℕ) (entry : List ℕ) (kind : Kind) → length entry ≡ 8 → AreBytes entry → kind_stated n entry ≡ Some kind → (entry ≡ kind_bytes kind) × IsKindOf n kind
bytes_of_kind n (a ∷ b ∷ c ∷ d ∷ e ∷ f ∷ g ∷ h ∷ []) kind long are is =
    let used = from_be_bytes w32 (e ∷ f ∷ g ∷ h ∷ []) in
    let told = if_some (c == 0 && d == 0) (kind_marked n a b used) kind is in
    let zeros = both_true (c == 0) (d == 0) told.0 in
    let third : c ≡ 0 = eqb-true c 0 zeros.0 in
    let fourth : d ≡ 0 = eqb-true d 0 zeros.1 in
    let Says : ℕ → Type 0 = λ (mark : ℕ). (mark ∷ b ∷ c ∷ d ∷ e ∷ f ∷ g ∷ h ∷ [] ≡ kind_bytes kind) × IsKindOf n kind in
    elim (either_some (a == 0) (free_stated b used) (if a == 1 then block_stated b used else (if a == 2 then index_stated n b used else None)) kind told.1) [
      | inl free ↦ subst Says (sym (eqb-true a 0 free.0)) (free_bytes n b c d e f g h kind third fourth free.1)
      | inr other ↦ elim (either_some (a == 1) (block_stated b used) (if a == 2 then index_stated n b used else None) kind other) [
        | inl block ↦ subst Says (sym (eqb-true a 1 block.0)) (block_bytes n b c d e f g h kind third fourth (are 1) block.1)
        | inr last ↦
            let index = if_some (a == 2) (index_stated n b used) kind last in
            subst Says (sym (eqb-true a 2 index.0)) (index_bytes n b c d e f g h kind third fourth four index.1)
      ]
    ]
  where
    four : (i : ℕ) → get_or (e ∷ f ∷ g ∷ h ∷ []) i 0 < 256
    four i = subst (λ x. x < 256) (sym (get_or-drop 4 (a ∷ b ∷ c ∷ d ∷ e ∷ f ∷ g ∷ h ∷ []) i 0)) (are (4 + i))
bytes_of_kind n entry kind long are is = absurd (omega (arith, long))

-- ---- a page by its entries

entries_are : (owners : List Kind) (e n : ℕ) (page : List ℕ) → length page ≡ 8 * n → ((j : ℕ) → j < n → take 8 (drop (8 * j) page) ≡ kind_bytes (owner_of owners (e + j))) → page ≡ map_entries owners e n
unfolding map_entries
entries_are owners e zero [] long each = refl
entries_are owners e zero (byte ∷ page) long each = absurd (omega (arith, long))
entries_are owners e (suc n) page long each =
    let here : e + 0 ≡ e = omega arith in
    let first : take 8 page ≡ kind_bytes (owner_of owners e) = each 0 (omega arith) ∙ ap (λ x. kind_bytes (owner_of owners x)) here in
    let rest : drop 8 page ≡ map_entries owners (suc e) n =
    entries_are owners (suc e) n (drop 8 page) (omega (arith, long, length-drop 8 page)) (λ j low.
    let place : 8 + 8 * j ≡ 8 * suc j = omega arith in
    let next : e + suc j ≡ suc e + j = omega arith in
    ap (take 8) (drop-drop (8 * j) 8 page ∙ ap (λ k. drop k page) place) ∙ each (suc j) (omega (arith, low)) ∙ ap (λ x. kind_bytes (owner_of owners x)) next) in
    sym (take-append-drop 8 page) ∙ ap (λ front. front ++ drop 8 page) first ∙ ap (λ tail. kind_bytes (owner_of owners e) ++ tail) rest

pub page_of_entries : (owners : List Kind) (i : ℕ) (page : List ℕ) → length page ≡ 4096 → ((e : ℕ) → e / 512 ≡ i → entry_of page e ≡ kind_bytes (owner_of owners e)) → page ≡ map_page owners i
unfolding map_page
page_of_entries owners i page long each =
    entries_are owners (512 * i) 512 page long (λ j low.
    let on : (512 * i + j) / 512 ≡ i = omega (arith, low) in
    let place : (512 * i + j) % 512 ≡ j = omega (arith, low) in
    ap (λ k. take 8 (drop (8 * k) page)) (sym place) ∙ each (512 * i + j) on)

-- an entry has 8 bytes
length-entry_of : (page : List ℕ) (e : ℕ) → length page ≡ 4096 → length (entry_of page e) ≡ 8
length-entry_of page e long = omega (arith, length-take 8 (drop (8 * (e % 512)) page), length-drop (8 * (e % 512)) page, long)

bytes_of_entry : (page : List ℕ) (e : ℕ) → AreBytes page → AreBytes (entry_of page e)
bytes_of_entry page e are i = elim (cases_lt i 8) [
  | inl low ↦
      let place = 8 * (e % 512) in
      subst (λ x. x < 256) (sym (get_or-take 8 (drop place page) i 0 low ∙ get_or-drop place page i 0)) (are (place + i))
  | inr past ↦
      let none : get_or (entry_of page e) i 0 ≡ 0 = get_or_past (entry_of page e) i 0 (omega (arith, past, length-take 8 (drop (8 * (e % 512)) page))) in
      omega (arith, none)
]

-- ---- from entries to the page, and back

module _ (shape : Shape) (pages : PageList) (root : IsRootSound shape pages) (tables : List Bool) (told : TellTables pages tables) where
  -- an extent that ends within the pages is one of those that there may be
  within_cap : (e : ℕ) → EndsWithin shape (length pages) e → e < shape.extents
  within_cap e ends = elim (cases_lt e shape.extents) [
    | inl low ↦ low
    | inr past ↦
        let next : root.count.extents ≤ e = omega (arith, root.count.within, past) in
        let less : root.count.extents * shape.extent_pages ≤ e * shape.extent_pages = mul-le-mul_right shape.extent_pages next in
        absurd (omega (arith, ends, root.count.count, less, (extent_limits shape).0))
  ]

  -- an extent behind the last is free
  free_past : (e : ℕ) (kind : Kind) → shape.extents ≤ e → IsKindSound shape (length pages) tables e kind → kind ≡ Free
  free_past e Free past sound = refl
  free_past e (Block t) past sound = absurd (omega (arith, past, within_cap e sound.1))
  free_past e (Index used) past sound = absurd (omega (arith, past, within_cap e sound))

  -- what an entry says is what the list of all owners says
  owner_shown : (e : ℕ) (page : List ℕ) → page_at pages (17 + e / 512) ≡ page → (found : Option Kind) → kind_on shape page e ≡ found → IsEntrySound shape (length pages) tables e found
      → found ≡ Some (owner_of (owners_on shape pages) e)
  owner_shown e page at None is sound = absurd sound
  owner_shown e page at (Some kind) is sound = elim (cases_lt e shape.extents) [
    | inl low ↦
        let here : owner_of (owners_on shape pages) e ≡ unwrap_or (kind_on shape (page_at pages (map_page_of e)) e) Free =
        get_or-listed shape.extents (λ x. unwrap_or (kind_on shape (page_at pages (map_page_of x)) x) Free) e Free low in
        ap Some (sym (here ∙ ap (λ bytes. unwrap_or (kind_on shape bytes e) Free) at ∙ ap (λ x. unwrap_or x Free) is))
    | inr past ↦
        let none : owner_of (owners_on shape pages) e ≡ Free = get_or_past (owners_on shape pages) e Free (omega (arith, past, length-listed shape.extents (λ x. unwrap_or (kind_on shape (page_at pages (map_page_of x)) x) Free))) in
        ap Some (free_past e kind past sound ∙ sym none)
  ]

  ends_of : (e : ℕ) (kind : Kind) → IsKindSound shape (length pages) tables e kind → kind ≢ Free → EndsWithin shape (length pages) e
  ends_of e Free sound used = absurd (used refl)
  ends_of e (Block t) sound used = sound.1
  ends_of e (Index bits) sound used = sound

  owner_there : (e : ℕ) (kind : Kind) → IsKindSound shape (length pages) tables e kind → IsOwnerThere pages kind
  owner_there e Free sound = tt
  owner_there e (Block t) sound = elim (cases_lt t 16) [
    | inl low ↦ (told.each t low).0 sound.0
    | inr past ↦ let wrong : false ≡ true = sym (get_or_past tables t false (omega (arith, past, told.count))) ∙ sound.0 in absurd (cc)
  ]
  owner_there e (Index bits) sound = tt

  -- and back
  kind_there : (e : ℕ) (kind : Kind) → IsOwnerThere pages kind → (kind ≢ Free → EndsWithin shape (length pages) e) → IsKindSound shape (length pages) tables e kind
  kind_there e Free there ends = tt
  kind_there e (Block t) there ends = ((told.each t there.0).1 there, ends (λ is. absurd (cc)))
  kind_there e (Index bits) there ends = ends (λ is. absurd (cc))

  -- a sound page, from its entries
  pub sound_of_entries : (i : ℕ) (page : List ℕ) → i < map_pages shape.extents → page_at pages (17 + i) ≡ page → length page ≡ 4096 → AreBytes page
      → AreEntriesSound shape (length pages) tables page i → IsMapPageSound shape pages (owners_on shape pages) i
  sound_of_entries i page low at long are sound = record {
    held = record {
      page = record {
        is_told = refl;
        within = omega (arith, low, root.count.count);
        bytes_are = at ∙ page_of_entries (owners_on shape pages) i page long (λ e on. (says e on).0);
      };
      kinds = λ e on. (says e on).1;
      there = λ e on used. ends_of e (owner_of (owners_on shape pages) e) (kind_sound e on) used;
    };
    owned = λ e on. owner_there e (owner_of (owners_on shape pages) e) (kind_sound e on);
  }
    where
      is_owner : (e : ℕ) → e / 512 ≡ i → kind_on shape page e ≡ Some (owner_of (owners_on shape pages) e)
      is_owner e on = owner_shown e page (subst (λ k. page_at pages (17 + k) ≡ page) (sym on) at) (kind_on shape page e) refl (sound e on)

      kind_sound : (e : ℕ) → e / 512 ≡ i → IsKindSound shape (length pages) tables e (owner_of (owners_on shape pages) e)
      kind_sound e on = subst (IsEntrySound shape (length pages) tables e) (is_owner e on) (sound e on)

      says : (e : ℕ) → e / 512 ≡ i → (entry_of page e ≡ kind_bytes (owner_of (owners_on shape pages) e)) × IsKindOf shape.extent_pages (owner_of (owners_on shape pages) e)
      says e on = bytes_of_kind shape.extent_pages (entry_of page e) (owner_of (owners_on shape pages) e) (length-entry_of page e long) (bytes_of_entry page e are) (is_owner e on)

  -- and its entries, from a sound page
  pub entries_of_sound : (i : ℕ) (page : List ℕ) (owners : List Kind) → page_at pages (17 + i) ≡ page → IsMapPageSound shape pages owners i → AreEntriesSound shape (length pages) tables page i
  entries_of_sound i page owners at sound e on =
      let kind = owner_of owners e in
      let bytes : page ≡ map_page owners i = sym at ∙ sound.held.page.bytes_are in
      let entry : entry_of page e ≡ kind_bytes kind = ap (λ b. entry_of b e) bytes ∙ entry_of-map_page owners i e on in
      let shown : kind_on shape page e ≡ Some kind = ap (kind_stated shape.extent_pages) entry ∙ kind_stated-kind_bytes shape.extent_pages kind (extent_limits shape).1 (sound.held.kinds e on) in
      subst (IsEntrySound shape (length pages) tables e) (sym shown) (kind_there e kind (sound.owned e on) (λ used. sound.held.there e on used))

-- ---- which page breaks the rule

pub map_broken : (shape : Shape) (pages : PageList) (i : ℕ) → i < map_pages shape.extents → ((owners : List Kind) → IsMapPageSound shape pages owners i → ⊥)
    → ((j : ℕ) → j < i → IsMapPageSound shape pages (owners_on shape pages) j) → IsLowestBreak (BreaksRule shape pages 2) (17 + i)
map_broken shape pages i low broken before = record {
  breaks = BreaksRule.map_page i low broken;
  lowest = go;
}
  where
    go : (p : ℕ) → BreaksRule shape pages 2 p → 17 + i ≤ p
    go _ (BreaksRule.map_page j less none) = elim (cases_lt j i) [ inl early ↦ absurd (none (owners_on shape pages) (before j early)) | inr late ↦ omega (arith, late) ]

pub map_holds : (shape : Shape) (pages : PageList) → ((j : ℕ) → j < map_pages shape.extents → IsMapPageSound shape pages (owners_on shape pages) j)
    → HoldsUnbroken ((owners : List Kind) × IsMapSound shape pages owners) (BreaksRule shape pages 2)
map_holds shape pages each = record {
  holds = (owners_on shape pages, record { count = length-listed shape.extents _; each = each });
  unbroken = go;
}
  where
    go : (p : ℕ) → BreaksRule shape pages 2 p → ⊥
    go _ (BreaksRule.map_page j less none) = none (owners_on shape pages) (each j less)
