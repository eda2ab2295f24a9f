-- Entries of a block map, one after the other, and the blocks that they name.
use Rattle.std.proofs.Common.{◌≡◌, ◌<◌, ◌≤◌, ◌+◌, ℕ, zero, suc, List, [], ◌∷◌, ◌++◌, refl, ap, add-one, arith, sym, ◌∙◌, subst, append_assoc, append-nil, length, get_or, take, ◌⊎◌, inl, inr}
use Rattle.std.specs.Prelude.{true, None}
use Rattle.std.proofs.Math.Seq.{take-length}
use Rattle.std.proofs.lemmas.Bool.{cases_lt}
use Rattle.std.proofs.lemmas.List.{take_more}
use Rattle.std.proofs.lemmas.Nat.{be_bytes_2}
use Rattle.byteorder.specs.Endian.{big_bytes}
use Rattle.mdc_words.specs.ByteOrder.{Entry, below}
use Rattle.key_codec.proofs.OrderLemmas.{AreBytes-none}
use Rattle.node_page.proofs.JudgeLemmas.{reprinted}
use Rattle.node_page.proofs.NodeLemmas.{AreBytes}
use Rattle.entry_tree.specs.EntryBounds.{Climbs, IsEntryOf, Rises}
use Rattle.entry_tree.proofs.EntryBoundsLemmas.{not_below}
use Rattle.block_map.specs.MapLines.{IsMapEntry, map_entry, map_line}
use Rattle.block_map.proofs.MapLinesLemmas.{entry_small, entry_state}
use Rattle.block_map.proofs.MapOrderLemmas.{before_block}
use Rattle.file_check.specs.BlockMapsJudged.{HaveNoForm, HaveStates, NameBlocks, RiseFrom, blocks_of_entries}

-- seven bytes are written as what they say
two_bytes : (f g : ℕ) → f < 256 → g < 256 → AreBytes (f ∷ g ∷ [])
two_bytes f g l k zero = l
two_bytes f g l k (suc zero) = k
two_bytes f g l k (suc (suc i)) = AreBytes-none i

pub written_entry : (x : Entry) → length x ≡ 7 → AreBytes x → IsMapEntry x
written_entry (a ∷ b ∷ c ∷ d ∷ e ∷ f ∷ g ∷ []) l are =
    let whole : Entry = a ∷ b ∷ c ∷ d ∷ e ∷ f ∷ g ∷ [] in
    let line = map_line whole in
    let first : big_bytes 4 line.block ≡ a ∷ b ∷ c ∷ d ∷ [] = reprinted whole are (omega arith) in
    let last : big_bytes 2 line.rows ≡ f ∷ g ∷ [] = be_bytes_2 (f ∷ g ∷ []) line.rows refl (two_bytes f g (are 5) (are 6)) (omega arith) in
    let state : line.state ≡ e = entry_state whole in
    record { bytes_are = sym (ap (λ xs. xs ++ line.state ∷ big_bytes 2 line.rows) first ∙ ap (λ s. a ∷ b ∷ c ∷ d ∷ s ∷ big_bytes 2 line.rows) state ∙ ap (λ xs. a ∷ b ∷ c ∷ d ∷ e ∷ xs) last) }
written_entry x l are = absurd (omega (arith, l))

-- ---- their order

-- the entry of a lower block comes before
entry_before : (x y : Entry) → IsMapEntry x → IsMapEntry y → (map_line x).block < (map_line y).block → below x y ≡ true
entry_before x y w v l =
    let a = map_line x in
    let b = map_line y in
    subst (λ (e : Entry). below e y ≡ true) (sym w.bytes_are) (subst (λ (e : Entry). below (map_entry a.block a.state a.rows) e ≡ true) (sym v.bytes_are)
    (before_block a.block a.state a.rows b.block b.state b.rows (entry_small x w) (entry_small y v) l))

-- so what comes before has no higher block
entries_no_higher : (x y : Entry) → IsMapEntry x → IsMapEntry y → below x y ≡ true → (map_line x).block ≤ (map_line y).block
entries_no_higher x y w v h = elim (cases_lt (map_line y).block (map_line x).block) [
  | inl l ↦ let b = entry_before y x v w l in let e = not_below x y h in absurd cc
  | inr l ↦ l
]

climbs_next : (last : Entry) (xs : List Entry) (k : ℕ) → Climbs last None xs → suc k < length (last ∷ xs) → below (get_or (last ∷ xs) k []) (get_or xs k []) ≡ true
climbs_next last [] k h l = absurd (omega (arith, l))
climbs_next last (x ∷ xs) zero h l = h.0
climbs_next last (x ∷ xs) (suc k) h l = climbs_next x xs k h.2 (omega (arith, l))

-- each entry of a rising list comes before the next one
rises_next : (xs : List Entry) (k : ℕ) → Rises None None xs → suc k < length xs → below (get_or xs k []) (get_or xs (suc k) []) ≡ true
rises_next [] k h l = absurd (omega (arith, l))
rises_next (x ∷ xs) k h l = climbs_next x xs k h.2 l

-- ---- one entry more

-- the last of the first entries names the block just below this number
pub record IsBehindLast (entries : List Entry) (i from : ℕ) : Type 0 where
  pub last : ℕ
  pub place : i ≡ suc last
  pub next : from ≡ (map_line (get_or entries last [])).block + 1

-- what the first entries name
pub record NamesTo (entries : List Entry) (i : ℕ) (blocks : List ℕ) (from : ℕ) : Type 0 where
  pub written : (entry : Entry) → IsEntryOf entry (take i entries) → IsMapEntry entry
  pub states : HaveStates (take i entries)
  pub named : blocks ≡ blocks_of_entries (take i entries)
  pub rise : (rest : List ℕ) → RiseFrom from rest → RiseFrom 0 (blocks ++ rest)
  pub last : (from ≡ 0) ⊎ IsBehindLast entries i from

pub names_none : (entries : List Entry) (blocks : List ℕ) → blocks ≡ [] → NamesTo entries 0 blocks 0
names_none entries blocks e = record {
  written = λ entry at. absurd at;
  states = tt;
  named = e;
  rise = λ rest h. subst (λ bs. RiseFrom 0 (bs ++ rest)) (sym e) h;
  last = inl refl;
}

push_cases : (x y : Entry) (xs : List Entry) → IsEntryOf x (xs ++ y ∷ []) → IsEntryOf x xs ⊎ (x ≡ y)
push_cases x y [] (inl e) = inr e
push_cases x y [] (inr at) = absurd at
push_cases x y (z ∷ xs) (inl e) = inl (inl e)
push_cases x y (z ∷ xs) (inr at) = elim (push_cases x y xs at) [
  | inl there ↦ inl (inr there)
  | inr e ↦ inr e
]

states_push : (xs : List Entry) (x : Entry) → HaveStates xs → (map_line x).state ≤ 2 → HaveStates (xs ++ x ∷ [])
states_push [] x h l = (l, tt)
states_push (y ∷ xs) x h l = (h.0, states_push xs x h.1 l)

blocks_push : (xs : List Entry) (x : Entry) → blocks_of_entries (xs ++ x ∷ []) ≡ blocks_of_entries xs ++ (map_line x).block ∷ []
blocks_push [] x = refl
blocks_push (y ∷ xs) x = ap (λ bs. (map_line y).block ∷ bs) (blocks_push xs x)

pub names_next : (entries : List Entry) (i : ℕ) (blocks next : List ℕ) (from block : ℕ) (x : Entry) → NamesTo entries i blocks from → i < length entries → x ≡ get_or entries i [] → IsMapEntry x
    → block ≡ (map_line x).block → (map_line x).state ≤ 2 → from ≤ block → next ≡ blocks ++ block ∷ [] → NamesTo entries (i + 1) next (block + 1)
names_next entries i blocks next from block x n l is written names state above push =
    let more : take (i + 1) entries ≡ take i entries ++ x ∷ [] = take_more entries i [] l ∙ ap (λ y. take i entries ++ y ∷ []) (sym is) in
    record {
      written = λ entry at. elim (push_cases entry x (take i entries) (subst (IsEntryOf entry) more at)) [
        | inl there ↦ n.written entry there
        | inr e ↦ subst IsMapEntry (sym e) written
      ];
      states = subst HaveStates (sym more) (states_push (take i entries) x n.states state);
      named = push ∙ ap (λ bs. bs ++ block ∷ []) n.named ∙ ap (λ b. blocks_of_entries (take i entries) ++ b ∷ []) names ∙ sym (blocks_push (take i entries) x) ∙ ap blocks_of_entries (sym more);
      rise = λ rest h. subst (RiseFrom 0) (sym (ap (λ bs. bs ++ rest) push ∙ append_assoc blocks (block ∷ []) rest)) (n.rise (block ∷ rest) (above, h));
      last = inr (record { last = i; place = add-one i; next = ap (λ b. b + 1) (names ∙ ap (λ y. (map_line y).block) is) });
    }

-- all entries
pub names_whole : (entries : List Entry) (i : ℕ) (blocks : List ℕ) (from : ℕ) → NamesTo entries i blocks from → i ≡ length entries → NameBlocks entries blocks
names_whole entries i blocks from n end =
    let whole : take i entries ≡ entries = ap (λ k. take k entries) end ∙ take-length entries in
    record {
      written = λ entry at. n.written entry (subst (IsEntryOf entry) (sym whole) at);
      states = subst HaveStates whole n.states;
      named = n.named ∙ ap blocks_of_entries whole;
      rise = subst (RiseFrom 0) (append-nil blocks) (n.rise [] tt);
    }

-- ---- no form

state_at : (xs : List Entry) (i : ℕ) → HaveStates xs → i < length xs → (map_line (get_or xs i [])).state ≤ 2
state_at [] i h l = absurd (omega (arith, l))
state_at (x ∷ xs) zero h l = h.0
state_at (x ∷ xs) (suc i) h l = state_at xs i h.1 (omega (arith, l))

block_at : (xs : List Entry) (i d : ℕ) → i < length xs → get_or (blocks_of_entries xs) i d ≡ (map_line (get_or xs i [])).block
block_at [] i d l = absurd (omega (arith, l))
block_at (x ∷ xs) zero d l = refl
block_at (x ∷ xs) (suc i) d l = block_at xs i d (omega (arith, l))

length-blocks : (xs : List Entry) → length (blocks_of_entries xs) ≡ length xs
length-blocks [] = refl
length-blocks (x ∷ xs) = ap suc (length-blocks xs)

in_front : (xs : List Entry) (k i : ℕ) → k < i → i ≤ length xs → IsEntryOf (get_or xs k []) (take i xs)
in_front xs k zero l m = absurd (omega (arith, l))
in_front [] k (suc i) l m = absurd (omega (arith, m))
in_front (x ∷ xs) zero (suc i) l m = inl refl
in_front (x ∷ xs) (suc k) (suc i) l m = inr (in_front xs k i (omega (arith, l)) (omega (arith, m)))

-- an entry whose state is none, or whose block doesn't lie above the last one
pub no_form : (entries : List Entry) (i : ℕ) (blocks : List ℕ) (from : ℕ) (x : Entry) → NamesTo entries i blocks from → i < length entries → x ≡ get_or entries i [] → IsMapEntry x
    → (2 < (map_line x).state) ⊎ ((map_line x).block < from) → Rises None None entries → HaveNoForm entries
no_form entries i blocks from x n l is written (inl high) rises states pairs =
    omega (arith, high, subst (λ y. (map_line y).state ≤ 2) (sym is) (state_at entries i states l))
no_form entries i blocks from x n l is written (inr low) rises states pairs = elim n.last [
  | inl start ↦ omega (arith, low, start)
  | inr b ↦
      let k = b.last in
      let y = get_or entries k [] in
      let near : suc k < length entries = omega (arith, l, b.place) in
      let same : get_or entries i [] ≡ get_or entries (suc k) [] = ap (λ j. get_or entries j []) b.place in
      let order : below y x ≡ true = subst (λ z. below y z ≡ true) (sym (is ∙ same)) (rises_next entries k rises near) in
      let up = entries_no_higher y x (n.written y (in_front entries k i (omega (arith, b.place)) (omega (arith, l)))) written order in
      let equal : (map_line y).block ≡ (map_line x).block = omega (arith, up, low, b.next) in
      let many = length-blocks entries in
      pairs k (suc k) 0 (omega arith) (omega (arith, near, many)) (block_at entries k 0 (omega (arith, near)) ∙ equal ∙ ap (λ z. (map_line z).block) (is ∙ same) ∙ sym (block_at entries (suc k) 0 near))
]
