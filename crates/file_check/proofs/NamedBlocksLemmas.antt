-- Blocks that rise, gone over in step with the extents.
use Rattle.std.proofs.Common.{◌≡◌, ◌≢◌, ◌<◌, ◌≤◌, ◌+◌, ℕ, zero, suc, List, [], ◌∷◌, ap, add-one, arith, sym, ◌∙◌, subst, length, get_or, take, drop, inl, inr}
use Rattle.std.specs.Prelude.{Contains}
use Rattle.std.specs.List.{AllByRecursion}
use Rattle.std.proofs.Math.Seq.{take-length}
use Rattle.std.proofs.lemmas.Bool.{cases_eq}
use Rattle.std.proofs.lemmas.List.{take_more, take-append-drop}
use Rattle.std.proofs.lemmas.List.Elements.{Contains-append_cases, Contains-get_or}
use Rattle.extent_map.specs.Owners.{owner_of}
use Rattle.extent_map.specs.declared.kind.Kind.{Kind}
use Rattle.extent_map.specs.declared.kind.Kind.TheVariants.{Block}
use Rattle.block_map.proofs.MapLinesLemmas.{contains_cases}
use Rattle.stored_catalog.proofs.MakingRunsLemmas.{all_push}
use Rattle.file_check.specs.BlockMapsJudged.{AreBlocksOf, AreNoBlocksOf, IsBlockOf, RiseFrom}

-- ---- rising numbers

-- what rises from a number has none below it
rise_above : (from n : ℕ) (ns : List ℕ) → RiseFrom from ns → n < from → Contains ns n → ⊥
rise_above from n [] h l (k, b, e) = omega (arith, b)
rise_above from n (m ∷ ns) h l at = elim (contains_cases n m ns at) [
  | inl e ↦ omega (arith, e, h.0, l)
  | inr behind ↦ rise_above (m + 1) n ns h.1 (omega (arith, h.0, l)) behind
]

-- the first of what is left, if there is one
rise_first : (from : ℕ) (ns : List ℕ) (at : ℕ) → RiseFrom from (drop at ns) → at < length ns → from ≤ get_or ns at 0
rise_first from [] at h l = absurd (omega (arith, l))
rise_first from (n ∷ ns) zero h l = h.0
rise_first from (n ∷ ns) (suc at) h l = rise_first from ns at h (omega (arith, l))

rise_behind : (from : ℕ) (ns : List ℕ) (at : ℕ) → RiseFrom from (drop at ns) → at < length ns → RiseFrom (get_or ns at 0 + 1) (drop (suc at) ns)
rise_behind from [] at h l = absurd (omega (arith, l))
rise_behind from (n ∷ ns) zero h l = h.1
rise_behind from (n ∷ ns) (suc at) h l = rise_behind from ns at h (omega (arith, l))

-- what rises from a number that doesn't come first rises from the next one
rise_next : (from : ℕ) (ns : List ℕ) (at : ℕ) → RiseFrom from (drop at ns) → (at < length ns → get_or ns at 0 ≢ from) → RiseFrom (from + 1) (drop at ns)
rise_next from [] zero h other = tt
rise_next from [] (suc at) h other = tt
rise_next from (n ∷ ns) zero h other = let apart : n ≢ from = other (omega arith) in (omega (arith, h.0, apart), h.1)
rise_next from (n ∷ ns) (suc at) h other = rise_next from ns at h (λ l. other (omega (arith, l)))

-- ---- blocks and extents in step

-- Those before place `at` are the blocks of the table below extent e, and those from there on lie at e or behind it.
pub record WalksBlocks (kinds : List Kind) (table : ℕ) (blocks : List ℕ) (at e : ℕ) : Type 0 where
  pub within : at ≤ length blocks
  pub gone : AllByRecursion (λ b. (b < e) × (owner_of kinds b ≡ Block table)) (take at blocks)
  pub left : RiseFrom e (drop at blocks)
  pub all : (k : ℕ) → k < e → owner_of kinds k ≡ Block table → Contains blocks k

pub walks_none : (kinds : List Kind) (table : ℕ) (blocks : List ℕ) → RiseFrom 0 blocks → WalksBlocks kinds table blocks 0 0
walks_none kinds table blocks rise = record { within = omega arith; gone = tt; left = rise; all = λ k l is. absurd (omega (arith, l)) }

all_wider : {P Q : ℕ → Type 0} (ns : List ℕ) → ((n : ℕ) → P n → Q n) → AllByRecursion P ns → AllByRecursion Q ns
all_wider [] f h = tt
all_wider (n ∷ ns) f h = (f n h.0, all_wider ns f h.1)

all_in : (P : ℕ → Type 0) (ns : List ℕ) (n : ℕ) → AllByRecursion P ns → Contains ns n → P n
all_in P [] n h (k, l, e) = absurd (omega (arith, l))
all_in P (m ∷ ns) n h at = elim (contains_cases n m ns at) [
  | inl e ↦ subst P e h.0
  | inr behind ↦ all_in P ns n h.1 behind
]

module _ (kinds : List Kind) (table : ℕ) (blocks : List ℕ) (at e : ℕ) (w : WalksBlocks kinds table blocks at e) where
  -- the next block is this extent
  pub walks_block : at < length blocks → get_or blocks at 0 ≡ e → owner_of kinds e ≡ Block table → WalksBlocks kinds table blocks (at + 1) (e + 1)
  walks_block l is owned = record {
    within = omega (arith, l);
    gone = subst (AllByRecursion (λ b. (b < e + 1) × (owner_of kinds b ≡ Block table))) (sym (take_more blocks at 0 l))
        (all_push _ (take at blocks) (get_or blocks at 0) (all_wider (take at blocks) (λ n h. (omega (arith, h.0), h.1)) w.gone) (omega (arith, is), ap (owner_of kinds) is ∙ owned));
    left = subst (λ n. RiseFrom (n + 1) (drop (at + 1) blocks)) is (subst (λ n. RiseFrom (get_or blocks at 0 + 1) (drop n blocks)) (sym (add-one at)) (rise_behind e blocks at w.left l));
    all = λ k below owns. elim (cases_eq k e) [
      | inl same ↦ subst (Contains blocks) (is ∙ sym same) (Contains-get_or blocks at 0 l)
      | inr apart ↦ w.all k (omega (arith, below, apart)) owns
    ];
  }

  -- this extent is no block of the table
  pub walks_past : (at < length blocks → get_or blocks at 0 ≢ e) → owner_of kinds e ≢ Block table → WalksBlocks kinds table blocks at (e + 1)
  walks_past other not_owned = record {
    within = w.within;
    gone = all_wider (take at blocks) (λ n h. (omega (arith, h.0), h.1)) w.gone;
    left = rise_next e blocks at w.left other;
    all = λ k below owns. elim (cases_eq k e) [
      | inl same ↦ absurd (not_owned (ap (owner_of kinds) (sym same) ∙ owns))
      | inr apart ↦ w.all k (omega (arith, below, apart)) owns
    ];
  }

  -- the next block is this extent, which is none of the table
  pub names_other : at < length blocks → get_or blocks at 0 ≡ e → e < length kinds → owner_of kinds e ≢ Block table → AreNoBlocksOf kinds table blocks
  names_other l is there not_owned = AreNoBlocksOf.other e (subst (Contains blocks) is (Contains-get_or blocks at 0 l)) there not_owned

  -- this extent is a block of the table, and isn't the next block
  pub names_not : (at < length blocks → get_or blocks at 0 ≢ e) → IsBlockOf kinds table e → AreNoBlocksOf kinds table blocks
  names_not other is =
      let behind = rise_next e blocks at w.left other in
      AreNoBlocksOf.lacks e (λ there. elim (Contains-append_cases (take at blocks) (drop at blocks) e (subst (λ ns. Contains ns e) (sym (take-append-drop at blocks)) there)) [
        | inl gone ↦ let h = all_in _ (take at blocks) e w.gone gone in omega (arith, h.0)
        | inr left ↦ rise_above (e + 1) e (drop at blocks) behind (omega arith) left
      ]) is

  -- no extent is left
  pub names_all : e ≡ length kinds → at ≡ length blocks → AreBlocksOf kinds table blocks
  names_all end last = record {
    each = all_wider blocks (λ n h. (omega (arith, h.0, end), h.1)) (subst (AllByRecursion (λ b. (b < e) × (owner_of kinds b ≡ Block table))) (ap (λ n. take n blocks) last ∙ take-length blocks) w.gone);
    all = λ k is. w.all k (omega (arith, is.0, end)) is.1;
  }

  pub names_past : e ≡ length kinds → at ≢ length blocks → AreNoBlocksOf kinds table blocks
  names_past end more =
      let l : at < length blocks = omega (arith, w.within, more) in
      AreNoBlocksOf.past (get_or blocks at 0) (Contains-get_or blocks at 0 l) (omega (arith, end, rise_first e blocks at w.left l))
