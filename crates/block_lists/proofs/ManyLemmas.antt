-- Many lists joined by halves.
use Rattle.std.proofs.Common.{◌≡◌, ◌∙◌, ℕ, List, [], ◌∷◌, Bool, sym, ap, take, drop}
use Rattle.std.specs.Prelude.{◌&&◌, ◌||◌}
use Rattle.std.specs.List.{list_all, list_any}
use Rattle.std.proofs.Math.Bool.{and-true, or-false}
use Rattle.std.proofs.lemmas.List.{take-append-drop}
use Rattle.std.proofs.lemmas.List.Folds.{list_all-append, list_any-append}
use Rattle.mdc_values.specs.declared.rid.Rid.{Rid}
use Rattle.block_lists.specs.declared.lists.Lists.{Lists}
use Rattle.block_lists.specs.Lists.{IsAll, IsAny, IsBoth, IsEither, holds, lists_block}
use Rattle.block_lists.specs.Places.{has_number, has_rid}

all_halves : (p : Lists → Bool) (n : ℕ) (members : List Lists) → (list_all p (take n members) && list_all p (drop n members)) ≡ list_all p members
all_halves p n members = sym (list_all-append p (take n members) (drop n members)) ∙ ap (list_all p) (take-append-drop n members)

any_halves : (p : Lists → Bool) (n : ℕ) (members : List Lists) → (list_any p (take n members) || list_any p (drop n members)) ≡ list_any p members
any_halves p n members = sym (list_any-append p (take n members) (drop n members)) ∙ ap (list_any p) (take-append-drop n members)

pub both_halves : (n : ℕ) (members front_members back_members : List Lists) (front back all : Lists) → front_members ≡ take n members → back_members ≡ drop n members
    → IsAll front_members front → IsAll back_members back → IsBoth front back all → IsAll members all
both_halves n members front_members back_members front back all ef eb f b is = record {
  rows = λ rid.
      is.rows rid ∙ ap (λ p. p && holds back rid) (f.rows rid ∙ ap (list_all (λ l. holds l rid)) ef) ∙ ap (λ p. list_all (λ l. holds l rid) (take n members) && p) (b.rows rid ∙ ap (list_all (λ l. holds l rid)) eb)
      ∙ all_halves (λ l. holds l rid) n members;
  blocks = λ block.
      is.blocks block ∙ ap (λ p. p && lists_block back block) (f.blocks block ∙ ap (list_all (λ l. lists_block l block)) ef)
      ∙ ap (λ p. list_all (λ l. lists_block l block) (take n members) && p) (b.blocks block ∙ ap (list_all (λ l. lists_block l block)) eb)
      ∙ all_halves (λ l. lists_block l block) n members;
}

pub either_half : (n : ℕ) (members front_members back_members : List Lists) (front back any : Lists) → front_members ≡ take n members → back_members ≡ drop n members
    → IsAny front_members front → IsAny back_members back → IsEither front back any → IsAny members any
either_half n members front_members back_members front back any ef eb f b is = record {
  rows = λ rid.
      is.rows rid ∙ ap (λ p. p || holds back rid) (f.rows rid ∙ ap (list_any (λ l. holds l rid)) ef) ∙ ap (λ p. list_any (λ l. holds l rid) (take n members) || p) (b.rows rid ∙ ap (list_any (λ l. holds l rid)) eb)
      ∙ any_halves (λ l. holds l rid) n members;
  blocks = λ block.
      is.blocks block ∙ ap (λ p. p || lists_block back block) (f.blocks block ∙ ap (list_any (λ l. lists_block l block)) ef)
      ∙ ap (λ p. list_any (λ l. lists_block l block) (take n members) || p) (b.blocks block ∙ ap (list_any (λ l. lists_block l block)) eb)
      ∙ any_halves (λ l. lists_block l block) n members;
}

-- one list alone
module _ (only none copy : Lists) (eb : none.blocks ≡ []) (er : none.rids ≡ []) (is : IsEither only none copy) where
  pub copy_rows : (rid : Rid) → holds copy rid ≡ holds only rid
  copy_rows rid = is.rows rid ∙ ap (λ b. holds only rid || (has_number b rid.block || has_rid none.rids rid)) eb ∙ ap (λ r. holds only rid || has_rid r rid) er ∙ or-false (holds only rid)

  pub copy_blocks : (block : ℕ) → lists_block copy block ≡ lists_block only block
  copy_blocks block = is.blocks block ∙ ap (λ b. lists_block only block || has_number b block) eb ∙ or-false (lists_block only block)

  pub one_all : (members : List Lists) → members ≡ only ∷ [] → IsAll members copy
  one_all members e = record {
    rows = λ rid. copy_rows rid ∙ sym (and-true (holds only rid)) ∙ ap (list_all (λ l. holds l rid)) (sym e);
    blocks = λ block. copy_blocks block ∙ sym (and-true (lists_block only block)) ∙ ap (list_all (λ l. lists_block l block)) (sym e);
  }

  pub one_any : (members : List Lists) → members ≡ only ∷ [] → IsAny members copy
  one_any members e = record {
    rows = λ rid. copy_rows rid ∙ sym (or-false (holds only rid)) ∙ ap (list_any (λ l. holds l rid)) (sym e);
    blocks = λ block. copy_blocks block ∙ sym (or-false (lists_block only block)) ∙ ap (list_any (λ l. lists_block l block)) (sym e);
  }
