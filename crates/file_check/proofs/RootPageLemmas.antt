-- The root page: which page counts are whole, what it states, and which page breaks its rule.
use Rattle.std.specs.Prelude.{◌≡◌, ◌≤◌, ◌<◌, ◌-◌, ◌*◌, ◌/◌, ◌%◌, ◌&&◌, ◌∷◌, [], ◌++◌, ℕ, List, Bool, true, false, nat_le, length, take, drop}
use Rattle.std.proofs.Common.{zero, refl, sym, ap, subst, ◌∙◌, arith}
use Rattle.std.proofs.Math.Nat.{mul-div_cancel, mul-mod_left, mul-le-mul_right}
use Rattle.std.proofs.lemmas.Bool.Decides.{nat_tests}
use Rattle.std.proofs.lemmas.Nat.{div-add-mod', from_be_bytes-to_be_bytes_4}
use Rattle.std.proofs.lemmas.List.{take-append-drop}
use Rattle.byteorder.specs.Endian.{big_bytes}
use Rattle.store_api.specs.Extents.{first_page_of, is_extent_size}
use Rattle.store_api.specs.StoreState.{page_at, stated_in, zero_page}
use Rattle.store_api.specs.declared.shape.Shape.{Shape}
use Rattle.extent_map.proofs.ExtentsLemmas.{extent_limits}
use Rattle.table_trees.specs.ToldPages.{PageList}
use Rattle.mdc_sound.specs.Breaks.{BreaksRule, IsWholeOf}
use Rattle.mdc_sound.specs.SpaceRules.{IsRootSound, stated_root}
use Rattle.file_check.specs.Judging.{IsLowestBreak, HoldsUnbroken}

-- ---- whole counts

pub whole_of : (shape : Shape) (n first : ℕ) → first ≡ first_page_of shape.extents shape.extent_pages 0 → first ≤ n → (n - first) % shape.extent_pages ≡ 0
    → (n - first) / shape.extent_pages ≤ shape.extents → IsWholeOf shape n
whole_of shape n first is low even few =
    ((n - first) / shape.extent_pages, few, omega (arith, is, low, even, div-add-mod' (n - first) shape.extent_pages))

pub extents_of_whole : (shape : Shape) (n first : ℕ) → first ≡ first_page_of shape.extents shape.extent_pages 0 → IsWholeOf shape n → (n - first) / shape.extent_pages ≤ shape.extents
extents_of_whole shape n first is (k, few, e) =
    let some : 0 < shape.extent_pages = omega (arith, (extent_limits shape).0) in
    let behind : n - first ≡ k * shape.extent_pages = omega (arith, is, e) in
    let same : (n - first) / shape.extent_pages ≡ k = ap (λ m. m / shape.extent_pages) behind ∙ mul-div_cancel k some in
    omega (arith, few, same)

-- and it has no page more behind its extents
pub whole_is_even : (shape : Shape) (n first : ℕ) → first ≡ first_page_of shape.extents shape.extent_pages 0 → IsWholeOf shape n → (n - first) % shape.extent_pages ≡ 0
whole_is_even shape n first is (k, few, e) =
    let behind : n - first ≡ k * shape.extent_pages = omega (arith, is, e) in
    ap (λ m. m % shape.extent_pages) behind ∙ mul-mod_left k shape.extent_pages

fourth_true : (a b c d : Bool) → (a && b && c && d) ≡ true → d ≡ true
fourth_true true true true d is = is
fourth_true true true false d is = absurd (cc)
fourth_true true false c d is = absurd (cc)
fourth_true false b c d is = absurd (cc)

second_true : (a b c d : Bool) → (a && b && c && d) ≡ true → b ≡ true
second_true true true c d is = refl
second_true true false c d is = absurd (cc)
second_true false b c d is = absurd (cc)

-- a whole count is a number of four bytes
pub small_whole : (shape : Shape) (n : ℕ) → IsWholeOf shape n → n < 4294967296
small_whole shape n (k, few, e) =
    let limits = shape.within in
    let last : nat_le (shape.extents * shape.extent_pages) 262144 ≡ true =
    fourth_true (nat_le 4 shape.extents) (nat_le shape.extents 65536) (is_extent_size shape.extent_pages) (nat_le (shape.extents * shape.extent_pages) 262144) limits in
    let most : nat_le shape.extents 65536 ≡ true =
    second_true (nat_le 4 shape.extents) (nat_le shape.extents 65536) (is_extent_size shape.extent_pages) (nat_le (shape.extents * shape.extent_pages) 262144) limits in
    let pages : shape.extents * shape.extent_pages ≤ 262144 = grind (arith, nat_tests) in
    let extents : shape.extents ≤ 65536 = grind (arith, nat_tests) in
    let below : k * shape.extent_pages ≤ shape.extents * shape.extent_pages = mul-le-mul_right shape.extent_pages few in
    omega (arith, e, pages, extents, below)

-- ---- what a root page states

pub root_of_parts : (count : ℕ) (page : List ℕ) → take 12 page ≡ (82 ∷ 79 ∷ 79 ∷ 84 ∷ []) ++ big_bytes 4 1 ++ big_bytes 4 count → drop 12 page ≡ drop 12 zero_page → page ≡ stated_root count
root_of_parts count page head tail = sym (take-append-drop 12 page) ∙ ap (λ front. front ++ drop 12 page) head ∙ ap (λ rest. ((82 ∷ 79 ∷ 79 ∷ 84 ∷ []) ++ big_bytes 4 1 ++ big_bytes 4 count) ++ rest) tail

stated_in-stated_root : (n : ℕ) → n < 4294967296 → stated_in (stated_root n) ≡ n
stated_in-stated_root n small = from_be_bytes-to_be_bytes_4 n small

-- it states one whole count at most
one_stated : (shape : Shape) (n : ℕ) (page : List ℕ) → IsWholeOf shape n → page ≡ stated_root n → n ≡ stated_in page
one_stated shape n page whole is = sym (ap stated_in is ∙ stated_in-stated_root n (small_whole shape n whole))

-- ---- which page breaks the rule

-- the root page, where what it states isn't whole, is fewer pages than there are, or is stated in another form
pub root_breaks : (shape : Shape) (pages : PageList) (page : List ℕ) (stated : ℕ) → stated ≡ stated_in page → page_at pages 0 ≡ page
    → (IsWholeOf shape stated → length pages ≤ stated → page ≡ stated_root stated → ⊥) → IsLowestBreak (BreaksRule shape pages 1) 0
root_breaks shape pages page stated is at none = record {
  breaks = BreaksRule.root (λ n whole longer form.
      let same : n ≡ stated = one_stated shape n page whole (sym at ∙ form) ∙ sym is in
      none (subst (IsWholeOf shape) same whole) (subst (λ m. length pages ≤ m) same longer) (sym at ∙ form ∙ ap stated_root same));
  lowest = λ p broken. omega arith;
}

module _ (shape : Shape) (pages : PageList) (stated : ℕ) (whole : IsWholeOf shape stated) (form : page_at pages 0 ≡ stated_root stated) where
  same_stated : (n : ℕ) → IsWholeOf shape n → page_at pages 0 ≡ stated_root n → n ≡ stated
  same_stated n other is = one_stated shape n (page_at pages 0) other is ∙ sym (one_stated shape stated (page_at pages 0) whole form)

  missing_lowest : length pages ≤ stated → (p : ℕ) → BreaksRule shape pages 1 p → length pages ≤ p
  missing_lowest longer zero (BreaksRule.root none) = absurd (none stated whole longer form)
  missing_lowest longer _ (BreaksRule.missing n p other is behind before) = behind

  -- the first page that isn't there
  pub missing_breaks : length pages < stated → IsLowestBreak (BreaksRule shape pages 1) (length pages)
  missing_breaks more = record {
    breaks = BreaksRule.missing stated (length pages) whole form (omega arith) more;
    lowest = missing_lowest (omega (arith, more));
  }

  root_unbroken : length pages ≡ stated → (p : ℕ) → BreaksRule shape pages 1 p → ⊥
  root_unbroken all zero (BreaksRule.root none) = none stated whole (omega (arith, all)) form
  root_unbroken all _ (BreaksRule.missing n p other is behind before) = omega (arith, all, same_stated n other is, behind, before)

  -- or none
  pub root_holds : length pages ≡ stated → HoldsUnbroken (IsRootSound shape pages) (BreaksRule shape pages 1)
  root_holds all = record {
    holds = record {
      count = record { extents = whole.0; within = whole.1; count = all ∙ whole.2 };
      root = form ∙ ap stated_root (sym all);
    };
    unbroken = root_unbroken all;
  }

-- no page at all, and so no root page
pub none_breaks : (shape : Shape) (pages : PageList) → length pages ≡ 0 → IsLowestBreak (BreaksRule shape pages 1) 0
none_breaks shape [] none = record {
  breaks = BreaksRule.root (λ n whole longer form. let length_is : length (stated_root n) ≡ 0 = ap length (sym form) in absurd (omega (arith, length_is)));
  lowest = λ p broken. omega arith;
}
none_breaks shape (page ∷ pages) none = absurd (omega (arith, none))
