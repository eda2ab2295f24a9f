-- The worked database keeps rules 11 and 12: its record indexes, row numbers and unique keys.
use Rattle.std.specs.Prelude.{◌≡◌, ◌≢◌, ℕ, false, [], ◌∷◌, ◌++◌, map, Contains, pos, negsuc}
use Rattle.std.specs.List.{AllZip, list_any}
use Rattle.std.specs.Str.{bytes_eq}
use Rattle.mdc_words.specs.ByteOrder.{Entry}
use Rattle.mdc_ast.specs.declared.definition.IndexDef.{IndexDef}
use Rattle.std.proofs.Common.{refl, arith, sym, subst, inl, inr}
use Rattle.mdc_values.specs.declared.value.Value.TheVariants.{Int, Day}
use Rattle.mdc_ast.specs.ValidDatabase.{AreSameAtParts}
use Rattle.mdc_ast.specs.declared.row.Row.{Row}
use Rattle.entry_tree.specs.Forest.{Forest, leaf_entries}
use Rattle.entry_tree.specs.Forest.Forest.{Leaf, Nil}
use Rattle.mdc_sound.specs.BlockRules.{AreRowNumbersSound, AreSoundIndexes, AreTableIndexesSound, IsSoundIndex, IsUniqueSound, entry_of_row}
use Rattle.mdc_sound.specs.EmptyDatabase.{few_extents}
use Rattle.mdc_sound.specs.SoundDatabase.{AreKeysSound}
use Rattle.mdc_sound.specs.TableRows.{PlacedRow}
use Rattle.sound_instances.proofs.InstancesLemmas.{each_pair, not_among}
use Rattle.sound_instances.proofs.WorkedRowsLemmas.{rows_are, sales_rows}
use Rattle.sound_instances.specs.WorkedDatabase.{HasLeftBehind, price_tree, view_sales, worked_view}
use Rattle.sound_instances.specs.WorkedEntries.{in_slot, key_day_2023, key_nine, key_os, sales_days}
use Rattle.sound_instances.specs.WorkedPages.{worked_pages}
use Rattle.sound_instances.specs.WorkedTables.{def_sales, index_by_day, index_by_price, row_eight, row_four, row_one, row_seven, row_two}

-- ---- rule 11

-- the entries with `inr` name Pending block 6
prices_of_sales : IsSoundIndex def_sales sales_rows (6 ∷ []) index_by_price price_tree
prices_of_sales = record {
  has = ((2, omega arith, refl), ((6, omega arith, refl), ((4, omega arith, refl), ((5, omega arith, refl), ((0, omega arith, refl), tt)))));
  only = (
    inl (4, omega arith, refl),
    (
      inr (0, omega arith, refl),
      (
        inl (0, omega arith, refl),
        (inr (0, omega arith, refl), (inl (2, omega arith, refl), (inl (3, omega arith, refl), (inl (1, omega arith, refl), tt)))),
      ),
    ),
  );
}

days_of_sales : IsSoundIndex def_sales sales_rows (6 ∷ []) index_by_day (Leaf 36 sales_days Nil)
days_of_sales = record {
  has = ((0, omega arith, refl), ((4, omega arith, refl), ((3, omega arith, refl), ((6, omega arith, refl), ((5, omega arith, refl), tt)))));
  only = (
    inl (0, omega arith, refl),
    (
      inr (0, omega arith, refl),
      (
        inr (0, omega arith, refl),
        (inl (2, omega arith, refl), (inl (1, omega arith, refl), (inl (4, omega arith, refl), (inl (3, omega arith, refl), tt)))),
      ),
    ),
  );
}

record_indexes_of_sales : AreTableIndexesSound few_extents worked_pages view_sales
record_indexes_of_sales = (
  subst (λ rows. IsSoundIndex def_sales rows (6 ∷ []) index_by_price price_tree) (sym rows_are) prices_of_sales,
  (subst (λ rows. IsSoundIndex def_sales rows (6 ∷ []) index_by_day (Leaf 36 sales_days Nil)) (sym rows_are) days_of_sales, tt),
)

pub record_indexes_are : AreSoundIndexes few_extents worked_pages worked_view
record_indexes_are = (record_indexes_of_sales, (tt, tt))

-- an entry of a list that isn't that of a row was left behind
left_behind : (index : IndexDef) (tree : Forest) (entry : Entry) → Contains (leaf_entries tree) entry → list_any (bytes_eq entry) (map (entry_of_row def_sales index) sales_rows) ≡ false
    → HasLeftBehind few_extents worked_pages view_sales index tree
left_behind index tree entry there none = (
  entry,
  record {
    there = there;
    of_no_row = subst (λ rows. Contains (map (entry_of_row def_sales index) rows) entry → ⊥) (sym rows_are) (not_among (map (entry_of_row def_sales index) sales_rows) entry none);
  },
)

pub have_left_behind : AllZip (HasLeftBehind few_extents worked_pages view_sales) def_sales.indexes view_sales.indexes
have_left_behind = (
  left_behind index_by_price price_tree (key_nine ++ key_os ++ in_slot 6 0) (3, omega arith, refl) refl,
  (left_behind index_by_day (Leaf 36 sales_days Nil) (key_day_2023 ++ key_nine ++ in_slot 6 0) (1, omega arith, refl) refl, tt),
)

-- ---- rule 12

numbers_of_sales : AreRowNumbersSound def_sales sales_rows
numbers_of_sales = record {
  below_next = (omega arith, (omega arith, (omega arith, (omega arith, (omega arith, tt)))));
  differ = each_pair
      (λ (a b : PlacedRow). a.row.number ≢ b.row.number)
      sales_rows (
        ((λ e. omega (arith, e)), ((λ e. omega (arith, e)), ((λ e. omega (arith, e)), ((λ e. omega (arith, e)), tt)))),
        (
          ((λ e. omega (arith, e)), ((λ e. omega (arith, e)), ((λ e. omega (arith, e)), tt))),
          (((λ e. omega (arith, e)), ((λ e. omega (arith, e)), tt)), (((λ e. omega (arith, e)), tt), (tt, tt))),
        ),
      );
}

-- the keys of two rows differ
abbrev pub HaveOtherKeys : Row → Row → Type 0
HaveOtherKeys a b = AreSameAtParts index_by_day.parts a.values b.values → ⊥

-- two rows in the other order
turned : (a b : Row) → HaveOtherKeys a b → HaveOtherKeys b a
turned a b differ same = differ (sym same.0, (sym same.1.0, tt))

-- rows 1 and 4 have one day, and other prices
pub one_four : HaveOtherKeys row_one row_four
one_four same = let e : Int (pos 9) ≡ Int (negsuc 2) = same.1.0 in absurd (cc)

-- rows 1 and 7 have one price, and other days
pub one_seven : HaveOtherKeys row_one row_seven
one_seven same = let e : Day 20240731 ≡ Day 20230709 = same.0 in let n : ◌≡◌ {A = ℕ} 20240731 20230709 = cc in absurd (omega (arith, n))

pub four_seven : HaveOtherKeys row_four row_seven
four_seven same = let e : Day 20240731 ≡ Day 20230709 = same.0 in let n : ◌≡◌ {A = ℕ} 20240731 20230709 = cc in absurd (omega (arith, n))

-- rows 2 and 8 have no day, and row 2 no price
pub two_eight : HaveOtherKeys row_two row_eight
two_eight same = let e = same.1.0 in absurd (cc)

-- each other row has a day
pub one_eight : HaveOtherKeys row_one row_eight
one_eight same = let e = same.0 in absurd (cc)

pub four_eight : HaveOtherKeys row_four row_eight
four_eight same = let e = same.0 in absurd (cc)

pub seven_eight : HaveOtherKeys row_seven row_eight
seven_eight same = let e = same.0 in absurd (cc)

pub one_two : HaveOtherKeys row_one row_two
one_two same = let e = same.0 in absurd (cc)

pub two_four : HaveOtherKeys row_two row_four
two_four same = let e = same.0 in absurd (cc)

pub two_seven : HaveOtherKeys row_two row_seven
two_seven same = let e = same.0 in absurd (cc)

keys_of_sales : IsUniqueSound sales_rows index_by_day
keys_of_sales unique = each_pair
    (λ (a b : PlacedRow). HaveOtherKeys a.row b.row)
    sales_rows (
      (turned row_four row_seven four_seven, (turned row_one row_seven one_seven, (seven_eight, (turned row_two row_seven two_seven, tt)))),
      (
        (turned row_one row_four one_four, (four_eight, (turned row_two row_four two_four, tt))),
        ((one_eight, (one_two, tt)), ((turned row_two row_eight two_eight, tt), (tt, tt))),
      ),
    )

prices_may_be_equal : IsUniqueSound sales_rows index_by_price
prices_may_be_equal unique = absurd (cc)

pub keys_are : AreKeysSound few_extents worked_pages worked_view
keys_are = record {
  numbers = (subst (AreRowNumbersSound def_sales) (sym rows_are) numbers_of_sales, (record { below_next = tt; differ = each_pair (λ (a b : PlacedRow). a.row.number ≢ b.row.number) [] tt }, tt));
  unique = (
    (subst (λ rows. IsUniqueSound rows index_by_price) (sym rows_are) prices_may_be_equal, (subst (λ rows. IsUniqueSound rows index_by_day) (sym rows_are) keys_of_sales, tt)),
    (tt, tt),
  );
}
