-- A pass at its beginning and at its end, and record indexes once its blocks no longer wait.
use Rattle.std.proofs.Common.{◌≡◌, ◌∙◌, ℕ, suc, List, [], ◌∷◌, false, length, refl, arith, sym, inl, inr}
use Rattle.std.specs.Prelude.{◌⊎◌, Contains, None, Some, map, slice_get}
use Rattle.std.specs.List.{AllByRecursion}
use Rattle.std.proofs.lemmas.Bool.{false≢true}
use Rattle.mdc_words.specs.ByteOrder.{Entry}
use Rattle.mdc_ast.specs.declared.definition.IndexDef.{IndexDef}
use Rattle.mdc_ast.specs.declared.definition.TableDef.{TableDef}
use Rattle.key_codec.specs.Keys.{width_of_parts}
use Rattle.node_page.specs.Entries.{names_block}
use Rattle.entry_tree.specs.Forest.{Forest, leaf_entries}
use Rattle.mdc_sound.specs.BlockRules.{IsSoundIndex, block_in_entry, entry_of_row}
use Rattle.mdc_sound.specs.TableRows.{PlacedRow}
use Rattle.mdc_table.proofs.UsedSlotsLemmas.{is_listed}
use Rattle.cleaner.specs.Passes.{IsDone, NamesNoneUnder, key_width_at}
use Rattle.cleaner.specs.declared.pass.Pass.{Pass}
use Rattle.cleaner.proofs.PassesLemmas.{there_low}

-- ---- the pass

pub begun : (def : TableDef) (pass : Pass) (trees : List Forest) → pass.index ≡ 0 → pass.bound ≡ None → IsDone def pass trees
begun def pass trees first fresh = record {
  earlier = λ n t low at. absurd (omega (arith, low, first));
  here = λ t bound at is. let wrong : None ≡ Some bound = sym fresh ∙ is in absurd cc;
}

pub ended : (def : TableDef) (pass : Pass) (trees : List Forest) → pass.index ≡ length trees → IsDone def pass trees → (n : ℕ) (t : Forest) → slice_get trees n ≡ Some t → NamesNoneUnder (key_width_at def n) pass.blocks None t
ended def pass trees last done n t at = done.earlier n t (omega (arith, last, there_low trees n t at)) at

-- ---- its blocks

each_in : {X : Type 0} (P Q : X → Type 0) (xs : List X) → ((x : X) → Contains xs x → P x → Q x) → AllByRecursion P xs → AllByRecursion Q xs
each_in P Q [] on all = tt
each_in P Q (x ∷ xs) on all = (on x (0, omega arith, refl) all.0, each_in P Q xs (λ y there. on y (suc there.0, omega (arith, there.1), there.2)) all.1)

-- what names none of the blocks names another one that waits, if any
still_waits : (def : TableDef) (rows : List PlacedRow) (pending waiting blocks : List ℕ) (which : IndexDef) (y : Entry) → names_block blocks (width_of_parts def.columns which.parts) y ≡ false
    → ((block : ℕ) → Contains pending block → Contains blocks block ⊎ Contains waiting block) → Contains (map (entry_of_row def which) rows) y ⊎ Contains pending (block_in_entry def which.parts y)
    → Contains (map (entry_of_row def which) rows) y ⊎ Contains waiting (block_in_entry def which.parts y)
still_waits def rows pending waiting blocks which y none splits (inl row) = inl row
still_waits def rows pending waiting blocks which y none splits (inr waits) = elim (splits (block_in_entry def which.parts y) waits) [
  | inl freed ↦ absurd (false≢true (sym none ∙ is_listed blocks (block_in_entry def which.parts y) freed))
  | inr still ↦ inr still
]

pub freed : (def : TableDef) (rows : List PlacedRow) (pending waiting blocks : List ℕ) (which : IndexDef) (t : Forest) → NamesNoneUnder (width_of_parts def.columns which.parts) blocks None t
    → ((block : ℕ) → Contains pending block → Contains blocks block ⊎ Contains waiting block) → IsSoundIndex def rows pending which t → IsSoundIndex def rows waiting which t
freed def rows pending waiting blocks which t none splits sound = record {
  has = sound.has;
  only = each_in (λ y. Contains (map (entry_of_row def which) rows) y ⊎ Contains pending (block_in_entry def which.parts y)) (λ y. Contains (map (entry_of_row def which) rows) y ⊎ Contains waiting (block_in_entry def which.parts y)) (leaf_entries t)
      (λ y there is. still_waits def rows pending waiting blocks which y (none y there refl) splits is) sound.only;
}
