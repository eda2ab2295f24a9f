-- The rows of blocks read one block after the other.
use Rattle.std.proofs.Common.{◌≡◌, ◌≢◌, ◌<◌, ◌+◌, ◌∙◌, ◌++◌, ℕ, List, [], ◌∷◌, None, get_or, length, map, take, refl, sym, ap, subst, arith, append-nil}
use Rattle.std.specs.Prelude.{AllPairs, Contains, Option}
use Rattle.std.proofs.lemmas.Grind.{flat_map-append}
use Rattle.std.proofs.lemmas.List.{map-append, take_more}
use Rattle.std.proofs.lemmas.List.Elements.{All-append}
use Rattle.mdc_ast.specs.declared.definition.TableDef.{TableDef}
use Rattle.mdc_values.specs.Rising.{IsLower, IsRising}
use Rattle.store_api.specs.Fetching.{BringsOnce}
use Rattle.store_api.specs.Frame.{NoPage}
use Rattle.store_api.specs.RunsOverPages.{RunsOverPages}
use Rattle.store_api.specs.declared.fault.StoreFault.{StoreFault}
use Rattle.store_api.specs.declared.pages.Pages.{Ghosts}
use Rattle.store_api.specs.declared.shape.Shape.{Shape}
use Rattle.store_api.proofs.FetchingLemmas.{once_none, once_then}
use Rattle.store_api.proofs.RunsOverPagesLemmas.{runs_as, runs_none}
use Rattle.extent_map.specs.declared.kind.Kind.{Kind}
use Rattle.block_map.specs.MapLines.{used_blocks}
use Rattle.block_rows.specs.HeldRows.{HasReadValues, HaveReadValues, placed_row}
use Rattle.block_rows.specs.declared.hit.Hit.{Hit}
use Rattle.table_trees.specs.ToldPages.{PageList}
use Rattle.mdc_sound.specs.StandingTable.{BreaksExpected, IsPageOfBlock, StandsTable, TableForests, pages_of}
use Rattle.mdc_sound.specs.TableRows.{rows_in_block}
use Rattle.mdc_table.specs.TableReading.{HasUsedBlock}
use Rattle.rollout.specs.LeavingRows.{AreUsedBlocks, IsPageOfBlocks, rows_in_blocks}
use Rattle.rollout.proofs.ChosenBlocksLemmas.{in_back, in_front}
use Rattle.rollout.proofs.LookedTableLemmas.{stands_looked}
use Rattle.rollout.proofs.ReclaimingLoopLemmas.{rising_at}
use Rattle.rollout.proofs.TakenCellsLemmas.{any_default, in_take}

-- numbers that rise differ
pub rising_differ : (blocks : List ℕ) → IsRising IsLower blocks → AllPairs (λ a b. a ≢ b) blocks
rising_differ blocks rise i j d low high same = omega (arith, rising_at blocks rise i j d low high, same)

-- The rows of the first blocks were read, and no call failed.
pub record IsReading {S : Type 0} (g : Ghosts S) (shape : Shape) (old now : S) (def : TableDef) (all front : List ℕ) (hits : List Hit) : Type 0 where
  pub same : (g.state now).work ≡ (g.state old).work
  pub rows : (owners : List Kind) (forests : TableForests) → StandsTable g shape old def owners forests → AreUsedBlocks all owners forests → map placed_row hits ≡ rows_in_blocks shape (pages_of g old) def front
  pub keyed : HaveReadValues def.columns hits
  pub once : BringsOnce g (IsPageOfBlocks shape front) old now
  pub runs : RunsOverPages g NoPage (IsPageOfBlocks shape all) (BreaksExpected g shape old def (AreUsedBlocks all)) old now None

module _ {S : Type 0} (g : Ghosts S) (shape : Shape) (def : TableDef) (all : List ℕ) where
  pub reading_none : (s : S) (hits : List Hit) → hits ≡ [] → IsReading g shape s s def all [] hits
  reading_none s hits none = record {
    same = refl;
    rows = λ owners forests st used. ap (map placed_row) none;
    keyed = subst (HaveReadValues def.columns) (sym none) (λ k d low. absurd (omega (arith, low)));
    once = once_none;
    runs = runs_none;
  }

  module _ (old now : S) (n block : ℕ) (low : n < length all) (is : block ≡ get_or all n block) (hits : List Hit) (so_far : IsReading g shape old now def all (take n all) hits) where
    there : Contains all block
    there = (n, low, sym is)

    -- a block that is read
    pub reading_runs : (new : S) (fault : Option StoreFault) → RunsOverPages g NoPage (IsPageOfBlock shape block) (BreaksExpected g shape now def (HasUsedBlock block)) now new fault
        → RunsOverPages g NoPage (IsPageOfBlocks shape all) (BreaksExpected g shape old def (AreUsedBlocks all)) old new fault
    reading_runs new fault run = runs_as so_far.runs run (λ p at none. none) (λ p at none. none) (λ p of. of) (λ p of. (block, there, of))
        (λ damage breaks. record {
          names = breaks.names;
          broken = λ owners forests st used. breaks.broken owners forests (stands_looked g shape old now def so_far.runs.works.steady.is_told so_far.same owners forests st) (record { used = used block there });
        })

    -- it was read
    pub reading_next : IsRising IsLower all → (new : S) (more together : List Hit) → together ≡ hits ++ more → HaveReadValues def.columns more
        → ((owners : List Kind) (forests : TableForests) → StandsTable g shape now def owners forests → Contains (used_blocks forests.map) block → map placed_row more ≡ rows_in_block shape (pages_of g now) def block)
        → (g.state new).work ≡ (g.state now).work → BringsOnce g (IsPageOfBlock shape block) now new
        → RunsOverPages g NoPage (IsPageOfBlock shape block) (BreaksExpected g shape now def (HasUsedBlock block)) now new None → IsReading g shape old new def all (take (n + 1) all) together
    reading_next rise new more together both keyed rows same once run = record {
      same = same ∙ so_far.same;
      rows = λ owners forests st used.
          let told = so_far.runs.works.steady.is_told in
          let mine = rows owners forests (stands_looked g shape old now def told so_far.same owners forests st) (used block there) ∙ ap (λ (pages : PageList). rows_in_block shape pages def block) so_far.same in
          ap (map placed_row) both ∙ map-append placed_row hits more ∙ ap (λ l. l ++ map placed_row more) (so_far.rows owners forests st used) ∙ ap (λ l. rows_in_blocks shape (pages_of g old) def (take n all) ++ l) (mine ∙ sym (append-nil (rows_in_block shape (pages_of g old) def block)))
          ∙ sym (ap (rows_in_blocks shape (pages_of g old) def) front ∙ flat_map-append (rows_in_block shape (pages_of g old) def) (take n all) (block ∷ []));
      keyed = subst (HaveReadValues def.columns) (sym both) (All-append (λ (hit : Hit). HasReadValues def.columns hit.row) hits more so_far.keyed keyed);
      once = once_then so_far.once once
          (λ p early late.
          let at = in_take all n early.0 early.1 in
          rising_differ all rise at.0 n block at.1 low (any at.0 early.0 at.2 at.3 ∙ (sym early.2.1 ∙ late.1) ∙ is))
          (λ p early. (early.0, subst (λ l. Contains l early.0) (sym front) (in_front (take n all) (block ∷ []) early.0 early.1), early.2))
          (λ p late. (block, subst (λ l. Contains l block) (sym front) (in_back (take n all) (block ∷ []) block (0, omega arith, refl)), late));
      runs = reading_runs new None run;
    }
      where
        front : take (n + 1) all ≡ take n all ++ block ∷ []
        front = take_more all n block low ∙ ap (λ b. take n all ++ b ∷ []) (sym is)

        any : (k one : ℕ) → k < length all → get_or all k one ≡ one → get_or all k block ≡ one
        any k one within at = any_default all k block one within ∙ at
