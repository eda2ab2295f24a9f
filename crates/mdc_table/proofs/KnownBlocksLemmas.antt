-- What a call on a row touches whose block may be known to be Used.
use Rattle.std.proofs.Common.{◌≡◌, ℕ, List, ap, ◌∙◌, inl, inr}
use Rattle.std.specs.Option.{option_eq}
use Rattle.std.specs.Prelude.{Option, None, Some, true}
use Rattle.std.proofs.Math.Dec.{eqb}
use Rattle.std.proofs.lemmas.Bool.{eqb-true}
use Rattle.mdc_ast.specs.declared.definition.TableDef.{TableDef}
use Rattle.mdc_values.specs.declared.rid.Rid.{Rid}
use Rattle.store_api.specs.RunsOverPages.{RunsOverPages}
use Rattle.store_api.specs.declared.fault.Damage.{Damage}
use Rattle.store_api.specs.declared.fault.StoreFault.{StoreFault}
use Rattle.store_api.specs.declared.pages.Pages.{Ghosts}
use Rattle.store_api.specs.declared.shape.Shape.{Shape}
use Rattle.store_api.proofs.RunsOverPagesLemmas.{runs_wider}
use Rattle.extent_map.specs.Owners.{owner_of}
use Rattle.extent_map.specs.declared.kind.Kind.{Kind}
use Rattle.mdc_sound.specs.Placing.Spot.{OtherBlock}
use Rattle.mdc_sound.specs.StandingTable.{HasRowAt, IsPageOfBlock, IsTableOrMapPage, StandsTable, TableForests, pages_of}
use Rattle.mdc_sound.proofs.BlockRulesLemmas.{named_owned}
use Rattle.mdc_sound.proofs.TableSpotsLemmas.{used_of_spot}
use Rattle.mdc_table.specs.KnownBlocks.{IsExpectedPlace, IsUsedIfKnown}
use Rattle.mdc_table.specs.TableReading.{HasUsedBlock}

-- a block that was found to be the known one is it
pub is_known : (known : Option ℕ) (block : ℕ) → option_eq eqb known (Some block) ≡ true → known ≡ Some block
is_known None block same = absurd (cc)
is_known (Some other) block same = ap Some (eqb-true other block same)

module _ {S : Type 0} {g : Ghosts S} (shape : Shape) (s : S) (def : TableDef) where
  -- the block of a row is a Used one
  pub used_with_row : (rid : Rid) (owners : List Kind) (forests : TableForests) → StandsTable g shape s def owners forests → HasRowAt g shape s def rid owners forests → HasUsedBlock rid.block owners forests
  used_with_row rid owners forests st has = record { used = (used_of_spot shape (pages_of g s) def owners forests.map st.map rid.block has.slots (has.lies.block OtherBlock)).0 }

  module _ {Breaks : Damage → Type 0} {new : S} {fault : Option StoreFault} (known : Option ℕ) (block : ℕ) where
    -- it isn't asked of the block map
    pub runs_of_known : known ≡ Some block → RunsOverPages g (IsPageOfBlock shape block) (IsPageOfBlock shape block) Breaks s new fault
        → RunsOverPages g (IsExpectedPlace g shape s def (IsUsedIfKnown known block)) (IsExpectedPlace g shape s def (IsUsedIfKnown known block)) Breaks s new fault
    runs_of_known is run = runs_wider run (λ p there of. wider p of) wider (λ damage b. b)
      where
        wider : (p : ℕ) → IsPageOfBlock shape block p → IsExpectedPlace g shape s def (IsUsedIfKnown known block) p
        wider p of owners forests st used = inr (inl (record { page = of.0; block = ap (owner_of owners) of.1 ∙ (named_owned shape owners def forests.map 1 block st.map (used is).used).1 }))

    -- or it is
    pub runs_of_asked : RunsOverPages g (IsTableOrMapPage g shape s def) (IsTableOrMapPage g shape s def) Breaks s new fault
        → RunsOverPages g (IsExpectedPlace g shape s def (IsUsedIfKnown known block)) (IsExpectedPlace g shape s def (IsUsedIfKnown known block)) Breaks s new fault
    runs_of_asked run = runs_wider run (λ p there is owners forests st used. is owners forests st) (λ p is owners forests st used. is owners forests st) (λ damage b. b)
