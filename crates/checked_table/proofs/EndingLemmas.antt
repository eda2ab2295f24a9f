-- How a call on the rows of a table ends that leaves the pages as they were: one that reads, and a change that met a fault.
use Rattle.std.proofs.Common.{◌≡◌, ◌<◌, ◌∙◌, ℕ, List, Err, None, Option, Some, ap, subst, sym, unwrap_or}
use Rattle.mdc_words.specs.ByteOrder.{Entry}
use Rattle.mdc_words.specs.Faults.{CountsFault}
use Rattle.mdc_words.proofs.FaultsLemmas.{counts_fault_then}
use Rattle.mdc_values.specs.declared.rid.Rid.{Rid}
use Rattle.mdc_ast.specs.declared.definition.TableDef.{TableDef}
use Rattle.mdc_ast.specs.declared.row.Row.{Row}
use Rattle.store_api.specs.RunsOverPages.{RunsOverPages}
use Rattle.store_api.specs.Works.{Steady}
use Rattle.store_api.specs.declared.fault.Damage.{Damage}
use Rattle.store_api.specs.declared.fault.StoreFault.{StoreFault}
use Rattle.store_api.specs.declared.fault.StoreFault.TheVariants.{Damaged, Device}
use Rattle.store_api.specs.declared.pages.Pages.{Ghosts}
use Rattle.store_api.specs.declared.shape.Shape.{Shape}
use Rattle.store_api.proofs.CausesLemmas.{cause_still}
use Rattle.store_api.proofs.FrameLemmas.{touches_same}
use Rattle.store_api.proofs.WorksLemmas.{steady_then}
use Rattle.extent_map.specs.Damages.{IfFull}
use Rattle.extent_map.specs.Owners.{AreRightNotes}
use Rattle.extent_map.specs.declared.fault.SpaceFault.{SpaceFault}
use Rattle.extent_map.specs.declared.fault.SpaceFault.TheVariants.{Full}
use Rattle.extent_map.specs.declared.kind.Kind.{Kind}
use Rattle.extent_map.specs.declared.space_notes.SpaceNotes.{SpaceNotes}
use Rattle.mdc_ast.specs.TableLimits.{IsTableDef}
use Rattle.table_trees.specs.ToldPages.{PageList}
use Rattle.mdc_sound.specs.BlockRules.{AreTableIndexesSound}
use Rattle.mdc_sound.specs.StandingTable.{BreaksExpected, BreaksTable, IsReadyTable, RoomNote, TableForests, view_of}
use Rattle.table_blocks.specs.BlockSteps.{HasThisRow}
use Rattle.free_space.specs.RoomNotes.{IsForgotten}
use Rattle.free_space.specs.declared.rooms.Rooms.{Rooms}
use Rattle.mdc_table.specs.TableReading.{HasUsedBlock}
use Rattle.mdc_table.specs.WhereStanding.{WhereStands}
use Rattle.cell_change.specs.ExpectedTables.{HasSoundIndexes, WithSoundIndexes}
use Rattle.checked_table.specs.ExactDamage.{AnswersExactly, CountsAnswer, HasRowIfStanding, HasUsedIfStanding, JudgesFault}
use Rattle.checked_table.specs.LeftPages.{LeavesPages, ReadsExactly}
use Rattle.checked_table.specs.WholeChanges.{BeginsChange, ForgetsNotes, HasSamePages, IsWholeChange, UndoesChange}
use Rattle.checked_table.proofs.ExactDamageLemmas.{answers_exactly, answers_none, full_handed_on}
use Rattle.checked_table.proofs.SamePagesLemmas.{if_stood, ready_there, row_there, stands_there}

-- ---- a call that reads

-- what is said of the damage, said only where more is so
pub exact_where : {S Where Exact : Type 0} {g : Ghosts S} {old new : S} {answered : Option StoreFault} → LeavesPages g Exact old new answered → LeavesPages g (Where → Exact) old new answered
exact_where left = record { pages = left.pages; unmarked = left.unmarked; steady = left.steady; device = left.device; exact = λ is. left.exact }

module _ {S : Type 0} {g : Ghosts S} {Mine Kind : ℕ → Type 0} {old mid : S} where
  -- it met no fault
  pub read_well : {Breaks : Damage → Type 0} (shape : Shape) (def : TableDef) → RunsOverPages g Mine Kind Breaks old mid None → (g.state mid).work ≡ (g.state old).work → (g.state old).marked ≡ None
      → ReadsExactly g shape def old mid None
  read_well shape def runs same unmarked = record {
    pages = record { told = runs.works.steady.is_told; same = same };
    unmarked = runs.works.marked ∙ unmarked;
    steady = runs.works.steady;
    device = runs.cause.device;
    exact = answers_none g shape def old;
  }

  module _ {new : S} {met answered : Option StoreFault} where
    read_back : {Exact : Type 0} {Breaks : Damage → Type 0} → RunsOverPages g Mine Kind Breaks old mid met → (g.state mid).work ≡ (g.state old).work → (g.state new).work ≡ (g.state mid).work
        → (g.state new).marked ≡ None → Steady g mid new → CountsAnswer g mid new met answered → (HasSamePages g old new → Exact) → LeavesPages g Exact old new answered
    read_back runs same work unmarked end counts exact =
        let steady = steady_then runs.works.steady end in
        let pages : HasSamePages g old new = record { told = steady.is_told; same = work ∙ same } in
        record { pages = pages; unmarked = unmarked; steady = steady; device = counts (g.disk_faults old) runs.cause.device; exact = exact pages }

    -- it met a fault, which was judged
    pub end_read : {shape : Shape} {def : TableDef} → RunsOverPages g Mine Kind (BreaksTable g shape old def) old mid met → (g.state mid).work ≡ (g.state old).work → (g.state new).work ≡ (g.state mid).work
        → (g.state new).marked ≡ None → Steady g mid new → CountsAnswer g mid new met answered → JudgesFault g shape def new met answered → IsTableDef def.number def → def.number < 16
        → ReadsExactly g shape def old new answered
    end_read {shape} {def} runs same work unmarked end counts judges defined low = read_back runs same work unmarked end counts
        (λ pages. answers_exactly g shape old new def met answered defined low pages (λ damage is owners forests st sound. (runs.cause.damaged damage is).broken owners forests st) judges)

    -- the same of a block that it expects to be a Used one
    pub end_block_read : {shape : Shape} {def : TableDef} {block : ℕ} → RunsOverPages g Mine Kind (BreaksExpected g shape old def (HasUsedBlock block)) old mid met
        → (g.state mid).work ≡ (g.state old).work → (g.state new).work ≡ (g.state mid).work → (g.state new).marked ≡ None → Steady g mid new → CountsAnswer g mid new met answered
        → JudgesFault g shape def new met answered
        → IsTableDef def.number def → def.number < 16 → LeavesPages g (HasUsedIfStanding g shape old def block → AnswersExactly g shape def old answered) old new answered
    end_block_read {shape} {def} runs same work unmarked end counts judges defined low = read_back runs same work unmarked end counts
        (λ pages has. answers_exactly g shape old new def met answered defined low pages
        (λ damage is owners forests st sound. (runs.cause.damaged damage is).broken owners forests st (has owners forests st)) judges)

-- ---- a change that goes back

-- and what is noted of free space and of rooms was forgotten
pub record GoesBack {S : Type 0} (g : Ghosts S) (Exact : Type 0) (noted : SpaceNotes) (rooms : Rooms) (old new : S) (answered : Option StoreFault) : Type 0 where
  pub left : LeavesPages g Exact old new answered
  pub notes : (shape : Shape) (owners : List Kind) → AreRightNotes shape noted owners
  pub forgotten : IsForgotten rooms

module _ {S : Type 0} {g : Ghosts S} {Mine : ℕ → Type 0} {old marked mid new : S} {noted : SpaceNotes} {rooms : Rooms} {answered : Option StoreFault} where
  went_back : {Exact : Type 0} {Breaks : Damage → Type 0} {met : Option StoreFault} → BeginsChange g old marked → RunsOverPages g Mine Mine Breaks marked mid met → UndoesChange g mid new
      → ForgetsNotes noted rooms → CountsFault (answered ≡ Some Device) (g.disk_faults old) (g.disk_faults new) → (HasSamePages g old new → Exact)
      → GoesBack g Exact noted rooms old new answered
  went_back begins runs undoes forgets faults exact =
      let steady = steady_then (steady_then begins.steady runs.works.steady) undoes.steady in
      let pages : HasSamePages g old new = record { told = steady.is_told; same = undoes.back ∙ ap (λ o. unwrap_or o (g.state mid).work) (runs.works.marked ∙ begins.marked) } in
      record {
        left = record { pages = pages; unmarked = undoes.unmarked; steady = steady; device = faults; exact = exact pages };
        notes = forgets.notes;
        forgotten = forgets.forgotten;
      }

  -- it was made, and couldn't be kept
  pub end_unkept : {Breaks : Damage → Type 0} (shape : Shape) (def : TableDef) → BeginsChange g old marked → RunsOverPages g Mine Mine Breaks marked mid None → UndoesChange g mid new
      → CountsFault (answered ≡ Some Device) (g.disk_faults mid) (g.disk_faults new) → ((damage : Damage) → answered ≡ Some (Damaged damage) → ⊥) → ForgetsNotes noted rooms
      → GoesBack g (AnswersExactly g shape def old answered) noted rooms old new answered
  end_unkept shape def begins runs undoes faults damaged forgets =
      went_back begins runs undoes forgets (counts_fault_then (cause_still runs.cause ∙ begins.disk_faults) faults) (λ pages damage is. absurd (damaged damage is))

  -- it met a fault, which was judged
  pub end_change : {shape : Shape} {def : TableDef} {met : Option StoreFault} → BeginsChange g old marked → RunsOverPages g Mine Mine (BreaksTable g shape marked def) marked mid met
      → UndoesChange g mid new → CountsAnswer g mid new met answered → ForgetsNotes noted rooms → JudgesFault g shape def new met answered → IsTableDef def.number def → def.number < 16
      → GoesBack g (AnswersExactly g shape def old answered) noted rooms old new answered
  end_change {shape} {def} {met} begins runs undoes counts forgets judges defined low =
      went_back begins runs undoes forgets (counts (g.disk_faults old) (counts_fault_then begins.disk_faults runs.cause.device))
      (λ pages. answers_exactly g shape old new def met answered defined low pages (λ damage is owners forests st sound. if_stood begins.pages (runs.cause.damaged damage is).broken owners forests st) judges)

  -- the same of a row that it expects in its place
  pub end_row_change : {shape : Shape} {def : TableDef} {rid : Rid} {row : Row} {met : Option StoreFault} → BeginsChange g old marked
      → RunsOverPages g Mine Mine (BreaksExpected g shape marked def (HasThisRow g shape marked def rid row)) marked mid met → UndoesChange g mid new
      → CountsAnswer g mid new met answered → ForgetsNotes noted rooms → JudgesFault g shape def new met answered → IsTableDef def.number def → def.number < 16
      → GoesBack g (HasRowIfStanding g shape old def rid row → AnswersExactly g shape def old answered) noted rooms old new answered
  end_row_change {shape} {def} {rid} {row} {met} begins runs undoes counts forgets judges defined low =
      went_back begins runs undoes forgets (counts (g.disk_faults old) (counts_fault_then begins.disk_faults runs.cause.device))
      (λ pages has. answers_exactly g shape old new def met answered defined low pages
      (λ damage is owners forests st sound. (runs.cause.damaged damage is).broken owners forests (stands_there begins.pages st) (row_there begins.pages (has owners forests st))) judges)

  -- the same of sound record indexes that it expects
  pub end_indexed_change : {shape : Shape} {def : TableDef} {met : Option StoreFault} → BeginsChange g old marked → RunsOverPages g Mine Mine (BreaksExpected g shape marked def (HasSoundIndexes g shape marked def)) marked mid met
      → UndoesChange g mid new → CountsAnswer g mid new met answered → ForgetsNotes noted rooms → JudgesFault g shape def new met answered → IsTableDef def.number def → def.number < 16
      → GoesBack g (AnswersExactly g shape def old answered) noted rooms old new answered
  end_indexed_change {shape} {def} {met} begins runs undoes counts forgets judges defined low =
      went_back begins runs undoes forgets (counts (g.disk_faults old) (counts_fault_then begins.disk_faults runs.cause.device))
      (λ pages. answers_exactly g shape old new def met answered defined low pages
      (λ damage is owners forests st sound.
      (runs.cause.damaged damage is).broken owners forests (stands_there begins.pages st) (subst (λ (work : PageList). AreTableIndexesSound shape work (view_of def forests)) (sym begins.pages.same) sound)) judges)

  -- and of what it expects of a table besides
  pub end_expected_change : {shape : Shape} {def : TableDef} (Expected Marked : List Kind → TableForests → Type 0) {met : Option StoreFault} → ((owners : List Kind) (forests : TableForests) → Expected owners forests → Marked owners forests)
      → BeginsChange g old marked → RunsOverPages g Mine Mine (BreaksExpected g shape marked def (WithSoundIndexes g shape marked def Marked)) marked mid met → UndoesChange g mid new
      → CountsAnswer g mid new met answered → ForgetsNotes noted rooms → JudgesFault g shape def new met answered → IsTableDef def.number def → def.number < 16
      → GoesBack g (WhereStands g shape old def Expected → AnswersExactly g shape def old answered) noted rooms old new answered
  end_expected_change {shape} {def} Expected Marked {met} there begins runs undoes counts forgets judges defined low =
      went_back begins runs undoes forgets (counts (g.disk_faults old) (counts_fault_then begins.disk_faults runs.cause.device))
      (λ pages is_so. answers_exactly g shape old new def met answered defined low pages
      (λ damage is owners forests st sound.
      (runs.cause.damaged damage is).broken owners forests (stands_there begins.pages st)
      (there owners forests (is_so owners forests st), subst (λ (work : PageList). AreTableIndexesSound shape work (view_of def forests)) (sym begins.pages.same) sound)) judges)

-- so it is whole
pub whole_back : {S X E : Type 0} {g : Ghosts S} {Exact : Type 0} {Mine : ℕ → Type 0} {noted : SpaceNotes} {rooms : Rooms} {old new : S} {e : E} {answered : Option StoreFault}
    → GoesBack g Exact noted rooms old new answered → IsWholeChange {X = X} g Mine noted rooms old new (Err e) answered
whole_back back = record {
  back = back.left.pages.same;
  notes = back.notes;
  forgotten = back.forgotten;
  unmarked = back.left.unmarked;
  steady = back.left.steady;
  device = back.left.device;
  touches = touches_same back.left.pages.told back.left.pages.same;
  brings = tt;
}

-- what it says of a full file wherever the table is ready under the mark, it says wherever it is ready before
pub full_back : {S : Type 0} {g : Ghosts S} {old marked : S} (shape : Shape) (noted : SpaceNotes) (def : TableDef) (rooms : Entry → RoomNote) (Was Is : List Kind → TableForests → Type 0) (met answered : SpaceFault)
    → HasSamePages g old marked → ((owners : List Kind) (forests : TableForests) → Was owners forests → Is owners forests) → IfFull answered (λ cap. met ≡ Full cap)
    → IfFull met (λ cap. (cap ≡ shape.extents) × ((owners : List Kind) (forests : TableForests) → IsReadyTable g shape noted rooms marked def owners forests → Was owners forests))
    → IfFull answered (λ cap. (cap ≡ shape.extents) × ((owners : List Kind) (forests : TableForests) → IsReadyTable g shape noted rooms old def owners forests → Is owners forests))
full_back {g = g} {old = old} {marked = marked} shape noted def rooms Was Is met answered first so same full =
    full_handed_on shape.extents ((owners : List Kind) (forests : TableForests) → IsReadyTable g shape noted rooms marked def owners forests → Was owners forests)
    ((owners : List Kind) (forests : TableForests) → IsReadyTable g shape noted rooms old def owners forests → Is owners forests) met answered
    (λ is owners forests ready. so owners forests (is owners forests (ready_there first ready))) same full
