-- Damage that is exact by the definition in hand.
use Rattle.std.specs.Prelude.{◌≡◌, ℕ, IsTrue, Option, Some}
use Rattle.mdc_words.specs.Faults.{CountsFault}
use Rattle.mdc_values.specs.declared.rid.Rid.{Rid}
use Rattle.mdc_ast.specs.declared.definition.TableDef.{TableDef}
use Rattle.mdc_ast.specs.declared.row.Row.{Row}
use Rattle.store_api.specs.declared.fault.Damage.{Damage}
use Rattle.store_api.specs.declared.fault.StoreFault.{StoreFault}
use Rattle.store_api.specs.declared.fault.StoreFault.TheVariants.{Damaged, Device}
use Rattle.store_api.specs.declared.pages.Pages.{Ghosts}
use Rattle.store_api.specs.declared.shape.Shape.{Shape}
use Rattle.mdc_sound.specs.Breaks.{IsFirstBreak}
use Rattle.mdc_sound.specs.SoundDatabase.{IsSoundDatabase, with_table_page}
use Rattle.mdc_sound.specs.StandingTable.{pages_of}
use Rattle.table_blocks.specs.BlockSteps.{HasThisRow}
use Rattle.mdc_table.specs.TableReading.{HasUsedBlock}
use Rattle.mdc_table.specs.WhereStanding.{WhereStands}

-- Where the store tells its pages, they break this rule at this page with the definition in the place of its table page: the first
-- rule that they break, and the lowest page that breaks it.
abbrev pub IsExactWith : {S : Type 0} → Ghosts S → Shape → TableDef → S → Damage → Type 0
IsExactWith g shape def s damage = IsTrue (g.state s).is_told → IsFirstBreak shape (with_table_page def (pages_of g s)) damage.rule damage.page

-- the damage that a call answers is that of the pages that it began with
abbrev pub AnswersExactly : {S : Type 0} → Ghosts S → Shape → TableDef → S → Option StoreFault → Type 0
AnswersExactly g shape def s fault = (damage : Damage) → fault ≡ Some (Damaged damage) → IsExactWith g shape def s damage

-- ---- what a call expects

-- this row lies in its place, where the table stands
abbrev pub HasRowIfStanding : {S : Type 0} → Ghosts S → Shape → S → TableDef → Rid → Row → Type 0
HasRowIfStanding g shape s def rid row = WhereStands g shape s def (HasThisRow g shape s def rid row)

-- the block is a Used one of the table, where that stands
abbrev pub HasUsedIfStanding : {S : Type 0} → Ghosts S → Shape → S → TableDef → ℕ → Type 0
HasUsedIfStanding g shape s def block = WhereStands g shape s def (HasUsedBlock block)

-- ---- a fault that is judged

-- the pages aren't sound with the definition in the place of its table page, where the store tells them
abbrev pub IsUnsoundWith : {S : Type 0} → Ghosts S → Shape → TableDef → S → Type 0
IsUnsoundWith g shape def s = IsTrue (g.state s).is_told → IsSoundDatabase shape (with_table_page def (pages_of g s)) → ⊥

-- A fault was met, and this one is answered: its damage is exact, if damage was met on pages that aren't sound.
abbrev pub JudgesFault : {S : Type 0} → Ghosts S → Shape → TableDef → S → Option StoreFault → Option StoreFault → Type 0
JudgesFault g shape def s met answered =
    (damage : Damage) → answered ≡ Some (Damaged damage) → ((first : Damage) → met ≡ Some (Damaged first) → IsUnsoundWith g shape def s) → IsExactWith g shape def s damage

-- where the faults of the disk were counted by the fault that was met, they are counted by the one that is answered
abbrev pub CountsAnswer : {S : Type 0} → Ghosts S → S → S → Option StoreFault → Option StoreFault → Type 0
CountsAnswer g old new met answered =
    (before : ℕ) → CountsFault (met ≡ Some Device) before (g.disk_faults old) → CountsFault (answered ≡ Some Device) before (g.disk_faults new)
