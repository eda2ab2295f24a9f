-- The word of a plan, as EXPLAIN says it.
use Rattle.std.specs.Prelude.{ℕ, List, Bool, true, false, codes, if◌then◌else◌}
use Rattle.cell_filter.specs.Cells.{any_true}
use Rattle.plan_chooser.specs.declared.plan.Plan.{Plan}
use Rattle.plan_chooser.specs.declared.plan.Plan.TheFolds.{fold-Plan}
use Rattle.plan_chooser.specs.declared.plan.Plan.TheOpen.{Plan-F}
use Rattle.plan_chooser.specs.declared.plan.Plan.TheOpen as layer
use Rattle.plan_chooser.specs.declared.word.PlanWord.{PlanWord}
use Rattle.plan_chooser.specs.declared.word.PlanWord.TheVariants as word

-- a scan has the word SCAN, blocks BLOCK, and places of a record index RECORD
abbrev pub is_scan : PlanWord → Bool
is_scan word.Scan = true
is_scan other = false

abbrev pub is_block : PlanWord → Bool
is_block word.Block = true
is_block other = false

abbrev pub is_record : PlanWord → Bool
is_record word.Record = true
is_record other = false

-- one layer of a plan, told of each of its parts whether something in it has the word
abbrev pub layer_has : PlanWord → Plan-F Bool → Bool
layer_has word layer.Scan = is_scan word
layer_has word (layer.Blocks dim column span) = is_block word
layer_has word (layer.Rids index span) = is_record word
layer_has word (layer.All parts) = any_true parts
layer_has word (layer.Any parts) = any_true parts

-- a scan, blocks or places in a plan has that word
abbrev pub has_part : PlanWord → Plan → Bool
has_part word = fold-Plan Bool (layer_has word)

-- The word of a plan: of a scan, of record indexes alone, of both, or of blocks alone.
abbrev pub word_of : Plan → PlanWord
word_of plan =
    if has_part word.Scan plan then word.Scan
    else if has_part word.Record plan then (if has_part word.Block plan then word.Mixed else word.Record)
    else word.Block

-- how it is said
abbrev pub word_text : PlanWord → List ℕ
word_text word.Scan = codes "SCAN"
word_text word.Block = codes "BLOCK"
word_text word.Record = codes "RECORD"
word_text word.Mixed = codes "MIXED"
