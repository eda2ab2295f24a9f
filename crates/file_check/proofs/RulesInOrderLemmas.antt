-- The rules on what lies in the tables, one after the other: what is known when one is judged, and once it was.
use Rattle.std.proofs.Common.{◌≡◌, ◌<◌, ◌≤◌, ◌+◌, ℕ, zero, suc, Option, Some, arith, get_or, refl, subst, sym, take}
use Rattle.std.specs.List.{AllByRecursion}
use Rattle.std.proofs.lemmas.List.{take_more}
use Rattle.mdc_ast.specs.Definitions.{Definitions}
use Rattle.store_api.specs.declared.shape.Shape.{Shape}
use Rattle.table_trees.specs.ToldPages.{PageList}
use Rattle.mdc_sound.specs.Breaks.{BreaksRule, IsFirstBreak}
use Rattle.mdc_sound.specs.SoundDatabase.{KeepAllRules}
use Rattle.mdc_sound.specs.SpaceRules.{DatabaseView}
use Rattle.file_check.specs.Judging.{JudgesRule}
use Rattle.file_check.specs.Kept.{KeepsBlockMaps, NoneBreaksBefore}
use Rattle.file_check.specs.Known.{ViewHasBlocks}
use Rattle.file_check.specs.RulesOfTables.{ViewKeeps, ViewKnownFor, rule_number, table_rules}
use Rattle.file_check.specs.Verdicts.{AreSoundUnbroken}
use Rattle.file_check.specs.declared.block_rule.BlockRule.TheVariants.{RowPages}
use Rattle.file_check.specs.declared.table_rule.TableRule.{TableRule}
use Rattle.file_check.specs.declared.table_rule.TableRule.TheVariants.{Block}
use Rattle.file_check.proofs.JudgingLemmas.{all_next}
use Rattle.file_check.proofs.KeptRulesLemmas.{FindsNone}
use Rattle.file_check.proofs.VerdictsLemmas.{first_break, holds_unbroken, none_at_all, none_next}

-- the rule in a place
abbrev pub rule_at : ℕ → TableRule
rule_at i = get_or table_rules i (Block RowPages)

-- its number
number_at : (i : ℕ) → i < 6 → rule_number (rule_at i) ≡ 7 + i
number_at zero low = refl
number_at (suc zero) low = refl
number_at (suc (suc zero)) low = refl
number_at (suc (suc (suc zero))) low = refl
number_at (suc (suc (suc (suc zero)))) low = refl
number_at (suc (suc (suc (suc (suc zero))))) low = refl
number_at (suc (suc (suc (suc (suc (suc i)))))) low = absurd (omega (arith, low))

-- the first rules are kept by a view
abbrev pub AreKept : Shape → PageList → DatabaseView → ℕ → Type 0
AreKept shape pages view i = AllByRecursion (λ rule. ViewKeeps rule shape pages view) (take i table_rules)

-- and so what the next one rests on is known
known_at : (shape : Shape) (pages : PageList) (defs : Definitions) (view : DatabaseView) (i : ℕ) → i < 6 → ViewHasBlocks shape pages defs view → AreKept shape pages view i → ViewKnownFor (rule_at i) shape pages defs view
known_at shape pages defs view zero low blocks kept = blocks
known_at shape pages defs view (suc zero) low blocks kept = record { blocks = blocks; rule7 = kept.0 }
known_at shape pages defs view (suc (suc zero)) low blocks kept = record { blocks = blocks; rule7 = kept.0 }
known_at shape pages defs view (suc (suc (suc zero))) low blocks kept = record { rows = record { blocks = blocks; rule7 = kept.0 }; rule8 = kept.1.0; rule9 = kept.1.1.0 }
known_at shape pages defs view (suc (suc (suc (suc zero)))) low blocks kept = record { rows = record { blocks = blocks; rule7 = kept.0 }; rule8 = kept.1.0; rule9 = kept.1.1.0 }
known_at shape pages defs view (suc (suc (suc (suc (suc zero))))) low blocks kept = record { rows = record { blocks = blocks; rule7 = kept.0 }; rule8 = kept.1.0; rule9 = kept.1.1.0 }
known_at shape pages defs view (suc (suc (suc (suc (suc (suc i)))))) low blocks kept = absurd (omega (arith, low))

-- the block maps are sound, the first of these rules are kept, and no page breaks one before the next
pub record KeepsFirst (shape : Shape) (defs : Definitions) (i : ℕ) (pages : PageList) : Type 0 where
  pub view : DatabaseView
  pub blocks : ViewHasBlocks shape pages defs view
  pub kept : AreKept shape pages view i
  pub before : NoneBreaksBefore shape pages (7 + i)

-- what judging the next says
abbrev pub SaysNext : Shape → Definitions → ℕ → Option ℕ → PageList → Type 0
SaysNext shape defs i found pages = (view : DatabaseView) → ViewKnownFor (rule_at i) shape pages defs view → JudgesRule shape pages (rule_number (rule_at i)) (ViewKeeps (rule_at i) shape pages view) found

module _ (shape : Shape) (pages : PageList) (defs : Definitions) where
  -- none was judged yet
  pub keeps_none_yet : KeepsBlockMaps shape defs pages → KeepsFirst shape defs 0 pages
  keeps_none_yet kept = record { view = kept.view; blocks = kept.known; kept = tt; before = kept.before }

  module _ (i : ℕ) (low : i < 6) (first : KeepsFirst shape defs i pages) where
    -- the next one is kept
    pub keeps_next : (found : Option ℕ) → FindsNone found → SaysNext shape defs i found pages → KeepsFirst shape defs (i + 1) pages
    keeps_next found none says =
        let sound = holds_unbroken (ViewKeeps (rule_at i) shape pages first.view) (BreaksRule shape pages (rule_number (rule_at i))) found none (says first.view (known_at shape pages defs first.view i low first.blocks first.kept)) in
        let behind : 7 + i + 1 ≡ 7 + (i + 1) = omega arith in
        record {
          view = first.view;
          blocks = first.blocks;
          kept = subst (AllByRecursion (λ rule. ViewKeeps rule shape pages first.view)) (sym (take_more table_rules i (Block RowPages) low))
              (all_next (λ rule. ViewKeeps rule shape pages first.view) (take i table_rules) (rule_at i) first.kept sound.holds);
          before = subst (NoneBreaksBefore shape pages) behind
              (none_next shape pages (7 + i) first.before (subst (λ (n : ℕ). (p : ℕ) → BreaksRule shape pages n p → ⊥) (number_at i low) sound.unbroken));
        }

    -- or it is the first that is broken
    pub next_broken : (found : Option ℕ) (page : ℕ) → found ≡ Some page → SaysNext shape defs i found pages → IsFirstBreak shape pages (rule_number (rule_at i)) page
    next_broken found page is says =
        first_break shape pages (rule_number (rule_at i)) (ViewKeeps (rule_at i) shape pages first.view) found page is (subst (NoneBreaksBefore shape pages) (sym (number_at i low)) first.before) (says first.view (known_at shape pages defs first.view i low first.blocks first.kept))

  -- all are kept
  pub keeps_all : (i : ℕ) → 6 ≤ i → i ≤ 6 → KeepsFirst shape defs i pages → AreSoundUnbroken shape pages
  keeps_all i past within first =
      let is : i ≡ 6 = omega (arith, past, within) in
      let all = subst (AreKept shape pages first.view) is first.kept in
      let trees = first.blocks.trees in
      let sound : KeepAllRules shape pages first.view = record {
        first = record {
          rule1 = trees.rule1;
          rule2 = trees.rule2;
          rule3 = trees.rule3;
          rule4 = trees.rule4;
          rule5 = first.blocks.rule5;
          rule6 = first.blocks.rule6;
          rule7 = all.0;
          rule8 = all.1.0;
          rule9 = all.1.1.0;
          rule10 = all.1.1.1.0;
        };
        rule11 = all.1.1.1.1.0;
        rule12 = all.1.1.1.1.1.0;
      } in
      record { sound = (first.view, sound); unbroken = none_at_all shape pages (subst (λ n. NoneBreaksBefore shape pages (7 + n)) is first.before) }
