use Rattle.std.proofs.Common.{◌≡◌, ◌-◌, [], ◌∷◌, append_assoc, ap, arith, sym, ◌∙◌, subst, get_or}
use Rattle.std.specs.Prelude.{false, None}
use Rattle.mdc_words.specs.ByteOrder.{Entry, below}
use Rattle.entry_tree.specs.EntryBounds.{Rises}
use Rattle.file_check.proofs.EntriesLemmas.{above_last, rises_last}
use Rattle.file_check.proofs.entries.lies_above_last.Goals as goal

pub returns-clause-above : goal.returns-clause-above
returns-clause-above c is =
    above_last c.args.entry.now c.args.entries.now (c.len-count.result - 1) (omega (arith, c.len-count.ensures)) (ap (λ (e : Entry). below e c.args.entry.now) (sym c.at.ensures) ∙ sym c.is_below.ensures ∙ is)

pub returns-clause-not : goal.returns-clause-not
returns-clause-not c is more h =
    let above = rises_last c.args.entry.now c.args.entries.now more (c.len-count.result - 1) (omega (arith, c.len-count.ensures)) (subst (Rises None None) (append_assoc c.args.entries.now (c.args.entry.now ∷ []) more) h) in
    let not_above : below (get_or c.args.entries.now (c.len-count.result - 1) []) c.args.entry.now ≡ false = ap (λ (e : Entry). below e c.args.entry.now) (sym c.at.ensures) ∙ sym c.is_below.ensures ∙ is in
    absurd cc
