use Rattle.std.proofs.Common.{◌≡◌, true, false, sym, subst, ◌∙◌}
use Rattle.file_check.specs.MapPagesJudged.{AreEntriesSound}
use Rattle.file_check.proofs.MapPagesLemmas.{entries_of_sound, sound_of_entries}
use Rattle.file_check.proofs.map_pages.is_map_page_sound.Goals as goal

pub returns-clause-sound : goal.returns-clause-sound
returns-clause-sound c = λ yes pages root count told at.
    sound_of_entries c.args.shape pages root c.args.tables.now told c.args.i c.args.page.now c.requires at c.told-page c.fits-page
    (subst (λ n. AreEntriesSound c.args.shape n c.args.tables.now c.args.page.now c.args.i) (sym count) (c.are_entries_sound.ensures.0 yes))

pub returns-clause-broken : goal.returns-clause-broken
returns-clause-broken c = λ no pages root count told at owners sound.
    let all = entries_of_sound c.args.shape pages root c.args.tables.now told c.args.i c.args.page.now owners at sound in
    let wrong : true ≡ false =
    sym (c.are_entries_sound.ensures.1 (subst (λ n. AreEntriesSound c.args.shape n c.args.tables.now c.args.page.now c.args.i) count all)) ∙ no in
    absurd (cc)
