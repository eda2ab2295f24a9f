use Rattle.mdc_sound.proofs.StandingTableLemmas.{forests_of, stands_of_sound}
use Rattle.mdc_sound.proofs.laws.sound_tables_stand.Goals as goal

pub returns : goal.returns
returns g c = λ told shape def sound. (sound.view.owners, forests_of sound.table, stands_of_sound g.P.Pages shape c.args.pages.now def sound told)
