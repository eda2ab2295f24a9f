use Rattle.std.proofs.Common.{◌∙◌, sym}
use Rattle.mdc_sound.specs.StandingTable.{pages_of}
use Rattle.executor.proofs.SettledSinksLemmas.{gives_block, settling_on, takes_block}
use Rattle.executor.proofs.whole.scan_settled.Goals as goal

pub scan_counted_block-requires-clause-fits : goal.scan_counted_block-requires-clause-fits
scan_counted_block-requires-clause-fits g c = takes_block c.requires.settling c.requires.begun c.requires.defined c.requires.judged

pub returns-clause-given : goal.returns-clause-given
returns-clause-given g c told =
    let read = c.in_ok-scan_counted_block.ensures in
    gives_block c.requires.settling c.requires.begun c.args.shape (pages_of g.P.Pages c.args.pages.now) c.args.listed.now c.requires.no_cell c.requires.judged (read.seen told) c.args.judges.now.every.pred.now c.requires.judges.every_is (read.given_some told)

pub returns-clause-judges : goal.returns-clause-judges
returns-clause-judges g c =
    let judges = c.requires.judges in
    let read = c.in_ok-scan_counted_block.ensures in
    record {
      are = judges.are;
      places = judges.places;
      whole_wide = judges.whole_wide;
      whole_is = judges.whole_is;
      every_wide = judges.every_wide ∙ sym read.width;
      every_is = read.pred ∙ judges.every_is;
    }

pub returns-clause-settling : goal.returns-clause-settling
returns-clause-settling g c = settling_on c.requires.settling c.requires.begun c.in_ok-scan_counted_block.ensures.fits
