use Rattle.std.proofs.Common.{Err, Ok, ap, refl, ◌∙◌}
use Rattle.script_engine.proofs.TryingLemmas.{try_full, try_kept, try_stops, try_unkept}
use Rattle.script_engine.proofs.transactions.try_statement.Goals as goal

pub returns-in_ok-keep-in-Ok : goal.returns-in_ok-keep-in-Ok
returns-in_ok-keep-in-Ok g c = record {
  tries = try_kept g.P.Pages c.args.pages.now c.mark.new.self c.execute.new.pages c.args.tables.now c.execute.new.tables c.args.stmt.now c.mark.ensures.marked c.mark.ensures.disk_faults c.mark.ensures.say_faults c.mark.ensures.time
      c.execute.result c.execute.ensures.runs c.execute.ensures.keeps c.in-Ok.outcome c.keep.new.self c.in-Ok.is c.in_ok-keep-in-Ok.ensures.ok (c.in_ok-keep-in-Ok.ensures.disk_faults.still (λ r. absurd (cc)))
      c.in_ok-keep-in-Ok.ensures.say_faults c.in_ok-keep-in-Ok.ensures.time c.in-Ok.ensures.does (λ refusal r. c.in-Ok.ensures.refused refusal (ap Ok r)) c.in-Ok.ensures.unbuilt c.execute.ensures.reads
      c.in-Ok.ensures.kind c.in-Ok.ensures.idle c.execute.ensures.fetches c.execute.ensures.lists c.execute.ensures.touches (c.in-Ok.ensures.once refl);
}

pub returns-in_err-keep-in-Ok : goal.returns-in_err-keep-in-Ok
returns-in_err-keep-in-Ok g c = record {
  tries = try_unkept g.P.Pages c.args.pages.now c.mark.new.self c.execute.new.pages c.args.tables.now c.execute.new.tables c.args.stmt.now c.mark.ensures.marked c.mark.ensures.disk_faults c.mark.ensures.say_faults c.mark.ensures.time
      c.execute.result c.execute.ensures.runs c.execute.ensures.keeps c.in-Ok.outcome c.in_err-keep-in-Ok.field-0.0 c.from_residual.result c.keep.new.self c.in-Ok.is c.in_err-keep-in-Ok.ensures.err c.in_err-keep-in-Ok.ensures.disk_faults
      c.in_err-keep-in-Ok.ensures.say_faults c.in_err-keep-in-Ok.ensures.time c.from_residual.ensures.1 c.execute.ensures.fetches c.execute.ensures.lists;
}

pub returns-in-Err-Full : goal.returns-in-Err-Full
returns-in-Err-Full g c = record {
  tries = try_full g.P.Pages c.args.pages.now c.mark.new.self c.execute.new.pages c.args.tables.now c.execute.new.tables c.args.stmt.now c.mark.ensures.marked c.mark.ensures.disk_faults c.mark.ensures.say_faults c.mark.ensures.time
      c.execute.result c.execute.ensures.runs c.execute.ensures.keeps c.in-Err-Full.extents c.in-Err-Full.field-0 c.file_full.result c.undo.new.self c.forget.new.self c.in-Err-Full.is c.in-Err-Full.field-0-is c.file_full.ensures
      c.undo.ensures.undone c.undo.ensures.disk_faults c.undo.ensures.say_faults c.undo.ensures.time c.in-Err-Full.ensures.full c.in-Err-Full.ensures.keeps.kept c.requires.served
      c.forget.ensures.catalog c.forget.ensures.shape c.forget.ensures.settings c.forget.ensures.notes c.forget.ensures.rooms c.execute.ensures.fetches c.execute.ensures.lists c.in-Err-Full.ensures.unbuilt;
}

pub returns-in-Err-Store : goal.returns-in-Err-Store
returns-in-Err-Store g c = record {
  tries = try_stops g.P.Pages c.args.pages.now c.mark.new.self c.execute.new.pages c.args.tables.now c.execute.new.tables c.args.stmt.now c.mark.ensures.marked c.mark.ensures.disk_faults c.mark.ensures.say_faults c.mark.ensures.time
      c.execute.result c.execute.ensures.runs c.execute.ensures.keeps c.in-Err-Store.fault c.in-Err-Store.fault c.undo-in-Err-Store.new.self c.forget-in-Err-Store.new.self (c.in-Err-Store.is ∙ ap Err c.in-Err-Store.field-0-is) refl
      c.undo-in-Err-Store.ensures.undone c.undo-in-Err-Store.ensures.disk_faults c.undo-in-Err-Store.ensures.say_faults c.undo-in-Err-Store.ensures.time c.in-Err-Store.ensures.keeps.kept
      c.forget-in-Err-Store.ensures.catalog c.forget-in-Err-Store.ensures.shape c.forget-in-Err-Store.ensures.settings c.execute.ensures.fetches c.execute.ensures.lists;
}
