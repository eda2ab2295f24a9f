use Rattle.std.proofs.Common.{◌+◌, arith}
use Rattle.table_bench.proofs.DayLemmas.{early_day_fits}
use Rattle.table_bench.proofs.values.date_of.Goals as goal

pub returns : goal.returns
returns c = early_day_fits (1900 + c.args.year) (1 + c.args.month) c.args.day (omega arith) (omega arith) (omega arith) (omega arith) (omega arith) (omega arith)
