use Rattle.std.proofs.Common.{◌≡◌, ◌≤◌, Some, length, take, sym, subst}
use Rattle.sql_reader.specs.Scan.{place_behind}
use Rattle.sql_reader.specs.declared.place.Place.TheVariants.{Outside}
use Rattle.sql_reader.proofs.QuietLemmas.{quiet-IsFirstByte}
use Rattle.sql_reader.proofs.place.quiet_len.Goals as goal

pub returns-clause-within : goal.returns-clause-within
returns-clause-within c = subst (λ n. n ≤ length c.args.bytes.now) (sym c.unwrap_or.ensures) (quiet-IsFirstByte c.args.bytes.now c.memchr3.result c.memchr3.ensures).0

pub returns-clause-stays : goal.returns-clause-stays
returns-clause-stays c =
    subst (λ n. place_behind Outside (take n c.args.bytes.now) ≡ Some Outside) (sym c.unwrap_or.ensures) (quiet-IsFirstByte c.args.bytes.now c.memchr3.result c.memchr3.ensures).1
