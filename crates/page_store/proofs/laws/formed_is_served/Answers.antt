-- The parts of a formed file are those of a served one.
use Rattle.std.proofs.Common.{length, arith, ◌≤◌}
use Rattle.page_store.proofs.laws.formed_is_served.Goals as goal
use Rattle.page_file.specs.Layout.{page_start}

pub returns : goal.returns
returns c = λ file formed root version.
    let long : page_start 2 ≤ length file = omega (arith, formed.whole) in
    ((long, formed.made), formed.birth, record { journal = formed.journal; root = root }, formed.whole, version)
