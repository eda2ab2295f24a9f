-- The file of a store in which no commit has failed rests with the numbers of its desk.
use Rattle.std.proofs.Common.{ap, ◌∙◌}
use Rattle.page_store.specs.FileStore.{HeldStore}
use Rattle.page_store.proofs.Wholes.{still_going}
use Rattle.page_store.proofs.file_store.FileStore.shape.Goals as goal

pub returns-clause-stated : goal.returns-clause-stated
returns-clause-stated g c = λ ended file is.
    let going = still_going c.self.inside.host c.self.inside.desk c.args.self.now c.self.view_is ended in
    let told = ap (λ (held : HeldStore g.row.H.Denot g.row.L.Denot). g.H.Disk.file held.host) c.self.view_is ∙ is in
    let rest = (c.self.invariant.kept going).at_rest file told in
    (rest.states_extents, rest.states_extent_pages)
