use Rattle.mdc_shell.proofs.laws.made_files_are_well.Goals as goal

pub returns : goal.returns
returns c = λ extents extent_pages file shape fresh.
    let made = c.made_is_well.ensures in
    let well = made.well extents extent_pages file.bytes shape fresh.bytes in (
      made.each extents extent_pages file shape fresh,
      record { shape = well.shape; states = well.states; stands = made.stands extents extent_pages file.bytes shape fresh.bytes well.shape well.states },
    )
