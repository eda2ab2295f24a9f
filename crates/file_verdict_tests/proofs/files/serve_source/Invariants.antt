-- The file is picked as it is read at the call.
use Rattle.page_store.specs.Opened.{file_bytes}
use Rattle.file_verdict_tests.proofs.files.serve_source.Given as goal

abbrev pub ghosts-serve_file : goal.ghosts-serve_file
ghosts-serve_file g a = record { first = file_bytes (g.H.Disk.file a.host) }
