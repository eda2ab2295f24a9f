use Rattle.mdc_outside.proofs.MomentLemmas.{left-as_read}
use Rattle.mdc_outside.proofs.laws.a_told_file_may_be_left.Goals as goal

pub returns : goal.returns
returns g c disk = left-as_read (g.D.Disk.file disk) (g.D.Disk.beside disk).tape (g.D.Disk.moment disk (g.D.Disk.clock disk)) (g.met.D.Disk.sound disk) (g.met.D.Disk.only_now disk)
