use Rattle.noise_run.proofs.report.entry_line.Goals as goal

pub returns-in-WriteFault : goal.returns-in-WriteFault
returns-in-WriteFault c d frames = rw c.in-WriteFault.is c.fault_line.ensures.text
