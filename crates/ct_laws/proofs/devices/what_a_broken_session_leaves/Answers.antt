use Rattle.ct_laws.proofs.ToldBytes.{read_fault, too_long, memory}
use Rattle.ct_laws.proofs.devices.what_a_broken_session_leaves.Goals as goal

pub returns : goal.returns
returns c = record { after_read_fault = read_fault; after_too_long = too_long; after_memory = memory }
