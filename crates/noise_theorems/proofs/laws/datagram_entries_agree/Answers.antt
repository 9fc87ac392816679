use Rattle.std.proofs.Common.{rules}
use Rattle.noise_theorems.proofs.DatagramEntries.{datagrams-are-reported, datagram-entries-agree, datagram-keys-come}
use Rattle.noise_theorems.proofs.laws.datagram_entries_agree.Goals as goal

pub returns : goal.returns
returns c = search (rules, datagrams-are-reported, datagram-entries-agree, datagram-keys-come)
