use Rattle.noise_handshake.proofs.Common.{after_payload, has_psk, remote_after, tokens_due}
use Rattle.noise_handshake.proofs.LateParties.{supplied-now, supplied-on}
use Rattle.noise_handshake.proofs.laws.psks_suffice.Goals as goal

pub returns-clause-due : goal.returns-clause-due
returns-clause-due g c h all = supplied-now h all

pub returns-clause-kept : goal.returns-clause-kept
returns-clause-kept g c h xs payload all =
    let state = after_payload (has_psk h.pattern) h.state (tokens_due h) xs payload in
    (supplied-on h all state (remote_after h.remote (tokens_due h) xs), supplied-on h all state h.remote)
