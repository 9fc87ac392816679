-- What reading and writing ask of a party.
use Rattle.noise_keys.specs.Keys.{KeyPairs}
use Rattle.noise_handshake.specs.Party.{Reader}
use Rattle.noise_handshake.specs.Writing.{Writer}
use Rattle.noise_handshake.specs.declared.tokens.Means.{Means}

-- what reading asks of a party with these means
abbrev pub reader_of : {K : Type 0} → (K → KeyPairs) → Means K → Reader
reader_of pairs m = record { role = m.role; has_psks = m.has_psks; agree = (pairs m.keys).agree }

-- what writing asks of it
abbrev pub writer_of : {K : Type 0} → (K → KeyPairs) → Means K → Writer
writer_of pairs m =
    record { role = m.role; has_psks = m.has_psks; own = (pairs m.keys).public; agree = (pairs m.keys).agree }
