-- The public keys and the DH results of the keys of a file: each kind has those of its own type.
use Rattle.std.specs.Prelude.{ℕ, List, Option}
use Rattle.noise_keys.specs.declared.keys.Own.{Own}
use Rattle.noise_keys.specs.Keys.{KeyPairs, key_of, xor_dh_result}
use Rattle.noise_keys.specs.Table.{dh_result_in}
use Rattle.noise_vectors.specs.declared.file_keys.FileKeys.{FileKeys}
use Rattle.noise_vectors.specs.declared.file_keys.FileKeys.TheVariants.{Xor, Table}

-- the public key of a key pair, if there is one
abbrev pub public_of : FileKeys → Own → Option (List ℕ)
public_of (Xor keys) own = key_of own keys.e keys.s
public_of (Table keys) own = key_of own keys.e keys.s

-- The DH result of a key pair and a remote public key, if there is one: the xor of the two keys, or what the table has
-- for them.
abbrev pub agreement_of : FileKeys → Own → List ℕ → Option (List ℕ)
agreement_of (Xor keys) own remote = xor_dh_result (key_of own keys.e keys.s) remote
agreement_of (Table keys) own remote = dh_result_in keys.entries own remote

-- both
abbrev pub pairs_of : FileKeys → KeyPairs
pairs_of keys = record { public = public_of keys; agree = agreement_of keys }
