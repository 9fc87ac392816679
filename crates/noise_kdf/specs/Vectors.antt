-- HMAC-SHA256 on a text whose code is published: the check computes it by the definitions, with no code of the crate.
use Rattle.std.specs.Prelude.{◌≡◌, ◌++◌, codes, refl}
use Rattle.std.specs.Int.{w128, to_be_bytes}
use Rattle.sha2.specs.Sha256.{sha256, digest_bytes, hash_after, compress, rounds, schedule, first_words}
use Rattle.noise_kdf.specs.Hkdf.{hmac_of}

-- RFC 4231, test case 2
pub test_case_2 : hmac_of (codes "Jefe") (codes "what do ya want for nothing?")
    ≡ to_be_bytes w128 0x5bdcc146bf60754e6a042426089575c7 ++ to_be_bytes w128 0x5a003f089d2739839dec58b964ec3843
unfolding sha256 digest_bytes hash_after compress rounds schedule first_words
test_case_2 = refl
