-- What the parts of the reading of a text cite.
use Rattle.std.specs.Prelude.{ℕ, Bool, ◌&&◌, nat_le, List, Option, Some, None, codes, bytes_eq, if◌then◌else◌}
use Rattle.noise_names.specs.declared.token.Token.{Token}
use Rattle.noise_names.specs.declared.token.Token.TheVariants.{E, S, Ee, Es, Se, Ss, Psk}

-- a lower-case letter
abbrev pub is_lower : ℕ → Bool
is_lower b = nat_le 97 b && nat_le b 122

-- the token of a word
abbrev pub token_named : List ℕ → Option Token
token_named word =
    if bytes_eq word (codes "e") then Some E
    else (if bytes_eq word (codes "s") then Some S
    else (if bytes_eq word (codes "ee") then Some Ee
    else (if bytes_eq word (codes "es") then Some Es
    else (if bytes_eq word (codes "se") then Some Se
    else (if bytes_eq word (codes "ss") then Some Ss
    else (if bytes_eq word (codes "psk") then Some Psk else None))))))
