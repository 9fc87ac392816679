-- The lines of a message and of its pieces, as an explanation has them.
use Rattle.std.specs.Prelude.{ℕ, ◌+◌, ◌-◌, Bool, true, false, List, ◌++◌, codes, decimal}
use Rattle.noise_names.specs.declared.token.Token.{Token}
use Rattle.noise_names.specs.declared.token.Token.TheVariants.{S}
use Rattle.noise_names.specs.Overhead.{has_key, overhead_of}
use Rattle.noise_names.specs.Pieces.{bytes_before, places_to}
use Rattle.noise_names.specs.Plan.{Plan}
use Rattle.noise_names.specs.Text.{word_of}
use Rattle.noise_vectors.specs.VectorText.{role_word}
use Rattle.noise_explain.specs.FramePieces.{sender_of}

-- how much longer message n is than its payload
abbrev pub message_line : Plan → ℕ → List ℕ
message_line p n =
    codes "  message " ++ decimal n ++ codes ", of the " ++ role_word (sender_of n) ++ codes ", is "
    ++ decimal (overhead_of p n)
    ++ codes " bytes longer than its payload\n"

-- how a key is sent: a static one is encrypted where there is a cipher key (5.3)
abbrev pub key_how : Token → Bool → List ℕ
key_how S true = codes ", encrypted, the last 16 its tag\n"
key_how S false = codes ", in the clear: everybody sees it\n"
key_how _ has = codes ", in the clear\n"

-- the bytes of the key that token i of message n sends: from where it begins to where the next token does
abbrev pub key_line : Plan → ℕ → ℕ → Token → List ℕ
key_line p n i t =
    codes "    " ++ word_of t ++ codes ": bytes " ++ decimal (bytes_before p n i) ++ codes " to "
    ++ decimal (bytes_before p n (i + 1) - 1)
    ++ key_how t (has_key p (places_to p n i))

abbrev pub payload_how : Bool → List ℕ
payload_how true = codes " on, encrypted, and 16 bytes of tag after it\n"
payload_how false = codes " on, in the clear: everybody sees it\n"

-- where the payload of message n begins, which has so many tokens
abbrev pub payload_line : Plan → ℕ → ℕ → List ℕ
payload_line p n count =
    codes "    payload: from byte " ++ decimal (bytes_before p n count) ++ payload_how (has_key p (places_to p n count))
