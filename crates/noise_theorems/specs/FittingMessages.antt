-- When lines fit into the messages of a pattern, and how a report counts bytes that an end didn't take.
use Rattle.std.specs.Prelude.{ℕ, ◌+◌, Bool, true, not, ◌&&◌, ◌||◌, nat_le, nat_lt, List, [], ◌∷◌, length, if◌then◌else◌}
use Rattle.noise_names.specs.declared.token.Role.{Role}
use Rattle.noise_names.specs.declared.token.Role.TheVariants.{Initiator}
use Rattle.noise_names.specs.Tokens.{same_role, turn_from}
use Rattle.noise_names.specs.Plan.{Plan, is_one_way}
use Rattle.noise_names.specs.Overhead.{overhead_of}
use Rattle.noise_session.specs.Transport.{last_nonce}
use Rattle.noise_duel.specs.Notes.{Note, Wrote, WriteFault, Judged, Left, Missing, Held}

-- Whether a role's payload of this length fits as line n, counted from 0: a handshake message has at most 65535 bytes
-- and is written in turn; a transport payload has at most 65519, in a one-way pattern it is the initiator's, and there
-- is a nonce for it (Noise 3, 5.1, 7.4).
abbrev pub message_fits : Plan → ℕ → Role → ℕ → Bool
message_fits p n role len =
    if nat_lt n (length p.messages)
    then same_role role (turn_from Initiator n) && nat_le (overhead_of p (n + 1) + len) 65535
    else (not (is_one_way p) || same_role role Initiator) && nat_le len 65519 && nat_lt n last_nonce

-- whether all lines fit, the first of them as line n
abbrev pub messages_fit_from : Plan → ℕ → List (Role × List ℕ) → Bool
messages_fit_from p n [] = true
messages_fit_from p n (l ∷ lines) = message_fits p n l.0 (length l.1) && messages_fit_from p (n + 1) lines

-- how many bytes of those that came to an end are lost, or are held of an unfinished frame
abbrev pub left_over : Note → ℕ
left_over (Left step n) = n
left_over (Held n) = n
left_over (Wrote n) = 0
left_over (WriteFault why) = 0
left_over (Judged reported) = 0
left_over (Missing n) = 0

-- how many bytes that came to a role it didn't take as part of a frame
abbrev pub bytes_not_received : Role → List (Role × Note) → ℕ
bytes_not_received role [] = 0
bytes_not_received role (n ∷ notes) = (if same_role n.0 role then left_over n.1 else 0) + bytes_not_received role notes
