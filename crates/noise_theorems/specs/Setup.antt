-- What two ends of equal setup start from.
use Rattle.std.specs.Prelude.{◌≡◌, ⊤, ℕ, List, length, Bool, true, is_some, Option, Some, None, IsSome, nat_le, if◌then◌else◌}
use Rattle.noise_names.specs.declared.token.Role.{Role}
use Rattle.noise_names.specs.declared.token.Role.TheVariants.{Initiator, Responder}
use Rattle.noise_names.specs.declared.token.Token.{Token}
use Rattle.noise_names.specs.Tokens.{other}
use Rattle.noise_names.specs.Plan.{Plan, places_of}
use Rattle.noise_names.specs.Validity.{occurs}
use Rattle.noise_state.specs.declared.symmetric.SymmetricState.{SymmetricState}
use Rattle.noise_keys.specs.declared.faults.SetupFault.{SetupFault}
use Rattle.noise_keys.specs.declared.xor_keys.XorKeys.{XorKeys}
use Rattle.noise_keys.specs.Keys.{key_of, xor_dh_result}
use Rattle.noise_handshake.specs.Counterparts.{is_dh, shown_before}
use Rattle.noise_handshake.specs.Setup.{public_keys, setup_fault}
use Rattle.noise_handshake.specs.Party.{dh_result_of, remote_at}
use Rattle.noise_session.specs.Ends.{EndMatches}
use Rattle.noise_duel.specs.Messages.{Start}
use Rattle.noise_duel.specs.Conversation.{end_after, state_after_lines, transcript}
use Rattle.noise_duel.specs.DuelValue.{DuelValue}
use Rattle.noise_duel.specs.SetUpAlike.{material_of}
use Rattle.noise_theorems.specs.declared.fault.ConversationFault.{ConversationFault}
use Rattle.noise_theorems.specs.declared.fault.ConversationFault.TheVariants.{Setup, Memory}
use Rattle.noise_keys.specs.Keys.{KeyPairs}
use Rattle.noise_keys.specs.KeyTokens.{own_at}

-- what both parties start from
pub record BothStarts : Type 0 where
  pub initiator : Start
  pub responder : Start

module _ {K : Type 0} (pairs : K → KeyPairs) where
  -- a role starts from the prologue, the psks, its own keys, and the public keys of the other party's pre-message
  abbrev pub start_by : Plan → Role → List ℕ → List (List ℕ) → K → K → Start
  start_by p role prologue psks keys theirs = record {
    prologue = prologue;
    own = (pairs keys).public;
    agree = (pairs keys).agree;
    remote = shown_before p (other role) (pairs theirs).public;
    psks = psks;
  }

  abbrev pub starts : Plan → List ℕ → List (List ℕ) → K → K → BothStarts
  starts p prologue psks initiator responder = record {
    initiator = start_by p Initiator prologue psks initiator responder;
    responder = start_by p Responder prologue psks responder initiator;
  }

  -- whether a role has a result at a DH token, with the other party's public keys
  abbrev pub has_dh_result : Role → K → K → Token → Bool
  has_dh_result role keys theirs t =
      is_some (dh_result_of (pairs keys).agree (own_at role t) (remote_at role (public_keys (pairs theirs).public) t))

  -- both parties have a result at each DH token of the pattern
  abbrev pub HaveDhResults : Plan → K → K → Type 0
  HaveDhResults p initiator responder = (t : Token) → is_dh t ≡ true → occurs t (places_of p) ≡ true
      → (has_dh_result Initiator initiator responder t ≡ true)
      × (has_dh_result Responder responder initiator t ≡ true)

-- all messages of lines with their writers, by both parties' keys and psks
abbrev pub transcript_of : Plan → BothStarts → ℕ → List (Role × List ℕ) → List (Role × List ℕ)
transcript_of p s interval lines =
    transcript (material_of s.initiator s.responder) p s.initiator.prologue interval lines

-- the state after those of them that are handshake messages
abbrev pub state_of_lines : Plan → BothStarts → List (Role × List ℕ) → SymmetricState
state_of_lines p s lines = state_after_lines (material_of s.initiator s.responder) p s.initiator.prologue lines

-- the handshake hash (Noise 11.2), if there is a line for each handshake message
abbrev pub hash_of_messages : Plan → BothStarts → List (Role × List ℕ) → Option (List ℕ)
hash_of_messages p s lines =
    if nat_le (length p.messages) (length lines) then Some ((state_of_lines p s lines).hash) else None

module _ {K : Type 0} (pairs : K → KeyPairs) where
  -- The two ends are those after the lines: they hold the pattern, the roles, the keys and the psks to come, the
  -- counts, the interval and the state.
  pub record AreAfter (p : Plan) (s : BothStarts) (interval : ℕ) (lines : List (Role × List ℕ))
      (duel : DuelValue K K) : Type 0 where
    pub initiator : EndMatches pairs duel.initiator
        (end_after p Initiator s.initiator s.responder interval (state_of_lines p s lines) lines)
    pub responder : EndMatches pairs duel.responder
        (end_after p Responder s.responder s.initiator interval (state_of_lines p s lines) lines)

-- the first of two faults
abbrev pub or_next : Option SetupFault → Option SetupFault → Option SetupFault
or_next None next = next
or_next (Some why) next = Some why

-- what is wrong with the setup of two parties, the initiator's fault first
abbrev pub fault_of : Plan → BothStarts → Option SetupFault
fault_of p s =
    or_next (setup_fault p Initiator s.initiator.own s.initiator.remote (length s.initiator.psks))
    (setup_fault p Responder s.responder.own s.responder.remote (length s.responder.psks))

-- the error is the fault of the setup that was found, or memory ran out
abbrev pub IsReportedFault : Option SetupFault → ConversationFault → Type 0
IsReportedFault found (Setup why) = found ≡ Some why
IsReportedFault found Memory = ⊤

-- Two parties with both key pairs each, whose DH is the xor of bytes, have a result at each DH of every pattern.
abbrev pub XorKeysHaveDhResults : Type 0
XorKeysHaveDhResults = (p : Plan) (a b : XorKeys) → IsSome a.e → IsSome a.s → IsSome b.e → IsSome b.s
    → HaveDhResults
    (λ keys. record {
      public = λ own. key_of own keys.e keys.s;
      agree = λ own remote. xor_dh_result (key_of own keys.e keys.s) remote;
    })
    p a b
