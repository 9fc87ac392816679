-- The state at the start, as the code's values have it.
use Rattle.std.proofs.Common.{◌≡◌, ℕ, List}
use Rattle.std.specs.Prelude.{Bool}
use Rattle.noise_handshake.proofs.Common.{Initiator, Responder, Token, Plan, has_psk, pre_of, Remote, start, with_premessage}
use Rattle.noise_state.specs.Symmetric.{initialize, mix_hash}

module _ (p : Plan) (has_psks : Bool) (first second : List Token) (eb : has_psks ≡ has_psk p) (ef : first ≡ pre_of Initiator p) (es : second ≡ pre_of Responder p) where
  -- the state after the pre-messages
  pub start-is : (name named prologue : List ℕ) (initiator responder i r : Remote) → name ≡ named → initiator ≡ i → responder ≡ r
      → with_premessage has_psks responder second (with_premessage has_psks initiator first (mix_hash (initialize name) prologue))
      ≡ start named p prologue i r
  start-is name named prologue initiator responder i r en ei er = search
