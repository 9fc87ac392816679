-- When two parties are set up with the key material of one conversation.
use Rattle.std.specs.Prelude.{◌≡◌, ℕ, List, [], length, replicate, Some, true, is_some, unwrap_or}
use Rattle.noise_names.specs.declared.token.Role.{Role}
use Rattle.noise_names.specs.declared.token.Role.TheVariants.{Initiator, Responder}
use Rattle.noise_names.specs.declared.token.Token.{Token}
use Rattle.noise_names.specs.Plan.{Plan, places_of}
use Rattle.noise_names.specs.Validity.{occurs, IsValid}
use Rattle.noise_keys.specs.declared.keys.Own.{Own}
use Rattle.noise_keys.specs.KeyTokens.{own_at}
use Rattle.noise_handshake.specs.Party.{dh_result_of, remote_at}
use Rattle.noise_handshake.specs.Setup.{public_keys}
use Rattle.noise_handshake.specs.Counterparts.{is_dh, shown_before}
use Rattle.noise_duel.specs.Messages.{Start}
use Rattle.noise_duel.specs.Agreement.{KeysAgree, IsSetUp}
use Rattle.noise_duel.specs.Conversation.{KeyMaterial, IsPart}

-- Two parties set up alike: without a fault, with one prologue and the same psks, each with the keys of the other's
-- pre-message and no others; and the keys agree.
pub record AreSetUpAlike (p : Plan) (prologue : List ℕ) (a b : Start) : Type 0 where
  pub initiator : IsSetUp p Initiator a
  pub responder : IsSetUp p Responder b
  pub prologue_is : a.prologue ≡ prologue
  pub prologue_too : b.prologue ≡ prologue
  pub psks : b.psks ≡ a.psks
  pub known : a.remote ≡ shown_before p Responder b.own
  pub known_too : b.remote ≡ shown_before p Initiator a.own
  pub keys : KeysAgree a b

-- the public keys of a party have 32 bytes, as those that its code hands out
abbrev pub HasLongKeys : Start → Type 0
HasLongKeys s = (x : Own) (k : List ℕ) → s.own x ≡ Some k → length k ≡ 32

-- both parties have a DH result at each DH of the pattern
abbrev pub HasDhResults : Plan → Start → Start → Type 0
HasDhResults p a b = (t : Token) → is_dh t ≡ true → occurs t (places_of p) ≡ true
    → (is_some (dh_result_of a.agree (own_at Initiator t) (remote_at Initiator (public_keys b.own) t)) ≡ true)
    × (is_some (dh_result_of b.agree (own_at Responder t) (remote_at Responder (public_keys a.own) t)) ≡ true)

-- The key material of two parties: both parties' public keys, the initiator's DH result at each DH token, and the psks.
-- A key that is missing is 32 zeros here, and a DH result that is missing no bytes: no message of a pattern that the
-- parties are set up for has them.
abbrev pub absent_key : List ℕ
absent_key = replicate 32 0

abbrev pub public_key_or_zeros : Start → Start → Role → Own → List ℕ
public_key_or_zeros a b Initiator x = unwrap_or (a.own x) absent_key
public_key_or_zeros a b Responder x = unwrap_or (b.own x) absent_key

abbrev pub material_of : Start → Start → KeyMaterial
material_of a b = record {
  public = public_key_or_zeros a b;
  dh_result = λ t. unwrap_or (dh_result_of a.agree (own_at Initiator t) (remote_at Initiator (public_keys b.own) t)) [];
  psks = a.psks;
}

-- public keys of 32 bytes, and each party has its part of the key material
pub record HaveOneMaterial (p : Plan) (prologue : List ℕ) (a b : Start) : Type 0 where
  pub long : (role : Role) (k : Own) → length ((material_of a b).public role k) ≡ 32
  pub initiator : IsPart (material_of a b) p Initiator prologue a
  pub responder : IsPart (material_of a b) p Responder prologue b

-- Two parties of a valid pattern that are set up alike have their parts of one key material.
abbrev pub AlikeAreParts : Type 0
AlikeAreParts = (p : Plan) (prologue : List ℕ) (a b : Start) → IsValid p → AreSetUpAlike p prologue a b
    → HasLongKeys a → HasLongKeys b → HasDhResults p a b → HaveOneMaterial p prologue a b
