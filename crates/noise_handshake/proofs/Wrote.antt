-- What a handshake that writes asks and leaves.
use Rattle.std.proofs.Common.{rules, ◌≡◌, ℕ, ◌+◌, ◌<◌, ◌≤◌, List, Bool, true, false, length, sym, ap, refl, ◌∙◌, arith, not}
use Rattle.std.specs.Prelude.{nat_lt, if◌then◌else◌}
use Rattle.noise_handshake.proofs.Common.{nat_tests, Option, None, Some, ◌==◌, Token, Role, Initiator, Responder, other, turn_from, has_psk, has_key, overhead_of, keyed, Own, WriteFault, Remote, Writer, writer, Given, LacksDhResultAt, Writes, LacksDhResult, message_bytes, added_width, Party, Speaks, tokens_at, tokens_now, Speaking, HandshakeValue, IsAgreement, DoesNotWrite, write_fault, is_turn, length_now, length_unless, message_len_of, IsSound, passed_places, party_of, same_role-true}
use Rattle.std.proofs.lemmas.Bool.{eq-eqb}
use Rattle.noise_handshake.proofs.Places.{overhead-is}
use Rattle.noise_handshake.specs.declared.faults.WriteFault.TheVariants as write
use Rattle.noise_keys.specs.Keys.{KeyPairs}

-- what no fault reports
record Clear (ended all ours long : Bool) : Type 0 where
  going : ended ≡ false
  more : all ≡ false
  turn : ours ≡ true
  short : long ≡ false

clear : (ended all ours long : Bool)
    → (if ended then Some write.Ended else if all then Some write.Done else if not ours then Some write.NotYourTurn
    else if long then Some write.TooLong else None) ≡ None
    → Clear ended all ours long
clear true all ours long e = absurd (cc)
clear false true ours long e = absurd (cc)
clear false false false long e = absurd (cc)
clear false false true true e = absurd (cc)
clear false false true false e = record { going = refl; more = refl; turn = refl; short = refl }

module _ {K : Type 0} (pairs : K → KeyPairs) (h : HandshakeValue K) (s : IsSound pairs h) (len : ℕ) (none : write_fault h len ≡ None) where
  clear-now : Clear h.ended (h.passed == length h.pattern.messages) (is_turn h.role h.passed) (nat_lt 65535 (length_now h len))
  clear-now = clear h.ended (h.passed == length h.pattern.messages) (is_turn h.role h.passed) (nat_lt 65535 (length_now h len)) none

  -- there is a message, of this party
  pub writes-due : h.passed < length h.pattern.messages
  writes-due = search rules

  pub writes-turn : turn_from Initiator h.passed ≡ h.role
  writes-turn = same_role-true (turn_from Initiator h.passed) h.role clear-now.turn

  -- its length
  pub writes-short : overhead_of h.pattern (h.passed + 1) + len ≤ 65535
  writes-short = let test : nat_lt 65535 (overhead_of h.pattern (h.passed + 1) + len) ≡ false = clear-now.short in grind (arith, nat_tests)

  pub writes-length : message_len_of h len ≡ Some (length_now h len)
  writes-length = ap (λ (fault : Option WriteFault). length_unless fault (length_now h len)) none

  module _ (has_psks : Bool) (tokens : List Token) (b : has_psks ≡ has_psk h.pattern) (e : tokens ≡ tokens_at h.pattern.messages h.passed) where
    pub writes-added : added_width has_psks (keyed h.state) tokens ≡ overhead_of h.pattern (h.passed + 1)
    writes-added =
        ap (λ (c : Bool). added_width c (keyed h.state) tokens) b ∙ ap (λ (c : Bool). added_width (has_psk h.pattern) c tokens) s.keyed
        ∙ ap (λ (ts : List Token). added_width (has_psk h.pattern) (has_key h.pattern (passed_places h.pattern h.passed)) ts) e
        ∙ sym (overhead-is h.pattern h.passed writes-due)

  speaks : Speaks (party_of pairs h)
  speaks = record { going = clear-now.going; more = writes-due; turn = writes-turn }

  pub speaking : (has_psks : Bool) (psks : List (List ℕ)) (tokens : List Token) → has_psks ≡ has_psk h.pattern → psks ≡ h.psks
      → tokens ≡ tokens_now (party_of pairs h)
      → Speaking (party_of pairs h) h.role has_psks (pairs h.keys).public (pairs h.keys).agree psks h.remote tokens
  speaking has_psks psks tokens b d e = record {
    speaks = speaks;
    role_is = refl;
    psks_is = b;
    own_is = refl;
    agree_is = refl;
    psks_are = d;
    known_is = refl;
    tokens_are = e;
  }

-- what holds of a party's parts holds of the party that it speaks for
module _ (v : Party) (role : Role) (has_psks : Bool) (own : Own → Option (List ℕ)) (agree : Own → List ℕ → Option (List ℕ)) (psks : List (List ℕ))
    (known : Remote) (tokens : List Token)
    (l : Speaking v role has_psks own agree psks known tokens) where
  pub for-view : (P : Writer → Remote → List (List ℕ) → List Token → Type 0)
      → P (record { role = role; has_psks = has_psks; own = own; agree = agree }) known psks tokens
      → P (writer v) v.remote v.psks (tokens_now v)
  for-view P h = search rules

  pub written : (payload : List ℕ) (xs : List (List ℕ)) (m : List ℕ) → length m ≤ 65535
      → Given (record { role = role; has_psks = has_psks; own = own; agree = agree }) known psks tokens xs → m ≡ message_bytes has_psks v.state tokens xs payload
      → Writes v payload xs m
  written payload xs m fits g e = record {
    speaks = l.speaks;
    given = for-view (λ w z s ts. Given w z s ts xs) g;
    spelled = e ∙ ap (λ (z : Bool). message_bytes z v.state tokens xs payload) l.psks_is
        ∙ ap (λ (ts : List Token). message_bytes (has_psk v.pattern) v.state ts xs payload) l.tokens_are;
    fits = fits;
  }

  pub lacking : (k : ℕ) → LacksDhResultAt (record { role = role; has_psks = has_psks; own = own; agree = agree }) known psks tokens k → LacksDhResult v k
  lacking k h = record { speaks = l.speaks; lacks = for-view (λ w z s ts. LacksDhResultAt w z s ts k) h }

other-apart : (role turn : Role) → turn ≡ other role → turn ≡ role → ⊥
other-apart Initiator turn e f = let bad : Initiator ≡ Responder = sym f ∙ e in cc
other-apart Responder turn e f = let bad : Responder ≡ Initiator = sym f ∙ e in cc

-- where a message is due none of the faults holds that come before its tokens
module _ {K : Type 0} (pairs : K → KeyPairs) (h : HandshakeValue K) (len : ℕ) (none : write_fault h len ≡ None) where
  clear-here : Clear h.ended (h.passed == length h.pattern.messages) (is_turn h.role h.passed) (nat_lt 65535 (length_now h len))
  clear-here = clear h.ended (h.passed == length h.pattern.messages) (is_turn h.role h.passed) (nat_lt 65535 (length_now h len)) none

  pub due-not : (fault : WriteFault) → (IsAgreement fault → ⊥) → DoesNotWrite (party_of pairs h) len fault → ⊥
  due-not write.Ended far d = let e : true ≡ false = sym d ∙ clear-here.going in cc
  due-not write.Done far d = let e : true ≡ false = sym (eq-eqb h.passed (length h.pattern.messages) d.1) ∙ clear-here.more in cc
  due-not write.NotYourTurn far d =
      other-apart h.role (turn_from Initiator h.passed) d.turn (same_role-true (turn_from Initiator h.passed) h.role clear-here.turn)
  due-not write.TooLong far d = let test : nat_lt 65535 (overhead_of h.pattern (h.passed + 1) + len) ≡ false = clear-here.short in grind (arith, nat_tests, d.1)
  due-not (write.Agreement token) far d = far tt
