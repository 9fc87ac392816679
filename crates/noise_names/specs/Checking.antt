-- What the check records of the places that it has passed, and which rules the next place breaks by that. No public
-- contract cites this file.
use Rattle.std.specs.Prelude.{◌≡◌, ℕ, ◌+◌, if◌then◌else◌, Bool, not, ◌&&◌, ◌||◌, List, [], ◌∷◌, ◌++◌, Option, Some, None, Result, MatchResult}
use Rattle.noise_names.specs.declared.token.Role.{Role}
use Rattle.noise_names.specs.declared.token.Role.TheVariants.{Initiator, Responder}
use Rattle.noise_names.specs.declared.token.Token.TheVariants.{E, S, Ee, Es, Se, Ss, Psk}
use Rattle.noise_names.specs.declared.faults.RuleFault.{RuleFault}
use Rattle.noise_names.specs.declared.seen.Seen.{Seen}
use Rattle.noise_names.specs.Tokens.{same_role}
use Rattle.noise_names.specs.Plan.{Place, Step, does, payload, transport}
use Rattle.noise_names.specs.Validity.{is_among, occurs, is_at, unless_satisfied, comes_with, first_fault_from}

-- what is recorded of the places that were passed
unfoldable pub seen_of : List Place → Seen
seen_of places = record {
  initiator_e = is_among Initiator E places;
  initiator_s = is_among Initiator S places;
  responder_e = is_among Responder E places;
  responder_s = is_among Responder S places;
  ee = occurs Ee places;
  es = occurs Es places;
  se = occurs Se places;
  ss = occurs Ss places;
  psk = occurs Psk places;
}

-- the same with one place more
abbrev pub with_place : Seen → Place → Seen
with_place seen p = record {
  initiator_e = (is_at E p.step && same_role p.party Initiator) || seen.initiator_e;
  initiator_s = (is_at S p.step && same_role p.party Initiator) || seen.initiator_s;
  responder_e = (is_at E p.step && same_role p.party Responder) || seen.responder_e;
  responder_s = (is_at S p.step && same_role p.party Responder) || seen.responder_s;
  ee = is_at Ee p.step || seen.ee;
  es = is_at Es p.step || seen.es;
  se = is_at Se p.step || seen.se;
  ss = is_at Ss p.step || seen.ss;
  psk = is_at Psk p.step || seen.psk;
}

-- whether the party has sent its ephemeral key, and its static one
abbrev pub e_of : Seen → Role → Bool
e_of seen Initiator = seen.initiator_e
e_of seen Responder = seen.responder_e

abbrev pub s_of : Seen → Role → Bool
s_of seen Initiator = seen.initiator_s
s_of seen Responder = seen.responder_s

-- the rules that a place breaks, by the record of the earlier places
abbrev pub dh_rules : Bool → Bool → Bool → List ℕ
dh_rules first second done = unless_satisfied 1 (first && second) ++ unless_satisfied 3 (not done)

abbrev pub is_fresh : Seen → Role → Bool
is_fresh seen Initiator = comes_with seen.se seen.ee && comes_with seen.ss seen.es
is_fresh seen Responder = comes_with seen.es seen.ee && comes_with seen.ss seen.se

abbrev pub encrypting_rules : Seen → Role → List ℕ
encrypting_rules seen party =
    unless_satisfied 4 (is_fresh seen party) ++ unless_satisfied 5 (comes_with seen.psk (e_of seen party))

abbrev pub rules_by : Seen → Role → Step → List ℕ
rules_by seen party (does E) = unless_satisfied 2 (not (e_of seen party))
rules_by seen party (does S) = unless_satisfied 2 (not (s_of seen party)) ++ encrypting_rules seen party
rules_by seen party (does Ee) = dh_rules seen.initiator_e seen.responder_e seen.ee
rules_by seen party (does Es) = dh_rules seen.initiator_e seen.responder_s seen.es
rules_by seen party (does Se) = dh_rules seen.initiator_s seen.responder_e seen.se
rules_by seen party (does Ss) = dh_rules seen.initiator_s seen.responder_s seen.ss
rules_by seen party (does Psk) = []
rules_by seen party payload = encrypting_rules seen party
rules_by seen party transport = encrypting_rules seen party

-- the first of some rules
abbrev pub lowest_of : List ℕ → Option ℕ
lowest_of [] = None
lowest_of (rule ∷ _) = Some rule

-- From the record of the earlier places: these were passed, and the record is now that of the earlier places and these;
-- or the first fault is among them.
abbrev pub Walks : Seen → Seen → List Place → Result (Unit {0}) RuleFault → Type 0
Walks old new places result =
    (earlier later : List Place) → old ≡ seen_of earlier →
    MatchResult result
    (λ _. (new ≡ seen_of (earlier ++ places))
    × (first_fault_from earlier (places ++ later) ≡ first_fault_from (earlier ++ places) later))
    (λ fault. first_fault_from earlier (places ++ later) ≡ Some fault)

-- whether there is a key, by the record of the earlier places and whether the pattern has a psk token
abbrev pub key_by : Seen → Bool → Bool
key_by seen psk =
    seen.ee || seen.es || seen.se || seen.ss || seen.psk || (psk && (seen.initiator_e || seen.responder_e))

-- what a place adds to its message, by the record of the earlier places
abbrev pub tag_by : Seen → Bool → ℕ
tag_by seen psk = if key_by seen psk then 16 else 0

abbrev pub added_by : Seen → Bool → Step → ℕ
added_by seen psk (does E) = 32
added_by seen psk (does S) = 32 + tag_by seen psk
added_by seen psk payload = tag_by seen psk
added_by seen psk _ = 0
