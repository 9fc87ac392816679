-- What a setup without a fault has.
use Rattle.std.proofs.Common.{◌≡◌, ℕ, List, refl, ap, sym, ◌∙◌, arith}
use Rattle.std.specs.Prelude.{Bool, true, false, not, is_some, if◌then◌else◌}
use Rattle.noise_handshake.proofs.Common.{nat_tests, ◌||◌, ◌&&◌, ◌==◌, ◌↔◌, IsTrue, IsFalse, Option, Some, None, is_none, Role, Initiator, Responder, Token, E, S, other, Plan, places_of, message_places, is_among, Own, Ephemeral, Static, Remote, keys_of, public_keys, psks_of, setup_fault, lacks_own, lacks_remote, has_unexpected, has_before, token_of, or_parts}
use Rattle.noise_keys.specs.declared.faults.SetupFault.{SetupFault}
use Rattle.noise_keys.specs.declared.faults.SetupFault.TheVariants.{EphemeralMissing, StaticMissing, RemoteMissing, RemoteUnexpected, PskCount}
use Rattle.noise_handshake.specs.inner.PreMessage.{HasPre}
use Rattle.noise_keys.specs.TokenPlaces.{matches-places_of}

pub flips : (b x : Bool) → (IsTrue b ↔ IsFalse x) → not b ≡ x
flips true x e = sym (e.0 refl)
flips false true e = refl
flips false false e = absurd (let h : false ≡ true = e.1 refl in cc)

pub implied : (a : Bool) (o : Option (List ℕ)) → (a && is_none o) ≡ false → a ≡ true → is_some o ≡ true
implied true None e h = absurd (cc)
implied true (Some x) e h = refl
implied false o e h = absurd (cc)

exactly : (a : Bool) (o : Option (List ℕ)) → (a && is_none o) ≡ false → (is_some o && not a) ≡ false → is_some o ≡ a
exactly true None e h = absurd (cc)
exactly true (Some x) e h = refl
exactly false None e h = refl
exactly false (Some x) e h = absurd (cc)

same-count : (n m : ℕ) → not (n == m) ≡ false → n ≡ m
same-count n m e = by (n == m) refl e where
  by : (b : Bool) → (n == m) ≡ b → not b ≡ false → n ≡ m
  by true h k = grind (arith, nat_tests)
  by false h k = absurd (cc)

-- five tests of which none holds
pub record NoFault (a b c d e : Bool) : Type 0 where
  pub first : a ≡ false
  pub second : b ≡ false
  pub third : c ≡ false
  pub fourth : d ≡ false
  pub fifth : e ≡ false

abbrev pub first_of : Bool → Bool → Bool → Bool → Bool → Option SetupFault
first_of a b c d e =
    if a then Some EphemeralMissing
    else if b then Some StaticMissing
    else if c then Some RemoteMissing
    else if d then Some RemoteUnexpected
    else if e then Some PskCount
    else None

no-fault : (a b c d e : Bool) → first_of a b c d e ≡ None → NoFault a b c d e
no-fault true b c d e h = absurd (cc)
no-fault false true c d e h = absurd (cc)
no-fault false false true d e h = absurd (cc)
no-fault false false false true e h = absurd (cc)
no-fault false false false false true h = absurd (cc)
no-fault false false false false false h = record { first = refl; second = refl; third = refl; fourth = refl; fifth = refl }

module _ (p : Plan) (role : Role) (own : Own → Option (List ℕ)) (remote : Remote) (n : ℕ) (none : setup_fault p role own remote n ≡ None) where
  tests : NoFault (lacks_own p role E (own Ephemeral)) (lacks_own p role S (own Static)) (lacks_remote p role remote) (has_unexpected p role remote)
      (not (n == psks_of p.messages))
  tests = no-fault (lacks_own p role E (own Ephemeral)) (lacks_own p role S (own Static)) (lacks_remote p role remote) (has_unexpected p role remote)
      (not (n == psks_of p.messages)) none

  pub own-e : is_among role E (places_of p) ≡ true → is_some (own Ephemeral) ≡ true
  own-e = implied (is_among role E (places_of p)) (own Ephemeral) tests.first

  pub own-s : is_among role S (places_of p) ≡ true → is_some (own Static) ≡ true
  own-s = implied (is_among role S (places_of p)) (own Static) tests.second

  pub counted : n ≡ psks_of p.messages
  counted = same-count n (psks_of p.messages) tests.fifth

  pub own-there : (x : Own) → is_among role (token_of x) (places_of p) ≡ true → is_some (own x) ≡ true
  own-there Ephemeral = own-e
  own-there Static = own-s

  abbrev before : Token → Bool
  before t = has_before p (other role) t

  pub remote-exactly : (is_some remote.e ≡ has_before p (other role) E) × (is_some remote.s ≡ has_before p (other role) S)
  remote-exactly = (
    exactly (before E) remote.e (or_parts (before E && is_none remote.e) (before S && is_none remote.s) tests.third).0
        (or_parts (is_some remote.e && not (before E)) (is_some remote.s && not (before S)) tests.fourth).0,
    exactly (before S) remote.s (or_parts (before E && is_none remote.e) (before S && is_none remote.s) tests.third).1
        (or_parts (is_some remote.e && not (before E)) (is_some remote.s && not (before S)) tests.fourth).1,
  )

  own-pre : HasPre p role (public_keys own)
  own-pre = record {
    e = λ h. own-e (matches-places_of p role E ∙ ap (λ (b : Bool). b || is_among role E (message_places Initiator 1 p.messages)) h);
    s = λ h. own-s (matches-places_of p role S ∙ ap (λ (b : Bool). b || is_among role S (message_places Initiator 1 p.messages)) h);
  }

  other-pre : HasPre p (other role) remote
  other-pre = record { e = λ h. remote-exactly.0 ∙ h; s = λ h. remote-exactly.1 ∙ h }

-- the keys of both pre-messages
pub has-pre : (p : Plan) (party role : Role) (own : Own → Option (List ℕ)) (remote : Remote) (n : ℕ) → setup_fault p role own remote n ≡ None
    → HasPre p party (keys_of party role (public_keys own) remote)
has-pre p Initiator Initiator own remote n e = own-pre p Initiator own remote n e
has-pre p Initiator Responder own remote n e = other-pre p Responder own remote n e
has-pre p Responder Initiator own remote n e = other-pre p Initiator own remote n e
has-pre p Responder Responder own remote n e = own-pre p Responder own remote n e
