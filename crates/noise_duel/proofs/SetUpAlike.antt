-- Two parties that are set up alike have their parts of one key material.
use Rattle.std.proofs.Common.{rules, ◌≡◌, ℕ, List, length, refl, ap, sym, ◌∙◌, []}
use Rattle.std.specs.Prelude.{true, Option, Some, None}
use Rattle.noise_duel.proofs.Common.{is_some, unwrap_or, Role, Initiator, Responder, Token, E, S, Plan, places_of, is_among, occurs, IsValid, Own, Ephemeral, Static, Remote, dh_result_of, own_at, remote_at, has_before, public_keys, token_of, is_dh, DhResultsAgree, LawsBelow, Start, IsSetUp, KeyMaterial, IsPart, public_keys_in}
use Rattle.noise_handshake.specs.RemoteKeys.{remote-own}
use Rattle.noise_duel.specs.SetUpAlike.{AreSetUpAlike, HasLongKeys, HasDhResults, AlikeAreParts, material_of, absent_key, public_key_or_zeros}
use Rattle.noise_duel.proofs.Parts.{if-same}

there-is : (o : Option (List ℕ)) (d : List ℕ) → is_some o ≡ true → o ≡ Some (unwrap_or o d)
there-is None d h = cc
there-is (Some x) d h = refl

long-or : (o : Option (List ℕ)) → ((k : List ℕ) → o ≡ Some k → length k ≡ 32) → length (unwrap_or o absent_key) ≡ 32
long-or None f = refl
long-or (Some k) f = f k refl

set-own : LawsBelow → (p : Plan) (role : Role) (s : Start) → IsSetUp p role s → (x : Own) → is_among role (token_of x) (places_of p) ≡ true
    → is_some (s.own x) ≡ true
set-own laws p role s h x k = laws.set_own p role s.own s.remote (length s.psks) h x k

-- two DH results that are there are one
dh-results-same : (agree their_agree : Own → List ℕ → Option (List ℕ)) (x y : Own) (mine theirs : Option (List ℕ))
    → ((k l r s : List ℕ) → mine ≡ Some k → theirs ≡ Some l → agree x l ≡ Some r → their_agree y k ≡ Some s → r ≡ s)
    → is_some (dh_result_of agree x theirs) ≡ true → is_some (dh_result_of their_agree y mine) ≡ true → dh_result_of agree x theirs ≡ dh_result_of their_agree y mine
dh-results-same agree their_agree x y (Some k) (Some l) f g h = search rules
dh-results-same agree their_agree x y _ _ f g h = cc

abbrev true-key : (s : Start) → Own → List ℕ
true-key s x = unwrap_or (s.own x) absent_key

module _ (laws : LawsBelow) (p : Plan) (prologue : List ℕ) (a b : Start) (valid : IsValid p) (alike : AreSetUpAlike p prologue a b)
    (dh_results : HasDhResults p a b) where
  abbrev dh-result-at : Token → Option (List ℕ)
  dh-result-at t = dh_result_of a.agree (own_at Initiator t) (remote_at Initiator (public_keys b.own) t)

  abbrev material : KeyMaterial
  material = material_of a b

  own-a : (x : Own) → is_among Initiator (token_of x) (places_of p) ≡ true → a.own x ≡ Some (true-key a x)
  own-a x h = there-is (a.own x) absent_key (set-own laws p Initiator a alike.initiator x h)

  own-b : (x : Own) → is_among Responder (token_of x) (places_of p) ≡ true → b.own x ≡ Some (true-key b x)
  own-b x h = there-is (b.own x) absent_key (set-own laws p Responder b alike.responder x h)

  meets : DhResultsAgree p Initiator a.own a.agree b.own b.agree
  meets t d h =
      let x : Own = own_at Initiator t in
      let y : Own = own_at Responder t in
      let e = remote-own Initiator b.own t in
      let f = remote-own Responder a.own t in
      ap (dh_result_of a.agree x) e
      ∙ dh-results-same a.agree b.agree x y (a.own x) (b.own y) (alike.keys x y)
      (sym (ap (λ o. is_some (dh_result_of a.agree x o)) e) ∙ (dh_results t d h).0) (sym (ap (λ o. is_some (dh_result_of b.agree y o)) f) ∙ (dh_results t d h).1)
      ∙ ap (dh_result_of b.agree y) (sym f)

  dh-results-a : (t : Token) → is_dh t ≡ true → occurs t (places_of p) ≡ true
      → dh_result_of a.agree (own_at Initiator t) (remote_at Initiator (public_keys_in material Responder) t) ≡ Some (unwrap_or (dh-result-at t) [])
  dh-results-a t d h = search (rules, there-is)

  dh-results-b : (t : Token) → is_dh t ≡ true → occurs t (places_of p) ≡ true
      → dh_result_of b.agree (own_at Responder t) (remote_at Responder (public_keys_in material Initiator) t) ≡ Some (unwrap_or (dh-result-at t) [])
  dh-results-b t d h = search (rules, meets, there-is)

  part-a : IsPart material p Initiator prologue a
  part-a = record {
    prologue_is = alike.prologue_is;
    own = own-a;
    remote_e = ap (λ (r : Remote). r.e) alike.known
        ∙ if-same (has_before p Responder E) (b.own Ephemeral) (Some (true-key b Ephemeral)) (λ h. own-b Ephemeral (laws.before_is_among p Responder E h));
    remote_s = ap (λ (r : Remote). r.s) alike.known
        ∙ if-same (has_before p Responder S) (b.own Static) (Some (true-key b Static)) (λ h. own-b Static (laws.before_is_among p Responder S h));
    dh_results = dh-results-a;
    psks = refl;
  }

  part-b : IsPart material p Responder prologue b
  part-b = record {
    prologue_is = alike.prologue_too;
    own = own-b;
    remote_e = ap (λ (r : Remote). r.e) alike.known_too
        ∙ if-same (has_before p Initiator E) (a.own Ephemeral) (Some (true-key a Ephemeral)) (λ h. own-a Ephemeral (laws.before_is_among p Initiator E h));
    remote_s = ap (λ (r : Remote). r.s) alike.known_too
        ∙ if-same (has_before p Initiator S) (a.own Static) (Some (true-key a Static)) (λ h. own-a Static (laws.before_is_among p Initiator S h));
    dh_results = dh-results-b;
    psks = alike.psks;
  }

  long-in : HasLongKeys a → HasLongKeys b → (role : Role) (k : Own) → length (public_key_or_zeros a b role k) ≡ 32
  long-in f g Initiator k = long-or (a.own k) (f k)
  long-in f g Responder k = long-or (b.own k) (g k)

pub alike-are-parts : LawsBelow → AlikeAreParts
alike-are-parts laws p prologue a b valid alike f g dh_results = search (long-in, part-a, part-b)
