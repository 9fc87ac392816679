-- How far both ends have come after lines that come through.
use Rattle.std.proofs.Common.{◌≡◌, ◌∙◌, refl, ap, ap₂, sym, ℕ, ◌==◌, min, List, [], ◌∷◌, codes, length, drop, arith}
use Rattle.std.proofs.lemmas.Bool.Decides.{nat_tests}
use Rattle.noise_transcript.proofs.Common.{Bool, true, false, not, nat_lt, decimal, if◌then◌else◌, Role, Initiator, Responder, Plan, is_one_way, other, end_after, messages_by, Start, Sides, role_word, line_of, progress_words, state_line, state_lines, reached_line}
use Rattle.noise_state.specs.declared.symmetric.SymmetricState.{SymmetricState}
use Rattle.noise_session.specs.Ends.{EndState}
use Rattle.noise_session.specs.Progress.Progress.{Handshaking, Open, HasEnded}
use Rattle.noise_vectors.specs.HexWord.{hex_of}

-- ---- the line of an end

-- what is known of an end
record IsThere (p : Plan) (lines : List (Role × List ℕ)) (h : List ℕ) (role : Role) (v : EndState) : Type 0 where
  going : v.party.ended ≡ false
  pattern : v.party.pattern ≡ p
  passed : v.party.passed ≡ min (length p.messages) (length lines)
  sent : v.sent ≡ messages_by role (drop (length p.messages) lines)
  received : v.received ≡ messages_by (other role) (drop (length p.messages) lines)
  hash_is : v.party.state.hash ≡ h

abbrev transport_words : ℕ → ℕ → List ℕ → List (List ℕ)
transport_words sent received h = codes "transport" ∷ decimal sent ∷ decimal received ∷ hex_of h ∷ []

abbrev handshake_words : ℕ → List (List ℕ)
handshake_words passed = codes "handshake" ∷ decimal passed ∷ []

going-words : (ended all one_way : Bool) (plan : Plan) (role : Role) (passed sent received : ℕ) (h : List ℕ) → ended ≡ false
    → progress_words (if ended then HasEnded role else if all then Open role one_way sent received else Handshaking plan role passed) h
    ≡ (if all then transport_words sent received h else handshake_words passed)
going-words true all one_way plan role passed sent received h e = absurd (cc)
going-words false true one_way plan role passed sent received h e = refl
going-words false false one_way plan role passed sent received h e = refl

either : (less all : Bool) (T U H G : List (List ℕ)) → less ≡ not all → T ≡ U → (all ≡ false → H ≡ G)
    → (if all then T else H) ≡ (if less then G else U)
either less true T U H G e f g = f ∙ ap (λ (b : Bool). if b then G else U) (sym e)
either less false T U H G e f g = g refl ∙ ap (λ (b : Bool). if b then G else U) (sym e)

less-than-all : (n k passed : ℕ) → passed ≡ min k n → nat_lt n k ≡ not (passed == k)
less-than-all n k passed e = grind (arith, nat_tests)

all-of-them : (n k passed : ℕ) → passed ≡ min k n → (passed == k) ≡ false → passed ≡ n
all-of-them n k passed e f = grind (arith, nat_tests)

line-there : (p : Plan) (lines : List (Role × List ℕ)) (h : List ℕ) (role : Role) (v : EndState) → IsThere p lines h role v
    → state_line role v ≡ reached_line p lines h role
line-there p lines h role v is =
    let k : ℕ = length p.messages in
    let n : ℕ = length lines in
    let all : Bool = v.party.passed == length v.party.pattern.messages in
    let same : all ≡ (v.party.passed == k) = ap (λ (q : Plan). v.party.passed == length q.messages) is.pattern in
    let less : nat_lt n k ≡ not all = less-than-all n k v.party.passed is.passed ∙ ap not (sym same) in
    let T : List (List ℕ) = transport_words v.sent v.received v.party.state.hash in
    let U : List (List ℕ) = transport_words (messages_by role (drop k lines)) (messages_by (other role) (drop k lines)) h in
    let sent : T ≡ U =
    ap₂ (λ (i j : ℕ). transport_words i j v.party.state.hash) is.sent is.received
    ∙ ap (λ (x : List ℕ). transport_words (messages_by role (drop k lines)) (messages_by (other role) (drop k lines)) x) is.hash_is in
    ap (λ (ws : List (List ℕ)). line_of (codes "state" ∷ role_word role ∷ ws))
    (going-words v.party.ended all (is_one_way v.party.pattern) v.party.pattern v.party.role v.party.passed v.sent v.received v.party.state.hash is.going
    ∙ either (nat_lt n k) all T U (handshake_words v.party.passed) (handshake_words n) less sent
    (λ (e : all ≡ false). ap handshake_words (all-of-them n k v.party.passed is.passed (sym same ∙ e))))

-- ---- both ends

module _ (p : Plan) (a b : Start) (interval : ℕ) (r : SymmetricState) (lines : List (Role × List ℕ)) (d : Sides)
    (there : d.initiator.state ≡ end_after p Initiator a b interval r lines) (back : d.responder.state ≡ end_after p Responder b a interval r lines) where
  is-there : (role : Role) (s theirs : Start) → IsThere p lines r.hash role (end_after p role s theirs interval r lines)
  is-there role s theirs = record { going = refl; pattern = refl; passed = refl; sent = refl; received = refl; hash_is = refl }

  pub both-there : state_lines d ≡ reached_line p lines r.hash Initiator ∷ reached_line p lines r.hash Responder ∷ []
  both-there =
      ap₂ (λ (x y : List ℕ). x ∷ y ∷ [])
      (ap (state_line Initiator) there ∙ line-there p lines r.hash Initiator (end_after p Initiator a b interval r lines) (is-there Initiator a b))
      (ap (state_line Responder) back ∙ line-there p lines r.hash Responder (end_after p Responder b a interval r lines) (is-there Responder b a))
