use Rattle.std.proofs.Common.{◌≡◌, ℕ, ◌+◌, ◌<◌, List, length, take, refl, sym, ◌∙◌, ap, subst, arith}
use Rattle.std.proofs.lemmas.List.{length-map, take_all}
use Rattle.noise_names.specs.declared.token.Role.{Role}
use Rattle.noise_names.specs.declared.token.Role.TheVariants.{Initiator, Responder}
use Rattle.noise_names.specs.Names.{name_bytes}
use Rattle.noise_names.specs.Overhead.{has_key}
use Rattle.noise_names.specs.Plan.{Plan, has_psk}
use Rattle.noise_state.specs.declared.symmetric.SymmetricState.{SymmetricState}
use Rattle.noise_handshake.specs.Length.{Carry}
use Rattle.noise_handshake.specs.Matching.{IsKeyed, IsKeyedAt, after_message, after_own}
use Rattle.noise_handshake.specs.Message.{after_payload}
use Rattle.noise_handshake.specs.Party.{Party, Accepts, tokens_at, tokens_now}
use Rattle.noise_handshake.specs.Passed.{passed_places}
use Rattle.noise_handshake.specs.Setup.{keys_of, public_keys}
use Rattle.noise_handshake.specs.Writing.{Writes}
use Rattle.noise_duel.specs.Conversation.{HaveParts, handshake_payloads, say_events}
use Rattle.noise_duel.specs.Messages.{Exchanged, HandshakeMessage, begun_as}
use Rattle.noise_duel.specs.Messages.Exchanged.{none, wrote, took}
use Rattle.noise_duel.specs.SetUpAlike.{material_of}
use Rattle.noise_tests.proofs.tests.finished.can_finish.Goals as goal

same-pattern : (v w : Party) (ps : List HandshakeMessage) → Exchanged v ps w → w.pattern ≡ v.pattern
same-pattern v w ps (none _) = refl
same-pattern v w ps (wrote _ _ p more here on) = same-pattern (after_own v p.carried p.payload) w more on
same-pattern v w ps (took _ _ p more here on) = same-pattern (after_message v p.carried p.payload) w more on

module _
    (next : (p : Plan) (n : ℕ) (r : SymmetricState) (xs : List (List ℕ)) (payload : List ℕ) → n < length p.messages → Carry (tokens_at p.messages n) xs
    → IsKeyedAt p n r → IsKeyedAt p (n + 1) (after_payload (has_psk p) r (tokens_at p.messages n) xs payload))
    (written : (v : Party) (payload message : List ℕ) (xs : List (List ℕ)) → Writes v payload xs message → Carry (tokens_now v) xs)
    (accepted : (v : Party) (payload message : List ℕ) (xs : List (List ℕ)) → Accepts v message xs payload → Carry (tokens_now v) xs) where
  -- where there is a key is as the pattern has it
  keyed-on : (v w : Party) (ps : List HandshakeMessage) → Exchanged v ps w → IsKeyed v → IsKeyed w
  keyed-on v w ps (none _) k = k
  keyed-on v w ps (wrote _ _ p more here on) k =
      keyed-on (after_own v p.carried p.payload) w more on
      (next v.pattern v.passed v.state p.carried p.payload here.speaks.more (written v p.payload p.message p.carried here) k)
  keyed-on v w ps (took _ _ p more here on) k =
      keyed-on (after_message v p.carried p.payload) w more on
      (next v.pattern v.passed v.state p.carried p.payload here.listens.more (accepted v p.payload p.message p.carried here) k)

payload-count : (p : Plan) (lines : List (Role × List ℕ)) → length lines ≡ length p.messages → length (handshake_payloads p lines) ≡ length p.messages
payload-count p lines e =
    length-map (take (length p.messages) lines) (λ (l : Role × List ℕ). l.1)
    ∙ ap length (take_all (length p.messages) lines (omega (arith, e))) ∙ e

pub returns : goal.returns
returns c p prologue a b lines pattern valid alike long there results turns count some keyed =
    let one = c.alike_are_parts.ensures p prologue a b valid alike long there results in
    let parts : HaveParts (material_of a b) p prologue a b =
    record { pattern = pattern; valid = valid; long = one.long; initiator = one.initiator; responder = one.responder } in
    let made = c.messages_come_through.ensures.can (material_of a b) p prologue a b 0 lines parts turns in
    let through = (c.messages_come_through.ensures.come (material_of a b) p prologue a b 0 lines made.0 made.1 parts turns made.2).1 in
    let ends = c.ends_match.ensures.state p a b 0 0 (say_events lines) made.0 made.1 made.2 in
    let x = ends.0 in
    let y = ends.1 in
    let all = payload-count p lines count in
    let passed : x.last.passed ≡ length p.messages = ap (λ (z : Party). z.passed) (sym x.party) ∙ through.count ∙ all in
    let passed_too : y.last.passed ≡ length p.messages =
    ap (λ (z : Party). z.passed) (sym y.party) ∙ ap (λ (z : Party). z.passed) through.ends.parties.there ∙ through.count ∙ all in
    let same : x.last.pattern ≡ p = same-pattern (begun_as p Initiator a) x.last made.1.initiator.passed x.passes in
    let here : IsKeyed x.last =
    keyed-on c.overhead_added.ensures.next c.keys_carried.ensures.written c.keys_carried.ensures.accepted (begun_as p Initiator a) x.last
    made.1.initiator.passed x.passes (c.overhead_added.ensures.first (name_bytes (record { base = p.base; places = p.places })) a.prologue p
    (keys_of Initiator Initiator (public_keys a.own) a.remote) (keys_of Responder Initiator (public_keys a.own) a.remote) pattern) in (
      made.1.initiator.passed,
      x.last,
      y.last,
      record {
        initiator = alike.initiator;
        responder = alike.responder;
        psks = sym alike.psks;
        keys = alike.keys;
        wrote_and_took = x.passes;
        took_and_wrote = subst (λ (ps : List HandshakeMessage). Exchanged (begun_as p Responder b) ps y.last) through.responder y.passes;
        some = some;
        passed = passed;
        passed_too = passed_too;
        keyed = here ∙ ap (λ (q : Plan). has_key q (passed_places q x.last.passed)) same ∙ ap (λ (n : ℕ). has_key p (passed_places p n)) passed ∙ keyed;
      },
    )
