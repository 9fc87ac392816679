-- Two programs that have finished: what faces each other, and what the theorem on streams asks.
use Rattle.std.proofs.Common.{◌≡◌, ℕ, ◌≤◌, List, [], ◌∷◌, length, inl, refl, ap, sym, ◌∙◌, arith}
use Rattle.std.proofs.lemmas.Option.{same_Some}
use Rattle.std.specs.Prelude.{true, false, not, ◌&&◌}
use Rattle.noise_c.proofs.Common.{Bool, Option, Some, None, is_some, if◌then◌else◌, ◌==◌, nat_tests, Plan, Role, Party, after_message, after_own, key_from_c, with_dh_results, handshake_from_c, IsUsable, KeepsParty, NoiseHandshake}
use Rattle.noise_names.specs.declared.token.Role.TheVariants.{Initiator, Responder}
use Rattle.noise_names.specs.Tokens.{other, same_role}
use Rattle.noise_names.specs.Plan.{is_one_way}
use Rattle.noise_events.specs.declared.window.Window.{Window}
use Rattle.noise_state.specs.declared.symmetric.SymmetricState.{SymmetricState}
use Rattle.noise_handshake.specs.Counterparts.{Counterparts}
use Rattle.noise_session.specs.Datagrams.{DatagramSenderMatches, DatagramReceiverMatches, datagrams_of}
use Rattle.noise_session.specs.Transport.{split_key}
use Rattle.noise_duel.specs.Messages.{Exchanged, HandshakeMessage, begun_as}
use Rattle.noise_duel.specs.Messages.Exchanged.{none as nothing, wrote as wrote_one, took as took_one}
use Rattle.noise_c.specs.declared.structs.NoiseKey.{NoiseKey}
use Rattle.noise_c.specs.declared.structs.NoiseCipher.{NoiseCipher}
use Rattle.noise_c.specs.declared.codes.numbers.TheConstants.{RECEIVING_CIPHER, SENDING_CIPHER}
use Rattle.noise_c.specs.declared.structs.NoiseDatagramReceiver.{NoiseDatagramReceiver}
use Rattle.noise_c.specs.declared.structs.NoiseDatagramSender.{NoiseDatagramSender}
use Rattle.noise_c.specs.CipherStructs.{begun_cipher, receiving_cipher, sending_cipher}
use Rattle.noise_c.specs.DatagramStructs.{datagram_receiver_from_c, datagram_sender_from_c, window_in}
use Rattle.noise_c.specs.HalfStructs.{half_from_c}
use Rattle.noise_c.specs.HandedIn.{dh_results_in}
use Rattle.noise_c.specs.TwoPrograms.{Passed, Program, HaveTalked, program_start}
use Rattle.noise_c.specs.FinishedPrograms.{CipherFace, DatagramFace, IsDone, ProgramsFinish, ProgramsFinishFacing}
use Rattle.noise_c.specs.Finishing.{Finishes}
use Rattle.noise_c.proofs.Talking.{Laws, Talk, silent, speaks, hears}
use Rattle.noise_c.proofs.Programs.{IsAtEnd, Met, done-alike, faced}
use Rattle.noise_c.proofs.Finished.{finish-done}
use Rattle.noise_c.proofs.Numbers.{other as other-number}

-- ---- what faces each other

other-back : (r : Role) → other (other r) ≡ r
other-back Initiator = refl
other-back Responder = refl

silent-same : (r : Role) → same_role (other r) Initiator ≡ same_role r Responder
silent-same Initiator = refl
silent-same Responder = refl

pub not-same : (a b : Bool) → not a ≡ not b → a ≡ b
not-same true true e = refl
not-same false false e = refl
not-same true false e = cc
not-same false true e = cc

begun-as-sender : (discarded : Bool) (key : List ℕ) → CipherFace (begun_cipher SENDING_CIPHER discarded key) (begun_cipher RECEIVING_CIPHER discarded key)
begun-as-sender true key = refl
begun-as-sender false key = refl

face-by : (s r a b : NoiseCipher) → s ≡ a → r ≡ b → CipherFace a b → CipherFace s r
face-by s r a b e f h = f ∙ h ∙ ap (λ (z : NoiseCipher). record z { mark = RECEIVING_CIPHER }) (sym e)

module _ (v w : Party) (h : Counterparts v w) where
  role : w.role ≡ other v.role
  role = ap (λ (z : Party). z.role) h.there

  history : w.state ≡ v.state
  history = ap (λ (z : Party). z.state) h.there

  plan : w.pattern ≡ v.pattern
  plan = ap (λ (z : Party). z.pattern) h.there

  -- the key of what the one writes
  key-is : split_key w.state (other w.role) ≡ split_key v.state v.role
  key-is = ap (λ (r : SymmetricState). split_key r (other w.role)) history
      ∙ ap (split_key v.state) (ap other role ∙ other-back v.role)

  discarded : (is_one_way w.pattern && same_role w.role Initiator) ≡ (is_one_way v.pattern && same_role v.role Responder)
  discarded = ap (λ (q : Plan). is_one_way q && same_role w.role Initiator) plan
      ∙ ap (λ (b : Bool). is_one_way v.pattern && b) (ap (λ (r : Role). same_role r Initiator) role ∙ silent-same v.role)

  pub ciphers-face : CipherFace (sending_cipher v) (receiving_cipher w)
  ciphers-face =
      ap (λ (b : Bool). begun_cipher RECEIVING_CIPHER b (split_key w.state (other w.role))) discarded
      ∙ ap (begun_cipher RECEIVING_CIPHER (is_one_way v.pattern && same_role v.role Responder)) key-is
      ∙ begun-as-sender (is_one_way v.pattern && same_role v.role Responder) (split_key v.state v.role)

  pub datagrams-face : (i j : Window) (s : NoiseDatagramSender) (u : NoiseDatagramReceiver)
      → DatagramSenderMatches (datagram_sender_from_c s) (datagrams_of v i)
      → DatagramReceiverMatches (datagram_receiver_from_c u) (datagrams_of w j) → DatagramFace s u
  datagrams-face i j s u mine theirs = record {
    role = theirs.role ∙ role ∙ ap other (sym mine.role);
    one_way = not-same (u.one_way == 0) (s.one_way == 0) (theirs.one_way ∙ ap is_one_way plan ∙ sym mine.one_way);
    key = same_Some u.key s.key (theirs.key ∙ ap Some key-is ∙ sym mine.key);
    nonce = mine.nonce;
    opened = theirs.recent;
  }

pub facing : (laws : Laws) → ((p : Plan) (g h : Program) → HaveTalked p g h → Met p g h) → ProgramsFinishFacing
facing laws met p g h t =
    let m = met p g h t in
    let v : Party = m.left.party in
    let w : Party = m.right.party in
    let v1 : Party = with_dh_results v (dh_results_in g.last) in
    let w1 : Party = with_dh_results w (dh_results_in h.last) in
    let here = m.left.stands.keeps in
    let there = m.right.stands.keeps in
    record {
      streams = λ interval s x r y made made_too.
          let c = done-alike p g h m made.done made_too.done in
          record {
            there = faced v w c interval (half_from_c s.half) (half_from_c y.half) (made.writer p v1 here).1 (made_too.reader p w1 there).1;
            back = faced w v (laws.turned v w c) interval (half_from_c x.half) (half_from_c r.half) (made_too.writer p w1 there).1 (made.reader p v1 here).1;
          };
      datagrams = λ i j s x r y made made_too.
          let c = done-alike p g h m made.done made_too.done in (
            datagrams-face v w c (window_in i) (window_in j) s y (made.stand p v1 here).0 (made_too.stand p w1 there).1,
            datagrams-face w v (laws.turned v w c) (window_in j) (window_in i) x r (made_too.stand p w1 there).0 (made.stand p v1 here).1,
          );
      ciphers = λ s r x y made made_too.
          let c = done-alike p g h m made.done made_too.done in (
            face-by s y (sending_cipher v) (receiving_cipher w) (made.sends p v1 here) (made_too.receives p w1 there) (ciphers-face v w c),
            face-by x r (sending_cipher w) (receiving_cipher v) (made_too.sends p w1 there) (made.receives p v1 here)
                (ciphers-face w v (laws.turned v w c)),
          );
    }

-- ---- what the theorem on streams asks

exchanged : (v last : Party) (ws rs : List Passed) → Talk v ws rs last → (ps : List HandshakeMessage) × Exchanged v ps last
exchanged v _ _ _ (silent _) = ([], nothing v)
exchanged v last _ _ (speaks _ _ c m ws rs writes more) =
    let r = exchanged (after_own v c m.payload) last ws rs more in
    let one : HandshakeMessage = record { message = m.message; carried = c; payload = m.payload } in
    (one ∷ r.0, wrote_one v last one r.0 writes r.1)
exchanged v last _ _ (hears _ _ c m ws rs accepts more) =
    let r = exchanged (after_message v c m.payload) last ws rs more in
    let one : HandshakeMessage = record { message = m.message; carried = c; payload = m.payload } in
    (one ∷ r.0, took_one v last one r.0 accepts r.1)

present-is : (absent : Bool) (bytes : List ℕ) → absent ≡ false → is_some (if absent then None else Some bytes) ≡ true
present-is true bytes e = cc
present-is false bytes e = refl

not-zero : (n : ℕ) → 1 ≤ n → (n == 0) ≡ false
not-zero n some = grind (arith, nat_tests)

keyed-as : (k : NoiseKey) (o : Option (List ℕ)) → 1 ≤ k.present → key_from_c k ≡ o → is_some o ≡ true
keyed-as k o some e = ap is_some (sym e) ∙ present-is (k.present == 0) k.bytes (not-zero k.present some)

-- a party that hasn't ended is at its end as it began
kept-going : (v last : Party) (ps : List HandshakeMessage) → Exchanged v ps last → last.ended ≡ v.ended
kept-going v _ _ (nothing _) = refl
kept-going v last _ (wrote_one _ _ m more writes rest) = kept-going (after_own v m.carried m.payload) last more rest
kept-going v last _ (took_one _ _ m more accepts rest) = kept-going (after_message v m.carried m.payload) last more rest

at-end : (k : NoiseHandshake) → IsDone k → IsAtEnd k
at-end k done p v keeps =
    sym (ap (λ (z : Party). z.passed) keeps.matches) ∙ done.passed p keeps.pattern ∙ ap (λ (q : Plan). length q.messages) (ap (λ (z : Party). z.pattern) keeps.matches)

finishes : (k : NoiseHandshake) (p : Plan) (v : Party) → IsUsable k → KeepsParty k p v → v.ended ≡ false → IsDone k → Finishes k 0
finishes k p v usable keeps going done = record {
  unusable = (other-number 0 23 refl, λ none. absurd (none usable));
  same = λ u. sym (finish-done (handshake_from_c u.pattern k) ((ap (λ (z : Party). z.ended) keeps.matches) ∙ going) (done.passed u.pattern u.named));
  codes = inl refl;
}

pub finish-both : ((p : Plan) (g h : Program) → HaveTalked p g h → Met p g h) → ProgramsFinish
finish-both met p g h t set_up set_up_too keys done done_too =
    let m = met p g h t in
    let v : Party = m.left.party in
    let w : Party = m.right.party in
    let here = m.left.stands.keeps in
    let there = m.right.stands.keeps in
    let ps = exchanged (begun_as p Initiator (program_start g)) v g.written g.read m.left.talk in
    let qs = exchanged (begun_as p Responder (program_start h)) w h.written h.read m.right.talk in
    let all : g.last.passed ≡ length p.messages = done.passed p here.pattern in
    record {
      pattern = p;
      left = program_start g;
      right = program_start h;
      messages = ps.0;
      messages_too = qs.0;
      party = v;
      party_too = w;
      finished = record {
        initiator = set_up;
        responder = set_up_too;
        psks = sym t.psks;
        keys = keys;
        wrote_and_took = ps.1;
        took_and_wrote = qs.1;
        some = omega (arith, all, done.some);
        passed = sym (ap (λ (z : Party). z.passed) here.matches) ∙ all;
        passed_too = sym (ap (λ (z : Party). z.passed) there.matches) ∙ done_too.passed p there.pattern;
        keyed = keyed-as g.last.cipher v.state.cipher.key done.keyed (ap (λ (s : SymmetricState). s.cipher.key) (ap (λ (z : Party). z.state) here.matches));
      };
      handed_in = dh_results_in g.last;
      handed_in_too = dh_results_in h.last;
      stands = here;
      stands_too = there;
      facing = done-alike p g h m (at-end g.last done) (at-end h.last done_too);
      finishes = finishes g.last p (with_dh_results v (dh_results_in g.last)) m.left.stands.usable here
          (kept-going (begun_as p Initiator (program_start g)) v ps.0 ps.1) done;
      finishes_too = finishes h.last p (with_dh_results w (dh_results_in h.last)) m.right.stands.usable there
          (kept-going (begun_as p Responder (program_start h)) w qs.0 qs.1) done_too;
    }
