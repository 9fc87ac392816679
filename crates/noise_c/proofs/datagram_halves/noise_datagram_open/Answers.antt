use Rattle.std.proofs.Common.{◌≡◌, ◌⊎◌, ◌+◌, ℕ, List, take, drop, inl, inr, refl, ap, sym, subst, ◌∙◌}
use Rattle.std.specs.Prelude.{Ok, option_map, slice_range}
use Rattle.noise_c.proofs.Common.{Option, MatchOption, is_datagram_receiver, false≢true, Opens, accepting, nonce_named, DatagramReceiverValue, DatagramReceiverMatches, datagram_receiver_from_c}
use Rattle.noise_c.proofs.Numbers.{other, above}
use Rattle.noise_c.proofs.Opening.{accepted-is, datagram_declined, from-ninth, known-refusal, unknown-refusal}
use Rattle.noise_session.specs.Datagrams.{datagram_receiver_fault}
use Rattle.noise_session.specs.DatagramCalls.{IsUnderKey}
use Rattle.noise_c.specs.DatagramStructs.{IsSealedFor}
use Rattle.noise_c.specs.TransportCodes.{datagram_code}
use Rattle.noise_c.proofs.datagram_halves.noise_datagram_open.Goals as goal

pub returns-in-None : goal.returns-in-None
returns-in-None c = record {
  unusable = (λ _. sym c.in-None.ensures.known, λ _. refl);
  code_is = unknown-refusal (is_datagram_receiver c.args.half.now) _
      (λ (o : Option ℕ). MatchOption o ((◌≡◌ {A = ℕ} 23 0) ⊎ ((◌≡◌ {A = ℕ} 23 16) × ((payload : List ℕ) → IsSealedFor c.args.half.now c.args.datagram.now payload → ⊥))) (λ refusal. 23 ≡ refusal))
      (sym c.in-None.ensures.known) refl;
  opened = other 23 0 refl;
  place = other 23 0 refl;
  opens = other 23 0 refl;
  declined = λ _ differs. absurd (differs refl);
  beyond = other 23 0 refl;
  same = other 23 0 refl;
  known = other 23 0 refl;
  unchanged = λ _. (refl, refl, refl);
  codes = inr (inr (inr (inr (inr (inl refl)))));
}

-- but for the nonces that were opened it is as it was
recent-alone : (new left h old : DatagramReceiverValue) → new ≡ left → left ≡ record h { recent = left.recent } → h ≡ old
    → new ≡ record old { recent = new.recent }
recent-alone new left h old e f g =
    e ∙ f ∙ ap (λ (z : DatagramReceiverValue). record z { recent = left.recent }) g ∙ ap (λ (z : DatagramReceiverValue). record old { recent = z.recent }) (sym e)

pub returns : goal.returns
returns c =
    let old = c.args.half.now in
    let bytes = c.args.datagram.now in
    let left = c.open_within.new.self in
    let new = c.datagram_receiver_to_c.result in
    record {
      unusable = (other 0 23 refl, λ none. absurd (false≢true (sym none ∙ sym c.in-Some.ensures.known)));
      code_is = known-refusal (is_datagram_receiver old) (option_map datagram_code (datagram_receiver_fault (datagram_receiver_from_c old) bytes))
          (λ (o : Option ℕ). MatchOption o ((◌≡◌ {A = ℕ} 0 0) ⊎ ((◌≡◌ {A = ℕ} 0 16) × ((payload : List ℕ) → IsSealedFor old bytes payload → ⊥))) (λ refusal. 0 ≡ refusal))
          (sym c.in-Some.ensures.known)
          (subst (λ (z : DatagramReceiverValue). MatchOption (option_map datagram_code (datagram_receiver_fault z bytes))
          ((◌≡◌ {A = ℕ} 0 0) ⊎ ((◌≡◌ {A = ℕ} 0 16) × ((payload : List ℕ) → IsSealedFor old bytes payload → ⊥))) (λ refusal. 0 ≡ refusal)) c.in-Some.ensures.same
          (accepted-is (datagram_receiver_fault c.in-Some.value bytes) ((payload : List ℕ) → IsSealedFor old bytes payload → ⊥)
          c.in-Ok.ensures.opens.fault));
      place = λ _. (refl, c.in-Ok.ensures.place.len);
      opened = λ _. subst (λ (z : DatagramReceiverValue). IsUnderKey z bytes (slice_range c.open_within.new.datagram 8 (8 + c.in-Ok.value))) c.in-Some.ensures.same
          (subst (λ (payload : List ℕ). IsUnderKey c.in-Some.value bytes payload) (from-ninth c.open_within.new.datagram c.in-Ok.value) c.in-Ok.ensures.opens.opened);
      opens = λ _ v s.
          let r = c.in-Ok.ensures.opens.opens v (subst (λ (z : DatagramReceiverValue). DatagramReceiverMatches z v) (sym c.in-Some.ensures.same) s) in (
            subst (λ (payload : List ℕ). Opens v bytes (Ok payload) (accepting v (nonce_named bytes))) (from-ninth c.open_within.new.datagram c.in-Ok.value) r.0,
            subst (λ (z : DatagramReceiverValue). DatagramReceiverMatches z (accepting v (nonce_named bytes))) (sym c.datagram_receiver_to_c.ensures.same) r.1,
          );
      declined = above 1 0 refl;
      beyond = λ _. c.in-Ok.ensures.place.beyond;
      same = λ _. recent-alone (datagram_receiver_from_c new) left c.in-Some.value (datagram_receiver_from_c old)
          c.datagram_receiver_to_c.ensures.same c.in-Ok.ensures.opens.same c.in-Some.ensures.same;
      known = λ _. c.datagram_receiver_to_c.ensures.known;
      unchanged = above 1 0 refl;
      codes = inl refl;
    }

pub returns-in-Err : goal.returns-in-Err
returns-in-Err c =
    datagram_declined c.args.half.now c.args.half.now c.args.datagram.now c.open_within.new.datagram c.args.results.now c.args.results.now
    c.datagram_code.result c.in-Some.value c.open_within.new.self c.in-Err.fault (λ n. take n (drop 8 c.open_within.new.datagram)) c.in-Err.ensures.opens
    c.in-Err.ensures.place c.datagram_code.ensures c.in-Some.ensures.same (sym c.in-Some.ensures.known) refl refl
