use Rattle.std.proofs.Common.{◌≡◌, ◌≢◌, ◌+◌, ◌-◌, ◌≤◌, ℕ, length, take, drop, List, [], None, rules, refl, sym, ◌∙◌, ap, subst, arith}
use Rattle.std.proofs.lemmas.Slice.{take-put_mid_below}
use Rattle.noise_session.proofs.Common.{take_rest, put_mid, Ring, ciphertext_under, last_nonce, rekeyed_if_due, HalfValue, nonce_named, datagram_fault, datagram_receiver_fault, accepting, DatagramReceiverValue, DatagramReceiverMatches, datagram_receiver_value}
use Rattle.noise_session.specs.contracts.datagram_receiver.DatagramReceiver.{the_view}
use Rattle.noise_session.specs.DatagramCalls.{IsUnderKey, declined_for}
use Rattle.noise_session.proofs.Places.{after-front, rest-after, unwritten}
use Rattle.noise_session.proofs.DatagramStates.{fault-reported, opened-there, refused-there, forged-there, has-nonce, young-here, half-opened, half-listens}
use Rattle.noise_session.proofs.datagram_receiver.DatagramReceiver.open_within.Goals as goal

-- a message that is opened at a nonce leaves all of the half but its nonce, where the key is never rekeyed
key-only : (h set next : HalfValue) (nonce : ℕ) (recent : Ring) → set ≡ record h { nonce = nonce } → next ≡ record set { key = next.key; nonce = set.nonce + 1 }
    → next.key ≡ rekeyed_if_due set.interval (set.nonce + 1) set.key → h.interval ≡ 0 → datagram_receiver_value next recent ≡ datagram_receiver_value h recent
key-only h set next nonce recent is counted renewed never = search rules

-- what is sealed under the half's key at its nonce
message-here : (set r : HalfValue) (t h : DatagramReceiverValue) (n m : ℕ) (payload : List ℕ) → set ≡ record r { nonce = n } → r.key ≡ t.key → t ≡ h → n ≡ m
    → ciphertext_under set.key set.nonce [] payload ≡ ciphertext_under h.key m [] payload
message-here set r t h n m payload is keyed same named =
    let key = ap (λ (z : HalfValue). z.key) is ∙ keyed ∙ ap (λ (z : DatagramReceiverValue). z.key) same in
    let nonce = ap (λ (z : HalfValue). z.nonce) is ∙ named in
    rw (key, nonce) refl

pub returns-in-Some-clause-opens : goal.returns-in-Some-clause-opens
returns-in-Some-clause-opens c =
    let is = c.in-Some.ensures.value in
    record {
      fault = ap declined_for is;
      opened = λ none payload there. cc;
      same = refl;
      unchanged = refl;
      opens = λ v h. refused-there c.args.self.now v c.args.datagram.now c.in-Some.fault h is;
    }

pub returns-in-Ok-clause-place : goal.returns-in-Ok-clause-place
returns-in-Ok-clause-place c =
    let d = c.args.datagram.now in
    let least : 24 ≤ length d = c.in_default.ensures.bound.0 in
    let long : 8 ≤ length d = omega arith in
    record {
      len = search rules;
      beyond = (
        take-put_mid_below 8 (length d - 8) d c.open_within.new.message 8 (omega arith) long,
        rest-after 8 c.in-Ok.len (8 + c.in-Ok.len) d c.open_within.new.message (put_mid 8 (length d - 8) d c.open_within.new.message) long refl refl
            c.in-Ok.ensures.place.beyond,
      );
      unchanged = tt;
    }

pub returns-in-Ok-clause-opens : goal.returns-in-Ok-clause-opens
returns-in-Ok-clause-opens c =
    let r = c.self.inside.receiver in
    let o = c.in-Ok.ensures.opens in
    let h = c.args.self.now in
    let d = c.args.datagram.now in
    let same = key-only r c.set_nonce.new.self c.open_within.new.self c.nonce_of-nonce.result c.insert.new.self c.set_nonce.ensures o.counted o.renewed
    c.self.invariant.interval in
    let none : datagram_receiver_fault h d ≡ None = sym c.in_default.ensures.value in
    let named : c.nonce_of-nonce.result ≡ nonce_named d = c.nonce_of-nonce.ensures.value in
    let least : 24 ≤ length d = c.in_default.ensures.bound.0 in
    let front = sym (after-front 8 d c.open_within.new.message (omega arith)) in
    let payload = take c.in-Ok.len (drop 8 (put_mid 8 (length d - 8) d c.open_within.new.message)) in
    let there : IsUnderKey h d payload =
    sym (take_rest d 8) ∙ o.opened ∙ message-here c.set_nonce.new.self r (the_view c.self.inside) h c.nonce_of-nonce.result (nonce_named d) _ c.set_nonce.ensures
    refl c.self.view_is named ∙ ap (λ (m : List ℕ). ciphertext_under h.key (nonce_named d) [] (take c.in-Ok.len m)) front in
    record {
      fault = none;
      opened = there;
      same = same ∙ ap (λ (x : DatagramReceiverValue). record x { recent = c.insert.new.self }) c.self.view_is;
      unchanged = tt;
      opens = λ v m.
          let here = subst (λ (h : DatagramReceiverValue). DatagramReceiverMatches h v) (sym c.self.view_is) m in
          let free : datagram_fault v d ≡ None = sym (fault-reported h v d m) ∙ none in (
            opened-there h v d payload m none there,
            subst (λ (z : DatagramReceiverValue). DatagramReceiverMatches z (accepting v (nonce_named d))) (sym same)
                (half-opened (the_view c.self.inside) v r.key c.insert.new.self c.nonce_of-nonce.result (nonce_named d) here refl
                c.insert.ensures.window named
                (c.insert.ensures.more v.accepted here.recent (young-here (the_view c.self.inside) v d c.nonce_of-nonce.result here free named))),
          );
    }

pub returns-in-Err-clause-place : goal.returns-in-Err-clause-place
returns-in-Err-clause-place c = record {
  len = tt;
  beyond = tt;
  unchanged = unwritten c.args.datagram.now c.open_within.new.message 8 c.in-Err.ensures.place.unchanged;
}

pub returns-in-Err-clause-opens : goal.returns-in-Err-clause-opens
returns-in-Err-clause-opens c =
    let o = c.in-Err.ensures.opens in
    let h = c.args.self.now in
    let d = c.args.datagram.now in
    let set = c.set_nonce.new.self in
    let same = ap (λ (z : HalfValue). datagram_receiver_value z c.self.inside.recent) (o.unchanged ∙ c.set_nonce.ensures) ∙ c.self.view_is in
    let none : datagram_receiver_fault h d ≡ None = sym c.in_default.ensures.value in
    let named = c.nonce_of-nonce.ensures.value in
    let apart : set.nonce ≢ last_nonce = λ e. c.in_default.ensures.bound.2 (sym named ∙ sym (ap (λ (z : HalfValue). z.nonce) c.set_nonce.ensures) ∙ e) in
    let listens = half-listens set h d (ap (λ (z : HalfValue). z.role) c.set_nonce.ensures ∙ ap (λ (x : DatagramReceiverValue). x.role) c.self.view_is)
    (ap (λ (z : HalfValue). z.one_way) c.set_nonce.ensures ∙ ap (λ (x : DatagramReceiverValue). x.one_way) c.self.view_is) none apart in
    let never = λ (payload : List ℕ) (there : IsUnderKey h d payload). o.opened listens payload
    (take_rest d 8 ∙ there ∙ sym (message-here set c.self.inside.receiver (the_view c.self.inside) h c.nonce_of-nonce.result (nonce_named d) payload c.set_nonce.ensures
    refl c.self.view_is named)) in
    record {
      fault = ap declined_for (sym none);
      opened = λ _. never;
      same = same ∙ ap (λ (x : DatagramReceiverValue). record c.args.self.now { recent = x.recent }) (sym c.self.view_is);
      unchanged = same;
      opens = λ v m. forged-there h v d m none never;
    }

pub nonce_of-nonce-requires : goal.nonce_of-nonce-requires
nonce_of-nonce-requires c = record { long = has-nonce (length c.args.datagram.now) c.in_default.ensures.bound.0 }
