-- A loop that reads a stream, call by call.
use Rattle.std.proofs.Common.{◌≡◌, ℕ, ◌+◌, ◌-◌, ◌≤◌, List, [], ◌++◌, length, take, drop, refl, sym, ◌∙◌, ap, subst, arith, append_assoc, append-nil, length-take}
use Rattle.std.proofs.Math.Seq.{drop-length}
use Rattle.std.proofs.lemmas.List.{drop-drop, drop_at, take_rest}
use borrow.Rule.Slice.PartMut.{mid_of, put_mid, same_len_mid}
use Rattle.std.proofs.lemmas.List.Folds.{concat-append}
use Rattle.std.specs.List.{concat}
use Rattle.noise_session.specs.TransportValue.{TransportState}
use Rattle.noise_channel.specs.declared.next.Next.{Next}
use Rattle.noise_channel.specs.declared.next.Next.TheVariants as next
use Rattle.noise_channel.specs.Halves.{StreamReceiverValue, StreamReceiverMatches}
use Rattle.noise_channel.specs.Streams.{Direction, incoming}
use Rattle.noise_channel.specs.Reading.{StreamReceiverState, NextValue, ChannelReads, given}
use Rattle.noise_channel.specs.Reading.ChannelReads.{wants, gives, ends, refuses, closed_at_end, closed_broken}
use Rattle.noise_channel.specs.StreamCalls.{StreamReceiverReads}
use Rattle.noise_channel.specs.Runs.{StreamReceiverRun, Rests, uses, payloads}
use Rattle.noise_channel.specs.Runs.StreamReceiverRun.{arrives, calls, stops}
use Rattle.noise_channel.specs.Receiving.{ReadsSome, ReadsOnce, ReadsTo}

-- one run after another
runs-on : (d : Direction) (s t u : StreamReceiverState) (partial came mid left : List ℕ) (out more : List (List ℕ)) → StreamReceiverRun d s partial came out t mid
    → StreamReceiverRun d t mid [] more u left → StreamReceiverRun d s partial came (out ++ more) u left
runs-on d s t u partial came mid left out more (stops _ _ _) on = on
runs-on d s t u partial came mid left out more (arrives _ _ _ _ piece rest _ _ run) on =
    arrives d s u partial piece rest left (out ++ more) (runs-on d s t u (partial ++ piece) rest mid left out more run on)
runs-on d s t u partial came mid left out more (calls _ _ between _ _ _ _ g later reads run) on =
    subst (λ (ps : List (List ℕ)). StreamReceiverRun d s partial came ps u left) (sym (append_assoc (payloads g) later more))
    (calls d s between u partial came left g (later ++ more) reads (runs-on d between t u (drop (uses g) partial) came mid left later more run on))

-- nothing is read yet
pub reads-none : (v : TransportState) (s : StreamReceiverState) (came before after : List ℕ) (r : StreamReceiverValue) → StreamReceiverMatches r v s → after ≡ before
    → ReadsSome v s came 0 before after r
reads-none v s came before after r matches same = record {
  payloads = [];
  state = s;
  run = stops (incoming v) s came;
  appended = same ∙ sym (append-nil before);
  matches = matches;
}

-- a call more
module _ (v : TransportState) (s : StreamReceiverState) (came : List ℕ) (at used : ℕ) (before mid after : List ℕ) (r next : StreamReceiverValue) where
  pub reads-more : ReadsSome v s came at before mid r → ((t : StreamReceiverState) → StreamReceiverMatches r v t → ReadsOnce v t (drop at came) used mid after next)
      → ReadsSome v s came (at + used) before after next
  reads-more h step =
      let f = step h.state h.matches in
      let left : drop (uses f.gives) (drop at came) ≡ drop (at + used) came =
      ap (λ (k : ℕ). drop k (drop at came)) (sym f.used_is) ∙ drop-drop used at came in
      let one : StreamReceiverRun (incoming v) h.state (drop at came) [] (payloads f.gives ++ []) f.state (drop (uses f.gives) (drop at came)) =
      calls (incoming v) h.state f.state f.state (drop at came) [] (drop (uses f.gives) (drop at came)) f.gives [] f.reads
      (stops (incoming v) f.state (drop (uses f.gives) (drop at came))) in
      record {
        payloads = h.payloads ++ payloads f.gives;
        state = f.state;
        run =
            runs-on (incoming v) s h.state f.state came [] (drop at came) (drop (at + used) came) h.payloads (payloads f.gives) h.run
            (subst (λ (ps : List (List ℕ)). StreamReceiverRun (incoming v) h.state (drop at came) [] ps f.state (drop (at + used) came))
            (append-nil (payloads f.gives))
            (subst (λ (bytes : List ℕ). StreamReceiverRun (incoming v) h.state (drop at came) [] (payloads f.gives ++ []) f.state bytes) left one));
        appended =
            f.appended ∙ ap (λ (bytes : List ℕ). bytes ++ concat (payloads f.gives)) h.appended
            ∙ append_assoc before (concat h.payloads) (concat (payloads f.gives))
            ∙ ap (λ (bytes : List ℕ). before ++ bytes) (sym (concat-append h.payloads (payloads f.gives)));
        matches = f.matches;
      }

  -- and it used nothing
  pub reads-all : used ≡ 0 → ReadsSome v s came at before mid r
      → ((t : StreamReceiverState) → StreamReceiverMatches r v t → ReadsOnce v t (drop at came) used mid after next) → ReadsTo v s came at before after next
  unfolding reads-more
  reads-all none h step =
      let f = step h.state h.matches in
      let same : at + used ≡ at = omega (arith, none) in
      let m = reads-more h step in record {
        payloads = m.payloads;
        state = f.state;
        run = subst (λ (k : ℕ). StreamReceiverRun (incoming v) s came [] m.payloads f.state (drop k came)) same m.run;
        rests = f.rests none;
        appended = m.appended;
        matches = f.matches;
      }

-- a call that uses nothing leaves nothing that the next one uses
idle-next : (d : Direction) (s t : StreamReceiverState) (came new : List ℕ) (r : Next) → ((from to used : ℕ) → r ≡ next.Payload from to used → ⊥)
    → ((used : ℕ) → r ≡ next.End used → ⊥) → (g : NextValue) → g ≡ given new r → ChannelReads d s came g t → Rests d t came
idle-next d s t came new r some end g is (wants _ n _ partial) = (_, _, wants d n came partial, tt)
idle-next d s t came new (next.Payload from to used) some end g is (gives _ _ _ p listens f nonempty) = absurd (some from to used refl)
idle-next d s t came new r some end g is (gives _ _ _ p listens f nonempty) = absurd (let e = is in cc)
idle-next d s t came new (next.End used) some end g is (ends _ _ _ listens f) = absurd (end used refl)
idle-next d s t came new r some end g is (ends _ _ _ listens f) = absurd (let e = is in cc)
idle-next d s t came new r some end g is (refuses _ _ _ m cause f unopened) = (_, _, closed_broken d came, tt)
idle-next d s t came new r some end g is (closed_at_end _ _) = (_, _, closed_at_end d came, tt)
idle-next d s t came new r some end g is (closed_broken _ _) = (_, _, closed_broken d came, tt)

-- what follows a payload's frame is as it came
pub after-used : (to used : ℕ) (old new : List ℕ) → to + 16 ≡ used → drop to new ≡ drop to old → drop used new ≡ drop used old
after-used to used old new is same =
    subst (λ (k : ℕ). drop k new ≡ drop k old) is (sym (drop-drop 16 to new) ∙ ap (drop 16) same ∙ drop-drop 16 to old)

-- a call that gives no payload and no end leaves the buffer as it is
pub stays-idle : (r after : StreamReceiverValue) (came new : List ℕ) (g : Next) → ((from to used : ℕ) → g ≡ next.Payload from to used → ⊥)
    → ((used : ℕ) → g ≡ next.End used → ⊥) → StreamReceiverReads r after came new g → new ≡ came
stays-idle r after came new (next.Payload from to used) some end h = absurd (some from to used refl)
stays-idle r after came new (next.End used) some end h = absurd (end used refl)
stays-idle r after came new (next.Wants count) some end h = h.3
stays-idle r after came new (next.Refused cause) some end h = h.1.unchanged
stays-idle r after came new next.Closed some end h = h.2

-- a call that gives no payload and no end
pub reads-idle : (v : TransportState) (s : StreamReceiverState) (came new before : List ℕ) (after : StreamReceiverValue) (r : Next)
    → ((from to used : ℕ) → r ≡ next.Payload from to used → ⊥) → ((used : ℕ) → r ≡ next.End used → ⊥)
    → (t : StreamReceiverState) × ChannelReads (incoming v) s came (given new r) t × StreamReceiverMatches after v t → ReadsOnce v s came 0 before before after
reads-idle v s came new before after r some end call = record {
  gives = given new r;
  state = call.0;
  reads = call.1;
  used_is = nothing r some end;
  rests = λ _. idle-next (incoming v) s call.0 came new r some end (given new r) refl call.1;
  appended = no-payload r some end;
  matches = call.2;
}
  where
    nothing : (r : Next) → ((from to used : ℕ) → r ≡ next.Payload from to used → ⊥) → ((used : ℕ) → r ≡ next.End used → ⊥) → 0 ≡ uses (given new r)
    nothing (next.Payload from to used) some end = absurd (some from to used refl)
    nothing (next.End used) some end = absurd (end used refl)
    nothing (next.Wants count) some end = refl
    nothing (next.Refused cause) some end = refl
    nothing next.Closed some end = refl

    no-payload : (r : Next) → ((from to used : ℕ) → r ≡ next.Payload from to used → ⊥) → ((used : ℕ) → r ≡ next.End used → ⊥)
        → before ≡ before ++ concat (payloads (given new r))
    no-payload (next.Payload from to used) some end = absurd (some from to used refl)
    no-payload (next.End used) some end = sym (append-nil before)
    no-payload (next.Wants count) some end = sym (append-nil before)
    no-payload (next.Refused cause) some end = sym (append-nil before)
    no-payload next.Closed some end = sym (append-nil before)

-- ---- a part of what came, from a place on

module _ (at : ℕ) (came part : List ℕ) (within : at ≤ length came) (long : length part ≡ length (mid_of at (length came - at) came)) where
  pub part-of : mid_of at (length came - at) came ≡ drop at came
  part-of = take_rest came at

  pub part-long : length (put_mid at (length came - at) came part) ≡ length came
  part-long = same_len_mid at (length came - at) came part long

  pub part-after : drop at (put_mid at (length came - at) came part) ≡ part
  part-after =
      let none : drop (length came - at) (drop at came) ≡ [] =
      drop-drop (length came - at) at came ∙ ap (λ (k : ℕ). drop k came) (let e : at + (length came - at) ≡ length came = omega arith in e)
      ∙ drop-length came in
      drop_at (take at came) (part ++ drop (length came - at) (drop at came)) at (omega (arith, length-take at came))
      ∙ ap (λ (xs : List ℕ). part ++ xs) none ∙ append-nil part
