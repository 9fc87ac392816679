-- What a call of a writer came to, by the states that it matches.
use Rattle.std.proofs.Common.{◌≡◌, ◌≢◌, ℕ, ◌+◌, ◌<◌, ◌≤◌, ◌==◌, List, [], length, take, Bool, true, false, Option, Some, None, Result, Ok, Err, if◌then◌else◌}
use Rattle.std.proofs.Common.{refl, sym, ◌∙◌, ap, subst, arith}
use Rattle.std.proofs.lemmas.Bool.Decides.{nat_tests}
use Rattle.std.proofs.lemmas.List.{nil_from_length}
use Rattle.noise_session.specs.Frames.{frame}
use Rattle.noise_session.specs.Halves.{HalfValue, writes_nothing}
use Rattle.noise_session.specs.HalfCalls.{SenderSealsFrame, SucceedsUnless, one_sent}
use Rattle.noise_session.specs.TransportValue.{TransportState, SenderMatches, next_message}
use Rattle.noise_session.specs.Transport.{last_nonce}
use Rattle.noise_channel.specs.declared.fault.StreamFault.{StreamFault}
use Rattle.noise_channel.specs.declared.fault.StreamFault.TheVariants as fault
use Rattle.noise_channel.specs.Streams.{outgoing, frame_at}
use Rattle.noise_channel.specs.Writing.{StreamSenderState, Asked, Put, ChannelWrites, first_part_len, put_by_write}
use Rattle.noise_channel.specs.Writing.StreamSenderState.{Speaks, HasEnded}
use Rattle.noise_channel.specs.Writing.Asked.{ToWrite, ToEnd}
use Rattle.noise_channel.specs.Writing.Put.{Wrote, Failed}
use Rattle.noise_channel.specs.Writing.ChannelWrites.{skips, writes, ends, one_way, exhausted, over}
use Rattle.noise_channel.specs.Halves.{StreamSenderValue, StreamSenderMatches}
use Rattle.noise_channel.specs.StreamCalls.{StreamSenderWrites}
use Rattle.noise_channel.proofs.Called.{some-taken}

-- what a call came to, and what the writer matches after it
abbrev pub Comes : TransportState → StreamSenderState → Asked → Put → StreamSenderValue → Type 0
Comes v s asked put after = (t : StreamSenderState) × ChannelWrites (outgoing v) s asked put t × StreamSenderMatches after v t

both : (b : Bool) → b ≡ true → b ≡ false → ⊥
both b on off = let e : true ≡ false = sym on ∙ off in cc

-- whether a payload is empty
none-there : (p : List ℕ) → (length p == 0) ≡ true → p ≡ []
none-there p e = nil_from_length p (grind (arith, nat_tests))

some-there : (p : List ℕ) → (length p == 0) ≡ false → p ≢ []
some-there p off e = both (length p == 0) (ap (λ (xs : List ℕ). length xs == 0) e) off

-- whether the next nonce is the end's
last-there : (n m : ℕ) → m ≡ n → (m + 1 == last_nonce) ≡ true → n + 1 ≡ last_nonce
last-there n m same last = grind (arith, nat_tests)

below-last : (n m : ℕ) → m ≡ n → (m + 1 == last_nonce) ≡ false → m < last_nonce → n + 1 < last_nonce
below-last n m same more low = grind (arith, nat_tests)

pub asks-some : (p : List ℕ) → p ≢ [] → ToWrite p ≢ ToWrite []
asks-some p some e = some cc

pub end-is-some : ToEnd ≢ ToWrite []
end-is-some e = cc

-- what a result says of the faults of writing
abbrev fault_of : Bool → Bool → Bool → Bool → Option StreamFault
fault_of ended none mute last =
    if ended then Some fault.Ended else if none then None else if mute then Some fault.OneWay else if last then Some fault.Exhausted else None

abbrev failed : StreamFault → Result (ℕ × ℕ) StreamFault
failed why = Err why

abbrev wrote : ℕ × ℕ → Result (ℕ × ℕ) StreamFault
wrote r = Ok r

why-failed : (ended none mute last : Bool) (why : StreamFault) (P : StreamFault → Type 0) → ended ≡ false → SucceedsUnless (fault_of ended none mute last) (failed why)
    → (none ≡ false → mute ≡ true → P fault.OneWay) → (none ≡ false → mute ≡ false → last ≡ true → P fault.Exhausted) → P why
why-failed true none mute last why P open_now h f g = absurd (both true refl open_now)
why-failed false true mute last why P open_now h f g = absurd (both false h refl)
why-failed false false true last why P open_now h f g = subst P (let e : failed fault.OneWay ≡ failed why = sym h in cc) (f refl refl)
why-failed false false false true why P open_now h f g = subst P (let e : failed fault.Exhausted ≡ failed why = sym h in cc) (g refl refl refl)
why-failed false false false false why P open_now h f g = absurd (both false h refl)

why-wrote : (ended none mute last : Bool) (r : ℕ × ℕ) (P : Type 0) → ended ≡ false → SucceedsUnless (fault_of ended none mute last) (wrote r)
    → (none ≡ true → P) → (none ≡ false → mute ≡ false → last ≡ false → P) → P
why-wrote true none mute last r P open_now h f g = absurd (both true refl open_now)
why-wrote false true mute last r P open_now h f g = f refl
why-wrote false false true last r P open_now h f g = absurd (let e : wrote r ≡ failed fault.OneWay = h in cc)
why-wrote false false false true r P open_now h f g = absurd (let e : wrote r ≡ failed fault.Exhausted = h in cc)
why-wrote false false false false r P open_now h f g = g refl refl refl

module _ (w : StreamSenderValue) (v : TransportState) where
  pub over-as : (s : StreamSenderState) (asked : Asked) → w.ended ≡ true → StreamSenderMatches w v s → Comes v s asked (Failed fault.Ended) w
  over-as (Speaks n) asked ended matches = absurd (both w.ended ended matches.0)
  over-as HasEnded asked ended matches = (HasEnded, over (outgoing v) asked, matches)

  -- the direction is silent where the half writes nothing
  same-silent : (n : ℕ) → SenderMatches w.half (record v { sent = n }) → (outgoing v).silent ≡ writes_nothing w.half
  same-silent n s = rw (s.role, s.one_way) refl

  module _ (open_now : w.ended ≡ false) where
    -- an open writer speaks
    speaking : (P : StreamSenderState → Type 0) (s : StreamSenderState) → StreamSenderMatches w v s
        → ((n : ℕ) → SenderMatches w.half (record v { sent = n }) → P (Speaks n)) → P s
    speaking P (Speaks n) matches p = p n matches.1
    speaking P HasEnded matches p = absurd (both w.ended matches open_now)

    pub mute-as : (s : StreamSenderState) (asked : Asked) → asked ≢ ToWrite [] → writes_nothing w.half ≡ true → StreamSenderMatches w v s
        → Comes v s asked (Failed fault.OneWay) w
    mute-as s asked some mute matches =
        speaking (λ (z : StreamSenderState). Comes v z asked (Failed fault.OneWay) w) s matches
        (λ n m. (Speaks n, one_way (outgoing v) n asked some (same-silent n m ∙ mute), (open_now, m)))

    pub ends-as : (half : HalfValue) (bytes : List ℕ) (s : StreamSenderState) → writes_nothing w.half ≡ false → w.half.nonce < last_nonce
        → ((x : TransportState) → SenderMatches w.half x → (bytes ≡ frame (next_message x [])) × SenderMatches half (one_sent x))
        → StreamSenderMatches w v s → Comes v s ToEnd (Wrote 0 bytes) (record { half = half; ended = true })
    ends-as half bytes s heard room seals matches =
        speaking (λ (z : StreamSenderState). Comes v z ToEnd (Wrote 0 bytes) (record { half = half; ended = true })) s matches (λ n m. (
          HasEnded,
          subst (λ (bs : List ℕ). ChannelWrites (outgoing v) (Speaks n) ToEnd (Wrote 0 bs) HasEnded) (sym (seals (record v { sent = n }) m).0)
              (ends (outgoing v) n (same-silent n m ∙ heard) (subst (λ (k : ℕ). k < last_nonce) m.nonce room)),
          refl,
        ))

    -- a payload
    module _ (next : StreamSenderValue) (p out after : List ℕ) (s : StreamSenderState) (matches : StreamSenderMatches w v s) where
      frame-as : (r : ℕ × ℕ) → p ≢ [] → writes_nothing w.half ≡ false → (w.half.nonce + 1 == last_nonce) ≡ false → r.0 ≡ first_part_len p
          → next.ended ≡ false → SenderSealsFrame w.half next.half r.0 (take r.0 p) out after (Ok r.1) → Comes v s (ToWrite p) (Wrote r.0 (take r.1 after)) next
      frame-as r some heard more taken still h =
          speaking (λ (z : StreamSenderState). Comes v z (ToWrite p) (Wrote r.0 (take r.1 after)) next) s matches (λ n m.
          let o = h.seals (record v { sent = n }) m in
          let below : n + 1 < last_nonce = below-last n w.half.nonce m.nonce more h.below in
          let d = outgoing v in (
            Speaks (n + 1),
            subst (λ (bs : List ℕ). ChannelWrites d (Speaks n) (ToWrite p) (Wrote r.0 bs) (Speaks (n + 1))) (sym o.0)
                (subst (λ (k : ℕ). ChannelWrites d (Speaks n) (ToWrite p) (Wrote k (frame_at d n (take k p))) (Speaks (n + 1))) (sym taken)
                (writes d n p some (same-silent n m ∙ heard) below)),
            (still, o.1),
          ))

      pub writes-next : (result : Result (ℕ × ℕ) StreamFault) → StreamSenderWrites w next p out after result
          → Comes v s (ToWrite p) (put_by_write after result) next
      writes-next (Err why) h =
          subst (λ (z : StreamSenderValue). Comes v s (ToWrite p) (Failed why) z) (sym h.unchanged.0)
          (why-failed w.ended (length p == 0) (writes_nothing w.half) (w.half.nonce + 1 == last_nonce) why (λ (f : StreamFault). Comes v s (ToWrite p) (Failed f) w)
          open_now h.fault
          (λ some mute. mute-as s (ToWrite p) (asks-some p (some-there p some)) mute matches)
          (λ some heard last. speaking (λ (z : StreamSenderState). Comes v z (ToWrite p) (Failed fault.Exhausted) w) s matches (λ n m. (
            Speaks n,
            exhausted (outgoing v) n p (some-there p some) (same-silent n m ∙ heard) (last-there n w.half.nonce m.nonce last),
            (open_now, m),
          ))))
      writes-next (Ok r) h =
          why-wrote w.ended (length p == 0) (writes_nothing w.half) (w.half.nonce + 1 == last_nonce) r (Comes v s (ToWrite p) (Wrote r.0 (take r.1 after)) next)
          open_now h.fault
          (λ e.
          let none : p ≡ [] = none-there p e in
          let zero : r.0 ≡ 0 = h.taken ∙ ap first_part_len none in
          let same = h.nothing zero in
          rw (zero, same.0, same.1, none)
          (speaking (λ (z : StreamSenderState). Comes v z (ToWrite []) (Wrote 0 []) w) s matches (λ n m. (Speaks n, skips (outgoing v) n, (open_now, m)))))
          (λ some heard more.
          let f = h.frame (subst (λ (k : ℕ). 1 ≤ k) (sym h.taken) (some-taken p (some-there p some))) in
          frame-as r (some-there p some) heard more h.taken f.0 f.1)
