-- A stream that one program writes and another reads, in one function.
use Rattle.std.proofs.Common.{◌≡◌, ◌≤◌, ℕ, ◌+◌, ◌-◌, List, [], ◌∷◌, ◌++◌, length, take, drop, refl, ap, sym, ◌∙◌, arith, append-nil}
use Rattle.std.specs.Prelude.{Bool, true, false, ◌==◌, nat_lt, not, if◌then◌else◌}
use Rattle.std.proofs.Math.Seq.{take-add}
use Rattle.std.proofs.lemmas.Slice.{take-put_mid_below}
use borrow.Rule.Slice.PartMut.{mid_of, put_mid}
use Rattle.std.specs.List.{concat}
use Rattle.std.proofs.lemmas.List.{take_all}
use Rattle.noise_session.specs.TransportValue.{TransportState}
use Rattle.noise_channel.specs.Streams.{Direction, outgoing}
use Rattle.noise_channel.specs.Writing.{ChannelWrites, StreamSenderState, has_ended, payload_in}
use Rattle.noise_channel.specs.Writing.Asked.{ToEnd, ToWrite}
use Rattle.noise_channel.specs.Writing.ChannelWrites.{ends}
use Rattle.noise_channel.specs.Writing.Put.{Wrote}
use Rattle.noise_channel.specs.Writing.StreamSenderState.{Speaks}
use Rattle.noise_channel.specs.Writing.WritesAll.{goes_on, stops}
use Rattle.noise_channel.specs.Receiving.{HandsOutAll}
use Rattle.noise_c.specs.FinishedPrograms.{IsStreamOf}
use Rattle.noise_c.proofs.Common.{nat_tests}
use Rattle.noise_c.proofs.Received.{part-after}

ends-it : (d : Direction) (s t : StreamSenderState) (bytes : List ℕ) → ChannelWrites d s ToEnd (Wrote 0 bytes) t → has_ended t ≡ true
ends-it d s t bytes (ends _ n speaks more) = refl

one-part : (none : Bool) (n : ℕ) (text : List ℕ) → none ≡ false → concat (if none then [] else take n text ∷ []) ≡ take n text
one-part true n text e = cc
one-part false n text e = append-nil (take n text)

all-taken : (text bytes : List ℕ) → concat (payload_in (Wrote (length text) bytes) (ToWrite text)) ≡ text
all-taken [] bytes = refl
all-taken (x ∷ xs) bytes =
    let some : (length (x ∷ xs) == 0) ≡ false = grind (arith, nat_tests) in
    one-part (length (x ∷ xs) == 0) (length (x ∷ xs)) (x ∷ xs) some ∙ take_all (length (x ∷ xs)) (x ∷ xs) (omega arith)

-- the end found room
pub room-left : (known : Bool) (room rest : ℕ) → 0 ≡ (if not known then 23 else if nat_lt room 18 then 18 else rest) → 18 ≤ room
room-left false room rest e = absurd (omega (arith, e))
room-left true room rest e = by (nat_lt room 18) refl e where
  by : (b : Bool) → nat_lt room 18 ≡ b → 0 ≡ (if b then 18 else rest) → 18 ≤ room
  by true less f = absurd (omega (arith, f))
  by false more f = grind (arith, nat_tests, more)

-- what two calls wrote one after the other
pub joined-front : (at k : ℕ) (b part : List ℕ) → at ≤ length b → length part ≡ length (mid_of at (length b - at) b)
    → take (at + k) (put_mid at (length b - at) b part) ≡ take at b ++ take k part
joined-front at k b part within long =
    take-add at k (put_mid at (length b - at) b part)
    ∙ ap (λ (xs : List ℕ). xs ++ take k (drop at (put_mid at (length b - at) b part))) (take-put_mid_below at (length b - at) b part at (omega arith) within)
    ∙ ap (λ (xs : List ℕ). take at b ++ take k xs) (part-after at b part within long)

module _ (v : TransportState) (text : List ℕ) where
  -- the frame of a text that fits into one, and the end
  pub stream-of : (t u : StreamSenderState) (used : ℕ) (first last : List ℕ) → ChannelWrites (outgoing v) (Speaks 0) (ToWrite text) (Wrote used first) t
      → ChannelWrites (outgoing v) t ToEnd (Wrote 0 last) u → used ≡ length text → IsStreamOf v text (first ++ last)
  stream-of t u used first last one end all =
      let d = outgoing v in
      record {
        calls = record { asked = ToWrite text; put = Wrote used first } ∷ record { asked = ToEnd; put = Wrote 0 last } ∷ [];
        state = u;
        writes = goes_on d (Speaks 0) t u (ToWrite text) (Wrote used first) _ one (goes_on d t u u ToEnd (Wrote 0 last) [] end (stops d u));
        put = ap (λ (bytes : List ℕ). first ++ bytes) (append-nil last);
        taken = ap concat (append-nil (payload_in (Wrote used first) (ToWrite text)))
            ∙ ap (λ (n : ℕ). concat (payload_in (Wrote n first) (ToWrite text))) all ∙ all-taken text first;
        ended = ends-it d t u last end;
      }

  -- where such a stream came, all of the text is handed out
  pub all-sent : (came before after : List ℕ) (whole : Bool) → IsStreamOf v text came → HandsOutAll v came before after whole
      → (after ≡ before ++ text) × (whole ≡ true)
  all-sent came before after whole s h =
      let r = h s.calls s.state s.writes (sym s.put) in
      (r.0 ∙ ap (λ (t : List ℕ). before ++ t) s.taken, r.1.1 s.ended)
