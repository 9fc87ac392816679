-- A direction between two halves of one key: what is read of it is a front of what was written, or a frame was forged.
use Rattle.std.proofs.Common.{◌≡◌, ◌≢◌, ◌⊎◌, inl, inr, ℕ, zero, suc, ◌+◌, ◌<◌, ◌≤◌, List, [], ◌∷◌, ◌++◌, length, take, drop, slice_get, Some, refl, sym, ◌∙◌, ap, subst, arith}
use Rattle.std.proofs.Common.{append-nil, append_assoc, length-append}
use Rattle.std.specs.Prelude.{Bool, true, false}
use Rattle.byteorder.specs.Endian.{big_bytes}
use Rattle.noise_aead.specs.Sealed.{length-sealed}
use Rattle.noise_aead.specs.Sealing.{nonce_of}
use Rattle.noise_state.specs.Cipher.{rekeyed_times}
use Rattle.noise_session.specs.Frames.{frame}
use Rattle.noise_session.specs.Framing.{frame-same}
use Rattle.noise_session.specs.Transport.{rekeys, split_key, last_nonce}
use Rattle.noise_channel.specs.Streams.{Direction, message_at, frame_at, stream}
use Rattle.noise_channel.specs.Writing.{Asked, Put, Call, StreamSenderState, ChannelWrites, WritesAll, bytes_put, first_part, first_part_len, has_ended, payload_in, payloads_written, written_bytes}
use Rattle.noise_channel.specs.Writing.StreamSenderState.{Speaks, HasEnded}
use Rattle.noise_channel.specs.Writing.Asked.{ToWrite, ToEnd}
use Rattle.noise_channel.specs.Writing.Put.{Wrote}
use Rattle.noise_channel.specs.Writing.ChannelWrites.{skips, writes, ends, one_way, exhausted, over}
use Rattle.noise_channel.specs.Writing.WritesAll.{stops, goes_on}
use Rattle.noise_channel.specs.Reading.{StreamReceiverState}
use Rattle.noise_channel.specs.Reading.StreamReceiverState.{Listens, AtEnd}
use Rattle.noise_channel.specs.Reading.ChannelReads.{wants, gives, ends as ends_here, refuses, closed_at_end, closed_broken}
use Rattle.noise_channel.specs.Runs.{StreamReceiverRun, AreParts, ForgedAt, IsWritten, PrefixOrForged, has_met_end, payloads, sealed_on, uses}
use Rattle.noise_channel.specs.Runs.StreamReceiverRun.{stops as run_stops, arrives, calls as run_calls}
use Rattle.noise_c.specs.TwoStreams.{IsForged, frame_under, frames_under}

-- ---- two directions with one key

-- they have one key and one interval, and both or neither are silent
pub record Alike (d e : Direction) : Type 0 where
  pub keys : split_key d.state d.writer ≡ split_key e.state e.writer
  pub intervals : d.interval ≡ e.interval
  pub silent : d.silent ≡ e.silent

frame-alike : (d e : Direction) (a : Alike d e) (n : ℕ) (p : List ℕ) → frame_at d n p ≡ frame_at e n p
frame-alike d e a n p =
    ap (λ (k : List ℕ). frame_under k d.interval n p) a.keys
    ∙ ap (λ (i : ℕ). frame_under (split_key e.state e.writer) i n p) a.intervals

write-alike : (d e : Direction) (s t : StreamSenderState) (asked : Asked) (put : Put) → Alike d e → ChannelWrites d s asked put t
    → ChannelWrites e s asked put t
write-alike d e s t asked put a (skips _ n) = skips e n
write-alike d e s t asked put a (writes _ n p some speaks low) =
    subst (λ (f : List ℕ). ChannelWrites e (Speaks n) (ToWrite p) (Wrote (first_part_len p) f) (Speaks (n + 1)))
    (sym (frame-alike d e a n (first_part p))) (writes e n p some (sym a.silent ∙ speaks) low)
write-alike d e s t asked put a (ends _ n speaks low) =
    subst (λ (f : List ℕ). ChannelWrites e (Speaks n) ToEnd (Wrote 0 f) HasEnded) (sym (frame-alike d e a n []))
    (ends e n (sym a.silent ∙ speaks) low)
write-alike d e s t asked put a (one_way _ n _ some mute) = one_way e n asked some (sym a.silent ∙ mute)
write-alike d e s t asked put a (exhausted _ n p some speaks last) = exhausted e n p some (sym a.silent ∙ speaks) last
write-alike d e s t asked put a (over _ _) = over e asked

pub all-alike : (d e : Direction) (s u : StreamSenderState) (calls : List Call) → Alike d e → WritesAll d s calls u → WritesAll e s calls u
all-alike d e s u calls a (stops _ _) = stops e s
all-alike d e s u calls a (goes_on _ _ t _ asked put more one rest) =
    goes_on e s t u asked put more (write-alike d e s t asked put a one) (all-alike d e t u more a rest)

-- ---- one call more

pub one-more : (d : Direction) (s t u : StreamSenderState) (calls : List Call) (asked : Asked) (put : Put) → WritesAll d s calls t
    → ChannelWrites d t asked put u → WritesAll d s (calls ++ record { asked = asked; put = put } ∷ []) u
one-more d s t u calls asked put (stops _ _) one = goes_on d s u u asked put [] one (stops d u)
one-more d s t u calls asked put (goes_on _ _ m _ a p more first rest) one =
    goes_on d s m u a p (more ++ record { asked = asked; put = put } ∷ []) first (one-more d m t u more asked put rest one)

pub bytes-more : (xs ys : List Call) → bytes_put (xs ++ ys) ≡ bytes_put xs ++ bytes_put ys
bytes-more [] ys = refl
bytes-more (x ∷ xs) ys =
    ap (λ (b : List ℕ). written_bytes x.put ++ b) (bytes-more xs ys)
    ∙ sym (append_assoc (written_bytes x.put) (bytes_put xs) (bytes_put ys))

pub payloads-more : (xs ys : List Call) → payloads_written (xs ++ ys) ≡ payloads_written xs ++ payloads_written ys
payloads-more [] ys = refl
payloads-more (x ∷ xs) ys =
    ap (λ (b : List (List ℕ)). payload_in x.put x.asked ++ b) (payloads-more xs ys)
    ∙ sym (append_assoc (payload_in x.put x.asked) (payloads_written xs) (payloads_written ys))

-- ---- more bytes that come

pub more-comes : (d : Direction) (s t u : StreamReceiverState) (partial came left bytes rest : List ℕ) (out more : List (List ℕ))
    → StreamReceiverRun d s partial came out t left → StreamReceiverRun d t (left ++ bytes) [] more u rest
    → StreamReceiverRun d s partial (came ++ bytes) (out ++ more) u rest
more-comes d s t u partial came left bytes rest out more (run_stops _ _ _) next =
    subst (λ (b : List ℕ). StreamReceiverRun d s partial b more u rest) (append-nil bytes) (arrives d s u partial bytes [] rest more next)
more-comes d s t u partial came left bytes rest out more (arrives _ _ _ _ piece came_later _ _ run) next =
    subst (λ (b : List ℕ). StreamReceiverRun d s partial b (out ++ more) u rest) (sym (append_assoc piece came_later bytes))
    (arrives d s u partial piece (came_later ++ bytes) rest (out ++ more)
    (more-comes d s t u (partial ++ piece) came_later left bytes rest out more run next))
more-comes d s t u partial came left bytes rest out more (run_calls _ _ m _ _ _ _ g others one run) next =
    subst (λ (ps : List (List ℕ)). StreamReceiverRun d s partial (came ++ bytes) ps u rest)
    (sym (append_assoc (payloads g) others more))
    (run_calls d s m u partial (came ++ bytes) rest g (others ++ more) one
    (more-comes d m t u (drop (uses g) partial) came left bytes rest others more run next))

-- ---- the frames of a stream

abbrev pub key_of : Direction → List ℕ
key_of d = split_key d.state d.writer

pub stream-frames : (d : Direction) (n : ℕ) (ps : List (List ℕ)) (ended : Bool)
    → stream d n ps ended ≡ frames_under (key_of d) d.interval n (sealed_on ps ended)
stream-frames d n [] false = refl
stream-frames d n [] true = sym (append-nil (frame_at d n []))
stream-frames d n (p ∷ ps) ended = ap (λ (b : List ℕ). frame_at d n p ++ b) (stream-frames d (n + 1) ps ended)

open-frames : (d : Direction) (n : ℕ) (ps : List (List ℕ)) → stream d n ps false ≡ frames_under (key_of d) d.interval n ps
open-frames d n [] = refl
open-frames d n (p ∷ ps) = ap (λ (b : List ℕ). frame_at d n p ++ b) (open-frames d (n + 1) ps)

split-frames : (key : List ℕ) (interval n i : ℕ) (ws : List (List ℕ))
    → frames_under key interval n ws ≡ frames_under key interval n (take i ws) ++ frames_under key interval (n + i) (drop i ws)
split-frames key interval n zero ws = ap (λ (k : ℕ). frames_under key interval k ws) (let e : n ≡ n + 0 = omega arith in e)
split-frames key interval n (suc i) [] = refl
split-frames key interval n (suc i) (w ∷ ws) =
    let next : n + 1 + i ≡ n + suc i = omega arith in
    ap (λ (b : List ℕ). frame_under key interval n w ++ b) (split-frames key interval (n + 1) i ws)
    ∙ sym (append_assoc (frame_under key interval n w) (frames_under key interval (n + 1) (take i ws)) (frames_under key interval (n + 1 + i) (drop i ws)))
    ∙ ap (λ (k : ℕ). (frame_under key interval n w ++ frames_under key interval (n + 1) (take i ws)) ++ frames_under key interval k (drop i ws)) next

-- ---- no payload is longer than a message allows

length-message : (d : Direction) (n : ℕ) (p : List ℕ) → length (message_at d n p) ≡ length p + 16
length-message d n p = length-sealed (rekeyed_times (rekeys d.interval n) (key_of d)) (nonce_of n) [] p

abbrev AreShort : List (List ℕ) → Type 0
AreShort [] = Unit {0}
AreShort (p ∷ ps) = (length p ≤ 65519) × AreShort ps

short-at : (ps : List (List ℕ)) (i : ℕ) (p : List ℕ) → AreShort ps → slice_get ps i ≡ Some p → length p ≤ 65519
short-at [] i p all e = absurd (cc)
short-at (q ∷ ps) zero p all e = let same : q ≡ p = cc in subst (λ (x : List ℕ). length x ≤ 65519) same all.0
short-at (q ∷ ps) (suc i) p all e = short-at ps i p all.1 e

short-sealed : (ps : List (List ℕ)) (ended : Bool) → AreShort ps → AreShort (sealed_on ps ended)
short-sealed [] false all = tt
short-sealed [] true all = (omega arith, tt)
short-sealed (p ∷ ps) ended all = (all.0, short-sealed ps ended all.1)

parts-short : (ps : List (List ℕ)) → AreParts ps → AreShort ps
parts-short [] all = tt
parts-short (p ∷ ps) all = (all.1, parts-short ps all.2)

read-short : (d : Direction) (s t : StreamReceiverState) (partial came left : List ℕ) (out : List (List ℕ))
    → StreamReceiverRun d s partial came out t left → AreShort out
read-short d s t partial came left out (run_stops _ _ _) = tt
read-short d s t partial came left out (arrives _ _ _ _ piece more _ _ run) = read-short d s t (partial ++ piece) more left out run
read-short d s t partial came left out (run_calls _ _ u _ _ _ _ _ rest (wants _ _ _ part) run) = read-short d u t partial came left rest run
read-short d s t partial came left out (run_calls _ _ u _ _ _ _ _ rest (gives _ n _ p listens f some) run) =
    (omega (arith, f.short, length-message d n p), read-short d u t (drop (length (frame_at d n p)) partial) came left rest run)
read-short d s t partial came left out (run_calls _ _ u _ _ _ _ _ rest (ends_here _ n _ listens f) run) =
    read-short d u t (drop (length (frame_at d n [])) partial) came left rest run
read-short d s t partial came left out (run_calls _ _ u _ _ _ _ _ rest (refuses _ _ _ m cause f unopened) run) = read-short d u t partial came left rest run
read-short d s t partial came left out (run_calls _ _ u _ _ _ _ _ rest (closed_at_end _ _) run) = read-short d u t partial came left rest run
read-short d s t partial came left out (run_calls _ _ u _ _ _ _ _ rest (closed_broken _ _) run) = read-short d u t partial came left rest run

-- ---- what is forged

message-short : (d : Direction) (n : ℕ) (p : List ℕ) → length p ≤ 65519 → length (message_at d n p) ≤ 65535
message-short d n p short = omega (arith, short, length-message d n p)

some-frame : (m more : List ℕ) → [] ≢ frame m ++ more
some-frame m more e = absurd (omega (arith, ap length e, length-append (frame m) more, length-append (big_bytes 2 (length m)) m))

-- the frames from a place on don't begin with that of another message
not-there : (d : Direction) (n : ℕ) (p : List ℕ) (ws : List (List ℕ)) (i : ℕ) → length p ≤ 65519 → AreShort ws
    → ((q : List ℕ) → slice_get ws i ≡ Some q → message_at d n q ≢ message_at d n p) → (more : List ℕ)
    → frames_under (key_of d) d.interval n (drop i ws) ≢ frame_under (key_of d) d.interval n p ++ more
not-there d n p [] zero short all apart more = some-frame (message_at d n p) more
not-there d n p [] (suc i) short all apart more = some-frame (message_at d n p) more
not-there d n p (w ∷ ws) zero short all apart more = λ e.
    apart w refl (frame-same (message_at d n w) (message_at d n p) (frames_under (key_of d) d.interval (n + 1) ws) more (message-short d n w all.0)
    (message-short d n p short) e).0
not-there d n p (w ∷ ws) (suc i) short all apart more = not-there d n p ws i short all.1 apart more

length-taken : (ps : List (List ℕ)) (i : ℕ) (p : List ℕ) → slice_get ps i ≡ Some p → length (take i ps) ≡ i
length-taken [] i p e = absurd (cc)
length-taken (q ∷ ps) zero p e = refl
length-taken (q ∷ ps) (suc i) p e = ap suc (length-taken ps i p e)

is-forged : (d : Direction) (ws xs : List (List ℕ)) (put came : List ℕ) (i : ℕ) → put ≡ frames_under (key_of d) d.interval 0 ws
    → take i xs ≡ take i ws → AreShort ws → AreShort xs → ForgedAt d 0 ws xs came i → IsForged (key_of d) d.interval put came
is-forged d ws xs put came i is same short opened f =
    let k = key_of d in
    let long : length (take i xs) ≡ i = length-taken xs i f.forged f.was_accepted in
    let there : 0 + i ≡ length (take i xs) = omega (arith, long) in
    record {
      before = take i xs;
      payload = f.forged;
      later = f.after;
      came_is =
          f.came_in
          ∙ (ap (λ (b : List ℕ). b ++ (frame_at d (0 + i) f.forged ++ f.after)) (open-frames d 0 (take i xs))
          ∙ ap (λ (n : ℕ). frames_under k d.interval 0 (take i xs) ++ (frame_under k d.interval n f.forged ++ f.after)) there);
      rest = frames_under k d.interval (0 + i) (drop i ws);
      put_is =
          is
          ∙ (split-frames k d.interval 0 i ws
          ∙ ap (λ (ps : List (List ℕ)). frames_under k d.interval 0 ps ++ frames_under k d.interval (0 + i) (drop i ws)) (sym same));
      unwritten = λ more. subst (λ (n : ℕ). frames_under k d.interval (0 + i) (drop i ws) ≢ frame_under k d.interval n f.forged ++ more) there
          (not-there d (0 + i) f.forged ws i (short-at xs i f.forged opened f.was_accepted) short f.unwritten more);
    }

-- ---- a direction, by the laws of the channel

abbrev pub Prefix : Type 0
Prefix = (d : Direction) (n : ℕ) (calls : List Call) (u : StreamSenderState) (came left : List ℕ) (out : List (List ℕ)) (t : StreamReceiverState)
    → n < last_nonce → WritesAll d (Speaks n) calls u → StreamReceiverRun d (Listens n) [] came out t left
    → PrefixOrForged d n (payloads_written calls) (has_ended u) came out t

abbrev pub MakesStream : Type 0
MakesStream = (d : Direction) (n : ℕ) (calls : List Call) (u : StreamSenderState) → n < last_nonce → WritesAll d (Speaks n) calls u
    → (bytes_put calls ≡ stream d n (payloads_written calls) (has_ended u)) × IsWritten d n (payloads_written calls) (has_ended u)

module _ (e : Direction) (calls : List Call) (u : StreamSenderState) (came left : List ℕ) (out : List (List ℕ)) (t : StreamReceiverState)
    (all : WritesAll e (Speaks 0) calls u) (run : StreamReceiverRun e (Listens 0) [] came out t left) where
  -- the first of what was written was handed out, or a frame was forged
  pub front-or-forged : Prefix → MakesStream
      → ((more : List (List ℕ)) × (payloads_written calls ≡ out ++ more) × (t ≡ AtEnd → (more ≡ []) × (has_ended u ≡ true)))
      ⊎ IsForged (key_of e) e.interval (bytes_put calls) came
  front-or-forged prefix makes =
      let made = makes e 0 calls u (omega arith) all in
      let ps : List (List ℕ) = payloads_written calls in
      elim (prefix e 0 calls u came left out t (omega arith) all run) [
        | inl h ↦ inl h
        | inr h ↦
            inr (is-forged e (sealed_on ps (has_ended u)) (sealed_on out (has_met_end t)) (bytes_put calls) came h.0
            (made.0 ∙ stream-frames e 0 ps (has_ended u)) h.1
            (short-sealed ps (has_ended u) (parts-short ps made.1.parts))
            (short-sealed out (has_met_end t) (read-short e (Listens 0) t [] came left out run)) h.2)
      ]
