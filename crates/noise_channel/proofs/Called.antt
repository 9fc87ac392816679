-- What the calls of a writer put out is a stream.
use Rattle.std.proofs.Common.{◌≡◌, ◌≢◌, ℕ, ◌+◌, ◌<◌, ◌≤◌, ◌∷◌, List, [], ◌++◌, length, take, Bool, true, false, refl, sym, ◌∙◌, ap, subst, arith}
use Rattle.std.proofs.Common.{append-nil}
use Rattle.std.proofs.lemmas.Bool.Decides.{nat_tests}
use Rattle.std.proofs.lemmas.List.{length-take-le}
use Rattle.noise_session.specs.Transport.{last_nonce}
use Rattle.noise_channel.specs.Streams.{Direction, frame_at, stream}
use Rattle.noise_channel.specs.Writing.{StreamSenderState, Call, WritesAll, first_part_len, bytes_put, payloads_written, payload_in, has_ended}
use Rattle.noise_channel.specs.Writing.StreamSenderState.{Speaks, HasEnded}
use Rattle.noise_channel.specs.Writing.Asked.{ToWrite}
use Rattle.noise_channel.specs.Writing.Put.{Wrote}
use Rattle.noise_channel.specs.Writing.ChannelWrites.{skips, writes, ends, one_way, exhausted, over}
use Rattle.noise_channel.specs.Writing.WritesAll.{stops, goes_on}
use Rattle.noise_channel.specs.Runs.{IsWritten}

-- nothing is written after the end
after-end : (d : Direction) (u : StreamSenderState) (calls : List Call) → WritesAll d HasEnded calls u
    → (bytes_put calls ≡ []) × (payloads_written calls ≡ []) × (u ≡ HasEnded)
after-end d u calls (stops _ _) = (refl, refl, refl)
after-end d u calls (goes_on _ _ _ _ asked put more (over _ _) rest) = after-end d u more rest

-- how much of a payload is taken
pub some-taken : (p : List ℕ) → p ≢ [] → 1 ≤ first_part_len p
some-taken [] some = absurd (some refl)
some-taken (x ∷ p) some = grind (arith, nat_tests)

taken-within : (p : List ℕ) → (first_part_len p ≤ length p) × (first_part_len p ≤ 65519)
taken-within p = (grind (arith, nat_tests), grind (arith, nat_tests))

length-taken : (p : List ℕ) → length (take (first_part_len p) p) ≡ first_part_len p
length-taken p = length-take-le (first_part_len p) p (taken-within p).0

taken-once : (p bytes : List ℕ) → p ≢ [] → payload_in (Wrote (first_part_len p) bytes) (ToWrite p) ≡ take (first_part_len p) p ∷ []
taken-once p bytes some = let h = some-taken p some in grind (arith, nat_tests)

part-some : (p : List ℕ) → p ≢ [] → take (first_part_len p) p ≢ []
part-some p some e =
    let h = some-taken p some in
    let none : length (take (first_part_len p) p) ≡ 0 = ap length e in
    let long = length-taken p in
    omega arith

-- the stream of the calls, and what it asks for
abbrev Streams : Direction → ℕ → List Call → StreamSenderState → Type 0
Streams d n calls u = (bytes_put calls ≡ stream d n (payloads_written calls) (has_ended u)) × IsWritten d n (payloads_written calls) (has_ended u)

written-first : (d : Direction) (n : ℕ) (p : List ℕ) (ps : List (List ℕ)) (ended : Bool) → p ≢ [] → length p ≤ 65519 → d.silent ≡ false
    → IsWritten d (n + 1) ps ended → IsWritten d n (p ∷ ps) ended
written-first d n p ps ended some fits heard w =
    record { speaks = λ h. heard; parts = (some, fits, w.parts); nonces = let h = w.nonces in omega arith }

pub called : (d : Direction) (n : ℕ) (u : StreamSenderState) (calls : List Call) → n < last_nonce → WritesAll d (Speaks n) calls u → Streams d n calls u
called d n u calls low (stops _ _) = (refl, record { speaks = λ h. absurd (omega arith); parts = tt; nonces = omega arith })
called d n u calls low (goes_on _ _ _ _ asked put more (skips _ _) rest) = called d n u more low rest
called d n u calls low (goes_on _ _ _ _ asked put more (writes _ _ p some heard room) rest) =
    let r = called d (n + 1) u more room rest in
    let q : List ℕ = take (first_part_len p) p in
    let front = taken-once p (frame_at d n q) some in
    let all : q ∷ payloads_written more ≡ payload_in (Wrote (first_part_len p) (frame_at d n q)) (ToWrite p) ++ payloads_written more =
    ap (λ (xs : List (List ℕ)). xs ++ payloads_written more) (sym front) in
    let within : length q ≤ 65519 = let k = length-taken p in let m = (taken-within p).1 in omega arith in (
      ap (λ (xs : List ℕ). frame_at d n q ++ xs) r.0 ∙ ap (λ (ps : List (List ℕ)). stream d n ps (has_ended u)) all,
      subst (λ (ps : List (List ℕ)). IsWritten d n ps (has_ended u)) all
          (written-first d n q (payloads_written more) (has_ended u) (part-some p some) within heard r.1),
    )
called d n u calls low (goes_on _ _ _ _ asked put more (ends _ _ heard fits) rest) =
    let r = after-end d u more rest in
    let ended : true ≡ has_ended u = ap has_ended (sym r.2) in
    let none : [] ≡ payloads_written more = sym r.1 in (
      ap (λ (xs : List ℕ). frame_at d n [] ++ xs) r.0 ∙ append-nil (frame_at d n [])
          ∙ ap (λ (b : Bool). stream d n [] b) ended ∙ ap (λ (ps : List (List ℕ)). stream d n ps (has_ended u)) none,
      subst (λ (ps : List (List ℕ)). IsWritten d n ps (has_ended u)) none
          (subst (λ (b : Bool). IsWritten d n [] b) ended (record { speaks = λ h. heard; parts = tt; nonces = omega arith })),
    )
called d n u calls low (goes_on _ _ _ _ asked put more (one_way _ _ _ some mute) rest) = called d n u more low rest
called d n u calls low (goes_on _ _ _ _ asked put more (exhausted _ _ p some heard last) rest) = called d n u more low rest
