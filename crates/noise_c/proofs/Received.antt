-- A loop over the calls that read a stream: what one call gives, by its number, and a part of what came.
use Rattle.std.proofs.Common.{◌≡◌, ◌⊎◌, inl, inr, ℕ, ◌+◌, ◌-◌, ◌≤◌, List, [], ◌++◌, length, take, drop, refl, sym, ◌∙◌, ap, subst, arith, append-nil, length-take}
use Rattle.std.specs.Prelude.{Result, Ok, Err, IfOk, Bool}
use Rattle.std.specs.List.{concat}
use Rattle.std.specs.declared.alloc.AllocError.{AllocError}
use Rattle.std.proofs.Math.Seq.{drop-length}
use Rattle.std.proofs.lemmas.List.{drop-drop, drop_at, take_rest}
use borrow.Rule.Slice.PartMut.{mid_of, put_mid, same_len_mid}
use Rattle.noise_session.specs.declared.faults.OpenFault.{OpenFault}
use Rattle.noise_session.specs.declared.faults.OpenFault.TheVariants.{Short, Tag, Exhausted, OneWay}
use Rattle.noise_session.specs.TransportValue.{TransportState, transport_of}
use Rattle.noise_channel.specs.Halves.{StreamReceiverMatches, StreamReceiverValue}
use Rattle.noise_channel.specs.Streams.{Direction, incoming}
use Rattle.noise_channel.specs.Reading.{StreamReceiverState, NextValue, ChannelReads}
use Rattle.noise_channel.specs.Reading.StreamReceiverState.{Listens}
use Rattle.noise_channel.specs.Reading.NextValue.{Wants, Payload, End, Refused, Closed}
use Rattle.noise_channel.specs.Reading.ChannelReads.{wants, gives, ends, refuses, closed_at_end, closed_broken}
use Rattle.noise_channel.specs.Runs.{Rests, uses, payloads}
use Rattle.noise_channel.specs.Receiving.{HandsOut, ReadsOnce, ReadsToEnd}
use Rattle.noise_c.proofs.Common.{KeepsParty, NoiseHandshake, Party, Plan}
use Rattle.noise_c.specs.FinishedPrograms.{ReadsAfter}
use Rattle.noise_c.specs.TransportCodes.{open_code}
use Rattle.noise_c.specs.StreamStructs.{ReportsGiven, stream_receiver_from_c}
use Rattle.noise_c.specs.declared.structs.NoiseStreamReceiver.{NoiseStreamReceiver}
use Rattle.noise_c.specs.declared.structs.NoiseStreamResult.{NoiseStreamResult}

-- a call that uses nothing
abbrev IsStill : NextValue → Type 0
IsStill (Wants count) = Unit {0}
IsStill (Payload payload used) = ⊥
IsStill (End used) = ⊥
IsStill (Refused cause) = Unit {0}
IsStill Closed = Unit {0}

still-rests : (d : Direction) (s t : StreamReceiverState) (came : List ℕ) (g : NextValue) → ChannelReads d s came g t → IsStill g → Rests d t came
still-rests d s t came g (wants _ n _ partial) still = (_, _, wants d n came partial, tt)
still-rests d s t came g (gives _ _ _ p listens f some) still = absurd still
still-rests d s t came g (ends _ _ _ listens f) still = absurd still
still-rests d s t came g (refuses _ _ _ m cause f unopened) still = (_, _, closed_broken d came, tt)
still-rests d s t came g (closed_at_end _ _) still = (_, _, closed_at_end d came, tt)
still-rests d s t came g (closed_broken _ _) still = (_, _, closed_broken d came, tt)

still-uses : (g : NextValue) → IsStill g → (0 ≡ uses g) × ([] ≡ payloads g)
still-uses (Wants count) still = (refl, refl)
still-uses (Payload payload used) still = absurd still
still-uses (End used) still = absurd still
still-uses (Refused cause) still = (refl, refl)
still-uses Closed still = (refl, refl)

refusal-is : (cause : OpenFault) (code : ℕ) → code ≡ open_code cause → (15 ≤ code) × (code ≤ 22)
refusal-is Short code e = (omega (arith, e), omega (arith, e))
refusal-is Tag code e = (omega (arith, e), omega (arith, e))
refusal-is Exhausted code e = (omega (arith, e), omega (arith, e))
refusal-is OneWay code e = (omega (arith, e), omega (arith, e))

-- what the struct holds after a call
abbrev pub Gave : TransportState → StreamReceiverState → List ℕ → ℕ → NoiseStreamResult → List ℕ → NoiseStreamReceiver → Type 0
Gave v s buffer code results after new =
    (g : NextValue) × (t : StreamReceiverState) × ReportsGiven code results after g × ChannelReads (incoming v) s buffer g t
    × StreamReceiverMatches (stream_receiver_from_c new) v t

module _ (v : TransportState) (s : StreamReceiverState) (buffer after before : List ℕ) (results : NoiseStreamResult) (new : NoiseStreamReceiver) where
  is-still : (code : ℕ) → (code ≡ 0 → ⊥) → (code ≡ 41 → ⊥) → (g : NextValue) → ReportsGiven code results after g → IsStill g
  is-still code some end (Payload payload used) h = absurd (some h.0)
  is-still code some end (End used) h = absurd (end h.0)
  is-still code some end (Wants count) h = tt
  is-still code some end (Refused cause) h = tt
  is-still code some end Closed h = tt

  -- neither
  pub reads-still : (code : ℕ) → (code ≡ 0 → ⊥) → (code ≡ 41 → ⊥) → Gave v s buffer code results after new
      → ReadsOnce v s buffer 0 before before (stream_receiver_from_c new)
  reads-still code some end call =
      let still = is-still code some end call.0 call.2 in
      let p = still-uses call.0 still in
      record {
        gives = call.0;
        state = call.1;
        reads = call.3;
        used_is = p.0;
        rests = λ none. still-rests (incoming v) s call.1 buffer call.0 call.3 still;
        appended = sym (append-nil before) ∙ ap (λ (ps : List (List ℕ)). before ++ concat ps) p.1;
        matches = call.4;
      }

-- ---- a part of what came, from a place on

module _ (at : ℕ) (came part : List ℕ) (within : at ≤ length came) (long : length part ≡ length (mid_of at (length came - at) came)) where
  pub part-of : mid_of at (length came - at) came ≡ drop at came
  part-of = take_rest came at

  pub part-long : length (put_mid at (length came - at) came part) ≡ length came
  part-long = same_len_mid at (length came - at) came part long

  pub part-after : drop at (put_mid at (length came - at) came part) ≡ part
  part-after =
      let none : drop (length came - at) (drop at came) ≡ [] =
      drop-drop (length came - at) at came ∙ ap (λ (k : ℕ). drop k came) (let e : at + (length came - at) ≡ length came = omega arith in e)
      ∙ drop-length came in
      drop_at (take at came) (part ++ drop (length came - at) (drop at came)) at (omega (arith, length-take at came))
      ∙ ap (λ (xs : List ℕ). part ++ xs) none ∙ append-nil part

-- what follows a payload's frame is as it came
pub after-used : (to used : ℕ) (old new : List ℕ) → to + 16 ≡ used → drop to new ≡ drop to old → drop used new ≡ drop used old
after-used to used old new is same =
    subst (λ (k : ℕ). drop k new ≡ drop k old) is (sym (drop-drop 16 to new) ∙ ap (drop 16) same ∙ drop-drop 16 to old)

-- whichever way the call ended
pub handed-or : {F : Type 0} (writer : TransportState) (came before after : List ℕ) (r : Result Bool AllocError)
    → (IfOk r (λ whole. HandsOut writer came before after whole) ⊎ F) → IfOk r (λ whole. HandsOut writer came before after whole ⊎ F)
handed-or writer came before after (Ok whole) (inl h) = inl h
handed-or writer came before after (Ok whole) (inr f) = inr f
handed-or writer came before after (Err e) h = tt

-- each state that the handshake matches is that of a reader
pub all-read : (k : NoiseHandshake) (interval : ℕ) (came before after : List ℕ) (receiver : StreamReceiverValue) (r : Result Bool AllocError)
    → ((p : Plan) (v : Party) → KeepsParty k p v
    → IfOk r (λ whole. ReadsToEnd (transport_of v interval) (Listens 0) came before after receiver whole))
    → IfOk r (λ whole. ReadsAfter k interval came before after whole)
all-read k interval came before after receiver (Ok whole) h = λ p v keeps. (receiver, h p v keeps)
all-read k interval came before after receiver (Err e) h = tt
