-- What a call gives says just what its buffer begins with.
use Rattle.std.proofs.Common.{◌≡◌, ◌≢◌, ℕ, ◌+◌, ◌-◌, List, [], length, None, sym, ◌∙◌, ap, subst}
use Rattle.noise_session.specs.declared.faults.OpenFault.{OpenFault}
use Rattle.noise_session.specs.Frames.{frame_length, IsPartial}
use Rattle.noise_channel.specs.Framing.{Begins}
use Rattle.noise_channel.specs.Streams.{Direction, message_at, frame_at}
use Rattle.noise_channel.specs.Reading.{StreamReceiverState, NextValue, ChannelReads, fault_at, IsUnopened}
use Rattle.noise_channel.specs.Reading.StreamReceiverState.{Listens, AtEnd, Broken}
use Rattle.noise_channel.specs.Reading.NextValue.{Wants, Payload, End, Refused}
use Rattle.noise_channel.specs.Reading.ChannelReads.{wants, gives, ends, refuses}
use Rattle.noise_channel.proofs.Calls.{reads-once}
use Rattle.noise_channel.proofs.Streaming.{length-frame_at}

-- what each DH result says of the buffer
abbrev pub Wanting : List ℕ → ℕ → Type 0
Wanting b count = IsPartial b × (count ≡ frame_length b - length b)

abbrev pub Giving : Direction → ℕ → List ℕ → List ℕ → ℕ → Type 0
Giving d n b p used = (fault_at d n ≡ None) × Begins b (message_at d n p) × (p ≢ []) × (used ≡ length p + 18)

abbrev pub Ending : Direction → ℕ → List ℕ → ℕ → Type 0
Ending d n b used = (fault_at d n ≡ None) × Begins b (message_at d n []) × (used ≡ 18)

abbrev pub Refusing : Direction → ℕ → List ℕ → OpenFault → Type 0
Refusing d n b cause = (message : List ℕ) × Begins b message × IsUnopened d n message cause

pub wants-so : (d : Direction) (n : ℕ) (b : List ℕ) (g : NextValue) (t : StreamReceiverState) (count : ℕ) → ChannelReads d (Listens n) b g t → g ≡ Wants count
    → Wanting b count
wants-so d n b g t count (wants _ _ _ partial) e = (partial, cc)
wants-so d n b g t count (gives _ _ _ p listens f some) e = absurd (cc)
wants-so d n b g t count (ends _ _ _ listens f) e = absurd (cc)
wants-so d n b g t count (refuses _ _ _ m cause f unopened) e = absurd (cc)

pub so-wants : (d : Direction) (n : ℕ) (b : List ℕ) (g : NextValue) (t : StreamReceiverState) (count : ℕ) → ChannelReads d (Listens n) b g t → Wanting b count
    → g ≡ Wants count
so-wants d n b g t count r h = (reads-once d (Listens n) t (Listens n) b g (Wants (frame_length b - length b)) r (wants d n b h.0)).0 ∙ ap Wants (sym h.1)

pub gives-so : (d : Direction) (n : ℕ) (b : List ℕ) (g : NextValue) (t : StreamReceiverState) (p : List ℕ) (used : ℕ) → ChannelReads d (Listens n) b g t
    → g ≡ Payload p used → Giving d n b p used
gives-so d n b g t p used (wants _ _ _ partial) e = absurd (cc)
gives-so d n b g t p used (gives _ _ _ q listens f some) e =
    let same : q ≡ p = cc in
    let count : length (frame_at d n q) ≡ used = cc in
    subst (λ (x : List ℕ). Giving d n b x used) same (listens, f, some, sym count ∙ length-frame_at d n q)
gives-so d n b g t p used (ends _ _ _ listens f) e = absurd (cc)
gives-so d n b g t p used (refuses _ _ _ m cause f unopened) e = absurd (cc)

pub so-gives : (d : Direction) (n : ℕ) (b : List ℕ) (g : NextValue) (t : StreamReceiverState) (p : List ℕ) (used : ℕ) → ChannelReads d (Listens n) b g t
    → Giving d n b p used → g ≡ Payload p used
so-gives d n b g t p used r h =
    (reads-once d (Listens n) t (Listens (n + 1)) b g (Payload p (length (frame_at d n p))) r (gives d n b p h.0 h.1 h.2)).0
    ∙ ap (Payload p) (length-frame_at d n p ∙ sym h.3)

pub ends-so : (d : Direction) (n : ℕ) (b : List ℕ) (g : NextValue) (t : StreamReceiverState) (used : ℕ) → ChannelReads d (Listens n) b g t → g ≡ End used
    → Ending d n b used
ends-so d n b g t used (wants _ _ _ partial) e = absurd (cc)
ends-so d n b g t used (gives _ _ _ q listens f some) e = absurd (cc)
ends-so d n b g t used (ends _ _ _ listens f) e = let count : length (frame_at d n []) ≡ used = cc in (listens, f, sym count ∙ length-frame_at d n [])
ends-so d n b g t used (refuses _ _ _ m cause f unopened) e = absurd (cc)

pub so-ends : (d : Direction) (n : ℕ) (b : List ℕ) (g : NextValue) (t : StreamReceiverState) (used : ℕ) → ChannelReads d (Listens n) b g t → Ending d n b used
    → g ≡ End used
so-ends d n b g t used r h =
    (reads-once d (Listens n) t AtEnd b g (End (length (frame_at d n []))) r (ends d n b h.0 h.1)).0 ∙ ap End (length-frame_at d n [] ∙ sym h.2)

pub refuses-so : (d : Direction) (n : ℕ) (b : List ℕ) (g : NextValue) (t : StreamReceiverState) (cause : OpenFault) → ChannelReads d (Listens n) b g t
    → g ≡ Refused cause → Refusing d n b cause
refuses-so d n b g t cause (wants _ _ _ partial) e = absurd (cc)
refuses-so d n b g t cause (gives _ _ _ q listens f some) e = absurd (cc)
refuses-so d n b g t cause (ends _ _ _ listens f) e = absurd (cc)
refuses-so d n b g t cause (refuses _ _ _ m why f unopened) e =
    let same : why ≡ cause = cc in
    (m, f, subst (λ (c : OpenFault). IsUnopened d n m c) same unopened)

pub so-refuses : (d : Direction) (n : ℕ) (b : List ℕ) (g : NextValue) (t : StreamReceiverState) (cause : OpenFault) → ChannelReads d (Listens n) b g t
    → Refusing d n b cause → g ≡ Refused cause
so-refuses d n b g t cause r h = (reads-once d (Listens n) t Broken b g (Refused cause) r (refuses d n b h.0 cause h.1 h.2)).0
