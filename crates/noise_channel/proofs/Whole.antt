-- What was read of a stream, and whether it is the whole one.
use Rattle.std.proofs.Common.{◌≡◌, ◌⊎◌, inl, inr, ℕ, ◌-◌, List, [], ◌++◌, length, drop, Bool, refl, sym, ◌∙◌, ap, subst, arith}
use Rattle.std.proofs.Common.{append-nil, length-drop}
use Rattle.std.specs.Prelude.{Result, Ok, Err, IfOk}
use Rattle.std.specs.declared.alloc.AllocError.{AllocError}
use Rattle.std.proofs.lemmas.List.{nil_from_length}
use Rattle.std.proofs.lemmas.List.Folds.{concat-append}
use Rattle.std.specs.List.{concat}
use Rattle.noise_session.specs.TransportValue.{TransportState}
use Rattle.noise_channel.specs.declared.next.StreamState.TheVariants as reading
use Rattle.noise_channel.specs.Streams.{Direction, incoming, outgoing}
use Rattle.noise_channel.specs.Writing.{StreamSenderState, Call, WritesAll, bytes_put}
use Rattle.noise_channel.specs.Writing.StreamSenderState.{Speaks}
use Rattle.noise_channel.specs.Reading.{StreamReceiverState}
use Rattle.noise_channel.specs.Reading.StreamReceiverState.{Listens, AtEnd, Broken}
use Rattle.noise_channel.specs.Halves.{StreamReceiverValue, StreamReceiverMatches}
use Rattle.noise_channel.specs.Runs.{StreamReceiverRun, ArrivesWhole, ForgedAt, sealed_on, has_met_end}
use Rattle.noise_channel.specs.Runs.StreamReceiverRun.{arrives}
use Rattle.noise_channel.specs.Agreement.{IsWholeOrForged}
use Rattle.noise_channel.specs.Receiving.{HandsOut, HandsOutAll, IsFrontOrForged, ReadsToEnd, SaidExactly}

ended-as : (r : StreamReceiverValue) (w : TransportState) (t : StreamReceiverState) → r.state ≡ reading.Ended → StreamReceiverMatches r w t → t ≡ AtEnd
ended-as r w (Listens n) is matches = absurd (let e : reading.Ended ≡ reading.Open = sym is ∙ matches.0 in cc)
ended-as r w AtEnd is matches = refl
ended-as r w Broken is matches = absurd (let e : reading.Ended ≡ reading.Broken = sym is ∙ matches in cc)

at-end-as : (r : StreamReceiverValue) (v : TransportState) (t : StreamReceiverState) → t ≡ AtEnd → StreamReceiverMatches r v t → r.state ≡ reading.Ended
at-end-as r v t is matches = subst (λ (u : StreamReceiverState). StreamReceiverMatches r v u) is matches

-- bytes that stand in the buffer came there at once
came-at-once : (d : Direction) (s t : StreamReceiverState) (came left : List ℕ) (out : List (List ℕ)) → StreamReceiverRun d s came [] out t left → StreamReceiverRun d s [] came out t left
came-at-once d s t came left out run =
    subst (λ (bytes : List ℕ). StreamReceiverRun d s [] bytes out t left) (append-nil came) (arrives d s t [] came [] left out run)

-- it is said to be whole just where the end has come and nothing is left
pub said-exactly : SaidExactly
said-exactly v s came before after left r whole within reads said =
    let count : length (drop (length came - left) came) ≡ left = omega (arith, length-drop (length came - left) came, within) in record {
      used = length came - left;
      reads = reads;
      exactly = (
        λ e. let h = said.0 e in (ended-as r v reads.state h.0 reads.matches, nil_from_length (drop (length came - left) came) (count ∙ h.1)),
        λ h. said.1 (at-end-as r v reads.state h.0 reads.matches, sym count ∙ ap length h.1),
      );
    }

-- what was handed out is a front of what was written
pub hands-out : (v w : TransportState) (came before after : List ℕ) (r : StreamReceiverValue) (said : Bool) → IsWholeOrForged v w
    → ReadsToEnd w (Listens 0) came before after r said → HandsOut v came before after said
hands-out v w came before after r said agrees o = (concat o.reads.payloads, o.reads.appended, front)
  where
    front : IsFrontOrForged v came (concat o.reads.payloads) said
    front asked u all =
        elim (agrees asked u came (drop o.used came) o.reads.payloads o.reads.state all
        (came-at-once (incoming w) (Listens 0) o.reads.state came (drop o.used came) o.reads.payloads o.reads.run)) [
          | inl h ↦ inl (record {
            more = concat h.0;
            front = ap concat h.1 ∙ concat-append o.reads.payloads h.0;
            all = λ e. let over = h.2 (o.exactly.0 e).0 in (ap concat over.0, over.1);
          })
          | inr h ↦ inr (record {
            payloads = o.reads.payloads;
            ended = has_met_end o.reads.state;
            joined = refl;
            place = h.0;
            before = h.1;
            forged = h.2;
          })
        ]

-- where all that was put out came, all that was taken is handed out
pub hands-out-all : (v w : TransportState) (came before after : List ℕ) (r : StreamReceiverValue) (said : Bool)
    → ((asked : List Call) (u : StreamSenderState) → WritesAll (outgoing v) (Speaks 0) asked u → ArrivesWhole (outgoing v) 0 asked u) → outgoing v ≡ incoming w
    → ReadsToEnd w (Listens 0) came before after r said → HandsOutAll v came before after said
hands-out-all v w came before after r said whole same o asked u all is =
    let left : List ℕ = drop o.used came in
    let run = came-at-once (incoming w) (Listens 0) o.reads.state came left o.reads.payloads o.reads.run in
    let h = whole asked u all left o.reads.payloads o.reads.state
    (subst (λ (d : Direction). StreamReceiverRun d (Listens 0) [] (bytes_put asked) o.reads.payloads o.reads.state left) (sym same)
    (subst (λ (bytes : List ℕ). StreamReceiverRun (incoming w) (Listens 0) [] bytes o.reads.payloads o.reads.state left) is run))
    (subst (λ (d : Direction). Rattle.noise_channel.specs.Runs.Rests d o.reads.state left) (sym same) o.reads.rests) in (
      o.reads.appended ∙ ap (λ (ps : List (List ℕ)). before ++ concat ps) h.0,
      (λ e. h.1.0 (o.exactly.0 e).0, λ e. o.exactly.1 (h.1.1 e, h.2)),
    )

-- whichever way the call ended
pub handed-or : {F : Type 0} (writer : TransportState) (came before after : List ℕ) (r : Result Bool AllocError)
    → (IfOk r (λ whole. HandsOut writer came before after whole) ⊎ F) → IfOk r (λ whole. HandsOut writer came before after whole ⊎ F)
handed-or writer came before after (Ok whole) (inl h) = inl h
handed-or writer came before after (Ok whole) (inr f) = inr f
handed-or writer came before after (Err e) h = tt
