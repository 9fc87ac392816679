-- The lines of lines that come through are those of the transcript.
use Rattle.std.proofs.Common.{◌≡◌, ◌∙◌, refl, ap, sym, subst, ℕ, zero, suc, ◌+◌, ◌<◌, List, [], ◌∷◌, ◌++◌, length, map, take, drop, arith, append_assoc}
use Rattle.std.specs.Prelude.{Option, Some}
use Rattle.std.proofs.lemmas.Bool.Decides.{nat_tests}
use Rattle.std.proofs.lemmas.List.{length-map, length_push, take-append-drop}
use Rattle.noise_transcript.proofs.Common.{⊤, Bool, true, false, nat_lt, MatchBool, slice_get, unwrap_or, Role, Initiator, Responder, Plan, KeyMaterial, InTurn, after_conversation, conversation, frames_by, in_turn, notes_of_messages, transport_messages_of, payloads_in, start_in, transcript, HandshakeMessage, messages_of, Sides, note_line, exchange_lines, payload_line, wrote_line}
use Rattle.noise_state.specs.declared.symmetric.SymmetricState.{SymmetricState}
use Rattle.noise_session.specs.Frames.{frame}

-- ---- each message has the writer of its line

abbrev pub SameWriters : List (Role × List ℕ) → List (Role × List ℕ) → Type 0
SameWriters [] [] = ⊤
SameWriters [] (m ∷ ms) = ⊥
SameWriters (l ∷ lines) [] = ⊥
SameWriters (l ∷ lines) (m ∷ ms) = (m.0 ≡ l.0) × SameWriters lines ms

same-append : (xs ys ms ns : List (Role × List ℕ)) → SameWriters xs ms → SameWriters ys ns → SameWriters (xs ++ ys) (ms ++ ns)
same-append [] ys [] ns f g = g
same-append [] ys (m ∷ ms) ns f g = absurd f
same-append (x ∷ xs) ys [] ns f g = absurd f
same-append (x ∷ xs) ys (m ∷ ms) ns f g = (f.0, same-append xs ys ms ns f.1 g)

same-transport_messages : (r : SymmetricState) (interval i j : ℕ) (lines : List (Role × List ℕ)) → SameWriters lines (transport_messages_of r interval i j lines)
same-transport_messages r interval i j [] = tt
same-transport_messages r interval i j ((Initiator, payload) ∷ lines) = (refl, same-transport_messages r interval (i + 1) j lines)
same-transport_messages r interval i j ((Responder, payload) ∷ lines) = (refl, same-transport_messages r interval i (j + 1) lines)

first-of : (b : Bool) (A B : Type 0) → b ≡ true → MatchBool b A B → A
first-of true A B e h = h
first-of false A B e h = absurd (cc)

less-true : (m n : ℕ) → m < n → nat_lt m n ≡ true
less-true m n h = grind (arith, nat_tests)

same-turns : (p : Plan) (n k : ℕ) (lines : List (Role × List ℕ)) (ms : List (List ℕ)) → n + k ≡ length p.messages → InTurn p n lines
    → length ms ≡ length (take k lines) → SameWriters (take k lines) (in_turn n ms)
same-turns p n zero lines [] e h l = tt
same-turns p n zero lines (m ∷ ms) e h l = absurd (cc)
same-turns p n (suc k) [] [] e h l = tt
same-turns p n (suc k) [] (m ∷ ms) e h l = absurd (cc)
same-turns p n (suc k) (x ∷ lines) [] e h l = absurd (cc)
same-turns p n (suc k) (x ∷ lines) (m ∷ ms) e h l =
    let here : n < length p.messages = omega (arith, e) in
    let fits = first-of (nat_lt n (length p.messages)) _ _ (less-true n (length p.messages) here) h.0 in
    let more : (n + 1) + k ≡ length p.messages = omega (arith, e) in
    let rest : length ms ≡ length (take k lines) = omega (arith, l) in
    (sym fits.0, same-turns p (n + 1) k lines ms more h.1 rest)

many-messages : (w : KeyMaterial) (p : Plan) (n : ℕ) (psks : List (List ℕ)) (r : SymmetricState) (payloads : List (List ℕ))
    → length (conversation w p n psks r payloads) ≡ length payloads
many-messages w p n psks r [] = refl
many-messages w p n psks r (payload ∷ payloads) = ap suc (many-messages w p (n + 1) _ _ payloads)

pub same-writers : (w : KeyMaterial) (p : Plan) (prologue : List ℕ) (interval : ℕ) (lines : List (Role × List ℕ)) → InTurn p 0 lines
    → SameWriters lines (transcript w p prologue interval lines)
same-writers w p prologue interval lines h =
    let k : ℕ = length p.messages in
    let ms : List HandshakeMessage = conversation w p 0 w.psks (start_in w p prologue) (payloads_in k lines) in
    let last : SymmetricState = after_conversation w p 0 w.psks (start_in w p prologue) (payloads_in k lines) in
    let many : length (messages_of ms) ≡ length (take k lines) =
    length-map ms (λ (m : HandshakeMessage). m.message)
    ∙ many-messages w p 0 w.psks (start_in w p prologue) (payloads_in k lines)
    ∙ length-map (take k lines) (λ (l : Role × List ℕ). l.1) in
    let all : 0 + k ≡ length p.messages = omega arith in
    subst (λ (ls : List (Role × List ℕ)). SameWriters ls (transcript w p prologue interval lines)) (take-append-drop k lines)
    (same-append (take k lines) (drop k lines) (in_turn 0 (messages_of ms)) (transport_messages_of last interval 0 0 (drop k lines))
    (same-turns p 0 k lines (messages_of ms) all h many) (same-transport_messages last interval 0 0 (drop k lines)))

-- ---- the notes of the lines

there : (before rest : List (List ℕ)) (x : List ℕ) → slice_get (before ++ x ∷ rest) (length before) ≡ Some x
there [] rest x = refl
there (y ∷ before) rest x = there before rest x

frame-there : (frames before rest : List (List ℕ)) (x : List ℕ) (n : ℕ) → n ≡ length before → frames ≡ before ++ x ∷ rest
    → unwrap_or (slice_get frames n) [] ≡ x
frame-there frames before rest x n e h =
    ap (λ (k : ℕ). unwrap_or (slice_get frames k) []) e
    ∙ ap (λ (fs : List (List ℕ)). unwrap_or (slice_get fs (length before)) []) h
    ∙ ap (λ (o : Option (List ℕ)). unwrap_or o []) (there before rest x)

one-more : (before : List (List ℕ)) (x : List ℕ) (n : ℕ) → n ≡ length before → n + 1 ≡ length (before ++ x ∷ [])
one-more before x n e = omega (arith, e, length_push before x)

pub noted-lines : (d : Sides) (i j : ℕ) (ours theirs : List (List ℕ)) (lines messages : List (Role × List ℕ)) → SameWriters lines messages
    → i ≡ length ours → j ≡ length theirs
    → d.initiator.frames ≡ ours ++ frames_by Initiator messages → d.responder.frames ≡ theirs ++ frames_by Responder messages
    → map (note_line d) (notes_of_messages i j lines) ≡ exchange_lines i j lines messages
noted-lines d i j ours theirs [] [] same a b f g = refl
noted-lines d i j ours theirs [] (m ∷ ms) same a b f g = absurd same
noted-lines d i j ours theirs (l ∷ lines) [] same a b f g = absurd same
noted-lines d i j ours theirs ((Initiator, payload) ∷ lines) ((Responder, message) ∷ ms) same a b f g = absurd (cc same.0)
noted-lines d i j ours theirs ((Responder, payload) ∷ lines) ((Initiator, message) ∷ ms) same a b f g = absurd (cc same.0)
noted-lines d i j ours theirs ((Initiator, payload) ∷ lines) ((Initiator, message) ∷ ms) same a b f g =
    let rest = noted-lines d (i + 1) j (ours ++ frame message ∷ []) theirs lines ms same.1 (one-more ours (frame message) i a) b
    (f ∙ sym (append_assoc ours (frame message ∷ []) (frames_by Initiator ms))) g in
    ap (λ (bytes : List ℕ). wrote_line Initiator i bytes ∷ payload_line Responder payload ∷ map (note_line d) (notes_of_messages (i + 1) j lines))
    (frame-there d.initiator.frames ours (frames_by Initiator ms) (frame message) i a f)
    ∙ ap (λ (ls : List (List ℕ)). wrote_line Initiator i (frame message) ∷ payload_line Responder payload ∷ ls) rest
noted-lines d i j ours theirs ((Responder, payload) ∷ lines) ((Responder, message) ∷ ms) same a b f g =
    let rest = noted-lines d i (j + 1) ours (theirs ++ frame message ∷ []) lines ms same.1 a (one-more theirs (frame message) j b) f
    (g ∙ sym (append_assoc theirs (frame message ∷ []) (frames_by Responder ms))) in
    ap (λ (bytes : List ℕ). wrote_line Responder j bytes ∷ payload_line Initiator payload ∷ map (note_line d) (notes_of_messages i (j + 1) lines))
    (frame-there d.responder.frames theirs (frames_by Responder ms) (frame message) j b g)
    ∙ ap (λ (ls : List (List ℕ)). wrote_line Responder j (frame message) ∷ payload_line Initiator payload ∷ ls) rest
