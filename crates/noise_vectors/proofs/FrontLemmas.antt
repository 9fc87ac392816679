-- Texts that begin with given lines, whatever follows them.
use Rattle.std.proofs.Common.{rules, arith, ◌≡◌, ◌∙◌, ◌+◌, inl, inr, ap, refl, subst, sym, ℕ, List, ◌∷◌, ◌++◌, Option, Some, None, codes, []}
use Rattle.std.specs.Prelude.{decimal}
use Rattle.noise_vectors.proofs.Common.{append_assoc, append-nil, Role, Initiator, Responder, Plan, hex_of, IsAllowedFile, IsVectorFile, block_text, datagrams_text, event_words, header_words, is_second, key_words, line_then, lines_of, party_text, psk_words, role_word, file_text, line_feeds, IsEnded, IsCutFile, IsReportedLine, up_to_end, up_to_events, up_to_initiator, up_to_interval, up_to_prologue, up_to_protocol, up_to_responder, IsWrongFirst, LineKind, VectorFault, FileKeys, Xor, AllowedEvents, FileDatagrams, VectorFile}
use Rattle.noise_names.specs.FaultLines.{feeds-append}
use Rattle.noise_names.specs.Text.{text_of as pattern_text}
use Rattle.noise_vectors.specs.declared.file_keys.FileKeys.TheVariants.{Table}
use Rattle.noise_vectors.proofs.PartLemmas.{lines_of-after}

-- what follows is added at the end
abbrev pub IsFront : (List ℕ → List ℕ) → Type 0
IsFront front = (rest : List ℕ) → front rest ≡ front [] ++ rest

pub front-both : (f g : List ℕ → List ℕ) → IsFront f → IsFront g → IsFront (λ rest. f (g rest))
front-both f g hf hg rest = search (rules, append_assoc)

pub front-line : (words : List ℕ) → IsFront (line_then words)
front-line words rest = sym (append_assoc words (10 ∷ []) rest)

pub front-lines : {A : Type 0} (words : A → List ℕ) (xs : List A) → IsFront (lines_of words xs)
front-lines words xs rest = sym (lines_of-after words xs [] rest)

pub front-block : (block : Option Plan) → IsFront (block_text block)
front-block None rest = refl
front-block (Some p) rest = search (rules, append_assoc)

pub front-party : (role : Role) (keys : FileKeys) → IsFront (party_text role keys)
front-party role (Xor keys) = front-line (role_word role ++ (codes " xor " ++ key_words keys.e keys.s))
front-party role (Table keys) = search (rules, front-both, front-line, front-lines)

pub front-protocol : (file : VectorFile) → IsFront (up_to_protocol file)
front-protocol file = front-line (header_words (is_second file.version))

pub front-prologue : (file : VectorFile) → IsFront (up_to_prologue file)
front-prologue file = search (rules, front-both, front-line, front-block)

pub front-interval : (file : VectorFile) → IsFront (up_to_interval file)
front-interval file =
    let words = codes "prologue " ++ hex_of file.prologue.items in
    front-both (up_to_prologue file) (line_then words) (front-prologue file) (front-line words)

pub front-initiator : (file : VectorFile) → IsFront (up_to_initiator file)
front-initiator file =
    let words = codes "interval " ++ decimal file.interval in
    front-both (up_to_interval file) (λ rest. line_then words (lines_of psk_words file.psks.items rest)) (front-interval file)
    (front-both (line_then words) (lines_of psk_words file.psks.items) (front-line words) (front-lines psk_words file.psks.items))

pub front-responder : (file : VectorFile) → IsFront (up_to_responder file)
front-responder file =
    front-both (up_to_initiator file) (party_text Initiator file.initiator) (front-initiator file) (front-party Initiator file.initiator)

pub front-events : (file : VectorFile) → IsFront (up_to_events file)
front-events file =
    front-both (up_to_responder file) (party_text Responder file.responder) (front-responder file) (front-party Responder file.responder)

pub front-end : (file : VectorFile) → IsFront (up_to_end file)
front-end file rest = ap (λ (t : List ℕ). t ++ rest) (sym (append-nil (file_text file)))

-- the lines up to the events' last one
abbrev pub up_to_version : VectorFile → List ℕ → List ℕ
up_to_version file rest = up_to_events file (lines_of event_words file.events.items rest)

pub front-version : (file : VectorFile) → IsFront (up_to_version file)
front-version file =
    front-both (up_to_events file) (lines_of event_words file.events.items) (front-events file) (front-lines event_words file.events.items)

pub front-datagrams : (over : Option FileDatagrams) → IsFront (datagrams_text over)
front-datagrams None rest = refl
front-datagrams (Some over) rest = search (rules, front-both, front-line, front-lines)

-- ---- the line that is reported

pub feeds-front : (front : List ℕ → List ℕ) (left : List ℕ) → IsFront front → line_feeds (front left) ≡ line_feeds (front []) + line_feeds left
feeds-front front left h = ap line_feeds (h left) ∙ feeds-append (front []) left

pub counted-front : (front : List ℕ → List ℕ) (text left : List ℕ) (number total : ℕ) → IsFront front → text ≡ front left → total ≡ line_feeds text
    → number + line_feeds left ≡ total + 1 → number ≡ line_feeds (front []) + 1
counted-front front text left number total h e all n =
    let whole : line_feeds text ≡ line_feeds (front []) + line_feeds left = ap line_feeds e ∙ feeds-front front left h in
    omega (arith, whole, all, n)

-- a line that no right file has there is reported
abbrev pub reported-line : (allowed : AllowedEvents) (text left : List ℕ) (total : ℕ) (kind : LineKind) (fault : VectorFault)
    (up_to : VectorFile → List ℕ → List ℕ) (file : VectorFile) (rest : List ℕ) → IsVectorFile file → IsAllowedFile allowed file → IsFront (up_to file)
    → file_text file ≡ up_to file rest → text ≡ up_to file left → total ≡ line_feeds text → (it : IsWrongFirst left total kind fault)
    → ((other : VectorFile) (more : List ℕ) → IsVectorFile other → IsAllowedFile allowed other → ¬ (file_text other ≡ up_to file (line_then it.reported more)))
    → IsReportedLine allowed text it.number up_to
reported-line allowed text left total kind fault up_to file rest right allow front begun text_is all it wrong = record {
  file = file;
  is_file = right;
  is_allowed = allow;
  begun = (rest, begun);
  reported = it.reported;
  left = left;
  text_is = text_is;
  is_first = it.is_first;
  counted = counted-front (up_to file) text left it.number total front text_is all it.counted;
  wrong = wrong;
}

-- ---- the text's end

pub ended-line : (words rest : List ℕ) → IsEnded rest → IsEnded (line_then words rest)
ended-line words rest (inl e) = inr (words, ap (line_then words) e)
ended-line words rest (inr (front, e)) =
    inr (words ++ 10 ∷ front, ap (line_then words) e ∙ sym (append_assoc words (10 ∷ front) (10 ∷ [])))

pub ended-lines : {A : Type 0} (words : A → List ℕ) (xs : List A) (rest : List ℕ) → IsEnded rest → IsEnded (lines_of words xs rest)
ended-lines words [] rest h = h
ended-lines words (x ∷ xs) rest h = ended-line (words x) (lines_of words xs rest) (ended-lines words xs rest h)

pub ended-block : (block : Option Plan) (rest : List ℕ) → IsEnded rest → IsEnded (block_text block rest)
ended-block None rest h = h
ended-block (Some p) rest h =
    subst IsEnded (append_assoc (pattern_text p) (codes "end") (10 ∷ rest)) (ended-line (pattern_text p ++ codes "end") rest h)

pub ended-party : (role : Role) (keys : FileKeys) (rest : List ℕ) → IsEnded rest → IsEnded (party_text role keys rest)
ended-party role (Xor keys) rest h = ended-line (role_word role ++ (codes " xor " ++ key_words keys.e keys.s)) rest h
ended-party role (Table keys) rest h = search (ended-line, ended-lines)

pub ended-prologue : (file : VectorFile) (rest : List ℕ) → IsEnded rest → IsEnded (up_to_prologue file rest)
ended-prologue file rest h = search (ended-line, ended-block)

pub ended-interval : (file : VectorFile) (rest : List ℕ) → IsEnded rest → IsEnded (up_to_interval file rest)
ended-interval file rest h = search (ended-prologue, ended-line)

pub ended-initiator : (file : VectorFile) (rest : List ℕ) → IsEnded rest → IsEnded (up_to_initiator file rest)
ended-initiator file rest h = search (ended-interval, ended-line, ended-lines)

pub ended-responder : (file : VectorFile) (rest : List ℕ) → IsEnded rest → IsEnded (up_to_responder file rest)
ended-responder file rest h = ended-initiator file (party_text Initiator file.initiator rest) (ended-party Initiator file.initiator rest h)

-- the text ends before a line
pub cut-before : (allowed : AllowedEvents) (text left : List ℕ) (number : ℕ) (file : VectorFile) (front : List ℕ → List ℕ) (next : ℕ) (rest : List ℕ)
    → IsVectorFile file → IsAllowedFile allowed file → IsFront front → text ≡ front left → left ≡ [] → file_text file ≡ front (next ∷ rest)
    → IsEnded (front []) → number ≡ line_feeds text + 1 → IsCutFile allowed text number
cut-before allowed text left number file front next rest right allow h text_is none goes_on ended n =
    let e : text ≡ front [] = text_is ∙ ap front none in
    record {
      file = file;
      is_file = right;
      is_allowed = allow;
      next = next;
      rest = rest;
      begun = goes_on ∙ h (next ∷ rest) ∙ ap (λ (t : List ℕ). t ++ next ∷ rest) (sym e);
      ended = inr (subst IsEnded (sym e) ended);
      counted = n;
    }

-- or within one
pub cut-within : (allowed : AllowedEvents) (text from : List ℕ) (number : ℕ) (file : VectorFile) (front part : List ℕ → List ℕ) (rest : List ℕ)
    → IsVectorFile file → IsAllowedFile allowed file → IsFront front → IsFront part → text ≡ front from → from ++ codes "\n" ≡ part []
    → file_text file ≡ front (part rest) → number ≡ line_feeds text + 1 → IsCutFile allowed text number
cut-within allowed text from number file front part rest right allow h k text_is last goes_on n =
    let here : part rest ≡ from ++ 10 ∷ rest = k rest ∙ ap (λ (t : List ℕ). t ++ rest) (sym last) ∙ append_assoc from (10 ∷ []) rest in
    let whole : front (from ++ 10 ∷ rest) ≡ text ++ 10 ∷ rest = h (from ++ 10 ∷ rest) ∙ sym (append_assoc (front []) from (10 ∷ rest))
    ∙ ap (λ (t : List ℕ). t ++ 10 ∷ rest) (sym (h from) ∙ sym text_is) in
    record {
      file = file;
      is_file = right;
      is_allowed = allow;
      next = 10;
      rest = rest;
      begun = goes_on ∙ ap front here ∙ whole;
      ended = inl refl;
      counted = n;
    }
