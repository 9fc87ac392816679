-- What is left of a vector file's text where its lines are read one after the other.
use Rattle.std.proofs.Common.{◌≡◌, refl, subst, sym, false, ℕ, List, ◌∷◌, ◌++◌, Option, codes, decimal, []}
use Rattle.std.specs.Bool.{nat_eq}
use Rattle.noise_vectors.proofs.Common.{starts_with, Initiator, Responder, Section, name_bytes, Plan, Event, Say, hex_of, IsOwn, block_text, event_words, line_then, lines_of, party_text, psk_words, version_text, FileKeys, Xor, VectorFile}
use Rattle.noise_vectors.specs.declared.file_keys.FileKeys.TheVariants.{Table}
use Rattle.noise_vectors.proofs.AdditionLemmas.{after_events-no_answer, version-after}

-- ---- what follows each part of the text

abbrev pub after_responder : VectorFile → List ℕ
after_responder file = lines_of event_words file.events.items (version_text file.version)

abbrev pub after_initiator : VectorFile → List ℕ
after_initiator file = party_text Responder file.responder (after_responder file)

abbrev pub after_psks : VectorFile → List ℕ
after_psks file = party_text Initiator file.initiator (after_initiator file)

abbrev pub after_interval : VectorFile → List ℕ
after_interval file = lines_of psk_words file.psks.items (after_psks file)

abbrev pub after_prologue : VectorFile → List ℕ
after_prologue file = line_then (codes "interval " ++ decimal file.interval) (after_interval file)

abbrev pub after_block : VectorFile → List ℕ
after_block file = line_then (codes "prologue " ++ hex_of file.prologue.items) (after_prologue file)

abbrev pub after_protocol : VectorFile → List ℕ
after_protocol file = block_text file.block (after_block file)

abbrev pub after_header : VectorFile → List ℕ
after_header file = line_then (codes "protocol " ++ name_bytes file.protocol) (after_protocol file)

-- ---- how the rest begins

pub initiator-no_psk : (keys : FileKeys) (rest : List ℕ) → starts_with nat_eq (party_text Initiator keys rest) (codes "psk ") ≡ false
initiator-no_psk (Xor keys) rest = refl
initiator-no_psk (Table keys) rest = refl

pub responder-no_answer : (keys : FileKeys) (rest : List ℕ) → starts_with nat_eq (party_text Responder keys rest) (codes "answer ") ≡ false
responder-no_answer (Xor keys) rest = refl
responder-no_answer (Table keys) rest = refl

pub events-no_answer : (events : List Event) (rest : List ℕ) → starts_with nat_eq rest (codes "answer ") ≡ false
    → starts_with nat_eq (lines_of event_words events rest) (codes "answer ") ≡ false
events-no_answer [] rest h = h
events-no_answer (Say role payload cuts ∷ events) rest h = refl
events-no_answer (_ ∷ events) rest h = refl

-- no psk line stands after the psk lines
pub psks-end : (file : VectorFile) → starts_with nat_eq (after_psks file) (codes "psk ") ≡ false
psks-end file = initiator-no_psk file.initiator (after_initiator file)

-- no answer stands after the initiator's lines
pub initiator-ends : (file : VectorFile) → starts_with nat_eq (after_initiator file) (codes "answer ") ≡ false
initiator-ends file = responder-no_answer file.responder (after_responder file)

-- nor after the responder's
pub responder-ends : (file : VectorFile) → starts_with nat_eq (after_responder file) (codes "answer ") ≡ false
responder-ends file = search (events-no_answer, after_events-no_answer, version-after)

-- ---- the pattern

-- the block fits the name that was read, which is the file's
pub own-read : (name read : Section) (block : Option Plan) → IsOwn name block → read ≡ name → IsOwn read block
own-read name read block own same = subst (λ (n : Section). IsOwn n block) (sym same) own
