use Rattle.std.proofs.Common.{arith, rules, ◌≡◌, ◌∙◌, ◌+◌, ◌++◌, ap, sym, codes, List, ℕ}
use Rattle.std.specs.Prelude.{decimal}
use Rattle.noise_vectors.proofs.Common.{name_bytes, hex_of, last_number, line_feeds, up_to_initiator, false≢true, IsAllowedFile, IsVectorFile, block_text, header_words, is_second, line_then, file_text, version_text, VectorFile}
use Rattle.noise_vectors.proofs.AdditionLemmas.{no-second, version-after}
use Rattle.noise_vectors.proofs.VectorLemmas.{after_block, after_header, after_initiator, after_interval, after_prologue, after_protocol, after_psks, after_responder, initiator-ends, own-read, psks-end, responder-ends}
use Rattle.noise_vectors.proofs.BegunFiles.{BegunAt, past-events, past-initiator, past-responder}
use Rattle.noise_vectors.proofs.ReportedFiles.{block-reported, header-reported, interval-reported, prologue-reported, protocol-reported}
use Rattle.noise_vectors.proofs.ReportedLater.{events-reported, initiator-reported, past-psks, psk-reported, responder-reported}
use Rattle.noise_vectors.proofs.ReportedVersion.{version-reported}
use Rattle.noise_vectors.proofs.reader.read_vector.Goals.{After-read_party, After-read_prologue}
use Rattle.noise_vectors.proofs.Results.{err-is}
use Rattle.noise_vectors.proofs.reader.read_vector.Goals as goal

-- the lines as far as those of the pattern are read
pattern-read : (c : After-read_prologue) (file : VectorFile) → IsVectorFile file → IsAllowedFile c.args.allowed file → c.args.text.now ≡ file_text file
    → (c.in_ok-protocol.protocol ≡ file.protocol) × (c.in_ok-block.block ≡ file.block) × (c.read_own_pattern.new.lines.rest.now ≡ after_block file)
pattern-read c file h allowed e =
    let header = c.in_ok-second.ensures.every (is_second file.version) (after_header file) (no-second c.args.allowed file.version allowed.1) (c.new-lines.ensures.0 ∙ e) in
    let protocol = c.in_ok-protocol.ensures.every file.protocol (after_protocol file) h.protocol header.1 in
    let own = own-read file.protocol c.in_ok-protocol.protocol file.block h.own protocol.0 in
    let block = c.in_ok-block.ensures.every file.block (after_block file) own protocol.1 in
    (protocol.0, block.0, block.1)

-- the lines from there to the last psk are read
psks-read : (c : After-read_party) (file : VectorFile) → IsVectorFile file → c.read_own_pattern.new.lines.rest.now ≡ after_block file
    → c.read_psks.new.lines.rest.now ≡ after_psks file
psks-read c file h e = search rules

pub returns-in_err-protocol-clause-every : goal.returns-in_err-protocol-clause-every
returns-in_err-protocol-clause-every c = λ file h allowed e.
    let header = c.in_ok-second.ensures.every (is_second file.version) (after_header file) (no-second c.args.allowed file.version allowed.1) (c.new-lines.ensures.0 ∙ e) in
    absurd (c.in_err-protocol.ensures.every file.protocol (after_protocol file) h.protocol header.1)

pub returns-in_err-block-clause-every : goal.returns-in_err-block-clause-every
returns-in_err-block-clause-every c = λ file h allowed e.
    let header = c.in_ok-second.ensures.every (is_second file.version) (after_header file) (no-second c.args.allowed file.version allowed.1) (c.new-lines.ensures.0 ∙ e) in
    let protocol = c.in_ok-protocol.ensures.every file.protocol (after_protocol file) h.protocol header.1 in
    let own = own-read file.protocol c.in_ok-protocol.protocol file.block h.own protocol.0 in
    absurd (c.in_err-block.ensures.every file.block (after_block file) own protocol.1)

pub returns-in_err-prologue-clause-every : goal.returns-in_err-prologue-clause-every
returns-in_err-prologue-clause-every c =
    λ file h allowed e.
    let pattern = pattern-read (goal.at.returns-in_err-prologue-clause-every c).After-read_prologue file h allowed e in
    rw (err-is c.from_residual-in_err-prologue.result c.from_residual-in_err-prologue.ensures.1) (c.in_err-prologue.ensures.every file.prologue.items (after_prologue file) h.prologue pattern.2)

pub returns-in_err-interval-clause-every : goal.returns-in_err-interval-clause-every
returns-in_err-interval-clause-every c = λ file h allowed e.
    let pattern = pattern-read (goal.at.returns-in_err-interval-clause-every c).After-read_prologue file h allowed e in
    let prologue = c.in_ok-prologue.ensures.every file.prologue.items (after_prologue file) h.prologue pattern.2 in
    absurd (false≢true (c.in_err-interval.ensures.every file.interval (after_interval file) h.interval prologue).0)

pub returns-in_err-psks-clause-every : goal.returns-in_err-psks-clause-every
returns-in_err-psks-clause-every c = λ file h allowed e.
    let pattern = pattern-read (goal.at.returns-in_err-psks-clause-every c).After-read_prologue file h allowed e in
    let prologue = c.in_ok-prologue.ensures.every file.prologue.items (after_prologue file) h.prologue pattern.2 in
    let interval = c.in_ok-interval.ensures.every file.interval (after_interval file) h.interval prologue in
    absurd (false≢true (c.in_err-psks.ensures.every file.psks.items (after_psks file) h.psks (psks-end file) interval.1).0)

pub returns-in_err-initiator-clause-every : goal.returns-in_err-initiator-clause-every
returns-in_err-initiator-clause-every c = λ file h allowed e.
    let g = goal.at.returns-in_err-initiator-clause-every c in
    let psks = psks-read g.After-read_party file h (pattern-read g.After-read_prologue file h allowed e).2 in
    absurd (false≢true (c.in_err-initiator.ensures.every file.initiator (after_initiator file) h.initiator (initiator-ends file) psks).0)

pub returns-in_err-responder-clause-every : goal.returns-in_err-responder-clause-every
returns-in_err-responder-clause-every c = λ file h allowed e.
    let g = goal.at.returns-in_err-responder-clause-every c in
    let psks = psks-read g.After-read_party file h (pattern-read g.After-read_prologue file h allowed e).2 in
    let initiator = c.in_ok-initiator.ensures.every file.initiator (after_initiator file) h.initiator (initiator-ends file) psks in
    absurd (false≢true (c.in_err-responder.ensures.every file.responder (after_responder file) h.responder (responder-ends file) initiator.1).0)

pub returns-in_err-events-clause-every : goal.returns-in_err-events-clause-every
returns-in_err-events-clause-every c =
    λ file h allowed e.
    let g = goal.at.returns-in_err-events-clause-every c in
    let psks = psks-read g.After-read_party file h (pattern-read g.After-read_prologue file h allowed e).2 in
    let initiator = c.in_ok-initiator.ensures.every file.initiator (after_initiator file) h.initiator (initiator-ends file) psks in
    rw (err-is c.from_residual-in_err-events.result c.from_residual-in_err-events.ensures.1) (c.in_err-events.ensures.every file.events.items (version_text file.version) h.events allowed.0
    (version-after file.version) (c.in_ok-responder.ensures.every file.responder (after_responder file) h.responder (responder-ends file) initiator.1).1)

pub returns-in_err-version-clause-every : goal.returns-in_err-version-clause-every
returns-in_err-version-clause-every c =
    λ file h allowed e.
    let g = goal.at.returns-in_err-version-clause-every c in
    let header = c.in_ok-second.ensures.every (is_second file.version) (after_header file) (no-second c.args.allowed file.version allowed.1)
    (c.new-lines.ensures.0 ∙ e) in
    let psks = psks-read g.After-read_party file h (pattern-read g.After-read_prologue file h allowed e).2 in
    let initiator = c.in_ok-initiator.ensures.every file.initiator (after_initiator file) h.initiator (initiator-ends file) psks in
    let responder = c.in_ok-responder.ensures.every file.responder (after_responder file) h.responder (responder-ends file) initiator.1 in
    let events = c.in_ok-events.ensures.every file.events.items (version_text file.version) h.events allowed.0 (version-after file.version) responder.1 in
    rw (err-is c.from_residual-in_err-version.result c.from_residual-in_err-version.ensures.1) (c.in_err-version.ensures.every file.version h.version allowed.1 (sym header.0) events)

-- as many lines were read as the text has line feeds, but for those of what is left
start : {number : ℕ} {rest text : List ℕ} → number ≡ 0 → rest ≡ text → number + line_feeds rest ≡ line_feeds text
start {rest = rest} {text = text} zero e = let same : line_feeds rest ≡ line_feeds text = ap line_feeds e in omega (arith, zero, same)

pub returns-in_err-second-clause-reported : goal.returns-in_err-second-clause-reported
returns-in_err-second-clause-reported c =
    rw (err-is c.from_residual.result c.from_residual.ensures.1) (header-reported c.args.alloc c.args.allowed c.args.text.now c.new-lines.result.rest.now
    (last_number c.new-lines.result) c.in_err-second.field-0.0 (sym c.new-lines.ensures.0) (start c.new-lines.ensures.1 c.new-lines.ensures.0) c.in_err-second.ensures.reported)

pub returns-in_err-protocol-clause-reported : goal.returns-in_err-protocol-clause-reported
returns-in_err-protocol-clause-reported c =
    let one = c.in_ok-second.ensures.counted ∙ start c.new-lines.ensures.1 c.new-lines.ensures.0 in
    rw (err-is c.from_residual-in_err-protocol.result c.from_residual-in_err-protocol.ensures.1) (protocol-reported c.args.alloc c.args.allowed c.args.text.now c.read_header.new.lines.rest.now c.in_ok-second.second
    (last_number c.read_header.new.lines) c.in_err-protocol.field-0.0
    (sym c.new-lines.ensures.0 ∙ c.in_ok-second.ensures.text) c.in_ok-second.ensures.allowed one c.in_err-protocol.ensures.reported)

pub returns-in_err-block-clause-reported : goal.returns-in_err-block-clause-reported
returns-in_err-block-clause-reported c =
    let two = c.in_ok-protocol.ensures.counted ∙ (c.in_ok-second.ensures.counted ∙ start c.new-lines.ensures.1 c.new-lines.ensures.0) in
    rw (err-is c.from_residual-in_err-block.result c.from_residual-in_err-block.ensures.1) (block-reported c.args.alloc c.args.allowed c.args.text.now c.read_protocol.new.lines.rest.now c.in_ok-second.second c.in_ok-protocol.protocol
    (last_number c.read_protocol.new.lines) c.in_err-block.field-0.0
    (sym c.new-lines.ensures.0 ∙ c.in_ok-second.ensures.text
    ∙ ap (λ (t : List ℕ). line_then (header_words c.in_ok-second.second) t) c.in_ok-protocol.ensures.text)
    c.in_ok-second.ensures.allowed c.in_ok-protocol.ensures.right c.in_err-block.ensures.own two (c.in_err-block.ensures.reported c.in_ok-protocol.ensures.right))

-- the text as far as the prologue
front-read : (c : After-read_prologue) → c.args.text.now ≡ line_then (header_words c.in_ok-second.second) (line_then (codes "protocol " ++ name_bytes c.in_ok-protocol.protocol)
    (block_text c.in_ok-block.block c.read_own_pattern.new.lines.rest.now))
front-read c = search rules

-- and how many line feeds are left there
front-counted : (c : After-read_prologue) → last_number c.read_own_pattern.new.lines ≡ line_feeds c.args.text.now
front-counted c =
    c.in_ok-block.ensures.counted ∙ (c.in_ok-protocol.ensures.counted ∙ (c.in_ok-second.ensures.counted ∙ start c.new-lines.ensures.1 c.new-lines.ensures.0))

pub returns-in_err-prologue-clause-reported : goal.returns-in_err-prologue-clause-reported
returns-in_err-prologue-clause-reported c =
    let g = (goal.at.returns-in_err-prologue-clause-reported c).After-read_prologue in
    rw (err-is c.from_residual-in_err-prologue.result c.from_residual-in_err-prologue.ensures.1) (prologue-reported c.args.alloc c.args.allowed c.args.text.now c.read_own_pattern.new.lines.rest.now c.in_ok-second.second
    c.in_ok-protocol.protocol c.in_ok-block.block (last_number c.read_own_pattern.new.lines)
    c.in_err-prologue.field-0.0 (front-read g)
    c.in_ok-second.ensures.allowed c.in_ok-protocol.ensures.right c.in_ok-block.ensures.right (front-counted g) c.in_err-prologue.ensures.reported)

pub returns-in_err-interval-clause-reported : goal.returns-in_err-interval-clause-reported
returns-in_err-interval-clause-reported c =
    let g = (goal.at.returns-in_err-interval-clause-reported c).After-read_prologue in
    let m = c.in_ok-prologue.ensures.counted ∙ (front-counted g) in
    rw (err-is c.from_residual-in_err-interval.result c.from_residual-in_err-interval.ensures.1) (interval-reported c.args.alloc c.args.allowed c.args.text.now c.read_prologue.new.lines.rest.now c.in_ok-second.second
    c.in_ok-protocol.protocol c.in_ok-block.block c.in_ok-prologue.prologue c.in_ok-prologue.ensures.bound
    (last_number c.read_prologue.new.lines)
    c.in_err-interval.field-0.0 (front-read g
    ∙ ap (λ (t : List ℕ). line_then (header_words c.in_ok-second.second) (line_then (codes "protocol " ++ name_bytes c.in_ok-protocol.protocol)
    (block_text c.in_ok-block.block t))) c.in_ok-prologue.ensures.text)
    c.in_ok-second.ensures.allowed c.in_ok-protocol.ensures.right c.in_ok-block.ensures.right c.in_ok-prologue.ensures.right m c.in_err-interval.ensures.reported)

pub returns-in_err-psks-clause-reported : goal.returns-in_err-psks-clause-reported
returns-in_err-psks-clause-reported c =
    let g = (goal.at.returns-in_err-psks-clause-reported c).After-read_prologue in
    let n = front-counted g in
    let m = c.in_ok-prologue.ensures.counted ∙ n in
    let k = c.in_ok-interval.ensures.counted ∙ m in
    rw (err-is c.from_residual-in_err-psks.result c.from_residual-in_err-psks.ensures.1) (psk-reported c.args.alloc c.args.allowed c.args.text.now c.read_interval.new.lines.rest.now c.in_ok-second.second
    c.in_ok-protocol.protocol c.in_ok-block.block c.in_ok-prologue.prologue c.in_ok-prologue.ensures.bound c.in_ok-interval.interval
    (last_number c.read_interval.new.lines) c.in_err-psks.field-0.0 (front-read g
    ∙ ap (λ (t : List ℕ). line_then (header_words c.in_ok-second.second) (line_then (codes "protocol " ++ name_bytes c.in_ok-protocol.protocol)
    (block_text c.in_ok-block.block t))) (c.in_ok-prologue.ensures.text
    ∙ ap (λ (t : List ℕ). line_then (codes "prologue " ++ hex_of c.in_ok-prologue.prologue.items) t) c.in_ok-interval.ensures.text))
    c.in_ok-second.ensures.allowed c.in_ok-protocol.ensures.right c.in_ok-block.ensures.right c.in_ok-prologue.ensures.right
    (search rules) k c.in_err-psks.ensures.reported)

-- the lines as far as the psks' last one are those of a right file
psks-begun : (c : After-read_party)
    → c.args.text.now ≡ line_then (header_words c.in_ok-second.second) (line_then (codes "protocol " ++ name_bytes c.in_ok-protocol.protocol)
    (block_text c.in_ok-block.block c.read_own_pattern.new.lines.rest.now))
    → BegunAt c.args.allowed c.in_ok-second.second c.args.text.now c.read_psks.new.lines.rest.now up_to_initiator
psks-begun c front =
    past-psks c.args.alloc c.args.allowed c.args.text.now c.read_psks.new.lines.rest.now c.in_ok-second.second
    c.in_ok-protocol.protocol c.in_ok-block.block c.in_ok-prologue.prologue c.in_ok-prologue.ensures.bound c.in_ok-interval.interval
    c.in_ok-psks.psks.items (front
    ∙ ap (λ (t : List ℕ). line_then (header_words c.in_ok-second.second) (line_then (codes "protocol " ++ name_bytes c.in_ok-protocol.protocol)
    (block_text c.in_ok-block.block t))) (c.in_ok-prologue.ensures.text
    ∙ ap (λ (t : List ℕ). line_then (codes "prologue " ++ hex_of c.in_ok-prologue.prologue.items) t) (c.in_ok-interval.ensures.text
    ∙ ap (λ (t : List ℕ). line_then (codes "interval " ++ decimal c.in_ok-interval.interval) t) c.in_ok-psks.ensures.text)))
    c.in_ok-second.ensures.allowed c.in_ok-protocol.ensures.right c.in_ok-block.ensures.right c.in_ok-prologue.ensures.right
    (search rules) c.in_ok-psks.ensures.right

-- and how many line feeds are left there
psks-counted : (c : After-read_party)
    → last_number c.read_own_pattern.new.lines ≡ line_feeds c.args.text.now
    → last_number c.read_psks.new.lines ≡ line_feeds c.args.text.now
psks-counted c n =
    c.in_ok-psks.ensures.counted ∙ (c.in_ok-interval.ensures.counted ∙ (c.in_ok-prologue.ensures.counted ∙ n))

pub returns-in_err-initiator-clause-reported : goal.returns-in_err-initiator-clause-reported
returns-in_err-initiator-clause-reported c =
    let g = goal.at.returns-in_err-initiator-clause-reported c in
    let n = psks-counted g.After-read_party (front-counted g.After-read_prologue) in
    let b = psks-begun g.After-read_party (front-read g.After-read_prologue) in
    rw (err-is c.from_residual-in_err-initiator.result c.from_residual-in_err-initiator.ensures.1) (initiator-reported c.args.allowed c.in_ok-second.second c.args.text.now c.read_psks.new.lines.rest.now
    (last_number c.read_psks.new.lines) c.in_err-initiator.field-0.0 b c.in_ok-psks.ensures.ended n c.in_err-initiator.ensures.reported)

pub returns-in_err-responder-clause-reported : goal.returns-in_err-responder-clause-reported
returns-in_err-responder-clause-reported c =
    let g = goal.at.returns-in_err-responder-clause-reported c in
    let b = psks-begun g.After-read_party (front-read g.After-read_prologue) in
    let m = c.in_ok-initiator.ensures.counted ∙ (psks-counted g.After-read_party (front-counted g.After-read_prologue)) in
    let b1 = past-initiator c.read_party.new.lines.rest.now c.in_ok-initiator.initiator b c.in_ok-initiator.ensures.right c.in_ok-initiator.ensures.text in
    rw (err-is c.from_residual-in_err-responder.result c.from_residual-in_err-responder.ensures.1) (responder-reported c.args.allowed c.in_ok-second.second c.args.text.now c.read_party.new.lines.rest.now
    (last_number c.read_party.new.lines) c.in_err-responder.field-0.0 b1 c.in_ok-initiator.ensures.ended m c.in_err-responder.ensures.reported)

pub returns-in_err-events-clause-reported : goal.returns-in_err-events-clause-reported
returns-in_err-events-clause-reported c =
    let g = goal.at.returns-in_err-events-clause-reported c in
    let n = psks-counted g.After-read_party (front-counted g.After-read_prologue) in
    let b = psks-begun g.After-read_party (front-read g.After-read_prologue) in
    let b1 = past-initiator c.read_party.new.lines.rest.now c.in_ok-initiator.initiator b c.in_ok-initiator.ensures.right c.in_ok-initiator.ensures.text in
    let b2 = past-responder c.read_party-2.new.lines.rest.now c.in_ok-responder.responder b1 c.in_ok-responder.ensures.right c.in_ok-responder.ensures.text in
    rw (err-is c.from_residual-in_err-events.result c.from_residual-in_err-events.ensures.1) (events-reported c.args.alloc c.args.allowed c.in_ok-second.second c.args.text.now c.read_party-2.new.lines.rest.now
    (last_number c.read_party-2.new.lines) c.in_err-events.field-0.0 b2
    c.in_ok-responder.ensures.ended (c.in_ok-responder.ensures.counted ∙ (c.in_ok-initiator.ensures.counted ∙ n)) c.in_err-events.ensures.reported)

pub returns-in_err-version-clause-reported : goal.returns-in_err-version-clause-reported
returns-in_err-version-clause-reported c =
    let g = goal.at.returns-in_err-version-clause-reported c in
    let n = psks-counted g.After-read_party (front-counted g.After-read_prologue) in
    let b = psks-begun g.After-read_party (front-read g.After-read_prologue) in
    let b1 = past-initiator c.read_party.new.lines.rest.now c.in_ok-initiator.initiator b c.in_ok-initiator.ensures.right c.in_ok-initiator.ensures.text in
    let b2 = past-responder c.read_party-2.new.lines.rest.now c.in_ok-responder.responder b1 c.in_ok-responder.ensures.right c.in_ok-responder.ensures.text in
    let j = c.in_ok-events.ensures.counted ∙ (c.in_ok-responder.ensures.counted ∙ (c.in_ok-initiator.ensures.counted ∙ n)) in
    let b3 = past-events c.read_events.new.lines.rest.now c.in_ok-events.events b2 c.in_ok-events.ensures.right c.in_ok-events.ensures.allowed
    c.in_ok-events.ensures.text in
    rw (err-is c.from_residual-in_err-version.result c.from_residual-in_err-version.ensures.1) (version-reported c.args.alloc c.args.allowed c.in_ok-second.second c.args.text.now c.read_events.new.lines.rest.now
    (last_number c.read_events.new.lines) c.in_err-version.field-0.0 b3
    c.in_ok-events.ensures.ended c.in_ok-second.ensures.allowed j (c.in_err-version.ensures.reported c.in_ok-events.ensures.ended))
