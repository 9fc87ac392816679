-- The vector file that a template's text is of.
use Rattle.std.proofs.Common.{◌≡◌, ◌∙◌, refl, sym, ap, ◌<◌, ◌≤◌, ◌^◌, ℕ, suc, ◌+◌, List, [], ◌∷◌, ◌++◌, Vec, Option, Some, None, length, map, codes, append_assoc, arith, length-append}
use Rattle.std.specs.Prelude.{Bool, true, false, ◌&&◌, IsTrue, IfSome, nat_le, ◌==◌, decimal, if◌then◌else◌}
use Rattle.std.specs.Global.{Global}
use Rattle.std.specs.List.{All, list_all}
use Rattle.std.proofs.lemmas.Bool.{leb-true}
use Rattle.std.proofs.lemmas.List.{length-map}
use Rattle.std.specs.Fmt.{digits}
use Rattle.std.proofs.lemmas.List.Elements.{All-append, All-cons, All-nil}
use Rattle.noise_names.specs.declared.token.Role.{Role}
use Rattle.noise_names.specs.declared.token.Role.TheVariants.{Initiator, Responder}
use Rattle.noise_names.specs.declared.token.Token.{Token}
use Rattle.noise_names.specs.declared.token.Token.TheVariants.{Ee, Es, Se, Ss}
use Rattle.noise_names.specs.Fundamental.{fundamental_of}
use Rattle.noise_names.specs.Limits.{IsPattern}
use Rattle.noise_names.specs.Names.{name_bytes}
use Rattle.noise_names.specs.Plan.{Plan, places_of}
use Rattle.noise_names.specs.Text as PatternText
use Rattle.noise_names.specs.Tokens.{other}
use Rattle.noise_names.specs.Validity.{is_among}
use Rattle.noise_keys.specs.declared.keys.Own.{Own}
use Rattle.noise_keys.specs.declared.keys.Own.TheVariants.{Ephemeral, Static}
use Rattle.noise_keys.specs.Table.{TableEntry}
use Rattle.noise_keys.specs.Table as table
use Rattle.noise_keys.specs.KeyTokens.{own_at, token_of}
use Rattle.noise_events.specs.Events.{Event as Act, Say as Said, events_of}
use Rattle.noise_events.specs.declared.event.Event.{Event}
use Rattle.noise_events.specs.declared.event.Event.TheVariants.{Say}
use Rattle.noise_vectors.specs.HexWord.{hex_of}
use Rattle.noise_vectors.specs.SameFile.{cuts_of}
use Rattle.noise_vectors.specs.VectorFile.{AreKeys, IsEntry, IsEvent, IsOwn, IsShort, IsVectorFile}
use Rattle.noise_vectors.specs.VectorText.{answer_words, block_text, event_words, key_words, line_then, lines_of, party_text, psk_words, role_word, file_text}
use Rattle.noise_vectors.specs.Words.{IsKey}
use Rattle.noise_vectors.specs.declared.file_keys.FileKeys.TheVariants.{Table}
use Rattle.noise_vectors.specs.declared.vector.VectorFile.{VectorFile}
use Rattle.noise_vectors.specs.declared.vector.Version.TheVariants.{One}
use Rattle.noise_explain.specs.Template.{IsTemplate, IsTemplateText, Turn, entries_for, entry, payload_at, template_key, template_keys, keys_text, name_of, occurs_in}
use Rattle.noise_explain.specs.Template.{psk_at, psks_text, say_words, speakers, template_text, unless_known, writers}
use Rattle.noise_explain.specs.Values.{AreRight, takes_key, value_in}
use Rattle.noise_explain.specs.declared.values.Given.{Given}
use Rattle.noise_explain.specs.declared.values.Place.{Place}
use Rattle.noise_explain.specs.declared.values.Place.TheVariants.{Prologue, Key, Dh, Psk, Payload}
use Rattle.noise_explain.proofs.ValueLemmas.{IsLow, key-of, short-of, value-right}

-- ---- the file

-- the prologue and a payload are short
short-at : (g : List Given) → AreRight g → (place : Place) → takes_key place ≡ false → IsLow place → IsShort (value_in g place)
short-at g right place e low = short-of place (value_in g place) e (value-right g right place low)

-- these bytes, at the place of another vector
abbrev bytes_vec : Vec ℕ Global → (bytes : List ℕ) → IsShort bytes → Vec ℕ Global
bytes_vec v bytes short =
    record { ptr = v.ptr; len = length bytes; cap = length bytes; alloc = v.alloc; items = bytes; ok = (refl, omega arith); small = omega (arith, short.0) }

abbrev said : (g : List Given) → AreRight g → Vec ℕ Global → Turn → Event
said g right v turn = Say turn.1 (bytes_vec v (payload_at g turn) (short-at g right (Payload turn.0) refl tt)) []

-- what is said, of a vector for its payloads
abbrev says : (g : List Given) → AreRight g → Vec ℕ Global → List Turn → List Event
says g right v turns = map (said g right v) turns

-- these events, at the place of another vector
abbrev says_vec : (g : List Given) (right : AreRight g) (v : Vec ℕ Global) → (turns : List Turn) → length (says g right v turns) < 2 ^ 63 → Vec Event Global
says_vec g right v turns few =
    record {
      ptr = v.ptr;
      len = length (says g right v turns);
      cap = length (says g right v turns);
      alloc = v.alloc;
      items = says g right v turns;
      ok = (refl, omega arith);
      small = few;
    }

abbrev made : (g : List Given) (right : AreRight g) (p : Plan) → (v : Vec ℕ Global) → length (says g right v (speakers p.messages)) < 2 ^ 63 → VectorFile
made g right p v few = record {
  protocol = name_of p;
  block = unless_known (fundamental_of p.base) p;
  prologue = bytes_vec v (value_in g Prologue) (short-at g right Prologue refl tt);
  interval = 0;
  psks = record { items = map (psk_at g) p.places };
  initiator = Table (template_keys g p Initiator);
  responder = Table (template_keys g p Responder);
  events = says_vec g right v (speakers p.messages) few;
  version = One;
  short = (short-at g right Prologue refl tt).0;
}

says-events : (g : List Given) (right : AreRight g) (v : Vec ℕ Global) (turns : List Turn)
    → events_of (says g right v turns) ≡ map (λ turn. Said turn.1 (payload_at g turn)) turns
says-events g right v [] = refl
says-events g right v (t ∷ ts) = ap (λ (es : List Act). Said t.1 (payload_at g t) ∷ es) (says-events g right v ts)

says-cuts : (g : List Given) (right : AreRight g) (v : Vec ℕ Global) (turns : List Turn) → map cuts_of (says g right v turns) ≡ map (λ turn. []) turns
says-cuts g right v [] = refl
says-cuts g right v (t ∷ ts) = ap (λ (cs : List (List ℕ)). [] ∷ cs) (says-cuts g right v ts)

is-made : (g : List Given) (right : AreRight g) (p : Plan) (v : Vec ℕ Global) (few : length (says g right v (speakers p.messages)) < 2 ^ 63)
    → IsTemplate g p (made g right p v few)
is-made g right p v few = record {
  protocol = refl;
  block = refl;
  prologue = refl;
  interval = refl;
  psks = refl;
  initiator = refl;
  responder = refl;
  events = says-events g right v (speakers p.messages);
  cuts = says-cuts g right v (speakers p.messages);
  version = refl;
}

-- ---- its text

line-after : (t a b : List ℕ) → line_then t (a ++ b) ≡ line_then t a ++ b
line-after t a b = sym (append_assoc t (10 ∷ a) b)

lines-after : {A : Type 0} (words : A → List ℕ) (xs : List A) (a b : List ℕ) → lines_of words xs (a ++ b) ≡ lines_of words xs a ++ b
lines-after words [] a b = refl
lines-after words (x ∷ xs) a b = ap (line_then (words x)) (lines-after words xs a b) ∙ line-after (words x) (lines_of words xs a) b

party-after : (role : Role) (keys : table.Table) (b : List ℕ) → party_text role (Table keys) b ≡ party_text role (Table keys) [] ++ b
party-after role keys b =
    let first : List ℕ = role_word role ++ (codes " table " ++ key_words keys.e keys.s) in
    ap (λ (t : List ℕ). line_then first t) (lines-after answer_words keys.entries [] b) ∙ line-after first (lines_of answer_words keys.entries []) b

block-after : (block : Option Plan) (b : List ℕ) → block_text block b ≡ block_text block [] ++ b
block-after None b = refl
block-after (Some p) b = sym (append_assoc (PatternText.text_of p) (line_then (codes "end") []) b)

says-text : (g : List Given) (right : AreRight g) (v : Vec ℕ Global) (turns : List Turn)
    → lines_of event_words (says g right v turns) [] ≡ lines_of (say_words g) turns []
says-text g right v [] = refl
says-text g right v (t ∷ ts) = ap (line_then (say_words g t)) (says-text g right v ts)

no-rekey : decimal 0 ≡ 48 ∷ []
unfolding digits
no-rekey = refl

whole : (n b prologue psks first second last : List ℕ)
    → (codes "vector 1\nprotocol " ++ n ++ codes "\n" ++ b ++ codes "prologue " ++ prologue ++ codes "\ninterval 0\n") ++ psks ++ first ++ second ++ last
    ≡ line_then (codes "vector 1") (line_then (codes "protocol " ++ n)
    (b ++ line_then (codes "prologue " ++ prologue) (line_then (codes "interval " ++ decimal 0) (psks ++ (first ++ (second ++ last))))))
whole n b prologue psks first second last = rw no-rekey (simp append_assoc)

text-made : (g : List Given) (right : AreRight g) (p : Plan) (v : Vec ℕ Global) (few : length (says g right v (speakers p.messages)) < 2 ^ 63)
    → template_text g p ≡ file_text (made g right p v few)
text-made g right p v few =
    let block : Option Plan = unless_known (fundamental_of p.base) p in
    let turns : List Turn = speakers p.messages in
    let rest : List ℕ = lines_of (say_words g) turns [] in
    let first : List ℕ = keys_text g p Initiator in
    let second : List ℕ = keys_text g p Responder in
    let psks : List ℕ = psks_text g p.places in
    let prologue : List ℕ = codes "prologue " ++ hex_of (value_in g Prologue) in
    let e1 : party_text Responder (Table (template_keys g p Responder)) (lines_of event_words (says g right v turns) []) ≡ second ++ rest =
    ap (party_text Responder (Table (template_keys g p Responder))) (says-text g right v turns) ∙ party-after Responder (template_keys g p Responder) rest in
    let e2 : party_text Initiator (Table (template_keys g p Initiator)) (party_text Responder (Table (template_keys g p Responder)) (lines_of event_words (says g right v turns) []))
    ≡ first ++ (second ++ rest) =
    ap (party_text Initiator (Table (template_keys g p Initiator))) e1 ∙ party-after Initiator (template_keys g p Initiator) (second ++ rest) in
    let e3 = ap (lines_of psk_words (map (psk_at g) p.places)) e2 ∙ lines-after psk_words (map (psk_at g) p.places) [] (first ++ (second ++ rest)) in
    let e4 = ap (λ (t : List ℕ). block_text block (line_then prologue (line_then (codes "interval " ++ decimal 0) t))) e3
    ∙ block-after block (line_then prologue (line_then (codes "interval " ++ decimal 0) (psks ++ (first ++ (second ++ rest))))) in
    whole (name_bytes (name_of p)) (block_text block []) (hex_of (value_in g Prologue)) psks first second rest
    ∙ sym (ap (λ (t : List ℕ). line_then (codes "vector 1") (line_then (codes "protocol " ++ name_bytes (name_of p)) t)) e4)

-- ---- it is a right one

key-at : (g : List Given) → AreRight g → (place : Place) → takes_key place ≡ true → IsLow place → IsKey (value_in g place)
key-at g right place e low = key-of place (value_in g place) e (value-right g right place low)

key-in-right : (g : List Given) → AreRight g → (p : Plan) (role : Role) (own : Own) → IfSome (template_key g p role own) IsKey
key-in-right g right p role own = by (is_among role (token_of own) (places_of p)) where
  by : (b : Bool) → IfSome (if b then Some (value_in g (Key role own)) else None) IsKey
  by true = key-at g right (Key role own) refl tt
  by false = tt

entry-right : (g : List Given) → AreRight g → (role : Role) (t : Token) → IsEntry (entry g role t)
entry-right g right role t = (key-at g right (Key (other role) (own_at (other role) t)) refl tt, key-at g right (Dh t) refl tt)

entries-right : (g : List Given) → AreRight g → (p : Plan) (role : Role) (t : Token)
    → (length (entries_for g p role t) ≤ 1) × All IsEntry (entries_for g p role t)
entries-right g right p role t = by (occurs_in t p.messages) where
  by : (b : Bool) → (length (if b then entry g role t ∷ [] else []) ≤ 1) × All IsEntry (if b then entry g role t ∷ [] else [])
  by true = (omega arith, All-cons IsEntry (entry g role t) [] (entry-right g right role t) (All-nil IsEntry))
  by false = (omega arith, All-nil IsEntry)

keys-right : (g : List Given) → AreRight g → (p : Plan) (role : Role) → AreKeys (Table (template_keys g p role))
keys-right g right p role =
    let a = entries-right g right p role Ee in
    let b = entries-right g right p role Es in
    let c = entries-right g right p role Se in
    let d = entries-right g right p role Ss in
    let ab = entries_for g p role Ee ++ entries_for g p role Es in
    let abc = ab ++ entries_for g p role Se in (
      key-in-right g right p role Ephemeral,
      key-in-right g right p role Static,
      omega (
        arith,
        a.0,
        b.0,
        c.0,
        d.0,
        length-append abc (entries_for g p role Ss),
        length-append ab (entries_for g p role Se),
        length-append (entries_for g p role Ee) (entries_for g p role Es),
      ),
      All-append IsEntry abc (entries_for g p role Ss)
          (All-append IsEntry ab (entries_for g p role Se) (All-append IsEntry (entries_for g p role Ee) (entries_for g p role Es) a.1 b.1) c.1) d.1,
    )

first : (a b : Bool) → IsTrue (a && b) → IsTrue a
first true b h = refl
first false b h = cc

second : (a b : Bool) → IsTrue (a && b) → IsTrue b
second true b h = h
second false b h = cc

psks-right : (g : List Given) → AreRight g → (places : List ℕ) → IsTrue (list_all (λ n. nat_le n 8) places) → All IsKey (map (psk_at g) places)
psks-right g right [] h = All-nil IsKey
psks-right g right (n ∷ ns) h =
    let low : n ≤ 8 = leb-true n 8 (first (nat_le n 8) (list_all (λ m. nat_le m 8) ns) h) in
    All-cons IsKey (psk_at g n) (map (psk_at g) ns) (key-at g right (Psk n) refl low)
    (psks-right g right ns (second (nat_le n 8) (list_all (λ m. nat_le m 8) ns) h))

own-right : (p : Plan) → IsPattern p → (o : Option Plan) → fundamental_of p.base ≡ o → IsOwn (name_of p) (unless_known o p)
own-right p h None e = ((λ _. e, λ _. refl), (h, (refl, refl)))
own-right p h (Some f) e = ((λ s. cc, λ none. let bad = sym e ∙ none in cc), tt)

said-right : (g : List Given) (right : AreRight g) (v : Vec ℕ Global) (turn : Turn) → IsEvent (said g right v turn)
said-right g right v turn = (short-at g right (Payload turn.0) refl tt, ((omega arith, All-nil (λ n. n < 65536)), omega arith))

says-right : (g : List Given) (right : AreRight g) (v : Vec ℕ Global) (turns : List Turn) → All IsEvent (says g right v turns)
says-right g right v [] = All-nil IsEvent
says-right g right v (t ∷ ts) = All-cons IsEvent (said g right v t) (says g right v ts) (said-right g right v t) (says-right g right v ts)

right-made : (g : List Given) (right : AreRight g) (p : Plan) (v : Vec ℕ Global) (few : length (says g right v (speakers p.messages)) < 2 ^ 63) → IsPattern p
    → length p.places ≤ 9 → IsTrue (list_all (λ n. nat_le n 8) p.places) → IsVectorFile (made g right p v few)
right-made g right p v few h nine low = record {
  protocol = record { base = h.base; places = h.places };
  own = own-right p h (fundamental_of p.base) refl;
  prologue = short-at g right Prologue refl tt;
  interval = omega arith;
  psks = (omega (arith, length-map p.places (psk_at g)), psks-right g right p.places low);
  initiator = keys-right g right p Initiator;
  responder = keys-right g right p Responder;
  events = says-right g right v (speakers p.messages);
  version = tt;
}

-- ---- so few events

writers-count : (number : ℕ) (party : Role) (ms : List (List Token)) → length (writers number party ms) ≡ length ms
writers-count number party [] = refl
writers-count number party (m ∷ ms) = ap suc (writers-count (number + 1) (other party) ms)

speakers-few : (ms : List (List Token)) → length (speakers ms) ≤ length ms + 2
speakers-few ms = by (length ms == 1) where
  by : (b : Bool) → length (writers 1 Initiator ms ++ (length ms + 1, Initiator) ∷ (if b then [] else (length ms + 2, Responder) ∷ [])) ≤ length ms + 2
  by true = omega (arith, writers-count 1 Initiator ms, length-append (writers 1 Initiator ms) ((length ms + 1, Initiator) ∷ []))
  by false =
      omega (arith, writers-count 1 Initiator ms, length-append (writers 1 Initiator ms) ((length ms + 1, Initiator) ∷ (length ms + 2, Responder) ∷ []))

pub is-template : (g : List Given) (p : Plan) (v : Vec ℕ Global) (text : List ℕ) → AreRight g → IsPattern p → length p.places ≤ 9
    → text ≡ template_text g p → IsTemplateText g p text
is-template g p v text right h nine is =
    let eight : length p.messages ≤ 8 = leb-true (length p.messages) 8 (second (nat_le 1 (length p.messages)) (nat_le (length p.messages) 8) h.count) in
    let few : length (says g right v (speakers p.messages)) < 2 ^ 63 =
    omega (arith, speakers-few p.messages, eight, length-map (speakers p.messages) (said g right v)) in
    record {
      pattern = h;
      file = made g right p v few;
      right = right-made g right p v few h nine (second _ (list_all (λ n. nat_le n 8) p.places) h.places);
      is = is-made g right p v few;
      spelled = is ∙ text-made g right p v few;
    }
