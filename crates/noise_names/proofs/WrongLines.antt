-- A line that is wrong after right lines is in no right text after those.
use Rattle.std.proofs.Common.{rules, ◌≡◌, ◌≢◌, ◌⊎◌, ◌↔◌, ℕ, suc, zero, ◌+◌, Bool, true, false, ◌&&◌, not, leb, List, [], ◌∷◌, ◌++◌, refl, ap, sym, ◌∙◌, IsTrue, add-one, length, length-append, inl, inr, arith}
use Rattle.noise_names.proofs.Common.{◌==◌, list_all, nat_tests, list_all-append, TextFaultKind, Role, Initiator, Responder, Token, IsBarred, AreRightLines, IsWrong, RightLines, right_lines, HavePsksAt, IsPattern, has_few_tokens, is_pre_message, with_psk_tokens, Plan, line, pre_lines, words, other, own_tokens, turn_from, IsTokens, arrow_then, body_of, dots, is_within, and_parts}
use Rattle.noise_names.proofs.NextLines.{IsBegun, IsNextLine, IsNextMessage, IsNextPre, next_line}
use Rattle.noise_names.proofs.Rows.{Row, content, ending, is_row, row_same, tokens_of}
use Rattle.noise_names.proofs.TokenLines.{apart}
use Rattle.noise_names.specs.declared.faults.TextFaultKind.TheVariants as kinds

-- what an arrow and a token list are
row_arrow : (row : Row) → is_row row ≡ true → content row ≢ dots → ((party : Role) (list : List ℕ) → content row ≢ arrow_then party list) → ⊥
row_arrow ending h other_line none = other_line refl
row_arrow (tokens_of party tokens) h other_line none = none party (words tokens) refl

pub not_dots : (party : Role) (list : List ℕ) → dots ≢ arrow_then party list
not_dots Initiator list e = apart _ _ 2 (sym e) (omega arith)
not_dots Responder list e = apart _ _ 2 e (omega arith)

list_same : (r s : Role) (xs ys : List ℕ) → arrow_then r xs ≡ arrow_then s ys → xs ≡ ys
list_same Initiator Initiator xs ys e = cc
list_same Responder Responder xs ys e = cc
list_same Initiator Responder xs ys e = absurd (apart _ _ 2 e (omega arith))
list_same Responder Initiator xs ys e = absurd (apart _ _ 2 (sym e) (omega arith))

row_list : (row : Row) (party : Role) (list : List ℕ) → is_row row ≡ true → content row ≡ arrow_then party list
    → ((tokens : List Token) → tokens ≢ [] → list ≢ words tokens) → ⊥
row_list ending party list h e none = not_dots party list e
row_list (tokens_of role []) party list h e none = absurd (let bad : false ≡ true = h in cc)
row_list (tokens_of role (t ∷ ts)) party list h e none = none (t ∷ ts) (λ f. cc) (sym (list_same role party (words (t ∷ ts)) list e))

-- the row of a line
row_ending : (row : Row) (reported : List ℕ) → is_row row ≡ true → reported ≡ content row → reported ≡ dots → row ≡ ending
row_ending row reported h e f = row_same row ending h refl (sym e ∙ f)

row_tokens : (row : Row) (reported : List ℕ) (party : Role) (tokens : List Token) → is_row row ≡ true → reported ≡ content row → IsTokens party tokens reported
    → row ≡ tokens_of party tokens
row_tokens row reported party tokens h e f = row_same row (tokens_of party tokens) h (some tokens f.0) (sym e ∙ f.1) where
  some : (ts : List Token) → ts ≢ [] → is_row (tokens_of party ts) ≡ true
  some [] g = absurd (g refl)
  some (t ∷ ts) g = refl

not_ending : (party : Role) (tokens : List Token) → ending ≢ tokens_of party tokens
not_ending party tokens e = cc

party_same : (r s : Role) (ts us : List Token) → tokens_of r ts ≡ tokens_of s us → r ≡ s
party_same r s ts us e = cc

tokens_same : (r s : Role) (ts us : List Token) → tokens_of r ts ≡ tokens_of s us → ts ≡ us
tokens_same r s ts us e = cc

-- turns
turn_apart : (n : ℕ) (party : Role) → turn_from (other party) n ≢ turn_from party n
turn_apart zero Initiator e = absurd (cc)
turn_apart zero Responder e = absurd (cc)
turn_apart (suc n) party e = turn_apart n (other party) e

pub next_turn : (n : ℕ) → turn_from Initiator n ≢ turn_from Initiator (n + 1)
next_turn n e = turn_apart n Initiator (sym (e ∙ ap (λ (k : ℕ). turn_from Initiator k) (add-one n)))

-- what is right in a message of a pattern
within : (q : Plan) (before more : List (List Token)) (m : List Token) → IsPattern q → q.messages ≡ before ++ m ∷ more → is_within before m ≡ true
within q before more m h e =
    let count : length q.messages ≡ length before + suc (length more) = ap length e ∙ length-append before (m ∷ more) in
    let few : leb (length before + 1) 8 ≡ true = search rules in
    let all : (list_all has_few_tokens before && list_all has_few_tokens (m ∷ more)) ≡ true = search (rules, list_all-append) in
    let rest : list_all has_few_tokens (m ∷ more) ≡ true = (and_parts (list_all has_few_tokens before) (list_all has_few_tokens (m ∷ more)) all).1 in
    let here : has_few_tokens m ≡ true = (and_parts (has_few_tokens m) (list_all has_few_tokens more) rest).0 in
    rw (few, here) refl
  where
    one_more : (n b k : ℕ) → n ≡ b + suc k → leb n 8 ≡ true → leb (b + 1) 8 ≡ true
    one_more n b k e t = grind (arith, nat_tests)

psks_at : (places : List ℕ) (n : ℕ) (before more : List (List Token)) (m : List Token) → HavePsksAt places n (before ++ m ∷ more)
    → m ≡ with_psk_tokens places (length before + n) (own_tokens m)
psks_at places n [] more m h = let e : n ≡ 0 + n = omega arith in h.0 ∙ ap (λ (k : ℕ). with_psk_tokens places k (own_tokens m)) e
psks_at places n (x ∷ before) more m h = search (rules, (psks_at places (n + 1) before more m h.1))

-- ---- each kind of wrong line, where the next line of a right text is this

no_arrow : (s : RightLines) (q : Plan) (reported : List ℕ) → IsNextLine s q reported → reported ≢ dots → ((party : Role) (list : List ℕ) → reported ≢ arrow_then party list) → ⊥
no_arrow s q reported n other_line none = row_arrow n.row n.right (λ e. other_line (n.reported_is ∙ e)) (λ party list e. none party list (n.reported_is ∙ e))

no_token : (s : RightLines) (q : Plan) (reported : List ℕ) (party : Role) (list : List ℕ) → IsNextLine s q reported → reported ≡ arrow_then party list
    → ((tokens : List Token) → tokens ≢ [] → list ≢ words tokens) → ⊥
no_token s q reported party list n e none = row_list n.row party list n.right (sym n.reported_is ∙ e) none

no_dots : (s : RightLines) (q : Plan) (reported : List ℕ) → IsNextLine s q reported → reported ≡ dots → (s.ahead ≡ false) ⊎ ((s.initiator ≡ []) × (s.responder ≡ [])) → ⊥
no_dots s q reported n e where_it_is = at s.ahead refl where_it_is where
  is : n.row ≡ ending
  is = row_ending n.row reported n.right n.reported_is e

  before_none : IsNextPre s.initiator s.responder n.row → (s.initiator ≡ []) × (s.responder ≡ []) → ⊥
  before_none (inl h) none = h.1 none.0 none.1
  before_none (inr h) none = not_ending h.0 h.1 (sym is ∙ h.2)

  at : (ahead : Bool) → s.ahead ≡ ahead → (s.ahead ≡ false) ⊎ ((s.initiator ≡ []) × (s.responder ≡ [])) → ⊥
  at false h k = not_ending _ _ (sym is ∙ (n.message h).row_is)
  at true h (inl k) = let bad : true ≡ false = sym h ∙ k in cc
  at true h (inr k) = before_none (n.pre_message h) k

no_pre_message : (s : RightLines) (q : Plan) (reported : List ℕ) (party : Role) (tokens : List Token) → IsNextLine s q reported → s.ahead ≡ true
    → IsTokens party tokens reported → (is_pre_message tokens ≡ false) ⊎ IsBarred party s → ⊥
no_pre_message s q reported party tokens n ahead are wrong = at (n.pre_message ahead) wrong where
  is : n.row ≡ tokens_of party tokens
  is = row_tokens n.row reported party tokens n.right n.reported_is are

  at : IsNextPre s.initiator s.responder n.row → (is_pre_message tokens ≡ false) ⊎ IsBarred party s → ⊥
  at (inl h) k = not_ending party tokens (sym h.0 ∙ is)
  at (inr (role, own, row_is, pre, none, first)) (inl k) =
      let same : own ≡ tokens = tokens_same role party own tokens (sym row_is ∙ is) in
      let bad : true ≡ false = sym pre ∙ ap is_pre_message same ∙ k in
      cc
  at (inr (role, own, row_is, pre, none, first)) (inr (inl k)) = k none
  at (inr (role, own, row_is, pre, none, first)) (inr (inr k)) = k.1 (first (party_same role party own tokens (sym row_is ∙ is) ∙ k.0))

-- the line of a message
pub record IsMessageAt (s : RightLines) (q : Plan) (party : Role) (tokens : List Token) : Type 0 where
  pub more : List (List Token)
  pub messages_are : q.messages ≡ s.messages ++ tokens ∷ more
  pub turn : party ≡ turn_from Initiator (length s.messages)

message_at : (s : RightLines) (q : Plan) (reported : List ℕ) (party : Role) (tokens : List Token) → IsNextLine s q reported → s.ahead ≡ false → IsTokens party tokens reported
    → IsMessageAt s q party tokens
message_at s q reported party tokens n none_ahead are =
    let next : IsNextMessage Initiator s.messages q.messages n.row = n.message none_ahead in
    let same : tokens_of party tokens ≡ tokens_of (turn_from Initiator (length s.messages)) next.message = search (rules, row_tokens) in
    let is : tokens ≡ next.message = tokens_same party (turn_from Initiator (length s.messages)) tokens next.message same in
    record {
      more = next.more;
      messages_are = next.messages_are ∙ ap (λ (m : List Token). s.messages ++ m ∷ next.more) (sym is);
      turn = party_same party (turn_from Initiator (length s.messages)) tokens next.message same;
    }

no_turn : (s : RightLines) (q : Plan) (reported : List ℕ) (tokens : List Token) → IsNextLine s q reported → s.ahead ≡ false
    → IsTokens (turn_from Initiator (length s.messages + 1)) tokens reported → ⊥
no_turn s q reported tokens n none_ahead are = search (rules, next_turn)

no_limit : (s : RightLines) (q : Plan) (reported : List ℕ) (tokens : List Token) → IsPattern q → IsNextLine s q reported → s.ahead ≡ false
    → IsTokens (turn_from Initiator (length s.messages)) tokens reported → is_within s.messages tokens ≡ false → ⊥
no_limit s q reported tokens h n none_ahead are wrong =
    let at = message_at s q reported (turn_from Initiator (length s.messages)) tokens n none_ahead are in
    let bad : true ≡ false = sym (within q s.messages at.more tokens h at.messages_are) ∙ wrong in
    cc

no_psk : (places : List ℕ) (s : RightLines) (q : Plan) (reported : List ℕ) (tokens : List Token) → IsPattern q → q.places ≡ places → IsNextLine s q reported
    → s.ahead ≡ false → IsTokens (turn_from Initiator (length s.messages)) tokens reported
    → tokens ≢ with_psk_tokens places (length s.messages + 1) (own_tokens tokens) → ⊥
no_psk places s q reported tokens h same n none_ahead are wrong =
    let at = message_at s q reported (turn_from Initiator (length s.messages)) tokens n none_ahead are in
    let psks : HavePsksAt q.places 1 (s.messages ++ tokens ∷ at.more) = search rules in
    wrong (psks_at q.places 1 s.messages at.more tokens psks
    ∙ ap (λ (ns : List ℕ). with_psk_tokens ns (length s.messages + 1) (own_tokens tokens)) same)

wrong_line : (places : List ℕ) (s : RightLines) (reported : List ℕ) (kind : TextFaultKind) (q : Plan) → IsPattern q → q.places ≡ places → IsNextLine s q reported
    → IsWrong places s reported kind → ⊥
wrong_line places s reported kinds.Arrow q h same n w = no_arrow s q reported n w.0 w.1
wrong_line places s reported kinds.Token q h same n (party, list, e, none) = no_token s q reported party list n e none
wrong_line places s reported kinds.PreMessage q h same n (inl w) = no_dots s q reported n w.0 w.1
wrong_line places s reported kinds.PreMessage q h same n (inr (ahead, (party, tokens, are, w))) = no_pre_message s q reported party tokens n ahead are w
wrong_line places s reported kinds.Turn q h same n (none_ahead, (tokens, are)) = no_turn s q reported tokens n none_ahead are
wrong_line places s reported kinds.Limit q h same n (none_ahead, (tokens, are, w)) = no_limit s q reported tokens h n none_ahead are w
wrong_line places s reported kinds.PskPlace q h same n (none_ahead, (tokens, are, limits, w)) = no_psk places s q reported tokens h same n none_ahead are w
wrong_line places s reported kinds.Heading q h same n w = w
wrong_line places s reported kinds.NameTaken q h same n w = w
wrong_line places s reported kinds.Ending q h same n w = w

-- It is in no right text of these psk places that has the line after the pre-messages exactly if this text has it.
pub excluded : (places : List ℕ) (dotted : Bool) (s : RightLines) (reported : List ℕ) (kind : TextFaultKind) → AreRightLines places dotted s → IsWrong places s reported kind
    → list_all (λ b. not (b == 10)) reported ≡ true → (q : Plan) → IsPattern q → q.places ≡ places
    → (pre_lines q.initiator q.responder ≢ [] ↔ IsTrue dotted) → (rest : List ℕ) → ¬ (body_of q ≡ right_lines s ++ (line reported ++ rest))
excluded places dotted s reported kind passed wrong feedless q right same form rest e =
    let begun : IsBegun places dotted s reported rest q = search in
    wrong_line places s reported kind q right same (next_line places dotted s reported rest q begun) wrong
