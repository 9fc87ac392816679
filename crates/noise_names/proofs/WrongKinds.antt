-- One wrong line has one kind of fault.
use Rattle.std.proofs.Common.{rules, ◌≡◌, ◌⊎◌, inl, inr, ℕ, ◌+◌, true, false, List, [], ◌∷◌, ◌++◌, refl, ap, sym, ◌∙◌, append_assoc, length, arith}
use Rattle.noise_names.proofs.Common.{codes, list_all, TextFaultKind, Role, Initiator, Responder, Token, E, S, Ee, Es, Se, Ss, Psk, has_few_tokens, message_lines, token_line, word_of, words, other, turn_from, BeginsRight, IsAfter, IsArrowFault, IsAtMessage, IsLimitFault, IsMessage, IsPreMessageFault, IsPskFault, IsTokenFault, IsTokens, IsTurnFault, IsWrongLine, arrow_then, dots, first_line, is_within, wrong_line, and_parts}
use Rattle.noise_names.proofs.DotsLine.{not_ahead}
use Rattle.noise_names.proofs.Rows.{no_feed-row, tokens_of}
use Rattle.noise_names.proofs.WrongLines.{next_turn, not_dots}
use Rattle.noise_names.proofs.PatternRows.{lines_same}
use Rattle.noise_names.proofs.TokenLines.{apart, words_same}
use Rattle.noise_names.proofs.Lines.{first_same}
use Rattle.noise_names.specs.declared.faults.TextFaultKind.TheVariants as kinds

-- ---- the party and the tokens of a line

arrow_same : (r s : Role) (xs ys : List ℕ) → arrow_then r xs ≡ arrow_then s ys → (r ≡ s) × (xs ≡ ys)
arrow_same Initiator Initiator xs ys e = (refl, cc)
arrow_same Responder Responder xs ys e = (refl, cc)
arrow_same Initiator Responder xs ys e = absurd (apart _ _ 2 e (omega arith))
arrow_same Responder Initiator xs ys e = absurd (apart _ _ 2 (sym e) (omega arith))

some_words : (t : Token) (ts : List Token) → [] ≡ words (t ∷ ts) → ⊥
some_words t ts e = at t ts e where
  begun : (t : Token) (more : List ℕ) → [] ≡ word_of t ++ more → ⊥
  begun E more f = cc
  begun S more f = cc
  begun Ee more f = cc
  begun Es more f = cc
  begun Se more f = cc
  begun Ss more f = cc
  begun Psk more f = cc

  at : (t : Token) (ts : List Token) → [] ≡ words (t ∷ ts) → ⊥
  at E [] f = cc
  at S [] f = cc
  at Ee [] f = cc
  at Es [] f = cc
  at Se [] f = cc
  at Ss [] f = cc
  at Psk [] f = cc
  at t (u ∷ us) f = begun t (codes ", " ++ words (u ∷ us)) (f ∙ append_assoc (word_of t) (codes ", ") (words (u ∷ us)))

one_list : (ts us : List Token) → words ts ≡ words us → ts ≡ us
one_list [] [] e = refl
one_list [] (u ∷ us) e = absurd (some_words u us e)
one_list (t ∷ ts) [] e = absurd (some_words t ts (sym e))
one_list (t ∷ ts) (u ∷ us) e = (words_same t u ts us [] [] (ap (λ (text : List ℕ). text ++ 10 ∷ []) e)).0

tokens_one : (r s : Role) (ts us : List Token) → arrow_then r (words ts) ≡ arrow_then s (words us) → (r ≡ s) × (ts ≡ us)
tokens_one r s ts us e = let same = arrow_same r s (words ts) (words us) e in (same.0, one_list ts us same.1)

-- ---- the messages before a line

messages_few : (party : Role) (ms ks : List (List Token)) (rest : List ℕ) → list_all has_few_tokens ms ≡ true
    → message_lines party ms ≡ message_lines party ks ++ rest → list_all has_few_tokens ks ≡ true
messages_few party ms [] rest h e = refl
messages_few party [] (k ∷ ks) rest h e = absurd (cc)
messages_few party (m ∷ ms) (k ∷ ks) rest h e =
    let parts = and_parts (has_few_tokens m) (list_all has_few_tokens ms) h in
    let same = first_same (arrow_then party (words m)) (arrow_then party (words k)) (message_lines (other party) ms) (message_lines (other party) ks ++ rest)
    (no_feed-row (tokens_of party m)) (no_feed-row (tokens_of party k)) (e ∙ append_assoc (token_line party k) (message_lines (other party) ks) rest) in
    let few : has_few_tokens k ≡ true = ap has_few_tokens (sym (tokens_one party party m k same.0).1) ∙ parts.0 in
    rw few (messages_few (other party) ms ks rest parts.1 same.1)

few_after : {text f x : List ℕ} (b : BeginsRight text f x) (ms : List (List Token)) → IsAfter b.p ms f → list_all has_few_tokens ms ≡ true
few_after b ms e = search (rules, messages_few)

-- they are known from the lines
pub after_same : {text f x g y : List ℕ} (b : BeginsRight text f x) (c : BeginsRight text g y) (ms ks : List (List Token)) → f ≡ g → IsAfter b.p ms f
    → IsAfter c.p ks g → ms ≡ ks
after_same b c ms ks e h k =
    (lines_same b.p.initiator b.p.responder c.p.initiator c.p.responder ms ks (few_after b ms h) (few_after c ks k) (sym h ∙ e ∙ k)).2

-- ---- kinds of a line at a message

-- the kinds of a line with the tokens of a message
abbrev pub IsMessageFault : {text : List ℕ} {number : ℕ} → IsWrongLine text number → TextFaultKind → Type 0
IsMessageFault w kind =
    ((kind ≡ kinds.Turn) × IsTurnFault w) ⊎ (((kind ≡ kinds.Limit) × IsLimitFault w) ⊎ ((kind ≡ kinds.PskPlace) × IsPskFault w))

-- both are the same line
abbrev pub AreSame : {text : List ℕ} {m n : ℕ} → IsWrongLine text m → IsWrongLine text n → Type 0
AreSame w v = (w.front ≡ v.front) × (wrong_line w ≡ wrong_line v)

swapped : {text : List ℕ} {m n : ℕ} (w : IsWrongLine text m) (v : IsWrongLine text n) → AreSame w v → AreSame v w
swapped w v s = (sym s.0, sym s.1)

turn_message : {text : List ℕ} {m n : ℕ} (w : IsWrongLine text m) (v : IsWrongLine text n) (ms : List (List Token)) (ts : List Token) → AreSame w v
    → IsTurnFault w → IsMessage v ms ts → ⊥
turn_message w v ms ts s (ks, us, at, are) message =
    let same : ks ≡ ms = after_same w.it v.it ks ms s.0 at message.0 in
    let party : turn_from Initiator (length ks + 1) ≡ turn_from Initiator (length ms) = search rules in
    next_turn (length ks) (ap (λ (k : List (List Token)). turn_from Initiator (length k)) same ∙ sym party)

limit_psk : {text : List ℕ} {m n : ℕ} (w : IsWrongLine text m) (v : IsWrongLine text n) → AreSame w v → IsLimitFault w → IsPskFault v → ⊥
limit_psk w v s (ks, us, it, beyond) (ms, ts, is, within) =
    let before : ks ≡ ms = after_same w.it v.it ks ms s.0 it.0 is.0 in
    let tokens : us ≡ ts = (tokens_one _ _ us ts (sym it.1.1 ∙ s.1 ∙ is.1.1)).1 in
    let same : is_within ks us ≡ is_within ms ts = both_same before tokens in
    let bad : false ≡ true = sym beyond ∙ same ∙ within in
    cc
  where
    both_same : {a b : List (List Token)} {c d : List Token} → a ≡ b → c ≡ d → is_within a c ≡ is_within b d
    both_same p q = rw (p, q) refl

messages : {text : List ℕ} {m n : ℕ} (w : IsWrongLine text m) (v : IsWrongLine text n) (k l : TextFaultKind) → AreSame w v → IsMessageFault w k
    → IsMessageFault v l → k ≡ l
messages w v k l s (inl (e, h)) (inl (f, i)) = e ∙ sym f
messages w v k l s (inl (e, h)) (inr (inl (f, (ms, ts, is, _)))) = absurd (turn_message w v ms ts s h is)
messages w v k l s (inl (e, h)) (inr (inr (f, (ms, ts, is, _)))) = absurd (turn_message w v ms ts s h is)
messages w v k l s (inr (inl (e, (ms, ts, is, _)))) (inl (f, i)) = absurd (turn_message v w ms ts (swapped w v s) i is)
messages w v k l s (inr (inr (e, (ms, ts, is, _)))) (inl (f, i)) = absurd (turn_message v w ms ts (swapped w v s) i is)
messages w v k l s (inr (inl (e, h))) (inr (inl (f, i))) = e ∙ sym f
messages w v k l s (inr (inl (e, h))) (inr (inr (f, i))) = absurd (limit_psk w v s h i)
messages w v k l s (inr (inr (e, h))) (inr (inl (f, i))) = absurd (limit_psk v w (swapped w v s) i h)
messages w v k l s (inr (inr (e, h))) (inr (inr (f, i))) = e ∙ sym f

-- ---- kinds of a line that is the line after the pre-messages, or has an arrow and tokens

abbrev IsListed : List ℕ → Type 0
IsListed line = (line ≡ dots) ⊎ ((party : Role) × (tokens : List Token) × IsTokens party tokens line)

record IsAtSome {text : List ℕ} {number : ℕ} (w : IsWrongLine text number) : Type 0 where
  before : List (List Token)
  at : IsAtMessage w before
  party : Role
  tokens : List Token
  are : IsTokens party tokens (wrong_line w)

at_some : {text : List ℕ} {n : ℕ} (w : IsWrongLine text n) (k : TextFaultKind) → IsMessageFault w k → IsAtSome w
at_some w k (inl (e, (ms, ts, at, are))) = record { before = ms; at = at; party = _; tokens = ts; are = are }
at_some w k (inr (inl (e, (ms, ts, is, _)))) = record { before = ms; at = is.0; party = _; tokens = ts; are = is.1 }
at_some w k (inr (inr (e, (ms, ts, is, _)))) = record { before = ms; at = is.0; party = _; tokens = ts; are = is.1 }

pre_message : {text : List ℕ} {m n : ℕ} (w : IsWrongLine text m) (v : IsWrongLine text n) → w.front ≡ v.front → w.left ≡ v.left → wrong_line w ≡ wrong_line v
    → IsPreMessageFault w → IsAtSome v → ⊥
pre_message w v e f g (inl h) i = not_dots i.party (words i.tokens) (sym h ∙ g ∙ i.are.1)
pre_message w v e f g (inr (h, _)) i = search (rules, not_ahead)

abbrev IsListedFault : {text : List ℕ} {number : ℕ} → IsWrongLine text number → TextFaultKind → Type 0
IsListedFault w kind = ((kind ≡ kinds.PreMessage) × IsPreMessageFault w) ⊎ IsMessageFault w kind

listed : {text : List ℕ} {n : ℕ} (w : IsWrongLine text n) (k : TextFaultKind) → IsListedFault w k → IsListed (wrong_line w)
listed w k (inl (e, (inl h))) = inl h
listed w k (inl (e, (inr (h, are)))) = inr are
listed w k (inr h) = let at = at_some w k h in inr (at.party, at.tokens, at.are)

listed_kinds : {text : List ℕ} {m n : ℕ} (w : IsWrongLine text m) (v : IsWrongLine text n) (k l : TextFaultKind) → w.front ≡ v.front → w.left ≡ v.left
    → wrong_line w ≡ wrong_line v → IsListedFault w k → IsListedFault v l → k ≡ l
listed_kinds w v k l e f g (inl (h, _)) (inl (i, _)) = h ∙ sym i
listed_kinds w v k l e f g (inl (h, fault)) (inr i) = absurd (pre_message w v e f g fault (at_some v l i))
listed_kinds w v k l e f g (inr h) (inl (i, fault)) = absurd (pre_message v w (sym e) (sym f) (sym g) fault (at_some w k h))
listed_kinds w v k l e f g (inr h) (inr i) = messages w v k l (e, g) h i

-- ---- kinds of any wrong line

token_listed : {text : List ℕ} {n : ℕ} (w : IsWrongLine text n) (line : List ℕ) → wrong_line w ≡ line → IsTokenFault w → IsListed line → ⊥
token_listed w line e (party, list, is, none) (inl h) = not_dots party list (sym h ∙ sym e ∙ is)
token_listed w line e (party, list, is, none) (inr (role, tokens, are)) = search rules

arrow_token : {text : List ℕ} {m n : ℕ} (w : IsWrongLine text m) (v : IsWrongLine text n) → wrong_line w ≡ wrong_line v → IsArrowFault w → IsTokenFault v → ⊥
arrow_token w v e h (party, list, is, none) = h.1 party list (e ∙ is)

arrow_listed : {text : List ℕ} {n : ℕ} (w : IsWrongLine text n) (line : List ℕ) → wrong_line w ≡ line → IsArrowFault w → IsListed line → ⊥
arrow_listed w line e h (inl i) = h.0 (e ∙ i)
arrow_listed w line e h (inr (party, tokens, are)) = h.1 party (words tokens) (e ∙ are.1)

abbrev pub IsWrongKind : {text : List ℕ} {number : ℕ} → IsWrongLine text number → TextFaultKind → Type 0
IsWrongKind w kind = ((kind ≡ kinds.Arrow) × IsArrowFault w) ⊎ (((kind ≡ kinds.Token) × IsTokenFault w) ⊎ IsListedFault w kind)

kinds_same : {text : List ℕ} {m n : ℕ} (w : IsWrongLine text m) (v : IsWrongLine text n) (k l : TextFaultKind) → w.front ≡ v.front → w.left ≡ v.left
    → wrong_line w ≡ wrong_line v → IsWrongKind w k → IsWrongKind v l → k ≡ l
kinds_same w v k l e f g (inl (h, _)) (inl (i, _)) = h ∙ sym i
kinds_same w v k l e f g (inl (h, a)) (inr (inl (i, t))) = absurd (arrow_token w v g a t)
kinds_same w v k l e f g (inl (h, a)) (inr (inr i)) = absurd (arrow_listed w (wrong_line v) g a (listed v l i))
kinds_same w v k l e f g (inr (inl (h, t))) (inl (i, a)) = absurd (arrow_token v w (sym g) a t)
kinds_same w v k l e f g (inr (inr h)) (inl (i, a)) = absurd (arrow_listed v (wrong_line w) (sym g) a (listed w k h))
kinds_same w v k l e f g (inr (inl (h, _))) (inr (inl (i, _))) = h ∙ sym i
kinds_same w v k l e f g (inr (inl (h, t))) (inr (inr i)) = absurd (token_listed w (wrong_line v) g t (listed v l i))
kinds_same w v k l e f g (inr (inr h)) (inr (inl (i, t))) = absurd (token_listed v (wrong_line w) (sym g) t (listed w k h))
kinds_same w v k l e f g (inr (inr h)) (inr (inr i)) = listed_kinds w v k l e f g h i

pub one_kind : {text : List ℕ} {m n : ℕ} (w : IsWrongLine text m) (v : IsWrongLine text n) (k l : TextFaultKind) → w.front ≡ v.front → w.left ≡ v.left
    → IsWrongKind w k → IsWrongKind v l → k ≡ l
one_kind w v k l e f h i = kinds_same w v k l e f (ap (λ (text : List ℕ). first_line text) f) h i
