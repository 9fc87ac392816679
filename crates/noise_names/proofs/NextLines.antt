-- The next line of a pattern's text after right lines.
use Rattle.std.proofs.Common.{rules, ◌≡◌, ◌≢◌, ◌⊎◌, ℕ, Bool, true, false, List, [], ◌∷◌, ◌++◌, refl, ap, sym, ◌∙◌, length, inl, inr, ◌↔◌, IsTrue}
use Rattle.noise_names.proofs.Common.{Role, Initiator, Token, AreRightLines, RightLines, right_lines, IsPattern, is_pre_message, Plan, line, pre_lines, other, turn_from, body_of, cons-same}
use Rattle.noise_names.proofs.Rows.{IsNextRow, Row, content, ending, is_row, lines_of, next_row, tokens_of}
use Rattle.noise_names.proofs.PatternRows.{all_lines, all_right, all_rows, first_lines, first_right, first_rows, message_rows}
use Rattle.noise_names.proofs.Lines.{no_feed}

-- the row after those of some messages is the next message
pub record IsNextMessage (party : Role) (before messages : List (List Token)) (row : Row) : Type 0 where
  pub message : List Token
  pub more : List (List Token)
  pub messages_are : messages ≡ before ++ message ∷ more
  pub row_is : row ≡ tokens_of (turn_from party (length before)) message

next_message : (party : Role) (before messages : List (List Token)) (row : Row) (more : List Row)
    → message_rows party messages ≡ message_rows party before ++ row ∷ more → IsNextMessage party before messages row
next_message party [] [] row more e = absurd (cc)
next_message party [] (k ∷ ks) row more e = record { message = k; more = ks; messages_are = refl; row_is = cc }
next_message party (m ∷ ms) [] row more e = absurd (cc)
next_message party (m ∷ ms) (k ∷ ks) row more e =
    let first : k ≡ m = cc in
    let rest : message_rows (other party) ks ≡ message_rows (other party) ms ++ row ∷ more = cc in
    let next : IsNextMessage (other party) ms ks row = next_message (other party) ms ks row more rest in
    record {
      message = next.message;
      more = next.more;
      messages_are = cons-same {ys = ms ++ next.message ∷ next.more} first next.messages_are;
      row_is = next.row_is;
    }

-- The row after those of some pre-messages, where the line after the pre-messages is ahead: that line, after one pre-message at least, or the
-- pre-message of a party of which there was none.
abbrev pub IsNextPre : List Token → List Token → Row → Type 0
IsNextPre i r row =
    ((row ≡ ending) × (i ≡ [] → r ≡ [] → ⊥))
    ⊎ ((party : Role) × (tokens : List Token) × (row ≡ tokens_of party tokens) × (is_pre_message tokens ≡ true) × (r ≡ []) × (party ≡ Initiator → i ≡ []))

-- the next line of a right text after right lines
pub record IsNextLine (s : RightLines) (q : Plan) (reported : List ℕ) : Type 0 where
  pub row : Row
  pub right : is_row row ≡ true
  pub reported_is : reported ≡ content row
  pub message : s.ahead ≡ false → IsNextMessage Initiator s.messages q.messages row
  pub pre_message : s.ahead ≡ true → IsNextPre s.initiator s.responder row

-- a right text begins with these lines
pub record IsBegun (places : List ℕ) (dotted : Bool) (s : RightLines) (reported rest : List ℕ) (q : Plan) : Type 0 where
  pub passed : AreRightLines places dotted s
  pub feedless : no_feed reported ≡ true
  pub right : IsPattern q
  pub places_are : q.places ≡ places
  pub form : pre_lines q.initiator q.responder ≢ [] ↔ IsTrue dotted
  pub begins : body_of q ≡ right_lines s ++ (line reported ++ rest)

at_messages : (places : List ℕ) (dotted : Bool) (s : RightLines) (reported rest : List ℕ) (q : Plan) → IsBegun places dotted s reported rest q → s.ahead ≡ false
    → IsNextLine s q reported
at_messages places dotted s reported rest q b none_ahead =
    let before : List Row = all_rows s.initiator s.responder s.messages in
    let rows : List Row = all_rows q.initiator q.responder q.messages in
    let lines : right_lines s ≡ lines_of before = rw none_ahead (sym (all_lines s.initiator s.responder s.messages)) in
    let begun : lines_of rows ≡ lines_of before ++ (line reported ++ rest) = search (rules, all_lines) in
    let next : IsNextRow reported before rows = search (next_row, all_right) in
    let there : pre_lines s.initiator s.responder ≢ [] → pre_lines q.initiator q.responder ≢ [] = λ f. b.form.1 (b.passed.form.1 (inr f)) in
    let back : pre_lines q.initiator q.responder ≢ [] → pre_lines s.initiator s.responder ≢ [] = λ f. not_ahead (b.passed.form.0 (b.form.0 f)) in
    let messages : message_rows Initiator q.messages ≡ message_rows Initiator s.messages ++ next.row ∷ next.more = search rules in
    record {
      row = next.row;
      right = next.right;
      reported_is = next.reported_is;
      message = λ f. next_message Initiator s.messages q.messages next.row next.more messages;
      pre_message = λ f. absurd (let bad : false ≡ true = sym none_ahead ∙ f in cc);
    }
  where
    not_ahead : (s.ahead ≡ true) ⊎ (pre_lines s.initiator s.responder ≢ []) → pre_lines s.initiator s.responder ≢ []
    not_ahead (inl f) = absurd (let bad : false ≡ true = sym none_ahead ∙ f in cc)
    not_ahead (inr f) = f

at_pre_messages : (places : List ℕ) (dotted : Bool) (s : RightLines) (reported rest : List ℕ) (q : Plan) → IsBegun places dotted s reported rest q → s.ahead ≡ true
    → IsNextLine s q reported
at_pre_messages places dotted s reported rest q b ahead =
    let before : List Row = first_rows s.initiator s.responder in
    let rows : List Row = all_rows q.initiator q.responder q.messages in
    let lines : right_lines s ≡ lines_of before = rw ahead (sym (first_lines s.initiator s.responder)) in
    let begun : lines_of rows ≡ lines_of before ++ (line reported ++ rest) =
    all_lines q.initiator q.responder q.messages ∙ b.begins ∙ ap (λ (text : List ℕ). text ++ (line reported ++ rest)) lines in
    let next : IsNextRow reported before rows = search (next_row, first_right, all_right) in
    record {
      row = next.row;
      right = next.right;
      reported_is = next.reported_is;
      message = λ f. absurd (let bad : false ≡ true = sym f ∙ ahead in cc);
      pre_message = search rules;
    }

pub next_line : (places : List ℕ) (dotted : Bool) (s : RightLines) (reported rest : List ℕ) (q : Plan) → IsBegun places dotted s reported rest q → IsNextLine s q reported
next_line places dotted s reported rest q b = at s.ahead refl where
  at : (ahead : Bool) → s.ahead ≡ ahead → IsNextLine s q reported
  at true h = at_pre_messages places dotted s reported rest q b h
  at false h = at_messages places dotted s reported rest q b h
