-- A text has one fault at most.
use Rattle.std.proofs.Common.{rules, ◌≡◌, ◌≢◌, ◌↔◌, ◌⊎◌, inl, inr, ℕ, ◌+◌, true, false, not, eqb, leb, List, [], ◌∷◌, ◌++◌, refl, ap, sym, ◌∙◌, subst, append_assoc, append-nil, length}
use Rattle.std.specs.Prelude.{◌&&◌, IsTrue}
use Rattle.noise_names.proofs.Common.{list_all, TextFaultKind, Token, IsPattern, Section, Plan, line, pre_lines, BeginsRight, EndsInHeading, HasNoHeading, HasPlaceBeyond, HasTakenName, IsCutShort, IsEnded, IsTextFault, IsTextFaultAt, IsWrongLine, body_of, has_dots, line_feeds, and-false}
use Rattle.noise_names.specs.declared.faults.TextFault.{TextFault}
use Rattle.noise_names.proofs.DotsLine.{dots_form}
use Rattle.noise_names.proofs.OneDivision.{cut_cut, cut_whole, same_body, wrong_cut, wrong_lines, wrong_whole}
use Rattle.noise_names.proofs.OneText.{heading_all}
use Rattle.noise_names.proofs.Rows.{Row, content, lines_of}
use Rattle.noise_names.proofs.WrongKinds.{IsWrongKind, after_same, one_kind}
use Rattle.noise_names.proofs.PatternRows.{all_lines, all_rows}
use Rattle.noise_names.proofs.Lines.{no_feed}
use Rattle.noise_names.specs.declared.faults.TextFaultKind.TheVariants as kinds

-- ---- a text of a taken name has right lines

ended_both : (a b : List ℕ) → IsEnded a → IsEnded b → IsEnded (a ++ b)
ended_both a b h (inl e) = subst (λ (v : List ℕ). IsEnded v) (sym (ap (λ (v : List ℕ). a ++ v) e ∙ append-nil a)) h
ended_both a b h (inr (front, e)) = inr (a ++ front, ap (λ (v : List ℕ). a ++ v) e ∙ sym (append_assoc a front (10 ∷ [])))

ended_rows : (rows : List Row) → IsEnded (lines_of rows)
ended_rows [] = inl refl
ended_rows (r ∷ rs) = ended_both (line (content r)) (lines_of rs) (inr (content r, refl)) (ended_rows rs)

ended_body : (p : Plan) → IsEnded (body_of p)
ended_body p =
    subst (λ (v : List ℕ). IsEnded v) (all_lines p.initiator p.responder p.messages) (ended_rows (all_rows p.initiator p.responder p.messages))

taken_begins : {text : List ℕ} (t : HasTakenName text) → BeginsRight text (body_of t.0) []
taken_begins (p, base, h, own, is_base, e) = record {
  heading = heading;
  is_section = record { base = is_base; places = h.places };
  text_is = search (rules, append_assoc);
  ended = ended_body p;
  p = p;
  like = record {
    is_pattern = h;
    own_name = own;
    places_are = refl;
    pre_messages = (λ some. ap has_dots whole ∙ form.0 some, λ d. form.1 (sym (ap has_dots whole) ∙ d));
  };
  begun = ([], sym whole);
} where
  heading : Section
  heading = record { base = base; places = p.places }

  whole : body_of p ++ [] ≡ body_of p
  whole = append-nil (body_of p)

  form : pre_lines p.initiator p.responder ≢ [] ↔ IsTrue (has_dots (body_of p))
  form = dots_form p.initiator p.responder p.messages

-- it has a message
some_message : (p : Plan) → IsPattern p → p.messages ≡ [] → ⊥
some_message p h e = at p.messages h.count e where
  at : (ms : List (List Token)) → leb 1 (length ms) && leb (length ms) 8 ≡ true → ms ≡ [] → ⊥
  at [] f g = let bad : false ≡ true = f in cc
  at (m ∷ ms) f g = cc

-- ---- faults of all lines

abbrev IsWholeFault : List ℕ → TextFaultKind → Type 0
IsWholeFault text kind = ((kind ≡ kinds.PskPlace) × HasPlaceBeyond text) ⊎ ((kind ≡ kinds.NameTaken) × HasTakenName text)

whole_begins : (text : List ℕ) (k : TextFaultKind) → IsWholeFault text k → (body : List ℕ) × BeginsRight text body []
whole_begins text k (inl (e, h)) = (h.body, h.it)
whole_begins text k (inr (e, h)) = (body_of h.0, taken_begins h)

-- no place of a right pattern is beyond its messages
beyond_taken : {text : List ℕ} → HasPlaceBeyond text → HasTakenName text → ⊥
unfolding taken_begins
beyond_taken {text = text} h t = apart (sym range ∙ h.beyond) where
  right : BeginsRight text (body_of t.0) []
  right = taken_begins t

  same : (h.it.heading ≡ right.heading) × (h.body ++ [] ≡ body_of t.0 ++ [])
  same = same_body h.it right

  bodies : h.body ≡ body_of t.0
  bodies = sym (append-nil h.body) ∙ same.1 ∙ append-nil (body_of t.0)

  messages : h.messages ≡ t.0.messages
  messages = after_same h.it right h.messages t.0.messages bodies h.are refl

  both_same : {ps qs : List ℕ} {ms ks : List (List Token)} → ps ≡ qs → ms ≡ ks
      → list_all (λ n. leb n (length ms)) ps ≡ list_all (λ n. leb n (length ks)) qs
  both_same p q = rw (p, q) refl

  range : list_all (λ n. leb n (length h.messages)) h.it.heading.places ≡ true
  range = both_same (ap (λ (s : Section). s.places) same.0) messages ∙ t.2.psks.in_range

  apart : true ≡ false → ⊥
  apart e = cc

wholes : (text : List ℕ) (k l : TextFaultKind) → IsWholeFault text k → IsWholeFault text l → k ≡ l
wholes text k l (inl (e, h)) (inl (f, i)) = e ∙ sym f
wholes text k l (inl (e, h)) (inr (f, i)) = absurd (beyond_taken h i)
wholes text k l (inr (e, h)) (inl (f, i)) = absurd (beyond_taken i h)
wholes text k l (inr (e, h)) (inr (f, i)) = e ∙ sym f

-- such a text has a message
cut_whole_fault : {text : List ℕ} {n : ℕ} (k : TextFaultKind) → IsCutShort text n → IsWholeFault text k → ⊥
unfolding taken_begins
cut_whole_fault k c (inl (e, h)) =
    let same = cut_whole c h.it in
    h.some (after_same h.it c.it h.messages [] same.0 h.are same.1)
cut_whole_fault k c (inr (e, t)) =
    let same = cut_whole c (taken_begins t) in
    some_message t.0 t.2 (after_same (taken_begins t) c.it t.0.messages [] same.0 refl same.1)

-- ---- faults after the heading

abbrev IsLaterFault : List ℕ → ℕ → TextFaultKind → Type 0
IsLaterFault text number kind =
    ((w : IsWrongLine text number) × IsWrongKind w kind)
    ⊎ (((kind ≡ kinds.Ending) × IsCutShort text number) ⊎ ((number ≡ 1) × IsWholeFault text kind))

later_begins : (text : List ℕ) (n : ℕ) (k : TextFaultKind) → IsLaterFault text n k → (front : List ℕ) × (left : List ℕ) × BeginsRight text front left
later_begins text n k (inl (w, h)) = (w.front, w.left, w.it)
later_begins text n k (inr (inl (e, c))) = (c.front, c.left, c.it)
later_begins text n k (inr (inr (e, h))) = let begins = whole_begins text k h in (begins.0, [], begins.1)

-- the number of a line from the lines before it
one_number : (m n : ℕ) (f g : List ℕ) → m ≡ line_feeds f + 2 → n ≡ line_feeds g + 2 → f ≡ g → m ≡ n
one_number m n f g h k e = h ∙ ap (λ (v : List ℕ). line_feeds v + 2) e ∙ sym k

later_same : (text : List ℕ) (m n : ℕ) (k l : TextFaultKind) → IsLaterFault text m k → IsLaterFault text n l → (m ≡ n) × (k ≡ l)
later_same text m n k l (inl (w, h)) (inl (v, i)) =
    let same = wrong_lines w v in
    (one_number m n w.front v.front w.counted v.counted same.0, one_kind w v k l same.0 same.1 h i)
later_same text m n k l (inl (w, h)) (inr (inl (e, c))) = absurd (wrong_cut w c)
later_same text m n k l (inl (w, h)) (inr (inr (e, i))) = absurd (wrong_whole w (whole_begins text l i).1)
later_same text m n k l (inr (inl (e, c))) (inl (v, i)) = absurd (wrong_cut v c)
later_same text m n k l (inr (inr (e, h))) (inl (v, i)) = absurd (wrong_whole v (whole_begins text k h).1)
later_same text m n k l (inr (inl (e, c))) (inr (inl (f, d))) =
    (one_number m n c.front d.front c.counted d.counted (cut_cut c d).0, e ∙ sym f)
later_same text m n k l (inr (inl (e, c))) (inr (inr (f, i))) = absurd (cut_whole_fault l c i)
later_same text m n k l (inr (inr (e, h))) (inr (inl (f, d))) = absurd (cut_whole_fault k d h)
later_same text m n k l (inr (inr (e, h))) (inr (inr (f, i))) = (e ∙ sym f, wholes text k l h i)

-- ---- all faults

abbrev IsAnyFault : List ℕ → ℕ → TextFaultKind → Type 0
IsAnyFault text number kind =
    ((number ≡ 1) × (kind ≡ kinds.Heading) × HasNoHeading text)
    ⊎ (((number ≡ 1) × (kind ≡ kinds.Ending) × EndsInHeading text) ⊎ IsLaterFault text number kind)

-- a heading without line feed
has_feed : (a x : List ℕ) → no_feed (line a ++ x) ≡ false
has_feed [] x = refl
has_feed (b ∷ a) x = rw (has_feed a x) (and-false (not (eqb b 10)))

end_later : (text : List ℕ) (n : ℕ) (k : TextFaultKind) → EndsInHeading text → IsLaterFault text n k → ⊥
end_later text n k (s, h, e) later =
    let begins = later_begins text n k later in
    let it : BeginsRight text begins.0 begins.1 = begins.2 in
    let none : no_feed text ≡ true = ap (λ (v : List ℕ). no_feed v) e ∙ heading_all s h in
    let some : no_feed text ≡ false = search (rules, has_feed) in
    let bad : true ≡ false = sym none ∙ some in
    cc

none_end : (text : List ℕ) → HasNoHeading text → EndsInHeading text → ⊥
none_end text none (s, h, e) = (none s h).0 e

none_later : (text : List ℕ) (n : ℕ) (k : TextFaultKind) → HasNoHeading text → IsLaterFault text n k → ⊥
none_later text n k none later =
    let begins = later_begins text n k later in
    let it : BeginsRight text begins.0 begins.1 = begins.2 in
    (none it.heading it.is_section).1 (begins.0 ++ begins.1) it.text_is

any_same : (text : List ℕ) (m n : ℕ) (k l : TextFaultKind) → IsAnyFault text m k → IsAnyFault text n l → (m ≡ n) × (k ≡ l)
any_same text m n k l (inl (e, f, h)) (inl (g, i, j)) = (e ∙ sym g, f ∙ sym i)
any_same text m n k l (inl (e, f, h)) (inr (inl (g, i, j))) = absurd (none_end text h j)
any_same text m n k l (inl (e, f, h)) (inr (inr j)) = absurd (none_later text n l h j)
any_same text m n k l (inr (inl (e, f, h))) (inl (g, i, j)) = absurd (none_end text j h)
any_same text m n k l (inr (inr h)) (inl (g, i, j)) = absurd (none_later text m k j h)
any_same text m n k l (inr (inl (e, f, h))) (inr (inl (g, i, j))) = (e ∙ sym g, f ∙ sym i)
any_same text m n k l (inr (inl (e, f, h))) (inr (inr j)) = absurd (end_later text n l h j)
any_same text m n k l (inr (inr h)) (inr (inl (g, i, j))) = absurd (end_later text m k j h)
any_same text m n k l (inr (inr h)) (inr (inr j)) = later_same text m n k l h j

any_fault : (text : List ℕ) (n : ℕ) (k : TextFaultKind) → IsTextFaultAt text n k → IsAnyFault text n k
any_fault text n kinds.Heading h = inl (h.0, refl, h.1)
any_fault text n kinds.Arrow h = inr (inr (inl (h.0, inl (refl, h.1))))
any_fault text n kinds.Token h = inr (inr (inl (h.0, inr (inl (refl, h.1)))))
any_fault text n kinds.PreMessage h = inr (inr (inl (h.0, inr (inr (inl (refl, h.1))))))
any_fault text n kinds.Turn h = inr (inr (inl (h.0, inr (inr (inr (inl (refl, h.1)))))))
any_fault text n kinds.Limit h = inr (inr (inl (h.0, inr (inr (inr (inr (inl (refl, h.1))))))))
any_fault text n kinds.PskPlace (inl h) = inr (inr (inl (h.0, inr (inr (inr (inr (inr (refl, h.1))))))))
any_fault text n kinds.PskPlace (inr h) = inr (inr (inr (inr (h.0, inl (refl, h.1)))))
any_fault text n kinds.NameTaken h = inr (inr (inr (inr (h.0, inr (refl, h.1)))))
any_fault text n kinds.Ending (inl h) = inr (inl (h.0, refl, h.1))
any_fault text n kinds.Ending (inr h) = inr (inr (inr (inl (refl, h))))

abbrev fault : ℕ → TextFaultKind → TextFault
fault number kind = record { line = number; kind = kind }

fault_same : (m n : ℕ) (k l : TextFaultKind) → m ≡ n → k ≡ l → fault m k ≡ fault n l
fault_same m n k l p q = cc

pub one_fault : (text : List ℕ) (f g : TextFault) → IsTextFault text f → IsTextFault text g → f ≡ g
one_fault text f g h k =
    let same = any_same text f.line g.line f.kind g.kind (any_fault text f.line f.kind h) (any_fault text g.line g.kind k) in
    fault_same f.line g.line f.kind g.kind same.0 same.1
