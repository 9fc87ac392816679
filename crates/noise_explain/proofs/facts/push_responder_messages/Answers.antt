use Rattle.std.proofs.Common.{◌≡◌, ◌∙◌, ◌++◌, Bool, List, ap, append_assoc, false, length, sym, ℕ}
use Rattle.std.specs.Prelude.{Err, Ok, OnOk, Result, codes}
use Rattle.noise_names.specs.Plan.{Plan}
use Rattle.noise_names.specs.declared.token.Role.TheVariants.{Responder}
use Rattle.noise_names.specs.declared.token.Token.{Token}
use Rattle.noise_explain.specs.Facts.{responder_messages_text, tagged_text}
use Rattle.noise_explain.proofs.facts.push_responder_messages.Goals as goal

-- after one text has been appended
two-texts : {T F : Type 0} (r : Result T F) (new a old x y whole : List ℕ) → a ≡ old ++ x → whole ≡ x ++ y → OnOk r (new ≡ a ++ y)
    → OnOk r (new ≡ old ++ whole)
two-texts (Ok v) new a old x y whole first is h =
    h ∙ ap (λ (t : List ℕ). t ++ y) first ∙ append_assoc old x y ∙ ap (λ (t : List ℕ). old ++ t) (sym is)
two-texts (Err e) new a old x y whole first is h = tt

-- of a pattern that isn't one-way
answers-are : (p q : Plan) (one_way : Bool) (ms : List (List Token)) → one_way ≡ false → ms ≡ q.messages → q ≡ p
    → responder_messages_text one_way p ≡ codes "    the responder's can be written by " ++ tagged_text p Responder (length ms)
unfolding responder_messages_text
answers-are p q one_way ms both same is =
    ap (λ (b : Bool). responder_messages_text b p) both
    ∙ ap (λ (l : List (List Token)). codes "    the responder's can be written by " ++ tagged_text p Responder (length l))
    (sym (same ∙ ap (λ (r : Plan). r.messages) is))

pub returns-in_ok-push : goal.returns-in_ok-push
returns-in_ok-push c =
    two-texts c.push_tagged.result _ _ _ _ _ _ c.in_ok-push.ensures
    (answers-are c.args.pattern.now c.pattern.result.now c.args.one_way c.messages-count.result.now c.if-one_way.false c.messages-count.ensures.value
    c.pattern.ensures.value) c.push_tagged.ensures
