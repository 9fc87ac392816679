-- What is mixed in and what is said by one message more, and by the front of one.
use Rattle.std.proofs.Common.{◌≡◌, ◌∙◌, ◌+◌, ◌++◌, ℕ, List, [], add-one, ap, ap₂, append_assoc, sym, take, length, min}
use Rattle.std.specs.Prelude.{Err, Ok, OnOk, Result, fold, slice_get, slice_index_or, unwrap_or}
use Rattle.std.proofs.lemmas.List.{take_min}
use Rattle.noise_names.specs.declared.token.Token.{Token}
use Rattle.noise_names.specs.declared.token.Token.TheVariants.{E}
use Rattle.noise_names.specs.Pieces.{tokens_of}
use Rattle.noise_names.specs.Plan.{Plan}
use Rattle.noise_explain.specs.Facts.{token_text, tokens_text}
use Rattle.noise_explain.specs.MixedKeys.{add_token, mixed_after, mixed_before, tokens_after}
use Rattle.noise_explain.specs.declared.mixed.Mixed.{Mixed}

pub mixed-more : (p : Plan) (k : ℕ) (m r : Mixed) (ts : List Token) (ms : List (List Token)) → m ≡ mixed_after p k → ms ≡ p.messages
    → ts ≡ unwrap_or (slice_get ms k) [] → r ≡ fold add_token m ts → r ≡ mixed_after p (k + 1)
mixed-more p k m r ts ms mixed same here is =
    is
    ∙ ap₂ (λ (a : Mixed) (b : List Token). fold add_token a b) mixed
    (here ∙ ap (λ (it : List (List Token)). unwrap_or (slice_get it k) []) same)
    ∙ sym (ap (mixed_after p) (add-one k))

pub mixed-front : (p : Plan) (k n i c : ℕ) (m r : Mixed) (ts front : List Token) (ms : List (List Token)) → k ≡ n → m ≡ mixed_after p k
    → ms ≡ p.messages → ts ≡ unwrap_or (slice_get ms n) [] → c ≡ min i (length ts) → front ≡ take c ts → r ≡ fold add_token m front
    → r ≡ mixed_before p n i
mixed-front p k n i c m r ts front ms at mixed same here count front_is is =
    let tokens : ts ≡ tokens_after p n = here ∙ ap (λ (it : List (List Token)). unwrap_or (slice_get it n) []) same in
    let taken : front ≡ take i (tokens_after p n) =
    front_is ∙ ap (λ (it : ℕ). take it ts) count ∙ take_min i ts ∙ ap (λ (it : List Token). take i it) tokens in
    is ∙ ap₂ (λ (a : Mixed) (b : List Token). fold add_token a b) (mixed ∙ ap (mixed_after p) at) taken

-- after three texts have been appended
pub three-texts : {T F : Type 0} (r : Result T F) (new b a old x y z y2 z2 : List ℕ) → a ≡ old ++ x → b ≡ a ++ y → y ≡ y2 → z ≡ z2
    → OnOk r (new ≡ b ++ z) → OnOk r (new ≡ old ++ (x ++ (y2 ++ z2)))
three-texts (Ok v) new b a old x y z y2 z2 first second same last h =
    h
    ∙ ap (λ (t : List ℕ). t ++ z) (second ∙ ap (λ (t : List ℕ). t ++ y) first)
    ∙ append_assoc (old ++ x) y z
    ∙ append_assoc old x (y ++ z)
    ∙ ap₂ (λ (u w : List ℕ). old ++ (x ++ (u ++ w))) same last
three-texts (Err e) new b a old x y z y2 z2 first second same last h = tt

-- the tokens' texts with one more
pub token-step : (p : Plan) (n i j : ℕ) (t : Token) (ts : List Token) (new text old : List ℕ) → ts ≡ tokens_of p n → j ≡ i
    → t ≡ slice_index_or ts i E → text ≡ old ++ tokens_text p n i → new ≡ text ++ token_text p n j t → new ≡ old ++ tokens_text p n (i + 1)
unfolding tokens_text
token-step p n i j t ts new text old same at key inv is =
    is ∙ ap₂ (λ (a b : List ℕ). a ++ b) inv (ap₂ (token_text p n) at (key ∙ ap (λ (us : List Token). slice_index_or us i E) same))
    ∙ append_assoc old (tokens_text p n i) (token_text p n i (slice_index_or (tokens_of p n) i E))
    ∙ ap (λ (k : ℕ). old ++ tokens_text p n k) (sym (add-one i))
